-- "A naming mode in which a suffix that yields a name in the table's same space, or one printed before in it, is passed over and the next
-- number taken." The writers of rules/specs are over any way of keeping names; this is one more, beside that of the Rust
-- (crates/spec_c_dumper/specs/rules/Names: naming).
use Rattle.std.specs.Prelude.{ℕ, zero, suc, Bool, true, false, List, [], ◌∷◌, ◌++◌, length, get_or, set, eqb}
use Rattle.spec_bytes.specs.words.Words.{one_more}
use Rattle.spec_c_dumper.specs.rules.Machine.{Sess, Req, run}
use Rattle.spec_c_dumper.specs.rules.Types.{Name, Enumerator, BtfType, Void, Int, Ptr, Array, Composite, Enum, Enum64, Fwd, Typedef}
use Rattle.spec_c_dumper.specs.rules.Types.{Mod, Func, Var, Datasec, FuncProto, Float, DeclTag, TypeTag, Btf, table_of}
use Rattle.spec_c_dumper.specs.rules.Names.{Space, tag_space, ident_space, Resolved, Naming, Names, spelled, same_space, same_bytes}
use Rattle.spec_c_dumper.specs.rules.Names.{holders, with_one}
use Rattle.spec_c_dumper.specs.needs.Lists.{Ls}
use Rattle.spec_c_dumper.specs.needs.Session.{Known, Dump, machine_by, opened_by, dumped, no_names}

-- ---- the names of the table, by their space

-- composites, enums and forwards: tags
abbrev pub tags_in : BtfType → List Name
tags_in Void = []
tags_in (Int n b) = []
tags_in (Ptr t) = []
tags_in (Array t k) = []
tags_in (Composite s n z ms) = n ∷ []
tags_in (Enum s n z vs) = n ∷ []
tags_in (Enum64 s n z vs) = n ∷ []
tags_in (Fwd u n) = n ∷ []
tags_in (Typedef n t) = []
tags_in (Mod q t) = []
tags_in (Func n) = []
tags_in (Var n) = []
tags_in (Datasec n) = []
tags_in (FuncProto r ps) = []
tags_in (Float n z) = []
tags_in (DeclTag a n t k) = []
tags_in (TypeTag a n t) = []

abbrev pub value_names : List Enumerator → List Name
value_names [] = []
value_names (v ∷ vs) = v.name ∷ value_names vs

-- typedefs and enumerators: identifiers
abbrev pub idents_in : BtfType → List Name
idents_in Void = []
idents_in (Int n b) = []
idents_in (Ptr t) = []
idents_in (Array t k) = []
idents_in (Composite s n z ms) = []
idents_in (Enum s n z vs) = value_names vs
idents_in (Enum64 s n z vs) = value_names vs
idents_in (Fwd u n) = []
idents_in (Typedef n t) = n ∷ []
idents_in (Mod q t) = []
idents_in (Func n) = []
idents_in (Var n) = []
idents_in (Datasec n) = []
idents_in (FuncProto r ps) = []
idents_in (Float n z) = []
idents_in (DeclTag a n t k) = []
idents_in (TypeTag a n t) = []

abbrev pub names_in : Space → BtfType → List Name
names_in tag_space t = tags_in t
names_in ident_space t = idents_in t

-- of the types below k
unfoldable pub names_to : Btf → Space → ℕ → List Name
names_to B space zero = []
names_to B space (suc k) = names_in space (B.type_by_id k) ++ names_to B space k

abbrev pub table_names : Btf → Space → List Name
table_names B space = names_to B space B.type_cnt

-- ---- the names that were printed

-- whose name it is: of a type, or of a value of an enum
pub data Who : Type 0 where
  of_type : ℕ → Who
  of_value : ℕ → ℕ → Who

-- a name as it was printed
pub record Shown : Type 0 where
  pub space : Space
  pub who : Who
  pub spelling : Name

-- the names as the Rust keeps them, and all that were printed, the last one first
pub record Apart : Type 0 where
  pub names : Names
  pub printed : List Shown

unfoldable pub spellings_in : Space → List Shown → List Name
spellings_in space [] = []
spellings_in space (p ∷ ps) = elim (same_space p.space space) [ true ↦ p.spelling ∷ spellings_in space ps | false ↦ spellings_in space ps ]

-- ---- the number that a name gets

unfoldable pub is_name_among : Name → List Name → Bool
is_name_among x [] = false
is_name_among x (y ∷ l) = elim (same_bytes x y) [ true ↦ true | false ↦ is_name_among x l ]

-- "a name in the table's same space, or one printed before in it"
abbrev pub taken : Btf → Space → Apart → List Name
taken B space u = table_names B space ++ spellings_in space u.printed

-- "is passed over and the next number taken": at most so many times; numbers have 32 bits, and the largest stays
unfoldable pub passing : (ℕ → Bool) → ℕ → ℕ → ℕ
passing t zero n = n
passing t (suc most) n = elim (t n) [ true ↦ passing t most (one_more n) | false ↦ n ]

-- the first holder is bare; each later one starts after the holders there are
unfoldable pub number_for : Btf → Space → Name → Apart → ℕ
number_for B space name u =
    elim (eqb (holders u.names.ledger space name) 0) [
      | true ↦ 1
      | false ↦ passing (λ n. is_name_among (spelled name n) (taken B space u)) (length (taken B space u))
          (one_more (holders u.names.ledger space name))
    ]

abbrev pub shown : Space → Who → Name → ℕ → Apart → List Shown
shown space who name n u = record { space = space; who = who; spelling = spelled name n } ∷ u.printed

-- a type that has a number keeps it
unfoldable pub type_apart : Btf → Space → ℕ → Name → Apart → Resolved Apart
type_apart B space id name u =
    elim (eqb (get_or u.names.versions id 0) 0) [
      | false ↦ record {
        passes = false;
        version = get_or u.names.versions id 0;
        names = record { names = u.names; printed = shown space (of_type id) name (get_or u.names.versions id 0) u };
      }
      | true ↦ record {
        passes = false;
        version = number_for B space name u;
        names = record {
          names =
              record { versions = set u.names.versions id (number_for B space name u); ledger = with_one u.names.ledger space name };
          printed = shown space (of_type id) name (number_for B space name u) u;
        };
      }
    ]

-- an enumerator is one more holder each time it is printed
unfoldable pub value_apart : Btf → ℕ → ℕ → Name → Apart → Resolved Apart
value_apart B id i name u = record {
  passes = false;
  version = number_for B ident_space name u;
  names = record {
    names = record { versions = u.names.versions; ledger = with_one u.names.ledger ident_space name };
    printed = shown ident_space (of_value id i) name (number_for B ident_space name u) u;
  };
}

abbrev pub apart : Btf → Naming Apart
apart B = record { type_version = type_apart B; value_version = value_apart B; leaving = λ held u. u }

-- ---- the rules' sessions with it

-- no type has a number, no name a holder, nothing is printed
abbrev pub none_shown : Btf → Apart
none_shown B = record { names = no_names B; printed = [] }

abbrev pub dump_apart : Btf → List Req → Dump
dump_apart B rs = dumped (apart B) B [] rs (opened_by (apart B) B (none_shown B))

-- the session after a list of requests
abbrev pub after_all : Btf → List Req → Sess (Ls (Known Apart))
after_all B rs = run (machine_by (apart B) B) (table_of B) rs (opened_by (apart B) B (none_shown B))

-- the names in its text: those of the accepted requests
abbrev pub names_after : Btf → List Req → Apart
names_after B rs = (after_all B rs).mach.known.names
