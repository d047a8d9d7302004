-- Unique names, spelled names, escapes, the builtin test.
use Rattle.std.specs.Prelude.{ℕ, Bool, true, false, List, [], ◌∷◌, ◌++◌, get_or, set, ltb, eqb}
use Rattle.spec_bytes.specs.words.Words.{one_more}
use Rattle.spec_bytes.specs.text.Text.{ascii}
use Rattle.spec_bytes.specs.text.Decimal.{decimal}
use Rattle.spec_c_dumper.specs.rules.Types.{Name, is_empty}
use Rattle.spec_c_dumper.specs.rules.Writer.{Writer, stop, reserve_passed}

-- NamedKind: tags (struct, union, enum) are one space, typedefs and enumerators the other
pub data Space : Type 0 where
  tag_space ident_space : Space

-- name, or name___version from the second holder on
unfoldable pub spelled : Name → ℕ → Name
spelled name version = elim (ltb version 2) [ true ↦ name | false ↦ name ++ ascii "___" ++ decimal version ]

-- the version that a name was given, and the names after that; or, where it passes what the session may take, neither
pub record Resolved (U : Type 0) : Type 0 where
  pub passes : Bool
  pub version : ℕ
  pub names : U

-- What keeps the names: the version of type id's name, which is not empty; that of value k of enum id; and what a refused request leaves of
-- the names that it found, where these were held at its refusal.
pub record Naming (U : Type 0) : Type 0 where
  pub type_version : Space → ℕ → Name → U → Resolved U
  pub value_version : ℕ → ℕ → Name → U → Resolved U
  pub leaving : U → U → U

module _ {U : Type 0} where
  -- what is written with the version that a name gets; "20 when a new name passes the session's own reserve"
  unfoldable pub resolving : (U → Resolved U) → (ℕ → Writer U) → Writer U
  resolving f k u = elim (f u).passes [ true ↦ stop reserve_passed u | false ↦ k (f u).version (f u).names ]

  module _ (N : Naming U) where
    -- resolve_type_name, and what is written with the name
    unfoldable pub resolve_type_name : Space → ℕ → Name → (Name → Writer U) → Writer U
    resolve_type_name space id name k =
        elim (is_empty name) [ true ↦ k name | false ↦ resolving (N.type_version space id name) (λ v. k (spelled name v)) ]

    -- resolve_name, for value k of enum id
    unfoldable pub resolve_name : ℕ → ℕ → Name → (Name → Writer U) → Writer U
    resolve_name id i name k = resolving (N.value_version id i name) (λ v. k (spelled name v))

-- The names of the Rust: for each type its version, 0 while it has none (`state[id].name`); and for each space and name
-- how many hold it (`names`).
pub record Holder : Type 0 where
  pub space : Space
  pub name : Name
  pub count : ℕ

pub record Names : Type 0 where
  pub versions : List ℕ
  pub ledger : List Holder

abbrev pub same_space : Space → Space → Bool
same_space tag_space tag_space = true
same_space tag_space ident_space = false
same_space ident_space tag_space = false
same_space ident_space ident_space = true

unfoldable pub same_bytes : List ℕ → List ℕ → Bool
same_bytes [] [] = true
same_bytes [] (b ∷ t) = false
same_bytes (a ∷ s) [] = false
same_bytes (a ∷ s) (b ∷ t) = elim (eqb a b) [ true ↦ same_bytes s t | false ↦ false ]

unfoldable pub holds : Holder → Space → Name → Bool
holds h space name = elim (same_space h.space space) [ true ↦ same_bytes h.name name | false ↦ false ]

-- how many hold the name
unfoldable pub holders : List Holder → Space → Name → ℕ
holders [] space name = 0
holders (h ∷ hs) space name = elim (holds h space name) [ true ↦ h.count | false ↦ holders hs space name ]

-- one more holds it: `*version += 1` of a u32, which would overflow at 4,294,967,296 holders; no text of 2^30 bytes prints so many
unfoldable pub with_one : List Holder → Space → Name → List Holder
with_one [] space name = record { space = space; name = name; count = 1 } ∷ []
with_one (h ∷ hs) space name =
    elim (holds h space name) [
      | true ↦ record { space = h.space; name = h.name; count = one_more h.count } ∷ hs
      | false ↦ h ∷ with_one hs space name
    ]

-- a type that has a version keeps it; else it is one more holder of its name
unfoldable pub type_version : Space → ℕ → Name → Names → Resolved Names
type_version space id name u =
    elim (eqb (get_or u.versions id 0) 0) [
      | false ↦ record { passes = false; version = get_or u.versions id 0; names = u }
      | true ↦ record {
        passes = false;
        version = one_more (holders u.ledger space name);
        names =
            record { versions = set u.versions id (one_more (holders u.ledger space name)); ledger = with_one u.ledger space name };
      }
    ]

-- an enumerator is one more holder each time it is printed
unfoldable pub value_version : Name → Names → Resolved Names
value_version name u = record {
  passes = false;
  version = one_more (holders u.ledger ident_space name);
  names = record { versions = u.versions; ledger = with_one u.ledger ident_space name };
}

abbrev pub naming : Naming Names
naming = record {
  type_version = type_version;
  value_version = λ id i name u. value_version name u;
  leaving = λ held u. u;
}

unfoldable pub starts_with : List ℕ → List ℕ → Bool
starts_with [] s = true
starts_with (a ∷ w) [] = false
starts_with (a ∷ w) (b ∷ s) = elim (eqb a b) [ true ↦ starts_with w s | false ↦ false ]

unfoldable pub contains : List ℕ → List ℕ → Bool
contains w [] = is_empty w
contains w (b ∷ s) = elim (starts_with w (b ∷ s)) [ true ↦ true | false ↦ contains w s ]

-- NAMES_BLACKLIST: the name contains "__builtin_va_list"
unfoldable pub builtin : Name → Bool
builtin name = contains (ascii "__builtin_va_list") name

-- c_str_escape: \ " newline, carriage return, tab
unfoldable pub escaped_byte : ℕ → List ℕ
escaped_byte b =
    elim (eqb b 92) [
      | true ↦ ascii "\\\\"
      | false ↦ elim (eqb b 34) [
        | true ↦ ascii "\\\""
        | false ↦ elim (eqb b 10) [
          | true ↦ ascii "\\n"
          | false ↦ elim (eqb b 13) [
            | true ↦ ascii "\\r"
            | false ↦ elim (eqb b 9) [ true ↦ ascii "\\t" | false ↦ b ∷ [] ]
          ]
        ]
      ]
    ]

unfoldable pub escaped : List ℕ → List ℕ
escaped [] = []
escaped (b ∷ s) = escaped_byte b ++ escaped s
