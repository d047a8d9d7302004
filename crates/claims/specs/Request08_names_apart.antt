-- Ask 8, names that cannot collide, of any calls and over the types that the section describes. That the calls print the names of the
-- mode's definition is in specs/Demands (names-apart), and that "The old mode keeps its equality with the Rust" too (plain). Statement
-- only; proofs/Apart.antt has the proof, for the calls of specs/Ours; it assumes nothing.
use Rattle.std.specs.Prelude.{ℕ, ◌/◌, ◌%◌, ◌≡◌, List, [], ◌∷◌, ◌++◌, length, take}
use Rattle.spec_linux_btf.specs.Reading.{Bytes}
use Rattle.spec_c_dumper.specs.rules.Types.{Btf}
use Rattle.spec_c_dumper.specs.rules.Names.{ident_space}
use Rattle.spec_c_dumper.specs.rules.Machine.{Req, one, all}
use Rattle.spec_c_dumper.specs.needs.Session.{text_of}
use Rattle.spec_c_dumper.specs.names_apart.Apart.{of_type, of_value, Shown, after_all, names_after, AllApart, Earlier}
use Rattle.spec_opening.specs.Described.{table_in}
use Rattle.proof_names_apart.specs.none_passed.Watched.{PassesNone}
use Rattle.claims.specs.Calls.{Calls, ids_in, singles, Lent, made, After}

-- b and a: two names that were printed, b first. Nameless types print none; nameless enumerators are not excepted here.
pub record NoShared (b a : Shown) : Type 0 where
  -- "no two types of a space"
  pub types : (i j : ℕ) → b.who ≡ of_type i → a.who ≡ of_type j → (i ≡ j → ⊥) → b.space ≡ a.space → b.spelling ≡ a.spelling → ⊥
  -- "no two printed enumerators": the same one, printed twice, counts as two
  pub values : (id i id' i' : ℕ) → b.who ≡ of_value id i → a.who ≡ of_value id' i' → b.spelling ≡ a.spelling → ⊥
  -- "no typedef and enumerator", whichever comes first
  pub typedef_first : (t id i : ℕ) → b.who ≡ of_type t → b.space ≡ ident_space → a.who ≡ of_value id i → b.spelling ≡ a.spelling → ⊥
  pub value_first : (t id i : ℕ) → b.who ≡ of_value id i → a.who ≡ of_type t → a.space ≡ ident_space → b.spelling ≡ a.spelling → ⊥

-- pointer size, modes, section and length of the work, as at opening
module _ {R C : Type 0} (K : Calls R C) (pointer modes : ℕ) (s : List ℕ) (n : ℕ) where
  abbrev pub B : Btf
  B = table_in pointer modes s

  -- c: what the last call left, after the requests rs, in a session with bit 3 of the modes
  pub record NamesApart (c : C) (rs : List Req) : Type 0 where
    -- its text is that of the rules with the names of this mode
    pub text : take (K.len c) (K.text c) ≡ text_of (after_all B rs).mach.pieces
    -- "In one session no two types of a space, no two printed enumerators and no typedef and enumerator then share a spelling, the nameless
    -- ones excepted": of all names that were printed in it
    pub none_shared : (b a : Shown) → Earlier (names_after B rs).printed b a → NoShared b a
    pub all_apart : AllApart (names_after B rs).printed

  -- the same number, value and text
  pub record SameAnswer (c d : C) : Type 0 where
    pub number : K.number c ≡ K.number d
    pub value : K.value c ≡ K.value d
    pub text : take (K.value c) (K.text c) ≡ take (K.value d) (K.text d)

  -- the same text so far
  pub record SameText (c d : C) : Type 0 where
    pub text_len : K.len c ≡ K.len d
    pub text : take (K.len c) (K.text c) ≡ take (K.len d) (K.text d)

  -- of a list: the same number, as many accepted, and the same text
  pub record SameList (c d : C) : Type 0 where
    pub number : K.number c ≡ K.number d
    pub accepted : K.value c ≡ K.value d
    pub text : SameText c d

  -- "where no suffix is passed over": in the session with bit 3 and these requests
  abbrev pub NonePassed : List Req → Type 0
  NonePassed rs = PassesNone B rs

  -- "both modes print alike": c and d are what the last calls of two sessions left, c's with bit 3 and d's without it, after the requests
  -- rs in each, lent slices of the same lengths
  pub record PrintAlike (c d : C) (rs : List Req) : Type 0 where
    pub so_far : NonePassed rs → SameText c d
    pub is_open : NonePassed rs → K.is_open c ≡ K.is_open d
    -- and the next request
    pub next_one : (t u : List ℕ) → Lent K c t → Lent K d u → length t ≡ length u → (id : ℕ) → NonePassed (rs ++ (one (length t) id ∷ []))
        → SameAnswer (K.request c s t id) (K.request d s u id)
    pub next_all : (t u : List ℕ) → Lent K c t → Lent K d u → length t ≡ length u → NonePassed (rs ++ (all (length t) ∷ []))
        → SameAnswer (K.request_all c s t) (K.request_all d s u)
    pub next_list : (t u : List ℕ) → Lent K c t → Lent K d u → length t ≡ length u → (ids : List ℕ)
        → NonePassed (rs ++ singles (length t) (made K (K.request_list c s t ids)) (ids_in ids))
        → SameList (K.request_list c s t ids) (K.request_list d s u ids)

  -- old: modes that differ from these in bit 3 only
  pub record OnlyNames (old : ℕ) : Type 0 where
    pub new_names : modes / 8 % 2 ≡ 1
    pub old_names : old / 8 % 2 ≡ 0
    pub same_modes : modes % 8 ≡ old % 8

  -- THE CLAIM, of all pointer sizes, modes, sections of bytes and lengths of the work
  pub record Request08 : Type 0 where
    pub apart : Bytes s → modes / 8 % 2 ≡ 1 → (c : C) (rs : List Req) → After K pointer modes s n c rs → NamesApart c rs
    pub alike : Bytes s → (old : ℕ) → OnlyNames old → (c d : C) (rs : List Req) → After K pointer modes s n c rs
        → After K pointer old s n d rs → PrintAlike c d rs
