-- What is claimed of the names that a session prints, in the mode of Naming, whose definitions are passed on.
use Rattle.std.specs.Prelude.{ℕ, ◌+◌, ◌≤◌, ◌≡◌, length}
use mathlib.Core.List.{List, [], ◌∷◌, ◌++◌, Memᴰ}
use Rattle.spec_c_dumper.specs.rules.Types.{Void, Btf}
use Rattle.spec_c_dumper.specs.rules.Names.{Space}
unfoldable pub use Rattle.spec_c_dumper.specs.names_apart.Naming.{tags_in, value_names, idents_in, names_in, names_to}
unfoldable pub use Rattle.spec_c_dumper.specs.names_apart.Naming.{table_names, spellings_in, is_name_among, taken}
unfoldable pub use Rattle.spec_c_dumper.specs.names_apart.Naming.{passing, number_for, shown, type_apart, value_apart, apart}
unfoldable pub use Rattle.spec_c_dumper.specs.names_apart.Naming.{none_shown, dump_apart, after_all, names_after}
pub use Rattle.spec_c_dumper.specs.names_apart.Naming.{Who, of_type, of_value, Shown, Apart}

-- both are the name of one and the same type
pub record OneType (a b : Shown) : Type 0 where
  pub id : ℕ
  pub first : a.who ≡ of_type id
  pub second : b.who ≡ of_type id

-- what was printed before in the same space and is spelled alike is the name of the same type
abbrev pub Alone : Shown → List Shown → Type 0
Alone a before = (b : Shown) → Memᴰ b before → b.space ≡ a.space → b.spelling ≡ a.spelling → OneType b a

-- "No two types of a space, no two printed enumerators and no typedef and enumerator then share a spelling": enumerators that were printed
-- twice count as two
abbrev pub AllApart : List Shown → Type 0
AllApart [] = Unit {0}
AllApart (a ∷ l) = Alone a l × AllApart l

-- b was printed before a
pub record Earlier (l : List Shown) (b a : Shown) : Type 0 where
  pub later : List Shown
  pub before : List Shown
  pub place : l ≡ later ++ (a ∷ before)
  pub is_before : Memᴰ b before

-- numbers of 32 bits are enough for what the table has and what was printed
abbrev pub Enough : Btf → Apart → Type 0
Enough B u = (space : Space) → length (table_names B space) + length u.printed + length u.printed ≤ 4294967290

-- the table has few enough names: 2^31 of a space and some more. A section of at most 16,777,216 bytes cannot have so many.
abbrev pub FewNames : Btf → Type 0
FewNames B = (space : Space) → length (table_names B space) ≤ 2147483640

-- past the table there is nothing
abbrev pub Ends : Btf → Type 0
Ends B = (id : ℕ) → B.type_cnt ≤ id → B.type_by_id id ≡ Void
