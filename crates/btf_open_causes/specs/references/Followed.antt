-- The types of a table that is being opened, and the ids that they follow. b has the count, s is the section. The index `start`
-- holds place * 32 + kind for each id: opening makes it, and crates/spec_opening/proofs/Index says that they are the section's.
use Rattle.std.specs.Prelude.{ℕ, ◌+◌, ◌-◌, ◌/◌, ◌%◌, Bool, true, false, List, [], ◌∷◌, get_or, ltb, eqb}
use Rattle.spec_bytes.specs.words.Words.{pick}
use Rattle.spec_type_table.specs.declared.types.TypeTable.{TypeTable}
use Rattle.spec_type_table.specs.Records.{section_word, vlen_of, member_at, param_at}

-- k is one of a list of kinds
unfoldable pub is_kind_among : List ℕ → ℕ → Bool
is_kind_among [] k = false
is_kind_among (a ∷ l) k = elim (eqb k a) [ true ↦ true | false ↦ is_kind_among l k ]

-- the count of types, void counted. Cause 5 refuses "more than 262,144 records", so it is the count of every table that comes here
unfoldable pub type_count : TypeTable → ℕ
type_count b = pick (ltb b.types 262145) b.types 262145

-- the entry of type x in the index: "0 is void"; void, and what lies past the table, has 0
unfoldable pub entry_at : TypeTable → List ℕ → ℕ → ℕ
entry_at b start x = pick (eqb x 0) 0 (pick (ltb x (type_count b)) (get_or start x 0) 0)

-- where the record of type x stands
unfoldable pub place_of : TypeTable → List ℕ → ℕ → ℕ
place_of b start x = entry_at b start x / 32

unfoldable pub kind_at : TypeTable → List ℕ → ℕ → ℕ
kind_at b start x = entry_at b start x % 32

-- "STRUCT(4), UNION(5)"
abbrev pub composites : List ℕ
composites = 4 ∷ 5 ∷ []

-- PTR, ARRAY, TYPEDEF, VOLATILE, CONST, RESTRICT, TYPE_TAG: "targets of pointers, qualifiers, type tags, typedefs, elements"
abbrev pub targets : List ℕ
targets = 2 ∷ 3 ∷ 8 ∷ 9 ∷ 10 ∷ 11 ∷ 18 ∷ []

-- how many ids a record follows: one target or element; "members"; a FUNC_PROTO's "parameters, results"
unfoldable pub count_for : ℕ → ℕ → ℕ
count_for kind vlen = pick (is_kind_among targets kind) 1 (pick (is_kind_among composites kind) vlen (pick (eqb kind 13) (vlen + 1) 0))

-- where the k-th of them stands in the record at a place: an ARRAY's element, a member's type, the type of parameter k - 1 of
-- a FUNC_PROTO; and the record's own third word, a FUNC_PROTO's result too
unfoldable pub id_place : ℕ → ℕ → ℕ → ℕ
id_place kind at k =
    pick (eqb kind 3) (at + 12)
    (pick (is_kind_among composites kind) (member_at at k + 4)
    (pick (eqb kind 13) (pick (eqb k 0) (at + 8) (param_at at (k - 1) + 4)) (at + 8)))

module _ (b : TypeTable) (s : List ℕ) where
  -- of the record of a kind at a place: how many ids it follows; only vlen is read
  unfoldable pub count_at : ℕ → ℕ → ℕ
  count_at kind at = count_for kind (vlen_of (section_word b s (at + 4)))

  -- and the k-th
  unfoldable pub id_at : ℕ → ℕ → ℕ → ℕ
  id_at kind at k = section_word b s (id_place kind at k)

  module _ (start : List ℕ) where
    -- "Followed ids are targets of pointers, qualifiers, type tags, typedefs, elements, members, parameters, results"
    unfoldable pub followed_count : ℕ → ℕ
    followed_count x = count_at (kind_at b start x) (place_of b start x)

    unfoldable pub followed_id : ℕ → ℕ → ℕ
    followed_id x k = id_at (kind_at b start x) (place_of b start x) k
