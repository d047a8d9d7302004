-- Cause 6: "a followed id not below the count, or of kind 12, 14, 15, 17".
use Rattle.std.specs.Prelude.{ℕ, ◌≤◌, ◌<◌, ◌≡◌, Bool, true, false, List, [], ◌∷◌, ◌⊎◌, ltb}
use Rattle.spec_type_table.specs.declared.types.TypeTable.{TypeTable}
use Rattle.btf_open_causes.specs.references.Any.{any_below}
use Rattle.btf_open_causes.specs.references.Followed.{is_kind_among, type_count, kind_at, followed_count, followed_id}

-- FUNC, VAR, DATASEC, DECL_TAG
abbrev pub refused : List ℕ
refused = 12 ∷ 14 ∷ 15 ∷ 17 ∷ []

unfoldable pub is_bad : TypeTable → List ℕ → ℕ → Bool
is_bad b start y = elim (ltb y (type_count b)) [ true ↦ is_kind_among refused (kind_at b start y) | false ↦ true ]

module _ (b : TypeTable) (s start : List ℕ) where
  unfoldable pub is_some_bad : ℕ → Bool
  is_some_bad x = any_below (followed_count b s start x) (λ k. is_bad b start (followed_id b s start x k))

  -- the definition
  unfoldable pub has_bad_reference : Bool
  has_bad_reference = any_below (type_count b) is_some_bad

  -- what it says: type x follows an id, its k-th, which is bad
  pub record BadReference : Type 0 where
    pub x : ℕ
    pub k : ℕ
    pub type : x < type_count b
    pub followed : k < followed_count b s start x
    pub bad : (type_count b ≤ followed_id b s start x k) ⊎ (is_kind_among refused (kind_at b start (followed_id b s start x k)) ≡ true)
