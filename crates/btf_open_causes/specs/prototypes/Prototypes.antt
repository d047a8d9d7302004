-- Cause 7: "a member or array element that is a prototype, through typedefs, qualifiers, type tags, arrays".
use Rattle.std.specs.Prelude.{ℕ, ◌≤◌, ◌<◌, ◌≡◌, Bool, true, List, [], ◌∷◌, eqb}
use Rattle.spec_bytes.specs.words.Words.{pick}
use Rattle.spec_type_table.specs.declared.types.TypeTable.{TypeTable}
use Rattle.btf_open_causes.specs.references.Any.{any_below}
use Rattle.btf_open_causes.specs.references.Followed.{is_kind_among, type_count, place_of, kind_at, count_at, followed_count, followed_id}
use Rattle.btf_open_causes.specs.references.Bounds.{count_fits, kind_out}
use Rattle.btf_open_causes.specs.prototypes.Track.{Track, leads_to}

-- ARRAY, TYPEDEF, VOLATILE, CONST, RESTRICT, TYPE_TAG: "through typedefs, qualifiers, type tags, arrays"
abbrev pub through : List ℕ
through = 3 ∷ 8 ∷ 9 ∷ 10 ∷ 11 ∷ 18 ∷ []

-- ARRAY, STRUCT, UNION: the ids that they follow are elements and members
abbrev pub holders : List ℕ
holders = 3 ∷ 4 ∷ 5 ∷ []

module _ (b : TypeTable) (start : List ℕ) where
  -- 1: passes on to its target; 2: a prototype; 0: neither
  unfoldable pub what_of : ℕ → ℕ
  what_of x = pick (is_kind_among through (kind_at b start x)) 1 (pick (eqb (kind_at b start x) 13) 2 0)

  pub what_out : (x : ℕ) → type_count b ≤ x → what_of x ≡ 0
  unfolding what_of is_kind_among
  what_out x h = rw (kind_out b start x h)

-- how many members or elements the record of a kind at a place has
unfoldable pub asks_at : TypeTable → List ℕ → ℕ → ℕ → ℕ
asks_at b s kind at = pick (is_kind_among holders kind) (count_at b s kind at) 0

module _ (b : TypeTable) (s start : List ℕ) where
  unfoldable pub next_of : ℕ → ℕ
  next_of x = followed_id b s start x 0

  abbrev pub track_of : Track
  track_of = record { size = type_count b; what = what_of b start; next = next_of; fits = count_fits b; out = what_out b start }

  -- how many members or elements x has
  unfoldable pub asks_of : ℕ → ℕ
  asks_of x = asks_at b s (kind_at b start x) (place_of b start x)

  unfoldable pub asker : ℕ → Bool
  asker x = any_below (asks_of x) (λ k. leads_to track_of (followed_id b s start x k))

  -- the definition
  unfoldable pub any_leads : Bool
  any_leads = any_below (type_count b) asker

-- the walk from y passes on, to its target each time, and ends at a FUNC_PROTO
pub data ToProto (b : TypeTable) (s start : List ℕ) : ℕ → Type 0 where
  ends : {y : ℕ} → kind_at b start y ≡ 13 → ToProto b s start y
  passes : {y : ℕ} → is_kind_among through (kind_at b start y) ≡ true → ToProto b s start (followed_id b s start y 0) → ToProto b s start y

-- what the definition says: type x is an ARRAY, a STRUCT or a UNION, and its element or k-th member leads to a prototype
pub record ProtoInside (b : TypeTable) (s start : List ℕ) : Type 0 where
  pub x : ℕ
  pub k : ℕ
  pub type : x < type_count b
  pub holder : is_kind_among holders (kind_at b start x) ≡ true
  pub inside : k < followed_count b s start x
  pub leads : ToProto b s start (followed_id b s start x k)
