-- What marks and stack keep while the marks are closed over followed ids. ts: the types; gs: the given ids.
use Rattle.std.specs.Prelude.{ℕ, ◌+◌, ◌<◌, ◌≤◌, ◌≡◌, ◌⊎◌, length, get_or}
use mathlib.Core.List.{List, Memᴰ}
use Rattle.spec_linux_btf.specs.Documentation.{Described}
use Rattle.btf_open_causes.specs.references.Zeros.{zeros}
use Rattle.spec_cut.specs.section.Kept.{followed_ids, type_of, Reached}

abbrev pub Has : List ℕ → ℕ → Type 0
Has m x = 0 < get_or m x 0

-- an id that can have a mark
abbrev pub Markable : ℕ → Type 0
Markable x = (0 < x) × (x < 262145)

abbrev pub OnStack : List ℕ → ℕ → ℕ → Type 0
OnStack st d x = (j : ℕ) × (j < d) × (get_or st j 0 ≡ x)

-- every mark is of a reached id; there is room on the stack for each id without a mark
pub record Good (ts : List Described) (gs m st : List ℕ) (d : ℕ) : Type 0 where
  pub marks_long : length m ≡ 262145
  pub stack_long : length st ≡ 262145
  pub deep : d + zeros m ≤ 262145
  pub sound : (x : ℕ) → Has m x → Reached ts gs x
  pub one : (x : ℕ) → get_or m x 0 ≤ 1
  pub no_void : get_or m 0 0 ≡ 0
  pub stacked : (j : ℕ) → j < d → Has m (get_or st j 0)

-- marks and stack grow: what gets a mark stands on the stack
pub record Grows (m st : List ℕ) (d : ℕ) (m' st' : List ℕ) (d' : ℕ) : Type 0 where
  pub keeps : (x : ℕ) → Has m x → Has m' x
  pub higher : d ≤ d'
  pub same : (j : ℕ) → j < d → get_or st' j 0 ≡ get_or st j 0
  pub news : (x : ℕ) → Has m' x → Has m x ⊎ OnStack st' d' x

-- all that x follows has marks
abbrev pub Passed : List Described → List ℕ → ℕ → Type 0
Passed ts m x = (y : ℕ) → Memᴰ y (followed_ids (type_of ts x)) → Markable y → Has m y

-- each marked id is on the stack, or all that it follows is marked
abbrev pub Pending : List Described → List ℕ → List ℕ → ℕ → Type 0
Pending ts m st d = (x : ℕ) → Has m x → OnStack st d x ⊎ Passed ts m x
