-- What the walks of cause 7 keep, in a cell for each type.
use Rattle.std.specs.Prelude.{ℕ, zero, suc, ◌+◌, ◌≤◌, ◌<◌, ◌≡◌, Bool, List, length, get_or, sum_by}
use Rattle.spec_type_table.specs.declared.types.TypeTable.{TypeTable}
use Rattle.btf_open_causes.specs.declared.prototypes.Cell.{Cell}
use Rattle.btf_open_causes.specs.declared.prototypes.Cell.TheVariants.{Unknown, No, Yes, Passed}
use Rattle.btf_open_causes.specs.prototypes.Track.{Track, Leads, leads_to}
use Rattle.btf_open_causes.specs.prototypes.Prototypes.{track_of, asker}

unfoldable pub iter : Track → ℕ → ℕ → ℕ
iter T zero y = y
iter T (suc j) y = T.next (iter T j y)

-- what a node says of itself: 1 passes on, 2 is a prototype
abbrev pub Says : ℕ → Cell → Type 0
Says w Unknown = w ≡ 1
Says w No = (w ≡ 1 → ⊥) × (w ≡ 2 → ⊥)
Says w Yes = w ≡ 2
Says w Passed = ⊥

-- what a cell says is so
abbrev pub Fair : (T : Track) → ℕ → Cell → Type 0
Fair T v Unknown = Unit {0}
Fair T v No = Leads T v → ⊥
Fair T v Yes = Leads T v
Fair T v Passed = Unit {0}

pub record Fairs (T : Track) (cell : List Cell) : Type 0 where
  pub cell_length : length cell ≡ 262145
  pub fair : (v : ℕ) → Fair T v (get_or cell v Unknown)

-- the cells between two questions
pub record Rest (T : Track) (cell : List Cell) : Type 0 where
  pub fairs : Fairs T cell
  pub unmarked : (v : ℕ) → get_or cell v Unknown ≡ Passed → ⊥

abbrev pub Looked : (T : Track) → List Cell → ℕ → Cell → Type 0
Looked T cell z Unknown = (z < 262145) × (get_or cell z Unknown ≡ Unknown) × (T.what z ≡ 1)
Looked T cell z No = Leads T z → ⊥
Looked T cell z Yes = Leads T z
Looked T cell z Passed = get_or cell z Unknown ≡ Passed

abbrev pub is_unknown : Cell → ℕ
is_unknown Unknown = 1
is_unknown No = 0
is_unknown Yes = 0
is_unknown Passed = 0

-- how many are not known: what a walk has still before it
unfoldable pub unknowns : List Cell → ℕ
unknowns l = sum_by is_unknown l

-- the walk from y is at z after m steps; all that it passed is marked, and nothing else
pub record Run (T : Track) (y : ℕ) (cell : List Cell) (z m : ℕ) : Type 0 where
  pub fairs : Fairs T cell
  pub deep : m + unknowns cell ≤ 262145
  pub at : z ≡ iter T m y
  pub pass : (i : ℕ) → i < m → T.what (iter T i y) ≡ 1
  pub marked : (v : ℕ) → get_or cell v Unknown ≡ Passed → (j : ℕ) × (j < m) × (iter T j y ≡ v)

pub record Settle (T : Track) (y m : ℕ) (answer : Cell) (cell : List Cell) (z i : ℕ) : Type 0 where
  pub fairs : Fairs T cell
  pub at : z ≡ iter T i y
  pub inside : (j : ℕ) → j < m → iter T j y < 262145
  pub right : (j : ℕ) → j < m → Fair T (iter T j y) answer
  pub settled : answer ≡ Passed → ⊥
  pub marked : (v : ℕ) → get_or cell v Unknown ≡ Passed → (j : ℕ) × (i ≤ j) × (j < m) × (iter T j y ≡ v)

pub record Answer (T : Track) (y : ℕ) (cell : List Cell) (r : Bool) : Type 0 where
  pub rest : Rest T cell
  pub is : r ≡ leads_to T y

pub record Part (b : TypeTable) (s start : List ℕ) (x : ℕ) (cell : List Cell) (r : Bool) : Type 0 where
  pub rest : Rest (track_of b s start) cell
  pub is : r ≡ asker b s start x
