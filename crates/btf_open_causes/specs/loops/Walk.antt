-- What the walk of cause 8 keeps: st has 0 for a new node, k + 1 for one on the walk whose first k successors are passed, and 131072
-- for a safe one; the stack is the walk, d its length.
use Rattle.std.specs.Prelude.{ℕ, suc, ◌+◌, ◌-◌, ◌≤◌, ◌<◌, ◌≡◌, Bool, true}
use Rattle.std.specs.Prelude.{false, List, MatchBool, Option, MatchOption, length, get_or, sum_by}
use Rattle.btf_open_causes.specs.references.Zeros.{zeros}
use Rattle.btf_open_causes.specs.loops.Graph.{Graph, Edge, Loop}

-- no endless walk starts at x: it is so of each successor
pub data Safe (G : Graph) : ℕ → Type 0 where
  safe : {x : ℕ} → ((k : ℕ) → k < G.deg x → Safe G (G.to x k)) → Safe G x

unfoldable pub room : List ℕ → ℕ
room l = sum_by (λ v. 131072 - v) l

pub record Fine (G : Graph) (v w : ℕ) : Type 0 where
  pub passed : w < 131072 → (k : ℕ) → suc k < w → Safe G (G.to v k)
  pub done : 131072 ≤ w → Safe G v

-- what st tells of the nodes
pub record Known (G : Graph) (st : List ℕ) : Type 0 where
  pub st_length : length st ≡ 262145
  pub fine : (v : ℕ) → Fine G v (get_or st v 0)

-- it is known of y that it is a node, and not that it is safe
abbrev pub Open : List ℕ → ℕ → Type 0
Open st y = (y < 262145) × (get_or st y 0 < 131072)

-- y is open (r true), or safe
abbrev pub Opened : (G : Graph) → List ℕ → ℕ → Bool → Type 0
Opened G st y r = MatchBool r (Open st y) (Safe G y)

-- the successors to m, .., to (r - 1) are safe
abbrev pub Passed : (G : Graph) → (ℕ → ℕ) → ℕ → ℕ → Type 0
Passed G to m r = (k : ℕ) → m ≤ k → k < r → Safe G (to k)

-- the first of to m, .., to (n - 1) that is open, those before it safe; or all are safe
abbrev pub Passes : (G : Graph) → List ℕ → (ℕ → ℕ) → ℕ → ℕ → Option ℕ → Type 0
Passes G st to n m r = MatchOption r (Passed G to m n) (λ k. (m ≤ k) × (k < n) × Open st (to k) × Passed G to m k)

pub record Inv (G : Graph) (st stack : List ℕ) (d : ℕ) : Type 0 where
  pub st_length : length st ≡ 262145
  pub stack_length : length stack ≡ 262145
  pub deep : d + zeros st ≤ 262145
  pub begun : (j : ℕ) → j < d → 0 < get_or st (get_or stack j 0) 0
  pub held : (v : ℕ) → 0 < get_or st v 0 → get_or st v 0 < 131072 → (j : ℕ) × (j < d) × (get_or stack j 0 ≡ v)
  pub way : (j : ℕ) → suc j < d → Edge G (get_or stack j 0) (get_or stack (suc j) 0)
  pub fine : (v : ℕ) → Fine G v (get_or st v 0)

-- a turn that found no loop
pub record Ran (G : Graph) (st : List ℕ) (d : ℕ) (st' stack' : List ℕ) (r : ℕ) : Type 0 where
  pub inv : Inv G st' stack' r
  pub rises : (v : ℕ) → 0 < get_or st v 0 → 0 < get_or st' v 0
  pub less : room st' + room st' + r < room st + room st + d

abbrev pub Turned : (G : Graph) → List ℕ → ℕ → List ℕ → List ℕ → Option ℕ → Type 0
Turned G st d st' stack' r = MatchOption r (Loop G) (Ran G st d st' stack')

pub record Walked (G : Graph) (x : ℕ) (st' stack' : List ℕ) (r : Bool) : Type 0 where
  pub stop : r ≡ true → Loop G
  pub go : r ≡ false → Inv G st' stack' 0 × Safe G x
