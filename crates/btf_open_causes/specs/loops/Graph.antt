-- A graph of numbered nodes in which node x has deg x successors, to x 0, to x 1, .. ; what a loop is, and a test for one that ends.
-- A graph has at most 262145 nodes, of at most 65536 successors each, and no successors past its size.
use Rattle.std.specs.Prelude.{ℕ, zero, suc, ◌≤◌, ◌<◌, ◌≡◌, Bool, true}
use Rattle.btf_open_causes.specs.references.Any.{any_below}

pub record Graph : Type 0 where
  pub size : ℕ
  pub deg : ℕ → ℕ
  pub to : ℕ → ℕ → ℕ
  pub fits : size ≤ 262145
  pub few : (x : ℕ) → deg x ≤ 65536
  pub out : (x : ℕ) → size ≤ x → deg x ≡ 0

abbrev pub Edge : Graph → ℕ → ℕ → Type 0
Edge G x y = (k : ℕ) × (k < G.deg x) × (G.to x k ≡ y)

-- n ≥ 1 and nodes x 0, .., x n = x 0 with an edge from each to the next
pub record Loop (G : Graph) : Type 0 where
  pub n : ℕ
  pub x : ℕ → ℕ
  pub some : 1 ≤ n
  pub round : x n ≡ x 0
  pub edges : (i : ℕ) → i < n → Edge G (x i) (x (suc i))

-- some walk of k edges starts at x
unfoldable pub long : Graph → ℕ → ℕ → Bool
long G zero x = true
long G (suc k) x = any_below (G.deg x) (λ j. long G k (G.to x j))

-- some walk has more edges than there are nodes
unfoldable pub has_loop : Graph → Bool
has_loop G = any_below G.size (λ x. long G (suc G.size) x)
