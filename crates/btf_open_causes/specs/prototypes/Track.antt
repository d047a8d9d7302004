-- Nodes of which each passes on to one next (what 1), is a prototype (what 2), or neither; what leads to a prototype, and a test that ends.
use Rattle.std.specs.Prelude.{ℕ, zero, suc, ◌≤◌, ◌≡◌, Bool, true, false, eqb}

pub record Track : Type 0 where
  pub size : ℕ
  pub what : ℕ → ℕ
  pub next : ℕ → ℕ
  pub fits : size ≤ 262145
  pub out : (x : ℕ) → size ≤ x → what x ≡ 0

-- x is a prototype, or passes on to one that leads there
pub data Leads (T : Track) : ℕ → Type 0 where
  here : {x : ℕ} → T.what x ≡ 2 → Leads T x
  on : {x : ℕ} → T.what x ≡ 1 → Leads T (T.next x) → Leads T x

unfoldable pub chase : Track → ℕ → ℕ → Bool
chase T zero x = false
chase T (suc k) x =
    elim (eqb (T.what x) 2) [ true ↦ true | false ↦ elim (eqb (T.what x) 1) [ true ↦ chase T k (T.next x) | false ↦ false ] ]

unfoldable pub leads_to : Track → ℕ → Bool
leads_to T x = chase T T.size x
