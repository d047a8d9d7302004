-- What the order list holds, and its order.
use Prim.Native.Nat.{ℕ}
use mathlib.Core.Path.{◌≡◌}
use mathlib.Core.Bool.{Bool, true, false, ◌&&◌}
use mathlib.Core.List.{List, [], ◌∷◌, ◌++◌, Memᴰ}
use Rattle.spec_c_dumper.specs.rules.Order.{Node, ignored, plain, listed, through, ptr, tdef, proto, comp, Table, is_comp}
use Rattle.spec_c_dumper.specs.needs.Needs.{NamedComp, Via}

-- the kinds that may stand alone as a definition
abbrev pub is_def : Node → Bool
is_def ignored = false
is_def plain = false
is_def (listed f) = true
is_def (through a t) = false
is_def (ptr t) = false
is_def (tdef t) = true
is_def (proto ts) = false
is_def (comp ts) = true

-- what the order list holds
pub record Listable (T : Table) (x : ℕ) : Type 0 where
  pub kind : is_def (T.node x) ≡ true
  pub name : is_comp (T.node x) ≡ true → T.named x ≡ true

abbrev pub keep : Bool → ℕ → List ℕ → List ℕ
keep true x l = x ∷ l
keep false x l = l

-- the named composites of a list
unfoldable pub defs : Table → List ℕ → List ℕ
defs T [] = []
defs T (x ∷ l) = keep (is_comp (T.node x) && T.named x) x (defs T l)

-- each listed named composite is new, and comes after every named one that it needs
pub record Placed (T : Table) (before : List ℕ) (c : ℕ) : Type 0 where
  pub once : Memᴰ c before → ⊥
  pub after : (d : ℕ) → Via T c d → T.named d ≡ true → Memᴰ d before

pub data Sorted (T : Table) : List ℕ → Type 0 where
  none : Sorted T []
  snoc : {l : List ℕ} {x : ℕ} → Sorted T l → (NamedComp T x → Placed T l x) → Sorted T (l ++ (x ∷ []))
