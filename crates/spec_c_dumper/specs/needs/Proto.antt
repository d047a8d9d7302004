-- Refusal 7 as a test that ends: follow single targets for as many steps as there are types.
use Rattle.std.specs.Prelude.{ℕ, zero, suc, Bool, true, false}
use Rattle.spec_c_dumper.specs.rules.Order.{Node, ignored, plain, listed, through, ptr, tdef, proto, comp, Table}

-- one step: a prototype, the next id, or neither
pub data Step : Type 0 where
  yes_proto nothing : Step
  to : ℕ → Step

abbrev pub step_of : Node → Step
step_of ignored = nothing
step_of plain = nothing
step_of (listed f) = nothing
step_of (through a t) = to t
step_of (ptr t) = nothing
step_of (tdef t) = to t
step_of (proto ts) = yes_proto
step_of (comp ts) = nothing

abbrev pub chase_by : (ℕ → Bool) → Step → Bool
chase_by f yes_proto = true
chase_by f nothing = false
chase_by f (to t) = f t

unfoldable pub chase : ℕ → Table → ℕ → Bool
chase zero T x = false
chase (suc n) T x = chase_by (λ y. chase n T y) (step_of (T.node x))
