use Prim.Native.Nat.{◌-◌}
use Rattle.session_field_at_bit.proofs.field.+walk.Given as goal

abbrev pub decreases-walk : goal.decreases-walk
decreases-walk l = 512 - l.n
