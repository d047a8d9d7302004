use Rattle.session_field_at_bit.proofs.field.+behind.Given as goal

abbrev pub decreases-behind : goal.decreases-behind
decreases-behind l = l.left
