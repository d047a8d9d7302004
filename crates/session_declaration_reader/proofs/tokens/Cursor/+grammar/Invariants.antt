use Prim.Native.Nat.{◌*◌, ◌+◌}
use Rattle.session_declaration_reader.proofs.tokens.Cursor.+grammar.Given as goal

abbrev pub decreases-counts : goal.decreases-counts
decreases-counts l = 2 * l.left + 1

abbrev pub decreases-declarator : goal.decreases-declarator
decreases-declarator l = 2 * l.left

abbrev pub decreases-in_brackets : goal.decreases-in_brackets
decreases-in_brackets l = 2 * l.left + 1

abbrev pub decreases-param_behind : goal.decreases-param_behind
decreases-param_behind l = 2 * l.left + 1

abbrev pub decreases-param_end : goal.decreases-param_end
decreases-param_end l = 2 * l.left

abbrev pub decreases-param_list : goal.decreases-param_list
decreases-param_list l = 2 * l.left

abbrev pub decreases-params : goal.decreases-params
decreases-params l = 2 * l.left

abbrev pub decreases-protos : goal.decreases-protos
decreases-protos l = 2 * l.left + 1

abbrev pub decreases-starred : goal.decreases-starred
decreases-starred l = 2 * l.left + 1

abbrev pub decreases-suffixes : goal.decreases-suffixes
decreases-suffixes l = 2 * l.left
