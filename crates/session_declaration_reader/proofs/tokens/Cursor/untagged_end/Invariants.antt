use lib.ListN.{length}
use Prim.Native.Nat.{◌-◌}
use Rattle.session_declaration_reader.proofs.bases.BaseLaws as laws
use Rattle.session_declaration_reader.proofs.tokens.Cursor.untagged_end.Given as goal

abbrev pub invariant-loop-t : goal.invariant-loop-t
invariant-loop-t l = laws.AfterInv l.self.text.now l.self.at l.named l.end × laws.TagsInv l.self.text.now l.self.at l.named l.end

abbrev pub decreases-loop-t : goal.decreases-loop-t
decreases-loop-t l = length l.self.text.now - l.end
