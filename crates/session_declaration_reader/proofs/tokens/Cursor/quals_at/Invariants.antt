use Rattle.session_declaration_reader.proofs.bases.BaseLaws.{Gathered}
use Rattle.session_declaration_reader.proofs.tokens.Cursor.quals_at.Given as goal

abbrev pub invariant-loop-i : goal.invariant-loop-i
invariant-loop-i l = Gathered l.self.text.now l.fn.self.at l.i l.list l.end
