use Rattle.session_cut_marks.proofs.roles.Laws.{word_is}
use Rattle.session_cut_marks.proofs.roles.word_of.Goals as goal

pub returns : goal.returns
returns c = word_is _ _ _ _ _ _ c.place.ensures c.word.ensures
