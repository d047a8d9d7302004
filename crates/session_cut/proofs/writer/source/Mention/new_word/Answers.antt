use Rattle.session_cut.proofs.writer.Laws.{id_or_none, word_name_lem, word_id, word_plain}
use mathlib.Core.Path.{refl}
use Rattle.session_cut_marks.proofs.roles.Laws.{name_digit, id_digit, no_name_digit, no_id_digit}
use Rattle.session_cut.proofs.writer.source.Mention.new_word.Goals as goal

pub returns-in-Name : goal.returns-in-Name
returns-in-Name c = word_name_lem _ _ _ _ _ _ _ _ _ refl refl (name_digit _ _ c.word_role.ensures c.in-Name.is) _ c.place.ensures

pub returns-in-Id : goal.returns-in-Id
returns-in-Id c =
    let other = no_name_digit _ _ c.word_role.ensures (λ z. cc) in
    word_id _ _ _ _ _ _ _ _ _ refl c.word.ensures other (id_digit _ _ c.word_role.ensures c.in-Id.is) _ (id_or_none _ _ c.new_id.ensures _ c.unwrap_or.ensures)

pub returns-in-Plain : goal.returns-in-Plain
returns-in-Plain c =
    let other = no_name_digit _ _ c.word_role.ensures (λ z. cc) in
    word_plain _ _ _ _ _ _ _ _ _ refl c.word-in-Plain.ensures other (no_id_digit _ _ c.word_role.ensures (λ z. cc))
