use mathlib.Core.Path.{ap, ◌∙◌}
use Rattle.c_dumper_dependency_order.specs.leaders.Leaders.{leader_words}
use Rattle.c_dumper_dependency_order.proofs.leaders.Laws as laws
use Rattle.c_dumper_dependency_order.proofs.leaders.note.Goals as goal

pub returns-then-has_leader : goal.returns-then-has_leader
returns-then-has_leader c = laws.note_again _ _ _ _ c.has_leader.ensures c.if-has_leader.true

pub returns : goal.returns
returns c =
    ap leader_words c.store.ensures ∙ laws.word_set _ _ _
    ∙ laws.note_new _ _ _ _ c.has_leader.ensures c.if-has_leader.false _ c.led_by.ensures
