use Rattle.session_cut_marks.proofs.mentioned.Laws.{one_name, two_names}
use Rattle.session_cut_marks.proofs.mentioned.names.same_name.Goals as goal

pub returns-then-p-q : goal.returns-then-p-q
returns-then-p-q c = one_name c.args.b.now.head c.args.b.now.section.now _ _ c.if-p-q.true

pub returns : goal.returns
returns c = two_names c.args.b.now.head c.args.b.now.section.now _ _ _ _ _ c.get_btf_str.ensures c.get_btf_str-2.ensures c.eq.ensures
