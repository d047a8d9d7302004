use Rattle.btf_open_names.proofs.filled_work.Bytes.{on_base_lem, on_differ, on_turn, on_end}
use Rattle.btf_open_names.specs.filled_work.Takers.{suffix_in}
use Rattle.btf_open_names.proofs.name_classes.Names.{name_of_part}
use Rattle.spec_type_table.specs.Names.{name_at}
use native.Mathlib.Omega.{arith}
use mathlib.Core.Path.{refl, ap, ◌∙◌}
use Rattle.btf_open_names.proofs.suffixes.suffix.suffix_on.Goals as goal

pub loop-k-init : goal.loop-k-init
unfolding name_at
loop-k-init c = refl

pub returns-then-a-eq0 : goal.returns-then-a-eq0
returns-then-a-eq0 c =
    on_base_lem c.args.x.now c.args.y.now _ c.loop-k.k c.loop-k.invariant _ c.peek-a.ensures _ c.if-a-eq0.true (c.suffix_in.ensures ∙ ap suffix_in (name_of_part c.args.y.now c.loop-k.k))

pub returns-then-a-b : goal.returns-then-a-b
returns-then-a-b c = on_differ _ _ _ _ c.loop-k.invariant _ c.peek-a.ensures c.if-a-eq0.false c.if-a-b.true

pub loop-k-preserved : goal.loop-k-preserved
loop-k-preserved c = on_turn _ _ _ _ c.loop-k.invariant _ c.peek-a.ensures c.if-a-eq0.false c.if-a-b.false

pub returns : goal.returns
returns c = on_end _ _ _ _ c.loop-k.invariant (omega arith)
