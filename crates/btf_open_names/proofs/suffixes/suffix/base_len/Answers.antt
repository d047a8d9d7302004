use Rattle.std.proofs.Common.{arith, length, zero-add, ◌∙◌, ap, sym}
use mathlib.Core.Path.{◌≡◌}
use borrow.Author.Tests.{leb-true, leb-false}
use Rattle.spec_type_table.specs.Names.{name_at}
use Rattle.btf_open_names.specs.filled_work.Takers.{suffix_in}
use Rattle.btf_open_names.proofs.name_classes.Names.{name_of_part}
use Rattle.btf_open_names.proofs.suffixes.Before.{base_end, base_zero, base_found, base_turn}
use Rattle.btf_open_names.proofs.suffixes.suffix.base_len.Goals as goal
use Rattle.btf_open_names.proofs.suffixes.suffix.base_len.Goals.{then-x-eq0-via-then-x-eq0, then-x-eq0-via-else-x-eq0+then-is_suffix}

pub loop-k-init : goal.loop-k-init
unfolding name_at
loop-k-init c = sym (zero-add _)

pub returns-then-x-eq0 : goal.returns-then-x-eq0
returns-then-x-eq0 c =
    elim c.then-x-eq0.branch [
      | then-x-eq0-via-then-x-eq0 w ↦ base_zero _ _ _ c.loop-k.invariant w.if-x-eq0.true
      | then-x-eq0-via-else-x-eq0+then-is_suffix w ↦
          base_found _ _ _ c.loop-k.invariant w.if-x-eq0.false _ (ap suffix_in (name_of_part c.args.name.now c.loop-k.k)) (leb-true 2 _ (sym w.is_suffix.ensures ∙ w.if-is_suffix.true))
    ]

pub loop-k-preserved : goal.loop-k-preserved
loop-k-preserved c =
    base_turn _ _ _ c.loop-k.invariant c.if-x-eq0.false _ (ap suffix_in (name_of_part c.args.name.now c.loop-k.k)) (leb-false 2 _ (sym c.is_suffix.ensures ∙ c.if-is_suffix.false))

pub returns : goal.returns
returns c = let e : length c.args.name.now ≡ c.loop-k.k = omega arith in e ∙ base_end _ _ _ c.loop-k.invariant c.loop-k-test.false
