use Rattle.c_dumper_bodies.proofs.enumerators.Values.{values_start, values_turn, values_stop, values_end}
use Rattle.c_dumper_bodies.proofs.enums.Numbers.{value_name, values_same}
use Rattle.spec_bytes.proofs.text.TextLaws.{put_past}
use mathlib.Core.Path.{refl, ◌∙◌}
use Rattle.c_dumper_bodies.proofs.enums.emit_values.Goals as goal

pub loop-k-init : goal.loop-k-init
loop-k-init c = (
  refl,
  refl,
  values_start c.args.b.now.head _ _ _ _ _ _ _ _ _ _ c.get_field-first.ensures,
)

pub loop-k-preserved : goal.loop-k-preserved
loop-k-preserved c = (
  c.put_byte.auto.text ∙ c.emit_value.auto.text ∙ c.emit_enumerator.auto.text ∙ c.loop-k.invariant.0,
  c.emit_enumerator.auto.work ∙ c.loop-k.invariant.1,
  values_turn c.args.b.now.head _ _ _ _ _ _ _ _ _ _ _ _ _ _ _ _ _ _ _ _ _ _ _ _ _ c.loop-k.invariant.2 c.loop-k-test.true c.saturating_add-e.ensures
      (value_name c.args.b.now.head _ _ _ _ _ _ c.value_place.ensures c.word-name_off.ensures) refl c.in_ok-a.ensures c.in_ok-c.ensures c.in_ok-p.ensures,
)

pub returns : goal.returns
returns c = values_end c.args.b.now.head _ _ _ _ _ _ _ _ _ _ _ _ _ _ c.loop-k.invariant.2 c.loop-k-test.false ∙ values_same c.args.b.now.head _ _ c.args.x.t _ _ _ _ _ _ _ _ c.entries_of-values.ensures c.is_wide-wide.ensures c.kind_flag_of-is_signed.ensures

pub returns-in_err-a : goal.returns-in_err-a
returns-in_err-a c =
    values_stop c.args.b.now.head _ _ _ _ _ _ _ _ _ _ _ _ _ _ _ _ refl
    (values_turn c.args.b.now.head _ _ _ _ _ _ _ _ _ _ _ _ _ _ _ _ _ _ _ _ _ _ _ _ _ c.loop-k.invariant.2 c.loop-k-test.true c.saturating_add-e.ensures
    (value_name c.args.b.now.head _ _ _ _ _ _ c.value_place.ensures c.word-name_off.ensures) refl c.in_err-a.ensures (put_past _ _ _) (put_past _ _ _))
    c.from_residual.ensures.1
    ∙ values_same c.args.b.now.head _ _ c.args.x.t _ _ _ _ _ _ _ _ c.entries_of-values.ensures c.is_wide-wide.ensures c.kind_flag_of-is_signed.ensures

pub returns-in_err-c : goal.returns-in_err-c
returns-in_err-c c =
    values_stop c.args.b.now.head _ _ _ _ _ _ _ _ _ _ _ _ _ _ _ _ refl
    (values_turn c.args.b.now.head _ _ _ _ _ _ _ _ _ _ _ _ _ _ _ _ _ _ _ _ _ _ _ _ _ c.loop-k.invariant.2 c.loop-k-test.true c.saturating_add-e.ensures
    (value_name c.args.b.now.head _ _ _ _ _ _ c.value_place.ensures c.word-name_off.ensures) refl c.in_ok-a.ensures c.in_err-c.ensures (put_past _ _ _))
    c.from_residual-in_err-c.ensures.1
    ∙ values_same c.args.b.now.head _ _ c.args.x.t _ _ _ _ _ _ _ _ c.entries_of-values.ensures c.is_wide-wide.ensures c.kind_flag_of-is_signed.ensures

pub returns-in_err-p : goal.returns-in_err-p
returns-in_err-p c =
    values_stop c.args.b.now.head _ _ _ _ _ _ _ _ _ _ _ _ _ _ _ _ refl
    (values_turn c.args.b.now.head _ _ _ _ _ _ _ _ _ _ _ _ _ _ _ _ _ _ _ _ _ _ _ _ _ c.loop-k.invariant.2 c.loop-k-test.true c.saturating_add-e.ensures
    (value_name c.args.b.now.head _ _ _ _ _ _ c.value_place.ensures c.word-name_off.ensures) refl c.in_ok-a.ensures c.in_ok-c.ensures c.in_err-p.ensures)
    c.from_residual-in_err-p.ensures.1
    ∙ values_same c.args.b.now.head _ _ c.args.x.t _ _ _ _ _ _ _ _ c.entries_of-values.ensures c.is_wide-wide.ensures c.kind_flag_of-is_signed.ensures
