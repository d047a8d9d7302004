use Rattle.std.proofs.Common.{rules}
use Rattle.std.specs.Prelude.{Err}
use Rattle.c_dumper_padding.specs.extents.Steps.{extents_of}
use Rattle.c_dumper_padding.proofs.extents.Laws.{next_none, next_endless, next_got}
use mathlib.Core.Path.{◌≡◌, ap, ◌∙◌}
use Rattle.c_dumper_padding.proofs.extents.next_member.Goals as goal

pub returns-in_err-size : goal.returns-in_err-size
returns-in_err-size c =
    let e : c.from_residual.result ≡ Err c.in_err-size.field-0.0 = search rules in
    ap extents_of e ∙ next_none _ _ _ _ _ _ _ c.field_size.ensures c.in_err-size.was

pub returns-in_err-end : goal.returns-in_err-end
returns-in_err-end c =
    let e : c.from_residual-in_err-end.result ≡ Err c.in_err-end.field-0.0 = search rules in
    ap extents_of e ∙ next_endless _ _ _ _ _ _ _ c.field_size.ensures c.in_ok-size.was _ _ c.member_end.ensures c.in_err-end.was

pub returns : goal.returns
returns c = next_got _ _ _ _ _ _ _ c.field_size.ensures c.in_ok-size.was _ _ c.member_end.ensures c.in_ok-end.was _ c.with_member.ensures
