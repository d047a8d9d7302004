use mathlib.Core.Path.{refl}
use Rattle.spec_bytes.proofs.text.TextLaws.{put_ended}
use Rattle.c_dumper_declarator.proofs.lines.Laws as lines
use Rattle.c_dumper_declarator.proofs.lines.emit_forward.Goals as goal

pub returns-then-is_builtin : goal.returns-then-is_builtin
returns-then-is_builtin c = lines.forward_builtin _ _ _ _ _ _ _ _ _ refl _ c.is_builtin.ensures c.if-is_builtin.true

pub returns-in_ok-a-in-Struct : goal.returns-in_ok-a-in-Struct
returns-in_ok-a-in-Struct c = lines.forward_composite _ _ _ _ _ _ _ _ _ c.of.ensures _ c.is_builtin.ensures c.if-is_builtin.false c.in-Struct.is _ _ _ c.in_ok-a-in-Struct.ensures _ _ c.put_line_end.ensures

pub returns-in_err-a-in-Struct : goal.returns-in_err-a-in-Struct
returns-in_err-a-in-Struct c = lines.forward_composite _ _ _ _ _ _ _ _ _ c.of.ensures _ c.is_builtin.ensures c.if-is_builtin.false c.in-Struct.is _ _ _ c.in_err-a-in-Struct.ensures _ _ (put_ended _ _ _ _ c.from_residual.ensures.1)

pub returns-in_ok-a-in-Typedef : goal.returns-in_ok-a-in-Typedef
returns-in_ok-a-in-Typedef c = lines.forward_typedef _ _ _ _ _ _ _ _ _ c.of.ensures _ c.is_builtin.ensures c.if-is_builtin.false c.in-Typedef.is _ _ _ c.in_ok-a-in-Typedef.ensures _ _ c.put_line_end-in-Typedef.ensures

pub returns-in_err-a-in-Typedef : goal.returns-in_err-a-in-Typedef
returns-in_err-a-in-Typedef c = lines.forward_typedef _ _ _ _ _ _ _ _ _ c.of.ensures _ c.is_builtin.ensures c.if-is_builtin.false c.in-Typedef.is _ _ _ c.in_err-a-in-Typedef.ensures _ _ (put_ended _ _ _ _ c.from_residual-in_err-a-in-Typedef.ensures.1)

pub returns-in_default : goal.returns-in_default
returns-in_default c = lines.forward_none _ _ _ _ _ _ _ _ _ c.of.ensures c.in_default.not-Struct c.in_default.not-Union c.in_default.not-Typedef
