use Rattle.spec_bytes.proofs.text.TextLaws.{put_ended}
use Rattle.c_dumper_declarator.proofs.lines.Laws as lines
use Rattle.c_dumper_declarator.proofs.lines.emit_definition.Goals as goal

pub returns-in_ok-a-in-Struct : goal.returns-in_ok-a-in-Struct
returns-in_ok-a-in-Struct c = lines.define_composite _ _ _ _ _ _ _ _ _ c.of.ensures c.in-Struct.is _ _ _ c.in_ok-a-in-Struct.ensures _ _ c.put_line_end.ensures

pub returns-in_err-a-in-Struct : goal.returns-in_err-a-in-Struct
returns-in_err-a-in-Struct c = lines.define_composite _ _ _ _ _ _ _ _ _ c.of.ensures c.in-Struct.is _ _ _ c.in_err-a-in-Struct.ensures _ _ (put_ended _ _ _ _ c.from_residual.ensures.1)

pub returns-in_ok-a-in-Enum : goal.returns-in_ok-a-in-Enum
returns-in_ok-a-in-Enum c = lines.define_enum _ _ _ _ _ _ _ _ _ c.of.ensures c.in-Enum.is _ _ _ c.in_ok-a-in-Enum.ensures _ _ c.put_line_end-in-Enum.ensures

pub returns-in_err-a-in-Enum : goal.returns-in_err-a-in-Enum
returns-in_err-a-in-Enum c = lines.define_enum _ _ _ _ _ _ _ _ _ c.of.ensures c.in-Enum.is _ _ _ c.in_err-a-in-Enum.ensures _ _ (put_ended _ _ _ _ c.from_residual-in_err-a-in-Enum.ensures.1)

pub returns-in_ok-a-in-Fwd : goal.returns-in_ok-a-in-Fwd
returns-in_ok-a-in-Fwd c = lines.define_fwd _ _ _ _ _ _ _ _ _ c.of.ensures c.in-Fwd.is _ _ _ c.in_ok-a-in-Fwd.ensures _ _ c.put_line_end-in-Fwd.ensures

pub returns-in_err-a-in-Fwd : goal.returns-in_err-a-in-Fwd
returns-in_err-a-in-Fwd c = lines.define_fwd _ _ _ _ _ _ _ _ _ c.of.ensures c.in-Fwd.is _ _ _ c.in_err-a-in-Fwd.ensures _ _ (put_ended _ _ _ _ c.from_residual-in_err-a-in-Fwd.ensures.1)

pub returns-in_default : goal.returns-in_default
returns-in_default c = lines.define_none _ _ _ _ _ _ _ _ _ c.of.ensures c.in_default.not-Struct c.in_default.not-Union c.in_default.not-Enum c.in_default.not-Enum64 c.in_default.not-Fwd
