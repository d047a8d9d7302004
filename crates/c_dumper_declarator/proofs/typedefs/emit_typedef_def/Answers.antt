use Rattle.spec_bytes.specs.text.Text.{whole}
use Rattle.spec_bytes.proofs.text.TextLaws.{put_seq, put_past, put_ended}
use Rattle.spec_c_dumper.proofs.rules.Writing.{said_past}
use Rattle.c_dumper_declarator.proofs.declarations.MemberLaws as members
use Rattle.c_dumper_declarator.proofs.typedefs.emit_typedef_def.Goals as goal

pub returns : goal.returns
returns c = members.typedef_put _ _ _ _ _ _ _ _ _ _ c.resolve_type_name-name.ensures.1 _ _ _ _ _ _ _ (put_seq _ _ _ _ _ _ _ _ c.in_ok-a.ensures c.in_ok-c.ensures) c.in_ok-e.ensures c.emit_decl_tags.ensures

pub returns-in_err-a : goal.returns-in_err-a
returns-in_err-a c = members.typedef_put _ _ _ _ _ _ _ _ _ _ c.resolve_type_name-name.ensures.1 _ _ _ _ _ _ _ (put_seq _ _ _ _ _ _ _ _ c.in_err-a.ensures (put_past _ _ (whole _))) (said_past _ _ _ _ _) (put_ended _ _ _ _ c.from_residual.ensures.1)

pub returns-in_err-c : goal.returns-in_err-c
returns-in_err-c c = members.typedef_put _ _ _ _ _ _ _ _ _ _ c.resolve_type_name-name.ensures.1 _ _ _ _ _ _ _ (put_seq _ _ _ _ _ _ _ _ c.in_ok-a.ensures c.in_err-c.ensures) (said_past _ _ _ _ _) (put_ended _ _ _ _ c.from_residual-in_err-c.ensures.1)

pub returns-in_err-e : goal.returns-in_err-e
returns-in_err-e c = members.typedef_put _ _ _ _ _ _ _ _ _ _ c.resolve_type_name-name.ensures.1 _ _ _ _ _ _ _ (put_seq _ _ _ _ _ _ _ _ c.in_ok-a.ensures c.in_ok-c.ensures) c.in_err-e.ensures (put_ended _ _ _ _ c.from_residual-in_err-e.ensures.1)
