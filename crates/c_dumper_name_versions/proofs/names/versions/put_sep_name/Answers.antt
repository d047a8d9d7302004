use Rattle.c_dumper_name_versions.proofs.names.Spellings.{put_no_name, put_sep}
use Rattle.spec_bytes.proofs.text.TextLaws.{put_seq, put_ended}
use mathlib.Core.Path.{◌∙◌, sym}
use Rattle.c_dumper_name_versions.proofs.names.versions.put_sep_name.Goals as goal

pub returns-then-is_blank : goal.returns-then-is_blank
returns-then-is_blank c = put_no_name _ _ _ (sym c.is_blank.ensures ∙ c.if-is_blank.true)

pub returns : goal.returns
returns c = put_sep _ _ _ _ _ (sym c.is_blank.ensures ∙ c.if-is_blank.false) (put_seq _ _ _ _ _ _ _ _ c.in_ok-a.ensures c.put_name.ensures)

pub returns-in_err-a : goal.returns-in_err-a
returns-in_err-a c = put_sep _ _ _ _ _ (sym c.is_blank.ensures ∙ c.if-is_blank.false) (put_seq _ _ _ _ _ _ _ _ c.in_err-a.ensures (put_ended _ _ _ _ c.from_residual.ensures.1))
