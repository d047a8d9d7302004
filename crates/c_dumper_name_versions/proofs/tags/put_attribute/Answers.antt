use mathlib.Core.Path.{sym, ◌∙◌}
use Rattle.spec_bytes.specs.text.Text.{ascii, whole}
use Rattle.spec_bytes.proofs.text.TextLaws.{put_past, put_ended}
use Rattle.spec_c_dumper.specs.rules.Names.{escaped}
use Rattle.c_dumper_name_versions.proofs.tags.Tags.{put_own, put_worded, put_unstarted}
use Rattle.c_dumper_name_versions.proofs.tags.put_attribute.Goals as goal

pub returns-then-kind_flag_of : goal.returns-then-kind_flag_of
returns-then-kind_flag_of c = put_own _ _ _ _ _ _ _ _ _ _ _ _ (sym c.kind_flag_of.ensures ∙ c.if-kind_flag_of.true) c.get_btf_str-name.ensures c.in_ok-a.ensures c.in_ok-c.ensures c.put_bytes-then-kind_flag_of.ensures

pub returns : goal.returns
returns c = put_worded _ _ _ _ _ _ _ _ _ _ _ _ _ _ _ _ (sym c.kind_flag_of.ensures ∙ c.if-kind_flag_of.false) c.get_btf_str-name.ensures c.in_ok-a.ensures c.in_ok-d.ensures c.in_ok-e.ensures c.in_ok-f.ensures c.put_bytes-3.ensures

pub returns-in_err-a : goal.returns-in_err-a
returns-in_err-a c = put_unstarted _ _ _ _ _ _ _ _ c.in_err-a.ensures c.from_residual.ensures.1

pub returns-in_err-c : goal.returns-in_err-c
returns-in_err-c c = put_own _ _ _ _ _ _ _ _ _ _ _ _ (sym c.kind_flag_of.ensures ∙ c.if-kind_flag_of.true) c.get_btf_str-name.ensures c.in_ok-a.ensures c.in_err-c.ensures (put_ended _ _ _ _ c.from_residual-in_err-c.ensures.1)

pub returns-in_err-d : goal.returns-in_err-d
returns-in_err-d c = put_worded _ _ _ _ _ _ _ _ _ _ _ _ _ _ _ _ (sym c.kind_flag_of.ensures ∙ c.if-kind_flag_of.false) c.get_btf_str-name.ensures c.in_ok-a.ensures c.in_err-d.ensures (put_past _ _ (whole (ascii "(\""))) (put_past _ _ (whole (escaped _))) (put_ended _ _ _ _ c.from_residual-in_err-d.ensures.1)

pub returns-in_err-e : goal.returns-in_err-e
returns-in_err-e c = put_worded _ _ _ _ _ _ _ _ _ _ _ _ _ _ _ _ (sym c.kind_flag_of.ensures ∙ c.if-kind_flag_of.false) c.get_btf_str-name.ensures c.in_ok-a.ensures c.in_ok-d.ensures c.in_err-e.ensures (put_past _ _ (whole (escaped _))) (put_ended _ _ _ _ c.from_residual-in_err-e.ensures.1)

pub returns-in_err-f : goal.returns-in_err-f
returns-in_err-f c = put_worded _ _ _ _ _ _ _ _ _ _ _ _ _ _ _ _ (sym c.kind_flag_of.ensures ∙ c.if-kind_flag_of.false) c.get_btf_str-name.ensures c.in_ok-a.ensures c.in_ok-d.ensures c.in_ok-e.ensures c.in_err-f.ensures (put_ended _ _ _ _ c.from_residual-in_err-f.ensures.1)
