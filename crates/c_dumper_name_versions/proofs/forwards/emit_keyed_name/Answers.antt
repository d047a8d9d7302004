use mathlib.Core.Path.{◌∙◌, sym}
use mathlib.Core.List.{[]}
use Rattle.spec_bytes.specs.text.Text.{ascii, whole}
use Rattle.spec_bytes.proofs.text.TextLaws.{put_same, put_past, put_ended}
use Rattle.c_dumper_name_versions.proofs.forwards.Forwards.{keyword_same, fwd_builtin, fwd_named}
use Rattle.c_dumper_name_versions.proofs.forwards.emit_keyed_name.Goals as goal

pub returns-then-is_builtin : goal.returns-then-is_builtin
returns-then-is_builtin c = fwd_builtin c.args.b.now.head _ _ _ _ _ _ _ (sym c.is_builtin.ensures ∙ c.if-is_builtin.true)

pub returns : goal.returns
returns c = fwd_named c.args.b.now.head _ _ _ _ _ _ _ _ _ _ _ _ _ _ _ (sym c.is_builtin.ensures ∙ c.if-is_builtin.false) c.resolve_type_name-name.ensures.1
    (put_same _ _ _ _ _ _ (keyword_same c.args.b.now.head [] [] _ _ c.args.is_struct) c.in_ok-a.ensures) c.in_ok-c.ensures c.put_name.ensures

pub returns-in_err-a : goal.returns-in_err-a
returns-in_err-a c = fwd_named c.args.b.now.head _ _ _ _ _ _ _ _ _ _ _ _ _ _ _ (sym c.is_builtin.ensures ∙ c.if-is_builtin.false) c.resolve_type_name-name.ensures.1
    (put_same _ _ _ _ _ _ (keyword_same c.args.b.now.head [] [] _ _ c.args.is_struct) c.in_err-a.ensures) (put_past _ _ (whole (ascii " "))) (put_ended _ _ _ _ c.from_residual.ensures.1)

pub returns-in_err-c : goal.returns-in_err-c
returns-in_err-c c = fwd_named c.args.b.now.head _ _ _ _ _ _ _ _ _ _ _ _ _ _ _ (sym c.is_builtin.ensures ∙ c.if-is_builtin.false) c.resolve_type_name-name.ensures.1
    (put_same _ _ _ _ _ _ (keyword_same c.args.b.now.head [] [] _ _ c.args.is_struct) c.in_ok-a.ensures) c.in_err-c.ensures (put_ended _ _ _ _ c.from_residual-in_err-c.ensures.1)
