use Rattle.spec_bytes.proofs.text.TextLaws.{put_ended}
use Rattle.c_dumper_bodies.proofs.enumerators.Definitions.{def_builtin, def_none, def_head, def_open, def_some}
use Rattle.spec_type_table.specs.declared.types.Entries.{Entries}
use mathlib.Core.Path.{ap, sym, ◌∙◌}
use Rattle.c_dumper_bodies.proofs.enums.emit_enum_def.Goals as goal

pub returns-then-is_builtin : goal.returns-then-is_builtin
returns-then-is_builtin c = def_builtin c.args.b.now.head _ _ _ _ _ _ _ _ _ (sym c.is_builtin.ensures ∙ c.if-is_builtin.true)

pub returns-then-values-eq0 : goal.returns-then-values-eq0
returns-then-values-eq0 c = def_none c.args.b.now.head _ _ _ _ _ _ _ _ _ _ _ _ (sym c.is_builtin.ensures ∙ c.if-is_builtin.false) c.in_ok-a.ensures _ (sym (ap (λ (x : Entries). x.vlen) c.entries_of-values.ensures) ∙ c.if-values-eq0.true)

pub returns : goal.returns
returns c = def_some c.args.b.now.head _ _ _ _ _ _ _ _ _ _ _ _ (sym c.is_builtin.ensures ∙ c.if-is_builtin.false) c.in_ok-a.ensures _ _ _ _ _ _ _ _ _ _
    (λ z. c.if-values-eq0.false (ap (λ (x : Entries). x.vlen) c.entries_of-values.ensures ∙ z)) c.deeper.ensures c.in_ok-c.ensures c.in_ok-d.ensures c.emit_enum_end.ensures

pub returns-in_err-a : goal.returns-in_err-a
returns-in_err-a c = def_head c.args.b.now.head _ _ _ _ _ _ _ _ _ _ _ _ _ (sym c.is_builtin.ensures ∙ c.if-is_builtin.false) c.in_err-a.ensures c.from_residual.ensures.1

pub returns-in_err-c : goal.returns-in_err-c
returns-in_err-c c = def_open c.args.b.now.head _ _ _ _ _ _ _ _ _ _ _ _ (sym c.is_builtin.ensures ∙ c.if-is_builtin.false) c.in_ok-a.ensures _ _ _ _ (λ z. c.if-values-eq0.false (ap (λ (x : Entries). x.vlen) c.entries_of-values.ensures ∙ z)) c.in_err-c.ensures c.from_residual-in_err-c.ensures.1

pub returns-in_err-d : goal.returns-in_err-d
returns-in_err-d c = def_some c.args.b.now.head _ _ _ _ _ _ _ _ _ _ _ _ (sym c.is_builtin.ensures ∙ c.if-is_builtin.false) c.in_ok-a.ensures _ _ _ _ _ _ _ _ _ _
    (λ z. c.if-values-eq0.false (ap (λ (x : Entries). x.vlen) c.entries_of-values.ensures ∙ z)) c.deeper.ensures c.in_ok-c.ensures c.in_err-d.ensures (put_ended _ _ _ _ c.from_residual-in_err-d.ensures.1)
