use Rattle.std.proofs.Common.{ℕ, ◌+◌, ap, ◌∙◌}
use Rattle.spec_type_table.specs.Records.{section_word}
use Rattle.btf_open_names.proofs.filled_work.Filled.{enum_is, enum_not, values_some, values_zero}
use Rattle.btf_open_names.proofs.fill.values_at.Goals as goal

pub returns-in-Enum : goal.returns-in-Enum
returns-in-Enum c =
    values_some _ _ _ (enum_is _ _ c.kind.ensures c.in-Enum.is) _
    (c.word.ensures ∙ ap (λ (n : ℕ). section_word c.args.b.now.head c.args.b.now.section.now (n + 4)) c.place.ensures) _ c.vlen_of.ensures

pub returns-in_default : goal.returns-in_default
returns-in_default c = values_zero _ _ _ (enum_not _ _ c.kind.ensures c.in_default.not-Enum c.in_default.not-Enum64)
