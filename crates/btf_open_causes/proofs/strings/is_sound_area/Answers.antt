use Rattle.std.proofs.Common.{◌∙◌, sym, true≢false}
use Rattle.btf_open_causes.proofs.header.Headers.{area_first, area_last, area_all}
use Rattle.btf_open_causes.proofs.strings.is_sound_area.Goals as goal
use Rattle.btf_open_causes.proofs.strings.is_sound_area.Goals.{then-starts_with, else-starts_with}

pub returns-then-ends_with : goal.returns-then-ends_with
returns-then-ends_with c =
    elim c.if-starts_with.branch [
      | then-starts_with w ↦
          area_all _ (sym c.starts_with.ensures.value ∙ w.if-starts_with.true) (sym w.ends_with.ensures.value ∙ sym w.value-is ∙ c.if-ends_with.true)
          _ c.is_ascii.ensures.cases
      | else-starts_with w ↦ absurd (true≢false (sym c.if-ends_with.true ∙ w.value-is ∙ w.if-starts_with.false))
    ]

pub returns-else-ends_with : goal.returns-else-ends_with
returns-else-ends_with c =
    c.if-ends_with.false
    ∙ elim c.if-starts_with.branch [
      | then-starts_with w ↦
          area_last _ (sym c.starts_with.ensures.value ∙ w.if-starts_with.true) (sym w.ends_with.ensures.value ∙ sym w.value-is ∙ c.if-ends_with.false)
      | else-starts_with w ↦ area_first _ (sym c.starts_with.ensures.value ∙ w.if-starts_with.false)
    ]
