use Rattle.std.proofs.Common.{◌∙◌, sym, true≢false}
use borrow.Author.Tests.{lt-leb}
use Rattle.btf_open_causes.proofs.header.Headers.{little_is, magic_short, magic_big, magic_little, magic_none}
use Rattle.btf_open_causes.proofs.strings.is_magic.Goals as goal
use Rattle.btf_open_causes.proofs.strings.is_magic.Goals.{then-section-ge-LEAST_LENGTH+then-is_big_endian, then-section-ge-LEAST_LENGTH+else-is_big_endian, else-section-ge-LEAST_LENGTH}

pub returns-then-starts_with : goal.returns-then-starts_with
returns-then-starts_with c =
    elim c.if-section-ge-LEAST_LENGTH.branch [
      | then-section-ge-LEAST_LENGTH+then-is_big_endian w ↦ magic_big _ w.if-section-ge-LEAST_LENGTH.true (sym w.is_big_endian.ensures ∙ w.if-is_big_endian.true)
      | then-section-ge-LEAST_LENGTH+else-is_big_endian w ↦
          magic_little _ w.if-section-ge-LEAST_LENGTH.true (sym w.is_big_endian.ensures ∙ w.if-is_big_endian.false)
          (sym (w.starts_with.ensures.value ∙ little_is _) ∙ sym w.value-is ∙ c.if-starts_with.true)
      | else-section-ge-LEAST_LENGTH w ↦ absurd (true≢false (sym c.if-starts_with.true ∙ w.value-is ∙ lt-leb 24 _ w.if-section-ge-LEAST_LENGTH.false))
    ]

pub returns-else-starts_with : goal.returns-else-starts_with
returns-else-starts_with c =
    c.if-starts_with.false
    ∙ elim c.if-section-ge-LEAST_LENGTH.branch [
      | then-section-ge-LEAST_LENGTH+then-is_big_endian w ↦ absurd (true≢false (sym w.if-is_big_endian.true ∙ sym w.value-is ∙ c.if-starts_with.false))
      | then-section-ge-LEAST_LENGTH+else-is_big_endian w ↦
          magic_none _ (sym w.is_big_endian.ensures ∙ w.if-is_big_endian.false)
          (sym (w.starts_with.ensures.value ∙ little_is _) ∙ sym w.value-is ∙ c.if-starts_with.false)
      | else-section-ge-LEAST_LENGTH w ↦ magic_short _ w.if-section-ge-LEAST_LENGTH.false
    ]
