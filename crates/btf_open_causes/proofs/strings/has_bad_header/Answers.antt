use Rattle.std.proofs.Common.{◌∙◌, sym}
use borrow.Author.Tests.{lt-ltb}
use Rattle.btf_open_causes.proofs.header.Headers.{bad_magic, bad_length, bad_types, bad_last}
use Rattle.btf_open_causes.proofs.strings.has_bad_header.Goals as goal
use Rattle.btf_open_causes.proofs.strings.has_bad_header.Goals.{then-not-is_magic-via-then-not-is_magic, then-not-is_magic-via-else-not-is_magic+then-h-lt-LEAST_HEADER}

pub returns-then-not-is_magic : goal.returns-then-not-is_magic
returns-then-not-is_magic c =
    elim c.then-not-is_magic.branch [
      | then-not-is_magic-via-then-not-is_magic w ↦ bad_magic _ _ c.is_magic.ensures w.if-not-is_magic.true
      | then-not-is_magic-via-else-not-is_magic+then-h-lt-LEAST_HEADER w ↦
          bad_length _ _ c.btf_header-h.ensures (sym c.is_magic.ensures ∙ w.if-not-is_magic.false) w.if-h-lt-LEAST_HEADER.true
    ]

pub returns-then-len-area_end : goal.returns-then-len-area_end
returns-then-len-area_end c =
    lt-ltb _ _ c.if-len-area_end.true
    ∙ bad_types _ _ c.btf_header-h.ensures (sym c.is_magic.ensures ∙ c.if-not-is_magic.false) c.if-h-lt-LEAST_HEADER.false _ c.area_end.ensures c.if-len-area_end.true

pub returns-else-len-area_end : goal.returns-else-len-area_end
returns-else-len-area_end c =
    bad_last _ _ c.btf_header-h.ensures (sym c.is_magic.ensures ∙ c.if-not-is_magic.false) c.if-h-lt-LEAST_HEADER.false _ c.area_end.ensures
    c.if-len-area_end.false _ c.area_end-else-len-area_end.ensures
