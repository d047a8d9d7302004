use Rattle.c_dumper_padding.proofs.extents.Laws.{member_before, member_plain, member_field}
use Rattle.c_dumper_padding.proofs.extents.member_fits.Goals as goal

pub returns-then-not-start_fits : goal.returns-then-not-start_fits
returns-then-not-start_fits c = member_before _ _ _ _ _ _ _ c.start_fits.ensures c.if-not-start_fits.true

pub returns-then-m-eq0 : goal.returns-then-m-eq0
returns-then-m-eq0 c = member_plain _ _ _ _ _ _ _ c.start_fits.ensures c.if-not-start_fits.false c.if-m-eq0.true

pub returns : goal.returns
returns c = member_field _ _ _ _ _ _ _ c.start_fits.ensures c.if-not-start_fits.false c.if-m-eq0.false _ c.field_fits.ensures
