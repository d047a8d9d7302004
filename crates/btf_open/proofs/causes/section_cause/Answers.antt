use Rattle.spec_opening.proofs.First.{section_2, section_3, section_4, section_0}
use Rattle.btf_open.proofs.causes.section_cause.Goals as goal

pub returns-then-is_long : goal.returns-then-is_long
returns-then-is_long c = section_2 _ c.if-is_long.true

pub returns-then-has_bad_header : goal.returns-then-has_bad_header
returns-then-has_bad_header c = section_3 _ c.if-is_long.false _ c.has_bad_header.ensures c.if-has_bad_header.true

pub returns-then-has_bad_strings : goal.returns-then-has_bad_strings
returns-then-has_bad_strings c = section_4 _ c.if-is_long.false _ c.has_bad_header.ensures c.if-has_bad_header.false _ c.has_bad_strings.ensures c.if-has_bad_strings.true

pub returns : goal.returns
returns c = section_0 _ c.if-is_long.false _ c.has_bad_header.ensures c.if-has_bad_header.false _ c.has_bad_strings.ensures c.if-has_bad_strings.false
