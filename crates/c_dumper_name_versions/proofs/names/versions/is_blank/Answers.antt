use Rattle.c_dumper_name_versions.proofs.names.Spellings.{blank_bare, blank_more}
use Rattle.c_dumper_name_versions.proofs.names.versions.is_blank.Goals as goal

pub returns-then-unwrap_or-lt-SECOND : goal.returns-then-unwrap_or-lt-SECOND
returns-then-unwrap_or-lt-SECOND c = blank_bare _ _ _ c.unwrap_or.ensures _ c.if-unwrap_or-lt-SECOND.true c.is_empty.ensures

pub returns : goal.returns
returns c = blank_more _ _ _ c.unwrap_or.ensures c.if-unwrap_or-lt-SECOND.false
