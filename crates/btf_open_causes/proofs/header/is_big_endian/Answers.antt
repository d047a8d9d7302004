use Rattle.std.proofs.Common.{◌∙◌}
use Rattle.btf_open_causes.proofs.header.Headers.{big_is}
use Rattle.btf_open_causes.proofs.header.is_big_endian.Goals as goal

pub returns : goal.returns
returns c = c.starts_with.ensures.value ∙ big_is c.args.section.now
