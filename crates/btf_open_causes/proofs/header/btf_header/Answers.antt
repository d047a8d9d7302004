use Rattle.btf_open_causes.proofs.header.Headers.{header_is}
use Rattle.btf_open_causes.proofs.header.btf_header.Goals as goal

pub returns : goal.returns
returns c = header_is _ _ c.is_big_endian-big.ensures _ _ _ _ _ c.word_in.ensures c.word_in-2.ensures c.word_in-3.ensures c.word_in-4.ensures c.word_in-5.ensures
