use Rattle.btf_open_causes.proofs.header.Settings.{btf_is}
use Rattle.btf_open_causes.proofs.header.btf_of.Goals as goal

pub returns : goal.returns
returns c = btf_is _ _ c.args.modes _ _ c.btf_header-h.ensures _ _ _ c.size_of_pointer.ensures c.count_of_types.ensures c.strings_at.ensures _ _ _ _ c.is_big_endian.ensures c.has_mode.ensures c.has_mode-2.ensures c.has_mode-3.ensures
