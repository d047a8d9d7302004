-- The pads before a member, where alignments are remembered in the work.
use Rattle.std.specs.Prelude.{ℕ, Bool, List}
use Rattle.spec_c_dumper.specs.rules.Writer.{Writer, put}
use Rattle.spec_c_dumper.specs.rules.Types.{Member, Btf as Rules}
use Rattle.spec_c_dumper.specs.rules.Decl.{pads}
use Rattle.spec_c_dumper.specs.alignment_once.Writers.{given_once}
use Rattle.btf_layout.specs.asked.Asked.{work_asks}

unfoldable pub pad_said : ℕ → Rules → ℕ → Member → Bool → ℕ → Writer (List ℕ)
pad_said types B offset m packed lvl = given_once ((work_asks types B).padding offset m packed) (λ ps. put (pads lvl ps))
