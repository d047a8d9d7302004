use mathlib.Core.Path.{refl}
use Rattle.btf_open_names.specs.filled_work.Left.{enumerator_word}
use Rattle.btf_open_names.proofs.fill.enumerator_word.Goals as goal

pub returns : goal.returns
unfolding enumerator_word
returns c = refl
