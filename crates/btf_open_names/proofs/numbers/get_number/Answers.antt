use Rattle.btf_open_names.proofs.numbers.Lists.{number_got}
use Rattle.btf_open_names.proofs.numbers.get_number.Goals as goal

pub returns : goal.returns
returns c = (number_got _ _ _ _ _ _ _ c.get-class.ensures c.get_count-k.ensures.0 c.get_count-k.ensures.1 c.number_over.ensures, c.get_count-k.ensures.1)
