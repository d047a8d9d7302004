use mathlib.Core.List.{[], ◌∷◌}
use mathlib.Core.Path.{ap, sym, ◌∙◌}
use Rattle.std.proofs.Common.{Some, None, unwrap_or}
use Rattle.std.proofs.lemmas.Bool.Decides.{Decides-eqb}
use Rattle.std.proofs.lemmas.Slice.Eq.{strip_prefix_is}
use Rattle.btf_open_names.proofs.filled_work.Bytes.{suffix_not, suffix_all}
use Rattle.btf_open_names.proofs.suffixes.suffix.suffix_in.Goals as goal

pub returns-in_err-strip_prefix : goal.returns-in_err-strip_prefix
returns-in_err-strip_prefix c =
    ap (λ o. unwrap_or o 0) c.from_residual.ensures
    ∙ sym (suffix_not _ (strip_prefix_is Decides-eqb c.args.name.now (95 ∷ 95 ∷ 95 ∷ []) None c.in_err-strip_prefix.ensures.cases))

pub returns : goal.returns
returns c =
    c.numeral.ensures
    ∙ sym (suffix_all _ _ (strip_prefix_is Decides-eqb c.args.name.now (95 ∷ 95 ∷ 95 ∷ []) (Some c.in_ok-strip_prefix.field-0) c.in_ok-strip_prefix.ensures.cases))
