use Prim.Native.Nat.{ℕ, ◌-◌}
use native.Mathlib.Omega.{arith}
use mathlib.Core.List.{List}
use mathlib.Core.Path.{ap, ◌∙◌}
use Rattle.std.proofs.Common.{rules, tests}
use Rattle.btf_open_names.specs.filled_work.Takers.{suffix_on}
use Rattle.btf_open_names.specs.keys.Keys.{key_list}
use Rattle.btf_open_names.specs.name_classes.Classes.{key_in}
use Rattle.btf_open_names.specs.suffixes.Based.{base_with}
use Rattle.btf_open_causes.proofs.references.First.{first_from, first_found}
use Rattle.btf_open_names.proofs.suffixes.Based.{based_first, spaceless}
use Rattle.btf_open_names.proofs.suffixes.bases.base_of.Goals as goal

pub returns-in_err-key : goal.returns-in_err-key
returns-in_err-key c = c.from_residual.ensures ∙ spaceless _ _ _ _ c.in_err-key.ensures

pub returns : goal.returns
returns c =
    let key = key_in c.args.b.now.head c.args.b.now.section.now c.args.work.now in
    first_found (λ (j : ℕ). base_with j (suffix_on (key j) (key_list c.args.b.now.section.now c.in_ok-key.key))) _ _ (λ x r q i. search (rules, tests)) c.find_map.result 1 c.args.n c.find_map.ensures.runs
    ∙ ap (λ (l : List ℕ). first_from (λ (j : ℕ). base_with j (suffix_on (key j) l)) 1 (c.args.n - 1)) c.in_ok-key.ensures
    ∙ based_first key c.args.h (c.args.n - 1) 1 (λ q. omega (arith, q))
