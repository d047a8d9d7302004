use Rattle.std.proofs.Common.{◌≡◌, arith, rules, tests, ap, refl, ◌∙◌, ◌+◌, ◌*◌, ℕ}
use lib.Dec.{ltb}
use Rattle.std.proofs.lemmas.Iterator.{YieldsList-from_range}
use Rattle.std.proofs.lemmas.Iterator.Search.{all_from_yields_List}
use Rattle.spec_type_table.specs.Records.{section_word}
use Rattle.spec_linux_btf.specs.Places.{all_named_p}
use Rattle.btf_open_causes.proofs.records.Pass.{names_range}
use Rattle.btf_open_causes.proofs.records.Area.are_names_inside.Goals as goal

pub returns : goal.returns
returns c =
    let w = section_word c.args.self.now.table.head c.args.self.now.table.section.now in
    let first = c.args.at + 12 in
    let z : first + 0 * c.args.width ≡ first = omega arith in
    all_from_yields_List (λ (k : ℕ). ltb (w (first + k * c.args.width)) c.args.self.now.str_len) _ _ c.all.result c.all.ensures.ran (YieldsList-from_range 0 c.args.n c.args.n refl (omega arith)) (λ x b q k. search (rules, tests))
    ∙ names_range c.args.self.now.str_len c.args.width w first 0 c.args.n
    ∙ ap (λ (q : ℕ). all_named_p c.args.self.now.str_len c.args.width w q c.args.n) z
