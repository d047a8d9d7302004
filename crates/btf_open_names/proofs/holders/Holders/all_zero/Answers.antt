use Rattle.std.proofs.Common.{◌≡◌, ◌≢◌, rules, arith}
use borrow.Author.Tests.{tests}
use Rattle.spec_bytes.specs.words.Words.{get_word}
use Rattle.spec_type_table.specs.Cells.{place_of}
use Rattle.std.proofs.lemmas.Iterator.{cases_from_all, YieldsList-from_range}
use Rattle.btf_open_names.proofs.holders.Laws.{zero_of}
use Rattle.btf_open_names.proofs.holders.Holders.all_zero.Goals as goal

pub returns : goal.returns
returns c =
    zero_of (place_of c.args.self.now.table.head.types c.args.word.of_type c.args.word.of_value) c.args.work.now c.args.self.now.n _
    (cases_from_all _ _ _ (λ k. get_word c.args.work.now (place_of c.args.self.now.table.head.types c.args.word.of_type c.args.word.of_value k) ≡ 0) (λ k. get_word c.args.work.now (place_of c.args.self.now.table.head.types c.args.word.of_type c.args.word.of_value k) ≢ 0) c.all.ensures.ran (YieldsList-from_range 0 c.args.self.now.n c.args.self.now.n (cc) (omega arith)) (λ x q k. search (rules, tests)) (λ x q k. search (rules, tests)))
