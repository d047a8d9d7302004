use lib.ListN.{length}
use mathlib.Core.Path.{◌≡◌}
use Prim.Native.Nat.{◌<◌, ◌≤◌, ◌*◌, ◌+◌}
use Rattle.std.proofs.Common.{rules}
use Rattle.session_declaration_reader.proofs.bases.ItemLaws as items
use native.Mathlib.Omega.{arith}
use Rattle.session_declaration_reader.proofs.bases.items.Chain.put_words.Goals as goal

pub returns-then-self-ge-MOST_CALLS-clause-stored : goal.returns-then-self-ge-MOST_CALLS-clause-stored
returns-then-self-ge-MOST_CALLS-clause-stored c = items.item_over _ _ _ c.if-self-ge-MOST_CALLS.true

pub returns-then-self-i-clause-stored : goal.returns-then-self-i-clause-stored
returns-then-self-i-clause-stored c =
    let h : c.args.self.now.n < 512 = omega arith in
    let l : length c.args.self.now.words.now ≤ c.args.self.now.n * 3 + 2 = omega arith in
    items.item_short _ _ _ h l

pub returns-clause-stored : goal.returns-clause-stored
returns-clause-stored c =
    let h : c.args.self.now.n < 512 = omega arith in
    let l : c.args.self.now.n * 3 + 2 < length c.args.self.now.words.now = omega arith in
    let k : length c.args.words ≡ 3 = search rules in
    items.item_stored _ _ _ h l k _ _ (omega arith) c.copy_from_slice.ensures.after
