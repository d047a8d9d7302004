use Rattle.session_cut_marks.specs.marks.Marks.{pushed_to}
use Rattle.session_cut_marks.specs.marks.Marking.{heap_of}
use Rattle.session_cut_marks.proofs.marks.Laws.{none_pushed, more_pushed, chunk_word}
use Rattle.spec_bytes.specs.words.Words.{get_word}
use Prim.Native.Nat.{◌<◌, ◌/◌}
use lib.ListN.{length}
use mathlib.Core.Path.{◌≡◌, refl, ap, ◌∙◌}
use native.Mathlib.Omega.{arith}
use Rattle.session_cut_marks.proofs.marks.Marking.push_given.Goals as goal

pub loop-id-init : goal.loop-id-init
loop-id-init c = (none_pushed _ _, (refl, refl))

pub loop-id-preserved : goal.loop-id-preserved
loop-id-preserved c =
    let same = c.push.ensures.same in
    let h : c.loop-id.id-index < length c.args.given.now / 4 = omega (arith, c.loop-id-test.true, c.as_chunks.ensures.front_len) in
    let word = c.from_le_bytes.ensures ∙ chunk_word _ _ c.as_chunks.ensures.front _ h in
    (more_pushed _ _ _ _ _ _ _ _ _ _ c.loop-id.invariant.0 word c.push.ensures.turned, (same.0 ∙ c.loop-id.invariant.1.0, same.1 ∙ c.loop-id.invariant.1.1))

pub returns-clause-turned : goal.returns-clause-turned
returns-clause-turned c =
    let k : c.loop-id.id-index ≡ length c.args.given.now / 4 = omega (arith, c.loop-id-test.false, c.loop-id.auto.id-index-end, c.as_chunks.ensures.front_len) in
    c.loop-id.invariant.0 ∙ ap (pushed_to (get_word c.args.given.now) (heap_of c.args.self.now)) k
