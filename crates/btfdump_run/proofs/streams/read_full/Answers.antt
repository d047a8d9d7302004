-- What was read after a read: what was read before it, which stands as it stood, and what it gave.
use Rattle.std.proofs.Common.{◌≡◌, ℕ, ◌+◌, ◌-◌, ◌≤◌, List, ◌++◌, rules, arith, length, take, slice_range, sym, ap, ◌∙◌, subst, le_refl, drop_at, length-take-le}
use Rattle.std.proofs.lemmas.Slice.{take-put_mid_below}
use Rattle.std.specs.Io.KnownBytes.{Consumes}
use Rattle.std.proofs.KnownBytes.{Consumes-trans}
use borrow.Rule.Slice.PartMut.{put_mid, post_of}
use lib.Seq.{take-add, take-append-le}
use Rattle.btfdump_run.proofs.streams.read_full.Goals as goal

joined : (a n : ℕ) (old new : List ℕ) → take a new ≡ take a old → take a old ++ slice_range new a (a + n) ≡ take (a + n) new
joined a n old new front =
    let same : (a + n) - a ≡ n = omega arith in
    ap (λ l. l ++ slice_range new a (a + n)) (sym front) ∙ sym (take-add a ((a + n) - a) new) ∙ ap (λ k. take (a + k) new) same

given : (a k n : ℕ) (xs ys : List ℕ) → a ≤ length xs → n ≤ length ys → slice_range (put_mid a k xs ys) a (a + n) ≡ take n ys
given a k n xs ys within fits =
    let same : (a + n) - a ≡ n = omega arith in
    let after = post_of a k xs in
    ap (take ((a + n) - a)) (drop_at (take a xs) (ys ++ after) a (length-take-le a xs within)) ∙ ap (λ m. take m (ys ++ after)) same
    ∙ take-append-le n ys after fits

pub loop-done-preserved : goal.loop-done-preserved
loop-done-preserved g c =
    let from = c.loop-done.done in
    let room = length c.loop-done.buf - from in
    let within = c.loop-done.invariant.0 in
    let part = given from room c.in-Ok.n c.loop-done.buf c.read.new.buf within c.in-Ok.ensures.bound.0 in
    let all = joined from c.in-Ok.n c.loop-done.buf (put_mid from room c.loop-done.buf c.read.new.buf) (take-put_mid_below _ _ _ _ _ (le_refl _) within) in (
      search rules,
      subst (Consumes _ _) (ap (λ l. take from c.loop-done.buf ++ l) (sym part) ∙ all)
          (Consumes-trans _ _ _ _ _ c.loop-done.invariant.1 c.in-Ok.ensures.bytes.0),
    )
