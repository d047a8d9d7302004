use Prim.Native.Nat.{ℕ, suc, ◌+◌, ◌-◌, ◌≤◌}
use mathlib.Core.Path.{◌≡◌, refl, ap, ◌∙◌, sym}
use mathlib.Core.List.{List}
use native.Mathlib.Omega.{arith}
use Rattle.session_record.specs.record_words.Words.{put_long, unused_zero}
use Rattle.session_record.proofs.record_words.clear_unused.Goals as goal

none_zero : (r : List ℕ) → r ≡ unused_zero (9 - 9) r
unfolding unused_zero
none_zero r = refl

one_zero : (r₀ r r' : List ℕ) (i : ℕ) → 9 ≤ i → r ≡ unused_zero (i - 9) r₀ → r' ≡ put_long r i 0 → r' ≡ unused_zero (i + 1 - 9) r₀
unfolding unused_zero
one_zero r₀ r r' i h e e' =
    let k : i + 1 - 9 ≡ suc (i - 9) = omega arith in
    let m : i ≡ 9 + (i - 9) = omega arith in
    e' ∙ (λ j. put_long (e j) (m j) 0) ∙ ap (λ (n : ℕ). unused_zero n r₀) (sym k)

pub loop-i-init : goal.loop-i-init
loop-i-init c = (omega arith, none_zero _)

pub loop-i-preserved : goal.loop-i-preserved
loop-i-preserved c = (omega arith, one_zero _ _ _ _ c.loop-i.invariant.0 c.loop-i.invariant.1 c.put_long.ensures)
