-- A loop that writes part after part: a part that could not be written ends the whole. Assumes nothing.
use Prim.Native.Nat.{ℕ, zero, suc, ◌+◌, ◌-◌, ◌≤◌}
use native.Mathlib.Omega.{arith}
use mathlib.Core.Path.{◌≡◌, sym, ◌∙◌, ap}
use mathlib.Core.List.{List, ◌++◌}
use Rattle.std.specs.Prelude.{Err, IsErrAnd}
use Rattle.spec_bytes.specs.declared.refusal.Refusal.{Refusal}
use Rattle.spec_bytes.specs.text.Text.{whole}
use Rattle.spec_bytes.specs.text.Placed.{Placed, put_out, put_text}
use Rattle.spec_bytes.proofs.text.TextLaws.{put_same, put_seq, put_past, put_ended}

-- f n: the first n parts; g n: the next
module _ (f g : ℕ → List ℕ) (next : (n : ℕ) → f n ++ g n ≡ f (suc n)) (t : List ℕ) (at : Placed) (c : Refusal) (u : List ℕ) where
  ended : (i k : ℕ) → put_out (Err c) u ≡ put_text t at (whole (f i)) → put_out (Err c) u ≡ put_text t at (whole (f (k + i)))
  ended i zero h = let z : i ≡ 0 + i = omega arith in h ∙ ap (λ (m : ℕ). put_text t at (whole (f m))) z
  ended i (suc k) h =
      let z : suc (k + i) ≡ suc k + i = omega arith in
      put_same t at (f (k + i) ++ g (k + i)) (f (suc k + i)) (Err c) u (next (k + i) ∙ ap f z)
      (put_seq t at (f (k + i)) (g (k + i)) (Err c) u (Err c) u (ended i k h) (put_past u c (whole (g (k + i)))))

  pub loop_stops : (i n : ℕ) → i ≤ n → put_out (Err c) u ≡ put_text t at (whole (f i)) → (r : Placed) → IsErrAnd r (λ e. e ≡ c) → put_out r u ≡ put_text t at (whole (f n))
  loop_stops i n l h r e =
      let k : n - i + i ≡ n = omega arith in
      put_ended u r c (whole (f n)) e ∙ sym (put_past u c (whole (f n))) ∙ ended i (n - i) h ∙ ap (λ (m : ℕ). put_text t at (whole (f m))) k
