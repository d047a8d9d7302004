-- Laws of `fill`: what stands at a word afterwards, and what a store does to it. Assumes nothing.
use Prim.Native.Nat.{ℕ, zero, suc, ◌+◌, ◌*◌, ◌/◌, ◌%◌, ◌<◌}
use mathlib.Core.Path.{◌≡◌, refl, ap, ap₂, ◌∙◌, sym}
use mathlib.Core.List.{List}
use mathlib.Core.Logic.{⊎_elim, ◌≢◌}
use native.Mathlib.Omega.{arith}
use native.Mathlib.Numerals.{add-one}
use lib.ListN.{length, get_or}
use Rattle.std.proofs.lemmas.Bool.{cases_lt}
use Rattle.std.proofs.lemmas.List.{set-get_or}
use Rattle.spec_bytes.specs.words.Words.{get_word, put_word, join_at, set_word}
use Rattle.spec_bytes.proofs.words.Laws.{get_in, put_in, put_out, put_length, get_put_same, get_put_other, put_again, put_swap}
use Rattle.btf_open_names.specs.name_classes.Classes.{fill}

module _ (at : ℕ → ℕ) where
  pub fill_length : (g : ℕ → ℕ) (w : List ℕ) (n : ℕ) → length (fill at g w n) ≡ length w
  unfolding fill
  fill_length g w zero = refl
  fill_length g w (suc n) = put_length (fill at g w n) (at n) (g n) ∙ fill_length g w n

  -- a word that is none of them
  pub get_else : (g : ℕ → ℕ) (w : List ℕ) (i n : ℕ) → ((h : ℕ) → h < n → i ≢ at h) → get_word (fill at g w n) i ≡ get_word w i
  unfolding fill
  get_else g w i zero o = refl
  get_else g w i (suc n) o = get_put_other (fill at g w n) (at n) i (g n) (o n (omega arith)) ∙ get_else g w i n (λ h l. o h (omega arith))

  pub put_else : (g : ℕ → ℕ) (w : List ℕ) (i v n : ℕ) → ((h : ℕ) → h < n → i ≢ at h) → put_word (fill at g w n) i v ≡ fill at g (put_word w i v) n
  unfolding fill
  put_else g w i v zero o = refl
  put_else g w i v (suc n) o = put_swap (fill at g w n) (at n) i (g n) v (o n (omega arith)) ∙ ap (λ (u : List ℕ). put_word u (at n) (g n)) (put_else g w i v n (λ h l. o h (omega arith)))

  pub fill_same : (f g : ℕ → ℕ) (w : List ℕ) (n : ℕ) → ((j : ℕ) → j < n → f j ≡ g j) → fill at f w n ≡ fill at g w n
  unfolding fill
  fill_same f g w zero e = refl
  fill_same f g w (suc n) e = ap₂ (λ (u : List ℕ) (v : ℕ). put_word u (at n) v) (fill_same f g w n (λ j l. e j (omega arith))) (e n (omega arith))

  -- the places are all different
  module _ (one : (i j : ℕ) → at i ≡ at j → i ≡ j) where
    pub get_fill : (g : ℕ → ℕ) (w : List ℕ) (h n : ℕ) → h < n → at h < length w / 4 → get_word (fill at g w n) (at h) ≡ g h
    unfolding fill
    get_fill g w h zero l m = absurd (omega arith)
    get_fill g w h (suc n) l m =
        ⊎_elim (λ p. get_put_other (fill at g w n) (at n) (at h) (g n) (λ q. let e : h ≡ n = one h n q in omega arith) ∙ get_fill g w h n p m) (λ p. let e : h ≡ n = omega arith in rw e (get_put_same (fill at g w n) (at n) (g n) (rw (fill_length g w n, ← e) m))) (cases_lt h n)

    pub put_fill : (f g : ℕ → ℕ) (w : List ℕ) (h v n : ℕ) → h < n → v ≡ g h → ((j : ℕ) → j ≢ h → f j ≡ g j) → put_word (fill at f w n) (at h) v ≡ fill at g w n
    unfolding fill
    put_fill f g w h v zero l e o = absurd (omega arith)
    put_fill f g w h v (suc n) l e o =
        ⊎_elim
        (λ p. put_swap (fill at f w n) (at n) (at h) (f n) v (λ q. let d : h ≡ n = one h n q in omega arith) ∙ ap₂ (λ (u : List ℕ) (x : ℕ). put_word u (at n) x) (put_fill f g w h v n p e o) (o n (omega arith)))
        (λ p. let q : h ≡ n = omega arith in rw q (put_again (fill at f w n) (at n) (f n) v ∙ ap₂ (λ (u : List ℕ) (x : ℕ). put_word u (at n) x) (fill_same f g w n (λ j m. o j (omega arith))) (e ∙ ap g q)))
        (cases_lt h n)

    pub fill_over : (f g : ℕ → ℕ) (w : List ℕ) (n : ℕ) → fill at g (fill at f w n) n ≡ fill at g w n
    unfolding fill
    fill_over f g w zero = refl
    fill_over f g w (suc n) =
        ap (λ (u : List ℕ). put_word u (at n) (g n)) (sym (put_else g (fill at f w n) (at n) (f n) n (λ h l q. let d : n ≡ h = one n h q in omega arith)))
        ∙ put_again (fill at g (fill at f w n) n) (at n) (f n) (g n)
        ∙ ap (λ (u : List ℕ). put_word u (at n) (g n)) (fill_over f g w n)

pub fill_swap : (at to f g : ℕ → ℕ) (w : List ℕ) (n m : ℕ) → ((i j : ℕ) → at i ≢ to j) → fill at f (fill to g w m) n ≡ fill to g (fill at f w n) m
unfolding fill
fill_swap at to f g w zero m o = refl
fill_swap at to f g w (suc n) m o = ap (λ (u : List ℕ). put_word u (at n) (f n)) (fill_swap at to f g w n m o) ∙ put_else to g (fill at f w n) (at n) (f n) m (λ h l. o n h)

pub fill_none : (at g : ℕ → ℕ) (w : List ℕ) → w ≡ fill at g w 0
unfolding fill
fill_none at g w = refl

pub fill_more : (at g : ℕ → ℕ) (w₀ w u : List ℕ) (k : ℕ) → w ≡ fill at g w₀ k → u ≡ put_word w (at k) (g k) → u ≡ fill at g w₀ (k + 1)
unfolding fill
fill_more at g w₀ w u k e f = rw (add-one, ← e) f

-- two words of each at once
pub fill_both : (at to f g : ℕ → ℕ) (w₀ w u v : List ℕ) (k : ℕ) → ((i j : ℕ) → to i ≢ at j) → w ≡ fill at f (fill to g w₀ k) k → u ≡ put_word w (to k) (g k) → v ≡ put_word u (at k) (f k) → v ≡ fill at f (fill to g w₀ (k + 1)) (k + 1)
unfolding fill
fill_both at to f g w₀ w u v k o e₁ e₂ e₃ =
    rw add-one
    (e₃ ∙ ap (λ (x : List ℕ). put_word x (at k) (f k)) (e₂ ∙ ap (λ (x : List ℕ). put_word x (to k) (g k)) e₁ ∙ put_else at f (fill to g w₀ k) (to k) (g k) k (λ h q. o k h)))

-- a word stored again where it stands
module _ (w : List ℕ) (bytes : (i : ℕ) → get_or w i 0 < 256) where
  set_own : (at : ℕ) → set_word w at (join_at w at) ≡ w
  set_own at =
      let b0 = bytes at in
      let b1 = bytes (at + 1) in
      let b2 = bytes (at + 2) in
      let b3 = bytes (at + 3) in
      let e0 : join_at w at % 256 ≡ get_or w at 0 = omega arith in
      let e1 : join_at w at / 256 % 256 ≡ get_or w (at + 1) 0 = omega arith in
      let e2 : join_at w at / 65536 % 256 ≡ get_or w (at + 2) 0 = omega arith in
      let e3 : join_at w at / 16777216 ≡ get_or w (at + 3) 0 = omega arith in
      rw (e0, set-get_or w at 0, e1, set-get_or w (at + 1) 0, e2, set-get_or w (at + 2) 0, e3) (set-get_or w (at + 3) 0)

  pub put_own : (i : ℕ) → put_word w i (get_word w i) ≡ w
  put_own i =
      ⊎_elim
      (λ l. put_in w i (get_word w i) l ∙ ap (set_word w (i * 4)) (get_in w i l) ∙ set_own (i * 4))
      (λ l. put_out w i (get_word w i) l)
      (cases_lt i (length w / 4))
