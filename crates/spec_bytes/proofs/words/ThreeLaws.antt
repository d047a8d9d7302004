-- Three words in a row, each as `word_at` has it, or as `word_in`. Assumes nothing.
use Prim.Native.Nat.{ℕ, ◌+◌, ◌<◌, ◌≤◌}
use mathlib.Core.Path.{◌≡◌, ap, ◌∙◌, sym}
use mathlib.Core.Bool.{Bool, true, false}
use mathlib.Core.List.{List, [], ◌∷◌}
use native.Mathlib.Omega.{arith}
use lib.ListN.{length, get_or}
use Rattle.spec_bytes.specs.words.Words.{word_at, word_at_big, word_in, turn, join_at}
use Rattle.spec_bytes.specs.words.Three.{three_at, three_in}
use Rattle.spec_bytes.proofs.words.Laws.{read_in, read_out, word_turned}

module _ (b : List ℕ) (at : ℕ) where
  pub three_of : (x y z : ℕ) → x ≡ word_at b at → y ≡ word_at b (at + 4) → z ≡ word_at b (at + 8) → x ∷ y ∷ z ∷ [] ≡ three_at b at
  unfolding three_at
  three_of x y z ex ey ez = λ i. ex i ∷ ey i ∷ ez i ∷ []

  pub three_in_lem : (x y z : ℕ) → at + 11 < length b → x ≡ join_at b at → y ≡ join_at b (at + 4) → z ≡ join_at b (at + 8) → x ∷ y ∷ z ∷ [] ≡ three_at b at
  three_in_lem x y z h ex ey ez =
      three_of x y z
      (ex ∙ sym (read_in b at (omega arith)))
      (ey ∙ sym (read_in b (at + 4) (omega arith)))
      (ez ∙ sym (read_in b (at + 8) (omega arith)))

  pub three_out : length b ≤ at → 0 ∷ 0 ∷ 0 ∷ [] ≡ three_at b at
  three_out h =
      three_of 0 0 0 (sym (read_out b at (omega arith))) (sym (read_out b (at + 4) (omega arith))) (sym (read_out b (at + 8) (omega arith)))

  -- in either order, from what an array of three has at its places
  module _ (big : Bool) (w : List ℕ) (e : w ≡ three_at b at) where
    item : (k : ℕ) → get_or w k 0 ≡ get_or (three_at b at) k 0
    item k = ap (λ (t : List ℕ). get_or t k 0) e

    pub three_big : ((i : ℕ) → get_or b i 0 < 256) → big ≡ true → (x y z : ℕ) → x ≡ turn (get_or w 0 0) → y ≡ turn (get_or w 1 0) → z ≡ turn (get_or w 2 0)
        → x ∷ y ∷ z ∷ [] ≡ three_in big b at
    unfolding three_in three_at word_in
    three_big h g x y z ex ey ez =
        let ax : x ≡ word_at_big b at = ex ∙ ap turn (item 0) ∙ word_turned b h at in
        let ay : y ≡ word_at_big b (at + 4) = ey ∙ ap turn (item 1) ∙ word_turned b h (at + 4) in
        let az : z ≡ word_at_big b (at + 8) = ez ∙ ap turn (item 2) ∙ word_turned b h (at + 8) in
        rw g (λ i. ax i ∷ ay i ∷ az i ∷ [])

    pub three_little : big ≡ false → (x y z : ℕ) → x ≡ get_or w 0 0 → y ≡ get_or w 1 0 → z ≡ get_or w 2 0 → x ∷ y ∷ z ∷ [] ≡ three_in big b at
    unfolding three_in three_at word_in
    three_little g x y z ex ey ez =
        let ax : x ≡ word_at b at = ex ∙ item 0 in
        let ay : y ≡ word_at b (at + 4) = ey ∙ item 1 in
        let az : z ≡ word_at b (at + 8) = ez ∙ item 2 in
        rw g (λ i. ax i ∷ ay i ∷ az i ∷ [])
