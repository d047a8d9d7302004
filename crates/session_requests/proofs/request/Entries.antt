-- The entries of a list and its bytes, and those of what follows some entries. Assumes nothing.
use Prim.Native.Nat.{ℕ, zero, suc, ◌+◌, ◌*◌, ◌-◌, ◌/◌, ◌%◌, ◌<◌, ◌≤◌}
use mathlib.Core.Path.{◌≡◌, refl, ap, ◌∙◌, sym}
use mathlib.Core.List.{List, [], ◌∷◌, ◌++◌, append_assoc, append-nil}
use native.Mathlib.Omega.{arith}
use lib.ListN.{length, get_or, take, drop, replicate, length-drop, get_or-append}
use lib.Seq.{take-suc, length-take-le, take-append-add, take-append_seam, get_or-append-add, get_or-take}
use borrow.Rule.Slice.PartMut.{mid_of, post_of, put_mid, mid_len, same_len_mid}
use Rattle.spec_bytes.specs.words.Words.{get_word}
use Rattle.spec_bytes.proofs.words.Laws.{get_in}
use Rattle.spec_session.specs.session.Turns.{then_zeros}
use Rattle.spec_c_dumper.specs.origins.Causes.{Entry, entry, word_bytes, bytes_of, filled}
use Rattle.spec_c_dumper.proofs.origins.Listed.{bytes_append}
use Rattle.c_dumper_emit.specs.entries.Traced.{entry_at, entries_of}
use Rattle.c_dumper_emit.proofs.entries.Laws.{entries_length}

-- ---- the bytes of entries
module _ (l : List ℕ) where
  one : (i j : ℕ) → j ≡ i + 1 → i < length l → take j l ≡ take i l ++ (get_or l i 0 ∷ [])
  one i j e h = let q : j ≡ suc i = omega arith in ap (λ (k : ℕ). take k l) q ∙ take-suc l i 0 h

  four : (i : ℕ) → i + 3 < length l → take (i + 4) l ≡ take i l ++ (get_or l i 0 ∷ get_or l (i + 1) 0 ∷ get_or l (i + 2) 0 ∷ get_or l (i + 3) 0 ∷ [])
  four i h =
      one (i + 3) (i + 4) (omega arith) (omega arith)
      ∙ ap (λ (u : List ℕ). u ++ (get_or l (i + 3) 0 ∷ [])) (one (i + 2) (i + 3) (omega arith) (omega arith) ∙ ap (λ (u : List ℕ). u ++ (get_or l (i + 2) 0 ∷ [])) (one (i + 1) (i + 2) (omega arith) (omega arith) ∙ ap (λ (u : List ℕ). u ++ (get_or l (i + 1) 0 ∷ [])) (one i (i + 1) refl (omega arith))))
      ∙ append_assoc ((take i l ++ (get_or l i 0 ∷ [])) ++ (get_or l (i + 1) 0 ∷ [])) (get_or l (i + 2) 0 ∷ []) (get_or l (i + 3) 0 ∷ [])
      ∙ append_assoc (take i l ++ (get_or l i 0 ∷ [])) (get_or l (i + 1) 0 ∷ []) (get_or l (i + 2) 0 ∷ get_or l (i + 3) 0 ∷ [])
      ∙ append_assoc (take i l) (get_or l i 0 ∷ []) (get_or l (i + 1) 0 ∷ get_or l (i + 2) 0 ∷ get_or l (i + 3) 0 ∷ [])

  module _ (bytes : (i : ℕ) → get_or l i 0 < 256) where
    split : (a b c d : ℕ) → a < 256 → b < 256 → c < 256 → d < 256 → word_bytes (a + b * 256 + c * 65536 + d * 16777216) ≡ a ∷ b ∷ c ∷ d ∷ []
    split a b c d ha hb hc hd =
        let e₁ : (a + b * 256 + c * 65536 + d * 16777216) % 256 ≡ a = omega arith in
        let h₂ : (a + b * 256 + c * 65536 + d * 16777216) / 256 ≡ b + c * 256 + d * 65536 = omega arith in
        let g₂ : (b + c * 256 + d * 65536) % 256 ≡ b = omega arith in
        let e₂ : (a + b * 256 + c * 65536 + d * 16777216) / 256 % 256 ≡ b = ap (λ (n : ℕ). n % 256) h₂ ∙ g₂ in
        let h₃ : (a + b * 256 + c * 65536 + d * 16777216) / 65536 ≡ c + d * 256 = omega arith in
        let g₃ : (c + d * 256) % 256 ≡ c = omega arith in
        let e₃ : (a + b * 256 + c * 65536 + d * 16777216) / 65536 % 256 ≡ c = ap (λ (n : ℕ). n % 256) h₃ ∙ g₃ in
        let e₄ : (a + b * 256 + c * 65536 + d * 16777216) / 16777216 ≡ d = omega arith in
        λ i. e₁ i ∷ e₂ i ∷ e₃ i ∷ e₄ i ∷ []

    word : (j i k : ℕ) → i ≡ j * 4 → k ≡ i + 4 → j < length l / 4 → take k l ≡ take i l ++ word_bytes (get_word l j)
    word j i k ei ek h =
        let d : i + 3 < length l = omega arith in
        ap (λ (n : ℕ). take n l) ek ∙ four i d
        ∙ ap (λ (u : List ℕ). take i l ++ u) (sym (ap word_bytes (get_in l j h ∙ ap (λ (n : ℕ). get_or l n 0 + get_or l (n + 1) 0 * 256 + get_or l (n + 2) 0 * 65536 + get_or l (n + 3) 0 * 16777216) (sym ei)) ∙ split (get_or l i 0) (get_or l (i + 1) 0) (get_or l (i + 2) 0) (get_or l (i + 3) 0) (bytes i) (bytes (i + 1)) (bytes (i + 2)) (bytes (i + 3))))

    bytes_of_lem : (k : ℕ) → k ≤ length l / 12 → bytes_of (entries_of k l) ≡ take (12 * k) l
    unfolding bytes_of entries_of entry_at
    bytes_of_lem zero h = refl
    bytes_of_lem (suc k) h =
        let i₁ : 12 * k ≡ k * 3 * 4 = omega arith in
        let i₂ : 12 * k + 4 ≡ (k * 3 + 1) * 4 = omega arith in
        let i₃ : 12 * k + 8 ≡ (k * 3 + 2) * 4 = omega arith in
        bytes_append (entries_of k l) (entry_at l k ∷ [])
        ∙ ap (λ (u : List ℕ). u ++ (w₁ ++ (w₂ ++ (w₃ ++ [])))) (bytes_of_lem k (omega arith))
        ∙ ap (λ (u : List ℕ). take (12 * k) l ++ (w₁ ++ (w₂ ++ u))) (append-nil w₃)
        ∙ sym (append_assoc (take (12 * k) l) w₁ (w₂ ++ w₃))
        ∙ ap (λ (u : List ℕ). u ++ (w₂ ++ w₃)) (sym (word (k * 3) (12 * k) (12 * k + 4) i₁ refl (omega arith)))
        ∙ sym (append_assoc (take (12 * k + 4) l) w₂ w₃)
        ∙ ap (λ (u : List ℕ). u ++ w₃) (sym (word (k * 3 + 1) (12 * k + 4) (12 * k + 8) i₂ (omega arith) (omega arith)))
        ∙ sym (word (k * 3 + 2) (12 * k + 8) (12 * suc k) i₃ (omega arith) (omega arith))
      where
        w₁ : List ℕ
        w₁ = word_bytes (get_word l (k * 3))

        w₂ : List ℕ
        w₂ = word_bytes (get_word l (k * 3 + 1))

        w₃ : List ℕ
        w₃ = word_bytes (get_word l (k * 3 + 2))

    -- the first entries, and zeros
    pub filled_is : (k : ℕ) → k ≤ length l / 12 → then_zeros (length l) (k * 12) l ≡ filled (length l) (entries_of k l)
    unfolding then_zeros filled
    filled_is k h =
        let c : k * 12 ≡ 12 * k = omega arith in
        let e : length (entries_of k l) ≡ k = entries_length k l in
        let n : length l - k * 12 ≡ length l - 12 * length (entries_of k l) = omega arith in
        (λ i. take (c i) l ++ replicate (n i) 0) ∙ ap (λ (u : List ℕ). u ++ replicate (length l - 12 * length (entries_of k l)) 0) (sym (bytes_of_lem k h))

-- ---- the entries of a list, and those of what follows them
module _ (l u : List ℕ) (k : ℕ) (h : k * 12 ≤ length l) (same : length u ≡ length (mid_of (k * 12) (length l - k * 12) l)) where
  abbrev n : ℕ
  n = length l - k * 12

  abbrev l' : List ℕ
  l' = put_mid (k * 12) n l u

  pub whole_length : length l' ≡ length l
  whole_length = same_len_mid (k * 12) n l u same

  long : length u ≡ length l - k * 12
  long = same ∙ mid_len (k * 12) (length l) l (omega arith)

  head_length : length (take (k * 12) l) ≡ k * 12
  head_length = length-take-le (k * 12) l h

  -- what stands before them stays
  pub head_stays : take (k * 12) l' ≡ take (k * 12) l
  head_stays = ap (λ (j : ℕ). take j l') (sym head_length) ∙ take-append_seam (take (k * 12) l) (u ++ post_of (k * 12) n l)

  byte_before : (i : ℕ) → i < k * 12 → get_or l' i 0 ≡ get_or l i 0
  byte_before i q = get_or-append (take (k * 12) l) (u ++ post_of (k * 12) n l) 0 i (omega (arith, head_length)) ∙ get_or-take (k * 12) l i 0 q

  pub byte_after : (i : ℕ) → i < length u → get_or l' (k * 12 + i) 0 ≡ get_or u i 0
  byte_after i q = ap (λ (j : ℕ). get_or l' (j + i) 0) (sym head_length) ∙ get_or-append-add (take (k * 12) l) (u ++ post_of (k * 12) n l) i 0 ∙ get_or-append u (post_of (k * 12) n l) 0 i q

  join_same : (a b c d a' b' c' d' : ℕ) → a ≡ a' → b ≡ b' → c ≡ c' → d ≡ d' → a + b * 256 + c * 65536 + d * 16777216 ≡ a' + b' * 256 + c' * 65536 + d' * 16777216
  join_same a b c d a' b' c' d' ea eb ec ed = λ i. ea i + eb i * 256 + ec i * 65536 + ed i * 16777216

  word_before : (i : ℕ) → i < k * 3 → get_word l' i ≡ get_word l i
  word_before i q =
      get_in l' i (omega (arith, whole_length))
      ∙ join_same _ _ _ _ _ _ _ _ (byte_before (i * 4) (omega arith)) (byte_before (i * 4 + 1) (omega arith)) (byte_before (i * 4 + 2) (omega arith)) (byte_before (i * 4 + 3) (omega arith))
      ∙ sym (get_in l i (omega arith))

  at_byte : (i j : ℕ) → j ≡ k * 12 + i → i < length u → get_or l' j 0 ≡ get_or u i 0
  at_byte i j e q = ap (λ (m : ℕ). get_or l' m 0) e ∙ byte_after i q

  word_after : (i j : ℕ) → j ≡ k * 3 + i → i < length u / 4 → get_word l' j ≡ get_word u i
  word_after i j e q =
      get_in l' j (omega (arith, whole_length, long))
      ∙ join_same _ _ _ _ _ _ _ _ (at_byte (i * 4) (j * 4) (omega arith) (omega arith)) (at_byte (i * 4 + 1) (j * 4 + 1) (omega arith) (omega arith)) (at_byte (i * 4 + 2) (j * 4 + 2) (omega arith) (omega arith)) (at_byte (i * 4 + 3) (j * 4 + 3) (omega arith) (omega arith))
      ∙ sym (get_in u i q)

  before : (j : ℕ) → j ≤ k → entries_of j l' ≡ entries_of j l
  unfolding entries_of entry_at
  before zero q = refl
  before (suc j) q =
      ap (λ (es : List Entry). es ++ (entry_at l' j ∷ [])) (before j (omega arith))
      ∙ (λ i. entries_of j l ++ (entry (word_before (j * 3) (omega arith) i) (word_before (j * 3 + 1) (omega arith) i) (word_before (j * 3 + 2) (omega arith) i) ∷ []))

  entry_after : (j m : ℕ) → m ≡ k + j → j < length u / 12 → entry_at l' m ≡ entry_at u j
  unfolding entry_at
  entry_after j m e q = λ i. entry (word_after (j * 3) (m * 3) (omega arith) (omega arith) i) (word_after (j * 3 + 1) (m * 3 + 1) (omega arith) (omega arith) i) (word_after (j * 3 + 2) (m * 3 + 2) (omega arith) (omega arith) i)

  pub joined : (j : ℕ) → j ≤ length u / 12 → entries_of (k + j) l' ≡ entries_of k l ++ entries_of j u
  unfolding entries_of
  joined zero q = (let e : k + 0 ≡ k = omega arith in ap (λ (m : ℕ). entries_of m l') e) ∙ before k (omega arith) ∙ sym (append-nil (entries_of k l))
  joined (suc j) q =
      (let e : k + suc j ≡ suc (k + j) = omega arith in ap (λ (m : ℕ). entries_of m l') e)
      ∙ (λ i. joined j (omega arith) i ++ (entry_after j (k + j) refl (omega arith) i ∷ []))
      ∙ append_assoc (entries_of k l) (entries_of j u) (entry_at u j ∷ [])

-- ---- the list: its entries, and what follows them
module _ (l : List ℕ) (c : ℕ) (h : c * 12 ≤ length l) where
  abbrev rest : ℕ
  rest = length l - c * 12

  post_none : post_of (c * 12) rest l ≡ []
  post_none = none (drop rest (drop (c * 12) l)) (length-drop rest (drop (c * 12) l) ∙ (let e : length (drop (c * 12) l) ≡ length l - c * 12 = length-drop (c * 12) l in omega arith))
    where
      none : (xs : List ℕ) → length xs ≡ 0 → xs ≡ []
      none [] e = refl
      none (x ∷ xs) e = absurd (omega arith)

  pub put_is : (u : List ℕ) → put_mid (c * 12) rest l u ≡ take (c * 12) l ++ u
  put_is u = ap (λ (xs : List ℕ). take (c * 12) l ++ (u ++ xs)) post_none ∙ ap (λ (xs : List ℕ). take (c * 12) l ++ xs) (append-nil u)

  module _ (u : List ℕ) (d : ℕ) where
    sum : (c + d) * 12 ≡ length (take (c * 12) l) + d * 12
    sum = let e : length (take (c * 12) l) ≡ c * 12 = length-take-le (c * 12) l h in omega arith

    pub take_both : take ((c + d) * 12) (put_mid (c * 12) rest l u) ≡ take (c * 12) l ++ take (d * 12) u
    take_both = (λ i. take (sum i) (put_is u i)) ∙ take-append-add (take (c * 12) l) u (d * 12)
