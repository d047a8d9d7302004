-- The words of the table stand apart from each other and from those that the lists and the keys use. Assumes nothing.
use Prim.Native.Nat.{ℕ, zero, suc, ◌+◌, ◌*◌, ◌/◌, ◌<◌}
use mathlib.Core.Path.{◌≡◌, refl, ap, ◌∙◌, sym, fun_ext}
use mathlib.Core.List.{List}
use mathlib.Core.Logic.{⊎_elim, ◌≢◌}
use native.Mathlib.Omega.{arith}
use lib.ListN.{length, get_or, set}
use Rattle.std.proofs.lemmas.Bool.{cases_lt}
use Rattle.std.proofs.lemmas.List.{set-get_or}
use Rattle.spec_bytes.specs.words.Words.{get_word, put_word}
use Rattle.spec_bytes.proofs.words.Laws.{get_in, put_in, put_out}
use Rattle.spec_type_table.specs.declared.types.TypeTable.{TypeTable}
use Rattle.btf_open_names.specs.name_classes.Classes.{fill, noughts, record_p, space_at, name_of, key_of, key_in}
use Rattle.btf_open_names.proofs.name_classes.Fill.{fill_length, get_else, put_else, fill_over, fill_swap}
use Rattle.btf_open_names.proofs.name_classes.Keys.{place_one, place_in, place_apart}
use Rattle.btf_open_names.specs.hash_table.Hashed.{first_p, later_p, over}

-- ---- a word that is 0 set to 0
put_zero : (w : List ℕ) (i : ℕ) → get_word w i ≡ 0 → put_word w i 0 ≡ w
put_zero w i e =
    ⊎_elim (λ l.
    let at : ℕ = i * 4 in
    let z : get_or w at 0 + get_or w (at + 1) 0 * 256 + get_or w (at + 2) 0 * 65536 + get_or w (at + 3) 0 * 16777216 ≡ 0 = sym (get_in w i l) ∙ e in
    let e₀ : set w at 0 ≡ w = (ap (set w (at)) (sym (omega arith)) ∙ set-get_or w (at) 0) in
    let e₁ : set w (at + 1) 0 ≡ w = (ap (set w ((at + 1))) (sym (omega arith)) ∙ set-get_or w ((at + 1)) 0) in
    let e₂ : set w (at + 2) 0 ≡ w = (ap (set w ((at + 2))) (sym (omega arith)) ∙ set-get_or w ((at + 2)) 0) in
    let e₃ : set w (at + 3) 0 ≡ w = (ap (set w ((at + 3))) (sym (omega arith)) ∙ set-get_or w ((at + 3)) 0) in
    put_in w i 0 l
    ∙ ap (λ (c : List ℕ). set (set (set c (at + 1) 0) (at + 2) 0) (at + 3) 0) e₀
    ∙ ap (λ (c : List ℕ). set (set c (at + 2) 0) (at + 3) 0) e₁
    ∙ ap (λ (c : List ℕ). set c (at + 3) 0) e₂
    ∙ e₃)
    (put_out w i 0)
    (cases_lt i (length w / 4))

fill_zero : (at : ℕ → ℕ) (w : List ℕ) (n : ℕ) → ((h : ℕ) → h < n → get_word w (at h) ≡ 0) → fill at noughts w n ≡ w
unfolding fill
fill_zero at w zero z = refl
fill_zero at w (suc n) z = ap (λ (u : List ℕ). put_word u (at n) 0) (fill_zero at w n (λ h l. z h (omega arith))) ∙ put_zero w (at n) (z n (omega arith))

-- ---- places
module _ (t : ℕ) where
  pub first_one : (i j : ℕ) → first_p t i ≡ first_p t j → i ≡ j
  first_one = place_one t 11 5 (omega arith) (omega arith)

  pub later_one : (i j : ℕ) → later_p t i ≡ later_p t j → i ≡ j
  later_one = place_one t 13 7 (omega arith) (omega arith)

  pub first_in : (e h : ℕ) → h < t + e → first_p t h < t * 16 + e * 8
  first_in = place_in t 11 5 (omega arith) (omega arith)

  pub later_in : (e h : ℕ) → h < t + e → later_p t h < t * 16 + e * 8
  later_in = place_in t 13 7 (omega arith) (omega arith)

  pub first_later : (i j : ℕ) → first_p t i ≢ later_p t j
  first_later = place_apart t 11 5 13 7 (omega arith)

  pub later_first : (i j : ℕ) → later_p t i ≢ first_p t j
  later_first = place_apart t 13 7 11 5 (omega arith)

  record_first : (i j : ℕ) → record_p t i ≢ first_p t j
  record_first = place_apart t 0 0 11 5 (omega arith)

  record_later : (i j : ℕ) → record_p t i ≢ later_p t j
  record_later = place_apart t 0 0 13 7 (omega arith)

  -- ---- all words of the table
  module _ (n : ℕ) where
    pub over_length : (first later : ℕ → ℕ) (w : List ℕ) → length (over t n first later w) ≡ length w
    unfolding over
    over_length first later w = fill_length (first_p t) first (fill (later_p t) later w n) n ∙ fill_length (later_p t) later w n

    -- a word that is none of them
    module _ (first later : ℕ → ℕ) (w : List ℕ) (i : ℕ) (of : (h : ℕ) → i ≢ first_p t h) (ol : (h : ℕ) → i ≢ later_p t h) where
      pub get_over : get_word (over t n first later w) i ≡ get_word w i
      unfolding over
      get_over = get_else (first_p t) first (fill (later_p t) later w n) i n (λ h q. of h) ∙ get_else (later_p t) later w i n (λ h q. ol h)

      pub put_over : (v : ℕ) → put_word (over t n first later w) i v ≡ over t n first later (put_word w i v)
      unfolding over
      put_over v = put_else (first_p t) first (fill (later_p t) later w n) i v n (λ h q. of h) ∙ ap (λ (u : List ℕ). fill (first_p t) first u n) (put_else (later_p t) later w i v n (λ h q. ol h))

    -- cleared again
    pub over_over : (first later : ℕ → ℕ) (w : List ℕ) → over t n noughts noughts (over t n first later w) ≡ over t n noughts noughts w
    unfolding over
    over_over first later w =
        ap (λ (u : List ℕ). fill (first_p t) noughts u n) (fill_swap (later_p t) (first_p t) noughts first (fill (later_p t) later w n) n n later_first ∙ ap (λ (u : List ℕ). fill (first_p t) first u n) (fill_over (later_p t) later_one later noughts w n))
        ∙ fill_over (first_p t) first_one first noughts (fill (later_p t) noughts w n) n

    pub over_zero : (w : List ℕ) → ((h : ℕ) → h < n → get_word w (first_p t h) ≡ 0) → ((h : ℕ) → h < n → get_word w (later_p t h) ≡ 0) → over t n noughts noughts w ≡ w
    unfolding over
    over_zero w zf zl = ap (λ (u : List ℕ). fill (first_p t) noughts u n) (fill_zero (later_p t) w n zl) ∙ fill_zero (first_p t) w n zf

-- ---- keys
module _ (b : TypeTable) (s : List ℕ) where
  pub keys_stay : (w v : List ℕ) → ((h : ℕ) → get_word w (record_p b.types h) ≡ get_word v (record_p b.types h)) → key_in b s w ≡ key_in b s v
  unfolding key_in
  keys_stay w v e = fun_ext (λ h. ap (λ (at : ℕ). key_of s (space_at b s at h) (name_of b s at)) (e h))

  pub keys_over : (n : ℕ) (first later : ℕ → ℕ) (w : List ℕ) → key_in b s (over b.types n first later w) ≡ key_in b s w
  keys_over n first later w = keys_stay (over b.types n first later w) w (λ h. get_over b.types n first later w (record_p b.types h) (record_first b.types h) (record_later b.types h))
