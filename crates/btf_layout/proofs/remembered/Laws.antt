-- What each return of the code comes to. Assumes nothing.
use Prim.Native.Nat.{ℕ, suc, ◌+◌, ◌*◌, ◌/◌, ◌%◌, ◌<◌, ◌≤◌}
use native.Mathlib.Omega.{arith}
use mathlib.Core.Path.{◌≡◌, ap, ◌∙◌, sym}
use mathlib.Core.List.{List}
use mathlib.Core.Logic.{⊎_elim}
use borrow.Author.Tests.{lt-ltb, le-ltb, le-leb, lt-leb, ne_eqb}
use Rattle.std.proofs.lemmas.Bool.{cases_lt}
use Rattle.std.specs.Prelude.{min, max, Option, Some, None, unwrap_or, Result, Ok, Err}
use Rattle.spec_bytes.specs.declared.refusal.Refusal.{Refusal}
use Rattle.spec_bytes.specs.declared.refusal.Refusal.TheVariants.{TooDeep}
use Rattle.spec_c_dumper.specs.rules.Layout.{smaller, larger}
use Rattle.spec_type_table.specs.Cells.{get_field, put_field}
use Rattle.btf_layout.specs.declared.remembered.Seen.{Seen as Code}
use Rattle.spec_c_dumper.specs.alignment_once.Once.{Remembered, Once as Told}
use Rattle.btf_layout.specs.remembered.Words.{seen_word, coded, some_word, with_visits, remembered, seen_is, once_of, height_of, taken_by, kept_with, known_of, decoded, widest_code}

abbrev Answer : Type 0
Answer = Result Code Refusal

-- ---- words
module _ (types : ℕ) (w : List ℕ) (id : ℕ) where
  pub seen_past : types ≤ id → seen_word types w id ≡ 0
  unfolding seen_word
  seen_past l = rw (le-ltb id types l, seen_word)

  pub seen_in : id < types → seen_word types w id ≡ get_field w id 15
  unfolding seen_word
  seen_in l = rw (lt-ltb id types l, seen_word)

pub decoded_none : (v : ℕ) → v ≡ 0 → known_of None ≡ decoded v
unfolding decoded known_of
decoded_none v e = rw e

pub decoded_some : (v : ℕ) → (v ≡ 0 → ⊥) → known_of (Some (record { align = v % 16; height = v / 16 })) ≡ decoded v
unfolding decoded known_of
decoded_some v n = rw (ne_eqb v 0 n, decoded)

module _ (s : Remembered) where
  pub coded_wide : 15 < s.align → 0 ≡ coded s
  unfolding coded
  coded_wide l = rw (lt-ltb 15 s.align l, coded)

  pub coded_high : s.align ≤ 15 → 268435454 < s.height → 0 ≡ coded s
  unfolding coded
  coded_high h l = rw (le-ltb 15 s.align h, coded, lt-ltb 268435454 s.height l)

  pub coded_fits : s.align ≤ 15 → s.height ≤ 268435454 → s.height * 16 + s.align ≡ coded s
  unfolding coded
  coded_fits h l = rw (le-ltb 15 s.align h, coded, le-ltb 268435454 s.height l)

-- ---- a word that says something
no_word : (v : ℕ) → v ≡ 0 → None ≡ some_word v
unfolding some_word
no_word v e = rw e

one_word : (v : ℕ) → (v ≡ 0 → ⊥) → Some v ≡ some_word v
unfolding some_word
one_word v n = rw (ne_eqb v 0 n, some_word)

module _ (s : Remembered) where
  pub word_wide : 15 < s.align → None ≡ some_word (coded s)
  word_wide l = no_word _ (sym (coded_wide s l))

  pub word_high : s.align ≤ 15 → 268435454 < s.height → None ≡ some_word (coded s)
  word_high h l = no_word _ (sym (coded_high s h l))

  module _ (h : s.align ≤ 15) (l : s.height ≤ 268435454) where
    pub word_zero : s.height * 16 + s.align ≡ 0 → None ≡ some_word (coded s)
    word_zero e = no_word _ (sym (coded_fits s h l) ∙ e)

    pub word_some : (s.height * 16 + s.align ≡ 0 → ⊥) → Some (s.height * 16 + s.align) ≡ some_word (coded s)
    word_some n = one_word _ n ∙ ap some_word (coded_fits s h l)

word_none : (n : ℕ) → None ≡ some_word n → n ≡ 0
word_none n e =
    ⊎_elim
    (λ l. omega arith)
    (λ l. absurd (let q : 0 ≡ n = ap (λ (o : Option ℕ). unwrap_or o 0) (e ∙ sym (one_word n (λ z. omega arith))) in omega arith))
    (cases_lt n 1)

word_is : (n v : ℕ) → Some v ≡ some_word n → n ≡ v
word_is n v e =
    ⊎_elim
    (λ l. let z : n ≡ 0 = omega arith in
    let q = e ∙ sym (no_word n z) in
    absurd (let a : v ≡ 0 = ap (λ (o : Option ℕ). unwrap_or o 0) q in let b : v ≡ 1 = ap (λ (o : Option ℕ). unwrap_or o 1) q in omega arith))
    (λ l. sym (ap (λ (o : Option ℕ). unwrap_or o 0) (e ∙ sym (one_word n (λ z. omega arith)))))
    (cases_lt n 1)

-- ---- the library's least and largest
pub min_smaller : (x y : ℕ) → min x y ≡ smaller x y
unfolding smaller
min_smaller x y = ⊎_elim (λ l. rw (lt-leb x y l, smaller) (omega arith)) (λ l. rw (le-leb x y l, smaller) (omega arith)) (cases_lt y x)

pub max_larger : (x y : ℕ) → max x y ≡ larger x y
unfolding larger
max_larger x y = ⊎_elim (λ l. rw (lt-leb x y l, larger) (omega arith)) (λ l. rw (le-leb x y l, larger) (omega arith)) (cases_lt y x)

pub widest_is : (s t : Code) (a h : ℕ) → a ≡ max s.align t.align → h ≡ max s.height t.height → seen_is (record { align = a; height = h }) ≡ widest_code s t
widest_is s t a h ea eh = λ i. record { align = (ea ∙ max_larger s.align t.align) i; height = (eh ∙ max_larger s.height t.height) i }

pub visits_counted : (w : List ℕ) (n g a c : ℕ) (u : List ℕ) → g ≡ get_field w 0 2 → a ≡ min (g + n) 4294967295 → c ≡ min (a + 1) 4294967295 → u ≡ put_field w 0 2 c → u ≡ with_visits n w
unfolding with_visits
visits_counted w n g a c u eg ea ec eu =
    let once : c ≡ min (g + n + 1) 4294967295 = omega arith in
    eu ∙ ap (put_field w 0 2) (once ∙ min_smaller (g + n + 1) 4294967295 ∙ ap (λ (x : ℕ). smaller (x + n + 1) 4294967295) eg)

module _ (types id v n : ℕ) (w : List ℕ) where
  pub remember_none : v ≡ 0 → w ≡ remembered types id v n w
  unfolding remembered
  remember_none e = rw (e, remembered)

  module _ (nv : v ≡ 0 → ⊥) where
    pub remember_past : types ≤ id → w ≡ remembered types id v n w
    unfolding remembered
    remember_past l = rw (ne_eqb v 0 nv, remembered, le-leb types id l)

    pub remember_here : id < types → (w₁ w₂ : List ℕ) → w₁ ≡ with_visits n w → w₂ ≡ put_field w₁ id 15 v → w₂ ≡ remembered types id v n w
    unfolding remembered
    remember_here l w₁ w₂ e₁ e₂ = rw (ne_eqb v 0 nv, remembered, lt-leb types id l) (e₂ ∙ ap (λ (u : List ℕ). put_field u id 15 v) e₁)

module _ (types id v n : ℕ) (w : List ℕ) where
  pub remember_unsaid : None ≡ some_word v → w ≡ remembered types id v n w
  remember_unsaid e = remember_none types id v n w (word_none v e)

  pub remember_said : (x : ℕ) (u : List ℕ) → Some x ≡ some_word v → u ≡ remembered types id x n w → u ≡ remembered types id v n w
  remember_said x u e f = f ∙ ap (λ (y : ℕ). remembered types id y n w) (sym (word_is v x e))

module _ (s : Code) (left : ℕ) where
  pub taken_over : left < s.height → Err TooDeep ≡ taken_by s left
  unfolding taken_by
  taken_over l = rw (lt-ltb left s.height l, taken_by)

  pub taken_fits : s.height ≤ left → Ok s ≡ taken_by s left
  unfolding taken_by
  taken_fits l = rw (le-ltb left s.height l, taken_by)

-- ---- keep_once
pub height_of_lem : (r : Answer) (s : Code) → r ≡ Ok s → height_of r ≡ s.height
unfolding height_of
height_of_lem r s e = ap height_of e

module _ (types id n : ℕ) (w : List ℕ) where
  pub keep_ok : (s : Code) (u : List ℕ) → u ≡ remembered types id (coded (seen_is (record { align = s.align; height = s.height + 1 }))) n w
      → once_of (Ok (record { align = s.align; height = s.height + 1 })) u ≡ kept_with types id n (Ok s) w
  unfolding once_of kept_with
  keep_ok s u eu =
      ap (once_of (Ok (record { align = s.align; height = s.height + 1 }))) eu
      ∙ ap (λ (h : ℕ). kept_by (record { align = s.align; height = h })) add_one'
    where
      add_one' : s.height + 1 ≡ suc s.height
      add_one' = omega arith

      kept_by : Remembered → Told (List ℕ) Remembered
      kept_by x = once_of (Ok (record { align = x.align; height = x.height })) (remembered types id (coded x) n w)

  pub keep_got : (r : Answer) (s : Code) → r ≡ Ok s → (x : Told (List ℕ) Remembered) → x ≡ kept_with types id n (Ok s) w → x ≡ kept_with types id n r w
  keep_got r s e x ex = ex ∙ ap (λ (q : Answer). kept_with types id n q w) (sym e)

  pub keep_err : (r : Answer) (c : Refusal) → r ≡ Err c → once_of (Err c) w ≡ kept_with types id n r w
  unfolding once_of kept_with
  keep_err r c e = ap (λ (q : Answer). kept_with types id n q w) (sym e)
