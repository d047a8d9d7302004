-- A law for each return of the code, and how large the digits and the counts are. Assumes nothing.
use Prim.Native.Nat.{ℕ, zero, suc, ◌+◌, ◌-◌, ◌*◌, ◌/◌, ◌%◌, ◌<◌, ◌≤◌}
use native.Mathlib.Omega.{arith}
use native.Mathlib.Nat.{mul-le-mul_right}
use mathlib.Core.Path.{◌≡◌, refl, sym, ◌∙◌, ap}
use mathlib.Core.List.{List, [], ◌∷◌}
use mathlib.Core.Logic.{⊎_elim}
use lib.ListN.{length, get_or}
use borrow.Author.Tests.{eq-eqb, ne_eqb, lt-ltb, le-ltb}
use Rattle.std.proofs.lemmas.Bool.{cases_lt}
use Rattle.std.proofs.lemmas.List.{get_or_past}
use Rattle.spec_bytes.specs.text.Text.{ascii}
use Rattle.spec_type_table.proofs.KindLaws.{by_kind}
use Rattle.spec_type_table.specs.declared.types.TypeTable.{TypeTable}
use Rattle.spec_type_table.specs.Records.{section_word, vlen_of}
use Rattle.session_cut_marks.specs.roles.Words.{digit_at, fixed_words, entry_words, roles, column, role, role_of, words_in, word_of}
use Rattle.session_cut_marks.specs.declared.roles.Role.{Role}
use Rattle.session_cut_marks.specs.declared.roles.Role.TheVariants.{Name, Id, Plain}

-- no digit is above 9
abbrev Digits : List ℕ → Type 0
Digits [] = Unit {0}
Digits (x ∷ l) = (x ≤ 57) × Digits l

digits_few : (l : List ℕ) → Digits l → (i : ℕ) → digit_at l i ≤ 9
unfolding digit_at
digits_few [] h i = omega arith
digits_few (x ∷ l) h zero = omega (arith, h.0)
digits_few (x ∷ l) h (suc i) = digits_few l h.1 i

pub fixed_few : (k : ℕ) → fixed_words k ≤ 9
unfolding fixed_words
fixed_few k = digits_few (ascii "34363333333333433433") (omega arith, (omega arith, (omega arith, (omega arith, (omega arith, (omega arith, (omega arith, (omega arith, (omega arith, (omega arith, (omega arith, (omega arith, (omega arith, (omega arith, (omega arith, (omega arith, (omega arith, (omega arith, (omega arith, (omega arith, tt)))))))))))))))))))) k

entry_few : (k : ℕ) → entry_words k ≤ 9
unfolding entry_words
entry_few k = digits_few (ascii "00003320000002030003") (omega arith, (omega arith, (omega arith, (omega arith, (omega arith, (omega arith, (omega arith, (omega arith, (omega arith, (omega arith, (omega arith, (omega arith, (omega arith, (omega arith, (omega arith, (omega arith, (omega arith, (omega arith, (omega arith, (omega arith, tt)))))))))))))))))))) k

-- ---- columns
module _ (per j : ℕ) where
  pub column_low : j < 3 → j ≡ column per j
  unfolding column
  column_low h = rw (lt-ltb j 3 h, column)

  module _ (l : 3 ≤ j) where
    pub column_flat : per ≡ 0 → j ≡ column per j
    unfolding column
    column_flat z = rw (le-ltb j 3 l, column, eq-eqb per 0 z)

    module _ (n : per ≡ 0 → ⊥) where
      pub column_two : per ≡ 2 → 3 + (j - 3) % 2 ≡ column per j
      unfolding column
      column_two z = rw (le-ltb j 3 l, column, ne_eqb per 0 n, eq-eqb per 2 z)

      pub column_three : (per ≡ 2 → ⊥) → 3 + (j - 3) % 3 ≡ column per j
      unfolding column
      column_three z = rw (le-ltb j 3 l, column, ne_eqb per 0 n, ne_eqb per 2 z)

-- ---- words by kind
module _ (k n : ℕ) where
  -- a record without entries
  pub flat : 0 ≡ entry_words k → role_of (digit_at roles (k * 6 + (3 + n))) ≡ role_of (role k (3 + n))
  unfolding role
  flat h = let l : 3 ≤ 3 + n = omega arith in ap (λ (c : ℕ). role_of (digit_at roles (k * 6 + c))) (column_flat (entry_words k) (3 + n) l (sym h))

  two : entry_words k ≡ 2 → role_of (digit_at roles (k * 6 + (3 + n % 2))) ≡ role_of (role k (3 + n))
  unfolding role
  two h =
      let l : 3 ≤ 3 + n = omega arith in
      let y : n ≡ 3 + n - 3 = omega arith in
      ap (λ (c : ℕ). role_of (digit_at roles (k * 6 + c))) (ap (λ (u : ℕ). 3 + u % 2) y ∙ column_two (entry_words k) (3 + n) l (λ u. omega (arith, h, u)) h)

  three : entry_words k ≡ 3 → role_of (digit_at roles (k * 6 + (3 + n % 3))) ≡ role_of (role k (3 + n))
  unfolding role
  three h =
      let l : 3 ≤ 3 + n = omega arith in
      let y : n ≡ 3 + n - 3 = omega arith in
      ap (λ (c : ℕ). role_of (digit_at roles (k * 6 + c))) (ap (λ (u : ℕ). 3 + u % 3) y ∙ column_three (entry_words k) (3 + n) l (λ u. omega (arith, h, u)) (λ u. omega (arith, h, u)))

-- a kind y, and word c of its entries
module _ (y c k n : ℕ) (e : k ≡ y) where
  pub two_of : entry_words y ≡ 2 → n % 2 ≡ c → role_of (digit_at roles (y * 6 + (3 + c))) ≡ role_of (role k (3 + n))
  two_of h g = (λ i. role_of (digit_at roles (sym e i * 6 + (3 + sym g i)))) ∙ two k n (ap entry_words e ∙ h)

  pub three_of : entry_words y ≡ 3 → n % 3 ≡ c → role_of (digit_at roles (y * 6 + (3 + c))) ≡ role_of (role k (3 + n))
  three_of h g = (λ i. role_of (digit_at roles (sym e i * 6 + (3 + sym g i)))) ∙ three k n (ap entry_words e ∙ h)

-- two words of three that are the same
pub last_two : (y k n : ℕ) (r : Role) → k ≡ y → entry_words y ≡ 3 → (n % 3 ≡ 0 → ⊥) → r ≡ role_of (digit_at roles (y * 6 + 4)) → r ≡ role_of (digit_at roles (y * 6 + 5)) → r ≡ role_of (role k (3 + n))
last_two y k n r e h g a b =
    ⊎_elim (λ l. let c : n % 3 ≡ 1 = omega (arith, l, g) in a ∙ three_of y 1 k n e h c) (λ l. let c : n % 3 ≡ 2 = omega (arith, l) in b ∙ three_of y 2 k n e h c) (cases_lt (n % 3) 2)

plain : (d : ℕ) → (d ≡ 1 → ⊥) → (d ≡ 2 → ⊥) → Plain ≡ role_of d
unfolding role_of
plain zero a b = refl
plain (suc zero) a b = absurd (a refl)
plain (suc (suc zero)) a b = absurd (b refl)
plain (suc (suc (suc d))) a b = refl

-- what a digit of a row says, read as a letter
module _ (l : List ℕ) (i v : ℕ) (k : v ≡ get_or l i 48) where
  pub letter : (d : ℕ) → v ≡ d → role_of (d - 48) ≡ role_of (digit_at l i)
  unfolding digit_at
  letter d z = ap (λ (u : ℕ). role_of (u - 48)) (sym z ∙ k)

  pub letter_plain : (v ≡ 49 → ⊥) → (v ≡ 50 → ⊥) → Plain ≡ role_of (digit_at l i)
  letter_plain a b = plain (v - 48) (λ e. a (omega (arith, e))) (λ e. b (omega (arith, e))) ∙ letter v refl

-- a number that is no kind
past : (l : List ℕ) (i : ℕ) → length l ≤ i → digit_at l i ≡ 0
unfolding digit_at
past l i h = ap (λ (d : ℕ). d - 48) (get_or_past l i 48 h)

pub fixed_past : (k : ℕ) → 20 ≤ k → 0 ≡ fixed_words k
unfolding fixed_words
fixed_past k l = sym (past (ascii "34363333333333433433") k l)

entry_past : (k : ℕ) → 20 ≤ k → 0 ≡ entry_words k
unfolding entry_words
entry_past k l = sym (past (ascii "00003320000002030003") k l)

pub role_past : (k j : ℕ) → 20 ≤ k → Plain ≡ role_of (role k j)
unfolding role roles role_of
role_past k j l = sym (ap role_of (past roles (k * 6 + column (entry_words k) j) (omega (arith, l))))

pub fixed_rest : (k : ℕ) → (k ≡ 1 → ⊥) → (k ≡ 14 → ⊥) → (k ≡ 17 → ⊥) → (k ≡ 3 → ⊥) → (20 ≤ k → ⊥) → 3 ≡ fixed_words k
unfolding fixed_words digit_at
fixed_rest =
    by_kind
    (λ k. (k ≡ 1 → ⊥) → (k ≡ 14 → ⊥) → (k ≡ 17 → ⊥) → (k ≡ 3 → ⊥) → (20 ≤ k → ⊥) → 3 ≡ fixed_words k)
    (λ a b c d e. refl) (λ a b c d e. absurd (a refl)) (λ a b c d e. refl) (λ a b c d e. absurd (d refl))
    (λ a b c d e. refl) (λ a b c d e. refl) (λ a b c d e. refl) (λ a b c d e. refl) (λ a b c d e. refl) (λ a b c d e. refl)
    (λ a b c d e. refl) (λ a b c d e. refl) (λ a b c d e. refl) (λ a b c d e. refl) (λ a b c d e. absurd (b refl)) (λ a b c d e. refl)
    (λ a b c d e. refl) (λ a b c d e. absurd (c refl)) (λ a b c d e. refl) (λ a b c d e. refl) (λ k l a b c d e. absurd (e l))

pub entry_rest : (k : ℕ) → (k ≡ 4 → ⊥) → (k ≡ 5 → ⊥) → (k ≡ 15 → ⊥) → (k ≡ 19 → ⊥) → (k ≡ 6 → ⊥) → (k ≡ 13 → ⊥) → 0 ≡ entry_words k
unfolding entry_words digit_at
entry_rest =
    by_kind
    (λ k. (k ≡ 4 → ⊥) → (k ≡ 5 → ⊥) → (k ≡ 15 → ⊥) → (k ≡ 19 → ⊥) → (k ≡ 6 → ⊥) → (k ≡ 13 → ⊥) → 0 ≡ entry_words k)
    (λ a b c d e f. refl) (λ a b c d e f. refl) (λ a b c d e f. refl) (λ a b c d e f. refl)
    (λ a b c d e f. absurd (a refl)) (λ a b c d e f. absurd (b refl)) (λ a b c d e f. absurd (e refl)) (λ a b c d e f. refl)
    (λ a b c d e f. refl) (λ a b c d e f. refl) (λ a b c d e f. refl) (λ a b c d e f. refl) (λ a b c d e f. refl) (λ a b c d e f. absurd (f refl))
    (λ a b c d e f. refl) (λ a b c d e f. absurd (c refl)) (λ a b c d e f. refl) (λ a b c d e f. refl) (λ a b c d e f. refl) (λ a b c d e f. absurd (d refl))
    (λ k l a b c d e f. entry_past k l)

pub name_rest : (k : ℕ) → (k ≡ 0 → ⊥) → (20 ≤ k → ⊥) → Name ≡ role_of (role k 0)
unfolding entry_words digit_at roles column role role_of
name_rest =
    by_kind
    (λ k. (k ≡ 0 → ⊥) → (20 ≤ k → ⊥) → Name ≡ role_of (role k 0))
    (λ a b. absurd (a refl)) (λ a b. refl) (λ a b. refl) (λ a b. refl) (λ a b. refl) (λ a b. refl) (λ a b. refl) (λ a b. refl) (λ a b. refl) (λ a b. refl)
    (λ a b. refl) (λ a b. refl) (λ a b. refl) (λ a b. refl) (λ a b. refl) (λ a b. refl) (λ a b. refl) (λ a b. refl) (λ a b. refl) (λ a b. refl)
    (λ k l a b. absurd (b l))

pub info_plain : (k : ℕ) → Plain ≡ role_of (role k 1)
unfolding entry_words digit_at roles column role role_of
info_plain =
    by_kind
    (λ k. Plain ≡ role_of (role k 1))
    refl refl refl refl refl refl refl refl refl refl refl refl refl refl refl refl refl refl refl refl
    (λ k l. role_past k 1 l)

pub type_rest : (k : ℕ) → (k ≡ 2 → ⊥) → (k ≡ 8 → ⊥) → (k ≡ 9 → ⊥) → (k ≡ 10 → ⊥) → (k ≡ 11 → ⊥) → (k ≡ 12 → ⊥) → (k ≡ 13 → ⊥) → (k ≡ 14 → ⊥) → (k ≡ 17 → ⊥) → (k ≡ 18 → ⊥) → Plain ≡ role_of (role k 2)
unfolding entry_words digit_at roles column role role_of
type_rest =
    by_kind
    (λ k. (k ≡ 2 → ⊥) → (k ≡ 8 → ⊥) → (k ≡ 9 → ⊥) → (k ≡ 10 → ⊥) → (k ≡ 11 → ⊥) → (k ≡ 12 → ⊥) → (k ≡ 13 → ⊥) → (k ≡ 14 → ⊥) → (k ≡ 17 → ⊥) → (k ≡ 18 → ⊥) → Plain ≡ role_of (role k 2))
    (λ a b c d e f g h i j. refl) (λ a b c d e f g h i j. refl) (λ a b c d e f g h i j. absurd (a refl)) (λ a b c d e f g h i j. refl)
    (λ a b c d e f g h i j. refl) (λ a b c d e f g h i j. refl) (λ a b c d e f g h i j. refl) (λ a b c d e f g h i j. refl)
    (λ a b c d e f g h i j. absurd (b refl)) (λ a b c d e f g h i j. absurd (c refl)) (λ a b c d e f g h i j. absurd (d refl))
    (λ a b c d e f g h i j. absurd (e refl)) (λ a b c d e f g h i j. absurd (f refl)) (λ a b c d e f g h i j. absurd (g refl))
    (λ a b c d e f g h i j. absurd (h refl)) (λ a b c d e f g h i j. refl) (λ a b c d e f g h i j. refl)
    (λ a b c d e f g h i j. absurd (i refl)) (λ a b c d e f g h i j. absurd (j refl)) (λ a b c d e f g h i j. refl)
    (λ k l a b c d e f g h i j. role_past k 2 l)

-- a word is a name where its digit is 1, and an id where it is 2
digit_name : (d : ℕ) → role_of d ≡ Name → d ≡ 1
unfolding role_of
digit_name zero h = cc
digit_name (suc zero) h = refl
digit_name (suc (suc zero)) h = cc
digit_name (suc (suc (suc d))) h = cc

digit_id : (d : ℕ) → role_of d ≡ Id → d ≡ 2
unfolding role_of
digit_id zero h = cc
digit_id (suc zero) h = cc
digit_id (suc (suc zero)) h = refl
digit_id (suc (suc (suc d))) h = cc

module _ (r : Role) (d : ℕ) (e : r ≡ role_of d) where
  pub name_digit : r ≡ Name → d ≡ 1
  name_digit h = digit_name d (sym e ∙ h)

  pub id_digit : r ≡ Id → d ≡ 2
  id_digit h = digit_id d (sym e ∙ h)

  pub no_name_digit : (r ≡ Name → ⊥) → d ≡ 1 → ⊥
  unfolding role_of
  no_name_digit n h = n (e ∙ ap role_of h)

  pub no_id_digit : (r ≡ Id → ⊥) → d ≡ 2 → ⊥
  unfolding role_of
  no_id_digit n h = n (e ∙ ap role_of h)

pub product_few : (k g v : ℕ) → g ≡ entry_words k → v ≤ 65535 → g * v ≤ 589815
product_few k g v a c = let l : g ≤ 9 = omega (arith, a, entry_few k) in let h : g * v ≤ 9 * v = mul-le-mul_right v l in omega (arith, h, c)

pub words_are : (b : TypeTable) (s : List ℕ) (e f g a i v : ℕ) → f ≡ fixed_words (e % 32) → g ≡ entry_words (e % 32) → a ≡ e / 32 → i ≡ section_word b s (a + 4) → v ≡ vlen_of i → f + g * v ≡ words_in b s e
unfolding words_in
words_are b s e f g a i v p q d h k = λ j. p j + q j * (k ∙ ap vlen_of (h ∙ ap (λ (n : ℕ). section_word b s (n + 4)) d)) j

-- the record stands at the place of its entry
pub word_is : (b : TypeTable) (s : List ℕ) (e a j i : ℕ) → a ≡ e / 32 → i ≡ section_word b s (a + j * 4) → i ≡ word_of b s e j
unfolding word_of
word_is b s e a j i d h = h ∙ ap (λ (n : ℕ). section_word b s (n + j * 4)) d

pub words_few : (b : TypeTable) (s : List ℕ) (e : ℕ) → words_in b s e ≤ 589824
unfolding words_in
words_few b s e =
    let v : ℕ = vlen_of (section_word b s (e / 32 + 4)) in
    let h : entry_words (e % 32) * v ≤ 9 * v = mul-le-mul_right v (entry_few (e % 32)) in
    let k : v ≤ 65535 = omega arith in
    omega (arith, h, k, fixed_few (e % 32))
