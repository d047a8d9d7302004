-- What the code takes for a suffix is one: suffix_on x y is n, from 2 on, exactly if y is x, three underscores and n in decimal. Assumes nothing.
use Prim.Native.Nat.{ℕ, zero, suc, ◌+◌, ◌-◌, ◌*◌, ◌/◌, ◌%◌, ◌≤◌}
use mathlib.Core.Path.{◌≡◌, refl, sym, ◌∙◌, ap, ap₂}
use mathlib.Core.Bool.{Bool, true, false}
use mathlib.Core.List.{List, [], ◌∷◌, ◌++◌, append_assoc, append-nil}
use mathlib.Core.Logic.{◌⊎◌, inl, inr, ⊎_elim}
use native.Mathlib.Omega.{arith}
use native.Mathlib.Decide.{ℕ_discrete}
use lib.ListN.{get_or}
use lib.Dec.{eqb}
use borrow.Author.Tests.{eq-eqb, ne_eqb}
use Rattle.std.proofs.lemmas.Bool.{cases_lt}
use Rattle.spec_bytes.specs.text.Text.{ascii}
use Rattle.spec_bytes.specs.text.Decimal.{decimal}
use Rattle.spec_bytes.proofs.text.DecimalLaws.{decimal_one, decimal_more}
use Rattle.spec_bytes.proofs.text.Digits.{horner, AllDigits, Numeral, decimal_is}
use Rattle.spec_c_dumper.specs.rules.Types.{Name}
use Rattle.spec_c_dumper.specs.rules.Names.{spelled}
use Rattle.spec_c_dumper.proofs.rules.Names.{spelled_later}
use Rattle.btf_open_names.specs.filled_work.Takers.{digit_after, numeral_from, numeral, after_underscores, suffix_in, suffix_on}
use Rattle.btf_open_names.proofs.filled_work.Bytes.{digit_low, digit_high, digit_past, digit_next}

-- ---- digits
grows : (d : List ℕ) (a : ℕ) → a ≤ horner a d
grows [] a = omega arith
grows (x ∷ d) a = omega (arith, grows d (a * 10 + (x - 48)))

some : (d : List ℕ) (v : ℕ) → 1 ≤ v → elim v as (λ z. ℕ) [ zero ↦ 0 | suc u ↦ numeral_from (suc u) d ] ≡ numeral_from v d
some d zero h = absurd (omega arith)
some d (suc v) h = refl

next : (acc x : ℕ) (d : List ℕ) (v : ℕ) → digit_after acc x ≡ v → 1 ≤ v → numeral_from acc (x ∷ d) ≡ numeral_from v d
unfolding numeral_from
next acc x d v e h = ap (λ (z : ℕ). elim z as (λ y. ℕ) [ zero ↦ 0 | suc u ↦ numeral_from (suc u) d ]) e ∙ some d v h

none : (acc x : ℕ) (d : List ℕ) → digit_after acc x ≡ 0 → numeral_from acc (x ∷ d) ≡ 0
unfolding numeral_from
none acc x d e = ap (λ (z : ℕ). elim z as (λ y. ℕ) [ zero ↦ 0 | suc u ↦ numeral_from (suc u) d ]) e

nothing : (acc : ℕ) → numeral_from acc [] ≡ acc
unfolding numeral_from
nothing acc = refl

-- digits without a zero in front are read to what they mean
reads : (d : List ℕ) (acc : ℕ) → AllDigits d → (acc ≡ 0 → get_or d 0 0 ≡ 48 → ⊥) → horner acc d ≤ 4294967295 → numeral_from acc d ≡ horner acc d
reads [] acc a f h = nothing acc
reads (x ∷ d) acc a f h =
    next acc x d (acc * 10 + (x - 48)) (sym (digit_next acc x (acc * 10 + (x - 48)) a.0 a.1 refl (omega (arith, grows d (acc * 10 + (x - 48)))))) more
    ∙ reads d (acc * 10 + (x - 48)) a.2 (λ z. absurd (omega (arith, more))) h
  where
    more : 1 ≤ acc * 10 + (x - 48)
    more = go (ℕ_discrete acc 0)
      where
        go : Dec (acc ≡ 0) → 1 ≤ acc * 10 + (x - 48)
        go (yes z) = ⊎_elim (λ l. omega arith) (λ l. absurd (f z (omega (arith, a.0)))) (cases_lt 48 x)
        go (no z) = omega arith

-- what is read is spelled so
digit_cases : (acc x : ℕ) → (digit_after acc x ≡ 0) ⊎ ((48 ≤ x) × (x ≤ 57) × (acc * 10 + (x - 48) ≤ 4294967295) × (digit_after acc x ≡ acc * 10 + (x - 48)))
digit_cases acc x = ⊎_elim
    (λ l. inl (sym (digit_low acc x l)))
    (λ l. ⊎_elim
    (λ m. inl (sym (digit_high acc x l m)))
    (λ m. ⊎_elim
    (λ k. inl (sym (digit_past acc x (acc * 10 + (x - 48)) l m refl k)))
    (λ k. inr (l, m, k, sym (digit_next acc x (acc * 10 + (x - 48)) l m refl k)))
    (cases_lt 4294967295 (acc * 10 + (x - 48))))
    (cases_lt 57 x))
    (cases_lt x 48)

one_more : (acc x : ℕ) → 1 ≤ acc → 48 ≤ x → x ≤ 57 → acc * 10 + (x - 48) ≤ 4294967295 → decimal (acc * 10 + (x - 48)) ≡ decimal acc ++ (x ∷ [])
one_more acc x o l m k =
    let p : (acc * 10 + (x - 48)) / 10 ≡ acc = omega arith in
    let q : 48 + (acc * 10 + (x - 48)) % 10 ≡ x = omega arith in
    decimal_more (acc * 10 + (x - 48)) (omega arith) (omega arith) ∙ ap₂ (λ (i j : ℕ). decimal i ++ (j ∷ [])) p q

spelled_so : (d : List ℕ) (acc n : ℕ) → 1 ≤ acc → acc ≤ 4294967295 → numeral_from acc d ≡ n → 1 ≤ n → (decimal n ≡ decimal acc ++ d) × (n ≤ 4294967295)
spelled_so [] acc n o b e h = let z : acc ≡ n = sym (nothing acc) ∙ e in (ap decimal (sym z) ∙ sym (append-nil (decimal acc)), omega arith)
spelled_so (x ∷ d) acc n o b e h = ⊎_elim
    (λ z. absurd (omega (arith, none acc x d z, e)))
    (λ r.
    let v : 1 ≤ acc * 10 + (x - 48) = omega arith in
    let s = spelled_so d (acc * 10 + (x - 48)) n v r.2 (sym (next acc x d (acc * 10 + (x - 48)) r.3 v) ∙ e) h in
    (s.0 ∙ ap (λ (l : List ℕ). l ++ d) (one_more acc x o r.0 r.1 r.2) ∙ append_assoc (decimal acc) (x ∷ []) d, s.1))
    (digit_cases acc x)

numeral_is : (d : List ℕ) (n : ℕ) → numeral d ≡ n → 1 ≤ n → (d ≡ decimal n) × (n ≤ 4294967295)
numeral_is [] n e h = absurd (omega (arith, nothing 0, e))
numeral_is (x ∷ d) n e h = ⊎_elim
    (λ z. absurd (omega (arith, none 0 x d z, e)))
    (λ r. go (x - 48) refl r)
    (digit_cases 0 x)
  where
    go : (y : ℕ) → x - 48 ≡ y → (48 ≤ x) × (x ≤ 57) × (0 * 10 + (x - 48) ≤ 4294967295) × (digit_after 0 x ≡ 0 * 10 + (x - 48)) → (x ∷ d ≡ decimal n) × (n ≤ 4294967295)
    go zero q r = absurd (omega (arith, none 0 x d (r.3 ∙ omega (arith, q)), e))
    go (suc y) q r =
        let v : digit_after 0 x ≡ suc y = r.3 ∙ omega (arith, q) in
        let s = spelled_so d (suc y) n (omega arith) (omega (arith, r.1, q)) (sym (next 0 x d (suc y) v (omega arith)) ∙ e) h in
        let z : 48 + suc y ≡ x = omega (arith, r.0, q) in
        (sym (s.0 ∙ ap (λ (l : List ℕ). l ++ d) (decimal_one (suc y) (omega (arith, r.1, q)) ∙ ap (λ (i : ℕ). i ∷ []) z)), s.1)

-- ---- underscores
under_step : (k : ℕ) (l : List ℕ) (n : ℕ) → after_underscores (suc k) l ≡ n → 1 ≤ n → (m : List ℕ) × (l ≡ 95 ∷ m) × (after_underscores k m ≡ n)
unfolding after_underscores
under_step k [] n e h = absurd (omega (arith, e))
under_step k (x ∷ l) n e h = go (ℕ_discrete x 95)
  where
    by : (t : Bool) → eqb x 95 ≡ t → elim t as (λ z. ℕ) [ true ↦ after_underscores k l | false ↦ 0 ] ≡ n
    by t q = ap (λ (b : Bool). elim b as (λ z. ℕ) [ true ↦ after_underscores k l | false ↦ 0 ]) (sym q) ∙ e

    go : Dec (x ≡ 95) → (m : List ℕ) × (x ∷ l ≡ 95 ∷ m) × (after_underscores k m ≡ n)
    go (yes q) = (l, ap (λ (i : ℕ). i ∷ l) q, by true (eq-eqb x 95 q))
    go (no q) = absurd (omega (arith, by false (ne_eqb x 95 q)))

suffix_is : (l : List ℕ) (n : ℕ) → suffix_in l ≡ n → 1 ≤ n → (l ≡ ascii "___" ++ decimal n) × (n ≤ 4294967295)
unfolding after_underscores
suffix_is l n e h =
    let a = under_step 2 l n e h in
    let b = under_step 1 a.0 n a.2 h in
    let c = under_step 0 b.0 n b.2 h in
    let d = numeral_is c.0 n c.2 h in
    (a.1 ∙ ap {B = List ℕ} (λ m. 95 ∷ m) (b.1 ∙ ap {B = List ℕ} (λ m. 95 ∷ m) (c.1 ∙ ap {B = List ℕ} (λ m. 95 ∷ m) d.0)), d.1)

on_sound : (x y : List ℕ) (n : ℕ) → suffix_on x y ≡ n → 1 ≤ n → (y ≡ x ++ ascii "___" ++ decimal n) × (n ≤ 4294967295)
unfolding suffix_on
on_sound [] y n e h = suffix_is y n e h
on_sound (a ∷ x) [] n e h = absurd (omega (arith, e))
on_sound (a ∷ x) (c ∷ y) n e h = go (ℕ_discrete a c) (on_sound x y n)
  where
    by : (t : Bool) → eqb a c ≡ t → elim t as (λ z. ℕ) [ true ↦ suffix_on x y | false ↦ 0 ] ≡ n
    by t q = ap (λ (b : Bool). elim b as (λ z. ℕ) [ true ↦ suffix_on x y | false ↦ 0 ]) (sym q) ∙ e

    go : Dec (a ≡ c) → (suffix_on x y ≡ n → 1 ≤ n → (y ≡ x ++ ascii "___" ++ decimal n) × (n ≤ 4294967295)) → (c ∷ y ≡ a ∷ (x ++ ascii "___" ++ decimal n)) × (n ≤ 4294967295)
    go (yes q) f = let s = f (by true (eq-eqb a c q)) h in (ap₂ ◌∷◌ (sym q) s.0, s.1)
    go (no q) f = absurd (omega (arith, by false (ne_eqb a c q)))

-- y is x with the suffix n
pub suffix_sound : (x y : Name) (n : ℕ) → suffix_on x y ≡ n → 2 ≤ n → (y ≡ spelled x n) × (n ≤ 4294967295)
suffix_sound x y n e h = let s = on_sound x y n e (omega arith) in (s.0 ∙ sym (spelled_later x n h), s.1)

-- and every suffix is found
decimal_reads : (n : ℕ) → 2 ≤ n → n ≤ 4294967295 → numeral (decimal n) ≡ n
decimal_reads n h b =
    let d : Numeral n (decimal n) = decimal_is n (omega arith) in
    reads (decimal n) 0 d.plain (λ z. d.first (omega arith)) (omega (arith, d.means)) ∙ d.means

on_complete : (x : List ℕ) (n : ℕ) → 2 ≤ n → n ≤ 4294967295 → suffix_on x (x ++ ascii "___" ++ decimal n) ≡ n
unfolding suffix_on after_underscores
on_complete [] n h b = decimal_reads n h b
on_complete (a ∷ x) n h b = ap (λ (t : Bool). elim t as (λ z. ℕ) [ true ↦ suffix_on x (x ++ ascii "___" ++ decimal n) | false ↦ 0 ]) (eq-eqb a a refl) ∙ on_complete x n h b

pub suffix_complete : (x : Name) (n : ℕ) → 2 ≤ n → n ≤ 4294967295 → suffix_on x (spelled x n) ≡ n
suffix_complete x n h b = ap (suffix_on x) (spelled_later x n h) ∙ on_complete x n h b
