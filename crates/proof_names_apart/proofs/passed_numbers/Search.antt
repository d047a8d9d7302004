-- What the search of `proof_names_apart::names_apart` passes over, and where it ends, whatever the numbers are: a free number, or the
-- largest. Assumes nothing.
use Prim.Native.Nat.{ℕ, zero, suc, ◌+◌, ◌≤◌, ◌<◌}
use mathlib.Core.Path.{◌≡◌, refl, sym, ◌∙◌, ap}
use mathlib.Core.Bool.{Bool, true, false}
use mathlib.Core.List.{List, [], ◌∷◌}
use mathlib.Core.Logic.{◌⊎◌, inl, inr, ⊎_elim}
use native.Mathlib.Omega.{arith}
use native.Mathlib.Decide.{ℕ_discrete}
use lib.ListN.{length}
use Rattle.std.proofs.lemmas.Bool.{cases_lt}
use Rattle.spec_bytes.specs.words.Words.{one_more}
use Rattle.spec_bytes.proofs.words.Laws.{more_is, more_stuck, more_most, more_least}
use Rattle.spec_c_dumper.specs.rules.Types.{Name}
use Rattle.spec_c_dumper.specs.rules.Names.{spelled}
use Rattle.spec_c_dumper.specs.names_apart.Apart.{is_name_among, passing}
use Rattle.proof_names_apart.proofs.names_apart.Laws.{bytes_other, cut_out, suffix_one}

pub more_limit : (n : ℕ) → n ≤ 4294967295 → one_more n ≤ 4294967295
more_limit n h = ⊎_elim (λ l. omega (arith, more_is n l)) (λ l. omega (arith, more_stuck n l)) (cases_lt n 4294967295)

module _ (t : ℕ → Bool) where
  pub from : (most n : ℕ) → n ≤ passing t most n
  unfolding passing
  from zero n = omega arith
  from (suc most) n = go (t n) (from most (one_more n))
    where
      go : (b : Bool) → one_more n ≤ passing t most (one_more n) → n ≤ elim b as (λ w. ℕ) [ true ↦ passing t most (one_more n) | false ↦ n ]
      go true h = omega (arith, more_least n)
      go false h = omega arith

  pub limit : (most n : ℕ) → n ≤ 4294967295 → passing t most n ≤ 4294967295
  unfolding passing
  limit zero n l = l
  limit (suc most) n l = go (t n) (limit most (one_more n) (more_limit n l))
    where
      go : (b : Bool) → passing t most (one_more n) ≤ 4294967295 → elim b as (λ w. ℕ) [ true ↦ passing t most (one_more n) | false ↦ n ] ≤ 4294967295
      go true h = h
      go false h = l

  -- all before it is taken
  pub over : (most n m : ℕ) → n ≤ m → m < passing t most n → t m ≡ true
  unfolding passing
  over zero n m h l = absurd (omega arith)
  over (suc most) n m h l = go (t n) refl l (over most (one_more n) m)
    where
      go : (b : Bool) → t n ≡ b → m < elim b as (λ w. ℕ) [ true ↦ passing t most (one_more n) | false ↦ n ] → (one_more n ≤ m → m < passing t most (one_more n) → t m ≡ true) → t m ≡ true
      go true e k f = here (ℕ_discrete m n)
        where
          here : Dec (m ≡ n) → t m ≡ true
          here (yes q) = ap t q ∙ e
          here (no q) = f (omega (arith, more_most n)) k
      go false e k f = absurd (omega arith)

-- it ends after at most as many steps as there are names taken: l, of which t tells
pub stops : (name : Name) (most : ℕ) (t : ℕ → Bool) (l : List Name) → length l ≤ most → (n : ℕ) → 2 ≤ n → n ≤ 4294967295
    → ((m : ℕ) → n ≤ m → m ≤ 4294967295 → t m ≡ is_name_among (spelled name m) l) → (t (passing t most n) ≡ false) ⊎ (4294967295 ≤ passing t most n)
unfolding passing is_name_among
stops name zero t [] h n k b f = inl (f n (omega arith) b)
stops name zero t (x ∷ l) h n k b f = absurd (omega arith)
stops name (suc most) t l h n k b f = ⊎_elim (λ q. go (t n) refl (λ c e g. stops name most t c e (n + 1) (omega arith) (omega arith) g) q) (λ q. inr (omega (arith, from t (suc most) n))) (cases_lt n 4294967295)
  where
    go : (b' : Bool) → t n ≡ b'
        → ((c : List Name) → length c ≤ most → ((m : ℕ) → n + 1 ≤ m → m ≤ 4294967295 → t m ≡ is_name_among (spelled name m) c) → (t (passing t most (n + 1)) ≡ false) ⊎ (4294967295 ≤ passing t most (n + 1)))
        → n < 4294967295
        → (t (elim b' as (λ w. ℕ) [ true ↦ passing t most (one_more n) | false ↦ n ]) ≡ false) ⊎ (4294967295 ≤ elim b' as (λ w. ℕ) [ true ↦ passing t most (one_more n) | false ↦ n ])
    go true e r q =
        let c = cut_out (spelled name n) l (sym (f n (omega arith) b) ∙ e) in
        let u : one_more n ≡ n + 1 = more_is n q in
        let z = r c.0 (omega (arith, c.1))
        (λ m lo hi. f m (omega arith) hi ∙ c.2 (spelled name m) (bytes_other (spelled name m) (spelled name n) (λ p. let x : m ≡ n = suffix_one name m n (omega arith) k hi b p in omega arith))) in
        ⊎_elim (λ x. inl (ap (λ (y : ℕ). t (passing t most y)) u ∙ x)) (λ x. inr (omega (arith, x, ap (passing t most) u))) z
    go false e r q = inl e
