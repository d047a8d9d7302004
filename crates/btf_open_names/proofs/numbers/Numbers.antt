-- Laws of the number over taken ones: it is the least that has k free numbers up to it, it is free itself, and a search that passes over the taken
-- numbers and those of the holders before ends at it. Assumes nothing.
use Prim.Native.Nat.{ℕ, zero, suc, ◌+◌, ◌-◌, ◌≤◌, ◌<◌}
use mathlib.Core.Path.{◌≡◌, refl, sym, ◌∙◌, ap, subst}
use mathlib.Core.Bool.{Bool, true, false, true≢false}
use mathlib.Core.List.Memᴰ
use mathlib.Core.List.{List, [], ◌∷◌, Memᴰ}
use mathlib.Core.Logic.{◌⊎◌, inl, inr, ⊎_elim}
use native.Mathlib.Omega.{arith}
use native.Mathlib.Decide.{ℕ_discrete}
use lib.ListN.{length}
use lib.Dec.{leb}
use borrow.Author.Tests.{leb-true, leb-false, lt-ltb, le-ltb}
use Rattle.std.proofs.lemmas.Bool.{cases_lt}
use Rattle.spec_bytes.specs.words.Words.{pick}
use Rattle.spec_type_table.specs.Numbers.{below, capped, settled, number_over}
use Rattle.btf_open_names.specs.numbers.Lists.{Distinct, Suffixes}

-- ---- how many are at most n

mono : (ts : List ℕ) (a b : ℕ) → a ≤ b → below ts a ≤ below ts b
unfolding below
mono [] a b h = omega arith
mono (t ∷ ts) a b h = go (leb t a) refl (leb t b) refl (mono ts a b h)
  where
    go : (p : Bool) → leb t a ≡ p → (q : Bool) → leb t b ≡ q → below ts a ≤ below ts b
        → elim p as (λ z. ℕ) [ true ↦ suc (below ts a) | false ↦ below ts a ] ≤ elim q as (λ z. ℕ) [ true ↦ suc (below ts b) | false ↦ below ts b ]
    go true e true f r = omega arith
    go true e false f r = absurd (omega (arith, leb-true t a e, leb-false t b f))
    go false e true f r = omega arith
    go false e false f r = r

most : (ts : List ℕ) (n : ℕ) → below ts n ≤ length ts
unfolding below
most [] n = omega arith
most (t ∷ ts) n = go (leb t n) (most ts n)
  where
    go : (p : Bool) → below ts n ≤ length ts → elim p as (λ z. ℕ) [ true ↦ suc (below ts n) | false ↦ below ts n ] ≤ suc (length ts)
    go true r = omega arith
    go false r = omega arith

-- a number that is none of them, and one that is
up_out : (ts : List ℕ) (n : ℕ) → (Memᴰ (suc n) ts → ⊥) → below ts (suc n) ≡ below ts n
unfolding below
up_out [] n h = refl
up_out (t ∷ ts) n h = go (leb t n) refl (leb t (suc n)) refl (up_out ts n (λ m. h (Memᴰ.tail m)))
  where
    go : (p : Bool) → leb t n ≡ p → (q : Bool) → leb t (suc n) ≡ q → below ts (suc n) ≡ below ts n
        → ◌≡◌ {A = ℕ} (elim q as (λ z. ℕ) [ true ↦ suc (below ts (suc n)) | false ↦ below ts (suc n) ]) (elim p as (λ z. ℕ) [ true ↦ suc (below ts n) | false ↦ below ts n ])
    go true e true f r = ap suc r
    go true e false f r = absurd (omega (arith, leb-true t n e, leb-false t (suc n) f))
    go false e true f r = absurd (h (Memᴰ.head (same (leb-false t n e) (leb-true t (suc n) f))))
      where
        same : n < t → t ≤ suc n → suc n ≡ t
        same x y = omega arith
    go false e false f r = r

up_in : (ts : List ℕ) (n : ℕ) → Memᴰ (suc n) ts → below ts n + 1 ≤ below ts (suc n)
unfolding below
up_in [] n m = absurd (Memᴰ.not-nil m)
up_in (t ∷ ts) n m = go (leb t n) refl (leb t (suc n)) refl (Memᴰ.cases_cons m) (up_in ts n) (mono ts n (suc n) (omega arith))
  where
    go : (p : Bool) → leb t n ≡ p → (q : Bool) → leb t (suc n) ≡ q → (suc n ≡ t) ⊎ Memᴰ (suc n) ts → (Memᴰ (suc n) ts → below ts n + 1 ≤ below ts (suc n)) → below ts n ≤ below ts (suc n)
        → elim p as (λ z. ℕ) [ true ↦ suc (below ts n) | false ↦ below ts n ] + 1 ≤ elim q as (λ z. ℕ) [ true ↦ suc (below ts (suc n)) | false ↦ below ts (suc n) ]
    go true e true f (inl c) r s = absurd (omega (arith, leb-true t n e))
    go true e true f (inr k) r s = omega (arith, r k)
    go true e false f c r s = absurd (omega (arith, leb-true t n e, leb-false t (suc n) f))
    go false e true f c r s = omega arith
    go false e false f (inl c) r s = absurd (omega (arith, leb-false t (suc n) f))
    go false e false f (inr k) r s = r k

up_one : (ts : List ℕ) → Distinct ts → (n : ℕ) → below ts (suc n) ≤ below ts n + 1
unfolding below
up_one [] d n = omega arith
up_one (t ∷ ts) d n = go (leb t n) refl (leb t (suc n)) refl (up_one ts d.1 n)
  where
    go : (p : Bool) → leb t n ≡ p → (q : Bool) → leb t (suc n) ≡ q → below ts (suc n) ≤ below ts n + 1
        → elim q as (λ z. ℕ) [ true ↦ suc (below ts (suc n)) | false ↦ below ts (suc n) ] ≤ elim p as (λ z. ℕ) [ true ↦ suc (below ts n) | false ↦ below ts n ] + 1
    go true e true f r = omega arith
    go true e false f r = absurd (omega (arith, leb-true t n e, leb-false t (suc n) f))
    go false e true f r =
        let c : suc n ≡ t = same (leb-false t n e) (leb-true t (suc n) f) in
        omega (arith, up_out ts n (λ m. d.0 (subst (λ (x : ℕ). Memᴰ x ts) c m)))
      where
        same : n < t → t ≤ suc n → suc n ≡ t
        same x y = omega arith
    go false e false f r = r

-- between two numbers there are no more of them than numbers
up_some : (ts : List ℕ) → Distinct ts → (a d : ℕ) → below ts (a + d) ≤ below ts a + d
up_some ts D a zero = let e : a ≡ a + 0 = omega arith in let h : below ts a ≤ below ts a + 0 = omega arith in subst (λ (x : ℕ). below ts x ≤ below ts a + 0) e h
up_some ts D a (suc d) =
    let e : suc (a + d) ≡ a + suc d = omega arith in
    let h : below ts (suc (a + d)) ≤ below ts a + suc d = omega (arith, up_one ts D (a + d), up_some ts D a d) in
    subst (λ (x : ℕ). below ts x ≤ below ts a + suc d) e h

up_to : (ts : List ℕ) → Distinct ts → (a b : ℕ) → a ≤ b → below ts b + a ≤ below ts a + b
up_to ts D a b h = let e : a + (b - a) ≡ b = omega arith in omega (arith, subst (λ (x : ℕ). below ts x ≤ below ts a + (b - a)) e (up_some ts D a (b - a)))

low : (ts : List ℕ) → Suffixes ts → below ts 1 ≡ 0
unfolding below
low [] S = refl
low (t ∷ ts) S = go (leb t 1) refl (low ts (λ n m. S n (Memᴰ.tail m)))
  where
    go : (p : Bool) → leb t 1 ≡ p → below ts 1 ≡ 0 → ◌≡◌ {A = ℕ} (elim p as (λ z. ℕ) [ true ↦ suc (below ts 1) | false ↦ below ts 1 ]) 0
    go true e r = absurd (omega (arith, leb-true t 1 e, (S t (Memᴰ.head refl)).0))
    go false e r = r

fewer : (ts : List ℕ) → Distinct ts → Suffixes ts → (n : ℕ) → below ts (suc n) ≤ n
fewer ts D S zero = omega (arith, low ts S)
fewer ts D S (suc n) = omega (arith, up_one ts D (suc n), fewer ts D S n)

-- ---- the cap

cap_low : (n : ℕ) → n < 4294967295 → capped n ≡ n
unfolding capped
cap_low n h = ap (λ (t : Bool). pick t n 4294967295) (lt-ltb n 4294967295 h)

cap_high : (n : ℕ) → 4294967295 ≤ n → capped n ≡ 4294967295
unfolding capped
cap_high n h = ap (λ (t : Bool). pick t n 4294967295) (le-ltb n 4294967295 h)

-- ---- the number settles

module _ (ts : List ℕ) (k : ℕ) where
  abbrev step : ℕ → ℕ
  step n = capped (k + below ts n)

  pub record Settles (n : ℕ) : Type 0 where
    pub fixed : step n ≡ n
    pub least : (m : ℕ) → k + below ts m ≤ m → n ≤ m
    pub start : k ≤ n
    pub limit : n ≤ 4294967295

  step_up : (a b : ℕ) → a ≤ b → step a ≤ step b
  step_up a b h = ⊎_elim
      (λ l. ⊎_elim
      (λ m. omega (arith, mono ts a b h, cap_low (k + below ts a) l, cap_low (k + below ts b) m))
      (λ m. omega (arith, cap_low (k + below ts a) l, cap_high (k + below ts b) m))
      (cases_lt (k + below ts b) 4294967295))
      (λ l. ⊎_elim
      (λ m. absurd (omega (arith, mono ts a b h)))
      (λ m. omega (arith, cap_high (k + below ts a) l, cap_high (k + below ts b) m))
      (cases_lt (k + below ts b) 4294967295))
      (cases_lt (k + below ts a) 4294967295)

  step_limit : (a : ℕ) → (step a ≤ 4294967295) × (step a ≤ k + below ts a)
  step_limit a = ⊎_elim
      (λ l. (omega (arith, cap_low (k + below ts a) l), omega (arith, cap_low (k + below ts a) l)))
      (λ l. (omega (arith, cap_high (k + below ts a) l), omega (arith, cap_high (k + below ts a) l)))
      (cases_lt (k + below ts a) 4294967295)

  goes : (turns n : ℕ) → n ≤ step n → (step n ≡ n) ⊎ (length ts + 1 ≤ turns + below ts n) → ((m : ℕ) → k + below ts m ≤ m → n ≤ m) → k ≤ n → n ≤ 4294967295 → Settles (settled ts k turns n)
  unfolding settled
  goes zero n up p least start limit = ⊎_elim
      (λ e. record { fixed = e; least = least; start = start; limit = limit })
      (λ l. absurd (omega (arith, most ts n)))
      p
  goes (suc turns) n up p least start limit =
      goes turns (step n) (step_up n (step n) up) next
      (λ m h. ⊎_elim
      (λ l. omega (arith, (step_limit n).1, mono ts n m (least m h)))
      (λ l. omega (arith, (step_limit n).1, mono ts n m (least m h)))
      (cases_lt m n))
      (omega arith)
      (step_limit n).0
    where
      next : (step (step n) ≡ step n) ⊎ (length ts + 1 ≤ turns + below ts (step n))
      next = ⊎_elim
          (λ e. inl (ap step e))
          (λ l. go (ℕ_discrete (below ts (step n)) (below ts n)) l)
          p
        where
          go : Dec (below ts (step n) ≡ below ts n) → length ts + 1 ≤ suc turns + below ts n → (step (step n) ≡ step n) ⊎ (length ts + 1 ≤ turns + below ts (step n))
          go (yes e) l = inl (ap (λ (x : ℕ). capped (k + x)) e)
          go (no e) l = inr (omega (arith, mono ts n (step n) up))

  pub settles : k ≤ 4294967295 → Settles (number_over ts k)
  unfolding number_over
  settles h = goes (length ts) k up first (λ m l. omega arith) (omega arith) h
    where
      up : k ≤ step k
      up = ⊎_elim (λ l. omega (arith, cap_low (k + below ts k) l)) (λ l. omega (arith, cap_high (k + below ts k) l)) (cases_lt (k + below ts k) 4294967295)

      first : (step k ≡ k) ⊎ (length ts + 1 ≤ length ts + below ts k)
      first = go (below ts k) refl
        where
          go : (c : ℕ) → below ts k ≡ c → (step k ≡ k) ⊎ (length ts + 1 ≤ length ts + below ts k)
          go zero e = inl (⊎_elim
              (λ l. omega (arith, cap_low (k + below ts k) l))
              (λ l. omega (arith, cap_high (k + below ts k) l))
              (cases_lt (k + below ts k) 4294967295))
          go (suc c) e = inr (omega arith)

  -- below the cap it has k free numbers up to it, and is free
  pub exact : (n : ℕ) → Settles n → n < 4294967295 → k + below ts n ≡ n
  exact n s l = ⊎_elim
      (λ m. sym (cap_low (k + below ts n) m) ∙ s.fixed)
      (λ m. absurd (omega (arith, cap_high (k + below ts n) m, s.fixed)))
      (cases_lt (k + below ts n) 4294967295)

  pub free : 1 ≤ k → (n : ℕ) → Settles n → n < 4294967295 → Memᴰ n ts → ⊥
  free h zero s l m = omega (arith, s.start)
  free h (suc n) s l m = omega (arith, s.least n (omega (arith, exact (suc n) s l, up_in ts n m)))

-- the first holder is bare
pub first_is : (ts : List ℕ) → Suffixes ts → number_over ts 1 ≡ 1
first_is ts S = let s : Settles ts 1 (number_over ts 1) = settles ts 1 (omega arith) in omega (arith, s.start, s.least 1 (omega (arith, low ts S)))

-- ---- the search ends at it

module _ (ts : List ℕ) (D : Distinct ts) (S : Suffixes ts) (k : ℕ) (two : 2 ≤ k) (limit : k ≤ 4294967295) (t : ℕ → Bool)
    (listed : (m : ℕ) → k ≤ m → Memᴰ m ts → t m ≡ true)
    (before : (j : ℕ) → 2 ≤ j → j < k → t (number_over ts j) ≡ true)
    (only : (m : ℕ) → k ≤ m → m < 4294967295 → t m ≡ true → Memᴰ m ts ⊎ ((j : ℕ) × (2 ≤ j) × (j < k) × (m ≡ number_over ts j))) where
  r : ℕ
  r = number_over ts k

  s : Settles ts k (number_over ts k)
  s = settles ts k limit

  -- a free number before it is that of a holder before
  its : (p : ℕ) → k ≤ p → p < number_over ts k → (Memᴰ p ts → ⊥) → (j : ℕ) × (2 ≤ j) × (j < k) × (number_over ts j ≡ p)
  its zero h l n = absurd (omega arith)
  its (suc zero) h l n = absurd (omega arith)
  its (suc (suc q)) h l n = (p - below ts p, two', less, same)
    where
      p : ℕ
      p = suc (suc q)

      out : below ts (suc (suc q)) ≡ below ts (suc q)
      out = up_out ts (suc q) n

      few : below ts (suc q) ≤ q
      few = fewer ts D S q

      two' : 2 ≤ suc (suc q) - below ts (suc (suc q))
      two' = omega (arith, out, few)

      less : suc (suc q) - below ts (suc (suc q)) < k
      less = ⊎_elim (λ m. m) (λ m. absurd (omega (arith, out, few, l, s.least (suc (suc q)) (omega (arith, out, few))))) (cases_lt (suc (suc q) - below ts (suc (suc q))) k)

      s' : Settles ts (suc (suc q) - below ts (suc (suc q))) (number_over ts (suc (suc q) - below ts (suc (suc q))))
      s' = settles ts (suc (suc q) - below ts (suc (suc q))) (omega (arith, less, limit))

      same : number_over ts (suc (suc q) - below ts (suc (suc q))) ≡ suc (suc q)
      same = ⊎_elim
          (λ m. absurd (omega (arith, out, few, s.limit, exact ts (suc (suc q) - below ts (suc (suc q))) (number_over ts (suc (suc q) - below ts (suc (suc q)))) s' (omega (arith, s.limit)), up_to ts D (number_over ts (suc (suc q) - below ts (suc (suc q)))) (suc q) (omega arith))))
          (λ m. omega (arith, s'.least (suc (suc q)) (omega (arith, out, few))))
          (cases_lt (number_over ts (suc (suc q) - below ts (suc (suc q)))) (suc (suc q)))

  pub ends : (p : ℕ) → k ≤ p → p ≤ 4294967295 → ((m : ℕ) → k ≤ m → m < p → t m ≡ true) → (t p ≡ false) ⊎ (4294967295 ≤ p) → p ≡ number_over ts k
  ends p h l all stop = ⊎_elim
      (λ m. absurd (late m))
      (λ m. ⊎_elim (λ m'. absurd (early m')) (λ m'. omega arith) (cases_lt p (number_over ts k)))
      (cases_lt (number_over ts k) p)
    where
      early : p < number_over ts k → ⊥
      early m = ⊎_elim
          (λ e.
          let w = its p h m (λ x. true≢false (sym (listed p h x) ∙ e)) in
          true≢false (sym (before w.0 w.1 w.2) ∙ ap t w.3 ∙ e))
          (λ e. omega (arith, s.limit))
          stop

      late : number_over ts k < p → ⊥
      late m = ⊎_elim
          (λ x. free ts k (omega arith) (number_over ts k) s (omega arith) x)
          (λ w.
          let s' : Settles ts w.0 (number_over ts w.0) = settles ts w.0 (omega (arith, w.2)) in
          let e : number_over ts k ≡ number_over ts w.0 = w.3 in
          let x : below ts (number_over ts k) ≡ below ts (number_over ts w.0) = ap (below ts) e in
          omega (arith, w.2, e, x, exact ts k (number_over ts k) s (omega arith), exact ts w.0 (number_over ts w.0) s' (omega (arith, e))))
          (only (number_over ts k) s.start (omega arith) (all (number_over ts k) s.start m))

-- ---- as the code finds it: from k on, a step at a time, until there is none

module _ (ts : List ℕ) (k : ℕ) where
  pub record Nears (n : ℕ) : Type 0 where
    pub up : n ≤ capped (k + below ts n)
    pub least : (m : ℕ) → k + below ts m ≤ m → n ≤ m
    pub start : k ≤ n
    pub limit : n ≤ 4294967295

  pub nears_first : k ≤ 4294967295 → Nears k
  nears_first h = record {
    up = ⊎_elim (λ l. omega (arith, cap_low (k + below ts k) l)) (λ l. omega (arith, cap_high (k + below ts k) l)) (cases_lt (k + below ts k) 4294967295);
    least = λ m l. omega arith;
    start = omega arith;
    limit = h;
  }

  pub nears_next : (n m : ℕ) → m ≡ capped (k + below ts n) → Nears n → Nears m
  nears_next n m e s = subst Nears (sym e) (record {
    up = step_up ts k n (step ts k n) s.up;
    least = λ m l. omega (arith, (step_limit ts k n).1, mono ts n m (s.least m l));
    start = omega (arith, s.up, s.start);
    limit = (step_limit ts k n).0;
  })

  at_most : (n m : ℕ) → Settles ts k n → Settles ts k m → n ≤ m
  at_most n m s t = ⊎_elim (λ l. s.least m (omega (arith, exact ts k m t l))) (λ l. omega (arith, s.limit)) (cases_lt m 4294967295)

  pub nears_end : (n m : ℕ) → m ≡ capped (k + below ts n) → m ≤ n → Nears n → n ≡ number_over ts k
  nears_end n m e l s =
      let a : Settles ts k n = record { fixed = omega (arith, e, s.up); least = s.least; start = s.start; limit = s.limit } in
      let b : Settles ts k (number_over ts k) = settles ts k (omega (arith, s.start, s.limit)) in
      omega (arith, at_most n (number_over ts k) a b, at_most (number_over ts k) n b a)
