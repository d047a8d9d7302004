-- The test `leads_to` holds exactly of what leads to a prototype. Assumes nothing.
use Prim.Native.Nat.{ℕ, zero, suc, ◌-◌, ◌<◌, ◌≤◌}
use mathlib.Core.Path.{◌≡◌, refl, ap, ◌∙◌, sym, subst}
use mathlib.Core.Bool.{Bool, true, false, true≢false}
use mathlib.Core.Logic.{⊎_elim, ◌↔◌}
use native.Mathlib.Omega.{arith}
use lib.Dec.{eqb}
use borrow.Author.Tests.{eqb-true}
use Rattle.std.proofs.lemmas.Bool.{cases_lt}
use Rattle.btf_open_causes.specs.prototypes.Track.{Track, Leads, here, on, chase, leads_to}
use Rattle.btf_open_causes.specs.prototypes.Cells.{iter}
use Rattle.btf_open_causes.proofs.references.Twice.{Twice, twice}

module _ (T : Track) where
  chase_leads : (k x : ℕ) → chase T k x ≡ true → Leads T x
  unfolding chase
  chase_leads zero x e = absurd (true≢false (sym e))
  chase_leads (suc k) x e = go (eqb (T.what x) 2) refl e (chase_leads k (T.next x))
    where
      pass : (t : Bool) → eqb (T.what x) 1 ≡ t → (elim t as (λ z. Bool) [ true ↦ chase T k (T.next x) | false ↦ false ]) ≡ true
          → (chase T k (T.next x) ≡ true → Leads T (T.next x)) → Leads T x
      pass true p q ih = on (eqb-true (T.what x) 1 p) (ih q)
      pass false p q ih = absurd (true≢false (sym q))

      go : (t : Bool) → eqb (T.what x) 2 ≡ t
          → (elim t as (λ z. Bool) [ true ↦ true | false ↦ elim (eqb (T.what x) 1) [ true ↦ chase T k (T.next x) | false ↦ false ] ]) ≡ true
          → (chase T k (T.next x) ≡ true → Leads T (T.next x)) → Leads T x
      go true p q ih = here (eqb-true (T.what x) 2 p)
      go false p q ih = pass (eqb (T.what x) 1) refl q ih

  -- the same with the count of steps
  data Links : ℕ → ℕ → Type 0 where
    arrived : {x k : ℕ} → T.what x ≡ 2 → k ≡ 0 → Links x k
    link : {x j k : ℕ} → T.what x ≡ 1 → Links (T.next x) j → k ≡ suc j → Links x k

  to_links : {x : ℕ} → Leads T x → (k : ℕ) × Links x k
  to_links (here e) = (0, arrived e refl)
  to_links (on e r) = let q = to_links r in (suc q.0, link e q.1 refl)

  same_length : {x k k' : ℕ} → Links x k → Links x k' → k ≡ k'
  same_length (arrived e p) (arrived f q) = p ∙ sym q
  same_length (arrived e p) (link f r q) = absurd (omega arith)
  same_length (link e r p) (arrived f q) = absurd (omega arith)
  same_length (link e r p) (link f r' q) = p ∙ ap suc (same_length r r') ∙ sym q

  chase_finds : {x k : ℕ} → Links x k → (n : ℕ) → k < n → chase T n x ≡ true
  unfolding chase
  chase_finds l zero h = absurd (omega arith)
  chase_finds (arrived e p) (suc n) h = rw (e, chase)
  chase_finds {x = x} (link {j = j} e r p) (suc n) h = rw (e, chase, e) (chase_finds {x = T.next x} {k = j} r n (omega arith))

  -- each node of the way has its own count
  along : {x k : ℕ} → Links x k → (i : ℕ) → i ≤ k → Links (iter T i x) (k - i)
  unfolding iter
  along {x} {k} l zero h = let e : k ≡ k - 0 = omega arith in subst (Links x) e l
  along {x} {k} l (suc i) h = go (along l i (omega arith))
    where
      go : Links (iter T i x) (k - i) → Links (T.next (iter T i x)) (k - suc i)
      go (arrived e p) = absurd (omega arith)
      go (link {j = j} e r p) = let q : j ≡ k - suc i = omega arith in subst (Links (T.next (iter T i x))) q r

  in_size : {x k : ℕ} → Links x k → x < T.size
  in_size {x} l = ⊎_elim (λ p. p) (λ p. absurd (none l (T.out x p))) (cases_lt x T.size)
    where
      none : {k : ℕ} → Links x k → T.what x ≡ 0 → ⊥
      none (arrived e p) z = omega arith
      none (link e r p) z = omega arith

  short : {x k : ℕ} → Links x k → k < T.size
  short {x} {k} l = ⊎_elim (λ p. p) long (cases_lt k T.size)
    where
      long : T.size ≤ k → k < T.size
      long h = clash (twice T.size (λ i. iter T i x) (λ i p. in_size (along l i (omega arith))))
        where
          clash : Twice (λ i. iter T i x) T.size → k < T.size
          clash t =
              let a : t.i ≤ k = omega (arith, t.less, t.last) in
              let b : t.j ≤ k = omega (arith, t.last) in
              absurd (omega (arith, t.less, same_length (along l t.i a) (subst (λ (z : ℕ). Links z (k - t.j)) (sym t.same) (along l t.j b))))

  -- THE THEOREM
  pub leads_to_lem : (x : ℕ) → (leads_to T x ≡ true) ↔ Leads T x
  unfolding leads_to
  leads_to_lem x = (chase_leads T.size x, λ l. let q = to_links l in chase_finds q.1 T.size (short q.1))

  -- as an answer
  pub leads_yes : (x : ℕ) → Leads T x → true ≡ leads_to T x
  leads_yes x l = sym ((leads_to_lem x).1 l)

  pub leads_no : (x : ℕ) → (Leads T x → ⊥) → false ≡ leads_to T x
  leads_no x n = go (leads_to T x) refl
    where
      go : (t : Bool) → leads_to T x ≡ t → false ≡ t
      go true e = absurd (n ((leads_to_lem x).0 e))
      go false e = refl
