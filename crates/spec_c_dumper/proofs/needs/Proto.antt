-- Refusal 7 as a test that ends: follow single targets for as many steps as there are types. What it passes has no prototype there.
use Prim.Native.Nat.{ℕ, zero, suc, ◌<◌, ◌≤◌}
use native.Mathlib.Decide.{ℕ_discrete}
use native.Mathlib.Omega.{arith}
use mathlib.Core.Path.{◌≡◌, refl, sym, ◌∙◌, ap, subst}
use mathlib.Core.Bool.{true, false, not, ◌&&◌, true≢false, and-false}
use mathlib.Core.List.Memᴰ
use mathlib.Core.List.{[], ◌∷◌, Memᴰ}
use mathlib.Core.Logic.{◌⊎◌, inl, inr}
use Rattle.spec_c_dumper.specs.rules.Order.{Node, ignored, plain, listed, through, ptr, tdef, proto, comp, Table, is_comp, Mark, new, done}
use Rattle.spec_c_dumper.specs.needs.Needs.{kids, weaken, is_proto, ProtoVia, it, on}
use Rattle.spec_c_dumper.proofs.needs.Ways.{tally, tally_max, tally_more}
use Rattle.spec_c_dumper.specs.needs.Proto.{yes_proto, to, step_of, chase_by, chase}

data Links (T : Table) : ℕ → ℕ → Type 0 where
  arrived : {x k : ℕ} → step_of (T.node x) ≡ yes_proto → k ≡ 0 → Links T x k
  link : {x t j k : ℕ} → step_of (T.node x) ≡ to t → Links T t j → k ≡ suc j → Links T x k

same_length : {T : Table} {x k k' : ℕ} → Links T x k → Links T x k' → k ≡ k'
same_length (arrived e p) (arrived f q) = cc
same_length (arrived e p) (link f r q) = let z : ◌≡◌ {A = ℕ} 0 1 = cc in absurd (none z)
  where
    none : ◌≡◌ {A = ℕ} 0 1 → ⊥
    none z = omega arith
same_length (link e r p) (arrived f q) = let z : ◌≡◌ {A = ℕ} 0 1 = cc in absurd (none z)
  where
    none : ◌≡◌ {A = ℕ} 0 1 → ⊥
    none z = omega arith
same_length {T} (link {t = t} {j = j} e r p) (link {t = t'} {j = j'} f r' q) =
    let s : t' ≡ t = cc in
    p ∙ ap suc (same_length r (subst (λ (k : ℕ). Links T k j') s r')) ∙ sym q

to_links : {T : Table} {x : ℕ} → ProtoVia T x → (k : ℕ) × Links T x k
to_links {T} (it {x = x} e) = (0, arrived (go (T.node x) e) refl)
  where
    go : (nd : Node) → is_proto nd ≡ true → step_of nd ≡ yes_proto
    go ignored q = absurd (true≢false (sym q))
    go plain q = absurd (true≢false (sym q))
    go (listed f) q = absurd (true≢false (sym q))
    go (through a t) q = absurd (true≢false (sym q))
    go (ptr t) q = absurd (true≢false (sym q))
    go (tdef t) q = absurd (true≢false (sym q))
    go (proto ts) q = refl
    go (comp ts) q = absurd (true≢false (sym q))
to_links {T} (on {x = x} {y = y} c w m p) = go (to_links p) (T.node x) refl
  where
    one : (nd : Node) (t : ℕ) → T.node x ≡ nd → kids nd ≡ t ∷ [] → step_of nd ≡ to t → (k : ℕ) × Links T y k → (k : ℕ) × Links T x k
    one nd t e q s r = (suc r.0, link (ap step_of e ∙ s) (subst (λ (z : ℕ). Links T z r.0) (Memᴰ.eq_of_singleton (subst (Memᴰ y) (ap kids e ∙ q) m)) r.1) refl)

    go : (k : ℕ) × Links T y k → (nd : Node) → T.node x ≡ nd → (k : ℕ) × Links T x k
    go r ignored e = absurd (Memᴰ.not-nil (subst (λ (k : Node). Memᴰ y (kids k)) e m))
    go r plain e = absurd (Memᴰ.not-nil (subst (λ (k : Node). Memᴰ y (kids k)) e m))
    go r (listed f) e = absurd (Memᴰ.not-nil (subst (λ (k : Node). Memᴰ y (kids k)) e m))
    go r (through a t) e = one (through a t) t e refl refl r
    go r (ptr t) e = absurd (true≢false (ap (λ (k : Node). weaken T k false) (sym e) ∙ w))
    go r (tdef t) e = one (tdef t) t e refl refl r
    go r (proto ts) e = (0, arrived (ap step_of e) refl)
    go r (comp ts) e = absurd (true≢false (ap is_comp (sym e) ∙ c))

chase_finds : {T : Table} {x k : ℕ} → Links T x k → (n : ℕ) → k < n → chase n T x ≡ true
unfolding chase
chase_finds l zero h = absurd (none h)
  where
    none : {k : ℕ} → k < 0 → ⊥
    none z = omega arith
chase_finds (arrived e p) (suc n) h = rw e refl
chase_finds (link e r p) (suc n) h = rw e (chase_finds r n (omega arith))

-- x marked too
mark_x : (ℕ → Mark) → ℕ → ℕ → Mark
mark_x f x d = elim (ℕ_discrete d x) [ yes q ↦ done | no q ↦ f d ]

mark_x_same : (f : ℕ → Mark) (x : ℕ) → mark_x f x x ≡ done
unfolding mark_x
mark_x_same f x = go (ℕ_discrete x x)
  where
    go : (r : Dec (x ≡ x)) → (elim r as (λ z. Mark) [ yes q ↦ done | no q ↦ f x ]) ≡ done
    go (yes q) = refl
    go (no q) = absurd (q refl)

mark_x_cases : (f : ℕ → Mark) (x d : ℕ) → mark_x f x d ≡ done → (d ≡ x) ⊎ (f d ≡ done)
unfolding mark_x
mark_x_cases f x d = go (ℕ_discrete d x)
  where
    go : (r : Dec (d ≡ x)) → (elim r as (λ z. Mark) [ yes q ↦ done | no q ↦ f d ]) ≡ done → (d ≡ x) ⊎ (f d ≡ done)
    go (yes q) e = inl q
    go (no q) e = inr e

mark_x_up : (f : ℕ → Mark) (x d : ℕ) → f d ≡ done → mark_x f x d ≡ done
unfolding mark_x
mark_x_up f x d h = go (ℕ_discrete d x)
  where
    go : (r : Dec (d ≡ x)) → (elim r as (λ z. Mark) [ yes q ↦ done | no q ↦ f d ]) ≡ done
    go (yes q) = refl
    go (no q) = h

-- the ids on the way are all different: marks of as many of them
record Seen (T : Table) (k : ℕ) : Type 0 where
  f : ℕ → Mark
  only_these : (d : ℕ) → f d ≡ done → (j : ℕ) × (j ≤ k) × Links T d j
  many : k < tally f T.count

seen : {T : Table} → ((x t : ℕ) → step_of (T.node x) ≡ to t → t < T.count) → {x k : ℕ} → Links T x k → x < T.count → Seen T k
seen {T} below {x} {k} (arrived e p) l = record {
  f = mark_x (λ d. new) x;
  only_these = λ d h. these d (mark_x_cases (λ d. new) x d h);
  many = omega (arith, tally_more (λ d. new) (mark_x (λ d. new) x) (mark_x_up (λ d. new) x) x T.count l none (mark_x_same (λ d. new) x));
}
  where
    none : new ≡ done → ⊥
    none h = let z : ◌≡◌ {A = ℕ} 0 1 = cc in omega arith

    these : (d : ℕ) → (d ≡ x) ⊎ (new ≡ done) → (j : ℕ) × (j ≤ k) × Links T d j
    these d (inl q) = (k, (omega arith), subst (λ (z : ℕ). Links T z k) (sym q) (arrived e p))
    these d (inr h) = absurd (none h)
seen {T} below {x} {k} (link {t = t} {j = j} e r p) l = grow (seen below r (below x t e))
  where
    grow : Seen T j → Seen T k
    grow s = record {
      f = mark_x s.f x;
      only_these = λ d h. these d (mark_x_cases s.f x d h);
      many = omega (arith, s.many, tally_more s.f (mark_x s.f x) (mark_x_up s.f x) x T.count l fresh (mark_x_same s.f x));
    }
      where
        fresh : s.f x ≡ done → ⊥
        fresh h = let q = s.only_these x h in late q.0 q.1 (same_length (link e r p) q.2)
          where
            late : (i : ℕ) → i ≤ j → k ≡ i → ⊥
            late i a b = omega arith

        these : (d : ℕ) → (d ≡ x) ⊎ (s.f d ≡ done) → (i : ℕ) × (i ≤ k) × Links T d i
        these d (inl q) = (k, (omega arith), subst (λ (z : ℕ). Links T z k) (sym q) (link e r p))
        these d (inr h) = let q = s.only_these d h in (q.0, up q.0 q.1, q.2)
          where
            up : (i : ℕ) → i ≤ j → i ≤ k
            up i a = omega arith

-- what the test passes
pub chase_no : (T : Table) → ((x t : ℕ) → step_of (T.node x) ≡ to t → t < T.count) → (x : ℕ) → x < T.count → chase T.count T x ≡ false → ProtoVia T x → ⊥
chase_no T below x l e p =
    let q = to_links p in
    let s = seen below q.1 l in
    true≢false (sym (chase_finds q.1 T.count (short q.0 s.f s.many)) ∙ e)
  where
    short : (k : ℕ) (f : ℕ → Mark) → k < tally f T.count → k < T.count
    short k f h = omega (arith, tally_max f T.count)

-- what the test refuses
pub chase_yes : (T : Table) (n x : ℕ) → chase n T x ≡ true → ProtoVia T x
unfolding chase
chase_yes T zero x e = absurd (true≢false (sym e))
chase_yes T (suc n) x e = go (T.node x) refl (λ y h. chase_yes T n y h) e
  where
    next : (nd : Node) (t : ℕ) → T.node x ≡ nd → is_comp nd ≡ false → weaken T nd false ≡ false → kids nd ≡ t ∷ [] → ProtoVia T t → ProtoVia T x
    next nd t q c w k p = on (ap is_comp q ∙ c) (ap (λ (z : Node). weaken T z false) q ∙ w) (subst (Memᴰ t) (sym (ap kids q ∙ k)) (Memᴰ.head refl)) p

    go : (nd : Node) → T.node x ≡ nd → ((y : ℕ) → chase n T y ≡ true → ProtoVia T y) → chase_by (λ y. chase n T y) (step_of nd) ≡ true → ProtoVia T x
    go ignored q r h = absurd (true≢false (sym h))
    go plain q r h = absurd (true≢false (sym h))
    go (listed f) q r h = absurd (true≢false (sym h))
    go (through a t) q r h = next (through a t) t q refl (and-false (not (a && T.strong_arrays))) refl (r t h)
    go (ptr t) q r h = absurd (true≢false (sym h))
    go (tdef t) q r h = next (tdef t) t q refl refl refl (r t h)
    go (proto ts) q r h = it (ap is_proto q)
    go (comp ts) q r h = absurd (true≢false (sym h))
