-- `find_map` over a range: the answer is that of the first number for which there is one. Assumes nothing.
use Prim.Native.Nat.{ℕ, zero, suc, ◌+◌, ◌-◌, ◌<◌}
use native.Mathlib.Omega.{arith}
use mathlib.Core.Path.{◌≡◌, refl, ◌∙◌, ap, subst}
use mathlib.Core.Bool.{true}
use denote.Param.Members.{Mut}
use Rattle.std.specs.Fn.{Called}
use Rattle.std.specs.Option.{option_map, MatchOption, IfSome, IsSomeAnd}
use Rattle.std.specs.Iterator.Runs.{Run, SomeRun, AllItemsGive, IsFirstToGive}
use Rattle.std.proofs.iter.Yields.{nat_range_steps}
use Rattle.std.proofs.iter.runs.Sources.{range_runs}
use Rattle.std.proofs.Common.{Option, Some, None}

pub none_some : {p : ℕ} → None ≡ Some p → ⊥
none_some h = cc

-- the item at place k of a run over a range
pub item_if : (o : Option ℕ) (P : ℕ → Type 0) (n e : ℕ) → IfSome o (λ x. (x ≡ n) × (x < e)) → option_map (λ y. y) o ≡ Some n → IfSome o P → P n
item_if None P n e w l h = absurd (none_some l)
item_if (Some x) P n e w l h = subst P w.0 h

pub item_of : (o : Option ℕ) (P : ℕ → Type 0) (n e : ℕ) → IfSome o (λ x. (x ≡ n) × (x < e)) → IsSomeAnd o P → P n × (n < e)
item_of None P n e w h = absurd h
item_of (Some x) P n e w h = (subst P w.0 h, subst (λ m. m < e) w.0 w.1)

abbrev pub or_else : {A : Type 0} → Option A → Option A → Option A
or_else None o = o
or_else (Some y) o = Some y

module _ {A : Type 0} (At : ℕ → Option A) where
  -- the first answer of the k numbers from x on
  abbrev pub first_from : ℕ → ℕ → Option A
  first_from x zero = None
  first_from x (suc k) = or_else (At x) (first_from (suc x) k)

  nowhere : (k x : ℕ) → ((i : ℕ) → i < k → None ≡ At (x + i)) → None ≡ first_from x k
  nowhere zero x h = refl
  nowhere (suc k) x h =
      let z : x + 0 ≡ x = omega arith in
      nowhere k (suc x) (λ i l. let y : x + suc i ≡ suc x + i = omega arith in h (suc i) (omega (arith, l)) ∙ ap At y)
      ∙ ap (λ (o : Option A). or_else o (first_from (suc x) k)) (h 0 (omega arith) ∙ ap At z)

  somewhere : (k x i : ℕ) (y : A) → i < k → Some y ≡ At (x + i) → ((j : ℕ) → j < i → None ≡ At (x + j)) → Some y ≡ first_from x k
  somewhere zero x i y l g h = absurd (omega (arith, l))
  somewhere (suc k) x zero y l g h =
      let z : x + 0 ≡ x = omega arith in
      ap (λ (o : Option A). or_else o (first_from (suc x) k)) (g ∙ ap At z)
  somewhere (suc k) x (suc i) y l g h =
      let z : x + 0 ≡ x = omega arith in
      let w : x + suc i ≡ suc x + i = omega arith in
      somewhere k (suc x) i y (omega (arith, l)) (g ∙ ap At w) (λ j d. let v : x + suc j ≡ suc x + j = omega arith in h (suc j) (omega (arith, d)) ∙ ap At v)
      ∙ ap (λ (o : Option A). or_else o (first_from (suc x) k)) (h 0 (omega arith) ∙ ap At z)

  module _ {F : Type 0} (g : Mut F (ℕ × Unit {0}) (Option A)) (f : F) (told : (x : ℕ) (r : Option A) (q : F) → Called g f (x, tt) r q → (q ≡ f) × (r ≡ At x)) where
    by : (r : Option A) (p : Run nat_range_steps)
        → MatchOption r ((p.whole ≡ true) × AllItemsGive p g f None) (λ y. (i : ℕ) × (i < p.len) × (p.len ≡ i + 1) × IsFirstToGive p g f (Some y) None i)
        → r ≡ first_from p.from.start (p.from.end - p.from.start)
    by None p h =
        let up = range_runs p p.seen in
        let all = h.1 (λ a r q k. (told a.0 r q k).0) in
        nowhere (p.from.end - p.from.start) p.from.start
        (λ i l. (told (p.from.start + i) None f (item_if (p.at i) (λ x. Called g f (x, tt) None f) (p.from.start + i) p.from.end (up.2 i) (up.3 i (omega (arith, l, up.1 h.0))) (all i))).1)
    by (Some y) p (i, l, n, h) =
        let up = range_runs p p.seen in
        let all = h (λ a r q k. (told a.0 r q k).0) in
        let it = item_of (p.at i) (λ x. Called g f (x, tt) (Some y) f) (p.from.start + i) p.from.end (up.2 i) all.0 in
        somewhere (p.from.end - p.from.start) p.from.start i y (omega (arith, it.1)) (told (p.from.start + i) (Some y) f it.0).1
        (λ j d. (told (p.from.start + j) None f (item_of (p.at j) (λ x. Called g f (x, tt) None f) (p.from.start + j) p.from.end (up.2 j) (all.1 j d)).0).1)

    pub first_found : (r : Option A) (a n : ℕ)
        → SomeRun nat_range_steps (record { start = a; end = n }) (λ p. MatchOption r ((p.whole ≡ true) × AllItemsGive p g f None) (λ y. (i : ℕ) × (i < p.len) × (p.len ≡ i + 1) × IsFirstToGive p g f (Some y) None i))
        → r ≡ first_from a (n - a)
    first_found r a n (p, e, h) = by r p h ∙ (λ i. first_from (e i).start ((e i).end - (e i).start))
