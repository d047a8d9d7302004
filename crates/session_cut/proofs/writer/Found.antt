-- The first type that has a place for a name: what a search over all types answers. Assumes nothing.
use Prim.Native.Nat.{ℕ, zero, suc, ◌+◌, ◌-◌, ◌<◌}
use native.Mathlib.Omega.{arith}
use mathlib.Core.Path.{◌≡◌, refl, sym, ◌∙◌, ap}
use mathlib.Core.Bool.{true}
use mathlib.Core.List.{List}
use denote.Param.Members.{Mut}
use Rattle.std.specs.Fn.{Called}
use Rattle.std.specs.Option.{MatchOption}
use Rattle.std.specs.Iterator.Runs.{Run, SomeRun, AllItemsGive, IsFirstToGive}
use Rattle.std.proofs.iter.Yields.{nat_range_steps}
use Rattle.std.proofs.iter.runs.Sources.{range_runs}
use Rattle.std.proofs.Common.{Option, Some, None}
use Rattle.spec_type_table.specs.declared.types.TypeTable.{TypeTable}
use Rattle.session_cut_marks.specs.tags.Tags.{some_number}
use Rattle.session_cut_marks.specs.mentioned.Names.{place_at, place_from}
use Rattle.btf_open_causes.proofs.references.First.{item_if, item_of, none_some}

skip : (v w : ℕ) → None ≡ some_number v → w ≡ (elim v as (λ z. ℕ) [ zero ↦ w | suc p ↦ suc p ])
unfolding some_number
skip zero w h = refl
skip (suc v) w h = absurd (none_some h)

take : (v w y : ℕ) → Some y ≡ some_number v → Some y ≡ some_number (elim v as (λ z. ℕ) [ zero ↦ w | suc p ↦ suc p ])
unfolding some_number
take zero w y h = absurd (none_some (sym h))
take (suc v) w y h = h

module _ (b : TypeTable) (s start ids bases : List ℕ) (off : ℕ) where
  abbrev At : ℕ → Option ℕ
  At x = some_number (place_at b s start ids bases off x)

  abbrev From : ℕ → ℕ → ℕ
  From = place_from b s start ids bases off

  nowhere : (k x : ℕ) → ((i : ℕ) → i < k → None ≡ At (x + i)) → None ≡ some_number (From x k)
  unfolding place_from some_number
  nowhere zero x h = refl
  nowhere (suc k) x h =
      let z : x + 0 ≡ x = omega arith in
      nowhere k (suc x) (λ i l. let y : x + suc i ≡ suc x + i = omega arith in h (suc i) (omega (arith, l)) ∙ ap At y)
      ∙ ap some_number (skip (place_at b s start ids bases off x) (From (suc x) k) (h 0 (omega arith) ∙ ap At z))

  somewhere : (k x i y : ℕ) → i < k → Some y ≡ At (x + i) → ((j : ℕ) → j < i → None ≡ At (x + j)) → Some y ≡ some_number (From x k)
  unfolding place_from
  somewhere zero x i y l g h = absurd (omega (arith, l))
  somewhere (suc k) x zero y l g h = let z : x + 0 ≡ x = omega arith in take (place_at b s start ids bases off x) (From (suc x) k) y (g ∙ ap At z)
  somewhere (suc k) x (suc i) y l g h =
      let z : x + 0 ≡ x = omega arith in
      let w : x + suc i ≡ suc x + i = omega arith in
      somewhere k (suc x) i y (omega (arith, l)) (g ∙ ap At w) (λ j d. let v : x + suc j ≡ suc x + j = omega arith in h (suc j) (omega (arith, d)) ∙ ap At v)
      ∙ ap some_number (skip (place_at b s start ids bases off x) (From (suc x) k) (h 0 (omega arith) ∙ ap At z))

  module _ {F : Type 0} (g : Mut F (ℕ × Unit {0}) (Option ℕ)) (f : F) (told : (x : ℕ) (r : Option ℕ) (q : F) → Called g f (x, tt) r q → (q ≡ f) × (r ≡ At x)) where
    by : (r : Option ℕ) (p : Run nat_range_steps)
        → MatchOption r ((p.whole ≡ true) × AllItemsGive p g f None) (λ y. (i : ℕ) × (i < p.len) × (p.len ≡ i + 1) × IsFirstToGive p g f (Some y) None i)
        → r ≡ some_number (From p.from.start (p.from.end - p.from.start))
    by None p h =
        let up = range_runs p p.seen in
        let all = h.1 (λ a r q k. (told a.0 r q k).0) in
        nowhere (p.from.end - p.from.start) p.from.start
        (λ i l. (told (p.from.start + i) None f (item_if (p.at i) (λ x. Called g f (x, tt) None f) (p.from.start + i) p.from.end (up.2 i) (up.3 i (omega (arith, l, up.1 h.0))) (all i))).1)
    by (Some y) p (i, l, n, h) =
        let up = range_runs p p.seen in
        let all = h (λ a r q k. (told a.0 r q k).0) in
        let it = item_of (p.at i) (λ x. Called g f (x, tt) (Some y) f) (p.from.start + i) p.from.end (up.2 i) all.0 in
        somewhere (p.from.end - p.from.start) p.from.start i y (omega (arith, it.1)) (told (p.from.start + i) (Some y) f it.0).1
        (λ j d. (told (p.from.start + j) None f (item_of (p.at j) (λ x. Called g f (x, tt) None f) (p.from.start + j) p.from.end (up.2 j) (all.1 j d)).0).1)

    pub found_is : (r : Option ℕ) (n : ℕ)
        → SomeRun nat_range_steps (record { start = 0; end = n }) (λ p. MatchOption r ((p.whole ≡ true) × AllItemsGive p g f None) (λ y. (i : ℕ) × (i < p.len) × (p.len ≡ i + 1) × IsFirstToGive p g f (Some y) None i))
        → r ≡ some_number (From 0 n)
    found_is r n (p, e, h) = let z : n - 0 ≡ n = omega arith in by r p h ∙ (λ i. some_number (From (e i).start ((e i).end - (e i).start))) ∙ ap (λ (m : ℕ). some_number (From 0 m)) z
