-- Cause 6: a law for each return, and the theorem. Assumes nothing.
use Prim.Native.Nat.{ℕ, ◌/◌, ◌%◌, ◌<◌, ◌≤◌}
use mathlib.Core.Path.{◌≡◌, refl, ◌∙◌, sym}
use mathlib.Core.Bool.{Bool, true, false, true≢false}
use mathlib.Core.List.{List}
use mathlib.Core.Logic.{⊎_elim, ◌⊎◌, inl, inr, ◌↔◌}
use native.Mathlib.Omega.{arith}
use lib.Dec.{ltb}
use borrow.Author.Tests.{lt-ltb, le-ltb, ltb-false}
use Rattle.spec_type_table.specs.declared.types.TypeTable.{TypeTable}
use Rattle.btf_open_causes.specs.references.Any.{any_below}
use Rattle.btf_open_causes.specs.references.Followed.{is_kind_among, type_count, entry_at, place_of, kind_at, count_at, id_at, followed_count, followed_id}
use Rattle.btf_open_causes.specs.references.References.{refused, is_bad, is_some_bad, has_bad_reference, BadReference}
use Rattle.btf_open_causes.proofs.references.Any.{any_find, any_yes}
use Rattle.btf_open_causes.proofs.references.Accessors.{steady, apart}

module _ (b : TypeTable) (start : List ℕ) where
  module _ (y n : ℕ) (e : n ≡ type_count b) where
    pub bad_out : n ≤ y → true ≡ is_bad b start y
    unfolding is_bad
    bad_out h = rw (is_bad, ← e, le-ltb y n h)

    module _ (h : y < n) (k : ℕ) (f : k ≡ kind_at b start y) where
      inside : (t : Bool) → is_kind_among refused k ≡ t → t ≡ is_bad b start y
      unfolding is_bad
      inside t g = rw (is_bad, ← e, lt-ltb y n h, ← f) (sym g)

      pub bad_one : (k ≡ 12) ⊎ (k ≡ 17) → true ≡ is_bad b start y
      unfolding is_kind_among
      bad_one o = inside true (⊎_elim (λ g. rw g) (λ g. rw g) o)

      pub bad_two : 14 ≤ k → k < 16 → true ≡ is_bad b start y
      unfolding is_kind_among
      bad_two a c = inside true (steady (is_kind_among refused) true 14 2 k (refl, (refl, tt)) a c)

      pub bad_none : ((k ≡ 12) ⊎ (k ≡ 17) → ⊥) → (k < 14) ⊎ (16 ≤ k) → false ≡ is_bad b start y
      bad_none m (inl h) = inside false (apart refused k ((λ g. m (inl g)), (omega arith, (omega arith, ((λ g. m (inr g)), tt)))))
      bad_none m (inr h) = inside false (apart refused k ((λ g. m (inl g)), (omega arith, (omega arith, ((λ g. m (inr g)), tt)))))

module _ (b : TypeTable) (s start : List ℕ) where
  pub some_bad_is : (x e : ℕ) → e ≡ entry_at b start x → (p : ℕ) → p ≡ e / 32 → (n : ℕ) → n ≡ count_at b s (e % 32) p
      → any_below n (λ k. is_bad b start (id_at b s (e % 32) p k)) ≡ is_some_bad b s start x
  unfolding is_some_bad followed_count followed_id kind_at place_of
  some_bad_is x e f p g n q = rw (q, g, f)

  bad_cases : (y : ℕ) → (is_bad b start y ≡ true) ↔ ((type_count b ≤ y) ⊎ (is_kind_among refused (kind_at b start y) ≡ true))
  unfolding is_bad
  bad_cases y = (go (ltb y (type_count b)) refl, back (ltb y (type_count b)) refl)
    where
      go : (t : Bool) → ltb y (type_count b) ≡ t → (elim t as (λ z. Bool) [ true ↦ is_kind_among refused (kind_at b start y) | false ↦ true ]) ≡ true
          → (type_count b ≤ y) ⊎ (is_kind_among refused (kind_at b start y) ≡ true)
      go true p q = inr q
      go false p q = inl (ltb-false y (type_count b) p)

      back : (t : Bool) → ltb y (type_count b) ≡ t → (type_count b ≤ y) ⊎ (is_kind_among refused (kind_at b start y) ≡ true)
          → (elim t as (λ z. Bool) [ true ↦ is_kind_among refused (kind_at b start y) | false ↦ true ]) ≡ true
      back false p o = refl
      back true p (inr q) = q
      back true p (inl q) = absurd (true≢false (sym p ∙ le-ltb y (type_count b) q))

  -- THE THEOREM
  pub bad_reference : (has_bad_reference b s start ≡ true) ↔ BadReference b s start
  unfolding has_bad_reference is_some_bad
  bad_reference = (find, show)
    where
      find : any_below (type_count b) (is_some_bad b s start) ≡ true → BadReference b s start
      find e =
          let p = any_find (type_count b) (is_some_bad b s start) e in
          let q = any_find (followed_count b s start p.0) (λ k. is_bad b start (followed_id b s start p.0 k)) p.2 in
          record { x = p.0; k = q.0; type = p.1; followed = q.1; bad = (bad_cases (followed_id b s start p.0 q.0)).0 q.2 }

      show : BadReference b s start → any_below (type_count b) (is_some_bad b s start) ≡ true
      show r =
          any_yes (type_count b) (is_some_bad b s start) r.x r.type
          (any_yes (followed_count b s start r.x) (λ k. is_bad b start (followed_id b s start r.x k)) r.k r.followed ((bad_cases (followed_id b s start r.x r.k)).1 r.bad))
