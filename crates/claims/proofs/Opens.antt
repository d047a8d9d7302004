-- Demand 1: the number of an opening is that of the first cause of document 01's table, over the types that the section describes. Assumes nothing but that
-- the section is bytes.
use Prim.Native.Nat.{ℕ, zero, suc, ◌≤◌, ◌<◌}
use native.Mathlib.Omega.{arith}
use mathlib.Core.Path.{◌≡◌, refl, sym, ◌∙◌, ap, subst}
use mathlib.Core.Bool.{Bool, true, false, true≢false}
use mathlib.Core.List.Memᴰ
use mathlib.Core.List.{List, [], ◌∷◌, Memᴰ}
use mathlib.Core.Logic.{◌⊎◌, inl, inr}
use lib.ListN.{length, get_or-eq_default}
use lib.Dec.{eqb}
use borrow.Author.Tests.{eqb-true, eq-eqb, not-true, not-false, both_ways}
use Rattle.std.proofs.lemmas.Bool.{cases_lt}
use Rattle.spec_linux_btf.specs.Documentation.{Described, described}
use Rattle.spec_linux_btf.specs.Reading.{Bytes}
use Rattle.spec_linux_btf.specs.Fields.{kind_in}
use Rattle.spec_linux_btf.specs.Section.{string_area, header_sound, strings_sound, types_sound}
use Rattle.spec_type_table.specs.declared.types.TypeTable.{TypeTable}
use Rattle.btf_open_causes.specs.references.Followed.{is_kind_among, type_count, kind_at, followed_count, followed_id}
use Rattle.btf_open_causes.specs.references.Bounds.{kind_out, followed_none}
use Rattle.btf_open_causes.specs.references.References.{BadReference}
use Rattle.btf_open_causes.specs.prototypes.Prototypes.{ToProto, ends, passes, ProtoInside}
use Rattle.btf_open_causes.specs.loops.Loops.{TypeLoop}
use Rattle.spec_opening.specs.Table.{described_in, types_of, index_of}
use Rattle.spec_opening.specs.Followed.{void_type, type_of}
use Rattle.spec_opening.specs.Causes.{cause3, cause4, cause5, table_of, causes, opening_number}
use Rattle.spec_opening.proofs.Order.{NoneHolds, FirstHolds}
use Rattle.spec_opening.proofs.Claims.{sound_none, refused_first, cause_1, cause_2, cause_6, cause_7, cause_8, cause_9}
use Rattle.spec_cut.specs.reopened.Seen.{SeenFrom}
use Rattle.spec_cut.proofs.reopened.Followed.{seen}
use Rattle.spec_cut.proofs.reopened.Causes.{one_id}
use Rattle.claims.specs.Demand1.{kind_number, Of, Follows, ToPrototype, prototype, through, Loop, OpeningCause, pointer_size, long_section, header, strings, records, followed_past, followed_kind, holds_prototype, loop, short_work, Numbered}

-- ---- one of a list of kinds

is_among : (l : List ℕ) (k : ℕ) → is_kind_among l k ≡ true → Memᴰ k l
unfolding is_kind_among
is_among [] k e = absurd (true≢false (sym e))
is_among (a ∷ l) k e = go (eqb k a) refl e (is_among l k)
  where
    go : (b : Bool) → eqb k a ≡ b → (elim b as (λ _. Bool) [ true ↦ true | false ↦ is_kind_among l k ]) ≡ true → (is_kind_among l k ≡ true → Memᴰ k l) → Memᴰ k (a ∷ l)
    go true q r f = Memᴰ.head (eqb-true k a q)
    go false q r f = Memᴰ.tail (f r)

among_is : (l : List ℕ) (k : ℕ) → Memᴰ k l → is_kind_among l k ≡ true
unfolding is_kind_among
among_is [] k m = absurd (Memᴰ.not-nil m)
among_is (a ∷ l) k (Memᴰ.head q) = ap (λ (b : Bool). elim b as (λ _. Bool) [ true ↦ true | false ↦ is_kind_among l k ]) (eq-eqb k a q)
among_is (a ∷ l) k (Memᴰ.tail m) = go (eqb k a) (among_is l k m)
  where
    go : (b : Bool) → is_kind_among l k ≡ true → (elim b as (λ _. Bool) [ true ↦ true | false ↦ is_kind_among l k ]) ≡ true
    go true r = refl
    go false r = r

kind_number_lem : (d : Described) → kind_in d ≡ kind_number d
unfolding kind_in
kind_number_lem (described n f z body) = refl

-- ---- causes 6, 7 and 8, where causes 3 and 5 do not hold

module _ (p : ℕ) (s : List ℕ) (y : Bytes s) (h : header_sound s ≡ true) (t : types_sound s ≡ true) where
  abbrev c : TypeTable
  c = table_of p s

  abbrev start : List ℕ
  start = index_of s

  abbrev ts : List Described
  ts = described_in s

  known : SeenFrom c s start ts
  known = seen p s y h t

  -- void, and what lies past the table, is of kind 0 for the code, and stands as a FWD among the described types
  pub data Kind (x : ℕ) : Type 0 where
    neither : kind_at c start x ≡ 0 → kind_number (type_of ts x) ≡ 7 → Kind x
    same : kind_at c start x ≡ kind_number (type_of ts x) → Kind x

  kind_of : (x : ℕ) → Kind x
  kind_of zero = neither known.zero_kind refl
  kind_of (suc i) = go (cases_lt i (length ts))
    where
      go : (i < length ts) ⊎ (length ts ≤ i) → Kind (suc i)
      go (inl q) = same (known.kind i q ∙ kind_number_lem (type_of ts (suc i)))
      go (inr q) = neither (kind_out c start (suc i) (omega (arith, known.count, q))) (ap kind_number (get_or-eq_default ts void_type q))

  -- of kinds without 0 and 7
  module _ (l : List ℕ) (no_0 : is_kind_among l 0 ≡ false) (no_7 : is_kind_among l 7 ≡ false) where
    described_of : (x : ℕ) → is_kind_among l (kind_at c start x) ≡ true → Of ts l x
    described_of x e = go (kind_of x)
      where
        go : Kind x → Of ts l x
        go (neither a b) = absurd (true≢false (sym e ∙ ap (is_kind_among l) a ∙ no_0))
        go (same a) = is_among l (kind_number (type_of ts x)) (ap (is_kind_among l) (sym a) ∙ e)

    coded_of : (x : ℕ) → Of ts l x → is_kind_among l (kind_at c start x) ≡ true
    coded_of x m = go (kind_of x)
      where
        go : Kind x → is_kind_among l (kind_at c start x) ≡ true
        go (neither a b) = absurd (true≢false (sym (among_is l (kind_number (type_of ts x)) m) ∙ ap (is_kind_among l) b ∙ no_7))
        go (same a) = ap (is_kind_among l) a ∙ among_is l (kind_number (type_of ts x)) m

  is_prototype : (x : ℕ) → kind_at c start x ≡ 13 → kind_number (type_of ts x) ≡ 13
  is_prototype x e = go (kind_of x)
    where
      go : Kind x → kind_number (type_of ts x) ≡ 13
      go (neither a b) = absurd (omega (arith, a, e))
      go (same a) = sym a ∙ e

  prototype_is : (x : ℕ) → kind_number (type_of ts x) ≡ 13 → kind_at c start x ≡ 13
  prototype_is x e = go (kind_of x)
    where
      go : Kind x → kind_at c start x ≡ 13
      go (neither a b) = absurd (omega (arith, b, e))
      go (same a) = a ∙ e

  inside : (x k : ℕ) → k < followed_count c s start x → x < type_count c
  inside x k l = go (cases_lt x (type_count c))
    where
      go : (x < type_count c) ⊎ (type_count c ≤ x) → x < type_count c
      go (inl q) = q
      go (inr q) = absurd (omega (arith, l, followed_none c s start x q))

  all : types_of s ≡ type_count c
  unfolding types_of
  all = sym known.count

  -- 6
  six : BadReference c s start → (work : ℕ) → OpeningCause p s work 6
  unfolding is_kind_among
  six r work = go r.bad
    where
      to : Follows ts r.x (followed_id c s start r.x r.k)
      to = known.to r.x r.k r.followed

      go : (type_count c ≤ followed_id c s start r.x r.k) ⊎ (is_kind_among (12 ∷ 14 ∷ 15 ∷ 17 ∷ []) (kind_at c start (followed_id c s start r.x r.k)) ≡ true) → OpeningCause p s work 6
      go (inl q) = followed_past r.x (followed_id c s start r.x r.k) to (omega (arith, q, all))
      go (inr q) = followed_kind r.x (followed_id c s start r.x r.k) to (described_of (12 ∷ 14 ∷ 15 ∷ 17 ∷ []) refl refl _ q)

  bad : (x v : ℕ) → Follows ts x v → (type_count c ≤ v) ⊎ (is_kind_among (12 ∷ 14 ∷ 15 ∷ 17 ∷ []) (kind_at c start v) ≡ true) → BadReference c s start
  bad x v m e =
      let r = known.from x v m in
      record {
        x = x;
        k = r.0;
        type = inside x r.0 r.1;
        followed = r.1;
        bad = subst (λ (z : ℕ). (type_count c ≤ z) ⊎ (is_kind_among (12 ∷ 14 ∷ 15 ∷ 17 ∷ []) (kind_at c start z) ≡ true)) (sym r.2) e;
      }

  past_bad : (x v : ℕ) → Follows ts x v → types_of s ≤ v → BadReference c s start
  past_bad x v m q = bad x v m (inl (omega (arith, q, all)))

  kind_bad : (x v : ℕ) → Follows ts x v → Of ts (12 ∷ 14 ∷ 15 ∷ 17 ∷ []) v → BadReference c s start
  unfolding is_kind_among
  kind_bad x v m k = bad x v m (inr (coded_of (12 ∷ 14 ∷ 15 ∷ 17 ∷ []) refl refl v k))

  -- 7
  to_prototype : (x : ℕ) → ToProto c s start x → ToPrototype ts x
  unfolding is_kind_among
  to_prototype _ (ends {y = x} e) = prototype (is_prototype x e)
  to_prototype _ (passes {y = x} e q) =
      let one : followed_count c s start x ≡ 1 = one_id c s start x e in
      through (described_of (3 ∷ 8 ∷ 9 ∷ 10 ∷ 11 ∷ 18 ∷ []) refl refl x e) (known.to x 0 (omega (arith, one))) (to_prototype (followed_id c s start x 0) q)

  from_prototype : (x : ℕ) → ToPrototype ts x → ToProto c s start x
  unfolding is_kind_among
  from_prototype _ (prototype {x = x} e) = ends (prototype_is x e)
  from_prototype _ (through {x = x} {y = v} k m q) = passes on (subst (ToProto c s start) (sym r.2 ∙ ap (followed_id c s start x) first) (from_prototype v q))
    where
      on : is_kind_among (3 ∷ 8 ∷ 9 ∷ 10 ∷ 11 ∷ 18 ∷ []) (kind_at c start x) ≡ true
      on = coded_of (3 ∷ 8 ∷ 9 ∷ 10 ∷ 11 ∷ 18 ∷ []) refl refl x k

      r : (k : ℕ) × (k < followed_count c s start x) × (followed_id c s start x k ≡ v)
      r = known.from x v m

      first : r.0 ≡ 0
      first = omega (arith, r.1, one_id c s start x on)

  seven : ProtoInside c s start → (work : ℕ) → OpeningCause p s work 7
  unfolding is_kind_among
  seven r work =
      holds_prototype r.x (followed_id c s start r.x r.k) (described_of (3 ∷ 4 ∷ 5 ∷ []) refl refl r.x r.holder) (known.to r.x r.k r.inside) (to_prototype (followed_id c s start r.x r.k) r.leads)

  held : (x v : ℕ) → Of ts (3 ∷ 4 ∷ 5 ∷ []) x → Follows ts x v → ToPrototype ts v → ProtoInside c s start
  unfolding is_kind_among
  held x v k m q =
      let r = known.from x v m in
      record {
        x = x;
        k = r.0;
        type = inside x r.0 r.1;
        holder = coded_of (3 ∷ 4 ∷ 5 ∷ []) refl refl x k;
        inside = r.1;
        leads = subst (ToProto c s start) (sym r.2) (from_prototype v q);
      }

  -- 8
  eight : TypeLoop c s start → Loop ts
  unfolding is_kind_among
  eight r = record {
    n = r.n;
    x = r.x;
    some = r.some;
    round = r.round;
    kinds = λ i q. described_of (2 ∷ 3 ∷ 8 ∷ 9 ∷ 10 ∷ 11 ∷ 13 ∷ 18 ∷ []) refl refl (r.x i) (r.kinds i q);
    follows = λ i q. let f = r.follows i q in subst (Follows ts (r.x i)) f.2 (known.to (r.x i) f.0 f.1);
  }

  looped : Loop ts → TypeLoop c s start
  unfolding is_kind_among
  looped r = record {
    n = r.n;
    x = r.x;
    some = r.some;
    round = r.round;
    kinds = λ i q. coded_of (2 ∷ 3 ∷ 8 ∷ 9 ∷ 10 ∷ 11 ∷ 13 ∷ 18 ∷ []) refl refl (r.x i) (r.kinds i q);
    follows = λ i q. known.from (r.x i) (r.x (suc i)) (r.follows i q);
  }

-- ---- the number

-- none of the first k holds
abbrev Before : List Bool → ℕ → Type 0
Before l zero = Unit {0}
Before [] (suc k) = Unit {0}
Before (t ∷ l) (suc k) = (t ≡ false) × Before l k

none_before : (l : List Bool) → NoneHolds l → (k : ℕ) → Before l k
none_before l h zero = tt
none_before [] h (suc k) = tt
none_before (t ∷ l) h (suc k) = (h.0, none_before l h.1 k)

first_before : (l : List Bool) (m k : ℕ) → FirstHolds l m → k ≤ m → Before l k
first_before l m zero h q = tt
first_before [] m (suc k) h q = tt
first_before (t ∷ l) zero (suc k) h q = absurd (omega (arith, q))
first_before (t ∷ l) (suc m) (suc k) h q = (h.0, first_before l m k h.1 (omega (arith, q)))

module _ (p : ℕ) (s : List ℕ) (work : ℕ) (y : Bytes s) where
  abbrev tests : List Bool
  tests = causes p s work

  header_sound_lem : cause3 s ≡ false → header_sound s ≡ true
  unfolding cause3
  header_sound_lem e = not-false (header_sound s) e

  types_sound_lem : cause5 s ≡ false → types_sound s ≡ true
  unfolding cause5
  types_sound_lem e = not-false (types_sound s) e

  -- the first that holds is the cause
  owned : (k : ℕ) → FirstHolds tests k → OpeningCause p s work (suc k)
  unfolding cause3 cause4 cause5
  owned zero h = let r = (cause_1 p).0 h in pointer_size r.0 r.1
  owned (suc zero) h = long_section ((cause_2 s).0 h.1)
  owned (suc (suc zero)) h = header (not-true (header_sound s) h.1.1)
  owned (suc (suc (suc zero))) h = strings (not-true (strings_sound (string_area s)) h.1.1.1)
  owned (suc (suc (suc (suc zero)))) h = records (not-true (types_sound s) h.1.1.1.1)
  owned (suc (suc (suc (suc (suc zero))))) h = six p s y (header_sound_lem h.1.1.0) (types_sound_lem h.1.1.1.1.0) ((cause_6 p s).0 h.1.1.1.1.1) work
  owned (suc (suc (suc (suc (suc (suc zero)))))) h = seven p s y (header_sound_lem h.1.1.0) (types_sound_lem h.1.1.1.1.0) ((cause_7 p s).0 h.1.1.1.1.1.1) work
  owned (suc (suc (suc (suc (suc (suc (suc zero))))))) h = loop (eight p s y (header_sound_lem h.1.1.0) (types_sound_lem h.1.1.1.1.0) ((cause_8 p s).0 h.1.1.1.1.1.1.1))
  owned (suc (suc (suc (suc (suc (suc (suc (suc zero)))))))) h = short_work ((cause_9 s work).0 h.1.1.1.1.1.1.1.1)
  owned (suc (suc (suc (suc (suc (suc (suc (suc (suc k))))))))) h = absurd h.1.1.1.1.1.1.1.1.1

  -- a cause before which, and at which, no test holds is none
  refuted : (k : ℕ) → OpeningCause p s work k → Before tests k → ⊥
  unfolding cause3 cause4 cause5
  refuted _ (pointer_size a b) h = both_ways _ h.0 ((cause_1 p).1 (a, b))
  refuted _ (long_section q) h = both_ways _ h.1.0 ((cause_2 s).1 q)
  refuted _ (header q) h = both_ways _ q (not-false (header_sound s) h.1.1.0)
  refuted _ (strings q) h = both_ways _ q (not-false (strings_sound (string_area s)) h.1.1.1.0)
  refuted _ (records q) h = both_ways _ q (not-false (types_sound s) h.1.1.1.1.0)
  refuted _ (followed_past x v m q) h =
      both_ways _ h.1.1.1.1.1.0 ((cause_6 p s).1 (past_bad p s y (header_sound_lem h.1.1.0) (types_sound_lem h.1.1.1.1.0) x v m q))
  refuted _ (followed_kind x v m q) h =
      both_ways _ h.1.1.1.1.1.0 ((cause_6 p s).1 (kind_bad p s y (header_sound_lem h.1.1.0) (types_sound_lem h.1.1.1.1.0) x v m q))
  refuted _ (holds_prototype x v k m q) h =
      both_ways _ h.1.1.1.1.1.1.0 ((cause_7 p s).1 (held p s y (header_sound_lem h.1.1.0) (types_sound_lem h.1.1.1.1.0) x v k m q))
  refuted _ (loop q) h = both_ways _ h.1.1.1.1.1.1.1.0 ((cause_8 p s).1 (looped p s y (header_sound_lem h.1.1.0) (types_sound_lem h.1.1.1.1.0) q))
  refuted _ (short_work q) h = both_ways _ h.1.1.1.1.1.1.1.1.0 ((cause_9 s work).1 q)

  pub numbered : Numbered p s work (opening_number p s work)
  numbered = record { own = own (opening_number p s work) refl; first = λ k q e. refuted k e (none (opening_number p s work) refl k q) }
    where
      own : (n : ℕ) → opening_number p s work ≡ n → (n ≡ 0 → ⊥) → OpeningCause p s work n
      own zero e z = absurd (z refl)
      own (suc k) e z = owned k ((refused_first p s work k).0 e)

      none : (n : ℕ) → opening_number p s work ≡ n → (k : ℕ) → (n ≡ 0) ⊎ (k < n) → Before tests k
      none zero e k q = none_before tests ((sound_none p s work).0 e) k
      none (suc m) e k (inl q) = absurd (omega (arith, q))
      none (suc m) e k (inr q) = first_before tests m k ((refused_first p s work m).0 e) (omega (arith, q))
