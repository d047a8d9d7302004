-- Cause 7 on the table: a law for each return, and the theorem. Assumes nothing.
use Prim.Native.Nat.{ℕ, ◌+◌, ◌/◌, ◌%◌, ◌<◌, ◌≤◌}
use mathlib.Core.Path.{◌≡◌, refl, ap, ◌∙◌, sym}
use mathlib.Core.Bool.{Bool, true, false}
use mathlib.Core.List.{List}
use mathlib.Core.Logic.{⊎_elim, ◌⊎◌, inl, inr, ◌↔◌}
use native.Mathlib.Omega.{arith}
use lib.Dec.{eqb}
use borrow.Author.Tests.{eqb-true, ne_eqb}
use Rattle.spec_bytes.specs.words.Words.{pick}
use Rattle.spec_type_table.specs.declared.types.TypeTable.{TypeTable}
use Rattle.btf_open_causes.specs.references.Any.{any_below}
use Rattle.btf_open_causes.specs.references.Followed.{is_kind_among, type_count, entry_at, kind_at, count_at, followed_count, followed_id}
use Rattle.btf_open_causes.specs.prototypes.Track.{Leads, here, on, leads_to}
use Rattle.btf_open_causes.specs.prototypes.Prototypes.{through, holders, what_of, next_of, track_of, asks_at, asks_of, asker, any_leads, ToProto, ends, passes, ProtoInside}
use Rattle.btf_open_causes.specs.declared.prototypes.Cell.{Cell}
use Rattle.btf_open_causes.specs.prototypes.Cells.{Rest, Answer, Part}
use Rattle.btf_open_causes.proofs.references.Any.{any_find, any_yes, one_more, found_below, none_found}
use Rattle.btf_open_causes.proofs.references.Accessors.{steady, apart, kind_is, place_is}
use Rattle.btf_open_causes.proofs.prototypes.Tracks.{leads_to_lem}

module _ (b : TypeTable) (start : List ℕ) where
  module _ (x k : ℕ) (e : k ≡ kind_at b start x) where
    what_passes : is_kind_among through k ≡ true → 1 ≡ what_of b start x
    unfolding what_of
    what_passes f = rw (what_of, ← e, f)

    pub what_proto : k ≡ 13 → 2 ≡ what_of b start x
    unfolding what_of is_kind_among
    what_proto f = rw (what_of, ← e, f)

    pub what_one : (k ≡ 3) ⊎ (k ≡ 18) → 1 ≡ what_of b start x
    unfolding is_kind_among
    what_one o = what_passes (⊎_elim (λ f. rw f) (λ f. rw f) o)

    pub what_through : 8 ≤ k → k < 12 → 1 ≡ what_of b start x
    unfolding is_kind_among
    what_through h l = what_passes (steady (is_kind_among through) true 8 4 k (refl, (refl, (refl, (refl, tt)))) h l)

    pub what_none : ((k ≡ 3) ⊎ (k ≡ 18) → ⊥) → (k ≡ 13 → ⊥) → (k < 8) ⊎ (12 ≤ k) → 0 ≡ what_of b start x
    unfolding what_of
    what_none m n o = rw (what_of, ← e, off o, ne_eqb k 13 n)
      where
        off : (k < 8) ⊎ (12 ≤ k) → is_kind_among through k ≡ false
        off (inl h) = apart through k ((λ f. m (inl f)), (omega arith, (omega arith, (omega arith, (omega arith, ((λ f. m (inr f)), tt))))))
        off (inr h) = apart through k ((λ f. m (inl f)), (omega arith, (omega arith, (omega arith, (omega arith, ((λ f. m (inr f)), tt))))))

-- members and elements of the record of a kind at a place
module _ (b : TypeTable) (s : List ℕ) (k at : ℕ) where
  pub asks_inside : 3 ≤ k → k < 6 → (n : ℕ) → n ≡ count_at b s k at → n ≡ asks_at b s k at
  unfolding asks_at is_kind_among
  asks_inside h l n f = rw (asks_at, steady (is_kind_among holders) true 3 3 k (refl, (refl, (refl, tt))) h l) f

  pub asks_none : (k < 3) ⊎ (6 ≤ k) → 0 ≡ asks_at b s k at
  unfolding asks_at
  asks_none o = rw (asks_at, off o)
    where
      off : (k < 3) ⊎ (6 ≤ k) → is_kind_among holders k ≡ false
      off (inl h) = apart holders k (omega arith, (omega arith, (omega arith, tt)))
      off (inr h) = apart holders k (omega arith, (omega arith, (omega arith, tt)))

module _ (b : TypeTable) (s start : List ℕ) where
  pub asks_is : (x i : ℕ) → i ≡ entry_at b start x → (n : ℕ) → n ≡ asks_at b s (i % 32) (i / 32) → n ≡ asks_of b s start x
  unfolding asks_of
  asks_is x i e n f = rw (← kind_is b start x i e, ← place_is b start x i e) f

  pub next_is : (x r : ℕ) → r ≡ followed_id b s start x 0 → r ≡ next_of b s start x
  unfolding next_of
  next_is x r e = e

  module _ (x : ℕ) where
    pub part_more : (k y : ℕ) (cell : List Cell) (r : Bool) → y ≡ followed_id b s start x k → Answer (track_of b s start) y cell r → r ≡ false
        → ((v : ℕ) → v < k → leads_to (track_of b s start) (followed_id b s start x v) ≡ false)
        → (v : ℕ) → v < k + 1 → leads_to (track_of b s start) (followed_id b s start x v) ≡ false
    part_more k y cell r f a t h = one_more (λ v. leads_to (track_of b s start) (followed_id b s start x v)) k h (ap (leads_to (track_of b s start)) (sym f) ∙ sym a.is ∙ t)

    module _ (n : ℕ) (e : n ≡ asks_of b s start x) (cell : List Cell) (k : ℕ) where
      pub part_yes : (y : ℕ) (r : Bool) → k < n → y ≡ followed_id b s start x k → Answer (track_of b s start) y cell r → r ≡ true → Part b s start x cell true
      unfolding asker
      part_yes y r h f a t = record {
        rest = a.rest;
        is = found_below (λ v. leads_to (track_of b s start) (followed_id b s start x v)) n _ k e r h (a.is ∙ ap (leads_to (track_of b s start)) f) t;
      }

      pub part_no : n ≤ k → Rest (track_of b s start) cell → ((v : ℕ) → v < k → leads_to (track_of b s start) (followed_id b s start x v) ≡ false)
          → Part b s start x cell false
      unfolding asker
      part_no h r a = record { rest = r; is = none_found (λ v. leads_to (track_of b s start) (followed_id b s start x v)) n _ k e h a }

  pub all_more : (i : ℕ) (cell : List Cell) (r : Bool) → Part b s start i cell r → r ≡ false
      → ((v : ℕ) → v < i → asker b s start v ≡ false) → (v : ℕ) → v < i + 1 → asker b s start v ≡ false
  all_more i cell r p t h = one_more (asker b s start) i h (sym p.is ∙ t)

  module _ (n i : ℕ) (e : n ≡ type_count b) where
    pub all_yes : (cell : List Cell) (r : Bool) → i < n → Part b s start i cell r → r ≡ true → true ≡ any_leads b s start
    unfolding any_leads
    all_yes cell r h p t = found_below (asker b s start) n _ i e r h p.is t

    pub all_no : n ≤ i → ((v : ℕ) → v < i → asker b s start v ≡ false) → false ≡ any_leads b s start
    unfolding any_leads
    all_no h a = none_found (asker b s start) n _ i e h a

  -- members and elements, and the walk, in the table's own terms
  asks_kind : (x k : ℕ) → k < asks_of b s start x → (is_kind_among holders (kind_at b start x) ≡ true) × (k < followed_count b s start x)
  unfolding asks_of asks_at followed_count
  asks_kind x k h = go (is_kind_among holders (kind_at b start x)) refl h
    where
      go : (t : Bool) → is_kind_among holders (kind_at b start x) ≡ t → k < pick t (followed_count b s start x) 0 → (is_kind_among holders (kind_at b start x) ≡ true) × (k < followed_count b s start x)
      go true e l = (e, l)
      go false e l = absurd (omega arith)

  asks_holder : (x k : ℕ) → is_kind_among holders (kind_at b start x) ≡ true → k < followed_count b s start x → k < asks_of b s start x
  unfolding asks_of asks_at followed_count
  asks_holder x k e h = rw (asks_of, asks_at, e) h

  what_one_kind : (x : ℕ) → what_of b start x ≡ 1 → is_kind_among through (kind_at b start x) ≡ true
  unfolding what_of
  what_one_kind x e = go (is_kind_among through (kind_at b start x)) (eqb (kind_at b start x) 13) refl e
    where
      go : (t p : Bool) → is_kind_among through (kind_at b start x) ≡ t → pick t 1 (pick p 2 0) ≡ 1 → is_kind_among through (kind_at b start x) ≡ true
      go true p f q = f
      go false true f q = absurd (omega arith)
      go false false f q = absurd (omega arith)

  what_two_kind : (x : ℕ) → what_of b start x ≡ 2 → kind_at b start x ≡ 13
  unfolding what_of
  what_two_kind x e = go (is_kind_among through (kind_at b start x)) (eqb (kind_at b start x) 13) refl e
    where
      go : (t p : Bool) → eqb (kind_at b start x) 13 ≡ p → pick t 1 (pick p 2 0) ≡ 2 → kind_at b start x ≡ 13
      go true p f q = absurd (omega arith)
      go false true f q = eqb-true (kind_at b start x) 13 f
      go false false f q = absurd (omega arith)

  to_proto : {y : ℕ} → Leads (track_of b s start) y → ToProto b s start y
  unfolding next_of
  to_proto (here {x = y} e) = ends (what_two_kind y e)
  to_proto (on {x = y} e l) = passes (what_one_kind y e) (to_proto l)

  from_proto : {y : ℕ} → ToProto b s start y → Leads (track_of b s start) y
  unfolding next_of
  from_proto (ends {y = y} e) = here (sym (what_proto b start y _ refl e))
  from_proto (passes {y = y} e l) = on (sym (what_passes b start y _ refl e)) (from_proto l)

  -- THE THEOREM
  pub any_leads_lem : (any_leads b s start ≡ true) ↔ ProtoInside b s start
  unfolding any_leads asker
  any_leads_lem = (find, show)
    where
      find : any_below (type_count b) (asker b s start) ≡ true → ProtoInside b s start
      find e =
          let p = any_find (type_count b) (asker b s start) e in
          let q = any_find (asks_of b s start p.0) (λ k. leads_to (track_of b s start) (followed_id b s start p.0 k)) p.2 in
          let h = asks_kind p.0 q.0 q.1 in
          record {
            x = p.0;
            k = q.0;
            type = p.1;
            holder = h.0;
            inside = h.1;
            leads = to_proto ((leads_to_lem (track_of b s start) (followed_id b s start p.0 q.0)).0 q.2);
          }

      show : ProtoInside b s start → any_below (type_count b) (asker b s start) ≡ true
      show r =
          any_yes (type_count b) (asker b s start) r.x r.type
          (any_yes (asks_of b s start r.x) (λ k. leads_to (track_of b s start) (followed_id b s start r.x k)) r.k (asks_holder r.x r.k r.holder r.inside)
          ((leads_to_lem (track_of b s start) (followed_id b s start r.x r.k)).1 (from_proto r.leads)))
