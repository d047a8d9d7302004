-- Ordering with two numbers and words for the leaders is, without a ceiling, ordering with leaders (`order_with_leaders` of the definitions). Assumes nothing.
use Prim.Native.Nat.{ℕ, zero, suc, ◌+◌, ◌*◌, ◌/◌, ◌%◌, ◌<◌}
use mathlib.Core.Path.{◌≡◌, refl, ap, ◌∙◌, sym, subst}
use mathlib.Core.Bool.{Bool, true, false}
use mathlib.Core.List.{List, [], ◌∷◌, ◌++◌, Memᴰ}
use mathlib.Core.Logic.{◌≢◌}
use native.Mathlib.Omega.{arith}
use lib.Dec.{eqb}
use lib.ListN.{length, get_or, set, length-set}
use lib.Seq.{get_or-set_same, get_or-set_other}
use borrow.Author.Tests.{eqb-true, eqb-false, eq-eqb, ne_eqb}
use Rattle.spec_c_dumper.specs.rules.Order.{Table}
use Rattle.c_dumper_dependency_order.specs.order_state.Work.{Marks, work_store}
use Rattle.spec_session.specs.emission.Slices.{Slices, with_marks, slices_store}
use Rattle.spec_c_dumper.specs.ceiling.Ceiling.{unbounded, allows, one_call}
use Rattle.spec_c_dumper.proofs.ceiling.Counted.{tell}
use Rattle.spec_c_dumper.proofs.rules.Maps.{rmap, StoreMap, map_visit_plain, map_visit}
use Rattle.spec_c_dumper.specs.origins.Causes.{led_by, is_around, inside, WithLeaders, leader_store, order_with_leaders, leader_of, listed_entry, entry}
use Rattle.spec_c_dumper.proofs.origins.Ordering.{two_numbers}
use Rattle.c_dumper_dependency_order.specs.declared.leaders.Way.{Way}
use Rattle.c_dumper_dependency_order.specs.leaders.Leaders.{leader_on_way, way_for, word_at, has_leader, note_in, leader_in, entry_in, MarksAndLeaders, kept_store, order_kept}
use Rattle.c_dumper_emit.specs.dump_type.Kept.{Before}

-- ---- the words after some notes
unfoldable pub note_of : ℕ → List ℕ → ℕ × ℕ → List ℕ
note_of turn l p = elim (has_leader turn l p.0) [ true ↦ l | false ↦ set l p.0 (turn * 4294967296 + p.1) ]

unfoldable pub tabled : ℕ → List ℕ → List (ℕ × ℕ) → List ℕ
tabled turn l [] = l
tabled turn l (p ∷ ps) = tabled turn (note_of turn l p) ps

tabled_more : (turn : ℕ) (l : List ℕ) (ps : List (ℕ × ℕ)) (p : ℕ × ℕ) → tabled turn l (ps ++ (p ∷ [])) ≡ note_of turn (tabled turn l ps) p
unfolding tabled
tabled_more turn l [] p = refl
tabled_more turn l (q ∷ ps) p = tabled_more turn (note_of turn l q) ps p

-- ---- ordering
module _ (req turn : ℕ) (l₀ : List ℕ) where
  abbrev pub kept_from : WithLeaders Marks → MarksAndLeaders
  kept_from s = record { marks = s.state; leaders = tabled turn l₀ s.leaders }

  kept_map : (v : Way) (around : List ℕ) → v.turn ≡ turn → ((x : ℕ) → leader_on_way v x ≡ led_by req around x) → StoreMap (leader_store work_store req around) (kept_store v) kept_from
  unfolding kept_store note_in note_of
  kept_map v around et h = record {
    gets = λ s x. refl;
    marks = λ d x s. refl;
    pushes = λ x s. ap (λ (l : List ℕ). record { marks = work_store.push x s.state; leaders = l })
        ((λ i. elim (has_leader (et i) (tabled turn l₀ s.leaders) x) [ true ↦ tabled turn l₀ s.leaders | false ↦ set (tabled turn l₀ s.leaders) x (et i * 4294967296 + h x i) ])
        ∙ sym (tabled_more turn l₀ s.leaders (x, led_by req around x)));
    lists = λ s. refl;
  }

  -- two numbers for what is being ordered
  inner : (c : Bool) (v : Way) (around : List ℕ) (x : ℕ) → ((z : ℕ) → leader_on_way v z ≡ led_by req around z) → (z : ℕ) → leader_on_way (way_for c v x) z ≡ led_by req (inside c x around) z
  unfolding leader_on_way
  inner false v around x h z = h z
  inner true v around x h z = ap (λ (k : ℕ). elim (eqb x z) [ true ↦ k | false ↦ x ]) (h x) ∙ sym (two_numbers req around x z)

  turn_same : (c : Bool) (v : Way) (x : ℕ) → v.turn ≡ turn → (way_for c v x).turn ≡ turn
  turn_same false v x e = e
  turn_same true v x e = e

  pub order_kept_lem : (n : ℕ) (v : Way) (around : List ℕ) → v.turn ≡ turn → ((x : ℕ) → leader_on_way v x ≡ led_by req around x) → (T : Table) (s : WithLeaders Marks) (x : ℕ) (weak : Bool) (k : ℕ)
      → order_kept unbounded v n T (kept_from s) x weak k ≡ tell (rmap kept_from (order_with_leaders work_store req n T around s x weak)) k
  unfolding order_kept order_with_leaders allows one_call tell
  order_kept_lem zero v around et h T s x weak k = refl
  order_kept_lem (suc n) v around et h T s x weak k =
      map_visit_plain (leader_store work_store req around) (kept_store v) kept_from (kept_map v around et h) T (λ s' y f. order_with_leaders work_store req n T (inside (is_around (T.node x)) x around) s' y f) s x weak
      (λ s' y f j. order_kept unbounded (way_for (is_around (T.node x)) v x) n T s' y f j)
      (λ s' y f j. order_kept_lem n (way_for (is_around (T.node x)) v x) (inside (is_around (T.node x)) x around) (turn_same (is_around (T.node x)) v x et) (inner (is_around (T.node x)) v around x h) T s' y f j)
      (work_store.get s.state x) k

-- beside a text
module _ (m : Slices) (req : ℕ) where
  abbrev pub beside_leaders : WithLeaders Marks → WithLeaders Slices
  beside_leaders s = record { state = with_marks m s.state; leaders = s.leaders }

  beside_map : (around : List ℕ) → StoreMap (leader_store work_store req around) (leader_store slices_store req around) beside_leaders
  unfolding slices_store
  beside_map around = record { gets = λ s x. refl; marks = λ d x s. refl; pushes = λ x s. refl; lists = λ s. refl }

  pub lift_leaders : (n : ℕ) (T : Table) (around : List ℕ) (s : WithLeaders Marks) (x : ℕ) (weak : Bool) → order_with_leaders slices_store req n T around (beside_leaders s) x weak ≡ rmap beside_leaders (order_with_leaders work_store req n T around s x weak)
  unfolding order_with_leaders slices_store
  lift_leaders zero T around s x weak = refl
  lift_leaders (suc n) T around s x weak =
      map_visit (leader_store work_store req around) (leader_store slices_store req around) beside_leaders (beside_map around) T (λ s' y f. order_with_leaders work_store req n T (inside (is_around (T.node x)) x around) s' y f) s x weak
      (λ s' y f. order_with_leaders slices_store req n T (inside (is_around (T.node x)) x around) s' y f) (λ s' y f. lift_leaders n T (inside (is_around (T.node x)) x around) s' y f) (work_store.get s.state x)

-- ---- what the words say
-- what a note needs: room for the id, and a leader that a word holds
pub record Fits (n : ℕ) (p : ℕ × ℕ) : Type 0 where
  pub id_fits : p.0 < n
  pub leader_fits : p.1 < 4294967296

module _ (req turn : ℕ) where
  note_length : (l : List ℕ) (p : ℕ × ℕ) → length (note_of turn l p) ≡ length l
  unfolding note_of
  note_length l p = go (has_leader turn l p.0)
    where
      go : (c : Bool) → length {A = ℕ} (elim c as (λ z. List ℕ) [ true ↦ l | false ↦ set l p.0 (turn * 4294967296 + p.1) ]) ≡ length l
      go true = refl
      go false = length-set l p.0 (turn * 4294967296 + p.1)

  note_other : (l : List ℕ) (p : ℕ × ℕ) (x : ℕ) → x ≢ p.0 → word_at (note_of turn l p) x ≡ word_at l x
  unfolding note_of word_at
  note_other l p x h = go (has_leader turn l p.0)
    where
      go : (c : Bool) → get_or (elim c as (λ z. List ℕ) [ true ↦ l | false ↦ set l p.0 (turn * 4294967296 + p.1) ]) x 0 ≡ get_or l x 0
      go true = refl
      go false = get_or-set_other l p.0 x (turn * 4294967296 + p.1) 0 h

  -- an id that was noted before
  note_again : (l : List ℕ) (p : ℕ × ℕ) → has_leader turn l p.0 ≡ true → note_of turn l p ≡ l
  unfolding note_of
  note_again l p e = ap (λ (c : Bool). elim c as (λ z. List ℕ) [ true ↦ l | false ↦ set l p.0 (turn * 4294967296 + p.1) ]) e

  note_first : (l : List ℕ) (p : ℕ × ℕ) → Fits (length l) p → has_leader turn l p.0 ≡ false → word_at (note_of turn l p) p.0 ≡ turn * 4294967296 + p.1
  unfolding note_of word_at
  note_first l p f e = ap (λ (c : Bool). get_or (elim c as (λ z. List ℕ) [ true ↦ l | false ↦ set l p.0 (turn * 4294967296 + p.1) ]) p.0 0) e ∙ get_or-set_same l p.0 (turn * 4294967296 + p.1) 0 f.id_fits

  by_word : (l l' : List ℕ) (x : ℕ) → word_at l' x ≡ word_at l x → has_leader turn l' x ≡ has_leader turn l x
  unfolding has_leader
  by_word l l' x e = ap (λ (k : ℕ). eqb (k / 4294967296) turn) e

  leader_word : (l l' : List ℕ) (x : ℕ) → word_at l' x ≡ word_at l x → leader_in req turn l' x ≡ leader_in req turn l x
  unfolding leader_in has_leader
  leader_word l l' x e = ap (λ (k : ℕ). elim (eqb (k / 4294967296) turn) [ true ↦ k % 4294967296 | false ↦ req ]) e

  word_with_leader : (l : List ℕ) (x d : ℕ) → d < 4294967296 → word_at l x ≡ turn * 4294967296 + d → (has_leader turn l x ≡ true) × (leader_in req turn l x ≡ d)
  unfolding has_leader leader_in
  word_with_leader l x d h e =
      let q : (turn * 4294967296 + d) / 4294967296 ≡ turn = omega arith in
      let r : (turn * 4294967296 + d) % 4294967296 ≡ d = omega arith in
      let z : eqb (word_at l x / 4294967296) turn ≡ true = eq-eqb (word_at l x / 4294967296) turn (ap (λ (k : ℕ). k / 4294967296) e ∙ q) in
      (z, ap (λ (c : Bool). elim c [ true ↦ word_at l x % 4294967296 | false ↦ req ]) z ∙ ap (λ (k : ℕ). k % 4294967296) e ∙ r)

  none_leads : (l : List ℕ) (x : ℕ) → has_leader turn l x ≡ false → leader_in req turn l x ≡ req
  unfolding leader_in
  none_leads l x e = ap (λ (c : Bool). elim c [ true ↦ word_at l x % 4294967296 | false ↦ req ]) e

  module _ (n : ℕ) where
    -- once noted, it stays
    found : (ps : List (ℕ × ℕ)) (l : List ℕ) → length l ≡ n → ((p : ℕ × ℕ) → Memᴰ p ps → Fits n p) → (x : ℕ) → has_leader turn l x ≡ true → leader_in req turn (tabled turn l ps) x ≡ leader_in req turn l x
    unfolding tabled
    found [] l en h x e = refl
    found (p ∷ ps) l en h x e = by (eqb x p.0) refl (λ a c. found ps (note_of turn l p) (note_length l p ∙ en) (λ q i. h q (Memᴰ.tail i)) x a ∙ c)
      where
        by : (c : Bool) → eqb x p.0 ≡ c → (has_leader turn (note_of turn l p) x ≡ true → leader_in req turn (note_of turn l p) x ≡ leader_in req turn l x → leader_in req turn (tabled turn (note_of turn l p) ps) x ≡ leader_in req turn l x)
            → leader_in req turn (tabled turn (note_of turn l p) ps) x ≡ leader_in req turn l x
        by true q onwards = let k : note_of turn l p ≡ l = note_again l p (ap (has_leader turn l) (sym (eqb-true x p.0 q)) ∙ e) in onwards (ap (λ (u : List ℕ). has_leader turn u x) k ∙ e) (ap (λ (u : List ℕ). leader_in req turn u x) k)
        by false q onwards = let k : word_at (note_of turn l p) x ≡ word_at l x = note_other l p x (eqb-false x p.0 q) in onwards (by_word l (note_of turn l p) x k ∙ e) (leader_word l (note_of turn l p) x k)

    -- the leader at the first listing
    pub leader_is : (ps : List (ℕ × ℕ)) (l : List ℕ) → length l ≡ n → ((p : ℕ × ℕ) → Memᴰ p ps → Fits n p) → (x : ℕ) → has_leader turn l x ≡ false → leader_in req turn (tabled turn l ps) x ≡ leader_of req ps x
    unfolding tabled leader_of
    leader_is [] l en h x e = none_leads l x e
    leader_is (p ∷ ps) l en h x e = by (eqb p.0 x) refl (λ q. leader_is ps (note_of turn l p) (note_length l p ∙ en) (λ z i. h z (Memᴰ.tail i)) x q)
      where
        f : Fits n p
        f = h p (Memᴰ.head refl)

        by : (c : Bool) → eqb p.0 x ≡ c → (has_leader turn (note_of turn l p) x ≡ false → leader_in req turn (tabled turn (note_of turn l p) ps) x ≡ leader_of req ps x)
            → leader_in req turn (tabled turn (note_of turn l p) ps) x ≡ (elim c [ true ↦ p.1 | false ↦ leader_of req ps x ])
        by true q later =
            let s : p.0 ≡ x = eqb-true p.0 x q in
            let u : word_at (note_of turn l p) x ≡ turn * 4294967296 + p.1 = ap (word_at (note_of turn l p)) (sym s) ∙ note_first l p (subst (λ (k : ℕ). Fits k p) (sym en) f) (ap (has_leader turn l) s ∙ e) in
            let v = word_with_leader (note_of turn l p) x p.1 f.leader_fits u in
            found ps (note_of turn l p) (note_length l p ∙ en) (λ z i. h z (Memᴰ.tail i)) x v.0 ∙ v.1
        by false q later = let k : word_at (note_of turn l p) x ≡ word_at l x = note_other l p x (λ z. eqb-false p.0 x q (sym z)) in later (by_word l (note_of turn l p) x k ∙ e)

-- ---- turns
pub before_none : (turn : ℕ) (l : List ℕ) → Before turn l → (x : ℕ) → has_leader turn l x ≡ false
unfolding Before has_leader
before_none turn l h x = ne_eqb (word_at l x / 4294967296) turn (λ e. let z : word_at l x / 4294967296 < turn = h x in omega arith)

pub before_more : (turn : ℕ) (l : List ℕ) → Before turn l → Before (turn + 1) l
unfolding Before
before_more turn l h x = let z : word_at l x / 4294967296 < turn = h x in omega arith

note_before : (turn : ℕ) (l : List ℕ) (p : ℕ × ℕ) → Fits (length l) p → Before (turn + 1) l → Before (turn + 1) (note_of turn l p)
unfolding Before
note_before turn l p f h x = by (eqb x p.0) (has_leader turn l p.0) refl refl
  where
    by : (c d : Bool) → eqb x p.0 ≡ c → has_leader turn l p.0 ≡ d → word_at (note_of turn l p) x / 4294967296 < turn + 1
    by false d e q = subst (λ (k : ℕ). k / 4294967296 < turn + 1) (sym (note_other 0 turn l p x (eqb-false x p.0 e))) (h x)
    by true true e q = subst (λ (k : List ℕ). word_at k x / 4294967296 < turn + 1) (sym (note_again 0 turn l p q)) (h x)
    by true false e q =
        let z : word_at (note_of turn l p) x ≡ turn * 4294967296 + p.1 = ap (word_at (note_of turn l p)) (eqb-true x p.0 e) ∙ note_first 0 turn l p f q in
        let i : p.1 < 4294967296 = f.leader_fits in
        subst (λ (k : ℕ). k / 4294967296 < turn + 1) (sym z) (omega arith)

pub tabled_before : (turn n : ℕ) (ps : List (ℕ × ℕ)) (l : List ℕ) → length l ≡ n → ((p : ℕ × ℕ) → Memᴰ p ps → Fits n p) → Before (turn + 1) l → Before (turn + 1) (tabled turn l ps)
unfolding tabled
tabled_before turn n [] l en f h = h
tabled_before turn n (p ∷ ps) l en f h =
    tabled_before turn n ps (note_of turn l p) (note_length 0 turn l p ∙ en) (λ q i. f q (Memᴰ.tail i)) (note_before turn l p (subst (λ (k : ℕ). Fits k p) (sym en) (f p (Memᴰ.head refl))) h)

-- the entry of a listed id
pub entry_is : (req turn : ℕ) (l : List ℕ) (ps : List (ℕ × ℕ)) → ((x : ℕ) → leader_in req turn l x ≡ leader_of req ps x) → entry_in req turn l ≡ listed_entry req ps
unfolding entry_in listed_entry
entry_is req turn l ps h = λ i x. elim (eqb x req) [ true ↦ entry x 0 x | false ↦ entry x 1 (h x i) ]
