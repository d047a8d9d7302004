-- A ceiling on ordering work: with k calls made before and m that the plain rule opens, ordering under the ceiling c gives what the plain rule
-- gives and the count k + m where that is at most c, and else 22 and the count c. Assumes nothing.
use Prim.Native.Nat.{ℕ, zero, suc, ◌+◌, ◌-◌, ◌<◌, ◌≤◌}
use mathlib.Core.Path.{◌≡◌, refl, ap, ◌∙◌, sym, subst}
use mathlib.Core.Bool.{Bool, true, false, not, ◌&&◌, ◌||◌}
use mathlib.Core.List.{List, [], ◌∷◌}
use mathlib.Core.Logic.{⊎_elim}
use native.Mathlib.Omega.{arith}
use lib.Dec.{ltb, leb}
use borrow.Author.Tests.{lt-ltb, le-ltb, le-leb, lt-leb}
use Rattle.std.proofs.lemmas.Bool.{cases_lt}
use Rattle.spec_c_dumper.specs.rules.Order.{Node, ignored, plain, listed, through, ptr, tdef, proto, comp, Table, is_comp, Mark, new, busy, done, is_done, Store, Res, ok, refused, bind, each, meet, finish, enter, alias, fresh, visit, order}
use Rattle.spec_c_dumper.specs.rules.Machine.{Machine, Sess, Answer, shut, ordered, gate, single, onward, from, every}
use Rattle.spec_c_dumper.specs.ceiling.Ceiling.{Told, told, halted, then_bind, each_within, meet_within, enter_within, alias_within, fresh_within, visit_within, most, allows, one_call, order_within, onwards, calls_each, calls_enter, calls_fresh, calls_visit, calls, Counted, ordered_within, gate_within, single_within, onward_within, list_plain, list_within, from_within, every_within}

-- ---- what the plain rule gives, with a count; and under the ceiling c
unfoldable pub tell : {St : Type 0} → Res St → ℕ → Told St
tell (ok s b) j = told s b j
tell (refused e) j = halted e j

unfoldable pub at_most : {St : Type 0} → ℕ → Res St → ℕ → Told St
at_most c r j = elim (leb j c) [ true ↦ tell r j | false ↦ halted 22 c ]

module _ {St : Type 0} (c : ℕ) where
  fits : (r : Res St) (j : ℕ) → j ≤ c → at_most c r j ≡ tell r j
  unfolding at_most
  fits r j l = rw (le-leb j c l, at_most)

  over : (r : Res St) (j : ℕ) → c < j → at_most c r j ≡ halted 22 c
  unfolding at_most
  over r j l = rw (lt-leb j c l, at_most)

  one_told : (s : St) (b : Bool) (k : ℕ) → k ≤ c → told s b k ≡ at_most c (ok s b) (k + 0)
  unfolding tell
  one_told s b k l =
      let e : k ≡ k + 0 = omega arith in
      ap (told s b) e ∙ sym (fits (ok s b) (k + 0) (omega arith))

  -- one after another
  module _ (f : St → Bool → Res St) (g : St → Bool → ℕ) (F : St → Bool → ℕ → Told St) (h : (s : St) (b : Bool) (j : ℕ) → j ≤ c → F s b j ≡ at_most c (f s b) (j + g s b)) where
    fits_bind : (k m : ℕ) → k + m ≤ c → (r : Res St) → then_bind (tell r (k + m)) F ≡ at_most c (bind r f) (k + (m + onwards r g))
    unfolding then_bind tell bind onwards
    fits_bind k m l (ok s b) =
        let e : k + m + g s b ≡ k + (m + g s b) = omega arith in
        h s b (k + m) l ∙ ap (at_most c (f s b)) e
    fits_bind k m l (refused e) =
        let z : k + m ≡ k + (m + 0) = omega arith in
        ap (halted e) z ∙ sym (fits (refused e) (k + (m + 0)) (omega arith))

    cap_bind : (k m : ℕ) (r : Res St) → then_bind (at_most c r (k + m)) F ≡ at_most c (bind r f) (k + (m + onwards r g))
    unfolding then_bind
    cap_bind k m r =
        ⊎_elim
        (λ l. ap (λ (t : Told St). then_bind t F) (over r (k + m) l) ∙ sym (over (bind r f) (k + (m + onwards r g)) (omega arith)))
        (λ l. ap (λ (t : Told St). then_bind t F) (fits r (k + m) l) ∙ fits_bind k m l r)
        (cases_lt c (k + m))

  module _ (F : St → ℕ → ℕ → Told St) (f : St → ℕ → Res St) (g : St → ℕ → ℕ) (h : (s : St) (y j : ℕ) → j ≤ c → F s y j ≡ at_most c (f s y) (j + g s y)) where
    each_is : (ys : List ℕ) (s : St) (b : Bool) (k : ℕ) → k ≤ c → each_within F ys s b k ≡ at_most c (each f ys s b) (k + calls_each f g ys s)
    unfolding each_within each calls_each
    each_is [] s b k l = one_told s b k l
    each_is (y ∷ ys) s b k l =
        ap (λ (t : Told St). then_bind t (λ s' b' k'. each_within F ys s' (b || b') k')) (h s y k l)
        ∙ cap_bind (λ s' b'. each f ys s' (b || b')) (λ s' b'. calls_each f g ys s') (λ s' b' k'. each_within F ys s' (b || b') k') (λ s' b' j i. each_is ys s' (b || b') j i) k (g s y) (f s y)

  -- a step that makes no call, after a call
  after_call : (t : Told St) (r : Res St) (k m : ℕ) (f : St → Bool → Res St) (F : St → Bool → ℕ → Told St) → t ≡ at_most c r (k + m) → ((s : St) (b : Bool) (j : ℕ) → j ≤ c → F s b j ≡ at_most c (f s b) (j + 0))
      → then_bind t F ≡ at_most c (bind r f) (k + m)
  unfolding onwards
  after_call t r k m f F e h =
      let z : k + (m + onwards r (λ s b. 0)) ≡ k + m = ap (λ (j : ℕ). k + (m + j)) (none r) ∙ omega arith in
      ap (λ (u : Told St). then_bind u F) e ∙ cap_bind f (λ s b. 0) F h k m r ∙ ap (at_most c (bind r f)) z
    where
      none : (q : Res St) → onwards q (λ s b. 0) ≡ 0
      none (ok s b) = refl
      none (refused e) = refl

  module _ (K : Store St) where
    enter_is : (p : Bool) (F : St → ℕ → ℕ → Told St) (f : St → ℕ → Res St) (g : St → ℕ → ℕ) → ((s : St) (y j : ℕ) → j ≤ c → F s y j ≡ at_most c (f s y) (j + g s y))
        → (s : St) (x : ℕ) (nm : Bool) (ms : List ℕ) (k : ℕ) → k ≤ c → enter_within K p F s x nm ms k ≡ at_most c (enter K p f s x nm ms) (k + calls_enter K p f g s x ms)
    unfolding enter_within enter calls_enter
    enter_is true F f g h s x nm ms k l = one_told s false k l
    enter_is false F f g h s x nm ms k l =
        after_call (each_within F ms (K.mark busy x s) false k) (each f ms (K.mark busy x s) false) k (calls_each f g ms (K.mark busy x s)) (λ s' b. ok (finish K nm x s') true) (λ s' b k'. told (finish K nm x s') true k')
        (each_is F f g h ms (K.mark busy x s) false k l) (λ s' b j i. one_told (finish K nm x s') true j i)

    alias_is : (p was : Bool) (s : St) (x k : ℕ) → k ≤ c → alias_within K p was s x k ≡ at_most c (alias K p was s x) (k + 0)
    unfolding alias_within alias
    alias_is true was s x k l = one_told (finish K (not was) x s) true k l
    alias_is false was s x k l = one_told s false k l

    meet_is : (p : Bool) (s : St) (k : ℕ) → k ≤ c → meet_within p s k ≡ at_most c (meet p s) (k + 0)
    unfolding meet_within meet tell
    meet_is true s k l = one_told s false k l
    meet_is false s k l = let e : k ≡ k + 0 = omega arith in ap (halted 13) e ∙ sym (fits (refused 13) (k + 0) (omega arith))

    module _ (T : Table) (Rec : St → ℕ → Bool → ℕ → Told St) (rec : St → ℕ → Bool → Res St) (count : St → ℕ → Bool → ℕ)
        (h : (s : St) (y : ℕ) (w : Bool) (j : ℕ) → j ≤ c → Rec s y w j ≡ at_most c (rec s y w) (j + count s y w)) (s : St) (x : ℕ) (weak : Bool) where
      fresh_is : (nd : Node) (k : ℕ) → k ≤ c → fresh_within K T Rec s x weak nd k ≡ at_most c (fresh K T rec s x weak nd) (k + calls_fresh K T rec count s x weak nd)
      unfolding fresh_within fresh calls_fresh
      fresh_is ignored k l = one_told s false k l
      fresh_is plain k l = one_told (finish K false x s) false k l
      fresh_is (listed f) k l = one_told (finish K (T.named x) x s) true k l
      fresh_is (through a t) k l = h s t (not (a && T.strong_arrays) && weak) k l
      fresh_is (ptr t) k l = after_call (Rec s t true k) (rec s t true) k (count s t true) (λ s' b. ok (finish K false x s') b) (λ s' b k'. told (finish K false x s') b k') (h s t true k l) (λ s' b j i. one_told (finish K false x s') b j i)
      fresh_is (tdef t) k l =
          after_call (Rec s t weak k) (rec s t weak) k (count s t weak) (λ s' b. alias K (not weak || b) (is_done (K.get s' x)) s' x) (λ s' b k'. alias_within K (not weak || b) (is_done (K.get s' x)) s' x k') (h s t weak k l)
          (λ s' b j i. alias_is (not weak || b) (is_done (K.get s' x)) s' x j i)
      fresh_is (proto ts) k l = each_is (λ s' y k'. Rec s' y weak k') (λ s' y. rec s' y weak) (λ s' y. count s' y weak) (λ s' y j i. h s' y weak j i) ts s false k l
      fresh_is (comp ms) k l =
          enter_is (weak && T.named x) (λ s' y k'. Rec s' y false k') (λ s' y. rec s' y false) (λ s' y. count s' y false) (λ s' y j i. h s' y false j i) s x (T.named x) ms k l

      visit_is : (m : Mark) (k : ℕ) → k ≤ c → visit_within K T Rec s x weak m k ≡ at_most c (visit K T rec s x weak m) (k + calls_visit K T rec count s x weak m)
      unfolding visit_within visit calls_visit
      visit_is new k l = fresh_is (T.node x) k l
      visit_is busy k l = meet_is (is_comp (T.node x) && (weak && T.named x)) s k l
      visit_is done k l = one_told s true k l

    -- a call that is not refused by 12
    module _ (n : ℕ) (T : Table) (ih : (s : St) (y : ℕ) (w : Bool) (j : ℕ) → j ≤ c → order_within K (most c) n T s y w j ≡ at_most c (order K n T s y w) (j + calls K n T s y w)) (s : St) (x : ℕ) (weak : Bool) (k : ℕ) (l : k ≤ c) where
      abbrev inside : ℕ
      inside = calls_visit K T (λ s' y w. order K n T s' y w) (λ s' y w. calls K n T s' y w) s x weak (K.get s x)

      stays : c ≤ k → order_within K (most c) (suc n) T s x weak k ≡ at_most c (order K (suc n) T s x weak) (k + suc inside)
      unfolding order_within allows
      stays q =
          let e : k ≡ c = omega arith in
          rw (order_within, allows, le-ltb k c q) (ap (halted 22) e ∙ sym (over (order K (suc n) T s x weak) (k + suc inside) (omega arith)))

      goes : k < c → order_within K (most c) (suc n) T s x weak k ≡ at_most c (order K (suc n) T s x weak) (k + suc inside)
      unfolding order_within allows one_call order
      goes q =
          let e : suc k + inside ≡ k + suc inside = omega arith in
          rw (order_within, allows, lt-ltb k c q)
          (visit_is T (λ s' y w k'. order_within K (most c) n T s' y w k') (λ s' y w. order K n T s' y w) (λ s' y w. calls K n T s' y w) ih s x weak (K.get s x) (suc k) q
          ∙ ap (at_most c (visit K T (λ s' y w. order K n T s' y w) s x weak (K.get s x))) e)

      call_is : order_within K (most c) (suc n) T s x weak k ≡ at_most c (order K (suc n) T s x weak) (k + suc inside)
      call_is = ⊎_elim goes stays (cases_lt k c)

    -- THE THEOREM: what ordering under the ceiling comes to
    pub order_is : (n : ℕ) (T : Table) (s : St) (x : ℕ) (weak : Bool) (k : ℕ) → k ≤ c → order_within K (most c) n T s x weak k ≡ at_most c (order K n T s x weak) (k + calls K n T s x weak)
    unfolding order_within order calls tell
    order_is zero T s x weak k l = let e : k ≡ k + 0 = omega arith in ap (halted 12) e ∙ sym (fits (refused 12) (k + 0) (omega arith))
    order_is (suc n) T s x weak k l = call_is n T (λ s' y w j i. order_is n T s' y w j i) s x weak k l

    -- with no 22: the plain rule's result, and the count of the calls that it opens
    pub within : (n : ℕ) (T : Table) (s : St) (x : ℕ) (weak : Bool) (k : ℕ) → k + calls K n T s x weak ≤ c → order_within K (most c) n T s x weak k ≡ tell (order K n T s x weak) (k + calls K n T s x weak)
    within n T s x weak k l = order_is n T s x weak k (omega arith) ∙ fits (order K n T s x weak) (k + calls K n T s x weak) l

    -- "22 when one more call would pass the ceiling": the count is the ceiling
    pub passes : (n : ℕ) (T : Table) (s : St) (x : ℕ) (weak : Bool) (k : ℕ) → k ≤ c → c < k + calls K n T s x weak → order_within K (most c) n T s x weak k ≡ halted 22 c
    passes n T s x weak k i l = order_is n T s x weak k i ∙ over (order K n T s x weak) (k + calls K n T s x weak) l

-- ---- requests
module _ {M H : Type 0} (X : Machine M H) (T : Table) where
  -- the calls that the request for x opens
  abbrev opens : ℕ → Sess M → ℕ → ℕ
  opens room S x = calls X.store 512 T (X.start room S.mach) x false

  told_plain : (S : Sess M) (x : ℕ) (r : Res M) (j : ℕ) → ordered_within X T S x (tell r j) ≡ record { answer = ordered X T S x r; made = j }
  unfolding ordered_within ordered tell
  told_plain S x (ok s b) j = refl
  told_plain S x (refused e) j = refl

  module _ (c room : ℕ) (S : Sess M) (x k : ℕ) where
    gate_fits : k + opens room S x ≤ c → gate_within X T c room S x k true true ≡ record { answer = gate X T room S x true true; made = k + opens room S x }
    unfolding gate_within gate
    gate_fits i = ap (ordered_within X T S x) (within c X.store 512 T (X.start room S.mach) x false k i) ∙ told_plain S x (order X.store 512 T (X.start room S.mach) x false) (k + opens room S x)

    gate_over : k ≤ c → c < k + opens room S x → gate_within X T c room S x k true true ≡ record { answer = shut X T S (X.held S.mach) 22; made = c }
    unfolding gate_within ordered_within
    gate_over l i = ap (ordered_within X T S x) (passes c X.store 512 T (X.start room S.mach) x false k l i)

  -- An answer under a ceiling that is not 22 is the plain request's, with calls that fit, and it is the same under every larger ceiling.
  pub record Fits (c : ℕ) (plainly : Answer M) (under : ℕ → Counted M) : Type 0 where
    pub same_answer : (under c).answer ≡ plainly
    pub at_most_lem : (under c).made ≤ c
    pub larger : (c' : ℕ) → c ≤ c' → under c' ≡ under c

  gate_plain : (c room : ℕ) (S : Sess M) (x k : ℕ) → k ≤ c → (o b : Bool) → ((gate_within X T c room S x k o b).answer.number ≡ 22 → ⊥) → Fits c (gate X T room S x o b) (λ c'. gate_within X T c' room S x k o b)
  unfolding gate_within gate shut
  gate_plain c room S x k l false b n = record { same_answer = refl; at_most_lem = l; larger = λ c' i. refl }
  gate_plain c room S x k l true false n = record { same_answer = refl; at_most_lem = l; larger = λ c' i. refl }
  gate_plain c room S x k l true true n =
      ⊎_elim
      (λ i. absurd (n (ap (λ (a : Counted M). a.answer.number) (gate_over c room S x k l i))))
      (λ i. record {
        same_answer = ap (λ (a : Counted M). a.answer) (gate_fits c room S x k i);
        at_most_lem = subst (λ (j : ℕ). j ≤ c) (sym (ap (λ (a : Counted M). a.made) (gate_fits c room S x k i))) i;
        larger = λ c' j. gate_fits c' room S x k (omega arith) ∙ sym (gate_fits c room S x k i);
      })
      (cases_lt c (k + opens room S x))

  -- "A request that fits under one ceiling gives the same text and count under every larger one."
  pub single_fits : (c room : ℕ) (S : Sess M) (x k : ℕ) → k ≤ c → ((single_within X T c room S x k).answer.number ≡ 22 → ⊥) → Fits c (single X T room S x) (λ c'. single_within X T c' room S x k)
  unfolding single_within single
  single_fits c room S x k l n = gate_plain c room S x k l S.is_open (ltb x T.count) n

  -- one after another
  within_goes : (f : Sess M → ℕ → Counted M) (a : Counted M) → a.answer.number ≡ 0 → onward_within X T f a ≡ f a.answer.sess a.made
  unfolding onward_within
  within_goes f a e = rw (e, onward_within)

  within_stops : (f : Sess M → ℕ → Counted M) (a : Counted M) (m : ℕ) → a.answer.number ≡ suc m → onward_within X T f a ≡ a
  unfolding onward_within
  within_stops f a m e = ap (λ (q : ℕ). elim q as (λ (y : ℕ). Counted M) [ zero ↦ f a.answer.sess a.made | suc j ↦ a ]) e

  plain_goes : (g : Sess M → Answer M) (a : Answer M) → a.number ≡ 0 → onward X T g a ≡ g a.sess
  unfolding onward
  plain_goes g a e = rw (e, onward)

  plain_stops : (g : Sess M → Answer M) (a : Answer M) (m : ℕ) → a.number ≡ suc m → onward X T g a ≡ a
  unfolding onward
  plain_stops g a m e = ap (λ (q : ℕ). elim q as (λ (y : ℕ). Answer M) [ zero ↦ g a.sess | suc j ↦ a ]) e

  module _ (c : ℕ) (f f' : Sess M → ℕ → Counted M) (g : Sess M → Answer M)
      (h : (S : Sess M) (k : ℕ) → k ≤ c → ((f S k).answer.number ≡ 22 → ⊥) → ((f S k).answer ≡ g S) × ((f S k).made ≤ c) × (f' S k ≡ f S k)) (a : Counted M) (l : a.made ≤ c) where
    onward_fits : ((onward_within X T f a).answer.number ≡ 22 → ⊥) → ((onward_within X T f a).answer ≡ onward X T g a.answer) × ((onward_within X T f a).made ≤ c) × (onward_within X T f' a ≡ onward_within X T f a)
    onward_fits n = by a.answer.number refl
      where
        by : (m : ℕ) → a.answer.number ≡ m → ((onward_within X T f a).answer ≡ onward X T g a.answer) × ((onward_within X T f a).made ≤ c) × (onward_within X T f' a ≡ onward_within X T f a)
        by zero e =
            let q = h a.answer.sess a.made l (λ z. n (ap (λ (d : Counted M). d.answer.number) (within_goes f a e) ∙ z)) in (
              ap (λ (d : Counted M). d.answer) (within_goes f a e) ∙ q.0 ∙ sym (plain_goes g a.answer e),
              subst (λ (d : Counted M). d.made ≤ c) (sym (within_goes f a e)) q.1,
              within_goes f' a e ∙ q.2 ∙ sym (within_goes f a e),
            )
        by (suc m) e = (
          ap (λ (d : Counted M). d.answer) (within_stops f a m e) ∙ sym (plain_stops g a.answer m e),
          subst (λ (d : Counted M). d.made ≤ c) (sym (within_stops f a m e)) l,
          within_stops f' a m e ∙ sym (within_stops f a m e),
        )

  first_not : (f : Sess M → ℕ → Counted M) (a : Counted M) → ((onward_within X T f a).answer.number ≡ 22 → ⊥) → a.answer.number ≡ 22 → ⊥
  first_not f a n e = n (ap (λ (d : Counted M). d.answer.number) (within_stops f a 21 e) ∙ e)

  module _ (c c' room : ℕ) (i : c ≤ c') where
    pub from_fits : (n x : ℕ) (S : Sess M) (k : ℕ) → k ≤ c → ((from_within X T c room n x S k).answer.number ≡ 22 → ⊥)
        → ((from_within X T c room n x S k).answer ≡ from X T room n x S) × ((from_within X T c room n x S k).made ≤ c) × (from_within X T c' room n x S k ≡ from_within X T c room n x S k)
    unfolding from_within from
    from_fits zero x S k l q = (refl, l, refl)
    from_fits (suc n) x S k l q =
        let s : Fits c (single X T room S x) (λ j. single_within X T j room S x k) = single_fits c room S x k l (first_not (from_within X T c room n (suc x)) (single_within X T c room S x k) q) in
        let r = onward_fits c (from_within X T c room n (suc x)) (from_within X T c' room n (suc x)) (from X T room n (suc x)) (λ S' k' l' q'. from_fits n (suc x) S' k' l' q') (single_within X T c room S x k) s.at_most_lem q in
        (r.0 ∙ ap (onward X T (from X T room n (suc x))) s.same_answer, r.1, ap (onward_within X T (from_within X T c' room n (suc x))) (s.larger c' i) ∙ r.2)

    pub every_fits : (S : Sess M) (o : Bool) → ((every_within X T c room S o).answer.number ≡ 22 → ⊥)
        → ((every_within X T c room S o).answer ≡ every X T room S o) × ((every_within X T c room S o).made ≤ c) × (every_within X T c' room S o ≡ every_within X T c room S o)
    unfolding every_within every
    every_fits S false q = (refl, omega arith, refl)
    every_fits S true q = from_fits (T.count - 1) 1 S 0 (omega arith) q

    pub list_fits : (xs : List ℕ) (S : Sess M) (k : ℕ) → k ≤ c → ((list_within X T c room xs S k).answer.number ≡ 22 → ⊥)
        → ((list_within X T c room xs S k).answer ≡ list_plain X T room xs S) × ((list_within X T c room xs S k).made ≤ c) × (list_within X T c' room xs S k ≡ list_within X T c room xs S k)
    unfolding list_within list_plain
    list_fits [] S k l q = (refl, l, refl)
    list_fits (x ∷ xs) S k l q =
        let s : Fits c (single X T room S x) (λ j. single_within X T j room S x k) = single_fits c room S x k l (first_not (list_within X T c room xs) (single_within X T c room S x k) q) in
        let r = onward_fits c (list_within X T c room xs) (list_within X T c' room xs) (list_plain X T room xs) (λ S' k' l' q'. list_fits xs S' k' l' q') (single_within X T c room S x k) s.at_most_lem q in
        (r.0 ∙ ap (onward X T (list_plain X T room xs)) s.same_answer, r.1, ap (onward_within X T (list_within X T c' room xs)) (s.larger c' i) ∙ r.2)
