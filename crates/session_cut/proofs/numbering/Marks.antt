-- The closed marks are those of the reached ids. Assumes nothing.
use Prim.Native.Nat.{ℕ, zero, suc, ◌+◌, ◌<◌, ◌≤◌}
use native.Mathlib.Omega.{arith}
use native.Mathlib.Decide.{ℕ_discrete}
use mathlib.Core.Path.{◌≡◌, refl, sym, ◌∙◌, ap, subst}
use mathlib.Core.Bool.{Bool, true, false}
use mathlib.Core.List.Memᴰ
use mathlib.Core.List.{List, Memᴰ}
use mathlib.Core.Logic.{◌⊎◌, inl, inr}
use lib.ListN.{length, get_or, set, length-set}
use lib.Seq.{get_or-set_same, get_or-set_other}
use lib.Dec.{ltb, eqb}
use borrow.Author.Tests.{eqb-true, eqb-false, ltb-true, ltb-false}
use Rattle.std.proofs.lemmas.Bool.{cases_lt}
use Rattle.spec_bytes.specs.words.Words.{table}
use Rattle.spec_linux_btf.specs.Documentation.{Described}
use Rattle.spec_type_table.specs.declared.types.TypeTable.{TypeTable}
use Rattle.btf_open_causes.specs.references.Followed.{type_count, followed_count, followed_id}
use Rattle.btf_open_causes.specs.references.Bounds.{count_fits, followed_none}
use Rattle.btf_open_causes.specs.references.Zeros.{zeros}
use Rattle.btf_open_causes.proofs.references.Zeros.{zeros_less}
use Rattle.spec_cut.specs.section.Kept.{followed_ids, type_of, Reached, asked, onward}
use Rattle.spec_cut.specs.reopened.Seen.{SeenFrom}
use Rattle.session_cut_marks.specs.marks.Marks.{Heap, heap, pushed, pushed_to, weight, turned, closed}
use Rattle.session_cut_marks.proofs.marks.Laws.{turn_light}
use Rattle.session_cut.specs.numbering.Marked.{Has, Markable, OnStack, Good, Grows, Passed, Pending}

-- an entry of a list that is made from a function
table_any : (f : ℕ → ℕ) (k n y : ℕ) → Memᴰ y (table f k n) → (j : ℕ) × (j < n) × (f (k + j) ≡ y)
table_any f k zero y h = absurd (Memᴰ.not-nil h)
table_any f k (suc n) y (Memᴰ.head q) = let z : k + 0 ≡ k = omega arith in (0, omega arith, ap f z ∙ sym q)
table_any f k (suc n) y (Memᴰ.tail h) =
    let r = table_any f (suc k) n y h in
    let l : r.0 < n = r.1 in
    let z : k + suc r.0 ≡ suc k + r.0 = omega arith in
    (suc r.0, omega (arith, l), ap f z ∙ r.2)

pub table_from : (f : ℕ → ℕ) (k n y : ℕ) → Memᴰ y (table f 0 n) → (j : ℕ) × (j < n) × (f j ≡ y)
table_from f k n y h = let r = table_any f 0 n y h in let z : r.0 ≡ 0 + r.0 = omega arith in (r.0, r.1, ap f z ∙ r.2)

pub table_to : (f : ℕ → ℕ) (k n j : ℕ) → j < n → Memᴰ (f (k + j)) (table f k n)
table_to f k zero j l = absurd (omega (arith, l))
table_to f k (suc n) zero l = let e : k + 0 ≡ k = omega arith in Memᴰ.head (ap f e)
table_to f k (suc n) (suc j) l =
    let e : suc k + j ≡ k + suc j = omega arith in
    Memᴰ.tail (subst (λ (x : ℕ). Memᴰ (f x) (table f (suc k) n)) e (table_to f (suc k) n j (omega (arith, l))))

grow_none : (m st : List ℕ) (d : ℕ) → Grows m st d m st d
grow_none m st d = record { keeps = λ x h. h; higher = omega arith; same = λ j l. refl; news = λ x h. inl h }

grow_more : (m st : List ℕ) (d : ℕ) (m' st' : List ℕ) (d' : ℕ) (m'' st'' : List ℕ) (d'' : ℕ) → Grows m st d m' st' d' → Grows m' st' d' m'' st'' d'' → Grows m st d m'' st'' d''
grow_more m st d m' st' d' m'' st'' d'' a b = record {
  keeps = λ x h. b.keeps x (a.keeps x h);
  higher = omega (arith, a.higher, b.higher);
  same = λ j l. b.same j (omega (arith, l, a.higher)) ∙ a.same j l;
  news = λ x h. by x (b.news x h);
}
  where
    again : (x : ℕ) → Has m x ⊎ OnStack st' d' x → Has m x ⊎ OnStack st'' d'' x
    again x (inl h) = inl h
    again x (inr o) = inr (o.0, omega (arith, o.1, b.higher), b.same o.0 o.1 ∙ o.2)

    by : (x : ℕ) → Has m' x ⊎ OnStack st'' d'' x → Has m x ⊎ OnStack st'' d'' x
    by x (inl h) = again x (a.news x h)
    by x (inr o) = inr o

module _ (ts : List Described) (gs : List ℕ) where
  -- a heap that is good and grew from (m, st, d), in which y has a mark
  pub data Pushes (m st : List ℕ) (d : ℕ) (P : List ℕ → Type 0) : Heap → Type 0 where
    pushes : (m' st' : List ℕ) (d' : ℕ) → Good ts gs m' st' d' → Grows m st d m' st' d' → P m' → Pushes m st d P (heap m' st' d')

  -- a zero more than none
  some_zero : (m : List ℕ) (y : ℕ) → y < length m → get_or m y 0 ≡ 0 → 1 ≤ zeros m
  some_zero m y l e = omega (arith, zeros_less m y 1 l e (omega arith))

  module _ (m st : List ℕ) (d : ℕ) (g : Good ts gs m st d) (y : ℕ) (r : Reached ts gs y) where
    module _ (nz : 0 < y) (l : y < 262145) (e : get_or m y 0 ≡ 0) where
      inside : y < length m
      inside = omega (arith, l, g.marks_long)

      room : d < length st
      room = omega (arith, g.deep, g.stack_long, some_zero m y inside e)

      at_y : get_or (set m y 1) y 0 ≡ 1
      at_y = get_or-set_same m y 1 0 inside

      off_y : (x : ℕ) → (x ≡ y → ⊥) → get_or (set m y 1) x 0 ≡ get_or m x 0
      off_y x n = get_or-set_other m y x 1 0 n

      keep : (x : ℕ) → Has m x → Has (set m y 1) x
      keep x h = go (ℕ_discrete x y)
        where
          go : Dec (x ≡ y) → Has (set m y 1) x
          go (yes q) = subst (λ (z : ℕ). Has (set m y 1) z) (sym q) (omega (arith, at_y))
          go (no q) = omega (arith, off_y x q, h)

      old : (x : ℕ) → Has (set m y 1) x → Has m x ⊎ (x ≡ y)
      old x h = go (ℕ_discrete x y)
        where
          go : Dec (x ≡ y) → Has m x ⊎ (x ≡ y)
          go (yes q) = inr q
          go (no q) = inl (omega (arith, off_y x q, h))

      before : (j : ℕ) → j < d → get_or (set st d y) j 0 ≡ get_or st j 0
      before j k = get_or-set_other st d j y 0 (λ q. omega (arith, k, q))

      top : get_or (set st d y) d 0 ≡ y
      top = get_or-set_same st d y 0 room

      new_good : Good ts gs (set m y 1) (set st d y) (suc d)
      new_good = record {
        marks_long = length-set m y 1 ∙ g.marks_long;
        stack_long = length-set st d y ∙ g.stack_long;
        deep = omega (arith, g.deep, zeros_less m y 1 inside e (omega arith));
        sound = λ x h. sound x (old x h);
        one = one;
        no_void = off_y 0 (λ q. omega (arith, nz, q)) ∙ g.no_void;
        stacked = stacked;
      }
        where
          sound : (x : ℕ) → Has m x ⊎ (x ≡ y) → Reached ts gs x
          sound x (inl h) = g.sound x h
          sound x (inr q) = subst (Reached ts gs) (sym q) r

          one : (x : ℕ) → get_or (set m y 1) x 0 ≤ 1
          one x = go (ℕ_discrete x y)
            where
              go : Dec (x ≡ y) → get_or (set m y 1) x 0 ≤ 1
              go (yes q) = subst (λ (z : ℕ). get_or (set m y 1) z 0 ≤ 1) (sym q) (omega (arith, at_y))
              go (no q) = omega (arith, off_y x q, g.one x)

          stacked : (j : ℕ) → j < suc d → Has (set m y 1) (get_or (set st d y) j 0)
          stacked j k = go (ℕ_discrete j d)
            where
              go : Dec (j ≡ d) → Has (set m y 1) (get_or (set st d y) j 0)
              go (yes q) = subst (λ (z : ℕ). Has (set m y 1) z) (sym (ap (λ (i : ℕ). get_or (set st d y) i 0) q ∙ top)) (omega (arith, at_y))
              go (no q) = let w : j < d = omega (arith, k, q) in subst (λ (z : ℕ). Has (set m y 1) z) (sym (before j w)) (keep (get_or st j 0) (g.stacked j w))

      new_grows : Grows m st d (set m y 1) (set st d y) (suc d)
      new_grows = record {
        keeps = keep;
        higher = omega arith;
        same = before;
        news = λ x h. by x (old x h);
      }
        where
          by : (x : ℕ) → Has m x ⊎ (x ≡ y) → Has m x ⊎ OnStack (set st d y) (suc d) x
          by x (inl h) = inl h
          by x (inr q) = inr (d, omega arith, top ∙ sym q)

    abbrev Marks-y : List ℕ → Type 0
    Marks-y m' = Markable y → Has m' y

    pub push_good : Pushes m st d Marks-y (pushed (heap m st d) y)
    unfolding pushed
    push_good = go (eqb y 0) refl (ltb y (length m)) refl (ltb d (length st)) refl (eqb (get_or m y 0) 0) refl
      where
        stay : Marks-y m → Pushes m st d Marks-y (heap m st d)
        stay p = pushes m st d g (grow_none m st d) p

        go : (a : Bool) → eqb y 0 ≡ a → (b : Bool) → ltb y (length m) ≡ b → (c : Bool) → ltb d (length st) ≡ c → (e : Bool) → eqb (get_or m y 0) 0 ≡ e
            → Pushes m st d Marks-y (elim a as (λ q. Heap) [
              | true ↦ heap m st d
              | false ↦ elim b as (λ q. Heap) [
                | false ↦ heap m st d
                | true ↦ elim c as (λ q. Heap) [
                  | false ↦ heap m st d
                  | true ↦ elim e as (λ q. Heap) [ true ↦ heap (set m y 1) (set st d y) (suc d) | false ↦ heap m st d ]
                ]
              ]
            ])
        go true p b q c k e h = stay (λ w. absurd (omega (arith, w.0, eqb-true y 0 p)))
        go false p false q c k e h = stay (λ w. absurd (omega (arith, w.1, ltb-false y (length m) q, g.marks_long)))
        go false p true q c k false h = by c
          where
            marked : Marks-y m
            marked w = some (get_or m y 0) (eqb-false (get_or m y 0) 0 h)
              where
                some : (v : ℕ) → (v ≡ 0 → ⊥) → 0 < v
                some zero n = absurd (n refl)
                some (suc v) n = omega arith

            by : (c : Bool) → Pushes m st d Marks-y (elim c as (λ q. Heap) [ false ↦ heap m st d | true ↦ heap m st d ])
            by true = stay marked
            by false = stay marked
        go false p true q false k true h =
            absurd (omega (arith, ltb-false d (length st) k, room (above y (eqb-false y 0 p)) (omega (arith, ltb-true y (length m) q, g.marks_long)) (eqb-true (get_or m y 0) 0 h)))
          where
            above : (v : ℕ) → (v ≡ 0 → ⊥) → 0 < v
            above zero n = absurd (n refl)
            above (suc v) n = omega arith
        go false p true q true k true h =
            let nz : 0 < y = above y (eqb-false y 0 p) in
            let l : y < 262145 = omega (arith, ltb-true y (length m) q, g.marks_long) in
            let e = eqb-true (get_or m y 0) 0 h in
            pushes (set m y 1) (set st d y) (suc d) (new_good nz l e) (new_grows nz l e) (λ w. omega (arith, at_y nz l e))
          where
            above : (v : ℕ) → (v ≡ 0 → ⊥) → 0 < v
            above zero n = absurd (n refl)
            above (suc v) n = omega arith

  -- many of them
  abbrev Marks-to : (ℕ → ℕ) → ℕ → List ℕ → Type 0
  Marks-to f n m' = (k : ℕ) → k < n → Markable (f k) → Has m' (f k)

  module _ (m st : List ℕ) (d : ℕ) (g : Good ts gs m st d) (f : ℕ → ℕ) where
    pub all_good : (n : ℕ) → ((k : ℕ) → k < n → Reached ts gs (f k)) → Pushes m st d (Marks-to f n) (pushed_to f (heap m st d) n)
    unfolding pushed_to
    all_good zero r = pushes m st d g (grow_none m st d) (λ k l. absurd (omega (arith, l)))
    all_good (suc n) r = next (pushed_to f (heap m st d) n) (all_good n (λ k l. r k (omega (arith, l))))
      where
        last : (m' st' : List ℕ) (d' : ℕ) → Grows m st d m' st' d' → Marks-to f n m' → (h : Heap) → Pushes m' st' d' (λ m''. Markable (f n) → Has m'' (f n)) h → Pushes m st d (Marks-to f (suc n)) h
        last m' st' d' w p _ (pushes m'' st'' d'' g'' w'' p'') = pushes m'' st'' d'' g'' (grow_more m st d m' st' d' m'' st'' d'' w w'') marks
          where
            marks : Marks-to f (suc n) m''
            marks k l q = go (ℕ_discrete k n)
              where
                go : Dec (k ≡ n) → Has m'' (f k)
                go (yes e) = subst (λ (z : ℕ). Has m'' (f z)) (sym e) (p'' (subst (λ (z : ℕ). Markable (f z)) e q))
                go (no e) = w''.keeps (f k) (p k (omega (arith, l, e)) q)

        next : (h : Heap) → Pushes m st d (Marks-to f n) h → Pushes m st d (Marks-to f (suc n)) (pushed h (f n))
        next _ (pushes m' st' d' g' w p) = last m' st' d' w p (pushed (heap m' st' d') (f n)) (push_good m' st' d' g' (f n) (r n (omega arith)))

  -- ---- turns. f, n: the ids that were pushed first
  module _ (b : TypeTable) (s start : List ℕ) (see : SeenFrom b s start ts) (f : ℕ → ℕ) (n : ℕ) where
    pub data Closes : Heap → Type 0 where
      closes : (m st : List ℕ) (d : ℕ) → Good ts gs m st d → Pending ts m st d → Marks-to f n m → Closes (heap m st d)

    turn_closes : (m st : List ℕ) (d : ℕ) → Good ts gs m st (suc d) → Pending ts m st (suc d) → Marks-to f n m → Closes (turned b s start (heap m st (suc d)))
    unfolding turned
    turn_closes m st d g pend first = next (pushed_to (followed_id b s start x) (heap m st d) (followed_count b s start x)) (all_good m st d popped (followed_id b s start x) (followed_count b s start x) onwards)
      where
        x : ℕ
        x = get_or st d 0

        popped : Good ts gs m st d
        popped = record {
          marks_long = g.marks_long;
          stack_long = g.stack_long;
          deep = omega (arith, g.deep);
          sound = g.sound;
          one = g.one;
          no_void = g.no_void;
          stacked = λ j l. g.stacked j (omega (arith, l));
        }

        onwards : (k : ℕ) → k < followed_count b s start x → Reached ts gs (followed_id b s start x k)
        onwards k l = onward (g.sound x (g.stacked d (omega arith))) (see.to x k l)

        next : (h : Heap) → Pushes m st d (Marks-to (followed_id b s start x) (followed_count b s start x)) h → Closes h
        next _ (pushes m' st' d' g' w p) = closes m' st' d' g' (λ u h. by u (w.news u h)) (λ k l q. w.keeps (f k) (first k l q))
          where
            own : Passed ts m' x
            own y k q = let r = see.from x y k in subst (Has m') r.2 (p r.0 r.1 (subst Markable (sym r.2) q))

            was : (u : ℕ) → OnStack st (suc d) u ⊎ Passed ts m u → OnStack st' d' u ⊎ Passed ts m' u
            was u (inr q) = inr (λ y k v. w.keeps y (q y k v))
            was u (inl o) = go (ℕ_discrete o.0 d)
              where
                go : Dec (o.0 ≡ d) → OnStack st' d' u ⊎ Passed ts m' u
                go (yes e) = inr (subst (Passed ts m') (sym (ap (λ (i : ℕ). get_or st i 0) e) ∙ o.2) own)
                go (no e) = let l : o.0 < d = omega (arith, o.1, e) in inl (o.0, omega (arith, l, w.higher), w.same o.0 l ∙ o.2)

            by : (u : ℕ) → Has m u ⊎ OnStack st' d' u → OnStack st' d' u ⊎ Passed ts m' u
            by u (inl h) = was u (pend u h)
            by u (inr o) = inl o

    -- the stack is empty in the end
    pub data Closed : Heap → Type 0 where
      is_closed : (m st : List ℕ) → Good ts gs m st 0 → Pending ts m st 0 → Marks-to f n m → Closed (heap m st 0)

    pub closed_ends : (k : ℕ) (h : Heap) → weight h ≤ k → Closes h → Closed (closed b s start k h)
    unfolding closed weight
    closed_ends zero _ l (closes m st zero g p q) = is_closed m st g p q
    closed_ends zero _ l (closes m st (suc d) g p q) = absurd (omega (arith, l))
    closed_ends (suc k) _ l (closes m st zero g p q) = is_closed m st g p q
    closed_ends (suc k) _ l (closes m st (suc d) g p q) =
        closed_ends k (turned b s start (heap m st (suc d))) (omega (arith, l, turn_light b s start m st d)) (turn_closes m st d g p q)

    -- what is reached has a mark
    pub reached_marked : (gs ≡ table f 0 n) → (m st : List ℕ) → Good ts gs m st 0 → Pending ts m st 0 → Marks-to f n m → {x : ℕ} → Reached ts gs x → Markable x → Has m x
    reached_marked e m st g p q (asked {x = x} k) v = let r = table_from f 0 n x (subst (Memᴰ x) e k) in subst (Has m) r.2 (q r.0 r.1 (subst Markable (sym r.2) v))
    reached_marked e m st g p q (onward {x = x} {y = y} r k) v = passed (p x (reached_marked e m st g p q r (in_table x y k))) y k v
      where
        passed : OnStack st 0 x ⊎ Passed ts m x → Passed ts m x
        passed (inl o) = absurd (omega (arith, o.1))
        passed (inr w) = w

        in_table : (x y : ℕ) → Memᴰ y (followed_ids (type_of ts x)) → Markable x
        in_table zero y k = absurd (Memᴰ.not-nil k)
        in_table (suc i) y k = (omega arith, go (cases_lt (suc i) (type_count b)))
          where
            w : (j : ℕ) × (j < followed_count b s start (suc i)) × (followed_id b s start (suc i) j ≡ y)
            w = see.from (suc i) y k

            go : (suc i < type_count b) ⊎ (type_count b ≤ suc i) → suc i < 262145
            go (inl q) = omega (arith, q, count_fits b)
            go (inr q) = absurd (omega (arith, w.1, followed_none b s start (suc i) q))
