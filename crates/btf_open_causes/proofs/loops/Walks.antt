-- The invariant of the walk of cause 8 through each of its steps. Assumes nothing.
use Prim.Native.Nat.{ℕ, suc, ◌+◌, ◌-◌, ◌<◌, ◌≤◌}
use mathlib.Core.Path.{◌≡◌, refl, ap, ◌∙◌, sym, subst}
use mathlib.Core.Bool.{Bool, true, false, true≢false, not}
use mathlib.Core.List.{List}
use mathlib.Core.Logic.{⊎_elim, ◌≢◌}
use native.Mathlib.Omega.{arith}
use lib.ListN.{length, get_or, set, length-set, get_or-eq_default}
use lib.Seq.{get_or-set_same, get_or-set_other}
use lib.Dec.{ltb, eqb}
use borrow.Author.Tests.{lt-ltb, le-ltb, eqb-true}
use Rattle.std.proofs.lemmas.Bool.{cases_lt}
use Rattle.std.proofs.lemmas.List.Sums.{sum_by-set}
use Rattle.btf_open_causes.specs.references.Zeros.{zeros}
use Rattle.btf_open_causes.proofs.references.Zeros.{zeros_same, zeros_less, zeros_max, each_set, nothing, length_replicate, get_d_zeros}
use Rattle.btf_open_causes.specs.loops.Graph.{Graph, Edge, Loop, has_loop}
use Rattle.btf_open_causes.specs.loops.Walk.{Safe, safe, room, Fine, Known, Open, Opened, Passed, Inv, Ran, Walked}
use Rattle.btf_open_causes.proofs.loops.Graphs.{cut, all_safe, has_loop_yes, has_loop_no}

pub room_less : (l : List ℕ) (i v : ℕ) → i < length l → get_or l i 0 < v → v ≤ 131072 → room (set l i v) < room l
unfolding room
room_less l i v h a b = omega (arith, sum_by-set (λ v. 131072 - v) l i v 0 h)

room_up : (l : List ℕ) (i v : ℕ) → i < length l → get_or l i 0 ≤ v → room (set l i v) ≤ room l
unfolding room
room_up l i v h a = omega (arith, sum_by-set (λ v. 131072 - v) l i v 0 h)

pub room_le : (l : List ℕ) (i : ℕ) → i < length l → room (set l i 131072) ≤ room l
unfolding room
room_le l i h = omega (arith, sum_by-set (λ v. 131072 - v) l i 131072 0 h)

pub inside : (l : List ℕ) (i : ℕ) → 0 < get_or l i 0 → i < length l
inside l i h = ⊎_elim (λ p. p) (λ p. absurd (none (get_or-eq_default l 0 p))) (cases_lt i (length l))
  where
    none : get_or l i 0 ≡ 0 → ⊥
    none e = omega arith

pub rises : (l : List ℕ) (i w : ℕ) → i < length l → 0 < w → (v : ℕ) → 0 < get_or l v 0 → 0 < get_or (set l i w) v 0
rises l i w h p = each_set (λ v a. 0 < get_or l v 0 → 0 < a) l i w h (λ v n q. q) (λ q. p)

abbrev Held : List ℕ → ℕ → ℕ → ℕ → Type 0
Held stack d v w = 0 < w → w < 131072 → (j : ℕ) × (j < d) × (get_or stack j 0 ≡ v)

abbrev top : List ℕ → ℕ → ℕ
top stack d = get_or stack (d - 1) 0

-- the walk, and then y
closing : List ℕ → ℕ → ℕ → ℕ → ℕ
closing stack d y i = elim (ltb i d) [ true ↦ get_or stack i 0 | false ↦ y ]

closing_in : (stack : List ℕ) (d y i : ℕ) → i < d → closing stack d y i ≡ get_or stack i 0
unfolding closing
closing_in stack d y i h = rw (lt-ltb i d h, closing)

closing_end : (stack : List ℕ) (d y i : ℕ) → d ≤ i → closing stack d y i ≡ y
unfolding closing
closing_end stack d y i h = rw (le-ltb i d h, closing)

pub out_safe : (G : Graph) (y : ℕ) → 262145 ≤ y → Safe G y
out_safe G y h = safe (λ k p. absurd (none k (subst (λ (a : ℕ). k < a) (G.out y (omega (arith, G.fits))) p)))
  where
    none : (k : ℕ) → k < 0 → ⊥
    none k p = omega arith

module _ (G : Graph) (st stack : List ℕ) (d : ℕ) (inv : Inv G st stack d) (pos : 0 < d) where
  pub top_begun : 0 < get_or st (top stack d) 0
  top_begun = inv.begun (d - 1) (omega arith)

  pub space : (y : ℕ) → y < 262145 → get_or st y 0 ≡ 0 → d < 262145
  space y b z = omega (arith, zeros_less st y 1 (omega (arith, inv.st_length)) z (omega arith), inv.deep)

  -- all successors of the top are passed
  pub pop : (g : ℕ) → g ≡ G.deg (top stack d) → Passed G (G.to (top stack d)) (get_or st (top stack d) 0 - 1) g → Ran G st d (set st (top stack d) 131072) stack (d - 1)
  pop g e h = record {
    inv = record {
      st_length = simp length-set inv.st_length;
      stack_length = inv.stack_length;
      deep = omega (arith, zeros_same st x 131072 in_st top_begun (omega arith), inv.deep);
      begun = λ j p. up (get_or stack j 0) (inv.begun j (omega arith));
      held = each_set (Held stack (d - 1)) st x 131072 in_st others (λ a b. absurd (omega arith));
      way = λ j p. inv.way j (omega arith);
      fine = each_set (Fine G) st x 131072 in_st (λ v n. inv.fine v) (record { passed = λ p. absurd (omega arith); done = λ p. here });
    };
    rises = up;
    less = omega (arith, room_le st x in_st);
  }
    where
      x : ℕ
      x = top stack d

      in_st : top stack d < length st
      in_st = inside st (top stack d) top_begun

      up : (v : ℕ) → 0 < get_or st v 0 → 0 < get_or (set st (top stack d) 131072) v 0
      up = rises st (top stack d) 131072 in_st (omega arith)

      others : (v : ℕ) → v ≢ top stack d → Held stack (d - 1) v (get_or st v 0)
      others v n a b = let q = inv.held v a b in (q.0, low q.0 q.1 (λ r. n (sym q.2 ∙ ap (λ (j : ℕ). get_or stack j 0) r)), q.2)
        where
          low : (j : ℕ) → j < d → (j ≡ d - 1 → ⊥) → j < d - 1
          low j p r = omega arith

      here : Safe G (top stack d)
      here = ⊎_elim (λ b. safe (λ k q. ⊎_elim (λ p. h k (omega arith) (omega arith)) (λ p. (inv.fine (top stack d)).passed b k p) (cases_lt (get_or st (top stack d) 0) (suc (suc k))))) (inv.fine (top stack d)).done (cases_lt (get_or st (top stack d) 0) 131072)

  module _ (g : ℕ) (e : g ≡ G.deg (top stack d)) (h : get_or st (top stack d) 0 ≤ g) (y : ℕ) (to : y ≡ G.to (top stack d) (get_or st (top stack d) 0 - 1)) where
    edge : Edge G (top stack d) y
    edge = (get_or st (top stack d) 0 - 1, omega (arith, top_begun), sym to)

    pub push : y < 262145 → get_or st y 0 ≡ 0 → Ran G st d (set st y 1) (set stack d y) (d + 1)
    push b z = record {
      inv = record {
        st_length = simp length-set inv.st_length;
        stack_length = simp length-set inv.stack_length;
        deep = omega (arith, fresh, inv.deep);
        begun = begun;
        held = each_set (Held (set stack d y) (d + 1)) st y 1 in_st held (λ p q. (d, omega arith, last));
        way = way;
        fine = each_set (Fine G) st y 1 in_st (λ v n. inv.fine v) (record { passed = λ p k q. absurd (omega arith); done = λ p. absurd (omega arith) });
      };
      rises = up;
      less = omega (arith, room_less st y 1 in_st (omega arith) (omega arith));
    }
      where
        in_st : y < length st
        in_st = omega (arith, inv.st_length)

        fresh : zeros (set st y 1) + 1 ≡ zeros st
        fresh = zeros_less st y 1 in_st z (omega arith)

        last : get_or (set stack d y) d 0 ≡ y
        last = get_or-set_same stack d y 0 (omega (arith, fresh, inv.deep, inv.stack_length))

        same : (j : ℕ) → j < d → get_or (set stack d y) j 0 ≡ get_or stack j 0
        same j p = get_or-set_other stack d j y 0 (omega arith)

        up : (v : ℕ) → 0 < get_or st v 0 → 0 < get_or (set st y 1) v 0
        up = rises st y 1 in_st (omega arith)

        begun : (j : ℕ) → j < d + 1 → 0 < get_or (set st y 1) (get_or (set stack d y) j 0) 0
        begun j p = ⊎_elim new old (cases_lt d (suc j))
          where
            old : suc j ≤ d → 0 < get_or (set st y 1) (get_or (set stack d y) j 0) 0
            old q = rw (same j q) (up (get_or stack j 0) (inv.begun j q))

            new : d < suc j → 0 < get_or (set st y 1) (get_or (set stack d y) j 0) 0
            new q =
                let r : d ≡ j = omega arith in
                subst (λ (i : ℕ). 0 < get_or (set st y 1) (get_or (set stack d y) i 0) 0) r (rw (last, get_or-set_same st y 1 0 in_st) (omega arith))

        held : (v : ℕ) → v ≢ y → Held (set stack d y) (d + 1) v (get_or st v 0)
        held v n p q = let r = inv.held v p q in (r.0, low r.0 r.1, same r.0 r.1 ∙ r.2)
          where
            low : (j : ℕ) → j < d → j < d + 1
            low j l = omega arith

        way : (j : ℕ) → suc j < d + 1 → Edge G (get_or (set stack d y) j 0) (get_or (set stack d y) (suc j) 0)
        way j p = ⊎_elim new old (cases_lt d (suc (suc j)))
          where
            old : suc (suc j) ≤ d → Edge G (get_or (set stack d y) j 0) (get_or (set stack d y) (suc j) 0)
            old q = rw (same j (omega arith), same (suc j) q) (inv.way j q)

            new : d < suc (suc j) → Edge G (get_or (set stack d y) j 0) (get_or (set stack d y) (suc j) 0)
            new q =
                let r : d ≡ suc j = omega arith in
                let i : d - 1 ≡ j = omega arith in
                subst (λ (a : ℕ). Edge G (get_or (set stack d y) j 0) (get_or (set stack d y) a 0)) r
                (rw (last, same j (omega arith)) (subst (λ (a : ℕ). Edge G (get_or stack a 0) y) i edge))

    pub found : (get_or st y 0 ≡ 0 → ⊥) → get_or st y 0 < 131072 → Loop G
    found a b = loop (inv.held y (omega arith) b)
      where
        loop : (j : ℕ) × (j < d) × (get_or stack j 0 ≡ y) → Loop G
        loop q = cut G (closing stack d y) q.0 d q.1 (closing_in stack d y q.0 q.1 ∙ q.2 ∙ sym (closing_end stack d y d (omega arith))) edges
          where
            edges : (k : ℕ) → q.0 ≤ k → k < d → Edge G (closing stack d y k) (closing stack d y (suc k))
            edges k p r = rw (closing_in stack d y k r) (⊎_elim new old (cases_lt d (suc (suc k))))
              where
                old : suc (suc k) ≤ d → Edge G (get_or stack k 0) (closing stack d y (suc k))
                old s = rw (closing_in stack d y (suc k) s) (inv.way k s)

                new : d < suc (suc k) → Edge G (get_or stack k 0) (closing stack d y (suc k))
                new s =
                    let i : d - 1 ≡ k = omega arith in
                    rw (closing_end stack d y (suc k) (omega arith)) (subst (λ (a : ℕ). Edge G (get_or stack a 0) y) i edge)

-- a node that is safe, or open
pub no_way_safe : (G : Graph) (x n : ℕ) → n ≡ G.deg x → n ≡ 0 → Safe G x
no_way_safe G x n e z = safe none
  where
    none : (k : ℕ) → k < G.deg x → Safe G (G.to x k)
    none k h = absurd (omega arith)

pub shut_out : (G : Graph) (st : List ℕ) (y : ℕ) → Known G st → length st ≤ y → Opened G st y false
shut_out G st y w h = out_safe G y (omega (arith, w.st_length))

-- a new node is open, if it has successors
pub new_is : (G : Graph) (st : List ℕ) (y : ℕ) → Known G st → y < length st → get_or st y 0 ≡ 0 → (n : ℕ) → n ≡ G.deg y → Opened G st y (not (eqb n 0))
new_is G st y w h z n e = go (eqb n 0) refl
  where
    go : (t : Bool) → eqb n 0 ≡ t → Opened G st y (not t)
    go true q = no_way_safe G y n e (eqb-true n 0 q)
    go false q = (omega (arith, w.st_length), omega arith)

pub open_at : (st : List ℕ) (a y : ℕ) → y ≡ a → Open st a → Open st y
open_at st a y e o = subst (Open st) (sym e) o

pub known : (G : Graph) (st stack : List ℕ) (d : ℕ) → Inv G st stack d → Known G st
known G st stack d inv = record { st_length = inv.st_length; fine = inv.fine }

-- a turn that passed the top's successors before k, which is open
module _ (G : Graph) (st stack : List ℕ) (d : ℕ) (inv : Inv G st stack d) (pos : 0 < d) (g : ℕ) (e : g ≡ G.deg (top stack d)) (k : ℕ) (l : get_or st (top stack d) 0 - 1 ≤ k) (h : k < g)
    (w : Passed G (G.to (top stack d)) (get_or st (top stack d) 0 - 1) k) where
  in_st : top stack d < length st
  in_st = inside st (top stack d) (top_begun G st stack d inv pos)

  up : (v : ℕ) → 0 < get_or st v 0 → 0 < get_or (set st (top stack d) (k + 1)) v 0
  up = rises st (top stack d) (k + 1) in_st (omega arith)

  same : get_or (set st (top stack d) (k + 1)) (top stack d) 0 ≡ k + 1
  same = get_or-set_same st (top stack d) (k + 1) 0 in_st

  fine_at : Fine G (top stack d) (k + 1)
  fine_at = record {
    passed = λ b j q. ⊎_elim (λ p. w j (omega arith) (omega arith)) (λ p. (inv.fine (top stack d)).passed (omega arith) j p) (cases_lt (get_or st (top stack d) 0) (suc (suc j)));
    done = λ b. absurd (omega (arith, G.few (top stack d)));
  }

  pub passed_inv : Inv G (set st (top stack d) (k + 1)) stack d
  passed_inv = record {
    st_length = simp length-set inv.st_length;
    stack_length = inv.stack_length;
    deep = omega (arith, zeros_same st (top stack d) (k + 1) in_st (top_begun G st stack d inv pos) (omega arith), inv.deep);
    begun = λ j q. up (get_or stack j 0) (inv.begun j q);
    held = each_set (Held stack d) st (top stack d) (k + 1) in_st (λ v n. inv.held v) (λ a b. (d - 1, omega arith, refl));
    way = inv.way;
    fine = each_set (Fine G) st (top stack d) (k + 1) in_st (λ v n. inv.fine v) fine_at;
  }

  module _ (y : ℕ) (to : y ≡ G.to (top stack d) k) where
    next : y ≡ G.to (top stack d) (get_or (set st (top stack d) (k + 1)) (top stack d) 0 - 1)
    next = let z : k ≡ get_or (set st (top stack d) (k + 1)) (top stack d) 0 - 1 = omega (arith, same) in to ∙ ap (G.to (top stack d)) z

    pub pass_push : y < 262145 → get_or (set st (top stack d) (k + 1)) y 0 ≡ 0 → Ran G st d (set (set st (top stack d) (k + 1)) y 1) (set stack d y) (d + 1)
    pass_push b z =
        let q = push G (set st (top stack d) (k + 1)) stack d passed_inv pos g e (omega (arith, same)) y next b z in
        record { inv = q.inv; rises = λ v p. q.rises v (up v p); less = omega (arith, q.less, room_up st (top stack d) (k + 1) in_st (omega arith)) }

    pub pass_found : (get_or (set st (top stack d) (k + 1)) y 0 ≡ 0 → ⊥) → get_or st y 0 < 131072 → Loop G
    pass_found n b = found G (set st (top stack d) (k + 1)) stack d passed_inv pos g e (omega (arith, same)) y next n low
      where
        low : get_or (set st (top stack d) (k + 1)) y 0 < 131072
        low = each_set (λ v a. get_or st v 0 < 131072 → a < 131072) st (top stack d) (k + 1) in_st (λ v n q. q) (λ q. omega (arith, G.few (top stack d))) y b

-- a walk's start, and its end
module _ (G : Graph) (st stack : List ℕ) (inv : Inv G st stack 0) (x : ℕ) where
  pub start : x < 262145 → get_or st x 0 ≡ 0 → Inv G (set st x 1) (set stack 0 x) 1 × (0 < get_or (set st x 1) x 0)
  start b z = (
    record {
      st_length = simp length-set inv.st_length;
      stack_length = simp length-set inv.stack_length;
      deep = omega (arith, zeros_less st x 1 in_st z (omega arith), inv.deep);
      begun = λ j p. let q : j ≡ 0 = omega arith in rw (q, first) one;
      held = each_set (Held (set stack 0 x) 1) st x 1 in_st (λ v n p q. absurd (none (inv.held v p q).0 (inv.held v p q).1)) (λ p q. (0, omega arith, first));
      way = λ j p. absurd (omega arith);
      fine = each_set (Fine G) st x 1 in_st (λ v n. inv.fine v) (record { passed = λ p k q. absurd (omega arith); done = λ p. absurd (omega arith) });
    },
    one,
  )
    where
      none : (j : ℕ) → j < 0 → ⊥
      none j p = omega arith

      in_st : x < length st
      in_st = omega (arith, inv.st_length)

      first : get_or (set stack 0 x) 0 0 ≡ x
      first = get_or-set_same stack 0 x 0 (omega (arith, inv.stack_length))

      one : 0 < get_or (set st x 1) x 0
      one = rw (get_or-set_same st x 1 0 in_st) (omega arith)

  -- a node with no successors is done at once
  pub no_way : x < 262145 → get_or st x 0 ≡ 0 → (n : ℕ) → n ≡ G.deg x → n ≡ 0 → Walked G x (set st x 131072) stack false
  no_way b w n e z = record {
    stop = λ q. absurd (true≢false (sym q));
    go = λ q. (
      record {
        st_length = simp length-set inv.st_length;
        stack_length = inv.stack_length;
        deep = omega (arith, zeros_less st x 131072 in_st w (omega arith), inv.deep);
        begun = λ j p. absurd (none j p);
        held = each_set (Held stack 0) st x 131072 in_st (λ v n. inv.held v) (λ p l. absurd (omega arith));
        way = λ j p. absurd (none (suc j) p);
        fine = each_set (Fine G) st x 131072 in_st (λ v n. inv.fine v) (record { passed = λ p. absurd (omega arith); done = λ p. no_way_safe G x n e z });
      },
      no_way_safe G x n e z,
    );
  }
    where
      none : (j : ℕ) → j < 0 → ⊥
      none j p = omega arith

      in_st : x < length st
      in_st = omega (arith, inv.st_length)

-- the walks, one after another
pub scan_yes : (G : Graph) (x : ℕ) (st' stack' : List ℕ) (r : Bool) → Walked G x st' stack' r → r ≡ true → true ≡ has_loop G
scan_yes G x st' stack' r w e = sym (has_loop_yes G (w.stop e))

pub scan_no : (G : Graph) → ((v : ℕ) → v < G.size → Safe G v) → false ≡ has_loop G
scan_no G h = go (has_loop G) refl
  where
    go : (t : Bool) → has_loop G ≡ t → false ≡ t
    go true q = absurd (all_safe h (has_loop_no G q))
    go false q = refl

first_of : (G : Graph) (n : ℕ) → n ≡ 262145 → Inv G (nothing n) (nothing n) 0
first_of G n e = record {
  st_length = length_replicate n ∙ e;
  stack_length = length_replicate n ∙ e;
  deep = omega (arith, zeros_max (nothing n), length_replicate n);
  begun = λ j p. absurd (omega arith);
  held = λ v p q. absurd (no v p);
  way = λ j p. absurd (omega arith);
  fine = λ v. record { passed = λ p k q. absurd (omega (arith, get_d_zeros n v)); done = λ p. absurd (omega (arith, get_d_zeros n v)) };
}
  where
    no : (v : ℕ) → 0 < get_or (nothing n) v 0 → ⊥
    no v p = omega (arith, get_d_zeros n v)

pub first : (G : Graph) → Inv G (nothing 262145) (nothing 262145) 0
first G = first_of G 262145 refl
