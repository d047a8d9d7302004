-- The walks of cause 7 with their cells: a law for each return and each turn. Assumes nothing.
use Prim.Native.Nat.{ℕ, zero, suc, ◌+◌, ◌-◌, ◌<◌, ◌≤◌}
use mathlib.Core.Path.{◌≡◌, refl, ap, ◌∙◌, sym, subst}
use mathlib.Core.Bool.{true, false}
use mathlib.Core.List.{List}
use mathlib.Core.Logic.{⊎_elim}
use native.Mathlib.Omega.{arith}
use native.Mathlib.Numerals.{add-one}
use lib.ListN.{length, get_or, set, length-set, replicate, length-replicate}
use Rattle.std.proofs.lemmas.Bool.{cases_lt}
use Rattle.std.proofs.lemmas.List.Sums.{sum_by-set}
use Rattle.btf_open_causes.specs.declared.prototypes.Cell.{Cell}
use Rattle.btf_open_causes.specs.declared.prototypes.Cell.TheVariants.{Unknown, No, Yes, Passed}
use Rattle.btf_open_causes.specs.prototypes.Track.{Track, Leads, here, on}
use Rattle.btf_open_causes.specs.prototypes.Cells.{iter, Says, Fair, Fairs, Rest, Looked, is_unknown, unknowns, Run, Settle, Answer}
use Rattle.btf_open_causes.proofs.references.Zeros.{sum_max, each_at}
use Rattle.btf_open_causes.proofs.prototypes.Tracks.{leads_yes, leads_no}

pub says_no : (w : ℕ) → 0 ≡ w → (w ≡ 1 → ⊥) × (w ≡ 2 → ⊥)
says_no w e = (λ q. absurd (omega arith), λ q. absurd (omega arith))

unknowns_less : (l : List Cell) (i : ℕ) → i < length l → get_or l i Unknown ≡ Unknown → unknowns (set l i Passed) + 1 ≡ unknowns l
unfolding unknowns
unknowns_less l i h e = omega (arith, sum_by-set is_unknown l i Passed Unknown h, ap is_unknown e)

unknowns_max : (l : List Cell) → unknowns l ≤ length l
unfolding unknowns
unknowns_max = sum_max is_unknown one
  where
    one : (a : Cell) → is_unknown a ≤ 1
    one Unknown = omega arith
    one No = omega arith
    one Yes = omega arith
    one Passed = omega arith

pub looked_as : (T : Track) (cell : List Cell) (z : ℕ) (s : Cell) → Looked T cell z s → (w : Cell) → s ≡ w → Looked T cell z w
looked_as T cell z s l w e = subst (Looked T cell z) e l

module _ (T : Track) where
  neither : {x : ℕ} → Leads T x → (T.what x ≡ 1 → ⊥) → (T.what x ≡ 2 → ⊥) → ⊥
  neither (here e) a b = b e
  neither (on e r) a b = a e

  in_size : (x : ℕ) → (T.what x ≡ 0 → ⊥) → x < 262145
  in_size x n = ⊎_elim (λ p. omega (arith, T.fits)) (λ p. absurd (n (T.out x p))) (cases_lt x T.size)

  further : {x : ℕ} → Leads T x → T.what x ≡ 1 → Leads T (T.next x)
  further (here e) a = absurd (omega arith)
  further (on e r) a = r

  module _ (cell : List Cell) (fs : Fairs T cell) (z : ℕ) where
    pub look_out : length cell ≤ z → Leads T z → ⊥
    look_out h l = let q = T.out z (omega (arith, T.fits, fs.cell_length)) in neither l (omega arith) (omega arith)

    pub look_says : z < length cell → get_or cell z Unknown ≡ Unknown → (w : Cell) → Says (T.what z) w → Looked T cell z w
    look_says h e Unknown q = (omega (arith, fs.cell_length), e, q)
    look_says h e No q = λ l. neither l q.0 q.1
    look_says h e Yes q = here q
    look_says h e Passed q = absurd q

  pub run_start : (y : ℕ) (cell : List Cell) → Rest T cell → Run T y cell y 0
  unfolding iter
  run_start y cell r = record {
    fairs = r.fairs;
    deep = omega (arith, unknowns_max cell, r.fairs.cell_length);
    at = refl;
    pass = λ i h. absurd (omega arith);
    marked = λ v e. absurd (r.unmarked v e);
  }

  module _ (y : ℕ) (cell : List Cell) (z m : ℕ) (r : Run T y cell z m) where
    module _ (l : Looked T cell z Unknown) where
      pub run_less : unknowns (set cell z Passed) + 1 ≡ unknowns cell
      run_less = unknowns_less cell z (omega (arith, l.0, r.fairs.cell_length)) l.1

      pub run_space : m < 262145
      run_space = omega (arith, run_less, r.deep)

      pub run_more : (z' : ℕ) → z' ≡ T.next z → Run T y (set cell z Passed) z' (m + 1)
      unfolding iter
      run_more z' e = rw add-one record {
        fairs = record {
          cell_length = simp length-set r.fairs.cell_length;
          fair = each_at Unknown (Fair T) cell z Passed in_cell (λ v n. r.fairs.fair v) tt;
        };
        deep = omega (arith, run_less, r.deep);
        at = e ∙ ap T.next r.at;
        pass = λ i h. ⊎_elim (λ q. let f : i ≡ m = omega arith in rw (f, ← r.at) l.2) (r.pass i) (cases_lt m (suc i));
        marked = each_at Unknown (λ v w. w ≡ Passed → (j : ℕ) × (j < suc m) × (iter T j y ≡ v)) cell z Passed in_cell
            (λ v n q. let o = r.marked v q in (o.0, low o.0 o.1, o.2)) (λ q. (m, omega arith, sym r.at));
      }
        where
          in_cell : z < length cell
          in_cell = omega (arith, l.0, r.fairs.cell_length)

          low : (j : ℕ) → j < m → j < suc m
          low j h = omega arith

    -- what was passed leads where the end leads
    up : (d j : ℕ) → j + d ≡ m → Leads T (iter T m y) → Leads T (iter T j y)
    unfolding iter
    up zero j e l = let f : j ≡ m = omega arith in rw f l
    up (suc d) j e l = on (r.pass j (omega arith)) (up d (suc j) (omega arith) l)

    down : (d j : ℕ) → j + d ≡ m → Leads T (iter T j y) → Leads T (iter T m y)
    unfolding iter
    down zero j e l = let f : m ≡ j = omega arith in rw f l
    down (suc d) j e l = down d (suc j) (omega arith) (further l (r.pass j (omega arith)))

    -- a walk that came back leads nowhere
    round : (j : ℕ) → j < m → iter T j y ≡ iter T m y → {v : ℕ} → Leads T v → (i : ℕ) → i < m → iter T i y ≡ v → ⊥
    unfolding iter
    round j a b (here e) i h q = let f = r.pass i h in two (ap T.what (sym q) ∙ f) e
      where
        two : {n : ℕ} → n ≡ 1 → n ≡ 2 → ⊥
        two p q = omega arith
    round j a b (on e l) i h q = ⊎_elim (λ p. let f : m ≡ suc i = omega arith in round j a b l j a (b ∙ ap (λ (n : ℕ). iter T n y) f ∙ ap T.next q)) (λ p. round j a b l (suc i) p (ap T.next q)) (cases_lt m (suc (suc i)))

    inside : (j : ℕ) → j < m → iter T j y < 262145
    inside j h = in_size (iter T j y) (λ e. two (r.pass j h) e)
      where
        two : {n : ℕ} → n ≡ 1 → n ≡ 0 → ⊥
        two p q = omega arith

    begin : (w : Cell) → (w ≡ Passed → ⊥) → ((j : ℕ) → j < m → Fair T (iter T j y) w) → Settle T y m w cell y 0
    unfolding iter
    begin w b f = record {
      fairs = r.fairs;
      at = refl;
      inside = inside;
      right = f;
      settled = b;
      marked = λ v q. let o = r.marked v q in (o.0, omega arith, o.1, o.2);
    }

    module _ (l : Looked T cell z Yes) where
      pub settle_yes : Settle T y m Yes cell y 0
      settle_yes = begin Yes (λ q. cc) (λ j h. up (m - j) j (omega arith) (subst (Leads T) r.at l))

      pub answer_yes : (cell' : List Cell) → Rest T cell' → Answer T y cell' true
      unfolding iter
      answer_yes cell' rest = record { rest = rest; is = leads_yes T y (up m 0 (omega arith) (subst (Leads T) r.at l)) }

    module _ (s : Cell) (l : Looked T cell z s) (a : s ≡ Unknown → ⊥) (b : s ≡ Yes → ⊥) where
      end_no : Leads T (iter T m y) → ⊥
      end_no q = go s l a b
        where
          go : (w : Cell) → Looked T cell z w → (w ≡ Unknown → ⊥) → (w ≡ Yes → ⊥) → ⊥
          go Unknown k n p = n refl
          go No k n p = k (subst (Leads T) (sym r.at) q)
          go Yes k n p = p refl
          go Passed k n p = let o = r.marked z k in round o.0 o.1 (o.2 ∙ r.at) q o.0 o.1 (o.2 ∙ r.at)

      pub settle_no : Settle T y m No cell y 0
      settle_no = begin No (λ q. cc) (λ j h f. end_no (down (m - j) j (omega arith) f))

      pub answer_no : (cell' : List Cell) → Rest T cell' → Answer T y cell' false
      unfolding iter
      answer_no cell' rest = record { rest = rest; is = leads_no T y (λ f. end_no (down m 0 (omega arith) f)) }

  module _ (y m : ℕ) (w : Cell) (cell : List Cell) (z i : ℕ) (t : Settle T y m w cell z i) where
    pub settle_at : i < m → z < 262145
    settle_at h = rw t.at (t.inside i h)

    pub settle_more : i < m → (z' : ℕ) → z' ≡ T.next z → Settle T y m w (set cell z w) z' (i + 1)
    unfolding iter
    settle_more h z' e = rw add-one record {
      fairs = record {
        cell_length = simp length-set t.fairs.cell_length;
        fair = each_at Unknown (Fair T) cell z w in_cell (λ v n. t.fairs.fair v) (rw t.at (t.right i h));
      };
      at = e ∙ ap T.next t.at;
      inside = t.inside;
      right = t.right;
      settled = t.settled;
      marked = each_at Unknown (λ v a. a ≡ Passed → (j : ℕ) × (suc i ≤ j) × (j < m) × (iter T j y ≡ v)) cell z w in_cell
          (λ v n q. let o = t.marked v q in (o.0, low o.0 o.1 (λ f. n (sym o.3 ∙ ap (λ (a : ℕ). iter T a y) f ∙ sym t.at)), o.2, o.3)) (λ q. absurd (t.settled q));
    }
      where
        in_cell : z < length cell
        in_cell = omega (arith, settle_at h, t.fairs.cell_length)

        low : (j : ℕ) → i ≤ j → (j ≡ i → ⊥) → suc i ≤ j
        low j a n = omega arith

unknown_at : (n v : ℕ) → get_or (replicate n Unknown) v Unknown ≡ Unknown
unknown_at zero v = refl
unknown_at (suc n) zero = refl
unknown_at (suc n) (suc v) = unknown_at n v

first_of : (T : Track) (n : ℕ) → n ≡ 262145 → Rest T (replicate n Unknown)
first_of T n e = record {
  fairs = record { cell_length = length-replicate {A = Cell} n Unknown ∙ e; fair = λ v. rw (unknown_at n v) tt };
  unmarked = λ v p. let q : Unknown ≡ Passed = sym (unknown_at n v) ∙ p in cc;
}

pub first : (T : Track) → Rest T (replicate 262145 Unknown)
first T = first_of T 262145 refl
