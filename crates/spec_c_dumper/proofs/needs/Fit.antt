-- A table that the test passes, and that has void past its end, is one of which demand 3 holds.
use Prim.Native.Nat.{ℕ, zero, suc, ◌<◌, ◌≤◌}
use native.Mathlib.Decide.{ℕ_discrete}
use native.Mathlib.Omega.{arith}
use mathlib.Core.Path.{◌≡◌, refl, ap, ◌∙◌, sym, subst}
use mathlib.Core.Bool.{Bool, true, false, not, ◌||◌, true≢false}
use mathlib.Core.List.Memᴰ
use mathlib.Core.List.{List, [], ◌∷◌, Memᴰ}
use mathlib.Core.Logic.{⊎_elim}
use lib.Dec.{ltb}
use borrow.Author.Tests.{ltb-true, not-true}
use Rattle.std.proofs.lemmas.Bool.{cases_lt}
use Rattle.std.specs.Cmp.{first_so, second_so}
use Rattle.spec_c_dumper.specs.rules.Order.{Node, ignored, plain, listed, through, ptr, tdef, proto, comp, Table}
use Rattle.spec_c_dumper.specs.needs.Needs.{kids, is_holder, WF}
use Rattle.spec_c_dumper.specs.needs.Proto.{yes_proto, nothing, to, step_of, chase}
use Rattle.spec_c_dumper.specs.needs.Fit.{is_plain, all_below, none_proto, fit_node, fit_to, fit}
use Rattle.spec_c_dumper.proofs.needs.Proto.{chase_no}

or_right : (a b : Bool) → a ≡ true → (not a || b) ≡ true → b ≡ true
or_right true b h e = e
or_right false b h e = absurd (true≢false (sym h))

plain_is : (nd : Node) → is_plain nd ≡ true → nd ≡ plain
plain_is ignored e = absurd (true≢false (sym e))
plain_is plain e = refl
plain_is (listed f) e = absurd (true≢false (sym e))
plain_is (through a t) e = absurd (true≢false (sym e))
plain_is (ptr t) e = absurd (true≢false (sym e))
plain_is (tdef t) e = absurd (true≢false (sym e))
plain_is (proto ts) e = absurd (true≢false (sym e))
plain_is (comp ts) e = absurd (true≢false (sym e))

below_mem : (n : ℕ) (l : List ℕ) → all_below n l ≡ true → (y : ℕ) → Memᴰ y l → y < n
unfolding all_below
below_mem n [] e y h = absurd (Memᴰ.not-nil h)
below_mem n (x ∷ l) e y (Memᴰ.head q) = subst (λ (z : ℕ). z < n) (sym q) (ltb-true x n (first_so (ltb x n) (all_below n l) e))
below_mem n (x ∷ l) e y (Memᴰ.tail h) = below_mem n l (second_so (ltb x n) (all_below n l) e) y h

none_mem : (T : Table) (l : List ℕ) → none_proto T l ≡ true → (y : ℕ) → Memᴰ y l → chase T.count T y ≡ false
unfolding none_proto
none_mem T [] e y h = absurd (Memᴰ.not-nil h)
none_mem T (x ∷ l) e y (Memᴰ.head q) =
    ap (chase T.count T) q ∙ not-true (chase T.count T x) (first_so (not (chase T.count T x)) (none_proto T l) e)
none_mem T (x ∷ l) e y (Memᴰ.tail h) = none_mem T l (second_so (not (chase T.count T x)) (none_proto T l) e) y h

plain_fit : (T : Table) → fit_node T plain ≡ true
unfolding fit_node all_below
plain_fit T = refl

each_fit : (T : Table) (k : ℕ) → fit_to T k ≡ true → (x : ℕ) → x < k → fit_node T (T.node x) ≡ true
unfolding fit_to
each_fit T zero e x l = absurd (none l)
  where
    none : x < 0 → ⊥
    none z = omega arith
each_fit T (suc k) e x l = go (each_fit T k (second_so (fit_node T (T.node k)) (fit_to T k) e) x) (ℕ_discrete x k)
  where
    go : (x < k → fit_node T (T.node x) ≡ true) → Dec (x ≡ k) → fit_node T (T.node x) ≡ true
    go f (yes q) = ap (λ (z : ℕ). fit_node T (T.node z)) q ∙ first_so (fit_node T (T.node k)) (fit_to T k) e
    go f (no q) = f (omega arith)

no_step : {A : Type 0} (t : ℕ) → nothing ≡ to t → A
no_step t e = let z : ◌≡◌ {A = ℕ} 0 1 = cc in absurd (omega arith)

no_proto_step : {A : Type 0} (t : ℕ) → yes_proto ≡ to t → A
no_proto_step t e = let z : ◌≡◌ {A = ℕ} 0 1 = cc in absurd (omega arith)

step_kid : (nd : Node) (t : ℕ) → step_of nd ≡ to t → Memᴰ t (kids nd)
step_kid ignored t e = no_step t e
step_kid plain t e = no_step t e
step_kid (listed f) t e = no_step t e
step_kid (through a s) t e = let q : t ≡ s = cc in Memᴰ.head q
step_kid (ptr s) t e = no_step t e
step_kid (tdef s) t e = let q : t ≡ s = cc in Memᴰ.head q
step_kid (proto ts) t e = no_proto_step t e
step_kid (comp ts) t e = no_step t e

module _ (T : Table) (past : (x : ℕ) → T.count ≤ x → T.node x ≡ plain) (e : fit T ≡ true) where
  node_fit : (x : ℕ) → fit_node T (T.node x) ≡ true
  unfolding fit
  node_fit x = ⊎_elim
      (λ l. each_fit T T.count (second_so (is_plain (T.node 0)) (fit_to T T.count) e) x l)
      (λ l. ap (fit_node T) (past x l) ∙ plain_fit T)
      (cases_lt x T.count)

  kids_below : (x y : ℕ) → Memᴰ y (kids (T.node x)) → y < T.count
  unfolding fit_node
  kids_below x y h = below_mem T.count (kids (T.node x)) (first_so _ _ (node_fit x)) y h

  members_free : (c m : ℕ) → is_holder (T.node c) ≡ true → Memᴰ m (kids (T.node c)) → chase T.count T m ≡ false
  unfolding fit_node
  members_free c m i h =
      none_mem T (kids (T.node c))
      (or_right (is_holder (T.node c)) (none_proto T (kids (T.node c))) i
      (second_so (all_below T.count (kids (T.node c))) (not (is_holder (T.node c)) || none_proto T (kids (T.node c))) (node_fit c)))
      m h

  void_plain : T.node 0 ≡ plain
  unfolding fit
  void_plain = plain_is (T.node 0) (first_so (is_plain (T.node 0)) _ e)

  pub fit_wf : WF T
  fit_wf = record {
    void = void_plain;
    below = kids_below;
    no_proto = λ c m i h p. chase_no T (λ x t s. kids_below x t (step_kid (T.node x) t s)) m (kids_below c m h) (members_free c m i h) p;
  }
