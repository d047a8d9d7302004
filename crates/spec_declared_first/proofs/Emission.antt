-- Emission, over every machine that notes its pieces: before a line is written, all that it mentions is declared.
use Prim.Native.Nat.{ℕ, zero, suc, ◌<◌}
use native.Mathlib.Decide.{ℕ_discrete}
use native.Mathlib.Omega.{arith}
use mathlib.Core.Path.{◌≡◌, refl, sym, ◌∙◌, ap, subst}
use mathlib.Core.Bool.{Bool, true, false, not, ◌&&◌, ◌||◌, true≢false}
use mathlib.Core.List.Memᴰ
use mathlib.Core.List.{List, [], ◌∷◌, ◌++◌, append_assoc, append-nil, Memᴰ}
use mathlib.Core.Logic.{◌⊎◌, inl, inr, ◌≢◌}
use mathlib.Core.WellFounded.Acc
use lib.Dec.{eqb}
use borrow.Author.Tests.{eqb-true}
use Rattle.spec_c_dumper.specs.rules.Order.{Node, ignored, plain, listed, through, ptr, tdef, proto, comp, Table, is_comp, Mark, new, busy, done}
use Rattle.spec_c_dumper.specs.rules.Machine.{Out, Machine, is_zero, pick, obind, eeach, once, mention, again, close, leaf, within, begin, allowed, look, emit}
use Rattle.spec_c_dumper.specs.needs.Needs.{kids}
use Rattle.spec_c_dumper.proofs.needs.Placed.{is_def}
use Rattle.spec_c_dumper.proofs.needs.Ways.{clash, clash_new, clash_busy, only}
use Rattle.spec_c_dumper.proofs.origins.Keeps.{comes_bind, comes_map, Comes, comes, halts}
use Rattle.spec_c_dumper.proofs.needs.Splits.{nil_not, snoc_split}
use Rattle.spec_declared_first.proofs.Reach.{stops, Reach, at, on, is_leaf, Leaf, HasName, Ends, ends_once, reach_stop, reach_past, goes_on, nameless_on, named_stops}
use Rattle.spec_declared_first.proofs.Ordering.{Due, Sorted, none, snoc}

module _ {M H : Type 0} (X : Machine M H) (T : Table) (Good : M → Type 0) (Dec' : M → ℕ → Type 0) where
  -- a piece of type x was written: it declares x
  pub record Wrote (x : ℕ) (s s' : M) : Type 0 where
    pub good : Good s'
    pub gets : (d : ℕ) → X.store.get s' d ≡ X.store.get s d
    pub egets : (d : ℕ) → X.eget s' d ≡ X.eget s d
    pub has : (d : ℕ) → X.has_fwd s' d ≡ X.has_fwd s d
    pub decs : (w : ℕ) → Dec' s w → Dec' s' w
    pub self : Dec' s' x

  -- What is asked of a machine. Good: what all its steps keep, the lines if what they mention is declared. Dec' s w: w is declared in s.
  pub record Noting : Type 0 where
    pub emark_good : (m : Mark) (x : ℕ) (s : M) → Good s → x < T.count → Good (X.emark m x s)
    pub emark_gets : (m : Mark) (x : ℕ) (s : M) → Good s → x < T.count → (d : ℕ) → X.store.get (X.emark m x s) d ≡ X.store.get s d
    pub emark_same : (m : Mark) (x : ℕ) (s : M) → Good s → x < T.count → X.eget (X.emark m x s) x ≡ m
    pub emark_other : (m : Mark) (x : ℕ) (s : M) → Good s → x < T.count → (d : ℕ) → d ≢ x → X.eget (X.emark m x s) d ≡ X.eget s d
    pub emark_has : (m : Mark) (x : ℕ) (s : M) → Good s → x < T.count → (d : ℕ) → X.has_fwd (X.emark m x s) d ≡ X.has_fwd s d
    pub emark_decs : (m : Mark) (x : ℕ) (s : M) → Good s → x < T.count → (w : ℕ) → Dec' s w → Dec' (X.emark m x s) w
    pub fwd_good : (x : ℕ) (s : M) → Good s → x < T.count → Good (X.forwarded x s)
    pub fwd_gets : (x : ℕ) (s : M) → Good s → x < T.count → (d : ℕ) → X.store.get (X.forwarded x s) d ≡ X.store.get s d
    pub fwd_egets : (x : ℕ) (s : M) → Good s → x < T.count → (d : ℕ) → X.eget (X.forwarded x s) d ≡ X.eget s d
    pub fwd_has : (x : ℕ) (s : M) → Good s → x < T.count → (d : ℕ) → d ≢ x → X.has_fwd (X.forwarded x s) d ≡ X.has_fwd s d
    pub fwd_decs : (x : ℕ) (s : M) → Good s → x < T.count → (w : ℕ) → Dec' s w → Dec' (X.forwarded x s) w
    -- a forward line mentions nothing but its own tag; so does an enum's line, or a FWD's
    pub fwd_line : (s : M) (x : ℕ) → Good s → x < T.count → stops T x ≡ true → Comes (Wrote x s) (X.fwd_line s x)
    pub leaf_line : (s : M) (x : ℕ) (f : Bool) → Good s → x < T.count → T.node x ≡ listed f → Comes (Wrote x s) (X.leaf_line s x)
    pub alias_line : (s : M) (x t : ℕ) → Good s → x < T.count → T.node x ≡ tdef t → ((w : ℕ) → Reach T t w → HasName T w → Dec' s w) → Comes (Wrote x s) (X.alias_line s x)
    pub body_line : (s : M) (x : ℕ) (ms : List ℕ) → Good s → x < T.count → T.node x ≡ comp ms → T.named x ≡ true
        → ((m w : ℕ) → Memᴰ m ms → Reach T m w → HasName T w → Dec' s w ⊎ (w ≡ x)) → Comes (Wrote x s) (X.body s x)

  module _ (law : Noting) (void : T.node 0 ≡ plain) (below : (x y : ℕ) → Memᴰ y (kids (T.node x)) → y < T.count) where
    abbrev eget : M → ℕ → Mark
    eget s x = X.eget s x

    abbrev emark : Mark → ℕ → M → M
    emark m x s = X.emark m x s

    -- what holds at all times: a type whose forward flag is set is declared; and all that one that was emitted can come to
    pub record Held (s : M) : Type 0 where
      pub good : Good s
      pub fw : (y : ℕ) → X.has_fwd s y ≡ true → Dec' s y
      pub dn : (y : ℕ) → eget s y ≡ done → (w : ℕ) → Reach T y w → HasName T w → Dec' s w

    -- what a call leaves
    pub record Step (s s' : M) : Type 0 where
      pub held : Held s'
      pub gets : (d : ℕ) → X.store.get s' d ≡ X.store.get s d
      pub busy_back : (z : ℕ) → eget s' z ≡ busy → eget s z ≡ busy
      pub done_on : (z : ℕ) → eget s z ≡ done → eget s' z ≡ done
      pub decs : (w : ℕ) → Dec' s w → Dec' s' w

    step_refl : (s : M) → Held s → Step s s
    step_refl s h = record { held = h; gets = λ d. refl; busy_back = λ z e. e; done_on = λ z e. e; decs = λ w d. d }

    step_then : {a b c : M} → Step a b → Step b c → Step a c
    step_then p q = record {
      held = q.held;
      gets = λ d. q.gets d ∙ p.gets d;
      busy_back = λ z e. p.busy_back z (q.busy_back z e);
      done_on = λ z e. q.done_on z (p.done_on z e);
      decs = λ w d. q.decs w (p.decs w d);
    }

    step_wrote : (x : ℕ) (s s' : M) → Held s → Wrote x s s' → Step s s'
    step_wrote x s s' h k = record {
      held = record { good = k.good; fw = λ y e. k.decs y (h.fw y (sym (k.has y) ∙ e)); dn = λ y e w r n. k.decs w (h.dn y (sym (k.egets y) ∙ e) w r n) };
      gets = k.gets;
      busy_back = λ z e. sym (k.egets z) ∙ e;
      done_on = λ z e. k.egets z ∙ e;
      decs = k.decs;
    }

    step_forwarded : (x : ℕ) (s : M) → Held s → x < T.count → Dec' s x → Step s (X.forwarded x s)
    step_forwarded x s h l k = record {
      held = record { good = law.fwd_good x s h.good l; fw = λ y e. law.fwd_decs x s h.good l y (go y e (ℕ_discrete y x)); dn = λ y e w r n. law.fwd_decs x s h.good l w (h.dn y (sym (law.fwd_egets x s h.good l y) ∙ e) w r n) };
      gets = law.fwd_gets x s h.good l;
      busy_back = λ z e. sym (law.fwd_egets x s h.good l z) ∙ e;
      done_on = λ z e. law.fwd_egets x s h.good l z ∙ e;
      decs = law.fwd_decs x s h.good l;
    }
      where
        go : (y : ℕ) → X.has_fwd (X.forwarded x s) y ≡ true → Dec (y ≡ x) → Dec' s y
        go y e (yes q) = subst (Dec' s) (sym q) k
        go y e (no q) = h.fw y (sym (law.fwd_has x s h.good l y q) ∙ e)

    -- a mark on x; one of done, if all that x can come to is declared
    held_mark : (m : Mark) (x : ℕ) (s : M) → Held s → x < T.count → (m ≡ done → (w : ℕ) → Reach T x w → HasName T w → Dec' s w) → Held (emark m x s)
    held_mark m x s h l k = record {
      good = law.emark_good m x s h.good l;
      fw = λ y e. law.emark_decs m x s h.good l y (h.fw y (sym (law.emark_has m x s h.good l y) ∙ e));
      dn = λ y e w r n. law.emark_decs m x s h.good l w (go y e w r n (ℕ_discrete y x));
    }
      where
        go : (y : ℕ) → eget (emark m x s) y ≡ done → (w : ℕ) → Reach T y w → HasName T w → Dec (y ≡ x) → Dec' s w
        go y e w r n (yes q) = k (sym (law.emark_same m x s h.good l) ∙ ap (eget (emark m x s)) (sym q) ∙ e) w (subst (λ (j : ℕ). Reach T j w) q r) n
        go y e w r n (no q) = h.dn y (sym (law.emark_other m x s h.good l y q) ∙ e) w r n

    -- done, at once
    step_done : (x : ℕ) (s : M) → Held s → x < T.count → ((w : ℕ) → Reach T x w → HasName T w → Dec' s w) → Step s (emark done x s)
    step_done x s h l k = record {
      held = held_mark done x s h l (λ e. k);
      gets = law.emark_gets done x s h.good l;
      busy_back = λ z e. back z e (ℕ_discrete z x);
      done_on = λ z e. forth z e (ℕ_discrete z x);
      decs = law.emark_decs done x s h.good l;
    }
      where
        back : (z : ℕ) → eget (emark done x s) z ≡ busy → Dec (z ≡ x) → eget s z ≡ busy
        back z e (yes q) = absurd (clash (eget (emark done x s) z) e (ap (eget (emark done x s)) q ∙ law.emark_same done x s h.good l))
        back z e (no q) = sym (law.emark_other done x s h.good l z q) ∙ e

        forth : (z : ℕ) → eget s z ≡ done → Dec (z ≡ x) → eget (emark done x s) z ≡ done
        forth z e (yes q) = ap (eget (emark done x s)) q ∙ law.emark_same done x s h.good l
        forth z e (no q) = law.emark_other done x s h.good l z q ∙ e

    -- in progress, what follows, and then new again or done
    held_busy : (x : ℕ) (s : M) → Held s → x < T.count → Held (emark busy x s)
    held_busy x s h l = held_mark busy x s h l (λ e. absurd (clash busy refl e))

    step_around : (m : Mark) → (m ≡ busy → ⊥) → (x : ℕ) (s s' : M) → Held s → x < T.count → eget s x ≡ new → Step (emark busy x s) s' → (m ≡ done → (w : ℕ) → Reach T x w → HasName T w → Dec' s' w) → Step s (emark m x s')
    step_around m nb x s s' h l e p k = record {
      held = held_mark m x s' p.held l k;
      gets = λ d. law.emark_gets m x s' p.held.good l d ∙ p.gets d ∙ law.emark_gets busy x s h.good l d;
      busy_back = λ z q. back z q (ℕ_discrete z x);
      done_on = λ z q. forth z q (ℕ_discrete z x);
      decs = λ w d. law.emark_decs m x s' p.held.good l w (p.decs w (law.emark_decs busy x s h.good l w d));
    }
      where
        back : (z : ℕ) → eget (emark m x s') z ≡ busy → Dec (z ≡ x) → eget s z ≡ busy
        back z q (yes o) = absurd (nb (sym (law.emark_same m x s' p.held.good l) ∙ ap (eget (emark m x s')) (sym o) ∙ q))
        back z q (no o) = sym (law.emark_other busy x s h.good l z o) ∙ p.busy_back z (sym (law.emark_other m x s' p.held.good l z o) ∙ q)

        forth : (z : ℕ) → eget s z ≡ done → Dec (z ≡ x) → eget (emark m x s') z ≡ done
        forth z q (yes o) = absurd (clash_new (eget s x) e (ap (eget s) (sym o) ∙ q))
        forth z q (no o) = law.emark_other m x s' p.held.good l z o ∙ p.done_on z (law.emark_other busy x s h.good l z o ∙ q)

    -- what a call from inside may rely on: nothing that x can come to is in progress but named composites, and the named enums and FWDs
    -- among it have their lines
    pub record Pre (s : M) (x : ℕ) : Type 0 where
      pub free : (z : ℕ) → Reach T x z → eget s z ≡ busy → stops T z ≡ true
      pub leaves : (z : ℕ) → Reach T x z → Leaf T z → eget s z ≡ done
      pub ends : Ends T x

    pre_step : (s s' : M) (x : ℕ) → Step s s' → Pre s x → Pre s' x
    pre_step s s' x p h = record { free = λ z r e. h.free z r (p.busy_back z e); leaves = λ z r k. p.done_on z (h.leaves z r k); ends = h.ends }

    pre_kid : (s : M) (x y : ℕ) → Pre s x → stops T x ≡ false → Memᴰ y (kids (T.node x)) → Pre s y
    pre_kid s x y h n m = record { free = λ z r e. h.free z (on n m r) e; leaves = λ z r k. h.leaves z (on n m r) k; ends = Acc.inv h.ends (n, m) }

    leaf_other : (x z : ℕ) → is_leaf (T.node x) ≡ false → Leaf T z → z ≡ x → ⊥
    leaf_other x z nl k q = true≢false (sym k.0 ∙ ap (λ (j : ℕ). is_leaf (T.node j)) q ∙ nl)

    pre_busy : (s : M) (x y : ℕ) → Good s → x < T.count → is_leaf (T.node x) ≡ false → Pre s x → stops T x ≡ false → Memᴰ y (kids (T.node x)) → Pre (emark busy x s) y
    pre_busy s x y g l nl h n m = record {
      free = λ z r e. go z r e (ℕ_discrete z x);
      leaves = λ z r k. law.emark_other busy x s g l z (leaf_other x z nl k) ∙ h.leaves z (on n m r) k;
      ends = Acc.inv h.ends (n, m);
    }
      where
        go : (z : ℕ) → Reach T y z → eget (emark busy x s) z ≡ busy → Dec (z ≡ x) → stops T z ≡ true
        go z r e (yes q) = absurd (ends_once h.ends y (n, m) (subst (Reach T y) q r))
        go z r e (no q) = h.free z (on n m r) (sym (law.emark_other busy x s g l z q) ∙ e)

    -- all that y can come to is declared, but perhaps the container
    abbrev pub Covered : M → ℕ → ℕ → Type 0
    Covered s y cont = (w : ℕ) → Reach T y w → HasName T w → Dec' s w ⊎ (w ≡ cont)

    pub record Nested (y cont : ℕ) (s s' : M) : Type 0 where
      pub step : Step s s'
      pub covered : Covered s' y cont

    later : (s s' : M) (y cont : ℕ) → Step s s' → Covered s y cont → Covered s' y cont
    later s s' y cont p h w r n = go (h w r n)
      where
        go : Dec' s w ⊎ (w ≡ cont) → Dec' s' w ⊎ (w ≡ cont)
        go (inl d) = inl (p.decs w d)
        go (inr q) = inr q

    -- past a type that is not declared itself
    covered_past : (s : M) (x cont : ℕ) (nd : Node) → T.node x ≡ nd → (is_def nd ≡ false) ⊎ (T.named x ≡ false) → ((y : ℕ) → Memᴰ y (kids nd) → Covered s y cont) → Covered s x cont
    covered_past s x cont nd e o h w r n = go (reach_past T x w nd e r)
      where
        nameless : (is_def nd ≡ false) ⊎ (T.named x ≡ false) → x ≡ w → ⊥
        nameless (inl f) q = true≢false (sym n.0 ∙ ap (λ (j : ℕ). is_def (T.node j)) (sym q) ∙ ap is_def e ∙ f)
        nameless (inr f) q = true≢false (sym n.1 ∙ ap T.named (sym q) ∙ f)

        go : (x ≡ w) ⊎ ((z : ℕ) × Memᴰ z (kids nd) × Reach T z w) → Dec' s w ⊎ (w ≡ cont)
        go (inl q) = absurd (nameless o q)
        go (inr q) = h q.0 q.1 w q.2 n

    covered_stop : (s : M) (x cont : ℕ) → stops T x ≡ true → Dec' s x ⊎ (x ≡ cont) → Covered s x cont
    covered_stop s x cont p h w r n = subst (λ (k : ℕ). Dec' s k ⊎ (k ≡ cont)) (reach_stop T x w p r) h

    once_ok : (w : M → ℕ → Out M H) (x : ℕ) (P : Type 0) (b : Bool) (s : M) → Held s → x < T.count → (b ≡ true → Dec' s x ⊎ P) → Comes (Wrote x s) (w s x) → Comes (λ s'. Step s s' × (Dec' s' x ⊎ P)) (once X T w x b s)
    unfolding once
    once_ok w x P true s h l f k = comes (step_refl s h, f refl)
    once_ok w x P false s h l f k =
        comes_bind _ k (λ s' q.
        let a : Step s s' = step_wrote x s s' h q in
        comes (step_then a (step_forwarded x s' a.held l q.self), inl (law.fwd_decs x s' q.good l x q.self)))

    or_cases : (a b : Bool) → (a || b) ≡ true → (a ≡ true) ⊎ (b ≡ true)
    or_cases true b e = inl refl
    or_cases false b e = inr e

    -- a flag that is set, or the container itself
    flagged : (s : M) (x cont : ℕ) → Held s → (X.has_fwd s x || eqb x cont) ≡ true → Dec' s x ⊎ (x ≡ cont)
    flagged s x cont h e = go (or_cases (X.has_fwd s x) (eqb x cont) e)
      where
        go : (X.has_fwd s x ≡ true) ⊎ (eqb x cont ≡ true) → Dec' s x ⊎ (x ≡ cont)
        go (inl q) = inl (h.fw x q)
        go (inr q) = inr (eqb-true x cont q)

    tdef_id : (x t : ℕ) → T.node x ≡ tdef t → x ≡ 0 → ⊥
    tdef_id x t e q = let p : T.node 0 ≡ plain = void in let z : ◌≡◌ {A = ℕ} 0 1 = cc in omega arith

    comp_id : (x : ℕ) → is_comp (T.node x) ≡ true → x ≡ 0 → ⊥
    comp_id x h q = true≢false (sym h ∙ ap is_comp (ap T.node q ∙ void))

    abbrev ENested : (M → ℕ → ℕ → Out M H) → Type 0
    ENested rec = (s : M) (x cont : ℕ) → Held s → x < T.count → (cont ≡ 0 → ⊥) → Pre s x → Comes (Nested x cont s) (rec s x cont)

    -- an enum or a FWD: with its line, or only marked
    leaf_ok : (s : M) (x : ℕ) (f b : Bool) → Held s → x < T.count → T.node x ≡ listed f → (T.named x ≡ true → b ≡ true) → Comes (λ s'. Step s s' × (eget s' x ≡ done)) (leaf X T b x s)
    unfolding leaf
    leaf_ok s x f true h l e k =
        comes_bind _ (law.leaf_line s x f h.good l e) (λ s' q.
        let a : Step s s' = step_wrote x s s' h q in
        comes (step_then a (step_done x s' a.held l (λ w r n. all s' q.self w n (reach_past T x w (listed f) e r))), law.emark_same done x s' q.good l))
      where
        all : (s' : M) → Dec' s' x → (w : ℕ) → HasName T w → (x ≡ w) ⊎ ((z : ℕ) × Memᴰ z [] × Reach T z w) → Dec' s' w
        all s' d w n (inl q) = subst (Dec' s') q d
        all s' d w n (inr q) = absurd (Memᴰ.not-nil q.1)
    leaf_ok s x f false h l e k = comes (step_done x s h l (λ w r n. all w n (reach_past T x w (listed f) e r)), law.emark_same done x s h.good l)
      where
        all : (w : ℕ) → HasName T w → (x ≡ w) ⊎ ((z : ℕ) × Memᴰ z [] × Reach T z w) → Dec' s w
        all w n (inl q) = absurd (true≢false (sym (k (ap T.named q ∙ n.1))))
        all w n (inr q) = absurd (Memᴰ.not-nil q.1)

    module _ (rec : M → ℕ → ℕ → Out M H) (keeps : ENested rec) where
      record Eached (ys : List ℕ) (cont : ℕ) (s s' : M) : Type 0 where
        step : Step s s'
        all : (y : ℕ) → Memᴰ y ys → Covered s' y cont

      eeach_ok : (cont : ℕ) → (cont ≡ 0 → ⊥) → (ys : List ℕ) (s : M) → Held s → ((y : ℕ) → Memᴰ y ys → y < T.count) → ((y : ℕ) → Memᴰ y ys → Pre s y) → Comes (Eached ys cont s) (eeach (λ s' y. rec s' y cont) ys s)
      unfolding eeach
      eeach_ok cont nz [] s h l g = comes (record { step = step_refl s h; all = λ y m. absurd (Memᴰ.not-nil m) })
      eeach_ok cont nz (y ∷ ys) s h l g =
          comes_bind _ (keeps s y cont h (l y (Memᴰ.head refl)) nz (g y (Memᴰ.head refl))) (λ s' p.
          comes_map (λ s'' q. record { step = step_then p.step q.step; all = λ z m. pick' s' p s'' q z (Memᴰ.cases_cons m) })
          (eeach_ok cont nz ys s' p.step.held (λ z m. l z (Memᴰ.tail m)) (λ z m. pre_step s s' z p.step (g z (Memᴰ.tail m)))))
        where
          pick' : (s' : M) → Nested y cont s s' → (s'' : M) → Eached ys cont s' s'' → (z : ℕ) → (z ≡ y) ⊎ Memᴰ z ys → Covered s'' z cont
          pick' s' p s'' q z (inl e) = subst (λ (k : ℕ). Covered s'' k cont) (sym e) (later s' s'' y cont q.step p.covered)
          pick' s' p s'' q z (inr m) = q.all z m

      module _ (s : M) (x cont : ℕ) (h : Held s) (l : x < T.count) where
        down : (nd : Node) (y : ℕ) → T.node x ≡ nd → Memᴰ y (kids nd) → y < T.count
        down nd y e m = below x y (subst (λ (k : Node). Memᴰ y (kids k)) (sym e) m)

        kid : (nd : Node) (y : ℕ) → T.node x ≡ nd → Memᴰ y (kids nd) → Memᴰ y (kids (T.node x))
        kid nd y e m = subst (λ (k : Node). Memᴰ y (kids k)) (sym e) m

        mention_ok : (b nm : Bool) → (X.has_fwd s x || eqb x cont) ≡ b → stops T x ≡ true → Comes (Nested x cont s) (mention X T b nm x s)
        unfolding mention
        mention_ok true nm e p = comes (record { step = step_refl s h; covered = covered_stop s x cont p (flagged s x cont h e) })
        mention_ok false true e p =
            comes_map (λ s' q. record { step = q.0; covered = covered_stop s' x cont p q.1 })
            (once_ok X.fwd_line x (x ≡ cont) false s h l (λ q. absurd (true≢false (sym q))) (law.fwd_line s x h.good l p))
        mention_ok false false e p = halts

        again_ok : (nd : Node) → T.node x ≡ nd → stops T x ≡ true → Comes (Nested x cont s) (again X T s x cont nd)
        unfolding again
        again_ok ignored e p = absurd (true≢false (sym p ∙ goes_on T x ignored e refl))
        again_ok plain e p = absurd (true≢false (sym p ∙ goes_on T x plain e refl))
        again_ok (listed f) e p = absurd (true≢false (sym p ∙ goes_on T x (listed f) e refl))
        again_ok (through a t) e p = absurd (true≢false (sym p ∙ goes_on T x (through a t) e refl))
        again_ok (ptr t) e p = absurd (true≢false (sym p ∙ goes_on T x (ptr t) e refl))
        again_ok (tdef t) e p = absurd (true≢false (sym p ∙ goes_on T x (tdef t) e refl))
        again_ok (proto ts) e p = absurd (true≢false (sym p ∙ goes_on T x (proto ts) e refl))
        again_ok (comp ms) e p = mention_ok (X.has_fwd s x || eqb x cont) (T.named x) refl p

        -- a typedef: its target, its line, and done
        typedef_ok : (top : Bool) (t : ℕ) → T.node x ≡ tdef t → eget s x ≡ new → Pre s x → Comes (λ s'. Step s s' × ((w : ℕ) → Reach T x w → HasName T w → Dec' s' w)) (begin X T rec s x cont top (tdef t))
        unfolding begin
        typedef_ok top t e n p =
            comes_bind _ (keeps (emark busy x s) t x (held_busy x s h l) (down (tdef t) t e (Memᴰ.head refl)) (tdef_id x t e) (pre_busy s x t h.good l (ap is_leaf e) p open' mem))
            (λ s' q. comes_bind _ (once_ok X.alias_line x ⊥ (X.has_fwd s' x) s' q.step.held l (λ u. inl (q.step.held.fw x u)) (law.alias_line s' x t q.step.held.good l e (target s' q)))
            (λ s'' r. let c = closure s'' (sure s'' r.1) (λ w k o. r.0.decs w (target s' q w k o)) in
            comes (step_around done (λ u. clash done u refl) x s s'' h l n (step_then q.step r.0) (λ u. c), λ w k o. law.emark_decs done x s'' r.0.held.good l w (c w k o))))
          where
            open' : stops T x ≡ false
            open' = goes_on T x (tdef t) e refl

            mem : Memᴰ t (kids (T.node x))
            mem = kid (tdef t) t e (Memᴰ.head refl)

            target : (s' : M) → Nested t x (emark busy x s) s' → (w : ℕ) → Reach T t w → HasName T w → Dec' s' w
            target s' q w r n' = go (q.covered w r n')
              where
                go : Dec' s' w ⊎ (w ≡ x) → Dec' s' w
                go (inl d) = d
                go (inr u) = absurd (ends_once p.ends t (open', mem) (subst (Reach T t) u r))

            sure : (s'' : M) → Dec' s'' x ⊎ ⊥ → Dec' s'' x
            sure s'' (inl d) = d
            sure s'' (inr u) = absurd u

            closure : (s'' : M) → Dec' s'' x → ((w : ℕ) → Reach T t w → HasName T w → Dec' s'' w) → (w : ℕ) → Reach T x w → HasName T w → Dec' s'' w
            closure s'' d f w r n' = go (reach_past T x w (tdef t) e r)
              where
                go : (x ≡ w) ⊎ ((z : ℕ) × Memᴰ z (t ∷ []) × Reach T z w) → Dec' s'' w
                go (inl q) = subst (Dec' s'') q d
                go (inr q) = f w (subst (λ (k : ℕ). Reach T k w) (Memᴰ.eq_of_singleton q.1) q.2) n'

        -- a composite met from inside: a forward line, or the members of a nameless one
        inner : (ms : List ℕ) → T.node x ≡ comp ms → (cont ≡ 0 → ⊥) → Pre s x → (nm : Bool) → T.named x ≡ nm → Comes (λ s'. Step (emark busy x s) s' × Covered s' x cont) (within X T rec s x cont (false || not nm) nm ms)
        unfolding within
        inner ms e nz p true n =
            comes_map (λ s' q. (q.0, covered_stop s' x cont (named_stops T x (ap is_comp e) n) q.1))
            (once_ok X.fwd_line x (x ≡ cont) (X.has_fwd s x || eqb x cont) (emark busy x s) (held_busy x s h l) l (λ q. up (flagged s x cont h q)) (law.fwd_line (emark busy x s) x (held_busy x s h l).good l (named_stops T x (ap is_comp e) n)))
          where
            up : Dec' s x ⊎ (x ≡ cont) → Dec' (emark busy x s) x ⊎ (x ≡ cont)
            up (inl d) = inl (law.emark_decs busy x s h.good l x d)
            up (inr q) = inr q
        inner ms e nz p false n =
            comes_map (λ s' q. (q.step, covered_past s' x cont (comp ms) e (inr n) q.all))
            (eeach_ok cont nz ms (emark busy x s) (held_busy x s h l) (λ y m. down (comp ms) y e m) (λ y m. pre_busy s x y h.good l (ap is_leaf e) p (nameless_on T x n) (kid (comp ms) y e m)))

        new_busy : new ≡ busy → ⊥
        new_busy q = clash_busy new refl q

        new_done : new ≡ done → ⊥
        new_done q = clash_new new refl q

        begin_ok : (nd : Node) → T.node x ≡ nd → (cont ≡ 0 → ⊥) → eget s x ≡ new → Pre s x → Comes (Nested x cont s) (begin X T rec s x cont false nd)
        unfolding begin close
        begin_ok ignored e nz n p = comes (record { step = step_refl s h; covered = covered_past s x cont ignored e (inl refl) (λ y m. absurd (Memᴰ.not-nil m)) })
        begin_ok plain e nz n p = comes (record { step = step_refl s h; covered = covered_past s x cont plain e (inl refl) (λ y m. absurd (Memᴰ.not-nil m)) })
        begin_ok (listed f) e nz n p =
            comes_map (λ s' q. record { step = q.0; covered = covered_past s' x cont (listed f) e (inr (nameless (T.named x) refl)) (λ y m. absurd (Memᴰ.not-nil m)) })
            (leaf_ok s x f (f || false) h l e (λ q. absurd (true≢false (sym q ∙ nameless (T.named x) refl))))
          where
            -- a named one has its line already
            nameless : (nm : Bool) → T.named x ≡ nm → T.named x ≡ false
            nameless true q = absurd (clash_new (eget s x) n (p.leaves x (at refl) (ap is_leaf e, q)))
            nameless false q = q
        begin_ok (through a t) e nz n p =
            comes_map (λ s' q. record { step = q.step; covered = covered_past s' x cont (through a t) e (inl refl) (only (λ (y : ℕ). Covered s' y cont) t q.covered) })
            (keeps s t cont h (down (through a t) t e (Memᴰ.head refl)) nz (pre_kid s x t p (goes_on T x (through a t) e refl) (kid (through a t) t e (Memᴰ.head refl))))
        begin_ok (ptr t) e nz n p =
            comes_map (λ s' q. record { step = q.step; covered = covered_past s' x cont (ptr t) e (inl refl) (only (λ (y : ℕ). Covered s' y cont) t q.covered) })
            (keeps s t cont h (down (ptr t) t e (Memᴰ.head refl)) nz (pre_kid s x t p (goes_on T x (ptr t) e refl) (kid (ptr t) t e (Memᴰ.head refl))))
        begin_ok (tdef t) e nz n p = comes_map (λ s' q. record { step = q.0; covered = λ w r k. inl (q.1 w r k) }) (typedef_ok false t e n p)
        begin_ok (proto ts) e nz n p =
            comes_map (λ s' q. record { step = q.step; covered = covered_past s' x cont (proto ts) e (inl refl) q.all })
            (eeach_ok cont nz ts s h (λ y m. down (proto ts) y e m) (λ y m. pre_kid s x y p (goes_on T x (proto ts) e refl) (kid (proto ts) y e m)))
        begin_ok (comp ms) e nz n p =
            comes_bind _ (inner ms e nz p (T.named x) refl) (λ s' q.
            let a : Step s (emark new x s') = step_around new new_busy x s s' h l n q.0 (λ u. absurd (new_done u)) in
            comes (record { step = a; covered = λ w r k. up s' q.0.held.good w (q.1 w r k) }))
          where
            up : (s' : M) → Good s' → (w : ℕ) → Dec' s' w ⊎ (w ≡ cont) → Dec' (emark new x s') w ⊎ (w ≡ cont)
            up s' g w (inl d) = inl (law.emark_decs new x s' g l w d)
            up s' g w (inr q) = inr q

        zero_no : (n : ℕ) → (n ≡ 0 → ⊥) → is_zero n ≡ false
        zero_no zero f = absurd (f refl)
        zero_no (suc n) f = refl

        allowed_ok : (b : Bool) → (cont ≡ 0 → ⊥) → eget s x ≡ new → Pre s x → Comes (Nested x cont s) (allowed X T rec s x cont b)
        unfolding allowed
        allowed_ok true nz n p = halts
        allowed_ok false nz n p = rw (zero_no cont nz) (begin_ok (T.node x) refl nz n p)

        look_ok : (m : Mark) → eget s x ≡ m → (cont ≡ 0 → ⊥) → Pre s x → Comes (Nested x cont s) (look X T rec s x cont m)
        unfolding look
        look_ok new e nz p = allowed_ok (is_zero cont && not (T.named x)) nz e p
        look_ok busy e nz p = again_ok (T.node x) refl (p.free x (at refl) e)
        look_ok done e nz p = comes (record { step = step_refl s h; covered = λ w r k. inl (h.dn x e w r k) })

    nested : (n : ℕ) → ENested (emit X T n)
    unfolding emit
    nested zero s x cont h l nz p = halts
    nested (suc n) s x cont h l nz p = look_ok (λ s' y c. emit X T n s' y c) (λ s' y c. nested n s' y c) s x cont h l (eget s x) refl nz p

    -- At the top: after the ids of l.

    pub record Top (l : List ℕ) (s : M) : Type 0 where
      pub held : Held s
      pub idle : (z : ℕ) → eget s z ≡ busy → ⊥
      pub lines : (z : ℕ) → Memᴰ z l → Leaf T z → eget s z ≡ done

    pub record TopPost (x : ℕ) (s s' : M) : Type 0 where
      pub step : Step s s'
      pub line : Leaf T x → eget s' x ≡ done

    module _ (n : ℕ) (before : List ℕ) (s : M) (x : ℕ) (t : Top before s) (d : Due T before x) where
      abbrev rec_n : M → ℕ → ℕ → Out M H
      rec_n s' y c = emit X T n s' y c

      no_def : (nd : Node) → T.node x ≡ nd → is_def nd ≡ false → ⊥
      no_def nd e q = true≢false (sym d.able ∙ ap is_def e ∙ q)

      no_line : is_leaf (T.node x) ≡ false → (s' : M) → Leaf T x → eget s' x ≡ done
      no_line nl s' k = absurd (true≢false (sym k.0 ∙ nl))

      pre_top : is_leaf (T.node x) ≡ false → Pre s x
      pre_top nl = record {
        free = λ z r e. absurd (t.idle z e);
        leaves = λ z r k. t.lines z (go z k r) k;
        ends = Acc.intro x (λ z q. (d.inner z q.1).ends);
      }
        where
          go : (z : ℕ) → Leaf T z → Reach T x z → Memᴰ z before
          go z k r = pick' (reach_past T x z (T.node x) refl r)
            where
              pick' : (x ≡ z) ⊎ ((y : ℕ) × Memᴰ y (kids (T.node x)) × Reach T y z) → Memᴰ z before
              pick' (inl q) = absurd (leaf_other x z nl k (sym q))
              pick' (inr q) = (d.inner q.0 q.1).leaves z q.2 k

      -- the members of a named composite, with it in progress
      pre_member : stops T x ≡ true → is_leaf (T.node x) ≡ false → (m : ℕ) → Memᴰ m (kids (T.node x)) → Pre (emark busy x s) m
      pre_member p nl m k = record {
        free = λ z r e. go z e (ℕ_discrete z x);
        leaves = λ z r q. law.emark_other busy x s t.held.good d.below z (leaf_other x z nl q) ∙ t.lines z ((d.inner m k).leaves z r q) q;
        ends = (d.inner m k).ends;
      }
        where
          go : (z : ℕ) → eget (emark busy x s) z ≡ busy → Dec (z ≡ x) → stops T z ≡ true
          go z e (yes q) = ap (stops T) q ∙ p
          go z e (no q) = absurd (t.idle z (sym (law.emark_other busy x s t.held.good d.below z q) ∙ e))

      comp_top : (ms : List ℕ) → T.node x ≡ comp ms → T.named x ≡ true → eget s x ≡ new → Comes (TopPost x s) (obind (within X T rec_n s x 0 true (T.named x) ms) (close X T true x))
      unfolding within close
      comp_top ms e nm new_x =
          comes_bind _ members (λ s' q. comes_bind _ (law.body_line s' x ms q.step.held.good d.below e nm (λ m w k r u. q.all m k w r u)) (λ s'' k.
          let a : Step (emark busy x s) s'' = step_then q.step (step_wrote x s' s'' q.step.held k) in
          comes (record {
            step = step_around done (λ u. clash done u refl) x s s'' t.held d.below new_x a (λ u w r v. subst (Dec' s'') (reach_stop T x w stop_x r) k.self);
            line = no_line (ap is_leaf e) (emark done x s'');
          })))
        where
          stop_x : stops T x ≡ true
          stop_x = named_stops T x (ap is_comp e) nm

          members : Comes (Eached rec_n (λ s' y c. nested n s' y c) ms x (emark busy x s)) (eeach (λ s' y. rec_n s' y (pick (T.named x) x 0)) ms (emark busy x s))
          members = rw nm (eeach_ok rec_n (λ s' y c. nested n s' y c) x (comp_id x (ap is_comp e)) ms (emark busy x s) (held_busy x s t.held d.below)
              (λ y m. below x y (subst (λ (k : Node). Memᴰ y (kids k)) (sym e) m)) (λ y m. pre_member stop_x (ap is_leaf e) y (subst (λ (k : Node). Memᴰ y (kids k)) (sym e) m)))

      or_true : (b : Bool) → (b || true) ≡ true
      or_true true = refl
      or_true false = refl

      begin_top : (nd : Node) → T.node x ≡ nd → eget s x ≡ new → T.named x ≡ true → Comes (TopPost x s) (begin X T rec_n s x 0 true nd)
      unfolding begin
      begin_top ignored e u nm = absurd (no_def ignored e refl)
      begin_top plain e u nm = absurd (no_def plain e refl)
      begin_top (listed f) e u nm = comes_map (λ s' q. record { step = q.0; line = λ k. q.1 }) (leaf_ok s x f (f || true) t.held d.below e (λ q. or_true f))
      begin_top (through a y) e u nm = absurd (no_def (through a y) e refl)
      begin_top (ptr y) e u nm = absurd (no_def (ptr y) e refl)
      begin_top (tdef y) e u nm =
          comes_map (λ s' q. record { step = q.0; line = no_line (ap is_leaf e) s' }) (typedef_ok rec_n (λ s' z c. nested n s' z c) s x 0 t.held d.below true y e u (pre_top (ap is_leaf e)))
      begin_top (proto ts) e u nm = absurd (no_def (proto ts) e refl)
      begin_top (comp ms) e u nm = comp_top ms e nm u

      allowed_top : (b : Bool) → T.named x ≡ not b → eget s x ≡ new → Comes (TopPost x s) (allowed X T rec_n s x 0 b)
      unfolding allowed
      allowed_top true e u = halts
      allowed_top false e u = begin_top (T.node x) refl u e

      not_not : (b : Bool) → b ≡ not (true && not b)
      not_not true = refl
      not_not false = refl

      look_top : (m : Mark) → eget s x ≡ m → Comes (TopPost x s) (look X T rec_n s x 0 m)
      unfolding look
      look_top new e = allowed_top (is_zero 0 && not (T.named x)) (not_not (T.named x)) e
      look_top busy e = absurd (t.idle x e)
      look_top done e = comes (record { step = step_refl s t.held; line = λ k. e })

    emit_top : (n : ℕ) (before : List ℕ) (s : M) (x : ℕ) → Top before s → Due T before x → Comes (TopPost x s) (emit X T n s x 0)
    unfolding emit
    emit_top zero before s x t d = halts
    emit_top (suc n) before s x t d = look_top n before s x t d (eget s x) refl

    top_next : (before : List ℕ) (s : M) (x : ℕ) → Top before s → (s' : M) → TopPost x s s' → Top (before ++ (x ∷ [])) s'
    top_next before s x t s' p = record {
      held = p.step.held;
      idle = λ z e. t.idle z (p.step.busy_back z e);
      lines = λ z m k. go z k (Memᴰ.append_cases before m);
    }
      where
        go : (z : ℕ) → Leaf T z → Memᴰ z before ⊎ Memᴰ z (x ∷ []) → eget s' z ≡ done
        go z k (inl m) = p.step.done_on z (t.lines z m k)
        go z k (inr m) = let q = Memᴰ.eq_of_singleton m in ap (eget s') q ∙ p.line (subst (Leaf T) q k)

    sorted_split : {L : List ℕ} → Sorted T L → (l₁ l₂ : List ℕ) (c : ℕ) → L ≡ l₁ ++ (c ∷ l₂) → Due T l₁ c
    sorted_split none l₁ l₂ c e = absurd (nil_not l₁ l₂ c e)
    sorted_split (snoc {l = l} {x = x} h f) l₁ l₂ c e = go (λ k q. sorted_split h l₁ k c q) (snoc_split l l₁ l₂ x c e)
      where
        go : ((k : List ℕ) → l ≡ l₁ ++ (c ∷ k) → Due T l₁ c) → ((l ≡ l₁) × (x ≡ c)) ⊎ ((k : List ℕ) × (l ≡ l₁ ++ (c ∷ k))) → Due T l₁ c
        go r (inl q) = subst (λ (k : List ℕ). Due T k c) q.0 (subst (λ (k : ℕ). Due T l k) q.1 f)
        go r (inr q) = r q.0 q.1

    pub record Listed (l : List ℕ) (s s' : M) : Type 0 where
      pub top : Top l s'
      pub gets : (d : ℕ) → X.store.get s' d ≡ X.store.get s d

    -- a whole list
    pub emit_list : (n : ℕ) (todo l : List ℕ) (s : M) → Top l s → Sorted T (l ++ todo) → Comes (Listed (l ++ todo) s) (eeach (λ m y. emit X T n m y 0) todo s)
    unfolding eeach
    emit_list n [] l s t o = comes (record { top = subst (λ (k : List ℕ). Top k s) (sym (append-nil l)) t; gets = λ d. refl })
    emit_list n (x ∷ todo) l s t o =
        comes_bind _ (emit_top n l s x t (sorted_split o l todo x refl)) (λ s' p.
        comes_map (λ s'' q. record { top = q.top; gets = λ d. q.gets d ∙ p.step.gets d })
        (subst (λ (k : List ℕ). Comes (Listed k s') (eeach (λ m y. emit X T n m y 0) todo s')) (append_assoc l (x ∷ []) todo)
        (emit_list n todo (l ++ (x ∷ [])) s' (top_next l s x t s' p) (subst (Sorted T) (sym (append_assoc l (x ∷ []) todo)) o))))
