-- The two orderings go alike: states that differ in the order list alone, and there only by entries that are given again.
use Prim.Native.Nat.{ℕ, zero, suc, ◌<◌}
use native.Mathlib.Decide.{ℕ_discrete}
use native.Mathlib.Omega.{arith}
use mathlib.Core.Path.{◌≡◌, refl, sym, ◌∙◌, ap, subst}
use mathlib.Core.Bool.{Bool, true, false, not, ◌&&◌, ◌||◌, true≢false}
use mathlib.Core.List.Memᴰ
use mathlib.Core.List.{List, [], ◌∷◌, ◌++◌, Memᴰ}
use mathlib.Core.Logic.{◌⊎◌, inl, inr}
use lib.ListN.{length, get_or, set, length-set}
use lib.Seq.{get_or-set_other}
use Rattle.spec_c_dumper.specs.rules.Order.{Node, ignored, plain, listed, through, ptr, tdef, proto, comp, Table, is_comp, Mark, new, busy, done, is_done, Store, Res, ok, refused, bind, each, meet, push_if, finish, enter, alias, fresh, visit, order}
use Rattle.spec_c_dumper.specs.needs.Lists.{Ls, list_store}
use Rattle.spec_c_dumper.proofs.needs.Placed.{is_def}
use Rattle.spec_c_dumper.specs.listed_twice.Twice.{alias_twice, fresh_twice, visit_twice, order_twice}

abbrev is_tdef : Node → Bool
is_tdef ignored = false
is_tdef plain = false
is_tdef (listed f) = false
is_tdef (through a t) = false
is_tdef (ptr t) = false
is_tdef (tdef t) = true
is_tdef (proto ts) = false
is_tdef (comp ts) = false

not_tdef : (nd : Node) (t : ℕ) → is_tdef nd ≡ false → nd ≡ tdef t → ⊥
not_tdef nd t h e = true≢false (sym (ap is_tdef e) ∙ h)

-- marks in a list

differ : {k m : Mark} → k ≡ m → (e : Mark → Bool) → e k ≡ true → e m ≡ false → ⊥
differ q e a b = true≢false (sym a ∙ ap e q ∙ b)

abbrev is_new : Mark → Bool
is_new new = true
is_new busy = false
is_new done = false

pub new_busy : new ≡ busy → ⊥
new_busy q = differ q is_new refl refl

pub new_done : new ≡ done → ⊥
new_done q = differ q is_new refl refl

pub done_busy : done ≡ busy → ⊥
done_busy q = differ q is_done refl refl

-- what an id comes to after it was marked, if not new, is the mark
pub set_is : (l : List Mark) (x : ℕ) (m k : Mark) → (new ≡ k → ⊥) → get_or (set l x m) x new ≡ k → m ≡ k
set_is [] x m k n e = absurd (n e)
set_is (y ∷ l) zero m k n e = e
set_is (y ∷ l) (suc x) m k n e = set_is l x m k n e

done_again : (l : List Mark) (x : ℕ) → get_or l x new ≡ done → get_or (set l x done) x new ≡ done
done_again [] x e = absurd (new_done e)
done_again (y ∷ l) zero e = refl
done_again (y ∷ l) (suc x) e = done_again l x e

done_in : (l : List Mark) (x : ℕ) → get_or l x new ≡ done → x < length l
done_in [] x e = absurd (new_done e)
done_in (y ∷ l) zero e = omega arith
done_in (y ∷ l) (suc x) e = omega (arith, done_in l x e)

-- a: b with some entries, below n, given again
pub data Dup (n : ℕ) : List ℕ → List ℕ → Type 0 where
  dnil : Dup n [] []
  dboth : {a b : List ℕ} (x : ℕ) → Dup n a b → Dup n (a ++ (x ∷ [])) (b ++ (x ∷ []))
  dmore : {a b : List ℕ} (x : ℕ) → Dup n a b → Memᴰ x b → x < n → Dup n (a ++ (x ∷ [])) b

module _ {U : Type 0} where
  -- all but the order list
  abbrev pub bare : Ls U → Ls U
  bare s = record { marks = s.marks; olist = []; emits = s.emits; fwds = s.fwds; room = s.room; known = s.known; pieces = s.pieces }

  abbrev K : Store (Ls U)
  K = list_store

  abbrev get : Ls U → ℕ → Mark
  get s x = get_or s.marks x new

  -- r by the Rust's rule, d by the short one, both from s₀: a typedef that was not done in s₀, and is, is listed
  pub record Rel (T : Table) (s₀ r d : Ls U) : Type 0 where
    pub same : bare r ≡ bare d
    pub dup : Dup T.count r.olist d.olist
    pub newly : (x t : ℕ) → T.node x ≡ tdef t → get d x ≡ done → (get s₀ x ≡ done) ⊎ Memᴰ x d.olist
    pub old : (x : ℕ) → get s₀ x ≡ done → get d x ≡ done
    pub defs : (x : ℕ) → Memᴰ x d.olist → is_def (T.node x) ≡ true
    pub size : length d.marks ≡ T.count
    pub emits_same : d.emits ≡ s₀.emits

  pub data Both (T : Table) (s₀ : Ls U) : Res (Ls U) → Res (Ls U) → Type 0 where
    both_ok : {r d : Ls U} {b : Bool} → Rel T s₀ r d → Both T s₀ (ok r b) (ok d b)
    both_no : {e : ℕ} → Both T s₀ (refused e) (refused e)

  both_bind : {T : Table} {s₀ : Ls U} {p q : Res (Ls U)} {k l : Ls U → Bool → Res (Ls U)} → Both T s₀ p q → ((r d : Ls U) (b : Bool) → Rel T s₀ r d → Both T s₀ (k r b) (l d b)) → Both T s₀ (bind p k) (bind q l)
  unfolding bind
  both_bind (both_ok h) f = f _ _ _ h
  both_bind both_no f = both_no

  rel_mark : (T : Table) (s₀ r d : Ls U) (m : Mark) (x : ℕ) → Rel T s₀ r d → (m ≡ done → (t : ℕ) → T.node x ≡ tdef t → Memᴰ x d.olist) → (get s₀ x ≡ done → m ≡ done) → Rel T s₀ (K.mark m x r) (K.mark m x d)
  rel_mark T s₀ r d m x h f was = record {
    same = ap {B = Ls U} (λ (k : Ls U). record { marks = set k.marks x m; olist = []; emits = k.emits; fwds = k.fwds; room = k.room; known = k.known; pieces = k.pieces }) h.same;
    dup = h.dup;
    newly = λ y t e g. new_y y t e g (ℕ_discrete y x);
    old = λ y g. old_y y g (ℕ_discrete y x);
    defs = h.defs;
    size = length-set d.marks x m ∙ h.size;
    emits_same = h.emits_same;
  }
    where
      new_y : (y t : ℕ) → T.node y ≡ tdef t → get_or (set d.marks x m) y new ≡ done → Dec (y ≡ x) → (get s₀ y ≡ done) ⊎ Memᴰ y d.olist
      new_y y t e g (yes q) = inr (subst (λ (k : ℕ). Memᴰ k d.olist) (sym q) (f (set_is d.marks x m done new_done (ap (λ (k : ℕ). get_or (set d.marks x m) k new) (sym q) ∙ g)) t (ap T.node (sym q) ∙ e)))
      new_y y t e g (no q) = h.newly y t e (sym (get_or-set_other d.marks x y m new q) ∙ g)

      at_x : (k : Mark) → k ≡ done → get_or d.marks x new ≡ done → get_or (set d.marks x k) x new ≡ done
      at_x k e g = subst (λ (k : Mark). get_or (set d.marks x k) x new ≡ done) (sym e) (done_again d.marks x g)

      old_y : (y : ℕ) → get s₀ y ≡ done → Dec (y ≡ x) → get_or (set d.marks x m) y new ≡ done
      old_y y g (yes q) = ap (λ (k : ℕ). get_or (set d.marks x m) k new) q ∙ at_x m (was (ap (get s₀) (sym q) ∙ g)) (h.old x (ap (get s₀) (sym q) ∙ g))
      old_y y g (no q) = get_or-set_other d.marks x y m new q ∙ h.old y g

  rel_push : (T : Table) (s₀ r d : Ls U) (p : Bool) (x : ℕ) → Rel T s₀ r d → (p ≡ true → is_def (T.node x) ≡ true) → Rel T s₀ (push_if K p x r) (push_if K p x d)
  unfolding push_if
  rel_push T s₀ r d false x h able = h
  rel_push T s₀ r d true x h able = record { same = h.same; dup = dboth x h.dup; newly = λ y t e g. more (h.newly y t e g); old = h.old; defs = λ y m. def y (Memᴰ.append_cases d.olist m); size = h.size; emits_same = h.emits_same }
    where
      more : {y : ℕ} → (get s₀ y ≡ done) ⊎ Memᴰ y d.olist → (get s₀ y ≡ done) ⊎ Memᴰ y (d.olist ++ (x ∷ []))
      more (inl a) = inl a
      more (inr a) = inr (Memᴰ.append_left (x ∷ []) a)

      def : (y : ℕ) → Memᴰ y d.olist ⊎ Memᴰ y (x ∷ []) → is_def (T.node y) ≡ true
      def y (inl m) = h.defs y m
      def y (inr m) = ap (λ (k : ℕ). is_def (T.node k)) (Memᴰ.eq_of_singleton m) ∙ able refl

  -- the second listing
  rel_again : (T : Table) (s₀ r d : Ls U) (x : ℕ) → Rel T s₀ r d → Memᴰ x d.olist → x < T.count → Rel T s₀ (push_if K true x r) (push_if K false x d)
  unfolding push_if
  rel_again T s₀ r d x h m l = record { same = h.same; dup = dmore x h.dup m l; newly = h.newly; old = h.old; defs = h.defs; size = h.size; emits_same = h.emits_same }

  list_of : (x : ℕ) (d : Ls U) → Memᴰ x (push_if K true x d).olist
  unfolding push_if
  list_of x d = Memᴰ.append_right d.olist (Memᴰ.head refl)

  push_no : (x : ℕ) (d : Ls U) → (push_if K false x d).olist ≡ d.olist
  unfolding push_if
  push_no x d = refl

  module _ (T : Table) (s₀ : Ls U) (rec_r rec_d : Ls U → ℕ → Bool → Res (Ls U)) (sim : (r d : Ls U) (x : ℕ) (w : Bool) → Rel T s₀ r d → Both T s₀ (rec_r r x w) (rec_d d x w)) where
    each_sim : (ys : List ℕ) (r d : Ls U) (b w : Bool) → Rel T s₀ r d → Both T s₀ (each (λ s y. rec_r s y w) ys r b) (each (λ s y. rec_d s y w) ys d b)
    unfolding each
    each_sim [] r d b w h = both_ok h
    each_sim (y ∷ ys) r d b w h = both_bind (sim r d y w h) (λ r' d' b' h'. each_sim ys r' d' (b || b') w h')

    module _ (r d : Ls U) (x : ℕ) (weak : Bool) (h : Rel T s₀ r d) (n : get d x ≡ new) where
      not_before : get s₀ x ≡ done → ⊥
      not_before e = new_done (sym n ∙ h.old x e)

      -- x finished in both
      fin : (p : Bool) (b : Bool) (r' d' : Ls U) → Rel T s₀ r' d' → (p ≡ true → is_def (T.node x) ≡ true) → ((t : ℕ) → T.node x ≡ tdef t → p ≡ true) → Both T s₀ (ok (finish K p x r') b) (ok (finish K p x d') b)
      fin p b r' d' h' able q = both_ok (rel_mark T s₀ (push_if K p x r') (push_if K p x d') done x (rel_push T s₀ r' d' p x h' able) (λ u t e. here_too p (q t e)) (λ u. refl))
        where
          here_too : (p : Bool) → p ≡ true → Memᴰ x (push_if K p x d').olist
          here_too true e = list_of x d'
          here_too false e = absurd (true≢false (sym e))

      alias_sim : (a : Bool) (r' d' : Ls U) → Rel T s₀ r' d' → (t : ℕ) → T.node x ≡ tdef t → (k : Mark) → get d' x ≡ k → Both T s₀ (alias_twice K a r' x) (alias K a (is_done k) d' x)
      unfolding alias_twice alias
      alias_sim false r' d' h' t e k q = both_ok h'
      alias_sim true r' d' h' t e new q = fin true true r' d' h' (λ u. ap is_def e) (λ t e. refl)
      alias_sim true r' d' h' t e busy q = fin true true r' d' h' (λ u. ap is_def e) (λ t e. refl)
      alias_sim true r' d' h' t e done q = both_ok (rel_mark T s₀ (push_if K true x r') (push_if K false x d') done x (rel_again T s₀ r' d' x h' listed_x (subst (λ (k : ℕ). x < k) h'.size (done_in d'.marks x q))) (λ u t' e'. subst (Memᴰ x) (sym (push_no x d')) listed_x) (λ u. refl))
        where
          which : (get s₀ x ≡ done) ⊎ Memᴰ x d'.olist → Memᴰ x d'.olist
          which (inl g) = absurd (not_before g)
          which (inr k) = k

          listed_x : Memᴰ x d'.olist
          listed_x = which (h'.newly x t e q)

      enter_sim : (ms : List ℕ) → T.node x ≡ comp ms → (b : Bool) → Both T s₀ (enter K b (λ s y. rec_r s y false) r x (T.named x) ms) (enter K b (λ s y. rec_d s y false) d x (T.named x) ms)
      unfolding enter
      enter_sim ms e true = both_ok h
      enter_sim ms e false = both_bind (each_sim ms (K.mark busy x r) (K.mark busy x d) false false (rel_mark T s₀ r d busy x h (λ u. absurd (done_busy (sym u))) (λ g. absurd (not_before g))))
          (λ r' d' b h'. fin (T.named x) true r' d' h' (λ u. ap is_def e) (λ t q. absurd (not_tdef (comp ms) t refl (sym e ∙ q))))

      fresh_sim : (nd : Node) → T.node x ≡ nd → Both T s₀ (fresh_twice K T rec_r r x weak nd) (fresh K T rec_d d x weak nd)
      unfolding fresh_twice fresh
      fresh_sim ignored e = both_ok h
      fresh_sim plain e = fin false false r d h (λ u. absurd (true≢false (sym u))) (λ t q. absurd (not_tdef plain t refl (sym e ∙ q)))
      fresh_sim (listed f) e = fin (T.named x) true r d h (λ u. ap is_def e) (λ t q. absurd (not_tdef (listed f) t refl (sym e ∙ q)))
      fresh_sim (through a t) e = sim r d t (not (a && T.strong_arrays) && weak) h
      fresh_sim (ptr t) e = both_bind (sim r d t true h) (λ r' d' b h'. fin false b r' d' h' (λ u. absurd (true≢false (sym u))) (λ t' q. absurd (not_tdef (ptr t) t' refl (sym e ∙ q))))
      fresh_sim (tdef t) e = both_bind (sim r d t weak h) (λ r' d' b h'. alias_sim (not weak || b) r' d' h' t e (get d' x) refl)
      fresh_sim (proto ts) e = each_sim ts r d false weak h
      fresh_sim (comp ms) e = enter_sim ms e (weak && T.named x)

    meet_sim : (b : Bool) (r d : Ls U) → Rel T s₀ r d → Both T s₀ (meet b r) (meet b d)
    unfolding meet
    meet_sim true r d h = both_ok h
    meet_sim false r d h = both_no

    visit_sim : (r d : Ls U) (x : ℕ) (weak : Bool) → Rel T s₀ r d → (k : Mark) → get d x ≡ k → Both T s₀ (visit_twice K T rec_r r x weak k) (visit K T rec_d d x weak k)
    unfolding visit_twice visit
    visit_sim r d x weak h new e = fresh_sim r d x weak h e (T.node x) refl
    visit_sim r d x weak h busy e = meet_sim (is_comp (T.node x) && (weak && T.named x)) r d h
    visit_sim r d x weak h done e = both_ok h

  pub order_sim : (T : Table) (s₀ : Ls U) (n : ℕ) (r d : Ls U) (x : ℕ) (w : Bool) → Rel T s₀ r d → Both T s₀ (order_twice K n T r x w) (order K n T d x w)
  unfolding order_twice order
  order_sim T s₀ zero r d x w h = both_no
  order_sim T s₀ (suc n) r d x w h =
      subst (λ (k : Mark). Both T s₀ (visit_twice K T (λ s y v. order_twice K n T s y v) r x w k) (visit K T (λ s y v. order K n T s y v) d x w (get d x))) (ap (λ (k : Ls U). get_or k.marks x new) (sym h.same))
      (visit_sim T s₀ (λ s y v. order_twice K n T s y v) (λ s y v. order K n T s y v) (λ r' d' y v h'. order_sim T s₀ n r' d' y v h') r d x w h (get d x) refl)
