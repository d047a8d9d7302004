-- Without a ceiling ordering is the plain rule, and the count of calls stays. Assumes nothing.
use Prim.Native.Nat.{ℕ, zero, suc}
use mathlib.Core.Path.{◌≡◌, refl, ap, ◌∙◌}
use mathlib.Core.Bool.{Bool, true, false, not, ◌&&◌, ◌||◌}
use mathlib.Core.List.{List, [], ◌∷◌}
use Rattle.spec_c_dumper.specs.rules.Order.{Node, ignored, plain, listed, through, ptr, tdef, proto, comp, Table, is_comp, Mark, new, busy, done, is_done, Store, Res, ok, refused, bind, each, meet, finish, enter, alias, fresh, visit, order}
use Rattle.spec_c_dumper.specs.ceiling.Ceiling.{Told, told, then_bind, each_within, meet_within, enter_within, alias_within, fresh_within, visit_within, unbounded, allows, one_call, order_within}
use Rattle.spec_c_dumper.proofs.ceiling.Counted.{tell}

module _ {St : Type 0} where
  tell_bind : (r : Res St) (k : ℕ) (F : St → Bool → ℕ → Told St) (f : St → Bool → Res St) → ((s : St) (b : Bool) → F s b k ≡ tell (f s b) k) → then_bind (tell r k) F ≡ tell (bind r f) k
  unfolding then_bind tell bind
  tell_bind (ok s b) k F f h = h s b
  tell_bind (refused e) k F f h = refl

  tell_then : (t : Told St) (r : Res St) (k : ℕ) (F : St → Bool → ℕ → Told St) (f : St → Bool → Res St) → t ≡ tell r k → ((s : St) (b : Bool) → F s b k ≡ tell (f s b) k) → then_bind t F ≡ tell (bind r f) k
  tell_then t r k F f e h = ap (λ (u : Told St). then_bind u F) e ∙ tell_bind r k F f h

  tell_each : (F : St → ℕ → ℕ → Told St) (f : St → ℕ → Res St) (k : ℕ) → ((s : St) (y : ℕ) → F s y k ≡ tell (f s y) k) → (ys : List ℕ) (s : St) (b : Bool) → each_within F ys s b k ≡ tell (each f ys s b) k
  unfolding each_within each tell
  tell_each F f k h [] s b = refl
  tell_each F f k h (y ∷ ys) s b = tell_then (F s y k) (f s y) k (λ s' b' k'. each_within F ys s' (b || b') k') (λ s' b'. each f ys s' (b || b')) (h s y) (λ s' b'. tell_each F f k h ys s' (b || b'))

  tell_meet : (p : Bool) (s : St) (k : ℕ) → meet_within p s k ≡ tell (meet p s) k
  unfolding meet_within meet tell
  tell_meet true s k = refl
  tell_meet false s k = refl

  module _ (K : Store St) where
    tell_enter : (p : Bool) (F : St → ℕ → ℕ → Told St) (f : St → ℕ → Res St) (k : ℕ) → ((s : St) (y : ℕ) → F s y k ≡ tell (f s y) k)
        → (s : St) (x : ℕ) (nm : Bool) (ms : List ℕ) → enter_within K p F s x nm ms k ≡ tell (enter K p f s x nm ms) k
    unfolding enter_within enter tell
    tell_enter true F f k h s x nm ms = refl
    tell_enter false F f k h s x nm ms =
        tell_then (each_within F ms (K.mark busy x s) false k) (each f ms (K.mark busy x s) false) k (λ s' b k'. told (finish K nm x s') true k') (λ s' b. ok (finish K nm x s') true)
        (tell_each F f k h ms (K.mark busy x s) false) (λ s' b. refl)

    tell_alias : (p was : Bool) (s : St) (x k : ℕ) → alias_within K p was s x k ≡ tell (alias K p was s x) k
    unfolding alias_within alias tell
    tell_alias true was s x k = refl
    tell_alias false was s x k = refl

    module _ (T : Table) (Rec : St → ℕ → Bool → ℕ → Told St) (rec : St → ℕ → Bool → Res St) (k : ℕ) (h : (s : St) (y : ℕ) (w : Bool) → Rec s y w k ≡ tell (rec s y w) k) (s : St) (x : ℕ) (weak : Bool) where
      tell_fresh : (nd : Node) → fresh_within K T Rec s x weak nd k ≡ tell (fresh K T rec s x weak nd) k
      unfolding fresh_within fresh tell
      tell_fresh ignored = refl
      tell_fresh plain = refl
      tell_fresh (listed f) = refl
      tell_fresh (through a t) = h s t (not (a && T.strong_arrays) && weak)
      tell_fresh (ptr t) = tell_then (Rec s t true k) (rec s t true) k (λ s' b k'. told (finish K false x s') b k') (λ s' b. ok (finish K false x s') b) (h s t true) (λ s' b. refl)
      tell_fresh (tdef t) =
          tell_then (Rec s t weak k) (rec s t weak) k (λ s' b k'. alias_within K (not weak || b) (is_done (K.get s' x)) s' x k') (λ s' b. alias K (not weak || b) (is_done (K.get s' x)) s' x) (h s t weak)
          (λ s' b. tell_alias (not weak || b) (is_done (K.get s' x)) s' x k)
      tell_fresh (proto ts) = tell_each (λ s' y k'. Rec s' y weak k') (λ s' y. rec s' y weak) k (λ s' y. h s' y weak) ts s false
      tell_fresh (comp ms) = tell_enter (weak && T.named x) (λ s' y k'. Rec s' y false k') (λ s' y. rec s' y false) k (λ s' y. h s' y false) s x (T.named x) ms

      pub tell_visit : (m : Mark) → visit_within K T Rec s x weak m k ≡ tell (visit K T rec s x weak m) k
      unfolding visit_within visit tell
      tell_visit new = tell_fresh (T.node x)
      tell_visit busy = tell_meet (is_comp (T.node x) && (weak && T.named x)) s k
      tell_visit done = refl

    -- never 22, and the count stays
    pub unbounded_is : (n : ℕ) (T : Table) (s : St) (x : ℕ) (weak : Bool) (k : ℕ) → order_within K unbounded n T s x weak k ≡ tell (order K n T s x weak) k
    unfolding order_within allows one_call order tell
    unbounded_is zero T s x weak k = refl
    unbounded_is (suc n) T s x weak k =
        tell_visit T (λ s' y w k'. order_within K unbounded n T s' y w k') (λ s' y w. order K n T s' y w) k (λ s' y w. unbounded_is n T s' y w k) s x weak (K.get s x)
