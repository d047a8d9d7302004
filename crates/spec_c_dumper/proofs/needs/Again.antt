-- An id that an accepted request asked for is settled, and a request for it adds nothing: of the machine of lists, over any lines, for every
-- table that opening lets pass and every list of requests. Assumes nothing.
use Prim.Native.Nat.{ℕ, zero, suc, ◌-◌, ◌<◌}
use native.Mathlib.Decide.{ℕ_discrete}
use mathlib.Core.Path.{◌≡◌, refl, sym, ◌∙◌, ap, subst}
use mathlib.Core.Bool.{Bool, true, false, not, ◌&&◌, ◌||◌, and-false}
use mathlib.Core.List.Memᴰ
use mathlib.Core.List.{List, [], ◌∷◌, ◌++◌, Memᴰ}
use mathlib.Core.Logic.{◌⊎◌, inl, inr, ◌≢◌}
use lib.ListN.{length, get_or, set, length-set, length-replicate}
use lib.Seq.{get_or-set_same, get_or-set_other}
use lib.Dec.{ltb, eqb}
use borrow.Author.Tests.{lt-ltb, ltb-true}
use Rattle.spec_c_dumper.specs.rules.Order.{Node, ignored, plain, listed, through, ptr, tdef, proto, comp, Table, is_comp, Mark, new, busy, done, is_done, Store, Res, ok, refused, bind, each, meet, push_if, finish, enter, alias, fresh, visit, order}
use Rattle.spec_c_dumper.specs.rules.Machine.{Out, wrote, stuck, Machine, is_zero, pick, obind, eeach, once, mention, again, close, leaf, within, begin, allowed, look, emit, Sess, Answer, Req, one, all, shut, emitted, ordered, ordering, gate, single, onward, from, every, serve, run}
use Rattle.spec_c_dumper.specs.needs.Needs.{kids, WF}
use Rattle.spec_c_dumper.specs.needs.Lists.{Piece, defines, other, Line, says, cannot, Lines, Ls, put_line, list_store, list_machine, afresh}

-- ---- marks
abbrev at : List Mark → ℕ → Mark
at m x = get_or m x new

-- as many as before, and each stays, or goes from new to done
record Grown (m m' : List Mark) : Type 0 where
  long : length m' ≡ length m
  grew : (d : ℕ) → (at m' d ≡ at m d) ⊎ ((at m d ≡ new) × (at m' d ≡ done))

grown_refl : (m : List Mark) → Grown m m
grown_refl m = record { long = refl; grew = λ d. inl refl }

grown_trans : (a b c : List Mark) → Grown a b → Grown b c → Grown a c
grown_trans a b c f g = record { long = g.long ∙ f.long; grew = λ d. go d (f.grew d) (g.grew d) }
  where
    go : (d : ℕ) → (at b d ≡ at a d) ⊎ ((at a d ≡ new) × (at b d ≡ done)) → (at c d ≡ at b d) ⊎ ((at b d ≡ new) × (at c d ≡ done)) → (at c d ≡ at a d) ⊎ ((at a d ≡ new) × (at c d ≡ done))
    go d (inl e) (inl h) = inl (h ∙ e)
    go d (inl e) (inr h) = inr (sym e ∙ h.0, h.1)
    go d (inr e) (inl h) = inr (e.0, h ∙ e.1)
    go d (inr e) (inr h) = inr (e.0, h.1)

-- an id that was new
new_still : (m m' : List Mark) → Grown m m' → (x : ℕ) → at m x ≡ new → (at m' x ≡ new) ⊎ (at m' x ≡ done)
new_still m m' g x e = go (g.grew x)
  where
    go : (at m' x ≡ at m x) ⊎ ((at m x ≡ new) × (at m' x ≡ done)) → (at m' x ≡ new) ⊎ (at m' x ≡ done)
    go (inl q) = inl (q ∙ e)
    go (inr q) = inr q.1

module _ (x : ℕ) (m : List Mark) (l : x < length m) where
  set_is : at (set m x done) x ≡ done
  set_is = get_or-set_same m x done new l

  -- x, new or done, is done
  grown_set : (at m x ≡ new) ⊎ (at m x ≡ done) → Grown m (set m x done)
  grown_set w = record { long = length-set m x done; grew = λ d. go d (ℕ_discrete d x) }
    where
      at_x : (at m x ≡ new) ⊎ (at m x ≡ done) → (at (set m x done) x ≡ at m x) ⊎ ((at m x ≡ new) × (at (set m x done) x ≡ done))
      at_x (inl e) = inr (e, set_is)
      at_x (inr e) = inl (set_is ∙ sym e)

      go : (d : ℕ) → Dec (d ≡ x) → (at (set m x done) d ≡ at m d) ⊎ ((at m d ≡ new) × (at (set m x done) d ≡ done))
      go d (yes q) = subst (λ (k : ℕ). (at (set m x done) k ≡ at m k) ⊎ ((at m k ≡ new) × (at (set m x done) k ≡ done))) (sym q) (at_x w)
      go d (no q) = inl (get_or-set_other m x d done new q)

  -- x, new, was made busy, what followed grew it to m', and it is done
  grown_around : (m' : List Mark) → at m x ≡ new → Grown (set m x busy) m' → Grown m (set m' x done)
  grown_around m' e g = record { long = length-set m' x done ∙ g.long ∙ length-set m x busy; grew = λ d. go d (ℕ_discrete d x) }
    where
      wide : x < length m'
      wide = subst (λ (k : ℕ). x < k) (sym (g.long ∙ length-set m x busy)) l

      off : (d : ℕ) → d ≢ x → (at m' d ≡ at (set m x busy) d) ⊎ ((at (set m x busy) d ≡ new) × (at m' d ≡ done)) → (at (set m' x done) d ≡ at m d) ⊎ ((at m d ≡ new) × (at (set m' x done) d ≡ done))
      off d q (inl a) = inl (get_or-set_other m' x d done new q ∙ a ∙ get_or-set_other m x d busy new q)
      off d q (inr a) = inr (sym (get_or-set_other m x d busy new q) ∙ a.0, get_or-set_other m' x d done new q ∙ a.1)

      go : (d : ℕ) → Dec (d ≡ x) → (at (set m' x done) d ≡ at m d) ⊎ ((at m d ≡ new) × (at (set m' x done) d ≡ done))
      go d (yes q) = subst (λ (k : ℕ). (at (set m' x done) k ≡ at m k) ⊎ ((at m k ≡ new) × (at (set m' x done) k ≡ done))) (sym q) (inr (e, get_or-set_same m' x done new wide))
      go d (no q) = off d q (g.grew d)

-- ---- what is settled: within n calls ordering finds it done, or ignored, past all that keeps no mark
data Settled (T : Table) (m : List Mark) : ℕ → ℕ → Type 0 where
  is_done_lem : (n x : ℕ) → at m x ≡ done → Settled T m (suc n) x
  is_ignored : (n x : ℕ) → at m x ≡ new → T.node x ≡ ignored → Settled T m (suc n) x
  is_through : (n x : ℕ) (a : Bool) (t : ℕ) → at m x ≡ new → T.node x ≡ through a t → Settled T m n t → Settled T m (suc n) x
  is_proto : (n x : ℕ) (ts : List ℕ) → at m x ≡ new → T.node x ≡ proto ts → ((y : ℕ) → Memᴰ y ts → Settled T m n y) → Settled T m (suc n) x

-- it stays so
settled_grows : (T : Table) (m m' : List Mark) → Grown m m' → (n x : ℕ) → Settled T m n x → Settled T m' n x
settled_grows T m m' g _ _ (is_done_lem n x e) = go (g.grew x)
  where
    go : (at m' x ≡ at m x) ⊎ ((at m x ≡ new) × (at m' x ≡ done)) → Settled T m' (suc n) x
    go (inl q) = is_done_lem n x (q ∙ e)
    go (inr q) = is_done_lem n x q.1
settled_grows T m m' g _ _ (is_ignored n x e k) = go (new_still m m' g x e)
  where
    go : (at m' x ≡ new) ⊎ (at m' x ≡ done) → Settled T m' (suc n) x
    go (inl q) = is_ignored n x q k
    go (inr q) = is_done_lem n x q
settled_grows T m m' g _ _ (is_through n x a t e k h) = go (settled_grows T m m' g n t h) (new_still m m' g x e)
  where
    go : Settled T m' n t → (at m' x ≡ new) ⊎ (at m' x ≡ done) → Settled T m' (suc n) x
    go h' (inl q) = is_through n x a t q k h'
    go h' (inr q) = is_done_lem n x q
settled_grows T m m' g _ _ (is_proto n x ts e k h) = go (λ y i. settled_grows T m m' g n y (h y i)) (new_still m m' g x e)
  where
    go : ((y : ℕ) → Memᴰ y ts → Settled T m' n y) → (at m' x ≡ new) ⊎ (at m' x ≡ done) → Settled T m' (suc n) x
    go h' (inl q) = is_proto n x ts q k h'
    go h' (inr q) = is_done_lem n x q

abbrev Wide : Table → List Mark → Type 0
Wide T m = length m ≡ T.count

module _ {U : Type 0} (T : Table) where
  abbrev K : Store (Ls U)
  K = list_store

  -- ---- ordering a settled id changes nothing
  each_quiet : (n : ℕ) (s : Ls U) (ts : List ℕ) → ((y : ℕ) → Memᴰ y ts → (b : Bool) × (order K n T s y false ≡ ok s b)) → (b : Bool) → (b' : Bool) × (each (λ s' y. order K n T s' y false) ts s b ≡ ok s b')
  unfolding each bind
  each_quiet n s [] f b = (b, refl)
  each_quiet n s (y ∷ ys) f b =
      let q = f y (Memᴰ.head refl) in
      let r = each_quiet n s ys (λ z i. f z (Memᴰ.tail i)) (b || q.0) in
      (r.0, ap (λ (z : Res (Ls U)). bind z (λ s' b'. each (λ s'' y'. order K n T s'' y' false) ys s' (b || b'))) q.1 ∙ r.1)

  quiet : (s : Ls U) (n x : ℕ) → Settled T s.marks n x → (b : Bool) × (order K n T s x false ≡ ok s b)
  unfolding order visit fresh
  quiet s _ _ (is_done_lem n x e) = (true, ap (visit K T (λ s' y w. order K n T s' y w) s x false) e)
  quiet s _ _ (is_ignored n x e k) = (false, ap (visit K T (λ s' y w. order K n T s' y w) s x false) e ∙ ap (fresh K T (λ s' y w. order K n T s' y w) s x false) k)
  quiet s _ _ (is_through n x a t e k h) =
      let q = quiet s n t h in (
        q.0,
        ap (visit K T (λ s' y w. order K n T s' y w) s x false) e ∙ ap (fresh K T (λ s' y w. order K n T s' y w) s x false) k
            ∙ ap (order K n T s t) (and-false (not (a && T.strong_arrays))) ∙ q.1,
      )
  quiet s _ _ (is_proto n x ts e k h) =
      let q = each_quiet n s ts (λ y i. quiet s n y (h y i)) false in
      (q.0, ap (visit K T (λ s' y w. order K n T s' y w) s x false) e ∙ ap (fresh K T (λ s' y w. order K n T s' y w) s x false) k ∙ q.1)

  -- ---- what ordering leaves, where it is not refused
  data Left (Q : List Mark → Type 0) : Res (Ls U) → Type 0 where
    leaves : (s : Ls U) (b : Bool) → Q s.marks → Left Q (ok s b)
    halts : (e : ℕ) → Left Q (refused e)

  left_bind : {Q Q' : List Mark → Type 0} (r : Res (Ls U)) (k : Ls U → Bool → Res (Ls U)) → Left Q r → ((s : Ls U) (b : Bool) → Q s.marks → Left Q' (k s b)) → Left Q' (bind r k)
  unfolding bind
  left_bind _ k (leaves s b q) f = f s b q
  left_bind _ k (halts e) f = halts e

  left_map : {Q Q' : List Mark → Type 0} → ((m : List Mark) → Q m → Q' m) → (r : Res (Ls U)) → Left Q r → Left Q' r
  left_map f _ (leaves s b q) = leaves s b (f s.marks q)
  left_map f _ (halts e) = halts e

  pushed : (p : Bool) (x : ℕ) (s : Ls U) → (push_if K p x s).marks ≡ s.marks
  unfolding push_if
  pushed true x s = refl
  pushed false x s = refl

  finished : (p : Bool) (x : ℕ) (s : Ls U) → (finish K p x s).marks ≡ set s.marks x done
  finished p x s = ap (λ (m : List Mark). set m x done) (pushed p x s)

  module _ (wf : WF T) where
    abbrev Grows : (Ls U → ℕ → Bool → Res (Ls U)) → Type 0
    Grows rec = (s : Ls U) (x : ℕ) (weak : Bool) → Wide T s.marks → x < T.count → Left (Grown s.marks) (rec s x weak)

    module _ (rec : Ls U → ℕ → Bool → Res (Ls U)) (grows : Grows rec) where
      each_grows : (ys : List ℕ) (s : Ls U) (b weak : Bool) → Wide T s.marks → ((y : ℕ) → Memᴰ y ys → y < T.count) → Left (Grown s.marks) (each (λ s' y. rec s' y weak) ys s b)
      unfolding each
      each_grows [] s b weak w l = leaves s b (grown_refl s.marks)
      each_grows (y ∷ ys) s b weak w l =
          left_bind (rec s y weak) (λ s' b'. each (λ s'' y'. rec s'' y' weak) ys s' (b || b')) (grows s y weak w (l y (Memᴰ.head refl))) (λ s' b' g.
          left_map (λ m g'. grown_trans s.marks s'.marks m g g') (each (λ s'' y'. rec s'' y' weak) ys s' (b || b')) (each_grows ys s' (b || b') weak (g.long ∙ w) (λ z i. l z (Memᴰ.tail i))))

      module _ (s : Ls U) (x : ℕ) (w : Wide T s.marks) (l : x < T.count) where
        below : (nd : Node) → T.node x ≡ nd → (y : ℕ) → Memᴰ y (kids nd) → y < T.count
        below nd e y i = wf.below x y (subst (λ (k : Node). Memᴰ y (kids k)) (sym e) i)

        -- x, new, is finished after a growth
        ended : at s.marks x ≡ new → (s' : Ls U) (p b : Bool) → Grown s.marks s'.marks → Left (λ m. Grown s.marks m × (at m x ≡ done)) (ok (finish K p x s') b)
        ended e s' p b g =
            let wide : x < length s'.marks = subst (λ (k : ℕ). x < k) (sym (g.long ∙ w)) l in
            leaves (finish K p x s') b (subst (λ (m : List Mark). Grown s.marks m × (at m x ≡ done)) (sym (finished p x s'))
            (grown_trans s.marks s'.marks (set s'.marks x done) g (grown_set x s'.marks wide (new_still s.marks s'.marks g x e)), set_is x s'.marks wide))

        -- a composite, new, is gone into
        gone : at s.marks x ≡ new → (nm : Bool) (ms : List ℕ) → T.node x ≡ comp ms → Left (λ m. Grown s.marks m × (at m x ≡ done)) (enter K false (λ s' y. rec s' y false) s x nm ms)
        unfolding enter
        gone e nm ms k =
            let wide : x < length s.marks = subst (λ (j : ℕ). x < j) (sym w) l in
            left_bind (each (λ s' y. rec s' y false) ms (K.mark busy x s) false) (λ s' b. ok (finish K nm x s') true)
            (each_grows ms (K.mark busy x s) false false (length-set s.marks x busy ∙ w) (below (comp ms) k)) (λ s' b g.
            let wide' : x < length s'.marks = subst (λ (j : ℕ). x < j) (sym (g.long ∙ length-set s.marks x busy)) wide in
            leaves (finish K nm x s') true (subst (λ (m : List Mark). Grown s.marks m × (at m x ≡ done)) (sym (finished nm x s'))
            (grown_around x s.marks wide s'.marks e g, set_is x s'.marks wide')))

        entered : at s.marks x ≡ new → (p nm : Bool) (ms : List ℕ) → T.node x ≡ comp ms → Left (Grown s.marks) (enter K p (λ s' y. rec s' y false) s x nm ms)
        unfolding enter
        entered e true nm ms k = leaves s false (grown_refl s.marks)
        entered e false nm ms k = left_map (λ m g. g.0) (enter K false (λ s' y. rec s' y false) s x nm ms) (gone e nm ms k)

        aliased : at s.marks x ≡ new → (p was : Bool) (s' : Ls U) → Grown s.marks s'.marks → Left (Grown s.marks) (alias K p was s' x)
        unfolding alias
        aliased e true was s' g = left_map (λ m h. h.0) (ok (finish K (not was) x s') true) (ended e s' (not was) true g)
        aliased e false was s' g = leaves s' false g

        fresh_grows : (weak : Bool) (nd : Node) → T.node x ≡ nd → at s.marks x ≡ new → Left (Grown s.marks) (fresh K T rec s x weak nd)
        unfolding fresh
        fresh_grows weak ignored k e = leaves s false (grown_refl s.marks)
        fresh_grows weak plain k e = left_map (λ m h. h.0) (ok (finish K false x s) false) (ended e s false false (grown_refl s.marks))
        fresh_grows weak (listed f) k e = left_map (λ m h. h.0) (ok (finish K (T.named x) x s) true) (ended e s (T.named x) true (grown_refl s.marks))
        fresh_grows weak (through a t) k e = grows s t (not (a && T.strong_arrays) && weak) w (below (through a t) k t (Memᴰ.head refl))
        fresh_grows weak (ptr t) k e =
            left_bind (rec s t true) (λ s' b. ok (finish K false x s') b) (grows s t true w (below (ptr t) k t (Memᴰ.head refl)))
            (λ s' b g. left_map (λ m h. h.0) (ok (finish K false x s') b) (ended e s' false b g))
        fresh_grows weak (tdef t) k e =
            left_bind (rec s t weak) (λ s' b. alias K (not weak || b) (is_done (K.get s' x)) s' x) (grows s t weak w (below (tdef t) k t (Memᴰ.head refl)))
            (λ s' b g. aliased e (not weak || b) (is_done (K.get s' x)) s' g)
        fresh_grows weak (proto ts) k e = each_grows ts s false weak w (below (proto ts) k)
        fresh_grows weak (comp ms) k e = entered e (weak && T.named x) (T.named x) ms k

        meets : (p : Bool) → Left (Grown s.marks) (meet p s)
        unfolding meet
        meets true = leaves s false (grown_refl s.marks)
        meets false = halts 13

        visit_grows : (weak : Bool) (m : Mark) → at s.marks x ≡ m → Left (Grown s.marks) (visit K T rec s x weak m)
        unfolding visit
        visit_grows weak new e = fresh_grows weak (T.node x) refl e
        visit_grows weak busy e = meets (is_comp (T.node x) && (weak && T.named x))
        visit_grows weak done e = leaves s true (grown_refl s.marks)

    order_grows : (n : ℕ) → Grows (order K n T)
    unfolding order
    order_grows zero s x weak w l = halts 12
    order_grows (suc n) s x weak w l = visit_grows (λ s' y k. order K n T s' y k) (λ s' y k. order_grows n s' y k) s x w l weak (K.get s x) refl

    -- ---- ordering an id from a strong start settles it
    abbrev Settles : ℕ → (Ls U → ℕ → Bool → Res (Ls U)) → Type 0
    Settles n rec = (s : Ls U) (x : ℕ) → Wide T s.marks → x < T.count → Left (λ m. Grown s.marks m × Settled T m n x) (rec s x false)

    module _ (n : ℕ) (rec : Ls U → ℕ → Bool → Res (Ls U)) (grows : Grows rec) (settles : Settles n rec) where
      each_settles : (ys : List ℕ) (s : Ls U) (b : Bool) → Wide T s.marks → ((y : ℕ) → Memᴰ y ys → y < T.count)
          → Left (λ m. Grown s.marks m × ((y : ℕ) → Memᴰ y ys → Settled T m n y)) (each (λ s' y. rec s' y false) ys s b)
      unfolding each
      each_settles [] s b w l = leaves s b (grown_refl s.marks, λ y i. absurd (Memᴰ.not-nil i))
      each_settles (y ∷ ys) s b w l =
          left_bind (rec s y false) (λ s' b'. each (λ s'' y'. rec s'' y' false) ys s' (b || b')) (settles s y w (l y (Memᴰ.head refl))) (λ s' b' g.
          left_map (λ m h. (grown_trans s.marks s'.marks m g.0 h.0, λ z i. either s' m g.1 h.0 h.1 z (Memᴰ.cases_cons i)))
          (each (λ s'' y'. rec s'' y' false) ys s' (b || b')) (each_settles ys s' (b || b') (g.0.long ∙ w) (λ z i. l z (Memᴰ.tail i))))
        where
          either : (s' : Ls U) (m : List Mark) → Settled T s'.marks n y → Grown s'.marks m → ((z : ℕ) → Memᴰ z ys → Settled T m n z) → (z : ℕ) → (z ≡ y) ⊎ Memᴰ z ys → Settled T m n z
          either s' m first g rest z (inl q) = subst (Settled T m n) (sym q) (settled_grows T s'.marks m g n y first)
          either s' m first g rest z (inr i) = rest z i

      module _ (s : Ls U) (x : ℕ) (w : Wide T s.marks) (l : x < T.count) where
        abbrev Stands : List Mark → Type 0
        Stands m = Grown s.marks m × Settled T m (suc n) x

        by_done : (r : Res (Ls U)) → Left (λ m. Grown s.marks m × (at m x ≡ done)) r → Left Stands r
        by_done r = left_map (λ m h. (h.0, is_done_lem n x h.1)) r

        past : (m : List Mark) → Grown s.marks m → at s.marks x ≡ new → (at m x ≡ new → Settled T m (suc n) x) → Stands m
        past m g e f = (g, go (new_still s.marks m g x e))
          where
            go : (at m x ≡ new) ⊎ (at m x ≡ done) → Settled T m (suc n) x
            go (inl q) = f q
            go (inr q) = is_done_lem n x q

        fresh_settles : (nd : Node) → T.node x ≡ nd → at s.marks x ≡ new → Left Stands (fresh K T rec s x false nd)
        unfolding fresh alias
        fresh_settles ignored k e = leaves s false (grown_refl s.marks, is_ignored n x e k)
        fresh_settles plain k e = by_done (ok (finish K false x s) false) (ended rec grows s x w l e s false false (grown_refl s.marks))
        fresh_settles (listed f) k e = by_done (ok (finish K (T.named x) x s) true) (ended rec grows s x w l e s (T.named x) true (grown_refl s.marks))
        fresh_settles (through a t) k e =
            subst (λ (weak : Bool). Left Stands (rec s t weak)) (sym (and-false (not (a && T.strong_arrays))))
            (left_map (λ m h. past m h.0 e (λ q. is_through n x a t q k h.1)) (rec s t false) (settles s t w (below rec grows s x w l (through a t) k t (Memᴰ.head refl))))
        fresh_settles (ptr t) k e =
            left_bind (rec s t true) (λ s' b. ok (finish K false x s') b) (grows s t true w (below rec grows s x w l (ptr t) k t (Memᴰ.head refl)))
            (λ s' b g. by_done (ok (finish K false x s') b) (ended rec grows s x w l e s' false b g))
        fresh_settles (tdef t) k e =
            left_bind (rec s t false) (λ s' b. alias K (not false || b) (is_done (K.get s' x)) s' x) (grows s t false w (below rec grows s x w l (tdef t) k t (Memᴰ.head refl)))
            (λ s' b g. by_done (ok (finish K (not (is_done (K.get s' x))) x s') true) (ended rec grows s x w l e s' (not (is_done (K.get s' x))) true g))
        fresh_settles (proto ts) k e =
            left_map (λ m h. past m h.0 e (λ q. is_proto n x ts q k h.1)) (each (λ s' y. rec s' y false) ts s false) (each_settles ts s false w (below rec grows s x w l (proto ts) k))
        fresh_settles (comp ms) k e = by_done (enter K false (λ s' y. rec s' y false) s x (T.named x) ms) (gone rec grows s x w l e (T.named x) ms k)

        meet_halts : (c : Bool) → Left Stands (meet (c && (false && T.named x)) s)
        unfolding meet
        meet_halts true = halts 13
        meet_halts false = halts 13

        visit_settles : (m : Mark) → at s.marks x ≡ m → Left Stands (visit K T rec s x false m)
        unfolding visit
        visit_settles new e = fresh_settles (T.node x) refl e
        visit_settles busy e = meet_halts (is_comp (T.node x))
        visit_settles done e = leaves s true (grown_refl s.marks, is_done_lem n x e)

    order_settles : (n : ℕ) → Settles n (order K n T)
    unfolding order
    order_settles zero s x w l = halts 12
    order_settles (suc n) s x w l = visit_settles n (λ s' y k. order K n T s' y k) (λ s' y k. order_grows n s' y k) (λ s' y. order_settles n s' y) s x w l (K.get s x) refl

-- ---- emission leaves the marks
module _ {U H : Type 0} (L : Lines U H) (T : Table) (ms : List Mark) where
  abbrev X : Machine (Ls U) H
  X = list_machine L

  data Keeps : Out (Ls U) H → Type 0 where
    keeps : (s : Ls U) → s.marks ≡ ms → Keeps (wrote s)
    stays : {h : H} (e : ℕ) → Keeps (stuck h e)

  kept_bind : (r : Out (Ls U) H) (k : Ls U → Out (Ls U) H) → Keeps r → ((s : Ls U) → s.marks ≡ ms → Keeps (k s)) → Keeps (obind r k)
  unfolding obind
  kept_bind _ k (keeps s e) f = f s e
  kept_bind _ k (stays c) f = stays c

  kept_each : (f : Ls U → ℕ → Out (Ls U) H) → ((s : Ls U) (x : ℕ) → s.marks ≡ ms → Keeps (f s x)) → (xs : List ℕ) (s : Ls U) → s.marks ≡ ms → Keeps (eeach f xs s)
  unfolding eeach
  kept_each f h [] s e = keeps s e
  kept_each f h (y ∷ ys) s e = kept_bind (f s y) (eeach f ys) (h s y e) (λ s' e'. kept_each f h ys s' e')

  kept_line : (mk : List ℕ → Piece) (s : Ls U) → s.marks ≡ ms → (q : Line U H) → Keeps (put_line mk s q)
  kept_line mk s e (says u t) = keeps _ e
  kept_line mk s e (cannot h c) = stays c

  kept_once : (w : Ls U → ℕ → Out (Ls U) H) (x : ℕ) (b : Bool) (s : Ls U) → s.marks ≡ ms → Keeps (w s x) → Keeps (once X T w x b s)
  unfolding once
  kept_once w x true s e h = keeps s e
  kept_once w x false s e h = kept_bind (w s x) (λ s'. wrote (X.forwarded x s')) h (λ s' e'. keeps _ e')

  kept_forward : (s : Ls U) (x : ℕ) → s.marks ≡ ms → Keeps (X.fwd_line s x)
  kept_forward s x e = kept_line other s e (L.fwd s.room s.known x)

  kept_alias : (s : Ls U) (x : ℕ) → s.marks ≡ ms → Keeps (X.alias_line s x)
  kept_alias s x e = kept_line other s e (L.alias' s.room s.known x)

  kept_mention : (a nm : Bool) (x : ℕ) (s : Ls U) → s.marks ≡ ms → Keeps (mention X T a nm x s)
  unfolding mention
  kept_mention true nm x s e = keeps s e
  kept_mention false true x s e = kept_once X.fwd_line x false s e (kept_forward s x e)
  kept_mention false false x s e = stays 13

  kept_again : (s : Ls U) (x cont : ℕ) (nd : Node) → s.marks ≡ ms → Keeps (again X T s x cont nd)
  unfolding again
  kept_again s x cont ignored e = keeps s e
  kept_again s x cont plain e = keeps s e
  kept_again s x cont (listed f) e = keeps s e
  kept_again s x cont (through a t) e = keeps s e
  kept_again s x cont (ptr t) e = keeps s e
  kept_again s x cont (tdef t) e = kept_once X.alias_line x (X.has_fwd s x) s e (kept_alias s x e)
  kept_again s x cont (proto ts) e = keeps s e
  kept_again s x cont (comp cs) e = kept_mention (X.has_fwd s x || eqb x cont) (T.named x) x s e

  kept_close : (top : Bool) (x : ℕ) (s : Ls U) → s.marks ≡ ms → Keeps (close X T top x s)
  unfolding close
  kept_close true x s e = kept_bind (X.body s x) (λ s'. wrote (X.emark done x s')) (kept_line (defines x) s e (L.body' s.room s.known x)) (λ s' e'. keeps _ e')
  kept_close false x s e = keeps _ e

  kept_leaf : (top : Bool) (x : ℕ) (s : Ls U) → s.marks ≡ ms → Keeps (leaf X T top x s)
  unfolding leaf
  kept_leaf true x s e = kept_bind (X.leaf_line s x) (λ s'. wrote (X.emark done x s')) (kept_line other s e (L.leaf' s.room s.known x)) (λ s' e'. keeps _ e')
  kept_leaf false x s e = keeps _ e

  module _ (rec : Ls U → ℕ → ℕ → Out (Ls U) H) (h : (s : Ls U) (x cont : ℕ) → s.marks ≡ ms → Keeps (rec s x cont)) (s : Ls U) (e : s.marks ≡ ms) (x cont : ℕ) where
    kept_within : (a nm : Bool) (cs : List ℕ) → Keeps (within X T rec s x cont a nm cs)
    unfolding within
    kept_within true nm cs = kept_each (λ s' y. rec s' y (pick nm x cont)) (λ s' y e'. h s' y (pick nm x cont) e') cs (X.emark busy x s) e
    kept_within false nm cs = kept_once X.fwd_line x (X.has_fwd s x || eqb x cont) (X.emark busy x s) e (kept_forward (X.emark busy x s) x e)

    kept_begin : (top : Bool) (nd : Node) → Keeps (begin X T rec s x cont top nd)
    unfolding begin
    kept_begin top ignored = keeps s e
    kept_begin top plain = keeps s e
    kept_begin top (listed f) = kept_leaf (f || top) x s e
    kept_begin top (through a t) = h s t cont e
    kept_begin top (ptr t) = h s t cont e
    kept_begin top (tdef t) =
        kept_bind (rec (X.emark busy x s) t x) (λ s'. obind (once X T X.alias_line x (X.has_fwd s' x) s') (λ s''. wrote (X.emark done x s''))) (h (X.emark busy x s) t x e)
        (λ s' e'. kept_bind (once X T X.alias_line x (X.has_fwd s' x) s') (λ s''. wrote (X.emark done x s'')) (kept_once X.alias_line x (X.has_fwd s' x) s' e' (kept_alias s' x e')) (λ s'' e''. keeps _ e''))
    kept_begin top (proto ts) = kept_each (λ s' y. rec s' y cont) (λ s' y e'. h s' y cont e') ts s e
    kept_begin top (comp cs) = kept_bind (within X T rec s x cont (top || not (T.named x)) (T.named x) cs) (close X T top x) (kept_within (top || not (T.named x)) (T.named x) cs) (λ s' e'. kept_close top x s' e')

    kept_allowed : (a : Bool) → Keeps (allowed X T rec s x cont a)
    unfolding allowed
    kept_allowed true = stays 14
    kept_allowed false = kept_begin (is_zero cont) (T.node x)

    kept_look : (m : Mark) → Keeps (look X T rec s x cont m)
    unfolding look
    kept_look new = kept_allowed (is_zero cont && not (T.named x))
    kept_look busy = kept_again s x cont (T.node x) e
    kept_look done = keeps s e

  kept_emit : (n : ℕ) (s : Ls U) (x cont : ℕ) → s.marks ≡ ms → Keeps (emit X T n s x cont)
  unfolding emit
  kept_emit zero s x cont e = stays 12
  kept_emit (suc n) s x cont e = kept_look (λ s' y c. emit X T n s' y c) (λ s' y c e'. kept_emit n s' y c e') s e x cont (X.eget s x)

-- ---- a session: what was asked for and accepted is settled
module _ {U H : Type 0} (L : Lines U H) (T : Table) (wf : WF T) where
  record Inv (S : Sess (Ls U)) : Type 0 where
    wide : length S.mach.marks ≡ T.count
    below : (x : ℕ) → Memᴰ x S.asked → x < T.count
    settled : (x : ℕ) → Memᴰ x S.asked → Settled T S.mach.marks 512 x

  abbrev Y : Machine (Ls U) H
  Y = list_machine L

  shut_inv : (S : Sess (Ls U)) (h : H) (e : ℕ) → Inv S → Inv (shut Y T S h e).sess
  unfolding shut
  shut_inv S h e i = record { wide = i.wide; below = i.below; settled = i.settled }

  emitted_inv : (S : Sess (Ls U)) (x : ℕ) → Inv S → x < T.count → (m : List Mark) → Grown S.mach.marks m → Settled T m 512 x → (r : Out (Ls U) H) → Keeps L T m r → Inv (emitted Y T S x r).sess
  unfolding emitted
  emitted_inv S x i l m g h _ (keeps s e) = record {
    wide = ap length e ∙ g.long ∙ i.wide;
    below = λ y k. under y (Memᴰ.append_cases S.asked k);
    settled = λ y k. subst (λ (q : List Mark). Settled T q 512 y) (sym e) (stands y (Memᴰ.append_cases S.asked k));
  }
    where
      under : (y : ℕ) → Memᴰ y S.asked ⊎ Memᴰ y (x ∷ []) → y < T.count
      under y (inl k) = i.below y k
      under y (inr k) = subst (λ (z : ℕ). z < T.count) (sym (Memᴰ.eq_of_singleton k)) l

      stands : (y : ℕ) → Memᴰ y S.asked ⊎ Memᴰ y (x ∷ []) → Settled T m 512 y
      stands y (inl k) = settled_grows T S.mach.marks m g 512 y (i.settled y k)
      stands y (inr k) = subst (λ (z : ℕ). Settled T m 512 z) (sym (Memᴰ.eq_of_singleton k)) h
  emitted_inv S x i l m g h _ (stays e) = shut_inv S _ e i

  ordered_inv : (S : Sess (Ls U)) (x : ℕ) → Inv S → x < T.count → (r : Res (Ls U)) → Left T (λ m. Grown S.mach.marks m × Settled T m 512 x) r → Inv (ordered Y T S x r).sess
  unfolding ordered
  ordered_inv S x i l _ (leaves s b h) =
      emitted_inv S x i l s.marks h.0 h.1 (eeach (λ m y. emit Y T 512 m y 0) s.olist s)
      (kept_each L T s.marks (λ m y. emit Y T 512 m y 0) (λ m y e. kept_emit L T s.marks 512 m y 0 e) s.olist s refl)
  ordered_inv S x i l _ (halts e) = shut_inv S _ e i

  gate_inv : (room : ℕ) (S : Sess (Ls U)) (x : ℕ) → Inv S → (o b : Bool) → ltb x T.count ≡ b → Inv (gate Y T room S x o b).sess
  unfolding gate
  gate_inv room S x i false b f = i
  gate_inv room S x i true false f = i
  gate_inv room S x i true true f = ordered_inv S x i (ltb-true x T.count f) (ordering Y T room S x) (order_settles T wf 512 (Y.start room S.mach) x i.wide (ltb-true x T.count f))

  single_inv : (room : ℕ) (S : Sess (Ls U)) (x : ℕ) → Inv S → Inv (single Y T room S x).sess
  unfolding single
  single_inv room S x i = gate_inv room S x i S.is_open (ltb x T.count) refl

  onward_inv : (k : Sess (Ls U) → Answer (Ls U)) → ((S : Sess (Ls U)) → Inv S → Inv (k S).sess) → (a : Answer (Ls U)) → Inv a.sess → Inv (onward Y T k a).sess
  unfolding onward
  onward_inv k f a i = go a.number
    where
      go : (n : ℕ) → Inv (elim n as (λ m. Answer (Ls U)) [ zero ↦ k a.sess | suc m ↦ a ]).sess
      go zero = f a.sess i
      go (suc m) = i

  from_inv : (room n x : ℕ) (S : Sess (Ls U)) → Inv S → Inv (from Y T room n x S).sess
  unfolding from
  from_inv room zero x S i = i
  from_inv room (suc n) x S i = onward_inv (from Y T room n (suc x)) (λ S' i'. from_inv room n (suc x) S' i') (single Y T room S x) (single_inv room S x i)

  every_inv : (room : ℕ) (S : Sess (Ls U)) (b : Bool) → Inv S → Inv (every Y T room S b).sess
  unfolding every
  every_inv room S false i = i
  every_inv room S true i = from_inv room (T.count - 1) 1 S i

  serve_inv : (S : Sess (Ls U)) (r : Req) → Inv S → Inv (serve Y T S r)
  unfolding serve
  serve_inv S (one room x) i = single_inv room S x i
  serve_inv S (all room) i = every_inv room S S.is_open i

  run_inv : (rs : List Req) (S : Sess (Ls U)) → Inv S → Inv (run Y T rs S)
  unfolding run
  run_inv [] S i = i
  run_inv (r ∷ rs) S i = run_inv rs (serve Y T S r) (serve_inv S r i)

  opened_inv : (u : U) → Inv (record { is_open = true; mach = afresh T.count u; asked = [] })
  unfolding afresh
  opened_inv u = record { wide = length-replicate T.count new; below = λ x k. absurd (Memᴰ.not-nil k); settled = λ x k. absurd (Memᴰ.not-nil k) }

  repeated : (room : ℕ) (S : Sess (Ls U)) (x : ℕ) → Inv S → S.is_open ≡ true → Memᴰ x S.asked
      → single Y T room S x ≡ record { sess = record { is_open = true; mach = Y.start room S.mach; asked = S.asked ++ (x ∷ []) }; number = 0 }
  unfolding single gate ordered emitted eeach
  repeated room S x i o k =
      ap (λ (b : Bool). gate Y T room S x b (ltb x T.count)) o
      ∙ ap (gate Y T room S x true) (lt-ltb x T.count (i.below x k))
      ∙ ap (ordered Y T S x) (quiet T (Y.start room S.mach) 512 x (i.settled x k)).1

  -- THE THEOREM: after any requests, while the session is open, a request for an id that was accepted before is accepted, and writes nothing.
  pub asked_again : (u : U) (rs : List Req) (room x : ℕ) → (run Y T rs (record { is_open = true; mach = afresh T.count u; asked = [] })).is_open ≡ true
      → Memᴰ x (run Y T rs (record { is_open = true; mach = afresh T.count u; asked = [] })).asked
      → ((single Y T room (run Y T rs (record { is_open = true; mach = afresh T.count u; asked = [] })) x).number ≡ 0)
      × ((single Y T room (run Y T rs (record { is_open = true; mach = afresh T.count u; asked = [] })) x).sess.mach.pieces ≡ (run Y T rs (record { is_open = true; mach = afresh T.count u; asked = [] })).mach.pieces)
  asked_again u rs room x o k =
      let e = repeated room (run Y T rs (record { is_open = true; mach = afresh T.count u; asked = [] })) x (run_inv rs (record { is_open = true; mach = afresh T.count u; asked = [] }) (opened_inv u)) o k in
      (ap (λ (a : Answer (Ls U)). a.number) e, ap (λ (a : Answer (Ls U)). a.sess.mach.pieces) e)
