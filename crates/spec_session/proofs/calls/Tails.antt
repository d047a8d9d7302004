-- What stands in the text slice past the place is never read: a request on two slices that agree up to there comes to the same.
-- So it does not matter when what follows the text is zeroed. Assumes nothing.
use Prim.Native.Nat.{ℕ, zero, suc, zero-le, ◌+◌, ◌-◌, ◌≤◌}
use mathlib.Core.Path.{◌≡◌, refl, ap, ◌∙◌, sym, subst}
use mathlib.Core.Bool.{Bool, true, false, not, ◌&&◌, ◌||◌}
use mathlib.Core.List.{List, [], ◌∷◌, ◌++◌}
use mathlib.Core.Logic.{⊎_elim}
use native.Mathlib.Omega.{arith}
use lib.ListN.{length, take, drop, length-append}
use lib.Dec.{eqb}
use lib.Seq.{length-take-le, take_at}
use Rattle.std.proofs.lemmas.Bool.{cases_lt}
use Rattle.std.specs.Prelude.{Ok}
use Rattle.spec_bytes.specs.text.Text.{Text, whole, cut, bytes}
use Rattle.spec_bytes.specs.text.Placed.{stopped, put_text, place, written}
use Rattle.spec_bytes.proofs.text.TextLaws.{put_fits, put_none, place_length}
use Rattle.spec_c_dumper.specs.rules.Order.{Node, ignored, plain, listed, through, ptr, tdef, proto, comp, Table, is_comp, is_done, Mark, new, busy, done, Store, Res, ok, refused, bind, each, meet, push_if, finish, enter, alias, fresh, visit, order}
use Rattle.spec_c_dumper.specs.rules.Machine.{Out, wrote, stuck, Machine, is_zero, pick, obind, eeach, once, mention, again, close, leaf, within, begin, allowed, look, emit}
use Rattle.spec_c_dumper.specs.rules.Types.{Btf as Rules, table_of}
use Rattle.spec_c_dumper.specs.rules.Writer.{said_text, said_names, Writer}
use Rattle.spec_c_dumper.specs.rules.Place.{with_names, none_held}
use Rattle.spec_type_table.specs.declared.types.TypeTable.{TypeTable}
use Rattle.spec_session.proofs.emission.Laws.{line_is, slices}
use Rattle.spec_session.specs.emission.Slices.{Slices, slices_store, slices_of, line_in, work_machine}
use Rattle.spec_c_dumper.specs.rules.Request.{listed_out, dumped}

module _ {M : Type 0} (R : M → M → Type 0) where
  pub data Both {H : Type 0} : Out M H → Out M H → Type 0 where
    goes : (m m' : M) → R m m' → Both (wrote m) (wrote m')
    stops : {h h' : H} (c : ℕ) → Both (stuck h c) (stuck h' c)

  data BothRes : Res M → Res M → Type 0 where
    goes_on : (m m' : M) (b : Bool) → R m m' → BothRes (ok m b) (ok m' b)
    ends : (c : ℕ) → BothRes (refused c) (refused c)

  both_bind : (r r' : Res M) (k k' : M → Bool → Res M) → BothRes r r' → ((m m' : M) (b : Bool) → R m m' → BothRes (k m b) (k' m' b)) → BothRes (bind r k) (bind r' k')
  unfolding bind
  both_bind _ _ k k' (goes_on m m' b g) h = h m m' b g
  both_bind _ _ k k' (ends c) h = ends c

  both_each : (f : M → ℕ → Res M) → ((m m' : M) (x : ℕ) → R m m' → BothRes (f m x) (f m' x)) → (xs : List ℕ) (m m' : M) (b : Bool) → R m m' → BothRes (each f xs m b) (each f xs m' b)
  unfolding each
  both_each f h [] m m' b g = goes_on m m' b g
  both_each f h (y ∷ ys) m m' b g = both_bind (f m y) (f m' y) (λ s b'. each f ys s (b || b')) (λ s b'. each f ys s (b || b')) (h m m' y g) (λ s s' b' g'. both_each f h ys s s' (b || b') g')

  both_obind : {H : Type 0} (r r' : Out M H) (k k' : M → Out M H) → Both r r' → ((m m' : M) → R m m' → Both (k m) (k' m')) → Both (obind r k) (obind r' k')
  unfolding obind
  both_obind _ _ k k' (goes m m' g) h = h m m' g
  both_obind _ _ k k' (stops c) h = stops c

  both_eeach : {H : Type 0} (f : M → ℕ → Out M H) → ((m m' : M) (x : ℕ) → R m m' → Both (f m x) (f m' x)) → (xs : List ℕ) (m m' : M) → R m m' → Both (eeach f xs m) (eeach f xs m')
  unfolding eeach
  both_eeach f h [] m m' g = goes m m' g
  both_eeach f h (y ∷ ys) m m' g = both_obind (f m y) (f m' y) (eeach f ys) (eeach f ys) (h m m' y g) (λ s s' g'. both_eeach f h ys s s' g')

  -- what is asked of a machine
  pub record Alike {H : Type 0} (X : Machine M H) : Type 0 where
    pub get_same : (m m' : M) (x : ℕ) → R m m' → X.store.get m x ≡ X.store.get m' x
    pub list_same : (m m' : M) → R m m' → X.store.list m ≡ X.store.list m'
    pub mark_both : (k : Mark) (x : ℕ) (m m' : M) → R m m' → R (X.store.mark k x m) (X.store.mark k x m')
    pub push_both : (x : ℕ) (m m' : M) → R m m' → R (X.store.push x m) (X.store.push x m')
    pub start_both : (room : ℕ) (m m' : M) → R m m' → R (X.start room m) (X.start room m')
    pub eget_same : (m m' : M) (x : ℕ) → R m m' → X.eget m x ≡ X.eget m' x
    pub emark_both : (k : Mark) (x : ℕ) (m m' : M) → R m m' → R (X.emark k x m) (X.emark k x m')
    pub flag_same : (m m' : M) (x : ℕ) → R m m' → X.has_fwd m x ≡ X.has_fwd m' x
    pub forwarded_both : (x : ℕ) (m m' : M) → R m m' → R (X.forwarded x m) (X.forwarded x m')
    pub fwd_both : (m m' : M) (x : ℕ) → R m m' → Both (X.fwd_line m x) (X.fwd_line m' x)
    pub alias_both : (m m' : M) (x : ℕ) → R m m' → Both (X.alias_line m x) (X.alias_line m' x)
    pub leaf_both : (m m' : M) (x : ℕ) → R m m' → Both (X.leaf_line m x) (X.leaf_line m' x)
    pub body_both : (m m' : M) (x : ℕ) → R m m' → Both (X.body m x) (X.body m' x)

  module _ {H : Type 0} (X : Machine M H) (T : Table) (L : Alike X) where
    abbrev K : Store M
    K = X.store

    -- ordering
    push_if_lem : (p : Bool) (x : ℕ) (m m' : M) → R m m' → R (push_if K p x m) (push_if K p x m')
    unfolding push_if
    push_if_lem true x m m' g = L.push_both x m m' g
    push_if_lem false x m m' g = g

    finished : (p : Bool) (x : ℕ) (m m' : M) → R m m' → R (finish K p x m) (finish K p x m')
    finished p x m m' g = L.mark_both done x (push_if K p x m) (push_if K p x m') (push_if_lem p x m m' g)

    both_enter : (p : Bool) (f : M → ℕ → Res M) → ((m m' : M) (x : ℕ) → R m m' → BothRes (f m x) (f m' x)) → (s s' : M) (x : ℕ) (nm : Bool) (ms : List ℕ) → R s s' → BothRes (enter K p f s x nm ms) (enter K p f s' x nm ms)
    unfolding enter
    both_enter true f h s s' x nm ms g = goes_on s s' false g
    both_enter false f h s s' x nm ms g =
        both_bind (each f ms (K.mark busy x s) false) (each f ms (K.mark busy x s') false) (λ m b. ok (finish K nm x m) true) (λ m b. ok (finish K nm x m) true)
        (both_each f h ms (K.mark busy x s) (K.mark busy x s') false (L.mark_both busy x s s' g))
        (λ m m' b g'. goes_on (finish K nm x m) (finish K nm x m') true (finished nm x m m' g'))

    both_alias : (p was : Bool) (s s' : M) (x : ℕ) → R s s' → BothRes (alias K p was s x) (alias K p was s' x)
    unfolding alias
    both_alias true was s s' x g = goes_on (finish K (not was) x s) (finish K (not was) x s') true (finished (not was) x s s' g)
    both_alias false was s s' x g = goes_on s s' false g

    both_meet : (p : Bool) (s s' : M) → R s s' → BothRes (meet p s) (meet p s')
    unfolding meet
    both_meet true s s' g = goes_on s s' false g
    both_meet false s s' g = ends 13

    module _ (rec : M → ℕ → Bool → Res M) (h : (m m' : M) (x : ℕ) (weak : Bool) → R m m' → BothRes (rec m x weak) (rec m' x weak)) (s s' : M) (g : R s s') (x : ℕ) (weak : Bool) where
      both_fresh : (nd : Node) → BothRes (fresh K T rec s x weak nd) (fresh K T rec s' x weak nd)
      unfolding fresh
      both_fresh ignored = goes_on s s' false g
      both_fresh plain = goes_on (finish K false x s) (finish K false x s') false (finished false x s s' g)
      both_fresh (listed f) = goes_on (finish K (T.named x) x s) (finish K (T.named x) x s') true (finished (T.named x) x s s' g)
      both_fresh (through a t) = h s s' t (not (a && T.strong_arrays) && weak) g
      both_fresh (ptr t) =
          both_bind (rec s t true) (rec s' t true) (λ m b. ok (finish K false x m) b) (λ m b. ok (finish K false x m) b) (h s s' t true g)
          (λ m m' b g'. goes_on (finish K false x m) (finish K false x m') b (finished false x m m' g'))
      both_fresh (tdef t) =
          both_bind (rec s t weak) (rec s' t weak) (λ m b. alias K (not weak || b) (is_done (K.get m x)) m x) (λ m b. alias K (not weak || b) (is_done (K.get m x)) m x) (h s s' t weak g)
          (λ m m' b g'. subst (λ (k : Mark). BothRes (alias K (not weak || b) (is_done (K.get m x)) m x) (alias K (not weak || b) (is_done k) m' x)) (L.get_same m m' x g') (both_alias (not weak || b) (is_done (K.get m x)) m m' x g'))
      both_fresh (proto ts) = both_each (λ m y. rec m y weak) (λ m m' y g'. h m m' y weak g') ts s s' false g
      both_fresh (comp ms) = both_enter (weak && T.named x) (λ m y. rec m y false) (λ m m' y g'. h m m' y false g') s s' x (T.named x) ms g

      both_visit : (k : Mark) → BothRes (visit K T rec s x weak k) (visit K T rec s' x weak k)
      unfolding visit
      both_visit new = both_fresh (T.node x)
      both_visit busy = both_meet (is_comp (T.node x) && (weak && T.named x)) s s' g
      both_visit done = goes_on s s' true g

    both_order : (n : ℕ) (s s' : M) (x : ℕ) (weak : Bool) → R s s' → BothRes (order K n T s x weak) (order K n T s' x weak)
    unfolding order
    both_order zero s s' x weak g = ends 12
    both_order (suc n) s s' x weak g =
        subst (λ (k : Mark). BothRes (visit K T (λ m y w. order K n T m y w) s x weak (K.get s x)) (visit K T (λ m y w. order K n T m y w) s' x weak k)) (L.get_same s s' x g)
        (both_visit (λ m y w. order K n T m y w) (λ m m' y w g'. both_order n m m' y w g') s s' g x weak (K.get s x))

    -- emission
    both_once : (w : M → ℕ → Out M H) → ((m m' : M) (x : ℕ) → R m m' → Both (w m x) (w m' x)) → (x : ℕ) (b : Bool) (m m' : M) → R m m' → Both (once X T w x b m) (once X T w x b m')
    unfolding once
    both_once w h x true m m' g = goes m m' g
    both_once w h x false m m' g = both_obind (w m x) (w m' x) (λ s. wrote (X.forwarded x s)) (λ s. wrote (X.forwarded x s)) (h m m' x g) (λ s s' g'. goes (X.forwarded x s) (X.forwarded x s') (L.forwarded_both x s s' g'))

    both_mention : (a nm : Bool) (x : ℕ) (m m' : M) → R m m' → Both (mention X T a nm x m) (mention X T a nm x m')
    unfolding mention
    both_mention true nm x m m' g = goes m m' g
    both_mention false true x m m' g = both_once X.fwd_line L.fwd_both x false m m' g
    both_mention false false x m m' g = stops 13

    both_again : (m m' : M) (x cont : ℕ) (nd : Node) → R m m' → Both (again X T m x cont nd) (again X T m' x cont nd)
    unfolding again
    both_again m m' x cont ignored g = goes m m' g
    both_again m m' x cont plain g = goes m m' g
    both_again m m' x cont (listed f) g = goes m m' g
    both_again m m' x cont (through a t) g = goes m m' g
    both_again m m' x cont (ptr t) g = goes m m' g
    both_again m m' x cont (tdef t) g = subst (λ (q : Bool). Both (once X T X.alias_line x (X.has_fwd m x) m) (once X T X.alias_line x q m')) (L.flag_same m m' x g) (both_once X.alias_line L.alias_both x (X.has_fwd m x) m m' g)
    both_again m m' x cont (proto ts) g = goes m m' g
    both_again m m' x cont (comp ms) g =
        subst (λ (q : Bool). Both (mention X T (X.has_fwd m x || eqb x cont) (T.named x) x m) (mention X T (q || eqb x cont) (T.named x) x m')) (L.flag_same m m' x g)
        (both_mention (X.has_fwd m x || eqb x cont) (T.named x) x m m' g)

    both_close : (top : Bool) (x : ℕ) (m m' : M) → R m m' → Both (close X T top x m) (close X T top x m')
    unfolding close
    both_close true x m m' g = both_obind (X.body m x) (X.body m' x) (λ s. wrote (X.emark done x s)) (λ s. wrote (X.emark done x s)) (L.body_both m m' x g) (λ s s' g'. goes (X.emark done x s) (X.emark done x s') (L.emark_both done x s s' g'))
    both_close false x m m' g = goes (X.emark new x m) (X.emark new x m') (L.emark_both new x m m' g)

    both_leaf : (top : Bool) (x : ℕ) (m m' : M) → R m m' → Both (leaf X T top x m) (leaf X T top x m')
    unfolding leaf
    both_leaf true x m m' g = both_obind (X.leaf_line m x) (X.leaf_line m' x) (λ s. wrote (X.emark done x s)) (λ s. wrote (X.emark done x s)) (L.leaf_both m m' x g) (λ s s' g'. goes (X.emark done x s) (X.emark done x s') (L.emark_both done x s s' g'))
    both_leaf false x m m' g = goes (X.emark done x m) (X.emark done x m') (L.emark_both done x m m' g)

    module _ (rec : M → ℕ → ℕ → Out M H) (h : (m m' : M) (x cont : ℕ) → R m m' → Both (rec m x cont) (rec m' x cont)) (s s' : M) (g : R s s') (x cont : ℕ) where
      both_within : (a nm : Bool) (ms : List ℕ) → Both (within X T rec s x cont a nm ms) (within X T rec s' x cont a nm ms)
      unfolding within
      both_within true nm ms = both_eeach (λ m y. rec m y (pick nm x cont)) (λ m m' y g'. h m m' y (pick nm x cont) g') ms (X.emark busy x s) (X.emark busy x s') (L.emark_both busy x s s' g)
      both_within false nm ms =
          subst (λ (q : Bool). Both (once X T X.fwd_line x (X.has_fwd s x || eqb x cont) (X.emark busy x s)) (once X T X.fwd_line x (q || eqb x cont) (X.emark busy x s'))) (L.flag_same s s' x g)
          (both_once X.fwd_line L.fwd_both x (X.has_fwd s x || eqb x cont) (X.emark busy x s) (X.emark busy x s') (L.emark_both busy x s s' g))

      both_begin : (top : Bool) (nd : Node) → Both (begin X T rec s x cont top nd) (begin X T rec s' x cont top nd)
      unfolding begin
      both_begin top ignored = goes s s' g
      both_begin top plain = goes s s' g
      both_begin top (listed f) = both_leaf (f || top) x s s' g
      both_begin top (through a t) = h s s' t cont g
      both_begin top (ptr t) = h s s' t cont g
      both_begin top (tdef t) =
          both_obind (rec (X.emark busy x s) t x) (rec (X.emark busy x s') t x)
          (λ m. obind (once X T X.alias_line x (X.has_fwd m x) m) (λ m''. wrote (X.emark done x m''))) (λ m. obind (once X T X.alias_line x (X.has_fwd m x) m) (λ m''. wrote (X.emark done x m'')))
          (h (X.emark busy x s) (X.emark busy x s') t x (L.emark_both busy x s s' g))
          (λ m m' g'. both_obind (once X T X.alias_line x (X.has_fwd m x) m) (once X T X.alias_line x (X.has_fwd m' x) m') (λ m''. wrote (X.emark done x m'')) (λ m''. wrote (X.emark done x m''))
          (subst (λ (q : Bool). Both (once X T X.alias_line x (X.has_fwd m x) m) (once X T X.alias_line x q m')) (L.flag_same m m' x g') (both_once X.alias_line L.alias_both x (X.has_fwd m x) m m' g'))
          (λ a a' g''. goes (X.emark done x a) (X.emark done x a') (L.emark_both done x a a' g'')))
      both_begin top (proto ts) = both_eeach (λ m y. rec m y cont) (λ m m' y g'. h m m' y cont g') ts s s' g
      both_begin top (comp ms) =
          both_obind (within X T rec s x cont (top || not (T.named x)) (T.named x) ms) (within X T rec s' x cont (top || not (T.named x)) (T.named x) ms) (close X T top x) (close X T top x)
          (both_within (top || not (T.named x)) (T.named x) ms) (λ m m' g'. both_close top x m m' g')

      both_allowed : (a : Bool) → Both (allowed X T rec s x cont a) (allowed X T rec s' x cont a)
      unfolding allowed
      both_allowed true = stops 14
      both_allowed false = both_begin (is_zero cont) (T.node x)

      both_look : (k : Mark) → Both (look X T rec s x cont k) (look X T rec s' x cont k)
      unfolding look
      both_look new = both_allowed (is_zero cont && not (T.named x))
      both_look busy = both_again s s' x cont (T.node x) g
      both_look done = goes s s' g

    both_emit : (n : ℕ) (s s' : M) (x cont : ℕ) → R s s' → Both (emit X T n s x cont) (emit X T n s' x cont)
    unfolding emit
    both_emit zero s s' x cont g = stops 12
    both_emit (suc n) s s' x cont g =
        subst (λ (k : Mark). Both (look X T (λ m y c. emit X T n m y c) s x cont (X.eget s x)) (look X T (λ m y c. emit X T n m y c) s' x cont k)) (L.eget_same s s' x g)
        (both_look (λ m y c. emit X T n m y c) (λ m m' y c g'. both_emit n m m' y c g') s s' g x cont (X.eget s x))

    both_listed : (h h' : H) (r r' : Res M) → BothRes r r' → Both (listed_out X T h r) (listed_out X T h' r')
    unfolding listed_out
    both_listed h h' _ _ (goes_on m m' b g) =
        both_obind (eeach (λ s y. emit X T 512 s y 0) (K.list m) m) (eeach (λ s y. emit X T 512 s y 0) (K.list m') m') (λ s. wrote (X.start 0 s)) (λ s. wrote (X.start 0 s))
        (subst (λ (l : List ℕ). Both (eeach (λ s y. emit X T 512 s y 0) (K.list m) m) (eeach (λ s y. emit X T 512 s y 0) l m')) (L.list_same m m' g) (both_eeach (λ s y. emit X T 512 s y 0) (λ s s' y g'. both_emit 512 s s' y 0 g') (K.list m) m m' g))
        (λ s s' g'. goes (X.start 0 s) (X.start 0 s') (L.start_both 0 s s' g'))
    both_listed h h' _ _ (ends c) = stops c

    pub both_dumped : (m m' : M) (x : ℕ) → R m m' → Both (dumped X T m x) (dumped X T m' x)
    unfolding dumped
    both_dumped m m' x g = both_listed (X.held m) (X.held m') (order K 512 T m x false) (order K 512 T m' x false) (both_order 512 m m' x false g)

-- ---- over the lent slices: two sheets that differ only past the place
pub data Like : Slices → Slices → Type 0 where
  like : (w t t' : List ℕ) (at len : ℕ) → at ≤ length t → length t ≡ length t' → take at t ≡ take at t' → Like (record { work = w; text = t; at = at; len = len }) (record { work = w; text = t'; at = at; len = len })

-- the bytes up to the end of what was placed
placed_head : (t : List ℕ) (at : ℕ) (a : List ℕ) → at ≤ length t → take (at + length a) (place t at a) ≡ take at t ++ a
placed_head t at a h = take_at (take at t ++ a) (drop (at + length a) t) (at + length a) (length-append (take at t) a ∙ ap (λ (k : ℕ). k + length a) (length-take-le at t h))

module _ (n : ℕ) (t t' : List ℕ) (at : ℕ) (h : at ≤ length t) (long : length t ≡ length t') (same : take at t ≡ take at t') (u : List ℕ) where
  both_written : (x : Text) → length (bytes x) ≤ length t - at → Both Like (slices_of n (with_names none_held u (written t at x))) (slices_of n (with_names none_held u (written t' at x)))
  unfolding slices_of with_names written bytes
  both_written (whole a) l =
      let l' : at + length a ≤ length t' = omega arith in
      goes (record { work = u; text = place t at a; at = at + length a; len = n }) (record { work = u; text = place t' at a; at = at + length a; len = n })
      (like u (place t at a) (place t' at a) (at + length a) n (omega (arith, place_length t at a (omega arith))) (place_length t at a (omega arith) ∙ long ∙ sym (place_length t' at a l'))
      (placed_head t at a h ∙ ap (λ (p : List ℕ). p ++ a) same ∙ sym (placed_head t' at a (omega arith))))
  both_written (cut a c) l = stops c

  both_full : Both Like (slices_of n (with_names none_held u (stopped 17))) (slices_of n (with_names none_held u (stopped 17)))
  unfolding slices_of with_names
  both_full = stops 17

  both_put : (x : Text) → Both Like (slices_of n (with_names none_held u (put_text t (Ok at) x))) (slices_of n (with_names none_held u (put_text t' (Ok at) x)))
  both_put x =
      ⊎_elim
      (λ l. rw (put_none t at x l, put_none t' at x (omega arith)) both_full)
      (λ l. rw (put_fits t at x l, put_fits t' at x (omega arith)) (both_written x l))
      (cases_lt (length t - at) (length (bytes x)))

both_line : (v : Writer (List ℕ)) (m m' : Slices) → Like m m' → Both Like (line_in v m) (line_in v m')
both_line v _ _ (like w t t' at len h long same) =
    subst (λ (o : Out Slices (Unit {0})). Both Like o (line_in v (slices len at t' w))) (sym (line_is v (slices len at t w)))
    (subst (Both Like _) (sym (line_is v (slices len at t' w))) (both_put len t t' at h long same (said_names (v w)) (said_text (v w))))

module _ (b : TypeTable) (B : Rules) where
  alike : Alike Like (work_machine b B)
  unfolding work_machine slices_store
  alike = record {
    get_same = λ m m' x g. elim g as (λ n n' _. slices_store.get n x ≡ slices_store.get n' x) [ like w t t' at len h long same ↦ refl ];
    list_same = λ m m' g. elim g as (λ n n' _. slices_store.list n ≡ slices_store.list n') [ like w t t' at len h long same ↦ refl ];
    mark_both = λ k x m m' g. elim g as (λ n n' _. Like (slices_store.mark k x n) (slices_store.mark k x n')) [ like w t t' at len h long same ↦ like _ t t' at _ h long same ];
    push_both = λ x m m' g. elim g as (λ n n' _. Like (slices_store.push x n) (slices_store.push x n')) [ like w t t' at len h long same ↦ like _ t t' at _ h long same ];
    start_both = λ room m m' g. elim g as (λ n n' _. Like ((work_machine b B).start room n) ((work_machine b B).start room n')) [ like w t t' at len h long same ↦ like _ t t' at _ h long same ];
    eget_same = λ m m' x g. elim g as (λ n n' _. (work_machine b B).eget n x ≡ (work_machine b B).eget n' x) [ like w t t' at len h long same ↦ refl ];
    emark_both = λ k x m m' g. elim g as (λ n n' _. Like ((work_machine b B).emark k x n) ((work_machine b B).emark k x n')) [ like w t t' at len h long same ↦ like _ t t' at _ h long same ];
    flag_same = λ m m' x g. elim g as (λ n n' _. (work_machine b B).has_fwd n x ≡ (work_machine b B).has_fwd n' x) [ like w t t' at len h long same ↦ refl ];
    forwarded_both = λ x m m' g. elim g as (λ n n' _. Like ((work_machine b B).forwarded x n) ((work_machine b B).forwarded x n')) [ like w t t' at len h long same ↦ like _ t t' at _ h long same ];
    fwd_both = λ m m' x g. both_line _ m m' g;
    alias_both = λ m m' x g. both_line _ m m' g;
    leaf_both = λ m m' x g. both_line _ m m' g;
    body_both = λ m m' x g. both_line _ m m' g;
  }

  pub both_request : (w u u' : List ℕ) (id : ℕ) → length u ≡ length u'
      → Both Like (dumped (work_machine b B) (table_of B) (record { work = w; text = u; at = 0; len = 0 }) id) (dumped (work_machine b B) (table_of B) (record { work = w; text = u'; at = 0; len = 0 }) id)
  both_request w u u' id e =
      both_dumped Like (work_machine b B) (table_of B) alike (record { work = w; text = u; at = 0; len = 0 }) (record { work = w; text = u'; at = 0; len = 0 }) id (like w u u' 0 0 zero-le e refl)
