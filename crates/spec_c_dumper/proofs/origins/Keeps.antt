-- What every step of emission with entries keeps, a call of it keeps: one inside a container, and one at the top for a listed id that is not in
-- progress. Assumes nothing.
use Prim.Native.Nat.{ℕ, zero, suc}
use mathlib.Core.Path.{◌≡◌, refl, ap, ◌∙◌, sym, subst}
use mathlib.Core.Bool.{Bool, true, false, not, ◌&&◌, ◌||◌, true≢false}
use mathlib.Core.List.{List, [], ◌∷◌, Memᴰ}
use mathlib.Core.Logic.{◌≢◌}
use native.Mathlib.Omega.{arith}
use lib.Dec.{eqb}
use Rattle.spec_c_dumper.specs.rules.Order.{Node, ignored, plain, listed, through, ptr, tdef, proto, comp, Table, is_comp, Mark, new, busy, done}
use Rattle.spec_c_dumper.specs.rules.Machine.{Out, wrote, stuck, Machine, is_zero, obind, eeach, once, mention, again, close, leaf, within, begin, allowed, look}
use Rattle.spec_c_dumper.specs.needs.Needs.{kids}
use Rattle.spec_c_dumper.specs.needs.Bodies.{is_leaf}
use Rattle.spec_c_dumper.specs.origins.Causes.{Entry, Traced, noting, emit_traced}
use Rattle.spec_c_dumper.specs.origins.Claims.{first, next, is_listed}
use Rattle.spec_c_dumper.specs.origins.Lines.{is_typedef, is_container, Container, outer, inner, Inside}

-- what a line, or a call, comes to, if it is no refusal
pub data Comes {M H : Type 0} (Q : M → Type 0) : Out M H → Type 0 where
  comes : {s : M} → Q s → Comes Q (wrote s)
  halts : {h : H} {e : ℕ} → Comes Q (stuck h e)

pub comes_bind : {M H : Type 0} {Q Q' : M → Type 0} {r : Out M H} (k : M → Out M H) → Comes Q r → ((s : M) → Q s → Comes Q' (k s)) → Comes Q' (obind r k)
unfolding obind
comes_bind k (comes h) f = f _ h
comes_bind k halts f = halts

pub comes_map : {M H : Type 0} {Q Q' : M → Type 0} {r : Out M H} → ((s : M) → Q s → Q' s) → Comes Q r → Comes Q' r
comes_map f (comes h) = comes (f _ h)
comes_map f halts = halts

zero_no : (n : ℕ) → n ≢ 0 → is_zero n ≡ false
zero_no zero h = absurd (h refl)
zero_no (suc n) h = refl

module _ {M H : Type 0} (X : Machine M H) (room : ℕ → Bool) (shows : ℕ → Bool) (why : ℕ → Entry) (T : Table) (Top : ℕ → Type 0) (R : Traced M → Traced M → Type 0) where
  abbrev N : ℕ → Machine (Traced M) H
  N cont = noting X room shows why cont

  -- A relation between the states before and after, that the steps keep. A line is of a type of its kind, inside its container or at the top.
  pub record Kept : Type 0 where
    pub r_same : (s : Traced M) → R s s
    pub r_then : (a b c : Traced M) → R a b → R b c → R a c
    pub r_mark : (m : Mark) (x : ℕ) (s : Traced M) → R s (record { mach = X.emark m x s.mach; entries = s.entries })
    pub r_flag : (x : ℕ) (s : Traced M) → R s (record { mach = X.forwarded x s.mach; entries = s.entries })
    pub r_fwd : (cont x : ℕ) (s : Traced M) → is_comp (T.node x) ≡ true → Inside T Top cont x → Comes (R s) ((N cont).fwd_line s x)
    pub r_alias : (cont x : ℕ) (s : Traced M) → is_typedef (T.node x) ≡ true → Inside T Top cont x → Comes (R s) ((N cont).alias_line s x)
    pub r_leaf : (cont x : ℕ) (s : Traced M) → is_leaf (T.node x) ≡ true → Inside T Top cont x → Comes (R s) ((N cont).leaf_line s x)
    pub top_alias : (x : ℕ) (s : Traced M) → is_typedef (T.node x) ≡ true → Top x → Comes (R s) ((N 0).alias_line s x)
    pub top_leaf : (x : ℕ) (s : Traced M) → is_leaf (T.node x) ≡ true → Top x → Comes (R s) ((N 0).leaf_line s x)
    pub top_body : (x : ℕ) (s : Traced M) → is_comp (T.node x) ≡ true → Top x → Comes (R s) ((N 0).body s x)

  module _ (void : T.node 0 ≡ plain) (k : Kept) where
    each_keeps : (f : Traced M → ℕ → Out (Traced M) H) (ys : List ℕ) → ((s : Traced M) (y : ℕ) → Memᴰ y ys → Comes (R s) (f s y)) → (s : Traced M) → Comes (R s) (eeach f ys s)
    unfolding eeach
    each_keeps f [] h s = comes (k.r_same s)
    each_keeps f (y ∷ ys) h s = comes_bind (eeach f ys) (h s y (Memᴰ.head refl)) (λ s' q. comes_map (λ s'' q'. k.r_then s s' s'' q q') (each_keeps f ys (λ s'' z m. h s'' z (Memᴰ.tail m)) s'))

    -- a state, and then a step from it
    step_on : (a s : Traced M) (o : Out (Traced M) H) → R a s → Comes (R s) o → Comes (R a) o
    step_on a s o q h = comes_map (λ s' q'. k.r_then a s s' q q') h

    -- void is no container
    not_void : (x : ℕ) (nd : Node) → T.node x ≡ nd → (plain ≡ nd → ⊥) → x ≢ 0
    not_void x nd e h z = h (sym void ∙ ap (λ (y : ℕ). T.node y) (sym z) ∙ e)

    abbrev marked : ℕ → Mark → Traced M → Traced M
    marked x m s = record { mach = X.emark m x s.mach; entries = s.entries }

    abbrev member : (x y : ℕ) (nd : Node) → T.node x ≡ nd → Memᴰ y (kids nd) → Memᴰ y (kids (T.node x))
    member x y nd e m = subst (λ (n : Node). Memᴰ y (kids n)) (sym e) m

    tdef_inside : (x t : ℕ) → T.node x ≡ tdef t → Container T Top x → Inside T Top x t
    tdef_inside x t e q = record { some = not_void x (tdef t) e (λ (q : plain ≡ tdef t). let z : ◌≡◌ {A = ℕ} 0 1 = cc in omega arith); contained = ap (λ (n : Node). is_container n (T.named x)) e; within = q; leads = first t (member x t (tdef t) e (Memᴰ.head refl)) }

    comp_inside : (x y : ℕ) (ms : List ℕ) → T.node x ≡ comp ms → T.named x ≡ true → Top x → Memᴰ y ms → Inside T Top x y
    comp_inside x y ms e q tp m = record { some = not_void x (comp ms) e (λ (q : plain ≡ comp ms). let z : ◌≡◌ {A = ℕ} 0 1 = cc in omega arith); contained = ap (λ (n : Node). is_container n (T.named x)) e ∙ q; within = outer x tp; leads = first y (member x y (comp ms) e m) }

    once_keeps : (cont x : ℕ) (w : Traced M → ℕ → Out (Traced M) H) → ((s : Traced M) → Comes (R s) (w s x)) → (b : Bool) (s : Traced M) → Comes (R s) (once (N cont) T w x b s)
    unfolding once
    once_keeps cont x w h true s = comes (k.r_same s)
    once_keeps cont x w h false s =
        comes_bind (λ s'. wrote (record { mach = X.forwarded x s'.mach; entries = s'.entries })) (h s) (λ s' q. comes (k.r_then s s' (record { mach = X.forwarded x s'.mach; entries = s'.entries }) q (k.r_flag x s')))

    marks_after : (x : ℕ) (m : Mark) (s s' : Traced M) → R s s' → Comes {H = H} (R s) (wrote (marked x m s'))
    marks_after x m s s' q = comes (k.r_then s s' (marked x m s') q (k.r_mark m x s'))

    -- a typedef: its target inside it, its line, its mark
    tdef_keeps : (cont x t : ℕ) (s : Traced M) (o : Out (Traced M) H) → Comes (R (marked x busy s)) o → ((u : Traced M) → Comes (R u) ((N cont).alias_line u x))
        → Comes (R s) (obind o (λ s'. obind (once (N cont) T (N cont).alias_line x (X.has_fwd s'.mach x) s') (λ s''. wrote (marked x done s''))))
    tdef_keeps cont x t s o h w =
        comes_bind (λ s'. obind (once (N cont) T (N cont).alias_line x (X.has_fwd s'.mach x) s') (λ s''. wrote (marked x done s''))) (step_on s (marked x busy s) o (k.r_mark busy x s) h) (λ s' q.
        comes_bind (λ s''. wrote (marked x done s'')) (step_on s s' (once (N cont) T (N cont).alias_line x (X.has_fwd s'.mach x) s') q (once_keeps cont x (N cont).alias_line w (X.has_fwd s'.mach x) s'))
        (λ s'' q'. marks_after x done s s'' q'))

    -- ---- inside a container
    module _ (cont x : ℕ) (c : Inside T Top cont x) where
      mention_keeps : is_comp (T.node x) ≡ true → (b nm : Bool) (s : Traced M) → Comes (R s) (mention (N cont) T b nm x s)
      unfolding mention
      mention_keeps i true nm s = comes (k.r_same s)
      mention_keeps i false true s = once_keeps cont x (N cont).fwd_line (λ s'. k.r_fwd cont x s' i c) false s
      mention_keeps i false false s = halts

      again_keeps : (s : Traced M) (nd : Node) → T.node x ≡ nd → Comes (R s) (again (N cont) T s x cont nd)
      unfolding again
      again_keeps s ignored e = comes (k.r_same s)
      again_keeps s plain e = comes (k.r_same s)
      again_keeps s (listed f) e = comes (k.r_same s)
      again_keeps s (through a t) e = comes (k.r_same s)
      again_keeps s (ptr t) e = comes (k.r_same s)
      again_keeps s (tdef t) e = once_keeps cont x (N cont).alias_line (λ s'. k.r_alias cont x s' (ap is_typedef e) c) (X.has_fwd s.mach x) s
      again_keeps s (proto ts) e = comes (k.r_same s)
      again_keeps s (comp ms) e = mention_keeps (ap is_comp e) (X.has_fwd s.mach x || eqb x cont) (T.named x) s

      leaf_keeps : is_leaf (T.node x) ≡ true → (b : Bool) (s : Traced M) → Comes (R s) (leaf (N cont) T b x s)
      unfolding leaf
      leaf_keeps i true s = comes_bind (λ s'. wrote (marked x done s')) (k.r_leaf cont x s i c) (λ s' q. marks_after x done s s' q)
      leaf_keeps i false s = comes (k.r_mark done x s)

      -- what is followed from x, in the same container
      down : (nd : Node) → T.node x ≡ nd → (y : ℕ) → is_container nd (T.named x) ≡ false → Memᴰ y (kids nd) → Inside T Top cont y
      down nd e y q m = record { some = c.some; contained = c.contained; within = c.within; leads = next x y c.leads (ap (λ (n : Node). is_container n (T.named x)) e ∙ q) (member x y nd e m) }

      module _ (rec : Traced M → ℕ → ℕ → Out (Traced M) H) (h : (s : Traced M) (y d : ℕ) → Inside T Top d y → Comes (R s) (rec s y d)) (s : Traced M) where
        -- a nameless composite has its members in the same container, a named one is mentioned
        within_keeps : (nm : Bool) (ms : List ℕ) → T.named x ≡ nm → T.node x ≡ comp ms → Comes (R s) (within (N cont) T rec s x cont (not nm) nm ms)
        unfolding within
        within_keeps false ms q e =
            step_on s (marked x busy s) (eeach (λ s' y. rec s' y cont) ms (marked x busy s)) (k.r_mark busy x s) (each_keeps (λ s' y. rec s' y cont) ms (λ s' y m. h s' y cont (down (comp ms) e y q m)) (marked x busy s))
        within_keeps true ms q e =
            step_on s (marked x busy s) (once (N cont) T (N cont).fwd_line x (X.has_fwd s.mach x || eqb x cont) (marked x busy s)) (k.r_mark busy x s)
            (once_keeps cont x (N cont).fwd_line (λ s'. k.r_fwd cont x s' (ap is_comp e) c) (X.has_fwd s.mach x || eqb x cont) (marked x busy s))

        begin_keeps : (nd : Node) → T.node x ≡ nd → Comes (R s) (begin (N cont) T rec s x cont false nd)
        unfolding begin close
        begin_keeps ignored e = comes (k.r_same s)
        begin_keeps plain e = comes (k.r_same s)
        begin_keeps (listed f) e = leaf_keeps (ap is_leaf e) (f || false) s
        begin_keeps (through a t) e = h s t cont (down (through a t) e t refl (Memᴰ.head refl))
        begin_keeps (ptr t) e = h s t cont (down (ptr t) e t refl (Memᴰ.head refl))
        begin_keeps (tdef t) e = tdef_keeps cont x t s (rec (marked x busy s) t x) (h (marked x busy s) t x (tdef_inside x t e (inner cont x c.within (ap is_typedef e) c.leads))) (λ u. k.r_alias cont x u (ap is_typedef e) c)
        begin_keeps (proto ts) e = each_keeps (λ s' y. rec s' y cont) ts (λ s' y m. h s' y cont (down (proto ts) e y refl m)) s
        begin_keeps (comp ms) e = comes_bind (close (N cont) T false x) (within_keeps (T.named x) ms refl e) (λ s' q. marks_after x new s s' q)

        allowed_keeps : (b : Bool) → b ≡ false → Comes (R s) (allowed (N cont) T rec s x cont b)
        unfolding allowed
        allowed_keeps true q = absurd (true≢false q)
        allowed_keeps false q = subst (λ (top : Bool). Comes (R s) (begin (N cont) T rec s x cont top (T.node x))) (sym (zero_no cont c.some)) (begin_keeps (T.node x) refl)

        look_keeps : (m : Mark) → Comes (R s) (look (N cont) T rec s x cont m)
        unfolding look
        look_keeps new = allowed_keeps (is_zero cont && not (T.named x)) (ap (λ (b : Bool). b && not (T.named x)) (zero_no cont c.some))
        look_keeps busy = again_keeps s (T.node x) refl
        look_keeps done = comes (k.r_same s)

    pub emit_keeps : (n : ℕ) (s : Traced M) (x cont : ℕ) → Inside T Top cont x → Comes (R s) (emit_traced X room shows why T n s x cont)
    unfolding emit_traced
    emit_keeps zero s x cont c = halts
    emit_keeps (suc n) s x cont c = look_keeps cont x c (λ s' y d. emit_traced X room shows why T n s' y d) (λ s' y d q. emit_keeps n s' y d q) s (X.eget s.mach x)

    -- ---- at the top
    module _ (x : ℕ) (tp : Top x) (rec : Traced M → ℕ → ℕ → Out (Traced M) H) (h : (s : Traced M) (y d : ℕ) → Inside T Top d y → Comes (R s) (rec s y d)) (s : Traced M) where
      leaf_top : is_leaf (T.node x) ≡ true → (b : Bool) → Comes (R s) (leaf (N 0) T b x s)
      unfolding leaf
      leaf_top i true = comes_bind (λ s'. wrote (marked x done s')) (k.top_leaf x s i tp) (λ s' q. marks_after x done s s' q)
      leaf_top i false = comes (k.r_mark done x s)

      members_top : (nm : Bool) (ms : List ℕ) → T.named x ≡ nm → nm ≡ true → T.node x ≡ comp ms → Comes (R s) (within (N 0) T rec s x 0 true nm ms)
      unfolding within
      members_top false ms q z e = absurd (true≢false (sym z))
      members_top true ms q z e =
          step_on s (marked x busy s) (eeach (λ s' y. rec s' y x) ms (marked x busy s)) (k.r_mark busy x s) (each_keeps (λ s' y. rec s' y x) ms (λ s' y m. h s' y x (comp_inside x y ms e q tp m)) (marked x busy s))

      close_top : is_comp (T.node x) ≡ true → (s' : Traced M) → R s s' → Comes (R s) (close (N 0) T true x s')
      unfolding close
      close_top i s' q = comes_bind (λ s''. wrote (marked x done s'')) (step_on s s' ((N 0).body s' x) q (k.top_body x s' i tp)) (λ s'' q'. marks_after x done s s'' q')

      begin_top : (nd : Node) → T.node x ≡ nd → is_listed nd ≡ true → T.named x ≡ true → Comes (R s) (begin (N 0) T rec s x 0 true nd)
      unfolding begin
      begin_top ignored e l nm = absurd (true≢false (sym l))
      begin_top plain e l nm = absurd (true≢false (sym l))
      begin_top (listed f) e l nm = leaf_top (ap is_leaf e) (f || true)
      begin_top (through a t) e l nm = absurd (true≢false (sym l))
      begin_top (ptr t) e l nm = absurd (true≢false (sym l))
      begin_top (tdef t) e l nm = tdef_keeps 0 x t s (rec (marked x busy s) t x) (h (marked x busy s) t x (tdef_inside x t e (outer x tp))) (λ u. k.top_alias x u (ap is_typedef e) tp)
      begin_top (proto ts) e l nm = absurd (true≢false (sym l))
      begin_top (comp ms) e l nm = comes_bind (close (N 0) T true x) (members_top (T.named x) ms refl nm e) (λ s' q. close_top (ap is_comp e) s' q)

      allowed_top : (nm : Bool) → T.named x ≡ nm → is_listed (T.node x) ≡ true → Comes (R s) (allowed (N 0) T rec s x 0 (true && not nm))
      unfolding allowed
      allowed_top true q l = begin_top (T.node x) refl l q
      allowed_top false q l = halts

      look_top : is_listed (T.node x) ≡ true → (m : Mark) → m ≢ busy → Comes (R s) (look (N 0) T rec s x 0 m)
      unfolding look
      look_top l new q = allowed_top (T.named x) refl l
      look_top l busy q = absurd (q refl)
      look_top l done q = comes (k.r_same s)

    pub emit_top : (n : ℕ) (s : Traced M) (x : ℕ) → Top x → is_listed (T.node x) ≡ true → X.eget s.mach x ≢ busy → Comes (R s) (emit_traced X room shows why T n s x 0)
    unfolding emit_traced
    emit_top zero s x tp l q = halts
    emit_top (suc n) s x tp l q = look_top x tp (λ s' y d. emit_traced X room shows why T n s' y d) (λ s' y d c. emit_keeps n s' y d c) s l (X.eget s.mach x) q
