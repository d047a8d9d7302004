-- Emission, over every lawful machine: a call from inside defines nothing and leaves the composites' marks; a call at the top defines its composite.
use Prim.Native.Nat.{ℕ, zero, suc, ◌<◌}
use native.Mathlib.Decide.{ℕ_discrete}
use native.Mathlib.Omega.{arith}
use mathlib.Core.Path.{◌≡◌, refl, sym, ◌∙◌, ap, subst}
use mathlib.Core.Bool.{Bool, true, false, not, ◌&&◌, ◌||◌, true≢false}
use mathlib.Core.List.{List, [], ◌∷◌, ◌++◌, append-nil, Memᴰ}
use mathlib.Core.Logic.{◌⊎◌, inl, inr, ◌≢◌}
use lib.Dec.{eqb}
use Rattle.spec_c_dumper.specs.rules.Order.{Node, ignored, plain, listed, through, ptr, tdef, proto, comp, Table, is_comp, Mark, new, busy, done}
use Rattle.spec_c_dumper.specs.needs.Needs.{kids, weaken, here, NamedComp, WF}
use Rattle.spec_c_dumper.proofs.needs.Placed.{is_def, Listable, keep, defs}
use Rattle.spec_c_dumper.proofs.needs.Ways.{stop, Gee, gee_past, gee_weaken, gee_member, way_lower, weaken_mono}
use Rattle.spec_c_dumper.specs.rules.Machine.{Out, wrote, Machine, Fine, OHolds, ogood, obad, Same, MLawful, is_zero, obind, eeach, once, mention, again, close, leaf, within, begin, allowed, look, emit}

fine_12 : Fine 12
fine_12 e = omega arith

fine_14 : Fine 14
fine_14 e = omega arith

pub oholds_bind : {M H : Type 0} {Q Q' : M → Type 0} {r : Out M H} {k : M → Out M H} → OHolds Q r → ((s : M) → Q s → OHolds Q' (k s)) → OHolds Q' (obind r k)
unfolding obind
oholds_bind (ogood h) f = f _ h
oholds_bind (obad h) f = obad h

pub oholds_map : {M H : Type 0} {Q Q' : M → Type 0} {r : Out M H} → ((s : M) → Q s → Q' s) → OHolds Q r → OHolds Q' r
oholds_map f (ogood h) = ogood (f _ h)
oholds_map f (obad h) = obad h

gee_true : {T : Table} {E : Type 0} {B : ℕ → Type 0} {x : ℕ} → Gee T E B x false → Gee T E B x true
gee_true {T} g d v way (inl n) c = let r = way_lower T (weaken_mono T) way false (λ e. refl) in g d r.0 r.1 (inl n) c
gee_true {T} g d v way (inr q) c = let r = way_lower T (weaken_mono T) way false (λ e. refl) in g d r.0 r.1 (inr (r.2 q)) c

gee_any : {T : Table} {E : Type 0} {B : ℕ → Type 0} {x : ℕ} (w : Bool) → Gee T E B x w → Gee T E B x true
gee_any true g = g
gee_any false g = gee_true g

zero_no : (n : ℕ) → (n ≡ 0 → ⊥) → is_zero n ≡ false
zero_no zero h = absurd (h refl)
zero_no (suc n) h = refl

pub defs_append : (T : Table) (a b : List ℕ) → defs T (a ++ b) ≡ defs T a ++ defs T b
unfolding defs
defs_append T [] b = refl
defs_append T (x ∷ a) b = go (defs_append T a b) (is_comp (T.node x) && T.named x)
  where
    go : defs T (a ++ b) ≡ defs T a ++ defs T b → (k : Bool) → keep k x (defs T (a ++ b)) ≡ keep k x (defs T a) ++ defs T b
    go h true = ap {B = List ℕ} (λ l. x ∷ l) h
    go h false = h

pub defs_one : (T : Table) (x : ℕ) → NamedComp T x → defs T (x ∷ []) ≡ x ∷ []
unfolding defs
defs_one T x nc = rw (nc.0, nc.1) refl

defs_none : (T : Table) (x : ℕ) → is_comp (T.node x) ≡ false → defs T (x ∷ []) ≡ []
unfolding defs
defs_none T x nc = rw nc refl

module _ {M H : Type 0} (X : Machine M H) (T : Table) (Good : M → Type 0) (ml : MLawful X Good T.count) (wf : WF T) where
  abbrev eget : M → ℕ → Mark
  eget s x = X.eget s x

  abbrev emark : Mark → ℕ → M → M
  emark m x s = X.emark m x s

  -- what a call from inside leaves
  pub record Quiet (s s' : M) : Type 0 where
    pub good : Good s'
    pub gets : (d : ℕ) → X.store.get s' d ≡ X.store.get s d
    pub silent : X.tags s' ≡ X.tags s
    pub comps : (c : ℕ) → is_comp (T.node c) ≡ true → eget s' c ≡ eget s c

  abbrev pub EBusy : M → ℕ → Type 0
  EBusy s e = (eget s e ≡ busy) × (is_comp (T.node e) ≡ true) × (T.named e ≡ false)

  quiet_refl : (s : M) → Good s → Quiet s s
  quiet_refl s g = record { good = g; gets = λ d. refl; silent = refl; comps = λ c h. refl }

  quiet_trans : {a b c : M} → Quiet a b → Quiet b c → Quiet a c
  quiet_trans p q = record { good = q.good; gets = λ d. q.gets d ∙ p.gets d; silent = q.silent ∙ p.silent; comps = λ c h. q.comps c h ∙ p.comps c h }

  quiet_same : (s s' : M) → Same X Good s s' → Quiet s s'
  quiet_same s s' h = record { good = h.good; gets = h.gets; silent = h.tags_same; comps = λ c k. h.egets c }

  quiet_mark : (m : Mark) (x : ℕ) (s : M) → Good s → x < T.count → is_comp (T.node x) ≡ false → Quiet s (emark m x s)
  quiet_mark m x s g l nc = record { good = ml.emark_good m x s g l; gets = ml.emark_gets m x s g l; silent = ml.emark_tags m x s g l; comps = λ c h. ml.emark_other m x s g l c (λ q. true≢false (sym h ∙ ap (λ (k : ℕ). is_comp (T.node k)) q ∙ nc)) }

  -- a composite is made busy, what follows is quiet, and it is new again
  quiet_around : (x : ℕ) (s s' : M) → Good s → x < T.count → eget s x ≡ new → Quiet (emark busy x s) s' → Quiet s (emark new x s')
  quiet_around x s s' g l e q = record {
    good = ml.emark_good new x s' q.good l;
    gets = λ d. ml.emark_gets new x s' q.good l d ∙ q.gets d ∙ ml.emark_gets busy x s g l d;
    silent = ml.emark_tags new x s' q.good l ∙ q.silent ∙ ml.emark_tags busy x s g l;
    comps = λ c h. go c h (ℕ_discrete c x);
  }
    where
      go : (c : ℕ) → is_comp (T.node c) ≡ true → Dec (c ≡ x) → eget (emark new x s') c ≡ eget s c
      go c h (yes r) = subst (λ (k : ℕ). eget (emark new x s') k ≡ eget s k) (sym r) (ml.emark_same new x s' q.good l ∙ sym e)
      go c h (no r) = ml.emark_other new x s' q.good l c r ∙ q.comps c h ∙ ml.emark_other busy x s g l c r

  once_ok : (w : M → ℕ → Out M H) (x : ℕ) (b : Bool) (s : M) → Good s → x < T.count → OHolds (Same X Good s) (w s x) → OHolds (Quiet s) (once X T w x b s)
  unfolding once
  once_ok w x true s g l f = ogood (quiet_refl s g)
  once_ok w x false s g l f = oholds_bind f (λ s' h. ogood (quiet_trans (quiet_same s s' h) (quiet_same s' (X.forwarded x s') (ml.forwarded_same x s' h.good l))))

  ebusy_quiet : (s s' : M) → Quiet s s' → (e : ℕ) → EBusy s' e → EBusy s e
  ebusy_quiet s s' q e b = (sym (q.comps e b.1) ∙ b.0, b.1, b.2)

  -- neither a composite nor a typedef has the id 0
  comp_id : (x : ℕ) → is_comp (T.node x) ≡ true → x ≡ 0 → ⊥
  comp_id x h q = true≢false (sym h ∙ ap is_comp (ap T.node q ∙ wf.void))

  tdef_id : (x t : ℕ) → T.node x ≡ tdef t → x ≡ 0 → ⊥
  tdef_id x t e q = let p : T.node 0 ≡ plain = wf.void in let z : ◌≡◌ {A = ℕ} 0 1 = cc in omega arith

  abbrev ENested : (M → ℕ → ℕ → Out M H) → Type 0
  ENested rec = (s : M) (x cont : ℕ) → Good s → x < T.count → (cont ≡ 0 → ⊥) → Gee T ⊥ (EBusy s) x true → OHolds (Quiet s) (rec s x cont)

  module _ (rec : M → ℕ → ℕ → Out M H) (keeps : ENested rec) where
    eeach_ok : (cont : ℕ) → (cont ≡ 0 → ⊥) → (ys : List ℕ) (s : M) → Good s → ((y : ℕ) → Memᴰ y ys → y < T.count) → ((y : ℕ) → Memᴰ y ys → Gee T ⊥ (EBusy s) y true) → OHolds (Quiet s) (eeach (λ s' y. rec s' y cont) ys s)
    unfolding eeach
    eeach_ok cont nz [] s z l g = ogood (quiet_refl s z)
    eeach_ok cont nz (y ∷ ys) s z l g =
        oholds_bind (keeps s y cont z (l y (Memᴰ.head refl)) nz (g y (Memᴰ.head refl))) (λ s' q.
        oholds_map (λ s'' r. quiet_trans q r) (eeach_ok cont nz ys s' q.good (λ k m. l k (Memᴰ.tail m)) (λ k m. gee_weaken T ⊥ (EBusy s) (EBusy s') k true (ebusy_quiet s s' q) (g k (Memᴰ.tail m)))))

    module _ (s : M) (x cont : ℕ) (z : Good s) (l : x < T.count) where
      down : (nd : Node) (y : ℕ) → T.node x ≡ nd → Memᴰ y (kids nd) → y < T.count
      down nd y e m = wf.below x y (subst (λ (k : Node). Memᴰ y (kids k)) (sym e) m)

      mention_ok : (b nm : Bool) → T.named x ≡ nm → is_comp (T.node x) ≡ true → eget s x ≡ busy → Gee T ⊥ (EBusy s) x true → OHolds (Quiet s) (mention X T b nm x s)
      unfolding mention
      mention_ok true nm e c b g = ogood (quiet_refl s z)
      mention_ok false true e c b g = once_ok X.fwd_line x false s z l (ml.fwd_same s x z l)
      mention_ok false false e c b g = absurd (g x true (here c refl refl) (inl e) (inr (x, (b, c, e), stop refl)))

      again_ok : (nd : Node) → T.node x ≡ nd → eget s x ≡ busy → Gee T ⊥ (EBusy s) x true → OHolds (Quiet s) (again X T s x cont nd)
      unfolding again
      again_ok ignored e b g = ogood (quiet_refl s z)
      again_ok plain e b g = ogood (quiet_refl s z)
      again_ok (listed f) e b g = ogood (quiet_refl s z)
      again_ok (through a t) e b g = ogood (quiet_refl s z)
      again_ok (ptr t) e b g = ogood (quiet_refl s z)
      again_ok (tdef t) e b g = once_ok X.alias_line x (X.has_fwd s x) s z l (ml.alias_same s x z l)
      again_ok (proto ts) e b g = ogood (quiet_refl s z)
      again_ok (comp ms) e b g = mention_ok (X.has_fwd s x || eqb x cont) (T.named x) refl (ap is_comp e) b g

      leaf_ok : (b : Bool) → is_comp (T.node x) ≡ false → OHolds (Quiet s) (leaf X T b x s)
      unfolding leaf
      leaf_ok true nc = oholds_bind (ml.leaf_same s x z l) (λ s' h. ogood (quiet_trans (quiet_same s s' h) (quiet_mark done x s' h.good l nc)))
      leaf_ok false nc = ogood (quiet_mark done x s z l nc)

      z₁ : Good (emark busy x s)
      z₁ = ml.emark_good busy x s z l

      more : (e : ℕ) → EBusy (emark busy x s) e → (e ≡ x) ⊎ EBusy s e
      more e b = go (ℕ_discrete e x)
        where
          go : Dec (e ≡ x) → (e ≡ x) ⊎ EBusy s e
          go (yes q) = inl q
          go (no q) = inr (sym (ml.emark_other busy x s z l e q) ∙ b.0, b.1, b.2)

      -- the members of a composite, gone into
      members : (ms : List ℕ) → T.node x ≡ comp ms → (c : ℕ) → (c ≡ 0 → ⊥) → (weak : Bool) → Gee T ⊥ (EBusy s) x weak → (T.named x ≡ false) ⊎ (weak ≡ false) → OHolds (Quiet (emark busy x s)) (eeach (λ s' y. rec s' y c) ms (emark busy x s))
      members ms e c nz weak g du = eeach_ok c nz ms (emark busy x s) z₁ (λ y m. down (comp ms) y e m)
          (λ y m. gee_true (gee_member T ⊥ (EBusy s) (EBusy (emark busy x s)) x weak (ap is_comp e) more g du y (subst (λ (k : Node). Memᴰ y (kids k)) (sym e) m)))

      inner : (ms : List ℕ) → T.node x ≡ comp ms → (cont ≡ 0 → ⊥) → (nm : Bool) → T.named x ≡ nm → Gee T ⊥ (EBusy s) x true → OHolds (Quiet (emark busy x s)) (within X T rec s x cont (false || not nm) nm ms)
      unfolding within
      inner ms e nz true n g = once_ok X.fwd_line x (X.has_fwd s x || eqb x cont) (emark busy x s) z₁ l (ml.fwd_same (emark busy x s) x z₁ l)
      inner ms e nz false n g = members ms e cont nz true g (inl n)

      typedef_ok : (top : Bool) (t : ℕ) → T.node x ≡ tdef t → Gee T ⊥ (EBusy s) x true → OHolds (Quiet s) (begin X T rec s x cont top (tdef t))
      unfolding begin
      typedef_ok top t e g =
          oholds_bind (keeps (emark busy x s) t x z₁ (down (tdef t) t e (Memᴰ.head refl)) (tdef_id x t e) (gee_weaken T ⊥ (EBusy s) (EBusy (emark busy x s)) t true (ebusy_quiet s (emark busy x s) first_q) (gee_past T ⊥ (EBusy s) x t true (tdef t) e refl (Memᴰ.head refl) g)))
          (λ s' q. oholds_bind (once_ok X.alias_line x (X.has_fwd s' x) s' q.good l (ml.alias_same s' x q.good l)) (λ s'' r. ogood (quiet_trans (quiet_trans first_q (quiet_trans q r)) (quiet_mark done x s'' r.good l (ap is_comp e)))))
        where
          first_q : Quiet s (emark busy x s)
          first_q = quiet_mark busy x s z l (ap is_comp e)

      begin_ok : (nd : Node) → T.node x ≡ nd → (cont ≡ 0 → ⊥) → eget s x ≡ new → Gee T ⊥ (EBusy s) x true → OHolds (Quiet s) (begin X T rec s x cont false nd)
      unfolding begin close
      begin_ok ignored e nz n g = ogood (quiet_refl s z)
      begin_ok plain e nz n g = ogood (quiet_refl s z)
      begin_ok (listed f) e nz n g = leaf_ok (f || false) (ap is_comp e)
      begin_ok (through a t) e nz n g = keeps s t cont z (down (through a t) t e (Memᴰ.head refl)) nz (gee_any (weaken T (through a t) true) (gee_past T ⊥ (EBusy s) x t true (through a t) e refl (Memᴰ.head refl) g))
      begin_ok (ptr t) e nz n g = keeps s t cont z (down (ptr t) t e (Memᴰ.head refl)) nz (gee_past T ⊥ (EBusy s) x t true (ptr t) e refl (Memᴰ.head refl) g)
      begin_ok (tdef t) e nz n g = typedef_ok false t e g
      begin_ok (proto ts) e nz n g = eeach_ok cont nz ts s z (λ y m. down (proto ts) y e m) (λ y m. gee_past T ⊥ (EBusy s) x y true (proto ts) e refl m g)
      begin_ok (comp ms) e nz n g = oholds_bind (inner ms e nz (T.named x) refl g) (λ s' q. ogood (quiet_around x s s' z l n q))

      allowed_ok : (b : Bool) → (cont ≡ 0 → ⊥) → eget s x ≡ new → Gee T ⊥ (EBusy s) x true → OHolds (Quiet s) (allowed X T rec s x cont b)
      unfolding allowed
      allowed_ok true nz n g = obad fine_14
      allowed_ok false nz n g = rw (zero_no cont nz) (begin_ok (T.node x) refl nz n g)

      look_ok : (m : Mark) → eget s x ≡ m → (cont ≡ 0 → ⊥) → Gee T ⊥ (EBusy s) x true → OHolds (Quiet s) (look X T rec s x cont m)
      unfolding look
      look_ok new e nz g = allowed_ok (is_zero cont && not (T.named x)) nz e g
      look_ok busy e nz g = again_ok (T.node x) refl e g
      look_ok done e nz g = ogood (quiet_refl s z)

  nested : (n : ℕ) → ENested (emit X T n)
  unfolding emit
  nested zero s x cont z l nz g = obad fine_12
  nested (suc n) s x cont z l nz g = look_ok (λ s' y c. emit X T n s' y c) (λ s' y c. nested n s' y c) s x cont z l (eget s x) refl nz g

  -- At the top.

  pub record TopPost (x : ℕ) (s s' : M) : Type 0 where
    pub good : Good s'
    pub gets : (d : ℕ) → X.store.get s' d ≡ X.store.get s d
    pub tagged : X.tags s' ≡ X.tags s ++ defs T (x ∷ [])
    pub comps : (c : ℕ) → is_comp (T.node c) ≡ true → c ≢ x → eget s' c ≡ eget s c

  -- what emission may rely on at the top, for a listed id
  pub record Sound-top (s : M) (x : ℕ) : Type 0 where
    pub able : Listable T x
    pub below : x < T.count
    pub weakly : Gee T ⊥ (EBusy s) x true
    pub strongly : is_comp (T.node x) ≡ true → Gee T ⊥ (EBusy s) x false
    pub unseen : is_comp (T.node x) ≡ true → eget s x ≡ new

  quiet_top : (x : ℕ) → is_comp (T.node x) ≡ false → (s s' : M) → Quiet s s' → TopPost x s s'
  quiet_top x nc s s' q = record { good = q.good; gets = q.gets; tagged = q.silent ∙ sym (append-nil (X.tags s)) ∙ ap (λ (k : List ℕ). X.tags s ++ k) (sym (defs_none T x nc)); comps = λ c h d. q.comps c h }

  close_top : (x : ℕ) → x < T.count → NamedComp T x → (s s' : M) → Good s → Quiet (emark busy x s) s' → OHolds (TopPost x s) (close X T true x s')
  unfolding close
  close_top x l nc s s' z q = oholds_bind (ml.body_defines s' x q.good l) (λ s'' h. ogood (record {
    good = ml.emark_good done x s'' h.good l;
    gets = λ d. ml.emark_gets done x s'' h.good l d ∙ h.gets d ∙ q.gets d ∙ ml.emark_gets busy x s z l d;
    tagged = ml.emark_tags done x s'' h.good l ∙ h.tagged ∙ ap (λ (k : List ℕ). k ++ (x ∷ [])) (q.silent ∙ ml.emark_tags busy x s z l) ∙ ap (λ (k : List ℕ). X.tags s ++ k) (sym (defs_one T x nc));
    comps = λ c k d. ml.emark_other done x s'' h.good l c d ∙ h.egets c ∙ q.comps c k ∙ ml.emark_other busy x s z l c d;
  }))

  module _ (n : ℕ) (s : M) (x : ℕ) (z : Good s) (h : Sound-top s x) where
    abbrev rec_n : M → ℕ → ℕ → Out M H
    rec_n s' y c = emit X T n s' y c

    no_def : (nd : Node) → T.node x ≡ nd → is_def nd ≡ false → ⊥
    no_def nd e q = true≢false (sym h.able.kind ∙ ap is_def e ∙ q)

    begin_top : (nd : Node) → T.node x ≡ nd → OHolds (TopPost x s) (begin X T rec_n s x 0 true nd)
    unfolding begin within
    begin_top ignored e = absurd (no_def ignored e refl)
    begin_top plain e = absurd (no_def plain e refl)
    begin_top (listed f) e = oholds_map (quiet_top x (ap is_comp e) s) (leaf_ok rec_n (λ s' y c. nested n s' y c) s x 0 z h.below (f || true) (ap is_comp e))
    begin_top (through a t) e = absurd (no_def (through a t) e refl)
    begin_top (ptr t) e = absurd (no_def (ptr t) e refl)
    begin_top (tdef t) e = oholds_map (quiet_top x (ap is_comp e) s) (typedef_ok rec_n (λ s' y c. nested n s' y c) s x 0 z h.below true t e h.weakly)
    begin_top (proto ts) e = absurd (no_def (proto ts) e refl)
    begin_top (comp ms) e = oholds_bind inner_top (λ s' q. close_top x h.below (c, h.able.name c) s s' z q)
      where
        c : is_comp (T.node x) ≡ true
        c = ap is_comp e

        inner_top : OHolds (Quiet (emark busy x s)) (within X T rec_n s x 0 true (T.named x) ms)
        inner_top = rw (h.able.name c) (members rec_n (λ s' y k. nested n s' y k) s x 0 z h.below ms e x (comp_id x c) false (h.strongly c) (inr refl))

    allowed_top : (b : Bool) → OHolds (TopPost x s) (allowed X T rec_n s x 0 b)
    unfolding allowed
    allowed_top true = obad fine_14
    allowed_top false = begin_top (T.node x) refl

    seen_top : (m : Mark) → eget s x ≡ m → (m ≡ new → ⊥) → (b : Bool) → is_comp (T.node x) ≡ b → (r : Out M H) → OHolds (Quiet s) r → OHolds (TopPost x s) r
    seen_top m e k true c r q = absurd (k (sym e ∙ h.unseen c))
    seen_top m e k false c r q = oholds_map (quiet_top x c s) q

    look_top : (m : Mark) → eget s x ≡ m → OHolds (TopPost x s) (look X T rec_n s x 0 m)
    unfolding look
    look_top new e = allowed_top (is_zero 0 && not (T.named x))
    look_top busy e = seen_top busy e (λ (q : busy ≡ new). let k : ◌≡◌ {A = ℕ} 0 1 = cc in omega arith) (is_comp (T.node x)) refl (again X T s x 0 (T.node x)) (again_ok rec_n (λ s' y k. nested n s' y k) s x 0 z h.below (T.node x) refl e h.weakly)
    look_top done e = seen_top done e (λ (q : done ≡ new). let k : ◌≡◌ {A = ℕ} 0 1 = cc in omega arith) (is_comp (T.node x)) refl (wrote s) (ogood (quiet_refl s z))

  pub emit_top : (n : ℕ) (s : M) (x : ℕ) → Good s → Sound-top s x → OHolds (TopPost x s) (emit X T n s x 0)
  unfolding emit
  emit_top zero s x z h = obad fine_12
  emit_top (suc n) s x z h = look_top n s x z h (eget s x) refl
