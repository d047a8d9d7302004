-- A map between two machines that respects their operations carries the rules over: ordering, emission, a request. Assumes nothing.
use Prim.Native.Nat.{ℕ, zero, suc}
use mathlib.Core.Path.{◌≡◌, refl, ap, ◌∙◌, sym}
use mathlib.Core.List.{List, [], ◌∷◌}
use mathlib.Core.Bool.{Bool, true, false, not, ◌&&◌, ◌||◌}
use lib.Dec.{eqb}
use Rattle.spec_c_dumper.specs.rules.Order.{Table, Node, ignored, plain, listed, through, ptr, tdef, proto, comp, Mark, new, busy, done, Store, Res, ok, refused, is_comp, is_done, push_if, finish, visit, order}
use Rattle.spec_c_dumper.specs.ceiling.Ceiling.{Told, told, halted, then_bind, each_within, meet_within, enter_within, alias_within, fresh_within, visit_within}
use Rattle.spec_c_dumper.specs.rules.Machine.{Out, wrote, stuck, Machine, is_zero, pick, obind, eeach, once, mention, again, close, leaf, within, begin, allowed, look, emit}
use Rattle.spec_c_dumper.specs.rules.Request.{listed_out, dumped}
use Rattle.spec_c_dumper.proofs.ceiling.Counted.{tell}
use Rattle.spec_c_dumper.proofs.ceiling.Plain.{tell_visit}

module _ {A C : Type 0} (g : A → C) where
  abbrev pub rmap : Res A → Res C
  rmap (ok s f) = ok (g s) f
  rmap (refused c) = refused c

  abbrev pub tmap : Told A → Told C
  tmap (told s f j) = told (g s) f j
  tmap (halted c j) = halted c j

  -- gh: of what is held
  abbrev pub omap : {HA HC : Type 0} → (HA → HC) → Out A HA → Out C HC
  omap gh (wrote s) = wrote (g s)
  omap gh (stuck h c) = stuck (gh h) c

pub record StoreMap {A C : Type 0} (K : Store A) (L : Store C) (g : A → C) : Type 0 where
  pub gets : (s : A) (x : ℕ) → L.get (g s) x ≡ K.get s x
  pub marks : (d : Mark) (x : ℕ) (s : A) → L.mark d x (g s) ≡ g (K.mark d x s)
  pub pushes : (x : ℕ) (s : A) → L.push x (g s) ≡ g (K.push x s)
  pub lists : (s : A) → L.list (g s) ≡ K.list s

module _ {A C : Type 0} (g : A → C) where
  tell_map : (r : Res A) (j : ℕ) → tell (rmap g r) j ≡ tmap g (tell r j)
  unfolding tell
  tell_map (ok s f) j = refl
  tell_map (refused c) j = refl

unfoldable untell : {A : Type 0} → Told A → Res A
untell (told s f j) = ok s f
untell (halted c j) = refused c

untell_tell : {A : Type 0} (r : Res A) (j : ℕ) → untell (tell r j) ≡ r
unfolding untell tell
untell_tell (ok s f) j = refl
untell_tell (refused c) j = refl

-- one call of the rule: the stores, and with them g, may change from call to call
module _ {A C : Type 0} (K : Store A) (L : Store C) (g : A → C) (sm : StoreMap K L g) where
  map_then : (r : Told A) (k : A → Bool → ℕ → Told A) (h : C → Bool → ℕ → Told C) → ((s : A) (f : Bool) (j : ℕ) → h (g s) f j ≡ tmap g (k s f j)) → then_bind (tmap g r) h ≡ tmap g (then_bind r k)
  unfolding then_bind
  map_then (told s f j) k h e = e s f j
  map_then (halted c j) k h e = refl

  map_finish : (p : Bool) (x : ℕ) (s : A) → finish L p x (g s) ≡ g (finish K p x s)
  unfolding push_if
  map_finish true x s = ap (L.mark done x) (sm.pushes x s) ∙ sm.marks done x (K.push x s)
  map_finish false x s = sm.marks done x s

  map_each : (h : C → ℕ → ℕ → Told C) (k : A → ℕ → ℕ → Told A) → ((s : A) (y j : ℕ) → h (g s) y j ≡ tmap g (k s y j)) → (ys : List ℕ) (s : A) (f : Bool) (j : ℕ) → each_within h ys (g s) f j ≡ tmap g (each_within k ys s f j)
  unfolding each_within
  map_each h k e [] s f j = refl
  map_each h k e (y ∷ ys) s f j = ap (λ (r : Told C). then_bind r (λ s' f' j'. each_within h ys s' (f || f') j')) (e s y j)
      ∙ map_then (k s y j) (λ s' f' j'. each_within k ys s' (f || f') j') (λ s' f' j'. each_within h ys s' (f || f') j') (λ s' f' j'. map_each h k e ys s' (f || f') j')

  map_enter : (passed : Bool) (h : C → ℕ → ℕ → Told C) (k : A → ℕ → ℕ → Told A) → ((s : A) (y j : ℕ) → h (g s) y j ≡ tmap g (k s y j)) → (s : A) (x : ℕ) (nm : Bool) (ms : List ℕ) (j : ℕ)
      → enter_within L passed h (g s) x nm ms j ≡ tmap g (enter_within K passed k s x nm ms j)
  unfolding enter_within
  map_enter true h k e s x nm ms j = refl
  map_enter false h k e s x nm ms j =
      ap (λ (m : C). then_bind (each_within h ms m false j) (λ s' f j'. told (finish L nm x s') true j')) (sm.marks busy x s)
      ∙ ap (λ (r : Told C). then_bind r (λ s' f j'. told (finish L nm x s') true j')) (map_each h k e ms (K.mark busy x s) false j)
      ∙ map_then (each_within k ms (K.mark busy x s) false j) (λ s' f j'. told (finish K nm x s') true j') (λ s' f j'. told (finish L nm x s') true j') (λ s' f j'. ap (λ (m : C). told m true j') (map_finish nm x s'))

  map_alias : (lists was : Bool) (s : A) (x j : ℕ) → alias_within L lists was (g s) x j ≡ tmap g (alias_within K lists was s x j)
  unfolding alias_within
  map_alias true was s x j = ap (λ (m : C). told m true j) (map_finish (not was) x s)
  map_alias false was s x j = refl

  module _ (T : Table) (h : C → ℕ → Bool → ℕ → Told C) (k : A → ℕ → Bool → ℕ → Told A) (e : (s : A) (y : ℕ) (f : Bool) (j : ℕ) → h (g s) y f j ≡ tmap g (k s y f j)) (s : A) (x : ℕ) (weak : Bool) where
    map_fresh : (nd : Node) (j : ℕ) → fresh_within L T h (g s) x weak nd j ≡ tmap g (fresh_within K T k s x weak nd j)
    unfolding fresh_within
    map_fresh ignored j = refl
    map_fresh plain j = ap (λ (m : C). told m false j) (map_finish false x s)
    map_fresh (listed f) j = ap (λ (m : C). told m true j) (map_finish (T.named x) x s)
    map_fresh (through a y) j = e s y (not (a && T.strong_arrays) && weak) j
    map_fresh (ptr y) j = ap (λ (r : Told C). then_bind r (λ s' f j'. told (finish L false x s') f j')) (e s y true j)
        ∙ map_then (k s y true j) (λ s' f j'. told (finish K false x s') f j') (λ s' f j'. told (finish L false x s') f j') (λ s' f j'. ap (λ (m : C). told m f j') (map_finish false x s'))
    map_fresh (tdef y) j = ap (λ (r : Told C). then_bind r (λ s' f j'. alias_within L (not weak || f) (is_done (L.get s' x)) s' x j')) (e s y weak j)
        ∙ map_then (k s y weak j) (λ s' f j'. alias_within K (not weak || f) (is_done (K.get s' x)) s' x j') (λ s' f j'. alias_within L (not weak || f) (is_done (L.get s' x)) s' x j')
        (λ s' f j'. ap (λ (d : Mark). alias_within L (not weak || f) (is_done d) (g s') x j') (sm.gets s' x) ∙ map_alias (not weak || f) (is_done (K.get s' x)) s' x j')
    map_fresh (proto ts) j = map_each (λ s' y j'. h s' y weak j') (λ s' y j'. k s' y weak j') (λ s' y j'. e s' y weak j') ts s false j
    map_fresh (comp ms) j = map_enter (weak && T.named x) (λ s' y j'. h s' y false j') (λ s' y j'. k s' y false j') (λ s' y j'. e s' y false j') s x (T.named x) ms j

    map_meet : (passes : Bool) (j : ℕ) → meet_within passes (g s) j ≡ tmap g (meet_within passes s j)
    unfolding meet_within
    map_meet true j = refl
    map_meet false j = refl

    pub map_visit_within : (d : Mark) (j : ℕ) → visit_within L T h (g s) x weak d j ≡ tmap g (visit_within K T k s x weak d j)
    unfolding visit_within
    map_visit_within new j = map_fresh (T.node x) j
    map_visit_within busy j = map_meet (is_comp (T.node x) && (weak && T.named x)) j
    map_visit_within done j = refl

  -- the plain rule on the one side, or on both
  module _ (T : Table) (k : A → ℕ → Bool → Res A) (s : A) (x : ℕ) (weak : Bool) where
    pub map_visit_plain : (h : C → ℕ → Bool → ℕ → Told C) → ((s : A) (y : ℕ) (f : Bool) (j : ℕ) → h (g s) y f j ≡ tell (rmap g (k s y f)) j) → (d : Mark) (j : ℕ)
        → visit_within L T h (g s) x weak d j ≡ tell (rmap g (visit K T k s x weak d)) j
    map_visit_plain h e d j =
        map_visit_within T h (λ s' y f i. tell (k s' y f) i) (λ s' y f i. e s' y f i ∙ tell_map g (k s' y f) i) s x weak d j
        ∙ ap (tmap g) (tell_visit K T (λ s' y f i. tell (k s' y f) i) k j (λ s' y f. refl) s x weak d)
        ∙ sym (tell_map g (visit K T k s x weak d) j)

    pub map_visit : (h : C → ℕ → Bool → Res C) → ((s : A) (y : ℕ) (f : Bool) → h (g s) y f ≡ rmap g (k s y f)) → (d : Mark) → visit L T h (g s) x weak d ≡ rmap g (visit K T k s x weak d)
    map_visit h e d =
        sym (untell_tell (visit L T h (g s) x weak d) 0)
        ∙ ap untell (sym (tell_visit L T (λ s' y f i. tell (h s' y f) i) h 0 (λ s' y f. refl) (g s) x weak d)
        ∙ map_visit_plain (λ s' y f i. tell (h s' y f) i) (λ s' y f i. ap (λ (r : Res C). tell r i) (e s' y f)) d 0)
        ∙ untell_tell (rmap g (visit K T k s x weak d)) 0

  pub map_order : (n : ℕ) (T : Table) (s : A) (x : ℕ) (weak : Bool) → order L n T (g s) x weak ≡ rmap g (order K n T s x weak)
  unfolding order
  map_order zero T s x weak = refl
  map_order (suc n) T s x weak =
      ap (visit L T (λ s' y f. order L n T s' y f) (g s) x weak) (sm.gets s x)
      ∙ map_visit T (λ s' y f. order K n T s' y f) s x weak (λ s' y f. order L n T s' y f) (λ s' y f. map_order n T s' y f) (K.get s x)

pub record MachineMap {A HA C HC : Type 0} (X : Machine A HA) (Y : Machine C HC) (g : A → C) (gh : HA → HC) : Type 0 where
  pub stores : StoreMap X.store Y.store g
  pub starts : (room : ℕ) (s : A) → Y.start room (g s) ≡ g (X.start room s)
  pub egets : (s : A) (x : ℕ) → Y.eget (g s) x ≡ X.eget s x
  pub emarks : (d : Mark) (x : ℕ) (s : A) → Y.emark d x (g s) ≡ g (X.emark d x s)
  pub flags : (s : A) (x : ℕ) → Y.has_fwd (g s) x ≡ X.has_fwd s x
  pub flagged : (x : ℕ) (s : A) → Y.forwarded x (g s) ≡ g (X.forwarded x s)
  pub fwd_lines : (s : A) (x : ℕ) → Y.fwd_line (g s) x ≡ omap g gh (X.fwd_line s x)
  pub alias_lines : (s : A) (x : ℕ) → Y.alias_line (g s) x ≡ omap g gh (X.alias_line s x)
  pub leaf_lines : (s : A) (x : ℕ) → Y.leaf_line (g s) x ≡ omap g gh (X.leaf_line s x)
  pub bodies : (s : A) (x : ℕ) → Y.body (g s) x ≡ omap g gh (X.body s x)
  pub helds : (s : A) → Y.held (g s) ≡ gh (X.held s)

module _ {A HA C HC : Type 0} (X : Machine A HA) (Y : Machine C HC) (g : A → C) (gh : HA → HC) (mm : MachineMap X Y g gh) (T : Table) where
  pub map_obind : (o : Out A HA) (k : A → Out A HA) (h : C → Out C HC) → ((s : A) → h (g s) ≡ omap g gh (k s)) → obind (omap g gh o) h ≡ omap g gh (obind o k)
  unfolding obind
  map_obind (wrote s) k h e = e s
  map_obind (stuck m c) k h e = refl

  pub map_eeach : (h : C → ℕ → Out C HC) (k : A → ℕ → Out A HA) → ((s : A) (y : ℕ) → h (g s) y ≡ omap g gh (k s y)) → (ys : List ℕ) (s : A) → eeach h ys (g s) ≡ omap g gh (eeach k ys s)
  unfolding eeach
  map_eeach h k e [] s = refl
  map_eeach h k e (y ∷ ys) s = ap (λ (o : Out C HC). obind o (eeach h ys)) (e s y) ∙ map_obind (k s y) (eeach k ys) (eeach h ys) (λ s'. map_eeach h k e ys s')

  map_once : (h : C → ℕ → Out C HC) (k : A → ℕ → Out A HA) → ((s : A) (y : ℕ) → h (g s) y ≡ omap g gh (k s y)) → (x : ℕ) (had : Bool) (s : A) → once Y T h x had (g s) ≡ omap g gh (once X T k x had s)
  unfolding once
  map_once h k e x true s = refl
  map_once h k e x false s = ap (λ (o : Out C HC). obind o (λ s'. wrote (Y.forwarded x s'))) (e s x) ∙ map_obind (k s x) (λ s'. wrote (X.forwarded x s')) (λ s'. wrote (Y.forwarded x s')) (λ s'. ap (λ (m : C). wrote m) (mm.flagged x s'))

  map_mention : (had nm : Bool) (x : ℕ) (s : A) → mention Y T had nm x (g s) ≡ omap g gh (mention X T had nm x s)
  unfolding mention
  map_mention true nm x s = refl
  map_mention false true x s = map_once Y.fwd_line X.fwd_line mm.fwd_lines x false s
  map_mention false false x s = ap (λ (m : HC). stuck m 13) (mm.helds s)

  map_again : (s : A) (x cont : ℕ) (nd : Node) → again Y T (g s) x cont nd ≡ omap g gh (again X T s x cont nd)
  unfolding again
  map_again s x cont ignored = refl
  map_again s x cont plain = refl
  map_again s x cont (listed f) = refl
  map_again s x cont (through a t) = refl
  map_again s x cont (ptr t) = refl
  map_again s x cont (tdef t) = ap (λ (f : Bool). once Y T Y.alias_line x f (g s)) (mm.flags s x) ∙ map_once Y.alias_line X.alias_line mm.alias_lines x (X.has_fwd s x) s
  map_again s x cont (proto ts) = refl
  map_again s x cont (comp ms) = ap (λ (f : Bool). mention Y T (f || eqb x cont) (T.named x) x (g s)) (mm.flags s x) ∙ map_mention (X.has_fwd s x || eqb x cont) (T.named x) x s

  map_close : (top : Bool) (x : ℕ) (s : A) → close Y T top x (g s) ≡ omap g gh (close X T top x s)
  unfolding close
  map_close true x s = ap (λ (o : Out C HC). obind o (λ s'. wrote (Y.emark done x s'))) (mm.bodies s x) ∙ map_obind (X.body s x) (λ s'. wrote (X.emark done x s')) (λ s'. wrote (Y.emark done x s')) (λ s'. ap (λ (m : C). wrote m) (mm.emarks done x s'))
  map_close false x s = ap (λ (m : C). wrote m) (mm.emarks new x s)

  map_leaf : (top : Bool) (x : ℕ) (s : A) → leaf Y T top x (g s) ≡ omap g gh (leaf X T top x s)
  unfolding leaf
  map_leaf true x s = ap (λ (o : Out C HC). obind o (λ s'. wrote (Y.emark done x s'))) (mm.leaf_lines s x) ∙ map_obind (X.leaf_line s x) (λ s'. wrote (X.emark done x s')) (λ s'. wrote (Y.emark done x s')) (λ s'. ap (λ (m : C). wrote m) (mm.emarks done x s'))
  map_leaf false x s = ap (λ (m : C). wrote m) (mm.emarks done x s)

  module _ (h : C → ℕ → ℕ → Out C HC) (k : A → ℕ → ℕ → Out A HA) (e : (s : A) (y c : ℕ) → h (g s) y c ≡ omap g gh (k s y c)) (s : A) (x cont : ℕ) where
    map_within : (all nm : Bool) (ms : List ℕ) → within Y T h (g s) x cont all nm ms ≡ omap g gh (within X T k s x cont all nm ms)
    unfolding within
    map_within true nm ms = ap (eeach (λ s' y. h s' y (pick nm x cont)) ms) (mm.emarks busy x s) ∙ map_eeach (λ s' y. h s' y (pick nm x cont)) (λ s' y. k s' y (pick nm x cont)) (λ s' y. e s' y (pick nm x cont)) ms (X.emark busy x s)
    map_within false nm ms = ap (λ (f : Bool). once Y T Y.fwd_line x (f || eqb x cont) (Y.emark busy x (g s))) (mm.flags s x)
        ∙ ap (once Y T Y.fwd_line x (X.has_fwd s x || eqb x cont)) (mm.emarks busy x s)
        ∙ map_once Y.fwd_line X.fwd_line mm.fwd_lines x (X.has_fwd s x || eqb x cont) (X.emark busy x s)

    map_begin : (top : Bool) (nd : Node) → begin Y T h (g s) x cont top nd ≡ omap g gh (begin X T k s x cont top nd)
    unfolding begin
    map_begin top ignored = refl
    map_begin top plain = refl
    map_begin top (listed f) = map_leaf (f || top) x s
    map_begin top (through a t) = e s t cont
    map_begin top (ptr t) = e s t cont
    map_begin top (tdef t) = ap (λ (m : C). obind (h m t x) rest) (mm.emarks busy x s) ∙ ap (λ (o : Out C HC). obind o rest) (e (X.emark busy x s) t x)
        ∙ map_obind (k (X.emark busy x s) t x) (λ s'. obind (once X T X.alias_line x (X.has_fwd s' x) s') (λ s''. wrote (X.emark done x s''))) rest
        (λ s'. ap (λ (f : Bool). obind (once Y T Y.alias_line x f (g s')) (λ s''. wrote (Y.emark done x s''))) (mm.flags s' x)
        ∙ ap (λ (o : Out C HC). obind o (λ s''. wrote (Y.emark done x s''))) (map_once Y.alias_line X.alias_line mm.alias_lines x (X.has_fwd s' x) s')
        ∙ map_obind (once X T X.alias_line x (X.has_fwd s' x) s') (λ s''. wrote (X.emark done x s'')) (λ s''. wrote (Y.emark done x s'')) (λ s''. ap (λ (m : C). wrote m) (mm.emarks done x s'')))
      where
        rest : C → Out C HC
        rest s' = obind (once Y T Y.alias_line x (Y.has_fwd s' x) s') (λ s''. wrote (Y.emark done x s''))
    map_begin top (proto ts) = map_eeach (λ s' y. h s' y cont) (λ s' y. k s' y cont) (λ s' y. e s' y cont) ts s
    map_begin top (comp ms) = ap (λ (o : Out C HC). obind o (close Y T top x)) (map_within (top || not (T.named x)) (T.named x) ms)
        ∙ map_obind (within X T k s x cont (top || not (T.named x)) (T.named x) ms) (close X T top x) (close Y T top x) (λ s'. map_close top x s')

    map_allowed : (nameless : Bool) → allowed Y T h (g s) x cont nameless ≡ omap g gh (allowed X T k s x cont nameless)
    unfolding allowed
    map_allowed true = ap (λ (m : HC). stuck m 14) (mm.helds s)
    map_allowed false = map_begin (is_zero cont) (T.node x)

    pub map_look : (d : Mark) → look Y T h (g s) x cont d ≡ omap g gh (look X T k s x cont d)
    unfolding look
    map_look new = map_allowed (is_zero cont && not (T.named x))
    map_look busy = map_again s x cont (T.node x)
    map_look done = refl

  pub map_emit : (n : ℕ) (s : A) (x cont : ℕ) → emit Y T n (g s) x cont ≡ omap g gh (emit X T n s x cont)
  unfolding emit
  map_emit zero s x cont = ap (λ (m : HC). stuck m 12) (mm.helds s)
  map_emit (suc n) s x cont = ap (look Y T (λ s' y c. emit Y T n s' y c) (g s) x cont) (mm.egets s x)
      ∙ map_look (λ s' y c. emit Y T n s' y c) (λ s' y c. emit X T n s' y c) (λ s' y c. map_emit n s' y c) s x cont (X.eget s x)

  map_listed : (m : HA) (r : Res A) → listed_out Y T (gh m) (rmap g r) ≡ omap g gh (listed_out X T m r)
  unfolding listed_out
  map_listed m (ok s f) =
      ap (λ (l : List ℕ). obind (eeach (λ m y. emit Y T 512 m y 0) l (g s)) (λ m. wrote (Y.start 0 m))) (mm.stores.lists s)
      ∙ ap (λ (o : Out C HC). obind o (λ m. wrote (Y.start 0 m))) (map_eeach (λ m y. emit Y T 512 m y 0) (λ m y. emit X T 512 m y 0) (λ m y. map_emit 512 m y 0) (X.store.list s) s)
      ∙ map_obind (eeach (λ m y. emit X T 512 m y 0) (X.store.list s) s) (λ m. wrote (X.start 0 m)) (λ m. wrote (Y.start 0 m)) (λ m. ap (λ (c : C). wrote c) (mm.starts 0 m))
  map_listed m (refused c) = refl

  -- a request of the one machine, seen in the other
  pub map_dumped : (s : A) (x : ℕ) → dumped Y T (g s) x ≡ omap g gh (dumped X T s x)
  unfolding dumped
  map_dumped s x =
      ap (λ (m : HC). listed_out Y T m (order Y.store 512 T (g s) x false)) (mm.helds s)
      ∙ ap (listed_out Y T (gh (X.held s))) (map_order X.store Y.store g mm.stores 512 T s x false)
      ∙ map_listed (X.held s) (order X.store 512 T s x false)
