-- Ordering with leaders: without them it is the plain rule; the notes are those of the order list; and each leader leads to its id. Assumes nothing.
use Prim.Native.Nat.{ℕ, zero, suc}
use mathlib.Core.Path.{◌≡◌, refl, ap, ◌∙◌, sym, subst}
use mathlib.Core.Bool.{Bool, true, false, not, ◌&&◌, ◌||◌, true≢false}
use mathlib.Core.List.Memᴰ
use mathlib.Core.List.{List, [], ◌∷◌, ◌++◌, Memᴰ}
use mathlib.Core.Logic.{◌⊎◌, inl, inr}
use native.Mathlib.Omega.{arith}
use lib.Dec.{eqb}
use borrow.Author.Tests.{eqb-true, eqb-false}
use Rattle.spec_c_dumper.specs.rules.Order.{Node, ignored, plain, listed, through, ptr, tdef, proto, comp, Table, is_comp, Mark, new, busy, done, is_done, Store, Res, ok, refused, bind, each, meet, push_if, finish, enter, alias, fresh, visit, order}
use Rattle.spec_c_dumper.specs.needs.Needs.{kids}
use Rattle.spec_c_dumper.specs.origins.Causes.{led_by, is_around, inside, WithLeaders, leader_store, order_with_leaders, leader_of}
use Rattle.spec_c_dumper.specs.origins.Claims.{ChainFrom, itself, first, next, orders_around, is_listed, LedTo}
use Rattle.spec_c_dumper.specs.origins.Lines.{listed_ids, First, here, later}

-- ---- the plain rule
unfoldable pub without_leaders : {St : Type 0} → Res (WithLeaders St) → Res St
without_leaders (ok s b) = ok s.state b
without_leaders (refused e) = refused e

module _ {St : Type 0} (K : Store St) (req : ℕ) where
  forget_bind : (r : Res (WithLeaders St)) (f : WithLeaders St → Bool → Res (WithLeaders St)) (g : St → Bool → Res St) → ((s : WithLeaders St) (b : Bool) → without_leaders (f s b) ≡ g s.state b) → without_leaders (bind r f) ≡ bind (without_leaders r) g
  unfolding bind without_leaders
  forget_bind (ok s b) f g h = h s b
  forget_bind (refused e) f g h = refl

  -- a step after a call
  after : (r : Res (WithLeaders St)) (r' : Res St) (f : WithLeaders St → Bool → Res (WithLeaders St)) (g : St → Bool → Res St) → without_leaders r ≡ r' → ((s : WithLeaders St) (b : Bool) → without_leaders (f s b) ≡ g s.state b) → without_leaders (bind r f) ≡ bind r' g
  after r r' f g e h = forget_bind r f g h ∙ ap (λ (q : Res St). bind q g) e

  each_forgets : (f : WithLeaders St → ℕ → Res (WithLeaders St)) (g : St → ℕ → Res St) → ((s : WithLeaders St) (y : ℕ) → without_leaders (f s y) ≡ g s.state y) → (ys : List ℕ) (s : WithLeaders St) (b : Bool) → without_leaders (each f ys s b) ≡ each g ys s.state b
  unfolding each without_leaders
  each_forgets f g h [] s b = refl
  each_forgets f g h (y ∷ ys) s b = after (f s y) (g s.state y) (λ s' b'. each f ys s' (b || b')) (λ s' b'. each g ys s' (b || b')) (h s y) (λ s' b'. each_forgets f g h ys s' (b || b'))

  module _ (around : List ℕ) where
    abbrev L : Store (WithLeaders St)
    L = leader_store K req around

    push_forgets : (p : Bool) (x : ℕ) (s : WithLeaders St) → (push_if L p x s).state ≡ push_if K p x s.state
    unfolding push_if
    push_forgets true x s = refl
    push_forgets false x s = refl

    finish_forgets : (p : Bool) (x : ℕ) (s : WithLeaders St) (b : Bool) → without_leaders (ok (finish L p x s) b) ≡ ok (finish K p x s.state) b
    unfolding without_leaders
    finish_forgets p x s b = ap (λ (q : St). ok (K.mark done x q) b) (push_forgets p x s)

    alias_forgets : (p was : Bool) (s : WithLeaders St) (x : ℕ) → without_leaders (alias L p was s x) ≡ alias K p was s.state x
    unfolding alias without_leaders
    alias_forgets true was s x = finish_forgets (not was) x s true
    alias_forgets false was s x = refl

    meet_forgets : (p : Bool) (s : WithLeaders St) → without_leaders (meet p s) ≡ meet p s.state
    unfolding meet without_leaders
    meet_forgets true s = refl
    meet_forgets false s = refl

    module _ (T : Table) (rec : WithLeaders St → ℕ → Bool → Res (WithLeaders St)) (plainly : St → ℕ → Bool → Res St) (h : (s : WithLeaders St) (y : ℕ) (w : Bool) → without_leaders (rec s y w) ≡ plainly s.state y w) (s : WithLeaders St) (x : ℕ) (weak : Bool) where
      enter_forgets : (p nm : Bool) (ms : List ℕ) → without_leaders (enter L p (λ s' y. rec s' y false) s x nm ms) ≡ enter K p (λ s' y. plainly s' y false) s.state x nm ms
      unfolding enter without_leaders
      enter_forgets true nm ms = refl
      enter_forgets false nm ms =
          after (each (λ s' y. rec s' y false) ms (L.mark busy x s) false) (each (λ s' y. plainly s' y false) ms (K.mark busy x s.state) false)
          (λ s' b. ok (finish L nm x s') true) (λ s' b. ok (finish K nm x s') true)
          (each_forgets (λ s' y. rec s' y false) (λ s' y. plainly s' y false) (λ s' y. h s' y false) ms (L.mark busy x s) false) (λ s' b. finish_forgets nm x s' true)

      fresh_forgets : (nd : Node) → without_leaders (fresh L T rec s x weak nd) ≡ fresh K T plainly s.state x weak nd
      unfolding fresh without_leaders
      fresh_forgets ignored = refl
      fresh_forgets plain = finish_forgets false x s false
      fresh_forgets (listed f) = finish_forgets (T.named x) x s true
      fresh_forgets (through a t) = h s t (not (a && T.strong_arrays) && weak)
      fresh_forgets (ptr t) = after (rec s t true) (plainly s.state t true) (λ s' b. ok (finish L false x s') b) (λ s' b. ok (finish K false x s') b) (h s t true) (λ s' b. finish_forgets false x s' b)
      fresh_forgets (tdef t) =
          after (rec s t weak) (plainly s.state t weak) (λ s' b. alias L (not weak || b) (is_done (L.get s' x)) s' x) (λ s' b. alias K (not weak || b) (is_done (K.get s' x)) s' x) (h s t weak)
          (λ s' b. alias_forgets (not weak || b) (is_done (K.get s'.state x)) s' x)
      fresh_forgets (proto ts) = each_forgets (λ s' y. rec s' y weak) (λ s' y. plainly s' y weak) (λ s' y. h s' y weak) ts s false
      fresh_forgets (comp ms) = enter_forgets (weak && T.named x) (T.named x) ms

      visit_forgets : (m : Mark) → without_leaders (visit L T rec s x weak m) ≡ visit K T plainly s.state x weak m
      unfolding visit without_leaders
      visit_forgets new = fresh_forgets (T.node x)
      visit_forgets busy = meet_forgets (is_comp (T.node x) && (weak && T.named x)) s
      visit_forgets done = refl

  -- without the leaders it is the rule `order`, refusals included
  pub order_forgets : (n : ℕ) (T : Table) (around : List ℕ) (s : WithLeaders St) (x : ℕ) (weak : Bool) → without_leaders (order_with_leaders K req n T around s x weak) ≡ order K n T s.state x weak
  unfolding order_with_leaders order without_leaders
  order_forgets zero T around s x weak = refl
  order_forgets (suc n) T around s x weak =
      visit_forgets around T (λ s' y w. order_with_leaders K req n T (inside (is_around (T.node x)) x around) s' y w) (λ s' y w. order K n T s' y w)
      (λ s' y w. order_forgets n T (inside (is_around (T.node x)) x around) s' y w) s x weak (K.get s.state x)

-- ---- what every step keeps

pub data Holds {St : Type 0} (P : St → Type 0) : Res St → Type 0 where
  holds : {s : St} {b : Bool} → P s → Holds P (ok s b)
  none : {e : ℕ} → Holds P (refused e)

holds_bind : {St : Type 0} {P : St → Type 0} {r : Res St} (k : St → Bool → Res St) → Holds P r → ((s : St) (b : Bool) → P s → Holds P (k s b)) → Holds P (bind r k)
unfolding bind
holds_bind k (holds h) f = f _ _ h
holds_bind k none f = none

-- what is being ordered around x: each leads to the one inside it, and the request to the outermost
pub data Around (T : Table) (req : ℕ) : List ℕ → ℕ → Type 0 where
  outermost : (x : ℕ) → ChainFrom T (orders_around T) req x → Around T req [] x
  under : (a : ℕ) (around : List ℕ) (x : ℕ) → is_around (T.node a) ≡ true → ChainFrom T (orders_around T) a x → Around T req around a → Around T req (a ∷ around) x

module _ {St : Type 0} (K : Store St) (T : Table) (req : ℕ) (P : WithLeaders St → Type 0) (on_mark : (m : Mark) (x : ℕ) (s : WithLeaders St) → P s → P (record { state = K.mark m x s.state; leaders = s.leaders }))
    (on_push : (around : List ℕ) (x : ℕ) → Around T req around x → is_listed (T.node x) ≡ true → (s : WithLeaders St) → P s → P (record { state = K.push x s.state; leaders = s.leaders ++ ((x, led_by req around x) ∷ []) })) where
  each_keeps : (f : WithLeaders St → ℕ → Res (WithLeaders St)) (ys : List ℕ) → ((s : WithLeaders St) (y : ℕ) → Memᴰ y ys → P s → Holds P (f s y)) → (s : WithLeaders St) (b : Bool) → P s → Holds P (each f ys s b)
  unfolding each
  each_keeps f [] hf s b h = holds h
  each_keeps f (y ∷ ys) hf s b h = holds_bind (λ s' b'. each f ys s' (b || b')) (hf s y (Memᴰ.head refl) h) (λ s' b' h'. each_keeps f ys (λ s'' z m. hf s'' z (Memᴰ.tail m)) s' (b || b') h')

  -- a call for x, inside the ones around it
  module _ (around : List ℕ) (x : ℕ) (c : Around T req around x) where
    abbrev L' : Store (WithLeaders St)
    L' = leader_store K req around

    push_keeps : (p : Bool) → (p ≡ true → is_listed (T.node x) ≡ true) → (s : WithLeaders St) → P s → P (push_if L' p x s)
    unfolding push_if
    push_keeps true i s h = on_push around x c (i refl) s h
    push_keeps false i s h = h

    finish_keeps : (p b : Bool) → (p ≡ true → is_listed (T.node x) ≡ true) → (s : WithLeaders St) → P s → Holds P (ok (finish L' p x s) b)
    finish_keeps p b i s h = holds (on_mark done x (push_if L' p x s) (push_keeps p i s h))

    alias_keeps : (p was : Bool) → is_listed (T.node x) ≡ true → (s : WithLeaders St) → P s → Holds P (alias L' p was s x)
    unfolding alias
    alias_keeps true was i s h = finish_keeps (not was) true (λ q. i) s h
    alias_keeps false was i s h = holds h

    not_listed : false ≡ true → is_listed (T.node x) ≡ true
    not_listed q = absurd (true≢false (sym q))

    meet_keeps : (p : Bool) (s : WithLeaders St) → P s → Holds P (meet p s)
    unfolding meet
    meet_keeps true s h = holds h
    meet_keeps false s h = none

    module _ (rec : WithLeaders St → ℕ → Bool → Res (WithLeaders St)) (weak : Bool) (s : WithLeaders St) (h : P s) where
      enter_keeps : (p nm : Bool) (ms : List ℕ) → is_listed (T.node x) ≡ true → ((s' : WithLeaders St) (y : ℕ) (w : Bool) → Memᴰ y ms → P s' → Holds P (rec s' y w)) → Holds P (enter L' p (λ s' y. rec s' y false) s x nm ms)
      unfolding enter
      enter_keeps true nm ms i k = holds h
      enter_keeps false nm ms i k =
          holds_bind (λ s' b. ok (finish L' nm x s') true) (each_keeps (λ s' y. rec s' y false) ms (λ s' y m h'. k s' y false m h') (L'.mark busy x s) false (on_mark busy x s h)) (λ s' b h'. finish_keeps nm true (λ q. i) s' h')

      fresh_keeps : (nd : Node) → T.node x ≡ nd → ((s' : WithLeaders St) (y : ℕ) (w : Bool) → Memᴰ y (kids nd) → P s' → Holds P (rec s' y w)) → Holds P (fresh L' T rec s x weak nd)
      unfolding fresh
      fresh_keeps ignored e k = holds h
      fresh_keeps plain e k = finish_keeps false false not_listed s h
      fresh_keeps (listed f) e k = finish_keeps (T.named x) true (λ q. ap is_listed e) s h
      fresh_keeps (through a t) e k = k s t (not (a && T.strong_arrays) && weak) (Memᴰ.head refl) h
      fresh_keeps (ptr t) e k = holds_bind (λ s' b. ok (finish L' false x s') b) (k s t true (Memᴰ.head refl) h) (λ s' b h'. finish_keeps false b not_listed s' h')
      fresh_keeps (tdef t) e k = holds_bind (λ s' b. alias L' (not weak || b) (is_done (L'.get s' x)) s' x) (k s t weak (Memᴰ.head refl) h) (λ s' b h'. alias_keeps (not weak || b) (is_done (L'.get s' x)) (ap is_listed e) s' h')
      fresh_keeps (proto ts) e k = each_keeps (λ s' y. rec s' y weak) ts (λ s' y m h'. k s' y weak m h') s false h
      fresh_keeps (comp ms) e k = enter_keeps (weak && T.named x) (T.named x) ms (ap is_listed e) k

      visit_keeps : ((s' : WithLeaders St) (y : ℕ) (w : Bool) → Memᴰ y (kids (T.node x)) → P s' → Holds P (rec s' y w)) → (m : Mark) → Holds P (visit L' T rec s x weak m)
      unfolding visit
      visit_keeps k new = fresh_keeps (T.node x) refl k
      visit_keeps k busy = meet_keeps (is_comp (T.node x) && (weak && T.named x)) s h
      visit_keeps k done = holds h

  -- what is followed from x
  onward : (around : List ℕ) (x y : ℕ) → Around T req around x → Memᴰ y (kids (T.node x)) → (b : Bool) → is_around (T.node x) ≡ b → Around T req (inside b x around) y
  onward around x y c m true e = under x around y e (first y m) c
  onward [] x y (outermost _ l) m false e = outermost y (next x y l e m)
  onward (a ∷ around) x y (under _ _ _ q l c) m false e = under a around y q (next x y l e m) c

  pub order_keeps : (n : ℕ) (around : List ℕ) (s : WithLeaders St) (x : ℕ) (weak : Bool) → Around T req around x → P s → Holds P (order_with_leaders K req n T around s x weak)
  unfolding order_with_leaders
  order_keeps zero around s x weak c h = none
  order_keeps (suc n) around s x weak c h =
      visit_keeps around x c (λ s' y w. order_with_leaders K req n T (inside (is_around (T.node x)) x around) s' y w) weak s h
      (λ s' y w m h'. order_keeps n (inside (is_around (T.node x)) x around) s' y w (onward around x y c m (is_around (T.node x)) refl) h') (K.get s.state x)

-- ---- leaders
led_to : (T : Table) (req : ℕ) (around : List ℕ) (x : ℕ) → is_listed (T.node x) ≡ true → Around T req around x → LedTo T req x (led_by req around x)
unfolding led_by
led_to T req [] x i (outermost _ l) = record { is_listed_lem = i; leads = l; which = inl refl }
led_to T req (a ∷ around) x i (under _ _ _ q l c) = by (eqb a x) refl (λ c'. led_to T req around x i c')
  where
    by : (b : Bool) → eqb a x ≡ b → (Around T req around x → LedTo T req x (led_by req around x)) → LedTo T req x (elim b [ true ↦ led_by req around x | false ↦ a ])
    by true e f = f (subst (Around T req around) (eqb-true a x e) c)
    by false e f = record { is_listed_lem = i; leads = l; which = inr (eqb-false a x e, q) }

-- all notes so far
abbrev pub AllLedTo : {St : Type 0} → Table → ℕ → WithLeaders St → Type 0
AllLedTo T req s = (p : ℕ × ℕ) → Memᴰ p s.leaders → LedTo T req p.0 p.1

pub ids_append : (ps qs : List (ℕ × ℕ)) → listed_ids (ps ++ qs) ≡ listed_ids ps ++ listed_ids qs
ids_append [] qs = refl
ids_append (p ∷ ps) qs = ap (λ (l : List ℕ). p.0 ∷ l) (ids_append ps qs)

module _ {St : Type 0} (K : Store St) (T : Table) (req : ℕ) where
  pub push_leader : (around : List ℕ) (x : ℕ) → Around T req around x → is_listed (T.node x) ≡ true → (s : WithLeaders St) → AllLedTo T req s → AllLedTo T req ((leader_store K req around).push x s)
  push_leader around x c i s h p m = by (Memᴰ.append_cases s.leaders m)
    where
      by : Memᴰ p s.leaders ⊎ Memᴰ p ((x, led_by req around x) ∷ []) → LedTo T req p.0 p.1
      by (inl q) = h p q
      by (inr q) = subst (λ (k : ℕ × ℕ). LedTo T req k.0 k.1) (sym (Memᴰ.eq_of_singleton q)) (led_to T req around x i c)

  -- Every leader leads to its id, past neither a composite nor a typedef; it is another composite or typedef, or the requested id.
  pub order_with_leaders_lem : (n : ℕ) (s : St) (weak : Bool) → Holds (AllLedTo T req) (order_with_leaders K req n T [] (record { state = s; leaders = [] }) req weak)
  order_with_leaders_lem n s weak = order_keeps K T req (AllLedTo T req) (λ m x s' h. h) push_leader n [] (record { state = s; leaders = [] }) req weak (outermost req itself) (λ p m. absurd (Memᴰ.not-nil m))

  -- the notes are the order list with a leader for each id
  abbrev Beside : WithLeaders St → Type 0
  Beside s = K.list s.state ≡ listed_ids s.leaders

  pub notes_list : ((m : Mark) (x : ℕ) (s : St) → K.list (K.mark m x s) ≡ K.list s) → ((x : ℕ) (s : St) → K.list (K.push x s) ≡ K.list s ++ (x ∷ []))
      → (n : ℕ) (s : St) (weak : Bool) → K.list s ≡ [] → Holds Beside (order_with_leaders K req n T [] (record { state = s; leaders = [] }) req weak)
  notes_list on_mark on_push n s weak e =
      order_keeps K T req Beside (λ m x s' h. on_mark m x s'.state ∙ h)
      (λ around x c i s' h. on_push x s'.state ∙ ap (λ (l : List ℕ). l ++ (x ∷ [])) h ∙ sym (ids_append s'.leaders ((x, led_by req around x) ∷ []))) n [] (record { state = s; leaders = [] }) req weak (outermost req itself) e

-- the leader at the first listing of a listed id
pub first_led_to : (T : Table) (req : ℕ) (leaders : List (ℕ × ℕ)) → ((p : ℕ × ℕ) → Memᴰ p leaders → LedTo T req p.0 p.1) → (x : ℕ) → Memᴰ x (listed_ids leaders) → LedTo T req x (leader_of req leaders x)
unfolding leader_of
first_led_to T req [] h x m = absurd (Memᴰ.not-nil m)
first_led_to T req (p ∷ leaders) h x m = by (eqb p.0 x) refl (λ n. first_led_to T req leaders (λ q i. h q (Memᴰ.tail i)) x n)
  where
    later : (p.0 ≡ x → ⊥) → (x ≡ p.0) ⊎ Memᴰ x (listed_ids leaders) → Memᴰ x (listed_ids leaders)
    later d (inl q) = absurd (d (sym q))
    later d (inr q) = q

    by : (b : Bool) → eqb p.0 x ≡ b → (Memᴰ x (listed_ids leaders) → LedTo T req x (leader_of req leaders x)) → LedTo T req x (elim b [ true ↦ p.1 | false ↦ leader_of req leaders x ])
    by true e f = subst (λ (y : ℕ). LedTo T req y p.1) (eqb-true p.0 x e) (h p (Memᴰ.head refl))
    by false e f = f (later (eqb-false p.0 x e) (Memᴰ.cases_cons m))

pub first_is_leader : (req : ℕ) (leaders : List (ℕ × ℕ)) (x : ℕ) → Memᴰ x (listed_ids leaders) → First x (leader_of req leaders x) leaders
unfolding leader_of
first_is_leader req [] x m = absurd (Memᴰ.not-nil m)
first_is_leader req (p ∷ leaders) x m = by (eqb p.0 x) refl (λ n. first_is_leader req leaders x n)
  where
    others : (p.0 ≡ x → ⊥) → (x ≡ p.0) ⊎ Memᴰ x (listed_ids leaders) → Memᴰ x (listed_ids leaders)
    others d (inl q) = absurd (d (sym q))
    others d (inr q) = q

    by : (b : Bool) → eqb p.0 x ≡ b → (Memᴰ x (listed_ids leaders) → First x (leader_of req leaders x) leaders) → First x (elim b [ true ↦ p.1 | false ↦ leader_of req leaders x ]) (p ∷ leaders)
    by true e f = subst (λ (y : ℕ). First x p.1 ((y, p.1) ∷ leaders)) (sym (eqb-true p.0 x e)) (here leaders)
    by false e f = let d : p.0 ≡ x → ⊥ = eqb-false p.0 x e in later p leaders d (f (others d (Memᴰ.cases_cons m)))

-- ---- ordering is not refused by 0: only by 12 and 13
pub data NotNone {St : Type 0} : Res St → Type 0 where
  accepted : {s : St} {b : Bool} → NotNone (ok s b)
  stopped : {e : ℕ} → (e ≡ 0 → ⊥) → NotNone (refused e)

module _ {St : Type 0} (K : Store St) (T : Table) where
  bind_not : {r : Res St} (k : St → Bool → Res St) → NotNone r → ((s : St) (b : Bool) → NotNone (k s b)) → NotNone (bind r k)
  unfolding bind
  bind_not k accepted f = f _ _
  bind_not k (stopped e) f = stopped e

  each_not : (f : St → ℕ → Res St) → ((s : St) (y : ℕ) → NotNone (f s y)) → (ys : List ℕ) (s : St) (b : Bool) → NotNone (each f ys s b)
  unfolding each
  each_not f h [] s b = accepted
  each_not f h (y ∷ ys) s b = bind_not (λ s' b'. each f ys s' (b || b')) (h s y) (λ s' b'. each_not f h ys s' (b || b'))

  meet_not : (p : Bool) (s : St) → NotNone (meet p s)
  unfolding meet
  meet_not true s = accepted
  meet_not false s = stopped (λ (e : ◌≡◌ {A = ℕ} 13 0). omega arith)

  alias_not : (p was : Bool) (s : St) (x : ℕ) → NotNone (alias K p was s x)
  unfolding alias
  alias_not true was s x = accepted
  alias_not false was s x = accepted

  module _ (rec : St → ℕ → Bool → Res St) (h : (s : St) (y : ℕ) (w : Bool) → NotNone (rec s y w)) (s : St) (x : ℕ) (weak : Bool) where
    enter_not : (p nm : Bool) (ms : List ℕ) → NotNone (enter K p (λ s' y. rec s' y false) s x nm ms)
    unfolding enter
    enter_not true nm ms = accepted
    enter_not false nm ms = bind_not (λ s' b. ok (finish K nm x s') true) (each_not (λ s' y. rec s' y false) (λ s' y. h s' y false) ms (K.mark busy x s) false) (λ s' b. accepted)

    fresh_not : (nd : Node) → NotNone (fresh K T rec s x weak nd)
    unfolding fresh
    fresh_not ignored = accepted
    fresh_not plain = accepted
    fresh_not (listed f) = accepted
    fresh_not (through a t) = h s t (not (a && T.strong_arrays) && weak)
    fresh_not (ptr t) = bind_not (λ s' b. ok (finish K false x s') b) (h s t true) (λ s' b. accepted)
    fresh_not (tdef t) = bind_not (λ s' b. alias K (not weak || b) (is_done (K.get s' x)) s' x) (h s t weak) (λ s' b. alias_not (not weak || b) (is_done (K.get s' x)) s' x)
    fresh_not (proto ts) = each_not (λ s' y. rec s' y weak) (λ s' y. h s' y weak) ts s false
    fresh_not (comp ms) = enter_not (weak && T.named x) (T.named x) ms

    visit_not : (m : Mark) → NotNone (visit K T rec s x weak m)
    unfolding visit
    visit_not new = fresh_not (T.node x)
    visit_not busy = meet_not (is_comp (T.node x) && (weak && T.named x)) s
    visit_not done = accepted

pub order_not : {St : Type 0} (K : Store St) (req : ℕ) (n : ℕ) (T : Table) (around : List ℕ) (s : WithLeaders St) (x : ℕ) (weak : Bool) → NotNone (order_with_leaders K req n T around s x weak)
unfolding order_with_leaders
order_not K req zero T around s x weak = stopped (λ (e : ◌≡◌ {A = ℕ} 12 0). omega arith)
order_not K req (suc n) T around s x weak =
    visit_not (leader_store K req around) T (λ s' y w. order_with_leaders K req n T (inside (is_around (T.node x)) x around) s' y w)
    (λ s' y w. order_not K req n T (inside (is_around (T.node x)) x around) s' y w) s x weak (K.get s.state x)

-- Two numbers do for what is being ordered: the innermost id, and the leader of that one. Inside x they are x and the leader of x.
pub two_numbers : (req : ℕ) (around : List ℕ) (x z : ℕ) → led_by req (x ∷ around) z ≡ elim (eqb x z) [ true ↦ led_by req around x | false ↦ x ]
unfolding led_by
two_numbers req around x z = by (eqb x z) refl
  where
    by : (b : Bool) → eqb x z ≡ b → ◌≡◌ {A = ℕ} (elim b [ true ↦ led_by req around z | false ↦ x ]) (elim b [ true ↦ led_by req around x | false ↦ x ])
    by true e = ap (led_by req around) (sym (eqb-true x z e))
    by false e = refl
