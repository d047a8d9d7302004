-- Ordering with leaders over two stores whose steps go alike: the same leaders, in the same order. Assumes nothing.
use Prim.Native.Nat.{ℕ, zero, suc, ◌<◌}
use native.Mathlib.Omega.{arith}
use mathlib.Core.Path.{◌≡◌, refl, ap, ◌∙◌, sym, subst}
use mathlib.Core.Bool.{Bool, true, false, not, ◌&&◌, ◌||◌}
use mathlib.Core.List.{List, [], ◌∷◌, ◌++◌, Memᴰ}
use lib.ListN.{length}
use Rattle.spec_c_dumper.specs.rules.Order.{Node, ignored, plain, listed, through, ptr, tdef, proto, comp, Table, is_comp, Mark, new, busy, done, is_done, Store, Lawful, Framed, Res, ok, refused, bind, each, meet, push_if, finish, enter, alias, fresh, visit, order}
use Rattle.spec_c_dumper.specs.needs.Needs.{kids}
use Rattle.spec_c_dumper.proofs.needs.Ways.{clash_new, tally_mono}
use Rattle.spec_c_dumper.proofs.needs.Alike.{Both, both, neither, AlikeStore, Live, Went, order_alike}
use Rattle.spec_c_dumper.specs.origins.Causes.{led_by, is_around, inside, WithLeaders, leader_store, order_with_leaders}
use Rattle.spec_c_dumper.proofs.origins.Ordering.{without_leaders, order_forgets}

-- what two orderings with leaders come to: states in Q and the same leaders, or the same refusal
pub data BothLeaders {S₁ S : Type 0} (Q : S₁ → S → Type 0) : Res (WithLeaders S₁) → Res (WithLeaders S) → Type 0 where
  both_leaders : (s : WithLeaders S₁) (t : WithLeaders S) (b : Bool) → Q s.state t.state → s.leaders ≡ t.leaders → BothLeaders Q (ok s b) (ok t b)
  neither_leader : (e : ℕ) → BothLeaders Q (refused e) (refused e)

-- the leaders alone
data SameLeaders {S₁ S : Type 0} : Res (WithLeaders S₁) → Res (WithLeaders S) → Type 0 where
  same_leaders : (s : WithLeaders S₁) (t : WithLeaders S) (b c : Bool) → s.leaders ≡ t.leaders → SameLeaders (ok s b) (ok t c)
  no_leader : (e d : ℕ) → SameLeaders (refused e) (refused d)

leaders : {S₁ S : Type 0} {Q : S₁ → S → Type 0} {r₁ : Res (WithLeaders S₁)} {r : Res (WithLeaders S)} → BothLeaders Q r₁ r → SameLeaders r₁ r
leaders (both_leaders s t b q e) = same_leaders s t b b e
leaders (neither_leader e) = no_leader e e

same_state : {S₁ S : Type 0} {P : S₁ → S → Bool → Type 0} {s : S₁} {t : S} {b c : Bool} → Both P (ok s b) (ok t c) → P s t b × (b ≡ c)
same_state (both s t b h) = (h, refl)

same_refusal : {S₁ S : Type 0} {P : S₁ → S → Bool → Type 0} {e d : ℕ} → Both P (refused e) (refused d) → e ≡ d
same_refusal (neither e) = refl

leaders_then : {S₁ S : Type 0} {r₁ : Res (WithLeaders S₁)} {r : Res (WithLeaders S)} (k₁ : WithLeaders S₁ → Bool → Res (WithLeaders S₁)) (k : WithLeaders S → Bool → Res (WithLeaders S)) → SameLeaders r₁ r
    → ((s : WithLeaders S₁) (t : WithLeaders S) (b c : Bool) → s.leaders ≡ t.leaders → SameLeaders (k₁ s b) (k t c)) → SameLeaders (bind r₁ k₁) (bind r k)
unfolding bind
leaders_then k₁ k (same_leaders s t b c e) f = f s t b c e
leaders_then k₁ k (no_leader e d) f = no_leader e d

leaders_bind : {S₁ S : Type 0} {Q : S₁ → S → Type 0} {r₁ : Res (WithLeaders S₁)} {r : Res (WithLeaders S)} (k₁ : WithLeaders S₁ → Bool → Res (WithLeaders S₁)) (k : WithLeaders S → Bool → Res (WithLeaders S)) → BothLeaders Q r₁ r
    → ((s : WithLeaders S₁) (t : WithLeaders S) (b : Bool) → Q s.state t.state → s.leaders ≡ t.leaders → SameLeaders (k₁ s b) (k t b)) → SameLeaders (bind r₁ k₁) (bind r k)
unfolding bind
leaders_bind k₁ k (both_leaders s t b q e) f = f s t b q e
leaders_bind k₁ k (neither_leader e) f = no_leader e e

module _ {S₁ S : Type 0} (K₁ : Store S₁) (K : Store S) (T : Table) (Good : S → Type 0) (law : Lawful K T.count Good) (Fr : S → S → Type 0) (framed : Framed K T.count Good Fr)
    (below : (x y : ℕ) → Memᴰ y (kids (T.node x)) → y < T.count) (Q : S₁ → S → Type 0) (al : AlikeStore K₁ K T.count Good Q) (req : ℕ) where
  abbrev Lives : S₁ → S → Type 0
  Lives s t = Live K₁ K T Good law Fr framed below Q al s t

  abbrev Goes : S → S₁ → S → Bool → Type 0
  Goes t₀ s t b = Went K₁ K T Good law Fr framed below Q al t₀ s t b

  -- the states are known from ordering without leaders
  joined : (t₀ : S) {r₁ : Res (WithLeaders S₁)} {r : Res (WithLeaders S)} → SameLeaders r₁ r → Both (Goes t₀) (without_leaders r₁) (without_leaders r) → BothLeaders Lives r₁ r
  unfolding without_leaders
  joined t₀ (same_leaders s t b c e) h = let k : Goes t₀ s.state t.state b × (b ≡ c) = same_state h in subst (λ (d : Bool). BothLeaders Lives (ok s b) (ok t d)) k.1 (both_leaders s t b k.0.live e)
  joined t₀ (no_leader e d) h = subst (λ (c : ℕ). BothLeaders Lives (refused e) (refused c)) (same_refusal h) (neither_leader e)

  plainly : (n : ℕ) (around : List ℕ) (s : WithLeaders S₁) (t : WithLeaders S) (x : ℕ) (weak : Bool) → Lives s.state t.state → x < T.count
      → Both (Goes t.state) (without_leaders (order_with_leaders K₁ req n T around s x weak)) (without_leaders (order_with_leaders K req n T around t x weak))
  plainly n around s t x weak h l =
      subst (λ (r : Res S₁). Both (Goes t.state) r (without_leaders (order_with_leaders K req n T around t x weak))) (sym (order_forgets K₁ req n T around s x weak))
      (subst (λ (r : Res S). Both (Goes t.state) (order K₁ n T s.state x weak) r) (sym (order_forgets K req n T around t x weak)) (order_alike K₁ K T Good law Fr framed below Q al n s.state t.state x weak h l))

  busy_live : (x : ℕ) (s : S₁) (t : S) → Lives s t → x < T.count → K.get t x ≡ new → Lives (K₁.mark busy x s) (K.mark busy x t)
  busy_live x s t h l e = record {
    related = al.a_mark busy x s t h.related l;
    room = omega (arith, h.room, ap length list_same, tally_mono (K.get t) (K.get (K.mark busy x t)) up T.count);
    ids = λ y m. h.ids y (subst (Memᴰ y) list_same m);
  }
    where
      list_same : K.list (K.mark busy x t) ≡ K.list t
      list_same = law.mark_list busy x t (al.a_good s t h.related) l

      up : (d : ℕ) → K.get t d ≡ done → K.get (K.mark busy x t) d ≡ done
      up d q = law.mark_other busy x t (al.a_good s t h.related) l d (λ w. clash_new (K.get t x) e (ap (K.get t) (sym w) ∙ q)) ∙ q

  each_leaders : (f₁ : WithLeaders S₁ → ℕ → Res (WithLeaders S₁)) (f : WithLeaders S → ℕ → Res (WithLeaders S)) → ((s : WithLeaders S₁) (t : WithLeaders S) (y : ℕ) → Lives s.state t.state → s.leaders ≡ t.leaders → y < T.count → BothLeaders Lives (f₁ s y) (f t y))
      → (ys : List ℕ) → ((y : ℕ) → Memᴰ y ys → y < T.count) → (s : WithLeaders S₁) (t : WithLeaders S) (b : Bool) → Lives s.state t.state → s.leaders ≡ t.leaders → SameLeaders (each f₁ ys s b) (each f ys t b)
  unfolding each
  each_leaders f₁ f hf [] l s t b h e = same_leaders s t b b e
  each_leaders f₁ f hf (y ∷ ys) l s t b h e =
      leaders_bind (λ s' b'. each f₁ ys s' (b || b')) (λ t' b'. each f ys t' (b || b')) (hf s t y h e (l y (Memᴰ.head refl)))
      (λ s' t' b' h' e'. each_leaders f₁ f hf ys (λ z m. l z (Memᴰ.tail m)) s' t' (b || b') h' e')

  -- a call for x, inside the ones around it
  module _ (around : List ℕ) (x : ℕ) (l : x < T.count) where
    abbrev L₁ : Store (WithLeaders S₁)
    L₁ = leader_store K₁ req around

    abbrev L : Store (WithLeaders S)
    L = leader_store K req around

    push_leader : (p : Bool) (s : WithLeaders S₁) (t : WithLeaders S) → s.leaders ≡ t.leaders → (push_if L₁ p x s).leaders ≡ (push_if L p x t).leaders
    unfolding push_if
    push_leader true s t e = ap (λ (k : List (ℕ × ℕ)). k ++ ((x, led_by req around x) ∷ [])) e
    push_leader false s t e = e

    finish_leaders : (p b c : Bool) (s : WithLeaders S₁) (t : WithLeaders S) → s.leaders ≡ t.leaders → SameLeaders (ok (finish L₁ p x s) b) (ok (finish L p x t) c)
    finish_leaders p b c s t e = same_leaders (finish L₁ p x s) (finish L p x t) b c (push_leader p s t e)

    alias_leaders : (p was : Bool) (s : WithLeaders S₁) (t : WithLeaders S) → s.leaders ≡ t.leaders → SameLeaders (alias L₁ p was s x) (alias L p was t x)
    unfolding alias
    alias_leaders true was s t e = finish_leaders (not was) true true s t e
    alias_leaders false was s t e = same_leaders s t false false e

    meet_leaders : (p : Bool) (s : WithLeaders S₁) (t : WithLeaders S) → s.leaders ≡ t.leaders → SameLeaders (meet p s) (meet p t)
    unfolding meet
    meet_leaders true s t e = same_leaders s t false false e
    meet_leaders false s t e = no_leader 13 13

    module _ (rec₁ : WithLeaders S₁ → ℕ → Bool → Res (WithLeaders S₁)) (rec : WithLeaders S → ℕ → Bool → Res (WithLeaders S))
        (keeps : (s : WithLeaders S₁) (t : WithLeaders S) (y : ℕ) (w : Bool) → Lives s.state t.state → s.leaders ≡ t.leaders → y < T.count → BothLeaders Lives (rec₁ s y w) (rec t y w))
        (s : WithLeaders S₁) (t : WithLeaders S) (weak : Bool) (h : Lives s.state t.state) (e : s.leaders ≡ t.leaders) where
      down : (nd : Node) (y : ℕ) → T.node x ≡ nd → Memᴰ y (kids nd) → y < T.count
      down nd y q m = below x y (subst (λ (k : Node). Memᴰ y (kids k)) (sym q) m)

      enter_leaders : (ms : List ℕ) → T.node x ≡ comp ms → K.get t.state x ≡ new → (b : Bool) → SameLeaders (enter L₁ b (λ s' y. rec₁ s' y false) s x (T.named x) ms) (enter L b (λ t' y. rec t' y false) t x (T.named x) ms)
      unfolding enter
      enter_leaders ms q n true = same_leaders s t false false e
      enter_leaders ms q n false =
          leaders_then (λ s' b. ok (finish L₁ (T.named x) x s') true) (λ t' b. ok (finish L (T.named x) x t') true)
          (each_leaders (λ s' y. rec₁ s' y false) (λ t' y. rec t' y false) (λ s' t' y h' e' l'. keeps s' t' y false h' e' l') ms (λ y m. down (comp ms) y q m) (L₁.mark busy x s) (L.mark busy x t) false (busy_live x s.state t.state h l n) e)
          (λ s' t' b c e'. finish_leaders (T.named x) true true s' t' e')

      fresh_leaders : (nd : Node) → T.node x ≡ nd → K.get t.state x ≡ new → SameLeaders (fresh L₁ T rec₁ s x weak nd) (fresh L T rec t x weak nd)
      unfolding fresh
      fresh_leaders ignored q n = same_leaders s t false false e
      fresh_leaders plain q n = finish_leaders false false false s t e
      fresh_leaders (listed f) q n = finish_leaders (T.named x) true true s t e
      fresh_leaders (through a y) q n = leaders (keeps s t y (not (a && T.strong_arrays) && weak) h e (down (through a y) y q (Memᴰ.head refl)))
      fresh_leaders (ptr y) q n =
          leaders_bind (λ s' b. ok (finish L₁ false x s') b) (λ t' b. ok (finish L false x t') b) (keeps s t y true h e (down (ptr y) y q (Memᴰ.head refl))) (λ s' t' b h' e'. finish_leaders false b b s' t' e')
      fresh_leaders (tdef y) q n =
          leaders_bind (λ s' b. alias L₁ (not weak || b) (is_done (K₁.get s'.state x)) s' x) (λ t' b. alias L (not weak || b) (is_done (K.get t'.state x)) t' x) (keeps s t y weak h e (down (tdef y) y q (Memᴰ.head refl)))
          (λ s' t' b h' e'. subst (λ (m : Mark). SameLeaders (alias L₁ (not weak || b) (is_done m) s' x) (alias L (not weak || b) (is_done (K.get t'.state x)) t' x)) (sym (al.a_get s'.state t'.state h'.related x l))
          (alias_leaders (not weak || b) (is_done (K.get t'.state x)) s' t' e'))
      fresh_leaders (proto ts) q n = each_leaders (λ s' y. rec₁ s' y weak) (λ t' y. rec t' y weak) (λ s' t' y h' e' l'. keeps s' t' y weak h' e' l') ts (λ y m. down (proto ts) y q m) s t false h e
      fresh_leaders (comp ms) q n = enter_leaders ms q n (weak && T.named x)

      visit_leaders : (m : Mark) → K.get t.state x ≡ m → SameLeaders (visit L₁ T rec₁ s x weak m) (visit L T rec t x weak m)
      unfolding visit
      visit_leaders new q = fresh_leaders (T.node x) refl q
      visit_leaders busy q = meet_leaders (is_comp (T.node x) && (weak && T.named x)) s t e
      visit_leaders done q = same_leaders s t true true e

  pub order_with_leaders_alike : (n : ℕ) (around : List ℕ) (s : WithLeaders S₁) (t : WithLeaders S) (x : ℕ) (weak : Bool) → Lives s.state t.state → s.leaders ≡ t.leaders → x < T.count
      → BothLeaders Lives (order_with_leaders K₁ req n T around s x weak) (order_with_leaders K req n T around t x weak)
  unfolding order_with_leaders
  order_with_leaders_alike zero around s t x weak h e l = neither_leader 12
  order_with_leaders_alike (suc n) around s t x weak h e l =
      let inner : List ℕ = inside (is_around (T.node x)) x around in
      joined t.state
      (subst (λ (m : Mark). SameLeaders (visit (leader_store K₁ req around) T (λ s' y w. order_with_leaders K₁ req n T inner s' y w) s x weak m) (visit (leader_store K req around) T (λ t' y w. order_with_leaders K req n T inner t' y w) t x weak (K.get t.state x)))
      (sym (al.a_get s.state t.state h.related x l))
      (visit_leaders around x l (λ s' y w. order_with_leaders K₁ req n T inner s' y w) (λ t' y w. order_with_leaders K req n T inner t' y w) (λ s' t' y w h' e' l'. order_with_leaders_alike n inner s' t' y w h' e' l') s t weak h e (K.get t.state x) refl))
      (plainly (suc n) around s t x weak h l)
