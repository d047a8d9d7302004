-- Two stores, and two machines, whose steps go alike: ordering, emission and sessions then go alike, with the same answers. So what is proved of a
-- machine of lists holds of one in lent bytes. Assumes nothing.
use Prim.Native.Nat.{ℕ, zero, suc, ◌<◌, ◌≤◌, ◌-◌}
use native.Mathlib.Omega.{arith}
use mathlib.Core.Path.{◌≡◌, refl, sym, ◌∙◌, ap, subst}
use mathlib.Core.Bool.{Bool, true, false, not, ◌&&◌, ◌||◌, true≢false}
use mathlib.Core.List.Memᴰ
use mathlib.Core.List.{List, [], ◌∷◌, ◌++◌, Memᴰ}
use mathlib.Core.Logic.{◌⊎◌, inl, inr}
use lib.ListN.{length}
use lib.Dec.{T as True, ltb, ltb→lt}
use Rattle.spec_c_dumper.specs.rules.Order.{Node, ignored, plain, listed, through, ptr, tdef, proto, comp, Table, is_comp, Mark, new, busy, done, is_done, Store, Lawful, Framed, Res, ok, refused, bind, each, meet, push_if, finish, enter, alias, fresh, visit, order}
use Rattle.spec_c_dumper.specs.rules.Machine.{Out, Machine, MLawful, OrderKeeps, eeach, emit, Sess, Answer, Req, one, all, shut, emitted, ordered, gate, single, onward, from, every, serve, run}
use Rattle.spec_c_dumper.specs.needs.Needs.{kids}
use Rattle.spec_c_dumper.proofs.needs.Ways.{clash, clash_new, clash_busy, tally, tally_mono, tally_room}
use Rattle.spec_c_dumper.proofs.needs.Sound.{Grew, Room, grew_refl, grew_trans, grew_busy, grew_busy', grew_finish, grew_around, mem_finish_inv, room_finish}
use Rattle.spec_c_dumper.proofs.needs.Emission.{Until, both_go, both_end, left_ends, right_ends, AlikeSteps, StepsUntil, eeach_until, emit_until, Never, steps_until}
pub use Rattle.spec_c_dumper.proofs.needs.Emission.{BothOut, both_wrote, both_stuck}

-- what two orderings come to
pub data Both {S₁ S : Type 0} (P : S₁ → S → Bool → Type 0) : Res S₁ → Res S → Type 0 where
  both : (s : S₁) (t : S) (b : Bool) → P s t b → Both P (ok s b) (ok t b)
  neither : (e : ℕ) → Both P (refused e) (refused e)

both_bind : {S₁ S : Type 0} {P P' : S₁ → S → Bool → Type 0} {r₁ : Res S₁} {r : Res S} (k₁ : S₁ → Bool → Res S₁) (k : S → Bool → Res S)
    → Both P r₁ r → ((s : S₁) (t : S) (b : Bool) → P s t b → Both P' (k₁ s b) (k t b)) → Both P' (bind r₁ k₁) (bind r k)
unfolding bind
both_bind k₁ k (both s t b h) f = f s t b h
both_bind k₁ k (neither e) f = neither e

both_map : {S₁ S : Type 0} {P P' : S₁ → S → Bool → Type 0} {r₁ : Res S₁} {r : Res S} → ((s : S₁) (t : S) (b : Bool) → P s t b → P' s t b) → Both P r₁ r → Both P' r₁ r
both_map f (both s t b h) = both s t b (f s t b h)
both_map f (neither e) = neither e

-- Steps of two stores that go alike; of n ids, with room for n entries.
pub record AlikeStore {S₁ S : Type 0} (K₁ : Store S₁) (K : Store S) (n : ℕ) (Good : S → Type 0) (Q : S₁ → S → Type 0) : Type 0 where
  pub a_good : (s : S₁) (t : S) → Q s t → Good t
  pub a_get : (s : S₁) (t : S) → Q s t → (x : ℕ) → x < n → K₁.get s x ≡ K.get t x
  pub a_mark : (m : Mark) (x : ℕ) (s : S₁) (t : S) → Q s t → x < n → Q (K₁.mark m x s) (K.mark m x t)
  pub a_push : (x : ℕ) (s : S₁) (t : S) → Q s t → x < n → length (K.list t) < n → Q (K₁.push x s) (K.push x t)

module _ {S₁ S : Type 0} (K₁ : Store S₁) (K : Store S) (T : Table) (Good : S → Type 0) (law : Lawful K T.count Good) (Fr : S → S → Type 0) (framed : Framed K T.count Good Fr)
    (below : (x y : ℕ) → Memᴰ y (kids (T.node x)) → y < T.count) (Q : S₁ → S → Type 0) (al : AlikeStore K₁ K T.count Good Q) where
  -- related, the list no longer than what is done, and of ids below the count
  pub record Live (s : S₁) (t : S) : Type 0 where
    pub related : Q s t
    pub room : length (K.list t) ≤ tally (K.get t) T.count
    pub ids : (y : ℕ) → Memᴰ y (K.list t) → y < T.count

  abbrev Grows : S → S → Type 0
  Grows t t' = Grew K T Good law Fr framed t t'

  pub record Went (t₀ : S) (s : S₁) (t : S) (b : Bool) : Type 0 where
    pub live : Live s t
    pub grew : Grows t₀ t

  fine : (s : S₁) (t : S) → Live s t → Good t
  fine s t h = al.a_good s t h.related

  roomy : (p : Bool) (x : ℕ) (s : S₁) (t : S) → Live s t → x < T.count → (p ≡ true → K.get t x ≡ done → ⊥) → Room K T Good law Fr framed p t
  roomy p x s t h l nd e =
      let a = h.room in
      let b = tally_room (K.get t) x T.count l (nd e) in
      omega arith

  push_related : (p : Bool) (x : ℕ) (s : S₁) (t : S) → Q s t → x < T.count → (p ≡ true → length (K.list t) < T.count) → Q (push_if K₁ p x s) (push_if K p x t)
  unfolding push_if
  push_related true x s t q l r = al.a_push x s t q l (r refl)
  push_related false x s t q l r = q

  finish_live : (p : Bool) (x : ℕ) (s : S₁) (t : S) → Live s t → x < T.count → (p ≡ true → K.get t x ≡ done → ⊥) → Live (finish K₁ p x s) (finish K p x t)
  finish_live p x s t h l nd = record {
    related = al.a_mark done x (push_if K₁ p x s) (push_if K p x t) (push_related p x s t h.related l r) l;
    room = room_finish K T Good law Fr framed [] x t (fine s t h) l p nd r h.room;
    ids = λ y m. go y (mem_finish_inv K T Good law Fr framed [] x t (fine s t h) l p r y m);
  }
    where
      r : Room K T Good law Fr framed p t
      r = roomy p x s t h l nd

      go : (y : ℕ) → Memᴰ y (K.list t) ⊎ ((y ≡ x) × (p ≡ true)) → y < T.count
      go y (inl m) = h.ids y m
      go y (inr q) = subst (λ (k : ℕ). k < T.count) (sym q.0) l

  busy_live : (x : ℕ) (s : S₁) (t : S) → Live s t → x < T.count → K.get t x ≡ new → Live (K₁.mark busy x s) (K.mark busy x t)
  busy_live x s t h l e = record {
    related = al.a_mark busy x s t h.related l;
    room = omega (arith, h.room, ap length list_same, tally_mono (K.get t) (K.get (K.mark busy x t)) up T.count);
    ids = λ y m. h.ids y (subst (Memᴰ y) list_same m);
  }
    where
      g : Good t
      g = fine s t h

      list_same : K.list (K.mark busy x t) ≡ K.list t
      list_same = law.mark_list busy x t g l

      up : (d : ℕ) → K.get t d ≡ done → K.get (K.mark busy x t) d ≡ done
      up d q = law.mark_other busy x t g l d (λ w. clash_new (K.get t x) e (ap (K.get t) (sym w) ∙ q)) ∙ q

  abbrev Keeping : (S₁ → ℕ → Bool → Res S₁) → (S → ℕ → Bool → Res S) → Type 0
  Keeping rec₁ rec = (s : S₁) (t : S) (x : ℕ) (weak : Bool) → Live s t → x < T.count → Both (Went t) (rec₁ s x weak) (rec t x weak)

  same_went : (s : S₁) (t : S) (b : Bool) → Live s t → Went t s t b
  same_went s t b h = record { live = h; grew = grew_refl K T Good law Fr framed t }

  then_went : (t t' : S) → Grows t t' → (s'' : S₁) (t'' : S) (b : Bool) → Went t' s'' t'' b → Went t s'' t'' b
  then_went t t' g s'' t'' b w = record { live = w.live; grew = grew_trans K T Good law Fr framed t t' t'' g w.grew }

  each_alike : (f₁ : S₁ → ℕ → Res S₁) (f : S → ℕ → Res S) → ((s : S₁) (t : S) (y : ℕ) → Live s t → y < T.count → Both (Went t) (f₁ s y) (f t y))
      → (ys : List ℕ) → ((y : ℕ) → Memᴰ y ys → y < T.count) → (s : S₁) (t : S) (b : Bool) → Live s t → Both (Went t) (each f₁ ys s b) (each f ys t b)
  unfolding each
  each_alike f₁ f hf [] l s t b h = both s t b (same_went s t b h)
  each_alike f₁ f hf (y ∷ ys) l s t b h =
      both_bind (λ s' b'. each f₁ ys s' (b || b')) (λ t' b'. each f ys t' (b || b')) (hf s t y h (l y (Memᴰ.head refl))) (λ s' t' b' w.
      both_map (then_went t t' w.grew) (each_alike f₁ f hf ys (λ z m. l z (Memᴰ.tail m)) s' t' (b || b') w.live))

  module _ (rec₁ : S₁ → ℕ → Bool → Res S₁) (rec : S → ℕ → Bool → Res S) (keeps : Keeping rec₁ rec) (s : S₁) (t : S) (x : ℕ) (weak : Bool) (h : Live s t) (l : x < T.count) where
    down : (nd : Node) (y : ℕ) → T.node x ≡ nd → Memᴰ y (kids nd) → y < T.count
    down nd y e m = below x y (subst (λ (k : Node). Memᴰ y (kids k)) (sym e) m)

    -- x, new at first, is finished
    finished : (p b : Bool) (s' : S₁) (t' : S) → K.get t x ≡ new → Live s' t' → Grows t t' → (p ≡ true → K.get t' x ≡ done → ⊥) → Went t (finish K₁ p x s') (finish K p x t') b
    finished p b s' t' e h' g nd = record {
      live = finish_live p x s' t' h' l nd;
      grew = grew_trans K T Good law Fr framed t t' (finish K p x t') g
          (grew_finish K T Good law Fr framed p x t' (fine s' t' h') l (roomy p x s' t' h' l nd) (λ q. clash_busy (K.get t x) e (grew_busy K T Good law Fr framed t t' g x q)));
    }

    not_listed : false ≡ true → K.get t x ≡ done → ⊥
    not_listed q = absurd (true≢false (sym q))

    not_was : (m : Mark) → not (is_done m) ≡ true → m ≡ done → ⊥
    not_was new q e = clash_new new refl e
    not_was busy q e = clash busy refl e
    not_was done q e = true≢false (sym q)

    alias_alike : (c : Bool) (s' : S₁) (t' : S) → K.get t x ≡ new → Live s' t' → Grows t t' → Both (Went t) (alias K₁ c (is_done (K₁.get s' x)) s' x) (alias K c (is_done (K.get t' x)) t' x)
    unfolding alias
    alias_alike false s' t' e h' g = both s' t' false (record { live = h'; grew = g })
    alias_alike true s' t' e h' g =
        subst (λ (m : Mark). Both (Went t) (alias K₁ true (is_done m) s' x) (alias K true (is_done (K.get t' x)) t' x)) (sym (al.a_get s' t' h'.related x l))
        (both (finish K₁ (not (is_done (K.get t' x))) x s') (finish K (not (is_done (K.get t' x))) x t') true (finished (not (is_done (K.get t' x))) true s' t' e h' g (not_was (K.get t' x))))

    enter_alike : (ms : List ℕ) → T.node x ≡ comp ms → K.get t x ≡ new → (b : Bool) → Both (Went t) (enter K₁ b (λ s' y. rec₁ s' y false) s x (T.named x) ms) (enter K b (λ t' y. rec t' y false) t x (T.named x) ms)
    unfolding enter
    enter_alike ms e n true = both s t false (same_went s t false h)
    enter_alike ms e n false =
        both_bind (λ s' b. ok (finish K₁ (T.named x) x s') true) (λ t' b. ok (finish K (T.named x) x t') true)
        (each_alike (λ s' y. rec₁ s' y false) (λ t' y. rec t' y false) (λ s' t' y h' l'. keeps s' t' y false h' l') ms (λ y m. down (comp ms) y e m) (K₁.mark busy x s) (K.mark busy x t) false (busy_live x s t h l n))
        (λ s' t' b w. both (finish K₁ (T.named x) x s') (finish K (T.named x) x t') true (record {
          live = finish_live (T.named x) x s' t' w.live l (λ q. open_x s' t' b w);
          grew = grew_around K T Good law Fr framed (T.named x) x t' (fine s' t' w.live) l (roomy (T.named x) x s' t' w.live l (λ q. open_x s' t' b w)) t (fine s t h) n w.grew;
        }))
      where
        open_x : (s' : S₁) (t' : S) (b : Bool) → Went (K.mark busy x t) s' t' b → K.get t' x ≡ done → ⊥
        open_x s' t' b w dn = clash (K.get t' x) (grew_busy' K T Good law Fr framed (K.mark busy x t) t' w.grew x (law.mark_same busy x t (fine s t h) l)) dn

    fresh_alike : (nd : Node) → T.node x ≡ nd → K.get t x ≡ new → Both (Went t) (fresh K₁ T rec₁ s x weak nd) (fresh K T rec t x weak nd)
    unfolding fresh
    fresh_alike ignored e n = both s t false (same_went s t false h)
    fresh_alike plain e n = both (finish K₁ false x s) (finish K false x t) false (finished false false s t n h (grew_refl K T Good law Fr framed t) not_listed)
    fresh_alike (listed f) e n =
        both (finish K₁ (T.named x) x s) (finish K (T.named x) x t) true (finished (T.named x) true s t n h (grew_refl K T Good law Fr framed t) (λ q. clash_new (K.get t x) n))
    fresh_alike (through a y) e n = keeps s t y (not (a && T.strong_arrays) && weak) h (down (through a y) y e (Memᴰ.head refl))
    fresh_alike (ptr y) e n =
        both_bind (λ s' b. ok (finish K₁ false x s') b) (λ t' b. ok (finish K false x t') b) (keeps s t y true h (down (ptr y) y e (Memᴰ.head refl)))
        (λ s' t' b w. both (finish K₁ false x s') (finish K false x t') b (finished false b s' t' n w.live w.grew (λ q. absurd (true≢false (sym q)))))
    fresh_alike (tdef y) e n =
        both_bind (λ s' b. alias K₁ (not weak || b) (is_done (K₁.get s' x)) s' x) (λ t' b. alias K (not weak || b) (is_done (K.get t' x)) t' x)
        (keeps s t y weak h (down (tdef y) y e (Memᴰ.head refl))) (λ s' t' b w. alias_alike (not weak || b) s' t' n w.live w.grew)
    fresh_alike (proto ts) e n =
        each_alike (λ s' y. rec₁ s' y weak) (λ t' y. rec t' y weak) (λ s' t' y h' l'. keeps s' t' y weak h' l') ts (λ y m. down (proto ts) y e m) s t false h
    fresh_alike (comp ms) e n = enter_alike ms e n (weak && T.named x)

    meet_alike : (b : Bool) → Both (Went t) (meet b s) (meet b t)
    unfolding meet
    meet_alike true = both s t false (same_went s t false h)
    meet_alike false = neither 13

    visit_alike : (m : Mark) → K.get t x ≡ m → Both (Went t) (visit K₁ T rec₁ s x weak m) (visit K T rec t x weak m)
    unfolding visit
    visit_alike new e = fresh_alike (T.node x) refl e
    visit_alike busy e = meet_alike (is_comp (T.node x) && (weak && T.named x))
    visit_alike done e = both s t true (same_went s t true h)

  pub order_alike : (n : ℕ) (s : S₁) (t : S) (x : ℕ) (weak : Bool) → Live s t → x < T.count → Both (Went t) (order K₁ n T s x weak) (order K n T t x weak)
  unfolding order
  order_alike zero s t x weak h l = neither 12
  order_alike (suc n) s t x weak h l =
      subst (λ (m : Mark). Both (Went t) (visit K₁ T (λ s' y w. order K₁ n T s' y w) s x weak m) (visit K T (λ t' y w. order K n T t' y w) t x weak (K.get t x))) (sym (al.a_get s t h.related x l))
      (visit_alike (λ s' y w. order K₁ n T s' y w) (λ t' y w. order K n T t' y w) (λ s' t' y w h' l'. order_alike n s' t' y w h' l') s t x weak h l (K.get t x) refl)

-- Steps of two machines that go alike.
pub record AlikeMachine {M₁ H₁ M H : Type 0} (X₁ : Machine M₁ H₁) (X : Machine M H) (n : ℕ) (Good : M → Type 0) (Q : M₁ → M → Type 0) (RH : H₁ → H → Type 0) : Type 0 where
  pub a_store : AlikeStore X₁.store X.store n Good Q
  pub a_list : (s : M₁) (t : M) → Q s t → X₁.store.list s ≡ X.store.list t
  pub a_start : (room : ℕ) (s : M₁) (t : M) → Q s t → Q (X₁.start room s) (X.start room t)
  pub a_eget : (s : M₁) (t : M) → Q s t → (x : ℕ) → x < n → X₁.eget s x ≡ X.eget t x
  pub a_emark : (m : Mark) (x : ℕ) (s : M₁) (t : M) → Q s t → x < n → Q (X₁.emark m x s) (X.emark m x t)
  pub a_has : (s : M₁) (t : M) → Q s t → (x : ℕ) → x < n → X₁.has_fwd s x ≡ X.has_fwd t x
  pub a_forwarded : (x : ℕ) (s : M₁) (t : M) → Q s t → x < n → Q (X₁.forwarded x s) (X.forwarded x t)
  pub a_fwd : (s : M₁) (t : M) → Q s t → (x : ℕ) → x < n → BothOut Q RH (X₁.fwd_line s x) (X.fwd_line t x)
  pub a_alias : (s : M₁) (t : M) → Q s t → (x : ℕ) → x < n → BothOut Q RH (X₁.alias_line s x) (X.alias_line t x)
  pub a_leaf : (s : M₁) (t : M) → Q s t → (x : ℕ) → x < n → BothOut Q RH (X₁.leaf_line s x) (X.leaf_line t x)
  pub a_body : (s : M₁) (t : M) → Q s t → (x : ℕ) → x < n → BothOut Q RH (X₁.body s x) (X.body t x)
  pub a_held : (s : M₁) (t : M) → Q s t → RH (X₁.held s) (X.held t)
  pub a_leaving : (h₁ : H₁) (h : H) → RH h₁ h → (s : M₁) (t : M) → Q s t → Q (X₁.leaving h₁ s) (X.leaving h t)

-- ---- sessions

-- two sessions, and two answers
pub record BothSess {M₁ M : Type 0} (Q : M₁ → M → Type 0) (S₁ : Sess M₁) (S : Sess M) : Type 0 where
  pub same_open : S₁.is_open ≡ S.is_open
  pub same_asked : S₁.asked ≡ S.asked
  pub alike : Q S₁.mach S.mach

pub record BothAnswer {M₁ M : Type 0} (Q : M₁ → M → Type 0) (a₁ : Answer M₁) (a : Answer M) : Type 0 where
  pub same_number : a₁.number ≡ a.number
  pub sessions : BothSess Q a₁.sess a.sess

-- Steps that go alike until a refusal ends it: Q while the sessions are open, P of closed ones too.
pub record MachinesUntil {M₁ H₁ M H : Type 0} (X₁ : Machine M₁ H₁) (X : Machine M H) (n : ℕ) (Good : M → Type 0) (P Q : M₁ → M → Type 0) (RH : H₁ → H → Type 0) (E₁ E₂ : ℕ → Type 0) : Type 0 where
  pub m_store : AlikeStore X₁.store X.store n Good Q
  pub m_list : (s : M₁) (t : M) → Q s t → X₁.store.list s ≡ X.store.list t
  pub m_start : (room : ℕ) (s : M₁) (t : M) → Q s t → Q (X₁.start room s) (X.start room t)
  pub m_steps : StepsUntil X₁ X n Q RH E₁ E₂
  pub m_shape : (s : M₁) (t : M) → Q s t → P s t
  pub m_leaving : (h₁ : H₁) (h : H) → RH h₁ h → (s : M₁) (t : M) → Q s t → P (X₁.leaving h₁ s) (X.leaving h t)
  pub m_zero₁ : E₁ 0 → ⊥
  pub m_zero₂ : E₂ 0 → ⊥

pub record SessionsUntil {M₁ M : Type 0} (P Q : M₁ → M → Type 0) (S₁ : Sess M₁) (S : Sess M) : Type 0 where
  pub same_open : S₁.is_open ≡ S.is_open
  pub same_asked : S₁.asked ≡ S.asked
  pub shape : P S₁.mach S.mach
  pub live : S.is_open ≡ true → Q S₁.mach S.mach

pub data AnswersUntil {M₁ M : Type 0} (P Q : M₁ → M → Type 0) (E₁ E₂ : ℕ → Type 0) (a₁ : Answer M₁) (a : Answer M) : Type 0 where
  answered : a₁.number ≡ a.number → SessionsUntil P Q a₁.sess a.sess → AnswersUntil P Q E₁ E₂ a₁ a
  left_answer : E₁ a₁.number → AnswersUntil P Q E₁ E₂ a₁ a
  right_answer : E₂ a.number → AnswersUntil P Q E₁ E₂ a₁ a

module _ {M₁ H₁ M H : Type 0} (X₁ : Machine M₁ H₁) (X : Machine M H) (T : Table) (Good : M → Type 0) (ml : MLawful X Good T.count) (below : (x y : ℕ) → Memᴰ y (kids (T.node x)) → y < T.count)
    (P Q : M₁ → M → Type 0) (RH : H₁ → H → Type 0) (E₁ E₂ : ℕ → Type 0) (al : MachinesUntil X₁ X T.count Good P Q RH E₁ E₂) where
  abbrev Lives : M₁ → M → Type 0
  Lives s t = Live X₁.store X.store T Good ml.law (OrderKeeps X Good) ml.framed below Q al.m_store s t

  abbrev Goes : M → M₁ → M → Bool → Type 0
  Goes t₀ s t b = Went X₁.store X.store T Good ml.law (OrderKeeps X Good) ml.framed below Q al.m_store t₀ s t b

  start_live : (room : ℕ) (s : M₁) (t : M) → Q s t → Lives (X₁.start room s) (X.start room t)
  start_live room s t q = record {
    related = al.m_start room s t q;
    room = subst (λ (k : List ℕ). length k ≤ tally (X.store.get (X.start room t)) T.count) (sym e) (omega arith);
    ids = λ y m. absurd (Memᴰ.not-nil (subst (Memᴰ y) e m));
  }
    where
      e : X.store.list (X.start room t) ≡ []
      e = ml.start_list room t (al.m_store.a_good s t q)

  module _ (S₁ : Sess M₁) (S : Sess M) (h : SessionsUntil P Q S₁ S) where
    shut_until : (m₁ : H₁) (m : H) → P (X₁.leaving m₁ S₁.mach) (X.leaving m S.mach) → (e : ℕ) → AnswersUntil P Q E₁ E₂ (shut X₁ T S₁ m₁ e) (shut X T S m e)
    unfolding shut
    shut_until m₁ m r e = answered refl (record { same_open = refl; same_asked = h.same_asked; shape = r; live = λ o. absurd (true≢false (sym o)) })

    emitted_until : (x : ℕ) → S.is_open ≡ true → {r₁ : Out M₁ H₁} {r : Out M H} → Until Q RH E₁ E₂ r₁ r → AnswersUntil P Q E₁ E₂ (emitted X₁ T S₁ x r₁) (emitted X T S x r)
    unfolding emitted shut
    emitted_until x o (both_go s t q) = answered refl (record { same_open = refl; same_asked = ap (λ (k : List ℕ). k ++ (x ∷ [])) h.same_asked; shape = al.m_shape s t q; live = λ o'. q })
    emitted_until x o (both_end m₁ m r e) = shut_until m₁ m (al.m_leaving m₁ m r S₁.mach S.mach (h.live o)) e
    emitted_until x o (left_ends m₁ e r w) = left_answer w
    emitted_until x o (right_ends m e r₁ w) = right_answer w

    ordered_until : (x : ℕ) → S.is_open ≡ true → (t₀ : M) {r₁ : Res M₁} {r : Res M} → Both (Goes t₀) r₁ r → AnswersUntil P Q E₁ E₂ (ordered X₁ T S₁ x r₁) (ordered X T S x r)
    unfolding ordered
    ordered_until x o t₀ (both s t b w) =
        emitted_until x o (subst (λ (k : List ℕ). Until Q RH E₁ E₂ (eeach (λ m y. emit X₁ T 512 m y 0) k s) (eeach (λ m y. emit X T 512 m y 0) (X.store.list t) t)) (sym (al.m_list s t w.live.related))
        (eeach_until X₁ X T below Q RH E₁ E₂ al.m_steps (λ m y. emit X₁ T 512 m y 0) (λ m y. emit X T 512 m y 0) (λ s' t' y q l. emit_until X₁ X T below Q RH E₁ E₂ al.m_steps 512 s' t' y 0 q l) (X.store.list t) w.live.ids s t w.live.related))
    ordered_until x o t₀ (neither e) =
        shut_until (X₁.held S₁.mach) (X.held S.mach) (al.m_leaving (X₁.held S₁.mach) (X.held S.mach) (al.m_steps.u_held S₁.mach S.mach (h.live o)) S₁.mach S.mach (h.live o)) e

    gate_until : (room x : ℕ) (o b : Bool) → S.is_open ≡ o → ltb x T.count ≡ b → AnswersUntil P Q E₁ E₂ (gate X₁ T room S₁ x o b) (gate X T room S x o b)
    unfolding gate
    gate_until room x false b o e = answered refl h
    gate_until room x true false o e = answered refl h
    gate_until room x true true o e =
        ordered_until x o (X.start room S.mach) (order_alike X₁.store X.store T Good ml.law (OrderKeeps X Good) ml.framed below Q al.m_store 512 (X₁.start room S₁.mach) (X.start room S.mach) x false
        (start_live room S₁.mach S.mach (h.live o)) (ltb→lt x T.count (subst True (sym e) tt)))

  pub single_until : (room : ℕ) (S₁ : Sess M₁) (S : Sess M) → SessionsUntil P Q S₁ S → (x : ℕ) → AnswersUntil P Q E₁ E₂ (single X₁ T room S₁ x) (single X T room S x)
  unfolding single
  single_until room S₁ S h x =
      subst (λ (o : Bool). AnswersUntil P Q E₁ E₂ (gate X₁ T room S₁ x o (ltb x T.count)) (gate X T room S x S.is_open (ltb x T.count))) (sym h.same_open)
      (gate_until S₁ S h room x S.is_open (ltb x T.count) refl refl)

  stays₁ : (k : Sess M₁ → Answer M₁) (a : Answer M₁) → (a.number ≡ 0 → ⊥) → onward X₁ T k a ≡ a
  unfolding onward
  stays₁ k a h = go a.number refl
    where
      go : (n : ℕ) → a.number ≡ n → (elim n as (λ m. Answer M₁) [ zero ↦ k a.sess | suc m ↦ a ]) ≡ a
      go zero e = absurd (h e)
      go (suc n) e = refl

  stays₂ : (k : Sess M → Answer M) (a : Answer M) → (a.number ≡ 0 → ⊥) → onward X T k a ≡ a
  unfolding onward
  stays₂ k a h = go a.number refl
    where
      go : (n : ℕ) → a.number ≡ n → (elim n as (λ m. Answer M) [ zero ↦ k a.sess | suc m ↦ a ]) ≡ a
      go zero e = absurd (h e)
      go (suc n) e = refl

  on_both : (k₁ : Sess M₁ → Answer M₁) (k : Sess M → Answer M) → ((S₁ : Sess M₁) (S : Sess M) → SessionsUntil P Q S₁ S → AnswersUntil P Q E₁ E₂ (k₁ S₁) (k S))
      → (a₁ : Answer M₁) (a : Answer M) → a₁.number ≡ a.number → SessionsUntil P Q a₁.sess a.sess → AnswersUntil P Q E₁ E₂ (onward X₁ T k₁ a₁) (onward X T k a)
  unfolding onward
  on_both k₁ k hk a₁ a e h =
      subst (λ (n : ℕ). AnswersUntil P Q E₁ E₂ (elim n as (λ m. Answer M₁) [ zero ↦ k₁ a₁.sess | suc m ↦ a₁ ]) (elim a.number as (λ m. Answer M) [ zero ↦ k a.sess | suc m ↦ a ])) (sym e)
      (go a.number)
    where
      go : (n : ℕ) → AnswersUntil P Q E₁ E₂ (elim n as (λ m. Answer M₁) [ zero ↦ k₁ a₁.sess | suc m ↦ a₁ ]) (elim n as (λ m. Answer M) [ zero ↦ k a.sess | suc m ↦ a ])
      go zero = hk a₁.sess a.sess h
      go (suc m) = answered e h

  onward_until : (k₁ : Sess M₁ → Answer M₁) (k : Sess M → Answer M) → ((S₁ : Sess M₁) (S : Sess M) → SessionsUntil P Q S₁ S → AnswersUntil P Q E₁ E₂ (k₁ S₁) (k S))
      → (a₁ : Answer M₁) (a : Answer M) → AnswersUntil P Q E₁ E₂ a₁ a → AnswersUntil P Q E₁ E₂ (onward X₁ T k₁ a₁) (onward X T k a)
  onward_until k₁ k hk a₁ a (answered e h) = on_both k₁ k hk a₁ a e h
  onward_until k₁ k hk a₁ a (left_answer w) = subst (λ (c : Answer M₁). AnswersUntil P Q E₁ E₂ c (onward X T k a)) (sym (stays₁ k₁ a₁ (λ e. al.m_zero₁ (subst E₁ e w)))) (left_answer w)
  onward_until k₁ k hk a₁ a (right_answer w) = subst (λ (c : Answer M). AnswersUntil P Q E₁ E₂ (onward X₁ T k₁ a₁) c) (sym (stays₂ k a (λ e. al.m_zero₂ (subst E₂ e w)))) (right_answer w)

  pub from_until : (room n x : ℕ) (S₁ : Sess M₁) (S : Sess M) → SessionsUntil P Q S₁ S → AnswersUntil P Q E₁ E₂ (from X₁ T room n x S₁) (from X T room n x S)
  unfolding from
  from_until room zero x S₁ S h = answered refl h
  from_until room (suc n) x S₁ S h =
      onward_until (from X₁ T room n (suc x)) (from X T room n (suc x)) (λ S₁' S' h'. from_until room n (suc x) S₁' S' h') (single X₁ T room S₁ x) (single X T room S x) (single_until room S₁ S h x)

  every_as : (room : ℕ) (S₁ : Sess M₁) (S : Sess M) → SessionsUntil P Q S₁ S → (b : Bool) → AnswersUntil P Q E₁ E₂ (every X₁ T room S₁ b) (every X T room S b)
  unfolding every
  every_as room S₁ S h false = answered refl h
  every_as room S₁ S h true = from_until room (T.count - 1) 1 S₁ S h

  pub every_until : (room : ℕ) (S₁ : Sess M₁) (S : Sess M) → SessionsUntil P Q S₁ S → AnswersUntil P Q E₁ E₂ (every X₁ T room S₁ S₁.is_open) (every X T room S S.is_open)
  every_until room S₁ S h = subst (λ (b : Bool). AnswersUntil P Q E₁ E₂ (every X₁ T room S₁ b) (every X T room S S.is_open)) (sym h.same_open) (every_as room S₁ S h S.is_open)

-- ---- with no refusal that ends it

module _ {M₁ H₁ M H : Type 0} (X₁ : Machine M₁ H₁) (X : Machine M H) (T : Table) (Good : M → Type 0) (ml : MLawful X Good T.count) (below : (x y : ℕ) → Memᴰ y (kids (T.node x)) → y < T.count) (Q : M₁ → M → Type 0)
    (RH : H₁ → H → Type 0) (al : AlikeMachine X₁ X T.count Good Q RH) where
  steps : AlikeSteps X₁ X T.count Q RH
  steps = record {
    a_eget = al.a_eget;
    a_emark = al.a_emark;
    a_has = al.a_has;
    a_forwarded = al.a_forwarded;
    a_fwd = al.a_fwd;
    a_alias = al.a_alias;
    a_leaf = al.a_leaf;
    a_body = al.a_body;
    a_held = al.a_held;
  }

  machines : MachinesUntil X₁ X T.count Good Q Q RH Never Never
  machines = record {
    m_store = al.a_store;
    m_list = al.a_list;
    m_start = al.a_start;
    m_steps = steps_until X₁ X T below Q RH steps;
    m_shape = λ s t q. q;
    m_leaving = al.a_leaving;
    m_zero₁ = λ w. w;
    m_zero₂ = λ w. w;
  }

  at_rest : (S₁ : Sess M₁) (S : Sess M) → BothSess Q S₁ S → SessionsUntil Q Q S₁ S
  at_rest S₁ S h = record { same_open = h.same_open; same_asked = h.same_asked; shape = h.alike; live = λ o. h.alike }

  both_answered : (a₁ : Answer M₁) (a : Answer M) → AnswersUntil Q Q Never Never a₁ a → BothAnswer Q a₁ a
  both_answered a₁ a (answered e h) = record { same_number = e; sessions = record { same_open = h.same_open; same_asked = h.same_asked; alike = h.shape } }
  both_answered a₁ a (left_answer w) = absurd w
  both_answered a₁ a (right_answer w) = absurd w

  pub single_alike : (room : ℕ) (S₁ : Sess M₁) (S : Sess M) → BothSess Q S₁ S → (x : ℕ) → BothAnswer Q (single X₁ T room S₁ x) (single X T room S x)
  single_alike room S₁ S h x = both_answered _ _ (single_until X₁ X T Good ml below Q Q RH Never Never machines room S₁ S (at_rest S₁ S h) x)

  pub every_alike : (room : ℕ) (S₁ : Sess M₁) (S : Sess M) → BothSess Q S₁ S → BothAnswer Q (every X₁ T room S₁ S₁.is_open) (every X T room S S.is_open)
  every_alike room S₁ S h = both_answered _ _ (every_until X₁ X T Good ml below Q Q RH Never Never machines room S₁ S (at_rest S₁ S h))

  pub serve_alike : (S₁ : Sess M₁) (S : Sess M) → BothSess Q S₁ S → (r : Req) → BothSess Q (serve X₁ T S₁ r) (serve X T S r)
  unfolding serve
  serve_alike S₁ S h (one room x) = (single_alike room S₁ S h x).sessions
  serve_alike S₁ S h (all room) = (every_alike room S₁ S h).sessions

  -- every list of requests
  pub run_alike : (rs : List Req) (S₁ : Sess M₁) (S : Sess M) → BothSess Q S₁ S → BothSess Q (run X₁ T rs S₁) (run X T rs S)
  unfolding run
  run_alike [] S₁ S h = h
  run_alike (r ∷ rs) S₁ S h = run_alike rs (serve X₁ T S₁ r) (serve X T S r) (serve_alike S₁ S h r)
