-- Two machines whose steps of emission go alike, whatever their `start` does (it sets the room of a list machine and leaves a lent slice as it is): emission
-- then goes alike. Assumes nothing.
use Prim.Native.Nat.{ℕ, zero, suc, ◌<◌}
use mathlib.Core.Path.{◌≡◌, refl, sym, subst}
use mathlib.Core.Bool.{Bool, true, false, not, ◌&&◌, ◌||◌}
use mathlib.Core.List.{List, [], ◌∷◌, Memᴰ}
use lib.Dec.{eqb}
use Rattle.spec_c_dumper.specs.rules.Order.{Node, ignored, plain, listed, through, ptr, tdef, proto, comp, Table, Mark, new, busy, done}
use Rattle.spec_c_dumper.specs.rules.Machine.{Out, wrote, stuck, Machine, is_zero, pick, obind, eeach, once, mention, again, close, leaf, within, begin, allowed, look, emit}
use Rattle.spec_c_dumper.specs.needs.Needs.{kids}

-- what two lines, or two emissions, come to; RH: of what is held of the names at a refusal
pub data BothOut {M₁ H₁ M H : Type 0} (Q : M₁ → M → Type 0) (RH : H₁ → H → Type 0) : Out M₁ H₁ → Out M H → Type 0 where
  both_wrote : (s : M₁) (t : M) → Q s t → BothOut Q RH (wrote s) (wrote t)
  both_stuck : (h₁ : H₁) (h : H) → RH h₁ h → (e : ℕ) → BothOut Q RH (stuck h₁ e) (stuck h e)

pub record AlikeSteps {M₁ H₁ M H : Type 0} (X₁ : Machine M₁ H₁) (X : Machine M H) (n : ℕ) (Q : M₁ → M → Type 0) (RH : H₁ → H → Type 0) : Type 0 where
  pub a_eget : (s : M₁) (t : M) → Q s t → (x : ℕ) → x < n → X₁.eget s x ≡ X.eget t x
  pub a_emark : (m : Mark) (x : ℕ) (s : M₁) (t : M) → Q s t → x < n → Q (X₁.emark m x s) (X.emark m x t)
  pub a_has : (s : M₁) (t : M) → Q s t → (x : ℕ) → x < n → X₁.has_fwd s x ≡ X.has_fwd t x
  pub a_forwarded : (x : ℕ) (s : M₁) (t : M) → Q s t → x < n → Q (X₁.forwarded x s) (X.forwarded x t)
  pub a_held : (s : M₁) (t : M) → Q s t → RH (X₁.held s) (X.held t)
  pub a_fwd : (s : M₁) (t : M) → Q s t → (x : ℕ) → x < n → BothOut Q RH (X₁.fwd_line s x) (X.fwd_line t x)
  pub a_alias : (s : M₁) (t : M) → Q s t → (x : ℕ) → x < n → BothOut Q RH (X₁.alias_line s x) (X.alias_line t x)
  pub a_leaf : (s : M₁) (t : M) → Q s t → (x : ℕ) → x < n → BothOut Q RH (X₁.leaf_line s x) (X.leaf_line t x)
  pub a_body : (s : M₁) (t : M) → Q s t → (x : ℕ) → x < n → BothOut Q RH (X₁.body s x) (X.body t x)

-- both go on, alike; both are refused by one number; or one is refused by a number that ends the comparison
pub data Until {M₁ H₁ M H : Type 0} (Q : M₁ → M → Type 0) (RH : H₁ → H → Type 0) (E₁ E₂ : ℕ → Type 0) : Out M₁ H₁ → Out M H → Type 0 where
  both_go : (s : M₁) (t : M) → Q s t → Until Q RH E₁ E₂ (wrote s) (wrote t)
  both_end : (h₁ : H₁) (h : H) → RH h₁ h → (e : ℕ) → Until Q RH E₁ E₂ (stuck h₁ e) (stuck h e)
  left_ends : (h₁ : H₁) (e : ℕ) (r : Out M H) → E₁ e → Until Q RH E₁ E₂ (stuck h₁ e) r
  right_ends : (h : H) (e : ℕ) (r₁ : Out M₁ H₁) → E₂ e → Until Q RH E₁ E₂ r₁ (stuck h e)

pub record StepsUntil {M₁ H₁ M H : Type 0} (X₁ : Machine M₁ H₁) (X : Machine M H) (n : ℕ) (Q : M₁ → M → Type 0) (RH : H₁ → H → Type 0) (E₁ E₂ : ℕ → Type 0) : Type 0 where
  pub u_eget : (s : M₁) (t : M) → Q s t → (x : ℕ) → x < n → X₁.eget s x ≡ X.eget t x
  pub u_emark : (m : Mark) (x : ℕ) (s : M₁) (t : M) → Q s t → x < n → Q (X₁.emark m x s) (X.emark m x t)
  pub u_has : (s : M₁) (t : M) → Q s t → (x : ℕ) → x < n → X₁.has_fwd s x ≡ X.has_fwd t x
  pub u_forwarded : (x : ℕ) (s : M₁) (t : M) → Q s t → x < n → Q (X₁.forwarded x s) (X.forwarded x t)
  pub u_held : (s : M₁) (t : M) → Q s t → RH (X₁.held s) (X.held t)
  pub u_fwd : (s : M₁) (t : M) → Q s t → (x : ℕ) → x < n → Until Q RH E₁ E₂ (X₁.fwd_line s x) (X.fwd_line t x)
  pub u_alias : (s : M₁) (t : M) → Q s t → (x : ℕ) → x < n → Until Q RH E₁ E₂ (X₁.alias_line s x) (X.alias_line t x)
  pub u_leaf : (s : M₁) (t : M) → Q s t → (x : ℕ) → x < n → Until Q RH E₁ E₂ (X₁.leaf_line s x) (X.leaf_line t x)
  pub u_body : (s : M₁) (t : M) → Q s t → (x : ℕ) → x < n → Until Q RH E₁ E₂ (X₁.body s x) (X.body t x)

until_bind : {M₁ H₁ M H : Type 0} {Q : M₁ → M → Type 0} {RH : H₁ → H → Type 0} {E₁ E₂ : ℕ → Type 0} {r₁ : Out M₁ H₁} {r : Out M H} (k₁ : M₁ → Out M₁ H₁) (k : M → Out M H) → Until Q RH E₁ E₂ r₁ r → ((s : M₁) (t : M) → Q s t → Until Q RH E₁ E₂ (k₁ s) (k t)) → Until Q RH E₁ E₂ (obind r₁ k₁) (obind r k)
unfolding obind
until_bind k₁ k (both_go s t q) f = f s t q
until_bind k₁ k (both_end h₁ h r e) f = both_end h₁ h r e
until_bind k₁ k (left_ends h₁ e r w) f = left_ends h₁ e (obind r k) w
until_bind k₁ k (right_ends h e r₁ w) f = right_ends h e (obind r₁ k₁) w

module _ {M₁ H₁ M H : Type 0} (X₁ : Machine M₁ H₁) (X : Machine M H) (T : Table) (below : (x y : ℕ) → Memᴰ y (kids (T.node x)) → y < T.count) (Q : M₁ → M → Type 0)
    (RH : H₁ → H → Type 0) (E₁ E₂ : ℕ → Type 0) (al : StepsUntil X₁ X T.count Q RH E₁ E₂) where
  refused_until : (e : ℕ) (s : M₁) (t : M) → Q s t → Until Q RH E₁ E₂ (stuck (X₁.held s) e) (stuck (X.held t) e)
  refused_until e s t q = both_end _ _ (al.u_held s t q) e

  pub eeach_until : (f₁ : M₁ → ℕ → Out M₁ H₁) (f : M → ℕ → Out M H) → ((s : M₁) (t : M) (y : ℕ) → Q s t → y < T.count → Until Q RH E₁ E₂ (f₁ s y) (f t y))
      → (ys : List ℕ) → ((y : ℕ) → Memᴰ y ys → y < T.count) → (s : M₁) (t : M) → Q s t → Until Q RH E₁ E₂ (eeach f₁ ys s) (eeach f ys t)
  unfolding eeach
  eeach_until f₁ f hf [] l s t q = both_go s t q
  eeach_until f₁ f hf (y ∷ ys) l s t q =
      until_bind (eeach f₁ ys) (eeach f ys) (hf s t y q (l y (Memᴰ.head refl))) (λ s' t' q'. eeach_until f₁ f hf ys (λ z m. l z (Memᴰ.tail m)) s' t' q')

  module _ (x : ℕ) (l : x < T.count) where
    once_until : (w₁ : M₁ → ℕ → Out M₁ H₁) (w : M → ℕ → Out M H) → ((s : M₁) (t : M) → Q s t → (y : ℕ) → y < T.count → Until Q RH E₁ E₂ (w₁ s y) (w t y))
        → (b : Bool) (s : M₁) (t : M) → Q s t → Until Q RH E₁ E₂ (once X₁ T w₁ x b s) (once X T w x b t)
    unfolding once
    once_until w₁ w hw true s t q = both_go s t q
    once_until w₁ w hw false s t q =
        until_bind (λ s'. wrote (X₁.forwarded x s')) (λ t'. wrote (X.forwarded x t')) (hw s t q x l) (λ s' t' q'. both_go (X₁.forwarded x s') (X.forwarded x t') (al.u_forwarded x s' t' q' l))

    mention_until : (b nm : Bool) (s : M₁) (t : M) → Q s t → Until Q RH E₁ E₂ (mention X₁ T b nm x s) (mention X T b nm x t)
    unfolding mention
    mention_until true nm s t q = both_go s t q
    mention_until false true s t q = once_until X₁.fwd_line X.fwd_line al.u_fwd false s t q
    mention_until false false s t q = refused_until 13 s t q

    -- a test of the flag is the same on both
    by_flag : (k₁ : Bool → Out M₁ H₁) (k : Bool → Out M H) (s : M₁) (t : M) → Q s t → ((b : Bool) → Until Q RH E₁ E₂ (k₁ b) (k b)) → Until Q RH E₁ E₂ (k₁ (X₁.has_fwd s x)) (k (X.has_fwd t x))
    by_flag k₁ k s t q h = subst (λ (b : Bool). Until Q RH E₁ E₂ (k₁ b) (k (X.has_fwd t x))) (sym (al.u_has s t q x l)) (h (X.has_fwd t x))

    again_until : (cont : ℕ) (s : M₁) (t : M) → Q s t → (nd : Node) → Until Q RH E₁ E₂ (again X₁ T s x cont nd) (again X T t x cont nd)
    unfolding again
    again_until cont s t q ignored = both_go s t q
    again_until cont s t q plain = both_go s t q
    again_until cont s t q (listed f) = both_go s t q
    again_until cont s t q (through a y) = both_go s t q
    again_until cont s t q (ptr y) = both_go s t q
    again_until cont s t q (tdef y) = by_flag (λ b. once X₁ T X₁.alias_line x b s) (λ b. once X T X.alias_line x b t) s t q (λ b. once_until X₁.alias_line X.alias_line al.u_alias b s t q)
    again_until cont s t q (proto ts) = both_go s t q
    again_until cont s t q (comp ms) =
        by_flag (λ b. mention X₁ T (b || eqb x cont) (T.named x) x s) (λ b. mention X T (b || eqb x cont) (T.named x) x t) s t q (λ b. mention_until (b || eqb x cont) (T.named x) s t q)

    marked : (m : Mark) (s : M₁) (t : M) → Q s t → Until Q RH E₁ E₂ (wrote (X₁.emark m x s)) (wrote (X.emark m x t))
    marked m s t q = both_go (X₁.emark m x s) (X.emark m x t) (al.u_emark m x s t q l)

    close_until : (top : Bool) (s : M₁) (t : M) → Q s t → Until Q RH E₁ E₂ (close X₁ T top x s) (close X T top x t)
    unfolding close
    close_until true s t q = until_bind (λ s'. wrote (X₁.emark done x s')) (λ t'. wrote (X.emark done x t')) (al.u_body s t q x l) (marked done)
    close_until false s t q = marked new s t q

    leaf_until : (b : Bool) (s : M₁) (t : M) → Q s t → Until Q RH E₁ E₂ (leaf X₁ T b x s) (leaf X T b x t)
    unfolding leaf
    leaf_until true s t q = until_bind (λ s'. wrote (X₁.emark done x s')) (λ t'. wrote (X.emark done x t')) (al.u_leaf s t q x l) (marked done)
    leaf_until false s t q = marked done s t q

    module _ (rec₁ : M₁ → ℕ → ℕ → Out M₁ H₁) (rec : M → ℕ → ℕ → Out M H) (keeps : (s : M₁) (t : M) (y c : ℕ) → Q s t → y < T.count → Until Q RH E₁ E₂ (rec₁ s y c) (rec t y c)) (s : M₁) (t : M) (cont : ℕ) (q : Q s t) where
      below_x : (nd : Node) (y : ℕ) → T.node x ≡ nd → Memᴰ y (kids nd) → y < T.count
      below_x nd y e m = below x y (subst (λ (k : Node). Memᴰ y (kids k)) (sym e) m)

      q_busy : Q (X₁.emark busy x s) (X.emark busy x t)
      q_busy = al.u_emark busy x s t q l

      within_until : (b nm : Bool) (ms : List ℕ) → T.node x ≡ comp ms → Until Q RH E₁ E₂ (within X₁ T rec₁ s x cont b nm ms) (within X T rec t x cont b nm ms)
      unfolding within
      within_until true nm ms e =
          eeach_until (λ s' y. rec₁ s' y (pick nm x cont)) (λ t' y. rec t' y (pick nm x cont)) (λ s' t' y q' l'. keeps s' t' y (pick nm x cont) q' l') ms (λ y m. below_x (comp ms) y e m) (X₁.emark busy x s) (X.emark busy x t) q_busy
      within_until false nm ms e =
          by_flag (λ b. once X₁ T X₁.fwd_line x (b || eqb x cont) (X₁.emark busy x s)) (λ b. once X T X.fwd_line x (b || eqb x cont) (X.emark busy x t)) s t q
          (λ b. once_until X₁.fwd_line X.fwd_line al.u_fwd (b || eqb x cont) (X₁.emark busy x s) (X.emark busy x t) q_busy)

      begin_until : (top : Bool) (nd : Node) → T.node x ≡ nd → Until Q RH E₁ E₂ (begin X₁ T rec₁ s x cont top nd) (begin X T rec t x cont top nd)
      unfolding begin
      begin_until top ignored e = both_go s t q
      begin_until top plain e = both_go s t q
      begin_until top (listed f) e = leaf_until (f || top) s t q
      begin_until top (through a y) e = keeps s t y cont q (below_x (through a y) y e (Memᴰ.head refl))
      begin_until top (ptr y) e = keeps s t y cont q (below_x (ptr y) y e (Memᴰ.head refl))
      begin_until top (tdef y) e =
          until_bind (λ s'. obind (once X₁ T X₁.alias_line x (X₁.has_fwd s' x) s') (λ s''. wrote (X₁.emark done x s''))) (λ t'. obind (once X T X.alias_line x (X.has_fwd t' x) t') (λ t''. wrote (X.emark done x t'')))
          (keeps (X₁.emark busy x s) (X.emark busy x t) y x q_busy (below_x (tdef y) y e (Memᴰ.head refl)))
          (λ s' t' q'. until_bind (λ s''. wrote (X₁.emark done x s'')) (λ t''. wrote (X.emark done x t''))
          (by_flag (λ b. once X₁ T X₁.alias_line x b s') (λ b. once X T X.alias_line x b t') s' t' q' (λ b. once_until X₁.alias_line X.alias_line al.u_alias b s' t' q')) (marked done))
      begin_until top (proto ts) e = eeach_until (λ s' y. rec₁ s' y cont) (λ t' y. rec t' y cont) (λ s' t' y q' l'. keeps s' t' y cont q' l') ts (λ y m. below_x (proto ts) y e m) s t q
      begin_until top (comp ms) e = until_bind (close X₁ T top x) (close X T top x) (within_until (top || not (T.named x)) (T.named x) ms e) (close_until top)

      allowed_until : (b : Bool) → Until Q RH E₁ E₂ (allowed X₁ T rec₁ s x cont b) (allowed X T rec t x cont b)
      unfolding allowed
      allowed_until true = refused_until 14 s t q
      allowed_until false = begin_until (is_zero cont) (T.node x) refl

      look_until : (m : Mark) → Until Q RH E₁ E₂ (look X₁ T rec₁ s x cont m) (look X T rec t x cont m)
      unfolding look
      look_until new = allowed_until (is_zero cont && not (T.named x))
      look_until busy = again_until cont s t q (T.node x)
      look_until done = both_go s t q

  pub emit_until : (n : ℕ) (s : M₁) (t : M) (x cont : ℕ) → Q s t → x < T.count → Until Q RH E₁ E₂ (emit X₁ T n s x cont) (emit X T n t x cont)
  unfolding emit
  emit_until zero s t x cont q l = refused_until 12 s t q
  emit_until (suc n) s t x cont q l =
      subst (λ (m : Mark). Until Q RH E₁ E₂ (look X₁ T (λ s' y c. emit X₁ T n s' y c) s x cont m) (look X T (λ t' y c. emit X T n t' y c) t x cont (X.eget t x))) (sym (al.u_eget s t q x l))
      (look_until x l (λ s' y c. emit X₁ T n s' y c) (λ t' y c. emit X T n t' y c) (λ s' t' y c q' l'. emit_until n s' t' y c q' l') s t cont q (X.eget t x))

-- ---- with no refusal that ends the comparison

abbrev pub Never : ℕ → Type 0
Never e = ⊥

module _ {M₁ H₁ M H : Type 0} {Q : M₁ → M → Type 0} {RH : H₁ → H → Type 0} where
  pub never_ends : {r₁ : Out M₁ H₁} {r : Out M H} → BothOut Q RH r₁ r → Until Q RH Never Never r₁ r
  never_ends (both_wrote s t q) = both_go s t q
  never_ends (both_stuck h₁ h q e) = both_end h₁ h q e

  pub to_the_end : {r₁ : Out M₁ H₁} {r : Out M H} → Until Q RH Never Never r₁ r → BothOut Q RH r₁ r
  to_the_end (both_go s t q) = both_wrote s t q
  to_the_end (both_end h₁ h q e) = both_stuck h₁ h q e
  to_the_end (left_ends h₁ e _ w) = absurd w
  to_the_end (right_ends h e _ w) = absurd w

module _ {M₁ H₁ M H : Type 0} (X₁ : Machine M₁ H₁) (X : Machine M H) (T : Table) (below : (x y : ℕ) → Memᴰ y (kids (T.node x)) → y < T.count) (Q : M₁ → M → Type 0)
    (RH : H₁ → H → Type 0) (al : AlikeSteps X₁ X T.count Q RH) where
  pub steps_until : StepsUntil X₁ X T.count Q RH Never Never
  steps_until = record {
    u_eget = al.a_eget;
    u_emark = al.a_emark;
    u_has = al.a_has;
    u_forwarded = al.a_forwarded;
    u_held = al.a_held;
    u_fwd = λ s t q x l. never_ends (al.a_fwd s t q x l);
    u_alias = λ s t q x l. never_ends (al.a_alias s t q x l);
    u_leaf = λ s t q x l. never_ends (al.a_leaf s t q x l);
    u_body = λ s t q x l. never_ends (al.a_body s t q x l);
  }

  pub eeach_alike : (f₁ : M₁ → ℕ → Out M₁ H₁) (f : M → ℕ → Out M H) → ((s : M₁) (t : M) (y : ℕ) → Q s t → y < T.count → BothOut Q RH (f₁ s y) (f t y))
      → (ys : List ℕ) → ((y : ℕ) → Memᴰ y ys → y < T.count) → (s : M₁) (t : M) → Q s t → BothOut Q RH (eeach f₁ ys s) (eeach f ys t)
  eeach_alike f₁ f hf ys l s t q = to_the_end (eeach_until X₁ X T below Q RH Never Never steps_until f₁ f (λ s' t' y q' l'. never_ends (hf s' t' y q' l')) ys l s t q)

  pub look_alike : (x : ℕ) → x < T.count → (rec₁ : M₁ → ℕ → ℕ → Out M₁ H₁) (rec : M → ℕ → ℕ → Out M H) → ((s : M₁) (t : M) (y c : ℕ) → Q s t → y < T.count → BothOut Q RH (rec₁ s y c) (rec t y c))
      → (s : M₁) (t : M) (cont : ℕ) → Q s t → (m : Mark) → BothOut Q RH (look X₁ T rec₁ s x cont m) (look X T rec t x cont m)
  look_alike x l rec₁ rec keeps s t cont q m = to_the_end (look_until X₁ X T below Q RH Never Never steps_until x l rec₁ rec (λ s' t' y c q' l'. never_ends (keeps s' t' y c q' l')) s t cont q m)

  pub emit_alike : (n : ℕ) (s : M₁) (t : M) (x cont : ℕ) → Q s t → x < T.count → BothOut Q RH (emit X₁ T n s x cont) (emit X T n t x cont)
  emit_alike n s t x cont q l = to_the_end (emit_until X₁ X T below Q RH Never Never steps_until n s t x cont q l)
