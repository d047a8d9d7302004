-- Two machines of lists whose lines are the same, but that some of the first are refused by a number of their own: a request then comes to the same, or the
-- first refuses it by that number. Assumes nothing.
use Prim.Native.Nat.{ℕ, zero, suc, ◌-◌}
use mathlib.Core.Path.{◌≡◌, refl, ap, ◌∙◌, sym, subst}
use mathlib.Core.Bool.{Bool, true, false, not, ◌&&◌, ◌||◌}
use mathlib.Core.List.{List, [], ◌∷◌}
use mathlib.Core.Logic.{◌⊎◌, inl, inr}
use lib.Dec.{ltb, eqb}
use Rattle.spec_c_dumper.specs.rules.Order.{Node, ignored, plain, listed, through, ptr, tdef, proto, comp, Table, Mark, new, busy, done, Res, ok, refused}
use Rattle.spec_c_dumper.specs.rules.Machine.{Out, wrote, stuck, Machine, is_zero, pick, obind, eeach, once, mention, again, close, leaf, within, begin, allowed, look, emit, Sess, Answer, shut, emitted, ordered, ordering, gate, single, onward, from, every}
use Rattle.spec_c_dumper.specs.needs.Lists.{Piece, defines, other, Line, cannot, Lines, Ls, put_line, list_machine}

-- the number is not 0
module _ (U H : Type 0) (n : ℕ) where
  abbrev M : Type 0
  M = Ls U

  -- refused by that number, or the same
  abbrev pub LineUp : Line U H → Line U H → Type 0
  LineUp l' l = ((h : H) × (l' ≡ cannot h (suc n))) ⊎ (l' ≡ l)

  abbrev OutUp : Out M H → Out M H → Type 0
  OutUp o' o = ((h : H) × (o' ≡ stuck h (suc n))) ⊎ (o' ≡ o)

  abbrev pub AnswerUp : Answer M → Answer M → Type 0
  AnswerUp a' a = (a'.number ≡ suc n) ⊎ (a' ≡ a)

  pub record LinesUp (L' L : Lines U H) : Type 0 where
    pub fwd_up : (room : ℕ) (k : U) (id : ℕ) → LineUp (L'.fwd room k id) (L.fwd room k id)
    pub alias_up : (room : ℕ) (k : U) (id : ℕ) → LineUp (L'.alias' room k id) (L.alias' room k id)
    pub leaf_up : (room : ℕ) (k : U) (id : ℕ) → LineUp (L'.leaf' room k id) (L.leaf' room k id)
    pub body_up : (room : ℕ) (k : U) (id : ℕ) → LineUp (L'.body' room k id) (L.body' room k id)
    pub held_up : (k : U) → L'.held' k ≡ L.held' k
    pub leaving_up : (h : H) (k : U) → L'.leaving' h k ≡ L.leaving' h k

  put_up : (mk : List ℕ → Piece) (s : M) (l' l : Line U H) → LineUp l' l → OutUp (put_line mk s l') (put_line mk s l)
  put_up mk s l' l (inl q) = inl (q.0, ap (put_line mk s) q.1)
  put_up mk s l' l (inr q) = inr (ap (put_line mk s) q)

  bind_up : (o' o : Out M H) (k' k : M → Out M H) → OutUp o' o → ((s : M) → OutUp (k' s) (k s)) → OutUp (obind o' k') (obind o k)
  unfolding obind
  bind_up o' o k' k (inl q) h = inl (q.0, ap (λ (z : Out M H). obind z k') q.1)
  bind_up o' o k' k (inr q) h = subst (λ (z : Out M H). OutUp (obind z k') (obind o k)) (sym q) (go o)
    where
      go : (z : Out M H) → OutUp (obind z k') (obind z k)
      go (wrote s) = h s
      go (stuck m c) = inr refl

  each_up : (f' f : M → ℕ → Out M H) → ((s : M) (y : ℕ) → OutUp (f' s y) (f s y)) → (ys : List ℕ) (s : M) → OutUp (eeach f' ys s) (eeach f ys s)
  unfolding eeach
  each_up f' f h [] s = inr refl
  each_up f' f h (y ∷ ys) s = bind_up (f' s y) (f s y) (eeach f' ys) (eeach f ys) (h s y) (λ s₁. each_up f' f h ys s₁)

  module _ (L' L : Lines U H) (T : Table) (h : LinesUp L' L) where
    abbrev X' : Machine M H
    X' = list_machine L'

    abbrev X : Machine M H
    X = list_machine L

    held_at : (s : M) (c : ℕ) → ◌≡◌ {A = Out M H} (stuck (X'.held s) c) (stuck (X.held s) c)
    held_at s c = ap (λ (m : H). stuck m c) (h.held_up s.known)

    once_up : (w' w : M → ℕ → Out M H) → ((s : M) (x : ℕ) → OutUp (w' s x) (w s x)) → (x : ℕ) (b : Bool) (s : M) → OutUp (once X' T w' x b s) (once X T w x b s)
    unfolding once
    once_up w' w hw x true s = inr refl
    once_up w' w hw x false s = bind_up (w' s x) (w s x) (λ s₁. wrote (X'.forwarded x s₁)) (λ s₁. wrote (X.forwarded x s₁)) (hw s x) (λ s₁. inr refl)

    fwd_line : (s : M) (x : ℕ) → OutUp (X'.fwd_line s x) (X.fwd_line s x)
    fwd_line s x = put_up other s (L'.fwd s.room s.known x) (L.fwd s.room s.known x) (h.fwd_up s.room s.known x)

    alias_line : (s : M) (x : ℕ) → OutUp (X'.alias_line s x) (X.alias_line s x)
    alias_line s x = put_up other s (L'.alias' s.room s.known x) (L.alias' s.room s.known x) (h.alias_up s.room s.known x)

    mention_up : (b nm : Bool) (x : ℕ) (s : M) → OutUp (mention X' T b nm x s) (mention X T b nm x s)
    unfolding mention
    mention_up true nm x s = inr refl
    mention_up false true x s = once_up X'.fwd_line X.fwd_line fwd_line x false s
    mention_up false false x s = inr (held_at s 13)

    again_up : (s : M) (x cont : ℕ) (nd : Node) → OutUp (again X' T s x cont nd) (again X T s x cont nd)
    unfolding again
    again_up s x cont ignored = inr refl
    again_up s x cont plain = inr refl
    again_up s x cont (listed f) = inr refl
    again_up s x cont (through a t) = inr refl
    again_up s x cont (ptr t) = inr refl
    again_up s x cont (tdef t) = once_up X'.alias_line X.alias_line alias_line x (X.has_fwd s x) s
    again_up s x cont (proto ts) = inr refl
    again_up s x cont (comp ms) = mention_up (X.has_fwd s x || eqb x cont) (T.named x) x s

    close_up : (top : Bool) (x : ℕ) (s : M) → OutUp (close X' T top x s) (close X T top x s)
    unfolding close
    close_up true x s =
        bind_up (X'.body s x) (X.body s x) (λ s₁. wrote (X'.emark done x s₁)) (λ s₁. wrote (X.emark done x s₁))
        (put_up (defines x) s (L'.body' s.room s.known x) (L.body' s.room s.known x) (h.body_up s.room s.known x)) (λ s₁. inr refl)
    close_up false x s = inr refl

    leaf_is_up : (top : Bool) (x : ℕ) (s : M) → OutUp (leaf X' T top x s) (leaf X T top x s)
    unfolding leaf
    leaf_is_up true x s =
        bind_up (X'.leaf_line s x) (X.leaf_line s x) (λ s₁. wrote (X'.emark done x s₁)) (λ s₁. wrote (X.emark done x s₁))
        (put_up other s (L'.leaf' s.room s.known x) (L.leaf' s.room s.known x) (h.leaf_up s.room s.known x)) (λ s₁. inr refl)
    leaf_is_up false x s = inr refl

    module _ (r' r : M → ℕ → ℕ → Out M H) (hr : (s : M) (x c : ℕ) → OutUp (r' s x c) (r s x c)) (s : M) (x cont : ℕ) where
      within_up : (b nm : Bool) (ms : List ℕ) → OutUp (within X' T r' s x cont b nm ms) (within X T r s x cont b nm ms)
      unfolding within
      within_up true nm ms = each_up (λ s₁ y. r' s₁ y (pick nm x cont)) (λ s₁ y. r s₁ y (pick nm x cont)) (λ s₁ y. hr s₁ y (pick nm x cont)) ms (X.emark busy x s)
      within_up false nm ms = once_up X'.fwd_line X.fwd_line fwd_line x (X.has_fwd s x || eqb x cont) (X.emark busy x s)

      begin_up : (top : Bool) (nd : Node) → OutUp (begin X' T r' s x cont top nd) (begin X T r s x cont top nd)
      unfolding begin
      begin_up top ignored = inr refl
      begin_up top plain = inr refl
      begin_up top (listed f) = leaf_is_up (f || top) x s
      begin_up top (through a t) = hr s t cont
      begin_up top (ptr t) = hr s t cont
      begin_up top (tdef t) =
          bind_up (r' (X'.emark busy x s) t x) (r (X.emark busy x s) t x)
          (λ s₁. obind (once X' T X'.alias_line x (X'.has_fwd s₁ x) s₁) (λ s₂. wrote (X'.emark done x s₂))) (λ s₁. obind (once X T X.alias_line x (X.has_fwd s₁ x) s₁) (λ s₂. wrote (X.emark done x s₂)))
          (hr (X.emark busy x s) t x)
          (λ s₁. bind_up (once X' T X'.alias_line x (X'.has_fwd s₁ x) s₁) (once X T X.alias_line x (X.has_fwd s₁ x) s₁) (λ s₂. wrote (X'.emark done x s₂)) (λ s₂. wrote (X.emark done x s₂))
          (once_up X'.alias_line X.alias_line alias_line x (X.has_fwd s₁ x) s₁) (λ s₂. inr refl))
      begin_up top (proto ts) = each_up (λ s₁ y. r' s₁ y cont) (λ s₁ y. r s₁ y cont) (λ s₁ y. hr s₁ y cont) ts s
      begin_up top (comp ms) =
          bind_up (within X' T r' s x cont (top || not (T.named x)) (T.named x) ms) (within X T r s x cont (top || not (T.named x)) (T.named x) ms) (close X' T top x) (close X T top x)
          (within_up (top || not (T.named x)) (T.named x) ms) (λ s₁. close_up top x s₁)

      allowed_up : (b : Bool) → OutUp (allowed X' T r' s x cont b) (allowed X T r s x cont b)
      unfolding allowed
      allowed_up true = inr (held_at s 14)
      allowed_up false = begin_up (is_zero cont) (T.node x)

      look_up : (m : Mark) → OutUp (look X' T r' s x cont m) (look X T r s x cont m)
      unfolding look
      look_up new = allowed_up (is_zero cont && not (T.named x))
      look_up busy = again_up s x cont (T.node x)
      look_up done = inr refl

    emit_up : (k : ℕ) (s : M) (x cont : ℕ) → OutUp (emit X' T k s x cont) (emit X T k s x cont)
    unfolding emit
    emit_up zero s x cont = inr (held_at s 12)
    emit_up (suc k) s x cont = look_up (λ s₁ y c. emit X' T k s₁ y c) (λ s₁ y c. emit X T k s₁ y c) (λ s₁ y c. emit_up k s₁ y c) s x cont (X.eget s x)

    -- ---- requests
    shut_same : (S : Sess M) (m : H) (c : ℕ) → shut X' T S m c ≡ shut X T S m c
    unfolding shut
    shut_same S m c = λ i. record {
      sess = record {
        is_open = false;
        mach = record { marks = S.mach.marks; olist = S.mach.olist; emits = S.mach.emits; fwds = S.mach.fwds; room = S.mach.room; known = h.leaving_up m S.mach.known i; pieces = S.mach.pieces };
        asked = S.asked;
      };
      number = c;
    }

    emitted_up : (S : Sess M) (x : ℕ) (o' o : Out M H) → OutUp o' o → AnswerUp (emitted X' T S x o') (emitted X T S x o)
    unfolding emitted shut
    emitted_up S x o' o (inl q) = inl (ap (λ (z : Out M H). (emitted X' T S x z).number) q.1)
    emitted_up S x o' o (inr q) = inr (ap (emitted X' T S x) q ∙ go o)
      where
        go : (z : Out M H) → emitted X' T S x z ≡ emitted X T S x z
        go (wrote m) = refl
        go (stuck m c) = shut_same S m c

    ordered_up : (S : Sess M) (x : ℕ) (r : Res M) → AnswerUp (ordered X' T S x r) (ordered X T S x r)
    unfolding ordered shut
    ordered_up S x (ok s b) = emitted_up S x _ _ (each_up (λ m y. emit X' T 512 m y 0) (λ m y. emit X T 512 m y 0) (λ m y. emit_up 512 m y 0) (X.store.list s) s)
    ordered_up S x (refused c) = inr (ap (λ (m : H). shut X' T S m c) (h.held_up S.mach.known) ∙ shut_same S (X.held S.mach) c)

    gate_up : (room : ℕ) (S : Sess M) (x : ℕ) (o below : Bool) → AnswerUp (gate X' T room S x o below) (gate X T room S x o below)
    unfolding gate
    gate_up room S x false below = inr refl
    gate_up room S x true false = inr refl
    gate_up room S x true true = ordered_up S x (ordering X T room S x)

    pub single_up : (room : ℕ) (S : Sess M) (x : ℕ) → AnswerUp (single X' T room S x) (single X T room S x)
    unfolding single
    single_up room S x = gate_up room S x S.is_open (ltb x T.count)

    onward_up : (k' k : Sess M → Answer M) → ((S : Sess M) → AnswerUp (k' S) (k S)) → (a' a : Answer M) → AnswerUp a' a → AnswerUp (onward X' T k' a') (onward X T k a)
    unfolding onward
    onward_up k' k hk a' a (inl q) = inl (go a'.number q)
      where
        go : (j : ℕ) → j ≡ suc n → (elim j as (λ (z : ℕ). Answer M) [ zero ↦ k' a'.sess | suc i ↦ a' ]).number ≡ suc n
        go j e = subst (λ (z : ℕ). (elim z as (λ (y : ℕ). Answer M) [ zero ↦ k' a'.sess | suc i ↦ a' ]).number ≡ suc n) (sym e) q
    onward_up k' k hk a' a (inr q) = subst (λ (z : Answer M). AnswerUp (onward X' T k' z) (onward X T k a)) (sym q) (go a.number)
      where
        go : (j : ℕ) → AnswerUp (elim j as (λ (z : ℕ). Answer M) [ zero ↦ k' a.sess | suc i ↦ a ]) (elim j as (λ (z : ℕ). Answer M) [ zero ↦ k a.sess | suc i ↦ a ])
        go zero = hk a.sess
        go (suc i) = inr refl

    from_up : (room k x : ℕ) (S : Sess M) → AnswerUp (from X' T room k x S) (from X T room k x S)
    unfolding from
    from_up room zero x S = inr refl
    from_up room (suc k) x S = onward_up (from X' T room k (suc x)) (from X T room k (suc x)) (λ S₁. from_up room k (suc x) S₁) (single X' T room S x) (single X T room S x) (single_up room S x)

    pub every_up : (room : ℕ) (S : Sess M) (o : Bool) → AnswerUp (every X' T room S o) (every X T room S o)
    unfolding every
    every_up room S false = inr refl
    every_up room S true = from_up room (T.count - 1) 1 S
