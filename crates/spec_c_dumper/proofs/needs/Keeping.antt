-- What each step of a machine keeps, ordering, emission and sessions keep, with what is known of the names where it is refused. Assumes nothing.
use Prim.Native.Nat.{ℕ, zero, suc}
use mathlib.Core.Path.{◌≡◌, refl}
use mathlib.Core.Bool.{Bool, true, false, not, ◌&&◌, ◌||◌}
use mathlib.Core.List.{List, [], ◌∷◌}
use lib.Dec.{ltb, eqb}
use Rattle.spec_c_dumper.specs.rules.Order.{Node, ignored, plain, listed, through, ptr, tdef, proto, comp, Table, is_comp, Mark, new, busy, done, is_done, Res, ok, refused, bind, each, meet, push_if, finish, enter, alias, fresh, visit, order}
use Rattle.spec_c_dumper.specs.rules.Machine.{Out, wrote, stuck, Machine, is_zero, pick, obind, eeach, once, mention, again, close, leaf, within, begin, allowed, look, emit, Sess, Answer, Req, one, all, shut, emitted, ordered, gate, single, onward, from, every, serve, run}
use Rattle.spec_c_dumper.specs.needs.Bodies.{is_leaf}

-- J: of what is held of the names at a refusal
pub data Leaves {M H : Type 0} (P : M → Type 0) (J : H → Type 0) : Out M H → Type 0 where
  leaves : (s : M) → P s → Leaves P J (wrote s)
  stops : (h : H) (e : ℕ) → J h → Leaves P J (stuck h e)

data Listed {M : Type 0} (P : M → Type 0) : Res M → Type 0 where
  lists : (s : M) (b : Bool) → P s → Listed P (ok s b)
  refuses : (e : ℕ) → Listed P (refused e)

-- the steps, each with the kind of type that it is made for
pub record Steps {M H : Type 0} (X : Machine M H) (T : Table) (P : M → Type 0) (J : H → Type 0) : Type 0 where
  pub k_mark : (m : Mark) (x : ℕ) (s : M) → P s → P (X.store.mark m x s)
  pub k_push : (x : ℕ) (s : M) → P s → P (X.store.push x s)
  pub k_emark : (m : Mark) (x : ℕ) (s : M) → P s → P (X.emark m x s)
  pub k_forwarded : (x : ℕ) (s : M) → P s → P (X.forwarded x s)
  pub k_fwd : (s : M) (x : ℕ) → P s → Leaves P J (X.fwd_line s x)
  pub k_alias : (s : M) (x : ℕ) → P s → Leaves P J (X.alias_line s x)
  pub k_leaf : (s : M) (x : ℕ) → is_leaf (T.node x) ≡ true → P s → Leaves P J (X.leaf_line s x)
  pub k_body : (s : M) (x : ℕ) → is_comp (T.node x) ≡ true → P s → Leaves P J (X.body s x)
  pub k_held : (s : M) → P s → J (X.held s)

module _ {M H : Type 0} (X : Machine M H) (T : Table) (P : M → Type 0) (J : H → Type 0) (k : Steps X T P J) where
  -- ---- ordering
  bind_kept : (r : Res M) (f : M → Bool → Res M) → Listed P r → ((s : M) (b : Bool) → P s → Listed P (f s b)) → Listed P (bind r f)
  unfolding bind
  bind_kept _ f (lists s b p) h = h s b p
  bind_kept _ f (refuses e) h = refuses e

  each_kept : (f : M → ℕ → Res M) → ((s : M) (y : ℕ) → P s → Listed P (f s y)) → (ys : List ℕ) (s : M) (b : Bool) → P s → Listed P (each f ys s b)
  unfolding each
  each_kept f h [] s b p = lists s b p
  each_kept f h (y ∷ ys) s b p = bind_kept (f s y) _ (h s y p) (λ s' b' p'. each_kept f h ys s' (b || b') p')

  push_kept : (b : Bool) (x : ℕ) (s : M) → P s → P (push_if X.store b x s)
  unfolding push_if
  push_kept true x s p = k.k_push x s p
  push_kept false x s p = p

  finish_kept : (b : Bool) (x : ℕ) (s : M) → P s → P (finish X.store b x s)
  finish_kept b x s p = k.k_mark done x (push_if X.store b x s) (push_kept b x s p)

  enter_kept : (b : Bool) (f : M → ℕ → Res M) → ((s : M) (y : ℕ) → P s → Listed P (f s y)) → (s : M) (x : ℕ) (nm : Bool) (ms : List ℕ) → P s → Listed P (enter X.store b f s x nm ms)
  unfolding enter
  enter_kept true f h s x nm ms p = lists s false p
  enter_kept false f h s x nm ms p = bind_kept _ _ (each_kept f h ms (X.store.mark busy x s) false (k.k_mark busy x s p)) (λ s' b p'. lists _ true (finish_kept nm x s' p'))

  alias_kept : (b was : Bool) (s : M) (x : ℕ) → P s → Listed P (alias X.store b was s x)
  unfolding alias
  alias_kept true was s x p = lists _ true (finish_kept (not was) x s p)
  alias_kept false was s x p = lists s false p

  meet_kept : (b : Bool) (s : M) → P s → Listed P (meet b s)
  unfolding meet
  meet_kept true s p = lists s false p
  meet_kept false s p = refuses 13

  module _ (rec : M → ℕ → Bool → Res M) (h : (s : M) (x : ℕ) (weak : Bool) → P s → Listed P (rec s x weak)) (s : M) (x : ℕ) (weak : Bool) (p : P s) where
    fresh_kept : (nd : Node) → Listed P (fresh X.store T rec s x weak nd)
    unfolding fresh
    fresh_kept ignored = lists s false p
    fresh_kept plain = lists _ false (finish_kept false x s p)
    fresh_kept (listed f) = lists _ true (finish_kept (T.named x) x s p)
    fresh_kept (through a t) = h s t (not (a && T.strong_arrays) && weak) p
    fresh_kept (ptr t) = bind_kept (rec s t true) _ (h s t true p) (λ s' b p'. lists _ b (finish_kept false x s' p'))
    fresh_kept (tdef t) = bind_kept (rec s t weak) _ (h s t weak p) (λ s' b p'. alias_kept (not weak || b) (is_done (X.store.get s' x)) s' x p')
    fresh_kept (proto ts) = each_kept (λ s' y. rec s' y weak) (λ s' y p'. h s' y weak p') ts s false p
    fresh_kept (comp ms) = enter_kept (weak && T.named x) (λ s' y. rec s' y false) (λ s' y p'. h s' y false p') s x (T.named x) ms p

    visit_kept : (m : Mark) → Listed P (visit X.store T rec s x weak m)
    unfolding visit
    visit_kept new = fresh_kept (T.node x)
    visit_kept busy = meet_kept (is_comp (T.node x) && (weak && T.named x)) s p
    visit_kept done = lists s true p

  order_kept_lem : (n : ℕ) (s : M) (x : ℕ) (weak : Bool) → P s → Listed P (order X.store n T s x weak)
  unfolding order
  order_kept_lem zero s x weak p = refuses 12
  order_kept_lem (suc n) s x weak p = visit_kept (λ s' y w. order X.store n T s' y w) (λ s' y w p'. order_kept_lem n s' y w p') s x weak p (X.store.get s x)

  -- ---- emission
  obind_kept : (o : Out M H) (f : M → Out M H) → Leaves P J o → ((s : M) → P s → Leaves P J (f s)) → Leaves P J (obind o f)
  unfolding obind
  obind_kept _ f (leaves s p) h = h s p
  obind_kept _ f (stops h₀ e j) h = stops h₀ e j

  eeach_kept : (f : M → ℕ → Out M H) → ((s : M) (y : ℕ) → P s → Leaves P J (f s y)) → (ys : List ℕ) (s : M) → P s → Leaves P J (eeach f ys s)
  unfolding eeach
  eeach_kept f h [] s p = leaves s p
  eeach_kept f h (y ∷ ys) s p = obind_kept (f s y) (eeach f ys) (h s y p) (λ s' p'. eeach_kept f h ys s' p')

  once_kept : (w : M → ℕ → Out M H) → ((s : M) (x : ℕ) → P s → Leaves P J (w s x)) → (x : ℕ) (b : Bool) (s : M) → P s → Leaves P J (once X T w x b s)
  unfolding once
  once_kept w h x true s p = leaves s p
  once_kept w h x false s p = obind_kept (w s x) _ (h s x p) (λ s' p'. leaves _ (k.k_forwarded x s' p'))

  mention_kept : (b nm : Bool) (x : ℕ) (s : M) → P s → Leaves P J (mention X T b nm x s)
  unfolding mention
  mention_kept true nm x s p = leaves s p
  mention_kept false true x s p = once_kept X.fwd_line k.k_fwd x false s p
  mention_kept false false x s p = stops _ 13 (k.k_held s p)

  again_kept : (s : M) (x cont : ℕ) → P s → (nd : Node) → Leaves P J (again X T s x cont nd)
  unfolding again
  again_kept s x cont p ignored = leaves s p
  again_kept s x cont p plain = leaves s p
  again_kept s x cont p (listed f) = leaves s p
  again_kept s x cont p (through a t) = leaves s p
  again_kept s x cont p (ptr t) = leaves s p
  again_kept s x cont p (tdef t) = once_kept X.alias_line k.k_alias x (X.has_fwd s x) s p
  again_kept s x cont p (proto ts) = leaves s p
  again_kept s x cont p (comp ms) = mention_kept (X.has_fwd s x || eqb x cont) (T.named x) x s p

  close_kept : (b : Bool) (x : ℕ) (s : M) → is_comp (T.node x) ≡ true → P s → Leaves P J (close X T b x s)
  unfolding close
  close_kept true x s c p = obind_kept (X.body s x) _ (k.k_body s x c p) (λ s' p'. leaves _ (k.k_emark done x s' p'))
  close_kept false x s c p = leaves _ (k.k_emark new x s p)

  leaf_kept : (b : Bool) (x : ℕ) (s : M) → is_leaf (T.node x) ≡ true → P s → Leaves P J (leaf X T b x s)
  unfolding leaf
  leaf_kept true x s c p = obind_kept (X.leaf_line s x) _ (k.k_leaf s x c p) (λ s' p'. leaves _ (k.k_emark done x s' p'))
  leaf_kept false x s c p = leaves _ (k.k_emark done x s p)

  module _ (rec : M → ℕ → ℕ → Out M H) (h : (s : M) (x cont : ℕ) → P s → Leaves P J (rec s x cont)) (s : M) (x cont : ℕ) (p : P s) where
    within_kept : (b nm : Bool) (ms : List ℕ) → Leaves P J (within X T rec s x cont b nm ms)
    unfolding within
    within_kept true nm ms = eeach_kept (λ s' y. rec s' y (pick nm x cont)) (λ s' y p'. h s' y (pick nm x cont) p') ms (X.emark busy x s) (k.k_emark busy x s p)
    within_kept false nm ms = once_kept X.fwd_line k.k_fwd x (X.has_fwd s x || eqb x cont) (X.emark busy x s) (k.k_emark busy x s p)

    begin_kept : (top : Bool) (nd : Node) → T.node x ≡ nd → Leaves P J (begin X T rec s x cont top nd)
    unfolding begin
    begin_kept top ignored e = leaves s p
    begin_kept top plain e = leaves s p
    begin_kept top (listed f) e = leaf_kept (f || top) x s (rw e refl) p
    begin_kept top (through a t) e = h s t cont p
    begin_kept top (ptr t) e = h s t cont p
    begin_kept top (tdef t) e =
        obind_kept (rec (X.emark busy x s) t x) _ (h (X.emark busy x s) t x (k.k_emark busy x s p)) (λ s' p'.
        obind_kept (once X T X.alias_line x (X.has_fwd s' x) s') _ (once_kept X.alias_line k.k_alias x (X.has_fwd s' x) s' p') (λ s'' p''. leaves _ (k.k_emark done x s'' p'')))
    begin_kept top (proto ts) e = eeach_kept (λ s' y. rec s' y cont) (λ s' y p'. h s' y cont p') ts s p
    begin_kept top (comp ms) e = obind_kept (within X T rec s x cont (top || not (T.named x)) (T.named x) ms) (close X T top x) (within_kept (top || not (T.named x)) (T.named x) ms) (λ s' p'. close_kept top x s' (rw e refl) p')

    allowed_kept : (b : Bool) → Leaves P J (allowed X T rec s x cont b)
    unfolding allowed
    allowed_kept true = stops _ 14 (k.k_held s p)
    allowed_kept false = begin_kept (is_zero cont) (T.node x) refl

    look_kept : (m : Mark) → Leaves P J (look X T rec s x cont m)
    unfolding look
    look_kept new = allowed_kept (is_zero cont && not (T.named x))
    look_kept busy = again_kept s x cont p (T.node x)
    look_kept done = leaves s p

  emit_kept : (n : ℕ) (s : M) (x cont : ℕ) → P s → Leaves P J (emit X T n s x cont)
  unfolding emit
  emit_kept zero s x cont p = stops _ 12 (k.k_held s p)
  emit_kept (suc n) s x cont p = look_kept (λ s' y c. emit X T n s' y c) (λ s' y c p'. emit_kept n s' y c p') s x cont p (X.eget s x)

-- ---- sessions

-- P: between requests; Q, J: within a request that found the machine g
pub record Requests {M H : Type 0} (X : Machine M H) (T : Table) (P : M → Type 0) (Q : M → M → Type 0) (J : M → H → Type 0) : Type 0 where
  pub k_steps : (g : M) → P g → Steps X T (Q g) (J g)
  pub k_start : (room : ℕ) (g : M) → P g → Q g (X.start room g)
  pub k_end : (g s : M) → Q g s → P s
  pub k_refused : (g : M) → P g → J g (X.held g)
  pub k_leaving : (g : M) (h : H) → P g → J g h → P (X.leaving h g)

module _ {M H : Type 0} (X : Machine M H) (T : Table) (P : M → Type 0) (Q : M → M → Type 0) (J : M → H → Type 0) (k : Requests X T P Q J) where
  emitted_kept : (S : Sess M) (x : ℕ) (o : Out M H) → P S.mach → Leaves (Q S.mach) (J S.mach) o → P (emitted X T S x o).sess.mach
  unfolding emitted shut
  emitted_kept S x _ p (leaves s q) = k.k_end S.mach s q
  emitted_kept S x _ p (stops h e j) = k.k_leaving S.mach h p j

  ordered_kept : (S : Sess M) (x : ℕ) (r : Res M) → P S.mach → Listed (Q S.mach) r → P (ordered X T S x r).sess.mach
  unfolding ordered shut
  ordered_kept S x _ p (lists s b q) =
      let steps = k.k_steps S.mach p in
      emitted_kept S x _ p (eeach_kept X T (Q S.mach) (J S.mach) steps (λ m y. emit X T 512 m y 0) (λ m y q'. emit_kept X T (Q S.mach) (J S.mach) steps 512 m y 0 q') (X.store.list s) s q)
  ordered_kept S x _ p (refuses e) = k.k_leaving S.mach (X.held S.mach) p (k.k_refused S.mach p)

  gate_kept : (room : ℕ) (S : Sess M) (x : ℕ) (opened below : Bool) → P S.mach → P (gate X T room S x opened below).sess.mach
  unfolding gate
  gate_kept room S x false below p = p
  gate_kept room S x true false p = p
  gate_kept room S x true true p =
      ordered_kept S x _ p (order_kept_lem X T (Q S.mach) (J S.mach) (k.k_steps S.mach p) 512 (X.start room S.mach) x false (k.k_start room S.mach p))

  pub single_kept : (room : ℕ) (S : Sess M) (x : ℕ) → P S.mach → P (single X T room S x).sess.mach
  unfolding single
  single_kept room S x p = gate_kept room S x S.is_open (ltb x T.count) p

  onward_kept : (f : Sess M → Answer M) → ((S : Sess M) → P S.mach → P (f S).sess.mach) → (a : Answer M) (n : ℕ) → a.number ≡ n → P a.sess.mach → P (onward X T f a).sess.mach
  unfolding onward
  onward_kept f h a zero e p = rw e (h a.sess p)
  onward_kept f h a (suc n) e p = rw e p

  from_kept : (room n x : ℕ) (S : Sess M) → P S.mach → P (from X T room n x S).sess.mach
  unfolding from
  from_kept room zero x S p = p
  from_kept room (suc n) x S p = onward_kept (from X T room n (suc x)) (λ S' p'. from_kept room n (suc x) S' p') (single X T room S x) (single X T room S x).number refl (single_kept room S x p)

  pub every_kept : (room : ℕ) (S : Sess M) (opened : Bool) → P S.mach → P (every X T room S opened).sess.mach
  unfolding every
  every_kept room S false p = p
  every_kept room S true p = from_kept room _ 1 S p

  serve_kept : (S : Sess M) (r : Req) → P S.mach → P (serve X T S r).mach
  unfolding serve
  serve_kept S (one room x) p = single_kept room S x p
  serve_kept S (all room) p = every_kept room S S.is_open p

  pub run_kept : (rs : List Req) (S : Sess M) → P S.mach → P (run X T rs S).mach
  unfolding run
  run_kept [] S p = p
  run_kept (r ∷ rs) S p = run_kept rs (serve X T S r) (serve_kept S r p)
