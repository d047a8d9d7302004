-- Where no name passes a reserve, no request is refused by 20. Assumes nothing.
use Prim.Native.Nat.{ℕ, zero, suc, ◌+◌, ◌-◌}
use native.Mathlib.Omega.{arith}
use mathlib.Core.Path.{◌≡◌}
use mathlib.Core.Bool.{Bool, true, false, not, ◌&&◌, ◌||◌}
use mathlib.Core.List.{List, [], ◌∷◌}
use mathlib.Core.Logic.{inl, inr}
use lib.ListN.{length}
use lib.Dec.{ltb, leb, eqb}
use Rattle.spec_bytes.specs.text.Text.{Text, bytes}
use Rattle.spec_c_dumper.specs.rules.Order.{Node, ignored, plain, listed, through, ptr, tdef, proto, comp, Table, is_comp, Mark, new, busy, done, is_done, Res, ok, refused, bind, each, meet, enter, alias, fresh, visit, order}
use Rattle.spec_c_dumper.specs.rules.Machine.{Out, wrote, stuck, Machine, is_zero, pick, obind, eeach, once, mention, again, close, leaf, within, begin, allowed, look, emit, Sess, Answer, Req, one, all, shut, emitted, ordered, gate, single, onward, from, every}
use Rattle.spec_c_dumper.specs.rules.Writer.{Said, said, said_text}
use Rattle.spec_c_dumper.specs.rules.Types.{Btf, table_of}
use Rattle.spec_c_dumper.specs.rules.Layout.{smaller}
use Rattle.spec_c_dumper.specs.rules.Names.{Naming}
use Rattle.spec_c_dumper.specs.rules.Emit.{definition, forward}
use Rattle.spec_c_dumper.specs.needs.Lists.{Piece, defines, other, cannot, Ls, put_line}
use Rattle.spec_c_dumper.specs.needs.Session.{Known, fitting, line_of, machine_by, answer_to}
use Rattle.spec_c_dumper.proofs.rules.Closed.{Code}
use Rattle.spec_c_dumper.proofs.rules.Refusals.{Told, told, cut_by, Passing, tells_definition, tells_forward}

abbrev pub Not20 : ℕ → Type 0
Not20 e = e ≡ 20 → ⊥

data Outs {M H : Type 0} : Out M H → Type 0 where
  goes : (s : M) → Outs (wrote s)
  stops : (h : H) (e : ℕ) → Not20 e → Outs (stuck h e)

data Lists {M : Type 0} : Res M → Type 0 where
  lists : (s : M) (b : Bool) → Lists (ok s b)
  refuses : (e : ℕ) → Not20 e → Lists (refused e)

-- ---- ordering

module _ {M H : Type 0} (X : Machine M H) (T : Table) where
  bind_lists : (r : Res M) (f : M → Bool → Res M) → Lists r → ((s : M) (b : Bool) → Lists (f s b)) → Lists (bind r f)
  unfolding bind
  bind_lists _ f (lists s b) h = h s b
  bind_lists _ f (refuses e n) h = refuses e n

  each_lists : (f : M → ℕ → Res M) → ((s : M) (y : ℕ) → Lists (f s y)) → (ys : List ℕ) (s : M) (b : Bool) → Lists (each f ys s b)
  unfolding each
  each_lists f h [] s b = lists s b
  each_lists f h (y ∷ ys) s b = bind_lists (f s y) _ (h s y) (λ s' b'. each_lists f h ys s' (b || b'))

  enter_lists : (b : Bool) (f : M → ℕ → Res M) → ((s : M) (y : ℕ) → Lists (f s y)) → (s : M) (x : ℕ) (nm : Bool) (ms : List ℕ) → Lists (enter X.store b f s x nm ms)
  unfolding enter
  enter_lists true f h s x nm ms = lists s false
  enter_lists false f h s x nm ms = bind_lists _ _ (each_lists f h ms (X.store.mark busy x s) false) (λ s' b. lists _ true)

  alias_lists : (b was : Bool) (s : M) (x : ℕ) → Lists (alias X.store b was s x)
  unfolding alias
  alias_lists true was s x = lists _ true
  alias_lists false was s x = lists s false

  meet_lists : (b : Bool) (s : M) → Lists (meet b s)
  unfolding meet
  meet_lists true s = lists s false
  meet_lists false s = refuses 13 (λ e. omega arith)

  module _ (rec : M → ℕ → Bool → Res M) (h : (s : M) (x : ℕ) (weak : Bool) → Lists (rec s x weak)) (s : M) (x : ℕ) (weak : Bool) where
    fresh_lists : (nd : Node) → Lists (fresh X.store T rec s x weak nd)
    unfolding fresh
    fresh_lists ignored = lists s false
    fresh_lists plain = lists _ false
    fresh_lists (listed f) = lists _ true
    fresh_lists (through a t) = h s t (not (a && T.strong_arrays) && weak)
    fresh_lists (ptr t) = bind_lists (rec s t true) _ (h s t true) (λ s' b. lists _ b)
    fresh_lists (tdef t) = bind_lists (rec s t weak) _ (h s t weak) (λ s' b. alias_lists (not weak || b) (is_done (X.store.get s' x)) s' x)
    fresh_lists (proto ts) = each_lists (λ s' y. rec s' y weak) (λ s' y. h s' y weak) ts s false
    fresh_lists (comp ms) = enter_lists (weak && T.named x) (λ s' y. rec s' y false) (λ s' y. h s' y false) s x (T.named x) ms

    visit_lists : (m : Mark) → Lists (visit X.store T rec s x weak m)
    unfolding visit
    visit_lists new = fresh_lists (T.node x)
    visit_lists busy = meet_lists (is_comp (T.node x) && (weak && T.named x)) s
    visit_lists done = lists s true

  order_lists : (n : ℕ) (s : M) (x : ℕ) (weak : Bool) → Lists (order X.store n T s x weak)
  unfolding order
  order_lists zero s x weak = refuses 12 (λ e. omega arith)
  order_lists (suc n) s x weak = visit_lists (λ s' y w. order X.store n T s' y w) (λ s' y w. order_lists n s' y w) s x weak (X.store.get s x)

-- ---- emission, where no line is refused by 20

record Unpassed {M H : Type 0} (X : Machine M H) : Type 0 where
  by_fwd : (s : M) (x : ℕ) → Outs (X.fwd_line s x)
  by_alias : (s : M) (x : ℕ) → Outs (X.alias_line s x)
  by_leaf : (s : M) (x : ℕ) → Outs (X.leaf_line s x)
  by_body : (s : M) (x : ℕ) → Outs (X.body s x)

module _ {M H : Type 0} (X : Machine M H) (T : Table) (k : Unpassed X) where
  obind_outs : (o : Out M H) (f : M → Out M H) → Outs o → ((s : M) → Outs (f s)) → Outs (obind o f)
  unfolding obind
  obind_outs _ f (goes s) h = h s
  obind_outs _ f (stops h₀ e n) h = stops h₀ e n

  eeach_outs : (f : M → ℕ → Out M H) → ((s : M) (y : ℕ) → Outs (f s y)) → (ys : List ℕ) (s : M) → Outs (eeach f ys s)
  unfolding eeach
  eeach_outs f h [] s = goes s
  eeach_outs f h (y ∷ ys) s = obind_outs (f s y) (eeach f ys) (h s y) (λ s'. eeach_outs f h ys s')

  once_outs : (w : M → ℕ → Out M H) → ((s : M) (x : ℕ) → Outs (w s x)) → (x : ℕ) (b : Bool) (s : M) → Outs (once X T w x b s)
  unfolding once
  once_outs w h x true s = goes s
  once_outs w h x false s = obind_outs (w s x) _ (h s x) (λ s'. goes _)

  mention_outs : (b nm : Bool) (x : ℕ) (s : M) → Outs (mention X T b nm x s)
  unfolding mention
  mention_outs true nm x s = goes s
  mention_outs false true x s = once_outs X.fwd_line k.by_fwd x false s
  mention_outs false false x s = stops _ 13 (λ e. omega arith)

  again_outs : (s : M) (x cont : ℕ) (nd : Node) → Outs (again X T s x cont nd)
  unfolding again
  again_outs s x cont ignored = goes s
  again_outs s x cont plain = goes s
  again_outs s x cont (listed f) = goes s
  again_outs s x cont (through a t) = goes s
  again_outs s x cont (ptr t) = goes s
  again_outs s x cont (tdef t) = once_outs X.alias_line k.by_alias x (X.has_fwd s x) s
  again_outs s x cont (proto ts) = goes s
  again_outs s x cont (comp ms) = mention_outs (X.has_fwd s x || eqb x cont) (T.named x) x s

  close_outs : (b : Bool) (x : ℕ) (s : M) → Outs (close X T b x s)
  unfolding close
  close_outs true x s = obind_outs (X.body s x) _ (k.by_body s x) (λ s'. goes _)
  close_outs false x s = goes _

  leaf_outs : (b : Bool) (x : ℕ) (s : M) → Outs (leaf X T b x s)
  unfolding leaf
  leaf_outs true x s = obind_outs (X.leaf_line s x) _ (k.by_leaf s x) (λ s'. goes _)
  leaf_outs false x s = goes _

  module _ (rec : M → ℕ → ℕ → Out M H) (h : (s : M) (x cont : ℕ) → Outs (rec s x cont)) (s : M) (x cont : ℕ) where
    within_outs : (b nm : Bool) (ms : List ℕ) → Outs (within X T rec s x cont b nm ms)
    unfolding within
    within_outs true nm ms = eeach_outs (λ s' y. rec s' y (pick nm x cont)) (λ s' y. h s' y (pick nm x cont)) ms (X.emark busy x s)
    within_outs false nm ms = once_outs X.fwd_line k.by_fwd x (X.has_fwd s x || eqb x cont) (X.emark busy x s)

    begin_outs : (top : Bool) (nd : Node) → Outs (begin X T rec s x cont top nd)
    unfolding begin
    begin_outs top ignored = goes s
    begin_outs top plain = goes s
    begin_outs top (listed f) = leaf_outs (f || top) x s
    begin_outs top (through a t) = h s t cont
    begin_outs top (ptr t) = h s t cont
    begin_outs top (tdef t) =
        obind_outs (rec (X.emark busy x s) t x) _ (h (X.emark busy x s) t x) (λ s'.
        obind_outs (once X T X.alias_line x (X.has_fwd s' x) s') _ (once_outs X.alias_line k.by_alias x (X.has_fwd s' x) s') (λ s''. goes _))
    begin_outs top (proto ts) = eeach_outs (λ s' y. rec s' y cont) (λ s' y. h s' y cont) ts s
    begin_outs top (comp ms) = obind_outs (within X T rec s x cont (top || not (T.named x)) (T.named x) ms) (close X T top x) (within_outs (top || not (T.named x)) (T.named x) ms) (λ s'. close_outs top x s')

    allowed_outs : (b : Bool) → Outs (allowed X T rec s x cont b)
    unfolding allowed
    allowed_outs true = stops _ 14 (λ e. omega arith)
    allowed_outs false = begin_outs (is_zero cont) (T.node x)

    look_outs : (m : Mark) → Outs (look X T rec s x cont m)
    unfolding look
    look_outs new = allowed_outs (is_zero cont && not (T.named x))
    look_outs busy = again_outs s x cont (T.node x)
    look_outs done = goes s

  emit_outs : (n : ℕ) (s : M) (x cont : ℕ) → Outs (emit X T n s x cont)
  unfolding emit
  emit_outs zero s x cont = stops _ 12 (λ e. omega arith)
  emit_outs (suc n) s x cont = look_outs (λ s' y c. emit X T n s' y c) (λ s' y c. emit_outs n s' y c) s x cont (X.eget s x)

  -- ---- requests
  emitted_not : (S : Sess M) (x : ℕ) (o : Out M H) → Outs o → Not20 (emitted X T S x o).number
  unfolding emitted shut
  emitted_not S x _ (goes s) = λ e. omega arith
  emitted_not S x _ (stops h c n) = n

  ordered_not : (S : Sess M) (x : ℕ) (r : Res M) → Lists r → Not20 (ordered X T S x r).number
  unfolding ordered shut
  ordered_not S x _ (lists s b) = emitted_not S x _ (eeach_outs (λ m y. emit X T 512 m y 0) (λ m y. emit_outs 512 m y 0) (X.store.list s) s)
  ordered_not S x _ (refuses c n) = n

  gate_not : (room : ℕ) (S : Sess M) (x : ℕ) (opened below : Bool) → Not20 (gate X T room S x opened below).number
  unfolding gate
  gate_not room S x false below = λ e. omega arith
  gate_not room S x true false = λ e. omega arith
  gate_not room S x true true = ordered_not S x _ (order_lists X T 512 (X.start room S.mach) x false)

  single_not : (room : ℕ) (S : Sess M) (x : ℕ) → Not20 (single X T room S x).number
  unfolding single
  single_not room S x = gate_not room S x S.is_open (ltb x T.count)

  onward_not : (f : Sess M → Answer M) → ((S : Sess M) → Not20 (f S).number) → (a : Answer M) → Not20 a.number → Not20 (onward X T f a).number
  unfolding onward
  onward_not f h a n = go a.number
    where
      go : (m : ℕ) → Not20 (elim m as (λ x. Answer M) [ zero ↦ f a.sess | suc c ↦ a ]).number
      go zero = h a.sess
      go (suc c) = n

  from_not : (room n x : ℕ) (S : Sess M) → Not20 (from X T room n x S).number
  unfolding from
  from_not room zero x S = λ e. omega arith
  from_not room (suc n) x S = onward_not (from X T room n (suc x)) (λ S'. from_not room n (suc x) S') (single X T room S x) (single_not room S x)

  every_not : (room : ℕ) (S : Sess M) (opened : Bool) → Not20 (every X T room S opened).number
  unfolding every
  every_not room S false = λ e. omega arith
  every_not room S true = from_not room (T.count - 1) 1 S

-- ---- the lines of the rules

code_not : (c : ℕ) → Code c → Not20 c
code_not c (inl q) e = omega arith
code_not c (inr (inl q)) e = omega arith
code_not c (inr (inr (inl q))) e = omega arith
code_not c (inr (inr (inr q))) e = omega arith

module _ {U : Type 0} (N : Naming U) (never : Passing N → ⊥) (B : Btf) where
  fitting_outs : (mk : List ℕ → Piece) (s : Ls (Known U)) (len : ℕ) (u : U) {t : Text} → Told Not20 t → Outs (put_line mk s (fitting len u t))
  unfolding fitting
  fitting_outs mk s len u (told a) = goes _
  fitting_outs mk s len u (cut_by a c n) = stops u c n

  room_outs : (mk : List ℕ → Piece) (s : Ls (Known U)) (len : ℕ) (u w : U) {t : Text} → Told Not20 t → (b : Bool) → Outs (put_line mk s (elim b [ true ↦ fitting len u t | false ↦ cannot w 17 ]))
  room_outs mk s len u w t true = fitting_outs mk s len u t
  room_outs mk s len u w t false = stops w 17 (λ e. omega arith)

  line_outs : (mk : List ℕ → Piece) (s : Ls (Known U)) (room len : ℕ) (x : Said U) → Told Not20 (said_text x) → Outs (put_line mk s (line_of room len x))
  unfolding line_of said_text
  line_outs mk s room len (said u x m) t = room_outs mk s len u _ t (leb (len + length (bytes x)) (smaller room 1073741824))

  forward_outs : (s : Ls (Known U)) (x : ℕ) → Outs ((machine_by N B).fwd_line s x)
  forward_outs s x = line_outs other s s.room s.known.text_len (forward N B x (B.type_by_id x) s.known.names) (tells_forward N Not20 code_not (λ p. absurd (never p)) B x (B.type_by_id x) s.known.names)

  definition_outs : (mk : List ℕ → Piece) (s : Ls (Known U)) (x : ℕ) → Outs (put_line mk s (line_of s.room s.known.text_len (definition N B x (B.type_by_id x) s.known.names)))
  definition_outs mk s x = line_outs mk s s.room s.known.text_len (definition N B x (B.type_by_id x) s.known.names) (tells_definition N Not20 code_not (λ p. absurd (never p)) B x (B.type_by_id x) s.known.names)

  lines : Unpassed (machine_by N B)
  lines = record { by_fwd = forward_outs; by_alias = forward_outs; by_leaf = definition_outs other; by_body = λ s x. definition_outs (defines x) s x }

  pub answers_not : (S : Sess (Ls (Known U))) (r : Req) → Not20 (answer_to N B S r).number
  unfolding answer_to
  answers_not S (one room x) = single_not (machine_by N B) (table_of B) lines room S x
  answers_not S (all room) = every_not (machine_by N B) (table_of B) lines room S S.is_open
