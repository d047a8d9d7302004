-- Emission does not look at the order list; and over a list with ids given again it does what it does over the list without them.
use Prim.Native.Nat.{ℕ, zero, suc, ◌<◌}
use native.Mathlib.Decide.{ℕ_discrete}
use mathlib.Core.Path.{◌≡◌, refl, sym, ◌∙◌, ap, subst}
use mathlib.Core.Bool.{Bool, true, false, not, ◌&&◌, ◌||◌, true≢false}
use mathlib.Core.List.Memᴰ
use mathlib.Core.List.{List, [], ◌∷◌, ◌++◌, Memᴰ}
use mathlib.Core.Logic.{◌⊎◌, inl, inr, ◌≢◌}
use lib.ListN.{length, get_or, set, length-set}
use lib.Seq.{get_or-set_same, get_or-set_other}
use lib.Dec.{eqb}
use Rattle.spec_c_dumper.specs.rules.Order.{Node, ignored, plain, listed, through, ptr, tdef, proto, comp, Table, Mark, new, busy, done}
use Rattle.spec_c_dumper.specs.rules.Machine.{Out, wrote, stuck, Machine, is_zero, pick, obind, eeach, once, mention, again, close, leaf, within, begin, allowed, look, emit}
use Rattle.spec_c_dumper.specs.needs.Lists.{Piece, defines, other, Line, says, cannot, Lines, Ls, put_line, list_machine}
use Rattle.spec_c_dumper.proofs.needs.Placed.{is_def}
use Rattle.spec_c_dumper.proofs.listed_twice.Ordering.{bare, Dup, dnil, dboth, dmore, set_is, new_busy, new_done, done_busy}

module _ {U : Type 0} where
  -- two outcomes: equal but for the order list, with Q of the second; or the same refusal
  pub data Alike {H : Type 0} (Q : Ls U → Type 0) : Out (Ls U) H → Out (Ls U) H → Type 0 where
    both_wrote : {s t : Ls U} → bare s ≡ bare t → Q t → Alike Q (wrote s) (wrote t)
    both_stuck : {h h' : H} {e : ℕ} → h ≡ h' → Alike Q (stuck h e) (stuck h' e)

  alike_bind : {H : Type 0} {Q Q' : Ls U → Type 0} {p q : Out (Ls U) H} {k l : Ls U → Out (Ls U) H} → Alike Q p q → ((s t : Ls U) → bare s ≡ bare t → Q t → Alike Q' (k s) (l t)) → Alike Q' (obind p k) (obind q l)
  unfolding obind
  alike_bind (both_wrote h m) f = f _ _ h m
  alike_bind (both_stuck m) f = both_stuck m

  alike_map : {H : Type 0} {Q Q' : Ls U → Type 0} {p q : Out (Ls U) H} → ((t : Ls U) → Q t → Q' t) → Alike Q p q → Alike Q' p q
  alike_map f (both_wrote h m) = both_wrote h (f _ m)
  alike_map f (both_stuck m) = both_stuck m

  abbrev eget : Ls U → ℕ → Mark
  eget s x = get_or s.emits x new

  abbrev emark : Mark → ℕ → Ls U → Ls U
  emark m x s = record { marks = s.marks; olist = s.olist; emits = set s.emits x m; fwds = s.fwds; room = s.room; known = s.known; pieces = s.pieces }

  -- what is emitted stays so, and nothing is left in progress
  pub record Stay (s s' : Ls U) : Type 0 where
    pub len : length s'.emits ≡ length s.emits
    pub kept : (y : ℕ) → eget s y ≡ done → eget s' y ≡ done
    pub calm : (y : ℕ) → eget s' y ≡ busy → eget s y ≡ busy
    pub ordering_same : s'.marks ≡ s.marks

  pub stay_refl : (s : Ls U) → Stay s s
  stay_refl s = record { len = refl; kept = λ y e. e; calm = λ y e. e; ordering_same = refl }

  stay_trans : {a b c : Ls U} → Stay a b → Stay b c → Stay a c
  stay_trans p q = record { len = q.len ∙ p.len; kept = λ y e. q.kept y (p.kept y e); calm = λ y e. p.calm y (q.calm y e); ordering_same = q.ordering_same ∙ p.ordering_same }

  -- x, new, is marked at the end, not busy
  stay_end : (m : Mark) (x : ℕ) (s s' : Ls U) → (m ≡ busy → ⊥) → eget s x ≡ new → Stay s s' → Stay s (emark m x s')
  stay_end m x s s' nb e h = record {
    len = length-set s'.emits x m ∙ h.len;
    kept = λ y g. get_or-set_other s'.emits x y m new (off y g) ∙ h.kept y g;
    calm = λ y g. still y g (ℕ_discrete y x);
    ordering_same = h.ordering_same;
  }
    where
      off : (y : ℕ) → eget s y ≡ done → y ≢ x
      off y g q = new_done (sym e ∙ ap (eget s) (sym q) ∙ g)

      still : (y : ℕ) → eget (emark m x s') y ≡ busy → Dec (y ≡ x) → eget s y ≡ busy
      still y g (yes q) = absurd (nb (set_is s'.emits x m busy new_busy (ap (eget (emark m x s')) (sym q) ∙ g)))
      still y g (no q) = h.calm y (sym (get_or-set_other s'.emits x y m new q) ∙ g)

  -- x, new, is made busy, and marked at the end
  stay_around : (m : Mark) (x : ℕ) (s s' : Ls U) → (m ≡ busy → ⊥) → eget s x ≡ new → Stay (emark busy x s) s' → Stay s (emark m x s')
  stay_around m x s s' nb e h = record {
    len = length-set s'.emits x m ∙ h.len ∙ length-set s.emits x busy;
    kept = λ y g. get_or-set_other s'.emits x y m new (off y g) ∙ h.kept y (get_or-set_other s.emits x y busy new (off y g) ∙ g);
    calm = λ y g. still y g (ℕ_discrete y x);
    ordering_same = h.ordering_same;
  }
    where
      off : (y : ℕ) → eget s y ≡ done → y ≢ x
      off y g q = new_done (sym e ∙ ap (eget s) (sym q) ∙ g)

      still : (y : ℕ) → eget (emark m x s') y ≡ busy → Dec (y ≡ x) → eget s y ≡ busy
      still y g (yes q) = absurd (nb (set_is s'.emits x m busy new_busy (ap (eget (emark m x s')) (sym q) ∙ g)))
      still y g (no q) = sym (get_or-set_other s.emits x y busy new q) ∙ h.calm y (sym (get_or-set_other s'.emits x y m new q) ∙ g)

  -- x is done at the end, if there is such an id
  ended : (x : ℕ) (s s' : Ls U) → length s'.emits ≡ length s.emits → x < length s.emits → eget (emark done x s') x ≡ done
  ended x s s' b l = get_or-set_same s'.emits x done new (subst (λ (k : ℕ). x < k) (sym b) l)

  -- after a call at the top, x is emitted too
  abbrev TopDone : ℕ → Ls U → Ls U → Type 0
  TopDone x s s' = Stay s s' × (x < length s.emits → eget s' x ≡ done)

  mark_alike : (m : Mark) (x : ℕ) (s t : Ls U) → bare s ≡ bare t → bare (emark m x s) ≡ bare (emark m x t)
  mark_alike m x s t h = ap {B = Ls U} (λ (k : Ls U). record { marks = k.marks; olist = []; emits = set k.emits x m; fwds = k.fwds; room = k.room; known = k.known; pieces = k.pieces }) h

  -- a line
  put_alike : {H : Type 0} (mk : List ℕ → Piece) (s t : Ls U) → bare s ≡ bare t → (l : Line U H) → Alike (Stay t) (put_line mk s l) (put_line mk t l)
  put_alike mk s t h (says u w) = both_wrote (ap {B = Ls U} (λ (k : Ls U). record { marks = k.marks; olist = []; emits = k.emits; fwds = k.fwds; room = k.room; known = u; pieces = k.pieces ++ (mk w ∷ []) }) h) (record { len = refl; kept = λ y e. e; calm = λ y e. e; ordering_same = refl })
  put_alike mk s t h (cannot m e) = both_stuck refl

  line_alike : {H : Type 0} (mk : List ℕ → Piece) (f : ℕ → U → Line U H) (s t : Ls U) → bare s ≡ bare t → Alike (Stay t) (put_line mk s (f s.room s.known)) (put_line mk t (f t.room t.known))
  line_alike mk f s t h = subst (λ (k : Ls U). Alike (Stay t) (put_line mk s (f k.room k.known)) (put_line mk t (f t.room t.known))) (sym h) (put_alike mk s t h (f t.room t.known))

  has_same : (s t : Ls U) → bare s ≡ bare t → (x : ℕ) → get_or s.fwds x false ≡ get_or t.fwds x false
  has_same s t h x = ap (λ (k : Ls U). get_or k.fwds x false) h

module _ {U H : Type 0} (L : Lines U H) (T : Table) where
  abbrev X : Machine (Ls U) H
  X = list_machine L

  held_same : (s t : Ls U) → bare s ≡ bare t → X.held s ≡ X.held t
  held_same s t h = ap (λ (k : Ls U). X.held k) h

  once_alike : (w : Ls U → ℕ → Out (Ls U) H) (x : ℕ) → ((s t : Ls U) → bare s ≡ bare t → Alike (Stay t) (w s x) (w t x)) → (s t : Ls U) → bare s ≡ bare t → (b : Bool) → Alike (Stay t) (once X T w x b s) (once X T w x b t)
  unfolding once
  once_alike w x f s t h true = both_wrote h (stay_refl t)
  once_alike w x f s t h false = alike_bind (f s t h) (λ s' t' h' m. both_wrote
      (ap {B = Ls U} (λ (k : Ls U). record { marks = k.marks; olist = []; emits = k.emits; fwds = set k.fwds x true; room = k.room; known = k.known; pieces = k.pieces }) h')
      (record { len = m.len; kept = m.kept; calm = m.calm; ordering_same = m.ordering_same }))

  fwd_alike : (x : ℕ) (s t : Ls U) → bare s ≡ bare t → (b c : Bool) → b ≡ c → Alike (Stay t) (once X T X.fwd_line x b s) (once X T X.fwd_line x c t)
  fwd_alike x s t h b c e = subst (λ (k : Bool). Alike (Stay t) (once X T X.fwd_line x k s) (once X T X.fwd_line x c t)) (sym e)
      (once_alike X.fwd_line x (λ s' t' h'. line_alike other (λ r u. L.fwd r u x) s' t' h') s t h c)

  alias_alike : (x : ℕ) (s t : Ls U) → bare s ≡ bare t → Alike (Stay t) (once X T X.alias_line x (X.has_fwd s x) s) (once X T X.alias_line x (X.has_fwd t x) t)
  alias_alike x s t h = subst (λ (k : Bool). Alike (Stay t) (once X T X.alias_line x k s) (once X T X.alias_line x (X.has_fwd t x) t)) (sym (has_same s t h x))
      (once_alike X.alias_line x (λ s' t' h'. line_alike other (λ r u. L.alias' r u x) s' t' h') s t h (X.has_fwd t x))

  module _ (rec : Ls U → ℕ → ℕ → Out (Ls U) H) (goes : (s t : Ls U) (x cont : ℕ) → bare s ≡ bare t → Alike (Stay t) (rec s x cont) (rec t x cont)) where
    eeach_alike : (cont : ℕ) (ys : List ℕ) (s t : Ls U) → bare s ≡ bare t → Alike (Stay t) (eeach (λ s' y. rec s' y cont) ys s) (eeach (λ s' y. rec s' y cont) ys t)
    unfolding eeach
    eeach_alike cont [] s t h = both_wrote h (stay_refl t)
    eeach_alike cont (y ∷ ys) s t h = alike_bind (goes s t y cont h) (λ s' t' h' m. alike_map (λ t'' q. stay_trans m q) (eeach_alike cont ys s' t' h'))

    module _ (s t : Ls U) (h : bare s ≡ bare t) (x cont : ℕ) where
      mention_alike : (b c nm : Bool) → b ≡ c → Alike (Stay t) (mention X T b nm x s) (mention X T c nm x t)
      unfolding mention
      mention_alike b c nm e = subst (λ (k : Bool). Alike (Stay t) (mention X T k nm x s) (mention X T c nm x t)) (sym e) (go c nm)
        where
          go : (c nm : Bool) → Alike (Stay t) (mention X T c nm x s) (mention X T c nm x t)
          go true nm = both_wrote h (stay_refl t)
          go false true = fwd_alike x s t h false false refl
          go false false = both_stuck (held_same s t h)

      again_alike : (nd : Node) → Alike (Stay t) (again X T s x cont nd) (again X T t x cont nd)
      unfolding again
      again_alike ignored = both_wrote h (stay_refl t)
      again_alike plain = both_wrote h (stay_refl t)
      again_alike (listed f) = both_wrote h (stay_refl t)
      again_alike (through a y) = both_wrote h (stay_refl t)
      again_alike (ptr y) = both_wrote h (stay_refl t)
      again_alike (tdef y) = alias_alike x s t h
      again_alike (proto ts) = both_wrote h (stay_refl t)
      again_alike (comp ms) = mention_alike (X.has_fwd s x || eqb x cont) (X.has_fwd t x || eqb x cont) (T.named x) (ap (λ (b : Bool). b || eqb x cont) (has_same s t h x))

      leaf_alike : (b : Bool) → eget t x ≡ new → Alike (TopDone x t) (leaf X T b x s) (leaf X T b x t)
      unfolding leaf
      leaf_alike true n = alike_bind (line_alike other (λ r u. L.leaf' r u x) s t h) (λ s' t' h' m. both_wrote (mark_alike done x s' t' h') (stay_end done x t t' done_busy n m, ended x t t' m.len))
      leaf_alike false n = both_wrote (mark_alike done x s t h) (stay_end done x t t done_busy n (stay_refl t), ended x t t refl)

      within_alike : (b nm : Bool) (ms : List ℕ) → Alike (Stay (emark busy x t)) (within X T rec s x cont b nm ms) (within X T rec t x cont b nm ms)
      unfolding within
      within_alike true nm ms = eeach_alike (pick nm x cont) ms (emark busy x s) (emark busy x t) (mark_alike busy x s t h)
      within_alike false nm ms = fwd_alike x (emark busy x s) (emark busy x t) (mark_alike busy x s t h) (X.has_fwd s x || eqb x cont) (X.has_fwd t x || eqb x cont) (ap (λ (b : Bool). b || eqb x cont) (has_same s t h x))

      tdef_alike : (top : Bool) (y : ℕ) → eget t x ≡ new → Alike (TopDone x t) (begin X T rec s x cont top (tdef y)) (begin X T rec t x cont top (tdef y))
      unfolding begin
      tdef_alike top y n = alike_bind (goes (emark busy x s) (emark busy x t) y x (mark_alike busy x s t h)) (λ s' t' h' m.
          alike_bind (alias_alike x s' t' h') (λ s'' t'' h'' q.
          both_wrote (mark_alike done x s'' t'' h'') (stay_around done x t t'' done_busy n (stay_trans m q), ended x t t'' (q.len ∙ m.len ∙ length-set t.emits x busy))))

      close_done : (s' t' : Ls U) → bare s' ≡ bare t' → eget t x ≡ new → Stay (emark busy x t) t' → Alike (TopDone x t) (close X T true x s') (close X T true x t')
      unfolding close
      close_done s' t' h' n m = alike_bind (line_alike (defines x) (λ r u. L.body' r u x) s' t' h') (λ s'' t'' h'' q.
          both_wrote (mark_alike done x s'' t'' h'') (stay_around done x t t'' done_busy n (stay_trans m q), ended x t t'' (q.len ∙ m.len ∙ length-set t.emits x busy)))

      close_alike : (top : Bool) (s' t' : Ls U) → bare s' ≡ bare t' → eget t x ≡ new → Stay (emark busy x t) t' → Alike (Stay t) (close X T top x s') (close X T top x t')
      unfolding close
      close_alike true s' t' h' n m = alike_map (λ t'' q. q.0) (close_done s' t' h' n m)
      close_alike false s' t' h' n m = both_wrote (mark_alike new x s' t' h') (stay_around new x t t' new_busy n m)

      begin_alike : (top : Bool) (nd : Node) → eget t x ≡ new → Alike (Stay t) (begin X T rec s x cont top nd) (begin X T rec t x cont top nd)
      unfolding begin
      begin_alike top ignored n = both_wrote h (stay_refl t)
      begin_alike top plain n = both_wrote h (stay_refl t)
      begin_alike top (listed f) n = alike_map (λ t'' q. q.0) (leaf_alike (f || top) n)
      begin_alike top (through a y) n = goes s t y cont h
      begin_alike top (ptr y) n = goes s t y cont h
      begin_alike top (tdef y) n = alike_map (λ t'' q. q.0) (tdef_alike top y n)
      begin_alike top (proto ts) n = eeach_alike cont ts s t h
      begin_alike top (comp ms) n = alike_bind (within_alike (top || not (T.named x)) (T.named x) ms) (λ s' t' h' m. close_alike top s' t' h' n m)

      begin_done : (nd : Node) → is_def nd ≡ true → eget t x ≡ new → Alike (TopDone x t) (begin X T rec s x cont true nd) (begin X T rec t x cont true nd)
      unfolding begin
      begin_done ignored d n = absurd (true≢false (sym d))
      begin_done plain d n = absurd (true≢false (sym d))
      begin_done (listed f) d n = leaf_alike (f || true) n
      begin_done (through a y) d n = absurd (true≢false (sym d))
      begin_done (ptr y) d n = absurd (true≢false (sym d))
      begin_done (tdef y) d n = tdef_alike true y n
      begin_done (proto ts) d n = absurd (true≢false (sym d))
      begin_done (comp ms) d n = alike_bind (within_alike true (T.named x) ms) (λ s' t' h' m. close_done s' t' h' n m)

      allowed_alike : (b : Bool) → eget t x ≡ new → Alike (Stay t) (allowed X T rec s x cont b) (allowed X T rec t x cont b)
      unfolding allowed
      allowed_alike true n = both_stuck (held_same s t h)
      allowed_alike false n = begin_alike (is_zero cont) (T.node x) n

      look_alike : (m : Mark) → eget t x ≡ m → Alike (Stay t) (look X T rec s x cont m) (look X T rec t x cont m)
      unfolding look
      look_alike new e = allowed_alike (is_zero cont && not (T.named x)) e
      look_alike busy e = again_alike (T.node x)
      look_alike done e = both_wrote h (stay_refl t)

    module _ (s t : Ls U) (h : bare s ≡ bare t) (x : ℕ) (d : is_def (T.node x) ≡ true) where
      allowed_done : (b : Bool) → eget t x ≡ new → Alike (TopDone x t) (allowed X T rec s x 0 b) (allowed X T rec t x 0 b)
      unfolding allowed
      allowed_done true n = both_stuck (held_same s t h)
      allowed_done false n = begin_done s t h x 0 (T.node x) d n

      look_done : (m : Mark) → eget t x ≡ m → (eget t x ≡ busy → ⊥) → Alike (TopDone x t) (look X T rec s x 0 m) (look X T rec t x 0 m)
      unfolding look
      look_done new e nb = allowed_done (is_zero 0 && not (T.named x)) e
      look_done busy e nb = absurd (nb e)
      look_done done e nb = both_wrote h (stay_refl t, λ l. e)

  at_mark : (s t : Ls U) → bare s ≡ bare t → (x : ℕ) → eget t x ≡ eget s x
  at_mark s t h x = ap (λ (k : Ls U). get_or k.emits x new) (sym h)

  emit_alike : (n : ℕ) (s t : Ls U) (x cont : ℕ) → bare s ≡ bare t → Alike (Stay t) (emit X T n s x cont) (emit X T n t x cont)
  unfolding emit
  emit_alike zero s t x cont h = both_stuck (held_same s t h)
  emit_alike (suc n) s t x cont h =
      subst (λ (m : Mark). Alike (Stay t) (look X T (λ s' y c. emit X T n s' y c) s x cont m) (look X T (λ s' y c. emit X T n s' y c) t x cont (eget t x))) (at_mark s t h x)
      (look_alike (λ s' y c. emit X T n s' y c) (λ s' t' y c h'. emit_alike n s' t' y c h') s t h x cont (eget t x) refl)

  emit_done : (n : ℕ) (s t : Ls U) (x : ℕ) → bare s ≡ bare t → is_def (T.node x) ≡ true → (eget t x ≡ busy → ⊥) → Alike (TopDone x t) (emit X T n s x 0) (emit X T n t x 0)
  unfolding emit
  emit_done zero s t x h d nb = both_stuck (held_same s t h)
  emit_done (suc n) s t x h d nb =
      subst (λ (m : Mark). Alike (TopDone x t) (look X T (λ s' y c. emit X T n s' y c) s x 0 m) (look X T (λ s' y c. emit X T n s' y c) t x 0 (eget t x))) (at_mark s t h x)
      (look_done (λ s' y c. emit X T n s' y c) (λ s' t' y c h'. emit_alike n s' t' y c h') s t h x d (eget t x) refl nb)

  -- an id that is emitted: nothing
  emit_no : (n : ℕ) (s : Ls U) (x : ℕ) → eget s x ≡ done → emit X T (suc n) s x 0 ≡ wrote s
  unfolding emit look
  emit_no n s x e = rw (e, look) refl

  -- the list

  eeach_snoc : (f : Ls U → ℕ → Out (Ls U) H) (a : List ℕ) (x : ℕ) (s : Ls U) → eeach f (a ++ (x ∷ [])) s ≡ obind (eeach f a s) (λ s'. f s' x)
  unfolding eeach obind
  eeach_snoc f [] x s = go (f s x)
    where
      go : (r : Out (Ls U) H) → obind r (eeach f []) ≡ r
      go (wrote s') = refl
      go (stuck h e) = refl
  eeach_snoc f (y ∷ a) x s = go (λ s'. eeach_snoc f a x s') (f s y)
    where
      go : ((s' : Ls U) → eeach f (a ++ (x ∷ [])) s' ≡ obind (eeach f a s') (λ s''. f s'' x)) → (r : Out (Ls U) H) → obind r (eeach f (a ++ (x ∷ []))) ≡ obind (obind r (eeach f a)) (λ s''. f s'' x)
      go h (wrote s') = h s'
      go h (stuck m e) = refl

  -- the ids of b are emitted
  abbrev pub Fin : List ℕ → Ls U → Ls U → Type 0
  Fin b t t' = Stay t t' × ((x : ℕ) → Memᴰ x b → x < length t.emits → eget t' x ≡ done)

  abbrev top : Ls U → ℕ → Out (Ls U) H
  top s y = emit X T 512 s y 0

  skip : (b : List ℕ) (t : Ls U) (x : ℕ) → Memᴰ x b → x < length t.emits → (p q : Out (Ls U) H) → Alike (Fin b t) p q → Alike (Fin b t) (obind p (λ s'. top s' x)) q
  unfolding obind
  skip b t x m l _ _ (both_wrote {s = s'} {t = t'} h q) = subst (λ (k : Out (Ls U) H). Alike (Fin b t) k (wrote t')) (sym (emit_no 511 s' x (sym (at_mark s' t' h x) ∙ q.1 x m l))) (both_wrote h q)
  skip b t x m l _ _ (both_stuck e) = both_stuck e

  pub dup_emit : (n : ℕ) {a b : List ℕ} → Dup n a b → (s t : Ls U) → bare s ≡ bare t → length t.emits ≡ n → ((y : ℕ) → eget t y ≡ busy → ⊥) → ((x : ℕ) → Memᴰ x b → is_def (T.node x) ≡ true) → Alike (Fin b t) (eeach top a s) (eeach top b t)
  unfolding eeach
  dup_emit n dnil s t h z nb f = both_wrote h (stay_refl t, λ x m. absurd (Memᴰ.not-nil m))
  dup_emit n (dboth {a = a} {b = b} x i) s t h z nb f =
      subst (λ (k : Out (Ls U) H). Alike (Fin (b ++ (x ∷ [])) t) k (eeach top (b ++ (x ∷ [])) t)) (sym (eeach_snoc top a x s))
      (subst (λ (k : Out (Ls U) H). Alike (Fin (b ++ (x ∷ [])) t) (obind (eeach top a s) (λ s'. top s' x)) k) (sym (eeach_snoc top b x t))
      (alike_bind (dup_emit n i s t h z nb (λ y m. f y (Memᴰ.append_left (x ∷ []) m))) after))
    where
      here_too : (t' t'' : Ls U) → Fin b t t' → TopDone x t' t'' → (y : ℕ) → y < length t.emits → Memᴰ y b ⊎ Memᴰ y (x ∷ []) → eget t'' y ≡ done
      here_too t' t'' q r y l (inl m) = r.0.kept y (q.1 y m l)
      here_too t' t'' q r y l (inr m) = ap (eget t'') e ∙ r.1 (subst (λ (k : ℕ). x < k) (sym q.0.len) (subst (λ (k : ℕ). k < length t.emits) e l))
        where
          e : y ≡ x
          e = Memᴰ.eq_of_singleton m

      after : (s' t' : Ls U) → bare s' ≡ bare t' → Fin b t t' → Alike (Fin (b ++ (x ∷ [])) t) (top s' x) (top t' x)
      after s' t' h' q = alike_map (λ t'' r. (stay_trans q.0 r.0, λ y m l. here_too t' t'' q r y l (Memᴰ.append_cases b m)))
          (emit_done 512 s' t' x h' (f x (Memᴰ.append_right b (Memᴰ.head refl))) (λ e. nb x (q.0.calm x e)))
  dup_emit n (dmore {a = a} {b = b} x i m l) s t h z nb f =
      subst (λ (k : Out (Ls U) H). Alike (Fin b t) k (eeach top b t)) (sym (eeach_snoc top a x s))
      (skip b t x m (subst (λ (k : ℕ). x < k) (sym z) l) (eeach top a s) (eeach top b t) (dup_emit n i s t h z nb f))
