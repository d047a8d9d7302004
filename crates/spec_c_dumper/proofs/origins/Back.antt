-- A call of emission leaves nothing in progress that was not in progress before it. Assumes nothing.
use Prim.Native.Nat.{ℕ, zero, suc, ◌<◌, ◌≤◌}
use mathlib.Core.Path.{◌≡◌, refl, ap, ◌∙◌, sym, subst}
use mathlib.Core.Bool.{Bool, true, false, not, ◌&&◌, ◌||◌}
use mathlib.Core.List.{List, [], ◌∷◌, ◌++◌}
use mathlib.Core.Logic.{◌⊎◌, inl, inr, ⊎_elim, ◌≢◌}
use native.Mathlib.Decide.{ℕ_discrete}
use lib.ListN.{length, length-set, get_or, set, get_or-eq_default}
use lib.Seq.{get_or-set_same, get_or-set_other}
use lib.Dec.{eqb}
use Rattle.std.proofs.lemmas.Bool.{cases_lt}
use Rattle.spec_c_dumper.specs.rules.Order.{Node, ignored, plain, listed, through, ptr, tdef, proto, comp, Table, Mark, new, busy, done}
use Rattle.spec_c_dumper.specs.rules.Machine.{Out, wrote, stuck, Machine, is_zero, pick, obind, eeach, once, mention, again, close, leaf, within, begin, allowed, look}
use Rattle.spec_c_dumper.specs.needs.Lists.{Piece, defines, other, Line, says, cannot, Lines, Ls, put_line, list_machine}
use Rattle.spec_c_dumper.specs.origins.Causes.{Entry, entry, Traced, with_entries, line, cause_at, noting, emit_traced}
use Rattle.spec_c_dumper.proofs.origins.Keeps.{Comes, comes, halts, comes_bind, comes_map}
use Rattle.spec_c_dumper.proofs.listed_twice.Ordering.{new_busy, done_busy}

-- what is asked of a machine's marks
pub record Turns {M H : Type 0} (X : Machine M H) : Type 0 where
  pub t_busy : (x y : ℕ) (m : M) → X.eget (X.emark busy x m) y ≡ busy → (y ≡ x) ⊎ (X.eget m y ≡ busy)
  pub t_done : (x y : ℕ) (m : M) → X.eget (X.emark done x m) y ≡ busy → (y ≢ x) × (X.eget m y ≡ busy)
  pub t_new : (x y : ℕ) (m : M) → X.eget (X.emark new x m) y ≡ busy → (y ≢ x) × (X.eget m y ≡ busy)
  pub t_flag : (x y : ℕ) (m : M) → X.eget (X.forwarded x m) y ≡ X.eget m y
  pub t_fwd : (m : M) (x : ℕ) → Comes (λ m'. (y : ℕ) → X.eget m' y ≡ X.eget m y) (X.fwd_line m x)
  pub t_alias : (m : M) (x : ℕ) → Comes (λ m'. (y : ℕ) → X.eget m' y ≡ X.eget m y) (X.alias_line m x)
  pub t_leaf : (m : M) (x : ℕ) → Comes (λ m'. (y : ℕ) → X.eget m' y ≡ X.eget m y) (X.leaf_line m x)
  pub t_body : (m : M) (x : ℕ) → Comes (λ m'. (y : ℕ) → X.eget m' y ≡ X.eget m y) (X.body m x)

module _ {M H : Type 0} (X : Machine M H) (room : ℕ → Bool) (shows : ℕ → Bool) (why : ℕ → Entry) (T : Table) (t : Turns X) where
  -- what is in progress after, was before
  abbrev pub Back : Traced M → Traced M → Type 0
  Back s s' = (y : ℕ) → X.eget s'.mach y ≡ busy → X.eget s.mach y ≡ busy

  abbrev N : ℕ → Machine (Traced M) H
  N cont = noting X room shows why cont

  abbrev marked : ℕ → Mark → Traced M → Traced M
  marked x m s = record { mach = X.emark m x s.mach; entries = s.entries }

  back_then : (a b c : Traced M) → Back a b → Back b c → Back a c
  back_then a b c g h y e = g y (h y e)

  with_back : (es : List Entry) (s : Traced M) (o : Out M H) → Comes (λ m'. (y : ℕ) → X.eget m' y ≡ X.eget s.mach y) o → Comes (Back s) (with_entries es o)
  unfolding with_entries
  with_back es s _ (comes h) = comes (λ y e. sym (h y) ∙ e)
  with_back es s _ halts = halts

  line_back : (shown : Bool) (e : Entry) (step : M → Out M H) → ((m : M) → Comes (λ m'. (y : ℕ) → X.eget m' y ≡ X.eget m y) (step m)) → (s : Traced M) → Comes (Back s) (line X.held room shown e step s)
  unfolding line
  line_back false e step h s = with_back s.entries s (step s.mach) (h s.mach)
  line_back true e step h s = by (room (length s.entries))
    where
      by : (b : Bool) → Comes (Back s) (elim b [ true ↦ with_entries (s.entries ++ (e ∷ [])) (step s.mach) | false ↦ stuck (X.held s.mach) 17 ])
      by true = with_back (s.entries ++ (e ∷ [])) s (step s.mach) (h s.mach)
      by false = halts

  each_back : (f : Traced M → ℕ → Out (Traced M) H) → ((s : Traced M) (y : ℕ) → Comes (Back s) (f s y)) → (ys : List ℕ) (s : Traced M) → Comes (Back s) (eeach f ys s)
  unfolding eeach
  each_back f h [] s = comes (λ y e. e)
  each_back f h (y ∷ ys) s = comes_bind (eeach f ys) (h s y) (λ s' q. comes_map (λ s'' q'. back_then s s' s'' q q') (each_back f h ys s'))

  -- x is made busy, what follows leaves nothing else in progress, and x is not in progress any more
  done_around : (x : ℕ) (s s' : Traced M) → Back (marked x busy s) s' → Back s (marked x done s')
  done_around x s s' q y e = let r = t.t_done x y s'.mach e in ⊎_elim (λ z. absurd (r.0 z)) (λ z. z) (t.t_busy x y s.mach (q y r.1))

  new_around : (x : ℕ) (s s' : Traced M) → Back (marked x busy s) s' → Back s (marked x new s')
  new_around x s s' q y e = let r = t.t_new x y s'.mach e in ⊎_elim (λ z. absurd (r.0 z)) (λ z. z) (t.t_busy x y s.mach (q y r.1))

  done_after : (x : ℕ) (s s' : Traced M) → Back s s' → Back s (marked x done s')
  done_after x s s' q y e = q y (t.t_done x y s'.mach e).1

  module _ (x cont : ℕ) where
    once_back : (w : Traced M → ℕ → Out (Traced M) H) → ((s : Traced M) → Comes (Back s) (w s x)) → (b : Bool) (s : Traced M) → Comes (Back s) (once (N cont) T w x b s)
    unfolding once
    once_back w h true s = comes (λ y e. e)
    once_back w h false s = comes_bind (λ s'. wrote (record { mach = X.forwarded x s'.mach; entries = s'.entries })) (h s) (λ s' q. comes (λ y e. q y (sym (t.t_flag x y s'.mach) ∙ e)))

    fwd_back : (b : Bool) (s : Traced M) → Comes (Back s) (once (N cont) T (N cont).fwd_line x b s)
    fwd_back b s = once_back (N cont).fwd_line (λ s'. line_back (shows x) (entry x 2 cont) (λ m. X.fwd_line m x) (λ m. t.t_fwd m x) s') b s

    alias_back : (b : Bool) (s : Traced M) → Comes (Back s) (once (N cont) T (N cont).alias_line x b s)
    alias_back b s = once_back (N cont).alias_line (λ s'. line_back (shows x) (cause_at 3 (why x) x cont) (λ m. X.alias_line m x) (λ m. t.t_alias m x) s') b s

    mention_back : (b nm : Bool) (s : Traced M) → Comes (Back s) (mention (N cont) T b nm x s)
    unfolding mention
    mention_back true nm s = comes (λ y e. e)
    mention_back false true s = fwd_back false s
    mention_back false false s = halts

    again_back : (s : Traced M) (nd : Node) → Comes (Back s) (again (N cont) T s x cont nd)
    unfolding again
    again_back s ignored = comes (λ y e. e)
    again_back s plain = comes (λ y e. e)
    again_back s (listed f) = comes (λ y e. e)
    again_back s (through a t') = comes (λ y e. e)
    again_back s (ptr t') = comes (λ y e. e)
    again_back s (tdef t') = alias_back (X.has_fwd s.mach x) s
    again_back s (proto ts) = comes (λ y e. e)
    again_back s (comp ms) = mention_back (X.has_fwd s.mach x || eqb x cont) (T.named x) s

    leaf_back : (b : Bool) (s : Traced M) → Comes (Back s) (leaf (N cont) T b x s)
    unfolding leaf
    leaf_back true s = comes_bind (λ s'. wrote (marked x done s')) (line_back true (cause_at 2 (why x) x cont) (λ m. X.leaf_line m x) (λ m. t.t_leaf m x) s) (λ s' q. comes (done_after x s s' q))
    leaf_back false s = comes (done_after x s s (λ y e. e))

    close_back : (top : Bool) (s s' : Traced M) → Back (marked x busy s) s' → Comes (Back s) (close (N cont) T top x s')
    unfolding close
    close_back true s s' q =
        comes_bind (λ s''. wrote (marked x done s'')) (line_back true (why x) (λ m. X.body m x) (λ m. t.t_body m x) s') (λ s'' q'. comes (done_around x s s'' (back_then (marked x busy s) s' s'' q q')))
    close_back false s s' q = comes (new_around x s s' q)

    module _ (rec : Traced M → ℕ → ℕ → Out (Traced M) H) (h : (s : Traced M) (y d : ℕ) → Comes (Back s) (rec s y d)) (s : Traced M) where
      within_back : (b nm : Bool) (ms : List ℕ) → Comes (Back (marked x busy s)) (within (N cont) T rec s x cont b nm ms)
      unfolding within
      within_back true nm ms = each_back (λ s' y. rec s' y (pick nm x cont)) (λ s' y. h s' y (pick nm x cont)) ms (marked x busy s)
      within_back false nm ms = fwd_back (X.has_fwd s.mach x || eqb x cont) (marked x busy s)

      begin_back : (top : Bool) (nd : Node) → Comes (Back s) (begin (N cont) T rec s x cont top nd)
      unfolding begin
      begin_back top ignored = comes (λ y e. e)
      begin_back top plain = comes (λ y e. e)
      begin_back top (listed f) = leaf_back (f || top) s
      begin_back top (through a y) = h s y cont
      begin_back top (ptr y) = h s y cont
      begin_back top (tdef y) =
          comes_bind (λ s'. obind (once (N cont) T (N cont).alias_line x (X.has_fwd s'.mach x) s') (λ s''. wrote (marked x done s''))) (h (marked x busy s) y x) (λ s' q.
          comes_bind (λ s''. wrote (marked x done s'')) (alias_back (X.has_fwd s'.mach x) s') (λ s'' q'. comes (done_around x s s'' (back_then (marked x busy s) s' s'' q q'))))
      begin_back top (proto ts) = each_back (λ s' y. rec s' y cont) (λ s' y. h s' y cont) ts s
      begin_back top (comp ms) = comes_bind (close (N cont) T top x) (within_back (top || not (T.named x)) (T.named x) ms) (λ s' q. close_back top s s' q)

      allowed_back : (b : Bool) → Comes (Back s) (allowed (N cont) T rec s x cont b)
      unfolding allowed
      allowed_back true = halts
      allowed_back false = begin_back (is_zero cont) (T.node x)

      look_back : (m : Mark) → Comes (Back s) (look (N cont) T rec s x cont m)
      unfolding look
      look_back new = allowed_back (is_zero cont && not (T.named x))
      look_back busy = again_back s (T.node x)
      look_back done = comes (λ y e. e)

  pub emit_back : (n : ℕ) (s : Traced M) (x cont : ℕ) → Comes (Back s) (emit_traced X room shows why T n s x cont)
  unfolding emit_traced
  emit_back zero s x cont = halts
  emit_back (suc n) s x cont = look_back x cont (λ s' y d. emit_traced X room shows why T n s' y d) (λ s' y d. emit_back n s' y d) s (X.eget s.mach x)

-- ---- the machine of lists
-- a mark of another kind at x, within the list or past its end
set_back : (l : List Mark) (x y : ℕ) (m : Mark) → (m ≡ busy → ⊥) → get_or (set l x m) y new ≡ busy → (y ≢ x) × (get_or l y new ≡ busy)
set_back l x y m nb e = by (ℕ_discrete y x)
  where
    at : (get_or (set l x m) x new ≡ busy) → (x < length l) ⊎ (length l ≤ x) → ⊥
    at q (inl i) = nb (sym (get_or-set_same l x m new i) ∙ q)
    at q (inr i) = new_busy (sym (get_or-eq_default (set l x m) new {n = x} (subst (λ (k : ℕ). k ≤ x) (sym (length-set l x m)) i)) ∙ q)

    by : Dec (y ≡ x) → (y ≢ x) × (get_or l y new ≡ busy)
    by (yes q) = absurd (at (ap (λ (z : ℕ). get_or (set l x m) z new) (sym q) ∙ e) (cases_lt x (length l)))
    by (no q) = (q, sym (get_or-set_other l x y m new q) ∙ e)

busy_back : (l : List Mark) (x y : ℕ) → get_or (set l x busy) y new ≡ busy → (y ≡ x) ⊎ (get_or l y new ≡ busy)
busy_back l x y e = by (ℕ_discrete y x)
  where
    by : Dec (y ≡ x) → (y ≡ x) ⊎ (get_or l y new ≡ busy)
    by (yes q) = inl q
    by (no q) = inr (sym (get_or-set_other l x y busy new q) ∙ e)

put_back : {U H : Type 0} (L : Lines U H) (mk : List ℕ → Piece) (s : Ls U) (l : Line U H) → Comes (λ s'. (y : ℕ) → (list_machine L).eget s' y ≡ (list_machine L).eget s y) (put_line mk s l)
put_back L mk s (says u t) = comes (λ y. refl)
put_back L mk s (cannot h e) = halts

pub list_turns : {U H : Type 0} (L : Lines U H) → Turns (list_machine L)
list_turns L = record {
  t_busy = λ x y m e. busy_back m.emits x y e;
  t_done = λ x y m e. set_back m.emits x y done done_busy e;
  t_new = λ x y m e. set_back m.emits x y new new_busy e;
  t_flag = λ x y m. refl;
  t_fwd = λ m x. put_back L other m (L.fwd m.room m.known x);
  t_alias = λ m x. put_back L other m (L.alias' m.room m.known x);
  t_leaf = λ m x. put_back L other m (L.leaf' m.room m.known x);
  t_body = λ m x. put_back L (defines x) m (L.body' m.room m.known x);
}
