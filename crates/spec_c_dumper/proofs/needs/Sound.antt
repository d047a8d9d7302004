-- The theorem on ordering, over every lawful store.
use Prim.Native.Nat.{ℕ, zero, suc, ◌<◌, ◌≤◌}
use native.Mathlib.Decide.{ℕ_discrete}
use native.Mathlib.Omega.{arith}
use mathlib.Core.Path.{◌≡◌, refl, sym, ◌∙◌, ap, subst}
use mathlib.Core.Bool.{Bool, true, false, not, ◌&&◌, ◌||◌, true≢false, and-false}
use mathlib.Core.List.Memᴰ
use mathlib.Core.List.{List, [], ◌∷◌, ◌++◌, append_assoc, Memᴰ}
use mathlib.Core.Logic.{◌⊎◌, inl, inr, ◌≢◌}
use mathlib.Core.WellFounded.{Acc}
use lib.ListN.{length, length-append}
use Rattle.std.proofs.lemmas.Bool.{and_parts}
use Rattle.spec_c_dumper.specs.rules.Order.{Node, ignored, plain, listed, through, ptr, tdef, proto, comp, Table, is_comp, Mark, new, busy, done, is_done, Store, Lawful, Framed, Res, ok, refused, bind, each, meet, push_if, finish as finish_k, enter, alias, fresh, visit, order}
use Rattle.spec_c_dumper.specs.needs.Needs.{kids, weaken, is_array, Way, here, past, Needs, NamedComp, Via, direct, through_nameless, MeetsTwice, WF}
use Rattle.spec_c_dumper.proofs.needs.Placed.{is_def, Listable, Placed, Sorted, snoc}
use Rattle.spec_c_dumper.proofs.needs.Ways.{clash, clash_new, clash_busy, only, loosen, loosen_mono, stop, Loops, Gee, gee_past, gee_weaken, gee_member, way_lower, via_comp, agree, and_no, or_yes, loops_twice, acc_once, tally, tally_mono, tally_room, tally_more}

-- What a result comes to: Q of the state and the report, or a refusal, 12, or 13 with E.

pub data Holds {St : Type 0} (Q : St → Bool → Type 0) (E : Type 0) : Res St → Type 0 where
  good : {s : St} {b : Bool} → Q s b → Holds Q E (ok s b)
  bad : {e : ℕ} → (e ≡ 12) ⊎ ((e ≡ 13) × E) → Holds Q E (refused e)

pub holds_bind : {St : Type 0} {Q Q' : St → Bool → Type 0} {E : Type 0} {r : Res St} {k : St → Bool → Res St} → Holds Q E r → ((s : St) (b : Bool) → Q s b → Holds Q' E (k s b)) → Holds Q' E (bind r k)
unfolding bind
holds_bind (good h) f = f _ _ h
holds_bind (bad h) f = bad h

pub holds_map : {St : Type 0} {Q Q' : St → Bool → Type 0} {E : Type 0} {r : Res St} → ((s : St) (b : Bool) → Q s b → Q' s b) → Holds Q E r → Holds Q' E r
holds_map f (good h) = good (f _ _ h)
holds_map f (bad h) = bad h

module _ {St : Type 0} (K : Store St) (T : Table) (Good : St → Type 0) (law : Lawful K T.count Good) (Fr : St → St → Type 0) (framed : Framed K T.count Good Fr) where
  abbrev get : St → ℕ → Mark
  get s x = K.get s x

  abbrev mark : Mark → ℕ → St → St
  mark m x s = K.mark m x s

  abbrev lst : St → List ℕ
  lst s = K.list s

  abbrev finish : Bool → ℕ → St → St
  finish p x s = finish_k K p x s

  abbrev pub Done : St → ℕ → Type 0
  Done s x = get s x ≡ done

  abbrev pub Busy : St → ℕ → Type 0
  Busy s x = get s x ≡ busy

  -- a mark stays, or goes from new to done
  abbrev pub Grew : St → St → Type 0
  Grew s s' = (d : ℕ) → (get s' d ≡ get s d) ⊎ ((get s d ≡ new) × (get s' d ≡ done))

  pub grew_refl : (s : St) → Grew s s
  grew_refl s d = inl refl

  pub grew_trans : (a b c : St) → Grew a b → Grew b c → Grew a c
  grew_trans a b c f g d = go (f d) (g d)
    where
      go : (get b d ≡ get a d) ⊎ ((get a d ≡ new) × (get b d ≡ done)) → (get c d ≡ get b d) ⊎ ((get b d ≡ new) × (get c d ≡ done)) → (get c d ≡ get a d) ⊎ ((get a d ≡ new) × (get c d ≡ done))
      go (inl e) (inl h) = inl (h ∙ e)
      go (inl e) (inr h) = inr (sym e ∙ h.0, h.1)
      go (inr e) (inl h) = inr (e.0, h ∙ e.1)
      go (inr e) (inr h) = inr (e.0, h.1)

  grew_done : (a b : St) → Grew a b → (d : ℕ) → Done a d → Done b d
  grew_done a b f d h = go (f d)
    where
      go : (get b d ≡ get a d) ⊎ ((get a d ≡ new) × (get b d ≡ done)) → Done b d
      go (inl e) = e ∙ h
      go (inr e) = e.1

  pub grew_busy : (a b : St) → Grew a b → (d : ℕ) → Busy b d → Busy a d
  grew_busy a b f d h = go (f d)
    where
      go : (get b d ≡ get a d) ⊎ ((get a d ≡ new) × (get b d ≡ done)) → Busy a d
      go (inl e) = sym e ∙ h
      go (inr e) = let n : get a d ≡ new = e.0 in let m : get b d ≡ done = e.1 in cc

  pub grew_busy' : (a b : St) → Grew a b → (d : ℕ) → Busy a d → Busy b d
  grew_busy' a b f d h = go (f d)
    where
      go : (get b d ≡ get a d) ⊎ ((get a d ≡ new) × (get b d ≡ done)) → Busy b d
      go (inl e) = e ∙ h
      go (inr e) = let n : get a d ≡ new = e.0 in let m : get b d ≡ done = e.1 in cc

  -- there is room where something is to be listed
  abbrev pub Room : Bool → St → Type 0
  Room p s = p ≡ true → length (lst s) < T.count

  pub push_good : (p : Bool) (x : ℕ) (s : St) → Good s → x < T.count → Room p s → Good (push_if K p x s)
  unfolding push_if
  push_good true x s g l r = law.push_good x s g l (r refl)
  push_good false x s g l r = g

  push_get : (p : Bool) (x : ℕ) (s : St) → Good s → x < T.count → Room p s → (d : ℕ) → get (push_if K p x s) d ≡ get s d
  unfolding push_if
  push_get true x s g l r d = law.push_get x s g l (r refl) d
  push_get false x s g l r d = refl

  push_frame : (p : Bool) (x : ℕ) (s : St) → Good s → x < T.count → Room p s → Fr s (push_if K p x s)
  unfolding push_if
  push_frame true x s g l r = framed.fr_push x s g l (r refl)
  push_frame false x s g l r = framed.fr_same s

  module _ (p : Bool) (x : ℕ) (s : St) (g : Good s) (l : x < T.count) (r : Room p s) where
    finish_frame : Fr s (finish p x s)
    finish_frame = framed.fr_then s (push_if K p x s) (finish p x s) (push_frame p x s g l r) (framed.fr_mark done x (push_if K p x s) (push_good p x s g l r) l)

    pub finish_good : Good (finish p x s)
    finish_good = law.mark_good done x (push_if K p x s) (push_good p x s g l r) l

    finish_same : Done (finish p x s) x
    finish_same = law.mark_same done x (push_if K p x s) (push_good p x s g l r) l

    finish_other : (d : ℕ) → d ≢ x → get (finish p x s) d ≡ get s d
    finish_other d h = law.mark_other done x (push_if K p x s) (push_good p x s g l r) l d h ∙ push_get p x s g l r d

    finish_done : (d : ℕ) → Done s d → Done (finish p x s) d
    finish_done d e = go (ℕ_discrete d x)
      where
        go : Dec (d ≡ x) → Done (finish p x s) d
        go (yes q) = subst (λ (k : ℕ). Done (finish p x s) k) (sym q) finish_same
        go (no q) = finish_other d q ∙ e

    -- finishing what is not busy
    pub grew_finish : (Busy s x → ⊥) → Grew s (finish p x s)
    grew_finish nb d = go (ℕ_discrete d x)
      where
        at_x : (m : Mark) → get s x ≡ m → (get (finish p x s) x ≡ get s x) ⊎ ((get s x ≡ new) × (get (finish p x s) x ≡ done))
        at_x new e = inr (e, finish_same)
        at_x busy e = absurd (nb e)
        at_x done e = inl (finish_same ∙ sym e)

        go : Dec (d ≡ x) → (get (finish p x s) d ≡ get s d) ⊎ ((get s d ≡ new) × (get (finish p x s) d ≡ done))
        go (yes q) = subst (λ (k : ℕ). (get (finish p x s) k ≡ get s k) ⊎ ((get s k ≡ new) × (get (finish p x s) k ≡ done))) (sym q) (at_x (get s x) refl)
        go (no q) = inl (finish_other d q)

    -- a composite was made busy, what followed grew it to s, and it is finished
    pub grew_around : (s₀ : St) → Good s₀ → get s₀ x ≡ new → Grew (mark busy x s₀) s → Grew s₀ (finish p x s)
    grew_around s₀ g₀ e f d = go (ℕ_discrete d x)
      where
        off : d ≢ x → (get s d ≡ get (mark busy x s₀) d) ⊎ ((get (mark busy x s₀) d ≡ new) × (get s d ≡ done)) → (get (finish p x s) d ≡ get s₀ d) ⊎ ((get s₀ d ≡ new) × (get (finish p x s) d ≡ done))
        off q (inl a) = inl (finish_other d q ∙ a ∙ law.mark_other busy x s₀ g₀ l d q)
        off q (inr a) = inr (sym (law.mark_other busy x s₀ g₀ l d q) ∙ a.0, finish_other d q ∙ a.1)

        go : Dec (d ≡ x) → (get (finish p x s) d ≡ get s₀ d) ⊎ ((get s₀ d ≡ new) × (get (finish p x s) d ≡ done))
        go (yes q) = subst (λ (k : ℕ). (get (finish p x s) k ≡ get s₀ k) ⊎ ((get s₀ k ≡ new) × (get (finish p x s) k ≡ done))) (sym q) (inr (e, finish_same))
        go (no q) = off q (f d)

  -- the list

  list_true : (x : ℕ) (s : St) → Good s → x < T.count → length (lst s) < T.count → lst (finish true x s) ≡ lst s ++ (x ∷ [])
  unfolding push_if
  list_true x s g l r = law.mark_list done x (K.push x s) (law.push_good x s g l r) l ∙ law.push_list x s g l r

  list_false : (x : ℕ) (s : St) → Good s → x < T.count → lst (finish false x s) ≡ lst s
  unfolding push_if
  list_false x s g l = law.mark_list done x s g l

  module _ (pre : List ℕ) (x : ℕ) (s : St) (g : Good s) (l : x < T.count) where
    whole_true : length (lst s) < T.count → pre ++ lst (finish true x s) ≡ (pre ++ lst s) ++ (x ∷ [])
    whole_true r = ap (λ (k : List ℕ). pre ++ k) (list_true x s g l r) ∙ sym (append_assoc pre (lst s) (x ∷ []))

    whole_false : pre ++ lst (finish false x s) ≡ pre ++ lst s
    whole_false = ap (λ (k : List ℕ). pre ++ k) (list_false x s g l)

    mem_finish : (p : Bool) → Room p s → (y : ℕ) → Memᴰ y (pre ++ lst s) → Memᴰ y (pre ++ lst (finish p x s))
    mem_finish true r y m = subst (Memᴰ y) (sym (whole_true (r refl))) (Memᴰ.append_left (x ∷ []) m)
    mem_finish false r y m = subst (Memᴰ y) (sym whole_false) m

    mem_finish_self : (p : Bool) → Room p s → p ≡ true → Memᴰ x (pre ++ lst (finish p x s))
    mem_finish_self true r e = subst (Memᴰ x) (sym (whole_true (r refl))) (Memᴰ.append_right (pre ++ lst s) (Memᴰ.head refl))
    mem_finish_self false r e = absurd (true≢false (sym e))

    pub mem_finish_inv : (p : Bool) → Room p s → (y : ℕ) → Memᴰ y (pre ++ lst (finish p x s)) → Memᴰ y (pre ++ lst s) ⊎ ((y ≡ x) × (p ≡ true))
    mem_finish_inv true r y m = go (Memᴰ.append_cases (pre ++ lst s) (subst (Memᴰ y) (whole_true (r refl)) m))
      where
        go : Memᴰ y (pre ++ lst s) ⊎ Memᴰ y (x ∷ []) → Memᴰ y (pre ++ lst s) ⊎ ((y ≡ x) × (true ≡ true))
        go (inl a) = inl a
        go (inr a) = inr (Memᴰ.eq_of_singleton a, refl)
    mem_finish_inv false r y m = inl (subst (Memᴰ y) whole_false m)

    sorted_finish : (p : Bool) → Room p s → Sorted T (pre ++ lst s) → (NamedComp T x → Placed T (pre ++ lst s) x) → Sorted T (pre ++ lst (finish p x s))
    sorted_finish true r h f = subst (Sorted T) (sym (whole_true (r refl))) (snoc h f)
    sorted_finish false r h f = subst (Sorted T) (sym whole_false) h

    -- the list stays no longer than what is done
    pub room_finish : (p : Bool) → (p ≡ true → Done s x → ⊥) → (r : Room p s) → length (lst s) ≤ tally (K.get s) T.count → length (lst (finish p x s)) ≤ tally (K.get (finish p x s)) T.count
    room_finish true nd r h = omega (arith, ap length (list_true x s g l (r refl)) ∙ length-append (lst s) (x ∷ []), tally_more (K.get s) (K.get (finish true x s)) (finish_done true x s g l r) x T.count l (nd refl) (finish_same true x s g l r))
    room_finish false nd r h = omega (arith, ap length (list_false x s g l), tally_mono (K.get s) (K.get (finish false x s)) (finish_done false x s g l r) T.count)

  -- all that is owed on the ways from x is done
  abbrev pub Hit : St → ℕ → Bool → Type 0
  Hit s x w = (d : ℕ) (v : Bool) → Way (loosen T) T x w d v → (T.named d ≡ false) ⊎ (v ≡ false) → Done s d

  pub record Inv (pre : List ℕ) (s : St) : Type 0 where
    pub good' : Good s
    pub room : length (lst s) ≤ tally (K.get s) T.count
    pub closed : (x : ℕ) → Done s x → Hit s x false
    pub inside : (x : ℕ) → Done s x → (d : ℕ) → Needs T x d → Done s d
    pub ends : (x : ℕ) → Done s x → Acc (λ d c. Needs T c d) x
    pub is_listed : (x : ℕ) → Done s x → NamedComp T x → Memᴰ x (pre ++ lst s)
    pub from_list : (x : ℕ) → Memᴰ x (pre ++ lst s) → Done s x × Listable T x × (x < T.count)
    pub sorted : Sorted T (pre ++ lst s)
    pub busy_comp : (x : ℕ) → Busy s x → is_comp (T.node x) ≡ true

  pub record Post (pre : List ℕ) (s : St) (x : ℕ) (weak : Bool) (s' : St) (b : Bool) : Type 0 where
    pub inv : Inv pre s'
    pub grew : Grew s s'
    pub frame : Fr s s'
    pub met : Hit s' x weak
    pub strong : b ≡ true → Hit s' x false

  pub record EachPost (pre : List ℕ) (s : St) (ys : List ℕ) (weak : Bool) (s' : St) (b : Bool) : Type 0 where
    pub inv : Inv pre s'
    pub grew : Grew s s'
    pub frame : Fr s s'
    pub hits : (y : ℕ) → Memᴰ y ys → Hit s' y weak

  pub hit_past : (s : St) (x : ℕ) (w : Bool) (nd : Node) → T.node x ≡ nd → is_comp nd ≡ false → ((y : ℕ) → Memᴰ y (kids nd) → Hit s y (loosen T nd w)) → Hit s x w
  hit_past s x w nd e nc h d v (here c q f) due = absurd (true≢false (sym c ∙ ap is_comp e ∙ nc))
  hit_past s x w nd e nc h d v (past {y = y} c m way) due = h y (subst (λ (k : Node). Memᴰ y (kids k)) e m) d v (subst (λ (k : Node). Way (loosen T) T y (loosen T k w) d v) e way) due

  hit_up : (s s' : St) (x : ℕ) (w : Bool) → ((d : ℕ) → Done s d → Done s' d) → Hit s x w → Hit s' x w
  hit_up s s' x w g h d v way due = g d (h d v way due)

  hit_comp : (s : St) (x : ℕ) (w : Bool) → is_comp (T.node x) ≡ true → Done s x → Hit s x w
  hit_comp s x w c h d v (here c' q f) due = subst (Done s) q h
  hit_comp s x w c h d v (past nc m way) due = absurd (true≢false (sym c ∙ nc))

  pub hit_lower : (s : St) (x : ℕ) (w : Bool) → Hit s x false → Hit s x w
  hit_lower s x w h d v way (inl n) = let r = way_lower T (loosen_mono T) way false (λ e. refl) in h d r.0 r.1 (inl n)
  hit_lower s x w h d v way (inr e) = let r = way_lower T (loosen_mono T) way false (λ e. refl) in h d r.0 r.1 (inr (r.2 e))

  via_done : (pre : List ℕ) (s : St) → Inv pre s → {c d : ℕ} → Via T c d → ((d : ℕ) → Needs T c d → Done s d) → Done s d
  via_done pre s i (direct {d = d} n) f = f d n
  via_done pre s i (through_nameless {n = n} a e v) f = via_done pre s i v (i.inside n (f n a))

  -- Finishing x keeps the invariant.
  module _ (pre : List ℕ) (s : St) (x : ℕ) (p : Bool) (i : Inv pre s) (l : x < T.count)
      (unlisted : p ≡ true → Done s x → ⊥) (pushed : NamedComp T x → p ≡ true) (able : p ≡ true → Listable T x)
      (hit : is_comp (T.node x) ≡ false → Hit s x false) (needs : (d : ℕ) → Needs T x d → Done s d) where
    roomy : Room p s
    roomy e = omega (arith, i.room, tally_room (K.get s) x T.count l (unlisted e))

    up : (d : ℕ) → Done s d → Done (finish p x s) d
    up = finish_done p x s i.good' l roomy

    self : Done (finish p x s) x
    self = finish_same p x s i.good' l roomy

    -- what holds of x, and of all that was done, holds of all that is done now
    all : (P : ℕ → Type 0) → P x → ((y : ℕ) → Done s y → P y) → (y : ℕ) → Done (finish p x s) y → P y
    all P h f y e = go (ℕ_discrete y x)
      where
        go : Dec (y ≡ x) → P y
        go (yes q) = subst P (sym q) h
        go (no q) = f y (sym (finish_other p x s i.good' l roomy y q) ∙ e)

    hit_x : (b : Bool) → is_comp (T.node x) ≡ b → Hit (finish p x s) x false
    hit_x true e = hit_comp (finish p x s) x false e self
    hit_x false e = hit_up s (finish p x s) x false up (hit e)

    placed : NamedComp T x → Placed T (pre ++ lst s) x
    placed nc = record {
      once = λ m. unlisted (pushed nc) (i.from_list x m).0;
      after = λ d v n. i.is_listed d (via_done pre s i v needs) (via_comp T v, n);
    }

    inv_finish : Inv pre (finish p x s)
    inv_finish = record {
      good' = finish_good p x s i.good' l roomy;
      room = room_finish pre x s i.good' l p unlisted roomy i.room;
      closed = all (λ (y : ℕ). Hit (finish p x s) y false) (hit_x (is_comp (T.node x)) refl) (λ y e. hit_up s (finish p x s) y false up (i.closed y e));
      inside = all (λ (y : ℕ). (d : ℕ) → Needs T y d → Done (finish p x s) d) (λ d n. up d (needs d n)) (λ y e d n. up d (i.inside y e d n));
      ends = all (λ (y : ℕ). Acc (λ d c. Needs T c d) y) (Acc.intro x (λ d n. i.ends d (needs d n))) i.ends;
      is_listed = all (λ (y : ℕ). NamedComp T y → Memᴰ y (pre ++ lst (finish p x s))) (λ nc. mem_finish_self pre x s i.good' l p roomy (pushed nc)) (λ y e nc. mem_finish pre x s i.good' l p roomy y (i.is_listed y e nc));
      from_list = from;
      sorted = sorted_finish pre x s i.good' l p roomy i.sorted placed;
      busy_comp = still;
    }
      where
        from : (y : ℕ) → Memᴰ y (pre ++ lst (finish p x s)) → Done (finish p x s) y × Listable T y × (y < T.count)
        from y m = go (mem_finish_inv pre x s i.good' l p roomy y m)
          where
            go : Memᴰ y (pre ++ lst s) ⊎ ((y ≡ x) × (p ≡ true)) → Done (finish p x s) y × Listable T y × (y < T.count)
            go (inl a) = let h = i.from_list y a in (up y h.0, h.1, h.2)
            go (inr q) = subst (λ (k : ℕ). Done (finish p x s) k × Listable T k × (k < T.count)) (sym q.0) (self, able q.1, l)

        still : (y : ℕ) → Busy (finish p x s) y → is_comp (T.node y) ≡ true
        still y b = go (ℕ_discrete y x)
          where
            go : Dec (y ≡ x) → is_comp (T.node y) ≡ true
            go (yes q) = absurd (clash (get (finish p x s) y) b (subst (Done (finish p x s)) (sym q) self))
            go (no q) = i.busy_comp y (sym (finish_other p x s i.good' l roomy y q) ∙ b)

  -- Making x busy keeps it.
  module _ (pre : List ℕ) (s : St) (x : ℕ) (i : Inv pre s) (l : x < T.count) (e : get s x ≡ new) (c : is_comp (T.node x) ≡ true) where
    busy_self : Busy (mark busy x s) x
    busy_self = law.mark_same busy x s i.good' l

    busy_off : (y : ℕ) → y ≢ x → get (mark busy x s) y ≡ get s y
    busy_off y q = law.mark_other busy x s i.good' l y q

    busy_down : (y : ℕ) → Done (mark busy x s) y → Done s y
    busy_down y h = go (ℕ_discrete y x)
      where
        go : Dec (y ≡ x) → Done s y
        go (yes q) = absurd (clash (get (mark busy x s) y) (subst (Busy (mark busy x s)) (sym q) busy_self) h)
        go (no q) = sym (busy_off y q) ∙ h

    busy_up : (y : ℕ) → Done s y → Done (mark busy x s) y
    busy_up y h = busy_off y (λ q. clash_new (get s y) (ap (get s) q ∙ e) h) ∙ h

    inv_busy : Inv pre (mark busy x s)
    inv_busy = record {
      good' = law.mark_good busy x s i.good' l;
      room = omega (arith, i.room, ap length (law.mark_list busy x s i.good' l), tally_mono (K.get s) (K.get (mark busy x s)) busy_up T.count);
      closed = λ y h. hit_up s (mark busy x s) y false busy_up (i.closed y (busy_down y h));
      inside = λ y h d n. busy_up d (i.inside y (busy_down y h) d n);
      ends = λ y h. i.ends y (busy_down y h);
      is_listed = λ y h nc. subst (λ (k : List ℕ). Memᴰ y (pre ++ k)) (sym same_list) (i.is_listed y (busy_down y h) nc);
      from_list = λ y m. let h = i.from_list y (subst (λ (k : List ℕ). Memᴰ y (pre ++ k)) same_list m) in (busy_up y h.0, h.1, h.2);
      sorted = subst (λ (k : List ℕ). Sorted T (pre ++ k)) (sym same_list) i.sorted;
      busy_comp = λ y b. still y b (ℕ_discrete y x);
    }
      where
        same_list : lst (mark busy x s) ≡ lst s
        same_list = law.mark_list busy x s i.good' l

        still : (y : ℕ) → Busy (mark busy x s) y → Dec (y ≡ x) → is_comp (T.node y) ≡ true
        still y b (yes q) = ap (λ (k : ℕ). is_comp (T.node k)) q ∙ c
        still y b (no q) = i.busy_comp y (sym (busy_off y q) ∙ b)

    busy_more : (y : ℕ) → Busy (mark busy x s) y → (y ≡ x) ⊎ Busy s y
    busy_more y b = go (ℕ_discrete y x)
      where
        go : Dec (y ≡ x) → (y ≡ x) ⊎ Busy s y
        go (yes q) = inl q
        go (no q) = inr (sym (busy_off y q) ∙ b)

  -- One call, given that the calls inside it do as promised.

  abbrev pub Keeps : List ℕ → Type 0 → (St → ℕ → Bool → Res St) → Type 0
  Keeps pre E rec = (s : St) (x : ℕ) (weak : Bool) → Inv pre s → x < T.count → Gee T E (Busy s) x weak → Holds (Post pre s x weak) E (rec s x weak)

  module _ (wf : WF T) (pre : List ℕ) (E : Type 0) (rec : St → ℕ → Bool → Res St) (keeps : Keeps pre E rec) where
    each_ok : (ys : List ℕ) (s : St) (b weak : Bool) → Inv pre s → ((y : ℕ) → Memᴰ y ys → y < T.count) → ((y : ℕ) → Memᴰ y ys → Gee T E (Busy s) y weak) → Holds (EachPost pre s ys weak) E (each (λ s' y. rec s' y weak) ys s b)
    unfolding each
    each_ok [] s b weak i l g = good (record { inv = i; grew = grew_refl s; frame = framed.fr_same s; hits = λ y m. absurd (Memᴰ.not-nil m) })
    each_ok (y ∷ ys) s b weak i l g =
        holds_bind (keeps s y weak i (l y (Memᴰ.head refl)) (g y (Memᴰ.head refl))) (λ s' b' p.
        holds_map (join s' b' p) (each_ok ys s' (b || b') weak p.inv (λ z m. l z (Memᴰ.tail m)) (λ z m. gee_weaken T E (Busy s) (Busy s') z weak (grew_busy s s' p.grew) (g z (Memᴰ.tail m)))))
      where
        join : (s' : St) (b' : Bool) → Post pre s y weak s' b' → (s'' : St) (b'' : Bool) → EachPost pre s' ys weak s'' b'' → EachPost pre s (y ∷ ys) weak s'' b''
        join s' b' p s'' b'' q = record { inv = q.inv; grew = grew_trans s s' s'' p.grew q.grew; frame = framed.fr_then s s' s'' p.frame q.frame; hits = λ z m. pick z (Memᴰ.cases_cons m) }
          where
            pick : (z : ℕ) → (z ≡ y) ⊎ Memᴰ z ys → Hit s'' z weak
            pick z (inl e) = subst (λ (k : ℕ). Hit s'' k weak) (sym e) (hit_up s' s'' y weak (grew_done s' s'' q.grew) p.met)
            pick z (inr m) = q.hits z m

    module _ (s : St) (x : ℕ) (weak : Bool) (i : Inv pre s) (l : x < T.count) (g : Gee T E (Busy s) x weak) where
      -- x, no composite, is finished after a growth
      finished : (s' : St) (p b : Bool) → (p ≡ true → Done s' x → ⊥) → (p ≡ true → is_def (T.node x) ≡ true) → is_comp (T.node x) ≡ false → get s x ≡ new → Inv pre s' → Grew s s' → Fr s s' → Hit s' x false → Post pre s x weak (finish p x s') b
      finished s' p b nd df nc e i' gr fr h = record {
        inv = inv_finish pre s' x p i' l nd (λ c. absurd (true≢false (sym c.0 ∙ nc))) (λ q. record { kind = df q; name = λ c. absurd (true≢false (sym c ∙ nc)) }) (λ u. h) (λ d n. absurd (true≢false (sym n.composite ∙ nc)));
        grew = grew_trans s s' (finish p x s') gr (grew_finish p x s' i'.good' l roomy' (λ b. clash_busy (get s x) e (grew_busy s s' gr x b)));
        frame = framed.fr_then s s' (finish p x s') fr (finish_frame p x s' i'.good' l roomy');
        met = hit_lower (finish p x s') x weak above;
        strong = λ q. above;
      }
        where
          roomy' : Room p s'
          roomy' q = omega (arith, i'.room, tally_room (K.get s') x T.count l (nd q))

          above : Hit (finish p x s') x false
          above = hit_up s' (finish p x s') x false (finish_done p x s' i'.good' l roomy') h

      -- a composite passed over
      skipped : is_comp (T.node x) ≡ true → (weak && T.named x) ≡ true → Post pre s x weak s false
      skipped c e = record { inv = i; grew = grew_refl s; frame = framed.fr_same s; met = none_met; strong = λ q. absurd (true≢false (sym q)) }
        where
          none_met : Hit s x weak
          none_met d v (here c' q f) (inl n) = absurd (true≢false (sym (and_parts weak (T.named x) e).1 ∙ ap T.named q ∙ n))
          none_met d v (here c' q f) (inr r) = absurd (true≢false (sym (and_parts weak (T.named x) e).0 ∙ f ∙ r))
          none_met d v (past nc m way) due = absurd (true≢false (sym c ∙ nc))

      enter_ok : (ms : List ℕ) → T.node x ≡ comp ms → get s x ≡ new → (b : Bool) → (weak && T.named x) ≡ b → Holds (Post pre s x weak) E (enter K b (λ s' y. rec s' y false) s x (T.named x) ms)
      unfolding enter
      enter_ok ms e n true h = good (skipped (ap is_comp e) h)
      enter_ok ms e n false h =
          holds_bind (each_ok ms s₁ false false (inv_busy pre s x i l n c) (λ y m. wf.below x y (inside_x y m)) (λ y m. gee_member T E (Busy s) (Busy s₁) x weak c (busy_more pre s x i l n c) g (and_no weak (T.named x) h) y (inside_x y m))) (λ s' b q. good (record {
            inv = inv_finish pre s' x (T.named x) q.inv l (open_x s' b q) (λ u. u.1) (λ q. record { kind = ap is_def e; name = λ u. q }) (λ nc. absurd (true≢false (sym c ∙ nc))) (done_needs s' b q);
            grew = grew_around (T.named x) x s' q.inv.good' l (roomy' s' b q) s i.good' n q.grew;
            frame = framed.fr_then s s₁ (finish (T.named x) x s') (framed.fr_mark busy x s i.good' l) (framed.fr_then s₁ s' (finish (T.named x) x s') q.frame (finish_frame (T.named x) x s' q.inv.good' l (roomy' s' b q)));
            met = hit_comp (finish (T.named x) x s') x weak c (finish_same (T.named x) x s' q.inv.good' l (roomy' s' b q));
            strong = λ u. hit_comp (finish (T.named x) x s') x false c (finish_same (T.named x) x s' q.inv.good' l (roomy' s' b q));
          }))
        where
          s₁ : St
          s₁ = mark busy x s

          c : is_comp (T.node x) ≡ true
          c = ap is_comp e

          open_x : (s' : St) (b : Bool) → EachPost pre s₁ ms false s' b → T.named x ≡ true → Done s' x → ⊥
          open_x s' b q u dn = clash (get s' x) (grew_busy' s₁ s' q.grew x (busy_self pre s x i l n c)) dn

          roomy' : (s' : St) (b : Bool) → EachPost pre s₁ ms false s' b → Room (T.named x) s'
          roomy' s' b q u = omega (arith, q.inv.room, tally_room (K.get s') x T.count l (open_x s' b q u))

          inside_x : (y : ℕ) → Memᴰ y ms → Memᴰ y (kids (T.node x))
          inside_x y m = subst (λ (k : Node). Memᴰ y (kids k)) (sym e) m

          done_needs : (s' : St) (b : Bool) → EachPost pre s₁ ms false s' b → (d : ℕ) → Needs T x d → Done s' d
          done_needs s' b q d r = q.hits r.member (subst (λ (k : Node). Memᴰ r.member (kids k)) e r.is_member) d r.pointer (agree T wf r.way (inr (wf.no_proto x r.member (ap (λ (k : Bool). k || is_array (T.node x)) r.composite) r.is_member))) r.owed

      -- the call for an id that x leads to, and what it has met, when x is no composite
      child : (nd : Node) (t : ℕ) → T.node x ≡ nd → is_comp nd ≡ false → Memᴰ t (kids nd) → Holds (Post pre s t (weaken T nd weak)) E (rec s t (weaken T nd weak))
      child nd t e nc m = keeps s t (weaken T nd weak) i (wf.below x t (subst (λ (k : Node). Memᴰ t (kids k)) (sym e) m)) (gee_past T E (Busy s) x t weak nd e nc m g)

      hit_one : (s' : St) (w : Bool) (nd : Node) (t : ℕ) → T.node x ≡ nd → is_comp nd ≡ false → kids nd ≡ t ∷ [] → Hit s' t (loosen T nd w) → Hit s' x w
      hit_one s' w nd t e nc k h = hit_past s' x w nd e nc (subst (λ (ks : List ℕ). (y : ℕ) → Memᴰ y ks → Hit s' y (loosen T nd w)) (sym k) (only (λ (y : ℕ). Hit s' y (loosen T nd w)) t h))

      hit_leaf : (w : Bool) (nd : Node) → T.node x ≡ nd → is_comp nd ≡ false → kids nd ≡ [] → Hit s x w
      hit_leaf w nd e nc k = hit_past s x w nd e nc (λ y m. absurd (Memᴰ.not-nil (subst (Memᴰ y) k m)))

      hit_true : (s' : St) (y : ℕ) (w : Bool) → Hit s' y w → Hit s' y true
      hit_true s' y true h = h
      hit_true s' y false h = hit_lower s' y true h

      told : (s' : St) (t : ℕ) (w b : Bool) → Post pre s t w s' b → (w ≡ false) ⊎ (b ≡ true) → Hit s' t false
      told s' t w b p (inl q) = subst (Hit s' t) q p.met
      told s' t w b p (inr q) = p.strong q

      not_done : (m : Mark) → not (is_done m) ≡ true → m ≡ done → ⊥
      not_done new e q = clash_new new refl q
      not_done busy e q = clash busy refl q
      not_done done e q = true≢false (sym e)

      alias_ok : (t : ℕ) → T.node x ≡ tdef t → get s x ≡ new → (s' : St) (b : Bool) → Post pre s t weak s' b → (a : Bool) → (not weak || b) ≡ a → Holds (Post pre s x weak) E (alias K a (is_done (get s' x)) s' x)
      unfolding alias
      alias_ok t e n s' b p true h = good (finished s' (not (is_done (get s' x))) true (not_done (get s' x)) (λ q. ap is_def e) (ap is_comp e) n p.inv p.grew p.frame (hit_one s' false (tdef t) t e refl refl (told s' t weak b p (or_yes weak b h))))
      alias_ok t e n s' b p false h = good (record { inv = p.inv; grew = p.grew; frame = p.frame; met = hit_one s' weak (tdef t) t e refl refl p.met; strong = λ q. absurd (true≢false (sym q)) })

      fresh_ok : (nd : Node) → T.node x ≡ nd → get s x ≡ new → Holds (Post pre s x weak) E (fresh K T rec s x weak nd)
      unfolding fresh
      fresh_ok ignored e n = good (record { inv = i; grew = grew_refl s; frame = framed.fr_same s; met = hit_leaf weak ignored e refl refl; strong = λ q. hit_leaf false ignored e refl refl })
      fresh_ok plain e n = good (finished s false false (λ q. absurd (true≢false (sym q))) (λ q. absurd (true≢false (sym q))) (ap is_comp e) n i (grew_refl s) (framed.fr_same s) (hit_leaf false plain e refl refl))
      fresh_ok (listed f) e n = good (finished s (T.named x) true (λ q. clash_new (get s x) n) (λ q. ap is_def e) (ap is_comp e) n i (grew_refl s) (framed.fr_same s) (hit_leaf false (listed f) e refl refl))
      fresh_ok (through a t) e n = holds_map (λ s' b p. record { inv = p.inv; grew = p.grew; frame = p.frame; met = hit_one s' weak (through a t) t e refl refl p.met; strong = λ q. hit_one s' false (through a t) t e refl refl (subst (Hit s' t) (sym (and-false (not (a && T.strong_arrays)))) (p.strong q)) }) (child (through a t) t e refl (Memᴰ.head refl))
      fresh_ok (ptr t) e n = holds_bind (child (ptr t) t e refl (Memᴰ.head refl)) (λ s' b p. good (finished s' false b (λ q. absurd (true≢false (sym q))) (λ q. absurd (true≢false (sym q))) (ap is_comp e) n p.inv p.grew p.frame (hit_one s' false (ptr t) t e refl refl p.met)))
      fresh_ok (tdef t) e n = holds_bind (child (tdef t) t e refl (Memᴰ.head refl)) (λ s' b p. alias_ok t e n s' b p (not weak || b) refl)
      fresh_ok (proto ts) e n = holds_map (λ s' b p. record { inv = p.inv; grew = p.grew; frame = p.frame; met = hit_past s' x weak (proto ts) e refl (λ y m. hit_true s' y weak (p.hits y m)); strong = λ q. hit_past s' x false (proto ts) e refl (λ y m. hit_true s' y weak (p.hits y m)) }) (each_ok ts s false weak i (λ y m. wf.below x y (subst (λ (k : Node). Memᴰ y (kids k)) (sym e) m)) (λ y m. gee_past T E (Busy s) x y weak (proto ts) e refl m g))
      fresh_ok (comp ms) e n = enter_ok ms e n (weak && T.named x) refl

      meet_ok : Busy s x → (c a : Bool) → is_comp (T.node x) ≡ c → (weak && T.named x) ≡ a → Holds (Post pre s x weak) E (meet (c && a) s)
      unfolding meet
      meet_ok b true true c e = good (skipped c e)
      meet_ok b true false c e = bad (inr (refl, g x weak (here c refl refl) (and_no weak (T.named x) e) (inr (x, b, stop refl))))
      meet_ok b false a c e = absurd (true≢false (sym (i.busy_comp x b) ∙ c))

      visit_ok : (m : Mark) → get s x ≡ m → Holds (Post pre s x weak) E (visit K T rec s x weak m)
      unfolding visit
      visit_ok new e = fresh_ok (T.node x) refl e
      visit_ok busy e = meet_ok e (is_comp (T.node x)) (weak && T.named x) refl refl
      visit_ok done e = good (record { inv = i; grew = grew_refl s; frame = framed.fr_same s; met = hit_lower s x weak (i.closed x e); strong = λ q. i.closed x e })

  pub order_ok : WF T → (pre : List ℕ) (E : Type 0) (n : ℕ) → Keeps pre E (order K n T)
  unfolding order
  order_ok wf pre E zero s x weak i l g = bad (inl refl)
  order_ok wf pre E (suc n) s x weak i l g = visit_ok wf pre E (λ s' y w. order K n T s' y w) (λ s' y w. order_ok wf pre E n s' y w) s x weak i l g (get s x) refl

  -- Between requests nothing is in progress.

  pub record Ready (pre : List ℕ) (s : St) : Type 0 where
    pub inv : Inv pre s
    pub idle : (x : ℕ) → Busy s x → ⊥

  pub record Ordered (s₀ : St) (pre : List ℕ) (x : ℕ) (s : St) (b : Bool) : Type 0 where
    pub ready : Ready pre s
    pub frame : Fr s₀ s
    pub asked : NamedComp T x → Memᴰ x (pre ++ lst s)
    pub no_cycle : NamedComp T x → MeetsTwice T x → ⊥

  -- THE THEOREM: for every table, every state between requests, every id, every fuel.
  pub request_ok : WF T → (pre : List ℕ) (s : St) (x n : ℕ) → Ready pre s → x < T.count → Holds (Ordered s pre x) (NamedComp T x → MeetsTwice T x) (order K n T s x false)
  request_ok wf pre s x n r l = holds_map answer (order_ok wf pre (NamedComp T x → MeetsTwice T x) n s x false r.inv l root)
    where
      root : Gee T (NamedComp T x → MeetsTwice T x) (Busy s) x false
      root d v (here c q f) due (inl o) nc = loops_twice (subst (Loops T) (sym q) o)
      root d v (here c q f) due (inr b) nc = absurd (r.idle b.0 b.1)
      root d v (past c m way) due cyc nc = absurd (true≢false (sym nc.0 ∙ c))

      answer : (s' : St) (b : Bool) → Post pre s x false s' b → Ordered s pre x s' b
      answer s' b p = record {
        ready = record { inv = p.inv; idle = λ y h. r.idle y (grew_busy s s' p.grew y h) };
        frame = p.frame;
        asked = λ nc. p.inv.is_listed x (is_done_lem nc) nc;
        no_cycle = λ nc m. acc_once m.chain (p.inv.ends x (is_done_lem nc)) m.twice;
      }
        where
          is_done_lem : NamedComp T x → Done s' x
          is_done_lem nc = p.met x false (here nc.0 refl refl) (inr refl)
