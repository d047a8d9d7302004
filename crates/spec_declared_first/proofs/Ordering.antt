-- Ordering, over every store that keeps its marks and its list: what is listed comes after every named enum and FWD that its declarations
-- can come to, and no declaration goes round in a circle.
use Prim.Native.Nat.{ℕ, zero, suc, ◌<◌}
use native.Mathlib.Decide.{ℕ_discrete}
use mathlib.Core.Path.{◌≡◌, refl, sym, ◌∙◌, ap, subst}
use mathlib.Core.Bool.{Bool, true, false, not, ◌&&◌, ◌||◌, true≢false}
use mathlib.Core.List.Memᴰ
use mathlib.Core.List.{List, [], ◌∷◌, ◌++◌, append_assoc, Memᴰ}
use mathlib.Core.Logic.{◌⊎◌, inl, inr, ◌≢◌}
use mathlib.Core.WellFounded.Acc
use Rattle.std.proofs.lemmas.Bool.{and_parts}
use Rattle.spec_c_dumper.specs.rules.Order.{Node, ignored, plain, listed, through, ptr, tdef, proto, comp, Table, is_comp, Mark, new, busy, done, is_done, Store, Res, ok, refused, bind, each, meet, push_if, finish, enter, alias, fresh, visit, order}
use Rattle.spec_c_dumper.specs.needs.Needs.{kids}
use Rattle.spec_c_dumper.proofs.needs.Placed.{is_def}
use Rattle.spec_c_dumper.proofs.needs.Ways.{clash, only}
use Rattle.spec_declared_first.proofs.Reach.{stops, Reach, is_leaf, Leaf, Ends, reach_stop, reach_past}

-- a result, if it is no refusal
pub data Gives {St : Type 0} (Q : St → Bool → Type 0) : Res St → Type 0 where
  gives : {s : St} {b : Bool} → Q s b → Gives Q (ok s b)
  refuses : {e : ℕ} → Gives Q (refused e)

gives_bind : {St : Type 0} {Q Q' : St → Bool → Type 0} {r : Res St} {k : St → Bool → Res St} → Gives Q r → ((s : St) (b : Bool) → Q s b → Gives Q' (k s b)) → Gives Q' (bind r k)
unfolding bind
gives_bind (gives h) f = f _ _ h
gives_bind refuses f = refuses

gives_map : {St : Type 0} {Q Q' : St → Bool → Type 0} {r : Res St} → ((s : St) (b : Bool) → Q s b → Q' s b) → Gives Q r → Gives Q' r
gives_map f (gives h) = gives (f _ _ h)
gives_map f refuses = refuses

-- What is asked of a store of n ids: as Lawful of crates/spec_c_dumper/specs/rules/Order, with a list that has no end; and what its steps
-- leave alone.
pub record Steady {St : Type 0} (K : Store St) (n : ℕ) (Good : St → Type 0) (Fr : St → St → Type 0) : Type 0 where
  pub mark_good : (m : Mark) (x : ℕ) (s : St) → Good s → x < n → Good (K.mark m x s)
  pub mark_same : (m : Mark) (x : ℕ) (s : St) → Good s → x < n → K.get (K.mark m x s) x ≡ m
  pub mark_other : (m : Mark) (x : ℕ) (s : St) → Good s → x < n → (d : ℕ) → d ≢ x → K.get (K.mark m x s) d ≡ K.get s d
  pub mark_list : (m : Mark) (x : ℕ) (s : St) → Good s → x < n → K.list (K.mark m x s) ≡ K.list s
  pub push_good : (x : ℕ) (s : St) → Good s → x < n → Good (K.push x s)
  pub push_get : (x : ℕ) (s : St) → Good s → x < n → (d : ℕ) → K.get (K.push x s) d ≡ K.get s d
  pub push_list : (x : ℕ) (s : St) → Good s → x < n → K.list (K.push x s) ≡ K.list s ++ (x ∷ [])
  pub fr_same : (s : St) → Fr s s
  pub fr_then : (a b c : St) → Fr a b → Fr b c → Fr a c
  pub fr_mark : (m : Mark) (x : ℕ) (s : St) → Good s → x < n → Fr s (K.mark m x s)
  pub fr_push : (x : ℕ) (s : St) → Good s → x < n → Fr s (K.push x s)

module _ (T : Table) where
  -- what a declaration of x can come to is in order: the named enums and FWDs are in the list
  pub record Met (l : List ℕ) (x : ℕ) : Type 0 where
    pub leaves : (z : ℕ) → Reach T x z → Leaf T z → Memᴰ z l
    pub ends : Ends T x

  -- an id that may stand after this list
  pub record Due (l : List ℕ) (x : ℕ) : Type 0 where
    pub able : is_def (T.node x) ≡ true
    pub below : x < T.count
    pub name : is_comp (T.node x) ≡ true → T.named x ≡ true
    pub inner : (m : ℕ) → Memᴰ m (kids (T.node x)) → Met l m

  pub data Sorted : List ℕ → Type 0 where
    none : Sorted []
    snoc : {l : List ℕ} {x : ℕ} → Sorted l → Due l x → Sorted (l ++ (x ∷ []))

  pub met_more : (l l' : List ℕ) (x : ℕ) → ((z : ℕ) → Memᴰ z l → Memᴰ z l') → Met l x → Met l' x
  met_more l l' x f h = record { leaves = λ z r k. f z (h.leaves z r k); ends = h.ends }

  met_stop : (l : List ℕ) (x : ℕ) → stops T x ≡ true → is_leaf (T.node x) ≡ false → Met l x
  met_stop l x s nl = record {
    leaves = λ z r k. absurd (true≢false (sym k.0 ∙ ap (λ (y : ℕ). is_leaf (T.node y)) (sym (reach_stop T x z s r)) ∙ nl));
    ends = Acc.intro x (λ z d. absurd (true≢false (sym s ∙ d.0)));
  }

  met_past : (l : List ℕ) (x : ℕ) (nd : Node) → T.node x ≡ nd → is_leaf nd ≡ false → ((y : ℕ) → Memᴰ y (kids nd) → Met l y) → Met l x
  met_past l x nd e nl h = record {
    leaves = λ z r k. go z k (reach_past T x z nd e r);
    ends = Acc.intro x (λ z d. (h z (subst (λ (k : Node). Memᴰ z (kids k)) e d.1)).ends);
  }
    where
      go : (z : ℕ) → Leaf T z → (x ≡ z) ⊎ ((y : ℕ) × Memᴰ y (kids nd) × Reach T y z) → Memᴰ z l
      go z k (inl q) = absurd (true≢false (sym k.0 ∙ ap (λ (y : ℕ). is_leaf (T.node y)) (sym q) ∙ ap is_leaf e ∙ nl))
      go z k (inr q) = (h q.0 q.1).leaves z q.2 k

  met_leaf : (l : List ℕ) (x : ℕ) (f : Bool) → T.node x ≡ listed f → (T.named x ≡ true → Memᴰ x l) → Met l x
  met_leaf l x f e h = record {
    leaves = λ z r k. go z k (reach_past T x z (listed f) e r);
    ends = Acc.intro x (λ z d. absurd (Memᴰ.not-nil (subst (λ (k : Node). Memᴰ z (kids k)) e d.1)));
  }
    where
      go : (z : ℕ) → Leaf T z → (x ≡ z) ⊎ ((y : ℕ) × Memᴰ y [] × Reach T y z) → Memᴰ z l
      go z k (inl q) = subst (λ (y : ℕ). Memᴰ y l) q (h (ap T.named q ∙ k.1))
      go z k (inr q) = absurd (Memᴰ.not-nil q.1)

module _ {St : Type 0} (K : Store St) (T : Table) (Good : St → Type 0) (Fr : St → St → Type 0) (law : Steady K T.count Good Fr)
    (below : (x y : ℕ) → Memᴰ y (kids (T.node x)) → y < T.count) (pre : List ℕ) where
  -- the whole list, of this request and of those before it
  abbrev whole : St → List ℕ
  whole s = pre ++ K.list s

  pub record Inv (s : St) : Type 0 where
    pub fine : Good s
    pub closed : (x : ℕ) → K.get s x ≡ done → Met T (whole s) x
    pub sorted : Sorted T (whole s)

  -- s grew to s'
  pub record Grown (s s' : St) : Type 0 where
    pub inv : Inv s'
    pub more : (z : ℕ) → Memᴰ z (whole s) → Memᴰ z (whole s')
    pub frame : Fr s s'

  pub record Post (s : St) (x : ℕ) (s' : St) (b : Bool) : Type 0 where
    pub grown : Grown s s'
    pub met : Met T (whole s') x

  record EachPost (s : St) (ys : List ℕ) (s' : St) (b : Bool) : Type 0 where
    grown : Grown s s'
    mets : (y : ℕ) → Memᴰ y ys → Met T (whole s') y

  same : (s : St) → Inv s → Grown s s
  same s i = record { inv = i; more = λ z m. m; frame = law.fr_same s }

  then : (a b c : St) → Grown a b → Grown b c → Grown a c
  then a b c p q = record { inv = q.inv; more = λ z m. q.more z (p.more z m); frame = law.fr_then a b c p.frame q.frame }

  busy_done : busy ≡ done → ⊥
  busy_done e = clash busy refl e

  marked_busy : (x : ℕ) (s : St) → Inv s → x < T.count → Grown s (K.mark busy x s)
  marked_busy x s i l = record {
    inv = record {
      fine = law.mark_good busy x s i.fine l;
      closed = λ y e. subst (λ (k : List ℕ). Met T k y) (sym whole_same) (i.closed y (go y e (ℕ_discrete y x)));
      sorted = subst (Sorted T) (sym whole_same) i.sorted;
    };
    more = λ z m. subst (Memᴰ z) (sym whole_same) m;
    frame = law.fr_mark busy x s i.fine l;
  }
    where
      whole_same : whole (K.mark busy x s) ≡ whole s
      whole_same = ap (λ (k : List ℕ). pre ++ k) (law.mark_list busy x s i.fine l)

      go : (y : ℕ) → K.get (K.mark busy x s) y ≡ done → Dec (y ≡ x) → K.get s y ≡ done
      go y e (yes q) = absurd (busy_done (sym (law.mark_same busy x s i.fine l) ∙ ap (K.get (K.mark busy x s)) (sym q) ∙ e))
      go y e (no q) = sym (law.mark_other busy x s i.fine l y q) ∙ e

  -- x done, and listed
  module _ (x : ℕ) (s : St) (i : Inv s) (l : x < T.count) where
    g₁ : Good (K.push x s)
    g₁ = law.push_good x s i.fine l

    listed_whole : whole (K.mark done x (K.push x s)) ≡ whole s ++ (x ∷ [])
    listed_whole = ap (λ (k : List ℕ). pre ++ k) (law.mark_list done x (K.push x s) g₁ l ∙ law.push_list x s i.fine l) ∙ sym (append_assoc pre (K.list s) (x ∷ []))

    listed_more : (z : ℕ) → Memᴰ z (whole s) → Memᴰ z (whole (K.mark done x (K.push x s)))
    listed_more z m = subst (Memᴰ z) (sym listed_whole) (Memᴰ.append_left (x ∷ []) m)

    listed_self : Memᴰ x (whole (K.mark done x (K.push x s)))
    listed_self = subst (Memᴰ x) (sym listed_whole) (Memᴰ.append_right (whole s) (Memᴰ.head refl))

    listed_grown : Due T (whole s) x → Met T (whole (K.mark done x (K.push x s))) x → Grown s (K.mark done x (K.push x s))
    listed_grown d m = record {
      inv = record {
        fine = law.mark_good done x (K.push x s) g₁ l;
        closed = λ y e. go y e (ℕ_discrete y x);
        sorted = subst (Sorted T) (sym listed_whole) (snoc i.sorted d);
      };
      more = listed_more;
      frame = law.fr_then s (K.push x s) (K.mark done x (K.push x s)) (law.fr_push x s i.fine l) (law.fr_mark done x (K.push x s) g₁ l);
    }
      where
        go : (y : ℕ) → K.get (K.mark done x (K.push x s)) y ≡ done → Dec (y ≡ x) → Met T (whole (K.mark done x (K.push x s))) y
        go y e (yes q) = subst (λ (k : ℕ). Met T (whole (K.mark done x (K.push x s))) k) (sym q) m
        go y e (no q) = met_more T (whole s) (whole (K.mark done x (K.push x s))) y listed_more (i.closed y (sym (law.push_get x s i.fine l y) ∙ sym (law.mark_other done x (K.push x s) g₁ l y q) ∙ e))

    -- x done, and not listed
    done_whole : whole (K.mark done x s) ≡ whole s
    done_whole = ap (λ (k : List ℕ). pre ++ k) (law.mark_list done x s i.fine l)

    done_grown : Met T (whole s) x → Grown s (K.mark done x s)
    done_grown m = record {
      inv = record {
        fine = law.mark_good done x s i.fine l;
        closed = λ y e. subst (λ (k : List ℕ). Met T k y) (sym done_whole) (go y e (ℕ_discrete y x));
        sorted = subst (Sorted T) (sym done_whole) i.sorted;
      };
      more = λ z k. subst (Memᴰ z) (sym done_whole) k;
      frame = law.fr_mark done x s i.fine l;
    }
      where
        go : (y : ℕ) → K.get (K.mark done x s) y ≡ done → Dec (y ≡ x) → Met T (whole s) y
        go y e (yes q) = subst (Met T (whole s)) (sym q) m
        go y e (no q) = i.closed y (sym (law.mark_other done x s i.fine l y q) ∙ e)

    -- x, met already, is finished, and listed if p says so
    finish_ok : (p : Bool) → (p ≡ true → Due T (whole s) x) → Met T (whole s) x → Grown s (finish K p x s) × Met T (whole (finish K p x s)) x
    unfolding push_if
    finish_ok true d m = let k = met_more T (whole s) (whole (K.mark done x (K.push x s))) x listed_more m in (listed_grown (d refl) k, k)
    finish_ok false d m = (done_grown m, subst (λ (k : List ℕ). Met T k x) (sym done_whole) m)

    -- an enum or a FWD
    leaf_ok : (f : Bool) → T.node x ≡ listed f → (p : Bool) → T.named x ≡ p → Grown s (finish K p x s) × Met T (whole (finish K p x s)) x
    unfolding push_if
    leaf_ok f e true n = let k = met_leaf T (whole (K.mark done x (K.push x s))) x f e (λ q. listed_self) in (listed_grown (due) k, k)
      where
        due : Due T (whole s) x
        due = record {
          able = ap is_def e;
          below = l;
          name = λ c. absurd (true≢false (sym c ∙ ap is_comp e));
          inner = λ m k. absurd (Memᴰ.not-nil (subst (λ (nd : Node). Memᴰ m (kids nd)) e k));
        }
    leaf_ok f e false n = let k = met_leaf T (whole s) x f e (λ q. absurd (true≢false (sym q ∙ n))) in (done_grown k, subst (λ (j : List ℕ). Met T j x) (sym done_whole) k)

  abbrev Keeps : (St → ℕ → Bool → Res St) → Type 0
  Keeps rec = (s : St) (x : ℕ) (weak : Bool) → Inv s → x < T.count → Gives (Post s x) (rec s x weak)

  module _ (rec : St → ℕ → Bool → Res St) (keeps : Keeps rec) where
    each_ok : (ys : List ℕ) (s : St) (b weak : Bool) → Inv s → ((y : ℕ) → Memᴰ y ys → y < T.count) → Gives (EachPost s ys) (each (λ s' y. rec s' y weak) ys s b)
    unfolding each
    each_ok [] s b weak i l = gives (record { grown = same s i; mets = λ y m. absurd (Memᴰ.not-nil m) })
    each_ok (y ∷ ys) s b weak i l =
        gives_bind (keeps s y weak i (l y (Memᴰ.head refl))) (λ s' b' p.
        gives_map (join s' p) (each_ok ys s' (b || b') weak p.grown.inv (λ z m. l z (Memᴰ.tail m))))
      where
        join : (s' : St) {b' : Bool} → Post s y s' b' → (s'' : St) (b'' : Bool) → EachPost s' ys s'' b'' → EachPost s (y ∷ ys) s'' b''
        join s' p s'' b'' q = record { grown = then s s' s'' p.grown q.grown; mets = λ z m. pick z (Memᴰ.cases_cons m) }
          where
            pick : (z : ℕ) → (z ≡ y) ⊎ Memᴰ z ys → Met T (whole s'') z
            pick z (inl e) = subst (Met T (whole s'')) (sym e) (met_more T (whole s') (whole s'') y q.grown.more p.met)
            pick z (inr m) = q.mets z m

    module _ (s : St) (x : ℕ) (weak : Bool) (i : Inv s) (l : x < T.count) where
      down : (nd : Node) (y : ℕ) → T.node x ≡ nd → Memᴰ y (kids nd) → y < T.count
      down nd y e m = below x y (subst (λ (k : Node). Memᴰ y (kids k)) (sym e) m)

      -- a named composite, passed over
      skipped : is_comp (T.node x) ≡ true → (weak && T.named x) ≡ true → (b : Bool) → Post s x s b
      skipped c e b = record { grown = same s i; met = met_stop T (whole s) x (ap (λ (k : Bool). k && T.named x) c ∙ (and_parts weak (T.named x) e).1) (no_leaf (T.node x) c) }
        where
          no_leaf : (nd : Node) → is_comp nd ≡ true → is_leaf nd ≡ false
          no_leaf ignored q = refl
          no_leaf plain q = refl
          no_leaf (listed f) q = absurd (true≢false (sym q))
          no_leaf (through a t) q = refl
          no_leaf (ptr t) q = refl
          no_leaf (tdef t) q = refl
          no_leaf (proto ts) q = refl
          no_leaf (comp ts) q = refl

      finished : (nd : Node) → T.node x ≡ nd → is_leaf nd ≡ false → (s' : St) (p b : Bool) → Grown s s'
          → (p ≡ true → is_def nd ≡ true) → (p ≡ true → is_comp nd ≡ true → T.named x ≡ true) → ((y : ℕ) → Memᴰ y (kids nd) → Met T (whole s') y) → Post s x (finish K p x s') b
      finished nd e nl s' p b g df nm h = record { grown = then s s' (finish K p x s') g r.0; met = r.1 }
        where
          r : Grown s' (finish K p x s') × Met T (whole (finish K p x s')) x
          r = finish_ok x s' g.inv l p
              (λ q. record { able = ap is_def e ∙ df q; below = l; name = λ c. nm q (ap is_comp (sym e) ∙ c); inner = λ m k. h m (subst (λ (j : Node). Memᴰ m (kids j)) e k) })
              (met_past T (whole s') x nd e nl h)

      enter_ok : (ms : List ℕ) → T.node x ≡ comp ms → (b : Bool) → (weak && T.named x) ≡ b → Gives (Post s x) (enter K b (λ s' y. rec s' y false) s x (T.named x) ms)
      unfolding enter
      enter_ok ms e true h = gives (skipped (ap is_comp e) h false)
      enter_ok ms e false h =
          let g = marked_busy x s i l in
          gives_bind (each_ok ms (K.mark busy x s) false false g.inv (λ y m. down (comp ms) y e m)) (λ s' b q.
          gives (finished (comp ms) e refl s' (T.named x) true (then s (K.mark busy x s) s' g q.grown) (λ u. refl) (λ u c. u) q.mets))

      alias_ok : (t : ℕ) → T.node x ≡ tdef t → (s' : St) (b : Bool) → Post s t s' b → (a w : Bool) → Gives (Post s x) (alias K a w s' x)
      unfolding alias
      alias_ok t e s' b p true w = gives (finished (tdef t) e refl s' (not w) true p.grown (λ u. refl) (λ u c. absurd (true≢false (sym c))) (only (Met T (whole s')) t p.met))
      alias_ok t e s' b p false w = gives (record { grown = p.grown; met = met_past T (whole s') x (tdef t) e refl (only (Met T (whole s')) t p.met) })

      fresh_ok : (nd : Node) → T.node x ≡ nd → Gives (Post s x) (fresh K T rec s x weak nd)
      unfolding fresh
      fresh_ok ignored e = gives (record { grown = same s i; met = met_past T (whole s) x ignored e refl (λ y m. absurd (Memᴰ.not-nil m)) })
      fresh_ok plain e = gives (finished plain e refl s false false (same s i) (λ q. absurd (true≢false (sym q))) (λ q. absurd (true≢false (sym q))) (λ y m. absurd (Memᴰ.not-nil m)))
      fresh_ok (listed f) e = let r = leaf_ok x s i l f e (T.named x) refl in gives (record { grown = r.0; met = r.1 })
      fresh_ok (through a t) e = gives_map (λ s' b p. record { grown = p.grown; met = met_past T (whole s') x (through a t) e refl (only (Met T (whole s')) t p.met) }) (keeps s t (not (a && T.strong_arrays) && weak) i (down (through a t) t e (Memᴰ.head refl)))
      fresh_ok (ptr t) e =
          gives_bind (keeps s t true i (down (ptr t) t e (Memᴰ.head refl))) (λ s' b p.
          gives (finished (ptr t) e refl s' false b p.grown (λ q. absurd (true≢false (sym q))) (λ q. absurd (true≢false (sym q))) (only (Met T (whole s')) t p.met)))
      fresh_ok (tdef t) e = gives_bind (keeps s t weak i (down (tdef t) t e (Memᴰ.head refl))) (λ s' b p. alias_ok t e s' b p (not weak || b) (is_done (K.get s' x)))
      fresh_ok (proto ts) e = gives_map (λ s' b p. record { grown = p.grown; met = met_past T (whole s') x (proto ts) e refl p.mets }) (each_ok ts s false weak i (λ y m. down (proto ts) y e m))
      fresh_ok (comp ms) e = enter_ok ms e (weak && T.named x) refl

      meet_ok : (c a : Bool) → is_comp (T.node x) ≡ c → (weak && T.named x) ≡ a → Gives (Post s x) (meet (c && a) s)
      unfolding meet
      meet_ok true true c e = gives (skipped c e false)
      meet_ok true false c e = refuses
      meet_ok false a c e = refuses

      visit_ok : (m : Mark) → K.get s x ≡ m → Gives (Post s x) (visit K T rec s x weak m)
      unfolding visit
      visit_ok new e = fresh_ok (T.node x) refl
      visit_ok busy e = meet_ok (is_comp (T.node x)) (weak && T.named x) refl refl
      visit_ok done e = gives (record { grown = same s i; met = i.closed x e })

  pub order_ok : (n : ℕ) → Keeps (order K n T)
  unfolding order
  order_ok zero s x weak i l = refuses
  order_ok (suc n) s x weak i l = visit_ok (λ s' y w. order K n T s' y w) (λ s' y w. order_ok n s' y w) s x weak i l (K.get s x) refl
