-- Ordering, emission and single requests go alike over two tables whose ids stand for each other, on two machines whose steps go alike.
-- Assumes nothing.
use Prim.Native.Nat.{ℕ, zero, suc}
use mathlib.Core.Path.{◌≡◌, refl, sym, ◌∙◌, ap, ap₂, subst}
use mathlib.Core.Bool.{Bool, true, false, not, ◌&&◌, ◌||◌, true≢false}
use mathlib.Core.List.{List, [], ◌∷◌, ◌++◌}
use lib.Dec.{ltb, eqb, eqb-suc-zero}
use borrow.Author.Tests.{lt-ltb}
use Rattle.spec_c_dumper.specs.rules.Types.{BtfType, Btf, Member, Param, name_of, node_of, is_empty, table_of, member_types, param_types}
use Rattle.spec_c_dumper.specs.rules.Order.{Node, ignored, plain, listed, through, ptr, tdef, proto, comp, Table, is_comp, Mark, new, busy, done, is_done, Store, Res, ok, refused, bind, each, meet, push_if, finish, enter, alias, fresh, visit, order}
use Rattle.spec_c_dumper.specs.rules.Machine.{Out, wrote, stuck, Machine, is_zero, pick, obind, eeach, once, mention, again, close, leaf, within, begin, allowed, look, emit, Sess, Answer, shut, emitted, ordered, gate, single}
use Rattle.spec_cut.specs.section.Stands.{with_types, Each, none, more, SameMembers, no_members, member, SameParams, no_params, param, SameType, void, int, ptr as t_ptr, array, composite, enum, enum64, fwd, typedef, qualified, func, var, datasec, proto as t_proto, float, decl_tag, type_tag, Followed, Stands}
use Rattle.spec_cut.proofs.section.Sizes.{same_eqb, same_zero}

-- what two orderings come to
pub data BothRes {S S' : Type 0} (Q : S → S' → Type 0) : Res S → Res S' → Type 0 where
  both : (s : S) (s' : S') (b : Bool) → Q s s' → BothRes Q (ok s b) (ok s' b)
  neither : (e : ℕ) → BothRes Q (refused e) (refused e)

both_bind : {S S' : Type 0} {Q : S → S' → Type 0} {r : Res S} {r' : Res S'} (k : S → Bool → Res S) (k' : S' → Bool → Res S')
    → BothRes Q r r' → ((s : S) (s' : S') (b : Bool) → Q s s' → BothRes Q (k s b) (k' s' b)) → BothRes Q (bind r k) (bind r' k')
unfolding bind
both_bind k k' (both s s' b q) f = f s s' b q
both_bind k k' (neither e) f = neither e

-- what two lines, or two emissions, come to
pub data BothOut {M H M' H' : Type 0} (Q : M → M' → Type 0) : Out M H → Out M' H' → Type 0 where
  both_wrote : (s : M) (s' : M') → Q s s' → BothOut Q (wrote s) (wrote s')
  both_stuck : {h : H} {h' : H'} (e : ℕ) → BothOut Q (stuck h e) (stuck h' e)

out_bind : {M H M' H' : Type 0} {Q : M → M' → Type 0} {r : Out M H} {r' : Out M' H'} (k : M → Out M H) (k' : M' → Out M' H') → BothOut Q r r' → ((s : M) (s' : M') → Q s s' → BothOut Q (k s) (k' s')) → BothOut Q (obind r k) (obind r' k')
unfolding obind
out_bind k k' (both_wrote s s' q) f = f s s' q
out_bind k k' (both_stuck e) f = both_stuck e

-- Steps of two machines that go alike.
pub record SameSteps {M H M' H' : Type 0} (X : Machine M H) (X' : Machine M' H') (I : ℕ → ℕ → Type 0) (Q : M → M' → Type 0) : Type 0 where
  pub s_get : (s : M) (s' : M') → Q s s' → (x x' : ℕ) → I x x' → X.store.get s x ≡ X'.store.get s' x'
  pub s_mark : (m : Mark) (x x' : ℕ) (s : M) (s' : M') → Q s s' → I x x' → Q (X.store.mark m x s) (X'.store.mark m x' s')
  pub s_push : (x x' : ℕ) (s : M) (s' : M') → Q s s' → I x x' → Q (X.store.push x s) (X'.store.push x' s')
  pub s_list : (s : M) (s' : M') → Q s s' → Each I (X.store.list s) (X'.store.list s')
  pub s_start : (room : ℕ) (s : M) (s' : M') → Q s s' → Q (X.start room s) (X'.start room s')
  pub s_eget : (s : M) (s' : M') → Q s s' → (x x' : ℕ) → I x x' → X.eget s x ≡ X'.eget s' x'
  pub s_emark : (m : Mark) (x x' : ℕ) (s : M) (s' : M') → Q s s' → I x x' → Q (X.emark m x s) (X'.emark m x' s')
  pub s_has : (s : M) (s' : M') → Q s s' → (x x' : ℕ) → I x x' → X.has_fwd s x ≡ X'.has_fwd s' x'
  pub s_forwarded : (x x' : ℕ) (s : M) (s' : M') → Q s s' → I x x' → Q (X.forwarded x s) (X'.forwarded x' s')
  pub s_fwd : (s : M) (s' : M') → Q s s' → (x x' : ℕ) → I x x' → BothOut Q (X.fwd_line s x) (X'.fwd_line s' x')
  pub s_alias : (s : M) (s' : M') → Q s s' → (x x' : ℕ) → I x x' → BothOut Q (X.alias_line s x) (X'.alias_line s' x')
  pub s_leaf : (s : M) (s' : M') → Q s s' → (x x' : ℕ) → I x x' → BothOut Q (X.leaf_line s x) (X'.leaf_line s' x')
  pub s_body : (s : M) (s' : M') → Q s s' → (x x' : ℕ) → I x x' → BothOut Q (X.body s x) (X'.body s' x')
  pub s_leaving : (h : H) (h' : H') (s : M) (s' : M') → Q s s' → Q (X.leaving h s) (X'.leaving h' s')

-- two sessions, and two answers
pub record BothSess {M M' : Type 0} (Q : M → M' → Type 0) (I : ℕ → ℕ → Type 0) (S : Sess M) (S' : Sess M') : Type 0 where
  pub same_open : S.is_open ≡ S'.is_open
  pub same_asked : Each I S.asked S'.asked
  pub alike : Q S.mach S'.mach

pub record BothAnswer {M M' : Type 0} (Q : M → M' → Type 0) (I : ℕ → ℕ → Type 0) (a : Answer M) (a' : Answer M') : Type 0 where
  pub same_number : a.number ≡ a'.number
  pub sessions : BothSess Q I a.sess a'.sess

pub each_append : {I : ℕ → ℕ → Type 0} {xs xs' : List ℕ} → Each I xs xs' → (y y' : ℕ) → I y y' → Each I (xs ++ (y ∷ [])) (xs' ++ (y' ∷ []))
each_append none y y' i = more i none
each_append (more j r) y y' i = more j (each_append r y y' i)

-- what ordering and emission see of a type
pub data SameNode (I : ℕ → ℕ → Type 0) : Node → Node → Type 0 where
  n_ignored : SameNode I ignored ignored
  n_plain : SameNode I plain plain
  n_listed : (f : Bool) → SameNode I (listed f) (listed f)
  n_through : (a : Bool) (t t' : ℕ) → I t t' → SameNode I (through a t) (through a t')
  n_ptr : (t t' : ℕ) → I t t' → SameNode I (ptr t) (ptr t')
  n_tdef : (t t' : ℕ) → I t t' → SameNode I (tdef t) (tdef t')
  n_proto : (ts ts' : List ℕ) → Each I ts ts' → SameNode I (proto ts) (proto ts')
  n_comp : (ts ts' : List ℕ) → Each I ts ts' → SameNode I (comp ts) (comp ts')

is_zero_lem : (c : ℕ) → is_zero c ≡ eqb c 0
is_zero_lem zero = refl
is_zero_lem (suc c) = sym (eqb-suc-zero c)

is_comp_same : {I : ℕ → ℕ → Type 0} {a b : Node} → SameNode I a b → is_comp a ≡ is_comp b
is_comp_same n_ignored = refl
is_comp_same n_plain = refl
is_comp_same (n_listed f) = refl
is_comp_same (n_through a t t' i) = refl
is_comp_same (n_ptr t t' i) = refl
is_comp_same (n_tdef t t' i) = refl
is_comp_same (n_proto ts ts' is) = refl
is_comp_same (n_comp ts ts' is) = refl

module _ (B : Btf) (n : ℕ) (types : ℕ → BtfType) (tags : ℕ → List ℕ) (I : ℕ → ℕ → Type 0) (st : Stands B n types tags I) where
  abbrev J : ℕ → ℕ → Type 0
  J = Followed B I

  abbrev T : Table
  T = table_of B

  abbrev T' : Table
  T' = table_of (with_types B n types tags)

  members_each : {ms ms' : List Member} → SameMembers J ms ms' → Each I (member_types ms) (member_types ms')
  members_each no_members = none
  members_each (member m t t' o z j js) = more j.0 (members_each js)

  params_each : {ps ps' : List Param} → SameParams J ps ps' → Each I (param_types ps) (param_types ps')
  params_each no_params = none
  params_each (param m t t' j js) = more j.0 (params_each js)

  node_of_lem : {t t' : BtfType} → SameType J t t' → SameNode I (node_of t) (node_of t')
  node_of_lem void = n_plain
  node_of_lem (int m b) = n_plain
  node_of_lem (t_ptr t t' j) = n_ptr t t' j.0
  node_of_lem (array t t' k j) = n_through true t t' j.0
  node_of_lem (composite s m z ms ms' js) = n_comp _ _ (members_each js)
  node_of_lem (enum s m z vs) = n_listed false
  node_of_lem (enum64 s m z vs) = n_listed false
  node_of_lem (fwd u m) = n_listed true
  node_of_lem (typedef m t t' j) = n_tdef t t' j.0
  node_of_lem (qualified q t t' j) = n_through false t t' j.0
  node_of_lem (func m) = n_ignored
  node_of_lem (var m) = n_ignored
  node_of_lem (datasec m) = n_ignored
  node_of_lem (t_proto r r' ps ps' j js) = n_proto _ _ (more j.0 (params_each js))
  node_of_lem (float m z) = n_plain
  node_of_lem (decl_tag a m t t' k) = n_ignored
  node_of_lem (type_tag a m t t' j) = n_through false t t' j.0

  name_of_lem : {t t' : BtfType} → SameType J t t' → name_of t ≡ name_of t'
  name_of_lem void = refl
  name_of_lem (int m b) = refl
  name_of_lem (t_ptr t t' j) = refl
  name_of_lem (array t t' k j) = refl
  name_of_lem (composite s m z ms ms' js) = refl
  name_of_lem (enum s m z vs) = refl
  name_of_lem (enum64 s m z vs) = refl
  name_of_lem (fwd u m) = refl
  name_of_lem (typedef m t t' j) = refl
  name_of_lem (qualified q t t' j) = refl
  name_of_lem (func m) = refl
  name_of_lem (var m) = refl
  name_of_lem (datasec m) = refl
  name_of_lem (t_proto r r' ps ps' j js) = refl
  name_of_lem (float m z) = refl
  name_of_lem (decl_tag a m t t' k) = refl
  name_of_lem (type_tag a m t t' j) = refl

  pub node_same : (x x' : ℕ) → I x x' → SameNode I (T.node x) (T'.node x')
  node_same x x' i = node_of_lem (st.same_type x x' i)

  pub named_same : (x x' : ℕ) → I x x' → T.named x ≡ T'.named x'
  named_same x x' i = ap (λ (m : List ℕ). not (is_empty m)) (name_of_lem (st.same_type x x' i))

  module _ {M H M' H' : Type 0} (X : Machine M H) (X' : Machine M' H') (Q : M → M' → Type 0) (al : SameSteps X X' I Q) where
    abbrev K : Store M
    K = X.store

    abbrev K' : Store M'
    K' = X'.store

    -- ---- ordering

    finish_same : (p p' : Bool) → p ≡ p' → (x x' : ℕ) (s : M) (s' : M') → Q s s' → I x x' → Q (finish K p x s) (finish K' p' x' s')
    unfolding push_if
    finish_same true true e x x' s s' q i = al.s_mark done x x' _ _ (al.s_push x x' s s' q i) i
    finish_same false false e x x' s s' q i = al.s_mark done x x' s s' q i
    finish_same true false e x x' s s' q i = absurd (true≢false e)
    finish_same false true e x x' s s' q i = absurd (true≢false (sym e))

    each_same : (f : M → ℕ → Res M) (f' : M' → ℕ → Res M') → ((s : M) (s' : M') (y y' : ℕ) → Q s s' → I y y' → BothRes Q (f s y) (f' s' y'))
        → {ys ys' : List ℕ} → Each I ys ys' → (s : M) (s' : M') (b : Bool) → Q s s' → BothRes Q (each f ys s b) (each f' ys' s' b)
    unfolding each
    each_same f f' h none s s' b q = both s s' b q
    each_same f f' h (more {x} {x'} {xs} {xs'} i is) s s' b q =
        both_bind (λ t c. each f xs t (b || c)) (λ t c. each f' xs' t (b || c)) (h s s' x x' q i) (λ t t' c q'. each_same f f' h is t t' (b || c) q')

    alias_same : (c : Bool) (w w' : Bool) → w ≡ w' → (x x' : ℕ) (s : M) (s' : M') → Q s s' → I x x' → BothRes Q (alias K c w s x) (alias K' c w' s' x')
    unfolding alias
    alias_same true w w' e x x' s s' q i = both _ _ true (finish_same (not w) (not w') (ap not e) x x' s s' q i)
    alias_same false w w' e x x' s s' q i = both s s' false q

    module _ (rec : M → ℕ → Bool → Res M) (rec' : M' → ℕ → Bool → Res M') (keeps : (s : M) (s' : M') (y y' : ℕ) (w : Bool) → Q s s' → I y y' → BothRes Q (rec s y w) (rec' s' y' w))
        (s : M) (s' : M') (x x' : ℕ) (weak : Bool) (q : Q s s') (i : I x x') where
      enter_same : (b b' : Bool) → b ≡ b' → {ms ms' : List ℕ} → Each I ms ms' → BothRes Q (enter K b (λ t y. rec t y false) s x (T.named x) ms) (enter K' b' (λ t y. rec' t y false) s' x' (T'.named x') ms')
      unfolding enter
      enter_same true true e is = both s s' false q
      enter_same false false e is =
          both_bind (λ t b. ok (finish K (T.named x) x t) true) (λ t b. ok (finish K' (T'.named x') x' t) true)
          (each_same (λ t y. rec t y false) (λ t y. rec' t y false) (λ t t' y y' q' j. keeps t t' y y' false q' j) is (K.mark busy x s) (K'.mark busy x' s') false (al.s_mark busy x x' s s' q i))
          (λ t t' b q'. both _ _ true (finish_same (T.named x) (T'.named x') (named_same x x' i) x x' t t' q' i))
      enter_same true false e is = absurd (true≢false e)
      enter_same false true e is = absurd (true≢false (sym e))

      fresh_same : {a b : Node} → SameNode I a b → BothRes Q (fresh K T rec s x weak a) (fresh K' T' rec' s' x' weak b)
      unfolding fresh
      fresh_same n_ignored = both s s' false q
      fresh_same n_plain = both _ _ false (finish_same false false refl x x' s s' q i)
      fresh_same (n_listed f) = both _ _ true (finish_same (T.named x) (T'.named x') (named_same x x' i) x x' s s' q i)
      fresh_same (n_through a t t' j) = keeps s s' t t' (not (a && B.strong_arrays) && weak) q j
      fresh_same (n_ptr t t' j) =
          both_bind (λ r b. ok (finish K false x r) b) (λ r b. ok (finish K' false x' r) b) (keeps s s' t t' true q j) (λ r r' b q'. both _ _ b (finish_same false false refl x x' r r' q' i))
      fresh_same (n_tdef t t' j) =
          both_bind (λ r b. alias K (not weak || b) (is_done (K.get r x)) r x) (λ r b. alias K' (not weak || b) (is_done (K'.get r x')) r x') (keeps s s' t t' weak q j)
          (λ r r' b q'. alias_same (not weak || b) _ _ (ap is_done (al.s_get r r' q' x x' i)) x x' r r' q' i)
      fresh_same (n_proto ts ts' is) = each_same (λ r y. rec r y weak) (λ r y. rec' r y weak) (λ r r' y y' q' j. keeps r r' y y' weak q' j) is s s' false q
      fresh_same (n_comp ts ts' is) = enter_same _ _ (ap (λ (b : Bool). weak && b) (named_same x x' i)) is

      meet_same : (b b' : Bool) → b ≡ b' → BothRes Q (meet b s) (meet b' s')
      unfolding meet
      meet_same true true e = both s s' false q
      meet_same false false e = neither 13
      meet_same true false e = absurd (true≢false e)
      meet_same false true e = absurd (true≢false (sym e))

      visit_same : (m : Mark) → BothRes Q (visit K T rec s x weak m) (visit K' T' rec' s' x' weak m)
      unfolding visit
      visit_same new = fresh_same (node_same x x' i)
      visit_same busy = meet_same _ _ (ap₂ (λ (a b : Bool). a && (weak && b)) (is_comp_same (node_same x x' i)) (named_same x x' i))
      visit_same done = both s s' true q

    pub order_same : (k : ℕ) (s : M) (s' : M') (x x' : ℕ) (weak : Bool) → Q s s' → I x x' → BothRes Q (order K k T s x weak) (order K' k T' s' x' weak)
    unfolding order
    order_same zero s s' x x' weak q i = neither 12
    order_same (suc k) s s' x x' weak q i =
        subst (λ (m : Mark). BothRes Q (visit K T (λ r y w. order K k T r y w) s x weak (K.get s x)) (visit K' T' (λ r y w. order K' k T' r y w) s' x' weak m)) (al.s_get s s' q x x' i)
        (visit_same (λ r y w. order K k T r y w) (λ r y w. order K' k T' r y w) (λ r r' y y' w q' j. order_same k r r' y y' w q' j) s s' x x' weak q i (K.get s x))

    -- ---- emission

    eeach_same : (f : M → ℕ → Out M H) (f' : M' → ℕ → Out M' H') → ((s : M) (s' : M') (y y' : ℕ) → Q s s' → I y y' → BothOut Q (f s y) (f' s' y'))
        → {ys ys' : List ℕ} → Each I ys ys' → (s : M) (s' : M') → Q s s' → BothOut Q (eeach f ys s) (eeach f' ys' s')
    unfolding eeach
    eeach_same f f' h none s s' q = both_wrote s s' q
    eeach_same f f' h (more {x} {x'} {xs} {xs'} i is) s s' q = out_bind (eeach f xs) (eeach f' xs') (h s s' x x' q i) (λ t t' q'. eeach_same f f' h is t t' q')

    module _ (x x' : ℕ) (i : I x x') where
      once_same : (w : M → ℕ → Out M H) (w' : M' → ℕ → Out M' H') → ((s : M) (s' : M') → Q s s' → (y y' : ℕ) → I y y' → BothOut Q (w s y) (w' s' y'))
          → (b b' : Bool) → b ≡ b' → (s : M) (s' : M') → Q s s' → BothOut Q (once X T w x b s) (once X' T' w' x' b' s')
      unfolding once
      once_same w w' h true true e s s' q = both_wrote s s' q
      once_same w w' h false false e s s' q =
          out_bind (λ t. wrote (X.forwarded x t)) (λ t. wrote (X'.forwarded x' t)) (h s s' q x x' i) (λ t t' q'. both_wrote _ _ (al.s_forwarded x x' t t' q' i))
      once_same w w' h true false e s s' q = absurd (true≢false e)
      once_same w w' h false true e s s' q = absurd (true≢false (sym e))

      mention_same : (b b' : Bool) → b ≡ b' → (c c' : Bool) → c ≡ c' → (s : M) (s' : M') → Q s s' → BothOut Q (mention X T b c x s) (mention X' T' b' c' x' s')
      unfolding mention
      mention_same true true e c c' d s s' q = both_wrote s s' q
      mention_same false false e true true d s s' q = once_same X.fwd_line X'.fwd_line al.s_fwd false false refl s s' q
      mention_same false false e false false d s s' q = both_stuck 13
      mention_same false false e true false d s s' q = absurd (true≢false d)
      mention_same false false e false true d s s' q = absurd (true≢false (sym d))
      mention_same true false e c c' d s s' q = absurd (true≢false e)
      mention_same false true e c c' d s s' q = absurd (true≢false (sym e))

      module _ (cont cont' : ℕ) (ic : I cont cont') where
        flag_same : (s : M) (s' : M') → Q s s' → (X.has_fwd s x || eqb x cont) ≡ (X'.has_fwd s' x' || eqb x' cont')
        flag_same s s' q = ap₂ (λ (a b : Bool). a || b) (al.s_has s s' q x x' i) (same_eqb B n types tags I st x x' cont cont' i ic)

        again_same : (s : M) (s' : M') → Q s s' → {a b : Node} → SameNode I a b → BothOut Q (again X T s x cont a) (again X' T' s' x' cont' b)
        unfolding again
        again_same s s' q n_ignored = both_wrote s s' q
        again_same s s' q n_plain = both_wrote s s' q
        again_same s s' q (n_listed f) = both_wrote s s' q
        again_same s s' q (n_through a t t' j) = both_wrote s s' q
        again_same s s' q (n_ptr t t' j) = both_wrote s s' q
        again_same s s' q (n_tdef t t' j) = once_same X.alias_line X'.alias_line al.s_alias _ _ (al.s_has s s' q x x' i) s s' q
        again_same s s' q (n_proto ts ts' is) = both_wrote s s' q
        again_same s s' q (n_comp ts ts' is) = mention_same _ _ (flag_same s s' q) _ _ (named_same x x' i) s s' q

      marked : (m : Mark) (s : M) (s' : M') → Q s s' → BothOut {H = H} {H' = H'} Q (wrote (X.emark m x s)) (wrote (X'.emark m x' s'))
      marked m s s' q = both_wrote _ _ (al.s_emark m x x' s s' q i)

      close_same : (top top' : Bool) → top ≡ top' → (s : M) (s' : M') → Q s s' → BothOut Q (close X T top x s) (close X' T' top' x' s')
      unfolding close
      close_same true true e s s' q = out_bind (λ t. wrote (X.emark done x t)) (λ t. wrote (X'.emark done x' t)) (al.s_body s s' q x x' i) (marked done)
      close_same false false e s s' q = marked new s s' q
      close_same true false e s s' q = absurd (true≢false e)
      close_same false true e s s' q = absurd (true≢false (sym e))

      leaf_same : (b b' : Bool) → b ≡ b' → (s : M) (s' : M') → Q s s' → BothOut Q (leaf X T b x s) (leaf X' T' b' x' s')
      unfolding leaf
      leaf_same true true e s s' q = out_bind (λ t. wrote (X.emark done x t)) (λ t. wrote (X'.emark done x' t)) (al.s_leaf s s' q x x' i) (marked done)
      leaf_same false false e s s' q = marked done s s' q
      leaf_same true false e s s' q = absurd (true≢false e)
      leaf_same false true e s s' q = absurd (true≢false (sym e))

      module _ (rec : M → ℕ → ℕ → Out M H) (rec' : M' → ℕ → ℕ → Out M' H') (keeps : (s : M) (s' : M') (y y' c c' : ℕ) → Q s s' → I y y' → I c c' → BothOut Q (rec s y c) (rec' s' y' c'))
          (s : M) (s' : M') (cont cont' : ℕ) (q : Q s s') (ic : I cont cont') where
        q_busy : Q (X.emark busy x s) (X'.emark busy x' s')
        q_busy = al.s_emark busy x x' s s' q i

        pick_same : (b b' : Bool) → b ≡ b' → I (pick b x cont) (pick b' x' cont')
        pick_same true true e = i
        pick_same false false e = ic
        pick_same true false e = absurd (true≢false e)
        pick_same false true e = absurd (true≢false (sym e))

        within_same : (b b' : Bool) → b ≡ b' → {ms ms' : List ℕ} → Each I ms ms' → BothOut Q (within X T rec s x cont b (T.named x) ms) (within X' T' rec' s' x' cont' b' (T'.named x') ms')
        unfolding within
        within_same true true e is =
            eeach_same (λ r y. rec r y (pick (T.named x) x cont)) (λ r y. rec' r y (pick (T'.named x') x' cont'))
            (λ r r' y y' q' j. keeps r r' y y' _ _ q' j (pick_same _ _ (named_same x x' i))) is (X.emark busy x s) (X'.emark busy x' s') q_busy
        within_same false false e is = once_same X.fwd_line X'.fwd_line al.s_fwd _ _ (flag_same cont cont' ic s s' q) (X.emark busy x s) (X'.emark busy x' s') q_busy
        within_same true false e is = absurd (true≢false e)
        within_same false true e is = absurd (true≢false (sym e))

        begin_same : (top top' : Bool) → top ≡ top' → {a b : Node} → SameNode I a b → BothOut Q (begin X T rec s x cont top a) (begin X' T' rec' s' x' cont' top' b)
        unfolding begin
        begin_same top top' e n_ignored = both_wrote s s' q
        begin_same top top' e n_plain = both_wrote s s' q
        begin_same top top' e (n_listed f) = leaf_same _ _ (ap (λ (b : Bool). f || b) e) s s' q
        begin_same top top' e (n_through a t t' j) = keeps s s' t t' cont cont' q j ic
        begin_same top top' e (n_ptr t t' j) = keeps s s' t t' cont cont' q j ic
        begin_same top top' e (n_tdef t t' j) =
            out_bind (λ r. obind (once X T X.alias_line x (X.has_fwd r x) r) (λ u. wrote (X.emark done x u))) (λ r. obind (once X' T' X'.alias_line x' (X'.has_fwd r x') r) (λ u. wrote (X'.emark done x' u)))
            (keeps (X.emark busy x s) (X'.emark busy x' s') t t' x x' q_busy j i)
            (λ r r' q'. out_bind (λ u. wrote (X.emark done x u)) (λ u. wrote (X'.emark done x' u))
            (once_same X.alias_line X'.alias_line al.s_alias _ _ (al.s_has r r' q' x x' i) r r' q') (marked done))
        begin_same top top' e (n_proto ts ts' is) = eeach_same (λ r y. rec r y cont) (λ r y. rec' r y cont') (λ r r' y y' q' j. keeps r r' y y' cont cont' q' j ic) is s s' q
        begin_same top top' e (n_comp ts ts' is) =
            out_bind (close X T top x) (close X' T' top' x') (within_same _ _ (ap₂ (λ (a b : Bool). a || not b) e (named_same x x' i)) is) (close_same top top' e)

        zero_same : is_zero cont ≡ is_zero cont'
        zero_same = is_zero_lem cont ∙ same_zero B n types tags I st cont cont' ic ∙ sym (is_zero_lem cont')

        allowed_same : (b b' : Bool) → b ≡ b' → BothOut Q (allowed X T rec s x cont b) (allowed X' T' rec' s' x' cont' b')
        unfolding allowed
        allowed_same true true e = both_stuck 14
        allowed_same false false e = begin_same _ _ zero_same (node_same x x' i)
        allowed_same true false e = absurd (true≢false e)
        allowed_same false true e = absurd (true≢false (sym e))

        look_same : (m : Mark) → BothOut Q (look X T rec s x cont m) (look X' T' rec' s' x' cont' m)
        unfolding look
        look_same new = allowed_same _ _ (ap₂ (λ (a b : Bool). a && not b) zero_same (named_same x x' i))
        look_same busy = again_same cont cont' ic s s' q (node_same x x' i)
        look_same done = both_wrote s s' q

    pub emit_same : (k : ℕ) (s : M) (s' : M') (x x' cont cont' : ℕ) → Q s s' → I x x' → I cont cont' → BothOut Q (emit X T k s x cont) (emit X' T' k s' x' cont')
    unfolding emit
    emit_same zero s s' x x' cont cont' q i ic = both_stuck 12
    emit_same (suc k) s s' x x' cont cont' q i ic =
        subst (λ (m : Mark). BothOut Q (look X T (λ r y c. emit X T k r y c) s x cont (X.eget s x)) (look X' T' (λ r y c. emit X' T' k r y c) s' x' cont' m)) (al.s_eget s s' q x x' i)
        (look_same x x' i (λ r y c. emit X T k r y c) (λ r y c. emit X' T' k r y c) (λ r r' y y' c c' q' j jc. emit_same k r r' y y' c c' q' j jc) s s' cont cont' q ic (X.eget s x))

    -- ---- a request

    module _ (S : Sess M) (S' : Sess M') (h : BothSess Q I S S') where
      shut_same : (m : H) (m' : H') (e : ℕ) → BothAnswer Q I (shut X T S m e) (shut X' T' S' m' e)
      unfolding shut
      shut_same m m' e = record { same_number = refl; sessions = record { same_open = refl; same_asked = h.same_asked; alike = al.s_leaving m m' S.mach S'.mach h.alike } }

      emitted_same : (x x' : ℕ) → I x x' → {r : Out M H} {r' : Out M' H'} → BothOut Q r r' → BothAnswer Q I (emitted X T S x r) (emitted X' T' S' x' r')
      unfolding emitted
      emitted_same x x' i (both_wrote s s' q) = record { same_number = refl; sessions = record { same_open = refl; same_asked = each_append h.same_asked x x' i; alike = q } }
      emitted_same x x' i (both_stuck {h = m} {h' = m'} e) = shut_same m m' e

      ordered_same : (x x' : ℕ) → I x x' → {r : Res M} {r' : Res M'} → BothRes Q r r' → BothAnswer Q I (ordered X T S x r) (ordered X' T' S' x' r')
      unfolding ordered
      ordered_same x x' i (both s s' b q) =
          emitted_same x x' i (eeach_same (λ m y. emit X T 512 m y 0) (λ m y. emit X' T' 512 m y 0) (λ r r' y y' q' j. emit_same 512 r r' y y' 0 0 q' j st.zero_kept) (al.s_list s s' q) s s' q)
      ordered_same x x' i (neither e) = shut_same (X.held S.mach) (X'.held S'.mach) e

      gate_same : (room x x' : ℕ) → I x x' → (o o' : Bool) → o ≡ o' → BothAnswer Q I (gate X T room S x o true) (gate X' T' room S' x' o' true)
      unfolding gate
      gate_same room x x' i false false e = record { same_number = refl; sessions = h }
      gate_same room x x' i true true e = ordered_same x x' i (order_same 512 _ _ x x' false (al.s_start room S.mach S'.mach h.alike) i)
      gate_same room x x' i true false e = absurd (true≢false e)
      gate_same room x x' i false true e = absurd (true≢false (sym e))

      pub single_same : (room x x' : ℕ) → I x x' → BothAnswer Q I (single X T room S x) (single X' T' room S' x')
      unfolding single
      single_same room x x' i =
          let l = st.inside x x' i in
          subst (λ (b : Bool). BothAnswer Q I (gate X T room S x S.is_open b) (gate X' T' room S' x' S'.is_open (ltb x' n))) (sym (lt-ltb x B.type_cnt l.0))
          (subst (λ (b : Bool). BothAnswer Q I (gate X T room S x S.is_open true) (gate X' T' room S' x' S'.is_open b)) (sym (lt-ltb x' n l.1))
          (gate_same room x x' i S.is_open S'.is_open h.same_open))
