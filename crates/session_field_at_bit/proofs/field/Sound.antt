-- A path that the walk finds leads to the innermost member that covers the bit, as the request has it (specs/field/PathFrom.antt), and is not
-- longer than it may be; 21 means what it says. Assumes nothing.
use Prim.Native.Nat.{ℕ, zero, suc, ◌+◌, ◌-◌, ◌*◌, ◌/◌, ◌%◌, ◌<◌, ◌≤◌}
use mathlib.Core.Path.{◌≡◌, refl, ap, ◌∙◌, sym, subst}
use mathlib.Core.Bool.{Bool, true, false, true≢false}
use mathlib.Core.List.{List, [], ◌∷◌}
use mathlib.Core.Logic.{⊎_elim}
use native.Mathlib.Omega.{arith}
use native.Mathlib.Nat.{mod-lt, div-add-mod', div-lt_iff_lt-mul, mul_assoc}
use lib.ListN.{length}
use borrow.Author.Tests.{lt-ltb, le-ltb, le-leb, lt-leb, ne_eqb}
use Rattle.std.proofs.lemmas.Bool.{cases_lt}
use Rattle.spec_c_dumper.specs.rules.Writer.{Ask, got, no, ask_then, checked}
use Rattle.spec_c_dumper.specs.rules.Types.{Name, Member, BtfType, Void, Int, Ptr, Array, Composite, Enum, Enum64, Fwd, Typedef, Mod, Func, Var, Datasec, FuncProto, Float, DeclTag, TypeTag, Btf}
use Rattle.spec_c_dumper.specs.rules.Layout.{size_of, get_size_of, end_of}
use Rattle.spec_c_dumper.proofs.rules.Asking.{no_got, checked_got}
use Rattle.spec_c_dumper.proofs.alignment_once.Right.{same_or}
use Rattle.spec_c_dumper.proofs.rules.Deeper.{size_one_more}
use Rattle.session_field_at_bit.specs.step.Path.{Shape, plain, through, array, composite, shape_of, is_composite, passed, behind, Step, stay, enter, field, covers, entered, tried, placed, step_in, full, onward, path_from, some_entry, field_path}
use Rattle.session_field_at_bit.specs.field.PathFrom.{Covers, by_size, by_field, First, here, later, Uncovered, none, next, PathFrom, passes, place, member, bit_field, ends, gap}

-- ---- answers
pub got_same : {A : Type 0} → (a b : A) → got a ≡ got b → a ≡ b
got_same a b e = cc

-- a question that was answered, and what was made of it
pub then_got : {A B P : Type 0} → (x : Ask A) (f : A → Ask B) (y : B) → ask_then x f ≡ got y → ((a : A) → x ≡ got a → f a ≡ got y → P) → P
unfolding ask_then
then_got (got a) f y e k = k a refl e
then_got (no c) f y e k = absurd (no_got c y e)

module _ (B : Btf) where
  -- ---- a further call never changes a size that was got
  more : (m n id a : ℕ) → n ≤ m → get_size_of n B id ≡ got a → get_size_of m B id ≡ got a
  more zero n id a l e = let z : n ≡ 0 = omega arith in ap (λ (x : ℕ). get_size_of x B id) (sym z) ∙ e
  more (suc m) n id a l e =
      ⊎_elim (λ h. let z : n ≡ suc m = omega arith in ap (λ (x : ℕ). get_size_of x B id) (sym z) ∙ e) (λ h. size_one_more B m id a (more m n id a h e)) (cases_lt m n)

  -- ---- a type by what the walk sees of it
  by_shape : (P : BtfType → Type 0)
      → ((T : BtfType) → shape_of T ≡ plain → P T)
      → ((T : BtfType) (t : ℕ) → shape_of T ≡ through t → ((f : ℕ → Ask ℕ) → size_of B f T ≡ f t) → P T)
      → ((t k : ℕ) → P (Array t k))
      → ((s : Bool) (n : Name) (sz : ℕ) (ms : List Member) → P (Composite s n sz ms))
      → (T : BtfType) → P T
  unfolding shape_of size_of
  by_shape P p q a c Void = p Void refl
  by_shape P p q a c (Int n bits) = p (Int n bits) refl
  by_shape P p q a c (Ptr t) = p (Ptr t) refl
  by_shape P p q a c (Array t k) = a t k
  by_shape P p q a c (Composite s n sz ms) = c s n sz ms
  by_shape P p q a c (Enum s n sz vs) = p (Enum s n sz vs) refl
  by_shape P p q a c (Enum64 s n sz vs) = p (Enum64 s n sz vs) refl
  by_shape P p q a c (Fwd u n) = p (Fwd u n) refl
  by_shape P p q a c (Typedef n t) = q (Typedef n t) t refl (λ f. refl)
  by_shape P p q a c (Mod m t) = q (Mod m t) t refl (λ f. refl)
  by_shape P p q a c (Func n) = p (Func n) refl
  by_shape P p q a c (Var n) = p (Var n) refl
  by_shape P p q a c (Datasec n) = p (Datasec n) refl
  by_shape P p q a c (FuncProto r ps) = p (FuncProto r ps) refl
  by_shape P p q a c (Float n sz) = p (Float n sz) refl
  by_shape P p q a c (DeclTag w n t k) = p (DeclTag w n t k) refl
  by_shape P p q a c (TypeTag w n t) = q (TypeTag w n t) t refl (λ f. refl)

-- ---- what stands behind typedefs, qualifiers and type tags
data Reaches (B : Btf) : ℕ → ℕ → Type 0 where
  arrived : (id : ℕ) → Reaches B id id
  goes : (id t x : ℕ) → shape_of (B.type_by_id id) ≡ through t → Reaches B t x → Reaches B id x

lift : (B : Btf) (id x bit : ℕ) (p : List ℕ) → Reaches B id x → PathFrom B x bit p → PathFrom B id bit p
lift B _ _ bit p (arrived id) l = l
lift B _ _ bit p (goes id t x e r) l = passes id t bit p e (lift B t x bit p r l)

-- a type of this shape and size, which a type reaches
record Behind (B : Btf) (id z : ℕ) (S : Shape) : Type 0 where
  type : ℕ
  reached : Reaches B id type
  size : get_size_of 512 B type ≡ got z
  shape : shape_of (B.type_by_id type) ≡ S
  stops : (t : ℕ) → S ≡ through t → ⊥

module _ (B : Btf) where
  behind_is : (n id z : ℕ) → n ≤ 512 → get_size_of n B id ≡ got z → Behind B id z (behind n B id)
  unfolding get_size_of behind passed shape_of
  behind_is zero id z l e = absurd (no_got 12 z e)
  behind_is (suc n) id z l e =
      by_shape B (λ T. B.type_by_id id ≡ T → Behind B id z (passed (behind n B) (shape_of T)))
      (λ T s q. let o : passed (behind n B) (shape_of T) ≡ plain = ap (passed (behind n B)) s in record {
        type = id;
        reached = arrived id;
        size = more B 512 (suc n) id z l e;
        shape = ap shape_of q ∙ s ∙ sym o;
        stops = λ t h. let y : plain ≡ through t = sym o ∙ h in let x : ◌≡◌ {A = ℕ} 0 1 = cc in omega arith;
      })
      (λ T t s f q.
      let o : passed (behind n B) (shape_of T) ≡ behind n B t = ap (passed (behind n B)) s in
      let e' : get_size_of n B t ≡ got z = sym (f (get_size_of n B)) ∙ sym (ap (size_of B (get_size_of n B)) q) ∙ e in
      let r : Behind B t z (behind n B t) = behind_is n t z (omega arith) e' in record {
        type = r.type;
        reached = goes id t r.type (ap shape_of q ∙ s) r.reached;
        size = r.size;
        shape = r.shape ∙ sym o;
        stops = λ u h. r.stops u (sym o ∙ h);
      })
      (λ t k q. record {
        type = id;
        reached = arrived id;
        size = more B 512 (suc n) id z l e;
        shape = ap shape_of q;
        stops = λ u h. let y : array t ≡ through u = h in let x : ◌≡◌ {A = ℕ} 0 1 = cc in omega arith;
      })
      (λ s m sz ms q. record {
        type = id;
        reached = arrived id;
        size = more B 512 (suc n) id z l e;
        shape = ap shape_of q;
        stops = λ u h. let y : composite ms ≡ through u = h in let x : ◌≡◌ {A = ℕ} 0 1 = cc in omega arith;
      })
      (B.type_by_id id)
      refl

-- ---- members
covers_true : (offset end bit : ℕ) → offset ≤ bit → bit < end → covers offset end bit ≡ true
unfolding covers
covers_true offset end bit h l = rw (le-leb offset bit h, covers, lt-ltb bit end l)

covers_low : (offset end bit : ℕ) → bit < offset → covers offset end bit ≡ false
unfolding covers
covers_low offset end bit h = rw (lt-leb offset bit h, covers)

covers_high : (offset end bit : ℕ) → offset ≤ bit → end ≤ bit → covers offset end bit ≡ false
unfolding covers
covers_high offset end bit h l = rw (le-leb offset bit h, covers, le-ltb bit end l)

covers_both : (offset end bit : ℕ) → covers offset end bit ≡ true → (offset ≤ bit) × (bit < end)
covers_both offset end bit e =
    ⊎_elim
    (λ h. absurd (true≢false (sym e ∙ covers_low offset end bit h)))
    (λ h. ⊎_elim (λ l. (h, l)) (λ l. absurd (true≢false (sym e ∙ covers_high offset end bit h l))) (cases_lt bit end))
    (cases_lt bit offset)

module _ (B : Btf) (m : Member) (end : ℕ) (e : end_of B m ≡ got end) where
  end_plain : {P : Type 0} → m.bit_size ≡ 0 → ((size : ℕ) → get_size_of 512 B m.type_id ≡ got size → end ≡ m.bit_offset + 8 * size → P) → P
  unfolding end_of
  end_plain z k =
      let f : end_of B m ≡ ask_then (get_size_of 512 B m.type_id) (λ s. ask_then (checked (8 * s)) (λ bits. checked (m.bit_offset + bits))) = rw (z, end_of) in
      then_got (get_size_of 512 B m.type_id) (λ s. ask_then (checked (8 * s)) (λ bits. checked (m.bit_offset + bits))) end (sym f ∙ e) (λ size q r.
      then_got (checked (8 * size)) (λ bits. checked (m.bit_offset + bits)) end r (λ bits u v.
      let a : 8 * size ≡ bits = checked_got (8 * size) bits u in
      let b : m.bit_offset + bits ≡ end = checked_got (m.bit_offset + bits) end v in
      k size q (omega arith)))

  end_field : (m.bit_size ≡ 0 → ⊥) → end ≡ m.bit_offset + m.bit_size
  unfolding end_of
  end_field n =
      let f : end_of B m ≡ checked (m.bit_offset + m.bit_size) = rw (ne_eqb m.bit_size 0 n, end_of) in
      sym (checked_got (m.bit_offset + m.bit_size) end (sym f ∙ e))

  pub is_covered : (bit : ℕ) → covers m.bit_offset end bit ≡ true → Covers B m bit
  is_covered bit h =
      let b : (m.bit_offset ≤ bit) × (bit < end) = covers_both m.bit_offset end bit h in
      same_or m.bit_size 0
      (λ z. end_plain z (λ size q w. let l : bit < m.bit_offset + 8 * size = omega (arith, b.1) in by_size size z q b.0 l))
      (λ n. let w : end ≡ m.bit_offset + m.bit_size = end_field n in let l : bit < m.bit_offset + m.bit_size = omega (arith, b.1) in by_field n b.0 l)

  not_covered : (bit : ℕ) → covers m.bit_offset end bit ≡ false → Covers B m bit → ⊥
  not_covered bit h (by_size size z q l u) =
      end_plain z (λ size' q' w.
      let s : size ≡ size' = got_same size size' (sym q ∙ q') in
      let x : bit < end = omega arith in
      true≢false (sym (covers_true m.bit_offset end bit l x) ∙ h))
  not_covered bit h (by_field n l u) =
      let w : end ≡ m.bit_offset + m.bit_size = end_field n in
      let x : bit < end = omega arith in
      true≢false (sym (covers_true m.bit_offset end bit l x) ∙ h)

-- what trying the members from k on comes to
pub record Entered (B : Btf) (bit k : ℕ) (ms : List Member) (i t r : ℕ) : Type 0 where
  one : Member
  at : ℕ
  first : First B bit one ms at
  counted : i ≡ k + at
  plainly : one.bit_size ≡ 0
  typed : t ≡ one.type_id
  rest : r ≡ bit - one.bit_offset
  size : ℕ
  sized : get_size_of 512 B one.type_id ≡ got size
  low : one.bit_offset ≤ bit
  high : bit < one.bit_offset + 8 * size

pub record Fielded (B : Btf) (bit k : ℕ) (ms : List Member) (i : ℕ) : Type 0 where
  one : Member
  at : ℕ
  first : First B bit one ms at
  counted : i ≡ k + at
  bits : one.bit_size ≡ 0 → ⊥

module _ (B : Btf) (bit : ℕ) where
  unfoldable pub Tried : ℕ → List Member → Step → Type 0
  Tried k ms stay = Uncovered B bit ms
  Tried k ms (enter i t r) = Entered B bit k ms i t r
  Tried k ms (field i) = Fielded B bit k ms i

  tried_later : (m : Member) (ms : List Member) (k : ℕ) → (Covers B m bit → ⊥) → (st : Step) → Tried (k + 1) ms st → Tried k (m ∷ ms) st
  unfolding Tried
  tried_later m ms k n stay u = next m ms n u
  tried_later m ms k n (enter i t r) v = record {
    one = v.one;
    at = suc v.at;
    first = later m ms v.at n v.first;
    counted = let c : i ≡ k + 1 + v.at = v.counted in omega arith;
    plainly = v.plainly;
    typed = v.typed;
    rest = v.rest;
    size = v.size;
    sized = v.sized;
    low = v.low;
    high = v.high;
  }
  tried_later m ms k n (field i) v = record {
    one = v.one;
    at = suc v.at;
    first = later m ms v.at n v.first;
    counted = let c : i ≡ k + 1 + v.at = v.counted in omega arith;
    bits = v.bits;
  }

  tried_here : (m : Member) (ms : List Member) (k end : ℕ) → end_of B m ≡ got end → covers m.bit_offset end bit ≡ true → Tried k (m ∷ ms) (entered m k bit)
  unfolding Tried entered
  tried_here m ms k end e h =
      let c : Covers B m bit = is_covered B m end e bit h in
      let b : (m.bit_offset ≤ bit) × (bit < end) = covers_both m.bit_offset end bit h in
      let o : k ≡ k + 0 = omega arith in
      same_or m.bit_size 0
      (λ z. end_plain B m end e z (λ size q w.
      let u : entered m k bit ≡ enter k m.type_id (bit - m.bit_offset) = rw (z, entered) in
      let l : bit < m.bit_offset + 8 * size = omega (arith, b.1) in
      subst (Tried k (m ∷ ms)) (sym u) (record {
        one = m;
        at = 0;
        first = here ms c;
        counted = o;
        plainly = z;
        typed = refl;
        rest = refl;
        size = size;
        sized = q;
        low = b.0;
        high = l;
      })))
      (λ n.
      let u : entered m k bit ≡ field k = rw (ne_eqb m.bit_size 0 n, entered) in
      subst (Tried k (m ∷ ms)) (sym u) (record { one = m; at = 0; first = here ms c; counted = o; bits = n }))

  -- the member that was looked at covers the bit, or the others decide
  unfoldable pub entered_or : Member → ℕ → List Member → Bool → Ask Step
  entered_or m k ms q = elim q [ true ↦ got (entered m k bit) | false ↦ tried B bit (k + 1) ms ]

  tried_one : (m : Member) (ms : List Member) (k end : ℕ) (st : Step) → end_of B m ≡ got end → entered_or m k ms (covers m.bit_offset end bit) ≡ got st → (tried B bit (k + 1) ms ≡ got st → Tried (k + 1) ms st) → Tried k (m ∷ ms) st
  unfolding entered_or
  tried_one m ms k end st e r on = go (covers m.bit_offset end bit) refl
    where
      go : (q : Bool) → covers m.bit_offset end bit ≡ q → Tried k (m ∷ ms) st
      go true h = subst (Tried k (m ∷ ms)) (got_same (entered m k bit) st (sym (ap (entered_or m k ms) h) ∙ r)) (tried_here m ms k end e h)
      go false h = tried_later m ms k (not_covered B m end e bit h) st (on (sym (ap (entered_or m k ms) h) ∙ r))

  pub tried_is : (ms : List Member) (k : ℕ) (st : Step) → tried B bit k ms ≡ got st → Tried k ms st
  unfolding tried Tried entered_or
  tried_is [] k st e = subst (Tried k []) (got_same stay st e) none
  tried_is (m ∷ ms) k st e =
      then_got (end_of B m) (λ end. entered_or m k ms (covers m.bit_offset end bit)) st e (λ end q r. tried_one m ms k end st q r (tried_is ms (k + 1) st))

-- ---- one step of the walk
record Inside (B : Btf) (x bit k t r : ℕ) : Type 0 where
  on : (p : List ℕ) → PathFrom B t r p → PathFrom B x bit (k ∷ p)
  size : ℕ
  sized : get_size_of 512 B t ≡ got size
  low : r < size * 8

module _ (B : Btf) (x bit : ℕ) where
  StepPath : Step → Type 0
  StepPath stay = PathFrom B x bit []
  StepPath (enter k t r) = Inside B x bit k t r
  StepPath (field k) = PathFrom B x bit (k ∷ [])

  module _ (ms : List Member) (s : shape_of (B.type_by_id x) ≡ composite ms) where
    tried_path : (st : Step) → Tried B bit 0 ms st → StepPath st
    unfolding StepPath Tried
    tried_path stay u = gap x bit ms s u
    tried_path (enter i t r) v =
        let c : i ≡ 0 + v.at = v.counted in
        let d : v.at ≡ i = omega arith in
        let o : r ≡ bit - v.one.bit_offset = v.rest in record {
          on = λ p l. member x i bit ms v.one p s (subst (λ (j : ℕ). First B bit v.one ms j) d v.first) v.plainly (subst (λ (y : ℕ). PathFrom B v.one.type_id y p) v.rest (subst (λ (y : ℕ). PathFrom B y r p) v.typed l));
          size = v.size;
          sized = ap (get_size_of 512 B) v.typed ∙ v.sized;
          low = omega (arith, v.low, v.high);
        }
    tried_path (field i) v =
        let c : i ≡ 0 + v.at = v.counted in
        let d : v.at ≡ i = omega arith in
        bit_field x i bit ms v.one s (subst (λ (j : ℕ). First B bit v.one ms j) d v.first) v.bits

    composite_step : (st : Step) → tried B bit 0 ms ≡ got st → StepPath st
    composite_step st e = tried_path st (tried_is B bit ms 0 st e)

  module _ (t k z : ℕ) (q : B.type_by_id x ≡ Array t k) (sz : get_size_of 512 B x ≡ got z) (l : bit < z * 8) where
    place_step : (s : ℕ) → k * s ≡ z → get_size_of 512 B t ≡ got s → (st : Step) → placed t s bit ≡ st → StepPath st
    unfolding placed StepPath
    place_step s ks big st v =
        same_or s 0
        (λ o. let y : k * s ≡ k * 0 = ap (λ (n : ℕ). k * n) o in let y' : k * 0 ≡ 0 = omega arith in absurd (omega arith))
        (λ n.
        let pos : 0 < s * 8 = omega arith in
        let m : bit % (s * 8) < s * 8 = mod-lt bit pos in
        let w : z * 8 ≡ k * (s * 8) = ap (λ (n : ℕ). n * 8) (sym ks) ∙ mul_assoc k s 8 in
        let h : bit < k * (s * 8) = subst (λ (y : ℕ). bit < y) w l in
        let c : bit / (s * 8) < k = (div-lt_iff_lt-mul pos).1 h in
        let y : placed t s bit ≡ enter (bit / (s * 8)) t (bit % (s * 8)) = rw (ne_eqb s 0 n, placed) in
        subst StepPath (sym y ∙ v) (record {
          on = λ p r. place x t k s (bit / (s * 8)) bit (bit % (s * 8)) p q big c (sym (div-add-mod' bit (s * 8))) m r;
          size = s;
          sized = big;
          low = m;
        }))

    array_step : (st : Step) → ask_then (get_size_of 512 B t) (λ size. got (placed t size bit)) ≡ got st → StepPath st
    unfolding get_size_of size_of ask_then
    array_step st e =
        let f : ask_then (get_size_of 511 B t) (λ s. checked (k * s)) ≡ got z = sym (ap (size_of B (get_size_of 511 B)) q) ∙ sz in
        then_got (get_size_of 511 B t) (λ s. checked (k * s)) z f (λ s a b.
        let big : get_size_of 512 B t ≡ got s = size_one_more B 511 t s a in
        let u : got (placed t s bit) ≡ got st = sym (ap (λ (y : Ask ℕ). ask_then y (λ size. got (placed t size bit))) big) ∙ e in
        place_step s (checked_got (k * s) z b) big st (got_same (placed t s bit) st u))

  step_path : (z : ℕ) (S : Shape) → get_size_of 512 B x ≡ got z → bit < z * 8 → shape_of (B.type_by_id x) ≡ S → ((t : ℕ) → S ≡ through t → ⊥) → (st : Step) → step_in B bit S ≡ got st → StepPath st
  unfolding step_in shape_of StepPath
  step_path z S sz l s stops st e =
      let e' : step_in B bit (shape_of (B.type_by_id x)) ≡ got st = ap (step_in B bit) s ∙ e in
      by_shape B (λ T. B.type_by_id x ≡ T → StepPath st)
      (λ T o q. let y : got stay ≡ got st = sym (ap (step_in B bit) (ap shape_of q ∙ o)) ∙ e' in subst StepPath (got_same stay st y) (ends x bit (ap shape_of q ∙ o)))
      (λ T t o f q. absurd (stops t (sym s ∙ ap shape_of q ∙ o)))
      (λ t k q. array_step t k z q sz l st (sym (ap (λ (T : BtfType). step_in B bit (shape_of T)) q) ∙ e'))
      (λ b n sz ms q. composite_step ms (ap shape_of q) st (sym (ap (λ (T : BtfType). step_in B bit (shape_of T)) q) ∙ e'))
      (B.type_by_id x)
      refl

-- ---- the walk
module _ (B : Btf) where
  abbrev Finds : ℕ → Type 0
  Finds left = (id bit z : ℕ) (p : List ℕ) → get_size_of 512 B id ≡ got z → bit < z * 8 → path_from left B id bit ≡ got p → PathFrom B id bit p

  last_path : (x bit : ℕ) (p : List ℕ) (st : Step) → StepPath B x bit st → full st ≡ got p → PathFrom B x bit p
  unfolding full StepPath
  last_path x bit p stay s e = subst (PathFrom B x bit) (got_same [] p e) s
  last_path x bit p (enter k t r) s e = absurd (no_got 12 p e)
  last_path x bit p (field k) s e = absurd (no_got 12 p e)

  onward_path : (left : ℕ) → Finds left → (x bit : ℕ) (p : List ℕ) (st : Step) → StepPath B x bit st → onward (path_from left B) st ≡ got p → PathFrom B x bit p
  unfolding onward StepPath
  onward_path left f x bit p stay s e = subst (PathFrom B x bit) (got_same [] p e) s
  onward_path left f x bit p (enter k t r) s e =
      then_got (path_from left B t r) (λ p. got (k ∷ p)) p e (λ p' a b.
      subst (PathFrom B x bit) (got_same (k ∷ p') p b) (s.on p' (f t r s.size p' s.sized s.low a)))
  onward_path left f x bit p (field k) s e = subst (PathFrom B x bit) (got_same (k ∷ []) p e) s

  finds : (left : ℕ) → Finds left
  unfolding path_from
  finds zero id bit z p sz l e =
      let h : Behind B id z (behind 512 B id) = behind_is B 512 id z (omega arith) sz in
      then_got (step_in B bit (behind 512 B id)) full p e (λ st a b.
      lift B id h.type bit p h.reached (last_path h.type bit p st (step_path B h.type bit z (behind 512 B id) h.size l h.shape h.stops st a) b))
  finds (suc left) id bit z p sz l e =
      let h : Behind B id z (behind 512 B id) = behind_is B 512 id z (omega arith) sz in
      then_got (step_in B bit (behind 512 B id)) (onward (path_from left B)) p e (λ st a b.
      lift B id h.type bit p h.reached (onward_path left (finds left) h.type bit p st (step_path B h.type bit z (behind 512 B id) h.size l h.shape h.stops st a) b))

  -- at most so many entries
  full_bound : (st : Step) (p : List ℕ) → full st ≡ got p → length p ≤ 0
  unfolding full
  full_bound stay p e = let o : 0 ≡ length p = ap length (got_same [] p e) in omega arith
  full_bound (enter k t r) p e = absurd (no_got 12 p e)
  full_bound (field k) p e = absurd (no_got 12 p e)

  onward_bound : (left : ℕ) → ((id bit : ℕ) (p : List ℕ) → path_from left B id bit ≡ got p → length p ≤ left) → (st : Step) (p : List ℕ) → onward (path_from left B) st ≡ got p → length p ≤ suc left
  unfolding onward
  onward_bound left f stay p e = let o : 0 ≡ length p = ap length (got_same [] p e) in omega arith
  onward_bound left f (enter k t r) p e =
      then_got (path_from left B t r) (λ p. got (k ∷ p)) p e (λ p' a b.
      let h : length p' ≤ left = f t r p' a in
      let o : suc (length p') ≡ length p = ap length (got_same (k ∷ p') p b) in
      omega arith)
  onward_bound left f (field k) p e = let o : 1 ≡ length p = ap length (got_same (k ∷ []) p e) in omega arith

  path_bound : (left id bit : ℕ) (p : List ℕ) → path_from left B id bit ≡ got p → length p ≤ left
  unfolding path_from
  path_bound zero id bit p e = then_got (step_in B bit (behind 512 B id)) full p e (λ st a b. full_bound st p b)
  path_bound (suc left) id bit p e = then_got (step_in B bit (behind 512 B id)) (onward (path_from left B)) p e (λ st a b. onward_bound left (path_bound left) st p b)

-- ---- the call's path
module _ (B : Btf) (id bit : ℕ) where
  pub field_plain : is_composite (shape_of (B.type_by_id id)) ≡ false → field_path B id bit ≡ no 21
  unfolding field_path
  field_plain h = rw (h, field_path)

  pub field_composite : is_composite (shape_of (B.type_by_id id)) ≡ true → field_path B id bit ≡ ask_then (path_from 512 B id bit) some_entry
  unfolding field_path
  field_composite h = rw (h, field_path)

  module _ (ms : List Member) (s : shape_of (B.type_by_id id) ≡ composite ms) where
    pub first_step : step_in B bit (behind 512 B id) ≡ tried B bit 0 ms
    unfolding behind passed step_in
    first_step = ap (λ (S : Shape). step_in B bit (passed (behind 511 B) S)) s

    path_there : (p : List ℕ) → path_from 512 B id bit ≡ got p → PathFrom B id bit p
    unfolding path_from
    path_there p e =
        then_got (step_in B bit (behind 512 B id)) (onward (path_from 511 B)) p e (λ st a b.
        onward_path B 511 (finds B 511) id bit p st (composite_step B id bit ms s st (sym first_step ∙ a)) b)

  some_entry_lem : (p p' : List ℕ) → some_entry p ≡ got p' → (p ≡ p') × (0 < length p)
  unfolding some_entry
  some_entry_lem [] p' e = absurd (no_got 21 p' e)
  some_entry_lem (k ∷ p) p' e = (got_same (k ∷ p) p' e, omega arith)

  pub by_composite : {P : Type 0} → (is_composite (shape_of (B.type_by_id id)) ≡ false → P) → ((ms : List Member) → shape_of (B.type_by_id id) ≡ composite ms → P) → P
  unfolding is_composite
  by_composite {P} f g = go (shape_of (B.type_by_id id)) refl
    where
      go : (S : Shape) → shape_of (B.type_by_id id) ≡ S → P
      go plain e = f (ap is_composite e)
      go (through t) e = f (ap is_composite e)
      go (array t) e = f (ap is_composite e)
      go (composite ms) e = g ms e

  pub is_composite_lem : (ms : List Member) → shape_of (B.type_by_id id) ≡ composite ms → is_composite (shape_of (B.type_by_id id)) ≡ true
  unfolding is_composite
  is_composite_lem ms s = ap is_composite s

  -- "the path of members and array places [..] to the innermost plain member or bit field that covers it"; it has an entry, and at most 512
  pub sound : (p : List ℕ) → field_path B id bit ≡ got p → PathFrom B id bit p × ((0 < length p) × (length p ≤ 512))
  sound p e =
      by_composite
      (λ h. absurd (no_got 21 p (sym (field_plain h) ∙ e)))
      (λ ms s.
      then_got (path_from 512 B id bit) some_entry p (sym (field_composite (is_composite_lem ms s)) ∙ e) (λ p' a b.
      let c : (p' ≡ p) × (0 < length p') = some_entry_lem p' p b in
      let m : length p' ≡ length p = ap length c.0 in
      let n : length p' ≤ 512 = path_bound B 512 id bit p' a in
      (subst (PathFrom B id bit) c.0 (path_there ms s p' a), (omega (arith, c.1), omega arith))))
