-- The words of the request leave no choice: from a bit of a type only one path leads inwards, so a path that leads is the one that the
-- walk returns. Assumes nothing.
use Prim.Native.Nat.{ℕ, suc, ◌+◌, ◌-◌, ◌*◌, ◌<◌, ◌≤◌}
use mathlib.Core.Path.{◌≡◌, refl, ap, ◌∙◌, sym, subst}
use mathlib.Core.List.{List, [], ◌∷◌}
use mathlib.Core.Logic.{⊎_elim}
use native.Mathlib.Omega.{arith}
use native.Mathlib.Nat.{mul-le-mul_right, add-mul}
use Rattle.std.proofs.lemmas.Bool.{cases_lt}
use Rattle.spec_c_dumper.specs.rules.Writer.{got}
use Rattle.spec_c_dumper.specs.rules.Types.{Member, Array, Btf}
use Rattle.spec_c_dumper.specs.rules.Layout.{get_size_of}
use Rattle.session_field_at_bit.specs.step.Path.{plain, through, array, composite, shape_of, field_path}
use Rattle.session_field_at_bit.specs.field.PathFrom.{First, here, later, Uncovered, next, PathFrom, passes, place, member, bit_field, ends, gap}
use Rattle.session_field_at_bit.proofs.field.Sound.{got_same, sound}

-- ---- two shapes are never one
module _ (t : ℕ) where
  plain_through : plain ≡ through t → ⊥
  plain_through e = let z : ◌≡◌ {A = ℕ} 0 1 = cc in omega arith

  plain_array : plain ≡ array t → ⊥
  plain_array e = let z : ◌≡◌ {A = ℕ} 0 1 = cc in omega arith

  through_array : (u : ℕ) → through t ≡ array u → ⊥
  through_array u e = let z : ◌≡◌ {A = ℕ} 0 1 = cc in omega arith

  through_composite : (ms : List Member) → through t ≡ composite ms → ⊥
  through_composite ms e = let z : ◌≡◌ {A = ℕ} 0 1 = cc in omega arith

  array_composite : (ms : List Member) → array t ≡ composite ms → ⊥
  array_composite ms e = let z : ◌≡◌ {A = ℕ} 0 1 = cc in omega arith

plain_composite : (ms : List Member) → plain ≡ composite ms → ⊥
plain_composite ms e = let z : ◌≡◌ {A = ℕ} 0 1 = cc in omega arith

same_through : (t u : ℕ) → through t ≡ through u → t ≡ u
same_through t u e = cc

same_array : (t u k n : ℕ) → Array t k ≡ Array u n → t ≡ u
same_array t u k n e = cc

same_members : (ms ns : List Member) → composite ms ≡ composite ns → ms ≡ ns
same_members ms ns e = cc

module _ (B : Btf) (bit : ℕ) where
  -- ---- the first member that covers the bit
  same_first : (x y : Member) (ms : List Member) (j k : ℕ) → First B bit x ms j → First B bit y ms k → (x ≡ y) × (j ≡ k)
  same_first x y _ _ _ (here ms c) (here ns d) = (refl, refl)
  same_first x y _ _ _ (here ms c) (later z ns k n f) = absurd (n c)
  same_first x y _ _ _ (later z ms j n f) (here ns d) = absurd (n d)
  same_first x y _ _ _ (later z ms j n f) (later z' ns k n' g) = let r : (x ≡ y) × (j ≡ k) = same_first x y ms j k f g in (r.0, ap suc r.1)

  first_covered : (x : Member) (ms : List Member) (j : ℕ) → First B bit x ms j → Uncovered B bit ms → ⊥
  first_covered x _ _ (here ms c) (next y ns n u) = n c
  first_covered x _ _ (later z ms j n f) (next y ns n' u) = first_covered x ms j f u

-- a number has one place and one rest
below_place : (unit j k r s : ℕ) → r < unit → j * unit + r ≡ k * unit + s → j < k → ⊥
below_place unit j k r s h e l =
    let o : j + 1 ≤ k = omega arith in
    let m : (j + 1) * unit ≤ k * unit = mul-le-mul_right unit o in
    let n : (j + 1) * unit ≡ j * unit + 1 * unit = add-mul j 1 unit in
    omega arith

same_place : (unit j k r s : ℕ) → r < unit → s < unit → j * unit + r ≡ k * unit + s → (j ≡ k) × (r ≡ s)
same_place unit j k r s hr hs e =
    let o : j ≡ k = ⊎_elim (λ l. absurd (below_place unit k j s r hs (sym e) l)) (λ l. ⊎_elim (λ m. absurd (below_place unit j k r s hr e m)) (λ m. omega arith) (cases_lt j k)) (cases_lt k j) in
    let f : j * unit + r ≡ j * unit + s = e ∙ ap (λ (n : ℕ). n * unit + s) (sym o) in
    (o, omega arith)

module _ (B : Btf) where
  -- ---- how a path goes on from a type of each shape
  after_through : (id t bit : ℕ) (q : List ℕ) → shape_of (B.type_by_id id) ≡ through t → PathFrom B id bit q → PathFrom B t bit q
  unfolding shape_of
  after_through _ t _ _ s (passes id u bit q e l) = subst (λ (x : ℕ). PathFrom B x bit q) (same_through u t (sym e ∙ s)) l
  after_through _ t _ _ s (place id u count size k bit rest p e z c b r l) = absurd (through_array t u (sym s ∙ ap shape_of e))
  after_through _ t _ _ s (member id k bit ms m p e f z l) = absurd (through_composite t ms (sym s ∙ e))
  after_through _ t _ _ s (bit_field id k bit ms m e f n) = absurd (through_composite t ms (sym s ∙ e))
  after_through _ t _ _ s (ends id bit e) = absurd (plain_through t (sym e ∙ s))
  after_through _ t _ _ s (gap id bit ms e u) = absurd (through_composite t ms (sym s ∙ e))

  after_plain : (id bit : ℕ) (q : List ℕ) → shape_of (B.type_by_id id) ≡ plain → PathFrom B id bit q → [] ≡ q
  unfolding shape_of
  after_plain _ _ _ s (passes id u bit q e l) = absurd (plain_through u (sym s ∙ e))
  after_plain _ _ _ s (place id u count size k bit rest p e z c b r l) = absurd (plain_array u (sym s ∙ ap shape_of e))
  after_plain _ _ _ s (member id k bit ms m p e f z l) = absurd (plain_composite ms (sym s ∙ e))
  after_plain _ _ _ s (bit_field id k bit ms m e f n) = absurd (plain_composite ms (sym s ∙ e))
  after_plain _ _ _ s (ends id bit e) = refl
  after_plain _ _ _ s (gap id bit ms e u) = refl

  module _ {P : Type 0} (t count size k rest : ℕ) (z : get_size_of 512 B t ≡ got size) (r : rest < size * 8) where
    after_array : (id bit : ℕ) (q : List ℕ) → B.type_by_id id ≡ Array t count → bit ≡ k * (size * 8) + rest → PathFrom B id bit q → ((p : List ℕ) → k ∷ p ≡ q → PathFrom B t rest p → P) → P
    unfolding shape_of
    after_array _ _ _ s b (passes id u bit q e l) on = absurd (through_array u t (sym e ∙ ap shape_of s))
    after_array _ _ _ s b (place id u count' size' k' bit rest' p e z' c b' r' l) on =
        let o : u ≡ t = same_array u t count' count (sym e ∙ s) in
        let y : size' ≡ size = got_same size' size (sym z' ∙ ap (get_size_of 512 B) o ∙ z) in
        let h : rest' < size * 8 = subst (λ (n : ℕ). rest' < n * 8) y r' in
        let g : bit ≡ k' * (size * 8) + rest' = b' ∙ ap (λ (n : ℕ). k' * (n * 8) + rest') y in
        let w : (k ≡ k') × (rest ≡ rest') = same_place (size * 8) k k' rest rest' r h (sym b ∙ g) in
        on p (ap (λ (n : ℕ). n ∷ p) w.0) (subst (λ (n : ℕ). PathFrom B t n p) (sym w.1) (subst (λ (n : ℕ). PathFrom B n rest' p) o l))
    after_array _ _ _ s b (member id k' bit ms m p e f z' l) on = absurd (array_composite t ms (sym (ap shape_of s) ∙ e))
    after_array _ _ _ s b (bit_field id k' bit ms m e f n) on = absurd (array_composite t ms (sym (ap shape_of s) ∙ e))
    after_array _ _ _ s b (ends id bit e) on = absurd (plain_array t (sym e ∙ ap shape_of s))
    after_array _ _ _ s b (gap id bit ms e u) on = absurd (array_composite t ms (sym (ap shape_of s) ∙ e))

  module _ {P : Type 0} (ms : List Member) (m : Member) (k : ℕ) where
    after_member : (id bit : ℕ) (q : List ℕ) → shape_of (B.type_by_id id) ≡ composite ms → First B bit m ms k → m.bit_size ≡ 0 → PathFrom B id bit q → ((p : List ℕ) → k ∷ p ≡ q → PathFrom B m.type_id (bit - m.bit_offset) p → P) → P
    unfolding shape_of
    after_member _ _ _ s f z (passes id u bit q e l) on = absurd (through_composite u ms (sym e ∙ s))
    after_member _ _ _ s f z (place id u count size k' bit rest p e z' c b r l) on = absurd (array_composite u ms (sym (ap shape_of e) ∙ s))
    after_member _ _ _ s f z (member id k' bit ns m' p e g z' l) on =
        let o : ns ≡ ms = same_members ns ms (sym e ∙ s) in
        let w : (m ≡ m') × (k ≡ k') = same_first B bit m m' ms k k' f (subst (λ (x : List Member). First B bit m' x k') o g) in
        on p (ap (λ (n : ℕ). n ∷ p) w.1) (subst (λ (x : Member). PathFrom B x.type_id (bit - x.bit_offset) p) (sym w.0) l)
    after_member _ _ _ s f z (bit_field id k' bit ns m' e g n) on =
        let o : ns ≡ ms = same_members ns ms (sym e ∙ s) in
        let w : (m ≡ m') × (k ≡ k') = same_first B bit m m' ms k k' f (subst (λ (x : List Member). First B bit m' x k') o g) in
        absurd (n (ap (λ (x : Member). x.bit_size) (sym w.0) ∙ z))
    after_member _ _ _ s f z (ends id bit e) on = absurd (plain_composite ms (sym e ∙ s))
    after_member _ _ _ s f z (gap id bit ns e u) on = absurd (first_covered B bit m ms k f (subst (Uncovered B bit) (same_members ns ms (sym e ∙ s)) u))

  module _ (ms : List Member) where
    after_field : (m : Member) (k id bit : ℕ) (q : List ℕ) → shape_of (B.type_by_id id) ≡ composite ms → First B bit m ms k → (m.bit_size ≡ 0 → ⊥) → PathFrom B id bit q → k ∷ [] ≡ q
    unfolding shape_of
    after_field m k _ _ _ s f n (passes id u bit q e l) = absurd (through_composite u ms (sym e ∙ s))
    after_field m k _ _ _ s f n (place id u count size k' bit rest p e z' c b r l) = absurd (array_composite u ms (sym (ap shape_of e) ∙ s))
    after_field m k _ _ _ s f n (member id k' bit ns m' p e g z' l) =
        let o : ns ≡ ms = same_members ns ms (sym e ∙ s) in
        let w : (m ≡ m') × (k ≡ k') = same_first B bit m m' ms k k' f (subst (λ (x : List Member). First B bit m' x k') o g) in
        absurd (n (ap (λ (x : Member). x.bit_size) w.0 ∙ z'))
    after_field m k _ _ _ s f n (bit_field id k' bit ns m' e g n') =
        let o : ns ≡ ms = same_members ns ms (sym e ∙ s) in
        ap (λ (i : ℕ). i ∷ []) (same_first B bit m m' ms k k' f (subst (λ (x : List Member). First B bit m' x k') o g)).1
    after_field m k _ _ _ s f n (ends id bit e) = absurd (plain_composite ms (sym e ∙ s))
    after_field m k _ _ _ s f n (gap id bit ns e u) = absurd (first_covered B bit m ms k f (subst (Uncovered B bit) (same_members ns ms (sym e ∙ s)) u))

    after_gap : (id bit : ℕ) (q : List ℕ) → shape_of (B.type_by_id id) ≡ composite ms → Uncovered B bit ms → PathFrom B id bit q → [] ≡ q
    unfolding shape_of
    after_gap _ _ _ s u (passes id v bit q e l) = absurd (through_composite v ms (sym e ∙ s))
    after_gap _ _ _ s u (place id v count size k' bit rest p e z' c b r l) = absurd (array_composite v ms (sym (ap shape_of e) ∙ s))
    after_gap _ _ _ s u (member id k' bit ns m' p e g z' l) = absurd (first_covered B bit m' ms k' (subst (λ (x : List Member). First B bit m' x k') (same_members ns ms (sym e ∙ s)) g) u)
    after_gap _ _ _ s u (bit_field id k' bit ns m' e g n') = absurd (first_covered B bit m' ms k' (subst (λ (x : List Member). First B bit m' x k') (same_members ns ms (sym e ∙ s)) g) u)
    after_gap _ _ _ s u (ends id bit e) = refl
    after_gap _ _ _ s u (gap id bit ns e u') = refl

  -- ---- one path
  pub unique : (id bit : ℕ) (p q : List ℕ) → PathFrom B id bit p → PathFrom B id bit q → p ≡ q
  unique _ _ _ q (passes id t bit p e l) h = unique t bit p q l (after_through id t bit q e h)
  unique _ _ _ q (place id t count size k bit rest p e z c b r l) h =
      after_array t count size k rest z r id bit q e b h (λ p' w g. ap (λ (x : List ℕ). k ∷ x) (unique t rest p p' l g) ∙ w)
  unique _ _ _ q (member id k bit ms m p e f z l) h =
      after_member ms m k id bit q e f z h (λ p' w g. ap (λ (x : List ℕ). k ∷ x) (unique m.type_id (bit - m.bit_offset) p p' l g) ∙ w)
  unique _ _ _ q (bit_field id k bit ms m e f n) h = after_field ms m k id bit q e f n h
  unique _ _ _ q (ends id bit e) h = after_plain id bit q e h
  unique _ _ _ q (gap id bit ms e u) h = after_gap ms id bit q e u h

  -- a path that leads is the path that is returned, unless the walk is refused
  pub complete : (id bit : ℕ) (p q : List ℕ) → PathFrom B id bit p → field_path B id bit ≡ got q → p ≡ q
  complete id bit p q l e = unique id bit p q l (sound B id bit q e).0
