-- The questions over any memory: the visits made before change nothing else, and what remembering keeps is kept. Assumes nothing.
use Prim.Native.Nat.{ℕ, ◌-◌, ◌*◌, ◌%◌}
use mathlib.Core.Path.{◌≡◌, refl, ap, ◌∙◌, sym, subst}
use mathlib.Core.Bool.{Bool, true, false, not}
use mathlib.Core.List.{List, [], ◌∷◌}
use lib.Dec.{leb, eqb}
use Rattle.spec_c_dumper.specs.rules.Writer.{Ask, got, no, align_zero}
use Rattle.spec_c_dumper.specs.rules.Types.{Member, Btf as Rules}
use Rattle.spec_c_dumper.specs.rules.Layout.{pads_before}
use Rattle.spec_c_dumper.specs.alignment_once.Once.{Remembered, Keep, Once, found, refused, Asking, once_then, align_once, alignment_once}
use Rattle.spec_c_dumper.specs.alignment_once.Steps.{plainly, off_align_once, members_packed_once, packed_once, gap_align_once, padding_once, union_align_once, judged, measured_once, body_once}
use Rattle.btf_layout.specs.remembered.Words.{forget}
use Rattle.btf_layout.proofs.remembered.Turns.{next, then_next, forget_align, Held, align_held}
use Rattle.btf_layout.specs.asked.Asked.{off_by, off_once}

-- ---- the visits made before change nothing else
abbrev pub Steady : {M A : Type 0} → Asking M A → Type 0
Steady {M} ask = (m : M) (k : ℕ) → forget (ask m k) ≡ forget (ask m 0)

module _ {M : Type 0} where
  pub steady_then : {A C : Type 0} (ask : Asking M A) (f : A → Asking M C) → Steady ask → ((a : A) → Steady (f a)) → Steady (λ m k. once_then (ask m k) f)
  steady_then ask f h on m k = then_next f on (ask m k) ∙ ap (next f) (h m k) ∙ sym (then_next f on (ask m 0))

  pub steady_plainly : {A : Type 0} (x : Ask A) → Steady {M = M} (plainly x)
  unfolding plainly forget
  steady_plainly (got a) m k = refl
  steady_plainly (no c) m k = refl

  steady_found : {A : Type 0} (a : A) → Steady {M = M} (found a)
  unfolding forget
  steady_found a m k = refl

  steady_if : {A : Type 0} (b : Bool) (p q : Asking M A) → Steady p → Steady q → Steady {M = M} {A = A} (λ m k. elim b [ true ↦ p m k | false ↦ q m k ])
  steady_if true p q h g = h
  steady_if false p q h g = g

  module _ (K : Keep M) (B : Rules) where
    pub steady_alignment : (left id : ℕ) → Steady (alignment_once K left B id)
    unfolding alignment_once
    steady_alignment left id = steady_then (align_once K left B id) (λ s. found s.align) (forget_align K B left id) (λ s. steady_found s.align)

    pub steady_off : (x : Member) → Steady (off_once K B x)
    unfolding off_once
    steady_off x = steady_if (eqb x.bit_size 0) _ _ (steady_then (alignment_once K 512 B x.type_id) (λ a. plainly (off_by a x.bit_offset)) (steady_alignment 512 x.type_id) (λ a. steady_plainly (off_by a x.bit_offset))) (steady_found false)

    -- what comes after a member: nothing where it is off
    abbrev pub off_then : List Member → Bool → Asking M Bool
    off_then xs off m k = elim off [ true ↦ found true m k | false ↦ members_packed_once K B xs m k ]

    off_then_lem : (a o : ℕ) (xs : List Member) (m : M) (k : ℕ) → off_align_once a o (λ m' k'. members_packed_once K B xs m' k') m k ≡ once_then (plainly (off_by a o) m k) (off_then xs)
    unfolding off_align_once plainly off_by once_then
    off_then_lem a o xs m k = by (eqb a 0) (eqb (o % (a * 8)) 0)
      where
        by : (p q : Bool) → (elim p as (λ (z : Bool). Once M Bool) [ true ↦ refused align_zero m k | false ↦ elim q as (λ (z : Bool). Once M Bool) [ true ↦ members_packed_once K B xs m k | false ↦ found true m k ] ])
            ≡ once_then (plainly (elim p as (λ (z : Bool). Ask Bool) [ true ↦ no align_zero | false ↦ got (not q) ]) m k) (off_then xs)
        by true q = refl
        by false true = refl
        by false false = refl

    -- a member, and those after it
    pub members_turn : (x : Member) (xs : List Member) (m : M) (k : ℕ) → members_packed_once K B (x ∷ xs) m k ≡ once_then (off_once K B x m k) (off_then xs)
    unfolding members_packed_once off_once once_then
    members_turn x xs m k = by (eqb x.bit_size 0)
      where
        told : (r : Once M ℕ) → once_then r (λ a. off_align_once a x.bit_offset (λ m' k'. members_packed_once K B xs m' k')) ≡ once_then (once_then r (λ a. plainly (off_by a x.bit_offset))) (off_then xs)
        told (found a m' k') = off_then_lem a x.bit_offset xs m' k'
        told (refused c m' k') = refl

        by : (p : Bool) → (elim p as (λ (z : Bool). Once M Bool) [ true ↦ once_then (alignment_once K 512 B x.type_id m k) (λ a. off_align_once a x.bit_offset (λ m' k'. members_packed_once K B xs m' k')) | false ↦ members_packed_once K B xs m k ])
            ≡ once_then (elim p as (λ (z : Bool). Once M Bool) [ true ↦ once_then (alignment_once K 512 B x.type_id m k) (λ a. plainly (off_by a x.bit_offset)) | false ↦ found false m k ]) (off_then xs)
        by true = told (alignment_once K 512 B x.type_id m k)
        by false = refl

    steady_none : Steady (members_packed_once K B [])
    unfolding members_packed_once forget
    steady_none m k = refl

    pub steady_members : (xs : List Member) → Steady (members_packed_once K B xs)
    steady_members [] m k = steady_none m k
    steady_members (x ∷ xs) m k =
        ap forget (members_turn x xs m k)
        ∙ steady_then (off_once K B x) (off_then xs) (steady_off x) (λ off. steady_if off (found true) (members_packed_once K B xs) (steady_found true) (steady_members xs)) m k
        ∙ sym (ap forget (members_turn x xs m 0))

    pub steady_tested : (sz a : ℕ) (ms : List Member) → Steady {M = M} {A = Bool} (λ m k. elim (eqb (sz % a) 0) [ true ↦ members_packed_once K B ms m k | false ↦ found true m k ])
    steady_tested sz a ms = steady_if (eqb (sz % a) 0) (members_packed_once K B ms) (found true) (steady_members ms) (steady_found true)

    pub steady_packed : (is_struct : Bool) (id sz : ℕ) (ms : List Member) → Steady (packed_once K B is_struct id sz ms)
    unfolding packed_once forget
    steady_packed is_struct id sz ms = by is_struct
      where
        by : (q : Bool) → Steady {M = M} {A = Bool} (λ m k. elim q [ false ↦ found false m k | true ↦ once_then (alignment_once K 512 B id m k) (λ a m' k'. elim (eqb (sz % a) 0) [ true ↦ members_packed_once K B ms m' k' | false ↦ found true m' k' ]) ])
        by false = λ m k. refl
        by true = steady_then (alignment_once K 512 B id) (λ a m' k'. elim (eqb (sz % a) 0) [ true ↦ members_packed_once K B ms m' k' | false ↦ found true m' k' ]) (steady_alignment 512 id) (λ a. steady_tested sz a ms)

    pub steady_gap : (packed : Bool) (id : ℕ) → Steady (gap_align_once K B packed id)
    unfolding gap_align_once
    steady_gap packed id = steady_if packed (found 1) (alignment_once K 512 B id) (steady_found 1) (steady_alignment 512 id)

    steady_union : (is_struct : Bool) (id : ℕ) → Steady (union_align_once K B is_struct id)
    unfolding union_align_once
    steady_union is_struct id = steady_if is_struct (found 1) (alignment_once K 512 B id) (steady_found 1) (steady_alignment 512 id)

    pub steady_padding : (offset : ℕ) (x : Member) (packed : Bool) → Steady (padding_once K B offset x packed)
    unfolding padding_once
    steady_padding offset x packed =
        steady_if (leb x.bit_offset offset) _ _ (steady_found [])
        (steady_then (gap_align_once K B packed x.type_id) (λ a. found (pads_before B.placing B.ptr_sz offset x.bit_size (x.bit_offset - offset) a)) (steady_gap packed x.type_id) (λ a. steady_found _))

    pub steady_judged : (is_struct : Bool) (id sz : ℕ) (ms : List Member) (a : ℕ) → Steady {M = M} {A = Bool} (λ m k. once_then (packed_once K B is_struct id sz ms m k) (λ packed. plainly (judged B is_struct sz ms a packed)))
    steady_judged is_struct id sz ms a = steady_then (packed_once K B is_struct id sz ms) (λ packed. plainly (judged B is_struct sz ms a packed)) (steady_packed is_struct id sz ms) (λ packed. steady_plainly (judged B is_struct sz ms a packed))

    pub steady_body : (is_struct : Bool) (id sz : ℕ) (ms : List Member) → Steady (body_once K B is_struct id sz ms)
    unfolding body_once measured_once
    steady_body is_struct id sz ms =
        steady_if B.placing _ (packed_once K B is_struct id sz ms)
        (steady_then (union_align_once K B is_struct id) (λ a m₁ k₁. once_then (packed_once K B is_struct id sz ms m₁ k₁) (λ packed. plainly (judged B is_struct sz ms a packed))) (steady_union is_struct id) (λ a. steady_judged is_struct id sz ms a))
        (steady_packed is_struct id sz ms)

-- ---- what remembering keeps is kept
module _ {M X : Type 0} (P : M → X) where
  abbrev pub Stays : {A : Type 0} → M → Once M A → Type 0
  Stays m (found a m' k) = P m' ≡ P m
  Stays m (refused c m' k) = P m' ≡ P m

  stays_after : {A : Type 0} (m m' : M) → P m' ≡ P m → (r : Once M A) → Stays m' r → Stays m r
  stays_after m m' e (found a m'' k) h = h ∙ e
  stays_after m m' e (refused c m'' k) h = h ∙ e

  pub stays_then : {A C : Type 0} (m : M) (r : Once M A) (f : A → Asking M C) → Stays m r → ((a : A) (m' : M) (k : ℕ) → Stays m' (f a m' k)) → Stays m (once_then r f)
  unfolding once_then
  stays_then m (found a m' k) f h on = stays_after m m' h (f a m' k) (on a m' k)
  stays_then m (refused c m' k) f h on = h

  pub stays_plainly : {A : Type 0} (x : Ask A) (m : M) (k : ℕ) → Stays m (plainly x m k)
  unfolding plainly
  stays_plainly (got a) m k = refl
  stays_plainly (no c) m k = refl

  pub stays_forget : {A : Type 0} (m : M) (r : Once M A) → Stays m r → Stays m (forget r)
  unfolding forget
  stays_forget m (found a m' k) h = h
  stays_forget m (refused c m' k) h = h

  stays_if : {A : Type 0} (b : Bool) (m : M) (p q : Once M A) → Stays m p → Stays m q → Stays {A = A} m (elim b [ true ↦ p | false ↦ q ])
  stays_if true m p q h g = h
  stays_if false m p q h g = g

  stays_held : (left : ℕ) (m : M) (r : Once M Remembered) → Held P left m r → Stays m r
  stays_held left m (found s m' k) h = h.1
  stays_held left m (refused c m' k) h = h.1

  module _ (K : Keep M) (B : Rules) (keeps : (id : ℕ) (s : Remembered) (m : M) → P (K.remember id s m) ≡ P m) where
    pub stays_alignment : (left id : ℕ) (m : M) (k : ℕ) → Stays m (alignment_once K left B id m k)
    unfolding alignment_once
    stays_alignment left id m k = stays_then m (align_once K left B id m k) (λ s. found s.align) (stays_held left m (align_once K left B id m k) (align_held P K keeps B left id m k)) (λ s m' k'. refl)

    pub stays_off : (x : Member) (m : M) (k : ℕ) → Stays m (off_once K B x m k)
    unfolding off_once
    stays_off x m k = stays_if (eqb x.bit_size 0) m _ _ (stays_then m (alignment_once K 512 B x.type_id m k) (λ a. plainly (off_by a x.bit_offset)) (stays_alignment 512 x.type_id m k) (λ a m' k'. stays_plainly (off_by a x.bit_offset) m' k')) refl

    stays_none : (m : M) (k : ℕ) → Stays m (members_packed_once K B [] m k)
    unfolding members_packed_once
    stays_none m k = refl

    pub stays_members : (xs : List Member) (m : M) (k : ℕ) → Stays m (members_packed_once K B xs m k)
    stays_members [] m k = stays_none m k
    stays_members (x ∷ xs) m k =
        subst (Stays m) (sym (members_turn K B x xs m k))
        (stays_then m (off_once K B x m k) (off_then K B xs) (stays_off x m k) (λ off m' k'. stays_if off m' (found true m' k') (members_packed_once K B xs m' k') refl (stays_members xs m' k')))

    pub stays_packed : (is_struct : Bool) (id sz : ℕ) (ms : List Member) (m : M) (k : ℕ) → Stays m (packed_once K B is_struct id sz ms m k)
    unfolding packed_once
    stays_packed is_struct id sz ms m k = by is_struct
      where
        by : (q : Bool) → Stays {A = Bool} m (elim q [ false ↦ found false m k | true ↦ once_then (alignment_once K 512 B id m k) (λ a m' k'. elim (eqb (sz % a) 0) [ true ↦ members_packed_once K B ms m' k' | false ↦ found true m' k' ]) ])
        by false = refl
        by true = stays_then m (alignment_once K 512 B id m k) (λ a m' k'. elim (eqb (sz % a) 0) [ true ↦ members_packed_once K B ms m' k' | false ↦ found true m' k' ]) (stays_alignment 512 id m k) (λ a m' k'. stays_if (eqb (sz % a) 0) m' (members_packed_once K B ms m' k') (found true m' k') (stays_members ms m' k') refl)

    pub stays_gap : (packed : Bool) (id : ℕ) (m : M) (k : ℕ) → Stays m (gap_align_once K B packed id m k)
    unfolding gap_align_once
    stays_gap packed id m k = stays_if packed m (found 1 m k) (alignment_once K 512 B id m k) refl (stays_alignment 512 id m k)

    pub stays_union : (is_struct : Bool) (id : ℕ) (m : M) (k : ℕ) → Stays m (union_align_once K B is_struct id m k)
    unfolding union_align_once
    stays_union is_struct id m k = stays_if is_struct m (found 1 m k) (alignment_once K 512 B id m k) refl (stays_alignment 512 id m k)

    pub stays_padding : (offset : ℕ) (x : Member) (packed : Bool) (m : M) (k : ℕ) → Stays m (padding_once K B offset x packed m k)
    unfolding padding_once
    stays_padding offset x packed m k =
        stays_if (leb x.bit_offset offset) m _ _ refl
        (stays_then m (gap_align_once K B packed x.type_id m k) (λ a. found (pads_before B.placing B.ptr_sz offset x.bit_size (x.bit_offset - offset) a)) (stays_gap packed x.type_id m k) (λ a m' k'. refl))

    pub stays_measured : (is_struct : Bool) (id sz : ℕ) (ms : List Member) (m : M) (k : ℕ) → Stays m (measured_once K B is_struct id sz ms m k)
    unfolding measured_once
    stays_measured is_struct id sz ms m k =
        stays_then m (union_align_once K B is_struct id m k) (λ a m₁ k₁. once_then (packed_once K B is_struct id sz ms m₁ k₁) (λ packed. plainly (judged B is_struct sz ms a packed))) (stays_union is_struct id m k)
        (λ a m₁ k₁. stays_then m₁ (packed_once K B is_struct id sz ms m₁ k₁) (λ packed. plainly (judged B is_struct sz ms a packed)) (stays_packed is_struct id sz ms m₁ k₁) (λ packed m₂ k₂. stays_plainly (judged B is_struct sz ms a packed) m₂ k₂))

    pub stays_body : (is_struct : Bool) (id sz : ℕ) (ms : List Member) (m : M) (k : ℕ) → Stays m (body_once K B is_struct id sz ms m k)
    unfolding body_once
    stays_body is_struct id sz ms m k = stays_if B.placing m (measured_once K B is_struct id sz ms m k) (packed_once K B is_struct id sz ms m k) (stays_measured is_struct id sz ms m k) (stays_packed is_struct id sz ms m k)
