-- One question put to two memories that recall the same: the same answer or the same refusal, and memories that recall the same. Assumes nothing.
use Prim.Native.Nat.{ℕ, zero, suc, ◌-◌, ◌*◌, ◌%◌, ◌≤◌}
use native.Mathlib.Omega.{arith}
use mathlib.Core.Path.{◌≡◌, subst}
use mathlib.Core.Bool.{Bool, true, false}
use mathlib.Core.List.{List, [], ◌∷◌}
use lib.Dec.{leb, eqb}
use Rattle.spec_c_dumper.specs.rules.Writer.{Ask, got, no, align_zero, too_deep}
use Rattle.spec_c_dumper.specs.rules.Types.{Member, BtfType, Void, Int, Ptr, Array, Composite, Enum, Enum64, Fwd, Typedef, Mod, Func, Var, Datasec, FuncProto, Float, DeclTag, TypeTag, Btf}
use Rattle.spec_c_dumper.specs.rules.Layout.{smaller, octets, pads_before}
use Rattle.spec_c_dumper.specs.alignment_once.Once.{Remembered, Known, unknown, known, Keep, Lawful, Once, found, refused, Asking, once_then, above, widest, alone, members_once, taken, type_once, keep_once, align_once, alignment_once, Tells, Right}
use Rattle.spec_c_dumper.specs.alignment_once.Steps.{plainly, off_align_once, members_packed_once, packed_once, gap_align_once, padding_once, union_align_once, judged, measured_once, body_once}
use Rattle.spec_c_dumper.proofs.alignment_once.Right.{Told, align_of_lem, told}

module _ {M₁ M₂ : Type 0} (P : M₁ → M₂ → Type 0) where
  -- the same answer, or the same refusal
  pub data SameOnce {A : Type 0} : Once M₁ A → Once M₂ A → Type 0 where
    same_found : (a : A) (m₁ : M₁) (m₂ : M₂) (k₁ k₂ : ℕ) → P m₁ m₂ → SameOnce (found a m₁ k₁) (found a m₂ k₂)
    same_refused : (c : ℕ) (m₁ : M₁) (m₂ : M₂) (k₁ k₂ : ℕ) → SameOnce (refused c m₁ k₁) (refused c m₂ k₂)

  abbrev SameAsking : {A : Type 0} → Asking M₁ A → Asking M₂ A → Type 0
  SameAsking f₁ f₂ = (m₁ : M₁) (m₂ : M₂) (k₁ k₂ : ℕ) → P m₁ m₂ → SameOnce (f₁ m₁ k₁) (f₂ m₂ k₂)

  same_then : {A C : Type 0} {r₁ : Once M₁ A} {r₂ : Once M₂ A} (f₁ : A → Asking M₁ C) (f₂ : A → Asking M₂ C) → SameOnce r₁ r₂ → ((a : A) → SameAsking (f₁ a) (f₂ a)) → SameOnce (once_then r₁ f₁) (once_then r₂ f₂)
  unfolding once_then
  same_then f₁ f₂ (same_found a m₁ m₂ k₁ k₂ p) on = on a m₁ m₂ k₁ k₂ p
  same_then f₁ f₂ (same_refused c m₁ m₂ k₁ k₂) on = same_refused c m₁ m₂ k₁ k₂

  same_if : {A : Type 0} (b : Bool) (p₁ q₁ : Once M₁ A) (p₂ q₂ : Once M₂ A) → SameOnce p₁ p₂ → SameOnce q₁ q₂ → SameOnce {A = A} (elim b [ true ↦ p₁ | false ↦ q₁ ]) (elim b [ true ↦ p₂ | false ↦ q₂ ])
  same_if true p₁ q₁ p₂ q₂ h g = h
  same_if false p₁ q₁ p₂ q₂ h g = g

  same_plainly : {A : Type 0} (x : Ask A) → SameAsking (plainly x) (plainly x)
  unfolding plainly
  same_plainly (got a) m₁ m₂ k₁ k₂ p = same_found a m₁ m₂ k₁ k₂ p
  same_plainly (no c) m₁ m₂ k₁ k₂ p = same_refused c m₁ m₂ k₁ k₂

  module _ (ask₁ : ℕ → Asking M₁ Remembered) (ask₂ : ℕ → Asking M₂ Remembered) (h : (x : ℕ) → SameAsking (ask₁ x) (ask₂ x)) where
    same_members : (xs : List Member) (s : Remembered) → SameAsking (members_once ask₁ s xs) (members_once ask₂ s xs)
    unfolding members_once
    same_members [] s m₁ m₂ k₁ k₂ p = same_found s m₁ m₂ k₁ k₂ p
    same_members (x ∷ xs) s m₁ m₂ k₁ k₂ p =
        same_then (λ t m k. members_once ask₁ (widest s t) xs m k) (λ t m k. members_once ask₂ (widest s t) xs m k) (h x.type_id m₁ m₂ (suc k₁) (suc k₂) p) (λ t n₁ n₂ i₁ i₂ q. same_members xs (widest s t) n₁ n₂ i₁ i₂ q)

    same_type : (B : Btf) (t : BtfType) → SameAsking (type_once B ask₁ t) (type_once B ask₂ t)
    unfolding type_once
    same_type B Void m₁ m₂ k₁ k₂ p = same_found (alone 0) m₁ m₂ k₁ k₂ p
    same_type B (Int n b) m₁ m₂ k₁ k₂ p = same_found (alone (smaller B.ptr_sz (octets b))) m₁ m₂ k₁ k₂ p
    same_type B (Ptr t) m₁ m₂ k₁ k₂ p = same_found (alone B.ptr_sz) m₁ m₂ k₁ k₂ p
    same_type B (Array t c) m₁ m₂ k₁ k₂ p = h t m₁ m₂ k₁ k₂ p
    same_type B (Composite s n z ms) m₁ m₂ k₁ k₂ p = same_members ms (alone 1) m₁ m₂ k₁ k₂ p
    same_type B (Enum s n z vs) m₁ m₂ k₁ k₂ p = same_found (alone (smaller B.ptr_sz z)) m₁ m₂ k₁ k₂ p
    same_type B (Enum64 s n z vs) m₁ m₂ k₁ k₂ p = same_found (alone (smaller B.ptr_sz z)) m₁ m₂ k₁ k₂ p
    same_type B (Fwd u n) m₁ m₂ k₁ k₂ p = same_found (alone 0) m₁ m₂ k₁ k₂ p
    same_type B (Typedef n t) m₁ m₂ k₁ k₂ p = h t m₁ m₂ k₁ k₂ p
    same_type B (Mod q t) m₁ m₂ k₁ k₂ p = h t m₁ m₂ k₁ k₂ p
    same_type B (Func n) m₁ m₂ k₁ k₂ p = same_found (alone 0) m₁ m₂ k₁ k₂ p
    same_type B (Var n) m₁ m₂ k₁ k₂ p = same_found (alone 0) m₁ m₂ k₁ k₂ p
    same_type B (Datasec n) m₁ m₂ k₁ k₂ p = same_found (alone 0) m₁ m₂ k₁ k₂ p
    same_type B (FuncProto r ps) m₁ m₂ k₁ k₂ p = same_found (alone 0) m₁ m₂ k₁ k₂ p
    same_type B (Float n z) m₁ m₂ k₁ k₂ p = same_found (alone (smaller B.ptr_sz z)) m₁ m₂ k₁ k₂ p
    same_type B (DeclTag a n t c) m₁ m₂ k₁ k₂ p = same_found (alone 0) m₁ m₂ k₁ k₂ p
    same_type B (TypeTag a n t) m₁ m₂ k₁ k₂ p = h t m₁ m₂ k₁ k₂ p

  same_taken : (left : ℕ) (s : Remembered) → SameAsking (taken left s) (taken left s)
  unfolding taken
  same_taken left s m₁ m₂ k₁ k₂ p = same_if (leb s.height left) (found s m₁ k₁) (refused too_deep m₁ k₁) (found s m₂ k₂) (refused too_deep m₂ k₂) (same_found s m₁ m₂ k₁ k₂ p) (same_refused too_deep m₁ m₂ k₁ k₂)

  -- two memories that recall the same, of which the first is right; what is remembered is what get_align_of says
  module _ (K₁ : Keep M₁) (K₂ : Keep M₂) (B : Btf) (n : ℕ) (Good : M₁ → Type 0) (Fits : Remembered → Type 0) (law : Lawful K₁ n Good Fits)
      (recalls : (m₁ : M₁) (m₂ : M₂) → P m₁ m₂ → (id : ℕ) → K₁.recall m₁ id ≡ K₂.recall m₂ id) (right : (m₁ : M₁) (m₂ : M₂) → P m₁ m₂ → Right K₁ B m₁)
      (keeps : (id : ℕ) (s : Remembered) (m₁ : M₁) (m₂ : M₂) → P m₁ m₂ → Tells B id s → s.height ≤ 512 → Right K₁ B (K₁.remember id s m₁) → P (K₁.remember id s m₁) (K₂.remember id s m₂)) where
    same_keep : (left id : ℕ) → suc left ≤ 512 → (m : M₁) {r₁ : Once M₁ Remembered} {r₂ : Once M₂ Remembered} → SameOnce r₁ r₂ → Told K₁ B (align_of_lem K₁ B id) (suc left) m (once_then r₁ (keep_once K₁ id))
        → SameOnce (once_then r₁ (keep_once K₁ id)) (once_then r₂ (keep_once K₂ id))
    unfolding once_then keep_once
    same_keep left id b m (same_found s m₁ m₂ k₁ k₂ p) t = same_found (above s) (K₁.remember id (above s) m₁) (K₂.remember id (above s) m₂) k₁ k₂ (keeps id (above s) m₁ m₂ p t.0 (omega (arith, t.1, b)) t.2)
    same_keep left id b m (same_refused c m₁ m₂ k₁ k₂) t = same_refused c m₁ m₂ k₁ k₂

    -- get_align_of with a memory, as align_once goes on from what is recalled
    abbrev going : {M : Type 0} → Keep M → ℕ → ℕ → M → ℕ → Known → Once M Remembered
    going {M} K left id m k q =
        elim q as (λ (q : Known). Once M Remembered) [ known s ↦ taken (suc left) s m k | unknown ↦ once_then (type_once B (λ t m' k'. align_once K left B t m' k') (B.type_by_id id) m (suc k)) (keep_once K id) ]

    same_align : (left id : ℕ) → left ≤ 512 → SameAsking (align_once K₁ left B id) (align_once K₂ left B id)
    unfolding align_once
    same_align zero id b m₁ m₂ k₁ k₂ p = same_refused too_deep m₁ m₂ k₁ k₂
    same_align (suc left) id b m₁ m₂ k₁ k₂ p =
        subst (λ (q : Known). SameOnce (going K₁ left id m₁ k₁ (K₁.recall m₁ id)) (going K₂ left id m₂ k₂ q)) (recalls m₁ m₂ p id)
        (go (λ t. same_align left t (omega (arith, b))) (K₁.recall m₁ id) (told K₁ B n Good Fits law (suc left) id m₁ k₁ (right m₁ m₂ p)))
      where
        go : ((t : ℕ) → SameAsking (align_once K₁ left B t) (align_once K₂ left B t)) → (q : Known) → Told K₁ B (align_of_lem K₁ B id) (suc left) m₁ (going K₁ left id m₁ k₁ q)
            → SameOnce (going K₁ left id m₁ k₁ q) (going K₂ left id m₂ k₂ q)
        go on (known s) t = same_taken (suc left) s m₁ m₂ k₁ k₂ p
        go on unknown t =
            same_keep left id b m₁ (same_type (λ y m k. align_once K₁ left B y m k) (λ y m k. align_once K₂ left B y m k) on B (B.type_by_id id) m₁ m₂ (suc k₁) (suc k₂) p) t

    calls : 512 ≤ 512
    calls = omega arith

    same_alignment : (id : ℕ) → SameAsking (alignment_once K₁ 512 B id) (alignment_once K₂ 512 B id)
    unfolding alignment_once
    same_alignment id m₁ m₂ k₁ k₂ p = same_then (λ s. found s.align) (λ s. found s.align) (same_align 512 id calls m₁ m₂ k₁ k₂ p) (λ s n₁ n₂ i₁ i₂ q. same_found s.align n₁ n₂ i₁ i₂ q)

    same_off : (a bit_offset : ℕ) (r₁ : Asking M₁ Bool) (r₂ : Asking M₂ Bool) → SameAsking r₁ r₂ → SameAsking (off_align_once a bit_offset r₁) (off_align_once a bit_offset r₂)
    unfolding off_align_once
    same_off a bit_offset r₁ r₂ h m₁ m₂ k₁ k₂ p =
        same_if (eqb a 0) (refused align_zero m₁ k₁) (elim (eqb (bit_offset % (a * 8)) 0) [ true ↦ r₁ m₁ k₁ | false ↦ found true m₁ k₁ ]) (refused align_zero m₂ k₂) (elim (eqb (bit_offset % (a * 8)) 0) [ true ↦ r₂ m₂ k₂ | false ↦ found true m₂ k₂ ])
        (same_refused align_zero m₁ m₂ k₁ k₂) (same_if (eqb (bit_offset % (a * 8)) 0) (r₁ m₁ k₁) (found true m₁ k₁) (r₂ m₂ k₂) (found true m₂ k₂) (h m₁ m₂ k₁ k₂ p) (same_found true m₁ m₂ k₁ k₂ p))

    same_packed_members : (xs : List Member) → SameAsking (members_packed_once K₁ B xs) (members_packed_once K₂ B xs)
    unfolding members_packed_once
    same_packed_members [] m₁ m₂ k₁ k₂ p = same_found false m₁ m₂ k₁ k₂ p
    same_packed_members (x ∷ xs) m₁ m₂ k₁ k₂ p = go (same_packed_members xs)
      where
        go : SameAsking (members_packed_once K₁ B xs) (members_packed_once K₂ B xs) → SameOnce (members_packed_once K₁ B (x ∷ xs) m₁ k₁) (members_packed_once K₂ B (x ∷ xs) m₂ k₂)
        go on =
            same_if (eqb x.bit_size 0)
            (once_then (alignment_once K₁ 512 B x.type_id m₁ k₁) (λ a. off_align_once a x.bit_offset (λ m k. members_packed_once K₁ B xs m k))) (members_packed_once K₁ B xs m₁ k₁)
            (once_then (alignment_once K₂ 512 B x.type_id m₂ k₂) (λ a. off_align_once a x.bit_offset (λ m k. members_packed_once K₂ B xs m k))) (members_packed_once K₂ B xs m₂ k₂)
            (same_then (λ a. off_align_once a x.bit_offset (λ m k. members_packed_once K₁ B xs m k)) (λ a. off_align_once a x.bit_offset (λ m k. members_packed_once K₂ B xs m k)) (same_alignment x.type_id m₁ m₂ k₁ k₂ p)
            (λ a. same_off a x.bit_offset (λ m k. members_packed_once K₁ B xs m k) (λ m k. members_packed_once K₂ B xs m k) on))
            (on m₁ m₂ k₁ k₂ p)

    same_packed : (is_struct : Bool) (id sz : ℕ) (ms : List Member) → SameAsking (packed_once K₁ B is_struct id sz ms) (packed_once K₂ B is_struct id sz ms)
    unfolding packed_once
    same_packed false id sz ms m₁ m₂ k₁ k₂ p = same_found false m₁ m₂ k₁ k₂ p
    same_packed true id sz ms m₁ m₂ k₁ k₂ p =
        same_then {C = Bool} (λ a m k. elim (eqb (sz % a) 0) [ true ↦ members_packed_once K₁ B ms m k | false ↦ found true m k ]) (λ a m k. elim (eqb (sz % a) 0) [ true ↦ members_packed_once K₂ B ms m k | false ↦ found true m k ])
        (same_alignment id m₁ m₂ k₁ k₂ p)
        (λ a n₁ n₂ i₁ i₂ q. same_if (eqb (sz % a) 0) (members_packed_once K₁ B ms n₁ i₁) (found true n₁ i₁) (members_packed_once K₂ B ms n₂ i₂) (found true n₂ i₂) (same_packed_members ms n₁ n₂ i₁ i₂ q) (same_found true n₁ n₂ i₁ i₂ q))

    pub same_padding : (offset : ℕ) (x : Member) (packed : Bool) → SameAsking (padding_once K₁ B offset x packed) (padding_once K₂ B offset x packed)
    unfolding padding_once gap_align_once
    same_padding offset x packed m₁ m₂ k₁ k₂ p =
        same_if (leb x.bit_offset offset) (found [] m₁ k₁) (once_then (gap_align_once K₁ B packed x.type_id m₁ k₁) (λ a. found (pads_before B.placing B.ptr_sz offset x.bit_size (x.bit_offset - offset) a)))
        (found [] m₂ k₂) (once_then (gap_align_once K₂ B packed x.type_id m₂ k₂) (λ a. found (pads_before B.placing B.ptr_sz offset x.bit_size (x.bit_offset - offset) a)))
        (same_found [] m₁ m₂ k₁ k₂ p)
        (same_then (λ a. found (pads_before B.placing B.ptr_sz offset x.bit_size (x.bit_offset - offset) a)) (λ a. found (pads_before B.placing B.ptr_sz offset x.bit_size (x.bit_offset - offset) a))
        (same_if packed (found 1 m₁ k₁) (alignment_once K₁ 512 B x.type_id m₁ k₁) (found 1 m₂ k₂) (alignment_once K₂ 512 B x.type_id m₂ k₂) (same_found 1 m₁ m₂ k₁ k₂ p) (same_alignment x.type_id m₁ m₂ k₁ k₂ p))
        (λ a n₁ n₂ i₁ i₂ q. same_found (pads_before B.placing B.ptr_sz offset x.bit_size (x.bit_offset - offset) a) n₁ n₂ i₁ i₂ q))

    pub same_body : (is_struct : Bool) (id sz : ℕ) (ms : List Member) → SameAsking (body_once K₁ B is_struct id sz ms) (body_once K₂ B is_struct id sz ms)
    unfolding body_once measured_once union_align_once
    same_body is_struct id sz ms m₁ m₂ k₁ k₂ p =
        same_if B.placing (measured_once K₁ B is_struct id sz ms m₁ k₁) (packed_once K₁ B is_struct id sz ms m₁ k₁) (measured_once K₂ B is_struct id sz ms m₂ k₂) (packed_once K₂ B is_struct id sz ms m₂ k₂)
        (same_then (λ a m k. once_then (packed_once K₁ B is_struct id sz ms m k) (λ packed. plainly (judged B is_struct sz ms a packed))) (λ a m k. once_then (packed_once K₂ B is_struct id sz ms m k) (λ packed. plainly (judged B is_struct sz ms a packed)))
        (same_if is_struct (found 1 m₁ k₁) (alignment_once K₁ 512 B id m₁ k₁) (found 1 m₂ k₂) (alignment_once K₂ 512 B id m₂ k₂) (same_found 1 m₁ m₂ k₁ k₂ p) (same_alignment id m₁ m₂ k₁ k₂ p))
        (λ a n₁ n₂ i₁ i₂ q. same_then (λ packed. plainly (judged B is_struct sz ms a packed)) (λ packed. plainly (judged B is_struct sz ms a packed)) (same_packed is_struct id sz ms n₁ n₂ i₁ i₂ q) (λ packed. same_plainly (judged B is_struct sz ms a packed))))
        (same_packed is_struct id sz ms m₁ m₂ k₁ k₂ p)
