-- What refuses a question with a memory: 12, 15, 16 and 18. Assumes nothing.
use Prim.Native.Nat.{ℕ, zero, suc, ◌-◌, ◌*◌, ◌%◌}
use mathlib.Core.Path.{refl}
use mathlib.Core.Bool.{Bool, true, false, ◌&&◌}
use mathlib.Core.List.{List, [], ◌∷◌}
use mathlib.Core.Logic.{inl, inr}
use lib.Dec.{leb, eqb}
use Rattle.spec_c_dumper.specs.rules.Writer.{Ask, checked, too_deep}
use Rattle.spec_c_dumper.specs.rules.Types.{Member, BtfType, Void, Int, Ptr, Array, Composite, Enum, Enum64, Fwd, Typedef, Mod, Func, Var, Datasec, FuncProto, Float, DeclTag, TypeTag, Btf}
use Rattle.spec_c_dumper.specs.rules.Layout.{pads_before}
use Rattle.spec_c_dumper.specs.rules.Placing.{extent_of, no_extent, size_fits}
use Rattle.spec_c_dumper.proofs.rules.Closed.{Code, Asks, gets, refuses, asks_then, asks_if, asks_checked, asks_extent}
use Rattle.spec_c_dumper.specs.alignment_once.Once.{Remembered, Known, unknown, known, Keep, Once, found, refused, Asking, once_then, widest, alone, members_once, taken, type_once, keep_once, align_once, alignment_once}
use Rattle.spec_c_dumper.specs.alignment_once.Steps.{plainly, off_align_once, members_packed_once, packed_once, gap_align_once, padding_once, union_align_once, judged, measured_once, body_once}

module _ {M : Type 0} where
  abbrev pub Coded : {A : Type 0} → Once M A → Type 0
  Coded (found a m k) = Unit {0}
  Coded (refused c m k) = Code c

  coded_then : {A C : Type 0} (r : Once M A) (f : A → Asking M C) → Coded r → ((a : A) (m : M) (k : ℕ) → Coded (f a m k)) → Coded (once_then r f)
  unfolding once_then
  coded_then (found a m k) f h on = on a m k
  coded_then (refused c m k) f h on = h

  coded_if : {A : Type 0} (b : Bool) (p q : Once M A) → Coded p → Coded q → Coded {A = A} (elim b [ true ↦ p | false ↦ q ])
  coded_if true p q h g = h
  coded_if false p q h g = g

  coded_plainly : {A : Type 0} (x : Ask A) → Asks x → (m : M) (k : ℕ) → Coded (plainly x m k)
  unfolding plainly
  coded_plainly _ (gets a) m k = tt
  coded_plainly _ (refuses c q) m k = q

-- ---- what asks for no alignment
module _ (B : Btf) where
  judged_asks : (is_struct : Bool) (sz : ℕ) (ms : List Member) (a : ℕ) (packed : Bool) → Asks (judged B is_struct sz ms a packed)
  unfolding judged
  judged_asks is_struct sz ms a packed =
      asks_then (extent_of B is_struct packed no_extent ms) _ (asks_extent B is_struct packed no_extent ms)
      (λ x. asks_then (checked (8 * sz)) _ (asks_checked (8 * sz))
      (λ bits. asks_if (x.fits && size_fits is_struct a x.last bits) _ _ (gets packed) (refuses 18 (inr (inr (inr refl))))))

-- ---- alignments
module _ {M : Type 0} where
  coded_members : (ask : ℕ → Asking M Remembered) → ((x : ℕ) (m : M) (k : ℕ) → Coded (ask x m k)) → (xs : List Member) (s : Remembered) (m : M) (k : ℕ) → Coded (members_once ask s xs m k)
  unfolding members_once
  coded_members ask h [] s m k = tt
  coded_members ask h (x ∷ xs) s m k = coded_then (ask x.type_id m (suc k)) (λ t m' k'. members_once ask (widest s t) xs m' k') (h x.type_id m (suc k)) (λ t m' k'. coded_members ask h xs (widest s t) m' k')

  coded_type : (B : Btf) (ask : ℕ → Asking M Remembered) → ((x : ℕ) (m : M) (k : ℕ) → Coded (ask x m k)) → (t : BtfType) (m : M) (k : ℕ) → Coded (type_once B ask t m k)
  unfolding type_once
  coded_type B ask h Void m k = tt
  coded_type B ask h (Int n b) m k = tt
  coded_type B ask h (Ptr t) m k = tt
  coded_type B ask h (Array t c) m k = h t m k
  coded_type B ask h (Composite s n z ms) m k = coded_members ask h ms (alone 1) m k
  coded_type B ask h (Enum s n z vs) m k = tt
  coded_type B ask h (Enum64 s n z vs) m k = tt
  coded_type B ask h (Fwd u n) m k = tt
  coded_type B ask h (Typedef n t) m k = h t m k
  coded_type B ask h (Mod q t) m k = h t m k
  coded_type B ask h (Func n) m k = tt
  coded_type B ask h (Var n) m k = tt
  coded_type B ask h (Datasec n) m k = tt
  coded_type B ask h (FuncProto r ps) m k = tt
  coded_type B ask h (Float n z) m k = tt
  coded_type B ask h (DeclTag a n t c) m k = tt
  coded_type B ask h (TypeTag a n t) m k = h t m k

  coded_taken : (left : ℕ) (s : Remembered) (m : M) (k : ℕ) → Coded (taken left s m k)
  unfolding taken
  coded_taken left s m k = coded_if (leb s.height left) (found s m k) (refused too_deep m k) tt (inl refl)

  module _ (K : Keep M) (B : Btf) where
    coded_align : (left id : ℕ) (m : M) (k : ℕ) → Coded (align_once K left B id m k)
    unfolding align_once keep_once
    coded_align zero id m k = inl refl
    coded_align (suc left) id m k = go (λ t m' k'. coded_align left t m' k') (K.recall m id)
      where
        go : ((t : ℕ) (m' : M) (k' : ℕ) → Coded (align_once K left B t m' k')) → (q : Known)
            → Coded {M = M} {A = Remembered} (elim q as (λ (q : Known). Once M Remembered) [ known s ↦ taken (suc left) s m k | unknown ↦ once_then (type_once B (λ t m' k'. align_once K left B t m' k') (B.type_by_id id) m (suc k)) (keep_once K id) ])
        go on (known s) = coded_taken (suc left) s m k
        go on unknown = coded_then (type_once B (λ t m' k'. align_once K left B t m' k') (B.type_by_id id) m (suc k)) (keep_once K id) (coded_type B (λ t m' k'. align_once K left B t m' k') on (B.type_by_id id) m (suc k)) (λ s m' k'. tt)

    coded_alignment : (left id : ℕ) (m : M) (k : ℕ) → Coded (alignment_once K left B id m k)
    unfolding alignment_once
    coded_alignment left id m k = coded_then (align_once K left B id m k) (λ s. found s.align) (coded_align left id m k) (λ s m' k'. tt)

    coded_packed_members : (xs : List Member) (m : M) (k : ℕ) → Coded (members_packed_once K B xs m k)
    unfolding members_packed_once off_align_once
    coded_packed_members [] m k = tt
    coded_packed_members (x ∷ xs) m k =
        coded_if (eqb x.bit_size 0) _ _
        (coded_then (alignment_once K 512 B x.type_id m k) (λ a. off_align_once a x.bit_offset (λ m' k'. members_packed_once K B xs m' k')) (coded_alignment 512 x.type_id m k) (λ a m' k'.
        coded_if (eqb a 0) _ _ (inr (inl refl)) (coded_if (eqb (x.bit_offset % (a * 8)) 0) _ _ (coded_packed_members xs m' k') tt)))
        (coded_packed_members xs m k)

    coded_packed : (is_struct : Bool) (id sz : ℕ) (ms : List Member) (m : M) (k : ℕ) → Coded (packed_once K B is_struct id sz ms m k)
    unfolding packed_once
    coded_packed is_struct id sz ms m k = by is_struct
      where
        by : (q : Bool) → Coded {M = M} {A = Bool} (elim q as (λ (z : Bool). Once M Bool) [ false ↦ found false m k | true ↦ once_then (alignment_once K 512 B id m k) (λ a m' k'. elim (eqb (sz % a) 0) [ true ↦ members_packed_once K B ms m' k' | false ↦ found true m' k' ]) ])
        by false = tt
        by true = coded_then (alignment_once K 512 B id m k) (λ a m' k'. elim (eqb (sz % a) 0) [ true ↦ members_packed_once K B ms m' k' | false ↦ found true m' k' ]) (coded_alignment 512 id m k) (λ a m' k'. coded_if (eqb (sz % a) 0) (members_packed_once K B ms m' k') (found true m' k') (coded_packed_members ms m' k') tt)

    pub coded_padding : (offset : ℕ) (x : Member) (packed : Bool) (m : M) (k : ℕ) → Coded (padding_once K B offset x packed m k)
    unfolding padding_once gap_align_once
    coded_padding offset x packed m k =
        coded_if (leb x.bit_offset offset) _ _ tt
        (coded_then (gap_align_once K B packed x.type_id m k) (λ a. found (pads_before B.placing B.ptr_sz offset x.bit_size (x.bit_offset - offset) a)) (coded_if packed (found 1 m k) (alignment_once K 512 B x.type_id m k) tt (coded_alignment 512 x.type_id m k)) (λ a m' k'. tt))

    pub coded_body : (is_struct : Bool) (id sz : ℕ) (ms : List Member) (m : M) (k : ℕ) → Coded (body_once K B is_struct id sz ms m k)
    unfolding body_once measured_once union_align_once
    coded_body is_struct id sz ms m k =
        coded_if B.placing _ _
        (coded_then (union_align_once K B is_struct id m k) (λ a m₁ k₁. once_then (packed_once K B is_struct id sz ms m₁ k₁) (λ packed. plainly (judged B is_struct sz ms a packed)))
        (coded_if is_struct (found 1 m k) (alignment_once K 512 B id m k) tt (coded_alignment 512 id m k))
        (λ a m₁ k₁. coded_then (packed_once K B is_struct id sz ms m₁ k₁) (λ packed. plainly (judged B is_struct sz ms a packed)) (coded_packed is_struct id sz ms m₁ k₁) (λ packed m₂ k₂. coded_plainly (judged B is_struct sz ms a packed) (judged_asks B is_struct sz ms a packed) m₂ k₂)))
        (coded_packed is_struct id sz ms m k)
