-- The remembering way over any memory: the visits made before change nothing else, the height is no more than the calls left, and what remembering
-- keeps is kept. Assumes nothing.
use Prim.Native.Nat.{ℕ, zero, suc, ◌≤◌}
use native.Mathlib.Omega.{arith}
use mathlib.Core.Path.{◌≡◌, refl, ap, ◌∙◌, sym, subst}
use mathlib.Core.Bool.{Bool, true, false}
use mathlib.Core.List.{List, [], ◌∷◌}
use lib.Dec.{leb}
use borrow.Author.Tests.{leb-true}
use Rattle.spec_c_dumper.specs.rules.Writer.{too_deep}
use Rattle.spec_c_dumper.specs.rules.Types.{Member, member_types, BtfType, Void, Int, Ptr, Array, Composite, Enum, Enum64, Fwd, Typedef, Mod, Func, Var, Datasec, FuncProto, Float, DeclTag, TypeTag, Btf as Rules}
use Rattle.spec_c_dumper.specs.alignment_once.Once.{Remembered, Known, unknown, known, Keep, Once, found, refused, Asking, once_then, above, alone, widest, members_once, taken, type_once, keep_once, align_once}
use Rattle.spec_c_dumper.proofs.alignment_once.Right.{both_below}
use Rattle.btf_layout.specs.remembered.Words.{forget, ids_once}

-- members_once looks at the types alone
pub members_ids : {M : Type 0} (ask : ℕ → Asking M Remembered) (xs : List Member) (s : Remembered) (m : M) (k : ℕ) → members_once ask s xs m k ≡ ids_once ask s (member_types xs) m k
unfolding members_once ids_once
members_ids ask [] s m k = refl
members_ids ask (x ∷ xs) s m k = ap (once_then (ask x.type_id m (suc k))) (λ i t m' k'. members_ids ask xs (widest s t) m' k' i)

module _ {M A C : Type 0} (f : A → Asking M C) where
  -- what comes after an answer whose visits are forgotten
  unfoldable pub next : Once M A → Once M C
  next (found a m k) = forget (f a m 0)
  next (refused c m k) = refused c m 0

  pub then_next : ((a : A) (m : M) (k : ℕ) → forget (f a m k) ≡ forget (f a m 0)) → (x : Once M A) → forget (once_then x f) ≡ next (forget x)
  unfolding forget once_then next
  then_next h (found a m k) = h a m k
  then_next h (refused c m k) = refl

module _ {M : Type 0} (ask : ℕ → Asking M Remembered) (h : (x : ℕ) (m : M) (k : ℕ) → forget (ask x m k) ≡ forget (ask x m 0)) where
  pub forget_ids : (xs : List ℕ) (s : Remembered) (m : M) (k : ℕ) → forget (ids_once ask s xs m k) ≡ forget (ids_once ask s xs m 0)
  unfolding ids_once forget
  forget_ids [] s m k = refl
  forget_ids (x ∷ xs) s m k =
      let f : Remembered → Asking M Remembered = λ t m' k'. ids_once ask (widest s t) xs m' k' in
      then_next f (λ t m' k'. forget_ids xs (widest s t) m' k') (ask x m (suc k))
      ∙ ap (next f) (h x m (suc k) ∙ sym (h x m 1))
      ∙ sym (then_next f (λ t m' k'. forget_ids xs (widest s t) m' k') (ask x m 1))

  forget_type : (B : Rules) (t : BtfType) (m : M) (k : ℕ) → forget (type_once B ask t m k) ≡ forget (type_once B ask t m 0)
  unfolding type_once forget
  forget_type B Void m k = refl
  forget_type B (Int n b) m k = refl
  forget_type B (Ptr t) m k = refl
  forget_type B (Array t c) m k = h t m k
  forget_type B (Composite s n z ms) m k = ap forget (members_ids ask ms (alone 1) m k) ∙ forget_ids (member_types ms) (alone 1) m k ∙ sym (ap forget (members_ids ask ms (alone 1) m 0))
  forget_type B (Enum s n z vs) m k = refl
  forget_type B (Enum64 s n z vs) m k = refl
  forget_type B (Fwd u n) m k = refl
  forget_type B (Typedef n t) m k = h t m k
  forget_type B (Mod q t) m k = h t m k
  forget_type B (Func n) m k = refl
  forget_type B (Var n) m k = refl
  forget_type B (Datasec n) m k = refl
  forget_type B (FuncProto r ps) m k = refl
  forget_type B (Float n z) m k = refl
  forget_type B (DeclTag a n t c) m k = refl
  forget_type B (TypeTag a n t) m k = h t m k

module _ {M : Type 0} (K : Keep M) (B : Rules) where
  abbrev asked : ℕ → ℕ → Asking M Remembered
  asked left t m k = align_once K left B t m k

  forget_keep : (id : ℕ) (s : Remembered) (m : M) (k : ℕ) → forget (keep_once K id s m k) ≡ forget (keep_once K id s m 0)
  unfolding keep_once forget
  forget_keep id s m k = refl

  forget_taken : (left : ℕ) (s : Remembered) (m : M) (k : ℕ) → forget (taken left s m k) ≡ forget (taken left s m 0)
  unfolding taken forget
  forget_taken left s m k = by (leb s.height left)
    where
      by : (b : Bool) → forget {M = M} {A = Remembered} (elim b as (λ (b : Bool). Once M Remembered) [ true ↦ found s m k | false ↦ refused too_deep m k ]) ≡ forget {M = M} {A = Remembered} (elim b as (λ (b : Bool). Once M Remembered) [ true ↦ found s m 0 | false ↦ refused too_deep m 0 ])
      by true = refl
      by false = refl

  pub forget_align : (left id : ℕ) (m : M) (k : ℕ) → forget (align_once K left B id m k) ≡ forget (align_once K left B id m 0)
  unfolding align_once forget
  forget_align zero id m k = refl
  forget_align (suc left) id m k = go (λ t m' k'. forget_align left t m' k') (K.recall m id)
    where
      go : ((t : ℕ) (m' : M) (k' : ℕ) → forget (asked left t m' k') ≡ forget (asked left t m' 0)) → (q : Known)
          → forget {M = M} {A = Remembered} (elim q as (λ (q : Known). Once M Remembered) [ known s ↦ taken (suc left) s m k | unknown ↦ once_then (type_once B (asked left) (B.type_by_id id) m (suc k)) (keep_once K id) ])
          ≡ forget {M = M} {A = Remembered} (elim q as (λ (q : Known). Once M Remembered) [ known s ↦ taken (suc left) s m 0 | unknown ↦ once_then (type_once B (asked left) (B.type_by_id id) m 1) (keep_once K id) ])
      go on (known s) = forget_taken (suc left) s m k
      go on unknown =
          then_next (keep_once K id) (forget_keep id) (type_once B (asked left) (B.type_by_id id) m (suc k))
          ∙ ap (next (keep_once K id)) (forget_type (asked left) on B (B.type_by_id id) m (suc k) ∙ sym (forget_type (asked left) on B (B.type_by_id id) m 1))
          ∙ sym (then_next (keep_once K id) (forget_keep id) (type_once B (asked left) (B.type_by_id id) m 1))

-- ---- heights, and what is kept
module _ {M X : Type 0} (P : M → X) where
  abbrev pub Held : ℕ → M → Once M Remembered → Type 0
  Held left m (found s m' k) = (s.height ≤ left) × (P m' ≡ P m)
  Held left m (refused c m' k) = (0 ≤ left) × (P m' ≡ P m)

  held_after : (left : ℕ) (m m' : M) → P m' ≡ P m → (r : Once M Remembered) → Held left m' r → Held left m r
  held_after left m m' e (found s m'' k) h = (h.0, h.1 ∙ e)
  held_after left m m' e (refused c m'' k) h = (h.0, h.1 ∙ e)

  pub held_forget : (left : ℕ) (m : M) (r : Once M Remembered) → Held left m r → Held left m (forget r)
  unfolding forget
  held_forget left m (found s m' k) h = h
  held_forget left m (refused c m' k) h = h

  module _ (left : ℕ) (ask : ℕ → Asking M Remembered) (h : (x : ℕ) (m : M) (k : ℕ) → Held left m (ask x m k)) where
    pub ids_held : (xs : List ℕ) (s : Remembered) (m : M) (k : ℕ) → s.height ≤ left → Held left m (ids_once ask s xs m k)
    unfolding ids_once once_then
    ids_held [] s m k l = (l, refl)
    ids_held (x ∷ xs) s m k l = go (λ t m' k'. ids_held xs (widest s t) m' k') (ask x m (suc k)) (h x m (suc k))
      where
        go : ((t : Remembered) (m' : M) (k' : ℕ) → (widest s t).height ≤ left → Held left m' (ids_once ask (widest s t) xs m' k')) → (r : Once M Remembered) → Held left m r → Held left m (once_then r (λ t m' k'. ids_once ask (widest s t) xs m' k'))
        go on (found t m' k') q = held_after left m m' q.1 (ids_once ask (widest s t) xs m' k') (on t m' k' (both_below s.height t.height left l q.0))
        go on (refused c m' k') q = q

    type_held : (B : Rules) (t : BtfType) (m : M) (k : ℕ) → Held left m (type_once B ask t m k)
    unfolding type_once
    type_held B Void m k = (omega arith, refl)
    type_held B (Int n b) m k = (omega arith, refl)
    type_held B (Ptr t) m k = (omega arith, refl)
    type_held B (Array t c) m k = h t m k
    type_held B (Composite s n z ms) m k = subst (Held left m) (sym (members_ids ask ms (alone 1) m k)) (ids_held (member_types ms) (alone 1) m k (omega arith))
    type_held B (Enum s n z vs) m k = (omega arith, refl)
    type_held B (Enum64 s n z vs) m k = (omega arith, refl)
    type_held B (Fwd u n) m k = (omega arith, refl)
    type_held B (Typedef n t) m k = h t m k
    type_held B (Mod q t) m k = h t m k
    type_held B (Func n) m k = (omega arith, refl)
    type_held B (Var n) m k = (omega arith, refl)
    type_held B (Datasec n) m k = (omega arith, refl)
    type_held B (FuncProto r ps) m k = (omega arith, refl)
    type_held B (Float n z) m k = (omega arith, refl)
    type_held B (DeclTag a n t c) m k = (omega arith, refl)
    type_held B (TypeTag a n t) m k = h t m k

  module _ (K : Keep M) (keeps : (id : ℕ) (s : Remembered) (m : M) → P (K.remember id s m) ≡ P m) (B : Rules) where
    keep_held : (left id : ℕ) (m : M) (r : Once M Remembered) → Held left m r → Held (suc left) m (once_then r (keep_once K id))
    unfolding once_then keep_once
    keep_held left id m (found s m' k) h = (omega (arith, h.0), keeps id (above s) m' ∙ h.1)
    keep_held left id m (refused c m' k) h = (omega arith, h.1)

    taken_held : (left : ℕ) (s : Remembered) (m : M) (k : ℕ) → Held left m (taken left s m k)
    unfolding taken
    taken_held left s m k = by (leb s.height left) refl
      where
        by : (b : Bool) → leb s.height left ≡ b → Held left m (elim b as (λ (b : Bool). Once M Remembered) [ true ↦ found s m k | false ↦ refused too_deep m k ])
        by true e = (leb-true s.height left e, refl)
        by false e = (omega arith, refl)

    pub align_held : (left id : ℕ) (m : M) (k : ℕ) → Held left m (align_once K left B id m k)
    unfolding align_once
    align_held zero id m k = (omega arith, refl)
    align_held (suc left) id m k = go (λ t m' k'. align_held left t m' k') (K.recall m id)
      where
        go : ((t : ℕ) (m' : M) (k' : ℕ) → Held left m' (align_once K left B t m' k')) → (q : Known)
            → Held (suc left) m (elim q as (λ (q : Known). Once M Remembered) [ known s ↦ taken (suc left) s m k | unknown ↦ once_then (type_once B (λ t m' k'. align_once K left B t m' k') (B.type_by_id id) m (suc k)) (keep_once K id) ])
        go on (known s) = taken_held (suc left) s m k
        go on unknown = keep_held left id m (type_once B (λ t m' k'. align_once K left B t m' k') (B.type_by_id id) m (suc k)) (type_held left (λ t m' k'. align_once K left B t m' k') on B (B.type_by_id id) m (suc k))
