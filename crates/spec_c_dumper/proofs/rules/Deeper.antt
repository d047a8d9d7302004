-- A size or an alignment that is got with some calls allowed is got with more.
use Prim.Native.Nat.{ℕ, zero, suc, ◌+◌, ◌*◌}
use mathlib.Core.Path.{◌≡◌, refl, ap, ◌∙◌}
use mathlib.Core.Bool.{Bool}
use mathlib.Core.List.{List, [], ◌∷◌}
use native.Mathlib.Numerals.{unary_clauses}
use Rattle.spec_c_dumper.specs.rules.Writer.{Ask, got, no, ask_then, checked, too_deep}
use Rattle.spec_c_dumper.specs.rules.Types.{Name, Member, BtfType, Void, Int, Ptr, Array, Composite, Enum, Enum64, Fwd, Typedef, Mod, Func, Var, Datasec, FuncProto, Float, DeclTag, TypeTag, Btf}
use Rattle.spec_c_dumper.specs.rules.Layout.{larger, size_of, get_size_of, align_members, align_of, get_align_of}
use Rattle.spec_c_dumper.proofs.rules.Asking.{no_got}

-- what f gets, g gets
abbrev pub GetsMore : (ℕ → Ask ℕ) → (ℕ → Ask ℕ) → Type 0
GetsMore f g = (id a : ℕ) → f id ≡ got a → g id ≡ got a

-- the first of two that were got
then_more : {A C : Type 0} (x y : Ask A) (k l : A → Ask C) (c : C) → ((a : A) → x ≡ got a → y ≡ got a) → ((a : A) → k a ≡ got c → l a ≡ got c)
    → ask_then x k ≡ got c → ask_then y l ≡ got c
unfolding ask_then
then_more (got a) y k l c hx hk e = ap (λ z. ask_then z l) (hx a refl) ∙ hk a e
then_more (no r) y k l c hx hk e = absurd (no_got r c e)

module _ (f g : ℕ → Ask ℕ) (h : GetsMore f g) where
  pub members_more : (x : ℕ) (ms : List Member) (a : ℕ) → align_members f x ms ≡ got a → align_members g x ms ≡ got a
  unfolding align_members
  members_more x [] a e = e
  members_more x (m ∷ ms) a e =
      then_more (f m.type_id) (g m.type_id) (λ b. align_members f (larger x b) ms) (λ b. align_members g (larger x b) ms) a (h m.type_id) (λ b. members_more (larger x b) ms a) e

  module _ (B : Btf) where
    align_of_more : (t : BtfType) (a : ℕ) → align_of B f t ≡ got a → align_of B g t ≡ got a
    unfolding align_of
    align_of_more Void a e = e
    align_of_more (Int n bits) a e = e
    align_of_more (Ptr t) a e = e
    align_of_more (Array t k) a e = h t a e
    align_of_more (Composite s n sz ms) a e = members_more 1 ms a e
    align_of_more (Enum s n sz vs) a e = e
    align_of_more (Enum64 s n sz vs) a e = e
    align_of_more (Fwd u n) a e = e
    align_of_more (Typedef n t) a e = h t a e
    align_of_more (Mod q t) a e = h t a e
    align_of_more (Func n) a e = e
    align_of_more (Var n) a e = e
    align_of_more (Datasec n) a e = e
    align_of_more (FuncProto r ps) a e = e
    align_of_more (Float n sz) a e = e
    align_of_more (DeclTag b n t k) a e = e
    align_of_more (TypeTag b n t) a e = h t a e

    size_of_more : (t : BtfType) (a : ℕ) → size_of B f t ≡ got a → size_of B g t ≡ got a
    unfolding size_of
    size_of_more Void a e = e
    size_of_more (Int n bits) a e = e
    size_of_more (Ptr t) a e = e
    size_of_more (Array t k) a e = then_more (f t) (g t) (λ s. checked (k * s)) (λ s. checked (k * s)) a (h t) (λ s q. q) e
    size_of_more (Composite s n sz ms) a e = e
    size_of_more (Enum s n sz vs) a e = e
    size_of_more (Enum64 s n sz vs) a e = e
    size_of_more (Fwd u n) a e = e
    size_of_more (Typedef n t) a e = h t a e
    size_of_more (Mod q t) a e = h t a e
    size_of_more (Func n) a e = e
    size_of_more (Var n) a e = e
    size_of_more (Datasec n) a e = e
    size_of_more (FuncProto r ps) a e = e
    size_of_more (Float n sz) a e = e
    size_of_more (DeclTag b n t k) a e = h t a e
    size_of_more (TypeTag b n t) a e = h t a e

module _ (B : Btf) where
  pub align_one_more : (n id a : ℕ) → get_align_of n B id ≡ got a → get_align_of (suc n) B id ≡ got a
  unfolding get_align_of
  align_one_more zero id a e = absurd (no_got too_deep a e)
  align_one_more (suc n) id a e = align_of_more (get_align_of n B) (get_align_of (suc n) B) (align_one_more n) B (B.type_by_id id) a e

  pub align_more : (k n id a : ℕ) → get_align_of n B id ≡ got a → get_align_of (n + k) B id ≡ got a
  align_more zero n id a e = simp unary_clauses e
  align_more (suc k) n id a e = simp unary_clauses (align_one_more (n + k) id a (align_more k n id a e))

  pub size_one_more : (n id a : ℕ) → get_size_of n B id ≡ got a → get_size_of (suc n) B id ≡ got a
  unfolding get_size_of
  size_one_more zero id a e = absurd (no_got too_deep a e)
  size_one_more (suc n) id a e = size_of_more (get_size_of n B) (get_size_of (suc n) B) (size_one_more n) B (B.type_by_id id) a e

  pub size_more : (k n id a : ℕ) → get_size_of n B id ≡ got a → get_size_of (n + k) B id ≡ got a
  size_more zero n id a e = simp unary_clauses e
  size_more (suc k) n id a e = simp unary_clauses (size_one_more (n + k) id a (size_more k n id a e))

  -- a composite's alignment is that of its members, one call deeper
  pub align_composite : (n id : ℕ) (s : Bool) (name : Name) (sz : ℕ) (ms : List Member) → B.type_by_id id ≡ Composite s name sz ms → get_align_of (suc n) B id ≡ align_members (get_align_of n B) 1 ms
  unfolding get_align_of align_of
  align_composite n id s name sz ms e = ap (align_of B (get_align_of n B)) e
