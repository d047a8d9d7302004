-- Sizes, alignments, the packed test, pads and chains go alike over two tables whose ids stand for each other. Assumes nothing.
use Prim.Native.Nat.{ℕ, zero, suc, ◌%◌}
use mathlib.Core.Path.{◌≡◌, refl, ap, ◌∙◌, sym}
use mathlib.Core.Bool.{Bool, true, false}
use mathlib.Core.List.{List, [], ◌∷◌}
use lib.Dec.{leb, eqb}
use borrow.Author.Tests.{eq-eqb, ne_eqb, eqb-true, eqb-false}
use Rattle.spec_c_dumper.specs.rules.Writer.{Ask, got, no, ask_then}
use Rattle.spec_c_dumper.specs.rules.Types.{Name, Member, Param, BtfType, Btf, Qualifier}
use Rattle.spec_c_dumper.specs.rules.Layout.{size_of, get_size_of, larger, align_members, align_of, get_align_of, off_align, members_packed, is_struct_packed, bit_padding, end_of}
use Rattle.spec_c_dumper.specs.rules.Placing.{field_size, Extent, with_member, extent_of, no_extent, union_align, measured, body_packed}
use Rattle.spec_c_dumper.specs.rules.Decl.{Entry, base, star, qual, array, proto, tag, link_of, chain_on, chain_of}
use Rattle.spec_cut.specs.section.Stands.{with_types, NoTag, SameMembers, no_members, member, SameParams, SameType, void, int, ptr, array as t_array, composite, enum, enum64, fwd, typedef, qualified, func, var, datasec, proto as t_proto, float, decl_tag, type_tag, Followed, Stands}

then_same : {A C : Type 0} {x y : Ask A} {k l : A → Ask C} → x ≡ y → ((a : A) → k a ≡ l a) → ask_then x k ≡ ask_then y l
then_same p q i = ask_then (p i) (λ a. q a i)

if_same : {A : Type 0} (b : Bool) {x y x' y' : Ask A} → x ≡ x' → y ≡ y' → ◌≡◌ {A = Ask A} (elim b [ true ↦ x | false ↦ y ]) (elim b [ true ↦ x' | false ↦ y' ])
if_same true p q = p
if_same false p q = q

module _ (B : Btf) (n : ℕ) (types : ℕ → BtfType) (tags : ℕ → List ℕ) (I : ℕ → ℕ → Type 0) (st : Stands B n types tags I) where
  abbrev B' : Btf
  B' = with_types B n types tags

  abbrev J : ℕ → ℕ → Type 0
  J = Followed B I

  -- tests of equal ids come out alike
  pub same_eqb : (x x' y y' : ℕ) → I x x' → I y y' → eqb x y ≡ eqb x' y'
  same_eqb x x' y y' i j = go (eqb x y) refl
    where
      go : (b : Bool) → eqb x y ≡ b → eqb x y ≡ eqb x' y'
      go true e = e ∙ sym (eq-eqb x' y' (st.one_number x x' y y' i j (eqb-true x y e)))
      go false e = e ∙ sym (ne_eqb x' y' (λ q. eqb-false x y e (st.one_id x x' y y' i j q)))

  pub same_zero : (x x' : ℕ) → I x x' → eqb x 0 ≡ eqb x' 0
  same_zero x x' i = same_eqb x x' 0 0 i st.zero_kept

  size_of_same : (size size' : ℕ → Ask ℕ) → ((x x' : ℕ) → J x x' → size x ≡ size' x') → {t t' : BtfType} → SameType J t t' → NoTag t → size_of B size t ≡ size_of B' size' t'
  unfolding size_of
  size_of_same size size' h void nt = refl
  size_of_same size size' h (int m b) nt = refl
  size_of_same size size' h (ptr t t' j) nt = refl
  size_of_same size size' h (t_array t t' k j) nt = then_same (h t t' j) (λ s. refl)
  size_of_same size size' h (composite s m z ms ms' j) nt = refl
  size_of_same size size' h (enum s m z vs) nt = refl
  size_of_same size size' h (enum64 s m z vs) nt = refl
  size_of_same size size' h (fwd u m) nt = refl
  size_of_same size size' h (typedef m t t' j) nt = h t t' j
  size_of_same size size' h (qualified q t t' j) nt = h t t' j
  size_of_same size size' h (func m) nt = refl
  size_of_same size size' h (var m) nt = refl
  size_of_same size size' h (datasec m) nt = refl
  size_of_same size size' h (t_proto r r' ps ps' j js) nt = refl
  size_of_same size size' h (float m z) nt = refl
  size_of_same size size' h (decl_tag a m t t' k) nt = absurd nt
  size_of_same size size' h (type_tag a m t t' j) nt = h t t' j

  pub size_same : (left x x' : ℕ) → J x x' → get_size_of left B x ≡ get_size_of left B' x'
  unfolding get_size_of
  size_same zero x x' j = refl
  size_same (suc left) x x' j = size_of_same (get_size_of left B) (get_size_of left B') (size_same left) (st.same_type x x' j.0) j.1

  align_members_same : (align align' : ℕ → Ask ℕ) → ((x x' : ℕ) → J x x' → align x ≡ align' x') → (a : ℕ) {ms ms' : List Member} → SameMembers J ms ms' → align_members align a ms ≡ align_members align' a ms'
  unfolding align_members
  align_members_same align align' h a no_members = refl
  align_members_same align align' h a (member m t t' o z j js) = then_same (h t t' j) (λ b. align_members_same align align' h (larger a b) js)

  align_of_same : (align align' : ℕ → Ask ℕ) → ((x x' : ℕ) → J x x' → align x ≡ align' x') → {t t' : BtfType} → SameType J t t' → align_of B align t ≡ align_of B' align' t'
  unfolding align_of
  align_of_same align align' h void = refl
  align_of_same align align' h (int m b) = refl
  align_of_same align align' h (ptr t t' j) = refl
  align_of_same align align' h (t_array t t' k j) = h t t' j
  align_of_same align align' h (composite s m z ms ms' js) = align_members_same align align' h 1 js
  align_of_same align align' h (enum s m z vs) = refl
  align_of_same align align' h (enum64 s m z vs) = refl
  align_of_same align align' h (fwd u m) = refl
  align_of_same align align' h (typedef m t t' j) = h t t' j
  align_of_same align align' h (qualified q t t' j) = h t t' j
  align_of_same align align' h (func m) = refl
  align_of_same align align' h (var m) = refl
  align_of_same align align' h (datasec m) = refl
  align_of_same align align' h (t_proto r r' ps ps' j js) = refl
  align_of_same align align' h (float m z) = refl
  align_of_same align align' h (decl_tag a m t t' k) = refl
  align_of_same align align' h (type_tag a m t t' j) = h t t' j

  pub align_same : (left x x' : ℕ) → J x x' → get_align_of left B x ≡ get_align_of left B' x'
  unfolding get_align_of
  align_same zero x x' j = refl
  align_same (suc left) x x' j = align_of_same (get_align_of left B) (get_align_of left B') (align_same left) (st.same_type x x' j.0)

  packed_same : {ms ms' : List Member} → SameMembers J ms ms' → members_packed B ms ≡ members_packed B' ms'
  unfolding members_packed
  packed_same no_members = refl
  packed_same (member m t t' o z j js) =
      if_same (eqb z 0) (then_same (align_same 512 t t' j) (λ a. ap (off_align a o) (packed_same js))) (packed_same js)

  pub struct_same : (is_struct : Bool) (sz : ℕ) {ms ms' : List Member} → SameMembers J ms ms' → is_struct_packed B is_struct sz ms ≡ is_struct_packed B' is_struct sz ms'
  unfolding is_struct_packed
  struct_same false sz js = refl
  struct_same true sz {ms} {ms'} js =
      then_same (align_members_same (get_align_of 511 B) (get_align_of 511 B') (align_same 511) 1 js) (λ a. if_same (eqb (sz % a) 0) (packed_same js) refl)

  module _ (m : Name) (t t' o z : ℕ) (j : J t t') where
    abbrev pub old_member : Member
    old_member = record { name = m; type_id = t; bit_offset = o; bit_size = z }

    abbrev pub new_member : Member
    new_member = record { name = m; type_id = t'; bit_offset = o; bit_size = z }

    pub padding_same : (offset : ℕ) (packed : Bool) → bit_padding B offset old_member packed ≡ bit_padding B' offset new_member packed
    unfolding bit_padding
    padding_same offset packed = if_same (leb o offset) refl (then_same (if_same packed refl (align_same 512 t t' j)) (λ a. refl))

    pub end_same : end_of B old_member ≡ end_of B' new_member
    unfolding end_of
    end_same = if_same (eqb z 0) (then_same (size_same 512 t t' j) (λ s. refl)) refl

  -- placing mode
  field_same : (m : Name) (t t' o z : ℕ) → J t t' → field_size B (record { name = m; type_id = t; bit_offset = o; bit_size = z }) ≡ field_size B' (record { name = m; type_id = t'; bit_offset = o; bit_size = z })
  unfolding field_size
  field_same m t t' o z j = if_same (eqb z 0) refl (size_same 512 t t' j)

  extent_same : (is_struct packed : Bool) (x : Extent) {ms ms' : List Member} → SameMembers J ms ms' → extent_of B is_struct packed x ms ≡ extent_of B' is_struct packed x ms'
  unfolding extent_of
  extent_same is_struct packed x no_members = refl
  extent_same is_struct packed x (member m t t' o z j js) =
      then_same (field_same m t t' o z j) (λ size. then_same (end_same m t t' o z j) (λ end. extent_same is_struct packed (with_member is_struct packed x size end o z) js))

  union_same : (is_struct : Bool) {ms ms' : List Member} → SameMembers J ms ms' → union_align B is_struct ms ≡ union_align B' is_struct ms'
  unfolding union_align
  union_same is_struct js = if_same is_struct refl (align_members_same (get_align_of 511 B) (get_align_of 511 B') (align_same 511) 1 js)

  measured_same : (is_struct : Bool) (sz : ℕ) {ms ms' : List Member} → SameMembers J ms ms' → measured B is_struct sz ms ≡ measured B' is_struct sz ms'
  unfolding measured
  measured_same is_struct sz js =
      then_same (union_same is_struct js) (λ a. then_same (struct_same is_struct sz js) (λ packed. then_same (extent_same is_struct packed no_extent js) (λ x. refl)))

  pub body_same : (is_struct : Bool) (sz : ℕ) {ms ms' : List Member} → SameMembers J ms ms' → body_packed B is_struct sz ms ≡ body_packed B' is_struct sz ms'
  unfolding body_packed
  body_same is_struct sz js = if_same B.placing (measured_same is_struct sz js) (struct_same is_struct sz js)

  -- ---- chains

  pub data SameEntry : Entry → Entry → Type 0 where
    e_base : (x x' : ℕ) → I x x' → SameEntry (base x) (base x')
    e_star : SameEntry star star
    e_qual : (q : Qualifier) → SameEntry (qual q) (qual q)
    e_array : (k : ℕ) → SameEntry (array k) (array k)
    e_proto : (ps ps' : List Param) → SameParams J ps ps' → SameEntry (proto ps) (proto ps')
    e_tag : (a : Bool) (m : Name) → SameEntry (tag a m) (tag a m)

  pub data SameChain : List Entry → List Entry → Type 0 where
    c_none : SameChain [] []
    c_more : {e e' : Entry} {c c' : List Entry} → SameEntry e e' → SameChain c c' → SameChain (e ∷ c) (e' ∷ c')

  pub data SameAsk : Ask (List Entry) → Ask (List Entry) → Type 0 where
    a_got : (c c' : List Entry) → SameChain c c' → SameAsk (got c) (got c')
    a_no : (e : ℕ) → SameAsk (no e) (no e)

  chain_on_same : (walk walk' : ℕ → List Entry → Ask (List Entry)) → ((x x' : ℕ) (c c' : List Entry) → I x x' → SameChain c c' → SameAsk (walk x c) (walk' x' c'))
      → (x x' : ℕ) (c c' : List Entry) → I x x' → SameChain c c' → {t t' : BtfType} → SameType J t t' → SameAsk (chain_on walk x c (link_of t)) (chain_on walk' x' c' (link_of t'))
  unfolding chain_on
  chain_on_same w w' h x x' c c' i r void = a_got _ _ (c_more (e_base x x' i) r)
  chain_on_same w w' h x x' c c' i r (int m b) = a_got _ _ (c_more (e_base x x' i) r)
  chain_on_same w w' h x x' c c' i r (ptr t t' j) = h t t' _ _ j.0 (c_more e_star r)
  chain_on_same w w' h x x' c c' i r (t_array t t' k j) = h t t' _ _ j.0 (c_more (e_array k) r)
  chain_on_same w w' h x x' c c' i r (composite s m z ms ms' js) = a_got _ _ (c_more (e_base x x' i) r)
  chain_on_same w w' h x x' c c' i r (enum s m z vs) = a_got _ _ (c_more (e_base x x' i) r)
  chain_on_same w w' h x x' c c' i r (enum64 s m z vs) = a_got _ _ (c_more (e_base x x' i) r)
  chain_on_same w w' h x x' c c' i r (fwd u m) = a_got _ _ (c_more (e_base x x' i) r)
  chain_on_same w w' h x x' c c' i r (typedef m t t' j) = a_got _ _ (c_more (e_base x x' i) r)
  chain_on_same w w' h x x' c c' i r (qualified q t t' j) = h t t' _ _ j.0 (c_more (e_qual q) r)
  chain_on_same w w' h x x' c c' i r (func m) = a_got _ _ (c_more (e_base x x' i) r)
  chain_on_same w w' h x x' c c' i r (var m) = a_got _ _ (c_more (e_base x x' i) r)
  chain_on_same w w' h x x' c c' i r (datasec m) = a_got _ _ (c_more (e_base x x' i) r)
  chain_on_same w w' h x x' c c' i r (t_proto p p' ps ps' j js) = h p p' _ _ j.0 (c_more (e_proto ps ps' js) r)
  chain_on_same w w' h x x' c c' i r (float m z) = a_got _ _ (c_more (e_base x x' i) r)
  chain_on_same w w' h x x' c c' i r (decl_tag a m t t' k) = a_got _ _ (c_more (e_base x x' i) r)
  chain_on_same w w' h x x' c c' i r (type_tag a m t t' j) = h t t' _ _ j.0 (c_more (e_tag a m) r)

  pub chain_same : (most x x' : ℕ) (c c' : List Entry) → I x x' → SameChain c c' → SameAsk (chain_of most B x c) (chain_of most B' x' c')
  unfolding chain_of
  chain_same zero x x' c c' i r = a_no 12
  chain_same (suc most) x x' c c' i r = chain_on_same (chain_of most B) (chain_of most B') (chain_same most) x x' c c' i r (st.same_type x x' i)
