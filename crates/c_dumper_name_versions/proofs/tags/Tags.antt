-- Laws of declaration tags: what one prints, and the tags of a type, which rise. Assumes nothing.
use Prim.Native.Nat.{ℕ, zero, suc, ◌+◌, ◌-◌, ◌<◌, ◌≤◌}
use mathlib.Core.Path.{◌≡◌, refl, ap, ◌∙◌, sym}
use mathlib.Core.List.{List, [], ◌∷◌, ◌++◌}
use mathlib.Core.Bool.{Bool, true, false}
use native.Mathlib.Omega.{arith}
use borrow.Author.Tests.{lt-ltb, le-ltb, ne_eqb, eq-eqb}
use Rattle.std.specs.Prelude.{Err, IsErrAnd}
use Rattle.spec_bytes.specs.declared.refusal.Refusal.{Refusal}
use Rattle.spec_bytes.specs.text.Text.{ascii, whole, join}
use Rattle.spec_bytes.specs.text.Placed.{Placed, put_out, put_text}
use Rattle.base_keywords.specs.table.Fixed.{tag_name}
use Rattle.spec_bytes.proofs.text.TextLaws.{put_same, put_seq, put_empty, put_ended, put_halts, join_on}
use Rattle.spec_c_dumper.specs.rules.Types.{DeclTag, Btf as Rules}
use Rattle.spec_c_dumper.specs.rules.Names.{escaped}
use Rattle.spec_c_dumper.specs.rules.Decl.{attribute, decl_tag, decl_tags}
use Rattle.spec_type_table.specs.declared.types.TypeTable.{TypeTable}
use Rattle.spec_type_table.specs.declared.types.BtfType.{BtfType as Record}
use Rattle.spec_type_table.specs.Cells.{get_field}
use Rattle.spec_type_table.specs.declared.kind.Kind.{Kind}
use Rattle.spec_type_table.specs.declared.kind.Kind.TheVariants.{DeclTag as KindTag}
use Rattle.spec_type_table.specs.Kinds.{kind_named}
use Rattle.spec_type_table.proofs.KindNames.{decl_tag_named}
use Rattle.spec_type_table.specs.Names.{str_at}
use Rattle.spec_type_table.specs.Records.{kind_of, flag_of, record_by_id}
use Rattle.spec_type_table.specs.Table.{type_of, record_name, extra_word, tags_from, tags_of, btf_of}
use Rattle.spec_type_table.proofs.KindLaws.{by_kind, type_0, type_1, type_2, type_3, type_4, type_5, type_6, type_7, type_8, type_9, type_10, type_11, type_12, type_13, type_14, type_15, type_16, type_17, type_18, type_19, type_none}

-- ---- put_tag_name
module _ (t : List ℕ) (at r : Placed) (u : List ℕ) (is_decl : Bool) where
  pub put_decl_name : is_decl ≡ true → put_out r u ≡ put_text t at (whole (ascii "btf_decl_tag")) → put_out r u ≡ put_text t at (whole (tag_name is_decl))
  put_decl_name h e = rw h e

  pub put_type_name : is_decl ≡ false → put_out r u ≡ put_text t at (whole (ascii "btf_type_tag")) → put_out r u ≡ put_text t at (whole (tag_name is_decl))
  put_type_name h e = rw h e

-- ---- put_attribute
module _ (t : List ℕ) (at r : Placed) (u : List ℕ) (word name : List ℕ) where
  own_is : (is_attr : Bool) → is_attr ≡ true → ascii " __attribute__((" ++ name ++ ascii "))" ≡ attribute is_attr word name
  unfolding attribute
  own_is is_attr h = rw h refl

  worded_is : (is_attr : Bool) → is_attr ≡ false → ascii " __attribute__((" ++ word ++ ascii "(\"" ++ escaped name ++ ascii "\")))" ≡ attribute is_attr word name
  unfolding attribute
  worded_is is_attr h = rw h refl

  -- in three steps the name itself
  pub put_own : (is_attr : Bool) (name' : List ℕ) (n₁ : Placed) (t₁ : List ℕ) (n₂ : Placed) (t₂ : List ℕ) → is_attr ≡ true → name' ≡ name
      → put_out n₁ t₁ ≡ put_text t at (whole (ascii " __attribute__((")) → put_out n₂ t₂ ≡ put_text t₁ n₁ (whole name') → put_out r u ≡ put_text t₂ n₂ (whole (ascii "))"))
      → put_out r u ≡ put_text t at (whole (attribute is_attr word name))
  put_own is_attr name' n₁ t₁ n₂ t₂ h e o₁ o₂ o₃ =
      put_same t at _ _ r u (own_is is_attr h) (put_seq _ _ _ _ n₂ t₂ _ _ (put_seq _ _ _ _ n₁ t₁ _ _ o₁ (put_same _ _ _ _ _ _ e o₂)) o₃)

  -- in five steps the name in quotes after its word
  pub put_worded : (is_attr : Bool) (name' : List ℕ) (n₁ : Placed) (t₁ : List ℕ) (n₂ : Placed) (t₂ : List ℕ) (n₃ : Placed) (t₃ : List ℕ) (n₄ : Placed) (t₄ : List ℕ) → is_attr ≡ false → name' ≡ name
      → put_out n₁ t₁ ≡ put_text t at (whole (ascii " __attribute__((")) → put_out n₂ t₂ ≡ put_text t₁ n₁ (whole word) → put_out n₃ t₃ ≡ put_text t₂ n₂ (whole (ascii "(\""))
      → put_out n₄ t₄ ≡ put_text t₃ n₃ (whole (escaped name')) → put_out r u ≡ put_text t₄ n₄ (whole (ascii "\")))"))
      → put_out r u ≡ put_text t at (whole (attribute is_attr word name))
  put_worded is_attr name' n₁ t₁ n₂ t₂ n₃ t₃ n₄ t₄ h e o₁ o₂ o₃ o₄ o₅ =
      put_same t at _ _ r u (worded_is is_attr h)
      (put_seq _ _ _ _ n₄ t₄ _ _
      (put_seq _ _ _ _ n₃ t₃ _ _ (put_seq _ _ _ _ n₂ t₂ _ _ (put_seq _ _ _ _ n₁ t₁ _ _ o₁ o₂) o₃) (put_same _ _ _ _ _ _ (ap escaped e) o₄))
      o₅)

  -- where the start of either stopped the writing
  pub put_unstarted : (is_attr : Bool) (c : Refusal) → put_out (Err c) u ≡ put_text t at (whole (ascii " __attribute__((")) → IsErrAnd r (λ e. e ≡ c) → put_out r u ≡ put_text t at (whole (attribute is_attr word name))
  put_unstarted true c e i = put_same t at _ _ r u (own_is true refl) (put_halts t at (ascii " __attribute__((") (name ++ ascii "))") c r u e i)
  put_unstarted false c e i = put_same t at _ _ r u (worded_is false refl) (put_halts t at (ascii " __attribute__((") (word ++ ascii "(\"" ++ escaped name ++ ascii "\")))") c r u e i)

-- ---- emit_decl_tag
pub tag_named : (k : ℕ) (x : Kind) → x ≡ kind_named k → k ≡ 17 → x ≡ KindTag
tag_named k x e q = e ∙ ap kind_named q ∙ decl_tag_named

module _ (b : TypeTable) (s : List ℕ) (comp : ℕ) (t : Record) where
  no_tag : (kind_of t.info ≡ 17 → ⊥) → decl_tag comp (type_of b s t) ≡ []
  unfolding decl_tag
  no_tag n =
      by_kind
      (λ k. k ≡ kind_of t.info → decl_tag comp (type_of b s t) ≡ [])
      (λ e. ap (decl_tag comp) (type_0 b s t (sym e)))
      (λ e. ap (decl_tag comp) (type_1 b s t (sym e)))
      (λ e. ap (decl_tag comp) (type_2 b s t (sym e)))
      (λ e. ap (decl_tag comp) (type_3 b s t (sym e)))
      (λ e. ap (decl_tag comp) (type_4 b s t (sym e)))
      (λ e. ap (decl_tag comp) (type_5 b s t (sym e)))
      (λ e. ap (decl_tag comp) (type_6 b s t (sym e)))
      (λ e. ap (decl_tag comp) (type_7 b s t (sym e)))
      (λ e. ap (decl_tag comp) (type_8 b s t (sym e)))
      (λ e. ap (decl_tag comp) (type_9 b s t (sym e)))
      (λ e. ap (decl_tag comp) (type_10 b s t (sym e)))
      (λ e. ap (decl_tag comp) (type_11 b s t (sym e)))
      (λ e. ap (decl_tag comp) (type_12 b s t (sym e)))
      (λ e. ap (decl_tag comp) (type_13 b s t (sym e)))
      (λ e. ap (decl_tag comp) (type_14 b s t (sym e)))
      (λ e. ap (decl_tag comp) (type_15 b s t (sym e)))
      (λ e. ap (decl_tag comp) (type_16 b s t (sym e)))
      (λ e. absurd (n (sym e)))
      (λ e. ap (decl_tag comp) (type_18 b s t (sym e)))
      (λ e. ap (decl_tag comp) (type_19 b s t (sym e)))
      (λ m l e. ap (decl_tag comp) (type_none b s t (rw e at l)))
      (kind_of t.info) refl

  tag_is : kind_of t.info ≡ 17 → decl_tag comp (type_of b s t) ≡ decl_tag comp (DeclTag (flag_of t.info) (record_name b s t) t.type_id (extra_word b s t))
  tag_is e = ap (decl_tag comp) (type_17 b s t e)

  other_tag : kind_of t.info ≡ 17 → (extra_word b s t ≡ comp → ⊥) → decl_tag comp (type_of b s t) ≡ []
  unfolding decl_tag
  other_tag e n = tag_is e ∙ rw (ne_eqb (extra_word b s t) comp n, decl_tag)

  this_tag : kind_of t.info ≡ 17 → extra_word b s t ≡ comp → decl_tag comp (type_of b s t) ≡ attribute (flag_of t.info) (ascii "btf_decl_tag") (record_name b s t)
  unfolding decl_tag
  this_tag e n = tag_is e ∙ rw (eq-eqb (extra_word b s t) comp n, decl_tag)

module _ (b : TypeTable) (s w : List ℕ) (id comp : ℕ) (x : Record) (ex : x ≡ record_by_id b s w id) (text : List ℕ) (at : Placed) where
  tag_of : (l : List ℕ) → decl_tag comp (type_of b s x) ≡ l → l ≡ decl_tag comp ((btf_of b s w).type_by_id id)
  unfolding btf_of
  tag_of l e = sym e ∙ ap (λ (y : Record). decl_tag comp (type_of b s y)) ex

  pub tag_no_kind : (k : ℕ) → k ≡ kind_of x.info → (k ≡ 17 → ⊥) → put_out at text ≡ put_text text at (whole (decl_tag comp ((btf_of b s w).type_by_id id)))
  tag_no_kind k ek n = put_same text at [] _ at text (tag_of [] (no_tag b s comp x (λ e. n (ek ∙ e)))) (put_empty text at)

  pub tag_no_comp : (k i : ℕ) → k ≡ kind_of x.info → k ≡ 17 → i ≡ extra_word b s x → (i ≡ comp → ⊥) → put_out at text ≡ put_text text at (whole (decl_tag comp ((btf_of b s w).type_by_id id)))
  tag_no_comp k i ek e ei n = put_same text at [] _ at text (tag_of [] (other_tag b s comp x (sym ek ∙ e) (λ q. n (ei ∙ q)))) (put_empty text at)

  pub tag_shown : (k i : ℕ) (r : Placed) (u : List ℕ) → k ≡ kind_of x.info → k ≡ 17 → i ≡ extra_word b s x → i ≡ comp
      → put_out r u ≡ put_text text at (whole (attribute (flag_of x.info) (ascii "btf_decl_tag") (str_at b s x.name_off)))
      → put_out r u ≡ put_text text at (whole (decl_tag comp ((btf_of b s w).type_by_id id)))
  tag_shown k i r u ek e ei q o = put_same text at _ _ r u (tag_of _ (this_tag b s comp x (sym ek ∙ e) (sym ei ∙ q))) o

-- ---- the tags of a type
module _ (types : ℕ) (w : List ℕ) (last x : ℕ) where
  tags_low : (f : ℕ) → x ≤ last → tags_from f types w last x ≡ []
  unfolding tags_from
  tags_low zero h = refl
  tags_low (suc f) h = rw (le-ltb last x h, tags_from)

  tags_high : (f : ℕ) → last < x → types ≤ x → tags_from f types w last x ≡ []
  unfolding tags_from
  tags_high zero h k = refl
  tags_high (suc f) h k = rw (lt-ltb last x h, le-ltb x types k, tags_from)

  tags_more : (f : ℕ) → last < x → x < types → 0 < f → tags_from f types w last x ≡ x ∷ tags_from (f - 1) types w x (get_field w x 10)
  unfolding tags_from
  tags_more zero h k l = absurd (omega arith)
  tags_more (suc f) h k l = let e : f ≡ suc f - 1 = omega arith in rw (lt-ltb last x h, lt-ltb x types k, tags_from) (ap (λ (g : ℕ). x ∷ tags_from g types w x (get_field w x 10)) e)

-- what is left to write, from the tag x on, is the whole; with as many turns as are enough
pub TagsLeft : TypeTable → List ℕ → List ℕ → ℕ → ℕ → List ℕ → Placed → List ℕ → Placed → ℕ → ℕ → Type 0
TagsLeft b s w id comp text₀ at text p last x =
    (f : ℕ)
    × (4294967296 ≤ f + last)
    × (put_text text p (whole (decl_tags (btf_of b s w) comp (tags_from f b.types w last x))) ≡ put_text text₀ at (whole (decl_tags (btf_of b s w) comp ((btf_of b s w).decl_tags id))))

tags_join : (B : Rules) (comp x : ℕ) (l : List ℕ) (t : List ℕ) (at n : Placed) (t' : List ℕ) → put_out n t' ≡ put_text t at (whole (decl_tag comp (B.type_by_id x)))
    → put_text t' n (whole (decl_tags B comp l)) ≡ put_text t at (whole (decl_tags B comp (x ∷ l)))
unfolding decl_tags join
tags_join B comp x l t at n t' o = join_on t at (whole (decl_tag comp (B.type_by_id x))) (whole (decl_tags B comp l)) n t' o

module _ (b : TypeTable) (s w : List ℕ) (id comp : ℕ) (text₀ : List ℕ) (at : Placed) where
  pub tags_start : (x : ℕ) → x ≡ get_field w id 9 → TagsLeft b s w id comp text₀ at text₀ at 0 x
  unfolding TagsLeft btf_of tags_of
  tags_start x e = (4294967296, omega arith, ap (λ (y : ℕ). put_text text₀ at (whole (decl_tags (btf_of b s w) comp (tags_from 4294967296 b.types w 0 y)))) e)

  module _ (text : List ℕ) (p : Placed) (last x : ℕ) where
    none_left : (l : List ℕ) → l ≡ [] → put_text text p (whole (decl_tags (btf_of b s w) comp l)) ≡ put_text text₀ at (whole (decl_tags (btf_of b s w) comp ((btf_of b s w).decl_tags id)))
        → put_out p text ≡ put_text text₀ at (whole (decl_tags (btf_of b s w) comp ((btf_of b s w).decl_tags id)))
    unfolding decl_tags
    none_left l e q = put_empty text p ∙ sym (ap (λ (y : List ℕ). put_text text p (whole (decl_tags (btf_of b s w) comp y))) e) ∙ q

    pub tags_end : TagsLeft b s w id comp text₀ at text p last x → x ≤ last → put_out p text ≡ put_text text₀ at (whole (decl_tags (btf_of b s w) comp ((btf_of b s w).decl_tags id)))
    unfolding TagsLeft
    tags_end i h = none_left _ (tags_low b.types w last x i.0 h) i.2

    pub tags_past : TagsLeft b s w id comp text₀ at text p last x → last < x → b.types ≤ x → put_out p text ≡ put_text text₀ at (whole (decl_tags (btf_of b s w) comp ((btf_of b s w).decl_tags id)))
    unfolding TagsLeft
    tags_past i h k = none_left _ (tags_high b.types w last x i.0 h k) i.2

    pub tags_turn : (n : Placed) (t' : List ℕ) (y : ℕ) → TagsLeft b s w id comp text₀ at text p last x → last < x → x < b.types → x < 4294967296
        → put_out n t' ≡ put_text text p (whole (decl_tag comp ((btf_of b s w).type_by_id x))) → y ≡ get_field w x 10
        → TagsLeft b s w id comp text₀ at t' n x y
    unfolding TagsLeft
    tags_turn n t' y i h k l o ey = (i.0 - 1, enough, one_more (i.0 - 1) ey ∙ sym (ap (λ (z : List ℕ). put_text text p (whole (decl_tags (btf_of b s w) comp z))) (tags_more b.types w last x i.0 h k some)) ∙ i.2)
      where
        f : ℕ
        f = i.0

        fits : 4294967296 ≤ f + last
        fits = i.1

        some : 0 < f
        some = omega arith

        enough : 4294967296 ≤ f - 1 + x
        enough = omega arith

        join_one : (l : List ℕ) → put_text t' n (whole (decl_tags (btf_of b s w) comp l)) ≡ put_text text p (whole (decl_tags (btf_of b s w) comp (x ∷ l)))
        join_one l = tags_join (btf_of b s w) comp x l text p n t' o

        one_more : (g : ℕ) → y ≡ get_field w x 10 → put_text t' n (whole (decl_tags (btf_of b s w) comp (tags_from g b.types w x y))) ≡ put_text text p (whole (decl_tags (btf_of b s w) comp (x ∷ tags_from g b.types w x (get_field w x 10))))
        one_more g e = join_one (tags_from g b.types w x y) ∙ ap (λ (z : ℕ). put_text text p (whole (decl_tags (btf_of b s w) comp (x ∷ tags_from g b.types w x z)))) e

  -- where one tag stopped the writing
  pub tags_stop : (text : List ℕ) (last x : ℕ) (c : Refusal) (r : Placed) → TagsLeft b s w id comp text₀ at text (Err c) last x → IsErrAnd r (λ e. e ≡ c)
      → put_out r text ≡ put_text text₀ at (whole (decl_tags (btf_of b s w) comp ((btf_of b s w).decl_tags id)))
  unfolding TagsLeft
  tags_stop text last x c r i e = put_ended text r c (whole (decl_tags (btf_of b s w) comp (tags_from i.0 b.types w last x))) e ∙ i.2

  -- the tags of a component index, and of the same one
  pub tags_as : (k : ℕ) (r : Placed) (u : List ℕ) → k ≡ comp → put_out r u ≡ put_text text₀ at (whole (decl_tags (btf_of b s w) k ((btf_of b s w).decl_tags id)))
      → put_out r u ≡ put_text text₀ at (whole (decl_tags (btf_of b s w) comp ((btf_of b s w).decl_tags id)))
  tags_as k r u e o = o ∙ ap (λ (j : ℕ). put_text text₀ at (whole (decl_tags (btf_of b s w) j ((btf_of b s w).decl_tags id)))) e

  -- without a first tag there is none
  pub tags_none : (x : ℕ) → x ≡ get_field w id 9 → x ≡ 0 → put_out at text₀ ≡ put_text text₀ at (whole (decl_tags (btf_of b s w) comp ((btf_of b s w).decl_tags id)))
  tags_none x e z = tags_end text₀ at 0 x (tags_start x e) (omega (arith, z))
