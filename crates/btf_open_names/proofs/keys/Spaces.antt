-- What the key of a holder stands for. Assumes nothing.
use Prim.Native.Nat.{ℕ}
use mathlib.Core.Path.{◌≡◌, refl, ap, ap₂, ◌∙◌, sym}
use mathlib.Core.List.{List}
use mathlib.Core.Bool.{Bool, true, false}
use native.Mathlib.Omega.{arith}
use Rattle.std.proofs.Common.{Option, None, Some}
use Rattle.spec_type_table.specs.declared.types.TypeTable.{TypeTable}
use Rattle.spec_type_table.specs.Names.{name_at}
use Rattle.btf_open_names.specs.declared.keys.keys.Space.{Space}
use Rattle.btf_open_names.specs.declared.keys.keys.Space.TheVariants.{Tag, Identifier}
use Rattle.btf_open_names.specs.declared.keys.keys.Key.{Key}
use Rattle.btf_open_names.specs.keys.Keys.{space_number, key_list, loaded}
use Rattle.btf_open_names.specs.name_classes.Same.{same_list}
use Rattle.btf_open_names.specs.name_classes.Classes.{key_of, key_in, space_of, space_at, name_of, record_p}
use Rattle.btf_open_names.specs.name_classes.Table.{hash_from, hash_key}
use Rattle.btf_open_names.proofs.name_classes.Keys as keys
use Rattle.btf_open_names.proofs.name_classes.Names.{same_self}
use mathlib.Core.Logic.{◌⊎◌, inl, inr}
use Rattle.spec_type_table.specs.declared.kind.Kind.{Kind}
use Rattle.spec_type_table.specs.declared.kind.Kind.TheVariants.{Struct, Union, Enum, Fwd, Typedef, Enum64}
use Rattle.spec_type_table.specs.Kinds.{kind_named}
use Rattle.spec_type_table.proofs.KindNames.{struct_number, union_number, enum_number, fwd_number, typedef_number, enum64_number, struct_named, union_named, enum_named, fwd_named, typedef_named, enum64_named}
use Rattle.spec_bytes.specs.words.Words.{get_word}

pub spaced : (x : Space) → space_number x ≡ 2 → ⊥
spaced Tag e = omega arith
spaced Identifier e = omega arith

number_one : (x y : Space) → space_number x ≡ space_number y → x ≡ y
number_one Tag Tag e = refl
number_one Tag Identifier e = absurd (omega arith)
number_one Identifier Tag e = absurd (omega arith)
number_one Identifier Identifier e = refl

pub numbers_other : (x y : Space) → (x ≡ y → ⊥) → space_number x ≡ space_number y → ⊥
numbers_other x y n e = n (number_one x y e)

-- ---- whether two keys are the same
module _ (s : List ℕ) (o p : Option Key) where
  alike : (k l : Option Key) → o ≡ k → p ≡ l → same_list (loaded s k) (loaded s l) ≡ same_list (loaded s o) (loaded s p)
  alike k l e f = ap₂ (λ (x y : Option Key). same_list (loaded s x) (loaded s y)) (sym e) (sym f)

  pub same_none : o ≡ None → p ≡ None → true ≡ same_list (loaded s o) (loaded s p)
  same_none e f = sym (same_self (key_of s 2 0)) ∙ alike None None e f

  pub same_one : (y : Key) → o ≡ None → p ≡ Some y → false ≡ same_list (loaded s o) (loaded s p)
  same_one y e f = keys.keys_other s 2 (space_number y.space) 0 y.name (λ z. spaced y.space (sym z)) ∙ alike None (Some y) e f

  pub same_other_one : (x : Key) → o ≡ Some x → p ≡ None → false ≡ same_list (loaded s o) (loaded s p)
  same_other_one x e f = keys.keys_other s (space_number x.space) 2 x.name 0 (spaced x.space) ∙ alike (Some x) None e f

  module _ (x y : Key) (e : o ≡ Some x) (f : p ≡ Some y) where
    pub same_other : (x.space ≡ y.space → ⊥) → false ≡ same_list (loaded s o) (loaded s p)
    same_other n = keys.keys_other s (space_number x.space) (space_number y.space) x.name y.name (numbers_other x.space y.space n) ∙ alike (Some x) (Some y) e f

    pub same_some : x.space ≡ y.space → (r : Bool) → r ≡ same_list (name_at s x.name) (name_at s y.name) → r ≡ same_list (loaded s o) (loaded s p)
    same_some q r t =
        keys.keys_same s (space_number x.space) (space_number y.space) x.name y.name r (ap space_number q) (spaced x.space) t
        ∙ alike (Some x) (Some y) e f

-- ---- the space of a kind
module _ (k : ℕ) (x : Kind) (e : x ≡ kind_named k) where
  pub tag_space : (x ≡ Struct) ⊎ ((x ≡ Union) ⊎ ((x ≡ Enum) ⊎ ((x ≡ Fwd) ⊎ (x ≡ Enum64)))) → 0 ≡ space_of k
  tag_space (inl q) = keys.space_4_7 k (omega (arith, struct_number k (sym e ∙ q))) (omega (arith, struct_number k (sym e ∙ q)))
  tag_space (inr (inl q)) = keys.space_4_7 k (omega (arith, union_number k (sym e ∙ q))) (omega (arith, union_number k (sym e ∙ q)))
  tag_space (inr (inr (inl q))) = keys.space_4_7 k (omega (arith, enum_number k (sym e ∙ q))) (omega (arith, enum_number k (sym e ∙ q)))
  tag_space (inr (inr (inr (inl q)))) = keys.space_4_7 k (omega (arith, fwd_number k (sym e ∙ q))) (omega (arith, fwd_number k (sym e ∙ q)))
  tag_space (inr (inr (inr (inr q)))) = keys.space_19 k (enum64_number k (sym e ∙ q))

  pub typedef_space : x ≡ Typedef → 1 ≡ space_of k
  typedef_space q = keys.space_8 k (typedef_number k (sym e ∙ q))

  pub no_space : (x ≡ Struct → ⊥) → (x ≡ Union → ⊥) → (x ≡ Enum → ⊥) → (x ≡ Fwd → ⊥) → (x ≡ Typedef → ⊥) → (x ≡ Enum64 → ⊥) → 2 ≡ space_of k
  no_space a b c d f g =
      keys.space_else k
      (λ q. a (e ∙ ap kind_named q ∙ struct_named))
      (λ q. b (e ∙ ap kind_named q ∙ union_named))
      (λ q. c (e ∙ ap kind_named q ∙ enum_named))
      (λ q. d (e ∙ ap kind_named q ∙ fwd_named))
      (λ q. g (e ∙ ap kind_named q ∙ enum64_named))
      (λ q. f (e ∙ ap kind_named q ∙ typedef_named))

-- ---- the key of a holder
nameless : (s : List ℕ) (x p q : ℕ) → x ≡ 2 → key_of s 2 p ≡ key_of s x q
unfolding key_of
nameless s x p q e = rw e

module _ (b : TypeTable) (s w : List ℕ) (h at : ℕ) (ea : at ≡ get_word w (record_p b.types h)) where
  pub key_none : space_at b s at h ≡ 2 → key_of s 2 0 ≡ key_in b s w h
  key_none e = nameless s (space_at b s at h) 0 (name_of b s at) e ∙ keys.key_is b s w h _ at (space_at b s at h) (name_of b s at) refl ea refl refl

  pub key_some : (k : Key) → space_number k.space ≡ space_at b s at h → k.name ≡ name_of b s at → key_list s k ≡ key_in b s w h
  key_some k e f = keys.key_is b s w h _ at (space_number k.space) k.name refl ea e f

pub hash_is : (s : List ℕ) (k : Key) (n r : ℕ) → n ≡ space_number k.space → r ≡ hash_from n (name_at s k.name) → r ≡ hash_key (key_list s k)
unfolding hash_from hash_key
hash_is s k n r e f = f ∙ ap (λ (x : ℕ). hash_from x (name_at s k.name)) e ∙ ap hash_key (sym (keys.key_some s (space_number k.space) k.name (spaced k.space)))
