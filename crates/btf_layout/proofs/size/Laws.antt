-- What each return of the code comes to: sizes, ends of members. Assumes nothing.
use Prim.Native.Nat.{ℕ, suc, ◌+◌, ◌-◌, ◌*◌, ◌%◌, ◌<◌, ◌≤◌}
use mathlib.Core.Path.{◌≡◌, ap, ◌∙◌, sym}
use mathlib.Core.List.{List}
use mathlib.Core.Logic.{◌⊎◌, inl, inr}
use native.Mathlib.Omega.{arith}
use borrow.Author.Tests.{lt-ltb, le-ltb, ne_eqb}
use Rattle.spec_c_dumper.specs.rules.Writer.{Ask, got, ask_then, checked}
use Rattle.spec_c_dumper.specs.rules.Layout.{octets, size_of, get_size_of, end_of}
use Rattle.spec_type_table.specs.declared.types.TypeTable.{TypeTable}
use Rattle.spec_type_table.specs.declared.types.BtfType.{BtfType as Record}
use Rattle.spec_type_table.specs.declared.types.BtfMember.{BtfMember}
use Rattle.spec_type_table.specs.Records.{kind_of, record_by_id}
use Rattle.spec_type_table.specs.Table.{rule_member, extra_word, nelems_word, type_of, btf_of}
use Rattle.spec_type_table.specs.declared.kind.Kind.{Kind}
use Rattle.spec_type_table.specs.declared.kind.Kind.TheVariants.{Void, Int, Ptr, Array, Struct, Union, Enum, Fwd, Typedef, Volatile, Const, Restrict, Func, FuncProto, Var, Datasec, Float, DeclTag, TypeTag, Enum64, Unknown}
use Rattle.spec_type_table.specs.Kinds.{kind_named}
use Rattle.spec_type_table.proofs.KindTypes.{type_as, type_is}
use Rattle.std.specs.Prelude.{◌^◌, Option, Some, None, SomeIff, Result, Ok, Err}
use Rattle.std.specs.Int.{div_ceil}
use Rattle.std.specs.Option.{ok_or}
use Rattle.spec_bytes.specs.declared.refusal.Refusal.{Refusal}
use Rattle.spec_bytes.specs.declared.refusal.Refusal.TheVariants.{TooDeep, Overflow}
use Rattle.btf_layout.specs.size.Answers.{ask_of}

abbrev Code : Type 0
Code = Result ℕ Refusal

-- ---- numbers of 32 bits
pub fits_checked : (n : ℕ) (o : Option ℕ) → SomeIff o (n < 2 ^ 32) n → (r : Code) → r ≡ ok_or o Overflow → ask_of r ≡ checked n
unfolding ask_of checked
fits_checked n (Some x) h r e = ap ask_of e ∙ ap got h.1 ∙ rw (lt-ltb n 4294967296 h.0, checked)
fits_checked n None h r e = ap ask_of e ∙ rw (le-ltb n 4294967296 (le_not n h), checked)
  where
    le_not : (n : ℕ) → (n < 4294967296 → ⊥) → 4294967296 ≤ n
    le_not n h = omega arith

module _ (k : ℕ → Ask ℕ) where
  pub then_ok : (y : Code) (n : ℕ) (r : Code) → y ≡ Ok n → ask_of r ≡ k n → ask_of r ≡ ask_then (ask_of y) k
  unfolding ask_of ask_then
  then_ok y n r e er = er ∙ ap (λ (z : Code). ask_then (ask_of z) k) (sym e)

  pub then_err : (y : Code) (c : Refusal) → y ≡ Err c → ask_of {A = ℕ} (Err c) ≡ ask_then (ask_of y) k
  unfolding ask_of ask_then
  then_err y c e = ap (λ (z : Code). ask_then (ask_of z) k) (sym e)

pub octets_ceil : (bits : ℕ) → div_ceil bits 8 ≡ octets bits
unfolding octets
octets_ceil bits = omega arith

-- ---- get_size_of
module _ (b : TypeTable) (s w : List ℕ) (left id : ℕ) where
  pub size_deep : left ≡ 0 → ask_of {A = ℕ} (Err TooDeep) ≡ get_size_of left (btf_of b s w) id
  unfolding ask_of get_size_of
  size_deep e = rw e

  module _ (deep : left ≡ 0 → ⊥) (t : Record) (et : t ≡ record_by_id b s w id) (k : Kind) (ek : k ≡ kind_named (kind_of t.info)) where
    pub size_is : (y : Kind) → k ≡ y → get_size_of left (btf_of b s w) id ≡ size_of (btf_of b s w) (get_size_of (left - 1) (btf_of b s w)) (type_as b s t y)
    unfolding get_size_of btf_of
    size_is y e =
        let z : left ≡ suc (left - 1) = omega arith in
        ap (λ (n : ℕ). get_size_of n (btf_of b s w) id) z
        ∙ ap (size_of (btf_of b s w) (get_size_of (left - 1) (btf_of b s w))) (ap (type_of b s) (sym et) ∙ type_is b s t k ek y e)

    pub size_int : (x y : ℕ) → k ≡ Int → x ≡ extra_word b s t % 256 → y ≡ div_ceil x 8 → ask_of (Ok y) ≡ get_size_of left (btf_of b s w) id
    unfolding ask_of size_of
    size_int x y e ex ey = ap got (ey ∙ octets_ceil x ∙ ap octets ex) ∙ sym (size_is Int e)

    pub size_ptr : k ≡ Ptr → ask_of (Ok b.ptr_sz) ≡ get_size_of left (btf_of b s w) id
    unfolding ask_of size_of btf_of
    size_ptr e = sym (size_is Ptr e)

    pub size_array : (x n : ℕ) (q r : Code) → k ≡ Array → x ≡ extra_word b s t → n ≡ nelems_word b s t → ask_of q ≡ get_size_of (left - 1) (btf_of b s w) x → ask_of r ≡ ask_then (ask_of q) (λ z. checked (n * z)) → ask_of r ≡ get_size_of left (btf_of b s w) id
    unfolding size_of
    size_array x n q r e ex en eq er =
        er
        ∙ ap (λ (a : Ask ℕ). ask_then a (λ z. checked (n * z))) (eq ∙ ap (get_size_of (left - 1) (btf_of b s w)) ex)
        ∙ ap (λ (m : ℕ). ask_then (get_size_of (left - 1) (btf_of b s w) (extra_word b s t)) (λ z. checked (m * z))) en
        ∙ sym (size_is Array e)

    pub size_sized : (k ≡ Struct) ⊎ ((k ≡ Union) ⊎ ((k ≡ Enum) ⊎ ((k ≡ Float) ⊎ (k ≡ Enum64)))) → ask_of (Ok t.type_id) ≡ get_size_of left (btf_of b s w) id
    unfolding ask_of size_of
    size_sized (inl e) = sym (size_is Struct e)
    size_sized (inr (inl e)) = sym (size_is Union e)
    size_sized (inr (inr (inl e))) = sym (size_is Enum e)
    size_sized (inr (inr (inr (inl e)))) = sym (size_is Float e)
    size_sized (inr (inr (inr (inr e)))) = sym (size_is Enum64 e)

    pub size_none : (k ≡ Void) ⊎ ((k ≡ Fwd) ⊎ ((k ≡ Func) ⊎ ((k ≡ FuncProto) ⊎ ((k ≡ Var) ⊎ ((k ≡ Datasec) ⊎ (k ≡ Unknown)))))) → ask_of (Ok 0) ≡ get_size_of left (btf_of b s w) id
    unfolding ask_of size_of
    size_none (inl e) = sym (size_is Void e)
    size_none (inr (inl e)) = sym (size_is Fwd e)
    size_none (inr (inr (inl e))) = sym (size_is Func e)
    size_none (inr (inr (inr (inl e)))) = sym (size_is FuncProto e)
    size_none (inr (inr (inr (inr (inl e))))) = sym (size_is Var e)
    size_none (inr (inr (inr (inr (inr (inl e)))))) = sym (size_is Datasec e)
    size_none (inr (inr (inr (inr (inr (inr e)))))) = sym (size_is Unknown e)

    -- the type that it names, with one call less
    pub size_through : (k ≡ Typedef) ⊎ ((k ≡ Volatile) ⊎ ((k ≡ Const) ⊎ ((k ≡ Restrict) ⊎ ((k ≡ DeclTag) ⊎ (k ≡ TypeTag))))) → get_size_of left (btf_of b s w) id ≡ get_size_of (left - 1) (btf_of b s w) t.type_id
    unfolding size_of
    size_through (inl e) = size_is Typedef e
    size_through (inr (inl e)) = size_is Volatile e
    size_through (inr (inr (inl e))) = size_is Const e
    size_through (inr (inr (inr (inl e)))) = size_is Restrict e
    size_through (inr (inr (inr (inr (inl e))))) = size_is DeclTag e
    size_through (inr (inr (inr (inr (inr e))))) = size_is TypeTag e

-- ---- member_end
module _ (b : TypeTable) (s w : List ℕ) (m : BtfMember) where
  pub end_bits : (r : Code) → (m.bit_size ≡ 0 → ⊥) → ask_of r ≡ checked (m.bit_offset + m.bit_size) → ask_of r ≡ end_of (btf_of b s w) (rule_member b s m)
  unfolding end_of
  end_bits r n er = rw (ne_eqb m.bit_size 0 n, end_of) er

  module _ (z : m.bit_size ≡ 0) (q : Code) (eq : ask_of q ≡ get_size_of 512 (btf_of b s w) m.type_id) where
    end_plain : end_of (btf_of b s w) (rule_member b s m) ≡ ask_then (ask_of q) (λ n. ask_then (checked (8 * n)) (λ bits. checked (m.bit_offset + bits)))
    unfolding end_of
    end_plain = rw (z, end_of) (ap (λ (a : Ask ℕ). ask_then a (λ n. ask_then (checked (8 * n)) (λ bits. checked (m.bit_offset + bits)))) (sym eq))

    pub end_unsized : (c : Refusal) → q ≡ Err c → ask_of {A = ℕ} (Err c) ≡ end_of (btf_of b s w) (rule_member b s m)
    end_unsized c g = then_err (λ n. ask_then (checked (8 * n)) (λ bits. checked (m.bit_offset + bits))) q c g ∙ sym end_plain

    module _ (n : ℕ) (g : q ≡ Ok n) (p : Code) (ep : ask_of p ≡ checked (n * 8)) where
      pub end_sized : end_of (btf_of b s w) (rule_member b s m) ≡ ask_then (ask_of p) (λ bits. checked (m.bit_offset + bits))
      unfolding ask_of ask_then
      end_sized =
          let z : 8 * n ≡ n * 8 = omega arith in
          end_plain ∙ ap (λ (y : Code). ask_then (ask_of y) (λ n. ask_then (checked (8 * n)) (λ bits. checked (m.bit_offset + bits)))) g
          ∙ ap (λ (a : Ask ℕ). ask_then a (λ bits. checked (m.bit_offset + bits))) (ap checked z ∙ sym ep)

      pub end_over : (c : Refusal) → p ≡ Err c → ask_of {A = ℕ} (Err c) ≡ end_of (btf_of b s w) (rule_member b s m)
      end_over c h = then_err (λ bits. checked (m.bit_offset + bits)) p c h ∙ sym end_sized

      pub end_found : (bits : ℕ) (r : Code) → p ≡ Ok bits → ask_of r ≡ checked (m.bit_offset + bits) → ask_of r ≡ end_of (btf_of b s w) (rule_member b s m)
      end_found bits r h er = then_ok (λ bits. checked (m.bit_offset + bits)) p bits r h er ∙ sym end_sized
