use Prim.Native.Nat.{ℕ, ◌%◌}
use Rattle.std.specs.Prelude.{min}
use Rattle.std.specs.Int.{div_ceil}
use mathlib.Core.Path.{◌≡◌, ap, ◌∙◌, sym}
use mathlib.Core.List.{List}
use mathlib.Core.Logic.{◌⊎◌, inl, inr}
use Rattle.spec_c_dumper.specs.rules.Layout.{smaller, octets}
use Rattle.spec_type_table.specs.declared.types.TypeTable.{TypeTable}
use Rattle.spec_type_table.specs.declared.types.BtfType.{BtfType as Record}
use Rattle.spec_type_table.specs.declared.types.Entries.{Entries}
use Rattle.spec_type_table.specs.declared.kind.Kind.{Kind}
use Rattle.spec_type_table.specs.declared.kind.Kind.TheVariants.{Void, Int, Ptr, Array, Struct, Union, Enum, Fwd, Typedef, Volatile, Const, Restrict, Func, FuncProto, Var, Datasec, Float, DeclTag, TypeTag, Enum64, Unknown}
use Rattle.spec_type_table.specs.Kinds.{kind_named}
use Rattle.spec_type_table.specs.Records.{kind_of, entries_of}
use Rattle.spec_type_table.specs.Table.{extra_word}
use Rattle.btf_layout.specs.declared.align_of.Step.TheVariants.{Own, Through, Members}
use Rattle.btf_layout.specs.remembered.Words.{step_by, step_at}
use Rattle.btf_layout.proofs.remembered.Laws.{min_smaller}
use Rattle.btf_layout.proofs.size.Laws.{octets_ceil}
use Rattle.btf_layout.proofs.align_of.step_of.Goals as goal

module _ (b : TypeTable) (s : List ℕ) (t : Record) (k : Kind) (ek : k ≡ kind_named (kind_of t.info)) where
  is : (y : Kind) → k ≡ y → step_by b s t y ≡ step_at b s t
  unfolding step_at
  is y e = ap (step_by b s t) (sym e ∙ ek)

  own_int : k ≡ Int → (x n y : ℕ) → x ≡ extra_word b s t % 256 → n ≡ div_ceil x 8 → y ≡ min b.ptr_sz n → Own y ≡ step_at b s t
  unfolding step_by
  own_int e x n y ex en ey = ap Own (ey ∙ min_smaller b.ptr_sz n ∙ ap (smaller b.ptr_sz) (en ∙ octets_ceil x ∙ ap octets ex)) ∙ is Int e

  own_ptr : k ≡ Ptr → Own b.ptr_sz ≡ step_at b s t
  unfolding step_by
  own_ptr e = is Ptr e

  through_array : k ≡ Array → (x : ℕ) → x ≡ extra_word b s t → Through x ≡ step_at b s t
  unfolding step_by
  through_array e x ex = ap Through ex ∙ is Array e

  to_members : (k ≡ Struct) ⊎ (k ≡ Union) → (x : Entries) → x ≡ entries_of t → Members x ≡ step_at b s t
  unfolding step_by
  to_members (inl e) = λ x ex. ap Members ex ∙ is Struct e
  to_members (inr e) = λ x ex. ap Members ex ∙ is Union e

  own_size : (k ≡ Enum) ⊎ ((k ≡ Float) ⊎ (k ≡ Enum64)) → (y : ℕ) → y ≡ min b.ptr_sz t.type_id → Own y ≡ step_at b s t
  unfolding step_by
  own_size (inl e) = λ y ey. ap Own (ey ∙ min_smaller b.ptr_sz t.type_id) ∙ is Enum e
  own_size (inr (inl e)) = λ y ey. ap Own (ey ∙ min_smaller b.ptr_sz t.type_id) ∙ is Float e
  own_size (inr (inr e)) = λ y ey. ap Own (ey ∙ min_smaller b.ptr_sz t.type_id) ∙ is Enum64 e

  through_name : (k ≡ Typedef) ⊎ ((k ≡ Volatile) ⊎ ((k ≡ Const) ⊎ ((k ≡ Restrict) ⊎ (k ≡ TypeTag)))) → Through t.type_id ≡ step_at b s t
  unfolding step_by
  through_name (inl e) = is Typedef e
  through_name (inr (inl e)) = is Volatile e
  through_name (inr (inr (inl e))) = is Const e
  through_name (inr (inr (inr (inl e)))) = is Restrict e
  through_name (inr (inr (inr (inr e)))) = is TypeTag e

  own_none : (k ≡ Void) ⊎ ((k ≡ Fwd) ⊎ ((k ≡ Func) ⊎ ((k ≡ FuncProto) ⊎ ((k ≡ Var) ⊎ (k ≡ Datasec))))) → Own 0 ≡ step_at b s t
  unfolding step_by
  own_none (inl e) = is Void e
  own_none (inr (inl e)) = is Fwd e
  own_none (inr (inr (inl e))) = is Func e
  own_none (inr (inr (inr (inl e)))) = is FuncProto e
  own_none (inr (inr (inr (inr (inl e))))) = is Var e
  own_none (inr (inr (inr (inr (inr e))))) = is Datasec e

  own_past : (k ≡ DeclTag) ⊎ (k ≡ Unknown) → Own 0 ≡ step_at b s t
  unfolding step_by
  own_past (inl e) = is DeclTag e
  own_past (inr e) = is Unknown e

pub returns-in-Int : goal.returns-in-Int
returns-in-Int c = own_int _ _ _ _ c.of.ensures c.in-Int.is _ _ _ c.int_bits.ensures c.div_ceil.ensures c.min.ensures

pub returns-in-Ptr : goal.returns-in-Ptr
returns-in-Ptr c = own_ptr _ _ _ _ c.of.ensures c.in-Ptr.is

pub returns-in-Array : goal.returns-in-Array
returns-in-Array c = through_array _ _ _ _ c.of.ensures c.in-Array.is _ c.extra_word.ensures

pub returns-in-Struct : goal.returns-in-Struct
returns-in-Struct c = to_members _ _ _ _ c.of.ensures c.in-Struct.is _ c.entries_of.ensures

pub returns-in-Enum : goal.returns-in-Enum
returns-in-Enum c = own_size _ _ _ _ c.of.ensures c.in-Enum.is _ c.min-in-Enum.ensures

pub returns-in-Typedef : goal.returns-in-Typedef
returns-in-Typedef c = through_name _ _ _ _ c.of.ensures c.in-Typedef.is

pub returns-in-Void : goal.returns-in-Void
returns-in-Void c = own_none _ _ _ _ c.of.ensures c.in-Void.is

pub returns-in-DeclTag : goal.returns-in-DeclTag
returns-in-DeclTag c = own_past _ _ _ _ c.of.ensures c.in-DeclTag.is
