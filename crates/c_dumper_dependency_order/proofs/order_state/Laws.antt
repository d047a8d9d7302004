-- What the code reads of a type, against the rules: its order state, its kind and its name. Assumes nothing.
use Prim.Native.Nat.{ℕ}
use mathlib.Core.Path.{◌≡◌, refl, ap, ◌∙◌, sym}
use mathlib.Core.List.{List}
use mathlib.Core.Bool.{true, false, true≢false}
use mathlib.Core.Logic.{◌⊎◌, inl, inr}
use borrow.Author.Tests.{ne_eqb}
use Rattle.spec_c_dumper.specs.rules.Order.{new, busy, done, comp, is_comp}
use Rattle.spec_c_dumper.specs.rules.Types.{BtfType, node_of, is_named}
use Rattle.spec_type_table.specs.declared.types.TypeTable.{TypeTable}
use Rattle.spec_type_table.specs.declared.types.BtfType.{BtfType as Record}
use Rattle.spec_type_table.specs.declared.types.Entries.{Entries}
use Rattle.spec_type_table.specs.declared.node.Node.{Node as Code}
use Rattle.spec_type_table.specs.declared.node.Node.TheVariants as code
use Rattle.spec_type_table.specs.Cells.{get_field}
use Rattle.spec_type_table.specs.Records.{kind_of, entries_of, record_by_id}
use Rattle.spec_type_table.specs.Table.{type_of, btf_of}
use Rattle.spec_type_table.specs.Nodes.{node_is}
use Rattle.spec_type_table.specs.declared.kind.Kind.{Kind}
use Rattle.spec_type_table.specs.declared.kind.Kind.TheVariants.{Void, Int, Ptr, Array, Struct, Union, Enum, Fwd, Typedef, Volatile, Const, Restrict, Func, FuncProto, Var, Datasec, Float, DeclTag, TypeTag, Enum64, Unknown}
use Rattle.spec_type_table.specs.Kinds.{kind_named}
use Rattle.spec_type_table.proofs.KindLaws.{member_types_lem}
use Rattle.spec_type_table.proofs.KindTypes.{type_as, type_is}
use Rattle.c_dumper_dependency_order.specs.order_state.Work.{Marks, mark_of, work_store, table_in}

-- ---- an order state that was read
pub is_done_lem : (n : ℕ) → n ≡ 2 → mark_of n ≡ done
unfolding mark_of
is_done_lem n e = rw e

pub is_busy : (n : ℕ) → n ≡ 1 → mark_of n ≡ busy
unfolding mark_of
is_busy n e = rw e

pub is_new : (n : ℕ) → (n ≡ 2 → ⊥) → (n ≡ 1 → ⊥) → mark_of n ≡ new
unfolding mark_of
is_new n p q = rw (ne_eqb n 2 p, mark_of, ne_eqb n 1 q)

pub get_at : (m : Marks) (x : ℕ) → work_store.get m x ≡ mark_of (get_field m.work x 1)
unfolding work_store
get_at m x = refl

-- ---- an id in progress
module _ (b : TypeTable) (s : List ℕ) (t : Record) where
  pub comp_yes : (k : Kind) → k ≡ kind_named (kind_of t.info) → (k ≡ Struct) ⊎ (k ≡ Union) → is_comp (node_of (type_of b s t)) ≡ true
  comp_yes k ek (inl f) = ap (λ (y : BtfType). is_comp (node_of y)) (type_is b s t k ek Struct f)
  comp_yes k ek (inr f) = ap (λ (y : BtfType). is_comp (node_of y)) (type_is b s t k ek Union f)

  comp_or_not : (y : Kind) → ((y ≡ Struct) ⊎ (y ≡ Union)) ⊎ (is_comp (node_of (type_as b s t y)) ≡ false)
  comp_or_not Void = inr refl
  comp_or_not Int = inr refl
  comp_or_not Ptr = inr refl
  comp_or_not Array = inr refl
  comp_or_not Struct = inl (inl refl)
  comp_or_not Union = inl (inr refl)
  comp_or_not Enum = inr refl
  comp_or_not Fwd = inr refl
  comp_or_not Typedef = inr refl
  comp_or_not Volatile = inr refl
  comp_or_not Const = inr refl
  comp_or_not Restrict = inr refl
  comp_or_not Func = inr refl
  comp_or_not FuncProto = inr refl
  comp_or_not Var = inr refl
  comp_or_not Datasec = inr refl
  comp_or_not Float = inr refl
  comp_or_not DeclTag = inr refl
  comp_or_not TypeTag = inr refl
  comp_or_not Enum64 = inr refl
  comp_or_not Unknown = inr refl

  no_comp : (y : Kind) → ((y ≡ Struct) ⊎ (y ≡ Union) → ⊥) → is_comp (node_of (type_as b s t y)) ≡ false
  no_comp y n = go (comp_or_not y)
    where
      go : ((y ≡ Struct) ⊎ (y ≡ Union)) ⊎ (is_comp (node_of (type_as b s t y)) ≡ false) → is_comp (node_of (type_as b s t y)) ≡ false
      go (inl c) = absurd (n c)
      go (inr e) = e

  pub comp_no : (k : Kind) → k ≡ kind_named (kind_of t.info) → ((k ≡ Struct) ⊎ (k ≡ Union) → ⊥) → is_comp (node_of (type_of b s t)) ≡ false
  comp_no k ek n = ap (λ (y : BtfType). is_comp (node_of y)) (type_is b s t k ek k refl) ∙ no_comp k n

  -- the node of a composite has the members of its record
  comp_as : (y : Kind) → is_comp (node_of (type_as b s t y)) ≡ true → node_is b s (code.Composite (entries_of t)) ≡ node_of (type_as b s t y)
  unfolding node_is
  comp_as y h = go (comp_or_not y)
    where
      go : ((y ≡ Struct) ⊎ (y ≡ Union)) ⊎ (is_comp (node_of (type_as b s t y)) ≡ false) → node_is b s (code.Composite (entries_of t)) ≡ node_of (type_as b s t y)
      go (inl (inl e)) = ap comp (sym (member_types_lem b s t)) ∙ ap (λ (k : Kind). node_of (type_as b s t k)) (sym e)
      go (inl (inr e)) = ap comp (sym (member_types_lem b s t)) ∙ ap (λ (k : Kind). node_of (type_as b s t k)) (sym e)
      go (inr e) = absurd (true≢false (sym h ∙ e))

  pub comp_is : (nd : Code) → node_is b s nd ≡ node_of (type_of b s t) → (es : Entries) → nd ≡ code.Composite es → node_is b s (code.Composite (entries_of t)) ≡ node_of (type_of b s t)
  unfolding node_is
  comp_is nd en es e =
      let q : type_of b s t ≡ type_as b s t (kind_named (kind_of t.info)) = type_is b s t _ refl _ refl in
      comp_as (kind_named (kind_of t.info)) (ap (λ (y : BtfType). is_comp (node_of y)) (sym q) ∙ sym (ap is_comp (ap (node_is b s) (sym e) ∙ en))) ∙ ap node_of (sym q)

module _ (b : TypeTable) (s : List ℕ) (w : List ℕ) (id : ℕ) (t : Record) (et : t ≡ record_by_id b s w id) where
  pub type_at : (btf_of b s w).type_by_id id ≡ type_of b s t
  unfolding btf_of
  type_at = ap (type_of b s) (sym et)

  pub node_at : (table_in b s w).node id ≡ node_of (type_of b s t)
  node_at = ap node_of type_at

  pub named_at : (table_in b s w).named id ≡ is_named (type_of b s t)
  named_at = ap is_named type_at

-- ---- order_new: what the code's node says of the rule's
module _ (b : TypeTable) (s : List ℕ) (w : List ℕ) (id : ℕ) (t : Record) (et : t ≡ record_by_id b s w id) (nd : Code) (en : node_is b s nd ≡ node_of (type_of b s t)) where
  pub node_is_lem : (table_in b s w).node id ≡ node_is b s nd
  node_is_lem = node_at b s w id t et ∙ sym en
