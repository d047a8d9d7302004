use mathlib.Core.Logic.{inl, inr}
use Rattle.spec_type_table.specs.declared.kind.Kind.TheVariants.{Void, Int, Ptr, Array, Struct, Union, Enum, Fwd, Typedef, Volatile, Const, Restrict, Func, FuncProto, Var, Datasec, Float, DeclTag, TypeTag, Enum64, Unknown}
use Rattle.spec_type_table.proofs.KindExtra.{extra_by}
use Rattle.btf_type_table.proofs.kind.extra_of.Goals as goal

pub returns-in-Int : goal.returns-in-Int
returns-in-Int c = elim c.in-Int.is [ inl e ↦ extra_by _ _ Int e | inr o ↦ elim o [ inl e ↦ extra_by _ _ Var e | inr e ↦ extra_by _ _ DeclTag e ] ]

pub returns-in-Array : goal.returns-in-Array
returns-in-Array c = extra_by _ _ Array c.in-Array.is

pub returns-in-Struct : goal.returns-in-Struct
returns-in-Struct c = elim c.in-Struct.is [ inl e ↦ extra_by _ _ Struct e | inr o ↦ elim o [ inl e ↦ extra_by _ _ Union e | inr o ↦ elim o [ inl e ↦ extra_by _ _ Datasec e | inr e ↦ extra_by _ _ Enum64 e ] ] ]

pub returns-in-Enum : goal.returns-in-Enum
returns-in-Enum c = elim c.in-Enum.is [ inl e ↦ extra_by _ _ Enum e | inr e ↦ extra_by _ _ FuncProto e ]

pub returns-in-Ptr : goal.returns-in-Ptr
returns-in-Ptr c = elim c.in-Ptr.is [ inl e ↦ extra_by _ _ Ptr e | inr o ↦ elim o [ inl e ↦ extra_by _ _ Fwd e | inr o ↦ elim o [ inl e ↦ extra_by _ _ Typedef e | inr o ↦ elim o [ inl e ↦ extra_by _ _ Volatile e | inr o ↦ elim o [ inl e ↦ extra_by _ _ Const e | inr o ↦ elim o [ inl e ↦ extra_by _ _ Restrict e | inr o ↦ elim o [ inl e ↦ extra_by _ _ Func e | inr o ↦ elim o [ inl e ↦ extra_by _ _ Float e | inr e ↦ extra_by _ _ TypeTag e ] ] ] ] ] ] ] ]

pub returns-in-Void : goal.returns-in-Void
returns-in-Void c = elim c.in-Void.is [ inl e ↦ extra_by _ _ Void e | inr e ↦ extra_by _ _ Unknown e ]
