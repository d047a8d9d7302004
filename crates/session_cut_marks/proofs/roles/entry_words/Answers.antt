use mathlib.Core.Path.{sym, ap}
use mathlib.Core.Logic.{inl, inr}
use Rattle.spec_type_table.specs.declared.kind.Kind.TheVariants.{Struct, Union, Datasec, Enum64, Enum, FuncProto}
use Rattle.spec_type_table.proofs.KindNames.{is, isnt}
use Rattle.session_cut_marks.specs.roles.Words.{digit_at, entry_words}
use Rattle.session_cut_marks.proofs.roles.Laws.{entry_rest}
use Rattle.session_cut_marks.proofs.roles.entry_words.Goals as goal

pub returns-in-Struct : goal.returns-in-Struct
unfolding entry_words digit_at
returns-in-Struct c = elim c.in-Struct.is [ inl e ↦ ap entry_words (sym (is _ _ c.kind.ensures Struct e)) | inr o ↦ elim o [ inl e ↦ ap entry_words (sym (is _ _ c.kind.ensures Union e)) | inr o ↦ elim o [ inl e ↦ ap entry_words (sym (is _ _ c.kind.ensures Datasec e)) | inr e ↦ ap entry_words (sym (is _ _ c.kind.ensures Enum64 e)) ] ] ]

pub returns-in-Enum : goal.returns-in-Enum
unfolding entry_words digit_at
returns-in-Enum c = elim c.in-Enum.is [ inl e ↦ ap entry_words (sym (is _ _ c.kind.ensures Enum e)) | inr e ↦ ap entry_words (sym (is _ _ c.kind.ensures FuncProto e)) ]

pub returns-in_default : goal.returns-in_default
returns-in_default c = entry_rest _ (isnt _ _ c.kind.ensures Struct c.in_default.not-Struct) (isnt _ _ c.kind.ensures Union c.in_default.not-Union) (isnt _ _ c.kind.ensures Datasec c.in_default.not-Datasec) (isnt _ _ c.kind.ensures Enum64 c.in_default.not-Enum64) (isnt _ _ c.kind.ensures Enum c.in_default.not-Enum) (isnt _ _ c.kind.ensures FuncProto c.in_default.not-FuncProto)
