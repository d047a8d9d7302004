-- The code's nodes as the rules have them: the entries of a record stand for the types that they name.
use Rattle.std.specs.Prelude.{ℕ, ◌+◌, true, false, List, ◌∷◌}
use Rattle.spec_c_dumper.specs.rules.Order.{Node, ignored, plain, listed, through, ptr, tdef, proto, comp}
use Rattle.spec_type_table.specs.declared.types.TypeTable.{TypeTable}
use Rattle.spec_type_table.specs.declared.types.Entries.{Entries}
use Rattle.spec_type_table.specs.declared.node.Node.{Node as Code}
use Rattle.spec_type_table.specs.declared.node.Node.TheVariants.{Ignored, Plain, Enum, Fwd, Array, Through, Ptr, Typedef, Proto, Composite}
use Rattle.spec_type_table.specs.Records.{section_word, member_at, param_at}
use Rattle.spec_type_table.specs.Table.{from}

module _ (b : TypeTable) (s : List ℕ) where
  -- btf_member.type of each member, btf_param.type of each parameter
  unfoldable pub member_ids : Entries → List ℕ
  member_ids e = from (λ k. section_word b s (member_at e.at k + 4)) 0 e.vlen

  unfoldable pub param_ids : Entries → List ℕ
  param_ids e = from (λ k. section_word b s (param_at e.at k + 4)) 0 e.vlen

  unfoldable pub node_is : Code → Node
  node_is Ignored = ignored
  node_is Plain = plain
  node_is Enum = listed false
  node_is Fwd = listed true
  node_is (Array t) = through true t
  node_is (Through t) = through false t
  node_is (Ptr t) = ptr t
  node_is (Typedef t) = tdef t
  node_is (Proto r e) = proto (r ∷ param_ids e)
  node_is (Composite e) = comp (member_ids e)
