-- The code's names as the rules have them.
use Rattle.std.specs.Prelude.{ℕ, Bool, true, false, List, unwrap_or}
use Rattle.spec_c_dumper.specs.rules.Types.{Name}
use Rattle.spec_c_dumper.specs.rules.Names.{spelled}
use Rattle.spec_c_dumper.specs.rules.Decl.{sep_name}
use Rattle.spec_type_table.specs.declared.types.TypeTable.{TypeTable}
use Rattle.spec_type_table.specs.Names.{str_at}
use Rattle.c_dumper_name_versions.specs.declared.names.versions.Name.{Name as Code}

-- what a name prints: that at its offset, with its number; a name by itself has number 0
abbrev pub name_text : TypeTable → List ℕ → Code → Name
name_text b s n = spelled (str_at b s n.off) (unwrap_or n.number 0)

-- the bytes of emit_name
unfoldable pub name_after : Name → Bool → List ℕ
name_after fname last_was_ptr = elim last_was_ptr [ true ↦ fname | false ↦ sep_name fname ]
