-- The parts of an enum's definition that the code writes by functions of their own.
use Rattle.std.specs.Prelude.{ℕ, List, ◌++◌}
use Rattle.spec_bytes.specs.text.Text.{ascii, pfx}
use Rattle.spec_c_dumper.specs.rules.Types.{Name}
use Rattle.spec_c_dumper.specs.rules.Writer.{Writer, ◌⨾◌, put}
use Rattle.spec_c_dumper.specs.rules.Names.{Naming, tag_space, resolve_type_name}
use Rattle.spec_c_dumper.specs.rules.Decl.{sep_name}

-- `enum` and the name: the first part of emit_enum_def
unfoldable pub enum_head : {U : Type 0} → Naming U → ℕ → Name → Writer U
enum_head N id name = resolve_type_name N tag_space id name (λ n. put (ascii "enum") ⨾ put (sep_name n))

-- a new line, an enumerator's name and an equals sign
unfoldable pub value_head : ℕ → Name → List ℕ
value_head lvl name = ascii "\n" ++ pfx lvl ++ name ++ ascii " = "

-- the line end and the bracket that close the values
unfoldable pub enum_end : ℕ → List ℕ
enum_end lvl = ascii "\n" ++ pfx lvl ++ ascii "}"
