-- Names in the string area of a table.
use Rattle.std.specs.Prelude.{ℕ, ◌+◌, List}
use Rattle.spec_type_table.specs.declared.types.TypeTable.{TypeTable}
unfoldable pub use Rattle.spec_type_table.specs.Strings.{up_to_zero, name_at}

-- where the name at an offset of the string area starts
abbrev pub name_place : TypeTable → ℕ → ℕ
name_place b off = b.strs + off

-- get_btf_str
abbrev pub str_at : TypeTable → List ℕ → ℕ → List ℕ
str_at b s off = name_at s (name_place b off)
