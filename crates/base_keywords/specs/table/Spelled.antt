-- How the words of the table are spelled.
use Rattle.std.specs.Prelude.{ℕ, List}
use Rattle.spec_bytes.specs.text.Text.{ascii}
use Rattle.base_keywords.specs.declared.table.Word.{Word}
use Rattle.base_keywords.specs.declared.table.Word.TheVariants.{Struct, Union, StructForUnion, Enum, Typedef, Void}
use Rattle.base_keywords.specs.declared.table.Word.TheVariants.{Volatile, Const, Restrict, Long, Int}
use Rattle.base_keywords.specs.declared.table.Word.TheVariants.{Short, Char, AttributeStart, Packed, DeclTag, TypeTag}
use Rattle.base_keywords.specs.declared.table.Word.TheVariants.{Ull, Ll, MinusOne, Underscores, Dots}

abbrev pub spelled : Word → List ℕ
spelled Struct = ascii "struct"
spelled Union = ascii "union"
spelled StructForUnion = ascii "struct /*union*/"
spelled Enum = ascii "enum"
spelled Typedef = ascii "typedef"
spelled Void = ascii "void"
spelled Volatile = ascii "volatile"
spelled Const = ascii "const"
spelled Restrict = ascii "restrict"
spelled Long = ascii "long"
spelled Int = ascii "int"
spelled Short = ascii "short"
spelled Char = ascii "char"
spelled AttributeStart = ascii " __attribute__(("
spelled Packed = ascii "packed"
spelled DeclTag = ascii "btf_decl_tag"
spelled TypeTag = ascii "btf_type_tag"
spelled Ull = ascii "ULL"
spelled Ll = ascii "LL"
spelled MinusOne = ascii " - 1)"
spelled Underscores = ascii "___"
spelled Dots = ascii "..."
