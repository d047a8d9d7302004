-- The marked samples of document 01: each beside what the definitions give. That they are equal is `samples_hold` of proofs/Samples.
use Rattle.std.specs.Prelude.{ℕ, Bool, true, false, List, [], ◌∷◌, ◌++◌, get_or, set}
use Prim.Native.String.{String}
use Rattle.spec_bytes.specs.text.Text.{Text, whole, cut, ascii, bytes}
use Rattle.spec_bytes.specs.text.Decimal.{decimal}
use Rattle.spec_c_dumper.specs.rules.Order.{Mark, new, Store, Res, ok, refused, order}
use Rattle.spec_c_dumper.specs.rules.Writer.{Ask, got, no, said_text, Writer, ◌⨾◌}
use Rattle.spec_c_dumper.specs.rules.Types.{Member, BtfType, Void, Int, Ptr, Array, Composite, Typedef, FuncProto, Btf, table_of}
use Rattle.spec_c_dumper.specs.rules.Layout.{Pad, placed_pads, bit_padding}
use Rattle.spec_c_dumper.specs.rules.Names.{Names, naming}
use Rattle.spec_c_dumper.specs.rules.Decl.{enum_value, enum64_value, pads, emit_type_decl}
use Rattle.spec_c_dumper.specs.rules.Emit.{definition, forward}
use Rattle.spec_c_dumper.specs.rules.Listed.{listed, listed_in, with_strong_arrays}

-- no type has a version, no name a holder
abbrev pub unnamed : Names
unnamed = record { versions = 0 ∷ 0 ∷ 0 ∷ 0 ∷ 0 ∷ 0 ∷ 0 ∷ 0 ∷ []; ledger = [] }

abbrev pub text : Writer Names → List ℕ
text w = bytes (said_text (w unnamed))

abbrev pub padding : Ask (List Pad) → List ℕ
padding (got ps) = pads 0 ps
padding (no c) = decimal c

-- emit_bit_padding from bit 0 to an int at bit n, as a bit field (true) or as a plain member of 4 bytes
abbrev pub gap : ℕ → Bool → ℕ → List ℕ
gap ptr_sz is_bit_field n =
    padding (bit_padding (listed ptr_sz false (Void ∷ Int (ascii "int") 32 ∷ [])) 0 (record {
      name = [];
      type_id = 1;
      bit_offset = n;
      bit_size = elim is_bit_field [ true ↦ 1 | false ↦ 0 ];
    }) false)

abbrev pub table : List BtfType → Btf
table types = listed 8 false types

-- 2 and 3: an array of pointers; 4 and 5: a pointer to an array; 6 and 7: a pointer to a prototype
abbrev pub declarators : Btf
declarators =
    table (Void ∷ Int (ascii "int") 32 ∷ Ptr 1 ∷ Array 2 3 ∷ Array 1 3 ∷ Ptr 4
    ∷ FuncProto 0 (record { name = []; type_id = 1 } ∷ []) ∷ Ptr 6 ∷ [])

abbrev pub declared : ℕ → String → List ℕ
declared id name = text (emit_type_decl naming declarators 512 id (ascii name) 0)

-- three typedefs named x
abbrev pub three_of_x : Btf
three_of_x = table (Void ∷ Int (ascii "int") 32 ∷ Typedef (ascii "x") 1 ∷ Typedef (ascii "x") 1 ∷ Typedef (ascii "x") 1 ∷ [])

abbrev pub typedef_line : ℕ → Writer Names
typedef_line id = forward naming three_of_x id (three_of_x.type_by_id id)

abbrev pub member : String → ℕ → ℕ → Member
member name type_id bit_offset = record { name = ascii name; type_id = type_id; bit_offset = bit_offset; bit_size = 0 }

-- a struct with a pointer to itself
abbrev pub node : Btf
node = table (Void ∷ Int (ascii "int") 32 ∷ Composite true (ascii "node") 16 (member "next" 3 0 ∷ member "v" 1 64 ∷ []) ∷ Ptr 2 ∷ [])

-- a struct holding itself
abbrev pub itself : Btf
itself = table (Void ∷ Composite true (ascii "s") 4 (member "a" 1 0 ∷ []) ∷ [])

-- "a struct with a pointer to an array of itself"
abbrev pub behind_array : Btf
behind_array = table (Void ∷ Composite true (ascii "s") 8 (member "p" 2 0 ∷ []) ∷ Ptr 3 ∷ Array 1 2 ∷ [])

-- marks and order list as lists
pub record Lists : Type 0 where
  pub marks : List Mark
  pub order_list : List ℕ

abbrev pub lists : Store Lists
lists = record {
  get = λ s x. get_or s.marks x new;
  mark = λ m x s. record { marks = set s.marks x m; order_list = s.order_list };
  push = λ x s. record { marks = s.marks; order_list = s.order_list ++ (x ∷ []) };
  list = λ s. s.order_list;
}

-- what ordering answers: the refusal, or "ordered"
abbrev pub answer : Res Lists → List ℕ
answer (ok s b) = ascii "ordered"
answer (refused c) = decimal c

abbrev pub ordering : Btf → ℕ → List ℕ
ordering B id = answer (order lists 512 (table_of B) (record { marks = new ∷ new ∷ new ∷ new ∷ []; order_list = [] }) id false)

pub record Sample : Type 0 where
  pub is : List ℕ
  pub wanted : List ℕ

abbrev pub gives : List ℕ → String → Sample
gives g w = record { is = g; wanted = ascii w }

abbrev pub samples : List Sample
samples =
    gives (gap 8 true 96) "\nlong: 32;\nlong: 64;"
    ∷ gives (gap 4 true 40) "\nint: 8;\nint: 32;"
    ∷ gives (gap 8 true 17) "\nint: 17;"
    ∷ gives (gap 8 true 12) "\nshort: 12;"
    ∷ gives (gap 8 false 24) ""
    ∷ gives (gap 8 false 32) "\nint: 32;"
    ∷ gives (enum_value false 4294967295) "4294967295"
    ∷ gives (enum64_value true 9223372036854775808) "(-9223372036854775807LL - 1)"
    ∷ gives (text (typedef_line 2 ⨾ typedef_line 3 ⨾ typedef_line 4)) "typedef int x;\n\ntypedef int x___2;\n\ntypedef int x___3;\n\n"
    ∷ gives (declared 3 "a") "int *a[3]"
    ∷ gives (declared 5 "p") "int (*p)[3]"
    ∷ gives (declared 7 "f") "void (*f)(int)"
    ∷ gives (ordering itself 1) "13"
    ∷ gives (ordering node 2) "ordered"
    ∷ gives (ordering behind_array 1) "ordered"
    ∷ gives (ordering (with_strong_arrays behind_array) 1) "13"
    ∷ gives (text (definition naming node 2 (node.type_by_id 2))) "struct node {\n\tstruct node *next;\n\tint v;\n};\n\n"
    ∷ []

abbrev pub all_given : List Sample → List (List ℕ)
all_given [] = []
all_given (s ∷ ss) = s.is ∷ all_given ss

abbrev pub all_wanted : List Sample → List (List ℕ)
all_wanted [] = []
all_wanted (s ∷ ss) = s.wanted ∷ all_wanted ss

-- ---- placing mode

-- the pads of a gap from a bit on
abbrev pub placed : ℕ → ℕ → ℕ → List ℕ
placed ptr_sz start n = pads 0 (placed_pads n ptr_sz start n)

abbrev pub bit_field : String → ℕ → ℕ → ℕ → Member
bit_field name type_id bit_offset bit_size = record { name = ascii name; type_id = type_id; bit_offset = bit_offset; bit_size = bit_size }

-- 1 int, 2 char, 3 an array of three chars, 4 a struct s of the size and with the members given
abbrev pub body_of : ℕ → List Member → Btf
body_of sz ms =
    listed_in 8 false true (Void ∷ Int (ascii "int") 32 ∷ Int (ascii "char") 8 ∷ Array 2 3 ∷ Composite true (ascii "s") sz ms ∷ [])

-- its text, or only the refusal
abbrev pub outcome : Text → List ℕ
outcome (whole a) = a
outcome (cut a c) = decimal c

abbrev pub body : ℕ → List Member → List ℕ
body sz ms = outcome (said_text (definition naming (body_of sz ms) 4 ((body_of sz ms).type_by_id 4) unnamed))

abbrev pub placed_samples : List Sample
placed_samples =
    gives (placed 8 0 96) "\nlong: 64;\nint: 32;"
    ∷ gives (placed 4 0 96) "\nint: 32;\nint: 32;\nint: 32;"
    ∷ gives (placed 8 8 96) "\nchar: 8;\nshort: 16;\nint: 32;\nint: 32;\nchar: 8;"
    ∷ gives (placed 8 3 5) "\nchar: 1;\nchar: 4;"
    ∷ gives (body 8 (member "a" 3 0 ∷ bit_field "f" 1 48 16 ∷ []))
    "struct s {\n\tchar a[3];\n\tchar: 8;\n\tshort: 16;\n\tint f: 16;\n};\n\n"
    ∷ gives (body 8 (member "c" 2 0 ∷ member "i" 1 32 ∷ [])) "struct s {\n\tchar c;\n\tint i;\n};\n\n"
    ∷ gives (body 16 (member "i" 1 0 ∷ [])) "struct s {\n\tint i;\n\tint: 32;\n\tlong: 64;\n};\n\n"
    ∷ gives (body 3 []) "struct s {\n\tshort: 16;\n\tchar: 8;\n};\n\n"
    ∷ gives (body 8 (member "i" 1 0 ∷ member "c" 2 24 ∷ [])) "18"
    ∷ gives (body 3 (member "c" 2 4 ∷ [])) "18"
    ∷ gives (body 8 (bit_field "f" 1 0 33 ∷ [])) "18"
    ∷ gives (body 8 (bit_field "f" 1 24 16 ∷ [])) "18"
    ∷ gives (body 4 (member "i" 1 32 ∷ [])) "18"
    ∷ []
