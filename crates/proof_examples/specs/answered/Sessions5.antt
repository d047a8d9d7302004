-- Written by tools/vectors.py. Sections and requests of oracle/answers.cases, each beside the answers.
-- That they are equal is `sessions5_hold` of proofs/Sessions5.
use Rattle.std.specs.Prelude.{true, false, List, [], ◌∷◌}
use Rattle.spec_bytes.specs.text.Text.{ascii}
use Rattle.spec_c_dumper.specs.rules.Machine.{one, all}
use Rattle.proof_examples.specs.vectors.Base.{member, param, value, Vector, session}
use Rattle.spec_c_dumper.specs.rules.Types.{volatile, const, restrict, Void, Int, Ptr, Array, Composite, Enum, Enum64, Fwd, Typedef, Mod, Func, Var, Datasec, FuncProto, Float, DeclTag, TypeTag}

abbrev pub sessions5 : List Vector
sessions5 =
    session 4 true  -- 1-3003-0
    (Void ∷ Int (ascii "int") 32 ∷ Composite true (ascii "Ax") 4 (member "y" 1 0 0 ∷ []) ∷ Typedef (ascii "b") 14 ∷ Ptr 0
    ∷ Enum false (ascii "") 4 (value "b" 1 ∷ []) ∷ FuncProto 10 (param "y" 10 ∷ param "" 0 ∷ []) ∷ Mod const 5 ∷ Ptr 7 ∷ Mod const 8 ∷ Ptr 9
    ∷ Typedef (ascii "b") 15 ∷ Mod const 6 ∷ Mod const 12 ∷ Ptr 13 ∷ FuncProto 4 (param "" 1 ∷ param "y" 0 ∷ param "" 0 ∷ []) ∷ [])
    (all 189 ∷ [])
    ((0, 172) ∷ [])
    "struct Ax {\n\tint y;\n};\n\ntypedef const enum {\n\tb___2 = 1,\n} * const *const const  (*b)(const enum {\n\tb___3 = 1,\n} * const *y, ...);\n\ntypedef void *b___4(int, void y, ...);\n\n"
    ∷ session 8 true  -- 1-3098-2
    (Void ∷ Int (ascii "int") 32 ∷ Composite true (ascii "data") 4 (member "data" 1 0 0 ∷ []) ∷ Enum false (ascii "x___3") 4 (value "__x" 1 ∷ [])
    ∷ FuncProto 3 (param "__x" 0 ∷ []) ∷ FuncProto 4 (param "y" 3 ∷ param "x___3" 0 ∷ []) ∷ Typedef (ascii "x___3") 5 ∷ Mod restrict 1
    ∷ Mod restrict 7 ∷ FuncProto 8 (param "y" 2 ∷ []) ∷ Ptr 9 ∷ Mod const 10 ∷ FuncProto 0 (param "data" 11 ∷ []) ∷ Typedef (ascii "prex___3") 12 ∷ [])
    (one 10 11 ∷ all 470 ∷ one 183 4 ∷ [])
    ((0, 0) ∷ (0, 183) ∷ (0, 183) ∷ [])
    "struct data {\n\tint data;\n};\n\nenum x___3 {\n\t__x = 1,\n};\n\ntypedef enum x___3 (x___3(enum x___3 y, ...))();\n\ntypedef void prex___3(restrict restrict int (* const data)(struct data y));\n\n"
    ∷ session 4 true  -- 1-3131-2
    (Void ∷ DeclTag false (ascii "x") 5 0 ∷ Array 6 100 ∷ Array 4 4 ∷ Fwd false (ascii "") ∷ Typedef (ascii "prex") 3 ∷ Int (ascii "prey") 8 ∷ [])
    (one 274 6 ∷ one 0 6 ∷ one 324 5 ∷ [])
    ((0, 0) ∷ (0, 0) ∷ (0, 36) ∷ [])
    "struct ;\n\ntypedef struct  prex[4];\n\n"
    ∷ session 8 false  -- 1-3138-0
    (Void ∷ Int (ascii "a") 1 ∷ FuncProto 8 (param "" 8 ∷ param "" 8 ∷ []) ∷ FuncProto 4 (param "" 4 ∷ param "" 8 ∷ [])
    ∷ Enum64 true (ascii "state") 8 (value "_" 9223372041149743204 ∷ value "x" 1 ∷ value "__x" 9223372036854775809 ∷ value "" 9223372043623872515 ∷ value "s" 18446744073709551615 ∷ [])
    ∷ Array 0 3 ∷ Typedef (ascii "prebuf") 2 ∷ Ptr 1 ∷ Int (ascii "T") 8 ∷ DeclTag false (ascii "x") 6 4294967295 ∷ Func (ascii "prex") ∷ [])
    (all 186 ∷ [])
    ((0, 186) ∷ [])
    "enum state {\n\t_ = -9223372032559808412LL,\n\tx = 1LL,\n\t__x = -9223372036854775807LL,\n\t = -9223372030085679101LL,\n\ts = -1LL,\n};\n\ntypedef T prebuf(T, T) __attribute__((btf_decl_tag(\"x\")));\n\n"
    ∷ session 4 false  -- 1-3228-0
    (Void ∷ Ptr 9 ∷ DeclTag false (ascii "\\\\") 3 0 ∷ DeclTag true (ascii "rcu") 2 0 ∷ Typedef (ascii "y") 12 ∷ Array 1 1 ∷ Ptr 5
    ∷ Float (ascii "ops") 16 ∷ DeclTag false (ascii "x") 9 4294967295
    ∷ Composite false (ascii "x___2") 24 (member "x___2" 5 95 0 ∷ member "priv" 5 0 0 ∷ member "s" 1 0 0 ∷ [])
    ∷ FuncProto 1 (param "" 9 ∷ param "ops" 9 ∷ []) ∷ Ptr 0 ∷ Fwd false (ascii "flags") ∷ [])
    (all 582 ∷ [])
    ((0, 187) ∷ [])
    "struct flags;\n\ntypedef struct flags y;\n\nunion x___2 {\n\tint: 31;\n\tint: 32;\n\tint: 32;\n\tunion x___2 *x___2[1];\n\tunion x___2 *priv[1];\n\tunion x___2 *s;\n} __attribute__((btf_decl_tag(\"x\")));\n\n"
    ∷ session 4 false  -- 1-3240-0
    (Void ∷ Ptr 5 ∷ FuncProto 1 (param "" 1 ∷ []) ∷ Typedef (ascii "y") 2 ∷ Typedef (ascii "y") 0 ∷ Float (ascii "") 16 ∷ Ptr 0 ∷ [])
    (all 39 ∷ [])
    ((0, 39) ∷ [])
    "typedef  *y( *);\n\ntypedef void y___2;\n\n"
    ∷ session 8 false  -- 1-3254-2
    (Void ∷ Composite true (ascii "pre_") 8 (member "x" 9 8 0 ∷ []) ∷ Composite true (ascii "buf") 2147483648 (member "_" 5 0 0 ∷ []) ∷ Mod const 4
    ∷ Array 7 2147483648 ∷ Array 9 536870911 ∷ Array 7 1 ∷ Array 8 1 ∷ Int (ascii "int") 32 ∷ Int (ascii "char") 8 ∷ [])
    (one 348 4 ∷ one 128 0 ∷ one 305 10 ∷ all 288 ∷ one 339 0 ∷ all 153 ∷ [])
    ((0, 0) ∷ (0, 0) ∷ (10, 0) ∷ (0, 74) ∷ (0, 74) ∷ (0, 74) ∷ [])
    "struct pre_ {\n\tchar: 8;\n\tchar x;\n};\n\nstruct buf {\n\tchar _[536870911];\n};\n\n"
    ∷ session 8 false  -- 1-3255-0
    (Void ∷ Int (ascii "x") 8 ∷ Composite true (ascii "") 0 [] ∷ Composite false (ascii "") 4 (member "y" 2 0 0 ∷ [])
    ∷ Composite true (ascii "") 4 (member "y" 3 0 0 ∷ []) ∷ Composite true (ascii "") 4 (member "y" 4 0 0 ∷ [])
    ∷ Composite true (ascii "") 4 (member "y" 5 0 0 ∷ []) ∷ Composite true (ascii "") 4 (member "y" 6 0 0 ∷ [])
    ∷ Composite false (ascii "") 4 (member "y" 7 0 0 ∷ []) ∷ Composite false (ascii "") 4 (member "y" 8 0 0 ∷ [])
    ∷ Composite true (ascii "") 4 (member "y" 9 0 0 ∷ []) ∷ Composite false (ascii "") 4 (member "y" 10 0 0 ∷ [])
    ∷ Composite false (ascii "") 4 (member "y" 11 0 0 ∷ []) ∷ Composite false (ascii "") 4 (member "y" 12 0 0 ∷ [])
    ∷ Composite false (ascii "") 4 (member "y" 13 0 0 ∷ []) ∷ Composite true (ascii "") 4 (member "y" 14 0 0 ∷ [])
    ∷ Composite true (ascii "") 4 (member "y" 15 0 0 ∷ []) ∷ Composite true (ascii "x") 4 (member "y" 16 0 0 ∷ []) ∷ [])
    (all 749 ∷ [])
    ((0, 445) ∷ [])
    "struct x {\n\tstruct {\n\t\tstruct {\n\t\t\tunion {\n\t\t\t\tunion {\n\t\t\t\t\tunion {\n\t\t\t\t\t\tunion {\n\t\t\t\t\t\t\tstruct {\n\t\t\t\t\t\t\t\tunion {\n\t\t\t\t\t\t\t\t\tunion {\n\t\t\t\t\t\t\t\t\t\tstruct {\n\t\t\t\t\t\t\t\t\t\t\tstruct {\n\t\t\t\t\t\t\t\t\t\t\t\tstruct {\n\t\t\t\t\t\t\t\t\t\t\t\tstruct {\n\t\t\t\t\t\t\t\t\t\t\t\tunion {\n\t\t\t\t\t\t\t\t\t\t\t\tstruct {\t\t\t\t\t\t\t\t\t\t\t\t} y;\n\t\t\t\t\t\t\t\t\t\t\t\t} y;\n\t\t\t\t\t\t\t\t\t\t\t\t} y;\n\t\t\t\t\t\t\t\t\t\t\t\t} y;\n\t\t\t\t\t\t\t\t\t\t\t} y;\n\t\t\t\t\t\t\t\t\t\t} y;\n\t\t\t\t\t\t\t\t\t} y;\n\t\t\t\t\t\t\t\t} y;\n\t\t\t\t\t\t\t} y;\n\t\t\t\t\t\t} y;\n\t\t\t\t\t} y;\n\t\t\t\t} y;\n\t\t\t} y;\n\t\t} y;\n\t} y;\n};\n\n"
    ∷ session 8 false  -- 1-3269-2
    (Void ∷ TypeTag false (ascii "x") 4
    ∷ Enum true (ascii "x") 3 (value "x" 99 ∷ value "E" 2147483649 ∷ value "y" 4210958105 ∷ value "x" 3368519012 ∷ value "x" 1863152552 ∷ [])
    ∷ Array 6 4 ∷ FuncProto 6 (param "E" 2 ∷ []) ∷ Ptr 6
    ∷ Enum64 false (ascii "x") 8 (value "x" 9223372036854775808 ∷ value "E" 13242971005070082058 ∷ value "y" 18446744069414584320 ∷ [])
    ∷ Composite true (ascii "E") 56 (member "y" 6 6 0 ∷ member "E" 3 192 0 ∷ []) ∷ [])
    (one 313 3 ∷ one 175 6 ∷ one 102 6 ∷ one 197 9 ∷ one 216 2 ∷ one 595 3 ∷ one 216 1 ∷ one 251 3 ∷ all 302 ∷ [])
    ((0, 102) ∷ (0, 102) ∷ (0, 102) ∷ (10, 102) ∷ (0, 216) ∷ (0, 216) ∷ (0, 216) ∷ (0, 216) ∷ (0, 302) ∷ [])
    "enum x {\n\tx = 9223372036854775808ULL,\n\tE = 13242971005070082058ULL,\n\ty = 18446744069414584320ULL,\n};\n\nenum x___2 {\n\tx___2 = 99,\n\tE___2 = -2147483647,\n\ty___2 = -84009191,\n\tx___3 = -926448284,\n\tx___4 = 1863152552,\n};\n\nstruct E {\n\tenum x y;\n\tlong: 58;\n\tlong: 64;\n\tenum x E[4];\n} __attribute__((packed));\n\n"
    ∷ session 8 true  -- 1-3291-0
    (Void ∷ Composite true (ascii "s") 8 (member "prey" 4 0 0 ∷ []) ∷ Composite true (ascii "data") 4 (member "y" 3 0 0 ∷ []) ∷ Array 4 4294967295
    ∷ Int (ascii "int") 32 ∷ Int (ascii "char") 8 ∷ [])
    (all 58 ∷ [])
    ((16, 26) ∷ [])
    "struct s {\n\tint prey;\n};\n\n"
    ∷ session 4 false  -- 1-3321-0
    (Void ∷ Int (ascii "int") 32 ∷ Composite false (ascii "") 4 (member "x" 1 0 0 ∷ []) ∷ Enum false (ascii "b") 4 (value "priv" 1 ∷ [])
    ∷ Mod volatile 2 ∷ FuncProto 4 (param "" 1 ∷ []) ∷ Mod restrict 5 ∷ Typedef (ascii "b") 6 ∷ Ptr 7 ∷ FuncProto 0 (param "x" 8 ∷ [])
    ∷ Typedef (ascii "x") 9 ∷ Mod const 7 ∷ Ptr 11 ∷ Array 12 0 ∷ Mod volatile 13 ∷ Mod const 14 ∷ FuncProto 15 (param "" 15 ∷ param "" 3 ∷ [])
    ∷ FuncProto 16 (param "" 0 ∷ param "node" 0 ∷ param "b" 0 ∷ []) ∷ FuncProto 17 (param "" 16 ∷ param "" 0 ∷ []) ∷ Ptr 18
    ∷ Composite true (ascii "node") 8 (member "" 19 0 0 ∷ []) ∷ [])
    (all 422 ∷ [])
    ((0, 232) ∷ [])
    "enum b {\n\tpriv = 1,\n};\n\ntypedef volatile union {\n\tint x;\n}restrict  b(int);\n\ntypedef void x(b *x);\n\nstruct node {\n\tconst b *( ( ( (*)(const b *((const b *[0], enum b))[0], ...))(void, void node, ...))(const b *[0], enum b))[0];\n};\n\n"
    ∷ session 4 true  -- 1-3324-0
    (Void ∷ Composite true (ascii "x") 8 (member "" 2 0 0 ∷ []) ∷ TypeTag false (ascii "x") 3 ∷ Mod restrict 4 ∷ Mod volatile 7
    ∷ Enum false (ascii "") 4 (value "y" 1 ∷ []) ∷ Composite true (ascii "data") 4 (member "data" 7 0 0 ∷ []) ∷ Int (ascii "int") 32 ∷ [])
    (all 439 ∷ [])
    ((0, 103) ∷ [])
    "struct x {\n\tvolatile restrict int __attribute__((btf_type_tag(\"x\")));\n};\n\nstruct data {\n\tint data;\n};\n\n"
    ∷ session 4 true  -- 1-3347-2
    (Void ∷ Int (ascii "y") 32 ∷ FuncProto 8 [] ∷ Array 1 100 ∷ Typedef (ascii "flags") 8 ∷ Mod const 4 ∷ Mod restrict 4 ∷ Fwd true (ascii "x___3")
    ∷ Composite true (ascii "_") 452 (member "x___3" 3 0 8 ∷ member "Ax" 1 8 2 ∷ member "flags" 1 32 0 ∷ member "y" 1 96 255 ∷ member "x" 3 401 0 ∷ [])
    ∷ Var (ascii "x") ∷ [])
    (one 377 9 ∷ one 234 2 ∷ one 139 1 ∷ one 177 0 ∷ one 164 5 ∷ one 164 4 ∷ one 164 2 ∷ [])
    ((0, 0) ∷ (0, 139) ∷ (0, 139) ∷ (0, 139) ∷ (0, 164) ∷ (0, 164) ∷ (0, 164) ∷ [])
    "struct _ {\n\ty x___3[100]: 8;\n\ty Ax: 2;\n\tint: 22;\n\ty flags;\n\tint: 32;\n\ty y: 255;\n\tint: 18;\n\tint: 32;\n\ty x[100];\n} __attribute__((packed));\n\ntypedef struct _ flags;\n\n"
    ∷ session 4 true  -- 1-3366-0
    (Void ∷ Typedef (ascii "x___2") 2 ∷ Array 3 3 ∷ Ptr 4 ∷ FuncProto 5 (param "" 16 ∷ param "" 8 ∷ param "__x" 0 ∷ []) ∷ FuncProto 6 [] ∷ Ptr 7
    ∷ Mod const 15 ∷ Typedef (ascii "y") 9 ∷ Ptr 10 ∷ TypeTag false (ascii "") 11 ∷ Mod volatile 12 ∷ Ptr 13 ∷ Mod restrict 16
    ∷ Enum false (ascii "s") 4 (value "s" 1 ∷ []) ∷ Composite false (ascii "") 4 (member "__x" 16 0 0 ∷ []) ∷ Int (ascii "int") 32 ∷ [])
    (all 566 ∷ [])
    ((0, 171) ∷ [])
    "typedef restrict int * volatile __attribute__((btf_type_tag(\"\"))) *y;\n\ntypedef const struct /*union*/ {\n\tint __x;\n} * ( (*x___2[3])(int, y, ...))();\n\nenum s {\n\ts = 1,\n};\n\n"
    ∷ session 4 false  -- 1-3396-0
    (Void
    ∷ Composite true (ascii "") 184 (member "" 5 0 0 ∷ member "" 10 280 1 ∷ member "T" 7 286 5 ∷ member "node" 9 291 1 ∷ member "prex" 11 320 0 ∷ member "" 12 352 1 ∷ member "" 5 384 0 ∷ member "preflags" 4 763 0 ∷ member "T" 12 1411 5 ∷ [])
    ∷ Mod const 6 ∷ Fwd false (ascii "next") ∷ Typedef (ascii "priv") 10 ∷ Composite true (ascii "preflags") 32 (member "x" 8 224 8 ∷ [])
    ∷ Float (ascii "prey") 16 ∷ Composite false (ascii "x___2") 80 (member "next" 10 0 0 ∷ member "node" 9 0 0 ∷ []) ∷ Ptr 12
    ∷ Typedef (ascii "node") 12
    ∷ Composite true (ascii "flags") 80 (member "priv" 8 0 255 ∷ member "prenode" 9 255 64 ∷ member "prey" 13 320 0 ∷ member "priv" 11 320 0 ∷ member "priv" 13 352 0 ∷ member "y" 2 536 8 ∷ member "priv" 13 568 16 ∷ member "prex" 13 584 8 ∷ member "u32" 11 593 32 ∷ member "x" 3 632 0 ∷ [])
    ∷ Float (ascii "prey") 4 ∷ Composite false (ascii "yx") 0 [] ∷ Int (ascii "node") 0 ∷ [])
    (all 172 ∷ [])
    ((15, 0) ∷ [])
    ""
    ∷ session 4 true  -- 1-3471-0
    (Void ∷ Typedef (ascii "list_head") 2 ∷ FuncProto 3 (param "" 12 ∷ []) ∷ Mod const 4 ∷ Mod restrict 5 ∷ TypeTag false (ascii "a b") 6
    ∷ Mod const 11 ∷ Composite true (ascii "data") 8 (member "priv" 8 0 0 ∷ []) ∷ Ptr 9 ∷ Array 10 4 ∷ Mod const 0
    ∷ Enum false (ascii "") 4 (value "prey" 1 ∷ []) ∷ Composite false (ascii "") 4 (member "prey" 13 0 0 ∷ []) ∷ Int (ascii "int") 32 ∷ [])
    (all 171 ∷ [])
    ((17, 131) ∷ [])
    "typedef const enum {\n\tprey = 1,\n}restrict const  __attribute__((btf_type_tag(\"a b\"))) list_head(struct /*union*/ {\n\tint prey;\n});\n\n"
    ∷ session 8 true  -- 1-3516-0
    (Void ∷ Composite false (ascii "Ax") 8 (member "preAx" 6 8 26 ∷ [])
    ∷ Composite false (ascii "u32") 8 (member "data" 6 32 0 ∷ member "buf" 6 0 0 ∷ member "buf" 4 0 0 ∷ [])
    ∷ Composite true (ascii "Ax") 2147483648 (member "ops" 6 0 0 ∷ []) ∷ Array 8 0 ∷ Array 7 0 ∷ Array 8 2147483648 ∷ Int (ascii "int") 32
    ∷ Int (ascii "char") 8 ∷ [])
    (all 120 ∷ [])
    ((16, 65) ∷ [])
    "struct /*union*/ Ax {\n\tchar: 8;\n\tchar preAx[2147483648]: 26;\n};\n\n"
    ∷ session 4 false  -- 1-3520-1
    (Void ∷ Composite true (ascii "") 4 (member "x___3" 3 24 0 ∷ member "a" 3 32 0 ∷ []) ∷ Composite false (ascii "") 0 [] ∷ Mod volatile 7
    ∷ FuncProto 0 (param "" 1 ∷ param "" 12 ∷ []) ∷ Ptr 1 ∷ Typedef (ascii "data") 5
    ∷ Enum64 true (ascii "data") 0 (value "len" 47244640255 ∷ value "Ax" 4294967292705032703 ∷ value "buf" 9223372036854775808 ∷ [])
    ∷ DeclTag true (ascii "x") 12 4 ∷ Typedef (ascii "data") 2 ∷ DeclTag false (ascii "aligned(4)") 2 0 ∷ Enum64 true (ascii "data") 4 []
    ∷ Composite true (ascii "Ax") 14 (member "list_head" 6 0 0 ∷ member "" 2 64 0 ∷ member "" 1 66 0 ∷ member "data" 3 106 0 ∷ []) ∷ [])
    (one 241 9 ∷ one 341 2 ∷ one 231 4 ∷ one 95 1 ∷ one 227 0 ∷ [])
    ((0, 24) ∷ (0, 24) ∷ (15, 24) ∷ (11, 24) ∷ (11, 24) ∷ [])
    "typedef union {} data;\n\n"
    ∷ session 8 true  -- 1-3568-1
    (Void ∷ Int (ascii "char") 8 ∷ Int (ascii "int") 32 ∷ Array 2 536870912 ∷ Array 2 268435456
    ∷ Composite true (ascii "E") 4294967295 (member "Ax" 3 0 0 ∷ []) ∷ Composite true (ascii "len") 8 (member "_" 2 8 0 ∷ member "Ax" 5 32 0 ∷ [])
    ∷ Composite true (ascii "list_head") 8 (member "len" 5 0 0 ∷ member "x___3" 4 32 0 ∷ member "_" 3 0 0 ∷ [])
    ∷ Composite true (ascii "list_head") 8 (member "next" 1 0 0 ∷ []) ∷ [])
    (one 405 7 ∷ one 0 1 ∷ one 0 4 ∷ [])
    ((16, 0) ∷ (11, 0) ∷ (11, 0) ∷ [])
    ""
    ∷ session 8 false  -- 1-3603-0
    (Void ∷ Ptr 4 ∷ Array 4 100 ∷ Composite true (ascii "") 300 (member "y" 2 0 0 ∷ []) ∷ Int (ascii "y") 24
    ∷ Composite true (ascii "y") 14 (member "prey" 4 0 0 ∷ member "y" 1 24 0 ∷ member "node\u{2}u32" 4 88 0 ∷ [])
    ∷ Composite true (ascii "x") 312 (member "prey" 2 0 0 ∷ member "x" 1 2432 0 ∷ []) ∷ [])
    (all 11524 ∷ [])
    ((0, 104) ∷ [])
    "struct y {\n\ty prey;\n\ty *y;\n\ty node\u{2}u32;\n} __attribute__((packed));\n\nstruct x {\n\ty prey[100];\n\ty *x;\n};\n\n"
    ∷ session 4 false  -- 1-3606-0
    (Void ∷ Int (ascii "char") 8 ∷ Int (ascii "int") 32 ∷ Array 2 268435457 ∷ Array 1 2 ∷ Array 1 2147483648 ∷ Array 1 4294967295 ∷ Ptr 6
    ∷ Composite true (ascii "") 4 (member "E" 3 0 0 ∷ [])
    ∷ Composite true (ascii "state") 8 (member "m\"\\\n\t\r\u{1}" 7 64 0 ∷ member "data" 7 0 0 ∷ []) ∷ [])
    (all 114 ∷ [])
    ((0, 96) ∷ [])
    "struct state {\n\tint: 32;\n\tint: 32;\n\tchar (*m\"\\\n\t\r\u{1})[4294967295];\n\tchar (*data)[4294967295];\n};\n\n"
    ∷ session 4 false  -- 1-3662-2
    (Void ∷ Array 5 2147483648 ∷ Array 4 2 ∷ Ptr 2 ∷ Int (ascii "int") 32 ∷ Int (ascii "char") 8 ∷ Array 5 65536
    ∷ Composite false (ascii "b") 536870912 (member "prex___2" 4 0 0 ∷ []) ∷ Composite true (ascii "x___2") 8 (member "b" 1 0 0 ∷ [])
    ∷ Composite true (ascii "x___2") 8 (member "b" 5 32 0 ∷ member "a" 1 8 0 ∷ []) ∷ [])
    (one 0 0 ∷ one 240 3 ∷ one 0 5 ∷ one 0 0 ∷ one 29 7 ∷ one 226 9 ∷ one 347 7 ∷ one 167 0 ∷ [])
    ((0, 0) ∷ (0, 0) ∷ (0, 0) ∷ (0, 0) ∷ (0, 29) ∷ (16, 29) ∷ (11, 29) ∷ (11, 29) ∷ [])
    "union b {\n\tint prex___2;\n};\n\n"
    ∷ session 4 true  -- 1-3748-1
    (Void ∷ Int (ascii "char") 8 ∷ Int (ascii "int") 32 ∷ Array 1 1073741823 ∷ Array 3 65536
    ∷ Composite false (ascii "_") 536870912 (member "data" 3 0 0 ∷ []) ∷ Composite true (ascii "x") 8 (member "E" 2 0 0 ∷ member "y" 4 8 0 ∷ []) ∷ [])
    (one 272 6 ∷ one 87 5 ∷ one 0 4 ∷ [])
    ((16, 0) ∷ (11, 0) ∷ (11, 0) ∷ [])
    ""
    ∷ session 8 false  -- 1-3765-0
    (Void ∷ Int (ascii "int") 32 ∷ Composite false (ascii "") 4 (member "y" 1 0 0 ∷ []) ∷ Enum false (ascii "") 4 (value "prey" 1 ∷ []) ∷ Mod const 1
    ∷ Array 4 4 ∷ Array 5 2 ∷ Ptr 6 ∷ Ptr 7 ∷ Ptr 8 ∷ Ptr 9 ∷ Composite true (ascii "list_head") 8 (member "" 10 0 0 ∷ []) ∷ FuncProto 2 []
    ∷ TypeTag false (ascii "aligned(4)") 12 ∷ Ptr 13 ∷ Composite true (ascii "y") 8 (member "y" 14 0 0 ∷ []) ∷ [])
    (all 136 ∷ [])
    ((0, 136) ∷ [])
    "struct list_head {\n\tconst int(****)[2][4];\n};\n\nstruct y {\n\tunion {\n\t\tint y;\n\t} ( __attribute__((btf_type_tag(\"aligned(4)\"))) *y)();\n};\n\n"
    ∷ session 4 true  -- 1-3788-2
    (Void ∷ Int (ascii "x") 32 ∷ Int (ascii "y") 7 ∷ Int (ascii "y") 24
    ∷ Composite true (ascii "x") 56 (member "x" 7 0 0 ∷ member "y" 12 64 0 ∷ member "u32" 10 64 0 ∷ member "x" 10 128 0 ∷ member "x" 10 192 0 ∷ member "prey" 3 264 0 ∷ member "u32" 7 320 0 ∷ member "prey" 10 384 0 ∷ [])
    ∷ Composite true (ascii "x") 80 (member "u32" 3 257 0 ∷ member "y" 11 69 0 ∷ member "y" 3 259 0 ∷ member "x" 6 143 0 ∷ member "u32" 2 51 0 ∷ [])
    ∷ Typedef (ascii "prex") 4 ∷ Ptr 3
    ∷ Composite true (ascii "x") 192 (member "u32" 7 2 1 ∷ member "prey" 2 8 1 ∷ member "" 5 14 255 ∷ member "u32" 3 488 0 ∷ member "" 7 518 33 ∷ member "" 5 588 0 ∷ member "x" 12 1228 1 ∷ member "y" 3 1496 0 ∷ [])
    ∷ Composite false (ascii "prey") 4 (member "x" 1 0 0 ∷ member "y" 11 0 0 ∷ member "u32" 3 2 0 ∷ []) ∷ Typedef (ascii "y") 7
    ∷ Enum64 true (ascii "") 0 (value "prex" 9223372036854775807 ∷ value "y" 9223372041064050484 ∷ value "y" 9223372036854775807 ∷ [])
    ∷ Enum false (ascii "y") 0 (value "y" 3834063977 ∷ value "x" 1813514900 ∷ value "y" 4294967295 ∷ [])
    ∷ Composite false (ascii "prey") 4 (member "x" 11 0 0 ∷ member "x" 3 0 0 ∷ member "u32" 2 0 0 ∷ member "" 9 0 0 ∷ []) ∷ [])
    (one 10420 1 ∷ one 68 12 ∷ one 197 5 ∷ one 68 8 ∷ one 441 1 ∷ [])
    ((0, 0) ∷ (0, 68) ∷ (15, 68) ∷ (11, 68) ∷ (11, 68) ∷ [])
    "enum y {\n\ty = 3834063977,\n\tx = 1813514900,\n\ty___2 = 4294967295,\n};\n\n"
    ∷ session 8 false  -- 1-3798-0
    (Void ∷ Int (ascii "int") 32 ∷ Composite false (ascii "x") 4 (member "prepriv" 1 0 0 ∷ []) ∷ Enum false (ascii "priv") 4 (value "prepriv" 1 ∷ [])
    ∷ Array 2 6 ∷ Ptr 4 ∷ TypeTag true (ascii "x") 5 ∷ FuncProto 0 (param "" 6 ∷ []) ∷ Typedef (ascii "data") 7 ∷ Ptr 0 ∷ Mod const 9
    ∷ Composite true (ascii "data") 8 (member "" 10 0 0 ∷ []) ∷ Mod const 3 ∷ Ptr 12 ∷ Mod volatile 13
    ∷ FuncProto 14 (param "" 6 ∷ param "ops" 0 ∷ []) ∷ FuncProto 15 (param "" 0 ∷ []) ∷ Ptr 16 ∷ Typedef (ascii "len") 17
    ∷ FuncProto 6 (param "" 3 ∷ param "priv" 0 ∷ param "priv" 0 ∷ []) ∷ Ptr 19 ∷ Typedef (ascii "y") 20 ∷ [])
    (all 305 ∷ [])
    ((17, 233) ∷ [])
    "union x {\n\tint prepriv;\n};\n\nenum priv {\n\tprepriv = 1,\n};\n\ntypedef void data(union x(* __attribute__((x)))[6]);\n\nstruct data {\n\tvoid * const;\n};\n\ntypedef const enum priv * volatile ( (*len)())(union x(* __attribute__((x)))[6], ...);\n\n"
    ∷ session 8 false  -- 1-3822-0
    (Void ∷ Composite true (ascii "priv") 8 (member "_" 4 0 0 ∷ []) ∷ Int (ascii "int") 32 ∷ Array 2 268435457 ∷ Array 2 1073741823
    ∷ Int (ascii "char") 8 ∷ Composite true (ascii "list_head") 8 (member "preyx" 1 0 28 ∷ [])
    ∷ Composite true (ascii "flags") 8 (member "y" 2 0 0 ∷ member "E" 1 64 0 ∷ []) ∷ [])
    (all 32 ∷ [])
    ((16, 0) ∷ [])
    ""
    ∷ session 4 false  -- 1-3900-0
    (Void ∷ Int (ascii "char") 8 ∷ Int (ascii "int") 32 ∷ Array 2 536870912 ∷ Ptr 3
    ∷ Composite true (ascii "node") 2147483648 (member "node" 2 0 0 ∷ []) ∷ Composite false (ascii "prelen") 8 (member "x___3" 5 4096 0 ∷ []) ∷ [])
    (all 1404 ∷ [])
    ((16, 29) ∷ [])
    "struct node {\n\tint node;\n};\n\n"
    ∷ session 8 true  -- 1-3943-1
    (Void ∷ Int (ascii "char") 8 ∷ Int (ascii "int") 32 ∷ Array 1 1073741823 ∷ Array 2 1073741823 ∷ Ptr 4 ∷ Array 1 65535 ∷ Array 1 2147483648
    ∷ Composite true (ascii "x___3") 2147483648 (member "preops" 5 0 0 ∷ []) ∷ Composite true (ascii "data") 8 (member "ops" 6 8 0 ∷ [])
    ∷ Composite false (ascii "x___3") 8 (member "x___3" 5 4096 0 ∷ member "__x" 1 0 0 ∷ member "prex" 3 32 0 ∷ [])
    ∷ Composite false (ascii "x") 8 (member "T" 2 0 0 ∷ member "prenext" 3 0 0 ∷ []) ∷ [])
    (one 366 1 ∷ one 807 10 ∷ one 0 2 ∷ one 84 4 ∷ [])
    ((0, 0) ∷ (16, 0) ∷ (11, 0) ∷ (11, 0) ∷ [])
    ""
    ∷ session 4 false  -- 1-3954-0
    (Void ∷ Int (ascii "char") 8 ∷ Int (ascii "int") 32 ∷ Array 1 268435456 ∷ Mod const 3 ∷ Array 1 2147483648 ∷ Mod const 5 ∷ Array 1 0
    ∷ Array 2 1073741823 ∷ Typedef (ascii "b") 8 ∷ Composite false (ascii "b") 536870912 (member "yx" 6 0 0 ∷ [])
    ∷ Composite true (ascii "y") 8 (member "next" 1 4096 0 ∷ []) ∷ Composite true (ascii "x___3") 8 (member "next" 4 0 0 ∷ member "y" 1 8 0 ∷ []) ∷ [])
    (all 198 ∷ [])
    ((16, 28) ∷ [])
    "typedef int b[1073741823];\n\n"
    ∷ session 8 true  -- 1-3987-0
    (Void ∷ Int (ascii "int") 32 ∷ Composite false (ascii "") 4 (member "flags" 1 0 0 ∷ []) ∷ Enum false (ascii "y") 4 (value "x___3" 1 ∷ [])
    ∷ FuncProto 2 (param "y" 2 ∷ param "x" 0 ∷ param "state" 0 ∷ []) ∷ Mod volatile 4 ∷ Mod volatile 5
    ∷ FuncProto 6 (param "" 0 ∷ param "" 1 ∷ param "y" 0 ∷ []) ∷ Ptr 7 ∷ Ptr 8 ∷ FuncProto 9 (param "" 3 ∷ []) ∷ Mod volatile 10 ∷ Mod const 11
    ∷ Typedef (ascii "buf") 12 ∷ [])
    (all 185 ∷ [])
    ((0, 185) ∷ [])
    "enum y {\n\tx___3 = 1,\n};\n\ntypedef struct /*union*/ {\n\tint flags;\n}volatile volatile  ( (**volatile const buf(enum y))(void, int, ...))(struct /*union*/ {\n\tint flags;\n} y, void x, ...);\n\n"
    ∷ session 4 false  -- 1-4047-0
    (Void ∷ Int (ascii "short") 16 ∷ Int (ascii "int") 32 ∷ Int (ascii "i128") 128 ∷ Int (ascii "long") 64
    ∷ Composite true (ascii "state") 512 (member "x" 7 0 0 ∷ []) ∷ Int (ascii "char") 8
    ∷ Composite true (ascii "b") 160 (member "next" 1 96 16 ∷ member "prex___3" 4 231 30 ∷ member "a" 1 497 1 ∷ member "Ax" 3 704 0 ∷ member "u32" 4 1115 0 ∷ member "x___3" 4 1216 0 ∷ [])
    ∷ [])
    (all 484 ∷ [])
    ((0, 484) ∷ [])
    "struct b {\n\tint: 32;\n\tint: 32;\n\tint: 32;\n\tshort next: 16;\n\tint: 23;\n\tint: 32;\n\tint: 32;\n\tint: 32;\n\tlong prex___3: 30;\n\tint: 12;\n\tint: 32;\n\tint: 32;\n\tint: 32;\n\tint: 32;\n\tint: 32;\n\tint: 32;\n\tint: 32;\n\tshort a: 1;\n\tint: 14;\n\tint: 32;\n\tint: 32;\n\tint: 32;\n\tint: 32;\n\tint: 32;\n\tint: 32;\n\ti128 Ax;\n\tint: 27;\n\tint: 32;\n\tint: 32;\n\tint: 32;\n\tint: 32;\n\tint: 32;\n\tint: 32;\n\tint: 32;\n\tint: 32;\n\tlong u32;\n\tint: 5;\n\tint: 32;\n\tlong x___3;\n} __attribute__((packed));\n\nstruct state {\n\tstruct b x;\n};\n\n"
    ∷ session 4 true  -- 1-4081-1
    (Void ∷ Array 3 1073741823 ∷ Int (ascii "char") 8 ∷ Array 2 536870911
    ∷ Composite true (ascii "prex") 8 (member "b" 6 0 0 ∷ member "preyx" 8 0 0 ∷ []) ∷ Array 3 65536 ∷ Array 7 268435457 ∷ Int (ascii "int") 32
    ∷ Composite true (ascii "pres") 2147483648 (member "preyx" 1 0 0 ∷ []) ∷ [])
    (one 275 8 ∷ one 22206 7 ∷ one 258 6 ∷ [])
    ((16, 0) ∷ (11, 0) ∷ (11, 0) ∷ [])
    ""
    ∷ session 8 true  -- 1-4133-2
    (Void ∷ Int (ascii "char") 8 ∷ Int (ascii "int") 32 ∷ Array 1 65536 ∷ Array 2 1073741823 ∷ Array 4 65536
    ∷ Composite false (ascii "priv") 8 (member "E" 3 0 0 ∷ member "yx" 1 0 0 ∷ member "prepriv" 5 0 0 ∷ [])
    ∷ Composite false (ascii "yx") 4294967295 (member "Ax" 4 0 0 ∷ [])
    ∷ Composite true (ascii "abcdefghijklmnopqrstuvwxyzabcdefghijklmnopqrstuvwxyzabcdefghijklmnopqrstuvwxyzabcdefghijklmnopqrstuvwxyzabcdefghijklmnopqrstuvwxyzabcdefghijklmnopqrstuvwxyzabcdefghijklmnopqrstuvwxyzabcdefghijklmnopqrstuvwxyzabcdefghijklmnopqrstuvwxyzabcdefghijklmnopqrstuvwxyzabcdefghijklmnopqrstuvwxyzabcdefghijklmnopqrstuvwxyz") 8 (member "s" 1 32 0 ∷ member "x" 3 0 0 ∷ [])
    ∷ [])
    (one 12 4294967295 ∷ one 18 5 ∷ one 392 6 ∷ one 204 7 ∷ [])
    ((10, 0) ∷ (0, 0) ∷ (16, 0) ∷ (11, 0) ∷ [])
    ""
    ∷ session 4 false  -- 1-4134-0
    (Void ∷ Int (ascii "_") 24 ∷ Enum false (ascii "state") 2 (value "flags" 1000000000 ∷ value "_" 0 ∷ []) ∷ TypeTag false (ascii "\"") 5 ∷ Ptr 3
    ∷ Composite true (ascii "_") 8 (member "x" 1 0 3 ∷ member "_" 4 3 33 ∷ []) ∷ Ptr 4 ∷ [])
    (all 473 ∷ [])
    ((0, 124) ∷ [])
    "enum state {\n\tflags = 1000000000,\n\t_ = 0,\n};\n\nstruct _ {\n\t_ x: 3;\n\tstruct _ __attribute__((btf_type_tag(\"\\\"\"))) *_: 33;\n};\n\n"
    ∷ session 4 false  -- 1-4190-2
    (Void ∷ Int (ascii "char") 8 ∷ Int (ascii "int") 32 ∷ Array 1 268435456 ∷ Array 3 536870912 ∷ Ptr 4 ∷ Array 3 65535 ∷ Typedef (ascii "list_head") 6
    ∷ Composite false (ascii "ops") 536870912 (member "flags" 3 0 0 ∷ [])
    ∷ Composite true (ascii "flags") 8 (member "x___2" 8 4096 0 ∷ member "y" 7 0 0 ∷ member "node" 8 0 0 ∷ []) ∷ [])
    (one 382 7 ∷ one 43 6 ∷ [])
    ((0, 43) ∷ (0, 43) ∷ [])
    "typedef char list_head[65535][268435456];\n\n"
    ∷ session 8 true  -- 1-4233-0
    (Void ∷ Typedef (ascii "x___3") 0 ∷ Int (ascii "Ax") 16 ∷ Typedef (ascii "data") 6 ∷ Datasec (ascii "state") ∷ Array 7 16
    ∷ Typedef (ascii "x___3") 0
    ∷ Composite true (ascii "y") 304 (member "preE" 13 0 0 ∷ member "u32" 1 32 0 ∷ member "__x" 3 40 0 ∷ member "state" 0 40 0 ∷ member "yx" 12 40 0 ∷ member "data" 10 67 0 ∷ member "T" 9 128 0 ∷ member "yx" 13 2384 0 ∷ [])
    ∷ Enum false (ascii "E") 1 (value "E" 10 ∷ value "preyx" 2147483647 ∷ [])
    ∷ Composite true (ascii "x") 268 (member "prestate" 13 0 0 ∷ member "pres" 8 32 0 ∷ member "" 2 48 0 ∷ member "b" 13 64 0 ∷ member "prex___3" 10 182 0 ∷ member "preAx" 2 224 0 ∷ member "s" 12 240 0 ∷ member "x___2" 8 240 0 ∷ member "yx" 8 251 0 ∷ member "preAx" 3 512 0 ∷ member "yx" 3 776 0 ∷ member "E" 12 776 0 ∷ member "x___2" 8 808 0 ∷ member "preb" 13 1000 0 ∷ member "T" 8 1032 0 ∷ member "T" 8 1352 0 ∷ member "ops" 8 1365 0 ∷ member "x___2" 8 1376 0 ∷ member "prex___3" 8 1384 0 ∷ member "b" 2 1392 0 ∷ member "yx" 8 1488 0 ∷ member "state" 3 1496 0 ∷ member "len" 12 1496 0 ∷ member "a" 2 1544 0 ∷ member "T" 10 1568 0 ∷ member "T" 13 1632 0 ∷ member "Ax" 2 1664 0 ∷ member "x___3" 12 1680 0 ∷ member "yx" 2 1680 0 ∷ member "" 12 1789 0 ∷ member "Ax" 8 1794 0 ∷ member "priv" 8 1811 0 ∷ member "flags" 2 1992 0 ∷ member "yx" 3 2008 0 ∷ member "preAx" 1 2032 0 ∷ member "ops" 10 2052 0 ∷ member "b" 1 2120 0 ∷ member "list_head" 8 2120 0 ∷ member "s" 8 2128 0 ∷ [])
    ∷ Composite false (ascii "y") 4 (member "" 8 0 0 ∷ member "ops" 13 0 0 ∷ member "data" 6 0 0 ∷ []) ∷ DeclTag false (ascii "") 7 6 ∷ Array 0 3
    ∷ Int (ascii "preAx") 32 ∷ [])
    (all 1433 ∷ [])
    ((15, 71) ∷ [])
    "typedef void x___3;\n\ntypedef void x___3___2;\n\ntypedef x___3___2 data;\n\n"
    ∷ session 8 false  -- 1-4287-0
    (Void ∷ Composite false (ascii "__x") 8 (member "T" 10 0 0 ∷ member "a" 5 64 0 ∷ member "T" 10 0 28 ∷ [])
    ∷ Composite true (ascii "state") 8 (member "a" 4 0 0 ∷ member "ops" 10 32 0 ∷ [])
    ∷ Composite true (ascii "list_head") 8 (member "x" 10 0 15 ∷ member "ops" 6 32 0 ∷ [])
    ∷ Composite false (ascii "x___2") 2147483648 (member "ops" 6 0 0 ∷ []) ∷ Array 10 536870911 ∷ Mod const 7 ∷ Array 8 65536
    ∷ Typedef (ascii "flags") 9 ∷ Array 10 536870912 ∷ Int (ascii "int") 32 ∷ Int (ascii "char") 8 ∷ [])
    (all 50 ∷ [])
    ((16, 0) ∷ [])
    ""
    ∷ session 4 false  -- 1-4319-2
    (Void ∷ Int (ascii "prey") 1 ∷ Ptr 1 ∷ Ptr 0 ∷ Ptr 0 ∷ DeclTag false (ascii "x") 6 0
    ∷ Composite true (ascii "prelist_head") 80 (member "prey" 1 0 255 ∷ member "" 4 255 32 ∷ member "y" 2 287 3 ∷ member "state" 1 290 33 ∷ member "x" 4 323 1 ∷ member "__x" 4 324 1 ∷ member "list_head" 1 325 1 ∷ member "_" 2 326 255 ∷ member "y" 4 597 3 ∷ member "node" 4 606 31 ∷ [])
    ∷ [])
    (one 307 5 ∷ one 367 2 ∷ all 631 ∷ one 297 6 ∷ one 236 4 ∷ [])
    ((0, 0) ∷ (0, 0) ∷ (0, 236) ∷ (0, 236) ∷ (0, 236) ∷ [])
    "struct prelist_head {\n\tprey prey: 255 __attribute__((btf_decl_tag(\"x\")));\n\tvoid *: 32;\n\tprey *y: 3;\n\tprey state: 33;\n\tvoid *x: 1;\n\tvoid *__x: 1;\n\tprey list_head: 1;\n\tprey *_: 255;\n\tshort: 16;\n\tvoid *y: 3;\n\tchar: 6;\n\tvoid *node: 31;\n};\n\n"
    ∷ session 4 false  -- 1-4344-0
    (Void ∷ Int (ascii "int") 32 ∷ Composite true (ascii "") 4 (member "node" 1 0 0 ∷ []) ∷ Enum false (ascii "x") 4 (value "state" 1 ∷ []) ∷ Ptr 0
    ∷ Ptr 4 ∷ Mod const 5 ∷ Mod const 6 ∷ Ptr 7 ∷ Array 8 3 ∷ Composite true (ascii "x") 24 (member "" 9 0 0 ∷ []) ∷ [])
    (all 71 ∷ [])
    ((0, 71) ∷ [])
    "enum x {\n\tstate = 1,\n};\n\nstruct x___2 {\n\tvoid ** const const *[3];\n};\n\n"
    ∷ session 4 false  -- 1-4346-2
    (Void ∷ Enum false (ascii "") 4 (value "y" 2811379324 ∷ [])
    ∷ Composite true (ascii "x") 108 (member "prey" 10 122 0 ∷ member "x" 10 128 0 ∷ member "" 7 161 0 ∷ member "prey" 7 224 0 ∷ member "y" 10 256 0 ∷ member "x" 15 256 0 ∷ member "x" 7 256 0 ∷ member "prey" 3 288 0 ∷ member "y" 7 288 0 ∷ member "y" 10 329 0 ∷ member "y" 3 336 0 ∷ member "y" 7 429 0 ∷ member "x" 7 484 0 ∷ member "y" 15 520 0 ∷ member "x" 3 520 0 ∷ member "y" 0 524 0 ∷ member "y" 15 528 0 ∷ member "y" 15 528 0 ∷ member "y" 7 544 0 ∷ member "y" 3 576 0 ∷ member "x" 15 576 0 ∷ member "x" 10 672 0 ∷ member "prey" 7 824 0 ∷ [])
    ∷ Fwd true (ascii "y") ∷ Typedef (ascii "x") 8 ∷ Composite true (ascii "y") 24 (member "y" 1 6 0 ∷ member "y" 7 160 0 ∷ []) ∷ FuncProto 13 []
    ∷ Enum true (ascii "prey") 4 (value "x" 10 ∷ value "x" 699322615 ∷ [])
    ∷ Composite true (ascii "y") 28 (member "prey" 5 0 0 ∷ member "y" 0 192 0 ∷ member "prey" 10 192 0 ∷ member "y" 3 192 0 ∷ member "y" 1 192 0 ∷ member "x" 15 224 0 ∷ [])
    ∷ Composite true (ascii "y") 176 (member "" 2 0 0 ∷ member "" 4 1168 0 ∷ []) ∷ Fwd true (ascii "y")
    ∷ Composite true (ascii "y") 64 (member "" 8 54 0 ∷ member "y" 5 307 0 ∷ [])
    ∷ Composite true (ascii "x") 240 (member "x" 3 0 0 ∷ member "" 2 90 0 ∷ member "y" 7 960 0 ∷ member "x" 7 992 0 ∷ member "prey" 1 1024 0 ∷ member "x" 1 1056 0 ∷ member "y" 7 1088 0 ∷ member "y" 4 1120 0 ∷ member "x" 1 1344 0 ∷ member "x" 11 1381 0 ∷ [])
    ∷ Composite true (ascii "") 60 (member "" 7 0 0 ∷ member "x" 4 32 0 ∷ member "" 8 256 0 ∷ []) ∷ Composite true (ascii "prey") 20 []
    ∷ Typedef (ascii "y") 10 ∷ Composite false (ascii "y") 60 (member "y" 13 0 0 ∷ member "y" 7 0 0 ∷ []) ∷ [])
    (one 427 9 ∷ one 159 0 ∷ [])
    ((15, 0) ∷ (11, 0) ∷ [])
    ""
    ∷ session 4 false  -- 1-4362-0
    (Void ∷ Int (ascii "char") 8 ∷ Array 4 536870912 ∷ Array 5 1073741823 ∷ Array 3 2 ∷ Int (ascii "int") 32 ∷ Mod const 2
    ∷ Composite false (ascii "next") 2147483648 (member "y" 6 0 0 ∷ [])
    ∷ Composite true (ascii "next") 8 (member "preflags" 7 8 32 ∷ member "a" 3 32 16 ∷ member "y" 6 8 0 ∷ []) ∷ [])
    (all 81 ∷ [])
    ((16, 0) ∷ [])
    ""
    ∷ session 4 true  -- 1-4447-1
    (Void ∷ Int (ascii "char") 8 ∷ Int (ascii "int") 32 ∷ Array 2 1073741823 ∷ Array 2 268435457 ∷ Array 2 0
    ∷ Composite false (ascii "prex___2") 4294967295 (member "x" 2 0 0 ∷ [])
    ∷ Composite false (ascii "data") 8 (member "preflags" 6 64 0 ∷ member "s" 2 0 0 ∷ member "flags" 3 0 0 ∷ [])
    ∷ Composite false (ascii "node") 8 (member "flags" 2 32 0 ∷ member "flags" 4 0 19 ∷ []) ∷ [])
    (one 227 8 ∷ one 196 7 ∷ one 362 6 ∷ one 307 5 ∷ [])
    ((0, 77) ∷ (16, 77) ∷ (11, 77) ∷ (11, 77) ∷ [])
    "struct /*union*/ node {\n\tint: 32;\n\tint flags;\n\tint flags[268435457]: 19;\n};\n\n"
    ∷ session 8 true  -- 1-4454-2
    (Void ∷ Ptr 4 ∷ Composite true (ascii "x") 8 (member "priv" 7 0 0 ∷ []) ∷ Composite true (ascii "s") 16 (member "s" 1 0 0 ∷ member "" 6 64 0 ∷ [])
    ∷ Typedef (ascii "x") 3 ∷ Typedef (ascii "x") 1 ∷ Int (ascii "int") 32 ∷ Ptr 3 ∷ [])
    (one 220 4294967295 ∷ all 510 ∷ one 111 1 ∷ all 111 ∷ one 417 0 ∷ one 457 0 ∷ one 199 0 ∷ one 111 3 ∷ [])
    ((10, 0) ∷ (0, 111) ∷ (0, 111) ∷ (0, 111) ∷ (0, 111) ∷ (0, 111) ∷ (0, 111) ∷ (0, 111) ∷ [])
    "struct s;\n\nstruct x {\n\tstruct s *priv;\n};\n\ntypedef struct s x;\n\nstruct s {\n\tx *s;\n\tint;\n};\n\ntypedef x *x___2;\n\n"
    ∷ session 8 false  -- 1-4566-0
    (Void ∷ Typedef (ascii "y") 5 ∷ FuncProto 15 (param "y" 15 ∷ param "" 15 ∷ []) ∷ Typedef (ascii "node") 2 ∷ Ptr 15 ∷ Composite true (ascii "") 0 []
    ∷ Ptr 2 ∷ Func (ascii "node") ∷ Ptr 2
    ∷ Composite true (ascii "node") 32 (member "x" 11 0 0 ∷ member "y" 11 8 0 ∷ member "y" 14 16 0 ∷ member "x" 4 80 0 ∷ member "y" 6 144 0 ∷ member "y" 11 208 0 ∷ [])
    ∷ Ptr 11 ∷ Enum false (ascii "") 1 (value "x" 99 ∷ value "y" 3242430918 ∷ []) ∷ Ptr 8 ∷ Ptr 2 ∷ Typedef (ascii "y") 12 ∷ Int (ascii "node") 32
    ∷ [])
    (all 329 ∷ [])
    ((0, 329) ∷ [])
    "typedef struct {} y;\n\ntypedef node node(node y, node);\n\ntypedef node (**y___2)(node y, node);\n\nstruct node {\n\tenum {\n\t\tx = 99,\n\t\ty___3 = 3242430918,\n\t} x;\n\tenum {\n\t\tx___2 = 99,\n\t\ty___4 = 3242430918,\n\t} y;\n\ty___2 y;\n\tnode *x;\n\tnode (*y)(node y, node);\n\tenum {\n\t\tx___3 = 99,\n\t\ty___5 = 3242430918,\n\t} y;\n} __attribute__((packed));\n\n"
    ∷ session 8 true  -- 1-4591-1
    (Void ∷ Composite true (ascii "next") 4 (member "a" 3 0 0 ∷ []) ∷ Enum false (ascii "") 4 (value "prenext" 1 ∷ []) ∷ Int (ascii "int") 32 ∷ Ptr 1
    ∷ Mod restrict 4 ∷ Composite true (ascii "prey") 8 (member "" 5 0 0 ∷ []) ∷ [])
    (one 0 5 ∷ one 0 0 ∷ one 357 3 ∷ one 22 2 ∷ one 343 4 ∷ one 296 1 ∷ one 250 6 ∷ all 85 ∷ [])
    ((0, 0) ∷ (0, 0) ∷ (0, 0) ∷ (0, 0) ∷ (0, 0) ∷ (0, 26) ∷ (0, 69) ∷ (0, 69) ∷ [])
    "struct next {\n\tint a;\n};\n\nstruct prey {\n\tstruct next * restrict;\n};\n\n"
    ∷ session 4 false  -- 1-4596-0
    (Void ∷ Int (ascii "int") 32 ∷ Composite false (ascii "m\"\\\n\t\r\u{1}") 4 (member "x" 1 0 0 ∷ []) ∷ Enum false (ascii "") 4 (value "s" 1 ∷ [])
    ∷ TypeTag true (ascii "rcu") 1 ∷ TypeTag true (ascii "\u{7f}\u{b}'%s") 4 ∷ TypeTag false (ascii "\u{7f}\u{b}'%s") 5
    ∷ Composite true (ascii "x") 8 (member "m\"\\\n\t\r\u{1}" 6 0 0 ∷ []) ∷ Mod const 2 ∷ Typedef (ascii "m\"\\\n\t\r\u{1}") 8 ∷ Mod const 9
    ∷ Typedef (ascii "x") 10 ∷ [])
    (all 551 ∷ [])
    ((0, 204) ∷ [])
    "union m\"\\\n\t\r\u{1} {\n\tint x;\n};\n\nstruct x {\n\tint __attribute__((rcu)) __attribute__((\u{7f}\u{b}'%s)) __attribute__((btf_type_tag(\"\u{7f}\u{b}'%s\"))) m\"\\\n\t\r\u{1};\n};\n\ntypedef const union m\"\\\n\t\r\u{1} m\"\\\n\t\r\u{1};\n\ntypedef const m\"\\\n\t\r\u{1} x;\n\n"
    ∷ session 8 true  -- 1-4605-0
    (Void ∷ Int (ascii "char") 8 ∷ Composite true (ascii "prestate") 536870912 (member "Ax" 4 0 0 ∷ []) ∷ Array 9 0 ∷ Ptr 10 ∷ Typedef (ascii "y") 8
    ∷ Array 9 2 ∷ Composite false (ascii "next") 8 (member "x___2" 5 0 0 ∷ []) ∷ Array 1 65535 ∷ Int (ascii "int") 32 ∷ Array 9 536870912
    ∷ Composite true (ascii "Ax") 8 (member "x___3" 2 0 0 ∷ member "Ax" 9 0 0 ∷ member "state" 2 0 0 ∷ []) ∷ [])
    (all 326 ∷ [])
    ((16, 107) ∷ [])
    "struct prestate {\n\tint (*Ax)[536870912];\n};\n\ntypedef char y[65535];\n\nstruct /*union*/ next {\n\ty x___2;\n};\n\n"
    ∷ session 8 false  -- 1-4721-2
    (Void ∷ Composite true (ascii "prepriv") 8 (member "__x" 5 0 0 ∷ member "priv" 4 4096 0 ∷ [])
    ∷ Composite false (ascii "__x") 536870912 (member "a" 3 0 0 ∷ []) ∷ Array 5 4294967295 ∷ Int (ascii "int") 32 ∷ Int (ascii "char") 8 ∷ [])
    (one 90 6 ∷ one 155 4 ∷ one 263 0 ∷ one 379 4 ∷ one 0 5 ∷ one 406 2 ∷ one 0 6 ∷ one 0 4 ∷ [])
    ((10, 0) ∷ (0, 0) ∷ (0, 0) ∷ (0, 0) ∷ (0, 0) ∷ (16, 0) ∷ (11, 0) ∷ (11, 0) ∷ [])
    ""
    ∷ session 4 false  -- 1-4744-1
    (Void ∷ Int (ascii "char") 8 ∷ Int (ascii "int") 32 ∷ Array 1 65535 ∷ Mod const 3 ∷ Array 4 2147483648 ∷ Array 4 1 ∷ Mod const 6
    ∷ Composite true (ascii "_") 536870912 (member "_" 2 0 0 ∷ []) ∷ Composite false (ascii "data") 8 (member "yx" 8 0 0 ∷ []) ∷ [])
    (one 241 9 ∷ one 20 8 ∷ one 36 7 ∷ [])
    ((16, 0) ∷ (11, 0) ∷ (11, 0) ∷ [])
    ""
    ∷ session 4 true  -- 1-4755-0
    (Void ∷ Array 2 1 ∷ Int (ascii "int") 32 ∷ Array 7 0 ∷ Composite false (ascii "y") 8 (member "y" 10 4096 0 ∷ []) ∷ Int (ascii "char") 8
    ∷ Composite false (ascii "prey") 8 (member "T" 10 0 0 ∷ []) ∷ Mod const 1 ∷ Array 7 1073741824
    ∷ Composite true (ascii "node") 8 (member "T" 2 32 0 ∷ []) ∷ Array 7 1073741824 ∷ [])
    (all 1659 ∷ [])
    ((16, 0) ∷ [])
    ""
    ∷ session 8 false  -- 1-4935-0
    (Void ∷ Composite true (ascii "prebuf") 8 (member "_" 9 0 0 ∷ member "buf" 9 0 0 ∷ member "pre_" 15 0 0 ∷ member "pre_" 9 64 0 ∷ [])
    ∷ Composite false (ascii "buf") 8 (member "_" 16 0 0 ∷ member "priv" 15 32 0 ∷ []) ∷ Composite false (ascii "_") 0 []
    ∷ FuncProto 5 (param "" 7 ∷ []) ∷ Typedef (ascii "buf") 7 ∷ DeclTag false (ascii "user") 2 4294967295 ∷ Mod volatile 12 ∷ FuncProto 9 []
    ∷ Composite true (ascii "buf") 0 [] ∷ Array 0 3 ∷ TypeTag false (ascii "x") 0
    ∷ FuncProto 14 (param "_" 13 ∷ param "y" 9 ∷ param "" 16 ∷ param "buf" 16 ∷ param "next" 0 ∷ []) ∷ FuncProto 14 (param "x" 15 ∷ [])
    ∷ FuncProto 1 (param "_" 15 ∷ []) ∷ Ptr 16 ∷ Int (ascii "buf") 16 ∷ [])
    (all 304 ∷ [])
    ((0, 304) ∷ [])
    "struct buf {};\n\nstruct prebuf {\n\tstruct buf _;\n\tstruct buf buf;\n\tbuf *pre_;\n\tstruct buf pre_;\n};\n\nunion buf___2 {\n\tbuf _;\n\tbuf *priv;\n} __attribute__((btf_decl_tag(\"user\")));\n\nunion _ {};\n\ntypedef struct prebuf (volatile buf(struct prebuf (_(buf *x))(buf *_), struct buf y, buf, buf buf, ...))(buf *_);\n\n"
    ∷ session 4 false  -- 1-4949-2
    (Void ∷ Ptr 13 ∷ Ptr 9 ∷ Typedef (ascii "buf") 1 ∷ Ptr 12 ∷ Typedef (ascii "y") 4 ∷ Enum false (ascii "x") 4 (value "__x" 1 ∷ []) ∷ Ptr 19
    ∷ Int (ascii "int") 32 ∷ FuncProto 17 (param "" 17 ∷ []) ∷ Mod const 20 ∷ FuncProto 0 (param "buf" 16 ∷ []) ∷ Mod const 0
    ∷ Composite false (ascii "") 4 (member "y" 8 0 0 ∷ []) ∷ Typedef (ascii "state") 11 ∷ FuncProto 7 (param "state" 2 ∷ param "" 0 ∷ [])
    ∷ FuncProto 18 (param "" 0 ∷ []) ∷ Ptr 8 ∷ Ptr 15 ∷ Ptr 10 ∷ Mod const 2 ∷ [])
    (one 146 18 ∷ one 331 22 ∷ one 60 20 ∷ one 5008 14 ∷ one 99 4 ∷ all 261 ∷ [])
    ((0, 0) ∷ (10, 0) ∷ (0, 0) ∷ (0, 91) ∷ (0, 91) ∷ (0, 171) ∷ [])
    "typedef void state(int * (* const const ** (*buf())(int * (*state)(int *), ...))(int *));\n\ntypedef union {\n\tint y;\n} *buf;\n\ntypedef const void *y;\n\nenum x {\n\t__x = 1,\n};\n\n"
    ∷ session 4 false  -- 1-5308-1
    (Void ∷ Int (ascii "y") 7 ∷ Composite true (ascii "") 18 (member "y" 1 0 0 ∷ member "prey" 1 88 0 ∷ member "y" 0 144 0 ∷ [])
    ∷ Composite true (ascii "prex") 0 (member "list_head" 8 0 0 ∷ member "buf" 8 0 0 ∷ member "y" 8 0 0 ∷ [])
    ∷ Composite true (ascii "buf") 4 (member "prex" 6 0 0 ∷ [])
    ∷ Composite true (ascii "") 37 (member "" 0 0 0 ∷ member "y" 10 0 0 ∷ member "x" 1 144 0 ∷ member "y" 2 152 0 ∷ []) ∷ Ptr 5
    ∷ Composite true (ascii "next") 36 (member "T" 2 141 0 ∷ member "prey" 10 93 0 ∷ member "x" 8 42 0 ∷ [])
    ∷ Enum64 true (ascii "next") 0 (value "y" 9223372039002259456 ∷ value "y" 9223372032559808514 ∷ []) ∷ Typedef (ascii "s") 6
    ∷ Composite true (ascii "y") 18 (member "" 2 0 0 ∷ []) ∷ Composite true (ascii "priv") 47 (member "" 7 88 0 ∷ []) ∷ Typedef (ascii "x") 4 ∷ [])
    (one 263 4 ∷ one 0 5 ∷ one 383 6 ∷ [])
    ((15, 0) ∷ (11, 0) ∷ (11, 0) ∷ [])
    ""
    ∷ []
