-- Written by tools/vectors.py. Sections and requests of oracle/answers.cases, each beside the answers.
-- That they are equal is `sessions3_hold` of proofs/Sessions3.
use Rattle.std.specs.Prelude.{true, false, List, [], ◌∷◌}
use Rattle.spec_bytes.specs.text.Text.{ascii}
use Rattle.spec_c_dumper.specs.rules.Machine.{one, all}
use Rattle.proof_examples.specs.vectors.Base.{member, param, value, Vector, session}
use Rattle.spec_c_dumper.specs.rules.Types.{volatile, const, restrict, Void, Int, Ptr, Array, Composite, Enum, Enum64, Fwd, Typedef, Mod, Func, Datasec, FuncProto, Float, DeclTag, TypeTag}

abbrev pub sessions3 : List Vector
sessions3 =
    session 8 false  -- 1-836-2
    (Void ∷ Composite false (ascii "preyx") 0 (member "" 1 0 0 ∷ member "" 1 0 0 ∷ member "" 1 0 0 ∷ member "" 1 0 0 ∷ []) ∷ [])
    (one 0 4294967295 ∷ one 0 1 ∷ one 166 1 ∷ one 0 1 ∷ [])
    ((10, 0) ∷ (13, 0) ∷ (11, 0) ∷ (11, 0) ∷ [])
    ""
    ∷ session 8 false  -- 1-848-2
    (Void ∷ Typedef (ascii "flags") 5 ∷ DeclTag false (ascii "\u{7f}\u{b}'%s") 3 15
    ∷ Composite true (ascii "__builtin_va_lis") 48 (member "flags" 5 53 0 ∷ member "" 6 183 0 ∷ member "" 10 155 0 ∷ member "flags" 3 252 0 ∷ member "x___3" 7 246 0 ∷ member "__x" 7 284 0 ∷ member "node" 9 219 0 ∷ member "x___3" 7 51 0 ∷ member "priv" 7 3 0 ∷ member "__builtin_va_lis" 9 192 0 ∷ member "next" 3 185 0 ∷ member "" 1 84 0 ∷ member "T" 9 97 0 ∷ member "x___3" 5 60 0 ∷ member "len" 3 191 0 ∷ member "buf" 9 172 0 ∷ member "" 6 196 0 ∷ member "ops" 1 57 0 ∷ member "pre__builtin_va_lis" 9 67 0 ∷ member "s" 10 88 0 ∷ member "a" 9 225 0 ∷ member "__builtin_va_lis" 1 27 0 ∷ member "state" 4 95 0 ∷ member "x___3" 6 133 0 ∷ member "len" 9 49 0 ∷ member "s" 5 213 0 ∷ member "buf" 9 68 0 ∷ member "list_head" 1 60 0 ∷ member "next" 4 11 0 ∷ member "preb" 10 245 0 ∷ member "list_head" 7 193 0 ∷ member "x" 10 79 0 ∷ member "b" 1 37 0 ∷ member "__x" 6 203 0 ∷ member "__x" 7 39 0 ∷ member "__builtin_va_lis" 1 136 0 ∷ member "len" 3 60 0 ∷ member "b" 7 245 0 ∷ [])
    ∷ Enum false (ascii "b") 4 (value "b" 1 ∷ value "node" 3461198600 ∷ []) ∷ Mod const 6 ∷ Composite false (ascii "") 4 (member "s" 4 0 0 ∷ [])
    ∷ Ptr 3 ∷ Typedef (ascii "yx") 0 ∷ Int (ascii "y") 32 ∷ Int (ascii "flags") 24 ∷ [])
    (one 61 9 ∷ one 0 0 ∷ one 399 3 ∷ one 0 9 ∷ one 310 4294967295 ∷ [])
    ((0, 0) ∷ (0, 0) ∷ (13, 0) ∷ (11, 0) ∷ (11, 0) ∷ [])
    ""
    ∷ session 4 false  -- 1-875-2
    (Void ∷ Int (ascii "int") 32 ∷ Composite true (ascii "") 4 (member "a" 1 0 0 ∷ []) ∷ Enum false (ascii "") 4 (value "prenode" 1 ∷ []) ∷ Ptr 1
    ∷ FuncProto 4 (param "" 1 ∷ []) ∷ Ptr 5 ∷ Array 6 5 ∷ Mod const 7 ∷ FuncProto 8 (param "s" 0 ∷ []) ∷ Ptr 9 ∷ Mod volatile 10 ∷ Ptr 11
    ∷ Typedef (ascii "node") 12 ∷ [])
    (one 116 14 ∷ one 388 5 ∷ one 395 0 ∷ one 25 0 ∷ one 138 5 ∷ one 376 9 ∷ one 346 13 ∷ [])
    ((10, 0) ∷ (0, 0) ∷ (0, 0) ∷ (0, 0) ∷ (0, 0) ∷ (0, 0) ∷ (0, 51) ∷ [])
    "typedef int * (*( (* volatile *node)())[5])(int);\n\n"
    ∷ session 8 true  -- 1-892-1
    (Void
    ∷ Enum64 true (ascii "b") 4 (value "priv" 4294967295 ∷ value "yx" 9223372036854775809 ∷ value "x" 15356534575471788033 ∷ value "x" 425201762314 ∷ value "s" 18446744071562067968 ∷ [])
    ∷ Datasec (ascii "s") ∷ Typedef (ascii "") 7
    ∷ Enum64 false (ascii "x__builtin_va_list") 1 (value "priv" 4294967298147483647 ∷ value "priv" 7890045722379157603 ∷ [])
    ∷ Composite false (ascii "s") 8 (member "prelen" 11 0 0 ∷ member "x" 4 0 0 ∷ member "yx" 9 0 0 ∷ []) ∷ Int (ascii "pres") 32
    ∷ Int (ascii "pres") 32 ∷ Typedef (ascii "node") 13
    ∷ Enum true (ascii "y") 3 (value "len" 0 ∷ value "yx" 2147483649 ∷ value "b" 999999999 ∷ value "len" 2147483647 ∷ value "pres" 0 ∷ [])
    ∷ Composite true (ascii "priv") 24 (member "x" 7 0 0 ∷ member "len" 11 32 0 ∷ member "node" 12 96 0 ∷ member "prelen" 8 160 0 ∷ [])
    ∷ Int (ascii "len") 64 ∷ Ptr 5 ∷ Int (ascii "x") 32 ∷ [])
    (one 45516 3 ∷ one 318 13 ∷ one 93 10 ∷ [])
    ((14, 0) ∷ (11, 0) ∷ (11, 0) ∷ [])
    ""
    ∷ session 4 false  -- 1-910-1
    (Void ∷ Int (ascii "flags") 32 ∷ TypeTag true (ascii "rcu") 1
    ∷ Composite true (ascii "u32") 52 (member "ops" 2 240 0 ∷ member "data" 4 356 0 ∷ member "_" 4 390 0 ∷ []) ∷ Mod const 3
    ∷ Composite true (ascii "x") 8 (member "a" 3 0 16 ∷ []) ∷ [])
    (one 71 0 ∷ one 385 1 ∷ one 0 2 ∷ one 238 3 ∷ one 278 4 ∷ one 0 5 ∷ [])
    ((0, 0) ∷ (0, 0) ∷ (0, 0) ∷ (13, 0) ∷ (11, 0) ∷ (11, 0) ∷ [])
    ""
    ∷ session 8 false  -- 1-916-1
    (Void ∷ Int (ascii "char") 8 ∷ Array 4 65536 ∷ Ptr 6 ∷ Array 11 536870911
    ∷ Composite true (ascii "yx") 8 (member "a" 2 64 0 ∷ member "a" 4 8 0 ∷ member "y" 1 64 0 ∷ []) ∷ Array 2 2 ∷ Array 1 1073741824
    ∷ Composite false (ascii "yx") 4 (member "len" 1 0 0 ∷ []) ∷ Composite true (ascii "list_head") 8 (member "y" 4 32 0 ∷ [])
    ∷ Composite true (ascii "a") 8 (member "a" 7 8 0 ∷ member "next" 4 0 0 ∷ []) ∷ Int (ascii "int") 32 ∷ [])
    (one 397 3 ∷ one 22 7 ∷ one 0 4 ∷ one 258 8 ∷ one 26 2 ∷ one 64243 11 ∷ one 356 9 ∷ one 137 10 ∷ one 399 5 ∷ [])
    ((0, 0) ∷ (0, 0) ∷ (0, 0) ∷ (0, 26) ∷ (0, 26) ∷ (0, 26) ∷ (16, 26) ∷ (11, 26) ∷ (11, 26) ∷ [])
    "union yx {\n\tchar len;\n};\n\n"
    ∷ session 4 false  -- 1-927-0
    (Void ∷ Typedef (ascii "y") 13 ∷ FuncProto 4 (param "" 8 ∷ param "" 5 ∷ []) ∷ Typedef (ascii "") 5 ∷ Ptr 13
    ∷ FuncProto 15 (param "" 11 ∷ param "" 7 ∷ param "x" 0 ∷ []) ∷ Typedef (ascii "y") 8 ∷ TypeTag false (ascii "rcu") 0 ∷ Int (ascii "y") 1
    ∷ TypeTag false (ascii "x") 16 ∷ Ptr 8 ∷ Array 16 16
    ∷ Enum64 false (ascii "") 8 (value "" 18446744073709551615 ∷ value "y" 18446744069414584320 ∷ value "x" 9223372036854775808 ∷ [])
    ∷ Enum64 true (ascii "x") 2 (value "y" 425201762403 ∷ value "y" 18446744063709551616 ∷ value "x" 9223372036854775807 ∷ [])
    ∷ Enum false (ascii "x") 2 []
    ∷ Composite false (ascii "y") 8 (member "y" 1 0 0 ∷ member "y" 4 0 0 ∷ member "y" 13 0 0 ∷ member "x" 11 0 0 ∷ member "y" 16 0 0 ∷ member "y" 8 0 0 ∷ member "x" 16 0 0 ∷ member "x" 4 0 0 ∷ member "y" 9 64 0 ∷ [])
    ∷ Array 15 16 ∷ [])
    (all 396 ∷ [])
    ((13, 110) ∷ [])
    "enum x {\n\ty = 425201762403LL,\n\ty___2 = -10000000000LL,\n\tx = 9223372036854775807LL,\n};\n\ntypedef enum x y___3;\n\n"
    ∷ session 4 true  -- 1-948-0
    (Void ∷ Int (ascii "T") 7 ∷ Typedef (ascii "") 5 ∷ DeclTag true (ascii "x") 2 4294967295 ∷ Mod volatile 1 ∷ Composite false (ascii "buf") 0 [] ∷ [])
    (all 112 ∷ [])
    ((14, 0) ∷ [])
    ""
    ∷ session 8 false  -- 1-969-0
    (Void ∷ Composite true (ascii "_") 0 [] ∷ Typedef (ascii "ops") 3 ∷ Composite false (ascii "list_head") 9 (member "" 1 65 0 ∷ [])
    ∷ Func (ascii "s") ∷ Typedef (ascii "x___2") 1 ∷ [])
    (all 137 ∷ [])
    ((0, 123) ∷ [])
    "struct _ {};\n\nunion list_head {\n\tlong: 1;\n\tlong: 64;\n\tstruct _;\n};\n\ntypedef union list_head ops;\n\ntypedef struct _ x___2;\n\n"
    ∷ session 8 false  -- 1-981-0
    (Void ∷ Int (ascii "int") 32 ∷ Composite true (ascii "") 4 (member "list_head" 1 0 0 ∷ []) ∷ Enum false (ascii "predata") 4 (value "y" 1 ∷ [])
    ∷ FuncProto 2 (param "" 0 ∷ []) ∷ Ptr 4 ∷ Array 5 4 ∷ FuncProto 0 (param "y" 6 ∷ []) ∷ Typedef (ascii "y") 7 ∷ Ptr 1 ∷ Mod const 9 ∷ Mod const 10
    ∷ Typedef (ascii "y") 11 ∷ [])
    (all 120 ∷ [])
    ((0, 120) ∷ [])
    "enum predata {\n\ty = 1,\n};\n\ntypedef void y___2(struct {\n\tint list_head;\n} (*y[4])());\n\ntypedef int * const const y___3;\n\n"
    ∷ session 4 false  -- 1-983-2
    (Void ∷ Typedef (ascii "x___3") 2 ∷ Mod const 3 ∷ TypeTag false (ascii "rcu") 4 ∷ Mod const 5 ∷ Ptr 6 ∷ Mod volatile 7 ∷ TypeTag true (ascii "x") 8
    ∷ Mod restrict 9 ∷ TypeTag false (ascii "m\"\\\n\t\r\u{1}") 10 ∷ Ptr 11 ∷ Enum false (ascii "") 4 (value "prey" 1 ∷ [])
    ∷ Composite false (ascii "_") 4 (member "prey" 13 0 0 ∷ []) ∷ Int (ascii "int") 32 ∷ [])
    (one 218 8 ∷ one 0 2 ∷ one 324 6 ∷ one 192 11 ∷ one 0 2 ∷ all 197 ∷ [])
    ((0, 0) ∷ (0, 0) ∷ (0, 0) ∷ (0, 0) ∷ (0, 0) ∷ (0, 197) ∷ [])
    "typedef enum {\n\tprey = 1,\n} *restrict  __attribute__((btf_type_tag(\"m\\\"\\\\\\n\\t\\r\u{1}\")))volatile  __attribute__((x)) * constconst  __attribute__((btf_type_tag(\"rcu\"))) x___3;\n\nunion _ {\n\tint prey;\n};\n\n"
    ∷ session 4 false  -- 1-990-0
    (Void ∷ Typedef (ascii "_") 2 ∷ Mod const 0 ∷ Enum false (ascii "") 4 [] ∷ Mod restrict 0 ∷ [])
    (all 281 ∷ [])
    ((0, 23) ∷ [])
    "typedef const void _;\n\n"
    ∷ session 4 true  -- 1-1005-0
    (Void ∷ Typedef (ascii "__x") 2 ∷ FuncProto 0 (param "b" 3 ∷ []) ∷ Mod restrict 4 ∷ Ptr 5 ∷ Ptr 6 ∷ FuncProto 7 [] ∷ Mod restrict 8 ∷ Mod const 9
    ∷ Mod const 22 ∷ Typedef (ascii "b") 11 ∷ FuncProto 0 (param "next" 12 ∷ []) ∷ Mod volatile 13 ∷ Mod const 14 ∷ FuncProto 15 (param "y" 22 ∷ [])
    ∷ Array 16 3 ∷ Ptr 17 ∷ Mod volatile 18 ∷ Mod const 19 ∷ Ptr 21 ∷ Enum false (ascii "y") 4 (value "b" 1 ∷ [])
    ∷ Composite false (ascii "") 4 (member "pre__x" 22 0 0 ∷ []) ∷ Int (ascii "int") 32 ∷ [])
    (all 190 ∷ [])
    ((0, 190) ∷ [])
    "typedef void __x(const const restrict int (** restrict b)());\n\ntypedef void b(struct /*union*/ {\n\tint pre__x;\n} * const volatile *(const volatile next(int y))[3]);\n\nenum y {\n\tb___2 = 1,\n};\n\n"
    ∷ session 4 true  -- 1-1011-0
    (Void ∷ Int (ascii "y") 32 ∷ Typedef (ascii "data") 1 ∷ Int (ascii "data") 64 ∷ Typedef (ascii "x") 3
    ∷ Composite true (ascii "y") 16 (member "" 5 0 0 ∷ member "data" 4 0 0 ∷ member "y" 1 64 0 ∷ member "data" 7 96 0 ∷ [])
    ∷ Composite true (ascii "x") 0 (member "y" 10 0 0 ∷ []) ∷ Typedef (ascii "x") 2 ∷ FuncProto 4 (param "data" 5 ∷ [])
    ∷ Composite true (ascii "data") 52 (member "data" 1 0 0 ∷ member "data" 6 40 0 ∷ member "y" 13 304 0 ∷ member "data" 12 355 0 ∷ [])
    ∷ Composite true (ascii "y") 72 (member "" 9 0 0 ∷ member "y" 6 416 0 ∷ member "y" 1 416 0 ∷ member "" 5 448 0 ∷ []) ∷ Ptr 10 ∷ Ptr 11
    ∷ Typedef (ascii "y") 11 ∷ TypeTag false (ascii "\"") 0 ∷ [])
    (all 34 ∷ [])
    ((13, 34) ∷ [])
    "typedef y data;\n\ntypedef data x;\n\n"
    ∷ session 4 true  -- 1-1032-0
    (Void ∷ Typedef (ascii "prex") 2 ∷ FuncProto 0 (param "a" 3 ∷ []) ∷ Ptr 4 ∷ FuncProto 5 (param "" 12 ∷ param "a" 13 ∷ []) ∷ Ptr 6
    ∷ FuncProto 7 (param "_" 13 ∷ []) ∷ FuncProto 8 (param "a" 11 ∷ []) ∷ Mod volatile 9 ∷ Mod volatile 10 ∷ Mod restrict 11
    ∷ Enum false (ascii "") 4 (value "prex" 1 ∷ []) ∷ Composite false (ascii "") 4 (member "x" 13 0 0 ∷ []) ∷ Int (ascii "int") 32 ∷ [])
    (all 155 ∷ [])
    ((0, 155) ∷ [])
    "typedef void prex(restrict volatile volatile enum {\n\tprex___2 = 1,\n} ( (* (*a)(struct /*union*/ {\n\tint x;\n}, int a))(int _))(enum {\n\tprex___3 = 1,\n} a));\n\n"
    ∷ session 8 false  -- 1-1039-1
    (Void ∷ Int (ascii "int") 32 ∷ Typedef (ascii "E") 6 ∷ Composite true (ascii "x___3") 8 (member "prex___3" 1 0 0 ∷ []) ∷ Ptr 2
    ∷ Composite true (ascii "x___3") 8 (member "prex___3" 4 0 0 ∷ []) ∷ FuncProto 1 (param "" 1 ∷ param "" 5 ∷ []) ∷ [])
    (one 31 0 ∷ one 0 1 ∷ one 83 2 ∷ one 121 3 ∷ one 147 4 ∷ one 213 5 ∷ one 499 6 ∷ [])
    ((0, 0) ∷ (0, 0) ∷ (0, 83) ∷ (0, 121) ∷ (0, 121) ∷ (0, 121) ∷ (0, 121) ∷ [])
    "struct x___3;\n\ntypedef int E(int, struct x___3);\n\nstruct x___3 {\n\tE *prex___3;\n};\n\nstruct x___3___2 {\n\tint prex___3;\n};\n\n"
    ∷ session 4 true  -- 1-1054-1
    (Void ∷ Int (ascii "x") 16 ∷ DeclTag true (ascii "aligned(4)") 11 4294967294 ∷ Array 8 2
    ∷ Composite true (ascii "state") 80 (member "prelist_head" 11 0 0 ∷ member "" 10 0 0 ∷ member "preops" 7 0 0 ∷ member "__x" 7 0 0 ∷ member "preE" 11 0 0 ∷ member "" 7 0 0 ∷ member "priv" 3 0 0 ∷ member "prelist_head" 4 128 0 ∷ member "" 6 130 0 ∷ member "u32" 9 130 0 ∷ member "" 3 130 0 ∷ member "" 9 258 0 ∷ member "" 11 258 0 ∷ member "flags" 6 258 0 ∷ member "" 10 258 0 ∷ member "T" 1 442 0 ∷ member "" 8 458 0 ∷ member "prelen" 4 522 0 ∷ member "" 10 596 0 ∷ member "list_head" 5 596 0 ∷ [])
    ∷ Mod const 1 ∷ Composite true (ascii "_") 0 (member "list_head" 7 0 0 ∷ []) ∷ Composite true (ascii "T") 3 (member "list_head" 10 24 0 ∷ [])
    ∷ Int (ascii "_") 64 ∷ Composite true (ascii "priv") 104 (member "T" 1 99 0 ∷ member "" 10 172 0 ∷ member "__x" 4 184 0 ∷ [])
    ∷ Composite true (ascii "flags") 160 (member "a" 4 0 0 ∷ member "" 11 640 0 ∷ member "" 4 640 0 ∷ member "" 6 1280 0 ∷ [])
    ∷ Composite true (ascii "yx") 440 (member "" 11 0 0 ∷ member "" 10 0 0 ∷ member "T" 4 1280 0 ∷ member "data" 6 1920 0 ∷ member "preE" 7 1920 0 ∷ member "priv" 3 1944 0 ∷ member "buf" 3 2072 0 ∷ member "" 4 2200 0 ∷ member "" 4 2840 0 ∷ [])
    ∷ [])
    (one 0 11 ∷ one 130 10 ∷ one 0 9 ∷ [])
    ((13, 0) ∷ (11, 0) ∷ (11, 0) ∷ [])
    ""
    ∷ session 8 false  -- 1-1056-0
    (Void ∷ Int (ascii "len") 1 ∷ FuncProto 0 (param "b" 8 ∷ param "" 1 ∷ param "x" 1 ∷ param "" 1 ∷ param "x" 0 ∷ []) ∷ Mod const 2
    ∷ DeclTag true (ascii "\u{7f}\u{b}'%s") 5 0 ∷ Typedef (ascii "state") 1 ∷ FuncProto 3 (param "prenode" 12 ∷ param "data" 5 ∷ param "yx" 5 ∷ [])
    ∷ Typedef (ascii "b") 6 ∷ Composite true (ascii "") 32 (member "Ax" 5 0 0 ∷ member "b" 13 64 0 ∷ member "len" 8 132 0 ∷ member "b" 14 192 0 ∷ [])
    ∷ FuncProto 0 (param "node" 8 ∷ []) ∷ Int (ascii "E") 128 ∷ Ptr 3 ∷ Fwd true (ascii "list_head") ∷ Typedef (ascii "x") 14
    ∷ Enum64 true (ascii "list_head") 8 (value "len" 429496729700 ∷ value "data" 42949673060 ∷ value "x" 5294967295 ∷ []) ∷ Int (ascii "b") 7 ∷ [])
    (all 136 ∷ [])
    ((13, 0) ∷ [])
    ""
    ∷ session 4 false  -- 1-1085-2
    (Void ∷ Fwd false (ascii "ops") ∷ Array 5 0 ∷ Composite true (ascii "") 0 [] ∷ Composite true (ascii "") 0 (member "__x" 2 0 0 ∷ [])
    ∷ Int (ascii "x___3") 0 ∷ DeclTag false (ascii "\u{7f}\u{b}'%s") 3 4294967295
    ∷ Composite true (ascii "Ax") 6 (member "y" 1 0 16 ∷ member "len" 4 16 0 ∷ member "len" 2 16 0 ∷ member "data" 2 16 0 ∷ member "yx" 5 16 0 ∷ member "__x" 0 16 0 ∷ member "Ax" 3 16 32 ∷ member "" 3 48 0 ∷ [])
    ∷ [])
    (one 178 7 ∷ one 19 7 ∷ one 29 6 ∷ [])
    ((15, 0) ∷ (11, 0) ∷ (11, 0) ∷ [])
    ""
    ∷ session 8 true  -- 1-1095-0
    (Void ∷ FuncProto 0 (param "" 3 ∷ param "" 9 ∷ param "" 0 ∷ [])
    ∷ Enum64 false (ascii "prex___3") 2 (value "a" 431644213248 ∷ value "y" 10737418240 ∷ value "x___3" 425201762404 ∷ [])
    ∷ Int (ascii "__builtin_va_list") 16
    ∷ Composite false (ascii "x___3") 4 (member "a__builtin_va_list___2" 3 0 0 ∷ member "len" 3 0 0 ∷ member "" 2 0 0 ∷ member "x___3" 2 16 0 ∷ [])
    ∷ DeclTag false (ascii "\"") 4 4294967295
    ∷ Composite true (ascii "y") 28 (member "a__builtin_va_list___2" 3 0 0 ∷ member "__builtin_va_list" 3 16 0 ∷ member "x___3" 2 32 0 ∷ member "prex___3" 3 155 0 ∷ member "a" 2 171 0 ∷ member "__builtin_va_list" 3 187 0 ∷ member "a" 3 204 0 ∷ [])
    ∷ DeclTag true (ascii "\"") 9 0 ∷ Fwd false (ascii "y") ∷ Composite false (ascii "a") 28 (member "x" 6 0 0 ∷ []) ∷ Typedef (ascii "x___3") 1 ∷ [])
    (all 782 ∷ [])
    ((0, 671) ∷ [])
    "enum prex___3 {\n\ta = 431644213248ULL,\n\ty = 10737418240ULL,\n\tx___3 = 425201762404ULL,\n};\n\nstruct y {\n\t__builtin_va_list a__builtin_va_list___2;\n\t__builtin_va_list __builtin_va_list;\n\tenum prex___3 x___3;\n\tlong: 43;\n\tlong: 64;\n\t__builtin_va_list prex___3;\n\tenum prex___3 a;\n\t__builtin_va_list __builtin_va_list;\n\t__builtin_va_list a;\n} __attribute__((packed));\n\nstruct /*union*/ a {\n\tstruct y x __attribute__((\"));\n};\n\nstruct /*union*/ x___3 {\n\t__builtin_va_list a__builtin_va_list___2;\n\t__builtin_va_list len;\n\tenum prex___3;\n\tenum prex___3 x___3;\n} __attribute__((btf_decl_tag(\"\\\"\")));\n\nstruct y___2;\n\ntypedef void x___3___2(__builtin_va_list, struct /*union*/ a, ...);\n\n"
    ∷ session 8 false  -- 1-1106-2
    (Void ∷ Composite true (ascii "prex___3") 8 (member "b" 3 8 0 ∷ member "b" 8 64 0 ∷ member "prex___3" 4 8 0 ∷ [])
    ∷ Composite false (ascii "yx") 8 (member "pre__x" 6 0 0 ∷ []) ∷ Array 6 536870912 ∷ Typedef (ascii "prex___3") 5 ∷ Array 6 65535 ∷ Ptr 7
    ∷ Array 9 1073741823 ∷ Int (ascii "int") 32 ∷ Int (ascii "char") 8 ∷ [])
    (one 149 3 ∷ one 58 7 ∷ all 460 ∷ one 40 6 ∷ one 270 5 ∷ [])
    ((0, 0) ∷ (0, 0) ∷ (16, 0) ∷ (11, 0) ∷ (11, 0) ∷ [])
    ""
    ∷ session 8 false  -- 1-1133-2
    (Void ∷ Ptr 14 ∷ Composite true (ascii "") 4 (member "prex___2" 9 0 0 ∷ []) ∷ FuncProto 0 (param "" 0 ∷ []) ∷ Mod volatile 16 ∷ Ptr 3 ∷ Mod const 1
    ∷ Enum false (ascii "x___2") 4 (value "x___2" 1 ∷ []) ∷ Mod restrict 10 ∷ Int (ascii "int") 32 ∷ Mod volatile 7
    ∷ FuncProto 13 (param "len" 0 ∷ []) ∷ Typedef (ascii "y") 5 ∷ TypeTag false (ascii "aligned(4)") 4 ∷ Mod restrict 8 ∷ Typedef (ascii "data") 6
    ∷ Mod restrict 9 ∷ Typedef (ascii "prex___2") 11 ∷ [])
    (all 359 ∷ one 519 12 ∷ [])
    ((0, 199) ∷ (0, 199) ∷ [])
    "enum x___2 {\n\tx___2 = 1,\n};\n\ntypedef void (*y)();\n\ntypedef volatile restrict restrict enum x___2 * const data;\n\ntypedef restrict volatile int __attribute__((btf_type_tag(\"aligned(4)\"))) prex___2();\n\n"
    ∷ session 8 true  -- 1-1134-0
    (Void ∷ Array 9 3 ∷ TypeTag false (ascii "user") 3 ∷ Typedef (ascii "s") 6 ∷ Typedef (ascii "ops") 8 ∷ Typedef (ascii "preT") 8 ∷ Mod volatile 9
    ∷ Composite true (ascii "T") 20 (member "u32" 19 49 0 ∷ []) ∷ Composite true (ascii "E") 1 (member "next" 14 0 2 ∷ [])
    ∷ Composite false (ascii "") 3 (member "" 13 0 1 ∷ member "priv" 13 0 0 ∷ [])
    ∷ Composite true (ascii "preT") 696 (member "predata" 15 109 0 ∷ member "u32" 18 170 0 ∷ member "Ax" 18 1794 16 ∷ member "ops" 19 1874 0 ∷ member "Ax" 15 2008 0 ∷ member "yx" 15 2043 8 ∷ member "u32" 14 2080 0 ∷ member "node" 15 2118 1 ∷ member "_" 18 2127 1 ∷ member "x___3" 13 2128 64 ∷ member "T" 13 2256 0 ∷ member "Ax" 13 2283 0 ∷ member "s" 19 2347 8 ∷ member "T" 18 2432 0 ∷ member "data" 14 4042 1 ∷ member "T" 13 4360 0 ∷ member "state" 14 4576 1 ∷ member "u32" 14 4616 0 ∷ member "state" 15 4726 16 ∷ member "list_head" 14 4769 0 ∷ member "" 19 5008 0 ∷ member "ops" 14 5200 255 ∷ member "E" 19 5522 16 ∷ [])
    ∷ Mod restrict 0 ∷ FuncProto 0 (param "next" 0 ∷ []) ∷ Enum64 false (ascii "x___2") 3 (value "buf" 42949673060 ∷ [])
    ∷ Enum true (ascii "flags") 4 (value "T" 1000000000 ∷ value "y" 999999999 ∷ value "s" 1000000000 ∷ [])
    ∷ Enum false (ascii "") 4 (value "state" 3086187832 ∷ value "node" 589057876 ∷ value "x___3" 999999999 ∷ []) ∷ Array 0 4
    ∷ DeclTag false (ascii "") 9 2 ∷ Array 19 16
    ∷ Composite false (ascii "ops") 12 (member "ops" 15 0 0 ∷ member "state" 15 0 0 ∷ member "T" 15 0 0 ∷ member "" 13 48 0 ∷ member "prenode" 15 0 0 ∷ member "x___3" 13 0 0 ∷ member "data" 14 0 0 ∷ member "yx" 15 0 0 ∷ member "y" 13 0 0 ∷ member "state" 13 24 0 ∷ member "buf" 14 0 0 ∷ member "E" 15 0 0 ∷ member "E" 14 0 0 ∷ member "yx" 13 0 0 ∷ member "priv" 14 0 0 ∷ member "T" 15 0 0 ∷ member "yx" 14 0 0 ∷ member "yx" 13 0 0 ∷ member "b" 15 0 0 ∷ member "x___3" 15 32 0 ∷ member "T" 14 0 0 ∷ member "x" 14 0 0 ∷ member "list_head" 15 0 0 ∷ member "buf" 15 0 0 ∷ member "y" 13 0 0 ∷ member "preT" 13 24 0 ∷ member "T" 13 0 0 ∷ member "ops" 14 0 0 ∷ member "data" 19 0 0 ∷ member "predata" 15 32 0 ∷ member "data" 13 0 0 ∷ member "yx" 14 0 0 ∷ member "state" 15 0 0 ∷ member "u32" 13 0 0 ∷ [])
    ∷ [])
    (all 312 ∷ [])
    ((13, 294) ∷ [])
    "enum x___2 {\n\tbuf = 42949673060ULL,\n};\n\ntypedef volatile struct /*union*/ {\n\tenum x___2: 1;\n\tenum x___2 priv;\n} s;\n\nenum flags {\n\tT = 1000000000,\n\ty = 999999999,\n\ts___2 = 1000000000,\n};\n\nstruct E {\n\tenum flags next: 2;\n} __attribute__((packed));\n\ntypedef struct E ops;\n\ntypedef struct E preT;\n\n"
    ∷ session 8 true  -- 1-1136-2
    (Void ∷ Ptr 5 ∷ Composite true (ascii "len") 8 (member "" 1 0 0 ∷ []) ∷ Composite true (ascii "") 8 (member "x" 2 0 0 ∷ [])
    ∷ Composite true (ascii "y") 8 (member "len" 3 0 0 ∷ []) ∷ Composite true (ascii "") 8 (member "len" 4 0 0 ∷ []) ∷ Int (ascii "int") 32 ∷ [])
    (one 0 5 ∷ one 326 7 ∷ one 0 1 ∷ [])
    ((13, 0) ∷ (11, 0) ∷ (11, 0) ∷ [])
    ""
    ∷ session 4 false  -- 1-1154-2
    (Void ∷ Int (ascii "int") 32 ∷ Typedef (ascii "") 1 ∷ Ptr 2 ∷ Composite true (ascii "x") 8 (member "x" 3 0 0 ∷ [])
    ∷ Composite true (ascii "Ax") 16 (member "prex" 1 0 0 ∷ member "u32" 3 64 0 ∷ []) ∷ Typedef (ascii "u32") 3 ∷ [])
    (one 0 3 ∷ one 35 4 ∷ one 51 6 ∷ [])
    ((0, 0) ∷ (0, 35) ∷ (0, 51) ∷ [])
    "typedef int;\n\nstruct x {\n\t *x;\n};\n\ntypedef  *u32;\n\n"
    ∷ session 4 true  -- 1-1155-0
    (Void ∷ Int (ascii "prey") 16 ∷ FuncProto 5 [] ∷ Int (ascii "y") 64 ∷ Float (ascii "y") 12
    ∷ Composite true (ascii "x___3") 48 (member "y" 3 241 0 ∷ member "y" 4 127 255 ∷ member "y" 4 218 5 ∷ member "x" 4 46 2 ∷ [])
    ∷ Composite true (ascii "x___3") 96 (member "y" 4 0 33 ∷ member "x" 3 117 255 ∷ member "prey" 4 372 33 ∷ member "" 5 405 2 ∷ member "x" 1 407 64 ∷ member "prey" 1 471 2 ∷ member "" 5 473 33 ∷ member "x" 3 506 1 ∷ member "x___3" 1 507 255 ∷ member "" 1 762 3 ∷ [])
    ∷ [])
    (all 532 ∷ [])
    ((0, 347) ∷ [])
    "struct x___3 {\n\tint: 17;\n\tint: 32;\n\tint: 32;\n\tint: 32;\n\tint: 32;\n\tint: 32;\n\tint: 32;\n\tint: 32;\n\ty y;\n\ty y: 255;\n\ty y: 5;\n\ty x: 2;\n} __attribute__((packed));\n\nstruct x___3___2 {\n\ty y: 33;\n\tint: 20;\n\tint: 32;\n\tint: 32;\n\ty x: 255;\n\ty prey: 33;\n\tstruct x___3: 2;\n\tprey x: 64;\n\tprey prey: 2;\n\tstruct x___3: 33;\n\ty x: 1;\n\tprey x___3: 255;\n\tprey: 3;\n};\n\n"
    ∷ session 8 false  -- 1-1163-2
    (Void ∷ Int (ascii "int") 32 ∷ Typedef (ascii "") 1 ∷ Ptr 2 ∷ Composite true (ascii "y") 0 [] ∷ Ptr 4
    ∷ Composite true (ascii "_") 16 (member "priv" 1 0 0 ∷ member "x" 3 64 0 ∷ []) ∷ [])
    (all 0 ∷ one 130 3 ∷ one 25968 2 ∷ [])
    ((14, 0) ∷ (11, 0) ∷ (11, 0) ∷ [])
    ""
    ∷ session 4 false  -- 1-1179-0
    (Void ∷ Int (ascii "E") 64 ∷ Typedef (ascii "_") 6 ∷ Float (ascii "T") 8 ∷ Mod volatile 2 ∷ Composite true (ascii "_") 16 (member "a" 3 64 0 ∷ [])
    ∷ Composite true (ascii "") 16 (member "_" 1 0 0 ∷ member "_" 1 64 0 ∷ []) ∷ DeclTag true (ascii "x") 8 0
    ∷ Composite true (ascii "__x") 16 (member "node" 4 0 0 ∷ []) ∷ Ptr 2 ∷ Composite false (ascii "_") 4 (member "a" 3 0 31 ∷ [])
    ∷ Typedef (ascii "prelen") 10 ∷ [])
    (all 384 ∷ [])
    ((0, 187) ∷ [])
    "typedef struct {\n\tE _;\n\tE _;\n} _;\n\nstruct _ {\n\tint: 32;\n\tint: 32;\n\tT a;\n};\n\nstruct __x {\n\tvolatile _ node __attribute__((x));\n};\n\nunion ____2 {\n\tT a: 31;\n};\n\ntypedef union ____2 prelen;\n\n"
    ∷ session 8 false  -- 1-1188-0
    (Void ∷ Typedef (ascii "x___2") 2 ∷ FuncProto 10 [] ∷ Composite true (ascii "x") 8 (member "y" 4 0 0 ∷ []) ∷ Ptr 5 ∷ Mod const 6 ∷ Mod const 7
    ∷ FuncProto 8 (param "x___2" 18 ∷ []) ∷ Array 9 8 ∷ TypeTag true (ascii "x") 10 ∷ Mod volatile 11 ∷ Ptr 12 ∷ Mod restrict 13 ∷ Mod const 14
    ∷ Ptr 15 ∷ Ptr 17 ∷ Enum false (ascii "") 4 (value "ops" 1 ∷ []) ∷ Composite true (ascii "x") 4 (member "ops" 18 0 0 ∷ []) ∷ Int (ascii "int") 32
    ∷ [])
    (all 485 ∷ [])
    ((0, 204) ∷ [])
    "struct x;\n\ntypedef struct x ** const restrict * volatile x___2();\n\nstruct x___2 {\n\tstruct x ** const restrict * volatile __attribute__((x)) (const const  (*y)(int x___2))[8];\n};\n\nstruct x {\n\tint ops;\n};\n\n"
    ∷ session 4 false  -- 1-1193-2
    (Void ∷ Ptr 0
    ∷ Composite true (ascii "") 16 (member "y" 4 0 1 ∷ member "y" 4 24 0 ∷ member "x" 4 48 33 ∷ member "y" 1 81 3 ∷ member "x" 4 84 1 ∷ member "x" 5 85 3 ∷ member "y" 1 88 1 ∷ member "x" 4 96 0 ∷ [])
    ∷ Typedef (ascii "") 2 ∷ Int (ascii "x") 24 ∷ Int (ascii "x") 128 ∷ [])
    (one 0 3 ∷ one 152 4 ∷ one 0 2 ∷ [])
    ((14, 0) ∷ (11, 0) ∷ (11, 0) ∷ [])
    ""
    ∷ session 4 true  -- 1-1194-0
    (Void ∷ DeclTag false (ascii "x") 3 4294967295 ∷ Int (ascii "x") 32
    ∷ Composite false (ascii "y") 64 (member "y" 5 0 0 ∷ member "y" 8 0 0 ∷ member "x" 5 0 0 ∷ member "y" 6 0 0 ∷ member "x" 4 0 0 ∷ member "" 6 0 0 ∷ member "y" 8 0 0 ∷ [])
    ∷ Array 8 16 ∷ Array 11 1 ∷ Ptr 10 ∷ Int (ascii "x") 255 ∷ Int (ascii "x") 32 ∷ Composite true (ascii "") 40 (member "y" 2 0 0 ∷ []) ∷ Array 0 16
    ∷ Int (ascii "y") 32 ∷ [])
    (all 495 ∷ [])
    ((0, 130) ∷ [])
    "struct /*union*/ y {\n\ty y[1];\n\tx y;\n\ty x[1];\n\tvoid (*y)[16];\n\tx x[16];\n\tvoid(*)[16];\n\tx y;\n} __attribute__((btf_decl_tag(\"x\")));\n\n"
    ∷ session 8 false  -- 1-1218-0
    (Void ∷ Int (ascii "") 32
    ∷ Composite true (ascii "data") 56 (member "" 4 87 0 ∷ member "b" 2 95 0 ∷ member "prestate" 3 95 0 ∷ member "prestate" 1 247 0 ∷ member "state" 5 279 0 ∷ member "__builtin_va_list_y" 5 407 0 ∷ [])
    ∷ Composite true (ascii "x") 84 (member "" 2 179 0 ∷ member "" 3 173 0 ∷ member "u32" 5 232 0 ∷ member "data" 5 94 0 ∷ member "u32" 2 13 0 ∷ member "" 2 210 0 ∷ member "__builtin_va_list_y" 4 21 0 ∷ member "state" 2 172 0 ∷ [])
    ∷ Composite false (ascii "b") 56 (member "__builtin_va_list_y" 1 0 0 ∷ member "state" 2 0 0 ∷ member "" 4 0 0 ∷ member "u32" 4 0 0 ∷ [])
    ∷ Enum64 true (ascii "b") 4 [] ∷ [])
    (all 396 ∷ [])
    ((13, 0) ∷ [])
    ""
    ∷ session 8 true  -- 1-1229-2
    (Void ∷ Composite true (ascii "a") 8 (member "next" 7 0 64 ∷ []) ∷ Int (ascii "yx") 64 ∷ Typedef (ascii "y") 0 ∷ Typedef (ascii "state") 1
    ∷ Typedef (ascii "data") 1 ∷ Fwd false (ascii "y") ∷ Array 1 100 ∷ Array 6 0 ∷ [])
    (one 6 1 ∷ one 0 8 ∷ all 0 ∷ [])
    ((13, 0) ∷ (11, 0) ∷ (11, 0) ∷ [])
    ""
    ∷ session 4 false  -- 1-1230-0
    (Void ∷ Composite true (ascii "pre__builtin_va_list") 8 (member "x___2" 14 0 5 ∷ member "node" 13 5 32 ∷ member "y" 6 37 16 ∷ [])
    ∷ TypeTag false (ascii "\\\\") 1 ∷ Int (ascii "a__builtin_va_list___2") 7 ∷ Ptr 2
    ∷ Enum64 true (ascii "pre__builtin_va_list") 8 (value "y" 18446744069414584320 ∷ value "__builtin_va_list" 9223372041149743103 ∷ value "pre__builtin_va_list" 18446744073709551615 ∷ value "a__builtin_va_list___2" 18446744073709551615 ∷ value "__builtin_va_list" 18446744069414584320 ∷ [])
    ∷ Ptr 0 ∷ DeclTag false (ascii "aligned(4)") 8 1 ∷ Composite true (ascii "x") 8 (member "pre__builtin_va_list" 4 0 0 ∷ []) ∷ Mod restrict 0
    ∷ Typedef (ascii "node") 6 ∷ Ptr 4 ∷ Typedef (ascii "__x") 1 ∷ Ptr 0
    ∷ Composite true (ascii "a__builtin_va_list___2") 1 (member "" 14 0 0 ∷ member "__x" 3 0 0 ∷ []) ∷ [])
    (all 0 ∷ [])
    ((13, 0) ∷ [])
    ""
    ∷ session 8 false  -- 1-1235-2
    (Void ∷ Ptr 8 ∷ Composite true (ascii "") 4 (member "prey" 15 0 0 ∷ []) ∷ Composite true (ascii "y") 8 (member "x" 7 0 0 ∷ [])
    ∷ FuncProto 14 (param "state" 16 ∷ []) ∷ Composite true (ascii "flags") 8 (member "" 11 0 0 ∷ []) ∷ TypeTag true (ascii "aligned(4)") 9
    ∷ Mod const 1 ∷ TypeTag false (ascii "") 13 ∷ Ptr 2 ∷ TypeTag false (ascii "") 16 ∷ Ptr 4 ∷ Typedef (ascii "flags") 10 ∷ Array 9 8
    ∷ Mod volatile 6 ∷ Int (ascii "int") 32 ∷ Enum false (ascii "") 4 (value "state" 1 ∷ []) ∷ [])
    (all 636 ∷ one 652 4 ∷ one 420 14 ∷ one 581 0 ∷ one 547 11 ∷ one 594 11 ∷ one 285 11 ∷ one 294 13 ∷ [])
    ((0, 285) ∷ (0, 285) ∷ (0, 285) ∷ (0, 285) ∷ (0, 285) ∷ (0, 285) ∷ (0, 285) ∷ (0, 285) ∷ [])
    "struct y {\n\tstruct {\n\t\tint prey;\n\t} *( __attribute__((btf_type_tag(\"\"))) * const x)[8];\n};\n\nstruct flags {\n\tstruct {\n\t\tint prey;\n\t} *volatile  __attribute__((aligned(4))) (*)(enum {\n\t\tstate = 1,\n\t} state);\n};\n\ntypedef enum {\n\tstate___2 = 1,\n} __attribute__((btf_type_tag(\"\"))) flags;\n\n"
    ∷ session 4 false  -- 1-1236-0
    (Void ∷ Int (ascii "int") 32 ∷ Composite false (ascii "y") 4 (member "E" 1 0 0 ∷ []) ∷ Enum false (ascii "") 4 (value "E" 1 ∷ []) ∷ Mod restrict 7
    ∷ Ptr 8 ∷ FuncProto 5 (param "" 0 ∷ param "x" 0 ∷ []) ∷ Ptr 6 ∷ Mod const 0 ∷ FuncProto 4 (param "x" 0 ∷ param "E" 3 ∷ [])
    ∷ FuncProto 9 (param "" 3 ∷ param "" 0 ∷ param "" 0 ∷ []) ∷ Mod const 10 ∷ Typedef (ascii "y") 11 ∷ Mod const 0 ∷ Mod volatile 13 ∷ Ptr 14
    ∷ Composite true (ascii "preAx") 8 (member "u32" 15 0 0 ∷ []) ∷ [])
    (all 371 ∷ [])
    ((0, 186) ∷ [])
    "union y {\n\tint E;\n};\n\ntypedef const void * (* restrict (const y(enum {\n\tE = 1,\n}, void, ...))(void x, enum {\n\tE___2 = 1,\n} E))(void, ...);\n\nstruct preAx {\n\tconst volatile void *u32;\n};\n\n"
    ∷ session 4 true  -- 1-1252-1
    (Void ∷ Int (ascii "int") 32 ∷ Composite true (ascii "x") 8 (member "len" 3 0 0 ∷ []) ∷ Composite false (ascii "") 8 (member "" 4 0 0 ∷ [])
    ∷ Composite true (ascii "") 8 (member "prelen" 5 0 0 ∷ member "len" 1 64 0 ∷ []) ∷ Ptr 6 ∷ Typedef (ascii "s") 3 ∷ [])
    (one 203 2 ∷ one 0 0 ∷ one 321 5 ∷ [])
    ((13, 0) ∷ (11, 0) ∷ (11, 0) ∷ [])
    ""
    ∷ session 4 true  -- 1-1275-0
    (Void ∷ Int (ascii "Ax") 255 ∷ Ptr 1 ∷ Array 1 3 ∷ Ptr 0 ∷ Float (ascii "priv") 8 ∷ Typedef (ascii "T") 9 ∷ Ptr 3 ∷ Mod restrict 2
    ∷ Float (ascii "priv") 16 ∷ Enum true (ascii "priv") 3 (value "Ax" 2 ∷ value "next" 2147483649 ∷ []) ∷ Array 9 100 ∷ Typedef (ascii "") 0 ∷ [])
    (all 381 ∷ [])
    ((14, 63) ∷ [])
    "typedef priv T;\n\nenum priv {\n\tAx = 2,\n\tnext = -2147483647,\n};\n\n"
    ∷ session 4 true  -- 1-1292-2
    (Void ∷ Composite false (ascii "prex") 8 (member "x" 1 0 0 ∷ []) ∷ Int (ascii "y") 64
    ∷ Enum64 true (ascii "x") 1 (value "x" 9223372036854775807 ∷ value "y" 427349245951 ∷ value "prex" 16241076576765083649 ∷ [])
    ∷ Fwd false (ascii "x") ∷ [])
    (one 253 1 ∷ [])
    ((13, 0) ∷ [])
    ""
    ∷ session 4 true  -- 1-1296-0
    (Void ∷ Int (ascii "x___3") 16 ∷ Ptr 1 ∷ Int (ascii "x___3") 7 ∷ Mod restrict 3
    ∷ Composite true (ascii "buf") 64 (member "prelist_head" 3 304 0 ∷ member "list_head" 4 376 0 ∷ member "len" 7 400 0 ∷ member "flags" 2 480 0 ∷ [])
    ∷ Composite true (ascii "yx") 24 (member "y" 8 120 0 ∷ member "list_head" 7 159 16 ∷ []) ∷ Mod volatile 4 ∷ Int (ascii "yx") 32 ∷ [])
    (all 403 ∷ [])
    ((17, 271) ∷ [])
    "struct buf {\n\tint: 16;\n\tint: 32;\n\tint: 32;\n\tint: 32;\n\tint: 32;\n\tint: 32;\n\tint: 32;\n\tint: 32;\n\tint: 32;\n\tint: 32;\n\tx___3 prelist_head;\n\tint: 32;\n\tint: 32;\n\trestrict x___3 list_head;\n\tshort: 16;\n\trestrict volatile x___3 len;\n\tint: 8;\n\tint: 32;\n\tint: 32;\n\tx___3 *flags;\n};\n\n"
    ∷ session 4 false  -- 1-1301-2
    (Void ∷ Int (ascii "int") 32 ∷ Composite true (ascii "") 8 (member "list_head" 3 0 0 ∷ []) ∷ Composite false (ascii "") 8 (member "" 4 0 0 ∷ [])
    ∷ Composite true (ascii "") 8 (member "list_head" 5 0 0 ∷ member "node" 1 64 0 ∷ []) ∷ Ptr 6 ∷ Typedef (ascii "list_head") 4 ∷ [])
    (one 0 1 ∷ one 273 6 ∷ one 381 4 ∷ one 146 4 ∷ [])
    ((0, 0) ∷ (13, 0) ∷ (11, 0) ∷ (11, 0) ∷ [])
    ""
    ∷ session 4 false  -- 1-1341-0
    (Void ∷ Composite true (ascii "prey") 8 (member "" 2 0 0 ∷ []) ∷ Ptr 3 ∷ Mod restrict 4 ∷ Ptr 5 ∷ Mod restrict 6 ∷ Ptr 7
    ∷ TypeTag true (ascii "user") 8 ∷ Ptr 9 ∷ Mod restrict 10 ∷ Mod const 11 ∷ FuncProto 14 [] ∷ Enum false (ascii "T") 4 (value "__x" 1 ∷ [])
    ∷ Composite true (ascii "__x") 4 (member "ops" 14 0 0 ∷ []) ∷ Int (ascii "int") 32 ∷ [])
    (all 510 ∷ [])
    ((0, 141) ∷ [])
    "struct prey {\n\tintconst restrict  (* __attribute__((user)) * restrict * restrict *)();\n};\n\nenum T {\n\t__x = 1,\n};\n\nstruct __x {\n\tint ops;\n};\n\n"
    ∷ session 8 false  -- 1-1356-0
    (Void ∷ Int (ascii "int") 32 ∷ Composite true (ascii "") 4 (member "state" 1 0 0 ∷ []) ∷ Enum false (ascii "") 4 (value "x" 1 ∷ [])
    ∷ FuncProto 3 (param "b" 1 ∷ []) ∷ FuncProto 4 (param "x___3" 3 ∷ param "" 0 ∷ []) ∷ Ptr 5 ∷ Composite true (ascii "E") 8 (member "" 6 0 0 ∷ [])
    ∷ Mod volatile 2 ∷ Ptr 8 ∷ Ptr 9 ∷ Ptr 10 ∷ FuncProto 11 [] ∷ Typedef (ascii "state") 12 ∷ [])
    (all 303 ∷ [])
    ((0, 138) ∷ [])
    "struct E {\n\tenum {\n\t\tx = 1,\n\t} ( (*)(enum {\n\t\tx___2 = 1,\n\t} x___3, ...))(int b);\n};\n\ntypedef volatile struct {\n\tint state;\n} ***state();\n\n"
    ∷ session 4 true  -- 1-1373-2
    (Void ∷ Typedef (ascii "") 7 ∷ FuncProto 5 [] ∷ Int (ascii "prenode") 32 ∷ Typedef (ascii "yx") 12
    ∷ Composite true (ascii "list_head") 88 (member "b" 10 0 0 ∷ member "flags" 13 8 0 ∷ member "preops" 11 16 0 ∷ member "x___2" 1 32 0 ∷ member "preflags" 1 64 0 ∷ member "yx" 6 96 0 ∷ member "list_head" 3 104 0 ∷ member "flags" 3 136 0 ∷ member "" 7 168 0 ∷ member "state" 3 200 0 ∷ member "x" 3 232 0 ∷ member "y" 4 264 0 ∷ member "Ax" 13 272 0 ∷ member "" 1 280 0 ∷ member "ops" 7 312 0 ∷ member "flags" 9 344 0 ∷ member "T" 4 352 0 ∷ member "len" 14 360 0 ∷ member "data" 12 392 0 ∷ member "x" 15 400 0 ∷ member "__x" 14 432 0 ∷ member "prenode" 4 464 0 ∷ member "prenode" 13 472 0 ∷ member "Ax" 9 480 0 ∷ member "priv" 14 488 0 ∷ member "next" 10 520 0 ∷ member "flags" 1 528 0 ∷ member "Ax" 4 560 0 ∷ member "prex___2" 4 568 0 ∷ member "state" 1 576 0 ∷ member "prex___2" 7 608 0 ∷ member "" 10 640 0 ∷ member "flags" 13 648 0 ∷ member "flags" 1 656 0 ∷ member "prex___2" 11 688 0 ∷ [])
    ∷ Mod const 13 ∷ Int (ascii "u32") 32 ∷ Array 0 16 ∷ Mod const 4 ∷ TypeTag false (ascii "\\\\") 12
    ∷ Enum true (ascii "Ax") 2 (value "T" 4294967295 ∷ value "len" 389612335 ∷ value "node" 100 ∷ value "prenode" 1000000000 ∷ value "preflags" 10 ∷ [])
    ∷ Int (ascii "y") 1 ∷ Typedef (ascii "next") 4 ∷ Typedef (ascii "__x") 15 ∷ Int (ascii "buf") 32 ∷ [])
    (one 227 11 ∷ one 149 4294967295 ∷ one 476 15 ∷ all 472 ∷ one 428 5 ∷ one 93 4294967295 ∷ [])
    ((0, 93) ∷ (10, 93) ∷ (0, 93) ∷ (14, 93) ∷ (11, 93) ∷ (11, 93) ∷ [])
    "enum Ax {\n\tT = -1,\n\tlen = 389612335,\n\tnode = 100,\n\tprenode = 1000000000,\n\tpreflags = 10,\n};\n\n"
    ∷ session 4 true  -- 1-1375-1
    (Void ∷ Int (ascii "char") 8 ∷ Int (ascii "int") 32 ∷ Array 2 1 ∷ Typedef (ascii "pre_") 3 ∷ Array 4 1073741823 ∷ Array 2 536870912
    ∷ Array 4 536870912 ∷ Composite false (ascii "") 8 (member "x" 5 0 0 ∷ [])
    ∷ Composite false (ascii "x") 8 (member "x" 1 0 0 ∷ member "b" 8 64 0 ∷ member "node" 6 4096 0 ∷ []) ∷ [])
    (one 0 0 ∷ one 391 1 ∷ one 170 9 ∷ one 83166 8 ∷ one 196 7 ∷ [])
    ((0, 0) ∷ (0, 0) ∷ (16, 0) ∷ (11, 0) ∷ (11, 0) ∷ [])
    ""
    ∷ session 4 false  -- 1-1505-2
    (Void ∷ Int (ascii "int") 32 ∷ Typedef (ascii "") 1 ∷ Ptr 2 ∷ Composite true (ascii "s") 8 (member "y" 3 0 0 ∷ [])
    ∷ Composite true (ascii "y") 16 (member "a" 1 0 0 ∷ member "a" 3 64 0 ∷ []) ∷ Typedef (ascii "s") 3 ∷ [])
    (one 0 0 ∷ one 1 2 ∷ one 235 2 ∷ one 322 8 ∷ [])
    ((0, 0) ∷ (14, 0) ∷ (11, 0) ∷ (11, 0) ∷ [])
    ""
    ∷ session 8 true  -- 1-1508-2
    (Void ∷ FuncProto 2 [] ∷ Ptr 3 ∷ Array 9 8 ∷ Mod const 2 ∷ Mod volatile 1 ∷ Typedef (ascii "x___2") 12
    ∷ Composite false (ascii "state") 4 (member "data" 11 0 0 ∷ []) ∷ Mod const 19 ∷ Ptr 7 ∷ Mod restrict 8 ∷ Int (ascii "int") 32
    ∷ FuncProto 0 (param "data" 5 ∷ []) ∷ Typedef (ascii "state") 20 ∷ Typedef (ascii "data") 17 ∷ Mod volatile 0
    ∷ Enum false (ascii "state") 4 (value "x___2" 1 ∷ []) ∷ FuncProto 0 (param "y" 4 ∷ []) ∷ Typedef (ascii "data") 15
    ∷ FuncProto 0 (param "" 7 ∷ param "" 0 ∷ param "state" 0 ∷ []) ∷ Ptr 10 ∷ [])
    (one 147 7 ∷ one 285 9 ∷ one 40 10 ∷ all 516 ∷ one 702 10 ∷ one 515 3 ∷ all 441 ∷ one 312 19 ∷ [])
    ((0, 40) ∷ (0, 40) ∷ (0, 40) ∷ (0, 312) ∷ (0, 312) ∷ (0, 312) ∷ (0, 312) ∷ (0, 312) ∷ [])
    "struct /*union*/ state {\n\tint data;\n};\n\ntypedef void x___2(struct /*union*/ state *(*volatile data())[8]);\n\ntypedef voidconst restrict  (*state)(struct /*union*/ state, void, ...);\n\ntypedef void data(struct /*union*/ state *(* const y)[8]);\n\nenum state___2 {\n\tx___2___2 = 1,\n};\n\ntypedef volatile void data___2;\n\n"
    ∷ session 4 true  -- 1-1523-2
    (Void ∷ Int (ascii "int") 32 ∷ Composite true (ascii "y") 4 (member "x" 1 0 0 ∷ []) ∷ Enum false (ascii "y") 4 (value "x" 1 ∷ []) ∷ Mod restrict 0
    ∷ Mod restrict 4 ∷ Ptr 7 ∷ FuncProto 5 (param "" 0 ∷ []) ∷ Ptr 6 ∷ Ptr 20 ∷ Ptr 21 ∷ TypeTag false (ascii "x") 10
    ∷ TypeTag false (ascii "\u{7f}\u{b}'%s") 11 ∷ FuncProto 0 (param "" 12 ∷ []) ∷ Typedef (ascii "u32") 13 ∷ Mod restrict 12 ∷ Mod restrict 15
    ∷ TypeTag true (ascii "\u{7f}\u{b}'%s") 16 ∷ Ptr 17 ∷ Ptr 18 ∷ Mod const 19 ∷ Array 8 1 ∷ FuncProto 0 (param "" 9 ∷ [])
    ∷ Typedef (ascii "list_head") 22 ∷ [])
    (one 100 24 ∷ one 2 18 ∷ one 89856 1 ∷ one 324 10 ∷ one 198 1 ∷ all 735 ∷ one 429 14 ∷ one 731 19 ∷ [])
    ((10, 0) ∷ (0, 0) ∷ (0, 0) ∷ (0, 0) ∷ (0, 0) ∷ (0, 366) ∷ (0, 366) ∷ (0, 366) ∷ [])
    "struct y {\n\tint x;\n};\n\nenum y___2 {\n\tx = 1,\n};\n\ntypedef void u32(restrict restrict void (**(* __attribute__((btf_type_tag(\"x\"))) __attribute__((btf_type_tag(\"\u{7f}\u{b}'%s\"))))[1])());\n\ntypedef void list_head(restrict restrict void (**(* __attribute__((btf_type_tag(\"x\")))restrict restrict  __attribute__((btf_type_tag(\"\u{7f}\u{b}'%s\"))) __attribute__((\u{7f}\u{b}'%s)) ** const *)[1])());\n\n"
    ∷ session 8 true  -- 1-1527-0
    (Void ∷ Typedef (ascii "T") 10 ∷ Composite true (ascii "y") 48 (member "y" 11 64 32 ∷ member "" 13 320 0 ∷ member "" 3 352 1 ∷ [])
    ∷ Composite true (ascii "priv") 16 (member "E" 8 0 0 ∷ member "y" 7 64 64 ∷ []) ∷ Mod const 2 ∷ Fwd false (ascii "priv") ∷ Typedef (ascii "E") 2
    ∷ Int (ascii "node") 64 ∷ Ptr 13 ∷ Typedef (ascii "") 12 ∷ FuncProto 5 []
    ∷ Composite true (ascii "node") 18 (member "" 13 0 0 ∷ member "node" 8 64 0 ∷ member "priv" 13 128 0 ∷ []) ∷ Fwd true (ascii "y")
    ∷ Composite true (ascii "y") 4 (member "E" 8 0 5 ∷ []) ∷ [])
    (all 417 ∷ [])
    ((14, 392) ∷ [])
    "struct priv;\n\ntypedef struct priv T();\n\nstruct y {\n\tstruct y *E: 5;\n} __attribute__((packed));\n\nstruct node {\n\tstruct y;\n\tint: 32;\n\tstruct y *node;\n\tstruct y priv;\n} __attribute__((packed));\n\nstruct priv___2 {\n\tstruct y *E;\n\tnode y: 64;\n};\n\nstruct y___2 {\n\tlong: 64;\n\tstruct node y: 32;\n\tlong: 32;\n\tlong: 64;\n\tlong: 64;\n\tlong: 64;\n\tstruct y;\n\tstruct priv___2: 1;\n};\n\ntypedef struct y___2 E;\n\n"
    ∷ session 8 true  -- 1-1557-0
    (Void ∷ Typedef (ascii "x") 14 ∷ Typedef (ascii "y") 12 ∷ Typedef (ascii "x") 12 ∷ Array 2 1
    ∷ Composite false (ascii "") 400 (member "x" 15 0 0 ∷ member "m\"\\\n\t\r\u{1}" 6 0 0 ∷ member "y" 15 0 0 ∷ member "m\"\\\n\t\r\u{1}" 7 0 0 ∷ member "m\"\\\n\t\r\u{1}" 10 0 0 ∷ member "prem\"\\\n\t\r\u{1}" 6 0 0 ∷ member "" 12 0 0 ∷ member "prem\"\\\n\t\r\u{1}" 11 0 0 ∷ member "y" 12 0 0 ∷ member "prem\"\\\n\t\r\u{1}" 6 0 0 ∷ member "prem\"\\\n\t\r\u{1}" 3 0 0 ∷ member "x" 11 0 0 ∷ member "" 12 0 0 ∷ member "prem\"\\\n\t\r\u{1}" 4 0 0 ∷ member "" 1 0 0 ∷ member "m\"\\\n\t\r\u{1}" 3 0 0 ∷ member "y" 7 0 0 ∷ member "m\"\\\n\t\r\u{1}" 1 96 0 ∷ member "" 12 0 0 ∷ member "m\"\\\n\t\r\u{1}" 4 0 0 ∷ member "" 12 0 0 ∷ member "m\"\\\n\t\r\u{1}" 3 0 0 ∷ member "m\"\\\n\t\r\u{1}" 15 0 0 ∷ member "m\"\\\n\t\r\u{1}" 14 0 0 ∷ member "y" 10 32 0 ∷ member "y" 3 0 0 ∷ member "m\"\\\n\t\r\u{1}" 10 0 0 ∷ member "x" 11 0 0 ∷ member "" 14 0 0 ∷ member "y" 1 0 0 ∷ member "y" 10 0 0 ∷ member "m\"\\\n\t\r\u{1}" 7 0 0 ∷ member "" 8 0 0 ∷ member "y" 2 0 0 ∷ member "m\"\\\n\t\r\u{1}" 4 0 0 ∷ member "m\"\\\n\t\r\u{1}" 2 0 0 ∷ [])
    ∷ Ptr 12 ∷ Typedef (ascii "m\"\\\n\t\r\u{1}") 11 ∷ Array 6 100
    ∷ Composite true (ascii "m\"\\\n\t\r\u{1}") 0 (member "m\"\\\n\t\r\u{1}" 3 0 0 ∷ member "x" 2 0 0 ∷ []) ∷ Int (ascii "m\"\\\n\t\r\u{1}") 64
    ∷ Float (ascii "x") 12 ∷ Composite false (ascii "prem\"\\\n\t\r\u{1}") 0 [] ∷ Func (ascii "y")
    ∷ Composite true (ascii "prem\"\\\n\t\r\u{1}") 4 (member "m\"\\\n\t\r\u{1}" 6 0 0 ∷ []) ∷ Ptr 6 ∷ [])
    (all 542 ∷ [])
    ((0, 335) ∷ [])
    "struct /*union*/ prem\"\\\n\t\r\u{1};\n\nstruct prem\"\\\n\t\r\u{1}___2 {\n\tstruct /*union*/ prem\"\\\n\t\r\u{1} *m\"\\\n\t\r\u{1};\n} __attribute__((packed));\n\ntypedef struct prem\"\\\n\t\r\u{1}___2 x;\n\nstruct /*union*/ prem\"\\\n\t\r\u{1} {};\n\ntypedef struct /*union*/ prem\"\\\n\t\r\u{1} y;\n\ntypedef struct /*union*/ prem\"\\\n\t\r\u{1} x___2;\n\ntypedef x m\"\\\n\t\r\u{1};\n\nstruct m\"\\\n\t\r\u{1} {\n\tx___2 m\"\\\n\t\r\u{1};\n\ty x;\n};\n\n"
    ∷ session 8 false  -- 1-1586-2
    (Void ∷ Typedef (ascii "") 3 ∷ FuncProto 3 (param "" 3 ∷ []) ∷ Int (ascii "node") 64 ∷ [])
    (one 246 1 ∷ all 0 ∷ one 0 3 ∷ [])
    ((14, 0) ∷ (11, 0) ∷ (11, 0) ∷ [])
    ""
    ∷ session 4 true  -- 1-1612-1
    (Void ∷ Int (ascii "x") 32 ∷ Typedef (ascii "") 0 ∷ Mod const 2 ∷ Typedef (ascii "data") 2 ∷ Ptr 2 ∷ Mod restrict 4 ∷ [])
    (one 0 5 ∷ one 0 3 ∷ one 0 2 ∷ one 196 4 ∷ [])
    ((0, 0) ∷ (14, 0) ∷ (11, 0) ∷ (11, 0) ∷ [])
    ""
    ∷ session 4 true  -- 1-1650-0
    (Void ∷ Typedef (ascii "next") 8 ∷ Mod const 11 ∷ Composite true (ascii "") 0 (member "x" 2 0 0 ∷ member "prex" 13 0 0 ∷ [])
    ∷ Typedef (ascii "y") 2 ∷ DeclTag false (ascii "rcu") 1 4294967295 ∷ DeclTag true (ascii "packed") 11 0 ∷ Typedef (ascii "next") 0
    ∷ Typedef (ascii "next") 2
    ∷ Composite false (ascii "prex") 13 (member "" 11 0 0 ∷ member "" 4 0 0 ∷ member "next" 10 0 0 ∷ member "prex" 13 0 0 ∷ member "x" 1 104 0 ∷ member "y" 4 0 0 ∷ member "next" 10 0 0 ∷ member "x" 13 0 0 ∷ member "x" 12 0 0 ∷ [])
    ∷ TypeTag true (ascii "packed") 8 ∷ Composite true (ascii "next") 0 [] ∷ Mod const 1 ∷ Mod restrict 10 ∷ Typedef (ascii "prex") 0 ∷ [])
    (all 564 ∷ [])
    ((0, 467) ∷ [])
    "struct next {};\n\ntypedef const struct next next;\n\ntypedef next next___2 __attribute__((btf_decl_tag(\"rcu\")));\n\ntypedef const struct next y;\n\ntypedef void next___3;\n\nstruct /*union*/ prex {\n\tstruct next;\n\ty;\n\tnext __attribute__((packed)) next;\n\tnextrestrict  __attribute__((packed)) prex;\n\tint: 8;\n\tint: 32;\n\tint: 32;\n\tint: 32;\n\tnext___2 x;\n\ty y;\n\tnext __attribute__((packed)) next;\n\tnextrestrict  __attribute__((packed)) x;\n\tconst next___2 x;\n};\n\ntypedef void prex;\n\n"
    ∷ session 4 true  -- 1-1653-0
    (Void ∷ Typedef (ascii "x") 5 ∷ Array 12 1 ∷ Mod restrict 10 ∷ Int (ascii "int") 32 ∷ Mod const 2 ∷ Ptr 0 ∷ Ptr 8 ∷ Ptr 6 ∷ Mod restrict 7
    ∷ FuncProto 9 (param "" 15 ∷ param "x___3" 15 ∷ []) ∷ Typedef (ascii "prex") 13 ∷ Mod volatile 14 ∷ FuncProto 0 (param "prex" 3 ∷ [])
    ∷ Composite false (ascii "x") 4 (member "prex" 4 0 0 ∷ []) ∷ Enum false (ascii "") 4 (value "Ax" 1 ∷ []) ∷ [])
    (all 481 ∷ [])
    ((0, 180) ∷ [])
    "struct /*union*/ x {\n\tint prex;\n};\n\ntypedef volatile struct /*union*/ x x[1];\n\ntypedef void prex(void *** restrictrestrict  prex(enum {\n\tAx = 1,\n}, enum {\n\tAx___2 = 1,\n} x___3));\n\n"
    ∷ []
