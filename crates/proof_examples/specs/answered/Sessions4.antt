-- Written by tools/vectors.py. Sections and requests of oracle/answers.cases, each beside the answers.
-- That they are equal is `sessions4_hold` of proofs/Sessions4.
use Rattle.std.specs.Prelude.{true, false, List, [], ◌∷◌}
use Rattle.spec_bytes.specs.text.Text.{ascii}
use Rattle.spec_c_dumper.specs.rules.Machine.{one, all}
use Rattle.proof_examples.specs.vectors.Base.{member, param, value, Vector, session}
use Rattle.spec_c_dumper.specs.rules.Types.{volatile, const, restrict, Void, Int, Ptr, Array, Composite, Enum, Enum64, Fwd, Typedef, Mod, Func, Datasec, FuncProto, Float, DeclTag, TypeTag}

abbrev pub sessions4 : List Vector
sessions4 =
    session 8 true  -- 1-1660-1
    (Void ∷ Int (ascii "x") 7 ∷ Mod restrict 0
    ∷ Composite false (ascii "y") 8 (member "y" 11 0 0 ∷ member "x" 17 0 0 ∷ member "x" 14 0 0 ∷ member "x" 1 0 0 ∷ []) ∷ Ptr 5 ∷ Array 16 2
    ∷ Enum true (ascii "x") 8 (value "prex" 2147483648 ∷ value "prex" 100 ∷ []) ∷ Typedef (ascii "") 11 ∷ Array 3 4 ∷ Ptr 14 ∷ Int (ascii "y") 16
    ∷ Int (ascii "prex") 24 ∷ Int (ascii "prex") 32 ∷ Array 4 1 ∷ Int (ascii "prex") 64 ∷ Int (ascii "x") 32
    ∷ Composite true (ascii "") 19 (member "y" 11 0 0 ∷ member "x" 6 24 0 ∷ member "x" 6 88 0 ∷ []) ∷ Ptr 16 ∷ [])
    (one 301 1 ∷ one 0 11 ∷ one 221 0 ∷ one 341 3 ∷ one 175 16 ∷ one 175 8 ∷ one 443 13 ∷ one 367 7 ∷ one 366 6 ∷ one 175 14 ∷ [])
    ((0, 0) ∷ (0, 0) ∷ (0, 0) ∷ (0, 175) ∷ (0, 175) ∷ (0, 175) ∷ (0, 175) ∷ (14, 175) ∷ (11, 175) ∷ (11, 175) ∷ [])
    "enum x {\n\tprex = -2147483648,\n\tprex___2 = 100,\n};\n\nstruct /*union*/ y {\n\tprex y;\n\tstruct {\n\t\tprex y;\n\t\tenum x x;\n\t\tenum x x;\n\t} __attribute__((packed)) *x;\n\tprex x;\n\tx x;\n};\n\n"
    ∷ session 8 false  -- 1-1662-0
    (Void ∷ Ptr 8 ∷ Ptr 1
    ∷ Composite true (ascii "") 20 (member "y" 7 0 0 ∷ member "" 1 32 0 ∷ member "list_head" 7 64 0 ∷ member "s" 1 96 0 ∷ member "list_head" 9 128 0 ∷ [])
    ∷ Composite true (ascii "y") 64 (member "m\"\\\n\t\r\u{1}" 10 0 0 ∷ member "T" 1 8 0 ∷ member "prex___3" 9 72 0 ∷ member "x___2" 9 136 0 ∷ member "yx" 7 200 0 ∷ member "" 2 264 0 ∷ member "T" 2 328 0 ∷ member "E" 2 392 0 ∷ [])
    ∷ Composite true (ascii "") 4 (member "preops" 1 0 0 ∷ []) ∷ Typedef (ascii "") 0 ∷ Typedef (ascii "") 2
    ∷ Composite false (ascii "s") 16 (member "yx" 9 0 0 ∷ member "data" 5 0 0 ∷ member "flags" 2 64 0 ∷ member "Ax" 10 0 0 ∷ member "list_head" 2 0 0 ∷ member "" 7 0 0 ∷ [])
    ∷ Ptr 10 ∷ Enum true (ascii "b") 1 (value "s" 99 ∷ value "a" 4294967295 ∷ []) ∷ [])
    (all 0 ∷ [])
    ((14, 0) ∷ [])
    ""
    ∷ session 4 true  -- 1-1697-2
    (Void ∷ Int (ascii "y") 32 ∷ Mod const 1 ∷ Mod volatile 6 ∷ Typedef (ascii "__builtin_va_list") 2 ∷ FuncProto 4 (param "" 0 ∷ [])
    ∷ FuncProto 5 (param "pre__builtin_va_lis" 4 ∷ param "" 7 ∷ param "__builtin_va_lis" 4 ∷ param "pre__builtin_va_lis" 0 ∷ param "" 10 ∷ [])
    ∷ Composite true (ascii "priv") 72 (member "x" 2 70 2 ∷ member "x" 4 384 0 ∷ member "__builtin_va_lis" 11 417 1 ∷ member "__builtin_va_lis" 1 521 31 ∷ [])
    ∷ Typedef (ascii "x") 6 ∷ Func (ascii "priv") ∷ Int (ascii "priv") 16
    ∷ Enum64 false (ascii "x") 4 (value "pre__builtin_va_lis" 18446744063709551616 ∷ value "y" 4294967295999999999 ∷ value "y" 4294967298147483649 ∷ value "__builtin_va_lis" 9223372036854775807 ∷ value "__builtin_va_lis" 4294967296 ∷ [])
    ∷ [])
    (one 849 6 ∷ all 1001 ∷ all 647 ∷ one 31684 6 ∷ one 926 10 ∷ one 647 10 ∷ [])
    ((0, 493) ∷ (0, 647) ∷ (0, 647) ∷ (0, 647) ∷ (0, 647) ∷ (0, 647) ∷ [])
    "enum x {\n\tpre__builtin_va_lis = 18446744063709551616ULL,\n\ty = 4294967295999999999ULL,\n\ty___2 = 4294967298147483649ULL,\n\t__builtin_va_lis = 9223372036854775807ULL,\n\t__builtin_va_lis___2 = 4294967296ULL,\n};\n\nstruct priv {\n\tint: 6;\n\tint: 32;\n\tint: 32;\n\tconst y x: 2;\n\tint: 24;\n\tint: 32;\n\tint: 32;\n\tint: 32;\n\tint: 32;\n\tint: 32;\n\tint: 32;\n\tint: 32;\n\tint: 32;\n\tint: 32;\n\t__builtin_va_list x;\n\tchar: 1;\n\tenum x __builtin_va_lis: 1;\n\tint: 7;\n\tint: 32;\n\tint: 32;\n\tint: 32;\n\ty __builtin_va_lis: 31;\n};\n\ntypedef __builtin_va_list (x(__builtin_va_list pre__builtin_va_lis, struct priv, __builtin_va_list __builtin_va_lis, void pre__builtin_va_lis, priv))();\n\n"
    ∷ session 4 true  -- 1-1701-0
    (Void ∷ Typedef (ascii "list_head") 2 ∷ Composite true (ascii "") 10 (member "list_head" 0 50 0 ∷ member "Ax" 0 76 0 ∷ [])
    ∷ Typedef (ascii "data") 1 ∷ DeclTag false (ascii "\u{7f}\u{b}'%s") 3 4294967295 ∷ Typedef (ascii "list_head") 1
    ∷ Composite true (ascii "s") 11 (member "list_head" 5 0 1 ∷ member "prebuf" 1 4 0 ∷ member "" 2 84 2 ∷ []) ∷ [])
    (all 378 ∷ [])
    ((15, 0) ∷ [])
    ""
    ∷ session 8 false  -- 1-1745-2
    (Void ∷ Enum64 true (ascii "") 4 (value "x___2" 99 ∷ value "s" 9223372036854775807 ∷ [])
    ∷ Composite false (ascii "y") 168 (member "x" 4 0 0 ∷ member "priv" 18 0 0 ∷ member "x___2" 6 0 0 ∷ member "next" 13 0 0 ∷ member "data" 4 0 0 ∷ member "" 19 0 0 ∷ member "data" 6 0 0 ∷ [])
    ∷ Typedef (ascii "y") 18 ∷ Composite true (ascii "next") 168 (member "data" 9 0 0 ∷ member "data" 14 128 0 ∷ member "" 8 384 0 ∷ [])
    ∷ Composite true (ascii "") 55 (member "x" 14 0 0 ∷ member "y" 15 32 0 ∷ member "y" 8 64 0 ∷ member "s" 15 992 0 ∷ member "" 13 1141 0 ∷ member "u32" 1 1205 0 ∷ [])
    ∷ Ptr 17 ∷ Enum true (ascii "s") 4 (value "" 1000000000 ∷ [])
    ∷ Composite true (ascii "Ax") 116 (member "x___2" 7 0 0 ∷ member "Ax" 3 65 0 ∷ member "priv" 3 361 0 ∷ member "priv" 3 425 0 ∷ member "data" 6 597 0 ∷ member "x" 9 629 0 ∷ member "priv" 9 757 0 ∷ member "Ax" 6 885 0 ∷ [])
    ∷ Float (ascii "priv") 16 ∷ Typedef (ascii "priv") 8 ∷ Array 0 0 ∷ Array 2 2 ∷ Composite true (ascii "E") 8 (member "priv" 19 0 0 ∷ []) ∷ Ptr 1
    ∷ Ptr 17 ∷ FuncProto 11 (param "" 11 ∷ param "" 18 ∷ []) ∷ Ptr 18 ∷ Int (ascii "x___2") 64 ∷ Mod volatile 18 ∷ [])
    (one 882 12 ∷ one 562 7 ∷ one 784 13 ∷ one 554 12 ∷ one 719 1 ∷ one 554 6 ∷ one 866 15 ∷ one 790 10 ∷ one 871 14 ∷ [])
    ((0, 554) ∷ (0, 554) ∷ (0, 554) ∷ (0, 554) ∷ (0, 554) ∷ (0, 554) ∷ (0, 554) ∷ (0, 579) ∷ (0, 579) ∷ [])
    "enum s {\n\t = 1000000000,\n};\n\ntypedef x___2 y;\n\nstruct Ax {\n\tenum s x___2;\n\tlong: 33;\n\ty Ax;\n\tlong: 40;\n\tlong: 64;\n\tlong: 64;\n\tlong: 64;\n\ty priv;\n\ty priv;\n\tlong: 44;\n\tlong: 64;\n\tx___2 **data;\n\tpriv x;\n\tpriv priv;\n\tx___2 **Ax;\n} __attribute__((packed));\n\nstruct next {\n\tpriv data;\n\tenum {\n\t\tx___2 = 99LL,\n\t\ts = 9223372036854775807LL,\n\t} *data;\n\tlong: 64;\n\tlong: 64;\n\tlong: 64;\n\tstruct Ax;\n};\n\nstruct E {\n\tvolatile x___2 priv;\n};\n\nunion y {\n\tstruct next x;\n\tx___2 priv;\n\tx___2 **x___2;\n\tstruct E next;\n\tstruct next data;\n\tvolatile x___2;\n\tx___2 **data;\n};\n\ntypedef struct Ax priv;\n\n"
    ∷ session 4 false  -- 1-1749-0
    (Void ∷ Int (ascii "char") 8 ∷ Int (ascii "int") 32 ∷ Array 2 4294967295 ∷ Array 2 268435457
    ∷ Composite false (ascii "len") 4294967295 (member "yx" 2 0 0 ∷ [])
    ∷ Composite true (ascii "a") 8 (member "a" 2 4096 6 ∷ member "a" 4 8 0 ∷ member "data" 3 32 0 ∷ [])
    ∷ Composite false (ascii "_") 8 (member "next" 3 8 19 ∷ member "a" 4 8 0 ∷ member "x" 5 32 0 ∷ [])
    ∷ Composite false (ascii "_") 8 (member "next" 4 0 0 ∷ member "a" 5 0 0 ∷ []) ∷ [])
    (all 1493 ∷ [])
    ((16, 25) ∷ [])
    "union len {\n\tint yx;\n};\n\n"
    ∷ session 8 false  -- 1-1758-0
    (Void ∷ Int (ascii "int") 32 ∷ Typedef (ascii "") 1 ∷ Ptr 2 ∷ Composite true (ascii "x") 8 (member "prex" 3 0 0 ∷ [])
    ∷ Composite true (ascii "x") 16 (member "y" 1 0 0 ∷ member "prex" 3 64 0 ∷ []) ∷ Typedef (ascii "y") 2 ∷ [])
    (all 270 ∷ [])
    ((14, 0) ∷ [])
    ""
    ∷ session 4 true  -- 1-1773-0
    (Void ∷ Composite true (ascii "x") 8 (member "_" 2 0 0 ∷ []) ∷ Ptr 3 ∷ Mod volatile 0 ∷ Enum false (ascii "state") 4 (value "x" 1 ∷ [])
    ∷ Composite false (ascii "") 4 (member "x" 6 0 0 ∷ []) ∷ Int (ascii "int") 32 ∷ [])
    (all 93 ∷ [])
    ((0, 59) ∷ [])
    "struct x {\n\tvolatile void *_;\n};\n\nenum state {\n\tx = 1,\n};\n\n"
    ∷ session 8 false  -- 1-1780-1
    (Void ∷ Composite false (ascii "u32") 2147483648 (member "y" 6 0 0 ∷ []) ∷ Array 5 268435457 ∷ Array 11 536870912
    ∷ Composite false (ascii "s") 8 (member "yx" 2 64 0 ∷ []) ∷ Int (ascii "int") 32 ∷ Ptr 7 ∷ Array 11 65535 ∷ Mod const 10 ∷ Typedef (ascii "u32") 3
    ∷ Array 2 1073741823 ∷ Int (ascii "char") 8 ∷ [])
    (one 354 11 ∷ one 35 10 ∷ one 94 9 ∷ one 217 8 ∷ one 30 7 ∷ one 30 6 ∷ one 412 5 ∷ one 200 4 ∷ one 111 3 ∷ one 128 2 ∷ [])
    ((0, 0) ∷ (0, 0) ∷ (0, 30) ∷ (0, 30) ∷ (0, 30) ∷ (0, 30) ∷ (0, 30) ∷ (16, 30) ∷ (11, 30) ∷ (11, 30) ∷ [])
    "typedef char u32[536870912];\n\n"
    ∷ session 8 false  -- 1-1782-0
    (Void ∷ Ptr 6 ∷ Typedef (ascii "s") 14 ∷ Typedef (ascii "ops") 23 ∷ Array 1 6 ∷ FuncProto 8 (param "s" 18 ∷ param "" 0 ∷ param "" 0 ∷ [])
    ∷ Array 15 2 ∷ Int (ascii "int") 32 ∷ Enum false (ascii "") 4 (value "s" 1 ∷ []) ∷ Ptr 16 ∷ Mod volatile 8
    ∷ TypeTag true (ascii "\u{7f}\u{b}'%s") 17 ∷ TypeTag true (ascii "x") 9 ∷ Mod const 12 ∷ FuncProto 13 (param "" 0 ∷ param "" 0 ∷ param "" 7 ∷ [])
    ∷ Ptr 2 ∷ Ptr 5 ∷ Ptr 4 ∷ Composite true (ascii "T") 4 (member "ops" 7 0 0 ∷ []) ∷ Typedef (ascii "s") 20 ∷ FuncProto 0 (param "" 22 ∷ [])
    ∷ Ptr 10 ∷ FuncProto 21 (param "" 18 ∷ []) ∷ Ptr 11 ∷ [])
    (all 257 ∷ [])
    ((0, 257) ∷ [])
    "struct T;\n\ntypedef enum {\n\ts___2 = 1,\n} (**const  __attribute__((x)) s(void, void, int))(struct T s, void, ...);\n\ntypedef s *(*(* __attribute__((\u{7f}\u{b}'%s)) *ops)[6])[2];\n\nstruct T {\n\tint ops;\n};\n\ntypedef void s___3(volatile enum {\n\ts___4 = 1,\n} *(struct T));\n\n"
    ∷ session 4 false  -- 1-1812-0
    (Void ∷ Int (ascii "x") 32 ∷ Typedef (ascii "") 1 ∷ Ptr 5 ∷ Ptr 0 ∷ Mod restrict 1 ∷ Fwd false (ascii "x") ∷ FuncProto 5 [] ∷ Ptr 2
    ∷ Typedef (ascii "y") 11 ∷ Ptr 3 ∷ Typedef (ascii "x") 0 ∷ Fwd true (ascii "y") ∷ [])
    (all 281 ∷ [])
    ((14, 0) ∷ [])
    ""
    ∷ session 8 false  -- 1-1830-0
    (Void ∷ Fwd false (ascii "y") ∷ Typedef (ascii "x") 1 ∷ Enum false (ascii "x") 4 (value "x" 10 ∷ [])
    ∷ Composite true (ascii "x") 276 (member "y" 22 0 0 ∷ member "x" 10 128 0 ∷ member "y" 11 448 0 ∷ member "x" 8 768 0 ∷ member "y" 6 1728 0 ∷ member "y" 13 1760 0 ∷ member "x" 14 1824 0 ∷ member "x" 6 1856 0 ∷ member "y" 10 1888 0 ∷ [])
    ∷ DeclTag false (ascii "m\"\\\n\t\r\u{1}") 4 4294967295 ∷ Ptr 9 ∷ Array 15 16 ∷ Array 10 3 ∷ Typedef (ascii "") 13
    ∷ Composite true (ascii "") 40 (member "" 11 0 0 ∷ [])
    ∷ Composite true (ascii "y") 40 (member "y" 13 58 0 ∷ member "x" 14 252 0 ∷ member "y" 16 94 0 ∷ member "x" 6 231 0 ∷ member "x" 18 138 0 ∷ member "x" 12 134 0 ∷ [])
    ∷ Composite true (ascii "y") 8 (member "x" 13 0 0 ∷ []) ∷ Enum true (ascii "x") 8 (value "y" 2609734428 ∷ value "y" 99 ∷ [])
    ∷ Typedef (ascii "y") 16 ∷ TypeTag false (ascii "m\"\\\n\t\r\u{1}") 19 ∷ Ptr 19 ∷ Mod const 21 ∷ Ptr 21 ∷ Array 21 1 ∷ Typedef (ascii "y") 21
    ∷ Typedef (ascii "x") 0 ∷ Composite false (ascii "") 16 (member "y" 16 0 0 ∷ member "x" 14 0 0 ∷ member "x" 18 0 0 ∷ member "" 9 64 0 ∷ []) ∷ [])
    (all 202 ∷ [])
    ((14, 58) ∷ [])
    "struct y;\n\ntypedef struct y x;\n\nenum x {\n\tx___2 = 10,\n};\n\n"
    ∷ session 4 true  -- 1-1831-1
    (Void ∷ Typedef (ascii "y") 5 ∷ Composite true (ascii "prey") 16 (member "ops" 6 0 0 ∷ member "len" 4 64 0 ∷ [])
    ∷ Composite true (ascii "x") 8 (member "b" 4 0 0 ∷ []) ∷ Ptr 5 ∷ Typedef (ascii "") 6 ∷ Int (ascii "int") 32 ∷ [])
    (one 183 0 ∷ one 51264 1 ∷ one 7 2 ∷ one 0 3 ∷ [])
    ((0, 0) ∷ (14, 0) ∷ (11, 0) ∷ (11, 0) ∷ [])
    ""
    ∷ session 8 true  -- 1-1839-0
    (Void ∷ Int (ascii "int") 32 ∷ Composite false (ascii "") 4 (member "priv" 1 0 0 ∷ []) ∷ Enum false (ascii "") 4 (value "priv" 1 ∷ []) ∷ Ptr 2
    ∷ Array 4 4 ∷ Ptr 5 ∷ FuncProto 6 (param "" 2 ∷ []) ∷ Ptr 7 ∷ Mod const 8 ∷ Typedef (ascii "priv") 9 ∷ Mod const 2 ∷ Mod const 11
    ∷ FuncProto 0 (param "_" 12 ∷ []) ∷ Typedef (ascii "priv") 13 ∷ Array 10 6 ∷ Array 15 1 ∷ Ptr 16
    ∷ Composite true (ascii "len") 8 (member "_" 17 0 0 ∷ []) ∷ [])
    (all 204 ∷ [])
    ((0, 204) ∷ [])
    "typedef struct /*union*/ {\n\tint priv;\n} *(* (* const priv)(struct /*union*/ {\n\tint priv;\n}))[4];\n\ntypedef void priv___2(const const struct /*union*/ {\n\tint priv;\n} _);\n\nstruct len {\n\tpriv (*_)[1][6];\n};\n\n"
    ∷ session 4 true  -- 1-1848-0
    (Void ∷ Composite true (ascii "__x") 40 (member "next" 4 256 0 ∷ member "_" 3 297 3 ∷ []) ∷ Int (ascii "i128") 128 ∷ Int (ascii "long") 64
    ∷ Int (ascii "int") 32 ∷ Int (ascii "short") 16 ∷ Int (ascii "char") 8 ∷ [])
    (all 372 ∷ [])
    ((0, 131) ∷ [])
    "struct __x {\n\tint: 32;\n\tint: 32;\n\tint: 32;\n\tint: 32;\n\tint: 32;\n\tint: 32;\n\tint: 32;\n\tint: 32;\n\tint next;\n\tshort: 9;\n\tlong _: 3;\n};\n\n"
    ∷ session 8 true  -- 1-1869-0
    (Void ∷ Int (ascii "cha") 8 ∷ Int (ascii "int") 32 ∷ Array 2 2 ∷ Array 3 4294967295 ∷ Composite false (ascii "ops") 8 (member "__x" 4 0 0 ∷ [])
    ∷ Composite true (ascii "T") 8 (member "flags" 5 4096 0 ∷ member "y" 5 8 0 ∷ [])
    ∷ Composite true (ascii "x") 8 (member "y" 2 8 0 ∷ member "x___3" 3 8 0 ∷ []) ∷ Composite true (ascii "T") 8 (member "list_head" 5 4096 0 ∷ [])
    ∷ [])
    (all 207 ∷ [])
    ((16, 0) ∷ [])
    ""
    ∷ session 8 true  -- 1-1907-2
    (Void ∷ Composite true (ascii "E") 8 (member "E" 4 8 0 ∷ member "y" 3 0 0 ∷ member "list_head" 6 0 0 ∷ [])
    ∷ Composite false (ascii "") 2147483648 (member "y" 4 0 0 ∷ []) ∷ Array 8 65536 ∷ Array 8 4294967295 ∷ Array 6 65535 ∷ Mod const 7
    ∷ Array 8 1073741824 ∷ Int (ascii "int") 32 ∷ Int (ascii "char") 8 ∷ [])
    (one 117 9 ∷ one 0 7 ∷ one 0 2 ∷ one 247 0 ∷ one 0 6 ∷ one 0 2 ∷ one 0 4294967295 ∷ all 168 ∷ [])
    ((0, 0) ∷ (0, 0) ∷ (0, 0) ∷ (0, 0) ∷ (0, 0) ∷ (0, 0) ∷ (10, 0) ∷ (16, 0) ∷ [])
    ""
    ∷ session 8 false  -- 1-1917-0
    (Void ∷ Int (ascii "a") 32 ∷ Array 1 16
    ∷ Composite true (ascii "T") 72 (member "state" 1 0 0 ∷ member "__builtin_va_lis" 5 64 0 ∷ member "pre_" 5 130 0 ∷ member "s" 9 256 0 ∷ member "a" 15 512 0 ∷ [])
    ∷ Composite true (ascii "buf") 96 (member "" 3 0 0 ∷ member "__builtin_va_lis" 13 576 0 ∷ member "prea" 13 704 0 ∷ []) ∷ Ptr 4 ∷ Array 5 4
    ∷ Mod volatile 4 ∷ Array 14 100 ∷ Typedef (ascii "_") 6 ∷ FuncProto 6 (param "b" 7 ∷ param "b" 0 ∷ []) ∷ Int (ascii "priv") 32 ∷ Array 2 16
    ∷ Ptr 1 ∷ Composite true (ascii "yx") 64 (member "_" 2 0 0 ∷ [])
    ∷ Enum true (ascii "b") 2 (value "ops" 100 ∷ value "__builtin_va_lis" 342624949 ∷ value "state" 1000000000 ∷ []) ∷ Ptr 1 ∷ [])
    (all 351 ∷ [])
    ((0, 351) ∷ [])
    "struct buf;\n\ntypedef struct buf *_[4];\n\nenum b {\n\tops = 100,\n\t__builtin_va_lis = 342624949,\n\tstate = 1000000000,\n};\n\nstruct T {\n\ta state;\n\tint: 32;\n\tstruct buf *__builtin_va_lis;\n\tstruct buf *pre_;\n\tlong: 62;\n\t_ s;\n\tenum b a;\n} __attribute__((packed));\n\nstruct buf {\n\tstruct T;\n\ta *__builtin_va_lis;\n\tlong: 64;\n\ta *prea;\n};\n\nstruct yx {\n\ta _[16];\n};\n\n"
    ∷ session 8 false  -- 1-1947-0
    (Void ∷ Int (ascii "int") 32 ∷ Composite false (ascii "ops") 4 (member "x" 1 0 0 ∷ []) ∷ Enum false (ascii "_") 4 (value "Ax" 1 ∷ [])
    ∷ Mod volatile 1 ∷ Array 4 5 ∷ Mod const 5 ∷ Mod const 6 ∷ FuncProto 7 (param "" 1 ∷ []) ∷ Mod const 8 ∷ Ptr 9 ∷ Mod restrict 10 ∷ Array 11 4
    ∷ Ptr 12 ∷ Typedef (ascii "y") 13 ∷ Ptr 1 ∷ Mod volatile 15 ∷ FuncProto 16 (param "" 0 ∷ []) ∷ FuncProto 17 (param "" 3 ∷ []) ∷ Ptr 18
    ∷ FuncProto 0 (param "" 19 ∷ []) ∷ Typedef (ascii "prea") 20 ∷ [])
    (all 342 ∷ [])
    ((0, 160) ∷ [])
    "union ops {\n\tint x;\n};\n\nenum _ {\n\tAx = 1,\n};\n\ntypedef volatile int (const  (* restrict (*y)[4])(int))[5];\n\ntypedef void prea(int * volatile ( (*)(enum _))());\n\n"
    ∷ session 8 true  -- 1-1951-1
    (Void ∷ Typedef (ascii "") 0
    ∷ Composite true (ascii "yx") 192 (member "x" 6 0 0 ∷ member "x___2" 7 131 0 ∷ member "" 6 576 0 ∷ member "flags" 7 768 0 ∷ member "x" 7 1152 0 ∷ [])
    ∷ Array 9 16 ∷ Composite true (ascii "") 48 (member "buf" 6 5 0 ∷ member "yx" 6 199 0 ∷ []) ∷ Array 3 3 ∷ Int (ascii "flags") 128 ∷ Mod const 4
    ∷ Mod const 3 ∷ Composite true (ascii "buf") 304 (member "yx" 7 0 0 ∷ member "" 2 384 0 ∷ member "x" 4 2032 0 ∷ [])
    ∷ Composite false (ascii "yx") 14592 (member "yx" 7 0 0 ∷ member "x" 7 0 0 ∷ member "yx" 3 0 0 ∷ member "y" 4 0 0 ∷ member "" 5 0 0 ∷ [])
    ∷ Mod const 2 ∷ [])
    (one 370 2 ∷ one 642 3 ∷ one 844 8 ∷ one 692 6 ∷ one 883 11 ∷ one 628 1 ∷ one 628 0 ∷ one 984 4 ∷ [])
    ((0, 370) ∷ (0, 628) ∷ (0, 628) ∷ (0, 628) ∷ (0, 628) ∷ (14, 628) ∷ (11, 628) ∷ (11, 628) ∷ [])
    "struct yx {\n\tflags x;\n\tconst struct {\n\t\tflags buf;\n\t\tlong: 2;\n\t\tlong: 64;\n\t\tflags yx;\n\t} __attribute__((packed)) x___2;\n\tlong: 61;\n\tflags;\n\tlong: 64;\n\tconst struct {\n\t\tflags buf;\n\t\tlong: 2;\n\t\tlong: 64;\n\t\tflags yx;\n\t} __attribute__((packed)) flags;\n\tconst struct {\n\t\tflags buf;\n\t\tlong: 2;\n\t\tlong: 64;\n\t\tflags yx;\n\t} __attribute__((packed)) x;\n} __attribute__((packed));\n\nstruct buf {\n\tconst struct {\n\t\tflags buf;\n\t\tlong: 2;\n\t\tlong: 64;\n\t\tflags yx;\n\t} __attribute__((packed)) yx;\n\tstruct yx;\n\tlong: 48;\n\tlong: 64;\n\tstruct {\n\t\tflags buf;\n\t\tlong: 2;\n\t\tlong: 64;\n\t\tflags yx;\n\t} __attribute__((packed)) x;\n} __attribute__((packed));\n\n"
    ∷ session 4 true  -- 1-1974-0
    (Void ∷ Int (ascii "int") 32 ∷ Typedef (ascii "") 6 ∷ Ptr 2 ∷ Composite true (ascii "y") 8 (member "x" 3 0 0 ∷ [])
    ∷ Composite true (ascii "x") 8 (member "" 1 0 0 ∷ []) ∷ FuncProto 0 (param "" 4 ∷ param "" 4 ∷ []) ∷ [])
    (all 305 ∷ [])
    ((14, 0) ∷ [])
    ""
    ∷ session 4 true  -- 1-1991-2
    (Void ∷ Int (ascii "int") 32 ∷ Composite false (ascii "s") 4 (member "y" 1 0 0 ∷ []) ∷ Enum false (ascii "s") 4 (value "x" 1 ∷ []) ∷ Ptr 2 ∷ Ptr 4
    ∷ Array 5 1 ∷ FuncProto 6 (param "E" 0 ∷ []) ∷ Typedef (ascii "u32") 7 ∷ Mod const 1 ∷ Ptr 9 ∷ Mod volatile 10 ∷ Ptr 11
    ∷ FuncProto 0 (param "E" 12 ∷ []) ∷ Typedef (ascii "s") 13 ∷ [])
    (all 404 ∷ one 486 11 ∷ one 384 9 ∷ one 142 0 ∷ one 508 4 ∷ [])
    ((0, 142) ∷ (0, 142) ∷ (0, 142) ∷ (0, 142) ∷ (0, 142) ∷ [])
    "struct /*union*/ s {\n\tint y;\n};\n\nenum s___2 {\n\tx = 1,\n};\n\ntypedef struct /*union*/ s **(u32())[1];\n\ntypedef void s(const int * volatile *E);\n\n"
    ∷ session 4 true  -- 1-1992-0
    (Void ∷ Typedef (ascii "y") 11 ∷ Enum false (ascii "len") 4 (value "next" 1 ∷ []) ∷ Composite true (ascii "yx") 4 (member "x" 4 0 0 ∷ [])
    ∷ Int (ascii "int") 32 ∷ Array 3 8 ∷ FuncProto 0 (param "" 10 ∷ []) ∷ Typedef (ascii "yx") 6 ∷ Array 2 7 ∷ Array 12 3
    ∷ TypeTag true (ascii "aligned(4)") 8 ∷ FuncProto 0 (param "" 9 ∷ []) ∷ Array 5 7 ∷ [])
    (all 148 ∷ [])
    ((0, 148) ∷ [])
    "struct yx {\n\tint x;\n};\n\ntypedef void y(struct yx[3][7][8]);\n\nenum len {\n\tnext = 1,\n};\n\ntypedef void yx(enum len( __attribute__((aligned(4))))[7]);\n\n"
    ∷ session 8 false  -- 1-2040-0
    (Void
    ∷ Enum64 true (ascii "priv") 8 (value "s" 9223372036854775808 ∷ value "s" 429496729699 ∷ value "flags" 12267463503412985857 ∷ value "y" 4294967291705032704 ∷ value "ops" 5294967295 ∷ [])
    ∷ Fwd true (ascii "flags") ∷ DeclTag false (ascii "a b") 9 2 ∷ Typedef (ascii "x___3") 1 ∷ Ptr 2 ∷ DeclTag true (ascii "a b") 9 4294967295
    ∷ DeclTag false (ascii "x") 9 4294967295 ∷ Composite true (ascii "flags") 4 (member "state" 5 0 16 ∷ [])
    ∷ Composite false (ascii "y") 8 (member "flags" 5 0 0 ∷ member "state" 1 0 16 ∷ member "y" 4 0 32 ∷ member "data" 8 0 0 ∷ member "" 8 0 33 ∷ [])
    ∷ Func (ascii "s") ∷ [])
    (all 772 ∷ [])
    ((0, 481) ∷ [])
    "enum priv {\n\ts = (-9223372036854775807LL - 1),\n\ts___2 = 429496729699LL,\n\tflags = -6179280570296565759LL,\n\ty = 4294967291705032704LL,\n\tops = 5294967295LL,\n};\n\nunion flags;\n\ntypedef enum priv x___3;\n\nstruct flags___2 {\n\tunion flags *state: 16;\n} __attribute__((packed));\n\nunion y {\n\tunion flags *flags;\n\tenum priv state: 16;\n\tx___3 y: 32 __attribute__((btf_decl_tag(\"a b\")));\n\tstruct flags___2 data;\n\tstruct flags___2: 33;\n} __attribute__((a b)) __attribute__((btf_decl_tag(\"x\")));\n\n"
    ∷ session 4 false  -- 1-2065-1
    (Void ∷ Composite true (ascii "ops") 8 (member "x___3" 5 0 0 ∷ []) ∷ Composite false (ascii "x") 536870912 (member "x___3" 3 0 0 ∷ [])
    ∷ Array 6 4294967295 ∷ Array 6 4294967295 ∷ Int (ascii "int") 32 ∷ Int (ascii "char") 8 ∷ [])
    (one 0 6 ∷ one 41 5 ∷ one 0 4 ∷ one 363 3 ∷ one 254 2 ∷ one 129 1 ∷ one 251 0 ∷ [])
    ((0, 0) ∷ (0, 0) ∷ (0, 0) ∷ (0, 0) ∷ (16, 0) ∷ (11, 0) ∷ (11, 0) ∷ [])
    ""
    ∷ session 8 false  -- 1-2123-2
    (Void ∷ Int (ascii "int") 32 ∷ Composite true (ascii "") 4 (member "node" 1 0 0 ∷ []) ∷ Ptr 0 ∷ Enum false (ascii "T") 4 (value "prex" 1 ∷ [])
    ∷ FuncProto 0 (param "" 3 ∷ []) ∷ Typedef (ascii "b") 5 ∷ Array 0 3 ∷ FuncProto 7 (param "" 0 ∷ []) ∷ FuncProto 0 (param "" 8 ∷ [])
    ∷ Typedef (ascii "preu32") 9 ∷ Ptr 0 ∷ Composite true (ascii "y") 8 (member "b" 11 0 0 ∷ []) ∷ [])
    (one 0 14 ∷ one 354 10 ∷ one 403 11 ∷ one 35 14 ∷ one 121 6 ∷ one 371 6 ∷ one 225 13 ∷ [])
    ((10, 0) ∷ (0, 35) ∷ (0, 35) ∷ (10, 35) ∷ (0, 60) ∷ (0, 60) ∷ (10, 60) ∷ [])
    "typedef void preu32(void(())[3]);\n\ntypedef void b(void *);\n\n"
    ∷ session 4 false  -- 1-2153-2
    (Void ∷ Array 6 3 ∷ Composite true (ascii "") 1 (member "y" 3 2 0 ∷ []) ∷ Array 5 16
    ∷ Composite true (ascii "y") 12 (member "E" 7 0 0 ∷ member "" 5 32 0 ∷ member "" 2 32 0 ∷ member "__builtin_va_list" 7 64 0 ∷ [])
    ∷ Composite true (ascii "") 0 []
    ∷ Composite true (ascii "y") 14 (member "" 4 130 0 ∷ member "x" 7 72 0 ∷ member "" 5 138 0 ∷ member "" 4 253 0 ∷ member "" 2 249 0 ∷ member "x" 7 204 0 ∷ [])
    ∷ Ptr 3 ∷ [])
    (one 0 0 ∷ one 378 4 ∷ one 183 7 ∷ one 225 7 ∷ [])
    ((0, 0) ∷ (0, 147) ∷ (0, 147) ∷ (0, 147) ∷ [])
    "struct y {\n\tstruct {\t} (*E)[16];\n\tstruct {\t};\n\tstruct {\n\t\tstruct {\t\t} y[16];\n\t} __attribute__((packed));\n\tstruct {\t} (*__builtin_va_list)[16];\n};\n\n"
    ∷ session 8 true  -- 1-2159-2
    (Void ∷ Int (ascii "b") 32 ∷ Composite true (ascii "b") 27 (member "x" 5 0 32 ∷ member "y" 1 32 2 ∷ member "x" 7 34 3 ∷ [])
    ∷ Composite true (ascii "x") 56 (member "b" 2 212 0 ∷ [])
    ∷ Composite true (ascii "y") 684 (member "x" 1 91 0 ∷ member "" 2 368 0 ∷ member "b" 7 694 0 ∷ member "y" 5 2876 0 ∷ member "x" 7 3424 0 ∷ [])
    ∷ Array 1 16 ∷ FuncProto 9 (param "" 2 ∷ param "y" 11 ∷ param "" 5 ∷ param "y" 5 ∷ param "y" 4 ∷ []) ∷ Array 5 4 ∷ Array 11 100
    ∷ Composite true (ascii "") 144 (member "b" 3 0 0 ∷ member "x" 1 448 0 ∷ member "x" 2 480 0 ∷ member "" 3 704 0 ∷ []) ∷ Mod const 8
    ∷ Composite true (ascii "x") 288 (member "b" 7 243 0 ∷ member "b" 7 38 0 ∷ []) ∷ Composite false (ascii "y") 8 (member "" 2 0 33 ∷ []) ∷ [])
    (one 326 12 ∷ one 470 5 ∷ [])
    ((0, 118) ∷ (0, 118) ∷ [])
    "struct b {\n\tb x[16]: 32;\n\tb y: 2;\n\tb x[4][16]: 3;\n} __attribute__((packed));\n\nstruct /*union*/ y {\n\tstruct b: 33;\n};\n\n"
    ∷ session 4 true  -- 1-2225-2
    (Void ∷ Composite true (ascii "") 2147483648 (member "predata" 5 0 0 ∷ []) ∷ Array 4 4294967295 ∷ Int (ascii "int") 32 ∷ Int (ascii "char") 8
    ∷ Array 4 268435456 ∷ Mod const 8 ∷ Composite false (ascii "data") 8 (member "__x" 2 0 0 ∷ member "y" 3 0 0 ∷ member "data" 5 8 0 ∷ [])
    ∷ Array 4 4294967295 ∷ [])
    (one 55 7 ∷ one 30 8 ∷ one 12 7 ∷ [])
    ((16, 0) ∷ (11, 0) ∷ (11, 0) ∷ [])
    ""
    ∷ session 8 false  -- 1-2230-1
    (Void ∷ Typedef (ascii "buf") 3 ∷ Typedef (ascii "ops") 4 ∷ FuncProto 5 (param "buf" 0 ∷ param "" 4 ∷ param "preops" 5 ∷ []) ∷ Mod restrict 5
    ∷ Array 6 100 ∷ Int (ascii "Ax") 1 ∷ [])
    (one 60 6 ∷ one 101 5 ∷ one 30 4 ∷ one 212 3 ∷ one 107 2 ∷ one 81 1 ∷ one 254 0 ∷ [])
    ((0, 0) ∷ (0, 0) ∷ (0, 0) ∷ (0, 0) ∷ (0, 22) ∷ (0, 81) ∷ (0, 81) ∷ [])
    "typedef Ax ops[100];\n\ntypedef Ax (buf(void buf, Ax[100], Ax preops[100]))[100];\n\n"
    ∷ session 4 true  -- 1-2232-0
    (Void ∷ TypeTag false (ascii "") 7 ∷ Mod restrict 0
    ∷ Composite false (ascii "") 56 (member "x" 8 0 0 ∷ member "y" 9 0 0 ∷ member "u32" 1 0 0 ∷ member "y" 8 0 0 ∷ member "" 7 0 0 ∷ member "u32" 5 0 0 ∷ member "y" 5 0 0 ∷ member "u32" 2 0 0 ∷ member "" 6 0 0 ∷ member "y" 9 0 0 ∷ member "y" 8 0 0 ∷ member "y" 7 0 0 ∷ member "x" 5 0 0 ∷ member "x" 2 0 0 ∷ member "" 9 0 0 ∷ member "" 9 0 0 ∷ member "" 9 0 0 ∷ member "" 1 0 0 ∷ member "" 9 0 0 ∷ member "x" 2 0 0 ∷ member "x" 1 0 0 ∷ member "u32" 6 0 0 ∷ member "" 9 0 0 ∷ member "x" 7 0 0 ∷ [])
    ∷ Fwd false (ascii "x") ∷ Float (ascii "x") 8 ∷ Composite true (ascii "y") 8 (member "u32" 2 0 0 ∷ []) ∷ Ptr 0 ∷ Float (ascii "y") 16
    ∷ Composite true (ascii "x") 56 (member "x" 8 0 0 ∷ member "x" 8 128 0 ∷ member "u32" 7 256 0 ∷ member "x" 8 320 0 ∷ []) ∷ [])
    (all 55 ∷ [])
    ((15, 0) ∷ [])
    ""
    ∷ session 4 true  -- 1-2256-0
    (Void ∷ Int (ascii "x") 16 ∷ FuncProto 1 [] ∷ Array 0 4 ∷ Ptr 0 ∷ Fwd false (ascii "x") ∷ Typedef (ascii "a__builtin_va_list___2") 2
    ∷ Typedef (ascii "y") 3 ∷ FuncProto 5 (param "" 4 ∷ []) ∷ DeclTag false (ascii "x") 6 4294967295 ∷ Array 0 16
    ∷ Composite true (ascii "x") 8 (member "a__builtin_va_list___2" 13 0 8 ∷ member "y" 12 8 2 ∷ member "x" 1 27 0 ∷ []) ∷ Ptr 0 ∷ Ptr 10 ∷ Ptr 0 ∷ [])
    (all 151 ∷ [])
    ((0, 143) ∷ [])
    "struct x;\n\ntypedef void y[4];\n\nstruct x___2 {\n\tvoid (*a__builtin_va_list___2)[16]: 8;\n\tvoid *y: 2;\n\tint: 17;\n\tx x;\n} __attribute__((packed));\n\n"
    ∷ session 8 false  -- 1-2276-2
    (Void ∷ Composite true (ascii "node") 44 (member "T" 5 115 0 ∷ member "u32" 2 304 0 ∷ [])
    ∷ Enum false (ascii "") 4 (value "u32" 1 ∷ value "x" 2147483647 ∷ []) ∷ Array 4 3 ∷ Composite false (ascii "x") 0 (member "x___3" 5 0 0 ∷ [])
    ∷ Fwd false (ascii "node") ∷ Array 5 0 ∷ [])
    (one 31196 7 ∷ one 308 3 ∷ one 263 5 ∷ one 48 8 ∷ one 48 4 ∷ one 392 1 ∷ one 156 3 ∷ one 48 2 ∷ [])
    ((10, 0) ∷ (0, 48) ∷ (0, 48) ∷ (10, 48) ∷ (0, 48) ∷ (15, 48) ∷ (11, 48) ∷ (11, 48) ∷ [])
    "struct node;\n\nunion x {\n\tstruct node x___3;\n};\n\n"
    ∷ session 4 true  -- 1-2316-0
    (Void ∷ Int (ascii "yx") 255
    ∷ Composite true (ascii "x") 280 (member "yx" 1 0 0 ∷ member "y" 1 256 0 ∷ member "x" 1 808 0 ∷ member "" 1 1151 0 ∷ member "y" 1 1408 0 ∷ member "" 1 1664 0 ∷ member "y" 1 1925 0 ∷ [])
    ∷ DeclTag false (ascii "m\"\\\n\t\r\u{1}") 4 0 ∷ Composite true (ascii "y") 4 (member "y" 1 0 1 ∷ []) ∷ [])
    (all 285 ∷ [])
    ((0, 285) ∷ [])
    "struct x {\n\tyx yx;\n\tyx y;\n\tint: 8;\n\tint: 32;\n\tint: 32;\n\tint: 32;\n\tint: 32;\n\tint: 32;\n\tint: 32;\n\tint: 32;\n\tint: 32;\n\tint: 32;\n\tyx x;\n\tint: 23;\n\tint: 32;\n\tint: 32;\n\tyx;\n\tyx y;\n\tyx;\n\tyx y;\n} __attribute__((packed));\n\nstruct y {\n\tyx y: 1 __attribute__((btf_decl_tag(\"m\\\"\\\\\\n\\t\\r\u{1}\")));\n};\n\n"
    ∷ session 8 true  -- 1-2325-0
    (Void ∷ Int (ascii "int") 32 ∷ Composite true (ascii "priv") 4 (member "prepriv" 1 0 0 ∷ []) ∷ Enum false (ascii "") 4 (value "flags" 1 ∷ [])
    ∷ Ptr 0 ∷ Mod volatile 4 ∷ Composite true (ascii "priv") 8 (member "" 5 0 0 ∷ []) ∷ Mod volatile 3 ∷ Mod volatile 7 ∷ Ptr 8 ∷ Ptr 9 ∷ Ptr 10
    ∷ Typedef (ascii "priv") 11 ∷ Array 8 8 ∷ TypeTag true (ascii "packed") 13 ∷ Composite true (ascii "a") 32 (member "buf" 14 0 0 ∷ []) ∷ [])
    (all 222 ∷ [])
    ((17, 129) ∷ [])
    "struct priv {\n\tint prepriv;\n};\n\nstruct priv___2 {\n\tvoid * volatile;\n};\n\ntypedef volatile volatile enum {\n\tflags = 1,\n} ***priv;\n\n"
    ∷ session 4 false  -- 1-2352-0
    (Void ∷ Typedef (ascii "x___2") 2 ∷ Ptr 3 ∷ FuncProto 4 (param "" 0 ∷ []) ∷ Mod volatile 5 ∷ Mod volatile 6 ∷ FuncProto 7 (param "" 0 ∷ [])
    ∷ Mod const 8 ∷ Ptr 9 ∷ Ptr 10 ∷ FuncProto 11 (param "x" 0 ∷ param "prex___2" 14 ∷ param "prex___2" 0 ∷ [])
    ∷ FuncProto 0 (param "" 0 ∷ param "" 0 ∷ param "" 14 ∷ []) ∷ Enum false (ascii "state") 4 (value "state" 1 ∷ [])
    ∷ Composite false (ascii "") 4 (member "y" 14 0 0 ∷ []) ∷ Int (ascii "int") 32 ∷ [])
    (all 136 ∷ [])
    ((0, 136) ∷ [])
    "typedef void ( (** constvolatile volatile  ( (*x___2)())())(void x, int prex___2, ...))(void, void, int);\n\nenum state {\n\tstate = 1,\n};\n\n"
    ∷ session 4 false  -- 1-2370-0
    (Void ∷ DeclTag false (ascii "packed") 15 0 ∷ Array 11 2 ∷ DeclTag false (ascii "a b") 9 0
    ∷ Enum false (ascii "next") 8 (value "node" 1000000000 ∷ value "u32" 3248698470 ∷ []) ∷ Typedef (ascii "x___3") 8 ∷ Int (ascii "Ax") 64
    ∷ Composite true (ascii "") 8 (member "data" 9 0 0 ∷ []) ∷ FuncProto 11 (param "_" 0 ∷ []) ∷ Typedef (ascii "state") 11
    ∷ DeclTag true (ascii "a b") 5 4294967295 ∷ Typedef (ascii "T") 6 ∷ Array 11 3 ∷ Composite true (ascii "y") 32 (member "priv" 12 8 0 ∷ [])
    ∷ Enum false (ascii "flags") 1 (value "E" 10 ∷ value "x___2" 99 ∷ value "flags" 4294967295 ∷ [])
    ∷ Composite false (ascii "x") 24 (member "u32" 12 0 0 ∷ member "" 9 0 0 ∷ []) ∷ [])
    (all 357 ∷ [])
    ((0, 323) ∷ [])
    "typedef Ax T;\n\nenum next {\n\tnode = 1000000000,\n\tu32 = 3248698470,\n};\n\ntypedef T x___3() __attribute__((a b));\n\ntypedef T state;\n\nstruct y {\n\tchar: 8;\n\tT priv[3];\n} __attribute__((packed));\n\nenum flags {\n\tE = 10,\n\tx___2 = 99,\n\tflags = 4294967295,\n};\n\nunion x {\n\tT u32[3] __attribute__((btf_decl_tag(\"packed\")));\n\tstate;\n};\n\n"
    ∷ session 8 false  -- 1-2376-0
    (Void ∷ Int (ascii "char") 8 ∷ Int (ascii "int") 32 ∷ Array 2 1073741823 ∷ Ptr 3 ∷ Array 4 268435456 ∷ Mod const 5
    ∷ Composite true (ascii "") 2147483648 (member "yx" 6 0 0 ∷ []) ∷ Composite false (ascii "preyx") 8 (member "ops" 4 0 0 ∷ []) ∷ [])
    (all 43 ∷ [])
    ((0, 43) ∷ [])
    "union preyx {\n\tint (*ops)[1073741823];\n};\n\n"
    ∷ session 8 false  -- 1-2384-2
    (Void ∷ Composite true (ascii "Ax") 8 (member "state" 6 0 0 ∷ member "x___2" 4 8 0 ∷ [])
    ∷ Composite false (ascii "state") 8 (member "x___2" 6 64 0 ∷ member "b" 7 0 0 ∷ member "Ax" 7 8 0 ∷ []) ∷ Array 4 65535 ∷ Int (ascii "char") 8
    ∷ Composite true (ascii "priv") 8 (member "b" 6 64 0 ∷ member "x" 4 8 0 ∷ member "data" 4 0 0 ∷ []) ∷ Int (ascii "int") 32
    ∷ Composite false (ascii "priv") 4 (member "x___2" 3 0 0 ∷ []) ∷ [])
    (one 98233 7 ∷ one 37 0 ∷ one 109 2 ∷ one 109 2 ∷ [])
    ((0, 37) ∷ (0, 37) ∷ (0, 109) ∷ (0, 109) ∷ [])
    "union priv {\n\tchar x___2[65535];\n};\n\nunion state {\n\tlong: 64;\n\tint x___2;\n\tunion priv b;\n\tunion priv Ax;\n};\n\n"
    ∷ session 4 false  -- 1-2398-1
    (Void ∷ Composite false (ascii "") 33 [] ∷ Typedef (ascii "m\"\\\n\t\r\u{1}") 1 ∷ [])
    (one 54 0 ∷ one 34 2 ∷ one 27 1 ∷ all 45524 ∷ [])
    ((0, 0) ∷ (0, 27) ∷ (0, 27) ∷ (0, 27) ∷ [])
    "typedef union {} m\"\\\n\t\r\u{1};\n\n"
    ∷ session 8 true  -- 1-2511-0
    (Void ∷ FuncProto 6 (param "x" 11 ∷ param "prex" 0 ∷ []) ∷ FuncProto 1 [] ∷ Enum64 false (ascii "") 4 [] ∷ Typedef (ascii "y") 1
    ∷ FuncProto 3 (param "x" 10 ∷ param "x" 1 ∷ param "len" 11 ∷ param "" 2 ∷ param "" 1 ∷ []) ∷ Enum64 true (ascii "E") 4 [] ∷ Typedef (ascii "E") 5
    ∷ Ptr 6 ∷ Ptr 5 ∷ Enum64 false (ascii "") 8 (value "x" 14713013242626029617 ∷ value "E" 9223372036854775809 ∷ [])
    ∷ Composite true (ascii "y") 6 (member "next" 10 81 0 ∷ member "x" 10 121 0 ∷ [])
    ∷ FuncProto 11 (param "abcdefghijklmnopqrstuvwxyzabcdefghijklmnopqrstuvwxyzabcdefghijklmnopqrstuvwxyzabcdefghijklmnopqrstuvwxyzabc" 2 ∷ []) ∷ [])
    (all 494 ∷ [])
    ((0, 463) ∷ [])
    "enum E;\n\nstruct y {\n\tlong: 17;\n\tlong: 64;\n\tenum {\n\t\tx = 14713013242626029617ULL,\n\t\tE = 9223372036854775809ULL,\n\t} next;\n\tenum {\n\t\tx___2 = 14713013242626029617ULL,\n\t\tE___2 = 9223372036854775809ULL,\n\t} x;\n} __attribute__((packed));\n\ntypedef enum E y(struct y x, ...);\n\ntypedef enum E___3(enum {\n\tx___3 = 14713013242626029617ULL,\n\tE___4 = 9223372036854775809ULL,\n} x, enum E x(struct y x, ...), struct y len, enum E (())(struct y x, ...), enum E(struct y x, ...));\n\n"
    ∷ session 8 true  -- 1-2628-0
    (Void ∷ Typedef (ascii "predata") 3 ∷ Mod const 3 ∷ Ptr 4 ∷ Composite true (ascii "") 0 [] ∷ FuncProto 1 (param "__builtin_va_list" 0 ∷ []) ∷ [])
    (all 423 ∷ [])
    ((0, 29) ∷ [])
    "typedef struct {} *predata;\n\n"
    ∷ session 8 false  -- 1-2670-0
    (Void ∷ Int (ascii "char") 8 ∷ Int (ascii "int") 32 ∷ Array 2 1 ∷ Array 3 2147483648 ∷ Typedef (ascii "x___3") 4
    ∷ Composite true (ascii "") 4 (member "prelist_head" 1 0 0 ∷ []) ∷ Composite true (ascii "list_head") 8 (member "Ax" 1 0 0 ∷ [])
    ∷ Composite true (ascii "x") 8 (member "list_head" 6 4096 0 ∷ member "a" 5 64 0 ∷ member "list_head" 5 64 0 ∷ [])
    ∷ Composite true (ascii "u32") 8 (member "list_head" 2 4096 0 ∷ member "a" 5 4096 0 ∷ member "x" 2 4096 0 ∷ []) ∷ [])
    (all 835 ∷ [])
    ((17, 68) ∷ [])
    "typedef int x___3[2147483648][1];\n\nstruct list_head {\n\tchar Ax;\n};\n\n"
    ∷ session 8 false  -- 1-2681-2
    (Void ∷ Int (ascii "int") 32 ∷ Composite false (ascii "E") 4294967295 (member "x___3" 1 0 0 ∷ []) ∷ Array 5 268435457 ∷ Array 3 4294967295
    ∷ Int (ascii "char") 8 ∷ Composite true (ascii "flags") 8 (member "Ax" 3 0 0 ∷ member "y" 4 4096 0 ∷ member "b" 5 4096 0 ∷ []) ∷ [])
    (one 0 1 ∷ one 77 8 ∷ one 31 1 ∷ one 0 4 ∷ one 231 7 ∷ one 436 6 ∷ [])
    ((0, 0) ∷ (10, 0) ∷ (0, 0) ∷ (0, 0) ∷ (10, 0) ∷ (16, 0) ∷ [])
    ""
    ∷ session 8 false  -- 1-2686-1
    (Void ∷ Int (ascii "char") 8 ∷ Int (ascii "int") 32 ∷ Array 2 2 ∷ Array 1 0 ∷ Array 1 2147483648
    ∷ Composite true (ascii "Ax") 4294967295 (member "_" 1 0 0 ∷ []) ∷ Composite false (ascii "s") 8 (member "yx" 6 4096 0 ∷ []) ∷ [])
    (one 28 0 ∷ one 0 1 ∷ one 0 2 ∷ one 0 3 ∷ one 306 4 ∷ one 0 5 ∷ one 185 6 ∷ one 752 7 ∷ [])
    ((0, 0) ∷ (0, 0) ∷ (0, 0) ∷ (0, 0) ∷ (0, 0) ∷ (0, 0) ∷ (0, 25) ∷ (16, 25) ∷ [])
    "struct Ax {\n\tchar _;\n};\n\n"
    ∷ session 8 true  -- 1-2694-0
    (Void ∷ Ptr 10 ∷ FuncProto 9 (param "yx" 12 ∷ param "" 5 ∷ []) ∷ Typedef (ascii "preops") 8 ∷ TypeTag false (ascii "\u{7f}\u{b}'%s") 1
    ∷ Int (ascii "b") 32 ∷ Func (ascii "ops") ∷ FuncProto 5 (param "" 11 ∷ []) ∷ Mod restrict 4 ∷ Mod const 7 ∷ Int (ascii "ops") 24
    ∷ Enum true (ascii "_") 3 (value "flags" 999999999 ∷ value "preops" 99 ∷ [])
    ∷ Composite true (ascii "x") 12 (member "b" 3 0 0 ∷ member "le" 1 32 0 ∷ member "pre\u{1}" 1 64 0 ∷ []) ∷ [])
    (all 590 ∷ [])
    ((0, 198) ∷ [])
    "enum _ {\n\tflags = 999999999,\n\tpreops = 99,\n};\n\ntypedef ops *restrict  __attribute__((btf_type_tag(\"\u{7f}\u{b}'%s\"))) preops___2;\n\nstruct x {\n\tpreops___2 b;\n\tops *le;\n\tops *pre\u{1};\n} __attribute__((packed));\n\n"
    ∷ session 8 false  -- 1-2737-1
    (Void ∷ Datasec (ascii "x") ∷ Array 3 16 ∷ Composite true (ascii "b") 8 (member "prebuf" 8 7 0 ∷ [])
    ∷ Composite true (ascii "data") 128 (member "list_head" 2 0 0 ∷ []) ∷ Typedef (ascii "y") 0 ∷ Composite true (ascii "u32") 0 []
    ∷ Typedef (ascii "buf") 6
    ∷ Enum64 false (ascii "u32") 4 (value "x" 18446744070924009801 ∷ value "x" 9223372036854775808 ∷ value "x___2" 4294967296 ∷ [])
    ∷ Composite true (ascii "data") 8 (member "_" 3 0 0 ∷ member "len" 7 64 0 ∷ member "x" 0 64 0 ∷ member "u32" 7 64 0 ∷ member "len" 7 64 0 ∷ member "list_head" 7 64 0 ∷ member "prebuf" 6 64 0 ∷ [])
    ∷ Array 2 2 ∷ [])
    (one 202 4 ∷ one 251 9 ∷ one 462 0 ∷ one 546 1 ∷ [])
    ((0, 202) ∷ (15, 202) ∷ (11, 202) ∷ (11, 202) ∷ [])
    "enum u32 {\n\tx = 18446744070924009801ULL,\n\tx___2 = 9223372036854775808ULL,\n\tx___2 = 4294967296ULL,\n};\n\nstruct b {\n\tenum u32 prebuf;\n} __attribute__((packed));\n\nstruct data {\n\tstruct b list_head[16];\n};\n\n"
    ∷ session 4 true  -- 1-2740-1
    (Void ∷ Composite false (ascii "b") 8 (member "next" 3 0 0 ∷ member "y" 3 4096 0 ∷ [])
    ∷ Composite true (ascii "x") 8 (member "buf" 4 0 0 ∷ member "T" 6 64 0 ∷ []) ∷ Composite false (ascii "") 536870912 (member "T" 4 0 0 ∷ [])
    ∷ Array 6 1073741823 ∷ Int (ascii "int") 32 ∷ Int (ascii "char") 8 ∷ [])
    (one 323 6 ∷ one 0 5 ∷ one 0 4 ∷ one 83 3 ∷ one 168 2 ∷ one 184 1 ∷ one 77 0 ∷ [])
    ((0, 0) ∷ (0, 0) ∷ (0, 0) ∷ (0, 0) ∷ (16, 0) ∷ (11, 0) ∷ (11, 0) ∷ [])
    ""
    ∷ session 8 true  -- 1-2755-1
    (Void ∷ Float (ascii "y") 4 ∷ DeclTag false (ascii "\u{7f}\u{b}'%s") 3 2
    ∷ Composite false (ascii "x") 64 (member "b" 1 0 255 ∷ member "list_head" 4 0 255 ∷ member "b" 4 255 255 ∷ member "b" 5 0 1 ∷ [])
    ∷ Int (ascii "preb") 1 ∷ Int (ascii "y") 128 ∷ [])
    (one 169 5 ∷ one 0 4 ∷ one 120 3 ∷ one 283 2 ∷ one 80733 1 ∷ one 239 0 ∷ [])
    ((0, 0) ∷ (0, 0) ∷ (0, 120) ∷ (0, 120) ∷ (0, 120) ∷ (0, 120) ∷ [])
    "struct /*union*/ x {\n\ty b: 255;\n\tpreb list_head: 255;\n\tpreb b: 255 __attribute__((btf_decl_tag(\"\u{7f}\u{b}'%s\")));\n\ty b: 1;\n};\n\n"
    ∷ session 4 true  -- 1-2937-0
    (Void ∷ Int (ascii "x") 255 ∷ TypeTag false (ascii "\u{7f}\u{b}'%s") 4
    ∷ Composite false (ascii "x") 32 (member "x" 4 0 0 ∷ member "prex" 5 0 0 ∷ member "prex" 8 0 0 ∷ member "x" 1 0 0 ∷ member "x" 1 0 0 ∷ member "x" 1 0 0 ∷ [])
    ∷ Composite true (ascii "") 0 [] ∷ Array 8 2 ∷ Composite true (ascii "y") 40 (member "y" 1 41 0 ∷ []) ∷ FuncProto 1 (param "" 0 ∷ [])
    ∷ Mod volatile 2 ∷ [])
    (all 509 ∷ [])
    ((0, 257) ∷ [])
    "struct /*union*/ x {\n\tstruct {\t} x;\n\tstruct {\t}volatile  __attribute__((btf_type_tag(\"\u{7f}\u{b}'%s\"))) prex[2];\n\tstruct {\t}volatile  __attribute__((btf_type_tag(\"\u{7f}\u{b}'%s\"))) prex;\n\tx x;\n\tx x;\n\tx x;\n};\n\nstruct y {\n\tint: 9;\n\tint: 32;\n\tx y;\n} __attribute__((packed));\n\n"
    ∷ session 8 true  -- 1-2939-2
    (Void ∷ Composite true (ascii "_") 8 (member "node" 3 64 0 ∷ member "y" 2 0 0 ∷ []) ∷ Int (ascii "int") 32
    ∷ Composite true (ascii "_") 4 (member "u32" 8 0 0 ∷ []) ∷ Array 2 1073741823 ∷ Composite true (ascii "preE") 8 (member "E" 7 4096 0 ∷ [])
    ∷ Array 2 1073741823 ∷ Typedef (ascii "data") 4 ∷ Int (ascii "char") 8 ∷ [])
    (one 1 6 ∷ all 836 ∷ all 390 ∷ one 36691 4 ∷ [])
    ((0, 0) ∷ (16, 80) ∷ (11, 80) ∷ (11, 80) ∷ [])
    "struct _ {\n\tchar u32;\n};\n\nstruct ____2 {\n\tlong: 64;\n\tstruct _ node;\n\tint y;\n};\n\n"
    ∷ session 4 true  -- 1-2970-0
    (Void ∷ Int (ascii "node") 16 ∷ FuncProto 1 (param "prenode" 1 ∷ []) ∷ Ptr 11 ∷ Int (ascii "prex") 32
    ∷ Composite false (ascii "node") 200 (member "x" 4 0 0 ∷ member "y" 3 0 0 ∷ member "prex" 6 0 0 ∷ member "node" 4 0 0 ∷ member "x" 3 0 0 ∷ member "prenode" 1 0 0 ∷ [])
    ∷ Array 1 100 ∷ Mod const 5 ∷ Typedef (ascii "x") 3 ∷ FuncProto 8 (param "prenode" 7 ∷ param "x" 7 ∷ param "" 7 ∷ param "" 4 ∷ param "" 7 ∷ [])
    ∷ Typedef (ascii "x") 6 ∷ Fwd false (ascii "node") ∷ Typedef (ascii "y") 2 ∷ Array 6 3 ∷ Int (ascii "x") 255 ∷ [])
    (all 437 ∷ [])
    ((0, 215) ∷ [])
    "struct node;\n\nstruct /*union*/ node___2 {\n\tprex x;\n\tstruct node *y;\n\tnode prex[100];\n\tprex node;\n\tstruct node *x;\n\tnode prenode;\n};\n\ntypedef struct node *x;\n\ntypedef node x___2[100];\n\ntypedef node y(node prenode);\n\n"
    ∷ session 8 true  -- 1-2985-0
    (Void ∷ Ptr 5 ∷ FuncProto 1 (param "prex" 4 ∷ []) ∷ Int (ascii "prex") 32
    ∷ Composite true (ascii "data") 112 (member "prex" 1 5 0 ∷ member "data" 1 368 0 ∷ member "" 1 534 0 ∷ member "prex" 10 792 0 ∷ [])
    ∷ Composite false (ascii "x") 120 (member "y" 10 0 0 ∷ member "y" 10 0 0 ∷ member "" 4 64 0 ∷ member "x" 1 0 0 ∷ member "x" 6 0 0 ∷ member "prex" 3 32 0 ∷ member "y" 9 64 0 ∷ [])
    ∷ Typedef (ascii "x") 3 ∷ FuncProto 0 (param "" 6 ∷ []) ∷ FuncProto 0 (param "x" 7 ∷ param "" 4 ∷ param "" 7 ∷ param "" 11 ∷ param "" 0 ∷ [])
    ∷ Ptr 8 ∷ Ptr 0 ∷ Fwd false (ascii "") ∷ [])
    (all 553 ∷ [])
    ((0, 460) ∷ [])
    "struct /*union*/ x;\n\nstruct data {\n\tstruct /*union*/ x *prex;\n\tlong: 43;\n\tlong: 64;\n\tlong: 64;\n\tlong: 64;\n\tlong: 64;\n\tstruct /*union*/ x *data;\n\tlong: 38;\n\tlong: 64;\n\tstruct /*union*/ x *;\n\tlong: 2;\n\tlong: 64;\n\tlong: 64;\n\tlong: 64;\n\tvoid *prex;\n} __attribute__((packed));\n\ntypedef prex x;\n\nstruct ;\n\nstruct /*union*/ x {\n\tvoid *y;\n\tvoid *y;\n\tstruct data;\n\tstruct /*union*/ x *x;\n\tx x;\n\tprex prex;\n\tvoid (*y)(void x(x), struct data, void(x), struct , ...);\n};\n\n"
    ∷ session 4 false  -- 1-2990-2
    (Void ∷ Composite true (ascii "flags") 8 (member "node" 5 0 0 ∷ [])
    ∷ Composite true (ascii "state") 8 (member "Ax" 6 32 0 ∷ member "yx" 6 8 0 ∷ member "state" 6 4096 0 ∷ [])
    ∷ Composite true (ascii "flags") 8 (member "buf" 7 0 0 ∷ member "y" 4 8 0 ∷ member "node" 4 32 0 ∷ [])
    ∷ Composite false (ascii "x") 536870912 (member "prebuf" 6 0 0 ∷ []) ∷ Array 7 1073741824 ∷ Int (ascii "int") 32 ∷ Int (ascii "char") 8 ∷ [])
    (one 311 5 ∷ one 0 0 ∷ one 0 5 ∷ one 213 1 ∷ one 355 5 ∷ one 0 4 ∷ [])
    ((0, 0) ∷ (0, 0) ∷ (0, 0) ∷ (16, 0) ∷ (11, 0) ∷ (11, 0) ∷ [])
    ""
    ∷ []
