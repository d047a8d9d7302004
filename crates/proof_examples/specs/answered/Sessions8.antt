-- Written by tools/vectors.py. Sections and requests of oracle/answers.cases, each beside the answers.
-- That they are equal is `sessions8_hold` of proofs/Sessions8.
use Rattle.std.specs.Prelude.{true, false, List, [], ◌∷◌}
use Rattle.spec_bytes.specs.text.Text.{ascii}
use Rattle.spec_c_dumper.specs.rules.Machine.{one, all}
use Rattle.proof_examples.specs.vectors.Base.{member, param, value, Vector, session}
use Rattle.spec_c_dumper.specs.rules.Types.{volatile, const, restrict, Void, Int, Ptr, Array, Composite, Enum, Enum64, Fwd, Typedef, Mod, Func, Var, Datasec, FuncProto, Float, DeclTag, TypeTag}

abbrev pub sessions8 : List Vector
sessions8 =
    session 8 false  -- 1-23768-2
    (Void ∷ Int (ascii "int") 32 ∷ Composite false (ascii "") 4 (member "data" 1 0 0 ∷ []) ∷ Enum false (ascii "") 4 (value "x" 1 ∷ [])
    ∷ Mod restrict 3 ∷ Ptr 6 ∷ FuncProto 12 (param "a" 0 ∷ param "" 12 ∷ []) ∷ Ptr 1 ∷ Array 10 2 ∷ Typedef (ascii "_") 8 ∷ Ptr 6
    ∷ TypeTag true (ascii "a b") 7 ∷ Array 4 7 ∷ Typedef (ascii "a") 11 ∷ Typedef (ascii "data") 5 ∷ [])
    (one 0 3 ∷ all 227 ∷ one 422 8 ∷ one 227 4294967295 ∷ [])
    ((0, 0) ∷ (0, 227) ∷ (0, 227) ∷ (10, 227) ∷ [])
    "typedef restrict enum {\n\tx = 1,\n} ( (*_[2])(void a, restrict enum {\n\tx___2 = 1,\n}[7]))[7];\n\ntypedef int * __attribute__((a b)) a;\n\ntypedef restrict enum {\n\tx___3 = 1,\n} ( (*data)(void a, restrict enum {\n\tx___4 = 1,\n}[7]))[7];\n\n"
    ∷ session 8 false  -- 1-23907-0
    (Void ∷ Int (ascii "prey") 64 ∷ DeclTag false (ascii "\"") 5 4 ∷ Composite false (ascii "_") 8 (member "yx" 12 0 0 ∷ [])
    ∷ DeclTag true (ascii "x") 6 0
    ∷ Composite false (ascii "prebuf") 32 (member "_" 8 0 0 ∷ member "buf" 3 0 0 ∷ member "prex___3" 8 0 0 ∷ member "buf" 13 0 0 ∷ [])
    ∷ Typedef (ascii "prey") 1 ∷ Typedef (ascii "y") 6 ∷ Int (ascii "y") 255 ∷ DeclTag true (ascii "\"") 14 4294967295 ∷ Typedef (ascii "data") 1
    ∷ Mod volatile 7 ∷ Ptr 10 ∷ Ptr 11 ∷ Composite true (ascii "ops") 12 (member "__builtin_va_list" 3 2 0 ∷ []) ∷ [])
    (all 319 ∷ [])
    ((0, 240) ∷ [])
    "typedef prey data;\n\nunion _ {\n\tdata *yx;\n};\n\ntypedef prey prey;\n\ntypedef prey y;\n\nunion prebuf {\n\ty _;\n\tunion _ buf;\n\ty prex___3;\n\tvolatile y *buf;\n};\n\nstruct ops {\n\tunion _ __builtin_va_list;\n} __attribute__((packed)) __attribute__((\"));\n\n"
    ∷ session 8 false  -- 1-24386-2
    (Void ∷ Composite true (ascii "T") 32 (member "" 2 0 0 ∷ []) ∷ Array 3 4 ∷ Ptr 4 ∷ Enum false (ascii "") 4 (value "E" 1 ∷ [])
    ∷ Composite true (ascii "") 4 (member "preT" 6 0 0 ∷ []) ∷ Int (ascii "int") 32 ∷ [])
    (one 183 1 ∷ one 41 0 ∷ [])
    ((0, 41) ∷ (0, 41) ∷ [])
    "struct T {\n\tenum {\n\t\tE = 1,\n\t} *[4];\n};\n\n"
    ∷ session 8 false  -- 1-24456-0
    (Void ∷ Int (ascii "int") 32 ∷ Composite false (ascii "") 4 (member "_" 1 0 0 ∷ []) ∷ Enum false (ascii "priv") 4 (value "priv" 1 ∷ [])
    ∷ FuncProto 1 [] ∷ FuncProto 0 (param "" 4 ∷ []) ∷ Typedef (ascii "E") 5 ∷ Array 0 3 ∷ Mod restrict 7 ∷ Array 8 2 ∷ Ptr 9 ∷ Typedef (ascii "x") 10
    ∷ TypeTag true (ascii "m\"\\\n\t\r\u{1}") 11 ∷ Mod volatile 12 ∷ Mod restrict 13 ∷ Ptr 14 ∷ FuncProto 0 (param "" 15 ∷ [])
    ∷ Typedef (ascii "E") 16 ∷ [])
    (all 146 ∷ [])
    ((0, 146) ∷ [])
    "enum priv {\n\tpriv = 1,\n};\n\ntypedef void E(int());\n\ntypedef void (*x)[2][3];\n\ntypedef void E___2(xvolatile restrict  __attribute__((m\"\\\n\t\r\u{1})) *);\n\n"
    ∷ session 4 false  -- 1-25236-0
    (Void ∷ Array 4 2 ∷ Int (ascii "int") 32 ∷ Composite true (ascii "y") 8 (member "" 1 0 0 ∷ []) ∷ Enum false (ascii "x___3") 4 (value "priv" 1 ∷ [])
    ∷ Composite true (ascii "") 4 (member "buf" 2 0 0 ∷ []) ∷ [])
    (all 379 ∷ [])
    ((0, 59) ∷ [])
    "enum x___3 {\n\tpriv = 1,\n};\n\nstruct y {\n\tenum x___3[2];\n};\n\n"
    ∷ session 4 false  -- 1-25407-0
    (Void ∷ Typedef (ascii "x") 2 ∷ FuncProto 0 (param "data" 3 ∷ []) ∷ Ptr 4 ∷ Mod volatile 5 ∷ Ptr 6 ∷ TypeTag false (ascii "m\"\\\n\t\r\u{1}") 10
    ∷ Typedef (ascii "data") 8 ∷ FuncProto 0 (param "b" 9 ∷ []) ∷ FuncProto 10 (param "b" 12 ∷ param "" 14 ∷ param "" 12 ∷ []) ∷ Ptr 11
    ∷ FuncProto 12 (param "" 14 ∷ param "Ax" 0 ∷ param "" 12 ∷ []) ∷ FuncProto 13 (param "data" 0 ∷ []) ∷ Array 14 0
    ∷ Enum false (ascii "") 4 (value "b" 1 ∷ []) ∷ Composite true (ascii "") 4 (member "preAx" 16 0 0 ∷ []) ∷ Int (ascii "int") 32 ∷ [])
    (all 373 ∷ [])
    ((0, 373) ∷ [])
    "typedef void x(enum {\n\tb = 1,\n} ( ( (* __attribute__((btf_type_tag(\"m\\\"\\\\\\n\\t\\r\u{1}\"))) * volatile *data)(enum {\n\tb___2 = 1,\n}, void Ax, enum {\n\tb___3 = 1,\n}(())[0]))())[0]);\n\ntypedef void data(enum {\n\tb___4 = 1,\n} ( ( (*b(enum {\n\tb___5 = 1,\n} (b())[0], enum {\n\tb___6 = 1,\n}, enum {\n\tb___7 = 1,\n}(())[0]))(enum {\n\tb___8 = 1,\n}, void Ax, enum {\n\tb___9 = 1,\n}(())[0]))())[0]);\n\n"
    ∷ session 8 false  -- 1-25914-0
    (Void ∷ Int (ascii "x___2") 7 ∷ Array 1 3 ∷ Composite false (ascii "y") 3 (member "len" 2 0 0 ∷ member "" 4 0 0 ∷ []) ∷ Mod const 2 ∷ [])
    (all 401 ∷ [])
    ((0, 40) ∷ [])
    "union y {\n\tx___2 len[3];\n\tx___2[3];\n};\n\n"
    ∷ session 4 true  -- 1-26340-0
    (Void ∷ Int (ascii "char") 8 ∷ Int (ascii "short") 16 ∷ Int (ascii "int") 32 ∷ Int (ascii "long") 64 ∷ Int (ascii "i\u{1}28") 128
    ∷ Composite false (ascii "list_head") 48 (member "x___3" 5 96 31 ∷ member "node" 1 280 0 ∷ member "" 4 345 6 ∷ []) ∷ [])
    (all 493 ∷ [])
    ((0, 172) ∷ [])
    "struct /*union*/ list_head {\n\tint: 32;\n\tint: 32;\n\tint: 32;\n\ti\u{1}28 x___3: 31;\n\tint: 25;\n\tint: 32;\n\tint: 32;\n\tint: 32;\n\tint: 32;\n\tchar node;\n\tint: 25;\n\tint: 32;\n\tlong: 6;\n};\n\n"
    ∷ session 4 false  -- 1-26410-1
    (Void
    ∷ Composite true (ascii "x") 56 (member "y\u{2}\u{7f}\u{b}'%s" 2 0 31 ∷ member "x" 7 31 16 ∷ member "y\u{2}\u{7f}\u{b}'%s" 4 64 0 ∷ member "x" 4 128 255 ∷ member "x" 4 384 0 ∷ [])
    ∷ Enum64 false (ascii "") 8 [] ∷ Typedef (ascii "y\u{2}\u{7f}\u{b}'%s") 2 ∷ Float (ascii "y\u{2}\u{7f}\u{b}'%s") 8 ∷ Int (ascii "") 64
    ∷ Mod const 4 ∷ Mod volatile 6 ∷ Ptr 2 ∷ [])
    (one 143 0 ∷ one 112 1 ∷ one 500 2 ∷ one 136 3 ∷ one 135 4 ∷ one 135 5 ∷ one 135 6 ∷ one 226 7 ∷ one 496 8 ∷ [])
    ((0, 0) ∷ (0, 112) ∷ (0, 112) ∷ (0, 135) ∷ (0, 135) ∷ (0, 135) ∷ (0, 135) ∷ (0, 135) ∷ (0, 135) ∷ [])
    "struct x {\n\tenum y\u{2}\u{7f}\u{b}'%s: 31;\n\tconst volatile y\u{2}\u{7f}\u{b}'%s x: 16;\n\ty\u{2}\u{7f}\u{b}'%s y\u{2}\u{7f}\u{b}'%s;\n\ty\u{2}\u{7f}\u{b}'%s x: 255;\n\ty\u{2}\u{7f}\u{b}'%s x;\n};\n\ntypedef enum y\u{2}\u{7f}\u{b}'%s;\n\n"
    ∷ session 4 true  -- 1-26522-2
    (Void ∷ FuncProto 3 (param "p\u{2}" 5 ∷ []) ∷ Typedef (ascii "y") 1 ∷ Fwd false (ascii "p\u{2}") ∷ Mod const 2
    ∷ Enum false (ascii "") 4 (value "p\u{2}" 4294967295 ∷ value "y" 4294967295 ∷ []) ∷ Mod const 3 ∷ Array 3 0 ∷ Ptr 1 ∷ TypeTag false (ascii "x") 5
    ∷ [])
    (one 236 10 ∷ one 407 3 ∷ one 244 7 ∷ [])
    ((10, 0) ∷ (0, 12) ∷ (0, 12) ∷ [])
    "struct p\u{2};\n\n"
    ∷ session 8 false  -- 1-26602-1
    (Void ∷ Composite true (ascii "state") 24 (member "\u{4}" 4 128 0 ∷ []) ∷ Int (ascii "short") 16
    ∷ Composite true (ascii "x") 88 (member "node" 5 190 42 ∷ member "state" 5 206 31 ∷ member "\u{4}" 7 322 1 ∷ member "node" 4 384 0 ∷ member "x___3" 5 472 45 ∷ member "state" 7 670 4 ∷ [])
    ∷ Int (ascii "long") 64 ∷ Int (ascii "i128") 128 ∷ Composite false (ascii "\u{4}") 21 (member "state" 8 32 0 ∷ member "state" 4 104 0 ∷ [])
    ∷ Int (ascii "char") 8 ∷ Int (ascii "int") 32 ∷ Composite true (ascii "state") 16 (member "len" 8 31 20 ∷ member "data" 7 91 2 ∷ []) ∷ [])
    (one 150 0 ∷ one 445 1 ∷ one 234 2 ∷ one 346 3 ∷ one 17945 4 ∷ one 392 5 ∷ one 497 6 ∷ one 302 7 ∷ one 302 8 ∷ one 520 9 ∷ [])
    ((0, 0) ∷ (0, 50) ∷ (0, 50) ∷ (0, 253) ∷ (0, 253) ∷ (0, 253) ∷ (0, 302) ∷ (0, 302) ∷ (0, 302) ∷ (0, 375) ∷ [])
    "struct state {\n\tlong: 64;\n\tlong: 64;\n\tlong \u{4};\n};\n\nstruct x {\n\tlong: 62;\n\tlong: 64;\n\tlong: 64;\n\ti128 node: 42;\n\ti128 state: 31;\n\tlong: 21;\n\tlong: 64;\n\tchar \u{4}: 1;\n\tlong node;\n\tint: 24;\n\ti128 x___3: 45;\n\tlong: 25;\n\tlong: 64;\n\tlong: 64;\n\tchar state: 4;\n};\n\nunion \u{4} {\n\tint: 32;\n\tint state;\n\tlong state;\n};\n\nstruct state___2 {\n\tint: 31;\n\tint len: 20;\n\tlong: 40;\n\tchar data: 2;\n};\n\n"
    ∷ session 4 false  -- 1-26660-2
    (Void ∷ Ptr 0 ∷ TypeTag false (ascii "\\\\") 1 ∷ Enum64 false (ascii "y\u{10}prey") 8 [] ∷ Typedef (ascii "") 3 ∷ [])
    (all 14 ∷ one 14 1 ∷ one 14 3 ∷ [])
    ((14, 14) ∷ (11, 14) ∷ (11, 14) ∷ [])
    "enum y\u{10}prey;\n\n"
    ∷ session 4 false  -- 1-27041-2
    (Void ∷ Int (ascii "int") 32 ∷ Composite true (ascii "") 4 (member "list_head" 1 0 0 ∷ []) ∷ Enum false (ascii "x___2") 4 (value "y" 1 ∷ [])
    ∷ FuncProto 3 (param "" 0 ∷ []) ∷ FuncProto 8 (param "x" 0 ∷ []) ∷ Mod const 9 ∷ Mod restrict 6 ∷ Ptr 7 ∷ FuncProto 4 (param "x" 2 ∷ [])
    ∷ FuncProto 5 (param "_" 3 ∷ []) ∷ FuncProto 10 (param "x___2" 10 ∷ param "" 0 ∷ param "" 0 ∷ []) ∷ Mod volatile 11 ∷ Ptr 12 ∷ Mod volatile 13
    ∷ Typedef (ascii "_") 14 ∷ [])
    (one 90391 11 ∷ one 566 15 ∷ one 266 4 ∷ one 520 1 ∷ [])
    ((0, 25) ∷ (0, 247) ∷ (0, 247) ∷ (0, 247) ∷ [])
    "enum x___2 {\n\ty = 1,\n};\n\ntypedef enum x___2 (const restrict  (* ( (volatile  (* volatile _)(enum x___2 (const restrict  (* (x___2(enum x___2 _))())(struct {\n\tint list_head;\n} x))(), void, ...))(enum x___2 _))())(struct {\n\tint list_head;\n} x))();\n\n"
    ∷ session 4 false  -- 1-27045-0
    (Void ∷ Int (ascii "int") 32 ∷ Composite false (ascii "") 4 (member "data" 1 0 0 ∷ [])
    ∷ Enum false (ascii "ops") 4 (value "m\"\\\n\t\r\u{1}" 1 ∷ []) ∷ Mod const 2 ∷ Array 4 1 ∷ Mod const 5 ∷ Ptr 6 ∷ Ptr 7 ∷ Typedef (ascii "buf") 8
    ∷ Array 0 3 ∷ Typedef (ascii "m\"\\\n\t\r\u{1}") 10 ∷ Array 11 4 ∷ FuncProto 0 (param "ops" 12 ∷ []) ∷ Typedef (ascii "x") 13
    ∷ FuncProto 1 (param "buf" 5 ∷ param "x" 5 ∷ []) ∷ Mod restrict 15 ∷ Mod const 16 ∷ Ptr 17
    ∷ Composite true (ascii "len") 8 (member "buf" 18 0 0 ∷ []) ∷ [])
    (all 640 ∷ [])
    ((0, 261) ∷ [])
    "enum ops {\n\tm\"\\\n\t\r\u{1} = 1,\n};\n\ntypedef const union {\n\tint data;\n} (**buf)[1];\n\ntypedef void m\"\\\n\t\r\u{1}___2[3];\n\ntypedef void x(m\"\\\n\t\r\u{1}___2 ops[4]);\n\nstruct len {\n\tintrestrict const  (*buf)(const union {\n\t\tint data;\n\t} buf[1], const union {\n\t\tint data;\n\t} x[1]);\n};\n\n"
    ∷ session 4 false  -- 1-27120-0
    (Void ∷ FuncProto 0 (param "" 5 ∷ []) ∷ Array 6 3 ∷ Enum false (ascii "T") 4 (value "x" 1 ∷ []) ∷ Mod restrict 7 ∷ Ptr 15 ∷ Ptr 4 ∷ Array 11 3
    ∷ TypeTag false (ascii "a b") 10 ∷ Int (ascii "int") 32 ∷ Array 2 2 ∷ Mod volatile 9 ∷ Typedef (ascii "x") 1
    ∷ Composite true (ascii "") 4 (member "Ax" 9 0 0 ∷ []) ∷ Mod restrict 8 ∷ Array 14 7 ∷ [])
    (all 122 ∷ [])
    ((0, 122) ∷ [])
    "enum T {\n\tx = 1,\n};\n\ntypedef void x___2(volatile int(*(restrict  __attribute__((btf_type_tag(\"a b\")))(*)[7])[2][3])[3]);\n\n"
    ∷ session 8 true  -- 1-28166-2
    (Void ∷ Int (ascii "i\u{1}t") 32 ∷ Enum64 false (ascii "y") 8 (value "y" 2260155962618673249 ∷ [])
    ∷ Composite true (ascii "prey") 4 (member "x" 1 0 0 ∷ []) ∷ Ptr 3 ∷ Typedef (ascii "prey") 1 ∷ Ptr 5
    ∷ Composite true (ascii "x___2") 4 (member "y" 1 0 0 ∷ []) ∷ Fwd false (ascii "prey") ∷ Ptr 8 ∷ Typedef (ascii "y") 1 ∷ Typedef (ascii "x") 1
    ∷ Ptr 11 ∷ [])
    (one 16 10 ∷ one 126 11 ∷ [])
    ((0, 16) ∷ (0, 32) ∷ [])
    "typedef i\u{1}t y;\n\ntypedef i\u{1}t x;\n\n"
    ∷ session 4 false  -- 1-28212-0
    (Void ∷ Typedef (ascii "x___3") 2 ∷ FuncProto 3 (param "" 3 ∷ param "a" 4 ∷ param "pres" 4 ∷ []) ∷ Ptr 5
    ∷ Enum false (ascii "") 4 (value "s" 1 ∷ []) ∷ Composite false (ascii "") 4 (member "x" 6 0 0 ∷ []) ∷ Int (ascii "int") 32 ∷ [])
    (all 500 ∷ [])
    ((0, 103) ∷ [])
    "typedef union {\n\tint x;\n} *x___3(union {\n\tint x;\n} *, enum {\n\ts = 1,\n} a, enum {\n\ts___2 = 1,\n} pres);\n\n"
    ∷ session 8 false  -- 1-28224-0
    (Void ∷ Typedef (ascii "_") 2 ∷ Composite true (ascii "") 0 [] ∷ Ptr 1 ∷ [])
    (all 221 ∷ [])
    ((0, 22) ∷ [])
    "typedef struct {} _;\n\n"
    ∷ session 4 false  -- 1-28249-1
    (Void ∷ FuncProto 5 (param "" 3 ∷ param "node" 3 ∷ []) ∷ FuncProto 4 []
    ∷ Composite false (ascii "x___2") 8 (member "_" 5 0 0 ∷ member "pres" 6 0 32 ∷ []) ∷ Mod restrict 6 ∷ Array 0 100 ∷ Ptr 7
    ∷ Composite true (ascii "") 11 (member "node" 0 83 1 ∷ []) ∷ [])
    (one 0 0 ∷ one 105 1 ∷ one 423 2 ∷ one 223 3 ∷ one 504 4 ∷ one 105 5 ∷ one 312 6 ∷ one 279 7 ∷ [])
    ((0, 0) ∷ (0, 105) ∷ (0, 105) ∷ (0, 105) ∷ (0, 105) ∷ (0, 105) ∷ (0, 105) ∷ (0, 105) ∷ [])
    "union x___2 {\n\tvoid _[100];\n\tstruct {\n\t\tint: 19;\n\t\tint: 32;\n\t\tint: 32;\n\t\tvoid node: 1;\n\t} *pres: 32;\n};\n\n"
    ∷ session 4 true  -- 1-28835-2
    (Void ∷ Int (ascii "__builtin_va_list") 32 ∷ Mod const 1
    ∷ Enum64 false (ascii "__builtin_va_list") 4 (value "__builtin_va_list" 9223372041149743203 ∷ [])
    ∷ Composite true (ascii "y") 44 (member "" 1 280 1 ∷ member "y" 1 281 31 ∷ member "__builtin_va_list" 2 320 0 ∷ []) ∷ Typedef (ascii "y") 4
    ∷ Mod const 4 ∷ Typedef (ascii "__builtin_va_list") 5 ∷ Typedef (ascii "") 7
    ∷ Composite true (ascii "__builtin_va_list") 64 (member "y" 7 5 0 ∷ member "prey" 6 421 32 ∷ member "__builtin_va_list" 3 453 32 ∷ member "x" 5 489 16 ∷ [])
    ∷ [])
    (one 418 4 ∷ [])
    ((0, 198) ∷ [])
    "struct y {\n\tint: 24;\n\tint: 32;\n\tint: 32;\n\tint: 32;\n\tint: 32;\n\tint: 32;\n\tint: 32;\n\tint: 32;\n\tint: 32;\n\t__builtin_va_list: 1;\n\t__builtin_va_list y: 31;\n\tconst __builtin_va_list __builtin_va_list;\n};\n\n"
    ∷ session 8 true  -- 1-29244-0
    (Void ∷ Int (ascii "next") 255 ∷ Typedef (ascii "list_head") 1
    ∷ Composite true (ascii "") 320 (member "priv" 2 0 0 ∷ member "x\u{1}" 1 448 0 ∷ member "" 1 704 0 ∷ member "priv" 1 960 0 ∷ member "len" 2 1216 0 ∷ member "prepriv" 1 1472 0 ∷ member "data" 2 2032 0 ∷ member "prepriv" 1 2304 0 ∷ [])
    ∷ Composite true (ascii "preyx") 355 (member "" 3 3 0 ∷ member "next" 1 2580 0 ∷ []) ∷ Fwd true (ascii "") ∷ FuncProto 5 (param "a" 0 ∷ []) ∷ [])
    (all 374 ∷ [])
    ((0, 354) ∷ [])
    "typedef next list_head;\n\nstruct preyx {\n\tstruct {\n\t\tlist_head priv;\n\t\tlong: 64;\n\t\tlong: 64;\n\t\tlong: 64;\n\t\tnext x\u{1};\n\t\tnext;\n\t\tnext priv;\n\t\tlist_head len;\n\t\tnext prepriv;\n\t\tlong: 48;\n\t\tlong: 64;\n\t\tlong: 64;\n\t\tlong: 64;\n\t\tlong: 64;\n\t\tlist_head data;\n\t\tshort: 16;\n\t\tnext prepriv;\n\t} __attribute__((packed));\n\tint: 17;\n\tnext next;\n} __attribute__((packed));\n\n"
    ∷ session 8 false  -- 1-29339-2
    (Void ∷ Typedef (ascii "y") 2 ∷ Fwd true (ascii "") ∷ Int (ascii "y") 1 ∷ [])
    (one 60 3 ∷ one 28 1 ∷ [])
    ((0, 0) ∷ (0, 28) ∷ [])
    "union ;\n\ntypedef union  y;\n\n"
    ∷ session 8 false  -- 1-29501-2
    (Void ∷ Int (ascii "int") 32 ∷ Typedef (ascii "") 3 ∷ FuncProto 0 (param "" 6 ∷ param "" 1 ∷ [])
    ∷ Composite true (ascii "x___2") 8 (member "a" 5 0 0 ∷ []) ∷ Ptr 2 ∷ Composite true (ascii "_") 8 (member "prea" 1 0 0 ∷ []) ∷ [])
    (one 0 7 ∷ one 409 4 ∷ [])
    ((10, 0) ∷ (0, 66) ∷ [])
    "struct _;\n\ntypedef void(struct _, int);\n\nstruct x___2 {\n\t *a;\n};\n\n"
    ∷ session 4 true  -- 1-29745-0
    (Void ∷ Mod volatile 4 ∷ Mod volatile 4 ∷ Ptr 1 ∷ Enum64 false (ascii "") 1 [] ∷ DeclTag true (ascii "\"") 2 4294967295
    ∷ Composite true (ascii "y") 8 (member "prey" 10 0 64 ∷ []) ∷ Mod volatile 2 ∷ Int (ascii "y") 32 ∷ Ptr 6 ∷ Ptr 3 ∷ [])
    (all 267 ∷ [])
    ((0, 42) ∷ [])
    "struct y {\n\tvolatile enum **prey: 64;\n};\n\n"
    ∷ session 8 true  -- 1-30492-0
    (Void ∷ Composite false (ascii "") 0 [] ∷ Typedef (ascii "x") 9 ∷ Typedef (ascii "y") 6 ∷ DeclTag false (ascii "x") 7 1
    ∷ Typedef (ascii "_\u{1}u32") 8 ∷ Int (ascii "node") 64 ∷ Composite true (ascii "node") 4 (member "x" 14 0 0 ∷ [])
    ∷ FuncProto 11 (param "node" 9 ∷ []) ∷ TypeTag false (ascii "a b") 1 ∷ FuncProto 0 (param "" 13 ∷ param "_\u{1}u32" 13 ∷ [])
    ∷ Typedef (ascii "y") 7 ∷ Enum false (ascii "node") 3 (value "b" 2 ∷ value "b" 2 ∷ []) ∷ Mod volatile 12 ∷ Int (ascii "_\u{1}u32") 32 ∷ [])
    (all 482 ∷ [])
    ((0, 267) ∷ [])
    "typedef struct /*union*/ {} __attribute__((btf_type_tag(\"a b\"))) x;\n\ntypedef node y;\n\nstruct node {\n\t_\u{1}u32 x;\n};\n\ntypedef struct node y___2;\n\ntypedef y___2 _\u{1}u32(struct /*union*/ {} __attribute__((btf_type_tag(\"a b\"))) node);\n\nenum node___2 {\n\tb = 2,\n\tb___2 = 2,\n};\n\n"
    ∷ session 8 false  -- 1-30795-0
    (Void ∷ Int (ascii "a__bu\u{10}") 32 ∷ Array 1 2 ∷ Ptr 2 ∷ Composite false (ascii "") 8 (member "y" 3 0 0 ∷ member "b" 3 0 0 ∷ [])
    ∷ Enum64 false (ascii "yx") 1 (value "a__bu\u{10}" 42949673060 ∷ value "x" 4294967295 ∷ value "x" 8153541189599676928 ∷ []) ∷ Ptr 4 ∷ [])
    (all 268 ∷ [])
    ((0, 93) ∷ [])
    "enum yx {\n\ta__bu\u{10} = 42949673060ULL,\n\tx = 4294967295ULL,\n\tx___2 = 8153541189599676928ULL,\n};\n\n"
    ∷ session 8 false  -- 1-30894-0
    (Void ∷ Int (ascii "b") 64 ∷ Composite false (ascii "prey") 0 [] ∷ Enum64 true (ascii "") 8 [] ∷ Ptr 3 ∷ DeclTag false (ascii "\"") 8 4294967295
    ∷ Enum64 false (ascii "b") 2 (value "buf" 18446744069414584320 ∷ value "" 4294967295 ∷ value "y" 4294967295 ∷ []) ∷ Mod volatile 3
    ∷ Composite true (ascii "preAx") 44 (member "Ax" 3 0 0 ∷ member "" 12 64 8 ∷ member "b" 13 72 255 ∷ member "y" 10 336 0 ∷ [])
    ∷ Enum true (ascii "buf") 8 (value "b" 10 ∷ value "Ax" 2 ∷ []) ∷ Typedef (ascii "Ax") 6 ∷ Mod restrict 0 ∷ Enum true (ascii "") 1 []
    ∷ Int (ascii "preAx") 128 ∷ FuncProto 7 (param "y" 13 ∷ []) ∷ [])
    (all 503 ∷ [])
    ((0, 289) ∷ [])
    "union prey {};\n\nenum b {\n\tbuf = 18446744069414584320ULL,\n\t = 4294967295ULL,\n\ty = 4294967295ULL,\n};\n\ntypedef enum b Ax;\n\nstruct preAx {\n\tenum Ax;\n\tenum: 8;\n\tpreAx b: 255;\n\tshort: 9;\n\tAx y;\n} __attribute__((packed)) __attribute__((btf_decl_tag(\"\\\"\")));\n\nenum buf {\n\tb = 10,\n\tAx___2 = 2,\n};\n\n"
    ∷ session 4 false  -- 1-31577-2
    (Void ∷ Int (ascii "char") 8 ∷ Int (ascii "int") 32 ∷ Int (ascii "short") 16 ∷ Int (ascii "long") 64 ∷ Int (ascii "i128") 128
    ∷ Composite true (ascii "_") 80 (member "" 4 128 0 ∷ member "T" 3 208 0 ∷ member "a" 5 384 0 ∷ member "list_head" 4 576 0 ∷ [])
    ∷ Composite true (ascii "x") 40 (member "y" 3 112 0 ∷ member "flags" 5 140 0 ∷ []) ∷ [])
    (one 26 4 ∷ all 33778 ∷ one 692 4 ∷ one 623 3 ∷ one 294 5 ∷ one 294 3 ∷ [])
    ((0, 0) ∷ (0, 294) ∷ (0, 294) ∷ (0, 294) ∷ (0, 294) ∷ (0, 294) ∷ [])
    "struct _ {\n\tint: 32;\n\tint: 32;\n\tint: 32;\n\tint: 32;\n\tlong;\n\tshort: 16;\n\tshort T;\n\tint: 32;\n\tint: 32;\n\tint: 32;\n\tint: 32;\n\tint: 32;\n\ti128 a;\n\tint: 32;\n\tint: 32;\n\tlong list_head;\n};\n\nstruct x {\n\tint: 16;\n\tint: 32;\n\tint: 32;\n\tint: 32;\n\tshort y;\n\tshort: 12;\n\ti128 flags;\n} __attribute__((packed));\n\n"
    ∷ session 8 true  -- 1-31677-0
    (Void ∷ Composite true (ascii "list_head") 40 (member "x" 3 18 0 ∷ member "x" 4 146 0 ∷ member "x" 3 191 0 ∷ []) ∷ Int (ascii "_") 24
    ∷ Float (ascii "_") 16 ∷ Mod restrict 2 ∷ FuncProto 3 (param "" 0 ∷ param "pre_" 2 ∷ param "x" 3 ∷ param "priv" 1 ∷ param "_" 1 ∷ [])
    ∷ Composite true (ascii "len") 48 (member "" 1 0 0 ∷ member "x" 4 320 33 ∷ []) ∷ [])
    (all 280 ∷ [])
    ((0, 149) ∷ [])
    "struct list_head {\n\tint: 18;\n\t_ x;\n\trestrict _ x;\n\tint: 21;\n\t_ x;\n} __attribute__((packed));\n\nstruct len {\n\tstruct list_head;\n\trestrict _ x: 33;\n};\n\n"
    ∷ session 8 true  -- 1-31800-0
    (Void ∷ Int (ascii "int") 32 ∷ Composite true (ascii "yx") 4 (member "yx" 1 0 0 ∷ []) ∷ Enum false (ascii "") 4 (value "flags" 1 ∷ [])
    ∷ TypeTag true (ascii "") 2 ∷ Array 4 0 ∷ Mod const 5 ∷ Array 6 6 ∷ Ptr 7 ∷ Ptr 8 ∷ Ptr 9 ∷ Mod const 10
    ∷ FuncProto 11 (param "" 0 ∷ param "x" 0 ∷ []) ∷ FuncProto 0 (param "" 12 ∷ []) ∷ Typedef (ascii "yx") 13 ∷ [])
    (all 100 ∷ [])
    ((0, 100) ∷ [])
    "struct yx {\n\tint yx;\n};\n\ntypedef void yx(struct yx __attribute__(())(*** const(void, ...))[6][0]);\n\n"
    ∷ session 4 false  -- 1-31998-0
    (Void ∷ Typedef (ascii "data") 2 ∷ FuncProto 0 (param "" 3 ∷ []) ∷ Mod const 4 ∷ Array 5 6 ∷ Mod const 6 ∷ Mod restrict 7 ∷ Ptr 8 ∷ Array 9 1
    ∷ Typedef (ascii "_") 10 ∷ Array 11 6 ∷ Mod volatile 12 ∷ Mod volatile 13 ∷ Mod restrict 0 ∷ Enum false (ascii "data") 4 (value "y" 1 ∷ [])
    ∷ Composite true (ascii "x") 4 (member "x___2" 16 0 0 ∷ []) ∷ Int (ascii "int") 32 ∷ [])
    (all 393 ∷ [])
    ((0, 145) ∷ [])
    "typedef restrict volatile volatile void _[6];\n\ntypedef void data(_(* restrict const[6])[1]);\n\nenum data {\n\ty = 1,\n};\n\nstruct x {\n\tint x___2;\n};\n\n"
    ∷ session 4 false  -- 1-32214-0
    (Void ∷ Int (ascii "") 24 ∷ Enum true (ascii "x___2") 4 (value "node" 10 ∷ value "data" 100 ∷ []) ∷ Fwd false (ascii "Ax")
    ∷ Typedef (ascii "x___2") 9 ∷ Ptr 6 ∷ Ptr 3 ∷ Mod restrict 10 ∷ Array 6 4 ∷ FuncProto 0 (param "" 1 ∷ param "x___2" 1 ∷ param "" 1 ∷ [])
    ∷ Array 13 100 ∷ Typedef (ascii "s") 4 ∷ Enum true (ascii "len") 3 (value "_" 2 ∷ [])
    ∷ Composite true (ascii "y") 48 (member "b" 12 0 0 ∷ member "_" 12 24 0 ∷ member "priv" 12 48 0 ∷ member "pre_" 1 72 0 ∷ member "s" 8 128 0 ∷ [])
    ∷ [])
    (all 275 ∷ [])
    ((0, 221) ∷ [])
    "enum x___2 {\n\tnode = 10,\n\tdata = 100,\n};\n\nstruct Ax;\n\ntypedef void x___2(,  x___2, );\n\nenum len {\n\t_ = 2,\n};\n\nstruct y {\n\tenum len b;\n\tenum len _;\n\tenum len priv;\n\t pre_;\n\tint: 32;\n\tstruct Ax *s[4];\n};\n\ntypedef x___2 s;\n\n"
    ∷ session 8 true  -- 1-32405-2
    (Void ∷ FuncProto 2 (param "" 10 ∷ param "" 3 ∷ []) ∷ Fwd true (ascii "_") ∷ Composite true (ascii "") 0 [] ∷ Ptr 12 ∷ Ptr 8
    ∷ Typedef (ascii "y") 4 ∷ Ptr 3 ∷ Composite true (ascii "data") 16 (member "_" 7 0 1 ∷ member "priv" 5 1 33 ∷ member "" 9 34 0 ∷ [])
    ∷ Composite true (ascii "next") 8 (member "priv" 4 0 0 ∷ []) ∷ Composite true (ascii "_") 32 (member "prepriv" 6 152 0 ∷ [])
    ∷ DeclTag false (ascii "x") 6 0 ∷ FuncProto 7 (param "" 7 ∷ param "priv" 3 ∷ []) ∷ [])
    (one 88 13 ∷ one 0 3 ∷ one 21 2 ∷ one 517 8 ∷ [])
    ((10, 0) ∷ (0, 0) ∷ (0, 21) ∷ (0, 192) ∷ [])
    "struct /*union*/ _;\n\nstruct next {\n\tstruct {\t} * (*priv)(struct {\t} *, struct {\t} priv);\n};\n\nstruct data {\n\tstruct {\t} *_: 1;\n\tstruct data *priv: 33;\n\tstruct next;\n} __attribute__((packed));\n\n"
    ∷ session 4 true  -- 1-32685-0
    (Void ∷ Typedef (ascii "len") 2 ∷ Mod volatile 3 ∷ Mod const 4 ∷ Ptr 5 ∷ Enum false (ascii "") 4 (value "y" 1 ∷ [])
    ∷ Composite false (ascii "\u{2}") 4 (member "len" 7 0 0 ∷ []) ∷ Int (ascii "int") 32 ∷ [])
    (all 83 ∷ [])
    ((0, 83) ∷ [])
    "typedef enum {\n\ty = 1,\n} * const volatile len;\n\nstruct /*union*/ \u{2} {\n\tint len;\n};\n\n"
    ∷ session 8 false  -- 1-32706-0
    (Void ∷ Int (ascii "s") 1 ∷ Array 4 4 ∷ Fwd false (ascii "s") ∷ Fwd false (ascii "y") ∷ Ptr 2
    ∷ Composite false (ascii "s") 30 (member "s" 1 0 0 ∷ [])
    ∷ FuncProto 10 (param "" 12 ∷ param "" 9 ∷ param "" 11 ∷ param "next" 10 ∷ param "node" 11 ∷ []) ∷ Typedef (ascii "__x") 7
    ∷ FuncProto 4 (param "" 5 ∷ []) ∷ Int (ascii "next") 32 ∷ FuncProto 4 [] ∷ Ptr 4 ∷ [])
    (all 143 ∷ [])
    ((0, 143) ∷ [])
    "struct y;\n\nstruct s;\n\nunion s___2 {\n\ts s;\n};\n\ntypedef next __x(struct y *, struct y(struct y(*)[4]), struct y(), next next, struct y node());\n\n"
    ∷ session 4 true  -- 1-32712-0
    (Void ∷ Typedef (ascii "preT") 2 ∷ Ptr 3 ∷ TypeTag false (ascii "aligned(4)") 4 ∷ Ptr 5 ∷ Ptr 6 ∷ Array 7 0 ∷ Ptr 8 ∷ Mod const 9 ∷ Mod volatile 10
    ∷ TypeTag false (ascii "") 11 ∷ FuncProto 12 [] ∷ Array 20 4 ∷ Typedef (ascii "x") 14 ∷ FuncProto 0 (param "" 15 ∷ [])
    ∷ FuncProto 16 (param "" 19 ∷ param "" 0 ∷ param "T" 0 ∷ []) ∷ Ptr 19 ∷ Typedef (ascii "len") 18 ∷ Ptr 21
    ∷ Enum false (ascii "") 4 (value "prex" 1 ∷ []) ∷ Composite true (ascii "") 4 (member "x" 21 0 0 ∷ []) ∷ Int (ascii "int") 32 ∷ [])
    (all 243 ∷ [])
    ((0, 243) ∷ [])
    "typedef struct {\n\tint x;\n} ( (volatile const  __attribute__((btf_type_tag(\"\"))) *(** __attribute__((btf_type_tag(\"aligned(4)\"))) *preT)[0])())[4];\n\ntypedef void x(enum {\n\tprex = 1,\n} *(enum {\n\tprex___2 = 1,\n}, void, ...));\n\ntypedef int *len;\n\n"
    ∷ session 8 false  -- 1-32940-0
    (Void ∷ Int (ascii "int") 32 ∷ Composite false (ascii "") 4 (member "y" 1 0 0 ∷ []) ∷ Enum false (ascii "_") 4 (value "x___2" 1 ∷ [])
    ∷ TypeTag true (ascii "aligned(4)") 1 ∷ TypeTag false (ascii "a b") 4 ∷ Mod restrict 5 ∷ FuncProto 6 (param "" 1 ∷ param "" 2 ∷ [])
    ∷ Mod restrict 7 ∷ FuncProto 8 [] ∷ Ptr 9 ∷ FuncProto 10 [] ∷ FuncProto 0 (param "m\"\\\n\t\r\u{1}" 11 ∷ []) ∷ Typedef (ascii "x___3") 12 ∷ [])
    (all 425 ∷ [])
    ((0, 176) ∷ [])
    "enum _ {\n\tx___2 = 1,\n};\n\ntypedef void x___3(int __attribute__((aligned(4)))restrict  __attribute__((btf_type_tag(\"a b\")))restrict  ( (*m\"\\\n\t\r\u{1}())())(int, union {\n\tint y;\n}));\n\n"
    ∷ session 8 true  -- 1-33929-2
    (Void ∷ Ptr 2 ∷ Typedef (ascii "x") 10 ∷ Ptr 4 ∷ Composite false (ascii "y\u{1}") 4 (member "x" 10 0 0 ∷ []) ∷ Ptr 6
    ∷ Composite false (ascii "x") 4 (member "" 10 0 0 ∷ [])
    ∷ Enum false (ascii "x___2") 4 (value "" 0 ∷ value "y\u{1}" 1 ∷ value "y\u{1}" 2 ∷ value "" 3 ∷ []) ∷ Ptr 9
    ∷ Composite true (ascii "x___2") 4 (member "x___2" 10 0 0 ∷ []) ∷ Int (ascii "int") 32 ∷ [])
    (one 285 7 ∷ [])
    ((0, 57) ∷ [])
    "enum x___2 {\n\t = 0,\n\ty\u{1} = 1,\n\ty\u{1}___2 = 2,\n\t___2 = 3,\n};\n\n"
    ∷ session 8 true  -- 1-34761-0
    (Void ∷ Int (ascii "") 64 ∷ Ptr 1 ∷ Ptr 4 ∷ Composite false (ascii "x") 4 (member "x\u{5}" 2 0 16 ∷ member "x\u{5}" 1 0 16 ∷ member "x" 3 0 0 ∷ [])
    ∷ [])
    (all 311 ∷ [])
    ((0, 70) ∷ [])
    "struct /*union*/ x {\n\t *x\u{5}: 16;\n\t x\u{5}: 16;\n\tstruct /*union*/ x *x;\n};\n\n"
    ∷ session 4 false  -- 1-35054-2
    (Void ∷ Composite true (ascii "\u{5}") 8 (member "E" 5 1 0 ∷ member "Ax" 7 26 3 ∷ member "len" 6 40 0 ∷ []) ∷ Int (ascii "long") 64
    ∷ Int (ascii "i128") 128
    ∷ Composite true (ascii "Ax") 96 (member "E" 5 80 0 ∷ member "buf" 2 192 0 ∷ member "data" 7 264 0 ∷ member "pre__x" 5 448 0 ∷ member "x___3" 7 764 0 ∷ [])
    ∷ Int (ascii "short") 16 ∷ Int (ascii "char") 8 ∷ Int (ascii "int") 32
    ∷ Composite true (ascii "x___3") 112 (member "a" 3 128 0 ∷ member "x" 2 352 35 ∷ member "\u{5}" 3 448 0 ∷ member "T" 5 856 0 ∷ []) ∷ [])
    (one 17 3 ∷ one 0 2 ∷ one 551 8 ∷ one 49864 4294967295 ∷ one 557 0 ∷ one 571 7 ∷ all 678 ∷ one 898 9 ∷ [])
    ((0, 0) ∷ (0, 0) ∷ (0, 264) ∷ (10, 264) ∷ (0, 264) ∷ (0, 264) ∷ (0, 678) ∷ (10, 678) ∷ [])
    "struct x___3 {\n\tint: 32;\n\tint: 32;\n\tint: 32;\n\tint: 32;\n\ti128 a;\n\tint: 32;\n\tint: 32;\n\tint: 32;\n\tlong x: 35;\n\tint: 29;\n\tint: 32;\n\ti128 \u{5};\n\tint: 24;\n\tint: 32;\n\tint: 32;\n\tint: 32;\n\tint: 32;\n\tint: 32;\n\tint: 32;\n\tint: 32;\n\tint: 32;\n\tshort T;\n} __attribute__((packed));\n\nstruct \u{5} {\n\tshort E;\n\tshort: 9;\n\tint Ax: 3;\n\tshort: 11;\n\tchar len;\n} __attribute__((packed));\n\nstruct Ax {\n\tint: 16;\n\tint: 32;\n\tint: 32;\n\tshort E;\n\tint: 32;\n\tint: 32;\n\tint: 32;\n\tlong buf;\n\tchar: 8;\n\tint data;\n\tint: 24;\n\tint: 32;\n\tint: 32;\n\tint: 32;\n\tint: 32;\n\tshort pre__x;\n\tint: 12;\n\tint: 32;\n\tint: 32;\n\tint: 32;\n\tint: 32;\n\tint: 32;\n\tint: 32;\n\tint: 32;\n\tint: 32;\n\tint: 32;\n\tint x___3;\n} __attribute__((packed));\n\n"
    ∷ session 8 true  -- 1-35217-0
    (Void ∷ Int (ascii "int") 32 ∷ Composite false (ascii "a") 4 (member "y" 1 0 0 ∷ []) ∷ Enum false (ascii "") 4 (value "y" 1 ∷ [])
    ∷ FuncProto 1 (param "a" 3 ∷ param "" 0 ∷ param "a" 0 ∷ []) ∷ Ptr 4 ∷ Ptr 5 ∷ Ptr 6 ∷ FuncProto 0 (param "flags" 7 ∷ [])
    ∷ Typedef (ascii "flags") 8 ∷ Mod volatile 3 ∷ Ptr 10 ∷ Array 11 8 ∷ FuncProto 12 (param "" 0 ∷ param "" 0 ∷ []) ∷ Typedef (ascii "flags") 13 ∷ [])
    (all 168 ∷ [])
    ((0, 168) ∷ [])
    "struct /*union*/ a {\n\tint y;\n};\n\ntypedef void flags(int (***flags)(enum {\n\ty = 1,\n} a, void, ...));\n\ntypedef volatile enum {\n\ty___2 = 1,\n} *(flags___2(void, ...))[8];\n\n"
    ∷ session 8 true  -- 1-35342-2
    (Void ∷ Int (ascii "int") 32 ∷ Composite true (ascii "preyx") 4 (member "yx" 1 0 0 ∷ []) ∷ Enum false (ascii "") 4 (value "y" 1 ∷ [])
    ∷ FuncProto 3 (param "" 3 ∷ []) ∷ Typedef (ascii "data") 4 ∷ Ptr 5 ∷ TypeTag false (ascii "packed") 6 ∷ Mod volatile 7 ∷ Ptr 8
    ∷ FuncProto 9 (param "" 7 ∷ []) ∷ FuncProto 0 (param "x___3" 10 ∷ []) ∷ Typedef (ascii "data") 11 ∷ [])
    (one 361 5 ∷ one 385 10 ∷ one 452 12 ∷ one 555 5 ∷ [])
    ((0, 54) ∷ (0, 54) ∷ (0, 190) ∷ (0, 190) ∷ [])
    "typedef enum {\n\ty = 1,\n} data(enum {\n\ty___2 = 1,\n});\n\ntypedef void data___2(data *volatile  __attribute__((btf_type_tag(\"packed\"))) *x___3(data * __attribute__((btf_type_tag(\"packed\")))));\n\n"
    ∷ session 4 false  -- 1-35597-2
    (Void ∷ FuncProto 5 (param "" 2 ∷ param "" 2 ∷ param "" 4 ∷ [])
    ∷ Composite true (ascii "") 3 (member "" 4 0 0 ∷ member "" 4 8 0 ∷ member "" 4 16 0 ∷ []) ∷ Typedef (ascii "\u{1}") 1 ∷ Int (ascii "") 7
    ∷ Fwd true (ascii "\u{1}") ∷ [])
    (all 373 ∷ one 74 1 ∷ all 383 ∷ [])
    ((0, 74) ∷ (0, 74) ∷ (0, 74) ∷ [])
    "union \u{1};\n\ntypedef union \u{1} \u{1}(struct {\n\t;\n\t;\n\t;\n}, struct {\n\t;\n\t;\n\t;\n}, );\n\n"
    ∷ session 8 true  -- 1-35972-2
    (Void ∷ Ptr 5 ∷ Typedef (ascii "u32") 5 ∷ TypeTag false (ascii "aligned(4)") 2 ∷ DeclTag true (ascii "user") 2 4294967295
    ∷ Fwd false (ascii "m\"\\\n\t\r\u{1}") ∷ [])
    (one 38 5 ∷ one 157 3 ∷ [])
    ((0, 17) ∷ (0, 68) ∷ [])
    "struct m\"\\\n\t\r\u{1};\n\ntypedef struct m\"\\\n\t\r\u{1} u32 __attribute__((user));\n\n"
    ∷ session 8 false  -- 1-36056-2
    (Void ∷ Composite true (ascii "b") 8 (member "" 6 0 0 ∷ []) ∷ FuncProto 5 (param "" 1 ∷ param "" 4 ∷ []) ∷ Typedef (ascii "") 2
    ∷ Composite true (ascii "y") 8 (member "x" 5 0 0 ∷ []) ∷ Int (ascii "int") 32 ∷ Ptr 3 ∷ [])
    (all 170 ∷ one 99 4294967295 ∷ all 99 ∷ one 99 1 ∷ [])
    ((0, 99) ∷ (10, 99) ∷ (0, 99) ∷ (0, 99) ∷ [])
    "struct b;\n\nstruct y;\n\ntypedef int(struct b, struct y);\n\nstruct b {\n\t *;\n};\n\nstruct y {\n\tint x;\n};\n\n"
    ∷ session 8 false  -- 1-36251-2
    (Void ∷ Int (ascii "int") 32 ∷ Composite true (ascii "preb") 4 (member "d\u{1}" 1 0 0 ∷ []) ∷ Enum false (ascii "") 4 (value "y" 1 ∷ []) ∷ Ptr 2
    ∷ Mod const 4 ∷ Array 5 5 ∷ FuncProto 0 (param "" 6 ∷ []) ∷ Typedef (ascii "d\u{1}") 7 ∷ Ptr 0 ∷ Ptr 9 ∷ Ptr 10 ∷ TypeTag false (ascii "x") 11
    ∷ Array 12 5 ∷ FuncProto 13 (param "E" 0 ∷ []) ∷ Mod volatile 14 ∷ Ptr 15 ∷ Composite true (ascii "E") 8 (member "b" 16 0 0 ∷ []) ∷ [])
    (one 200 1 ∷ one 59 12 ∷ all 152 ∷ one 267 7 ∷ one 520 3 ∷ one 152 14 ∷ [])
    ((0, 0) ∷ (0, 0) ∷ (0, 152) ∷ (0, 152) ∷ (0, 152) ∷ (0, 152) ∷ [])
    "struct preb {\n\tint d\u{1};\n};\n\ntypedef void d\u{1}(struct preb * const[5]);\n\nstruct E {\n\tvoid *** __attribute__((btf_type_tag(\"x\"))) (volatile  (*b)())[5];\n};\n\n"
    ∷ session 4 false  -- 1-36311-2
    (Void ∷ Int (ascii "data") 7 ∷ Composite true (ascii "x") 3 (member "" 3 0 0 ∷ member "data" 3 8 0 ∷ member "list_head" 1 16 0 ∷ []) ∷ Array 1 1
    ∷ [])
    (one 0 3 ∷ one 299 2 ∷ [])
    ((0, 0) ∷ (0, 57) ∷ [])
    "struct x {\n\tdata[1];\n\tdata data[1];\n\tdata list_head;\n};\n\n"
    ∷ session 8 true  -- 1-36324-0
    (Void ∷ Int (ascii "priv") 24 ∷ FuncProto 12 (param "x" 4 ∷ param "yx" 1 ∷ param "" 0 ∷ param "x___2" 1 ∷ param "" 0 ∷ [])
    ∷ Enum64 false (ascii "") 2 (value "" 18446744069414584320 ∷ value "s" 9223372036854775809 ∷ [])
    ∷ Composite true (ascii "y") 4 (member "flags" 15 0 2 ∷ member "prepriv" 3 2 1 ∷ [])
    ∷ Composite true (ascii "a") 16 (member "yx" 15 0 0 ∷ member "Ax" 6 64 0 ∷ member "state" 1 96 0 ∷ []) ∷ Float (ascii "next") 2
    ∷ Func (ascii "preb") ∷ Typedef (ascii "b") 14 ∷ Mod const 5 ∷ Datasec (ascii "") ∷ FuncProto 13 (param "E" 14 ∷ param "" 6 ∷ param "" 0 ∷ [])
    ∷ Composite false (ascii "") 0 [] ∷ FuncProto 9 (param "s" 9 ∷ param "prelist_head" 4 ∷ []) ∷ FuncProto 9 (param "" 5 ∷ param "" 15 ∷ [])
    ∷ Enum false (ascii "") 8 [] ∷ [])
    (all 460 ∷ [])
    ((0, 229) ∷ [])
    "struct y {\n\tenum flags: 2;\n\tenum {\n\t\t = 18446744069414584320ULL,\n\t\ts = 9223372036854775809ULL,\n\t} prepriv: 1;\n} __attribute__((packed));\n\nstruct a {\n\tenum yx;\n\tnext Ax;\n\tpriv state;\n};\n\ntypedef const struct a b(struct a, enum);\n\n"
    ∷ session 4 true  -- 1-37077-0
    (Void ∷ Int (ascii "data") 1 ∷ FuncProto 1 (param "" 11 ∷ []) ∷ Typedef (ascii "x") 2 ∷ Typedef (ascii "_") 2 ∷ Float (ascii "y") 4
    ∷ FuncProto 5 [] ∷ FuncProto 6 (param "x___2" 0 ∷ param "data" 10 ∷ param "_" 0 ∷ param "x___2" 4 ∷ param "" 0 ∷ [])
    ∷ Enum64 false (ascii "data") 8 (value "x" 6442450943 ∷ value "y" 9223372041405910034 ∷ value "y" 9223372036854775809 ∷ []) ∷ Mod restrict 8
    ∷ Ptr 8 ∷ Composite false (ascii "") 0 [] ∷ Mod const 8 ∷ [])
    (all 211 ∷ [])
    ((0, 178) ∷ [])
    "typedef data x(struct /*union*/ {});\n\ntypedef data _(struct /*union*/ {});\n\nenum data {\n\tx___2 = 6442450943ULL,\n\ty = 9223372041405910034ULL,\n\ty___2 = 9223372036854775809ULL,\n};\n\n"
    ∷ session 8 false  -- 1-37148-2
    (Void ∷ Typedef (ascii "buf") 2 ∷ FuncProto 0 (param "" 3 ∷ []) ∷ FuncProto 4 (param "priv" 0 ∷ []) ∷ Array 5 4 ∷ Mod restrict 6 ∷ Ptr 7
    ∷ Mod volatile 8 ∷ FuncProto 9 (param "" 15 ∷ param "" 0 ∷ []) ∷ Ptr 10 ∷ TypeTag true (ascii "aligned(4)") 11 ∷ Array 12 4 ∷ Array 13 3 ∷ Ptr 20
    ∷ Composite true (ascii "y") 32 (member "" 15 0 0 ∷ []) ∷ Mod const 16 ∷ Mod restrict 17 ∷ Array 18 4 ∷ Ptr 19 ∷ Mod volatile 22
    ∷ Enum false (ascii "") 4 (value "a" 1 ∷ []) ∷ Composite false (ascii "") 4 (member "s" 22 0 0 ∷ []) ∷ Int (ascii "int") 32 ∷ [])
    (one 0 4 ∷ one 44 4294967295 ∷ one 198 4 ∷ one 75 18 ∷ one 0 6 ∷ all 370 ∷ one 165 14 ∷ one 218 21 ∷ one 236 23 ∷ [])
    ((0, 0) ∷ (10, 0) ∷ (0, 0) ∷ (0, 0) ∷ (0, 0) ∷ (0, 165) ∷ (0, 165) ∷ (0, 165) ∷ (10, 165) ∷ [])
    "typedef void buf(enum {\n\ta = 1,\n} *( __attribute__((aligned(4))) *volatile  (* restrict(())[4])(volatile int *[4], ...))[4][3]);\n\nstruct y {\n\tvolatile int *[4];\n};\n\n"
    ∷ session 4 false  -- 1-37733-2
    (Void ∷ Int (ascii "int") 32 ∷ Composite false (ascii "flags") 4 (member "flags" 1 0 0 ∷ []) ∷ Enum false (ascii "x___3") 4 (value "yx" 1 ∷ [])
    ∷ Array 3 5 ∷ Array 4 3 ∷ Ptr 5 ∷ Mod restrict 6 ∷ Array 7 8 ∷ TypeTag false (ascii "a b") 8 ∷ Ptr 9
    ∷ Composite true (ascii "x___3") 8 (member "" 10 0 0 ∷ []) ∷ [])
    (one 30 2 ∷ one 174 13 ∷ all 154 ∷ one 390 13 ∷ one 204 3 ∷ [])
    ((0, 30) ∷ (10, 30) ∷ (0, 154) ∷ (10, 154) ∷ (0, 154) ∷ [])
    "union flags {\n\tint flags;\n};\n\nenum x___3 {\n\tyx = 1,\n};\n\nstruct x___3___2 {\n\tenum x___3(* restrict( __attribute__((btf_type_tag(\"a b\"))) *)[8])[3][5];\n};\n\n"
    ∷ session 8 true  -- 1-37866-0
    (Void ∷ Int (ascii "char") 8 ∷ Int (ascii "int") 32 ∷ Array 1 65536 ∷ Ptr 3 ∷ Array 4 0 ∷ Typedef (ascii "buf") 7 ∷ Array 4 4294967295 ∷ Array 2 1
    ∷ Composite true (ascii "x___3") 8 (member "flags" 5 0 0 ∷ [])
    ∷ Composite true (ascii "x") 8 (member "E" 6 64 0 ∷ member "x___3" 4 0 0 ∷ member "x" 2 0 0 ∷ [])
    ∷ Composite true (ascii "state") 8 (member "b" 4 8 0 ∷ member "y" 9 32 0 ∷ member "buf" 9 0 0 ∷ [])
    ∷ Composite false (ascii "priv") 8 (member "b" 8 4096 0 ∷ []) ∷ [])
    (all 385 ∷ [])
    ((16, 86) ∷ [])
    "typedef char (*buf[4294967295])[65536];\n\nstruct x___3 {\n\tchar (*flags[0])[65536];\n};\n\n"
    ∷ session 4 true  -- 1-38106-0
    (Void ∷ Int (ascii "y") 24 ∷ Ptr 1 ∷ Ptr 2 ∷ Composite true (ascii "y") 19 (member "" 5 94 1 ∷ member "x" 5 143 0 ∷ []) ∷ Int (ascii "_") 1
    ∷ TypeTag false (ascii "m\"\\\n\t\r\u{1}") 0 ∷ [])
    (all 248 ∷ [])
    ((0, 102) ∷ [])
    "struct y {\n\tint: 30;\n\tint: 32;\n\tint: 32;\n\t_: 1;\n\tint: 16;\n\tint: 32;\n\t_ x;\n} __attribute__((packed));\n\n"
    ∷ session 8 true  -- 1-38640-0
    (Void ∷ Int (ascii "prex") 255 ∷ Int (ascii "prem\"\\\n\t\r\u{1}") 32 ∷ Typedef (ascii "list_head") 2 ∷ Float (ascii "list_head") 8
    ∷ Fwd true (ascii "m\"\\\n\t\r\u{1}") ∷ Ptr 0 ∷ Ptr 4 ∷ Enum true (ascii "") 8 (value "x" 10 ∷ value "y" 3004817651 ∷ [])
    ∷ FuncProto 5 (param "" 1 ∷ []) ∷ FuncProto 16 (param "x" 7 ∷ param "m\"\\\n\t\r\u{1}" 6 ∷ []) ∷ Array 8 100 ∷ Var (ascii "m\"\\\n\t\r\u{1}")
    ∷ Int (ascii "x") 7 ∷ FuncProto 0 (param "" 10 ∷ param "" 10 ∷ param "" 10 ∷ []) ∷ FuncProto 9 (param "" 14 ∷ [])
    ∷ Composite true (ascii "x") 832 (member "" 11 225 0 ∷ member "m\"\\\n\t\r\u{1}" 7 193 0 ∷ []) ∷ [])
    (all 208 ∷ [])
    ((0, 208) ∷ [])
    "typedef prem\"\\\n\t\r\u{1} list_head;\n\nstruct /*union*/ m\"\\\n\t\r\u{1};\n\nstruct x {\n\tlong: 33;\n\tlong: 64;\n\tlong: 64;\n\tlong: 64;\n\tenum {\n\t\tx = 10,\n\t\ty = -1290149645,\n\t}[100];\n\tlist_head *m\"\\\n\t\r\u{1};\n} __attribute__((packed));\n\n"
    ∷ session 8 true  -- 1-39164-2
    (Void ∷ Int (ascii "prey") 32 ∷ TypeTag false (ascii "\u{7f}\u{7f}'%s") 14 ∷ Typedef (ascii "s") 2 ∷ FuncProto 3 [] ∷ Ptr 2 ∷ Typedef (ascii "E") 0
    ∷ Typedef (ascii "data") 14 ∷ Fwd false (ascii "x") ∷ Typedef (ascii "x") 8 ∷ Typedef (ascii "u32") 7 ∷ Ptr 3 ∷ Typedef (ascii "y") 10 ∷ Ptr 10
    ∷ Composite true (ascii "s") 32 (member "y" 5 0 0 ∷ member "x" 18 64 0 ∷ member "E" 21 128 0 ∷ member "data" 13 192 0 ∷ [])
    ∷ Enum64 false (ascii "y") 2 [] ∷ Ptr 13 ∷ TypeTag false (ascii "\u{7f}\u{7f}'%s") 13 ∷ Ptr 0 ∷ Typedef (ascii "x") 16 ∷ Array 14 0 ∷ Ptr 19
    ∷ Typedef (ascii "E") 4 ∷ Enum false (ascii "y") 8 (value "x" 4294967295 ∷ value "y" 0 ∷ []) ∷ [])
    (one 205 2 ∷ [])
    ((0, 169) ∷ [])
    "struct s;\n\ntypedef struct s data;\n\ntypedef data u32;\n\ntypedef u32 **x;\n\nstruct s {\n\tstruct s __attribute__((btf_type_tag(\"\u{7f}\u{7f}'%s\"))) *y;\n\tvoid *x;\n\tx *E;\n\tu32 *data;\n};\n\n"
    ∷ session 8 true  -- 1-39171-0
    (Void ∷ FuncProto 6 (param "" 8 ∷ param "flags" 0 ∷ param "" 0 ∷ []) ∷ Composite false (ascii "_") 4 (member "__x" 8 0 0 ∷ [])
    ∷ Enum false (ascii "y") 4 (value "E" 1 ∷ []) ∷ Ptr 2 ∷ Typedef (ascii "y") 7 ∷ Array 4 4 ∷ FuncProto 0 (param "" 1 ∷ []) ∷ Int (ascii "int") 32
    ∷ [])
    (all 122 ∷ [])
    ((0, 122) ∷ [])
    "struct /*union*/ _ {\n\tint __x;\n};\n\nenum y {\n\tE = 1,\n};\n\ntypedef void y(struct /*union*/ _ *((int, void flags, ...))[4]);\n\n"
    ∷ session 8 false  -- 1-39393-0
    (Void ∷ Int (ascii "int") 32 ∷ Composite true (ascii "") 4 (member "x" 1 0 0 ∷ []) ∷ Enum false (ascii "y") 4 (value "x" 1 ∷ []) ∷ Ptr 2
    ∷ TypeTag true (ascii "m\"\\\n\t\r\u{1}") 4 ∷ TypeTag true (ascii "\\\\") 5 ∷ Composite true (ascii "node") 8 (member "x___2" 14 0 0 ∷ [])
    ∷ Mod const 15 ∷ Ptr 8 ∷ Mod const 9 ∷ FuncProto 10 (param "" 1 ∷ []) ∷ Ptr 11 ∷ FuncProto 12 (param "" 9 ∷ []) ∷ Ptr 13 ∷ Mod volatile 6 ∷ [])
    (all 236 ∷ [])
    ((0, 236) ∷ [])
    "enum y {\n\tx = 1,\n};\n\nstruct node {\n\tstruct {\n\t\tint x;\n\t} * __attribute__((m\"\\\n\t\r\u{1}))volatile const  __attribute__((\\\\)) * const (* (*x___2)(struct {\n\t\tint x;\n\t} * __attribute__((m\"\\\n\t\r\u{1}))volatile const  __attribute__((\\\\)) *))(int);\n};\n\n"
    ∷ []
