-- Written by tools/vectors.py. Sections and requests of oracle/answers.cases, each beside the answers.
-- That they are equal is `sessions6_hold` of proofs/Sessions6.
use Rattle.std.specs.Prelude.{true, false, List, [], ◌∷◌}
use Rattle.spec_bytes.specs.text.Text.{ascii}
use Rattle.spec_c_dumper.specs.rules.Machine.{one, all}
use Rattle.proof_examples.specs.vectors.Base.{member, param, value, Vector, session}
use Rattle.spec_c_dumper.specs.rules.Types.{volatile, const, restrict, Void, Int, Ptr, Array, Composite, Enum, Enum64, Fwd, Typedef, Mod, Func, Var, Datasec, FuncProto, Float, DeclTag, TypeTag}

abbrev pub sessions6 : List Vector
sessions6 =
    session 8 false  -- 1-5313-0
    (Void ∷ Ptr 4 ∷ Ptr 12 ∷ DeclTag false (ascii "aligned(4)") 8 4294967295 ∷ Int (ascii "x") 32 ∷ Ptr 9 ∷ Ptr 0 ∷ Int (ascii "y") 24
    ∷ Typedef (ascii "_") 4 ∷ Mod volatile 4 ∷ Composite false (ascii "x") 4 (member "x" 4 0 0 ∷ []) ∷ Int (ascii "x") 32 ∷ Ptr 6 ∷ [])
    (all 150 ∷ [])
    ((0, 78) ∷ [])
    "typedef x _ __attribute__((btf_decl_tag(\"aligned(4)\")));\n\nunion x {\n\tx x;\n};\n\n"
    ∷ session 8 true  -- 1-5409-0
    (Void ∷ Int (ascii "int") 32 ∷ Ptr 9 ∷ FuncProto 0 (param "x___2" 2 ∷ []) ∷ Typedef (ascii "x___2") 15 ∷ Typedef (ascii "list_head") 3 ∷ Ptr 11
    ∷ Ptr 6 ∷ Ptr 0 ∷ Ptr 8 ∷ Enum false (ascii "") 4 (value "prex___2" 1 ∷ []) ∷ Mod const 1 ∷ Mod volatile 13 ∷ FuncProto 7 (param "x" 0 ∷ [])
    ∷ Composite true (ascii "") 4 (member "y" 1 0 0 ∷ []) ∷ FuncProto 0 (param "prex___2" 12 ∷ []) ∷ [])
    (all 94 ∷ [])
    ((0, 94) ∷ [])
    "typedef void x___2(const int **volatile prex___2());\n\ntypedef void list_head(void ***x___2);\n\n"
    ∷ session 4 false  -- 1-5496-0
    (Void ∷ Int (ascii "next") 32
    ∷ Composite true (ascii "u32") 12 (member "__x" 5 0 0 ∷ member "T" 1 32 0 ∷ member "yx" 3 64 0 ∷ member "" 10 96 0 ∷ [])
    ∷ Enum false (ascii "flags") 4 [] ∷ Typedef (ascii "ops") 1 ∷ Int (ascii "s") 7
    ∷ Composite false (ascii "") 12 (member "pre__x" 7 0 0 ∷ member "list_head" 5 0 0 ∷ []) ∷ Typedef (ascii "flags") 2 ∷ FuncProto 0 []
    ∷ Composite false (ascii "pre__x") 0 [] ∷ Int (ascii "E") 0
    ∷ Composite false (ascii "len") 12 (member "a" 6 0 64 ∷ member "x" 9 88 1 ∷ member "__x" 3 0 0 ∷ []) ∷ [])
    (all 14 ∷ [])
    ((15, 0) ∷ [])
    ""
    ∷ session 4 true  -- 1-5545-1
    (Void ∷ Int (ascii "y") 7 ∷ Ptr 6 ∷ DeclTag false (ascii "x") 2 0 ∷ Ptr 0 ∷ Enum false (ascii "y") 1 (value "9" 99 ∷ value "priv" 100 ∷ [])
    ∷ Int (ascii "prepriv") 7 ∷ [])
    (one 361 2 ∷ one 0 1 ∷ one 37 3 ∷ one 72 0 ∷ one 109 4 ∷ one 288 6 ∷ one 57649 5 ∷ all 316 ∷ [])
    ((0, 0) ∷ (0, 0) ∷ (0, 0) ∷ (0, 0) ∷ (0, 0) ∷ (0, 0) ∷ (0, 35) ∷ (0, 35) ∷ [])
    "enum y {\n\t9 = 99,\n\tpriv = 100,\n};\n\n"
    ∷ session 8 true  -- 1-5688-0
    (Void ∷ Int (ascii "pre__x") 16 ∷ Func (ascii "flags") ∷ FuncProto 4 (param "T" 11 ∷ []) ∷ Ptr 11 ∷ DeclTag false (ascii "aligned(4)") 15 0
    ∷ Composite true (ascii "__x") 8 (member "len" 4 0 0 ∷ []) ∷ TypeTag false (ascii "user") 15 ∷ Array 7 16 ∷ Float (ascii "state") 4 ∷ Ptr 15
    ∷ Enum64 false (ascii "__x") 3 (value "state" 4294967295 ∷ [])
    ∷ Enum true (ascii "prelen") 4 (value "predata" 3830031762 ∷ value "^" 999999999 ∷ value "len" 999999999 ∷ value "y" 999999999 ∷ value "next" 999999999 ∷ [])
    ∷ TypeTag false (ascii "user") 10 ∷ Func (ascii "u32") ∷ Typedef (ascii "state") 0 ∷ Var (ascii "") ∷ [])
    (all 211 ∷ [])
    ((0, 211) ∷ [])
    "enum __x {\n\tstate = 4294967295ULL,\n};\n\nstruct __x___2 {\n\tenum __x *len;\n};\n\ntypedef void state___2;\n\nenum prelen {\n\tpredata = -464935534,\n\t^ = 999999999,\n\tlen = 999999999,\n\ty = 999999999,\n\tnext = 999999999,\n};\n\n"
    ∷ session 8 true  -- 1-6159-0
    (Void ∷ Int (ascii "x") 0 ∷ TypeTag false (ascii "\"") 1 ∷ FuncProto 4 (param "y" 1 ∷ []) ∷ Fwd true (ascii "y")
    ∷ Composite true (ascii "x") 8 (member "y" 7 0 0 ∷ member "y" 6 32 0 ∷ member "y" 1 64 0 ∷ member "x" 4 64 0 ∷ [])
    ∷ Enum64 false (ascii "y") 4 (value "y" 431644213249 ∷ value "y" 427349245953 ∷ value "x" 9223372039002259455 ∷ []) ∷ Ptr 2 ∷ [])
    (all 315 ∷ [])
    ((15, 21) ∷ [])
    "struct /*union*/ y;\n\n"
    ∷ session 4 false  -- 1-6165-0
    (Void ∷ Int (ascii "y") 64 ∷ Ptr 1
    ∷ Composite false (ascii "y") 28 (member "" 13 0 5 ∷ member "y" 10 75 0 ∷ member "y" 11 0 0 ∷ member "" 6 0 0 ∷ member "" 16 0 1 ∷ member "y" 0 0 0 ∷ member "x" 2 0 0 ∷ member "x" 6 0 32 ∷ member "x" 2 32 0 ∷ member "x" 1 64 33 ∷ [])
    ∷ Composite true (ascii "y") 4 (member "x" 13 0 0 ∷ []) ∷ Int (ascii "x") 32
    ∷ Composite true (ascii "") 16 (member "x" 9 0 0 ∷ member "x" 13 64 0 ∷ member "x" 15 96 0 ∷ []) ∷ FuncProto 2 (param "" 4 ∷ []) ∷ Ptr 6 ∷ Ptr 5
    ∷ Typedef (ascii "y") 6 ∷ Enum64 true (ascii "y") 4 (value "y" 4294967294715249941 ∷ [])
    ∷ FuncProto 11 (param "" 11 ∷ param "y" 1 ∷ param "y" 11 ∷ [])
    ∷ Enum64 true (ascii "") 4 (value "y" 2 ∷ value "y" 9223372032559808513 ∷ value "y" 9846625951041978468 ∷ value "y" 9223372036854775808 ∷ value "x" 1242957202533122047 ∷ [])
    ∷ Fwd true (ascii "y") ∷ Mod const 14
    ∷ Composite true (ascii "y") 56 (member "x" 2 0 0 ∷ member "y" 13 64 0 ∷ member "x" 11 96 0 ∷ member "y" 13 128 0 ∷ member "y" 2 192 0 ∷ member "x" 15 256 0 ∷ member "y" 1 262 0 ∷ member "y" 2 384 0 ∷ [])
    ∷ [])
    (all 18 ∷ [])
    ((15, 0) ∷ [])
    ""
    ∷ session 4 false  -- 1-6200-2
    (Void ∷ FuncProto 3 [] ∷ Ptr 10 ∷ Ptr 5 ∷ Typedef (ascii "list_head") 7 ∷ Int (ascii "int") 32 ∷ TypeTag true (ascii "x") 14
    ∷ FuncProto 0 (param "m\"\\\n\t\r\u{1}" 2 ∷ []) ∷ Composite false (ascii "") 4 (member "list_head" 5 0 0 ∷ []) ∷ Ptr 13 ∷ Ptr 9
    ∷ Enum false (ascii "") 4 (value "Ax" 1 ∷ []) ∷ Mod restrict 1 ∷ FuncProto 6 (param "m\"\\\n\t\r\u{1}" 5 ∷ []) ∷ Ptr 12 ∷ [])
    (one 156 8 ∷ one 9806 7 ∷ one 0 8 ∷ all 391 ∷ one 92 4 ∷ one 92 0 ∷ one 92 2 ∷ [])
    ((0, 0) ∷ (0, 0) ∷ (0, 0) ∷ (0, 92) ∷ (0, 92) ∷ (0, 92) ∷ (0, 92) ∷ [])
    "typedef void list_head(int *restrict  (* __attribute__((x)) (***m\"\\\n\t\r\u{1})(int m\"\\\n\t\r\u{1}))());\n\n"
    ∷ session 4 true  -- 1-6201-0
    (Void ∷ Int (ascii "int") 32 ∷ Composite false (ascii "y") 4 (member "data" 1 0 0 ∷ []) ∷ Enum false (ascii "") 4 (value "data" 1 ∷ [])
    ∷ Mod const 0 ∷ FuncProto 0 (param "yx" 4 ∷ []) ∷ Typedef (ascii "data") 5 ∷ Mod const 1 ∷ Array 7 0 ∷ Ptr 8 ∷ Ptr 9 ∷ Array 10 3
    ∷ FuncProto 11 (param "x" 1 ∷ param "" 0 ∷ []) ∷ Mod const 12 ∷ FuncProto 0 (param "" 13 ∷ []) ∷ Typedef (ascii "node") 14 ∷ [])
    (all 514 ∷ [])
    ((0, 132) ∷ [])
    "struct /*union*/ y {\n\tint data;\n};\n\ntypedef void data(const void yx);\n\ntypedef void node(const int(**(const (int x, ...))[3])[0]);\n\n"
    ∷ session 4 true  -- 1-6225-0
    (Void ∷ Int (ascii "len") 32 ∷ Typedef (ascii "x") 1 ∷ Var (ascii "data") ∷ Typedef (ascii "flags") 1
    ∷ Enum64 false (ascii "") 1 (value "flags" 8589934591 ∷ value "flags" 2147483647 ∷ [])
    ∷ Enum true (ascii "Ax") 0 (value "__builtin_va_list" 2 ∷ [])
    ∷ Composite true (ascii "") 8 (member "predata" 0 0 0 ∷ member "y" 5 0 0 ∷ member "__x" 2 32 0 ∷ []) ∷ Mod const 7 ∷ Typedef (ascii "state") 7
    ∷ Composite true (ascii "Ax") 8 (member "data" 4 0 0 ∷ member "x__builtin_va_list" 2 32 0 ∷ []) ∷ [])
    (all 82 ∷ [])
    ((15, 74) ∷ [])
    "typedef len x;\n\ntypedef len flags;\n\nenum Ax {\n\t__builtin_va_list = 2,\n};\n\n"
    ∷ session 8 false  -- 1-6235-1
    (Void ∷ FuncProto 0 (param "E" 6 ∷ []) ∷ FuncProto 1 (param "flags" 1 ∷ param "" 1 ∷ param "" 1 ∷ [])
    ∷ FuncProto 0 (param "x" 0 ∷ param "m\"\\\n\t\r\u{1}" 1 ∷ param "m\"\\\n\t\r\u{1}" 0 ∷ []) ∷ Typedef (ascii "m\"\\\n\t\r\u{1}") 2 ∷ Ptr 4
    ∷ Enum64 false (ascii "x") 3 (value "x" 18446744069414584320 ∷ value "a" 47244640255 ∷ []) ∷ Typedef (ascii "E") 3 ∷ Array 5 4 ∷ [])
    (one 118 7 ∷ one 254 4 ∷ one 414 5 ∷ one 445 2 ∷ one 419 1 ∷ one 207 6 ∷ one 421 3 ∷ one 285 8 ∷ one 207 0 ∷ all 249 ∷ [])
    ((0, 118) ∷ (0, 207) ∷ (0, 207) ∷ (0, 207) ∷ (0, 207) ∷ (0, 207) ∷ (0, 207) ∷ (0, 207) ∷ (0, 207) ∷ (0, 207) ∷ [])
    "enum x {\n\tx = 18446744069414584320ULL,\n\ta = 47244640255ULL,\n};\n\ntypedef void E(void x, void m\"\\\n\t\r\u{1}(enum x E), ...);\n\ntypedef void (m\"\\\n\t\r\u{1}(void flags(enum x E), void(enum x E), void(enum x E)))(enum x E);\n\n"
    ∷ session 4 true  -- 1-6273-0
    (Void ∷ FuncProto 0 (param "" 13 ∷ []) ∷ Mod volatile 17 ∷ Mod restrict 12 ∷ FuncProto 14 (param "x" 8 ∷ []) ∷ Ptr 10 ∷ Int (ascii "int") 32
    ∷ Composite false (ascii "predata") 4 (member "state" 6 0 0 ∷ []) ∷ Typedef (ascii "y") 18 ∷ Mod const 5 ∷ Mod volatile 4
    ∷ Enum false (ascii "") 4 (value "y" 1 ∷ []) ∷ Mod volatile 16 ∷ Mod const 15 ∷ TypeTag false (ascii "x") 3 ∷ Mod volatile 9 ∷ Ptr 7 ∷ Ptr 6
    ∷ Array 2 6 ∷ Typedef (ascii "buf") 1 ∷ [])
    (all 226 ∷ [])
    ((0, 212) ∷ [])
    "typedef int * volatile y[6];\n\nstruct /*union*/ predata {\n\tint state;\n};\n\ntypedef void buf(struct /*union*/ predata * volatile restrict __attribute__((btf_type_tag(\"x\")))volatile  (* const volatile const)(y x));\n\n"
    ∷ session 8 false  -- 1-6354-0
    (Void ∷ Int (ascii "int") 32 ∷ Composite true (ascii "") 4 (member "state" 1 0 0 ∷ []) ∷ Enum false (ascii "x") 4 (value "next" 1 ∷ []) ∷ Array 2 8
    ∷ Mod const 4 ∷ Array 5 5 ∷ Ptr 6 ∷ Mod volatile 7 ∷ Ptr 8 ∷ Ptr 9 ∷ TypeTag false (ascii "rcu") 10
    ∷ FuncProto 11 (param "next" 0 ∷ param "x" 1 ∷ []) ∷ Mod restrict 12 ∷ Typedef (ascii "x") 13 ∷ Mod restrict 0 ∷ Array 15 7 ∷ Array 16 8
    ∷ TypeTag true (ascii "") 17 ∷ FuncProto 18 (param "E" 0 ∷ []) ∷ Mod volatile 19 ∷ Ptr 20 ∷ FuncProto 0 (param "" 21 ∷ [])
    ∷ Typedef (ascii "E") 22 ∷ [])
    (all 612 ∷ [])
    ((0, 218) ∷ [])
    "enum x {\n\tnext = 1,\n};\n\ntypedef struct {\n\tint state;\n} (* volatile ** __attribute__((btf_type_tag(\"rcu\")))restrict  x(void next, int x))[5][8];\n\ntypedef void E(restrict void( __attribute__(())volatile  (*)())[8][7]);\n\n"
    ∷ session 8 true  -- 1-6360-0
    (Void ∷ Fwd false (ascii "x") ∷ Composite false (ascii "") 24 (member "" 4 0 0 ∷ member "" 3 0 0 ∷ [])
    ∷ Composite false (ascii "x") 24 (member "" 4 0 0 ∷ member "x" 1 0 0 ∷ member "x" 1 0 0 ∷ member "x" 4 0 0 ∷ member "x" 1 192 0 ∷ member "y" 4 0 0 ∷ member "y" 1 0 0 ∷ member "y" 1 0 0 ∷ [])
    ∷ Composite true (ascii "y") 24 (member "x" 1 192 0 ∷ []) ∷ [])
    (all 266 ∷ [])
    ((15, 11) ∷ [])
    "struct x;\n\n"
    ∷ session 4 true  -- 1-6387-0
    (Void ∷ FuncProto 0 [] ∷ Mod volatile 1 ∷ DeclTag false (ascii "") 4 4294967295 ∷ Typedef (ascii "len") 2 ∷ [])
    (all 110 ∷ [])
    ((0, 64) ∷ [])
    "typedef voidvolatile  len() __attribute__((btf_decl_tag(\"\")));\n\n"
    ∷ session 8 true  -- 1-6395-2
    (Void ∷ Composite true (ascii "y") 122 (member "" 4 0 0 ∷ member "x" 5 353 0 ∷ member "x" 2 368 0 ∷ [])
    ∷ Composite true (ascii "x") 76 (member "" 4 0 0 ∷ member "" 4 301 0 ∷ member "y" 5 600 0 ∷ []) ∷ Array 5 16
    ∷ Composite true (ascii "m\"\\\n\t\r\u{1}") 37 (member "y" 3 105 0 ∷ member "m\"\\\n\t\r\u{1}" 3 253 1 ∷ member "y" 3 50 31 ∷ member "" 3 164 0 ∷ [])
    ∷ Int (ascii "m\"\\\n\t\r\u{1}") 7 ∷ [])
    (one 174 4 ∷ one 619 1 ∷ one 351 1 ∷ [])
    ((0, 174) ∷ (0, 351) ∷ (0, 351) ∷ [])
    "struct m\"\\\n\t\r\u{1} {\n\tlong: 41;\n\tlong: 64;\n\tm\"\\\n\t\r\u{1} y[16];\n\tint: 20;\n\tm\"\\\n\t\r\u{1} m\"\\\n\t\r\u{1}[16]: 1;\n\tm\"\\\n\t\r\u{1} y[16]: 31;\n\tlong: 19;\n\tlong: 64;\n\tm\"\\\n\t\r\u{1}[16];\n} __attribute__((packed));\n\nstruct x {\n\tstruct m\"\\\n\t\r\u{1};\n\tstruct m\"\\\n\t\r\u{1};\n\tm\"\\\n\t\r\u{1} y;\n} __attribute__((packed));\n\nstruct y {\n\tstruct m\"\\\n\t\r\u{1};\n\tlong: 57;\n\tm\"\\\n\t\r\u{1} x;\n\tstruct x x;\n} __attribute__((packed));\n\n"
    ∷ session 4 true  -- 1-6401-2
    (Void ∷ Int (ascii "len") 32 ∷ Composite false (ascii "len") 532 (member "" 7 0 0 ∷ member "y" 6 0 0 ∷ [])
    ∷ FuncProto 0 (param "" 1 ∷ param "" 7 ∷ [])
    ∷ Composite true (ascii "y") 688 (member "prex" 6 109 0 ∷ member "x" 7 653 0 ∷ member "len" 6 4909 0 ∷ member "prex" 8 5453 0 ∷ member "y" 1 5461 0 ∷ [])
    ∷ Typedef (ascii "len") 0
    ∷ Composite true (ascii "x") 68 (member "prey" 1 0 0 ∷ member "len" 1 32 0 ∷ member "x" 8 64 0 ∷ member "len" 1 96 0 ∷ member "prex" 8 128 0 ∷ member "y" 8 136 0 ∷ member "y" 1 160 0 ∷ member "y" 8 192 0 ∷ member "y" 8 200 0 ∷ member "y" 1 224 0 ∷ member "y" 8 256 0 ∷ member "prey" 8 264 0 ∷ member "prex" 5 296 0 ∷ member "y" 1 320 0 ∷ member "len" 8 352 0 ∷ member "prey" 1 384 0 ∷ member "prey" 1 416 0 ∷ member "prex" 1 448 0 ∷ member "prex" 8 480 0 ∷ member "" 8 488 0 ∷ member "y" 8 496 0 ∷ member "prex" 8 512 0 ∷ [])
    ∷ Composite true (ascii "len") 532 (member "len" 8 95 0 ∷ member "y" 6 128 0 ∷ member "x" 1 672 0 ∷ member "x" 1 704 0 ∷ member "y" 5 736 0 ∷ member "len" 8 736 0 ∷ member "prey" 8 786 0 ∷ member "" 6 800 0 ∷ member "" 6 1344 0 ∷ member "" 6 1888 0 ∷ member "x" 5 2432 0 ∷ member "y" 8 2432 0 ∷ member "" 6 2464 0 ∷ member "y" 1 3008 0 ∷ member "y" 8 3040 0 ∷ member "" 6 3072 0 ∷ member "x" 5 3616 0 ∷ member "x" 5 3616 0 ∷ member "prex" 1 3616 0 ∷ member "len" 1 3651 0 ∷ member "y" 6 3712 0 ∷ [])
    ∷ Int (ascii "prex") 7 ∷ [])
    (one 340 7 ∷ one 0 3 ∷ one 0 2 ∷ [])
    ((15, 0) ∷ (11, 0) ∷ (11, 0) ∷ [])
    ""
    ∷ session 8 true  -- 1-6411-0
    (Void ∷ Typedef (ascii "x") 0 ∷ Composite true (ascii "prex") 40 (member "prex" 7 0 0 ∷ member "x" 1 256 0 ∷ member "y" 4 256 0 ∷ [])
    ∷ FuncProto 8 (param "" 8 ∷ param "x" 9 ∷ [])
    ∷ Composite false (ascii "x") 8 (member "x" 10 0 0 ∷ member "x" 8 0 0 ∷ member "y" 10 15 0 ∷ member "y" 6 32 0 ∷ member "x" 8 0 0 ∷ member "x" 8 0 0 ∷ member "prex" 6 0 0 ∷ member "x" 8 0 0 ∷ [])
    ∷ DeclTag true (ascii "a b") 4 4294967295 ∷ Ptr 2
    ∷ Composite true (ascii "x") 32 (member "prex" 8 0 0 ∷ member "x" 1 8 0 ∷ member "x" 10 8 0 ∷ member "" 4 24 0 ∷ member "prex" 8 96 0 ∷ member "y" 10 111 0 ∷ member "prex" 4 119 0 ∷ member "" 4 183 0 ∷ [])
    ∷ Int (ascii "x") 1
    ∷ Composite true (ascii "x") 120 (member "y" 10 3 0 ∷ member "" 4 112 0 ∷ member "" 4 224 0 ∷ member "x" 8 307 0 ∷ member "x" 8 324 0 ∷ member "x" 10 344 0 ∷ member "prex" 10 402 0 ∷ member "" 4 576 0 ∷ member "y" 7 689 0 ∷ [])
    ∷ Mod restrict 8 ∷ FuncProto 8 (param "x" 0 ∷ []) ∷ [])
    (all 222 ∷ [])
    ((15, 17) ∷ [])
    "typedef void x;\n\n"
    ∷ session 4 false  -- 1-6487-1
    (Void ∷ Int (ascii "int") 32 ∷ Typedef (ascii "_") 3 ∷ FuncProto 4 (param "" 6 ∷ param "" 6 ∷ [])
    ∷ Composite true (ascii "_") 8 (member "x___2" 5 0 0 ∷ []) ∷ Ptr 2 ∷ Composite true (ascii "x___2") 7 (member "flags" 5 0 0 ∷ []) ∷ [])
    (one 56380 6 ∷ one 316 5 ∷ one 488 4 ∷ one 191 3 ∷ one 323 2 ∷ one 155 1 ∷ one 410 0 ∷ all 481 ∷ [])
    ((0, 129) ∷ (0, 129) ∷ (0, 155) ∷ (0, 155) ∷ (0, 155) ∷ (0, 155) ∷ (0, 155) ∷ (0, 155) ∷ [])
    "struct _;\n\nstruct x___2;\n\ntypedef struct _ _(struct x___2, struct x___2);\n\nstruct x___2 {\n\t_ *flags;\n} __attribute__((packed));\n\nstruct _ {\n\t_ *x___2;\n};\n\n"
    ∷ session 4 false  -- 1-6561-0
    (Void ∷ Int (ascii "int") 32 ∷ Composite false (ascii "") 4 (member "__x" 1 0 0 ∷ []) ∷ Enum false (ascii "") 4 (value "E" 1 ∷ [])
    ∷ FuncProto 2 (param "pre__x" 0 ∷ param "__x" 0 ∷ []) ∷ Mod const 4 ∷ Mod const 5 ∷ Ptr 6 ∷ Array 7 7
    ∷ FuncProto 8 (param "y" 3 ∷ param "" 0 ∷ param "" 8 ∷ []) ∷ Ptr 9 ∷ Array 10 1 ∷ Ptr 11 ∷ Ptr 12 ∷ Typedef (ascii "buf") 13 ∷ Mod const 6
    ∷ FuncProto 15 (param "" 1 ∷ param "" 13 ∷ []) ∷ Mod const 16 ∷ Mod restrict 17 ∷ FuncProto 18 (param "" 5 ∷ param "y" 0 ∷ param "pre__x" 0 ∷ [])
    ∷ Ptr 19 ∷ Composite true (ascii "E") 8 (member "__x" 20 0 0 ∷ []) ∷ [])
    (all 847 ∷ [])
    ((0, 500) ∷ [])
    "typedef union {\n\tint __x;\n}const const  (*( (*(**buf)[1])(enum {\n\tE = 1,\n} y, void, union {\n\tint __x;\n}const const  (*[7])(void pre__x, ...)))[7])(void pre__x, ...);\n\nstruct E {\n\tunion {\n\t\tint __x;\n\t}const const const  (const restrict  ( (*__x)(union {\n\t\tint __x;\n\t}const (void pre__x, ...), void y, ...))(int, union {\n\t\tint __x;\n\t}const const  (*( (*(**)[1])(enum {\n\t\tE___2 = 1,\n\t} y, void, union {\n\t\tint __x;\n\t}const const  (*[7])(void pre__x, ...)))[7])(void pre__x, ...)))(void pre__x, ...);\n};\n\n"
    ∷ session 4 false  -- 1-6756-0
    (Void ∷ Int (ascii "E") 255 ∷ Mod volatile 1 ∷ FuncProto 9 (param "" 2 ∷ param "pre\u{2}" 9 ∷ param "y" 5 ∷ param "" 1 ∷ param "pre\u{2}" 1 ∷ [])
    ∷ Ptr 3 ∷ Composite false (ascii "pre\u{2}") 4 (member "E" 7 0 32 ∷ member "b" 9 0 1 ∷ member "" 4 0 31 ∷ [])
    ∷ Composite true (ascii "b") 58 (member "" 5 0 0 ∷ member "u32" 1 32 0 ∷ member "E" 2 292 0 ∷ member "" 5 576 0 ∷ member "" 9 608 0 ∷ member "u32" 2 640 0 ∷ member "" 5 896 0 ∷ member "" 7 936 0 ∷ member "x" 1 960 0 ∷ [])
    ∷ Enum true (ascii "") 3 (value "u32" 3289798111 ∷ value "" 100 ∷ value "pre\u{2}" 2147483649 ∷ value "b" 2 ∷ value "y" 2147483647 ∷ [])
    ∷ Typedef (ascii "y") 0 ∷ Int (ascii "x") 7 ∷ FuncProto 8 (param "" 5 ∷ param "" 7 ∷ param "" 9 ∷ param "" 5 ∷ param "pre\u{2}" 7 ∷ [])
    ∷ FuncProto 7 (param "" 6 ∷ param "" 3 ∷ []) ∷ [])
    (all 600 ∷ [])
    ((0, 472) ∷ [])
    "union pre\u{2} {\n\tenum {\n\t\tu32 = -1005169185,\n\t\t = 100,\n\t\tpre\u{2} = -2147483647,\n\t\tb = 2,\n\t\ty = 2147483647,\n\t} E: 32;\n\tx b: 1;\n\tx (*)(volatile E, x pre\u{2}, union pre\u{2} y, E, E pre\u{2}): 31;\n};\n\nstruct b {\n\tunion pre\u{2};\n\tE u32;\n\tvolatile E E;\n\tint: 28;\n\tunion pre\u{2};\n\tx;\n\tint: 24;\n\tvolatile E u32;\n\tunion pre\u{2};\n\tchar: 8;\n\tenum {\n\t\tu32___2 = -1005169185,\n\t\t___2 = 100,\n\t\tpre\u{2}___2 = -2147483647,\n\t\tb___2 = 2,\n\t\ty___2 = 2147483647,\n\t};\n\tE x;\n} __attribute__((packed));\n\ntypedef void y___3;\n\n"
    ∷ session 4 true  -- 1-6840-0
    (Void ∷ Composite true (ascii "y") 6 (member "y" 3 0 8 ∷ member "y" 9 24 0 ∷ [])
    ∷ Composite true (ascii "y") 30 (member "y" 3 24 0 ∷ member "x" 1 139 0 ∷ member "y" 3 240 0 ∷ []) ∷ Mod const 0 ∷ FuncProto 6 []
    ∷ Func (ascii "y") ∷ Composite true (ascii "y") 42 (member "" 1 69 255 ∷ member "x" 1 51 0 ∷ member "y" 9 4 0 ∷ []) ∷ Array 11 1 ∷ Array 6 3
    ∷ Int (ascii "y") 24 ∷ Mod volatile 2
    ∷ Composite false (ascii "y") 43 (member "y" 2 176 64 ∷ member "" 6 0 16 ∷ member "y" 2 78 16 ∷ member "" 2 280 0 ∷ [])
    ∷ FuncProto 3 (param "y" 0 ∷ []) ∷ DeclTag false (ascii "x") 2 4294967295 ∷ [])
    (all 130 ∷ [])
    ((15, 39) ∷ [])
    "struct y {\n\tconst void y: 8;\n\ty y;\n};\n\n"
    ∷ session 8 false  -- 1-6842-2
    (Void ∷ Int (ascii "char") 8 ∷ Int (ascii "int") 32 ∷ Array 2 4294967295 ∷ Typedef (ascii "x___3") 3 ∷ Array 1 536870911
    ∷ Composite true (ascii "prex") 8 (member "a" 2 64 0 ∷ member "b" 4 8 0 ∷ []) ∷ Mod const 11 ∷ Array 2 536870911
    ∷ Composite false (ascii "Ax") 2147483648 (member "a" 5 0 0 ∷ [])
    ∷ Composite true (ascii "priv") 8 (member "list_head" 7 8 0 ∷ member "x___3" 5 0 0 ∷ []) ∷ Array 1 2 ∷ [])
    (one 410 10 ∷ one 154 1 ∷ [])
    ((0, 72) ∷ (0, 72) ∷ [])
    "struct priv {\n\tchar: 8;\n\tchar list_head[2];\n\tchar x___3[536870911];\n};\n\n"
    ∷ session 8 true  -- 1-6885-0
    (Void ∷ Int (ascii "int") 32 ∷ Composite false (ascii "") 4 (member "yx" 1 0 0 ∷ []) ∷ Enum false (ascii "u32") 4 (value "y" 1 ∷ [])
    ∷ Mod volatile 2 ∷ FuncProto 4 (param "x" 2 ∷ []) ∷ Ptr 5 ∷ Composite true (ascii "list_head") 8 (member "" 6 0 0 ∷ []) ∷ Array 3 1
    ∷ FuncProto 8 (param "u32" 3 ∷ param "" 2 ∷ []) ∷ Ptr 9 ∷ Composite true (ascii "y") 8 (member "preu32" 10 0 0 ∷ []) ∷ Mod restrict 1 ∷ Array 12 2
    ∷ Mod const 13 ∷ FuncProto 14 (param "u32" 2 ∷ param "" 13 ∷ param "" 0 ∷ []) ∷ FuncProto 0 (param "" 15 ∷ []) ∷ Typedef (ascii "u32") 16 ∷ [])
    (all 312 ∷ [])
    ((0, 312) ∷ [])
    "enum u32 {\n\ty = 1,\n};\n\nstruct list_head {\n\tvolatile struct /*union*/ {\n\t\tint yx;\n\t} (*)(struct /*union*/ {\n\t\tint yx;\n\t} x);\n};\n\nstruct y {\n\tenum u32 ( (*preu32)(enum u32 u32, struct /*union*/ {\n\t\tint yx;\n\t}))[1];\n};\n\ntypedef void u32(restrict int((struct /*union*/ {\n\tint yx;\n} u32, restrict int[2], ...))[2]);\n\n"
    ∷ session 4 true  -- 1-6923-2
    (Void ∷ Int (ascii "x") 64
    ∷ Composite false (ascii "next") 4 (member "a" 16 0 31 ∷ member "x___2" 8 0 1 ∷ member "x___2" 4 0 0 ∷ member "yx" 4 0 31 ∷ [])
    ∷ Typedef (ascii "next") 0 ∷ Ptr 1
    ∷ Composite true (ascii "next") 456 (member "" 16 47 8 ∷ member "next" 14 55 33 ∷ member "prenext" 14 155 1 ∷ member "a" 16 305 0 ∷ member "y" 2 497 255 ∷ member "yx" 1 753 16 ∷ member "prenext" 1 832 0 ∷ member "yx" 14 1088 2 ∷ member "yx" 1 1092 2 ∷ member "a" 8 1344 0 ∷ member "next" 16 1608 31 ∷ member "a" 2 1767 16 ∷ member "state" 8 1903 16 ∷ member "" 2 1919 5 ∷ member "" 2 2196 1 ∷ member "state" 16 2365 16 ∷ member "prenext" 16 2447 1 ∷ member "" 16 2453 8 ∷ member "yx" 1 2503 16 ∷ member "__x" 14 2567 0 ∷ member "__x" 8 2693 0 ∷ member "next" 16 2891 0 ∷ member "x___2" 1 3083 8 ∷ member "y" 1 3248 0 ∷ member "a" 3 3320 64 ∷ member "buf" 4 3512 8 ∷ member "yx" 14 3561 31 ∷ [])
    ∷ Composite true (ascii "_") 280 (member "y" 14 280 0 ∷ member "a" 1 464 0 ∷ member "state" 8 701 0 ∷ member "prenext" 4 832 0 ∷ member "y" 14 923 0 ∷ member "buf" 16 1312 0 ∷ member "_" 4 1432 0 ∷ member "yx" 8 1728 0 ∷ member "" 4 2000 0 ∷ member "x" 1 2119 0 ∷ [])
    ∷ DeclTag false (ascii "m\"\\\n\t\r\u{1}") 9 1 ∷ TypeTag true (ascii "m\"\\\n\t\r\u{1}") 4
    ∷ Composite true (ascii "b") 56 (member "yx" 3 0 0 ∷ member "" 2 192 0 ∷ member "b" 8 384 0 ∷ []) ∷ Composite true (ascii "_") 0 [] ∷ Array 10 16
    ∷ Composite true (ascii "y") 624 (member "__x" 14 0 8 ∷ member "yx" 11 8 0 ∷ member "" 6 256 0 ∷ member "x___2" 9 2496 0 ∷ member "_" 1 2560 0 ∷ member "" 6 2624 31 ∷ member "" 6 2688 0 ∷ member "a" 1 4928 0 ∷ [])
    ∷ FuncProto 12 (param "" 0 ∷ param "" 5 ∷ []) ∷ Ptr 8
    ∷ Composite true (ascii "y") 2224 (member "yx" 16 192 0 ∷ member "" 9 348 0 ∷ member "" 12 992 0 ∷ member "" 2 5992 0 ∷ member "len" 9 6232 0 ∷ member "y" 1 6804 0 ∷ member "_" 14 6976 0 ∷ member "" 2 7072 0 ∷ member "x" 10 7104 0 ∷ member "x" 8 7344 0 ∷ member "next" 11 7560 0 ∷ member "buf" 11 7688 0 ∷ member "" 2 7776 0 ∷ member "next" 14 7812 0 ∷ member "" 6 7883 0 ∷ member "yx" 11 10185 0 ∷ member "" 6 10304 0 ∷ member "x___2" 3 12600 0 ∷ member "state" 11 12660 0 ∷ member "buf" 1 12678 0 ∷ member "" 12 12769 0 ∷ [])
    ∷ Ptr 13 ∷ [])
    (one 1057 13 ∷ one 234 16 ∷ all 0 ∷ [])
    ((15, 0) ∷ (11, 0) ∷ (11, 0) ∷ [])
    ""
    ∷ session 8 false  -- 1-6957-0
    (Void ∷ Mod const 0 ∷ Int (ascii "__builtin_va_lis") 1 ∷ Mod const 5 ∷ Fwd false (ascii "data") ∷ Array 1 1 ∷ Datasec (ascii "flags") ∷ Array 1 16
    ∷ FuncProto 2 (param "" 0 ∷ param "flags" 7 ∷ []) ∷ Ptr 7 ∷ Mod volatile 8 ∷ Array 9 4 ∷ Typedef (ascii "x") 5 ∷ Typedef (ascii "x___2") 10
    ∷ Ptr 5 ∷ Array 11 1 ∷ Int (ascii "") 7 ∷ FuncProto 18 (param "" 0 ∷ param "data" 13 ∷ []) ∷ Fwd true (ascii "E") ∷ [])
    (all 53953 ∷ [])
    ((0, 120) ∷ [])
    "struct data;\n\ntypedef const void x[1];\n\ntypedef __builtin_va_lisvolatile  x___2(void, const void flags[16]);\n\nunion E;\n\n"
    ∷ session 8 false  -- 1-6985-1
    (Void ∷ FuncProto 3 [] ∷ Ptr 1 ∷ Composite false (ascii "a") 24 (member "y" 2 157 32 ∷ member "prea" 2 0 0 ∷ member "a" 2 0 5 ∷ [])
    ∷ Composite true (ascii "a") 64 (member "" 3 192 0 ∷ member "y" 6 384 0 ∷ member "prea" 6 432 0 ∷ [])
    ∷ Composite false (ascii "x") 3 (member "y" 6 0 0 ∷ []) ∷ Int (ascii "a") 24 ∷ [])
    (one 0 6 ∷ one 162 5 ∷ one 588 4 ∷ one 228 3 ∷ one 215 2 ∷ one 215 1 ∷ one 602 0 ∷ [])
    ((0, 0) ∷ (0, 20) ∷ (0, 215) ∷ (0, 215) ∷ (0, 215) ∷ (0, 215) ∷ (0, 215) ∷ [])
    "union x {\n\ta y;\n};\n\nunion a {\n\tlong: 29;\n\tlong: 64;\n\tlong: 64;\n\tunion a (*y)(): 32;\n\tunion a (*prea)();\n\tunion a (*a)(): 5;\n};\n\nstruct a___2 {\n\tlong: 64;\n\tlong: 64;\n\tlong: 64;\n\tunion a;\n\ta y;\n\tint: 24;\n\ta prea;\n};\n\n"
    ∷ session 8 false  -- 1-7019-2
    (Void ∷ Int (ascii "y") 0 ∷ Enum true (ascii "y") 4 (value "y" 1703053639 ∷ []) ∷ Composite true (ascii "x") 19 (member "y" 5 152 0 ∷ [])
    ∷ Composite true (ascii "x") 3 (member "x" 1 16 2 ∷ []) ∷ TypeTag false (ascii "x") 1 ∷ [])
    (one 0 3 ∷ one 233 3 ∷ one 167 6 ∷ [])
    ((15, 0) ∷ (11, 0) ∷ (11, 0) ∷ [])
    ""
    ∷ session 8 false  -- 1-7054-1
    (Void ∷ Int (ascii "y") 255 ∷ Ptr 1 ∷ FuncProto 2 (param "y" 2 ∷ param "" 2 ∷ param "" 2 ∷ [])
    ∷ Enum true (ascii "y") 0 (value "u32" 0 ∷ value "x" 2147483647 ∷ value "y" 999999999 ∷ value "m\"\\\n\t\r\u{1}" 2147483648 ∷ value "u32" 2618997457 ∷ [])
    ∷ Mod volatile 4 ∷ Array 0 4 ∷ Typedef (ascii "x") 6
    ∷ Composite true (ascii "") 520 (member "m\"\\\n\t\r\u{1}" 4 253 0 ∷ member "m\"\\\n\t\r\u{1}" 7 24 0 ∷ member "u32" 9 26 0 ∷ []) ∷ Array 1 16
    ∷ Typedef (ascii "y") 1
    ∷ Composite true (ascii "y") 8 (member "x" 0 0 0 ∷ member "x" 2 0 0 ∷ member "" 5 64 0 ∷ member "m\"\\\n\t\r\u{1}" 4 64 0 ∷ []) ∷ [])
    (one 67869 1 ∷ one 104 11 ∷ one 256 0 ∷ one 0 4 ∷ [])
    ((0, 0) ∷ (15, 0) ∷ (11, 0) ∷ (11, 0) ∷ [])
    ""
    ∷ session 8 false  -- 1-7129-1
    (Void ∷ Mod const 2 ∷ Int (ascii "m\"\\\n\t\r\u{1}") 128 ∷ FuncProto 1 (param "priv" 5 ∷ param "" 2 ∷ [])
    ∷ Composite false (ascii "_") 16 (member "prestate" 2 0 0 ∷ []) ∷ Int (ascii "node") 64 ∷ Typedef (ascii "s") 3 ∷ [])
    (one 95 0 ∷ one 0 2 ∷ one 0 3 ∷ one 33 4 ∷ one 432 5 ∷ one 33 1 ∷ one 315 6 ∷ [])
    ((0, 0) ∷ (0, 0) ∷ (0, 0) ∷ (0, 33) ∷ (0, 33) ∷ (0, 33) ∷ (0, 79) ∷ [])
    "union _ {\n\tm\"\\\n\t\r\u{1} prestate;\n};\n\ntypedef const m\"\\\n\t\r\u{1} s(node priv, m\"\\\n\t\r\u{1});\n\n"
    ∷ session 4 false  -- 1-7339-1
    (Void ∷ Int (ascii "x___3") 64 ∷ Composite true (ascii "x___3") 4 (member "data" 1 0 8 ∷ member "" 1 8 1 ∷ member "x___3" 1 9 5 ∷ []) ∷ [])
    (one 294 2 ∷ one 250 0 ∷ one 129 1 ∷ all 63 ∷ [])
    ((0, 63) ∷ (0, 63) ∷ (0, 63) ∷ (0, 63) ∷ [])
    "struct x___3 {\n\tx___3 data: 8;\n\tx___3: 1;\n\tx___3 x___3: 5;\n};\n\n"
    ∷ session 4 false  -- 1-7344-0
    (Void ∷ Mod const 13 ∷ Composite true (ascii "") 4 (member "_" 14 0 0 ∷ []) ∷ Enum false (ascii "_") 4 (value "x___3" 1 ∷ []) ∷ Mod const 3
    ∷ Mod const 4 ∷ Array 5 3 ∷ FuncProto 6 (param "" 2 ∷ param "" 3 ∷ param "x___3" 14 ∷ []) ∷ Ptr 7
    ∷ Composite true (ascii "s") 8 (member "state" 8 0 0 ∷ []) ∷ Ptr 3 ∷ Mod restrict 1 ∷ Mod const 15 ∷ Ptr 12 ∷ Int (ascii "int") 32
    ∷ FuncProto 10 (param "" 6 ∷ []) ∷ Typedef (ascii "x___3") 11 ∷ [])
    (all 299 ∷ [])
    ((0, 194) ∷ [])
    "enum _ {\n\tx___3 = 1,\n};\n\nstruct s {\n\tconst const enum _ ( (*state)(struct {\n\t\tint _;\n\t}, enum _, int x___3))[3];\n};\n\ntypedef enum _ *const  (* const restrict x___3___2)(const const enum _[3]);\n\n"
    ∷ session 4 true  -- 1-7404-0
    (Void ∷ Var (ascii "next") ∷ Int (ascii "") 16 ∷ Array 10 2 ∷ Typedef (ascii "b") 5 ∷ FuncProto 11 (param "next" 10 ∷ []) ∷ Int (ascii "_") 7
    ∷ Fwd false (ascii "a__builtin_va_list___2")
    ∷ Enum false (ascii "next") 8 (value "next" 2147483647 ∷ value "u32" 999999999 ∷ value "s" 99 ∷ value "a__builtin_va_list___2" 99 ∷ value "b" 2147483648 ∷ [])
    ∷ DeclTag false (ascii "rcu") 4 0 ∷ Int (ascii "_") 32 ∷ FuncProto 7 [] ∷ [])
    (all 142 ∷ [])
    ((0, 142) ∷ [])
    ";\n\ntypedef  (b(_ next))();\n\nenum next {\n\tnext = 2147483647,\n\tu32 = 999999999,\n\ts = 99,\n\ta__builtin_va_list___2 = 99,\n\tb___2 = 2147483648,\n};\n\n"
    ∷ session 4 true  -- 1-7410-0
    (Void ∷ Int (ascii "char") 8 ∷ Int (ascii "int") 32 ∷ Array 2 1 ∷ Array 3 268435457 ∷ Ptr 4 ∷ Array 5 1073741824
    ∷ Composite true (ascii "") 2147483648 (member "_" 5 0 0 ∷ []) ∷ Composite false (ascii "b") 8 (member "_" 5 32 0 ∷ [])
    ∷ Composite true (ascii "b") 8 (member "__x" 7 32 0 ∷ []) ∷ [])
    (all 76326 ∷ [])
    ((16, 60) ∷ [])
    "struct /*union*/ b {\n\tint: 32;\n\tint (*_)[268435457][1];\n};\n\n"
    ∷ session 8 true  -- 1-7423-1
    (Void ∷ Typedef (ascii "y") 2 ∷ Composite false (ascii "") 0 []
    ∷ Composite true (ascii "y") 42 (member "x" 1 0 0 ∷ member "" 2 0 255 ∷ member "y" 5 255 64 ∷ member "" 2 319 16 ∷ []) ∷ Mod restrict 1
    ∷ Typedef (ascii "x") 2 ∷ Func (ascii "y") ∷ [])
    (one 204 2 ∷ one 310 3 ∷ one 194 5 ∷ one 488 1 ∷ one 345 0 ∷ one 157 6 ∷ one 150 4 ∷ [])
    ((0, 0) ∷ (0, 150) ∷ (0, 150) ∷ (0, 150) ∷ (0, 150) ∷ (0, 150) ∷ (0, 150) ∷ [])
    "typedef struct /*union*/ {} y;\n\ntypedef struct /*union*/ {} x;\n\nstruct y {\n\ty x;\n\tstruct /*union*/ {\t}: 255;\n\tx y: 64;\n\tstruct /*union*/ {\t}: 16;\n};\n\n"
    ∷ session 8 false  -- 1-7464-0
    (Void ∷ Composite true (ascii "s") 8 (member "s" 7 8 0 ∷ []) ∷ Composite false (ascii "preT") 536870912 (member "T" 7 0 0 ∷ [])
    ∷ Typedef (ascii "next") 4 ∷ Array 5 536870911 ∷ Array 6 2147483648 ∷ Int (ascii "int") 32 ∷ Int (ascii "char") 8 ∷ [])
    (all 289 ∷ [])
    ((0, 102) ∷ [])
    "struct s {\n\tchar: 8;\n\tchar s;\n};\n\nunion preT {\n\tchar T;\n};\n\ntypedef int next[536870911][2147483648];\n\n"
    ∷ session 4 false  -- 1-7519-1
    (Void ∷ FuncProto 4 (param "x" 0 ∷ param "" 6 ∷ []) ∷ Array 0 2 ∷ Ptr 1
    ∷ Composite true (ascii "E") 56 (member "x" 5 0 64 ∷ member "y" 3 64 255 ∷ member "E" 5 368 0 ∷ []) ∷ Array 3 1
    ∷ Composite true (ascii "x___3") 88 (member "yx" 4 104 0 ∷ member "b" 5 576 0 ∷ member "x" 4 640 31 ∷ []) ∷ [])
    (one 695 6 ∷ one 630 5 ∷ one 377 4 ∷ one 377 3 ∷ one 555 2 ∷ one 648 1 ∷ one 436 0 ∷ [])
    ((0, 377) ∷ (0, 377) ∷ (0, 377) ∷ (0, 377) ∷ (0, 377) ∷ (0, 377) ∷ (0, 377) ∷ [])
    "struct x___3;\n\nstruct E {\n\tstruct E (*x[1])(void x, struct x___3): 64;\n\tstruct E (*y)(void x, struct x___3): 255;\n\tint: 17;\n\tint: 32;\n\tstruct E (*E[1])(void x, struct x___3);\n} __attribute__((packed));\n\nstruct x___3 {\n\tint: 8;\n\tint: 32;\n\tint: 32;\n\tint: 32;\n\tstruct E yx;\n\tint: 24;\n\tstruct E (*b[1])(void x, struct x___3);\n\tint: 32;\n\tstruct E x: 31;\n} __attribute__((packed));\n\n"
    ∷ session 8 false  -- 1-7553-2
    (Void ∷ Composite true (ascii "u32") 8 (member "buf" 0 0 5 ∷ member "__x" 4 8 0 ∷ member "" 5 16 8 ∷ [])
    ∷ Enum false (ascii "x") 0 (value "Ax" 100 ∷ value "__x" 2 ∷ value "" 305146969 ∷ value "buf" 1 ∷ value "E" 2147483647 ∷ [])
    ∷ Composite true (ascii "s") 128 (member "__x" 0 176 5 ∷ member "priv" 10 246 16 ∷ member "__x" 13 265 0 ∷ member "prebuf" 5 271 16 ∷ member "E" 2 290 0 ∷ member "" 5 306 1 ∷ member "list_head" 12 419 5 ∷ member "buf" 5 560 0 ∷ member "buf" 12 976 33 ∷ [])
    ∷ Int (ascii "preu32") 7 ∷ Composite false (ascii "priv") 52 (member "prebuf" 10 0 5 ∷ member "s" 8 0 0 ∷ []) ∷ Mod const 0
    ∷ Composite true (ascii "u32") 0 [] ∷ Int (ascii "yx") 128 ∷ DeclTag false (ascii "rcu") 1 4294967294 ∷ Ptr 11 ∷ FuncProto 13 []
    ∷ Typedef (ascii "u32") 4 ∷ Int (ascii "__x") 0 ∷ [])
    (one 87 0 ∷ one 151 4294967295 ∷ one 11 0 ∷ one 462 3 ∷ one 0 1 ∷ one 201 3 ∷ [])
    ((0, 0) ∷ (10, 0) ∷ (0, 0) ∷ (15, 0) ∷ (11, 0) ∷ (11, 0) ∷ [])
    ""
    ∷ session 8 true  -- 1-7677-0
    (Void ∷ Typedef (ascii "b") 2 ∷ FuncProto 0 (param "b" 3 ∷ []) ∷ FuncProto 10 (param "x" 0 ∷ param "" 10 ∷ param "x" 4 ∷ [])
    ∷ Typedef (ascii "prey") 5 ∷ Ptr 6 ∷ FuncProto 7 (param "" 13 ∷ param "" 13 ∷ param "" 0 ∷ []) ∷ Mod const 8
    ∷ TypeTag false (ascii "aligned(4)") 9 ∷ Ptr 10 ∷ Ptr 11 ∷ Ptr 12 ∷ TypeTag false (ascii "rcu") 15
    ∷ Enum false (ascii "priv") 4 (value "a" 1 ∷ []) ∷ Composite true (ascii "") 4 (member "y" 15 0 0 ∷ []) ∷ Int (ascii "int") 32 ∷ [])
    (all 434 ∷ [])
    ((0, 288) ∷ [])
    "enum priv {\n\ta = 1,\n};\n\ntypedef int __attribute__((btf_type_tag(\"rcu\"))) ***const  __attribute__((btf_type_tag(\"aligned(4)\"))) (*prey)(enum priv, enum priv, ...);\n\ntypedef void b(int __attribute__((btf_type_tag(\"rcu\"))) **b(void x, int __attribute__((btf_type_tag(\"rcu\"))) **, prey x));\n\n"
    ∷ session 4 true  -- 1-7751-2
    (Void ∷ Int (ascii "char") 8 ∷ Int (ascii "short") 16 ∷ Int (ascii "int") 32 ∷ Int (ascii "long") 64 ∷ Int (ascii "i1\u{1}8") 128
    ∷ Composite true (ascii "list_head") 72 (member "list_head" 4 128 0 ∷ member "Ax" 2 272 0 ∷ member "len" 4 320 0 ∷ member "Ax" 5 399 0 ∷ member "Ax" 3 544 0 ∷ [])
    ∷ Composite false (ascii "yx") 80 (member "Ax" 2 96 0 ∷ member "buf" 3 160 0 ∷ member "E" 3 204 0 ∷ member "list_head" 3 364 0 ∷ member "x" 2 492 0 ∷ member "x" 2 608 0 ∷ [])
    ∷ Composite true (ascii "buf") 8 (member "list_head" 3 32 0 ∷ [])
    ∷ Composite true (ascii "x___2") 32 (member "x___3" 2 8 11 ∷ member "flags" 5 55 0 ∷ member "x___2" 1 191 5 ∷ [])
    ∷ Composite true (ascii "x___2") 512 (member "x" 6 0 0 ∷ member "x" 7 512 0 ∷ member "x" 8 1024 0 ∷ member "x" 9 1536 0 ∷ []) ∷ [])
    (one 263 9 ∷ one 129 11 ∷ one 379 7 ∷ one 379 11 ∷ [])
    ((0, 129) ∷ (10, 129) ∷ (0, 379) ∷ (10, 379) ∷ [])
    "struct x___2 {\n\tchar: 8;\n\tshort x___3: 11;\n\tint: 4;\n\tint: 32;\n\ti1\u{1}8 flags;\n\tchar: 8;\n\tchar x___2: 5;\n} __attribute__((packed));\n\nstruct /*union*/ yx {\n\tint: 32;\n\tint: 32;\n\tint: 32;\n\tshort Ax;\n\tint: 16;\n\tint: 32;\n\tint buf;\n\tint E;\n\tint: 32;\n\tint: 32;\n\tint: 32;\n\tint: 32;\n\tint list_head;\n\tint: 32;\n\tint: 32;\n\tint: 32;\n\tshort x;\n\tint: 4;\n\tint: 32;\n\tint: 32;\n\tint: 32;\n\tshort x;\n};\n\n"
    ∷ session 8 true  -- 1-7770-0
    (Void ∷ Composite true (ascii "prey") 8 (member "y" 2 0 0 ∷ []) ∷ Ptr 3 ∷ FuncProto 4 (param "prey" 0 ∷ []) ∷ Mod volatile 5 ∷ Ptr 0
    ∷ Typedef (ascii "m\"\\\n\t\r\u{1}") 7 ∷ FuncProto 0 (param "" 8 ∷ []) ∷ FuncProto 9 (param "" 10 ∷ []) ∷ FuncProto 10 (param "prey" 17 ∷ [])
    ∷ Ptr 11 ∷ Array 12 0 ∷ Array 13 7 ∷ Array 14 6 ∷ TypeTag false (ascii "rcu") 15 ∷ Enum false (ascii "y") 4 (value "x" 1 ∷ [])
    ∷ Composite false (ascii "m\"\\\n\t\r\u{1}") 4 (member "x" 17 0 0 ∷ []) ∷ Int (ascii "int") 32 ∷ [])
    (all 315 ∷ [])
    ((0, 253) ∷ [])
    "struct prey {\n\tvoid * volatile (*y)();\n};\n\nenum y {\n\tx = 1,\n};\n\ntypedef void m\"\\\n\t\r\u{1}(enum y __attribute__((btf_type_tag(\"rcu\")))(* ((enum y __attribute__((btf_type_tag(\"rcu\")))(*)[0][7][6]))(int prey))[0][7][6]);\n\nstruct /*union*/ m\"\\\n\t\r\u{1} {\n\tint x;\n};\n\n"
    ∷ session 8 true  -- 1-7911-0
    (Void ∷ Composite true (ascii "T") 8 (member "T" 2 0 0 ∷ []) ∷ Ptr 3 ∷ FuncProto 4 (param "" 9 ∷ param "" 15 ∷ param "" 0 ∷ []) ∷ Mod restrict 5
    ∷ Ptr 6 ∷ Ptr 15 ∷ Typedef (ascii "len") 8 ∷ Mod restrict 9 ∷ Mod const 10 ∷ FuncProto 11 (param "y" 14 ∷ []) ∷ Ptr 12 ∷ Array 13 0
    ∷ Enum false (ascii "") 4 (value "x___3" 1 ∷ []) ∷ Composite false (ascii "x") 4 (member "T" 15 0 0 ∷ []) ∷ Int (ascii "int") 32 ∷ [])
    (all 295 ∷ [])
    ((0, 242) ∷ [])
    "struct /*union*/ x;\n\nstruct T {\n\tint ** restrict (*T)(enum {\n\t\tx___3 = 1,\n\t}(*const (struct /*union*/ x y))[0], int, ...);\n};\n\nstruct /*union*/ x {\n\tint T;\n};\n\ntypedef enum {\n\tx___3___2 = 1,\n} (*const restrict len(struct /*union*/ x y))[0];\n\n"
    ∷ session 8 false  -- 1-8244-0
    (Void ∷ Typedef (ascii "buf") 2 ∷ FuncProto 0 (param "" 3 ∷ []) ∷ Mod const 4 ∷ Array 5 0 ∷ Mod restrict 0
    ∷ Enum false (ascii "") 4 (value "buf" 1 ∷ []) ∷ Composite true (ascii "__x") 4 (member "y" 8 0 0 ∷ []) ∷ Int (ascii "int") 32 ∷ [])
    (all 348 ∷ [])
    ((0, 62) ∷ [])
    "typedef void buf(restrict void[0]);\n\nstruct __x {\n\tint y;\n};\n\n"
    ∷ session 8 false  -- 1-8324-2
    (Void ∷ Composite true (ascii "y") 8 (member "y" 4 0 0 ∷ []) ∷ Int (ascii "int") 32 ∷ Composite true (ascii "x") 8 (member "prex" 4 0 0 ∷ [])
    ∷ Ptr 5 ∷ Typedef (ascii "") 6 ∷ FuncProto 0 (param "" 1 ∷ param "" 3 ∷ []) ∷ [])
    (one 279 1 ∷ one 78 2 ∷ one 182 6 ∷ one 473 1 ∷ one 102 6 ∷ one 182 3 ∷ one 102 5 ∷ [])
    ((0, 78) ∷ (0, 78) ∷ (0, 102) ∷ (0, 102) ∷ (0, 102) ∷ (0, 102) ∷ (0, 102) ∷ [])
    "struct y;\n\nstruct x;\n\ntypedef void(struct y, struct x);\n\nstruct y {\n\t *y;\n};\n\nstruct x {\n\t *prex;\n};\n\n"
    ∷ session 8 false  -- 1-8412-0
    (Void ∷ Int (ascii "char") 8 ∷ Int (ascii "long") 64 ∷ Int (ascii "int") 32 ∷ Int (ascii "short") 16 ∷ Int (ascii "i\u{1}28") 128
    ∷ Composite true (ascii "ops") 32 (member "T" 4 48 0 ∷ member "node" 5 128 0 ∷ [])
    ∷ Composite true (ascii "x___3") 56 (member "E" 2 64 0 ∷ member "Ax" 4 208 0 ∷ member "prenext" 5 352 10 ∷ member "s" 3 416 0 ∷ []) ∷ [])
    (all 362 ∷ [])
    ((0, 193) ∷ [])
    "struct ops {\n\tlong: 48;\n\tshort T;\n\tlong: 64;\n\ti\u{1}28 node;\n};\n\nstruct x___3 {\n\tlong: 64;\n\tlong E;\n\tlong: 16;\n\tlong: 64;\n\tshort Ax;\n\tlong: 64;\n\tlong: 64;\n\ti\u{1}28 prenext: 10;\n\tlong: 54;\n\tint s;\n};\n\n"
    ∷ session 4 false  -- 1-8430-0
    (Void ∷ Typedef (ascii "") 13 ∷ Ptr 1 ∷ FuncProto 0 (param "_" 1 ∷ []) ∷ Composite false (ascii "_") 0 [] ∷ Typedef (ascii "y") 1 ∷ Mod restrict 2
    ∷ Typedef (ascii "_") 6 ∷ Composite false (ascii "_") 8 (member "y" 4 0 0 ∷ member "_" 15 0 0 ∷ member "" 4 0 0 ∷ member "_" 6 0 0 ∷ [])
    ∷ Mod const 8 ∷ FuncProto 9 (param "y" 6 ∷ param "" 6 ∷ []) ∷ Typedef (ascii "") 6 ∷ TypeTag false (ascii "m\"\\\n\t\r\u{1}") 6
    ∷ Composite false (ascii "_") 8 (member "x" 9 0 0 ∷ member "_" 17 0 0 ∷ member "_" 2 0 0 ∷ member "_" 17 0 0 ∷ member "_" 7 0 0 ∷ member "y" 7 0 0 ∷ [])
    ∷ Ptr 6 ∷ Typedef (ascii "x") 12 ∷ Composite true (ascii "y") 0 [] ∷ Int (ascii "x") 8 ∷ [])
    (all 288 ∷ [])
    ((14, 288) ∷ [])
    "union _ {};\n\nunion ____2;\n\ntypedef union ____2;\n\ntypedef  * restrict __attribute__((btf_type_tag(\"m\\\"\\\\\\n\\t\\r\u{1}\"))) x;\n\nunion ____3 {\n\tunion _ y;\n\tx _;\n\tunion _;\n\t * restrict _;\n};\n\ntypedef  * restrict _;\n\nunion ____2 {\n\tconst union ____3 x;\n\tx _;\n\t *_;\n\tx _;\n\t_ _;\n\t_ y;\n};\n\ntypedef  y;\n\n"
    ∷ session 4 false  -- 1-8613-0
    (Void ∷ Int (ascii "int") 32 ∷ Composite false (ascii "x") 4 (member "x___2" 1 0 0 ∷ []) ∷ Enum false (ascii "") 4 (value "len" 1 ∷ []) ∷ Ptr 0
    ∷ Ptr 4 ∷ Typedef (ascii "x___2") 5 ∷ FuncProto 1 (param "x" 0 ∷ []) ∷ Mod const 7 ∷ FuncProto 8 (param "" 6 ∷ []) ∷ TypeTag false (ascii "x") 9
    ∷ Mod restrict 10 ∷ Ptr 11 ∷ Mod const 12 ∷ Mod volatile 13 ∷ FuncProto 14 (param "prey" 0 ∷ []) ∷ Typedef (ascii "buf") 15 ∷ [])
    (all 431 ∷ [])
    ((0, 151) ∷ [])
    "union x {\n\tint x___2;\n};\n\ntypedef void **x___2;\n\ntypedef intconst  ( (restrict  __attribute__((btf_type_tag(\"x\"))) * const volatile buf())(x___2))();\n\n"
    ∷ session 8 true  -- 1-8703-0
    (Void ∷ Typedef (ascii "_") 2 ∷ FuncProto 8 (param "" 0 ∷ []) ∷ Typedef (ascii "__x") 4 ∷ FuncProto 0 (param "y" 5 ∷ []) ∷ Array 0 3
    ∷ Enum false (ascii "") 4 (value "flags" 1 ∷ []) ∷ Composite true (ascii "") 4 (member "x" 8 0 0 ∷ []) ∷ Int (ascii "int") 32 ∷ [])
    (all 230 ∷ [])
    ((0, 48) ∷ [])
    "typedef int _();\n\ntypedef void __x(void y[3]);\n\n"
    ∷ session 4 true  -- 1-8901-0
    (Void ∷ Enum false (ascii "") 4 (value "y" 1 ∷ []) ∷ Ptr 4 ∷ Composite true (ascii "yx") 8 (member "preyx" 13 0 0 ∷ []) ∷ Mod const 1 ∷ Ptr 2
    ∷ Mod restrict 1 ∷ Composite false (ascii "") 4 (member "x" 11 0 0 ∷ []) ∷ Mod volatile 14 ∷ Ptr 6
    ∷ Composite true (ascii "yx") 8 (member "" 12 0 0 ∷ []) ∷ Int (ascii "int") 32 ∷ Mod restrict 16 ∷ TypeTag true (ascii "packed") 9
    ∷ FuncProto 5 (param "" 1 ∷ param "ops" 2 ∷ []) ∷ Ptr 8 ∷ Mod const 15 ∷ [])
    (all 578 ∷ [])
    ((0, 219) ∷ [])
    "struct yx {\n\trestrict enum {\n\t\ty = 1,\n\t} * __attribute__((packed)) preyx;\n};\n\nstruct yx___2 {\n\tconst enum {\n\t\ty___2 = 1,\n\t} **volatile  (* const restrict)(enum {\n\t\ty___3 = 1,\n\t}, const enum {\n\t\ty___4 = 1,\n\t} *ops);\n};\n\n"
    ∷ session 8 false  -- 1-9521-2
    (Void ∷ Ptr 0 ∷ Mod restrict 3 ∷ Composite false (ascii "x") 4 (member "x" 8 0 0 ∷ member "y" 8 0 0 ∷ member "prex" 9 0 0 ∷ []) ∷ Mod const 7
    ∷ Int (ascii "__builtin_va_list") 64
    ∷ Composite false (ascii "x") 32 (member "prex" 9 0 0 ∷ member "x" 5 0 33 ∷ member "x" 10 33 2 ∷ member "prex" 1 0 2 ∷ member "x" 9 0 1 ∷ member "prex" 9 0 255 ∷ member "prex" 5 0 0 ∷ member "prex" 5 0 5 ∷ member "prex" 5 0 255 ∷ member "x" 7 0 2 ∷ member "__builtin_va_list" 4 0 2 ∷ member "" 8 0 0 ∷ member "" 4 0 1 ∷ member "y" 1 0 0 ∷ member "y" 10 32 0 ∷ member "__builtin_va_list" 7 0 33 ∷ member "y" 8 0 0 ∷ member "prex" 4 0 0 ∷ member "y" 1 32 32 ∷ member "y" 9 0 255 ∷ member "y" 10 0 0 ∷ member "x" 5 0 5 ∷ member "x" 10 0 2 ∷ [])
    ∷ Ptr 9 ∷ Mod const 10 ∷ Int (ascii "y") 32 ∷ Int (ascii "prex") 8 ∷ [])
    (one 30 7 ∷ one 562 6 ∷ one 795 7 ∷ one 767 10 ∷ one 606 1 ∷ one 403 12 ∷ one 673 11 ∷ one 439 0 ∷ [])
    ((0, 0) ∷ (0, 403) ∷ (0, 403) ∷ (0, 403) ∷ (0, 403) ∷ (10, 403) ∷ (10, 403) ∷ (0, 403) ∷ [])
    "union x {\n\ty prex;\n\t__builtin_va_list x: 33;\n\tprex x: 2;\n\tvoid *prex: 2;\n\ty x: 1;\n\ty prex: 255;\n\t__builtin_va_list prex;\n\t__builtin_va_list prex: 5;\n\t__builtin_va_list prex: 255;\n\ty *x: 2;\n\ty * const __builtin_va_list: 2;\n\tconst prex;\n\ty * const: 1;\n\tvoid *y;\n\tprex y;\n\ty *__builtin_va_list: 33;\n\tconst prex y;\n\ty * const prex;\n\tvoid *y: 32;\n\ty y: 255;\n\tprex y;\n\t__builtin_va_list x: 5;\n\tprex x: 2;\n};\n\n"
    ∷ session 4 false  -- 1-9546-0
    (Void ∷ Typedef (ascii "y") 4 ∷ Composite true (ascii "data") 16 (member "prex" 6 0 0 ∷ member "" 4 64 0 ∷ [])
    ∷ Composite true (ascii "x") 8 (member "_" 4 0 0 ∷ []) ∷ Ptr 5 ∷ Typedef (ascii "") 6 ∷ Int (ascii "int") 32 ∷ [])
    (all 120 ∷ [])
    ((0, 93) ∷ [])
    "typedef int;\n\ntypedef  *y;\n\nstruct data {\n\tint prex;\n\tint: 32;\n\t *;\n};\n\nstruct x {\n\t *_;\n};\n\n"
    ∷ session 4 false  -- 1-9549-0
    (Void ∷ Int (ascii "x") 32 ∷ Typedef (ascii "x") 1 ∷ Ptr 1 ∷ Typedef (ascii "x") 3 ∷ Typedef (ascii "y") 0 ∷ Ptr 4 ∷ Datasec (ascii "y") ∷ Ptr 2
    ∷ Mod restrict 3 ∷ DeclTag true (ascii "\\\\") 2 4294967295 ∷ [])
    (all 411 ∷ [])
    ((0, 70) ∷ [])
    "typedef x x __attribute__((\\\\));\n\ntypedef x *x___2;\n\ntypedef void y;\n\n"
    ∷ session 8 true  -- 1-9668-2
    (Void ∷ Int (ascii "char") 8 ∷ Int (ascii "short") 16 ∷ Int (ascii "int") 32 ∷ Int (ascii "long") 64 ∷ Int (ascii "i128") 128
    ∷ Composite true (ascii "list_head") 24 (member "prebuf" 1 104 0 ∷ member "x___2" 3 160 0 ∷ [])
    ∷ Composite true (ascii "Ax") 56 (member "yx" 1 304 0 ∷ member "list_head" 3 377 0 ∷ member "" 2 417 0 ∷ [])
    ∷ Composite true (ascii "preAx") 6 (member "Ax" 1 40 0 ∷ []) ∷ Composite false (ascii "Ax") 8 (member "x" 2 31 2 ∷ []) ∷ [])
    (all 722 ∷ one 335 2 ∷ one 335 6 ∷ one 518 0 ∷ one 710 4 ∷ one 335 5 ∷ [])
    ((0, 335) ∷ (0, 335) ∷ (0, 335) ∷ (0, 335) ∷ (0, 335) ∷ (0, 335) ∷ [])
    "struct list_head {\n\tlong: 40;\n\tlong: 64;\n\tchar prebuf;\n\tlong: 48;\n\tint x___2;\n};\n\nstruct Ax {\n\tlong: 48;\n\tlong: 64;\n\tlong: 64;\n\tlong: 64;\n\tlong: 64;\n\tchar yx;\n\tlong: 1;\n\tlong: 64;\n\tint list_head;\n\tchar: 8;\n\tshort;\n} __attribute__((packed));\n\nstruct preAx {\n\tlong: 40;\n\tchar Ax;\n};\n\nstruct /*union*/ Ax___2 {\n\tint: 31;\n\tshort x: 2;\n};\n\n"
    ∷ []
