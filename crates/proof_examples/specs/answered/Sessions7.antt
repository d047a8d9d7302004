-- Written by tools/vectors.py. Sections and requests of oracle/answers.cases, each beside the answers.
-- That they are equal is `sessions7_hold` of proofs/Sessions7.
use Rattle.std.specs.Prelude.{true, false, List, [], ◌∷◌}
use Rattle.spec_bytes.specs.text.Text.{ascii}
use Rattle.spec_c_dumper.specs.rules.Machine.{one, all}
use Rattle.proof_examples.specs.vectors.Base.{member, param, value, Vector, session}
use Rattle.spec_c_dumper.specs.rules.Types.{volatile, const, restrict, Void, Int, Ptr, Array, Composite, Enum, Enum64, Fwd, Typedef, Mod, Func, Datasec, FuncProto, Float, DeclTag, TypeTag}

abbrev pub sessions7 : List Vector
sessions7 =
    session 4 true  -- 1-9715-1
    (Void ∷ Typedef (ascii "") 0 ∷ Ptr 6 ∷ Mod const 6
    ∷ Composite true (ascii "_") 48 (member "state" 2 43 64 ∷ member "x" 2 107 8 ∷ member "x___3" 2 130 0 ∷ member "y" 2 282 0 ∷ [])
    ∷ Typedef (ascii "ops") 4 ∷ FuncProto 0 (param "" 0 ∷ param "" 4 ∷ param "" 4 ∷ []) ∷ [])
    (one 567 4 ∷ one 526 0 ∷ one 401 2 ∷ one 278 6 ∷ one 278 3 ∷ one 371 1 ∷ one 566 5 ∷ [])
    ((0, 278) ∷ (0, 278) ∷ (0, 278) ∷ (0, 278) ∷ (0, 278) ∷ (14, 278) ∷ (11, 278) ∷ [])
    "struct _ {\n\tint: 11;\n\tint: 32;\n\tvoid (*state)(void, struct _, struct _): 64;\n\tvoid (*x)(void, struct _, struct _): 8;\n\tshort: 15;\n\tvoid (*x___3)(void, struct _, struct _);\n\tint: 24;\n\tint: 32;\n\tint: 32;\n\tint: 32;\n\tvoid (*y)(void, struct _, struct _);\n} __attribute__((packed));\n\n"
    ∷ session 8 false  -- 1-9733-1
    (Void ∷ Int (ascii "int") 32 ∷ Mod restrict 8 ∷ FuncProto 0 (param "" 5 ∷ []) ∷ Mod const 6
    ∷ FuncProto 4 (param "prestate" 9 ∷ param "state" 8 ∷ param "" 0 ∷ []) ∷ Ptr 2 ∷ Typedef (ascii "state") 3
    ∷ Enum false (ascii "") 4 (value "y" 1 ∷ []) ∷ Composite false (ascii "x") 4 (member "ops" 1 0 0 ∷ []) ∷ [])
    (one 372 1 ∷ one 0 2 ∷ one 235 7 ∷ one 417 8 ∷ one 163 4 ∷ one 416 5 ∷ one 462 3 ∷ one 131 0 ∷ one 139 6 ∷ one 131 9 ∷ [])
    ((0, 0) ∷ (0, 0) ∷ (0, 131) ∷ (0, 131) ∷ (0, 131) ∷ (0, 131) ∷ (0, 131) ∷ (0, 131) ∷ (0, 131) ∷ (0, 131) ∷ [])
    "union x {\n\tint ops;\n};\n\ntypedef void state(restrict enum {\n\ty = 1,\n} * const(union x prestate, enum {\n\ty___2 = 1,\n} state, ...));\n\n"
    ∷ session 4 true  -- 1-10116-0
    (Void ∷ Ptr 3 ∷ Ptr 1 ∷ Composite true (ascii "") 4 (member "y" 4 0 0 ∷ []) ∷ Int (ascii "\u{7f}nt") 32
    ∷ Composite true (ascii "y") 8 (member "pres" 2 0 0 ∷ []) ∷ Enum false (ascii "y") 4 (value "y" 1 ∷ []) ∷ [])
    (all 70 ∷ [])
    ((0, 70) ∷ [])
    "struct y {\n\tstruct {\n\t\t\u{7f}nt y;\n\t} **pres;\n};\n\nenum y___2 {\n\ty = 1,\n};\n\n"
    ∷ session 4 false  -- 1-10379-2
    (Void ∷ Ptr 5 ∷ Composite true (ascii "x") 56 (member "" 6 0 0 ∷ member "y" 6 64 0 ∷ member "" 3 256 0 ∷ member "x" 1 325 0 ∷ []) ∷ Mod restrict 1
    ∷ Mod volatile 5
    ∷ Composite true (ascii "y") 8 (member "y" 7 0 3 ∷ member "" 3 3 5 ∷ member "x" 7 8 3 ∷ member "x" 7 11 1 ∷ member "" 6 12 8 ∷ member "y" 6 20 5 ∷ member "x" 3 25 33 ∷ [])
    ∷ Ptr 3 ∷ Enum true (ascii "y") 2 (value "x" 4294967295 ∷ []) ∷ [])
    (one 246 5 ∷ one 463 1 ∷ all 426 ∷ one 426 6 ∷ one 426 3 ∷ [])
    ((0, 207) ∷ (0, 207) ∷ (0, 426) ∷ (0, 426) ∷ (0, 426) ∷ [])
    "enum y {\n\tx = -1,\n};\n\nstruct y___2 {\n\tenum y y: 3;\n\tstruct y___2 * restrict: 5;\n\tenum y x: 3;\n\tenum y x: 1;\n\tstruct y___2 * restrict *: 8;\n\tstruct y___2 * restrict *y: 5;\n\tstruct y___2 * restrict x: 33;\n};\n\nstruct x {\n\tstruct y___2 * restrict *;\n\tint: 32;\n\tstruct y___2 * restrict *y;\n\tint: 32;\n\tint: 32;\n\tint: 32;\n\tint: 32;\n\tint: 32;\n\tstruct y___2 * restrict;\n\tint: 5;\n\tint: 32;\n\tstruct y___2 *x;\n} __attribute__((packed));\n\n"
    ∷ session 4 true  -- 1-10448-2
    (Void ∷ Mod restrict 4 ∷ Typedef (ascii "x") 0 ∷ Int (ascii "m\"\\\n\t\r\u{1}") 24 ∷ Array 3 16
    ∷ Composite true (ascii "E") 66 (member "__builtin_va_list" 3 248 0 ∷ member "__builtin_va_list_y" 3 294 0 ∷ member "E" 0 360 0 ∷ member "y" 3 488 0 ∷ [])
    ∷ [])
    (one 30 3 ∷ one 169 1 ∷ one 191 4 ∷ one 240 2 ∷ all 371 ∷ one 285 3 ∷ one 464 2 ∷ one 430 0 ∷ [])
    ((0, 0) ∷ (0, 0) ∷ (0, 0) ∷ (0, 17) ∷ (0, 285) ∷ (0, 285) ∷ (0, 285) ∷ (0, 285) ∷ [])
    "typedef void x;\n\nstruct E {\n\tint: 24;\n\tint: 32;\n\tint: 32;\n\tint: 32;\n\tint: 32;\n\tint: 32;\n\tint: 32;\n\tint: 32;\n\tm\"\\\n\t\r\u{1} __builtin_va_list;\n\tint: 22;\n\tm\"\\\n\t\r\u{1} __builtin_va_list_y;\n\tint: 10;\n\tint: 32;\n\tvoid E;\n\tint: 32;\n\tint: 32;\n\tint: 32;\n\tint: 32;\n\tm\"\\\n\t\r\u{1} y;\n} __attribute__((packed));\n\n"
    ∷ session 4 true  -- 1-10689-0
    (Void ∷ FuncProto 0 (param "" 6 ∷ param "m\"\\\n\t\r\u{1}" 3 ∷ param "" 6 ∷ param "y" 0 ∷ param "m\"\\\n\t\r\u{1}" 3 ∷ []) ∷ Ptr 1
    ∷ Float (ascii "m\"\\\n\t\r\u{1}") 16 ∷ Typedef (ascii "x") 2
    ∷ FuncProto 4 (param "m\"\\\n\t\r\u{1}" 3 ∷ param "m\"\\\n\t\r\u{1}" 6 ∷ param "y" 3 ∷ [])
    ∷ Composite true (ascii "prem\"\\\n\t\r\u{1}") 72 (member "m\"\\\n\t\r\u{1}" 9 4 0 ∷ member "" 9 169 0 ∷ member "m\"\\\n\t\r\u{1}" 4 312 0 ∷ member "x" 3 389 0 ∷ [])
    ∷ Array 4 4 ∷ Datasec (ascii "m\"\\\n\t\r\u{1}") ∷ Ptr 6 ∷ [])
    (all 378 ∷ [])
    ((0, 352) ∷ [])
    "struct prem\"\\\n\t\r\u{1};\n\ntypedef void (*x)(struct prem\"\\\n\t\r\u{1}, m\"\\\n\t\r\u{1} m\"\\\n\t\r\u{1}, struct prem\"\\\n\t\r\u{1}, void y, m\"\\\n\t\r\u{1} m\"\\\n\t\r\u{1});\n\nstruct prem\"\\\n\t\r\u{1} {\n\tstruct prem\"\\\n\t\r\u{1} *m\"\\\n\t\r\u{1};\n\tint: 5;\n\tint: 32;\n\tint: 32;\n\tint: 32;\n\tint: 32;\n\tstruct prem\"\\\n\t\r\u{1} *;\n\tint: 15;\n\tint: 32;\n\tint: 32;\n\tint: 32;\n\tx m\"\\\n\t\r\u{1};\n\tint: 13;\n\tint: 32;\n\tm\"\\\n\t\r\u{1} x;\n} __attribute__((packed));\n\n"
    ∷ session 8 false  -- 1-10758-0
    (Void ∷ Typedef (ascii "y") 0 ∷ Typedef (ascii "y") 1 ∷ FuncProto 0 (param "" 2 ∷ []) ∷ Typedef (ascii "y") 3 ∷ TypeTag false (ascii "packed") 2
    ∷ Ptr 2 ∷ [])
    (all 63 ∷ [])
    ((0, 63) ∷ [])
    "typedef void y;\n\ntypedef y y___2;\n\ntypedef void y___3(y___2);\n\n"
    ∷ session 8 false  -- 1-11097-0
    (Void ∷ Int (ascii "int") 32 ∷ Composite true (ascii "a") 4 (member "y" 1 0 0 ∷ []) ∷ Enum false (ascii "") 4 (value "a" 1 ∷ []) ∷ Ptr 1 ∷ Ptr 4
    ∷ FuncProto 5 (param "data" 2 ∷ []) ∷ Ptr 6 ∷ Typedef (ascii "x___3") 7 ∷ [])
    (all 189 ∷ [])
    ((0, 64) ∷ [])
    "struct a {\n\tint y;\n};\n\ntypedef int ** (*x___3)(struct a data);\n\n"
    ∷ session 8 false  -- 1-11318-2
    (Void ∷ FuncProto 0 (param "m\"\\\n\t\r\u{1}" 3 ∷ []) ∷ Datasec (ascii "x") ∷ FuncProto 6 [] ∷ FuncProto 3 []
    ∷ Composite true (ascii "x") 8 (member "y" 9 2 3 ∷ member "m\"\\\n\t\r\u{1}" 14 13 2 ∷ member "x" 15 25 1 ∷ member "prex" 14 29 3 ∷ [])
    ∷ FuncProto 15 (param "x" 15 ∷ param "x" 15 ∷ []) ∷ FuncProto 3 [] ∷ FuncProto 11 (param "" 9 ∷ param "m\"\\\n\t\r\u{1}" 0 ∷ []) ∷ Ptr 13
    ∷ Typedef (ascii "m\"\\\n\t\r\u{1}") 6 ∷ Typedef (ascii "y") 5 ∷ FuncProto 15 (param "" 13 ∷ param "x" 7 ∷ param "" 5 ∷ [])
    ∷ Int (ascii "m\"\\\n\t\r\u{1}") 7 ∷ Mod restrict 13 ∷ Int (ascii "x") 24 ∷ FuncProto 0 (param "x" 0 ∷ []) ∷ [])
    (one 139 12 ∷ one 169 10 ∷ all 187 ∷ one 169 10 ∷ [])
    ((0, 139) ∷ (0, 169) ∷ (17, 169) ∷ (11, 169) ∷ [])
    "struct x {\n\tchar: 2;\n\tm\"\\\n\t\r\u{1} *y: 3;\n\tchar: 8;\n\trestrict m\"\\\n\t\r\u{1} m\"\\\n\t\r\u{1}: 2;\n\tshort: 10;\n\tx x: 1;\n\tchar: 3;\n\trestrict m\"\\\n\t\r\u{1} prex: 3;\n};\n\ntypedef x m\"\\\n\t\r\u{1}(x x, x x);\n\n"
    ∷ session 4 true  -- 1-11424-0
    (Void ∷ Mod const 2 ∷ Fwd true (ascii "yx")
    ∷ Composite false (ascii "y") 12 (member "y" 9 0 0 ∷ member "prey" 9 0 0 ∷ member "u32" 9 0 0 ∷ member "" 4 0 0 ∷ [])
    ∷ Composite false (ascii "") 12 (member "y" 9 0 0 ∷ member "x___3" 9 0 0 ∷ member "" 9 38 0 ∷ member "y" 11 0 0 ∷ []) ∷ Fwd true (ascii "u32")
    ∷ FuncProto 2 (param "" 11 ∷ []) ∷ DeclTag true (ascii "x") 4 1 ∷ Mod const 0 ∷ Composite true (ascii "") 4 (member "" 11 0 0 ∷ [])
    ∷ Mod restrict 0 ∷ Int (ascii "x___2") 32 ∷ [])
    (all 643 ∷ [])
    ((0, 290) ∷ [])
    "struct /*union*/ yx;\n\nstruct /*union*/ y {\n\tstruct {\n\t\tx___2;\n\t} y;\n\tstruct {\n\t\tx___2;\n\t} prey;\n\tstruct {\n\t\tx___2;\n\t} u32;\n\tstruct /*union*/ {\n\t\tstruct {\n\t\t\tx___2;\n\t\t} y;\n\t\tstruct {\n\t\t\tx___2;\n\t\t} x___3 __attribute__((x));\n\t\tstruct {\n\t\t\tx___2;\n\t\t};\n\t\tx___2 y;\n\t};\n};\n\nstruct /*union*/ u32;\n\n"
    ∷ session 4 true  -- 1-11475-0
    (Void ∷ Typedef (ascii "prex\u{8}y") 0 ∷ [])
    (all 22 ∷ [])
    ((0, 22) ∷ [])
    "typedef void prex\u{8}y;\n\n"
    ∷ session 4 false  -- 1-11507-2
    (Void ∷ Composite false (ascii "") 8 (member "len" 8 0 0 ∷ []) ∷ DeclTag true (ascii "packed") 4 4294967295 ∷ Array 8 3 ∷ Typedef (ascii "len") 7
    ∷ DeclTag false (ascii "m\"\\\n\t\r\u{1}") 1 4294967295 ∷ Fwd true (ascii "len") ∷ FuncProto 1 (param "x" 8 ∷ param "x" 0 ∷ [])
    ∷ Int (ascii "x") 64 ∷ [])
    (one 301 7 ∷ one 12 6 ∷ one 494 4 ∷ all 151 ∷ [])
    ((0, 0) ∷ (0, 12) ∷ (0, 124) ∷ (0, 124) ∷ [])
    "union len;\n\ntypedef union {\n\tx len;\n} __attribute__((btf_decl_tag(\"m\\\"\\\\\\n\\t\\r\u{1}\"))) len(x x, ...) __attribute__((packed));\n\n"
    ∷ session 4 false  -- 1-11700-0
    (Void ∷ Ptr 6 ∷ Array 9 3 ∷ TypeTag false (ascii "x") 2 ∷ Composite true (ascii "x") 4 (member "x" 19 0 0 ∷ []) ∷ FuncProto 10 [] ∷ Ptr 18
    ∷ Typedef (ascii "_") 5 ∷ Mod const 20 ∷ Array 15 7 ∷ Ptr 8 ∷ FuncProto 3 (param "x" 0 ∷ param "" 15 ∷ []) ∷ Mod restrict 13
    ∷ FuncProto 11 (param "_" 19 ∷ param "" 0 ∷ []) ∷ Mod const 1 ∷ Array 17 8 ∷ Typedef (ascii "x") 14
    ∷ Enum false (ascii "prex") 4 (value "y" 1 ∷ []) ∷ Mod const 4 ∷ Int (ascii "int") 32 ∷ Ptr 12 ∷ [])
    (all 551 ∷ [])
    ((0, 211) ∷ [])
    "enum prex {\n\ty = 1,\n};\n\nstruct x {\n\tint x;\n};\n\ntypedef enum prex ( __attribute__((btf_type_tag(\"x\"))) (restrict  (* const *_())(int _, ...))(void x, enum prex[8]))[3][7][8];\n\ntypedef const struct x ** const x;\n\n"
    ∷ session 4 false  -- 1-11817-0
    (Void ∷ Typedef (ascii "next") 12 ∷ TypeTag false (ascii "rcu") 0 ∷ Mod volatile 10 ∷ Ptr 10 ∷ Mod volatile 6 ∷ Typedef (ascii "ops") 8
    ∷ Typedef (ascii "next") 0 ∷ FuncProto 0 (param "_" 10 ∷ param "x" 10 ∷ [])
    ∷ Composite true (ascii "b") 96 (member "" 11 7 0 ∷ member "_" 4 128 0 ∷ member "data" 3 192 0 ∷ member "buf" 11 480 0 ∷ member "list_head" 10 596 0 ∷ member "prex___2" 10 710 0 ∷ [])
    ∷ Int (ascii "Ax") 32 ∷ Ptr 2 ∷ Fwd false (ascii "len") ∷ [])
    (all 774 ∷ [])
    ((0, 464) ∷ [])
    "struct len;\n\ntypedef struct len next;\n\ntypedef void ops(Ax _, Ax x);\n\ntypedef void next___2;\n\nstruct b {\n\tvoid __attribute__((btf_type_tag(\"rcu\"))) *;\n\tint: 25;\n\tint: 32;\n\tint: 32;\n\tAx *_;\n\tint: 32;\n\tvolatile Ax data;\n\tint: 32;\n\tint: 32;\n\tint: 32;\n\tint: 32;\n\tint: 32;\n\tint: 32;\n\tint: 32;\n\tint: 32;\n\tvoid __attribute__((btf_type_tag(\"rcu\"))) *buf;\n\tint: 20;\n\tint: 32;\n\tint: 32;\n\tAx list_head;\n\tint: 18;\n\tint: 32;\n\tint: 32;\n\tAx prex___2;\n} __attribute__((packed));\n\n"
    ∷ session 8 true  -- 1-12086-2
    (Void ∷ Int (ascii "a__builtin_va_list_\u{7f}_2") 7 ∷ Mod volatile 1 ∷ Int (ascii "E") 7 ∷ Array 5 2
    ∷ Enum64 false (ascii "") 4 (value "_" 18446744069414584322 ∷ value "x" 6442450945 ∷ [])
    ∷ Composite true (ascii "") 40 (member "__x" 8 0 0 ∷ member "_" 12 64 0 ∷ member "data" 4 192 0 ∷ member "data" 12 256 0 ∷ [])
    ∷ Composite false (ascii "") 1 (member "prex" 13 0 2 ∷ []) ∷ Typedef (ascii "a__builtin_va_list_\u{7f}_2") 15 ∷ Float (ascii "y") 12
    ∷ DeclTag false (ascii "x") 8 4294967295 ∷ Typedef (ascii "s") 7 ∷ Ptr 4 ∷ Typedef (ascii "b") 1 ∷ Typedef (ascii "len") 2
    ∷ Typedef (ascii "len") 12 ∷ Composite false (ascii "") 4 (member "predata" 4 0 3 ∷ member "_" 8 0 0 ∷ []) ∷ Mod const 16 ∷ Mod const 8
    ∷ Typedef (ascii "s") 17 ∷ [])
    (one 79 17 ∷ all 761 ∷ [])
    ((0, 79) ∷ (0, 365) ∷ [])
    "typedef enum {\n\t_ = 18446744069414584322ULL,\n\tx = 6442450945ULL,\n} (*len)[2];\n\ntypedef a__builtin_va_list_\u{7f}_2 b;\n\ntypedef struct /*union*/ {\n\tb prex: 2;\n} s;\n\ntypedef volatile a__builtin_va_list_\u{7f}_2 len___2;\n\ntypedef const struct /*union*/ {\n\tenum {\n\t\t____2 = 18446744069414584322ULL,\n\t\tx___2 = 6442450945ULL,\n\t} predata[2]: 3;\n\ta__builtin_va_list_\u{7f}_2 _;\n} s___2;\n\n"
    ∷ session 4 false  -- 1-12189-0
    (Void ∷ Ptr 2 ∷ Composite false (ascii "x") 20 (member "y" 4 101 0 ∷ member "x" 3 0 1 ∷ member "" 4 0 64 ∷ []) ∷ Ptr 2
    ∷ TypeTag false (ascii "\\\\") 1 ∷ Ptr 1 ∷ [])
    (all 175 ∷ [])
    ((0, 175) ∷ [])
    "union x {\n\tint: 5;\n\tint: 32;\n\tint: 32;\n\tint: 32;\n\tunion x * __attribute__((btf_type_tag(\"\\\\\\\\\"))) y;\n\tunion x *x: 1;\n\tunion x * __attribute__((btf_type_tag(\"\\\\\\\\\"))): 64;\n};\n\n"
    ∷ session 4 false  -- 1-12666-0
    (Void ∷ Int (ascii "int") 32 ∷ Composite false (ascii "prex___2") 4 (member "yx" 1 0 0 ∷ []) ∷ Enum false (ascii "") 4 (value "data" 1 ∷ [])
    ∷ Mod restrict 3 ∷ Array 4 8 ∷ Ptr 5 ∷ Mod const 6 ∷ Composite true (ascii "T") 8 (member "" 7 0 0 ∷ []) ∷ Array 2 1 ∷ Ptr 9
    ∷ TypeTag true (ascii "x") 10 ∷ Mod volatile 11 ∷ Ptr 12 ∷ TypeTag true (ascii "x") 13 ∷ FuncProto 0 (param "" 14 ∷ [])
    ∷ Typedef (ascii "prex___2") 15 ∷ [])
    (all 495 ∷ [])
    ((0, 185) ∷ [])
    "union prex___2 {\n\tint yx;\n};\n\nstruct T {\n\trestrict enum {\n\t\tdata = 1,\n\t}(* const)[8];\n};\n\ntypedef void prex___2(union prex___2(*volatile  __attribute__((x)) * __attribute__((x)))[1]);\n\n"
    ∷ session 4 false  -- 1-12756-0
    (Void ∷ Ptr 9 ∷ Typedef (ascii "__builtin_va_list_y") 1 ∷ Ptr 18
    ∷ Composite true (ascii "x") 68 (member "__builtin_va_list" 2 0 31 ∷ member "__builtin_va_list_y" 5 31 32 ∷ member "__builtin_va_list" 10 63 33 ∷ member "x" 5 96 32 ∷ member "__builtin_va_list_y" 1 128 64 ∷ member "__builtin_va_list_y" 15 192 32 ∷ member "__builtin_va_list" 17 224 255 ∷ member "__builtin_va_list" 1 479 33 ∷ member "__builtin_va_list" 10 512 32 ∷ [])
    ∷ Ptr 19 ∷ Enum false (ascii "__builtin_va_list") 3 (value "__builtin_va_list" 0 ∷ value "x" 2147483648 ∷ []) ∷ Array 6 1
    ∷ Fwd false (ascii "__builtin_va_list") ∷ Int (ascii "x") 64 ∷ Array 7 4 ∷ Int (ascii "__builtin_va_list") 7
    ∷ FuncProto 18 (param "" 5 ∷ param "" 11 ∷ []) ∷ FuncProto 1 (param "__builtin_va_list" 16 ∷ []) ∷ FuncProto 17 (param "" 1 ∷ []) ∷ Ptr 1
    ∷ Composite false (ascii "") 0 [] ∷ Ptr 9 ∷ Ptr 16 ∷ FuncProto 1 (param "__builtin_va_list" 14 ∷ []) ∷ FuncProto 16 [] ∷ [])
    (all 387 ∷ [])
    ((0, 387) ∷ [])
    ";\n\nstruct x {\n\t__builtin_va_list_y __builtin_va_list: 31;\n\tx * (*__builtin_va_list_y)(x *__builtin_va_list(x *)): 32;\n\tenum __builtin_va_list __builtin_va_list[4][1]: 33;\n\tx * (*x)(x *__builtin_va_list(x *)): 32;\n\tx *__builtin_va_list_y: 64;\n\tx **__builtin_va_list_y: 32;\n\tx *__builtin_va_list: 255;\n\tx *__builtin_va_list: 33;\n\tenum __builtin_va_list __builtin_va_list[4][1]: 32;\n};\n\n;\n\n"
    ∷ session 8 true  -- 1-12839-2
    (Void ∷ Int (ascii "x") 128 ∷ Float (ascii "") 8 ∷ Typedef (ascii "data") 2 ∷ FuncProto 1 []
    ∷ Composite true (ascii "x") 24 (member "x___2" 2 0 0 ∷ member "y" 6 64 0 ∷ member "node" 6 128 0 ∷ []) ∷ Mod const 3
    ∷ Enum true (ascii "data") 1 [] ∷ [])
    (one 26 4 ∷ one 351 7 ∷ one 277 2 ∷ one 194 5 ∷ one 85 1 ∷ one 340 4 ∷ one 361 1 ∷ one 85 3 ∷ [])
    ((0, 0) ∷ (0, 12) ∷ (0, 12) ∷ (0, 85) ∷ (0, 85) ∷ (0, 85) ∷ (0, 85) ∷ (0, 85) ∷ [])
    "enum data;\n\ntypedef  data;\n\nstruct x {\n\t x___2;\n\tconst data y;\n\tconst data node;\n};\n\n"
    ∷ session 8 false  -- 1-13359-0
    (Void ∷ Typedef (ascii "yx") 2 ∷ FuncProto 0 (param "" 9 ∷ []) ∷ FuncProto 4 (param "a" 5 ∷ []) ∷ Ptr 0 ∷ Typedef (ascii "y") 6
    ∷ FuncProto 12 (param "" 13 ∷ []) ∷ Composite true (ascii "x") 8 (member "yx" 8 0 0 ∷ []) ∷ Ptr 9 ∷ FuncProto 10 (param "" 0 ∷ [])
    ∷ Mod restrict 11 ∷ Mod volatile 13 ∷ Enum false (ascii "y") 4 (value "yx" 1 ∷ []) ∷ Composite false (ascii "") 4 (member "a" 14 0 0 ∷ [])
    ∷ Int (ascii "int") 32 ∷ [])
    (all 562 ∷ [])
    ((0, 184) ∷ [])
    "typedef void yx(volatile restrict union {\n\tint a;\n}());\n\nenum y {\n\tyx___2 = 1,\n};\n\ntypedef enum y y(union {\n\tint a;\n});\n\nstruct x {\n\tvolatile restrict union {\n\t\tint a;\n\t} (*yx)();\n};\n\n"
    ∷ session 8 true  -- 1-13527-0
    (Void ∷ Int (ascii "") 24 ∷ Mod volatile 1 ∷ Array 12 3 ∷ Array 1 100 ∷ Enum64 true (ascii "next") 4 []
    ∷ Composite true (ascii "m\"\\\n\t\r\u{1}") 24 (member "m\"\\\n\t\r\u{1}" 7 0 0 ∷ member "u32" 11 64 64 ∷ member "Ax" 5 128 2 ∷ member "u32" 15 130 3 ∷ member "y" 9 133 1 ∷ member "node" 8 134 1 ∷ member "s" 8 135 16 ∷ member "__x" 8 151 2 ∷ member "Ax" 5 153 31 ∷ [])
    ∷ Int (ascii "T") 64 ∷ Int (ascii "prey") 16 ∷ Int (ascii "preu32") 8 ∷ Ptr 6 ∷ Typedef (ascii "s") 7
    ∷ Composite true (ascii "s") 328 (member "yx" 16 0 0 ∷ member "m\"\\\n\t\r\u{1}" 14 32 0 ∷ member "m\"\\\n\t\r\u{1}" 19 40 0 ∷ member "x" 8 48 0 ∷ member "m\"\\\n\t\r\u{1}" 10 64 0 ∷ member "\u{1}" 16 128 0 ∷ member "y" 19 160 0 ∷ member "__x" 4 168 0 ∷ [])
    ∷ Array 8 100 ∷ Int (ascii "m\"\\\n\t\r\u{1}") 1 ∷ Ptr 19 ∷ Int (ascii "_") 32 ∷ Composite true (ascii "") 32 (member "T" 13 0 255 ∷ [])
    ∷ Composite true (ascii "y") 8 (member "m\"\\\n\t\r\u{1}" 10 0 0 ∷ member "_" 19 32 0 ∷ member "node" 8 40 8 ∷ [])
    ∷ Int (ascii "prem\"\\\n\t\r\u{1}") 1 ∷ FuncProto 6 [] ∷ Array 10 16 ∷ Mod const 20 ∷ [])
    (all 508 ∷ [])
    ((0, 402) ∷ [])
    "struct m\"\\\n\t\r\u{1};\n\nstruct s {\n\t_ yx;\n\tm\"\\\n\t\r\u{1} m\"\\\n\t\r\u{1};\n\tprem\"\\\n\t\r\u{1} m\"\\\n\t\r\u{1};\n\tprey x;\n\tstruct m\"\\\n\t\r\u{1} *m\"\\\n\t\r\u{1};\n\t_ \u{1};\n\tprem\"\\\n\t\r\u{1} y;\n\t __x[100];\n};\n\nenum next;\n\ntypedef T s;\n\nstruct m\"\\\n\t\r\u{1} {\n\tT m\"\\\n\t\r\u{1};\n\ts u32: 64;\n\tenum next Ax: 2;\n\tprem\"\\\n\t\r\u{1} *u32: 3;\n\tpreu32 y: 1;\n\tprey node: 1;\n\tprey s: 16;\n\tprey __x: 2;\n\tenum next Ax: 31;\n};\n\nstruct y {\n\tstruct m\"\\\n\t\r\u{1} *m\"\\\n\t\r\u{1};\n\tprem\"\\\n\t\r\u{1} _;\n\tprey node: 8;\n};\n\n"
    ∷ session 4 true  -- 1-13644-0
    (Void
    ∷ Composite true (ascii "next") 128 (member "preb" 6 128 0 ∷ member "x" 7 532 4 ∷ member "b" 7 776 3 ∷ member "next" 4 896 0 ∷ member "x___2" 2 935 29 ∷ member "__x" 7 976 0 ∷ [])
    ∷ Int (ascii "int") 32 ∷ Int (ascii "long") 64 ∷ Int (ascii "char") 8 ∷ Composite true (ascii "b") 512 (member "x" 1 0 0 ∷ [])
    ∷ Int (ascii "i\u{7f}28") 128 ∷ Int (ascii "short") 16 ∷ [])
    (all 387 ∷ [])
    ((0, 387) ∷ [])
    "struct next {\n\tint: 32;\n\tint: 32;\n\tint: 32;\n\tint: 32;\n\ti\u{7f}28 preb;\n\tint: 20;\n\tint: 32;\n\tint: 32;\n\tint: 32;\n\tint: 32;\n\tint: 32;\n\tint: 32;\n\tint: 32;\n\tint: 32;\n\tshort x: 4;\n\tint: 16;\n\tint: 32;\n\tint: 32;\n\tint: 32;\n\tint: 32;\n\tint: 32;\n\tint: 32;\n\tint: 32;\n\tshort b: 3;\n\tint: 21;\n\tint: 32;\n\tint: 32;\n\tint: 32;\n\tchar next;\n\tint: 31;\n\tint x___2: 29;\n\tshort __x;\n};\n\nstruct b {\n\tstruct next x;\n};\n\n"
    ∷ session 4 true  -- 1-14463-0
    (Void ∷ Int (ascii "int") 32 ∷ Composite true (ascii "") 4 (member "len" 1 0 0 ∷ []) ∷ Enum false (ascii "len") 4 (value "prelen" 1 ∷ []) ∷ Ptr 0
    ∷ TypeTag false (ascii "packed") 4 ∷ Array 5 1 ∷ Ptr 6 ∷ Ptr 7 ∷ Composite true (ascii "y") 8 (member "y" 8 0 0 ∷ [])
    ∷ FuncProto 0 (param "" 7 ∷ []) ∷ FuncProto 10 (param "E" 8 ∷ param "" 2 ∷ param "" 7 ∷ []) ∷ FuncProto 0 (param "" 11 ∷ [])
    ∷ Typedef (ascii "len") 12 ∷ [])
    (all 417 ∷ [])
    ((0, 316) ∷ [])
    "enum len {\n\tprelen = 1,\n};\n\nstruct y {\n\tvoid * __attribute__((btf_type_tag(\"packed\"))) (**y)[1];\n};\n\ntypedef void len(void ((void * __attribute__((btf_type_tag(\"packed\"))) (**E)[1], struct {\n\tint len;\n}, void * __attribute__((btf_type_tag(\"packed\")))(*)[1]))(void * __attribute__((btf_type_tag(\"packed\")))(*)[1]));\n\n"
    ∷ session 4 true  -- 1-14823-0
    (Void ∷ Int (ascii "int") 32 ∷ Composite false (ascii "") 4 (member "node" 1 0 0 ∷ []) ∷ Enum false (ascii "priv") 4 (value "node" 1 ∷ []) ∷ Ptr 0
    ∷ Mod restrict 4 ∷ Typedef (ascii "node") 5 ∷ Mod const 6 ∷ FuncProto 7 (param "" 3 ∷ []) ∷ Mod restrict 8 ∷ Ptr 9 ∷ Ptr 10 ∷ Mod const 11
    ∷ FuncProto 0 (param "x" 12 ∷ []) ∷ Typedef (ascii "u32") 13 ∷ Ptr 1 ∷ Ptr 15 ∷ Array 16 7 ∷ Mod restrict 17 ∷ Mod const 18 ∷ Ptr 19
    ∷ Mod volatile 20 ∷ Composite true (ascii "node") 8 (member "priv" 21 0 0 ∷ []) ∷ [])
    (all 177 ∷ [])
    ((0, 177) ∷ [])
    "enum priv {\n\tnode = 1,\n};\n\ntypedef void * restrict node___2;\n\ntypedef void u32(const node___2restrict  (** const x)(enum priv));\n\nstruct node {\n\tint **(* volatile priv)[7];\n};\n\n"
    ∷ session 4 true  -- 1-14847-0
    (Void ∷ Ptr 2 ∷ Composite true (ascii "x") 8 (member "h" 4 0 0 ∷ []) ∷ Int (ascii "int") 32 ∷ Composite false (ascii "") 8 (member "" 5 0 0 ∷ [])
    ∷ Composite true (ascii "") 8 (member "T" 1 0 0 ∷ member "" 3 64 0 ∷ []) ∷ Typedef (ascii "x") 5 ∷ [])
    (all 313 ∷ [])
    ((0, 146) ∷ [])
    "struct x {\n\tstruct /*union*/ {\n\t\tstruct {\n\t\t\tstruct x *T;\n\t\t\tint: 32;\n\t\t\tint;\n\t\t};\n\t} h;\n};\n\ntypedef struct {\n\tstruct x *T;\n\tint: 32;\n\tint;\n} x;\n\n"
    ∷ session 8 false  -- 1-15276-0
    (Void ∷ Typedef (ascii "T") 2 ∷ FuncProto 4 (param "" 3 ∷ param "priv" 5 ∷ []) ∷ Enum false (ascii "x") 4 (value "T" 1 ∷ [])
    ∷ Composite false (ascii "") 4 (member "T" 5 0 0 ∷ []) ∷ Int (ascii "int") 32 ∷ [])
    (all 222 ∷ [])
    ((0, 73) ∷ [])
    "enum x {\n\tT = 1,\n};\n\ntypedef union {\n\tint T;\n} T___2(enum x, int priv);\n\n"
    ∷ session 8 true  -- 1-15426-0
    (Void ∷ Composite false (ascii "s") 2 (member "s" 5 0 0 ∷ []) ∷ Int (ascii "s") 64 ∷ Int (ascii "y") 32
    ∷ Composite true (ascii "s") 8 (member "x___3" 3 0 0 ∷ member "x___3" 3 32 0 ∷ [])
    ∷ Enum false (ascii "") 2 (value "y" 2 ∷ value "lis|_head" 1002551255 ∷ value "x" 100 ∷ value "lis|_head" 2147483648 ∷ value "prenode" 2147483648 ∷ [])
    ∷ Composite false (ascii "x___3") 0 [] ∷ Composite true (ascii "x") 16 (member "x" 6 0 0 ∷ member "node" 2 0 0 ∷ member "node" 4 64 0 ∷ [])
    ∷ Array 7 1 ∷ Composite true (ascii "y") 72 (member "" 4 32 0 ∷ member "" 8 408 0 ∷ []) ∷ Array 6 2 ∷ [])
    (all 495 ∷ [])
    ((0, 410) ∷ [])
    "struct /*union*/ s {\n\tenum {\n\t\ty = 2,\n\t\tlis|_head = 1002551255,\n\t\tx = 100,\n\t\tlis|_head___2 = 2147483648,\n\t\tprenode = 2147483648,\n\t} s;\n};\n\nstruct s___2 {\n\ty x___3;\n\ty x___3;\n};\n\nstruct /*union*/ x___3 {};\n\nstruct x {\n\tstruct /*union*/ x___3 x;\n\ts node;\n\tstruct s___2 node;\n};\n\nstruct y {\n\tint: 32;\n\tstruct s___2;\n\tlong: 56;\n\tlong: 64;\n\tlong: 64;\n\tlong: 64;\n\tlong: 64;\n\tstruct x[1];\n} __attribute__((packed));\n\n"
    ∷ session 8 true  -- 1-15431-2
    (Void
    ∷ Composite false (ascii "a") 116 (member "next" 4 24 0 ∷ member "node" 3 105 0 ∷ member "s" 4 320 0 ∷ member "data" 4 512 0 ∷ member "x___2" 5 896 0 ∷ [])
    ∷ Composite true (ascii "") 104 (member "next" 6 285 1 ∷ member "a" 4 295 42 ∷ member "u32" 7 400 0 ∷ member "s" 7 417 2 ∷ member "E" 3 576 0 ∷ member "state" 6 816 0 ∷ [])
    ∷ Int (ascii "i128") 128 ∷ Int (ascii "lon\u{7f}") 64 ∷ Int (ascii "int") 32 ∷ Int (ascii "short") 16 ∷ Int (ascii "char") 8 ∷ [])
    (one 0 6 ∷ one 96 4 ∷ one 198 1 ∷ one 507 1 ∷ one 181 4294967295 ∷ one 181 5 ∷ one 298 3 ∷ one 181 6 ∷ one 421 7 ∷ [])
    ((0, 0) ∷ (0, 0) ∷ (0, 181) ∷ (0, 181) ∷ (10, 181) ∷ (0, 181) ∷ (0, 181) ∷ (0, 181) ∷ (0, 181) ∷ [])
    "struct /*union*/ a {\n\tlon\u{7f} next;\n\ti128 node;\n\tlong: 23;\n\tlong: 64;\n\tlon\u{7f} s;\n\tlong: 64;\n\tlong: 64;\n\tlon\u{7f} data;\n\tlong: 64;\n\tlong: 64;\n\tlong: 64;\n\tlong: 64;\n\tlong: 64;\n\tint x___2;\n};\n\n"
    ∷ session 4 true  -- 1-15641-2
    (Void ∷ FuncProto 14 (param "" 2 ∷ []) ∷ Mod volatile 13 ∷ Ptr 8 ∷ Array 19 4 ∷ Array 16 5 ∷ Typedef (ascii "x___2") 4
    ∷ Enum false (ascii "node") 4 (value "flags" 1 ∷ []) ∷ Ptr 5 ∷ Typedef (ascii "x___2") 15
    ∷ Composite true (ascii "ops") 8 (member "flags" 18 0 0 ∷ []) ∷ Composite true (ascii "flags") 4 (member "y" 19 0 0 ∷ []) ∷ Mod restrict 2
    ∷ Mod volatile 19 ∷ Mod const 3 ∷ FuncProto 0 (param "" 1 ∷ []) ∷ Array 17 5 ∷ TypeTag true (ascii "m\"\\\n\t\r\u{1}") 12 ∷ Ptr 19
    ∷ Int (ascii "int") 32 ∷ [])
    (all 509 ∷ one 468 14 ∷ one 467 14 ∷ one 598 11 ∷ [])
    ((0, 229) ∷ (0, 229) ∷ (0, 229) ∷ (0, 229) ∷ [])
    "typedef int x___2[4];\n\nenum node {\n\tflags = 1,\n};\n\ntypedef void x___2___2(volatile volatile restrict int __attribute__((m\"\\\n\t\r\u{1}))(** const(volatile volatile int))[5][5]);\n\nstruct ops {\n\tint *flags;\n};\n\nstruct flags {\n\tint y;\n};\n\n"
    ∷ session 8 false  -- 1-16057-1
    (Void ∷ Composite true (ascii "a") 512 (member "x" 3 0 0 ∷ member "x" 2 512 0 ∷ []) ∷ Composite true (ascii "s") 16 (member "data" 5 64 0 ∷ [])
    ∷ Composite true (ascii "") 40 (member "x___2" 7 48 0 ∷ member "T" 4 208 52 ∷ member "x___3" 6 292 8 ∷ []) ∷ Int (ascii "") 128
    ∷ Int (ascii "long\u{2}") 64 ∷ Int (ascii "int") 32 ∷ Int (ascii "short") 16 ∷ Int (ascii "") 8 ∷ [])
    (one 242 8 ∷ one 150 7 ∷ one 69 6 ∷ one 80 5 ∷ one 0 4 ∷ one 107 3 ∷ one 39 2 ∷ one 366 1 ∷ one 81219 0 ∷ [])
    ((0, 0) ∷ (0, 0) ∷ (0, 0) ∷ (0, 0) ∷ (0, 0) ∷ (0, 0) ∷ (0, 39) ∷ (0, 216) ∷ (0, 216) ∷ [])
    "struct s {\n\tlong: 64;\n\tlong\u{2} data;\n};\n\nstruct a {\n\tstruct {\n\t\tlong: 48;\n\t\tshort x___2;\n\t\tlong: 16;\n\t\tlong: 64;\n\t\tlong: 64;\n\t\t T: 52;\n\t\tint: 32;\n\t\tint x___3: 8;\n\t} x;\n\tlong: 64;\n\tlong: 64;\n\tlong: 64;\n\tstruct s x;\n};\n\n"
    ∷ session 4 true  -- 1-16137-0
    (Void ∷ Composite true (ascii "x___3") 8 (member "" 2 0 0 ∷ []) ∷ Ptr 3 ∷ Mod const 4 ∷ FuncProto 5 (param "" 12 ∷ param "" 13 ∷ []) ∷ Array 6 8
    ∷ Array 7 0 ∷ Mod const 8 ∷ Array 9 7 ∷ Mod restrict 10 ∷ Mod volatile 11 ∷ Mod volatile 14 ∷ Enum false (ascii "") 4 (value "prea" 1 ∷ [])
    ∷ Composite false (ascii "b") 4 (member "x" 14 0 0 ∷ []) ∷ Int (ascii "int") 32 ∷ [])
    (all 186 ∷ [])
    ((0, 170) ∷ [])
    "struct /*union*/ b;\n\nstruct x___3 {\n\tvolatile volatile restrict int(const  (*)(enum {\n\t\tprea = 1,\n\t}, struct /*union*/ b))[8][0][7];\n};\n\nstruct /*union*/ b {\n\tint x;\n};\n\n"
    ∷ session 4 true  -- 1-16218-0
    (Void ∷ Int (ascii "_") 32
    ∷ Composite true (ascii "buf") 56 (member "priv" 6 3 0 ∷ member "priv" 1 128 0 ∷ member "" 6 219 0 ∷ member "state" 1 403 0 ∷ [])
    ∷ FuncProto 1 (param "" 4 ∷ []) ∷ Int (ascii "a") 16 ∷ Mod const 0 ∷ Array 1 3 ∷ [])
    (all 139 ∷ [])
    ((0, 139) ∷ [])
    "struct buf {\n\t_ priv[3];\n\tint: 29;\n\t_ priv;\n\tint: 27;\n\tint: 32;\n\t_[3];\n\tint: 24;\n\tint: 32;\n\tint: 32;\n\t_ state;\n} __attribute__((packed));\n\n"
    ∷ session 8 false  -- 1-17010-0
    (Void ∷ Ptr 2 ∷ Typedef (ascii "x___2") 3 ∷ Ptr 4 ∷ Typedef (ascii "") 5 ∷ Composite true (ascii "buf") 8 (member "buf" 1 0 0 ∷ [])
    ∷ Composite true (ascii "prex___2") 16 (member "x___2" 3 0 0 ∷ member "preyx" 7 64 0 ∷ []) ∷ Int (ascii "int") 32 ∷ [])
    (all 126 ∷ [])
    ((0, 126) ∷ [])
    "struct buf;\n\ntypedef struct buf;\n\ntypedef  *x___2;\n\nstruct buf {\n\tx___2 *buf;\n};\n\nstruct prex___2 {\n\t *x___2;\n\tint preyx;\n};\n\n"
    ∷ session 4 true  -- 1-17331-0
    (Void ∷ Typedef (ascii "prey") 10 ∷ Typedef (ascii "prey") 1 ∷ Typedef (ascii "y") 1 ∷ Array 0 2 ∷ Typedef (ascii "y") 2 ∷ Typedef (ascii "y") 10
    ∷ TypeTag true (ascii "x") 0 ∷ FuncProto 7 [] ∷ Ptr 5 ∷ Composite true (ascii "") 0 [] ∷ [])
    (all 471 ∷ [])
    ((0, 117) ∷ [])
    "typedef struct {} prey;\n\ntypedef prey prey___2;\n\ntypedef prey y;\n\ntypedef prey___2 y___2;\n\ntypedef struct {} y___3;\n\n"
    ∷ session 8 false  -- 1-17488-1
    (Void ∷ Composite true (ascii "len") 16 (member "x" 4 0 0 ∷ member "x\u{4}x" 7 64 0 ∷ []) ∷ Int (ascii "int") 32 ∷ Typedef (ascii "node") 4 ∷ Ptr 6
    ∷ Composite true (ascii "node") 8 (member "node" 7 0 0 ∷ []) ∷ Typedef (ascii "state") 5 ∷ Ptr 3 ∷ [])
    (one 64 3 ∷ one 64 4 ∷ one 475 6 ∷ one 95 0 ∷ one 95 2 ∷ one 135 1 ∷ one 484 7 ∷ one 448 5 ∷ all 338 ∷ [])
    ((0, 64) ∷ (0, 64) ∷ (0, 95) ∷ (0, 95) ∷ (0, 95) ∷ (0, 135) ∷ (0, 135) ∷ (0, 135) ∷ (0, 135) ∷ [])
    "struct node;\n\ntypedef struct node state;\n\ntypedef state *node;\n\nstruct node {\n\tnode *node;\n};\n\nstruct len {\n\tstate *x;\n\tnode *x\u{4}x;\n};\n\n"
    ∷ session 8 false  -- 1-17708-2
    (Void ∷ Int (ascii "int") 32 ∷ Composite false (ascii "yx") 4 (member "y" 1 0 0 ∷ []) ∷ Enum false (ascii "") 4 (value "x___3" 1 ∷ [])
    ∷ FuncProto 0 (param "x___3" 3 ∷ []) ∷ Mod restrict 4 ∷ Mod const 5 ∷ FuncProto 6 (param "b" 3 ∷ param "a" 0 ∷ param "" 0 ∷ [])
    ∷ FuncProto 7 (param "" 5 ∷ param "" 0 ∷ param "" 2 ∷ []) ∷ Typedef (ascii "x") 8 ∷ [])
    (one 89 6 ∷ one 304 5 ∷ one 390 4 ∷ one 265 2 ∷ all 388 ∷ one 192 3 ∷ one 480 11 ∷ one 192 0 ∷ [])
    ((0, 0) ∷ (0, 0) ∷ (0, 0) ∷ (0, 23) ∷ (0, 192) ∷ (0, 192) ∷ (10, 192) ∷ (0, 192) ∷ [])
    "union yx {\n\tint y;\n};\n\ntypedef voidrestrict const  ( (x(voidrestrict (enum {\n\tx___3 = 1,\n} x___3), void, union yx))(enum {\n\tx___3___2 = 1,\n} b, void a, ...))(enum {\n\tx___3___3 = 1,\n} x___3);\n\n"
    ∷ session 4 true  -- 1-17801-2
    (Void ∷ Int (ascii "int") 32 ∷ Composite true (ascii "b") 4 (member "x" 1 0 0 ∷ []) ∷ Enum false (ascii "") 4 (value "y" 1 ∷ []) ∷ Ptr 2 ∷ Ptr 4
    ∷ TypeTag true (ascii "aligned(4)") 5 ∷ TypeTag false (ascii "x") 6 ∷ Ptr 7 ∷ Array 8 2 ∷ Mod restrict 9 ∷ Ptr 10 ∷ Ptr 11
    ∷ FuncProto 12 (param "__x" 3 ∷ param "" 8 ∷ param "b" 0 ∷ []) ∷ Ptr 13 ∷ Typedef (ascii "_") 14 ∷ Mod const 13 ∷ Typedef (ascii "_") 16 ∷ [])
    (one 57 19 ∷ one 229 17 ∷ one 217 5 ∷ [])
    ((10, 0) ∷ (0, 217) ∷ (0, 217) ∷ [])
    "struct b;\n\ntypedef struct b ** __attribute__((aligned(4))) __attribute__((btf_type_tag(\"x\"))) *(**const _(enum {\n\ty = 1,\n} __x, struct b ** __attribute__((aligned(4))) __attribute__((btf_type_tag(\"x\"))) *, ...))[2];\n\n"
    ∷ session 8 true  -- 1-17955-0
    (Void ∷ Ptr 2
    ∷ Enum true (ascii "prex") 8 (value "y" 999999999 ∷ value "y" 2147483649 ∷ value "x" 99 ∷ value "prex" 99 ∷ value "x" 4291578952 ∷ [])
    ∷ Typedef (ascii "x") 1 ∷ [])
    (all 346 ∷ [])
    ((0, 121) ∷ [])
    "enum prex {\n\ty = 999999999,\n\ty___2 = -2147483647,\n\tx = 99,\n\tprex = 99,\n\tx___2 = -3388344,\n};\n\ntypedef enum prex *x___3;\n\n"
    ∷ session 4 true  -- 1-17993-2
    (Void ∷ Ptr 3 ∷ DeclTag true (ascii "packed") 5 0 ∷ Int (ascii "_") 64 ∷ DeclTag true (ascii "packed") 1 4294967295
    ∷ Composite true (ascii "_") 12 (member "_" 7 0 0 ∷ member "_" 1 32 0 ∷ member "_" 1 64 0 ∷ []) ∷ FuncProto 7 (param "x" 0 ∷ [])
    ∷ Int (ascii "_") 8 ∷ Mod restrict 6 ∷ [])
    (one 24 1 ∷ one 0 4 ∷ one 106 5 ∷ one 266 10 ∷ one 149 6 ∷ one 59 7 ∷ one 83230 3 ∷ [])
    ((0, 0) ∷ (0, 0) ∷ (0, 59) ∷ (10, 59) ∷ (0, 59) ∷ (0, 59) ∷ (0, 59) ∷ [])
    "struct _ {\n\t_ _ __attribute__((packed));\n\t_ *_;\n\t_ *_;\n};\n\n"
    ∷ session 8 true  -- 1-18329-2
    (Void ∷ Typedef (ascii "yx") 3 ∷ Ptr 5 ∷ FuncProto 2 (param "y" 5 ∷ param "ops" 2 ∷ [])
    ∷ Enum64 true (ascii "x") 1 (value "_" 4294967296 ∷ value "ops" 9223372037854775808 ∷ [])
    ∷ Composite true (ascii "s") 32 (member "y" 2 0 255 ∷ []) ∷ [])
    (one 62 5 ∷ one 336 1 ∷ [])
    ((0, 34) ∷ (0, 84) ∷ [])
    "struct s {\n\tstruct s *y: 255;\n};\n\ntypedef struct s *yx(struct s y, struct s *ops);\n\n"
    ∷ session 8 false  -- 1-18795-0
    (Void ∷ Typedef (ascii "y") 0 ∷ Mod volatile 1 ∷ Ptr 2 ∷ FuncProto 3 [] ∷ Typedef (ascii "y") 4 ∷ [])
    (all 17773 ∷ [])
    ((0, 47) ∷ [])
    "typedef void y;\n\ntypedef volatile y *y___2();\n\n"
    ∷ session 8 false  -- 1-19069-1
    (Void ∷ Int (ascii "prey") 32 ∷ Array 0 16 ∷ TypeTag true (ascii "\"") 2
    ∷ Composite true (ascii ".ode") 304 (member "x" 1 32 0 ∷ member "prey" 1 127 0 ∷ member "state" 1 288 0 ∷ member "b" 1 352 0 ∷ member "preb" 1 474 0 ∷ member "" 1 576 0 ∷ member "T" 1 880 0 ∷ member "y" 1 929 0 ∷ member "" 1 1024 0 ∷ member "y" 1 1112 0 ∷ member ".ode" 1 1159 0 ∷ member "x" 1 1304 0 ∷ member "y" 1 1386 0 ∷ member "prey" 1 1440 0 ∷ member "x" 1 1472 0 ∷ member "node" 1 1563 0 ∷ member "preb" 1 1696 0 ∷ member "y" 1 1800 0 ∷ member "x" 1 1960 0 ∷ member "b" 1 2018 0 ∷ member ".ode" 1 2084 0 ∷ member "node" 1 2328 0 ∷ member "state" 1 2370 0 ∷ [])
    ∷ [])
    (one 678 4 ∷ one 678 3 ∷ one 849 1 ∷ one 1033 2 ∷ one 678 0 ∷ [])
    ((0, 678) ∷ (0, 678) ∷ (0, 678) ∷ (0, 678) ∷ (0, 678) ∷ [])
    "struct .ode {\n\tint: 32;\n\tprey x;\n\tlong: 63;\n\tprey prey;\n\tlong: 1;\n\tlong: 64;\n\tlong: 64;\n\tprey state;\n\tint: 32;\n\tprey b;\n\tlong: 26;\n\tlong: 64;\n\tprey preb;\n\tlong: 6;\n\tlong: 64;\n\tprey;\n\tlong: 16;\n\tlong: 64;\n\tlong: 64;\n\tlong: 64;\n\tlong: 64;\n\tprey T;\n\tint: 17;\n\tprey y;\n\tlong: 63;\n\tprey;\n\tlong: 56;\n\tprey y;\n\tshort: 15;\n\tprey .ode;\n\tlong: 49;\n\tlong: 64;\n\tprey x;\n\tlong: 50;\n\tprey y;\n\tint: 22;\n\tprey prey;\n\tprey x;\n\tlong: 59;\n\tprey node;\n\tlong: 37;\n\tlong: 64;\n\tprey preb;\n\tlong: 8;\n\tlong: 64;\n\tprey y;\n\tlong: 64;\n\tlong: 64;\n\tprey x;\n\tint: 26;\n\tprey b;\n\tlong: 34;\n\tprey .ode;\n\tlong: 20;\n\tlong: 64;\n\tlong: 64;\n\tlong: 64;\n\tprey node;\n\tshort: 10;\n\tprey state;\n} __attribute__((packed));\n\n"
    ∷ session 4 true  -- 1-19492-1
    (Void ∷ Int (ascii "char") 8 ∷ Int (ascii "int") 32 ∷ Array 1 65535 ∷ Array 2 1073741824
    ∷ Composite true (ascii "") 4294967295 (member "s" 4 0 0 ∷ []) ∷ Composite true (ascii "s") 8 (member "m\"\\\n\t\r\u{1}" 3 0 0 ∷ [])
    ∷ Composite true (ascii "node") 8 (member "len" 3 32 0 ∷ member "node" 2 64 0 ∷ [])
    ∷ Composite true (ascii "node") 8 (member "pre_" 2 8 0 ∷ member "x" 1 0 0 ∷ []) ∷ [])
    (one 102 8 ∷ one 319 7 ∷ one 170 6 ∷ one 334 5 ∷ one 220 4 ∷ one 1882 3 ∷ one 402 2 ∷ one 335 1 ∷ one 303 0 ∷ all 363 ∷ [])
    ((0, 72) ∷ (0, 133) ∷ (0, 170) ∷ (0, 170) ∷ (0, 170) ∷ (0, 170) ∷ (0, 170) ∷ (0, 170) ∷ (0, 170) ∷ (0, 170) ∷ [])
    "struct node {\n\tchar: 8;\n\tint pre_;\n\tchar x;\n} __attribute__((packed));\n\nstruct node___2 {\n\tint: 32;\n\tchar len[65535];\n\tint node;\n};\n\nstruct s {\n\tchar m\"\\\n\t\r\u{1}[65535];\n};\n\n"
    ∷ session 4 true  -- 1-19595-2
    (Void ∷ Typedef (ascii "y") 10 ∷ Float (ascii "x___2") 2 ∷ TypeTag false (ascii "m\"\\\n\t\r\u{1}") 4 ∷ Typedef (ascii "x___2") 0
    ∷ Typedef (ascii "a") 12 ∷ Typedef (ascii "Ax") 9 ∷ Typedef (ascii "prebuf") 9 ∷ Typedef (ascii "u32") 9
    ∷ FuncProto 4 (param "" 4 ∷ param "" 0 ∷ []) ∷ Float (ascii "x") 2 ∷ Ptr 9 ∷ Typedef (ascii "buf") 11
    ∷ Enum64 true (ascii "ops") 1 (value "len" 18446744069414584320 ∷ value "s" 4294967291877563775 ∷ value "b" 4294967295 ∷ value "flags" 10894544463 ∷ value "prebuf" 433791696895 ∷ [])
    ∷ Typedef (ascii "_") 9 ∷ Mod restrict 0 ∷ [])
    (one 418 3 ∷ one 226 4294967295 ∷ all 352 ∷ one 740 6 ∷ [])
    ((0, 21) ∷ (10, 21) ∷ (0, 352) ∷ (0, 352) ∷ [])
    "typedef void x___2;\n\ntypedef x y;\n\ntypedef x___2 (*buf)(x___2, ...);\n\ntypedef buf a;\n\ntypedef x___2 Ax(x___2, ...);\n\ntypedef x___2 prebuf(x___2, ...);\n\ntypedef x___2 u32(x___2, ...);\n\nenum ops {\n\tlen = -4294967296LL,\n\ts = 4294967291877563775LL,\n\tb = 4294967295LL,\n\tflags = 10894544463LL,\n\tprebuf___2 = 433791696895LL,\n};\n\ntypedef x___2 _(x___2, ...);\n\n"
    ∷ session 8 true  -- 1-19755-0
    (Void ∷ Typedef (ascii "buf") 5 ∷ DeclTag false (ascii "user") 1 4294967295 ∷ Ptr 1 ∷ Array 5 100 ∷ Int (ascii "x___3") 7 ∷ Ptr 5 ∷ Ptr 4 ∷ Ptr 5
    ∷ Ptr 5 ∷ Ptr 0 ∷ Mod restrict 10 ∷ Array 7 3 ∷ [])
    (all 114 ∷ [])
    ((0, 58) ∷ [])
    "typedef x___3 buf __attribute__((btf_decl_tag(\"user\")));\n\n"
    ∷ session 8 true  -- 1-19941-0
    (Void ∷ Int (ascii "int") 32 ∷ Composite true (ascii "len") 4 (member "prex" 1 0 0 ∷ []) ∷ Enum false (ascii "priv") 4 (value "y" 1 ∷ [])
    ∷ Mod restrict 3 ∷ FuncProto 0 (param "" 4 ∷ []) ∷ Typedef (ascii "prex") 5 ∷ Ptr 1 ∷ Ptr 7 ∷ Mod const 8
    ∷ FuncProto 9 (param "prex" 0 ∷ param "" 9 ∷ []) ∷ Ptr 10 ∷ TypeTag false (ascii "\u{7f}\u{b}'%s") 11 ∷ FuncProto 12 (param "" 4 ∷ [])
    ∷ Mod restrict 13 ∷ Mod restrict 14 ∷ Ptr 15 ∷ FuncProto 0 (param "" 16 ∷ []) ∷ Typedef (ascii "prex") 17 ∷ [])
    (all 240 ∷ [])
    ((0, 240) ∷ [])
    "struct len {\n\tint prex;\n};\n\nenum priv {\n\ty = 1,\n};\n\ntypedef void prex(restrict enum priv);\n\ntypedef void prex___2(int ** const (* __attribute__((btf_type_tag(\"\u{7f}\u{b}'%s\")))restrict restrict  (*)(restrict enum priv))(void prex, int ** const));\n\n"
    ∷ session 4 false  -- 1-20012-2
    (Void ∷ Int (ascii "") 64 ∷ Typedef (ascii "y") 1 ∷ Typedef (ascii "y") 1 ∷ DeclTag true (ascii "") 6 0 ∷ Typedef (ascii "x") 2
    ∷ Typedef (ascii "x") 3 ∷ [])
    (one 227 1 ∷ one 62390 2 ∷ all 181 ∷ one 451 1 ∷ [])
    ((0, 0) ∷ (0, 13) ∷ (0, 66) ∷ (0, 66) ∷ [])
    "typedef  y;\n\ntypedef  y___2;\n\ntypedef y x;\n\ntypedef y___2 x___2;\n\n"
    ∷ session 8 true  -- 1-20214-0
    (Void ∷ Int (ascii "int") 32 ∷ Composite false (ascii "") 4 (member "pre_" 1 0 0 ∷ []) ∷ Enum false (ascii "") 4 (value "yx" 1 ∷ []) ∷ Array 2 8
    ∷ Mod restrict 4 ∷ Ptr 0 ∷ Mod restrict 6 ∷ Mod volatile 7 ∷ Composite true (ascii "x") 8 (member "" 8 0 0 ∷ []) ∷ [])
    (all 393 ∷ [])
    ((0, 42) ∷ [])
    "struct x {\n\tvoid * restrict volatile;\n};\n\n"
    ∷ session 4 false  -- 1-21059-2
    (Void ∷ Composite true (ascii "") 56 (member "m\"\\\n\t\r\u{1}" 7 60 0 ∷ []) ∷ Array 6 4 ∷ FuncProto 6 (param "" 7 ∷ [])
    ∷ Typedef (ascii "aligned(4)") 8 ∷ Typedef (ascii "m\"\\\n\t\r\u{1}") 8 ∷ Ptr 8
    ∷ Composite true (ascii "m\"\\\n\t\r\u{1}") 48 (member "m\"\\\n\t\r\u{1}" 2 128 0 ∷ []) ∷ Int (ascii "m\"\\\n\t\r\u{1}") 255 ∷ [])
    (one 0 0 ∷ one 163 1 ∷ one 479 3 ∷ all 157 ∷ one 138 5 ∷ one 502 10 ∷ one 138 8 ∷ one 337 1 ∷ [])
    ((0, 0) ∷ (0, 83) ∷ (0, 83) ∷ (0, 138) ∷ (0, 138) ∷ (10, 138) ∷ (0, 138) ∷ (0, 138) ∷ [])
    "struct m\"\\\n\t\r\u{1} {\n\tint: 32;\n\tint: 32;\n\tint: 32;\n\tint: 32;\n\tm\"\\\n\t\r\u{1} *m\"\\\n\t\r\u{1}[4];\n};\n\ntypedef m\"\\\n\t\r\u{1} aligned(4);\n\ntypedef m\"\\\n\t\r\u{1} m\"\\\n\t\r\u{1};\n\n"
    ∷ session 4 false  -- 1-21117-0
    (Void ∷ Typedef (ascii "len") 2 ∷ FuncProto 0 (param "" 3 ∷ []) ∷ Mod restrict 4 ∷ Ptr 5 ∷ FuncProto 8 (param "" 7 ∷ param "u32" 0 ∷ [])
    ∷ Typedef (ascii "y") 7 ∷ Mod volatile 8 ∷ FuncProto 9 [] ∷ Ptr 10 ∷ Mod restrict 11 ∷ Mod volatile 14
    ∷ Enum false (ascii "y") 4 (value "flags" 1 ∷ []) ∷ Composite false (ascii "") 4 (member "flags" 14 0 0 ∷ []) ∷ Int (ascii "int") 32 ∷ [])
    (all 501 ∷ [])
    ((0, 174) ∷ [])
    "typedef void len(volatile restrict int * ( (* restrict)(volatile restrict int *volatile (), ...))());\n\ntypedef volatile restrict int *volatile y();\n\nenum y {\n\tflags = 1,\n};\n\n"
    ∷ session 8 false  -- 1-21306-0
    (Void ∷ Ptr 12 ∷ Composite false (ascii "x") 4 (member "yx" 13 0 0 ∷ []) ∷ Enum false (ascii "") 4 (value "y" 1 ∷ [])
    ∷ FuncProto 7 (param "" 7 ∷ param "" 13 ∷ []) ∷ Mod const 8 ∷ FuncProto 5 (param "x___2" 0 ∷ param "x" 2 ∷ []) ∷ FuncProto 6 [] ∷ Ptr 2 ∷ Ptr 4
    ∷ Composite true (ascii "yx") 8 (member "yx" 9 0 0 ∷ []) ∷ Mod const 2 ∷ Array 11 5 ∷ Int (ascii "int") 32 ∷ Array 1 2 ∷ Ptr 14 ∷ Ptr 15
    ∷ Composite true (ascii "yx") 8 (member "yx" 16 0 0 ∷ []) ∷ [])
    (all 208 ∷ [])
    ((0, 196) ∷ [])
    "union x {\n\tint yx;\n};\n\nstruct yx {\n\tunion x * const ( ( (*yx)(union x * const (())(void x___2, union x x), int))())(void x___2, union x x);\n};\n\nstruct yx___2 {\n\tconst union x (*(**yx)[2])[5];\n};\n\n"
    ∷ session 8 false  -- 1-21551-2
    (Void ∷ Int (ascii "list_head") 1
    ∷ Composite false (ascii "yx\u{10}node") 8 (member "Ax" 1 0 0 ∷ member "prestate" 1 0 0 ∷ member "y" 7 0 0 ∷ member "a" 13 0 0 ∷ [])
    ∷ Composite false (ascii "__x") 8 (member "" 7 0 0 ∷ member "prelist_head" 13 0 0 ∷ member "ops" 14 0 0 ∷ []) ∷ Int (ascii "x___2") 32
    ∷ FuncProto 2 (param "__x" 2 ∷ param "" 0 ∷ []) ∷ FuncProto 3 (param "" 0 ∷ []) ∷ Ptr 6
    ∷ Composite true (ascii "preyx\u{10}node") 8 (member "node" 14 0 0 ∷ []) ∷ Composite true (ascii "list_head") 0 []
    ∷ Composite true (ascii "yx\u{10}node") 32 (member "ops" 3 145 0 ∷ member "state" 13 185 0 ∷ member "a" 1 47 0 ∷ member "x" 4 46 0 ∷ [])
    ∷ Mod volatile 9 ∷ FuncProto 15 (param "E" 1 ∷ []) ∷ TypeTag false (ascii "m\"\\\n\t\r\u{1}") 7 ∷ Ptr 13 ∷ Fwd true (ascii "a") ∷ [])
    (one 0 7 ∷ one 106 8 ∷ one 286 3 ∷ all 728 ∷ [])
    ((0, 0) ∷ (0, 106) ∷ (0, 286) ∷ (0, 651) ∷ [])
    "union __x;\n\nstruct preyx\u{10}node {\n\tunion __x (* __attribute__((btf_type_tag(\"m\\\"\\\\\\n\\t\\r\u{1}\"))) *node)();\n};\n\nunion __x {\n\tunion __x (*)();\n\tunion __x (* __attribute__((btf_type_tag(\"m\\\"\\\\\\n\\t\\r\u{1}\"))) prelist_head)();\n\tunion __x (* __attribute__((btf_type_tag(\"m\\\"\\\\\\n\\t\\r\u{1}\"))) *ops)();\n};\n\nunion yx\u{10}node {\n\tlist_head Ax;\n\tlist_head prestate;\n\tunion __x (*y)();\n\tunion __x (* __attribute__((btf_type_tag(\"m\\\"\\\\\\n\\t\\r\u{1}\"))) a)();\n};\n\nstruct list_head {};\n\nstruct yx\u{10}node___2 {\n\tlong: 17;\n\tlong: 64;\n\tlong: 64;\n\tunion __x ops;\n\tunion __x (* __attribute__((btf_type_tag(\"m\\\"\\\\\\n\\t\\r\u{1}\"))) state)();\n\tlist_head a;\n\tx___2 x;\n} __attribute__((packed));\n\nunion a;\n\n"
    ∷ session 8 false  -- 1-21855-0
    (Void ∷ Int (ascii "\u{3}") 32 ∷ Composite false (ascii "\u{3}") 16 (member "\u{3}" 9 0 0 ∷ []) ∷ TypeTag false (ascii "") 1 ∷ Mod const 2
    ∷ Composite false (ascii "") 20 (member "\u{3}" 9 0 0 ∷ member "" 1 128 0 ∷ member "" 2 0 1 ∷ []) ∷ TypeTag false (ascii "") 5 ∷ Array 0 1
    ∷ FuncProto 5 (param "" 1 ∷ []) ∷ Float (ascii "\u{3}") 16
    ∷ Composite false (ascii "") 256 (member "\u{3}" 6 0 0 ∷ member "" 3 166 0 ∷ member "\u{3}" 2 0 33 ∷ member "\u{3}" 5 0 255 ∷ member "\u{3}" 2 0 1 ∷ member "" 13 0 0 ∷ member "" 6 0 5 ∷ member "" 1 0 0 ∷ member "" 1 0 2 ∷ member "\u{3}" 4 0 1 ∷ [])
    ∷ Array 7 3 ∷ TypeTag false (ascii "") 5 ∷ Array 9 16 ∷ Composite false (ascii "") 256 (member "" 10 0 0 ∷ []) ∷ FuncProto 7 [] ∷ Array 13 16 ∷ [])
    (all 390 ∷ [])
    ((0, 20) ∷ [])
    "union \u{3} {\n\t\u{3} \u{3};\n};\n\n"
    ∷ session 8 true  -- 1-21879-0
    (Void ∷ Fwd true (ascii "node")
    ∷ Composite true (ascii "__builtin_va_lis") 12 (member "" 5 15 0 ∷ member "__builtin_va_lis" 3 93 0 ∷ member "prea__builtin_va_list___2" 5 92 0 ∷ [])
    ∷ Mod volatile 5 ∷ Composite false (ascii "node") 1 (member "" 5 0 1 ∷ []) ∷ Composite true (ascii "prea__builtin_va_list___2") 0 [] ∷ [])
    (all 94486 ∷ [])
    ((0, 214) ∷ [])
    "struct /*union*/ node;\n\n;\n\nstruct __builtin_va_lis {\n\tshort: 15;\n\t;\n\tlong: 14;\n\tlong: 64;\n\tvolatile  __builtin_va_lis;\n\t prea__builtin_va_list___2;\n} __attribute__((packed));\n\nstruct /*union*/ node___2 {\n\t: 1;\n};\n\n"
    ∷ session 8 false  -- 1-22313-2
    (Void ∷ FuncProto 4 (param "E" 0 ∷ []) ∷ Typedef (ascii "x") 3 ∷ FuncProto 5 (param "E" 4 ∷ param "" 7 ∷ []) ∷ TypeTag false (ascii "") 7
    ∷ Composite true (ascii "data") 64 (member "E" 12 0 0 ∷ member "" 9 128 0 ∷ member "priv" 11 128 0 ∷ member "priv" 11 160 0 ∷ member "y" 7 192 0 ∷ member "E" 12 256 0 ∷ member "prepriv" 10 384 0 ∷ member "prepriv" 4 448 0 ∷ [])
    ∷ Enum true (ascii "") 4 (value "x" 2147483648 ∷ value "priv" 99 ∷ []) ∷ Ptr 14 ∷ FuncProto 6 [] ∷ Composite true (ascii "priv") 0 [] ∷ Ptr 11
    ∷ Typedef (ascii "buf") 6 ∷ Float (ascii "x") 16 ∷ Typedef (ascii "") 14 ∷ Typedef (ascii "") 0 ∷ [])
    (all 291 ∷ one 12575 3 ∷ one 291 5 ∷ [])
    ((14, 291) ∷ (11, 291) ∷ (11, 291) ∷ [])
    "struct priv {};\n\ntypedef enum {\n\tx = -2147483648,\n\tpriv = 99,\n} buf;\n\ntypedef void;\n\nstruct data {\n\tx E;\n\tstruct priv;\n\tbuf priv;\n\tbuf priv;\n\t *y;\n\tx E;\n\tbuf *prepriv;\n\t * __attribute__((btf_type_tag(\"\"))) prepriv;\n};\n\ntypedef struct data x___2( * __attribute__((btf_type_tag(\"\"))) E,  *);\n\n"
    ∷ session 4 true  -- 1-23300-2
    (Void ∷ Array 0 100 ∷ Array 0 3 ∷ Array 5 4 ∷ Func (ascii "y") ∷ Ptr 8
    ∷ Composite false (ascii "yx") 32 (member "x" 5 0 0 ∷ member "u32" 3 0 0 ∷ member "" 3 0 0 ∷ member "y" 5 0 0 ∷ []) ∷ Array 9 1 ∷ Array 9 16
    ∷ Array 6 4 ∷ [])
    (one 0 0 ∷ one 0 4 ∷ one 405 6 ∷ one 354 0 ∷ one 168 6 ∷ [])
    ((0, 0) ∷ (0, 0) ∷ (0, 168) ∷ (0, 168) ∷ (0, 168) ∷ [])
    "struct /*union*/ yx {\n\tstruct /*union*/ yx (*x)[16][4];\n\tstruct /*union*/ yx (*u32[4])[16][4];\n\tstruct /*union*/ yx(*[4])[16][4];\n\tstruct /*union*/ yx (*y)[16][4];\n};\n\n"
    ∷ []
