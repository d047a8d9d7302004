-- Written by tools/vectors.py. Sections and requests of oracle/answers.cases, each beside the answers.
-- That they are equal is `sessions2_hold` of proofs/Sessions2.
use Rattle.std.specs.Prelude.{true, false, List, [], ◌∷◌}
use Rattle.spec_bytes.specs.text.Text.{ascii}
use Rattle.spec_c_dumper.specs.rules.Machine.{one, all}
use Rattle.proof_examples.specs.vectors.Base.{member, param, value, Vector, session}
use Rattle.spec_c_dumper.specs.rules.Types.{volatile, const, restrict, Void, Int, Ptr, Array, Composite, Enum, Enum64, Fwd, Typedef, Mod, Func, Var, Datasec, FuncProto, Float, DeclTag, TypeTag}

abbrev pub sessions2 : List Vector
sessions2 =
    session 8 true  -- 1-456-0
    (Void ∷ Composite true (ascii "b") 56 (member "u32" 8 0 0 ∷ member "yx" 8 128 0 ∷ member "y" 6 256 0 ∷ member "list_head" 8 320 0 ∷ [])
    ∷ Typedef (ascii "data") 0 ∷ Int (ascii "list_head") 8 ∷ TypeTag false (ascii "user") 0 ∷ DeclTag false (ascii "\"") 0 7 ∷ Ptr 7
    ∷ Composite true (ascii "x") 92 (member "list_head" 8 0 0 ∷ member "data" 1 128 0 ∷ member "yx" 3 576 0 ∷ member "list_head" 8 608 0 ∷ [])
    ∷ Float (ascii "b") 16
    ∷ Composite true (ascii "list_head") 168 (member "" 7 0 0 ∷ member "u32" 2 736 0 ∷ member "len" 6 1184 0 ∷ member "prelist_head" 6 1248 0 ∷ [])
    ∷ [])
    (all 197 ∷ [])
    ((15, 197) ∷ [])
    "struct x;\n\nstruct b {\n\tb u32;\n\tb yx;\n\tstruct x *y;\n\tb list_head;\n};\n\ntypedef void data;\n\nstruct x {\n\tb list_head;\n\tstruct b data;\n\tlist_head yx;\n\tint: 24;\n\tb list_head;\n} __attribute__((packed));\n\n"
    ∷ session 8 true  -- 1-458-2
    (Void ∷ Array 10 3 ∷ Composite true (ascii "") 4 (member "x" 13 12 0 ∷ []) ∷ Composite false (ascii "x") 2 (member "y" 13 0 0 ∷ [])
    ∷ Fwd true (ascii "x") ∷ Enum false (ascii "x") 2 (value "x" 2147483649 ∷ [])
    ∷ Composite true (ascii "x") 112 (member "y" 14 7 0 ∷ member "" 2 327 64 ∷ member "x" 5 439 3 ∷ member "y" 13 514 5 ∷ member "" 2 520 32 ∷ member "x" 11 560 255 ∷ member "y" 14 817 0 ∷ [])
    ∷ Composite true (ascii "y") 2 (member "x" 14 0 0 ∷ []) ∷ Typedef (ascii "y") 4 ∷ Mod const 10
    ∷ Composite true (ascii "y") 288 (member "" 6 256 0 ∷ member "x" 6 1152 0 ∷ member "" 2 2224 0 ∷ []) ∷ Ptr 8
    ∷ Composite true (ascii "y") 16 (member "x" 1 64 8 ∷ []) ∷ Int (ascii "y") 16 ∷ Mod const 13 ∷ [])
    (one 204 4 ∷ one 653 12 ∷ one 394 14 ∷ one 215 16 ∷ [])
    ((0, 21) ∷ (17, 21) ∷ (11, 21) ∷ (11, 21) ∷ [])
    "struct /*union*/ x;\n\n"
    ∷ session 4 true  -- 1-464-2
    (Void ∷ Int (ascii "int") 32 ∷ Composite true (ascii "") 4 (member "Ax" 1 0 0 ∷ []) ∷ Enum false (ascii "prex___3") 4 (value "Ax" 1 ∷ [])
    ∷ Mod volatile 3 ∷ Ptr 4 ∷ Ptr 5 ∷ Array 6 4 ∷ FuncProto 0 (param "preAx" 7 ∷ []) ∷ Typedef (ascii "preT") 8 ∷ Ptr 0
    ∷ FuncProto 10 (param "Ax" 3 ∷ []) ∷ FuncProto 11 (param "" 0 ∷ param "" 0 ∷ param "" 4 ∷ [])
    ∷ FuncProto 12 (param "prex___3" 0 ∷ param "T" 10 ∷ param "" 0 ∷ []) ∷ Ptr 13 ∷ Mod const 14 ∷ Mod volatile 15 ∷ Mod restrict 16 ∷ Mod restrict 17
    ∷ Typedef (ascii "T") 18 ∷ [])
    (one 28 15 ∷ one 101 17 ∷ all 0 ∷ [])
    ((17, 0) ∷ (11, 0) ∷ (11, 0) ∷ [])
    ""
    ∷ session 8 true  -- 1-465-0
    (Void ∷ Int (ascii "int") 32 ∷ Composite true (ascii "preT") 4 (member "b" 1 0 0 ∷ []) ∷ Enum false (ascii "") 4 (value "preT" 1 ∷ [])
    ∷ FuncProto 3 [] ∷ Ptr 4 ∷ Ptr 5 ∷ Ptr 6 ∷ FuncProto 0 (param "" 7 ∷ []) ∷ Typedef (ascii "x___3") 8 ∷ Mod volatile 0 ∷ Array 10 5
    ∷ Mod restrict 11 ∷ Mod restrict 12 ∷ Ptr 13 ∷ Ptr 14 ∷ Ptr 15 ∷ Ptr 16 ∷ Composite true (ascii "next") 8 (member "T" 17 0 0 ∷ []) ∷ Array 2 4
    ∷ FuncProto 0 (param "" 19 ∷ []) ∷ Typedef (ascii "T") 20 ∷ [])
    (all 0 ∷ [])
    ((17, 0) ∷ [])
    ""
    ∷ session 8 false  -- 1-467-2
    (Void ∷ Int (ascii "int") 32 ∷ Composite false (ascii "a") 4 (member "preops" 1 0 0 ∷ []) ∷ Enum false (ascii "") 4 (value "ops" 1 ∷ [])
    ∷ Mod const 2 ∷ Mod restrict 4 ∷ Array 5 4 ∷ TypeTag false (ascii "x") 6 ∷ Ptr 7 ∷ Typedef (ascii "ops") 8 ∷ [])
    (one 181 4 ∷ one 13596 4294967295 ∷ one 405 6 ∷ one 106 9 ∷ [])
    ((0, 27) ∷ (10, 27) ∷ (0, 27) ∷ (0, 106) ∷ [])
    "union a {\n\tint preops;\n};\n\ntypedef const restrict union a ( __attribute__((btf_type_tag(\"x\"))) *ops)[4];\n\n"
    ∷ session 4 true  -- 1-488-2
    (Void ∷ Int (ascii "prea") 8 ∷ Int (ascii "x") 32 ∷ Mod const 6 ∷ FuncProto 6 (param "" 1 ∷ param "a" 3 ∷ []) ∷ Array 2 16
    ∷ Composite true (ascii "x") 12 (member "y" 2 39 0 ∷ []) ∷ [])
    (one 64 6 ∷ one 64 1 ∷ one 244 6 ∷ one 64 4 ∷ one 399 1 ∷ one 64 4 ∷ one 343 4294967295 ∷ one 353 6 ∷ one 64 4294967295 ∷ [])
    ((0, 64) ∷ (0, 64) ∷ (0, 64) ∷ (0, 64) ∷ (0, 64) ∷ (0, 64) ∷ (10, 64) ∷ (0, 64) ∷ (10, 64) ∷ [])
    "struct x {\n\tint: 7;\n\tint: 32;\n\tx y;\n} __attribute__((packed));\n\n"
    ∷ session 4 true  -- 1-493-1
    (Void ∷ Int (ascii "int") 32 ∷ Composite true (ascii "") 8 (member "ops" 3 0 0 ∷ []) ∷ Composite true (ascii "next") 8 (member "y" 4 0 0 ∷ [])
    ∷ Composite true (ascii "next") 8 (member "" 5 0 0 ∷ []) ∷ Composite true (ascii "y") 8 (member "preops" 6 0 0 ∷ [])
    ∷ Composite true (ascii "ops") 8 (member "ops" 2 0 0 ∷ []) ∷ [])
    (one 2 4 ∷ one 355 0 ∷ one 372 6 ∷ [])
    ((13, 0) ∷ (11, 0) ∷ (11, 0) ∷ [])
    ""
    ∷ session 8 true  -- 1-497-2
    (Void ∷ Int (ascii "y") 255 ∷ Typedef (ascii "y") 3 ∷ Typedef (ascii "priv") 1 ∷ DeclTag false (ascii "x") 14 0
    ∷ Composite true (ascii "priv") 64 (member "x" 10 5 0 ∷ member "x" 8 88 0 ∷ member "x" 5 88 0 ∷ member "y" 5 88 0 ∷ member "priv" 3 128 0 ∷ member "priv" 9 480 0 ∷ [])
    ∷ Ptr 7 ∷ FuncProto 8 (param "" 8 ∷ param "priv" 12 ∷ param "y" 1 ∷ []) ∷ TypeTag false (ascii "x") 5 ∷ Float (ascii "y") 4 ∷ Ptr 6
    ∷ Mod restrict 0
    ∷ Composite false (ascii "x") 64 (member "y" 9 0 0 ∷ member "priv" 8 0 0 ∷ member "priv" 12 0 0 ∷ member "x" 10 0 0 ∷ member "priv" 1 0 0 ∷ member "y" 5 0 0 ∷ member "priv" 1 0 0 ∷ member "y" 6 0 0 ∷ [])
    ∷ TypeTag true (ascii "rcu") 7 ∷ Typedef (ascii "priv") 11 ∷ Fwd true (ascii "y") ∷ [])
    (one 45 1 ∷ one 0 4 ∷ one 45 3 ∷ all 173 ∷ one 34 14 ∷ one 34 14 ∷ [])
    ((0, 0) ∷ (0, 0) ∷ (0, 17) ∷ (13, 34) ∷ (11, 34) ∷ (11, 34) ∷ [])
    "typedef y priv;\n\ntypedef priv y;\n\n"
    ∷ session 8 true  -- 1-498-0
    (Void ∷ Int (ascii "y") 128 ∷ Ptr 19 ∷ Enum true (ascii "flags") 4 (value "next" 100 ∷ value "flags" 989840243 ∷ value "next" 2450172544 ∷ [])
    ∷ Float (ascii "next") 16 ∷ DeclTag false (ascii "packed") 14 4294967295 ∷ Float (ascii "len") 8 ∷ Ptr 3
    ∷ Composite true (ascii "state") 0 (member "x___2" 13 0 0 ∷ []) ∷ Mod const 15 ∷ Ptr 3 ∷ Mod const 10 ∷ Array 2 3
    ∷ Enum true (ascii "") 0 (value "x___2" 2147483647 ∷ value "x" 2147483647 ∷ value "list_head" 0 ∷ []) ∷ Typedef (ascii "next") 7
    ∷ Composite false (ascii "s") 0 (member "T" 17 0 0 ∷ [])
    ∷ Composite true (ascii "prelist_head") 48 (member "state" 15 0 0 ∷ member "s" 14 0 0 ∷ member "next" 9 32 0 ∷ member "x___2" 1 32 0 ∷ member "state" 11 160 0 ∷ member "" 15 192 0 ∷ member "flags" 6 192 0 ∷ member "x___2" 18 256 0 ∷ member "next" 10 320 0 ∷ member "prex___2" 14 352 0 ∷ [])
    ∷ Typedef (ascii "x___2") 8 ∷ Ptr 17
    ∷ Composite true (ascii "x___2") 136 (member "x___2" 9 0 0 ∷ member "" 16 0 0 ∷ member "" 16 384 0 ∷ member "x___2" 13 768 0 ∷ member "x___2" 18 768 0 ∷ member "__x" 1 832 0 ∷ member "len" 4 960 0 ∷ [])
    ∷ Composite true (ascii "x___2") 72 (member "T" 8 296 0 ∷ member "y" 14 327 0 ∷ member "T" 2 454 0 ∷ member "__x" 14 513 0 ∷ [])
    ∷ Func (ascii "len") ∷ FuncProto 20 (param "prelist_head" 9 ∷ param "prelist_head" 20 ∷ param "flags" 16 ∷ param "" 19 ∷ param "prex___2" 19 ∷ [])
    ∷ [])
    (all 75 ∷ [])
    ((15, 75) ∷ [])
    "enum flags {\n\tnext = 100,\n\tflags = 989840243,\n\tnext___2 = -1844794752,\n};\n\n"
    ∷ session 4 false  -- 1-503-2
    (Void ∷ Composite true (ascii "__x") 32 (member "state" 5 16 0 ∷ member "T" 4 224 0 ∷ []) ∷ Int (ascii "i128") 128
    ∷ Composite true (ascii "_") 40 (member "b" 6 32 0 ∷ member "flags" 2 132 0 ∷ []) ∷ Int (ascii "char") 8 ∷ Int (ascii "short") 16
    ∷ Int (ascii "int") 32 ∷ Int (ascii "long") 64 ∷ Composite true (ascii "preT") 512 (member "x" 1 0 0 ∷ member "x" 3 512 0 ∷ []) ∷ [])
    (one 38 7 ∷ one 279 4294967295 ∷ one 99 3 ∷ one 99 2 ∷ one 460 7 ∷ one 393 2 ∷ one 455 6 ∷ one 99 5 ∷ [])
    ((0, 0) ∷ (10, 0) ∷ (0, 99) ∷ (0, 99) ∷ (0, 99) ∷ (0, 99) ∷ (0, 99) ∷ (0, 99) ∷ [])
    "struct _ {\n\tint: 32;\n\tint b;\n\tint: 4;\n\tint: 32;\n\tint: 32;\n\ti128 flags;\n} __attribute__((packed));\n\n"
    ∷ session 8 false  -- 1-516-0
    (Void ∷ Ptr 12 ∷ Float (ascii "data") 16 ∷ Composite true (ascii "") 48 (member "next" 2 240 0 ∷ []) ∷ DeclTag false (ascii "x") 3 1
    ∷ Int (ascii "y") 255 ∷ FuncProto 2 (param "ops" 5 ∷ []) ∷ Mod restrict 6 ∷ FuncProto 3 []
    ∷ Composite false (ascii "data") 8 (member "preyx" 1 0 0 ∷ []) ∷ Fwd true (ascii "node") ∷ Typedef (ascii "") 8 ∷ Ptr 10 ∷ [])
    (all 204 ∷ [])
    ((14, 51) ∷ [])
    "union node;\n\nunion data {\n\tunion node **preyx;\n};\n\n"
    ∷ session 4 true  -- 1-538-1
    (Void ∷ Int (ascii "int") 32 ∷ Typedef (ascii "priv") 4 ∷ Composite true (ascii "yx") 8 (member "priv" 5 0 0 ∷ [])
    ∷ FuncProto 0 (param "" 6 ∷ param "" 1 ∷ []) ∷ Ptr 2 ∷ Composite true (ascii "x___3") 8 (member "y" 6 0 0 ∷ []) ∷ [])
    (one 336 3 ∷ one 444 1 ∷ one 83 0 ∷ one 186 2 ∷ one 415 4 ∷ one 19517 5 ∷ [])
    ((0, 83) ∷ (0, 83) ∷ (0, 83) ∷ (13, 83) ∷ (11, 83) ∷ (11, 83) ∷ [])
    "struct x___3;\n\ntypedef void priv(struct x___3, int);\n\nstruct yx {\n\tpriv *priv;\n};\n\n"
    ∷ session 4 true  -- 1-541-1
    (Void ∷ TypeTag false (ascii "user") 7 ∷ FuncProto 0 (param "" 4 ∷ param "m\"\\\n\t\r\u{1}" 4 ∷ param "a" 7 ∷ param "" 4 ∷ param "" 7 ∷ [])
    ∷ DeclTag false (ascii "x") 4 4294967295 ∷ Typedef (ascii "m\"\\\n\t\r\u{1}") 6 ∷ Typedef (ascii "prey") 2 ∷ Int (ascii "m\"\\\n\t\r\u{1}") 32
    ∷ Composite true (ascii "") 16 (member "x___2" 7 0 0 ∷ member "list_head" 4 32 0 ∷ member "" 4 64 0 ∷ member "y" 6 96 0 ∷ []) ∷ [])
    (one 186 7 ∷ one 45 6 ∷ one 357 5 ∷ [])
    ((13, 0) ∷ (11, 0) ∷ (11, 0) ∷ [])
    ""
    ∷ session 4 true  -- 1-542-2
    (Void ∷ Fwd true (ascii "") ∷ Mod const 1 ∷ DeclTag true (ascii "\"") 10 4294967295 ∷ Ptr 2 ∷ Datasec (ascii "x") ∷ Typedef (ascii "next") 9
    ∷ Int (ascii "preops") 32 ∷ Typedef (ascii "ops") 4
    ∷ Enum false (ascii "") 4 (value "s" 2147483647 ∷ value "x" 4294967295 ∷ value "b" 99 ∷ value "x___2" 2147483649 ∷ value "_" 2 ∷ []) ∷ Array 6 1
    ∷ Var (ascii "x") ∷ DeclTag false (ascii "\"") 9 4294967295 ∷ Ptr 1 ∷ [])
    (all 155 ∷ one 72647 1 ∷ one 396 13 ∷ one 155 4 ∷ one 366 11 ∷ [])
    ((0, 155) ∷ (0, 155) ∷ (0, 155) ∷ (0, 155) ∷ (0, 155) ∷ [])
    "typedef enum {\n\ts = 2147483647,\n\tx = 4294967295,\n\tb = 99,\n\tx___2 = 2147483649,\n\t_ = 2,\n} next;\n\nstruct /*union*/ ;\n\ntypedef const struct /*union*/  *ops;\n\n"
    ∷ session 8 true  -- 1-545-2
    (Void ∷ Composite true (ascii "m\"\\\n\t\r\u{1}") 40 (member "m\"\\\n\t\r\u{1}" 6 0 5 ∷ member "y" 6 58 0 ∷ member "x" 4 232 0 ∷ []) ∷ Array 9 100
    ∷ Int (ascii "m\"\\\n\t\r\u{1}") 16 ∷ Ptr 3 ∷ DeclTag true (ascii "m\"\\\n\t\r\u{1}") 1 4294967295
    ∷ Enum64 false (ascii "y") 4 (value "prey" 18446744069913663862 ∷ value "y" 18446744073709551615 ∷ [])
    ∷ Composite false (ascii "y") 40 (member "" 1 0 0 ∷ member "" 1 0 1 ∷ member "" 1 0 0 ∷ member "m\"\\\n\t\r\u{1}" 3 0 33 ∷ [])
    ∷ FuncProto 11 (param "prey" 2 ∷ []) ∷ Composite true (ascii "x") 8 (member "m\"\\\n\t\r\u{1}" 4 0 0 ∷ member "x" 4 32 32 ∷ [])
    ∷ FuncProto 9 (param "x" 0 ∷ []) ∷ Composite true (ascii "x") 16 (member "y" 3 16 0 ∷ member "prey" 4 44 1 ∷ member "y" 3 77 3 ∷ []) ∷ [])
    (one 353 0 ∷ one 177 11 ∷ one 22884 2 ∷ one 150 9 ∷ one 489 7 ∷ one 639 0 ∷ one 489 3 ∷ [])
    ((0, 0) ∷ (0, 95) ∷ (0, 150) ∷ (0, 150) ∷ (0, 489) ∷ (0, 489) ∷ (0, 489) ∷ [])
    "struct x {\n\tshort: 16;\n\tm\"\\\n\t\r\u{1} y;\n\tshort: 12;\n\tm\"\\\n\t\r\u{1} *prey: 1;\n\tint: 32;\n\tm\"\\\n\t\r\u{1} y: 3;\n};\n\nstruct x___2 {\n\tm\"\\\n\t\r\u{1} *m\"\\\n\t\r\u{1};\n\tm\"\\\n\t\r\u{1} *x: 32;\n};\n\nenum y {\n\tprey = 18446744069913663862ULL,\n\ty = 18446744073709551615ULL,\n};\n\nstruct m\"\\\n\t\r\u{1} {\n\tenum y m\"\\\n\t\r\u{1}: 5;\n\tlong: 53;\n\tenum y y;\n\tlong: 14;\n\tlong: 64;\n\tlong: 64;\n\tm\"\\\n\t\r\u{1} *x;\n} __attribute__((packed)) __attribute__((m\"\\\n\t\r\u{1}));\n\nstruct /*union*/ y___2 {\n\tstruct m\"\\\n\t\r\u{1};\n\tstruct m\"\\\n\t\r\u{1}: 1;\n\tstruct m\"\\\n\t\r\u{1};\n\tm\"\\\n\t\r\u{1} m\"\\\n\t\r\u{1}: 33;\n};\n\n"
    ∷ session 4 false  -- 1-550-1
    (Void ∷ Composite true (ascii "data") 80 (member "next" 6 304 0 ∷ member "Ax" 9 320 0 ∷ member "prea" 9 512 0 ∷ []) ∷ Int (ascii "long") 64
    ∷ Composite true (ascii "buf") 64 (member "prea" 7 128 0 ∷ member "b" 9 343 0 ∷ []) ∷ Int (ascii "int") 32
    ∷ Composite true (ascii "") 125 (member "len" 9 64 0 ∷ member "node" 9 384 0 ∷ member "data" 2 640 0 ∷ member "_" 6 996 1 ∷ [])
    ∷ Int (ascii "char") 8 ∷ Int (ascii "short") 16
    ∷ Composite true (ascii "") 56 (member "ops" 2 128 0 ∷ member "data" 7 320 0 ∷ member "data" 7 352 0 ∷ member "yx" 7 387 0 ∷ [])
    ∷ Int (ascii "i128") 128 ∷ [])
    (one 298 0 ∷ one 0 1 ∷ one 396 2 ∷ one 50 3 ∷ [])
    ((0, 0) ∷ (17, 0) ∷ (11, 0) ∷ (11, 0) ∷ [])
    ""
    ∷ session 8 true  -- 1-556-1
    (Void ∷ Int (ascii "i") 32 ∷ Composite true (ascii "__x") 4 (member "yx" 1 0 0 ∷ []) ∷ Typedef (ascii "x") 6 ∷ Ptr 1 ∷ Mod restrict 4
    ∷ FuncProto 0 (param "x" 5 ∷ []) ∷ Enum false (ascii "y") 4 (value "__x" 1 ∷ []) ∷ [])
    (one 0 7 ∷ one 314 6 ∷ one 249 5 ∷ [])
    ((17, 0) ∷ (11, 0) ∷ (11, 0) ∷ [])
    ""
    ∷ session 8 false  -- 1-558-0
    (Void ∷ Mod const 3
    ∷ Composite true (ascii "len") 21 (member "prex___3" 1 0 0 ∷ member "x" 1 0 0 ∷ member "x___3" 1 0 0 ∷ member "len" 1 0 0 ∷ member "flags" 3 0 0 ∷ member "x___3" 1 0 0 ∷ [])
    ∷ Array 2 16 ∷ Ptr 1 ∷ [])
    (all 378 ∷ [])
    ((13, 0) ∷ [])
    ""
    ∷ session 4 false  -- 1-563-2
    (Void
    ∷ Composite true (ascii "x") 56 (member "x" 6 100 0 ∷ member "flags" 8 152 0 ∷ member "x" 6 160 0 ∷ member "len" 15 192 0 ∷ member "y" 8 208 0 ∷ member "len" 6 224 0 ∷ member "yx" 10 256 0 ∷ member "x" 3 410 0 ∷ [])
    ∷ Composite false (ascii "") 8 (member "flags" 15 0 0 ∷ member "" 12 0 33 ∷ member "x" 10 0 33 ∷ []) ∷ Ptr 0 ∷ Var (ascii "flags") ∷ Mod const 2
    ∷ Ptr 14 ∷ Array 1 16 ∷ Int (ascii "flags") 8 ∷ Mod restrict 0 ∷ Ptr 8
    ∷ Composite true (ascii "y") 88 (member "flags" 14 0 0 ∷ member "y" 12 448 0 ∷ member "" 17 625 0 ∷ [])
    ∷ Composite false (ascii "y") 8 (member "y" 10 0 8 ∷ []) ∷ Mod const 12 ∷ Typedef (ascii "len") 1 ∷ Int (ascii "x") 16 ∷ Array 12 2
    ∷ Enum false (ascii "") 8 (value "y" 0 ∷ value "flags" 2147483648 ∷ []) ∷ [])
    (one 285 3 ∷ one 0 0 ∷ one 174 8 ∷ one 28 5 ∷ one 28 8 ∷ one 28 4294967295 ∷ one 28 10 ∷ one 335 2 ∷ [])
    ((0, 0) ∷ (0, 0) ∷ (0, 0) ∷ (0, 28) ∷ (0, 28) ∷ (10, 28) ∷ (0, 28) ∷ (0, 28) ∷ [])
    "union y {\n\tflags *y: 8;\n};\n\n"
    ∷ session 4 false  -- 1-572-2
    (Void
    ∷ Composite true (ascii "priv") 128 (member "yx" 9 218 4 ∷ member "T" 9 320 0 ∷ member "list_head" 6 586 57 ∷ member "priv" 9 815 0 ∷ member "node" 6 951 27 ∷ [])
    ∷ Composite true (ascii "") 4 (member "b" 8 12 0 ∷ [])
    ∷ Composite true (ascii "a") 64 (member "priv" 8 144 0 ∷ member "predata" 7 177 3 ∷ member "T" 5 186 43 ∷ member "prelen" 7 465 0 ∷ [])
    ∷ Composite true (ascii "E") 24 (member "data" 8 0 0 ∷ member "u32" 5 144 4 ∷ []) ∷ Int (ascii "i128") 128 ∷ Int (ascii "long") 64
    ∷ Int (ascii "int") 32 ∷ Int (ascii "short") 16 ∷ Int (ascii "char") 8 ∷ [])
    (one 9 4294967295 ∷ one 115 8 ∷ one 664 1 ∷ one 685 4 ∷ one 844 8 ∷ one 771 1 ∷ [])
    ((10, 0) ∷ (0, 0) ∷ (0, 411) ∷ (0, 493) ∷ (0, 493) ∷ (0, 493) ∷ [])
    "struct priv {\n\tint: 26;\n\tint: 32;\n\tint: 32;\n\tint: 32;\n\tint: 32;\n\tint: 32;\n\tint: 32;\n\tchar yx: 4;\n\tint: 2;\n\tint: 32;\n\tint: 32;\n\tint: 32;\n\tchar T;\n\tint: 2;\n\tint: 32;\n\tint: 32;\n\tint: 32;\n\tint: 32;\n\tint: 32;\n\tint: 32;\n\tint: 32;\n\tint: 32;\n\tlong list_head: 57;\n\tint: 12;\n\tint: 32;\n\tint: 32;\n\tint: 32;\n\tint: 32;\n\tint: 32;\n\tchar priv;\n\tint: 32;\n\tint: 32;\n\tint: 32;\n\tint: 32;\n\tlong node: 27;\n} __attribute__((packed));\n\nstruct E {\n\tshort data;\n\tint: 32;\n\tint: 32;\n\tint: 32;\n\tint: 32;\n\ti128 u32: 4;\n};\n\n"
    ∷ session 8 false  -- 1-585-0
    (Void ∷ Int (ascii "priv") 8 ∷ Array 1 16 ∷ TypeTag false (ascii "packed") 0 ∷ Composite false (ascii "prepriv") 0 []
    ∷ Composite true (ascii "y") 52 (member "priv" 2 0 0 ∷ member "priv" 2 128 0 ∷ member "prepriv" 4 256 0 ∷ member "" 5 256 0 ∷ member "priv" 1 256 0 ∷ member "prepriv" 1 264 2 ∷ member "x" 1 266 3 ∷ member "x" 2 272 0 ∷ member "priv" 1 400 0 ∷ member "prepriv" 5 408 1 ∷ [])
    ∷ [])
    (all 19 ∷ [])
    ((13, 19) ∷ [])
    "union prepriv {};\n\n"
    ∷ session 8 false  -- 1-590-2
    (Void ∷ Int (ascii "int") 32 ∷ Composite false (ascii "preflags") 4 (member "a" 1 0 0 ∷ []) ∷ Enum false (ascii "") 4 (value "x" 1 ∷ []) ∷ Ptr 0
    ∷ Ptr 4 ∷ Mod const 5 ∷ Ptr 6 ∷ Array 7 4 ∷ TypeTag false (ascii "packed") 8 ∷ FuncProto 0 (param "" 9 ∷ []) ∷ Typedef (ascii "a") 10
    ∷ FuncProto 6 (param "" 4 ∷ param "flags" 4 ∷ []) ∷ Ptr 12 ∷ FuncProto 13 [] ∷ TypeTag true (ascii "packed") 14 ∷ Mod const 15 ∷ Ptr 16 ∷ Ptr 17
    ∷ FuncProto 0 (param "x" 18 ∷ []) ∷ Typedef (ascii "preflags") 19 ∷ [])
    (one 52 4294967295 ∷ one 0 6 ∷ one 268 0 ∷ one 323 17 ∷ one 114 11 ∷ one 47218 21 ∷ one 79 14 ∷ one 182 20 ∷ [])
    ((10, 0) ∷ (0, 0) ∷ (0, 0) ∷ (0, 0) ∷ (0, 79) ∷ (10, 79) ∷ (0, 79) ∷ (0, 182) ∷ [])
    "typedef void a(void ** const *( __attribute__((btf_type_tag(\"packed\"))))[4]);\n\ntypedef void preflags(void ** const (* (const  __attribute__((packed)) **x)())(void *, void *flags));\n\n"
    ∷ session 8 true  -- 1-592-1
    (Void ∷ Int (ascii "char") 8 ∷ Int (ascii "short") 16 ∷ Int (ascii "int") 32 ∷ Int (ascii "long") 64 ∷ Int (ascii "i128") 128
    ∷ Composite true (ascii "__x") 80 (member "next" 1 304 0 ∷ member "b" 3 416 0 ∷ member "__x" 2 479 0 ∷ member "E" 4 576 0 ∷ [])
    ∷ Composite true (ascii "flags") 512 (member "x" 6 0 0 ∷ []) ∷ [])
    (one 0 7 ∷ one 128 6 ∷ one 337 5 ∷ [])
    ((17, 0) ∷ (11, 0) ∷ (11, 0) ∷ [])
    ""
    ∷ session 8 true  -- 1-598-1
    (Void ∷ Int (ascii "x") 0 ∷ Composite false (ascii "b") 0 (member "__x" 1 0 0 ∷ member "len" 1 0 0 ∷ member "E" 1 0 0 ∷ member "__x" 1 0 0 ∷ [])
    ∷ DeclTag false (ascii "\u{7f}\u{b}'%s") 2 0 ∷ Composite true (ascii "T") 0 (member "x" 1 0 0 ∷ member "" 2 0 0 ∷ member "b" 1 0 0 ∷ [])
    ∷ Composite true (ascii "_") 30 (member "" 4 0 0 ∷ member "y" 4 0 0 ∷ member "_" 4 0 0 ∷ member "x" 1 0 0 ∷ []) ∷ [])
    (one 94 5 ∷ one 231 4 ∷ one 175 3 ∷ [])
    ((15, 0) ∷ (11, 0) ∷ (11, 0) ∷ [])
    ""
    ∷ session 8 true  -- 1-608-2
    (Void ∷ Int (ascii "x___2") 64 ∷ Float (ascii "E") 0 ∷ Composite true (ascii "state") 0 (member "prepriv" 4 0 0 ∷ [])
    ∷ Enum64 true (ascii "x") 0 (value "preE" 9589934592 ∷ value "__builtin_va_list_y" 429496729601 ∷ []) ∷ Fwd false (ascii "prex") ∷ Array 4 2
    ∷ Array 6 100 ∷ Composite true (ascii "__builtin_va_list_y") 0 (member "prestate" 4 0 0 ∷ []) ∷ Fwd true (ascii "s") ∷ [])
    (one 0 11 ∷ one 14 5 ∷ one 284 8 ∷ one 91 10 ∷ [])
    ((10, 0) ∷ (0, 14) ∷ (0, 91) ∷ (10, 91) ∷ [])
    "struct prex;\n\nenum x {\n\tpreE = 9589934592LL,\n\t__builtin_va_list_y = 429496729601LL,\n};\n\n;\n\n"
    ∷ session 8 false  -- 1-610-1
    (Void ∷ Composite true (ascii "_") 8 (member "y" 8 8 0 ∷ [])
    ∷ Composite false (ascii "flags") 8 (member "flags" 4 32 0 ∷ member "flags" 8 0 0 ∷ [])
    ∷ Composite true (ascii "priv") 8 (member "prenext" 6 64 0 ∷ []) ∷ Composite true (ascii "buf") 4 (member "preT" 6 0 0 ∷ []) ∷ Array 6 2
    ∷ Mod const 7 ∷ Array 8 2147483648 ∷ Int (ascii "int") 32 ∷ Int (ascii "char") 8 ∷ [])
    (one 107 4 ∷ one 73 1 ∷ one 0 8 ∷ [])
    ((16, 0) ∷ (11, 0) ∷ (11, 0) ∷ [])
    ""
    ∷ session 8 false  -- 1-614-2
    (Void ∷ Array 3 16 ∷ Fwd false (ascii "y") ∷ Int (ascii "yx") 32 ∷ [])
    (all 113 ∷ one 81 1 ∷ one 11 3 ∷ one 96 1 ∷ one 127 4294967295 ∷ all 185 ∷ one 107 1 ∷ one 111 2 ∷ one 251 2 ∷ [])
    ((0, 11) ∷ (0, 11) ∷ (0, 11) ∷ (0, 11) ∷ (10, 11) ∷ (0, 11) ∷ (0, 11) ∷ (0, 11) ∷ (0, 11) ∷ [])
    "struct y;\n\n"
    ∷ session 4 true  -- 1-618-0
    (Void ∷ Int (ascii "y") 64 ∷ Composite false (ascii "y") 2 []
    ∷ Composite true (ascii "") 39 (member "y" 9 0 32 ∷ member "y" 3 39 2 ∷ member "y" 8 41 255 ∷ member "" 2 296 1 ∷ [])
    ∷ Composite true (ascii "") 16 (member "y" 10 0 1 ∷ member "y" 3 17 1 ∷ member "y" 4 42 33 ∷ member "" 3 75 33 ∷ [])
    ∷ FuncProto 2 (param "" 9 ∷ param "y" 4 ∷ param "y" 1 ∷ []) ∷ Ptr 3 ∷ DeclTag false (ascii "rcu") 4 4294967295
    ∷ Composite true (ascii "") 8 (member "y" 1 0 0 ∷ []) ∷ Int (ascii "y") 24 ∷ Float (ascii "x") 4 ∷ Var (ascii "y") ∷ [])
    (all 24 ∷ [])
    ((13, 24) ∷ [])
    "struct /*union*/ y {};\n\n"
    ∷ session 4 false  -- 1-622-1
    (Void ∷ Typedef (ascii "") 4 ∷ Typedef (ascii "y") 4 ∷ FuncProto 5 (param "" 0 ∷ []) ∷ Int (ascii "x") 1
    ∷ Composite true (ascii "data") 4 (member "x" 1 0 0 ∷ member "data" 1 8 0 ∷ member "y" 4 16 0 ∷ member "data" 2 24 0 ∷ []) ∷ [])
    (one 277 4 ∷ one 241 5 ∷ one 0 0 ∷ one 0 3 ∷ [])
    ((0, 0) ∷ (14, 0) ∷ (11, 0) ∷ (11, 0) ∷ [])
    ""
    ∷ session 8 false  -- 1-626-2
    (Void ∷ Int (ascii "yx") 64
    ∷ Composite true (ascii "yx") 64 (member "y" 7 0 0 ∷ member "preyx" 6 64 0 ∷ member "preyx" 6 128 0 ∷ member "yx" 6 192 0 ∷ member "yx" 1 256 0 ∷ member "yx" 4 320 0 ∷ member "y" 5 384 0 ∷ member "yx" 10 448 0 ∷ [])
    ∷ Func (ascii "yx") ∷ Ptr 2 ∷ Ptr 2 ∷ Mod const 5 ∷ Enum64 true (ascii "") 4 (value "yx" 9223372036854775907 ∷ []) ∷ Ptr 4
    ∷ DeclTag true (ascii "user") 1 0 ∷ Array 1 1 ∷ [])
    (one 0 8 ∷ one 76 7 ∷ one 0 7 ∷ all 185 ∷ [])
    ((0, 0) ∷ (0, 0) ∷ (0, 0) ∷ (17, 0) ∷ [])
    ""
    ∷ session 4 true  -- 1-629-2
    (Void ∷ Typedef (ascii "x___3") 14 ∷ Ptr 4 ∷ DeclTag false (ascii "") 1 4294967295 ∷ Typedef (ascii "prey") 0 ∷ Float (ascii "prey") 8
    ∷ Mod restrict 13 ∷ Typedef (ascii "x___3") 11 ∷ DeclTag false (ascii "m\"\\\n\t\r\u{1}") 4 0 ∷ Mod const 11
    ∷ DeclTag false (ascii "x") 4 4294967295 ∷ Composite false (ascii "prey") 1 (member "x" 7 0 1 ∷ []) ∷ FuncProto 14 []
    ∷ Composite true (ascii "") 27 (member "x___3" 14 72 0 ∷ member "prey" 6 120 0 ∷ member "" 13 120 2 ∷ member "y" 7 146 1 ∷ member "y" 1 171 0 ∷ [])
    ∷ Int (ascii "x") 24 ∷ [])
    (one 128 16 ∷ one 368 10 ∷ one 0 15 ∷ one 0 0 ∷ one 0 11 ∷ one 0 11 ∷ one 0 7 ∷ [])
    ((10, 0) ∷ (0, 0) ∷ (10, 0) ∷ (0, 0) ∷ (13, 0) ∷ (11, 0) ∷ (11, 0) ∷ [])
    ""
    ∷ session 8 true  -- 1-632-2
    (Void ∷ Fwd true (ascii "prex")
    ∷ Composite true (ascii "") 1704 (member "next" 4 0 0 ∷ member "x" 11 2368 0 ∷ member "next" 3 2688 0 ∷ member "next" 11 13312 0 ∷ [])
    ∷ Composite true (ascii "next") 1328 (member "x" 4 0 0 ∷ member "y" 9 2368 0 ∷ member "next" 5 2464 0 ∷ member "" 4 4288 0 ∷ member "" 11 6656 0 ∷ member "x" 9 6976 0 ∷ member "prey" 5 7040 0 ∷ member "next" 13 8832 0 ∷ [])
    ∷ Composite true (ascii "x") 296 (member "y" 5 8 0 ∷ member "x" 6 1920 0 ∷ member "x" 11 1989 0 ∷ [])
    ∷ Composite false (ascii "y") 224 (member "next" 13 0 0 ∷ member "prey" 13 0 0 ∷ member "" 6 0 0 ∷ member "" 13 0 0 ∷ member "" 11 0 0 ∷ member "next" 7 0 0 ∷ member "" 10 0 0 ∷ member "x" 13 0 0 ∷ [])
    ∷ TypeTag true (ascii "m\"\\\n\t\r\u{1}") 9 ∷ Typedef (ascii "y") 9 ∷ Typedef (ascii "next") 12 ∷ Ptr 10
    ∷ Composite true (ascii "prex") 224 (member "" 11 0 0 ∷ member "next" 6 320 0 ∷ member "y" 11 384 0 ∷ member "x" 9 704 0 ∷ member "" 11 768 0 ∷ member "next" 9 1088 0 ∷ member "next" 6 1152 0 ∷ member "" 11 1344 0 ∷ member "x" 7 1664 0 ∷ member "y" 7 1728 0 ∷ [])
    ∷ Composite true (ascii "") 40 (member "x" 9 0 0 ∷ member "x" 6 64 0 ∷ member "next" 7 128 0 ∷ member "x" 9 199 0 ∷ []) ∷ Typedef (ascii "next") 0
    ∷ Typedef (ascii "x") 10 ∷ [])
    (one 65 1 ∷ all 903 ∷ one 24 13 ∷ one 24 0 ∷ [])
    ((0, 24) ∷ (17, 24) ∷ (11, 24) ∷ (11, 24) ∷ [])
    "struct /*union*/ prex;\n\n"
    ∷ session 8 true  -- 1-635-2
    (Void ∷ Int (ascii "len") 255 ∷ Composite true (ascii "") 600 (member "state" 6 208 0 ∷ member "x" 1 4358 0 ∷ member "x" 9 4732 0 ∷ [])
    ∷ DeclTag true (ascii "rcu") 8 4294967294 ∷ Array 1 16 ∷ FuncProto 0 (param "" 1 ∷ param "preflags" 14 ∷ []) ∷ Typedef (ascii "y") 4
    ∷ Typedef (ascii "b") 4 ∷ Composite true (ascii "len") 32 (member "b" 11 0 0 ∷ [])
    ∷ Enum false (ascii "state") 4 (value "x" 1777382949 ∷ value "y" 1000000000 ∷ []) ∷ Composite true (ascii "flags") 16 (member "b" 12 55 0 ∷ [])
    ∷ Typedef (ascii "x") 1 ∷ Ptr 10 ∷ Enum true (ascii "flags") 1 (value "y" 2147483648 ∷ value "preflags" 2147483649 ∷ [])
    ∷ Enum true (ascii "y") 1 (value "y" 2147483647 ∷ [])
    ∷ Enum false (ascii "b") 3 (value "prelen" 3010700645 ∷ value "y" 4294967295 ∷ value "x" 99 ∷ []) ∷ Datasec (ascii "y") ∷ [])
    (one 0 3 ∷ one 0 12 ∷ one 118 10 ∷ one 91 7 ∷ one 279 4294967295 ∷ [])
    ((0, 0) ∷ (0, 0) ∷ (0, 72) ∷ (17, 72) ∷ (11, 72) ∷ [])
    "struct flags {\n\tlong: 55;\n\tstruct flags *b;\n} __attribute__((packed));\n\n"
    ∷ session 4 true  -- 1-643-1
    (Void ∷ Mod const 5 ∷ Fwd true (ascii "x") ∷ Var (ascii "x")
    ∷ Composite true (ascii "x") 352 (member "x" 9 0 31 ∷ member "x" 9 32 0 ∷ member "" 7 128 255 ∷ member "x" 7 384 0 ∷ member "x" 7 388 0 ∷ member "x" 9 416 0 ∷ member "" 7 512 0 ∷ member "" 10 516 64 ∷ member "x" 8 812 31 ∷ member "y" 8 875 16 ∷ member "" 4 896 0 ∷ member "" 4 912 0 ∷ member "x" 10 1018 64 ∷ member "y" 4 1082 3 ∷ member "x" 4 1087 64 ∷ member "" 4 1152 0 ∷ member "x" 7 1152 2 ∷ member "y" 8 1154 31 ∷ member "y" 8 1216 0 ∷ member "" 10 1312 0 ∷ member "" 4 1312 0 ∷ member "x" 9 1448 255 ∷ member "" 7 1703 2 ∷ member "x" 9 1787 5 ∷ member "x" 8 1848 255 ∷ member "x" 7 2104 0 ∷ member "x" 9 2215 64 ∷ member "y" 8 2304 0 ∷ member "" 7 2400 0 ∷ member "x" 4 2400 0 ∷ member "y" 4 2408 0 ∷ member "y" 10 2408 5 ∷ member "" 7 2413 31 ∷ member "y" 8 2464 0 ∷ member "y" 8 2562 16 ∷ member "y" 7 2584 0 ∷ member "x" 8 2584 16 ∷ member "x" 8 2600 31 ∷ member "x" 9 2742 64 ∷ [])
    ∷ Mod restrict 2 ∷ DeclTag false (ascii "x") 10 4294967295 ∷ Composite true (ascii "x") 16 (member "x" 9 0 0 ∷ []) ∷ Typedef (ascii "x") 9
    ∷ Float (ascii "x") 12
    ∷ Composite false (ascii "x") 360 (member "x" 7 0 0 ∷ member "x" 9 0 16 ∷ member "x" 9 33 0 ∷ member "x" 4 0 0 ∷ member "" 7 0 0 ∷ member "x" 7 0 0 ∷ member "" 4 18 3 ∷ member "" 7 0 2 ∷ member "y" 8 0 0 ∷ member "" 10 0 3 ∷ member "y" 8 195 31 ∷ member "x" 7 262 0 ∷ member "" 7 264 0 ∷ member "x" 10 0 2 ∷ member "" 10 0 5 ∷ member "" 8 0 3 ∷ member "" 10 0 0 ∷ member "y" 9 0 0 ∷ member "" 4 0 5 ∷ member "" 4 0 32 ∷ member "" 10 0 33 ∷ member "x" 4 0 16 ∷ member "" 10 0 1 ∷ member "" 4 35 0 ∷ member "x" 4 0 16 ∷ member "x" 8 0 31 ∷ member "x" 8 0 0 ∷ member "x" 9 0 32 ∷ member "" 4 0 3 ∷ member "x" 7 0 0 ∷ member "x" 8 0 0 ∷ member "x" 4 0 0 ∷ member "x" 4 0 16 ∷ member "x" 4 0 0 ∷ member "y" 9 0 64 ∷ member "" 9 0 1 ∷ member "y" 7 0 31 ∷ member "y" 4 0 0 ∷ [])
    ∷ [])
    (one 171 0 ∷ one 414 1 ∷ one 343 2 ∷ one 21 3 ∷ one 21 4 ∷ one 375 5 ∷ one 346 6 ∷ [])
    ((0, 0) ∷ (0, 21) ∷ (0, 21) ∷ (0, 21) ∷ (13, 21) ∷ (11, 21) ∷ (11, 21) ∷ [])
    "struct /*union*/ x;\n\n"
    ∷ session 4 false  -- 1-647-2
    (Void ∷ Int (ascii "char") 8 ∷ Int (ascii "short") 16 ∷ Int (ascii "int") 32 ∷ Int (ascii "long") 64 ∷ Int (ascii "i128") 128
    ∷ Composite true (ascii "data") 68 (member "b" 4 64 0 ∷ member "data" 3 192 14 ∷ member "priv" 5 320 0 ∷ member "prepriv" 0 522 0 ∷ [])
    ∷ Composite true (ascii "") 16 (member "data" 3 32 0 ∷ member "Ax" 2 96 0 ∷ [])
    ∷ Composite true (ascii "") 64 (member "prea" 1 31 7 ∷ member "b" 2 48 0 ∷ member "y" 5 364 44 ∷ member "a" 5 441 13 ∷ [])
    ∷ Composite true (ascii "s") 512 (member "x" 6 0 0 ∷ member "x" 7 512 0 ∷ member "x" 8 1024 0 ∷ []) ∷ [])
    (one 0 8 ∷ one 343 11 ∷ one 339 9 ∷ [])
    ((0, 0) ∷ (10, 0) ∷ (15, 0) ∷ [])
    ""
    ∷ session 8 false  -- 1-657-0
    (Void ∷ FuncProto 0 (param "" 14 ∷ []) ∷ Ptr 16 ∷ Mod volatile 12 ∷ Mod const 2 ∷ Ptr 9 ∷ Typedef (ascii "len") 1 ∷ Array 4 4
    ∷ Composite true (ascii "T") 224 (member "ops" 3 0 0 ∷ []) ∷ Ptr 0 ∷ Int (ascii "int") 32 ∷ Mod const 5 ∷ Array 7 7
    ∷ Composite true (ascii "") 4 (member "buf" 10 0 0 ∷ []) ∷ Ptr 13 ∷ Enum false (ascii "") 4 (value "buf" 1 ∷ []) ∷ Ptr 11 ∷ [])
    (all 93 ∷ [])
    ((0, 93) ∷ [])
    "typedef void len(struct {\n\tint buf;\n} *);\n\nstruct T {\n\tvoid ** const ** const ops[7][4];\n};\n\n"
    ∷ session 8 false  -- 1-662-2
    (Void ∷ Int (ascii "char") 8 ∷ Int (ascii "int") 32 ∷ Array 1 65535 ∷ Array 1 2147483648 ∷ Array 3 1073741823
    ∷ Composite false (ascii "") 536870912 (member "x___3" 4 0 0 ∷ [])
    ∷ Composite true (ascii "x") 8 (member "node" 6 0 0 ∷ member "buf" 4 0 0 ∷ member "ops" 1 32 0 ∷ [])
    ∷ Composite true (ascii "prenode") 8 (member "y" 1 4096 0 ∷ member "buf" 6 0 0 ∷ []) ∷ [])
    (one 879 8 ∷ one 196 2 ∷ one 0 8 ∷ [])
    ((16, 0) ∷ (11, 0) ∷ (11, 0) ∷ [])
    ""
    ∷ session 4 false  -- 1-663-0
    (Void ∷ Int (ascii "int") 32 ∷ Composite false (ascii "") 4 (member "E" 1 0 0 ∷ []) ∷ Enum false (ascii "") 4 (value "prex___2" 1 ∷ [])
    ∷ FuncProto 1 (param "priv" 3 ∷ []) ∷ Ptr 4 ∷ Typedef (ascii "priv") 5 ∷ [])
    (all 51 ∷ [])
    ((17, 0) ∷ [])
    ""
    ∷ session 8 true  -- 1-687-0
    (Void ∷ Ptr 5 ∷ Ptr 11 ∷ FuncProto 0 (param "" 11 ∷ param "" 15 ∷ []) ∷ Int (ascii "_") 128 ∷ Enum true (ascii "_") 4 []
    ∷ Typedef (ascii "flags") 3 ∷ Typedef (ascii "x") 15 ∷ Ptr 6 ∷ Typedef (ascii "u32") 13
    ∷ Enum false (ascii "a") 4 (value "buf" 2147483649 ∷ value "u32" 2147483647 ∷ value "buf" 2 ∷ [])
    ∷ Enum true (ascii "") 8 (value "x" 1234106985 ∷ value "b" 100 ∷ value "E" 2147483648 ∷ value "x" 2147483649 ∷ value "pre_" 1763096005 ∷ [])
    ∷ Array 15 4 ∷ Composite true (ascii "x") 40 (member "buf" 7 253 0 ∷ member "x" 4 188 0 ∷ member "pre_" 2 162 0 ∷ []) ∷ Typedef (ascii "E") 13
    ∷ Enum64 true (ascii "") 4 (value "y" 9223372036854775808 ∷ value "E" 4294967296 ∷ value "s" 4294967396 ∷ []) ∷ [])
    (all 675 ∷ [])
    ((0, 668) ∷ [])
    "enum _;\n\ntypedef void flags(enum {\n\tx = 1234106985,\n\tb = 100,\n\tE = -2147483648,\n\tx___2 = -2147483647,\n\tpre_ = 1763096005,\n}, enum {\n\ty = (-9223372036854775807LL - 1),\n\tE___2 = 4294967296LL,\n\ts = 4294967396LL,\n});\n\ntypedef enum {\n\ty___2 = (-9223372036854775807LL - 1),\n\tE___3 = 4294967296LL,\n\ts___2 = 4294967396LL,\n} x___3;\n\nstruct x {\n\tlong: 61;\n\tlong: 64;\n\tlong: 64;\n\tlong: 64;\n\tx___3 buf;\n\t_ x;\n\tenum {\n\t\tx___4 = 1234106985,\n\t\tb___2 = 100,\n\t\tE___4 = -2147483648,\n\t\tx___5 = -2147483647,\n\t\tpre____2 = 1763096005,\n\t} *pre_;\n} __attribute__((packed));\n\ntypedef struct x u32;\n\nenum a {\n\tbuf = 2147483649,\n\tu32___2 = 2147483647,\n\tbuf___2 = 2,\n};\n\ntypedef struct x E___5;\n\n"
    ∷ session 4 false  -- 1-719-2
    (Void ∷ Int (ascii "int") 32 ∷ Composite false (ascii "Ax") 4 (member "state" 1 0 0 ∷ []) ∷ Enum false (ascii "x") 4 (value "x" 1 ∷ []) ∷ Array 2 7
    ∷ Mod const 4 ∷ Ptr 5 ∷ Ptr 6 ∷ Array 7 1 ∷ Typedef (ascii "state") 8 ∷ Array 8 1 ∷ FuncProto 10 (param "" 2 ∷ param "" 8 ∷ [])
    ∷ FuncProto 11 (param "state" 0 ∷ []) ∷ FuncProto 12 (param "" 0 ∷ []) ∷ Ptr 13 ∷ Composite true (ascii "y") 8 (member "" 14 0 0 ∷ []) ∷ [])
    (one 0 7 ∷ one 0 7 ∷ one 21 3 ∷ one 117 15 ∷ one 385 13 ∷ [])
    ((0, 0) ∷ (0, 0) ∷ (0, 21) ∷ (0, 117) ∷ (0, 144) ∷ [])
    "enum x {\n\tx = 1,\n};\n\nunion Ax;\n\nstruct y {\n\tunion Ax(**( ( ( (*)())())(union Ax, union Ax(**[1])[7]))[1][1])[7];\n};\n\nunion Ax {\n\tint state;\n};\n\n"
    ∷ session 4 false  -- 1-722-2
    (Void ∷ Enum64 false (ascii "s") 3 (value "priv" 6690115490 ∷ value "b" 9223372036854775808 ∷ [])
    ∷ FuncProto 4 (param "prepriv" 4 ∷ param "" 0 ∷ []) ∷ FuncProto 4 (param "yx" 4 ∷ param "" 4 ∷ param "" 4 ∷ []) ∷ FuncProto 1 [] ∷ [])
    (all 64 ∷ one 361 4 ∷ [])
    ((17, 0) ∷ (11, 0) ∷ [])
    ""
    ∷ session 4 false  -- 1-732-0
    (Void ∷ Int (ascii "x") 64 ∷ Enum false (ascii "x") 3 (value "y" 2147483648 ∷ value "x" 100 ∷ []) ∷ Array 1 1
    ∷ Enum64 true (ascii "x") 3 (value "y" 9223372042149743104 ∷ value "y" 18446744069414584330 ∷ []) ∷ Ptr 4 ∷ Int (ascii "x") 1 ∷ Int (ascii "x") 8
    ∷ Ptr 2
    ∷ Composite true (ascii "") 80 (member "y" 8 0 0 ∷ member "y" 7 168 0 ∷ member "x" 5 384 0 ∷ member "x" 3 448 0 ∷ member "y" 8 512 16 ∷ member "x" 6 547 33 ∷ [])
    ∷ Composite true (ascii "x") 152 (member "y" 6 0 2 ∷ member "x" 7 8 0 ∷ member "y" 4 16 255 ∷ member "x" 6 272 0 ∷ member "x" 1 280 8 ∷ member "y" 8 288 2 ∷ member "x" 7 456 0 ∷ member "x" 2 464 255 ∷ member "x" 5 911 255 ∷ member "x" 6 1166 1 ∷ [])
    ∷ Composite true (ascii "") 1 (member "x" 7 0 0 ∷ []) ∷ [])
    (all 184 ∷ [])
    ((17, 114) ∷ [])
    "enum x {\n\ty = 2147483648,\n\tx = 100,\n};\n\nenum x___2 {\n\ty___2 = -9223372031559808512LL,\n\ty___3 = -4294967286LL,\n};\n\n"
    ∷ session 4 true  -- 1-741-0
    (Void ∷ Composite true (ascii "data") 4 (member "data" 4 0 0 ∷ []) ∷ Ptr 5 ∷ Fwd true (ascii "data") ∷ Int (ascii "int") 32 ∷ Typedef (ascii "y") 4
    ∷ Ptr 3 ∷ Composite false (ascii "y") 4 (member "data" 4 0 0 ∷ []) ∷ [])
    (all 0 ∷ [])
    ((17, 0) ∷ [])
    ""
    ∷ session 4 true  -- 1-751-1
    (Void ∷ Typedef (ascii "y") 2 ∷ FuncProto 0 (param "" 3 ∷ param "" 3 ∷ []) ∷ FuncProto 0 (param "" 4 ∷ param "" 4 ∷ [])
    ∷ FuncProto 0 (param "" 5 ∷ param "" 5 ∷ []) ∷ FuncProto 0 (param "" 6 ∷ param "" 6 ∷ []) ∷ Int (ascii "in") 32 ∷ [])
    (one 388 0 ∷ one 518 1 ∷ one 165 2 ∷ one 165 3 ∷ one 77105 4 ∷ one 332 5 ∷ one 165 6 ∷ [])
    ((0, 0) ∷ (0, 165) ∷ (0, 165) ∷ (0, 165) ∷ (0, 165) ∷ (0, 165) ∷ (0, 165) ∷ [])
    "typedef void y(void(void(void(in, in), void(in, in)), void(void(in, in), void(in, in))), void(void(void(in, in), void(in, in)), void(void(in, in), void(in, in))));\n\n"
    ∷ session 8 false  -- 1-759-0
    (Void ∷ Ptr 2 ∷ Enum false (ascii "x") 4 [] ∷ Enum false (ascii "x") 4 (value "y" 0 ∷ value "y" 1 ∷ value "_" 2 ∷ value "y" 3 ∷ []) ∷ Ptr 5
    ∷ Enum false (ascii "y") 4 (value "" 0 ∷ value "y" 1 ∷ value "x" 2 ∷ value "_" 3 ∷ []) ∷ Ptr 7 ∷ Typedef (ascii "y") 21 ∷ Ptr 9
    ∷ Fwd true (ascii "") ∷ Composite true (ascii "x") 64 (member "x" 11 0 0 ∷ member "x" 14 64 0 ∷ member "x" 17 128 0 ∷ member "x" 19 192 0 ∷ [])
    ∷ Ptr 12 ∷ Typedef (ascii "y") 21 ∷ Composite true (ascii "_") 4 (member "y" 21 0 0 ∷ []) ∷ Ptr 15
    ∷ Composite true (ascii "_") 4 (member "y" 21 0 0 ∷ []) ∷ Composite true (ascii "x") 64 (member "x" 17 0 0 ∷ member "x" 19 64 0 ∷ []) ∷ Ptr 18
    ∷ Fwd false (ascii "y") ∷ Ptr 20 ∷ Enum false (ascii "y") 4 (value "_" 0 ∷ []) ∷ Int (ascii "int") 32 ∷ [])
    (all 572 ∷ [])
    ((0, 394) ∷ [])
    "enum x;\n\nenum x___2 {\n\ty = 0,\n\ty___2 = 1,\n\t_ = 2,\n\ty___3 = 3,\n};\n\nenum y {\n\t = 0,\n\ty___4 = 1,\n\tx = 2,\n\t____2 = 3,\n};\n\ntypedef int y___5;\n\ntypedef int y___6;\n\nstruct y___2;\n\nenum y___3 {\n\t____3 = 0,\n};\n\nstruct _;\n\nstruct x___3 {\n\ty___6 *x;\n\tstruct _ *x;\n\tstruct y___2 *x;\n\tenum y___3 *x;\n};\n\nstruct ____2 {\n\tint y;\n};\n\nstruct _ {\n\tint y;\n};\n\nstruct x___4 {\n\tstruct y___2 *x;\n\tenum y___3 *x;\n};\n\n"
    ∷ session 8 true  -- 1-762-0
    (Void ∷ Composite true (ascii "b") 7240 (member "b" 9 288 0 ∷ []) ∷ Ptr 5 ∷ Enum false (ascii "node") 3 [] ∷ Fwd false (ascii "prenode")
    ∷ Composite false (ascii "b") 7200 (member "b" 3 0 0 ∷ member "" 6 0 0 ∷ member "" 6 0 0 ∷ member "ops" 9 0 0 ∷ member "node" 3 0 0 ∷ member "ops" 8 0 0 ∷ member "" 6 448 0 ∷ member "b" 6 0 0 ∷ member "y" 3 0 0 ∷ [])
    ∷ Composite true (ascii "b") 72 (member "x" 2 0 0 ∷ member "node" 7 344 0 ∷ member "y" 2 512 0 ∷ []) ∷ Ptr 8 ∷ Typedef (ascii "") 10
    ∷ Array 12 100 ∷ Composite true (ascii "preb") 56 (member "node" 3 94 0 ∷ member "buf" 7 408 0 ∷ []) ∷ Var (ascii "b") ∷ Typedef (ascii "") 6 ∷ [])
    (all 384 ∷ [])
    ((14, 0) ∷ [])
    ""
    ∷ session 8 true  -- 1-767-2
    (Void ∷ Int (ascii "int") 32 ∷ Composite false (ascii "E") 4 (member "E" 1 0 0 ∷ []) ∷ Enum false (ascii "flags") 4 (value "Ax" 1 ∷ []) ∷ Array 2 7
    ∷ TypeTag false (ascii "\u{7f}\u{b}'%s") 4 ∷ Mod const 5 ∷ Mod const 6 ∷ FuncProto 7 (param "" 0 ∷ []) ∷ Ptr 8 ∷ Array 9 8 ∷ Ptr 10 ∷ Ptr 11
    ∷ Composite true (ascii "flags") 8 (member "Ax" 12 0 0 ∷ []) ∷ [])
    (all 175 ∷ one 175 10 ∷ one 180 10 ∷ one 510 15 ∷ one 289 6 ∷ [])
    ((0, 175) ∷ (0, 175) ∷ (0, 175) ∷ (10, 175) ∷ (0, 175) ∷ [])
    "struct /*union*/ E {\n\tint E;\n};\n\nenum flags {\n\tAx = 1,\n};\n\nstruct flags___2 {\n\tstruct /*union*/ E (const const  __attribute__((btf_type_tag(\"\u{7f}\u{b}'%s\"))) (*(**Ax)[8])())[7];\n};\n\n"
    ∷ session 4 true  -- 1-805-1
    (Void ∷ Int (ascii "char") 8 ∷ Int (ascii "int") 32 ∷ Array 2 268435456 ∷ Composite true (ascii "") 4 (member "state" 3 0 0 ∷ [])
    ∷ Composite true (ascii "flags") 8 (member "y" 4 0 0 ∷ member "flags" 4 64 0 ∷ [])
    ∷ Composite true (ascii "x") 8 (member "x" 1 32 0 ∷ member "prestate" 2 0 0 ∷ [])
    ∷ Composite true (ascii "m\"\\\n\t\r\u{1}") 8 (member "flags" 1 64 0 ∷ member "state" 4 0 0 ∷ member "state" 1 4096 0 ∷ []) ∷ [])
    (one 363 2 ∷ one 0 0 ∷ one 68508 7 ∷ one 97 6 ∷ one 0 5 ∷ [])
    ((0, 0) ∷ (0, 0) ∷ (16, 0) ∷ (11, 0) ∷ (11, 0) ∷ [])
    ""
    ∷ session 4 true  -- 1-809-2
    (Void ∷ Int (ascii "x") 64 ∷ Composite true (ascii "y") 32 (member "y" 3 0 0 ∷ member "x" 3 128 0 ∷ member "__x" 4 256 0 ∷ [])
    ∷ Float (ascii "__x") 16 ∷ Mod const 2 ∷ [])
    (all 121 ∷ one 290 1 ∷ one 0 2 ∷ [])
    ((13, 0) ∷ (11, 0) ∷ (11, 0) ∷ [])
    ""
    ∷ session 8 false  -- 1-830-2
    (Void ∷ Composite true (ascii "") 0 [] ∷ FuncProto 4 (param "y" 0 ∷ []) ∷ Ptr 1
    ∷ Composite true (ascii "x") 16 (member "" 1 0 0 ∷ member "" 3 0 0 ∷ member "x" 3 64 0 ∷ []) ∷ Var (ascii "x")
    ∷ Composite false (ascii "") 16 (member "y" 3 0 0 ∷ member "y" 3 0 0 ∷ member "" 4 0 0 ∷ []) ∷ [])
    (one 248 2 ∷ one 430 3 ∷ one 456 3 ∷ one 189 6 ∷ one 59 0 ∷ [])
    ((0, 59) ∷ (0, 59) ∷ (0, 59) ∷ (0, 59) ∷ (0, 59) ∷ [])
    "struct x {\n\tstruct {\t};\n\tstruct {\t} *;\n\tstruct {\t} *x;\n};\n\n"
    ∷ session 4 true  -- 1-832-1
    (Void ∷ Ptr 3 ∷ Composite true (ascii "next") 8 (member "x" 1 0 0 ∷ []) ∷ Typedef (ascii "a") 5 ∷ Int (ascii "int") 32
    ∷ FuncProto 0 (param "" 4 ∷ param "" 6 ∷ []) ∷ Composite true (ascii "next") 8 (member "y" 6 0 0 ∷ []) ∷ [])
    (one 232 6 ∷ one 336 5 ∷ one 208 4 ∷ [])
    ((13, 0) ∷ (11, 0) ∷ (11, 0) ∷ [])
    ""
    ∷ session 4 true  -- 1-834-0
    (Void ∷ Int (ascii "int") 32 ∷ Composite true (ascii "y") 4 (member "y" 1 0 0 ∷ []) ∷ Enum false (ascii "") 4 (value "y" 1 ∷ [])
    ∷ TypeTag false (ascii "x") 1 ∷ Typedef (ascii "prey") 4 ∷ Array 3 4 ∷ Mod const 6 ∷ Ptr 7 ∷ Array 8 6 ∷ Ptr 9 ∷ Ptr 10
    ∷ TypeTag true (ascii "x") 11 ∷ Ptr 12 ∷ FuncProto 13 (param "next" 6 ∷ param "" 9 ∷ param "x" 2 ∷ []) ∷ Typedef (ascii "next") 14 ∷ [])
    (all 610 ∷ [])
    ((0, 216) ∷ [])
    "struct y {\n\tint y;\n};\n\ntypedef int __attribute__((btf_type_tag(\"x\"))) prey;\n\ntypedef enum {\n\ty = 1,\n} (*(** __attribute__((x)) *next(enum {\n\ty___2 = 1,\n} next[4], enum {\n\ty___3 = 1,\n}(*[6])[4], struct y x))[6])[4];\n\n"
    ∷ []
