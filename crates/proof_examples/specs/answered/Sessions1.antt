-- Written by tools/vectors.py. Sections and requests of oracle/answers.cases, each beside the answers.
-- That they are equal is `sessions1_hold` of proofs/Sessions1.
use Rattle.std.specs.Prelude.{true, false, List, [], ◌∷◌}
use Rattle.spec_bytes.specs.text.Text.{ascii}
use Rattle.spec_c_dumper.specs.rules.Machine.{one, all}
use Rattle.proof_examples.specs.vectors.Base.{member, param, value, Vector, session}
use Rattle.spec_c_dumper.specs.rules.Types.{volatile, const, restrict, Void, Int, Ptr, Array, Composite, Enum, Enum64, Fwd, Typedef, Mod, Func, Var, Datasec, FuncProto, Float, DeclTag, TypeTag}

abbrev pub sessions1 : List Vector
sessions1 =
    session 8 false  -- 1-234-0
    (Void ∷ Composite true (ascii "") 8 (member "a" 3 0 0 ∷ []) ∷ Composite true (ascii "x") 8 (member "E" 1 0 0 ∷ [])
    ∷ Composite true (ascii "y") 8 (member "y" 2 0 0 ∷ []) ∷ Int (ascii "int") 32 ∷ [])
    (all 311 ∷ [])
    ((13, 0) ∷ [])
    ""
    ∷ session 4 true  -- 1-236-2
    (Void ∷ Int (ascii "int") 32 ∷ Typedef (ascii "") 1 ∷ Ptr 2 ∷ Composite true (ascii "x___2") 8 (member "state" 3 0 0 ∷ [])
    ∷ Composite true (ascii "x___2") 16 (member "len" 1 0 0 ∷ member "len" 3 64 0 ∷ []) ∷ Typedef (ascii "x") 2 ∷ [])
    (one 79 0 ∷ one 0 0 ∷ all 123 ∷ [])
    ((0, 0) ∷ (0, 0) ∷ (14, 0) ∷ [])
    ""
    ∷ session 4 false  -- 1-238-1
    (Void ∷ FuncProto 8 [] ∷ Int (ascii "buf") 0 ∷ DeclTag false (ascii "\u{7f}\u{b}'%s") 11 4294967295 ∷ Typedef (ascii "a") 14 ∷ Mod const 1
    ∷ Mod restrict 10 ∷ Composite true (ascii "yx") 72 (member "" 8 0 0 ∷ member "__x" 2 288 0 ∷ member "a" 11 288 0 ∷ member "a" 13 576 0 ∷ [])
    ∷ Composite true (ascii "a") 36 (member "a" 4 288 0 ∷ []) ∷ FuncProto 12 []
    ∷ FuncProto 13 (param "priv" 4 ∷ param "" 13 ∷ param "" 7 ∷ param "state" 13 ∷ param "state" 1 ∷ []) ∷ Typedef (ascii "yx") 12
    ∷ TypeTag false (ascii "\u{7f}\u{b}'%s") 8 ∷ Mod const 4 ∷ Float (ascii "x") 0 ∷ [])
    (one 104 7 ∷ one 224 6 ∷ one 29362 13 ∷ [])
    ((15, 0) ∷ (11, 0) ∷ (11, 0) ∷ [])
    ""
    ∷ session 8 true  -- 1-240-0
    (Void ∷ Mod const 7 ∷ Int (ascii "y") 255 ∷ FuncProto 7 (param "y" 6 ∷ []) ∷ Ptr 7 ∷ FuncProto 7 (param "y" 10 ∷ [])
    ∷ Composite true (ascii "y") 52 (member "x" 1 221 0 ∷ member "" 13 162 0 ∷ member "x" 11 84 0 ∷ [])
    ∷ Composite true (ascii "x") 24 (member "x" 13 154 0 ∷ []) ∷ Func (ascii "y") ∷ Mod const 1 ∷ FuncProto 12 (param "" 1 ∷ [])
    ∷ Enum false (ascii "y") 2 (value "y" 4294967295 ∷ value "y" 2 ∷ []) ∷ Array 0 2 ∷ Int (ascii "x") 32 ∷ Mod restrict 5
    ∷ DeclTag true (ascii "packed") 7 4294967295 ∷ [])
    (all 262 ∷ [])
    ((17, 102) ∷ [])
    "struct x {\n\tlong: 26;\n\tlong: 64;\n\tlong: 64;\n\tx x;\n} __attribute__((packed)) __attribute__((packed));\n\n"
    ∷ session 4 false  -- 1-248-2
    (Void ∷ Int (ascii "int") 32 ∷ Composite true (ascii "") 32 (member "buf" 3 0 0 ∷ member "buf" 3 128 0 ∷ [])
    ∷ Composite true (ascii "") 16 (member "buf" 4 0 0 ∷ member "prestate" 4 64 0 ∷ [])
    ∷ Composite true (ascii "") 8 (member "prestate" 1 0 0 ∷ member "preE" 1 32 0 ∷ [])
    ∷ Composite true (ascii "") 64 (member "preE" 2 0 0 ∷ member "x" 2 256 0 ∷ [])
    ∷ Composite true (ascii "") 128 (member "yx" 5 0 0 ∷ member "y" 5 512 0 ∷ [])
    ∷ Composite true (ascii "") 256 (member "" 6 0 0 ∷ member "" 6 1024 0 ∷ [])
    ∷ Composite true (ascii "") 512 (member "yx" 7 0 0 ∷ member "" 7 2048 0 ∷ []) ∷ Typedef (ascii "x") 8 ∷ [])
    (one 17 0 ∷ one 277 0 ∷ one 34 0 ∷ one 63 3 ∷ one 273 0 ∷ one 189 8 ∷ one 149 0 ∷ all 5868 ∷ one 0 1 ∷ [])
    ((0, 0) ∷ (0, 0) ∷ (0, 0) ∷ (0, 0) ∷ (0, 0) ∷ (0, 0) ∷ (0, 0) ∷ (17, 0) ∷ (11, 0) ∷ [])
    ""
    ∷ session 8 true  -- 1-251-2
    (Void ∷ Ptr 2 ∷ Ptr 0 ∷ Fwd false (ascii "x") ∷ Ptr 2 ∷ [])
    (all 10 ∷ one 285 3 ∷ one 0 4 ∷ [])
    ((17, 0) ∷ (11, 0) ∷ (11, 0) ∷ [])
    ""
    ∷ session 8 true  -- 1-252-0
    (Void ∷ Composite true (ascii "") 52 [] ∷ Mod const 0 ∷ Typedef (ascii "y") 1 ∷ TypeTag false (ascii "x") 2 ∷ Composite true (ascii "") 0 []
    ∷ FuncProto 3 (param "x" 5 ∷ []) ∷ Ptr 1 ∷ Array 4 0 ∷ Ptr 1 ∷ DeclTag false (ascii "x") 11 4294967294 ∷ Composite true (ascii "x") 0 [] ∷ [])
    (all 32 ∷ [])
    ((17, 22) ∷ [])
    "typedef struct {} y;\n\n"
    ∷ session 4 true  -- 1-260-2
    (Void ∷ Int (ascii "Ax") 7 ∷ Int (ascii "E") 1 ∷ Typedef (ascii "u32") 2 ∷ Mod const 3 ∷ Ptr 0 ∷ [])
    (one 0 2 ∷ one 20 2 ∷ one 16 3 ∷ one 16 6 ∷ [])
    ((0, 0) ∷ (0, 0) ∷ (0, 16) ∷ (10, 16) ∷ [])
    "typedef E u32;\n\n"
    ∷ session 4 false  -- 1-266-2
    (Void ∷ Int (ascii "buf") 255 ∷ Array 1 1 ∷ Mod const 2 ∷ Enum64 true (ascii "y") 4 (value "buf" 9223372036854775809 ∷ []) ∷ [])
    (one 0 4294967295 ∷ one 17 3 ∷ one 0 3 ∷ one 243 3 ∷ one 329 0 ∷ one 44 4 ∷ one 319 4 ∷ one 44 1 ∷ all 62 ∷ [])
    ((10, 0) ∷ (0, 0) ∷ (0, 0) ∷ (0, 0) ∷ (0, 0) ∷ (0, 44) ∷ (0, 44) ∷ (0, 44) ∷ (0, 44) ∷ [])
    "enum y {\n\tbuf = -9223372036854775807LL,\n};\n\n"
    ∷ session 8 false  -- 1-269-2
    (Void ∷ Ptr 2 ∷ Ptr 0 ∷ Array 0 2 ∷ Ptr 2 ∷ [])
    (one 89 4294967295 ∷ one 175 2 ∷ one 0 5 ∷ [])
    ((10, 0) ∷ (0, 0) ∷ (10, 0) ∷ [])
    ""
    ∷ session 8 true  -- 1-272-2
    (Void ∷ Array 0 4 ∷ Typedef (ascii "x") 3 ∷ FuncProto 5 (param "y" 9 ∷ param "x" 7 ∷ param "" 6 ∷ param "y" 9 ∷ param "x" 0 ∷ []) ∷ Mod restrict 0
    ∷ FuncProto 6 (param "x" 0 ∷ []) ∷ Int (ascii "x") 128 ∷ TypeTag false (ascii "x") 0 ∷ Var (ascii "y")
    ∷ Composite true (ascii "x") 48 (member "y" 6 0 0 ∷ member "" 6 128 0 ∷ member "x" 6 256 0 ∷ []) ∷ Typedef (ascii "x") 13
    ∷ DeclTag false (ascii "x") 2 4294967295 ∷ Typedef (ascii "x") 0 ∷ Typedef (ascii "x") 7 ∷ Mod const 15 ∷ FuncProto 3 (param "" 6 ∷ [])
    ∷ FuncProto 4 (param "" 0 ∷ param "x" 0 ∷ param "" 0 ∷ []) ∷ [])
    (one 51 13 ∷ [])
    ((17, 0) ∷ [])
    ""
    ∷ session 8 true  -- 1-274-1
    (Void ∷ Int (ascii "x") 7 ∷ Enum true (ascii "x") 3 (value "x" 10 ∷ value "x" 10 ∷ value "x" 0 ∷ value "x" 2147483648 ∷ value "y" 2147483649 ∷ [])
    ∷ Enum true (ascii "x") 3 (value "x" 7038300 ∷ value "y" 10 ∷ value "x" 10 ∷ value "x" 2210178703 ∷ value "x" 2147483647 ∷ []) ∷ [])
    (one 313 0 ∷ one 109 1 ∷ one 87 2 ∷ one 587 3 ∷ [])
    ((0, 0) ∷ (0, 0) ∷ (0, 87) ∷ (0, 191) ∷ [])
    "enum x {\n\tx = 10,\n\tx___2 = 10,\n\tx___3 = 0,\n\tx___4 = -2147483648,\n\ty = -2147483647,\n};\n\nenum x___2 {\n\tx___5 = 7038300,\n\ty___2 = 10,\n\tx___6 = 10,\n\tx___7 = -2084788593,\n\tx___8 = 2147483647,\n};\n\n"
    ∷ session 4 false  -- 1-290-2
    (Void ∷ Int (ascii "y") 32 ∷ Ptr 1 ∷ Int (ascii "y") 7 ∷ Enum true (ascii "E") 1 (value "prey" 1000000000 ∷ value "y" 100 ∷ value "y" 99 ∷ [])
    ∷ Composite false (ascii "y") 8 (member "x" 11 0 0 ∷ member "E" 11 0 0 ∷ member "y" 8 32 0 ∷ member "" 14 0 0 ∷ [])
    ∷ Composite true (ascii "y") 4 (member "" 6 0 0 ∷ member "y" 12 0 0 ∷ member "x" 1 0 0 ∷ member "y" 14 32 0 ∷ []) ∷ TypeTag false (ascii "rcu") 3
    ∷ Ptr 7 ∷ Int (ascii "x") 32
    ∷ Composite true (ascii "x") 88 (member "" 6 88 0 ∷ member "x" 2 160 0 ∷ member "x" 2 240 0 ∷ member "" 6 376 0 ∷ member "" 5 536 0 ∷ member "prey" 4 607 3 ∷ member "x" 13 656 0 ∷ [])
    ∷ Enum64 true (ascii "x") 1 [] ∷ Array 14 16 ∷ Ptr 9
    ∷ Composite false (ascii "y") 88 (member "y" 3 0 0 ∷ member "prey" 6 0 0 ∷ member "E" 6 0 0 ∷ member "x" 7 32 0 ∷ member "E" 5 0 0 ∷ member "prey" 13 0 0 ∷ member "" 11 0 0 ∷ member "E" 8 0 0 ∷ member "x" 2 0 0 ∷ member "y" 4 64 0 ∷ member "x" 7 0 0 ∷ member "y" 10 0 0 ∷ member "" 5 0 0 ∷ member "x" 9 0 0 ∷ member "x" 6 0 0 ∷ member "y" 10 0 0 ∷ member "x" 8 0 0 ∷ member "x" 13 0 0 ∷ member "prey" 13 0 0 ∷ member "y" 1 64 0 ∷ member "prey" 2 0 0 ∷ member "x" 2 0 0 ∷ member "x" 8 0 0 ∷ member "" 4 0 0 ∷ member "" 14 0 0 ∷ member "x" 11 0 0 ∷ member "E" 8 0 0 ∷ member "x" 13 0 0 ∷ member "y" 1 0 0 ∷ member "x" 8 0 0 ∷ [])
    ∷ [])
    (all 258 ∷ one 56 8 ∷ one 285 10 ∷ [])
    ((13, 56) ∷ (11, 56) ∷ (11, 56) ∷ [])
    "enum E {\n\tprey = 1000000000,\n\ty = 100,\n\ty___2 = 99,\n};\n\n"
    ∷ session 8 true  -- 1-296-2
    (Void ∷ Typedef (ascii "state") 4 ∷ Composite true (ascii "y") 16 (member "len" 6 0 0 ∷ member "len" 4 64 0 ∷ [])
    ∷ Composite true (ascii "") 8 (member "state" 4 0 0 ∷ []) ∷ Ptr 5 ∷ Typedef (ascii "") 6 ∷ Int (ascii "int") 32 ∷ [])
    (one 0 2 ∷ one 287 4 ∷ one 0 1 ∷ [])
    ((14, 0) ∷ (11, 0) ∷ (11, 0) ∷ [])
    ""
    ∷ session 8 false  -- 1-300-0
    (Void ∷ Int (ascii "u32") 255 ∷ Array 1 2 ∷ Composite false (ascii "preb") 4 (member "data" 1 0 8 ∷ []) ∷ Array 3 3 ∷ Mod restrict 0 ∷ [])
    (all 0 ∷ [])
    ((17, 0) ∷ [])
    ""
    ∷ session 4 false  -- 1-306-0
    (Void ∷ Int (ascii "int") 32 ∷ Composite false (ascii "E") 4 (member "y" 1 0 0 ∷ []) ∷ FuncProto 6 [] ∷ Array 1 2 ∷ Ptr 4 ∷ FuncProto 5 []
    ∷ Enum false (ascii "E") 4 (value "y" 1 ∷ []) ∷ Mod volatile 3 ∷ Typedef (ascii "prenode") 8 ∷ Mod const 2 ∷ Ptr 10 ∷ Mod restrict 11
    ∷ Typedef (ascii "x") 12 ∷ [])
    (all 405 ∷ [])
    ((0, 128) ∷ [])
    "union E {\n\tint y;\n};\n\nenum E___2 {\n\ty = 1,\n};\n\ntypedef int (* (volatile prenode())())[2];\n\ntypedef const union E * restrict x;\n\n"
    ∷ session 4 true  -- 1-308-2
    (Void ∷ Int (ascii "int") 32 ∷ Composite false (ascii "x") 4 (member "y" 1 0 0 ∷ []) ∷ Enum false (ascii "state") 4 (value "state" 1 ∷ [])
    ∷ Mod restrict 0 ∷ Ptr 4 ∷ FuncProto 5 (param "" 0 ∷ []) ∷ Mod restrict 6 ∷ FuncProto 7 (param "x" 7 ∷ param "" 1 ∷ [])
    ∷ FuncProto 0 (param "ops" 8 ∷ []) ∷ Typedef (ascii "priv") 9 ∷ [])
    (one 399 1 ∷ one 198 6 ∷ one 323 3 ∷ one 174 7 ∷ one 304 0 ∷ one 197 10 ∷ all 255 ∷ one 150 5 ∷ [])
    ((0, 0) ∷ (0, 0) ∷ (0, 29) ∷ (0, 29) ∷ (0, 29) ∷ (0, 117) ∷ (0, 150) ∷ (0, 150) ∷ [])
    "enum state {\n\tstate = 1,\n};\n\ntypedef void priv(restrict void *restrict  (ops(restrict void *restrict x(), int))());\n\nstruct /*union*/ x {\n\tint y;\n};\n\n"
    ∷ session 4 false  -- 1-311-2
    (Void ∷ Int (ascii "Ax") 8 ∷ Ptr 0 ∷ Composite true (ascii "prex") 8 (member "__x" 1 0 0 ∷ member "priv" 4 8 0 ∷ member "__x" 8 32 0 ∷ [])
    ∷ Int (ascii "y") 7
    ∷ Composite true (ascii "ops") 55 (member "x___2" 11 5 0 ∷ member "prex" 4 197 0 ∷ member "Ax" 8 237 0 ∷ member "u32" 1 269 0 ∷ member "b" 8 277 0 ∷ member "u32" 8 309 0 ∷ member "x" 8 341 0 ∷ member "prepriv" 11 373 0 ∷ [])
    ∷ Composite true (ascii "x___2") 32 (member "u32" 4 16 0 ∷ member "x___2" 4 112 0 ∷ member "x___3" 1 247 0 ∷ []) ∷ Ptr 2 ∷ Ptr 2
    ∷ Composite true (ascii "a") 16 (member "prepriv" 11 64 0 ∷ []) ∷ Composite true (ascii "x") 40 (member "ops" 7 232 0 ∷ []) ∷ Mod restrict 3 ∷ [])
    (all 870 ∷ one 809 4 ∷ one 684 0 ∷ one 616 12 ∷ all 616 ∷ one 616 6 ∷ all 616 ∷ one 684 5 ∷ one 833 11 ∷ [])
    ((0, 616) ∷ (0, 616) ∷ (0, 616) ∷ (10, 616) ∷ (0, 616) ∷ (0, 616) ∷ (0, 616) ∷ (0, 616) ∷ (0, 616) ∷ [])
    "struct prex {\n\tAx __x;\n\ty priv;\n\tvoid **__x;\n};\n\nstruct ops {\n\trestrict struct prex x___2;\n\tint: 32;\n\tint: 32;\n\tint: 32;\n\tint: 32;\n\ty prex;\n\tint: 32;\n\tvoid **Ax;\n\tAx u32;\n\tvoid **b;\n\tvoid **u32;\n\tvoid **x;\n\trestrict struct prex prepriv;\n} __attribute__((packed));\n\nstruct x___2 {\n\tshort: 16;\n\ty u32;\n\tint: 24;\n\tint: 32;\n\tint: 32;\n\ty x___2;\n\tint: 31;\n\tint: 32;\n\tint: 32;\n\tint: 32;\n\tAx x___3;\n} __attribute__((packed));\n\nstruct a {\n\tint: 32;\n\tint: 32;\n\trestrict struct prex prepriv;\n};\n\nstruct x {\n\tint: 8;\n\tint: 32;\n\tint: 32;\n\tint: 32;\n\tint: 32;\n\tint: 32;\n\tint: 32;\n\tint: 32;\n\tvoid **ops;\n} __attribute__((packed));\n\n"
    ∷ session 4 false  -- 1-314-2
    (Void ∷ Int (ascii "int") 32 ∷ Composite false (ascii "__x") 4 (member "u32" 1 0 0 ∷ []) ∷ Enum false (ascii "data") 4 (value "pre__x" 1 ∷ [])
    ∷ TypeTag false (ascii "a b") 1 ∷ Mod volatile 4 ∷ Typedef (ascii "flags") 5 ∷ [])
    (one 139 4 ∷ one 0 5 ∷ one 0 1 ∷ one 384 4 ∷ one 301 2 ∷ one 41 4294967295 ∷ one 341 2 ∷ one 374 2 ∷ one 193 3 ∷ [])
    ((0, 0) ∷ (0, 0) ∷ (0, 0) ∷ (0, 0) ∷ (0, 26) ∷ (10, 26) ∷ (0, 26) ∷ (0, 26) ∷ (0, 55) ∷ [])
    "union __x {\n\tint u32;\n};\n\nenum data {\n\tpre__x = 1,\n};\n\n"
    ∷ session 8 false  -- 1-321-0
    (Void ∷ Int (ascii "int") 32 ∷ Composite false (ascii "node") 4 (member "prenode" 1 0 0 ∷ []) ∷ Enum false (ascii "node") 4 (value "node" 1 ∷ [])
    ∷ Ptr 1 ∷ Mod restrict 4 ∷ Mod restrict 5 ∷ Mod const 6 ∷ Ptr 7 ∷ Ptr 8 ∷ Ptr 9 ∷ Ptr 10 ∷ Array 11 1 ∷ Mod const 12
    ∷ TypeTag false (ascii "user") 13 ∷ Typedef (ascii "node") 14 ∷ Ptr 0 ∷ FuncProto 0 (param "a" 16 ∷ []) ∷ Typedef (ascii "x___2") 17 ∷ [])
    (all 377 ∷ [])
    ((0, 189) ∷ [])
    "union node {\n\tint prenode;\n};\n\nenum node___2 {\n\tnode = 1,\n};\n\ntypedef int * restrict restrict const ****( __attribute__((btf_type_tag(\"user\"))) node___2)[1];\n\ntypedef void x___2(void *a);\n\n"
    ∷ session 4 false  -- 1-330-0
    (Void ∷ Composite true (ascii "buf") 12 (member "buf" 3 0 0 ∷ member "buf" 3 16 0 ∷ member "x" 9 32 0 ∷ member "" 9 64 0 ∷ [])
    ∷ Int (ascii "__x") 1 ∷ Enum true (ascii "priv") 2 (value "y" 2797661863 ∷ value "y" 2147483648 ∷ []) ∷ Typedef (ascii "buf") 0
    ∷ FuncProto 7 (param "__x" 2 ∷ param "node" 0 ∷ param "x" 7 ∷ param "priv" 2 ∷ param "__x" 2 ∷ []) ∷ Int (ascii "x") 64
    ∷ FuncProto 12 (param "" 6 ∷ param "priv" 3 ∷ param "node" 1 ∷ []) ∷ Typedef (ascii "y") 5
    ∷ Enum64 true (ascii "node") 4 (value "priv" 4294967296000000002 ∷ value "buf" 4294967296000000001 ∷ value "buf" 18446744070414584320 ∷ [])
    ∷ Composite true (ascii "y") 2 (member "priv" 3 0 0 ∷ []) ∷ Ptr 9 ∷ Composite false (ascii "y") 8 (member "x" 6 0 0 ∷ []) ∷ Array 6 4 ∷ [])
    (all 772 ∷ [])
    ((0, 461) ∷ [])
    "enum priv {\n\ty = -1497305433,\n\ty___2 = -2147483648,\n};\n\nenum node {\n\tpriv = 4294967296000000002LL,\n\tbuf = 4294967296000000001LL,\n\tbuf___2 = -3294967296LL,\n};\n\nstruct buf {\n\tenum priv buf;\n\tenum priv buf;\n\tenum node x;\n\tenum node;\n};\n\ntypedef void buf___3;\n\nunion y {\n\tx x;\n};\n\ntypedef union y (y___3(__x __x, void node, union y x(x, enum priv priv, struct buf node), __x priv, __x __x))(x, enum priv priv, struct buf node);\n\nstruct y___2 {\n\tenum priv priv;\n};\n\n"
    ∷ session 8 false  -- 1-332-2
    (Void ∷ Int (ascii "short") 16 ∷ Int (ascii "i128") 128 ∷ Int (ascii "long") 64
    ∷ Composite true (ascii "flags") 6 (member "pres" 5 7 0 ∷ member "state" 1 32 0 ∷ []) ∷ Int (ascii "char") 8 ∷ Int (ascii "int") 32
    ∷ Composite true (ascii "E") 104 (member "pre__x" 2 157 20 ∷ member "node" 3 369 64 ∷ member "s" 3 717 0 ∷ [])
    ∷ Composite true (ascii "node") 104 (member "data" 5 304 0 ∷ member "node" 1 384 0 ∷ member "data" 5 528 0 ∷ member "x" 2 576 0 ∷ member "data" 6 800 0 ∷ [])
    ∷ Composite true (ascii "prenode") 512 (member "x" 10 0 0 ∷ member "x" 4 512 0 ∷ member "x" 7 1024 0 ∷ member "x" 8 1536 0 ∷ [])
    ∷ Composite true (ascii "priv") 8 (member "u32" 1 32 0 ∷ []) ∷ [])
    (one 263 6 ∷ one 0 2 ∷ one 0 5 ∷ one 20 10 ∷ [])
    ((0, 0) ∷ (0, 0) ∷ (0, 0) ∷ (17, 0) ∷ [])
    ""
    ∷ session 8 false  -- 1-341-2
    (Void ∷ Int (ascii "data") 64 ∷ Composite true (ascii "") 16 (member "list_head" 10 0 32 ∷ member "" 7 32 64 ∷ []) ∷ Float (ascii "a") 8 ∷ Ptr 1
    ∷ Int (ascii "list_head") 16 ∷ Float (ascii "state") 2 ∷ Ptr 5 ∷ Mod volatile 6 ∷ Composite true (ascii "") 4 (member "b" 3 0 16 ∷ [])
    ∷ Enum false (ascii "u32") 2 (value "list_head" 2147483648 ∷ value "b" 0 ∷ [])
    ∷ Enum64 true (ascii "") 4 (value "" 3134076166042812515 ∷ value "s" 4294967292305816699 ∷ value "x" 16471913593736415771 ∷ [])
    ∷ Composite true (ascii "_") 40 (member "T" 5 103 31 ∷ member "priv" 3 219 0 ∷ member "next" 5 216 1 ∷ member "len" 7 225 0 ∷ [])
    ∷ Composite false (ascii "") 8 (member "T" 12 0 1 ∷ []) ∷ Ptr 0 ∷ Enum false (ascii "") 2 (value "_" 2147483648 ∷ value "x___2" 2 ∷ []) ∷ [])
    (one 0 14 ∷ one 64 4 ∷ one 0 16 ∷ one 385 7 ∷ all 246 ∷ one 205 0 ∷ one 205 9 ∷ one 430 0 ∷ all 411 ∷ [])
    ((0, 0) ∷ (0, 0) ∷ (10, 0) ∷ (0, 0) ∷ (0, 205) ∷ (0, 205) ∷ (0, 205) ∷ (0, 205) ∷ (0, 205) ∷ [])
    "enum u32 {\n\tlist_head = 2147483648,\n\tb = 0,\n};\n\nstruct _ {\n\tlong: 39;\n\tlong: 64;\n\tlist_head T: 31;\n\tlong: 21;\n\tlong: 64;\n\ta priv;\n\tlist_head next: 1;\n\tchar: 8;\n\tlist_head *len;\n} __attribute__((packed));\n\n"
    ∷ session 4 false  -- 1-350-2
    (Void ∷ Typedef (ascii "x") 14
    ∷ Composite false (ascii "prey") 8 (member "x" 9 0 31 ∷ member "x" 3 0 8 ∷ member "y" 3 0 16 ∷ member "x" 8 16 1 ∷ []) ∷ Array 1 16
    ∷ DeclTag false (ascii "aligned(4)") 10 4294967295 ∷ Typedef (ascii "x") 2 ∷ Typedef (ascii "y") 0 ∷ Array 6 16
    ∷ Enum true (ascii "x") 4 (value "y" 1000000000 ∷ value "prey" 2147483648 ∷ value "prey" 0 ∷ value "prey" 999999999 ∷ value "x" 2 ∷ [])
    ∷ Typedef (ascii "y") 8 ∷ Typedef (ascii "y") 9 ∷ Fwd false (ascii "y") ∷ DeclTag false (ascii "x") 2 4 ∷ DeclTag true (ascii "x") 6 0
    ∷ Int (ascii "prey") 255 ∷ [])
    (one 236 0 ∷ one 0 2 ∷ all 397 ∷ one 0 3 ∷ [])
    ((0, 0) ∷ (17, 0) ∷ (11, 0) ∷ (11, 0) ∷ [])
    ""
    ∷ session 8 false  -- 1-353-2
    (Void ∷ Int (ascii "yx") 32 ∷ DeclTag false (ascii "x") 3 0 ∷ Ptr 4 ∷ Fwd false (ascii "b") ∷ Ptr 4 ∷ Mod const 3 ∷ Ptr 5 ∷ [])
    (one 67 1 ∷ one 44 0 ∷ all 11 ∷ all 11 ∷ one 162 0 ∷ one 11 4294967295 ∷ one 407 6 ∷ one 11 7 ∷ one 186 0 ∷ [])
    ((0, 0) ∷ (0, 0) ∷ (0, 11) ∷ (0, 11) ∷ (0, 11) ∷ (10, 11) ∷ (0, 11) ∷ (0, 11) ∷ (0, 11) ∷ [])
    "struct b;\n\n"
    ∷ session 8 true  -- 1-354-0
    (Void ∷ TypeTag false (ascii "\"") 2 ∷ Int (ascii "x___2") 64 ∷ Float (ascii "x") 4 ∷ Typedef (ascii "x") 0 ∷ [])
    (all 0 ∷ [])
    ((17, 0) ∷ [])
    ""
    ∷ session 8 false  -- 1-361-1
    (Void ∷ Typedef (ascii "x") 5 ∷ Composite true (ascii "b") 8 (member "u32" 5 0 0 ∷ []) ∷ Int (ascii "int") 32
    ∷ Composite true (ascii "") 8 (member "_" 6 0 0 ∷ member "u32" 3 64 0 ∷ []) ∷ Composite false (ascii "") 8 (member "" 4 0 0 ∷ []) ∷ Ptr 1 ∷ [])
    (one 399 0 ∷ one 0 1 ∷ one 0 2 ∷ one 0 3 ∷ [])
    ((0, 0) ∷ (13, 0) ∷ (11, 0) ∷ (11, 0) ∷ [])
    ""
    ∷ session 4 true  -- 1-363-0
    (Void ∷ Composite false (ascii "x") 4 (member "y" 6 0 0 ∷ []) ∷ Ptr 1 ∷ Typedef (ascii "y") 9
    ∷ Composite true (ascii "x") 1680 (member "x" 11 0 0 ∷ member "y" 12 256 0 ∷ member "y" 9 320 0 ∷ member "y" 3 384 0 ∷ member "y" 7 448 0 ∷ member "x" 13 6848 0 ∷ member "x" 10 6872 0 ∷ member "y" 8 6936 0 ∷ member "x" 2 13336 0 ∷ [])
    ∷ Var (ascii "y") ∷ Array 9 3 ∷ Typedef (ascii "y") 8 ∷ Array 12 100
    ∷ Enum64 false (ascii "x") 8 (value "y" 43949672960 ∷ value "y" 4294967293852516351 ∷ value "" 9223372036854775809 ∷ []) ∷ Ptr 12
    ∷ Int (ascii "y") 255 ∷ Ptr 9 ∷ Int (ascii "x") 24 ∷ [])
    (all 0 ∷ [])
    ((17, 0) ∷ [])
    ""
    ∷ session 8 true  -- 1-364-1
    (Void ∷ Int (ascii "char") 8 ∷ Int (ascii "short") 16 ∷ Int (ascii "int") 32 ∷ Int (ascii "long") 64 ∷ Int (ascii "i128") 128
    ∷ Composite false (ascii "__x") 8 (member "x___2" 4 0 18 ∷ [])
    ∷ Composite false (ascii "x___2") 64 (member "pres" 5 2 0 ∷ member "a" 3 282 3 ∷ member "y" 5 401 24 ∷ member "list_head" 3 448 0 ∷ [])
    ∷ Composite true (ascii "flags") 512 (member "x" 6 0 0 ∷ member "x" 7 512 0 ∷ []) ∷ [])
    (one 292 0 ∷ one 298 1 ∷ one 298 2 ∷ one 370 3 ∷ one 0 4 ∷ one 269 5 ∷ one 0 6 ∷ one 225 7 ∷ one 44 8 ∷ [])
    ((0, 0) ∷ (0, 0) ∷ (0, 0) ∷ (0, 0) ∷ (0, 0) ∷ (0, 0) ∷ (17, 0) ∷ (11, 0) ∷ (11, 0) ∷ [])
    ""
    ∷ session 8 true  -- 1-365-2
    (Void ∷ Int (ascii "buf") 32
    ∷ Composite true (ascii "y") 16 (member "x" 3 0 0 ∷ member "s" 3 32 1 ∷ member "x___3" 1 33 64 ∷ member "x___3" 1 97 1 ∷ []) ∷ Mod volatile 1 ∷ [])
    (one 70 1 ∷ one 290 0 ∷ one 0 3 ∷ one 291 2 ∷ all 474 ∷ [])
    ((0, 0) ∷ (0, 0) ∷ (0, 0) ∷ (0, 83) ∷ (0, 83) ∷ [])
    "struct y {\n\tvolatile buf x;\n\tvolatile buf s: 1;\n\tbuf x___3: 64;\n\tbuf x___3: 1;\n};\n\n"
    ∷ session 4 true  -- 1-366-0
    (Void ∷ Int (ascii "int") 32 ∷ Composite true (ascii "") 8 (member "b" 2 0 0 ∷ []) ∷ [])
    (all 249 ∷ [])
    ((13, 0) ∷ [])
    ""
    ∷ session 4 true  -- 1-368-2
    (Void ∷ Composite true (ascii "a") 8 (member "x___2" 8 48 0 ∷ [])
    ∷ Composite true (ascii "list_head") 72 (member "x___2" 9 57 6 ∷ member "buf" 7 194 12 ∷ member "priv" 7 224 0 ∷ member "buf" 7 522 3 ∷ member "state" 7 540 0 ∷ [])
    ∷ Composite true (ascii "buf") 104 (member "preu32" 6 256 0 ∷ member "len" 6 576 0 ∷ member "len" 7 656 32 ∷ member "x___3" 9 792 0 ∷ [])
    ∷ Composite true (ascii "Ax") 32 (member "Ax" 6 192 0 ∷ []) ∷ Int (ascii "i128") 128 ∷ Int (ascii "long") 64 ∷ Int (ascii "int") 32
    ∷ Int (ascii "short") 16 ∷ Int (ascii "char") 8 ∷ [])
    (one 386 1 ∷ one 206 5 ∷ one 444 0 ∷ one 445 6 ∷ one 328 7 ∷ all 962 ∷ one 709 10 ∷ one 861 6 ∷ one 709 9 ∷ [])
    ((0, 49) ∷ (0, 49) ∷ (0, 49) ∷ (0, 49) ∷ (0, 49) ∷ (0, 709) ∷ (10, 709) ∷ (0, 709) ∷ (0, 709) ∷ [])
    "struct a {\n\tint: 16;\n\tint: 32;\n\tshort x___2;\n};\n\nstruct list_head {\n\tint: 25;\n\tint: 32;\n\tchar x___2: 6;\n\tint: 3;\n\tint: 32;\n\tint: 32;\n\tint: 32;\n\tint: 32;\n\tint buf: 12;\n\tint: 18;\n\tint priv;\n\tint: 10;\n\tint: 32;\n\tint: 32;\n\tint: 32;\n\tint: 32;\n\tint: 32;\n\tint: 32;\n\tint: 32;\n\tint: 32;\n\tint buf: 3;\n\tshort: 15;\n\tint state;\n} __attribute__((packed));\n\nstruct buf {\n\tint: 32;\n\tint: 32;\n\tint: 32;\n\tint: 32;\n\tint: 32;\n\tint: 32;\n\tint: 32;\n\tint: 32;\n\tlong preu32;\n\tint: 32;\n\tint: 32;\n\tint: 32;\n\tint: 32;\n\tint: 32;\n\tint: 32;\n\tint: 32;\n\tint: 32;\n\tlong len;\n\tshort: 16;\n\tint len: 32;\n\tint: 8;\n\tint: 32;\n\tint: 32;\n\tint: 32;\n\tchar x___3;\n};\n\nstruct Ax {\n\tint: 32;\n\tint: 32;\n\tint: 32;\n\tint: 32;\n\tint: 32;\n\tint: 32;\n\tlong Ax;\n};\n\n"
    ∷ session 4 false  -- 1-371-2
    (Void ∷ Int (ascii "int") 32 ∷ FuncProto 15 (param "" 1 ∷ []) ∷ Enum false (ascii "") 4 (value "Ax" 1 ∷ []) ∷ Ptr 1 ∷ Ptr 4 ∷ Mod const 5
    ∷ FuncProto 0 (param "data" 6 ∷ []) ∷ Typedef (ascii "x") 7 ∷ Mod const 1 ∷ Typedef (ascii "Ax") 9
    ∷ Composite true (ascii "y") 4 (member "len" 1 0 0 ∷ []) ∷ Mod const 16 ∷ Mod const 12 ∷ Mod volatile 13 ∷ Ptr 14 ∷ TypeTag false (ascii "") 6
    ∷ Ptr 2 ∷ Composite true (ascii "prelen") 8 (member "_" 17 0 0 ∷ []) ∷ [])
    (all 420 ∷ one 186 18 ∷ [])
    ((0, 186) ∷ (0, 186) ∷ [])
    "typedef void x(int ** const data);\n\ntypedef const int Ax;\n\nstruct y {\n\tint len;\n};\n\nstruct prelen {\n\tint ** constconst const volatile  __attribute__((btf_type_tag(\"\"))) * (*_)(int);\n};\n\n"
    ∷ session 8 false  -- 1-373-1
    (Void ∷ Int (ascii "__x") 255 ∷ TypeTag true (ascii "x") 1 ∷ Enum true (ascii "node") 4 (value "prey" 2147483648 ∷ [])
    ∷ Composite true (ascii "flags") 596 (member "b" 8 304 5 ∷ member "" 14 320 0 ∷ member "node" 1 448 5 ∷ member "T" 2 549 255 ∷ member "s" 3 804 32 ∷ member "Ax" 14 836 2 ∷ member "data" 11 928 0 ∷ member "x___3" 1 1248 0 ∷ member "Ax" 6 1504 0 ∷ member "buf" 1 1536 0 ∷ member "prex___3" 21 1864 1 ∷ member "x___2" 6 1865 1 ∷ member "_" 22 1866 33 ∷ member "buf" 22 1920 0 ∷ member "x___2" 9 2176 255 ∷ member "a" 10 2435 31 ∷ member "y" 1 2466 1 ∷ member "prex___3" 21 2467 255 ∷ member "yx" 3 2722 5 ∷ member "flags" 10 2752 0 ∷ member "node" 14 3008 0 ∷ member "x___3" 6 3136 0 ∷ member "_" 2 3144 32 ∷ member "prey" 21 3176 0 ∷ member "a" 8 3232 0 ∷ member "buf" 10 3456 0 ∷ member "next" 9 3712 0 ∷ member "x" 12 3744 0 ∷ member "node" 1 4096 0 ∷ member "E" 11 4352 3 ∷ member "state" 9 4355 64 ∷ member "ops" 1 4448 0 ∷ member "data" 3 4704 16 ∷ member "x" 1 4720 16 ∷ member "a" 6 4736 0 ∷ [])
    ∷ Mod const 0 ∷ Int (ascii "y") 7 ∷ Enum64 true (ascii "s") 2 (value "x" 10737418240 ∷ value "x___3" 9223372036854775808 ∷ [])
    ∷ Int (ascii "prea") 128 ∷ Typedef (ascii "priv") 6 ∷ Mod volatile 22 ∷ Int (ascii "s") 32 ∷ Array 8 2 ∷ Fwd true (ascii "_")
    ∷ Typedef (ascii "Ax") 8 ∷ Composite false (ascii "b") 4 (member "" 11 0 0 ∷ []) ∷ Fwd false (ascii "data") ∷ Array 15 1
    ∷ Typedef (ascii "prex___3") 5 ∷ Composite true (ascii "y") 88 (member "yx" 2 168 0 ∷ member "" 22 496 32 ∷ member "E" 8 576 0 ∷ [])
    ∷ Func (ascii "__x") ∷ Array 9 4 ∷ Int (ascii "u32") 255 ∷ Composite false (ascii "") 0 [] ∷ [])
    (one 0 21 ∷ one 168 9 ∷ one 379 7 ∷ [])
    ((17, 0) ∷ (11, 0) ∷ (11, 0) ∷ [])
    ""
    ∷ session 8 true  -- 1-375-0
    (Void ∷ TypeTag false (ascii "\u{7f}\u{b}'%s") 8 ∷ Composite true (ascii "x") 8 (member "x" 12 0 0 ∷ []) ∷ Typedef (ascii "x") 8
    ∷ Composite true (ascii "y") 24 (member "" 3 160 0 ∷ member "y" 9 77 0 ∷ []) ∷ Func (ascii "y") ∷ Mod const 0
    ∷ Enum true (ascii "y") 4 (value "x" 1 ∷ value "y" 100 ∷ value "x" 2 ∷ [])
    ∷ Enum64 true (ascii "") 4 (value "x" 9223372036854775807 ∷ value "y" 18446744071562067967 ∷ []) ∷ Ptr 10 ∷ Typedef (ascii "x") 12
    ∷ Enum true (ascii "x") 1 (value "x" 2647853100 ∷ value "" 99 ∷ []) ∷ Composite true (ascii "x") 8 (member "y" 8 16 0 ∷ []) ∷ [])
    (all 637 ∷ [])
    ((0, 446) ∷ [])
    "struct x {\n\tshort: 16;\n\tenum {\n\t\tx = 9223372036854775807LL,\n\t\ty = -2147483649LL,\n\t} y;\n} __attribute__((packed));\n\nstruct x___2 {\n\tstruct x x;\n};\n\ntypedef enum {\n\tx___3 = 9223372036854775807LL,\n\ty___2 = -2147483649LL,\n} x___2;\n\ntypedef struct x x___4;\n\nstruct y {\n\tlong: 32;\n\tlong: 64;\n\tlong: 64;\n\tx___2;\n\tx___4 *y;\n} __attribute__((packed));\n\nenum y___2 {\n\tx___5 = 1,\n\ty___3 = 100,\n\tx___6 = 2,\n};\n\nenum x___3 {\n\tx___7 = -1647114196,\n\t = 99,\n};\n\n"
    ∷ session 8 false  -- 1-380-2
    (Void ∷ Int (ascii "prex") 255 ∷ Ptr 1 ∷ DeclTag false (ascii "") 4 2 ∷ [])
    (one 75 2 ∷ one 107 4 ∷ one 0 1 ∷ one 356 3 ∷ one 0 0 ∷ one 22 2 ∷ one 216 1 ∷ [])
    ((0, 0) ∷ (10, 0) ∷ (0, 0) ∷ (0, 0) ∷ (0, 0) ∷ (0, 0) ∷ (0, 0) ∷ [])
    ""
    ∷ session 8 true  -- 1-383-2
    (Void ∷ Int (ascii "buf") 64
    ∷ Composite true (ascii "m\"\\\n\t\r\u{1}") 44 (member "_" 4 112 0 ∷ member "x___3" 10 160 0 ∷ member "x" 1 280 0 ∷ []) ∷ Ptr 2 ∷ Ptr 2 ∷ Ptr 2
    ∷ Typedef (ascii "priv") 4 ∷ Composite false (ascii "y") 8 (member "x___3" 16 0 0 ∷ member "state" 13 0 0 ∷ member "b" 10 0 0 ∷ [])
    ∷ DeclTag false (ascii "rcu") 9 4294967295 ∷ Typedef (ascii "buf") 5 ∷ Mod const 6 ∷ Mod const 0 ∷ Int (ascii "u32") 8 ∷ Int (ascii "priv") 1
    ∷ Composite false (ascii "E") 8 (member "x" 5 0 0 ∷ member "u32" 1 0 0 ∷ member "y" 4 0 0 ∷ member "a" 1 0 0 ∷ [])
    ∷ Composite true (ascii "") 24 (member "next" 10 0 5 ∷ member "priv" 5 5 0 ∷ member "" 2 133 32 ∷ member "b" 2 165 5 ∷ []) ∷ Int (ascii "b") 24
    ∷ [])
    (one 83 9 ∷ one 59431 8 ∷ one 318 18 ∷ [])
    ((17, 0) ∷ (11, 0) ∷ (11, 0) ∷ [])
    ""
    ∷ session 8 true  -- 1-386-2
    (Void ∷ Int (ascii "int") 32 ∷ Composite true (ascii "") 4 (member "T" 1 0 0 ∷ []) ∷ Enum false (ascii "u32") 4 (value "yx" 1 ∷ []) ∷ Ptr 2
    ∷ Mod volatile 4 ∷ Ptr 5 ∷ Mod const 6 ∷ Mod volatile 7 ∷ Array 8 8 ∷ Mod volatile 9 ∷ Composite true (ascii "yx") 64 (member "yx" 10 0 0 ∷ [])
    ∷ [])
    (one 35 3 ∷ one 366 11 ∷ one 97 8 ∷ one 97 1 ∷ one 242 4 ∷ [])
    ((0, 24) ∷ (0, 97) ∷ (0, 97) ∷ (0, 97) ∷ (0, 97) ∷ [])
    "enum u32 {\n\tyx = 1,\n};\n\nstruct yx {\n\tstruct {\n\t\tint T;\n\t} * volatile * const volatile yx[8];\n};\n\n"
    ∷ session 8 true  -- 1-387-0
    (Void ∷ Int (ascii "char") 8 ∷ Int (ascii "short") 16 ∷ Int (ascii "int") 32 ∷ Int (ascii "long") 64 ∷ Int (ascii "i128") 128
    ∷ Composite true (ascii "x___2") 68 (member "state" 5 64 0 ∷ member "x" 4 320 0 ∷ member "next" 4 448 0 ∷ member "priv" 2 528 0 ∷ [])
    ∷ Composite true (ascii "list_head") 40 (member "a" 3 256 0 ∷ []) ∷ Composite true (ascii "node") 512 (member "x" 6 0 0 ∷ member "x" 7 512 0 ∷ [])
    ∷ [])
    (all 0 ∷ [])
    ((17, 0) ∷ [])
    ""
    ∷ session 4 true  -- 1-393-0
    (Void ∷ FuncProto 9 (param "" 0 ∷ [])
    ∷ Composite true (ascii "data") 5 (member "data" 5 0 32 ∷ member "" 7 32 5 ∷ member "y" 12 37 1 ∷ member "" 9 38 1 ∷ []) ∷ Mod volatile 1
    ∷ Fwd false (ascii "x") ∷ Composite true (ascii "y") 4 (member "priv" 12 0 31 ∷ []) ∷ FuncProto 3 (param "" 4 ∷ [])
    ∷ Composite true (ascii "") 2 (member "preE" 12 0 0 ∷ member "data" 12 8 0 ∷ []) ∷ Array 7 2 ∷ Composite true (ascii "") 1 (member "E" 7 0 1 ∷ [])
    ∷ Datasec (ascii "state") ∷ FuncProto 8 [] ∷ Int (ascii "a") 7 ∷ Mod const 1 ∷ Typedef (ascii "state") 13 ∷ Datasec (ascii "x")
    ∷ Typedef (ascii "E") 2 ∷ [])
    (all 281 ∷ [])
    ((0, 281) ∷ [])
    "struct y {\n\ta priv: 31;\n};\n\nstruct data {\n\tstruct y data: 32;\n\tstruct {\n\t\ta preE;\n\t\ta data;\n\t}: 5;\n\ta y: 1;\n\tstruct {\n\t\tstruct {\n\t\t\ta preE;\n\t\t\ta data;\n\t\t} E: 1;\n\t}: 1;\n};\n\nstruct x;\n\ntypedef struct {\n\tstruct {\n\t\ta preE;\n\t\ta data;\n\t} E: 1;\n}const  state();\n\ntypedef struct data E;\n\n"
    ∷ session 8 false  -- 1-395-2
    (Void ∷ Composite false (ascii "node") 8 (member "state" 6 8 0 ∷ member "T" 2 0 0 ∷ []) ∷ Int (ascii "int") 32 ∷ Array 5 1073741824
    ∷ Composite false (ascii "node") 8 (member "priv" 8 8 0 ∷ []) ∷ Int (ascii "char") 8 ∷ Mod const 3
    ∷ Composite false (ascii "yx") 8 (member "T" 5 64 0 ∷ member "T" 8 0 0 ∷ []) ∷ Composite true (ascii "") 536870912 (member "x___3" 2 0 0 ∷ [])
    ∷ [])
    (one 0 0 ∷ one 250 7 ∷ one 0 7 ∷ one 339 1 ∷ [])
    ((0, 0) ∷ (16, 0) ∷ (11, 0) ∷ (11, 0) ∷ [])
    ""
    ∷ session 8 true  -- 1-397-1
    (Void ∷ Int (ascii "int") 32 ∷ FuncProto 0 (param "" 1 ∷ param "" 1 ∷ []) ∷ FuncProto 0 (param "" 2 ∷ param "" 2 ∷ [])
    ∷ FuncProto 0 (param "" 3 ∷ param "" 3 ∷ []) ∷ FuncProto 0 (param "" 4 ∷ param "" 4 ∷ []) ∷ FuncProto 0 (param "" 5 ∷ param "" 5 ∷ [])
    ∷ FuncProto 0 (param "" 6 ∷ param "" 6 ∷ []) ∷ Typedef (ascii "flags") 7 ∷ [])
    (one 713 8 ∷ one 864 0 ∷ one 1019 2 ∷ one 713 1 ∷ one 713 3 ∷ one 888 4 ∷ one 713 6 ∷ one 898 5 ∷ one 907 7 ∷ [])
    ((0, 713) ∷ (0, 713) ∷ (0, 713) ∷ (0, 713) ∷ (0, 713) ∷ (0, 713) ∷ (0, 713) ∷ (0, 713) ∷ (0, 713) ∷ [])
    "typedef void flags(void(void(void(void(void(int, int), void(int, int)), void(void(int, int), void(int, int))), void(void(void(int, int), void(int, int)), void(void(int, int), void(int, int)))), void(void(void(void(int, int), void(int, int)), void(void(int, int), void(int, int))), void(void(void(int, int), void(int, int)), void(void(int, int), void(int, int))))), void(void(void(void(void(int, int), void(int, int)), void(void(int, int), void(int, int))), void(void(void(int, int), void(int, int)), void(void(int, int), void(int, int)))), void(void(void(void(int, int), void(int, int)), void(void(int, int), void(int, int))), void(void(void(int, int), void(int, int)), void(void(int, int), void(int, int))))));\n\n"
    ∷ session 4 false  -- 1-398-2
    (Void ∷ Composite true (ascii "_") 9 (member "y" 4 0 0 ∷ member "x" 3 0 0 ∷ []) ∷ Mod const 4
    ∷ Composite true (ascii "y") 9 (member "" 2 72 0 ∷ []) ∷ Typedef (ascii "_") 5 ∷ Typedef (ascii "y") 1 ∷ [])
    (one 121 5 ∷ one 342 4 ∷ one 0 3 ∷ [])
    ((13, 0) ∷ (11, 0) ∷ (11, 0) ∷ [])
    ""
    ∷ session 4 true  -- 1-399-0
    (Void ∷ FuncProto 5 (param "y" 2 ∷ param "y" 3 ∷ param "" 3 ∷ param "prex" 2 ∷ param "x" 2 ∷ []) ∷ Ptr 0 ∷ Typedef (ascii "x") 6
    ∷ Func (ascii "prex") ∷ Fwd true (ascii "y") ∷ Int (ascii "y") 64 ∷ [])
    (all 34 ∷ [])
    ((17, 0) ∷ [])
    ""
    ∷ session 8 true  -- 1-404-2
    (Void ∷ Array 3 3 ∷ TypeTag true (ascii "x") 10 ∷ Float (ascii "y") 16 ∷ Float (ascii "y") 0
    ∷ Enum false (ascii "x") 3 (value "x" 999999999 ∷ value "prex" 1000000000 ∷ value "y" 100 ∷ value "prex" 10 ∷ value "x" 0 ∷ []) ∷ FuncProto 12 []
    ∷ Mod const 3 ∷ FuncProto 9 [] ∷ Float (ascii "prex") 8 ∷ Float (ascii "y") 16 ∷ Composite true (ascii "x") 24 (member "y" 7 32 0 ∷ [])
    ∷ Enum64 true (ascii "prex") 4 (value "x" 18446744063709551616 ∷ value "x" 18446744063709551616 ∷ value "y" 8589934594 ∷ value "y" 9223372032559808522 ∷ value "y" 6442450944 ∷ [])
    ∷ Composite true (ascii "prex") 16 (member "prex" 2 0 0 ∷ member "prex" 4 128 0 ∷ []) ∷ [])
    (one 134 6 ∷ one 238 1 ∷ [])
    ((17, 0) ∷ (11, 0) ∷ [])
    ""
    ∷ session 8 true  -- 1-408-0
    (Void ∷ Ptr 0 ∷ Enum64 false (ascii "__builtin_va_list_y") 4 [] ∷ Typedef (ascii "x___2") 5
    ∷ Composite false (ascii "x___2") 40 (member "a__builtin_va_list___2" 1 0 0 ∷ member "x" 2 0 0 ∷ member "y" 2 32 255 ∷ member "a__builtin_va_list___2" 3 0 255 ∷ [])
    ∷ Ptr 2 ∷ [])
    (all 467 ∷ [])
    ((0, 204) ∷ [])
    ";\n\ntypedef enum __builtin_va_list_y *x___2;\n\nstruct /*union*/ x___2 {\n\tvoid *a__builtin_va_list___2;\n\tenum __builtin_va_list_y x;\n\tenum __builtin_va_list_y y: 255;\n\tx___2 a__builtin_va_list___2: 255;\n};\n\n"
    ∷ session 8 false  -- 1-417-0
    (Void ∷ Int (ascii "int") 32 ∷ Composite true (ascii "x") 8 (member "y" 3 0 0 ∷ []) ∷ Composite true (ascii "_") 8 (member "buf" 4 0 0 ∷ [])
    ∷ Composite true (ascii "") 8 (member "list_head" 5 0 0 ∷ []) ∷ Composite true (ascii "") 8 (member "" 6 0 0 ∷ [])
    ∷ Composite true (ascii "buf") 8 (member "buf" 2 0 0 ∷ []) ∷ [])
    (all 0 ∷ [])
    ((13, 0) ∷ [])
    ""
    ∷ session 8 true  -- 1-419-2
    (Void ∷ Int (ascii "x___3") 7 ∷ TypeTag true (ascii "x") 1 ∷ [])
    (one 215 4 ∷ one 386 2 ∷ one 354 2 ∷ one 265 2 ∷ one 311 1 ∷ one 388 1 ∷ one 20321 2 ∷ one 0 4294967295 ∷ one 114 1 ∷ [])
    ((10, 0) ∷ (0, 0) ∷ (0, 0) ∷ (0, 0) ∷ (0, 0) ∷ (0, 0) ∷ (0, 0) ∷ (10, 0) ∷ (0, 0) ∷ [])
    ""
    ∷ session 4 false  -- 1-425-2
    (Void ∷ Ptr 6 ∷ Ptr 8 ∷ Composite false (ascii "node") 16 (member "x" 1 0 0 ∷ member "E" 7 0 0 ∷ member "priv" 6 0 0 ∷ []) ∷ Mod volatile 6
    ∷ Int (ascii "data") 24 ∷ Enum64 false (ascii "") 8 (value "_" 4294967296000000000 ∷ value "next" 100 ∷ []) ∷ Int (ascii "next") 128
    ∷ Int (ascii "s") 24 ∷ Composite false (ascii "s") 16 (member "buf" 3 0 0 ∷ []) ∷ Mod volatile 11 ∷ FuncProto 5 (param "" 7 ∷ [])
    ∷ FuncProto 7 (param "Ax" 0 ∷ []) ∷ Composite true (ascii "data") 4 (member "x___3" 2 0 0 ∷ []) ∷ Typedef (ascii "data") 0 ∷ [])
    (all 550 ∷ one 240 2 ∷ one 391 14 ∷ one 329 15 ∷ one 476 7 ∷ one 285 14 ∷ one 491 14 ∷ one 310 0 ∷ [])
    ((0, 240) ∷ (0, 240) ∷ (0, 240) ∷ (10, 240) ∷ (0, 240) ∷ (0, 240) ∷ (0, 240) ∷ (0, 240) ∷ [])
    "union node {\n\tenum {\n\t\t_ = 4294967296000000000ULL,\n\t\tnext = 100ULL,\n\t} *x;\n\tnext E;\n\tenum {\n\t\t____2 = 4294967296000000000ULL,\n\t\tnext___2 = 100ULL,\n\t} priv;\n};\n\nunion s {\n\tunion node buf;\n};\n\nstruct data {\n\ts *x___3;\n};\n\ntypedef void data;\n\n"
    ∷ session 8 true  -- 1-428-2
    (Void ∷ Composite false (ascii "prey") 29 (member "y" 2 0 0 ∷ member "prey" 2 0 0 ∷ member "x" 2 0 0 ∷ []) ∷ Int (ascii "y") 32
    ∷ Composite false (ascii "y") 4 (member "y" 6 0 0 ∷ []) ∷ Int (ascii "prey") 1 ∷ Mod const 1 ∷ Typedef (ascii "") 2 ∷ [])
    (one 0 0 ∷ one 12663 4 ∷ one 49 5 ∷ one 350 4 ∷ one 377 0 ∷ all 441 ∷ one 3151 8 ∷ [])
    ((0, 0) ∷ (0, 0) ∷ (0, 49) ∷ (0, 49) ∷ (0, 49) ∷ (14, 49) ∷ (11, 49) ∷ [])
    "struct /*union*/ prey {\n\ty y;\n\ty prey;\n\ty x;\n};\n\n"
    ∷ session 4 false  -- 1-429-0
    (Void ∷ Typedef (ascii "prex___3") 2 ∷ Mod restrict 7 ∷ TypeTag true (ascii "a b") 2 ∷ DeclTag true (ascii "a b") 8 7 ∷ Typedef (ascii "") 6
    ∷ FuncProto 2 (param "" 7 ∷ param "priv" 2 ∷ []) ∷ Int (ascii "ops") 255 ∷ FuncProto 6 (param "prex___3" 2 ∷ param "" 3 ∷ param "data" 1 ∷ [])
    ∷ [])
    (all 258 ∷ [])
    ((14, 32) ∷ [])
    "typedef restrict ops prex___3;\n\n"
    ∷ session 8 true  -- 1-437-2
    (Void ∷ Typedef (ascii "next") 10 ∷ Ptr 6 ∷ Enum false (ascii "next") 1 [] ∷ DeclTag false (ascii "packed") 9 4294967295 ∷ Typedef (ascii "x") 10
    ∷ Array 3 16 ∷ Var (ascii "next") ∷ Array 0 16 ∷ Typedef (ascii "y") 6 ∷ FuncProto 0 (param "" 3 ∷ param "" 0 ∷ [])
    ∷ DeclTag false (ascii "user") 1 4294967294 ∷ [])
    (one 269 8 ∷ one 12 6 ∷ all 79 ∷ one 293 13 ∷ one 322 9 ∷ [])
    ((0, 0) ∷ (0, 12) ∷ (17, 48) ∷ (11, 48) ∷ (11, 48) ∷ [])
    "enum next;\n\ntypedef void next(enum next, ...);\n\n"
    ∷ session 8 true  -- 1-441-0
    (Void ∷ Int (ascii "x") 32 ∷ Int (ascii "b") 255 ∷ Typedef (ascii "") 2 ∷ Array 3 536870912
    ∷ Enum64 true (ascii "") 4 (value "x___2" 4294967295 ∷ value "Ax" 425201762314 ∷ [])
    ∷ FuncProto 3 (param "" 2 ∷ param "" 0 ∷ param "" 3 ∷ param "list_head" 1 ∷ param "list_head" 2 ∷ [])
    ∷ DeclTag false (ascii "\u{7f}\u{b}'%s") 3 4294967295 ∷ FuncProto 0 (param "" 0 ∷ []) ∷ Ptr 10
    ∷ Composite true (ascii "y") 32 (member "x___2" 1 32 0 ∷ member "" 10 232 0 ∷ []) ∷ Int (ascii "len") 1 ∷ [])
    (all 0 ∷ [])
    ((14, 0) ∷ [])
    ""
    ∷ session 8 false  -- 1-442-1
    (Void ∷ Composite true (ascii "x___2") 38 (member "y" 1 296 2 ∷ []) ∷ Var (ascii "x") ∷ FuncProto 1 [] ∷ [])
    (one 0 0 ∷ one 25 3 ∷ one 183 1 ∷ one 234 2 ∷ [])
    ((0, 0) ∷ (13, 0) ∷ (11, 0) ∷ (11, 0) ∷ [])
    ""
    ∷ session 4 true  -- 1-443-2
    (Void ∷ Int (ascii "int") 32 ∷ Composite true (ascii "") 4 (member "y" 1 0 0 ∷ []) ∷ Enum false (ascii "y") 4 (value "preAx" 1 ∷ []) ∷ Ptr 0
    ∷ Typedef (ascii "prenode") 6 ∷ FuncProto 0 (param "prenode" 4 ∷ []) ∷ [])
    (one 183 3 ∷ one 25 4294967295 ∷ one 74404 4 ∷ one 126 5 ∷ [])
    ((0, 25) ∷ (10, 25) ∷ (0, 25) ∷ (0, 63) ∷ [])
    "enum y {\n\tpreAx = 1,\n};\n\ntypedef void prenode(void *prenode);\n\n"
    ∷ session 8 false  -- 1-444-0
    (Void ∷ Int (ascii "char") 8 ∷ Int (ascii "short") 16 ∷ Int (ascii "int") 32 ∷ Int (ascii "long") 64 ∷ Int (ascii "i128") 128
    ∷ Composite true (ascii "state") 16 (member "len" 4 64 0 ∷ [])
    ∷ Composite false (ascii "") 52 (member "buf" 4 256 0 ∷ member "x___3" 3 384 0 ∷ [])
    ∷ Composite true (ascii "priv") 24 (member "priv" 2 31 4 ∷ member "priv" 2 132 14 ∷ []) ∷ [])
    (all 62 ∷ [])
    ((17, 41) ∷ [])
    "struct state {\n\tlong: 64;\n\tlong len;\n};\n\n"
    ∷ []
