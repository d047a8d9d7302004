-- Written by tools/vectors.py. Sections and requests of oracle/answers.cases, each beside the answers.
-- That they are equal is `sessions0_hold` of proofs/Sessions0.
use Rattle.std.specs.Prelude.{true, false, List, [], ◌∷◌}
use Rattle.spec_bytes.specs.text.Text.{ascii}
use Rattle.spec_c_dumper.specs.rules.Machine.{one, all}
use Rattle.proof_examples.specs.vectors.Base.{member, param, value, Vector, session}
use Rattle.spec_c_dumper.specs.rules.Types.{volatile, const, restrict, Void, Int, Ptr, Array, Composite, Enum, Enum64, Fwd, Typedef, Mod, Func, Var, Datasec, FuncProto, Float, DeclTag, TypeTag}

abbrev pub sessions0 : List Vector
sessions0 =
    session 8 false  -- 1-0-0
    (Void ∷ Typedef (ascii "prex") 0 ∷ Ptr 0 ∷ Typedef (ascii "flags") 1 ∷ Array 3 2 ∷ [])
    (all 40 ∷ [])
    ((17, 20) ∷ [])
    "typedef void prex;\n\n"
    ∷ session 4 true  -- 1-1-1
    (Void ∷ Enum false (ascii "list_head") 3 (value "ops" 4294967295 ∷ []) ∷ Int (ascii "ops") 8 ∷ Typedef (ascii "") 6 ∷ Mod const 1 ∷ Mod const 8
    ∷ Fwd true (ascii "ops") ∷ Composite true (ascii "list_head") 21 (member "ops" 2 0 0 ∷ member "list_head" 1 144 0 ∷ [])
    ∷ Composite false (ascii "Ax") 24 (member "Ax" 7 0 0 ∷ member "x___2" 10 0 0 ∷ member "x" 9 0 0 ∷ member "x___2" 2 0 0 ∷ [])
    ∷ Typedef (ascii "") 2 ∷ Int (ascii "x") 128
    ∷ Composite false (ascii "list_head") 24 (member "y" 9 0 0 ∷ member "x" 9 0 0 ∷ member "list_head" 4 0 0 ∷ member "x___2" 4 0 0 ∷ member "x" 7 0 0 ∷ member "x" 12 0 0 ∷ member "Ax" 10 0 0 ∷ member "list_head" 9 0 0 ∷ member "x___2" 1 0 0 ∷ [])
    ∷ Composite false (ascii "x") 16 (member "x" 9 0 0 ∷ member "list_head" 10 0 0 ∷ member "Ax" 9 0 0 ∷ member "x" 10 0 0 ∷ member "x" 10 0 0 ∷ [])
    ∷ FuncProto 3 (param "" 7 ∷ []) ∷ DeclTag false (ascii "a b") 11 4294967295 ∷ TypeTag true (ascii "m\"\\\n\t\r\u{1}") 0 ∷ [])
    (one 59203 15 ∷ one 177 14 ∷ one 143 13 ∷ one 0 12 ∷ one 398 11 ∷ [])
    ((0, 0) ∷ (0, 0) ∷ (14, 0) ∷ (11, 0) ∷ (11, 0) ∷ [])
    ""
    ∷ session 8 true  -- 1-3-0
    (Void ∷ Typedef (ascii "x") 10 ∷ Func (ascii "x") ∷ Ptr 1 ∷ Array 3 4 ∷ FuncProto 0 (param "x" 3 ∷ param "x" 6 ∷ param "y" 1 ∷ [])
    ∷ Composite true (ascii "x") 112 (member "y" 1 64 0 ∷ member "x" 14 160 16 ∷ member "y" 12 246 0 ∷ member "x" 12 633 255 ∷ [])
    ∷ Datasec (ascii "") ∷ Var (ascii "x") ∷ DeclTag true (ascii "x") 6 4 ∷ Float (ascii "y") 12 ∷ Ptr 10 ∷ Array 10 4 ∷ Typedef (ascii "y") 12
    ∷ Ptr 13 ∷ Ptr 11 ∷ DeclTag true (ascii "x") 1 4294967295
    ∷ Composite false (ascii "y") 45 (member "y" 10 0 0 ∷ member "y" 4 0 0 ∷ member "x" 12 0 0 ∷ member "" 6 0 0 ∷ [])
    ∷ DeclTag true (ascii "m\"\\\n\t\r\u{1}") 10 2147483648 ∷ Typedef (ascii "x") 5 ∷ [])
    (all 312 ∷ [])
    ((0, 276) ∷ [])
    "typedef y x __attribute__((x));\n\ntypedef y y[4];\n\nstruct x {\n\tlong: 64;\n\tx y;\n\ty *x: 16;\n\tlong: 6;\n\tlong: 64;\n\ty y[4];\n\tchar: 3;\n\ty x[4]: 255;\n} __attribute__((packed));\n\nstruct /*union*/ y {\n\ty y;\n\tx *y[4];\n\ty x[4];\n\tstruct x;\n};\n\ntypedef void x___2(x *x, struct x x, x y);\n\n"
    ∷ session 8 false  -- 1-4-1
    (Void ∷ Int (ascii "y") 16 ∷ Enum true (ascii "y") 3 (value "y" 100 ∷ []) ∷ Int (ascii "y") 32 ∷ Typedef (ascii "x") 1 ∷ Array 0 16 ∷ [])
    (one 0 5 ∷ one 275 0 ∷ one 14 4 ∷ one 406 3 ∷ one 319 1 ∷ one 286 2 ∷ all 37 ∷ [])
    ((0, 0) ∷ (0, 0) ∷ (0, 14) ∷ (0, 14) ∷ (0, 14) ∷ (0, 37) ∷ (0, 37) ∷ [])
    "typedef y x;\n\nenum y {\n\ty = 100,\n};\n\n"
    ∷ session 8 true  -- 1-9-0
    (Void ∷ Typedef (ascii "buf") 2 ∷ TypeTag false (ascii "m\"\\\n\t\r\u{1}") 3 ∷ Ptr 4 ∷ Ptr 5 ∷ Ptr 6 ∷ Ptr 9
    ∷ Composite true (ascii "buf") 8 (member "" 8 0 0 ∷ []) ∷ Ptr 9 ∷ Mod restrict 10 ∷ FuncProto 11 (param "E" 14 ∷ []) ∷ Mod const 12 ∷ Mod const 13
    ∷ Ptr 0 ∷ Typedef (ascii "x") 15 ∷ FuncProto 16 (param "" 20 ∷ []) ∷ Array 17 4 ∷ Array 18 2 ∷ Mod const 21
    ∷ Enum false (ascii "buf") 4 (value "y" 1 ∷ []) ∷ Composite false (ascii "") 4 (member "E" 21 0 0 ∷ []) ∷ Int (ascii "int") 32 ∷ [])
    (all 558 ∷ [])
    ((0, 243) ∷ [])
    "typedef const int (x(struct /*union*/ {\n\tint E;\n}))[4][2];\n\ntypedef void * const constrestrict  (**** __attribute__((btf_type_tag(\"m\\\"\\\\\\n\\t\\r\u{1}\"))) buf)(x E);\n\nstruct buf {\n\tvoid * const constrestrict  (*)(x E);\n};\n\nenum buf___2 {\n\ty = 1,\n};\n\n"
    ∷ session 8 true  -- 1-10-1
    (Void ∷ Int (ascii "y") 128 ∷ Fwd true (ascii "data") ∷ Typedef (ascii "data") 2 ∷ Int (ascii "pre__x") 64 ∷ [])
    (one 85937 4 ∷ one 188 3 ∷ one 61 2 ∷ one 457 1 ∷ one 330 0 ∷ all 61 ∷ [])
    ((0, 0) ∷ (0, 61) ∷ (0, 61) ∷ (0, 61) ∷ (0, 61) ∷ (0, 61) ∷ [])
    "struct /*union*/ data;\n\ntypedef struct /*union*/ data data;\n\n"
    ∷ session 8 false  -- 1-11-2
    (Void ∷ Int (ascii "x") 32 ∷ Typedef (ascii "x") 1 ∷ Typedef (ascii "x") 2 ∷ Typedef (ascii "x") 3 ∷ Typedef (ascii "x") 4 ∷ Typedef (ascii "x") 5
    ∷ Typedef (ascii "x") 6 ∷ Typedef (ascii "x") 7 ∷ Typedef (ascii "x") 8 ∷ Typedef (ascii "x") 9 ∷ Typedef (ascii "x") 10 ∷ Typedef (ascii "x") 11
    ∷ Typedef (ascii "x") 12 ∷ Typedef (ascii "x") 13 ∷ Typedef (ascii "x") 14 ∷ Typedef (ascii "x") 15 ∷ Typedef (ascii "x") 16
    ∷ Typedef (ascii "x") 17 ∷ Composite false (ascii "x") 4 (member "y" 18 128 0 ∷ member "y" 18 8 0 ∷ []) ∷ [])
    (one 329 16 ∷ one 329 3 ∷ one 329 6 ∷ one 439 9 ∷ one 347 15 ∷ [])
    ((0, 329) ∷ (0, 329) ∷ (0, 329) ∷ (0, 329) ∷ (0, 329) ∷ [])
    "typedef x x;\n\ntypedef x x___2;\n\ntypedef x___2 x___3;\n\ntypedef x___3 x___4;\n\ntypedef x___4 x___5;\n\ntypedef x___5 x___6;\n\ntypedef x___6 x___7;\n\ntypedef x___7 x___8;\n\ntypedef x___8 x___9;\n\ntypedef x___9 x___10;\n\ntypedef x___10 x___11;\n\ntypedef x___11 x___12;\n\ntypedef x___12 x___13;\n\ntypedef x___13 x___14;\n\ntypedef x___14 x___15;\n\n"
    ∷ session 4 false  -- 1-12-0
    (Void ∷ Enum64 false (ascii "y") 8 [] ∷ Ptr 0 ∷ Ptr 0 ∷ Typedef (ascii "x") 1 ∷ Typedef (ascii "m\"\\\n\t\r\u{1}") 2 ∷ Ptr 4 ∷ [])
    (all 368 ∷ [])
    ((0, 52) ∷ [])
    "enum y;\n\ntypedef enum y x;\n\ntypedef void *m\"\\\n\t\r\u{1};\n\n"
    ∷ session 8 true  -- 1-15-0
    (Void ∷ Int (ascii "int") 32 ∷ Composite true (ascii "") 4 (member "data" 1 0 0 ∷ []) ∷ Enum false (ascii "prex") 4 (value "x" 1 ∷ []) ∷ Ptr 2
    ∷ FuncProto 4 (param "list_head" 2 ∷ param "" 0 ∷ []) ∷ Ptr 5 ∷ TypeTag false (ascii "\\\\") 6 ∷ Ptr 7 ∷ Mod restrict 8 ∷ Ptr 9 ∷ Ptr 10 ∷ Ptr 11
    ∷ Ptr 12 ∷ Composite true (ascii "list_head") 8 (member "" 13 0 0 ∷ []) ∷ Mod volatile 0 ∷ Typedef (ascii "data") 15 ∷ FuncProto 5 [] ∷ Ptr 17
    ∷ Mod volatile 18 ∷ Mod volatile 19 ∷ Typedef (ascii "x") 20 ∷ [])
    (all 440 ∷ [])
    ((0, 307) ∷ [])
    "enum prex {\n\tx = 1,\n};\n\nstruct list_head {\n\tstruct {\n\t\tint data;\n\t} * (* __attribute__((btf_type_tag(\"\\\\\\\\\"))) * restrict ****)(struct {\n\t\tint data;\n\t} list_head, ...);\n};\n\ntypedef volatile void data;\n\ntypedef struct {\n\tint data;\n} * ( (* volatile volatile x___2)())(struct {\n\tint data;\n} list_head, ...);\n\n"
    ∷ session 8 false  -- 1-18-0
    (Void ∷ Float (ascii "prey") 8 ∷ Datasec (ascii "y") ∷ Int (ascii "y") 64
    ∷ Enum64 true (ascii "node") 2 (value "node" 43969255282 ∷ value "y" 425201762403 ∷ value "x" 9223372034544652365 ∷ []) ∷ [])
    (all 169 ∷ [])
    ((0, 88) ∷ [])
    "enum node {\n\tnode = 43969255282LL,\n\ty = 425201762403LL,\n\tx = 9223372034544652365LL,\n};\n\n"
    ∷ session 4 false  -- 1-23-2
    (Void ∷ Int (ascii "int") 32 ∷ Composite false (ascii "__x") 4 (member "__x" 1 0 0 ∷ []) ∷ Enum false (ascii "E") 4 (value "x" 1 ∷ [])
    ∷ Mod const 1 ∷ Mod volatile 4 ∷ Ptr 5 ∷ Ptr 6 ∷ Mod const 7 ∷ Mod restrict 8 ∷ Array 9 0 ∷ FuncProto 0 (param "y" 10 ∷ [])
    ∷ Typedef (ascii "E") 11 ∷ FuncProto 1 (param "y" 0 ∷ param "" 2 ∷ []) ∷ Ptr 13 ∷ FuncProto 14 (param "x" 0 ∷ [])
    ∷ FuncProto 15 (param "E" 3 ∷ []) ∷ Ptr 16 ∷ Ptr 17 ∷ Ptr 18 ∷ Typedef (ascii "y") 19 ∷ [])
    (one 10 21 ∷ all 317 ∷ [])
    ((10, 0) ∷ (0, 166) ∷ [])
    "union __x {\n\tint __x;\n};\n\nenum E {\n\tx = 1,\n};\n\ntypedef void E(const volatile int ** const restrict y[0]);\n\ntypedef int (* ( (***y)(enum E E))())(void y, union __x);\n\n"
    ∷ session 4 true  -- 1-27-0
    (Void ∷ Int (ascii "char") 8 ∷ Int (ascii "int") 32 ∷ Array 2 2147483648 ∷ Array 3 65536 ∷ Array 2 536870912 ∷ Ptr 5 ∷ Array 2 4294967295 ∷ Ptr 7
    ∷ Composite true (ascii "next") 4294967295 (member "buf" 6 0 0 ∷ [])
    ∷ Composite false (ascii "E") 8 (member "len" 9 0 0 ∷ member "data" 1 0 0 ∷ [])
    ∷ Composite true (ascii "s") 8 (member "len" 1 0 0 ∷ member "E" 3 4096 0 ∷ []) ∷ Composite true (ascii "y") 8 (member "E" 9 0 28 ∷ []) ∷ [])
    (all 404 ∷ [])
    ((16, 66) ∷ [])
    "struct next {\n\tint (*buf)[536870912];\n} __attribute__((packed));\n\n"
    ∷ session 4 false  -- 1-30-0
    (Void ∷ Ptr 2 ∷ Enum false (ascii "x") 1 (value "" 1 ∷ value "list_head" 2147483648 ∷ []) ∷ Int (ascii "list_head") 8 ∷ [])
    (all 45 ∷ [])
    ((0, 45) ∷ [])
    "enum x {\n\t = 1,\n\tlist_head = 2147483648,\n};\n\n"
    ∷ session 8 true  -- 1-33-0
    (Void ∷ Int (ascii "x") 32 ∷ Ptr 1 ∷ Composite false (ascii "yx") 32 (member "prey" 10 0 0 ∷ [])
    ∷ Composite true (ascii "y") 560 (member "" 8 0 0 ∷ member "pre__x" 8 64 0 ∷ member "x" 8 128 0 ∷ member "ops" 2 192 0 ∷ member "ops" 10 256 0 ∷ member "pre__x" 2 512 0 ∷ member "x" 8 576 0 ∷ member "x" 2 640 0 ∷ member "y" 8 704 0 ∷ member "y" 10 768 0 ∷ member "pre__x" 6 1024 0 ∷ member "__x" 9 1280 0 ∷ member "pre__x" 1 1536 0 ∷ member "y" 9 1568 0 ∷ member "prey" 2 1824 0 ∷ member "y" 6 1888 0 ∷ member "y" 1 2144 0 ∷ member "pre__x" 10 2176 0 ∷ member "ops" 1 2432 0 ∷ member "__x" 1 2464 0 ∷ member "yx" 6 2496 0 ∷ member "x" 2 2752 0 ∷ member "prey" 8 2816 0 ∷ member "x" 1 2880 0 ∷ member "pre__x" 9 2947 0 ∷ member "__x" 1 3203 0 ∷ member "x" 2 3235 0 ∷ member "x" 8 3299 0 ∷ member "x" 10 3363 0 ∷ member "" 2 3747 0 ∷ member "pre__x" 2 3811 0 ∷ member "__x" 2 3875 0 ∷ member "x" 9 3939 0 ∷ member "list_head" 1 4195 0 ∷ member "ops" 1 4227 0 ∷ member "yx" 2 4259 0 ∷ member "list_head" 2 4333 0 ∷ member "__x" 1 4397 0 ∷ member "y" 1 4429 0 ∷ [])
    ∷ Composite true (ascii "ops") 564 (member "prey" 8 7 0 ∷ []) ∷ Array 2 4 ∷ DeclTag false (ascii "x") 3 0 ∷ Ptr 0 ∷ Int (ascii "pre__x") 255
    ∷ Mod const 9 ∷ FuncProto 3 (param "" 8 ∷ param "" 8 ∷ []) ∷ [])
    (all 710 ∷ [])
    ((0, 643) ∷ [])
    "struct /*union*/ yx {\n\tconst pre__x prey __attribute__((btf_decl_tag(\"x\")));\n};\n\nstruct y {\n\tvoid *;\n\tvoid *pre__x;\n\tvoid *x;\n\tx *ops;\n\tconst pre__x ops;\n\tx *pre__x;\n\tvoid *x;\n\tx *x;\n\tvoid *y;\n\tconst pre__x y;\n\tx *pre__x[4];\n\tpre__x __x;\n\tx pre__x;\n\tpre__x y;\n\tx *prey;\n\tx *y[4];\n\tx y;\n\tconst pre__x pre__x;\n\tx ops;\n\tx __x;\n\tx *yx[4];\n\tx *x;\n\tvoid *prey;\n\tx x;\n\tlong: 35;\n\tpre__x pre__x;\n\tx __x;\n\tx *x;\n\tvoid *x;\n\tconst pre__x x;\n\tlong: 64;\n\tlong: 64;\n\tx *;\n\tx *pre__x;\n\tx *__x;\n\tpre__x x;\n\tx list_head;\n\tx ops;\n\tx *yx;\n\tshort: 10;\n\tx *list_head;\n\tx __x;\n\tx y;\n} __attribute__((packed));\n\nstruct ops {\n\tvoid *prey;\n} __attribute__((packed));\n\n"
    ∷ session 4 true  -- 1-36-0
    (Void ∷ Typedef (ascii "yx") 0 ∷ Typedef (ascii "flags") 1 ∷ Typedef (ascii "node") 0 ∷ Array 3 4 ∷ Array 4 100 ∷ Ptr 2
    ∷ Composite false (ascii "b") 8 (member "_" 6 0 0 ∷ member "T" 6 0 1 ∷ []) ∷ Func (ascii "b") ∷ [])
    (all 107 ∷ [])
    ((0, 107) ∷ [])
    "typedef void yx;\n\ntypedef yx flags;\n\ntypedef void node;\n\nstruct /*union*/ b {\n\tflags *_;\n\tflags *T: 1;\n};\n\n"
    ∷ session 4 true  -- 1-39-0
    (Void ∷ Int (ascii "int") 32 ∷ FuncProto 0 (param "" 1 ∷ param "" 1 ∷ []) ∷ Typedef (ascii "") 4 ∷ FuncProto 0 (param "" 2 ∷ param "" 2 ∷ []) ∷ [])
    (all 216 ∷ [])
    ((14, 0) ∷ [])
    ""
    ∷ session 8 true  -- 1-40-1
    (Void ∷ Composite true (ascii "") 32 (member "x" 4 64 0 ∷ member "flags" 4 159 0 ∷ []) ∷ Int (ascii "char") 8 ∷ Int (ascii "int") 32
    ∷ Int (ascii "long") 64 ∷ Int (ascii "i128") 128
    ∷ Composite true (ascii "y") 36 (member "prex___3" 5 128 0 ∷ member "prem\"\\\n\t\r\u{1}" 7 273 9 ∷ []) ∷ Int (ascii "short") 16 ∷ [])
    (one 117 1 ∷ one 0 3 ∷ one 0 7 ∷ one 102 0 ∷ one 2254 5 ∷ one 0 4 ∷ one 39 2 ∷ one 0 6 ∷ all 0 ∷ [])
    ((0, 0) ∷ (0, 0) ∷ (0, 0) ∷ (0, 0) ∷ (0, 0) ∷ (0, 0) ∷ (0, 0) ∷ (17, 0) ∷ (11, 0) ∷ [])
    ""
    ∷ session 8 true  -- 1-41-2
    (Void ∷ FuncProto 2 [] ∷ Typedef (ascii "") 0 ∷ Mod restrict 5 ∷ Composite false (ascii "E") 16 (member "flags" 5 0 0 ∷ member "x" 3 0 0 ∷ [])
    ∷ Int (ascii "b") 128 ∷ [])
    (one 389 7 ∷ one 189 1 ∷ one 173 1 ∷ one 187 1 ∷ [])
    ((10, 0) ∷ (14, 0) ∷ (11, 0) ∷ (11, 0) ∷ [])
    ""
    ∷ session 4 false  -- 1-59-2
    (Void
    ∷ Composite true (ascii "prey") 256 (member "x___3" 6 0 0 ∷ member "state" 3 64 0 ∷ member "data" 6 176 0 ∷ member "y" 4 384 0 ∷ member "state" 3 448 0 ∷ member "" 6 512 0 ∷ member "x" 4 576 0 ∷ member "state" 6 640 0 ∷ member "y" 5 704 0 ∷ member "flags" 5 832 0 ∷ member "y" 6 896 0 ∷ member "y" 7 904 0 ∷ member "state" 5 1152 0 ∷ member "data" 6 1238 0 ∷ member "y" 2 1254 0 ∷ member "state" 3 1408 0 ∷ member "y" 3 1472 0 ∷ member "" 4 1632 0 ∷ member "y" 6 1696 0 ∷ member "flags" 3 1728 0 ∷ member "state" 6 1984 0 ∷ [])
    ∷ Int (ascii "state") 32 ∷ Array 5 1 ∷ Ptr 5 ∷ Int (ascii "flags") 64 ∷ Typedef (ascii "prey") 7 ∷ Int (ascii "x___3") 1 ∷ [])
    (one 241 5 ∷ one 0 5 ∷ one 91 5 ∷ one 119 9 ∷ one 0 4294967295 ∷ one 328 4 ∷ one 0 5 ∷ [])
    ((0, 0) ∷ (0, 0) ∷ (0, 0) ∷ (10, 0) ∷ (10, 0) ∷ (0, 0) ∷ (0, 0) ∷ [])
    ""
    ∷ session 4 false  -- 1-60-0
    (Void ∷ Composite true (ascii "next") 512 (member "x" 3 0 0 ∷ member "x" 2 512 0 ∷ []) ∷ Composite true (ascii "") 16 (member "preE" 7 112 0 ∷ [])
    ∷ Composite false (ascii "") 56 (member "s" 4 162 0 ∷ member "priv" 8 355 0 ∷ member "list_head" 8 403 0 ∷ []) ∷ Int (ascii "i128") 128
    ∷ Int (ascii "long") 64 ∷ Int (ascii "int") 32 ∷ Int (ascii "short") 16 ∷ Int (ascii "char") 8 ∷ [])
    (all 519 ∷ [])
    ((0, 286) ∷ [])
    "struct next {\n\tunion {\n\t\tint: 2;\n\t\tint: 32;\n\t\tint: 32;\n\t\tint: 32;\n\t\tint: 32;\n\t\tint: 32;\n\t\ti128 s;\n\t\tint: 1;\n\t\tint: 32;\n\t\tint: 32;\n\t\tchar priv;\n\t\tint: 8;\n\t\tint: 32;\n\t\tchar list_head;\n\t} x;\n\tint: 32;\n\tint: 32;\n\tstruct {\n\t\tint: 16;\n\t\tint: 32;\n\t\tint: 32;\n\t\tint: 32;\n\t\tshort preE;\n\t} x;\n};\n\n"
    ∷ session 4 true  -- 1-63-0
    (Void ∷ Int (ascii "x") 32 ∷ Ptr 1 ∷ Ptr 2 ∷ Ptr 3 ∷ Composite true (ascii "x") 4 (member "y" 4 0 0 ∷ []) ∷ [])
    (all 250 ∷ [])
    ((0, 24) ∷ [])
    "struct x {\n\tx ***y;\n};\n\n"
    ∷ session 8 true  -- 1-66-0
    (Void ∷ Fwd false (ascii "pres") ∷ Typedef (ascii "y") 3 ∷ Mod const 0 ∷ Var (ascii "pres") ∷ [])
    (all 37 ∷ [])
    ((0, 37) ∷ [])
    "struct pres;\n\ntypedef const void y;\n\n"
    ∷ session 8 true  -- 1-71-2
    (Void ∷ Array 2 1 ∷ Fwd false (ascii "x") ∷ Typedef (ascii "y") 1 ∷ Int (ascii "data") 128 ∷ Array 13 4 ∷ Composite true (ascii "") 0 []
    ∷ Array 4 3 ∷ Enum64 false (ascii "") 4 (value "x" 18446744063709551616 ∷ value "x" 9223372039002259455 ∷ value "" 18446744073709551615 ∷ [])
    ∷ Typedef (ascii "data") 0 ∷ Composite true (ascii "") 7 (member "y" 13 0 0 ∷ member "y" 13 64 0 ∷ member "x" 4 128 0 ∷ [])
    ∷ Fwd false (ascii "prex") ∷ Int (ascii "prex") 32 ∷ Int (ascii "prex") 64 ∷ Int (ascii "data") 64
    ∷ Composite false (ascii "y") 4 (member "y" 8 0 5 ∷ member "" 10 0 5 ∷ member "" 10 0 31 ∷ member "x" 6 0 32 ∷ []) ∷ [])
    (all 368 ∷ one 368 7 ∷ one 368 6 ∷ one 736 5 ∷ all 438 ∷ [])
    ((0, 368) ∷ (0, 368) ∷ (0, 368) ∷ (0, 368) ∷ (0, 368) ∷ [])
    "struct x;\n\ntypedef struct x y[1];\n\ntypedef void data;\n\nstruct prex;\n\nstruct /*union*/ y {\n\tenum {\n\t\tx = 18446744063709551616ULL,\n\t\tx___2 = 9223372039002259455ULL,\n\t\t = 18446744073709551615ULL,\n\t} y: 5;\n\tstruct {\n\t\tprex y;\n\t\tprex y;\n\t\tdata x;\n\t} __attribute__((packed)): 5;\n\tstruct {\n\t\tprex y;\n\t\tprex y;\n\t\tdata x;\n\t} __attribute__((packed)): 31;\n\tstruct {\t} x: 32;\n};\n\n"
    ∷ session 8 false  -- 1-77-2
    (Void ∷ Int (ascii "__x") 32 ∷ Int (ascii "Ax") 32 ∷ Mod const 0 ∷ [])
    (one 342 2 ∷ one 124 1 ∷ one 165 0 ∷ one 245 2 ∷ one 0 5 ∷ one 31 1 ∷ one 0 2 ∷ one 318 2 ∷ [])
    ((0, 0) ∷ (0, 0) ∷ (0, 0) ∷ (0, 0) ∷ (10, 0) ∷ (0, 0) ∷ (0, 0) ∷ (0, 0) ∷ [])
    ""
    ∷ session 8 false  -- 1-78-0
    (Void ∷ Typedef (ascii "") 2 ∷ FuncProto 0 (param "" 3 ∷ param "" 3 ∷ []) ∷ FuncProto 0 (param "" 4 ∷ param "" 4 ∷ []) ∷ Int (ascii "int") 32 ∷ [])
    (all 0 ∷ [])
    ((14, 0) ∷ [])
    ""
    ∷ session 8 true  -- 1-79-1
    (Void ∷ Mod restrict 2 ∷ Mod restrict 3 ∷ Enum false (ascii "priv") 1 (value "y" 10 ∷ value "" 2 ∷ []) ∷ Float (ascii "prey") 8 ∷ Int (ascii "x") 8
    ∷ Mod const 2 ∷ Typedef (ascii "") 5 ∷ Typedef (ascii "y") 7 ∷ [])
    (one 12 0 ∷ one 113 1 ∷ one 324 2 ∷ one 83366 3 ∷ one 212 4 ∷ one 393 5 ∷ one 149 6 ∷ one 66521 7 ∷ one 42755 8 ∷ [])
    ((0, 0) ∷ (0, 32) ∷ (0, 32) ∷ (0, 32) ∷ (0, 32) ∷ (0, 32) ∷ (0, 32) ∷ (14, 32) ∷ (11, 32) ∷ [])
    "enum priv {\n\ty = 10,\n\t = 2,\n};\n\n"
    ∷ session 8 true  -- 1-84-0
    (Void ∷ Ptr 4 ∷ Mod const 3 ∷ Composite true (ascii "x") 64 (member "b" 2 0 64 ∷ member "b" 4 64 0 ∷ [])
    ∷ Composite true (ascii "") 56 (member "b" 1 0 32 ∷ member "" 3 32 0 ∷ member "" 3 32 3 ∷ member "" 1 64 0 ∷ member "flags" 1 128 0 ∷ member "preb" 2 192 0 ∷ member "_" 1 192 0 ∷ member "_" 1 256 0 ∷ member "b" 3 320 32 ∷ member "node" 1 384 0 ∷ [])
    ∷ [])
    (all 0 ∷ [])
    ((13, 0) ∷ [])
    ""
    ∷ session 8 false  -- 1-93-0
    (Void ∷ Composite false (ascii "") 8 (member "" 4 0 0 ∷ []) ∷ Ptr 1 ∷ Typedef (ascii "T") 1
    ∷ Composite true (ascii "") 8 (member "T" 2 0 0 ∷ member "preT" 5 64 0 ∷ []) ∷ Int (ascii "int") 32
    ∷ Composite true (ascii "y") 8 (member "__x" 1 0 0 ∷ []) ∷ [])
    (all 368 ∷ [])
    ((13, 0) ∷ [])
    ""
    ∷ session 4 true  -- 1-96-0
    (Void ∷ Int (ascii "len") 24 ∷ Typedef (ascii "y") 3 ∷ Enum true (ascii "prey") 8 (value "y" 962954980 ∷ []) ∷ Ptr 2 ∷ [])
    (all 300 ∷ [])
    ((0, 58) ∷ [])
    "enum prey {\n\ty = 962954980,\n};\n\ntypedef enum prey y___2;\n\n"
    ∷ session 8 true  -- 1-98-2
    (Void ∷ Int (ascii "int") 32 ∷ Enum false (ascii "x") 4 (value "a" 0 ∷ value "y" 1 ∷ value "x" 2 ∷ [])
    ∷ Enum64 false (ascii "a") 8 (value "a" 10877842219282537678 ∷ []) ∷ Ptr 3
    ∷ Enum false (ascii "y") 4 (value "x" 0 ∷ value "a" 1 ∷ value "x" 2 ∷ []) ∷ Ptr 5 ∷ Typedef (ascii "y") 1 ∷ Ptr 7 ∷ Fwd false (ascii "y") ∷ Ptr 9
    ∷ [])
    (one 41 6 ∷ one 345 9 ∷ one 56 5 ∷ one 233 11 ∷ one 165 12 ∷ one 56 10 ∷ one 227 12 ∷ one 101 5 ∷ [])
    ((0, 41) ∷ (0, 56) ∷ (0, 56) ∷ (10, 56) ∷ (10, 56) ∷ (0, 56) ∷ (10, 56) ∷ (0, 56) ∷ [])
    "enum y {\n\tx = 0,\n\ta = 1,\n\tx___2 = 2,\n};\n\nstruct y___2;\n\n"
    ∷ session 4 true  -- 1-104-2
    (Void ∷ Int (ascii "prey") 128 ∷ DeclTag false (ascii "x") 19 2147483648
    ∷ Enum64 false (ascii "x") 2 (value "y" 9223372036854775807 ∷ value "x" 9223372036854775810 ∷ [])
    ∷ Composite true (ascii "x") 40 (member "" 16 58 0 ∷ member "y" 17 304 0 ∷ member "y" 4 313 0 ∷ []) ∷ Ptr 4
    ∷ Composite true (ascii "") 40 (member "__x" 3 0 0 ∷ member "" 6 16 0 ∷ member "__x" 8 16 0 ∷ member "" 1 24 0 ∷ [])
    ∷ Composite false (ascii "") 28 (member "x" 22 0 0 ∷ member "" 12 0 0 ∷ member "" 4 0 0 ∷ []) ∷ Mod const 20 ∷ Typedef (ascii "x") 20
    ∷ TypeTag false (ascii "x") 0 ∷ Fwd true (ascii "__x") ∷ Ptr 0 ∷ Mod restrict 0
    ∷ Enum true (ascii "") 8 (value "" 2147483648 ∷ value "prey" 99 ∷ []) ∷ Mod const 11
    ∷ Composite true (ascii "x") 72 (member "" 7 272 0 ∷ member "x" 16 561 0 ∷ []) ∷ Int (ascii "__x") 7
    ∷ Composite false (ascii "prey") 8 (member "__x" 5 0 0 ∷ []) ∷ Composite false (ascii "y") 40 (member "" 18 0 0 ∷ member "" 4 0 0 ∷ [])
    ∷ Int (ascii "__x") 7 ∷ FuncProto 19 (param "x" 17 ∷ param "y" 18 ∷ []) ∷ Mod restrict 16 ∷ [])
    (one 0 5 ∷ one 0 1 ∷ one 231 17 ∷ one 63 24 ∷ one 81 7 ∷ [])
    ((0, 0) ∷ (0, 0) ∷ (0, 0) ∷ (10, 0) ∷ (13, 0) ∷ [])
    ""
    ∷ session 8 false  -- 1-107-2
    (Void ∷ Int (ascii "data") 64 ∷ TypeTag false (ascii "x") 1 ∷ Array 0 100 ∷ FuncProto 0 (param "buf" 1 ∷ param "" 2 ∷ param "data" 2 ∷ []) ∷ Ptr 0
    ∷ [])
    (all 0 ∷ one 184 5 ∷ one 378 4294967295 ∷ all 0 ∷ [])
    ((0, 0) ∷ (0, 0) ∷ (10, 0) ∷ (0, 0) ∷ [])
    ""
    ∷ session 8 true  -- 1-109-1
    (Void ∷ Int (ascii "len") 32 ∷ Enum64 false (ascii "list_head") 8 [] ∷ Typedef (ascii "") 0 ∷ Float (ascii "data") 12 ∷ [])
    (one 17 2 ∷ one 407 0 ∷ one 54 1 ∷ one 409 4 ∷ one 17 3 ∷ all 63563 ∷ [])
    ((0, 17) ∷ (0, 17) ∷ (0, 17) ∷ (0, 17) ∷ (14, 17) ∷ (11, 17) ∷ [])
    "enum list_head;\n\n"
    ∷ session 4 false  -- 1-110-2
    (Void ∷ Int (ascii "int") 32 ∷ Composite true (ascii "state") 4 (member "list_head" 1 0 0 ∷ []) ∷ Enum false (ascii "x") 4 (value "x___3" 1 ∷ [])
    ∷ FuncProto 2 (param "x___3" 3 ∷ param "state" 0 ∷ param "list_head" 1 ∷ []) ∷ Mod const 4 ∷ Ptr 5
    ∷ FuncProto 6 (param "" 0 ∷ param "state" 3 ∷ []) ∷ Ptr 7 ∷ Array 8 7 ∷ FuncProto 9 (param "" 5 ∷ param "" 0 ∷ []) ∷ Mod restrict 10
    ∷ TypeTag false (ascii "packed") 11 ∷ Ptr 12 ∷ Typedef (ascii "y") 13 ∷ Array 1 3 ∷ FuncProto 15 (param "x___3" 1 ∷ param "" 1 ∷ param "" 1 ∷ [])
    ∷ Ptr 16 ∷ FuncProto 17 (param "" 0 ∷ param "state" 0 ∷ []) ∷ Mod const 18 ∷ FuncProto 0 (param "y" 19 ∷ []) ∷ Typedef (ascii "x___3") 20 ∷ [])
    (one 25 7 ∷ one 25 0 ∷ one 25 22 ∷ one 408 19 ∷ one 320 0 ∷ [])
    ((0, 25) ∷ (0, 25) ∷ (10, 25) ∷ (0, 25) ∷ (0, 25) ∷ [])
    "enum x {\n\tx___3 = 1,\n};\n\n"
    ∷ session 8 true  -- 1-113-2
    (Void ∷ Int (ascii "int") 32 ∷ FuncProto 1 (param "" 1 ∷ []) ∷ Enum false (ascii "") 4 (value "x" 1 ∷ [])
    ∷ Composite false (ascii "buf") 4 (member "x" 1 0 0 ∷ []) ∷ Ptr 2 ∷ Composite true (ascii "buf") 8 (member "prebuf" 5 0 0 ∷ []) ∷ [])
    (one 25857 8 ∷ all 369 ∷ one 257 2 ∷ [])
    ((10, 0) ∷ (0, 77) ∷ (0, 77) ∷ [])
    "struct /*union*/ buf {\n\tint x;\n};\n\nstruct buf___2 {\n\tint (*prebuf)(int);\n};\n\n"
    ∷ session 8 false  -- 1-120-0
    (Void ∷ Typedef (ascii "y") 2 ∷ Mod restrict 9 ∷ DeclTag false (ascii "x") 4 1
    ∷ Composite true (ascii "x") 58 (member "" 9 8 0 ∷ member "y" 1 148 0 ∷ member "y" 1 264 0 ∷ []) ∷ Typedef (ascii "y") 9 ∷ FuncProto 10 []
    ∷ Fwd false (ascii "x") ∷ DeclTag false (ascii "x") 1 4294967295 ∷ Ptr 4 ∷ Ptr 2 ∷ [])
    (all 428 ∷ [])
    ((0, 261) ∷ [])
    "struct x;\n\ntypedef struct x * restrict y __attribute__((btf_decl_tag(\"x\")));\n\nstruct x {\n\tchar: 8;\n\tstruct x *;\n\tlong: 12;\n\tlong: 64;\n\ty y __attribute__((btf_decl_tag(\"x\")));\n\tlong: 52;\n\ty y;\n} __attribute__((packed));\n\ntypedef struct x *y___2;\n\nstruct x___2;\n\n"
    ∷ session 4 true  -- 1-126-0
    (Void ∷ Int (ascii "x") 0 ∷ Composite true (ascii "len") 0 (member "" 4 0 0 ∷ member "prebuf" 1 0 0 ∷ member "len" 4 0 0 ∷ member "" 4 0 0 ∷ [])
    ∷ FuncProto 0 [] ∷ Mod const 1 ∷ Typedef (ascii "y") 0 ∷ [])
    (all 155 ∷ [])
    ((15, 0) ∷ [])
    ""
    ∷ session 8 true  -- 1-128-2
    (Void ∷ Int (ascii "char") 8 ∷ Int (ascii "short") 16 ∷ Int (ascii "int") 32 ∷ Int (ascii "long") 64 ∷ Int (ascii "i128") 128
    ∷ Composite true (ascii "data") 40 (member "next" 2 251 0 ∷ member "prenode" 1 304 0 ∷ [])
    ∷ Composite true (ascii "list_head") 48 (member "x___2" 5 64 0 ∷ member "y" 1 320 0 ∷ [])
    ∷ Composite true (ascii "s") 512 (member "x" 6 0 0 ∷ member "x" 7 512 0 ∷ []) ∷ [])
    (one 382 9 ∷ one 0 0 ∷ one 308 10 ∷ one 0 0 ∷ one 0 3 ∷ all 288 ∷ one 288 0 ∷ [])
    ((10, 0) ∷ (0, 0) ∷ (10, 0) ∷ (0, 0) ∷ (0, 0) ∷ (0, 288) ∷ (0, 288) ∷ [])
    "struct data {\n\tlong: 59;\n\tlong: 64;\n\tlong: 64;\n\tlong: 64;\n\tshort next;\n\tlong: 37;\n\tchar prenode;\n} __attribute__((packed));\n\nstruct list_head {\n\tlong: 64;\n\ti128 x___2;\n\tlong: 64;\n\tlong: 64;\n\tchar y;\n};\n\nstruct s {\n\tstruct data x;\n\tlong: 64;\n\tlong: 64;\n\tlong: 64;\n\tstruct list_head x;\n};\n\n"
    ∷ session 8 true  -- 1-129-0
    (Void
    ∷ Composite true (ascii "Ax") 72 (member "priv" 10 240 0 ∷ member "prepriv" 7 264 0 ∷ member "x___2" 7 352 0 ∷ member "priv" 10 360 0 ∷ member "pres" 8 384 0 ∷ member "s" 10 440 0 ∷ member "pres" 10 488 0 ∷ member "__x" 10 530 0 ∷ [])
    ∷ Mod const 1 ∷ Composite true (ascii "x") 40 (member "prea" 8 0 3 ∷ member "Ax" 2 7 1 ∷ member "prea" 4 8 64 ∷ member "a" 2 296 16 ∷ [])
    ∷ Typedef (ascii "E") 1 ∷ Typedef (ascii "s") 4 ∷ Composite false (ascii "x___2") 0 [] ∷ Int (ascii "state") 8 ∷ Ptr 2 ∷ Datasec (ascii "priv")
    ∷ Enum64 false (ascii "flags") 3 (value "priv" 4294967296 ∷ value "state" 4294967295 ∷ []) ∷ Typedef (ascii "__x") 0
    ∷ DeclTag true (ascii "a b") 5 0 ∷ Composite true (ascii "_") 1 (member "list_head" 7 0 0 ∷ []) ∷ [])
    (all 603 ∷ [])
    ((0, 603) ∷ [])
    "enum flags {\n\tpriv = 4294967296ULL,\n\tstate = 4294967295ULL,\n};\n\nstruct Ax {\n\tlong: 48;\n\tlong: 64;\n\tlong: 64;\n\tlong: 64;\n\tenum flags priv;\n\tstate prepriv;\n\tlong: 16;\n\tlong: 64;\n\tstate x___2;\n\tenum flags priv;\n\tconst struct Ax *pres;\n\tenum flags s;\n\tint: 24;\n\tenum flags pres;\n\tint: 18;\n\tenum flags __x;\n} __attribute__((packed));\n\ntypedef struct Ax E;\n\nstruct x {\n\tconst struct Ax *prea: 3;\n\tchar: 4;\n\tconst struct Ax Ax: 1;\n\tE prea: 64;\n\tlong: 32;\n\tlong: 64;\n\tlong: 64;\n\tlong: 64;\n\tconst struct Ax a: 16;\n};\n\ntypedef E s;\n\nstruct /*union*/ x___2 {};\n\ntypedef void __x;\n\nstruct _ {\n\tstate list_head;\n};\n\n"
    ∷ session 4 true  -- 1-133-1
    (Void ∷ Int (ascii "x") 1 ∷ Composite false (ascii "x") 15 (member "x___3" 3 0 0 ∷ member "s" 3 0 0 ∷ member "y" 3 0 0 ∷ [])
    ∷ TypeTag false (ascii "x") 1 ∷ Datasec (ascii "x") ∷ [])
    (one 151 3 ∷ one 0 4 ∷ one 34 0 ∷ one 348 1 ∷ one 152 2 ∷ all 367 ∷ [])
    ((0, 0) ∷ (0, 0) ∷ (0, 0) ∷ (0, 0) ∷ (0, 152) ∷ (0, 152) ∷ [])
    "struct /*union*/ x {\n\tx __attribute__((btf_type_tag(\"x\"))) x___3;\n\tx __attribute__((btf_type_tag(\"x\"))) s;\n\tx __attribute__((btf_type_tag(\"x\"))) y;\n};\n\n"
    ∷ session 8 false  -- 1-137-2
    (Void ∷ Int (ascii "__builtin_va_list_y") 8 ∷ Int (ascii "__builtin_va_list") 128 ∷ Int (ascii "x") 16 ∷ Array 1 2 ∷ Int (ascii "a") 16
    ∷ FuncProto 0 (param "" 0 ∷ []) ∷ Typedef (ascii "y") 4 ∷ Mod restrict 7 ∷ Int (ascii "y") 1
    ∷ Composite true (ascii "__builtin_va_list") 10 (member "__builtin_va_list" 5 32 0 ∷ member "y" 4 48 0 ∷ member "__builtin_va_list_y" 4 64 0 ∷ [])
    ∷ Array 9 16 ∷ [])
    (one 17 7 ∷ one 0 4 ∷ [])
    ((17, 0) ∷ (11, 0) ∷ [])
    ""
    ∷ session 8 true  -- 1-140-2
    (Void ∷ Composite true (ascii "E") 8 (member "next" 7 0 0 ∷ []) ∷ Typedef (ascii "preyx") 4 ∷ Typedef (ascii "__builtin_va_list") 4 ∷ Mod const 5
    ∷ FuncProto 13 (param "" 15 ∷ []) ∷ Typedef (ascii "a") 7 ∷ Ptr 8 ∷ Array 13 4 ∷ Typedef (ascii "u32") 17 ∷ Array 11 2 ∷ Ptr 15
    ∷ Int (ascii "pres") 32 ∷ Typedef (ascii "_") 15 ∷ Typedef (ascii "s") 15 ∷ Typedef (ascii "ops") 1 ∷ Ptr 17 ∷ Mod restrict 18 ∷ FuncProto 1 []
    ∷ [])
    (one 80 5 ∷ one 80 11 ∷ one 474 19 ∷ one 212 0 ∷ all 179 ∷ one 546 1 ∷ one 179 3 ∷ [])
    ((0, 80) ∷ (0, 80) ∷ (10, 80) ∷ (0, 80) ∷ (0, 179) ∷ (0, 179) ∷ (0, 179) ∷ [])
    "struct E;\n\ntypedef struct E ops;\n\ntypedef ops _;\n\nstruct E {\n\t_ (*next)[4];\n};\n\ntypedef _const  preyx(ops);\n\ntypedef _ (*a)[4];\n\ntypedef struct Erestrict  u32();\n\ntypedef ops s;\n\n"
    ∷ session 8 false  -- 1-147-0
    (Void ∷ Int (ascii "x") 64
    ∷ Composite true (ascii "") 88 (member "y" 9 0 0 ∷ member "x" 7 32 0 ∷ member "x" 12 64 0 ∷ member "x" 1 96 0 ∷ member "x" 7 160 0 ∷ member "x" 14 192 0 ∷ member "y" 14 448 0 ∷ [])
    ∷ Mod const 2
    ∷ Composite true (ascii "x") 188 (member "x" 7 0 0 ∷ member "y" 7 32 0 ∷ member "x" 2 64 0 ∷ member "x" 6 768 0 ∷ member "x" 2 800 0 ∷ [])
    ∷ FuncProto 9 (param "x" 1 ∷ []) ∷ Ptr 3
    ∷ Enum64 true (ascii "y") 4 (value "x" 10723812419202005048 ∷ value "x" 18446744073709551615 ∷ value "y" 18446744071562067969 ∷ value "y" 426201762303 ∷ value "x" 4294967297000000000 ∷ [])
    ∷ FuncProto 10 [] ∷ Int (ascii "x") 8 ∷ Composite true (ascii "") 16 (member "x" 1 32 0 ∷ member "y" 9 96 0 ∷ [])
    ∷ Composite true (ascii "y") 16 (member "x" 10 0 0 ∷ []) ∷ Ptr 9 ∷ Typedef (ascii "x") 11 ∷ Int (ascii "x") 255 ∷ Mod const 0 ∷ Array 13 2 ∷ [])
    (all 865 ∷ [])
    ((0, 648) ∷ [])
    "enum y {\n\tx = -7722931654507546568LL,\n\tx___2 = -1LL,\n\ty = -2147483647LL,\n\ty___2 = 426201762303LL,\n\tx___3 = 4294967297000000000LL,\n};\n\nstruct x {\n\tenum y x;\n\tenum y y;\n\tstruct {\n\t\tx y;\n\t\tint: 24;\n\t\tenum y x;\n\t\tx *x;\n\t\tx x;\n\t\tenum y x;\n\t\tx x;\n\t\tx y;\n\t} __attribute__((packed)) x;\n\tconst struct {\n\t\tx y;\n\t\tint: 24;\n\t\tenum y x;\n\t\tx *x;\n\t\tx x;\n\t\tenum y x;\n\t\tx x;\n\t\tx y;\n\t} __attribute__((packed)) *x;\n\tstruct {\n\t\tx y;\n\t\tint: 24;\n\t\tenum y x;\n\t\tx *x;\n\t\tx x;\n\t\tenum y x;\n\t\tx x;\n\t\tx y;\n\t} __attribute__((packed)) x;\n} __attribute__((packed));\n\nstruct y___2 {\n\tstruct {\n\t\tint: 32;\n\t\tx x;\n\t\tx y;\n\t} __attribute__((packed)) x;\n};\n\ntypedef struct y___2 x___4;\n\n"
    ∷ session 4 true  -- 1-148-1
    (Void ∷ Int (ascii "") 128
    ∷ Composite true (ascii "prex") 48 (member "a" 1 246 0 ∷ member "x" 1 224 0 ∷ member "" 4 81 0 ∷ member "u32" 4 240 0 ∷ [])
    ∷ Typedef (ascii "x") 2 ∷ Int (ascii "_") 1 ∷ [])
    (one 24 1 ∷ one 0 4 ∷ one 218 3 ∷ one 271 2 ∷ one 594 0 ∷ [])
    ((0, 0) ∷ (0, 0) ∷ (0, 218) ∷ (0, 218) ∷ (0, 218) ∷ [])
    "struct prex {\n\tint: 22;\n\tint: 32;\n\tint: 32;\n\tint: 32;\n\tint: 32;\n\tint: 32;\n\tint: 32;\n\tint: 32;\n\t a;\n\t x;\n\t_;\n\tint: 23;\n\tint: 32;\n\tint: 32;\n\tint: 32;\n\tint: 32;\n\t_ u32;\n} __attribute__((packed));\n\ntypedef struct prex x;\n\n"
    ∷ session 4 false  -- 1-159-0
    (Void ∷ Enum false (ascii "prex") 8 (value "x" 4294967295 ∷ []) ∷ Array 1 2 ∷ [])
    (all 16 ∷ [])
    ((17, 0) ∷ [])
    ""
    ∷ session 8 true  -- 1-164-2
    (Void ∷ DeclTag false (ascii "m\"\\\n\t\r\u{1}") 2 4294967295
    ∷ Composite true (ascii "y") 18 (member "prenext" 3 86 0 ∷ member "next" 3 120 0 ∷ [])
    ∷ Enum true (ascii "buf") 3 (value "x___2" 1 ∷ value "Ax" 999999999 ∷ []) ∷ Array 2 16 ∷ Typedef (ascii "priv") 0 ∷ [])
    (one 563 4 ∷ one 354 5 ∷ [])
    ((0, 198) ∷ (0, 218) ∷ [])
    "enum buf {\n\tx___2 = 1,\n\tAx = 999999999,\n};\n\nstruct y {\n\tlong: 22;\n\tlong: 64;\n\tenum buf prenext;\n\tshort: 10;\n\tenum buf next;\n} __attribute__((packed)) __attribute__((btf_decl_tag(\"m\\\"\\\\\\n\\t\\r\u{1}\")));\n\ntypedef void priv;\n\n"
    ∷ session 8 false  -- 1-165-0
    (Void
    ∷ Composite true (ascii "x") 52 (member "x" 0 0 0 ∷ member "y" 0 6 0 ∷ member "y" 0 42 0 ∷ member "y" 0 48 0 ∷ member "" 0 56 0 ∷ member "y" 0 182 0 ∷ member "x" 0 272 0 ∷ member "y" 0 272 0 ∷ member "y" 0 272 0 ∷ member "y" 0 272 0 ∷ [])
    ∷ DeclTag false (ascii "rcu") 1 9 ∷ [])
    (all 0 ∷ [])
    ((15, 0) ∷ [])
    ""
    ∷ session 4 true  -- 1-174-0
    (Void ∷ Enum true (ascii "x") 3 (value "prebuf" 2 ∷ value "prebuf" 100 ∷ []) ∷ DeclTag false (ascii "packed") 3 4294967295
    ∷ Typedef (ascii "m\"\\\n\t\r\u{1}") 1 ∷ Typedef (ascii "buf") 3 ∷ [])
    (all 66 ∷ [])
    ((17, 45) ∷ [])
    "enum x {\n\tprebuf = 2,\n\tprebuf___2 = 100,\n};\n\n"
    ∷ session 4 false  -- 1-178-1
    (Void ∷ Int (ascii "x___2") 24 ∷ Enum64 false (ascii "_") 4 [] ∷ [])
    (one 8 2 ∷ one 394 1 ∷ one 90 0 ∷ [])
    ((17, 0) ∷ (11, 0) ∷ (11, 0) ∷ [])
    ""
    ∷ session 4 false  -- 1-179-2
    (Void ∷ Int (ascii "__x") 7 ∷ Mod volatile 3 ∷ Composite false (ascii "__x") 1 (member "x" 2 0 8 ∷ []) ∷ [])
    (one 40 4 ∷ one 316 3 ∷ one 0 2 ∷ one 371 1 ∷ [])
    ((10, 0) ∷ (13, 0) ∷ (11, 0) ∷ (11, 0) ∷ [])
    ""
    ∷ session 4 true  -- 1-191-2
    (Void ∷ Int (ascii "flags") 32 ∷ DeclTag false (ascii "a b") 8 4294967295 ∷ Typedef (ascii "priv") 1 ∷ Ptr 1 ∷ Typedef (ascii "u32") 3
    ∷ Composite true (ascii "b") 20 (member "x" 5 0 0 ∷ member "flags" 10 32 0 ∷ []) ∷ Composite true (ascii "x___2") 8 (member "prex" 9 0 0 ∷ [])
    ∷ Composite false (ascii "preflags") 4 (member "s" 3 0 0 ∷ member "priv" 5 0 1 ∷ member "state" 10 0 3 ∷ []) ∷ Array 4 1 ∷ Int (ascii "flags") 128
    ∷ Array 1 16 ∷ [])
    (one 38 6 ∷ one 221 7 ∷ [])
    ((17, 0) ∷ (11, 0) ∷ [])
    ""
    ∷ session 8 false  -- 1-192-0
    (Void ∷ Datasec (ascii "node") ∷ Int (ascii "a") 128 ∷ FuncProto 6 (param "" 8 ∷ []) ∷ DeclTag false (ascii "\\\\") 8 0
    ∷ Composite false (ascii "ops") 16 (member "ops" 2 0 0 ∷ []) ∷ Ptr 8 ∷ DeclTag false (ascii "x") 8 4294967295 ∷ Typedef (ascii "") 0 ∷ [])
    (all 305 ∷ [])
    ((14, 0) ∷ [])
    ""
    ∷ session 4 true  -- 1-193-1
    (Void ∷ Composite true (ascii "__x") 512 (member "x" 3 0 0 ∷ member "x" 2 512 0 ∷ [])
    ∷ Composite true (ascii "") 16 (member "b" 4 8 62 ∷ member "buf" 8 70 4 ∷ [])
    ∷ Composite true (ascii "ops") 65 (member "T" 5 256 0 ∷ member "next" 5 384 0 ∷ member "yx" 6 464 0 ∷ member "buf" 8 505 0 ∷ [])
    ∷ Int (ascii "i128") 128 ∷ Int (ascii "long") 64 ∷ Int (ascii "int") 32 ∷ Int (ascii "short") 16 ∷ Int (ascii "char") 8 ∷ [])
    (one 0 7 ∷ one 217 4 ∷ one 210 2 ∷ one 157 5 ∷ one 4 6 ∷ one 0 8 ∷ one 0 3 ∷ one 0 0 ∷ one 0 1 ∷ [])
    ((0, 0) ∷ (0, 0) ∷ (0, 0) ∷ (0, 0) ∷ (0, 0) ∷ (0, 0) ∷ (17, 0) ∷ (11, 0) ∷ (11, 0) ∷ [])
    ""
    ∷ session 8 false  -- 1-198-0
    (Void ∷ Typedef (ascii "x") 6 ∷ Mod restrict 6 ∷ Composite true (ascii "x") 5 (member "Ax" 2 0 33 ∷ []) ∷ Datasec (ascii "y") ∷ Mod const 0
    ∷ Composite true (ascii "__x") 13 (member "" 7 0 64 ∷ member "" 7 64 3 ∷ member "" 7 67 32 ∷ []) ∷ Composite true (ascii "__x") 0 [] ∷ [])
    (all 274 ∷ [])
    ((0, 162) ∷ [])
    "struct __x {};\n\nstruct __x___2 {\n\tstruct __x: 64;\n\tstruct __x: 3;\n\tstruct __x: 32;\n};\n\ntypedef struct __x___2 x;\n\nstruct x {\n\trestrict struct __x___2 Ax: 33;\n};\n\n"
    ∷ session 8 false  -- 1-200-2
    (Void ∷ Ptr 5 ∷ Int (ascii "int") 32 ∷ Composite true (ascii "s") 8 (member "s" 1 0 0 ∷ []) ∷ Typedef (ascii "x") 5 ∷ Typedef (ascii "") 2
    ∷ Composite true (ascii "s") 16 (member "y" 2 0 0 ∷ member "yx" 1 64 0 ∷ []) ∷ [])
    (one 35 3 ∷ all 475 ∷ [])
    ((0, 35) ∷ (0, 82) ∷ [])
    "typedef int;\n\nstruct s {\n\t *s;\n};\n\ntypedef  x;\n\nstruct s___2 {\n\tint y;\n\t *yx;\n};\n\n"
    ∷ session 4 false  -- 1-201-0
    (Void ∷ Enum true (ascii "y") 1 (value "x" 2147483648 ∷ value "x" 999999999 ∷ value "x" 0 ∷ value "y" 2147483648 ∷ value "x" 2 ∷ [])
    ∷ Func (ascii "x") ∷ Composite true (ascii "y") 24 (member "" 4 0 32 ∷ member "x" 12 32 33 ∷ member "y" 9 80 0 ∷ member "x" 12 96 33 ∷ [])
    ∷ Composite true (ascii "") 56 (member "prey" 1 0 31 ∷ member "y" 1 31 255 ∷ member "" 8 288 0 ∷ member "x" 10 320 64 ∷ member "x" 9 384 3 ∷ member "x" 1 387 1 ∷ member "" 11 400 0 ∷ member "prey" 12 416 0 ∷ [])
    ∷ Enum false (ascii "x") 4 (value "x" 2147483647 ∷ value "x" 1000000000 ∷ [])
    ∷ Enum64 true (ascii "") 4 (value "x" 4294967296 ∷ value "x" 1695792318415634532 ∷ []) ∷ FuncProto 10 (param "" 11 ∷ param "" 0 ∷ [])
    ∷ Composite true (ascii "") 4 (member "y" 1 0 0 ∷ member "y" 1 8 5 ∷ member "prey" 1 16 0 ∷ member "x" 5 24 3 ∷ []) ∷ Typedef (ascii "x") 11
    ∷ Ptr 11 ∷ Enum true (ascii "") 2 [] ∷ Typedef (ascii "y") 8 ∷ [])
    (all 606 ∷ [])
    ((0, 503) ∷ [])
    "enum y {\n\tx = -2147483648,\n\tx___2 = 999999999,\n\tx___3 = 0,\n\ty = -2147483648,\n\tx___4 = 2,\n};\n\nenum x {\n\tx___5 = 2147483647,\n\tx___6 = 1000000000,\n};\n\ntypedef enum x___7;\n\ntypedef struct {\n\tenum y y;\n\tenum y y: 5;\n\tenum y prey;\n\tenum x x: 3;\n} y___2;\n\nstruct y___2 {\n\tstruct {\n\t\tenum y prey: 31;\n\t\tenum y y: 255;\n\t\tstruct {\n\t\t\tenum y y;\n\t\t\tenum y y: 5;\n\t\t\tenum y prey;\n\t\t\tenum x x: 3;\n\t\t};\n\t\tenum *x: 64;\n\t\tx___7 x: 3;\n\t\tenum y x: 1;\n\t\tenum;\n\t\ty___2 prey;\n\t}: 32;\n\ty___2 x: 33;\n\tx___7 y;\n\ty___2 x: 33;\n};\n\n"
    ∷ session 8 true  -- 1-203-2
    (Void ∷ Enum64 false (ascii "y") 4 (value "u32" 4294967296000000010 ∷ value "y" 9223372036854775808 ∷ [])
    ∷ Composite true (ascii "data") 4 (member "y" 22 0 2 ∷ [])
    ∷ Composite true (ascii "x") 16 (member "" 21 0 0 ∷ member "data" 17 0 0 ∷ member "x" 20 64 0 ∷ []) ∷ Ptr 20 ∷ Typedef (ascii "u32") 7
    ∷ Composite true (ascii "data") 24 (member "y" 21 0 0 ∷ member "data" 4 0 0 ∷ member "prey" 20 64 0 ∷ member "node" 4 128 0 ∷ [])
    ∷ Typedef (ascii "u32") 8 ∷ Typedef (ascii "node") 15 ∷ Typedef (ascii "x") 12 ∷ Ptr 13 ∷ Typedef (ascii "y") 12 ∷ Mod restrict 14
    ∷ Int (ascii "y") 32 ∷ Mod volatile 0 ∷ Fwd false (ascii "u32") ∷ DeclTag false (ascii "x") 17 4294967295
    ∷ Composite true (ascii "prey") 8 (member "" 18 0 0 ∷ member "u32" 20 0 0 ∷ []) ∷ Composite true (ascii "data") 0 [] ∷ Fwd false (ascii "u32")
    ∷ Ptr 22 ∷ Composite false (ascii "y") 0 [] ∷ Int (ascii "y") 32 ∷ [])
    (one 179 8 ∷ one 39 4294967295 ∷ one 39 16 ∷ one 59 5 ∷ one 39 4 ∷ one 39 17 ∷ [])
    ((0, 39) ∷ (10, 39) ∷ (0, 39) ∷ (17, 39) ∷ (11, 39) ∷ (11, 39) ∷ [])
    "struct u32;\n\ntypedef struct u32 node;\n\n"
    ∷ session 8 false  -- 1-209-2
    (Void ∷ Int (ascii "int") 32 ∷ Composite true (ascii "x") 8 (member "next" 1 0 0 ∷ []) ∷ FuncProto 6 (param "" 1 ∷ param "" 1 ∷ [])
    ∷ Typedef (ascii "y") 3 ∷ Ptr 4 ∷ Composite true (ascii "y") 8 (member "x" 5 0 0 ∷ []) ∷ [])
    (one 57 3 ∷ all 26169 ∷ one 0 1 ∷ [])
    ((17, 0) ∷ (11, 0) ∷ (11, 0) ∷ [])
    ""
    ∷ session 8 true  -- 1-210-0
    (Void ∷ Composite true (ascii "x") 40 (member "x" 3 49 0 ∷ member "len" 2 113 0 ∷ member "x___2" 1 241 0 ∷ member "x" 3 243 0 ∷ [])
    ∷ Float (ascii "len") 16 ∷ Ptr 4 ∷ FuncProto 2 (param "prea" 5 ∷ param "" 1 ∷ [])
    ∷ Composite true (ascii "") 40 (member "x___2" 1 0 0 ∷ member "a" 3 256 0 ∷ member "s" 1 288 0 ∷ member "" 5 296 0 ∷ []) ∷ [])
    (all 270 ∷ [])
    ((13, 0) ∷ [])
    ""
    ∷ session 8 false  -- 1-219-0
    (Void
    ∷ Composite true (ascii "") 288 (member "y" 9 0 0 ∷ member "x" 12 32 0 ∷ member "prex" 3 96 0 ∷ member "" 10 288 0 ∷ member "x" 3 480 0 ∷ member "" 10 672 0 ∷ member "" 4 864 0 ∷ member "x" 9 1056 0 ∷ member "x" 13 1088 0 ∷ member "x" 10 1152 0 ∷ member "x" 10 1344 0 ∷ member "" 11 1536 0 ∷ member "x" 12 1568 0 ∷ member "" 11 1632 0 ∷ member "" 10 1664 0 ∷ member "y" 11 1856 0 ∷ member "" 11 1888 0 ∷ member "x" 9 1920 0 ∷ member "" 12 1952 0 ∷ member "prex" 3 2016 0 ∷ member "x" 12 2208 0 ∷ member "x" 11 2272 0 ∷ [])
    ∷ FuncProto 8 (param "" 4 ∷ param "" 0 ∷ []) ∷ Typedef (ascii "x") 4 ∷ Composite false (ascii "y") 24 (member "" 10 0 0 ∷ [])
    ∷ Fwd true (ascii "y") ∷ DeclTag true (ascii "x") 3 4294967295 ∷ Mod const 1 ∷ TypeTag false (ascii "") 11 ∷ Int (ascii "y") 32
    ∷ Composite true (ascii "") 24 (member "y" 9 0 0 ∷ member "y" 8 32 0 ∷ member "y" 13 64 0 ∷ member "prex" 12 128 0 ∷ [])
    ∷ Composite true (ascii "") 4 (member "x" 9 0 0 ∷ []) ∷ Composite true (ascii "x") 8 (member "x" 9 0 0 ∷ member "x" 9 32 0 ∷ []) ∷ Ptr 0 ∷ [])
    (all 247 ∷ [])
    ((0, 203) ∷ [])
    "struct x {\n\ty x;\n\ty x;\n};\n\nunion y {\n\tstruct {\n\t\ty y;\n\t\tstruct {\n\t\t\ty x;\n\t\t} __attribute__((btf_type_tag(\"\"))) y;\n\t\tvoid *y;\n\t\tstruct x prex;\n\t};\n};\n\ntypedef union y x __attribute__((x));\n\nunion y___2;\n\n"
    ∷ []
