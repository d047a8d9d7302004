-- Entries of small tables: what a request comes to, beside what is wanted. That both are equal is proofs/Samples.
use Rattle.std.specs.Prelude.{ℕ, true, false, List, [], ◌∷◌, replicate}
use Rattle.spec_bytes.specs.text.Text.{ascii}
use Rattle.spec_c_dumper.specs.rules.Types.{Void, Int, Ptr, Composite, Fwd, Typedef, FuncProto, Btf, table_of}
use Rattle.spec_c_dumper.specs.rules.Names.{Names}
use Rattle.spec_c_dumper.specs.rules.Samples.{table, member}
use Rattle.spec_c_dumper.specs.needs.Lists.{Ls}
use Rattle.spec_c_dumper.specs.needs.Session.{Known, text_of, machine, opened}
use Rattle.spec_c_dumper.specs.origins.Causes.{Entry, shows_in, up_to, Explaining, untold, single_traced, every_traced, one_causes}

abbrev pub words : List Entry → List ℕ
words [] = []
words (e ∷ es) = e.id ∷ e.cause ∷ e.leader ∷ words es

-- the number, and the entries
abbrev pub told : Explaining (Ls (Known Names)) → List ℕ
told t = t.answer.number ∷ words t.entries

-- a request for x, and for all ids, with a list of c entries
abbrev pub one : Btf → ℕ → ℕ → Explaining (Ls (Known Names))
one B c x = single_traced (machine B) (table_of B) (up_to c) (shows_in B) 65536 x (untold (opened B))

abbrev pub all : Btf → ℕ → Explaining (Ls (Known Names))
all B c = every_traced (machine B) (table_of B) (up_to c) (shows_in B) 65536 (opened B) true

abbrev pub text : Explaining (Ls (Known Names)) → List ℕ
text t = text_of t.answer.sess.mach.pieces

-- 1 int; 2 typedef T; 3 a pointer to it; 4 struct Q; 5 a pointer to it; 6 struct S with both pointers
abbrev pub early_typedef : Btf
early_typedef =
    table (Void ∷ Int (ascii "int") 32 ∷ Typedef (ascii "T") 1 ∷ Ptr 2 ∷ Composite true (ascii "Q") 4 (member "a" 1 0 ∷ []) ∷ Ptr 4
    ∷ Composite true (ascii "S") 24 (member "q" 5 0 ∷ member "p" 3 64 ∷ member "i" 1 128 ∷ []) ∷ [])

-- 1 struct S with a pointer to its own typedef, 2
abbrev pub own_typedef : Btf
own_typedef = table (Void ∷ Composite true (ascii "S") 8 (member "p" 3 0 ∷ []) ∷ Typedef (ascii "T") 1 ∷ Ptr 2 ∷ [])

-- 1 struct A with a struct B; 2 struct B with a pointer to A
abbrev pub each_other : Btf
each_other =
    table (Void ∷ Composite true (ascii "A") 8 (member "b" 2 0 ∷ []) ∷ Composite true (ascii "B") 8 (member "a" 3 0 ∷ []) ∷ Ptr 1 ∷ [])

-- 2 a typedef that is met again inside itself, behind struct 4
abbrev pub listed_inside : Btf
listed_inside =
    table (Void ∷ Int (ascii "int") 32 ∷ Typedef (ascii "T") 3
    ∷ FuncProto 1 (record { name = []; type_id = 1 } ∷ record { name = []; type_id = 4 } ∷ [])
    ∷ Composite true (ascii "S") 8 (member "p" 5 0 ∷ []) ∷ Ptr 2 ∷ [])

-- 1 a FWD without a name, behind a pointer
abbrev pub nameless_fwd : Btf
nameless_fwd = table (Void ∷ Fwd false [] ∷ Ptr 1 ∷ Composite true (ascii "S") 8 (member "p" 2 0 ∷ []) ∷ [])

-- 2 a struct, or a typedef, whose name contains the builtin one; and 3 with a member of it, or a pointer to the struct
abbrev pub builtin_struct : Btf
builtin_struct =
    table (Void ∷ Int (ascii "int") 32 ∷ Composite true (ascii "x__builtin_va_list_y") 4 (member "a" 1 0 ∷ [])
    ∷ Composite true (ascii "S") 4 (member "m" 2 0 ∷ []) ∷ [])

abbrev pub builtin_typedef : Btf
builtin_typedef =
    table (Void ∷ Int (ascii "int") 32 ∷ Typedef (ascii "__builtin_va_list") 1 ∷ Composite true (ascii "S") 4 (member "m" 2 0 ∷ []) ∷ [])

abbrev pub builtin_pointer : Btf
builtin_pointer =
    table (Void ∷ Int (ascii "int") 32 ∷ Composite true (ascii "__builtin_va_list") 4 (member "a" 1 0 ∷ [])
    ∷ Composite true (ascii "S") 8 (member "m" 4 0 ∷ []) ∷ Ptr 2 ∷ [])

abbrev pub given : List (List ℕ)
given =
    told (one early_typedef 3 6) ∷ text (one early_typedef 3 6)
    ∷ told (one early_typedef 2 6) ∷ text (one early_typedef 2 6)
    ∷ told (one own_typedef 9 1) ∷ text (one own_typedef 9 1)
    ∷ told (one own_typedef 9 2)
    ∷ told (all each_other 9) ∷ text (all each_other 9)
    ∷ told (one listed_inside 9 2) ∷ text (one listed_inside 9 2)
    ∷ told (one nameless_fwd 9 3) ∷ text (one nameless_fwd 9 3)
    ∷ told (one builtin_struct 9 3) ∷ text (one builtin_struct 9 3)
    ∷ told (one builtin_typedef 9 3) ∷ text (one builtin_typedef 9 3)
    ∷ told (one builtin_pointer 9 3) ∷ text (one builtin_pointer 9 3)
    ∷ (one_causes (machine nameless_fwd) (table_of nameless_fwd) (shows_in nameless_fwd)
    (replicate 26 7) 65536 (opened nameless_fwd) 3).list
    ∷ []

abbrev pub wanted : List (List ℕ)
wanted =
    (0 ∷ 4 ∷ 2 ∷ 6 ∷ 2 ∷ 3 ∷ 6 ∷ 6 ∷ 0 ∷ 6 ∷ [])
    ∷ ascii "struct Q;\n\ntypedef int T;\n\nstruct S {\n\tstruct Q *q;\n\tT *p;\n\tint i;\n};\n\n"
    ∷ (17 ∷ []) ∷ []
    ∷ (0 ∷ 1 ∷ 2 ∷ 2 ∷ 2 ∷ 3 ∷ 1 ∷ 1 ∷ 0 ∷ 1 ∷ []) ∷ ascii "struct S;\n\ntypedef struct S T;\n\nstruct S {\n\tT *p;\n};\n\n"
    ∷ (0 ∷ 1 ∷ 2 ∷ 2 ∷ 2 ∷ 3 ∷ 1 ∷ 1 ∷ 1 ∷ 2 ∷ [])
    ∷ (0 ∷ 1 ∷ 2 ∷ 2 ∷ 2 ∷ 1 ∷ 1 ∷ 1 ∷ 0 ∷ 1 ∷ [])
    ∷ ascii "struct A;\n\nstruct B {\n\tstruct A *a;\n};\n\nstruct A {\n\tstruct B b;\n};\n\n"
    ∷ (0 ∷ 4 ∷ 2 ∷ 2 ∷ 2 ∷ 0 ∷ 2 ∷ 4 ∷ 1 ∷ 2 ∷ []) ∷ ascii "struct S;\n\ntypedef int T(int, struct S);\n\nstruct S {\n\tT *p;\n};\n\n"
    ∷ (0 ∷ 1 ∷ 2 ∷ 3 ∷ 3 ∷ 0 ∷ 3 ∷ []) ∷ ascii "struct ;\n\nstruct S {\n\tstruct  *p;\n};\n\n"
    ∷ (0 ∷ 2 ∷ 1 ∷ 3 ∷ 3 ∷ 0 ∷ 3 ∷ []) ∷ ascii ";\n\nstruct S {\n\t m;\n};\n\n"
    ∷ (0 ∷ 3 ∷ 0 ∷ 3 ∷ []) ∷ ascii "struct S {\n\t__builtin_va_list m;\n};\n\n"
    ∷ (0 ∷ 3 ∷ 0 ∷ 3 ∷ []) ∷ ascii "struct S {\n\t *m;\n};\n\n"
    ∷ (1 ∷ 0 ∷ 0 ∷ 0 ∷ 2 ∷ 0 ∷ 0 ∷ 0 ∷ 3 ∷ 0 ∷ 0 ∷ 0 ∷ 3 ∷ 0 ∷ 0 ∷ 0 ∷ 0 ∷ 0 ∷ 0 ∷ 0 ∷ 3 ∷ 0 ∷ 0 ∷ 0 ∷ 0 ∷ 0 ∷ [])
    ∷ []
