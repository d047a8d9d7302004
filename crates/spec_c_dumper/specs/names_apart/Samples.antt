-- Small tables, and what the new mode prints of them. That it does is proofs/Samples.
use Rattle.std.specs.Prelude.{ℕ, true, false, List, [], ◌∷◌}
use Rattle.spec_bytes.specs.text.Text.{ascii}
use Rattle.spec_c_dumper.specs.rules.Machine.{all}
use Rattle.spec_c_dumper.specs.rules.Types.{Void, Int, Composite, Enum, Typedef, Btf}
use Rattle.spec_c_dumper.specs.rules.Samples.{Sample, gives, table, three_of_x}
use Rattle.spec_c_dumper.specs.needs.Session.{printed, program}
use Rattle.spec_c_dumper.specs.names_apart.Apart.{dump_apart}

-- "A table with x, x and x___2 prints the same name twice."
abbrev pub twice : Btf
twice = table (Void ∷ Composite true (ascii "x") 0 [] ∷ Composite true (ascii "x") 0 [] ∷ Composite true (ascii "x___2") 0 [] ∷ [])

-- the same of typedefs, and one more x
abbrev pub aliases : Btf
aliases =
    table (Void ∷ Int (ascii "int") 32 ∷ Typedef (ascii "x") 1 ∷ Typedef (ascii "x") 1 ∷ Typedef (ascii "x___2") 1
    ∷ Typedef (ascii "x") 1 ∷ [])

-- a typedef x and enumerators x, x___2, x; tags are apart from them
abbrev pub values : Btf
values = table (
    Void
    ∷ Int (ascii "int") 32
    ∷ Typedef (ascii "x") 1
    ∷ Enum false (ascii "x___2") 4 (record { name = ascii "x"; value = 0 } ∷ record { name = ascii "x___2"; value = 1 }
    ∷ record { name = ascii "x"; value = 2 } ∷ [])
    ∷ [])

abbrev pub program_apart : Btf → List ℕ
program_apart B = printed (dump_apart B (all 65536 ∷ []))

abbrev pub programs_apart : List Sample
programs_apart =
    gives (program twice) "struct x {};\n\nstruct x___2 {};\n\nstruct x___2 {};\n\n"
    ∷ gives (program_apart twice) "struct x {};\n\nstruct x___3 {};\n\nstruct x___2 {};\n\n"
    ∷ gives (program_apart aliases) "typedef int x;\n\ntypedef int x___3;\n\ntypedef int x___2;\n\ntypedef int x___4;\n\n"
    ∷ gives (program_apart values) "typedef int x;\n\nenum x___2 {\n\tx___3 = 0,\n\tx___2 = 1,\n\tx___4 = 2,\n};\n\n"
    ∷ gives (program_apart three_of_x) "typedef int x;\n\ntypedef int x___2;\n\ntypedef int x___3;\n\n"
    ∷ []
