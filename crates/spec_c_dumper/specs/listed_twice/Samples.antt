-- The smallest table with a typedef that the Rust lists twice. That both sides of each sample are equal is proofs/Samples.
use Rattle.std.specs.Prelude.{ℕ, List, [], ◌∷◌, replicate, true, false}
use Rattle.spec_bytes.specs.text.Text.{ascii}
use Rattle.spec_c_dumper.specs.rules.Order.{new, Res, ok, refused, order}
use Rattle.spec_c_dumper.specs.rules.Machine.{one}
use Rattle.spec_c_dumper.specs.rules.Types.{Void, Int, Ptr, Composite, Typedef, FuncProto, Btf, table_of}
use Rattle.spec_c_dumper.specs.rules.Samples.{table, member, Lists, lists, Sample, gives}
use Rattle.spec_c_dumper.specs.needs.Session.{dump_types, printed}
use Rattle.spec_c_dumper.specs.listed_twice.Twice.{order_twice, dump_types_twice}

-- 1 int; 2 typedef of 3; 3 a prototype, result 1, parameter 4; 4 a struct with one member of type 5; 5 a pointer to 2
abbrev pub typedef_twice : Btf
typedef_twice =
    table (Void ∷ Int (ascii "int") 32 ∷ Typedef (ascii "f") 3 ∷ FuncProto 1 (record { name = ascii "a"; type_id = 4 } ∷ [])
    ∷ Composite true (ascii "s") 8 (member "p" 5 0 ∷ []) ∷ Ptr 2 ∷ [])

abbrev pub list_of : Res Lists → List ℕ
list_of (ok s b) = s.order_list
list_of (refused e) = []

abbrev pub unmarked : Lists
unmarked = record { marks = replicate 6 new; order_list = [] }

-- what a request for 2 lists: by the Rust's rule 2, 4, 2; by the short one 2, 4
abbrev pub listed_twice : List ℕ
listed_twice = list_of (order_twice lists 512 (table_of typedef_twice) unmarked 2 false)

abbrev pub listed_once : List ℕ
listed_once = list_of (order lists 512 (table_of typedef_twice) unmarked 2 false)

-- and what is printed for it
abbrev pub printed_twice : List Sample
printed_twice =
    gives (printed (dump_types_twice typedef_twice (one 65536 2 ∷ [])))
    "struct s;\n\ntypedef int f(struct s a);\n\nstruct s {\n\tf *p;\n};\n\n"
    ∷ gives (printed (dump_types typedef_twice (one 65536 2 ∷ []))) "struct s;\n\ntypedef int f(struct s a);\n\nstruct s {\n\tf *p;\n};\n\n"
    ∷ []
