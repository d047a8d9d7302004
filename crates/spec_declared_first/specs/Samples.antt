-- Two small tables, and what their pieces mention. That both are so is proofs/Samples.
use Rattle.std.specs.Prelude.{ℕ, true, List, [], ◌∷◌}
use Rattle.spec_bytes.specs.text.Text.{ascii}
use Rattle.spec_c_dumper.specs.rules.Machine.{one}
use Rattle.spec_c_dumper.specs.rules.Types.{Void, Int, Ptr, Composite, Typedef, FuncProto, Btf}
use Rattle.spec_c_dumper.specs.rules.Samples.{table, member}
use Rattle.spec_declared_first.specs.Notes.{Mention, Note, notes_of}

-- of each piece: the id of its type, and the ids that it mentions
abbrev pub ids_of : List Mention → List ℕ
ids_of [] = []
ids_of (m ∷ ms) = m.id ∷ ids_of ms

abbrev pub told : List Note → List (ℕ × List ℕ)
told [] = []
told (p ∷ ps) = (p.id, ids_of p.mentions) ∷ told ps

-- 1 int; 2 typedef of 3; 3 a prototype, result 1, parameter 6; 4 a struct with one member of type 5; 5 a pointer to 2; 6 a pointer to 4
abbrev pub prototype : Btf
prototype =
    table (Void ∷ Int (ascii "int") 32 ∷ Typedef (ascii "f") 3 ∷ FuncProto 1 (record { name = ascii "a"; type_id = 6 } ∷ [])
    ∷ Composite true (ascii "s") 8 (member "p" 5 0 ∷ []) ∷ Ptr 2 ∷ Ptr 4 ∷ [])

-- a tag that would first appear inside a prototype has a forward line: 4 comes before 2 mentions it
abbrev pub prototype_notes : List Note
prototype_notes = notes_of prototype (one 65536 2 ∷ one 65536 4 ∷ [])

-- 1 int; 2 typedef of 1 with the builtin name; 3 a struct with one member of type 2
abbrev pub with_builtin : Btf
with_builtin =
    table (Void ∷ Int (ascii "int") 32 ∷ Typedef (ascii "__builtin_va_list") 1 ∷ Composite true (ascii "s") 4 (member "a" 2 0 ∷ []) ∷ [])

-- why the builtin name is left out: 2 is mentioned, and its own line is empty
abbrev pub builtin_notes : List Note
builtin_notes = notes_of with_builtin (one 65536 3 ∷ [])
