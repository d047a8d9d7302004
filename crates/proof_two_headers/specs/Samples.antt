-- Small tables, and what two sessions over one ledger print of them and answer. That they do is proofs/Samples.
use Rattle.std.specs.Prelude.{ℕ, true, false, List, [], ◌∷◌}
use Rattle.spec_bytes.specs.text.Text.{ascii}
use Rattle.spec_c_dumper.specs.rules.Machine.{one, all}
use Rattle.spec_c_dumper.specs.rules.Types.{Void, Int, Ptr, Composite, Enum, Typedef, Btf}
use Rattle.spec_c_dumper.specs.rules.Samples.{Sample, gives, table, member}
use Rattle.proof_two_headers.specs.Calls.{Lengths, Side, kernel, module', Call, opens, asks, World, called, calls, header_of, new_world}

-- struct x, struct y
abbrev pub tags : Btf
tags = table (Void ∷ Composite true (ascii "x") 0 [] ∷ Composite true (ascii "y") 0 [] ∷ [])

-- what a call is lent, with a ledger of so many words
abbrev pub words : ℕ → Lengths
words n = record { section = 0; work = 0; ledger = n }

-- 4 entries
abbrev pub usual : Lengths
usual = words 48

-- the header of a side after calls over a new ledger
abbrev pub header : Side → List Call → List ℕ
header d cs = header_of (calls (λ e. tags) new_world cs) d

unfoldable pub numbers_from : Btf → World → List Call → List ℕ
numbers_from B W [] = []
numbers_from B W (c ∷ cs) = (called (λ e. B) W c).number ∷ numbers_from B (called (λ e. B) W c).world cs

abbrev pub answers : List Call → List ℕ → Sample
answers cs ns = record { is = numbers_from tags new_world cs; wanted = ns }

-- struct x twice, and one whose own name is x___2
abbrev pub trio : Btf
trio = table (Void ∷ Composite true (ascii "x") 0 [] ∷ Composite true (ascii "x") 0 [] ∷ Composite true (ascii "x___2") 0 [] ∷ [])

-- the kernel asks for the first two, the module for the third
abbrev pub trio_header : Side → List ℕ
trio_header d =
    header_of (calls (λ e. trio) new_world
    (opens kernel 0 usual 2 ∷ opens module' 0 usual 1 ∷ asks kernel usual (one 100 1) ∷ asks kernel usual (one 100 2)
    ∷ asks module' usual (one 100 3) ∷ [])) d

-- typedef t, enum e with the value a, a struct s with a pointer to itself
abbrev pub others : Btf
others = table (
    Void
    ∷ Int (ascii "int") 32
    ∷ Typedef (ascii "t") 1
    ∷ Enum false (ascii "e") 4 (record { name = ascii "a"; value = 0 } ∷ [])
    ∷ Composite true (ascii "s") 8 (member "p" 5 0 ∷ [])
    ∷ Ptr 4
    ∷ [])

-- the number that the request for an id gets, with a reserve and a room
abbrev pub first : ℕ → ℕ → ℕ → ℕ → Sample
first reserve room id n =
    record { is = numbers_from others new_world (opens kernel 0 usual reserve ∷ asks kernel usual (one room id) ∷ []); wanted = 0 ∷ n ∷ [] }

-- both ask for everything, in turn
abbrev pub in_turn : ℕ → ℕ → List Call
in_turn m n =
    opens kernel 0 usual m ∷ opens module' 0 usual n ∷ asks kernel usual (one 100 1) ∷ asks module' usual (all 100)
    ∷ asks kernel usual (one 100 2) ∷ []

abbrev pub shared_samples : List Sample
shared_samples =
    -- struct x is the kernel's first, y the module's
    gives (header kernel (in_turn 2 2)) "struct x {};\n\nstruct y___2 {};\n\n"
    ∷ gives (header module' (in_turn 2 2)) "struct x___2 {};\n\nstruct y {};\n\n"
    ∷ answers (in_turn 2 2) (0 ∷ 0 ∷ 0 ∷ 0 ∷ 0 ∷ [])
    -- a name that has an entry is charged to nobody again: one entry each is enough
    ∷ answers (in_turn 1 1) (0 ∷ 0 ∷ 0 ∷ 0 ∷ 0 ∷ [])
    -- y is the kernel's second new name
    ∷ answers (opens kernel 0 usual 1 ∷ asks kernel usual (all 100) ∷ asks kernel usual (one 100 1) ∷ []) (0 ∷ 20 ∷ 11 ∷ [])
    -- 20 closes that session only; what it printed before stays
    ∷ gives (header kernel (opens kernel 0 usual 1 ∷ asks kernel usual (all 100) ∷ [])) "struct x {};\n\n"
    ∷ answers (opens kernel 0 usual 1 ∷ opens module' 0 usual 2 ∷ asks kernel usual (all 100) ∷ asks module' usual (all 100) ∷ [])
    (0 ∷ 0 ∷ 20 ∷ 0 ∷ [])
    -- 20 comes before 17 of the print that uses the name, and after 17 of a print before it
    ∷ answers (opens kernel 0 usual 0 ∷ asks kernel usual (one 0 1) ∷ []) (0 ∷ 20 ∷ [])
    ∷ answers (opens kernel 0 usual 1 ∷ asks kernel usual (one 0 1) ∷ []) (0 ∷ 17 ∷ [])
    ∷ answers (opens kernel 0 usual 1 ∷ asks kernel usual (all 12) ∷ []) (0 ∷ 17 ∷ [])
    ∷ first 0 0 2 20
    ∷ first 1 0 2 17
    ∷ first 0 0 3 20
    -- the value's name comes after the 8 bytes of `enum e {`, before the line that has it
    ∷ first 1 7 3 17
    ∷ first 1 8 3 20
    ∷ first 2 8 3 17
    ∷ first 2 100 3 0
    -- a type takes its name once
    ∷ first 1 100 4 0
    -- the names that a refused request took stay
    ∷ gives
    (header module' (opens kernel 0 usual 1 ∷ opens module' 0 usual 3 ∷ asks kernel usual (one 0 1) ∷ asks module' usual (all 100) ∷ []))
    "struct x___2 {};\n\nstruct y {};\n\n"
    -- and no more than these: `enum e {` has no room, so the value's name is not taken
    ∷ gives
    (header_of (calls (λ d. others) new_world (opens kernel 0 usual 2 ∷ opens module' 0 usual 2 ∷ asks kernel usual (one 7 3)
    ∷ asks module' usual (one 100 3) ∷ [])) module')
    "enum e___2 {\n\ta = 0,\n};\n\n"
    -- different names may be spelled alike, in two headers as in one: a suffix yields the other's own name
    ∷ gives (trio_header kernel) "struct x {};\n\nstruct x___2 {};\n\n"
    ∷ gives (trio_header module') "struct x___2 {};\n\n"
    -- another cause of opening comes before 9 for the ledger, and leaves all as it was
    ∷ answers (opens kernel 7 usual 5 ∷ opens kernel 0 usual 5 ∷ opens kernel 0 usual 4 ∷ []) (7 ∷ 9 ∷ 0 ∷ [])
    -- a third session; too few entries left; another length
    ∷ answers (opens kernel 0 usual 1 ∷ opens module' 0 usual 1 ∷ opens kernel 0 usual 1 ∷ []) (0 ∷ 0 ∷ 9 ∷ [])
    ∷ answers (opens kernel 0 usual 3 ∷ opens module' 0 usual 2 ∷ opens module' 0 usual 1 ∷ []) (0 ∷ 9 ∷ 0 ∷ [])
    ∷ answers (opens kernel 0 usual 3 ∷ asks kernel (words 56) (all 100) ∷ asks kernel usual (all 100) ∷ []) (0 ∷ 11 ∷ 0 ∷ [])
    -- each is held to the length at its own opening
    ∷ answers
    (opens kernel 0 usual 2 ∷ opens module' 0 (words 56) 3 ∷ asks kernel (words 56) (all 100) ∷ asks module' usual (all 100)
    ∷ asks kernel usual (one 100 1) ∷ asks module' (words 56) (one 100 1) ∷ []) (0 ∷ 0 ∷ 11 ∷ 11 ∷ 0 ∷ 0 ∷ [])
    -- a text slice shorter than the text held, which has 14 bytes; another section; closed
    ∷ answers
    (opens kernel 0 usual 3 ∷ asks kernel usual (one 100 1) ∷ asks kernel usual (one 13 2) ∷ asks kernel usual (one 14 2) ∷ [])
    (0 ∷ 0 ∷ 11 ∷ 17 ∷ [])
    ∷ answers
    (opens kernel 0 usual 3 ∷ asks kernel (record { section = 1; work = 0; ledger = 48 }) (all 100) ∷ asks module' (words 0) (all 100) ∷ [])
    (0 ∷ 11 ∷ 11 ∷ [])
    ∷ record { is = numbers_from tags new_world (opens kernel 0 (words 15) 0 ∷ []); wanted = 9 ∷ [] }
    ∷ record { is = numbers_from tags new_world (opens kernel 0 (words 16) 0 ∷ []); wanted = 0 ∷ [] }
    ∷ []
