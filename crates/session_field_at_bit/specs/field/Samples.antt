-- A small table, and the paths of some of its bits: each beside what the definitions give. That they are equal is `samples_hold` of
-- proofs/Samples.
use Rattle.std.specs.Prelude.{ℕ, true, false, List, [], ◌∷◌}
use Rattle.spec_c_dumper.specs.rules.Writer.{Ask, got, no}
use Rattle.spec_c_dumper.specs.rules.Types.{Member, Void, Int, Array, Composite, Typedef, Mod, const, Btf}
use Rattle.spec_c_dumper.specs.rules.Listed.{listed}
use Rattle.session_field_at_bit.specs.step.Path.{field_path}

abbrev pub member : ℕ → ℕ → Member
member t offset = record { name = []; type_id = t; bit_offset = offset; bit_size = 0 }

abbrev pub bits : ℕ → ℕ → ℕ → Member
bits t offset width = record { name = []; type_id = t; bit_offset = offset; bit_size = width }

-- 1 int, 2 char; 3 struct in { char; int }, 4 in[2], 5 in[3][2], 6 a typedef of it, 7 that one const; 8 union { int; struct in };
-- 9 struct { int: 3; int: 5; 7; 8; int }; 10 a struct holding itself; 11 char[536870912]; 12 struct { int; 11 }
abbrev pub table : Btf
table =
    listed 8 false
    (Void
    ∷ Int [] 32
    ∷ Int [] 8
    ∷ Composite true [] 8 (member 2 0 ∷ member 1 32 ∷ [])
    ∷ Array 3 2
    ∷ Array 4 3
    ∷ Typedef [] 5
    ∷ Mod const 6
    ∷ Composite false [] 8 (member 1 0 ∷ member 3 0 ∷ [])
    ∷ Composite true [] 80 (bits 1 0 3 ∷ bits 1 3 5 ∷ member 7 32 ∷ member 8 416 ∷ member 1 480 ∷ [])
    ∷ Composite true [] 4 (member 10 0 ∷ [])
    ∷ Array 2 536870912
    ∷ Composite true [] 4 (member 1 0 ∷ member 11 32 ∷ [])
    ∷ [])

pub record Sample : Type 0 where
  pub is : Ask (List ℕ)
  pub wanted : Ask (List ℕ)

abbrev pub at : ℕ → ℕ → Ask (List ℕ) → Sample
at id bit w = record { is = field_path table id bit; wanted = w }

abbrev pub samples : List Sample
samples =
    at 9 2 (got (0 ∷ []))
    ∷ at 9 3 (got (1 ∷ []))
    -- a gap of the composite itself, and one of a struct inside, which the place of the array covers
    ∷ at 9 8 (no 21)
    ∷ at 9 40 (got (2 ∷ 0 ∷ 0 ∷ []))
    -- arrays behind a qualifier and a typedef
    ∷ at 9 32 (got (2 ∷ 0 ∷ 0 ∷ 0 ∷ []))
    ∷ at 9 64 (got (2 ∷ 0 ∷ 0 ∷ 1 ∷ []))
    ∷ at 9 415 (got (2 ∷ 2 ∷ 1 ∷ 1 ∷ []))
    -- a union: the first that covers the bit
    ∷ at 9 424 (got (3 ∷ 0 ∷ []))
    ∷ at 9 448 (got (3 ∷ 1 ∷ 1 ∷ []))
    ∷ at 9 512 (no 21)
    -- no composite; over 512 entries; no later member is tried, a member's end is asked before it
    ∷ at 7 0 (no 21)
    ∷ at 10 0 (no 12)
    ∷ at 12 0 (got (0 ∷ []))
    ∷ at 12 32 (no 16)
    ∷ []

abbrev pub all_given : List Sample → List (Ask (List ℕ))
all_given [] = []
all_given (s ∷ ss) = s.is ∷ all_given ss

abbrev pub all_wanted : List Sample → List (Ask (List ℕ))
all_wanted [] = []
all_wanted (s ∷ ss) = s.wanted ∷ all_wanted ss
