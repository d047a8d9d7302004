-- What makes opening linear in the mode of names apart. Statement only; proofs/Spare.antt has the proof.
use Rattle.std.specs.Prelude.{ℕ, ◌≡◌, true, List, replicate}
use Rattle.btf_open_causes.specs.header.Header.{btf_of}
use Rattle.btf_open_names.specs.filled_work.Left.{filled}
use Rattle.spec_opening.specs.Table.{types_of, enumerators_of, index_of}
use Rattle.spec_opening.specs.Causes.{opening_number}
use Rattle.btf_open_names.specs.hash_table.Hashed.{has_room}

-- of every section that opening accepts, with work of n bytes: where the lists of taken numbers are made, both words of the table are 0, so
-- that each base is found by it and never by a walk over all holders
abbrev pub AlwaysRoom : Type 0
AlwaysRoom =
    (p modes : ℕ) (s : List ℕ) (n : ℕ)
    → opening_number p s n ≡ 0
    → has_room (btf_of s p modes (types_of s)).types (enumerators_of s)
    (filled (btf_of s p modes (types_of s)) s (index_of s) (enumerators_of s) (replicate n 0)) ≡ true
