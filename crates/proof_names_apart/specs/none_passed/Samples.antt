-- A table with x, x and x___2: its names are not without suffixes, but a session passes a number over only once both x are printed.
use Rattle.std.specs.Prelude.{ℕ, List, [], ◌∷◌}
use Rattle.spec_c_dumper.specs.rules.Machine.{Req, one, all}
use Rattle.spec_c_dumper.specs.needs.Session.{Dump, dump}
use Rattle.spec_c_dumper.specs.names_apart.Samples.{twice}
use Rattle.proof_names_apart.specs.none_passed.Watched.{passed_over, dump_watched}

-- the numbers of a session
abbrev pub numbers_in : Dump → List ℕ
numbers_in (dump ns t) = firsts ns
  where
    firsts : List (ℕ × ℕ) → List ℕ
    firsts [] = []
    firsts (n ∷ ns) = n.0 ∷ firsts ns

-- the second x and x___2
abbrev pub not_both : List Req
not_both = one 65536 2 ∷ one 65536 3 ∷ []

-- and then the first
abbrev pub both : List Req
both = one 65536 2 ∷ one 65536 3 ∷ one 65536 1 ∷ []

abbrev pub seen : List (List ℕ)
seen =
    numbers_in (dump_watched twice not_both) ∷ numbers_in (dump_watched twice both) ∷ numbers_in (dump_watched twice (all 65536 ∷ [])) ∷ []

abbrev pub wanted : List (List ℕ)
wanted = (0 ∷ 0 ∷ []) ∷ (0 ∷ 0 ∷ passed_over ∷ []) ∷ (passed_over ∷ []) ∷ []
