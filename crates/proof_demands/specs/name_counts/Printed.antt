-- The Rust's ledger after a list of names, against counting in the list.
use Rattle.std.specs.Prelude.{ℕ, suc, true, false, ◌&&◌, List, [], ◌∷◌}
use Rattle.spec_c_dumper.specs.rules.Types.{Name}
use Rattle.spec_c_dumper.specs.rules.Names.{Space, Holder, same_space, same_bytes, with_one}

-- the ledger after each name of a list got one more holder, the last of the list first
unfoldable pub ledger_of : List (Space × Name) → List Holder
ledger_of [] = []
ledger_of (p ∷ l) = with_one (ledger_of l) p.0 p.1

-- how many of a list have this space and these bytes
unfoldable pub times : Space → Name → List (Space × Name) → ℕ
times space name [] = 0
times space name (p ∷ l) =
    elim (same_space p.0 space && same_bytes p.1 name) [ true ↦ suc (times space name l) | false ↦ times space name l ]
