-- What is left of a chain of n entries once the one on top is printed.
use Rattle.std.specs.Prelude.{ℕ, ◌≡◌, ◌≤◌, ◌-◌, true, false, Option, Some, None, List}
use Rattle.spec_c_dumper.specs.rules.Decl.{Entry}
use Rattle.c_dumper_bodies.specs.bodies.Pieces.{entry_left, entry_star, entry_named}
use Rattle.c_dumper_declarator.specs.declared.declarations.Rest.{Rest}

-- chain: the entries up to each place; nothing is left where the declared name was printed too
abbrev pub RestIs : (ℕ → List Entry) → ℕ → Option Rest → Type 0
RestIs chain n None = entry_named (chain n) ≡ true
RestIs chain n (Some r) =
    (chain r.n ≡ entry_left (chain n)) × (r.last_was_ptr ≡ entry_star (chain n)) × (entry_named (chain n) ≡ false) × (r.n ≤ n - 1)
