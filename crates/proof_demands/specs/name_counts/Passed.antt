-- Names with a list of taken numbers for each name: a holder's number follows from its count and from that list. Without taken numbers they
-- are the names of the Rust; with those that `proof_names_apart::passed_numbers` says they are names that cannot collide.
use Rattle.std.specs.Prelude.{ℕ, true, false, List, [], get_or, set, eqb}
use Rattle.spec_bytes.specs.words.Words.{one_more}
use Rattle.spec_c_dumper.specs.rules.Types.{Name}
use Rattle.spec_c_dumper.specs.rules.Names.{Space, ident_space, Resolved, Naming, Names, holders, with_one}
use Rattle.spec_type_table.specs.Numbers.{number_over}

-- the taken numbers of each name of each space
abbrev pub Lists : Type 0
Lists = Space → Name → List ℕ

-- the number that the next holder of a name gets
abbrev pub next_number : Lists → Space → Name → Names → ℕ
next_number T space name u = number_over (T space name) (one_more (holders u.ledger space name))

-- a type that has a number keeps it
unfoldable pub type_passed : Lists → Space → ℕ → Name → Names → Resolved Names
type_passed T space id name u =
    elim (eqb (get_or u.versions id 0) 0) [
      | false ↦ record { passes = false; version = get_or u.versions id 0; names = u }
      | true ↦ record {
        passes = false;
        version = next_number T space name u;
        names = record { versions = set u.versions id (next_number T space name u); ledger = with_one u.ledger space name };
      }
    ]

-- an enumerator is one more holder each time it is printed
unfoldable pub value_passed : Lists → Name → Names → Resolved Names
value_passed T name u = record {
  passes = false;
  version = next_number T ident_space name u;
  names = record { versions = u.versions; ledger = with_one u.ledger ident_space name };
}

abbrev pub passed : Lists → Naming Names
passed T = record { type_version = type_passed T; value_version = λ id i name u. value_passed T name u; leaving = λ held u. u }

-- no number is taken: the names of the Rust
abbrev pub none : Lists
none space name = []
