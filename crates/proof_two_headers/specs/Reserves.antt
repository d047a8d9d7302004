-- "The program reserves for every name." Statement only; proofs/Reserves.antt has the proof, which assumes nothing.
use Rattle.std.specs.Prelude.{ℕ, ◌+◌, ◌≤◌, ◌≡◌, List, length}
use Rattle.spec_c_dumper.specs.rules.Types.{Btf, table_of}
use Rattle.spec_c_dumper.specs.rules.Names.{tag_space, ident_space}
use Rattle.spec_c_dumper.specs.needs.Needs.{WF}
use Rattle.spec_c_dumper.specs.names_apart.Naming.{table_names}
use Rattle.spec_c_dumper.specs.names_apart.Apart.{Ends}
use Rattle.proof_two_headers.specs.Shared.{account}
use Rattle.proof_two_headers.specs.Calls.{Side, Call, asks, Lengths, part_of, called, calls, new_world}
use Rattle.spec_c_dumper.specs.rules.Machine.{Req}

-- the names of the table: one of each composite, enum, forward and typedef, and one of each enumerator, as often as they come
abbrev pub names_count : Btf → ℕ
names_count B = length (table_names B tag_space) + length (table_names B ident_space)

-- THE CLAIM, of either side and every list of calls: a session that reserved at least as many entries as its table has names never answers
-- 20, whatever its partner did; the table is one that ends, as each that opening makes
abbrev pub Claim : Type 0
Claim =
    (B : Side → Btf) (d : Side) → WF (table_of (B d)) → Ends (B d) → (cs : List Call)
    → names_count (B d) ≤ (account (calls B new_world cs).ledger (part_of (calls B new_world cs) d).number).reserve
    → (l : Lengths) (r : Req) → (called B (calls B new_world cs) (asks d l r)).number ≡ 20 → ⊥
