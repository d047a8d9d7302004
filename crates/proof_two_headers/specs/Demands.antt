-- "The third demand then also takes the shared ledger to be lent as the last call of either session left it; its pieces are named from the
-- ledger as each request finds it." Statement only; proofs/Demands.antt has the proof, which assumes nothing.
use Rattle.std.specs.Prelude.{List}
use Rattle.spec_c_dumper.specs.rules.Types.{Btf, table_of}
use Rattle.spec_c_dumper.specs.needs.Needs.{WF}
use Rattle.spec_c_dumper.specs.needs.Bodies.{PiecesAre}
use Rattle.spec_c_dumper.specs.needs.Demand.{Demand3}
use Rattle.spec_c_dumper.specs.needs.Session.{machine_by}
use Rattle.proof_two_headers.specs.Shared.{sharing}
use Rattle.proof_two_headers.specs.Calls.{Part, Side, Call, World, part_of, lent, calls, new_world}

-- of a side's session, with the ledger as it is lent to its next request
pub record Third (B : Btf) (W : World) (p : Part) : Type 0 where
  pub demand3 : Demand3 (machine_by (sharing p.number) B) (table_of B) (lent W.ledger p.sess)
  pub pieces : PiecesAre (sharing p.number) B p.sess.mach.pieces

-- THE CLAIM, of every two tables and every list of calls, whatever lengths they lend: after 17 and 20 too
abbrev pub Claim : Type 0
Claim =
    (B : Side → Btf) (d : Side) → WF (table_of (B d)) → (cs : List Call)
    → Third (B d) (calls B new_world cs) (part_of (calls B new_world cs) d)
