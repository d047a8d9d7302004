-- Ask 10, two headers over one ledger: definitions and theorems, no code yet. Statements only; proofs/Claims.antt of proof_two_headers has
-- the proof of the first, and the file of each other's name there that of the other.
use Rattle.proof_two_headers.specs.Claims.{Claim as Alone}
use Rattle.proof_two_headers.specs.Accounts.{Claim as Accounts}
use Rattle.proof_two_headers.specs.Spellings.{Claim as Spellings}
use Rattle.proof_two_headers.specs.Demands.{Claim as Demands}
use Rattle.proof_two_headers.specs.Reserves.{Claim as Reserves}

pub record Request10 : Type 0 where
  -- "Until an 11, 17 or 20 in either run, its order, layout and cycle refusals are those it would have alone. [..] Short of 20, equality is
  -- claimed for a session whose partner made no request"
  pub alone : Alone
  -- "an entry is one name of a space, charged to the session that made it"
  pub accounts : Accounts
  -- "must not reuse each other's names"
  pub spellings : Spellings
  -- "The third demand then also takes the shared ledger to be lent as the last call of either session left it"
  pub demands : Demands
  -- "The program reserves for every name": a session that reserved for every name of its table never answers 20
  pub reserves : Reserves
