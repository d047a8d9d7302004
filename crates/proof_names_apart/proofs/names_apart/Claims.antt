-- The claim of specs/Claims holds. Assumes nothing.
use Rattle.proof_names_apart.specs.names_apart.Claims.{Claim}
use Rattle.proof_names_apart.proofs.names_apart.Session.{apart_demand3}
use Rattle.proof_names_apart.proofs.names_apart.Alike.{modes_alike}
use Rattle.proof_names_apart.proofs.names_apart.Bounds.{session_apart}

pub names_cannot_collide : Claim
names_cannot_collide B ends few below = record {
  all_apart = session_apart B below ends few;
  alike = λ plain. modes_alike B plain ends below;
  demand3 = apart_demand3 B ends below;
}
