use mathlib.Core.Bool.{not}
use mathlib.Core.Path.{ap}
use native.Mathlib.Omega.{arith}
use Rattle.spec_session.proofs.session.Laws as ends
use Rattle.session_requests.specs.options.Counted.{Progress}
use Rattle.session_requests.proofs.requests.Laws as laws
use Rattle.session_requests.proofs.call.Call.type_with.Goals as goal

pub returns-then-not-is_current : goal.returns-then-not-is_current
returns-then-not-is_current c = laws.type_11 _ _ _ _ _ _ _ c.is_current.ensures (ap not c.if-not-is_current.true) _ c.unchanged.ensures _

pub returns-then-s-id : goal.returns-then-s-id
returns-then-s-id c = laws.type_10 _ _ _ _ _ _ _ c.is_current.ensures (ap not c.if-not-is_current.false) _ c.if-s-id.true _ c.unchanged-then-s-id.ensures

pub dump_one-r-requires : goal.dump_one-r-requires
dump_one-r-requires c = ((omega (arith, ends.current_fits _ _ _ _ _ c.is_current.ensures (ap not c.if-not-is_current.false), ap (λ (x : Progress). x.of.len) c.none_yet-start.ensures), omega (arith, ap (λ (x : Progress). x.count) c.none_yet-start.ensures), λ _. omega (arith, ap (λ (x : Progress). x.made) c.none_yet-start.ensures)), laws.ready_same _ _ _ _ c.requests-requests.ensures.2 c.requires)

pub returns : goal.returns
returns c = laws.type_done _ _ _ _ _ _ _ c.is_current.ensures (ap not c.if-not-is_current.false) _ c.requests-requests.ensures.0 _ c.requests-requests.ensures.1 _ c.requests-requests.ensures.2 _ _ _ _ c.dump_one-r.auto.work c.dump_one-r.auto.text c.dump_one-r.auto.list _ _ _ _ c.end.ensures _ c.if-s-id.false _ c.none_yet-start.ensures c.dump_one-r.ensures.0
