use Prim.Native.Nat.{◌<◌}
use native.Mathlib.Omega.{arith}
use Rattle.session_record.proofs.arrival.Arrival.{from_to, to_end}
use Rattle.session_requests.proofs.request.Laws as laws
use Rattle.session_requests.proofs.request.One as one
use Rattle.session_requests.proofs.call.Requests.dump_one.Goals as goal

pub slice_bounds-dump_type-count : goal.slice_bounds-dump_type-count
slice_bounds-dump_type-count c = from_to _ _ _ c.limit-to.ensures c.requires.0.0

pub slice_bounds-dump_type-start : goal.slice_bounds-dump_type-start
slice_bounds-dump_type-start c = from_to _ _ _ c.limit-to.ensures c.requires.0.0

pub slice_bounds-dump_type-end : goal.slice_bounds-dump_type-end
slice_bounds-dump_type-end c = to_end _ _ _ c.limit-to.ensures c.requires.0.0

pub returns-in-Err : goal.returns-in-Err
returns-in-Err c =
    let i : c.args.id < 4294967296 = omega (arith, c.ranges.id) in let j : c.args.p.of.len < 4294967296 = omega arith in
    laws.behind_none _ _ _ _ _ _ c.args.p _ _ c.requires.0.1 _ _ _ _ c.dump_type-d.auto.list _ _
    (one.one_refused _ _ c.args.self.now.few _ _ _ _ _ _ _ _ i j c.requires.0.0 c.limit-to.ensures c.requires.0.2 _ _ _ c.requires.1 (laws.words_kept _ _ c.dump_type-d.auto.leaders) _ _ _ _ c.dump_type-d.auto.text _ _ c.is_listed.ensures _ c.ceiling.ensures c.dump_type-d.ensures.0 c.dump_type-d.ensures.1 _ _ _ c.in-Err.is c.arrived-in-Err.ensures)

pub returns-in-Ok : goal.returns-in-Ok
returns-in-Ok c =
    let i : c.args.id < 4294967296 = omega (arith, c.ranges.id) in let j : c.args.p.of.len < 4294967296 = omega arith in
    laws.behind_all _ _ _ _ _ _ c.args.p _ _ c.requires.0.1 _ _ _ _ c.dump_type-d.auto.list _ _ _
    (one.one_accepted _ _ c.args.self.now.few _ _ _ _ _ _ _ _ i j c.requires.0.0 c.limit-to.ensures c.requires.0.2 _ _ _ c.requires.1 (laws.words_kept _ _ c.dump_type-d.auto.leaders) _ _ _ _ c.dump_type-d.auto.text _ _ c.is_listed.ensures _ c.ceiling.ensures c.dump_type-d.ensures.0 c.dump_type-d.ensures.1 _ _ _ c.in-Ok.is _ c.visits_in.ensures c.arrived.ensures)

pub overflow_add-result : goal.overflow_add-result
overflow_add-result c =
    let i : c.args.id < 4294967296 = omega (arith, c.ranges.id) in let j : c.args.p.of.len < 4294967296 = omega arith in
    omega (
      arith,
      laws.behind_few _ _ _ _ _ _ c.args.p _ _ c.requires.0.1 _ _ _ _ c.dump_type-d.auto.list _ _ _
          (one.one_accepted _ _ c.args.self.now.few _ _ _ _ _ _ _ _ i j c.requires.0.0 c.limit-to.ensures c.requires.0.2 _ _ _ c.requires.1 (laws.words_kept _ _ c.dump_type-d.auto.leaders) _ _ _ _ c.dump_type-d.auto.text _ _ c.is_listed.ensures _ c.ceiling.ensures c.dump_type-d.ensures.0 c.dump_type-d.ensures.1 _ _ _ c.in-Ok.is _ c.visits_in.ensures c.arrived.ensures),
    )
