use Rattle.std.proofs.Common.{rules, tests}
use native.Mathlib.Omega.{arith}
use Rattle.c_dumper_bodies.proofs.chain.Paths.{skipped_le}
use Rattle.c_dumper_bodies.proofs.chain.Downwards.{found_none, found_some}
use Rattle.c_dumper_bodies.proofs.modifiers.skip_mods.Goals as goal

pub returns-in_default : goal.returns-in_default
returns-in_default c =
    (found_none c.args.b.now.head c.args.b.now.section.now c.args.work.now c.args.start _ _ _ _ c.args.n c.rev.ensures.source c.find.ensures.ran (λ x q k. search (rules, tests)) (λ x q k. search (rules, tests)) c.in_default.is, omega arith)

pub overflow_add-result : goal.overflow_add-result
overflow_add-result c =
    let e = found_some c.args.b.now.head c.args.b.now.section.now c.args.work.now c.args.start _ _ _ _ c.args.n c.rev.ensures.source c.find.ensures.ran (λ x q k. search (rules, tests)) (λ x q k. search (rules, tests)) _ c.in-Some.is in
    omega (arith, e, skipped_le c.args.b.now.head c.args.b.now.section.now c.args.work.now c.args.start c.args.n, c.ranges.n.fits)

pub returns : goal.returns
returns c =
    let e = found_some c.args.b.now.head c.args.b.now.section.now c.args.work.now c.args.start _ _ _ _ c.args.n c.rev.ensures.source c.find.ensures.ran (λ x q k. search (rules, tests)) (λ x q k. search (rules, tests)) _ c.in-Some.is in
    (e, omega (arith, e, skipped_le c.args.b.now.head c.args.b.now.section.now c.args.work.now c.args.start c.args.n))
