use Rattle.session_requests.specs.options.Counted.{Progress}
use Prim.Native.Nat.{ℕ, ◌/◌}
use mathlib.Core.Path.{refl, ap, sym, ◌∙◌}
use native.Mathlib.Omega.{arith}
use Rattle.session_requests.proofs.requests.Laws as laws
use Rattle.session_requests.proofs.call.Requests.dump_all.Goals as goal

pub loop-id-init : goal.loop-id-init
loop-id-init c = (refl, refl, refl, ap (λ (x : Progress). x.of.stop) c.none_yet-r.ensures, refl, (omega (arith, c.requires.0, ap (λ (x : Progress). x.of.len) c.none_yet-r.ensures), omega (arith, ap (λ (x : Progress). x.count) c.none_yet-r.ensures), λ _. omega (arith, ap (λ (x : Progress). x.made) c.none_yet-r.ensures)), laws.all_start _ _ _ _ _ _ _ _ _ _ _ _ c.none_yet-r.ensures, refl, c.requires.1, ap (λ (x : Progress). x.of.visits) c.none_yet-r.ensures ∙ c.visits_in.ensures)

pub returns-then-is_some : goal.returns-then-is_some
returns-then-is_some c =
    let x = laws.stopped_by _ (sym c.is_some.ensures ∙ c.if-is_some.true) in
    (laws.all_stop _ _ _ _ _ _ _ _ _ _ _ _ c.loop-id-test.true c.loop-id.invariant.6 _ _ _ _ _ (ap (λ (i : ℕ). i / 12) c.loop-id.invariant.2) c.dump_next-r.ensures.0 x.0 x.1, omega (arith, c.loop-id.invariant.2, c.dump_next-r.auto.list, c.dump_next-r.ensures.1.1))

pub loop-id-preserved : goal.loop-id-preserved
loop-id-preserved c =
    let going = laws.not_stopped _ (sym c.is_some.ensures ∙ c.if-is_some.false) in
    (c.dump_next-r.auto.work ∙ c.loop-id.invariant.0, c.dump_next-r.auto.text ∙ c.loop-id.invariant.1, c.dump_next-r.auto.list ∙ c.loop-id.invariant.2, going, c.loop-id.invariant.4, c.dump_next-r.ensures.1, laws.all_more _ _ _ _ _ _ _ _ _ _ _ _ c.loop-id-test.true c.loop-id.invariant.6 _ _ _ _ _ (ap (λ (i : ℕ). i / 12) c.loop-id.invariant.2) c.dump_next-r.ensures.0 going, c.dump_next-r.auto.leaders ∙ c.loop-id.invariant.7, (c.dump_next-r.ensures.2 going).1, (c.dump_next-r.ensures.2 going).0)

pub returns : goal.returns
returns c = (laws.all_done _ _ _ _ _ _ _ _ _ _ _ c.loop-id-test.false c.loop-id.invariant.3 c.loop-id.invariant.6, omega (arith, c.loop-id.invariant.2, c.loop-id.invariant.5.1))
