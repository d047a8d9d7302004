use mathlib.Core.Path.{ap, refl, sym, ◌∙◌}
use native.Mathlib.Omega.{arith}
use Rattle.spec_session.proofs.calls.Lists.{its_text, its_section, its_work}
use Rattle.session_requests.specs.options.Counted.{Progress}
use Rattle.session_requests.proofs.requests.Laws.{not_stopped, stopped_by}
use Rattle.session_requests.proofs.requests.Lists as lists
use Rattle.session_requests.proofs.call.Requests.dump_ids.Goals as goal

pub loop-k-init : goal.loop-k-init
loop-k-init c =
    let section = its_section _ c.args.self.now.table.section.now c.args.work.now c.args.text.now c.requires.1 in
    (refl, refl, refl, refl, (omega (arith, its_text _ c.args.self.now.table.section.now c.args.work.now c.args.text.now c.requires.1, ap (λ (x : Progress). x.of.len) c.none_yet-r.ensures), omega (arith, ap (λ (x : Progress). x.count) c.none_yet-r.ensures), λ _. omega (arith, ap (λ (x : Progress). x.made) c.none_yet-r.ensures)), c.requires.2, section, its_work _ c.args.self.now.table.section.now c.args.work.now c.args.text.now c.requires.1, λ _. lists.clean_start _ _, lists.list_begin _ _ _ section _ _ _ c.requires.1 _ _ c.count_of-n.ensures _ c.requires.0 _ c.none_yet-r.ensures, ap (λ (x : Progress). x.of.stop) c.none_yet-r.ensures)

pub returns-then-s-id : goal.returns-then-s-id
returns-then-s-id c = (lists.tally_past _ _ _ _ _ _ c.loop-k.r _ _ c.tally_of.ensures c.unknown.ensures (lists.list_past _ c.args.s _ c.loop-k.invariant.6 _ c.requires.0 _ _ _ _ _ _ _ _ _ _ _ c.loop-k.invariant.7 c.loop-k.invariant.4.0 c.loop-k.invariant.4.1 c.loop-k.invariant.8 c.loop-k.invariant.9 c.loop-k-test.true _ c.get_word-id.ensures c.if-s-id.true), lists.tally_room _ _ _ _ c.tally_of.ensures (omega (arith, ap (λ (x : Progress). x.count) c.unknown.ensures, c.loop-k.invariant.4.1, c.loop-k.invariant.2)))

pub returns-then-is_some : goal.returns-then-is_some
returns-then-is_some c =
    let x = stopped_by _ (sym c.is_some.ensures ∙ c.if-is_some.true) in
    (lists.tally_is _ _ _ _ _ _ _ _ c.tally_of-then-is_some.ensures (lists.list_stop _ c.args.s _ c.loop-k.invariant.6 _ c.requires.0 _ _ _ _ _ _ _ _ _ _ _ c.loop-k.invariant.7 c.loop-k.invariant.4.0 c.loop-k.invariant.4.1 c.loop-k.invariant.8 c.loop-k.invariant.9 c.loop-k-test.true _ c.get_word-id.ensures c.if-s-id.false _ _ _ _ c.dump_one-r.auto.list c.dump_one-r.ensures.2 c.dump_one-r.ensures.0 c.dump_one-r.ensures.1.1 (λ j. omega (arith, c.type_inv.list j)) x.0 x.1 c.dump_one-r.auto.work c.dump_one-r.auto.text), lists.tally_room _ _ _ _ c.tally_of-then-is_some.ensures (omega (arith, c.dump_one-r.ensures.1.1, c.dump_one-r.auto.list, c.loop-k.invariant.2)))

pub loop-k-preserved : goal.loop-k-preserved
loop-k-preserved c =
    let going = not_stopped _ (sym c.is_some.ensures ∙ c.if-is_some.false) in
    (c.dump_one-r.auto.work ∙ c.loop-k.invariant.0, lists.cleared_length _ _ c.dump_one-r.ensures.1.0 _ _ c.clear_if.ensures ∙ c.dump_one-r.auto.text ∙ c.loop-k.invariant.1, c.dump_one-r.auto.list ∙ c.loop-k.invariant.2, c.dump_one-r.auto.leaders ∙ c.loop-k.invariant.3, (omega (arith, lists.cleared_length _ _ c.dump_one-r.ensures.1.0 _ _ c.clear_if.ensures, c.dump_one-r.ensures.1.0), c.dump_one-r.ensures.1.1, c.dump_one-r.ensures.1.2), (c.dump_one-r.ensures.3 going).1, c.loop-k.invariant.6, c.loop-k.invariant.7 ∙ sym c.dump_one-r.auto.work, λ y. lists.clean_next _ _ c.dump_one-r.ensures.1.0 _ _ _ c.clear_if.ensures y, lists.list_more _ c.args.s _ c.loop-k.invariant.6 _ c.requires.0 _ _ _ _ _ _ _ _ _ _ _ c.loop-k.invariant.7 c.loop-k.invariant.4.0 c.loop-k.invariant.4.1 c.loop-k.invariant.8 c.loop-k.invariant.9 c.loop-k-test.true _ c.get_word-id.ensures c.if-s-id.false _ _ _ _ c.dump_one-r.auto.list c.dump_one-r.ensures.2 c.dump_one-r.ensures.0 c.dump_one-r.ensures.1.1 (λ j. omega (arith, c.type_inv.list j)) c.dump_one-r.auto.text c.dump_one-r.ensures.1.0 going _ c.clear_if.ensures _ (c.dump_one-r.ensures.3 going).0, going)

pub returns : goal.returns
returns c = (lists.tally_done _ _ _ _ _ _ _ _ _ c.tally_of-2.ensures (omega arith) c.loop-k.invariant.10 (lists.list_done _ c.args.s _ c.loop-k.invariant.6 _ c.requires.0 _ _ _ _ _ _ _ _ _ _ _ c.loop-k.invariant.7 c.loop-k.invariant.4.0 c.loop-k.invariant.4.1 c.loop-k.invariant.8 c.loop-k.invariant.9 c.loop-k-test.false), lists.tally_room _ _ _ _ c.tally_of-2.ensures (omega (arith, c.loop-k.invariant.4.1, c.loop-k.invariant.2)))
