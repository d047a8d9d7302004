use mathlib.Core.Bool.{not}
use mathlib.Core.List.{List}
use mathlib.Core.Path.{sym, ◌∙◌, ap}
use Prim.Native.Nat.{ℕ}
use lib.ListN.{length}
use Rattle.spec_session.specs.session.Turns.{is_current, table_for}
use Rattle.session_requests.specs.options.Counted.{Ended}
use Rattle.session_requests.specs.options.Requests.{ended_of}
use Rattle.session_requests.specs.options.Lists.{list_call_with}
use Rattle.spec_session.specs.calls.Lists.{ids_in}
use Rattle.session_requests.proofs.requests.Laws as laws
use Rattle.session_requests.proofs.requests.Lists as lists
use Rattle.session_requests.proofs.call.Call.list_with.Goals as goal

pub returns-then-ids-lt4 : goal.returns-then-ids-lt4
returns-then-ids-lt4 c = ap (λ (r : Ended). ended_of r c.args.work.now c.args.text.now c.args.list.now) c.none.ensures
    ∙ lists.list_empty _ _ _ _ _ _ _ c.if-ids-lt4.true

pub returns-then-not-is_current : goal.returns-then-not-is_current
returns-then-not-is_current c = lists.list_11 _ _ _ _ _ _ _ _ c.is_current.ensures c.if-ids-lt4.false (ap not c.if-not-is_current.true) _ c.unchanged.ensures

pub dump_ids-r-requires : goal.dump_ids-r-requires
dump_ids-r-requires c = (
  c.requests-requests.ensures.0 ∙ ap (table_for c.args.self.now.session) (sym c.requests-requests.ensures.1),
  ap (λ (x : List ℕ). is_current c.args.self.now.session (length x) (length c.args.work.now) (length c.args.text.now)) c.requests-requests.ensures.1 ∙ sym c.is_current.ensures ∙ c.if-not-is_current.false,
  laws.ready_same _ _ _ _ c.requests-requests.ensures.2 c.requires,
)

pub returns : goal.returns
returns c = lists.list_ends _ _ _ _ _ _ _ _ _ _ _ _ _ _ _ c.settle_list-turn.ensures c.clear_list.ensures
    (c.dump_ids-r.ensures.0 ∙ (λ j. list_call_with (c.requests-requests.ensures.2 j) c.args.self.now.session (c.requests-requests.ensures.1 j) c.args.work.now c.args.text.now (ids_in c.args.ids.now) c.args.list.now))
