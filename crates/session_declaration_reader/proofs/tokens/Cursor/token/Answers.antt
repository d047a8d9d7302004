use lib.ListN.{length}
use Prim.Native.Nat.{◌≤◌}
use Rattle.session_declaration_reader.proofs.tokens.Places as places
use native.Mathlib.Omega.{arith}
use Rattle.session_declaration_reader.proofs.tokens.Cursor.token.Goals as goal

pub returns-in_default : goal.returns-in_default
returns-in_default c =
    let l = c.in_default.ensures.lookup in
    let h : length c.args.self.text.now ≤ c.skip-start.result = omega arith in
    places.look_end _ _ _ c.skip-start.ensures h

pub returns-then-not-in_run : goal.returns-then-not-in_run
returns-then-not-in_run c =
    let l = c.in-Some.ensures.lookup.3 in places.look_mark _ _ _ c.skip-start.ensures l.0 _ (l.1 0) _ c.in_run.ensures c.if-not-in_run.true

pub returns : goal.returns
returns c = places.look_run _ _ _ c.skip-start.ensures _ c.run_end-end.ensures _ c.run_kind.ensures
