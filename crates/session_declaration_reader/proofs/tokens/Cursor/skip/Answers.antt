use Rattle.std.proofs.Common.{rules, tests, ◌≡◌}
use Rattle.std.specs.Prelude.{position}
use Rattle.std.proofs.lemmas.Iterator.{YieldsList-from_slice}
use Rattle.std.proofs.lemmas.Iterator.Search.{position_from_yields_List}
use Rattle.session_declaration_reader.proofs.tokens.Places as places
use Rattle.session_declaration_reader.proofs.tokens.Cursor.skip.Goals as goal

pub returns : goal.returns
returns c =
    let e : c.position-spaces.result ≡ position places.no_space c.rest-rest.result.now =
    position_from_yields_List places.no_space _ _ _ c.position-spaces.ensures.ran (YieldsList-from_slice c.rest-rest.result.now cc) (λ x b q k. search (rules, tests)) in
    places.skipped _ _ _ c.rest-rest.ensures _ e _ c.unwrap_or.ensures
