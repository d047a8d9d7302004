-- What `Counted` of the code is counted of: where the requests of a call have come to, where the ids of a list have, and what a call comes
-- to.
use Rattle.spec_session.specs.declared.session.Reached.{Reached}
use Rattle.spec_session.specs.declared.session.Tally.{Tally}
use Rattle.spec_session.specs.declared.session.Turn.{Turn}
use Rattle.session_requests.specs.declared.options.Counted.{Counted}

abbrev pub Progress : Type 0
Progress = Counted Reached

abbrev pub Tallied : Type 0
Tallied = Counted Tally

abbrev pub Ended : Type 0
Ended = Counted Turn
