-- Calls that carry a ceiling on the calls of ordering, or none: "a request may carry a 64-bit ceiling", "22 [..] closes the session as 12
-- does".
use Rattle.std.specs.Prelude.{ℕ, zero, suc, ◌-◌, ◌≡◌, List, [], ◌∷◌}
use Rattle.spec_c_dumper.specs.rules.Machine.{Req, one}
use Rattle.spec_type_table.specs.declared.types.TypeTable.{TypeTable}
use Rattle.spec_session.specs.declared.session.Session.{Session}
use Rattle.spec_session.specs.session.Answers.{Answer, Accepted, Refused, number_of}
use Rattle.spec_session.specs.session.Turns.{Call, table_for, Reach, reached, refused_by, visits_in}
use Rattle.spec_session.specs.calls.Calls.{type_call, types_call}
use Rattle.spec_session.specs.calls.Lists.{list_call}
use Rattle.spec_session.specs.metered.Within.{requested_within, type_call_within, types_call_within}
use Rattle.spec_session.specs.metered.Lists.{list_call_within}

-- a ceiling, or none
pub data Ceiling : Type 0 where
  none : Ceiling
  up_to : ℕ → Ceiling

-- the three requests under it
abbrev pub type_under : Ceiling → Session → List ℕ → List ℕ → List ℕ → ℕ → Call
type_under none s section work text id = type_call s section work text id
type_under (up_to k) s section work text id = (type_call_within k s section work text id 0).call

abbrev pub types_under : Ceiling → Session → List ℕ → List ℕ → List ℕ → Call
types_under none s section work text = types_call s section work text
types_under (up_to k) s section work text = (types_call_within k s section work text).call

abbrev pub list_under : Ceiling → Session → List ℕ → List ℕ → List ℕ → List ℕ → Call
list_under none s section work text ids = list_call s section work text ids
list_under (up_to k) s section work text ids = (list_call_within k s section work text ids).call

-- the call was refused by 22, or not
abbrev pub Over : Call → Type 0
Over c = number_of c.answer ≡ 22

abbrev pub NotOver : Call → Type 0
NotOver c = number_of c.answer ≡ 22 → ⊥

-- ---- how many ids of a request for all were accepted before the first that is refused

unfoldable pub one_more_if : Reach → ℕ → (ℕ → List ℕ → List ℕ → ℕ → ℕ) → ℕ
one_more_if (reached len w t) k f = suc (f len w t k)
one_more_if (refused_by e len v t) k f = 0

-- of n ids from id on, with k calls of ordering made before
unfoldable pub accepted_from : ℕ → TypeTable → List ℕ → ℕ → ℕ → ℕ → List ℕ → List ℕ → ℕ → ℕ
accepted_from c b s zero id len w t k = 0
accepted_from c b s (suc n) id len w t k =
    one_more_if (requested_within c b s id len (visits_in w) w t k).reach (requested_within c b s id len (visits_in w) w t k).made
    (accepted_from c b s n (suc id))

abbrev pub accepted_of : ℕ → Session → List ℕ → List ℕ → List ℕ → ℕ
accepted_of c s section work text = accepted_from c (table_for s section) section ((table_for s section).types - 1) 1 s.text_len work text 0

-- n single requests, from id on
unfoldable pub ones_from : ℕ → ℕ → ℕ → List Req
ones_from room zero id = []
ones_from room (suc n) id = one room id ∷ ones_from room n (suc id)

-- the answer to a list in a closed session: none of its ids is accepted
abbrev pub eleven_of : List ℕ → Answer
eleven_of [] = Accepted 0
eleven_of (x ∷ ids) = Refused 11 0
