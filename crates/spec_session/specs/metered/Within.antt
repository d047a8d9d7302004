-- Requests under a ceiling on the calls of the ordering rule. c is the ceiling, k the calls made before, which are "shared by the single
-- requests of one call"; "the answer reports the calls made, equal to the count in the definition" (`calls` of ceiling/specs).
use Rattle.std.specs.Prelude.{ℕ, zero, suc, ◌+◌, ◌-◌, true, false, List, length, take, leb, ltb}
use Rattle.spec_type_table.specs.declared.types.TypeTable.{TypeTable}
use Rattle.spec_session.specs.metered.Metered.{calls_in}
use Rattle.spec_session.specs.declared.session.Session.{Session}
use Rattle.spec_session.specs.session.Turns.{Call, is_current, table_for, Reach, reached, refused_by, visits_in, settled, unchanged}
use Rattle.spec_session.specs.calls.Refusals.{not_current, id_not_below, refusal}
use Rattle.spec_session.specs.calls.Calls.{requested}

-- where the requests of a call have come to, and the calls made
pub record Within : Type 0 where
  pub reach : Reach
  pub made : ℕ

-- One request: the plain one, where the calls that it opens fit, and else "22 when one more call would pass the ceiling".
unfoldable pub requested_within : ℕ → TypeTable → List ℕ → ℕ → ℕ → ℕ → List ℕ → List ℕ → ℕ → Within
requested_within c b s id len v w t k =
    elim (leb (k + calls_in b s w id) c) [
      | true ↦ record { reach = requested b s id len v w t; made = k + calls_in b s w id }
      | false ↦ record { reach = refused_by 22 len v (take len t); made = c }
    ]

-- after a refusal comes nothing
unfoldable pub onward_within : Reach → ℕ → (ℕ → List ℕ → List ℕ → ℕ → Within) → Within
onward_within (reached len w t) k f = f len w t k
onward_within (refused_by n len v t) k f = record { reach = refused_by n len v t; made = k }

-- n ids from id on
unfoldable pub requested_from_within : ℕ → TypeTable → List ℕ → ℕ → ℕ → ℕ → List ℕ → List ℕ → ℕ → Within
requested_from_within c b s zero id len w t k = record { reach = reached len w t; made = k }
requested_from_within c b s (suc n) id len w t k =
    onward_within (requested_within c b s id len (visits_in w) w t k).reach (requested_within c b s id len (visits_in w) w t k).made
    (requested_from_within c b s n (suc id))

-- what a call comes to, and the calls made; 11 and 10 make none
pub record CallWithin : Type 0 where
  pub call : Call
  pub made : ℕ

-- 22 "closes the session as 12 does"
unfoldable pub settled_within : Session → ℕ → ℕ → Within → CallWithin
settled_within s work text a = record { call = settled s work text a.reach; made = a.made }

unfoldable pub type_call_within : ℕ → Session → List ℕ → List ℕ → List ℕ → ℕ → ℕ → CallWithin
type_call_within c s section work text id k =
    elim (is_current s (length section) (length work) (length text)) [
      | false ↦ record { call = unchanged s (refusal not_current s.text_len) work text; made = k }
      | true ↦ elim (ltb id s.types) [
        | false ↦ record { call = unchanged s (refusal id_not_below s.text_len) work text; made = k }
        | true ↦ settled_within s (length work) (length text)
            (requested_within c (table_for s section) section id s.text_len s.visits work text k)
      ]
    ]

unfoldable pub types_call_within : ℕ → Session → List ℕ → List ℕ → List ℕ → CallWithin
types_call_within c s section work text =
    elim (is_current s (length section) (length work) (length text)) [
      | false ↦ record { call = unchanged s (refusal not_current s.text_len) work text; made = 0 }
      | true ↦ settled_within s (length work) (length text)
          (requested_from_within c (table_for s section) section ((table_for s section).types - 1) 1 s.text_len work text 0)
    ]
