-- What each call of a session comes to, for all inputs: document 01, "Session (made by opening, read by requests)".
use Rattle.std.specs.Prelude.{ℕ, zero, suc, ◌+◌, ◌-◌, ◌%◌, true, false, List, length, take, drop, leb, ltb, Some, None, Ok, Err}
use Rattle.spec_bytes.specs.text.Placed.{Placed, place}
use Rattle.spec_c_dumper.specs.rules.Machine.{Out, wrote, stuck}
use Rattle.spec_c_dumper.specs.rules.Types.{table_of}
use Rattle.spec_type_table.specs.declared.types.TypeTable.{TypeTable}
use Rattle.spec_type_table.specs.Table.{btf_of}
use Rattle.spec_opening.specs.Opened.{Outcome, refused, opened, opening_of}
use Rattle.spec_session.specs.emission.Slices.{Slices, work_machine}
use Rattle.spec_c_dumper.specs.rules.Request.{dumped}
use Rattle.spec_session.specs.declared.session.Session.{Session}
use Rattle.spec_session.specs.declared.session.Reached.{Reached}
use Rattle.spec_session.specs.session.Answers.{answer_of}
use Rattle.spec_session.specs.session.Turns.{Call, is_current, table_for, Reach, reached, refused_by, visits_in, settled, unchanged}
use Rattle.spec_session.specs.calls.Refusals.{not_current, id_not_below, refusal}

-- ---- opening

-- "Left as it was: all slices and the record"; or the record that is open, and "opening returns the count of types, void counted,
-- and clears the text slice"
unfoldable pub opened_call : Session → ℕ → ℕ → ℕ → ℕ → Outcome → Call
opened_call s section work pointer modes (refused n w t) = record { session = s; answer = answer_of n 0; work = w; text = t }
opened_call s section work pointer modes (opened types enumerators w t) = record {
  session = record {
    «open» = true;
    section_len = section;
    work_len = work;
    types = types;
    enumerators = enumerators;
    text_len = 0;
    pointer_size = pointer;
    modes = modes % 16;
    visits = 0;
  };
  answer = answer_of 0 types;
  work = w;
  text = t;
}

unfoldable pub open_call : Session → List ℕ → List ℕ → List ℕ → ℕ → ℕ → Call
open_call s section work text pointer modes =
    opened_call s (length section) (length work) pointer modes (opening_of pointer modes section work text)

-- ---- requests

-- how far a text slice of n bytes may be written after its first len: "text slice full, or text over 1,073,741,824 bytes"
unfoldable pub limit_of : ℕ → ℕ → ℕ
limit_of n len = elim (leb n 1073741824) [ true ↦ n | false ↦ elim (leb len 1073741824) [ true ↦ 1073741824 | false ↦ len ] ]

-- what the end of a request in a lent slice says, after a text of len bytes and v visits
unfoldable pub arrived_at : ℕ → ℕ → Placed → Reached
arrived_at len v (Ok at) = record { len = len + at; stop = None; visits = v }
arrived_at len v (Err c) = record { len = len; stop = Some c; visits = v }

-- what a dump in the slice after the first len bytes of t leaves there, where v visits were counted before it
unfoldable pub came_to : ℕ → ℕ → List ℕ → Out Slices (Unit {0}) → Reach
came_to len v t (wrote m) = reached (len + m.at) m.work (place t len m.text)
came_to len v t (stuck held c) = refused_by c len v (take len t)

-- the slice that a request is lent: what follows the text so far, up to the limit
abbrev pub lent_to : ℕ → List ℕ → List ℕ
lent_to len t = take (limit_of (length t) len - len) (drop len t)

-- One request for an id, after a text of len bytes and v visits: the rules over the work, on that slice from its start.
unfoldable pub requested : TypeTable → List ℕ → ℕ → ℕ → ℕ → List ℕ → List ℕ → Reach
requested b s id len v w t =
    came_to len v t (dumped (work_machine b (btf_of b s w)) (table_of (btf_of b s w))
    (record { work = w; text = lent_to len t; at = 0; len = 0 }) id)

-- after a refusal comes nothing
unfoldable pub onward : Reach → (ℕ → List ℕ → List ℕ → Reach) → Reach
onward (reached len w t) k = k len w t
onward (refused_by c len v t) k = refused_by c len v t

-- "then the single requests from 1 upward, so a refusal keeps the text of those before it and returns its length": n ids from id on. The
-- visits before each are those that the work counts.
unfoldable pub requested_from : TypeTable → List ℕ → ℕ → ℕ → ℕ → List ℕ → List ℕ → Reach
requested_from b s zero id len w t = reached len w t
requested_from b s (suc n) id len w t = onward (requested b s id len (visits_in w) w t) (requested_from b s n (suc id))

unfoldable pub type_call : Session → List ℕ → List ℕ → List ℕ → ℕ → Call
type_call s section work text id =
    elim (is_current s (length section) (length work) (length text)) [
      | false ↦ unchanged s (refusal not_current s.text_len) work text
      | true ↦ elim (ltb id s.types) [
        | false ↦ unchanged s (refusal id_not_below s.text_len) work text
        | true ↦ settled s (length work) (length text) (requested (table_for s section) section id s.text_len s.visits work text)
      ]
    ]

-- "The request for all ids tests 11 first, even over no types"
unfoldable pub types_call : Session → List ℕ → List ℕ → List ℕ → Call
types_call s section work text =
    elim (is_current s (length section) (length work) (length text)) [
      | false ↦ unchanged s (refusal not_current s.text_len) work text
      | true ↦ settled s (length work) (length text)
          (requested_from (table_for s section) section ((table_for s section).types - 1) 1 s.text_len work text)
    ]
