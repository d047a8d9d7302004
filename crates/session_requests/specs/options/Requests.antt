-- Requests with their options, a ceiling on the calls of ordering and a list that gets an entry for each line: one id, and all ids. The
-- calls without options, under a ceiling and with a list are cases of these (proofs/options/Cases).
use Rattle.std.specs.Prelude.{ℕ, zero, suc, ◌+◌, ◌-◌, ◌≤◌, ◌≡◌, Bool, true, false, List, [], length, take, leb, ltb, Some, None, Ok, Err}
use Rattle.spec_type_table.specs.declared.types.TypeTable.{TypeTable}
use Rattle.spec_c_dumper.specs.origins.Causes.{Entry, up_to, filled, entries_in}
use Rattle.spec_session.specs.declared.session.Session.{Session}
use Rattle.spec_session.specs.session.Answers.{answer_is}
use Rattle.spec_session.specs.session.Turns.{Call, call_of, is_current, table_for, Reach, reached, refused_by, visits_in, reach_of}
use Rattle.spec_session.specs.session.Turns.{settled, unchanged}
use Rattle.spec_session.specs.calls.Refusals.{not_current, id_not_below, refusal}
use Rattle.spec_session.specs.calls.Calls.{requested}
use Rattle.spec_session.specs.origin_calls.Bytes.{Reached as Traced, requested_traced, CauseCall}
use Rattle.spec_session.specs.metered.Within.{Within, CallWithin}
use Rattle.spec_session.specs.metered.Metered.{calls_in}
use Rattle.c_dumper_dependency_order.specs.ways.Idle.{counted}
use Rattle.c_dumper_emit.specs.entries.Traced.{entries_of}
use Rattle.c_dumper_emit.specs.dump_type.Kept.{Before}
use Rattle.session_requests.specs.declared.options.Options.{Options}
use Rattle.session_requests.specs.options.Options.{is_listed, is_counted, most_calls, ceiling_of}
use Rattle.session_requests.specs.options.Counted.{Progress}
use Rattle.session_requests.specs.options.Counted.{Ended}

-- where the requests of a call have come to, the entries of the accepted ones, and the calls of ordering made
pub record Stage : Type 0 where
  pub reach : Reach
  pub entries : List Entry
  pub made : ℕ

-- what the code's struct says, with the slices at that moment
unfoldable pub stage_of : Progress → List ℕ → List ℕ → List ℕ → Stage
stage_of r w t l = record { reach = reach_of r.of w t; entries = entries_of r.count l; made = r.made }

-- the same without the entries, or without the calls
unfoldable pub within_of : Progress → List ℕ → List ℕ → Within
within_of r w t = record { reach = reach_of r.of w t; made = r.made }

unfoldable pub traced_of : Progress → List ℕ → List ℕ → List ℕ → Traced
traced_of r w t l = record { reach = reach_of r.of w t; entries = entries_of r.count l }

-- ---- the options

-- a ceiling is passed by one call more than it allows; without one nothing is counted
unfoldable pub fits_under : Bool → ℕ → ℕ → ℕ → Bool
fits_under is_set c k opens = elim is_set [ true ↦ leb (k + opens) c | false ↦ true ]

unfoldable pub made_under : Bool → ℕ → ℕ → ℕ
made_under is_set k opens = elim is_set [ true ↦ k + opens | false ↦ k ]

-- what holds of the count before each request
abbrev pub Under : Options → ℕ → Type 0
Under o k = (is_counted o) ≡ true → k ≤ (most_calls o)

-- what holds between two requests: the text and the list hold what was written
abbrev pub Fits : Options → Progress → List ℕ → List ℕ → Type 0
Fits o p t l = (p.of.len ≤ length t) × (p.count ≤ entries_in l) × Under o p.made

-- the words for the leaders, which only a list needs: one an id, and nothing noted in this turn yet
abbrev pub Ready : Options → ℕ → List ℕ → Type 0
Ready o turn leaders = (is_listed o) ≡ true → (length leaders ≡ 262145) × Before turn leaders

-- ---- one request, after a text of len bytes, v visits, the entries es and k calls
module _ (more : ℕ → Bool) (b : TypeTable) (s : List ℕ) where
  -- with or without entries
  unfoldable pub requested_listed : Bool → ℕ → List Entry → ℕ → ℕ → List ℕ → List ℕ → Traced
  requested_listed lists id es len v w t =
      elim lists [ true ↦ requested_traced more b s id es len v w t | false ↦ record { reach = requested b s id len v w t; entries = es } ]

  -- "22 when one more call would pass the ceiling"
  unfoldable pub requested_under : Bool → Bool → ℕ → ℕ → List Entry → ℕ → ℕ → List ℕ → List ℕ → ℕ → Stage
  requested_under lists is_set c id es len v w t k =
      elim (fits_under is_set c k (calls_in b s w id)) [
        | true ↦ record {
          reach = (requested_listed lists id es len v w t).reach;
          entries = (requested_listed lists id es len v w t).entries;
          made = made_under is_set k (calls_in b s w id);
        }
        | false ↦ record { reach = refused_by 22 len v (take len t); entries = es; made = c }
      ]

module _ (o : Options) (more : ℕ → Bool) (b : TypeTable) (s : List ℕ) where
  unfoldable pub requested_with : ℕ → List Entry → ℕ → ℕ → List ℕ → List ℕ → ℕ → Stage
  requested_with id es len v w t k = requested_under more b s (is_listed o) (is_counted o) (most_calls o) id es len v w t k

  -- after a refusal comes nothing
  unfoldable pub onward_with : Stage → (List Entry → ℕ → List ℕ → List ℕ → ℕ → Stage) → Stage
  onward_with r f = elim r.reach [ reached len w t ↦ f r.entries len w t r.made | refused_by c len v t ↦ r ]

  -- n ids from id on
  unfoldable pub requested_from_with : ℕ → ℕ → List Entry → ℕ → List ℕ → List ℕ → ℕ → Stage
  requested_from_with zero id es len w t k = record { reach = reached len w t; entries = es; made = k }
  requested_from_with (suc n) id es len w t k = onward_with (requested_with id es len (visits_in w) w t k) (requested_from_with n (suc id))

-- a request that has nothing to write
unfoldable pub idle_after : Progress → Options → Progress
idle_after p o =
    elim (counted (ceiling_of o) p.made) [
      | Ok k ↦ record {
        of = record { len = p.of.len; stop = None; visits = p.of.visits };
        count = p.count;
        made = k;
      }
      | Err c ↦ record {
        of = record { len = p.of.len; stop = Some c; visits = p.of.visits };
        count = p.count;
        made = p.made;
      }
    ]

-- ---- the calls: session, answer, work and text; how many entries there are, and the lent list; and the calls made
pub record CallWith : Type 0 where
  pub call : Call
  pub count : ℕ
  pub list : List ℕ
  pub made : ℕ

unfoldable pub ended_of : Ended → List ℕ → List ℕ → List ℕ → CallWith
ended_of r w t l = record { call = call_of r.of.session (answer_is r.of.answer) w t; count = r.count; list = l; made = r.made }

-- the same of today's calls: under a ceiling, and with a list
unfoldable pub counted_of : Ended → List ℕ → List ℕ → CallWithin
counted_of r w t = record { call = call_of r.of.session (answer_is r.of.answer) w t; made = r.made }

unfoldable pub explained_of : Ended → List ℕ → List ℕ → List ℕ → CauseCall
explained_of r w t l = record { call = call_of r.of.session (answer_is r.of.answer) w t; count = r.count; list = l }

unfoldable pub settled_with : Session → ℕ → ℕ → List ℕ → Stage → CallWith
settled_with s work text list r = record {
  call = settled s work text r.reach;
  count = length r.entries;
  list = filled (length list) r.entries;
  made = r.made;
}

-- 11 and 10: "Left as it was: everything"
abbrev pub as_it_was : Call → List ℕ → ℕ → CallWith
as_it_was c list k = record { call = c; count = 0; list = list; made = k }

module _ (o : Options) (s : Session) (section : List ℕ) where
  unfoldable pub type_call_with : List ℕ → List ℕ → ℕ → List ℕ → ℕ → CallWith
  type_call_with work text id list k =
      elim (is_current s (length section) (length work) (length text)) [
        | false ↦ as_it_was (unchanged s (refusal not_current s.text_len) work text) list k
        | true ↦ elim (ltb id s.types) [
          | false ↦ as_it_was (unchanged s (refusal id_not_below s.text_len) work text) list k
          | true ↦ settled_with s (length work) (length text) list
              (requested_with o (up_to (entries_in list)) (table_for s section) section id [] s.text_len s.visits work text k)
        ]
      ]

  unfoldable pub types_call_with : List ℕ → List ℕ → List ℕ → CallWith
  types_call_with work text list =
      elim (is_current s (length section) (length work) (length text)) [
        | false ↦ as_it_was (unchanged s (refusal not_current s.text_len) work text) list 0
        | true ↦ settled_with s (length work) (length text) list
            (requested_from_with o (up_to (entries_in list)) (table_for s section) section ((table_for s section).types - 1) 1 []
            s.text_len work text 0)
      ]
