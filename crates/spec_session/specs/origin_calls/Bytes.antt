-- The calls that are lent a list, over lent bytes and for all inputs: what code that offers them is to promise. Without the entries they
-- are `type_call` and `types_call` of `session_requests::entry_points`, unless the list is too short (proofs/Bytes).
use Rattle.std.specs.Prelude.{ℕ, zero, suc, ◌-◌, ◌≤◌, ◌<◌, ◌≡◌, Bool, true, false, List, [], length, ltb}
use Rattle.spec_c_dumper.specs.rules.Order.{Table, Res, ok, refused}
use Rattle.spec_c_dumper.specs.rules.Machine.{Out, wrote, stuck, Machine, obind}
use Rattle.spec_c_dumper.specs.rules.Types.{table_of}
use Rattle.spec_type_table.specs.declared.types.TypeTable.{TypeTable}
use Rattle.spec_type_table.specs.Table.{btf_of}
use Rattle.spec_session.specs.emission.Slices.{Slices, work_machine}
use Rattle.spec_session.specs.declared.session.Session.{Session}
use Rattle.spec_session.specs.session.Answers.{number_of}
use Rattle.spec_session.specs.calls.Refusals.{not_current, id_not_below, refusal}
use Rattle.spec_session.specs.session.Turns.{Call, is_current, Reach, reached, refused_by, settled, unchanged, table_for, visits_in}
use Rattle.spec_session.specs.calls.Calls.{came_to, lent_to}
use Rattle.spec_c_dumper.specs.origins.Causes.{Entry, WithLeaders, order_with_leaders, listed_entry, Traced, up_to, each_listed, shows_in}
use Rattle.spec_c_dumper.specs.origins.Causes.{filled, entries_in}
use Rattle.spec_c_dumper.specs.origins.Claims.{forget, Listed}

-- One request, as `dumped` of `c_dumper_emit::emit_type`: what ordering listed, each at the top, and then the order list is empty again.
-- held: of the names, before it; es: the entries.
module _ {M H : Type 0} (X : Machine M H) (T : Table) (more : ℕ → Bool) (shows : ℕ → Bool) where
  unfoldable pub listed_traced : H → ℕ → List Entry → Res (WithLeaders M) → Out (Traced M) H
  listed_traced held x es (ok s strong) =
      obind (each_listed X T more shows (listed_entry x s.leaders) (X.store.list s.state) (record { mach = s.state; entries = es }))
      (λ m. wrote (record { mach = X.start 0 m.mach; entries = m.entries }))
  listed_traced held x es (refused c) = stuck held c

  unfoldable pub dumped_traced : M → List Entry → ℕ → Out (Traced M) H
  dumped_traced m es x =
      listed_traced (X.held m) x es (order_with_leaders X.store x 512 T [] (record { state = m; leaders = [] }) x false)

-- where the requests of a call have come to, and the entries of the accepted ones
pub record Reached : Type 0 where
  pub reach : Reach
  pub entries : List Entry

-- "a refused request's are dropped"
unfoldable pub entries_after : List Entry → Out (Traced Slices) (Unit {0}) → List Entry
entries_after es (wrote m) = m.entries
entries_after es (stuck held c) = es

unfoldable pub came_to_traced : ℕ → ℕ → List ℕ → List Entry → Out (Traced Slices) (Unit {0}) → Reached
came_to_traced len v t es o = record { reach = came_to len v t (forget o); entries = entries_after es o }

module _ (more : ℕ → Bool) (b : TypeTable) (s : List ℕ) where
  -- as `requested`: one request for an id, after a text of len bytes and v visits
  unfoldable pub requested_traced : ℕ → List Entry → ℕ → ℕ → List ℕ → List ℕ → Reached
  requested_traced id es len v w t =
      came_to_traced len v t es (dumped_traced (work_machine b (btf_of b s w)) (table_of (btf_of b s w)) more (shows_in (btf_of b s w))
      (record { work = w; text = lent_to len t; at = 0; len = 0 }) es id)

  unfoldable pub onward_traced : Reached → (List Entry → ℕ → List ℕ → List ℕ → Reached) → Reached
  onward_traced r k = elim r.reach [ reached len w t ↦ k r.entries len w t | refused_by c len v t ↦ r ]

  -- n ids from id on
  unfoldable pub requested_from_traced : ℕ → ℕ → List Entry → ℕ → List ℕ → List ℕ → Reached
  requested_from_traced zero id es len w t = record { reach = reached len w t; entries = es }
  requested_from_traced (suc n) id es len w t =
      onward_traced (requested_traced id es len (visits_in w) w t) (requested_from_traced n (suc id))

-- what a call comes to: session, answer, work and text; how many entries there are; and the lent list
pub record CauseCall : Type 0 where
  pub call : Call
  pub count : ℕ
  pub list : List ℕ

unfoldable pub settled_traced : Session → ℕ → ℕ → List ℕ → Reached → CauseCall
settled_traced s work text list r =
    record { call = settled s work text r.reach; count = length r.entries; list = filled (length list) r.entries }

-- 11 and 10: "Left as it was: everything"
abbrev pub left_alone : Call → List ℕ → CauseCall
left_alone c list = record { call = c; count = 0; list = list }

unfoldable pub type_causes : Session → List ℕ → List ℕ → List ℕ → ℕ → List ℕ → CauseCall
type_causes s section work text id list =
    elim (is_current s (length section) (length work) (length text)) [
      | false ↦ left_alone (unchanged s (refusal not_current s.text_len) work text) list
      | true ↦ elim (ltb id s.types) [
        | false ↦ left_alone (unchanged s (refusal id_not_below s.text_len) work text) list
        | true ↦ settled_traced s (length work) (length text) list
            (requested_traced (up_to (entries_in list)) (table_for s section) section id [] s.text_len s.visits work text)
      ]
    ]

unfoldable pub types_causes : Session → List ℕ → List ℕ → List ℕ → List ℕ → CauseCall
types_causes s section work text list =
    elim (is_current s (length section) (length work) (length text)) [
      | false ↦ left_alone (unchanged s (refusal not_current s.text_len) work text) list
      | true ↦ settled_traced s (length work) (length text) list
          (requested_from_traced (up_to (entries_in list)) (table_for s section) section ((table_for s section).types - 1) 1 []
          s.text_len work text)
    ]

-- What is claimed of both: with a list that has room for what the call needs it is the plain call, with the same entries for every such
-- list; with a shorter one it is 17.
pub record CauseFits (plainly : Call) (F : List ℕ → CauseCall) : Type 0 where
  pub need : ℕ
  pub entries : List Entry
  pub zeroed : Bool
  pub same : (l : List ℕ) → need ≤ entries_in l → (F l).call ≡ plainly
  pub counts : (l : List ℕ) → need ≤ entries_in l → (F l).count ≡ length entries
  pub lists : zeroed ≡ true → (l : List ℕ) → need ≤ entries_in l → Listed (length l) entries (F l).list
  pub leaves : zeroed ≡ false → (l : List ℕ) → (F l).list ≡ l
  pub short : (l : List ℕ) → entries_in l < need → number_of (F l).call.answer ≡ 17
