-- Without options, under a ceiling and with a list a call is the call of the definitions. Assumes nothing.
use Prim.Native.Nat.{ℕ, zero, suc, ◌*◌, ◌-◌}
use mathlib.Core.Path.{◌≡◌, refl, ap, ◌∙◌}
use mathlib.Core.Bool.{Bool, true, false}
use mathlib.Core.List.{List, [], ◌∷◌}
use lib.ListN.{length, take, drop, replicate, length-replicate}
use lib.Dec.{ltb}
use Rattle.spec_type_table.specs.declared.types.TypeTable.{TypeTable}
use Rattle.spec_c_dumper.specs.origins.Causes.{Entry, up_to, entries_in}
use Rattle.spec_session.specs.declared.session.Session.{Session}
use Rattle.spec_session.specs.session.Answers.{answer_is, number_of, answer_of}
use Rattle.spec_session.specs.session.Turns.{Call, call_of, is_current, table_for, Reach, reached, refused_by, visits_in}
use Rattle.spec_session.specs.calls.Calls.{requested, onward, requested_from, type_call, types_call}
use Rattle.spec_session.specs.calls.Lists.{then_next, list_from, list_call}
use Rattle.spec_session.specs.origin_calls.Bytes.{Reached as Traced, requested_traced, onward_traced, requested_from_traced, CauseCall, settled_traced, type_causes, types_causes}
use Rattle.spec_session.specs.metered.Within.{Within as Counted, requested_within, onward_within, requested_from_within, CallWithin, settled_within, type_call_within, types_call_within}
use Rattle.spec_session.specs.metered.Lists.{counted_within, list_from_within, list_call_within}
use Rattle.spec_session.specs.origin_calls.Several.{front, go_on, list_from_causes, list_causes_call}
use Rattle.session_requests.specs.declared.options.Options.TheVariants.{Plain, Within, Listed}
use Rattle.session_requests.specs.options.Counted.{Ended}
use Rattle.session_requests.specs.options.Requests.{Stage, Ready, onward_with, requested_from_with, CallWith, ended_of, counted_of, explained_of, settled_with, type_call_with, types_call_with}
use Rattle.session_requests.specs.options.Lists.{front_with, go_on_with, list_from_with, list_call_with}
use Rattle.session_requests.proofs.request.Laws.{with_lists, with_none, with_ceiling}
use Rattle.session_requests.proofs.requests.Laws.{made}
use Rattle.c_dumper_emit.proofs.dump_type.Kept.{none_before}
use Rattle.c_dumper_dependency_order.specs.declared.leaders.Leader.{Leader}
use Rattle.c_dumper_dependency_order.specs.leaders.Leaders.{leader_words}
use Rattle.c_dumper_dependency_order.proofs.leaders.Laws.{words_length}

-- ---- what they come to, without what there is none of
abbrev stage_only : Reach → List Entry → ℕ → Stage
stage_only q es k = record { reach = q; entries = es; made = k }

abbrev stage_within : Counted → List Entry → Stage
stage_within a es = record { reach = a.reach; entries = es; made = a.made }

abbrev stage_traced : Traced → ℕ → Stage
stage_traced a k = record { reach = a.reach; entries = a.entries; made = k }

-- ---- all ids
module _ (more : ℕ → Bool) (b : TypeTable) (s : List ℕ) where
  onward_plain : (F : List Entry → ℕ → List ℕ → List ℕ → ℕ → Stage) (G : ℕ → List ℕ → List ℕ → Reach) (es : List Entry) (k : ℕ) → ((len : ℕ) (w t : List ℕ) → F es len w t k ≡ stage_only (G len w t) es k)
      → (q : Reach) → onward_with Plain more b s (stage_only q es k) F ≡ stage_only (onward q G) es k
  unfolding onward_with onward
  onward_plain F G es k h (reached len w t) = h len w t
  onward_plain F G es k h (refused_by c len v t) = refl

  from_plain : (n id : ℕ) (es : List Entry) (len : ℕ) (w t : List ℕ) (k : ℕ) → requested_from_with Plain more b s n id es len w t k ≡ stage_only (requested_from b s n id len w t) es k
  unfolding requested_from_with requested_from
  from_plain zero id es len w t k = refl
  from_plain (suc n) id es len w t k =
      ap (λ (r : Stage). onward_with Plain more b s r (requested_from_with Plain more b s n (suc id))) (with_none Plain more b s id es len (visits_in w) w t k refl refl)
      ∙ onward_plain (requested_from_with Plain more b s n (suc id)) (requested_from b s n (suc id)) es k (λ len' w' t'. from_plain n (suc id) es len' w' t' k) (requested b s id len (visits_in w) w t)

  onward_under : (c : ℕ) (F : List Entry → ℕ → List ℕ → List ℕ → ℕ → Stage) (G : ℕ → List ℕ → List ℕ → ℕ → Counted) (es : List Entry) (k : ℕ) → ((len : ℕ) (w t : List ℕ) → F es len w t k ≡ stage_within (G len w t k) es)
      → (q : Reach) → onward_with (Within c) more b s (stage_only q es k) F ≡ stage_within (onward_within q k G) es
  unfolding onward_with onward_within
  onward_under c F G es k h (reached len w t) = h len w t
  onward_under c F G es k h (refused_by d len v t) = refl

  from_under : (c n id : ℕ) (es : List Entry) (len : ℕ) (w t : List ℕ) (k : ℕ) → requested_from_with (Within c) more b s n id es len w t k ≡ stage_within (requested_from_within c b s n id len w t k) es
  unfolding requested_from_with requested_from_within
  from_under c zero id es len w t k = refl
  from_under c (suc n) id es len w t k =
      ap (λ (r : Stage). onward_with (Within c) more b s r (requested_from_with (Within c) more b s n (suc id))) (with_ceiling (Within c) more b s id es len (visits_in w) w t k refl refl)
      ∙ onward_under c (requested_from_with (Within c) more b s n (suc id)) (requested_from_within c b s n (suc id)) es (requested_within c b s id len (visits_in w) w t k).made
      (λ len' w' t'. from_under c n (suc id) es len' w' t' (requested_within c b s id len (visits_in w) w t k).made) (requested_within c b s id len (visits_in w) w t k).reach

  onward_listing : (F : List Entry → ℕ → List ℕ → List ℕ → ℕ → Stage) (G : List Entry → ℕ → List ℕ → List ℕ → Traced) (es : List Entry) (k : ℕ) → ((len : ℕ) (w t : List ℕ) → F es len w t k ≡ stage_traced (G es len w t) k)
      → (q : Reach) → onward_with Listed more b s (stage_only q es k) F ≡ stage_traced (onward_traced more b s (record { reach = q; entries = es }) G) k
  unfolding onward_with onward_traced
  onward_listing F G es k h (reached len w t) = h len w t
  onward_listing F G es k h (refused_by d len v t) = refl

  from_listing : (n id : ℕ) (es : List Entry) (len : ℕ) (w t : List ℕ) (k : ℕ) → requested_from_with Listed more b s n id es len w t k ≡ stage_traced (requested_from_traced more b s n id es len w t) k
  unfolding requested_from_with requested_from_traced
  from_listing zero id es len w t k = refl
  from_listing (suc n) id es len w t k =
      ap (λ (r : Stage). onward_with Listed more b s r (requested_from_with Listed more b s n (suc id))) (with_lists Listed more b s id es len (visits_in w) w t k refl refl)
      ∙ onward_listing (requested_from_with Listed more b s n (suc id)) (requested_from_traced more b s n (suc id)) (requested_traced more b s id es len (visits_in w) w t).entries k
      (λ len' w' t'. from_listing n (suc id) (requested_traced more b s id es len (visits_in w) w t).entries len' w' t' k) (requested_traced more b s id es len (visits_in w) w t).reach

-- ---- one id, all ids
abbrev pub to_within : CallWith → CallWithin
to_within d = record { call = d.call; made = d.made }

abbrev pub to_causes : CallWith → CauseCall
to_causes d = record { call = d.call; count = d.count; list = d.list }

module _ (s : Session) (section w t : List ℕ) where
  abbrev now_current : Bool
  now_current = is_current s (length section) (length w) (length t)

  pub type_plain : (id : ℕ) (l : List ℕ) (k : ℕ) → (type_call_with Plain s section w t id l k).call ≡ type_call s section w t id
  unfolding type_call_with type_call settled_with
  type_plain id l k = go now_current (ltb id s.types) refl refl
    where
      go : (q u : Bool) → now_current ≡ q → ltb id s.types ≡ u → (type_call_with Plain s section w t id l k).call ≡ type_call s section w t id
      go false u e f = rw (e, type_call_with, type_call) refl
      go true false e f = rw (e, type_call_with, type_call, f) refl
      go true true e f =
          rw (e, type_call_with, type_call, f)
          (ap (λ (r : Stage). (settled_with s (length w) (length t) l r).call) (with_none Plain (up_to (entries_in l)) (table_for s section) section id [] s.text_len s.visits w t k refl refl))

  pub type_under : (c id : ℕ) (l : List ℕ) (k : ℕ) → to_within (type_call_with (Within c) s section w t id l k) ≡ type_call_within c s section w t id k
  unfolding type_call_with type_call_within settled_with settled_within
  type_under c id l k = go now_current (ltb id s.types) refl refl
    where
      go : (q u : Bool) → now_current ≡ q → ltb id s.types ≡ u → to_within (type_call_with (Within c) s section w t id l k) ≡ type_call_within c s section w t id k
      go false u e f = rw (e, type_call_with, type_call_within) refl
      go true false e f = rw (e, type_call_with, type_call_within, f) refl
      go true true e f =
          rw (e, type_call_with, type_call_within, f)
          (ap (λ (r : Stage). to_within (settled_with s (length w) (length t) l r)) (with_ceiling (Within c) (up_to (entries_in l)) (table_for s section) section id [] s.text_len s.visits w t k refl refl))

  pub type_listing : (id : ℕ) (l : List ℕ) (k : ℕ) → to_causes (type_call_with Listed s section w t id l k) ≡ type_causes s section w t id l
  unfolding type_call_with type_causes settled_with settled_traced
  type_listing id l k = go now_current (ltb id s.types) refl refl
    where
      go : (q u : Bool) → now_current ≡ q → ltb id s.types ≡ u → to_causes (type_call_with Listed s section w t id l k) ≡ type_causes s section w t id l
      go false u e f = rw (e, type_call_with, type_causes) refl
      go true false e f = rw (e, type_call_with, type_causes, f) refl
      go true true e f =
          rw (e, type_call_with, type_causes, f)
          (ap (λ (r : Stage). to_causes (settled_with s (length w) (length t) l r)) (with_lists Listed (up_to (entries_in l)) (table_for s section) section id [] s.text_len s.visits w t k refl refl))

  pub types_plain : (l : List ℕ) → (types_call_with Plain s section w t l).call ≡ types_call s section w t
  unfolding types_call_with types_call settled_with
  types_plain l = go now_current refl
    where
      go : (q : Bool) → now_current ≡ q → (types_call_with Plain s section w t l).call ≡ types_call s section w t
      go false e = rw (e, types_call_with, types_call) refl
      go true e =
          rw (e, types_call_with, types_call)
          (ap (λ (r : Stage). (settled_with s (length w) (length t) l r).call) (from_plain (up_to (entries_in l)) (table_for s section) section ((table_for s section).types - 1) 1 [] s.text_len w t 0))

  pub types_under : (c : ℕ) (l : List ℕ) → to_within (types_call_with (Within c) s section w t l) ≡ types_call_within c s section w t
  unfolding types_call_with types_call_within settled_with settled_within
  types_under c l = go now_current refl
    where
      go : (q : Bool) → now_current ≡ q → to_within (types_call_with (Within c) s section w t l) ≡ types_call_within c s section w t
      go false e = rw (e, types_call_with, types_call_within) refl
      go true e =
          rw (e, types_call_with, types_call_within)
          (ap (λ (r : Stage). to_within (settled_with s (length w) (length t) l r)) (from_under (up_to (entries_in l)) (table_for s section) section c ((table_for s section).types - 1) 1 [] s.text_len w t 0))

  pub types_listing : (l : List ℕ) → to_causes (types_call_with Listed s section w t l) ≡ types_causes s section w t l
  unfolding types_call_with types_causes settled_with settled_traced
  types_listing l = go now_current refl
    where
      go : (q : Bool) → now_current ≡ q → to_causes (types_call_with Listed s section w t l) ≡ types_causes s section w t l
      go false e = rw (e, types_call_with, types_causes) refl
      go true e =
          rw (e, types_call_with, types_causes)
          (ap (λ (r : Stage). to_causes (settled_with s (length w) (length t) l r)) (from_listing (up_to (entries_in l)) (table_for s section) section ((table_for s section).types - 1) 1 [] s.text_len w t 0))

-- ---- a list of ids
go_plain : (n : ℕ) (d : CallWith) (F : CallWith → CallWith) (G : Call → Call) → (F d).call ≡ G d.call → (go_on_with n d F).call ≡ then_next n d.call G
unfolding go_on_with then_next
go_plain n d F G h = by (number_of d.call.answer)
  where
    by : (m : ℕ) → (elim m as (λ _. CallWith) [ zero ↦ front_with d.count (take (d.count * 12) d.list) (F d) | suc j ↦ record { call = call_of d.call.session (answer_of (suc j) n) d.call.work d.call.text; count = d.count; list = d.list; made = d.made } ]).call
        ≡ (elim m as (λ _. Call) [ zero ↦ G d.call | suc j ↦ call_of d.call.session (answer_of (suc j) n) d.call.work d.call.text ])
    by zero = h
    by (suc j) = refl

go_under : (n : ℕ) (d : CallWith) (F : CallWith → CallWith) (G : CallWithin → CallWithin) → to_within (F d) ≡ G (to_within d) → to_within (go_on_with n d F) ≡ counted_within n (to_within d) G
unfolding go_on_with counted_within
go_under n d F G h = by (number_of d.call.answer)
  where
    by : (m : ℕ) → to_within (elim m as (λ _. CallWith) [ zero ↦ front_with d.count (take (d.count * 12) d.list) (F d) | suc j ↦ record { call = call_of d.call.session (answer_of (suc j) n) d.call.work d.call.text; count = d.count; list = d.list; made = d.made } ])
        ≡ (elim m as (λ _. CallWithin) [ zero ↦ G (to_within d) | suc j ↦ record { call = call_of d.call.session (answer_of (suc j) n) d.call.work d.call.text; made = d.made } ])
    by zero = h
    by (suc j) = refl

go_listing : (n : ℕ) (d : CallWith) (F : CallWith → CallWith) (G : CauseCall → CauseCall) → to_causes (F d) ≡ G (to_causes d) → to_causes (go_on_with n d F) ≡ go_on n (to_causes d) G
unfolding go_on_with go_on
go_listing n d F G h = by (number_of d.call.answer)
  where
    by : (m : ℕ) → to_causes (elim m as (λ _. CallWith) [ zero ↦ front_with d.count (take (d.count * 12) d.list) (F d) | suc j ↦ record { call = call_of d.call.session (answer_of (suc j) n) d.call.work d.call.text; count = d.count; list = d.list; made = d.made } ])
        ≡ (elim m as (λ _. CauseCall) [ zero ↦ front d.count (take (d.count * 12) d.list) (G (to_causes d)) | suc j ↦ record { call = call_of d.call.session (answer_of (suc j) n) d.call.work d.call.text; count = d.count; list = d.list } ])
    by zero = ap (front d.count (take (d.count * 12) d.list)) h
    by (suc j) = refl

module _ (section : List ℕ) where
  list_plain : (ids : List ℕ) (n : ℕ) (s : Session) (w t l : List ℕ) (k : ℕ) → (list_from_with Plain n s section w t l ids k).call ≡ list_from n s section w t ids
  unfolding list_from_with list_from
  list_plain [] n s w t l k = refl
  list_plain (id ∷ ids) n s w t l k =
      go_plain n (type_call_with Plain s section w t id l k) (λ d. list_from_with Plain (suc n) d.call.session section d.call.work d.call.text (drop (d.count * 12) d.list) ids d.made)
      (λ c. list_from (suc n) c.session section c.work c.text ids) (list_plain ids (suc n) _ _ _ _ _)
      ∙ ap (λ (c : Call). then_next n c (λ d. list_from (suc n) d.session section d.work d.text ids)) (type_plain s section w t id l k)

  list_under : (c : ℕ) (ids : List ℕ) (n : ℕ) (s : Session) (w t l : List ℕ) (k : ℕ) → to_within (list_from_with (Within c) n s section w t l ids k) ≡ list_from_within c n s section w t ids k
  unfolding list_from_with list_from_within
  list_under c [] n s w t l k = refl
  list_under c (id ∷ ids) n s w t l k =
      go_under n (type_call_with (Within c) s section w t id l k) (λ d. list_from_with (Within c) (suc n) d.call.session section d.call.work d.call.text (drop (d.count * 12) d.list) ids d.made)
      (λ d. list_from_within c (suc n) d.call.session section d.call.work d.call.text ids d.made) (list_under c ids (suc n) _ _ _ _ _)
      ∙ ap (λ (q : CallWithin). counted_within n q (λ d. list_from_within c (suc n) d.call.session section d.call.work d.call.text ids d.made)) (type_under s section w t c id l k)

  list_listing : (ids : List ℕ) (n : ℕ) (s : Session) (w t l : List ℕ) (k : ℕ) → to_causes (list_from_with Listed n s section w t l ids k) ≡ list_from_causes n s section w t l ids
  unfolding list_from_with list_from_causes
  list_listing [] n s w t l k = refl
  list_listing (id ∷ ids) n s w t l k =
      go_listing n (type_call_with Listed s section w t id l k) (λ d. list_from_with Listed (suc n) d.call.session section d.call.work d.call.text (drop (d.count * 12) d.list) ids d.made)
      (λ d. list_from_causes (suc n) d.call.session section d.call.work d.call.text (drop (d.count * 12) d.list) ids) (list_listing ids (suc n) _ _ _ _ _)
      ∙ ap (λ (q : CauseCall). go_on n q (λ d. list_from_causes (suc n) d.call.session section d.call.work d.call.text (drop (d.count * 12) d.list) ids)) (type_listing s section w t id l k)

-- ---- the three calls without options
module _ (s : Session) (section w t : List ℕ) (q : Call) where
  pub only_type : (id : ℕ) (l : List ℕ) → q ≡ (type_call_with Plain s section w t id l 0).call → q ≡ type_call s section w t id
  only_type id l e = e ∙ type_plain s section w t id l 0

  pub only_types : (l : List ℕ) → q ≡ (types_call_with Plain s section w t l).call → q ≡ types_call s section w t
  only_types l e = e ∙ types_plain s section w t l

  pub only_list : (ids l : List ℕ) → q ≡ (list_call_with Plain s section w t ids l).call → q ≡ list_call s section w t ids
  unfolding list_call_with list_call
  only_list ids l e = e ∙ list_plain section ids 0 s w t l 0

-- ---- the nine calls, each as the one call at its option
pub same_call : (r : Ended) (w' t' l' : List ℕ) (d : CallWith) → ended_of r w' t' l' ≡ d → call_of r.of.session (answer_is r.of.answer) w' t' ≡ d.call
unfolding ended_of
same_call r w' t' l' d e = ap (λ (x : CallWith). x.call) e

module _ (s : Session) (section w t : List ℕ) (r : Ended) (w' t' l' : List ℕ) where
  same_within : (d : CallWith) → ended_of r w' t' l' ≡ d → counted_of r w' t' ≡ to_within d
  unfolding ended_of counted_of
  same_within d e = ap to_within e

  same_causes : (d : CallWith) → ended_of r w' t' l' ≡ d → explained_of r w' t' l' ≡ to_causes d
  unfolding ended_of explained_of
  same_causes d e = ap to_causes e

  pub call_type : (id : ℕ) (l : List ℕ) → ended_of r w' t' l' ≡ type_call_with Plain s section w t id l 0 → call_of r.of.session (answer_is r.of.answer) w' t' ≡ type_call s section w t id
  call_type id l e = only_type s section w t _ id l (same_call r w' t' l' _ e)

  pub call_types : (l : List ℕ) → ended_of r w' t' l' ≡ types_call_with Plain s section w t l → call_of r.of.session (answer_is r.of.answer) w' t' ≡ types_call s section w t
  call_types l e = only_types s section w t _ l (same_call r w' t' l' _ e)

  pub call_list : (ids l : List ℕ) → ended_of r w' t' l' ≡ list_call_with Plain s section w t ids l → call_of r.of.session (answer_is r.of.answer) w' t' ≡ list_call s section w t ids
  call_list ids l e = only_list s section w t _ ids l (same_call r w' t' l' _ e)

  pub within_type : (c id : ℕ) (l : List ℕ) → ended_of r w' t' l' ≡ type_call_with (Within c) s section w t id l 0 → counted_of r w' t' ≡ type_call_within c s section w t id 0
  within_type c id l e = same_within _ e ∙ type_under s section w t c id l 0

  pub within_types : (c : ℕ) (l : List ℕ) → ended_of r w' t' l' ≡ types_call_with (Within c) s section w t l → counted_of r w' t' ≡ types_call_within c s section w t
  within_types c l e = same_within _ e ∙ types_under s section w t c l

  pub within_list : (c : ℕ) (ids l : List ℕ) → ended_of r w' t' l' ≡ list_call_with (Within c) s section w t ids l → counted_of r w' t' ≡ list_call_within c s section w t ids
  unfolding list_call_with list_call_within
  within_list c ids l e = same_within _ e ∙ list_under section c ids 0 s w t l 0

  pub causes_type : (id : ℕ) (l : List ℕ) → ended_of r w' t' l' ≡ type_call_with Listed s section w t id l 0 → explained_of r w' t' l' ≡ type_causes s section w t id l
  causes_type id l e = same_causes _ e ∙ type_listing s section w t id l 0

  pub causes_types : (l : List ℕ) → ended_of r w' t' l' ≡ types_call_with Listed s section w t l → explained_of r w' t' l' ≡ types_causes s section w t l
  causes_types l e = same_causes _ e ∙ types_listing s section w t l

  pub causes_list : (ids l : List ℕ) → ended_of r w' t' l' ≡ list_call_with Listed s section w t ids l → explained_of r w' t' l' ≡ list_causes_call s section w t ids l
  unfolding list_call_with list_causes_call
  causes_list ids l e = same_causes _ e ∙ list_listing section ids 0 s w t l 0

-- ---- what a request with a leader for each listed id asks of the leaders
pub listed_asks : Ready Listed 1 (leader_words (replicate 262145 (record { turn = 0; lead = 0 })))
listed_asks _ = (words_length _ ∙ length-replicate {A = Leader} 262145 (record { turn = 0; lead = 0 }), none_before _ made)
