-- The call for a list of ids that is lent a list of entries, against the rules with entries. Assumes nothing but that opening accepts the section.
use Prim.Native.Nat.{ℕ, zero, suc, ◌+◌, ◌-◌, ◌*◌, ◌≤◌}
use mathlib.Core.Path.{◌≡◌, refl, ap, ◌∙◌, sym, subst}
use mathlib.Core.Bool.{Bool, true, false, true≢false}
use mathlib.Core.List.{List, [], ◌∷◌, ◌++◌, append_assoc, append-nil}
use mathlib.Core.Logic.{⊎_elim}
use native.Mathlib.Omega.{arith}
use lib.ListN.{length, take, drop, length-append, length-drop}
use lib.Dec.{ltb}
use Rattle.std.proofs.lemmas.Bool.{cases_lt}
use Rattle.spec_c_dumper.specs.rules.Order.{Table, Res, ok, refused}
use Rattle.spec_c_dumper.specs.rules.Machine.{Out, wrote, stuck, Machine, shut}
use Rattle.spec_c_dumper.specs.rules.Types.{Btf as Rules, table_of}
use Rattle.spec_c_dumper.specs.rules.Names.{Names}
use Rattle.spec_opening.specs.Causes.{opening_number}
use Rattle.spec_session.specs.declared.session.Session.{Session}
use Rattle.spec_session.specs.session.Answers.{number_of, value_of, answer_of}
use Rattle.spec_session.specs.session.Turns.{Call, call_of}
use Rattle.spec_session.specs.calls.Calls.{type_call}
use Rattle.spec_session.proofs.calls.Claims.{number_is, value_is}
use Rattle.spec_session.proofs.calls.Lists.{type_single}
use Rattle.spec_c_dumper.specs.needs.Lists.{Ls}
use Rattle.spec_c_dumper.specs.needs.Session.{Known}
use Rattle.proof_demands.specs.demands.Table.{opened_table, machine_in}
use Rattle.proof_demands.specs.demands.Session.{Holds}
use Rattle.spec_c_dumper.specs.origins.Causes.{Entry, WithLeaders, order_with_leaders, listed_entry, Traced, each_listed, up_to, shows_in, entries_in, Explaining, dropped, emitted_traced, ordered_traced, gate_traced, single_traced, onward_traced, list_traced}
use Rattle.spec_session.specs.origin_calls.Bytes.{CauseCall, type_causes, CauseFits}
use Rattle.spec_session.proofs.origin_calls.Bytes.{type_fits}
use Rattle.spec_session.specs.origin_calls.Several.{front, go_on, list_from_causes}
use Rattle.proof_calls.proofs.line_origins.Listing.{Listing, leaves, listing_size, listing_then}
use Rattle.proof_calls.proofs.line_origins.Calls.{Stepped, type_stepped}

-- an accepted request keeps the length of the text slice
text_long : (S : Session) (s work text : List ℕ) (x : ℕ) (l : List ℕ) → number_of (type_causes S s work text x l).call.answer ≡ 0 → length (type_causes S s work text x l).call.text ≡ length text
text_long S s work text x l e =
    let fit : CauseFits (type_call S s work text x) (λ k. type_causes S s work text x k) = type_fits S s work text x in
    ⊎_elim (λ r. absurd (let z : 17 ≡ 0 = sym (fit.short l r) ∙ e in omega arith)) (λ r. ap (λ (d : Call). length d.text) (fit.same l r) ∙ (type_single S s work text x).long) (cases_lt (entries_in l) fit.need)

-- what a request for x comes to: if it is accepted, x is among those asked for; a refused one is not
record Asks {M : Type 0} (told : Explaining M) (x : ℕ) (t : Explaining M) : Type 0 where
  accepted : t.answer.sess.is_open ≡ true → t.answer.number ≡ 0 → t.answer.sess.asked ≡ told.answer.sess.asked ++ (x ∷ [])
  not_so : (t.answer.number ≡ 0 → ⊥) → t.answer.sess.asked ≡ told.answer.sess.asked

module _ {M H : Type 0} (X : Machine M H) (T : Table) (more shows : ℕ → Bool) (told : Explaining M) (x : ℕ) where
  dropped_asks : (h : H) (e : ℕ) → Asks told x (dropped X T more shows told h e)
  unfolding dropped shut
  dropped_asks h e = record { accepted = λ o q. absurd (true≢false (sym o)); not_so = λ q. refl }

  emitted_asks : (o : Out (Traced M) H) → Asks told x (emitted_traced X T more shows told x o)
  unfolding emitted_traced
  emitted_asks (wrote m) = record { accepted = λ o q. refl; not_so = λ q. absurd (q refl) }
  emitted_asks (stuck h e) = dropped_asks h e

  ordered_asks : (r : Res (WithLeaders M)) → Asks told x (ordered_traced X T more shows told x r)
  unfolding ordered_traced
  ordered_asks (ok s b) = emitted_asks (each_listed X T more shows (listed_entry x s.leaders) (X.store.list s.state) (record { mach = s.state; entries = told.entries }))
  ordered_asks (refused e) = dropped_asks (X.held told.answer.sess.mach) e

  gate_asks : (room : ℕ) (o b : Bool) → Asks told x (gate_traced X T more shows room told x o b)
  unfolding gate_traced
  gate_asks room false b = record { accepted = λ o q. absurd (let z : ◌≡◌ {A = ℕ} 11 0 = q in omega arith); not_so = λ q. refl }
  gate_asks room true false = record { accepted = λ o q. absurd (let z : ◌≡◌ {A = ℕ} 10 0 = q in omega arith); not_so = λ q. refl }
  gate_asks room true true = ordered_asks (order_with_leaders X.store x 512 T [] (record { state = X.start room told.answer.sess.mach; leaders = [] }) x false)

  single_asks : (room : ℕ) → Asks told x (single_traced X T more shows room x told)
  unfolding single_traced
  single_asks room = gate_asks room told.answer.sess.is_open (ltb x T.count)

-- after k accepted ids: an id that is accepted, and one that is not
module _ (k : ℕ) (d : CauseCall) (next : CauseCall → CauseCall) where
  goes : (c : ℕ) → d.count ≡ c → number_of d.call.answer ≡ 0 → go_on k d next ≡ front c (take (c * 12) d.list) (next d)
  unfolding go_on
  goes c q e =
      ap (λ (x : ℕ). elim x as (λ (y : ℕ). CauseCall) [ zero ↦ front d.count (take (d.count * 12) d.list) (next d) | suc m ↦ record { call = call_of d.call.session (answer_of (suc m) k) d.call.work d.call.text; count = d.count; list = d.list } ]) e
      ∙ ap (λ (x : ℕ). front x (take (x * 12) d.list) (next d)) q

  stops : (m : ℕ) → number_of d.call.answer ≡ suc m → go_on k d next ≡ record { call = call_of d.call.session (answer_of (suc m) k) d.call.work d.call.text; count = d.count; list = d.list }
  unfolding go_on
  stops m e =
      ap (λ (x : ℕ). elim x as (λ (y : ℕ). CauseCall) [ zero ↦ front d.count (take (d.count * 12) d.list) (next d) | suc m ↦ record { call = call_of d.call.session (answer_of (suc m) k) d.call.work d.call.text; count = d.count; list = d.list } ]) e

module _ (p modes : ℕ) (s : List ℕ) (n : ℕ) (ok : opening_number p s n ≡ 0) where
  abbrev B : Rules
  B = opened_table p modes s n

  abbrev T : Table
  T = table_of B

  abbrev State : Type 0
  State = Ls (Known Names)

  abbrev X : Machine State Names
  X = machine_in p modes s n

  -- a call d for some ids after k accepted ones, lent the list l after the requests `told`, and what the rules come to
  pub record Went (k : ℕ) (told : Explaining State) (l : List ℕ) (d : CauseCall) (t : Explaining State) : Type 0 where
    pub holds : Holds p modes s n d.call.session d.call.work d.call.text t.answer.sess
    pub its_number : number_of d.call.answer ≡ t.answer.number
    pub its_value : length told.answer.sess.asked + value_of d.call.answer ≡ k + length t.answer.sess.asked
    pub fresh : List Entry
    pub its_entries : t.entries ≡ told.entries ++ fresh
    pub its_count : d.count ≡ length fresh
    pub listing : Listing l told.zeroed fresh d.list t.zeroed

  -- no ids
  no_ids : (k : ℕ) (S : Session) (work text₀ : List ℕ) (told : Explaining State) → Holds p modes s n S work text₀ told.answer.sess → told.answer.number ≡ 0 → (text : List ℕ) → S.text_len ≤ length text
      → take S.text_len text ≡ take S.text_len text₀ → (l : List ℕ) → Went k told l (record { call = call_of S (answer_of 0 k) work text; count = 0; list = l }) told
  unfolding call_of
  no_ids k S work text₀ told h z text f same l = record {
    holds = record {
      is_open = h.is_open;
      section = h.section;
      its_work = h.its_work;
      types = h.types;
      pointer_size = h.pointer_size;
      mode = h.mode;
      its_length = h.its_length;
      its_text = same ∙ h.its_text;
      fits = f;
      small = h.small;
      bears = h.bears;
    };
    its_number = number_is 0 k ∙ sym z;
    its_value = omega (arith, value_is 0 k);
    fresh = [];
    its_entries = sym (append-nil told.entries);
    its_count = refl;
    listing = leaves;
  }

  -- one id, and what follows it
  module _ (room k x : ℕ) (told t : Explaining State) (l : List ℕ) (d : CauseCall) (h : Stepped p modes s n ok room told l d t) (asks : Asks told x t) (next : CauseCall → CauseCall) (rest : Explaining State → Explaining State) (c : ℕ) where
    abbrev after : List ℕ
    after = drop (length h.fresh * 12) d.list

    refused_went : (m : ℕ) → number_of d.call.answer ≡ suc m → Went k told l (go_on k d next) (onward_traced X T (up_to c) (shows_in B) rest t)
    unfolding onward_traced call_of
    refused_went m e =
        let z : t.answer.number ≡ suc m = sym h.keeps.tells.number ∙ e in
        let a : length t.answer.sess.asked ≡ length told.answer.sess.asked = ap length (asks.not_so (λ y. absurd (let q : suc m ≡ 0 = sym z ∙ y in omega arith))) in
        subst (λ (y : CauseCall). Went k told l y (onward_traced X T (up_to c) (shows_in B) rest t)) (sym (stops k d next m e))
        (subst (λ (y : ℕ). Went k told l (record { call = call_of d.call.session (answer_of (suc m) k) d.call.work d.call.text; count = d.count; list = d.list }) (elim y as (λ (i : ℕ). Explaining State) [ zero ↦ rest t | suc j ↦ t ])) (sym z)
        (record { holds = h.keeps.holds; its_number = number_is (suc m) k ∙ sym z; its_value = omega (arith, a, value_is (suc m) k); fresh = h.fresh; its_entries = h.its_entries; its_count = h.its_count; listing = h.listing }))

    accepted_went : number_of d.call.answer ≡ 0 → Went (suc k) t after (next d) (rest t) → Went k told l (go_on k d next) (onward_traced X T (up_to c) (shows_in B) rest t)
    unfolding onward_traced
    accepted_went e i =
        let z : t.answer.number ≡ 0 = sym h.keeps.tells.number ∙ e in
        let a : length t.answer.sess.asked ≡ length told.answer.sess.asked + 1 = ap length (asks.accepted (h.goes_on z) z) ∙ length-append told.answer.sess.asked (x ∷ []) in
        subst (λ (y : CauseCall). Went k told l y (onward_traced X T (up_to c) (shows_in B) rest t)) (sym (goes k d next (length h.fresh) h.its_count e))
        (subst (λ (y : ℕ). Went k told l (front (length h.fresh) (take (length h.fresh * 12) d.list) (next d)) (elim y as (λ (i : ℕ). Explaining State) [ zero ↦ rest t | suc j ↦ t ])) (sym z)
        (record {
          holds = i.holds;
          its_number = i.its_number;
          its_value = omega (arith, a, i.its_value);
          fresh = h.fresh ++ i.fresh;
          its_entries = i.its_entries ∙ ap (λ (k : List Entry). k ++ i.fresh) h.its_entries ∙ append_assoc told.entries h.fresh i.fresh;
          its_count = ap (λ (k : ℕ). length h.fresh + k) i.its_count ∙ sym (length-append h.fresh i.fresh);
          listing = listing_then l told.zeroed h.listing i.listing;
        }))

  -- the room that is left after one id
  room_after : (room : ℕ) (told t : Explaining State) (l : List ℕ) (d : CauseCall) (h : Stepped p modes s n ok room told l d t) (c : ℕ) → c ≡ length told.entries + entries_in l → c ≡ length t.entries + entries_in (drop (length h.fresh * 12) d.list)
  room_after room told t l d h c q =
      let a : (length d.list ≡ length l) × (12 * length h.fresh ≤ length l) = listing_size h.listing in
      let u : length d.list ≡ length l = a.0 in
      let y : 12 * length h.fresh ≤ length l = a.1 in
      let v : length (drop (length h.fresh * 12) d.list) ≡ length d.list - length h.fresh * 12 = length-drop (length h.fresh * 12) d.list in
      let i : length t.entries ≡ length told.entries + length h.fresh = ap length h.its_entries ∙ length-append told.entries h.fresh in
      omega arith

  -- the id x of a list, before others
  module _ (x : ℕ) (ids : List ℕ) (k : ℕ) (S : Session) (work text₀ : List ℕ) (told : Explaining State) (h : Holds p modes s n S work text₀ told.answer.sess) (text : List ℕ) (f : S.text_len ≤ length text)
      (same : take S.text_len text ≡ take S.text_len text₀) (l : List ℕ) (c : ℕ) (r : c ≡ length told.entries + entries_in l) where
    abbrev d₁ : CauseCall
    d₁ = type_causes S s work text x l

    abbrev t₁ : Explaining State
    t₁ = single_traced X T (up_to c) (shows_in B) (length text) x told

    abbrev others : ℕ → Explaining State → Explaining State
    others room t = list_traced X T (up_to c) (shows_in B) room ids t

    abbrev further : CauseCall → CauseCall
    further d = list_from_causes (suc k) d.call.session s d.call.work d.call.text (drop (d.count * 12) d.list) ids

    one : Stepped p modes s n ok (length text) told l d₁ t₁
    one = type_stepped p modes s n ok S work text₀ told h text f same x l c r

    abbrev left : List ℕ
    left = drop (length one.fresh * 12) d₁.list

    abbrev asking : Asks told x t₁
    asking = single_asks X T (up_to c) (shows_in B) told x (length text)

    one_more : (number_of d₁.call.answer ≡ 0 → Went (suc k) t₁ left (list_from_causes (suc k) d₁.call.session s d₁.call.work d₁.call.text left ids) (others (length d₁.call.text) t₁))
        → Went k told l (go_on k d₁ further) (onward_traced X T (up_to c) (shows_in B) (others (length text)) t₁)
    one_more i = by (number_of d₁.call.answer) refl
      where
        by : (m : ℕ) → number_of d₁.call.answer ≡ m → Went k told l (go_on k d₁ further) (onward_traced X T (up_to c) (shows_in B) (others (length text)) t₁)
        by (suc m) e = refused_went (length text) k x told t₁ l d₁ one asking further (others (length text)) c m e
        by zero e =
            accepted_went (length text) k x told t₁ l d₁ one asking further (others (length text)) c e
            (subst (λ (j : ℕ). Went (suc k) t₁ left (list_from_causes (suc k) d₁.call.session s d₁.call.work d₁.call.text (drop (j * 12) d₁.list) ids) (others (length text) t₁)) (sym one.its_count)
            (subst (λ (j : ℕ). Went (suc k) t₁ left (list_from_causes (suc k) d₁.call.session s d₁.call.work d₁.call.text left ids) (others j t₁)) (text_long S s work text x l e) (i e)))

  pub list_went : (ids : List ℕ) (k : ℕ) (S : Session) (work text₀ : List ℕ) (told : Explaining State) → Holds p modes s n S work text₀ told.answer.sess → told.answer.number ≡ 0
      → (text : List ℕ) → S.text_len ≤ length text → take S.text_len text ≡ take S.text_len text₀ → (l : List ℕ) (c : ℕ) → c ≡ length told.entries + entries_in l
      → Went k told l (list_from_causes k S s work text l ids) (list_traced X T (up_to c) (shows_in B) (length text) ids told)
  unfolding list_from_causes list_traced
  list_went [] k S work text₀ told h z text f same l c r = no_ids k S work text₀ told h z text f same l
  list_went (x ∷ ids) k S work text₀ told h z text f same l c r =
      let d : CauseCall = type_causes S s work text x l in
      let t : Explaining State = single_traced X T (up_to c) (shows_in B) (length text) x told in
      let o : Stepped p modes s n ok (length text) told l d t = one x ids k S work text₀ told h text f same l c r in
      one_more x ids k S work text₀ told h text f same l c r
      (λ e. list_went ids (suc k) d.call.session d.call.work d.call.text t o.keeps.holds (sym o.keeps.tells.number ∙ e) d.call.text o.keeps.holds.fits refl (drop (length o.fresh * 12) d.list) c
      (room_after (length text) told t l d o c r))
