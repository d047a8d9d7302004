-- The calls for one id and for all ids that are lent a list, against the rules with entries. Assumes nothing but that opening accepts the section.
use Prim.Native.Nat.{ℕ, suc, ◌+◌, ◌-◌, ◌*◌, ◌<◌, ◌≤◌}
use mathlib.Core.Path.{◌≡◌, refl, ap, ◌∙◌, sym, subst}
use mathlib.Core.Bool.{Bool, true, false}
use mathlib.Core.List.{List, [], ◌++◌, append-nil}
use mathlib.Core.Logic.{⊎_elim}
use native.Mathlib.Omega.{arith}
use lib.ListN.{length, take, length-append}
use lib.Seq.{length-take-le}
use lib.Dec.{ltb}
use borrow.Author.Tests.{lt-ltb, le-ltb}
use Rattle.std.proofs.lemmas.Bool.{cases_lt}
use Rattle.spec_c_dumper.specs.rules.Order.{Table}
use Rattle.spec_c_dumper.specs.rules.Machine.{Machine, Sess, Answer, gate, single, every}
use Rattle.spec_c_dumper.specs.rules.Types.{Btf as Rules, table_of}
use Rattle.spec_c_dumper.specs.rules.Names.{Names}
use Rattle.spec_type_table.specs.declared.types.TypeTable.{TypeTable}
use Rattle.spec_type_table.specs.Table.{btf_of}
use Rattle.spec_opening.specs.Causes.{opening_number}
use Rattle.spec_session.specs.declared.session.Session.{Session}
use Rattle.spec_session.specs.session.Answers.{number_of}
use Rattle.spec_session.specs.session.Turns.{Call, is_current, unchanged, table_for, Reach}
use Rattle.spec_session.specs.calls.Refusals.{not_current, id_not_below, refusal}
use Rattle.spec_session.specs.calls.Calls.{type_call, types_call}
use Rattle.spec_session.proofs.calls.Claims.{closed_stays}
use Rattle.spec_c_dumper.specs.needs.Lists.{Ls}
use Rattle.spec_c_dumper.specs.needs.Session.{Known}
use Rattle.proof_demands.specs.demands.Table.{header_of, opened_table, machine_in}
use Rattle.proof_demands.specs.demands.Session.{Holds}
use Rattle.proof_demands.proofs.demands.Described.{count_described}
use Rattle.proof_demands.proofs.demands.Session.{BothReach, both_reached, both_ended, Keeps, settle, table_is, types_is, going, current, type_keeps, types_keeps}
use Rattle.spec_c_dumper.specs.origins.Causes.{Entry, up_to, shows_in, filled, entries_in, Explaining, untold, gate_traced, single_traced, every_traced, causes_of}
use Rattle.spec_session.specs.origin_calls.Bytes.{CauseCall, Reached, requested_traced, requested_from_traced, settled_traced, left_alone, type_causes, types_causes}
use Rattle.spec_c_dumper.proofs.origins.Requests.{filled_listed}
use Rattle.spec_session.proofs.origins_after.Shift.{behind, requested_shift}
use Rattle.proof_calls.specs.line_origins.Claims.{Agrees}
use Rattle.proof_calls.proofs.line_origins.Listing.{Listing, fills, leaves, listing_is}
use Rattle.proof_calls.proofs.line_origins.Reach.{BothCame, request_came, from_came}

module _ (p modes : ℕ) (s : List ℕ) (n : ℕ) (ok : opening_number p s n ≡ 0) where
  abbrev b : TypeTable
  b = header_of p modes s

  abbrev B : Rules
  B = opened_table p modes s n

  abbrev T : Table
  T = table_of B

  abbrev State : Type 0
  State = Ls (Known Names)

  abbrev X : Machine State Names
  X = machine_in p modes s n

  -- a call d that is lent the list l after the requests `told`, on a text slice of `room` bytes, and what the rules come to
  pub record Stepped (room : ℕ) (told : Explaining State) (l : List ℕ) (d : CauseCall) (t : Explaining State) : Type 0 where
    pub keeps : Keeps p modes s n ok room d.call t.answer
    pub goes_on : t.answer.number ≡ 0 → t.answer.sess.is_open ≡ true
    pub fresh : List Entry
    pub its_entries : t.entries ≡ told.entries ++ fresh
    pub its_count : d.count ≡ length fresh
    pub listing : Listing l told.zeroed fresh d.list t.zeroed

  reach_open : {room : ℕ} {r : Reach} {a : Answer State} → BothReach p modes s n ok room r a → a.number ≡ 0 → a.sess.is_open ≡ true
  reach_open (both_reached len v t L g) e = g.running
  reach_open (both_ended c len u t L g) e = absurd (let z : suc c ≡ 0 = e in omega arith)

  -- what is claimed, with no request before
  pub agrees : (l : List ℕ) (d : CauseCall) (t : Explaining State) (fs : List Entry) → Holds p modes s n d.call.session d.call.work d.call.text t.answer.sess → number_of d.call.answer ≡ t.answer.number
      → t.entries ≡ fs → d.count ≡ length fs → Listing l false fs d.list t.zeroed → Agrees d (causes_of l t)
  unfolding causes_of
  agrees l d t fs h q e k i = record {
    number = q;
    count = k ∙ ap length (sym e);
    list = listing_is l t.entries i e;
    is_open = h.is_open;
    text_len = sym (length-take-le d.call.session.text_len d.call.text h.fits) ∙ ap length h.its_text;
    text = h.its_text;
  }

  module _ (S : Session) (work text₀ : List ℕ) (told : Explaining State) (h : Holds p modes s n S work text₀ told.answer.sess) (text : List ℕ) (f : S.text_len ≤ length text)
      (same : take S.text_len text ≡ take S.text_len text₀) where
    abbrev L : Sess State
    L = told.answer.sess

    abbrev es : List Entry
    es = told.entries

    -- ---- one id
    module _ (x : ℕ) (l : List ℕ) (c : ℕ) (room_is : c ≡ length es + entries_in l) where
      abbrev single' : Explaining State
      single' = single_traced X T (up_to c) (shows_in B) (length text) x told

      abbrev came_to : Reached
      came_to = requested_traced (up_to (entries_in l)) b s x [] S.text_len S.visits work text

      -- 10 and 11
      left_step : (k : ℕ) → (k ≡ 0 → ⊥) → (d : Call) → type_call S s work text x ≡ d → single X T (length text) L x ≡ record { sess = L; number = k } → Stepped (length text) told l (left_alone d l) (record { answer = record { sess = L; number = k }; entries = es; zeroed = told.zeroed })
      left_step k i d e q = record {
        keeps = subst (λ (y : Call). Keeps p modes s n ok (length text) y (record { sess = L; number = k })) e (subst (Keeps p modes s n ok (length text) (type_call S s work text x)) q (type_keeps p modes s n ok S work text₀ L h text f same x));
        goes_on = λ z. absurd (i z);
        fresh = [];
        its_entries = sym (append-nil es);
        its_count = refl;
        listing = leaves;
      }

      abbrev At : CauseCall → Explaining State → Type 0
      At d t = Stepped (length text) told l d t

      along : {d d' : CauseCall} {t t' : Explaining State} → d ≡ d' → t ≡ t' → At d' t' → At d t
      along {d} {d'} {t} {t'} q r k = subst (λ (y : CauseCall). At y t) (sym q) (subst (At d') (sym r) k)

      step_closed : L.is_open ≡ false → At (type_causes S s work text x l) single'
      unfolding type_causes type_call single gate single_traced gate_traced
      step_closed o =
          let u : is_current S (length s) (length work) (length text) ≡ false = closed_stays S s work text (h.is_open ∙ o) in
          along (rw (u, type_causes)) (ap (λ (z : Bool). gate_traced X T (up_to c) (shows_in B) (length text) told x z (ltb x T.count)) o)
          (left_step 11 (λ z. omega arith) (unchanged S (refusal not_current S.text_len) work text) (rw (u, type_call)) (ap (λ (z : Bool). gate X T (length text) L x z (ltb x T.count)) o))

      step_past : L.is_open ≡ true → T.count ≤ x → At (type_causes S s work text x l) single'
      unfolding type_causes type_call single gate single_traced gate_traced
      step_past o j =
          let u : is_current S (length s) (length work) (length text) ≡ true = current p modes s n ok S work text₀ L h text f same o in
          let y : S.types ≤ x = subst (λ (k : ℕ). k ≤ x) (sym (types_is p modes s n ok S work text₀ L h text f same)) j in
          along (rw (u, type_causes, le-ltb x S.types y))
          (ap (λ (z : Bool). gate_traced X T (up_to c) (shows_in B) (length text) told x z (ltb x T.count)) o ∙ ap (gate_traced X T (up_to c) (shows_in B) (length text) told x true) (le-ltb x T.count j))
          (left_step 10 (λ z. omega arith) (unchanged S (refusal id_not_below S.text_len) work text) (rw (u, type_call, le-ltb x S.types y))
          (ap (λ (z : Bool). gate X T (length text) L x z (ltb x T.count)) o ∙ ap (gate X T (length text) L x true) (le-ltb x T.count j)))

      settled_step : BothCame p modes s n ok c (length text) (behind es came_to) single' → L.is_open ≡ true → At (settled_traced S (length work) (length text) l came_to) single'
      unfolding settled_traced
      settled_step k o = record {
        keeps = settle p modes s n ok S work text₀ L h (h.bears o).names.kept.long (length text) k.reaches;
        goes_on = reach_open k.reaches;
        fresh = came_to.entries;
        its_entries = sym k.same_entries;
        its_count = refl;
        listing = subst (Listing l told.zeroed came_to.entries (filled (length l) came_to.entries)) (sym k.zeroed) (fills came_to.entries (filled (length l) came_to.entries) (filled_listed (length l) came_to.entries enough));
      }
        where
          enough : 12 * length came_to.entries ≤ length l
          enough =
              let q : length single'.entries ≤ c = k.held in
              let y : length es + length came_to.entries ≡ length single'.entries = sym (length-append es came_to.entries) ∙ ap length k.same_entries in
              omega arith

      step_open : L.is_open ≡ true → x < T.count → At (type_causes S s work text x l) single'
      unfolding type_causes
      step_open o j =
          let u : is_current S (length s) (length work) (length text) ≡ true = current p modes s n ok S work text₀ L h text f same o in
          let y : x < S.types = subst (λ (k : ℕ). x < k) (sym (types_is p modes s n ok S work text₀ L h text f same)) j in
          let few : length es ≤ c = omega arith in
          let left : c - length es ≡ entries_in l = omega arith in
          let open_is : type_causes S s work text x l ≡ settled_traced S (length work) (length text) l (requested_traced (up_to (entries_in l)) (table_for S s) s x [] S.text_len S.visits work text) = rw (u, type_causes, lt-ltb x S.types y) in
          along (open_is ∙ ap (λ (K : TypeTable). settled_traced S (length work) (length text) l (requested_traced (up_to (entries_in l)) K s x [] S.text_len S.visits work text)) (table_is p modes s n ok S work text₀ L h text f same)) refl
          (settled_step (subst (λ (r : Reached). BothCame p modes s n ok c (length text) r single')
          (requested_shift c b s x es S.text_len S.visits work text ∙ ap (λ (k : ℕ). behind es (requested_traced (up_to k) b s x [] S.text_len S.visits work text)) left)
          (request_came p modes s n ok c told few S.text_len work text (length text) (going p modes s n ok S work text₀ L h text f same o) x j S.visits)) o)

      pub type_stepped : At (type_causes S s work text x l) single'
      type_stepped = by L.is_open refl
        where
          by : (o : Bool) → L.is_open ≡ o → At (type_causes S s work text x l) single'
          by true o = ⊎_elim (λ j. step_open o j) (λ j. step_past o j) (cases_lt x T.count)
          by false o = step_closed o

    -- ---- all ids
    module _ (l : List ℕ) where
      abbrev every' : Explaining State
      every' = every_traced X T (up_to (entries_in l)) (shows_in B) (length text) L L.is_open

      abbrev Ends : CauseCall → Explaining State → Type 0
      Ends d t = Stepped (length text) (untold L) l d t

      ends_along : {d d' : CauseCall} {t t' : Explaining State} → d ≡ d' → t ≡ t' → Ends d' t' → Ends d t
      ends_along {d} {d'} {t} {t'} q r k = subst (λ (y : CauseCall). Ends y t) (sym q) (subst (Ends d') (sym r) k)

      all_closed : L.is_open ≡ false → Ends (types_causes S s work text l) every'
      unfolding types_causes types_call every every_traced
      all_closed o =
          let u : is_current S (length s) (length work) (length text) ≡ false = closed_stays S s work text (h.is_open ∙ o) in
          let q : types_call S s work text ≡ unchanged S (refusal not_current S.text_len) work text = rw (u, types_call) in
          ends_along (rw (u, types_causes)) (ap (λ (z : Bool). every_traced X T (up_to (entries_in l)) (shows_in B) (length text) L z) o) (record {
            keeps = subst (λ (y : Call). Keeps p modes s n ok (length text) y (record { sess = L; number = 11 })) q
                (subst (Keeps p modes s n ok (length text) (types_call S s work text)) (ap (λ (z : Bool). every X T (length text) L z) o) (types_keeps p modes s n ok S work text₀ L h text f same));
            goes_on = λ z. absurd (let q : ◌≡◌ {A = ℕ} 11 0 = z in omega arith);
            fresh = [];
            its_entries = refl;
            its_count = refl;
            listing = leaves;
          })

      abbrev came_all : Reached
      came_all = requested_from_traced (up_to (entries_in l)) b s (T.count - 1) 1 [] S.text_len work text

      settled_all : (t : Explaining State) → BothCame p modes s n ok (entries_in l) (length text) came_all t → L.is_open ≡ true → Ends (settled_traced S (length work) (length text) l came_all) t
      unfolding settled_traced
      settled_all t k o = record {
        keeps = settle p modes s n ok S work text₀ L h (h.bears o).names.kept.long (length text) k.reaches;
        goes_on = reach_open k.reaches;
        fresh = came_all.entries;
        its_entries = sym k.same_entries;
        its_count = refl;
        listing = subst (Listing l false came_all.entries (filled (length l) came_all.entries)) (sym k.zeroed) (fills came_all.entries (filled (length l) came_all.entries) (filled_listed (length l) came_all.entries enough));
      }
        where
          enough : 12 * length came_all.entries ≤ length l
          enough = let q : length came_all.entries ≤ entries_in l = subst (λ (fs : List Entry). length fs ≤ entries_in l) (sym k.same_entries) k.held in omega arith

      counted : b.types ≡ T.count
      unfolding btf_of
      counted = refl

      all_open : L.is_open ≡ true → Ends (types_causes S s work text l) every'
      unfolding types_causes every_traced
      all_open o =
          let u : is_current S (length s) (length work) (length text) ≡ true = current p modes s n ok S work text₀ L h text f same o in
          let open_is : types_causes S s work text l ≡ settled_traced S (length work) (length text) l (requested_from_traced (up_to (entries_in l)) (table_for S s) s ((table_for S s).types - 1) 1 [] S.text_len work text) = rw (u, types_causes) in
          let begun : Explaining State = record { answer = record { sess = L; number = 0 }; entries = []; zeroed = true } in
          ends_along
          (open_is ∙ ap (λ (K : TypeTable). settled_traced S (length work) (length text) l (requested_from_traced (up_to (entries_in l)) K s (K.types - 1) 1 [] S.text_len work text)) (table_is p modes s n ok S work text₀ L h text f same)
          ∙ ap (λ (k : ℕ). settled_traced S (length work) (length text) l (requested_from_traced (up_to (entries_in l)) b s (k - 1) 1 [] S.text_len work text)) counted)
          (ap (λ (z : Bool). every_traced X T (up_to (entries_in l)) (shows_in B) (length text) L z) o)
          (settled_all (every_traced X T (up_to (entries_in l)) (shows_in B) (length text) L true)
          (from_came p modes s n ok (entries_in l) (length text) (T.count - 1) 1 (omega (arith, count_described p modes s n ok)) begun (omega arith) refl refl S.text_len work text (going p modes s n ok S work text₀ L h text f same o)) o)

      pub types_stepped : Ends (types_causes S s work text l) every'
      types_stepped = by L.is_open refl
        where
          by : (o : Bool) → L.is_open ≡ o → Ends (types_causes S s work text l) every'
          by true o = all_open o
          by false o = all_closed o
