-- What 22 leaves: the text of the requests accepted before it, in a closed session. Assumes nothing but that opening accepts the section.
use Prim.Native.Nat.{ℕ, zero, suc, ◌+◌, ◌-◌, ◌%◌, ◌<◌, ◌≤◌}
use mathlib.Core.Path.{◌≡◌, refl, ap, ◌∙◌, sym, subst}
use mathlib.Core.Bool.{true, false}
use mathlib.Core.List.{List, [], ◌∷◌}
use mathlib.Core.Logic.{⊎_elim}
use native.Mathlib.Omega.{arith}
use native.Mathlib.Nat.{le_refl}
use lib.ListN.{length, take}
use lib.Seq.{length-take-le, take-take}
use lib.Dec.{eqb}
use Rattle.std.proofs.lemmas.Bool.{cases_lt}
use Rattle.spec_c_dumper.specs.rules.Order.{Table}
use Rattle.spec_c_dumper.specs.rules.Machine.{Machine, Sess, Answer, Req, single, serve, run}
use Rattle.spec_c_dumper.specs.rules.Names.{Names}
use Rattle.spec_type_table.specs.declared.types.TypeTable.{TypeTable}
use Rattle.spec_type_table.specs.Table.{btf_of}
use Rattle.spec_session.specs.metered.Metered.{calls_in}
use Rattle.btf_open_causes.specs.header.Header.{btf_of as settings_of}
use Rattle.spec_opening.specs.Causes.{opening_number}
use Rattle.spec_session.specs.declared.session.Session.{Session}
use Rattle.spec_session.specs.session.Answers.{number_of, value_of, answer_of}
use Rattle.spec_session.specs.session.Turns.{Call, call_of, is_current, Reach, reached, refused_by, settled, table_for, visits_in}
use Rattle.spec_session.specs.calls.Calls.{requested, type_call}
use Rattle.spec_session.proofs.calls.Fair.{Listed}
use Rattle.spec_session.proofs.calls.Claims.{number_is, value_is, zeros_length, zeros_head, request_sane}
use Rattle.spec_session.proofs.calls.Lists.{open_now, sane_listed, type_single}
use Rattle.spec_session.specs.metered.Within.{Within, CallWithin, requested_within, onward_within, requested_from_within, type_call_within, types_call_within}
use Rattle.spec_session.specs.metered.Lists.{counted_within, list_from_within}
use Rattle.spec_session.proofs.metered.Laws.{request_fits, request_over}
use Rattle.spec_session.proofs.metered.Claims.{type_fits}
use Rattle.spec_session.specs.metered.Fits.{FitsCeiling}
use Rattle.spec_session.proofs.metered.Laws.{counted_goes, counted_stops}
use Rattle.spec_c_dumper.specs.needs.Lists.{Ls}
use Rattle.spec_c_dumper.specs.needs.Session.{Known, text_of}
use Rattle.proof_demands.specs.demands.Table.{header_of, machine_in}
use Rattle.proof_demands.specs.demands.Session.{Holds, singles_for}
use Rattle.proof_demands.specs.demands.Demands.{types_in}
use Rattle.proof_demands.proofs.demands.Described.{count_described}
use Rattle.proof_demands.proofs.demands.Session.{Going, BothReach, both_reached, both_ended, request_reach, going, type_keeps, union_kept, arrays_kept, placing_kept}
use Rattle.proof_calls.specs.ceilings.Ceilings.{Over, one_more_if, accepted_from, accepted_of, ones_from}
use Rattle.proof_calls.proofs.ceilings.Over.{TypeOver, type_over, every, TypesOver, types_over}

abbrev State : Type 0
State = Ls (Known Names)

-- a closed record and a text that stand for the session L of the rules, which goes on
pub record Shut (S : Session) (t : List ℕ) (L : Sess State) : Type 0 where
  pub closed : S.«open» ≡ false
  pub running : L.is_open ≡ true
  pub its_text : take S.text_len t ≡ text_of L.mach.pieces
  pub fits : S.text_len ≤ length t

-- where requests were stopped, on a text slice of `room` bytes
pub record Stopped (room len : ℕ) (t : List ℕ) (L : Sess State) : Type 0 where
  pub running : L.is_open ≡ true
  pub its_text : take len t ≡ text_of L.mach.pieces
  pub fits : len ≤ length t
  pub inside : len ≤ room

settled_shut : (S : Session) (wn room e len u : ℕ) (t : List ℕ) (L : Sess State) → Stopped room len t L → Shut (settled S wn room (refused_by e len u t)).session (settled S wn room (refused_by e len u t)).text L
unfolding settled
settled_shut S wn room e len u t L h = record {
  closed = refl;
  running = h.running;
  its_text = zeros_head len room t h.fits h.inside len (le_refl len) ∙ h.its_text;
  fits = subst (λ (k : ℕ). len ≤ k) (sym (zeros_length len room t h.fits h.inside)) h.inside;
}

module _ (p modes : ℕ) (s : List ℕ) (n : ℕ) (ok : opening_number p s n ≡ 0) where
  abbrev b : TypeTable
  b = header_of p modes s

  abbrev T : Table
  T = types_in p modes s n

  abbrev X : Machine State Names
  X = machine_in p modes s n

  -- ---- n ids from x on, under the ceiling c
  module _ (c room : ℕ) where
    stopped_here : (len : ℕ) (v t : List ℕ) (L : Sess State) → Going p modes s n ok len v t room L → Stopped room len (take len t) L
    stopped_here len v t L g = record {
      running = g.running;
      its_text = take-take len len t (le_refl len) ∙ g.its_text;
      fits = subst (λ (k : ℕ). len ≤ k) (sym (length-take-le len t g.fits)) (le_refl len);
      inside = subst (λ (k : ℕ). len ≤ k) g.long g.fits;
    }

    -- after a request that fits
    next_over : (F : ℕ → List ℕ → List ℕ → ℕ → Within) (A : ℕ → List ℕ → List ℕ → ℕ → ℕ) (x j len' u' : ℕ) (t' : List ℕ)
        → ((len : ℕ) (v t : List ℕ) (L : Sess State) → Going p modes s n ok len v t room L → (F len v t j).reach ≡ refused_by 22 len' u' t' → Stopped room len' t' (run X T (ones_from room (A len v t j) (suc x)) L))
        → (L : Sess State) {r : Reach} {a : Answer State} → single X T room L x ≡ a → BothReach p modes s n ok room r a → ((e len u : ℕ) (t : List ℕ) → r ≡ refused_by e len u t → Listed e)
        → (onward_within r j F).reach ≡ refused_by 22 len' u' t' → Stopped room len' t' (run X T (ones_from room (one_more_if r j A) x) L)
    unfolding onward_within one_more_if ones_from run serve
    next_over F A x j len' u' t' h L q (both_reached len v t L₁ g) l e =
        subst (λ (K : Answer State). Stopped room len' t' (run X T (ones_from room (A len v t j) (suc x)) K.sess)) (sym q) (h len v t L₁ g e)
    next_over F A x j len' u' t' h L q (both_ended d len u t L₁ g) l e = let z = l 22 len' u' t' e in absurd (omega (arith, z.1))

    -- one more id
    module _ (F : ℕ → List ℕ → List ℕ → ℕ → Within) (A : ℕ → List ℕ → List ℕ → ℕ → ℕ) (x len : ℕ) (v t : List ℕ) (L : Sess State) (g : Going p modes s n ok len v t room L) (m len' u' : ℕ) (t' : List ℕ) (below : x < T.count)
        (h : (j len₁ : ℕ) (v₁ t₁ : List ℕ) (L₁ : Sess State) → Going p modes s n ok len₁ v₁ t₁ room L₁ → (F len₁ v₁ t₁ j).reach ≡ refused_by 22 len' u' t' → Stopped room len' t' (run X T (ones_from room (A len₁ v₁ t₁ j) (suc x)) L₁)) where
      abbrev Goal : Within → Type 0
      Goal a = (onward_within a.reach a.made F).reach ≡ refused_by 22 len' u' t' → Stopped room len' t' (run X T (ones_from room (one_more_if a.reach a.made A) x) L)

      listed : (e' l' d' : ℕ) (u : List ℕ) → requested b s x len (visits_in v) v t ≡ refused_by e' l' d' u → Listed e'
      listed e' l' d' u q = sane_listed len (take len t) (length t) (requested b s x len (visits_in v) v t) (request_sane len (take len t) (length t) len t (le_refl len) g.fits refl refl b s x (visits_in v) v) e' l' d' u q

      ends_here : (d : ℕ) → Goal (record { reach = refused_by 22 len (visits_in v) (take len t); made = d })
      unfolding onward_within one_more_if ones_from run
      ends_here d q =
          let el : len ≡ len' = cc in
          let et : take len t ≡ t' = cc in
          subst (λ (y : ℕ). Stopped room y t' L) el (subst (λ (y : List ℕ). Stopped room len y L) et (stopped_here len v t L g))

      step_over : Goal (requested_within c b s x len (visits_in v) v t m)
      step_over = ⊎_elim
          (λ i. subst Goal (sym (request_over c b s x len (visits_in v) v t m i)) (ends_here c))
          (λ i. subst Goal (sym (request_fits c b s x len (visits_in v) v t m i))
          (λ q. next_over F A x (m + calls_in b s v x) len' u' t' (h (m + calls_in b s v x)) L refl (request_reach p modes s n ok len v t room L g x (visits_in v) below) listed q))
          (cases_lt c (m + calls_in b s v x))

    not_reached : (len : ℕ) (v t : List ℕ) (len' u' : ℕ) (t' : List ℕ) → reached len v t ≡ refused_by 22 len' u' t' → ⊥
    not_reached len v t len' u' t' q = let z : ◌≡◌ {A = ℕ} 0 1 = cc in absurd (omega arith)

    pub from_over : (k x : ℕ) → x + k ≤ T.count → (len : ℕ) (v t : List ℕ) (L : Sess State) → Going p modes s n ok len v t room L → (m len' u' : ℕ) (t' : List ℕ)
        → (requested_from_within c b s k x len v t m).reach ≡ refused_by 22 len' u' t' → Stopped room len' t' (run X T (ones_from room (accepted_from c b s k x len v t m) x) L)
    unfolding requested_from_within accepted_from
    from_over zero x l len v t L g m len' u' t' e = absurd (not_reached len v t len' u' t' e)
    from_over (suc k) x l len v t L g m len' u' t' e =
        step_over (requested_from_within c b s k (suc x)) (accepted_from c b s k (suc x)) x len v t L g m len' u' t' (omega arith)
        (λ j len₁ v₁ t₁ L₁ g₁ q. from_over k (suc x) (omega arith) len₁ v₁ t₁ L₁ g₁ j len' u' t' q) e

  -- ---- a call after another, lent a text that begins with the text so far
  module _ (c : ℕ) (S : Session) (work text₀ : List ℕ) (L : Sess State) (h : Holds p modes s n S work text₀ L) (text : List ℕ) (f : S.text_len ≤ length text)
      (same : take S.text_len text ≡ take S.text_len text₀) where
    table_is : table_for S s ≡ b
    unfolding settings_of
    table_is =
        ap (λ (k : ℕ). settings_of s k S.modes S.types) h.pointer_size
        ∙ ap (λ (k : ℕ). settings_of s p k S.types) h.mode
        ∙ ap (settings_of s p (modes % 16)) h.types
        ∙ (λ i. record { ptr_sz = b.ptr_sz; union_as_struct = eqb (union_kept modes i) 1; big_endian = b.big_endian; strong_arrays = eqb (arrays_kept modes i) 1; placing = eqb (placing_kept modes i) 1; types = b.types; strs = b.strs })

    running : is_current S (length s) (length work) (length text) ≡ true → L.is_open ≡ true
    running q = sym h.is_open ∙ open_now S s work text q

    pub one_shut : (id k : ℕ) → Over (type_call_within c S s work text id k).call → Shut (type_call_within c S s work text id k).call.session (type_call_within c S s work text id k).call.text L
    one_shut id k o =
        let e : TypeOver S s work text c id k = type_over S s work text c id k o in
        subst (λ (y : Call). Shut y.session y.text L) (sym e.ended)
        (settled_shut S (length work) (length text) 22 S.text_len S.visits (take S.text_len text) L (stopped_here c (length text) S.text_len work text L (going p modes s n ok S work text₀ L h text f same (running e.current))))

    counted : T.count ≡ b.types
    unfolding btf_of
    counted = refl

    every_shut : (r : Reach) (L' : Sess State) → number_of (settled S (length work) (length text) r).answer ≡ 22 → ((len u : ℕ) (t : List ℕ) → r ≡ refused_by 22 len u t → Stopped (length text) len t L')
        → Shut (settled S (length work) (length text) r).session (settled S (length work) (length text) r).text L'
    unfolding settled
    every_shut (reached len v t) L' o k = let z = sym (number_is 0 len) ∙ o in absurd (omega arith)
    every_shut (refused_by e len u t) L' o k =
        let z : e ≡ 22 = sym (number_is e len) ∙ o in
        settled_shut S (length work) (length text) e len u t L' (k len u t (ap (λ (y : ℕ). refused_by y len u t) z))

    abbrev AllShut : TypeTable → Type 0
    AllShut B = (len u : ℕ) (t : List ℕ) → (requested_from_within c B s (B.types - 1) 1 S.text_len work text 0).reach ≡ refused_by 22 len u t
        → Stopped (length text) len t (run X T (ones_from (length text) (accepted_from c B s (B.types - 1) 1 S.text_len work text 0) 1) L)

    pub all_shut : Over (types_call_within c S s work text).call
        → Shut (types_call_within c S s work text).call.session (types_call_within c S s work text).call.text (run X T (ones_from (length text) (accepted_of c S s work text) 1) L)
    all_shut o =
        let e : TypesOver S s work text c = types_over S s work text c o in
        let g : Going p modes s n ok S.text_len work text (length text) L = going p modes s n ok S work text₀ L h text f same (running e.current) in
        let k : AllShut b = λ len u t q. from_over c (length text) (b.types - 1) 1 (omega (arith, count_described p modes s n ok, counted)) S.text_len work text L g 0 len u t q in
        subst (λ (y : Call). Shut y.session y.text (run X T (ones_from (length text) (accepted_of c S s work text) 1) L)) (sym e.ended)
        (every_shut (every S s work text c) _ (ap (λ (y : Call). number_of y.answer) (sym e.ended) ∙ o) (subst AllShut (sym table_is) k))

  -- ---- a list of ids, of which k were accepted before
  abbrev Ends : ℕ → ℕ → Call → List ℕ → Sess State → Type 0
  Ends room k y ids L = (k ≤ value_of y.answer) × Shut y.session y.text (run X T (singles_for room (value_of y.answer - k) ids) L)

  singles_none : (room : ℕ) (ids : List ℕ) → singles_for room 0 ids ≡ []
  unfolding singles_for
  singles_none room ids = refl

  module _ (c k : ℕ) (S : Session) (work text₀ : List ℕ) (L : Sess State) (h : Holds p modes s n S work text₀ L) (text : List ℕ) (f : S.text_len ≤ length text)
      (same : take S.text_len text ≡ take S.text_len text₀) (x : ℕ) (ids : List ℕ) (m : ℕ) (few : m ≤ c) where
    abbrev d : CallWithin
    d = type_call_within c S s work text x m

    abbrev rest : CallWithin → CallWithin
    rest y = list_from_within c (suc k) y.call.session s y.call.work y.call.text ids y.made

    -- the next one is refused, so by 22
    list_stops : (j : ℕ) → number_of d.call.answer ≡ suc j → Over (counted_within k d rest).call → Ends (length text) k (counted_within k d rest).call (x ∷ ids) L
    unfolding call_of run
    list_stops j e o =
        let st : counted_within k d rest ≡ record { call = call_of d.call.session (answer_of (suc j) k) d.call.work d.call.text; made = d.made } = counted_stops k (suc j) d rest e (λ z. absurd (omega arith)) in
        let z : suc j ≡ 22 = sym (number_is (suc j) k) ∙ ap (λ (y : CallWithin). number_of y.call.answer) (sym st) ∙ o in
        let shut : Shut d.call.session d.call.text L = one_shut c S work text₀ L h text f same x m (e ∙ z) in
        let none : singles_for (length text) (value_of (answer_of (suc j) k) - k) (x ∷ ids) ≡ [] = ap (λ (y : ℕ). singles_for (length text) y (x ∷ ids)) (omega (arith, value_is (suc j) k)) ∙ singles_none (length text) (x ∷ ids) in
        subst (λ (y : CallWithin). Ends (length text) k y.call (x ∷ ids) L) (sym st)
        (omega (arith, value_is (suc j) k), subst (λ (rs : List Req). Shut d.call.session d.call.text (run X T rs L)) (sym none) shut)

    list_goes : number_of d.call.answer ≡ 0 → Ends (length text) (suc k) (rest d).call ids (single X T (length text) L x).sess → Ends (length text) k (counted_within k d rest).call (x ∷ ids) L
    unfolding run serve singles_for
    list_goes e i =
        subst (λ (y : CallWithin). Ends (length text) k y.call (x ∷ ids) L) (sym (counted_goes k d rest e))
        (let more : value_of (rest d).call.answer - k ≡ suc (value_of (rest d).call.answer - suc k) = omega (arith, i.0) in
        (omega (arith, i.0), subst (λ (y : ℕ). Shut (rest d).call.session (rest d).call.text (run X T (singles_for (length text) y (x ∷ ids)) L)) (sym more) i.1))

    abbrev L₁ : Sess State
    L₁ = (single X T (length text) L x).sess

    list_next : (Holds p modes s n d.call.session d.call.work d.call.text L₁ → d.made ≤ c → Over (rest d).call → Ends (length d.call.text) (suc k) (rest d).call ids L₁)
        → Over (counted_within k d rest).call → Ends (length text) k (counted_within k d rest).call (x ∷ ids) L
    list_next i o = by (number_of d.call.answer) refl
      where
        by : (j : ℕ) → number_of d.call.answer ≡ j → Ends (length text) k (counted_within k d rest).call (x ∷ ids) L
        by zero e =
            let fits : FitsCeiling c (type_call S s work text x) (λ y. type_call_within y S s work text x m) = type_fits S s work text c x m few (λ z. absurd (omega (arith, e, z))) in
            let long : length d.call.text ≡ length text = ap (λ (y : Call). length y.text) fits.same_call ∙ (type_single S s work text x).long in
            let hold : Holds p modes s n d.call.session d.call.work d.call.text L₁ =
            subst (λ (y : Call). Holds p modes s n y.session y.work y.text L₁) (sym fits.same_call) (type_keeps p modes s n ok S work text₀ L h text f same x).holds in
            list_goes e (subst (λ (y : ℕ). Ends y (suc k) (rest d).call ids L₁) long (i hold fits.at_most (ap (λ (y : CallWithin). number_of y.call.answer) (sym (counted_goes k d rest e)) ∙ o)))
        by (suc j) e = list_stops j e o

  pub list_over : (c : ℕ) (ids : List ℕ) (k : ℕ) (S : Session) (work text₀ : List ℕ) (L : Sess State) → Holds p modes s n S work text₀ L → (text : List ℕ) → S.text_len ≤ length text
      → take S.text_len text ≡ take S.text_len text₀ → (m : ℕ) → m ≤ c → Over (list_from_within c k S s work text ids m).call → Ends (length text) k (list_from_within c k S s work text ids m).call ids L
  unfolding list_from_within call_of
  list_over c [] k S work text₀ L h text f same m few o = let z = sym (number_is 0 k) ∙ o in absurd (omega arith)
  list_over c (x ∷ ids) k S work text₀ L h text f same m few o =
      let d : CallWithin = type_call_within c S s work text x m in
      list_next c k S work text₀ L h text f same x ids m few
      (λ hold l q. list_over c ids (suc k) d.call.session d.call.work d.call.text (single X T (length text) L x).sess hold d.call.text hold.fits refl d.made l q) o
