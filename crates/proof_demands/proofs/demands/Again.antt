-- "An id given twice adds no text", of the calls of a session, whatever the section that opening accepts, the requests and the slices.
-- Assumes nothing but that opening accepts the section.
use Prim.Native.Nat.{ℕ, zero, suc, ◌-◌, ◌<◌, ◌≤◌}
use mathlib.Core.Path.{◌≡◌, refl, ap, ◌∙◌, sym, subst}
use mathlib.Core.Bool.{true, true≢false}
use mathlib.Core.List.Memᴰ
use mathlib.Core.List.{List, [], ◌∷◌, ◌++◌, Memᴰ}
use mathlib.Core.Logic.{◌⊎◌, inl, inr, ⊎_elim}
use native.Mathlib.Omega.{arith}
use lib.ListN.{length, take, replicate}
use Rattle.std.proofs.lemmas.Bool.{cases_lt}
use Rattle.spec_c_dumper.specs.rules.Order.{Table, Res, ok, refused}
use Rattle.spec_c_dumper.specs.rules.Machine.{Out, wrote, stuck, Machine, Sess, Answer, shut, emitted, ordered, ordering, single, eeach, emit, Req, serve, run}
use Rattle.spec_c_dumper.specs.rules.Types.{Btf as Rules}
use Rattle.spec_c_dumper.specs.rules.Names.{Names}
use Rattle.spec_opening.specs.Causes.{opening_number}
use Rattle.spec_session.specs.declared.session.Session.{Session}
use Rattle.spec_session.specs.session.Answers.{number_of, value_of, answer_of}
use Rattle.spec_session.specs.session.Turns.{Call, call_of, Reach, then_zeros}
use Rattle.spec_session.specs.calls.Calls.{type_call}
use Rattle.spec_session.specs.calls.Lists.{then_next as counted_call, list_from, list_call}
use Rattle.spec_session.proofs.calls.Claims.{number_is, value_is, type_not_below}
use Rattle.spec_session.proofs.calls.Lists.{and_then, list_append, counted_goes, counted_stops, type_single, list_counts}
use Rattle.spec_c_dumper.specs.needs.Lists.{Ls}
use Rattle.spec_c_dumper.specs.needs.Session.{Known, text_of, lines_by, no_names, opened}
use Rattle.spec_c_dumper.proofs.needs.Again.{asked_again}
use Rattle.proof_demands.specs.demands.Table.{opened_table, names_in, machine_in}
use Rattle.proof_demands.specs.demands.Session.{Holds, Tells, singles_for, made, After, after_list}
use Rattle.proof_demands.specs.demands.Demands.{Lent, AddsNothing, types_in, ruled, Demand2}
use Rattle.proof_demands.proofs.demands.Sound.{opened_wf}
use Rattle.proof_demands.proofs.demands.Session.{BothReach, both_reached, both_ended, request_reach, single_is, going, current, types_is, made_more, type_keeps, after_holds, run_then, no_ids}

module _ (p modes : ℕ) (s : List ℕ) (n : ℕ) (fine : opening_number p s n ≡ 0) where
  abbrev B : Rules
  B = opened_table p modes s n

  abbrev T : Table
  T = types_in p modes s n

  abbrev State : Type 0
  State = Ls (Known Names)

  abbrev X : Machine State Names
  X = machine_in p modes s n

  -- ---- a single request for what was accepted before
  module _ (c : Call) (rs : List Req) (a : After p modes s n c rs) (d2 : Demand2 p modes s n c rs) (o : c.session.«open» ≡ true) (x : ℕ) (k : Memᴰ x (ruled p modes s n rs).asked) (text : List ℕ) (l : Lent c text) where
    abbrev d : Call
    d = type_call c.session s c.work text x

    again : ((single X T (length text) (ruled p modes s n rs) x).number ≡ 0) × ((single X T (length text) (ruled p modes s n rs) x).sess.mach.pieces ≡ (ruled p modes s n rs).mach.pieces)
    again = asked_again (lines_by (names_in p modes s n) B) T (opened_wf p modes s n fine) (record { names = no_names B; text_len = 0 }) rs (length text) x (sym d2.is_open ∙ o) k

    tells : Tells (length text) d (single X T (length text) (ruled p modes s n rs) x)
    tells = d2.next_type text l x

    abbrev pieces : List ℕ
    pieces = text_of (ruled p modes s n rs).mach.pieces

    same : text_of (single X T (length text) (ruled p modes s n rs) x).sess.mach.pieces ≡ pieces
    same = ap text_of again.1

    its_text : take c.session.text_len text ≡ pieces
    its_text = l.begins ∙ d2.text

    zeros : pieces ++ replicate (length text - length pieces) 0 ≡ then_zeros (length text) c.session.text_len text
    unfolding then_zeros
    zeros = sym ((λ i. its_text i ++ replicate (length text - c.session.text_len) 0) ∙ ap (λ (j : ℕ). pieces ++ replicate (length text - j) 0) d2.text_len)

    no : (j : ℕ) → (single X T (length text) (ruled p modes s n rs) x).number ≡ suc j → ⊥
    no j e = let z : ◌≡◌ {A = ℕ} 0 (suc j) = sym again.0 ∙ e in absurd (omega arith)

    pub adds_nothing : AddsNothing c text d
    adds_nothing = record {
      accepted = tells.number ∙ again.0;
      text_len = sym (type_single c.session s c.work text x).value_same ∙ tells.value ∙ ap length same ∙ sym d2.text_len;
      same_text = tells.text (no 9) (no 10) ∙ ap (λ (q : List ℕ). q ++ replicate (length text - length q) 0) same ∙ zeros;
    }

  -- ---- what a list accepts was asked for
  took_emitted : (L : Sess State) (x : ℕ) (r : Out State Names) → (emitted X T L x r).sess.is_open ≡ true → (emitted X T L x r).sess.asked ≡ L.asked ++ (x ∷ [])
  unfolding emitted shut
  took_emitted L x (wrote m) o = refl
  took_emitted L x (stuck u e) o = absurd (true≢false (sym o))

  took_ordered : (L : Sess State) (x : ℕ) (r : Res State) → (ordered X T L x r).sess.is_open ≡ true → (ordered X T L x r).sess.asked ≡ L.asked ++ (x ∷ [])
  unfolding ordered shut
  took_ordered L x (ok m b) o = took_emitted L x (eeach (λ q y. emit X T 512 q y 0) (X.store.list m) m) o
  took_ordered L x (refused e) o = absurd (true≢false (sym o))

  runs : (room : ℕ) (r : Reach) (b : Answer State) → BothReach p modes s n fine room r b → b.number ≡ 0 → b.sess.is_open ≡ true
  runs room _ _ (both_reached len v t L g) e = g.running
  runs room _ _ (both_ended c len u t L g) e = absurd (omega arith)

  module _ (S : Session) (work text₀ : List ℕ) (L : Sess State) (h : Holds p modes s n S work text₀ L) (text : List ℕ) (f : S.text_len ≤ length text) (same : take S.text_len text ≡ take S.text_len text₀)
      (o : L.is_open ≡ true) (x : ℕ) (z : number_of (type_call S s work text x).answer ≡ 0) where
    abbrev b : Answer State
    b = single X T (length text) L x

    below : x < T.count
    unfolding number_of
    below = ⊎_elim
        (λ q. q)
        (λ q. let e : number_of (type_call S s work text x).answer ≡ 10 = ap (λ (c : Call). number_of c.answer) (type_not_below S s work text x (current p modes s n fine S work text₀ L h text f same o) (subst (λ (j : ℕ). j ≤ x) (sym (types_is p modes s n fine S work text₀ L h text f same)) q)) in absurd (omega arith))
        (cases_lt x T.count)

    opens : b.sess.is_open ≡ true
    opens =
        runs (length text) _ b (request_reach p modes s n fine S.text_len work text (length text) L (going p modes s n fine S work text₀ L h text f same o) x S.visits below)
        (sym (type_keeps p modes s n fine S work text₀ L h text f same x).tells.number ∙ z)

    took : b.sess.asked ≡ L.asked ++ (x ∷ [])
    took =
        let e : b ≡ ordered X T L x (ordering X T (length text) L x) = single_is p modes s n fine S.text_len work text (length text) L (going p modes s n fine S work text₀ L h text f same o) x below in
        ap (λ (q : Answer State). q.sess.asked) e ∙ took_ordered L x (ordering X T (length text) L x) (ap (λ (q : Answer State). q.sess.is_open) (sym e) ∙ opens)

  abbrev after : ℕ → ℕ → Call → List ℕ → Sess State → Sess State
  after room k c ids L = run X T (singles_for room (made k c) ids) L

  abbrev Asks : List ℕ → Sess State → Sess State → Type 0
  Asks ids L L' = (L'.is_open ≡ true) × ((y : ℕ) → Memᴰ y L.asked ⊎ Memᴰ y ids → Memᴰ y L'.asked)

  -- the first id of a list that is accepted as a whole
  module _ (k : ℕ) (S : Session) (work text : List ℕ) (x : ℕ) (ids : List ℕ) where
    abbrev c₁ : Call
    c₁ = type_call S s work text x

    abbrev rest : Call → Call
    rest c = list_from (suc k) c.session s c.work c.text ids

    first_accepted : number_of (counted_call k c₁ rest).answer ≡ 0 → number_of c₁.answer ≡ 0
    unfolding call_of
    first_accepted e = by (number_of c₁.answer) refl
      where
        by : (m : ℕ) → number_of c₁.answer ≡ m → number_of c₁.answer ≡ 0
        by zero q = q
        by (suc m) q =
            let z : suc m ≡ 0 = sym (number_is (suc m) k) ∙ sym (ap (λ (c : Call). number_of c.answer) (counted_stops k (suc m) c₁ rest q (λ y. absurd (omega arith)))) ∙ e in
            absurd (omega arith)

  asks_next : (k : ℕ) (S : Session) (work text₀ : List ℕ) (L : Sess State) (h : Holds p modes s n S work text₀ L) (text : List ℕ) (f : S.text_len ≤ length text) (same : take S.text_len text ≡ take S.text_len text₀)
      (o : L.is_open ≡ true) (x : ℕ) (ids : List ℕ) (z : number_of (type_call S s work text x).answer ≡ 0)
      → Asks ids (single X T (length text) L x).sess (after (length (type_call S s work text x).text) (suc k) (rest k S work text x ids (type_call S s work text x)) ids (single X T (length text) L x).sess)
      → Asks (x ∷ ids) L (after (length text) k (counted_call k (type_call S s work text x) (rest k S work text x ids)) (x ∷ ids) L)
  unfolding run serve singles_for
  asks_next k S work text₀ L h text f same o x ids z i =
      subst (λ (c : Call). Asks (x ∷ ids) L (after (length text) k c (x ∷ ids) L)) (sym (counted_goes k (type_call S s work text x) (rest k S work text x ids) z))
      (subst (λ (j : ℕ). Asks (x ∷ ids) L (run X T (singles_for (length text) j (x ∷ ids)) L)) (sym (made_more p modes s n fine k more (list_counts s (suc k) (type_call S s work text x).session (type_call S s work text x).work (type_call S s work text x).text ids).at_least))
      (widen (subst (λ (room : ℕ). Asks ids (single X T (length text) L x).sess (after room (suc k) more ids (single X T (length text) L x).sess)) (type_single S s work text x).long i)))
    where
      more : Call
      more = rest k S work text x ids (type_call S s work text x)

      widen : Asks ids (single X T (length text) L x).sess (after (length text) (suc k) (rest k S work text x ids (type_call S s work text x)) ids (single X T (length text) L x).sess)
          → Asks (x ∷ ids) L (after (length text) (suc k) (rest k S work text x ids (type_call S s work text x)) ids (single X T (length text) L x).sess)
      widen q = (q.0, λ y m. pick y m)
        where
          grown : (y : ℕ) → Memᴰ y (L.asked ++ (x ∷ [])) → Memᴰ y (after (length text) (suc k) (rest k S work text x ids (type_call S s work text x)) ids (single X T (length text) L x).sess).asked
          grown y m = q.1 y (inl (subst (Memᴰ y) (sym (took S work text₀ L h text f same o x z)) m))

          pick : (y : ℕ) → Memᴰ y L.asked ⊎ Memᴰ y (x ∷ ids) → Memᴰ y (after (length text) (suc k) (rest k S work text x ids (type_call S s work text x)) ids (single X T (length text) L x).sess).asked
          pick y (inl m) = grown y (Memᴰ.append_left (x ∷ []) m)
          pick y (inr m) = ⊎_elim (λ e. grown y (Memᴰ.append_right L.asked (Memᴰ.head e))) (λ m'. q.1 y (inr m')) (Memᴰ.cases_cons m)

  list_asks : (ids : List ℕ) (k : ℕ) (S : Session) (work text₀ : List ℕ) (L : Sess State) → Holds p modes s n S work text₀ L → (text : List ℕ) → S.text_len ≤ length text → take S.text_len text ≡ take S.text_len text₀
      → L.is_open ≡ true → number_of (list_from k S s work text ids).answer ≡ 0 → Asks ids L (after (length text) k (list_from k S s work text ids) ids L)
  unfolding list_from run
  list_asks [] k S work text₀ L h text f same o e =
      subst (λ (qs : List Req). Asks [] L (run X T qs L)) (sym (no_ids p modes s n fine (length text) (made k (list_from k S s work text [])))) (o, λ y m. ⊎_elim (λ q. q) (λ q. absurd (Memᴰ.not-nil q)) m)
  list_asks (x ∷ ids) k S work text₀ L h text f same o e =
      let z : number_of (type_call S s work text x).answer ≡ 0 = first_accepted k S work text x ids e in
      asks_next k S work text₀ L h text f same o x ids z
      (list_asks ids (suc k) (type_call S s work text x).session (type_call S s work text x).work (type_call S s work text x).text (single X T (length text) L x).sess (type_keeps p modes s n fine S work text₀ L h text f same x).holds
      (type_call S s work text x).text (type_keeps p modes s n fine S work text₀ L h text f same x).holds.fits refl (opens S work text₀ L h text f same o x z)
      (ap (λ (c : Call). number_of c.answer) (sym (counted_goes k (type_call S s work text x) (rest k S work text x ids) z)) ∙ e))

  -- ---- a list that ends in an id that it has before
  module _ (c : Call) (rs : List Req) (a : After p modes s n c rs) (o : c.session.«open» ≡ true) (text : List ℕ) (l : Lent c text) (xs : List ℕ) (x : ℕ) (m : Memᴰ x xs)
      (e : number_of (list_call c.session s c.work text xs).answer ≡ 0)
      (d2 : (c' : Call) (rs' : List Req) → After p modes s n c' rs' → Demand2 p modes s n c' rs') where
    abbrev before : Call
    before = list_call c.session s c.work text xs

    abbrev qs : List Req
    qs = rs ++ singles_for (length text) (made 0 before) xs

    then : After p modes s n before qs
    then = after_list c rs a text l.long l.begins xs

    asks : Asks xs (ruled p modes s n rs) (after (length text) 0 before xs (ruled p modes s n rs))
    unfolding list_call
    asks = list_asks xs 0 c.session c.work c.text (ruled p modes s n rs) (after_holds p modes s n fine a) text l.long l.begins (sym (d2 c rs a).is_open ∙ o) e

    joined : ruled p modes s n qs ≡ after (length text) 0 before xs (ruled p modes s n rs)
    joined = run_then p modes s n fine rs (singles_for (length text) (made 0 before) xs) (opened B)

    still_open : before.session.«open» ≡ true
    still_open = (d2 before qs then).is_open ∙ ap (λ (L : Sess State). L.is_open) joined ∙ asks.0

    lent : Lent before before.text
    lent = record { long = (after_holds p modes s n fine then).fits; begins = refl }

    nothing : AddsNothing before before.text (type_call before.session s before.work before.text x)
    nothing = adds_nothing before qs then (d2 before qs then) still_open x (subst (λ (L : Sess State). Memᴰ x L.asked) (sym joined) (asks.1 x (inr m))) before.text lent

    whole : list_call c.session s c.work text (xs ++ (x ∷ [])) ≡ call_of (type_call before.session s before.work before.text x).session (answer_of 0 (suc (value_of before.answer))) (type_call before.session s before.work before.text x).work (type_call before.session s before.work before.text x).text
    unfolding list_call and_then list_from
    whole =
        list_append s 0 c.session c.work text xs (x ∷ [])
        ∙ rw (e, and_then)
        (counted_goes (value_of before.answer) (type_call before.session s before.work before.text x) (λ d'. list_from (suc (value_of before.answer)) d'.session s d'.work d'.text []) nothing.accepted)

    pub list_adds_nothing : AddsNothing before before.text (list_call c.session s c.work text (xs ++ (x ∷ [])))
        × (value_of (list_call c.session s c.work text (xs ++ (x ∷ []))).answer ≡ suc (value_of before.answer))
    unfolding call_of
    list_adds_nothing = (
      record {
        accepted = ap (λ (d' : Call). number_of d'.answer) whole ∙ number_is 0 (suc (value_of before.answer));
        text_len = ap (λ (d' : Call). d'.session.text_len) whole ∙ nothing.text_len;
        same_text = ap (λ (d' : Call). d'.text) whole ∙ nothing.same_text;
      },
      ap (λ (d' : Call). value_of d'.answer) whole ∙ value_is 0 (suc (value_of before.answer)),
    )
