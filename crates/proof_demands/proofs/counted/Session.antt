-- The calls of a session and the session of the definition: the same visits, and the same remembered types. Assumes nothing but that opening accepts the
-- section.
use Prim.Native.Nat.{ℕ, zero, suc, ◌+◌, ◌-◌, ◌%◌, ◌<◌, ◌≤◌}
use native.Mathlib.Omega.{arith}
use mathlib.Core.Path.{◌≡◌, refl, ap, ◌∙◌, sym, subst}
use mathlib.Core.Bool.{Bool, true, false, true≢false}
use mathlib.Core.List.{List, [], ◌∷◌, ◌++◌}
use mathlib.Core.Logic.{inr, ⊎_elim}
use lib.ListN.{length, take}
use lib.Dec.{ltb, eqb}
use borrow.Author.Tests.{eq-eqb, lt-ltb, le-ltb}
use Rattle.std.proofs.lemmas.Bool.{cases_lt}
use Rattle.spec_c_dumper.specs.rules.Order.{Table as Types}
use Rattle.spec_c_dumper.specs.rules.Machine.{Out, stuck, Machine, Sess, Answer, ordered, ordering, gate, single, onward, from, every, Req, one, all, serve, run}
use Rattle.spec_c_dumper.specs.rules.Types.{Btf as Rules, table_of}
use Rattle.spec_c_dumper.specs.rules.Names.{Names, Naming}
use Rattle.spec_type_table.specs.declared.types.TypeTable.{TypeTable}
use Rattle.spec_type_table.specs.Table.{btf_of}
use Rattle.spec_opening.specs.Table.{enumerators_of}
use Rattle.spec_opening.specs.Opened.{Outcome, work_of}
use Rattle.spec_opening.specs.Causes.{opening_number}
use Rattle.spec_session.specs.emission.Slices.{Slices, work_machine}
use Rattle.spec_c_dumper.specs.rules.Request.{dumped}
use Rattle.spec_session.specs.declared.session.Session.{Session}
use Rattle.spec_session.specs.session.Answers.{number_of, answer_of}
use Rattle.spec_session.specs.session.Turns.{Call, call_of, Reach, reached, refused_by, settled, visits_in}
use Rattle.spec_session.specs.calls.Calls.{opened_call, open_call, came_to, lent_to, requested, onward as go_on, requested_from, type_call, types_call}
use Rattle.spec_session.specs.calls.Lists.{then_next as counted_call, list_from, list_call}
use Rattle.spec_session.proofs.calls.Lists.{counted_goes, counted_stops, type_single, list_counts}
use Rattle.spec_session.proofs.calls.Laws.{opens_sound}
use Rattle.spec_session.proofs.calls.Claims.{type_settles, types_settle, type_not_below, type_not_current, types_not_current, closed_stays}
use Rattle.spec_c_dumper.specs.needs.Lists.{Ls, afresh}
use Rattle.spec_c_dumper.specs.needs.Session.{Known, no_names, opened_by, opened}
use Rattle.spec_c_dumper.proofs.needs.Alike.{BothSess, BothAnswer, single_alike, every_alike}
use Rattle.spec_c_dumper.proofs.needs.Lists.{Sized}
use Rattle.spec_c_dumper.proofs.needs.Session.{machine_lawful}
use Rattle.spec_c_dumper.specs.alignment_once.Once.{Table, table_keep, members_to, paid_to}
use Rattle.spec_c_dumper.specs.alignment_once.Writers.{Remembering, remembering_names, remembering_asks, machine_once}
use Rattle.spec_c_dumper.proofs.alignment_once.Counted.{paid_most}
use Rattle.spec_c_dumper.proofs.alignment_once.Tables.{Any, Each, table_lawful}
use Rattle.spec_c_dumper.proofs.alignment_once.Session.{Beside, remembering_sound, starts, begins as begun}
use Rattle.btf_layout.specs.remembered.Words.{work_keep}
use Rattle.btf_layout.proofs.remembered.Lawful.{HoldsTypes}
use Rattle.proof_demands.specs.alignment_memory.Work.{SoundMemory, Sane}
use Rattle.proof_demands.specs.demands.Table.{header_of, names_in, machine_in}
use Rattle.proof_demands.specs.demands.Session.{Holds, singles_for, made, After, after_open, after_one, after_all, after_list}
use Rattle.proof_demands.proofs.demands.Described.{count_described}
use Rattle.proof_demands.proofs.demands.Sound.{opened_wf}
use Rattle.proof_demands.proofs.demands.Counts.{few}
use Rattle.proof_demands.proofs.demands.OpenedMemory.{opened_sane, opened_memory, none}
use Rattle.proof_demands.proofs.demands.Named.{opened_indexed, opened_names}
use Rattle.proof_demands.proofs.demands.Session.{Going, begins, positive, table_now, request_reach, BothReach, both_reached, both_ended, table_is, types_is, going, current, type_keeps, types_keeps, made_more, made_none, made_one, not_11, no_ids, after_holds}
use Rattle.proof_demands.specs.counted.Counted.{defined_first}
use Rattle.proof_demands.proofs.counted.Request.{NamesBeside, Near, near_alike, Recalls, Came, came_served, came_refused, request_came}

-- ---- a request of any machine, by whether the session is open and the id below the count
module _ {M H : Type 0} (Y : Machine M H) (T : Types) (room : ℕ) (S : Sess M) (x : ℕ) where
  single_open : S.is_open ≡ true → x < T.count → single Y T room S x ≡ ordered Y T S x (ordering Y T room S x)
  unfolding single gate
  single_open o l = ap (λ (f : Bool). gate Y T room S x f (ltb x T.count)) o ∙ ap (gate Y T room S x true) (lt-ltb x T.count l)

  single_past : S.is_open ≡ true → T.count ≤ x → single Y T room S x ≡ record { sess = S; number = 10 }
  unfolding single gate
  single_past o l = ap (λ (f : Bool). gate Y T room S x f (ltb x T.count)) o ∙ ap (gate Y T room S x true) (le-ltb x T.count l)

  single_shut : S.is_open ≡ false → single Y T room S x ≡ record { sess = S; number = 11 }
  unfolding single gate
  single_shut o = ap (λ (f : Bool). gate Y T room S x f (ltb x T.count)) o

run_then : {M H : Type 0} (Y : Machine M H) (T : Types) (rs qs : List Req) (S : Sess M) → run Y T (rs ++ qs) S ≡ run Y T qs (run Y T rs S)
unfolding run
run_then Y T [] qs S = refl
run_then Y T (r ∷ rs) qs S = run_then Y T rs qs (serve Y T S r)

module _ (p modes : ℕ) (s : List ℕ) (n : ℕ) (ok : opening_number p s n ≡ 0) where
  abbrev b : TypeTable
  b = header_of p modes s

  abbrev e : ℕ
  e = enumerators_of s

  abbrev w : List ℕ
  w = work_of p modes s n

  abbrev B : Rules
  B = btf_of b s w

  abbrev T : Types
  T = table_of B

  abbrev N : Naming Names
  N = names_in p modes s n

  abbrev Z : Sane b B
  Z = opened_sane p modes s n ok

  abbrev Plain : Type 0
  Plain = Ls (Known Names)

  abbrev State : Type 0
  State = Ls (Known (Remembering Names Table))

  abbrev X : Machine Plain Names
  X = machine_in p modes s n

  abbrev pub X₂ : Machine State (Remembering Names Table)
  X₂ = machine_once (remembering_asks (table_keep B.type_cnt) B) (remembering_names N) B

  pub room_for : HoldsTypes b.types w
  unfolding btf_of
  room_for = (opened_memory p modes s n ok).roomy

  abbrev NearTo : State → Plain → Type 0
  NearTo t q = Near b e s w (opened_indexed p modes s n ok) Z room_for N (opened_names p modes s n ok) (opened_wf p modes s n ok) t q

  abbrev NamesTo : Remembering Names Table → Names → Type 0
  NamesTo u v = NamesBeside b e s w (opened_indexed p modes s n ok) Z room_for N (opened_names p modes s n ok) (opened_wf p modes s n ok) u v

  abbrev Same : List ℕ → State → Type 0
  Same v t = Recalls b e s w (opened_indexed p modes s n ok) Z room_for N (opened_names p modes s n ok) (opened_wf p modes s n ok) v t

  -- the visits that the work counts are those of the definition, where both remember the same types
  counts : (v : List ℕ) (t : State) (q : Plain) → SoundMemory B v → NearTo t q → Same v t → visits_in v ≡ t.known.names.visits
  unfolding visits_in btf_of
  counts v t q m h r =
      let paid : ℕ = paid_to B ((work_keep B.type_cnt B).recall v) B.type_cnt in
      let few₁ : B.type_cnt + members_to B B.type_cnt < 4294967296 = few p modes s n ok in
      let most : paid ≤ B.type_cnt + members_to B B.type_cnt = paid_most B ((work_keep B.type_cnt B).recall v) B.type_cnt in
      let z : paid % 4294967296 ≡ paid = omega arith in
      ap (λ (k : ℕ). k % 4294967296) m.count ∙ z ∙ ap (λ (f : Table). paid_to B f B.type_cnt) (λ i id. r id i) ∙ sym h.names.1.visits

  -- ---- where the requests of a call come to
  data BothVisits : Reach → Answer State → Type 0 where
    visits_on : (len : ℕ) (v t : List ℕ) (A : Sess State) → Same v A.mach → BothVisits (reached len v t) (record { sess = A; number = 0 })
    visits_end : (c len u : ℕ) (t : List ℕ) (A : Sess State) → u ≡ A.mach.known.names.visits → BothVisits (refused_by (suc c) len u t) (record { sess = A; number = suc c })

  abbrev Beside₂ : Sess State → Sess Plain → Type 0
  Beside₂ A L = BothSess NearTo A L

  next_near : (room : ℕ) (A : Sess State) (L : Sess Plain) → Beside₂ A L → (x : ℕ) → BothAnswer NearTo (single X₂ T room A x) (single X T room L x)
  next_near = single_alike X₂ X T (Sized B.type_cnt) (machine_lawful N B B.type_cnt) (opened_wf p modes s n ok).below NearTo NamesTo (near_alike b e s w (opened_indexed p modes s n ok) Z room_for N (opened_names p modes s n ok) (opened_wf p modes s n ok))

  module _ (len : ℕ) (v t : List ℕ) (room : ℕ) (L : Sess Plain) (g : Going p modes s n ok len v t room L) (A : Sess State) (h : Beside₂ A L) (r : Same v A.mach) (x : ℕ) where
    abbrev slices : Slices
    slices = record { work = v; text = lent_to len t; at = 0; len = 0 }

    came_visits : (u : ℕ) → u ≡ A.mach.known.names.visits → {o : Out Slices (Unit {0})} {a : Answer State} → Came b e s w (opened_indexed p modes s n ok) Z room_for N (opened_names p modes s n ok) (opened_wf p modes s n ok) (take len t) room A o a
        → ((c : ℕ) → o ≡ stuck tt c → 0 < c) → BothVisits (came_to len u t o) a
    unfolding came_to
    came_visits u q (came_served m t' asked y) k = visits_on _ m.work _ _ y
    came_visits u q (came_refused zero y) k = absurd (let z : 0 < 0 = k 0 refl in omega arith)
    came_visits u q (came_refused (suc c) y) k = visits_end c len u _ _ q

    request_visits : (u : ℕ) → u ≡ A.mach.known.names.visits → x < T.count → BothVisits (requested b s x len u v t) (single X₂ T room A x)
    request_visits u q l =
        subst (λ (c : Reach). BothVisits c (single X₂ T room A x)) (sym (table_now p modes s n ok len v t room L g x u))
        (subst (λ (a : Answer State). BothVisits (came_to len u t (dumped (work_machine b B) T slices x)) a) (sym (single_open X₂ T room A x (h.same_open ∙ g.running) l))
        (came_visits u q
        (request_came b e s w (opened_indexed p modes s n ok) Z room_for N (opened_names p modes s n ok) (opened_wf p modes s n ok) (take len t) room A x slices L.mach refl g.bears (begins p modes s n ok len v t room L g x) h.alike r l)
        (positive p modes s n ok len v t room L g x)))

  onward_visits : (room : ℕ) {c : Reach} {a : Answer Plain} {a₂ : Answer State} (k₁ : ℕ → List ℕ → List ℕ → Reach) (k : Sess State → Answer State) → BothReach p modes s n ok room c a → BothVisits c a₂ → BothAnswer NearTo a₂ a
      → ((len : ℕ) (v t : List ℕ) (L : Sess Plain) (A : Sess State) → Going p modes s n ok len v t room L → Beside₂ A L → Same v A.mach → BothVisits (k₁ len v t) (k A)) → BothVisits (go_on c k₁) (onward X₂ T k a₂)
  unfolding go_on onward
  onward_visits room k₁ k (both_reached len v t L g) (visits_on _ _ _ A r) h on = on len v t L A g h.sessions r
  onward_visits room k₁ k (both_ended c len u t L d) (visits_end _ _ _ _ A q) h on = visits_end c len u t A q

  from_visits : (room k x : ℕ) → x + k ≤ T.count → (len : ℕ) (v t : List ℕ) (L : Sess Plain) (A : Sess State) → Going p modes s n ok len v t room L → Beside₂ A L → Same v A.mach
      → BothVisits (requested_from b s k x len v t) (from X₂ T room k x A)
  unfolding requested_from from
  from_visits room zero x l len v t L A g h r = visits_on len v t A r
  from_visits room (suc k) x l len v t L A g h r =
      onward_visits room (requested_from b s k (suc x)) (from X₂ T room k (suc x)) (request_reach p modes s n ok len v t room L g x (visits_in v) (omega arith))
      (request_visits len v t room L g A h r x (visits_in v) (counts v A.mach L.mach g.bears.memory h.alike r) (omega arith)) (next_near room A L h x)
      (λ len' v' t' L' A' g' h' r'. from_visits room k (suc x) (omega arith) len' v' t' L' A' g' h' r')

  -- ---- after a call
  pub record KeptCall (c : Call) (L : Sess Plain) (A : Sess State) : Type 0 where
    pub near : Beside₂ A L
    pub visits : c.session.visits ≡ A.mach.known.names.visits
    pub same : L.is_open ≡ true → Same c.work A.mach

  abbrev HoldsCall : Call → Sess Plain → Type 0
  HoldsCall c L = Holds p modes s n c.session c.work c.text L

  settled_kept : (S : Session) (wn tn : ℕ) {c : Reach} {a : Answer State} (L : Sess Plain) → BothVisits c a → HoldsCall (settled S wn tn c) L → Beside₂ a.sess L → KeptCall (settled S wn tn c) L a.sess
  unfolding settled
  settled_kept S wn tn L (visits_on len v t A r) h q = record { near = q; visits = counts v A.mach L.mach (h.bears (sym h.is_open)).memory q.alike r; same = λ o. r }
  settled_kept S wn tn L (visits_end c len u t A z) h q = record { near = q; visits = z; same = λ o. absurd (true≢false (sym o ∙ sym h.is_open)) }

  -- lent a text that begins with the text so far
  module _ (S : Session) (work text₀ : List ℕ) (L : Sess Plain) (h : Holds p modes s n S work text₀ L) (A : Sess State) (near : Beside₂ A L) (vis : S.visits ≡ A.mach.known.names.visits) (sam : L.is_open ≡ true → Same work A.mach)
      (text : List ℕ) (f : S.text_len ≤ length text) (same : take S.text_len text ≡ take S.text_len text₀) where
    abbrev room : ℕ
    room = length text

    -- 10 and 11
    left_kept : (c : Call) (a : Answer Plain) (a₂ : Answer State) (k : ℕ) → c ≡ record { session = S; answer = answer_of k S.text_len; work = work; text = text } → a ≡ record { sess = L; number = k } → a₂ ≡ record { sess = A; number = k } → KeptCall c a.sess a₂.sess
    left_kept c a a₂ k q q₁ q₂ =
        subst (λ (d : Call). KeptCall d a.sess a₂.sess) (sym q)
        (subst (λ (d : Answer Plain). KeptCall (record { session = S; answer = answer_of k S.text_len; work = work; text = text }) d.sess a₂.sess) (sym q₁)
        (subst (λ (d : Answer State). KeptCall (record { session = S; answer = answer_of k S.text_len; work = work; text = text }) L d.sess) (sym q₂) (record { near = near; visits = vis; same = sam })))

    type_open : (x : ℕ) → L.is_open ≡ true → x < T.count → KeptCall (type_call S s work text x) (single X T room L x).sess (single X₂ T room A x).sess
    type_open x o l =
        let q : type_call S s work text x ≡ settled S (length work) room (requested b s x S.text_len S.visits work text) =
        type_settles S s work text x (current p modes s n ok S work text₀ L h text f same o) (subst (λ (k : ℕ). x < k) (sym (types_is p modes s n ok S work text₀ L h text f same)) l)
        ∙ ap (λ (K : TypeTable). settled S (length work) room (requested K s x S.text_len S.visits work text)) (table_is p modes s n ok S work text₀ L h text f same) in
        subst (λ (d : Call). KeptCall d (single X T room L x).sess (single X₂ T room A x).sess) (sym q)
        (settled_kept S (length work) room (single X T room L x).sess
        (request_visits S.text_len work text room L (going p modes s n ok S work text₀ L h text f same o) A near (sam o) x S.visits vis l)
        (subst (λ (d : Call). HoldsCall d (single X T room L x).sess) q (type_keeps p modes s n ok S work text₀ L h text f same x).holds)
        (next_near room A L near x).sessions)

    type_kept : (x : ℕ) → KeptCall (type_call S s work text x) (single X T room L x).sess (single X₂ T room A x).sess
    unfolding answer_of
    type_kept x = by L.is_open refl
      where
        by : (o : Bool) → L.is_open ≡ o → KeptCall (type_call S s work text x) (single X T room L x).sess (single X₂ T room A x).sess
        by true o =
            ⊎_elim
            (λ l. type_open x o l)
            (λ l. left_kept _ _ _ 10 (type_not_below S s work text x (current p modes s n ok S work text₀ L h text f same o) (subst (λ (k : ℕ). k ≤ x) (sym (types_is p modes s n ok S work text₀ L h text f same)) l))
            (single_past X T room L x o l) (single_past X₂ T room A x (near.same_open ∙ o) l))
            (cases_lt x T.count)
        by false o = left_kept _ _ _ 11 (type_not_current S s work text x (closed_stays S s work text (h.is_open ∙ o))) (single_shut X T room L x o) (single_shut X₂ T room A x (near.same_open ∙ o))

    every_near : BothAnswer NearTo (every X₂ T room A A.is_open) (every X T room L L.is_open)
    every_near = every_alike X₂ X T (Sized B.type_cnt) (machine_lawful N B B.type_cnt) (opened_wf p modes s n ok).below NearTo NamesTo (near_alike b e s w (opened_indexed p modes s n ok) Z room_for N (opened_names p modes s n ok) (opened_wf p modes s n ok)) room A L near

    types_are : T.count ≡ b.types
    unfolding btf_of
    types_are = refl

    types_open : L.is_open ≡ true → HoldsCall (types_call S s work text) (from X T room (T.count - 1) 1 L).sess → Beside₂ (from X₂ T room (T.count - 1) 1 A).sess (from X T room (T.count - 1) 1 L).sess
        → KeptCall (types_call S s work text) (from X T room (T.count - 1) 1 L).sess (from X₂ T room (T.count - 1) 1 A).sess
    types_open o holds beside =
        let q : types_call S s work text ≡ settled S (length work) room (requested_from b s (T.count - 1) 1 S.text_len work text) =
        types_settle S s work text (current p modes s n ok S work text₀ L h text f same o)
        ∙ ap (λ (K : TypeTable). settled S (length work) room (requested_from K s (K.types - 1) 1 S.text_len work text)) (table_is p modes s n ok S work text₀ L h text f same)
        ∙ ap (λ (k : ℕ). settled S (length work) room (requested_from b s (k - 1) 1 S.text_len work text)) (sym types_are) in
        subst (λ (d : Call). KeptCall d (from X T room (T.count - 1) 1 L).sess (from X₂ T room (T.count - 1) 1 A).sess) (sym q)
        (settled_kept S (length work) room (from X T room (T.count - 1) 1 L).sess
        (from_visits room (T.count - 1) 1 (omega (arith, count_described p modes s n ok)) S.text_len work text L A (going p modes s n ok S work text₀ L h text f same o) near (sam o))
        (subst (λ (d : Call). HoldsCall d (from X T room (T.count - 1) 1 L).sess) q holds) beside)

    types_kept : KeptCall (types_call S s work text) (every X T room L L.is_open).sess (every X₂ T room A A.is_open).sess
    unfolding every answer_of
    types_kept =
        subst (λ (o : Bool). KeptCall (types_call S s work text) (every X T room L L.is_open).sess (every X₂ T room A o).sess) (sym near.same_open)
        (by L.is_open refl (types_keeps p modes s n ok S work text₀ L h text f same).holds (subst (λ (o : Bool). Beside₂ (every X₂ T room A o).sess (every X T room L L.is_open).sess) near.same_open every_near.sessions))
      where
        by : (o : Bool) → L.is_open ≡ o → HoldsCall (types_call S s work text) (every X T room L o).sess → Beside₂ (every X₂ T room A o).sess (every X T room L o).sess
            → KeptCall (types_call S s work text) (every X T room L o).sess (every X₂ T room A o).sess
        by true o holds beside = types_open o holds beside
        by false o holds beside = left_kept (types_call S s work text) (record { sess = L; number = 11 }) (record { sess = A; number = 11 }) 11 (types_not_current S s work text (closed_stays S s work text (h.is_open ∙ o))) refl refl

    -- ---- the first id of a list, after k accepted ones
    module _ (k x : ℕ) (ids : List ℕ) where
      abbrev c₁ : Call
      c₁ = type_call S s work text x

      abbrev rest : Call → Call
      rest c = list_from (suc k) c.session s c.work c.text ids

      abbrev KeptRun : Call → List Req → Type 0
      KeptRun c qs = KeptCall c (run X T qs L) (run X₂ T qs A)

      list_stops : (m : ℕ) → number_of c₁.answer ≡ suc m → KeptRun (counted_call k c₁ rest) (singles_for room (made k (counted_call k c₁ rest)) (x ∷ ids))
      unfolding run serve singles_for call_of number_of answer_of
      list_stops m q = subst (λ (c : Call). KeptRun c (singles_for room (made k c) (x ∷ ids))) (sym stops) (by L.is_open refl)
        where
          stops : counted_call k c₁ rest ≡ call_of c₁.session (answer_of (suc m) k) c₁.work c₁.text
          stops = counted_stops k (suc m) c₁ rest q (λ z. absurd (omega arith))

          as_kept : (qs : List Req) → KeptRun c₁ qs → KeptRun (call_of c₁.session (answer_of (suc m) k) c₁.work c₁.text) qs
          as_kept qs y = record { near = y.near; visits = y.visits; same = y.same }

          shut_kept : L.is_open ≡ false → KeptCall c₁ L A
          shut_kept o = left_kept c₁ (record { sess = L; number = 11 }) (record { sess = A; number = 11 }) 11 (type_not_current S s work text x (closed_stays S s work text (h.is_open ∙ o))) refl refl

          by : (o : Bool) → L.is_open ≡ o → KeptRun (call_of c₁.session (answer_of (suc m) k) c₁.work c₁.text) (singles_for room (made k (call_of c₁.session (answer_of (suc m) k) c₁.work c₁.text)) (x ∷ ids))
          by true o =
              let d : suc m ≡ 11 → ⊥ = (λ z. not_11 p modes s n ok k S work text₀ L h text f same x ids o (q ∙ z)) in
              subst (λ (j : ℕ). KeptRun (call_of c₁.session (answer_of (suc m) k) c₁.work c₁.text) (singles_for room j (x ∷ ids))) (sym (made_one p modes s n ok k c₁.session c₁.work c₁.text (suc m) (λ z. absurd (omega arith)) d))
              (as_kept (one room x ∷ []) (type_kept x))
          by false o =
              let z : suc m ≡ 11 = sym q ∙ ap (λ (c : Call). number_of c.answer) (type_not_current S s work text x (closed_stays S s work text (h.is_open ∙ o))) in
              subst (λ (j : ℕ). KeptRun (call_of c₁.session (answer_of (suc m) k) c₁.work c₁.text) (singles_for room j (x ∷ ids))) (sym (made_none p modes s n ok k c₁.session c₁.work c₁.text (suc m) (inr z)))
              (as_kept [] (shut_kept o))

      abbrev KeptRest : ℕ → Type 0
      KeptRest size = KeptCall (rest c₁) (run X T (singles_for size (made (suc k) (rest c₁)) ids) (single X T room L x).sess) (run X₂ T (singles_for size (made (suc k) (rest c₁)) ids) (single X₂ T room A x).sess)

      list_goes : number_of c₁.answer ≡ 0 → KeptRest room → KeptRun (counted_call k c₁ rest) (singles_for room (made k (counted_call k c₁ rest)) (x ∷ ids))
      unfolding run serve singles_for
      list_goes q i =
          subst (λ (c : Call). KeptRun c (singles_for room (made k c) (x ∷ ids))) (sym (counted_goes k c₁ rest q))
          (subst (λ (j : ℕ). KeptRun (rest c₁) (singles_for room j (x ∷ ids))) (sym (made_more p modes s n ok k (rest c₁) (list_counts s (suc k) c₁.session c₁.work c₁.text ids).at_least)) i)

      list_next : KeptRest (length c₁.text) → KeptRun (counted_call k c₁ rest) (singles_for room (made k (counted_call k c₁ rest)) (x ∷ ids))
      list_next i = by (number_of c₁.answer) refl
        where
          by : (m : ℕ) → number_of c₁.answer ≡ m → KeptRun (counted_call k c₁ rest) (singles_for room (made k (counted_call k c₁ rest)) (x ∷ ids))
          by zero q = list_goes q (subst KeptRest (type_single S s work text x).long i)
          by (suc m) q = list_stops m q

  list_kept : (ids : List ℕ) (k : ℕ) (S : Session) (work text₀ : List ℕ) (L : Sess Plain) (h : Holds p modes s n S work text₀ L) (A : Sess State) → Beside₂ A L → S.visits ≡ A.mach.known.names.visits → (L.is_open ≡ true → Same work A.mach)
      → (text : List ℕ) → S.text_len ≤ length text → take S.text_len text ≡ take S.text_len text₀
      → KeptCall (list_from k S s work text ids) (run X T (singles_for (length text) (made k (list_from k S s work text ids)) ids) L) (run X₂ T (singles_for (length text) (made k (list_from k S s work text ids)) ids) A)
  unfolding list_from run call_of
  list_kept [] k S work text₀ L h A near vis sam text f same =
      subst (λ (qs : List Req). KeptCall (call_of S (answer_of 0 k) work text) (run X T qs L) (run X₂ T qs A)) (sym (no_ids p modes s n ok (length text) (made k (list_from k S s work text [])))) (record { near = near; visits = vis; same = sam })
  list_kept (x ∷ ids) k S work text₀ L h A near vis sam text f same =
      let c : Call = type_call S s work text x in
      let q : KeptCall c (single X T (length text) L x).sess (single X₂ T (length text) A x).sess = type_kept S work text₀ L h A near vis sam text f same x in
      let g : HoldsCall c (single X T (length text) L x).sess = (type_keeps p modes s n ok S work text₀ L h text f same x).holds in
      list_next S work text₀ L h A near vis sam text f same k x ids
      (list_kept ids (suc k) c.session c.work c.text (single X T (length text) L x).sess g (single X₂ T (length text) A x).sess q.near q.visits q.same c.text g.fits refl)

  -- ---- from opening on
  abbrev pub begun₂ : Sess State
  begun₂ = opened_by (remembering_names N) B (defined_first p modes s n)

  begins_near : Beside₂ begun₂ (opened B)
  begins_near =
      starts (remembering_asks (table_keep B.type_cnt) B) (remembering_names N) N B (opened_wf p modes s n ok) Z.ends (Beside (table_keep B.type_cnt) N B Any Each (table_lawful B.type_cnt) (λ id t q l. tt) (opened_wf p modes s n ok) Z.ends)
      (remembering_sound (table_keep B.type_cnt) N B Any Each (table_lawful B.type_cnt) (λ id t q l. tt) (opened_wf p modes s n ok) Z.ends) (defined_first p modes s n) (no_names B)
      (begun (table_keep B.type_cnt) N B Any Each (table_lawful B.type_cnt) (λ id t q l. tt) (opened_wf p modes s n ok) Z.ends (no_names B) (defined_first p modes s n).memory tt (λ id. refl))

  open_kept : (S : Session) (work text : List ℕ) → length work ≡ n → KeptCall (open_call S s work text p modes) (opened B) begun₂
  unfolding open_call opened_call btf_of afresh
  open_kept S work text z =
      let q : eqb (opening_number p s (length work)) 0 ≡ true = eq-eqb (opening_number p s (length work)) 0 (ap (opening_number p s) z ∙ ok) in
      subst (λ (o : Outcome). KeptCall (opened_call S (length s) (length work) p modes o) (opened B) begun₂) (sym (opens_sound p modes s work text q))
      (record { near = begins_near; visits = refl; same = λ o. subst (λ (k : ℕ). Same (work_of p modes s k) begun₂.mach) (sym z) (none p modes s n ok) })

  -- any list of requests
  pub after_kept : {c : Call} {rs : List Req} → After p modes s n c rs → KeptCall c (run X T rs (opened B)) (run X₂ T rs begun₂)
  unfolding run serve list_call
  after_kept (after_open S work text z q) = open_kept S work text z
  after_kept (after_one c rs a text f same id) =
      let k = after_kept a in
      subst (λ (L : Sess Plain). KeptCall (type_call c.session s c.work text id) L (run X₂ T (rs ++ (one (length text) id ∷ [])) begun₂)) (sym (run_then X T rs (one (length text) id ∷ []) (opened B)))
      (subst (λ (A : Sess State). KeptCall (type_call c.session s c.work text id) (single X T (length text) (run X T rs (opened B)) id).sess A) (sym (run_then X₂ T rs (one (length text) id ∷ []) begun₂))
      (type_kept c.session c.work c.text (run X T rs (opened B)) (after_holds p modes s n ok a) (run X₂ T rs begun₂) k.near k.visits k.same text f same id))
  after_kept (after_all c rs a text f same) =
      let k = after_kept a in
      subst (λ (L : Sess Plain). KeptCall (types_call c.session s c.work text) L (run X₂ T (rs ++ (all (length text) ∷ [])) begun₂)) (sym (run_then X T rs (all (length text) ∷ []) (opened B)))
      (subst (λ (A : Sess State). KeptCall (types_call c.session s c.work text) (every X T (length text) (run X T rs (opened B)) (run X T rs (opened B)).is_open).sess A) (sym (run_then X₂ T rs (all (length text) ∷ []) begun₂))
      (types_kept c.session c.work c.text (run X T rs (opened B)) (after_holds p modes s n ok a) (run X₂ T rs begun₂) k.near k.visits k.same text f same))
  after_kept (after_list c rs a text f same ids) =
      let k = after_kept a in
      let qs : List Req = singles_for (length text) (made 0 (list_call c.session s c.work text ids)) ids in
      subst (λ (L : Sess Plain). KeptCall (list_call c.session s c.work text ids) L (run X₂ T (rs ++ qs) begun₂)) (sym (run_then X T rs qs (opened B)))
      (subst (λ (A : Sess State). KeptCall (list_call c.session s c.work text ids) (run X T qs (run X T rs (opened B))) A) (sym (run_then X₂ T rs qs begun₂))
      (list_kept ids 0 c.session c.work c.text (run X T rs (opened B)) (after_holds p modes s n ok a) (run X₂ T rs begun₂) k.near k.visits k.same text f same))
