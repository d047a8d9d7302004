-- What a list that is too short leaves: the text of the requests accepted before it, in a closed session. Assumes nothing but that opening accepts the section.
use Prim.Native.Nat.{ℕ, zero-le, ◌+◌, ◌-◌, ◌/◌, ◌%◌}
use mathlib.Core.Path.{◌≡◌, refl, ap, ◌∙◌, sym, subst}
use mathlib.Core.Bool.{Bool, true, false}
use mathlib.Core.List.{List, []}
use native.Mathlib.Omega.{arith}
use lib.ListN.{length}
use lib.Dec.{eqb}
use Rattle.spec_c_dumper.specs.rules.Order.{Table}
use Rattle.spec_c_dumper.specs.rules.Machine.{Machine, Sess, Req, run}
use Rattle.spec_c_dumper.specs.rules.Names.{Names, Naming, naming}
use Rattle.spec_c_dumper.specs.rules.Types.{Btf}
use Rattle.spec_opening.specs.Table.{enumerators_of}
use Rattle.spec_opening.specs.Opened.{work_of}
use Rattle.spec_opening.specs.Causes.{opening_number}
use Rattle.spec_session.specs.session.Answers.{number_of, value_of}
use Rattle.spec_session.specs.session.Turns.{Call}
use Rattle.spec_c_dumper.specs.needs.Lists.{Ls}
use Rattle.spec_c_dumper.specs.needs.Session.{Known, text_of}
use Rattle.proof_demands.specs.name_counts.Passed.{passed}
use Rattle.proof_demands.specs.name_counts.Indexed.{lists_in}
use Rattle.proof_demands.specs.demands.Table.{header_of, opened_table, names_in, machine_in}
use Rattle.proof_demands.specs.demands.Session.{Holds, singles_for}
use Rattle.proof_demands.specs.demands.Demands.{Lent, types_in, ruled}
use Rattle.spec_c_dumper.specs.origins.Causes.{up_to, shows_in, entries_in, Explaining, untold, single_traced, list_traced, every_traced, causes_of, all_causes}
use Rattle.spec_session.specs.origin_calls.Bytes.{CauseCall, type_causes, types_causes}
use Rattle.spec_c_dumper.proofs.origins.Numbered.{machine_numbered}
use Rattle.spec_session.specs.origin_calls.Several.{list_from_causes, list_causes_call}
use Rattle.proof_calls.specs.ceilings.Ceilings.{ones_from}
use Rattle.proof_calls.proofs.ceilings.Shut.{Shut}
use Rattle.proof_calls.specs.line_origins.Claims.{all_ruled}
use Rattle.proof_calls.proofs.line_origins.Calls.{Stepped, type_stepped, types_stepped}
use Rattle.proof_calls.proofs.line_origins.Lists.{Went, list_went}
use Rattle.proof_calls.proofs.mixed.Accepted.{Came, more, none, single_came, Accepted, from_accepted, list_accepted}

-- a refused request leaves no name
names_stay : (p modes : ℕ) (s : List ℕ) (n : ℕ) (h u : Names) → (names_in p modes s n).leaving h u ≡ u
unfolding names_in
names_stay p modes s n h u = go (eqb (modes / 8 % 2) 1)
  where
    go : (b : Bool) → (elim b as (λ z. Naming Names) [ true ↦ passed (lists_in (header_of p modes s) (enumerators_of s) s (work_of p modes s n)) | false ↦ naming ]).leaving h u ≡ u
    go true = refl
    go false = refl

module _ (p modes : ℕ) (s : List ℕ) (n : ℕ) (ok : opening_number p s n ≡ 0) (c : Call) (rs : List Req) (h : Holds p modes s n c.session c.work c.text (ruled p modes s n rs)) (text : List ℕ) (lent : Lent c text) (l : List ℕ) where
  abbrev State : Type 0
  State = Ls (Known Names)

  abbrev B : Btf
  B = opened_table p modes s n

  abbrev T : Table
  T = types_in p modes s n

  abbrev X : Machine State Names
  X = machine_in p modes s n

  abbrev L : Sess State
  L = ruled p modes s n rs

  stays : (u : Names) (m : State) → X.leaving u m ≡ m
  stays u m i = record {
    marks = m.marks;
    olist = m.olist;
    emits = m.emits;
    fwds = m.fwds;
    room = m.room;
    known = record { names = names_stay p modes s n u m.known.names i; text_len = m.known.text_len };
    pieces = m.pieces;
  }

  -- a record and a text that stand for the session of the rules with entries
  shut : (d : Call) (K Q : Sess State) → Holds p modes s n d.session d.work d.text K → K.mach ≡ Q.mach → K.is_open ≡ false → Q.is_open ≡ true → Shut d.session d.text Q
  shut d K Q k m f o = record { closed = k.is_open ∙ f; running = o; its_text = k.its_text ∙ ap (λ (y : State). text_of y.pieces) m; fits = k.fits }

  -- one id
  module _ (id : ℕ) (q : number_of (type_causes c.session s c.work text id l).call.answer ≡ 17) where
    abbrev d : Call
    d = (type_causes c.session s c.work text id l).call

    abbrev u : Explaining State
    u = single_traced X T (up_to (entries_in l)) (shows_in B) (length text) id (untold L)

    one_stepped : Stepped p modes s n ok (length text) (untold L) l (type_causes c.session s c.work text id l) u
    one_stepped = type_stepped p modes s n ok c.session c.work c.text (untold L) h text lent.long lent.begins id l (entries_in l) (omega arith)

    one_number : u.answer.number ≡ 17
    one_number = sym one_stepped.keeps.tells.number ∙ q

    one_came : Came X T (shows_in B) (machine_numbered (names_in p modes s n) B) stays (length text) (entries_in l) id (untold L) u → Shut d.session d.text L
    one_came (more z a o) = absurd (let y : ◌≡◌ {A = ℕ} 0 17 = sym z ∙ one_number in omega arith)
    one_came (none z m a k) = shut d u.answer.sess L one_stepped.keeps.holds m (k one_number).0 (k one_number).1

    pub one_short : Shut d.session d.text L
    one_short = one_came (single_came X T (shows_in B) (machine_numbered (names_in p modes s n) B) stays (length text) (entries_in l) id (untold L) zero-le)

  -- all ids
  abbrev every' : Bool → Explaining State
  every' b = every_traced X T (up_to (entries_in l)) (shows_in B) (length text) L b

  every_accepted : (b : Bool) → (every' b).answer.number ≡ 17
      → Accepted X T (shows_in B) (machine_numbered (names_in p modes s n) B) stays (length text) (entries_in l) (λ k. ones_from (length text) k 1) (untold L) (every' b)
  unfolding every_traced
  every_accepted false q = absurd (let y : ◌≡◌ {A = ℕ} 11 17 = q in omega arith)
  every_accepted true q =
      let g = from_accepted X T (shows_in B) (machine_numbered (names_in p modes s n) B) stays (length text) (entries_in l) (T.count - 1) 1 (record { answer = record { sess = L; number = 0 }; entries = []; zeroed = true }) refl zero-le in
      record { count = g.count; asked = g.asked; mach = g.mach; ends = g.ends }

  every_asked : (all_ruled p modes s n l (length text) rs).answer.sess.asked ≡ (every' L.is_open).answer.sess.asked
  unfolding all_causes causes_of
  every_asked = refl

  abbrev count : ℕ
  count = length (all_ruled p modes s n l (length text) rs).answer.sess.asked - length L.asked

  pub all_short : number_of (types_causes c.session s c.work text l).call.answer ≡ 17
      → Shut (types_causes c.session s c.work text l).call.session (types_causes c.session s c.work text l).call.text (run X T (ones_from (length text) count 1) L)
  all_short q =
      let u : Explaining State = every' L.is_open in
      let st : Stepped p modes s n ok (length text) (untold L) l (types_causes c.session s c.work text l) u = types_stepped p modes s n ok c.session c.work c.text (untold L) h text lent.long lent.begins l in
      let z : u.answer.number ≡ 17 = sym st.keeps.tells.number ∙ q in
      let g = every_accepted L.is_open z in
      let a : length u.answer.sess.asked ≡ length L.asked + g.count = g.asked in
      let e : length (all_ruled p modes s n l (length text) rs).answer.sess.asked ≡ length u.answer.sess.asked = ap length every_asked in
      let k : g.count ≡ count = omega (arith, a, e) in
      subst (λ (j : ℕ). Shut (types_causes c.session s c.work text l).call.session (types_causes c.session s c.work text l).call.text (run X T (ones_from (length text) j 1) L)) k
      (shut (types_causes c.session s c.work text l).call u.answer.sess (run X T (ones_from (length text) g.count 1) L) st.keeps.holds g.mach (g.ends z).0 (g.ends z).1)

  -- a list of ids
  pub list_short : (ids : List ℕ) → number_of (list_causes_call c.session s c.work text ids l).call.answer ≡ 17
      → Shut (list_causes_call c.session s c.work text ids l).call.session (list_causes_call c.session s c.work text ids l).call.text
      (run X T (singles_for (length text) (value_of (list_causes_call c.session s c.work text ids l).call.answer) ids) L)
  unfolding list_causes_call
  list_short ids q =
      let d : CauseCall = list_from_causes 0 c.session s c.work text l ids in
      let u : Explaining State = list_traced X T (up_to (entries_in l)) (shows_in B) (length text) ids (untold L) in
      let w : Went p modes s n ok 0 (untold L) l d u = list_went p modes s n ok ids 0 c.session c.work c.text (untold L) h refl text lent.long lent.begins l (entries_in l) (omega arith) in
      let z : u.answer.number ≡ 17 = sym w.its_number ∙ q in
      let g = list_accepted X T (shows_in B) (machine_numbered (names_in p modes s n) B) stays (length text) (entries_in l) ids (untold L) refl zero-le in
      let a : length u.answer.sess.asked ≡ length L.asked + g.count = g.asked in
      let v : length L.asked + value_of d.call.answer ≡ 0 + length u.answer.sess.asked = w.its_value in
      let k : g.count ≡ value_of d.call.answer = omega (arith, a, v) in
      subst (λ (j : ℕ). Shut d.call.session d.call.text (run X T (singles_for (length text) j ids) L)) k
      (shut d.call u.answer.sess (run X T (singles_for (length text) g.count ids) L) w.holds g.mach (g.ends z).0 (g.ends z).1)
