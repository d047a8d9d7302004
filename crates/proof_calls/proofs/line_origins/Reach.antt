-- The requests of a call with entries, in lent bytes and over plain lists, go alike: the same numbers, the same text, the same entries. Assumes
-- nothing but that opening accepts the section.
use Prim.Native.Nat.{ℕ, zero, suc, ◌+◌, ◌<◌, ◌≤◌}
use mathlib.Core.Path.{◌≡◌, refl, ap, ◌∙◌, sym, subst}
use mathlib.Core.Bool.{Bool, true, false}
use mathlib.Core.List.{List, []}
use mathlib.Core.Logic.{⊎_elim}
use native.Mathlib.Omega.{arith}
use lib.ListN.{length, take}
use lib.Dec.{ltb}
use borrow.Author.Tests.{lt-ltb}
use Rattle.std.proofs.lemmas.Bool.{cases_lt}
use Rattle.spec_c_dumper.specs.rules.Order.{Table}
use Rattle.spec_c_dumper.specs.rules.Machine.{Out, wrote, stuck, Machine, Sess, Answer}
use Rattle.spec_c_dumper.specs.rules.Types.{Btf as Rules, table_of}
use Rattle.spec_c_dumper.specs.rules.Names.{Names}
use Rattle.spec_type_table.specs.declared.types.TypeTable.{TypeTable}
use Rattle.spec_type_table.specs.Table.{btf_of}
use Rattle.spec_opening.specs.Table.{enumerators_of}
use Rattle.spec_opening.specs.Opened.{work_of}
use Rattle.spec_opening.specs.Causes.{opening_number}
use Rattle.spec_session.specs.emission.Slices.{Slices, work_machine}
use Rattle.spec_c_dumper.specs.rules.Request.{dumped}
use Rattle.spec_session.specs.session.Turns.{Reach, reached, refused_by, visits_in}
use Rattle.spec_session.specs.calls.Calls.{lent_to}
use Rattle.spec_c_dumper.specs.needs.Lists.{Ls}
use Rattle.spec_c_dumper.specs.needs.Session.{Known}
use Rattle.proof_demands.specs.demands.Table.{header_of, names_in, machine_in}
use Rattle.proof_demands.proofs.demands.Sound.{opened_wf}
use Rattle.proof_demands.proofs.demands.OpenedMemory.{opened_sane}
use Rattle.proof_demands.proofs.demands.Named.{opened_indexed, opened_names}
use Rattle.proof_demands.proofs.demands.Session.{Going, BothReach, both_reached, both_ended, begins, came, positive}
use Rattle.spec_c_dumper.specs.origins.Causes.{Entry, order_with_leaders, Traced, up_to, shows_in, Explaining, ordered_traced, gate_traced, single_traced, onward_traced, from_traced}
use Rattle.spec_c_dumper.specs.origins.Claims.{forget, Lined}
use Rattle.spec_session.specs.origin_calls.Bytes.{dumped_traced, Reached, entries_after, came_to_traced, requested_traced, onward_traced as go_on, requested_from_traced}
use Rattle.spec_session.proofs.origin_calls.Bytes.{dumped_lined}
use Rattle.proof_calls.proofs.line_origins.Request.{BothTold, request_traced}

abbrev number_in : Out Slices (Unit {0}) → ℕ
number_in (wrote m) = 0
number_in (stuck h c) = c

-- ---- a request in a list of c entries, of which es are there: no number 0, and no more entries than there is room for
module _ (c : ℕ) (es : List Entry) (l : length es ≤ c) (F : (ℕ → Bool) → Out (Traced Slices) (Unit {0})) (P : Out Slices (Unit {0})) (h : Lined ⊥ (length es) F P) where
  lined_positive : ((k : ℕ) → P ≡ stuck tt k → 0 < k) → (k : ℕ) → forget (F (up_to c)) ≡ stuck tt k → 0 < k
  unfolding forget
  lined_positive p k q = ⊎_elim
      (λ f. let z : 17 ≡ k = ap number_in (ap forget (sym (h.short c l f).1) ∙ q) in omega arith)
      (λ f. p k (sym h.same ∙ ap forget (sym (h.fits c f)) ∙ q))
      (cases_lt c h.need)

  lined_held : length (entries_after es (F (up_to c))) ≤ c
  unfolding entries_after
  lined_held = go (F (up_to c)) refl
    where
      go : (o : Out (Traced Slices) (Unit {0})) → F (up_to c) ≡ o → length (entries_after es o) ≤ c
      go (wrote m) q = ⊎_elim
          (λ f. let y : wrote m ≡ stuck (h.short c l f).0 17 = sym q ∙ (h.short c l f).1 in absurd (let z : ◌≡◌ {A = ℕ} 0 1 = cc in omega arith))
          (λ f. let z : length m.entries ≡ h.need = h.counts m (sym (h.fits c f) ∙ q) in omega arith)
          (cases_lt c h.need)
      go (stuck u k) q = l

module _ (p modes : ℕ) (s : List ℕ) (n : ℕ) (ok : opening_number p s n ≡ 0) where
  abbrev b : TypeTable
  b = header_of p modes s

  abbrev e : ℕ
  e = enumerators_of s

  abbrev w : List ℕ
  w = work_of p modes s n

  abbrev B : Rules
  B = btf_of b s w

  abbrev T : Table
  T = table_of B

  abbrev State : Type 0
  State = Ls (Known Names)

  abbrev X : Machine State Names
  X = machine_in p modes s n

  -- c: how many entries the lent list has room for
  pub record BothCame (c room : ℕ) (r : Reached) (t : Explaining State) : Type 0 where
    pub reaches : BothReach p modes s n ok room r.reach t.answer
    pub same_entries : r.entries ≡ t.entries
    pub held : length t.entries ≤ c
    pub zeroed : t.zeroed ≡ true

  -- ---- one request
  module _ (c : ℕ) (told : Explaining State) (few : length told.entries ≤ c) (len : ℕ) (v t : List ℕ) (room : ℕ) (g : Going p modes s n ok len v t room told.answer.sess) (x : ℕ) (l : x < T.count) where
    abbrev L : Sess State
    L = told.answer.sess

    abbrev es : List Entry
    es = told.entries

    abbrev slices : Slices
    slices = record { work = v; text = lent_to len t; at = 0; len = 0 }

    abbrev out : Out (Traced Slices) (Unit {0})
    out = dumped_traced (work_machine b B) T (up_to c) (shows_in B) slices es x

    abbrev told' : Explaining State
    told' = ordered_traced X T (up_to c) (shows_in B) told x (order_with_leaders X.store x 512 T [] (record { state = X.start room L.mach; leaders = [] }) x false)

    single_is : single_traced X T (up_to c) (shows_in B) room x told ≡ told'
    unfolding single_traced gate_traced
    single_is = ap (λ (f : Bool). gate_traced X T (up_to c) (shows_in B) room told x f (ltb x T.count)) g.running ∙ ap (gate_traced X T (up_to c) (shows_in B) room told x true) (lt-ltb x T.count l)

    table_now : (u : ℕ) → requested_traced (up_to c) b s x es len u v t ≡ came_to_traced len u t es out
    unfolding requested_traced
    table_now u = ap (λ (K : Rules). came_to_traced len u t es (dumped_traced (work_machine b K) (table_of K) (up_to c) (shows_in K) slices es x)) g.bears.table

    below : x < b.types
    unfolding btf_of
    below = l

    both_told : BothTold b e s w (opened_indexed p modes s n ok) (opened_sane p modes s n ok) (names_in p modes s n) (opened_names p modes s n ok) (opened_wf p modes s n ok) (take len t) room (up_to c) (shows_in B) told x out told'
    both_told = request_traced b e s w (opened_indexed p modes s n ok) (opened_sane p modes s n ok) (names_in p modes s n) (opened_names p modes s n ok) (opened_wf p modes s n ok) (take len t) room (up_to c) (shows_in B) told x
        slices refl g.bears (begins p modes s n ok len v t room L g x) below

    lined : Lined ⊥ (length es) (λ r. dumped_traced (work_machine b B) T r (shows_in B) slices es x) (dumped (work_machine b B) T slices x)
    lined = dumped_lined (work_machine b B) T (shows_in B) slices es x

    came_traced : (u : ℕ) → BothCame c room (came_to_traced len u t es out) told'
    unfolding came_to_traced
    came_traced u = record {
      reaches = came p modes s n ok len v t room L g x u both_told.answers
          (lined_positive c es few (λ r. dumped_traced (work_machine b B) T r (shows_in B) slices es x) (dumped (work_machine b B) T slices x) lined (positive p modes s n ok len v t room L g x));
      same_entries = both_told.same_entries;
      held = subst (λ (k : List Entry). length k ≤ c) both_told.same_entries (lined_held c es few (λ r. dumped_traced (work_machine b B) T r (shows_in B) slices es x) (dumped (work_machine b B) T slices x) lined);
      zeroed = both_told.zeroed;
    }

    pub request_came : (u : ℕ) → BothCame c room (requested_traced (up_to c) b s x es len u v t) (single_traced X T (up_to c) (shows_in B) room x told)
    request_came u =
        subst (λ (r : Reached). BothCame c room r (single_traced X T (up_to c) (shows_in B) room x told)) (sym (table_now u))
        (subst (λ (q : Explaining State). BothCame c room (came_to_traced len u t es out) q) (sym single_is) (came_traced u))

  -- ---- one after the other
  module _ (c room : ℕ) (r : Reached) (t : Explaining State) (k₁ : List Entry → ℕ → List ℕ → List ℕ → Reached) (k : Explaining State → Explaining State) (h : BothCame c room r t) where
    abbrev Next : Reach → ℕ → Type 0
    Next q m = BothCame c room (elim q as (λ (y : Reach). Reached) [ reached len v u ↦ k₁ r.entries len v u | refused_by d len v u ↦ r ]) (elim m as (λ (y : ℕ). Explaining State) [ zero ↦ k t | suc j ↦ t ])

    onward_came : ((len : ℕ) (v u : List ℕ) → Going p modes s n ok len v u room t.answer.sess → t.answer.number ≡ 0 → BothCame c room (k₁ t.entries len v u) (k t))
        → BothCame c room (go_on (up_to c) b s r k₁) (onward_traced X T (up_to c) (shows_in B) k t)
    unfolding go_on onward_traced
    onward_came f = go h.reaches refl refl
      where
        go : {q : Reach} {a : Answer State} → BothReach p modes s n ok room q a → r.reach ≡ q → t.answer ≡ a → Next r.reach t.answer.number
        go (both_reached len v u L g) d i =
            let z : t.answer.number ≡ 0 = ap (λ (a : Answer State). a.number) i in
            subst (λ (q : Reach). Next q t.answer.number) (sym d) (subst (Next (reached len v u)) (sym z)
            (subst (λ (y : List Entry). BothCame c room (k₁ y len v u) (k t)) (sym h.same_entries) (f len v u (subst (Going p modes s n ok len v u room) (sym (ap (λ (a : Answer State). a.sess) i)) g) z)))
        go (both_ended j len y u L g) d i =
            subst (λ (q : Reach). Next q t.answer.number) (sym d) (subst (Next (refused_by (suc j) len y u)) (sym (ap (λ (a : Answer State). a.number) i)) h)

  pub from_came : (c room k x : ℕ) → x + k ≤ T.count → (told : Explaining State) → length told.entries ≤ c → told.zeroed ≡ true → told.answer.number ≡ 0
      → (len : ℕ) (v t : List ℕ) → Going p modes s n ok len v t room told.answer.sess
      → BothCame c room (requested_from_traced (up_to c) b s k x told.entries len v t) (from_traced X T (up_to c) (shows_in B) room k x told)
  unfolding requested_from_traced from_traced
  from_came c room zero x l told few z q len v t g = record {
    reaches = subst (λ (m : ℕ). BothReach p modes s n ok room (reached len v t) (record { sess = told.answer.sess; number = m })) (sym q) (both_reached len v t told.answer.sess g);
    same_entries = refl;
    held = few;
    zeroed = z;
  }
  from_came c room (suc k) x l told few z q len v t g =
      let h : BothCame c room (requested_traced (up_to c) b s x told.entries len (visits_in v) v t) (single_traced X T (up_to c) (shows_in B) room x told) = request_came c told few len v t room g x (omega arith) (visits_in v) in
      onward_came c room (requested_traced (up_to c) b s x told.entries len (visits_in v) v t) (single_traced X T (up_to c) (shows_in B) room x told) (requested_from_traced (up_to c) b s k (suc x)) (from_traced X T (up_to c) (shows_in B) room k (suc x)) h
      (λ len' v' t' g' q'. from_came c room k (suc x) (omega arith) (single_traced X T (up_to c) (shows_in B) room x told) h.held h.zeroed q' len' v' t' g')
