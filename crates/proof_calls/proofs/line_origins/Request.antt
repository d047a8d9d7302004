-- One request with a list of entries, in lent bytes and over plain lists: the same refusal, or states that go on alike; and the same entries.
-- Assumes nothing.
use Prim.Native.Nat.{ℕ, ◌<◌}
use mathlib.Core.Path.{◌≡◌, refl, sym, subst}
use mathlib.Core.Bool.{Bool, true, false}
use mathlib.Core.List.Memᴰ
use mathlib.Core.List.{List, []}
use native.Mathlib.Omega.{arith}
use Rattle.spec_c_dumper.specs.rules.Order.{Table, Res}
use Rattle.spec_c_dumper.specs.rules.Machine.{Out, wrote, Machine, MLawful, OrderKeeps, obind, Sess, emitted, shut}
use Rattle.spec_c_dumper.specs.rules.Types.{Btf as Rules, table_of}
use Rattle.spec_c_dumper.specs.rules.Names.{Names, Naming}
use Rattle.spec_c_dumper.proofs.rules.Related.{RelNaming}
use Rattle.spec_type_table.specs.declared.types.TypeTable.{TypeTable}
use Rattle.spec_type_table.specs.Table.{btf_of, work_naming}
use Rattle.spec_session.specs.emission.Slices.{Slices, work_machine}
use Rattle.spec_c_dumper.specs.needs.Needs.{WF}
use Rattle.spec_c_dumper.specs.needs.Lists.{Ls}
use Rattle.spec_c_dumper.specs.needs.Session.{Known, machine_by}
use Rattle.spec_c_dumper.proofs.needs.Alike.{Live, BothOut, both_wrote, both_stuck}
use Rattle.spec_c_dumper.proofs.needs.Lists.{Sized}
use Rattle.spec_c_dumper.proofs.needs.Session.{machine_lawful}
use Rattle.proof_demands.specs.name_counts.Indexed.{Indexed, NameFits, FitsValue}
use Rattle.proof_demands.specs.name_counts.Alike.{Alike}
use Rattle.proof_demands.specs.alignment_memory.Work.{Sane}
use Rattle.proof_demands.specs.demands.Representation.{Bears, Shows, BothRequest, both_refused}
use Rattle.proof_demands.proofs.demands.Start.{start_step}
use Rattle.proof_demands.proofs.demands.Request.{untold, Related, alike_store, alike_steps, list_same, emitted_alike}
use Rattle.spec_c_dumper.specs.origins.Causes.{WithLeaders, order_with_leaders, listed_entry, Traced, each_listed, Explaining, dropped, emitted_traced, ordered_traced}
use Rattle.spec_c_dumper.specs.origins.Claims.{forget}
use Rattle.spec_session.specs.origin_calls.Bytes.{listed_traced, dumped_traced, entries_after}
use Rattle.proof_calls.proofs.line_origins.Ordering.{BothLeaders, both_leaders, neither_leader, order_with_leaders_alike}
use Rattle.proof_calls.proofs.line_origins.Emission.{SameNoted, listed_alike}

-- w is the work after opening; the text so far is `front`, and the room of the request is `room`
module _ (b : TypeTable) (e : ℕ) (s w : List ℕ) (I : Indexed b e s w) (Z : Sane b (btf_of b s w)) (N : Naming Names) (R : RelNaming (Alike b e s w) (NameFits b s w) (FitsValue b s w) (work_naming b) N)
    (wf : WF (table_of (btf_of b s w))) (front : List ℕ) (room : ℕ) where
  abbrev B : Rules
  B = btf_of b s w

  abbrev T : Table
  T = table_of B

  abbrev State : Type 0
  State = Ls (Known Names)

  abbrev X₁ : Machine Slices (Unit {0})
  X₁ = work_machine b B

  abbrev X : Machine State Names
  X = machine_by N B

  abbrev Rel : Slices → State → Type 0
  Rel m t = Related b e s w I Z N R wf front room m t

  abbrev Untold : Unit {0} → Names → Type 0
  Untold h u = untold b e s w I Z N R wf front room h u

  abbrev lawful : MLawful X (Sized T.count) T.count
  lawful = machine_lawful N B T.count

  abbrev Lives : Slices → State → Type 0
  Lives m t = Live X₁.store X.store T (Sized T.count) lawful.law (OrderKeeps X (Sized T.count)) lawful.framed wf.below Rel (alike_store b e s w I Z N R wf front room) m t

  counted : T.count ≡ b.types
  unfolding btf_of
  counted = refl

  -- told: what the requests before it came to
  module _ (more shows : ℕ → Bool) (told : Explaining State) (x : ℕ) where
    abbrev S : Sess State
    S = told.answer.sess

    pub record BothTold (o : Out (Traced Slices) (Unit {0})) (t : Explaining State) : Type 0 where
      pub answers : BothRequest b e s w front room S x (forget o) t.answer
      pub same_entries : entries_after told.entries o ≡ t.entries
      pub zeroed : t.zeroed ≡ true

    abbrev last : Traced Slices → Out (Traced Slices) (Unit {0})
    last k = wrote (record { mach = X₁.start 0 k.mach; entries = k.entries })

    emitted_traced_lem : {r₁ : Out (Traced Slices) (Unit {0})} {r : Out (Traced State) Names} → BothOut (SameNoted Rel) Untold r₁ r → BothTold (obind r₁ last) (emitted_traced X T more shows told x r)
    unfolding obind forget entries_after emitted_traced emitted dropped shut
    emitted_traced_lem (both_wrote m t q) = record { answers = emitted_alike b e s w I Z N R wf front room S x (both_wrote m.mach t.mach q.related); same_entries = q.same_entries; zeroed = refl }
    emitted_traced_lem (both_stuck m u q c) = record { answers = emitted_alike b e s w I Z N R wf front room S x (both_stuck m u q c); same_entries = refl; zeroed = refl }

    ordered_traced_lem : {r₁ : Res (WithLeaders Slices)} {r : Res (WithLeaders State)} → BothLeaders Lives r₁ r → BothTold (listed_traced X₁ T more shows tt x told.entries r₁) (ordered_traced X T more shows told x r)
    unfolding listed_traced ordered_traced dropped shut forget entries_after
    ordered_traced_lem (both_leaders m t c h q) =
        let m' : Traced Slices = record { mach = m.state; entries = told.entries } in
        let t' : Traced State = record { mach = t.state; entries = told.entries } in
        emitted_traced_lem
        (subst (λ (k : List ℕ). BothOut (SameNoted Rel) Untold (each_listed X₁ T more shows (listed_entry x m.leaders) k m') (each_listed X T more shows (listed_entry x t.leaders) (X.store.list t.state) t')) (sym (list_same b e s w I Z N R wf front room m.state t.state h.related))
        (subst (λ (k : List (ℕ × ℕ)). BothOut (SameNoted Rel) Untold (each_listed X₁ T more shows (listed_entry x k) (X.store.list t.state) m') (each_listed X T more shows (listed_entry x t.leaders) (X.store.list t.state) t')) (sym q)
        (listed_alike X₁ X T wf.below Rel Untold (alike_steps b e s w I Z N R wf front room) more shows (listed_entry x t.leaders) (X.store.list t.state) h.ids m' t' (record { related = h.related; same_entries = refl }))))
    ordered_traced_lem (neither_leader c) = record { answers = both_refused c (X.leaving (X.held S.mach) S.mach) refl refl; same_entries = refl; zeroed = refl }

    -- m: the sheet of the request, with an empty order list
    pub request_traced : (m : Slices) → m.len ≡ 0 → Bears b e s w m.work 0 (X.start 0 S.mach) → Shows b e s w front m.text m.at (X.start room S.mach) → x < b.types
        → BothTold (dumped_traced X₁ T more shows m told.entries x) (ordered_traced X T more shows told x (order_with_leaders X.store x 512 T [] (record { state = X.start room S.mach; leaders = [] }) x false))
    unfolding dumped_traced
    request_traced m z h sh l =
        ordered_traced_lem
        (order_with_leaders_alike X₁.store X.store T (Sized T.count) lawful.law (OrderKeeps X (Sized T.count)) lawful.framed wf.below Rel (alike_store b e s w I Z N R wf front room) x
        512 [] (record { state = m; leaders = [] }) (record { state = X.start room S.mach; leaders = [] }) x false
        (record {
          related = record {
            bears = subst (λ (k : ℕ). Bears b e s w m.work k (X.start room S.mach)) (sym z) (start_step b e s w m.work m.work refl refl (λ i q. refl) B room 0 (X.start 0 S.mach) h);
            shows = sh;
            same_room = refl;
            short = omega (arith, z);
          };
          room = omega arith;
          ids = λ y q. absurd (Memᴰ.not-nil q);
        })
        refl (subst (λ (k : ℕ). x < k) (sym counted) l))
