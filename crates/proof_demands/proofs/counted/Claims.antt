-- The visits in the record are the count in the definition of the remembering way. Assumes nothing.
use Prim.Native.Nat.{ℕ, ◌+◌, ◌≤◌}
use mathlib.Core.Path.{◌≡◌, refl, ap, ◌∙◌, sym, subst}
use mathlib.Core.Bool.{true}
use mathlib.Core.List.{List, [], ◌∷◌}
use Rattle.spec_c_dumper.specs.rules.Machine.{Sess, Req, one, all, serve, run}
use Rattle.spec_c_dumper.specs.rules.Types.{Btf as Rules, table_of}
use Rattle.spec_c_dumper.specs.rules.Names.{Names, Naming}
use Rattle.spec_type_table.specs.Table.{btf_of}
use Rattle.spec_c_dumper.specs.needs.Lists.{Ls}
use Rattle.spec_c_dumper.specs.needs.Session.{Known}
use Rattle.spec_c_dumper.specs.alignment_once.Once.{Table, members_to}
use Rattle.spec_c_dumper.specs.alignment_once.Writers.{Asks, Remembering, machine_once, answer_once, after_once}
use Rattle.btf_layout.specs.remembered.Words.{work_keep}
use Rattle.spec_opening.specs.Causes.{opening_number}
use Rattle.spec_session.specs.session.Turns.{Call}
use Rattle.proof_demands.specs.demands.Table.{opened_table}
use Rattle.proof_demands.specs.demands.Session.{After}
use Rattle.proof_demands.proofs.demands.Session.{after_holds}
use Rattle.proof_demands.proofs.demands.Demands.{after_sound}
use Rattle.proof_demands.proofs.visits.Opened.{opened_visits}
use Rattle.proof_demands.specs.counted.Counted.{defined_after, CountedCalls, Counted}
use Rattle.proof_demands.proofs.counted.Session.{X₂, begun₂, after_kept}

-- requests one after the other, as the rules run them
after_run : {St : Type 0} (Q : Asks St) (N : Naming St) (B : Rules) (rs : List Req) (S : Sess (Ls (Known St))) → run (machine_once Q N B) (table_of B) rs S ≡ after_once Q N B rs S
unfolding run serve after_once answer_once
after_run Q N B [] S = refl
after_run Q N B (one room x ∷ rs) S = after_run Q N B rs (serve (machine_once Q N B) (table_of B) S (one room x))
after_run Q N B (all room ∷ rs) S = after_run Q N B rs (serve (machine_once Q N B) (table_of B) S (all room))

module _ (p modes : ℕ) (s : List ℕ) (n : ℕ) (c : Call) (rs : List Req) (a : After p modes s n c rs) where
  ok : opening_number p s n ≡ 0
  ok = after_sound p modes s n a

  abbrev B : Rules
  B = opened_table p modes s n

  defined_is : (run (X₂ p modes s n ok) (table_of B) rs (begun₂ p modes s n ok)).mach.known.names ≡ defined_after p modes s n rs
  defined_is = ap (λ (S : Sess (Ls (Known (Remembering Names Table)))). S.mach.known.names) (after_run _ _ B rs (begun₂ p modes s n ok))

  count_defined : c.session.visits ≡ (defined_after p modes s n rs).visits
  count_defined = (after_kept p modes s n ok a).visits ∙ ap (λ (u : Remembering Names Table). u.visits) defined_is

  memory_defined : c.session.«open» ≡ true → (id : ℕ) → (work_keep B.type_cnt B).recall c.work id ≡ (defined_after p modes s n rs).memory id
  unfolding btf_of
  memory_defined o id = (after_kept p modes s n ok a).same (sym (after_holds p modes s n ok a).is_open ∙ o) id ∙ ap (λ (u : Remembering Names Table). u.memory id) defined_is

  pub counted_visits : CountedCalls p modes s n c rs
  counted_visits = record {
    visits = count_defined;
    at_most = subst (λ (k : ℕ). k ≤ B.type_cnt + members_to B B.type_cnt) (sym count_defined) (opened_visits p modes s n ok rs);
    memory = memory_defined;
  }

-- THE CLAIM
pub counted : (p modes : ℕ) (s : List ℕ) (n : ℕ) → Counted p modes s n
counted p modes s n = record { calls = λ c rs a. counted_visits p modes s n c rs a }
