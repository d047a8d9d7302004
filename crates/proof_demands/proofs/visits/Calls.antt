-- The visits in the record: after an opening that succeeded and any requests, while the session is open, and after the refusal that closes it.
-- Assumes nothing.
use Prim.Native.Nat.{ℕ, ◌+◌, ◌%◌, ◌<◌, ◌≤◌}
use native.Mathlib.Omega.{arith}
use mathlib.Core.Path.{◌≡◌, ap, ◌∙◌, sym, subst}
use mathlib.Core.Bool.{true}
use mathlib.Core.List.{List}
use Rattle.spec_c_dumper.specs.rules.Types.{Btf as Rules}
use Rattle.spec_c_dumper.specs.rules.Machine.{Req}
use Rattle.spec_opening.specs.Causes.{opening_number}
use Rattle.spec_session.specs.session.Answers.{number_of}
use Rattle.spec_session.specs.session.Turns.{Call, visits_in}
use Rattle.spec_session.specs.calls.Calls.{type_call}
use Rattle.spec_session.proofs.calls.Lists.{type_single}
use Rattle.proof_demands.specs.demands.Table.{opened_table}
use Rattle.proof_demands.specs.demands.Session.{After}
use Rattle.proof_demands.proofs.demands.Session.{after_holds}
use Rattle.proof_demands.proofs.demands.Counts.{few}
use Rattle.spec_c_dumper.specs.alignment_once.Once.{members_to, paid_to}
use Rattle.spec_c_dumper.proofs.alignment_once.Counted.{paid_most}
use Rattle.btf_layout.specs.remembered.Words.{work_keep}
use Rattle.proof_demands.specs.alignment_memory.Work.{SoundMemory}
use Rattle.proof_demands.proofs.visits.Record.{after_says}

module _ (p modes : ℕ) (s : List ℕ) (n : ℕ) (ok : opening_number p s n ≡ 0) (c : Call) (rs : List Req) (a : After p modes s n c rs) (o : c.session.«open» ≡ true) where
  abbrev B : Rules
  B = opened_table p modes s n

  -- what the calls have remembered of alignments is what get_align_of says
  pub call_memory : SoundMemory B c.work
  call_memory = let h = after_holds p modes s n ok a in (h.bears (sym h.is_open ∙ o)).memory

  abbrev most : ℕ
  most = B.type_cnt + members_to B B.type_cnt

  abbrev paid : ℕ
  paid = paid_to B ((work_keep B.type_cnt B).recall c.work) B.type_cnt

  -- the visits in the record are the types that are remembered and their members
  pub call_count : c.session.visits ≡ paid
  unfolding visits_in
  call_count =
      let m : paid ≤ most = paid_most B ((work_keep B.type_cnt B).recall c.work) B.type_cnt in
      let f : most < 4294967296 = few p modes s n ok in
      let z : paid % 4294967296 ≡ paid = omega arith in
      after_says p modes s n ok a o ∙ ap (λ (k : ℕ). k % 4294967296) call_memory.count ∙ z

  -- "at most types plus members"
  pub call_visits : c.session.visits ≤ most
  call_visits = subst (λ (k : ℕ). k ≤ most) (sym call_count) (paid_most B ((work_keep B.type_cnt B).recall c.work) B.type_cnt)

  -- and after the next request for one id too, whatever it is lent: a refusal leaves them
  pub next_left : (w t : List ℕ) (id : ℕ) → (number_of (type_call c.session s w t id).answer ≡ 0 → ⊥) → (type_call c.session s w t id).session.visits ≡ paid
  next_left w t id z = (type_single c.session s w t id).leaves z ∙ call_count
