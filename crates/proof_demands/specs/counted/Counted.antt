-- Visits, said of the calls of a session: "In a session the counted visits, one for each type or member looked at to find an alignment, are
-- kept in the record, equal the count in a definition of the remembering way, and are at most types plus members". Statements only:
-- proofs/Claims.antt has the proof, of every section that opening accepts, every list of requests after it, and every text slice that a
-- request is lent.
use Rattle.std.specs.Prelude.{ℕ, ◌+◌, ◌≤◌, ◌≡◌, true, List}
use Rattle.spec_c_dumper.specs.rules.Names.{Names, Naming}
use Rattle.spec_c_dumper.specs.rules.Machine.{Req}
use Rattle.spec_c_dumper.specs.rules.Types.{Btf as Rules}
use Rattle.spec_session.specs.session.Turns.{Call}
use Rattle.spec_c_dumper.specs.needs.Session.{no_names, opened_by}
use Rattle.proof_demands.specs.demands.Table.{opened_table, names_in}
use Rattle.proof_demands.specs.demands.Session.{After}
use Rattle.spec_c_dumper.specs.alignment_once.Once.{Table, table_keep, blank, members_to}
use Rattle.spec_c_dumper.specs.alignment_once.Writers.{after_once, Remembering, remembering_names, remembering_asks, no_visits}
use Rattle.btf_layout.specs.remembered.Words.{work_keep}

-- pointer size, mode, section and length of the work, as at opening
module _ (pointer modes : ℕ) (s : List ℕ) (n : ℕ) where
  abbrev B : Rules
  B = opened_table pointer modes s n

  abbrev N : Naming Names
  N = names_in pointer modes s n

  -- Names, memory and visits before the first request: no name is given, nothing is remembered, no visit is counted.
  abbrev pub defined_first : Remembering Names Table
  defined_first = no_visits (no_names B) blank

  -- and after the requests, in a session of the definition of the remembering way (crates/spec_c_dumper/specs/alignment_once)
  abbrev pub defined_after : List Req → Remembering Names Table
  defined_after rs =
      (after_once (remembering_asks (table_keep B.type_cnt) B) (remembering_names N) B rs
      (opened_by (remembering_names N) B defined_first)).mach.known.names

  -- c: the last call, after the requests rs. The record's visits, of an open session and of one that a refusal closed; and while it is open
  -- the work remembers what the definition does of each type.
  pub record CountedCalls (c : Call) (rs : List Req) : Type 0 where
    pub visits : c.session.visits ≡ (defined_after rs).visits
    pub at_most : c.session.visits ≤ B.type_cnt + members_to B B.type_cnt
    pub memory : c.session.«open» ≡ true → (id : ℕ) → (work_keep B.type_cnt B).recall c.work id ≡ (defined_after rs).memory id

  -- THE CLAIM
  pub record Counted : Type 0 where
    pub calls : (c : Call) (rs : List Req) → After pointer modes s n c rs → CountedCalls c rs
