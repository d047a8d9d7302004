-- What the theorems ask of a table holds of every section that opening accepts. Assumes nothing.
use Prim.Native.Nat.{ℕ, ◌+◌, ◌≤◌}
use mathlib.Core.Path.{◌≡◌, refl}
use mathlib.Core.List.{List, []}
use Rattle.spec_c_dumper.specs.rules.Types.{Btf as Rules}
use Rattle.spec_c_dumper.specs.rules.Machine.{Req}
use Rattle.spec_c_dumper.specs.rules.Names.{Naming, Names}
use Rattle.spec_opening.specs.Causes.{opening_number}
use Rattle.spec_c_dumper.specs.needs.Session.{no_names, opened_by, dumped}
use Rattle.proof_demands.specs.demands.Table.{opened_table, names_in, opened_in}
use Rattle.proof_demands.proofs.demands.Claims.{opening_gives}
use Rattle.proof_demands.proofs.demands.OpenedMemory.{ends}
use Rattle.spec_c_dumper.specs.alignment_once.Once.{table_keep, blank, members_to}
use Rattle.spec_c_dumper.specs.alignment_once.Writers.{after_once, dumped_once, remembering_names, remembering_asks, no_visits}
use Rattle.spec_c_dumper.proofs.alignment_once.Tables.{Any, Each, table_lawful}
use Rattle.spec_c_dumper.proofs.alignment_once.Session.{remembering_session, session_visits}

module _ (pointer modes : ℕ) (s : List ℕ) (n : ℕ) (ok : opening_number pointer s n ≡ 0) (rs : List Req) where
  abbrev B : Rules
  B = opened_table pointer modes s n

  abbrev N : Naming Names
  N = names_in pointer modes s n

  -- the numbers, lengths and text of the rules with the names of the session, for every list of requests
  pub opened_session : dumped_once (remembering_asks (table_keep B.type_cnt) B) (remembering_names N) B [] rs (opened_by (remembering_names N) B (no_visits (no_names B) blank)) ≡ dumped N B [] rs (opened_in pointer modes s n)
  opened_session = remembering_session (table_keep B.type_cnt) N B Any Each (table_lawful B.type_cnt) (λ id t q l. tt) (opening_gives pointer modes s n ok).well_formed (ends _ s _) (no_names B) blank tt (λ id. refl) rs

  -- "at most types plus members"
  pub opened_visits : (after_once (remembering_asks (table_keep B.type_cnt) B) (remembering_names N) B rs (opened_by (remembering_names N) B (no_visits (no_names B) blank))).mach.known.names.visits ≤ B.type_cnt + members_to B B.type_cnt
  opened_visits = session_visits (table_keep B.type_cnt) N B Any Each (table_lawful B.type_cnt) (λ id t q l. tt) (opening_gives pointer modes s n ok).well_formed (ends _ s _) (no_names B) blank tt (λ id. refl) rs
