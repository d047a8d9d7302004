-- READ THIS FIRST: all that is claimed, and where it is said. proofs/Claims.antt has the one theorem, `claims : Claims`; it assumes
-- nothing. That the code does what the definitions say, for all inputs, is in the contracts of its functions; that the rules are the
-- Rust's is read and compared (docs/DIFFERENCES.md). The premise `Bytes s` holds of every section that the code is lent (`session_lent`).
use Rattle.std.specs.Prelude.{ℕ, List}
use Rattle.spec_c_dumper.specs.rules.Order.{Table}
use Rattle.claims.specs.Ours.{on_session, session_visits, session_lending, session_cutting, for_c, visits_for_c, cutting_for_c}
use Rattle.claims.specs.Demand1.{Demand1}
use Rattle.claims.specs.Demands.{Stated}
use Rattle.claims.specs.Request02_big_endian.{Request02}
use Rattle.claims.specs.Request03_placing.{Request03}
use Rattle.claims.specs.Request04_fixed_words.{Request04}
use Rattle.claims.specs.Request05_declared_first.{Request05}
use Rattle.claims.specs.Request06_strong_arrays.{Request06}
use Rattle.claims.specs.Request07_alignment_once.{Request07}
use Rattle.claims.specs.Request08_names_apart.{Request08}
use Rattle.claims.specs.Request09_declaration_read_back.{Request09}
use Rattle.claims.specs.Request10_two_headers.{Request10}
use Rattle.claims.specs.Request11_field_at_bit.{Request11}
use Rattle.claims.specs.Request12_line_origins.{Request12}
use Rattle.claims.specs.Request13_ceiling.{Request13}
use Rattle.claims.specs.Request14_cut.{Request14}
use Rattle.claims.specs.Program.{Program}

pub record Claims : Type 0 where
  -- which openings succeed, and the number of a refusal: of the calls on a session, and of the calls for C
  pub demand1 : Demand1 on_session
  pub demand1_c : Demand1 for_c
  -- demands 2 and 3, and ask 1, after every list of requests, with the names of the Rust and with names apart
  pub demands : (pointer modes : ℕ) (s : List ℕ) (n : ℕ) → Stated on_session pointer modes s n
  pub demands_c : (pointer modes : ℕ) (s : List ℕ) (n : ℕ) → Stated for_c pointer modes s n
  -- the change requests
  pub request02 : Request02
  pub request03 : Request03
  pub request04 : Request04
  pub request05 : (pointer modes : ℕ) (s : List ℕ) (n : ℕ) → Request05 on_session pointer modes s n
  pub request05_c : (pointer modes : ℕ) (s : List ℕ) (n : ℕ) → Request05 for_c pointer modes s n
  pub request06 : (T : Table) → Request06 T
  pub request07 : (pointer modes : ℕ) (s : List ℕ) (n : ℕ) → Request07 on_session session_visits pointer modes s n
  pub request07_c : (pointer modes : ℕ) (s : List ℕ) (n : ℕ) → Request07 for_c visits_for_c pointer modes s n
  pub request08 : (pointer modes : ℕ) (s : List ℕ) (n : ℕ) → Request08 on_session pointer modes s n
  pub request08_c : (pointer modes : ℕ) (s : List ℕ) (n : ℕ) → Request08 for_c pointer modes s n
  pub request09 : Request09
  pub request10 : Request10
  pub request11 : Request11
  pub request12 : (pointer modes : ℕ) (s : List ℕ) (n : ℕ) → Request12 on_session session_lending pointer modes s n
  pub request13 : Request13
  pub request14 : Request14 on_session session_cutting
  pub request14_c : Request14 for_c cutting_for_c
  pub program : Program
