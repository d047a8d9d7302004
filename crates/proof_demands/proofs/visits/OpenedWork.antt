-- A session by the remembering way in the work that opening leaves, of every section that it accepts. Assumes nothing.
use Prim.Native.Nat.{ℕ, ◌+◌, ◌/◌, ◌%◌, ◌≤◌}
use mathlib.Core.Path.{◌≡◌, refl, ap, ◌∙◌}
use mathlib.Core.Bool.{Bool, true, false}
use mathlib.Core.List.{List, []}
use lib.Dec.{eqb}
use Rattle.spec_c_dumper.specs.rules.Types.{Btf as Rules}
use Rattle.spec_c_dumper.specs.rules.Machine.{Req}
use Rattle.spec_c_dumper.specs.rules.Names.{Naming, Names, naming}
use Rattle.spec_type_table.specs.declared.types.TypeTable.{TypeTable}
use Rattle.spec_type_table.specs.Cells.{get_field}
use Rattle.spec_type_table.specs.Table.{work_naming}
use Rattle.spec_opening.specs.Opened.{work_of}
use Rattle.spec_opening.specs.Causes.{opening_number}
use Rattle.spec_opening.specs.Table.{enumerators_of}
use Rattle.spec_c_dumper.specs.needs.Session.{Dump, no_names, opened_by, dumped, dump_types}
use Rattle.proof_demands.specs.name_counts.Passed.{passed}
use Rattle.proof_demands.specs.name_counts.Indexed.{lists_in}
use Rattle.proof_demands.specs.demands.Table.{header_of, opened_table, names_in, opened_in}
use Rattle.proof_demands.proofs.demands.Claims.{opening_gives}
use Rattle.proof_demands.proofs.demands.OpenedMemory.{opened_sane, opened_memory}
use Rattle.spec_c_dumper.specs.alignment_once.Once.{members_to}
use Rattle.spec_c_dumper.specs.alignment_once.Writers.{dumped_once, after_once}
use Rattle.btf_layout.specs.asked.Asked.{work_asks}
use Rattle.proof_demands.specs.alignment_memory.Work.{Sane}
use Rattle.proof_demands.proofs.alignment_memory.Work.{InWork, work_session, work_visits}

module _ (p modes : ℕ) (s : List ℕ) (n : ℕ) (ok : opening_number p s n ≡ 0) where
  abbrev b : TypeTable
  b = header_of p modes s

  abbrev B : Rules
  B = opened_table p modes s n

  abbrev w : List ℕ
  w = work_of p modes s n

  abbrev Z : Sane b B
  Z = opened_sane p modes s n ok

  -- nothing is remembered yet
  begins : InWork b Z.some B Z.small Z.wf Z.ends Z.few w w
  begins = let m = opened_memory p modes s n ok in (record { long = refl; words = λ i n m. refl }, m.right, (m.roomy, m.count))

  -- the same numbers, lengths and text as the rules have with the names of the session, for every list of requests
  pub opened_work_session : (rs : List Req) → dumped_once (work_asks B.type_cnt B) (work_naming b) B [] rs (opened_by (work_naming b) B w) ≡ dumped (names_in p modes s n) B [] rs (opened_in p modes s n)
  opened_work_session rs = work_session b Z.some B Z.small Z.wf Z.ends Z.few w begins rs ∙ (opening_gives p modes s n ok).same_text rs

  -- without bit 3 of the modes these are the names of the Rust
  pub opened_work_rust : eqb (modes / 8 % 2) 1 ≡ false → (rs : List Req) → dumped_once (work_asks B.type_cnt B) (work_naming b) B [] rs (opened_by (work_naming b) B w) ≡ dump_types B rs
  unfolding names_in
  opened_work_rust off rs =
      opened_work_session rs ∙ ap (λ (t : Bool). by_names (elim t as (λ z. Naming Names) [ true ↦ passed (lists_in b (enumerators_of s) s w) | false ↦ naming ])) off
    where
      by_names : Naming Names → Dump
      by_names N = dumped N B [] rs (opened_by N B (no_names B))

  -- "at most types plus members", in word 2 of void
  pub opened_work_visits : (rs : List Req) → get_field (after_once (work_asks B.type_cnt B) (work_naming b) B rs (opened_by (work_naming b) B w)).mach.known.names 0 2 ≤ B.type_cnt + members_to B B.type_cnt
  opened_work_visits rs = work_visits b Z.some B Z.small Z.wf Z.ends Z.few w begins rs
