-- Opening leaves a memory of alignments that is right: nothing is remembered, and no visit is counted. Assumes nothing.
use Prim.Native.Nat.{ℕ, ◌+◌, ◌*◌, ◌/◌, ◌<◌, ◌≤◌}
use native.Mathlib.Omega.{arith}
use native.Mathlib.Decide.{ℕ_discrete}
use mathlib.Core.Path.{◌≡◌, refl, ap, ◌∙◌, sym, subst}
use mathlib.Core.Bool.{Bool, true, false}
use mathlib.Core.List.{List}
use mathlib.Core.Logic.{◌≢◌}
use lib.ListN.{length}
use lib.Dec.{ltb, eqb}
use borrow.Author.Tests.{ltb-true}
use Rattle.spec_bytes.specs.words.Words.{pick}
use Rattle.spec_c_dumper.specs.rules.Types.{Void, Btf as Rules}
use Rattle.spec_type_table.specs.declared.types.TypeTable.{TypeTable}
use Rattle.spec_type_table.specs.Cells.{get_field}
use Rattle.spec_type_table.specs.Records.{void_record, record_by_id}
use Rattle.spec_type_table.specs.Table.{btf_of, type_of}
use Rattle.spec_type_table.proofs.Laws.{place_type, void_past, void_zero}
use Rattle.btf_open_causes.specs.header.Header.{btf_of as header_in}
use Rattle.btf_open_names.proofs.name_classes.Keys.{place_apart}
use Rattle.btf_open_names.proofs.filled_work.Zeros.{other_field}
use Rattle.spec_opening.specs.Opened.{work_of}
use Rattle.spec_opening.specs.Causes.{opening_number}
use Rattle.spec_opening.proofs.ReadBack.{else_back, work_length, work_long}
use Rattle.spec_opening.proofs.Index.{some_type}
use Rattle.spec_c_dumper.specs.alignment_once.Once.{unknown}
use Rattle.spec_c_dumper.proofs.alignment_once.Right.{known_unknown}
use Rattle.spec_c_dumper.proofs.alignment_once.Counted.{paid_none}
use Rattle.btf_layout.specs.remembered.Words.{seen_word, decoded, work_keep}
use Rattle.proof_demands.specs.alignment_memory.Work.{SoundMemory, Sane}
use Rattle.proof_demands.specs.demands.Table.{header_of, opened_table}
use Rattle.proof_demands.proofs.demands.Described.{count_is, void_type}
use Rattle.proof_demands.proofs.demands.Sound.{opened_wf}
use Rattle.proof_demands.proofs.demands.Counts.{few, types_are}

pub ends : (b : TypeTable) (s w : List ℕ) (id : ℕ) → (btf_of b s w).type_cnt ≤ id → (btf_of b s w).type_by_id id ≡ Void
unfolding btf_of
ends b s w id l = ap (type_of b s) (sym (past (ℕ_discrete id 0))) ∙ void_type b s
  where
    past : Dec (id ≡ 0) → void_record ≡ record_by_id b s w id
    past (yes e) = void_zero b s w id void_record e refl
    past (no n) = void_past b s w id void_record n l refl

module _ (p modes : ℕ) (s : List ℕ) (n : ℕ) (ok : opening_number p s n ≡ 0) where
  abbrev b : TypeTable
  b = header_of p modes s

  abbrev B : Rules
  B = opened_table p modes s n

  abbrev w : List ℕ
  w = work_of p modes s n

  -- opening leaves 0 in a word that it does not use
  zero_word : (x f : ℕ) → x < b.types → f < 16 → f ≢ 0 → f ≢ 9 → f ≢ 10 → f ≢ 12 → f ≢ 5 → f ≢ 7 → f ≢ 8 → f ≢ 14 → get_field w x f ≡ 0
  zero_word x f l m a c d g f5 f7 f8 f14 =
      else_back p modes s n ok (x * 16 + f) (other_field b.types x f l m a c d g) (λ h k. (
        λ q. place_apart b.types f 7 5 1 (m, omega arith, omega arith, omega arith, f5, λ z. omega arith) x h (sym (place_type b.types f 7 x l) ∙ q),
        λ q. place_apart b.types f 7 7 3 (m, omega arith, omega arith, omega arith, f7, λ z. omega arith) x h (sym (place_type b.types f 7 x l) ∙ q),
        λ q. place_apart b.types f 7 8 4 (m, omega arith, omega arith, omega arith, f8, λ z. omega arith) x h (sym (place_type b.types f 7 x l) ∙ q),
      ))
      (λ h k q. place_apart b.types f 7 14 6 (m, omega arith, omega arith, omega arith, f14, λ z. omega arith) x h (sym (place_type b.types f 7 x l) ∙ q))

  pub no_alignment : (x : ℕ) → x < b.types → get_field w x 15 ≡ 0
  no_alignment x l = zero_word x 15 l (omega arith) (λ q. omega arith) (λ q. omega arith) (λ q. omega arith) (λ q. omega arith) (λ q. omega arith) (λ q. omega arith) (λ q. omega arith) (λ q. omega arith)

  pub no_visits : 0 < b.types → get_field w 0 2 ≡ 0
  no_visits l = zero_word 0 2 l (omega arith) (λ q. omega arith) (λ q. omega arith) (λ q. omega arith) (λ q. omega arith) (λ q. omega arith) (λ q. omega arith) (λ q. omega arith) (λ q. omega arith)

  pub none : (id : ℕ) → (work_keep B.type_cnt B).recall w id ≡ unknown
  unfolding work_keep seen_word decoded
  none id = by (ltb id B.type_cnt) refl
    where
      by : (t : Bool) → ltb id B.type_cnt ≡ t → decoded (elim t as (λ (x : Bool). ℕ) [ true ↦ get_field w id 15 | false ↦ 0 ]) ≡ unknown
      by true q = ap decoded (no_alignment id (subst (λ (k : ℕ). id < k) (types_are p modes s n ok) (ltb-true id B.type_cnt q)))
      by false q = refl

  pointers : B.ptr_sz ≤ 15
  unfolding btf_of header_in
  pointers = by (eqb p 4)
    where
      by : (t : Bool) → pick t 4 8 ≤ 15
      by true = omega arith
      by false = omega arith

  roomy : B.type_cnt * 16 ≤ length w / 4
  roomy = omega (arith, count_is p modes s n ok, work_length p modes s n ok, work_long p modes s n ok)

  some : 1 ≤ b.types
  some = subst (λ (k : ℕ). 1 ≤ k) (types_are p modes s n ok) (omega (arith, count_is p modes s n ok, some_type s))

  -- what is asked of the table
  pub opened_sane : Sane b B
  opened_sane = record { some = some; small = pointers; wf = opened_wf p modes s n ok; ends = ends b s w; few = few p modes s n ok }

  pub opened_memory : SoundMemory B w
  opened_memory = record {
    right = λ id x e. absurd (known_unknown x (sym (none id) ∙ e));
    roomy = roomy;
    count = no_visits some ∙ sym (paid_none B ((work_keep B.type_cnt B).recall w) none B.type_cnt);
  }
