-- The work that a successful opening leaves says what the machine of lists says when it is opened: nothing marked, no name held. Assumes nothing.
use Prim.Native.Nat.{ℕ, ◌+◌, ◌*◌, ◌<◌, ◌≤◌}
use mathlib.Core.Path.{◌≡◌, refl, ap, ◌∙◌, sym}
use mathlib.Core.Bool.{false, not}
use mathlib.Core.List.{List}
use mathlib.Core.Logic.{◌≢◌}
use native.Mathlib.Omega.{arith}
use lib.ListN.{length-replicate, get_or-replicate}
use lib.Dec.{eqb}
use Rattle.spec_c_dumper.specs.rules.Order.{new}
use Rattle.spec_type_table.specs.declared.types.TypeTable.{TypeTable}
use Rattle.spec_type_table.specs.Cells.{get_field}
use Rattle.spec_type_table.specs.Table.{from, btf_of}
use Rattle.spec_type_table.proofs.Laws.{place_type}
use Rattle.btf_open_names.proofs.name_classes.Keys.{place_apart}
use Rattle.spec_opening.specs.Table.{enumerators_of}
use Rattle.spec_opening.specs.Opened.{work_of}
use Rattle.spec_opening.specs.Causes.{opening_number}
use Rattle.btf_open_names.proofs.filled_work.Zeros.{other_field}
use Rattle.spec_opening.proofs.ReadBack.{else_back}
use Rattle.c_dumper_dependency_order.specs.order_state.Work.{mark_of}
use Rattle.spec_c_dumper.specs.needs.Lists.{afresh}
use Rattle.spec_c_dumper.specs.needs.Session.{opened}
use Rattle.proof_demands.proofs.name_counts.Related.{alike_first}
use Rattle.proof_demands.specs.demands.Table.{header_of, opened_table}
use Rattle.proof_demands.specs.demands.Representation.{Bears}
use Rattle.proof_demands.proofs.demands.Named.{opened_indexed, opened_fresh}
use Rattle.proof_demands.proofs.demands.OpenedMemory.{opened_memory}

zero_new : mark_of 0 ≡ new
unfolding mark_of
zero_new = refl

module _ (p modes : ℕ) (s : List ℕ) (n : ℕ) (ok : opening_number p s n ≡ 0) where
  abbrev b : TypeTable
  b = header_of p modes s

  zero_word : (x f : ℕ) → x < b.types → f < 16 → f ≢ 0 → f ≢ 9 → f ≢ 10 → f ≢ 12 → f ≢ 5 → f ≢ 7 → f ≢ 8 → f ≢ 14 → get_field (work_of p modes s n) x f ≡ 0
  zero_word x f l m a c d g f5 f7 f8 f14 =
      else_back p modes s n ok (x * 16 + f) (other_field b.types x f l m a c d g) (λ h k. (
        λ q. place_apart b.types f 7 5 1 (m, omega arith, omega arith, omega arith, f5, λ z. omega arith) x h (sym (place_type b.types f 7 x l) ∙ q),
        λ q. place_apart b.types f 7 7 3 (m, omega arith, omega arith, omega arith, f7, λ z. omega arith) x h (sym (place_type b.types f 7 x l) ∙ q),
        λ q. place_apart b.types f 7 8 4 (m, omega arith, omega arith, omega arith, f8, λ z. omega arith) x h (sym (place_type b.types f 7 x l) ∙ q),
      ))
      (λ h k q. place_apart b.types f 7 14 6 (m, omega arith, omega arith, omega arith, f14, λ z. omega arith) x h (sym (place_type b.types f 7 x l) ∙ q))

  small : (x f : ℕ) → x < b.types → 1 ≤ f → f < 4 → get_field (work_of p modes s n) x f ≡ 0
  small x f l m k =
      zero_word x f l (omega arith) (λ q. absurd (omega arith)) (λ q. absurd (omega arith)) (λ q. absurd (omega arith)) (λ q. absurd (omega arith)) (λ q. absurd (omega arith)) (λ q. absurd (omega arith)) (λ q. absurd (omega arith)) (λ q. absurd (omega arith))

  thirteen : (x : ℕ) → x < b.types → get_field (work_of p modes s n) x 13 ≡ 0
  thirteen x l = zero_word x 13 l (omega arith) (λ q. omega arith) (λ q. omega arith) (λ q. omega arith) (λ q. omega arith) (λ q. omega arith) (λ q. omega arith) (λ q. omega arith) (λ q. omega arith)

  pub opened_bears : Bears b (enumerators_of s) s (work_of p modes s n) (work_of p modes s n) 0 (opened (opened_table p modes s n)).mach
  unfolding btf_of afresh from
  opened_bears = record {
    table = refl;
    names = alike_first b (enumerators_of s) s (work_of p modes s n) (opened_indexed p modes s n ok) (opened_fresh p modes s n ok);
    marks = λ x l. ap mark_of (small x 1 l (omega arith) (omega arith)) ∙ zero_new ∙ sym (get_or-replicate b.types x new new l);
    list = refl;
    emits = λ x l. ap mark_of (thirteen x l) ∙ zero_new ∙ sym (get_or-replicate b.types x new new l);
    fwds = λ x l. ap (λ (z : ℕ). not (eqb z 0)) (small x 3 l (omega arith) (omega arith)) ∙ sym (get_or-replicate b.types x false false l);
    marks_n = length-replicate b.types new;
    emits_n = length-replicate b.types new;
    fwds_n = length-replicate b.types false;
    memory = opened_memory p modes s n ok;
  }
