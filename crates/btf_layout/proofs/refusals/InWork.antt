-- Lines by the remembering way over the work: what reads neither words 15 and word 2 of void nor the names stays, and what refuses a line is 12, 15, 16 or 18.
-- Assumes nothing.
use Prim.Native.Nat.{ℕ}
use mathlib.Core.Path.{◌≡◌, refl, sym, ◌∙◌}
use mathlib.Core.Bool.{Bool, true, false, true≢false}
use mathlib.Core.List.{List}
use lib.Dec.{leb, eqb}
use Rattle.spec_c_dumper.specs.rules.Types.{Name, Member, BtfType, Btf as Rules}
use Rattle.spec_c_dumper.specs.rules.Names.{Space}
use Rattle.spec_c_dumper.proofs.rules.Closed.{Code}
use Rattle.spec_c_dumper.proofs.rules.Keeps.{Keeps}
use Rattle.spec_c_dumper.proofs.rules.Refusals.{Passing, type_passing, value_passing, Tells}
use Rattle.spec_type_table.specs.declared.types.TypeTable.{TypeTable}
use Rattle.spec_type_table.specs.Cells.{get_field, put_field}
use Rattle.spec_type_table.specs.Table.{enumerator_of, work_naming}
use Rattle.spec_type_table.proofs.Frame.{type_within, value_within}
use Rattle.spec_c_dumper.specs.alignment_once.Once.{Remembered, Once, found, refused, memory_after, member_count}
use Rattle.spec_c_dumper.specs.alignment_once.Writers.{definition_once, forward_once}
use Rattle.spec_c_dumper.proofs.alignment_once.Keeps.{keeps_definition, keeps_forward}
use Rattle.btf_layout.specs.remembered.Words.{coded, with_visits, remembered, work_keep}
use Rattle.btf_layout.specs.asked.Asked.{work_asks}
use Rattle.btf_layout.proofs.asked.Stays.{Stays, stays_padding, stays_body}
use Rattle.btf_layout.proofs.refusals.Questions.{coded_padding, coded_body}
use Rattle.btf_layout.proofs.refusals.Emitters.{tells_definition, tells_forward}

module _ {Z : Type 0} (P : List ℕ → Z) (count : (w : List ℕ) (v : ℕ) → P (put_field w 0 2 v) ≡ P w) (aligns : (w : List ℕ) (x v : ℕ) → P (put_field w x 15 v) ≡ P w) (b : TypeTable) (B : Rules) where
  pub remember_keeps : (id : ℕ) (s : Remembered) (w : List ℕ) → P ((work_keep b.types B).remember id s w) ≡ P w
  unfolding work_keep remembered with_visits
  remember_keeps id s w = go (eqb (coded s) 0) (leb b.types id)
    where
      u : List ℕ
      u = with_visits (member_count (B.type_by_id id)) w

      go : (p q : Bool) → P (elim p as (λ (z : Bool). List ℕ) [ true ↦ w | false ↦ elim q as (λ (z : Bool). List ℕ) [ true ↦ w | false ↦ put_field u id 15 (coded s) ] ]) ≡ P w
      go true q = refl
      go false true = refl
      go false false = aligns u id (coded s) ∙ count w _

  memory_stays : {A : Type 0} (w : List ℕ) (r : Once (List ℕ) A) → Stays P w r → P (memory_after r) ≡ P w
  unfolding memory_after
  memory_stays w (found a m k) h = h
  memory_stays w (refused c m k) h = h

  pub padding_keeps : (offset : ℕ) (x : Member) (packed : Bool) (w : List ℕ) → P (memory_after ((work_asks b.types B).padding offset x packed w)) ≡ P w
  padding_keeps offset x packed w = memory_stays w _ (stays_padding P (work_keep b.types B) B remember_keeps offset x packed w (get_field w 0 2))

  pub body_keeps : (is_struct : Bool) (id sz : ℕ) (ms : List Member) (w : List ℕ) → P (memory_after ((work_asks b.types B).body is_struct id sz ms w)) ≡ P w
  body_keeps is_struct id sz ms w = memory_stays w _ (stays_body P (work_keep b.types B) B remember_keeps is_struct id sz ms w (get_field w 0 2))

  module _ (types : (space : Space) (id : ℕ) (name : Name) (w : List ℕ) → P ((work_naming b).type_version space id name w).names ≡ P w)
      (values : (id i : ℕ) (name : Name) (w : List ℕ) → P ((work_naming b).value_version id i name w).names ≡ P w) (id : ℕ) (t : BtfType) where
    pub definition_keeps : Keeps P (definition_once (work_asks b.types B) (work_naming b) B id t)
    definition_keeps = keeps_definition (work_asks b.types B) (work_naming b) P types values padding_keeps body_keeps B id t

    pub forward_keeps : Keeps P (forward_once (work_asks b.types B) (work_naming b) B id t)
    forward_keeps = keeps_forward (work_asks b.types B) (work_naming b) P types values padding_keeps body_keeps B id t

never_passes : (b : TypeTable) → Passing (work_naming b) → ⊥
unfolding work_naming
never_passes b (type_passing space x name w e) = true≢false (sym e ∙ type_within b.types x w)
never_passes b (value_passing x i name w e) = true≢false (sym e ∙ value_within b.types (enumerator_of w x i) w)

module _ (b : TypeTable) (B : Rules) (id : ℕ) (t : BtfType) where
  pub definition_tells : Tells Code (definition_once (work_asks b.types B) (work_naming b) B id t)
  definition_tells =
      tells_definition (work_asks b.types B) (work_naming b) (never_passes b) (λ offset x packed w. coded_padding (work_keep b.types B) B offset x packed w (get_field w 0 2)) (λ is_struct x sz ms w. coded_body (work_keep b.types B) B is_struct x sz ms w (get_field w 0 2)) B id t

  pub forward_tells : Tells Code (forward_once (work_asks b.types B) (work_naming b) B id t)
  forward_tells =
      tells_forward (work_asks b.types B) (work_naming b) (never_passes b) (λ offset x packed w. coded_padding (work_keep b.types B) B offset x packed w (get_field w 0 2)) (λ is_struct x sz ms w. coded_body (work_keep b.types B) B is_struct x sz ms w (get_field w 0 2)) B id t
