-- The table does not read words 2 and 15. Assumes nothing.
use Prim.Native.Nat.{ℕ}
use native.Mathlib.Omega.{arith}
use mathlib.Core.Path.{◌≡◌, refl, ◌∙◌}
use mathlib.Core.Bool.{Bool, true, false}
use mathlib.Core.List.{List}
use lib.Dec.{leb, eqb}
use Rattle.spec_c_dumper.specs.rules.Types.{Btf as Rules}
use Rattle.spec_type_table.specs.declared.types.TypeTable.{TypeTable}
use Rattle.spec_type_table.specs.Cells.{put_field}
use Rattle.spec_type_table.specs.Table.{btf_of}
use Rattle.spec_type_table.proofs.Frame.{table_field}
use Rattle.spec_c_dumper.specs.alignment_once.Once.{Remembered, member_count}
use Rattle.btf_layout.specs.remembered.Words.{coded, with_visits, remembered, work_keep}

module _ (b : TypeTable) (s : List ℕ) where
  table_counted : (n : ℕ) (w : List ℕ) → btf_of b s (with_visits n w) ≡ btf_of b s w
  unfolding with_visits
  table_counted n w = table_field w 0 2 _ (omega arith) b s (λ e. omega arith) (λ e. omega arith) (λ e. omega arith)

  table_remembered : (types id v n : ℕ) (w : List ℕ) → btf_of b s (remembered types id v n w) ≡ btf_of b s w
  unfolding remembered
  table_remembered types id v n w = by (eqb v 0) (leb types id)
    where
      by : (p q : Bool) → btf_of b s (elim p as (λ (x : Bool). List ℕ) [ true ↦ w | false ↦ elim q as (λ (x : Bool). List ℕ) [ true ↦ w | false ↦ put_field (with_visits n w) id 15 v ] ]) ≡ btf_of b s w
      by true q = refl
      by false true = refl
      by false false = table_field (with_visits n w) id 15 v (omega arith) b s (λ e. omega arith) (λ e. omega arith) (λ e. omega arith) ∙ table_counted n w

  pub table_keeps : (types : ℕ) (B : Rules) (id : ℕ) (x : Remembered) (w : List ℕ) → btf_of b s ((work_keep types B).remember id x w) ≡ btf_of b s w
  unfolding work_keep
  table_keeps types B id x w = table_remembered types id (coded x) (member_count (B.type_by_id id)) w
