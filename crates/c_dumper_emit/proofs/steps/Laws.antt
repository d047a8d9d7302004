-- What the ends of a typedef and of a composite come to, and a composite that is mentioned. Assumes nothing.
use Prim.Native.Nat.{ℕ}
use mathlib.Core.Path.{◌≡◌, ap, ◌∙◌, sym}
use mathlib.Core.List.{List}
use mathlib.Core.Bool.{Bool, true}
use lib.Dec.{eqb}
use borrow.Author.Tests.{eq-eqb, ne_eqb}
use Rattle.std.specs.Prelude.{Ok}
use Rattle.spec_c_dumper.specs.rules.Machine.{Out, wrote, obind}
use Rattle.spec_c_dumper.specs.rules.Types.{BtfType, Btf as Rules}
use Rattle.spec_c_dumper.specs.alignment_once.Writers.{definition_once}
use Rattle.btf_layout.specs.asked.Asked.{work_asks}
use Rattle.spec_type_table.specs.declared.types.TypeTable.{TypeTable}
use Rattle.spec_type_table.specs.Cells.{put_field}
use Rattle.spec_type_table.specs.Table.{btf_of, work_naming}
use Rattle.spec_session.specs.emission.Slices.{Slices}
use Rattle.spec_session.proofs.emission.Frame.{table_emark}
use Rattle.spec_c_dumper.specs.origins.Causes.{Entry, Traced}
use Rattle.c_dumper_emit.specs.declared.entries.Pen.{Pen}
use Rattle.c_dumper_emit.specs.entries.Traced.{Lent, traced_out, line_n, has_n, once_n, mention_n, state_n, typedef_n, mentioned_n, ended_n}
use Rattle.c_dumper_emit.proofs.entries.Laws.{then, work_slices, work_last}

module _ (b : TypeTable) (B : Rules) (lent : Lent) (ty : BtfType) (n : ℕ) (p : Pen) (tx w li : List ℕ) (id : ℕ) where
  pub typedef_ends : (e f : Entry) → f ≡ e → (y : Out (Traced Slices) (Unit {0})) → y ≡ obind (traced_out n (Ok p) tx w li) (λ m. once_n b B lent ty f (has_n b B lent m id) m id)
      → (x : Out (Traced Slices) (Unit {0})) → x ≡ obind y (λ m. wrote (state_n id 2 m)) → x ≡ obind (traced_out n (Ok p) tx w li) (λ m. typedef_n b B lent ty e m id)
  unfolding typedef_n
  typedef_ends e f ef y ey x ex =
      then (traced_out n (Ok p) tx w li) (λ m. once_n b B lent ty f (has_n b B lent m id) m id) (λ m. wrote (state_n id 2 m)) y x ey ex
      ∙ ap (λ (g : Entry). obind (traced_out n (Ok p) tx w li) (λ m. typedef_n b B lent ty g m id)) ef

  module _ (cont : ℕ) (e : Entry) where
    abbrev Ends : Out (Traced Slices) (Unit {0}) → Type 0
    Ends x = x ≡ obind (traced_out n (Ok p) tx w li) (λ m. ended_n b B lent (eqb cont 0) ty e m id)

    pub ends_within : (cont ≡ 0 → ⊥) → (w₁ : List ℕ) → w₁ ≡ put_field w id 13 0 → Ends (traced_out n (Ok p) tx w₁ li)
    unfolding ended_n
    ends_within z w₁ e₁ = work_last n (Ok p) tx w li (λ u. put_field u id 13 0) w₁ e₁
        ∙ ap (λ (f : Bool). obind (traced_out n (Ok p) tx w li) (λ m. ended_n b B lent f ty e m id)) (sym (ne_eqb cont 0 z))

    pub ends_top : cont ≡ 0 → (f : Entry) → f ≡ e → (y : Out (Traced Slices) (Unit {0})) → y ≡ obind (traced_out n (Ok p) tx w li) (λ m. line_n lent true f (definition_once (work_asks b.types B) (work_naming b) B id ty) m)
        → (x : Out (Traced Slices) (Unit {0})) → x ≡ obind y (λ m. wrote (state_n id 2 m)) → Ends x
    unfolding ended_n
    ends_top z f ef y ey x ex =
        then (traced_out n (Ok p) tx w li) (λ m. line_n lent true f (definition_once (work_asks b.types B) (work_naming b) B id ty) m) (λ m. wrote (state_n id 2 m)) y x ey ex
        ∙ ap (λ (g : Entry). obind (traced_out n (Ok p) tx w li) (λ m. ended_n b B lent true ty g m id)) ef
        ∙ ap (λ (f : Bool). obind (traced_out n (Ok p) tx w li) (λ m. ended_n b B lent f ty e m id)) (sym (eq-eqb cont 0 z))

module _ (b : TypeTable) (s : List ℕ) (lent : Lent) (ty : BtfType) (n : ℕ) (p : Pen) (tx w li : List ℕ) (id cont : ℕ) where
  pub mentioned : (w₁ : List ℕ) → w₁ ≡ put_field w id 13 1 → (y : Out (Traced Slices) (Unit {0})) → y ≡ obind (traced_out n (Ok p) tx w₁ li) (λ m. mention_n b (btf_of b s w₁) lent ty cont m id)
      → (x : Out (Traced Slices) (Unit {0})) → x ≡ obind y (λ m. wrote (state_n id 0 m)) → x ≡ obind (traced_out n (Ok p) tx w li) (λ m. mentioned_n b (btf_of b s w) lent ty cont m id)
  unfolding mentioned_n
  mentioned w₁ e₁ y ey x ex =
      then (traced_out n (Ok p) tx w li) (λ m. mention_n b (btf_of b s w) lent ty cont (state_n id 1 m) id) (λ m. wrote (state_n id 0 m)) y x
      (ey ∙ ap (λ (Q : Rules). obind (traced_out n (Ok p) tx w₁ li) (λ m. mention_n b Q lent ty cont m id)) (ap (btf_of b s) e₁ ∙ table_emark b s w id 1)
      ∙ work_slices n (Ok p) tx w li (λ u. put_field u id 13 1) w₁ (λ m. mention_n b (btf_of b s w) lent ty cont m id) e₁)
      ex
