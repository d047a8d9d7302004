-- A request begins: whatever is put into the words of the order list, an empty list there is the empty list of the machine of lists. Assumes nothing.
use Prim.Native.Nat.{ℕ, ◌+◌, ◌-◌, ◌*◌, ◌<◌}
use mathlib.Core.Path.{◌≡◌, refl, ap, ◌∙◌}
use mathlib.Core.Bool.{not}
use mathlib.Core.List.{List}
use mathlib.Core.Logic.{◌≢◌, ⊎_elim}
use native.Mathlib.Omega.{arith}
use lib.ListN.{length}
use lib.Dec.{eqb}
use Rattle.std.proofs.lemmas.Bool.{cases_lt}
use Rattle.spec_bytes.specs.words.Words.{get_word}
use Rattle.spec_c_dumper.specs.rules.Names.{Names}
use Rattle.spec_c_dumper.specs.rules.Types.{Btf as Rules}
use Rattle.spec_type_table.specs.declared.types.TypeTable.{TypeTable}
use Rattle.spec_type_table.specs.Cells.{class_p, count_p, place_of}
use Rattle.spec_type_table.specs.Numbers.{head_p, next_p, taken_p}
use Rattle.spec_type_table.specs.Table.{from, btf_of}
use Rattle.spec_type_table.proofs.Laws.{place_type, place_enum}
use Rattle.btf_open_names.specs.name_classes.Classes.{record_p, key_in, class_of}
use Rattle.c_dumper_dependency_order.specs.order_state.Work.{mark_of}
use Rattle.spec_c_dumper.specs.needs.Lists.{Ls}
use Rattle.spec_c_dumper.specs.needs.Session.{Known, machine}
use Rattle.proof_demands.specs.name_counts.Alike.{Alike}
use Rattle.proof_demands.proofs.alignment_memory.Lines.{memory_kept}
use Rattle.proof_demands.specs.demands.Representation.{Bears}

-- no word of a holder that is no word 11 is word 11 of a type
no_list : (types f g h : ℕ) → f < 16 → f ≢ 11 → (j : ℕ) → j < types → place_of types f g h ≢ j * 16 + 11
no_list types f g h a n j m e = ⊎_elim
    (λ l. let q : h * 16 + f ≡ j * 16 + 11 = place_type types f g h l ∙ e in n (omega arith))
    (λ l. let q : types * 16 + (h - types) * 8 + g ≡ j * 16 + 11 = place_enum types f g h l ∙ e in omega arith)
    (cases_lt h types)

module _ (b : TypeTable) (e : ℕ) (s w v v' : List ℕ) (long : length v' ≡ length v) (tab : btf_of b s v' ≡ btf_of b s v)
    (k : (i : ℕ) → ((j : ℕ) → j < b.types → i ≢ j * 16 + 11) → get_word v' i ≡ get_word v i) where
  start_names : (u : Names) → Alike b e s w v u → Alike b e s w v' u
  start_names u a = record {
    kept = record {
      long = long ∙ a.kept.long;
      class = λ h m. k (class_p b.types h) (no_list b.types 5 1 h (omega arith) (λ q. omega arith)) ∙ a.kept.class h m;
      place = λ h m. k (record_p b.types h) (no_list b.types 0 0 h (omega arith) (λ q. omega arith)) ∙ a.kept.place h m;
      first = λ id m. k (id * 16 + 12) (λ j l q. omega arith) ∙ a.kept.first id m;
      heads = λ h. k (head_p b.types h) (no_list b.types 7 3 h (omega arith) (λ q. omega arith)) ∙ a.kept.heads h;
      nexts = λ h. k (next_p b.types h) (no_list b.types 8 4 h (omega arith) (λ q. omega arith)) ∙ a.kept.nexts h;
      takens = λ h. k (taken_p b.types h) (no_list b.types 14 6 h (omega arith) (λ q. omega arith)) ∙ a.kept.takens h;
    };
    sized = a.sized;
    its_version = λ id m. k (id * 16 + 4) (λ j l q. omega arith) ∙ a.its_version id m;
    its_count = λ h space name q. k (count_p b.types (class_of (key_in b s w) h)) (no_list b.types 6 2 (class_of (key_in b s w) h) (omega arith) (λ z. omega arith)) ∙ a.its_count h space name q;
  }

  pub start_step : (B : Rules) (room len : ℕ) (t : Ls (Known Names)) → Bears b e s w v len t → Bears b e s w v' 0 ((machine B).start room t)
  unfolding from
  start_step B room len t h = record {
    table = tab ∙ h.table;
    names = start_names t.known.names h.names;
    marks = λ x l. ap mark_of (k (x * 16 + 1) (λ j m q. omega arith)) ∙ h.marks x l;
    list = refl;
    emits = λ x l. ap mark_of (k (x * 16 + 13) (λ j m q. omega arith)) ∙ h.emits x l;
    fwds = λ x l. ap (λ (z : ℕ). not (eqb z 0)) (k (x * 16 + 3) (λ j m q. omega arith)) ∙ h.fwds x l;
    marks_n = h.marks_n;
    emits_n = h.emits_n;
    fwds_n = h.fwds_n;
    memory = memory_kept (btf_of b s w) v v' (record { long = long; aligned = λ j. k (j * 16 + 15) (λ i m q. omega arith); count = k (0 * 16 + 2) (λ i m q. omega arith) }) h.memory;
  }
