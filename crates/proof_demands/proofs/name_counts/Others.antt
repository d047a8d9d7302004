-- Stores to words that hold no names: the names are as they were. Ordering and emission mark types in such words, and list them past the
-- words of the holders. Assumes nothing.
use Prim.Native.Nat.{ℕ, ◌+◌, ◌*◌, ◌<◌}
use mathlib.Core.Path.{◌≡◌, ◌∙◌, sym}
use mathlib.Core.List.{List}
use mathlib.Core.Logic.{◌≢◌}
use native.Mathlib.Omega.{arith}
use Rattle.spec_bytes.specs.words.Words.{get_word}
use Rattle.spec_bytes.proofs.words.Laws.{put_length, get_put_other}
use Rattle.spec_c_dumper.specs.rules.Names.{Names}
use Rattle.spec_type_table.specs.declared.types.TypeTable.{TypeTable}
use Rattle.spec_type_table.specs.Cells.{put_field, place_of, class_p, count_p}
use Rattle.spec_type_table.proofs.Laws.{place_type}
use Rattle.spec_type_table.proofs.Frame.{field_other}
use Rattle.spec_type_table.specs.Numbers.{head_p, next_p, taken_p}
use Rattle.btf_open_names.specs.name_classes.Classes.{record_p}
use Rattle.btf_open_names.proofs.name_classes.Keys.{place_apart}
use Rattle.proof_demands.specs.name_counts.Indexed.{Indexed}
use Rattle.proof_demands.specs.name_counts.Alike.{Alike}
use Rattle.proof_demands.proofs.name_counts.Related.{alike_kept}

module _ (b : TypeTable) (e : ℕ) (s w : List ℕ) (I : Indexed b e s w) (v : List ℕ) (u : Names) (a : Alike b e s w v u) where
  -- word f of a type: not its place, its version, its class, its count, its first enumerator, none of a list
  module _ (id f x : ℕ) (l : id < b.types) (m : f < 16) (n0 : f ≢ 0) (n4 : f ≢ 4) (n5 : f ≢ 5) (n6 : f ≢ 6) (n7 : f ≢ 7) (n8 : f ≢ 8) (n12 : f ≢ 12) (n14 : f ≢ 14) where
    field_else : (i : ℕ) → i ≢ place_of b.types f 7 id → get_word (put_field v id f x) i ≡ get_word v i
    field_else i n = get_put_other v (id * 16 + f) i x (λ q. n (q ∙ place_type b.types f 7 id l))

    pub alike_field : Alike b e s w (put_field v id f x) u
    alike_field =
        alike_kept b e s w I v u a (put_field v id f x)
        (record {
          long = put_length v (id * 16 + f) x ∙ a.kept.long;
          class = λ h q. field_else (class_p b.types h) (place_apart b.types 5 1 f 7 (omega arith, m, omega arith, omega arith, λ z. n5 (sym z), λ z. omega arith) h id) ∙ a.kept.class h q;
          place = λ h q. field_else (record_p b.types h) (place_apart b.types 0 0 f 7 (omega arith, m, omega arith, omega arith, λ z. n0 (sym z), λ z. omega arith) h id) ∙ a.kept.place h q;
          first = λ j q. field_other v id f x j 12 m (omega arith) n12 ∙ a.kept.first j q;
          heads = λ h. field_else (head_p b.types h) (place_apart b.types 7 3 f 7 (omega arith, m, omega arith, omega arith, λ z. n7 (sym z), λ z. omega arith) h id) ∙ a.kept.heads h;
          nexts = λ h. field_else (next_p b.types h) (place_apart b.types 8 4 f 7 (omega arith, m, omega arith, omega arith, λ z. n8 (sym z), λ z. omega arith) h id) ∙ a.kept.nexts h;
          takens = λ h. field_else (taken_p b.types h) (place_apart b.types 14 6 f 7 (omega arith, m, omega arith, omega arith, λ z. n14 (sym z), λ z. omega arith) h id) ∙ a.kept.takens h;
        })
        (λ j q. field_other v id f x j 4 m (omega arith) n4)
        (λ h q. field_else (count_p b.types h) (place_apart b.types 6 2 f 7 (omega arith, m, omega arith, omega arith, λ z. n6 (sym z), λ z. omega arith) h id))
