-- The work that a successful opening leaves is indexed and fresh: the names in it are those of the Rust. Assumes nothing.
use Prim.Native.Nat.{ℕ, suc, ◌+◌, ◌-◌, ◌*◌, ◌/◌, ◌%◌, ◌<◌, ◌≤◌}
use mathlib.Core.Path.{◌≡◌, refl, ap, ◌∙◌, sym, subst, fun_ext}
use mathlib.Core.Bool.{Bool, true, false}
use mathlib.Core.List.{List}
use mathlib.Core.Logic.{inl, inr, ◌≢◌}
use native.Mathlib.Omega.{arith}
use native.Mathlib.Decide.{ℕ_discrete}
use lib.ListN.{get_or, replicate}
use lib.Dec.{eqb}
use borrow.Author.Tests.{eqb-false}
use Rattle.spec_bytes.specs.words.Words.{get_word}
use Rattle.spec_type_table.specs.declared.types.TypeTable.{TypeTable}
use Rattle.spec_type_table.specs.declared.types.BtfType.{BtfType as Record}
use Rattle.spec_type_table.specs.Cells.{get_field, place_of}
use Rattle.spec_type_table.specs.Records.{section_word, kind_of, vlen_of, record_at, record_by_id, void_record}
use Rattle.spec_type_table.specs.Table.{enumerator_of, work_naming}
use Rattle.spec_c_dumper.specs.rules.Names.{Naming, Names, naming}
use Rattle.spec_c_dumper.proofs.rules.Related.{RelNaming}
use Rattle.spec_type_table.proofs.Laws.{void_zero}
use Rattle.btf_open_names.specs.name_classes.Classes.{record_p, space_at, name_of, key_of, key_in, class_of}
use Rattle.btf_open_names.proofs.name_classes.Ledger.{the_words}
use Rattle.spec_opening.specs.Table.{types_of, enumerators_of, record_place, record_kind, index_of}
use Rattle.btf_open_names.specs.filled_work.Left as left
use Rattle.btf_open_names.specs.filled_work.Left.{enumerator_word, is_enum, values_at, enums_to}
use Rattle.spec_opening.specs.Opened.{work_of}
use Rattle.spec_opening.specs.Causes.{opening_number}
use Rattle.spec_opening.proofs.Index.{types_few, some_type, index_place, index_kind}
use Rattle.spec_opening.proofs.Sums.{enumerators_all}
use Rattle.btf_open_names.proofs.filled_work.Enumerators.{to_up}
use Rattle.btf_open_names.proofs.filled_work.Zeros.{zeros_word, before_else, other_field}
use Rattle.spec_opening.proofs.ReadBack.{header_ok, types_ok, order_ok, work_long, types_are, before, classed, else_listed, record_back, kind_back, value_back, enumerator_back, room_back, bucket_back, work_length, counts_back}
use Rattle.btf_open_names.proofs.filled_work.Frame.{field_unlisted, place_unlisted}
use Rattle.proof_demands.specs.name_counts.Indexed.{IsEnum, value_place, Value, place_of_value, NameFits, FitsValue, Indexed, lists_in}
use Rattle.proof_demands.specs.name_counts.Passed.{passed}
use Rattle.proof_demands.specs.name_counts.Alike.{Alike, Fresh}
use Rattle.proof_demands.proofs.name_counts.Related.{work_names}
use Rattle.proof_demands.proofs.name_counts.Lists.{lists_are, lists_none}
use Rattle.proof_demands.proofs.name_counts.Claims.{none_is}
use Rattle.proof_demands.proofs.name_counts.Classed.{enumerator_place, keys_stay, classed_fresh}
use Rattle.proof_demands.specs.demands.Table.{header_of, names_in}

enum_kind : (k : ℕ) → IsEnum k → is_enum k ≡ true
unfolding is_enum
enum_kind k (inl e) = rw e
enum_kind k (inr e) = rw e

no_void : (k : ℕ) → k ≡ 0 → IsEnum k → ⊥
no_void k z (inl e) = omega arith
no_void k z (inr e) = omega arith

same_place : (kind at k : ℕ) → left.value_place kind at k ≡ value_place kind at k
unfolding left.value_place value_place
same_place kind at k = refl

module _ (p modes : ℕ) (s : List ℕ) (n : ℕ) (ok : opening_number p s n ≡ 0) where
  abbrev b : TypeTable
  b = header_of p modes s

  abbrev w : List ℕ
  w = work_of p modes s n

  few : types_of s ≤ 262145
  few = types_few s (header_ok p modes s n ok) (types_ok p modes s n ok)

  void_kind : (id : ℕ) → id ≡ 0 → kind_of (record_by_id b s w id).info ≡ 0
  unfolding void_record
  void_kind id z = ap (λ (t : Record). kind_of t.info) (sym (void_zero b s w id void_record z refl))

  -- a value's enum is no void
  some_id : (id i : ℕ) → Value b s w id i → 1 ≤ id
  some_id id i v = go (ℕ_discrete id 0)
    where
      go : Dec (id ≡ 0) → 1 ≤ id
      go (yes z) = absurd (no_void _ (void_kind id z) v.enum)
      go (no m) = omega arith

  module _ (id i : ℕ) (v : Value b s w id i) where
    a : 1 ≤ id
    a = some_id id i v

    l : id < types_of s
    l = let h : id < b.types = v.below in omega (arith, types_are p modes s n ok)

    its_enum : is_enum (record_kind s (id - 1)) ≡ true
    its_enum = ap is_enum (sym (kind_back p modes s n ok id a l)) ∙ enum_kind _ v.enum

    its_values : values_at b s (get_or (index_of s) id 0) ≡ vlen_of (record_by_id b s w id).info
    unfolding values_at record_at
    its_values =
        (λ j. elim (is_enum (index_kind s few id a l j)) as (λ z. ℕ) [ true ↦ vlen_of (section_word b s (index_place s few id a l j + 4)) | false ↦ 0 ])
        ∙ ap (λ (t : Bool). elim t as (λ z. ℕ) [ true ↦ vlen_of (section_word b s (record_place s (id - 1) + 4)) | false ↦ 0 ]) its_enum
        ∙ ap (λ (t : Record). vlen_of t.info) (sym (record_back p modes s n ok id a l))

    inside : i < values_at b s (get_or (index_of s) id 0)
    inside = subst (λ (m : ℕ). i < m) (sym its_values) v.inside

    number_is : enumerator_of w id i ≡ enums_to b s (index_of s) (id - 1) + i
    number_is = let h : i < vlen_of (record_by_id b s w id).info = v.inside in enumerator_back p modes s n ok id i a l its_enum (omega arith)

    to_one : enums_to b s (index_of s) (suc (id - 1)) ≡ enums_to b s (index_of s) (id - 1) + values_at b s (get_or (index_of s) (suc (id - 1)) 0)
    unfolding enums_to
    to_one = refl

    its_number : enumerator_of w id i < enumerators_of s
    its_number =
        let q : suc (id - 1) ≡ id = omega (arith, a) in
        let one : enums_to b s (index_of s) id ≡ enums_to b s (index_of s) (id - 1) + values_at b s (get_or (index_of s) id 0) = rw q at to_one in
        let d : enums_to b s (index_of s) id ≤ enums_to b s (index_of s) (types_of s - 1) = to_up b s (index_of s) id (types_of s - 1) (omega (arith, l)) in
        let t : enums_to b s (index_of s) (types_of s - 1) ≡ enumerators_of s = enumerators_all b s (order_ok p modes s n ok) (header_ok p modes s n ok) (types_ok p modes s n ok) few in
        omega (arith, number_is, one, d, t, inside)

    its_place : get_word w (record_p b.types (b.types + enumerator_of w id i)) ≡ place_of_value b s w id i
    unfolding record_at enumerator_word
    its_place =
        ap (λ (m : ℕ). get_word w (record_p b.types (b.types + m))) number_is
        ∙ ap (get_word w) (enumerator_place b.types (enums_to b s (index_of s) (id - 1) + i))
        ∙ value_back p modes s n ok id i a l inside
        ∙ same_place (record_kind s (id - 1)) (record_place s (id - 1)) i
        ∙ sym (λ j. value_place (kind_back p modes s n ok id a l j) (record_back p modes s n ok id a l j).at i)

  -- the lists of taken numbers leave what names are read by
  abbrev u : List ℕ
  u = classed p modes s n ok

  listed_place : (f g h : ℕ) → f < 16 → g < 8 → f ≢ 7 → f ≢ 8 → f ≢ 14 → g ≢ 3 → g ≢ 4 → g ≢ 6 → get_word w (place_of b.types f g h) ≡ get_word u (place_of b.types f g h)
  listed_place f g h a c n7 n8 n14 n3 n4 n6 = else_listed p modes s n ok (place_of b.types f g h) (place_unlisted b.types (b.types + enumerators_of s) f g h a c n7 n8 n14 n3 n4 n6)

  listed_field : (f id : ℕ) → id < b.types → f < 16 → f ≢ 7 → f ≢ 8 → f ≢ 14 → get_field w id f ≡ get_field u id f
  listed_field f id l a n7 n8 n14 = else_listed p modes s n ok (id * 16 + f) (field_unlisted b.types (b.types + enumerators_of s) id f l a n7 n8 n14)

  keys_same : key_in b s w ≡ key_in b s u
  unfolding key_in
  keys_same = fun_ext (λ h. ap (λ (at : ℕ). key_of s (space_at b s at h) (name_of b s at)) (listed_place 0 0 h (omega arith) (omega arith) (λ q. omega arith) (λ q. omega arith) (λ q. omega arith) (λ q. omega arith) (λ q. omega arith) (λ q. omega arith)))

  -- room for all names, the class of each, and the values of enums at their numbers
  pub opened_indexed : Indexed b (enumerators_of s) s w
  opened_indexed = record {
    room = record {
      numbered = (room_back p modes s n ok).numbered;
      words = omega (arith, work_length p modes s n ok, work_long p modes s n ok, types_are p modes s n ok);
    };
    class = λ h l.
        listed_place 5 1 h (omega arith) (omega arith) (λ q. omega arith) (λ q. omega arith) (λ q. omega arith) (λ q. omega arith) (λ q. omega arith) (λ q. omega arith)
        ∙ (the_words b (enumerators_of s) s (before p modes s n ok)).class h (room_back p modes s n ok) l
        ∙ ap (λ (k : ℕ → List ℕ). class_of k h) (sym (keys_same ∙ keys_stay b (enumerators_of s) s (before p modes s n ok)));
    numbered = λ id i v. its_number id i v;
    place = λ id i v. its_place id i v;
  }

  no_version_before : (id : ℕ) → id < b.types → get_field (before p modes s n ok) id 4 ≡ 0
  no_version_before id m =
      before_else b s (index_of s) (id * 16 + 4)
      (other_field b.types id 4 m (omega arith) (λ q. absurd (omega arith)) (λ q. absurd (omega arith)) (λ q. absurd (omega arith)) (λ q. absurd (omega arith)))
      (replicate n 0) (omega (arith, types_are p modes s n ok, some_type s))
      ∙ zeros_word n (id * 16 + 4)

  classes_fresh : Fresh b (enumerators_of s) s u
  classes_fresh = classed_fresh b (enumerators_of s) s (before p modes s n ok) (record { no_version = no_version_before; no_count = λ h m. counts_back p modes s n ok h })

  -- no type has a version, no name a holder
  pub opened_fresh : Fresh b (enumerators_of s) s w
  opened_fresh = record {
    no_version = λ id l. listed_field 4 id l (omega arith) (λ q. omega arith) (λ q. omega arith) (λ q. omega arith) ∙ classes_fresh.no_version id l;
    no_count = λ h l. listed_place 6 2 h (omega arith) (omega arith) (λ q. omega arith) (λ q. omega arith) (λ q. omega arith) (λ q. omega arith) (λ q. omega arith) (λ q. omega arith) ∙ classes_fresh.no_count h l;
  }

  -- the names of the session are alike those in the work: without bit 3 of the modes no list has a first holder
  pub opened_names : RelNaming (Alike b (enumerators_of s) s w) (NameFits b s w) (FitsValue b s w) (work_naming b) (names_in p modes s n)
  unfolding names_in
  opened_names = go (eqb (modes / 8 % 2) 1) refl
    where
      go : (t : Bool) → eqb (modes / 8 % 2) 1 ≡ t → RelNaming (Alike b (enumerators_of s) s w) (NameFits b s w) (FitsValue b s w) (work_naming b) (elim t as (λ z. Naming Names) [ true ↦ passed (lists_in b (enumerators_of s) s w) | false ↦ naming ])
      go true q = work_names b (enumerators_of s) s w opened_indexed (lists_are b (enumerators_of s) s w)
      go false q =
          subst (λ (N : Naming Names). RelNaming (Alike b (enumerators_of s) s w) (NameFits b s w) (FitsValue b s w) (work_naming b) N) none_is
          (work_names b (enumerators_of s) s w opened_indexed (lists_none b (enumerators_of s) s w (bucket_back p modes s n ok (eqb-false (modes / 8 % 2) 1 q))))
