-- Finding the classes, which opening does last, makes work indexed that has the room and the places of the values. Assumes nothing.
use Prim.Native.Nat.{ℕ, ◌+◌, ◌-◌, ◌*◌, ◌/◌, ◌<◌, ◌≤◌}
use mathlib.Core.Path.{◌≡◌, refl, ap, ◌∙◌, sym, subst, fun_ext}
use mathlib.Core.List.{List}
use mathlib.Core.Logic.{⊎_elim, ◌≢◌}
use native.Mathlib.Omega.{arith}
use native.Mathlib.Decide.{ℕ_discrete}
use Rattle.std.proofs.lemmas.Bool.{cases_lt}
use Rattle.spec_bytes.specs.words.Words.{get_word}
use Rattle.spec_type_table.specs.declared.types.TypeTable.{TypeTable}
use Rattle.spec_type_table.specs.declared.types.BtfType.{BtfType as Record}
use Rattle.spec_type_table.specs.Cells.{get_field, count_p}
use Rattle.spec_type_table.specs.Records.{vlen_of, kind_of, record_at, void_record, record_by_id}
use Rattle.spec_type_table.specs.Table.{enumerator_of}
use Rattle.spec_type_table.proofs.Laws.{place_type, place_enum, void_zero, void_past}
use Rattle.spec_type_table.proofs.Frame.{enumerator_same}
use Rattle.btf_open_names.specs.name_classes.Classes.{record_p, space_at, name_of, key_of, key_in, class_of, table_classed}
use Rattle.btf_open_names.specs.name_classes.Claims.{Room}
use Rattle.btf_open_names.proofs.name_classes.Keys.{place_apart, class_count, count_bucket, count_link}
use Rattle.btf_open_names.proofs.name_classes.Ledger.{the_words}
use Rattle.proof_demands.specs.name_counts.Indexed.{IsEnum, value_place, Value, place_of_value, Indexed}
use Rattle.proof_demands.specs.name_counts.Alike.{Fresh}
use Rattle.proof_demands.proofs.name_counts.Keys.{record_there}

-- word 0 of an enumerator
pub enumerator_place : (types k : ℕ) → record_p types (types + k) ≡ types * 16 + k * 8
enumerator_place types k = let q : types * 16 + (types + k - types) * 8 + 0 ≡ types * 16 + k * 8 = omega arith in sym (place_enum types 0 0 (types + k) (omega arith)) ∙ q

module _ (b : TypeTable) (e : ℕ) (s w : List ℕ) where
  place_stays : (h : ℕ) → get_word (table_classed b e s w) (record_p b.types h) ≡ get_word w (record_p b.types h)
  place_stays h = (the_words b e s w).else (record_p b.types h)
      (λ k l. (place_apart b.types 0 0 5 1 (omega arith) h k, place_apart b.types 0 0 7 3 (omega arith) h k, place_apart b.types 0 0 8 4 (omega arith) h k))

  -- a word of a type, seen as word f of a type and word g of an enumerator
  field_stays : (f g id : ℕ) → f < 16 → g < 8 → f ≢ 5 → f ≢ 7 → f ≢ 8 → g ≢ 1 → g ≢ 3 → g ≢ 4 → id < b.types → get_field (table_classed b e s w) id f ≡ get_field w id f
  field_stays f g id p q f5 f7 f8 g1 g3 g4 l = (the_words b e s w).else (id * 16 + f)
      (λ k m. (λ z. place_apart b.types f g 5 1 (p, omega arith, q, omega arith, f5, g1) id k (sym (place_type b.types f g id l) ∙ z), λ z. place_apart b.types f g 7 3 (p, omega arith, q, omega arith, f7, g3) id k (sym (place_type b.types f g id l) ∙ z), λ z. place_apart b.types f g 8 4 (p, omega arith, q, omega arith, f8, g4) id k (sym (place_type b.types f g id l) ∙ z)))

  first_stays : (id : ℕ) → id < b.types → get_field (table_classed b e s w) id 12 ≡ get_field w id 12
  first_stays id l = field_stays 12 6 id (omega arith) (omega arith) (λ z. omega arith) (λ z. omega arith) (λ z. omega arith) (λ z. omega arith) (λ z. omega arith) (λ z. omega arith) l

  record_stays : (id : ℕ) → record_by_id b s (table_classed b e s w) id ≡ record_by_id b s w id
  record_stays id = go (ℕ_discrete id 0)
    where
      go : Dec (id ≡ 0) → record_by_id b s (table_classed b e s w) id ≡ record_by_id b s w id
      go (yes z) = sym (void_zero b s (table_classed b e s w) id void_record z refl) ∙ void_zero b s w id void_record z refl
      go (no n) = ⊎_elim
          (λ l. sym (record_there b s (table_classed b e s w) id n l) ∙ ap (record_at b s) (place_stays id) ∙ record_there b s w id n l)
          (λ l. sym (void_past b s (table_classed b e s w) id void_record n l refl) ∙ void_past b s w id void_record n l refl)
          (cases_lt id b.types)

  pub keys_stay : key_in b s (table_classed b e s w) ≡ key_in b s w
  unfolding key_in
  keys_stay = fun_ext (λ h. ap (λ (at : ℕ). key_of s (space_at b s at h) (name_of b s at)) (place_stays h))

  -- given that the values are numbered and placed after the classes are found
  module _ (r : Room b e w) where
    pub classed_indexed : ((id i : ℕ) → Value b s (table_classed b e s w) id i → enumerator_of (table_classed b e s w) id i < e)
        → ((id i : ℕ) → Value b s (table_classed b e s w) id i
        → get_word (table_classed b e s w) (record_p b.types (b.types + enumerator_of (table_classed b e s w) id i)) ≡ place_of_value b s (table_classed b e s w) id i)
        → Indexed b e s (table_classed b e s w)
    classed_indexed nb pl = record {
      room = record { numbered = r.numbered; words = subst (λ (n : ℕ). b.types * 16 + e * 8 ≤ n / 4) (sym (the_words b e s w).long) r.words };
      class = λ h l. (the_words b e s w).class h r l ∙ ap (λ (k : ℕ → List ℕ). class_of k h) (sym keys_stay);
      numbered = nb;
      place = pl;
    }

  -- or before
  value_before : (id i : ℕ) → Value b s (table_classed b e s w) id i → Value b s w id i
  value_before id i q = record {
    below = q.below;
    enum = subst (λ (r : Record). IsEnum (kind_of r.info)) (record_stays id) q.enum;
    inside = subst (λ (r : Record). i < vlen_of r.info) (record_stays id) q.inside;
  }

  same_enumerator : (id i : ℕ) → Value b s w id i → enumerator_of (table_classed b e s w) id i ≡ enumerator_of w id i
  same_enumerator id i q = enumerator_same (table_classed b e s w) w id i (first_stays id q.below)

  pub placed_indexed : Room b e w → ((id i : ℕ) → Value b s w id i → enumerator_of w id i < e)
      → ((id i : ℕ) → Value b s w id i → get_word w (record_p b.types (b.types + enumerator_of w id i)) ≡ place_of_value b s w id i)
      → Indexed b e s (table_classed b e s w)
  placed_indexed r nb pl =
      classed_indexed r
      (λ id i q. subst (λ (n : ℕ). n < e) (sym (same_enumerator id i (value_before id i q))) (nb id i (value_before id i q)))
      (λ id i q.
      ap (λ (n : ℕ). get_word (table_classed b e s w) (record_p b.types (b.types + n))) (same_enumerator id i (value_before id i q))
      ∙ place_stays (b.types + enumerator_of w id i)
      ∙ pl id i (value_before id i q)
      ∙ ap (λ (t : Record). value_place (kind_of t.info) t.at i) (sym (record_stays id)))

  -- no version and no count before, none after
  pub classed_fresh : Fresh b e s w → Fresh b e s (table_classed b e s w)
  classed_fresh z = record {
    no_version = λ id l. field_stays 4 5 id (omega arith) (omega arith) (λ q. omega arith) (λ q. omega arith) (λ q. omega arith) (λ q. omega arith) (λ q. omega arith) (λ q. omega arith) l ∙ z.no_version id l;
    no_count = λ h l.
        (the_words b e s w).else (count_p b.types h) (λ k m. (λ q. class_count b.types k h (sym q), count_bucket b.types h k, count_link b.types h k))
        ∙ z.no_count h l;
  }
