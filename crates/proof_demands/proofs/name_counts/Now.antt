-- While emission keeps what it has to keep, the work stays indexed, and its table has the same types. Assumes nothing.
use Prim.Native.Nat.{ℕ, ◌+◌, ◌*◌, ◌/◌, ◌<◌, ◌≤◌}
use mathlib.Core.Path.{◌≡◌, refl, ap, ◌∙◌, sym, subst}
use mathlib.Core.List.{List}
use mathlib.Core.Logic.{⊎_elim}
use native.Mathlib.Omega.{arith}
use native.Mathlib.Decide.{ℕ_discrete}
use Rattle.std.proofs.lemmas.Bool.{cases_lt}
use Rattle.spec_bytes.specs.words.Words.{get_word}
use Rattle.spec_c_dumper.proofs.rules.Closed.{TypeFits}
use Rattle.spec_c_dumper.specs.rules.Types.{BtfType}
use Rattle.spec_type_table.specs.declared.types.TypeTable.{TypeTable}
use Rattle.spec_type_table.specs.declared.types.BtfType.{BtfType as Record}
use Rattle.spec_type_table.specs.Records.{vlen_of, kind_of, record_at, void_record, record_by_id}
use Rattle.spec_type_table.specs.Table.{enumerator_of, type_of, btf_of}
use Rattle.spec_type_table.proofs.Laws.{void_zero, void_past}
use Rattle.spec_type_table.proofs.Frame.{enumerator_same}
use Rattle.btf_open_names.specs.name_classes.Classes.{record_p, space_at, name_of, key_of, key_in, class_of}
use Rattle.btf_open_names.proofs.name_classes.Laws.{class_le, class_key, class_first}
use Rattle.proof_demands.specs.name_counts.Indexed.{IsEnum, value_place, Value, NameFits, FitsValue, Indexed, CountsKept}
use Rattle.proof_demands.proofs.name_counts.Keys.{record_there}
use Rattle.proof_demands.proofs.name_counts.Table.{fits_table}

-- a class looks at no holder after it
class_as : (f g : ℕ → List ℕ) (h : ℕ) → ((c : ℕ) → c ≤ h → f c ≡ g c) → class_of f h ≡ class_of g h
class_as f g h e =
    let p : class_of g h ≤ class_of f h = class_first g (class_of f h) h (class_le f h) (sym (e (class_of f h) (class_le f h)) ∙ class_key f h ∙ e h (omega arith)) in
    let q : class_of f h ≤ class_of g h = class_first f (class_of g h) h (class_le g h) (e (class_of g h) (class_le g h) ∙ class_key g h ∙ sym (e h (omega arith))) in
    omega arith

module _ (b : TypeTable) (e : ℕ) (s w v : List ℕ) (K : CountsKept b e s w v) where
  pub record_now : (id : ℕ) → record_by_id b s v id ≡ record_by_id b s w id
  record_now id = go (ℕ_discrete id 0)
    where
      go : Dec (id ≡ 0) → record_by_id b s v id ≡ record_by_id b s w id
      go (yes z) = sym (void_zero b s v id void_record z refl) ∙ void_zero b s w id void_record z refl
      go (no n) = ⊎_elim
          (λ l. sym (record_there b s v id n l) ∙ ap (record_at b s) (K.place id (omega arith)) ∙ record_there b s w id n l)
          (λ l. sym (void_past b s v id void_record n l refl) ∙ void_past b s w id void_record n l refl)
          (cases_lt id b.types)

  pub type_now : (id : ℕ) → (btf_of b s v).type_by_id id ≡ (btf_of b s w).type_by_id id
  unfolding btf_of
  type_now id = ap (type_of b s) (record_now id)

  -- the types of the table now fit, too
  pub fits_now : (id : ℕ) → TypeFits (NameFits b s w) (FitsValue b s w) id ((btf_of b s v).type_by_id id)
  fits_now id = subst (λ (x : BtfType). TypeFits (NameFits b s w) (FitsValue b s w) id x) (sym (type_now id)) (fits_table b s w id)

  pub key_now : (h : ℕ) → h < b.types + e → key_in b s v h ≡ key_in b s w h
  unfolding key_in
  key_now h l = ap (λ (at : ℕ). key_of s (space_at b s at h) (name_of b s at)) (K.place h l)

  -- the work now has what opening left, with the same classes and the same places
  module _ (I : Indexed b e s w) where
    value_then : (id i : ℕ) → Value b s v id i → Value b s w id i
    value_then id i q = record {
      below = q.below;
      enum = subst (λ (r : Record). IsEnum (kind_of r.info)) (record_now id) q.enum;
      inside = subst (λ (r : Record). i < vlen_of r.info) (record_now id) q.inside;
    }

    same_enumerator : (id i : ℕ) → Value b s v id i → enumerator_of v id i ≡ enumerator_of w id i
    same_enumerator id i q = enumerator_same v w id i (K.first id q.below)

    pub indexed_now : Indexed b e s v
    indexed_now = record {
      room = record { numbered = I.room.numbered; words = subst (λ (n : ℕ). b.types * 16 + e * 8 ≤ n / 4) (sym K.long) I.room.words };
      class = λ h l. K.class h l ∙ I.class h l ∙ sym (class_as (key_in b s v) (key_in b s w) h (λ c m. key_now c (omega arith)));
      numbered = λ id i q. subst (λ (n : ℕ). n < e) (sym (same_enumerator id i q)) (I.numbered id i (value_then id i q));
      place = λ id i q.
          ap (λ (n : ℕ). get_word v (record_p b.types (b.types + n))) (same_enumerator id i q)
          ∙ K.place (b.types + enumerator_of w id i) (omega (arith, I.numbered id i (value_then id i q)))
          ∙ I.place id i (value_then id i q)
          ∙ ap (λ (r : Record). value_place (kind_of r.info) r.at i) (sym (record_now id));
    }
