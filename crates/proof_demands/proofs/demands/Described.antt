-- The table of a section that opening accepts has the types that the Linux documentation describes, field by field. Assumes nothing.
use Prim.Native.Nat.{ℕ, zero, suc, ◌+◌, ◌-◌, ◌<◌, ◌≤◌}
use mathlib.Core.Path.{◌≡◌, refl, ap, ap₂, ◌∙◌, sym}
use mathlib.Core.Bool.{Bool, true, false}
use mathlib.Core.List.{List, ◌∷◌}
use native.Mathlib.Omega.{arith}
use lib.ListN.{length, get_or}
use lib.Dec.{eqb}
use borrow.Author.Tests.{ne_eqb}
use Rattle.spec_linux_btf.specs.Documentation.{Described}
use Rattle.spec_linux_btf.specs.Reading.{Bytes}
use Rattle.spec_linux_btf.specs.Places.{kind_p}
use Rattle.spec_c_dumper.specs.rules.Types.{Void}
use Rattle.spec_type_table.specs.declared.types.TypeTable.{TypeTable}
use Rattle.spec_type_table.specs.declared.types.BtfType.{BtfType as Record}
use Rattle.spec_type_table.specs.Records.{section_word, kind_of, record_at, void_record}
use Rattle.spec_type_table.specs.Table.{btf_of, type_of}
use Rattle.spec_type_table.specs.Documented.{kept}
use Rattle.spec_type_table.proofs.Documented.{section_documented}
use Rattle.spec_type_table.proofs.Laws.{void_zero, void_past}
use Rattle.spec_type_table.proofs.KindLaws as K
use Rattle.spec_opening.specs.Table.{described_in, types_of, record_place, record_kind, index_of}
use Rattle.btf_open_names.specs.filled_work.Left.{is_tag_on, tags_on}
use Rattle.spec_opening.specs.Opened.{work_of}
use Rattle.spec_opening.specs.Causes.{opening_number}
use Rattle.spec_opening.proofs.Index.{types_few, some_type, index_place, index_kind}
use Rattle.spec_opening.proofs.ReadBack.{header_ok, types_ok, order_ok, types_are, record_back, tags_are}
use Rattle.spec_opening.proofs.Sections.{kind_is}
use Rattle.proof_demands.specs.demands.Table.{header_of, opened_table, is_tag_for, tag_ids}

pub void_type : (b : TypeTable) (s : List ℕ) → type_of b s void_record ≡ Void
unfolding void_record
void_type b s = K.type_0 b s void_record refl

-- a record is a DECL_TAG on type id: its kind is 17, and its third word is id
module _ (b : TypeTable) (s : List ℕ) (t : Record) (id : ℕ) where
  abbrev Is : Bool → Bool
  Is v = elim v as (λ z. Bool) [ true ↦ eqb t.type_id id | false ↦ false ]

  abbrev Says : ℕ → Type 0
  Says k = kind_of t.info ≡ k → Is (eqb k 17) ≡ is_tag_for id (type_of b s t)

  tag_says : (k : ℕ) → Says k
  tag_says =
      K.by_kind Says
      (λ e. sym (ap (is_tag_for id) (K.type_0 b s t e)))
      (λ e. sym (ap (is_tag_for id) (K.type_1 b s t e)))
      (λ e. sym (ap (is_tag_for id) (K.type_2 b s t e)))
      (λ e. sym (ap (is_tag_for id) (K.type_3 b s t e)))
      (λ e. sym (ap (is_tag_for id) (K.type_4 b s t e)))
      (λ e. sym (ap (is_tag_for id) (K.type_5 b s t e)))
      (λ e. sym (ap (is_tag_for id) (K.type_6 b s t e)))
      (λ e. sym (ap (is_tag_for id) (K.type_7 b s t e)))
      (λ e. sym (ap (is_tag_for id) (K.type_8 b s t e)))
      (λ e. sym (ap (is_tag_for id) (K.type_9 b s t e)))
      (λ e. sym (ap (is_tag_for id) (K.type_10 b s t e)))
      (λ e. sym (ap (is_tag_for id) (K.type_11 b s t e)))
      (λ e. sym (ap (is_tag_for id) (K.type_12 b s t e)))
      (λ e. sym (ap (is_tag_for id) (K.type_13 b s t e)))
      (λ e. sym (ap (is_tag_for id) (K.type_14 b s t e)))
      (λ e. sym (ap (is_tag_for id) (K.type_15 b s t e)))
      (λ e. sym (ap (is_tag_for id) (K.type_16 b s t e)))
      (λ e. sym (ap (is_tag_for id) (K.type_17 b s t e)))
      (λ e. sym (ap (is_tag_for id) (K.type_18 b s t e)))
      (λ e. sym (ap (is_tag_for id) (K.type_19 b s t e)))
      (λ k l e. ap Is (ne_eqb k 17 (λ q. absurd (omega arith))) ∙ sym (ap (is_tag_for id) (K.type_none b s t (far k l e))))
    where
      far : (k : ℕ) → 20 ≤ k → kind_of t.info ≡ k → 20 ≤ kind_of t.info
      far k l e = omega arith

module _ (p modes : ℕ) (s : List ℕ) (n : ℕ) (ok : opening_number p s n ≡ 0) where
  abbrev b : TypeTable
  b = header_of p modes s

  abbrev w : List ℕ
  w = work_of p modes s n

  few : types_of s ≤ 262145
  few = types_few s (header_ok p modes s n ok) (types_ok p modes s n ok)

  -- the count of types: void, and the described ones
  pub count_described : (opened_table p modes s n).type_cnt ≡ suc (length (described_in s))
  unfolding btf_of types_of
  count_described = types_are p modes s n ok

  pub count_is : (opened_table p modes s n).type_cnt ≡ types_of s
  unfolding btf_of
  count_is = types_are p modes s n ok

  -- type id is what the documentation describes there, as the Rust's `load_type` keeps it
  pub type_described : Bytes s → (id : ℕ) → 1 ≤ id → id < types_of s → (d : Described) → (opened_table p modes s n).type_by_id id ≡ kept b.strs s (get_or (described_in s) (id - 1) d)
  unfolding btf_of record_place types_of
  type_described y id a l d =
      ap (type_of b s) (record_back p modes s n ok id a l)
      ∙ section_documented b s (order_ok p modes s n ok) y (header_ok p modes s n ok) (types_ok p modes s n ok) (id - 1) d (omega arith)

  -- id 0, and every id from the count on, is void
  pub type_zero : (opened_table p modes s n).type_by_id 0 ≡ Void
  unfolding btf_of
  type_zero = ap (type_of b s) (sym (void_zero b s w 0 void_record refl refl)) ∙ void_type b s

  pub type_past : (id : ℕ) → types_of s ≤ id → (opened_table p modes s n).type_by_id id ≡ Void
  unfolding btf_of
  type_past id l =
      ap (type_of b s) (sym (void_past b s w id void_record (λ z. absurd (omega (arith, some_type s))) (omega (arith, types_are p modes s n ok)) refl))
      ∙ void_type b s

  -- the tags of a type
  one_tag : (id x : ℕ) → 1 ≤ x → x < types_of s → is_tag_on b s id (get_or (index_of s) x 0) ≡ is_tag_for id ((opened_table p modes s n).type_by_id x)
  unfolding is_tag_on btf_of kind_p record_at
  one_tag id x a l =
      (λ i. elim (eqb (index_kind s few x a l i) 17) as (λ z. Bool) [ true ↦ eqb (section_word b s (index_place s few x a l i + 8)) id | false ↦ false ])
      ∙ tag_says b s (record_at b s (record_place s (x - 1))) id (record_kind s (x - 1)) (kind_is b s (order_ok p modes s n ok) (x - 1))
      ∙ ap (λ (t : Record). is_tag_for id (type_of b s t)) (sym (record_back p modes s n ok x a l))

  tags_from : (id x m : ℕ) → 1 ≤ x → x + m ≤ types_of s → tags_on b s (index_of s) id x m ≡ tag_ids (opened_table p modes s n).type_by_id id x m
  unfolding tags_on tag_ids
  tags_from id x zero a l = refl
  tags_from id x (suc m) a l =
      ap₂ (λ (t : Bool) (r : List ℕ). elim t as (λ z. List ℕ) [ true ↦ x ∷ r | false ↦ r ]) (one_tag id x a (omega arith))
      (tags_from id (suc x) m (omega arith) (omega arith))

  -- the DECL_TAGs on a type are all of the table's, in rising order
  pub tags_described : (id : ℕ) → id < types_of s → (opened_table p modes s n).decl_tags id ≡ tag_ids (opened_table p modes s n).type_by_id id 1 (types_of s - 1)
  tags_described id l =
      tags_are p modes s n ok id l
      ∙ ap (λ (c : ℕ). tags_on b s (index_of s) id 1 (c - 1)) (types_are p modes s n ok)
      ∙ tags_from id 1 (types_of s - 1) (omega arith) (omega (arith, some_type s))
