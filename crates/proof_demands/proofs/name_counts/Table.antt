-- Every type of the table fits: its name is that of a holder, in the space of its kind. Assumes nothing.
use Prim.Native.Nat.{ℕ, zero, suc, ◌+◌, ◌<◌}
use mathlib.Core.Path.{◌≡◌, refl, ap, ◌∙◌, sym, subst}
use mathlib.Core.List.{List}
use mathlib.Core.Logic.{inl, inr, ◌≢◌}
use native.Mathlib.Omega.{arith}
use Rattle.spec_c_dumper.specs.rules.Types.{Enumerator, BtfType}
use Rattle.spec_c_dumper.specs.rules.Names.{Space, tag_space, ident_space}
use Rattle.spec_c_dumper.proofs.rules.Closed.{ValuesFit, TypeFits}
use Rattle.spec_type_table.specs.declared.types.TypeTable.{TypeTable}
use Rattle.spec_type_table.specs.declared.types.BtfType.{BtfType as Record}
use Rattle.spec_type_table.specs.Names.{str_at}
use Rattle.spec_type_table.specs.Records.{section_word, vlen_of, kind_of, record_by_id}
use Rattle.spec_type_table.specs.Table.{from, value_of, value64_of, record_name, type_of, btf_of}
use Rattle.spec_type_table.proofs.KindLaws.{by_kind, type_0, type_1, type_2, type_3, type_4, type_5, type_6, type_7, type_8, type_9, type_10, type_11, type_12, type_13, type_14, type_15, type_16, type_17, type_18, type_19, type_none}
use Rattle.btf_open_names.specs.name_classes.Classes.{space_of, is_id_among}
use Rattle.proof_demands.specs.name_counts.Indexed.{number, value_place, NameFits, FitsValue}
use Rattle.proof_demands.proofs.name_counts.Keys.{no_void}

module _ (b : TypeTable) (s w : List ℕ) where
  -- the values of a list, from the i-th on
  values_fit : (f : ℕ → Enumerator) (id i n : ℕ) → ((k : ℕ) → k < i + n → FitsValue b s w id k (f k).name) → ValuesFit (NameFits b s w) (FitsValue b s w) id i (from f i n)
  unfolding from
  values_fit f id i zero h = tt
  values_fit f id i (suc n) h = (h i (omega arith), values_fit f id (i + 1) n (λ k l. h k (omega arith)))

  module _ (id : ℕ) where
    abbrev t : Record
    t = record_by_id b s w id

    -- a kind with a space
    fit : (k : ℕ) (space : Space) → kind_of (record_by_id b s w id).info ≡ k → k ≢ 0 → space_of k ≡ number space → NameFits b s w space id (record_name b s (record_by_id b s w id))
    fit k space e n q = record { below = (no_void b s w id (λ z. n (sym e ∙ z))).1; its_space = ap space_of e ∙ q; its_name = refl }

    value_6 : kind_of (record_by_id b s w id).info ≡ 6 → (k : ℕ) → k < 0 + vlen_of (record_by_id b s w id).info → FitsValue b s w id k (value_of b s (record_by_id b s w id).at k).name
    unfolding value_of value_place
    value_6 e k l = record {
      value = record { below = (no_void b s w id (λ z. six z)).1; enum = inl e; inside = omega arith };
      its_name = ap (λ (x : ℕ). str_at b s (section_word b s (value_place x (record_by_id b s w id).at k))) (sym e);
    }
      where
        six : kind_of (record_by_id b s w id).info ≡ 0 → ⊥
        six z = let q : ◌≡◌ {A = ℕ} 6 0 = sym e ∙ z in omega arith

    value_19 : kind_of (record_by_id b s w id).info ≡ 19 → (k : ℕ) → k < 0 + vlen_of (record_by_id b s w id).info → FitsValue b s w id k (value64_of b s (record_by_id b s w id).at k).name
    unfolding value64_of value_place
    value_19 e k l = record {
      value = record { below = (no_void b s w id (λ z. nineteen z)).1; enum = inr e; inside = omega arith };
      its_name = ap (λ (x : ℕ). str_at b s (section_word b s (value_place x (record_by_id b s w id).at k))) (sym e);
    }
      where
        nineteen : kind_of (record_by_id b s w id).info ≡ 0 → ⊥
        nineteen z = let q : ◌≡◌ {A = ℕ} 19 0 = sym e ∙ z in omega arith

    type_fits : (k : ℕ) → kind_of (record_by_id b s w id).info ≡ k → TypeFits (NameFits b s w) (FitsValue b s w) id (type_of b s (record_by_id b s w id))
    unfolding space_of is_id_among number
    type_fits =
        by_kind (λ k. kind_of (record_by_id b s w id).info ≡ k → TypeFits (NameFits b s w) (FitsValue b s w) id (type_of b s (record_by_id b s w id)))
        (λ e. by (type_0 b s t e) tt)
        (λ e. by (type_1 b s t e) tt)
        (λ e. by (type_2 b s t e) tt)
        (λ e. by (type_3 b s t e) tt)
        (λ e. by (type_4 b s t e) (fit 4 tag_space e (λ z. omega arith) refl))
        (λ e. by (type_5 b s t e) (fit 5 tag_space e (λ z. omega arith) refl))
        (λ e. by (type_6 b s t e) (fit 6 tag_space e (λ z. omega arith) refl, values_fit (value_of b s t.at) id 0 (vlen_of t.info) (value_6 e)))
        (λ e. by (type_7 b s t e) (fit 7 tag_space e (λ z. omega arith) refl))
        (λ e. by (type_8 b s t e) (fit 8 ident_space e (λ z. omega arith) refl))
        (λ e. by (type_9 b s t e) tt)
        (λ e. by (type_10 b s t e) tt)
        (λ e. by (type_11 b s t e) tt)
        (λ e. by (type_12 b s t e) tt)
        (λ e. by (type_13 b s t e) tt)
        (λ e. by (type_14 b s t e) tt)
        (λ e. by (type_15 b s t e) tt)
        (λ e. by (type_16 b s t e) tt)
        (λ e. by (type_17 b s t e) tt)
        (λ e. by (type_18 b s t e) tt)
        (λ e. by (type_19 b s t e) (fit 19 tag_space e (λ z. omega arith) refl, values_fit (value64_of b s t.at) id 0 (vlen_of t.info) (value_19 e)))
        (λ k l e. by (type_none b s t (rw e l)) tt)
      where
        by : {x : BtfType} → type_of b s (record_by_id b s w id) ≡ x → TypeFits (NameFits b s w) (FitsValue b s w) id x → TypeFits (NameFits b s w) (FitsValue b s w) id (type_of b s (record_by_id b s w id))
        by {x} e f = subst (λ (y : BtfType). TypeFits (NameFits b s w) (FitsValue b s w) id y) (sym e) f

  pub fits_table : (id : ℕ) → TypeFits (NameFits b s w) (FitsValue b s w) id ((btf_of b s w).type_by_id id)
  unfolding btf_of
  fits_table id = type_fits id (kind_of (record_by_id b s w id).info) refl
