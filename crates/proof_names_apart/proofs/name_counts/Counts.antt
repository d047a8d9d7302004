-- A table that opening accepts has at most one name for each type and one for each enumerator, and these are few. Assumes nothing.
use Prim.Native.Nat.{ℕ, zero, suc, ◌+◌, ◌-◌, ◌≤◌, ◌<◌}
use mathlib.Core.Path.{◌≡◌, refl, ap, ◌∙◌, sym, subst}
use mathlib.Core.Bool.{Bool, true, false}
use mathlib.Core.List.{List}
use native.Mathlib.Omega.{arith}
use lib.ListN.{length, get_or, length-append}
use Rattle.spec_c_dumper.specs.rules.Types.{Enumerator, BtfType, Void, Int, Ptr, Array, Composite, Enum, Enum64, Fwd, Typedef, Mod, Func, Var, Datasec, FuncProto, Float, DeclTag, TypeTag, Btf as Rules}
use Rattle.spec_c_dumper.specs.rules.Names.{tag_space, ident_space}
use Rattle.spec_type_table.specs.declared.types.TypeTable.{TypeTable}
use Rattle.spec_type_table.specs.declared.types.BtfType.{BtfType as Record}
use Rattle.spec_type_table.specs.Records.{section_word, kind_of, vlen_of, record_at, record_by_id}
use Rattle.spec_type_table.specs.Table.{from, value_of, value64_of, type_of, btf_of}
use Rattle.spec_type_table.proofs.KindLaws.{by_kind, type_0, type_1, type_2, type_3, type_4, type_5, type_6, type_7, type_8, type_9, type_10, type_11, type_12, type_13, type_14, type_15, type_16, type_17, type_18, type_19, type_none}
use Rattle.btf_open_names.specs.filled_work.Left.{is_enum, values_at, enums_to}
use Rattle.spec_opening.specs.Table.{types_of, enumerators_of, record_place, index_of}
use Rattle.spec_opening.specs.Opened.{work_of}
use Rattle.spec_opening.specs.Causes.{opening_number}
use Rattle.spec_opening.proofs.Index.{types_few, some_type, index_place, index_kind}
use Rattle.spec_opening.proofs.Sums.{enumerators_few, enumerators_all}
use Rattle.spec_opening.proofs.ReadBack.{header_ok, types_ok, section_short, order_ok, types_are, record_back, kind_back}
use Rattle.proof_demands.specs.demands.Table.{header_of, opened_table}
use Rattle.proof_demands.proofs.demands.Described.{type_zero}
use Rattle.spec_c_dumper.specs.names_apart.Apart.{value_names, tags_in, idents_in, names_to, FewNames}

-- ---- the names of a type

one_tag : (t : BtfType) → length (tags_in t) ≤ 1
one_tag Void = omega arith
one_tag (Int n b) = omega arith
one_tag (Ptr t) = omega arith
one_tag (Array t k) = omega arith
one_tag (Composite s n z ms) = omega arith
one_tag (Enum s n z vs) = omega arith
one_tag (Enum64 s n z vs) = omega arith
one_tag (Fwd u n) = omega arith
one_tag (Typedef n t) = omega arith
one_tag (Mod q t) = omega arith
one_tag (Func n) = omega arith
one_tag (Var n) = omega arith
one_tag (Datasec n) = omega arith
one_tag (FuncProto r ps) = omega arith
one_tag (Float n z) = omega arith
one_tag (DeclTag a n t k) = omega arith
one_tag (TypeTag a n t) = omega arith

names_from : (f : ℕ → Enumerator) (k n : ℕ) → length (value_names (from f k n)) ≡ n
unfolding from
names_from f k zero = refl
names_from f k (suc n) = ap suc (names_from f (k + 1) n)

module _ (b : TypeTable) (s : List ℕ) (t : Record) where
  is : (x : BtfType) (m : ℕ) → type_of b s t ≡ x → length (idents_in x) ≤ m → length (idents_in (type_of b s t)) ≤ m
  is x m e h = subst (λ (y : BtfType). length (idents_in y) ≤ m) (sym e) h

  -- a typedef has one, an enum those of its values
  values_of : (m : ℕ) → 1 ≤ m → (is_enum (kind_of t.info) ≡ true → vlen_of t.info ≤ m) → length (idents_in (type_of b s t)) ≤ m
  unfolding is_enum
  values_of m o h =
      by_kind
      (λ k. k ≡ kind_of t.info → length (idents_in (type_of b s t)) ≤ m)
      (λ e. is _ m (type_0 b s t (sym e)) (omega arith))
      (λ e. is _ m (type_1 b s t (sym e)) (omega arith))
      (λ e. is _ m (type_2 b s t (sym e)) (omega arith))
      (λ e. is _ m (type_3 b s t (sym e)) (omega arith))
      (λ e. is _ m (type_4 b s t (sym e)) (omega arith))
      (λ e. is _ m (type_5 b s t (sym e)) (omega arith))
      (λ e. is _ m (type_6 b s t (sym e)) (omega (arith, names_from (value_of b s t.at) 0 (vlen_of t.info), h (ap is_enum (sym e)))))
      (λ e. is _ m (type_7 b s t (sym e)) (omega arith))
      (λ e. is _ m (type_8 b s t (sym e)) (omega arith))
      (λ e. is _ m (type_9 b s t (sym e)) (omega arith))
      (λ e. is _ m (type_10 b s t (sym e)) (omega arith))
      (λ e. is _ m (type_11 b s t (sym e)) (omega arith))
      (λ e. is _ m (type_12 b s t (sym e)) (omega arith))
      (λ e. is _ m (type_13 b s t (sym e)) (omega arith))
      (λ e. is _ m (type_14 b s t (sym e)) (omega arith))
      (λ e. is _ m (type_15 b s t (sym e)) (omega arith))
      (λ e. is _ m (type_16 b s t (sym e)) (omega arith))
      (λ e. is _ m (type_17 b s t (sym e)) (omega arith))
      (λ e. is _ m (type_18 b s t (sym e)) (omega arith))
      (λ e. is _ m (type_19 b s t (sym e)) (omega (arith, names_from (value64_of b s t.at) 0 (vlen_of t.info), h (ap is_enum (sym e)))))
      (λ k l e. is _ m (type_none b s t (subst (λ (x : ℕ). 20 ≤ x) e l)) (omega arith))
      (kind_of t.info) refl

-- ---- the names of the table
module _ (p modes : ℕ) (s : List ℕ) (n : ℕ) (ok : opening_number p s n ≡ 0) where
  abbrev b : TypeTable
  b = header_of p modes s

  abbrev w : List ℕ
  w = work_of p modes s n

  abbrev B : Rules
  B = opened_table p modes s n

  small : types_of s ≤ 262145
  small = types_few s (header_ok p modes s n ok) (types_ok p modes s n ok)

  tags_few : (k : ℕ) → length (names_to B tag_space k) ≤ k
  unfolding names_to
  tags_few zero = omega arith
  tags_few (suc k) = omega (arith, length-append (tags_in (B.type_by_id k)) (names_to B tag_space k), one_tag (B.type_by_id k), tags_few k)

  module _ (id : ℕ) (a : 1 ≤ id) (l : id < types_of s) where
    pub values_are : is_enum (kind_of (record_by_id b s w id).info) ≡ true → values_at b s (get_or (index_of s) id 0) ≡ vlen_of (record_by_id b s w id).info
    unfolding values_at record_at
    values_are e =
        (λ j. elim (is_enum (index_kind s small id a l j)) as (λ z. ℕ) [ true ↦ vlen_of (section_word b s (index_place s small id a l j + 4)) | false ↦ 0 ])
        ∙ ap (λ (t : Bool). elim t as (λ z. ℕ) [ true ↦ vlen_of (section_word b s (record_place s (id - 1) + 4)) | false ↦ 0 ]) (ap is_enum (sym (kind_back p modes s n ok id a l)) ∙ e)
        ∙ ap (λ (t : Record). vlen_of t.info) (sym (record_back p modes s n ok id a l))

    idents_one : length (idents_in (B.type_by_id id)) ≤ suc (values_at b s (get_or (index_of s) id 0))
    unfolding btf_of
    idents_one = values_of b s (record_by_id b s w id) (suc (values_at b s (get_or (index_of s) id 0))) (omega arith) (λ e. omega (arith, values_are e))

  to_more : (k : ℕ) → enums_to b s (index_of s) (suc k) ≡ enums_to b s (index_of s) k + values_at b s (get_or (index_of s) (suc k) 0)
  unfolding enums_to
  to_more k = refl

  idents_few : (k : ℕ) → k < types_of s → length (names_to B ident_space (suc k)) ≤ suc k + enums_to b s (index_of s) k
  unfolding names_to
  idents_few zero l =
      let z : length (idents_in (B.type_by_id 0)) ≡ 0 = ap (λ (t : BtfType). length (idents_in t)) (type_zero p modes s n ok) in
      omega (arith, length-append (idents_in (B.type_by_id 0)) (names_to B ident_space 0), z)
  idents_few (suc k) l =
      omega (arith, length-append (idents_in (B.type_by_id (suc k))) (names_to B ident_space (suc k)), idents_one (suc k) (omega arith) l, idents_few k (omega arith), to_more k)

  all_idents : length (names_to B ident_space (types_of s)) ≤ types_of s + enumerators_of s
  all_idents =
      let q : suc (types_of s - 1) ≡ types_of s = omega (arith, some_type s) in
      let t : enums_to b s (index_of s) (types_of s - 1) ≡ enumerators_of s = enumerators_all b s (order_ok p modes s n ok) (header_ok p modes s n ok) (types_ok p modes s n ok) small in
      let h : length (names_to B ident_space (suc (types_of s - 1))) ≤ suc (types_of s - 1) + enums_to b s (index_of s) (types_of s - 1) = idents_few (types_of s - 1) (omega (arith, some_type s)) in
      omega (arith, q, t, h, ap (λ (k : ℕ). length (names_to B ident_space k)) q)

  pub few_names : FewNames B
  unfolding btf_of
  few_names tag_space = omega (arith, tags_few b.types, types_are p modes s n ok, small)
  few_names ident_space =
      let e : length (names_to B ident_space b.types) ≡ length (names_to B ident_space (types_of s)) = ap (λ (k : ℕ). length (names_to B ident_space k)) (types_are p modes s n ok) in
      omega (arith, e, all_idents, small, enumerators_few b s (order_ok p modes s n ok) (header_ok p modes s n ok) (types_ok p modes s n ok), section_short p modes s n ok)
