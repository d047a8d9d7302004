-- The names of the table are those of the holders. Assumes nothing.
use Prim.Native.Nat.{ℕ, zero, suc, ◌+◌, ◌<◌}
use mathlib.Core.Path.{◌≡◌, refl, ap, ◌∙◌, sym, subst}
use mathlib.Core.Bool.{Bool, true}
use mathlib.Core.List.Memᴰ
use mathlib.Core.List.{List, [], ◌∷◌, ◌++◌, Memᴰ}
use mathlib.Core.Logic.{⊎_elim, ◌≢◌}
use native.Mathlib.Omega.{arith}
use native.Mathlib.Decide.{ℕ_discrete}
use lib.Dec.{ltb, eqb}
use borrow.Author.Tests.{lt-ltb, ne_eqb}
use Rattle.spec_bytes.specs.words.Words.{get_word, pick}
use Rattle.spec_c_dumper.specs.rules.Types.{Name, Enumerator, BtfType, Void, Int, Ptr, Array, Composite, Enum, Enum64, Fwd, Typedef, Mod, Func, Var, Datasec, FuncProto, Float, DeclTag, TypeTag, Btf as Rules}
use Rattle.spec_c_dumper.specs.rules.Names.{Space, tag_space, ident_space}
use Rattle.spec_c_dumper.proofs.rules.Closed.{ValuesFit, TypeFits}
use Rattle.spec_type_table.specs.declared.types.TypeTable.{TypeTable}
use Rattle.spec_type_table.specs.declared.types.BtfType.{BtfType as Record}
use Rattle.spec_type_table.specs.Names.{str_at}
use Rattle.spec_type_table.specs.Records.{section_word, vlen_of, kind_of, record_at, record_by_id}
use Rattle.spec_type_table.specs.Table.{from, value_of, value64_of, record_name, type_of, btf_of, enumerator_of}
use Rattle.spec_type_table.proofs.KindLaws.{by_kind, type_4, type_5, type_6, type_7, type_8, type_19}
use Rattle.btf_open_names.specs.name_classes.Classes.{record_p, is_id_among, space_of, space_at, name_of}
use Rattle.btf_open_names.proofs.name_classes.Keys.{space_high}
use Rattle.proof_demands.specs.name_counts.Indexed.{number, value_place, NameFits, FitsValue, Holds, Indexed}
use Rattle.proof_demands.proofs.name_counts.Keys.{record_there, type_holds, value_holds}
use Rattle.proof_demands.proofs.name_counts.Table.{fits_table}
use Rattle.spec_c_dumper.specs.names_apart.Apart.{value_names, tags_in, idents_in, names_in, names_to, table_names}

-- ---- a name of the table is that of a holder
module _ (b : TypeTable) (e : ℕ) (s w : List ℕ) (I : Indexed b e s w) where
  abbrev Held : Space → Name → Type 0
  Held space x = (h : ℕ) × Holds b e s w h space x

  values_held : (id i : ℕ) (vs : List Enumerator) → ValuesFit (NameFits b s w) (FitsValue b s w) id i vs → (x : Name) → Memᴰ x (value_names vs) → Held ident_space x
  values_held id i [] f x m = absurd (Memᴰ.not-nil m)
  values_held id i (v ∷ vs) f x m = ⊎_elim
      (λ q. (b.types + enumerator_of w id i, subst (Holds b e s w (b.types + enumerator_of w id i) ident_space) (sym q) (value_holds b e s w I id i v.name f.0)))
      (λ q. values_held id (i + 1) vs f.1 x q)
      (Memᴰ.cases_cons m)

  own_held : (id : ℕ) (space : Space) (name x : Name) → NameFits b s w space id name → Memᴰ x (name ∷ []) → Held space x
  own_held id space name x f m = ⊎_elim (λ q. (id, subst (Holds b e s w id space) (sym q) (type_holds b e s w id space name f))) (λ q. absurd (Memᴰ.not-nil q)) (Memᴰ.cases_cons m)

  tags_held : (id : ℕ) (t : BtfType) → TypeFits (NameFits b s w) (FitsValue b s w) id t → (x : Name) → Memᴰ x (tags_in t) → Held tag_space x
  tags_held id Void f x m = absurd (Memᴰ.not-nil m)
  tags_held id (Int n c) f x m = absurd (Memᴰ.not-nil m)
  tags_held id (Ptr t) f x m = absurd (Memᴰ.not-nil m)
  tags_held id (Array t k) f x m = absurd (Memᴰ.not-nil m)
  tags_held id (Composite c n z ms) f x m = own_held id tag_space n x f m
  tags_held id (Enum c n z vs) f x m = own_held id tag_space n x f.0 m
  tags_held id (Enum64 c n z vs) f x m = own_held id tag_space n x f.0 m
  tags_held id (Fwd u n) f x m = own_held id tag_space n x f m
  tags_held id (Typedef n t) f x m = absurd (Memᴰ.not-nil m)
  tags_held id (Mod q t) f x m = absurd (Memᴰ.not-nil m)
  tags_held id (Func n) f x m = absurd (Memᴰ.not-nil m)
  tags_held id (Var n) f x m = absurd (Memᴰ.not-nil m)
  tags_held id (Datasec n) f x m = absurd (Memᴰ.not-nil m)
  tags_held id (FuncProto r ps) f x m = absurd (Memᴰ.not-nil m)
  tags_held id (Float n z) f x m = absurd (Memᴰ.not-nil m)
  tags_held id (DeclTag a n t k) f x m = absurd (Memᴰ.not-nil m)
  tags_held id (TypeTag a n t) f x m = absurd (Memᴰ.not-nil m)

  idents_held : (id : ℕ) (t : BtfType) → TypeFits (NameFits b s w) (FitsValue b s w) id t → (x : Name) → Memᴰ x (idents_in t) → Held ident_space x
  idents_held id Void f x m = absurd (Memᴰ.not-nil m)
  idents_held id (Int n c) f x m = absurd (Memᴰ.not-nil m)
  idents_held id (Ptr t) f x m = absurd (Memᴰ.not-nil m)
  idents_held id (Array t k) f x m = absurd (Memᴰ.not-nil m)
  idents_held id (Composite c n z ms) f x m = absurd (Memᴰ.not-nil m)
  idents_held id (Enum c n z vs) f x m = values_held id 0 vs f.1 x m
  idents_held id (Enum64 c n z vs) f x m = values_held id 0 vs f.1 x m
  idents_held id (Fwd u n) f x m = absurd (Memᴰ.not-nil m)
  idents_held id (Typedef n t) f x m = own_held id ident_space n x f m
  idents_held id (Mod q t) f x m = absurd (Memᴰ.not-nil m)
  idents_held id (Func n) f x m = absurd (Memᴰ.not-nil m)
  idents_held id (Var n) f x m = absurd (Memᴰ.not-nil m)
  idents_held id (Datasec n) f x m = absurd (Memᴰ.not-nil m)
  idents_held id (FuncProto r ps) f x m = absurd (Memᴰ.not-nil m)
  idents_held id (Float n z) f x m = absurd (Memᴰ.not-nil m)
  idents_held id (DeclTag a n t k) f x m = absurd (Memᴰ.not-nil m)
  idents_held id (TypeTag a n t) f x m = absurd (Memᴰ.not-nil m)

  type_held : (space : Space) (id : ℕ) (x : Name) → Memᴰ x (names_in space ((btf_of b s w).type_by_id id)) → Held space x
  type_held tag_space id x m = tags_held id ((btf_of b s w).type_by_id id) (fits_table b s w id) x m
  type_held ident_space id x m = idents_held id ((btf_of b s w).type_by_id id) (fits_table b s w id) x m

  pub name_held : (space : Space) (k : ℕ) (x : Name) → Memᴰ x (names_to (btf_of b s w) space k) → Held space x
  unfolding names_to
  name_held space zero x m = absurd (Memᴰ.not-nil m)
  name_held space (suc k) x m = ⊎_elim (type_held space k x) (name_held space k x) (Memᴰ.append_cases (names_in space ((btf_of b s w).type_by_id k)) m)

-- ---- the name of a holder is a name of the table
in_names : (B : Rules) (space : Space) (x : Name) (id k : ℕ) → id < k → Memᴰ x (names_in space (B.type_by_id id)) → Memᴰ x (names_to B space k)
unfolding names_to
in_names B space x id zero l m = absurd (omega arith)
in_names B space x id (suc k) l m = go (ℕ_discrete id k) (λ h. in_names B space x id k h m)
  where
    go : Dec (id ≡ k) → (id < k → Memᴰ x (names_to B space k)) → Memᴰ x (names_in space (B.type_by_id k) ++ names_to B space k)
    go (yes e) f = Memᴰ.append_left (names_to B space k) (subst (λ (j : ℕ). Memᴰ x (names_in space (B.type_by_id j))) e m)
    go (no n) f = Memᴰ.append_right (names_in space (B.type_by_id k)) (f (omega arith))

number_tag : (space : Space) → 0 ≡ number space → space ≡ tag_space
unfolding number
number_tag tag_space e = refl
number_tag ident_space e = absurd (omega (arith, e))

pub number_ident : (space : Space) → 1 ≡ number space → space ≡ ident_space
unfolding number
number_ident tag_space e = absurd (omega (arith, e))
number_ident ident_space e = refl

number_no : (space : Space) → 2 ≡ number space → ⊥
unfolding number
number_no tag_space e = omega (arith, e)
number_no ident_space e = omega (arith, e)

module _ (b : TypeTable) (s : List ℕ) (t : Record) (space : Space) where
  abbrev In : Type 0
  In = Memᴰ (record_name b s t) (names_in space (type_of b s t))

  tagged : (x : BtfType) → type_of b s t ≡ x → 0 ≡ number space → tags_in x ≡ record_name b s t ∷ [] → In
  tagged x e q z = subst (λ (y : Space). Memᴰ (record_name b s t) (names_in y (type_of b s t))) (sym (number_tag space q)) (subst (λ (y : BtfType). Memᴰ (record_name b s t) (tags_in y)) (sym e) (subst (λ (l : List Name). Memᴰ (record_name b s t) l) (sym z) (Memᴰ.head refl)))

  ident : (x : BtfType) → type_of b s t ≡ x → 1 ≡ number space → idents_in x ≡ record_name b s t ∷ [] → In
  ident x e q z = subst (λ (y : Space). Memᴰ (record_name b s t) (names_in y (type_of b s t))) (sym (number_ident space q)) (subst (λ (y : BtfType). Memᴰ (record_name b s t) (idents_in y)) (sym e) (subst (λ (l : List Name). Memᴰ (record_name b s t) l) (sym z) (Memᴰ.head refl)))

  own_name : space_of (kind_of t.info) ≡ number space → In
  unfolding space_of is_id_among
  own_name q =
      by_kind (λ k. k ≡ kind_of t.info → space_of k ≡ number space → In)
      (λ e h. absurd (number_no space h))
      (λ e h. absurd (number_no space h))
      (λ e h. absurd (number_no space h))
      (λ e h. absurd (number_no space h))
      (λ e h. tagged _ (type_4 b s t (sym e)) h refl)
      (λ e h. tagged _ (type_5 b s t (sym e)) h refl)
      (λ e h. tagged _ (type_6 b s t (sym e)) h refl)
      (λ e h. tagged _ (type_7 b s t (sym e)) h refl)
      (λ e h. ident _ (type_8 b s t (sym e)) h refl)
      (λ e h. absurd (number_no space h))
      (λ e h. absurd (number_no space h))
      (λ e h. absurd (number_no space h))
      (λ e h. absurd (number_no space h))
      (λ e h. absurd (number_no space h))
      (λ e h. absurd (number_no space h))
      (λ e h. absurd (number_no space h))
      (λ e h. absurd (number_no space h))
      (λ e h. absurd (number_no space h))
      (λ e h. absurd (number_no space h))
      (λ e h. tagged _ (type_19 b s t (sym e)) h refl)
      (λ k l e h. absurd (number_no space (space_high k (λ z. omega arith) (λ z. omega arith) (omega arith) ∙ h)))
      (kind_of t.info) refl q

-- a type
module _ (b : TypeTable) (e : ℕ) (s w : List ℕ) where
  pub type_named : (h : ℕ) (space : Space) (name : Name) → h < b.types → Holds b e s w h space name → Memᴰ name (table_names (btf_of b s w) space)
  unfolding btf_of space_at record_at name_of
  type_named h space name l q =
      subst (λ (x : Name). Memᴰ x (table_names (btf_of b s w) space)) (sym its)
      (in_names (btf_of b s w) space (record_name b s (record_by_id b s w h)) h b.types l (own_name b s (record_by_id b s w h) space kind))
    where
      no_void : h ≢ 0
      no_void z = number_no space (sym (ap (λ (x : Bool). pick x 2 (pick (ltb h b.types) (space_of (kind_of (section_word b s (get_word w (record_p b.types h) + 4)))) 1)) (zero_is z)) ∙ q.its_space)
        where
          zero_is : h ≡ 0 → eqb h 0 ≡ true
          zero_is z = ap (λ (x : ℕ). eqb x 0) z

      there : record_at b s (get_word w (record_p b.types h)) ≡ record_by_id b s w h
      there = record_there b s w h no_void l

      kind : space_of (kind_of (record_by_id b s w h).info) ≡ number space
      kind =
          ap (λ (r : Record). space_of (kind_of r.info)) (sym there)
          ∙ sym (ap (λ (x : Bool). pick x 2 (pick (ltb h b.types) (space_of (kind_of (section_word b s (get_word w (record_p b.types h) + 4)))) 1)) (ne_eqb h 0 no_void)
          ∙ ap (λ (x : Bool). pick x (space_of (kind_of (section_word b s (get_word w (record_p b.types h) + 4)))) 1) (lt-ltb h b.types l))
          ∙ q.its_space

      its : name ≡ record_name b s (record_by_id b s w h)
      its = q.its_name ∙ ap (λ (r : Record). record_name b s r) there

-- a value of an enum
mem_in : (f : ℕ → Enumerator) (k n i : ℕ) → i < n → Memᴰ (f (k + i)).name (value_names (from f k n))
unfolding from
mem_in f k zero i l = absurd (omega arith)
mem_in f k (suc n) zero l = let z : k + 0 ≡ k = omega arith in Memᴰ.head (ap (λ (j : ℕ). (f j).name) z)
mem_in f k (suc n) (suc i) l =
    let z : k + 1 + i ≡ k + suc i = omega arith in
    Memᴰ.tail (subst (λ (j : ℕ). Memᴰ (f j).name (value_names (from f (k + 1) n))) z (mem_in f (k + 1) n i (omega arith)))

mem_from : (f : ℕ → Enumerator) (n i : ℕ) → i < n → Memᴰ (f i).name (value_names (from f 0 n))
mem_from f n i l = let z : 0 + i ≡ i = omega arith in subst (λ (j : ℕ). Memᴰ (f j).name (value_names (from f 0 n))) z (mem_in f 0 n i l)

module _ (b : TypeTable) (s w : List ℕ) (id i : ℕ) (name : Name) (q : FitsValue b s w id i name) where
  abbrev t : Record
  t = record_by_id b s w id

  abbrev Among : BtfType → Type 0
  Among x = Memᴰ name (idents_in x)

  six : kind_of t.info ≡ 6 → Memᴰ name (idents_in (type_of b s t))
  unfolding value_of value_place
  six e =
      subst Among (sym (type_6 b s t e))
      (subst (λ (x : Name). Memᴰ x (value_names (from (value_of b s t.at) 0 (vlen_of t.info))))
      (sym (q.its_name ∙ ap (λ (k : ℕ). str_at b s (section_word b s (value_place k t.at i))) e))
      (mem_from (value_of b s t.at) (vlen_of t.info) i q.value.inside))

  nineteen : kind_of t.info ≡ 19 → Memᴰ name (idents_in (type_of b s t))
  unfolding value64_of value_place
  nineteen e =
      subst Among (sym (type_19 b s t e))
      (subst (λ (x : Name). Memᴰ x (value_names (from (value64_of b s t.at) 0 (vlen_of t.info))))
      (sym (q.its_name ∙ ap (λ (k : ℕ). str_at b s (section_word b s (value_place k t.at i))) e))
      (mem_from (value64_of b s t.at) (vlen_of t.info) i q.value.inside))

  pub value_named : Memᴰ name (table_names (btf_of b s w) ident_space)
  unfolding btf_of
  value_named = in_names (btf_of b s w) ident_space name id b.types q.value.below (⊎_elim six nineteen q.value.enum)
