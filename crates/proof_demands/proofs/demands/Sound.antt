-- Causes 6 and 7 of opening leave a table of which demand 3 speaks: followed ids are below the count, id 0 is void, and no member and no
-- array element is a prototype through typedefs, qualifiers, type tags, arrays. Assumes nothing.
use Prim.Native.Nat.{ℕ, zero, suc, ◌+◌, ◌-◌, ◌<◌, ◌≤◌}
use mathlib.Core.Path.{◌≡◌, refl, ap, ◌∙◌, sym, subst}
use mathlib.Core.Bool.{Bool, true, false, true≢false}
use mathlib.Core.List.Memᴰ
use mathlib.Core.List.{List, [], ◌∷◌, Memᴰ}
use mathlib.Core.Logic.{◌⊎◌, inl, inr}
use native.Mathlib.Omega.{arith}
use native.Mathlib.Nat.{zero-add}
use native.Mathlib.Decide.{ℕ_discrete}
use Rattle.std.proofs.lemmas.Bool.{cases_lt}
use Rattle.spec_linux_btf.specs.Places.{kind_p}
use Rattle.spec_c_dumper.specs.rules.Types.{BtfType, node_of, member_types, param_types, table_of}
use Rattle.spec_c_dumper.specs.rules.Order.{Node, ignored, plain, listed, through, ptr, tdef, proto, comp, is_comp, Table}
use Rattle.spec_type_table.specs.declared.types.TypeTable.{TypeTable}
use Rattle.spec_type_table.specs.declared.types.BtfType.{BtfType as Record}
use Rattle.spec_type_table.specs.Records.{section_word, kind_of, vlen_of, member_at, param_at, record_at}
use Rattle.spec_type_table.specs.Table.{from, btf_of, type_of, members_of, params_of}
use Rattle.spec_type_table.specs.Nodes.{member_ids, param_ids}
use Rattle.spec_type_table.proofs.KindLaws as K
use Rattle.btf_open_causes.specs.references.Followed.{is_kind_among, place_of, kind_at, type_count, count_for, id_place, count_at, id_at, followed_count, followed_id}
use Rattle.btf_open_causes.specs.prototypes.Prototypes as walk
use Rattle.btf_open_causes.specs.prototypes.Prototypes.{holders, any_leads, ToProto, ends, passes}
use Rattle.btf_open_causes.proofs.references.Accessors.{id_param}
use Rattle.btf_open_causes.proofs.prototypes.Held.{any_leads_lem}
use Rattle.spec_opening.specs.Table.{types_of, record_place, record_kind, index_of}
use Rattle.btf_open_causes.specs.header.Header.{btf_of as settings_of}
use Rattle.spec_opening.specs.Causes as causes
use Rattle.spec_opening.specs.Causes.{cause7, opening_number}
use Rattle.spec_opening.proofs.Order.{sound_none}
use Rattle.spec_opening.proofs.Index.{types_few, table_count, followed_place, followed_kind}
use Rattle.spec_opening.proofs.ReadBack.{header_ok, types_ok, order_ok, record_back, followed_below}
use Rattle.spec_opening.proofs.Sections.{kind_is}
use Rattle.spec_c_dumper.specs.needs.Needs.{kids, weaken, is_holder, is_proto, ProtoVia, it, on, WF}
use Rattle.proof_demands.specs.demands.Table.{header_of, opened_table}
use Rattle.proof_demands.proofs.demands.Described.{count_is, type_zero, type_past}

-- What cause 6 and cause 7 see of a record of kind k at a place, against what ordering sees of the type there. `c` is the table of opening.
module _ (c : TypeTable) (s : List ℕ) (k at : ℕ) where
  -- y is the j-th id that the record follows
  abbrev Follows : ℕ → Type 0
  Follows y = (j : ℕ) × (j < count_at c s k at) × (id_at c s k at j ≡ y)

  pub record Sees (nd : Node) : Type 0 where
    pub kid : (y : ℕ) → Memᴰ y (kids nd) → Follows y
    pub holder : is_holder nd ≡ true → is_kind_among holders k ≡ true
    pub ends_at : is_proto nd ≡ true → k ≡ 13
    pub passes_on : (T : Table) (y : ℕ) → is_comp nd ≡ false → weaken T nd false ≡ false → Memᴰ y (kids nd) → (k ≡ 13) ⊎ ((is_kind_among walk.through k ≡ true) × (id_at c s k at 0 ≡ y))

  off : {A : Type 0} → false ≡ true → A
  off e = absurd (true≢false (sym e))

  one : (y t : ℕ) → Memᴰ y (t ∷ []) → y ≡ t
  one y t (Memᴰ.head q) = q
  one y t (Memᴰ.tail h) = absurd (Memᴰ.not-nil h)

  sees_ignored : Sees ignored
  sees_ignored = record { kid = λ y h. absurd (Memᴰ.not-nil h); holder = λ e. off e; ends_at = λ e. off e; passes_on = λ T y e f h. absurd (Memᴰ.not-nil h) }

  sees_plain : Sees plain
  sees_plain = record { kid = λ y h. absurd (Memᴰ.not-nil h); holder = λ e. off e; ends_at = λ e. off e; passes_on = λ T y e f h. absurd (Memᴰ.not-nil h) }

  sees_listed : (f : Bool) → Sees (listed f)
  sees_listed f = record { kid = λ y h. absurd (Memᴰ.not-nil h); holder = λ e. off e; ends_at = λ e. off e; passes_on = λ T y e g h. absurd (Memᴰ.not-nil h) }

  module _ (t : ℕ) (one_id : 1 ≡ count_at c s k at) (id : id_at c s k at 0 ≡ t) where
    only : (y : ℕ) → Memᴰ y (t ∷ []) → Follows y
    only y h = (0, omega arith, id ∙ sym (one y t h))

    sees_ptr : Sees (ptr t)
    sees_ptr = record { kid = only; holder = λ e. off e; ends_at = λ e. off e; passes_on = λ T y e f h. absurd (true≢false f) }

    module _ (p : is_kind_among walk.through k ≡ true) where
      sees_array : is_kind_among holders k ≡ true → Sees (through true t)
      sees_array h = record { kid = only; holder = λ e. h; ends_at = λ e. off e; passes_on = λ T y e f m. inr (p, id ∙ sym (one y t m)) }

      sees_through : Sees (through false t)
      sees_through = record { kid = only; holder = λ e. off e; ends_at = λ e. off e; passes_on = λ T y e f h. inr (p, id ∙ sym (one y t h)) }

      sees_tdef : Sees (tdef t)
      sees_tdef = record { kid = only; holder = λ e. off e; ends_at = λ e. off e; passes_on = λ T y e f h. inr (p, id ∙ sym (one y t h)) }

  sees_proto : (ts : List ℕ) → k ≡ 13 → ((y : ℕ) → Memᴰ y ts → Follows y) → Sees (proto ts)
  sees_proto ts e h = record { kid = h; holder = λ q. off q; ends_at = λ q. e; passes_on = λ T y q f m. inl e }

  sees_comp : (ts : List ℕ) → is_kind_among holders k ≡ true → ((y : ℕ) → Memᴰ y ts → Follows y) → Sees (comp ts)
  sees_comp ts e h = record { kid = h; holder = λ q. e; ends_at = λ q. off q; passes_on = λ T y q f m. absurd (true≢false q) }

-- an entry of a list that is made from a function
from_mem : (f : ℕ → ℕ) (k n y : ℕ) → Memᴰ y (from f k n) → (j : ℕ) × (j < n) × (f (k + j) ≡ y)
unfolding from
from_mem f k zero y h = absurd (Memᴰ.not-nil h)
from_mem f k (suc n) y (Memᴰ.head q) = let z : k + 0 ≡ k = omega arith in (0, omega arith, ap f z ∙ sym q)
from_mem f k (suc n) y (Memᴰ.tail h) =
    let r = from_mem f (k + 1) n y h in
    let l : r.0 < n = r.1 in
    let z : k + suc r.0 ≡ k + 1 + r.0 = omega arith in
    (suc r.0, omega arith, ap f z ∙ r.2)

from_first : (f : ℕ → ℕ) (n y : ℕ) → Memᴰ y (from f 0 n) → (j : ℕ) × (j < n) × (f j ≡ y)
from_first f n y h = let r = from_mem f 0 n y h in (r.0, r.1, ap f (sym (zero-add r.0)) ∙ r.2)

module _ (c : TypeTable) (size : ℕ) (union arrays placed : Bool) (count names : ℕ) (s : List ℕ) (at : ℕ) where
  -- a table of the same order of bytes
  abbrev b' : TypeTable
  b' = record { ptr_sz = size; union_as_struct = union; big_endian = c.big_endian; strong_arrays = arrays; placing = placed; types = count; strs = names }

  abbrev t : Record
  t = record_at b' s at

  abbrev Seen : ℕ → Type 0
  Seen k = kind_of t.info ≡ k → Sees c s k at (node_of (type_of b' s t))

  by : (k : ℕ) (y : BtfType) → type_of b' s t ≡ y → Sees c s k at (node_of y) → Sees c s k at (node_of (type_of b' s t))
  by k y e h = subst (λ (x : BtfType). Sees c s k at (node_of x)) (sym e) h

  members_4 : (y : ℕ) → Memᴰ y (member_types (members_of b' s t)) → Follows c s 4 at y
  unfolding count_at count_for id_at id_place is_kind_among record_at section_word member_ids
  members_4 y h =
      let r = from_first (λ i. section_word b' s (member_at at i + 4)) (vlen_of (section_word b' s (at + 4))) y (subst (λ (l : List ℕ). Memᴰ y l) (K.member_types_lem b' s t) h) in
      (r.0, r.1, r.2)

  members_5 : (y : ℕ) → Memᴰ y (member_types (members_of b' s t)) → Follows c s 5 at y
  unfolding count_at count_for id_at id_place is_kind_among record_at section_word member_ids
  members_5 y h =
      let r = from_first (λ i. section_word b' s (member_at at i + 4)) (vlen_of (section_word b' s (at + 4))) y (subst (λ (l : List ℕ). Memᴰ y l) (K.member_types_lem b' s t) h) in
      (r.0, r.1, r.2)

  params_13 : (y : ℕ) → Memᴰ y (t.type_id ∷ param_types (params_of b' s t)) → Follows c s 13 at y
  unfolding count_at count_for id_at id_place is_kind_among record_at section_word param_ids
  params_13 y (Memᴰ.head q) = (0, omega arith, sym q)
  params_13 y (Memᴰ.tail h) =
      let r = from_first (λ i. section_word b' s (param_at at i + 4)) (vlen_of (section_word b' s (at + 4))) y (subst (λ (l : List ℕ). Memᴰ y l) (K.param_types_lem b' s t) h) in
      let l : r.0 < vlen_of (section_word b' s (at + 4)) = r.1 in
      (suc r.0, omega arith, ap (section_word c s) (sym (param_place r.0)) ∙ r.2)
    where
      param_place : (j : ℕ) → param_at at j + 4 ≡ id_place 13 at (suc j)
      param_place j = id_param 13 at (suc j) refl (λ q. absurd (omega arith)) (param_at at j) (let z : j ≡ suc j - 1 = omega arith in ap (param_at at) z)

  -- for each of the kinds
  pub seen : (k : ℕ) → Seen k
  unfolding count_at count_for id_at id_place is_kind_among record_at section_word
  seen =
      K.by_kind Seen
      (λ e. by 0 _ (K.type_0 b' s t e) (sees_plain c s 0 at))
      (λ e. by 1 _ (K.type_1 b' s t e) (sees_plain c s 1 at))
      (λ e. by 2 _ (K.type_2 b' s t e) (sees_ptr c s 2 at _ refl refl))
      (λ e. by 3 _ (K.type_3 b' s t e) (sees_array c s 3 at _ refl refl refl refl))
      (λ e. by 4 _ (K.type_4 b' s t e) (sees_comp c s 4 at _ refl members_4))
      (λ e. by 5 _ (K.type_5 b' s t e) (sees_comp c s 5 at _ refl members_5))
      (λ e. by 6 _ (K.type_6 b' s t e) (sees_listed c s 6 at false))
      (λ e. by 7 _ (K.type_7 b' s t e) (sees_listed c s 7 at true))
      (λ e. by 8 _ (K.type_8 b' s t e) (sees_tdef c s 8 at _ refl refl refl))
      (λ e. by 9 _ (K.type_9 b' s t e) (sees_through c s 9 at _ refl refl refl))
      (λ e. by 10 _ (K.type_10 b' s t e) (sees_through c s 10 at _ refl refl refl))
      (λ e. by 11 _ (K.type_11 b' s t e) (sees_through c s 11 at _ refl refl refl))
      (λ e. by 12 _ (K.type_12 b' s t e) (sees_ignored c s 12 at))
      (λ e. by 13 _ (K.type_13 b' s t e) (sees_proto c s 13 at _ refl params_13))
      (λ e. by 14 _ (K.type_14 b' s t e) (sees_ignored c s 14 at))
      (λ e. by 15 _ (K.type_15 b' s t e) (sees_ignored c s 15 at))
      (λ e. by 16 _ (K.type_16 b' s t e) (sees_plain c s 16 at))
      (λ e. by 17 _ (K.type_17 b' s t e) (sees_ignored c s 17 at))
      (λ e. by 18 _ (K.type_18 b' s t e) (sees_through c s 18 at _ refl refl refl))
      (λ e. by 19 _ (K.type_19 b' s t e) (sees_listed c s 19 at false))
      (λ k l e. by k _ (K.type_none b' s t (far k l e)) (sees_plain c s k at))
    where
      far : (k : ℕ) → 20 ≤ k → kind_of t.info ≡ k → 20 ≤ kind_of t.info
      far k l e = omega arith

module _ (p modes : ℕ) (s : List ℕ) (n : ℕ) (ok : opening_number p s n ≡ 0) where
  -- opening's own table, in which no mode matters
  abbrev c : TypeTable
  c = causes.table_of p s

  abbrev b : TypeTable
  b = header_of p modes s

  abbrev node_at : ℕ → Node
  node_at x = node_of ((opened_table p modes s n).type_by_id x)

  few : types_of s ≤ 262145
  few = types_few s (header_ok p modes s n ok) (types_ok p modes s n ok)

  counted_all : type_count c ≡ types_of s
  unfolding causes.table_of
  counted_all = table_count s few p 0

  at_index : (x : ℕ) → 1 ≤ x → x < types_of s → Sees c s (kind_at c (index_of s) x) (place_of c (index_of s) x) (node_at x)
  unfolding causes.table_of btf_of settings_of kind_p record_at
  at_index x a l =
      subst (λ (t : Record). Sees c s (kind_at c (index_of s) x) (place_of c (index_of s) x) (node_of (type_of b s t))) (sym (record_back p modes s n ok x a l))
      (subst (λ (q : ℕ). Sees c s q (place_of c (index_of s) x) (node_of (type_of b s (record_at b s (record_place s (x - 1)))))) (sym (followed_kind s few p 0 x a l))
      (subst (λ (q : ℕ). Sees c s (record_kind s (x - 1)) q (node_of (type_of b s (record_at b s (record_place s (x - 1)))))) (sym (followed_place s few p 0 x a l))
      (seen c b.ptr_sz b.union_as_struct b.strong_arrays b.placing b.types b.strs s (record_place s (x - 1)) (record_kind s (x - 1)) (kind_is b s (order_ok p modes s n ok) (x - 1)))))

  -- a type that follows ids, or is a prototype or a composite, is in the table
  in_table : (x : ℕ) → (node_at x ≡ plain → ⊥) → (1 ≤ x) × (x < types_of s)
  in_table x m = go (ℕ_discrete x 0) (cases_lt x (types_of s))
    where
      go : Dec (x ≡ 0) → (x < types_of s) ⊎ (types_of s ≤ x) → (1 ≤ x) × (x < types_of s)
      go (yes z) d = absurd (m (ap node_at z ∙ ap node_of (type_zero p modes s n ok)))
      go (no z) (inl l) = (omega arith, l)
      go (no z) (inr l) = absurd (m (ap node_of (type_past p modes s n ok x l)))

  with_kid : (x y : ℕ) → Memᴰ y (kids (node_at x)) → (1 ≤ x) × (x < types_of s)
  with_kid x y h = in_table x (λ e. Memᴰ.not-nil (subst (λ (nd : Node). Memᴰ y (kids nd)) e h))

  kid_below : (x y : ℕ) → Memᴰ y (kids (node_at x)) → y < (opened_table p modes s n).type_cnt
  unfolding followed_count followed_id
  kid_below x y h =
      let r = with_kid x y h in
      let f = (at_index x r.0 r.1).kid y h in
      subst (λ (z : ℕ). z < (opened_table p modes s n).type_cnt) f.2
      (subst (λ (z : ℕ). followed_id c s (index_of s) x f.0 < z) (sym (count_is p modes s n ok)) (followed_below p modes s n ok x f.0 r.1 f.1))

  proto_inside : (x : ℕ) → is_proto (node_at x) ≡ true → (1 ≤ x) × (x < types_of s)
  proto_inside x e = in_table x (λ q. true≢false (sym e ∙ ap is_proto q))

  to_proto : {x : ℕ} → ProtoVia (table_of (opened_table p modes s n)) x → ToProto c s (index_of s) x
  unfolding followed_id
  to_proto (it {x = x} e) = let r = proto_inside x e in ends ((at_index x r.0 r.1).ends_at e)
  to_proto (on {x = x} {y = y} i f h v) = step ((at_index x (with_kid x y h).0 (with_kid x y h).1).passes_on (table_of (opened_table p modes s n)) y i f h) (to_proto v)
    where
      step : (kind_at c (index_of s) x ≡ 13) ⊎ ((is_kind_among walk.through (kind_at c (index_of s) x) ≡ true) × (followed_id c s (index_of s) x 0 ≡ y)) → ToProto c s (index_of s) y → ToProto c s (index_of s) x
      step (inl e) q = ends e
      step (inr e) q = passes e.0 (subst (λ (z : ℕ). ToProto c s (index_of s) z) (sym e.1) q)

  none_leads : any_leads c s (index_of s) ≡ false
  unfolding cause7
  none_leads = ((sound_none p s n).0 ok).1.1.1.1.1.1.0

  no_proto_inside : (x m : ℕ) → is_holder (node_at x) ≡ true → Memᴰ m (kids (node_at x)) → ProtoVia (table_of (opened_table p modes s n)) m → ⊥
  unfolding followed_count followed_id
  no_proto_inside x m i h v =
      let r = with_kid x m h in
      let q = at_index x r.0 r.1 in
      let f = q.kid m h in
      let l : ToProto c s (index_of s) (followed_id c s (index_of s) x f.0) = subst (λ (z : ℕ). ToProto c s (index_of s) z) (sym f.2) (to_proto v) in
      true≢false (sym ((any_leads_lem c s (index_of s)).1 (record { x = x; k = f.0; type = omega (arith, r.1, counted_all); holder = q.holder i; inside = f.1; leads = l })) ∙ none_leads)

  -- demand 3 and the ordering speak of the table of every section that opening accepts
  pub opened_wf : WF (table_of (opened_table p modes s n))
  opened_wf = record { void = ap node_of (type_zero p modes s n ok); below = kid_below; no_proto = no_proto_inside }
