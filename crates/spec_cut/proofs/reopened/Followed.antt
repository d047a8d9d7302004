-- What causes 6, 7 and 8 see of a section that passes causes 3 and 5 are its described types. Assumes nothing.
use Prim.Native.Nat.{ℕ, zero, suc, ◌+◌, ◌-◌, ◌*◌, ◌/◌, ◌%◌, ◌<◌, ◌≤◌}
use native.Mathlib.Omega.{arith}
use mathlib.Core.Path.{◌≡◌, refl, sym, ◌∙◌, ap, ap₂, subst}
use mathlib.Core.Bool.{true, false, true≢false}
use mathlib.Core.List.Memᴰ
use mathlib.Core.List.{List, ◌∷◌, Memᴰ}
use mathlib.Core.Logic.{◌⊎◌, inl, inr}
use lib.ListN.{length, get_or}
use lib.Dec.{leb}
use Rattle.std.proofs.lemmas.Bool.{and_parts, cases_lt}
use Rattle.std.proofs.lemmas.List.{get_or_past}
use Rattle.spec_linux_btf.specs.Documentation.{param, Described, described}
use Rattle.spec_linux_btf.specs.Reading.{Bytes, kind_table, none, kind, shape, known}
use Rattle.spec_linux_btf.specs.Places.{kind_p, member_p, tabulate, type_p, sound_p}
use Rattle.spec_linux_btf.specs.Fields.{kind_in, size_or_type}
use Rattle.spec_linux_btf.specs.Section.{word_of, types_at, type_len_of, header_sound, types_sound}
use Rattle.spec_linux_btf.proofs.Claims.{section_fields, section_sound_at}
use Rattle.spec_linux_btf.proofs.Fields as F
use Rattle.spec_type_table.specs.declared.types.TypeTable.{TypeTable}
use Rattle.spec_type_table.specs.Records.{section_word, param_at}
use Rattle.spec_type_table.proofs.Documented.{words_same}
use Rattle.spec_type_table.proofs.KindLaws.{by_kind}
use Rattle.btf_open_causes.specs.references.Followed.{is_kind_among, type_count, place_of, kind_at, count_for, id_place, count_at, id_at, followed_count, followed_id}
use Rattle.btf_open_causes.specs.references.Bounds.{entry_void, followed_none}
use Rattle.btf_open_causes.proofs.references.Accessors.{id_param}
use Rattle.btf_open_causes.specs.header.Header.{btf_of}
use Rattle.btf_open_causes.proofs.header.Headers.{order_is}
use Rattle.spec_opening.specs.Table.{described_in, types_of, record_place, record_kind, index_of}
use Rattle.spec_opening.specs.Causes.{table_of}
use Rattle.spec_opening.proofs.Index.{types_few, table_count, followed_place, followed_kind}
use Rattle.spec_cut.specs.section.Kept.{member_ids, param_ids, followed_ids, void_type, type_of, third}
use Rattle.spec_cut.specs.reopened.Seen.{SeenFrom}

-- ---- lists that are made from a function

tabulate_to : (f : ℕ → ℕ) (k n j : ℕ) → j < n → Memᴰ (f (k + j)) (tabulate f k n)
tabulate_to f k zero j l = absurd (omega (arith, l))
tabulate_to f k (suc n) zero l = let e : k + 0 ≡ k = omega arith in Memᴰ.head (ap f e)
tabulate_to f k (suc n) (suc j) l =
    let e : suc k + j ≡ k + suc j = omega arith in
    Memᴰ.tail (subst (λ (x : ℕ). Memᴰ (f x) (tabulate f (suc k) n)) e (tabulate_to f (suc k) n j (omega (arith, l))))

tabulate_from : (f : ℕ → ℕ) (k n y : ℕ) → Memᴰ y (tabulate f k n) → (j : ℕ) × (j < n) × (f (k + j) ≡ y)
tabulate_from f k zero y h = absurd (Memᴰ.not-nil h)
tabulate_from f k (suc n) y (Memᴰ.head q) = let z : k + 0 ≡ k = omega arith in (0, omega arith, ap f z ∙ sym q)
tabulate_from f k (suc n) y (Memᴰ.tail h) =
    let r = tabulate_from f (suc k) n y h in
    let l : r.0 < n = r.1 in
    let z : k + suc r.0 ≡ suc k + r.0 = omega arith in
    (suc r.0, omega (arith, l), ap f z ∙ r.2)

-- ---- the ids that the record at a place follows, by its kind

module _ (c : TypeTable) (s : List ℕ) (at : ℕ) where
  abbrev w : ℕ → ℕ
  w = section_word c s

  members_ids : (f : ℕ) (g : ℕ → ℕ) (k n : ℕ) → member_ids (tabulate (λ j. member_p f w (g j)) k n) ≡ tabulate (λ j. w (g j + 4)) k n
  members_ids f g k zero = refl
  members_ids zero g k (suc n) = ap (λ (l : List ℕ). w (g k + 4) ∷ l) (members_ids zero g (suc k) n)
  members_ids (suc f) g k (suc n) = ap (λ (l : List ℕ). w (g k + 4) ∷ l) (members_ids (suc f) g (suc k) n)

  param_place : (j : ℕ) → at + 12 + j * 8 + 4 ≡ id_place 13 at (suc j)
  param_place j = id_param 13 at (suc j) refl (λ q. absurd (omega arith)) (param_at at j) (let z : j ≡ suc j - 1 = omega arith in ap (param_at at) z)

  params_ids : (k n : ℕ) → param_ids (tabulate (λ j. param (w (at + 12 + j * 8)) (w (at + 12 + j * 8 + 4))) k n) ≡ tabulate (id_at c s 13 at) (suc k) n
  unfolding id_at
  params_ids k zero = refl
  params_ids k (suc n) = ap₂ (λ (x : ℕ) (l : List ℕ). x ∷ l) (ap w (param_place k)) (params_ids (suc k) n)

  abbrev Ids : ℕ → Type 0
  Ids k = w (at + 4) / 16777216 % 32 ≡ k → known (shape (kind k)) ≡ true → followed_ids (type_p w at) ≡ tabulate (id_at c s k at) 0 (count_at c s k at)

  proto_ids : Ids 13
  unfolding count_at count_for id_at id_place is_kind_among
  proto_ids e h =
      let v : ℕ = w (at + 4) % 65536 in
      let z : suc v ≡ v + 1 = omega arith in
      ap followed_ids (F.type-FUNC-PROTO w at e) ∙ ap (λ (l : List ℕ). w (at + 8) ∷ l) (params_ids 0 v) ∙ ap (tabulate (id_at c s 13 at) 0) z

  ids_of : (k : ℕ) → Ids k
  unfolding count_at count_for id_at id_place is_kind_among kind
  ids_of =
      by_kind Ids
      (λ e h. absurd (true≢false (sym h)))
      (λ e h. ap followed_ids (F.type-INT w at e))
      (λ e h. ap followed_ids (F.type-PTR w at e))
      (λ e h. ap followed_ids (F.type-ARRAY w at e))
      (λ e h. ap followed_ids (F.type-STRUCT w at e) ∙ members_ids (w (at + 4) / 2147483648) (λ j. at + 12 + j * 12) 0 (w (at + 4) % 65536))
      (λ e h. ap followed_ids (F.type-UNION w at e) ∙ members_ids (w (at + 4) / 2147483648) (λ j. at + 12 + j * 12) 0 (w (at + 4) % 65536))
      (λ e h. ap followed_ids (F.type-ENUM w at e))
      (λ e h. ap followed_ids (F.type-FWD w at e))
      (λ e h. ap followed_ids (F.type-TYPEDEF w at e))
      (λ e h. ap followed_ids (F.type-VOLATILE w at e))
      (λ e h. ap followed_ids (F.type-CONST w at e))
      (λ e h. ap followed_ids (F.type-RESTRICT w at e))
      (λ e h. ap followed_ids (F.type-FUNC w at e))
      proto_ids
      (λ e h. ap followed_ids (F.type-VAR w at e))
      (λ e h. ap followed_ids (F.type-DATASEC w at e))
      (λ e h. ap followed_ids (F.type-FLOAT w at e))
      (λ e h. ap followed_ids (F.type-DECL-TAG w at e))
      (λ e h. ap followed_ids (F.type-TYPE-TAG w at e))
      (λ e h. ap followed_ids (F.type-ENUM64 w at e))
      (λ k l e h. absurd (true≢false (sym (sym (ap (λ n. known (shape n)) (get_or_past kind_table k none l)) ∙ h))))

third_is : (t : Described) → size_or_type t ≡ third t
unfolding size_or_type
third_is (described n f z body) = refl

pub sound_known : (w : ℕ → ℕ) (len p : ℕ) → sound_p w len p ≡ true → known (shape (kind (kind_p w p))) ≡ true
unfolding sound_p
sound_known w len p h = (and_parts (known (shape (kind (kind_p w p)))) _ (and_parts (leb (p + 12) len) _ h).1).0

-- ---- the section

module _ (p : ℕ) (s : List ℕ) (y : Bytes s) (h : header_sound s ≡ true) (t : types_sound s ≡ true) where
  abbrev c : TypeTable
  c = table_of p s

  abbrev ts : List Described
  ts = described_in s

  few : types_of s ≤ 262145
  few = types_few s h t

  counted : type_count c ≡ suc (length ts)
  unfolding table_of types_of
  counted = table_count s few p 0

  reads : section_word c s ≡ word_of s
  unfolding table_of
  reads = words_same (btf_of s p 0 (types_of s)) s (order_is s p 0 (types_of s))

  -- record i: its place, its kind, and that its kind is known
  module _ (i : ℕ) (l : i < length ts) where
    place_at : place_of c (index_of s) (suc i) ≡ record_place s i
    unfolding table_of types_of
    place_at = let z : suc i - 1 ≡ i = omega arith in followed_place s few p 0 (suc i) (omega arith) (omega (arith, l)) ∙ ap (record_place s) z

    kind_at_lem : kind_at c (index_of s) (suc i) ≡ record_kind s i
    unfolding table_of types_of
    kind_at_lem = let z : suc i - 1 ≡ i = omega arith in followed_kind s few p 0 (suc i) (omega arith) (omega (arith, l)) ∙ ap (record_kind s) z

    type_at : type_p (word_of s) (record_place s i) ≡ get_or ts i void_type
    unfolding record_place
    type_at = (section_fields s y h t).each i void_type l

    known_at : known (shape (kind (record_kind s i))) ≡ true
    unfolding record_kind record_place
    known_at = sound_known (word_of s) (types_at s + type_len_of s) (record_place s i) (section_sound_at s y h t i l).0

    kind_in_lem : record_kind s i ≡ kind_in (get_or ts i void_type)
    unfolding record_kind kind_p
    kind_in_lem = sym (F.kind_word (word_of s) (record_place s i) known_at) ∙ ap kind_in type_at

    third_at : section_word c s (place_of c (index_of s) (suc i) + 8) ≡ third (get_or ts i void_type)
    third_at =
        ap (λ (p : ℕ). section_word c s (p + 8)) place_at
        ∙ ap (λ (w : ℕ → ℕ). w (record_place s i + 8)) reads
        ∙ sym (F.size_word (word_of s) (record_place s i))
        ∙ ap size_or_type type_at
        ∙ third_is (get_or ts i void_type)

    ids_at : followed_ids (get_or ts i void_type) ≡ tabulate (followed_id c s (index_of s) (suc i)) 0 (followed_count c s (index_of s) (suc i))
    unfolding followed_id followed_count record_kind kind_p
    ids_at =
        ap followed_ids (sym type_at ∙ ap (λ (w : ℕ → ℕ). type_p w (record_place s i)) (sym reads))
        ∙ ids_of c s (record_place s i) (record_kind s i) (ap (λ (w : ℕ → ℕ). w (record_place s i + 4) / 16777216 % 32) reads) known_at
        ∙ sym (λ j. tabulate (id_at c s (kind_at_lem j) (place_at j)) 0 (count_at c s (kind_at_lem j) (place_at j)))

  zero_at : kind_at c (index_of s) 0 ≡ 0
  unfolding kind_at
  zero_at = ap (λ (e : ℕ). e % 32) (sym (entry_void c (index_of s) 0 refl))

  zero_none : followed_count c s (index_of s) 0 ≡ 0
  unfolding followed_count count_at count_for is_kind_among
  zero_none = ap (λ (k : ℕ). count_at c s k (place_of c (index_of s) 0)) zero_at

  to_ids : (x k : ℕ) → k < followed_count c s (index_of s) x → Memᴰ (followed_id c s (index_of s) x k) (followed_ids (type_of ts x))
  to_ids zero k l = absurd (omega (arith, l, zero_none))
  to_ids (suc i) k l = go (cases_lt i (length ts))
    where
      go : (i < length ts) ⊎ (length ts ≤ i) → Memᴰ (followed_id c s (index_of s) (suc i) k) (followed_ids (get_or ts i void_type))
      go (inr q) = absurd (omega (arith, l, followed_none c s (index_of s) (suc i) (omega (arith, counted, q))))
      go (inl q) =
          let z : 0 + k ≡ k = omega arith in
          subst (λ (ids : List ℕ). Memᴰ (followed_id c s (index_of s) (suc i) k) ids) (sym (ids_at i q))
          (subst (λ (j : ℕ). Memᴰ (followed_id c s (index_of s) (suc i) j) (tabulate (followed_id c s (index_of s) (suc i)) 0 (followed_count c s (index_of s) (suc i)))) z
          (tabulate_to (followed_id c s (index_of s) (suc i)) 0 (followed_count c s (index_of s) (suc i)) k l))

  from_ids : (x v : ℕ) → Memᴰ v (followed_ids (type_of ts x)) → (k : ℕ) × (k < followed_count c s (index_of s) x) × (followed_id c s (index_of s) x k ≡ v)
  from_ids zero v m = absurd (Memᴰ.not-nil m)
  from_ids (suc i) v m = go (cases_lt i (length ts))
    where
      go : (i < length ts) ⊎ (length ts ≤ i) → (k : ℕ) × (k < followed_count c s (index_of s) (suc i)) × (followed_id c s (index_of s) (suc i) k ≡ v)
      go (inr q) = absurd (Memᴰ.not-nil (subst (λ (t : Described). Memᴰ v (followed_ids t)) (get_or_past ts i void_type q) m))
      go (inl q) =
          let r = tabulate_from (followed_id c s (index_of s) (suc i)) 0 (followed_count c s (index_of s) (suc i)) v (subst (λ (ids : List ℕ). Memᴰ v ids) (ids_at i q) m) in
          let z : r.0 ≡ 0 + r.0 = omega arith in
          (r.0, r.1, ap (followed_id c s (index_of s) (suc i)) z ∙ r.2)

  -- the table that opening tests is that of the described types
  pub seen : SeenFrom (table_of p s) s (index_of s) (described_in s)
  seen = record { count = counted; zero_kind = zero_at; kind = λ i l. kind_at_lem i l ∙ kind_in_lem i l; third_word = third_at; to = to_ids; from = from_ids }
