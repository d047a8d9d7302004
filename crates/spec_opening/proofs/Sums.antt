-- The enumerators by the index are those of the section, and few enough to be numbered. Assumes nothing.
use Prim.Native.Nat.{ℕ, zero, suc, ◌+◌, ◌-◌, ◌*◌, ◌/◌, ◌%◌, ◌<◌, ◌≤◌}
use mathlib.Core.Path.{◌≡◌, refl, ap, ◌∙◌, sym}
use mathlib.Core.Bool.{Bool, true, false}
use mathlib.Core.List.{List}
use mathlib.Core.Logic.{⊎_elim}
use native.Mathlib.Omega.{arith}
use lib.ListN.{length, get_or}
use lib.Dec.{eqb}
use Rattle.std.proofs.lemmas.Bool.{cases_lt}
use Rattle.std.specs.Cmp.{first_so, second_so}
use Rattle.spec_bytes.specs.words.Words.{pick}
use Rattle.spec_type_table.specs.declared.types.TypeTable.{TypeTable}
use Rattle.spec_type_table.specs.Records.{section_word, vlen_of, kind_of}
use Rattle.spec_linux_btf.specs.Reading.{kind, extra}
use Rattle.spec_linux_btf.specs.Places.{kind_p, vlen_p, size_p, sound_p, named_p, passes_p, place_from}
use Rattle.spec_linux_btf.specs.Section.{is_big_endian, types_at, type_len_of, str_len_of, header_sound, types_sound}
use Rattle.spec_linux_btf.proofs.SectionFields.{from_next, area_inside}
use Rattle.btf_open_causes.specs.records.Pass.{enums_of, count_p, enums_p}
use Rattle.spec_opening.specs.Table.{types_of, enumerators_of, record_place, record_kind, index_of}
use Rattle.btf_open_names.specs.filled_work.Left.{is_enum, values_at, enums_to}
use Rattle.btf_open_causes.proofs.records.Pass.{enums_small, ends_in, count_in, count_end, enums_in, enums_end, passes_in}
use Rattle.spec_opening.proofs.Sections.{pass_decides, pass_count, pass_enums, place_is, kind_is}
use Rattle.spec_opening.proofs.Index.{index_place, index_kind}

-- the enumerators of the first n records from p on
unfoldable pub sum_to : (ℕ → ℕ) → ℕ → ℕ → ℕ
sum_to w p zero = 0
sum_to w p (suc n) = sum_to w p n + enums_of (w (place_from w p n + 4))

sum_front : (w : ℕ → ℕ) (p n : ℕ) → sum_to w p (suc n) ≡ enums_of (w (p + 4)) + sum_to w (p + size_p w p) n
unfolding sum_to place_from
sum_front w p zero = omega arith
sum_front w p (suc n) =
    let ih : sum_to w p (suc n) ≡ enums_of (w (p + 4)) + sum_to w (p + size_p w p) n = sum_front w p n in
    let q : enums_of (w (place_from w p (suc n) + 4)) ≡ enums_of (w (place_from w (p + size_p w p) n + 4)) = ap (λ (z : ℕ). enums_of (w (z + 4))) (sym (from_next w p n)) in
    regroup (sum_to w p (suc n)) (enums_of (w (p + 4))) (sum_to w (p + size_p w p) n) (enums_of (w (place_from w p (suc n) + 4))) (enums_of (w (place_from w (p + size_p w p) n + 4))) ih q
  where
    regroup : (a b c d e : ℕ) → a ≡ b + c → d ≡ e → a + d ≡ b + (c + e)
    regroup a b c d e f g = omega arith

sum_none : (w : ℕ → ℕ) (p : ℕ) → sum_to w p 0 ≡ 0
unfolding sum_to
sum_none w p = refl

pub enums_sum : (w : ℕ → ℕ) (n end p : ℕ) → enums_p w n end p ≡ sum_to w p (count_p w n end p)
unfolding count_p enums_p
enums_sum w zero end p = sym (sum_none w p)
enums_sum w (suc n) end p =
    ⊎_elim
    (λ l. enums_in w 0 end p n l
    ∙ ap (λ (z : ℕ). enums_of (w (p + 4)) + z) (enums_sum w n end (p + size_p w p))
    ∙ sym (sum_front w p (count_p w n end (p + size_p w p)))
    ∙ ap (sum_to w p) (sym (count_in w 0 end p n l)))
    (λ l. enums_end w 0 end p l (suc n) ∙ sym (ap (sum_to w p) (count_end w 0 end p l (suc n)) ∙ sum_none w p))
    (cases_lt p end)

-- an enumerator takes 8 bytes at least
size_enums : (w : ℕ → ℕ) (p : ℕ) → enums_of (w (p + 4)) * 8 + 12 ≤ size_p w p
unfolding size_p kind_p vlen_p
size_enums w p =
    let q : enums_of (w (p + 4)) * 8 ≤ extra (kind (kind_of (w (p + 4)))) (vlen_of (w (p + 4))) = enums_small (w (p + 4)) in
    omega arith

pub enums_bound : (w : ℕ → ℕ) (sl n end p : ℕ) → passes_p sl n w end p ≡ true → p ≤ end → enums_p w n end p * 8 + p ≤ end
unfolding enums_p
enums_bound w sl zero end p h l = omega arith
enums_bound w sl (suc n) end p h l =
    ⊎_elim
    (λ m.
    let both = sym (passes_in w sl end p n m) ∙ h in
    let ends : p + size_p w p ≤ end = ends_in w sl end p (first_so (sound_p w end p) _ both) in
    let ih : enums_p w n end (p + size_p w p) * 8 + (p + size_p w p) ≤ end =
    enums_bound w sl n end (p + size_p w p) (second_so (named_p sl w p) _ (second_so (sound_p w end p) _ both)) ends in
    omega (arith, enums_in w 0 end p n m, size_enums w p))
    (λ m. omega (arith, enums_end w 0 end p m (suc n)))
    (cases_lt p end)

-- what the index tells of a type's values is what its record does
values_same : (k v : ℕ) → (elim (is_enum k) as (λ z. ℕ) [ true ↦ v | false ↦ 0 ]) ≡ pick (eqb k 6) v (pick (eqb k 19) v 0)
unfolding is_enum
values_same k v = go (eqb k 6) (eqb k 19)
  where
    go : (t u : Bool) → (elim (elim t as (λ z. Bool) [ true ↦ true | false ↦ u ]) as (λ z. ℕ) [ true ↦ v | false ↦ 0 ]) ≡ pick t v (pick u v 0)
    go true u = refl
    go false true = refl
    go false false = refl

by_place : (b : TypeTable) (s : List ℕ) → b.big_endian ≡ is_big_endian s → (entry i : ℕ) → entry / 32 ≡ record_place s i → entry % 32 ≡ record_kind s i
    → values_at b s entry ≡ enums_of (section_word b s (place_from (section_word b s) (types_at s) i + 4))
unfolding values_at enums_of kind_p
by_place b s o entry i p k =
    values_same (entry % 32) (vlen_of (section_word b s (entry / 32 + 4)))
    ∙ (λ j. pick (eqb (kindly j) 6) (vlen_of (section_word b s (place j + 4))) (pick (eqb (kindly j) 19) (vlen_of (section_word b s (place j + 4))) 0))
  where
    place : entry / 32 ≡ place_from (section_word b s) (types_at s) i
    place = p ∙ sym (place_is b s o i)

    kindly : entry % 32 ≡ kind_p (section_word b s) (place_from (section_word b s) (types_at s) i)
    kindly = k ∙ sym (kind_is b s o i) ∙ ap (kind_p (section_word b s)) (sym (place_is b s o i))

module _ (b : TypeTable) (s : List ℕ) (o : b.big_endian ≡ is_big_endian s) (h : header_sound s ≡ true) (t : types_sound s ≡ true) where
  abbrev reads : ℕ → ℕ
  reads = section_word b s

  pub enumerators_few : enumerators_of s * 8 ≤ length s
  enumerators_few =
      omega (arith, pass_enums b s o h t, enums_bound reads (str_len_of s) 262144 (types_at s + type_len_of s) (types_at s) (pass_decides b s o h ∙ t) (omega arith), area_inside s h)

  module _ (few : types_of s ≤ 262145) where
    -- the values of a type by its entry of the index
    values_record : (i : ℕ) → suc i < types_of s → values_at b s (get_or (index_of s) (suc i) 0) ≡ enums_of (reads (place_from reads (types_at s) i + 4))
    values_record i l =
        let y : suc i - 1 ≡ i = omega arith in
        let p : get_or (index_of s) (suc i) 0 / 32 ≡ record_place s i = index_place s few (suc i) (omega arith) l ∙ ap (record_place s) y in
        let k : get_or (index_of s) (suc i) 0 % 32 ≡ record_kind s i = index_kind s few (suc i) (omega arith) l ∙ ap (record_kind s) y in
        by_place b s o (get_or (index_of s) (suc i) 0) i p k

    to_sum : (n : ℕ) → n < types_of s → enums_to b s (index_of s) n ≡ sum_to reads (types_at s) n
    unfolding enums_to sum_to
    to_sum zero l = refl
    to_sum (suc n) l = λ i. to_sum n (omega arith) i + values_record n l i

    pub enumerators_all : enums_to b s (index_of s) (types_of s - 1) ≡ enumerators_of s
    enumerators_all =
        let z : types_of s - 1 ≡ count_p reads 262144 (types_at s + type_len_of s) (types_at s) = omega (arith, pass_count b s o h t) in
        to_sum (types_of s - 1) (omega (arith, pass_count b s o h t))
        ∙ ap (sum_to reads (types_at s)) z
        ∙ sym (enums_sum reads 262144 (types_at s + type_len_of s) (types_at s))
        ∙ pass_enums b s o h t
