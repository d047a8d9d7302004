-- What the pass finds is the section's, as `spec_linux_btf` reads it: its types, its enumerators, the index of its records, and cause 5.
-- Assumes nothing.
use Prim.Native.Nat.{ℕ, zero, suc, zero-le, ◌+◌, ◌*◌, ◌/◌, ◌%◌, ◌<◌, ◌≤◌}
use mathlib.Core.Path.{◌≡◌, refl, ap, ◌∙◌, sym}
use mathlib.Core.Bool.{Bool, true, false}
use mathlib.Core.List.{List, map}
use mathlib.Core.Logic.{⊎_elim}
use native.Mathlib.Omega.{arith}
use native.Mathlib.Decide.{ℕ_discrete}
use lib.ListN.{length, drop, set, length-map}
use lib.Dec.{ltb, leb, eqb}
use borrow.Author.Tests.{lt-ltb, le-ltb, ne_eqb, leb-true}
use Rattle.std.proofs.lemmas.Bool.{cases_lt}
use Rattle.std.specs.Cmp.{first_so, second_so}
use Rattle.spec_bytes.specs.words.Words.{pick}
use Rattle.spec_type_table.specs.declared.types.TypeTable.{TypeTable}
use Rattle.spec_type_table.specs.Records.{section_word}
use Rattle.spec_type_table.proofs.Documented.{words_same}
use Rattle.spec_linux_btf.specs.Reading.{word, Kind, kind, extra, size_at, get_body, get_each, get_enumerator, get_enumerator64, decode, type_at, places, decode_all}
use Rattle.spec_linux_btf.specs.Places.{kind_p, vlen_p, size_p, sound_p, named_p, passes_p, place_from}
use Rattle.spec_linux_btf.specs.Section.{is_big_endian, word_of, types_at, type_len_of, str_len_of, type_area, header_sound, types_sound}
use Rattle.spec_linux_btf.proofs.Words.{word_drop}
use Rattle.spec_linux_btf.proofs.Area.{places_in, places_out, places_none}
use Rattle.spec_linux_btf.proofs.ByPlaces.{size_places}
use Rattle.spec_linux_btf.proofs.PlacesFrom.{size_shift, passes_shift}
use Rattle.spec_linux_btf.proofs.SectionFields.{area_word, area_words, area_length}
use Rattle.spec_linux_btf.proofs.SectionTests.{types_places}
use Rattle.btf_open_causes.specs.records.Pass.{enums_of, count_p, enums_p, index_p}
use Rattle.spec_opening.specs.Table.{types_of, values_in, enumerators_in, all_enumerators, enumerators_of, record_place, record_kind, empty_index, index_for}
use Rattle.btf_open_causes.proofs.records.Pass.{steady, kind_past, count_in, count_end, enums_in, enums_end, passes_in}

module _ where
  ltb_same : (a b c d : ℕ) → (a < b → c < d) → (c < d → a < b) → ltb a b ≡ ltb c d
  ltb_same a b c d f g = ⊎_elim (λ l. lt-ltb a b l ∙ sym (lt-ltb c d (f l))) (λ l. le-ltb a b l ∙ sym (le-ltb c d (no' l))) (cases_lt a b)
    where
      no' : b ≤ a → d ≤ c
      no' l = ⊎_elim (λ m. absurd (omega (arith, g m))) (λ m. m) (cases_lt c d)

-- ---- places counted from the area's start, and from the section's
module _ (u : ℕ → ℕ) (f : ℕ) where
  abbrev from_f : ℕ → ℕ
  from_f q = u (f + q)

  info_shift : (p : ℕ) → from_f (p + 4) ≡ u (f + p + 4)
  info_shift p = let e : f + (p + 4) ≡ f + p + 4 = omega arith in ap u e

  next_shift : (p : ℕ) → f + (p + size_p from_f p) ≡ f + p + size_p u (f + p)
  next_shift p = omega (arith, size_shift u f p)

  test_shift : (len p : ℕ) → ltb p len ≡ ltb (f + p) (f + len)
  test_shift len p = ltb_same p len (f + p) (f + len) (λ h. omega arith) (λ h. omega arith)

  pub count_shift : (n len p : ℕ) → count_p from_f n len p ≡ count_p u n (f + len) (f + p)
  unfolding count_p
  count_shift zero len p = refl
  count_shift (suc n) len p =
      let r : count_p from_f n len (p + size_p from_f p) ≡ count_p u n (f + len) (f + p + size_p u (f + p)) =
      count_shift n len (p + size_p from_f p) ∙ ap (count_p u n (f + len)) (next_shift p) in
      λ i. elim (test_shift len p i) [ true ↦ suc (r i) | false ↦ 0 ]

  pub enums_shift : (n len p : ℕ) → enums_p from_f n len p ≡ enums_p u n (f + len) (f + p)
  unfolding enums_p
  enums_shift zero len p = refl
  enums_shift (suc n) len p =
      let r : enums_p from_f n len (p + size_p from_f p) ≡ enums_p u n (f + len) (f + p + size_p u (f + p)) =
      enums_shift n len (p + size_p from_f p) ∙ ap (enums_p u n (f + len)) (next_shift p) in
      λ i. elim (test_shift len p i) [ true ↦ enums_of (info_shift p i) + r i | false ↦ 0 ]

-- ---- the same of the area's bytes: how many records, how many enumerators
count_places : (big : Bool) (n : ℕ) (b : List ℕ) (p : ℕ) → length (places big n b p) ≡ count_p (word big b) n (length b) p
unfolding count_p
count_places big zero b p = ap length (places_none big b p)
count_places big (suc n) b p =
    ⊎_elim
    (λ l. ap length (places_in big 0 n b p l)
    ∙ ap suc (count_places big n b (p + size_at big (drop p b)) ∙ ap (λ (z : ℕ). count_p (word big b) n (length b) (p + z)) (size_places big b p))
    ∙ sym (count_in (word big b) 0 (length b) p n l))
    (λ l. ap length (places_out big 0 n b p l) ∙ sym (count_end (word big b) 0 (length b) p l (suc n)))
    (cases_lt p (length b))

each_long : {E : Type 0} (get : List ℕ → E) (size n : ℕ) (r : List ℕ) → length (get_each get size n r) ≡ n
each_long get size zero r = refl
each_long get size (suc n) r = ap suc (each_long get size n (drop size r))

values_body : (big : Bool) (f v : ℕ) (e : List ℕ) (k : ℕ) → values_in (get_body big (kind k) f v e) ≡ pick (eqb k 6) v (pick (eqb k 19) v 0)
unfolding kind
values_body big f v e k =
    elim (ℕ_discrete k 6) [
      | yes a ↦ rw a (each_long (get_enumerator big) 8 v e)
      | no a ↦ elim (ℕ_discrete k 19) [
        | yes b ↦ rw b (each_long (get_enumerator64 big) 12 v e)
        | no b ↦ rw (ne_eqb k 6 a, ne_eqb k 19 b) (others a b)
      ]
    ]
  where
    g : ℕ → ℕ
    g j = values_in (get_body big (kind j) f v e)

    others : (k ≡ 6 → ⊥) → (k ≡ 19 → ⊥) → g k ≡ 0
    others a b =
        ⊎_elim
        (λ l. ⊎_elim
        (λ m. steady g 0 0 6 k (refl, (refl, (refl, (refl, (refl, (refl, tt)))))) zero-le (under a m))
        (λ m. steady g 0 7 12 k (refl, (refl, (refl, (refl, (refl, (refl, (refl, (refl, (refl, (refl, (refl, (refl, tt)))))))))))) m (below b l))
        (cases_lt k 7))
        (λ l. ap (λ (q : Kind). values_in (get_body big q f v e)) (kind_past k l))
        (cases_lt k 20)
      where
        below : (k ≡ 19 → ⊥) → k < 20 → k < 19
        below b l = omega (arith, b)

        under : (k ≡ 6 → ⊥) → k < 7 → k < 6
        under a l = omega (arith, a)

values_decode : (big : Bool) (r : List ℕ) → enumerators_in (decode big r) ≡ enums_of (word big r 4)
unfolding decode enums_of
values_decode big r = values_body big (word big r 4 / 2147483648) (word big r 4 % 65536) (drop 12 r) (word big r 4 / 16777216 % 32)

enums_places : (big : Bool) (n : ℕ) (b : List ℕ) (p : ℕ) → all_enumerators (map (type_at big b) (places big n b p)) ≡ enums_p (word big b) n (length b) p
unfolding enums_p
enums_places big zero b p = ap (λ (l : List ℕ). all_enumerators (map (type_at big b) l)) (places_none big b p)
enums_places big (suc n) b p =
    ⊎_elim
    (λ l. ap (λ (q : List ℕ). all_enumerators (map (type_at big b) q)) (places_in big 0 n b p l)
    ∙ (λ i. (values_decode big (drop p b) ∙ ap enums_of (word_drop big b p 4)) i
    + (enums_places big n b (p + size_at big (drop p b)) ∙ ap (λ (z : ℕ). enums_p (word big b) n (length b) (p + z)) (size_places big b p)) i)
    ∙ sym (enums_in (word big b) 0 (length b) p n l))
    (λ l. ap (λ (q : List ℕ). all_enumerators (map (type_at big b) q)) (places_out big 0 n b p l) ∙ sym (enums_end (word big b) 0 (length b) p l (suc n)))
    (cases_lt p (length b))

-- ---- where the records are sound, only words inside the area count
module _ (w u : ℕ → ℕ) (len : ℕ) (same : (q : ℕ) → q + 4 ≤ len → w q ≡ u q) (sl : ℕ) where
  size_one : (p : ℕ) → p + 12 ≤ len → size_p w p ≡ size_p u p
  unfolding size_p kind_p vlen_p
  size_one p l = ap (λ (y : ℕ). 12 + extra (kind (y / 16777216 % 32)) (y % 65536)) (same (p + 4) (omega arith))

  module _ (n p : ℕ) (l : p < len) (h : passes_p sl (suc n) w len p ≡ true) where
    is_sound_lem : sound_p w len p ≡ true
    is_sound_lem = first_so (sound_p w len p) _ (sym (passes_in w sl len p n l) ∙ h)

    rest_passes : passes_p sl n w len (p + size_p w p) ≡ true
    rest_passes = second_so (named_p sl w p) _ (second_so (sound_p w len p) _ (sym (passes_in w sl len p n l) ∙ h))

    twelve : p + 12 ≤ len
    unfolding sound_p
    twelve = leb-true (p + 12) len (first_so (leb (p + 12) len) _ is_sound_lem)

  pub count_same : (n p : ℕ) → passes_p sl n w len p ≡ true → count_p w n len p ≡ count_p u n len p
  unfolding count_p
  count_same zero p h = refl
  count_same (suc n) p h =
      ⊎_elim
      (λ l. count_in w 0 len p n l
      ∙ ap suc (count_same n (p + size_p w p) (rest_passes n p l h) ∙ ap (λ (z : ℕ). count_p u n len (p + z)) (size_one p (twelve n p l h)))
      ∙ sym (count_in u 0 len p n l))
      (λ l. count_end w 0 len p l (suc n) ∙ sym (count_end u 0 len p l (suc n)))
      (cases_lt p len)

  info_one : (p : ℕ) → p + 12 ≤ len → w (p + 4) ≡ u (p + 4)
  info_one p l = same (p + 4) (omega arith)

  pub enums_same : (n p : ℕ) → passes_p sl n w len p ≡ true → enums_p w n len p ≡ enums_p u n len p
  unfolding enums_p
  enums_same zero p h = refl
  enums_same (suc n) p h =
      ⊎_elim
      (λ l. enums_in w 0 len p n l
      ∙ (λ i. enums_of (info_one p (twelve n p l h) i)
      + (enums_same n (p + size_p w p) (rest_passes n p l h) ∙ ap (λ (z : ℕ). enums_p u n len (p + z)) (size_one p (twelve n p l h))) i)
      ∙ sym (enums_in u 0 len p n l))
      (λ l. enums_end w 0 len p l (suc n) ∙ sym (enums_end u 0 len p l (suc n)))
      (cases_lt p len)

-- ---- THE THEOREMS: what the code reads in the section, by places, is what the documentation reads
module _ (b : TypeTable) (s : List ℕ) (o : b.big_endian ≡ is_big_endian s) where
  reads_is : section_word b s ≡ word_of s
  reads_is = words_same b s o

  from_base : types_at s + 0 ≡ types_at s
  from_base = omega arith

  pub pass_decides : header_sound s ≡ true → passes_p (str_len_of s) 262144 (section_word b s) (types_at s + type_len_of s) (types_at s) ≡ types_sound s
  pass_decides h = ap (λ (w : ℕ → ℕ). passes_p (str_len_of s) 262144 w (types_at s + type_len_of s) (types_at s)) reads_is ∙ sym (types_places s h)

  module _ (h : header_sound s ≡ true) (t : types_sound s ≡ true) where
    abbrev area : ℕ → ℕ
    area q = word_of s (types_at s + q)

    area_passes : passes_p (str_len_of s) 262144 area (type_len_of s) 0 ≡ true
    area_passes =
        passes_shift (word_of s) (types_at s) (str_len_of s) 262144 (type_len_of s) 0
        ∙ ap (passes_p (str_len_of s) 262144 (word_of s) (types_at s + type_len_of s)) from_base
        ∙ sym (types_places s h)
        ∙ t

    same_words : (q : ℕ) → q + 4 ≤ type_len_of s → area q ≡ word (is_big_endian s) (type_area s) q
    unfolding area_word
    same_words q l = sym (area_words s q h l)

    pub pass_count : suc (count_p (section_word b s) 262144 (types_at s + type_len_of s) (types_at s)) ≡ types_of s
    unfolding types_of decode_all
    pass_count =
        ap suc
        (ap (λ (w : ℕ → ℕ). count_p w 262144 (types_at s + type_len_of s) (types_at s)) reads_is
        ∙ ap (count_p (word_of s) 262144 (types_at s + type_len_of s)) (sym from_base)
        ∙ sym (count_shift (word_of s) (types_at s) 262144 (type_len_of s) 0)
        ∙ count_same area (word (is_big_endian s) (type_area s)) (type_len_of s) same_words (str_len_of s) 262144 0 area_passes
        ∙ ap (λ (n : ℕ). count_p (word (is_big_endian s) (type_area s)) 262144 n 0) (sym (area_length s h))
        ∙ sym (count_places (is_big_endian s) 262144 (type_area s) 0)
        ∙ sym (length-map (places (is_big_endian s) 262144 (type_area s) 0) (type_at (is_big_endian s) (type_area s))))

    pub pass_enums : enums_p (section_word b s) 262144 (types_at s + type_len_of s) (types_at s) ≡ enumerators_of s
    unfolding enumerators_of decode_all
    pass_enums =
        ap (λ (w : ℕ → ℕ). enums_p w 262144 (types_at s + type_len_of s) (types_at s)) reads_is
        ∙ ap (enums_p (word_of s) 262144 (types_at s + type_len_of s)) (sym from_base)
        ∙ sym (enums_shift (word_of s) (types_at s) 262144 (type_len_of s) 0)
        ∙ enums_same area (word (is_big_endian s) (type_area s)) (type_len_of s) same_words (str_len_of s) 262144 0 area_passes
        ∙ ap (λ (n : ℕ). enums_p (word (is_big_endian s) (type_area s)) 262144 n 0) (sym (area_length s h))
        ∙ sym (enums_places (is_big_endian s) 262144 (type_area s) 0)

  pub place_is : (n : ℕ) → place_from (section_word b s) (types_at s) n ≡ record_place s n
  unfolding record_place
  place_is n = ap (λ (w : ℕ → ℕ). place_from w (types_at s) n) reads_is

  pub kind_is : (n : ℕ) → kind_p (section_word b s) (record_place s n) ≡ record_kind s n
  unfolding record_kind
  kind_is n = ap (λ (w : ℕ → ℕ). kind_p w (record_place s n)) reads_is

  pub pass_index : (n : ℕ) → index_p (section_word b s) (types_at s) empty_index n ≡ index_for s n
  unfolding index_p index_for
  pass_index zero = refl
  pass_index (suc n) =
      let e : kind_p (section_word b s) (place_from (section_word b s) (types_at s) n) ≡ record_kind s n = ap (kind_p (section_word b s)) (place_is n) ∙ kind_is n in
      λ i. set (pass_index n i) (suc n) (place_is n i * 32 + e i)
