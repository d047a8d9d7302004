-- What code that reads the section by places is held to: its fields are those of the types that the documentation's encoder lays out. Assumes nothing.
use Prim.Native.Nat.{ℕ, zero, suc, zero-le, ◌+◌, ◌<◌, ◌≤◌, ◌^◌}
use mathlib.Core.Path.{◌≡◌, refl, ap, ◌∙◌, sym}
use mathlib.Core.Bool.{Bool, true, false, ◌&&◌, ◌||◌}
use mathlib.Core.List.{List, [], ◌∷◌, map}
use mathlib.Core.Logic.{⊎_elim}
use native.Mathlib.Omega.{arith}
use lib.ListN.{length, get_or, take, drop, length-drop, length-map}
use lib.Seq.{length-take-le}
use lib.Dec.{ltb, leb, eqb}
use borrow.Author.Tests.{leb-true, lt-ltb}
use Rattle.std.proofs.lemmas.Bool.{cases_lt}
use Rattle.std.specs.Cmp.{first_so, second_so}
use Rattle.std.proofs.lemmas.List.{get_or-map}
use Rattle.spec_bytes.specs.words.Words.{word_at, word_at_big, word_in, join_at, join_big, pick}
use Rattle.spec_linux_btf.specs.Documentation.{Every, Described}
use Rattle.spec_linux_btf.specs.Reading.{word, Bytes, size_at, sound, named, passes, places, type_at, decode_all, layout_sound}
use Rattle.spec_linux_btf.specs.Places.{size_p, type_p, place_from}
use Rattle.spec_linux_btf.specs.Section.{is_big_endian, little_endian, word_of, hdr_len_of, type_off_of, type_len_of, str_len_of, type_area, header_sound, types_sound, types_at, ReadAs}
use Rattle.spec_linux_btf.proofs.Words.{bytes_drop}
use Rattle.spec_linux_btf.proofs.Types.{Sound, sound_parts}
use Rattle.spec_linux_btf.proofs.Area.{none_passes, passes_in, places_none, places_in, places_out, Met, area_met, read_layout}
use Rattle.spec_linux_btf.proofs.ByPlaces.{Same, size_same, places_same, places_decode, size_places}
use Rattle.spec_linux_btf.proofs.PlacesFrom.{type_shift, place_shift}
use Rattle.spec_linux_btf.proofs.Section.{area_word_lem}

every_at : (P : ℕ → Type 0) (l : List ℕ) → Every P l → (i : ℕ) → i < length l → P (get_or l i 0)
every_at P [] e i h = absurd (omega arith)
every_at P (x ∷ l) e zero h = e.0
every_at P (x ∷ l) e (suc i) h = every_at P l e.1 i (omega arith)

-- the walk as a fold: the place of record i + 1 from the place of record i
pub from_next : (w : ℕ → ℕ) (p i : ℕ) → place_from w (p + size_p w p) i ≡ place_from w p (suc i)
unfolding place_from
from_next w p zero = refl
from_next w p (suc i) = ap (λ (q : ℕ). q + size_p w q) (from_next w p i)

place_step : (big : Bool) (n : ℕ) (b : List ℕ) (p i : ℕ) → ((j : ℕ) → j < length (places big n b (p + size_at big (drop p b))) → get_or (places big n b (p + size_at big (drop p b))) j 0 ≡ place_from (word big b) (p + size_at big (drop p b)) j)
    → p < length b → i < suc (length (places big n b (p + size_at big (drop p b)))) → get_or (places big (suc n) b p) i 0 ≡ place_from (word big b) p i
unfolding place_from
place_step big n b p zero rec l h = rw (places_in big 0 n b p l)
place_step big n b p (suc i) rec l h =
    let e : get_or (places big n b (p + size_at big (drop p b))) i 0 ≡ place_from (word big b) (p + size_at big (drop p b)) i = rec i (omega arith) in
    let f : get_or (places big n b (p + size_at big (drop p b))) i 0 ≡ place_from (word big b) (p + size_p (word big b) p) i = e ∙ ap (λ (z : ℕ). place_from (word big b) (p + z) i) (size_places big b p) in
    rw (places_in big 0 n b p l) (f ∙ from_next (word big b) p i)

pub place_at : (big : Bool) (n : ℕ) (b : List ℕ) (p i : ℕ) → i < length (places big n b p) → get_or (places big n b p) i 0 ≡ place_from (word big b) p i
place_at big zero b p i h = absurd (omega (arith, ap length (places_none big b p)))
place_at big (suc n) b p i h =
    ⊎_elim
    (λ l. place_step big n b p i (place_at big n b (p + size_at big (drop p b))) l (rw (places_in big 0 n b p l) at h))
    (λ l. absurd (omega (arith, ap length (places_out big 0 n b p l))))
    (cases_lt p (length b))

-- the place after the last record is the end
area_ends : (big : Bool) (sl n : ℕ) (b : List ℕ) (p : ℕ) → p ≤ length b → passes big sl n b p ≡ true → place_from (word big b) p (length (places big n b p)) ≡ length b
unfolding place_from
area_ends big sl zero b p q h =
    let l : length b ≤ p = none_passes big sl b p h in
    let e : p ≡ length b = omega arith in
    ap (λ (x : List ℕ). place_from (word big b) p (length x)) (places_none big b p) ∙ e
area_ends big sl (suc n) b p q h = ⊎_elim (λ l. more (area_ends big sl n b (p + size_at big (drop p b))) l) out (cases_lt p (length b))
  where
    out : length b ≤ p → place_from (word big b) p (length (places big (suc n) b p)) ≡ length b
    out l =
        let e : p ≡ length b = omega arith in
        ap (λ (x : List ℕ). place_from (word big b) p (length x)) (places_out big sl n b p l) ∙ e

    more : (p + size_at big (drop p b) ≤ length b → passes big sl n b (p + size_at big (drop p b)) ≡ true → place_from (word big b) (p + size_at big (drop p b)) (length (places big n b (p + size_at big (drop p b)))) ≡ length b)
        → p < length b → place_from (word big b) p (length (places big (suc n) b p)) ≡ length b
    more rec l =
        let both : (sound big (drop p b) && (named big sl (drop p b) && passes big sl n b (p + size_at big (drop p b)))) ≡ true = sym (passes_in big sl n b p l) ∙ h in
        let s : Sound big (drop p b) = sound_parts big (drop p b) (first_so (sound big (drop p b)) _ both) in
        let two = second_so (sound big (drop p b)) _ both in
        let e : p + size_at big (drop p b) ≤ length b = omega (arith, s.rest, length-drop p b) in
        let c : ℕ = length (places big n b (p + size_at big (drop p b))) in
        ap (λ (x : List ℕ). place_from (word big b) p (length x)) (places_in big sl n b p l)
        ∙ sym (from_next (word big b) p c)
        ∙ ap (λ (z : ℕ). place_from (word big b) (p + z) c) (sym (size_places big b p))
        ∙ rec e (second_so (named big sl (drop p b)) _ two)

-- the header's third test: the type area lies inside the section
pub area_inside : (s : List ℕ) → header_sound s ≡ true → hdr_len_of s + type_off_of s + type_len_of s ≤ length s
unfolding header_sound
area_inside s h =
    let h1 = second_so (leb 24 (length s)) _ h in
    let h2 = second_so (is_big_endian s || little_endian s) _ h1 in
    let h4 = second_so (eqb (get_or s 2 0) 1) _ h2 in
    let h5 = second_so (leb 24 (hdr_len_of s)) _ h4 in
    let h6 = second_so (leb (hdr_len_of s) (length s)) _ h5 in
    leb-true (hdr_len_of s + type_off_of s + type_len_of s) (length s) (first_so (leb (hdr_len_of s + type_off_of s + type_len_of s) (length s)) _ h6)

pub area_length : (s : List ℕ) → header_sound s ≡ true → length (type_area s) ≡ type_len_of s
unfolding type_area
area_length s h =
    let l : type_len_of s ≤ length (drop (hdr_len_of s + type_off_of s) s) = simp length-drop (omega (arith, area_inside s h)) in
    length-take-le (type_len_of s) (drop (hdr_len_of s + type_off_of s) s) l

bytes_take : (n : ℕ) (b : List ℕ) → Bytes b → Bytes (take n b)
bytes_take zero b y i = omega arith
bytes_take (suc n) [] y i = omega arith
bytes_take (suc n) (x ∷ b) y zero = y 0
bytes_take (suc n) (x ∷ b) y (suc i) = bytes_take n b (λ j. y (suc j)) i

pub area_bytes : (s : List ℕ) → Bytes s → Bytes (type_area s)
unfolding type_area
area_bytes s y = bytes_take (type_len_of s) (drop (hdr_len_of s + type_off_of s) s) (bytes_drop s (hdr_len_of s + type_off_of s) y)

-- a word that lies inside is the same by both readers of words
pub in_word : (big : Bool) (s : List ℕ) (p : ℕ) → p + 4 ≤ length s → word_in big s p ≡ word big s p
unfolding word_in word_at word_at_big word
in_word true s p h = rw (lt-ltb (p + 3) (length s) (omega arith))
in_word false s p h = rw (lt-ltb (p + 3) (length s) (omega arith))

-- a word of bytes is below 2 ^ 32
fits_or_none : (t : Bool) (n : ℕ) → n < 2 ^ 32 → pick t n 0 < 2 ^ 32
fits_or_none true n h = h
fits_or_none false n h = omega arith

word_fits : (big : Bool) (s : List ℕ) → Bytes s → (q : ℕ) → word_in big s q < 2 ^ 32
unfolding word_in word_at word_at_big
word_fits true s y q = fits_or_none (ltb (q + 3) (length s)) (join_big s q) (omega (arith, y q, y (q + 1), y (q + 2), y (q + 3)))
word_fits false s y q = fits_or_none (ltb (q + 3) (length s)) (join_at s q) (omega (arith, y q, y (q + 1), y (q + 2), y (q + 3)))

pub words_fit : (s : List ℕ) → Bytes s → (q : ℕ) → word_of s q < 2 ^ 32
unfolding word_of
words_fit s y q = word_fits (is_big_endian s) s y q

-- a word of the type section, its place counted from where the type section begins
unfoldable pub area_word : List ℕ → ℕ → ℕ
area_word s q = word_of s (types_at s + q)

pub area_words : (s : List ℕ) (q : ℕ) → header_sound s ≡ true → q + 4 ≤ type_len_of s → word (is_big_endian s) (type_area s) q ≡ area_word s q
unfolding area_word word_of
area_words s q h l = area_word_lem (is_big_endian s) s q l ∙ sym (in_word (is_big_endian s) s (hdr_len_of s + type_off_of s + q) (omega (arith, area_inside s h)))

---------------------------------------------------------------------------------------------------------------------------------------
-- Of a section with neither cause 3 nor cause 5: the types that are read in it

module _ (s : List ℕ) (y : Bytes s) (h : header_sound s ≡ true) (t : types_sound s ≡ true) where
  sound' : layout_sound (is_big_endian s) (str_len_of s) (type_area s) ≡ true
  unfolding types_sound
  sound' = t

  met : Every (Met (is_big_endian s) (type_area s)) (places (is_big_endian s) 262144 (type_area s) 0)
  unfolding layout_sound
  met = area_met (is_big_endian s) (str_len_of s) 262144 (type_area s) 0 zero-le sound'

  same : (p : ℕ) → Met (is_big_endian s) (type_area s) p → Same (word (is_big_endian s) (type_area s)) (area_word s) p (size_p (word (is_big_endian s) (type_area s)) p)
  same p m q a b =
      area_words s q h (omega (arith, m.lies, size_places (is_big_endian s) (type_area s) p, area_length s h))

  met_at : (i : ℕ) → i < length (places (is_big_endian s) 262144 (type_area s) 0) → Met (is_big_endian s) (type_area s) (place_from (word (is_big_endian s) (type_area s)) 0 i)
  met_at i l = rw (place_at (is_big_endian s) 262144 (type_area s) 0 i l) at (every_at (Met (is_big_endian s) (type_area s)) (places (is_big_endian s) 262144 (type_area s) 0) met i l)

  -- the same walk, in the section
  places_section : (i : ℕ) → i ≤ length (places (is_big_endian s) 262144 (type_area s) 0) → place_from (word (is_big_endian s) (type_area s)) 0 i ≡ place_from (area_word s) 0 i
  unfolding place_from
  places_section zero l = refl
  places_section (suc i) l =
      let ih : place_from (word (is_big_endian s) (type_area s)) 0 i ≡ place_from (area_word s) 0 i = places_section i (omega arith) in
      let z : size_p (word (is_big_endian s) (type_area s)) (place_from (word (is_big_endian s) (type_area s)) 0 i) ≡ size_p (area_word s) (place_from (word (is_big_endian s) (type_area s)) 0 i) = size_same (word (is_big_endian s) (type_area s)) (area_word s) (place_from (word (is_big_endian s) (type_area s)) 0 i) (same (place_from (word (is_big_endian s) (type_area s)) 0 i) (met_at i (omega arith))) in
      ap (λ (x : ℕ). place_from (word (is_big_endian s) (type_area s)) 0 i + x) z ∙ ap (λ (x : ℕ). x + size_p (area_word s) x) ih

  section_each : (i : ℕ) (d : Described) → i < length (decode_all (is_big_endian s) (type_area s)) → type_p (area_word s) (place_from (area_word s) 0 i) ≡ get_or (decode_all (is_big_endian s) (type_area s)) i d
  unfolding decode_all
  section_each i d l =
      let w : ℕ → ℕ = word (is_big_endian s) (type_area s) in
      let n : i < length (places (is_big_endian s) 262144 (type_area s) 0) = simp length-map at l in
      let p : ℕ = place_from w 0 i in
      let e : get_or (decode_all (is_big_endian s) (type_area s)) i d ≡ type_at (is_big_endian s) (type_area s) p = get_or-map (type_at (is_big_endian s) (type_area s)) (places (is_big_endian s) 262144 (type_area s) 0) i 0 d n ∙ ap (type_at (is_big_endian s) (type_area s)) (place_at (is_big_endian s) 262144 (type_area s) 0 i n) in
      let f : type_at (is_big_endian s) (type_area s) p ≡ type_p (area_word s) p = places_decode (is_big_endian s) (type_area s) p ∙ places_same w (area_word s) p (same p (met_at i n)) in
      sym (e ∙ f ∙ ap (type_p (area_word s)) (places_section i (omega arith)))

  -- and at the place in the section itself
  at_place : (i : ℕ) → type_p (area_word s) (place_from (area_word s) 0 i) ≡ type_p (word_of s) (place_from (word_of s) (types_at s) i)
  unfolding area_word
  at_place i =
      let z : types_at s + 0 ≡ types_at s = omega arith in
      type_shift (word_of s) (types_at s) (place_from (area_word s) 0 i)
      ∙ ap (type_p (word_of s)) (place_shift (word_of s) (types_at s) 0 i ∙ ap (λ (p : ℕ). place_from (word_of s) p i) z)

  absolute : (i : ℕ) → i ≤ length (places (is_big_endian s) 262144 (type_area s) 0) → types_at s + place_from (word (is_big_endian s) (type_area s)) 0 i ≡ place_from (word_of s) (types_at s) i
  unfolding area_word
  absolute i l =
      let z : types_at s + 0 ≡ types_at s = omega arith in
      ap (λ (x : ℕ). types_at s + x) (places_section i l) ∙ place_shift (word_of s) (types_at s) 0 i ∙ ap (λ (p : ℕ). place_from (word_of s) p i) z

  -- each record lies inside the type section, and the last one ends where it ends
  pub section_inside : (i : ℕ) → i < length (decode_all (is_big_endian s) (type_area s)) → place_from (word_of s) (types_at s) i + 12 ≤ types_at s + type_len_of s
  unfolding decode_all
  section_inside i l =
      let n : i < length (places (is_big_endian s) 262144 (type_area s) 0) = simp length-map at l in
      omega (arith, (met_at i n).lies, area_length s h, absolute i (omega arith))

  pub section_ends : place_from (word_of s) (types_at s) (length (decode_all (is_big_endian s) (type_area s))) ≡ types_at s + type_len_of s
  unfolding decode_all layout_sound
  section_ends =
      let c : ℕ = length (places (is_big_endian s) 262144 (type_area s) 0) in
      let m : length (map (type_at (is_big_endian s) (type_area s)) (places (is_big_endian s) 262144 (type_area s) 0)) ≡ c = length-map (places (is_big_endian s) 262144 (type_area s) 0) (type_at (is_big_endian s) (type_area s)) in
      ap (place_from (word_of s) (types_at s)) m ∙ sym (absolute c (omega arith))
      ∙ ap (λ (x : ℕ). types_at s + x) (area_ends (is_big_endian s) (str_len_of s) 262144 (type_area s) 0 zero-le sound' ∙ area_length s h)

  pub section_fields : ReadAs s (decode_all (is_big_endian s) (type_area s))
  section_fields =
      let r = read_layout (is_big_endian s) (str_len_of s) (type_area s) (area_bytes s y) sound' in
      record { laid = r.0; allowed = r.1; few = r.2; each = λ i d l. sym (at_place i) ∙ section_each i d l }
