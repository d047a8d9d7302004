-- The tests of cause 5 by places, in the section, are the tests of the type area. Assumes nothing.
use Prim.Native.Nat.{ℕ, zero, suc, ◌+◌, ◌-◌, ◌*◌, ◌/◌, ◌%◌, ◌<◌, ◌≤◌}
use mathlib.Core.Path.{◌≡◌, refl, ap, ◌∙◌, sym}
use mathlib.Core.Bool.{Bool, true, false, ◌&&◌}
use mathlib.Core.List.{List}
use mathlib.Core.Logic.{⊎_elim}
use native.Mathlib.Omega.{arith}
use native.Mathlib.Nat.{suc-mul}
use lib.ListN.{length, drop, length-drop}
use lib.Seq.{drop-drop}
use lib.Dec.{ltb, leb, eqb}
use borrow.Author.Tests.{lt-ltb, le-ltb, lt-leb, leb-true}
use Rattle.std.proofs.lemmas.Bool.{cases_lt}
use Rattle.std.specs.Cmp.{first_so, second_so}
use Rattle.spec_linux_btf.specs.Reading.{word, Bytes, decode_all, Kind, none, INT, PTR, ARRAY, STRUCT, UNION, ENUM, FWD, TYPEDEF, VOLATILE, CONST, RESTRICT, FUNC, FUNC-PROTO, VAR, DATASEC, FLOAT, DECL-TAG, TYPE-TAG, ENUM64, kind, shape, known, extra, kind_at, vlen_at, size_at, sound, all_named, entries_named, named, passes, layout_sound}
use Rattle.spec_linux_btf.specs.Places.{kind_p, vlen_p, size_p, place_from, sound_p, all_named_p, entries_named_p, named_p, passes_p}
use Rattle.spec_linux_btf.specs.Section.{is_big_endian, word_of, str_len_of, type_len_of, types_at, type_area, header_sound, types_sound}
use Rattle.spec_linux_btf.proofs.Words.{word_drop}
use Rattle.spec_linux_btf.proofs.Area.{leb_same, passes_in, passes_out}
use Rattle.spec_linux_btf.proofs.ByPlaces.{first, size_places}
use Rattle.spec_linux_btf.proofs.PlacesFrom.{passes_shift}
use Rattle.spec_linux_btf.proofs.SectionFields.{from_next, section_inside, area_word, area_words, area_length}

and_same : (a : Bool) {b c : Bool} → (a ≡ true → b ≡ c) → (a && b) ≡ (a && c)
and_same true f = f refl
and_same false f = refl

sound_places : (big : Bool) (b : List ℕ) (p : ℕ) → sound big (drop p b) ≡ sound_p (word big b) (length b) p
unfolding sound sound_p kind_p
sound_places big b p =
    let l : length (drop p b) ≡ length b - p = length-drop p b in
    let e1 : leb 12 (length (drop p b)) ≡ leb (p + 12) (length b) = leb_same 12 (length (drop p b)) (p + 12) (length b) (λ h. omega arith) (λ h. omega arith) in
    let z : size_at big (drop p b) ≡ size_p (word big b) p = size_places big b p in
    let e2 : leb (size_at big (drop p b)) (length (drop p b)) ≡ leb (p + size_p (word big b) p) (length b) = leb_same (size_at big (drop p b)) (length (drop p b)) (p + size_p (word big b) p) (length b) (λ h. omega arith) (λ h. omega arith) in
    let w = word_drop big b p 4 in
    λ i. e1 i && (known (shape (kind (w i / 16777216 % 32))) && (eqb (w i / 65536 % 256) 0 && (eqb (w i / 536870912 % 4) 0 && e2 i)))

all_places : (big : Bool) (sl size : ℕ) (b : List ℕ) (q n : ℕ) → all_named big sl size n (drop q b) ≡ all_named_p sl size (word big b) q n
all_places big sl size b q zero = refl
all_places big sl size b q (suc n) =
    let r : all_named big sl size n (drop size (drop q b)) ≡ all_named_p sl size (word big b) (q + size) n = rw (drop-drop size q b) (all_places big sl size b (q + size) n) in
    λ i. ltb (first big b q i) sl && r i

entries_places : (big : Bool) (sl : ℕ) (k : Kind) (v : ℕ) (b : List ℕ) (q : ℕ) → entries_named big sl k v (drop q b) ≡ entries_named_p sl k v (word big b) q
entries_places big sl none v b q = refl
entries_places big sl INT v b q = refl
entries_places big sl PTR v b q = refl
entries_places big sl ARRAY v b q = refl
entries_places big sl STRUCT v b q = all_places big sl 12 b q v
entries_places big sl UNION v b q = all_places big sl 12 b q v
entries_places big sl ENUM v b q = all_places big sl 8 b q v
entries_places big sl FWD v b q = refl
entries_places big sl TYPEDEF v b q = refl
entries_places big sl VOLATILE v b q = refl
entries_places big sl CONST v b q = refl
entries_places big sl RESTRICT v b q = refl
entries_places big sl FUNC v b q = refl
entries_places big sl FUNC-PROTO v b q = all_places big sl 8 b q v
entries_places big sl VAR v b q = refl
entries_places big sl DATASEC v b q = refl
entries_places big sl FLOAT v b q = refl
entries_places big sl DECL-TAG v b q = refl
entries_places big sl TYPE-TAG v b q = refl
entries_places big sl ENUM64 v b q = all_places big sl 12 b q v

named_places : (big : Bool) (sl : ℕ) (b : List ℕ) (p : ℕ) → named big sl (drop p b) ≡ named_p sl (word big b) p
unfolding named named_p kind_p vlen_p
named_places big sl b p =
    let r : entries_named big sl (kind (kind_at big (drop p b))) (vlen_at big (drop p b)) (drop 12 (drop p b)) ≡ entries_named_p sl (kind (word big b (p + 4) / 16777216 % 32)) (word big b (p + 4) % 65536) (word big b) (p + 12) = rw (drop-drop 12 p b, word_drop big b p 4) (entries_places big sl (kind (word big b (p + 4) / 16777216 % 32)) (word big b (p + 4) % 65536) b (p + 12)) in
    λ i. ltb (first big b p i) sl && r i

module _ (sl n : ℕ) (w : ℕ → ℕ) (len p : ℕ) where
  pub in-P : p < len → passes_p sl (suc n) w len p ≡ (sound_p w len p && (named_p sl w p && passes_p sl n w len (p + size_p w p)))
  unfolding passes_p
  in-P h = rw (lt-ltb p len h, passes_p)

  pub out-P : len ≤ p → passes_p sl (suc n) w len p ≡ true
  unfolding passes_p
  out-P h = rw (le-ltb p len h, passes_p)

place_grows : (w : ℕ → ℕ) (p i : ℕ) → p ≤ place_from w p i
unfolding place_from
place_grows w p zero = omega arith
place_grows w p (suc i) = omega (arith, place_grows w p i)

-- where the tests pass, they pass at each record
pub record_sound : (sl n : ℕ) (w : ℕ → ℕ) (len p : ℕ) → passes_p sl n w len p ≡ true → (i : ℕ) → place_from w p i < len
    → (sound_p w len (place_from w p i) ≡ true) × (named_p sl w (place_from w p i) ≡ true)
unfolding passes_p place_from
record_sound sl zero w len p h i l = absurd (omega (arith, leb-true len p h, place_grows w p i))
record_sound sl (suc n) w len p h zero l =
    let b = sym (in-P sl n w len p l) ∙ h in
    (first_so (sound_p w len p) _ b, first_so (named_p sl w p) _ (second_so (sound_p w len p) _ b))
record_sound sl (suc n) w len p h (suc i) l =
    let g : p ≤ place_from w p i = place_grows w p i in
    let b = sym (in-P sl n w len p (omega arith)) ∙ h in
    let c = second_so (named_p sl w p) _ (second_so (sound_p w len p) _ b) in
    let e : place_from w (p + size_p w p) i ≡ place_from w p (suc i) = from_next w p i in
    let d = record_sound sl n w len (p + size_p w p) c i (rw e l) in
    (ap (sound_p w len) (sym e) ∙ d.0, ap (named_p sl w) (sym e) ∙ d.1)

passes_places : (big : Bool) (sl n : ℕ) (b : List ℕ) (p : ℕ) → passes big sl n b p ≡ passes_p sl n (word big b) (length b) p
unfolding passes passes_p
passes_places big sl zero b p = refl
passes_places big sl (suc n) b p =
    ⊎_elim
    (λ l. passes_in big sl n b p l ∙ step (passes_places big sl n b (p + size_at big (drop p b)) ∙ ap (λ (z : ℕ). passes_p sl n (word big b) (length b) (p + z)) (size_places big b p)) ∙ sym (in-P sl n (word big b) (length b) p l))
    (λ l. passes_out big sl n b p l ∙ sym (out-P sl n (word big b) (length b) p l))
    (cases_lt p (length b))
  where
    step : passes big sl n b (p + size_at big (drop p b)) ≡ passes_p sl n (word big b) (length b) (p + size_p (word big b) p)
        → (sound big (drop p b) && (named big sl (drop p b) && passes big sl n b (p + size_at big (drop p b)))) ≡ (sound_p (word big b) (length b) p && (named_p sl (word big b) p && passes_p sl n (word big b) (length b) (p + size_p (word big b) p)))
    step r = λ i. sound_places big b p i && (named_places big sl b p i && r i)

-- only the words inside the area count
module _ (w u : ℕ → ℕ) (len : ℕ) (same : (q : ℕ) → q + 4 ≤ len → w q ≡ u q) where
  all_same : (sl size : ℕ) → 4 ≤ size → (q n : ℕ) → q + n * size ≤ len → all_named_p sl size w q n ≡ all_named_p sl size u q n
  all_same sl size f q zero l = refl
  all_same sl size f q (suc n) l =
      let m : suc n * size ≡ n * size + size = suc-mul n size in
      let a : w q ≡ u q = same q (omega arith) in
      let r : all_named_p sl size w (q + size) n ≡ all_named_p sl size u (q + size) n = all_same sl size f (q + size) n (omega arith) in
      λ i. ltb (a i) sl && r i

  entries_same : (sl : ℕ) (k : Kind) (v q : ℕ) → q + extra k v ≤ len → entries_named_p sl k v w q ≡ entries_named_p sl k v u q
  entries_same sl none v q l = refl
  entries_same sl INT v q l = refl
  entries_same sl PTR v q l = refl
  entries_same sl ARRAY v q l = refl
  entries_same sl STRUCT v q l = all_same sl 12 (omega arith) q v l
  entries_same sl UNION v q l = all_same sl 12 (omega arith) q v l
  entries_same sl ENUM v q l = all_same sl 8 (omega arith) q v l
  entries_same sl FWD v q l = refl
  entries_same sl TYPEDEF v q l = refl
  entries_same sl VOLATILE v q l = refl
  entries_same sl CONST v q l = refl
  entries_same sl RESTRICT v q l = refl
  entries_same sl FUNC v q l = refl
  entries_same sl FUNC-PROTO v q l = all_same sl 8 (omega arith) q v l
  entries_same sl VAR v q l = refl
  entries_same sl DATASEC v q l = refl
  entries_same sl FLOAT v q l = refl
  entries_same sl DECL-TAG v q l = refl
  entries_same sl TYPE-TAG v q l = refl
  entries_same sl ENUM64 v q l = all_same sl 12 (omega arith) q v l

  sound_same : (p : ℕ) → p + 12 ≤ len → sound_p w len p ≡ sound_p u len p
  unfolding sound_p size_p kind_p vlen_p
  sound_same p l =
      ap (λ (y : ℕ). leb (p + 12) len && (known (shape (kind (y / 16777216 % 32))) && (eqb (y / 65536 % 256) 0 && (eqb (y / 536870912 % 4) 0 && leb (p + (12 + extra (kind (y / 16777216 % 32)) (y % 65536))) len)))) (same (p + 4) (omega arith))

  sound_short : (x : ℕ → ℕ) (p : ℕ) → len < p + 12 → sound_p x len p ≡ false
  unfolding sound_p
  sound_short x p l = rw (lt-leb (p + 12) len l)

  sound_ends : (p : ℕ) → sound_p w len p ≡ true → p + size_p w p ≤ len
  unfolding sound_p
  sound_ends p h =
      let h1 = second_so (leb (p + 12) len) _ h in
      let h2 = second_so (known (shape (kind (kind_p w p)))) _ h1 in
      let h3 = second_so (eqb (w (p + 4) / 65536 % 256) 0) _ h2 in
      let h4 = second_so (eqb (w (p + 4) / 536870912 % 4) 0) _ h3 in
      leb-true (p + size_p w p) len h4

  size_same' : (p : ℕ) → p + 12 ≤ len → size_p w p ≡ size_p u p
  unfolding size_p kind_p vlen_p
  size_same' p l = ap (λ (y : ℕ). 12 + extra (kind (y / 16777216 % 32)) (y % 65536)) (same (p + 4) (omega arith))

  named_same : (sl p : ℕ) → p + size_p w p ≤ len → named_p sl w p ≡ named_p sl u p
  unfolding named_p size_p kind_p vlen_p
  named_same sl p l =
      let a : w p ≡ u p = same p (omega arith) in
      let b : w (p + 4) ≡ u (p + 4) = same (p + 4) (omega arith) in
      let r : entries_named_p sl (kind (w (p + 4) / 16777216 % 32)) (w (p + 4) % 65536) w (p + 12) ≡ entries_named_p sl (kind (w (p + 4) / 16777216 % 32)) (w (p + 4) % 65536) u (p + 12) = entries_same sl (kind (w (p + 4) / 16777216 % 32)) (w (p + 4) % 65536) (p + 12) (omega arith) in
      (λ i. ltb (a i) sl && r i) ∙ ap (λ (y : ℕ). ltb (u p) sl && entries_named_p sl (kind (y / 16777216 % 32)) (y % 65536) u (p + 12)) b

  passes_same : (sl n p : ℕ) → passes_p sl n w len p ≡ passes_p sl n u len p
  unfolding passes_p
  passes_same sl zero p = refl
  passes_same sl (suc n) p =
      ⊎_elim
      (λ l. in-P sl n w len p l ∙ ⊎_elim short (long (passes_same sl n (p + size_p w p))) (cases_lt len (p + 12)) ∙ sym (in-P sl n u len p l))
      (λ l. out-P sl n w len p l ∙ sym (out-P sl n u len p l))
      (cases_lt p len)
    where
      short : len < p + 12 → (sound_p w len p && (named_p sl w p && passes_p sl n w len (p + size_p w p))) ≡ (sound_p u len p && (named_p sl u p && passes_p sl n u len (p + size_p u p)))
      short l = rw (sound_short w p l, sound_short u p l)

      long : passes_p sl n w len (p + size_p w p) ≡ passes_p sl n u len (p + size_p w p) → p + 12 ≤ len
          → (sound_p w len p && (named_p sl w p && passes_p sl n w len (p + size_p w p))) ≡ (sound_p u len p && (named_p sl u p && passes_p sl n u len (p + size_p u p)))
      long ih l =
          let r : passes_p sl n w len (p + size_p w p) ≡ passes_p sl n u len (p + size_p u p) = ih ∙ ap (λ (z : ℕ). passes_p sl n u len (p + z)) (size_same' p l) in
          and_same (sound_p w len p) (λ h. λ i. named_same sl p (sound_ends p h) i && r i)
          ∙ ap (λ (t : Bool). t && (named_p sl u p && passes_p sl n u len (p + size_p u p))) (sound_same p l)

-- cause 5 is decided by the words of the section, at their places in it
pub types_places : (s : List ℕ) → header_sound s ≡ true → types_sound s ≡ passes_p (str_len_of s) 262144 (word_of s) (types_at s + type_len_of s) (types_at s)
unfolding types_sound layout_sound area_word
types_places s h =
    let z : types_at s + 0 ≡ types_at s = omega arith in
    passes_places (is_big_endian s) (str_len_of s) 262144 (type_area s) 0
    ∙ ap (λ (n : ℕ). passes_p (str_len_of s) 262144 (word (is_big_endian s) (type_area s)) n 0) (area_length s h)
    ∙ passes_same (word (is_big_endian s) (type_area s)) (area_word s) (type_len_of s) (λ q l. area_words s q h l) (str_len_of s) 262144 0
    ∙ passes_shift (word_of s) (types_at s) (str_len_of s) 262144 (type_len_of s) 0
    ∙ ap (passes_p (str_len_of s) 262144 (word_of s) (types_at s + type_len_of s)) z

-- so each record of a section without causes 3 and 5 passes them, at its place
pub section_sound_at : (s : List ℕ) → Bytes s → header_sound s ≡ true → types_sound s ≡ true → (i : ℕ) → i < length (decode_all (is_big_endian s) (type_area s))
    → (sound_p (word_of s) (types_at s + type_len_of s) (place_from (word_of s) (types_at s) i) ≡ true) × (named_p (str_len_of s) (word_of s) (place_from (word_of s) (types_at s) i) ≡ true)
section_sound_at s y h t i l =
    record_sound (str_len_of s) 262144 (word_of s) (types_at s + type_len_of s) (types_at s) (sym (types_places s h) ∙ t) i (omega (arith, section_inside s y h t i l))
