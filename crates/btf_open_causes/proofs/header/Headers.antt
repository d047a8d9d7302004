-- Causes 3 and 4: a law for each return, and that the tests decide what `spec_linux_btf` calls a sound header and sound strings.
-- Assumes nothing.
use Prim.Native.Nat.{ℕ, zero, suc, ◌+◌, ◌-◌, ◌<◌, ◌≤◌}
use mathlib.Core.Path.{◌≡◌, refl, ap, ◌∙◌, sym}
use mathlib.Core.Bool.{Bool, true, false, true≢false, ◌&&◌, ◌||◌, not}
use mathlib.Core.List.{List, [], ◌∷◌}
use mathlib.Core.Logic.{⊎_elim}
use native.Mathlib.Omega.{arith}
use lib.ListN.{length, get_or, take, drop}
use lib.Dec.{ltb, leb, eqb}
use Rattle.std.specs.List.{starts_with, ends_with}
use Rattle.std.specs.Bool.{MatchBool}
use Rattle.std.specs.Str.{IsAscii, IsNotAscii}
use Rattle.std.specs.Cmp.Lexicographic.{pointwise}
use Rattle.std.specs.Cmp.{first_so, second_so}
use borrow.Author.Tests.{lt-ltb, le-ltb, le-leb, lt-leb, leb-true}
use Rattle.std.proofs.lemmas.Bool.{cases_lt}
use Rattle.spec_bytes.specs.words.Words.{word_in}
use Rattle.spec_linux_btf.specs.Reading.{word}
use Rattle.spec_linux_btf.specs.Section.{is_big_endian, little_endian, word_of, hdr_len_of, type_off_of, type_len_of, str_off_of, str_len_of, string_area, header_sound, strings_sound, all_ascii, last_of}
use Rattle.spec_linux_btf.proofs.SectionFields.{in_word}
use Rattle.btf_open_causes.specs.declared.header.Header.{Header}
use Rattle.btf_open_causes.specs.header.Header.{header_of, btf_of, is_magic, bad_strings}

pub word_in_lem : (s : List ℕ) (at : ℕ) → at + 3 < length s → word_of s at ≡ word (is_big_endian s) s at
unfolding word_of
word_in_lem s at h = in_word (is_big_endian s) s at (omega arith)

module _ (s : List ℕ) (h : 24 ≤ length s) where
  pub read4 : word_of s 4 ≡ hdr_len_of s
  unfolding hdr_len_of
  read4 = word_in_lem s 4 (omega arith)

  pub read8 : word_of s 8 ≡ type_off_of s
  unfolding type_off_of
  read8 = word_in_lem s 8 (omega arith)

  pub read12 : word_of s 12 ≡ type_len_of s
  unfolding type_len_of
  read12 = word_in_lem s 12 (omega arith)

  pub read16 : word_of s 16 ≡ str_off_of s
  unfolding str_off_of
  read16 = word_in_lem s 16 (omega arith)

  pub read20 : word_of s 20 ≡ str_len_of s
  unfolding str_len_of
  read20 = word_in_lem s 20 (omega arith)

pub header_is : (s : List ℕ) (big : Bool) → big ≡ is_big_endian s
    → (a b c d e : ℕ) → a ≡ word_in big s 4 → b ≡ word_in big s 8 → c ≡ word_in big s 12 → d ≡ word_in big s 16 → e ≡ word_in big s 20
    → ◌≡◌ {A = Header} (record { hdr_len = a; type_off = b; type_len = c; str_off = d; str_len = e }) (header_of s)
unfolding header_of word_of
header_is s big o a b c d e p q r t u =
    (λ i. record { hdr_len = p i; type_off = q i; type_len = r i; str_off = t i; str_len = u i })
    ∙ (λ i. record { hdr_len = word_in (o i) s 4; type_off = word_in (o i) s 8; type_len = word_in (o i) s 12; str_off = word_in (o i) s 16; str_len = word_in (o i) s 20 })

-- the table has the section's order
pub order_is : (s : List ℕ) (pointer modes types : ℕ) → (btf_of s pointer modes types).big_endian ≡ is_big_endian s
unfolding btf_of
order_is s pointer modes types = refl

-- ---- is_big_endian and is_magic: the two bytes in front
pub big_is : (s : List ℕ) → starts_with eqb s (235 ∷ 159 ∷ []) ≡ is_big_endian s
unfolding is_big_endian
big_is [] = refl
big_is (a ∷ []) = grind arith
big_is (a ∷ b ∷ s) = grind arith

pub little_is : (s : List ℕ) → starts_with eqb s (159 ∷ 235 ∷ []) ≡ little_endian s
unfolding little_endian
little_is [] = refl
little_is (a ∷ []) = grind arith
little_is (a ∷ b ∷ s) = grind arith

-- ---- is_magic
module _ (s : List ℕ) where
  pub magic_short : length s < 24 → false ≡ is_magic s
  unfolding is_magic
  magic_short h = rw (lt-leb 24 (length s) h)

  module _ (h : 24 ≤ length s) where
    pub magic_big : is_big_endian s ≡ true → eqb (get_or s 2 0) 1 ≡ is_magic s
    unfolding is_magic
    magic_big e = rw (le-leb 24 (length s) h, e)

    pub magic_little : is_big_endian s ≡ false → little_endian s ≡ true → eqb (get_or s 2 0) 1 ≡ is_magic s
    unfolding is_magic
    magic_little e f = rw (le-leb 24 (length s) h, e, f)

  pub magic_none : is_big_endian s ≡ false → little_endian s ≡ false → false ≡ is_magic s
  unfolding is_magic
  magic_none e f = rw (e, f) (none (leb 24 (length s)))
    where
      none : (t : Bool) → false ≡ (t && false)
      none true = refl
      none false = refl

  pub magic_long : is_magic s ≡ true → 24 ≤ length s
  unfolding is_magic
  magic_long h = leb-true 24 (length s) (first_so (leb 24 (length s)) _ h)

-- ---- has_bad_header
abbrev areas : List ℕ → Bool
areas s =
    leb 24 (hdr_len_of s)
    && (leb (hdr_len_of s) (length s) && (leb (hdr_len_of s + type_off_of s + type_len_of s) (length s) && leb (hdr_len_of s + str_off_of s + str_len_of s) (length s)))

module _ (s : List ℕ) where
  regroup : (a b c r : Bool) → (a && (b && (c && r))) ≡ ((a && (b && c)) && r)
  regroup true true c r = refl
  regroup true false c r = refl
  regroup false b c r = refl

  sound_parts : header_sound s ≡ (is_magic s && areas s)
  unfolding header_sound is_magic
  sound_parts = regroup (leb 24 (length s)) (is_big_endian s || little_endian s) (eqb (get_or s 2 0) 1) (areas s)

  pub bad_magic : (r : Bool) → r ≡ is_magic s → r ≡ false → true ≡ not (header_sound s)
  bad_magic r e f = rw (sound_parts, sym e ∙ f)

  module _ (h : Header) (e : h ≡ header_of s) (g : is_magic s ≡ true) where
    hdr_is : h.hdr_len ≡ hdr_len_of s
    unfolding header_of
    hdr_is = ap (λ x. x.hdr_len) e ∙ read4 s (magic_long s g)

    type_off_is : h.type_off ≡ type_off_of s
    unfolding header_of
    type_off_is = ap (λ x. x.type_off) e ∙ read8 s (magic_long s g)

    type_len_is : h.type_len ≡ type_len_of s
    unfolding header_of
    type_len_is = ap (λ x. x.type_len) e ∙ read12 s (magic_long s g)

    str_off_is : h.str_off ≡ str_off_of s
    unfolding header_of
    str_off_is = ap (λ x. x.str_off) e ∙ read16 s (magic_long s g)

    str_len_is : h.str_len ≡ str_len_of s
    unfolding header_of
    str_len_is = ap (λ x. x.str_len) e ∙ read20 s (magic_long s g)

    pub bad_length : h.hdr_len < 24 → true ≡ not (header_sound s)
    bad_length l = rw (sound_parts, g, lt-leb 24 (hdr_len_of s) (omega (arith, hdr_is)))

    module _ (m : 24 ≤ h.hdr_len) (n : ℕ) (f : n ≡ h.hdr_len + h.type_off + h.type_len) where
      pub bad_types : length s < n → true ≡ not (header_sound s)
      bad_types l =
          rw (sound_parts, g, lt-leb (hdr_len_of s + type_off_of s + type_len_of s) (length s) (omega (arith, hdr_is, type_off_is, type_len_is))) (go (leb 24 (hdr_len_of s)) (leb (hdr_len_of s) (length s)))
        where
          go : (a b : Bool) → true ≡ not (a && (b && false))
          go true true = refl
          go true false = refl
          go false b = refl

      pub bad_last : n ≤ length s → (k : ℕ) → k ≡ h.hdr_len + h.str_off + h.str_len → ltb (length s) k ≡ not (header_sound s)
      bad_last l k q =
          let a : leb 24 (hdr_len_of s) ≡ true = le-leb 24 (hdr_len_of s) (omega (arith, hdr_is)) in
          let b : leb (hdr_len_of s) (length s) ≡ true = le-leb (hdr_len_of s) (length s) (omega (arith, hdr_is)) in
          let d : leb (hdr_len_of s + type_off_of s + type_len_of s) (length s) ≡ true = le-leb (hdr_len_of s + type_off_of s + type_len_of s) (length s) (omega (arith, hdr_is, type_off_is, type_len_is)) in
          let z : k ≡ hdr_len_of s + str_off_of s + str_len_of s = omega (arith, hdr_is, str_off_is, str_len_is) in
          rw (sound_parts, g, a, b, d, z) (flip (hdr_len_of s + str_off_of s + str_len_of s) (length s))
        where
          flip : (x y : ℕ) → ltb y x ≡ not (leb x y)
          flip x y = ⊎_elim (λ u. lt-ltb y x u ∙ ap not (sym (lt-leb x y u))) (λ u. le-ltb y x u ∙ ap not (sym (le-leb x y u))) (cases_lt y x)

-- ---- is_sound_area
no_larger : (l : List ℕ) → IsAscii l → true ≡ all_ascii l
no_larger [] h = refl
no_larger (x ∷ l) h = rw (le-leb x 127 (let q = h 0 in omega arith)) (no_larger l (λ i. h (suc i)))

one_larger : (l : List ℕ) (i : ℕ) → 128 ≤ get_or l i 0 → false ≡ all_ascii l
one_larger [] i q = absurd (omega arith)
one_larger (x ∷ l) zero q = rw (lt-leb x 127 (omega arith))
one_larger (x ∷ l) (suc i) q = go (leb x 127) (one_larger l i q)
  where
    go : (t : Bool) → false ≡ all_ascii l → false ≡ (t && all_ascii l)
    go true e = e
    go false e = refl

ascii_is : (l : List ℕ) (r : Bool) → MatchBool r (IsAscii l) (IsNotAscii l) → r ≡ all_ascii l
ascii_is l true h = no_larger l h
ascii_is l false h = one_larger l h.0 h.1

begins_zero : (a : List ℕ) → starts_with eqb a (0 ∷ []) ≡ (leb 1 (length a) && eqb (get_or a 0 1) 0)
begins_zero [] = refl
begins_zero (x ∷ l) = grind arith

drop_front : (x : ℕ) (l : List ℕ) → drop (length l) (x ∷ l) ≡ last_of x l ∷ []
drop_front x [] = refl
drop_front x (y ∷ l) = drop_front y l

ends_zero : (a : List ℕ) → starts_with eqb a (0 ∷ []) ≡ true → ends_with eqb a (0 ∷ []) ≡ eqb (last_of 1 a) 0
ends_zero [] h = absurd (true≢false (sym h))
ends_zero (x ∷ l) h =
    let e : length (x ∷ l) - 1 ≡ length l = omega arith in
    ap (λ (k : ℕ). pointwise eqb (0 ∷ []) (drop k (x ∷ l))) e ∙ ap (pointwise eqb (0 ∷ [])) (drop_front x l) ∙ flip (last_of x l)
  where
    flip : (v : ℕ) → pointwise eqb (0 ∷ []) (v ∷ []) ≡ eqb v 0
    flip v = grind arith

module _ (a : List ℕ) where
  pub area_first : starts_with eqb a (0 ∷ []) ≡ false → false ≡ strings_sound a
  unfolding strings_sound
  area_first e = go (leb 1 (length a)) (eqb (get_or a 0 1) 0) (sym (begins_zero a) ∙ e)
    where
      go : (t u : Bool) → (t && u) ≡ false → false ≡ (t && (u && (eqb (last_of 1 a) 0 && all_ascii a)))
      go true true f = absurd (true≢false f)
      go true false f = refl
      go false u f = refl

  module _ (e : starts_with eqb a (0 ∷ []) ≡ true) where
    in_front : leb 1 (length a) ≡ true
    in_front = first_so (leb 1 (length a)) (eqb (get_or a 0 1) 0) (sym (begins_zero a) ∙ e)

    zero_first : eqb (get_or a 0 1) 0 ≡ true
    zero_first = second_so (leb 1 (length a)) (eqb (get_or a 0 1) 0) (sym (begins_zero a) ∙ e)

    pub area_last : ends_with eqb a (0 ∷ []) ≡ false → false ≡ strings_sound a
    unfolding strings_sound
    area_last f = rw (in_front, zero_first, sym (ends_zero a e) ∙ f)

    pub area_all : ends_with eqb a (0 ∷ []) ≡ true → (r : Bool) → MatchBool r (IsAscii a) (IsNotAscii a) → r ≡ strings_sound a
    unfolding strings_sound
    area_all f r g = rw (in_front, zero_first, sym (ends_zero a e) ∙ f) (ascii_is a r g)

-- ---- has_bad_strings
module _ (s : List ℕ) (h : Header) (e : h ≡ header_of s) where
  hdr_reads : h.hdr_len ≡ word_of s 4
  unfolding header_of
  hdr_reads = ap (λ x. x.hdr_len) e

  off_reads : h.str_off ≡ word_of s 16
  unfolding header_of
  off_reads = ap (λ x. x.str_off) e

  len_reads : h.str_len ≡ word_of s 20
  unfolding header_of
  len_reads = ap (λ x. x.str_len) e

  pub strings_outside : length s < h.hdr_len + h.str_off + h.str_len → true ≡ bad_strings s
  unfolding bad_strings
  strings_outside l = rw (lt-ltb (length s) (word_of s 4 + word_of s 16 + word_of s 20) (omega (arith, hdr_reads, off_reads, len_reads)), bad_strings)

  pub strings_inside : h.hdr_len + h.str_off + h.str_len ≤ length s → (r : Bool)
      → r ≡ not (strings_sound (take (h.hdr_len + h.str_off + h.str_len - (h.hdr_len + h.str_off)) (drop (h.hdr_len + h.str_off) s))) → r ≡ bad_strings s
  unfolding bad_strings
  strings_inside l r f =
      let n : h.hdr_len + h.str_off + h.str_len - (h.hdr_len + h.str_off) ≡ word_of s 20 = omega (arith, hdr_reads, off_reads, len_reads) in
      let m : h.hdr_len + h.str_off ≡ word_of s 4 + word_of s 16 = omega (arith, hdr_reads, off_reads) in
      f
      ∙ (λ i. not (strings_sound (take (n i) (drop (m i) s))))
      ∙ rw (le-ltb (length s) (word_of s 4 + word_of s 16 + word_of s 20) (omega (arith, hdr_reads, off_reads, len_reads)), bad_strings)

-- where the header is sound, that is the string area
pub strings_decided : (s : List ℕ) → header_sound s ≡ true → bad_strings s ≡ not (strings_sound (string_area s))
unfolding bad_strings string_area
strings_decided s h =
    let g : (is_magic s && areas s) ≡ true = sym (sound_parts s) ∙ h in
    let l : 24 ≤ length s = magic_long s (first_so (is_magic s) _ g) in
    let a1 = second_so (leb 24 (hdr_len_of s)) _ (second_so (is_magic s) _ g) in
    let a2 = second_so (leb (hdr_len_of s) (length s)) _ a1 in
    let a3 = second_so (leb (hdr_len_of s + type_off_of s + type_len_of s) (length s)) _ a2 in
    let w4 : word_of s 4 ≡ hdr_len_of s = read4 s l in
    let w16 : word_of s 16 ≡ str_off_of s = read16 s l in
    let w20 : word_of s 20 ≡ str_len_of s = read20 s l in
    let b : hdr_len_of s + str_off_of s + str_len_of s ≤ length s = leb-true (hdr_len_of s + str_off_of s + str_len_of s) (length s) a3 in
    rw (le-ltb (length s) (word_of s 4 + word_of s 16 + word_of s 20) (omega arith), bad_strings)
    (λ i. not (strings_sound (take (w20 i) (drop (w4 i + w16 i) s))))
