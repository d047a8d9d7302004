-- The header read where it was laid out and laid out where it was read; the areas. Assumes nothing.
use Prim.Native.Nat.{ℕ, suc, ◌+◌, ◌<◌, ◌≤◌}
use mathlib.Core.Path.{◌≡◌, refl, ap, ◌∙◌, sym}
use mathlib.Core.Bool.{Bool, true, false, ◌&&◌, ◌||◌}
use mathlib.Core.List.{List, [], ◌∷◌, ◌++◌}
use native.Mathlib.Omega.{arith}
use native.Mathlib.Nat.{add_assoc}
use lib.ListN.{length, get_or, drop, length-drop, length-append}
use lib.Seq.{get_or-take, get_or-drop, drop-drop, take-append_seam, drop-append_seam, take-length}
use lib.Dec.{leb, eqb}
use borrow.Author.Tests.{le-leb, eqb-true}
use Rattle.std.specs.Cmp.{first_so, second_so}
use Rattle.std.proofs.lemmas.Bool.{and_from}
use Rattle.spec_linux_btf.specs.Documentation.{first_byte, other_bytes, in_bytes, Every, Described, encode_all, Fits, Allowed, Header, header, encode_header, FitHeader, encode_section}
use Rattle.spec_linux_btf.specs.Reading.{word, Bytes, decode_all}
use Rattle.spec_linux_btf.specs.Section.{is_big_endian, little_endian, hdr_len_of, type_off_of, type_len_of, str_off_of, str_len_of, read_header, type_area, string_area, header_sound, types_sound}
use Rattle.spec_linux_btf.proofs.Words.{word_again, word_back2, word_back3, word_drop, bytes_drop}
use Rattle.spec_linux_btf.proofs.Area.{layout_read, layout_passes}

-- one byte is the same in both orders
one_byte : (big : Bool) (v : ℕ) → v < 256 → first_byte big 0 v ≡ v
one_byte true v h = omega arith
one_byte false v h = omega arith

-- the magic, 0xeB9F, tells the order
pub order_written : (big : Bool) (h : Header) (s : List ℕ) → is_big_endian (encode_header big h ++ s) ≡ big
unfolding encode_header is_big_endian
order_written true (header ver fl hl to tl so sl) s = refl
order_written false (header ver fl hl to tl so sl) s = refl

pub header_magic : (big : Bool) (h : Header) (s : List ℕ) → (is_big_endian (encode_header big h ++ s) || little_endian (encode_header big h ++ s)) ≡ true
unfolding encode_header is_big_endian little_endian
header_magic true (header ver fl hl to tl so sl) s = refl
header_magic false (header ver fl hl to tl so sl) s = refl

-- (a)
abbrev read_in : Bool → List ℕ → Header
read_in big s = header (get_or s 2 0) (get_or s 3 0) (word big s 4) (word big s 8) (word big s 12) (word big s 16) (word big s 20)

header_in : (big : Bool) (h : Header) (s : List ℕ) → FitHeader h → read_in big (encode_header big h ++ s) ≡ h
unfolding encode_header word
header_in big (header ver fl hl to tl so sl) s f =
    let ev = one_byte big ver f.1.0 in
    let ef = one_byte big fl f.1.1.0 in
    let e1 = word_again big hl (in_bytes big 4 to ++ (in_bytes big 4 tl ++ (in_bytes big 4 so ++ (in_bytes big 4 sl ++ s)))) f.1.1.1.0 in
    let e2 = word_again big to (in_bytes big 4 tl ++ (in_bytes big 4 so ++ (in_bytes big 4 sl ++ s))) f.1.1.1.1.0 in
    let e3 = word_again big tl (in_bytes big 4 so ++ (in_bytes big 4 sl ++ s)) f.1.1.1.1.1.0 in
    let e4 = word_again big so (in_bytes big 4 sl ++ s) f.1.1.1.1.1.1.0 in
    let e5 = word_again big sl s f.1.1.1.1.1.1.1.0 in
    λ i. header (ev i) (ef i) (e1 i) (e2 i) (e3 i) (e4 i) (e5 i)

pub header_read : (big : Bool) (h : Header) (s : List ℕ) → FitHeader h → read_header (encode_header big h ++ s) ≡ h
unfolding read_header hdr_len_of type_off_of type_len_of str_off_of str_len_of
header_read big h s f = ap (λ (o : Bool). read_in o (encode_header big h ++ s)) (order_written big h s) ∙ header_in big h s f

-- a word of the type area is a word of the section
pub area_word_lem : (big : Bool) (s : List ℕ) (k : ℕ) → k + 4 ≤ type_len_of s → word big (type_area s) k ≡ word big s (hdr_len_of s + type_off_of s + k)
unfolding type_area word
area_word_lem big s k h =
    let l0 : k < type_len_of s = omega arith in
    let l1 : k + 1 < type_len_of s = omega arith in
    let l2 : k + 2 < type_len_of s = omega arith in
    let l3 : k + 3 < type_len_of s = omega arith in
    simp (get_or-take, get_or-drop, add_assoc)

-- (b)
five : (big : Bool) (r : List ℕ) → Bytes r → 20 ≤ length r
    → in_bytes big 4 (word big r 0) ++ (in_bytes big 4 (word big r 4) ++ (in_bytes big 4 (word big r 8) ++ (in_bytes big 4 (word big r 12) ++ (in_bytes big 4 (word big r 16) ++ drop 20 r)))) ≡ r
five big r h n =
    let l : 8 ≤ length (drop 12 r) = simp length-drop (omega arith) in
    let e : in_bytes big 4 (word big (drop 12 r) 0) ++ (in_bytes big 4 (word big (drop 12 r) 4) ++ drop 8 (drop 12 r)) ≡ drop 12 r = word_back2 big (drop 12 r) (bytes_drop r 12 h) l in
    let two : in_bytes big 4 (word big r 12) ++ (in_bytes big 4 (word big r 16) ++ drop 20 r) ≡ drop 12 r = rw (word_drop big r 12 0, word_drop big r 12 4, drop-drop 8 12 r) at e in
    ap (λ (x : List ℕ). in_bytes big 4 (word big r 0) ++ (in_bytes big 4 (word big r 4) ++ (in_bytes big 4 (word big r 8) ++ x))) two ∙ word_back3 big r h (omega arith)

-- where the magic passes, its two bytes are those that it has in the section's order
magic_bytes : (a b : ℕ) → ((eqb a 235 && eqb b 159) || (eqb a 159 && eqb b 235)) ≡ true
    → (first_byte (eqb a 235 && eqb b 159) 1 0xeb9f ≡ a) × (first_byte (eqb a 235 && eqb b 159) 0 (other_bytes (eqb a 235 && eqb b 159) 0xeb9f) ≡ b)
magic_bytes a b m = go (eqb a 235 && eqb b 159) refl m
  where
    go : (o : Bool) → (eqb a 235 && eqb b 159) ≡ o → (o || (eqb a 159 && eqb b 235)) ≡ true → (first_byte o 1 0xeb9f ≡ a) × (first_byte o 0 (other_bytes o 0xeb9f) ≡ b)
    go true e m = (sym (eqb-true a 235 (first_so (eqb a 235) _ e)), sym (eqb-true b 159 (second_so (eqb a 235) _ e)))
    go false e m = (sym (eqb-true a 159 (first_so (eqb a 159) _ m)), sym (eqb-true b 235 (second_so (eqb a 159) _ m)))

pub header_back : (b : List ℕ) → Bytes b → 24 ≤ length b → (is_big_endian b || little_endian b) ≡ true → encode_header (is_big_endian b) (read_header b) ++ drop 24 b ≡ b
unfolding encode_header read_header hdr_len_of type_off_of type_len_of str_off_of str_len_of word is_big_endian little_endian
header_back [] h n m = absurd (omega arith)
header_back (a ∷ []) h n m = absurd (omega arith)
header_back (a ∷ b ∷ []) h n m = absurd (omega arith)
header_back (a ∷ b ∷ c ∷ []) h n m = absurd (omega arith)
header_back (a ∷ b ∷ c ∷ d ∷ r) h n m =
    let g = magic_bytes a b m in
    let ec = one_byte (eqb a 235 && eqb b 159) c (h 2) in
    let ed = one_byte (eqb a 235 && eqb b 159) d (h 3) in
    let e = five (eqb a 235 && eqb b 159) r (λ i. h (suc (suc (suc (suc i))))) (omega arith) in
    λ i. g.0 i ∷ g.1 i ∷ ec i ∷ ed i ∷ e i

-- a section as a compiler writes it: its areas are its types and its strings
abbrev hl : Header → ℕ
hl (header v f h to tl so sl) = h

abbrev to : Header → ℕ
to (header v f h o tl so sl) = o

abbrev tl : Header → ℕ
tl (header v f h o l so sl) = l

abbrev so : Header → ℕ
so (header v f h o l p sl) = p

abbrev sl : Header → ℕ
sl (header v f h o l p q) = q

module _ (big : Bool) (h : Header) (s : List ℕ) (f : FitHeader h) where
  at_hl : hdr_len_of (encode_header big h ++ s) ≡ hl h
  unfolding read_header
  at_hl = ap hl (header_read big h s f)

  at_to : type_off_of (encode_header big h ++ s) ≡ to h
  unfolding read_header
  at_to = ap to (header_read big h s f)

  at_tl : type_len_of (encode_header big h ++ s) ≡ tl h
  unfolding read_header
  at_tl = ap tl (header_read big h s f)

  at_so : str_off_of (encode_header big h ++ s) ≡ so h
  unfolding read_header
  at_so = ap so (header_read big h s f)

  at_sl : str_len_of (encode_header big h ++ s) ≡ sl h
  unfolding read_header
  at_sl = ap sl (header_read big h s f)

pub past_header : (big : Bool) (h : Header) (s : List ℕ) → drop 24 (encode_header big h ++ s) ≡ s
unfolding encode_header
past_header big (header v f h o l p q) s = refl

version_one : (big : Bool) (f h o l p q : ℕ) (s : List ℕ) → eqb (get_or (encode_header big (header 1 f h o l p q) ++ s) 2 0) 1 ≡ true
unfolding encode_header
version_one true f h o l p q s = refl
version_one false f h o l p q s = refl

pub header_length : (big : Bool) (h : Header) → length (encode_header big h) ≡ 24
unfolding encode_header
header_length big (header v f h o l p q) = refl

module _ (big : Bool) (flags : ℕ) (ts : List Described) (strings : List ℕ) (hf : flags < 256) (ht : length (encode_all big ts) < 4294967296) (hs : length strings < 4294967296) where
  abbrev head : Header
  head = header 1 flags 24 0 (length (encode_all big ts)) (length (encode_all big ts)) (length strings)

  fits : FitHeader head
  fits = (omega arith, (omega arith, (hf, (omega arith, (omega arith, (ht, (ht, (hs, tt))))))))

  pub section_order : is_big_endian (encode_section big flags ts strings) ≡ big
  unfolding encode_section
  section_order = order_written big head (encode_all big ts ++ strings)

  pub section_types : type_area (encode_section big flags ts strings) ≡ encode_all big ts
  unfolding type_area encode_section
  section_types =
      rw (at_tl big head (encode_all big ts ++ strings) fits, at_hl big head (encode_all big ts ++ strings) fits, at_to big head (encode_all big ts ++ strings) fits, past_header big head (encode_all big ts ++ strings))
      (take-append_seam (encode_all big ts) strings)

  pub section_strings : string_area (encode_section big flags ts strings) ≡ strings
  unfolding string_area encode_section
  section_strings =
      rw (at_sl big head (encode_all big ts ++ strings) fits, at_hl big head (encode_all big ts ++ strings) fits, at_so big head (encode_all big ts ++ strings) fits, ← drop-drop (length (encode_all big ts)) 24 (encode_header big head ++ (encode_all big ts ++ strings)), past_header big head (encode_all big ts ++ strings), drop-append_seam (encode_all big ts) strings)
      (take-length strings)

  pub section_strlen : str_len_of (encode_section big flags ts strings) ≡ length strings
  unfolding encode_section
  section_strlen = at_sl big head (encode_all big ts ++ strings) fits

  -- no cause 3
  pub section_header : header_sound (encode_section big flags ts strings) ≡ true
  unfolding header_sound encode_section
  section_header =
      let x : List ℕ = encode_all big ts ++ strings in
      let len : length (encode_header big head ++ x) ≡ 24 + (length (encode_all big ts) + length strings) = length-append (encode_header big head) x ∙ rw (header_length big head, length-append (encode_all big ts) strings) in
      and_from _ _
      (le-leb 24 (length (encode_header big head ++ x)) (omega arith))
      (and_from _ _
      (header_magic big head x)
      (and_from _ _
      (version_one big flags 24 0 (length (encode_all big ts)) (length (encode_all big ts)) (length strings) x)
      (and_from _ _
      (ap (leb 24) (at_hl big head x fits))
      (and_from _ _
      (le-leb (hdr_len_of (encode_header big head ++ x)) (length (encode_header big head ++ x)) (omega (arith, at_hl big head x fits)))
      (and_from _ _
      (le-leb (hdr_len_of (encode_header big head ++ x) + type_off_of (encode_header big head ++ x) + type_len_of (encode_header big head ++ x)) (length (encode_header big head ++ x)) (omega (arith, at_hl big head x fits, at_to big head x fits, at_tl big head x fits)))
      (le-leb (hdr_len_of (encode_header big head ++ x) + str_off_of (encode_header big head ++ x) + str_len_of (encode_header big head ++ x)) (length (encode_header big head ++ x)) (omega (arith, at_hl big head x fits, at_so big head x fits, at_sl big head x fits))))))))

  -- no cause 5, and its types are read
  pub section_sound : Every (Allowed (length strings)) ts → length ts ≤ 262144 → types_sound (encode_section big flags ts strings) ≡ true
  unfolding types_sound
  section_sound f l = rw (section_order, section_types, section_strlen) (layout_passes big (length strings) ts f l)

  pub section_read : Every Fits ts → length ts ≤ 262144 → decode_all big (type_area (encode_section big flags ts strings)) ≡ ts
  section_read f l = rw section_types (layout_read big ts f l).1
