-- Demand 1: which openings succeed, and the number of a refusal. The table of document 01, a line for each cause, over the bytes of the
-- section and the types that it describes. Statement only. proofs/Opens.antt has the proof, for the calls of specs/Ours; it assumes
-- nothing.
use Rattle.std.specs.Prelude.{ℕ, suc, ◌+◌, ◌*◌, ◌≤◌, ◌<◌, ◌≡◌, true, false, ◌⊎◌, length, replicate}
use mathlib.Core.List.{List, [], ◌∷◌, Memᴰ}
use Rattle.spec_linux_btf.specs.Documentation.{Described, described, kind_of}
use Rattle.spec_linux_btf.specs.Reading.{Bytes}
use Rattle.spec_linux_btf.specs.Section.{string_area, header_sound, strings_sound, types_sound}
use Rattle.spec_opening.specs.Types.{described_in, types_of, enumerators_of}
use Rattle.spec_opening.specs.Followed.{followed_ids, type_of}
use Rattle.claims.specs.Calls.{Calls, Untouched}

-- ---- ids of described types, those from 1 on

abbrev pub kind_number : Described → ℕ
kind_number (described name flag third body) = kind_of body

module _ (ts : List Described) where
  -- the type x is of one of these kinds
  abbrev pub Of : List ℕ → ℕ → Type 0
  Of kinds x = Memᴰ (kind_number (type_of ts x)) kinds

  -- y is a followed id of x: "targets of pointers, qualifiers, type tags, typedefs, elements, members, parameters, results"
  abbrev pub Follows : ℕ → ℕ → Type 0
  Follows x y = Memᴰ y (followed_ids (type_of ts x))

  -- "a prototype, through typedefs, qualifiers, type tags, arrays"
  pub data ToPrototype : ℕ → Type 0 where
    prototype : {x : ℕ} → kind_number (type_of ts x) ≡ 13 → ToPrototype x
    through : {x y : ℕ} → Of (3 ∷ 8 ∷ 9 ∷ 10 ∷ 11 ∷ 18 ∷ []) x → Follows x y → ToPrototype y → ToPrototype x

  -- "a loop of pointers, arrays, qualifiers, type tags, typedefs, prototypes only": n ≥ 1 and types x 0, .., x n = x 0 of these kinds,
  -- each followed by the one before
  pub record Loop : Type 0 where
    pub n : ℕ
    pub x : ℕ → ℕ
    pub some : 1 ≤ n
    pub round : x n ≡ x 0
    pub kinds : (i : ℕ) → i ≤ n → Of (2 ∷ 3 ∷ 8 ∷ 9 ∷ 10 ∷ 11 ∷ 13 ∷ 18 ∷ []) (x i)
    pub follows : (i : ℕ) → i < n → Follows (x i) (x (suc i))

-- ---- "Cause, tested in this order at opening", by its number. work: the length of the work in bytes

pub data OpeningCause (pointer : ℕ) (s : List ℕ) (work : ℕ) : ℕ → Type 0 where
  -- "pointer size not 4 or 8"
  pointer_size : (pointer ≡ 4 → ⊥) → (pointer ≡ 8 → ⊥) → OpeningCause pointer s work 1
  -- "section over 16,777,216 bytes"
  long_section : 16777216 < length s → OpeningCause pointer s work 2
  -- "under 24 bytes, magic, version, header length under 24 or past the end, an area past the end"
  header : header_sound s ≡ false → OpeningCause pointer s work 3
  -- "string area empty, not starting or ending in 0, or a byte over 127"
  strings : strings_sound (string_area s) ≡ false → OpeningCause pointer s work 4
  -- "kind 0 or over 19, info bits 16-23, 29 or 30 set, record past its area, name offset outside, more than 262,144 records"
  records : types_sound s ≡ false → OpeningCause pointer s work 5
  -- "a followed id not below the count, or of kind 12, 14, 15, 17"
  followed_past : (x y : ℕ) → Follows (described_in s) x y → types_of s ≤ y → OpeningCause pointer s work 6
  followed_kind : (x y : ℕ) → Follows (described_in s) x y → Of (described_in s) (12 ∷ 14 ∷ 15 ∷ 17 ∷ []) y → OpeningCause pointer s work 6
  -- "a member or array element that is a prototype, through typedefs, qualifiers, type tags, arrays"
  holds_prototype : (x y : ℕ) → Of (described_in s) (3 ∷ 4 ∷ 5 ∷ []) x → Follows (described_in s) x y → ToPrototype (described_in s) y
      → OpeningCause pointer s work 7
  -- "a loop of pointers, arrays, qualifiers, type tags, typedefs, prototypes only"
  loop : Loop (described_in s) → OpeningCause pointer s work 8
  -- "work words short": "16 a type, void counted, 8 an enumerator, and 4,096 more", "four lent bytes each"
  short_work : work < 4 * (16 * types_of s + 8 * enumerators_of s + 4096) → OpeningCause pointer s work 9

-- "A number comes for its own cause and in no other circumstance"; "tested in this order"; "Success is number 0"
pub record Numbered (pointer : ℕ) (s : List ℕ) (work number : ℕ) : Type 0 where
  pub own : (number ≡ 0 → ⊥) → OpeningCause pointer s work number
  pub first : (k : ℕ) → (number ≡ 0) ⊎ (k < number) → OpeningCause pointer s work k → ⊥

-- ---- of any calls

module _ {R C : Type 0} (K : Calls R C) (r : R) (s : List ℕ) (pointer modes : ℕ) (work text : List ℕ) where
  abbrev call : C
  call = K.opening r s pointer modes work text

  pub record Opens : Type 0 where
    pub number : Bytes s → Numbered pointer s (length work) (K.number call)
    -- "opening returns the count of types, void counted, and clears the text slice"
    pub types : K.number call ≡ 0 → K.value call ≡ types_of s
    pub clears : K.number call ≡ 0 → K.text call ≡ replicate (length text) 0
    -- "number, 0 types"; "Left as it was: all slices and the record"
    pub no_types : (K.number call ≡ 0 → ⊥) → K.value call ≡ 0
    pub untouched : (K.number call ≡ 0 → ⊥) → Untouched K call r work text

-- DEMAND 1, of every record that is long enough, every section, pointer size, modes, work and text
abbrev pub Demand1 : {R C : Type 0} → Calls R C → Type 0
Demand1 {R} K =
    (r : R) (s : List ℕ) (pointer modes : ℕ) (work text : List ℕ) → K.fits r ≡ true → Opens K r s pointer modes work text
