-- Ask 14, section cut down to what is used. Which types are kept, their new numbers and the bytes of the new section are definitions of
-- spec_cut. Statement only; proofs/Cut.antt has the proof; it assumes nothing.
use Rattle.std.specs.Prelude.{ℕ, ◌+◌, ◌*◌, ◌/◌, ◌%◌, ◌<◌, ◌≤◌, ◌≡◌, Bool, true, List, ◌++◌, map, ◌⊎◌, length, take, drop}
use Rattle.spec_bytes.specs.words.Words.{words}
use Rattle.spec_linux_btf.specs.Documentation.{Every}
use Rattle.spec_linux_btf.specs.Reading.{Bytes}
use Rattle.spec_c_dumper.specs.rules.Machine.{Req}
use Rattle.spec_opening.specs.Types.{described_in, types_of, enumerators_of}
use Rattle.spec_cut.specs.section.Test.{is_kept}
use Rattle.spec_cut.specs.section.Renumbered.{new_id}
use Rattle.spec_cut.specs.section.Section.{cut_section, cut_number}
use Rattle.spec_cut.specs.section.Stands.{Renumbered}
use Rattle.claims.specs.Calls.{Calls, ids_in, Lent, After}

-- the ids that are kept: those reachable from the given ones, which are bytes, four an id, and their tags
abbrev pub kept_by : List ℕ → List ℕ → ℕ → Bool
kept_by s given = is_kept (described_in s) (words given)

-- "a new section that holds only the types reachable from given ids through any followed reference, their declaration tags (no tags of tags
-- or of void) and their strings, ids renumbered in old order"
abbrev pub section_for : List ℕ → List ℕ → List ℕ
section_for s given = cut_section (kept_by s given) s

-- what the call comes to after another one: section, given ids and output slice; number, value, and the slice afterwards. It has no other
-- slice and no record to write: "session, work and text are never altered"
pub record Cutting (C : Type 0) : Type 0 where
  pub number : C → List ℕ → List ℕ → List ℕ → ℕ
  pub value : C → List ℕ → List ℕ → List ℕ → ℕ
  pub out : C → List ℕ → List ℕ → List ℕ → List ℕ

-- ---- the call

module _ {C : Type 0} (X : Cutting C) (c : C) (s given out : List ℕ) where
  pub record Cuts : Type 0 where
    -- "The answer is the length written"; "the rest of the slice [..] never altered"
    pub value : X.number c s given out ≡ 0 → X.value c s given out ≡ length (section_for s given)
    pub written : X.number c s given out ≡ 0 → X.out c s given out ≡ section_for s given ++ drop (length (section_for s given)) out
    pub fits : X.number c s given out ≡ 0 → length (section_for s given) ≤ length out
    pub short : X.number c s given out ≡ 0 → length (section_for s given) ≤ 16777216
    -- "nothing is written. The answer is [..] 0 when refused"
    pub refused : (X.number c s given out ≡ 0 → ⊥) → (X.value c s given out ≡ 0) × (X.out c s given out ≡ out)

-- ---- the new section, opened afresh: of any calls

module _ {R C : Type 0} (K : Calls R C) where
  -- open or closed alike, with the same text so far
  pub record SameText (c c' : C) : Type 0 where
    pub is_open : K.is_open c ≡ K.is_open c'
    pub text_len : K.len c ≡ K.len c'
    pub text : take (K.len c) (K.text c) ≡ take (K.len c') (K.text c')

  -- two requests: the same number, value and text; and unless 10 or 11 left them as they were, the text slices are equal in every byte
  pub record SameAnswer (c c' : C) : Type 0 where
    pub number : K.number c ≡ K.number c'
    pub value : K.value c ≡ K.value c'
    pub begins : take (K.value c) (K.text c) ≡ take (K.value c') (K.text c')
    pub text : (K.number c ≡ 10 → ⊥) → (K.number c ≡ 11 → ⊥) → K.text c ≡ K.text c'

  -- of two lists: the same number, as many accepted, and the same text
  pub record SameList (c c' : C) : Type 0 where
    pub number : K.number c ≡ K.number c'
    pub accepted : K.value c ≡ K.value c'
    pub text : SameText c c'

  -- pointer size, modes, section and length of its work, as at opening; the given ids; the length of the work that is lent with the new
  -- section
  module _ (pointer modes : ℕ) (s : List ℕ) (n : ℕ) (given : List ℕ) (n' : ℕ) where
    abbrev pub s' : List ℕ
    s' = section_for s given

    -- an id of the section that has a number in the new one: void, or kept
    abbrev pub HasNumber : ℕ → Type 0
    HasNumber x = (x < types_of s) × ((x ≡ 0) ⊎ (kept_by s given x ≡ true))

    abbrev pub HasNewNumber : ℕ → ℕ → Type 0
    HasNewNumber x x' = HasNumber x × (x' ≡ new_id (kept_by s given) x)

    -- "the old naming mode", "long enough work" (cause 9); the new section is no longer than a section may be
    pub record Reopened : Type 0 where
      pub bytes : Bytes s
      pub old_names : modes / 8 % 2 ≡ 0
      pub short : length s' ≤ 16777216
      pub long_enough : 4 * (16 * types_of s' + 8 * enumerators_of s' + 4096) ≤ n'

    -- c and c': what the last calls of both sessions left, after requests for ids and for their new numbers, lent slices of the same
    -- lengths
    pub record Alike (c c' : C) : Type 0 where
      pub so_far : SameText c c'
      pub next : (text text' : List ℕ) → length text ≡ length text' → Lent K c text → Lent K c' text' → (x : ℕ) → HasNumber x
          → SameAnswer (K.request c s text x) (K.request c' s' text' (new_id (kept_by s given) x))
      pub next_list : (text text' : List ℕ) → length text ≡ length text' → Lent K c text → Lent K c' text' → (ids ids' : List ℕ)
          → Every HasNumber (ids_in ids) → ids_in ids' ≡ map (new_id (kept_by s given)) (ids_in ids)
          → SameList (K.request_list c s text ids) (K.request_list c' s' text' ids')

    -- "Opened afresh with the same settings, a new ledger, long enough work and text, and the old naming mode, the new section gives for
    -- the renumbered requests the same text and refusals as the old so opened"
    pub record Reopens : Type 0 where
      pub opens : (c : C) (rs : List Req) → After K pointer modes s n c rs → (r : R) (work text : List ℕ) → K.fits r ≡ true
          → length work ≡ n' → K.number (K.opening r s' pointer modes work text) ≡ 0
      pub alike : (c c' : C) (rs rs' : List Req) → After K pointer modes s n c rs → After K pointer modes s' n' c' rs'
          → Renumbered HasNewNumber rs rs' → Alike c c'

  -- after every list of requests: "A given id not below the count is 10. 23 when the output slice is short or the new section would pass
  -- 16,777,216 bytes", in this order; 11 where the session is closed
  abbrev pub Numbered : Cutting C → List ℕ → C → List ℕ → List ℕ → Type 0
  Numbered X s c given out =
      X.number c s given out ≡ cut_number (K.is_open c) (types_of s) (words given) (length out) (length (section_for s given))

  -- THE CLAIM, of all pointer sizes, modes, sections of bytes, lengths of the works and given ids
  pub record Request14 (X : Cutting C) : Type 0 where
    pub cuts : (c : C) (s given out : List ℕ) → Cuts X c s given out
    pub numbered : (pointer modes : ℕ) (s : List ℕ) (n : ℕ) (c : C) (rs : List Req) → After K pointer modes s n c rs
        → (given out : List ℕ) → Numbered X s c given out
    pub reopens : (pointer modes : ℕ) (s : List ℕ) (n : ℕ) (given : List ℕ) (n' : ℕ) → Reopened pointer modes s n given n'
        → Reopens pointer modes s n given n'
