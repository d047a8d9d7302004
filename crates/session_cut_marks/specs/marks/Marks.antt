-- Marks for the types that are kept, and the new numbers, as the code makes them. b has the count, s is the section, start its index
-- (`btf_open_causes::references`).
-- The proofs say that these are the numbers of `spec_cut::section`: `session_cut::numbering`, and `spec_cut::reopened` for a section that
-- opening accepts.
use Rattle.std.specs.Prelude.{ℕ, zero, suc, ◌+◌, ◌/◌, true, false, List, length, get_or, set, replicate, ltb, eqb}
use Rattle.spec_bytes.specs.words.Words.{get_word}
use Rattle.spec_type_table.specs.declared.types.TypeTable.{TypeTable}
use Rattle.btf_open_causes.specs.references.Followed.{type_count, followed_count, followed_id}
use Rattle.btf_open_causes.specs.references.Zeros.{zeros}
use Rattle.session_cut_marks.specs.tags.Tags.{tagged_to, numbers_of}

-- the marks, and a stack of the ids whose references are still to be followed, with its height
pub data Heap : Type 0 where
  heap : List ℕ → List ℕ → ℕ → Heap

abbrev pub marks_in : Heap → List ℕ
marks_in (heap m st d) = m

-- y gets a mark and stands on the stack, once; void, id 0, never
unfoldable pub pushed : Heap → ℕ → Heap
pushed (heap m st d) y =
    elim (eqb y 0) [
      | true ↦ heap m st d
      | false ↦ elim (ltb y (length m)) [
        | false ↦ heap m st d
        | true ↦ elim (ltb d (length st)) [
          | false ↦ heap m st d
          | true ↦ elim (eqb (get_or m y 0) 0) [ true ↦ heap (set m y 1) (set st d y) (suc d) | false ↦ heap m st d ]
        ]
      ]
    ]

-- f 0, f 1, .., n of them
unfoldable pub pushed_to : (ℕ → ℕ) → Heap → ℕ → Heap
pushed_to f h zero = h
pushed_to f h (suc n) = pushed (pushed_to f h n) (f n)

-- it falls with each turn: a mark more is a zero less
unfoldable pub weight : Heap → ℕ
weight (heap m st d) = zeros m + zeros m + d

module _ (b : TypeTable) (s start : List ℕ) where
  -- the last id is taken from the stack, and what it follows is put there
  unfoldable pub turned : Heap → Heap
  turned (heap m st zero) = heap m st zero
  turned (heap m st (suc d)) = pushed_to (followed_id b s start (get_or st d 0)) (heap m st d) (followed_count b s start (get_or st d 0))

  -- n turns, or until the stack is empty
  unfoldable pub closed : ℕ → Heap → Heap
  closed zero h = h
  closed (suc n) (heap m st zero) = heap m st zero
  closed (suc n) (heap m st (suc d)) = closed n (turned (heap m st (suc d)))

-- void and as many types as there may be
unfoldable pub all_zero : List ℕ
all_zero = replicate 262145 0

module _ (b : TypeTable) (s start given : List ℕ) where
  -- the given ids, on an empty stack; m: the marks before
  unfoldable pub asked : List ℕ → Heap
  asked m = pushed_to (get_word given) (heap m all_zero 0) (length given / 4)

  unfoldable pub reached_marks : List ℕ → List ℕ
  reached_marks m = marks_in (closed b s start (weight (asked m)) (asked m))

  unfoldable pub ids_of : List ℕ → List ℕ
  ids_of m = numbers_of (tagged_to b s start (reached_marks m) (type_count b))
