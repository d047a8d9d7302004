-- The number that the k-th holder of a name gets, where some numbers are taken: the k-th of those from 1 on that are not. Opening lists the
-- taken numbers of a name at its class, in the mode of names that cannot collide; else there are none, and the number is the count.
use Rattle.std.specs.Prelude.{ℕ, zero, suc, ◌+◌, true, false, List, [], ◌∷◌, length, ltb, leb}
use Rattle.spec_bytes.specs.words.Words.{get_word, pick}
use Rattle.spec_type_table.specs.Cells.{place_of, class_p, count_p, count_after}

-- how many of these numbers are at most n
unfoldable pub below : List ℕ → ℕ → ℕ
below [] n = 0
below (t ∷ ts) n = elim (leb t n) [ true ↦ suc (below ts n) | false ↦ below ts n ]

-- numbers have 32 bits, and the largest stays
unfoldable pub capped : ℕ → ℕ
capped n = pick (ltb n 4294967295) n 4294967295

-- "passed over and the next number taken": k, and one more for each taken number up to there; until that adds none, which is after at most
-- as many turns as there are taken numbers
unfoldable pub settled : List ℕ → ℕ → ℕ → ℕ → ℕ
settled ts k zero n = n
settled ts k (suc turns) n = settled ts k turns (capped (k + below ts n))

unfoldable pub number_over : List ℕ → ℕ → ℕ
number_over ts k = settled ts k (length ts) k

-- ---- in the work
-- the words of a list: its first holder, at the class; and of each holder on it the next, and the number that its name takes
abbrev pub head_p : ℕ → ℕ → ℕ
head_p types = place_of types 7 3

abbrev pub next_p : ℕ → ℕ → ℕ
next_p types = place_of types 8 4

abbrev pub taken_p : ℕ → ℕ → ℕ
taken_p types = place_of types 14 6

-- The numbers from holder x on, after the holder `last`. What does not rise was not left by opening, and ends the list; so as many turns as
-- there are 32-bit numbers are enough.
unfoldable pub numbers_from : ℕ → ℕ → List ℕ → ℕ → ℕ → List ℕ
numbers_from zero types w last x = []
numbers_from (suc n) types w last x =
    elim (ltb last x) [ true ↦ get_word w (taken_p types x) ∷ numbers_from n types w x (get_word w (next_p types x)) | false ↦ [] ]

-- the taken numbers of the name of class c
unfoldable pub taken_at : ℕ → List ℕ → ℕ → List ℕ
taken_at types w c = numbers_from 4294967296 types w 0 (get_word w (head_p types c))

-- the number that holder h gets next
unfoldable pub number_at : ℕ → List ℕ → ℕ → ℕ
number_at types w h = number_over (taken_at types w (get_word w (class_p types h))) (count_after (class_p types) (count_p types) w h)
