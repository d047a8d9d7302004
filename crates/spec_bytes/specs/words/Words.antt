-- A list of bytes used as 32-bit little-endian words: word i is the bytes 4i to 4i + 3.
use Rattle.std.specs.Prelude.{ℕ, zero, suc, ◌+◌, ◌*◌, ◌/◌, ◌%◌, List, [], ◌∷◌, Bool, true, false, length, get_or, set, ltb}

-- the number whose bytes, lowest first, stand at `at`
abbrev pub join_at : List ℕ → ℕ → ℕ
join_at b at = get_or b at 0 + get_or b (at + 1) 0 * 256 + get_or b (at + 2) 0 * 65536 + get_or b (at + 3) 0 * 16777216

abbrev pub pick : Bool → ℕ → ℕ → ℕ
pick true x y = x
pick false x y = y

-- word i, and 0 past the last whole word
unfoldable pub get_word : List ℕ → ℕ → ℕ
get_word b i = pick (ltb i (length b / 4)) (join_at b (i * 4)) 0

abbrev pub set_word : List ℕ → ℕ → ℕ → List ℕ
set_word b at v = set (set (set (set b at (v % 256)) (at + 1) (v / 256 % 256)) (at + 2) (v / 65536 % 256)) (at + 3) (v / 16777216)

abbrev pub pick_list : Bool → List ℕ → List ℕ → List ℕ
pick_list true x y = x
pick_list false x y = y

-- the bytes with word i set to v; past the last whole word, as they were
unfoldable pub put_word : List ℕ → ℕ → ℕ → List ℕ
put_word b i v = pick_list (ltb i (length b / 4)) (set_word b (i * 4) v) b

-- the word whose bytes start at `at`, and 0 where they do not all lie inside
unfoldable pub word_at : List ℕ → ℕ → ℕ
word_at b at = pick (ltb (at + 3) (length b)) (join_at b at) 0

-- the number whose bytes, highest first, stand at `at`
abbrev pub join_big : List ℕ → ℕ → ℕ
join_big b at = get_or b (at + 3) 0 + get_or b (at + 2) 0 * 256 + get_or b (at + 1) 0 * 65536 + get_or b at 0 * 16777216

-- the word whose bytes, most significant first, start at `at`, and 0 where they do not all lie inside
unfoldable pub word_at_big : List ℕ → ℕ → ℕ
word_at_big b at = pick (ltb (at + 3) (length b)) (join_big b at) 0

-- in the one order, where the first argument is true, or in the other
unfoldable pub word_in : Bool → List ℕ → ℕ → ℕ
word_in true b at = word_at_big b at
word_in false b at = word_at b at

-- a word with its bytes in the other order
abbrev pub turn : ℕ → ℕ
turn w = w % 256 * 16777216 + w / 256 % 256 * 65536 + w / 65536 % 256 * 256 + w / 16777216

-- f at k, k + 1, .., n of them
abbrev pub table : (ℕ → ℕ) → ℕ → ℕ → List ℕ
table f k zero = []
table f k (suc n) = f k ∷ table f (suc k) n

-- all the whole words
unfoldable pub words : List ℕ → List ℕ
words b = table (get_word b) 0 (length b / 4)

-- one more, and no more than a word holds
unfoldable pub one_more : ℕ → ℕ
one_more n = pick (ltb n 4294967295) (n + 1) n
