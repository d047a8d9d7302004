-- The words of types and enumerators in the lent work.
use Rattle.std.specs.Prelude.{ℕ, ◌+◌, ◌*◌, ◌-◌, true, false, List, ltb}
use Rattle.spec_bytes.specs.words.Words.{get_word, put_word, one_more}

-- word f of type id
abbrev pub get_field : List ℕ → ℕ → ℕ → ℕ
get_field w id f = get_word w (id * 16 + f)

abbrev pub put_field : List ℕ → ℕ → ℕ → ℕ → List ℕ
put_field w id f v = put_word w (id * 16 + f) v

-- the place of a word of holder h: word f of a type, word g of an enumerator
unfoldable pub place_of : ℕ → ℕ → ℕ → ℕ → ℕ
place_of types f g h = elim (ltb h types) [ true ↦ h * 16 + f | false ↦ types * 16 + (h - types) * 8 + g ]

-- the words of name holders: the class of a name, and at its class the count of its holders so far
abbrev pub class_p : ℕ → ℕ → ℕ
class_p types = place_of types 5 1

abbrev pub count_p : ℕ → ℕ → ℕ
count_p types = place_of types 6 2

-- the work with one more at a word
unfoldable pub with_more : List ℕ → ℕ → List ℕ
with_more w i = elim (ltb (get_word w i) 4294967295) [ true ↦ put_word w i (get_word w i + 1) | false ↦ w ]

-- the count that h gets next, at its class, and the work after that
unfoldable pub count_after : (class count : ℕ → ℕ) → List ℕ → ℕ → ℕ
count_after class count w h = one_more (get_word w (count (get_word w (class h))))

unfoldable pub count_raised : (class count : ℕ → ℕ) → List ℕ → ℕ → List ℕ
count_raised class count w h = with_more w (count (get_word w (class h)))
