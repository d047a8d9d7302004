-- All holders of names.
use Rattle.std.specs.Prelude.{ℕ, ◌+◌, ◌-◌, ◌*◌, ◌/◌, List, true, false, length, ltb, Option, None, Some}
use Rattle.spec_bytes.specs.words.Words.{get_word, put_word}

-- how many there are, if they can be numbered and the work has the words of each
unfoldable pub holders_in : ℕ → ℕ → List ℕ → Option ℕ
holders_in types e w =
    elim (ltb (4294967295 - types) e) [
      | true ↦ None
      | false ↦ elim (ltb (length w / 4) (types * 16 + e * 8)) [ true ↦ None | false ↦ Some (types + e) ]
    ]

-- v put at the word `first` of a list, and what stood there at the word `next`
abbrev pub linked : ℕ → ℕ → ℕ → List ℕ → List ℕ
linked first next v w = put_word (put_word w next (get_word w first)) first v
