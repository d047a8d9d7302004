-- The session record as it crosses to C: sixteen words of 64 bits, least significant byte first. Word 0 is 1 while the session is open;
-- then section length, work length, types, enumerators, text length, pointer size, modes, visits, and seven words of zero.
use Rattle.std.specs.Prelude.{ℕ, zero, suc, ◌+◌, ◌*◌, ◌/◌, ◌%◌, List, [], ◌∷◌, eqb}
use Rattle.spec_bytes.specs.words.Words.{get_word, put_word}
use Rattle.spec_session.specs.session.Answers.{Answer, number_of, value_of}
use Rattle.spec_session.specs.declared.session.Session.{Session}

-- word i, and the bytes with word i set to v
unfoldable pub get_long : List ℕ → ℕ → ℕ
get_long r i = get_word r (i * 2 + 1) * 4294967296 + get_word r (i * 2)

unfoldable pub put_long : List ℕ → ℕ → ℕ → List ℕ
put_long r i v = put_word (put_word r (i * 2) (v % 4294967296)) (i * 2 + 1) (v / 4294967296)

-- the words from i on
unfoldable pub put_longs : List ℕ → ℕ → List ℕ → List ℕ
put_longs r i [] = r
put_longs r i (v ∷ vs) = put_longs (put_long r i v) (suc i) vs

-- the session that the bytes say; of a word that holds 32 bits the upper half does not matter
unfoldable pub decoded : List ℕ → Session
decoded r = record {
  «open» = eqb (get_long r 0) 1;
  section_len = get_long r 1;
  work_len = get_long r 2;
  types = get_word r 6;
  enumerators = get_word r 8;
  text_len = get_word r 10;
  pointer_size = get_word r 12;
  modes = get_word r 14;
  visits = get_word r 16;
}

-- the words of a session that is open, from its text length on, and whole
abbrev pub last_words : Session → List ℕ
last_words s = s.text_len ∷ s.pointer_size ∷ s.modes ∷ s.visits ∷ 0 ∷ 0 ∷ 0 ∷ 0 ∷ 0 ∷ 0 ∷ 0 ∷ []

abbrev pub words_of : Session → List ℕ
words_of s = 1 ∷ s.section_len ∷ s.work_len ∷ s.types ∷ s.enumerators ∷ last_words s

unfoldable pub encoded_last : Session → List ℕ → List ℕ
encoded_last s r = put_longs r 5 (last_words s)

unfoldable pub encoded : Session → List ℕ → List ℕ
encoded s r = put_longs r 0 (words_of s)

-- the first n of the seven words that are not used, zeroed
unfoldable pub unused_zero : ℕ → List ℕ → List ℕ
unused_zero zero r = r
unused_zero (suc n) r = put_long (unused_zero n r) (9 + n) 0

-- what a request writes: the length of the text, and the visits
unfoldable pub put_reached : List ℕ → ℕ → ℕ → List ℕ
put_reached r len v = put_long (put_long r 5 len) 8 v

-- an answer: the number in the upper half of 64 bits, the value in the lower
unfoldable pub packed : Answer → ℕ
packed a = number_of a * 4294967296 + value_of a
