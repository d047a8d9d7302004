-- The tokens of a declaration's text: "spaces may stand around tokens".
use Rattle.std.specs.Prelude.{ℕ, ◌+◌, ◌-◌, ◌*◌, Bool, true, false, not, ◌&&◌, ◌||◌, List, [], ◌∷◌, ◌++◌, length, ltb, leb, eqb}
use Rattle.spec_bytes.specs.text.Text.{ascii}
use Rattle.spec_c_dumper.specs.rules.Types.{Qualifier, volatile, const, restrict, is_empty}
use Rattle.spec_c_dumper.specs.rules.Names.{same_bytes}
use Rattle.spec_c_dumper.specs.rules.Decl.{qualifier}

-- `struct`, `union` or `enum`; `void`; any other word
pub data Kind : Type 0 where
  tag_word void_word other_word : Kind

-- a mark is a byte that stands by itself; 46 is `...`, and 0 is what is no token
pub data Token (W : Type 0) : Type 0 where
  qual : Qualifier → Token W
  word : Kind → W → Token W
  number : ℕ → Token W
  mark : ℕ → Token W

unfoldable pub is_digit : ℕ → Bool
is_digit b = ltb 47 b && ltb b 58

unfoldable pub is_letter : ℕ → Bool
is_letter b = (ltb 64 b && ltb b 91) || (ltb 96 b && ltb b 123) || eqb b 95

unfoldable pub is_word_byte : ℕ → Bool
is_word_byte b = is_letter b || is_digit b

-- a byte that does not stand by itself: of a word, of a number, or of `...`
unfoldable pub in_run : ℕ → Bool
in_run b = is_word_byte b || eqb b 46

unfoldable pub all_of : (ℕ → Bool) → List ℕ → Bool
all_of f [] = true
all_of f (b ∷ s) = f b && all_of f s

-- a C identifier: a letter or _, then letters, digits and _
unfoldable pub identifier : List ℕ → Bool
identifier [] = false
identifier (b ∷ s) = is_letter b && all_of is_word_byte s

-- the number that digits mean after n
unfoldable pub value_of : ℕ → List ℕ → ℕ
value_of n [] = n
value_of n (d ∷ s) = value_of (n * 10 + (d - 48)) s

-- "a count is decimal without leading zeros and at most 4294967295"
unfoldable pub is_count : List ℕ → Bool
is_count [] = false
is_count (d ∷ s) = all_of is_digit (d ∷ s) && (is_empty s || not (eqb d 48)) && leb (value_of 0 (d ∷ s)) 4294967295

unfoldable pub kind_of : List ℕ → Kind
kind_of w =
    elim (same_bytes w (ascii "struct") || same_bytes w (ascii "union") || same_bytes w (ascii "enum")) [
      | true ↦ tag_word
      | false ↦ elim (same_bytes w (ascii "void")) [ true ↦ void_word | false ↦ other_word ]
    ]

unfoldable pub is_qualifier : List ℕ → Bool
is_qualifier w = same_bytes w (qualifier const) || same_bytes w (qualifier volatile) || same_bytes w (qualifier restrict)

module _ {W : Type 0} where
  -- what follows the next token
  unfoldable pub rest : List (Token W) → List (Token W)
  rest [] = []
  rest (t ∷ ts) = ts

  -- the token of an identifier
  unfoldable pub word_token : List ℕ → W → Token W
  word_token run w =
      elim (same_bytes run (qualifier const)) [
        | true ↦ qual const
        | false ↦ elim (same_bytes run (qualifier volatile)) [
          | true ↦ qual volatile
          | false ↦ elim (same_bytes run (qualifier restrict)) [ true ↦ qual restrict | false ↦ word (kind_of run) w ]
        ]
      ]

  unfoldable pub run_token : List ℕ → W → Token W
  run_token run w =
      elim (identifier run) [
        | true ↦ word_token run w
        | false ↦ elim (is_count run) [
          | true ↦ number (value_of 0 run)
          | false ↦ elim (same_bytes run (ascii "...")) [ true ↦ mark 46 | false ↦ mark 0 ]
        ]
      ]

  -- the token of a byte that stands by itself, and what follows; a space is none
  unfoldable pub lone : ℕ → List (Token W) → List (Token W)
  lone b ts = elim (eqb b 32) [ true ↦ ts | false ↦ mark b ∷ ts ]

  -- the token of a run that has ended, and what follows
  unfoldable pub ended : (ℕ → List ℕ → W) → List ℕ → ℕ → List (Token W) → List (Token W)
  ended keep [] left ts = ts
  ended keep (b ∷ run) left ts = run_token (b ∷ run) (keep left (b ∷ run)) ∷ ts

  -- The tokens of a text, after the bytes of a run that has begun. A word is kept by the number of bytes behind it and its own bytes.
  unfoldable pub tokens : (ℕ → List ℕ → W) → List ℕ → List ℕ → List (Token W)
  tokens keep run [] = ended keep run 0 []
  tokens keep run (b ∷ s) =
      elim (in_run b) [
        | true ↦ tokens keep (run ++ b ∷ []) s
        | false ↦ ended keep run (length (b ∷ s)) (lone b (tokens keep [] s))
      ]
