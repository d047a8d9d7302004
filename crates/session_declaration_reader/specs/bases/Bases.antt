-- The qualifiers and words of a base, among the tokens of a declaration.
use Rattle.std.specs.Prelude.{ℕ, Bool, true, false, not, ◌&&◌, ◌||◌, List, [], ◌∷◌, eqb}
use Rattle.spec_c_dumper.specs.rules.Types.{Qualifier, volatile, const, restrict}
use Rattle.session_declaration_reader.specs.tokens.Tokens.{Kind, tag_word, void_word, other_word, Token, qual, word, number, mark, rest}

-- a word of a base, with its kind
pub data Spelt (W : Type 0) : Type 0 where
  spelt : Kind → W → Spelt W

abbrev pub same_qualifier : Qualifier → Qualifier → Bool
same_qualifier volatile volatile = true
same_qualifier volatile const = false
same_qualifier volatile restrict = false
same_qualifier const volatile = false
same_qualifier const const = true
same_qualifier const restrict = false
same_qualifier restrict volatile = false
same_qualifier restrict const = false
same_qualifier restrict restrict = true

unfoldable pub is_qualifier_among : Qualifier → List Qualifier → Bool
is_qualifier_among q [] = false
is_qualifier_among q (p ∷ qs) = same_qualifier q p || is_qualifier_among q qs

-- "no qualifier stands twice on one spot"
unfoldable pub distinct : List Qualifier → Bool
distinct [] = true
distinct (q ∷ qs) = not (is_qualifier_among q qs) && distinct qs

abbrev pub no_quals : List Qualifier → Bool
no_quals [] = true
no_quals (q ∷ qs) = false

module _ {W : Type 0} where
  abbrev pub is_mark : ℕ → Token W → Bool
  is_mark m (qual q) = false
  is_mark m (word k w) = false
  is_mark m (number n) = false
  is_mark m (mark b) = eqb b m

  -- whether the next token is that mark
  unfoldable pub begins : ℕ → List (Token W) → Bool
  begins m [] = false
  begins m (t ∷ ts) = is_mark m t

  abbrev pub is_word : Token W → Bool
  is_word (qual q) = false
  is_word (word k w) = true
  is_word (number n) = false
  is_word (mark b) = false

  unfoldable pub begins_word : List (Token W) → Bool
  begins_word [] = false
  begins_word (t ∷ ts) = is_word t

  -- "a bracketed declarator begins with a star"
  unfoldable pub bracketed : List (Token W) → Bool
  bracketed ts = begins 40 ts && begins 42 (rest ts)

  -- the qualifiers that stand next, and what follows them
  unfoldable pub qual_run : List (Token W) → List Qualifier
  qual_run [] = []
  qual_run (qual q ∷ ts) = q ∷ qual_run ts
  qual_run (word k w ∷ ts) = []
  qual_run (number n ∷ ts) = []
  qual_run (mark b ∷ ts) = []

  unfoldable pub after_quals : List (Token W) → List (Token W)
  after_quals [] = []
  after_quals (qual q ∷ ts) = after_quals ts
  after_quals (word k w ∷ ts) = word k w ∷ ts
  after_quals (number n ∷ ts) = number n ∷ ts
  after_quals (mark b ∷ ts) = mark b ∷ ts

  -- whether the word before these tokens is the declared name: neither a word nor a star nor a bracketed declarator follows it
  unfoldable pub ends_name : List (Token W) → Bool
  ends_name ts = not (begins_word ts) && not (begins 42 ts) && not (bracketed ts)

  -- the words of the base that stand next, the declared name left out where there is one, and what follows them
  unfoldable pub word_run : Bool → List (Token W) → List (Spelt W)
  word_run n [] = []
  word_run n (qual q ∷ ts) = []
  word_run n (word k w ∷ ts) = elim (n && ends_name ts) [ true ↦ [] | false ↦ spelt k w ∷ word_run n ts ]
  word_run n (number m ∷ ts) = []
  word_run n (mark b ∷ ts) = []

  unfoldable pub after_words : Bool → List (Token W) → List (Token W)
  after_words n [] = []
  after_words n (qual q ∷ ts) = qual q ∷ ts
  after_words n (word k w ∷ ts) = elim (n && ends_name ts) [ true ↦ word k w ∷ ts | false ↦ after_words n ts ]
  after_words n (number m ∷ ts) = number m ∷ ts
  after_words n (mark b ∷ ts) = mark b ∷ ts

  abbrev pub is_tag : Spelt W → Bool
  is_tag (spelt tag_word w) = true
  is_tag (spelt void_word w) = false
  is_tag (spelt other_word w) = false

  unfoldable pub no_tags : List (Spelt W) → Bool
  no_tags [] = true
  no_tags (s ∷ ss) = not (is_tag s) && no_tags ss

  unfoldable pub single : List (Spelt W) → Bool
  single [] = false
  single (s ∷ []) = true
  single (s ∷ t ∷ ss) = false

  -- "a base is `struct`, `union` or `enum` and one tag, or one or more other words"
  unfoldable pub is_base : List (Spelt W) → Bool
  is_base [] = false
  is_base (s ∷ ss) = elim (is_tag s) [ true ↦ single ss | false ↦ no_tags ss ]

  unfoldable pub words_of : List (Spelt W) → List W
  words_of [] = []
  words_of (spelt k w ∷ ss) = w ∷ words_of ss

  -- `void` by itself, before that mark
  unfoldable pub void_before : ℕ → List (Token W) → Bool
  void_before m [] = false
  void_before m (qual q ∷ ts) = false
  void_before m (word tag_word w ∷ ts) = false
  void_before m (word void_word w ∷ ts) = begins m ts
  void_before m (word other_word w ∷ ts) = false
  void_before m (number n ∷ ts) = false
  void_before m (mark b ∷ ts) = false
