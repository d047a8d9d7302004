-- What the code sees of the tokens at a place of the text.
use Rattle.std.specs.Prelude.{ℕ, Bool, Option, Some, None, ◌+◌, ◌-◌, ◌≤◌, ◌<◌, ◌≡◌}
use Rattle.std.specs.Prelude.{List, [], ◌∷◌, true, false, eqb, length, get_or, take, drop}
use Rattle.spec_c_dumper.specs.rules.Types as rules
use Rattle.spec_c_dumper.specs.rules.Types.{volatile, const, restrict}
use Rattle.session_declaration_reader.specs.tokens.Tokens.{tag_word, void_word, other_word, Token, qual, word, number, mark, rest}
use Rattle.session_declaration_reader.specs.tokens.Tokens.{is_count, value_of, tokens, word_token, run_token}
use Rattle.session_declaration_reader.specs.declared.token_kind.Qualifier as declared
use Rattle.session_declaration_reader.specs.declared.token_kind.Qualifier.TheVariants.{Const, Volatile, Restrict}
use Rattle.session_declaration_reader.specs.declared.token_kind.TokenKind.{TokenKind}
use Rattle.session_declaration_reader.specs.declared.token_kind.TokenKind.TheVariants.{End, Qualifier, Tag, Void, Word, Count, Mark}
use Rattle.session_declaration_reader.specs.declared.tokens.Tok.{Tok}
use Rattle.session_declaration_reader.specs.declared.tokens.Cursor.{Cursor}

-- where a word stands in the text
pub record Span : Type 0 where
  pub from : ℕ
  pub to : ℕ

-- a word kept as its place in a text of n bytes
abbrev pub places : ℕ → ℕ → List ℕ → Span
places n left run = record { from = n - (left + length run); to = n - left }

-- the tokens of the text s from a place on
unfoldable pub tokens_at : List ℕ → ℕ → List (Token Span)
tokens_at s at = tokens (places (length s)) [] (drop at s)

abbrev pub tokens_from : Cursor → List (Token Span)
tokens_from c = tokens_at c.text.now c.at

abbrev pub kind_of_qualifier : rules.Qualifier → declared.Qualifier
kind_of_qualifier const = Const
kind_of_qualifier volatile = Volatile
kind_of_qualifier restrict = Restrict

abbrev pub token_kind : {W : Type 0} → Token W → TokenKind
token_kind (qual q) = Qualifier (kind_of_qualifier q)
token_kind (word tag_word w) = Tag
token_kind (word void_word w) = Void
token_kind (word other_word w) = Word
token_kind (number n) = Count n
token_kind (mark b) = Mark b

-- what the next token is
unfoldable pub next_kind : {W : Type 0} → List (Token W) → TokenKind
next_kind [] = End
next_kind (t ∷ ts) = token_kind t

abbrev pub qualifier_code : declared.Qualifier → ℕ
qualifier_code Const = 1
qualifier_code Volatile = 2
qualifier_code Restrict = 3

-- a word that is no qualifier
abbrev pub is_word_kind : TokenKind → Bool
is_word_kind End = false
is_word_kind (Qualifier q) = false
is_word_kind Tag = true
is_word_kind Void = true
is_word_kind Word = true
is_word_kind (Count n) = false
is_word_kind (Mark b) = false

-- the mark of that byte
abbrev pub is_mark_kind : ℕ → TokenKind → Bool
is_mark_kind m End = false
is_mark_kind m (Qualifier q) = false
is_mark_kind m Tag = false
is_mark_kind m Void = false
is_mark_kind m Word = false
is_mark_kind m (Count n) = false
is_mark_kind m (Mark b) = eqb b m

-- the place of the next word, or another one
abbrev pub token_span : Token Span → Span → Span
token_span (qual q) d = d
token_span (word k w) d = w
token_span (number n) d = d
token_span (mark b) d = d

unfoldable pub span_of : List (Token Span) → Span → Span
span_of [] d = d
span_of (t ∷ ts) d = token_span t d

-- the next token at a place, and where it starts and ends
pub record Looked (s : List ℕ) (at : ℕ) (t : Tok) : Type 0 where
  pub kind_is : t.kind ≡ next_kind (tokens_at s at)
  pub span_is : span_of (tokens_at s at) (record { from = t.start; to = t.end }) ≡ record { from = t.start; to = t.end }
  pub rest_is : tokens_at s t.end ≡ rest (tokens_at s at)
  pub forward : (t.kind ≡ End → ⊥) → at < t.end
  pub inside : (t.kind ≡ End → ⊥) → t.end ≤ length s

-- the value of a count
unfoldable pub count_value : List ℕ → Option ℕ
count_value run = elim (is_count run) [ true ↦ Some (value_of 0 run) | false ↦ None ]

-- what a run is
abbrev pub word_kind : List ℕ → TokenKind
word_kind run = token_kind {W = ℕ} (word_token run 0)

abbrev pub run_kind : List ℕ → TokenKind
run_kind run = token_kind {W = ℕ} (run_token run 0)

-- where the first byte from a place on stands that is no space
pub record Skipped (s : List ℕ) (at r : ℕ) : Type 0 where
  pub forward : at ≤ r
  pub same_tokens : tokens_at s r ≡ tokens_at s at
  pub no_space : r < length s → get_or s r 0 ≡ 32 → ⊥

-- where a run that starts at a place ends
pub record Ran (s : List ℕ) (at r : ℕ) : Type 0 where
  pub some : at < r
  pub inside : r ≤ length s
  pub token_is : tokens_at s at ≡ run_token (take (r - at) (drop at s)) (record { from = at; to = r }) ∷ tokens_at s r
