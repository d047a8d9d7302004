-- What the code sees of the qualifiers and the base at a place of the text, and the entries that it stores of them.
use Rattle.std.specs.Prelude.{ℕ, Option, Some, None, ◌-◌, ◌≡◌, Bool, true, false, not, ◌&&◌, List, [], ◌∷◌, ◌++◌}
use Rattle.spec_c_dumper.specs.rules.Types.{Qualifier, volatile, const, restrict}
use Rattle.session_declaration_reader.specs.declared.token_kind.Qualifier as declared
use Rattle.session_declaration_reader.specs.declared.token_kind.Qualifier.TheVariants.{Const, Volatile, Restrict}
use Rattle.session_declaration_reader.specs.tokens.Tokens.{tag_word, void_word, other_word, Token, qual, word, number, mark, rest}
use Rattle.session_declaration_reader.specs.tokens.Looking.{Span, tokens_at, next_kind, Looked}
use Rattle.session_declaration_reader.specs.declared.token_kind.TokenKind.{TokenKind}
use Rattle.session_declaration_reader.specs.declared.tokens.Tok.{Tok}
use Rattle.session_declaration_reader.specs.bases.Bases.{begins_word, ends_name, distinct, qual_run, after_quals, word_run, after_words}
use Rattle.session_declaration_reader.specs.bases.Bases.{words_of, no_tags, is_base}
use Rattle.session_declaration_reader.specs.bases.Items.{Item, item, qual_items, first_from, last_to}
use Rattle.session_declaration_reader.specs.declared.bases.Quals.{Quals}
use Rattle.session_declaration_reader.specs.declared.bases.Base.{Base}

abbrev pub qualifier : declared.Qualifier → Qualifier
qualifier Const = const
qualifier Volatile = volatile
qualifier Restrict = restrict

-- a qualifier before others, where there is one
abbrev pub qual_of : Option declared.Qualifier → List Qualifier → List Qualifier
qual_of (Some q) qs = qualifier q ∷ qs
qual_of None qs = qs

abbrev pub quals_in : List (Option declared.Qualifier) → List Qualifier
quals_in [] = []
quals_in (q ∷ qs) = qual_of q (quals_in qs)

abbrev pub quals_of : Quals → List Qualifier
quals_of q = quals_in q.list

-- the qualifiers that stand next, and where they end
pub record QualsOf (s : List ℕ) (at : ℕ) (q : Quals) : Type 0 where
  pub apart : distinct (qual_run (tokens_at s at)) ≡ true
  pub list_is : quals_of q ≡ qual_run (tokens_at s at)
  pub rest_is : tokens_at s q.end ≡ after_quals (tokens_at s at)

-- none where one stands twice
abbrev pub QualsAt : List ℕ → ℕ → Option Quals → Type 0
QualsAt s at (Some q) = QualsOf s at q
QualsAt s at None = distinct (qual_run (tokens_at s at)) ≡ false

-- whether a word of the base stands next
unfoldable pub is_base_word : Bool → List (Token Span) → Bool
is_base_word n ts = begins_word ts && not (n && ends_name (rest ts))

-- the word of the base that stands next
abbrev pub BaseWord : List ℕ → ℕ → Bool → Option Tok → Type 0
BaseWord s at n (Some t) = Looked s at t × (true ≡ is_base_word n (tokens_at s at))
BaseWord s at n None = false ≡ is_base_word n (tokens_at s at)

-- what stands behind a `void` that is next
unfoldable pub behind_void : List (Token Span) → Option TokenKind
behind_void [] = None
behind_void (qual q ∷ ts) = None
behind_void (word tag_word w ∷ ts) = None
behind_void (word void_word w ∷ ts) = Some (next_kind ts)
behind_void (word other_word w ∷ ts) = None
behind_void (number n ∷ ts) = None
behind_void (mark b ∷ ts) = None

-- where the words of the base end
pub record AfterWords (s : List ℕ) (at : ℕ) (n : Bool) (r : ℕ) : Type 0 where
  pub rest_is : tokens_at s r ≡ after_words n (tokens_at s at)
  pub to_is : is_base_word n (tokens_at s at) ≡ true → r ≡ last_to (words_of (word_run n (tokens_at s at)))

-- where the last of the words ends; the place itself where there is none
abbrev pub last_or : ℕ → List Span → ℕ
last_or d [] = d
last_or d (w ∷ ws) = last_or w.to ws

abbrev pub Ended : List ℕ → ℕ → Bool → ℕ → Type 0
Ended s at n r = (tokens_at s r ≡ after_words n (tokens_at s at)) × (r ≡ last_or at (words_of (word_run n (tokens_at s at))))

-- the words of the base where none of them is struct, union or enum: where they end; none where one is
abbrev pub Untagged : List ℕ → ℕ → Bool → Option ℕ → Type 0
Untagged s at n (Some r) = Ended s at n r × (true ≡ no_tags (word_run n (tokens_at s at)))
Untagged s at n None = false ≡ no_tags (word_run n (tokens_at s at))

-- the words of a base that stands next: where they end; none where no base does
abbrev pub BaseEnds : List ℕ → ℕ → Bool → Option ℕ → Type 0
BaseEnds s at n (Some r) = AfterWords s at n r × (true ≡ is_base (word_run n (tokens_at s at)))
BaseEnds s at n None = false ≡ is_base (word_run n (tokens_at s at))

-- whether a base stands next, with its qualifiers
unfoldable pub begins_base : List ℕ → ℕ → Bool → Bool
begins_base s at n = distinct (qual_run (tokens_at s at)) && is_base (word_run n (after_quals (tokens_at s at)))

-- that base
pub record BaseOf (s : List ℕ) (at : ℕ) (n : Bool) (b : Base) : Type 0 where
  pub begun : begins_base s at n ≡ true
  pub quals_are : quals_of b.quals ≡ qual_run (tokens_at s at)
  pub from_is : b.start ≡ first_from (words_of (word_run n (after_quals (tokens_at s at))))
  pub to_is : b.end ≡ last_to (words_of (word_run n (after_quals (tokens_at s at))))
  pub rest_is : tokens_at s b.end ≡ after_words n (after_quals (tokens_at s at))

abbrev pub BaseAt : List ℕ → ℕ → Bool → Option Base → Type 0
BaseAt s at n (Some b) = BaseOf s at n b
BaseAt s at n None = begins_base s at n ≡ false

-- the entries of a base and its qualifiers
abbrev pub base_items : Base → ℕ → List Item
base_items b kind = qual_items (quals_of b.quals) ++ item kind b.start (b.end - b.start) ∷ []
