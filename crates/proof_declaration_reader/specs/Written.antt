-- The text of a declaration whose chain is given, as emit_type_decl and emit_type_chain write it (proofs/Rules ties the two), and
-- the chains that the reader covers and C allows.
use Rattle.std.specs.Prelude.{ℕ, ◌≤◌, ◌≡◌, Bool, true, false, not, ◌&&◌, List, [], ◌∷◌, ◌++◌}
use Rattle.spec_bytes.specs.text.Text.{ascii}
use Rattle.spec_c_dumper.specs.rules.Types.{Name, Qualifier, is_empty}
use Rattle.spec_c_dumper.specs.rules.Decl.{qualifier, sep_name, brackets}
use Rattle.session_declaration_reader.specs.grammar.Chain.{Layers, named, pointer, array, proto, Params, closed, dots, param, Chain}
use Rattle.session_declaration_reader.specs.grammar.Chain.{entries}
use Rattle.session_declaration_reader.specs.tokens.Tokens.{tag_word, void_word, other_word, identifier, is_qualifier, kind_of}
use Rattle.session_declaration_reader.specs.bases.Bases.{Spelt, spelt, distinct, single, is_base, no_quals}

-- qualifiers before a base: `const `, and so on
unfoldable pub quals_before : List Qualifier → List ℕ
quals_before [] = []
quals_before (q ∷ qs) = qualifier q ++ ascii " " ++ quals_before qs

-- qualifiers of a pointer, behind its star: ` const`, and so on
unfoldable pub quals_behind : List Qualifier → List ℕ
quals_behind [] = []
quals_behind (q ∷ qs) = ascii " " ++ qualifier q ++ quals_behind qs

-- words with a space between them
unfoldable pub words_behind : List (List ℕ) → List ℕ
words_behind [] = []
words_behind (w ∷ ws) = ascii " " ++ w ++ words_behind ws

unfoldable pub spaced : List (List ℕ) → List ℕ
spaced [] = []
spaced (w ∷ ws) = w ++ words_behind ws

unfoldable pub star : Bool → List ℕ
star p = elim p [ true ↦ ascii "*" | false ↦ ascii " *" ]

-- the declared name, if there is one; p says whether a star stands just before
unfoldable pub name_part : Name → Bool → List ℕ
name_part fname p = elim p [ true ↦ fname | false ↦ sep_name fname ]

unfoldable pub gap : Name → Bool → List ℕ
gap fname p = elim (not (is_empty fname) && not p) [ true ↦ ascii " " | false ↦ [] ]

-- what stands before a count; t is the text of the layers around it
unfoldable pub before_count : Layers (List ℕ) → Name → Bool → List ℕ → List ℕ
before_count named fname p t = name_part fname p
before_count (pointer q l) fname p t = gap fname p ++ ascii "(" ++ t ++ ascii ")"
before_count (array n l) fname p t = gap fname p ++ t
before_count (proto ps l) fname p t = gap fname p ++ ascii "(" ++ t ++ ascii ")"

-- and before a parameter list
unfoldable pub before_params : Layers (List ℕ) → Name → Bool → List ℕ → List ℕ
before_params named fname p t = name_part fname p
before_params (pointer q l) fname p t = ascii " (" ++ t ++ ascii ")"
before_params (array n l) fname p t = ascii " (" ++ t ++ ascii ")"
before_params (proto ps l) fname p t = ascii " (" ++ t ++ ascii ")"

unfoldable pub comma : Bool → List ℕ
comma first = elim first [ true ↦ [] | false ↦ ascii ", " ]

unfoldable mutual
  -- what stands behind the base; p says whether a star or an opening parenthesis stands just before
  pub layers_text : Layers (List ℕ) → Name → Bool → List ℕ
  layers_text named fname p = name_part fname p
  layers_text (pointer q l) fname p = star p ++ quals_behind q ++ layers_text l fname (no_quals q)
  layers_text (array n l) fname p = before_count l fname p (layers_text l fname true) ++ brackets n
  layers_text (proto ps l) fname p = before_params l fname p (layers_text l fname true) ++ ascii "(" ++ params_text ps true ++ ascii ")"

  pub params_text : Params (List ℕ) → Bool → List ℕ
  params_text closed first = []
  params_text dots first = comma first ++ ascii "..."
  params_text (param q ws l ps) first = comma first ++ quals_before q ++ spaced ws ++ layers_text l [] false ++ params_text ps false

-- the text of the declaration of a name
unfoldable pub written : Chain (List ℕ) → Name → List ℕ
written c fname = quals_before c.quals ++ spaced c.words ++ layers_text c.layers fname false

-- "All these are C identifiers, none a qualifier word"
pub record Word (w : List ℕ) : Type 0 where
  pub identifies : identifier w ≡ true
  pub unqualified : is_qualifier w ≡ false

abbrev pub Words : List (List ℕ) → Type 0
Words [] = Unit {0}
Words (w ∷ ws) = Word w × Words ws

unfoldable pub spelling : List (List ℕ) → List (Spelt (List ℕ))
spelling [] = []
spelling (w ∷ ws) = spelt (kind_of w) w ∷ spelling ws

-- a base that is covered, with its qualifiers
pub record Base (q : List Qualifier) (ws : List (List ℕ)) : Type 0 where
  pub once : distinct q ≡ true
  pub spells : Words ws
  pub names : is_base (spelling ws) ≡ true

-- C allows no function that returns an array or a function, and no array of functions
abbrev pub returnable : Layers (List ℕ) → Bool
returnable named = true
returnable (pointer q l) = true
returnable (array n l) = false
returnable (proto ps l) = false

abbrev pub is_arrayable : Layers (List ℕ) → Bool
is_arrayable named = true
is_arrayable (pointer q l) = true
is_arrayable (array n l) = true
is_arrayable (proto ps l) = false

abbrev pub starts_with_dots : Params (List ℕ) → Bool
starts_with_dots closed = false
starts_with_dots dots = true
starts_with_dots (param q ws l ps) = false

abbrev pub is_void_word : Spelt (List ℕ) → Bool
is_void_word (spelt tag_word w) = false
is_void_word (spelt void_word w) = true
is_void_word (spelt other_word w) = false

unfoldable pub is_void : List (Spelt (List ℕ)) → Bool
is_void [] = false
is_void (s ∷ ss) = is_void_word s && single (s ∷ ss)

abbrev pub no_layers : Layers (List ℕ) → Bool
no_layers named = true
no_layers (pointer q l) = false
no_layers (array n l) = false
no_layers (proto ps l) = false

-- `void` by itself
unfoldable pub plain_void : List Qualifier → List (Spelt (List ℕ)) → Layers (List ℕ) → Bool
plain_void q ss l = no_quals q && is_void ss && no_layers l

-- the layers and the parameters that are covered and that C allows
abbrev mutual
  pub Allowed : Layers (List ℕ) → Type 0
  Allowed named = Unit {0}
  Allowed (pointer q l) = (distinct q ≡ true) × Allowed l
  Allowed (array n l) = (n ≤ 4294967295) × (is_arrayable l ≡ true) × Allowed l
  Allowed (proto ps l) = (starts_with_dots ps ≡ false) × AllowedParams ps × (returnable l ≡ true) × Allowed l

  pub AllowedParams : Params (List ℕ) → Type 0
  AllowedParams closed = Unit {0}
  AllowedParams dots = Unit {0}
  AllowedParams (param q ws l ps) = Base q ws × (plain_void q (spelling ws) l ≡ false) × Allowed l × AllowedParams ps

-- "covered chains of at most 512 entries that C allows"
pub record Covered (c : Chain (List ℕ)) : Type 0 where
  pub base : Base c.quals c.words
  pub allowed : Allowed c.layers
  pub few : entries c ≤ 512
