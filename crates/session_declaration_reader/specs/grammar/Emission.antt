-- What the code of the grammar leaves: entries stored one after another, and the tokens behind what was read.
use Rattle.std.specs.Prelude.{ℕ, Option, Some, None, Bool, true, false, List, ◌∷◌, ◌++◌}
use Rattle.session_declaration_reader.specs.grammar.Chain.{Layers, named, pointer, array, proto, Params, dots}
use Rattle.session_declaration_reader.specs.tokens.Tokens.{Token}
use Rattle.session_declaration_reader.specs.grammar.Grammar.{Reads, reads, fails, and_then, wanted, wanted_count, declarator, suffixes}
use Rattle.session_declaration_reader.specs.grammar.Grammar.{params}
use Rattle.session_declaration_reader.specs.bases.Bases.{distinct, qual_run, after_quals}
use Rattle.session_declaration_reader.specs.tokens.Looking.{Span, tokens_at}
use Rattle.session_declaration_reader.specs.bases.Items.{Item, item, Placed, placing}
use Rattle.session_declaration_reader.specs.grammar.Encoding.{any_params, base_kind, param_items}
use Rattle.session_declaration_reader.specs.bases.Looking.{base_items}
use Rattle.session_declaration_reader.specs.declared.bases.Base.{Base}

pub data Done : Type 0 where
  done : List (Token Span) → Placed → Done
  none : Done

-- what was read, stored as entries from the n-th on
unfoldable pub emits : {A : Type 0} → (A → List Item) → List ℕ → ℕ → Reads Span A → Done
emits f t n (reads a ts) = done ts (placing t n (f a))
emits f t n fails = none

-- what a place of the text and the entries stored say
unfoldable pub outcome : List ℕ → Option ℕ → Placed → Done
outcome s (Some at) p = done (tokens_at s at) p
outcome s None p = none

-- a prototype and its parameters
abbrev pub proto_items : Params Span → List Item
proto_items ps = item 4 (any_params ps) 0 ∷ param_items ps

-- behind a parameter's layers: its base, and the parameters after it
abbrev pub behind_items : Base → Params Span → List Item
behind_items b ps = base_items b (base_kind ps) ++ param_items ps

-- behind a star
unfoldable pub starred : ℕ → Bool → List (Token Span) → Reads Span (Layers Span)
starred f n us =
    elim (distinct (qual_run us)) [
      | true ↦ and_then (declarator f n (after_quals us)) (λ l vs. reads (pointer (qual_run us) l) vs)
      | false ↦ fails
    ]

-- behind an opening parenthesis of a declarator
unfoldable pub in_brackets : ℕ → Bool → List (Token Span) → Reads Span (Layers Span)
in_brackets f n ts = and_then (declarator f n ts) (λ l us. wanted 41 us (λ vs. suffixes f l vs))

-- behind an opening bracket
unfoldable pub counts : ℕ → List (Token Span) → Reads Span (Layers Span)
counts f ts = wanted_count ts (λ n us. suffixes f (array n named) us)

-- behind the opening parenthesis of a parameter list
unfoldable pub protos : ℕ → List (Token Span) → Reads Span (Layers Span)
protos f ts = and_then (params f ts) (λ ps us. suffixes f (proto ps named) us)

-- behind `...`
unfoldable pub dots_end : List (Token Span) → Reads Span (Params Span)
dots_end ts = wanted 41 ts (λ us. reads dots us)
