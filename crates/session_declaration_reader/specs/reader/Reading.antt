-- The reader of one declaration: its text whole, and at most 512 entries.
use Rattle.std.specs.Prelude.{ℕ, true, false, List, [], ◌∷◌, leb}
use Rattle.session_declaration_reader.specs.tokens.Tokens.{Token, tokens}
use Rattle.session_declaration_reader.specs.bases.Bases.{words_of}
use Rattle.session_declaration_reader.specs.grammar.Chain.{Chain, entries}
use Rattle.session_declaration_reader.specs.grammar.Grammar.{Reads, reads, fails, and_then, read_base, declarator}

-- what the reader says of a text: its chain, or 19
pub data Read (W : Type 0) : Type 0 where
  chain : Chain W → Read W
  refused : Read W

-- a bound on open calls; no declaration of at most 512 entries needs more (`proof_declaration_reader`, specs/Enough)
abbrev pub most : ℕ
most = 2056

module _ {W : Type 0} where
  unfoldable pub read_tokens : List (Token W) → Reads W (Chain W)
  read_tokens ts =
      read_base true ts (λ q ss us. and_then (declarator most true us)
      (λ l vs. reads (record { quals = q; words = words_of ss; layers = l }) vs))

  -- "would pass 512 entries"
  unfoldable pub within_most : Chain W → Read W
  within_most c = elim (leb (entries c) 512) [ true ↦ chain c | false ↦ refused ]

  -- nothing may stand behind the declaration
  unfoldable pub whole : Reads W (Chain W) → Read W
  whole (reads c []) = within_most c
  whole (reads c (t ∷ ts)) = refused
  whole fails = refused

  -- the reading of a text, whose words are kept by `keep`
  unfoldable pub read_with : (ℕ → List ℕ → W) → List ℕ → Read W
  read_with keep s = whole (read_tokens (tokens keep [] s))

-- a word kept as its bytes
abbrev pub as_bytes : ℕ → List ℕ → List ℕ
as_bytes left w = w

-- the reader: the chain of a declaration, its base kept as printed, or 19
unfoldable pub read : List ℕ → Read (List ℕ)
read s = read_with as_bytes s
