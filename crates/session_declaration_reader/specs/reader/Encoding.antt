-- How a chain is returned: its entries, from the declared name to the base.
use Rattle.std.specs.Prelude.{ℕ, ◌≡◌, ◌<◌, List, [], ◌∷◌, ◌++◌, length, replicate, Option, Some, None}
use Rattle.session_declaration_reader.specs.tokens.Looking.{Span, places}
use Rattle.session_declaration_reader.specs.bases.Items.{Item, qual_items, Placed, placed, placing}
use Rattle.session_declaration_reader.specs.grammar.Chain.{Chain}
use Rattle.session_declaration_reader.specs.grammar.Encoding.{base_item, layer_items}
use Rattle.session_declaration_reader.specs.reader.Reading.{Read, chain, refused, read_with}

unfoldable pub chain_items : Chain Span → List Item
chain_items c = layer_items c.layers ++ (qual_items c.quals ++ base_item 1 c.words ∷ [])

-- What the reader returns: how many entries, and the words; no entry and words of zero for 19. The words must be at least 1536, three for
-- each of 512 entries.
unfoldable pub placed_chain : List ℕ → Read Span → Placed
placed_chain t (chain c) = placing t 0 (chain_items c)
placed_chain t refused = placed 0 (replicate (length t) 0)

-- a declaration read into lent words
unfoldable pub read_into : List ℕ → List ℕ → Placed
read_into s t = placed_chain t (read_with (places (length s)) s)

-- what the reader's answer says: none is no entry
abbrev pub count_told : Option ℕ → List ℕ → Placed
count_told None t = placed 0 t
count_told (Some n) t = placed n t

-- the same before words of zero are stored; a chain has an entry at least, its base
abbrev pub ReadOut : List ℕ → List ℕ → Option ℕ → List ℕ → Type 0
ReadOut s t None t' = read_with (places (length s)) s ≡ refused
ReadOut s t (Some n) t' = (placed n t' ≡ read_into s t) × (0 < n)
