-- The reader under any bound on open calls: which texts are declarations, and that the bound of 2056 loses none of at most 512 entries.
use Rattle.std.specs.Prelude.{ℕ, ◌≤◌, ◌<◌, ◌≡◌, true, List, []}
use Rattle.session_declaration_reader.specs.grammar.Chain.{Chain, entries}
use Rattle.session_declaration_reader.specs.tokens.Tokens.{Token, tokens}
use Rattle.session_declaration_reader.specs.grammar.Grammar.{Reads, reads, and_then, read_base, declarator}
use Rattle.session_declaration_reader.specs.bases.Bases.{words_of}
use Rattle.session_declaration_reader.specs.reader.Reading.{as_bytes, chain, refused, read}

-- `read_tokens` of the reader under another bound than `most`
unfoldable pub read_under : {W : Type 0} → ℕ → List (Token W) → Reads W (Chain W)
read_under f ts =
    read_base true ts (λ q ss us. and_then (declarator f true us)
    (λ l vs. reads (record { quals = q; words = words_of ss; layers = l }) vs))

-- The text is a declaration with that chain: under some bound the grammar reads the whole of it.
pub record Declares (s : List ℕ) (c : Chain (List ℕ)) : Type 0 where
  pub bound : ℕ
  pub reads_it : read_under bound (tokens as_bytes [] s) ≡ reads c []

-- "19 when the bytes are no such declaration or its chain … would pass 512 entries", and only then (proofs/Bound)
pub record Exactly (s : List ℕ) : Type 0 where
  pub one : (c d : Chain (List ℕ)) → Declares s c → Declares s d → c ≡ d
  pub reads_all : (c : Chain (List ℕ)) → Declares s c → entries c ≤ 512 → read s ≡ chain c
  pub reads_only : (c : Chain (List ℕ)) → read s ≡ chain c → Declares s c × (entries c ≤ 512)
  pub refuses_all : ((c : Chain (List ℕ)) → Declares s c → 512 < entries c) → read s ≡ refused
  pub refuses_only : read s ≡ refused → (c : Chain (List ℕ)) → Declares s c → 512 < entries c
