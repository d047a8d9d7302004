-- One chain at two ways of keeping a word: its place in the text, as the code keeps it, and its bytes.
use Rattle.std.specs.Prelude.{ℕ, ◌-◌, ◌≡◌, List, [], ◌∷◌, length, take, drop}
use Rattle.session_declaration_reader.specs.grammar.Chain.{Layers, named, pointer, array, proto, Params, closed, dots, param, Chain}
use Rattle.session_declaration_reader.specs.reader.Reading.{Read, chain, refused, read_with, read}
use Rattle.session_declaration_reader.specs.tokens.Looking.{Span, places}

-- a chain with each of its words v replaced by f v
module _ {U W : Type 0} (f : U → W) where
  abbrev pub each_word : List U → List W
  each_word [] = []
  each_word (v ∷ vs) = f v ∷ each_word vs

  abbrev mutual
    pub each_layer : Layers U → Layers W
    each_layer named = named
    each_layer (pointer q l) = pointer q (each_layer l)
    each_layer (array n l) = array n (each_layer l)
    each_layer (proto ps l) = proto (each_param ps) (each_layer l)

    pub each_param : Params U → Params W
    each_param closed = closed
    each_param dots = dots
    each_param (param q ws l ps) = param q (each_word ws) (each_layer l) (each_param ps)

  abbrev pub each_chain : Chain U → Chain W
  each_chain c = record { quals = c.quals; words = each_word c.words; layers = each_layer c.layers }

  abbrev pub each_read : Read U → Read W
  each_read (chain c) = chain (each_chain c)
  each_read refused = refused

-- the bytes of the text at a place
abbrev pub bytes_at : List ℕ → Span → List ℕ
bytes_at s w = take (w.to - w.from) (drop w.from s)

-- Reading with words as places is reading with words as bytes, each place taken to the bytes of the text there (proofs/Natural).
abbrev pub SameAtPlaces : Type 0
SameAtPlaces = (s : List ℕ) → read s ≡ each_read (bytes_at s) (read_with (places (length s)) s)
