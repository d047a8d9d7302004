-- What a caller makes of the entries that the reader leaves: the chain, with the words of each base looked up in the text.
use Rattle.std.specs.Prelude.{ℕ, zero, suc, ◌+◌, ◌*◌, ◌≤◌, ◌<◌, ◌≡◌, Bool, true, false, List, [], ◌∷◌, ◌++◌, length, get_or, take, drop}
use Rattle.std.specs.Prelude.{replicate, eqb}
use Rattle.spec_c_dumper.specs.rules.Types.{Name, Qualifier, volatile, const, restrict}
use Rattle.session_declaration_reader.specs.grammar.Chain.{Layers, named, pointer, array, proto, Params, closed, dots, param, Chain}
use Rattle.session_declaration_reader.specs.grammar.Chain.{entries}
use Rattle.session_declaration_reader.specs.reader.Reading.{Read, chain, refused, read}
use Rattle.session_declaration_reader.specs.bases.Items.{Item, item, Placed, placed}
use Rattle.session_declaration_reader.specs.reader.Encoding.{read_into}
use Rattle.proof_declaration_reader.specs.Written.{written, Word, Covered}

-- n entries of the words t, from entry i on: three words each
unfoldable pub items_from : ℕ → ℕ → List ℕ → List Item
items_from i zero t = []
items_from i (suc n) t = item (get_or t (i * 3) 0) (get_or t (i * 3 + 1) 0) (get_or t (i * 3 + 2) 0) ∷ items_from (suc i) n t

-- a word that has ended, before others
abbrev pub kept : List ℕ → List (List ℕ) → List (List ℕ)
kept [] ws = ws
kept (b ∷ run) ws = (b ∷ run) ∷ ws

-- the words that spaces divide, after the bytes of one that has begun
unfoldable pub split : List ℕ → List ℕ → List (List ℕ)
split run [] = kept run []
split run (b ∷ s) = elim (eqb b 32) [ true ↦ kept run (split [] s) | false ↦ split (run ++ b ∷ []) s ]

-- the words of a base of n bytes
unfoldable pub words_at : List ℕ → ℕ → ℕ → List (List ℕ)
words_at s from n = split [] (take n (drop from s))

unfoldable pub qual_of_code : ℕ → Qualifier
qual_of_code x = elim (eqb x 1) [ true ↦ const | false ↦ elim (eqb x 2) [ true ↦ volatile | false ↦ restrict ] ]

abbrev pub Lay : Type 0
Lay = Layers (List ℕ)

-- Prototypes whose parameters are being taken, the innermost first: the layers up to each, and its parameters before those to come.
pub data Open : Type 0 where
  none : Open
  inside : Lay → (Params (List ℕ) → Params (List ℕ)) → Open → Open

abbrev pub over : List Item → Bool
over [] = true
over (i ∷ is) = false

-- At a base: it ends the chain, or a parameter. `go` takes the entries behind it; `...` is a base of no bytes; kind 6 has another parameter
-- behind it.
unfoldable pub at_base : (Open → Lay → Read (List ℕ)) → Bool → Open → Chain (List ℕ) → ℕ → ℕ → Read (List ℕ)
at_base go last none c kind n = elim last [ true ↦ chain c | false ↦ refused ]
at_base go last (inside l before o) c kind n =
    elim (eqb n 0) [
      | true ↦ go o (proto (before dots) l)
      | false ↦ elim (eqb kind 6) [
        | true ↦ go (inside l (λ ps. before (param c.quals c.words c.layers ps)) o) named
        | false ↦ go o (proto (before (param c.quals c.words c.layers closed)) l)
      ]
    ]

-- At a prototype: x says whether it has parameters.
unfoldable pub at_proto : (Open → Lay → Read (List ℕ)) → Open → Lay → ℕ → Read (List ℕ)
at_proto go o l x = elim (eqb x 0) [ true ↦ go o (proto closed l) | false ↦ go (inside l (λ ps. ps) o) named ]

-- The entries of the text s one after another, from the name to the base: q are the qualifiers that wait for their pointer or base, l
-- the layers up to here. The kinds: 1 and 6 base, 2 pointer, 3 array, 4 prototype, 5 qualifier.
unfoldable pub chain_from : List ℕ → Open → List Qualifier → Lay → List Item → Read (List ℕ)
chain_from s o q l [] = refused
chain_from s o q l (item kind x y ∷ is) =
    elim (eqb kind 2) [
      | true ↦ chain_from s o [] (pointer q l) is
      | false ↦ elim (eqb kind 3) [
        | true ↦ chain_from s o [] (array x l) is
        | false ↦ elim (eqb kind 4) [
          | true ↦ at_proto (λ p k. chain_from s p [] k is) o l x
          | false ↦ elim (eqb kind 5) [
            | true ↦ chain_from s o (q ++ qual_of_code x ∷ []) l is
            | false ↦ at_base (λ p k. chain_from s p [] k is) (over is) o (record { quals = q; words = words_at s x y; layers = l }) kind y
          ]
        ]
      ]
    ]

-- the chain that the number of entries and the words say; none is 19
unfoldable pub decoded : List ℕ → Placed → Read (List ℕ)
decoded s (placed n t) = chain_from s none [] named (items_from 0 n t)

-- The words that the code leaves say what the reader says, for all texts (proofs/Decoding);
-- `read_into` is the contract of read_declaration.
abbrev pub Decodes : Type 0
Decodes = (s t : List ℕ) → 1536 ≤ length t → decoded s (read_into s t) ≡ read s

-- how many entries are left
abbrev pub entries_left : Placed → ℕ
entries_left (placed n t) = n

-- Their number is that of the chain's entries, which is never 0; 0, which is 19, comes "with an empty chain" where the reader refuses.
pub record Numbered (s t : List ℕ) : Type 0 where
  pub counts : (c : Chain (List ℕ)) → read s ≡ chain c → (entries_left (read_into s t) ≡ entries c) × (0 < entries c)
  pub empties : read s ≡ refused → read_into s t ≡ placed 0 (replicate (length t) 0)

-- "For covered chains of at most 512 entries that C allows, the written text reads back to the same chain."
abbrev pub ReadsBack : Type 0
ReadsBack =
    (c : Chain (List ℕ)) (name : Name) → Covered c → Word name → (t : List ℕ) → 1536 ≤ length t
    → decoded (written c name) (read_into (written c name) t) ≡ chain c
