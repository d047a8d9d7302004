-- "For covered chains of at most 512 entries that C allows, the written text reads back to the same chain." Assumes nothing.
use Prim.Native.Nat.{ℕ}
use mathlib.Core.Path.{◌≡◌, ap, ◌∙◌}
use mathlib.Core.List.{List}
use borrow.Author.Tests.{le-leb}
use Rattle.session_declaration_reader.specs.grammar.Chain.{Chain, entries}
use Rattle.session_declaration_reader.specs.reader.Reading.{chain, read_tokens, within_most, whole, read_with, read}
use Rattle.proof_declaration_reader.specs.Written.{written, Word, Covered}
use Rattle.proof_declaration_reader.proofs.Grammar.{tokens_read}
use Rattle.proof_declaration_reader.proofs.Lexing.{written_tokens}

few_counted : (c : Chain (List ℕ)) → Covered c → within_most c ≡ chain c
unfolding within_most
few_counted c v = rw (le-leb (entries c) 512 v.few, within_most)

pub round_trip : (c : Chain (List ℕ)) (name : List ℕ) → Covered c → Word name → read (written c name) ≡ chain c
unfolding read read_with whole
round_trip c name v ok =
    ap (λ t. whole (read_tokens t)) (written_tokens c name v ok) ∙ ap whole (tokens_read c name v) ∙ few_counted c v
