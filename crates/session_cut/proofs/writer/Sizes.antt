-- What is measured is what is written: the lengths of the header and of the types. Assumes nothing.
use Prim.Native.Nat.{ℕ, zero, suc, ◌+◌, ◌*◌}
use native.Mathlib.Omega.{arith}
use mathlib.Core.Path.{◌≡◌, refl, ◌∙◌, ap}
use mathlib.Core.Bool.{Bool, true, false}
use mathlib.Core.List.{List, []}
use lib.ListN.{length, get_or, length-append}
use lib.Dec.{eqb}
use Rattle.spec_type_table.specs.declared.types.TypeTable.{TypeTable}
use Rattle.btf_open_causes.specs.references.Followed.{entry_at}
use Rattle.session_cut_marks.specs.roles.Words.{words_in}
use Rattle.session_cut_marks.proofs.mentioned.Sizes.{longer}
use Rattle.session_cut.specs.writer.Bytes.{word_bytes, magic_bytes, head_bytes, type_size, types_size, new_word, record_bytes, type_bytes, types_bytes}

word_length : (big : Bool) (v : ℕ) → length (word_bytes big v) ≡ 4
unfolding word_bytes
word_length true v = refl
word_length false v = refl

-- "the header has 24 bytes"
pub head_length : (big : Bool) (flags types strings : ℕ) → length (head_bytes big flags types strings) ≡ 24
unfolding head_bytes word_bytes magic_bytes
head_length true flags types strings = refl
head_length false flags types strings = refl

module _ (b : TypeTable) (s start ids : List ℕ) where
  module _ (bases : List ℕ) where
    record_length : (e n : ℕ) → length (record_bytes b s start ids bases e n) ≡ n * 4
    unfolding record_bytes
    record_length e zero = refl
    record_length e (suc n) = longer (record_bytes b s start ids bases e n) (word_bytes b.big_endian (new_word b s start ids bases e n)) (n * 4) 4 (record_length e n) (word_length b.big_endian (new_word b s start ids bases e n)) ∙ four n
      where
        four : (n : ℕ) → n * 4 + 4 ≡ suc n * 4
        four n = omega arith

    -- the length of the types
    pub types_length : (x : ℕ) → length (types_bytes b s start ids bases x) ≡ types_size b s start ids x
    unfolding types_bytes type_bytes types_size type_size
    types_length zero = refl
    types_length (suc x) =
        length-append (types_bytes b s start ids bases x) (type_bytes b s start ids bases x)
        ∙ ap (λ (k : ℕ). k + length (type_bytes b s start ids bases x)) (types_length x)
        ∙ go (eqb (get_or ids x 0) 0)
      where
        go : (q : Bool) → types_size b s start ids x + length {A = ℕ} (elim q as (λ z. List ℕ) [ true ↦ [] | false ↦ record_bytes b s start ids bases (entry_at b start x) (words_in b s (entry_at b start x)) ])
            ≡ elim q as (λ z. ℕ) [ true ↦ types_size b s start ids x | false ↦ types_size b s start ids x + words_in b s (entry_at b start x) * 4 ]
        go true = omega arith
        go false = ap (λ (k : ℕ). types_size b s start ids x + k) (record_length (entry_at b start x) (words_in b s (entry_at b start x)))
