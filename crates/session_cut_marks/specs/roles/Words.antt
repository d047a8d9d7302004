-- The words of a record, by the kind 0 to 19: how many there are, and which of them are name offsets and which are ids.
use Rattle.std.specs.Prelude.{ℕ, zero, suc, ◌+◌, ◌-◌, ◌*◌, ◌/◌, ◌%◌, true, false, List, get_or, ltb, eqb}
use Rattle.spec_bytes.specs.text.Text.{ascii}
use Rattle.spec_type_table.specs.declared.types.TypeTable.{TypeTable}
use Rattle.spec_type_table.specs.Records.{section_word, vlen_of}
use Rattle.session_cut_marks.specs.declared.roles.Role.{Role}
use Rattle.session_cut_marks.specs.declared.roles.Role.TheVariants.{Name, Id, Plain}

-- digit i of a text of digits, and 0 past its end
unfoldable pub digit_at : List ℕ → ℕ → ℕ
digit_at l i = get_or l i 48 - 48

-- words of every record of a kind, and words of an entry
unfoldable pub fixed_words : ℕ → ℕ
fixed_words kind = digit_at (ascii "34363333333333433433") kind

unfoldable pub entry_words : ℕ → ℕ
entry_words kind = digit_at (ascii "00003320000002030003") kind

-- the row of a kind: its first six words; 1 is a name offset, 2 a stored id, 0 all else
unfoldable pub roles : List ℕ
roles =
    ascii "000000100000102000100220100120100120100100100000102000102000102000102000102000102120102000100200100000102000102000100100"

-- entries, of two or three words, repeat from word 3 on
unfoldable pub column : ℕ → ℕ → ℕ
column per j =
    elim (ltb j 3) [
      | true ↦ j
      | false ↦ elim (eqb per 0) [ true ↦ j | false ↦ elim (eqb per 2) [ true ↦ 3 + (j - 3) % 2 | false ↦ 3 + (j - 3) % 3 ] ]
    ]

-- what word j of a record is
unfoldable pub role : ℕ → ℕ → ℕ
role kind j = digit_at roles (kind * 6 + column (entry_words kind) j)

-- what the digit says
unfoldable pub role_of : ℕ → Role
role_of zero = Plain
role_of (suc zero) = Name
role_of (suc (suc zero)) = Id
role_of (suc (suc (suc d))) = Plain

-- e: place * 32 + kind
module _ (b : TypeTable) (s : List ℕ) (e : ℕ) where
  unfoldable pub words_in : ℕ
  words_in = fixed_words (e % 32) + entry_words (e % 32) * vlen_of (section_word b s (e / 32 + 4))

  unfoldable pub word_of : ℕ → ℕ
  word_of j = section_word b s (e / 32 + j * 4)
