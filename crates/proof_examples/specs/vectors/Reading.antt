-- Written by tools/vectors.py. The types that the bytes of a section spell, record after record, each read as the table of spec_type_table reads it.
use Rattle.std.specs.Prelude.{ℕ, zero, suc, ◌+◌, ◌*◌, ◌-◌, true, false, List, [], ◌∷◌, length, ltb, leb, Some, None}
use Prim.Native.String.{String}
use Rattle.spec_bytes.specs.text.Text.{ascii}
use Rattle.spec_linux_btf.specs.Section.{is_big_endian, word_of}
use Rattle.spec_c_dumper.specs.rules.Types.{BtfType, Void}
use Rattle.spec_c_dumper.specs.rules.Listed.{listed}
use Rattle.spec_c_dumper.specs.needs.Session.{program}
use Rattle.spec_type_table.specs.declared.types.TypeTable.{TypeTable}
use Rattle.spec_type_table.specs.Records.{vlen_of, kind_of, extra_of, record_at}
use Rattle.spec_type_table.specs.Table.{type_of}

-- 0 to 9, a to f
abbrev pub digit : ℕ → ℕ
digit c = elim (leb 97 c) [ true ↦ c - 87 | false ↦ c - 48 ]

-- the bytes, two digits each
unfoldable pub pairs : List ℕ → List ℕ
pairs [] = []
pairs (a ∷ []) = []
pairs (a ∷ b ∷ l) = (digit a * 16 + digit b) ∷ pairs l

-- the records from a place on: n at most
unfoldable pub types_from : TypeTable → List ℕ → ℕ → ℕ → ℕ → List BtfType
types_from b s end zero at = []
types_from b s end (suc n) at =
    let r = record_at b s at in
    elim (ltb at end) [
      | false ↦ []
      | true ↦ elim (extra_of (kind_of r.info) (vlen_of r.info)) [ Some k ↦ type_of b s r ∷ types_from b s end n (at + 12 + k) | None ↦ [] ]
    ]

-- struct btf_header: hdr_len at 4, type_off at 8, type_len at 12, str_off at 16
unfoldable pub types_of : List ℕ → List BtfType
types_of s = Void ∷ types_from
    (record { ptr_sz = 8; union_as_struct = false; big_endian = is_big_endian s; strong_arrays = false; placing = false; types = 0; strs = word_of s 4 + word_of s 16 })
    s
    (word_of s 4 + word_of s 8 + word_of s 12)
    (length s)
    (word_of s 4 + word_of s 8)

-- what the rules read and print, and what is to be read and was printed
pub record Printed : Type 0 where
  pub read : List BtfType
  pub types : List BtfType
  pub is : List ℕ
  pub wanted : List ℕ

-- section, types, text
abbrev pub prints : String → List BtfType → String → Printed
prints section types text = record {
  read = types_of (pairs (ascii section));
  types = types;
  is = program (listed 8 false types);
  wanted = ascii text;
}

abbrev pub all_read : List Printed → List (List BtfType)
all_read [] = []
all_read (p ∷ ps) = p.read ∷ all_read ps

abbrev pub all_types : List Printed → List (List BtfType)
all_types [] = []
all_types (p ∷ ps) = p.types ∷ all_types ps

abbrev pub all_given : List Printed → List (List ℕ)
all_given [] = []
all_given (p ∷ ps) = p.is ∷ all_given ps

abbrev pub all_wanted : List Printed → List (List ℕ)
all_wanted [] = []
all_wanted (p ∷ ps) = p.wanted ∷ all_wanted ps
