-- The text of a pad, and of a line of its own.
use Rattle.std.specs.Prelude.{ℕ, true, false, List, [], ◌++◌, eqb}
use Rattle.spec_bytes.specs.text.Text.{ascii, pfx}
use Rattle.spec_bytes.specs.text.Decimal.{decimal}
use Rattle.spec_c_dumper.specs.rules.Layout.{Pad}
use Rattle.spec_c_dumper.specs.rules.Decl.{unit_word}

-- one pad of `pads`
unfoldable pub pad_line : ℕ → Pad → List ℕ
pad_line lvl p = ascii "\n" ++ pfx lvl ++ unit_word p.unit ++ ascii ": " ++ decimal p.width ++ ascii ";"

-- the newline of a body that has pads and no member
unfoldable pub lone_line : ℕ → List ℕ
lone_line i = elim (eqb i 0) [ true ↦ ascii "\n" | false ↦ [] ]
