-- When no suffix is passed over, whatever is requested.
use Rattle.std.specs.Prelude.{ℕ, ◌≤◌}
use mathlib.Core.List.{◌++◌, Memᴰ}
use Rattle.spec_bytes.specs.text.Text.{ascii}
use Rattle.spec_bytes.specs.text.Decimal.{decimal}
use Rattle.spec_c_dumper.specs.rules.Types.{Name, Btf}
use Rattle.spec_c_dumper.specs.rules.Names.{Space}
use Rattle.spec_c_dumper.specs.names_apart.Apart.{table_names}

-- no name of the table is another name of its space with three underscores and a number from 2 on
abbrev pub Suffixless : Btf → Type 0
Suffixless B =
    (space : Space) (x : Name) → Memᴰ x (table_names B space) → (n : ℕ) → 2 ≤ n → n ≤ 4294967295
    → Memᴰ (x ++ ascii "___" ++ decimal n) (table_names B space) → ⊥
