-- What a mark of emission leaves alone, and the places of the order list. Assumes nothing.
use Prim.Native.Nat.{ℕ}
use mathlib.Core.Path.{◌≡◌}
use mathlib.Core.List.{List}
use native.Mathlib.Omega.{arith}
use Rattle.spec_type_table.specs.declared.types.TypeTable.{TypeTable}
use Rattle.spec_type_table.specs.Cells.{get_field, put_field}
use Rattle.spec_type_table.specs.Table.{btf_of}
use Rattle.spec_type_table.proofs.Frame.{table_field}

-- the type table
pub table_emark : (b : TypeTable) (s : List ℕ) (w : List ℕ) (x v : ℕ) → btf_of b s (put_field w x 13 v) ≡ btf_of b s w
table_emark b s w x v = table_field w x 13 v (omega arith) b s (λ e. omega arith) (λ e. omega arith) (λ e. omega arith)

-- the places of the order list
abbrev pub places : List ℕ → ℕ → ℕ
places w k = get_field w k 11
