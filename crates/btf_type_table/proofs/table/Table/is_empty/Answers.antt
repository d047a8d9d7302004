use mathlib.Core.Path.{sym, ◌∙◌}
use native.Mathlib.Omega.{arith}
use lib.ListN.{get_or-eq_default}
use borrow.Author.Tests.{eq-eqb}
use Rattle.spec_type_table.proofs.NameLaws as names
use Rattle.btf_type_table.proofs.table.Table.is_empty.Goals as goal

pub returns-in-empty : goal.returns-in-empty
returns-in-empty c =
    sym (names.empty_first c.args.self.now.head _ _ _ c.from_name.ensures ∙ eq-eqb _ 0 (get_or-eq_default c.from_name.result.now 0 (omega arith)))
