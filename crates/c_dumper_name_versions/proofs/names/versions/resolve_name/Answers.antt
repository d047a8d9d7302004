use Prim.Native.Nat.{◌+◌, ◌<◌}
use mathlib.Core.Path.{ap, ◌∙◌}
use Rattle.std.specs.Prelude.{unwrap_or}
use Rattle.c_dumper_name_versions.specs.declared.names.versions.Name.{Name}
use native.Mathlib.Omega.{arith}
use Rattle.spec_type_table.specs.Numbers.{number_at}
use Rattle.spec_type_table.specs.Cells.{class_p, count_p, count_raised}
use Rattle.c_dumper_name_versions.proofs.names.Resolve.{value_counted, value_past}
use Rattle.c_dumper_name_versions.proofs.names.versions.resolve_name.Goals as goal

pub returns-in_default : goal.returns-in_default
returns-in_default c =
    let f : c.args.b.types + c.args.e < 4294967296 → ⊥ = c.in_default.ensures in
    value_past _ _ _ _ _ c.bare.ensures (omega arith)

pub returns : goal.returns
returns c =
    let f = c.in-Some.ensures in
    let v = value_counted _ _ _ _ _ f.0 (
      c.get_number-n.ensures.0 ∙ ap (number_at c.args.b.types c.args.work.now) f.1,
      c.get_number-n.ensures.1 ∙ ap (count_raised (class_p c.args.b.types) (count_p c.args.b.types) c.args.work.now) f.1,
    ) in
    (ap (λ (x : Name). x.off) c.held.ensures, ap (λ (x : Name). unwrap_or x.number 0) c.held.ensures ∙ v.0, v.1)
