use mathlib.Core.Path.{◌≡◌, refl}
use Prim.Native.Nat.{◌%◌}
use native.Mathlib.Omega.{arith}
use lib.Dec.{eqb}
use Rattle.std.proofs.lemmas.Bool.Decides.{nat_tests}
use Rattle.spec_type_table.proofs.KindNames.{kind_numbers}
use Rattle.btf_open_names.proofs.filled_work.Filled.{values_none, values_more, value_by}
use Rattle.std.proofs.Common.{rules}
use Rattle.btf_open_names.proofs.fill.fill_values.Goals as goal

pub loop-k-init : goal.loop-k-init
loop-k-init c = (values_none _ _ _ _ _, refl)

pub loop-k-preserved : goal.loop-k-preserved
loop-k-preserved c =
    let t : c.eq-wide.result ≡ eqb (c.args.e.word % 32) 19 = grind (arith, kind_numbers, nat_tests) in (
      values_more _ _ _ _ _ _ c.loop-k.k c.loop-k.invariant.0 _ c.enumerator_word.ensures _
          (value_by _ _ _ _ t _ c.place-at.ensures _ c.value_place.ensures) _ c.put_word.ensures,
      search rules,
    )
