use Rattle.btf_open_names.proofs.filled_work.Holders.{takers_all, pass_turn, pass_end}
use Rattle.btf_open_names.proofs.hash_table.Laws.{table_stands}
use Rattle.btf_open_names.proofs.taken_numbers.Beside.{table_kept, without_table, table_cleared}
use Prim.Native.Nat.{ℕ, ◌+◌, ◌-◌}
use mathlib.Core.Path.{◌≡◌, refl, ap, ◌∙◌}
use Rattle.btf_open_names.specs.filled_work.Takers.{takers_put}
use native.Mathlib.Omega.{arith}
use Rattle.btf_open_names.proofs.taken_numbers.lists.put_takers.Goals as goal

pub loop-h-init : goal.loop-h-init
loop-h-init c = let q : c.args.all.now.n ≡ c.args.all.now.table.head.types + (c.args.all.now.n - c.args.all.now.table.head.types) = omega (arith, c.args.all.now.types_first) in (refl, refl, λ z. table_stands _ _ _ _ _ c.make_table-has_table.ensures.0 z _ q _ c.make_table-has_table.ensures.1)

pub loop-h-preserved : goal.loop-h-preserved
loop-h-preserved c = (c.put_taker.auto.work ∙ c.loop-h.invariant.0, pass_turn _ _ _ _ _ _ _ c.loop-h.invariant.1 c.loop-h-test.true c.put_taker.ensures, table_kept _ _ _ _ _ _ _ c.loop-h.invariant.2 c.put_taker.ensures)

pub returns-then-has_table : goal.returns-then-has_table
returns-then-has_table c =
    let q : c.args.all.now.n ≡ c.args.all.now.table.head.types + (c.args.all.now.n - c.args.all.now.table.head.types) = omega (arith, c.args.all.now.types_first) in
    takers_all _ _ _ _ (omega arith) _
    (table_cleared _ _ _ _ _ c.make_table-has_table.ensures.0 _ c.make_table-has_table.ensures.1 _ _ (pass_end _ _ _ _ _ _ c.loop-h.invariant.1 c.loop-h-test.false) c.if-has_table.true q _ c.clear_table.ensures
    ∙ ap (λ (n : ℕ). takers_put c.args.all.now.table.head c.args.all.now.table.section.now n (n - 1) c.args.work.now) q)

pub returns-else-has_table : goal.returns-else-has_table
returns-else-has_table c =
    let q : c.args.all.now.n ≡ c.args.all.now.table.head.types + (c.args.all.now.n - c.args.all.now.table.head.types) = omega (arith, c.args.all.now.types_first) in
    takers_all _ _ _ _ (omega arith) _
    (without_table _ _ _ _ _ c.make_table-has_table.ensures.0 _ c.make_table-has_table.ensures.1 _ _ (pass_end _ _ _ _ _ _ c.loop-h.invariant.1 c.loop-h-test.false) c.if-has_table.false
    ∙ ap (λ (n : ℕ). takers_put c.args.all.now.table.head c.args.all.now.table.section.now n (n - 1) c.args.work.now) q)
