use Rattle.btf_open_names.proofs.hash_table.Laws.{table_none, table_start, table_turn, table_end}
use Prim.Native.Nat.{◌+◌, ◌-◌}
use mathlib.Core.Path.{◌≡◌, refl, sym, ◌∙◌}
use native.Mathlib.Omega.{arith}
use Rattle.btf_open_names.proofs.hash_table.put_table.Goals as goal

pub returns-then-not-has_room : goal.returns-then-not-has_room
returns-then-not-has_room c = (sym c.if-not-has_room.true ∙ c.has_room.ensures, table_none _ _ _ _ _ c.has_room.ensures c.if-not-has_room.true)

pub loop-k-init : goal.loop-k-init
loop-k-init c =
    let q : c.args.all.now.n ≡ c.args.all.now.table.head.types + (c.args.all.now.n - c.args.all.now.table.head.types) = omega (arith, c.args.all.now.types_first) in
    (omega arith, refl, table_start _ _ _ _ _ c.has_room.ensures c.if-not-has_room.false _ q)

pub loop-k-preserved : goal.loop-k-preserved
loop-k-preserved c =
    let q : c.args.all.now.n ≡ c.args.all.now.table.head.types + (c.args.all.now.n - c.args.all.now.table.head.types) = omega (arith, c.args.all.now.types_first) in
    (omega arith, c.put_first.auto.work ∙ c.loop-k.invariant.1, table_turn _ _ _ _ _ c.has_room.ensures c.if-not-has_room.false _ q _ _ _ c.loop-k-test.true c.loop-k.auto.k c.loop-k.invariant.2 c.put_first.ensures)

pub returns : goal.returns
returns c =
    let q : c.args.all.now.n ≡ c.args.all.now.table.head.types + (c.args.all.now.n - c.args.all.now.table.head.types) = omega (arith, c.args.all.now.types_first) in
    (sym c.if-not-has_room.false ∙ c.has_room.ensures, table_end _ _ _ _ _ c.has_room.ensures c.if-not-has_room.false _ q _ _ (omega arith) c.loop-k.invariant.0 c.loop-k.invariant.2)
