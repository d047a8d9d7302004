use Rattle.btf_open_names.proofs.hash_table.Laws.{room_none, room_used, room_last}
use Rattle.btf_open_names.proofs.holders.Laws.{fitted}
use native.Mathlib.Omega.{arith}
use Prim.Native.Nat.{◌+◌, ◌-◌}
use mathlib.Core.Path.{◌≡◌, ap, sym, ◌∙◌}
use Rattle.btf_open_names.specs.hash_table.Hashed.{first_p, later_p, all_zero}
use Rattle.btf_open_names.proofs.hash_table.has_room.Goals as goal

pub returns-then-not-fit : goal.returns-then-not-fit
returns-then-not-fit c = room_none _ _ _ (sym c.if-not-fit.true ∙ c.fit.ensures)

pub returns-then-all_zero : goal.returns-then-all_zero
returns-then-all_zero c =
    let f = fitted _ _ _ (sym c.if-not-fit.false ∙ c.fit.ensures) in
    let q : c.args.all.now.n ≡ c.args.all.now.table.head.types + (c.args.all.now.n - c.args.all.now.table.head.types) = omega (arith, c.args.all.now.types_first) in
    room_last _ _ _ f.numbered f.long _ (c.all_zero.ensures ∙ ap (all_zero (first_p _) _) q) _ c.if-all_zero.true (c.all_zero-then-all_zero.ensures ∙ ap (all_zero (later_p _) _) q)

pub returns-else-all_zero : goal.returns-else-all_zero
returns-else-all_zero c =
    let f = fitted _ _ _ (sym c.if-not-fit.false ∙ c.fit.ensures) in
    let q : c.args.all.now.n ≡ c.args.all.now.table.head.types + (c.args.all.now.n - c.args.all.now.table.head.types) = omega (arith, c.args.all.now.types_first) in
    c.if-all_zero.false ∙ room_used _ _ _ f.numbered f.long _ (c.all_zero.ensures ∙ ap (all_zero (first_p _) _) q) c.if-all_zero.false
