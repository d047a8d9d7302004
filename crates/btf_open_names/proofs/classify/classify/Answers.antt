use native.Mathlib.Omega.{arith}
use Rattle.btf_open_names.proofs.name_classes.Keys as keys
use Rattle.btf_open_names.proofs.holders.Laws.{fitted}
use Prim.Native.Nat.{ℕ, ◌+◌, ◌-◌}
use mathlib.Core.List.{List}
use mathlib.Core.Path.{◌≡◌, refl, ap, sym, ◌∙◌}
use Rattle.btf_open_names.specs.name_classes.Classes.{bucket_p, fill, noughts}
use Rattle.std.proofs.Common.{rules}
use Rattle.btf_open_names.proofs.classify.classify.Goals as goal

pub returns-then-not-fit : goal.returns-then-not-fit
returns-then-not-fit c = keys.unfit _ _ _ _ (sym c.if-not-fit.true ∙ c.fit.ensures)

pub loop-k-init : goal.loop-k-init
loop-k-init c = (refl, keys.start _ _ _ _ _ c.clear.ensures)

pub put_holder-requires : goal.put_holder-requires
put_holder-requires c =
    let f = fitted _ _ _ (sym c.if-not-fit.false ∙ c.fit.ensures) in
    let q : c.args.all.now.n ≡ c.args.all.now.table.head.types + (c.args.all.now.n - c.args.all.now.table.head.types) = omega (arith, c.args.all.now.types_first) in
    keys.ready _ _ _ _ _ _ _ q (omega (arith, f.long, c.clear.auto.work)) c.loop-k-test.true c.loop-k.invariant.1

pub loop-k-preserved : goal.loop-k-preserved
loop-k-preserved c = (search rules, keys.turn _ _ _ _ _ _ _ c.loop-k-test.true c.loop-k.invariant.1 c.put_holder.ensures)

pub returns : goal.returns
returns c =
    let f = fitted _ _ _ (sym c.if-not-fit.false ∙ c.fit.ensures) in
    let q : c.args.all.now.n ≡ c.args.all.now.table.head.types + (c.args.all.now.n - c.args.all.now.table.head.types) = omega (arith, c.args.all.now.types_first) in
    keys.done _ _ _ c.args.work.now _ _ _ _ (omega arith) c.clear.ensures c.loop-k.invariant.1 (c.clear-3.ensures ∙ ap (λ (w : List ℕ). fill (bucket_p c.args.all.now.table.head.types) noughts w c.args.all.now.n) c.clear-2.ensures) ∙ keys.long_enough _ _ _ _ _ q f.numbered f.long
