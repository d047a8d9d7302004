use Prim.Native.Nat.{ℕ}
use mathlib.Core.Path.{sym, ◌∙◌}
use mathlib.Core.Bool.{true≢false}
use borrow.Author.Tests.{eq-eqb, eqb-true}
use Rattle.btf_type_table.specs.declared.table.Table.{Table}
use Rattle.btf_open_names.specs.filled_work.Takers.{with_takers}
use Rattle.btf_open_names.proofs.holders.Laws.{given_back}
use Rattle.btf_open_names.proofs.filled_work.Holders.{mode_off, mode_on, takers_past}
use Rattle.btf_open_names.proofs.taken_numbers.lists.takers.Goals as goal

pub returns-then-not-has_mode : goal.returns-then-not-has_mode
returns-then-not-has_mode c = mode_off _ _ _ _ _ (λ q. true≢false (sym (eq-eqb _ 1 q) ∙ sym c.has_mode.ensures ∙ c.if-not-has_mode.true))

pub returns-in-Some : goal.returns-in-Some
returns-in-Some c =
    let f = c.in-Some.ensures in
    mode_on _ _ _ _ _ _ (eqb-true _ 1 (sym c.has_mode.ensures ∙ c.if-not-has_mode.false))
    (c.put_takers.ensures ∙ given_back (λ (b : Table) (e : ℕ). with_takers b.head e b.section.now c.args.work.now) _ _ _ _ f.some)

pub returns-in_default : goal.returns-in_default
returns-in_default c = let f = c.in_default.ensures in mode_on _ _ _ _ _ _ (eqb-true _ 1 (sym c.has_mode.ensures ∙ c.if-not-has_mode.false)) (takers_past _ _ _ _ f.none)
