use Rattle.std.proofs.Common.{rules, Err, ◌≡◌}
use Rattle.spec_bytes.specs.declared.refusal.Refusal.{Refusal}
use Rattle.spec_bytes.specs.declared.refusal.Refusal.TheVariants.{SessionClosed}
use Rattle.std.proofs.lemmas.Bool.{not_from_true, not_from_false}
use Rattle.session_cut.proofs.call.Laws as laws
use native.Mathlib.Omega.{arith}
use Rattle.session_cut.proofs.call.cut.Goals as goal

pub returns-then-not-is_open : goal.returns-then-not-is_open
returns-then-not-is_open c = laws.cut_closed _ _ _ _ _ c.is_open.ensures (not_from_false _ c.if-not-is_open.true)

pub returns-in_err-counts : goal.returns-in_err-counts
returns-in_err-counts c =
    let e : c.from_residual.result ≡ Err SessionClosed = search rules in
    let p : (r : Refusal) × (c.index_records.result ≡ Err r) = search rules in
    rw e (laws.cut_unsound _ _ _ _ _ c.is_open.ensures (not_from_true _ c.if-not-is_open.false) _ _ c.index_records.ensures p.0 p.1)

pub returns-then-is_past : goal.returns-then-is_past
returns-then-is_past c = laws.cut_past _ _ _ _ _ c.is_open.ensures (not_from_true _ c.if-not-is_open.false) _ _ c.index_records.ensures c.in_ok-counts.counts (search rules) _ c.is_past.ensures c.if-is_past.true

pub returns : goal.returns
returns c =
    laws.cut_is _ _ _ _ _ c.is_open.ensures (not_from_true _ c.if-not-is_open.false) _ _ c.index_records.ensures c.in_ok-counts.counts (search rules) _ c.is_past.ensures c.if-is_past.false (λ i. omega (arith, c.type_inv.section i)) _ c.btf_of-head.ensures _ _ c.write_cut.ensures _ c.ok_or.ensures.value
