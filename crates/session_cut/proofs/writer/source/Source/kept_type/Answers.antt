use Prim.Native.Nat.{◌<◌}
use native.Mathlib.Omega.{arith}
use Rattle.btf_open_causes.specs.references.Followed.{type_count}
use Rattle.session_cut_marks.proofs.interned.Found.{base_kept}
use Rattle.session_cut_marks.proofs.tags.Laws.{is_none_of, isnt_none_of}
use Rattle.session_cut.proofs.writer.source.Source.kept_type.Goals as goal

pub returns-then-count-x : goal.returns-then-count-x
returns-then-count-x c = λ l. omega (arith, l, c.count.ensures, c.if-count-x.true)

pub returns-then-is_none : goal.returns-then-is_none
returns-then-is_none c = λ l. is_none_of _ _ c.new_id.ensures _ c.is_none.ensures c.if-is_none.true

pub invariant_of-result : goal.invariant_of-result
invariant_of-result c =
    let source = c.args.self.now in
    let below : c.args.x < type_count source.kept.index.table.head = omega (arith, c.count.ensures, c.if-count-x.false) in
    record {
      kept = record { below = below; kept = isnt_none_of _ _ c.new_id.ensures _ c.is_none.ensures c.if-is_none.false; entry = c.entry.ensures };
      based = base_kept _ _ _ _ _ source.right _ _ _ below source.based c.peek.ensures;
    }
