use Rattle.c_dumper_emit.proofs.emission.Emission.emit_again.Goals.{else-id-cont-via-then-id-cont+else-not-named, else-id-cont-via-else-id-cont}
use mathlib.Core.Bool.{not}
use mathlib.Core.Path.{ap}
use borrow.Author.Tests.{eq-eqb, ne_eqb}
use Rattle.std.proofs.lemmas.Bool.{and_left, and_right}
use Rattle.c_dumper_emit.proofs.entries.Laws as laws
use Rattle.c_dumper_emit.proofs.entries.Walk as walk
use Rattle.c_dumper_emit.proofs.emission.Emission.emit_again.Goals as goal

pub returns-then-get_fwd_emitted : goal.returns-then-get_fwd_emitted
returns-then-get_fwd_emitted c = λ n. walk.again_had _ _ _ _ n _ _ _ _ _ _ _ c.get_fwd_emitted.ensures c.if-get_fwd_emitted.true

pub returns-then-not-named : goal.returns-then-not-named
returns-then-not-named c = λ n. walk.again_nameless _ _ _ _ n _ _ _ _ _ _ _ c.get_fwd_emitted.ensures c.if-get_fwd_emitted.false _ c.type_by_id-t.ensures _ c.of.ensures c.in-Struct.is _ c.is_named-named.ensures (rw (ne_eqb c.args.id c.args.cont c.if-id-cont.true) (ap not c.if-not-named.true))

pub returns-else-id-cont : goal.returns-else-id-cont
returns-else-id-cont c = λ n. walk.again_mention _ _ _ _ n _ _ _ _ _ _ _ c.get_fwd_emitted.ensures c.if-get_fwd_emitted.false _ c.type_by_id-t.ensures _ c.of.ensures c.in-Struct.is _ c.is_named-named.ensures (elim c.else-id-cont.branch [
  | else-id-cont-via-then-id-cont+else-not-named w ↦ and_right _ _ (ap not w.if-not-named.false)
  | else-id-cont-via-else-id-cont w ↦ and_left _ _ (ap not (eq-eqb c.args.id c.args.cont w.if-id-cont.false))
]) _ (c.emit_mention.ensures n)

pub returns-in-Typedef : goal.returns-in-Typedef
returns-in-Typedef c = λ n. walk.again_typedef _ _ _ _ n _ _ _ _ _ _ _ c.get_fwd_emitted.ensures c.if-get_fwd_emitted.false _ c.type_by_id-t.ensures _ c.of.ensures c.in-Typedef.is _ (laws.cause_by _ _ _ _ _ _ c.from.ensures c.origin_at-e.ensures) _ (c.emit_once.ensures n)

pub returns-in_default : goal.returns-in_default
returns-in_default c = λ n. walk.again_other _ _ _ _ n _ _ _ _ _ _ _ c.get_fwd_emitted.ensures c.if-get_fwd_emitted.false _ c.type_by_id-t.ensures _ c.of.ensures c.in_default.not-Struct c.in_default.not-Union c.in_default.not-Typedef
