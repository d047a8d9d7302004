use mathlib.Core.Path.{sym, ap}
use Rattle.session_cut.specs.writer.Bytes.{told_of}
use Rattle.session_cut.proofs.writer.names.told.Goals as goal

pub returns-then-new : goal.returns-then-new
unfolding told_of
returns-then-new c = ap (λ new. told_of new c.args.place) (sym c.if-new.true)

pub returns-in-Some : goal.returns-in-Some
unfolding told_of
returns-in-Some c = λ i. told_of (sym c.if-new.false i) (sym c.in-Some.is i)

pub returns-in-None : goal.returns-in-None
unfolding told_of
returns-in-None c = λ i. told_of (sym c.if-new.false i) (sym c.in-None.is i)
