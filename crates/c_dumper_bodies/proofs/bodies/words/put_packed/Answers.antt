use Rattle.spec_bytes.specs.text.Text.{ascii}
use Rattle.c_dumper_bodies.proofs.bodies.WordLaws as laws
use Rattle.spec_bytes.proofs.text.TextLaws.{put_same, put_empty, put_seq, put_halts}
use Rattle.c_dumper_bodies.proofs.bodies.words.put_packed.Goals as goal

pub returns-then-packed : goal.returns-then-packed
returns-then-packed c = put_same _ _ _ _ _ _ (laws.packed_is _ c.if-packed.true) (put_seq _ _ _ _ _ _ _ _ (put_seq _ _ _ _ _ _ _ _ c.in_ok-a.ensures c.in_ok-c.ensures) c.put_bytes.ensures)

pub returns-in_err-a : goal.returns-in_err-a
returns-in_err-a c = put_same _ _ _ _ _ _ (laws.packed_is _ c.if-packed.true) (put_halts _ _ _ (ascii "packed))") _ _ _ c.in_err-a.ensures c.from_residual.ensures.1)

pub returns-in_err-c : goal.returns-in_err-c
returns-in_err-c c = put_same _ _ _ _ _ _ (laws.packed_is _ c.if-packed.true) (put_halts _ _ _ (ascii "))") _ _ _ (put_seq _ _ _ _ _ _ _ _ c.in_ok-a.ensures c.in_err-c.ensures) c.from_residual-in_err-c.ensures.1)

pub returns : goal.returns
returns c = put_same _ _ _ _ _ _ (laws.packed_not _ c.if-packed.false) (put_empty _ _)
