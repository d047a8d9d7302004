use Rattle.c_dumper_padding.proofs.pads.Placing.{tail_old, tail_union, tail_full, tail_put}
use Rattle.spec_bytes.proofs.text.TextLaws.{put_same, put_empty, put_ended}
use mathlib.Core.Path.{refl, sym, ◌∙◌}
use borrow.Author.Tests.{not-true, not-false}
use Rattle.c_dumper_padding.proofs.padding.emit_tail_padding.Goals as goal

pub returns-then-not-b : goal.returns-then-not-b
returns-then-not-b c = put_same _ _ _ _ _ _ (tail_old _ _ _ _ _ _ _ (not-true _ c.if-not-b.true)) (put_empty _ _)

pub returns-then-not-is_struct : goal.returns-then-not-is_struct
returns-then-not-is_struct c = put_same _ _ _ _ _ _ (tail_union _ _ _ _ _ _ _ (sym c.is_struct.ensures ∙ c.if-not-is_struct.true)) (put_empty _ _)

pub returns-then-is_full : goal.returns-then-is_full
returns-then-is_full c = put_same _ _ _ _ _ _ (tail_full _ _ _ _ _ _ _ (not-false _ c.if-not-b.false) (sym c.is_struct.ensures ∙ c.if-not-is_struct.false) c.if-is_full.true) (put_empty _ _)

pub returns : goal.returns
returns c = tail_put _ _ _ _ _ _ _ (not-false _ c.if-not-b.false) (sym c.is_struct.ensures ∙ c.if-not-is_struct.false) _ _ _ _ _ _ _ refl c.if-is_full.false c.in_ok-a.ensures c.put_own_line.ensures

pub returns-in_err-a : goal.returns-in_err-a
returns-in_err-a c = tail_put _ _ _ _ _ _ _ (not-false _ c.if-not-b.false) (sym c.is_struct.ensures ∙ c.if-not-is_struct.false) _ _ _ _ _ _ _ refl c.if-is_full.false c.in_err-a.ensures (put_ended _ _ _ _ c.from_residual.ensures.1)
