use mathlib.Core.Path.{refl, ap, ◌∙◌, sym}
use Rattle.btf_layout.specs.size.Answers.{ask_of}
use Rattle.spec_bytes.proofs.text.TextLaws.{put_past}
use Rattle.c_dumper_bodies.proofs.bodies.BodyLaws as laws
use Rattle.c_dumper_bodies.proofs.bodies.bodies.put_member_tail.Goals as goal

pub returns : goal.returns
returns c = laws.tail_got _ _ _ _ _ _ _ _ _ _ _ _ _ _ (ap ask_of (sym c.in_ok-_offset.was) ∙ c.requires) c.in_ok-a.ensures c.in_ok-c.ensures c.put_byte.ensures

pub returns-in_err-a : goal.returns-in_err-a
returns-in_err-a c = laws.handed _ _ _ _ _ c.from_residual.ensures.1 (laws.tail_size _ _ _ _ _ _ _ _ _ _ refl c.in_err-a.ensures)

pub returns-in_err-_offset : goal.returns-in_err-_offset
returns-in_err-_offset c = laws.handed _ _ _ _ _ c.from_residual-in_err-_offset.ensures.1 (laws.tail_no _ _ _ _ _ _ _ _ _ _ (ap ask_of (sym c.in_err-_offset.was) ∙ c.requires) c.in_ok-a.ensures)

pub returns-in_err-c : goal.returns-in_err-c
returns-in_err-c c = laws.handed _ _ _ _ _ c.from_residual-in_err-c.ensures.1 (laws.tail_got _ _ _ _ _ _ _ _ _ _ _ _ _ _ (ap ask_of (sym c.in_ok-_offset.was) ∙ c.requires) c.in_ok-a.ensures c.in_err-c.ensures (put_past _ _ _))
