use mathlib.Core.Path.{refl}
use Rattle.btf_open_causes.proofs.records.Pass.{record_no, record_none, record_each}
use Rattle.btf_open_causes.proofs.records.Area.are_record_names_inside.Goals as goal

pub returns-then-self-word : goal.returns-then-self-word
returns-then-self-word c = record_no _ _ _ _ _ c.word.ensures c.if-self-word.true

pub returns-in_default : goal.returns-in_default
returns-in_default c = record_none _ _ _ _ _ c.word.ensures c.if-self-word.false _ refl _ c.named_entry.ensures c.in_default.is

pub returns : goal.returns
returns c = record_each _ _ _ _ _ c.word.ensures c.if-self-word.false _ refl _ c.named_entry.ensures _ c.in-Some.is _ c.vlen_of.ensures _ c.are_names_inside.ensures
