use mathlib.Core.Path.{◌≡◌, ap, ◌∙◌, sym}
use Rattle.base_keywords.specs.table.Spelled.{spelled}
use Rattle.spec_bytes.proofs.text.TextLaws.{put_same}
use Rattle.spec_c_dumper.specs.rules.Decl.{unit_word}
use Rattle.c_dumper_padding.specs.declared.units.Unit.{Unit}
use Rattle.c_dumper_padding.specs.units.Units.{unit_of}
use Rattle.c_dumper_padding.proofs.pads.put_unit.Goals as goal
use Rattle.c_dumper_padding.proofs.pads.put_unit.Goals.{in-Long, in-Int, in-Short, in-Char}

pub returns : goal.returns
unfolding unit_word
returns c =
    let e : spelled c.match-unit.word ≡ unit_word (unit_of c.args.unit) =
    elim c.match-unit.branch [
      | in-Long w ↦ ap spelled w.word-is ∙ sym (ap (λ (u : Unit). unit_word (unit_of u)) w.in-Long.is)
      | in-Int w ↦ ap spelled w.word-is ∙ sym (ap (λ (u : Unit). unit_word (unit_of u)) w.in-Int.is)
      | in-Short w ↦ ap spelled w.word-is ∙ sym (ap (λ (u : Unit). unit_word (unit_of u)) w.in-Short.is)
      | in-Char w ↦ ap spelled w.word-is ∙ sym (ap (λ (u : Unit). unit_word (unit_of u)) w.in-Char.is)
    ] in
    put_same _ _ _ _ _ _ e c.put_word.ensures
