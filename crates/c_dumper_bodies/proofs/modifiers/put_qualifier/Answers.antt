use native.Mathlib.Omega.{arith}
use mathlib.Core.Path.{◌≡◌, ap, ◌∙◌, sym}
use Rattle.std.proofs.lemmas.Grind.{common_steps}
use Rattle.base_keywords.specs.table.Spelled.{spelled}
use Rattle.spec_bytes.proofs.text.TextLaws.{put_same}
use Rattle.spec_c_dumper.specs.rules.Decl.{qualifier}
use Rattle.spec_c_dumper.specs.rules.Types.{restrict}
use Rattle.spec_type_table.specs.declared.kind.Kind.{Kind}
use Rattle.spec_type_table.proofs.KindNames.{kind_cases}
use Rattle.c_dumper_bodies.specs.chain.Chains.{qualifier_of}
use Rattle.c_dumper_bodies.proofs.modifiers.put_qualifier.Goals as goal
use Rattle.c_dumper_bodies.proofs.modifiers.put_qualifier.Goals.{in-Volatile, in-Const, in_default}

pub returns : goal.returns
unfolding qualifier
returns c =
    let every = kind_cases c.args.kind in
    let e : spelled c.match-kind.word ≡ qualifier (qualifier_of c.args.kind) =
    elim c.match-kind.branch [
      | in-Volatile w ↦ ap spelled w.word-is ∙ sym (ap (λ (k : Kind). qualifier (qualifier_of k)) w.in-Volatile.is)
      | in-Const w ↦ ap spelled w.word-is ∙ sym (ap (λ (k : Kind). qualifier (qualifier_of k)) w.in-Const.is)
      | in_default w ↦ let r : qualifier_of c.args.kind ≡ restrict = grind (arith, common_steps) in ap spelled w.word-is ∙ sym (ap qualifier r)
    ] in
    put_same _ _ _ _ _ _ e c.put_word.ensures
