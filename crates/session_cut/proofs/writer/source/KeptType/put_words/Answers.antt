use Rattle.session_cut.proofs.writer.Parts.{no_words, more_words, words_stop}
use Rattle.session_cut.proofs.writer.Strings.{base_start}
use Rattle.session_cut.specs.declared.writer.source.Part.{Part}
use Rattle.session_cut.specs.declared.writer.source.KeptType.{KeptType}
use Rattle.session_cut.specs.declared.writer.source.Mention.{Mention}
use Rattle.session_cut.specs.writer.Bytes.{word_part}
use Rattle.session_cut.specs.writer.OfType.{length_before}
use Rattle.session_cut_marks.specs.kept.AtKept.{at_kept}
use Rattle.spec_bytes.specs.text.Text.{whole}
use Rattle.spec_bytes.specs.text.Placed.{put_text}
use mathlib.Core.Path.{◌≡◌, ◌∙◌, ap}
use Prim.Native.Nat.{ℕ, ◌+◌}
use Rattle.session_cut.proofs.writer.source.KeptType.put_words.Goals as goal

-- what a part has of the word that is mentioned
word_here : (part : Part) (m : Mention) (t : KeptType) (j : ℕ) → m.of ≡ t → m.j ≡ j
    → at_kept word_part m.of.source.now.kept m.of.source.now.bases.now part m.of.x m.of.e.word m.j ≡ at_kept word_part t.source.now.kept t.source.now.bases.now part t.x t.e.word j
word_here part m t j of at = λ i. at_kept word_part (of i).source.now.kept (of i).source.now.bases.now part (of i).x (of i).e.word (at i)

pub loop-j-init : goal.loop-j-init
loop-j-init c = (no_words _ _ _ _ _ _ _ _ _ _, base_start _ _ _ _ _ _ _ c.args.self.now.based)

pub loop-j-preserved : goal.loop-j-preserved
loop-j-preserved c =
    let here = word_here c.args.part c.mention-m.result c.args.self.now _ c.mention-m.ensures.0 c.mention-m.ensures.1 in (
      more_words _ _ _ _ _ _ _ _ _ _ _ _ _ _ _ c.loop-j.invariant.0 (c.in_ok-p.ensures ∙ ap (put_text _ _) (ap whole here)),
      c.longer-len.ensures ∙ (λ i. length_before (c.mention-m.ensures.0 i) (c.mention-m.ensures.1 i + 1)),
    )

pub returns-in_err-p : goal.returns-in_err-p
returns-in_err-p c =
    let here = word_here c.args.part c.mention-m.result c.args.self.now _ c.mention-m.ensures.0 c.mention-m.ensures.1 in
    words_stop _ _ _ _ _ _ _ _ _ _ _ _ _ _ c.words_in-j-end.ensures c.loop-j-test.true (more_words _ _ _ _ _ _ _ _ _ _ _ _ _ _ _ c.loop-j.invariant.0 (c.in_err-p.ensures ∙ ap (put_text _ _) (ap whole here))) _ c.from_residual.ensures.1
