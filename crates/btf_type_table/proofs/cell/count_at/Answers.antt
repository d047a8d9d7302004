use native.Mathlib.Omega.{arith}
use Prim.Native.Nat.{◌+◌, ◌<◌}
use mathlib.Core.Path.{ap, ◌∙◌}
use Rattle.spec_bytes.specs.words.Words.{put_word}
use Rattle.spec_type_table.proofs.Laws as laws
use Rattle.btf_type_table.proofs.cell.count_at.Goals as goal

pub returns-in_default : goal.returns-in_default
returns-in_default c = let f : c.get_word-n.result + 1 < 4294967296 → ⊥ = c.in_default.ensures in laws.full_counted _ _ _ c.get_word-n.ensures (omega arith)

pub returns : goal.returns
returns c =
    let f = c.in-Some.ensures in
    let m = laws.more_counted _ _ _ _ c.get_word-n.ensures (omega (arith, f)) (c.put_word.ensures ∙ ap (put_word c.args.work.now c.args.at) f.1) in
    (f.1 ∙ m.0, m.1)
