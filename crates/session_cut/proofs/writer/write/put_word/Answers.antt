use native.Mathlib.Omega.{arith}
use mathlib.Core.Path.{◌≡◌}
use mathlib.Core.List.{List}
use Prim.Native.Nat.{ℕ}
use Rattle.std.specs.Prelude.{Ok}
use Rattle.spec_bytes.specs.text.Text.{whole}
use Rattle.spec_bytes.specs.text.Placed.{put_out, put_text}
use Rattle.session_cut.proofs.writer.Laws.{word_big, word_little}
use Rattle.session_cut.proofs.writer.write.put_word.Goals as goal

pub returns-then-big : goal.returns-then-big
returns-then-big c = word_big _ _ (omega arith) (λ (l : List ℕ). put_out c.put_bytes.result c.put_bytes.new.text ≡ put_text c.args.out.now (Ok c.args.at) (whole l)) c.if-big.true _ c.to_be_bytes.ensures c.put_bytes.ensures

pub returns-else-big : goal.returns-else-big
returns-else-big c = word_little _ _ (omega arith) (λ (l : List ℕ). put_out c.put_bytes-else-big.result c.put_bytes-else-big.new.text ≡ put_text c.args.out.now (Ok c.args.at) (whole l)) c.if-big.false _ c.to_le_bytes.ensures c.put_bytes-else-big.ensures
