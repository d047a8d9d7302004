use mathlib.Core.Path.{◌∙◌}
use mathlib.Core.Bool.{not}
use mathlib.Core.List.{List}
use lib.Dec.{ltb}
use Prim.Native.Nat.{ℕ}
use borrow.Author.Tests.{tests}
use Rattle.std.proofs.Common.{rules}
use Rattle.std.proofs.lemmas.Iterator.{YieldsList-from_slice}
use Rattle.std.proofs.lemmas.Iterator.Search.{any_from_yields_List}
use Rattle.std.specs.Int.{from_le_bytes, w32}
use Rattle.session_cut.proofs.call.Laws as laws
use Rattle.session_cut.proofs.call.is_past.Goals as goal

pub returns : goal.returns
returns c =
    any_from_yields_List (λ (id : List ℕ). not (ltb (from_le_bytes w32 id) c.args.count)) _ _ c.any.result c.any.ensures.ran
    (YieldsList-from_slice c.as_chunks.result.0.now c.iter.ensures.rest) (λ x b q k. search (rules, tests))
    ∙ laws.past_is _ _ _ c.as_chunks.ensures.front c.as_chunks.ensures.front_len
