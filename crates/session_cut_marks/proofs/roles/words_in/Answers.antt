use Rattle.session_cut_marks.proofs.roles.Laws.{words_are, product_few, fixed_few}
use Prim.Native.Nat.{◌%◌}
use native.Mathlib.Omega.{arith}
use Rattle.session_cut_marks.proofs.roles.words_in.Goals as goal

pub overflow_mul-result : goal.overflow_mul-result
overflow_mul-result c = omega (arith, product_few _ c.entry_words.result c.vlen_of-v.result c.entry_words.ensures (omega (arith, c.vlen_of-v.ensures)))

pub overflow_add-result : goal.overflow_add-result
overflow_add-result c = omega (arith, c.fixed_words.ensures, fixed_few (c.args.e.word % 32), product_few _ c.entry_words.result c.vlen_of-v.result c.entry_words.ensures (omega (arith, c.vlen_of-v.ensures)))

pub returns : goal.returns
returns c = words_are _ _ _ _ _ _ _ _ c.fixed_words.ensures c.entry_words.ensures c.place.ensures c.word.ensures c.vlen_of-v.ensures
