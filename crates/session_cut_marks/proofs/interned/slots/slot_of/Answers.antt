use Prim.Native.Nat.{ℕ, ◌+◌, ◌%◌}
use native.Mathlib.Omega.{arith}
use mathlib.Core.Path.{◌∙◌}
use Rattle.std.proofs.Common.{rules}
use Rattle.std.proofs.lemmas.Iterator.{YieldsList-from_range, YieldsList-from_map}
use Rattle.std.proofs.lemmas.Iterator.Search.{find_from_yields_List}
use Rattle.spec_type_table.specs.Names.{str_at}
use Rattle.session_cut_marks.specs.interned.Slots.{slot_words, stops}
use Rattle.session_cut_marks.proofs.interned.Laws.{slot_way}
use Rattle.session_cut_marks.proofs.interned.slots.slot_of.Goals as goal

pub returns : goal.returns
returns c =
    let b = c.args.b.now in
    let h = c.hash_at-start.result % 262144 in
    c.unwrap_or.ensures
    ∙ slot_way b.head b.section.now (slot_words c.args.table.now) c.args.off _ _ c.hash_at-start.ensures
    (find_from_yields_List (stops b.head b.section.now (slot_words c.args.table.now) (str_at b.head b.section.now c.args.off)) _ _ c.find.result c.find.ensures.ran
    (YieldsList-from_map _ (λ (i : ℕ). i % 262144) (YieldsList-from_range h (h + 262144) 262144 c.map.ensures.source (omega arith)) c.map.ensures.closure (λ x r q k. search rules))
    (λ x b q k. search rules))
