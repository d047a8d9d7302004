use Rattle.session_declaration_reader.proofs.bases.BaseLaws as laws
use native.Mathlib.Omega.{arith}
use mathlib.Core.Path.{refl}
use mathlib.Core.Bool.{true, false}
use Rattle.session_declaration_reader.proofs.tokens.Cursor.untagged_end.Goals as goal

pub loop-t-init : goal.loop-t-init
loop-t-init c = (laws.after_start _ _ _, laws.tags_start _ _ _)

pub returns-in-Tag : goal.returns-in-Tag
returns-in-Tag c = laws.tags_found _ _ _ true c.in-Some.ensures.1 refl _ c.in-Some.ensures.0 _ c.in-Tag.is c.loop-t.invariant.1

pub loop-t-smaller : goal.loop-t-smaller
loop-t-smaller c = omega (arith, laws.word_forward _ _ _ true c.in-Some.ensures.1 refl _ c.in-Some.ensures.0, laws.word_inside _ _ _ true c.in-Some.ensures.1 refl _ c.in-Some.ensures.0)

pub loop-t-preserved : goal.loop-t-preserved
loop-t-preserved c =
    (laws.after_turn _ _ _ true c.in-Some.ensures.1 refl _ c.in-Some.ensures.0 _ c.loop-t.invariant.0, laws.tags_turn _ _ _ true c.in-Some.ensures.1 refl _ c.in-Some.ensures.0 _ c.in_default-kind.not-Tag c.loop-t.invariant.1)

pub returns : goal.returns
returns c = (laws.after_ends _ _ _ false c.in_default.ensures refl _ c.loop-t.invariant.0, laws.tags_end _ _ _ false c.in_default.ensures refl _ c.loop-t.invariant.1)
