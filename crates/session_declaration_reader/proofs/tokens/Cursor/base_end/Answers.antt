use Rattle.session_declaration_reader.proofs.bases.BaseLaws as laws
use mathlib.Core.Path.{refl}
use mathlib.Core.Bool.{true, false}
use Rattle.session_declaration_reader.proofs.tokens.Cursor.base_end.Goals as goal

pub returns-in_err-t : goal.returns-in_err-t
returns-in_err-t c = rw c.from_residual.ensures (laws.base_over _ _ _ false c.in_err-t.ensures refl)

pub returns-in_default : goal.returns-in_default
returns-in_default c = laws.base_words _ _ _ true c.in_ok-t.ensures.1 refl _ c.in_ok-t.ensures.0 c.in_default.not-Tag _ c.untagged_end.ensures

pub returns-in_err-u : goal.returns-in_err-u
returns-in_err-u c =
    rw c.from_residual-in_err-u.ensures (laws.tag_alone _ _ _ true c.in_ok-t.ensures.1 refl _ c.in_ok-t.ensures.0 c.in-Tag.is c.in_err-u.ensures)

pub returns-in-Some : goal.returns-in-Some
returns-in-Some c =
    laws.tag_and_tags _ _ _ true c.in_ok-t.ensures.1 refl _ c.in_ok-t.ensures.0 c.in-Tag.is c.in_ok-u.ensures.1 _ c.in_ok-u.ensures.0 c.in-Some.ensures.1

pub returns-in-None : goal.returns-in-None
returns-in-None c =
    laws.tag_end _ _ _ c.in_ok-t.ensures.1 _ c.in_ok-t.ensures.0 c.in-Tag.is c.in_ok-u.ensures.1 _ c.in_ok-u.ensures.0 c.in-None.ensures
