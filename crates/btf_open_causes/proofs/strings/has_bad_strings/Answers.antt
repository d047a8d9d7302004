use Rattle.std.proofs.Common.{arith, ap, ◌∙◌}
use mathlib.Core.Bool.{not}
use Rattle.spec_linux_btf.specs.Section.{strings_sound}
use Rattle.btf_open_causes.proofs.header.Headers.{strings_outside, strings_inside}
use Rattle.btf_open_causes.proofs.strings.has_bad_strings.Goals as goal

pub returns-in-Some : goal.returns-in-Some
returns-in-Some c =
    strings_inside _ _ c.btf_header-h.ensures c.in-Some.ensures.lookup.0.1 _ (ap not (c.is_sound_area.ensures ∙ ap strings_sound c.in-Some.ensures.lookup.0.2))

pub returns-in-None : goal.returns-in-None
returns-in-None c = strings_outside _ _ c.btf_header-h.ensures (omega (arith, c.in-None.ensures.lookup))
