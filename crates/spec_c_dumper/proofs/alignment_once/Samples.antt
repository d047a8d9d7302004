-- Samples: the two ways on unions that double, and on a struct that holds itself.
use mathlib.Core.Path.{◌≡◌, refl}
use mathlib.Core.List.{[], ◌∷◌}
use Rattle.spec_c_dumper.specs.rules.Writer.{got, no, ask_then}
use Rattle.spec_c_dumper.specs.rules.Layout.{larger, smaller, octets, align_members, align_of, get_align_of}
use Rattle.spec_c_dumper.specs.alignment_once.Once.{ask_once, once_then, members_once, taken, type_once, keep_once, align_once, alignment_once, list_once, table_keep, blank}
use Rattle.spec_c_dumper.specs.alignment_once.Samples.{plain_calls, doubling, loop, visits_for}

-- 20 unions: three million calls of the plain way, 81 visits of the other (21 types, 60 members), and none for a second question
pub plain_doubles : plain_calls 512 (doubling 20) 21 ≡ 3145726
unfolding plain_calls
plain_doubles = refl

pub once_doubles : visits_for (doubling 20) ((512, 21) ∷ []) ≡ 81
unfolding once_then members_once taken type_once keep_once align_once alignment_once list_once larger smaller octets
once_doubles = refl

pub no_more_visits : visits_for (doubling 20) ((512, 21) ∷ (512, 21) ∷ (512, 15) ∷ (512, 1) ∷ []) ≡ 81
unfolding once_then members_once taken type_once keep_once align_once alignment_once list_once larger smaller octets
no_more_visits = refl

-- the height is remembered: with 21 calls it is found, and with 20 it is refused by 12, as in the plain way
pub height_found : ask_once (list_once (table_keep 22) (doubling 20) ((512, 21) ∷ (21, 21) ∷ []) blank 0) ≡ got (4 ∷ 4 ∷ [])
unfolding ask_once once_then members_once taken type_once keep_once align_once alignment_once list_once larger smaller octets
height_found = refl

pub height_refused : ask_once (list_once (table_keep 22) (doubling 20) ((512, 21) ∷ (20, 21) ∷ []) blank 0) ≡ no 12
unfolding ask_once once_then members_once taken type_once keep_once align_once alignment_once list_once larger smaller octets
height_refused = refl

pub plain_refused : get_align_of 20 (doubling 20) 21 ≡ no 12
unfolding get_align_of align_of align_members ask_then larger smaller octets
plain_refused = refl

-- a struct that holds itself: 12 in both ways
pub loop_once : ask_once (align_once (table_keep 2) 512 loop 1 blank 0) ≡ no 12
unfolding ask_once once_then members_once taken type_once keep_once align_once larger smaller octets
loop_once = refl

pub loop_plain : get_align_of 512 loop 1 ≡ no 12
unfolding get_align_of align_of align_members ask_then
loop_plain = refl
