-- The definitions compute: tables of two records after void. Assumes nothing.
use mathlib.Core.Path.{◌≡◌, refl}
use mathlib.Core.Bool.{true, false}
use Rattle.spec_bytes.specs.words.Words.{word_at, word_in}
use Rattle.spec_type_table.specs.Records.{section_word}
use Rattle.btf_open_causes.specs.references.Any.{any_below}
use Rattle.btf_open_causes.specs.references.Followed.{is_kind_among, type_count, entry_at, place_of, kind_at, count_for, id_place, count_at, id_at, followed_count, followed_id}
use Rattle.btf_open_causes.specs.references.References.{is_bad, is_some_bad, has_bad_reference}
use Rattle.btf_open_causes.proofs.references.Tables.{three, called, places, held, places_held}

past_count : has_bad_reference three (called 0 3) places ≡ true
unfolding has_bad_reference is_some_bad is_bad any_below followed_count followed_id count_at id_at count_for id_place kind_at place_of entry_at type_count is_kind_among section_word word_in word_at
past_count = refl

function_member : has_bad_reference three (held 12 0) (places_held 12) ≡ true
unfolding has_bad_reference is_some_bad is_bad any_below followed_count followed_id count_at id_at count_for id_place kind_at place_of entry_at type_count is_kind_among section_word word_in word_at
function_member = refl

sound : has_bad_reference three (called 0 1) places ≡ false
unfolding has_bad_reference is_some_bad is_bad any_below followed_count followed_id count_at id_at count_for id_place kind_at place_of entry_at type_count is_kind_among section_word word_in word_at
sound = refl
