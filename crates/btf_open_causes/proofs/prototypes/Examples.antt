-- The definitions compute: tables of two records after void. Assumes nothing.
use mathlib.Core.Path.{◌≡◌, refl}
use mathlib.Core.Bool.{true, false}
use Rattle.spec_bytes.specs.words.Words.{word_at, word_in}
use Rattle.spec_type_table.specs.Records.{section_word}
use Rattle.btf_open_causes.specs.references.Any.{any_below}
use Rattle.btf_open_causes.specs.references.Followed.{is_kind_among, type_count, entry_at, place_of, kind_at, count_for, id_place, count_at, id_at, followed_count, followed_id}
use Rattle.btf_open_causes.proofs.references.Tables.{three, called, places, held, places_held}
use Rattle.btf_open_causes.specs.prototypes.Track.{chase, leads_to}
use Rattle.btf_open_causes.specs.prototypes.Prototypes.{what_of, next_of, asks_at, asks_of, asker, any_leads}

proto_member : any_leads three (held 13 0) (places_held 13) ≡ true
unfolding any_leads asker asks_of asks_at leads_to chase what_of next_of any_below followed_count followed_id count_at id_at count_for id_place kind_at place_of entry_at type_count is_kind_among section_word word_in word_at
proto_member = refl

-- an array of itself leads nowhere
array_round : any_leads three (held 3 2) (places_held 3) ≡ false
unfolding any_leads asker asks_of asks_at leads_to chase what_of next_of any_below followed_count followed_id count_at id_at count_for id_place kind_at place_of entry_at type_count is_kind_among section_word word_in word_at
array_round = refl

typedef_of_proto : any_leads three (called 0 0) places ≡ false
unfolding any_leads asker asks_of asks_at leads_to chase what_of next_of any_below followed_count followed_id count_at id_at count_for id_place kind_at place_of entry_at type_count is_kind_among section_word word_in word_at
typedef_of_proto = refl
