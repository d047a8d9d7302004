-- The definitions compute: tables of two records after void. Assumes nothing.
use mathlib.Core.Path.{◌≡◌, refl}
use mathlib.Core.Bool.{true, false}
use Rattle.spec_bytes.specs.words.Words.{word_at, word_in}
use Rattle.spec_type_table.specs.Records.{section_word}
use Rattle.btf_open_causes.specs.references.Any.{any_below}
use Rattle.btf_open_causes.specs.references.Followed.{is_kind_among, type_count, entry_at, place_of, kind_at, count_for, id_place, count_at, id_at, followed_count, followed_id}
use Rattle.btf_open_causes.proofs.references.Tables.{three, called, places, held, places_held}
use Rattle.btf_open_causes.specs.loops.Graph.{long, has_loop}
use Rattle.btf_open_causes.specs.loops.Loops.{deg_of, deg_at, graph_of}

parameter_loops : has_loop (graph_of three (called 0 1) places) ≡ true
unfolding has_loop any_below long deg_of deg_at followed_count followed_id count_at id_at count_for id_place kind_at place_of entry_at type_count is_kind_among section_word word_in word_at
parameter_loops = refl

result_loops : has_loop (graph_of three (called 1 0) places) ≡ true
unfolding has_loop any_below long deg_of deg_at followed_count followed_id count_at id_at count_for id_place kind_at place_of entry_at type_count is_kind_among section_word word_in word_at
result_loops = refl

no_loop : has_loop (graph_of three (called 0 0) places) ≡ false
unfolding has_loop any_below long deg_of deg_at followed_count followed_id count_at id_at count_for id_place kind_at place_of entry_at type_count is_kind_among section_word word_in word_at
no_loop = refl

-- struct s { struct s *p; }
struct_no_loop : has_loop (graph_of three (held 2 1) (places_held 2)) ≡ false
unfolding has_loop any_below long deg_of deg_at followed_count followed_id count_at id_at count_for id_place kind_at place_of entry_at type_count is_kind_among section_word word_in word_at
struct_no_loop = refl
