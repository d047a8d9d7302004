-- What a successful opening leaves, in the section's terms: the laws that the crates above read the work by. Assumes nothing.
use Prim.Native.Nat.{ℕ, suc, ◌+◌, ◌-◌, ◌*◌, ◌/◌, ◌%◌, ◌<◌, ◌≤◌}
use mathlib.Core.Path.{◌≡◌, refl, ap, ◌∙◌, sym}
use mathlib.Core.Bool.{true, false, true≢false}
use mathlib.Core.List.{List}
use mathlib.Core.Logic.{⊎_elim, inl, ◌≢◌}
use native.Mathlib.Omega.{arith}
use lib.ListN.{length, get_or, replicate, length-replicate}
use borrow.Author.Tests.{ltb-false, not-false, ne_eqb, le-leb, lt-leb}
use Rattle.std.proofs.lemmas.Bool.{cases_lt}
use Rattle.spec_bytes.specs.words.Words.{get_word}
use Rattle.spec_type_table.specs.declared.types.TypeTable.{TypeTable}
use Rattle.spec_type_table.specs.declared.types.BtfType.{BtfType}
use Rattle.spec_type_table.specs.Cells.{get_field, class_p, count_p}
use Rattle.spec_type_table.specs.Records.{kind_of, record_at, record_by_id}
use Rattle.spec_type_table.specs.Numbers.{taken_p}
use Rattle.spec_type_table.specs.Table.{tags_from, tags_of, enumerator_of}
use Rattle.spec_type_table.proofs.Frame.{tags_same}
use Rattle.spec_type_table.specs.Table as btf
use Rattle.spec_linux_btf.specs.Documentation.{Described}
use Rattle.spec_linux_btf.specs.Reading.{Bytes}
use Rattle.spec_linux_btf.specs.Places.{kind_p, type_p}
use Rattle.spec_linux_btf.proofs.Claims.{section_fields}
use Rattle.spec_linux_btf.specs.Section.{is_big_endian, word_of, string_area, header_sound, strings_sound, types_sound}
use Rattle.btf_open_causes.specs.references.Followed.{type_count, followed_count, followed_id}
use Rattle.btf_open_causes.specs.references.References.{BadReference}
use Rattle.btf_open_causes.proofs.references.BadIds.{bad_reference}
use Rattle.btf_open_names.specs.name_classes.Classes.{bucket_p, link_p, key_in, class_of, table_classed}
use Rattle.btf_open_names.specs.name_classes.Claims.{Room, Else}
use Rattle.btf_open_names.proofs.name_classes.Ledger.{the_words}
use Rattle.btf_open_names.specs.filled_work.Takers.{takers_in}
use Rattle.btf_open_names.proofs.filled_work.Holders.{mode_off}
use Rattle.btf_open_names.proofs.filled_work.Frame.{Unlisted, takers_word, takers_long, field_unlisted, nine_unlisted, entry_unlisted, place_unlisted}
use Rattle.btf_open_causes.specs.header.Header.{btf_of}
use Rattle.spec_opening.specs.Table.{described_in, types_of, enumerators_of, record_place, record_kind, index_of}
use Rattle.spec_opening.specs.Causes.{cause2, cause3, cause4, cause5, cause6, cause9, table_of, causes, opening_number}
use Rattle.btf_open_names.specs.filled_work.Left.{places_put, value_place, enumerator_word, is_enum, values_at, enums_to, enums_put, tags_put, is_tag_on, tags_on, filled}
use Rattle.spec_opening.specs.Opened.{work_of}
use Rattle.spec_opening.proofs.Order.{NoneHolds, sound_none}
use Rattle.spec_opening.proofs.Index.{types_few, some_type, index_place, index_kind, table_types, table_count}
use Rattle.btf_open_names.proofs.filled_work.Work.{classes_keep, tags_keep, enums_keep, places_keep, places_void, places_long, filled_place}
use Rattle.btf_open_names.proofs.filled_work.Tags.{Rising, Chain, Chains, chain_keeps, chain_read, chains_all, tags_long, next_not, on_rises, on_short}
use Rattle.btf_open_names.proofs.filled_work.Enumerators.{to_up, enums_long, first_at, first_not, value_at, tags_past, classes_past}
use Rattle.btf_open_causes.proofs.header.Headers.{order_is}
use Rattle.spec_opening.proofs.Sections.{kind_is}
use Rattle.spec_opening.proofs.Sums.{enumerators_few, enumerators_all}
use Rattle.btf_open_names.proofs.filled_work.Zeros.{Other, zeros_word, before_else, other_count}

module _ (p modes : ℕ) (s : List ℕ) (n : ℕ) (ok : opening_number p s n ≡ 0) where
  none : NoneHolds (causes p s n)
  none = (sound_none p s n).0 ok

  -- what no cause leaves
  pub header_ok : header_sound s ≡ true
  unfolding cause3
  header_ok = not-false (header_sound s) none.1.1.0

  pub strings_ok : strings_sound (string_area s) ≡ true
  unfolding cause4
  strings_ok = not-false (strings_sound (string_area s)) none.1.1.1.0

  pub types_ok : types_sound s ≡ true
  unfolding cause5
  types_ok = not-false (types_sound s) none.1.1.1.1.0

  pub section_short : length s ≤ 16777216
  unfolding cause2
  section_short = ltb-false 16777216 (length s) none.1.0

  pub work_long : 4 * (16 * types_of s + 8 * enumerators_of s + 4096) ≤ n
  unfolding cause9
  work_long = ltb-false n (4 * (16 * types_of s + 8 * enumerators_of s + 4096)) none.1.1.1.1.1.1.1.1.0

  few : types_of s ≤ 262145
  few = types_few s header_ok types_ok

  abbrev b : TypeTable
  b = btf_of s p modes (types_of s)

  pub order_ok : b.big_endian ≡ is_big_endian s
  order_ok = order_is s p modes (types_of s)

  pub types_are : b.types ≡ types_of s
  types_are = table_types s few p modes

  abbrev start : List ℕ
  start = index_of s

  abbrev zeros : List ℕ
  zeros = replicate n 0

  zeros_long : length zeros ≡ n
  zeros_long = length-replicate {A = ℕ} n 0

  -- the work before the classes are put in
  abbrev w1 : List ℕ
  w1 = places_put start zeros (b.types - 1)

  abbrev w2 : List ℕ
  w2 = enums_put b s start w1 (b.types - 1)

  abbrev pub before : List ℕ
  before = tags_put b s start (b.types - 1) w2

  -- the work before the lists of taken numbers are put in
  abbrev pub classed : List ℕ
  classed = table_classed b (enumerators_of s) s before

  pub work_is : work_of p modes s n ≡ takers_in modes b (enumerators_of s) s classed
  unfolding work_of filled
  work_is = refl

  -- they leave all other words alone
  pub else_listed : (i : ℕ) → Unlisted b.types (b.types + enumerators_of s) i → get_word (work_of p modes s n) i ≡ get_word classed i
  else_listed i z = ap (λ (q : List ℕ). get_word q i) work_is ∙ takers_word modes b (enumerators_of s) s classed (omega (arith, types_are, some_type s)) i z

  field_listed : (id f : ℕ) → id < b.types → f < 16 → f ≢ 7 → f ≢ 8 → f ≢ 14 → get_field (work_of p modes s n) id f ≡ get_field classed id f
  field_listed id f l m n7 n8 n14 = else_listed (id * 16 + f) (field_unlisted b.types (b.types + enumerators_of s) id f l m n7 n8 n14)

  room0 : b.types * 16 ≤ length zeros / 4
  room0 = omega (arith, zeros_long, work_long, types_are)

  w1_long : length w1 ≡ n
  w1_long = places_long start zeros (b.types - 1) ∙ zeros_long

  room1 : b.types * 16 ≤ length w1 / 4
  room1 = omega (arith, w1_long, work_long, types_are)

  w2_long : length w2 ≡ n
  w2_long = enums_long b s start w1 (b.types - 1) ∙ w1_long

  room2 : b.types * 16 ≤ length w2 / 4
  room2 = omega (arith, w2_long, work_long, types_are)

  counted_all : type_count (table_of p s) ≡ types_of s
  unfolding table_of
  counted_all = table_count s few p 0

  -- "followed ids": every one is below the count
  pub followed_below : (x k : ℕ) → x < types_of s → k < followed_count (table_of p s) s start x → followed_id (table_of p s) s start x k < types_of s
  unfolding cause6
  followed_below x k l m =
      ⊎_elim
      (λ q. omega (arith, counted_all))
      (λ q. absurd (true≢false (sym ((bad_reference (table_of p s) s start).1 (is_bad q)) ∙ none.1.1.1.1.1.0)))
      (cases_lt (followed_id (table_of p s) s start x k) (type_count (table_of p s)))
    where
      is_bad : type_count (table_of p s) ≤ followed_id (table_of p s) s start x k → BadReference (table_of p s) s start
      is_bad q = record { x = x; k = k; type = omega (arith, counted_all); followed = m; bad = inl q }

  -- word 0 of a type: the place of its record
  pub place_back : (id : ℕ) → 1 ≤ id → id < types_of s → get_field (work_of p modes s n) id 0 ≡ record_place s (id - 1)
  unfolding filled
  place_back id a l =
      field_listed id 0 (omega (arith, types_are)) (omega arith) (λ q. omega arith) (λ q. omega arith) (λ q. omega arith)
      ∙ filled_place b s start (enumerators_of s) zeros room0 id a (omega (arith, types_are))
      ∙ index_place s few id a l

  -- and the type read there, field by field, is the one that the documentation describes
  pub described_back : Bytes s → (id : ℕ) → 1 ≤ id → id < types_of s → (d : Described) → type_p (word_of s) (get_field (work_of p modes s n) id 0) ≡ get_or (described_in s) (id - 1) d
  unfolding record_place types_of
  described_back y id a l d = ap (type_p (word_of s)) (place_back id a l) ∙ (section_fields s y header_ok types_ok).each (id - 1) d (omega arith)

  -- words 9 and 10: the tags of a type, in rising order
  no_tags : Chains b s start w2 (suc (b.types - 1)) 0
  unfolding tags_on
  no_tags id l =
      enums_keep b s start w1 (b.types - 1) id 9 l (omega arith) (λ q. absurd (omega arith))
      ∙ places_keep start zeros (b.types - 1) id 9 (omega arith) (λ q. absurd (omega arith))
      ∙ zeros_word n (id * 16 + 9)

  all_tags : Chains b s start before 1 (b.types - 1)
  all_tags =
      let z : b.types - 1 + 0 ≡ b.types - 1 = omega arith in
      rw z at (chains_all b s start (b.types - 1) 0 w2 (omega (arith, types_are, some_type s)) room2 no_tags)

  keeps_9 : (id : ℕ) → id < b.types → get_field (table_classed b (enumerators_of s) s before) id 9 ≡ get_field before id 9
  keeps_9 id l = classes_keep b.types id 9 l (omega arith) (λ q. absurd (omega arith)) (λ q. absurd (omega arith)) (λ q. absurd (omega arith)) b refl (enumerators_of s) s before

  keeps_10 : (id : ℕ) → id < b.types → get_field (table_classed b (enumerators_of s) s before) id 10 ≡ get_field before id 10
  keeps_10 id l = classes_keep b.types id 10 l (omega arith) (λ q. absurd (omega arith)) (λ q. absurd (omega arith)) (λ q. absurd (omega arith)) b refl (enumerators_of s) s before

  pub tags_back : (id : ℕ) → id < types_of s → tags_of b.types (work_of p modes s n) id ≡ tags_on b s start id 1 (b.types - 1)
  unfolding tags_of
  tags_back id l =
      let m : id < b.types = omega (arith, types_are) in
      let u = table_classed b (enumerators_of s) s before in
      let l1 = tags_on b s start id 1 (b.types - 1) in
      let rises : Rising b.types 0 l1 = on_rises b s start id 1 (b.types - 1) 0 (omega arith) (omega (arith, types_are, some_type s)) in
      let chain : Chain u (get_field u id 9) l1 =
      chain_keeps b.types before u 0 (λ y a c. keeps_10 y c) l1 0 (get_field before id 9) (get_field u id 9) (omega arith) (sym (keeps_9 id m)) rises (all_tags id m) in
      let short : length l1 < 4294967296 = omega (arith, on_short b s start id 1 (b.types - 1), few, types_are) in
      tags_same (work_of p modes s n) u 4294967296 b.types (λ x c. field_listed x 10 c (omega arith) (λ q. omega arith) (λ q. omega arith) (λ q. omega arith)) 0 (get_field (work_of p modes s n) id 9)
      ∙ ap (tags_from 4294967296 b.types u 0) (else_listed (id * 16 + 9) (nine_unlisted b.types (b.types + enumerators_of s) id))
      ∙ chain_read b.types u l1 4294967296 0 (get_field u id 9) short rises chain

  -- word 12 of an enum: how many enumerators come before its own
  pub first_back : (id : ℕ) → 1 ≤ id → id < types_of s → is_enum (record_kind s (id - 1)) ≡ true → get_field (work_of p modes s n) id 12 ≡ enums_to b s start (id - 1)
  first_back id a l e =
      let m : id < b.types = omega (arith, types_are) in
      let d : enums_to b s start (id - 1) ≤ enums_to b s start (b.types - 1) = to_up b s start (id - 1) (b.types - 1) (omega arith) in
      let t : enums_to b s start (b.types - 1) ≡ enumerators_of s = ap (λ (q : ℕ). enums_to b s start (q - 1)) types_are ∙ enumerators_all b s order_ok header_ok types_ok few in
      let v : enums_to b s start (id - 1) % 4294967296 ≡ enums_to b s start (id - 1) = omega (arith, enumerators_few b s order_ok header_ok types_ok, section_short) in
      field_listed id 12 m (omega arith) (λ q. omega arith) (λ q. omega arith) (λ q. omega arith)
      ∙ classes_keep b.types id 12 m (omega arith) (λ q. absurd (omega arith)) (λ q. absurd (omega arith)) (λ q. absurd (omega arith)) b refl (enumerators_of s) s before
      ∙ tags_keep b s start (b.types - 1) w2 id 12 (omega arith) (λ q. absurd (omega arith)) (λ q. absurd (omega arith))
      ∙ first_at b s start w1 room1 (b.types - 1) id a (omega arith) (omega arith) (ap is_enum (index_kind s few id a l) ∙ e)
      ∙ v

  past : (e : ℕ) → b.types * 16 ≤ enumerator_word b.types e
  unfolding enumerator_word
  past e = omega arith

  wide : enums_to b s start (b.types - 1) ≡ enumerators_of s → enumerator_word b.types (enums_to b s start (b.types - 1)) ≤ length w1 / 4
  unfolding enumerator_word
  wide t = omega (arith, t, w1_long, work_long, types_are)

  entry_listed : (e : ℕ) → get_word (work_of p modes s n) (enumerator_word b.types e) ≡ get_word classed (enumerator_word b.types e)
  unfolding enumerator_word
  entry_listed e = else_listed (b.types * 16 + e * 8) (entry_unlisted b.types (b.types + enumerators_of s) e)

  -- the first word of an enumerator: where its entry stands
  pub value_back : (id k : ℕ) → 1 ≤ id → id < types_of s → k < values_at b s (get_or start id 0)
      → get_word (work_of p modes s n) (enumerator_word b.types (enums_to b s start (id - 1) + k)) ≡ value_place (record_kind s (id - 1)) (record_place s (id - 1)) k
  value_back id k a l h =
      let e = enums_to b s start (id - 1) + k in
      let t : enums_to b s start (b.types - 1) ≡ enumerators_of s = ap (λ (q : ℕ). enums_to b s start (q - 1)) types_are ∙ enumerators_all b s order_ok header_ok types_ok few in
      entry_listed e
      ∙ classes_past b s start (enumerators_of s) e before
      ∙ tags_past b s start (b.types - 1) w2 (enumerator_word b.types e) (omega (arith, types_are, some_type s)) (past e)
      ∙ value_at b s start w1 room1 (b.types - 1) id k a (omega (arith, types_are)) (omega (arith, types_are, some_type s)) h (wide t)
      ∙ (λ i. value_place (index_kind s few id a l i) (index_place s few id a l i) k)

  -- every word that is none of these, no class and none of a list, is 0
  pub else_back : (i : ℕ) → Other b.types i → Else b.types (b.types + enumerators_of s) i → ((h : ℕ) → h < b.types + enumerators_of s → i ≢ taken_p b.types h) → get_word (work_of p modes s n) i ≡ 0
  else_back i o c d =
      else_listed i (record { no_head = λ h l. (c h l).1; no_next = λ h l. (c h l).2; no_taken = d })
      ∙ (the_words b (enumerators_of s) s before).else i c
      ∙ before_else b s start i o zeros (omega (arith, types_are, some_type s))
      ∙ zeros_word n i

  -- word 0 of void, word 12 of a type that is no enum, and word 10 of one that is no tag on a type of the table, are 0
  pub void_back : get_field (work_of p modes s n) 0 0 ≡ 0
  void_back =
      field_listed 0 0 (omega (arith, types_are, some_type s)) (omega arith) (λ q. omega arith) (λ q. omega arith) (λ q. omega arith)
      ∙ classes_keep b.types 0 0 (omega (arith, types_are, some_type s)) (omega arith) (λ q. absurd (omega arith)) (λ q. absurd (omega arith)) (λ q. absurd (omega arith)) b refl (enumerators_of s) s before
      ∙ tags_keep b s start (b.types - 1) w2 0 0 (omega arith) (λ q. absurd (omega arith)) (λ q. absurd (omega arith))
      ∙ enums_keep b s start w1 (b.types - 1) 0 0 (omega (arith, types_are, some_type s)) (omega arith) (λ q. absurd (omega arith))
      ∙ places_void start zeros (b.types - 1)
      ∙ zeros_word n 0

  pub first_none_back : (id : ℕ) → id < types_of s → is_enum (get_or start id 0 % 32) ≡ false → get_field (work_of p modes s n) id 12 ≡ 0
  first_none_back id l e =
      let m : id < b.types = omega (arith, types_are) in
      field_listed id 12 m (omega arith) (λ q. omega arith) (λ q. omega arith) (λ q. omega arith)
      ∙ classes_keep b.types id 12 m (omega arith) (λ q. absurd (omega arith)) (λ q. absurd (omega arith)) (λ q. absurd (omega arith)) b refl (enumerators_of s) s before
      ∙ tags_keep b s start (b.types - 1) w2 id 12 (omega arith) (λ q. absurd (omega arith)) (λ q. absurd (omega arith))
      ∙ first_not b s start w1 room1 (b.types - 1) id m (omega arith) e
      ∙ places_keep start zeros (b.types - 1) id 12 (omega arith) (λ q. absurd (omega arith))
      ∙ zeros_word n (id * 16 + 12)

  pub next_none_back : (x : ℕ) → x < types_of s → ((id : ℕ) → id < b.types → is_tag_on b s id (get_or start x 0) ≡ false) → get_field (work_of p modes s n) x 10 ≡ 0
  next_none_back x l h =
      let m : x < b.types = omega (arith, types_are) in
      field_listed x 10 m (omega arith) (λ q. omega arith) (λ q. omega arith) (λ q. omega arith)
      ∙ keeps_10 x m
      ∙ next_not b s start (b.types - 1) w2 x h
      ∙ enums_keep b s start w1 (b.types - 1) x 10 m (omega arith) (λ q. absurd (omega arith))
      ∙ places_keep start zeros (b.types - 1) x 10 (omega arith) (λ q. absurd (omega arith))
      ∙ zeros_word n (x * 16 + 10)

  -- the count of every name is 0: `ledger` of `btf_open_names::classify` holds of this work
  pub counts_back : (h : ℕ) → get_word before (count_p b.types h) ≡ 0
  counts_back h = before_else b s start (count_p b.types h) (other_count b.types h) zeros (omega (arith, types_are, some_type s)) ∙ zeros_word n (count_p b.types h)

  -- room for the names, and the class of each holder: the first with its space and its name
  before_long : length before ≡ n
  before_long = tags_long b s start (b.types - 1) w2 ∙ w2_long

  pub room_back : Room b (enumerators_of s) before
  room_back = record {
    numbered = omega (arith, few, types_are, enumerators_few b s order_ok header_ok types_ok, section_short);
    words = omega (arith, before_long, work_long, types_are);
  }

  pub class_back : (h : ℕ) → h < b.types + enumerators_of s → get_word (work_of p modes s n) (class_p b.types h) ≡ class_of (key_in b s before) h
  class_back h l =
      else_listed (class_p b.types h) (place_unlisted b.types (b.types + enumerators_of s) 5 1 h (omega arith) (omega arith) (λ q. omega arith) (λ q. omega arith) (λ q. omega arith) (λ q. omega arith) (λ q. omega arith) (λ q. omega arith))
      ∙ (the_words b (enumerators_of s) s before).class h room_back l

  -- without bit 3 of the modes the two scratch words of each holder are 0 again: there are no lists
  unlisted : (modes / 8 % 2 ≡ 1 → ⊥) → work_of p modes s n ≡ classed
  unlisted off = work_is ∙ sym (mode_off modes b (enumerators_of s) s classed off)

  pub bucket_back : (modes / 8 % 2 ≡ 1 → ⊥) → (h : ℕ) → h < b.types + enumerators_of s → get_word (work_of p modes s n) (bucket_p b.types h) ≡ 0
  bucket_back off h l = ap (λ (q : List ℕ). get_word q (bucket_p b.types h)) (unlisted off) ∙ (the_words b (enumerators_of s) s before).bucket h room_back l

  pub link_back : (modes / 8 % 2 ≡ 1 → ⊥) → (h : ℕ) → h < b.types + enumerators_of s → get_word (work_of p modes s n) (link_p b.types h) ≡ 0
  link_back off h l = ap (λ (q : List ℕ). get_word q (link_p b.types h)) (unlisted off) ∙ (the_words b (enumerators_of s) s before).link h room_back l

  pub work_length : length (work_of p modes s n) ≡ n
  work_length = ap length work_is ∙ takers_long modes b (enumerators_of s) s classed (omega (arith, types_are, some_type s)) ∙ (the_words b (enumerators_of s) s before).long ∙ before_long

  -- the record of a type as `spec_type_table` finds it
  pub record_back : (id : ℕ) → 1 ≤ id → id < types_of s → record_by_id b s (work_of p modes s n) id ≡ record_at b s (record_place s (id - 1))
  unfolding record_by_id
  record_back id a l =
      rw (ne_eqb id 0 (λ q. absurd (omega arith)), record_by_id, lt-leb b.types id (omega (arith, types_are)))
      (ap (record_at b s) (place_back id a l))

  -- its kind is the one that the index has
  pub kind_back : (id : ℕ) → 1 ≤ id → id < types_of s → kind_of (record_by_id b s (work_of p modes s n) id).info ≡ record_kind s (id - 1)
  unfolding record_at kind_p
  kind_back id a l = ap (λ (q : BtfType). kind_of q.info) (record_back id a l) ∙ kind_is b s order_ok (id - 1)

  -- value k of an enum is the enumerator that many after the enum's first
  pub enumerator_back : (id k : ℕ) → 1 ≤ id → id < types_of s → is_enum (record_kind s (id - 1)) ≡ true → k < 65536
      → enumerator_of (work_of p modes s n) id k ≡ enums_to b s start (id - 1) + k
  unfolding enumerator_of
  enumerator_back id k a l e m =
      let f : get_field (work_of p modes s n) id 12 ≡ enums_to b s start (id - 1) = first_back id a l e in
      let d : enums_to b s start (id - 1) ≤ enums_to b s start (b.types - 1) = to_up b s start (id - 1) (b.types - 1) (omega (arith, types_are)) in
      let t : enums_to b s start (b.types - 1) ≡ enumerators_of s = ap (λ (q : ℕ). enums_to b s start (q - 1)) types_are ∙ enumerators_all b s order_ok header_ok types_ok few in
      rw (le-leb (get_field (work_of p modes s n) id 12 + k) 4294967295 (omega (arith, enumerators_few b s order_ok header_ok types_ok, section_short)), enumerator_of)
      (ap (λ (q : ℕ). q + k) f)

  -- the table that `spec_type_table` reads from the work has the tags of the section, and they are below the count
  pub tags_are : (id : ℕ) → id < types_of s → (btf.btf_of b s (work_of p modes s n)).decl_tags id ≡ tags_on b s start id 1 (b.types - 1)
  unfolding btf.btf_of
  tags_are id l = tags_back id l
