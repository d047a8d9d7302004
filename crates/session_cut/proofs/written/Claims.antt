-- THE THEOREM: what the code writes is the section of the definition, of every section that passes causes 2 to 6. Assumes nothing.
use Prim.Native.Nat.{ℕ, suc, ◌+◌, ◌<◌, ◌≤◌, zero}
use native.Mathlib.Omega.{arith}
use mathlib.Core.Path.{◌≡◌, refl, sym, ◌∙◌, ap, ap₂}
use mathlib.Core.Bool.{Bool, true, false, ◌||◌, true≢false}
use mathlib.Core.List.{List, ◌++◌, map, append_assoc, Memᴰ}
use lib.ListN.{length, get_or, drop, length-append}
use lib.Dec.{ltb}
use borrow.Author.Tests.{le-ltb, lt-ltb, ltb-true, ltb-false}
use Rattle.std.proofs.Math.Bool.{or-true}
use Rattle.spec_bytes.specs.words.Words.{words}
use Rattle.spec_linux_btf.specs.Documentation.{Described, Every, Allowed, size_of, btf_header, btf_version, header, encode_all, encode_strings, encode_header, encode_section}
use Rattle.spec_linux_btf.specs.Reading.{Bytes}
use Rattle.spec_linux_btf.specs.Section.{is_big_endian, str_len_of, string_area, header_sound, strings_sound, types_sound}
use Rattle.spec_linux_btf.proofs.Claims.{section_fields}
use Rattle.spec_c_dumper.specs.rules.Types.{Name}
use Rattle.spec_type_table.specs.declared.types.TypeTable.{TypeTable}
use Rattle.spec_type_table.specs.Names.{name_at, str_at}
use Rattle.btf_open_causes.specs.references.Followed.{type_count}
use Rattle.btf_open_causes.specs.references.Bounds.{count_fits}
use Rattle.btf_open_causes.specs.references.References.{BadReference}
use Rattle.btf_open_causes.proofs.references.BadIds.{bad_reference}
use Rattle.spec_opening.specs.Table as opening
use Rattle.spec_opening.specs.Table.{index_of}
use Rattle.spec_opening.specs.Causes.{cause6, table_of}
use Rattle.spec_cut.specs.section.Renumbered.{new_id}
use Rattle.spec_cut.specs.section.Strings.{all_mentions, has, first_names, place_in}
use Rattle.spec_cut.specs.section.Section.{types_of, old_types, new_names, new_offset, new_types, new_strings, cut_section, any_past, cut_output}
use Rattle.spec_cut.specs.section.Test.{is_kept}
use Rattle.spec_cut.proofs.section.Claims.{GoodReferences}
use Rattle.spec_cut.proofs.section.Written.{every_kept}
use Rattle.spec_cut.proofs.reopened.Followed.{seen}
use Rattle.spec_cut.proofs.reopened.Causes.{references}
use Rattle.spec_cut.proofs.reopened.Strings.{all_below, area_length, name_in_area}
use Rattle.session_cut_marks.specs.marks.Marks.{all_zero, ids_of}
use Rattle.session_cut_marks.specs.mentioned.Names.{zero_bases, base_of, bases_to, place_of}
use Rattle.session_cut_marks.specs.mentioned.Strings.{strings_bytes}
use Rattle.session_cut.specs.writer.Bytes.{head_bytes, types_size, types_bytes, all_bytes, Wrote, wrote_of, fitting_written, kept_written}
use Rattle.session_cut_marks.proofs.mentioned.Sizes.{strings_length}
use Rattle.session_cut.proofs.writer.Sizes.{types_length}
use Rattle.std.proofs.Common.{Option, Some, None}
use Rattle.session_cut.specs.stored.Mentioned.{stored, names_before}
use Rattle.session_cut.proofs.stored.Strings.{strings_are}
use Rattle.session_cut.proofs.stored.Places.{place_is}
use Rattle.session_cut.proofs.written.Ids.{ids_all}
use Rattle.session_cut.proofs.written.Record.{order}
use Rattle.session_cut.proofs.written.Types.{types_are, names_all}
use Rattle.session_cut.proofs.written.Alike.{types_long, types_alike, store_all, mem_has, head_is}

-- the tests of the code, in its order, and those of the definition
abbrev tests : (long strings types whole room : Bool) → Wrote → Wrote → Wrote
tests long strings types whole room none all =
    elim long [
      | true ↦ none
      | false ↦ elim strings [ true ↦ none | false ↦ elim types [ true ↦ none | false ↦ elim whole [ true ↦ none | false ↦ elim room [ true ↦ none | false ↦ all ] ] ] ]
    ]

-- "23 when the output slice is short or the new section would pass 16,777,216 bytes"
abbrev pub twenty_three : ℕ → ℕ → ℕ
twenty_three out len = elim (ltb out len || ltb 16777216 len) [ true ↦ 23 | false ↦ 0 ]

-- the length written, where there is no refusal
abbrev pub cut_length : ℕ → ℕ → Option ℕ
cut_length zero len = Some len
cut_length (suc number) len = None

-- "the header has 24 bytes"
head_long : (big : Bool) (flags types strings : ℕ) (rest : List ℕ) → length (encode_header big (header btf_version flags (size_of btf_header) 0 types types strings) ++ rest) ≡ 24 + length rest
unfolding encode_header
head_long big flags types strings rest = plus (length rest)
  where
    plus : (n : ℕ) → suc (suc (suc (suc (suc (suc (suc (suc (suc (suc (suc (suc (suc (suc (suc (suc (suc (suc (suc (suc (suc (suc (suc (suc n))))))))))))))))))))))) ≡ 24 + n
    plus n = omega arith

-- p: pointer size; given: the given ids in bytes
module _ (p : ℕ) (s : List ℕ) (y : Bytes s) (short : length s ≤ 16777216) (h : header_sound s ≡ true) (st : strings_sound (string_area s) ≡ true) (t : types_sound s ≡ true)
    (six : cause6 p s ≡ false) (given : List ℕ) (past : any_past (opening.types_of s) (words given) ≡ false) where
  abbrev b : TypeTable
  b = table_of p s

  abbrev ts : List Described
  ts = types_of s

  abbrev start : List ℕ
  start = index_of s

  abbrev ids : List ℕ
  ids = ids_of b s start given all_zero

  abbrev m : ℕ → Bool
  m = is_kept ts (words given)

  no_six : BadReference b s start → ⊥
  unfolding cause6
  no_six r = true≢false (sym ((bad_reference b s start).1 r) ∙ six)

  good : GoodReferences ts
  good = references b s start ts (seen p s y h t) no_six

  same : (x : ℕ) → get_or ids x 0 ≡ new_id m x
  unfolding opening.types_of
  same = ids_all b s start ts (seen p s y h t) (section_fields s y h t).few good given past

  -- ---- names

  mentioned : (n : ℕ) → Memᴰ n (all_mentions (old_types m s)) → str_at b s n ≡ name_at (string_area s) n
  unfolding table_of
  mentioned n k =
      let kept : Every (Allowed (str_len_of s)) (old_types m s) = every_kept (Allowed (str_len_of s)) m 1 (types_of s) (section_fields s y h t).allowed in
      name_in_area s h short p 0 (opening.types_of s) st n (omega (arith, all_below (str_len_of s) (old_types m s) kept n k, area_length s h))

  names_met : names_before b s start ids (type_count b) ≡ map (str_at b s) (all_mentions (old_types m s))
  names_met = names_all p s y h t m ids same

  names_stored : stored (names_before b s start ids (type_count b)) ≡ new_names m s
  names_stored = ap stored names_met ∙ store_all (str_at b s) (string_area s) first_names (all_mentions (old_types m s)) mentioned

  strings_written : strings_bytes b s start ids (type_count b) ≡ new_strings m s
  strings_written = sym (strings_are b s start ids (type_count b)) ∙ ap encode_strings names_stored

  abbrev S : ℕ
  S = base_of b s start ids (type_count b)

  strings_size : S ≡ length (new_strings m s)
  strings_size = sym (strings_length b s start ids (type_count b)) ∙ ap length strings_written

  -- ---- types

  abbrev bases : List ℕ
  bases = bases_to b s start ids zero_bases (type_count b)

  abbrev code_offset : ℕ → ℕ
  code_offset n = place_of b s start ids bases n

  abbrev T : ℕ
  T = types_size b s start ids (type_count b)

  big_is : b.big_endian ≡ is_big_endian s
  big_is = order p s y h t

  types_size_lem : T ≡ length (encode_all (is_big_endian s) (new_types m s))
  types_size_lem =
      sym (types_length b s start ids bases (type_count b))
      ∙ ap length (types_are p s y h t m ids same bases)
      ∙ types_long b.big_endian (λ x. get_or ids x 0) code_offset (new_id m) (new_offset m s) (old_types m s)
      ∙ ap (λ (big : Bool). length (encode_all big (new_types m s))) big_is

  -- a name is placed where the definition places it
  placed : S ≤ 16777216 → (n : ℕ) → Memᴰ n (all_mentions (old_types m s)) → code_offset n ≡ new_offset m s n
  placed l n k =
      place_is b s start ids l (count_fits b) n (ap (λ (ns : List Name). has ns (str_at b s n)) names_met ∙ mem_has (str_at b s) (all_mentions (old_types m s)) n k)
      ∙ ap₂ place_in names_stored (mentioned n k)

  types_written : S ≤ 16777216 → types_bytes b s start ids bases (type_count b) ≡ encode_all (is_big_endian s) (new_types m s)
  types_written l =
      types_are p s y h t m ids same bases
      ∙ types_alike b.big_endian (λ x. get_or ids x 0) code_offset (new_id m) (new_offset m s) same (old_types m s) (placed l)
      ∙ ap (λ (big : Bool). encode_all big (new_types m s)) big_is

  -- ---- the section

  pub section_size : length (cut_section m s) ≡ 24 + T + S
  unfolding cut_section encode_section encode_header
  section_size =
      let a : List ℕ = encode_all (is_big_endian s) (new_types m s) in
      let c : List ℕ = new_strings m s in
      let e : length (a ++ c) ≡ length a + length c = length-append a c in
      head_long (is_big_endian s) (get_or s 3 0) (length a) (length c) (a ++ c) ∙ omega (arith, e, types_size_lem, strings_size)

  pub section_written : S ≤ 16777216 → T ≤ 16777216 → all_bytes b s start ids bases T S ≡ cut_section m s
  unfolding all_bytes cut_section encode_section
  section_written l k =
      (λ j. (head j ++ types_written l j) ++ strings_written j)
      ∙ append_assoc (encode_header (is_big_endian s) (header btf_version (get_or s 3 0) (size_of btf_header) 0 (length (encode_all (is_big_endian s) (new_types m s))) (length (encode_all (is_big_endian s) (new_types m s))) (length (new_strings m s))))
      (encode_all (is_big_endian s) (new_types m s)) (new_strings m s)
    where
      head : head_bytes b.big_endian (get_or s 3 0) T S
          ≡ encode_header (is_big_endian s) (header btf_version (get_or s 3 0) (size_of btf_header) 0 (length (encode_all (is_big_endian s) (new_types m s))) (length (encode_all (is_big_endian s) (new_types m s))) (length (new_strings m s)))
      head =
          (λ j. head_bytes (big_is j) (get_or s 3 0) T S)
          ∙ head_is (is_big_endian s) (get_or s 3 0) T S (y 3) (omega (arith, k)) (omega (arith, l))
          ∙ (λ j. encode_header (is_big_endian s) (header btf_version (get_or s 3 0) (size_of btf_header) 0 (types_size_lem j) (types_size_lem j) (strings_size j)))

  -- ---- what is left in the output slice

  abbrev after : ℕ → List ℕ → Wrote
  after number out = wrote_of (cut_length number (length (cut_section m s))) (cut_output number (cut_section m s) out)

  refused : (out : List ℕ) → (ltb (length out) (length (cut_section m s)) || ltb 16777216 (length (cut_section m s))) ≡ true → wrote_of None out ≡ after (twenty_three (length out) (length (cut_section m s))) out
  refused out e = ap (λ (q : Bool). after (elim q [ true ↦ 23 | false ↦ 0 ]) out) (sym e)

  accepted : (out : List ℕ) → (ltb (length out) (length (cut_section m s)) || ltb 16777216 (length (cut_section m s))) ≡ false
      → wrote_of (Some (length (cut_section m s))) (cut_section m s ++ drop (length (cut_section m s)) out) ≡ after (twenty_three (length out) (length (cut_section m s))) out
  accepted out e = ap (λ (q : Bool). after (elim q [ true ↦ 23 | false ↦ 0 ]) out) (sym e)

  too_long : (out : List ℕ) → 16777216 < length (cut_section m s) → (ltb (length out) (length (cut_section m s)) || ltb 16777216 (length (cut_section m s))) ≡ true
  too_long out l = ap (λ (q : Bool). ltb (length out) (length (cut_section m s)) || q) (lt-ltb 16777216 (length (cut_section m s)) l) ∙ or-true (ltb (length out) (length (cut_section m s)))

  -- THE THEOREM: the length written and every byte of the output slice
  pub kept_written_lem : (out : List ℕ) → kept_written b s start ids out ≡ after (twenty_three (length out) (length (cut_section m s))) out
  unfolding kept_written fitting_written
  kept_written_lem out =
      ap (λ (q : Bool). tests q (ltb 16777216 S) (ltb 16777216 T) (ltb 16777216 (24 + T + S)) (ltb (length out) (24 + T + S)) (wrote_of None out) whole) (le-ltb 16777216 (length s) short)
      ∙ go (ltb 16777216 S) refl (ltb 16777216 T) refl (ltb 16777216 (24 + T + S)) refl (ltb (length out) (24 + T + S)) refl
    where
      whole : Wrote
      whole = wrote_of (Some (24 + T + S)) (all_bytes b s start ids bases T S ++ drop (24 + T + S) out)

      go : (c : Bool) → ltb 16777216 S ≡ c → (d : Bool) → ltb 16777216 T ≡ d → (e : Bool) → ltb 16777216 (24 + T + S) ≡ e → (f : Bool) → ltb (length out) (24 + T + S) ≡ f
          → tests false c d e f (wrote_of None out) whole ≡ after (twenty_three (length out) (length (cut_section m s))) out
      go true ec d ed e ee f ef = refused out (too_long out (omega (arith, ltb-true 16777216 S ec, section_size)))
      go false ec true ed e ee f ef = refused out (too_long out (omega (arith, ltb-true 16777216 T ed, section_size)))
      go false ec false ed true ee f ef = refused out (too_long out (omega (arith, ltb-true 16777216 (24 + T + S) ee, section_size)))
      go false ec false ed false ee true ef = refused out (ap (λ (q : Bool). q || ltb 16777216 (length (cut_section m s))) (ap (ltb (length out)) section_size ∙ ef))
      go false ec false ed false ee false ef =
          (λ j. wrote_of (Some (sym section_size j)) (section_written (ltb-false 16777216 S ec) (ltb-false 16777216 T ed) j ++ drop (sym section_size j) out))
          ∙ accepted out (λ j. (ap (ltb (length out)) section_size ∙ ef) j || (ap (ltb 16777216) section_size ∙ ee) j)
