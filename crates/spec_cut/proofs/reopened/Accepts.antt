-- Opening accepts the new section of a section that it accepted. Assumes nothing.
use Prim.Native.Nat.{ℕ, zero, suc, ◌+◌, ◌*◌, ◌<◌, ◌≤◌}
use native.Mathlib.Omega.{arith}
use mathlib.Core.Path.{◌≡◌, refl, sym, ◌∙◌, ap, subst}
use mathlib.Core.Bool.{Bool, true, false, ◌&&◌, not, true≢false}
use mathlib.Core.List.{List, [], ◌∷◌, ◌++◌, Memᴰ}
use lib.ListN.{length, get_or, length-append}
use lib.Dec.{leb}
use borrow.Author.Tests.{leb-true, le-ltb}
use Rattle.std.proofs.lemmas.Bool.{false_from_ne_true}
use Rattle.spec_linux_btf.specs.Documentation.{Described, Every, Fits, encode_all, header, btf_header, btf_version, size_of, encode_header, encode_section}
use Rattle.spec_linux_btf.specs.Reading.{Bytes}
use Rattle.spec_linux_btf.specs.Section.{is_big_endian, str_len_of, string_area, header_sound, strings_sound, types_sound, all_ascii, ReadAs}
use Rattle.spec_linux_btf.proofs.Claims.{section_fields}
use Rattle.spec_linux_btf.proofs.Written.{section_bytes}
use Rattle.spec_linux_btf.proofs.Area.{allowed_fits}
use Rattle.btf_open_causes.specs.references.References.{BadReference}
use Rattle.btf_open_causes.proofs.references.BadIds.{bad_reference}
use Rattle.btf_open_causes.specs.prototypes.Prototypes.{ProtoInside}
use Rattle.btf_open_causes.proofs.prototypes.Held.{any_leads_lem}
use Rattle.btf_open_causes.specs.loops.Loops.{TypeLoop}
use Rattle.btf_open_causes.proofs.loops.TypeLoops.{type_loop}
use Rattle.spec_opening.specs.Table as opening
use Rattle.spec_opening.specs.Table.{enumerators_of, index_of}
use Rattle.spec_opening.specs.Causes.{cause2, cause3, cause4, cause5, cause6, cause7, cause8, cause9, table_of, causes, opening_number}
use Rattle.spec_opening.proofs.Order.{NoneHolds, sound_none}
use Rattle.spec_opening.proofs.ReadBack.{header_ok, strings_ok, types_ok}
use Rattle.spec_cut.specs.section.Kept.{followed_ids, type_of, Tells}
use Rattle.spec_cut.specs.section.Section.{types_of, new_types, new_offset, new_strings, cut_section}
use Rattle.spec_cut.proofs.section.Numbers.{Stays}
use Rattle.spec_cut.proofs.section.Claims.{GoodReferences, kept_closed}
use Rattle.spec_cut.proofs.section.Written as written
use Rattle.spec_cut.proofs.section.Area.{sound_ascii, no_cause_4}
use Rattle.spec_cut.specs.reopened.Seen.{SeenFrom}
use Rattle.spec_cut.proofs.reopened.Followed.{seen}
use Rattle.spec_cut.proofs.reopened.Causes.{references, no_bad, no_proto, no_loop}

ascii_bytes : (l : List ℕ) → all_ascii l ≡ true → Bytes l
ascii_bytes [] h i = omega arith
ascii_bytes (x ∷ l) h zero = small (leb x 127) refl h
  where
    small : (b : Bool) → leb x 127 ≡ b → (b && all_ascii l) ≡ true → x < 256
    small true e q = omega (arith, leb-true x 127 e)
    small false e q = absurd (true≢false (sym q))
ascii_bytes (x ∷ l) h (suc i) = ascii_bytes l (more (leb x 127) h) i
  where
    more : (b : Bool) → (b && all_ascii l) ≡ true → all_ascii l ≡ true
    more true q = q
    more false q = absurd (true≢false (sym q))

behind : (a b c : List ℕ) → length b + length c ≤ length (a ++ (b ++ c))
behind a b c = omega (arith, length-append a (b ++ c), length-append b c)

areas_inside : (big : Bool) (flags : ℕ) (ts : List Described) (strings : List ℕ) → length (encode_all big ts) + length strings ≤ length (encode_section big flags ts strings)
unfolding encode_section
areas_inside big flags ts strings =
    behind (encode_header big (header btf_version flags (size_of btf_header) 0 (length (encode_all big ts)) (length (encode_all big ts)) (length strings))) (encode_all big ts) strings

-- A section that opening accepted, and its new section, which is not over 16,777,216 bytes: else the call for it gives 23.
module _ (p : ℕ) (s : List ℕ) (n : ℕ) (ok : opening_number p s n ≡ 0) (y : Bytes s) (given : List ℕ) (m : ℕ → Bool) (tells : Tells (types_of s) given m)
    (short : length (cut_section m s) ≤ 16777216) where
  abbrev s' : List ℕ
  s' = cut_section m s

  none : NoneHolds (causes p s n)
  none = (sound_none p s n).0 ok

  read : ReadAs s (types_of s)
  read = section_fields s y (header_ok p 0 s n ok) (types_ok p 0 s n ok)

  fit : Every Fits (types_of s)
  fit = allowed_fits (str_len_of s) (types_of s) read.allowed

  lengths : length (encode_all (is_big_endian s) (new_types m s)) + length (new_strings m s) ≤ length s'
  unfolding cut_section
  lengths = areas_inside (is_big_endian s) (get_or s 3 0) (new_types m s) (new_strings m s)

  types_short : length (encode_all (is_big_endian s) (new_types m s)) ≤ 16777216
  types_short = omega (arith, short, lengths)

  strings_short : length (new_strings m s) ≤ 16777216
  strings_short = omega (arith, short, lengths)

  pub new_header : header_sound s' ≡ true
  new_header = written.no_cause_3 m s (y 3) fit read.few types_short strings_short

  pub new_sound : types_sound s' ≡ true
  new_sound = written.no_cause_5 m s (y 3) fit read.few types_short strings_short

  pub strings_read : string_area s' ≡ new_strings m s
  strings_read = written.read_strings m s (y 3) fit read.few types_short strings_short

  pub types_read : types_of s' ≡ new_types m s
  types_read = written.types_read m s (y 3) fit read.few types_short strings_short

  new_strings_lem : strings_sound (new_strings m s) ≡ true
  new_strings_lem = no_cause_4 m s (strings_ok p 0 s n ok)

  pub new_bytes : Bytes s'
  unfolding cut_section
  new_bytes = section_bytes (is_big_endian s) (get_or s 3 0) (new_types m s) (new_strings m s) (ascii_bytes (new_strings m s) (sound_ascii (new_strings m s) new_strings_lem))

  old_seen : SeenFrom (table_of p s) s (index_of s) (types_of s)
  old_seen = seen p s y (header_ok p 0 s n ok) (types_ok p 0 s n ok)

  new_seen : SeenFrom (table_of p s') s' (index_of s') (new_types m s)
  new_seen = subst (λ (ts : List Described). SeenFrom (table_of p s') s' (index_of s') ts) types_read (seen p s' new_bytes new_header new_sound)

  old_6 : BadReference (table_of p s) s (index_of s) → ⊥
  unfolding cause6
  old_6 r = true≢false (sym ((bad_reference (table_of p s) s (index_of s)).1 r) ∙ none.1.1.1.1.1.0)

  old_7 : ProtoInside (table_of p s) s (index_of s) → ⊥
  unfolding cause7
  old_7 r = true≢false (sym ((any_leads_lem (table_of p s) s (index_of s)).1 r) ∙ none.1.1.1.1.1.1.0)

  old_8 : TypeLoop (table_of p s) s (index_of s) → ⊥
  unfolding cause8
  old_8 r = true≢false (sym ((type_loop (table_of p s) s (index_of s)).1 r) ∙ none.1.1.1.1.1.1.1.0)

  -- no cause 6 of the old section, in the words of the theorem on sections cut down
  pub good : GoodReferences (types_of s)
  good = references (table_of p s) s (index_of s) (types_of s) old_seen old_6

  closed : (x : ℕ) → Stays m x → x ≤ length (types_of s) → (z : ℕ) → Memᴰ z (followed_ids (type_of (types_of s) x)) → Stays m z × (z ≤ length (types_of s))
  closed x st l z h = let q = kept_closed (types_of s) given m tells good x st l z h in (q.0, q.1)

  new_6 : cause6 p s' ≡ false
  unfolding cause6
  new_6 = false_from_ne_true _ (λ e. no_bad m (new_offset m s) (types_of s) (table_of p s) (table_of p s') s s' (index_of s) (index_of s') old_seen new_seen closed old_6 ((bad_reference (table_of p s') s' (index_of s')).0 e))

  new_7 : cause7 p s' ≡ false
  unfolding cause7
  new_7 = false_from_ne_true _ (λ e. no_proto m (new_offset m s) (types_of s) (table_of p s) (table_of p s') s s' (index_of s) (index_of s') old_seen new_seen closed old_7 ((any_leads_lem (table_of p s') s' (index_of s')).0 e))

  new_8 : cause8 p s' ≡ false
  unfolding cause8
  new_8 = false_from_ne_true _ (λ e. no_loop m (new_offset m s) (types_of s) (table_of p s) (table_of p s') s s' (index_of s) (index_of s') old_seen new_seen closed old_8 ((type_loop (table_of p s') s' (index_of s')).0 e))

  new_2 : cause2 s' ≡ false
  unfolding cause2
  new_2 = le-ltb 16777216 (length s') short

  new_3 : cause3 s' ≡ false
  unfolding cause3
  new_3 = ap not new_header

  new_4 : cause4 s' ≡ false
  unfolding cause4
  new_4 = ap (λ (a : List ℕ). not (strings_sound a)) strings_read ∙ ap not new_strings_lem

  new_5 : cause5 s' ≡ false
  unfolding cause5
  new_5 = ap not new_sound

  -- THE THEOREM: with "long enough work", of n' bytes, opening accepts the new section
  pub accepted : (n' : ℕ) → 4 * (16 * opening.types_of s' + 8 * enumerators_of s' + 4096) ≤ n' → opening_number p s' n' ≡ 0
  unfolding cause9
  accepted n' l = (sound_none p s' n').1 (none.0, (new_2, (new_3, (new_4, (new_5, (new_6, (new_7, (new_8, (le-ltb n' (4 * (16 * opening.types_of s' + 8 * enumerators_of s' + 4096)) l, tt)))))))))
