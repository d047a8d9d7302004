-- The order of a section's bytes: the sentences of the request as theorems, and that the same types and strings, written as the Linux documentation
-- has them, give the same table in either order. Assumes nothing.
use Prim.Native.Nat.{ℕ, zero, suc, ◌+◌, ◌-◌, ◌*◌, ◌<◌, ◌≤◌}
use mathlib.Core.Path.{◌≡◌, refl, ap, ◌∙◌, sym}
use mathlib.Core.Bool.{Bool, true, false, ◌&&◌, not}
use mathlib.Core.List.{List, [], ◌∷◌, ◌++◌}
use mathlib.Core.Logic.{⊎_elim}
use native.Mathlib.Omega.{arith}
use lib.ListN.{length, get_or, drop, length-append}
use lib.Seq.{drop-drop, drop-append_seam}
use lib.Dec.{ltb, leb, eqb}
use borrow.Author.Tests.{lt-ltb}
use Rattle.std.proofs.lemmas.Bool.{cases_lt}
use Rattle.spec_bytes.specs.words.Words.{word_at, word_at_big, word_in, pick}
use Rattle.spec_linux_btf.specs.Documentation.{Member, member, Enumerator, enumerator, Param, param, Enumerator64, enumerator64, int, ptr, array, struct, union, enum, fwd, typedef, volatile, const, restrict, func, func_proto, var, datasec, float, decl_tag, type_tag, enum64, Described, described, encode_all, Every, Allowed, Header, header, encode_header, encode_section}
use Rattle.spec_linux_btf.specs.Reading.{Bytes, decode_all}
use Rattle.spec_linux_btf.specs.Section.{is_big_endian, little_endian, word_of, hdr_len_of, type_len_of, str_off_of, str_len_of, types_at, strings_at, read_header, type_area, header_sound}
use Rattle.spec_linux_btf.proofs.Area.{allowed_fits}
use Rattle.spec_linux_btf.proofs.Section.{header_read, section_order, section_read, past_header, header_length}
use Rattle.spec_linux_btf.proofs.Written.{section_bytes}
use Rattle.spec_c_dumper.specs.rules.Types.{Int, Composite, Enum, Enum64, Fwd, Typedef, Func, Var, Datasec, FuncProto, Float, DeclTag, TypeTag}
use Rattle.spec_type_table.specs.declared.types.TypeTable.{TypeTable}
use Rattle.spec_type_table.specs.Names.{up_to_zero, name_at, str_at}
use Rattle.spec_type_table.specs.Records.{section_word}
use Rattle.spec_type_table.specs.Documented.{is_set, kept_members, kept_params, kept_values, kept_values64, kept}
use Rattle.btf_open_causes.specs.header.Header.{btf_of, strings_at as strings_place}
use Rattle.spec_opening.specs.Table.{described_in, types_of}
use Rattle.spec_opening.specs.Causes.{cause3, opening_number}
use Rattle.btf_open_causes.proofs.header.Headers.{read4, read16}
use Rattle.spec_opening.proofs.ReadBack.{section_short}
use Rattle.proof_demands.specs.demands.Table.{header_of, opened_table, tag_ids}
use Rattle.proof_demands.proofs.demands.Described.{type_described, type_zero, type_past, tags_described}

---------------------------------------------------------------------------------------------------------------------------------------
-- "A section whose first bytes are EB 9F is read with every word most significant byte first": by the header, and by the causes and the requests,
-- whose table is `btf_of` of the section
module _ (s : List ℕ) (first : get_or s 0 0 ≡ 235) (second : get_or s 1 0 ≡ 159) where
  big_endian : is_big_endian s ≡ true
  unfolding is_big_endian
  big_endian = rw (first, second)

  pub big_header : (at : ℕ) → word_of s at ≡ word_at_big s at
  unfolding word_of word_in
  big_header at = ap (λ (big : Bool). word_in big s at) big_endian

  pub big_words : (pointer modes types at : ℕ) → section_word (btf_of s pointer modes types) s at ≡ word_at_big s at
  unfolding section_word btf_of word_in
  big_words pointer modes types at = ap (λ (big : Bool). word_in big s at) big_endian

  -- "Cause 3 no longer covers that magic": what is left of it
  pub big_cause_3 : cause3 s
      ≡ not (leb 24 (length s) && (eqb (get_or s 2 0) 1 && (leb 24 (hdr_len_of s) && (leb (hdr_len_of s) (length s) && (leb (types_at s + type_len_of s) (length s) && leb (strings_at s + str_len_of s) (length s))))))
  unfolding cause3 header_sound
  big_cause_3 = rw big_endian

-- all others as before, and of these only 9F EB passes cause 3
pub little_words : (s : List ℕ) → is_big_endian s ≡ false → (pointer modes types at : ℕ) → section_word (btf_of s pointer modes types) s at ≡ word_at s at
unfolding section_word btf_of word_in
little_words s e pointer modes types at = ap (λ (big : Bool). word_in big s at) e

pub other_magic : (s : List ℕ) → is_big_endian s ≡ false → little_endian s ≡ false → cause3 s ≡ true
unfolding cause3 header_sound
other_magic s e f = rw (e, f) (none (leb 24 (length s)))
  where
    none : (t : Bool) → not (t && false) ≡ true
    none true = refl
    none false = refl

---------------------------------------------------------------------------------------------------------------------------------------
-- A described type, as the Rust keeps it, depends on the section by its names alone

module _ (b c : TypeTable) (s u : List ℕ) (same : (off : ℕ) → str_at b s off ≡ str_at c u off) where
  members_same : (ms : List Member) → kept_members b.strs s ms ≡ kept_members c.strs u ms
  members_same [] = refl
  members_same (member n t o z ∷ ms) = λ i. record { name = same n i; type_id = t; bit_offset = o; bit_size = z } ∷ members_same ms i

  params_same : (ps : List Param) → kept_params b.strs s ps ≡ kept_params c.strs u ps
  params_same [] = refl
  params_same (param n t ∷ ps) = λ i. record { name = same n i; type_id = t } ∷ params_same ps i

  values_same : (vs : List Enumerator) → kept_values b.strs s vs ≡ kept_values c.strs u vs
  values_same [] = refl
  values_same (enumerator n v ∷ vs) = λ i. record { name = same n i; value = v } ∷ values_same vs i

  values64_same : (vs : List Enumerator64) → kept_values64 b.strs s vs ≡ kept_values64 c.strs u vs
  values64_same [] = refl
  values64_same (enumerator64 n lo hi ∷ vs) = λ i. record { name = same n i; value = hi * 4294967296 + lo } ∷ values64_same vs i

  kept_same : (t : Described) → kept b.strs s t ≡ kept c.strs u t
  unfolding kept
  kept_same (described n f z (int v bits x o e y)) = λ i. Int (same n i) bits
  kept_same (described n f z (ptr v)) = refl
  kept_same (described n f z (array v t x k)) = refl
  kept_same (described n f z (struct ms)) = λ i. Composite true (same n i) z (members_same ms i)
  kept_same (described n f z (union ms)) = λ i. Composite false (same n i) z (members_same ms i)
  kept_same (described n f z (enum vs)) = λ i. Enum (is_set f) (same n i) z (values_same vs i)
  kept_same (described n f z (fwd v)) = λ i. Fwd (is_set f) (same n i)
  kept_same (described n f z (typedef v)) = λ i. Typedef (same n i) z
  kept_same (described n f z (volatile v)) = refl
  kept_same (described n f z (const v)) = refl
  kept_same (described n f z (restrict v)) = refl
  kept_same (described n f z (func v)) = λ i. Func (same n i)
  kept_same (described n f z (func_proto ps)) = λ i. FuncProto z (params_same ps i)
  kept_same (described n f z (var v k)) = λ i. Var (same n i)
  kept_same (described n f z (datasec es)) = λ i. Datasec (same n i)
  kept_same (described n f z (float v)) = λ i. Float (same n i) z
  kept_same (described n f z (decl_tag v k)) = λ i. DeclTag (is_set f) (same n i) z k
  kept_same (described n f z (type_tag v)) = λ i. TypeTag (is_set f) (same n i) z
  kept_same (described n f z (enum64 vs)) = λ i. Enum64 (is_set f) (same n i) z (values64_same vs i)

---------------------------------------------------------------------------------------------------------------------------------------
-- A section written in one order

abbrev length_in : Header → ℕ
length_in (header v f h o l p q) = h

abbrev strings_in : Header → ℕ
strings_in (header v f h o l p q) = p

module _ (pointer modes n flags : ℕ) (ts : List Described) (strings : List ℕ) (hf : flags < 256) (y : Bytes strings) (a : Every (Allowed (length strings)) ts) (few : length ts ≤ 262144) where
  abbrev written : Bool → List ℕ
  written big = encode_section big flags ts strings

  -- in an order in which it opens
  module _ (big : Bool) (ok : opening_number pointer (written big) n ≡ 0) where
    abbrev s : List ℕ
    s = written big

    abbrev area_length : ℕ
    area_length = length (encode_all big ts)

    abbrev head : Header
    head = header 1 flags 24 0 area_length area_length (length strings)

    whole : length s ≡ 24 + (area_length + length strings)
    unfolding encode_section
    whole = length-append (encode_header big head) (encode_all big ts ++ strings) ∙ rw (header_length big head, length-append (encode_all big ts) strings)

    area_short : area_length < 4294967296
    area_short = omega (arith, whole, section_short pointer modes s n ok)

    strings_short : length strings < 4294967296
    strings_short = omega (arith, whole, section_short pointer modes s n ok)

    described_is : described_in s ≡ ts
    described_is =
        ap (λ (o : Bool). decode_all o (type_area s)) (section_order big flags ts strings hf area_short strings_short)
        ∙ section_read big flags ts strings hf area_short strings_short (allowed_fits (length strings) ts a) few

    count_is : types_of s ≡ suc (length ts)
    unfolding types_of
    count_is = ap (λ (l : List Described). suc (length l)) described_is

    header_is : read_header s ≡ head
    unfolding encode_section
    header_is =
        header_read big head (encode_all big ts ++ strings) (omega arith, (omega arith, (hf, (omega arith, (omega arith, (area_short, (area_short, (strings_short, tt))))))))

    hdr_is : hdr_len_of s ≡ 24
    unfolding read_header
    hdr_is = ap length_in header_is

    off_is : str_off_of s ≡ area_length
    unfolding read_header
    off_is = ap strings_in header_is

    strings_are : (header_of pointer modes s).strs ≡ 24 + area_length
    unfolding btf_of strings_place
    strings_are =
        let e : word_of s 4 + word_of s 16 ≡ 24 + area_length = omega (arith, read4 s (omega (arith, whole)), read16 s (omega (arith, whole)), hdr_is, off_is) in
        ap (λ (k : ℕ). pick (ltb k 4294967296) k 4294967295) e ∙ rw (lt-ltb (24 + area_length) 4294967296 (omega (arith, whole, section_short pointer modes s n ok)))

    tail_is : (off : ℕ) → drop (24 + area_length + off) s ≡ drop off strings
    unfolding encode_section
    tail_is off =
        sym (drop-drop off (24 + area_length) s)
        ∙ ap (drop off) (sym (drop-drop area_length 24 s) ∙ ap (drop area_length) (past_header big head (encode_all big ts ++ strings)) ∙ drop-append_seam (encode_all big ts) strings)

    name_is : (off : ℕ) → str_at (header_of pointer modes s) s off ≡ name_at strings off
    unfolding name_at
    name_is off = ap (λ (k : ℕ). name_at s (k + off)) strings_are ∙ ap up_to_zero (tail_is off)

---------------------------------------------------------------------------------------------------------------------------------------
-- "The Rust knows both orders, so equality extends to these sections": the same types and strings, written in the one order and in the other. Where
-- both sections open, their tables are the same: count, the type of every id with its names, the tags of every type
module _ (pointer modes n flags : ℕ) (ts : List Described) (strings : List ℕ) (hf : flags < 256) (y : Bytes strings) (a : Every (Allowed (length strings)) ts) (few : length ts ≤ 262144)
    (ok : opening_number pointer (encode_section true flags ts strings) n ≡ 0) (ok' : opening_number pointer (encode_section false flags ts strings) n ≡ 0) where
  abbrev u : List ℕ
  u = encode_section true flags ts strings

  abbrev v : List ℕ
  v = encode_section false flags ts strings

  names_same : (off : ℕ) → str_at (header_of pointer modes u) u off ≡ str_at (header_of pointer modes v) v off
  names_same off =
      name_is pointer modes n flags ts strings hf y a few true ok off ∙ sym (name_is pointer modes n flags ts strings hf y a few false ok' off)

  pub count_same : types_of u ≡ types_of v
  count_same = count_is pointer modes n flags ts strings hf y a few true ok ∙ sym (count_is pointer modes n flags ts strings hf y a few false ok')

  described_same : described_in u ≡ described_in v
  described_same = described_is pointer modes n flags ts strings hf y a few true ok ∙ sym (described_is pointer modes n flags ts strings hf y a few false ok')

  pub types_same : (id : ℕ) → (opened_table pointer modes u n).type_by_id id ≡ (opened_table pointer modes v n).type_by_id id
  types_same zero = type_zero pointer modes u n ok ∙ sym (type_zero pointer modes v n ok')
  types_same (suc id) = ⊎_elim inside past (cases_lt (suc id) (types_of u))
    where
      past : types_of u ≤ suc id → (opened_table pointer modes u n).type_by_id (suc id) ≡ (opened_table pointer modes v n).type_by_id (suc id)
      past l = type_past pointer modes u n ok (suc id) l ∙ sym (type_past pointer modes v n ok' (suc id) (omega (arith, count_same)))

      d : Described
      d = described 0 0 0 (ptr 0)

      inside : suc id < types_of u → (opened_table pointer modes u n).type_by_id (suc id) ≡ (opened_table pointer modes v n).type_by_id (suc id)
      inside l =
          type_described pointer modes u n ok (section_bytes true flags ts strings y) (suc id) (omega arith) l d
          ∙ kept_same (header_of pointer modes u) (header_of pointer modes v) u v names_same (get_or (described_in u) (suc id - 1) d)
          ∙ ap (λ (l : List Described). kept (header_of pointer modes v).strs v (get_or l (suc id - 1) d)) described_same
          ∙ sym (type_described pointer modes v n ok' (section_bytes false flags ts strings y) (suc id) (omega arith) (omega (arith, count_same)) d)

  pub tags_same : (id : ℕ) → id < types_of u → (opened_table pointer modes u n).decl_tags id ≡ (opened_table pointer modes v n).decl_tags id
  tags_same id l =
      tags_described pointer modes u n ok id l
      ∙ (λ i. tag_ids (λ x. types_same x i) id 1 (count_same i - 1))
      ∙ sym (tags_described pointer modes v n ok' id (omega (arith, count_same)))
