-- The encoder gives bytes; and a section written as the page has it is read as its types. Assumes nothing.
use Prim.Native.Nat.{ℕ, zero, suc, ◌<◌, ◌≤◌}
use mathlib.Core.Path.{◌≡◌, ap, ◌∙◌, sym}
use mathlib.Core.Bool.{Bool, true, false}
use mathlib.Core.List.{List, [], ◌∷◌, ◌++◌}
use native.Mathlib.Omega.{arith}
use lib.ListN.{length}
use Rattle.spec_linux_btf.specs.Documentation.{Field, field, other_bytes, in_bytes, lay_out, pack, put_each, Every, btf_type, btf_info, btf_int, int_word, btf_array, btf_member, btf_enum, btf_param, btf_var, btf_var_secinfo, btf_decl_tag, btf_enum64, btf_header, btf_magic, offset_word, Member, member, Enumerator, enumerator, Param, param, Secinfo, secinfo, Enumerator64, enumerator64, put_member, put_enumerator, put_param, put_secinfo, put_enumerator64, Body, int, ptr, array, struct, union, enum, fwd, typedef, volatile, const, restrict, func, func_proto, var, datasec, float, decl_tag, type_tag, enum64, Described, described, kind_of, vlen_of, put_body, encode, encode_all, Fits, Allowed, Header, header, encode_header, encode_section, encode_table, NonzeroAscii}
use Rattle.spec_linux_btf.specs.Reading.{Bytes, decode_all, layout_sound}
use Rattle.spec_linux_btf.specs.Section.{is_big_endian, str_len_of, type_area, string_area, header_sound, strings_sound, types_sound, ReadAs}
use Rattle.spec_linux_btf.proofs.Strings.{strings_back, strings_once}
use Rattle.spec_linux_btf.proofs.Area.{allowed_fits, layout_read, layout_passes, only_read}
use Rattle.spec_linux_btf.proofs.Section.{section_order, section_header, section_sound, section_read}
use Rattle.spec_linux_btf.proofs.SectionFields.{section_fields, area_bytes}

bytes_append : (x y : List ℕ) → Bytes x → Bytes y → Bytes (x ++ y)
bytes_append [] y hx hy i = hy i
bytes_append (a ∷ x) y hx hy zero = hx 0
bytes_append (a ∷ x) y hx hy (suc i) = bytes_append x y (λ j. hx (suc j)) hy i

in_bytes_lem : (big : Bool) (w v : ℕ) → Bytes (in_bytes big w v)
in_bytes_lem big zero v i = omega arith
in_bytes_lem true (suc w) v zero = omega arith
in_bytes_lem false (suc w) v zero = omega arith
in_bytes_lem big (suc w) v (suc i) = in_bytes_lem big w (other_bytes big v) i

layout_bytes : (big : Bool) (fs : List Field) (vs : List ℕ) → Bytes (lay_out big fs vs)
layout_bytes big [] vs i = omega arith
layout_bytes big (field n o w ∷ fs) [] i = omega arith
layout_bytes big (field n o w ∷ fs) (v ∷ vs) i = bytes_append (in_bytes big w v) (lay_out big fs vs) (in_bytes_lem big w v) (layout_bytes big fs vs) i

all_bytes : {E : Type 0} (put : E → List ℕ) → ((e : E) → Bytes (put e)) → (es : List E) → Bytes (put_each put es)
all_bytes put h [] i = omega arith
all_bytes put h (e ∷ es) i = bytes_append (put e) (put_each put es) (h e) (all_bytes put h es) i

member_bytes : (big : Bool) (f : ℕ) (m : Member) → Bytes (put_member big f m)
member_bytes big f (member n t b s) = layout_bytes big btf_member (n ∷ t ∷ offset_word f b s ∷ [])

enumerator_bytes : (big : Bool) (e : Enumerator) → Bytes (put_enumerator big e)
enumerator_bytes big (enumerator n v) = layout_bytes big btf_enum (n ∷ v ∷ [])

param_bytes : (big : Bool) (e : Param) → Bytes (put_param big e)
param_bytes big (param n t) = layout_bytes big btf_param (n ∷ t ∷ [])

secinfo_bytes : (big : Bool) (e : Secinfo) → Bytes (put_secinfo big e)
secinfo_bytes big (secinfo t o s) = layout_bytes big btf_var_secinfo (t ∷ o ∷ s ∷ [])

enumerator64_bytes : (big : Bool) (e : Enumerator64) → Bytes (put_enumerator64 big e)
enumerator64_bytes big (enumerator64 n l h) = layout_bytes big btf_enum64 (n ∷ l ∷ h ∷ [])

body_bytes : (big : Bool) (f : ℕ) (b : Body) → Bytes (put_body big f b)
body_bytes big f (int v a b c d e) i = layout_bytes big int_word (pack btf_int (a ∷ b ∷ c ∷ d ∷ e ∷ []) ∷ []) i
body_bytes big f (ptr v) i = omega arith
body_bytes big f (array v t x n) i = layout_bytes big btf_array (t ∷ x ∷ n ∷ []) i
body_bytes big f (struct es) i = all_bytes (put_member big f) (member_bytes big f) es i
body_bytes big f (union es) i = all_bytes (put_member big f) (member_bytes big f) es i
body_bytes big f (enum es) i = all_bytes (put_enumerator big) (enumerator_bytes big) es i
body_bytes big f (fwd v) i = omega arith
body_bytes big f (typedef v) i = omega arith
body_bytes big f (volatile v) i = omega arith
body_bytes big f (const v) i = omega arith
body_bytes big f (restrict v) i = omega arith
body_bytes big f (func v) i = omega arith
body_bytes big f (func_proto es) i = all_bytes (put_param big) (param_bytes big) es i
body_bytes big f (var v l) i = layout_bytes big btf_var (l ∷ []) i
body_bytes big f (datasec es) i = all_bytes (put_secinfo big) (secinfo_bytes big) es i
body_bytes big f (float v) i = omega arith
body_bytes big f (decl_tag v c) i = layout_bytes big btf_decl_tag (c ∷ []) i
body_bytes big f (type_tag v) i = omega arith
body_bytes big f (enum64 es) i = all_bytes (put_enumerator64 big) (enumerator64_bytes big) es i

pub encode_bytes : (big : Bool) (t : Described) → Bytes (encode big t)
unfolding encode
encode_bytes big (described n f t b) =
    bytes_append
    (lay_out big btf_type (n ∷ pack btf_info (vlen_of b ∷ kind_of b ∷ f ∷ []) ∷ t ∷ []))
    (put_body big f b)
    (layout_bytes big btf_type (n ∷ pack btf_info (vlen_of b ∷ kind_of b ∷ f ∷ []) ∷ t ∷ []))
    (body_bytes big f b)

pub encode_all_bytes : (big : Bool) (ts : List Described) → Bytes (encode_all big ts)
unfolding encode_all
encode_all_bytes big [] i = omega arith
encode_all_bytes big (t ∷ ts) i = bytes_append (encode big t) (encode_all big ts) (encode_bytes big t) (encode_all_bytes big ts) i

header_bytes : (big : Bool) (h : Header) → Bytes (encode_header big h)
unfolding encode_header
header_bytes big (header v f h o l p q) = layout_bytes big btf_header (btf_magic ∷ v ∷ f ∷ h ∷ o ∷ l ∷ p ∷ q ∷ [])

pub section_bytes : (big : Bool) (flags : ℕ) (ts : List Described) (strings : List ℕ) → Bytes strings → Bytes (encode_section big flags ts strings)
unfolding encode_section
section_bytes big flags ts strings y =
    bytes_append (encode_header big (header 1 flags 24 0 (length (encode_all big ts)) (length (encode_all big ts)) (length strings))) (encode_all big ts ++ strings) (header_bytes big (header 1 flags 24 0 (length (encode_all big ts)) (length (encode_all big ts)) (length strings))) (bytes_append (encode_all big ts) strings (encode_all_bytes big ts) y)

-- a section written as the page has it is read by places as its types
pub section_as : (big : Bool) (flags : ℕ) (ts : List Described) (strings : List ℕ) → flags < 256 → length (encode_all big ts) < 4294967296 → length strings < 4294967296
    → Bytes strings → Every (Allowed (length strings)) ts → length ts ≤ 262144 → ReadAs (encode_section big flags ts strings) ts
section_as big flags ts strings hf ht hs y a l =
    let s : List ℕ = encode_section big flags ts strings in
    let o : is_big_endian s ≡ big = section_order big flags ts strings hf ht hs in
    let e : decode_all (is_big_endian s) (type_area s) ≡ ts = ap (λ (x : Bool). decode_all x (type_area s)) o ∙ section_read big flags ts strings hf ht hs (allowed_fits (length strings) ts a) l in
    rw e at
    (section_fields s (section_bytes big flags ts strings y) (section_header big flags ts strings hf ht hs) (section_sound big flags ts strings hf ht hs a l))

-- and so is any section whose type section is the bytes of types
pub area_as : (s : List ℕ) (ts : List Described) → Bytes s → header_sound s ≡ true → type_area s ≡ encode_all (is_big_endian s) ts → Every (Allowed (str_len_of s)) ts
    → length ts ≤ 262144 → ReadAs s ts
unfolding types_sound
area_as s ts y h e a l =
    let t : layout_sound (is_big_endian s) (str_len_of s) (type_area s) ≡ true = rw e (layout_passes (is_big_endian s) (str_len_of s) ts a l) in
    let d : decode_all (is_big_endian s) (type_area s) ≡ ts = ap (decode_all (is_big_endian s)) e ∙ (layout_read (is_big_endian s) ts (allowed_fits (str_len_of s) ts a) l).1 in
    rw d at (section_fields s y h t)

-- a section without causes 3, 4 and 5 has exactly one list of types, and exactly one list of strings
pub section_one : (s : List ℕ) → Bytes s → header_sound s ≡ true → strings_sound (string_area s) ≡ true → types_sound s ≡ true
    → ((ts : List Described) × ReadAs s ts × ((us : List Described) → Every Fits us → encode_all (is_big_endian s) us ≡ type_area s → us ≡ ts))
    × ((ss : List (List ℕ)) × Every (Every NonzeroAscii) ss × (encode_table ss ≡ string_area s) × ((us : List (List ℕ)) → Every (Every NonzeroAscii) us → encode_table us ≡ string_area s → us ≡ ss))
unfolding types_sound
section_one s y h g t =
    let b = strings_back (string_area s) g in (
      (decode_all (is_big_endian s) (type_area s), section_fields s y h t, λ us f e. only_read (is_big_endian s) (str_len_of s) (type_area s) (area_bytes s y) t us f e),
      (b.0, b.1, b.2, λ us f e. strings_once us b.0 f b.1 (e ∙ sym b.2)),
    )
