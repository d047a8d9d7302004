-- Worked examples, by computation alone.
use Prim.Native.Nat.{ℕ}
use mathlib.Core.Path.{◌≡◌, refl}
use mathlib.Core.Bool.{true, false}
use mathlib.Core.List.{List, [], ◌∷◌, ◌++◌}
use lib.ListN.{take}
use Rattle.spec_linux_btf.specs.Documentation.{Described, described, member, enumerator64, param, int, ptr, struct, enum64, func_proto, encode, encode_all, encode_header, encode_section}
use Rattle.spec_linux_btf.specs.Reading.{word, kind, decode, sound, named, passes, places, decode_all, layout_sound}
use Rattle.spec_linux_btf.specs.Places.{type_p, kind_p, flag_p, vlen_p}
use Rattle.spec_linux_btf.specs.Section.{is_big_endian, little_endian, header_sound, strings_sound, types_sound, hdr_len_of, type_off_of, type_len_of, str_off_of, str_len_of, type_area, string_area}

---------------------------------------------------------------------------------------------------------------------------------------
-- Document 01's sample: 1 INT int, 2 STRUCT node { next, type 3, bit 0; v, type 1, bit 64 }, 3 PTR to 2

-- "", "int" at 1, "node" at 5, "next" at 10, "v" at 15
strings : List ℕ
strings = 0 ∷ 105 ∷ 110 ∷ 116 ∷ 0 ∷ 110 ∷ 111 ∷ 100 ∷ 101 ∷ 0 ∷ 110 ∷ 101 ∷ 120 ∷ 116 ∷ 0 ∷ 118 ∷ 0 ∷ []

node : List Described
node =
    described 1 0 4 (int 0 32 0 0 1 0)
    ∷ described 5 0 16 (struct (member 10 3 0 0 ∷ member 15 1 64 0 ∷ []))
    ∷ described 0 0 2 (ptr 0)
    ∷ []

node_bytes : List ℕ
node_bytes =
    1 ∷ 0 ∷ 0 ∷ 0 ∷ 0 ∷ 0 ∷ 0 ∷ 1 ∷ 4 ∷ 0 ∷ 0 ∷ 0 ∷ 32 ∷ 0 ∷ 0 ∷ 1
    ∷ 5 ∷ 0 ∷ 0 ∷ 0 ∷ 2 ∷ 0 ∷ 0 ∷ 4 ∷ 16 ∷ 0 ∷ 0 ∷ 0
    ∷ 10 ∷ 0 ∷ 0 ∷ 0 ∷ 3 ∷ 0 ∷ 0 ∷ 0 ∷ 0 ∷ 0 ∷ 0 ∷ 0
    ∷ 15 ∷ 0 ∷ 0 ∷ 0 ∷ 1 ∷ 0 ∷ 0 ∷ 0 ∷ 64 ∷ 0 ∷ 0 ∷ 0
    ∷ 0 ∷ 0 ∷ 0 ∷ 0 ∷ 0 ∷ 0 ∷ 0 ∷ 2 ∷ 2 ∷ 0 ∷ 0 ∷ 0
    ∷ []

node_laid : encode_all false node ≡ node_bytes
unfolding node node_bytes encode_all encode
node_laid = refl

node_read : decode_all false node_bytes ≡ node
unfolding node node_bytes decode_all decode places word kind
node_read = refl

node_places : places false 262144 node_bytes 0 ≡ 0 ∷ 16 ∷ 52 ∷ []
unfolding node_bytes places word kind
node_places = refl

node_sound : layout_sound false 17 node_bytes ≡ true
unfolding node_bytes layout_sound passes sound named word kind
node_sound = refl

-- with a string area of 15 bytes the name of v, at 15, is past its end
node_name : layout_sound false 15 node_bytes ≡ false
unfolding node_bytes layout_sound passes sound named word kind
node_name = refl

-- one byte more is a record past its area
node_more : layout_sound false 17 (node_bytes ++ (0 ∷ [])) ≡ false
unfolding node_bytes layout_sound passes sound named word kind
node_more = refl

node_section : (header_sound (encode_section false 0 node strings) ≡ true) × (strings_sound (string_area (encode_section false 0 node strings)) ≡ true) × (types_sound (encode_section false 0 node strings) ≡ true)
unfolding node strings encode_section encode_header encode_all encode is_big_endian little_endian header_sound strings_sound types_sound hdr_len_of type_off_of type_len_of str_off_of str_len_of type_area string_area layout_sound passes sound named word kind
node_section = (refl, refl, refl)

-- the same types with the most significant byte of each word first
node_bytes_big : List ℕ
node_bytes_big =
    0 ∷ 0 ∷ 0 ∷ 1 ∷ 1 ∷ 0 ∷ 0 ∷ 0 ∷ 0 ∷ 0 ∷ 0 ∷ 4 ∷ 1 ∷ 0 ∷ 0 ∷ 32
    ∷ 0 ∷ 0 ∷ 0 ∷ 5 ∷ 4 ∷ 0 ∷ 0 ∷ 2 ∷ 0 ∷ 0 ∷ 0 ∷ 16
    ∷ 0 ∷ 0 ∷ 0 ∷ 10 ∷ 0 ∷ 0 ∷ 0 ∷ 3 ∷ 0 ∷ 0 ∷ 0 ∷ 0
    ∷ 0 ∷ 0 ∷ 0 ∷ 15 ∷ 0 ∷ 0 ∷ 0 ∷ 1 ∷ 0 ∷ 0 ∷ 0 ∷ 64
    ∷ 0 ∷ 0 ∷ 0 ∷ 0 ∷ 2 ∷ 0 ∷ 0 ∷ 0 ∷ 0 ∷ 0 ∷ 0 ∷ 2
    ∷ []

node_laid_big : encode_all true node ≡ node_bytes_big
unfolding node node_bytes_big encode_all encode
node_laid_big = refl

node_read_big : decode_all true node_bytes_big ≡ node
unfolding node node_bytes_big decode_all decode places word kind
node_read_big = refl

-- in the other order they are not read
node_order : layout_sound false 17 node_bytes_big ≡ false
unfolding node_bytes_big layout_sound passes sound named word kind
node_order = refl

-- and a section of them, whose header begins EB 9F
node_header_big : take 8 (encode_section true 0 node strings) ≡ 0xeb ∷ 0x9f ∷ 1 ∷ 0 ∷ 0 ∷ 0 ∷ 0 ∷ 24 ∷ []
unfolding encode_section encode_header
node_header_big = refl

node_section_big : (header_sound (encode_section true 0 node strings) ≡ true) × (strings_sound (string_area (encode_section true 0 node strings)) ≡ true) × (types_sound (encode_section true 0 node strings) ≡ true)
unfolding node strings encode_section encode_header encode_all encode is_big_endian little_endian header_sound strings_sound types_sound hdr_len_of type_off_of type_len_of str_off_of str_len_of type_area string_area layout_sound passes sound named word kind
node_section_big = (refl, refl, refl)

---------------------------------------------------------------------------------------------------------------------------------------
-- A struct with kind_flag: a bit field of 3 bits at bit 5, an ENUM64 with the value 2^32 + 7, a FUNC_PROTO with a variable argument

field3 : Described
field3 = described 9 1 4 (struct (member 2 1 5 3 ∷ member 3 1 8 0 ∷ []))

field3_bytes : List ℕ
field3_bytes =
    9 ∷ 0 ∷ 0 ∷ 0 ∷ 2 ∷ 0 ∷ 0 ∷ 132 ∷ 4 ∷ 0 ∷ 0 ∷ 0
    ∷ 2 ∷ 0 ∷ 0 ∷ 0 ∷ 1 ∷ 0 ∷ 0 ∷ 0 ∷ 5 ∷ 0 ∷ 0 ∷ 3
    ∷ 3 ∷ 0 ∷ 0 ∷ 0 ∷ 1 ∷ 0 ∷ 0 ∷ 0 ∷ 8 ∷ 0 ∷ 0 ∷ 0
    ∷ []

field3_laid : encode false field3 ≡ field3_bytes
unfolding field3 field3_bytes encode
field3_laid = refl

field3_read : (decode false field3_bytes ≡ field3) × (type_p (word false field3_bytes) 0 ≡ field3)
unfolding field3 field3_bytes decode type_p kind_p flag_p vlen_p word kind
field3_read = (refl, refl)

big : Described
big = described 6 0 8 (enum64 (enumerator64 1 7 1 ∷ []))

big_bytes : List ℕ
big_bytes = 6 ∷ 0 ∷ 0 ∷ 0 ∷ 1 ∷ 0 ∷ 0 ∷ 19 ∷ 8 ∷ 0 ∷ 0 ∷ 0 ∷ 1 ∷ 0 ∷ 0 ∷ 0 ∷ 7 ∷ 0 ∷ 0 ∷ 0 ∷ 1 ∷ 0 ∷ 0 ∷ 0 ∷ []

big_both : (encode false big ≡ big_bytes) × (decode false big_bytes ≡ big)
unfolding big big_bytes encode decode word kind
big_both = (refl, refl)

printf : Described
printf = described 0 0 1 (func_proto (param 4 2 ∷ param 0 0 ∷ []))

printf_bytes : List ℕ
printf_bytes = 0 ∷ 0 ∷ 0 ∷ 0 ∷ 2 ∷ 0 ∷ 0 ∷ 13 ∷ 1 ∷ 0 ∷ 0 ∷ 0 ∷ 4 ∷ 0 ∷ 0 ∷ 0 ∷ 2 ∷ 0 ∷ 0 ∷ 0 ∷ 0 ∷ 0 ∷ 0 ∷ 0 ∷ 0 ∷ 0 ∷ 0 ∷ 0 ∷ []

printf_both : (encode false printf ≡ printf_bytes) × (decode false printf_bytes ≡ printf)
unfolding printf printf_bytes encode decode word kind
printf_both = (refl, refl)

-- kind 20 is refused, and so is an unused bit of info
kind_20 : layout_sound false 1 (0 ∷ 0 ∷ 0 ∷ 0 ∷ 0 ∷ 0 ∷ 0 ∷ 20 ∷ 0 ∷ 0 ∷ 0 ∷ 0 ∷ []) ≡ false
unfolding layout_sound passes sound named word kind
kind_20 = refl

unused_16 : layout_sound false 1 (0 ∷ 0 ∷ 0 ∷ 0 ∷ 0 ∷ 0 ∷ 1 ∷ 2 ∷ 0 ∷ 0 ∷ 0 ∷ 0 ∷ []) ≡ false
unfolding layout_sound passes sound named word kind
unused_16 = refl
