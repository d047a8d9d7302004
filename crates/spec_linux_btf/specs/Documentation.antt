-- Documentation/bpf/btf.rst of Linux, section 2 with 2.1 and 2.2, as definitions: its structs as tables of fields, its "bits arrangement"s
-- as tables of ranges, what follows `struct btf_type` for each kind, and the bytes that a described type, a string table and a whole
-- section have.
-- Written from the page alone, in its order and with its names; what it does not say is marked. It does not say how a section is read:
-- `Reading`.
-- The page's C structs have their words in one of two orders ("different encoding for big and little endian systems"): `big` says which.
use Rattle.std.specs.Prelude.{ℕ, zero, suc, ◌+◌, ◌-◌, ◌*◌, ◌/◌, ◌%◌, ◌^◌, ◌<◌, ◌≤◌, ◌≡◌, Bool, true, false, List, [], ◌∷◌, ◌++◌, length}
use Rattle.std.specs.Prelude.{get_or}
use Prim.Native.String.{String}

---------------------------------------------------------------------------------------------------------------------------------------
-- A C struct, and a word with a bits arrangement, in bytes

-- a field of a struct: its name, its offset in bytes and its width in bytes
pub data Field : Type 0 where
  field : String → ℕ → ℕ → Field

-- "bits first-last: name", both counted from the least significant bit, 0
pub data Range : Type 0 where
  bits : String → ℕ → ℕ → Range

-- of suc w bytes of v the first: the most significant one where `big`, else the least significant one; and what the others hold
abbrev pub first_byte : Bool → ℕ → ℕ → ℕ
first_byte true w v = v / 256 ^ w % 256
first_byte false w v = v % 256

abbrev pub other_bytes : Bool → ℕ → ℕ
other_bytes true v = v
other_bytes false v = v / 256

-- v in w bytes
abbrev pub in_bytes : Bool → ℕ → ℕ → List ℕ
in_bytes big zero v = []
in_bytes big (suc w) v = first_byte big w v ∷ in_bytes big w (other_bytes big v)

-- a struct's bytes, given the value of each field. (Law field-stands: each field's bytes stand at its offset.)
abbrev pub lay_out : Bool → List Field → List ℕ → List ℕ
lay_out big [] vs = []
lay_out big (field name offset width ∷ fs) [] = []
lay_out big (field name offset width ∷ fs) (v ∷ vs) = in_bytes big width v ++ lay_out big fs vs

-- sizeof
abbrev pub size_of : List Field → ℕ
size_of [] = 0
size_of (field name offset width ∷ fs) = width + size_of fs

-- a word, given the value of each range; bits in no range are 0
abbrev pub pack : List Range → List ℕ → ℕ
pack [] vs = 0
pack (bits name first last ∷ rs) [] = 0
pack (bits name first last ∷ rs) (v ∷ vs) = v * 2 ^ first + pack rs vs

-- the values of the ranges of a word, as the page's macros have them: (word & mask) >> first
abbrev pub unpack : List Range → ℕ → List ℕ
unpack [] word = []
unpack (bits name first last ∷ rs) word = word / 2 ^ first % 2 ^ (suc last - first) ∷ unpack rs word

-- each value fits the width of its field
abbrev pub FitFields : List Field → List ℕ → Type 0
FitFields [] vs = Unit {0}
FitFields (field name offset width ∷ fs) [] = ⊥
FitFields (field name offset width ∷ fs) (v ∷ vs) = (v < 2 ^ (8 * width)) × FitFields fs vs

-- each value fits the width of its range
abbrev pub FitRanges : List Range → List ℕ → Type 0
FitRanges [] vs = Unit {0}
FitRanges (bits name first last ∷ rs) [] = ⊥
FitRanges (bits name first last ∷ rs) (v ∷ vs) = (v < 2 ^ (suc last - first)) × FitRanges rs vs

---------------------------------------------------------------------------------------------------------------------------------------
-- 2. BTF Type and String Encoding

-- struct btf_header: "The beginning of data blob must be"
abbrev pub btf_header : List Field
btf_header =
    field "magic" 0 2
    ∷ field "version" 2 1
    ∷ field "flags" 3 1
    ∷ field "hdr_len" 4 4
    ∷ field "type_off" 8 4
    ∷ field "type_len" 12 4
    ∷ field "str_off" 16 4
    ∷ field "str_len" 20 4
    ∷ []

-- "The magic is 0xeB9F, which has different encoding for big and little endian systems, and can be used to test whether BTF is generated
-- for big- or little-endian target"
abbrev pub btf_magic : ℕ
btf_magic = 0xeb9f

-- BTF_VERSION of include/uapi/linux/btf.h; the page has no number
abbrev pub btf_version : ℕ
btf_version = 1

---------------------------------------------------------------------------------------------------------------------------------------
-- 2.2 Type Encoding

-- struct btf_type: "Each type contains the following common data". The third field is a union, `size` or `type`
abbrev pub btf_type : List Field
btf_type = field "name_off" 0 4 ∷ field "info" 4 4 ∷ field "size/type" 8 4 ∷ []

-- "info" bits arrangement. The bits that the page calls unused are written as 0
abbrev pub btf_info : List Range
btf_info = bits "vlen" 0 15 ∷ bits "kind" 24 28 ∷ bits "kind_flag" 31 31 ∷ []

abbrev pub btf_info_unused : List Range
btf_info_unused = bits "unused" 16 23 ∷ bits "unused" 29 30 ∷ []

-- 2.2.1 BTF_KIND_INT: "followed by a u32 with the following bits arrangement", BTF_INT_BITS, BTF_INT_OFFSET, BTF_INT_ENCODING.
-- The page says nothing of bits 8-15 and 28-31
abbrev pub btf_int : List Range
btf_int = bits "bits" 0 7 ∷ bits "(no name)" 8 15 ∷ bits "offset" 16 23 ∷ bits "encoding" 24 27 ∷ bits "(no name)" 28 31 ∷ []

abbrev pub int_word : List Field
int_word = field "u32" 0 4 ∷ []

-- 2.2.3 BTF_KIND_ARRAY: struct btf_array
abbrev pub btf_array : List Field
btf_array = field "type" 0 4 ∷ field "index_type" 4 4 ∷ field "nelems" 8 4 ∷ []

-- 2.2.4 BTF_KIND_STRUCT, 2.2.5 BTF_KIND_UNION: struct btf_member
abbrev pub btf_member : List Field
btf_member = field "name_off" 0 4 ∷ field "type" 4 4 ∷ field "offset" 8 4 ∷ []

-- btf_member.offset "if the kind_flag is set": BTF_MEMBER_BIT_OFFSET, BTF_MEMBER_BITFIELD_SIZE
abbrev pub member_offset_bits : List Range
member_offset_bits = bits "bit offset" 0 23 ∷ bits "bitfield size" 24 31 ∷ []

-- 2.2.6 BTF_KIND_ENUM: struct btf_enum. `val` is a __s32: here its bits
abbrev pub btf_enum : List Field
btf_enum = field "name_off" 0 4 ∷ field "val" 4 4 ∷ []

-- 2.2.13 BTF_KIND_FUNC_PROTO: struct btf_param
abbrev pub btf_param : List Field
btf_param = field "name_off" 0 4 ∷ field "type" 4 4 ∷ []

-- 2.2.14 BTF_KIND_VAR: struct btf_var
abbrev pub btf_var : List Field
btf_var = field "linkage" 0 4 ∷ []

-- 2.2.15 BTF_KIND_DATASEC: struct btf_var_secinfo
abbrev pub btf_var_secinfo : List Field
btf_var_secinfo = field "type" 0 4 ∷ field "offset" 4 4 ∷ field "size" 8 4 ∷ []

-- 2.2.17 BTF_KIND_DECL_TAG: struct btf_decl_tag. -1 is 4294967295
abbrev pub btf_decl_tag : List Field
btf_decl_tag = field "component_idx" 0 4 ∷ []

-- 2.2.19 BTF_KIND_ENUM64: struct btf_enum64
abbrev pub btf_enum64 : List Field
btf_enum64 = field "name_off" 0 4 ∷ field "val_lo32" 4 4 ∷ field "val_hi32" 8 4 ∷ []

-- "For certain kinds, the common data are followed by kind-specific data": none, one struct, or info.vlen of a struct
pub data Follows : Type 0 where
  unknown nothing : Follows
  one each : List Field → Follows

-- by the number BTF_KIND_*; kind k is section 2.2.k. (Laws body-laid, body-count: `put_body` writes what
-- this table says.)
abbrev pub kinds : List Follows
kinds =
    unknown
    ∷ one int_word  --  1 INT
    ∷ nothing  --  2 PTR
    ∷ one btf_array  --  3 ARRAY
    ∷ each btf_member  --  4 STRUCT
    ∷ each btf_member  --  5 UNION
    ∷ each btf_enum  --  6 ENUM
    ∷ nothing  --  7 FWD
    ∷ nothing  --  8 TYPEDEF
    ∷ nothing  --  9 VOLATILE
    ∷ nothing  -- 10 CONST
    ∷ nothing  -- 11 RESTRICT
    ∷ nothing  -- 12 FUNC
    ∷ each btf_param  -- 13 FUNC_PROTO
    ∷ one btf_var  -- 14 VAR
    ∷ each btf_var_secinfo  -- 15 DATASEC
    ∷ nothing  -- 16 FLOAT
    ∷ one btf_decl_tag  -- 17 DECL_TAG
    ∷ nothing  -- 18 TYPE_TAG: the page names nothing that follows
    ∷ each btf_enum64  -- 19 ENUM64
    ∷ []

-- what follows a type of the kind with this number
abbrev pub follows : ℕ → Follows
follows kind = get_or kinds kind unknown

-- its size in bytes
abbrev pub follow_size : Follows → ℕ → ℕ
follow_size unknown vlen = 0
follow_size nothing vlen = 0
follow_size (one s) vlen = size_of s
follow_size (each s) vlen = vlen * size_of s

---------------------------------------------------------------------------------------------------------------------------------------
-- Described types: the numbers that sections 2.2 and 2.2.1 to 2.2.19 give to a type of each kind

-- struct btf_member: name_off, type, bit offset, bitfield size. Where kind_flag is not set it is 0: that is the scope's; the page has the
-- size in the INT that is the base type then (docs/DIFFERENCES.md)
pub data Member : Type 0 where
  member : ℕ → ℕ → ℕ → ℕ → Member

-- struct btf_enum: name_off, val
pub data Enumerator : Type 0 where
  enumerator : ℕ → ℕ → Enumerator

-- struct btf_param: name_off, type
pub data Param : Type 0 where
  param : ℕ → ℕ → Param

-- struct btf_var_secinfo: type, offset, size
pub data Secinfo : Type 0 where
  secinfo : ℕ → ℕ → ℕ → Secinfo

-- struct btf_enum64: name_off, val_lo32, val_hi32
pub data Enumerator64 : Type 0 where
  enumerator64 : ℕ → ℕ → ℕ → Enumerator64

-- What a type has beside name_off, kind_flag and size/type. Where info.vlen counts no entries it is a number of its own, v: the page
-- asks for 0 there, and for the linkage in FUNC. A number in parentheses is a range of bits that the page does not name.
pub data Body : Type 0 where
  int : ℕ → ℕ → ℕ → ℕ → ℕ → ℕ → Body  -- 2.2.1: vlen; bits, (8-15), offset, encoding, (28-31)
  ptr : ℕ → Body  -- 2.2.2: vlen
  array : ℕ → ℕ → ℕ → ℕ → Body  -- 2.2.3: vlen; type, index_type, nelems
  struct : List Member → Body  -- 2.2.4
  union : List Member → Body  -- 2.2.5
  enum : List Enumerator → Body  -- 2.2.6
  fwd : ℕ → Body  -- 2.2.7: vlen
  typedef : ℕ → Body  -- 2.2.8: vlen
  volatile : ℕ → Body  -- 2.2.9: vlen
  const : ℕ → Body  -- 2.2.10: vlen
  restrict : ℕ → Body  -- 2.2.11: vlen
  func : ℕ → Body  -- 2.2.12: vlen, the linkage
  func_proto : List Param → Body  -- 2.2.13
  var : ℕ → ℕ → Body  -- 2.2.14: vlen; linkage
  datasec : List Secinfo → Body  -- 2.2.15
  float : ℕ → Body  -- 2.2.16: vlen
  decl_tag : ℕ → ℕ → Body  -- 2.2.17: vlen; component_idx
  type_tag : ℕ → Body  -- 2.2.18: vlen
  enum64 : List Enumerator64 → Body  -- 2.2.19

-- struct btf_type: name_off, info.kind_flag, size/type; the body has info.kind and info.vlen, and what follows
pub data Described : Type 0 where
  described : ℕ → ℕ → ℕ → Body → Described

---------------------------------------------------------------------------------------------------------------------------------------
-- The bytes of a type

-- info.kind, the number BTF_KIND_*
abbrev pub kind_of : Body → ℕ
kind_of (int v a b c d e) = 1
kind_of (ptr v) = 2
kind_of (array v t i n) = 3
kind_of (struct ms) = 4
kind_of (union ms) = 5
kind_of (enum es) = 6
kind_of (fwd v) = 7
kind_of (typedef v) = 8
kind_of (volatile v) = 9
kind_of (const v) = 10
kind_of (restrict v) = 11
kind_of (func v) = 12
kind_of (func_proto ps) = 13
kind_of (var v l) = 14
kind_of (datasec ss) = 15
kind_of (float v) = 16
kind_of (decl_tag v c) = 17
kind_of (type_tag v) = 18
kind_of (enum64 es) = 19

-- info.vlen
abbrev pub vlen_of : Body → ℕ
vlen_of (int v a b c d e) = v
vlen_of (ptr v) = v
vlen_of (array v t i n) = v
vlen_of (struct ms) = length ms
vlen_of (union ms) = length ms
vlen_of (enum es) = length es
vlen_of (fwd v) = v
vlen_of (typedef v) = v
vlen_of (volatile v) = v
vlen_of (const v) = v
vlen_of (restrict v) = v
vlen_of (func v) = v
vlen_of (func_proto ps) = length ps
vlen_of (var v l) = v
vlen_of (datasec ss) = length ss
vlen_of (float v) = v
vlen_of (decl_tag v c) = v
vlen_of (type_tag v) = v
vlen_of (enum64 es) = length es

-- btf_member.offset. 2.2.5: "If the type info kind_flag is not set, the offset contains only bit offset of the member"; "if the kind_flag
-- is set, the btf_member.offset contains both member bitfield size and bit offset"
abbrev pub offset_word : ℕ → ℕ → ℕ → ℕ
offset_word zero bit size = bit
offset_word (suc flag) bit size = pack member_offset_bits (bit ∷ size ∷ [])

abbrev pub put_member : Bool → ℕ → Member → List ℕ
put_member big flag (member name type bit size) = lay_out big btf_member (name ∷ type ∷ offset_word flag bit size ∷ [])

abbrev pub put_enumerator : Bool → Enumerator → List ℕ
put_enumerator big (enumerator name val) = lay_out big btf_enum (name ∷ val ∷ [])

abbrev pub put_param : Bool → Param → List ℕ
put_param big (param name type) = lay_out big btf_param (name ∷ type ∷ [])

abbrev pub put_secinfo : Bool → Secinfo → List ℕ
put_secinfo big (secinfo type offset size) = lay_out big btf_var_secinfo (type ∷ offset ∷ size ∷ [])

abbrev pub put_enumerator64 : Bool → Enumerator64 → List ℕ
put_enumerator64 big (enumerator64 name lo hi) = lay_out big btf_enum64 (name ∷ lo ∷ hi ∷ [])

-- "followed by info.vlen number of": the entries in sequence
abbrev pub put_each : {E : Type 0} → (E → List ℕ) → List E → List ℕ
put_each put [] = []
put_each put (e ∷ es) = put e ++ put_each put es

-- what follows `struct btf_type`
abbrev pub put_body : Bool → ℕ → Body → List ℕ
put_body big flag (int v a b c d e) = lay_out big int_word (pack btf_int (a ∷ b ∷ c ∷ d ∷ e ∷ []) ∷ [])
put_body big flag (ptr v) = []
put_body big flag (array v t i n) = lay_out big btf_array (t ∷ i ∷ n ∷ [])
put_body big flag (struct ms) = put_each (put_member big flag) ms
put_body big flag (union ms) = put_each (put_member big flag) ms
put_body big flag (enum es) = put_each (put_enumerator big) es
put_body big flag (fwd v) = []
put_body big flag (typedef v) = []
put_body big flag (volatile v) = []
put_body big flag (const v) = []
put_body big flag (restrict v) = []
put_body big flag (func v) = []
put_body big flag (func_proto ps) = put_each (put_param big) ps
put_body big flag (var v l) = lay_out big btf_var (l ∷ [])
put_body big flag (datasec ss) = put_each (put_secinfo big) ss
put_body big flag (float v) = []
put_body big flag (decl_tag v c) = lay_out big btf_decl_tag (c ∷ [])
put_body big flag (type_tag v) = []
put_body big flag (enum64 es) = put_each (put_enumerator64 big) es

-- 2.2: the bytes of a type, struct btf_type and what follows it
unfoldable pub encode : Bool → Described → List ℕ
encode big (described name flag size_type body) =
    lay_out big btf_type (name ∷ pack btf_info (vlen_of body ∷ kind_of body ∷ flag ∷ []) ∷ size_type ∷ []) ++ put_body big flag body

-- 2.2: "The type section is parsed sequentially and type id is assigned to each recognized type starting from id 1": the bytes of
-- the types with the ids 1, 2, ..
unfoldable pub encode_all : Bool → List Described → List ℕ
encode_all big [] = []
encode_all big (t ∷ ts) = encode big t ++ encode_all big ts

-- the offset at which each of them begins, if the first begins at p
unfoldable pub starts : Bool → ℕ → List Described → List ℕ
starts big p [] = []
starts big p (t ∷ ts) = p ∷ starts big (p + length (encode big t)) ts

---------------------------------------------------------------------------------------------------------------------------------------
-- The numbers fit their fields and ranges

abbrev pub Every : {E : Type 0} → (E → Type 0) → List E → Type 0
Every P [] = Unit {0}
Every P (e ∷ es) = P e × Every P es

abbrev pub FitOffset : ℕ → ℕ → ℕ → Type 0
FitOffset zero bit size = (bit < 2 ^ 32) × (size ≡ 0)
FitOffset (suc flag) bit size = FitRanges member_offset_bits (bit ∷ size ∷ [])

abbrev pub FitMember : ℕ → Member → Type 0
FitMember flag (member name type bit size) = (name < 2 ^ 32) × (type < 2 ^ 32) × FitOffset flag bit size

abbrev pub FitEnumerator : Enumerator → Type 0
FitEnumerator (enumerator name val) = FitFields btf_enum (name ∷ val ∷ [])

abbrev pub FitParam : Param → Type 0
FitParam (param name type) = FitFields btf_param (name ∷ type ∷ [])

abbrev pub FitSecinfo : Secinfo → Type 0
FitSecinfo (secinfo type offset size) = FitFields btf_var_secinfo (type ∷ offset ∷ size ∷ [])

abbrev pub FitEnumerator64 : Enumerator64 → Type 0
FitEnumerator64 (enumerator64 name lo hi) = FitFields btf_enum64 (name ∷ lo ∷ hi ∷ [])

abbrev pub FitBody : ℕ → Body → Type 0
FitBody flag (int v a b c d e) = FitRanges btf_int (a ∷ b ∷ c ∷ d ∷ e ∷ [])
FitBody flag (ptr v) = Unit {0}
FitBody flag (array v t i n) = FitFields btf_array (t ∷ i ∷ n ∷ [])
FitBody flag (struct ms) = Every (FitMember flag) ms
FitBody flag (union ms) = Every (FitMember flag) ms
FitBody flag (enum es) = Every FitEnumerator es
FitBody flag (fwd v) = Unit {0}
FitBody flag (typedef v) = Unit {0}
FitBody flag (volatile v) = Unit {0}
FitBody flag (const v) = Unit {0}
FitBody flag (restrict v) = Unit {0}
FitBody flag (func v) = Unit {0}
FitBody flag (func_proto ps) = Every FitParam ps
FitBody flag (var v l) = FitFields btf_var (l ∷ [])
FitBody flag (datasec ss) = Every FitSecinfo ss
FitBody flag (float v) = Unit {0}
FitBody flag (decl_tag v c) = FitFields btf_decl_tag (c ∷ [])
FitBody flag (type_tag v) = Unit {0}
FitBody flag (enum64 es) = Every FitEnumerator64 es

abbrev pub Fits : Described → Type 0
Fits (described name flag size_type body) =
    (name < 2 ^ 32) × (size_type < 2 ^ 32) × FitRanges btf_info (vlen_of body ∷ kind_of body ∷ flag ∷ []) × FitBody flag body

---------------------------------------------------------------------------------------------------------------------------------------
-- 2.2: "The name_off in struct btf_type specifies the offset in the string table", and so do those of btf_member, btf_enum, btf_param and
-- btf_enum64: each is below the length sl of the string section

abbrev pub NamedMember : ℕ → Member → Type 0
NamedMember sl (member name type bit size) = name < sl

abbrev pub NamedEnumerator : ℕ → Enumerator → Type 0
NamedEnumerator sl (enumerator name val) = name < sl

abbrev pub NamedParam : ℕ → Param → Type 0
NamedParam sl (param name type) = name < sl

abbrev pub NamedEnumerator64 : ℕ → Enumerator64 → Type 0
NamedEnumerator64 sl (enumerator64 name lo hi) = name < sl

abbrev pub NamedBody : ℕ → Body → Type 0
NamedBody sl (int v a b c d e) = Unit {0}
NamedBody sl (ptr v) = Unit {0}
NamedBody sl (array v t i n) = Unit {0}
NamedBody sl (struct ms) = Every (NamedMember sl) ms
NamedBody sl (union ms) = Every (NamedMember sl) ms
NamedBody sl (enum es) = Every (NamedEnumerator sl) es
NamedBody sl (fwd v) = Unit {0}
NamedBody sl (typedef v) = Unit {0}
NamedBody sl (volatile v) = Unit {0}
NamedBody sl (const v) = Unit {0}
NamedBody sl (restrict v) = Unit {0}
NamedBody sl (func v) = Unit {0}
NamedBody sl (func_proto ps) = Every (NamedParam sl) ps
NamedBody sl (var v l) = Unit {0}
NamedBody sl (datasec ss) = Unit {0}
NamedBody sl (float v) = Unit {0}
NamedBody sl (decl_tag v c) = Unit {0}
NamedBody sl (type_tag v) = Unit {0}
NamedBody sl (enum64 es) = Every (NamedEnumerator64 sl) es

abbrev pub Named : ℕ → Described → Type 0
Named sl (described name flag size_type body) = (name < sl) × NamedBody sl body

-- what the layout asks of a type: its numbers fit and its names are in the string section. (What else the page asks of values, such as
-- name_off 0 for a PTR, is no matter of layout: docs/DIFFERENCES.md.)
abbrev pub Allowed : ℕ → Described → Type 0
Allowed sl t = Fits t × Named sl t

---------------------------------------------------------------------------------------------------------------------------------------
-- 2. The whole section, and 2.1 its strings

-- 2.1 String Encoding. "a concatenation of other null-terminated strings"
unfoldable pub encode_strings : List (List ℕ) → List ℕ
encode_strings [] = []
encode_strings (s ∷ ss) = s ++ (0 ∷ encode_strings ss)

-- "The first string in the string section must be a null string. The rest of string table is" that
abbrev pub encode_table : List (List ℕ) → List ℕ
encode_table ss = encode_strings ([] ∷ ss)

-- a byte of a string. The page says only that it is not null; the scope refuses bytes over 127 (cause 4)
abbrev pub NonzeroAscii : ℕ → Type 0
NonzeroAscii x = (0 < x) × (x ≤ 127)

-- 2. struct btf_header, the magic apart: version, flags, hdr_len, type_off, type_len, str_off, str_len
pub data Header : Type 0 where
  header : ℕ → ℕ → ℕ → ℕ → ℕ → ℕ → ℕ → Header

unfoldable pub encode_header : Bool → Header → List ℕ
encode_header big (header version flags hdr_len_of type_off_of type_len_of str_off_of str_len_of) =
    lay_out big btf_header (btf_magic ∷ version ∷ flags ∷ hdr_len_of ∷ type_off_of ∷ type_len_of ∷ str_off_of ∷ str_len_of ∷ [])

abbrev pub FitHeader : Header → Type 0
FitHeader (header version flags hdr_len_of type_off_of type_len_of str_off_of str_len_of) =
    FitFields btf_header (btf_magic ∷ version ∷ flags ∷ hdr_len_of ∷ type_off_of ∷ type_len_of ∷ str_off_of ∷ str_len_of ∷ [])

-- 2. A section: header, types, strings. "All offsets are in bytes relative to the end of this header"; "hdr_len equal to
-- sizeof(struct btf_header) when a data blob is generated". (The page leaves the order of the two areas, and gaps, to type_off and
-- str_off.)
unfoldable pub encode_section : Bool → ℕ → List Described → List ℕ → List ℕ
encode_section big flags ts strings =
    encode_header big (header btf_version flags (size_of btf_header) 0 (length (encode_all big ts)) (length (encode_all big ts))
    (length strings)) ++ (encode_all big ts ++ strings)
