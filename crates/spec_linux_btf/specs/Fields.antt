-- The fields of a described type by the page's names, as code asks for them: those of struct btf_type, and those of each struct that
-- follows it.
-- Then where the page's tables say that they stand. Laws: `Claims`, (c).
use Rattle.std.specs.Prelude.{ℕ, zero, suc, ◌+◌, ◌*◌, List, [], ◌∷◌, map, get_or}
use Rattle.spec_linux_btf.specs.Documentation.{Field, field, size_of, pack, unpack, btf_info, btf_int, member_offset_bits, Follows, unknown}
use Rattle.spec_linux_btf.specs.Documentation.{nothing, one, each, Member, member, Enumerator, enumerator, Param, param, Secinfo}
use Rattle.spec_linux_btf.specs.Documentation.{secinfo, Enumerator64, enumerator64, Body, int, ptr, array, struct, union, enum, fwd}
use Rattle.spec_linux_btf.specs.Documentation.{typedef, volatile, const, restrict, func, func_proto, var, datasec, float, decl_tag}
use Rattle.spec_linux_btf.specs.Documentation.{type_tag, enum64, Described, described, kind_of, vlen_of, offset_word}
use Rattle.spec_linux_btf.specs.Places.{tabulate}

---------------------------------------------------------------------------------------------------------------------------------------
-- 2.2 struct btf_type

unfoldable pub name_off : Described → ℕ
name_off (described name flag size_type body) = name

unfoldable pub vlen_in : Described → ℕ
vlen_in (described name flag size_type body) = vlen_of body

unfoldable pub kind_in : Described → ℕ
kind_in (described name flag size_type body) = kind_of body

unfoldable pub kind_flag : Described → ℕ
kind_flag (described name flag size_type body) = flag

unfoldable pub info : Described → ℕ
info (described name flag size_type body) = pack btf_info (vlen_of body ∷ kind_of body ∷ flag ∷ [])

-- the union of `size` and `type`
unfoldable pub size_or_type : Described → ℕ
size_or_type (described name flag size_type body) = size_type

---------------------------------------------------------------------------------------------------------------------------------------
-- The structs that follow it, each as the values of its fields in the page's order

abbrev pub member_fields : ℕ → Member → List ℕ
member_fields flag (member name type bit size) = name ∷ type ∷ offset_word flag bit size ∷ []

abbrev pub enum_fields : Enumerator → List ℕ
enum_fields (enumerator name val) = name ∷ val ∷ []

abbrev pub param_fields : Param → List ℕ
param_fields (param name type) = name ∷ type ∷ []

abbrev pub secinfo_fields : Secinfo → List ℕ
secinfo_fields (secinfo type offset size) = type ∷ offset ∷ size ∷ []

abbrev pub enum64_fields : Enumerator64 → List ℕ
enum64_fields (enumerator64 name lo hi) = name ∷ lo ∷ hi ∷ []

abbrev pub body_structs : ℕ → Body → List (List ℕ)
body_structs flag (int v a b c d e) = (pack btf_int (a ∷ b ∷ c ∷ d ∷ e ∷ []) ∷ []) ∷ []
body_structs flag (ptr v) = []
body_structs flag (array v t i n) = (t ∷ i ∷ n ∷ []) ∷ []
body_structs flag (struct ms) = map (member_fields flag) ms
body_structs flag (union ms) = map (member_fields flag) ms
body_structs flag (enum es) = map enum_fields es
body_structs flag (fwd v) = []
body_structs flag (typedef v) = []
body_structs flag (volatile v) = []
body_structs flag (const v) = []
body_structs flag (restrict v) = []
body_structs flag (func v) = []
body_structs flag (func_proto ps) = map param_fields ps
body_structs flag (var v l) = (l ∷ []) ∷ []
body_structs flag (datasec ss) = map secinfo_fields ss
body_structs flag (float v) = []
body_structs flag (decl_tag v c) = (c ∷ []) ∷ []
body_structs flag (type_tag v) = []
body_structs flag (enum64 es) = map enum64_fields es

unfoldable pub structs : Described → List (List ℕ)
structs (described name flag size_type body) = body_structs flag body

-- field k of struct j, both counted from 0
unfoldable pub struct_field : Described → ℕ → ℕ → ℕ
struct_field t j k = get_or (get_or (structs t) j []) k 0

-- 2.2.1 INT: BTF_INT_BITS, BTF_INT_OFFSET, BTF_INT_ENCODING
abbrev pub int_bits : Described → ℕ
int_bits t = get_or (unpack btf_int (struct_field t 0 0)) 0 0

abbrev pub int_offset : Described → ℕ
int_offset t = get_or (unpack btf_int (struct_field t 0 0)) 2 0

abbrev pub int_encoding : Described → ℕ
int_encoding t = get_or (unpack btf_int (struct_field t 0 0)) 3 0

-- 2.2.3 ARRAY: btf_array.type, index_type, nelems
abbrev pub array_type : Described → ℕ
array_type t = struct_field t 0 0

abbrev pub array_index_type : Described → ℕ
array_index_type t = struct_field t 0 1

abbrev pub array_nelems : Described → ℕ
array_nelems t = struct_field t 0 2

-- 2.2.4 STRUCT, 2.2.5 UNION: btf_member.name_off, type, offset of member j
abbrev pub member_name_off : Described → ℕ → ℕ
member_name_off t j = struct_field t j 0

abbrev pub member_type : Described → ℕ → ℕ
member_type t j = struct_field t j 1

abbrev pub member_offset : Described → ℕ → ℕ
member_offset t j = struct_field t j 2

-- the offset word without kind_flag, and with it: BTF_MEMBER_BIT_OFFSET, BTF_MEMBER_BITFIELD_SIZE
abbrev pub bit_offset : ℕ → ℕ → ℕ
bit_offset zero offset = offset
bit_offset (suc flag) offset = get_or (unpack member_offset_bits offset) 0 0

abbrev pub bitfield_size : ℕ → ℕ → ℕ
bitfield_size zero offset = 0
bitfield_size (suc flag) offset = get_or (unpack member_offset_bits offset) 1 0

-- the bit offset and the bitfield size of member j
abbrev pub member_bit_offset : Described → ℕ → ℕ
member_bit_offset t j = bit_offset (kind_flag t) (member_offset t j)

abbrev pub member_bitfield_size : Described → ℕ → ℕ
member_bitfield_size t j = bitfield_size (kind_flag t) (member_offset t j)

-- 2.2.6 ENUM: btf_enum.name_off, val
abbrev pub enum_name_off : Described → ℕ → ℕ
enum_name_off t j = struct_field t j 0

abbrev pub enum_val : Described → ℕ → ℕ
enum_val t j = struct_field t j 1

-- 2.2.13 FUNC_PROTO: btf_param.name_off, type
abbrev pub param_name_off : Described → ℕ → ℕ
param_name_off t j = struct_field t j 0

abbrev pub param_type : Described → ℕ → ℕ
param_type t j = struct_field t j 1

-- 2.2.14 VAR: btf_var.linkage
abbrev pub var_linkage : Described → ℕ
var_linkage t = struct_field t 0 0

-- 2.2.15 DATASEC: btf_var_secinfo.type, offset, size
abbrev pub secinfo_type : Described → ℕ → ℕ
secinfo_type t j = struct_field t j 0

abbrev pub secinfo_offset : Described → ℕ → ℕ
secinfo_offset t j = struct_field t j 1

abbrev pub secinfo_size : Described → ℕ → ℕ
secinfo_size t j = struct_field t j 2

-- 2.2.17 DECL_TAG: btf_decl_tag.component_idx
abbrev pub component_idx : Described → ℕ
component_idx t = struct_field t 0 0

-- 2.2.19 ENUM64: btf_enum64.name_off, val_lo32, val_hi32
abbrev pub enum64_name_off : Described → ℕ → ℕ
enum64_name_off t j = struct_field t j 0

abbrev pub enum64_lo : Described → ℕ → ℕ
enum64_lo t j = struct_field t j 1

abbrev pub enum64_hi : Described → ℕ → ℕ
enum64_hi t j = struct_field t j 2

---------------------------------------------------------------------------------------------------------------------------------------
-- Where the tables say that the fields stand, w reading the word at a place

-- the fields of a struct at q; all its fields are __u32
abbrev pub fields_at : List Field → (ℕ → ℕ) → ℕ → List ℕ
fields_at [] w q = []
fields_at (field name offset width ∷ fs) w q = w (q + offset) ∷ fields_at fs w q

-- what follows, from q on
abbrev pub structs_at : Follows → (ℕ → ℕ) → ℕ → ℕ → List (List ℕ)
structs_at unknown w q vlen = []
structs_at nothing w q vlen = []
structs_at (one s) w q vlen = fields_at s w q ∷ []
structs_at (each s) w q vlen = tabulate (λ j. fields_at s w (q + j * size_of s)) 0 vlen
