-- The reader of a type section: total functions on bytes. A record is read in the bytes r from its place on, r = drop p b, so that its word
-- at k is the word at p + k of b (law word-drop). Nothing here uses the tables of `Documentation`; `Claims` says that it reads by them.
use Rattle.std.specs.Prelude.{ℕ, zero, suc, ◌+◌, ◌*◌, ◌/◌, ◌%◌, ◌<◌, Bool, true, false, ◌&&◌, List, [], ◌∷◌, map, length, get_or, drop, ltb}
use Rattle.std.specs.Prelude.{leb, eqb}
use Rattle.spec_linux_btf.specs.Documentation.{Member, member, Enumerator, enumerator, Param, param, Secinfo, secinfo, Enumerator64}
use Rattle.spec_linux_btf.specs.Documentation.{enumerator64, Body, int, ptr, array, struct, union, enum, fwd, typedef, volatile}
use Rattle.spec_linux_btf.specs.Documentation.{const, restrict, func, func_proto, var, datasec, float, decl_tag, type_tag, enum64}
use Rattle.spec_linux_btf.specs.Documentation.{Described, described}

-- every element is a byte, as in a lent &[u8]
abbrev pub Bytes : List ℕ → Type 0
Bytes b = (i : ℕ) → get_or b i 0 < 256

-- the kinds by their numbers BTF_KIND_*; `none` is 0, and every number over 19
pub data Kind : Type 0 where
  none INT PTR ARRAY STRUCT UNION ENUM FWD TYPEDEF VOLATILE CONST RESTRICT FUNC FUNC-PROTO VAR DATASEC FLOAT DECL-TAG TYPE-TAG ENUM64 : Kind

abbrev pub kind_table : List Kind
kind_table =
    none ∷ INT ∷ PTR ∷ ARRAY ∷ STRUCT ∷ UNION ∷ ENUM ∷ FWD ∷ TYPEDEF ∷ VOLATILE ∷ CONST ∷ RESTRICT ∷ FUNC ∷ FUNC-PROTO ∷ VAR ∷ DATASEC
    ∷ FLOAT ∷ DECL-TAG ∷ TYPE-TAG ∷ ENUM64 ∷ []

unfoldable pub kind : ℕ → Kind
kind k = get_or kind_table k none

-- how many bytes follow struct btf_type: an unknown kind, a fixed number, or a number for each of vlen
pub data Shape : Type 0 where
  bad : Shape
  fixed each : ℕ → Shape

abbrev pub shape : Kind → Shape
shape none = bad
shape INT = fixed 4
shape PTR = fixed 0
shape ARRAY = fixed 12
shape STRUCT = each 12
shape UNION = each 12
shape ENUM = each 8
shape FWD = fixed 0
shape TYPEDEF = fixed 0
shape VOLATILE = fixed 0
shape CONST = fixed 0
shape RESTRICT = fixed 0
shape FUNC = fixed 0
shape FUNC-PROTO = each 8
shape VAR = fixed 4
shape DATASEC = each 12
shape FLOAT = fixed 0
shape DECL-TAG = fixed 4
shape TYPE-TAG = fixed 0
shape ENUM64 = each 12

abbrev pub extra_of : Shape → ℕ → ℕ
extra_of bad v = 0
extra_of (fixed n) v = n
extra_of (each n) v = v * n

abbrev pub known : Shape → Bool
known bad = false
known (fixed n) = true
known (each n) = true

abbrev pub extra : Kind → ℕ → ℕ
extra k v = extra_of (shape k) v

-- n entries of a size, in sequence
abbrev pub get_each : {E : Type 0} → (List ℕ → E) → ℕ → ℕ → List ℕ → List E
get_each get size zero e = []
get_each get size (suc n) e = get e ∷ get_each get size n (drop size e)

-- four bytes as a number: the most significant first where `big`, else the least significant first
abbrev pub joined : Bool → ℕ → ℕ → ℕ → ℕ → ℕ
joined true a b c d = d + c * 256 + b * 65536 + a * 16777216
joined false a b c d = a + b * 256 + c * 65536 + d * 16777216

-- in one order of the bytes
module _ (big : Bool) where
  -- __u32: four bytes at p; bytes past the end count as 0
  unfoldable pub word : List ℕ → ℕ → ℕ
  word b p = joined big (get_or b p 0) (get_or b (p + 1) 0) (get_or b (p + 2) 0) (get_or b (p + 3) 0)

  -- struct btf_type.info: vlen, kind, kind_flag
  abbrev pub vlen_at : List ℕ → ℕ
  vlen_at r = word r 4 % 65536

  abbrev pub kind_at : List ℕ → ℕ
  kind_at r = word r 4 / 16777216 % 32

  abbrev pub flag_at : List ℕ → ℕ
  flag_at r = word r 4 / 2147483648

  -- the length of a record, struct btf_type and what follows it
  abbrev pub size_at : List ℕ → ℕ
  size_at r = 12 + extra (kind (kind_at r)) (vlen_at r)

  -- entries, in the bytes from their place on
  abbrev pub get_member : ℕ → List ℕ → Member
  get_member zero e = member (word e 0) (word e 4) (word e 8) 0
  get_member (suc flag) e = member (word e 0) (word e 4) (word e 8 % 16777216) (word e 8 / 16777216)

  abbrev pub get_enumerator : List ℕ → Enumerator
  get_enumerator e = enumerator (word e 0) (word e 4)

  abbrev pub get_param : List ℕ → Param
  get_param e = param (word e 0) (word e 4)

  abbrev pub get_secinfo : List ℕ → Secinfo
  get_secinfo e = secinfo (word e 0) (word e 4) (word e 8)

  abbrev pub get_enumerator64 : List ℕ → Enumerator64
  get_enumerator64 e = enumerator64 (word e 0) (word e 4) (word e 8)

  -- what follows struct btf_type, by kind, kind_flag and vlen. (An unknown kind is refused by `sound`, and what is read of it is of no
  -- matter.)
  abbrev pub get_body : Kind → ℕ → ℕ → List ℕ → Body
  get_body none f v e = ptr v
  get_body INT f v e =
      int v (word e 0 % 256) (word e 0 / 256 % 256) (word e 0 / 65536 % 256) (word e 0 / 16777216 % 16) (word e 0 / 268435456)
  get_body PTR f v e = ptr v
  get_body ARRAY f v e = array v (word e 0) (word e 4) (word e 8)
  get_body STRUCT f v e = struct (get_each (get_member f) 12 v e)
  get_body UNION f v e = union (get_each (get_member f) 12 v e)
  get_body ENUM f v e = enum (get_each get_enumerator 8 v e)
  get_body FWD f v e = fwd v
  get_body TYPEDEF f v e = typedef v
  get_body VOLATILE f v e = volatile v
  get_body CONST f v e = const v
  get_body RESTRICT f v e = restrict v
  get_body FUNC f v e = func v
  get_body FUNC-PROTO f v e = func_proto (get_each get_param 8 v e)
  get_body VAR f v e = var v (word e 0)
  get_body DATASEC f v e = datasec (get_each get_secinfo 12 v e)
  get_body FLOAT f v e = float v
  get_body DECL-TAG f v e = decl_tag v (word e 0)
  get_body TYPE-TAG f v e = type_tag v
  get_body ENUM64 f v e = enum64 (get_each get_enumerator64 12 v e)

  unfoldable pub decode : List ℕ → Described
  decode r = described (word r 0) (flag_at r) (word r 8) (get_body (kind (kind_at r)) (flag_at r) (vlen_at r) (drop 12 r))

  -- the record that the bytes r begin with has a known kind, unused bits 0, and lies inside r
  unfoldable pub sound : List ℕ → Bool
  sound r =
      leb 12 (length r)
      && (known (shape (kind (kind_at r)))
      && (eqb (word r 4 / 65536 % 256) 0 && (eqb (word r 4 / 536870912 % 4) 0 && leb (size_at r) (length r))))

  -- name_off, the first word of each of n entries, is below sl
  abbrev pub all_named : ℕ → ℕ → ℕ → List ℕ → Bool
  all_named sl size zero e = true
  all_named sl size (suc n) e = ltb (word e 0) sl && all_named sl size n (drop size e)

  abbrev pub entries_named : ℕ → Kind → ℕ → List ℕ → Bool
  entries_named sl none v e = true
  entries_named sl INT v e = true
  entries_named sl PTR v e = true
  entries_named sl ARRAY v e = true
  entries_named sl STRUCT v e = all_named sl 12 v e
  entries_named sl UNION v e = all_named sl 12 v e
  entries_named sl ENUM v e = all_named sl 8 v e
  entries_named sl FWD v e = true
  entries_named sl TYPEDEF v e = true
  entries_named sl VOLATILE v e = true
  entries_named sl CONST v e = true
  entries_named sl RESTRICT v e = true
  entries_named sl FUNC v e = true
  entries_named sl FUNC-PROTO v e = all_named sl 8 v e
  entries_named sl VAR v e = true
  entries_named sl DATASEC v e = true
  entries_named sl FLOAT v e = true
  entries_named sl DECL-TAG v e = true
  entries_named sl TYPE-TAG v e = true
  entries_named sl ENUM64 v e = all_named sl 12 v e

  -- every name_off of the record is below sl, the length of the string section; DATASEC entries have none
  unfoldable pub named : ℕ → List ℕ → Bool
  named sl r = ltb (word r 0) sl && entries_named sl (kind (kind_at r)) (vlen_at r) (drop 12 r)

  -- the records of the type section b from p on, n at most: each is sound and named, and the last ends where b ends
  unfoldable pub passes : ℕ → ℕ → List ℕ → ℕ → Bool
  passes sl zero b p = leb (length b) p
  passes sl (suc n) b p =
      elim (ltb p (length b)) [
        | true ↦ sound (drop p b) && (named sl (drop p b) && passes sl n b (p + size_at (drop p b)))
        | false ↦ true
      ]

  -- their places
  unfoldable pub places : ℕ → List ℕ → ℕ → List ℕ
  places zero b p = []
  places (suc n) b p = elim (ltb p (length b)) [ true ↦ p ∷ places n b (p + size_at (drop p b)) | false ↦ [] ]

  -- the type whose record stands at p
  abbrev pub type_at : List ℕ → ℕ → Described
  type_at b p = decode (drop p b)

  -- all of a type section: the types with the ids 1, 2, ..
  unfoldable pub decode_all : List ℕ → List Described
  decode_all b = map (type_at b) (places 262144 b 0)

  -- the type section b, beside a string section of sl bytes, has not cause 5
  unfoldable pub layout_sound : ℕ → List ℕ → Bool
  layout_sound sl b = passes sl 262144 b 0
