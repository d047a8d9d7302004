-- The same reader by places, as code reads: each field is a word at a number computed from the record's place p. It is given the function w
-- that reads the word at a place: `word big b` of bytes b, or `word_of s` of a section, which is 0 where the word does not lie inside s.
-- Laws: places-decode (it gives what `decode` gives), places-same (only words inside the record count), type-shift (places counted from
-- elsewhere).
use Rattle.std.specs.Prelude.{ℕ, zero, suc, ◌+◌, ◌*◌, ◌/◌, ◌%◌, Bool, true, false, ◌&&◌, List, [], ◌∷◌, ltb, leb, eqb}
use Rattle.spec_linux_btf.specs.Documentation.{Member, member, Enumerator, enumerator, Param, param, Secinfo, secinfo, Enumerator64}
use Rattle.spec_linux_btf.specs.Documentation.{enumerator64, Body, int, ptr, array, struct, union, enum, fwd, typedef, volatile}
use Rattle.spec_linux_btf.specs.Documentation.{const, restrict, func, func_proto, var, datasec, float, decl_tag, type_tag, enum64}
use Rattle.spec_linux_btf.specs.Documentation.{Described, described}
use Rattle.spec_linux_btf.specs.Reading.{Kind, none, INT, PTR, ARRAY, STRUCT, UNION, ENUM, FWD, TYPEDEF, VOLATILE, CONST, RESTRICT}
use Rattle.spec_linux_btf.specs.Reading.{FUNC, FUNC-PROTO, VAR, DATASEC, FLOAT, DECL-TAG, TYPE-TAG, ENUM64, kind, shape, known, extra}

-- struct btf_type.info at p + 4: vlen, kind, kind_flag
unfoldable pub vlen_p : (ℕ → ℕ) → ℕ → ℕ
vlen_p w p = w (p + 4) % 65536

unfoldable pub kind_p : (ℕ → ℕ) → ℕ → ℕ
kind_p w p = w (p + 4) / 16777216 % 32

unfoldable pub flag_p : (ℕ → ℕ) → ℕ → ℕ
flag_p w p = w (p + 4) / 2147483648

-- the length of the record
unfoldable pub size_p : (ℕ → ℕ) → ℕ → ℕ
size_p w p = 12 + extra (kind (kind_p w p)) (vlen_p w p)

-- the entry at q
abbrev pub member_p : ℕ → (ℕ → ℕ) → ℕ → Member
member_p zero w q = member (w q) (w (q + 4)) (w (q + 8)) 0
member_p (suc flag) w q = member (w q) (w (q + 4)) (w (q + 8) % 16777216) (w (q + 8) / 16777216)

abbrev pub enumerator_p : (ℕ → ℕ) → ℕ → Enumerator
enumerator_p w q = enumerator (w q) (w (q + 4))

abbrev pub param_p : (ℕ → ℕ) → ℕ → Param
param_p w q = param (w q) (w (q + 4))

abbrev pub secinfo_p : (ℕ → ℕ) → ℕ → Secinfo
secinfo_p w q = secinfo (w q) (w (q + 4)) (w (q + 8))

abbrev pub enumerator64_p : (ℕ → ℕ) → ℕ → Enumerator64
enumerator64_p w q = enumerator64 (w q) (w (q + 4)) (w (q + 8))

-- f k, f (k + 1), .., n of them
abbrev pub tabulate : {E : Type 0} → (ℕ → E) → ℕ → ℕ → List E
tabulate f k zero = []
tabulate f k (suc n) = f k ∷ tabulate f (suc k) n

-- what follows struct btf_type, from q on
abbrev pub body_p : Kind → ℕ → ℕ → (ℕ → ℕ) → ℕ → Body
body_p none f v w q = ptr v
body_p INT f v w q = int v (w q % 256) (w q / 256 % 256) (w q / 65536 % 256) (w q / 16777216 % 16) (w q / 268435456)
body_p PTR f v w q = ptr v
body_p ARRAY f v w q = array v (w q) (w (q + 4)) (w (q + 8))
body_p STRUCT f v w q = struct (tabulate (λ j. member_p f w (q + j * 12)) 0 v)
body_p UNION f v w q = union (tabulate (λ j. member_p f w (q + j * 12)) 0 v)
body_p ENUM f v w q = enum (tabulate (λ j. enumerator_p w (q + j * 8)) 0 v)
body_p FWD f v w q = fwd v
body_p TYPEDEF f v w q = typedef v
body_p VOLATILE f v w q = volatile v
body_p CONST f v w q = const v
body_p RESTRICT f v w q = restrict v
body_p FUNC f v w q = func v
body_p FUNC-PROTO f v w q = func_proto (tabulate (λ j. param_p w (q + j * 8)) 0 v)
body_p VAR f v w q = var v (w q)
body_p DATASEC f v w q = datasec (tabulate (λ j. secinfo_p w (q + j * 12)) 0 v)
body_p FLOAT f v w q = float v
body_p DECL-TAG f v w q = decl_tag v (w q)
body_p TYPE-TAG f v w q = type_tag v
body_p ENUM64 f v w q = enum64 (tabulate (λ j. enumerator64_p w (q + j * 12)) 0 v)

-- the type whose record stands at p
unfoldable pub type_p : (ℕ → ℕ) → ℕ → Described
type_p w p = described (w p) (flag_p w p) (w (p + 8)) (body_p (kind (kind_p w p)) (flag_p w p) (vlen_p w p) w (p + 12))

-- the place of the record of type id i + 1, where that of id 1 stands at p
unfoldable pub place_from : (ℕ → ℕ) → ℕ → ℕ → ℕ
place_from w p zero = p
place_from w p (suc i) = place_from w p i + size_p w (place_from w p i)

---------------------------------------------------------------------------------------------------------------------------------------
-- Cause 5 by places. w reads words, len is the place where the type section ends, sl the length of the string section

unfoldable pub sound_p : (ℕ → ℕ) → ℕ → ℕ → Bool
sound_p w len p =
    leb (p + 12) len
    && (known (shape (kind (kind_p w p)))
    && (eqb (w (p + 4) / 65536 % 256) 0 && (eqb (w (p + 4) / 536870912 % 4) 0 && leb (p + size_p w p) len)))

-- name_off of n entries from q on is below sl
abbrev pub all_named_p : ℕ → ℕ → (ℕ → ℕ) → ℕ → ℕ → Bool
all_named_p sl size w q zero = true
all_named_p sl size w q (suc n) = ltb (w q) sl && all_named_p sl size w (q + size) n

abbrev pub entries_named_p : ℕ → Kind → ℕ → (ℕ → ℕ) → ℕ → Bool
entries_named_p sl none v w q = true
entries_named_p sl INT v w q = true
entries_named_p sl PTR v w q = true
entries_named_p sl ARRAY v w q = true
entries_named_p sl STRUCT v w q = all_named_p sl 12 w q v
entries_named_p sl UNION v w q = all_named_p sl 12 w q v
entries_named_p sl ENUM v w q = all_named_p sl 8 w q v
entries_named_p sl FWD v w q = true
entries_named_p sl TYPEDEF v w q = true
entries_named_p sl VOLATILE v w q = true
entries_named_p sl CONST v w q = true
entries_named_p sl RESTRICT v w q = true
entries_named_p sl FUNC v w q = true
entries_named_p sl FUNC-PROTO v w q = all_named_p sl 8 w q v
entries_named_p sl VAR v w q = true
entries_named_p sl DATASEC v w q = true
entries_named_p sl FLOAT v w q = true
entries_named_p sl DECL-TAG v w q = true
entries_named_p sl TYPE-TAG v w q = true
entries_named_p sl ENUM64 v w q = all_named_p sl 12 w q v

unfoldable pub named_p : ℕ → (ℕ → ℕ) → ℕ → Bool
named_p sl w p = ltb (w p) sl && entries_named_p sl (kind (kind_p w p)) (vlen_p w p) w (p + 12)

-- the records from p on, n at most
unfoldable pub passes_p : ℕ → ℕ → (ℕ → ℕ) → ℕ → ℕ → Bool
passes_p sl zero w len p = leb len p
passes_p sl (suc n) w len p =
    elim (ltb p len) [
      | true ↦ sound_p w len p && (named_p sl w p && passes_p sl n w len (p + size_p w p))
      | false ↦ true
    ]
