-- The fields of the type that is read at a place are the words that the page's tables name, by kind. Assumes nothing.
use Prim.Native.Nat.{ℕ, zero, suc, ◌+◌, ◌*◌, ◌/◌, ◌%◌, ◌<◌, ◌≤◌, ◌^◌}
use mathlib.Core.Path.{◌≡◌, refl, ap, ◌∙◌, sym}
use mathlib.Core.Bool.{true, true≢false}
use mathlib.Core.List.{List, [], ◌∷◌, map}
use native.Mathlib.Omega.{arith}
use lib.ListN.{length, get_or}
use lib.Dec.{leb, eqb}
use borrow.Author.Tests.{eqb-true}
use Rattle.std.specs.Cmp.{first_so, second_so}
use Rattle.spec_linux_btf.specs.Documentation.{Field, size_of, pack, unpack, btf_info, btf_info_unused, btf_int, member_offset_bits, int_word, btf_array, btf_member, btf_enum, btf_param, btf_var, btf_var_secinfo, btf_decl_tag, btf_enum64, Follows, unknown, nothing, one, each, kinds, follows, member, enumerator, param, secinfo, enumerator64, Body, int, ptr, array, struct, union, enum, fwd, typedef, volatile, const, restrict, func, func_proto, var, datasec, float, decl_tag, type_tag, enum64, described, kind_of, vlen_of}
use Rattle.spec_linux_btf.specs.Reading.{Kind, none, INT, PTR, ARRAY, STRUCT, UNION, ENUM, FWD, TYPEDEF, VOLATILE, CONST, RESTRICT, FUNC, FUNC-PROTO, VAR, DATASEC, FLOAT, DECL-TAG, TYPE-TAG, ENUM64, kind_table, kind, shape, known}
use Rattle.spec_linux_btf.specs.Places.{vlen_p, kind_p, flag_p, member_p, enumerator_p, param_p, secinfo_p, enumerator64_p, tabulate, body_p, type_p, sound_p}
use Rattle.spec_linux_btf.specs.Fields.{name_off, vlen_in, kind_in, kind_flag, info, size_or_type, member_fields, enum_fields, param_fields, secinfo_fields, enum64_fields, body_structs, structs, struct_field, fields_at, structs_at, bit_offset, bitfield_size}
use Rattle.spec_linux_btf.proofs.Types.{number, number_kind, int_parts, info_back}
use Rattle.spec_linux_btf.proofs.ByPlaces.{tabulate_at, table_same}

---------------------------------------------------------------------------------------------------------------------------------------
-- The type at p, kind by kind

module _ (w : ℕ → ℕ) (p : ℕ) where
  pub type-INT : w (p + 4) / 16777216 % 32 ≡ 1
      → type_p w p ≡ described (w p) (w (p + 4) / 2147483648) (w (p + 8)) (int (w (p + 4) % 65536) (w (p + 12) % 256) (w (p + 12) / 256 % 256) (w (p + 12) / 65536 % 256) (w (p + 12) / 16777216 % 16) (w (p + 12) / 268435456))
  unfolding type_p kind_p flag_p vlen_p kind
  type-INT e = ap (λ (k : ℕ). described (w p) (w (p + 4) / 2147483648) (w (p + 8)) (body_p (kind k) (w (p + 4) / 2147483648) (w (p + 4) % 65536) w (p + 12))) e

  pub type-PTR : w (p + 4) / 16777216 % 32 ≡ 2
      → type_p w p ≡ described (w p) (w (p + 4) / 2147483648) (w (p + 8)) (ptr (w (p + 4) % 65536))
  unfolding type_p kind_p flag_p vlen_p kind
  type-PTR e = ap (λ (k : ℕ). described (w p) (w (p + 4) / 2147483648) (w (p + 8)) (body_p (kind k) (w (p + 4) / 2147483648) (w (p + 4) % 65536) w (p + 12))) e

  pub type-ARRAY : w (p + 4) / 16777216 % 32 ≡ 3
      → type_p w p ≡ described (w p) (w (p + 4) / 2147483648) (w (p + 8)) (array (w (p + 4) % 65536) (w (p + 12)) (w (p + 12 + 4)) (w (p + 12 + 8)))
  unfolding type_p kind_p flag_p vlen_p kind
  type-ARRAY e = ap (λ (k : ℕ). described (w p) (w (p + 4) / 2147483648) (w (p + 8)) (body_p (kind k) (w (p + 4) / 2147483648) (w (p + 4) % 65536) w (p + 12))) e

  pub type-STRUCT : w (p + 4) / 16777216 % 32 ≡ 4
      → type_p w p ≡ described (w p) (w (p + 4) / 2147483648) (w (p + 8)) (struct (tabulate (λ j. member_p (w (p + 4) / 2147483648) w (p + 12 + j * 12)) 0 (w (p + 4) % 65536)))
  unfolding type_p kind_p flag_p vlen_p kind
  type-STRUCT e = ap (λ (k : ℕ). described (w p) (w (p + 4) / 2147483648) (w (p + 8)) (body_p (kind k) (w (p + 4) / 2147483648) (w (p + 4) % 65536) w (p + 12))) e

  pub type-UNION : w (p + 4) / 16777216 % 32 ≡ 5
      → type_p w p ≡ described (w p) (w (p + 4) / 2147483648) (w (p + 8)) (union (tabulate (λ j. member_p (w (p + 4) / 2147483648) w (p + 12 + j * 12)) 0 (w (p + 4) % 65536)))
  unfolding type_p kind_p flag_p vlen_p kind
  type-UNION e = ap (λ (k : ℕ). described (w p) (w (p + 4) / 2147483648) (w (p + 8)) (body_p (kind k) (w (p + 4) / 2147483648) (w (p + 4) % 65536) w (p + 12))) e

  pub type-ENUM : w (p + 4) / 16777216 % 32 ≡ 6
      → type_p w p ≡ described (w p) (w (p + 4) / 2147483648) (w (p + 8)) (enum (tabulate (λ j. enumerator (w (p + 12 + j * 8)) (w (p + 12 + j * 8 + 4))) 0 (w (p + 4) % 65536)))
  unfolding type_p kind_p flag_p vlen_p kind
  type-ENUM e = ap (λ (k : ℕ). described (w p) (w (p + 4) / 2147483648) (w (p + 8)) (body_p (kind k) (w (p + 4) / 2147483648) (w (p + 4) % 65536) w (p + 12))) e

  pub type-FWD : w (p + 4) / 16777216 % 32 ≡ 7
      → type_p w p ≡ described (w p) (w (p + 4) / 2147483648) (w (p + 8)) (fwd (w (p + 4) % 65536))
  unfolding type_p kind_p flag_p vlen_p kind
  type-FWD e = ap (λ (k : ℕ). described (w p) (w (p + 4) / 2147483648) (w (p + 8)) (body_p (kind k) (w (p + 4) / 2147483648) (w (p + 4) % 65536) w (p + 12))) e

  pub type-TYPEDEF : w (p + 4) / 16777216 % 32 ≡ 8
      → type_p w p ≡ described (w p) (w (p + 4) / 2147483648) (w (p + 8)) (typedef (w (p + 4) % 65536))
  unfolding type_p kind_p flag_p vlen_p kind
  type-TYPEDEF e = ap (λ (k : ℕ). described (w p) (w (p + 4) / 2147483648) (w (p + 8)) (body_p (kind k) (w (p + 4) / 2147483648) (w (p + 4) % 65536) w (p + 12))) e

  pub type-VOLATILE : w (p + 4) / 16777216 % 32 ≡ 9
      → type_p w p ≡ described (w p) (w (p + 4) / 2147483648) (w (p + 8)) (volatile (w (p + 4) % 65536))
  unfolding type_p kind_p flag_p vlen_p kind
  type-VOLATILE e = ap (λ (k : ℕ). described (w p) (w (p + 4) / 2147483648) (w (p + 8)) (body_p (kind k) (w (p + 4) / 2147483648) (w (p + 4) % 65536) w (p + 12))) e

  pub type-CONST : w (p + 4) / 16777216 % 32 ≡ 10
      → type_p w p ≡ described (w p) (w (p + 4) / 2147483648) (w (p + 8)) (const (w (p + 4) % 65536))
  unfolding type_p kind_p flag_p vlen_p kind
  type-CONST e = ap (λ (k : ℕ). described (w p) (w (p + 4) / 2147483648) (w (p + 8)) (body_p (kind k) (w (p + 4) / 2147483648) (w (p + 4) % 65536) w (p + 12))) e

  pub type-RESTRICT : w (p + 4) / 16777216 % 32 ≡ 11
      → type_p w p ≡ described (w p) (w (p + 4) / 2147483648) (w (p + 8)) (restrict (w (p + 4) % 65536))
  unfolding type_p kind_p flag_p vlen_p kind
  type-RESTRICT e = ap (λ (k : ℕ). described (w p) (w (p + 4) / 2147483648) (w (p + 8)) (body_p (kind k) (w (p + 4) / 2147483648) (w (p + 4) % 65536) w (p + 12))) e

  pub type-FUNC : w (p + 4) / 16777216 % 32 ≡ 12
      → type_p w p ≡ described (w p) (w (p + 4) / 2147483648) (w (p + 8)) (func (w (p + 4) % 65536))
  unfolding type_p kind_p flag_p vlen_p kind
  type-FUNC e = ap (λ (k : ℕ). described (w p) (w (p + 4) / 2147483648) (w (p + 8)) (body_p (kind k) (w (p + 4) / 2147483648) (w (p + 4) % 65536) w (p + 12))) e

  pub type-FUNC-PROTO : w (p + 4) / 16777216 % 32 ≡ 13
      → type_p w p ≡ described (w p) (w (p + 4) / 2147483648) (w (p + 8)) (func_proto (tabulate (λ j. param (w (p + 12 + j * 8)) (w (p + 12 + j * 8 + 4))) 0 (w (p + 4) % 65536)))
  unfolding type_p kind_p flag_p vlen_p kind
  type-FUNC-PROTO e = ap (λ (k : ℕ). described (w p) (w (p + 4) / 2147483648) (w (p + 8)) (body_p (kind k) (w (p + 4) / 2147483648) (w (p + 4) % 65536) w (p + 12))) e

  pub type-VAR : w (p + 4) / 16777216 % 32 ≡ 14
      → type_p w p ≡ described (w p) (w (p + 4) / 2147483648) (w (p + 8)) (var (w (p + 4) % 65536) (w (p + 12)))
  unfolding type_p kind_p flag_p vlen_p kind
  type-VAR e = ap (λ (k : ℕ). described (w p) (w (p + 4) / 2147483648) (w (p + 8)) (body_p (kind k) (w (p + 4) / 2147483648) (w (p + 4) % 65536) w (p + 12))) e

  pub type-DATASEC : w (p + 4) / 16777216 % 32 ≡ 15
      → type_p w p ≡ described (w p) (w (p + 4) / 2147483648) (w (p + 8)) (datasec (tabulate (λ j. secinfo (w (p + 12 + j * 12)) (w (p + 12 + j * 12 + 4)) (w (p + 12 + j * 12 + 8))) 0 (w (p + 4) % 65536)))
  unfolding type_p kind_p flag_p vlen_p kind
  type-DATASEC e = ap (λ (k : ℕ). described (w p) (w (p + 4) / 2147483648) (w (p + 8)) (body_p (kind k) (w (p + 4) / 2147483648) (w (p + 4) % 65536) w (p + 12))) e

  pub type-FLOAT : w (p + 4) / 16777216 % 32 ≡ 16
      → type_p w p ≡ described (w p) (w (p + 4) / 2147483648) (w (p + 8)) (float (w (p + 4) % 65536))
  unfolding type_p kind_p flag_p vlen_p kind
  type-FLOAT e = ap (λ (k : ℕ). described (w p) (w (p + 4) / 2147483648) (w (p + 8)) (body_p (kind k) (w (p + 4) / 2147483648) (w (p + 4) % 65536) w (p + 12))) e

  pub type-DECL-TAG : w (p + 4) / 16777216 % 32 ≡ 17
      → type_p w p ≡ described (w p) (w (p + 4) / 2147483648) (w (p + 8)) (decl_tag (w (p + 4) % 65536) (w (p + 12)))
  unfolding type_p kind_p flag_p vlen_p kind
  type-DECL-TAG e = ap (λ (k : ℕ). described (w p) (w (p + 4) / 2147483648) (w (p + 8)) (body_p (kind k) (w (p + 4) / 2147483648) (w (p + 4) % 65536) w (p + 12))) e

  pub type-TYPE-TAG : w (p + 4) / 16777216 % 32 ≡ 18
      → type_p w p ≡ described (w p) (w (p + 4) / 2147483648) (w (p + 8)) (type_tag (w (p + 4) % 65536))
  unfolding type_p kind_p flag_p vlen_p kind
  type-TYPE-TAG e = ap (λ (k : ℕ). described (w p) (w (p + 4) / 2147483648) (w (p + 8)) (body_p (kind k) (w (p + 4) / 2147483648) (w (p + 4) % 65536) w (p + 12))) e

  pub type-ENUM64 : w (p + 4) / 16777216 % 32 ≡ 19
      → type_p w p ≡ described (w p) (w (p + 4) / 2147483648) (w (p + 8)) (enum64 (tabulate (λ j. enumerator64 (w (p + 12 + j * 12)) (w (p + 12 + j * 12 + 4)) (w (p + 12 + j * 12 + 8))) 0 (w (p + 4) % 65536)))
  unfolding type_p kind_p flag_p vlen_p kind
  type-ENUM64 e = ap (λ (k : ℕ). described (w p) (w (p + 4) / 2147483648) (w (p + 8)) (body_p (kind k) (w (p + 4) / 2147483648) (w (p + 4) % 65536) w (p + 12))) e

---------------------------------------------------------------------------------------------------------------------------------------
-- struct btf_type

tabulate_length : {E : Type 0} (f : ℕ → E) (k n : ℕ) → length (tabulate f k n) ≡ n
tabulate_length f k zero = refl
tabulate_length f k (suc n) = ap suc (tabulate_length f (suc k) n)

body_vlen_p : (k : Kind) (f v : ℕ) (w : ℕ → ℕ) (q : ℕ) → vlen_of (body_p k f v w q) ≡ v
body_vlen_p none f v w q = refl
body_vlen_p INT f v w q = refl
body_vlen_p PTR f v w q = refl
body_vlen_p ARRAY f v w q = refl
body_vlen_p STRUCT f v w q = tabulate_length (λ j. member_p f w (q + j * 12)) 0 v
body_vlen_p UNION f v w q = tabulate_length (λ j. member_p f w (q + j * 12)) 0 v
body_vlen_p ENUM f v w q = tabulate_length (λ j. enumerator_p w (q + j * 8)) 0 v
body_vlen_p FWD f v w q = refl
body_vlen_p TYPEDEF f v w q = refl
body_vlen_p VOLATILE f v w q = refl
body_vlen_p CONST f v w q = refl
body_vlen_p RESTRICT f v w q = refl
body_vlen_p FUNC f v w q = refl
body_vlen_p FUNC-PROTO f v w q = tabulate_length (λ j. param_p w (q + j * 8)) 0 v
body_vlen_p VAR f v w q = refl
body_vlen_p DATASEC f v w q = tabulate_length (λ j. secinfo_p w (q + j * 12)) 0 v
body_vlen_p FLOAT f v w q = refl
body_vlen_p DECL-TAG f v w q = refl
body_vlen_p TYPE-TAG f v w q = refl
body_vlen_p ENUM64 f v w q = tabulate_length (λ j. enumerator64_p w (q + j * 12)) 0 v

body_kind_p : (k : Kind) (f v : ℕ) (w : ℕ → ℕ) (q : ℕ) → known (shape k) ≡ true → kind_of (body_p k f v w q) ≡ number k
body_kind_p none f v w q e = absurd (true≢false (sym e))
body_kind_p INT f v w q e = refl
body_kind_p PTR f v w q e = refl
body_kind_p ARRAY f v w q e = refl
body_kind_p STRUCT f v w q e = refl
body_kind_p UNION f v w q e = refl
body_kind_p ENUM f v w q e = refl
body_kind_p FWD f v w q e = refl
body_kind_p TYPEDEF f v w q e = refl
body_kind_p VOLATILE f v w q e = refl
body_kind_p CONST f v w q e = refl
body_kind_p RESTRICT f v w q e = refl
body_kind_p FUNC f v w q e = refl
body_kind_p FUNC-PROTO f v w q e = refl
body_kind_p VAR f v w q e = refl
body_kind_p DATASEC f v w q e = refl
body_kind_p FLOAT f v w q e = refl
body_kind_p DECL-TAG f v w q e = refl
body_kind_p TYPE-TAG f v w q e = refl
body_kind_p ENUM64 f v w q e = refl

module _ (w : ℕ → ℕ) (p : ℕ) where
  pub name_word : name_off (type_p w p) ≡ w p
  unfolding name_off type_p
  name_word = refl

  pub size_word : size_or_type (type_p w p) ≡ w (p + 8)
  unfolding size_or_type type_p
  size_word = refl

  pub flag_word : kind_flag (type_p w p) ≡ w (p + 4) / 2147483648
  unfolding kind_flag type_p flag_p
  flag_word = refl

  pub vlen_word : vlen_in (type_p w p) ≡ w (p + 4) % 65536
  unfolding vlen_in type_p vlen_p
  vlen_word = body_vlen_p (kind (kind_p w p)) (flag_p w p) (w (p + 4) % 65536) w (p + 12)

  -- of a known kind, 1 to 19
  pub kind_word : known (shape (kind (w (p + 4) / 16777216 % 32))) ≡ true → kind_in (type_p w p) ≡ w (p + 4) / 16777216 % 32
  unfolding kind_in type_p kind_p
  kind_word h =
      body_kind_p (kind (w (p + 4) / 16777216 % 32)) (flag_p w p) (vlen_p w p) w (p + 12) h ∙ number_kind (w (p + 4) / 16777216 % 32) h

  -- where the tests of cause 5 pass
  pub info_word : (len : ℕ) → sound_p w len p ≡ true → info (type_p w p) ≡ w (p + 4)
  unfolding info type_p sound_p kind_p vlen_p flag_p
  info_word len h =
      let x : ℕ = w (p + 4) in
      let h1 = second_so (leb (p + 12) len) _ h in
      let kn : known (shape (kind (x / 16777216 % 32))) ≡ true = first_so (known (shape (kind (x / 16777216 % 32)))) _ h1 in
      let h2 = second_so (known (shape (kind (x / 16777216 % 32)))) _ h1 in
      let u : x / 65536 % 256 ≡ 0 = eqb-true (x / 65536 % 256) 0 (first_so (eqb (x / 65536 % 256) 0) _ h2) in
      let h3 = second_so (eqb (x / 65536 % 256) 0) _ h2 in
      let v : x / 536870912 % 4 ≡ 0 = eqb-true (x / 536870912 % 4) 0 (first_so (eqb (x / 536870912 % 4) 0) _ h3) in
      let b : Body = body_p (kind (x / 16777216 % 32)) (x / 2147483648) (x % 65536) w (p + 12) in
      let ek : kind_of b ≡ x / 16777216 % 32 = body_kind_p (kind (x / 16777216 % 32)) (x / 2147483648) (x % 65536) w (p + 12) kn ∙ number_kind (x / 16777216 % 32) kn in
      let ev : vlen_of b ≡ x % 65536 = body_vlen_p (kind (x / 16777216 % 32)) (x / 2147483648) (x % 65536) w (p + 12) in
      (λ i. pack btf_info (ev i ∷ ek i ∷ x / 2147483648 ∷ [])) ∙ info_back x u v

---------------------------------------------------------------------------------------------------------------------------------------
-- The structs that follow

-- the row of the page's table `kinds` for a kind
abbrev table_of : Kind → Follows
table_of none = unknown
table_of INT = one int_word
table_of PTR = nothing
table_of ARRAY = one btf_array
table_of STRUCT = each btf_member
table_of UNION = each btf_member
table_of ENUM = each btf_enum
table_of FWD = nothing
table_of TYPEDEF = nothing
table_of VOLATILE = nothing
table_of CONST = nothing
table_of RESTRICT = nothing
table_of FUNC = nothing
table_of FUNC-PROTO = each btf_param
table_of VAR = one btf_var
table_of DATASEC = each btf_var_secinfo
table_of FLOAT = nothing
table_of DECL-TAG = one btf_decl_tag
table_of TYPE-TAG = nothing
table_of ENUM64 = each btf_enum64

map_tabulate : {E F : Type 0} (g : E → F) (f : ℕ → E) (k n : ℕ) → map g (tabulate f k n) ≡ tabulate (λ j. g (f j)) k n
map_tabulate g f k zero = refl
map_tabulate g f k (suc n) = ap (λ l. g (f k) ∷ l) (map_tabulate g f (suc k) n)

each_fields : {E : Type 0} (g : E → List ℕ) (at : ℕ → E) (s : ℕ → List ℕ) → ((q : ℕ) → g (at q) ≡ s q)
    → (size q v : ℕ) → map g (tabulate (λ j. at (q + j * size)) 0 v) ≡ tabulate (λ j. s (q + j * size)) 0 v
each_fields g at s e size q v =
    map_tabulate g (λ j. at (q + j * size)) 0 v ∙ table_same (λ j. g (at (q + j * size))) (λ j. s (q + j * size)) 0 v (λ j a b. e (q + j * size))

module _ (w : ℕ → ℕ) where
  at_zero : (q : ℕ) → w q ≡ w (q + 0)
  at_zero q = let e : q ≡ q + 0 = omega arith in ap w e

  member_fields_lem : (f q : ℕ) → member_fields f (member_p f w q) ≡ fields_at btf_member w q
  member_fields_lem zero q = λ i. at_zero q i ∷ w (q + 4) ∷ w (q + 8) ∷ []
  member_fields_lem (suc f) q =
      let x : ℕ = w (q + 8) in
      let e : x % 16777216 * 1 + (x / 16777216 * 16777216 + 0) ≡ x = omega arith in
      λ i. at_zero q i ∷ w (q + 4) ∷ e i ∷ []

  two_fields : (q : ℕ) → (w q ∷ w (q + 4) ∷ []) ≡ (w (q + 0) ∷ w (q + 4) ∷ [])
  two_fields q = λ i. at_zero q i ∷ w (q + 4) ∷ []

  three_fields : (q : ℕ) → (w q ∷ w (q + 4) ∷ w (q + 8) ∷ []) ≡ (w (q + 0) ∷ w (q + 4) ∷ w (q + 8) ∷ [])
  three_fields q = λ i. at_zero q i ∷ w (q + 4) ∷ w (q + 8) ∷ []

  body_fields : (k : Kind) (f v q : ℕ) → body_structs f (body_p k f v w q) ≡ structs_at (table_of k) w q v
  body_fields none f v q = refl
  body_fields INT f v q = (λ i. (int_parts (w q) i ∷ []) ∷ []) ∙ (λ i. (at_zero q i ∷ []) ∷ [])
  body_fields PTR f v q = refl
  body_fields ARRAY f v q = λ i. three_fields q i ∷ []
  body_fields STRUCT f v q = each_fields (member_fields f) (member_p f w) (fields_at btf_member w) (member_fields_lem f) 12 q v
  body_fields UNION f v q = each_fields (member_fields f) (member_p f w) (fields_at btf_member w) (member_fields_lem f) 12 q v
  body_fields ENUM f v q = each_fields enum_fields (enumerator_p w) (fields_at btf_enum w) two_fields 8 q v
  body_fields FWD f v q = refl
  body_fields TYPEDEF f v q = refl
  body_fields VOLATILE f v q = refl
  body_fields CONST f v q = refl
  body_fields RESTRICT f v q = refl
  body_fields FUNC f v q = refl
  body_fields FUNC-PROTO f v q = each_fields param_fields (param_p w) (fields_at btf_param w) two_fields 8 q v
  body_fields VAR f v q = λ i. (at_zero q i ∷ []) ∷ []
  body_fields DATASEC f v q = each_fields secinfo_fields (secinfo_p w) (fields_at btf_var_secinfo w) three_fields 12 q v
  body_fields FLOAT f v q = refl
  body_fields DECL-TAG f v q = λ i. (at_zero q i ∷ []) ∷ []
  body_fields TYPE-TAG f v q = refl
  body_fields ENUM64 f v q = each_fields enum64_fields (enumerator64_p w) (fields_at btf_enum64 w) three_fields 12 q v

-- the rows stand in the table at the kinds' numbers
abbrev Rows : List Kind → List Follows → Type 0
Rows [] [] = Unit {0}
Rows [] (f ∷ fs) = ⊥
Rows (x ∷ ks) [] = ⊥
Rows (x ∷ ks) (f ∷ fs) = (table_of x ≡ f) × Rows ks fs

row_at : (ks : List Kind) (fs : List Follows) → Rows ks fs → (k : ℕ) → table_of (get_or ks k none) ≡ get_or fs k unknown
row_at [] [] a k = refl
row_at [] (f ∷ fs) a k = absurd a
row_at (x ∷ ks) [] a k = absurd a
row_at (x ∷ ks) (f ∷ fs) a zero = a.0
row_at (x ∷ ks) (f ∷ fs) a (suc k) = row_at ks fs a.1 k

rows : (k : ℕ) → table_of (kind k) ≡ follows k
unfolding kind
rows k = row_at kind_table kinds ((refl, (refl, (refl, (refl, (refl, (refl, (refl, (refl, (refl, (refl, (refl, (refl, (refl, (refl, (refl, (refl, (refl, (refl, (refl, (refl, tt))))))))))))))))))))) k

module _ (w : ℕ → ℕ) (p : ℕ) where
  -- all that follows is read as the table of the page has it
  pub structs_words : structs (type_p w p) ≡ structs_at (follows (w (p + 4) / 16777216 % 32)) w (p + 12) (w (p + 4) % 65536)
  unfolding structs type_p kind_p vlen_p flag_p
  structs_words =
      body_fields w (kind (w (p + 4) / 16777216 % 32)) (w (p + 4) / 2147483648) (w (p + 4) % 65536) (p + 12)
      ∙ ap (λ (g : Follows). structs_at g w (p + 12) (w (p + 4) % 65536)) (rows (w (p + 4) / 16777216 % 32))

  pub one_word : (s : List Field) → follows (w (p + 4) / 16777216 % 32) ≡ one s → (k : ℕ) → struct_field (type_p w p) 0 k ≡ get_or (fields_at s w (p + 12)) k 0
  unfolding struct_field
  one_word s e k =
      ap (λ (l : List (List ℕ)). get_or (get_or l 0 []) k 0) (structs_words ∙ ap (λ (g : Follows). structs_at g w (p + 12) (w (p + 4) % 65536)) e)

  pub each_word : (s : List Field) → follows (w (p + 4) / 16777216 % 32) ≡ each s → (j k : ℕ) → j < w (p + 4) % 65536
      → struct_field (type_p w p) j k ≡ get_or (fields_at s w (p + 12 + j * size_of s)) k 0
  unfolding struct_field
  each_word s e j k l =
      let z : 0 + j ≡ j = omega arith in
      ap (λ (x : List (List ℕ)). get_or (get_or x j []) k 0) (structs_words ∙ ap (λ (g : Follows). structs_at g w (p + 12) (w (p + 4) % 65536)) e)
      ∙ ap (λ (x : List ℕ). get_or x k 0) (tabulate_at (λ i. fields_at s w (p + 12 + i * size_of s)) 0 (w (p + 4) % 65536) j [] l)
      ∙ ap (λ (i : ℕ). get_or (fields_at s w (p + 12 + i * size_of s)) k 0) z

---------------------------------------------------------------------------------------------------------------------------------------
-- The ranges of the words that have a bits arrangement

pub info_ranges : (w : ℕ → ℕ) (p : ℕ) → w (p + 4) < 2 ^ 32 → (vlen_p w p ∷ kind_p w p ∷ flag_p w p ∷ []) ≡ unpack btf_info (w (p + 4))
unfolding vlen_p kind_p flag_p
info_ranges w p h =
    let x : ℕ = w (p + 4) in
    let a : x % 65536 ≡ x / 1 % 65536 = omega arith in
    let c : x / 2147483648 ≡ x / 2147483648 % 2 = omega arith in
    λ i. a i ∷ x / 16777216 % 32 ∷ c i ∷ []

-- the two unused ranges are 0 in what passes the tests of cause 5
pub unused_ranges : (w : ℕ → ℕ) (len p : ℕ) → sound_p w len p ≡ true → unpack btf_info_unused (w (p + 4)) ≡ 0 ∷ 0 ∷ []
unfolding sound_p
unused_ranges w len p h =
    let x : ℕ = w (p + 4) in
    let h2 = second_so (known (shape (kind (kind_p w p)))) _ (second_so (leb (p + 12) len) _ h) in
    let u : x / 65536 % 256 ≡ 0 = eqb-true (x / 65536 % 256) 0 (first_so (eqb (x / 65536 % 256) 0) _ h2) in
    let h3 = second_so (eqb (x / 65536 % 256) 0) _ h2 in
    let v : x / 536870912 % 4 ≡ 0 = eqb-true (x / 536870912 % 4) 0 (first_so (eqb (x / 536870912 % 4) 0) _ h3) in
    λ i. u i ∷ v i ∷ []

pub int_ranges : (x : ℕ) → x < 2 ^ 32 → (x % 256 ∷ x / 256 % 256 ∷ x / 65536 % 256 ∷ x / 16777216 % 16 ∷ x / 268435456 ∷ []) ≡ unpack btf_int x
int_ranges x h =
    let a : x % 256 ≡ x / 1 % 256 = omega arith in
    let e : x / 268435456 ≡ x / 268435456 % 16 = omega arith in
    λ i. a i ∷ x / 256 % 256 ∷ x / 65536 % 256 ∷ x / 16777216 % 16 ∷ e i ∷ []

pub offset_ranges : (x : ℕ) → x < 2 ^ 32 → (x % 16777216 ∷ x / 16777216 ∷ []) ≡ unpack member_offset_bits x
offset_ranges x h =
    let a : x % 16777216 ≡ x / 1 % 16777216 = omega arith in
    let e : x / 16777216 ≡ x / 16777216 % 256 = omega arith in
    λ i. a i ∷ e i ∷ []

-- a member by its offset word
pub member_bits : (w : ℕ → ℕ) (f q : ℕ) → w (q + 8) < 2 ^ 32 → member_p f w q ≡ member (w q) (w (q + 4)) (bit_offset f (w (q + 8))) (bitfield_size f (w (q + 8)))
member_bits w zero q h = refl
member_bits w (suc f) q h =
    let e = offset_ranges (w (q + 8)) h in
    λ i. member (w q) (w (q + 4)) (get_or (e i) 0 0) (get_or (e i) 1 0)

-- kind_flag set, and not set
pub flag_set : (x : ℕ) → 2147483648 ≤ x → x < 2 ^ 32 → x / 2147483648 ≡ 1
flag_set x l h = omega arith

pub flag_clear : (x : ℕ) → x < 2147483648 → x / 2147483648 ≡ 0
flag_clear x h = omega arith

pub bits_set : (flag x : ℕ) → 1 ≤ flag → x < 2 ^ 32 → (bit_offset flag x ≡ x % 16777216) × (bitfield_size flag x ≡ x / 16777216)
bits_set zero x l h = absurd (omega arith)
bits_set (suc f) x l h =
    let a : x / 1 % 16777216 ≡ x % 16777216 = omega arith in
    let e : x / 16777216 % 256 ≡ x / 16777216 = omega arith in
    (a, e)
