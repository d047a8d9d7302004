-- The reader by places, with places counted from elsewhere: what is read at p in the words from o on is what is read at o + p. Assumes nothing.
use Prim.Native.Nat.{ℕ, zero, suc, ◌+◌, ◌*◌, ◌/◌, ◌%◌}
use mathlib.Core.Path.{◌≡◌, refl, ap, ◌∙◌}
use mathlib.Core.Bool.{Bool, true, false, ◌&&◌}
use native.Mathlib.Omega.{arith}
use lib.Dec.{ltb, leb, eqb}
use Rattle.spec_linux_btf.specs.Documentation.{member, enumerator, param, secinfo, enumerator64, array, struct, union, enum, func_proto, datasec, enum64, described}
use Rattle.spec_linux_btf.specs.Reading.{Kind, none, INT, PTR, ARRAY, STRUCT, UNION, ENUM, FWD, TYPEDEF, VOLATILE, CONST, RESTRICT, FUNC, FUNC-PROTO, VAR, DATASEC, FLOAT, DECL-TAG, TYPE-TAG, ENUM64, kind, shape, known, extra}
use Rattle.spec_linux_btf.specs.Places.{vlen_p, kind_p, flag_p, size_p, member_p, enumerator_p, param_p, secinfo_p, enumerator64_p, tabulate, body_p, type_p, place_from, sound_p, all_named_p, entries_named_p, named_p, passes_p}
use Rattle.spec_linux_btf.proofs.ByPlaces.{table_same}
use Rattle.spec_linux_btf.proofs.Area.{leb_same}

module _ (w : ℕ → ℕ) (o : ℕ) where
  abbrev from : ℕ → ℕ
  from q = w (o + q)

  at4 : (q : ℕ) → w (o + (q + 4)) ≡ w (o + q + 4)
  at4 q = let e : o + (q + 4) ≡ o + q + 4 = omega arith in ap w e

  at8 : (q : ℕ) → w (o + (q + 8)) ≡ w (o + q + 8)
  at8 q = let e : o + (q + 8) ≡ o + q + 8 = omega arith in ap w e

  member_shift : (f q : ℕ) → member_p f from q ≡ member_p f w (o + q)
  member_shift zero q = λ i. member (w (o + q)) (at4 q i) (at8 q i) 0
  member_shift (suc f) q = λ i. member (w (o + q)) (at4 q i) (at8 q i % 16777216) (at8 q i / 16777216)

  -- n entries of a size
  each_shift : {E : Type 0} (at : (ℕ → ℕ) → ℕ → E) → ((q : ℕ) → at from q ≡ at w (o + q))
      → (size q n : ℕ) → tabulate (λ j. at from (q + j * size)) 0 n ≡ tabulate (λ j. at w (o + q + j * size)) 0 n
  each_shift at e size q n =
      table_same (λ j. at from (q + j * size)) (λ j. at w (o + q + j * size)) 0 n (λ j a b. let m : o + (q + j * size) ≡ o + q + j * size = omega arith in e (q + j * size) ∙ ap (at w) m)

  body_shift : (k : Kind) (f v q : ℕ) → body_p k f v from q ≡ body_p k f v w (o + q)
  body_shift none f v q = refl
  body_shift INT f v q = refl
  body_shift PTR f v q = refl
  body_shift ARRAY f v q = λ i. array v (w (o + q)) (at4 q i) (at8 q i)
  body_shift STRUCT f v q = ap struct (each_shift (member_p f) (member_shift f) 12 q v)
  body_shift UNION f v q = ap union (each_shift (member_p f) (member_shift f) 12 q v)
  body_shift ENUM f v q = ap enum (each_shift enumerator_p (λ x. λ i. enumerator (w (o + x)) (at4 x i)) 8 q v)
  body_shift FWD f v q = refl
  body_shift TYPEDEF f v q = refl
  body_shift VOLATILE f v q = refl
  body_shift CONST f v q = refl
  body_shift RESTRICT f v q = refl
  body_shift FUNC f v q = refl
  body_shift FUNC-PROTO f v q = ap func_proto (each_shift param_p (λ x. λ i. param (w (o + x)) (at4 x i)) 8 q v)
  body_shift VAR f v q = refl
  body_shift DATASEC f v q = ap datasec (each_shift secinfo_p (λ x. λ i. secinfo (w (o + x)) (at4 x i) (at8 x i)) 12 q v)
  body_shift FLOAT f v q = refl
  body_shift DECL-TAG f v q = refl
  body_shift TYPE-TAG f v q = refl
  body_shift ENUM64 f v q = ap enum64 (each_shift enumerator64_p (λ x. λ i. enumerator64 (w (o + x)) (at4 x i) (at8 x i)) 12 q v)

  pub size_shift : (p : ℕ) → size_p from p ≡ size_p w (o + p)
  unfolding size_p kind_p vlen_p
  size_shift p = ap (λ (y : ℕ). 12 + extra (kind (y / 16777216 % 32)) (y % 65536)) (at4 p)

  pub type_shift : (p : ℕ) → type_p from p ≡ type_p w (o + p)
  unfolding type_p kind_p vlen_p flag_p
  type_shift p =
      let e : o + (p + 12) ≡ o + p + 12 = omega arith in
      let i4 : ℕ = w (o + p + 4) in
      (λ i. described (w (o + p)) (at4 p i / 2147483648) (at8 p i) (body_p (kind (at4 p i / 16777216 % 32)) (at4 p i / 2147483648) (at4 p i % 65536) from (p + 12)))
      ∙ ap (described (w (o + p)) (i4 / 2147483648) (w (o + p + 8)))
      (body_shift (kind (i4 / 16777216 % 32)) (i4 / 2147483648) (i4 % 65536) (p + 12) ∙ ap (body_p (kind (i4 / 16777216 % 32)) (i4 / 2147483648) (i4 % 65536) w) e)

  pub place_shift : (p i : ℕ) → o + place_from from p i ≡ place_from w (o + p) i
  unfolding place_from
  place_shift p zero = refl
  place_shift p (suc i) =
      let x : ℕ = place_from from p i in
      let a : o + (x + size_p from x) ≡ o + x + size_p from x = omega arith in
      a ∙ ap (λ (z : ℕ). o + x + z) (size_shift x) ∙ ap (λ (y : ℕ). y + size_p w y) (place_shift p i)

  -- the tests of cause 5
  sound_shift : (len p : ℕ) → sound_p from len p ≡ sound_p w (o + len) (o + p)
  unfolding sound_p size_p kind_p vlen_p
  sound_shift len p =
      let n : ℕ = 12 + extra (kind (w (o + p + 4) / 16777216 % 32)) (w (o + p + 4) % 65536) in
      let a : leb (p + 12) len ≡ leb (o + p + 12) (o + len) = leb_same (p + 12) len (o + p + 12) (o + len) (λ h. omega arith) (λ h. omega arith) in
      let b : leb (p + n) len ≡ leb (o + p + n) (o + len) = leb_same (p + n) len (o + p + n) (o + len) (λ h. omega arith) (λ h. omega arith) in
      ap (λ (y : ℕ). leb (p + 12) len && (known (shape (kind (y / 16777216 % 32))) && (eqb (y / 65536 % 256) 0 && (eqb (y / 536870912 % 4) 0 && leb (p + (12 + extra (kind (y / 16777216 % 32)) (y % 65536))) len)))) (at4 p)
      ∙ (λ i. a i && (known (shape (kind (w (o + p + 4) / 16777216 % 32))) && (eqb (w (o + p + 4) / 65536 % 256) 0 && (eqb (w (o + p + 4) / 536870912 % 4) 0 && b i))))

  all_shift : (sl size q n : ℕ) → all_named_p sl size from q n ≡ all_named_p sl size w (o + q) n
  all_shift sl size q zero = refl
  all_shift sl size q (suc n) =
      let e : o + (q + size) ≡ o + q + size = omega arith in
      ap (λ (t : Bool). ltb (w (o + q)) sl && t) (all_shift sl size (q + size) n ∙ ap (λ (y : ℕ). all_named_p sl size w y n) e)

  entries_shift : (sl : ℕ) (k : Kind) (v q : ℕ) → entries_named_p sl k v from q ≡ entries_named_p sl k v w (o + q)
  entries_shift sl none v q = refl
  entries_shift sl INT v q = refl
  entries_shift sl PTR v q = refl
  entries_shift sl ARRAY v q = refl
  entries_shift sl STRUCT v q = all_shift sl 12 q v
  entries_shift sl UNION v q = all_shift sl 12 q v
  entries_shift sl ENUM v q = all_shift sl 8 q v
  entries_shift sl FWD v q = refl
  entries_shift sl TYPEDEF v q = refl
  entries_shift sl VOLATILE v q = refl
  entries_shift sl CONST v q = refl
  entries_shift sl RESTRICT v q = refl
  entries_shift sl FUNC v q = refl
  entries_shift sl FUNC-PROTO v q = all_shift sl 8 q v
  entries_shift sl VAR v q = refl
  entries_shift sl DATASEC v q = refl
  entries_shift sl FLOAT v q = refl
  entries_shift sl DECL-TAG v q = refl
  entries_shift sl TYPE-TAG v q = refl
  entries_shift sl ENUM64 v q = all_shift sl 12 q v

  named_shift : (sl p : ℕ) → named_p sl from p ≡ named_p sl w (o + p)
  unfolding named_p kind_p vlen_p
  named_shift sl p =
      let e : o + (p + 12) ≡ o + p + 12 = omega arith in
      let k : Kind = kind (w (o + p + 4) / 16777216 % 32) in
      let v : ℕ = w (o + p + 4) % 65536 in
      ap (λ (y : ℕ). ltb (w (o + p)) sl && entries_named_p sl (kind (y / 16777216 % 32)) (y % 65536) from (p + 12)) (at4 p)
      ∙ ap (λ (t : Bool). ltb (w (o + p)) sl && t) (entries_shift sl k v (p + 12) ∙ ap (entries_named_p sl k v w) e)

  pub passes_shift : (sl n len p : ℕ) → passes_p sl n from len p ≡ passes_p sl n w (o + len) (o + p)
  unfolding passes_p
  passes_shift sl zero len p = leb_same len p (o + len) (o + p) (λ h. omega arith) (λ h. omega arith)
  passes_shift sl (suc n) len p =
      let a : ltb p len ≡ ltb (o + p) (o + len) = leb_same (suc p) len (suc (o + p)) (o + len) (λ h. omega arith) (λ h. omega arith) in
      let z : size_p from p ≡ size_p w (o + p) = size_shift p in
      let e : o + (p + size_p from p) ≡ o + p + size_p w (o + p) = omega arith in
      let r = passes_shift sl n len (p + size_p from p) ∙ ap (passes_p sl n w (o + len)) e in
      λ i. elim (a i) [ true ↦ sound_shift len p i && (named_shift sl p i && r i) | false ↦ true ]
