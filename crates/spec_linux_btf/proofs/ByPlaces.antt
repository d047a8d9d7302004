-- The reader by places is the decoder. Assumes nothing.
use Prim.Native.Nat.{ℕ, zero, suc, ◌+◌, ◌*◌, ◌/◌, ◌%◌, ◌<◌, ◌≤◌}
use mathlib.Core.Path.{◌≡◌, refl, ap, ◌∙◌}
use mathlib.Core.Bool.{Bool}
use mathlib.Core.List.{List, ◌∷◌}
use native.Mathlib.Omega.{arith}
use native.Mathlib.Nat.{zero-mul, suc-mul}
use lib.ListN.{get_or, drop}
use lib.Seq.{drop-drop}
use Rattle.spec_linux_btf.specs.Documentation.{member, enumerator, param, secinfo, enumerator64, int, array, struct, union, enum, func_proto, var, datasec, decl_tag, enum64, described}
use Rattle.spec_linux_btf.specs.Reading.{word, get_each, get_member, get_enumerator, get_param, get_secinfo, get_enumerator64, Kind, none, INT, PTR, ARRAY, STRUCT, UNION, ENUM, FWD, TYPEDEF, VOLATILE, CONST, RESTRICT, FUNC, FUNC-PROTO, VAR, DATASEC, FLOAT, DECL-TAG, TYPE-TAG, ENUM64, kind, extra, get_body, vlen_at, kind_at, flag_at, size_at, decode, type_at}
use Rattle.spec_linux_btf.specs.Places.{vlen_p, kind_p, flag_p, size_p, member_p, enumerator_p, param_p, secinfo_p, enumerator64_p, tabulate, body_p, type_p}
use Rattle.spec_linux_btf.proofs.Words.{word_drop}

pub first : (big : Bool) (b : List ℕ) (q : ℕ) → word big (drop q b) 0 ≡ word big b q
first big b q = let z : q + 0 ≡ q = omega arith in word_drop big b q 0 ∙ ap (word big b) z

pub tabulate_at : {E : Type 0} (f : ℕ → E) (k n j : ℕ) (d : E) → j < n → get_or (tabulate f k n) j d ≡ f (k + j)
tabulate_at f k zero j d h = absurd (omega arith)
tabulate_at f k (suc n) zero d h = let e : k ≡ k + 0 = omega arith in ap f e
tabulate_at f k (suc n) (suc j) d h = let e : suc k + j ≡ k + suc j = omega arith in tabulate_at f (suc k) n j d (omega arith) ∙ ap f e

-- entries one after the other are a table
some_table : {E : Type 0} (get : List ℕ → E) (at : ℕ → E) (size : ℕ) (b : List ℕ) → ((q : ℕ) → get (drop q b) ≡ at q)
    → (q k n : ℕ) → get_each get size n (drop (q + k * size) b) ≡ tabulate (λ j. at (q + j * size)) k n
some_table get at size b e q k zero = refl
some_table get at size b e q k (suc n) =
    let m : q + k * size + size ≡ q + suc k * size = omega (arith, suc-mul k size) in
    let r : get_each get size n (drop size (drop (q + k * size) b)) ≡ tabulate (λ j. at (q + j * size)) (suc k) n = rw (drop-drop size (q + k * size) b, m) (some_table get at size b e q (suc k) n) in
    λ i. e (q + k * size) i ∷ r i

member_at : (big : Bool) (f : ℕ) (b : List ℕ) (q : ℕ) → get_member big f (drop q b) ≡ member_p f (word big b) q
member_at big zero b q = λ i. member (first big b q i) (word_drop big b q 4 i) (word_drop big b q 8 i) 0
member_at big (suc f) b q = λ i. member (first big b q i) (word_drop big b q 4 i) (word_drop big b q 8 i % 16777216) (word_drop big b q 8 i / 16777216)

enumerator_at : (big : Bool) (b : List ℕ) (q : ℕ) → get_enumerator big (drop q b) ≡ enumerator_p (word big b) q
enumerator_at big b q = λ i. enumerator (first big b q i) (word_drop big b q 4 i)

param_at : (big : Bool) (b : List ℕ) (q : ℕ) → get_param big (drop q b) ≡ param_p (word big b) q
param_at big b q = λ i. param (first big b q i) (word_drop big b q 4 i)

secinfo_at : (big : Bool) (b : List ℕ) (q : ℕ) → get_secinfo big (drop q b) ≡ secinfo_p (word big b) q
secinfo_at big b q = λ i. secinfo (first big b q i) (word_drop big b q 4 i) (word_drop big b q 8 i)

enumerator64_at : (big : Bool) (b : List ℕ) (q : ℕ) → get_enumerator64 big (drop q b) ≡ enumerator64_p (word big b) q
enumerator64_at big b q = λ i. enumerator64 (first big b q i) (word_drop big b q 4 i) (word_drop big b q 8 i)

whole_table : {E : Type 0} (get : List ℕ → E) (at : ℕ → E) (size : ℕ) (b : List ℕ) → ((q : ℕ) → get (drop q b) ≡ at q)
    → (q n : ℕ) → get_each get size n (drop q b) ≡ tabulate (λ j. at (q + j * size)) 0 n
whole_table get at size b e q n =
    let z : q ≡ q + 0 * size = omega (arith, zero-mul size) in
    ap (λ (p : ℕ). get_each get size n (drop p b)) z ∙ some_table get at size b e q 0 n

body_places : (big : Bool) (k : Kind) (f v : ℕ) (b : List ℕ) (q : ℕ) → get_body big k f v (drop q b) ≡ body_p k f v (word big b) q
body_places big none f v b q = refl
body_places big INT f v b q =
    ap (λ (w : ℕ). int v (w % 256) (w / 256 % 256) (w / 65536 % 256) (w / 16777216 % 16) (w / 268435456)) (first big b q)
body_places big PTR f v b q = refl
body_places big ARRAY f v b q = λ i. array v (first big b q i) (word_drop big b q 4 i) (word_drop big b q 8 i)
body_places big STRUCT f v b q = ap struct (whole_table (get_member big f) (member_p f (word big b)) 12 b (member_at big f b) q v)
body_places big UNION f v b q = ap union (whole_table (get_member big f) (member_p f (word big b)) 12 b (member_at big f b) q v)
body_places big ENUM f v b q = ap enum (whole_table (get_enumerator big) (enumerator_p (word big b)) 8 b (enumerator_at big b) q v)
body_places big FWD f v b q = refl
body_places big TYPEDEF f v b q = refl
body_places big VOLATILE f v b q = refl
body_places big CONST f v b q = refl
body_places big RESTRICT f v b q = refl
body_places big FUNC f v b q = refl
body_places big FUNC-PROTO f v b q = ap func_proto (whole_table (get_param big) (param_p (word big b)) 8 b (param_at big b) q v)
body_places big VAR f v b q = ap (var v) (first big b q)
body_places big DATASEC f v b q = ap datasec (whole_table (get_secinfo big) (secinfo_p (word big b)) 12 b (secinfo_at big b) q v)
body_places big FLOAT f v b q = refl
body_places big DECL-TAG f v b q = ap (decl_tag v) (first big b q)
body_places big TYPE-TAG f v b q = refl
body_places big ENUM64 f v b q = ap enum64 (whole_table (get_enumerator64 big) (enumerator64_p (word big b)) 12 b (enumerator64_at big b) q v)

pub size_places : (big : Bool) (b : List ℕ) (p : ℕ) → size_at big (drop p b) ≡ size_p (word big b) p
unfolding size_p kind_p vlen_p
size_places big b p = ap (λ (w : ℕ). 12 + extra (kind (w / 16777216 % 32)) (w % 65536)) (word_drop big b p 4)

-- every field read by its place is the field of the type described there
pub places_decode : (big : Bool) (b : List ℕ) (p : ℕ) → type_at big b p ≡ type_p (word big b) p
unfolding decode type_p kind_p vlen_p flag_p
places_decode big b p =
    λ i. described (first big b p i) (word_drop big b p 4 i / 2147483648) (word_drop big b p 8 i) (rest i)
  where
    rest : get_body big (kind (kind_at big (drop p b))) (flag_at big (drop p b)) (vlen_at big (drop p b)) (drop 12 (drop p b)) ≡ body_p (kind (kind_p (word big b) p)) (flag_p (word big b) p) (vlen_p (word big b) p) (word big b) (p + 12)
    rest =
        rw (drop-drop 12 p b, word_drop big b p 4)
        (body_places big (kind (word big b (p + 4) / 16777216 % 32)) (word big b (p + 4) / 2147483648) (word big b (p + 4) % 65536) b (p + 12))

---------------------------------------------------------------------------------------------------------------------------------------
-- Only the words inside the record count

-- w and u agree on the words inside the n bytes from p on
abbrev pub Same : (ℕ → ℕ) → (ℕ → ℕ) → ℕ → ℕ → Type 0
Same w u p n = (q : ℕ) → p ≤ q → q + 4 ≤ p + n → w q ≡ u q

pub table_same : {E : Type 0} (f g : ℕ → E) (k n : ℕ) → ((j : ℕ) → k ≤ j → j < k + n → f j ≡ g j) → tabulate f k n ≡ tabulate g k n
table_same f g k zero e = refl
table_same f g k (suc n) e =
    let h : f k ≡ g k = e k (omega arith) (omega arith) in
    let t : tabulate f (suc k) n ≡ tabulate g (suc k) n = table_same f g (suc k) n (λ j a b. e j (omega arith) (omega arith)) in
    λ i. h i ∷ t i

module _ (w u : ℕ → ℕ) where
  member_same : (f q : ℕ) → Same w u q 12 → member_p f w q ≡ member_p f u q
  member_same zero q h =
      let a = h q (omega arith) (omega arith) in
      let b = h (q + 4) (omega arith) (omega arith) in
      let c = h (q + 8) (omega arith) (omega arith) in
      λ i. member (a i) (b i) (c i) 0
  member_same (suc f) q h =
      let a = h q (omega arith) (omega arith) in
      let b = h (q + 4) (omega arith) (omega arith) in
      let c = h (q + 8) (omega arith) (omega arith) in
      λ i. member (a i) (b i) (c i % 16777216) (c i / 16777216)

  enumerator_same : (q : ℕ) → Same w u q 8 → enumerator_p w q ≡ enumerator_p u q
  enumerator_same q h =
      let a = h q (omega arith) (omega arith) in
      let b = h (q + 4) (omega arith) (omega arith) in
      λ i. enumerator (a i) (b i)

  param_same : (q : ℕ) → Same w u q 8 → param_p w q ≡ param_p u q
  param_same q h =
      let a = h q (omega arith) (omega arith) in
      let b = h (q + 4) (omega arith) (omega arith) in
      λ i. param (a i) (b i)

  secinfo_same : (q : ℕ) → Same w u q 12 → secinfo_p w q ≡ secinfo_p u q
  secinfo_same q h =
      let a = h q (omega arith) (omega arith) in
      let b = h (q + 4) (omega arith) (omega arith) in
      let c = h (q + 8) (omega arith) (omega arith) in
      λ i. secinfo (a i) (b i) (c i)

  enumerator64_same : (q : ℕ) → Same w u q 12 → enumerator64_p w q ≡ enumerator64_p u q
  enumerator64_same q h =
      let a = h q (omega arith) (omega arith) in
      let b = h (q + 4) (omega arith) (omega arith) in
      let c = h (q + 8) (omega arith) (omega arith) in
      λ i. enumerator64 (a i) (b i) (c i)

  -- entries of 12 and of 8 bytes
  same_12 : {E : Type 0} (at : (ℕ → ℕ) → ℕ → E) → ((q : ℕ) → Same w u q 12 → at w q ≡ at u q)
      → (q v : ℕ) → Same w u q (v * 12) → tabulate (λ j. at w (q + j * 12)) 0 v ≡ tabulate (λ j. at u (q + j * 12)) 0 v
  same_12 at e q v h =
      table_same (λ j. at w (q + j * 12)) (λ j. at u (q + j * 12)) 0 v (λ j a b. e (q + j * 12) (λ x c d. h x (omega arith) (omega arith)))

  same_8 : {E : Type 0} (at : (ℕ → ℕ) → ℕ → E) → ((q : ℕ) → Same w u q 8 → at w q ≡ at u q)
      → (q v : ℕ) → Same w u q (v * 8) → tabulate (λ j. at w (q + j * 8)) 0 v ≡ tabulate (λ j. at u (q + j * 8)) 0 v
  same_8 at e q v h =
      table_same (λ j. at w (q + j * 8)) (λ j. at u (q + j * 8)) 0 v (λ j a b. e (q + j * 8) (λ x c d. h x (omega arith) (omega arith)))

  body_same : (k : Kind) (f v q : ℕ) → Same w u q (extra k v) → body_p k f v w q ≡ body_p k f v u q
  body_same none f v q h = refl
  body_same INT f v q h =
      ap (λ (x : ℕ). int v (x % 256) (x / 256 % 256) (x / 65536 % 256) (x / 16777216 % 16) (x / 268435456)) (h q (omega arith) (omega arith))
  body_same PTR f v q h = refl
  body_same ARRAY f v q h =
      let a = h q (omega arith) (omega arith) in
      let b = h (q + 4) (omega arith) (omega arith) in
      let c = h (q + 8) (omega arith) (omega arith) in
      λ i. array v (a i) (b i) (c i)
  body_same STRUCT f v q h = ap struct (same_12 (member_p f) (member_same f) q v h)
  body_same UNION f v q h = ap union (same_12 (member_p f) (member_same f) q v h)
  body_same ENUM f v q h = ap enum (same_8 enumerator_p enumerator_same q v h)
  body_same FWD f v q h = refl
  body_same TYPEDEF f v q h = refl
  body_same VOLATILE f v q h = refl
  body_same CONST f v q h = refl
  body_same RESTRICT f v q h = refl
  body_same FUNC f v q h = refl
  body_same FUNC-PROTO f v q h = ap func_proto (same_8 param_p param_same q v h)
  body_same VAR f v q h = ap (var v) (h q (omega arith) (omega arith))
  body_same DATASEC f v q h = ap datasec (same_12 secinfo_p secinfo_same q v h)
  body_same FLOAT f v q h = refl
  body_same DECL-TAG f v q h = ap (decl_tag v) (h q (omega arith) (omega arith))
  body_same TYPE-TAG f v q h = refl
  body_same ENUM64 f v q h = ap enum64 (same_12 enumerator64_p enumerator64_same q v h)

  pub size_same : (p : ℕ) → Same w u p (size_p w p) → size_p w p ≡ size_p u p
  unfolding size_p kind_p vlen_p
  size_same p h = ap (λ (y : ℕ). 12 + extra (kind (y / 16777216 % 32)) (y % 65536)) (h (p + 4) (omega arith) (omega arith))

  -- two ways to read words that agree inside the record read the same type
  pub places_same : (p : ℕ) → Same w u p (size_p w p) → type_p w p ≡ type_p u p
  unfolding type_p size_p kind_p vlen_p flag_p
  places_same p h =
      let a : w p ≡ u p = h p (omega arith) (omega arith) in
      let b : w (p + 4) ≡ u (p + 4) = h (p + 4) (omega arith) (omega arith) in
      let c : w (p + 8) ≡ u (p + 8) = h (p + 8) (omega arith) (omega arith) in
      let d = body_same (kind (w (p + 4) / 16777216 % 32)) (w (p + 4) / 2147483648) (w (p + 4) % 65536) (p + 12) (λ q x y. h q (omega arith) (omega arith)) in
      (λ i. described (a i) (w (p + 4) / 2147483648) (c i) (d i))
      ∙ ap (λ (y : ℕ). described (u p) (y / 2147483648) (u (p + 8)) (body_p (kind (y / 16777216 % 32)) (y / 2147483648) (y % 65536) u (p + 12))) b
