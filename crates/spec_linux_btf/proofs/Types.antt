-- What follows the three words of a type, read where it was laid out and laid out where it was read, kind by kind; then a whole type. Assumes nothing.
use Prim.Native.Nat.{ℕ, zero, suc, ◌+◌, ◌*◌, ◌/◌, ◌%◌, ◌<◌, ◌≤◌}
use mathlib.Core.Path.{◌≡◌, refl, ap, ◌∙◌, sym}
use mathlib.Core.Bool.{Bool, true, false, true≢false}
use mathlib.Core.List.{List, [], ◌∷◌, ◌++◌}
use native.Mathlib.Omega.{arith}
use lib.ListN.{length, get_or, drop, length-drop, length-append}
use lib.Seq.{drop-drop}
use lib.Dec.{ltb, leb, eqb}
use borrow.Author.Tests.{ltb-true, lt-ltb, le-leb, eq-eqb, leb-true, eqb-true}
use Rattle.std.specs.Cmp.{first_so, second_so}
use Rattle.std.proofs.lemmas.Bool.{and_from}
use Rattle.spec_bytes.proofs.words.Laws.{lower}
use Rattle.spec_linux_btf.specs.Documentation.{in_bytes, Every, put_member, put_enumerator, put_param, put_secinfo, put_enumerator64, FitMember, FitEnumerator, FitParam, FitSecinfo, FitEnumerator64, Body, int, ptr, array, struct, union, enum, fwd, typedef, volatile, const, restrict, func, func_proto, var, datasec, float, decl_tag, type_tag, enum64, Described, described, kind_of, vlen_of, put_body, FitBody, encode, Fits, NamedMember, NamedEnumerator, NamedParam, NamedEnumerator64, NamedBody, Named}
use Rattle.spec_linux_btf.specs.Reading.{word, Bytes, get_each, get_member, get_enumerator, get_param, get_secinfo, get_enumerator64, Kind, none, INT, PTR, ARRAY, STRUCT, UNION, ENUM, FWD, TYPEDEF, VOLATILE, CONST, RESTRICT, FUNC, FUNC-PROTO, VAR, DATASEC, FLOAT, DECL-TAG, TYPE-TAG, ENUM64, kind_table, kind, shape, known, extra, get_body, vlen_at, kind_at, flag_at, size_at, decode, sound, all_named, entries_named, named}
use Rattle.spec_linux_btf.proofs.Words.{word_again, word_small, word_back, word_back3, bytes_drop}
use Rattle.spec_linux_btf.proofs.Entries.{all_long, some_again, some_length, some_back, some_fits, members, enumerators, params, secinfos, enumerators64}

abbrev pub number : Kind → ℕ
number none = 0
number INT = 1
number PTR = 2
number ARRAY = 3
number STRUCT = 4
number UNION = 5
number ENUM = 6
number FWD = 7
number TYPEDEF = 8
number VOLATILE = 9
number CONST = 10
number RESTRICT = 11
number FUNC = 12
number FUNC-PROTO = 13
number VAR = 14
number DATASEC = 15
number FLOAT = 16
number DECL-TAG = 17
number TYPE-TAG = 18
number ENUM64 = 19

-- a list of kinds numbered from s on
abbrev Runs : ℕ → List Kind → Type 0
Runs s [] = Unit {0}
Runs s (k ∷ ks) = (number k ≡ s) × Runs (suc s) ks

runs_at : (s : ℕ) (ks : List Kind) → Runs s ks → (k : ℕ) → known (shape (get_or ks k none)) ≡ true → number (get_or ks k none) ≡ s + k
runs_at s [] h k e = absurd (let z : false ≡ true = e in true≢false (sym z))
runs_at s (x ∷ ks) h zero e = h.0 ∙ omega arith
runs_at s (x ∷ ks) h (suc k) e = runs_at (suc s) ks h.1 k e ∙ omega arith

pub number_kind : (k : ℕ) → known (shape (kind k)) ≡ true → number (kind k) ≡ k
unfolding kind
number_kind k e =
    runs_at 0 kind_table (refl, (refl, (refl, (refl, (refl, (refl, (refl, (refl, (refl, (refl, (refl, (refl, (refl, (refl, (refl, (refl, (refl, (refl, (refl, (refl, tt)))))))))))))))))))) k e ∙ omega arith

lower16 : (a q : ℕ) → a < 16 → (a + q * 16) % 16 ≡ a
lower16 a q h = omega arith

-- the word of an INT: its ranges are its digits
int_again : (big : Bool) (v a b c d e : ℕ) (s : List ℕ) → a < 256 → b < 256 → c < 256 → d < 16 → e < 16
    → get_body big INT 0 v (in_bytes big 4 (a * 1 + (b * 256 + (c * 65536 + (d * 16777216 + (e * 268435456 + 0))))) ++ s) ≡ int v a b c d e
int_again big v a b c d e s ha hb hc hd he =
    let y : ℕ = a * 1 + (b * 256 + (c * 65536 + (d * 16777216 + (e * 268435456 + 0)))) in
    let y0 : y ≡ a + (b + c * 256 + d * 65536 + e * 1048576) * 256 = omega arith in
    let y1 : y / 256 ≡ b + (c + d * 256 + e * 4096) * 256 = omega arith in
    let y2 : y / 65536 ≡ c + (d + e * 16) * 256 = omega arith in
    let y3 : y / 16777216 ≡ d + e * 16 = omega arith in
    let y4 : y / 268435456 ≡ e = omega arith in
    let w : word big (in_bytes big 4 y ++ s) 0 ≡ y = word_again big y s (omega arith) in
    let p0 : word big (in_bytes big 4 y ++ s) 0 % 256 ≡ a = ap (λ (n : ℕ). n % 256) (w ∙ y0) ∙ lower a _ ha in
    let p1 : word big (in_bytes big 4 y ++ s) 0 / 256 % 256 ≡ b = ap (λ (n : ℕ). n / 256 % 256) w ∙ ap (λ (n : ℕ). n % 256) y1 ∙ lower b _ hb in
    let p2 : word big (in_bytes big 4 y ++ s) 0 / 65536 % 256 ≡ c = ap (λ (n : ℕ). n / 65536 % 256) w ∙ ap (λ (n : ℕ). n % 256) y2 ∙ lower c _ hc in
    let p3 : word big (in_bytes big 4 y ++ s) 0 / 16777216 % 16 ≡ d = ap (λ (n : ℕ). n / 16777216 % 16) w ∙ ap (λ (n : ℕ). n % 16) y3 ∙ lower16 d e hd in
    let p4 : word big (in_bytes big 4 y ++ s) 0 / 268435456 ≡ e = ap (λ (n : ℕ). n / 268435456) w ∙ y4 in
    λ i. int v (p0 i) (p1 i) (p2 i) (p3 i) (p4 i)

pub int_parts : (w : ℕ) → w % 256 * 1 + (w / 256 % 256 * 256 + (w / 65536 % 256 * 65536 + (w / 16777216 % 16 * 16777216 + (w / 268435456 * 268435456 + 0)))) ≡ w
int_parts w =
    let a : w / 256 * 256 + w % 256 ≡ w = omega arith in
    let b : w / 65536 * 256 + w / 256 % 256 ≡ w / 256 = omega arith in
    let c : w / 16777216 * 256 + w / 65536 % 256 ≡ w / 65536 = omega arith in
    let d : w / 268435456 * 16 + w / 16777216 % 16 ≡ w / 16777216 = omega arith in
    omega arith

-- (a) what follows, read where it was laid out
pub body_again : (big : Bool) (f : ℕ) (b : Body) (s : List ℕ) → FitBody f b → get_body big (kind (kind_of b)) f (vlen_of b) (put_body big f b ++ s) ≡ b
unfolding kind word
body_again big f (int v a b c d e) s h = int_again big v a b c d e s h.0 h.1.0 h.1.1.0 h.1.1.1.0 h.1.1.1.1.0
body_again big f (ptr v) s h = refl
body_again big f (array v t x n) s h =
    λ i. array v (word_again big t (in_bytes big 4 x ++ (in_bytes big 4 n ++ s)) h.0 i) (word_again big x (in_bytes big 4 n ++ s) h.1.0 i) (word_again big n s h.1.1.0 i)
body_again big f (struct es) s h = ap struct (some_again (put_member big f) (get_member big f) 12 (FitMember f) (members big f) es s h)
body_again big f (union es) s h = ap union (some_again (put_member big f) (get_member big f) 12 (FitMember f) (members big f) es s h)
body_again big f (enum es) s h = ap enum (some_again (put_enumerator big) (get_enumerator big) 8 FitEnumerator (enumerators big) es s h)
body_again big f (fwd v) s h = refl
body_again big f (typedef v) s h = refl
body_again big f (volatile v) s h = refl
body_again big f (const v) s h = refl
body_again big f (restrict v) s h = refl
body_again big f (func v) s h = refl
body_again big f (func_proto es) s h = ap func_proto (some_again (put_param big) (get_param big) 8 FitParam (params big) es s h)
body_again big f (var v l) s h = ap (var v) (word_again big l s h.0)
body_again big f (datasec es) s h = ap datasec (some_again (put_secinfo big) (get_secinfo big) 12 FitSecinfo (secinfos big) es s h)
body_again big f (float v) s h = refl
body_again big f (decl_tag v c) s h = ap (decl_tag v) (word_again big c s h.0)
body_again big f (type_tag v) s h = refl
body_again big f (enum64 es) s h = ap enum64 (some_again (put_enumerator64 big) (get_enumerator64 big) 12 FitEnumerator64 (enumerators64 big) es s h)

-- and as long as the reader takes it to be
pub body_long : (big : Bool) (f : ℕ) (b : Body) → length (put_body big f b) ≡ extra (kind (kind_of b)) (vlen_of b)
unfolding kind
body_long big f (int v a b c d e) = refl
body_long big f (ptr v) = refl
body_long big f (array v t x n) = refl
body_long big f (struct es) = all_long (put_member big f) (get_member big f) 12 (FitMember f) (members big f) es
body_long big f (union es) = all_long (put_member big f) (get_member big f) 12 (FitMember f) (members big f) es
body_long big f (enum es) = all_long (put_enumerator big) (get_enumerator big) 8 FitEnumerator (enumerators big) es
body_long big f (fwd v) = refl
body_long big f (typedef v) = refl
body_long big f (volatile v) = refl
body_long big f (const v) = refl
body_long big f (restrict v) = refl
body_long big f (func v) = refl
body_long big f (func_proto es) = all_long (put_param big) (get_param big) 8 FitParam (params big) es
body_long big f (var v l) = refl
body_long big f (datasec es) = all_long (put_secinfo big) (get_secinfo big) 12 FitSecinfo (secinfos big) es
body_long big f (float v) = refl
body_long big f (decl_tag v c) = refl
body_long big f (type_tag v) = refl
body_long big f (enum64 es) = all_long (put_enumerator64 big) (get_enumerator64 big) 12 FitEnumerator64 (enumerators64 big) es

pub body_known : (b : Body) → known (shape (kind (kind_of b))) ≡ true
unfolding kind
body_known (int v a b c d e) = refl
body_known (ptr v) = refl
body_known (array v t x n) = refl
body_known (struct es) = refl
body_known (union es) = refl
body_known (enum es) = refl
body_known (fwd v) = refl
body_known (typedef v) = refl
body_known (volatile v) = refl
body_known (const v) = refl
body_known (restrict v) = refl
body_known (func v) = refl
body_known (func_proto es) = refl
body_known (var v l) = refl
body_known (datasec es) = refl
body_known (float v) = refl
body_known (decl_tag v c) = refl
body_known (type_tag v) = refl
body_known (enum64 es) = refl

-- (b) what follows, laid out where it was read
pub body_kind : (big : Bool) (k : Kind) (f v : ℕ) (e : List ℕ) → known (shape k) ≡ true → kind_of (get_body big k f v e) ≡ number k
body_kind big none f v e h = absurd (true≢false (sym h))
body_kind big INT f v e h = refl
body_kind big PTR f v e h = refl
body_kind big ARRAY f v e h = refl
body_kind big STRUCT f v e h = refl
body_kind big UNION f v e h = refl
body_kind big ENUM f v e h = refl
body_kind big FWD f v e h = refl
body_kind big TYPEDEF f v e h = refl
body_kind big VOLATILE f v e h = refl
body_kind big CONST f v e h = refl
body_kind big RESTRICT f v e h = refl
body_kind big FUNC f v e h = refl
body_kind big FUNC-PROTO f v e h = refl
body_kind big VAR f v e h = refl
body_kind big DATASEC f v e h = refl
body_kind big FLOAT f v e h = refl
body_kind big DECL-TAG f v e h = refl
body_kind big TYPE-TAG f v e h = refl
body_kind big ENUM64 f v e h = refl

pub body_vlen : (big : Bool) (k : Kind) (f v : ℕ) (e : List ℕ) → vlen_of (get_body big k f v e) ≡ v
body_vlen big none f v e = refl
body_vlen big INT f v e = refl
body_vlen big PTR f v e = refl
body_vlen big ARRAY f v e = refl
body_vlen big STRUCT f v e = some_length (put_member big f) (get_member big f) 12 (FitMember f) (members big f) v e
body_vlen big UNION f v e = some_length (put_member big f) (get_member big f) 12 (FitMember f) (members big f) v e
body_vlen big ENUM f v e = some_length (put_enumerator big) (get_enumerator big) 8 FitEnumerator (enumerators big) v e
body_vlen big FWD f v e = refl
body_vlen big TYPEDEF f v e = refl
body_vlen big VOLATILE f v e = refl
body_vlen big CONST f v e = refl
body_vlen big RESTRICT f v e = refl
body_vlen big FUNC f v e = refl
body_vlen big FUNC-PROTO f v e = some_length (put_param big) (get_param big) 8 FitParam (params big) v e
body_vlen big VAR f v e = refl
body_vlen big DATASEC f v e = some_length (put_secinfo big) (get_secinfo big) 12 FitSecinfo (secinfos big) v e
body_vlen big FLOAT f v e = refl
body_vlen big DECL-TAG f v e = refl
body_vlen big TYPE-TAG f v e = refl
body_vlen big ENUM64 f v e = some_length (put_enumerator64 big) (get_enumerator64 big) 12 FitEnumerator64 (enumerators64 big) v e

pub body_back : (big : Bool) (k : Kind) (f v : ℕ) (e : List ℕ) → Bytes e → extra k v ≤ length e → put_body big f (get_body big k f v e) ++ drop (extra k v) e ≡ e
body_back big none f v e h l = refl
body_back big INT f v e h l = ap (λ (y : ℕ). in_bytes big 4 y ++ drop 4 e) (int_parts (word big e 0)) ∙ word_back big e h l
body_back big PTR f v e h l = refl
body_back big ARRAY f v e h l = word_back3 big e h l
body_back big STRUCT f v e h l = some_back (put_member big f) (get_member big f) 12 (FitMember f) (members big f) v e h l
body_back big UNION f v e h l = some_back (put_member big f) (get_member big f) 12 (FitMember f) (members big f) v e h l
body_back big ENUM f v e h l = some_back (put_enumerator big) (get_enumerator big) 8 FitEnumerator (enumerators big) v e h l
body_back big FWD f v e h l = refl
body_back big TYPEDEF f v e h l = refl
body_back big VOLATILE f v e h l = refl
body_back big CONST f v e h l = refl
body_back big RESTRICT f v e h l = refl
body_back big FUNC f v e h l = refl
body_back big FUNC-PROTO f v e h l = some_back (put_param big) (get_param big) 8 FitParam (params big) v e h l
body_back big VAR f v e h l = word_back big e h l
body_back big DATASEC f v e h l = some_back (put_secinfo big) (get_secinfo big) 12 FitSecinfo (secinfos big) v e h l
body_back big FLOAT f v e h l = refl
body_back big DECL-TAG f v e h l = word_back big e h l
body_back big TYPE-TAG f v e h l = refl
body_back big ENUM64 f v e h l = some_back (put_enumerator64 big) (get_enumerator64 big) 12 FitEnumerator64 (enumerators64 big) v e h l

pub body_fits : (big : Bool) (k : Kind) (f v : ℕ) (e : List ℕ) → Bytes e → FitBody f (get_body big k f v e)
body_fits big none f v e h = tt
body_fits big INT f v e h = (omega arith, (omega arith, (omega arith, (omega arith, (omega (arith, word_small big e 0 h), tt)))))
body_fits big PTR f v e h = tt
body_fits big ARRAY f v e h = (word_small big e 0 h, (word_small big e 4 h, (word_small big e 8 h, tt)))
body_fits big STRUCT f v e h = some_fits (put_member big f) (get_member big f) 12 (FitMember f) (members big f) v e h
body_fits big UNION f v e h = some_fits (put_member big f) (get_member big f) 12 (FitMember f) (members big f) v e h
body_fits big ENUM f v e h = some_fits (put_enumerator big) (get_enumerator big) 8 FitEnumerator (enumerators big) v e h
body_fits big FWD f v e h = tt
body_fits big TYPEDEF f v e h = tt
body_fits big VOLATILE f v e h = tt
body_fits big CONST f v e h = tt
body_fits big RESTRICT f v e h = tt
body_fits big FUNC f v e h = tt
body_fits big FUNC-PROTO f v e h = some_fits (put_param big) (get_param big) 8 FitParam (params big) v e h
body_fits big VAR f v e h = (word_small big e 0 h, tt)
body_fits big DATASEC f v e h = some_fits (put_secinfo big) (get_secinfo big) 12 FitSecinfo (secinfos big) v e h
body_fits big FLOAT f v e h = tt
body_fits big DECL-TAG f v e h = (word_small big e 0 h, tt)
body_fits big TYPE-TAG f v e h = tt
body_fits big ENUM64 f v e h = some_fits (put_enumerator64 big) (get_enumerator64 big) 12 FitEnumerator64 (enumerators64 big) v e h

---------------------------------------------------------------------------------------------------------------------------------------
-- The info word

abbrev info_word : ℕ → ℕ → ℕ → ℕ
info_word v k f = v * 1 + (k * 16777216 + (f * 2147483648 + 0))

record InfoRead (w v k f : ℕ) : Type 0 where
  small : w < 4294967296
  vlen : w % 65536 ≡ v
  knd : w / 16777216 % 32 ≡ k
  flag : w / 2147483648 ≡ f
  free1 : w / 65536 % 256 ≡ 0
  free2 : w / 536870912 % 4 ≡ 0

lower32 : (a q : ℕ) → a < 32 → (a + q * 32) % 32 ≡ a
lower32 a q h = omega arith

info_again : (v k f : ℕ) → v < 65536 → k < 32 → f < 2 → InfoRead (info_word v k f) v k f
info_again v k f hv hk hf =
    record {
      small = omega arith;
      vlen = omega arith;
      knd = ap (λ (n : ℕ). n % 32) top ∙ lower32 k (f * 4) hk;
      flag = omega arith;
      free1 = ap (λ (n : ℕ). n % 256) middle ∙ lower 0 (k + f * 128) (omega arith);
      free2 = ap (λ (n : ℕ). n % 4) high ∙ omega arith;
    }
  where
    top : info_word v k f / 16777216 ≡ k + f * 4 * 32
    top = omega arith

    middle : info_word v k f / 65536 ≡ 0 + (k + f * 128) * 256
    middle = omega arith

    high : info_word v k f / 536870912 ≡ f * 4
    high = omega arith

pub info_back : (w : ℕ) → w / 65536 % 256 ≡ 0 → w / 536870912 % 4 ≡ 0 → info_word (w % 65536) (w / 16777216 % 32) (w / 2147483648) ≡ w
info_back w e1 e2 =
    let a : w / 65536 * 65536 + w % 65536 ≡ w = omega arith in
    let b : w / 16777216 * 256 + w / 65536 % 256 ≡ w / 65536 = omega arith in
    let c : w / 536870912 * 32 + w / 16777216 % 32 ≡ w / 16777216 = omega arith in
    let d : w / 2147483648 * 4 + w / 536870912 % 4 ≡ w / 536870912 = omega arith in
    omega arith

---------------------------------------------------------------------------------------------------------------------------------------
-- A whole type

-- (a) a type read where it was laid out, whatever follows
module _ (big : Bool) (n f t : ℕ) (b : Body) (s : List ℕ) (h : Fits (described n f t b)) where
  head_name : word big (encode big (described n f t b) ++ s) 0 ≡ n
  unfolding encode word
  head_name = word_again big n (in_bytes big 4 (info_word (vlen_of b) (kind_of b) f) ++ (in_bytes big 4 t ++ (put_body big f b ++ s))) h.0

  info : InfoRead (info_word (vlen_of b) (kind_of b) f) (vlen_of b) (kind_of b) f
  info = info_again (vlen_of b) (kind_of b) f h.2.0 h.2.1.0 h.2.1.1.0

  head_info : word big (encode big (described n f t b) ++ s) 4 ≡ info_word (vlen_of b) (kind_of b) f
  unfolding encode word
  head_info = word_again big (info_word (vlen_of b) (kind_of b) f) (in_bytes big 4 t ++ (put_body big f b ++ s)) info.small

  head_third : word big (encode big (described n f t b) ++ s) 8 ≡ t
  unfolding encode word
  head_third = word_again big t (put_body big f b ++ s) h.1

  head_rest : drop 12 (encode big (described n f t b) ++ s) ≡ put_body big f b ++ s
  unfolding encode
  head_rest = refl

  head_vlen : vlen_at big (encode big (described n f t b) ++ s) ≡ vlen_of b
  head_vlen = ap (λ (w : ℕ). w % 65536) head_info ∙ info.vlen

  head_kind : kind_at big (encode big (described n f t b) ++ s) ≡ kind_of b
  head_kind = ap (λ (w : ℕ). w / 16777216 % 32) head_info ∙ info.knd

  head_flag : flag_at big (encode big (described n f t b) ++ s) ≡ f
  head_flag = ap (λ (w : ℕ). w / 2147483648) head_info ∙ info.flag

  type_again' : decode big (encode big (described n f t b) ++ s) ≡ described n f t b
  unfolding decode
  type_again' =
      rw (head_name, head_flag, head_third, head_kind, head_vlen, head_rest) (ap (described n f t) (body_again big f b s h.3))

  type_long : length (encode big (described n f t b)) ≡ 12 + length (put_body big f b)
  unfolding encode
  type_long = omega arith

  type_size' : size_at big (encode big (described n f t b) ++ s) ≡ length (encode big (described n f t b))
  type_size' = rw (head_kind, head_vlen, ← (body_long big) f b) (sym type_long)

  room : length (encode big (described n f t b)) ≤ length (encode big (described n f t b) ++ s)
  room = simp length-append (omega arith)

  type_sound' : sound big (encode big (described n f t b) ++ s) ≡ true
  unfolding sound
  type_sound' =
      and_from _ _
      (le-leb 12 (length (encode big (described n f t b) ++ s)) (omega (arith, room, type_long)))
      (and_from _ _
      (ap (λ (k : ℕ). known (shape (kind k))) head_kind ∙ body_known b)
      (and_from _ _
      (eq-eqb (word big (encode big (described n f t b) ++ s) 4 / 65536 % 256) 0 (ap (λ (w : ℕ). w / 65536 % 256) head_info ∙ info.free1))
      (and_from _ _
      (eq-eqb (word big (encode big (described n f t b) ++ s) 4 / 536870912 % 4) 0 (ap (λ (w : ℕ). w / 536870912 % 4) head_info ∙ info.free2))
      (le-leb (size_at big (encode big (described n f t b) ++ s)) (length (encode big (described n f t b) ++ s)) (rw type_size' room)))))

pub type_again : (big : Bool) (t : Described) (s : List ℕ) → Fits t → decode big (encode big t ++ s) ≡ t
type_again big (described n f t b) s h = type_again' big n f t b s h

pub type_size : (big : Bool) (t : Described) (s : List ℕ) → Fits t → size_at big (encode big t ++ s) ≡ length (encode big t)
type_size big (described n f t b) s h = type_size' big n f t b s h

pub type_sound : (big : Bool) (t : Described) (s : List ℕ) → Fits t → sound big (encode big t ++ s) ≡ true
type_sound big (described n f t b) s h = type_sound' big n f t b s h

pub type_twelve : (big : Bool) (t : Described) (s : List ℕ) → Fits t → 12 ≤ length (encode big t)
type_twelve big (described n f t b) s h = omega (arith, type_long big n f t b s h)

-- (b) a type laid out where it was read
pub record Sound (big : Bool) (r : List ℕ) : Type 0 where
  pub head : 12 ≤ length r
  pub is_known : known (shape (kind (kind_at big r))) ≡ true
  pub unused1 : word big r 4 / 65536 % 256 ≡ 0
  pub unused2 : word big r 4 / 536870912 % 4 ≡ 0
  pub rest : size_at big r ≤ length r

pub sound_parts : (big : Bool) (r : List ℕ) → sound big r ≡ true → Sound big r
unfolding sound
sound_parts big r h =
    let h1 = second_so (leb 12 (length r)) _ h in
    let h2 = second_so (known (shape (kind (kind_at big r)))) _ h1 in
    let h3 = second_so (eqb (word big r 4 / 65536 % 256) 0) _ h2 in
    let h4 = second_so (eqb (word big r 4 / 536870912 % 4) 0) _ h3 in
    record {
      head = leb-true 12 (length r) (first_so (leb 12 (length r)) _ h);
      is_known = first_so (known (shape (kind (kind_at big r)))) _ h1;
      unused1 = eqb-true (word big r 4 / 65536 % 256) 0 (first_so (eqb (word big r 4 / 65536 % 256) 0) _ h2);
      unused2 = eqb-true (word big r 4 / 536870912 % 4) 0 (first_so (eqb (word big r 4 / 536870912 % 4) 0) _ h3);
      rest = leb-true (size_at big r) (length r) h4;
    }

module _ (big : Bool) (r : List ℕ) (h : Bytes r) (p : Sound big r) where
  kind_back : kind_of (get_body big (kind (kind_at big r)) (flag_at big r) (vlen_at big r) (drop 12 r)) ≡ kind_at big r
  kind_back = body_kind big (kind (kind_at big r)) (flag_at big r) (vlen_at big r) (drop 12 r) p.is_known ∙ number_kind (kind_at big r) p.is_known

  vlen_back : vlen_of (get_body big (kind (kind_at big r)) (flag_at big r) (vlen_at big r) (drop 12 r)) ≡ vlen_at big r
  vlen_back = body_vlen big (kind (kind_at big r)) (flag_at big r) (vlen_at big r) (drop 12 r)

  info_same : info_word (vlen_of (get_body big (kind (kind_at big r)) (flag_at big r) (vlen_at big r) (drop 12 r))) (kind_of (get_body big (kind (kind_at big r)) (flag_at big r) (vlen_at big r) (drop 12 r))) (flag_at big r) ≡ word big r 4
  info_same = rw (vlen_back, kind_back) (info_back (word big r 4) p.unused1 p.unused2)

  rest_same : put_body big (flag_at big r) (get_body big (kind (kind_at big r)) (flag_at big r) (vlen_at big r) (drop 12 r)) ++ drop (size_at big r) r ≡ drop 12 r
  rest_same =
      let l : extra (kind (kind_at big r)) (vlen_at big r) ≤ length (drop 12 r) = simp length-drop (omega (arith, p.rest)) in
      rw (← drop-drop (extra (kind (kind_at big r)) (vlen_at big r)) 12 r)
      (body_back big (kind (kind_at big r)) (flag_at big r) (vlen_at big r) (drop 12 r) (bytes_drop r 12 h) l)

  pub type_back : encode big (decode big r) ++ drop (size_at big r) r ≡ r
  unfolding decode encode
  type_back = step ∙ word_back3 big r h p.head
    where
      step : encode big (decode big r) ++ drop (size_at big r) r ≡ in_bytes big 4 (word big r 0) ++ (in_bytes big 4 (word big r 4) ++ (in_bytes big 4 (word big r 8) ++ drop 12 r))
      step = λ i. in_bytes big 4 (word big r 0) ++ (in_bytes big 4 (info_same i) ++ (in_bytes big 4 (word big r 8) ++ rest_same i))

  pub type_fits : Fits (decode big r)
  unfolding decode
  type_fits =
      (word_small big r 0 h, word_small big r 8 h, (rw vlen_back (omega arith), (rw kind_back (omega arith), (omega (arith, word_small big r 4 h), tt))), body_fits big (kind (kind_at big r)) (flag_at big r) (vlen_at big r) (drop 12 r) (bytes_drop r 12 h))

---------------------------------------------------------------------------------------------------------------------------------------
-- The names: the test passes exactly where the type read has its names in the table

module _ (big : Bool) {E : Type 0} (sl : ℕ) (P : E → Type 0) (get : List ℕ → E) (size : ℕ) (is : (r : List ℕ) → P (get r) ≡ (word big r 0 < sl)) where
  all_named_lem : (n : ℕ) (e : List ℕ) → all_named big sl size n e ≡ true → Every P (get_each get size n e)
  all_named_lem zero e h = tt
  all_named_lem (suc n) e h =
      (rw (is e) (ltb-true (word big e 0) sl (first_so (ltb (word big e 0) sl) _ h)), all_named_lem n (drop size e) (second_so (ltb (word big e 0) sl) _ h))

  named_all : (n : ℕ) (e : List ℕ) → Every P (get_each get size n e) → all_named big sl size n e ≡ true
  named_all zero e h = refl
  named_all (suc n) e h =
      let l : word big e 0 < sl = rw (is e) at h.0 in
      and_from _ _ (lt-ltb (word big e 0) sl l) (named_all n (drop size e) h.1)

member_named : (big : Bool) (sl f : ℕ) (r : List ℕ) → NamedMember sl (get_member big f r) ≡ (word big r 0 < sl)
member_named big sl zero r = refl
member_named big sl (suc f) r = refl

body_names : (big : Bool) (sl : ℕ) (k : Kind) (f v : ℕ) (e : List ℕ) → entries_named big sl k v e ≡ true → NamedBody sl (get_body big k f v e)
body_names big sl none f v e h = tt
body_names big sl INT f v e h = tt
body_names big sl PTR f v e h = tt
body_names big sl ARRAY f v e h = tt
body_names big sl STRUCT f v e h = all_named_lem big sl (NamedMember sl) (get_member big f) 12 (member_named big sl f) v e h
body_names big sl UNION f v e h = all_named_lem big sl (NamedMember sl) (get_member big f) 12 (member_named big sl f) v e h
body_names big sl ENUM f v e h = all_named_lem big sl (NamedEnumerator sl) (get_enumerator big) 8 (λ r. refl) v e h
body_names big sl FWD f v e h = tt
body_names big sl TYPEDEF f v e h = tt
body_names big sl VOLATILE f v e h = tt
body_names big sl CONST f v e h = tt
body_names big sl RESTRICT f v e h = tt
body_names big sl FUNC f v e h = tt
body_names big sl FUNC-PROTO f v e h = all_named_lem big sl (NamedParam sl) (get_param big) 8 (λ r. refl) v e h
body_names big sl VAR f v e h = tt
body_names big sl DATASEC f v e h = tt
body_names big sl FLOAT f v e h = tt
body_names big sl DECL-TAG f v e h = tt
body_names big sl TYPE-TAG f v e h = tt
body_names big sl ENUM64 f v e h = all_named_lem big sl (NamedEnumerator64 sl) (get_enumerator64 big) 12 (λ r. refl) v e h

names_body : (big : Bool) (sl : ℕ) (k : Kind) (f v : ℕ) (e : List ℕ) → NamedBody sl (get_body big k f v e) → entries_named big sl k v e ≡ true
names_body big sl none f v e h = refl
names_body big sl INT f v e h = refl
names_body big sl PTR f v e h = refl
names_body big sl ARRAY f v e h = refl
names_body big sl STRUCT f v e h = named_all big sl (NamedMember sl) (get_member big f) 12 (member_named big sl f) v e h
names_body big sl UNION f v e h = named_all big sl (NamedMember sl) (get_member big f) 12 (member_named big sl f) v e h
names_body big sl ENUM f v e h = named_all big sl (NamedEnumerator sl) (get_enumerator big) 8 (λ r. refl) v e h
names_body big sl FWD f v e h = refl
names_body big sl TYPEDEF f v e h = refl
names_body big sl VOLATILE f v e h = refl
names_body big sl CONST f v e h = refl
names_body big sl RESTRICT f v e h = refl
names_body big sl FUNC f v e h = refl
names_body big sl FUNC-PROTO f v e h = named_all big sl (NamedParam sl) (get_param big) 8 (λ r. refl) v e h
names_body big sl VAR f v e h = refl
names_body big sl DATASEC f v e h = refl
names_body big sl FLOAT f v e h = refl
names_body big sl DECL-TAG f v e h = refl
names_body big sl TYPE-TAG f v e h = refl
names_body big sl ENUM64 f v e h = named_all big sl (NamedEnumerator64 sl) (get_enumerator64 big) 12 (λ r. refl) v e h

pub type_names : (big : Bool) (sl : ℕ) (r : List ℕ) → named big sl r ≡ true → Named sl (decode big r)
unfolding named decode
type_names big sl r h =
    (ltb-true (word big r 0) sl (first_so (ltb (word big r 0) sl) _ h), body_names big sl (kind (kind_at big r)) (flag_at big r) (vlen_at big r) (drop 12 r) (second_so (ltb (word big r 0) sl) _ h))

pub names_type : (big : Bool) (sl : ℕ) (r : List ℕ) → Named sl (decode big r) → named big sl r ≡ true
unfolding named decode
names_type big sl r h =
    and_from _ _ (lt-ltb (word big r 0) sl h.0) (names_body big sl (kind (kind_at big r)) (flag_at big r) (vlen_at big r) (drop 12 r) h.1)
