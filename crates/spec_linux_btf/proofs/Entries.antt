-- An entry read where it was laid out and laid out where it was read, and so for any number of them. Assumes nothing.
use Prim.Native.Nat.{ℕ, zero, suc, ◌+◌, ◌*◌, ◌/◌, ◌%◌, ◌<◌, ◌≤◌}
use mathlib.Core.Path.{◌≡◌, refl, ap, ◌∙◌, sym}
use mathlib.Core.Bool.{Bool}
use mathlib.Core.List.{List, [], ◌∷◌, ◌++◌, append_assoc}
use native.Mathlib.Omega.{arith}
use native.Mathlib.Nat.{zero-mul, suc-mul}
use lib.ListN.{length, get_or, drop, length-drop, length-append}
use lib.Seq.{drop-drop, drop_at}
use Rattle.spec_linux_btf.specs.Documentation.{in_bytes, put_each, Every, Member, member, Enumerator, enumerator, Param, param, Secinfo, secinfo, Enumerator64, enumerator64, put_member, put_enumerator, put_param, put_secinfo, put_enumerator64, FitMember, FitEnumerator, FitParam, FitSecinfo, FitEnumerator64}
use Rattle.spec_linux_btf.specs.Reading.{word, Bytes, get_each, get_member, get_enumerator, get_param, get_secinfo, get_enumerator64}
use Rattle.spec_linux_btf.proofs.Words.{word_again, word_small, word_back2, word_back3, bytes_drop}

pub record Laws {E : Type 0} (put : E → List ℕ) (get : List ℕ → E) (size : ℕ) (Fit : E → Type 0) : Type 0 where
  pub long : (e : E) → length (put e) ≡ size
  pub again : (e : E) (s : List ℕ) → Fit e → get (put e ++ s) ≡ e
  pub back : (r : List ℕ) → Bytes r → size ≤ length r → put (get r) ++ drop size r ≡ r
  pub fits : (r : List ℕ) → Bytes r → Fit (get r)

module _ {E : Type 0} (put : E → List ℕ) (get : List ℕ → E) (size : ℕ) (Fit : E → Type 0) (law : Laws put get size Fit) where
  pub all_long : (es : List E) → length (put_each put es) ≡ length es * size
  all_long [] = sym (zero-mul size)
  all_long (e ∷ es) =
      length-append (put e) (put_each put es) ∙ (rw (law.long e, all_long es, suc-mul) (omega arith))

  pub some_again : (es : List E) (s : List ℕ) → Every Fit es → get_each get size (length es) (put_each put es ++ s) ≡ es
  some_again [] s f = refl
  some_again (e ∷ es) s f =
      rw (append_assoc (put e) (put_each put es) s, law.again e (put_each put es ++ s) f.0, drop_at (put e) (put_each put es ++ s) size (law.long e))
      (ap (λ (l : List E). e ∷ l) (some_again es s f.1))

  pub some_length : (n : ℕ) (r : List ℕ) → length (get_each get size n r) ≡ n
  some_length zero r = refl
  some_length (suc n) r = ap suc (some_length n (drop size r))

  pub some_back : (n : ℕ) (r : List ℕ) → Bytes r → n * size ≤ length r → put_each put (get_each get size n r) ++ drop (n * size) r ≡ r
  some_back zero r h l = rw zero-mul
  some_back (suc n) r h l =
      let l' : n * size + size ≤ length r = rw suc-mul at l in
      let m : n * size ≤ length (drop size r) = simp length-drop (omega arith) in
      let e : suc n * size ≡ size + n * size = suc-mul n size ∙ omega arith in
      rw (e, ← drop-drop (n * size) size r, append_assoc (put (get r)) (put_each put (get_each get size n (drop size r))) (drop (n * size) (drop size r)), some_back n (drop size r) (bytes_drop r size h) m)
      (law.back r h (omega arith))

  pub some_fits : (n : ℕ) (r : List ℕ) → Bytes r → Every Fit (get_each get size n r)
  some_fits zero r h = tt
  some_fits (suc n) r h = (law.fits r h, some_fits n (drop size r) (bytes_drop r size h))

  -- entry j is what is read j sizes further on
  pub some_at : (n : ℕ) (r : List ℕ) (j : ℕ) (d : E) → j < n → get_or (get_each get size n r) j d ≡ get (drop (j * size) r)
  some_at zero r j d h = absurd (omega arith)
  some_at (suc n) r zero d h = rw zero-mul
  some_at (suc n) r (suc j) d h =
      let e : suc j * size ≡ size + j * size = suc-mul j size ∙ omega arith in
      some_at n (drop size r) j d (omega arith) ∙ rw (e, ← drop-drop (j * size) size r)

pub enumerators : (big : Bool) → Laws (put_enumerator big) (get_enumerator big) 8 FitEnumerator
unfolding word
enumerators big = record { long = l; again = a; back = b; fits = f }
  where
    l : (e : Enumerator) → length (put_enumerator big e) ≡ 8
    l (enumerator n v) = refl

    a : (e : Enumerator) (s : List ℕ) → FitEnumerator e → get_enumerator big (put_enumerator big e ++ s) ≡ e
    a (enumerator n v) s h = λ i. enumerator (word_again big n (in_bytes big 4 v ++ s) h.0 i) (word_again big v s h.1.0 i)

    b : (r : List ℕ) → Bytes r → 8 ≤ length r → put_enumerator big (get_enumerator big r) ++ drop 8 r ≡ r
    b r h n = word_back2 big r h n

    f : (r : List ℕ) → Bytes r → FitEnumerator (get_enumerator big r)
    f r h = (word_small big r 0 h, (word_small big r 4 h, tt))

pub params : (big : Bool) → Laws (put_param big) (get_param big) 8 FitParam
unfolding word
params big = record { long = l; again = a; back = b; fits = f }
  where
    l : (e : Param) → length (put_param big e) ≡ 8
    l (param n v) = refl

    a : (e : Param) (s : List ℕ) → FitParam e → get_param big (put_param big e ++ s) ≡ e
    a (param n v) s h = λ i. param (word_again big n (in_bytes big 4 v ++ s) h.0 i) (word_again big v s h.1.0 i)

    b : (r : List ℕ) → Bytes r → 8 ≤ length r → put_param big (get_param big r) ++ drop 8 r ≡ r
    b r h n = word_back2 big r h n

    f : (r : List ℕ) → Bytes r → FitParam (get_param big r)
    f r h = (word_small big r 0 h, (word_small big r 4 h, tt))

pub secinfos : (big : Bool) → Laws (put_secinfo big) (get_secinfo big) 12 FitSecinfo
unfolding word
secinfos big = record { long = l; again = a; back = b; fits = f }
  where
    l : (e : Secinfo) → length (put_secinfo big e) ≡ 12
    l (secinfo n v w) = refl

    a : (e : Secinfo) (s : List ℕ) → FitSecinfo e → get_secinfo big (put_secinfo big e ++ s) ≡ e
    a (secinfo n v w) s h =
        λ i. secinfo (word_again big n (in_bytes big 4 v ++ (in_bytes big 4 w ++ s)) h.0 i) (word_again big v (in_bytes big 4 w ++ s) h.1.0 i) (word_again big w s h.1.1.0 i)

    b : (r : List ℕ) → Bytes r → 12 ≤ length r → put_secinfo big (get_secinfo big r) ++ drop 12 r ≡ r
    b r h n = word_back3 big r h n

    f : (r : List ℕ) → Bytes r → FitSecinfo (get_secinfo big r)
    f r h = (word_small big r 0 h, (word_small big r 4 h, (word_small big r 8 h, tt)))

pub enumerators64 : (big : Bool) → Laws (put_enumerator64 big) (get_enumerator64 big) 12 FitEnumerator64
unfolding word
enumerators64 big = record { long = l; again = a; back = b; fits = f }
  where
    l : (e : Enumerator64) → length (put_enumerator64 big e) ≡ 12
    l (enumerator64 n v w) = refl

    a : (e : Enumerator64) (s : List ℕ) → FitEnumerator64 e → get_enumerator64 big (put_enumerator64 big e ++ s) ≡ e
    a (enumerator64 n v w) s h =
        λ i. enumerator64 (word_again big n (in_bytes big 4 v ++ (in_bytes big 4 w ++ s)) h.0 i) (word_again big v (in_bytes big 4 w ++ s) h.1.0 i) (word_again big w s h.1.1.0 i)

    b : (r : List ℕ) → Bytes r → 12 ≤ length r → put_enumerator64 big (get_enumerator64 big r) ++ drop 12 r ≡ r
    b r h n = word_back3 big r h n

    f : (r : List ℕ) → Bytes r → FitEnumerator64 (get_enumerator64 big r)
    f r h = (word_small big r 0 h, (word_small big r 4 h, (word_small big r 8 h, tt)))

pub members : (big : Bool) (flag : ℕ) → Laws (put_member big flag) (get_member big flag) 12 (FitMember flag)
unfolding word
members big flag = record { long = l flag; again = a flag; back = b flag; fits = f flag }
  where
    l : (flag : ℕ) (e : Member) → length (put_member big flag e) ≡ 12
    l zero (member n v w x) = refl
    l (suc g) (member n v w x) = refl

    a : (flag : ℕ) (e : Member) (s : List ℕ) → FitMember flag e → get_member big flag (put_member big flag e ++ s) ≡ e
    a zero (member n v w x) s h =
        λ i.
        member (word_again big n (in_bytes big 4 v ++ (in_bytes big 4 w ++ s)) h.0 i) (word_again big v (in_bytes big 4 w ++ s) h.1 i) (word_again big w s h.2.0 i) (sym h.2.1 i)
    a (suc g) (member n v w x) s h =
        let y : ℕ = w * 1 + (x * 16777216 + 0) in
        let hw : w < 16777216 = h.2.0 in
        let hx : x < 256 = h.2.1.0 in
        let e : word big (in_bytes big 4 y ++ s) 0 ≡ y = word_again big y s (omega arith) in
        let lo : y % 16777216 ≡ w = omega arith in
        let hi : y / 16777216 ≡ x = omega arith in
        let p : word big (in_bytes big 4 y ++ s) 0 % 16777216 ≡ w = ap (λ (n : ℕ). n % 16777216) e ∙ lo in
        let q : word big (in_bytes big 4 y ++ s) 0 / 16777216 ≡ x = ap (λ (n : ℕ). n / 16777216) e ∙ hi in
        λ i. member (word_again big n (in_bytes big 4 v ++ (in_bytes big 4 y ++ s)) h.0 i) (word_again big v (in_bytes big 4 y ++ s) h.1 i) (p i) (q i)

    b : (flag : ℕ) (r : List ℕ) → Bytes r → 12 ≤ length r → put_member big flag (get_member big flag r) ++ drop 12 r ≡ r
    b zero r h n = word_back3 big r h n
    b (suc g) r h n =
        let w : ℕ = word big r 8 in
        let e : w % 16777216 * 1 + (w / 16777216 * 16777216 + 0) ≡ w = omega arith in
        ap (λ (y : ℕ). in_bytes big 4 (word big r 0) ++ (in_bytes big 4 (word big r 4) ++ (in_bytes big 4 y ++ drop 12 r))) e ∙ word_back3 big r h n

    f : (flag : ℕ) (r : List ℕ) → Bytes r → FitMember flag (get_member big flag r)
    f zero r h = (word_small big r 0 h, word_small big r 4 h, (word_small big r 8 h, refl))
    f (suc g) r h = (word_small big r 0 h, word_small big r 4 h, (omega arith, (omega (arith, word_small big r 8 h), tt)))
