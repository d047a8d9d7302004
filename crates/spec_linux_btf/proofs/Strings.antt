-- The string area (2.1): read as it was laid out, and laid out as it was read. Assumes nothing.
use Prim.Native.Nat.{ℕ, suc, zero-le, suc-le-suc, ◌<◌, ◌≤◌}
use mathlib.Core.Path.{◌≡◌, refl, ap, ◌∙◌, sym}
use mathlib.Core.Bool.{Bool, true, false, true≢false}
use mathlib.Core.List.{List, [], ◌∷◌, ◌++◌}
use native.Mathlib.Omega.{arith}
use lib.ListN.{length}
use lib.Dec.{leb, eqb}
use borrow.Author.Tests.{le-leb, leb-true, eqb-true, eqb-false, ne_eqb, eq-eqb}
use Rattle.std.specs.Cmp.{first_so, second_so}
use Rattle.std.proofs.lemmas.Bool.{and_from}
use Rattle.spec_linux_btf.specs.Documentation.{Every, encode_strings, encode_table, NonzeroAscii}
use Rattle.spec_linux_btf.specs.Section.{prepend, split_strings, last_of, all_ascii, strings_sound}

split_zero : (x : ℕ) (xs : List ℕ) → eqb x 0 ≡ true → split_strings (x ∷ xs) ≡ [] ∷ split_strings xs
unfolding split_strings
split_zero x xs e = rw (e, split_strings)

split_other : (x : ℕ) (xs : List ℕ) → eqb x 0 ≡ false → split_strings (x ∷ xs) ≡ prepend x (split_strings xs)
unfolding split_strings
split_other x xs e = rw (e, split_strings)

-- (a)
split_one : (s r : List ℕ) → Every NonzeroAscii s → split_strings (s ++ (0 ∷ r)) ≡ s ∷ split_strings r
split_one [] r h = split_zero 0 r refl
split_one (x ∷ s) r h =
    let n : eqb x 0 ≡ false = ne_eqb x 0 (λ e. omega (arith, h.0.0)) in
    split_other x (s ++ (0 ∷ r)) n ∙ ap (prepend x) (split_one s r h.1)

pub split_again : (ss : List (List ℕ)) → Every (Every NonzeroAscii) ss → split_strings (encode_strings ss) ≡ ss
unfolding encode_strings split_strings
split_again [] h = refl
split_again (s ∷ ss) h = split_one s (encode_strings ss) h.0 ∙ ap (λ (l : List (List ℕ)). s ∷ l) (split_again ss h.1)

last_one : (d : ℕ) (s r : List ℕ) → last_of d (s ++ (0 ∷ r)) ≡ last_of 0 r
last_one d [] r = refl
last_one d (x ∷ s) r = last_one x s r

last_all : (ss : List (List ℕ)) → last_of 0 (encode_strings ss) ≡ 0
unfolding encode_strings
last_all [] = refl
last_all (s ∷ ss) = last_one 0 s (encode_strings ss) ∙ last_all ss

ascii_one : (s r : List ℕ) → Every NonzeroAscii s → all_ascii r ≡ true → all_ascii (s ++ (0 ∷ r)) ≡ true
ascii_one [] r h k = k
ascii_one (x ∷ s) r h k = and_from _ _ (le-leb x 127 h.0.1) (ascii_one s r h.1 k)

ascii_all : (ss : List (List ℕ)) → Every (Every NonzeroAscii) ss → all_ascii (encode_strings ss) ≡ true
unfolding encode_strings
ascii_all [] h = refl
ascii_all (s ∷ ss) h = ascii_one s (encode_strings ss) h.0 (ascii_all ss h.1)

pub strings_pass : (ss : List (List ℕ)) → Every (Every NonzeroAscii) ss → strings_sound (encode_table ss) ≡ true
unfolding strings_sound encode_strings
strings_pass ss h =
    and_from _ _ (le-leb 1 (suc (length (encode_strings ss))) (suc-le-suc zero-le)) (and_from _ _ refl (and_from _ _ (eq-eqb (last_of 0 (encode_strings ss)) 0 (last_all ss)) (ascii_all ss h)))

-- (b)
pushed : (x : ℕ) (xs : List ℕ) (l : List (List ℕ)) → encode_strings l ≡ xs → last_of x xs ≡ 0 → eqb x 0 ≡ false → encode_strings (prepend x l) ≡ x ∷ xs
unfolding encode_strings
pushed x xs [] e z n =
    let k : last_of x [] ≡ 0 = ap (last_of x) e ∙ z in
    absurd (eqb-false x 0 n k)
pushed x xs (s ∷ l) e z n = ap (λ (r : List ℕ). x ∷ r) e

back_step : (x : ℕ) (xs : List ℕ) → last_of x xs ≡ 0 → encode_strings (split_strings xs) ≡ xs → (t : Bool) → eqb x 0 ≡ t → encode_strings (split_strings (x ∷ xs)) ≡ x ∷ xs
unfolding encode_strings
back_step x xs z ih true e = rw (split_zero x xs e) (λ i. sym (eqb-true x 0 e) i ∷ ih i)
back_step x xs z ih false e = rw (split_other x xs e) (pushed x xs (split_strings xs) ih z e)

split_back : (d : ℕ) (xs : List ℕ) → last_of d xs ≡ 0 → encode_strings (split_strings xs) ≡ xs
unfolding encode_strings split_strings
split_back d [] z = refl
split_back d (x ∷ xs) z = back_step x xs z (split_back x xs z) (eqb x 0) refl

push_letters : (x : ℕ) (l : List (List ℕ)) → NonzeroAscii x → Every (Every NonzeroAscii) l → Every (Every NonzeroAscii) (prepend x l)
push_letters x [] h k = ((h, tt), tt)
push_letters x (s ∷ l) h k = ((h, k.0), k.1)

letter_step : (x : ℕ) (xs : List ℕ) → x ≤ 127 → Every (Every NonzeroAscii) (split_strings xs) → (t : Bool) → eqb x 0 ≡ t → Every (Every NonzeroAscii) (split_strings (x ∷ xs))
letter_step x xs l ih true e = rw (split_zero x xs e) (tt, ih)
letter_step x xs l ih false e =
    let p : 0 < x = omega (arith, eqb-false x 0 e) in
    rw (split_other x xs e) (push_letters x (split_strings xs) (p, l) ih)

split_letters : (xs : List ℕ) → all_ascii xs ≡ true → Every (Every NonzeroAscii) (split_strings xs)
unfolding split_strings
split_letters [] h = tt
split_letters (x ∷ xs) h = letter_step x xs (leb-true x 127 (first_so (leb x 127) _ h)) (split_letters xs (second_so (leb x 127) _ h)) (eqb x 0) refl

-- what passes is a null string and then null-terminated strings, and exactly those that are read in it
pub strings_back : (a : List ℕ) → strings_sound a ≡ true → (ss : List (List ℕ)) × Every (Every NonzeroAscii) ss × (encode_table ss ≡ a)
unfolding strings_sound encode_strings
strings_back [] h = absurd (true≢false (sym h))
strings_back (x ∷ xs) h =
    let h1 = second_so (leb 1 (length (x ∷ xs))) _ h in
    let z : x ≡ 0 = eqb-true x 0 (first_so (eqb x 0) _ h1) in
    let h2 = second_so (eqb x 0) _ h1 in
    let l : last_of x xs ≡ 0 = eqb-true (last_of x xs) 0 (first_so (eqb (last_of x xs) 0) _ h2) in
    let c = second_so (eqb (last_of x xs) 0) _ h2 in
    let e = split_back x xs l in
    (split_strings xs, split_letters xs (second_so (leb x 127) _ c), (λ i. sym z i ∷ e i))

pub strings_once : (ss us : List (List ℕ)) → Every (Every NonzeroAscii) ss → Every (Every NonzeroAscii) us → encode_table ss ≡ encode_table us → ss ≡ us
strings_once ss us f g e =
    let t : ([] ∷ ss) ≡ ([] ∷ us) = sym (split_again ([] ∷ ss) (tt, f)) ∙ ap split_strings e ∙ split_again ([] ∷ us) (tt, g) in
    cc
