-- Laws of the table of words: its parts copied into the text and looked at there, and that it is small and has each word once. Assumes nothing.
use Prim.Native.Nat.{ℕ, ◌+◌, ◌-◌, ◌<◌, ◌≤◌}
use mathlib.Core.Path.{◌≡◌, refl, ap, ap₂, ◌∙◌, sym}
use mathlib.Core.List.{List, ◌++◌, map, append_assoc}
use native.Mathlib.Omega.{arith}
use native.Mathlib.Numerals.{add-one}
use lib.ListN.{length, get_or, set, take, drop, replicate, length-append, length-drop}
use lib.Seq.{length-take-le, take-take, take-add, take-append-le, take-append-add, drop-append-add, drop-drop, take_at, paste, paste-suc, get_or-drop}
use Rattle.std.specs.Prelude.{Ok, Err}
use Rattle.spec_bytes.specs.declared.refusal.Refusal.TheVariants.{TextFull}
use Rattle.spec_bytes.proofs.text.TextLaws.{put_fits, put_full, whole_is, went}
use Rattle.spec_bytes.specs.text.Text.{whole, bytes}
use Rattle.spec_bytes.specs.text.Placed.{Placed, done, put_out, place, put_text}
use Rattle.base_keywords.specs.table.Fixed.{part, copied, table, fixed_words, occurrences, starts}

-- ---- the code's steps

-- a byte more is copied
pub copied_turn : (t u : List ℕ) (at : ℕ) (s : List ℕ) (start k : ℕ) → at + k < length t → start + k < length s → u ≡ paste t at (drop start s) k
    → set u (at + k) (get_or s (start + k) 0) ≡ paste t at (drop start s) (k + 1)
copied_turn t u at s start k h l e =
    let same : get_or (drop start s) k 0 ≡ get_or s (start + k) 0 = get_or-drop start s k 0 in
    rw (e, sym same, add-one k) (paste-suc t at (drop start s) k 0 h (omega (arith, length-drop start s)))

pub copied_all : (t u : List ℕ) (at : ℕ) (s : List ℕ) (start k n : ℕ) → start + n ≤ length s → k ≡ n → u ≡ paste t at (drop start s) k → u ≡ copied t at s start n
unfolding copied
copied_all t u at s start k n h same e =
    rw same at e ∙ ap (λ (j : ℕ). take at t ++ part s start n ++ drop (at + j) t) (sym (length-take-le n (drop start s) (omega (arith, length-drop start s))))

-- two copies of k bytes, the second m further on, of which the first may cover a part
module _ (t : List ℕ) (at : ℕ) (s : List ℕ) (start k m : ℕ) (h : m ≤ k) (room : at + (m + k) ≤ length t) (fits : start + (m + k) ≤ length s) where
  first : List ℕ
  first = part s start k

  second : List ℕ
  second = part s (start + m) k

  all : List ℕ
  all = part s start (m + k)

  first_length : length first ≡ k
  unfolding first
  first_length = length-take-le k (drop start s) (omega (arith, length-drop start s))

  second_length : length second ≡ k
  unfolding second
  second_length = length-take-le k (drop (start + m) s) (omega (arith, length-drop (start + m) s))

  all_length : length all ≡ m + k
  unfolding all
  all_length = length-take-le (m + k) (drop start s) (omega (arith, length-drop start s))

  head_length : length (take at t) ≡ at
  head_length = length-take-le at t (omega arith)

  front_length : length (take at t ++ first) ≡ at + k
  front_length = length-append (take at t) first ∙ ap₂ (λ (x y : ℕ). x + y) head_length first_length

  parts : take m first ++ second ≡ all
  unfolding first second all
  parts =
      ap₂ (λ (x y : List ℕ). x ++ y) (take-take m k (drop start s) h) (ap (take k) (sym (drop-drop m start s)))
      ∙ sym (take-add m k (drop start s))

  front : take (at + m) (place t at first) ≡ take at t ++ take m first
  front =
      take-append-le (at + m) (take at t ++ first) (drop (at + length first) t) (omega (arith, front_length))
      ∙ ap (λ (x : ℕ). take (x + m) (take at t ++ first)) (sym head_length)
      ∙ take-append-add (take at t) first m

  back : drop (at + m + length second) (place t at first) ≡ drop (at + length all) t
  back =
      let e₁ : at + m + length second ≡ length (take at t ++ first) + m = omega (arith, second_length, front_length) in
      let e₂ : at + length first + m ≡ at + length all = omega (arith, first_length, all_length) in
      ap (λ (x : ℕ). drop x (place t at first)) e₁
      ∙ drop-append-add (take at t ++ first) (drop (at + length first) t) m
      ∙ drop-drop m (at + length first) t
      ∙ ap (λ (x : ℕ). drop x t) e₂

  over : place (place t at first) (at + m) second ≡ place t at all
  over =
      ap₂ (λ (x y : List ℕ). x ++ second ++ y) front back
      ∙ ap (λ (x : List ℕ). x ++ drop (at + length all) t) (append_assoc (take at t) (take m first) second)
      ∙ ap (λ (x : List ℕ). take at t ++ x ++ drop (at + length all) t) parts

  twice : copied (copied t at s start k) (at + m) s (start + m) k ≡ copied t at s start (m + k)
  unfolding copied first second all
  twice = over

-- the first k bytes of n and the last k
pub copied_over : (t : List ℕ) (at : ℕ) (s : List ℕ) (start k n : ℕ) (u v : List ℕ) → k ≤ n → n ≤ k + k → at + n ≤ length t → start + n ≤ length s
    → u ≡ copied t at s start k → v ≡ copied u (at + (n - k)) s (start + (n - k)) k → v ≡ copied t at s start n
copied_over t at s start k n u v l h room fits e₁ e₂ =
    let q : n - k + k ≡ n = omega arith in
    e₂
    ∙ ap (λ (w : List ℕ). copied w (at + (n - k)) s (start + (n - k)) k) e₁
    ∙ twice t at s start k (n - k) (omega arith) (omega arith) (omega arith)
    ∙ ap (copied t at s start) q

-- no room for a part
pub part_none : (t : List ℕ) (at : ℕ) (s : List ℕ) (start n : ℕ) → length t - at < n → start + n ≤ length s
    → put_out (Err TextFull) t ≡ put_text t (Ok at) (whole (part s start n))
part_none t at s start n h fits =
    let e : length (part s start n) ≡ n = length-take-le n (drop start s) (omega (arith, length-drop start s)) in
    put_full t at (part s start n) (omega arith)

-- a part copied is that part written
pub copied_put : (t : List ℕ) (at : ℕ) (s : List ℕ) (start n : ℕ) (u : List ℕ) → at + n ≤ length t → start + n ≤ length s
    → u ≡ copied t at s start n → put_out (Ok (at + n)) u ≡ put_text t (Ok at) (whole (part s start n))
unfolding copied bytes put_out
copied_put t at s start n u room fits e =
    let l : length (part s start n) ≡ n = length-take-le n (drop start s) (omega (arith, length-drop start s)) in
    let q : at + n ≡ at + length (part s start n) = omega arith in
    ap₂ done e q ∙ sym (put_fits t at (whole (part s start n)) (omega arith) ∙ whole_is t at (part s start n))

-- a part written at a slice's start stands there
pub put_back : (t s : List ℕ) (start n : ℕ) (r : Placed) (u : List ℕ) → n ≤ length t → start + n ≤ length s
    → put_out r u ≡ put_text t (Ok 0) (whole (part s start n)) → take n u ≡ part s start n
unfolding bytes
put_back t s start n r u room fits e =
    let l : length (part s start n) ≡ n = length-take-le n (drop start s) (omega (arith, length-drop start s)) in
    let w = went u r (place t 0 (part s start n)) (0 + length (part s start n)) (e ∙ put_fits t 0 (whole (part s start n)) (omega arith) ∙ whole_is t 0 (part s start n)) in
    ap (take n) w.0 ∙ take_at (part s start n) (drop (0 + length (part s start n)) t) n l

-- ---- the table

-- "in one table of at most 512 bytes"
pub table_small : length table ≤ 512
table_small = omega arith

-- "store each fixed word of the text once"
pub each_once : map (λ (w : List ℕ). occurrences w table) fixed_words ≡ replicate (length fixed_words) 1
unfolding occurrences starts
each_once = refl
