-- A word read where it was laid out, and laid out where it was read. Assumes nothing.
use Prim.Native.Nat.{ℕ, ◌+◌, ◌*◌, ◌/◌, ◌%◌, ◌<◌, ◌≤◌}
use mathlib.Core.Path.{◌≡◌, ap, ◌∙◌}
use mathlib.Core.Bool.{Bool, true, false}
use mathlib.Core.List.{List, [], ◌∷◌, ◌++◌}
use native.Mathlib.Omega.{arith}
use native.Mathlib.Nat.{add_assoc}
use lib.ListN.{length, drop, length-drop}
use lib.Seq.{get_or-drop, drop-drop}
use Rattle.spec_bytes.proofs.words.Laws.{lower}
use Rattle.spec_linux_btf.specs.Documentation.{in_bytes}
use Rattle.spec_linux_btf.specs.Reading.{word, Bytes}

-- the word at k of the bytes from p on is the word at p + k
pub word_drop : (big : Bool) (b : List ℕ) (p k : ℕ) → word big (drop p b) k ≡ word big b (p + k)
unfolding word
word_drop big b p k = simp (get_or-drop, add_assoc)

pub bytes_drop : (b : List ℕ) (p : ℕ) → Bytes b → Bytes (drop p b)
bytes_drop b p h i = rw get_or-drop (h (p + i))

pub word_small : (big : Bool) (b : List ℕ) (p : ℕ) → Bytes b → word big b p < 4294967296
unfolding word
word_small true b p h = omega (arith, h p, h (p + 1), h (p + 2), h (p + 3))
word_small false b p h = omega (arith, h p, h (p + 1), h (p + 2), h (p + 3))

pub word_again : (big : Bool) (v : ℕ) (s : List ℕ) → v < 4294967296 → word big (in_bytes big 4 v ++ s) 0 ≡ v
unfolding word
word_again true v s h =
    let a : v / 256 * 256 + v % 256 ≡ v = omega arith in
    let b : v / 65536 * 256 + v / 256 % 256 ≡ v / 256 = omega arith in
    let c : v / 16777216 * 256 + v / 65536 % 256 ≡ v / 65536 = omega arith in
    let d : v / 16777216 % 256 ≡ v / 16777216 = omega arith in
    let e : v / 1 % 256 ≡ v % 256 = omega arith in
    omega arith
word_again false v s h = omega arith

pub upper : (a q : ℕ) → a < 256 → (a + q * 256) / 256 ≡ q
upper a q h = omega arith

-- the digits of a number, the lowest first
record Digits (w a b c d : ℕ) : Type 0 where
  digit0 : w % 256 ≡ a
  digit1 : w / 256 % 256 ≡ b
  digit2 : w / 256 / 256 % 256 ≡ c
  digit3 : w / 256 / 256 / 256 % 256 ≡ d

digits : (a b c d : ℕ) → a < 256 → b < 256 → c < 256 → d < 256 → Digits (a + b * 256 + c * 65536 + d * 16777216) a b c d
digits a b c d ha hb hc hd =
    let w : ℕ = a + b * 256 + c * 65536 + d * 16777216 in
    let w0 : w ≡ a + (b + (c + d * 256) * 256) * 256 = omega arith in
    let w1 : w / 256 ≡ b + (c + d * 256) * 256 = ap (λ (n : ℕ). n / 256) w0 ∙ upper a _ ha in
    let w2 : w / 256 / 256 ≡ c + d * 256 = ap (λ (n : ℕ). n / 256) w1 ∙ upper b _ hb in
    let w3 : w / 256 / 256 / 256 ≡ d = ap (λ (n : ℕ). n / 256) w2 ∙ upper c d hc in
    record {
      digit0 = ap (λ (n : ℕ). n % 256) w0 ∙ lower a _ ha;
      digit1 = ap (λ (n : ℕ). n % 256) w1 ∙ lower b _ hb;
      digit2 = ap (λ (n : ℕ). n % 256) w2 ∙ lower c d hc;
      digit3 = ap (λ (n : ℕ). n % 256) w3 ∙ omega arith;
    }

pub word_back : (big : Bool) (r : List ℕ) → Bytes r → 4 ≤ length r → in_bytes big 4 (word big r 0) ++ drop 4 r ≡ r
unfolding word
word_back big [] h n = absurd (omega arith)
word_back big (a ∷ []) h n = absurd (omega arith)
word_back big (a ∷ b ∷ []) h n = absurd (omega arith)
word_back big (a ∷ b ∷ c ∷ []) h n = absurd (omega arith)
word_back true (a ∷ b ∷ c ∷ d ∷ s) h n =
    let g = digits d c b a (h 3) (h 2) (h 1) (h 0) in
    let w : ℕ = d + c * 256 + b * 65536 + a * 16777216 in
    let e0 : w / 16777216 % 256 ≡ a = ap (λ (n : ℕ). n % 256) (by_bytes3 w) ∙ g.digit3 in
    let e1 : w / 65536 % 256 ≡ b = ap (λ (n : ℕ). n % 256) (by_bytes2 w) ∙ g.digit2 in
    let e3 : w / 1 % 256 ≡ d = ap (λ (n : ℕ). n % 256) (by_one w) ∙ g.digit0 in
    λ i. e0 i ∷ e1 i ∷ g.digit1 i ∷ e3 i ∷ s
  where
    by_bytes3 : (w : ℕ) → w / 16777216 ≡ w / 256 / 256 / 256
    by_bytes3 w = omega arith

    by_bytes2 : (w : ℕ) → w / 65536 ≡ w / 256 / 256
    by_bytes2 w = omega arith

    by_one : (w : ℕ) → w / 1 ≡ w
    by_one w = omega arith
word_back false (a ∷ b ∷ c ∷ d ∷ s) h n =
    let g = digits a b c d (h 0) (h 1) (h 2) (h 3) in
    λ i. g.digit0 i ∷ g.digit1 i ∷ g.digit2 i ∷ g.digit3 i ∷ s

-- two words, three words
pub word_back2 : (big : Bool) (r : List ℕ) → Bytes r → 8 ≤ length r → in_bytes big 4 (word big r 0) ++ (in_bytes big 4 (word big r 4) ++ drop 8 r) ≡ r
word_back2 big r h n = step ∙ word_back big r h (omega arith)
  where
    inner : in_bytes big 4 (word big r 4) ++ drop 8 r ≡ drop 4 r
    inner =
        let l : 4 ≤ length (drop 4 r) = simp length-drop (omega arith) in
        let e : in_bytes big 4 (word big (drop 4 r) 0) ++ drop 4 (drop 4 r) ≡ drop 4 r = word_back big (drop 4 r) (bytes_drop r 4 h) l in
        rw (word_drop big r 4 0, drop-drop 4 4 r) at e

    step : in_bytes big 4 (word big r 0) ++ (in_bytes big 4 (word big r 4) ++ drop 8 r) ≡ in_bytes big 4 (word big r 0) ++ drop 4 r
    step = ap (λ (l : List ℕ). in_bytes big 4 (word big r 0) ++ l) inner

pub word_back3 : (big : Bool) (r : List ℕ) → Bytes r → 12 ≤ length r → in_bytes big 4 (word big r 0) ++ (in_bytes big 4 (word big r 4) ++ (in_bytes big 4 (word big r 8) ++ drop 12 r)) ≡ r
word_back3 big r h n = step ∙ word_back big r h (omega arith)
  where
    inner : in_bytes big 4 (word big r 4) ++ (in_bytes big 4 (word big r 8) ++ drop 12 r) ≡ drop 4 r
    inner =
        let l : 8 ≤ length (drop 4 r) = simp length-drop (omega arith) in
        let e : in_bytes big 4 (word big (drop 4 r) 0) ++ (in_bytes big 4 (word big (drop 4 r) 4) ++ drop 8 (drop 4 r)) ≡ drop 4 r = word_back2 big (drop 4 r) (bytes_drop r 4 h) l in
        rw (word_drop big r 4 0, word_drop big r 4 4, drop-drop 8 4 r) at e

    step : in_bytes big 4 (word big r 0) ++ (in_bytes big 4 (word big r 4) ++ (in_bytes big 4 (word big r 8) ++ drop 12 r)) ≡ in_bytes big 4 (word big r 0) ++ drop 4 r
    step = ap (λ (l : List ℕ). in_bytes big 4 (word big r 0) ++ l) inner
