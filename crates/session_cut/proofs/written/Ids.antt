-- The new numbers of the code are those of the definition for every id, also past the largest table. Assumes nothing.
use Prim.Native.Nat.{ℕ, zero, suc, ◌/◌, ◌<◌, ◌≤◌}
use native.Mathlib.Omega.{arith}
use mathlib.Core.Path.{◌≡◌, refl, sym, ◌∙◌, ap}
use mathlib.Core.Bool.{Bool, true, false, not, ◌||◌, true≢false}
use mathlib.Core.List.Memᴰ
use mathlib.Core.List.{List, [], ◌∷◌, Memᴰ}
use mathlib.Core.Logic.{◌⊎◌, inl, inr}
use lib.ListN.{length, get_or, set, length-set}
use lib.Dec.{ltb, eqb}
use borrow.Author.Tests.{ltb-true}
use Rattle.std.proofs.lemmas.Bool.{cases_lt}
use Rattle.std.proofs.lemmas.List.{get_or_past}
use Rattle.spec_bytes.specs.words.Words.{words}
use Rattle.spec_linux_btf.specs.Documentation.{Described}
use Rattle.spec_type_table.specs.declared.types.TypeTable.{TypeTable}
use Rattle.btf_open_causes.specs.references.Followed.{type_count, followed_count, followed_id}
use Rattle.spec_cut.specs.section.Kept.{void_type, type_of, Reached, asked, onward, is_decl_tag, Kept, reached, its_tag}
use Rattle.spec_cut.specs.section.Renumbered.{new_id}
use Rattle.spec_cut.specs.section.Section.{any_past}
use Rattle.spec_cut.specs.section.Test.{is_kept}
use Rattle.spec_cut.proofs.section.Numbers.{new_dropped}
use Rattle.spec_cut.proofs.section.Test.{kept_tells}
use Rattle.spec_cut.proofs.section.Claims.{GoodReferences}
use Rattle.spec_cut.specs.reopened.Seen.{SeenFrom}
use Rattle.session_cut_marks.specs.tags.Tags.{tag_on, tagged_at, tagged_to, Numbered, numbered, numbers_in, numbered_at, numbered_to, numbers_of}
use Rattle.session_cut_marks.specs.marks.Marks.{Heap, heap, marks_in, pushed, pushed_to, weight, turned, closed, all_zero, asked as first, reached_marks, ids_of}
use Rattle.session_cut.proofs.numbering.Claims.{ids_are, zero_long}

-- ---- the list keeps its length

pushed_long : (h : Heap) (y : ℕ) → length (marks_in (pushed h y)) ≡ length (marks_in h)
unfolding pushed
pushed_long (heap m st d) y = go (eqb y 0) (ltb y (length m)) (ltb d (length st)) (eqb (get_or m y 0) 0)
  where
    go : (p q r t : Bool) → length (marks_in (elim p as (λ z. Heap) [ true ↦ heap m st d | false ↦ elim q as (λ z. Heap) [ false ↦ heap m st d | true ↦ elim r as (λ z. Heap) [ false ↦ heap m st d | true ↦ elim t as (λ z. Heap) [ true ↦ heap (set m y 1) (set st d y) (suc d) | false ↦ heap m st d ] ] ] ])) ≡ length m
    go true q r t = refl
    go false false r t = refl
    go false true false t = refl
    go false true true true = length-set m y 1
    go false true true false = refl

pushed_all : (f : ℕ → ℕ) (h : Heap) (n : ℕ) → length (marks_in (pushed_to f h n)) ≡ length (marks_in h)
unfolding pushed_to
pushed_all f h zero = refl
pushed_all f h (suc n) = pushed_long (pushed_to f h n) (f n) ∙ pushed_all f h n

module _ (b : TypeTable) (s start : List ℕ) where
  turned_long : (m st : List ℕ) (d : ℕ) → length (marks_in (turned b s start (heap m st (suc d)))) ≡ length m
  unfolding turned
  turned_long m st d = pushed_all (followed_id b s start (get_or st d 0)) (heap m st d) (followed_count b s start (get_or st d 0))

  closed_long : (n : ℕ) (h : Heap) → length (marks_in (closed b s start n h)) ≡ length (marks_in h)
  unfolding closed
  closed_long zero h = refl
  closed_long (suc n) (heap m st zero) = refl
  closed_long (suc n) (heap m st (suc d)) = closed_long n (turned b s start (heap m st (suc d))) ∙ turned_long m st d

  tagged_one : (m : List ℕ) (x : ℕ) → length (tagged_at b s start m x) ≡ length m
  unfolding tagged_at
  tagged_one m x = go (eqb (tag_on b s start x) 0) (eqb (get_or m (tag_on b s start x) 0) 0) (ltb x (length m))
    where
      go : (p q r : Bool) → length {A = ℕ} (elim p as (λ z. List ℕ) [ true ↦ m | false ↦ elim q as (λ z. List ℕ) [ true ↦ m | false ↦ elim r as (λ z. List ℕ) [ true ↦ set m x 1 | false ↦ m ] ] ]) ≡ length m
      go true q r = refl
      go false true r = refl
      go false false true = length-set m x 1
      go false false false = refl

  tagged_long : (m : List ℕ) (n : ℕ) → length (tagged_to b s start m n) ≡ length m
  unfolding tagged_to
  tagged_long m zero = refl
  tagged_long m (suc n) = tagged_one (tagged_to b s start m n) n ∙ tagged_long m n

numbered_one : (h : Numbered) (x : ℕ) → length (numbers_in (numbered_at h x)) ≡ length (numbers_in h)
unfolding numbered_at
numbered_one (numbered m c) x = go (eqb (get_or m x 0) 0) (ltb x (length m))
  where
    go : (p q : Bool) → length (numbers_in (elim p as (λ z. Numbered) [ true ↦ numbered m c | false ↦ elim q as (λ z. Numbered) [ true ↦ numbered (set m x (suc c)) (suc c) | false ↦ numbered m c ] ])) ≡ length m
    go true q = refl
    go false true = length-set m x (suc c)
    go false false = refl

numbered_long : (h : Numbered) (n : ℕ) → length (numbers_in (numbered_to h n)) ≡ length (numbers_in h)
unfolding numbered_to
numbered_long h zero = refl
numbered_long h (suc n) = numbered_one (numbered_to h n) n ∙ numbered_long h n

numbers_long : (l : List ℕ) → length (numbers_of l) ≡ length l
unfolding numbers_of
numbers_long l = numbered_long (numbered l 0) 262145

marks_long : (b : TypeTable) (s start given : List ℕ) → length (reached_marks b s start given all_zero) ≡ 262145
unfolding reached_marks first
marks_long b s start given = closed_long b s start (weight (first b s start given all_zero)) (first b s start given all_zero) ∙ pushed_all _ (heap all_zero all_zero 0) (length given / 4) ∙ zero_long

ids_long : (b : TypeTable) (s start given : List ℕ) → length (ids_of b s start given all_zero) ≡ 262145
unfolding ids_of
ids_long b s start given = numbers_long (tagged_to b s start (reached_marks b s start given all_zero) (type_count b)) ∙ tagged_long b s start (reached_marks b s start given all_zero) (type_count b) ∙ marks_long b s start given

-- ---- what is reached is in the table

-- no given id is past the count
below_all : (n : ℕ) (xs : List ℕ) → any_past n xs ≡ false → (x : ℕ) → Memᴰ x xs → x < n
unfolding any_past
below_all n [] h x k = absurd (Memᴰ.not-nil k)
below_all n (v ∷ xs) h x k = go (ltb v n) refl h (below_all n xs) k
  where
    go : (q : Bool) → ltb v n ≡ q → (not q || any_past n xs) ≡ false → (any_past n xs ≡ false → (x : ℕ) → Memᴰ x xs → x < n) → Memᴰ x (v ∷ xs) → x < n
    go true e f more (Memᴰ.head q) = omega (arith, ltb-true v n e, q)
    go true e f more (Memᴰ.tail q) = more f x q
    go false e f more q = absurd (true≢false f)

module _ (ts : List Described) (few : length ts ≤ 262144) (good : GoodReferences ts) (gs : List ℕ) (past : any_past (suc (length ts)) gs ≡ false) where
  pub reached_low : (x : ℕ) → Reached ts gs x → x < 262145
  reached_low x (asked k) = omega (arith, below_all (suc (length ts)) gs past x k, few)
  reached_low y (onward {x = x} r k) = omega (arith, good.below x y k, few)

  tag_low : (x : ℕ) → is_decl_tag (type_of ts x) ≡ true → x < 262145
  tag_low zero e = omega arith
  tag_low (suc i) e = go (cases_lt i (length ts))
    where
      go : (i < length ts) ⊎ (length ts ≤ i) → suc i < 262145
      go (inl q) = omega (arith, q, few)
      go (inr q) = absurd (true≢false (sym e ∙ ap is_decl_tag (get_or_past ts i void_type q)))

  kept_low : (x : ℕ) → Kept ts gs x → x < 262145
  kept_low x (reached r) = reached_low x r
  kept_low x (its_tag e r n f) = tag_low x e

  new_past : (x : ℕ) → 262145 ≤ x → new_id (is_kept ts gs) x ≡ 0
  new_past zero l = absurd (omega (arith, l))
  new_past (suc i) l = go (is_kept ts gs (suc i)) refl
    where
      go : (q : Bool) → is_kept ts gs (suc i) ≡ q → new_id (is_kept ts gs) (suc i) ≡ 0
      go true e = absurd (omega (arith, l, kept_low (suc i) ((kept_tells ts gs (suc i)).0 e)))
      go false e = new_dropped (is_kept ts gs) i e

-- THE NUMBERS, of every id
pub ids_all : (b : TypeTable) (s start : List ℕ) (ts : List Described) → SeenFrom b s start ts → length ts ≤ 262144 → GoodReferences ts → (given : List ℕ) → any_past (suc (length ts)) (words given) ≡ false
    → (x : ℕ) → get_or (ids_of b s start given all_zero) x 0 ≡ new_id (is_kept ts (words given)) x
ids_all b s start ts see few good given past x = go (cases_lt x 262145)
  where
    go : (x < 262145) ⊎ (262145 ≤ x) → get_or (ids_of b s start given all_zero) x 0 ≡ new_id (is_kept ts (words given)) x
    go (inl l) = ids_are b s start ts see given (reached_low ts few good (words given) past) x l
    go (inr l) = get_or_past (ids_of b s start given all_zero) x 0 (omega (arith, l, ids_long b s start given)) ∙ sym (new_past ts few good (words given) past x l)
