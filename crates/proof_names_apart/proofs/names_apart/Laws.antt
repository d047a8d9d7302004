-- Laws of the search for a number: names are equal by content, suffixes of different numbers differ, and the search ends at a number that is not
-- taken. Assumes nothing.
use Prim.Native.Nat.{ℕ, zero, suc, ◌+◌, ◌≤◌}
use mathlib.Core.Path.{◌≡◌, refl, sym, ◌∙◌, ap}
use mathlib.Core.Bool.{Bool, true, false, true≢false}
use mathlib.Core.List.Memᴰ
use mathlib.Core.List.{List, [], ◌∷◌, ◌++◌, Memᴰ, append_cancel_left}
use mathlib.Core.Logic.{◌⊎◌, inl, inr}
use native.Mathlib.Omega.{arith}
use lib.ListN.{length}
use Rattle.spec_bytes.specs.words.Words.{one_more}
use Rattle.spec_bytes.specs.text.Text.{ascii}
use Rattle.spec_bytes.specs.text.Decimal.{decimal}
use Rattle.spec_bytes.proofs.text.Digits.{horner, decimal_is}
use Rattle.spec_bytes.proofs.words.Laws.{more_is}
use Rattle.spec_c_dumper.specs.rules.Types.{Name}
use Rattle.spec_c_dumper.specs.rules.Names.{Space, same_space, same_bytes, spelled}
use Rattle.spec_c_dumper.specs.names_apart.Apart.{Shown, is_name_among, passing, spellings_in}
use Rattle.spec_c_dumper.proofs.rules.Names.{bytes_self, bytes_same, space_self, spelled_later}

pub bytes_other : (x y : List ℕ) → (x ≡ y → ⊥) → same_bytes x y ≡ false
bytes_other x y n = go (same_bytes x y) refl
  where
    go : (t : Bool) → same_bytes x y ≡ t → same_bytes x y ≡ false
    go true e = absurd (n (bytes_same x y e))
    go false e = e

-- ---- among

pub mem_among : (x : Name) (l : List Name) → Memᴰ x l → is_name_among x l ≡ true
unfolding is_name_among
mem_among x [] m = absurd (Memᴰ.not-nil m)
mem_among x (y ∷ l) m = go (same_bytes x y) refl (Memᴰ.cases_cons m) (mem_among x l)
  where
    go : (t : Bool) → same_bytes x y ≡ t → (x ≡ y) ⊎ Memᴰ x l → (Memᴰ x l → is_name_among x l ≡ true) → elim t as (λ z. Bool) [ true ↦ true | false ↦ is_name_among x l ] ≡ true
    go true q c f = refl
    go false q (inl e) f = absurd (true≢false (sym (bytes_self x) ∙ ap (same_bytes x) e ∙ q))
    go false q (inr k) f = f k

pub not_among : (x : Name) (l : List Name) → is_name_among x l ≡ false → Memᴰ x l → ⊥
not_among x l e m = true≢false (sym (mem_among x l m) ∙ e)

-- without one that is among them
pub cut_out : (x : Name) (l : List Name) → is_name_among x l ≡ true → (k : List Name) × (suc (length k) ≡ length l) × ((y : Name) → same_bytes y x ≡ false → is_name_among y l ≡ is_name_among y k)
unfolding is_name_among
cut_out x [] e = absurd (true≢false (sym e))
cut_out x (z ∷ l) e = go (same_bytes x z) refl e (cut_out x l)
  where
    go : (t : Bool) → same_bytes x z ≡ t → elim t as (λ w. Bool) [ true ↦ true | false ↦ is_name_among x l ] ≡ true
        → (is_name_among x l ≡ true → (k : List Name) × (suc (length k) ≡ length l) × ((y : Name) → same_bytes y x ≡ false → is_name_among y l ≡ is_name_among y k))
        → (k : List Name) × (suc (length k) ≡ suc (length l)) × ((y : Name) → same_bytes y x ≡ false → elim (same_bytes y z) as (λ w. Bool) [ true ↦ true | false ↦ is_name_among y l ] ≡ is_name_among y k)
    go true q r f = (
      l,
      refl,
      λ y n. ap (λ (t : Bool). elim t as (λ w. Bool) [ true ↦ true | false ↦ is_name_among y l ]) (sym (ap (same_bytes y) (bytes_same x z q)) ∙ n),
    )
    go false q r f =
        let c = f r in
        (z ∷ c.0, ap suc c.1, λ y n. ap (λ (t : Bool). elim (same_bytes y z) as (λ w. Bool) [ true ↦ true | false ↦ t ]) (c.2 y n))

-- ---- what was printed in a space

pub spelling_in : (space : Space) (l : List Shown) (a : Shown) → Memᴰ a l → a.space ≡ space → Memᴰ a.spelling (spellings_in space l)
unfolding spellings_in
spelling_in space [] a m e = absurd (Memᴰ.not-nil m)
spelling_in space (p ∷ l) a m e = go (same_space p.space space) refl (Memᴰ.cases_cons m) (λ k. spelling_in space l a k e)
  where
    go : (t : Bool) → same_space p.space space ≡ t → (a ≡ p) ⊎ Memᴰ a l → (Memᴰ a l → Memᴰ a.spelling (spellings_in space l))
        → Memᴰ a.spelling (elim t as (λ w. List Name) [ true ↦ p.spelling ∷ spellings_in space l | false ↦ spellings_in space l ])
    go true q (inl c) f = Memᴰ.head (ap (λ (x : Shown). x.spelling) c)
    go true q (inr k) f = Memᴰ.tail (f k)
    go false q (inl c) f = absurd (true≢false (sym (space_self space) ∙ sym (ap (λ (x : Space). same_space x space) (sym (ap (λ (x : Shown). x.space) c) ∙ e)) ∙ q))
    go false q (inr k) f = f k

pub fewer : (space : Space) (l : List Shown) → length (spellings_in space l) ≤ length l
unfolding spellings_in
fewer space [] = omega arith
fewer space (p ∷ l) = go (same_space p.space space) (fewer space l)
  where
    go : (t : Bool) → length (spellings_in space l) ≤ length l → length {A = Name} (elim t as (λ w. List Name) [ true ↦ p.spelling ∷ spellings_in space l | false ↦ spellings_in space l ]) ≤ suc (length l)
    go true h = omega arith
    go false h = omega arith

-- ---- suffixes

pub spelled_first : (name : Name) → spelled name 1 ≡ name
unfolding spelled
spelled_first name = refl

-- different numbers, different suffixes
pub suffix_one : (name : Name) (n m : ℕ) → 2 ≤ n → 2 ≤ m → n ≤ 4294967295 → m ≤ 4294967295 → spelled name n ≡ spelled name m → n ≡ m
suffix_one name n m h k p q e =
    let d : decimal n ≡ decimal m = append_cancel_left (name ++ ascii "___") (decimal n) (decimal m) (sym (spelled_later name n h) ∙ e ∙ spelled_later name m k) in
    sym (decimal_is n (omega arith)).means ∙ ap (horner 0) d ∙ (decimal_is m (omega arith)).means

-- The search ends at a number that is not taken, after at most as many steps as there are names taken: l, of which t tells.
pub ends_free : (name : Name) (most : ℕ) (t : ℕ → Bool) (l : List Name) → length l ≤ most → (n : ℕ) → 2 ≤ n → n + most ≤ 4294967295
    → ((m : ℕ) → n ≤ m → m ≤ n + most → t m ≡ is_name_among (spelled name m) l) → t (passing t most n) ≡ false
unfolding passing is_name_among
ends_free name zero t [] h n k b f = f n (omega arith) (omega arith)
ends_free name zero t (x ∷ l) h n k b f = absurd (omega arith)
ends_free name (suc most) t l h n k b f = go (t n) refl (λ c e q g. ends_free name most t c e (n + 1) (omega arith) (omega arith) g)
  where
    next : t n ≡ true
        → ((c : List Name) → length c ≤ most → (n + 1) + most ≤ 4294967295 → ((m : ℕ) → n + 1 ≤ m → m ≤ (n + 1) + most → t m ≡ is_name_among (spelled name m) c) → t (passing t most (n + 1)) ≡ false)
        → t (passing t most (one_more n)) ≡ false
    next e r =
        let c = cut_out (spelled name n) l (sym (f n (omega arith) (omega arith)) ∙ e) in
        ap (λ (x : ℕ). t (passing t most x)) (more_is n (omega arith))
        ∙ r c.0 (omega (arith, c.1)) (omega arith)
        (λ m lo hi. f m (omega arith) (omega arith) ∙ c.2 (spelled name m) (bytes_other (spelled name m) (spelled name n) (λ q. let z : m ≡ n = suffix_one name m n (omega arith) k (omega arith) (omega arith) q in omega arith)))

    go : (b' : Bool) → t n ≡ b'
        → ((c : List Name) → length c ≤ most → (n + 1) + most ≤ 4294967295 → ((m : ℕ) → n + 1 ≤ m → m ≤ (n + 1) + most → t m ≡ is_name_among (spelled name m) c) → t (passing t most (n + 1)) ≡ false)
        → t (elim b' as (λ w. ℕ) [ true ↦ passing t most (one_more n) | false ↦ n ]) ≡ false
    go true e r = next e r
    go false e r = e
