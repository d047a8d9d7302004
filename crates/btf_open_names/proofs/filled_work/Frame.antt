-- What the lists leave alone: all words but those of lists. Assumes nothing.
use Prim.Native.Nat.{ℕ, zero, suc, ◌+◌, ◌-◌, ◌*◌, ◌/◌, ◌%◌, ◌≤◌, ◌<◌}
use mathlib.Core.Path.{◌≡◌, refl, ◌∙◌, sym}
use mathlib.Core.List.{List}
use mathlib.Core.Bool.{Bool, true, false}
use mathlib.Core.Logic.{◌≢◌, ◌⊎◌, inl, inr, ⊎_elim}
use native.Mathlib.Omega.{arith}
use lib.ListN.{length}
use lib.Dec.{ltb, leb, eqb}
use Rattle.std.proofs.lemmas.Bool.{cases_lt}
use Rattle.spec_bytes.specs.words.Words.{get_word, put_word}
use Rattle.spec_bytes.proofs.words.Laws.{put_length, get_put_other}
use Rattle.spec_type_table.specs.declared.types.TypeTable.{TypeTable}
use Rattle.spec_type_table.specs.Cells.{place_of, class_p}
use Rattle.spec_type_table.specs.Numbers.{head_p, next_p, taken_p}
use Rattle.spec_type_table.proofs.Laws.{place_type, place_enum}
use Rattle.btf_open_names.specs.name_classes.Classes.{key_in}
use Rattle.btf_open_names.specs.filled_work.Takers.{suffix_on, any_suffix, name_in, base_from, listed_on, on_base, taker_put, takers_put, with_takers, takers_in}

-- word i is none of a list of the first n holders
pub record Unlisted (types n i : ℕ) : Type 0 where
  pub no_head : (h : ℕ) → h < n → i ≢ head_p types h
  pub no_next : (h : ℕ) → h < n → i ≢ next_p types h
  pub no_taken : (h : ℕ) → h < n → i ≢ taken_p types h

base_below : (key : ℕ → List ℕ) (h f c : ℕ) → (base_from key h f c ≡ 0) ⊎ (base_from key h f c < c + f)
unfolding base_from
base_below key h zero c = inl refl
base_below key h (suc f) c = go (leb 2 (suffix_on (key c) (key h))) (base_below key h f (suc c))
  where
    go : (t : Bool) → (base_from key h f (suc c) ≡ 0) ⊎ (base_from key h f (suc c) < suc c + f)
        → (◌≡◌ {A = ℕ} (elim t as (λ z. ℕ) [ true ↦ c | false ↦ base_from key h f (suc c) ]) 0) ⊎ (elim t as (λ z. ℕ) [ true ↦ c | false ↦ base_from key h f (suc c) ] < c + suc f)
    go true r = inr (omega arith)
    go false (inl z) = inl z
    go false (inr l) = inr (omega arith)

-- what a step keeps, seen through P: the length, or a word that is none of a list
module _ {A : Type 0} (P : List ℕ → A) (b : TypeTable) (s : List ℕ) (n : ℕ)
    (puts : (c h m : ℕ) (w : List ℕ) → c < n → h < n → P (listed_on b.types c h m w) ≡ P w) where
  on_keeps : (h c : ℕ) (w : List ℕ) → h < n → (c ≡ 0) ⊎ (c < n) → P (on_base b s n h w c) ≡ P w
  unfolding on_base
  on_keeps h zero w l q = refl
  on_keeps h (suc c) w l (inl z) = absurd (omega arith)
  on_keeps h (suc c) w l (inr m) = puts (suc c) h (suffix_on (key_in b s w (suc c)) (key_in b s w h)) w m l

  one_keeps : (h : ℕ) (w : List ℕ) → h < n → P (taker_put b s n h w) ≡ P w
  unfolding taker_put
  one_keeps h w l = go (eqb (get_word w (class_p b.types h)) h) (any_suffix (name_in (key_in b s w h)))
    where
      small : (base_from (key_in b s w) h (n - 1) 1 ≡ 0) ⊎ (base_from (key_in b s w) h (n - 1) 1 < n)
      small = ⊎_elim (λ z. inl z) (λ z. inr (omega arith)) (base_below (key_in b s w) h (n - 1) 1)

      go : (p q : Bool) → P (elim p as (λ z. List ℕ) [ true ↦ elim q as (λ z. List ℕ) [ true ↦ on_base b s n h w (base_from (key_in b s w) h (n - 1) 1) | false ↦ w ] | false ↦ w ]) ≡ P w
      go true true = on_keeps h (base_from (key_in b s w) h (n - 1) 1) w l small
      go true false = refl
      go false q = refl

  all_keep : (k : ℕ) (w : List ℕ) → k < n → P (takers_put b s n k w) ≡ P w
  unfolding takers_put
  all_keep zero w l = refl
  all_keep (suc k) w l = all_keep k (taker_put b s n (suc k) w) (omega arith) ∙ one_keeps (suc k) w l

module _ {A : Type 0} (P : List ℕ → A) (modes : ℕ) (b : TypeTable) (e : ℕ) (s : List ℕ) (some : 1 ≤ b.types)
    (puts : (c h m : ℕ) (w : List ℕ) → c < b.types + e → h < b.types + e → P (listed_on b.types c h m w) ≡ P w) where
  in_keeps : (w : List ℕ) → P (takers_in modes b e s w) ≡ P w
  unfolding takers_in with_takers
  in_keeps w = go (eqb (modes / 8 % 2) 1) (ltb (4294967295 - b.types) e)
    where
      go : (p q : Bool) → P (elim p as (λ z. List ℕ) [ true ↦ elim q as (λ z. List ℕ) [ true ↦ w | false ↦ takers_put b s (b.types + e) (b.types + e - 1) w ] | false ↦ w ]) ≡ P w
      go true true = refl
      go true false = all_keep P b s (b.types + e) puts (b.types + e - 1) w (omega arith)
      go false q = refl

put_long : (types c h m : ℕ) (w : List ℕ) → length (listed_on types c h m w) ≡ length w
unfolding listed_on
put_long types c h m w =
    put_length (put_word (put_word w (next_p types h) (get_word w (head_p types c))) (taken_p types h) m) (head_p types c) h
    ∙ put_length (put_word w (next_p types h) (get_word w (head_p types c))) (taken_p types h) m
    ∙ put_length w (next_p types h) (get_word w (head_p types c))

put_word_lem : (types n i : ℕ) → Unlisted types n i → (c h m : ℕ) (w : List ℕ) → c < n → h < n → get_word (listed_on types c h m w) i ≡ get_word w i
unfolding listed_on
put_word_lem types n i z c h m w lc lh =
    get_put_other (put_word (put_word w (next_p types h) (get_word w (head_p types c))) (taken_p types h) m) (head_p types c) i h (z.no_head c lc)
    ∙ get_put_other (put_word w (next_p types h) (get_word w (head_p types c))) (taken_p types h) i m (z.no_taken h lh)
    ∙ get_put_other w (next_p types h) i (get_word w (head_p types c)) (z.no_next h lh)

module _ (modes : ℕ) (b : TypeTable) (e : ℕ) (s w : List ℕ) (some : 1 ≤ b.types) where
  pub takers_long : length (takers_in modes b e s w) ≡ length w
  takers_long = in_keeps length modes b e s some (λ c h m u lc lh. put_long b.types c h m u) w

  pub takers_word : (i : ℕ) → Unlisted b.types (b.types + e) i → get_word (takers_in modes b e s w) i ≡ get_word w i
  takers_word i z = in_keeps (λ (u : List ℕ). get_word u i) modes b e s some (put_word_lem b.types (b.types + e) i z) w

-- words that are none of a list
form : (types f g h i : ℕ) → (i ≡ h * 16 + f → h < types → ⊥) → (i ≡ types * 16 + (h - types) * 8 + g → types ≤ h → ⊥) → i ≢ place_of types f g h
form types f g h i p q e = ⊎_elim (λ l. p (e ∙ sym (place_type types f g h l)) l) (λ l. q (e ∙ sym (place_enum types f g h l)) l) (cases_lt h types)

-- word f of a type below the count
pub field_unlisted : (types n id f : ℕ) → id < types → f < 16 → f ≢ 7 → f ≢ 8 → f ≢ 14 → Unlisted types n (id * 16 + f)
field_unlisted types n id f l m n7 n8 n14 = record {
  no_head = λ h k. form types 7 3 h (id * 16 + f) (λ q r. n7 (omega arith)) (λ q r. omega arith);
  no_next = λ h k. form types 8 4 h (id * 16 + f) (λ q r. n8 (omega arith)) (λ q r. omega arith);
  no_taken = λ h k. form types 14 6 h (id * 16 + f) (λ q r. n14 (omega arith)) (λ q r. omega arith);
}

-- word 9 of any id
pub nine_unlisted : (types n j : ℕ) → Unlisted types n (j * 16 + 9)
nine_unlisted types n j = record {
  no_head = λ h k. form types 7 3 h (j * 16 + 9) (λ q r. omega arith) (λ q r. omega arith);
  no_next = λ h k. form types 8 4 h (j * 16 + 9) (λ q r. omega arith) (λ q r. omega arith);
  no_taken = λ h k. form types 14 6 h (j * 16 + 9) (λ q r. omega arith) (λ q r. omega arith);
}

-- word g of an enumerator
pub entry_unlisted : (types n k : ℕ) → Unlisted types n (types * 16 + k * 8)
entry_unlisted types n k = record {
  no_head = λ h l. form types 7 3 h (types * 16 + k * 8) (λ q r. omega arith) (λ q r. omega arith);
  no_next = λ h l. form types 8 4 h (types * 16 + k * 8) (λ q r. omega arith) (λ q r. omega arith);
  no_taken = λ h l. form types 14 6 h (types * 16 + k * 8) (λ q r. omega arith) (λ q r. omega arith);
}

-- a word of a holder that is none of a list
pub place_unlisted : (types n f g h : ℕ) → f < 16 → g < 8 → f ≢ 7 → f ≢ 8 → f ≢ 14 → g ≢ 3 → g ≢ 4 → g ≢ 6 → Unlisted types n (place_of types f g h)
place_unlisted types n f g h a c n7 n8 n14 n3 n4 n6 = record {
  no_head = λ k l. apart 7 3 (λ z. n7 z) (λ z. n3 z) (omega arith) (omega arith) k;
  no_next = λ k l. apart 8 4 (λ z. n8 z) (λ z. n4 z) (omega arith) (omega arith) k;
  no_taken = λ k l. apart 14 6 (λ z. n14 z) (λ z. n6 z) (omega arith) (omega arith) k;
}
  where
    apart : (f' g' : ℕ) → f ≢ f' → g ≢ g' → f' < 16 → g' < 8 → (k : ℕ) → place_of types f g h ≢ place_of types f' g' k
    apart f' g' nf ng p q k e =
        ⊎_elim
        (λ l. ⊎_elim (λ m. nf (omega (arith, place_type types f g h l, place_type types f' g' k m))) (λ m. omega (arith, place_type types f g h l, place_enum types f' g' k m)) (cases_lt k types))
        (λ l. ⊎_elim (λ m. omega (arith, place_enum types f g h l, place_type types f' g' k m)) (λ m. ng (omega (arith, place_enum types f g h l, place_enum types f' g' k m))) (cases_lt k types))
        (cases_lt h types)
