-- Laws for entries in lent words. Assumes nothing.
use Rattle.std.specs.Prelude.{Option, Some, None}
use Prim.Native.Nat.{ℕ, suc, ◌+◌, ◌-◌, ◌*◌, ◌≤◌, ◌<◌}
use mathlib.Core.Path.{◌≡◌, refl, ap, sym, ◌∙◌}
use mathlib.Core.List.{List, [], ◌∷◌, ◌++◌}
use borrow.Author.Tests.{lt-ltb, le-ltb}
use lib.ListN.{length, get_or, drop, set, drop_of_length-le}
use native.Mathlib.Omega.{arith}
use native.Mathlib.Numerals.{add-one}
use lib.Seq.{paste, paste-zero, paste-suc, drop-cons}
use borrow.Rule.Slice.PartMut.{put_mid}
use Rattle.std.proofs.lemmas.Slice.{put_mid-paste}
use lib.Dec.{ltb}
use Rattle.spec_c_dumper.specs.rules.Types.{Qualifier}
use Rattle.session_declaration_reader.specs.bases.Items.{Item, item, qual_code, qual_items, Placed, placed, put_item, one_more, placing}
use Rattle.session_declaration_reader.specs.bases.Entries.{item_in, item_words}
use Rattle.session_declaration_reader.specs.bases.Looking.{qualifier, qual_of, quals_in}
use Rattle.session_declaration_reader.specs.tokens.Looking.{qualifier_code}
use Rattle.session_declaration_reader.specs.declared.token_kind.Qualifier as declared
use Rattle.session_declaration_reader.specs.declared.token_kind.Qualifier.TheVariants.{Const, Volatile, Restrict}
use Rattle.session_declaration_reader.proofs.tokens.Cases.{passed, failed}

abbrev pub on : Placed → List Item → Placed
on (placed n t) is = placing t n is

pub placing_on : (t : List ℕ) (n : ℕ) (is js : List Item) → placing t n (is ++ js) ≡ on (placing t n is) js
unfolding placing
placing_on t n [] js = refl
placing_on t n (i ∷ is) js = placing_on (put_item t n i) (one_more n) is js

-- one entry after another
pub placing_then : (t : List ℕ) (n : ℕ) (is js : List Item) (m : ℕ) (t' : List ℕ) (r : ℕ) (t'' : List ℕ)
    → placed m t' ≡ placing t n is → placed r t'' ≡ placing t' m js → placed r t'' ≡ placing t n (is ++ js)
placing_then t n is js m t' r t'' e f = f ∙ ap (λ (p : Placed). on p js) e ∙ sym (placing_on t n is js)

pub more_few : (n : ℕ) → n < 512 → one_more n ≡ n + 1
unfolding one_more
more_few n h = passed (ltb n 512) (n + 1) 513 (lt-ltb n 512 h)

pub more_many : (n : ℕ) → 512 ≤ n → one_more n ≡ 513
unfolding one_more
more_many n h = failed (ltb n 512) (n + 1) 513 (le-ltb n 512 h)

module _ (t : List ℕ) (n : ℕ) (i : Item) where
  pub item_over : 512 ≤ n → placed 513 t ≡ placing t n (i ∷ [])
  unfolding placing put_item
  item_over h =
      let e : put_item t n i ≡ t = unstored i in
      sym (λ j. placed (more_many n h j) (e j))
    where
      unstored : (i : Item) → put_item t n i ≡ t
      unstored (item k x y) = failed (ltb n 512) _ t (le-ltb n 512 h)

  pub item_short : n < 512 → length t ≤ n * 3 + 2 → placed (n + 1) t ≡ placing t n (i ∷ [])
  unfolding placing put_item
  item_short h l =
      let e : put_item t n i ≡ t = unstored i in sym (λ j. placed (more_few n h j) (e j))
    where
      unstored : (i : Item) → put_item t n i ≡ t
      unstored (item k x y) = passed (ltb n 512) _ t (lt-ltb n 512 h) ∙ failed (ltb (n * 3 + 2) (length t)) _ t (le-ltb (n * 3 + 2) (length t) l)

-- three words written over a part are three words stored
three : (t : List ℕ) (at m k x y : ℕ) (s : List ℕ) → at + 2 < length t → m ≡ 3 → s ≡ (k ∷ x ∷ y ∷ []) → put_mid at m t s ≡ set (set (set t at k) (at + 1) x) (at + 2) y
three t at m k x y s h e p =
    let l : List ℕ = k ∷ x ∷ y ∷ [] in
    let e0 : at + 0 ≡ at = omega arith in
    let s1 : set t at k ≡ paste t at l 1 = ap (λ (i : ℕ). set t i k) (sym e0) ∙ ap (λ (c : List ℕ). set c (at + 0) k) (paste-zero t at l) ∙ paste-suc t at l 0 0 (omega arith) (omega arith) in
    let s2 : set (paste t at l 1) (at + 1) x ≡ paste t at l 2 = paste-suc t at l 1 0 (omega arith) (omega arith) in
    let s3 : set (paste t at l 2) (at + 2) y ≡ paste t at l 3 = paste-suc t at l 2 0 (omega arith) (omega arith) in
    put_mid-paste at m t s l 3 p (sym e) refl ∙ sym (rw (s1, s2) s3)

-- any three words are those of their entry
words_are : (s : List ℕ) → length s ≡ 3 → s ≡ item_words (item_in s)
words_are [] e = absurd (omega (arith, e))
words_are (k ∷ []) e = absurd (omega (arith, e))
words_are (k ∷ x ∷ []) e = absurd (omega (arith, e))
words_are (k ∷ x ∷ y ∷ []) e = refl
words_are (k ∷ x ∷ y ∷ z ∷ s) e = absurd (omega (arith, e))

pub item_stored : (t : List ℕ) (n : ℕ) (s : List ℕ) → n < 512 → n * 3 + 2 < length t → length s ≡ 3 → (m : ℕ) (u : List ℕ) → m ≡ 3 → u ≡ s
    → placed (n + 1) (put_mid (n * 3) m t u) ≡ placing t n (item_in s ∷ [])
unfolding placing put_item
item_stored t n s h l es m u em eu =
    let k : ℕ = get_or s 0 0 in
    let x : ℕ = get_or s 1 0 in
    let y : ℕ = get_or s 2 0 in
    let e : put_item t n (item k x y) ≡ set (set (set t (n * 3) k) (n * 3 + 1) x) (n * 3 + 2) y =
    passed (ltb n 512) _ t (lt-ltb n 512 h) ∙ passed (ltb (n * 3 + 2) (length t)) (set (set (set t (n * 3) k) (n * 3 + 1) x) (n * 3 + 2) y) t (lt-ltb (n * 3 + 2) (length t) l) in
    ap (placed (n + 1)) (three t (n * 3) m k x y u l em (eu ∙ words_are s es)) ∙ sym (λ j. placed (more_few n h j) (e j))

-- the words of an entry are put as the entry
pub entry_put : (t : List ℕ) (n : ℕ) (i : Item) (s : List ℕ) → s ≡ item_words i → (p : Placed) → p ≡ placing t n (item_in s ∷ []) → p ≡ placing t n (i ∷ [])
entry_put t n i s e p f = f ∙ ap (λ (j : Item). placing t n (j ∷ [])) (ap item_in e ∙ is_same i)
  where
    is_same : (i : Item) → item_in (item_words i) ≡ i
    is_same (item k x y) = refl

-- qualifiers
pub code_is : (q : declared.Qualifier) → qual_code (qualifier q) ≡ qualifier_code q
code_is Const = refl
code_is Volatile = refl
code_is Restrict = refl

quals_split : (g : Option declared.Qualifier) (qs : List Qualifier) → qual_items (qual_of g qs) ≡ qual_items (qual_of g []) ++ qual_items qs
quals_split (Some q) qs = refl
quals_split None qs = refl

pub qual_put : (t : List ℕ) (n : ℕ) (g : Option declared.Qualifier) (q : declared.Qualifier) → g ≡ Some q → (m : ℕ) (t' : List ℕ)
    → placed m t' ≡ placing t n (item 5 (qualifier_code q) 0 ∷ []) → placed m t' ≡ placing t n (qual_items (qual_of g []))
qual_put t n g q e m t' f =
    f ∙ ap (λ (x : ℕ). placing t n (item 5 x 0 ∷ [])) (sym (code_is q)) ∙ ap (λ x. placing t n (qual_items (qual_of x []))) (sym e)

pub qual_not : (t : List ℕ) (n : ℕ) (g : Option declared.Qualifier) → ((q : declared.Qualifier) → g ≡ Some q → ⊥)
    → placed n t ≡ placing t n (qual_items (qual_of g []))
unfolding placing
qual_not t n (Some q) h = absurd (h q refl)
qual_not t n None h = refl

-- a list of qualifiers, one after another: what is left to store gives the whole
pub quals_turn : (l : List (Option declared.Qualifier)) (i : ℕ) → i < length l → (t : List ℕ) (n m : ℕ) (t' : List ℕ)
    → placed m t' ≡ placing t n (qual_items (qual_of (get_or l i None) [])) → (p : Placed) → placing t n (qual_items (quals_in (drop i l))) ≡ p
    → placing t' m (qual_items (quals_in (drop (i + 1) l))) ≡ p
quals_turn l i h t n m t' e p inv =
    let q = qual_items (quals_in (drop (suc i) l)) in
    rw add-one (ap (λ (x : Placed). on x q) e ∙ sym (placing_on t n (qual_items (qual_of (get_or l i None) [])) q))
    ∙ ap (placing t n) (sym (quals_split (get_or l i None) (quals_in (drop (suc i) l))))
    ∙ ap (λ (x : List (Option declared.Qualifier)). placing t n (qual_items (quals_in x))) (sym (drop-cons l i None h))
    ∙ inv

pub quals_over : (l : List (Option declared.Qualifier)) (i : ℕ) → length l ≤ i → (t : List ℕ) (n : ℕ) (p : Placed)
    → placing t n (qual_items (quals_in (drop i l))) ≡ p → placed n t ≡ p
unfolding placing
quals_over l i h t n p inv = rw (drop_of_length-le l h) at inv

pub base_put : (t : List ℕ) (n : ℕ) (qs : List Item) (m : ℕ) (t₁ : List ℕ) (r : ℕ) (t₂ : List ℕ) (k st en l : ℕ)
    → placed m t₁ ≡ placing t n qs → l ≡ en - st → placed r t₂ ≡ placing t₁ m (item k st l ∷ []) → placed r t₂ ≡ placing t n (qs ++ item k st (en - st) ∷ [])
base_put t n qs m t₁ r t₂ k st en l e f g =
    placing_then t n qs (item k st (en - st) ∷ []) m t₁ r t₂ e (g ∙ ap (λ (x : ℕ). placing t₁ m (item k st x ∷ [])) f)
