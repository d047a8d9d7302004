-- Each name that a kept type mentions stands in the new strings, where its new offset says. Assumes nothing.
use Prim.Native.Nat.{ℕ, zero, suc, ◌+◌, ◌<◌}
use native.Mathlib.Omega.{arith}
use mathlib.Core.Path.{◌≡◌, refl, sym, ◌∙◌, ap, subst}
use mathlib.Core.Bool.{Bool, true, false, true≢false}
use mathlib.Core.List.Memᴰ
use mathlib.Core.List.{List, [], ◌∷◌, ◌++◌, Memᴰ}
use lib.ListN.{length, get_or, drop, length-append}
use Rattle.spec_linux_btf.specs.Documentation.{Described, encode_strings}
use Rattle.spec_linux_btf.specs.Section.{last_of}
use Rattle.spec_c_dumper.specs.rules.Types.{Name}
use Rattle.spec_c_dumper.specs.rules.Names.{same_bytes}
use Rattle.spec_c_dumper.proofs.rules.Names.{bytes_self, bytes_same}
use Rattle.spec_type_table.specs.Names.{up_to_zero, name_at}
use Rattle.spec_cut.specs.section.Strings.{mentions, all_mentions, has, add_name, add_all, place_in}

-- ---- what is stored

has_more : (ss : List Name) (t : List Name) (name : Name) → has ss name ≡ true → has (ss ++ t) name ≡ true
unfolding has
has_more [] t name e = absurd (true≢false (sym e))
has_more (s ∷ ss) t name e = go (same_bytes s name) e (has_more ss t name)
  where
    go : (q : Bool) → ◌≡◌ {A = Bool} (elim q [ true ↦ true | false ↦ has ss name ]) true → (has ss name ≡ true → has (ss ++ t) name ≡ true) → ◌≡◌ {A = Bool} (elim q [ true ↦ true | false ↦ has (ss ++ t) name ]) true
    go true h r = refl
    go false h r = r h

has_last : (ss : List Name) (name : Name) → has (ss ++ (name ∷ [])) name ≡ true
unfolding has
has_last [] name = ap (λ (q : Bool). elim q as (λ c. Bool) [ true ↦ true | false ↦ false ]) (bytes_self name)
has_last (s ∷ ss) name = go (same_bytes s name) (has_last ss name)
  where
    go : (q : Bool) → has (ss ++ (name ∷ [])) name ≡ true → ◌≡◌ {A = Bool} (elim q [ true ↦ true | false ↦ has (ss ++ (name ∷ [])) name ]) true
    go true r = refl
    go false r = r

add_keeps : (ss : List Name) (x name : Name) → has ss name ≡ true → has (add_name ss x) name ≡ true
unfolding add_name
add_keeps ss x name e = go (has ss x)
  where
    go : (q : Bool) → has (elim q [ true ↦ ss | false ↦ ss ++ (x ∷ []) ]) name ≡ true
    go true = e
    go false = has_more ss (x ∷ []) name e

pub add_has : (ss : List Name) (x : Name) → has (add_name ss x) x ≡ true
unfolding add_name
add_has ss x = go (has ss x) refl
  where
    go : (q : Bool) → has ss x ≡ q → has (elim q [ true ↦ ss | false ↦ ss ++ (x ∷ []) ]) x ≡ true
    go true e = e
    go false e = has_last ss x

all_keeps : (old : List ℕ) (ns : List ℕ) (ss : List Name) (name : Name) → has ss name ≡ true → has (add_all old ss ns) name ≡ true
unfolding add_all
all_keeps old [] ss name e = e
all_keeps old (n ∷ ns) ss name e = all_keeps old ns (add_name ss (name_at old n)) name (add_keeps ss (name_at old n) name e)

-- every mentioned name is stored
pub all_has : (old : List ℕ) (ns : List ℕ) (ss : List Name) (n : ℕ) → Memᴰ n ns → has (add_all old ss ns) (name_at old n) ≡ true
unfolding add_all
all_has old [] ss n k = absurd (Memᴰ.not-nil k)
all_has old (x ∷ ns) ss n (Memᴰ.head e) = subst (λ (y : ℕ). has (add_all old (add_name ss (name_at old x)) ns) (name_at old y) ≡ true) (sym e) (all_keeps old ns (add_name ss (name_at old x)) (name_at old x) (add_has ss (name_at old x)))
all_has old (x ∷ ns) ss n (Memᴰ.tail k) = all_has old ns (add_name ss (name_at old x)) n k

-- what a type of the list mentions, the list mentions
pub mention_in : (ts : List Described) (k : ℕ) (d : Described) → k < length ts → (n : ℕ) → Memᴰ n (mentions (get_or ts k d)) → Memᴰ n (all_mentions ts)
unfolding all_mentions
mention_in [] k d l n h = absurd (omega (arith, l))
mention_in (t ∷ ts) zero d l n h = Memᴰ.append_left (all_mentions ts) h
mention_in (t ∷ ts) (suc k) d l n h = Memᴰ.append_right (mentions t) (mention_in ts k d (omega (arith, l)) n h)

-- ---- where it stands

-- without a 0 in it
abbrev NoZero : Name → Type 0
NoZero name = (r : List ℕ) → up_to_zero (name ++ (0 ∷ r)) ≡ name

up_to_no_zero : (l : List ℕ) → NoZero (up_to_zero l)
unfolding up_to_zero
up_to_no_zero [] r = refl
up_to_no_zero (zero ∷ l) r = refl
up_to_no_zero (suc x ∷ l) r = ap (λ (t : List ℕ). suc x ∷ t) (up_to_no_zero l r)

pub name_no_zero : (old : List ℕ) (n : ℕ) → NoZero (name_at old n)
unfolding name_at
name_no_zero old n = up_to_no_zero (drop n old)

drop_past : (s : List ℕ) (p : ℕ) (l : List ℕ) → drop (suc (length s) + p) (s ++ (0 ∷ l)) ≡ drop p l
drop_past [] p l = ap (λ (k : ℕ). drop k (0 ∷ l)) {x = suc 0 + p} {y = suc p} (omega arith)
drop_past (x ∷ s) p l = ap (λ (k : ℕ). drop k (x ∷ (s ++ (0 ∷ l)))) {x = suc (suc (length s)) + p} {y = suc (suc (length s) + p)} (omega arith) ∙ drop_past s p l

-- a stored name is found at its place
pub name_placed : (ss : List Name) (name : Name) → NoZero name → has ss name ≡ true → name_at (encode_strings ss) (place_in ss name) ≡ name
unfolding has place_in encode_strings name_at
name_placed [] name z e = absurd (true≢false (sym e))
name_placed (s ∷ ss) name z e = go (same_bytes s name) refl e (name_placed ss name z)
  where
    go : (q : Bool) → same_bytes s name ≡ q → ◌≡◌ {A = Bool} (elim q [ true ↦ true | false ↦ has ss name ]) true → (has ss name ≡ true → name_at (encode_strings ss) (place_in ss name) ≡ name)
        → up_to_zero (drop (elim q as (λ c. ℕ) [ true ↦ 0 | false ↦ suc (length s) + place_in ss name ]) (s ++ (0 ∷ encode_strings ss))) ≡ name
    go true b h r = ap (λ (t : List ℕ). up_to_zero (t ++ (0 ∷ encode_strings ss))) (bytes_same s name b) ∙ z (encode_strings ss)
    go false b h r = ap up_to_zero (drop_past s (place_in ss name) (encode_strings ss)) ∙ r h

-- inside the strings
pub place_below : (ss : List Name) (name : Name) → has ss name ≡ true → place_in ss name < length (encode_strings ss)
unfolding has place_in encode_strings
place_below [] name e = absurd (true≢false (sym e))
place_below (s ∷ ss) name e = go (same_bytes s name) e (place_below ss name)
  where
    len : length (s ++ (0 ∷ encode_strings ss)) ≡ length s + suc (length (encode_strings ss))
    len = length-append s (0 ∷ encode_strings ss)

    go : (q : Bool) → ◌≡◌ {A = Bool} (elim q [ true ↦ true | false ↦ has ss name ]) true → (has ss name ≡ true → place_in ss name < length (encode_strings ss))
        → (elim q as (λ c. ℕ) [ true ↦ 0 | false ↦ suc (length s) + place_in ss name ]) < length (s ++ (0 ∷ encode_strings ss))
    go true h r = omega (arith, len)
    go false h r = omega (arith, len, r h)

-- ---- a name in a string area that ends in 0 is the name in the section

ends_more : (a rest : List ℕ) (n d : ℕ) → n < length a → last_of d a ≡ 0 → up_to_zero (drop n (a ++ rest)) ≡ up_to_zero (drop n a)
unfolding up_to_zero
ends_more [] rest n d l e = absurd (omega (arith, l))
ends_more (x ∷ a) rest (suc n) d l e = ends_more a rest n x (omega (arith, l)) e
ends_more (zero ∷ a) rest zero d l e = refl
ends_more (suc x ∷ []) rest zero d l e = absurd (omega (arith, e))
ends_more (suc x ∷ (y ∷ a)) rest zero d l e = ap (λ (t : List ℕ). suc x ∷ t) (ends_more (y ∷ a) rest zero (suc x) (omega arith) e)

pub area_name : (a rest : List ℕ) (n : ℕ) → n < length a → last_of 1 a ≡ 0 → name_at (a ++ rest) n ≡ name_at a n
unfolding name_at
area_name a rest n l e = ends_more a rest n 1 l e
