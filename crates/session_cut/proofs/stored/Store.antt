-- A list of names that are stored once: what it has, its bytes, and where a name stands. Assumes nothing.
use Prim.Native.Nat.{ℕ, suc, ◌+◌}
use native.Mathlib.Omega.{arith}
use mathlib.Core.Path.{◌≡◌, refl, sym, ◌∙◌, ap}
use mathlib.Core.Bool.{Bool, true, false, true≢false}
use mathlib.Core.List.{List, [], ◌∷◌, ◌++◌, append_assoc}
use lib.ListN.{length, length-append}
use Rattle.spec_linux_btf.specs.Documentation.{encode_strings}
use Rattle.spec_c_dumper.specs.rules.Types.{Name, is_empty}
use Rattle.spec_c_dumper.specs.rules.Names.{same_bytes}
use Rattle.spec_c_dumper.proofs.rules.Names.{bytes_self, bytes_same}
use Rattle.spec_cut.specs.section.Strings.{has, add_name, first_names, place_in}
use Rattle.session_cut.specs.stored.Mentioned.{store, stored, or_else}

pub store_append : (ss a c : List Name) → store ss (a ++ c) ≡ store (store ss a) c
unfolding store
store_append ss [] c = refl
store_append ss (n ∷ a) c = store_append (add_name ss n) a c

-- ---- what it has

pub has_append : (a c : List Name) (n : Name) → has (a ++ c) n ≡ or_else (has a n) (has c n)
unfolding has
has_append [] c n = refl
has_append (s ∷ a) c n = go (same_bytes s n) (has_append a c n)
  where
    go : (q : Bool) → has (a ++ c) n ≡ or_else (has a n) (has c n) → or_else q (has (a ++ c) n) ≡ or_else (or_else q (has a n)) (has c n)
    go true r = refl
    go false r = r

or_false : (q : Bool) → or_else q false ≡ q
or_false true = refl
or_false false = refl

pub has_one : (x n : Name) → has (x ∷ []) n ≡ same_bytes x n
unfolding has
has_one x n = or_false (same_bytes x n)

-- a stored name that is the same is that name
has_same : (ss : List Name) (x n : Name) → has ss x ≡ true → same_bytes x n ≡ true → has ss n ≡ true
has_same ss x n h e = ap (has ss) (sym (bytes_same x n e)) ∙ h

has_add : (ss : List Name) (x n : Name) → has (add_name ss x) n ≡ or_else (has ss n) (same_bytes x n)
unfolding add_name
has_add ss x n = go (has ss x) refl (same_bytes x n) refl
  where
    go : (q : Bool) → has ss x ≡ q → (r : Bool) → same_bytes x n ≡ r → has (elim q as (λ z. List Name) [ true ↦ ss | false ↦ ss ++ (x ∷ []) ]) n ≡ or_else (has ss n) r
    go true e true f = has_same ss x n e f ∙ sym (ap (λ (t : Bool). or_else t true) (has_same ss x n e f))
    go true e false f = sym (or_false (has ss n))
    go false e r f = has_append ss (x ∷ []) n ∙ ap (or_else (has ss n)) (has_one x n ∙ f)

or_assoc : (p q r : Bool) → or_else (or_else p q) r ≡ or_else p (or_else q r)
or_assoc true q r = refl
or_assoc false q r = refl

pub has_store : (ss ns : List Name) (n : Name) → has (store ss ns) n ≡ or_else (has ss n) (has ns n)
unfolding store has
has_store ss [] n = sym (or_false (has ss n))
has_store ss (x ∷ ns) n =
    has_store (add_name ss x) ns n
    ∙ ap (λ (t : Bool). or_else t (has ns n)) (has_add ss x n)
    ∙ or_assoc (has ss n) (same_bytes x n) (has ns n)

has_first : (n : Name) → has first_names n ≡ is_empty n
unfolding has same_bytes is_empty
has_first [] = refl
has_first (x ∷ n) = refl

pub has_stored : (ns : List Name) (n : Name) → has (stored ns) n ≡ or_else (is_empty n) (has ns n)
has_stored ns n = has_store first_names ns n ∙ ap (λ (t : Bool). or_else t (has ns n)) (has_first n)

-- ---- its bytes

strings_last : (ss : List Name) (n : Name) → encode_strings (ss ++ (n ∷ [])) ≡ encode_strings ss ++ (n ++ (0 ∷ []))
unfolding encode_strings
strings_last [] n = refl
strings_last (s ∷ ss) n = ap (λ (l : List ℕ). s ++ (0 ∷ l)) (strings_last ss n) ∙ sym (append_assoc s (0 ∷ encode_strings ss) (n ++ (0 ∷ [])))

pub add_old : (ss : List Name) (n : Name) → has ss n ≡ true → add_name ss n ≡ ss
unfolding add_name
add_old ss n e = ap (λ (q : Bool). elim q as (λ z. List Name) [ true ↦ ss | false ↦ ss ++ (n ∷ []) ]) e

pub add_new : (ss : List Name) (n : Name) → has ss n ≡ false → add_name ss n ≡ ss ++ (n ∷ [])
unfolding add_name
add_new ss n e = ap (λ (q : Bool). elim q as (λ z. List Name) [ true ↦ ss | false ↦ ss ++ (n ∷ []) ]) e

-- the bytes that a name adds
pub strings_add : (ss : List Name) (n : Name) → encode_strings (add_name ss n) ≡ encode_strings ss ++ (elim (has ss n) as (λ z. List ℕ) [ true ↦ [] | false ↦ n ++ (0 ∷ []) ])
strings_add ss n = go (has ss n) refl
  where
    nothing : (l : List ℕ) → l ≡ l ++ []
    nothing [] = refl
    nothing (x ∷ l) = ap (λ (t : List ℕ). x ∷ t) (nothing l)

    go : (q : Bool) → has ss n ≡ q → encode_strings (add_name ss n) ≡ encode_strings ss ++ (elim q as (λ z. List ℕ) [ true ↦ [] | false ↦ n ++ (0 ∷ []) ])
    go true e = ap encode_strings (add_old ss n e) ∙ nothing (encode_strings ss)
    go false e = ap encode_strings (add_new ss n e) ∙ strings_last ss n

-- ---- where a name stands

place_before : (ss t : List Name) (n : Name) → has ss n ≡ true → place_in (ss ++ t) n ≡ place_in ss n
unfolding has place_in
place_before [] t n e = absurd (true≢false (sym e))
place_before (s ∷ ss) t n e = go (same_bytes s n) e (place_before ss t n)
  where
    go : (q : Bool) → or_else q (has ss n) ≡ true → (has ss n ≡ true → place_in (ss ++ t) n ≡ place_in ss n)
        → ◌≡◌ {A = ℕ} (elim q [ true ↦ 0 | false ↦ suc (length s) + place_in (ss ++ t) n ]) (elim q [ true ↦ 0 | false ↦ suc (length s) + place_in ss n ])
    go true h r = refl
    go false h r = ap (λ (k : ℕ). suc (length s) + k) (r h)

pub place_last : (ss : List Name) (n : Name) → has ss n ≡ false → place_in (ss ++ (n ∷ [])) n ≡ length (encode_strings ss)
unfolding has place_in encode_strings
place_last [] n e = ap (λ (q : Bool). elim q as (λ z. ℕ) [ true ↦ 0 | false ↦ suc (length n) + 0 ]) (bytes_self n)
place_last (s ∷ ss) n e = go (same_bytes s n) e (place_last ss n)
  where
    len : length (s ++ (0 ∷ encode_strings ss)) ≡ length s + suc (length (encode_strings ss))
    len = length-append s (0 ∷ encode_strings ss)

    go : (q : Bool) → or_else q (has ss n) ≡ false → (has ss n ≡ false → place_in (ss ++ (n ∷ [])) n ≡ length (encode_strings ss))
        → ◌≡◌ {A = ℕ} (elim q [ true ↦ 0 | false ↦ suc (length s) + place_in (ss ++ (n ∷ [])) n ]) (length (s ++ (0 ∷ encode_strings ss)))
    go true h r = absurd (true≢false h)
    go false h r = omega (arith, len, r h)

place_add : (ss : List Name) (x n : Name) → has ss n ≡ true → place_in (add_name ss x) n ≡ place_in ss n
place_add ss x n e = go (has ss x) refl
  where
    go : (q : Bool) → has ss x ≡ q → place_in (add_name ss x) n ≡ place_in ss n
    go true h = ap (λ (l : List Name). place_in l n) (add_old ss x h)
    go false h = ap (λ (l : List Name). place_in l n) (add_new ss x h) ∙ place_before ss (x ∷ []) n e

-- a name that is stored stays where it is
pub place_store : (ss ns : List Name) (n : Name) → has ss n ≡ true → place_in (store ss ns) n ≡ place_in ss n
unfolding store
place_store ss [] n e = refl
place_store ss (x ∷ ns) n e = place_store (add_name ss x) ns n (has_add ss x n ∙ ap (λ (t : Bool). or_else t (same_bytes x n)) e) ∙ place_add ss x n e

pub keeps_store : (ss ns : List Name) (n : Name) → has ss n ≡ true → has (store ss ns) n ≡ true
keeps_store ss ns n e = has_store ss ns n ∙ ap (λ (t : Bool). or_else t (has ns n)) e

pub or_true : (q : Bool) → or_else q true ≡ true
or_true true = refl
or_true false = refl

-- the empty name stands first
first_place : (ss : List Name) (n : Name) → is_empty n ≡ true → place_in (first_names ++ ss) n ≡ 0
unfolding is_empty place_in same_bytes
first_place ss [] e = refl
first_place ss (x ∷ n) e = absurd (true≢false (sym e))

pub place_empty : (ns : List Name) (n : Name) → is_empty n ≡ true → place_in (stored ns) n ≡ 0
place_empty ns n e =
    place_store first_names ns n (has_first n ∙ e)
    ∙ first_place [] n e
