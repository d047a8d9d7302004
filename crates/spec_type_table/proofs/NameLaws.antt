-- Laws of names: a name is empty, or a byte that is not 0 and the name from the next place on. Assumes nothing.
use Prim.Native.Nat.{ℕ, zero, suc, ◌+◌, ◌<◌, ◌≤◌}
use mathlib.Core.Path.{◌≡◌, refl, ap, ◌∙◌, sym, subst}
use mathlib.Core.List.{List, [], ◌∷◌, ◌++◌, append-nil, append_assoc}
use mathlib.Core.Bool.{Bool, true, false, not, ◌||◌}
use mathlib.Core.Logic.{⊎_elim}
use native.Mathlib.Omega.{arith}
use native.Mathlib.Numerals.{add-one}
use lib.ListN.{length, get_or, take, drop, drop_of_length-le, get_or-eq_default, take-append-drop}
use lib.Seq.{drop-cons, take-suc, take-length}
use lib.Dec.{eqb, leb}
use denote.Ref.{Bor}
use Rattle.std.specs.Prelude.{Err, IsErrAnd, Option, Some, None, cond, nat_lt, position, ◌==◌}
use Rattle.std.proofs.lemmas.Bool.Decides.{nat_tests}
use Rattle.std.proofs.lemmas.List.Sums.{prefix_len-le-length}
use Rattle.std.specs.Option.{unwrap_or}
use Rattle.std.specs.declared.slice.Windows.{Windows}
use Rattle.std.specs.Slice.Iter.{windows_rest, windows_size, windows_steps}
use Rattle.std.specs.Iterator.{AlwaysYields}
use Rattle.std.specs.List.{list_any}
use Rattle.std.specs.Cmp.Lexicographic.{pointwise}
use Rattle.std.proofs.lemmas.Iterator.{YieldsList}
use Rattle.std.specs.List.{position_or_len}
use borrow.Author.Tests.{eq-eqb, ne_eqb, eqb-true, eqb-false, le-leb, lt-leb}
use Rattle.std.proofs.lemmas.Bool.{cases_lt}
use Rattle.spec_bytes.specs.declared.refusal.Refusal.{Refusal}
use Rattle.spec_bytes.specs.text.Text.{whole}
use Rattle.spec_bytes.specs.text.Placed.{Placed, put_out, put_text}
use Rattle.spec_bytes.proofs.text.TextLaws.{put_seq, put_same, put_empty, put_halts}
use Rattle.spec_c_dumper.specs.rules.Types.{is_empty}
use Rattle.spec_c_dumper.specs.rules.Names.{starts_with, contains, escaped_byte, escaped}
use Rattle.spec_type_table.specs.declared.types.TypeTable.{TypeTable}
use Rattle.spec_type_table.specs.Names.{up_to_zero, name_at, name_place, str_at}

up_zero : (x : ℕ) (l : List ℕ) → x ≡ 0 → up_to_zero (x ∷ l) ≡ []
unfolding up_to_zero
up_zero x l e = rw e

up_more : (x : ℕ) (l : List ℕ) → (x ≡ 0 → ⊥) → up_to_zero (x ∷ l) ≡ x ∷ up_to_zero l
unfolding up_to_zero
up_more zero l h = absurd (h refl)
up_more (suc x) l h = refl

module _ (s : List ℕ) (i : ℕ) where
  pub name_end : length s ≤ i → name_at s i ≡ []
  unfolding name_at up_to_zero
  name_end h = ap up_to_zero (drop_of_length-le s h)

  pub name_zero : get_or s i 0 ≡ 0 → name_at s i ≡ []
  unfolding name_at
  name_zero e = ⊎_elim (λ h. ap up_to_zero (drop-cons s i 0 h) ∙ up_zero (get_or s i 0) (drop (suc i) s) e) name_end (cases_lt i (length s))

  pub name_more : (get_or s i 0 ≡ 0 → ⊥) → name_at s i ≡ get_or s i 0 ∷ name_at s (i + 1)
  unfolding name_at
  name_more n =
      ⊎_elim
      (λ h. rw add-one (ap up_to_zero (drop-cons s i 0 h) ∙ up_more _ _ n))
      (λ h. absurd (n (get_or-eq_default s 0 h)))
      (cases_lt i (length s))

-- what stands before the first 0
pass_first : (x : ℕ) (l : List ℕ) → (x ≡ 0 → ⊥) → position_or_len (λ y. y == 0) (x ∷ l) ≡ suc (position_or_len (λ y. y == 0) l)
pass_first x l h = rw (ne_eqb x 0 h) (omega arith)

up_to_is : (l : List ℕ) → up_to_zero l ≡ take (position_or_len (λ y. y == 0) l) l
unfolding up_to_zero
up_to_is [] = refl
up_to_is (zero ∷ l) = refl
up_to_is (suc x ∷ l) = let n : suc x ≡ 0 → ⊥ = λ e. omega arith in rw (pass_first (suc x) l n) (ap (λ (m : List ℕ). suc x ∷ m) (up_to_is l))

or_all : (k n : ℕ) → k ≤ n → unwrap_or (cond (nat_lt k n) (Some k) None) n ≡ k
or_all k n h = grind (arith, nat_tests)

pub str_before : (b : TypeTable) (s : List ℕ) (off : ℕ) (r : List ℕ) (o : Option ℕ) (n : ℕ) → r ≡ drop (name_place b off) s → o ≡ position (λ x. x == 0) r → n ≡ unwrap_or o (length r) → take n r ≡ str_at b s off
unfolding name_at
str_before b s off r o n er eo en =
    let k : n ≡ position_or_len (λ y. y == 0) r = rw eo at en ∙ or_all _ _ (prefix_len-le-length (λ y. not (y == 0)) r) in
    rw (k, er) (sym (up_to_is (drop (name_place b off) s)))

first_of : (l : List ℕ) → is_empty (up_to_zero l) ≡ eqb (get_or l 0 0) 0
unfolding up_to_zero is_empty
first_of [] = refl
first_of (zero ∷ l) = refl
first_of (suc x ∷ l) = let n : suc x ≡ 0 → ⊥ = λ e. omega arith in sym (ne_eqb (suc x) 0 n)

pub empty_first : (b : TypeTable) (s : List ℕ) (off : ℕ) (r : List ℕ) → r ≡ drop (name_place b off) s → is_empty (str_at b s off) ≡ eqb (get_or r 0 0) 0
unfolding name_at
empty_first b s off r e = rw e (first_of (drop (name_place b off) s))

-- ---- a word in a name
starts_short : (w l : List ℕ) → length l < length w → starts_with w l ≡ false
unfolding starts_with
starts_short [] l h = absurd (omega arith)
starts_short (a ∷ w) [] h = refl
starts_short (a ∷ w) (b ∷ l) h = go (eqb a b) (starts_short w l (omega arith))
  where
    go : (t : Bool) → starts_with w l ≡ false → elim t as (λ x. Bool) [ true ↦ starts_with w l | false ↦ false ] ≡ false
    go true e = e
    go false e = refl

starts_same : (a b : ℕ) (w l : List ℕ) → a ≡ b → starts_with (a ∷ w) (b ∷ l) ≡ starts_with w l
unfolding starts_with
starts_same a b w l e = rw (eq-eqb a b e, starts_with)

starts_other : (a b : ℕ) (w l : List ℕ) → (a ≡ b → ⊥) → starts_with (a ∷ w) (b ∷ l) ≡ false
unfolding starts_with
starts_other a b w l n = rw (ne_eqb a b n, starts_with)

short : (w s : List ℕ) → length s < length w → contains w s ≡ false
unfolding contains is_empty
short [] [] h = absurd (omega arith)
short (a ∷ w) [] h = refl
short w (b ∷ s) h = rw (starts_short w (b ∷ s) h, contains) (short w s (omega arith))

-- what `windows` gives: n elements from each place on
pub windows_of : ℕ → List ℕ → List (List ℕ)
windows_of n [] = []
windows_of n (x ∷ l) = elim (leb n (suc (length l))) [ true ↦ take n (x ∷ l) ∷ windows_of n l | false ↦ [] ]

windows_more : (n x : ℕ) (l : List ℕ) → n ≤ suc (length l) → windows_of n (x ∷ l) ≡ take n (x ∷ l) ∷ windows_of n l
unfolding windows_of
windows_more n x l m = rw (le-leb n (suc (length l)) m, windows_of)

windows_none : (n x : ℕ) (l : List ℕ) → suc (length l) < n → windows_of n (x ∷ l) ≡ []
unfolding windows_of
windows_none n x l m = rw (lt-leb n (suc (length l)) m, windows_of)

module _ (n : ℕ) (h : 0 < n) where
  abbrev Gives : List ℕ → Type 0
  Gives l = (s : Windows ℕ) → windows_size s ≡ n → windows_rest s ≡ l → AlwaysYields windows_steps (λ y. y.now) s (windows_of n l)

  gives_more : (y : ℕ) (l : List ℕ) → Gives l → Gives (y ∷ l)
  gives_more y l ih s en el = ⊎_elim outside inside (cases_lt (suc (length l)) n)
    where
      e : length (windows_rest s) ≡ suc (length l)
      e = ap length el

      inside : n ≤ suc (length l) → AlwaysYields windows_steps (λ y. y.now) s (windows_of n (y ∷ l))
      inside m =
          subst (AlwaysYields windows_steps (λ (y : Bor (List ℕ)). y.now) s) (sym (windows_more n y l m)) (
            (λ j p. omega (arith, p.1.0, e)),
            λ x j p. (p.1.1 ∙ (λ i. take (en i) (el i)), ih j (p.0 ∙ en) (p.1.2 ∙ ap (drop 1) el)),
          )

      outside : suc (length l) < n → AlwaysYields windows_steps (λ y. y.now) s (windows_of n (y ∷ l))
      outside m = subst (AlwaysYields windows_steps (λ (y : Bor (List ℕ)). y.now) s) (sym (windows_none n y l m)) (λ x j p. omega (arith, p.1.0, e))

  gives : (l : List ℕ) → Gives l
  unfolding windows_of
  gives [] s en el = λ x j p. let e : length (windows_rest s) ≡ 0 = ap length el in omega (arith, p.1.0)
  gives (y ∷ l) s en el = gives_more y l (gives l) s en el

  pub yields_windows : (l : List ℕ) {s : Windows ℕ} → windows_size s ≡ n → windows_rest s ≡ l → YieldsList windows_steps (λ y. y.now) s (windows_of n l)
  yields_windows l {s} en el = record { runs = gives l s en el }

same_front : (w l : List ℕ) → length w ≤ length l → pointwise eqb (take (length w) l) w ≡ starts_with w l
unfolding starts_with
same_front [] l h = refl
same_front (a ∷ w) [] h = absurd (omega arith)
same_front (a ∷ w) (b ∷ l) h = go (eqb a b) refl (same_front w l (omega arith))
  where
    go : (t : Bool) → eqb a b ≡ t → pointwise eqb (take (length w) l) w ≡ starts_with w l → pointwise eqb (take (length (a ∷ w)) (b ∷ l)) (a ∷ w) ≡ starts_with (a ∷ w) (b ∷ l)
    go true e ih =
        let q : a ≡ b = eqb-true a b e in
        let k : pointwise eqb (take (length (a ∷ w)) (b ∷ l)) (a ∷ w) ≡ starts_with w l = rw (eq-eqb b a (sym q)) ih in
        k ∙ sym (starts_same a b w l q)
    go false e ih =
        let n : a ≡ b → ⊥ = eqb-false a b e in
        let k : pointwise eqb (take (length (a ∷ w)) (b ∷ l)) (a ∷ w) ≡ false = rw (ne_eqb b a (λ z. n (sym z))) in
        k ∙ sym (starts_other a b w l n)

abbrev has_window : List ℕ → List ℕ → Bool
has_window w l = list_any (λ p. pointwise eqb p w) (windows_of (length w) l)

window_more : (w : List ℕ) (x : ℕ) (l : List ℕ) → has_window w l ≡ contains w l → has_window w (x ∷ l) ≡ contains w (x ∷ l)
unfolding contains
window_more w x l ih = ⊎_elim outside inside (cases_lt (suc (length l)) (length w))
  where
    by_front : (t : Bool) → t || has_window w l ≡ elim t as (λ x. Bool) [ true ↦ true | false ↦ contains w l ]
    by_front true = refl
    by_front false = ih

    inside : length w ≤ suc (length l) → has_window w (x ∷ l) ≡ contains w (x ∷ l)
    inside m =
        let k : list_any (λ p. pointwise eqb p w) (take (length w) (x ∷ l) ∷ windows_of (length w) l) ≡ contains w (x ∷ l) = rw (same_front w (x ∷ l) m) (by_front (starts_with w (x ∷ l))) in
        ap (list_any (λ p. pointwise eqb p w)) (windows_more (length w) x l m) ∙ k

    outside : suc (length l) < length w → has_window w (x ∷ l) ≡ contains w (x ∷ l)
    outside m = ap (list_any (λ p. pointwise eqb p w)) (windows_none (length w) x l m) ∙ sym (short w (x ∷ l) m)

-- the word stands in l where some window is the word
pub any_window : (w : List ℕ) → 0 < length w → (l : List ℕ) → list_any (λ p. pointwise eqb p w) (windows_of (length w) l) ≡ contains w l
unfolding contains is_empty windows_of
any_window [] h l = absurd (omega arith)
any_window (a ∷ w) h [] = refl
any_window (a ∷ w) h (x ∷ l) = window_more (a ∷ w) x l (any_window (a ∷ w) h l)

-- ---- escapes
pub escaped_92 : (x : ℕ) → x ≡ 92 → 92 ∷ 92 ∷ [] ≡ escaped_byte x
unfolding escaped_byte
escaped_92 x e = rw e

pub escaped_34 : (x : ℕ) → x ≡ 34 → 92 ∷ 34 ∷ [] ≡ escaped_byte x
unfolding escaped_byte
escaped_34 x e = rw e

pub escaped_10 : (x : ℕ) → x ≡ 10 → 92 ∷ 110 ∷ [] ≡ escaped_byte x
unfolding escaped_byte
escaped_10 x e = rw e

pub escaped_13 : (x : ℕ) → x ≡ 13 → 92 ∷ 114 ∷ [] ≡ escaped_byte x
unfolding escaped_byte
escaped_13 x e = rw e

pub escaped_9 : (x : ℕ) → x ≡ 9 → 92 ∷ 116 ∷ [] ≡ escaped_byte x
unfolding escaped_byte
escaped_9 x e = rw e

pub escaped_plain : (x : ℕ) → (x ≡ 92 → ⊥) → (x ≡ 34 → ⊥) → (x ≡ 10 → ⊥) → (x ≡ 13 → ⊥) → (x ≡ 9 → ⊥) → x ∷ [] ≡ escaped_byte x
unfolding escaped_byte
escaped_plain x a b c d e = rw (ne_eqb x 92 a, escaped_byte, ne_eqb x 34 b, ne_eqb x 10 c, ne_eqb x 13 d, ne_eqb x 9 e)

pub ruleset escapes = (escaped_92, escaped_34, escaped_10, escaped_13, escaped_9, escaped_plain)

escaped_append : (a b : List ℕ) → escaped (a ++ b) ≡ escaped a ++ escaped b
unfolding escaped
escaped_append [] b = refl
escaped_append (x ∷ a) b = ap (λ (l : List ℕ). escaped_byte x ++ l) (escaped_append a b) ∙ sym (append_assoc (escaped_byte x) (escaped a) (escaped b))

escaped_one : (x : ℕ) → escaped_byte x ≡ escaped (x ∷ [])
unfolding escaped
escaped_one x = sym (append-nil (escaped_byte x))

-- shut, for the same reason
pub escaped_first : List ℕ → ℕ → List ℕ
escaped_first name i = escaped (take i name)

module _ (t : List ℕ) (at : Placed) (name : List ℕ) where
  pub escape_none : put_out at t ≡ put_text t at (whole (escaped_first name 0))
  unfolding escaped_first escaped
  escape_none = put_empty t at

  module _ (i : ℕ) (u : List ℕ) (p : Placed) (out : put_out p u ≡ put_text t at (whole (escaped_first name i))) where
    pub escape_more : (v : List ℕ) (q : Placed) → i < length name → put_out q v ≡ put_text u p (whole (escaped_byte (get_or name i 0))) → put_out q v ≡ put_text t at (whole (escaped_first name (i + 1)))
    unfolding escaped_first
    escape_more v q l o =
        put_same t at (escaped (take i name) ++ escaped_byte (get_or name i 0)) (escaped (take (i + 1) name)) q v one
        (put_seq t at (escaped (take i name)) (escaped_byte (get_or name i 0)) p u q v out o)
      where
        one : escaped (take i name) ++ escaped_byte (get_or name i 0) ≡ escaped (take (i + 1) name)
        one =
            ap (λ (l : List ℕ). escaped (take i name) ++ l) (escaped_one (get_or name i 0))
            ∙ sym (escaped_append (take i name) (get_or name i 0 ∷ []))
            ∙ ap escaped (sym (rw add-one (take-suc name i 0 l)))

    pub escape_all : i ≡ length name → put_out p u ≡ put_text t at (whole (escaped name))
    unfolding escaped_first
    escape_all e = put_same t at (escaped (take i name)) (escaped name) p u (ap escaped (rw e (take-length name))) out

  -- a byte that could not be written ends the whole
  pub escape_stops : (i : ℕ) (u : List ℕ) (c : Refusal) (r : Placed) → put_out (Err c) u ≡ put_text t at (whole (escaped_first name i)) → IsErrAnd r (λ e. e ≡ c) → put_out r u ≡ put_text t at (whole (escaped name))
  unfolding escaped_first
  escape_stops i u c r o e =
      put_same t at (escaped (take i name) ++ escaped (drop i name)) (escaped name) r u
      (sym (escaped_append (take i name) (drop i name)) ∙ ap escaped (take-append-drop i name))
      (put_halts t at (escaped (take i name)) (escaped (drop i name)) c r u o e)
