-- `eq` of two chains whose lists are known: std has no lemma of it. Assumes nothing.
use Prim.Native.Nat.{ℕ}
use mathlib.Core.Path.{◌≡◌, refl, ap₂, sym, ◌∙◌, subst}
use mathlib.Core.List.{List, [], ◌∷◌}
use mathlib.Core.Bool.{Bool, true, false}
use lib.Dec.{eqb}
use borrow.Author.Tests.{eqb-true, eqb-false}
use Rattle.std.proofs.lemmas.Iterator.{YieldsList}
use Rattle.std.specs.Prelude.{Option, Some, None}
use Rattle.std.specs.Option.{MatchOption, IfSome}
use Rattle.std.specs.List.{AllZip}
use Rattle.std.specs.Iterator.{YieldsThen, AlwaysYields, ComparesItemsByEq}
use Rattle.btf_open_names.specs.name_classes.Same.{same_list}
use Rattle.btf_open_names.proofs.name_classes.Names.{same_heads, other_heads}

module _ {S T A : Type 0} (steps : S → Option A → S → Type 0) (others : T → Option A → T → Type 0) (v : A → ℕ) (eq : A → A → Bool) (same : (x y : A) → eq x y ≡ eqb (v x) (v y)) where
  abbrev Last : Bool → Option A → Option A → Type 0
  Last r o p = MatchOption o (MatchOption p (r ≡ true) (λ _. r ≡ false)) (λ x. (r ≡ false) × IfSome p (λ y. eq x y ≡ false))

  -- what came last on one side: nothing where its list is at its end, and else its first
  module _ {U : Type 0} (moves : U → Option A → U → Type 0) where
    nothing : (s : U) (o : Option A) (u : U) → AlwaysYields moves v s [] → moves s o u → o ≡ None
    nothing s None u e n = refl
    nothing s (Some x) u e n = absurd (e x u n)

    first : (a : ℕ) (l : List ℕ) (s : U) (o : Option A) (u : U) → AlwaysYields moves v s (a ∷ l) → moves s o u → IfSome o (λ x. v x ≡ a) × (o ≡ None → ⊥)
    first a l s None u e n = absurd (e.0 u n)
    first a l s (Some x) u e n = ((e.1 x u n).0, λ q. absurd (cc))

  ended : (l m : List ℕ) (o p : Option A) (s u : S) (t w : T) (r : Bool) → AlwaysYields steps v s l → AlwaysYields others v t m → steps s o u → others t p w → Last r o p → r ≡ same_list l m
  unfolding same_list
  ended [] [] None None s u t w r e f n j z = z
  ended [] [] None (Some y) s u t w r e f n j z = absurd (f y w j)
  ended [] m (Some x) p s u t w r e f n j z = absurd (e x u n)
  ended [] (b ∷ m) None None s u t w r e f n j z = absurd (f.0 w j)
  ended [] (b ∷ m) None (Some y) s u t w r e f n j z = z
  ended (a ∷ l) m None p s u t w r e f n j z = absurd (e.0 u n)
  ended (a ∷ l) [] (Some x) p s u t w r e f n j z = z.0
  ended (a ∷ l) (b ∷ m) (Some x) None s u t w r e f n j z = absurd (f.0 w j)
  ended (a ∷ l) (b ∷ m) (Some x) (Some y) s u t w r e f n j z =
      z.0 ∙ sym (other_heads a b l m (eqb-false a b (ap₂ eqb (sym (e.1 x u n).0) (sym (f.1 y w j).0) ∙ sym (same x y) ∙ z.1)))

  run : (xs ys : List A) (l m : List ℕ) (o p : Option A) (s u : S) (t w : T) (r : Bool) → AlwaysYields steps v s l → AlwaysYields others v t m
      → YieldsThen steps s xs o u → YieldsThen others t ys p w → AllZip (λ x y. eq x y ≡ true) xs ys → Last r o p → r ≡ same_list l m
  run [] [] l m o p s u t w r e f (s2, g, n) (t2, h, j) k z = ended l m o p s u t w r e f (subst (λ (q : S). steps q o u) (sym g) n) (subst (λ (q : T). others q p w) (sym h) j) z
  run [] (y ∷ ys) l m o p s u t w r e f n j k z = absurd k
  run (x ∷ xs) [] l m o p s u t w r e f n j k z = absurd k
  run (x ∷ xs) (y ∷ ys) [] m o p s u t w r e f (s2, g, n) j k z = absurd (e x g.0 g.1)
  run (x ∷ xs) (y ∷ ys) (a ∷ l) [] o p s u t w r e f n (t2, h, j) k z = absurd (f y h.0 h.1)
  run (x ∷ xs) (y ∷ ys) (a ∷ l) (b ∷ m) o p s u t w r e f (s2, g, n) (t2, h, j) k z =
      let d = e.1 x g.0 g.1 in
      let c = f.1 y h.0 h.1 in
      run xs ys l m o p g.0 u h.0 w r d.1 c.1 (s2, g.2, n) (t2, h.2, j) k.1 z
      ∙ sym (same_heads a b l m (eqb-true a b (ap₂ eqb (sym d.0) (sym c.0) ∙ sym (same x y) ∙ k.0)))

-- the clause `ran` of a call of `eq`, where the other chain is its own iterator
pub same_from_yields_List : {S T A : Type 0} {steps : S → Option A → S → Type 0} {others : T → Option A → T → Type 0} {v : A → ℕ} {eq : A → A → Bool} (same : (x y : A) → eq x y ≡ eqb (v x) (v y))
    {s : S} {other : T} {r : Bool} {l m : List ℕ} → ComparesItemsByEq steps (λ (a b : T). b ≡ a) others s other eq r → YieldsList steps v s l → YieldsList others v other m → r ≡ same_list l m
same_from_yields_List {steps = steps} {others = others} {v = v} {eq = eq} same {s = s} {r = r} {l = l} {m = m} (t, xs, ys, o, p, u, w, i, n, j, k, z) e f =
    run steps others v eq same xs ys l m o p s u t w r e.runs (subst (λ q. AlwaysYields others v q m) (sym i) f.runs) n j k z
