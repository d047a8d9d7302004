-- The first of the numbers below n, from the last one down, that is no qualifier's place: what skip_mods finds. Assumes nothing.
use Prim.Native.Nat.{ℕ, zero, suc, ◌+◌, ◌-◌, ◌<◌}
use mathlib.Core.Path.{◌≡◌, ap, ap₂, ◌∙◌, sym, subst}
use mathlib.Core.List.{List, [], ◌∷◌}
use mathlib.Core.Bool.{Bool, true, false}
use native.Mathlib.Omega.{arith}
use lib.ListN.{length}
use denote.Ref.{Bor}
use denote.Param.Members.{Mut}
use Rattle.std.specs.Prelude.{Option, Some, None}
use Rattle.std.specs.declared.ops.Range.{Range}
use Rattle.std.specs.declared.iter.Rev.{Rev}
use Rattle.std.specs.Iterator.{YieldsThen}
use Rattle.std.specs.Iterator.Adapters.{rev_source, rev_steps}
use Rattle.std.specs.List.{FoldsTo, AllWithin, HoldsAt}
use Rattle.std.specs.Option.{MatchOption}
use Rattle.std.specs.Fn.{CalledAt}
use Rattle.std.specs.Bool.{⊤}
use Rattle.std.proofs.lemmas.Iterator.{YieldsList, first_from_find}
use Rattle.std.proofs.lemmas.Iterator.Consumers.{YieldsList-from_shown}
use Rattle.spec_type_table.specs.declared.types.TypeTable.{TypeTable}
use Rattle.c_dumper_bodies.specs.chain.Chains.{is_qualifier, kind_at, skipped}
use Rattle.c_dumper_bodies.proofs.chain.Paths.{skip_go, skip_stay, skip_zero}

-- a range from its end on
abbrev pub back : Range ℕ → Option ℕ → Range ℕ → Type 0
back s r t = (t.start ≡ s.start) × MatchOption r ((s.end - s.start ≡ 0) × (t.end ≡ s.end)) (λ x. (0 < s.end - s.start) × (x ≡ t.end) × (s.end ≡ t.end + 1))

abbrev down : ℕ → ℕ → List ℕ
down a zero = []
down a (suc n) = (a + n) ∷ down a n

abbrev shown : Rev (Range ℕ) → List ℕ
shown u = down (rev_source u).start ((rev_source u).end - (rev_source u).start)

yields_down : (s : Rev (Range ℕ)) → YieldsList (rev_steps back) (λ x. x) s (shown s)
yields_down s =
    YieldsList-from_shown (rev_steps back) (λ x. x) shown (λ u t p. ap (λ n. length (down (rev_source u).start n)) p.1.0)
    (λ u x t p.
    let m : (rev_source u).end - (rev_source u).start ≡ suc ((rev_source t).end - (rev_source t).start) = omega (arith, p.0, p.1.0, p.1.2) in
    let h : (rev_source u).start + ((rev_source t).end - (rev_source t).start) ≡ x = omega (arith, p.0, p.1.0, p.1.1, p.1.2) in
    ap (down (rev_source u).start) m ∙ ap₂ (λ (y a : ℕ). y ∷ down a ((rev_source t).end - (rev_source t).start)) h (sym p.0))
    s

module _ (b : TypeTable) (s w : List ℕ) (start : ℕ) where
  abbrev pub Stays : ℕ → Type 0
  Stays k = is_qualifier (kind_at b s w start k) ≡ false

  abbrev pub Goes : ℕ → Type 0
  Goes k = is_qualifier (kind_at b s w start k) ≡ true

  none_stays : (n : ℕ) → AllWithin Goes (down 0 n) 0 (length (down 0 n)) → skipped b s w start n ≡ 0
  none_stays zero h = skip_zero b s w start
  none_stays (suc n) h = skip_go b s w start n (subst Goes (omega arith) (h 0 0 (omega arith) (omega arith))) ∙ none_stays n (λ i d a l. h (suc i) d (omega arith) (omega arith))

  one_stays : (n x i : ℕ) → Stays x → i < length (down 0 n) → HoldsAt (λ y. y ≡ x) (down 0 n) i → AllWithin Goes (down 0 n) 0 i → x + 1 ≡ skipped b s w start n
  one_stays zero x i y l h k = absurd (omega arith)
  one_stays (suc n) x zero y l h k =
      let e : x ≡ n = omega (arith, h 0) in
      let m : x + 1 ≡ suc n = omega arith in
      m ∙ sym (skip_stay b s w start n (subst Stays e y))
  one_stays (suc n) x (suc i) y l h k =
      one_stays n x i y (omega arith) h (λ j d a m. k (suc j) d (omega arith) (omega arith))
      ∙ sym (skip_go b s w start n (subst Goes (omega arith) (k 0 0 (omega arith) (omega arith))))

  module _ {F : Type 0} {g : Mut F (Bor ℕ × Unit {0}) Bool} (v u : Rev (Range ℕ)) (f : F) (r : Option ℕ) (n : ℕ) (from : rev_source v ≡ record { start = 0; end = n })
      (ran : (xs : List ℕ) × (j : F) × YieldsThen (rev_steps back) v xs r u × FoldsTo (λ p x q. CalledAt g p x false q) f xs j × MatchOption r ⊤ (λ x. (h : F) × CalledAt g j x true h))
      (yes : (x : ℕ) (q : F) → CalledAt g f x true q → Stays x) (no : (x : ℕ) (q : F) → CalledAt g f x false q → (q ≡ f) × Goes x) where
    first : MatchOption r (AllWithin Goes (down 0 n) 0 (length (down 0 n))) (λ x. Stays x × (i : ℕ) × (i < length (down 0 n)) × HoldsAt (λ y. y ≡ x) (down 0 n) i × AllWithin Goes (down 0 n) 0 i)
    first =
        let z : n - 0 ≡ n = omega arith in
        first_from_find u f r Stays Goes ran (subst (YieldsList (rev_steps back) (λ x. x) v) (ap (λ (k : Range ℕ). down k.start (k.end - k.start)) from ∙ ap (down 0) z) (yields_down v)) yes no

    pub found_none : r ≡ None → 0 ≡ skipped b s w start n
    found_none e = sym (none_stays n (subst (λ o. MatchOption o (AllWithin Goes (down 0 n) 0 (length (down 0 n))) (λ x. Stays x × (i : ℕ) × (i < length (down 0 n)) × HoldsAt (λ y. y ≡ x) (down 0 n) i × AllWithin Goes (down 0 n) 0 i)) e first))

    pub found_some : (x : ℕ) → r ≡ Some x → x + 1 ≡ skipped b s w start n
    found_some x e =
        let h = subst (λ o. MatchOption o (AllWithin Goes (down 0 n) 0 (length (down 0 n))) (λ x. Stays x × (i : ℕ) × (i < length (down 0 n)) × HoldsAt (λ y. y ≡ x) (down 0 n) i × AllWithin Goes (down 0 n) 0 i)) e first in
        one_stays n x h.1 h.0 h.2 h.3 h.4
