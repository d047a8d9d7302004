-- One writer after another: how they are nested does not matter, nothing adds nothing, after a refusal comes nothing.
-- Assumes nothing.
use Prim.Native.Nat.{ℕ}
use mathlib.Core.Path.{◌≡◌, refl, ap, ap₂}
use mathlib.Core.List.{List, [], ◌++◌, append_assoc, append-nil}
use Rattle.spec_bytes.specs.text.Text.{Text, whole, cut, join}
use Rattle.spec_c_dumper.specs.rules.Writer.{Said, said, Writer, after, next, put, stop, nothing, ◌⨾◌}

join_assoc : (a b : List ℕ) (t : Text) → join (whole (a ++ b)) t ≡ join (whole a) (join (whole b) t)
unfolding join
join_assoc a b (whole c) = ap whole (append_assoc a b c)
join_assoc a b (cut c k) = ap (λ (l : List ℕ). cut l k) (append_assoc a b c)

module _ {U : Type 0} where
  after_after : (a b : List ℕ) (k l : List U) (s : Said U) → after (a ++ b) (k ++ l) s ≡ after a k (after b l s)
  unfolding after
  after_after a b k l (said u t m) = ap₂ (said u) (join_assoc a b t) (append_assoc k l m)

  after_next : (a : List ℕ) (k : List U) (s : Said U) (w : Writer U) → next (after a k s) w ≡ after a k (next s w)
  unfolding after next join
  after_next a k (said u (whole b) l) w = after_after a b k l (w u)
  after_next a k (said u (cut b c) l) w = refl

  next_next : (s : Said U) (w x : Writer U) → next (next s w) x ≡ next s (w ⨾ x)
  unfolding next ◌⨾◌
  next_next (said u (whole a) k) w x = after_next a k (w u) x
  next_next (said u (cut a c) k) w x = refl

  pub then_assoc : (v w x : Writer U) → (v ⨾ w) ⨾ x ≡ v ⨾ w ⨾ x
  unfolding ◌⨾◌
  then_assoc v w x = λ i u. next_next (v u) w x i

  after_none : (s : Said U) → after [] [] s ≡ s
  unfolding after join
  after_none (said u (whole b) m) = refl
  after_none (said u (cut b c) m) = refl

  pub nothing_then : (w : Writer U) → nothing ⨾ w ≡ w
  unfolding ◌⨾◌ put next
  nothing_then w = λ i u. after_none (w u) i

  next_nothing : (s : Said U) → next s nothing ≡ s
  unfolding next put after join
  next_nothing (said u (whole a) k) = ap₂ (λ (l : List ℕ) (m : List U). said u (whole l) m) (append-nil a) (append-nil k)
  next_nothing (said u (cut a c) k) = refl

  pub then_nothing : (w : Writer U) → w ⨾ nothing ≡ w
  unfolding ◌⨾◌
  then_nothing w = λ i u. next_nothing (w u) i

  pub stop_then : (c : ℕ) (w : Writer U) → stop c ⨾ w ≡ stop c
  unfolding ◌⨾◌ stop next
  stop_then c w = refl
