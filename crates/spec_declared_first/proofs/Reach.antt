-- What a declaration can come to: the ids that are reached from an id, past everything but named composites.
use Prim.Native.Nat.{ℕ}
use mathlib.Core.Path.{◌≡◌, refl, sym, ◌∙◌, ap, subst}
use mathlib.Core.Bool.{Bool, true, false, ◌&&◌, true≢false}
use mathlib.Core.List.{Memᴰ}
use mathlib.Core.Logic.{◌⊎◌, inl, inr}
use mathlib.Core.WellFounded.{Acc}
use Rattle.spec_c_dumper.specs.rules.Order.{Node, ignored, plain, listed, through, ptr, tdef, proto, comp, Table, is_comp}
use Rattle.spec_c_dumper.specs.needs.Needs.{kids}
use Rattle.spec_c_dumper.proofs.needs.Placed.{is_def}

-- a named composite: a declaration goes no further
abbrev pub stops : Table → ℕ → Bool
stops T x = is_comp (T.node x) && T.named x

pub data Reach (T : Table) : ℕ → ℕ → Type 0 where
  at : {x y : ℕ} → x ≡ y → Reach T x y
  on : {x z y : ℕ} → stops T x ≡ false → Memᴰ z (kids (T.node x)) → Reach T z y → Reach T x y

abbrev pub is_leaf : Node → Bool
is_leaf ignored = false
is_leaf plain = false
is_leaf (listed f) = true
is_leaf (through a t) = false
is_leaf (ptr t) = false
is_leaf (tdef t) = false
is_leaf (proto ts) = false
is_leaf (comp ts) = false

-- an enum or a FWD with a name
abbrev pub Leaf : Table → ℕ → Type 0
Leaf T x = (is_leaf (T.node x) ≡ true) × (T.named x ≡ true)

-- a composite, an enum, a FWD or a typedef with a name
abbrev pub HasName : Table → ℕ → Type 0
HasName T x = (is_def (T.node x) ≡ true) × (T.named x ≡ true)

-- one step
abbrev pub Down : Table → ℕ → ℕ → Type 0
Down T z x = (stops T x ≡ false) × Memᴰ z (kids (T.node x))

-- every way from x comes to an end
abbrev pub Ends : Table → ℕ → Type 0
Ends T x = Acc (λ (z y : ℕ). Down T z y) x

pub reach_snoc : {T : Table} {x y z : ℕ} → Reach T x y → Down T z y → Reach T x z
reach_snoc {T} {z = z} (at e) d = let q : Down T z _ = subst (λ (k : ℕ). Down T z k) (sym e) d in on q.0 q.1 (at refl)
reach_snoc (on s m r) d = on s m (reach_snoc r d)

rotate : {T : Table} {x z : ℕ} → Down T z x → Reach T z x → (w : ℕ) × Down T w z × Reach T w z
rotate {T} {z = z} d (at e) = (z, subst (λ (k : ℕ). Down T z k) (sym e) d, at refl)
rotate d (on {z = w} s m r) = (w, (s, m), reach_snoc r d)

-- no way comes back
pub ends_once : {T : Table} {x : ℕ} → Ends T x → (z : ℕ) → Down T z x → Reach T z x → ⊥
ends_once {T} e = elim e as (λ x e. (z : ℕ) → Down T z x → Reach T z x → ⊥) [ Acc.intro x (h → ih) ↦ λ z d r. let q : (w : ℕ) × Down T w z × Reach T w z = rotate d r in ih z d q.0 q.1 q.2 ]

module _ (T : Table) where
  pub reach_stop : (x y : ℕ) → stops T x ≡ true → Reach T x y → x ≡ y
  reach_stop x y h (at e) = e
  reach_stop x y h (on s m r) = absurd (true≢false (sym h ∙ s))

  pub reach_past : (x y : ℕ) (nd : Node) → T.node x ≡ nd → Reach T x y → (x ≡ y) ⊎ ((z : ℕ) × Memᴰ z (kids nd) × Reach T z y)
  reach_past x y nd e (at q) = inl q
  reach_past x y nd e (on {z = z} s m r) = inr (z, subst (λ (k : Node). Memᴰ z (kids k)) e m, r)

  -- no composite, or a nameless one
  pub goes_on : (x : ℕ) (nd : Node) → T.node x ≡ nd → is_comp nd ≡ false → stops T x ≡ false
  goes_on x nd e nc = ap (λ (k : Node). is_comp k && T.named x) e ∙ ap (λ (b : Bool). b && T.named x) nc

  and_false : (b : Bool) → (b && false) ≡ false
  and_false true = refl
  and_false false = refl

  pub nameless_on : (x : ℕ) → T.named x ≡ false → stops T x ≡ false
  nameless_on x e = ap (λ (b : Bool). is_comp (T.node x) && b) e ∙ and_false (is_comp (T.node x))

  pub named_stops : (x : ℕ) → is_comp (T.node x) ≡ true → T.named x ≡ true → stops T x ≡ true
  named_stops x c e = ap (λ (b : Bool). b && T.named x) c ∙ e
