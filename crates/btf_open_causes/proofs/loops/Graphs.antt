-- The test `has_loop` holds exactly when there is a loop. Assumes nothing.
use Prim.Native.Nat.{ℕ, zero, suc, ◌+◌, ◌-◌, ◌<◌, ◌≤◌}
use mathlib.Core.Path.{◌≡◌, refl, ap, ◌∙◌, sym, subst}
use mathlib.Core.Bool.{true}
use mathlib.Core.Logic.{⊎_elim, ◌↔◌}
use native.Mathlib.Omega.{arith}
use Rattle.std.proofs.lemmas.Bool.{cases_lt}
use Rattle.btf_open_causes.specs.loops.Graph.{Graph, Edge, Loop, long, has_loop}
use Rattle.btf_open_causes.specs.loops.Walk.{Safe, safe}
use Rattle.btf_open_causes.proofs.references.Twice.{twice}
use Rattle.btf_open_causes.proofs.references.Any.{any_find, any_yes}

-- a walk that comes back to where it was has a loop in it
pub cut : (G : Graph) (f : ℕ → ℕ) (i j : ℕ) → i < j → f i ≡ f j → ((k : ℕ) → i ≤ k → k < j → Edge G (f k) (f (suc k))) → Loop G
cut G f i j l e edges = record {
  n = j - i;
  x = λ k. f (i + k);
  some = omega arith;
  round = let p : i + (j - i) ≡ j = omega arith in let q : i + 0 ≡ i = omega arith in ap f p ∙ sym e ∙ ap f (sym q);
  edges = λ k h. let p : i + suc k ≡ suc (i + k) = omega arith in subst (λ (z : ℕ). Edge G (f (i + k)) (f z)) (sym p) (edges (i + k) (omega arith) (omega arith));
}

-- on a loop each node has a successor on the loop
pub on : {G : Graph} (l : Loop G) (i : ℕ) → i < l.n → (j : ℕ) × (j < l.n) × Edge G (l.x i) (l.x j)
on {G} l i h = ⊎_elim last (λ p. (suc i, p, l.edges i h)) (cases_lt l.n (suc (suc i)))
  where
    last : l.n < suc (suc i) → (j : ℕ) × (j < l.n) × Edge G (l.x i) (l.x j)
    last p = let e : suc i ≡ l.n = omega arith in (0, l.some, subst (Edge G (l.x i)) (ap l.x e ∙ l.round) (l.edges i h))

-- what is safe is on no loop
pub safe_off : {G : Graph} (l : Loop G) {z : ℕ} → Safe G z → (i : ℕ) → i < l.n → l.x i ≡ z → ⊥
safe_off {G} l (safe {x = z} s) i h e =
    let q = on l i h in
    let k = q.2.0 in
    let b : k < G.deg z = subst (λ (a : ℕ). k < G.deg a) e q.2.1 in
    safe_off l (s k b) q.0 q.1 (sym q.2.2 ∙ ap (λ (a : ℕ). G.to a k) e)

-- and all are safe only where there is none
pub all_safe : {G : Graph} → ((x : ℕ) → x < G.size → Safe G x) → Loop G → ⊥
all_safe {G} s l = safe_off l (at (l.x 0)) 0 l.some refl
  where
    at : (x : ℕ) → Safe G x
    at x = ⊎_elim (s x) (λ h. safe (λ k p. absurd (none k (subst (λ (a : ℕ). k < a) (G.out x h) p)))) (cases_lt x G.size)
      where
        none : (k : ℕ) → k < 0 → ⊥
        none k p = omega arith

module _ (G : Graph) where
  loop_long : (l : Loop G) (k i : ℕ) → i < l.n → long G k (l.x i) ≡ true
  unfolding long
  loop_long l zero i h = refl
  loop_long l (suc k) i h =
      let q = on l i h in
      any_yes (G.deg (l.x i)) (λ j. long G k (G.to (l.x i) j)) q.2.0 q.2.1 (ap (long G k) q.2.2 ∙ loop_long l k q.0 q.1)

  inside : (x k : ℕ) → k < G.deg x → x < G.size
  inside x k h = ⊎_elim (λ p. p) (λ p. absurd (none (G.out x p))) (cases_lt x G.size)
    where
      none : G.deg x ≡ 0 → ⊥
      none e = omega arith

  pub has_loop_yes : Loop G → has_loop G ≡ true
  unfolding has_loop
  has_loop_yes l =
      any_yes G.size (λ x. long G (suc G.size) x) (l.x 0) (inside (l.x 0) (l.edges 0 l.some).0 (l.edges 0 l.some).1) (loop_long l (suc G.size) 0 l.some)

  record Steps (k x : ℕ) : Type 0 where
    f : ℕ → ℕ
    first : f 0 ≡ x
    edges : (i : ℕ) → i < k → Edge G (f i) (f (suc i))

  before : ℕ → (ℕ → ℕ) → ℕ → ℕ
  before x f zero = x
  before x f (suc i) = f i

  long_steps : (k x : ℕ) → long G k x ≡ true → Steps k x
  unfolding long before
  long_steps zero x e = record { f = λ i. x; first = refl; edges = λ i h. absurd (omega arith) }
  long_steps (suc k) x e = let q = any_find (G.deg x) (λ j. long G k (G.to x j)) e in put q.0 q.1 (long_steps k (G.to x q.0) q.2)
    where
      put : (j : ℕ) → j < G.deg x → Steps k (G.to x j) → Steps (suc k) x
      put j h s = record { f = before x s.f; first = refl; edges = each }
        where
          each : (i : ℕ) → i < suc k → Edge G (before x s.f i) (before x s.f (suc i))
          each zero p = (j, h, sym s.first)
          each (suc i) p = s.edges i (omega arith)

  pub has_loop_no : has_loop G ≡ true → Loop G
  unfolding has_loop
  has_loop_no e =
      let q = any_find G.size (λ x. long G (suc G.size) x) e in
      found (long_steps (suc G.size) q.0 q.2)
    where
      found : {x : ℕ} → Steps (suc G.size) x → Loop G
      found s =
          let t = twice G.size s.f (λ i h. let q = s.edges i (omega arith) in inside (s.f i) q.0 q.1) in
          cut G s.f t.i t.j t.less t.same (λ k a b. s.edges k (omega (arith, t.last)))

  -- THE THEOREM
  pub has_loop_lem : (has_loop G ≡ true) ↔ Loop G
  has_loop_lem = (has_loop_no, has_loop_yes)
