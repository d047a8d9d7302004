-- The graph: ways, chains of needs, what is owed; and how many are done. Nothing here knows the store.
use Prim.Native.Nat.{ℕ, zero, suc, ◌+◌, ◌<◌, ◌≤◌}
use native.Mathlib.Decide.{ℕ_discrete}
use native.Mathlib.Omega.{arith}
use mathlib.Core.Path.{◌≡◌, refl, sym, ◌∙◌, ap, subst}
use mathlib.Core.Bool.{Bool, true, false, not, ◌&&◌, ◌||◌}
use mathlib.Core.List.Memᴰ
use mathlib.Core.List.{List, [], ◌∷◌, Memᴰ}
use mathlib.Core.Logic.{◌⊎◌, inl, inr}
use mathlib.Core.WellFounded.{Acc}
use Rattle.spec_c_dumper.specs.rules.Order.{Node, ignored, plain, listed, through, ptr, tdef, proto, comp, Table, is_comp, Mark, new, busy, done}
use Rattle.spec_c_dumper.specs.needs.Needs.{kids, weaken, is_array, is_proto, Way, here, past, Needs, Via, direct, through_nameless, Chain, end, next, Twice, now, later, MeetsTwice, ProtoVia, it, on, WF}

pub clash : (m : Mark) → m ≡ busy → m ≡ done → ⊥
clash m p q = let z : ◌≡◌ {A = ℕ} 0 1 = cc in omega arith

pub clash_new : (m : Mark) → m ≡ new → m ≡ done → ⊥
clash_new m p q = let z : ◌≡◌ {A = ℕ} 0 1 = cc in omega arith

pub clash_busy : (m : Mark) → m ≡ new → m ≡ busy → ⊥
clash_busy m p q = let z : ◌≡◌ {A = ℕ} 0 1 = cc in omega arith

pub only : (P : ℕ → Type 0) (t : ℕ) → P t → (y : ℕ) → Memᴰ y (t ∷ []) → P y
only P t h y m = subst P (sym (Memᴰ.eq_of_singleton m)) h

-- the same, but weak from a prototype on too
abbrev pub loosen : Table → Node → Bool → Bool
loosen T nd w = is_proto nd || weaken T nd w

-- chains

pub data Star (T : Table) : ℕ → ℕ → Type 0 where
  stop : {x y : ℕ} → x ≡ y → Star T x y
  step : {x y z : ℕ} → Needs T x y → Star T y z → Star T x z

pub record Loops (T : Table) (c : ℕ) : Type 0 where
  pub at : ℕ
  pub to : Star T c at
  pub first : ℕ
  pub need : Needs T at first
  pub back : Star T first at

-- d leads to a loop, or to what is in progress
abbrev pub Cyc : Table → (ℕ → Type 0) → ℕ → Type 0
Cyc T B d = Loops T d ⊎ ((e : ℕ) × B e × Star T d e)

-- E follows if a composite that is owed on a way from x leads to a loop, or to what is in progress
abbrev pub Gee : Table → Type 0 → (ℕ → Type 0) → ℕ → Bool → Type 0
Gee T E B x weak = (d : ℕ) (v : Bool) → Way (weaken T) T x weak d v → (T.named d ≡ false) ⊎ (v ≡ false) → Cyc T B d → E

same_step : (T : Table) (nd : Node) (w : Bool) → (w ≡ true) ⊎ (is_proto nd ≡ true → ⊥) → loosen T nd w ≡ weaken T nd w
same_step T ignored w o = refl
same_step T plain w o = refl
same_step T (listed f) w o = refl
same_step T (through a t) w o = refl
same_step T (ptr t) w o = refl
same_step T (tdef t) w o = refl
same_step T (proto ts) w (inl q) = sym q
same_step T (proto ts) w (inr h) = absurd (h refl)
same_step T (comp ts) w o = refl

aside : (P Q : Type 0) (w : Bool) → (w ≡ true) ⊎ P → (w ≡ true) ⊎ (((false ≡ false) × P) ⊎ Q)
aside P Q w (inl q) = inl q
aside P Q w (inr h) = inr (inl (refl, h))

-- Q: what is known of an array's element
step_level : (P Q : Type 0) (T : Table) (nd : Node) → (is_array nd ≡ true → Q) → (w : Bool) → (w ≡ true) ⊎ P → (weaken T nd w ≡ true) ⊎ (((weaken T nd false ≡ false) × P) ⊎ Q)
step_level P Q T ignored a w o = aside P Q w o
step_level P Q T plain a w o = aside P Q w o
step_level P Q T (listed f) a w o = aside P Q w o
step_level P Q T (through true t) a w o = inr (inr (a refl))
step_level P Q T (through false t) a w o = aside P Q w o
step_level P Q T (ptr t) a w o = inl refl
step_level P Q T (tdef t) a w o = aside P Q w o
step_level P Q T (proto ts) a w o = aside P Q w o
step_level P Q T (comp ts) a w o = aside P Q w o

and_mono : (b a a' : Bool) → (a ≡ false → a' ≡ false) → (b && a) ≡ false → (b && a') ≡ false
and_mono true a a' h = h
and_mono false a a' h = λ e. e

pub weaken_mono : (T : Table) (nd : Node) (w w' : Bool) → (w ≡ false → w' ≡ false) → weaken T nd w ≡ false → weaken T nd w' ≡ false
weaken_mono T ignored w w' h = h
weaken_mono T plain w w' h = h
weaken_mono T (listed f) w w' h = h
weaken_mono T (through a t) w w' h = and_mono (not (a && T.strong_arrays)) w w' h
weaken_mono T (ptr t) w w' h = λ e. e
weaken_mono T (tdef t) w w' h = h
weaken_mono T (proto ts) w w' h = h
weaken_mono T (comp ts) w w' h = h

pub or_mono : (b a a' : Bool) → (a ≡ false → a' ≡ false) → (b || a) ≡ false → (b || a') ≡ false
or_mono true a a' h = λ e. e
or_mono false a a' h = h

pub loosen_mono : (T : Table) (nd : Node) (w w' : Bool) → (w ≡ false → w' ≡ false) → loosen T nd w ≡ false → loosen T nd w' ≡ false
loosen_mono T nd w w' h = or_mono (is_proto nd) (weaken T nd w) (weaken T nd w') (weaken_mono T nd w w' h)

module _ (T : Table) where
  -- what starts less weak arrives no weaker
  pub way_lower : {f : Node → Bool → Bool} → ((nd : Node) (w w' : Bool) → (w ≡ false → w' ≡ false) → f nd w ≡ false → f nd w' ≡ false) → {x d : ℕ} {w v : Bool} → Way f T x w d v → (w' : Bool) → (w ≡ false → w' ≡ false) → (v' : Bool) × Way f T x w' d v' × (v ≡ false → v' ≡ false)
  way_lower k (here c q f) w' h = (w', here c q refl, λ e. h (f ∙ e))
  way_lower {f} k (past {x = x} {w = w} c m way) w' h = let r = way_lower k way (f (T.node x) w') (k (T.node x) w w' h) in (r.0, past c m r.1, r.2)

  -- every composite that a done one needs, directly or through nameless ones, is done and a composite
  pub way_comp : {f : Node → Bool → Bool} {x d : ℕ} {w v : Bool} → Way f T x w d v → is_comp (T.node d) ≡ true
  way_comp (here c e f) = subst (λ (k : ℕ). is_comp (T.node k) ≡ true) e c
  way_comp (past c m way) = way_comp way

  pub via_comp : {c d : ℕ} → Via T c d → is_comp (T.node d) ≡ true
  via_comp (direct n) = way_comp n.way
  via_comp (through_nameless n e v) = via_comp v

  pub gee_past : (E : Type 0) (B : ℕ → Type 0) (x y : ℕ) (w : Bool) (nd : Node) → T.node x ≡ nd → is_comp nd ≡ false → Memᴰ y (kids nd) → Gee T E B x w → Gee T E B y (weaken T nd w)
  gee_past E B x y w nd e nc m g d v way due c = g d v (past (ap is_comp e ∙ nc) (subst (λ (k : Node). Memᴰ y (kids k)) (sym e) m) (subst (λ (k : Node). Way (weaken T) T y (weaken T k w) d v) (sym e) way)) due c

  pub gee_weaken : (E : Type 0) (B B' : ℕ → Type 0) (x : ℕ) (weak : Bool) → ((e : ℕ) → B' e → B e) → Gee T E B x weak → Gee T E B' x weak
  gee_weaken E B B' x weak f g d v way due (inl l) = g d v way due (inl l)
  gee_weaken E B B' x weak f g d v way due (inr q) = g d v way due (inr (q.0, f q.0 q.1, q.2))

  -- what the members of x may be asked, with x in progress too
  module _ (E : Type 0) (B B' : ℕ → Type 0) (x : ℕ) (weak : Bool) (c : is_comp (T.node x) ≡ true) (more : (e : ℕ) → B' e → (e ≡ x) ⊎ B e)
      (g : Gee T E B x weak) (du : (T.named x ≡ false) ⊎ (weak ≡ false)) where
    pub gee_member : (m : ℕ) → Memᴰ m (kids (T.node x)) → Gee T E B' m false
    gee_member m mem d v way due cyc = g x weak (here c refl refl) du (turn cyc)
      where
        need' : Needs T x d
        need' = record { composite = c; member = m; is_member = mem; pointer = v; way = way; owed = due }

        round : (e : ℕ) → Star T d e → (e ≡ x) ⊎ B e → Cyc T B x
        round e r (inl q) = inl (record { at = x; to = stop refl; first = d; need = need'; back = subst (Star T d) q r })
        round e r (inr b) = inr (e, b, step need' r)

        turn : Cyc T B' d → Cyc T B x
        turn (inl o) = inl (record { at = o.at; to = step need' o.to; first = o.first; need = o.need; back = o.back })
        turn (inr q) = round q.0 q.2 (more q.0 q.1)

  -- the two senses of weak agree on a way that starts weak, or that starts at no prototype
  pub agree : WF T → {x d : ℕ} {w v : Bool} → Way (weaken T) T x w d v → (w ≡ true) ⊎ (ProtoVia T x → ⊥) → Way (loosen T) T x w d v
  agree wf (here c e f) o = here c e f
  agree wf (past {x = x} {y = y} {d = d} {w = w} {v = v} c m way) o = past {x = x} {y = y} {d = d} {w = w} {v = v} c m (subst (λ (k : Bool). Way (loosen T) T y k d v) (sym (same_step T (T.node x) w (first o))) (agree wf way (after (step_level (ProtoVia T x → ⊥) (ProtoVia T y → ⊥) T (T.node x) element w o))))
    where
      first : (w ≡ true) ⊎ (ProtoVia T x → ⊥) → (w ≡ true) ⊎ (is_proto (T.node x) ≡ true → ⊥)
      first (inl q) = inl q
      first (inr h) = inr (λ e. h (it e))

      element : is_array (T.node x) ≡ true → ProtoVia T y → ⊥
      element e = wf.no_proto x y (ap (λ (b : Bool). b || is_array (T.node x)) c ∙ e) m

      after : (weaken T (T.node x) w ≡ true) ⊎ (((weaken T (T.node x) false ≡ false) × (ProtoVia T x → ⊥)) ⊎ (ProtoVia T y → ⊥)) → (weaken T (T.node x) w ≡ true) ⊎ (ProtoVia T y → ⊥)
      after (inl q) = inl q
      after (inr (inl h)) = inr (λ p. h.1 (on c h.0 m p))
      after (inr (inr h)) = inr h

pub and_no : (a b : Bool) → (a && b) ≡ false → (b ≡ false) ⊎ (a ≡ false)
and_no true b e = inl e
and_no false b e = inr refl

pub or_yes : (a b : Bool) → (not a || b) ≡ true → (a ≡ false) ⊎ (b ≡ true)
or_yes true b e = inr e
or_yes false b e = inl refl

-- Chains: what loops meets some composite twice, and what is accessible meets none twice.

pub star_snoc : {T : Table} {a b d : ℕ} → Star T a b → Needs T b d → Star T a d
star_snoc {T} {d = d} (stop e) n = step (subst (λ (k : ℕ). Needs T k d) (sym e) n) (stop refl)
star_snoc (step m r) n = step m (star_snoc r n)

pub rotate : {T : Table} {c d : ℕ} → Needs T c d → Star T d c → (f : ℕ) × Needs T d f × Star T f d
rotate {T} {d = d} n (stop e) = (d, subst (λ (k : ℕ). Needs T k d) (sym e) n, stop refl)
rotate n (step {y = y} m r) = (y, m, star_snoc r n)

pub acc_irrefl : {T : Table} {c : ℕ} → Acc (λ d c. Needs T c d) c → (d : ℕ) → Needs T c d → Star T d c → ⊥
acc_irrefl (Acc.intro c h) d n r = let q = rotate n r in acc_irrefl (h d n) q.0 q.1 q.2

pub star_chain : {T : Table} {d e : ℕ} → Star T d e → (l : List ℕ) × Chain T d l × Memᴰ e (d ∷ l)
star_chain (stop q) = ([], end, Memᴰ.head (sym q))
star_chain (step {y = y} n r) = let q = star_chain r in (y ∷ q.0, next n q.1, Memᴰ.tail q.2)

pub chain_star : {T : Table} {d e : ℕ} {l : List ℕ} → Chain T d l → Memᴰ e (d ∷ l) → Star T d e
chain_star end m = stop (sym (Memᴰ.eq_of_singleton m))
chain_star {T} {d} {e} (next {d = d'} {l = l} n c) m = go (chain_star c) (Memᴰ.cases_cons m)
  where
    go : (Memᴰ e (d' ∷ l) → Star T d' e) → (e ≡ d) ⊎ Memᴰ e (d' ∷ l) → Star T d e
    go f (inl q) = stop (sym q)
    go f (inr k) = step n (f k)

pub prepend : {T : Table} {c e : ℕ} → Star T c e → MeetsTwice T e → MeetsTwice T c
prepend {T} (stop q) m = subst (MeetsTwice T) (sym q) m
prepend (step {y = y} n r) m = let k = prepend r m in record { rest = y ∷ k.rest; chain = next n k.chain; twice = later k.twice }

pub loops_twice : {T : Table} {c : ℕ} → Loops T c → MeetsTwice T c
loops_twice l = let q = star_chain l.back in prepend l.to (record { rest = l.first ∷ q.0; chain = next l.need q.1; twice = now q.2 })

pub twice_nil : Twice [] → ⊥
twice_nil t = elim t [ ]

pub acc_once : {T : Table} {c : ℕ} {l : List ℕ} → Chain T c l → Acc (λ d c. Needs T c d) c → Twice (c ∷ l) → ⊥
acc_once end a (now m) = Memᴰ.not-nil m
acc_once end a (later t) = twice_nil t
acc_once (next {d = d} n c) a (now m) = acc_irrefl a d n (chain_star c m)
acc_once (next n c) (Acc.intro x h) (later t) = acc_once c (h _ n) t

-- How many of the first k ids are done.

abbrev pub bit : Mark → ℕ
bit new = 0
bit busy = 0
bit done = 1

pub tally : (ℕ → Mark) → ℕ → ℕ
tally f zero = 0
tally f (suc k) = tally f k + bit (f k)

bit_mono : (m m' : Mark) → (m ≡ done → m' ≡ done) → bit m ≤ bit m'
bit_mono new m' h = omega arith
bit_mono busy m' h = omega arith
bit_mono done m' h = rw (h refl) (omega arith)

bit_one : (m : Mark) → bit m ≤ 1
bit_one new = omega arith
bit_one busy = omega arith
bit_one done = omega arith

bit_zero : (m : Mark) → (m ≡ done → ⊥) → bit m ≡ 0
bit_zero new h = refl
bit_zero busy h = refl
bit_zero done h = absurd (h refl)

pub tally_mono : (f g : ℕ → Mark) → ((d : ℕ) → f d ≡ done → g d ≡ done) → (k : ℕ) → tally f k ≤ tally g k
unfolding tally
tally_mono f g h zero = omega arith
tally_mono f g h (suc k) = omega (arith, tally_mono f g h k, bit_mono (f k) (g k) (h k))

pub tally_max : (f : ℕ → Mark) (k : ℕ) → tally f k ≤ k
unfolding tally
tally_max f zero = omega arith
tally_max f (suc k) = omega (arith, tally_max f k, bit_one (f k))

pub tally_room : (f : ℕ → Mark) (x k : ℕ) → x < k → (f x ≡ done → ⊥) → tally f k < k
unfolding tally
tally_room f x zero l h = omega arith
tally_room f x (suc k) l h = go (ℕ_discrete x k) (λ q. tally_room f x k q h)
  where
    go : Dec (x ≡ k) → (x < k → tally f k < k) → tally f k + bit (f k) < suc k
    go (yes q) r = omega (arith, tally_max f k, bit_zero (f k) (λ e. h (ap f q ∙ e)))
    go (no q) r = omega (arith, r (omega arith), bit_one (f k))

pub tally_more : (f g : ℕ → Mark) → ((d : ℕ) → f d ≡ done → g d ≡ done) → (x k : ℕ) → x < k → (f x ≡ done → ⊥) → g x ≡ done → tally f k < tally g k
unfolding tally
tally_more f g m x zero l h e = omega arith
tally_more f g m x (suc k) l h e = go (ℕ_discrete x k) (λ q. tally_more f g m x k q h e)
  where
    one : x ≡ k → bit (g k) ≡ 1
    one q = ap bit (sym (ap g q) ∙ e)

    go : Dec (x ≡ k) → (x < k → tally f k < tally g k) → tally f k + bit (f k) < tally g k + bit (g k)
    go (yes q) r = omega (arith, tally_mono f g m k, bit_zero (f k) (λ e. h (ap f q ∙ e)), one q)
    go (no q) r = omega (arith, r (omega arith), bit_mono (f k) (g k) (m k))
