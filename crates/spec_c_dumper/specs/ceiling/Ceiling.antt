-- A ceiling on the calls of the ordering rule: the clauses of Order.antt, with the calls counted. A call that is opened counts; one that is
-- refused by 12 or by 22 does not. k: the calls made before, which the single requests of one call share. Without a ceiling none is
-- counted, and what is left is the rule of Order.antt (proofs/ceiling/Plain).
use Rattle.std.specs.Prelude.{ℕ, zero, suc, ◌+◌, ◌-◌, Bool, true, false, not, ◌&&◌, ◌||◌, List, [], ◌∷◌, ltb}
use Rattle.spec_c_dumper.specs.rules.Order.{Node, ignored, plain, listed, through, ptr, tdef, proto, comp, Table, is_comp, Mark, new}
use Rattle.spec_c_dumper.specs.rules.Order.{busy, done, is_done, Store, Res, ok, refused, finish, order}
use Rattle.spec_c_dumper.specs.rules.Machine.{Machine, eeach, emit, Sess, Answer, shut, emitted, single, onward}

-- what ordering comes to, and the calls made by then; "the answer reports the calls made", that of a refused request too
pub data Told (St : Type 0) : Type 0 where
  told : St → Bool → ℕ → Told St
  halted : ℕ → ℕ → Told St

-- "A request may carry a 64-bit ceiling on calls of the ordering rule"
pub data Limit : Type 0 where
  unbounded : Limit
  most : ℕ → Limit

-- whether one more call is allowed after k
unfoldable pub allows : Limit → ℕ → Bool
allows unbounded k = true
allows (most c) k = ltb k c

-- the count after one more call
unfoldable pub one_call : Limit → ℕ → ℕ
one_call unbounded k = k
one_call (most c) k = suc k

-- the count, of a refused request too
unfoldable pub calls_made : {St : Type 0} → Told St → ℕ
calls_made (told s b k) = k
calls_made (halted e k) = k

unfoldable pub then_bind : {St : Type 0} → Told St → (St → Bool → ℕ → Told St) → Told St
then_bind (told s b k) f = f s b k
then_bind (halted e k) f = halted e k

unfoldable pub each_within : {St : Type 0} → (St → ℕ → ℕ → Told St) → List ℕ → St → Bool → ℕ → Told St
each_within f [] s b k = told s b k
each_within f (y ∷ ys) s b k = then_bind (f s y k) (λ s' b' k'. each_within f ys s' (b || b') k')

unfoldable pub meet_within : {St : Type 0} → Bool → St → ℕ → Told St
meet_within true s k = told s false k
meet_within false s k = halted 13 k

-- after a refusal no call is opened
unfoldable pub onwards : {St : Type 0} → Res St → (St → Bool → ℕ) → ℕ
onwards (ok s b) g = g s b
onwards (refused e) g = 0

unfoldable pub calls_each : {St : Type 0} → (St → ℕ → Res St) → (St → ℕ → ℕ) → List ℕ → St → ℕ
calls_each f g [] s = 0
calls_each f g (y ∷ ys) s = g s y + onwards (f s y) (λ s' b. calls_each f g ys s')

module _ {St : Type 0} (K : Store St) where
  unfoldable pub enter_within : Bool → (St → ℕ → ℕ → Told St) → St → ℕ → Bool → List ℕ → ℕ → Told St
  enter_within true f s x nm ms k = told s false k
  enter_within false f s x nm ms k = then_bind (each_within f ms (K.mark busy x s) false k) (λ s' b k'. told (finish K nm x s') true k')

  unfoldable pub alias_within : Bool → Bool → St → ℕ → ℕ → Told St
  alias_within true was s x k = told (finish K (not was) x s) true k
  alias_within false was s x k = told s false k

  module _ (T : Table) (rec : St → ℕ → Bool → ℕ → Told St) (s : St) (x : ℕ) (weak : Bool) where
    unfoldable pub fresh_within : Node → ℕ → Told St
    fresh_within ignored k = told s false k
    fresh_within plain k = told (finish K false x s) false k
    fresh_within (listed f) k = told (finish K (T.named x) x s) true k
    fresh_within (through a t) k = rec s t (not (a && T.strong_arrays) && weak) k
    fresh_within (ptr t) k = then_bind (rec s t true k) (λ s' b k'. told (finish K false x s') b k')
    fresh_within (tdef t) k = then_bind (rec s t weak k) (λ s' b k'. alias_within (not weak || b) (is_done (K.get s' x)) s' x k')
    fresh_within (proto ts) k = each_within (λ s' y k'. rec s' y weak k') ts s false k
    fresh_within (comp ms) k = enter_within (weak && T.named x) (λ s' y k'. rec s' y false k') s x (T.named x) ms k

    unfoldable pub visit_within : Mark → ℕ → Told St
    visit_within new k = fresh_within (T.node x) k
    visit_within busy k = meet_within (is_comp (T.node x) && (weak && T.named x)) s k
    visit_within done k = told s true k

  -- "22 when one more call would pass the ceiling; it stands beside 12 in the sequence of steps, 12 first at one call"
  unfoldable pub order_within : Limit → ℕ → Table → St → ℕ → Bool → ℕ → Told St
  order_within c zero T s x weak k = halted 12 k
  order_within c (suc n) T s x weak k =
      elim (allows c k) [
        | true ↦ visit_within T (λ s' y w k'. order_within c n T s' y w k') s x weak (K.get s x) (one_call c k)
        | false ↦ halted 22 k
      ]

  -- ---- the calls that the plain rule opens
  unfoldable pub calls_enter : Bool → (St → ℕ → Res St) → (St → ℕ → ℕ) → St → ℕ → List ℕ → ℕ
  calls_enter true f g s x ms = 0
  calls_enter false f g s x ms = calls_each f g ms (K.mark busy x s)

  module _ (T : Table) (rec : St → ℕ → Bool → Res St) (count : St → ℕ → Bool → ℕ) (s : St) (x : ℕ) (weak : Bool) where
    unfoldable pub calls_fresh : Node → ℕ
    calls_fresh ignored = 0
    calls_fresh plain = 0
    calls_fresh (listed f) = 0
    calls_fresh (through a t) = count s t (not (a && T.strong_arrays) && weak)
    calls_fresh (ptr t) = count s t true
    calls_fresh (tdef t) = count s t weak
    calls_fresh (proto ts) = calls_each (λ s' y. rec s' y weak) (λ s' y. count s' y weak) ts s
    calls_fresh (comp ms) = calls_enter (weak && T.named x) (λ s' y. rec s' y false) (λ s' y. count s' y false) s x ms

    unfoldable pub calls_visit : Mark → ℕ
    calls_visit new = calls_fresh (T.node x)
    calls_visit busy = 0
    calls_visit done = 0

  unfoldable pub calls : ℕ → Table → St → ℕ → Bool → ℕ
  calls zero T s x weak = 0
  calls (suc n) T s x weak = suc (calls_visit T (λ s' y w. order K n T s' y w) (λ s' y w. calls n T s' y w) s x weak (K.get s x))

-- ---- requests under a ceiling: the answer, and the calls made
pub record Counted (M : Type 0) : Type 0 where
  pub answer : Answer M
  pub made : ℕ

module _ {M H : Type 0} (X : Machine M H) (T : Table) where
  unfoldable pub ordered_within : Sess M → ℕ → Told M → Counted M
  ordered_within S x (told s b k) = record { answer = emitted X T S x (eeach (λ m y. emit X T 512 m y 0) (X.store.list s) s); made = k }
  ordered_within S x (halted e k) = record { answer = shut X T S (X.held S.mach) e; made = k }

  -- as `gate`: 11 and 10 make no call
  unfoldable pub gate_within : ℕ → ℕ → Sess M → ℕ → ℕ → Bool → Bool → Counted M
  gate_within c room S x k false below = record { answer = record { sess = S; number = 11 }; made = k }
  gate_within c room S x k true false = record { answer = record { sess = S; number = 10 }; made = k }
  gate_within c room S x k true true = ordered_within S x (order_within X.store (most c) 512 T (X.start room S.mach) x false k)

  unfoldable pub single_within : ℕ → ℕ → Sess M → ℕ → ℕ → Counted M
  single_within c room S x k = gate_within c room S x k S.is_open (ltb x T.count)

  unfoldable pub onward_within : (Sess M → ℕ → Counted M) → Counted M → Counted M
  onward_within f a = elim a.answer.number [ zero ↦ f a.answer.sess a.made | suc n ↦ a ]

  -- a list of ids without a ceiling
  unfoldable pub list_plain : ℕ → List ℕ → Sess M → Answer M
  list_plain room [] S = record { sess = S; number = 0 }
  list_plain room (x ∷ xs) S = onward X T (list_plain room xs) (single X T room S x)

  -- a list of ids, and n ids from x on: the ceiling is "shared by the single requests of one call"
  unfoldable pub list_within : ℕ → ℕ → List ℕ → Sess M → ℕ → Counted M
  list_within c room [] S k = record { answer = record { sess = S; number = 0 }; made = k }
  list_within c room (x ∷ xs) S k = onward_within (list_within c room xs) (single_within c room S x k)

  unfoldable pub from_within : ℕ → ℕ → ℕ → ℕ → Sess M → ℕ → Counted M
  from_within c room zero x S k = record { answer = record { sess = S; number = 0 }; made = k }
  from_within c room (suc n) x S k = onward_within (from_within c room n (suc x)) (single_within c room S x k)

  unfoldable pub every_within : ℕ → ℕ → Sess M → Bool → Counted M
  every_within c room S false = record { answer = record { sess = S; number = 11 }; made = 0 }
  every_within c room S true = from_within c room (T.count - 1) 1 S 0
