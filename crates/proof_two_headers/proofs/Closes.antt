-- A request that is refused by anything but 10 and 11 closes its session, 20 as the others. Assumes nothing.
use Prim.Native.Nat.{ℕ, zero, suc, ◌-◌}
use mathlib.Core.Path.{◌≡◌, refl, subst}
use mathlib.Core.Bool.{Bool, true, false}
use mathlib.Core.Logic.{inl, inr}
use lib.Dec.{ltb}
use Rattle.spec_c_dumper.specs.rules.Order.{Table, Res, ok, refused}
use Rattle.spec_c_dumper.specs.rules.Machine.{Machine, Out, wrote, stuck, Sess, Answer, Req, one, all, eeach, emit, shut, emitted, ordered, ordering, gate, single, onward, from, every}
use Rattle.spec_c_dumper.specs.rules.Types.{Btf, table_of}
use Rattle.spec_c_dumper.specs.needs.Session.{machine_by, answer_to}
use Rattle.proof_two_headers.specs.Shared.{Ledger, Held, sharing, Shelf}
use Rattle.proof_two_headers.specs.Calls.{Lengths, is_current, Part, Side, kernel, module', World, part_of, with_part, asks, asking, called, answered, lent}
use Rattle.proof_two_headers.specs.Claims.{Closing}

module _ (k : ℕ) (B : Btf) where
  abbrev X : Machine Shelf Held
  X = machine_by (sharing k) B

  abbrev T : Table
  T = table_of B

  abbrev Cl : Answer Shelf → Type 0
  Cl a = Closing a.number a.sess

  cl_shut : (S : Sess Shelf) (h : Held) (e : ℕ) → Cl (shut X T S h e)
  unfolding shut
  cl_shut S h e = inr (inr (inr refl))

  cl_emitted : (S : Sess Shelf) (x : ℕ) (r : Out Shelf Held) → Cl (emitted X T S x r)
  unfolding emitted
  cl_emitted S x (wrote m) = inl refl
  cl_emitted S x (stuck h e) = cl_shut S h e

  cl_ordered : (S : Sess Shelf) (x : ℕ) (r : Res Shelf) → Cl (ordered X T S x r)
  unfolding ordered
  cl_ordered S x (ok s b) = cl_emitted S x (eeach (λ m y. emit X T 512 m y 0) (X.store.list s) s)
  cl_ordered S x (refused e) = cl_shut S (X.held S.mach) e

  cl_gate : (room : ℕ) (S : Sess Shelf) (x : ℕ) (o b : Bool) → Cl (gate X T room S x o b)
  unfolding gate
  cl_gate room S x false b = inr (inr (inl refl))
  cl_gate room S x true false = inr (inl refl)
  cl_gate room S x true true = cl_ordered S x (ordering X T room S x)

  cl_onward : (f : Sess Shelf → Answer Shelf) → ((S : Sess Shelf) → Cl (f S)) → (a : Answer Shelf) → Cl a → Cl (onward X T f a)
  unfolding onward
  cl_onward f hf a c = go a.number
    where
      go : (n : ℕ) → Cl (elim n as (λ m. Answer Shelf) [ zero ↦ f a.sess | suc m ↦ a ])
      go zero = hf a.sess
      go (suc m) = c

  cl_from : (room n x : ℕ) (S : Sess Shelf) → Cl (from X T room n x S)
  unfolding from single
  cl_from room zero x S = inl refl
  cl_from room (suc n) x S = cl_onward (from X T room n (suc x)) (λ S'. cl_from room n (suc x) S') (single X T room S x) (cl_gate room S x S.is_open (ltb x T.count))

  cl_every : (room : ℕ) (S : Sess Shelf) (b : Bool) → Cl (every X T room S b)
  unfolding every
  cl_every room S false = inr (inr (inl refl))
  cl_every room S true = cl_from room (T.count - 1) 1 S

  cl_answer : (S : Sess Shelf) (r : Req) → Cl (answer_to (sharing k) B S r)
  unfolding answer_to single
  cl_answer S (one room x) = cl_gate room S x S.is_open (ltb x T.count)
  cl_answer S (all room) = cl_every room S S.is_open

part_own : (W : World) (d : Side) (L : Ledger) (p : Part) → p ≡ part_of (with_part W d L p) d
part_own W kernel L p = refl
part_own W module' L p = refl

module _ (B : Side → Btf) (W : World) (d : Side) where
  cl_asking : (r : Req) (b : Bool) → Closing (asking B W d r b).number (part_of (asking B W d r b).world d).sess
  unfolding asking
  cl_asking r false = inr (inr (inl refl))
  cl_asking r true =
      let a = answered (B d) (part_of W d) W.ledger r in
      subst (λ (p : Part). Closing a.number p.sess) (part_own W d a.sess.mach.known.names.ledger (record { number = (part_of W d).number; lengths = (part_of W d).lengths; sess = a.sess }))
      (cl_answer (part_of W d).number (B d) (lent W.ledger (part_of W d).sess) r)

  pub request_closes : (l : Lengths) (r : Req) → Closing (called B W (asks d l r)).number (part_of (called B W (asks d l r)).world d).sess
  unfolding called
  request_closes l r = cl_asking r (is_current (part_of W d) l r)
