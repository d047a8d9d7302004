-- The Rust's `order_type` as it stands: a typedef is pushed after its target even if it was listed on the way to it. All else is `order` of
-- crates/spec_c_dumper/specs/rules/Order and the sessions of crates/spec_c_dumper/specs/rules/Machine and
-- crates/spec_c_dumper/specs/needs/Session: the clauses that differ are marked.
use Rattle.std.specs.Prelude.{ℕ, zero, suc, ◌-◌, Bool, true, false, not, ◌&&◌, ◌||◌, List, [], ◌∷◌, ◌++◌, ltb}
use Rattle.spec_c_dumper.specs.rules.Order.{Node, ignored, plain, listed, through, ptr, tdef, proto, comp, Table, is_comp, Mark, new}
use Rattle.spec_c_dumper.specs.rules.Order.{busy, done, Store, Res, ok, refused, bind, each, meet, finish, enter}
use Rattle.spec_c_dumper.specs.rules.Machine.{Machine, Sess, Answer, Req, one, all, ordered, onward}
use Rattle.spec_c_dumper.specs.rules.Types.{Btf, table_of}
use Rattle.spec_c_dumper.specs.rules.Names.{Naming, naming}
use Rattle.spec_c_dumper.specs.needs.Lists.{Ls}
use Rattle.spec_c_dumper.specs.needs.Session.{Known, Dump, dump, text_of, machine_by, opened}

module _ {St : Type 0} (K : Store St) where
  -- BtfType::Typedef(t) => { let is_strong = self.order_type(t.type_id, has_ptr, order)?;
  --     if !has_ptr || is_strong { order.push(id); self.set_order_state(id, OrderState::Ordered); return Ok(true); } } .. Ok(false)
  -- HERE: pushed whether or not it was listed on the way; `alias` asks (was)
  unfoldable pub alias_twice : Bool → St → ℕ → Res St
  alias_twice true s x = ok (finish K true x s) true
  alias_twice false s x = ok s false

  module _ (T : Table) (rec : St → ℕ → Bool → Res St) (s : St) (x : ℕ) (weak : Bool) where
    unfoldable pub fresh_twice : Node → Res St
    fresh_twice ignored = ok s false
    fresh_twice plain = ok (finish K false x s) false
    fresh_twice (listed f) = ok (finish K (T.named x) x s) true
    fresh_twice (through a t) = rec s t (not (a && T.strong_arrays) && weak)
    fresh_twice (ptr t) = bind (rec s t true) (λ s' b. ok (finish K false x s') b)
    fresh_twice (tdef t) = bind (rec s t weak) (λ s' b. alias_twice (not weak || b) s' x)  -- HERE: the mark of x is not looked at
    fresh_twice (proto ts) = each (λ s' y. rec s' y weak) ts s false
    fresh_twice (comp ms) = enter K (weak && T.named x) (λ s' y. rec s' y false) s x (T.named x) ms

    unfoldable pub visit_twice : Mark → Res St
    visit_twice new = fresh_twice (T.node x)
    visit_twice busy = meet (is_comp (T.node x) && (weak && T.named x)) s
    visit_twice done = ok s true

  unfoldable pub order_twice : ℕ → Table → St → ℕ → Bool → Res St
  order_twice zero T s x weak = refused 12
  order_twice (suc n) T s x weak = visit_twice T (λ s' y w. order_twice n T s' y w) s x weak (K.get s x)

-- requests
module _ {M H : Type 0} (X : Machine M H) (T : Table) where
  abbrev pub ordering_twice : ℕ → Sess M → ℕ → Res M
  ordering_twice room S x = order_twice X.store 512 T (X.start room S.mach) x false

  unfoldable pub gate_twice : ℕ → Sess M → ℕ → Bool → Bool → Answer M
  gate_twice room S x false below = record { sess = S; number = 11 }
  gate_twice room S x true false = record { sess = S; number = 10 }
  gate_twice room S x true true = ordered X T S x (ordering_twice room S x)

  unfoldable pub single_twice : ℕ → Sess M → ℕ → Answer M
  single_twice room S x = gate_twice room S x S.is_open (ltb x T.count)

  unfoldable pub from_twice : ℕ → ℕ → ℕ → Sess M → Answer M
  from_twice room zero x S = record { sess = S; number = 0 }
  from_twice room (suc n) x S = onward X T (from_twice room n (suc x)) (single_twice room S x)

  unfoldable pub every_twice : ℕ → Sess M → Bool → Answer M
  every_twice room S false = record { sess = S; number = 11 }
  every_twice room S true = from_twice room (T.count - 1) 1 S

-- sessions of the machine of lists
module _ {U : Type 0} (N : Naming U) (B : Btf) where
  unfoldable pub answer_twice : Sess (Ls (Known U)) → Req → Answer (Ls (Known U))
  answer_twice S (one room x) = single_twice (machine_by N B) (table_of B) room S x
  answer_twice S (all room) = every_twice (machine_by N B) (table_of B) room S S.is_open

  unfoldable pub dumped_twice : List (ℕ × ℕ) → List Req → Sess (Ls (Known U)) → Dump
  dumped_twice ns [] S = dump ns (text_of S.mach.pieces)
  dumped_twice ns (r ∷ rs) S =
      dumped_twice (ns ++ (((answer_twice S r).number, (answer_twice S r).sess.mach.known.text_len) ∷ [])) rs (answer_twice S r).sess

-- the number and the text's length of each request, and the text after the last
abbrev pub dump_types_twice : Btf → List Req → Dump
dump_types_twice B rs = dumped_twice naming B [] rs (opened B)
