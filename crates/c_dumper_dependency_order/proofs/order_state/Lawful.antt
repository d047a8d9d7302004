-- The store in the work is lawful in the sense of the theory, for n types and a work of at least 64 bytes a type. Assumes nothing.
use Prim.Native.Nat.{ℕ, zero, suc, ◌+◌, ◌*◌, ◌%◌, ◌<◌, ◌≤◌}
use mathlib.Core.Path.{◌≡◌, refl, ap, ◌∙◌}
use mathlib.Core.List.{List, [], ◌∷◌, ◌++◌}
use mathlib.Core.Logic.{◌≢◌}
use native.Mathlib.Omega.{arith}
use lib.ListN.{length}
use Rattle.spec_bytes.specs.words.Words.{get_word, one_more}
use Rattle.spec_bytes.proofs.words.Laws.{get_put_same, get_put_other, put_length, more_is}
use Rattle.spec_c_dumper.specs.rules.Order.{Mark, new, busy, done, Lawful, Framed}
use Rattle.spec_type_table.specs.declared.types.TypeTable.{TypeTable}
use Rattle.spec_type_table.specs.Cells.{get_field, put_field}
use Rattle.spec_type_table.specs.Table.{from, btf_of}
use Rattle.spec_type_table.proofs.Laws.{length_from}
use Rattle.c_dumper_dependency_order.specs.order_state.Work.{Marks, mark_of, code, work_store}
use Rattle.c_dumper_dependency_order.proofs.order_state.Frame.{table_mark, table_list}

-- 16 words for each of n types
abbrev pub Long : ℕ → Marks → Type 0
Long n m = 64 * n ≤ length m.work

pub mark_code : (k : Mark) → mark_of (code k) ≡ k
unfolding mark_of
mark_code new = refl
mark_code busy = refl
mark_code done = refl

from_end : (f : ℕ → ℕ) (k n : ℕ) → from f k (suc n) ≡ from f k n ++ (f (k + n) ∷ [])
unfolding from
from_end f k zero = let e : k ≡ k + 0 = omega arith in ap (λ (i : ℕ). f i ∷ []) e
from_end f k (suc n) = let e : k + 1 + n ≡ k + suc n = omega arith in ap (λ (l : List ℕ). f k ∷ l) (from_end f (k + 1) n ∙ ap (λ (i : ℕ). from f (k + 1) n ++ (f i ∷ [])) e)

from_same : (f g : ℕ → ℕ) (k n : ℕ) → ((i : ℕ) → k ≤ i → i < k + n → f i ≡ g i) → from f k n ≡ from g k n
unfolding from
from_same f g k zero h = refl
from_same f g k (suc n) h = λ i. h k (omega arith) (omega arith) i ∷ from_same f g (k + 1) n (λ j p q. h j (omega arith) (omega arith)) i

module _ (n : ℕ) where
  module _ (k : Mark) (x : ℕ) (m : Marks) where
    mark_long : Long n m → Long n (work_store.mark k x m)
    unfolding work_store
    mark_long g = omega (arith, put_length m.work (x * 16 + 1) (code k))

    mark_here : Long n m → x < n → work_store.get (work_store.mark k x m) x ≡ k
    unfolding work_store
    mark_here g l = ap mark_of (get_put_same m.work (x * 16 + 1) (code k) (omega arith)) ∙ mark_code k

    mark_there : (d : ℕ) → d ≢ x → work_store.get (work_store.mark k x m) d ≡ work_store.get m d
    unfolding work_store
    mark_there d q = ap mark_of (get_put_other m.work (x * 16 + 1) (d * 16 + 1) (code k) (λ e. q (omega arith)))

    mark_keeps : work_store.list (work_store.mark k x m) ≡ work_store.list m
    unfolding work_store
    mark_keeps = from_same _ _ 0 m.len (λ i p q. get_put_other m.work (x * 16 + 1) (i * 16 + 11) (code k) (λ e. omega arith))

  module _ (x : ℕ) (m : Marks) where
    push_long : Long n m → Long n (work_store.push x m)
    unfolding work_store
    push_long g = omega (arith, put_length m.work (m.len * 16 + 11) x)

    push_there : (d : ℕ) → work_store.get (work_store.push x m) d ≡ work_store.get m d
    unfolding work_store
    push_there d = ap mark_of (get_put_other m.work (m.len * 16 + 11) (d * 16 + 1) x (λ e. omega arith))

    push_adds : n ≤ 4294967295 → Long n m → length (work_store.list m) < n → work_store.list (work_store.push x m) ≡ work_store.list m ++ (x ∷ [])
    unfolding work_store
    push_adds small g r =
        let room : m.len < n = omega (arith, length_from (λ k. get_field m.work k 11) 0 m.len) in
        let one : one_more m.len ≡ suc m.len = more_is m.len (omega arith) ∙ omega arith in
        let here : 0 + m.len ≡ m.len = omega arith in
        ap (from new_at 0) one
        ∙ from_end new_at 0 m.len
        ∙ ap (λ (l : List ℕ). l ++ (new_at (0 + m.len) ∷ [])) (from_same new_at old_at 0 m.len (λ i p q. get_put_other m.work (m.len * 16 + 11) (i * 16 + 11) x (λ e. omega arith)))
        ∙ ap (λ (v : ℕ). from old_at 0 m.len ++ (v ∷ [])) (ap new_at here ∙ get_put_same m.work (m.len * 16 + 11) x (omega arith))
      where
        old_at : ℕ → ℕ
        old_at i = get_field m.work i 11

        new_at : ℕ → ℕ
        new_at i = get_field (put_field m.work m.len 11 x) i 11

  -- a table has less than 2^32 types
  pub work_lawful : n ≤ 4294967295 → Lawful work_store n (Long n)
  work_lawful small = record {
    mark_good = λ k x m g l. mark_long k x m g;
    mark_same = λ k x m g l. mark_here k x m g l;
    mark_other = λ k x m g l d q. mark_there k x m d q;
    mark_list = λ k x m g l. mark_keeps k x m;
    push_good = λ x m g l r. push_long x m g;
    push_get = λ x m g l r d. push_there x m d;
    push_list = λ x m g l r. push_adds x m small g r;
  }

  -- what ordering leaves alone: every word but words 1 and 11 of the cells, and the length
  pub record Apart (m m' : Marks) : Type 0 where
    pub words : (i : ℕ) → i % 16 ≢ 1 → i % 16 ≢ 11 → get_word m'.work i ≡ get_word m.work i
    pub as_long : length m'.work ≡ length m.work

  pub work_framed : Framed work_store n (Long n) Apart
  unfolding work_store
  work_framed = record {
    fr_same = λ m. record { words = λ i p q. refl; as_long = refl };
    fr_then = λ a b c f g. record { words = λ i p q. g.words i p q ∙ f.words i p q; as_long = g.as_long ∙ f.as_long };
    fr_mark = λ k x m g l. record { words = λ i p q. get_put_other m.work (x * 16 + 1) i (code k) (λ e. p (omega arith)); as_long = put_length m.work (x * 16 + 1) (code k) };
    fr_push = λ x m g l r. record { words = λ i p q. get_put_other m.work (m.len * 16 + 11) i x (λ e. q (omega arith)); as_long = put_length m.work (m.len * 16 + 11) x };
  }

  -- and so the type table
  pub table_framed : (b : TypeTable) (s : List ℕ) → Framed work_store n (Long n) (λ m m'. btf_of b s m'.work ≡ btf_of b s m.work)
  unfolding work_store
  table_framed b s = record {
    fr_same = λ m. refl;
    fr_then = λ a c d f g. g ∙ f;
    fr_mark = λ k x m g l. table_mark b s m.work x (code k);
    fr_push = λ x m g l r. table_list b s m.work m.len x;
  }
