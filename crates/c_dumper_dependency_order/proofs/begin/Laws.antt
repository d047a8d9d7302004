-- How a call starts: by whether a ceiling is set and allows it, and what meeting an id in progress comes to. Assumes nothing.
use Prim.Native.Nat.{ℕ, suc, ◌+◌, ◌<◌, ◌≤◌}
use mathlib.Core.Path.{◌≡◌, refl, ap, ◌∙◌, sym}
use mathlib.Core.List.{List}
use mathlib.Core.Bool.{Bool, true, false, not, ◌&&◌, true≢false}
use mathlib.Core.Logic.{◌⊎◌, inl, inr}
use native.Mathlib.Omega.{arith}
use lib.Dec.{eqb, leb}
use Rattle.std.specs.Prelude.{Option, Some, None, Result, Ok, Err, is_ok}
use Rattle.std.proofs.lemmas.Bool.{and_parts, and_right, not-true}
use Rattle.std.proofs.lemmas.Bool.Decides.{leb_tells}
use borrow.Author.Tests.{lt-ltb, le-ltb, eqb-false, eq-eqb, ne_eqb}
use Rattle.spec_bytes.specs.declared.refusal.Refusal.{Refusal}
use Rattle.spec_bytes.specs.declared.refusal.Refusal.TheVariants.{Cycle, CeilingPassed}
use Rattle.spec_c_dumper.specs.rules.Order.{Mark, new, busy, done, is_comp, is_done}
use Rattle.spec_c_dumper.specs.rules.Types.{is_named}
use Rattle.spec_c_dumper.specs.ceiling.Ceiling.{most, allows, one_call}
use Rattle.spec_type_table.specs.declared.types.TypeTable.{TypeTable}
use Rattle.spec_type_table.specs.declared.types.BtfType.{BtfType as Record}
use Rattle.spec_type_table.specs.Cells.{get_field}
use Rattle.spec_type_table.specs.Records.{kind_of, record_by_id}
use Rattle.spec_type_table.specs.Table.{type_of}
use Rattle.spec_type_table.specs.declared.kind.Kind.{Kind}
use Rattle.spec_type_table.specs.declared.kind.Kind.TheVariants.{Struct, Union}
use Rattle.spec_type_table.specs.Kinds.{kind_named}
use Rattle.c_dumper_dependency_order.specs.declared.order_state.Order.{Order}
use Rattle.c_dumper_dependency_order.specs.declared.order_state.Halted.{Halted}
use Rattle.c_dumper_dependency_order.specs.order_state.Work.{mark_of, table_in, strong_of, refused_by}
use Rattle.c_dumper_dependency_order.specs.ways.Idle.{idle_in, counted}
use Rattle.c_dumper_dependency_order.specs.begin.Start.{limit_of, with_made, opened_by, is_known, is_passable, met_by}
use Rattle.c_dumper_dependency_order.proofs.order_state.Laws.{node_at, named_at, comp_yes, comp_no}

-- ---- one more call, by what its count came to
abbrev pub came_to : Order → Result ℕ Refusal → Result Order Halted
came_to o (Ok k) = Ok (with_made o k)
came_to o (Err c) = Err (refused_by o c)

came_is : (c : Option ℕ) (o : Order) → came_to o (counted c o.made) ≡ opened_by (limit_of c) o
unfolding counted idle_in opened_by allows one_call
came_is None o = refl
came_is (Some calls) o = by (leb_tells calls o.made)
  where
    by : ((leb calls o.made ≡ true) × (calls ≤ o.made)) ⊎ ((leb calls o.made ≡ false) × (o.made < calls)) → came_to o (counted (Some calls) o.made) ≡ opened_by (most calls) o
    by (inl (e, l)) = ap (λ (q : Bool). came_to o (elim q as (λ y. Result ℕ Refusal) [ true ↦ Err CeilingPassed | false ↦ Ok (o.made + 1) ])) e
        ∙ sym (ap (λ (q : Bool). elim q as (λ y. Result Order Halted) [ true ↦ Ok (with_made o (suc o.made)) | false ↦ Err (refused_by o CeilingPassed) ]) (le-ltb o.made calls l))
    by (inr (e, l)) =
        let q : o.made + 1 ≡ suc o.made = omega arith in
        ap (λ (q : Bool). came_to o (elim q as (λ y. Result ℕ Refusal) [ true ↦ Err CeilingPassed | false ↦ Ok (o.made + 1) ])) e
        ∙ ap (λ (k : ℕ). Ok (with_made o k)) q
        ∙ sym (ap (λ (q : Bool). elim q as (λ y. Result Order Halted) [ true ↦ Ok (with_made o (suc o.made)) | false ↦ Err (refused_by o CeilingPassed) ]) (lt-ltb o.made calls l))

pub open_by : (c : Option ℕ) (o : Order) (q r : Result ℕ Refusal) → q ≡ counted c o.made → q ≡ r → (p : Result Order Halted) → p ≡ came_to o r → p ≡ opened_by (limit_of c) o
open_by c o q r eq er p ep = ep ∙ ap (came_to o) (sym er ∙ eq) ∙ came_is c o

allows_is : (c : Option ℕ) (k : ℕ) → is_ok (counted c k) ≡ allows (limit_of c) k
unfolding counted idle_in allows
allows_is None k = refl
allows_is (Some calls) k = by (leb_tells calls k)
  where
    by : ((leb calls k ≡ true) × (calls ≤ k)) ⊎ ((leb calls k ≡ false) × (k < calls)) → is_ok (counted (Some calls) k) ≡ allows (most calls) k
    by (inl (e, l)) = ap (λ (q : Bool). is_ok (elim q as (λ y. Result ℕ Refusal) [ true ↦ Err CeilingPassed | false ↦ Ok (k + 1) ])) e ∙ sym (le-ltb k calls l)
    by (inr (e, l)) = ap (λ (q : Bool). is_ok (elim q as (λ y. Result ℕ Refusal) [ true ↦ Err CeilingPassed | false ↦ Ok (k + 1) ])) e ∙ sym (lt-ltb k calls l)

-- ---- an id that is ordered
pub known_deep : (c : Option ℕ) (left : ℕ) (o : Order) (w : List ℕ) (x : ℕ) → left ≡ 0 → false ≡ is_known c left o w x
unfolding is_known
known_deep c left o w x e = sym (λ i. not (eq-eqb left 0 e i) && (allows (limit_of c) o.made && is_done (mark_of (get_field w x 1))))

-- one that is not too deep, by what its count came to
pub known_is : (c : Option ℕ) (left : ℕ) (o : Order) (w : List ℕ) (x : ℕ) → (left ≡ 0 → ⊥) → (q : Result ℕ Refusal) → q ≡ counted c o.made → (a b : Bool) → a ≡ is_ok q → a ≡ b → (d : Bool) → d ≡ is_done (mark_of (get_field w x 1))
    → (b && d) ≡ is_known c left o w x
unfolding is_known
known_is c left o w x n q eq a b ea t d ed = sym (λ i. not (ne_eqb left 0 n i) && (t i && d)) ∙ (λ i. not (eqb left 0) && ((ea ∙ ap is_ok eq ∙ allows_is c o.made) i && ed i))

pub done_yes : (m : Mark) → is_done m ≡ true → m ≡ done
done_yes new e = absurd (true≢false (sym e))
done_yes busy e = absurd (true≢false (sym e))
done_yes done e = refl

pub record Known (c : Option ℕ) (left : ℕ) (o : Order) (w : List ℕ) (x : ℕ) : Type 0 where
  pub deep : left ≡ 0 → ⊥
  pub allowed : allows (limit_of c) o.made ≡ true
  pub state : mark_of (get_field w x 1) ≡ done

pub known_yes : (c : Option ℕ) (left : ℕ) (o : Order) (w : List ℕ) (x : ℕ) → is_known c left o w x ≡ true → Known c left o w x
unfolding is_known
known_yes c left o w x e = record {
  deep = eqb-false left 0 (not-true (eqb left 0) (and_parts p q e).0);
  allowed = (and_parts (allows (limit_of c) o.made) (is_done (mark_of (get_field w x 1))) (and_parts p q e).1).0;
  state = done_yes (mark_of (get_field w x 1)) (and_parts (allows (limit_of c) o.made) (is_done (mark_of (get_field w x 1))) (and_parts p q e).1).1;
}
  where
    p : Bool
    p = not (eqb left 0)

    q : Bool
    q = allows (limit_of c) o.made && is_done (mark_of (get_field w x 1))

-- ---- an id in progress
module _ (b : TypeTable) (s : List ℕ) (w : List ℕ) (o : Order) (id : ℕ) (weak : Bool) where
  by_passable : (c : Bool) → is_passable (table_in b s w) id weak ≡ c → (r : Result Order Halted) → r ≡ met_by c o → r ≡ met_by (is_passable (table_in b s w) id weak) o
  by_passable c e r er = er ∙ ap (λ (q : Bool). met_by q o) (sym e)

  meets_no : (r : Result Order Halted) → r ≡ Err (refused_by o Cycle) → is_passable (table_in b s w) id weak ≡ false → r ≡ met_by (is_passable (table_in b s w) id weak) o
  unfolding met_by
  meets_no r er e = by_passable false e r er

  passed_as : is_passable (table_in b s w) id weak ≡ (is_comp ((table_in b s w).node id) && (weak && (table_in b s w).named id))
  unfolding is_passable
  passed_as = refl

  pub meet_strong : (r : Result Order Halted) → r ≡ Err (refused_by o Cycle) → weak ≡ false → r ≡ met_by (is_passable (table_in b s w) id weak) o
  meet_strong r er e = meets_no r er (passed_as ∙ and_right (is_comp ((table_in b s w).node id)) (weak && (table_in b s w).named id) (ap (λ (x : Bool). x && (table_in b s w).named id) e))

  module _ (t : Record) (et : t ≡ record_by_id b s w id) (nm : Bool) (en : nm ≡ is_named (type_of b s t)) where
    pub meet_nameless : (r : Result Order Halted) → r ≡ Err (refused_by o Cycle) → nm ≡ false → r ≡ met_by (is_passable (table_in b s w) id weak) o
    meet_nameless r er e = meets_no r er (passed_as ∙ and_right (is_comp ((table_in b s w).node id)) (weak && (table_in b s w).named id) (and_right weak ((table_in b s w).named id) (named_at b s w id t et ∙ sym en ∙ e)))

    pub meet_other : (r : Result Order Halted) → r ≡ Err (refused_by o Cycle) → (k : Kind) → k ≡ kind_named (kind_of t.info) → ((k ≡ Struct) ⊎ (k ≡ Union) → ⊥) → r ≡ met_by (is_passable (table_in b s w) id weak) o
    meet_other r er k ek n = meets_no r er (passed_as ∙ ap (λ (x : Bool). x && (weak && (table_in b s w).named id)) (ap is_comp (node_at b s w id t et) ∙ comp_no b s t k ek n))

    pub meet_passed : (r : Result Order Halted) → r ≡ Ok (strong_of o false) → weak ≡ true → nm ≡ true → (k : Kind) → k ≡ kind_named (kind_of t.info) → (k ≡ Struct) ⊎ (k ≡ Union) → r ≡ met_by (is_passable (table_in b s w) id weak) o
    unfolding met_by
    meet_passed r er ew e k ek c = by_passable true all r er
      where
        all : is_passable (table_in b s w) id weak ≡ true
        all = passed_as ∙ ap (λ (x : Bool). x && (weak && (table_in b s w).named id)) (ap is_comp (node_at b s w id t et) ∙ comp_yes b s t k ek c) ∙ ap (λ (x : Bool). x && (table_in b s w).named id) ew ∙ (named_at b s w id t et ∙ sym en ∙ e)
