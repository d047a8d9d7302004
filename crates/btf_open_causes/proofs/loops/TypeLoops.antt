-- Cause 8 on the table: the successors, and the theorem. Assumes nothing.
use Prim.Native.Nat.{ℕ, suc, ◌+◌, ◌/◌, ◌%◌, ◌<◌, ◌≤◌}
use mathlib.Core.Path.{◌≡◌, refl, ap, ◌∙◌, sym, subst}
use mathlib.Core.Bool.{Bool, true, false}
use mathlib.Core.List.{List}
use mathlib.Core.Logic.{⊎_elim, ◌⊎◌, ◌↔◌}
use native.Mathlib.Omega.{arith}
use lib.Dec.{eqb}
use borrow.Author.Tests.{eqb-true}
use Rattle.std.proofs.lemmas.Bool.{cases_lt}
use Rattle.spec_bytes.specs.words.Words.{pick}
use Rattle.spec_type_table.specs.declared.types.TypeTable.{TypeTable}
use Rattle.spec_type_table.specs.Records.{section_word, vlen_of}
use Rattle.btf_open_causes.specs.references.Followed.{is_kind_among, composites, targets, entry_at, place_of, kind_at, count_for, count_at, id_at, followed_count, followed_id}
use Rattle.btf_open_causes.specs.loops.Graph.{Loop, has_loop}
use Rattle.btf_open_causes.specs.loops.Loops.{passing, deg_at, deg_of, deg_is, graph_of, TypeLoop}
use Rattle.btf_open_causes.proofs.references.Accessors.{steady, each, no_composite, kind_is, place_is, followed_is}
use Rattle.btf_open_causes.specs.loops.Walk.{Safe, Passed}
use Rattle.btf_open_causes.proofs.loops.Graphs.{has_loop_yes, has_loop_no}

-- the successors of the record of a kind at a place
module _ (b : TypeTable) (s : List ℕ) (k at : ℕ) where
  pub deg_composite : 4 ≤ k → k < 6 → 0 ≡ deg_at b s k at
  unfolding deg_at is_kind_among
  deg_composite h l = rw (deg_at, steady (is_kind_among composites) true 4 2 k (refl, (refl, tt)) h l)

  pub deg_other : (k < 4) ⊎ (6 ≤ k) → (n : ℕ) → n ≡ count_at b s k at → n ≡ deg_at b s k at
  unfolding deg_at
  deg_other o n f = rw (deg_at, no_composite k o) f

module _ (b : TypeTable) (s start : List ℕ) where
  pub deg_by : (x i : ℕ) → i ≡ entry_at b start x → (n : ℕ) → n ≡ deg_at b s (i % 32) (i / 32) → n ≡ deg_of b s start x
  unfolding deg_of
  deg_by x i e n f = rw (← kind_is b start x i e, ← place_is b start x i e) f

  pub passed_by : (x i : ℕ) → i ≡ entry_at b start x → (m r : ℕ) → Passed (graph_of b s start) (id_at b s (i % 32) (i / 32)) m r
      → Passed (graph_of b s start) (followed_id b s start x) m r
  passed_by x i e m r w k p q = subst (Safe (graph_of b s start)) (followed_is b start x i e s _ k refl) (w k p q)

  module _ (x : ℕ) where
    deg_passing : is_kind_among passing (kind_at b start x) ≡ true → deg_of b s start x ≡ followed_count b s start x
    unfolding is_kind_among
    deg_passing e = rw (deg_is b s start x, each (is_kind_among composites) false passing (kind_at b start x) (refl, (refl, (refl, (refl, (refl, (refl, (refl, (refl, tt)))))))) e)

    -- what has a successor is of a passing kind
    is_passing : (k : ℕ) → k < deg_of b s start x → is_kind_among passing (kind_at b start x) ≡ true
    unfolding deg_of deg_at count_at count_for is_kind_among
    is_passing k h = go (is_kind_among composites (kind_at b start x)) (is_kind_among targets (kind_at b start x)) (eqb (kind_at b start x) 13) refl refl h
      where
        go : (c t p : Bool) → is_kind_among targets (kind_at b start x) ≡ t → eqb (kind_at b start x) 13 ≡ p
            → k < pick c 0 (pick t 1 (pick c (vlen_of (section_word b s (place_of b start x + 4))) (pick p (vlen_of (section_word b s (place_of b start x + 4)) + 1) 0))) → is_kind_among passing (kind_at b start x) ≡ true
        go true t p e f l = absurd (omega arith)
        go false true p e f l = each (is_kind_among passing) true targets (kind_at b start x) (refl, (refl, (refl, (refl, (refl, (refl, (refl, tt))))))) e
        go false false true e f l = ap (is_kind_among passing) (eqb-true (kind_at b start x) 13 f)
        go false false false e f l = absurd (omega arith)

  to_types : Loop (graph_of b s start) → TypeLoop b s start
  to_types l = record {
    n = l.n;
    x = l.x;
    some = l.some;
    round = l.round;
    kinds = λ i h. ⊎_elim (λ p. let e : l.n ≡ i = omega arith in subst (λ (y : ℕ). is_kind_among passing (kind_at b start y) ≡ true) (sym l.round ∙ ap l.x e) (node 0 l.some)) (node i) (cases_lt l.n (suc i));
    follows = λ i h. let q = l.edges i h in (q.0, subst (λ (a : ℕ). q.0 < a) (deg_passing (l.x i) (node i h)) q.1, q.2);
  }
    where
      node : (i : ℕ) → i < l.n → is_kind_among passing (kind_at b start (l.x i)) ≡ true
      node i h = let q = l.edges i h in is_passing (l.x i) q.0 q.1

  from_types : TypeLoop b s start → Loop (graph_of b s start)
  from_types l = record {
    n = l.n;
    x = l.x;
    some = l.some;
    round = l.round;
    edges = λ i h. let q = l.follows i h in (q.0, subst (λ (a : ℕ). q.0 < a) (sym (deg_passing (l.x i) (l.kinds i (omega arith)))) q.1, q.2);
  }

  -- THE THEOREM, of the table
  pub type_loop : (has_loop (graph_of b s start) ≡ true) ↔ TypeLoop b s start
  type_loop = (λ e. to_types (has_loop_no (graph_of b s start) e), λ l. has_loop_yes (graph_of b s start) (from_types l))
