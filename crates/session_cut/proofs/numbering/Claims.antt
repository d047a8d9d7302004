-- THE THEOREM: the numbers that the code of `session_cut_marks::marks` gives are the new numbers of `spec_cut::section`. Assumes nothing.
use Prim.Native.Nat.{ℕ, zero, suc, ◌+◌, ◌/◌, ◌<◌, ◌≤◌}
use native.Mathlib.Omega.{arith}
use mathlib.Core.Path.{◌≡◌, refl, sym, ◌∙◌, ap, subst}
use mathlib.Core.Bool.{Bool, true, false, not, true≢false}
use mathlib.Core.List.{List, [], ◌∷◌, Memᴰ}
use mathlib.Core.Logic.{◌⊎◌, inl, inr}
use lib.ListN.{length, get_or, length-replicate}
use lib.Dec.{eqb}
use borrow.Author.Tests.{eqb-true, eqb-false}
use Rattle.std.proofs.lemmas.Bool.{cases_lt}
use Rattle.spec_bytes.specs.words.Words.{get_word, table, words}
use Rattle.spec_bytes.proofs.words.Laws.{get_replicate}
use Rattle.spec_linux_btf.specs.Documentation.{int, ptr, array, struct, union, enum, fwd, typedef, volatile, const, restrict, func, func_proto, var, datasec, float, decl_tag, type_tag, enum64, Described, described}
use Rattle.spec_linux_btf.specs.Fields.{kind_in}
use Rattle.spec_type_table.specs.declared.types.TypeTable.{TypeTable}
use Rattle.btf_open_causes.specs.references.Followed.{type_count, kind_at}
use Rattle.btf_open_causes.specs.references.Bounds.{kind_out}
use Rattle.btf_open_causes.proofs.references.Zeros.{zeros_max}
use Rattle.spec_cut.specs.section.Kept.{void_type, type_of, Reached, asked, is_decl_tag, third, Kept, reached, its_tag}
use Rattle.spec_cut.specs.section.Renumbered.{kept_to, new_id}
use Rattle.spec_cut.specs.section.Test.{is_kept}
use Rattle.spec_cut.proofs.section.Test.{kept_tells}
use Rattle.spec_cut.specs.reopened.Seen.{SeenFrom}
use Rattle.spec_cut.proofs.reopened.Renamed.{tag_kind}
use Rattle.session_cut_marks.specs.tags.Tags.{tag_on, tagged_to}
use Rattle.session_cut_marks.specs.marks.Marks.{Heap, heap, marks_in, pushed_to, weight, closed, all_zero, asked as first, reached_marks, ids_of}
use Rattle.session_cut.specs.numbering.Marked.{Has, Markable, OnStack, Good, Passed}
use Rattle.session_cut.proofs.numbering.Marks as marks
use Rattle.session_cut.proofs.numbering.Marks.{table_to}
use Rattle.session_cut.proofs.numbering.Numbers.{positive, Target, tag_not, tag_is, tag_on_lem, Tags, tags_are, marked, numbers_are}

all_zero_lem : (i : ℕ) → get_or all_zero i 0 ≡ 0
unfolding all_zero
all_zero_lem i = get_replicate {A = ℕ} 0 262145 i

pub zero_long : length all_zero ≡ 262145
unfolding all_zero
zero_long = length-replicate {A = ℕ} 262145 0

past_type : (ts : List Described) (i : ℕ) → length ts ≤ i → get_or ts i void_type ≡ void_type
past_type [] i h = refl
past_type (t ∷ ts) zero h = absurd (omega (arith, h))
past_type (t ∷ ts) (suc i) h = past_type ts i (omega (arith, h))

kind_tag : (t : Described) → kind_in t ≡ 17 → is_decl_tag t ≡ true
unfolding kind_in
kind_tag (described n f z (int v a b c d e)) h = absurd (omega (arith, h))
kind_tag (described n f z (ptr v)) h = absurd (omega (arith, h))
kind_tag (described n f z (array v t x k)) h = absurd (omega (arith, h))
kind_tag (described n f z (struct ms)) h = absurd (omega (arith, h))
kind_tag (described n f z (union ms)) h = absurd (omega (arith, h))
kind_tag (described n f z (enum es)) h = absurd (omega (arith, h))
kind_tag (described n f z (fwd v)) h = absurd (omega (arith, h))
kind_tag (described n f z (typedef v)) h = absurd (omega (arith, h))
kind_tag (described n f z (volatile v)) h = absurd (omega (arith, h))
kind_tag (described n f z (const v)) h = absurd (omega (arith, h))
kind_tag (described n f z (restrict v)) h = absurd (omega (arith, h))
kind_tag (described n f z (func v)) h = absurd (omega (arith, h))
kind_tag (described n f z (func_proto ps)) h = absurd (omega (arith, h))
kind_tag (described n f z (var v l)) h = absurd (omega (arith, h))
kind_tag (described n f z (datasec ss)) h = absurd (omega (arith, h))
kind_tag (described n f z (float v)) h = absurd (omega (arith, h))
kind_tag (described n f z (decl_tag v c)) h = refl
kind_tag (described n f z (type_tag v)) h = absurd (omega (arith, h))
kind_tag (described n f z (enum64 es)) h = absurd (omega (arith, h))

-- a test that agrees with another on 1 to x numbers x alike
module _ (M N : ℕ → Bool) where
  kept_alike : (i : ℕ) → ((y : ℕ) → 1 ≤ y → y ≤ i → M y ≡ N y) → kept_to M i ≡ kept_to N i
  unfolding kept_to
  kept_alike zero h = refl
  kept_alike (suc i) h = λ k. elim (h (suc i) (omega arith) (omega arith) k) as (λ z. ℕ) [ true ↦ suc (kept_alike i (λ y a l. h y a (omega (arith, l))) k) | false ↦ kept_alike i (λ y a l. h y a (omega (arith, l))) k ]

  new_alike : (x : ℕ) → ((y : ℕ) → 1 ≤ y → y ≤ x → M y ≡ N y) → new_id M x ≡ new_id N x
  unfolding new_id
  new_alike zero h = refl
  new_alike (suc i) h = λ k. elim (h (suc i) (omega arith) (omega arith) k) as (λ z. ℕ) [ true ↦ suc (kept_alike i (λ y a l. h y a (omega (arith, l))) k) | false ↦ 0 ]

-- b, s, start: a table, its section and its index; ts: its types; given: the given ids in bytes. No id that is reached is past the largest table: so it
-- is where the given ids are below the count, and no cause 6.
module _ (b : TypeTable) (s start : List ℕ) (ts : List Described) (see : SeenFrom b s start ts) (given : List ℕ) (low : (x : ℕ) → Reached ts (words given) x → x < 262145) where
  abbrev gs : List ℕ
  gs = words given

  abbrev n : ℕ
  n = length given / 4

  gs_are : gs ≡ table (get_word given) 0 n
  unfolding words
  gs_are = refl

  begin : Good ts gs all_zero all_zero 0
  begin = record {
    marks_long = zero_long;
    stack_long = zero_long;
    deep = omega (arith, zeros_max all_zero, zero_long);
    sound = λ x h. absurd (omega (arith, h, all_zero_lem x));
    one = λ x. omega (arith, all_zero_lem x);
    no_void = all_zero_lem 0;
    stacked = λ j l. absurd (omega (arith, l));
  }

  given_reached : (k : ℕ) → k < n → Reached ts gs (get_word given k)
  given_reached k l =
      let z : 0 + k ≡ k = omega arith in
      asked (subst (λ (xs : List ℕ). Memᴰ (get_word given k) xs) (sym gs_are) (subst (λ (i : ℕ). Memᴰ (get_word given i) (table (get_word given) 0 n)) z (table_to (get_word given) 0 n k l)))

  -- the marks after the closure: of the reached ids, and of all of them
  record Final (m : List ℕ) : Type 0 where
    long : length m ≡ 262145
    void : get_or m 0 0 ≡ 0
    sound : (x : ℕ) → Has m x → Reached ts gs x
    whole : (x : ℕ) → Reached ts gs x → Markable x → Has m x

  final : Final (reached_marks b s start given all_zero)
  unfolding reached_marks first
  final = read (closed b s start (weight h) h) (marks.closed_ends ts gs b s start see (get_word given) n (weight h) h (omega arith) (start_closes h (marks.all_good ts gs all_zero all_zero 0 begin (get_word given) n given_reached)))
    where
      h : Heap
      h = pushed_to (get_word given) (heap all_zero all_zero 0) n

      start_closes : (q : Heap) → marks.Pushes ts gs all_zero all_zero 0 (λ m. (k : ℕ) → k < n → Markable (get_word given k) → Has m (get_word given k)) q → marks.Closes ts gs b s start see (get_word given) n q
      start_closes _ (marks.pushes m st d g w p) = marks.closes m st d g (λ x e. by x (w.news x e)) p
        where
          by : (x : ℕ) → Has all_zero x ⊎ OnStack st d x → OnStack st d x ⊎ Passed ts m x
          by x (inl e) = absurd (omega (arith, e, all_zero_lem x))
          by x (inr o) = inl o

      read : (q : Heap) → marks.Closed ts gs b s start see (get_word given) n q → Final (marks_in q)
      read _ (marks.is_closed m st g p w) = record {
        long = g.marks_long;
        void = g.no_void;
        sound = g.sound;
        whole = λ x r v. marks.reached_marked ts gs b s start see (get_word given) n gs_are m st g p w r v;
      }

  abbrev m : List ℕ
  m = reached_marks b s start given all_zero

  abbrev l : List ℕ
  l = tagged_to b s start m (type_count b)

  tags : Tags b s start m (type_count b) l
  tags = tags_are b s start m (type_count b)

  -- kinds and DECL_TAGs of ids
  tag_of : (x : ℕ) → kind_at b start x ≡ 17 → (is_decl_tag (type_of ts x) ≡ true) × (Target b s start x ≡ third (type_of ts x)) × (x < type_count b)
  tag_of zero e = absurd (omega (arith, e, see.zero_kind))
  tag_of (suc i) e = go (cases_lt (suc i) (type_count b))
    where
      go : (suc i < type_count b) ⊎ (type_count b ≤ suc i) → (is_decl_tag (get_or ts i void_type) ≡ true) × (Target b s start (suc i) ≡ third (get_or ts i void_type)) × (suc i < type_count b)
      go (inl q) = let k : i < length ts = omega (arith, q, see.count) in (kind_tag (get_or ts i void_type) (sym (see.kind i k) ∙ e), see.third_word i k, q)
      go (inr q) = absurd (omega (arith, e, kind_out b start (suc i) q))

  of_tag : (x : ℕ) → is_decl_tag (type_of ts x) ≡ true → kind_at b start x ≡ 17
  of_tag zero e = absurd (true≢false (sym e))
  of_tag (suc i) e = go (cases_lt i (length ts))
    where
      go : (i < length ts) ⊎ (length ts ≤ i) → kind_at b start (suc i) ≡ 17
      go (inl q) = see.kind i q ∙ tag_kind (get_or ts i void_type) e
      go (inr q) = absurd (true≢false (sym e ∙ ap is_decl_tag (past_type ts i q)))

  no_tag : (x : ℕ) → (kind_at b start x ≡ 17 → ⊥) → is_decl_tag (type_of ts x) ≡ false
  no_tag x n = go (is_decl_tag (type_of ts x)) refl
    where
      go : (q : Bool) → is_decl_tag (type_of ts x) ≡ q → q ≡ false
      go true e = absurd (n (of_tag x e))
      go false e = refl

  -- a mark, in the end: kept
  marked_kept : (x : ℕ) → Has l x → Kept ts gs x
  marked_kept x h = go (tags.to x h)
    where
      go : Has m x ⊎ ((x < type_count b) × (x < length m) × (tag_on b s start x ≡ 0 → ⊥) × Has m (tag_on b s start x)) → Kept ts gs x
      go (inl e) = reached (final.sound x e)
      go (inr q) =
          let r = tag_is b s start x q.2 in
          let u = tag_of x r.0 in
          let e : tag_on b s start x ≡ third (type_of ts x) = r.1 ∙ u.1 in
          its_tag u.0 (subst (Reached ts gs) e (final.sound (tag_on b s start x) q.3)) (λ z. q.2 (e ∙ z)) (ap (λ (k : ℕ). is_decl_tag (type_of ts k)) (sym u.1) ∙ no_tag (Target b s start x) r.2)

  kept_marked : (x : ℕ) → Markable x → Kept ts gs x → Has l x
  kept_marked x v (reached r) = tags.was x (final.whole x r v)
  kept_marked x v (its_tag t r nz nt) =
      let k : kind_at b start x ≡ 17 = of_tag x t in
      let u = tag_of x k in
      let e : tag_on b s start x ≡ Target b s start x = tag_on_lem b s start x k (λ z. true≢false (sym (tag_of (Target b s start x) z).0 ∙ ap (λ (y : ℕ). is_decl_tag (type_of ts y)) u.1 ∙ nt)) in
      let f : tag_on b s start x ≡ third (type_of ts x) = e ∙ u.1 in
      tags.is x (u.2, omega (arith, v.1, final.long), (λ z. nz (sym f ∙ z)), subst (Has m) (sym f) (final.whole (third (type_of ts x)) r (positive (third (type_of ts x)) nz, low (third (type_of ts x)) r)))

  agree : (x : ℕ) → Markable x → marked l x ≡ is_kept ts gs x
  agree x v = go (eqb (get_or l x 0) 0) refl (is_kept ts gs x) refl
    where
      go : (p : Bool) → eqb (get_or l x 0) 0 ≡ p → (q : Bool) → is_kept ts gs x ≡ q → not p ≡ q
      go true e true f = absurd (omega (arith, eqb-true (get_or l x 0) 0 e, kept_marked x v ((kept_tells ts gs x).0 f)))
      go true e false f = refl
      go false e true f = refl
      go false e false f = absurd (true≢false (sym ((kept_tells ts gs x).1 (marked_kept x (positive (get_or l x 0) (eqb-false (get_or l x 0) 0 e)))) ∙ f))

  -- "ids renumbered in old order", 0 for what is not kept
  pub ids_are : (x : ℕ) → x < 262145 → get_or (ids_of b s start given all_zero) x 0 ≡ new_id (is_kept ts gs) x
  unfolding ids_of
  ids_are x k =
      numbers_are l (tags.first final.void (tag_not b s start 0 (λ e. omega (arith, e, see.zero_kind)))) (tags.long ∙ final.long) x k
      ∙ new_alike (marked l) (is_kept ts gs) x (λ y a q. agree y (omega (arith, a), omega (arith, q, k)))
