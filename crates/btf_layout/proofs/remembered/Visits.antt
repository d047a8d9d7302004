-- Of a work whose memory is right: align_once answers what get_align_of answers, and word 2 of void counts the visits, at most types plus members. Assumes
-- nothing.
use Prim.Native.Nat.{ℕ, zero, suc, ◌+◌, ◌*◌, ◌/◌, ◌<◌, ◌≤◌}
use native.Mathlib.Omega.{arith}
use mathlib.Core.Path.{◌≡◌, refl, ap, ◌∙◌, sym, subst}
use mathlib.Core.Bool.{true}
use mathlib.Core.List.{List, [], ◌∷◌, Memᴰ}
use mathlib.Core.Logic.{⊎_elim}
use lib.ListN.{length}
use lib.Dec.{leb}
use borrow.Author.Tests.{le-leb}
use Rattle.std.proofs.lemmas.Bool.{cases_lt}
use Rattle.spec_bytes.proofs.words.Laws.{get_put_same}
use Rattle.spec_c_dumper.specs.rules.Writer.{Ask, got, ask_then}
use Rattle.spec_c_dumper.specs.rules.Types.{Member, member_types, BtfType, Void, Int, Ptr, Array, Composite, Enum, Enum64, Fwd, Typedef, Mod, Func, Var, Datasec, FuncProto, Float, DeclTag, TypeTag, Btf as Rules, node_of}
use Rattle.spec_c_dumper.specs.rules.Layout.{smaller, align_of, get_align_of}
use Rattle.spec_type_table.specs.Cells.{get_field, put_field}
use Rattle.spec_type_table.proofs.Frame.{field_other}
use Rattle.spec_c_dumper.specs.needs.Needs.{kids}
use Rattle.spec_c_dumper.specs.alignment_once.Once.{Remembered, Known, unknown, known, Keep, Once, found, refused, Asking, once_then, ask_once, memory_after, above, alone, widest, members_once, taken, type_once, keep_once, align_once, Right, member_count, members_to, paid_to}
use Rattle.spec_c_dumper.proofs.alignment_once.Right.{Told, align_of_lem, above_tells, taken_found, taken_refused, type_told, not_inside, told, same_answer, stays_right}
use Rattle.spec_c_dumper.proofs.alignment_once.Counted.{paid_more, paid_most}
use Rattle.std.specs.Prelude.{Result, Ok, Err}
use Rattle.spec_bytes.specs.declared.refusal.Refusal.{Refusal}
use Rattle.btf_layout.specs.declared.remembered.Seen.{Seen as Code}
use Rattle.btf_layout.specs.remembered.Words.{coded, with_visits, work_keep, once_of, forget, once_with}
use Rattle.btf_layout.proofs.remembered.Laws.{remember_here}
use Rattle.btf_layout.proofs.remembered.Lawful.{HoldsTypes, FitsWord, coded_is, work_lawful, tells_fits}

answer_memory : (a : Result Code Refusal) (u : List ℕ) → memory_after (once_of a u) ≡ u
unfolding memory_after once_of
answer_memory (Ok s) u = refl
answer_memory (Err c) u = refl

forget_memory : (x : Once (List ℕ) Remembered) → memory_after (forget x) ≡ memory_after x
unfolding memory_after forget
forget_memory (found s m k) = refl
forget_memory (refused c m k) = refl

forget_answer : (x : Once (List ℕ) Remembered) → ask_once (forget x) ≡ ask_once x
unfolding ask_once forget
forget_answer (found s m k) = refl
forget_answer (refused c m k) = refl

-- a table whose pointers have at most 15 bytes, whose followed ids are below the count (cause 6 of opening), and of fewer than 2^32 types and members
module _ (types : ℕ) (B : Rules) (small : B.ptr_sz ≤ 15) (below : (x y : ℕ) → Memᴰ y (kids (node_of (B.type_by_id x))) → y < types) (few : types + members_to B types < 4294967296) where
  abbrev K : Keep (List ℕ)
  K = work_keep types B

  abbrev paid : List ℕ → ℕ
  paid w = paid_to B (K.recall w) types

  -- room for the words, and the visits that the memory took
  abbrev pub Counted : List ℕ → Type 0
  Counted w = HoldsTypes types w × (get_field w 0 2 ≡ paid w)

  abbrev pub Holds : Once (List ℕ) Remembered → Type 0
  Holds (found s m k) = Counted m
  Holds (refused c m k) = Counted m

  -- one more entry
  module _ (id : ℕ) (l : id < types) (s : Remembered) (f : FitsWord s) (w : List ℕ) (h : Counted w) (u : K.recall w id ≡ unknown) where
    more_paid : paid (K.remember id s w) ≡ paid w + suc (member_count (B.type_by_id id))
    more_paid = paid_more B (K.recall w) (K.recall (K.remember id s w)) id ((work_lawful types B).other id s w) s u ((work_lawful types B).same id s w f h.0 l) types l

    more_counted : get_field (K.remember id s w) 0 2 ≡ get_field w 0 2 + member_count (B.type_by_id id) + 1
    unfolding work_keep with_visits smaller
    more_counted =
        let nz : coded s ≡ 0 → ⊥ = λ z. omega (arith, coded_is s f, f.1) in
        let b : get_field w 0 2 + member_count (B.type_by_id id) + 1 ≤ 4294967295 = omega (arith, h.1, more_paid, paid_most B (K.recall (K.remember id s w)) types, few) in
        let q : 0 * 16 + 2 < length w / 4 = omega (arith, h.0, l) in
        ap (λ (x : List ℕ). get_field x 0 2) (sym (remember_here types id (coded s) (member_count (B.type_by_id id)) w nz l (with_visits (member_count (B.type_by_id id)) w) (put_field (with_visits (member_count (B.type_by_id id)) w) id 15 (coded s)) refl refl))
        ∙ field_other (with_visits (member_count (B.type_by_id id)) w) id 15 (coded s) 0 2 (omega arith) (omega arith) (λ e. omega arith)
        ∙ get_put_same w (0 * 16 + 2) _ q
        ∙ (let e : leb (get_field w 0 2 + member_count (B.type_by_id id) + 1) 4294967295 ≡ true = le-leb _ _ b in rw (e, smaller))

    more : Counted (K.remember id s w)
    more = ((work_lawful types B).good id s w h.0, omega (arith, more_counted, more_paid, h.1))

  module _ (left : ℕ) (ask : ℕ → Asking (List ℕ) Remembered) (t : (id : ℕ) (m : List ℕ) (k : ℕ) → Right K B m → Told K B (align_of_lem K B id) left m (ask id m k))
      (c : (id : ℕ) (m : List ℕ) (k : ℕ) → id < types → Right K B m → Counted m → Holds (ask id m k)) where
    members_hold : (xs : List Member) → ((y : ℕ) → Memᴰ y (member_types xs) → y < types) → (s : Remembered) (m : List ℕ) (k : ℕ) → Right K B m → Counted m → Holds (members_once ask s xs m k)
    unfolding members_once once_then
    members_hold [] b s m k r g = g
    members_hold (x ∷ xs) b s m k r g =
        go (λ y m' k'. members_hold xs (λ z i. b z (Memᴰ.tail i)) (widest s y) m' k') (ask x.type_id m (suc k)) (t x.type_id m (suc k) r) (c x.type_id m (suc k) (b x.type_id (Memᴰ.head refl)) r g)
      where
        go : ((y : Remembered) (m' : List ℕ) (k' : ℕ) → Right K B m' → Counted m' → Holds (members_once ask (widest s y) xs m' k')) → (q : Once (List ℕ) Remembered) → Told K B (align_of_lem K B x.type_id) left m q → Holds q → Holds (once_then q (λ y m' k'. members_once ask (widest s y) xs m' k'))
        go on (found y m' k') w d = on y m' k' w.2 d
        go on (refused e m' k') w d = d

    type_holds : (T : BtfType) → ((y : ℕ) → Memᴰ y (kids (node_of T)) → y < types) → (m : List ℕ) (k : ℕ) → Right K B m → Counted m → Holds (type_once B ask T m k)
    unfolding type_once
    type_holds Void b m k r g = g
    type_holds (Int i bits) b m k r g = g
    type_holds (Ptr x) b m k r g = g
    type_holds (Array x i) b m k r g = c x m k (b x (Memᴰ.head refl)) r g
    type_holds (Composite s i sz ms) b m k r g = members_hold ms b (alone 1) m k r g
    type_holds (Enum s i sz vs) b m k r g = g
    type_holds (Enum64 s i sz vs) b m k r g = g
    type_holds (Fwd u i) b m k r g = g
    type_holds (Typedef i x) b m k r g = c x m k (b x (Memᴰ.head refl)) r g
    type_holds (Mod q x) b m k r g = c x m k (b x (Memᴰ.head refl)) r g
    type_holds (Func i) b m k r g = g
    type_holds (Var i) b m k r g = g
    type_holds (Datasec i) b m k r g = g
    type_holds (FuncProto x ps) b m k r g = g
    type_holds (Float i sz) b m k r g = g
    type_holds (DeclTag a i x j) b m k r g = g
    type_holds (TypeTag a i x) b m k r g = c x m k (b x (Memᴰ.head refl)) r g

  taken_holds : (left : ℕ) (s : Remembered) (m : List ℕ) (k : ℕ) → Counted m → Holds (taken left s m k)
  taken_holds left s m k g = ⊎_elim (λ l. subst Holds (sym (taken_refused left s m k l)) g) (λ l. subst Holds (sym (taken_found left s m k l)) g) (cases_lt left s.height)

  keep_holds : (left id : ℕ) → left < 512 → (m : List ℕ) → id < types → K.recall m id ≡ unknown → (r : Once (List ℕ) Remembered) → Told K B (λ i. align_of B (get_align_of i B) (B.type_by_id id)) left m r → Holds r → Holds (once_then r (keep_once K id))
  unfolding once_then keep_once
  keep_holds left id b m l u (refused c m' k') t d = d
  keep_holds left id b m l u (found s m' k') t d = by (K.recall m' id) refl
    where
      by : (q : Known) → K.recall m' id ≡ q → Counted (K.remember id (above s) m')
      by unknown e = more id l (above s) (tells_fits B small id (above s) (above_tells K B types (HoldsTypes types) FitsWord (work_lawful types B) id s t.0) (omega (arith, t.1))) m' d e
      by (known x) e = absurd (not_inside K B types (HoldsTypes types) FitsWord (work_lawful types B) id m m' s u t.0 t.2 t.4 x e)

  pub align_holds : (left id : ℕ) → left ≤ 512 → (m : List ℕ) (k : ℕ) → id < types → Right K B m → Counted m → Holds (align_once K left B id m k)
  unfolding align_once
  align_holds zero id b m k l r g = g
  align_holds (suc left) id b m k l r g = go (λ t m' k'. align_holds left t (omega arith) m' k') (K.recall m id) refl
    where
      go : ((t : ℕ) (m' : List ℕ) (k' : ℕ) → t < types → Right K B m' → Counted m' → Holds (align_once K left B t m' k')) → (q : Known) → K.recall m id ≡ q
          → Holds (elim q as (λ (q : Known). Once (List ℕ) Remembered) [ known s ↦ taken (suc left) s m k | unknown ↦ once_then (type_once B (λ t m' k'. align_once K left B t m' k') (B.type_by_id id) m (suc k)) (keep_once K id) ])
      go on (known s) e = taken_holds (suc left) s m k g
      go on unknown e =
          keep_holds left id b m l e (type_once B (λ t m' k'. align_once K left B t m' k') (B.type_by_id id) m (suc k))
          (type_told K B left (λ t m' k'. align_once K left B t m' k') (λ t m' k'. told K B types (HoldsTypes types) FitsWord (work_lawful types B) left t m' k') (B.type_by_id id) m (suc k) r)
          (type_holds left (λ t m' k'. align_once K left B t m' k') (λ t m' k'. told K B types (HoldsTypes types) FitsWord (work_lawful types B) left t m' k') on (B.type_by_id id) (below id) m (suc k) r g)

  holds_memory : (x : Once (List ℕ) Remembered) → Holds x → Counted (memory_after x)
  unfolding memory_after
  holds_memory (found s m k) h = h
  holds_memory (refused c m k) h = h

  -- ---- what the code promises, of such a work
  module _ (left id : ℕ) (b : left ≤ 512) (l : id < types) (w : List ℕ) (right : Right K B w) (g : Counted w) (r : Result Code Refusal) (u : List ℕ) (e : once_of r u ≡ once_with types B left id w) where
    abbrev X : Once (List ℕ) Remembered
    X = align_once K left B id w 0

    memory_is : u ≡ memory_after X
    unfolding once_with
    memory_is = sym (answer_memory r u) ∙ ap memory_after e ∙ forget_memory X

    -- "Answers and refusals .. must equal those of the plain way"
    pub says_plain : ask_then (ask_once (once_of r u)) (λ s. got s.align) ≡ get_align_of left B id
    unfolding once_with
    says_plain =
        ap (λ (x : Ask Remembered). ask_then x (λ s. got s.align)) (ap ask_once e ∙ forget_answer X)
        ∙ same_answer K B types (HoldsTypes types) FitsWord (work_lawful types B) left id w 0 right

    pub right_after : Right K B u
    right_after = subst (Right K B) (sym memory_is) (stays_right K B types (HoldsTypes types) FitsWord (work_lawful types B) left id w 0 right).0

    pub counted_after : Counted u
    counted_after = subst Counted (sym memory_is) (holds_memory X (align_holds left id b w 0 l right g))

    -- "at most types plus members"
    pub few_visits : get_field u 0 2 ≤ types + members_to B types
    few_visits = subst (λ (n : ℕ). n ≤ types + members_to B types) (sym counted_after.1) (paid_most B (K.recall u) types)
