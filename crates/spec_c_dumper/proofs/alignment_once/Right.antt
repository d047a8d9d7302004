-- The remembering way answers what the plain way answers, refusals included, and leaves a memory that is right and has only grown. Assumes nothing.
use Prim.Native.Nat.{ℕ, zero, suc, ◌<◌, ◌≤◌}
use native.Mathlib.Decide.{ℕ_discrete}
use native.Mathlib.Omega.{arith}
use mathlib.Core.Path.{◌≡◌, refl, ap, ◌∙◌, sym, subst}
use mathlib.Core.Bool.{true, false}
use mathlib.Core.List.{List, [], ◌∷◌}
use mathlib.Core.Logic.{◌⊎◌, inl, inr, ⊎_elim}
use lib.Dec.{leb}
use borrow.Author.Tests.{le-leb, lt-leb}
use Rattle.std.proofs.lemmas.Bool.{cases_lt}
use Rattle.spec_c_dumper.specs.rules.Writer.{Ask, got, no, ask_then, too_deep}
use Rattle.spec_c_dumper.specs.rules.Types.{Member, BtfType, Void, Int, Ptr, Array, Composite, Enum, Enum64, Fwd, Typedef, Mod, Func, Var, Datasec, FuncProto, Float, DeclTag, TypeTag, Btf}
use Rattle.spec_c_dumper.specs.rules.Layout.{larger, smaller, octets, align_members, align_of, get_align_of}
use Rattle.spec_c_dumper.specs.alignment_once.Once.{Remembered, Known, unknown, known, Keep, Lawful, Once, found, refused, Asking, once_then, ask_once, memory_after, above, alone, widest, members_once, taken, type_once, keep_once, align_once, within, Tells, Right, Grows}
use Rattle.spec_c_dumper.proofs.rules.Asking.{no_got}

pub known_unknown : (s : Remembered) → unknown ≡ known s → ⊥
known_unknown s e = let z : ◌≡◌ {A = ℕ} 0 1 = cc in omega arith

seen_in : Remembered → Known → Remembered
seen_in d unknown = d
seen_in d (known s) = s

pub known_same : (s t : Remembered) → known s ≡ known t → s ≡ t
unfolding seen_in
known_same s t e = ap (seen_in s) e

pub same_or : {P : Type 0} → (a b : ℕ) → (a ≡ b → P) → ((a ≡ b → ⊥) → P) → P
same_or {P} a b f g = by (ℕ_discrete a b)
  where
    by : Dec (a ≡ b) → P
    by (yes e) = f e
    by (Dec.no n) = g n

-- ---- the larger of two
pub first_below : (x y : ℕ) → x ≤ larger x y
unfolding larger
first_below x y = ⊎_elim (λ l. rw (lt-leb x y l, larger) (omega arith)) (λ l. rw (le-leb x y l, larger) l) (cases_lt y x)

pub last_below : (x y : ℕ) → y ≤ larger x y
unfolding larger
last_below x y = ⊎_elim (λ l. rw (lt-leb x y l, larger) (omega arith)) (λ l. rw (le-leb x y l, larger) (omega arith)) (cases_lt y x)

pub both_below : (x y n : ℕ) → x ≤ n → y ≤ n → larger x y ≤ n
unfolding larger
both_below x y n h k = ⊎_elim (λ l. rw (lt-leb x y l, larger) h) (λ l. rw (le-leb x y l, larger) k) (cases_lt y x)

-- ---- with n calls left
module _ (s : Remembered) (n : ℕ) where
  pub within_got : s.height ≤ n → within s n ≡ got s.align
  unfolding within
  within_got l = rw (le-leb s.height n l, within)

  pub within_no : n < s.height → within s n ≡ no too_deep
  unfolding within
  within_no l = rw (lt-leb s.height n l, within)

  within_above : within s n ≡ within (above s) (suc n)
  unfolding within
  within_above =
      ⊎_elim
      (λ l. let e : leb (suc s.height) (suc n) ≡ false = lt-leb (suc s.height) (suc n) (omega arith) in rw (within_no l, within, e))
      (λ l. let e : leb (suc s.height) (suc n) ≡ true = le-leb (suc s.height) (suc n) (omega arith) in rw (within_got l, within, e))
      (cases_lt n s.height)

  alone_got : (a : ℕ) → got a ≡ within (alone a) n
  unfolding within
  alone_got a = let e : leb 0 n ≡ true = le-leb 0 n (omega arith) in rw (e, within)

then_got : (x : Ask ℕ) → ask_then x (λ a. got a) ≡ x
unfolding ask_then
then_got (got a) = refl
then_got (no c) = refl

-- two of them, one after the other
module _ (s t : Remembered) (n : ℕ) (g : ℕ → Ask ℕ) where
  after_got : s.height ≤ n → ask_then (within s n) g ≡ g s.align
  unfolding ask_then
  after_got l = ap (λ (x : Ask ℕ). ask_then x g) (within_got s n l)

  after_no : n < s.height → ask_then (within s n) g ≡ no too_deep
  unfolding ask_then
  after_no l = ap (λ (x : Ask ℕ). ask_then x g) (within_no s n l)

both_within : (s t : Remembered) (n : ℕ) (g : ℕ → Ask ℕ) → ask_then (within s n) (λ a. ask_then (within t n) (λ b. g (larger a b))) ≡ ask_then (within (widest s t) n) g
both_within s t n g =
    ⊎_elim
    (λ l. after_no s t n (λ a. ask_then (within t n) (λ b. g (larger a b))) l ∙ sym (after_no (widest s t) t n g (omega (arith, first_below s.height t.height))))
    (λ l. after_got s t n (λ a. ask_then (within t n) (λ b. g (larger a b))) l ∙ ⊎_elim
    (λ k. after_no t s n (λ b. g (larger s.align b)) k ∙ sym (after_no (widest s t) t n g (omega (arith, last_below s.height t.height))))
    (λ k. after_got t s n (λ b. g (larger s.align b)) k ∙ sym (after_got (widest s t) t n g (both_below s.height t.height n l k)))
    (cases_lt n t.height))
    (cases_lt n s.height)

-- what is asked first is no higher than the whole
no_lower : (s s' : Remembered) (g : ℕ → ℕ → Ask ℕ) → ((n : ℕ) → ask_then (within s n) (g n) ≡ within s' n) → s.height ≤ s'.height
no_lower s s' g h =
    ⊎_elim (λ l. absurd (no_got 12 s'.align (sym (after_no s s s'.height (g s'.height) l) ∙ h s'.height ∙ within_got s' s'.height (omega arith))))
    (λ l. l)
    (cases_lt s'.height s.height)

-- "taking a remembered alignment counts none"
module _ {M : Type 0} (left : ℕ) (s : Remembered) (m : M) (k : ℕ) where
  pub taken_found : s.height ≤ left → taken left s m k ≡ found s m k
  unfolding taken
  taken_found l = rw (le-leb s.height left l, taken)

  pub taken_refused : left < s.height → taken left s m k ≡ refused too_deep m k
  unfolding taken
  taken_refused l = rw (lt-leb s.height left l, taken)

module _ {M : Type 0} (K : Keep M) (B : Btf) where
  -- what was not remembered before is no higher than h
  abbrev pub New : ℕ → M → M → Type 0
  New h m m' = (id : ℕ) (s : Remembered) → K.recall m' id ≡ known s → (K.recall m id ≡ known s) ⊎ (s.height ≤ h)

  -- P n is the plain way's answer with n calls left
  abbrev pub Told : (ℕ → Ask ℕ) → ℕ → M → Once M Remembered → Type 0
  Told P left m (found s m' k) = ((n : ℕ) → P n ≡ within s n) × (s.height ≤ left) × Right K B m' × Grows K m m' × New s.height m m'
  Told P left m (refused c m' k) = (P left ≡ no c) × Right K B m' × Grows K m m'

  abbrev pub align_of_lem : ℕ → ℕ → Ask ℕ
  align_of_lem id n = get_align_of n B id

  -- after a question that was answered
  module _ (P P' : ℕ → Ask ℕ) (e : (n : ℕ) → P n ≡ P' n) (left h : ℕ) (m m' : M) (grows : Grows K m m') (new : New h m m') (up : (s : Remembered) → ((n : ℕ) → P' n ≡ within s n) → h ≤ s.height) where
    told_after : (r : Once M Remembered) → Told P' left m' r → Told P left m r
    told_after (found s m'' k) t = (
      λ n. e n ∙ t.0 n,
      t.1,
      t.2,
      λ id s' q. t.3 id s' (grows id s' q),
      λ id s' q. ⊎_elim (λ o. ⊎_elim inl (λ l. let u = up s t.0 in inr (omega arith)) (new id s' o)) inr (t.4 id s' q),
    )
    told_after (refused c m'' k) t = (e left ∙ t.0, t.1, λ id s' q. t.2 id s' (grows id s' q))

  told_as : (P P' : ℕ → Ask ℕ) → ((n : ℕ) → P n ≡ P' n) → (left : ℕ) (m : M) (r : Once M Remembered) → Told P' left m r → Told P left m r
  told_as P P' e left m r t = told_after P P' e left 0 m m (λ id s q. q) (λ id s q. inl q) (λ s q. omega arith) r t

  module _ (left : ℕ) (ask : ℕ → Asking M Remembered) (h : (id : ℕ) (m : M) (k : ℕ) → Right K B m → Told (align_of_lem id) left m (ask id m k)) where
    -- the members, after what s says
    abbrev rest_of : Remembered → List Member → ℕ → Ask ℕ
    rest_of s xs n = ask_then (within s n) (λ a. align_members (get_align_of n B) a xs)

    members_told : (xs : List Member) (s : Remembered) (m : M) (k : ℕ) → s.height ≤ left → Right K B m → Told (rest_of s xs) left m (members_once ask s xs m k)
    unfolding members_once align_members once_then ask_then
    members_told [] s m k l r = (λ n. then_got (within s n), l, r, λ id s' q. q, λ id s' q. inl q)
    members_told (x ∷ xs) s m k l r = go (λ t m' k'. members_told xs (widest s t) m' k') (ask x.type_id m (suc k)) (h x.type_id m (suc k) r)
      where
        first : (t : Remembered) → ((n : ℕ) → align_of_lem x.type_id n ≡ within t n) → (n : ℕ) → rest_of s (x ∷ xs) n ≡ rest_of (widest s t) xs n
        first t e n =
            ap (λ (y : Ask ℕ). ask_then (within s n) (λ a. ask_then y (λ b. align_members (get_align_of n B) (larger a b) xs))) (e n)
            ∙ both_within s t n (λ a. align_members (get_align_of n B) a xs)

        go : ((t : Remembered) (m' : M) (k' : ℕ) → (widest s t).height ≤ left → Right K B m' → Told (rest_of (widest s t) xs) left m' (members_once ask (widest s t) xs m' k'))
            → (q : Once M Remembered) → Told (align_of_lem x.type_id) left m q → Told (rest_of s (x ∷ xs)) left m (once_then q (λ t m' k'. members_once ask (widest s t) xs m' k'))
        go on (found t m' k') q =
            told_after (rest_of s (x ∷ xs)) (rest_of (widest s t) xs) (first t q.0) left t.height m m' q.3 q.4
            (λ s' e. let u = no_lower (widest s t) s' (λ n a. align_members (get_align_of n B) a xs) e in omega (arith, last_below s.height t.height))
            (members_once ask (widest s t) xs m' k') (on t m' k' (both_below s.height t.height left l q.1) q.2)
        go on (refused c m' k') q = (
          after_got s s left (λ a. ask_then (get_align_of left B x.type_id) (λ b. align_members (get_align_of left B) (larger a b) xs)) l
              ∙ ap (λ (y : Ask ℕ). ask_then y (λ b. align_members (get_align_of left B) (larger s.align b) xs)) q.0,
          q.1,
          q.2,
        )

    -- a type's own alignment
    own : (P : ℕ → Ask ℕ) (a : ℕ) → ((n : ℕ) → P n ≡ got a) → (m : M) (k : ℕ) → Right K B m → Told P left m (found (alone a) m k)
    own P a e m k r = (λ n. e n ∙ alone_got (alone a) n a, omega arith, r, λ id s q. q, λ id s q. inl q)

    pub type_told : (t : BtfType) (m : M) (k : ℕ) → Right K B m → Told (λ n. align_of B (get_align_of n B) t) left m (type_once B ask t m k)
    unfolding type_once align_of
    type_told Void m k r = own (λ n. got 0) 0 (λ n. refl) m k r
    type_told (Int n bits) m k r = own (λ n. got (smaller B.ptr_sz (octets bits))) (smaller B.ptr_sz (octets bits)) (λ n. refl) m k r
    type_told (Ptr t) m k r = own (λ n. got B.ptr_sz) B.ptr_sz (λ n. refl) m k r
    type_told (Array t c) m k r = h t m k r
    type_told (Composite s n sz ms) m k r =
        told_as (λ n. align_members (get_align_of n B) 1 ms) (rest_of (alone 1) ms) (λ n. sym (after_got (alone 1) (alone 1) n (λ a. align_members (get_align_of n B) a ms) (omega arith))) left m
        (members_once ask (alone 1) ms m k) (members_told ms (alone 1) m k (omega arith) r)
    type_told (Enum s n sz vs) m k r = own (λ n. got (smaller B.ptr_sz sz)) (smaller B.ptr_sz sz) (λ n. refl) m k r
    type_told (Enum64 s n sz vs) m k r = own (λ n. got (smaller B.ptr_sz sz)) (smaller B.ptr_sz sz) (λ n. refl) m k r
    type_told (Fwd u n) m k r = own (λ n. got 0) 0 (λ n. refl) m k r
    type_told (Typedef n t) m k r = h t m k r
    type_told (Mod q t) m k r = h t m k r
    type_told (Func n) m k r = own (λ n. got 0) 0 (λ n. refl) m k r
    type_told (Var n) m k r = own (λ n. got 0) 0 (λ n. refl) m k r
    type_told (Datasec n) m k r = own (λ n. got 0) 0 (λ n. refl) m k r
    type_told (FuncProto x ps) m k r = own (λ n. got 0) 0 (λ n. refl) m k r
    type_told (Float n sz) m k r = own (λ n. got (smaller B.ptr_sz sz)) (smaller B.ptr_sz sz) (λ n. refl) m k r
    type_told (DeclTag a n t c) m k r = own (λ n. got 0) 0 (λ n. refl) m k r
    type_told (TypeTag a n t) m k r = h t m k r

  -- ---- one type
  module _ (n : ℕ) (Good : M → Type 0) (Fits : Remembered → Type 0) (law : Lawful K n Good Fits) where
    taken_told : (left id : ℕ) (s : Remembered) (m : M) (k : ℕ) → Right K B m → K.recall m id ≡ known s → Told (align_of_lem id) left m (taken left s m k)
    taken_told left id s m k r e =
        ⊎_elim
        (λ l. subst (Told (align_of_lem id) left m) (sym (taken_refused left s m k l)) (r id s e left ∙ within_no s left l, r, λ d s q. q))
        (λ l. subst (Told (align_of_lem id) left m) (sym (taken_found left s m k l)) (r id s e, l, r, λ d s q. q, λ d s q. inl q))
        (cases_lt left s.height)

    -- what the plain way says of id, from what its calls below come to
    pub above_tells : (id : ℕ) (s : Remembered) → ((i : ℕ) → align_of B (get_align_of i B) (B.type_by_id id) ≡ within s i) → Tells B id (above s)
    unfolding get_align_of
    above_tells id s e zero = sym (within_no (above s) 0 (omega arith))
    above_tells id s e (suc i) = e i ∙ within_above s i

    -- it was not found on the way: its call tree would be inside itself
    pub not_inside : (id : ℕ) (m m' : M) (s : Remembered) → K.recall m id ≡ unknown → ((i : ℕ) → align_of B (get_align_of i B) (B.type_by_id id) ≡ within s i) → Right K B m' → New s.height m m' → (t : Remembered) → K.recall m' id ≡ known t → ⊥
    not_inside id m m' s u e r new t q =
        ⊎_elim
        (λ o. known_unknown t (sym u ∙ o))
        (λ l. no_got 12 t.align (sym (within_no (above s) t.height (omega arith)) ∙ sym (above_tells id s e t.height) ∙ r id t q t.height ∙ within_got t t.height (omega arith)))
        (new id t q)

    keep_told : (left id : ℕ) (m : M) → K.recall m id ≡ unknown → (r : Once M Remembered) → Told (λ i. align_of B (get_align_of i B) (B.type_by_id id)) left m r → Told (align_of_lem id) (suc left) m (once_then r (keep_once K id))
    unfolding once_then keep_once get_align_of
    keep_told left id m u (refused c m' k) t = t
    keep_told left id m u (found s m' k) t = (above_tells id s t.0, omega (arith, t.1), right, grows, new)
      where
        right : Right K B (K.remember id (above s) m')
        right d x q =
            same_or d id
            (λ e. ⊎_elim
            (λ o. let same : above s ≡ x = known_same (above s) x (sym o ∙ ap (K.recall (K.remember id (above s) m')) (sym e) ∙ q) in subst (λ (y : ℕ). Tells B y x) (sym e) (subst (Tells B id) same (above_tells id s t.0)))
            (λ o. t.2 d x (ap (K.recall m') e ∙ sym o ∙ ap (K.recall (K.remember id (above s) m')) (sym e) ∙ q))
            (law.kept id (above s) m'))
            (λ ne. t.2 d x (sym (law.other id (above s) m' d ne) ∙ q))

        grows : Grows K m (K.remember id (above s) m')
        grows d x q = same_or d id (λ e. absurd (known_unknown x (sym u ∙ ap (K.recall m) (sym e) ∙ q))) (λ ne. law.other id (above s) m' d ne ∙ t.3 d x q)

        new : New (suc s.height) m (K.remember id (above s) m')
        new d x q =
            same_or d id
            (λ e. ⊎_elim
            (λ o. let same : above s ≡ x = known_same (above s) x (sym o ∙ ap (K.recall (K.remember id (above s) m')) (sym e) ∙ q) in inr (subst (λ (y : Remembered). y.height ≤ suc s.height) same (omega arith)))
            (λ o. ⊎_elim inl (λ l. inr (omega arith)) (t.4 d x (ap (K.recall m') e ∙ sym o ∙ ap (K.recall (K.remember id (above s) m')) (sym e) ∙ q)))
            (law.kept id (above s) m'))
            (λ ne. ⊎_elim inl (λ l. inr (omega arith)) (t.4 d x (sym (law.other id (above s) m' d ne) ∙ q)))

    -- all that an ask comes to
    pub told : (left id : ℕ) (m : M) (k : ℕ) → Right K B m → Told (align_of_lem id) left m (align_once K left B id m k)
    unfolding align_once get_align_of
    told zero id m k r = (refl, r, λ d s q. q)
    told (suc left) id m k r = go (λ t m' k'. told left t m' k') (K.recall m id) refl
      where
        go : ((t : ℕ) (m' : M) (k' : ℕ) → Right K B m' → Told (align_of_lem t) left m' (align_once K left B t m' k')) → (q : Known) → K.recall m id ≡ q
            → Told (align_of_lem id) (suc left) m (elim q as (λ (q : Known). Once M Remembered) [ known s ↦ taken (suc left) s m k | unknown ↦ once_then (type_once B (λ t m' k'. align_once K left B t m' k') (B.type_by_id id) m (suc k)) (keep_once K id) ])
        go on (known s) e = taken_told (suc left) id s m k r e
        go on unknown e = keep_told left id m e (type_once B (λ t m' k'. align_once K left B t m' k') (B.type_by_id id) m (suc k)) (type_told left (λ t m' k'. align_once K left B t m' k') on (B.type_by_id id) m (suc k) r)

    module _ (left id : ℕ) (m : M) (k : ℕ) (r : Right K B m) where
      answer_of : (q : Once M Remembered) → Told (align_of_lem id) left m q → ask_then (ask_once q) (λ s. got s.align) ≡ get_align_of left B id
      unfolding ask_once ask_then
      answer_of (found s m' k') t = sym (t.0 left ∙ within_got s left t.1)
      answer_of (refused c m' k') t = sym t.0

      memory_of : (q : Once M Remembered) → Told (align_of_lem id) left m q → Right K B (memory_after q) × Grows K m (memory_after q)
      unfolding memory_after
      memory_of (found s m' k') t = (t.2, t.3)
      memory_of (refused c m' k') t = (t.1, t.2)

      -- "Answers and refusals, 12 by the depth of the plain way included, must equal those of the plain way"
      pub same_answer : ask_then (ask_once (align_once K left B id m k)) (λ s. got s.align) ≡ get_align_of left B id
      same_answer = answer_of (align_once K left B id m k) (told left id m k r)

      -- the memory stays right, and only grows
      pub stays_right : Right K B (memory_after (align_once K left B id m k)) × Grows K m (memory_after (align_once K left B id m k))
      stays_right = memory_of (align_once K left B id m k) (told left id m k r)
