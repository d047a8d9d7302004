-- The visits are the types that are remembered and their members, each type once: so they are at most types plus members. Assumes nothing.
use Prim.Native.Nat.{ℕ, zero, suc, ◌+◌, ◌<◌, ◌≤◌}
use native.Mathlib.Omega.{arith}
use mathlib.Core.Path.{◌≡◌, refl, ap, ◌∙◌, sym, subst}
use mathlib.Core.List.{List, [], ◌∷◌, Memᴰ}
use mathlib.Core.Logic.{⊎_elim}
use lib.ListN.{length}
use Rattle.std.proofs.lemmas.Bool.{cases_lt}
use Rattle.spec_c_dumper.specs.rules.Types.{Member, BtfType, Void, Int, Ptr, Array, Composite, Enum, Enum64, Fwd, Typedef, Mod, Func, Var, Datasec, FuncProto, Float, DeclTag, TypeTag, Btf, node_of, member_types}
use Rattle.spec_c_dumper.specs.rules.Layout.{align_of, get_align_of}
use Rattle.spec_c_dumper.specs.needs.Needs.{kids}
use Rattle.spec_c_dumper.specs.alignment_once.Once.{Remembered, Known, unknown, known, Keep, Lawful, Once, found, refused, Asking, once_then, above, alone, widest, members_once, taken, type_once, keep_once, align_once, Tells, Right, member_count, members_to, cost, paid_to}
use Rattle.spec_c_dumper.proofs.alignment_once.Right.{same_or, taken_found, taken_refused, above_tells, Told, align_of_lem, type_told, not_inside, told}

-- ---- what is remembered at one place more
module _ (B : Btf) (f f' : ℕ → Known) (id : ℕ) (other : (d : ℕ) → (d ≡ id → ⊥) → f' d ≡ f d) where
  paid_before : (n : ℕ) → n ≤ id → paid_to B f' n ≡ paid_to B f n
  unfolding paid_to
  paid_before zero l = refl
  paid_before (suc n) l =
      let ne : n ≡ id → ⊥ = omega arith in
      let i : n ≤ id = omega arith in
      ap (λ (q : Known). paid_to B f' n + cost q (B.type_by_id n)) (other n ne) ∙ ap (λ (x : ℕ). x + cost (f n) (B.type_by_id n)) (paid_before n i)

  module _ (s : Remembered) (u : f id ≡ unknown) (e : f' id ≡ known s) where
    paid_here : paid_to B f' (suc id) ≡ paid_to B f (suc id) + suc (member_count (B.type_by_id id))
    unfolding paid_to cost
    paid_here =
        let z : paid_to B f id + 0 ≡ paid_to B f id = omega arith in
        ap (λ (q : Known). paid_to B f' id + cost q (B.type_by_id id)) e
        ∙ ap (λ (x : ℕ). x + suc (member_count (B.type_by_id id))) (paid_before id (omega arith) ∙ sym z)
        ∙ ap (λ (q : Known). paid_to B f id + cost q (B.type_by_id id) + suc (member_count (B.type_by_id id))) (sym u)

    pub paid_more : (n : ℕ) → id < n → paid_to B f' n ≡ paid_to B f n + suc (member_count (B.type_by_id id))
    unfolding paid_to
    paid_more zero l = absurd (omega arith)
    paid_more (suc n) l = go (λ i. paid_more n i)
      where
        go : (id < n → paid_to B f' n ≡ paid_to B f n + suc (member_count (B.type_by_id id))) → paid_to B f' (suc n) ≡ paid_to B f (suc n) + suc (member_count (B.type_by_id id))
        go on =
            same_or id n
            (λ q. subst (λ (i : ℕ). paid_to B f' (suc i) ≡ paid_to B f (suc i) + suc (member_count (B.type_by_id id))) q paid_here)
            (λ ne.
            let i : id < n = omega arith in
            let d : n ≡ id → ⊥ = λ q. ne (sym q) in
            ap (λ (q : Known). paid_to B f' n + cost q (B.type_by_id n)) (other n d) ∙ ap (λ (x : ℕ). x + cost (f n) (B.type_by_id n)) (on i) ∙ omega arith)

cost_most : (q : Known) (t : BtfType) → cost q t ≤ suc (member_count t)
unfolding cost
cost_most unknown t = omega arith
cost_most (known s) t = omega arith

-- all of them are types plus members
pub paid_most : (B : Btf) (f : ℕ → Known) (n : ℕ) → paid_to B f n ≤ n + members_to B n
unfolding paid_to members_to
paid_most B f zero = omega arith
paid_most B f (suc n) = omega (arith, paid_most B f n, cost_most (f n) (B.type_by_id n))

-- nothing remembered is nothing paid
pub paid_none : (B : Btf) (f : ℕ → Known) → ((id : ℕ) → f id ≡ unknown) → (n : ℕ) → paid_to B f n ≡ 0
unfolding paid_to cost
paid_none B f h zero = refl
paid_none B f h (suc n) = ap (λ (q : Known). paid_to B f n + cost q (B.type_by_id n)) (h n) ∙ omega (arith, paid_none B f h n)

module _ {M : Type 0} (K : Keep M) (B : Btf) (n : ℕ) (Good : M → Type 0) (Fits : Remembered → Type 0) (law : Lawful K n Good Fits)
    (fits : (id : ℕ) (s : Remembered) → Tells B id s → s.height ≤ 512 → Fits s) where
  abbrev paid : M → ℕ
  paid m = paid_to B (K.recall m) n

  -- the visits of an answer pay for what is remembered since, and for `extra` members
  abbrev pub Counts : ℕ → M → ℕ → Once M Remembered → Type 0
  Counts extra m k (found s m' k') = Good m' × (k' + paid m ≡ k + extra + paid m')
  Counts extra m k (refused c m' k') = Unit {0}

  module _ (left : ℕ) (ask : ℕ → Asking M Remembered) (h : (id : ℕ) (m : M) (k : ℕ) → Right K B m → Told K B (align_of_lem K B id) left m (ask id m k))
      (c : (id : ℕ) (m : M) (k : ℕ) → id < n → Right K B m → Good m → Counts 0 m k (ask id m k)) where
    members_count : (xs : List Member) → ((y : ℕ) → Memᴰ y (member_types xs) → y < n) → (s : Remembered) (m : M) (k : ℕ) → Right K B m → Good m → Counts (length xs) m k (members_once ask s xs m k)
    unfolding members_once once_then
    members_count [] b s m k r g = (g, omega arith)
    members_count (x ∷ xs) b s m k r g =
        go (λ t m' k'. members_count xs (λ y i. b y (Memᴰ.tail i)) (widest s t) m' k') (ask x.type_id m (suc k)) (h x.type_id m (suc k) r) (c x.type_id m (suc k) (b x.type_id (Memᴰ.head refl)) r g)
      where
        on_found : (m' : M) (k' : ℕ) → k' + paid m ≡ suc k + 0 + paid m' → (q : Once M Remembered) → Counts (length xs) m' k' q → Counts (length (x ∷ xs)) m k q
        on_found m' k' e (found s' m'' k'') d = (d.0, omega (arith, e, d.1))
        on_found m' k' e (refused w m'' k'') d = tt

        go : ((t : Remembered) (m' : M) (k' : ℕ) → Right K B m' → Good m' → Counts (length xs) m' k' (members_once ask (widest s t) xs m' k'))
            → (q : Once M Remembered) → Told K B (align_of_lem K B x.type_id) left m q → Counts 0 m (suc k) q → Counts (length (x ∷ xs)) m k (once_then q (λ t m' k'. members_once ask (widest s t) xs m' k'))
        go on (found t m' k') w d = on_found m' k' d.1 (members_once ask (widest s t) xs m' k') (on t m' k' w.2 d.0)
        go on (refused e m' k') w d = tt

    type_count : (t : BtfType) → ((y : ℕ) → Memᴰ y (kids (node_of t)) → y < n) → (m : M) (k : ℕ) → Right K B m → Good m → Counts (member_count t) m k (type_once B ask t m k)
    unfolding type_once member_count
    type_count Void b m k r g = (g, omega arith)
    type_count (Int i bits) b m k r g = (g, omega arith)
    type_count (Ptr t) b m k r g = (g, omega arith)
    type_count (Array t i) b m k r g = c t m k (b t (Memᴰ.head refl)) r g
    type_count (Composite s i sz ms) b m k r g = members_count ms b (alone 1) m k r g
    type_count (Enum s i sz vs) b m k r g = (g, omega arith)
    type_count (Enum64 s i sz vs) b m k r g = (g, omega arith)
    type_count (Fwd u i) b m k r g = (g, omega arith)
    type_count (Typedef i t) b m k r g = c t m k (b t (Memᴰ.head refl)) r g
    type_count (Mod q t) b m k r g = c t m k (b t (Memᴰ.head refl)) r g
    type_count (Func i) b m k r g = (g, omega arith)
    type_count (Var i) b m k r g = (g, omega arith)
    type_count (Datasec i) b m k r g = (g, omega arith)
    type_count (FuncProto x ps) b m k r g = (g, omega arith)
    type_count (Float i sz) b m k r g = (g, omega arith)
    type_count (DeclTag a i t j) b m k r g = (g, omega arith)
    type_count (TypeTag a i t) b m k r g = c t m k (b t (Memᴰ.head refl)) r g

  taken_count : (left : ℕ) (s : Remembered) (m : M) (k : ℕ) → Good m → Counts 0 m k (taken left s m k)
  taken_count left s m k g =
      ⊎_elim (λ l. subst (Counts 0 m k) (sym (taken_refused left s m k l)) tt) (λ l. subst (Counts 0 m k) (sym (taken_found left s m k l)) (g, omega arith)) (cases_lt left s.height)

  keep_count : (left id : ℕ) → left < 512 → (m : M) (k : ℕ) → id < n → K.recall m id ≡ unknown → (r : Once M Remembered) → Told K B (λ i. align_of B (get_align_of i B) (B.type_by_id id)) left m r
      → Counts (member_count (B.type_by_id id)) m (suc k) r → Counts 0 m k (once_then r (keep_once K id))
  unfolding once_then keep_once
  keep_count left id b m k l u (refused c m' k') t d = tt
  keep_count left id b m k l u (found s m' k') t d = (law.good id (above s) m' d.0, omega (arith, d.1, more (K.recall m' id) refl))
    where
      more : (q : Known) → K.recall m' id ≡ q → paid (K.remember id (above s) m') ≡ paid m' + suc (member_count (B.type_by_id id))
      more unknown e = paid_more B (K.recall m') (K.recall (K.remember id (above s) m')) id (law.other id (above s) m') (above s) e (law.same id (above s) m' (fits id (above s) (above_tells K B n Good Fits law id s t.0) (omega (arith, t.1))) d.0 l) n l
      more (known x) e = absurd (not_inside K B n Good Fits law id m m' s u t.0 t.2 t.4 x e)

  -- what a type follows lies below the count (cause 6 of opening)
  module _ (below : (x y : ℕ) → Memᴰ y (kids (node_of (B.type_by_id x))) → y < n) where
    pub counts : (left id : ℕ) → left ≤ 512 → (m : M) (k : ℕ) → id < n → Right K B m → Good m → Counts 0 m k (align_once K left B id m k)
    unfolding align_once
    counts zero id b m k l r g = tt
    counts (suc left) id b m k l r g = go (λ t m' k'. counts left t (omega arith) m' k') (K.recall m id) refl
      where
        go : ((t : ℕ) (m' : M) (k' : ℕ) → t < n → Right K B m' → Good m' → Counts 0 m' k' (align_once K left B t m' k')) → (q : Known) → K.recall m id ≡ q
            → Counts 0 m k (elim q as (λ (q : Known). Once M Remembered) [ known s ↦ taken (suc left) s m k | unknown ↦ once_then (type_once B (λ t m' k'. align_once K left B t m' k') (B.type_by_id id) m (suc k)) (keep_once K id) ])
        go on (known s) e = taken_count (suc left) s m k g
        go on unknown e =
            keep_count left id b m k l e (type_once B (λ t m' k'. align_once K left B t m' k') (B.type_by_id id) m (suc k))
            (type_told K B left (λ t m' k'. align_once K left B t m' k') (λ t m' k'. told K B n Good Fits law left t m' k') (B.type_by_id id) m (suc k) r)
            (type_count left (λ t m' k'. align_once K left B t m' k') (λ t m' k'. told K B n Good Fits law left t m' k') on (B.type_by_id id) (below id) m (suc k) r g)
