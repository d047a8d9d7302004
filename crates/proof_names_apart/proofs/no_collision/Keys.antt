-- The numbers on the list of a name, by the keys of the holders: those with which some holder's name is that name with a suffix, each once. Assumes
-- nothing.
use Prim.Native.Nat.{ℕ, zero, suc, ◌+◌, ◌-◌, ◌<◌, ◌≤◌}
use mathlib.Core.Path.{◌≡◌, refl, ap, ◌∙◌, sym, subst}
use mathlib.Core.Bool.{Bool, true, false, true≢false}
use mathlib.Core.List.Memᴰ
use mathlib.Core.List.{List, [], ◌∷◌, ◌++◌, Memᴰ}
use mathlib.Core.Logic.{⊎_elim}
use native.Mathlib.Omega.{arith}
use native.Mathlib.Decide.{ℕ_discrete}
use lib.Dec.{leb, eqb}
use borrow.Author.Tests.{leb-true, le-leb, lt-leb, eqb-true, eq-eqb}
use Rattle.std.proofs.lemmas.Bool.{cases_lt}
use Rattle.spec_bytes.specs.words.Words.{get_word}
use Rattle.spec_bytes.specs.text.Text.{ascii}
use Rattle.spec_bytes.specs.text.Decimal.{decimal}
use Rattle.spec_c_dumper.specs.rules.Types.{Name}
use Rattle.spec_c_dumper.specs.rules.Names.{spelled}
use Rattle.spec_c_dumper.proofs.rules.Names.{spelled_later}
use Rattle.spec_type_table.specs.declared.types.TypeTable.{TypeTable}
use Rattle.spec_type_table.specs.Cells.{class_p}
use Rattle.btf_open_names.specs.name_classes.Classes.{key_in, class_of}
use Rattle.btf_open_names.proofs.name_classes.Laws.{class_first, class_same}
use Rattle.btf_open_names.specs.filled_work.Takers.{suffix_in, suffix_on, any_suffix, name_in, base_from}
use Rattle.btf_open_names.specs.numbers.Lists.{Distinct}
use Rattle.proof_names_apart.proofs.names_apart.Splits.{splits_once}
use Rattle.proof_names_apart.proofs.passed_numbers.Suffixes.{suffix_sound, suffix_complete}
use Rattle.proof_names_apart.specs.taken_lists.Listed.{numbers_on, base_of, number_of}

-- ---- members of a list of numbers
module _ (base num : ℕ → ℕ) (c : ℕ) where
  mem_on : (m f k : ℕ) → Memᴰ m (numbers_on base num c f k) → (x : ℕ) × (f ≤ x) × (x < f + k) × (base x ≡ c) × (m ≡ num x)
  unfolding numbers_on
  mem_on m f zero h = absurd (Memᴰ.not-nil h)
  mem_on m f (suc k) h = go (eqb (base f) c) refl h (mem_on m (suc f) k)
    where
      on : (x : ℕ) × (suc f ≤ x) × (x < suc f + k) × (base x ≡ c) × (m ≡ num x) → (x : ℕ) × (f ≤ x) × (x < f + suc k) × (base x ≡ c) × (m ≡ num x)
      on r = (r.0, omega (arith, r.1), omega (arith, r.2), r.3, r.4)

      go : (t : Bool) → eqb (base f) c ≡ t → Memᴰ m (elim t as (λ z. List ℕ) [ true ↦ num f ∷ numbers_on base num c (suc f) k | false ↦ numbers_on base num c (suc f) k ])
          → (Memᴰ m (numbers_on base num c (suc f) k) → (x : ℕ) × (suc f ≤ x) × (x < suc f + k) × (base x ≡ c) × (m ≡ num x))
          → (x : ℕ) × (f ≤ x) × (x < f + suc k) × (base x ≡ c) × (m ≡ num x)
      go true e h g = ⊎_elim (λ q. (f, omega arith, omega arith, eqb-true (base f) c e, q)) (λ q. on (g q)) (Memᴰ.cases_cons h)
      go false e h g = on (g h)

  on_mem : (x f k : ℕ) → f ≤ x → x < f + k → base x ≡ c → Memᴰ (num x) (numbers_on base num c f k)
  unfolding numbers_on
  on_mem x f zero l h e = absurd (omega arith)
  on_mem x f (suc k) l h e = go (eqb (base f) c) refl (ℕ_discrete x f) (λ m. on_mem x (suc f) k m (omega arith) e)
    where
      go : (t : Bool) → eqb (base f) c ≡ t → Dec (x ≡ f) → (suc f ≤ x → Memᴰ (num x) (numbers_on base num c (suc f) k)) → Memᴰ (num x) (elim t as (λ z. List ℕ) [ true ↦ num f ∷ numbers_on base num c (suc f) k | false ↦ numbers_on base num c (suc f) k ])
      go true q (yes z) g = Memᴰ.head (ap num z)
      go true q (no z) g = Memᴰ.tail (g (omega arith))
      go false q (yes z) g = absurd (true≢false (sym (eq-eqb (base f) c (ap base (sym z) ∙ e)) ∙ q))
      go false q (no z) g = g (omega arith)

  distinct_on : (n : ℕ) → ((x y : ℕ) → x < n → y < n → base x ≡ c → base y ≡ c → num x ≡ num y → x ≡ y) → (f k : ℕ) → f + k ≤ n → Distinct (numbers_on base num c f k)
  unfolding numbers_on
  distinct_on n one f zero l = tt
  distinct_on n one f (suc k) l = go (eqb (base f) c) refl (distinct_on n one (suc f) k (omega arith))
    where
      go : (t : Bool) → eqb (base f) c ≡ t → Distinct (numbers_on base num c (suc f) k) → Distinct (elim t as (λ z. List ℕ) [ true ↦ num f ∷ numbers_on base num c (suc f) k | false ↦ numbers_on base num c (suc f) k ])
      go true e d = ((λ h. let r = mem_on (num f) (suc f) k h in let q : f ≡ r.0 = one f r.0 (omega arith) (omega (arith, r.2)) (eqb-true (base f) c e) r.3 r.4 in omega (arith, q, r.1)), d)
      go false e d = d

-- ---- bases
from_some : (key : ℕ → List ℕ) (h f c₀ c : ℕ) → base_from key h f c₀ ≡ suc c → 2 ≤ suffix_on (key (suc c)) (key h)
unfolding base_from
from_some key h zero c₀ c e = absurd (omega (arith, e))
from_some key h (suc f) c₀ c e = go (leb 2 (suffix_on (key c₀) (key h))) refl e (from_some key h f (suc c₀) c)
  where
    go : (t : Bool) → leb 2 (suffix_on (key c₀) (key h)) ≡ t → elim t as (λ z. ℕ) [ true ↦ c₀ | false ↦ base_from key h f (suc c₀) ] ≡ suc c → (base_from key h f (suc c₀) ≡ suc c → 2 ≤ suffix_on (key (suc c)) (key h)) → 2 ≤ suffix_on (key (suc c)) (key h)
    go true q r g = subst (λ (x : ℕ). 2 ≤ suffix_on (key x) (key h)) r (leb-true 2 (suffix_on (key c₀) (key h)) q)
    go false q r g = g r

from_is : (key : ℕ → List ℕ) (h f c₀ c : ℕ) → c₀ ≤ c → c < c₀ + f → 2 ≤ suffix_on (key c) (key h) → ((j : ℕ) → c₀ ≤ j → j < c → suffix_on (key j) (key h) < 2) → base_from key h f c₀ ≡ c
unfolding base_from
from_is key h zero c₀ c l m s before = absurd (omega arith)
from_is key h (suc f) c₀ c l m s before = go (ℕ_discrete c₀ c) (λ q. from_is key h f (suc c₀) c q (omega arith) s (λ j p r. before j (omega arith) r))
  where
    by : (t : Bool) → leb 2 (suffix_on (key c₀) (key h)) ≡ t → ◌≡◌ {A = ℕ} (elim (leb 2 (suffix_on (key c₀) (key h))) as (λ z. ℕ) [ true ↦ c₀ | false ↦ base_from key h f (suc c₀) ]) (elim t as (λ z. ℕ) [ true ↦ c₀ | false ↦ base_from key h f (suc c₀) ])
    by t q = ap (λ (x : Bool). elim x as (λ z. ℕ) [ true ↦ c₀ | false ↦ base_from key h f (suc c₀) ]) q

    go : Dec (c₀ ≡ c) → (suc c₀ ≤ c → base_from key h f (suc c₀) ≡ c) → ◌≡◌ {A = ℕ} (elim (leb 2 (suffix_on (key c₀) (key h))) as (λ z. ℕ) [ true ↦ c₀ | false ↦ base_from key h f (suc c₀) ]) c
    go (yes q) g = by true (le-leb 2 (suffix_on (key c₀) (key h)) (subst (λ (x : ℕ). 2 ≤ suffix_on (key x) (key h)) (sym q) s)) ∙ q
    go (no q) g = by false (lt-leb 2 (suffix_on (key c₀) (key h)) (before c₀ (omega arith) (omega arith))) ∙ g (omega arith)

on_empty : (l : List ℕ) → suffix_in l ≡ suffix_on [] l
unfolding suffix_on
on_empty l = refl

-- a name with a suffix has one
any_suffix_lem : (x : List ℕ) (m : ℕ) → 2 ≤ m → m ≤ 4294967295 → any_suffix (x ++ ascii "___" ++ decimal m) ≡ true
unfolding any_suffix
any_suffix_lem [] m h b =
    let e : suffix_in (ascii "___" ++ decimal m) ≡ m = on_empty (ascii "___" ++ decimal m) ∙ sym (ap (suffix_on []) (spelled_later [] m h)) ∙ suffix_complete [] m h b in
    ap (λ (t : Bool). elim t as (λ z. Bool) [ true ↦ true | false ↦ any_suffix (95 ∷ 95 ∷ decimal m) ]) (le-leb 2 (suffix_in (ascii "___" ++ decimal m)) (omega (arith, e)))
any_suffix_lem (a ∷ x) m h b = go (leb 2 (suffix_in (a ∷ (x ++ ascii "___" ++ decimal m)))) (any_suffix_lem x m h b)
  where
    go : (t : Bool) → any_suffix (x ++ ascii "___" ++ decimal m) ≡ true → elim t as (λ z. Bool) [ true ↦ true | false ↦ any_suffix (x ++ ascii "___" ++ decimal m) ] ≡ true
    go true r = refl
    go false r = r

-- with a space in front
pub spelled_cons : (a : ℕ) (x : Name) (m : ℕ) → 2 ≤ m → spelled (a ∷ x) m ≡ a ∷ spelled x m
spelled_cons a x m h = spelled_later (a ∷ x) m h ∙ ap {B = List ℕ} (λ l. a ∷ l) (sym (spelled_later x m h))

-- ---- the lists of a work with classes
module _ (b : TypeTable) (e : ℕ) (s w : List ℕ) (some : 1 ≤ b.types) (classed : (h : ℕ) → h < b.types + e → get_word w (class_p b.types h) ≡ class_of (key_in b s w) h) where
  abbrev n : ℕ
  n = b.types + e

  abbrev key : ℕ → List ℕ
  key = key_in b s w

  abbrev base : ℕ → ℕ
  base = base_of b s w n

  abbrev num : ℕ → ℕ
  num = number_of b s w n

  -- a holder on the list of c is the first of its name, which is that of c with a suffix
  on_list : (h c : ℕ) → h < n → base h ≡ suc c → (class_of key h ≡ h) × (2 ≤ suffix_on (key (suc c)) (key h))
  unfolding base_of
  on_list h c l q = go (eqb (get_word w (class_p b.types h)) h) refl (any_suffix (name_in (key_in b s w h))) q
    where
      go : (p : Bool) → eqb (get_word w (class_p b.types h)) h ≡ p → (t : Bool) → elim p as (λ z. ℕ) [ true ↦ elim t as (λ z. ℕ) [ true ↦ base_from (key_in b s w) h (n - 1) 1 | false ↦ 0 ] | false ↦ 0 ] ≡ suc c
          → (class_of key h ≡ h) × (2 ≤ suffix_on (key (suc c)) (key h))
      go true f true r = (sym (classed h l) ∙ eqb-true (get_word w (class_p b.types h)) h f, from_some (key_in b s w) h (n - 1) 1 c r)
      go true f false r = absurd (omega (arith, r))
      go false f t r = absurd (omega (arith, r))

  num_is : (h c : ℕ) → base h ≡ c → num h ≡ suffix_on (key c) (key h)
  unfolding number_of
  num_is h c q = ap (λ (x : ℕ). suffix_on (key_in b s w x) (key_in b s w h)) q

  taken : (h c : ℕ) → h < n → base h ≡ suc c → (key h ≡ spelled (key (suc c)) (num h)) × (2 ≤ num h) × (num h ≤ 4294967295) × (class_of key h ≡ h)
  taken h c l q =
      let o = on_list h c l q in
      let i : num h ≡ suffix_on (key (suc c)) (key h) = num_is h (suc c) q in
      let r : 2 ≤ num h = omega (arith, i, o.1) in
      let z = suffix_sound (key (suc c)) (key h) (num h) (sym i) r in
      (z.0, r, z.1, o.0)

  -- a number stands on a list once
  one_holder : (c x y : ℕ) → x < n → y < n → base x ≡ suc c → base y ≡ suc c → num x ≡ num y → x ≡ y
  one_holder c x y lx ly p q z =
      let a = taken x c lx p in
      let d = taken y c ly q in
      sym a.3 ∙ class_same key x y (a.0 ∙ ap (spelled (key (suc c))) z ∙ sym d.0) ∙ d.3

  -- the first holder of a name that is that of c with a suffix stands on the list of c
  module _ (c x m sp : ℕ) (name : Name) (lc : suc c < n) (lx : x < n) (first : class_of key (suc c) ≡ suc c) (its : class_of key x ≡ x)
      (kc : key (suc c) ≡ sp ∷ name) (two : 2 ≤ m) (limit : m ≤ 4294967295) (kx : key x ≡ spelled (key (suc c)) m) where
    number_is : suffix_on (key (suc c)) (key x) ≡ m
    number_is = ap (suffix_on (key (suc c))) kx ∙ suffix_complete (key (suc c)) m two limit

    before : (j : ℕ) → 1 ≤ j → j < suc c → suffix_on (key j) (key x) < 2
    before j l k = ⊎_elim
        (λ h. h)
        (λ h.
        let r = suffix_sound (key j) (key x) (suffix_on (key j) (key x)) refl h in
        let q = splits_once (key (suc c)) (key j) m (suffix_on (key j) (key x)) two h limit r.1 (sym kx ∙ r.0) in
        let z : class_of key (suc c) ≤ j = class_first key j (suc c) (omega arith) (sym q.0) in
        absurd (omega (arith, z, first)))
        (cases_lt (suffix_on (key j) (key x)) 2)

    e_class : eqb (get_word w (class_p b.types x)) x ≡ true
    e_class = eq-eqb (get_word w (class_p b.types x)) x (classed x lx ∙ its)

    e_suffix : any_suffix (name_in (key_in b s w x)) ≡ true
    e_suffix =
        ap (λ (l : List ℕ). any_suffix (name_in l)) (kx ∙ ap (λ (l : List ℕ). spelled l m) kc ∙ spelled_cons sp name m two)
        ∙ ap any_suffix (spelled_later name m two)
        ∙ any_suffix_lem name m two limit

    stands : base x ≡ suc c
    unfolding base_of
    stands =
        (λ i. elim (e_class i) as (λ z. ℕ) [ true ↦ elim (e_suffix i) as (λ z. ℕ) [ true ↦ base_from (key_in b s w) x (n - 1) 1 | false ↦ 0 ] | false ↦ 0 ])
        ∙ from_is key x (n - 1) 1 (suc c) (omega arith) (omega arith) (omega (arith, number_is)) before

    pub on_list_of : 1 ≤ x → Memᴰ m (numbers_on base num (suc c) 1 (n - 1))
    on_list_of l =
        subst (λ (k : ℕ). Memᴰ k (numbers_on base num (suc c) 1 (n - 1))) (num_is x (suc c) stands ∙ number_is)
        (on_mem base num (suc c) x 1 (n - 1) l (omega arith) stands)

  -- what stands on the list of c, said of keys
  pub list_distinct : (c : ℕ) → Distinct (numbers_on base num (suc c) 1 (n - 1))
  list_distinct c = distinct_on base num (suc c) n (one_holder c) 1 (n - 1) (omega arith)

  pub list_holder : (c m : ℕ) → Memᴰ m (numbers_on base num (suc c) 1 (n - 1)) → (x : ℕ) × (x < n) × (key x ≡ spelled (key (suc c)) m) × (2 ≤ m) × (m ≤ 4294967295)
  list_holder c m h =
      let r = mem_on base num (suc c) m 1 (n - 1) h in
      let l : r.0 < n = omega (arith, r.2) in
      let t = taken r.0 c l r.3 in
      (r.0, l, t.0 ∙ ap (spelled (key (suc c))) (sym r.4), omega (arith, t.1, r.4), omega (arith, t.2, r.4))
