-- A list of taken numbers in the work is read back as the numbers of the holders that were put on it, in rising order. Assumes nothing.
use Prim.Native.Nat.{ℕ, zero, suc, ◌+◌, ◌-◌, ◌*◌, ◌/◌, ◌<◌, ◌≤◌}
use mathlib.Core.Path.{◌≡◌, refl, ap, ap₂, ◌∙◌, sym, subst}
use mathlib.Core.Bool.{Bool, true, false, true≢false}
use mathlib.Core.List.{List, [], ◌∷◌}
use mathlib.Core.Logic.{◌≢◌}
use native.Mathlib.Omega.{arith}
use native.Mathlib.Decide.{ℕ_discrete}
use lib.ListN.{length}
use lib.Dec.{eqb}
use borrow.Author.Tests.{lt-ltb, le-ltb, eq-eqb, eqb-true}
use Rattle.spec_bytes.specs.words.Words.{get_word, put_word}
use Rattle.spec_bytes.proofs.words.Laws.{get_put_same, get_put_other, put_length}
use Rattle.spec_type_table.specs.Numbers.{head_p, next_p, taken_p, numbers_from, taken_at}
use Rattle.btf_open_names.proofs.name_classes.Keys.{place_one, place_apart, place_in}
use Rattle.btf_open_names.specs.filled_work.Takers.{listed_on}
use Rattle.proof_names_apart.specs.taken_lists.Listed.{numbers_on}

module _ (types e : ℕ) (base num : ℕ → ℕ) where
  abbrev n : ℕ
  n = types + e

  -- one holder put on its list, and the holders k down to 1
  unfoldable pub on_one : ℕ → List ℕ → ℕ → List ℕ
  on_one h w zero = w
  on_one h w (suc c) = listed_on types (suc c) h (num h) w

  unfoldable pub on_all : ℕ → List ℕ → List ℕ
  on_all zero w = w
  on_all (suc k) w = on_all k (on_one (suc k) w (base (suc k)))

  -- from the holder x on, of which the word before says, the list of c among the m holders from f on is spelled
  abbrev Chain : List ℕ → ℕ → ℕ → ℕ → ℕ → Type 0
  Chain w c x f zero = x ≡ 0
  Chain w c x f (suc m) =
      elim (eqb (base f) c) [
        | true ↦ (x ≡ f) × (get_word w (taken_p types f) ≡ num f) × Chain w c (get_word w (next_p types f)) (suc f) m
        | false ↦ Chain w c x (suc f) m
      ]

  abbrev Chains : List ℕ → ℕ → ℕ → Type 0
  Chains w f m = (c : ℕ) → 1 ≤ c → c < n → Chain w c (get_word w (head_p types c)) f m

  -- a chain stays where the words of its holders do
  keeps : (w u : List ℕ) (c x y f m : ℕ) → x ≡ y → ((h : ℕ) → f ≤ h → (get_word u (taken_p types h) ≡ get_word w (taken_p types h)) × (get_word u (next_p types h) ≡ get_word w (next_p types h)))
      → Chain w c x f m → Chain u c y f m
  keeps w u c x y f zero q k h = sym q ∙ h
  keeps w u c x y f (suc m) q k h =
      go (eqb (base f) c) h (λ i j r z. keeps w u c i j (suc f) m r (λ h' l. k h' (omega arith)) z)
    where
      go : (t : Bool) → elim t as (λ z. Type 0) [ true ↦ (x ≡ f) × (get_word w (taken_p types f) ≡ num f) × Chain w c (get_word w (next_p types f)) (suc f) m | false ↦ Chain w c x (suc f) m ]
          → ((i j : ℕ) → i ≡ j → Chain w c i (suc f) m → Chain u c j (suc f) m)
          → elim t as (λ z. Type 0) [ true ↦ (y ≡ f) × (get_word u (taken_p types f) ≡ num f) × Chain u c (get_word u (next_p types f)) (suc f) m | false ↦ Chain u c y (suc f) m ]
      go true r g = (sym q ∙ r.0, (k f (omega arith)).0 ∙ r.1, g (get_word w (next_p types f)) (get_word u (next_p types f)) (sym (k f (omega arith)).1) r.2)
      go false r g = g x y q r

  -- ---- one holder
  module _ (w : List ℕ) (room : types * 16 + e * 8 ≤ length w / 4) (c h m : ℕ) (lc : c < n) (lh : h < n) where
    abbrev w₁ : List ℕ
    w₁ = put_word w (next_p types h) (get_word w (head_p types c))

    abbrev w₂ : List ℕ
    w₂ = put_word w₁ (taken_p types h) m

    long₁ : length w₁ ≡ length w
    long₁ = put_length w (next_p types h) (get_word w (head_p types c))

    long₂ : length w₂ ≡ length w
    long₂ = put_length w₁ (taken_p types h) m ∙ long₁

    pub put_long : length (listed_on types c h m w) ≡ length w
    unfolding listed_on
    put_long = put_length w₂ (head_p types c) h ∙ long₂

    put_head : get_word (listed_on types c h m w) (head_p types c) ≡ h
    unfolding listed_on
    put_head = get_put_same w₂ (head_p types c) h (omega (arith, long₂, room, place_in types 7 3 (omega arith) (omega arith) e c lc))

    put_head_other : (d : ℕ) → d ≢ c → get_word (listed_on types c h m w) (head_p types d) ≡ get_word w (head_p types d)
    unfolding listed_on
    put_head_other d ne =
        get_put_other w₂ (head_p types c) (head_p types d) h (λ q. ne (place_one types 7 3 (omega arith) (omega arith) d c q))
        ∙ get_put_other w₁ (taken_p types h) (head_p types d) m (place_apart types 7 3 14 6 (omega arith) d h)
        ∙ get_put_other w (next_p types h) (head_p types d) (get_word w (head_p types c)) (place_apart types 7 3 8 4 (omega arith) d h)

    put_taken : get_word (listed_on types c h m w) (taken_p types h) ≡ m
    unfolding listed_on
    put_taken =
        get_put_other w₂ (head_p types c) (taken_p types h) h (place_apart types 14 6 7 3 (omega arith) h c)
        ∙ get_put_same w₁ (taken_p types h) m (omega (arith, long₁, room, place_in types 14 6 (omega arith) (omega arith) e h lh))

    put_taken_other : (y : ℕ) → y ≢ h → get_word (listed_on types c h m w) (taken_p types y) ≡ get_word w (taken_p types y)
    unfolding listed_on
    put_taken_other y ne =
        get_put_other w₂ (head_p types c) (taken_p types y) h (place_apart types 14 6 7 3 (omega arith) y c)
        ∙ get_put_other w₁ (taken_p types h) (taken_p types y) m (λ q. ne (place_one types 14 6 (omega arith) (omega arith) y h q))
        ∙ get_put_other w (next_p types h) (taken_p types y) (get_word w (head_p types c)) (place_apart types 14 6 8 4 (omega arith) y h)

    put_next : get_word (listed_on types c h m w) (next_p types h) ≡ get_word w (head_p types c)
    unfolding listed_on
    put_next =
        get_put_other w₂ (head_p types c) (next_p types h) h (place_apart types 8 4 7 3 (omega arith) h c)
        ∙ get_put_other w₁ (taken_p types h) (next_p types h) m (place_apart types 8 4 14 6 (omega arith) h h)
        ∙ get_put_same w (next_p types h) (get_word w (head_p types c)) (omega (arith, room, place_in types 8 4 (omega arith) (omega arith) e h lh))

    put_next_other : (y : ℕ) → y ≢ h → get_word (listed_on types c h m w) (next_p types y) ≡ get_word w (next_p types y)
    unfolding listed_on
    put_next_other y ne =
        get_put_other w₂ (head_p types c) (next_p types y) h (place_apart types 8 4 7 3 (omega arith) y c)
        ∙ get_put_other w₁ (taken_p types h) (next_p types y) m (place_apart types 8 4 14 6 (omega arith) y h)
        ∙ get_put_other w (next_p types h) (next_p types y) (get_word w (head_p types c)) (λ q. ne (place_one types 8 4 (omega arith) (omega arith) y h q))

  module _ (below : (h : ℕ) → base h < n) where
    -- h is put in front of the list of its base, and of no other
    chain_put : (w : List ℕ) → types * 16 + e * 8 ≤ length w / 4 → (h m c : ℕ) → h < n → base h ≡ suc c → Chains w (suc h) m → Chains (listed_on types (suc c) h (num h) w) h (suc m)
    chain_put w room h m c lh eb cs d ld md = go (ℕ_discrete d (suc c)) (eqb (base h) d) refl
      where
        lc : suc c < n
        lc = omega (arith, below h, eb)

        u : List ℕ
        u = listed_on types (suc c) h (num h) w

        later : (y : ℕ) → suc h ≤ y → (get_word (listed_on types (suc c) h (num h) w) (taken_p types y) ≡ get_word w (taken_p types y)) × (get_word (listed_on types (suc c) h (num h) w) (next_p types y) ≡ get_word w (next_p types y))
        later y l = (put_taken_other w room (suc c) h (num h) lc lh y (λ q. omega arith), put_next_other w room (suc c) h (num h) lc lh y (λ q. omega arith))

        go : Dec (d ≡ suc c) → (t : Bool) → eqb (base h) d ≡ t
            → elim t as (λ z. Type 0) [ true ↦ (get_word (listed_on types (suc c) h (num h) w) (head_p types d) ≡ h) × (get_word (listed_on types (suc c) h (num h) w) (taken_p types h) ≡ num h) × Chain (listed_on types (suc c) h (num h) w) d (get_word (listed_on types (suc c) h (num h) w) (next_p types h)) (suc h) m | false ↦ Chain (listed_on types (suc c) h (num h) w) d (get_word (listed_on types (suc c) h (num h) w) (head_p types d)) (suc h) m ]
        go (yes q) true f = (
          ap (λ (x : ℕ). get_word (listed_on types (suc c) h (num h) w) (head_p types x)) q ∙ put_head w room (suc c) h (num h) lc lh,
          put_taken w room (suc c) h (num h) lc lh,
          keeps w (listed_on types (suc c) h (num h) w) d (get_word w (head_p types d)) (get_word (listed_on types (suc c) h (num h) w) (next_p types h)) (suc h) m
              (ap (λ (x : ℕ). get_word w (head_p types x)) q ∙ sym (put_next w room (suc c) h (num h) lc lh)) later (cs d ld md),
        )
        go (yes q) false f = absurd (true≢false (sym (eq-eqb (base h) d (eb ∙ sym q)) ∙ f))
        go (no q) true f = absurd (q (sym (eqb-true (base h) d f) ∙ eb))
        go (no q) false f = keeps w (listed_on types (suc c) h (num h) w) d (get_word w (head_p types d)) (get_word (listed_on types (suc c) h (num h) w) (head_p types d)) (suc h) m (sym (put_head_other w room (suc c) h (num h) lc lh d q)) later (cs d ld md)

    -- a holder on no list
    chain_none : (w : List ℕ) (h m : ℕ) → base h ≡ 0 → Chains w (suc h) m → Chains w h (suc m)
    chain_none w h m eb cs d ld md = go (eqb (base h) d) refl
      where
        go : (t : Bool) → eqb (base h) d ≡ t
            → elim t as (λ z. Type 0) [ true ↦ (get_word w (head_p types d) ≡ h) × (get_word w (taken_p types h) ≡ num h) × Chain w d (get_word w (next_p types h)) (suc h) m | false ↦ Chain w d (get_word w (head_p types d)) (suc h) m ]
        go true f = absurd (omega (arith, eqb-true (base h) d f))
        go false f = cs d ld md

    one_long : (w : List ℕ) → types * 16 + e * 8 ≤ length w / 4 → (h c : ℕ) → h < n → c < n → length (on_one h w c) ≡ length w
    unfolding on_one
    one_long w room h zero lh lc = refl
    one_long w room h (suc c) lh lc = put_long w room (suc c) h (num h) lc lh

    chain_one : (w : List ℕ) → types * 16 + e * 8 ≤ length w / 4 → (h m c : ℕ) → h < n → base h ≡ c → Chains w (suc h) m → Chains (on_one h w c) h (suc m)
    unfolding on_one
    chain_one w room h m zero lh eb cs = chain_none w h m eb cs
    chain_one w room h m (suc c) lh eb cs = chain_put w room h m c lh eb cs

    all_chains : (k m : ℕ) (w : List ℕ) → suc k + m ≤ n → types * 16 + e * 8 ≤ length w / 4 → Chains w (suc k) m → Chains (on_all k w) 1 (k + m)
    unfolding on_all
    all_chains zero m w l room cs = let z : m ≡ 0 + m = omega arith in subst (λ (x : ℕ). Chains w 1 x) z cs
    all_chains (suc k) m w l room cs =
        let z : k + suc m ≡ suc k + m = omega arith in
        let long : length (on_one (suc k) w (base (suc k))) ≡ length w = one_long w room (suc k) (base (suc k)) (omega arith) (below (suc k)) in
        let wide : types * 16 + e * 8 ≤ length (on_one (suc k) w (base (suc k))) / 4 = omega (arith, long) in
        let r : Chains (on_all k (on_one (suc k) w (base (suc k)))) 1 (k + suc m) = all_chains k (suc m) (on_one (suc k) w (base (suc k))) (omega arith) wide (chain_one w room (suc k) m (base (suc k)) (omega arith) refl cs) in
        subst (λ (x : ℕ). Chains (on_all k (on_one (suc k) w (base (suc k)))) 1 x) z r

  -- ---- read back
  ends : (f last : ℕ) (w : List ℕ) → numbers_from f types w last 0 ≡ []
  unfolding numbers_from
  ends zero last w = refl
  ends (suc f) last w = ap (λ (t : Bool). elim t as (λ z. List ℕ) [ true ↦ get_word w (taken_p types 0) ∷ numbers_from f types w 0 (get_word w (next_p types 0)) | false ↦ [] ]) (le-ltb last 0 (omega arith))

  more : (f last x : ℕ) (w : List ℕ) → last < x → numbers_from (suc f) types w last x ≡ get_word w (taken_p types x) ∷ numbers_from f types w x (get_word w (next_p types x))
  unfolding numbers_from
  more f last x w h = ap (λ (t : Bool). elim t as (λ z. List ℕ) [ true ↦ get_word w (taken_p types x) ∷ numbers_from f types w x (get_word w (next_p types x)) | false ↦ [] ]) (lt-ltb last x h)

  chain_reads : (w : List ℕ) (c m f x last fuel : ℕ) → last < f → m < fuel → Chain w c x f m → numbers_from fuel types w last x ≡ numbers_on base num c f m
  unfolding numbers_on
  chain_reads w c zero f x last fuel l k h = ap (numbers_from fuel types w last) h ∙ ends fuel last w
  chain_reads w c (suc m) f x last zero l k h = absurd (omega arith)
  chain_reads w c (suc m) f x last (suc fuel) l k h =
      go (eqb (base f) c) h (λ z. chain_reads w c m (suc f) (get_word w (next_p types f)) f fuel (omega arith) (omega arith) z) (λ z. chain_reads w c m (suc f) x last (suc fuel) (omega arith) (omega arith) z)
    where
      go : (t : Bool) → elim t as (λ z. Type 0) [ true ↦ (x ≡ f) × (get_word w (taken_p types f) ≡ num f) × Chain w c (get_word w (next_p types f)) (suc f) m | false ↦ Chain w c x (suc f) m ]
          → (Chain w c (get_word w (next_p types f)) (suc f) m → numbers_from fuel types w f (get_word w (next_p types f)) ≡ numbers_on base num c (suc f) m)
          → (Chain w c x (suc f) m → numbers_from (suc fuel) types w last x ≡ numbers_on base num c (suc f) m)
          → ◌≡◌ {A = List ℕ} (numbers_from (suc fuel) types w last x) (elim t as (λ z. List ℕ) [ true ↦ num f ∷ numbers_on base num c (suc f) m | false ↦ numbers_on base num c (suc f) m ])
      go true r g₁ g₂ = ap (numbers_from (suc fuel) types w last) r.0 ∙ more fuel last f w l ∙ ap₂ (λ (i : ℕ) (t : List ℕ). i ∷ t) r.1 (g₁ r.2)
      go false r g₁ g₂ = g₂ r

  -- THE LISTS: after all holders were put on theirs, over a work without lists
  pub lists_read : ((h : ℕ) → base h < n) → (w : List ℕ) → types * 16 + e * 8 ≤ length w / 4 → n ≤ 4294967295 → ((c : ℕ) → c < n → get_word w (head_p types c) ≡ 0)
      → (c : ℕ) → 1 ≤ c → c < n → taken_at types (on_all (n - 1) w) c ≡ numbers_on base num c 1 (n - 1)
  unfolding taken_at
  lists_read below w room few zeros c lc md =
      let z : n - 1 + 0 ≡ n - 1 = omega arith in
      let none : Chains w (suc (n - 1)) 0 = λ d ld me. zeros d me in
      let r : Chains (on_all (n - 1) w) 1 (n - 1 + 0) = all_chains below (n - 1) 0 w (omega arith) room none in
      let q : Chains (on_all (n - 1) w) 1 (n - 1) = subst (λ (x : ℕ). Chains (on_all (n - 1) w) 1 x) z r in
      chain_reads (on_all (n - 1) w) c (n - 1) 1 (get_word (on_all (n - 1) w) (head_p types c)) 0 4294967296 (omega arith) (omega arith) (q c lc md)
