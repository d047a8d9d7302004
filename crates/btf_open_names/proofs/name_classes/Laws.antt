-- Laws of classes and of the table. Assumes nothing.
use Prim.Native.Nat.{ℕ, zero, suc, zero-le, ◌+◌, ◌-◌, ◌/◌, ◌%◌, ◌<◌, ◌≤◌}
use mathlib.Core.Path.{◌≡◌, refl, ap, ap₂, ◌∙◌, sym}
use mathlib.Core.List.{List}
use mathlib.Core.Bool.{Bool, true, false, true≢false}
use mathlib.Core.Logic.{⊎_elim, ◌≢◌}
use native.Mathlib.Omega.{arith}
use native.Mathlib.Nat.{mod-lt}
use native.Mathlib.Numerals.{add-one}
use lib.ListN.{length, get_or}
use lib.Dec.{eqb}
use borrow.Author.Tests.{eq-eqb, ne_eqb, eqb-true, eqb-false}
use Rattle.std.proofs.lemmas.Bool.{cases_lt}
use Rattle.spec_bytes.specs.words.Words.{get_word, put_word, pick}
use Rattle.spec_bytes.proofs.words.Laws.{get_put_other, put_swap}
use Rattle.btf_open_names.specs.name_classes.Same.{same_list}
use Rattle.btf_open_names.proofs.name_classes.Names.{same_self, same_equal, same_from}
use Rattle.btf_open_names.specs.name_classes.Classes.{least, class_of, fill, noughts, with_classes}
use Rattle.btf_open_names.specs.name_classes.Table.{hash_key, bucket_of, stands, last_of, next_of, Places, Ready, Finds, placed, state_of}
use Rattle.btf_open_names.proofs.name_classes.Fill.{fill_length, get_else, put_else, get_fill, put_fill, fill_same, fill_over, fill_swap, put_own}

pub by : (t : Bool) → (P : Type 0) → (t ≡ true → P) → (t ≡ false → P) → P
by true P a b = a refl
by false P a b = b refl

-- ---- the least number with p
module _ (p : ℕ → Bool) where
  least_yes : (h : ℕ) → p (least p h) ≡ true → least p (suc h) ≡ least p h
  unfolding least
  least_yes h e = ap (λ (t : Bool). pick t (least p h) (suc h)) e

  least_no : (h : ℕ) → p (least p h) ≡ false → least p (suc h) ≡ suc h
  unfolding least
  least_no h e = ap (λ (t : Bool). pick t (least p h) (suc h)) e

  least_le : (h : ℕ) → least p h ≤ h
  unfolding least
  least_le zero = zero-le
  least_le (suc h) = by (p (least p h)) _ (λ e. omega (arith, least_yes h e, least_le h)) (λ e. omega (arith, least_no h e))

  least_some : (c h : ℕ) → c ≤ h → p c ≡ true → p (least p h) ≡ true
  unfolding least
  least_some c zero l e = let z : c ≡ 0 = omega arith in rw z at e
  least_some c (suc h) l e =
      by (p (least p h)) _
      (λ q. rw (least_yes h q) q)
      (λ q. ⊎_elim (λ m. let z : c ≡ suc h = omega arith in rw (least_no h q, ← z) e) (λ m. let r : ◌≡◌ {A = Bool} true false = sym (least_some c h m e) ∙ q in cc) (cases_lt h c))

  least_first : (c h : ℕ) → c ≤ h → p c ≡ true → least p h ≤ c
  unfolding least
  least_first c zero l e = zero-le
  least_first c (suc h) l e =
      by (p (least p h)) _
      (λ q. ⊎_elim (λ m. omega (arith, least_yes h q, least_le h)) (λ m. omega (arith, least_yes h q, least_first c h m e)) (cases_lt h c))
      (λ q. ⊎_elim (λ m. omega (arith, least_no h q)) (λ m. let r : ◌≡◌ {A = Bool} true false = sym (least_some c h m e) ∙ q in absurd (true≢false r)) (cases_lt h c))

-- where a walk along the chain of bucket b, for holder h, stands: at holder l - 1, or at the end
pub record Walk (key : ℕ → List ℕ) (bucket link : ℕ → ℕ) (h b : ℕ) (w : List ℕ) (l : ℕ) : Type 0 where
  pub finds : Finds key bucket link h b w
  pub under : l ≤ h
  pub stood : (l ≡ 0 → ⊥) → stands key finds.n b (l - 1) ≡ true
  pub ahead : class_of key h < h → class_of key h < l

-- ---- the class
module _ (key : ℕ → List ℕ) where
  pub class_le : (h : ℕ) → class_of key h ≤ h
  unfolding class_of
  class_le h = least_le _ h

  pub class_key : (h : ℕ) → key (class_of key h) ≡ key h
  unfolding class_of
  class_key h = same_equal _ _ (least_some (λ c. same_list (key c) (key h)) h h (omega arith) (same_self (key h)))

  pub class_first : (c h : ℕ) → c ≤ h → key c ≡ key h → class_of key h ≤ c
  unfolding class_of
  class_first c h l e = least_first (λ c. same_list (key c) (key h)) c h l (sym (same_from _ _ e))

  class_below : (c h : ℕ) → c ≤ h → key c ≡ key h → class_of key c ≡ class_of key h
  class_below c h l e =
      let a : class_of key h ≤ class_of key c = class_first (class_of key c) h (omega (arith, class_le c)) (class_key c ∙ e) in
      let b : class_of key c ≤ class_of key h = class_first (class_of key h) c (class_first c h l e) (class_key h ∙ sym e) in
      omega arith

  pub class_same : (c h : ℕ) → key c ≡ key h → class_of key c ≡ class_of key h
  class_same c h e = ⊎_elim (λ l. sym (class_below h c (omega arith) (sym e))) (λ l. class_below c h l e) (cases_lt h c)

  pub class_again : (h : ℕ) → class_of key (class_of key h) ≡ class_of key h
  class_again h = class_same (class_of key h) h (class_key h)

  module _ (n : ℕ) where
    pub bucket_less : (h : ℕ) → 0 < n → bucket_of key n h < n
    unfolding bucket_of
    bucket_less h l = mod-lt _ l

    bucket_same : (c h : ℕ) → key c ≡ key h → bucket_of key n c ≡ bucket_of key n h
    unfolding bucket_of
    bucket_same c h e = ap (λ (k : List ℕ). hash_key k % n) e

    -- ---- the chain of a bucket
    stands_in : (j m : ℕ) → (m ≡ 0 → ⊥) → class_of key m ≡ m → bucket_of key n m ≡ j → stands key n j m ≡ true
    unfolding stands
    stands_in j zero z e f = absurd (z refl)
    stands_in j (suc m) z e f = rw (eq-eqb (class_of key (suc m)) (suc m) e, stands) (eq-eqb _ _ f)

    stands_not : (j m : ℕ) → (class_of key m ≡ m → ⊥) → stands key n j m ≡ false
    unfolding stands
    stands_not j zero e = refl
    stands_not j (suc m) e = rw (ne_eqb (class_of key (suc m)) (suc m) e, stands)

    -- nobody of the class of holder 0 stands in a chain
    stands_void : (j m : ℕ) → class_of key m ≡ 0 → stands key n j m ≡ false
    unfolding stands
    stands_void j zero e = refl
    stands_void j (suc m) e = stands_not j (suc m) (λ q. omega arith)

    stands_else : (j m : ℕ) → (bucket_of key n m ≡ j → ⊥) → stands key n j m ≡ false
    unfolding stands
    stands_else j zero e = refl
    stands_else j (suc m) e = go (eqb (class_of key (suc m)) (suc m))
      where
        go : (t : Bool) → elim t as (λ b. Bool) [ true ↦ eqb (bucket_of key n (suc m)) j | false ↦ false ] ≡ false
        go true = ne_eqb _ _ e
        go false = refl

    stands_out : (j m : ℕ) → stands key n j m ≡ true → (class_of key m ≡ m) × (bucket_of key n m ≡ j)
    unfolding stands
    stands_out j zero e = let z : ◌≡◌ {A = ℕ} 0 1 = cc in absurd (omega arith)
    stands_out j (suc m) e = go (eqb (class_of key (suc m)) (suc m)) refl e
      where
        go : (t : Bool) → eqb (class_of key (suc m)) (suc m) ≡ t → elim t as (λ b. Bool) [ true ↦ eqb (bucket_of key n (suc m)) j | false ↦ false ] ≡ true → (class_of key (suc m) ≡ suc m) × (bucket_of key n (suc m) ≡ j)
        go true q r = (eqb-true _ _ q, eqb-true _ _ r)
        go false q r = let z : ◌≡◌ {A = ℕ} 0 1 = cc in absurd (omega arith)

    last_yes : (j m : ℕ) → stands key n j m ≡ true → last_of key n j (suc m) ≡ suc m
    unfolding last_of
    last_yes j m e = rw e

    last_no : (j m : ℕ) → stands key n j m ≡ false → last_of key n j (suc m) ≡ last_of key n j m
    unfolding last_of
    last_no j m e = rw e

    last_le : (j m : ℕ) → last_of key n j m ≤ m
    unfolding last_of
    last_le j zero = zero-le
    last_le j (suc m) = by (stands key n j m) _ (λ e. omega (arith, last_yes j m e)) (λ e. omega (arith, last_no j m e, last_le j m))

    last_over : (j c m : ℕ) → c < m → stands key n j c ≡ true → c < last_of key n j m
    last_over j c zero l e = absurd (omega arith)
    last_over j c (suc m) l e =
        by (stands key n j m) _
        (λ q. omega (arith, last_yes j m q))
        (λ q. ⊎_elim (λ k. omega (arith, last_no j m q, last_over j c m k e)) (λ k. let d : c ≡ m = omega arith in let r : ◌≡◌ {A = Bool} true false = sym e ∙ ap (stands key n j) d ∙ q in absurd (true≢false r)) (cases_lt c m))

    last_stands : (j m : ℕ) → (last_of key n j m ≡ 0 → ⊥) → stands key n j (last_of key n j m - 1) ≡ true
    unfolding last_of
    last_stands j zero h = absurd (h refl)
    last_stands j (suc m) h =
        by (stands key n j m) _
        (λ q. let e : last_of key n j (suc m) - 1 ≡ m = omega (arith, last_yes j m q) in ap (stands key n j) e ∙ q)
        (λ q. rw (last_no j m q) (last_stands j m (λ z. h (last_no j m q ∙ z))))

    last_here : (k : ℕ) → (k ≡ 0 → ⊥) → pick (eqb (class_of key k) k) (k + 1) (last_of key n (bucket_of key n k) k) ≡ last_of key n (bucket_of key n k) (k + 1)
    last_here k z =
        rw add-one
        (by (eqb (class_of key k) k) _
        (λ q. rw q (sym (last_yes _ k (stands_in (bucket_of key n k) k z (eqb-true _ _ q) refl))))
        (λ q. rw q (sym (last_no _ k (stands_not (bucket_of key n k) k (eqb-false _ _ q))))))

    last_else : (k j : ℕ) → j ≢ bucket_of key n k → last_of key n j k ≡ last_of key n j (k + 1)
    last_else k j o = rw add-one (sym (last_no j k (stands_else j k (λ e. o (sym e)))))

    last_void : (k j : ℕ) → class_of key k ≡ 0 → last_of key n j k ≡ last_of key n j (k + 1)
    last_void k j e = rw add-one (sym (last_no j k (stands_void j k e)))

    next_void : (k : ℕ) → class_of key k ≡ 0 → next_of key n k ≡ 0
    unfolding next_of last_of
    next_void zero e = rw e
    next_void (suc k) e = rw (ne_eqb (class_of key (suc k)) (suc k) (λ q. omega arith), next_of)

    -- ---- the work, holder by holder
    module _ (class bucket link : ℕ → ℕ) where
      pub place_void : (k : ℕ) (w w₁ w₂ : List ℕ) → class_of key k ≡ 0 → w₁ ≡ put_word w (link k) 0 → w₂ ≡ put_word w₁ (class k) 0 → w₂ ≡ placed key class bucket link n k w
      unfolding placed
      place_void k w w₁ w₂ z e₁ e₂ = (rw e₁ at e₂) ∙ rw (z, placed)

      -- a holder of another class than holder 0 is put into the table
      place_other : (k : ℕ) (w : List ℕ) → class_of key k ≢ 0 → put_word (put_word (put_word w (link k) (next_of key n k)) (bucket (bucket_of key n k)) (last_of key n (bucket_of key n k) (k + 1))) (class k) (class_of key k) ≡ placed key class bucket link n k w
      unfolding placed
      place_other k w z = rw (ne_eqb (class_of key k) 0 z, placed)

      pub place_is : (k b r old x y : ℕ) (w w₁ w₂ w₃ : List ℕ) → Ready key bucket link n k w → class_of key k ≢ 0 → b ≡ bucket_of key n k → r ≡ class_of key k → old ≡ get_word w (bucket b) → x ≡ pick (eqb r k) old 0 → w₁ ≡ put_word w (link k) x → y ≡ pick (eqb r k) (k + 1) old → w₂ ≡ put_word w₁ (bucket b) y → w₃ ≡ put_word w₂ (class k) r → w₃ ≡ placed key class bucket link n k w
      unfolding next_of
      place_is k b r old x y w w₁ w₂ w₃ f z eb er eo ex e₁ ey e₂ e₃ =
          let o : old ≡ last_of key n (bucket_of key n k) k = eo ∙ f.heads b (rw eb (bucket_less k (omega (arith, f.below)))) ∙ ap (λ (j : ℕ). last_of key n j k) eb in
          let v : k ≡ 0 → ⊥ = λ q. z (omega (arith, class_le k)) in
          ((rw (e₂, e₁, ey, ex, o, er, eb) at e₃) ∙ rw (last_here k v)) ∙ place_other k w z

      -- the first of its class stands in front of its bucket, and any other in none
      module _ (k b r : ℕ) (w : List ℕ) (f : Ready key bucket link n k w) (z : class_of key k ≢ 0) (eb : b ≡ bucket_of key n k) (er : r ≡ class_of key k) where
        pub place_first : r ≡ k → (next : ℕ) (w₁ w₂ w₃ : List ℕ) → next ≡ get_word w (bucket b) → w₁ ≡ put_word w (link k) next → w₂ ≡ put_word w₁ (bucket b) (k + 1) → w₃ ≡ put_word w₂ (class k) r
            → w₃ ≡ placed key class bucket link n k w
        place_first q next w₁ w₂ w₃ en e₁ e₂ e₃ =
            place_is k b r next next (k + 1) w w₁ w₂ w₃ f z eb er en
            (sym (ap (λ (t : Bool). pick t next 0) (eq-eqb r k q))) e₁
            (sym (ap (λ (t : Bool). pick t (k + 1) next) (eq-eqb r k q))) e₂ e₃

        pub place_later : Places class bucket link → r ≢ k → (w₁ w₂ : List ℕ) → ((i : ℕ) → get_or w₂ i 0 < 256) → w₁ ≡ put_word w (link k) 0 → w₂ ≡ put_word w₁ (class k) r
            → w₂ ≡ placed key class bucket link n k w
        place_later P q w₁ w₂ bytes e₁ e₂ =
            let old : ℕ = get_word w (bucket b) in
            let same : get_word w₂ (bucket b) ≡ old =
            ap (λ (u : List ℕ). get_word u (bucket b)) e₂
            ∙ get_put_other w₁ (class k) (bucket b) r (P.bucket_class b k)
            ∙ ap (λ (u : List ℕ). get_word u (bucket b)) e₁
            ∙ get_put_other w (link k) (bucket b) 0 (P.bucket_link b k) in
            place_is k b r old 0 old w w₁ (put_word w₁ (bucket b) old) w₂ f z eb er refl
            (sym (ap (λ (t : Bool). pick t old 0) (ne_eqb r k q))) e₁
            (sym (ap (λ (t : Bool). pick t (k + 1) old) (ne_eqb r k q))) refl
            (sym (put_own w₂ bytes (bucket b))
            ∙ ap (put_word w₂ (bucket b)) same
            ∙ ap (λ (u : List ℕ). put_word u (bucket b) old) e₂
            ∙ put_swap w₁ (class k) (bucket b) r old (P.bucket_class b k))

      module _ (P : Places class bucket link) (w₀ : List ℕ) where
        pub state_ready : (k : ℕ) (w : List ℕ) → ((h : ℕ) → h < n → bucket h < length w₀ / 4) → ((h : ℕ) → h < n → link h < length w₀ / 4) → k < n → w ≡ state_of key class bucket link n k w₀ → Ready key bucket link n k w
        unfolding state_of
        state_ready k w fb fl m e =
            record {
              below = m;
              heads = λ j p. ap (λ (u : List ℕ). get_word u (bucket j)) e
                  ∙ get_else class (class_of key) _ (bucket j) k (λ h q. P.bucket_class j h)
                  ∙ get_else link (next_of key n) _ (bucket j) k (λ h q. P.bucket_link j h)
                  ∙ get_fill bucket P.bucket_one (λ i. last_of key n i k) w₀ j n p (fb j p);
              links = λ c p. ap (λ (u : List ℕ). get_word u (link c)) e
                  ∙ get_else class (class_of key) _ (link c) k (λ h q. P.link_class c h)
                  ∙ get_fill link P.link_one (next_of key n) _ c k p (rw (fill_length bucket (λ i. last_of key n i k) w₀ n) (fl c (omega arith)));
            }

        turn_void : (k : ℕ) (u : List ℕ) → class_of key k ≡ 0 → u ≡ placed key class bucket link n k (state_of key class bucket link n k w₀) → u ≡ state_of key class bucket link n (k + 1) w₀
        unfolding state_of placed fill
        turn_void k u z f =
            let C : List ℕ → ℕ → List ℕ = fill class (class_of key) in
            let N : List ℕ → ℕ → List ℕ = fill link (next_of key n) in
            let H : List ℕ = fill bucket (λ j. last_of key n j k) w₀ n in
            let p₁ : put_word (C (N H k) k) (link k) (next_of key n k) ≡ C (N H (suc k)) k = put_else class (class_of key) (N H k) (link k) (next_of key n k) k (λ h q. P.link_class k h) in
            let p₂ : H ≡ fill bucket (λ j. last_of key n j (k + 1)) w₀ n = fill_same bucket (λ j. last_of key n j k) (λ j. last_of key n j (k + 1)) w₀ n (λ j q. last_void k j z) in
            f
            ∙ sym (place_void k (C (N H k) k) _ _ z refl refl)
            ∙ ap₂ (λ (x y : ℕ). put_word (put_word (C (N H k) k) (link k) x) (class k) y) (sym (next_void k z)) (sym z)
            ∙ ap (λ (x : List ℕ). put_word x (class k) (class_of key k)) (p₁ ∙ ap (λ (x : List ℕ). C (N x (suc k)) k) p₂)
            ∙ ap (λ (i : ℕ). C (N (fill bucket (λ j. last_of key n j (k + 1)) w₀ n) i) i) (sym (add-one k))

        turn_other : (k : ℕ) (u : List ℕ) → k < n → class_of key k ≢ 0 → u ≡ placed key class bucket link n k (state_of key class bucket link n k w₀) → u ≡ state_of key class bucket link n (k + 1) w₀
        unfolding state_of fill
        turn_other k u m z f =
            let C : List ℕ → ℕ → List ℕ = fill class (class_of key) in
            let N : List ℕ → ℕ → List ℕ = fill link (next_of key n) in
            let H : List ℕ = fill bucket (λ j. last_of key n j k) w₀ n in
            let b : ℕ = bucket_of key n k in
            let v : ℕ = last_of key n b (k + 1) in
            let p₁ : put_word (C (N H k) k) (link k) (next_of key n k) ≡ C (N H (suc k)) k = put_else class (class_of key) (N H k) (link k) (next_of key n k) k (λ h q. P.link_class k h) in
            let p₂ : put_word (C (N H (suc k)) k) (bucket b) v ≡ C (put_word (N H (suc k)) (bucket b) v) k = put_else class (class_of key) (N H (suc k)) (bucket b) v k (λ h q. P.bucket_class b h) in
            let p₃ : put_word (N H (suc k)) (bucket b) v ≡ N (put_word H (bucket b) v) (suc k) = put_else link (next_of key n) H (bucket b) v (suc k) (λ h q. P.bucket_link b h) in
            let p₄ : put_word H (bucket b) v ≡ fill bucket (λ j. last_of key n j (k + 1)) w₀ n = put_fill bucket P.bucket_one (λ j. last_of key n j k) (λ j. last_of key n j (k + 1)) w₀ b v n (bucket_less k (omega arith)) refl (λ j o. last_else k j o) in
            f
            ∙ sym (place_other k (C (N H k) k) z)
            ∙ ap (λ (x : List ℕ). put_word (put_word x (bucket b) v) (class k) (class_of key k)) p₁
            ∙ ap (λ (x : List ℕ). put_word x (class k) (class_of key k)) (p₂ ∙ ap (λ (x : List ℕ). C x k) (p₃ ∙ ap (λ (x : List ℕ). N x (suc k)) p₄))
            ∙ ap (λ (i : ℕ). C (N (fill bucket (λ j. last_of key n j (k + 1)) w₀ n) i) i) (sym (add-one k))

        pub state_turn : (k : ℕ) (w u : List ℕ) → k < n → w ≡ state_of key class bucket link n k w₀ → u ≡ placed key class bucket link n k w → u ≡ state_of key class bucket link n (k + 1) w₀
        state_turn k w u m e f =
            let g : u ≡ placed key class bucket link n k (state_of key class bucket link n k w₀) = f ∙ ap (placed key class bucket link n k) e in
            by (eqb (class_of key k) 0) _ (λ q. turn_void k u (eqb-true _ _ q) g) (λ q. turn_other k u m (eqb-false _ _ q) g)

        state_end : (w v : List ℕ) → w ≡ state_of key class bucket link n n w₀ → v ≡ fill bucket noughts (fill link noughts w n) n → v ≡ with_classes key class bucket link n w₀
        unfolding state_of with_classes
        state_end w v e g =
            let C : List ℕ → List ℕ = λ x. fill class (class_of key) x n in
            let N : List ℕ → List ℕ = λ x. fill link noughts x n in
            let Z : List ℕ → List ℕ = λ x. fill bucket noughts x n in
            let H : List ℕ = fill bucket (λ j. last_of key n j n) w₀ n in
            let M : List ℕ = fill link (next_of key n) H n in
            let p₁ : N (C M) ≡ C (N H) = fill_swap link class noughts (class_of key) M n n P.link_class ∙ ap C (fill_over link P.link_one (next_of key n) noughts H n) in
            let p₂ : Z (C (N H)) ≡ C (Z (N H)) = fill_swap bucket class noughts (class_of key) (N H) n n P.bucket_class in
            let p₃ : Z (N H) ≡ N (Z w₀) = fill_swap bucket link noughts noughts H n n P.bucket_link ∙ ap N (fill_over bucket P.bucket_one (λ j. last_of key n j n) noughts w₀ n) in
            g ∙ ap Z (ap N e ∙ p₁) ∙ p₂ ∙ ap C p₃

        state_over : (k : ℕ) (w : List ℕ) → w ≡ fill bucket noughts w₀ n → state_of key class bucket link n k w ≡ state_of key class bucket link n k w₀
        unfolding state_of
        state_over k w e = ap (λ (x : List ℕ). fill class (class_of key) (fill link (next_of key n) x k) k) (ap (λ (x : List ℕ). fill bucket (λ j. last_of key n j k) x n) e ∙ fill_over bucket P.bucket_one noughts (λ j. last_of key n j k) w₀ n)

        pub state_start : (w : List ℕ) → w ≡ fill bucket noughts w₀ n → w ≡ state_of key class bucket link n 0 w
        unfolding state_of fill last_of
        state_start w e = e ∙ sym (state_over 0 w e)

        -- all is placed, and the scratch words are cleared
        pub all_done : (k : ℕ) (c w v : List ℕ) → k ≡ n → c ≡ fill bucket noughts w₀ n → w ≡ state_of key class bucket link n k c → v ≡ fill bucket noughts (fill link noughts w n) n → v ≡ with_classes key class bucket link n w₀
        all_done k c w v q e f = state_end w v (f ∙ ap (λ (i : ℕ). state_of key class bucket link n i c) q ∙ state_over n c e)

  -- ---- the walk along a chain
  module _ (bucket link : ℕ → ℕ) (h b : ℕ) (w : List ℕ) where
    walk_from : (f : Finds key bucket link h b w) (m l : ℕ) → m ≤ h → l ≡ last_of key f.n b m → (class_of key h < h → class_of key h < m) → Walk key bucket link h b w l
    walk_from f m l le e g =
        record {
          finds = f;
          under = omega (arith, last_le f.n b m);
          stood = λ z. rw e (last_stands f.n b m (λ q. z (e ∙ q)));
          ahead = λ q. rw e (last_over f.n b (class_of key h) m (g q) (stands_in f.n b (class_of key h) f.other (class_again h) (bucket_same f.n (class_of key h) h (class_key h) ∙ sym f.chain)));
        }

    pub walk_start : (l : ℕ) → Finds key bucket link h b w → l ≡ get_word w (bucket b) → Walk key bucket link h b w l
    walk_start l f e = walk_from f h l (omega arith) (e ∙ f.ready.heads b (rw f.chain (bucket_less f.n h (omega (arith, f.ready.below))))) (λ q. q)

    module _ (l : ℕ) (k : Walk key bucket link h b w l) where
      pub walk_end : l ≡ 0 → h ≡ class_of key h
      walk_end e = ⊎_elim (λ p. absurd (omega (arith, k.ahead p))) (λ p. omega (arith, class_le h)) (cases_lt (class_of key h) h)

      module _ (z : l ≡ 0 → ⊥) where
        way : get_word w (link (l - 1)) ≡ last_of key k.finds.n b (l - 1)
        unfolding next_of
        way =
            let n : ℕ = k.finds.n in
            let p : (class_of key (l - 1) ≡ l - 1) × (bucket_of key n (l - 1) ≡ b) = stands_out n b (l - 1) (k.stood z) in
            k.finds.ready.links (l - 1) (omega (arith, k.under))
            ∙ rw (eq-eqb (class_of key (l - 1)) (l - 1) p.0, next_of, p.1)

        pub walk_less : (m : ℕ) → m ≡ get_word w (link (l - 1)) → m < l
        walk_less m e = omega (arith, way, last_le k.finds.n b (l - 1))

        pub walk_found : (t : Bool) → t ≡ same_list (key (l - 1)) (key h) → t ≡ true → l - 1 ≡ class_of key h
        walk_found t e y =
            sym (stands_out k.finds.n b (l - 1) (k.stood z)).0 ∙ class_same (l - 1) h (same_equal _ _ (sym e ∙ y))

        pub walk_turn : (t : Bool) (m : ℕ) → t ≡ same_list (key (l - 1)) (key h) → t ≡ false → m ≡ get_word w (link (l - 1)) → Walk key bucket link h b w m
        walk_turn t m e y q =
            walk_from k.finds (l - 1) m (omega (arith, k.under)) (q ∙ way)
            (λ r. let o : class_of key h ≢ l - 1 = λ v. true≢false (same_from (key (l - 1)) (key h) (ap key (sym v) ∙ class_key h) ∙ sym e ∙ y) in omega (arith, k.ahead r))

-- ---- a word outside stays, at every turn
pub state_else : (key : ℕ → List ℕ) (class bucket link : ℕ → ℕ) (n k i : ℕ) (w : List ℕ) → ((h : ℕ) → i ≢ class h) → ((h : ℕ) → i ≢ bucket h) → ((h : ℕ) → i ≢ link h) → get_word (state_of key class bucket link n k w) i ≡ get_word w i
unfolding state_of
state_else key class bucket link n k i w oc ob ol =
    get_else class (class_of key) _ i k (λ h q. oc h) ∙ get_else link (next_of key n) _ i k (λ h q. ol h) ∙ get_else bucket (λ j. last_of key n j k) w i n (λ h q. ob h)
