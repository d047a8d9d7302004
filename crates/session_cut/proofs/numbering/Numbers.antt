-- The tags of what is marked, and the numbers of what has a mark. Assumes nothing.
use Prim.Native.Nat.{ℕ, zero, suc, ◌+◌, ◌<◌, ◌≤◌}
use native.Mathlib.Omega.{arith}
use native.Mathlib.Decide.{ℕ_discrete}
use mathlib.Core.Path.{◌≡◌, refl, sym, ◌∙◌, ap, subst}
use mathlib.Core.Bool.{Bool, true, false, not}
use mathlib.Core.List.{List}
use mathlib.Core.Logic.{◌⊎◌, inl, inr}
use lib.ListN.{length, get_or, set, length-set}
use lib.Seq.{get_or-set_same, get_or-set_other}
use lib.Dec.{ltb, eqb}
use borrow.Author.Tests.{eq-eqb, ne_eqb, eqb-true, eqb-false, ltb-true, ltb-false}
use Rattle.std.proofs.lemmas.List.{get_or_past}
use Rattle.spec_bytes.specs.words.Words.{pick}
use Rattle.spec_type_table.specs.declared.types.TypeTable.{TypeTable}
use Rattle.spec_type_table.specs.Records.{section_word}
use Rattle.btf_open_causes.specs.references.Followed.{kind_at, place_of}
use Rattle.spec_cut.specs.section.Renumbered.{kept_to, new_id}
use Rattle.spec_cut.proofs.section.Numbers.{kept_yes, kept_no, new_zero, new_kept, new_dropped}
use Rattle.session_cut_marks.specs.tags.Tags.{tag_on, tagged_at, tagged_to, Numbered, numbered, numbers_in, numbered_at, numbered_to, numbers_of}
use Rattle.session_cut.specs.numbering.Marked.{Has}

pub positive : (v : ℕ) → (v ≡ 0 → ⊥) → 0 < v
positive zero n = absurd (n refl)
positive (suc v) n = omega arith

-- ---- tags
module _ (b : TypeTable) (s start : List ℕ) where
  abbrev pub Target : ℕ → ℕ
  Target x = section_word b s (place_of b start x + 8)

  pub tag_not : (x : ℕ) → (kind_at b start x ≡ 17 → ⊥) → tag_on b s start x ≡ 0
  unfolding tag_on
  tag_not x n = ap (λ (q : Bool). pick q (pick (eqb (kind_at b start (Target x)) 17) 0 (Target x)) 0) (ne_eqb (kind_at b start x) 17 n)

  -- a tag on a type that is no tag, and the converse
  pub tag_is : (x : ℕ) → (tag_on b s start x ≡ 0 → ⊥) → (kind_at b start x ≡ 17) × (tag_on b s start x ≡ Target x) × (kind_at b start (Target x) ≡ 17 → ⊥)
  unfolding tag_on
  tag_is x = go (eqb (kind_at b start x) 17) refl (eqb (kind_at b start (Target x)) 17) refl
    where
      go : (p : Bool) → eqb (kind_at b start x) 17 ≡ p → (q : Bool) → eqb (kind_at b start (Target x)) 17 ≡ q → (pick p (pick q 0 (Target x)) 0 ≡ 0 → ⊥)
          → (kind_at b start x ≡ 17) × (pick p (pick q 0 (Target x)) 0 ≡ Target x) × (kind_at b start (Target x) ≡ 17 → ⊥)
      go true e false f n = (eqb-true (kind_at b start x) 17 e, refl, eqb-false (kind_at b start (Target x)) 17 f)
      go true e true f n = absurd (n refl)
      go false e q f n = absurd (n refl)

  pub tag_on_lem : (x : ℕ) → kind_at b start x ≡ 17 → (kind_at b start (Target x) ≡ 17 → ⊥) → tag_on b s start x ≡ Target x
  unfolding tag_on
  tag_on_lem x e n =
      ap (λ (q : Bool). pick q (pick (eqb (kind_at b start (Target x)) 17) 0 (Target x)) 0) (eq-eqb (kind_at b start x) 17 e)
      ∙ ap (λ (q : Bool). pick q 0 (Target x)) (ne_eqb (kind_at b start (Target x)) 17 n)

  target_free : (x : ℕ) → (tag_on b s start x ≡ 0 → ⊥) → tag_on b s start (tag_on b s start x) ≡ 0
  target_free x n = let r = tag_is x n in tag_not (tag_on b s start x) (λ e. r.2 (ap (kind_at b start) (sym r.1) ∙ e))

  -- one tag: nothing is marked, or x is
  pub data Step (l : List ℕ) (x : ℕ) : List ℕ → Type 0 where
    stays : ((tag_on b s start x ≡ 0 → ⊥) → Has l (tag_on b s start x) → x < length l → ⊥) → Step l x l
    marks : (tag_on b s start x ≡ 0 → ⊥) → Has l (tag_on b s start x) → x < length l → Step l x (set l x 1)

  step_is : (l : List ℕ) (x : ℕ) → Step l x (tagged_at b s start l x)
  unfolding tagged_at
  step_is l x = go (eqb (tag_on b s start x) 0) refl (eqb (get_or l (tag_on b s start x) 0) 0) refl (ltb x (length l)) refl
    where
      go : (p : Bool) → eqb (tag_on b s start x) 0 ≡ p → (q : Bool) → eqb (get_or l (tag_on b s start x) 0) 0 ≡ q → (r : Bool) → ltb x (length l) ≡ r
          → Step l x (elim p as (λ z. List ℕ) [ true ↦ l | false ↦ elim q as (λ z. List ℕ) [ true ↦ l | false ↦ elim r as (λ z. List ℕ) [ true ↦ set l x 1 | false ↦ l ] ] ])
      go true e q f r g = stays (λ n h k. n (eqb-true (tag_on b s start x) 0 e))
      go false e true f r g = stays (λ n h k. omega (arith, h, eqb-true (get_or l (tag_on b s start x) 0) 0 f))
      go false e false f true g = marks (eqb-false (tag_on b s start x) 0 e) (positive (get_or l (tag_on b s start x) 0) (eqb-false (get_or l (tag_on b s start x) 0) 0 f)) (ltb-true x (length l) g)
      go false e false f false g = stays (λ n h k. omega (arith, k, ltb-false x (length l) g))

  abbrev pub Tagged : List ℕ → ℕ → ℕ → Type 0
  Tagged m n x = (x < n) × (x < length m) × (tag_on b s start x ≡ 0 → ⊥) × Has m (tag_on b s start x)

  -- what the first n ids come to
  pub record Tags (m : List ℕ) (n : ℕ) (l : List ℕ) : Type 0 where
    pub long : length l ≡ length m
    pub to : (x : ℕ) → Has l x → Has m x ⊎ Tagged m n x
    pub was : (x : ℕ) → Has m x → Has l x
    pub is : (x : ℕ) → Tagged m n x → Has l x
    pub first : get_or m 0 0 ≡ 0 → tag_on b s start 0 ≡ 0 → get_or l 0 0 ≡ 0

  pub tags_are : (m : List ℕ) (n : ℕ) → Tags m n (tagged_to b s start m n)
  unfolding tagged_to
  tags_are m zero = record { long = refl; to = λ x h. inl h; was = λ x h. h; is = λ x h. absurd (omega (arith, h.0)); first = λ e f. e }
  tags_are m (suc n) = next (tagged_to b s start m n) (tags_are m n) (tagged_at b s start (tagged_to b s start m n) n) (step_is (tagged_to b s start m n) n)
    where
      wider : (x : ℕ) → Has m x ⊎ Tagged m n x → Has m x ⊎ Tagged m (suc n) x
      wider x (inl h) = inl h
      wider x (inr t) = inr (omega (arith, t.0), t.1, t.2, t.3)

      next : (l : List ℕ) → Tags m n l → (l' : List ℕ) → Step l n l' → Tags m (suc n) l'
      next l t _ (stays not_so) = record {
        long = t.long;
        to = λ x h. wider x (t.to x h);
        was = t.was;
        is = λ x h. by x h (ℕ_discrete x n);
        first = t.first;
      }
        where
          by : (x : ℕ) → Tagged m (suc n) x → Dec (x ≡ n) → Has l x
          by x h (no e) = t.is x (omega (arith, h.0, e), h.1, h.2, h.3)
          by x h (yes e) =
              let nz : tag_on b s start n ≡ 0 → ⊥ = λ z. h.2 (ap (tag_on b s start) e ∙ z) in
              absurd (not_so nz (t.was (tag_on b s start n) (subst (λ (y : ℕ). Has m (tag_on b s start y)) e h.3)) (omega (arith, h.1, e, t.long)))
      next l t _ (marks nz h k) = record {
        long = length-set l n 1 ∙ t.long;
        to = λ x g. to x g (ℕ_discrete x n);
        was = λ x g. keep x (t.was x g);
        is = λ x g. is x g (ℕ_discrete x n);
        first = λ e f. first e f (ℕ_discrete 0 n);
      }
        where
          own : Has m (tag_on b s start n)
          own = go (t.to (tag_on b s start n) h)
            where
              go : Has m (tag_on b s start n) ⊎ Tagged m n (tag_on b s start n) → Has m (tag_on b s start n)
              go (inl g) = g
              go (inr g) = absurd (g.2 (target_free n nz))

          off : (x : ℕ) → (x ≡ n → ⊥) → get_or (set l n 1) x 0 ≡ get_or l x 0
          off x e = get_or-set_other l n x 1 0 e

          at : Has (set l n 1) n
          at = omega (arith, get_or-set_same l n 1 0 k)

          keep : (x : ℕ) → Has l x → Has (set l n 1) x
          keep x g = go (ℕ_discrete x n)
            where
              go : Dec (x ≡ n) → Has (set l n 1) x
              go (yes e) = subst (Has (set l n 1)) (sym e) at
              go (no e) = omega (arith, g, off x e)

          to : (x : ℕ) → Has (set l n 1) x → Dec (x ≡ n) → Has m x ⊎ Tagged m (suc n) x
          to x g (no e) = wider x (t.to x (omega (arith, g, off x e)))
          to x g (yes e) = inr (omega (arith, e), omega (arith, e, k, t.long), (λ z. nz (ap (tag_on b s start) (sym e) ∙ z)), subst (λ (y : ℕ). Has m (tag_on b s start y)) (sym e) own)

          is : (x : ℕ) → Tagged m (suc n) x → Dec (x ≡ n) → Has (set l n 1) x
          is x g (yes e) = subst (Has (set l n 1)) (sym e) at
          is x g (no e) = keep x (t.is x (omega (arith, g.0, e), g.1, g.2, g.3))

          first : get_or m 0 0 ≡ 0 → tag_on b s start 0 ≡ 0 → Dec (0 ≡ n) → get_or (set l n 1) 0 0 ≡ 0
          first e f (yes q) = absurd (nz (ap (tag_on b s start) (sym q) ∙ f))
          first e f (no q) = off 0 q ∙ t.first e f

-- ---- numbers
abbrev pub marked : List ℕ → ℕ → Bool
marked m x = not (eqb (get_or m x 0) 0)

-- how many of the ids 1 to n - 1 have a mark
abbrev below : (ℕ → Bool) → ℕ → ℕ
below M zero = 0
below M (suc n) = kept_to M n

module _ (m : List ℕ) (void : get_or m 0 0 ≡ 0) where
  pub record Nums (n : ℕ) (l : List ℕ) (c : ℕ) : Type 0 where
    pub long : length l ≡ length m
    pub last : c ≡ below (marked m) n
    pub done : (x : ℕ) → x < n → x < length m → get_or l x 0 ≡ new_id (marked m) x
    pub rest : (x : ℕ) → n ≤ x → get_or l x 0 ≡ get_or m x 0

  pub data Numbers (n : ℕ) : Numbered → Type 0 where
    numbers : (l : List ℕ) (c : ℕ) → Nums n l c → Numbers n (numbered l c)

  -- unmarked: not kept, so 0
  plain : (x : ℕ) → get_or m x 0 ≡ 0 → new_id (marked m) x ≡ 0
  plain zero e = new_zero (marked m)
  plain (suc i) e = new_dropped (marked m) i (ap not (eq-eqb (get_or m (suc i) 0) 0 e))

  same_last : (n : ℕ) → get_or m n 0 ≡ 0 → below (marked m) n ≡ below (marked m) (suc n)
  unfolding kept_to
  same_last zero e = refl
  same_last (suc i) e = sym (kept_no (marked m) i (ap not (eq-eqb (get_or m (suc i) 0) 0 e)))

  step : (n : ℕ) (h : Numbered) → Numbers n h → Numbers (suc n) (numbered_at h n)
  unfolding numbered_at
  step n _ (numbers l c t) = go (eqb (get_or l n 0) 0) refl (ltb n (length l)) refl
    where
      here : get_or l n 0 ≡ get_or m n 0
      here = t.rest n (omega arith)

      same : get_or m n 0 ≡ 0 → Numbers (suc n) (numbered l c)
      same e = numbers l c (record {
        long = t.long;
        last = t.last ∙ same_last n e;
        done = λ x h k. by x h k (ℕ_discrete x n);
        rest = λ x h. t.rest x (omega (arith, h));
      })
        where
          by : (x : ℕ) → x < suc n → x < length m → Dec (x ≡ n) → get_or l x 0 ≡ new_id (marked m) x
          by x h k (yes q) = ap (λ (y : ℕ). get_or l y 0) q ∙ here ∙ e ∙ sym (ap (new_id (marked m)) q ∙ plain n e)
          by x h k (no q) = t.done x (omega (arith, h, q)) k

      go : (p : Bool) → eqb (get_or l n 0) 0 ≡ p → (q : Bool) → ltb n (length l) ≡ q
          → Numbers (suc n) (elim p as (λ z. Numbered) [ true ↦ numbered l c | false ↦ elim q as (λ z. Numbered) [ true ↦ numbered (set l n (suc c)) (suc c) | false ↦ numbered l c ] ])
      go true e q f = same (sym here ∙ eqb-true (get_or l n 0) 0 e)
      go false e false f = absurd (eqb-false (get_or l n 0) 0 e (get_or_past l n 0 (ltb-false n (length l) f)))
      go false e true f = some n refl
        where
          k : n < length l
          k = ltb-true n (length l) f

          some : (v : ℕ) → n ≡ v → Numbers (suc n) (numbered (set l n (suc c)) (suc c))
          some zero z = absurd (eqb-false (get_or l n 0) 0 e (here ∙ ap (λ (y : ℕ). get_or m y 0) z ∙ void))
          some (suc i) z = numbers (set l n (suc c)) (suc c) (record {
            long = length-set l n (suc c) ∙ t.long;
            last = ap suc last_is ∙ sym (kept_yes (marked m) i yes_i) ∙ ap (kept_to (marked m)) (sym z);
            done = λ x h w. by x h w (ℕ_discrete x n);
            rest = λ x h. get_or-set_other l n x (suc c) 0 (λ q. omega (arith, h, q)) ∙ t.rest x (omega (arith, h));
          })
            where
              yes_i : marked m (suc i) ≡ true
              yes_i = ap not (ne_eqb (get_or m (suc i) 0) 0 (λ q. eqb-false (get_or l n 0) 0 e (here ∙ ap (λ (y : ℕ). get_or m y 0) z ∙ q)))

              last_is : c ≡ kept_to (marked m) i
              last_is = t.last ∙ ap (below (marked m)) z

              by : (x : ℕ) → x < suc n → x < length m → Dec (x ≡ n) → get_or (set l n (suc c)) x 0 ≡ new_id (marked m) x
              by x h w (yes q) =
                  ap (λ (y : ℕ). get_or (set l n (suc c)) y 0) q
                  ∙ get_or-set_same l n (suc c) 0 k
                  ∙ ap suc last_is
                  ∙ sym (ap (new_id (marked m)) (q ∙ z) ∙ new_kept (marked m) i yes_i)
              by x h w (no q) = get_or-set_other l n x (suc c) 0 q ∙ t.done x (omega (arith, h, q)) w

  all : (n : ℕ) → Numbers n (numbered_to (numbered m 0) n)
  unfolding numbered_to
  all zero = numbers m 0 (record { long = refl; last = refl; done = λ x h. absurd (omega (arith, h)); rest = λ x h. refl })
  all (suc n) = step n (numbered_to (numbered m 0) n) (all n)

  -- "ids renumbered in old order"
  pub numbers_are : length m ≡ 262145 → (x : ℕ) → x < 262145 → get_or (numbers_of m) x 0 ≡ new_id (marked m) x
  unfolding numbers_of
  numbers_are e x l = read (numbered_to (numbered m 0) 262145) (all 262145)
    where
      read : (h : Numbered) → Numbers 262145 h → get_or (numbers_in h) x 0 ≡ new_id (marked m) x
      read _ (numbers k c t) = t.done x l (omega (arith, l, e))
