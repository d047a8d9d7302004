-- The tags of a type read back from the work: the list that words 9 and 10 spell is that of its DECL_TAGs, in rising order. Assumes nothing.
use Prim.Native.Nat.{ℕ, zero, suc, zero-le, ◌+◌, ◌*◌, ◌/◌, ◌%◌, ◌<◌, ◌≤◌}
use mathlib.Core.Path.{◌≡◌, refl, ap, ◌∙◌, sym}
use mathlib.Core.Bool.{Bool, true, false, true≢false}
use mathlib.Core.List.{List, [], ◌∷◌}
use native.Mathlib.Omega.{arith}
use native.Mathlib.Decide.{ℕ_discrete}
use lib.ListN.{length, get_or}
use lib.Dec.{ltb, eqb}
use borrow.Author.Tests.{lt-ltb, le-ltb, ne_eqb, ltb-true, ltb-false, eq-eqb}
use Rattle.spec_bytes.proofs.words.Laws.{get_put_same, get_put_other, put_length}
use Rattle.spec_type_table.specs.declared.types.TypeTable.{TypeTable}
use Rattle.spec_type_table.specs.Cells.{get_field, put_field}
use Rattle.spec_type_table.specs.Records.{section_word}
use Rattle.spec_type_table.specs.Table.{tags_from}
use Rattle.spec_type_table.proofs.Frame.{field_other}
use Rattle.btf_open_names.specs.filled_work.Left.{tag_put, tags_put, is_tag_on, tags_on}

-- word 9 or 10 holds h, and the tags from there on are l
abbrev pub Chain : List ℕ → ℕ → List ℕ → Type 0
Chain w h [] = h ≡ 0
Chain w h (y ∷ l) = (h ≡ y) × Chain w (get_field w y 10) l

-- rising from after `last`, and below the count
abbrev pub Rising : ℕ → ℕ → List ℕ → Type 0
Rising types last [] = Unit {0}
Rising types last (y ∷ l) = (last < y) × (y < types) × Rising types y l

lower : (types : ℕ) (a c : ℕ) (l : List ℕ) → a ≤ c → Rising types c l → Rising types a l
lower types a c [] h r = tt
lower types a c (y ∷ l) h r = (omega (arith, r.0), r.1, r.2)

module _ (b : TypeTable) (s start : List ℕ) (id : ℕ) where
  on_yes : (x n : ℕ) → is_tag_on b s id (get_or start x 0) ≡ true → tags_on b s start id x (suc n) ≡ x ∷ tags_on b s start id (suc x) n
  unfolding tags_on
  on_yes x n e = rw (e, tags_on)

  on_no : (x n : ℕ) → is_tag_on b s id (get_or start x 0) ≡ false → tags_on b s start id x (suc n) ≡ tags_on b s start id (suc x) n
  unfolding tags_on
  on_no x n e = rw (e, tags_on)

  on_none : (x : ℕ) → tags_on b s start id x 0 ≡ []
  unfolding tags_on
  on_none x = refl

  pub on_rises : (x n last : ℕ) → last < x → x + n ≤ b.types → Rising b.types last (tags_on b s start id x n)
  on_rises x zero last h l = rw (on_none x) tt
  on_rises x (suc n) last h l =
      go (on_rises (suc x) n x (omega arith) (omega arith)) (is_tag_on b s id (get_or start x 0)) refl
    where
      go : Rising b.types x (tags_on b s start id (suc x) n) → (t : Bool) → is_tag_on b s id (get_or start x 0) ≡ t → Rising b.types last (tags_on b s start id x (suc n))
      go r true e = rw (on_yes x n e) (h, omega arith, r)
      go r false e = rw (on_no x n e) (lower b.types last x (tags_on b s start id (suc x) n) (omega arith) r)

  pub on_short : (x n : ℕ) → length (tags_on b s start id x n) ≤ n
  on_short x zero = rw (on_none x) zero-le
  on_short x (suc n) = go (on_short (suc x) n) (is_tag_on b s id (get_or start x 0)) refl
    where
      go : length (tags_on b s start id (suc x) n) ≤ n → (t : Bool) → is_tag_on b s id (get_or start x 0) ≡ t → length (tags_on b s start id x (suc n)) ≤ suc n
      go r true e = rw (on_yes x n e) (omega arith)
      go r false e = rw (on_no x n e) (omega arith)

-- a chain stays where word 10 of its tags does
pub chain_keeps : (types : ℕ) (w u : List ℕ) (x : ℕ) → ((y : ℕ) → x < y → y < types → get_field u y 10 ≡ get_field w y 10)
    → (l : List ℕ) (last h k : ℕ) → x ≤ last → h ≡ k → Rising types last l → Chain w h l → Chain u k l
chain_keeps types w u x f [] last h k a e r c = sym e ∙ c
chain_keeps types w u x f (y ∷ l) last h k a e r c =
    (sym e ∙ c.0, chain_keeps types w u x f l y (get_field w y 10) (get_field u y 10) (omega (arith, r.0)) (sym (f y (omega (arith, r.0)) r.1)) r.2 c.1)

-- the list that the work spells
pub chain_read : (types : ℕ) (w l : List ℕ) (n last h : ℕ) → length l < n → Rising types last l → Chain w h l → tags_from n types w last h ≡ l
unfolding tags_from
chain_read types w l zero last h a r c = absurd (omega arith)
chain_read types w [] (suc n) last h a r c = rw (le-ltb last h (omega (arith, c)), tags_from)
chain_read types w (y ∷ l) (suc n) last h a r c =
    let t1 : ltb last h ≡ true = lt-ltb last h (omega (arith, c.0, r.0)) in
    let t2 : ltb h types ≡ true = lt-ltb h types (omega (arith, c.0, r.1)) in
    rw (t1, t2, tags_from)
    (λ i. c.0 i ∷ (ap (λ (q : ℕ). tags_from n types w q (get_field w q 10)) c.0 ∙ chain_read types w l n y (get_field w y 10) (omega arith) r.2 c.1) i)

-- ---- one tag
module _ (b : TypeTable) (s : List ℕ) (entry : ℕ) where
  tag_on_lem : eqb (entry % 32) 17 ≡ true → is_tag_on b s (section_word b s (entry / 32 + 8)) entry ≡ true
  unfolding is_tag_on
  tag_on_lem e = rw (e, is_tag_on) (eq-eqb (section_word b s (entry / 32 + 8)) (section_word b s (entry / 32 + 8)) refl)

  module _ (x : ℕ) (w : List ℕ) where
    tag_two : eqb (entry % 32) 17 ≡ true → ltb (section_word b s (entry / 32 + 8)) b.types ≡ true
        → tag_put b s entry x w ≡ put_field (put_field w x 10 (get_field w (section_word b s (entry / 32 + 8)) 9)) (section_word b s (entry / 32 + 8)) 9 x
    unfolding tag_put
    tag_two e f = rw (e, tag_put, f)

    tag_far : eqb (entry % 32) 17 ≡ true → ltb (section_word b s (entry / 32 + 8)) b.types ≡ false → tag_put b s entry x w ≡ w
    unfolding tag_put
    tag_far e f = rw (e, tag_put, f)

    tag_plain : eqb (entry % 32) 17 ≡ false → tag_put b s entry x w ≡ w
    unfolding tag_put
    tag_plain e = rw (e, tag_put)

module _ (b : TypeTable) (s start : List ℕ) where
  -- the tags from x on, n of them looked at, stand in their lists
  abbrev pub Chains : List ℕ → ℕ → ℕ → Type 0
  Chains w x n = (id : ℕ) → id < b.types → Chain w (get_field w id 9) (tags_on b s start id x n)

  module _ (w : List ℕ) (x n : ℕ) (in_table : x + suc n ≤ b.types) (room : b.types * 16 ≤ length w / 4) (c : Chains w (suc x) n) where
    abbrev entry : ℕ
    entry = get_or start x 0

    abbrev on : ℕ
    on = section_word b s (entry / 32 + 8)

    abbrev first : List ℕ
    first = put_field w x 10 (get_field w on 9)

    abbrev put : List ℕ
    put = put_field first on 9 x

    rest : (id : ℕ) → Rising b.types x (tags_on b s start id (suc x) n)
    rest id = on_rises b s start id (suc x) n x (omega arith) (omega arith)

    -- word 10 of later tags stays
    later : (y : ℕ) → x < y → y < b.types → get_field put y 10 ≡ get_field w y 10
    later y a l =
        field_other first on 9 x y 10 (omega arith) (omega arith) (λ e. absurd (omega arith))
        ∙ get_put_other w (x * 16 + 10) (y * 16 + 10) (get_field w on 9) (λ e. absurd (omega arith))

    no_tag : (id : ℕ) → is_tag_on b s id entry ≡ false → id < b.types → Chain w (get_field w id 9) (tags_on b s start id x (suc n))
    no_tag id e l = rw (on_no b s start id x n e) (c id l)

    not_tag : (id : ℕ) → eqb (entry % 32) 17 ≡ false → is_tag_on b s id entry ≡ false
    unfolding is_tag_on
    not_tag id e = rw (e, is_tag_on)

    tag_is : (id : ℕ) → eqb (entry % 32) 17 ≡ true → is_tag_on b s id entry ≡ eqb on id
    unfolding is_tag_on
    tag_is id e = rw (e, is_tag_on)

    put_is : eqb (entry % 32) 17 ≡ true → ltb on b.types ≡ true → tag_put b s entry x w ≡ put
    unfolding tag_put
    put_is e f = rw (e, tag_put, f)

    put_past : eqb (entry % 32) 17 ≡ true → ltb on b.types ≡ false → tag_put b s entry x w ≡ w
    unfolding tag_put
    put_past e f = rw (e, tag_put, f)

    put_none : eqb (entry % 32) 17 ≡ false → tag_put b s entry x w ≡ w
    unfolding tag_put
    put_none e = rw (e, tag_put)

    same_first : on < b.types → get_field put on 9 ≡ x
    same_first l = get_put_same first (on * 16 + 9) x (space (put_length w (x * 16 + 10) (get_field w on 9)))
      where
        space : length first ≡ length w → on * 16 + 9 < length first / 4
        space e = rw e (omega arith)

    same_next : get_field put x 10 ≡ get_field w on 9
    same_next =
        field_other first on 9 x x 10 (omega arith) (omega arith) (λ e. absurd (omega arith))
        ∙ get_put_same w (x * 16 + 10) (get_field w on 9) (omega arith)

    other_first : (id : ℕ) → (on ≡ id → ⊥) → get_field put id 9 ≡ get_field w id 9
    other_first id ne =
        get_put_other first (on * 16 + 9) (id * 16 + 9) x (λ e. ne (omega arith))
        ∙ field_other w x 10 (get_field w on 9) id 9 (omega arith) (omega arith) (λ e. absurd (omega arith))

    chain_put : eqb (entry % 32) 17 ≡ true → on < b.types → Chains put x (suc n)
    chain_put e l id m =
        elim (ℕ_discrete on id) [
          | yes q ↦ rw (on_yes b s start id x n (tag_is id e ∙ eq-eqb on id q)) (
            (ap (λ (y : ℕ). get_field put y 9) (sym q) ∙ same_first l),
            chain_keeps b.types w put x later (tags_on b s start id (suc x) n) x (get_field w id 9) (get_field put x 10)
                (omega arith) (ap (λ (y : ℕ). get_field w y 9) (sym q) ∙ sym same_next) (rest id) (c id m),
          )
          | no q ↦ rw (on_no b s start id x n (tag_is id e ∙ ne_eqb on id q))
              (chain_keeps b.types w put x later (tags_on b s start id (suc x) n) x (get_field w id 9) (get_field put id 9)
              (omega arith) (sym (other_first id q)) (rest id) (c id m))
        ]

    pub chain_step : Chains (tag_put b s entry x w) x (suc n)
    chain_step = go (eqb (entry % 32) 17) refl (ltb on b.types) refl
      where
        go : (t : Bool) → eqb (entry % 32) 17 ≡ t → (u : Bool) → ltb on b.types ≡ u → Chains (tag_put b s entry x w) x (suc n)
        go true e true f = rw (put_is e f) (chain_put e (ltb-true on b.types f))
        go true e false f = rw (put_past e f) (λ id l. no_tag id (tag_is id e ∙ ne_eqb on id (λ q. absurd (omega (arith, ltb-false on b.types f)))) l)
        go false e u f = rw (put_none e) (λ id l. no_tag id (not_tag id e) l)

  tag_long : (entry x : ℕ) (w : List ℕ) → length (tag_put b s entry x w) ≡ length w
  unfolding tag_put
  tag_long entry x w = go (eqb (entry % 32) 17) (ltb (section_word b s (entry / 32 + 8)) b.types)
    where
      to : ℕ
      to = section_word b s (entry / 32 + 8)

      both : List ℕ
      both = put_field (put_field w x 10 (get_field w to 9)) to 9 x

      go : (t u : Bool) → length {A = ℕ} (elim t as (λ z. List ℕ) [ true ↦ elim u as (λ z. List ℕ) [ true ↦ both | false ↦ w ] | false ↦ w ]) ≡ length w
      go true true = put_length (put_field w x 10 (get_field w to 9)) (to * 16 + 9) x ∙ put_length w (x * 16 + 10) (get_field w to 9)
      go true false = refl
      go false u = refl

  -- ---- all tags, from the last to the first
  pub chains_all : (m n : ℕ) (w : List ℕ) → suc m + n ≤ b.types → b.types * 16 ≤ length w / 4 → Chains w (suc m) n → Chains (tags_put b s start m w) 1 (m + n)
  unfolding tags_put
  chains_all zero n w l room c = let z : 0 + n ≡ n = omega arith in rw z c
  chains_all (suc m) n w l room c =
      let z : m + suc n ≡ suc m + n = omega arith in
      let w' = tag_put b s (get_or start (suc m) 0) (suc m) w in
      let long : length w' ≡ length w = tag_long (get_or start (suc m) 0) (suc m) w in
      let wide : b.types * 16 ≤ length w' / 4 = omega (arith, long) in
      rw (← z) (chains_all m (suc n) w' (omega arith) wide (chain_step w (suc m) n (omega arith) room c))

  pub tags_long : (m : ℕ) (w : List ℕ) → length (tags_put b s start m w) ≡ length w
  unfolding tags_put
  tags_long zero w = refl
  tags_long (suc m) w = tags_long m (tag_put b s (get_or start (suc m) 0) (suc m) w) ∙ tag_long (get_or start (suc m) 0) (suc m) w

  -- of a type that is no tag on a type of the table, word 10 stays
  pub next_not : (m : ℕ) (w : List ℕ) (x : ℕ) → ((id : ℕ) → id < b.types → is_tag_on b s id (get_or start x 0) ≡ false) → get_field (tags_put b s start m w) x 10 ≡ get_field w x 10
  unfolding tags_put
  next_not zero w x h = refl
  next_not (suc m) w x h = next_not m (tag_put b s (get_or start (suc m) 0) (suc m) w) x h ∙ elim (ℕ_discrete x (suc m)) [ yes q ↦ same q | no q ↦ differ q ]
    where
      y : ℕ
      y = get_or start (suc m) 0

      to : ℕ
      to = section_word b s (y / 32 + 8)

      two : List ℕ
      two = put_field (put_field w (suc m) 10 (get_field w to 9)) to 9 (suc m)

      is : eqb (y % 32) 17 ≡ true → ltb to b.types ≡ true → tag_put b s y (suc m) w ≡ two
      is e f = tag_two b s y (suc m) w e f

      same : x ≡ suc m → get_field (tag_put b s y (suc m) w) x 10 ≡ get_field w x 10
      same q = go (eqb (y % 32) 17) refl (ltb to b.types) refl
        where
          go : (t : Bool) → eqb (y % 32) 17 ≡ t → (u : Bool) → ltb to b.types ≡ u → get_field (tag_put b s y (suc m) w) x 10 ≡ get_field w x 10
          go true e true f = absurd (true≢false (sym (tag_on_lem b s y e) ∙ ap (λ (z : ℕ). is_tag_on b s to (get_or start z 0)) (sym q) ∙ h to (ltb-true to b.types f)))
          go true e false f = ap (λ (z : List ℕ). get_field z x 10) (tag_far b s y (suc m) w e f)
          go false e u f = ap (λ (z : List ℕ). get_field z x 10) (tag_plain b s y (suc m) w e)

      differ : (x ≡ suc m → ⊥) → get_field (tag_put b s y (suc m) w) x 10 ≡ get_field w x 10
      differ q = go (eqb (y % 32) 17) refl (ltb to b.types) refl
        where
          go : (t : Bool) → eqb (y % 32) 17 ≡ t → (u : Bool) → ltb to b.types ≡ u → get_field (tag_put b s y (suc m) w) x 10 ≡ get_field w x 10
          go true e true f =
              ap (λ (z : List ℕ). get_field z x 10) (is e f)
              ∙ field_other (put_field w (suc m) 10 (get_field w to 9)) to 9 (suc m) x 10 (omega arith) (omega arith) (λ z. absurd (omega arith))
              ∙ get_put_other w (suc m * 16 + 10) (x * 16 + 10) (get_field w to 9) (λ z. q (omega arith))
          go true e false f = ap (λ (z : List ℕ). get_field z x 10) (tag_far b s y (suc m) w e f)
          go false e u f = ap (λ (z : List ℕ). get_field z x 10) (tag_plain b s y (suc m) w e)
