-- The table of the kept types, renamed, stands for the old table. Assumes nothing.
use Prim.Native.Nat.{ℕ, zero, suc, ◌+◌, ◌<◌, ◌≤◌}
use native.Mathlib.Omega.{arith}
use mathlib.Core.Path.{◌≡◌, refl, sym, ◌∙◌, ap, subst}
use mathlib.Core.Bool.{Bool, true, false, ◌&&◌, true≢false}
use mathlib.Core.List.{List, ◌∷◌, Memᴰ}
use lib.ListN.{length, get_or}
use lib.Dec.{eqb}
use borrow.Author.Tests.{eq-eqb, ne_eqb, eqb-true, eqb-false}
use Rattle.std.proofs.lemmas.Bool.{and_parts}
use Rattle.spec_linux_btf.specs.Documentation.{int, ptr, array, struct, union, enum, fwd, typedef, volatile, const, restrict, func, func_proto, var, datasec, float, decl_tag, type_tag, enum64, Described, described}
use Rattle.spec_c_dumper.specs.rules.Types.{BtfType, Void, Btf as Rules}
use Rattle.spec_type_table.specs.declared.types.TypeTable.{TypeTable}
use Rattle.spec_type_table.specs.Documented.{kept}
use Rattle.proof_demands.specs.demands.Table.{is_tag_for, tag_ids}
use Rattle.spec_cut.specs.section.Kept.{followed_ids, void_type, type_of, is_decl_tag, third}
use Rattle.spec_cut.specs.section.Renumbered.{kept_to, new_id, kept_types, renamed, renamed_all}
use Rattle.spec_cut.specs.section.Strings.{mentions}
use Rattle.spec_cut.specs.section.Table.{Reads}
use Rattle.spec_cut.specs.section.Stands as S
use Rattle.spec_cut.specs.section.Stands.{Each, none, more, Followed, Stands, NoTag, Tagged}
use Rattle.spec_cut.proofs.section.Numbers.{kept_yes, kept_no, kept_up, new_zero, new_kept, new_dropped, Stays, is_void, is_kept_lem, new_one, type_at, kept_length, new_below, renamed_at, renamed_length}
use Rattle.spec_cut.proofs.section.Types.{SameNames, type_renamed}

-- strings: the place of the names
pub no_tag : (strings : ℕ) (s : List ℕ) (t : Described) → is_decl_tag t ≡ false → NoTag (kept strings s t)
unfolding kept
no_tag strings s (described n f z (int v a c d e g)) h = tt
no_tag strings s (described n f z (ptr v)) h = tt
no_tag strings s (described n f z (array v t i k)) h = tt
no_tag strings s (described n f z (struct ms)) h = tt
no_tag strings s (described n f z (union ms)) h = tt
no_tag strings s (described n f z (enum es)) h = tt
no_tag strings s (described n f z (fwd v)) h = tt
no_tag strings s (described n f z (typedef v)) h = tt
no_tag strings s (described n f z (volatile v)) h = tt
no_tag strings s (described n f z (const v)) h = tt
no_tag strings s (described n f z (restrict v)) h = tt
no_tag strings s (described n f z (func v)) h = tt
no_tag strings s (described n f z (func_proto ps)) h = tt
no_tag strings s (described n f z (var v l)) h = tt
no_tag strings s (described n f z (datasec ss)) h = tt
no_tag strings s (described n f z (float v)) h = tt
no_tag strings s (described n f z (decl_tag v c)) h = true≢false h
no_tag strings s (described n f z (type_tag v)) h = tt
no_tag strings s (described n f z (enum64 es)) h = tt

-- what prints its tags is no tag
tagged_none : (b : TypeTable) (s : List ℕ) (t : Described) → Tagged (kept b.strs s t) → is_decl_tag t ≡ false
unfolding kept
tagged_none b s (described n f z (int v a c d e g)) h = absurd h
tagged_none b s (described n f z (ptr v)) h = absurd h
tagged_none b s (described n f z (array v t i k)) h = absurd h
tagged_none b s (described n f z (struct ms)) h = refl
tagged_none b s (described n f z (union ms)) h = refl
tagged_none b s (described n f z (enum es)) h = absurd h
tagged_none b s (described n f z (fwd v)) h = absurd h
tagged_none b s (described n f z (typedef v)) h = refl
tagged_none b s (described n f z (volatile v)) h = absurd h
tagged_none b s (described n f z (const v)) h = absurd h
tagged_none b s (described n f z (restrict v)) h = absurd h
tagged_none b s (described n f z (func v)) h = absurd h
tagged_none b s (described n f z (func_proto ps)) h = absurd h
tagged_none b s (described n f z (var v l)) h = absurd h
tagged_none b s (described n f z (datasec ss)) h = absurd h
tagged_none b s (described n f z (float v)) h = absurd h
tagged_none b s (described n f z (decl_tag v c)) h = absurd h
tagged_none b s (described n f z (type_tag v)) h = absurd h
tagged_none b s (described n f z (enum64 es)) h = absurd h

tag_is : (b : TypeTable) (s : List ℕ) (id : ℕ) (t : Described) → is_tag_for id (kept b.strs s t) ≡ (is_decl_tag t && eqb (third t) id)
unfolding kept
tag_is b s id (described n f z (int v a c d e g)) = refl
tag_is b s id (described n f z (ptr v)) = refl
tag_is b s id (described n f z (array v t i k)) = refl
tag_is b s id (described n f z (struct ms)) = refl
tag_is b s id (described n f z (union ms)) = refl
tag_is b s id (described n f z (enum es)) = refl
tag_is b s id (described n f z (fwd v)) = refl
tag_is b s id (described n f z (typedef v)) = refl
tag_is b s id (described n f z (volatile v)) = refl
tag_is b s id (described n f z (const v)) = refl
tag_is b s id (described n f z (restrict v)) = refl
tag_is b s id (described n f z (func v)) = refl
tag_is b s id (described n f z (func_proto ps)) = refl
tag_is b s id (described n f z (var v l)) = refl
tag_is b s id (described n f z (datasec ss)) = refl
tag_is b s id (described n f z (float v)) = refl
tag_is b s id (described n f z (decl_tag v c)) = refl
tag_is b s id (described n f z (type_tag v)) = refl
tag_is b s id (described n f z (enum64 es)) = refl

new_tag_is : (b : TypeTable) (s : List ℕ) (i o : ℕ → ℕ) (id : ℕ) (t : Described) → is_tag_for id (kept b.strs s (renamed i o t)) ≡ (is_decl_tag t && eqb (i (third t)) id)
unfolding kept renamed
new_tag_is b s i o id (described n f z (int v a c d e g)) = refl
new_tag_is b s i o id (described n f z (ptr v)) = refl
new_tag_is b s i o id (described n f z (array v t x k)) = refl
new_tag_is b s i o id (described n f z (struct ms)) = refl
new_tag_is b s i o id (described n f z (union ms)) = refl
new_tag_is b s i o id (described n f z (enum es)) = refl
new_tag_is b s i o id (described n f z (fwd v)) = refl
new_tag_is b s i o id (described n f z (typedef v)) = refl
new_tag_is b s i o id (described n f z (volatile v)) = refl
new_tag_is b s i o id (described n f z (const v)) = refl
new_tag_is b s i o id (described n f z (restrict v)) = refl
new_tag_is b s i o id (described n f z (func v)) = refl
new_tag_is b s i o id (described n f z (func_proto ps)) = refl
new_tag_is b s i o id (described n f z (var v l)) = refl
new_tag_is b s i o id (described n f z (datasec ss)) = refl
new_tag_is b s i o id (described n f z (float v)) = refl
new_tag_is b s i o id (described n f z (decl_tag v c)) = refl
new_tag_is b s i o id (described n f z (type_tag v)) = refl
new_tag_is b s i o id (described n f z (enum64 es)) = refl

-- ts: the old types; m tells which are kept; B, of the header b and the section s, has the old types, B' those that are kept, renamed
module _ (m : ℕ → Bool) (o : ℕ → ℕ) (ts : List Described) (B B' : Rules) (b b' : TypeTable) (s s' : List ℕ)
    (old : Reads B b s ts) (cut : Reads B' b' s' (renamed_all (new_id m) o (kept_types m 1 ts)))
    -- what a kept type follows is kept, inside the table, and no DECL_TAG (cause 6)
    (closed : (x : ℕ) → Stays m x → x ≤ length ts → (y : ℕ) → Memᴰ y (followed_ids (type_of ts x)) → Stays m y × (y ≤ length ts) × (is_decl_tag (type_of ts y) ≡ false))
    -- the DECL_TAGs on a kept type that is no DECL_TAG and not void are kept
    (tagged : (i : ℕ) → i < length ts → is_decl_tag (get_or ts i void_type) ≡ true → Stays m (third (get_or ts i void_type)) → (third (get_or ts i void_type) ≡ 0 → ⊥)
    → is_decl_tag (type_of ts (third (get_or ts i void_type))) ≡ false → m (suc i) ≡ true)
    -- names are the same names
    (named : (i : ℕ) → i < length ts → m (suc i) ≡ true → SameNames b s b' s' (new_id m) o (λ x y. x ≡ y) (mentions (get_or ts i void_type))) where
  abbrev kts : List Described
  kts = kept_types m 1 ts

  abbrev nts : List Described
  nts = renamed_all (new_id m) o kts

  -- x is kept and has number x'
  pub record Number (x x' : ℕ) : Type 0 where
    pub stays : Stays m x
    pub inside : x ≤ length ts
    pub number : x' ≡ new_id m x

  new_length : length nts ≡ length kts
  new_length = renamed_length (new_id m) o kts

  place : (i : ℕ) → m (suc i) ≡ true → i < length ts → kept_to m i < length kts
  place i e l = omega (arith, new_below m ts (suc i) (is_kept_lem i e) (omega (arith, l)), new_kept m i e)

  -- the new type with the number of suc i
  new_type : (i : ℕ) → m (suc i) ≡ true → i < length ts → B'.type_by_id (suc (kept_to m i)) ≡ kept b'.strs s' (renamed (new_id m) o (get_or ts i void_type))
  new_type i e l =
      cut.type (kept_to m i) (omega (arith, place i e l, new_length))
      ∙ ap (kept b'.strs s') (renamed_at (new_id m) o (kept_to m i) kts void_type void_type (place i e l) ∙ ap (renamed (new_id m) o) (type_at m i ts void_type l e))

  followed_number : (x : ℕ) → Stays m x → x ≤ length ts → (y : ℕ) → Memᴰ y (followed_ids (type_of ts x)) → Followed B Number y (new_id m y)
  followed_number x st l y k = let c = closed x st l y k in (record { stays = c.0; inside = c.1; number = refl }, go y c.1 c.2)
    where
      go : (z : ℕ) → z ≤ length ts → is_decl_tag (type_of ts z) ≡ false → NoTag (B.type_by_id z)
      go zero q e = subst NoTag (sym old.zero_void) tt
      go (suc i) q e = subst NoTag (sym (old.type i (omega (arith, q)))) (no_tag b.strs s (get_or ts i void_type) e)

  types_same : (x : ℕ) → Stays m x → x ≤ length ts → S.SameType (Followed B Number) (B.type_by_id x) (B'.type_by_id (new_id m x))
  types_same _ is_void l =
      subst (λ (t : BtfType). S.SameType (Followed B Number) t (B'.type_by_id (new_id m 0))) (sym old.zero_void)
      (subst (λ (t : BtfType). S.SameType (Followed B Number) Void t) (sym (ap B'.type_by_id (new_zero m) ∙ cut.zero_void)) S.void)
  types_same _ (is_kept_lem i e) l =
      let k : i < length ts = omega (arith, l) in
      subst (λ (t : BtfType). S.SameType (Followed B Number) t (B'.type_by_id (new_id m (suc i)))) (sym (old.type i k))
      (subst (λ (t : BtfType). S.SameType (Followed B Number) (kept b.strs s (get_or ts i void_type)) t) (sym (ap B'.type_by_id (new_kept m i e) ∙ new_type i e k))
      (type_renamed b s b' s' (new_id m) o (Followed B Number) (get_or ts i void_type) (named i k e) (λ y q. followed_number (suc i) (is_kept_lem i e) l y q)))

  -- a tag on x, in both tables
  target_same : (t x : ℕ) → Stays m x → (x ≡ 0 → ⊥) → eqb t x ≡ eqb (new_id m t) (new_id m x)
  target_same t x st nz = go (eqb t x) refl
    where
      lost : (t : ℕ) → (x ≡ t → ⊥) → new_id m t ≡ new_id m x → ⊥
      lost zero ne q = ne (new_one m x 0 st is_void (sym q))
      lost (suc i) ne q = by (m (suc i)) refl
        where
          by : (c : Bool) → m (suc i) ≡ c → ⊥
          by true e = ne (new_one m x (suc i) st (is_kept_lem i e) (sym q))
          by false e = nz (new_one m x 0 st is_void (sym q ∙ new_dropped m i e ∙ sym (new_zero m)))

      go : (c : Bool) → eqb t x ≡ c → eqb t x ≡ eqb (new_id m t) (new_id m x)
      go true e = e ∙ sym (eq-eqb (new_id m t) (new_id m x) (ap (new_id m) (eqb-true t x e)))
      go false e = e ∙ sym (ne_eqb (new_id m t) (new_id m x) (lost t (λ w. eqb-false t x e (sym w))))

  both_step : (c c' : Bool) → c ≡ c' → (y y' : ℕ) → Number y y' → (l l' : List ℕ) → Each Number l l' → Each Number (elim c [ true ↦ y ∷ l | false ↦ l ]) (elim c' [ true ↦ y' ∷ l' | false ↦ l' ])
  both_step true true e y y' n l l' r = more n r
  both_step false false e y y' n l l' r = r
  both_step true false e y y' n l l' r = absurd (true≢false e)
  both_step false true e y y' n l l' r = absurd (true≢false (sym e))

  module _ (x : ℕ) (st : Stays m x) (nz : x ≡ 0 → ⊥) (nt : is_decl_tag (type_of ts x) ≡ false) where
    abbrev old_tags : ℕ → ℕ → List ℕ
    old_tags p k = tag_ids B.type_by_id x (suc p) k

    abbrev new_tags : ℕ → ℕ → List ℕ
    new_tags q r = tag_ids B'.type_by_id (new_id m x) (suc q) r

    tag_same : (p : ℕ) → p < length ts → m (suc p) ≡ true → is_tag_for x (B.type_by_id (suc p)) ≡ is_tag_for (new_id m x) (B'.type_by_id (suc (kept_to m p)))
    tag_same p l e =
        ap (is_tag_for x) (old.type p l) ∙ tag_is b s x (get_or ts p void_type) ∙ ap (λ (c : Bool). is_decl_tag (get_or ts p void_type) && c) (target_same (third (get_or ts p void_type)) x st nz)
        ∙ sym (new_tag_is b' s' (new_id m) o (new_id m x) (get_or ts p void_type)) ∙ sym (ap (is_tag_for (new_id m x)) (new_type p e l))

    -- what is not kept is no tag on x
    no_tag_here : (p : ℕ) → p < length ts → m (suc p) ≡ false → is_tag_for x (B.type_by_id (suc p)) ≡ false
    no_tag_here p l e = go (is_tag_for x (B.type_by_id (suc p))) refl
      where
        go : (c : Bool) → is_tag_for x (B.type_by_id (suc p)) ≡ c → c ≡ false
        go false q = refl
        go true q =
            let h = and_parts (is_decl_tag (get_or ts p void_type)) (eqb (third (get_or ts p void_type)) x) (sym (ap (is_tag_for x) (old.type p l) ∙ tag_is b s x (get_or ts p void_type)) ∙ q) in
            let w : third (get_or ts p void_type) ≡ x = eqb-true (third (get_or ts p void_type)) x h.1 in
            absurd (true≢false (sym (tagged p l h.0 (subst (Stays m) (sym w) st) (λ z. nz (sym w ∙ z)) (ap (λ (k : ℕ). is_decl_tag (type_of ts k)) w ∙ nt)) ∙ e))

    tags_each : (k p r : ℕ) → p + k ≡ length ts → kept_to m p + r ≡ kept_to m (length ts) → Each Number (old_tags p k) (new_tags (kept_to m p) r)
    unfolding tag_ids
    tags_each zero p zero e f = none
    tags_each zero p (suc r) e f =
        let w : p ≡ length ts = omega (arith, e) in
        let g : kept_to m p ≡ kept_to m (length ts) = ap (kept_to m) w in
        absurd (omega (arith, f, g))
    tags_each (suc k) p r e f = by (m (suc p)) refl r f (λ q g. tags_each k (suc p) q (omega (arith, e)) g)
      where
        l : p < length ts
        l = omega (arith, e)

        by : (c : Bool) → m (suc p) ≡ c → (q : ℕ) → kept_to m p + q ≡ kept_to m (length ts)
            → ((q' : ℕ) → kept_to m (suc p) + q' ≡ kept_to m (length ts) → Each Number (old_tags (suc p) k) (new_tags (kept_to m (suc p)) q')) → Each Number (old_tags p (suc k)) (new_tags (kept_to m p) q)
        by true w zero g rec = absurd (omega (arith, g, kept_yes m p w, kept_up m (suc p) (length ts) l))
        by true w (suc q) g rec =
            both_step _ _ (tag_same p l w) (suc p) (suc (kept_to m p)) (record { stays = is_kept_lem p w; inside = l; number = sym (new_kept m p w) }) _ _
            (subst (λ (j : ℕ). Each Number (old_tags (suc p) k) (new_tags j q)) (kept_yes m p w) (rec q (omega (arith, g, kept_yes m p w))))
        by false w q g rec =
            subst (λ (c : Bool). Each Number (elim c as (λ d. List ℕ) [ true ↦ suc p ∷ old_tags (suc p) k | false ↦ old_tags (suc p) k ]) (new_tags (kept_to m p) q)) (sym (no_tag_here p l w))
            (subst (λ (j : ℕ). Each Number (old_tags (suc p) k) (new_tags j q)) (kept_no m p w) (rec q (omega (arith, g, kept_no m p w))))

  tags_same : (x : ℕ) → Stays m x → x ≤ length ts → Tagged (B.type_by_id x) → Each Number (B.decl_tags x) (B'.decl_tags (new_id m x))
  unfolding kept_to
  tags_same x st l t =
      subst (λ (k : List ℕ). Each Number k (B'.decl_tags (new_id m x))) (sym (old.tags x (omega (arith, l))))
      (subst (λ (k : List ℕ). Each Number (tag_ids B.type_by_id x 1 (length ts)) k) (sym (cut.tags (new_id m x) (omega (arith, new_below m ts x st l, new_length))))
      (tags_each x st (nz x t) (nt x l t) (length ts) 0 (length nts) (omega arith) (omega (arith, new_length, kept_length m ts))))
    where
      nz : (y : ℕ) → Tagged (B.type_by_id y) → y ≡ 0 → ⊥
      nz y h e = subst Tagged (ap B.type_by_id e ∙ old.zero_void) h

      nt : (y : ℕ) → y ≤ length ts → Tagged (B.type_by_id y) → is_decl_tag (type_of ts y) ≡ false
      nt zero q h = refl
      nt (suc i) q h = tagged_none b s (get_or ts i void_type) (subst Tagged (old.type i (omega (arith, q))) h)

  -- The new table stands for the old one: "the types reachable .., their declaration tags .., ids renumbered in old order".
  pub cut_stands : Stands B B'.type_cnt B'.type_by_id B'.decl_tags Number
  cut_stands = record {
    zero_kept = record { stays = is_void; inside = omega arith; number = sym (new_zero m) };
    inside = λ x x' i. (omega (arith, i.inside, old.count), omega (arith, new_below m ts x i.stays i.inside, i.number, cut.count, new_length));
    one_number = λ x x' y y' i j e. i.number ∙ ap (new_id m) e ∙ sym j.number;
    one_id = λ x x' y y' i j e. new_one m x y i.stays j.stays (sym i.number ∙ e ∙ j.number);
    same_type = λ x x' i. subst (λ (k : ℕ). S.SameType (Followed B Number) (B.type_by_id x) (B'.type_by_id k)) (sym i.number) (types_same x i.stays i.inside);
    same_tags = λ x x' i t. subst (λ (k : ℕ). Each Number (B.decl_tags x) (B'.decl_tags k)) (sym i.number) (tags_same x i.stays i.inside t);
  }
