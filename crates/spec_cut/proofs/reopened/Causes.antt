-- Causes 6, 7 and 8 do not hold of the kept types, renamed, where they do not hold of the old types. Assumes nothing.
use Prim.Native.Nat.{ℕ, zero, suc, ◌+◌, ◌<◌, ◌≤◌}
use native.Mathlib.Omega.{arith}
use mathlib.Core.Path.{◌≡◌, refl, sym, ◌∙◌, ap, subst}
use mathlib.Core.Bool.{Bool, true, false, true≢false}
use mathlib.Core.List.Memᴰ
use mathlib.Core.List.{List, [], ◌∷◌, Memᴰ}
use mathlib.Core.Logic.{◌⊎◌, inl, inr}
use lib.ListN.{length, get_or}
use lib.Dec.{eqb}
use Rattle.std.proofs.lemmas.Bool.{cases_lt}
use Rattle.spec_bytes.specs.words.Words.{pick}
use Rattle.spec_linux_btf.specs.Documentation.{Described}
use Rattle.spec_linux_btf.specs.Fields.{kind_in}
use Rattle.spec_type_table.specs.declared.types.TypeTable.{TypeTable}
use Rattle.spec_type_table.specs.Records.{section_word, vlen_of}
use Rattle.btf_open_causes.specs.references.Followed.{is_kind_among, targets, type_count, kind_at, place_of, count_for, count_at, followed_count, followed_id}
use Rattle.btf_open_causes.specs.references.Bounds.{kind_out, followed_none}
use Rattle.btf_open_causes.specs.references.References.{refused, BadReference}
use Rattle.btf_open_causes.proofs.references.Accessors.{each}
use Rattle.btf_open_causes.specs.prototypes.Prototypes.{through, ToProto, ends, passes, ProtoInside}
use Rattle.btf_open_causes.specs.loops.Loops.{passing, TypeLoop}
use Rattle.spec_cut.specs.section.Kept.{followed_ids, void_type, type_of, is_decl_tag}
use Rattle.spec_cut.specs.section.Renumbered.{kept_to, new_id, kept_types}
use Rattle.spec_cut.proofs.section.Numbers.{Stays, is_void, is_kept_lem, new_zero, new_kept, new_one, kept_length, new_below, renamed_length}
use Rattle.spec_cut.proofs.section.Claims.{GoodReferences}
use Rattle.spec_cut.specs.reopened.Seen.{SeenFrom}
use Rattle.spec_cut.proofs.reopened.Renamed.{nts, kind_same, tag_kind, old_to, old_has, type_new, followed_new}

-- no cause 6 is what the theorem on sections cut down asks of references
module _ (c : TypeTable) (s start : List ℕ) (ts : List Described) (old : SeenFrom c s start ts) (good : BadReference c s start → ⊥) where
  below : (x y : ℕ) → Memᴰ y (followed_ids (type_of ts x)) → y < type_count c
  below x y h = go (cases_lt y (type_count c))
    where
      r : (k : ℕ) × (k < followed_count c s start x) × (followed_id c s start x k ≡ y)
      r = old.from x y h

      inside : (x < type_count c) ⊎ (type_count c ≤ x) → x < type_count c
      inside (inl q) = q
      inside (inr q) = absurd (omega (arith, r.1, followed_none c s start x q))

      go : (y < type_count c) ⊎ (type_count c ≤ y) → y < type_count c
      go (inl q) = q
      go (inr q) = absurd (good (record { x = x; k = r.0; type = inside (cases_lt x (type_count c)); followed = r.1; bad = inl (subst (λ (z : ℕ). type_count c ≤ z) (sym r.2) q) }))

  -- a type that follows an id is in the table
  pub follows_inside : (x k : ℕ) → k < followed_count c s start x → x < type_count c
  follows_inside x k h = go (cases_lt x (type_count c))
    where
      go : (x < type_count c) ⊎ (type_count c ≤ x) → x < type_count c
      go (inl q) = q
      go (inr q) = absurd (omega (arith, h, followed_none c s start x q))

  not_refused : (x y : ℕ) → Memᴰ y (followed_ids (type_of ts x)) → is_kind_among refused (kind_at c start y) ≡ true → ⊥
  not_refused x y h e =
      let r = old.from x y h in
      good (record { x = x; k = r.0; type = follows_inside x r.0 r.1; followed = r.1; bad = inr (ap (λ (z : ℕ). is_kind_among refused (kind_at c start z)) r.2 ∙ e) })

  untagged : (x y : ℕ) → Memᴰ y (followed_ids (type_of ts x)) → is_decl_tag (type_of ts y) ≡ false
  unfolding is_kind_among
  untagged x zero h = refl
  untagged x (suc i) h = go (is_decl_tag (get_or ts i void_type)) refl
    where
      go : (b : Bool) → is_decl_tag (get_or ts i void_type) ≡ b → b ≡ false
      go false e = refl
      go true e =
          let l : i < length ts = omega (arith, below x (suc i) h, old.count) in
          absurd (not_refused x (suc i) h (ap (is_kind_among refused) (old.kind i l ∙ tag_kind (get_or ts i void_type) e)))

  pub references : GoodReferences ts
  references = record { below = λ x y h. omega (arith, below x y h, old.count); no_tags = untagged }

-- a type through which a walk passes follows one id
pub one_id : (b : TypeTable) (t u : List ℕ) (x : ℕ) → is_kind_among through (kind_at b u x) ≡ true → followed_count b t u x ≡ 1
unfolding followed_count count_at count_for is_kind_among
one_id b t u x e =
    ap (λ (q : Bool). pick q 1 (pick (is_kind_among (4 ∷ 5 ∷ []) (kind_at b u x)) (vlen_of (section_word b t (place_of b u x + 4))) (pick (eqb (kind_at b u x) 13) (vlen_of (section_word b t (place_of b u x + 4)) + 1) 0)))
    (each (is_kind_among targets) true through (kind_at b u x) (refl, (refl, (refl, (refl, (refl, (refl, tt)))))) e)

-- the old table and the new one
module _ (m : ℕ → Bool) (o : ℕ → ℕ) (ts : List Described) (c c' : TypeTable) (s s' start start' : List ℕ) (old : SeenFrom c s start ts) (new : SeenFrom c' s' start' (nts m o ts))
    (closed : (x : ℕ) → Stays m x → x ≤ length ts → (y : ℕ) → Memᴰ y (followed_ids (type_of ts x)) → Stays m y × (y ≤ length ts)) where
  new_count : type_count c' ≡ suc (kept_to m (length ts))
  new_count = new.count ∙ ap suc (renamed_length (new_id m) o (kept_types m 1 ts) ∙ kept_length m ts)

  abbrev old_of : ℕ → ℕ
  old_of x = old_to m (length ts) x

  old_is : (x : ℕ) → x < type_count c' → Stays m (old_of x) × (old_of x ≤ length ts) × (new_id m (old_of x) ≡ x)
  old_is x l = old_has m (length ts) x (omega (arith, l, new_count))

  number_below : (x : ℕ) → Stays m x → x ≤ length ts → new_id m x < type_count c'
  number_below x st l = omega (arith, new_below m ts x st l, new_count, kept_length m ts)

  -- kinds are the old ones
  kinds : (x : ℕ) → Stays m x → x ≤ length ts → kind_at c' start' (new_id m x) ≡ kind_at c start x
  kinds _ is_void l = ap (kind_at c' start') (new_zero m) ∙ new.zero_kind ∙ sym old.zero_kind
  kinds _ (is_kept_lem i e) l =
      let q : kept_to m i < length (nts m o ts) = omega (arith, number_below (suc i) (is_kept_lem i e) l, new_kept m i e, new.count) in
      ap (kind_at c' start') (new_kept m i e)
      ∙ new.kind (kept_to m i) q
      ∙ ap kind_in (type_new m o ts i e (omega (arith, l)))
      ∙ kind_same (new_id m) o (get_or ts i void_type)
      ∙ sym (old.kind i (omega (arith, l)))

  -- what a new type follows is the number of what the old type follows
  pub record Back (x k : ℕ) : Type 0 where
    pub j : ℕ
    pub y : ℕ
    pub followed : j < followed_count c s start (old_of x)
    pub it : followed_id c s start (old_of x) j ≡ y
    pub stays : Stays m y
    pub inside : y ≤ length ts
    pub number : new_id m y ≡ followed_id c' s' start' x k

  back : (x k : ℕ) → x < type_count c' → k < followed_count c' s' start' x → Back x k
  back x k l h =
      let q = old_is x l in
      let ids : Memᴰ (followed_id c' s' start' x k) (followed_ids (type_of (nts m o ts) (new_id m (old_of x)))) =
      subst (λ (z : ℕ). Memᴰ (followed_id c' s' start' x k) (followed_ids (type_of (nts m o ts) z))) (sym q.2) (new.to x k h) in
      let r = Memᴰ.of_map (new_id m) (followed_ids (type_of ts (old_of x))) (subst (λ (l : List ℕ). Memᴰ (followed_id c' s' start' x k) l) (followed_new m o ts (old_of x) q.0 q.1) ids) in
      let f = old.from (old_of x) r.0 r.1 in
      let z = closed (old_of x) q.0 q.1 r.0 r.1 in
      record { j = f.0; y = r.0; followed = f.1; it = f.2; stays = z.0; inside = z.1; number = r.2 }

  old_inside : (x : ℕ) → x < type_count c' → old_of x < type_count c
  old_inside x l = omega (arith, (old_is x l).1, old.count)

  old_kind : (x : ℕ) → x < type_count c' → kind_at c start (old_of x) ≡ kind_at c' start' x
  old_kind x l = let q = old_is x l in sym (kinds (old_of x) q.0 q.1) ∙ ap (kind_at c' start') q.2

  -- the id with a number is one
  same_old : (x y : ℕ) → x < type_count c' → Stays m y → new_id m y ≡ x → y ≡ old_of x
  same_old x y l st e = let q = old_is x l in new_one m y (old_of x) st q.0 (e ∙ sym q.2)

  -- no cause 6
  pub no_bad : (BadReference c s start → ⊥) → BadReference c' s' start' → ⊥
  no_bad good r = go r.bad
    where
      b : Back r.x r.k
      b = back r.x r.k r.type r.followed

      go : (type_count c' ≤ followed_id c' s' start' r.x r.k) ⊎ (is_kind_among refused (kind_at c' start' (followed_id c' s' start' r.x r.k)) ≡ true) → ⊥
      go (inl q) = omega (arith, q, number_below b.y b.stays b.inside, b.number)
      go (inr q) =
          good (record {
            x = old_of r.x;
            k = b.j;
            type = old_inside r.x r.type;
            followed = b.followed;
            bad = inr (ap (λ (z : ℕ). is_kind_among refused (kind_at c start z)) b.it ∙ ap (is_kind_among refused) (sym (kinds b.y b.stays b.inside) ∙ ap (kind_at c' start') b.number) ∙ q);
          })

  -- no cause 7
  to_old : (x : ℕ) → ToProto c' s' start' x → x < type_count c' → ToProto c s start (old_of x)
  to_old _ (ends {y = x} e) l = ends (old_kind x l ∙ e)
  to_old _ (passes {y = x} e p) l = passes (ap (is_kind_among through) (old_kind x l) ∙ e) (subst (ToProto c s start) same (to_old (followed_id c' s' start' x 0) p q))
    where
      one : followed_count c' s' start' x ≡ 1
      one = one_id c' s' start' x e

      b : Back x 0
      b = back x 0 l (omega (arith, one))

      q : followed_id c' s' start' x 0 < type_count c'
      q = omega (arith, number_below b.y b.stays b.inside, b.number)

      first : b.j ≡ 0
      first = omega (arith, b.followed, one_id c s start (old_of x) (ap (is_kind_among through) (old_kind x l) ∙ e))

      same : old_of (followed_id c' s' start' x 0) ≡ followed_id c s start (old_of x) 0
      same = sym (same_old (followed_id c' s' start' x 0) b.y q b.stays b.number) ∙ sym b.it ∙ ap (followed_id c s start (old_of x)) first

  pub no_proto : (ProtoInside c s start → ⊥) → ProtoInside c' s' start' → ⊥
  no_proto none r = none (record {
    x = old_of r.x;
    k = b.j;
    type = old_inside r.x r.type;
    holder = ap (is_kind_among (3 ∷ 4 ∷ 5 ∷ [])) (old_kind r.x r.type) ∙ r.holder;
    inside = b.followed;
    leads = subst (ToProto c s start) (sym (same_old (followed_id c' s' start' r.x r.k) b.y q b.stays b.number) ∙ sym b.it) (to_old (followed_id c' s' start' r.x r.k) r.leads q);
  })
    where
      b : Back r.x r.k
      b = back r.x r.k r.type r.inside

      q : followed_id c' s' start' r.x r.k < type_count c'
      q = omega (arith, number_below b.y b.stays b.inside, b.number)

  -- no cause 8
  passing_inside : (x : ℕ) → is_kind_among passing (kind_at c' start' x) ≡ true → x < type_count c'
  unfolding is_kind_among
  passing_inside x e = go (cases_lt x (type_count c'))
    where
      go : (x < type_count c') ⊎ (type_count c' ≤ x) → x < type_count c'
      go (inl q) = q
      go (inr q) = absurd (true≢false (sym e ∙ ap (is_kind_among passing) (kind_out c' start' x q)))

  pub no_loop : (TypeLoop c s start → ⊥) → TypeLoop c' s' start' → ⊥
  no_loop none r = none (record {
    n = r.n;
    x = λ i. old_of (r.x i);
    some = r.some;
    round = ap old_of r.round;
    kinds = λ i h. ap (is_kind_among passing) (old_kind (r.x i) (at i h)) ∙ r.kinds i h;
    follows = edge;
  })
    where
      at : (i : ℕ) → i ≤ r.n → r.x i < type_count c'
      at i h = passing_inside (r.x i) (r.kinds i h)

      edge : (i : ℕ) → i < r.n → (k : ℕ) × (k < followed_count c s start (old_of (r.x i))) × (followed_id c s start (old_of (r.x i)) k ≡ old_of (r.x (suc i)))
      edge i h =
          let f = r.follows i h in
          let b = back (r.x i) f.0 (at i (omega (arith, h))) f.1 in
          (b.j, b.followed, b.it ∙ same_old (r.x (suc i)) b.y (at (suc i) h) b.stays (b.number ∙ f.2))
