-- What is found in a right table: the place of a name, and whether a word mentions it for the first time. Assumes nothing.
use Prim.Native.Nat.{ℕ, ◌+◌, ◌-◌, ◌/◌, ◌%◌, ◌<◌, ◌≤◌}
use native.Mathlib.Omega.{arith}
use mathlib.Core.Path.{◌≡◌, refl, sym, ◌∙◌, ap, subst}
use mathlib.Core.Bool.{Bool, true, false, true≢false}
use mathlib.Core.List.{List}
use lib.ListN.{get_or}
use lib.Dec.{eqb}
use borrow.Author.Tests.{eq-eqb, ne_eqb}
use Rattle.spec_c_dumper.specs.rules.Types.{is_empty}
use Rattle.spec_c_dumper.proofs.rules.Names.{bytes_same}
use Rattle.spec_type_table.specs.declared.types.TypeTable.{TypeTable}
use Rattle.spec_type_table.specs.Names.{str_at}
use Rattle.btf_open_causes.specs.references.Followed.{type_count, entry_at}
use Rattle.btf_open_names.specs.name_classes.Table.{hash_from}
use Rattle.session_cut_marks.specs.roles.Words.{role, words_in, word_of}
use Rattle.std.proofs.lemmas.List.{get_or_past}
use Rattle.session_cut_marks.specs.mentioned.Names.{is_new, new_sizes, base_of, place_of}
use Rattle.session_cut_marks.specs.interned.Slots.{probe, slot_of, found}
use Rattle.session_cut_marks.specs.interned.Right.{all_bases, Right, StringKept}
use Rattle.session_cut_marks.proofs.interned.Probes.{ends_same}
use Rattle.session_cut_marks.proofs.interned.Places.{below, above, compare, seen, is_same, new_other, new_empty, new_first, new_later, place_new, place_old, base_is, base_up, length_small}

module _ (b : TypeTable) (s start ids t : List ℕ) (right : Right b s start ids t) where
  pub found_place : (off v : ℕ) → v ≡ found b s t off → (v ≡ 0 → ⊥) → v / 4294967296 ≡ place_of b s start ids (all_bases b s start ids) off
  unfolding found slot_of
  found_place off v e n = ap (λ (u : ℕ). u / 4294967296) e ∙ sym (right.places i m off (sym (bytes_same (str_at b s (get_or t i 0 % 4294967296)) (str_at b s off) (ends_same b s t (str_at b s off) (hash_from 0 (str_at b s off) % 262144) 262144 in_table m))))
    where
      i : ℕ
      i = probe b s t (str_at b s off) (hash_from 0 (str_at b s off) % 262144) 262144

      m : get_or t i 0 ≡ 0 → ⊥
      m z = n (e ∙ z)

      in_table : i < 262144
      in_table = elim (compare 262144 i) [ below h ↦ absurd (m (get_or_past t i 0 (omega (arith, h, right.long)))) | above h ↦ h ]

  -- the length before a kept type
  pub base_kept : (x len : ℕ) (bases : List ℕ) → x < type_count b → bases ≡ all_bases b s start ids → len ≡ get_or bases x 0 → len ≡ base_of b s start ids x
  base_kept x len bases l e h =
      let y : x + (type_count b - x) ≡ type_count b = omega (arith, l) in
      h ∙ ap (λ (r : List ℕ). get_or r x 0) e ∙ base_is b s start ids x l (omega (arith, base_up b s start ids x (type_count b - x), ap (base_of b s start ids) y, right.small))

  module _ (x : ℕ) (l : x < type_count b) (kept : get_or ids x 0 ≡ 0 → ⊥) (j len : ℕ) where
    -- with the entry of type x
    first_entry : j < words_in b s (entry_at b start x) → len ≡ base_of b s start ids x + new_sizes b s start ids x (entry_at b start x) j → role (entry_at b start x % 32) j ≡ 1 → (off : ℕ) → off ≡ word_of b s (entry_at b start x) j
        → is_empty (str_at b s off) ≡ false → (v : ℕ) → v ≡ found b s t off → (v ≡ 0 → ⊥) → eqb (v / 4294967296) len ≡ is_new b s start ids x (entry_at b start x) j
    first_entry k is r off f some v h n = go (seen b s start ids w x e j) refl
      where
        e : ℕ
        e = entry_at b start x

        w : ℕ
        w = word_of b s e j

        some' : is_empty (str_at b s w) ≡ false
        some' = ap (λ (o : ℕ). is_empty (str_at b s o)) (sym f) ∙ some

        at : v / 4294967296 ≡ place_of b s start ids (all_bases b s start ids) w
        at = found_place off v h n ∙ ap (place_of b s start ids (all_bases b s start ids)) f

        r' : eqb (role (e % 32) j) 1 ≡ true
        r' = eq-eqb (role (e % 32) j) 1 r

        few : base_of b s start ids x + new_sizes b s start ids x e j ≤ 16777216
        few = length_small b s start ids right.small x l kept j (omega (arith, k))

        go : (q : Bool) → seen b s start ids w x e j ≡ q → eqb (v / 4294967296) len ≡ is_new b s start ids x e j
        go true y =
            let p = place_old b s start ids x l kept w some' j (omega (arith, k)) y few in
            ne_eqb (v / 4294967296) len (λ z. absurd (omega (arith, z, at, p, is))) ∙ sym (new_later b s start ids x e j r' some' y)
        go false y =
            let p = place_new b s start ids x l kept w some' j k y (is_same b s e w j r' refl) few in
            eq-eqb (v / 4294967296) len (at ∙ p ∙ sym is) ∙ sym (new_first b s start ids x e j r' some' y)

    new_entry : j < words_in b s (entry_at b start x) → len ≡ base_of b s start ids x + new_sizes b s start ids x (entry_at b start x) j → is_new b s start ids x (entry_at b start x) j ≡ true
        → len ≡ place_of b s start ids (all_bases b s start ids) (word_of b s (entry_at b start x) j)
    new_entry k is h = go (eqb (role (e % 32) j) 1) refl (is_empty (str_at b s w)) refl (seen b s start ids w x e j) refl
      where
        e : ℕ
        e = entry_at b start x

        w : ℕ
        w = word_of b s e j

        go : (r : Bool) → eqb (role (e % 32) j) 1 ≡ r → (m : Bool) → is_empty (str_at b s w) ≡ m → (q : Bool) → seen b s start ids w x e j ≡ q → len ≡ place_of b s start ids (all_bases b s start ids) w
        go false r m some q y = absurd (true≢false (sym h ∙ new_other b s start ids x e j r))
        go true r true some q y = absurd (true≢false (sym h ∙ new_empty b s start ids x e j r some))
        go true r false some true y = absurd (true≢false (sym h ∙ new_later b s start ids x e j r some y))
        go true r false some false y = is ∙ sym (place_new b s start ids x l kept w some j k y (is_same b s e w j r refl) (length_small b s start ids right.small x l kept j (omega (arith, k))))

  module _ (x e : ℕ) (k : StringKept b start ids x e) (j len : ℕ) where
    -- THE PLACE OF A NEW NAME is the length so far
    pub new_place : j < words_in b s e → len ≡ base_of b s start ids x + new_sizes b s start ids x e j → is_new b s start ids x e j ≡ true → len ≡ place_of b s start ids (all_bases b s start ids) (word_of b s e j)
    new_place =
        subst
        (λ (u : ℕ). j < words_in b s u → len ≡ base_of b s start ids x + new_sizes b s start ids x u j → is_new b s start ids x u j ≡ true → len ≡ place_of b s start ids (all_bases b s start ids) (word_of b s u j))
        (sym k.entry) (new_entry x k.below k.kept j len)

    pub length_few : j ≤ words_in b s e → len ≡ base_of b s start ids x + new_sizes b s start ids x e j → len ≤ 16777216
    length_few =
        subst (λ (u : ℕ). j ≤ words_in b s u → len ≡ base_of b s start ids x + new_sizes b s start ids x u j → len ≤ 16777216) (sym k.entry)
        (λ l is. omega (arith, is, length_small b s start ids right.small x k.below k.kept j l))

    -- A NAME IS NEW where its place is the length so far
    pub first_is : j < words_in b s e → len ≡ base_of b s start ids x + new_sizes b s start ids x e j → role (e % 32) j ≡ 1 → (off : ℕ) → off ≡ word_of b s e j → is_empty (str_at b s off) ≡ false
        → (v : ℕ) → v ≡ found b s t off → (v ≡ 0 → ⊥) → eqb (v / 4294967296) len ≡ is_new b s start ids x e j
    first_is =
        subst
        (λ (u : ℕ). j < words_in b s u → len ≡ base_of b s start ids x + new_sizes b s start ids x u j → role (u % 32) j ≡ 1 → (off : ℕ) → off ≡ word_of b s u j → is_empty (str_at b s off) ≡ false
        → (v : ℕ) → v ≡ found b s t off → (v ≡ 0 → ⊥) → eqb (v / 4294967296) len ≡ is_new b s start ids x u j)
        (sym k.entry) (first_entry x k.below k.kept j len)
