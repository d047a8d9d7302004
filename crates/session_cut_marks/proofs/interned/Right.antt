-- The table filled from nothing is right, and the length is that of the strings, as long as that is 16,777,216 at most. Assumes nothing.
use Prim.Native.Nat.{ℕ, zero, suc, ◌+◌, ◌-◌, ◌*◌, ◌/◌, ◌%◌, ◌<◌, ◌≤◌}
use native.Mathlib.Omega.{arith}
use native.Mathlib.Decide.{ℕ_discrete}
use mathlib.Core.Path.{◌≡◌, refl, sym, ◌∙◌, ap, subst}
use mathlib.Core.Bool.{Bool, true, false, true≢false}
use mathlib.Core.List.{List}
use lib.ListN.{length, get_or, set, length-set, length-replicate}
use lib.Seq.{get_or-set_same, get_or-set_other}
use lib.Dec.{eqb}
use borrow.Author.Tests.{eq-eqb, ne_eqb, le-ltb}
use Rattle.std.proofs.lemmas.List.{drop_all}
use Rattle.spec_c_dumper.specs.rules.Types.{is_empty}
use Rattle.spec_c_dumper.specs.rules.Names.{same_bytes}
use Rattle.spec_c_dumper.proofs.rules.Names.{bytes_self, bytes_same}
use Rattle.spec_type_table.specs.declared.types.TypeTable.{TypeTable}
use Rattle.spec_type_table.specs.Names.{up_to_zero, name_at, str_at}
use Rattle.btf_open_causes.specs.references.Followed.{type_count, entry_at}
use Rattle.btf_open_names.specs.name_classes.Table.{hash_from}
use Rattle.spec_bytes.proofs.words.Laws.{get_replicate}
use Rattle.session_cut_marks.specs.roles.Words.{role, words_in, word_of}
use Rattle.session_cut_marks.specs.mentioned.Names.{zero_bases, is_name, named_to, mentions, mentioned_to, new_size, new_sizes, record_size, base_of, bases_to, place_of}
use Rattle.session_cut_marks.specs.interned.Slots.{probe, slot_of}
use Rattle.session_cut_marks.specs.interned.Filled.{zero_table, Filled, filled_of, length_of, after, settled, entered, entered_to, entered_type, filled_to, lengths_to, Filling, filling_of, filling}
use Rattle.session_cut_marks.specs.interned.Right.{all_bases, Right}
use Rattle.session_cut_marks.proofs.interned.Laws.{settled_plain, settled_old, settled_new, entered_over, entered_other, entered_empty, entered_name, type_none, type_is}
use Rattle.session_cut_marks.proofs.interned.Probes.{free, ends_free, free_ends, ends_same, keeps, enters}
use Rattle.session_cut_marks.proofs.interned.Places.{below, above, compare, or_else, name_if_lem, is_same, named_next, seen, mentioned_next, kept_size, kept_mentions, size_new, size_old, size_other, size_empty, base_next, base_up, base_some, place_new}

or_none : (q : Bool) → or_else q false ≡ q
or_none true = refl
or_none false = refl

or_assoc : (p q r : Bool) → or_else p (or_else q r) ≡ or_else (or_else p q) r
or_assoc true q r = refl
or_assoc false q r = refl

unfoldable filled_part : Filling → Filled
filled_part (filling_of f l) = f

unfoldable lengths_part : Filling → List ℕ
lengths_part (filling_of f l) = l

module _ (b : TypeTable) (s start ids : List ℕ) (short : length s ≤ 16777216) where
  -- the way of a name, and whether it ends at a free slot
  abbrev way_of : List ℕ → List ℕ → ℕ
  way_of t name = probe b s t name (hash_from 0 name % 262144) 262144

  abbrev is_free : List ℕ → List ℕ → Bool
  is_free t name = free b s t name (hash_from 0 name % 262144) 262144

  slot_is : (t : List ℕ) (off : ℕ) → slot_of b s t off ≡ way_of t (str_at b s off)
  unfolding slot_of
  slot_is t off = refl

  -- a name that is not empty stands in the section
  inside : (off : ℕ) → is_empty (str_at b s off) ≡ false → off < 16777216
  unfolding name_at is_empty up_to_zero
  inside off h =
      elim (compare (length s) (b.strs + off)) [
        | below l ↦ absurd (true≢false (sym (ap (λ (r : List ℕ). is_empty (up_to_zero r)) (drop_all (b.strs + off) s l)) ∙ h))
        | above l ↦ omega (arith, l, short)
      ]

  -- what slot value u says, of strings that have come to len
  abbrev Says : ℕ → ℕ → Type 0
  Says len u = (u / 4294967296 < len) × ((off : ℕ) → str_at b s off ≡ str_at b s (u % 4294967296) → place_of b s start ids (all_bases b s start ids) off ≡ u / 4294967296)

  -- length and table before word j of type x
  record Good (x e j len : ℕ) (t : List ℕ) : Type 0 where
    is : len ≡ base_of b s start ids x + new_sizes b s start ids x e j
    long : length t ≡ 262144
    says : (i : ℕ) → (get_or t i 0 ≡ 0 → ⊥) → Says len (get_or t i 0)
    whole : (off : ℕ) → is_empty (str_at b s off) ≡ false → seen b s start ids off x e j ≡ true → is_free t (str_at b s off) ≡ false

  data Held (x e j len : ℕ) (t : List ℕ) : Type 0 where
    good : Good x e j len t → Held x e j len t
    over : 16777216 < len → 16777216 < base_of b s start ids x + new_sizes b s start ids x e j → Held x e j len t

  abbrev Holds : ℕ → ℕ → ℕ → Filled → Type 0
  Holds x e j (filled_of len t) = Held x e j len t

  -- the same length and the same names seen
  carry : (x e j y f k len : ℕ) (t : List ℕ) → base_of b s start ids x + new_sizes b s start ids x e j ≡ base_of b s start ids y + new_sizes b s start ids y f k
      → ((off : ℕ) → seen b s start ids off y f k ≡ seen b s start ids off x e j) → Held x e j len t → Held y f k len t
  carry x e j y f k len t h w (good g) = good record {
    is = g.is ∙ h;
    long = g.long;
    says = g.says;
    whole = λ off n a. g.whole off n (sym (w off) ∙ a);
  }
  carry x e j y f k len t h w (over a c) = over a (omega (arith, c, h))

  says_on : (len m u : ℕ) → len ≤ m → Says len u → Says m u
  says_on len m u l r = (omega (arith, l, r.0), r.1)

  seen_next : (off x e j : ℕ) → seen b s start ids off x e (suc j) ≡ or_else (seen b s start ids off x e j) (is_name b s e off j)
  unfolding seen
  seen_next off x e j = ap (or_else (mentioned_to b s start ids off x)) (named_next b s e off j) ∙ or_assoc (mentioned_to b s start ids off x) (named_to b s e off j) (is_name b s e off j)

  sizes_next : (x e j : ℕ) → new_sizes b s start ids x e (suc j) ≡ new_sizes b s start ids x e j + new_size b s start ids x e j
  unfolding new_sizes
  sizes_next x e j = refl

  -- ---- word j of type x, which is kept
  module _ (x : ℕ) (l : x < type_count b) (kept : get_or ids x 0 ≡ 0 → ⊥) (j : ℕ) (k : j < words_in b s (entry_at b start x)) (len : ℕ) (t : List ℕ) (g : Good x (entry_at b start x) j len t) where
    abbrev e : ℕ
    e = entry_at b start x

    abbrev w : ℕ
    w = word_of b s e j

    -- nothing is entered
    stay : ((off : ℕ) → is_empty (str_at b s off) ≡ false → is_name b s e off j ≡ true → is_free t (str_at b s off) ≡ false) → Good x e (suc j) (len + new_size b s start ids x e j) t
    stay h = record {
      is = omega (arith, g.is, sizes_next x e j);
      long = g.long;
      says = λ i n. says_on len (len + new_size b s start ids x e j) (get_or t i 0) (omega arith) (g.says i n);
      whole = λ off n a. go off n (seen b s start ids off x e j) refl (sym (seen_next off x e j) ∙ a);
    }
      where
        go : (off : ℕ) → is_empty (str_at b s off) ≡ false → (q : Bool) → seen b s start ids off x e j ≡ q → or_else q (is_name b s e off j) ≡ true → is_free t (str_at b s off) ≡ false
        go off n true y a = g.whole off n y
        go off n false y a = h off n a

    same_stay : new_size b s start ids x e j ≡ 0 → ((off : ℕ) → is_empty (str_at b s off) ≡ false → is_name b s e off j ≡ true → is_free t (str_at b s off) ≡ false) → Good x e (suc j) len t
    same_stay z h = let y : len + new_size b s start ids x e j ≡ len = omega (arith, z) in subst (λ (m : ℕ). Good x e (suc j) m t) y (stay h)

    module _ (small : len ≤ 16777216) (r : eqb (role (e % 32) j) 1 ≡ true) (some : is_empty (str_at b s w) ≡ false) where
      abbrev q : ℕ
      q = way_of t (str_at b s w)

      -- a name with this word's way
      same_way : (off : ℕ) → is_name b s e off j ≡ true → (way_of t (str_at b s off) ≡ q) × (is_free t (str_at b s off) ≡ is_free t (str_at b s w))
      same_way off h = let y = (name_if_lem b s e off j h).1 in (ap (way_of t) (sym y), ap (is_free t) (sym y))

      not_free : (is_free t (str_at b s w) ≡ true → ⊥) → (off : ℕ) → is_empty (str_at b s off) ≡ false → is_name b s e off j ≡ true → is_free t (str_at b s off) ≡ false
      not_free n off a h = (same_way off h).1 ∙ go (is_free t (str_at b s w)) refl
        where
          go : (c : Bool) → is_free t (str_at b s w) ≡ c → c ≡ false
          go true y = absurd (n y)
          go false y = refl

      -- it has no slot
      no_slot : 262144 ≤ q → Good x e (suc j) (len + new_size b s start ids x e j) t
      no_slot h = stay (not_free (λ y. absurd (omega (arith, h, (free_ends b s t (str_at b s w) (hash_from 0 (str_at b s w) % 262144) 262144 (omega arith) y).0))))

      module _ (m : q < 262144) where
        -- it is there: mentioned before
        old_name : (get_or t q 0 ≡ 0 → ⊥) → Good x e (suc j) len t
        old_name n = same_stay (go (seen b s start ids w x e j) refl) (not_free (λ y. n (free_ends b s t (str_at b s w) (hash_from 0 (str_at b s w) % 262144) 262144 (omega arith) y).1))
          where
            says : Says len (get_or t q 0)
            says = g.says q n

            at : place_of b s start ids (all_bases b s start ids) w ≡ get_or t q 0 / 4294967296
            at = says.1 w (sym (bytes_same (str_at b s (get_or t q 0 % 4294967296)) (str_at b s w) (ends_same b s t (str_at b s w) (hash_from 0 (str_at b s w) % 262144) 262144 m n)))

            go : (c : Bool) → seen b s start ids w x e j ≡ c → new_size b s start ids x e j ≡ 0
            go true y = size_old b s start ids x e j r some y
            go false y =
                let new = place_new b s start ids x l kept w some j k y (is_same b s e w j r refl) (omega (arith, g.is, small)) in
                absurd (omega (arith, at, says.0, new, g.is))

        -- its slot is free: mentioned for the first time
        module _ (z : get_or t q 0 ≡ 0) where
          abbrev v : ℕ
          v = w + len * 4294967296

          w_small : w < 16777216
          w_small = inside w some

          v_low : v % 4294967296 ≡ w
          v_low = omega (arith, w_small)

          v_high : v / 4294967296 ≡ len
          v_high = omega (arith, w_small)

          way_free : is_free t (str_at b s w) ≡ true
          way_free = ends_free b s t (str_at b s w) (hash_from 0 (str_at b s w) % 262144) 262144 m z

          unseen : (off : ℕ) → is_empty (str_at b s off) ≡ false → is_free t (str_at b s off) ≡ true → seen b s start ids off x e j ≡ false
          unseen off n f = go (seen b s start ids off x e j) refl
            where
              go : (c : Bool) → seen b s start ids off x e j ≡ c → c ≡ false
              go true y = absurd (true≢false (sym f ∙ g.whole off n y))
              go false y = refl

          size : new_size b s start ids x e j ≡ length (str_at b s w) + 1
          size = size_new b s start ids x e j r some (unseen w some way_free)

          says_new : Says (len + (length (str_at b s w) + 1)) v
          says_new = (omega (arith, v_high), λ off h. place off (h ∙ ap (str_at b s) v_low) ∙ sym v_high)
            where
              place : (off : ℕ) → str_at b s off ≡ str_at b s w → place_of b s start ids (all_bases b s start ids) off ≡ len
              place off h =
                  let n = ap is_empty h ∙ some in
                  place_new b s start ids x l kept off n j k (unseen off n (ap (is_free t) h ∙ way_free)) (is_same b s e off j r (sym h)) (omega (arith, g.is, small)) ∙ sym g.is

          enters_new : (off : ℕ) → is_name b s e off j ≡ true → is_free (set t q v) (str_at b s off) ≡ false
          enters_new off h =
              let y = (name_if_lem b s e off j h).1 in
              enters b s t (str_at b s off) q v z (omega (arith, m, g.long)) m (λ a. absurd (omega (arith, a, g.is, base_some b s start ids x)))
              (ap (λ (u : ℕ). same_bytes (str_at b s u) (str_at b s off)) v_low ∙ ap (λ (c : List ℕ). same_bytes c (str_at b s off)) y ∙ bytes_self (str_at b s off))
              (hash_from 0 (str_at b s off) % 262144) 262144 (same_way off h).0

          new_name : Good x e (suc j) (len + (length (str_at b s w) + 1)) (set t q v)
          new_name = record {
            is = omega (arith, g.is, sizes_next x e j, size);
            long = length-set t q v ∙ g.long;
            says = says;
            whole = λ off n a. go off n (seen b s start ids off x e j) refl (sym (seen_next off x e j) ∙ a);
          }
            where
              says : (i : ℕ) → (get_or (set t q v) i 0 ≡ 0 → ⊥) → Says (len + (length (str_at b s w) + 1)) (get_or (set t q v) i 0)
              says i n =
                  elim (ℕ_discrete i q) [
                    | yes y ↦ subst (Says (len + (length (str_at b s w) + 1))) (sym (ap (λ (c : ℕ). get_or (set t q v) c 0) y ∙ get_or-set_same t q v 0 (omega (arith, m, g.long)))) says_new
                    | no ne ↦
                        let y = get_or-set_other t q i v 0 ne in
                        subst (Says (len + (length (str_at b s w) + 1))) (sym y) (says_on len (len + (length (str_at b s w) + 1)) (get_or t i 0) (omega arith) (g.says i (λ a. n (y ∙ a))))
                  ]

              go : (off : ℕ) → is_empty (str_at b s off) ≡ false → (c : Bool) → seen b s start ids off x e j ≡ c → or_else c (is_name b s e off j) ≡ true → is_free (set t q v) (str_at b s off) ≡ false
              go off n true y a = keeps b s t (str_at b s off) q v z (hash_from 0 (str_at b s off) % 262144) 262144 (g.whole off n y)
              go off n false y a = enters_new off a

    module _ (small : len ≤ 16777216) (r : role (e % 32) j ≡ 1) (some : is_empty (str_at b s w) ≡ false) where
      r' : eqb (role (e % 32) j) 1 ≡ true
      r' = eq-eqb (role (e % 32) j) 1 r

      named : (f : Filled) → f ≡ settled b s start ids x e j w (way_of t (str_at b s w)) len t → f ≡ entered b s start ids x e j len t
      named f h = entered_name b s start ids x e j len t small (role (e % 32) j) refl r w refl (is_empty (str_at b s w)) refl some (way_of t (str_at b s w)) (sym (slot_is t w)) f h

      -- a word with a name
      word_name_lem : Holds x e (suc j) (entered b s start ids x e j len t)
      word_name_lem =
          elim (compare 262144 (way_of t (str_at b s w))) [
            | below h ↦
                subst (Holds x e (suc j)) (named (filled_of (len + new_size b s start ids x e j) t) (settled_plain b s start ids x e j w (way_of t (str_at b s w)) len t (omega (arith, h, g.long)) (new_size b s start ids x e j) refl))
                (good (no_slot small r' some h))
            | above h ↦ elim (ℕ_discrete (get_or t (way_of t (str_at b s w)) 0) 0) [
              | yes z ↦
                  subst (Holds x e (suc j))
                  (named (filled_of (len + (length (str_at b s w) + 1)) (set t (way_of t (str_at b s w)) (w + len * 4294967296))) (settled_new b s start ids x e j w (way_of t (str_at b s w)) len t (omega (arith, h, g.long)) z (length (str_at b s w) + 1) refl))
                  (good (new_name small r' some h z))
              | no n ↦
                  subst (Holds x e (suc j)) (named (filled_of len t) (settled_old b s start ids x e j w (way_of t (str_at b s w)) len t (omega (arith, h, g.long)) n))
                  (good (old_name small r' some h n))
            ]
          ]

    -- any word
    word_good : Holds x e (suc j) (entered b s start ids x e j len t)
    word_good =
        elim (compare len 16777216) [
          | above h ↦ subst (Holds x e (suc j)) (entered_over b s start ids x e j len t h) (over h (omega (arith, h, g.is, sizes_next x e j)))
          | below h ↦ elim (ℕ_discrete (role (e % 32) j) 1) [
            | no n ↦
                subst (Holds x e (suc j)) (entered_other b s start ids x e j len t h (role (e % 32) j) refl n)
                (good (same_stay (size_other b s start ids x e j (ne_eqb (role (e % 32) j) 1 n)) (λ off c a. absurd (true≢false (sym (name_if_lem b s e off j a).0 ∙ ne_eqb (role (e % 32) j) 1 n)))))
            | yes r ↦ go h r (is_empty (str_at b s w)) refl
          ]
        ]
      where
        go : len ≤ 16777216 → role (e % 32) j ≡ 1 → (m : Bool) → is_empty (str_at b s w) ≡ m → Holds x e (suc j) (entered b s start ids x e j len t)
        go h r true y =
            subst (Holds x e (suc j)) (entered_empty b s start ids x e j len t h (role (e % 32) j) refl r w refl (is_empty (str_at b s w)) refl y)
            (good (same_stay (size_empty b s start ids x e j (eq-eqb (role (e % 32) j) 1 r) y) (λ off c a. absurd (true≢false (sym y ∙ ap is_empty (name_if_lem b s e off j a).1 ∙ c)))))
        go h r false y = word_name_lem h r y

  -- ---- the words of a type, and the types
  word_step : (x : ℕ) → x < type_count b → (get_or ids x 0 ≡ 0 → ⊥) → (j : ℕ) → j < words_in b s (entry_at b start x) → (f : Filled) → Holds x (entry_at b start x) j f
      → Holds x (entry_at b start x) (suc j) (after f (entered b s start ids x (entry_at b start x) j))
  unfolding after
  word_step x l kept j k (filled_of len t) (good g) = word_good x l kept j k len t g
  word_step x l kept j k (filled_of len t) (over a c) =
      subst (Holds x (entry_at b start x) (suc j)) (entered_over b s start ids x (entry_at b start x) j len t a) (over a (omega (arith, c, sizes_next x (entry_at b start x) j)))

  words_step : (x : ℕ) → x < type_count b → (get_or ids x 0 ≡ 0 → ⊥) → (len : ℕ) (t : List ℕ) → Held x (entry_at b start x) 0 len t → (n : ℕ) → n ≤ words_in b s (entry_at b start x)
      → Holds x (entry_at b start x) n (entered_to b s start ids x (entry_at b start x) len t n)
  unfolding entered_to
  words_step x l kept len t h zero k = h
  words_step x l kept len t h (suc n) k = word_step x l kept n (omega (arith, k)) (entered_to b s start ids x (entry_at b start x) len t n) (words_step x l kept len t h n (omega (arith, k)))

  seen_start : (off x e : ℕ) → seen b s start ids off x e 0 ≡ mentioned_to b s start ids off x
  unfolding seen named_to
  seen_start off x e = or_none (mentioned_to b s start ids off x)

  sizes_start : (x e : ℕ) → new_sizes b s start ids x e 0 ≡ 0
  unfolding new_sizes
  sizes_start x e = refl

  -- after the last word of a kept type
  type_kept : (x : ℕ) → (get_or ids x 0 ≡ 0 → ⊥) → (f : Filled) → Holds x (entry_at b start x) (words_in b s (entry_at b start x)) f → Holds (suc x) 0 0 f
  unfolding seen
  type_kept x kept (filled_of len t) h =
      carry x (entry_at b start x) (words_in b s (entry_at b start x)) (suc x) 0 0 len t (omega (arith, base_next b s start ids x, kept_size b s start ids x kept, sizes_start (suc x) 0))
      (λ off. seen_start off (suc x) 0 ∙ mentioned_next b s start ids off x ∙ ap (or_else (mentioned_to b s start ids off x)) (kept_mentions b s start ids off x kept)) h

  not_kept : (off x : ℕ) → get_or ids x 0 ≡ 0 → mentions b s start ids off x ≡ false
  unfolding mentions
  not_kept off x z = ap (λ (q : Bool). elim q as (λ u. Bool) [ true ↦ false | false ↦ named_to b s (entry_at b start x) off (words_in b s (entry_at b start x)) ]) (eq-eqb (get_or ids x 0) 0 z)

  no_size : (x : ℕ) → get_or ids x 0 ≡ 0 → record_size b s start ids x ≡ 0
  unfolding record_size
  no_size x z = ap (λ (q : Bool). elim q as (λ u. ℕ) [ true ↦ 0 | false ↦ new_sizes b s start ids x (entry_at b start x) (words_in b s (entry_at b start x)) ]) (eq-eqb (get_or ids x 0) 0 z)

  type_step : (x : ℕ) → x < type_count b → (f : Filled) → Holds x 0 0 f → Holds (suc x) 0 0 (after f (entered_type b s start ids x))
  unfolding after
  type_step x l (filled_of len t) h =
      elim (ℕ_discrete (get_or ids x 0) 0) [
        | yes z ↦
            subst (Holds (suc x) 0 0) (type_none b s start ids x len t (get_or ids x 0) refl z)
            (carry x 0 0 (suc x) 0 0 len t (omega (arith, base_next b s start ids x, no_size x z, sizes_start x 0, sizes_start (suc x) 0))
            (λ off. seen_start off (suc x) 0 ∙ mentioned_next b s start ids off x ∙ ap (or_else (mentioned_to b s start ids off x)) (not_kept off x z) ∙ or_none (mentioned_to b s start ids off x) ∙ sym (seen_start off x 0)) h)
        | no n ↦
            let e : ℕ = entry_at b start x in
            let begun : Held x e 0 len t = carry x 0 0 x e 0 len t (omega (arith, sizes_start x 0, sizes_start x e)) (λ off. seen_start off x e ∙ sym (seen_start off x 0)) h in
            subst (Holds (suc x) 0 0) (type_is b s start ids x len t (get_or ids x 0) refl n e refl (entered_to b s start ids x e len t (words_in b s e)) refl)
            (type_kept x n (entered_to b s start ids x e len t (words_in b s e)) (words_step x l n len t begun (words_in b s e) (omega arith)))
      ]

  first : Held 0 0 0 1 zero_table
  unfolding zero_table base_of new_sizes mentioned_to
  first = good record {
    is = refl;
    long = length-replicate {A = ℕ} 262144 0;
    says = λ i n. absurd (n (get_replicate {A = ℕ} 0 262144 i));
    whole = λ off n h. absurd (true≢false (sym h ∙ seen_start off 0 0));
  }

  types_step : (x : ℕ) → x ≤ type_count b → Holds x 0 0 (filled_to b s start ids zero_table x)
  unfolding filled_to
  types_step zero l = first
  types_step (suc x) l = type_step x (omega (arith, l)) (filled_to b s start ids zero_table x) (types_step x (omega (arith, l)))

  -- ---- the lengths before the types
  length_is : (x : ℕ) → x ≤ type_count b → base_of b s start ids (type_count b) ≤ 16777216 → length_of (filled_to b s start ids zero_table x) ≡ base_of b s start ids x % 4294967296
  unfolding length_of
  length_is x l small = go (filled_to b s start ids zero_table x) (types_step x l)
    where
      up : base_of b s start ids x ≤ 16777216
      up = let y : x + (type_count b - x) ≡ type_count b = omega (arith, l) in omega (arith, base_up b s start ids x (type_count b - x), ap (base_of b s start ids) y, small)

      go : (f : Filled) → Holds x 0 0 f → length_of f ≡ base_of b s start ids x % 4294967296
      go (filled_of len t) (good g) = omega (arith, g.is, sizes_start x 0, up)
      go (filled_of len t) (over a c) = absurd (omega (arith, c, sizes_start x 0, up))

  lengths_are : base_of b s start ids (type_count b) ≤ 16777216 → (l : List ℕ) (n : ℕ) → n ≤ type_count b → lengths_to b s start ids zero_table l n ≡ bases_to b s start ids l n
  unfolding lengths_to bases_to
  lengths_are small l zero k = refl
  lengths_are small l (suc n) k = λ i. set (lengths_are small l n (omega (arith, k)) i) n (length_is n (omega (arith, k)) small i)

  -- ---- THE TABLE OF ALL TYPES. len, t, l: what the code comes to
  module _ (len : ℕ) (t l : List ℕ) (h : filling_of (filled_of len t) l ≡ filling b s start ids zero_table zero_bases) where
    filling_is : filling b s start ids zero_table zero_bases ≡ filling_of (filled_to b s start ids zero_table (type_count b)) (lengths_to b s start ids zero_table zero_bases (type_count b))
    unfolding filling
    filling_is = ap (λ (q : Bool). elim q as (λ z. Filling) [ true ↦ filling_of (filled_of 0 zero_table) zero_bases | false ↦ filling_of (filled_to b s start ids zero_table (type_count b)) (lengths_to b s start ids zero_table zero_bases (type_count b)) ]) (le-ltb 16777216 (length s) short)

    held : Held (type_count b) 0 0 len t
    unfolding filled_part
    held = subst (Holds (type_count b) 0 0) (sym (ap filled_part (h ∙ filling_is))) (types_step (type_count b) (omega arith))

    pub table_over : 16777216 < len → 16777216 < base_of b s start ids (type_count b)
    table_over a = go held
      where
        go : Held (type_count b) 0 0 len t → 16777216 < base_of b s start ids (type_count b)
        go (good g) = omega (arith, a, g.is, sizes_start (type_count b) 0)
        go (over c d) = omega (arith, d, sizes_start (type_count b) 0)

    module _ (small : len ≤ 16777216) where
      good_held : Good (type_count b) 0 0 len t
      good_held = go held
        where
          go : Held (type_count b) 0 0 len t → Good (type_count b) 0 0 len t
          go (good g) = g
          go (over c d) = absurd (omega (arith, c, small))

      pub table_length : len ≡ base_of b s start ids (type_count b)
      table_length = omega (arith, good_held.is, sizes_start (type_count b) 0)

      pub table_bases : l ≡ all_bases b s start ids
      unfolding lengths_part
      table_bases = ap lengths_part (h ∙ filling_is) ∙ lengths_are (omega (arith, small, table_length)) zero_bases (type_count b) (omega arith)

      pub table_right : Right b s start ids t
      table_right = record { short = short; small = omega (arith, small, table_length); long = good_held.long; places = λ i n. (good_held.says i n).1 }
