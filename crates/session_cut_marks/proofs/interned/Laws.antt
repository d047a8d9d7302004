-- A law for each return of the code, and for each loop its start, its turn and its end. Assumes nothing.
use Prim.Native.Nat.{ℕ, zero, suc, ◌+◌, ◌*◌, ◌/◌, ◌%◌, ◌<◌, ◌≤◌}
use Rattle.std.proofs.lemmas.Bool.{not-true, not-false}
use Rattle.std.proofs.Common.{Option, Some, None}
use Rattle.std.specs.List.{find, range_with_len}
use Rattle.std.specs.Option.{option_map, unwrap_or}
use Rattle.std.proofs.lemmas.Iterator.Adapters.{option_map_id}
use native.Mathlib.Omega.{arith}
use native.Mathlib.Numerals.{add-one}
use mathlib.Core.Path.{◌≡◌, refl, sym, ◌∙◌, ap}
use mathlib.Core.Bool.{Bool, true, false, cond, not, true≢false}
use mathlib.Core.List.{List, map}
use lib.ListN.{length, get_or, set, replicate}
use lib.Dec.{eqb}
use lib.LanesLaws.{map-replicate}
use borrow.Author.Tests.{eq-eqb, ne_eqb, lt-ltb, le-ltb}
use Rattle.std.proofs.lemmas.Bool.{eqb-true}
use Rattle.std.proofs.Math.ListN.{get_or-map}
use Rattle.std.proofs.lemmas.List.{map-set, length-map}
use Rattle.spec_c_dumper.specs.rules.Types.{is_empty}
use Rattle.spec_c_dumper.specs.rules.Names.{same_bytes}
use Rattle.spec_type_table.specs.declared.types.TypeTable.{TypeTable}
use Rattle.spec_type_table.specs.Names.{str_at}
use Rattle.btf_open_causes.specs.references.Followed.{type_count, entry_at}
use Rattle.btf_open_names.specs.name_classes.Table.{hash_from}
use Rattle.session_cut_marks.specs.declared.interned.slots.Slot.{Slot}
use Rattle.session_cut_marks.specs.roles.Words.{role, words_in, word_of}
use Rattle.session_cut_marks.specs.tags.Tags.{some_number}
use Rattle.session_cut_marks.proofs.tags.Laws.{none_is, some_is}
use Rattle.session_cut_marks.specs.mentioned.Names.{is_new, new_size, zero_bases}
use Rattle.session_cut_marks.proofs.mentioned.Laws.{name_short}
use Rattle.session_cut_marks.specs.interned.Slots.{slot_word, slot_words, stops, probe, slot_of, found, slot_place}
use Rattle.session_cut_marks.specs.interned.Filled.{zero_table, Filled, filled_of, length_of, after, settled, entered, entered_to, entered_type, filled_to, lengths_to, filling_of, filling}

-- ---- the slots of the code as numbers
module _ (t : List Slot) (i : ℕ) where
  pub word_at : (v : Slot) → v ≡ get_or t i (record { off = 0; place = 0 }) → slot_word v ≡ get_or (slot_words t) i 0
  unfolding slot_word slot_words
  word_at v k = ap slot_word k ∙ sym (get_or-map slot_word t i (record { off = 0; place = 0 }))

  pub word_set : (v : Slot) → slot_words (set t i v) ≡ set (slot_words t) i (slot_word v)
  unfolding slot_words
  word_set v = map-set slot_word t i v

pub words_length : (t : List Slot) → length (slot_words t) ≡ length t
unfolding slot_words
words_length t = length-map t slot_word

module _ (v : Slot) where
  module _ (q : Bool) (g : q ≡ eqb (slot_word v) 0) where
    pub word_free : q ≡ true → slot_word v ≡ 0
    word_free h = eqb-true (slot_word v) 0 (sym g ∙ h)

    pub word_taken : q ≡ false → slot_word v ≡ 0 → ⊥
    word_taken h z = true≢false (sym (eq-eqb (slot_word v) 0 z) ∙ sym g ∙ h)

  module _ (l : v.off < 4294967296) where
    pub word_off : slot_word v % 4294967296 ≡ v.off
    unfolding slot_word
    word_off = omega (arith, l)

    word_place : v.place ≡ slot_word v / 4294967296
    unfolding slot_word
    word_place = omega (arith, l)

no_place : (n : ℕ) → some_number n ≡ None → None ≡ slot_place n
unfolding some_number slot_place
no_place zero h = refl
no_place (suc n) h = cc

some_place : (n w : ℕ) → some_number n ≡ Some w → Some (w / 4294967296) ≡ slot_place n
unfolding some_number slot_place
some_place zero w h = cc
some_place (suc n) w h = let e : w ≡ suc n = cc in ap (λ (u : ℕ). Some (u / 4294967296)) e

-- the place that a slot says
module _ (r : Option Slot) (n : ℕ) (e : option_map slot_word r ≡ some_number n) where
  pub place_none : r ≡ None → None ≡ slot_place n
  place_none z = no_place n (sym e ∙ ap (option_map slot_word) z)

  pub place_some : (v : Slot) → v.off < 4294967296 → r ≡ Some v → Some v.place ≡ slot_place n
  place_some v l z = ap Some (word_place v l) ∙ some_place n (slot_word v) (sym e ∙ ap (option_map slot_word) z)

module _ (b : TypeTable) (s t : List ℕ) where
  -- ---- slots
  module _ (name : List ℕ) (i v : ℕ) (k : v ≡ get_or t i 0) where
    pub stops_free : v ≡ 0 → true ≡ stops b s t name i
    unfolding stops
    stops_free z = rw (eq-eqb (get_or t i 0) 0 (sym k ∙ z), stops)

    pub stops_name : (v ≡ 0 → ⊥) → (r : Bool) → r ≡ same_bytes (str_at b s (v % 4294967296)) name → r ≡ stops b s t name i
    unfolding stops
    stops_name z r h = h ∙ ap (λ (u : ℕ). same_bytes (str_at b s (u % 4294967296)) name) k ∙ rw (ne_eqb (get_or t i 0) 0 (λ u. z (k ∙ u)), stops)

  -- a name's way: from its hash on, one slot after the other, and from the last to the first
  abbrev way : ℕ → ℕ → List ℕ
  way a k = map (λ (i : ℕ). i % 262144) (range_with_len a k)

  probe_way : (name : List ℕ) (k a : ℕ) → unwrap_or (find (stops b s t name) (way a k)) 262144 ≡ probe b s t name (a % 262144) k
  unfolding probe
  probe_way name zero a = refl
  probe_way name (suc k) a = go (stops b s t name (a % 262144)) (probe_way name k (a + 1))
    where
      go : (q : Bool) → unwrap_or (find (stops b s t name) (way (a + 1) k)) 262144 ≡ probe b s t name ((a + 1) % 262144) k
          → unwrap_or (cond q (Some (a % 262144)) (find (stops b s t name) (way (a + 1) k))) 262144 ≡ elim q as (λ z. ℕ) [ true ↦ a % 262144 | false ↦ probe b s t name ((a % 262144 + 1) % 262144) k ]
      go true h = refl
      go false h = let w : (a + 1) % 262144 ≡ (a % 262144 + 1) % 262144 = omega arith in h ∙ ap (λ (u : ℕ). probe b s t name u k) w

  pub slot_way : (off h : ℕ) (r : Option ℕ) → h ≡ hash_from 0 (str_at b s off) → option_map (λ y. y) r ≡ find (stops b s t (str_at b s off)) (way (h % 262144) 262144) → unwrap_or r 262144 ≡ slot_of b s t off
  unfolding slot_of
  slot_way off h r e f =
      let w : h % 262144 % 262144 ≡ h % 262144 = omega arith in
      ap (λ (o : Option ℕ). unwrap_or o 262144) (sym (option_map_id r) ∙ f) ∙ probe_way (str_at b s off) 262144 (h % 262144)
      ∙ ap (λ (u : ℕ). probe b s t (str_at b s off) u 262144) w
      ∙ ap (λ (u : ℕ). probe b s t (str_at b s off) (u % 262144) 262144) e

  module _ (off i v : ℕ) (e : i ≡ slot_of b s t off) (g : v ≡ get_or t i 0) where
    pub found_is : v ≡ found b s t off
    unfolding found
    found_is = g ∙ ap (λ (j : ℕ). get_or t j 0) e

    pub found_none : v ≡ 0 → None ≡ some_number (found b s t off)
    found_none z = none_is v z ∙ ap some_number found_is

    pub found_some : (v ≡ 0 → ⊥) → Some v ≡ some_number (found b s t off)
    found_some n = sym (some_is v n) ∙ ap some_number found_is

-- ---- the table filled

module _ (b : TypeTable) (s start ids : List ℕ) where
  module _ (x e j : ℕ) where
    module _ (q : Bool) (g : q ≡ is_new b s start ids x e j) where
      pub size_none : not q ≡ true → 0 ≡ new_size b s start ids x e j
      unfolding new_size
      size_none h = rw (sym g ∙ not-true q h, new_size)

      pub size_is : not q ≡ false → (off : ℕ) → off ≡ word_of b s e j → (r : ℕ) → r ≡ length (str_at b s off) + 1 → r ≡ new_size b s start ids x e j
      unfolding new_size
      size_is h off f r p = p ∙ ap (λ (o : ℕ). length (str_at b s o) + 1) f ∙ rw (sym g ∙ not-false q h, new_size)

    pub size_few : length s ≤ 16777216 → (r : ℕ) → r ≡ new_size b s start ids x e j → r ≤ 16777217
    unfolding new_size
    size_few l r h = omega (arith, h, go (is_new b s start ids x e j))
      where
        go : (q : Bool) → (elim q as (λ z. ℕ) [ true ↦ length (str_at b s (word_of b s e j)) + 1 | false ↦ 0 ]) ≤ 16777217
        go true = omega (arith, l, name_short b s (word_of b s e j))
        go false = omega arith

    module _ (off i len : ℕ) (t : List ℕ) where
      pub settled_plain : length t ≤ i → (r : ℕ) → r ≡ new_size b s start ids x e j → filled_of (len + r) t ≡ settled b s start ids x e j off i len t
      unfolding settled
      settled_plain l r h = ap (λ (k : ℕ). filled_of (len + k) t) h ∙ rw (le-ltb i (length t) l, settled)

      module _ (l : i < length t) where
        pub settled_old : (get_or t i 0 ≡ 0 → ⊥) → filled_of len t ≡ settled b s start ids x e j off i len t
        unfolding settled
        settled_old n = rw (lt-ltb i (length t) l, settled, ne_eqb (get_or t i 0) 0 n)

        pub settled_new : get_or t i 0 ≡ 0 → (r : ℕ) → r ≡ length (str_at b s off) + 1 → filled_of (len + r) (set t i (off + len * 4294967296)) ≡ settled b s start ids x e j off i len t
        unfolding settled
        settled_new n r h = ap (λ (k : ℕ). filled_of (len + k) (set t i (off + len * 4294967296))) h ∙ rw (lt-ltb i (length t) l, settled, eq-eqb (get_or t i 0) 0 n)

      pub settled_at : (k : ℕ) → i ≡ k → (r : Filled) → r ≡ settled b s start ids x e j off i len t → r ≡ settled b s start ids x e j off k len t
      settled_at k h r p = p ∙ ap (λ (u : ℕ). settled b s start ids x e j off u len t) h

    module _ (len : ℕ) (t : List ℕ) where
      pub entered_over : 16777216 < len → filled_of len t ≡ entered b s start ids x e j len t
      unfolding entered
      entered_over l = rw (lt-ltb 16777216 len l, entered)

      module _ (l : len ≤ 16777216) (v : ℕ) (k : v ≡ role (e % 32) j) where
        pub entered_other : (v ≡ 1 → ⊥) → filled_of len t ≡ entered b s start ids x e j len t
        unfolding entered
        entered_other n = rw (le-ltb 16777216 len l, entered, ne_eqb (role (e % 32) j) 1 (λ z. n (k ∙ z)))

        module _ (z : v ≡ 1) (off : ℕ) (f : off ≡ word_of b s e j) (m : Bool) (g : m ≡ is_empty (str_at b s off)) where
          empty_is : m ≡ is_empty (str_at b s (word_of b s e j))
          empty_is = g ∙ ap (λ (u : ℕ). is_empty (str_at b s u)) f

          pub entered_empty : m ≡ true → filled_of len t ≡ entered b s start ids x e j len t
          unfolding entered
          entered_empty h = rw (le-ltb 16777216 len l, entered, eq-eqb (role (e % 32) j) 1 (sym k ∙ z), sym empty_is ∙ h)

          pub entered_name : m ≡ false → (i : ℕ) → i ≡ slot_of b s t off → (r : Filled) → r ≡ settled b s start ids x e j off i len t → r ≡ entered b s start ids x e j len t
          unfolding entered
          entered_name h i a r p =
              p ∙ ap (λ (u : ℕ). settled b s start ids x e j off u len t) a
              ∙ ap (λ (u : ℕ). settled b s start ids x e j u (slot_of b s t u) len t) f
              ∙ rw (le-ltb 16777216 len l, entered, eq-eqb (role (e % 32) j) 1 (sym k ∙ z), sym empty_is ∙ h)

  module _ (x e len : ℕ) (t : List ℕ) where
    pub no_words : filled_of len t ≡ entered_to b s start ids x e len t 0
    unfolding entered_to
    no_words = refl

    pub more_words : (j m : ℕ) (u : List ℕ) (r : Filled) → filled_of m u ≡ entered_to b s start ids x e len t j → r ≡ entered b s start ids x e j m u → r ≡ entered_to b s start ids x e len t (j + 1)
    unfolding entered_to after
    more_words j m u r h g = rw add-one (g ∙ ap (λ (f : Filled). after f (entered b s start ids x e j)) h)

  module _ (x len : ℕ) (t : List ℕ) (v : ℕ) (k : v ≡ get_or ids x 0) where
    pub type_none : v ≡ 0 → filled_of len t ≡ entered_type b s start ids x len t
    unfolding entered_type
    type_none z = rw (eq-eqb (get_or ids x 0) 0 (sym k ∙ z), entered_type)

    pub type_is : (v ≡ 0 → ⊥) → (e : ℕ) → e ≡ entry_at b start x → (r : Filled) → r ≡ entered_to b s start ids x e len t (words_in b s e) → r ≡ entered_type b s start ids x len t
    unfolding entered_type
    type_is z e f r h = h ∙ ap (λ (u : ℕ). entered_to b s start ids x u len t (words_in b s u)) f ∙ rw (ne_eqb (get_or ids x 0) 0 (λ u. z (k ∙ u)), entered_type)

  module _ (t l : List ℕ) where
    pub none_filled : filled_of 1 t ≡ filled_to b s start ids t 0
    unfolding filled_to
    none_filled = refl

    pub no_lengths : l ≡ lengths_to b s start ids t l 0
    unfolding lengths_to
    no_lengths = refl

    module _ (x m : ℕ) (u : List ℕ) (h : filled_of m u ≡ filled_to b s start ids t x) where
      pub more_filled : (r : Filled) → r ≡ entered_type b s start ids x m u → r ≡ filled_to b s start ids t (x + 1)
      unfolding filled_to after
      more_filled r g = rw add-one (g ∙ ap (λ (f : Filled). after f (entered_type b s start ids x)) h)

      pub more_lengths : (p q : List ℕ) → p ≡ lengths_to b s start ids t l x → q ≡ set p x m → q ≡ lengths_to b s start ids t l (x + 1)
      unfolding lengths_to length_of
      more_lengths p q g k = rw add-one (k ∙ (λ i. set (g i) x (length_of (h i))))

    pub filling_long : 16777216 < length s → filling_of (filled_of 0 t) l ≡ filling b s start ids t l
    unfolding filling
    filling_long h = rw (lt-ltb 16777216 (length s) h, filling)

    pub filling_is : length s ≤ 16777216 → (n x m : ℕ) (u p : List ℕ) → n ≡ type_count b → x ≤ n → n ≤ x → filled_of m u ≡ filled_to b s start ids t x → p ≡ lengths_to b s start ids t l x
        → filling_of (filled_of m u) p ≡ filling b s start ids t l
    unfolding filling
    filling_is k n x m u p c a d h g =
        let z : x ≡ n = omega (arith, a, d) in
        (λ i. filling_of ((h ∙ ap (filled_to b s start ids t) (z ∙ c)) i) ((g ∙ ap (lengths_to b s start ids t l) (z ∙ c)) i))
        ∙ rw (le-ltb 16777216 (length s) k, filling)

-- a table of free slots has nothing in it
module _ (b : TypeTable) (s start ids : List ℕ) where
  pub from_free : (len : ℕ) (t l : List ℕ) → filling_of (filled_of len t) l ≡ filling b s start ids (slot_words (replicate 262144 (record { off = 0; place = 0 }))) zero_bases
      → filling_of (filled_of len t) l ≡ filling b s start ids zero_table zero_bases
  unfolding zero_table slot_words slot_word
  from_free len t l h = h ∙ ap (λ (u : List ℕ). filling b s start ids u zero_bases) (map-replicate slot_word 262144 (record { off = 0; place = 0 }))
