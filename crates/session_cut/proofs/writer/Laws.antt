-- A law for each return of the code, and for each loop its start, its turn and its end. Assumes nothing.
use Prim.Native.Nat.{ℕ, zero, suc, ◌+◌, ◌*◌, ◌/◌, ◌%◌, ◌<◌, ◌≤◌}
use native.Mathlib.Omega.{arith}
use native.Mathlib.Numerals.{add-one}
use native.Mathlib.Decide.{ℕ_discrete}
use mathlib.Core.Path.{◌≡◌, refl, sym, ◌∙◌, ap, subst}
use Rattle.std.specs.Int.{to_be_bytes, to_le_bytes}
use Rattle.std.specs.Prelude.{Ok, map}
use Rattle.std.specs.List.{range_with_len, sum, fold}
use mathlib.Core.Bool.{Bool, true, false}
use mathlib.Core.Logic.{⊎_elim}
use Rattle.std.proofs.lemmas.Bool.{cases_lt}
use Rattle.std.proofs.Common.{Option, Some, None, unwrap_or}
use mathlib.Core.List.{List, [], ◌∷◌, ◌++◌}
use lib.ListN.{length, get_or, drop, length-append}
use lib.Dec.{eqb}
use mir.Syntax.{w32}
use borrow.Author.Tests.{eq-eqb, ne_eqb, lt-ltb, le-ltb}
use Rattle.spec_bytes.specs.words.Words.{pick}
use Rattle.spec_bytes.specs.text.Text.{whole, bytes}
use Rattle.spec_bytes.specs.text.Placed.{Placed, put_out, written, put_text}
use Rattle.spec_bytes.proofs.text.TextLaws.{put_fits, went, put_seq}
use Rattle.spec_c_dumper.specs.rules.Types.{is_empty}
use Rattle.spec_type_table.specs.declared.types.TypeTable.{TypeTable}
use Rattle.spec_type_table.specs.Names.{str_at}
use Rattle.spec_type_table.specs.Records.{section_word, vlen_of}
use Rattle.btf_open_causes.specs.references.Followed.{type_count, entry_at}
use Rattle.btf_open_causes.proofs.references.First.{none_some}
use Rattle.session_cut_marks.specs.tags.Tags.{some_number}
use Rattle.session_cut_marks.specs.roles.Words.{digit_at, fixed_words, entry_words, roles, column, role, words_in, word_of}
use Rattle.session_cut_marks.proofs.roles.Laws.{words_few}
use Rattle.session_cut_marks.specs.mentioned.Names.{is_name, or_name, named_to, first_from, first_name, mentions, is_new, new_sizes, base_of, place_at, place_from, place_of, zero_bases}
use Rattle.session_cut_marks.specs.mentioned.Strings.{strings_bytes}
use Rattle.session_cut_marks.proofs.mentioned.Sizes.{strings_length}
use Rattle.session_cut_marks.specs.interned.Slots.{found, slot_place}
use Rattle.session_cut_marks.specs.interned.Filled.{zero_table, filled_of, filling_of, filling}
use Rattle.session_cut_marks.specs.interned.Right.{all_bases, Right, StringKept}
use Rattle.session_cut_marks.proofs.interned.Right.{table_over, table_length, table_bases}
use Rattle.session_cut_marks.proofs.interned.Places.{base_up}
use Rattle.session_cut_marks.proofs.interned.Found.{found_place, first_is, new_place}
use Rattle.session_cut.specs.writer.Bytes.{word_bytes, magic_bytes, head_bytes, type_size, types_size, new_word, types_bytes, all_bytes, sought, Wrote, wrote_of, fitting_written, kept_written}
use Rattle.session_cut.proofs.writer.Sizes.{head_length, types_length}

-- ---- past the types
module _ (b : TypeTable) (s start ids : List ℕ) (off x : ℕ) (l : type_count b ≤ x) where
  entry_past : entry_at b start x ≡ 0
  unfolding entry_at
  entry_past = rw (le-ltb x (type_count b) l, entry_at) (go (eqb x 0))
    where
      go : (q : Bool) → pick q 0 0 ≡ 0
      go true = refl
      go false = refl

  void_words : words_in b s 0 ≡ 3
  unfolding words_in fixed_words entry_words digit_at
  void_words = let e : 3 + 0 * vlen_of (section_word b s 4) ≡ 3 = omega arith in e

  void_silent : named_to b s 0 off 3 ≡ false
  unfolding named_to or_name is_name role roles column entry_words digit_at
  void_silent = refl

  past_silent : mentions b s start ids off x ≡ false
  unfolding mentions
  past_silent = go (eqb (get_or ids x 0) 0)
    where
      go : (q : Bool) → (elim q as (λ z. Bool) [ true ↦ false | false ↦ named_to b s (entry_at b start x) off (words_in b s (entry_at b start x)) ]) ≡ false
      go true = refl
      go false = ap (λ (e : ℕ). named_to b s e off (words_in b s e)) entry_past ∙ ap (named_to b s 0 off) void_words ∙ void_silent

slot_full : (v p : ℕ) → slot_place v ≡ Some p → v ≡ 0 → ⊥
unfolding slot_place
slot_full zero p h e = none_some h
slot_full (suc v) p h e = cc

slot_number : (v p : ℕ) → slot_place v ≡ Some p → p ≡ v / 4294967296
unfolding slot_place
slot_number zero p h = absurd (none_some h)
slot_number (suc v) p h = cc

number_of : (p : ℕ) → unwrap_or (some_number p) 0 ≡ p
unfolding some_number
number_of zero = refl
number_of (suc p) = refl

-- a new id, and 0 where there is none
pub id_or_none : (o : Option ℕ) (n : ℕ) → o ≡ some_number n → (r : ℕ) → r ≡ unwrap_or o 0 → r ≡ n
id_or_none o n e r h = h ∙ ap (λ (q : Option ℕ). unwrap_or q 0) e ∙ number_of n

place_some : (p : ℕ) → 1 ≤ p → some_number p ≡ Some p
unfolding some_number
place_some zero l = absurd (omega (arith, l))
place_some (suc p) l = refl

-- a type that is kept, by another name
pub kept_at : (ids : List ℕ) (x y : ℕ) → y ≡ x → (get_or ids y 0 ≡ 0 → ⊥) → get_or ids x 0 ≡ 0 → ⊥
kept_at ids x y i n z = n (ap (λ (k : ℕ). get_or ids k 0) i ∙ z)

-- the first word with a name, and whether there is one
module _ (b : TypeTable) (s : List ℕ) (e off n : ℕ) (r : Option ℕ) (h : r ≡ first_name b s e off n) where
  pub first_no : r ≡ None → named_to b s e off n ≡ false
  unfolding first_name
  first_no z = go (named_to b s e off n) (sym h ∙ z)
    where
      go : (q : Bool) → elim q as (λ z. Option ℕ) [ true ↦ Some (first_from b s e off 0 n) | false ↦ None ] ≡ None → q ≡ false
      go true g = cc
      go false g = refl

  pub first_some : (j : ℕ) → r ≡ Some j → (named_to b s e off n ≡ true) × (j ≡ first_from b s e off 0 n)
  unfolding first_name
  first_some j z = go (named_to b s e off n) (sym h ∙ z)
    where
      go : (q : Bool) → elim q as (λ z. Option ℕ) [ true ↦ Some (first_from b s e off 0 n) | false ↦ None ] ≡ Some j → (q ≡ true) × (j ≡ first_from b s e off 0 n)
      go true g = (refl, cc)
      go false g = cc

module _ (b : TypeTable) (s : List ℕ) where
  first_up : (e off j k : ℕ) → first_from b s e off j k ≤ j + k
  unfolding first_from
  first_up e off j zero = omega arith
  first_up e off j (suc k) = go (is_name b s e off j) (first_up e off (suc j) k)
    where
      go : (q : Bool) → first_from b s e off (suc j) k ≤ suc j + k → (elim q as (λ z. ℕ) [ true ↦ j | false ↦ first_from b s e off (suc j) k ]) ≤ j + suc k
      go true h = omega arith
      go false h = omega (arith, h)

  pub first_few : (e off n j : ℕ) → n ≡ words_in b s e → j ≡ first_from b s e off 0 n → j ≤ words_in b s e
  first_few e off n j g h = omega (arith, g, h, first_up e off 0 n)

  -- ---- what the table has for a word
  module _ (t : List ℕ) (e j r : ℕ) (k : r ≡ role (e % 32) j) where
    pub seek_other : (r ≡ 1 → ⊥) → None ≡ sought b s t e j
    unfolding sought
    seek_other n = rw (ne_eqb (role (e % 32) j) 1 (λ z. n (k ∙ z)), sought)

    module _ (z : r ≡ 1) (off : ℕ) (f : off ≡ word_of b s e j) (m : Bool) (g : m ≡ is_empty (str_at b s off)) where
      empty_is : m ≡ is_empty (str_at b s (word_of b s e j))
      empty_is = g ∙ ap (λ (u : ℕ). is_empty (str_at b s u)) f

      pub seek_empty : m ≡ true → None ≡ sought b s t e j
      unfolding sought
      seek_empty h = rw (eq-eqb (role (e % 32) j) 1 (sym k ∙ z), sought, sym empty_is ∙ h)

      pub seek_is : m ≡ false → (v : Option ℕ) → v ≡ slot_place (found b s t off) → v ≡ sought b s t e j
      unfolding sought
      seek_is h v p = p ∙ ap (λ (u : ℕ). slot_place (found b s t u)) f ∙ rw (eq-eqb (role (e % 32) j) 1 (sym k ∙ z), sought, sym empty_is ∙ h)

  -- where it has the name, the word mentions one
  record Sought (t : List ℕ) (e j p : ℕ) : Type 0 where
    name : role (e % 32) j ≡ 1
    some : is_empty (str_at b s (word_of b s e j)) ≡ false
    full : found b s t (word_of b s e j) ≡ 0 → ⊥
    place : p ≡ found b s t (word_of b s e j) / 4294967296

  sought_some : (t : List ℕ) (e j p : ℕ) → sought b s t e j ≡ Some p → Sought t e j p
  sought_some t e j p h = elim (ℕ_discrete (role (e % 32) j) 1) [ yes a ↦ go a (is_empty (str_at b s (word_of b s e j))) refl | no a ↦ absurd (none_some (seek_other t e j (role (e % 32) j) refl a ∙ h)) ]
    where
      go : role (e % 32) j ≡ 1 → (m : Bool) → is_empty (str_at b s (word_of b s e j)) ≡ m → Sought t e j p
      go a true y = absurd (none_some (seek_empty t e j (role (e % 32) j) refl a (word_of b s e j) refl true (sym y) refl ∙ h))
      go a false y =
          let q : slot_place (found b s t (word_of b s e j)) ≡ Some p = seek_is t e j (role (e % 32) j) refl a (word_of b s e j) refl false (sym y) refl (slot_place (found b s t (word_of b s e j))) refl ∙ h in
          record { name = a; some = y; full = slot_full (found b s t (word_of b s e j)) p q; place = slot_number (found b s t (word_of b s e j)) p q }

  module _ (start ids t : List ℕ) (right : Right b s start ids t) where
    pub first_sought : (x e : ℕ) → StringKept b start ids x e → (j : ℕ) (v : Option ℕ) → v ≡ sought b s t e j → (len : ℕ) → j < words_in b s e → len ≡ base_of b s start ids x + new_sizes b s start ids x e j
        → (p : ℕ) → v ≡ Some p → eqb p len ≡ is_new b s start ids x e j
    first_sought x e k j v h len l is p q =
        let f = sought_some t e j p (sym h ∙ q) in
        ap (λ (u : ℕ). eqb u len) f.place ∙ first_is b s start ids t right x e k j len l is f.name (word_of b s e j) refl f.some (found b s t (word_of b s e j)) refl f.full

    module _ (bases : List ℕ) (a : bases ≡ all_bases b s start ids) where
      pub sought_place : (e j : ℕ) (v : Option ℕ) → v ≡ sought b s t e j → (p : ℕ) → v ≡ Some p → p ≡ place_of b s start ids bases (word_of b s e j)
      sought_place e j v h p q =
          let f = sought_some t e j p (sym h ∙ q) in
          f.place ∙ found_place b s start ids t right (word_of b s e j) (found b s t (word_of b s e j)) refl f.full ∙ ap (λ (l : List ℕ). place_of b s start ids l (word_of b s e j)) (sym a)

      pub new_at : (x e : ℕ) → StringKept b start ids x e → (j len : ℕ) → j < words_in b s e → len ≡ base_of b s start ids x + new_sizes b s start ids x e j → (new : Bool) → new ≡ is_new b s start ids x e j
          → new ≡ true → len ≡ place_of b s start ids bases (word_of b s e j)
      new_at x e k j len l is new g z = new_place b s start ids t right x e k j len l is (sym g ∙ z) ∙ ap (λ (u : List ℕ). place_of b s start ids u (word_of b s e j)) (sym a)

  module _ (start ids : List ℕ) where
    base_zero : base_of b s start ids 0 ≡ 1
    unfolding base_of
    base_zero = refl

    -- the strings have the leading 0 before any type
    base_some : (x : ℕ) → 1 ≤ base_of b s start ids x
    base_some x = let z : 0 + x ≡ x = omega arith in omega (arith, base_up b s start ids 0 x, ap (base_of b s start ids) z, base_zero)

    module _ (bases : List ℕ) where
      module _ (off x : ℕ) where
        place_zero : get_or ids x 0 ≡ 0 → None ≡ some_number (place_at b s start ids bases off x)
        unfolding place_at mentions some_number
        place_zero z = rw (eq-eqb (get_or ids x 0) 0 z, mentions, place_at)

        -- past the types an entry is void's, which has no name
        place_past : type_count b ≤ x → None ≡ some_number (place_at b s start ids bases off x)
        unfolding place_at some_number
        place_past l = rw (past_silent b s start ids off x l, place_at)

        pub place_unkept : (x < type_count b → get_or ids x 0 ≡ 0) → None ≡ some_number (place_at b s start ids bases off x)
        place_unkept h = ⊎_elim (λ l. place_zero (h l)) place_past (cases_lt x (type_count b))

        module _ (kept : get_or ids x 0 ≡ 0 → ⊥) where
          pub place_none : (e : ℕ) → e ≡ entry_at b start x → (n : ℕ) → n ≡ words_in b s e → (r : Option ℕ) → r ≡ first_name b s e off n → r ≡ None → None ≡ some_number (place_at b s start ids bases off x)
          unfolding place_at mentions some_number
          place_none e f n g r h z =
              let m : named_to b s (entry_at b start x) off (words_in b s (entry_at b start x)) ≡ false
              = (λ i. named_to b s (sym f i) off ((ap (words_in b s) (sym f) ∙ sym g) i)) ∙ first_no b s e off n r h z in
              rw (ne_eqb (get_or ids x 0) 0 kept, mentions, m, place_at)

          place_is : named_to b s (entry_at b start x) off (words_in b s (entry_at b start x)) ≡ true → (e : ℕ) → e ≡ entry_at b start x → (n : ℕ) → n ≡ words_in b s e → (j : ℕ) → j ≡ first_from b s e off 0 n → (v : ℕ) → v ≡ get_or bases x 0 → (r : ℕ) → r ≡ new_sizes b s start ids x e j
              → v + r ≡ place_at b s start ids bases off x
          unfolding place_at mentions
          place_is m e f n g j h v w r p =
              (λ i. w i + (p ∙ ap (new_sizes b s start ids x e) (h ∙ ap (first_from b s e off 0) g) ∙ ap (λ (u : ℕ). new_sizes b s start ids x u (first_from b s u off 0 (words_in b s u))) f) i)
              ∙ rw (ne_eqb (get_or ids x 0) 0 kept, mentions, m, place_at)

          pub place_long : (y : ℕ) → y ≡ x → (e : ℕ) → e ≡ entry_at b start x → (n : ℕ) → n ≡ words_in b s e → (a : Option ℕ) → a ≡ first_name b s e off n → (j : ℕ) → a ≡ Some j → get_or bases x 0 ≡ base_of b s start ids x
              → (r : ℕ) → r ≡ base_of b s start ids y + new_sizes b s start ids y e j → Some r ≡ some_number (place_at b s start ids bases off x)
          place_long y i e f n g a h j z u r p =
              let first = first_some b s e off n a h j z in
              let m : named_to b s (entry_at b start x) off (words_in b s (entry_at b start x)) ≡ true
              = (λ k. named_to b s (sym f k) off ((ap (words_in b s) (sym f) ∙ sym g) k)) ∙ first.0 in
              sym (place_some r (omega (arith, p, base_some y)))
              ∙ ap some_number (p ∙ ap (λ (v : ℕ). base_of b s start ids v + new_sizes b s start ids v e j) i ∙ ap (λ (c : ℕ). c + new_sizes b s start ids x e j) (sym u) ∙ place_is m e f n g j first.1 (get_or bases x 0) refl (new_sizes b s start ids x e j) refl)

      module _ (off : ℕ) (m : Bool) (g : m ≡ is_empty (str_at b s off)) where
        pub place_first : m ≡ true → 0 ≡ place_of b s start ids bases off
        unfolding place_of
        place_first z = rw (sym g ∙ z, place_of)

        pub place_found : m ≡ false → (o : Option ℕ) → o ≡ some_number (place_from b s start ids bases off 0 (type_count b)) → (r : ℕ) → r ≡ unwrap_or o 0 → r < 4294967296 → r ≡ place_of b s start ids bases off
        unfolding place_of
        place_found z o h r k l =
            let e : r ≡ place_from b s start ids bases off 0 (type_count b) = k ∙ ap (λ (q : Option ℕ). unwrap_or q 0) h ∙ number_of (place_from b s start ids bases off 0 (type_count b)) in
            let w : r ≡ place_from b s start ids bases off 0 (type_count b) % 4294967296 = omega (arith, e, l) in
            w ∙ rw (sym g ∙ z, place_of)

      -- ---- words as they are written
      module _ (e j v w : ℕ) (k : v ≡ role (e % 32) j) (f : w ≡ word_of b s e j) where
        pub word_name_lem : v ≡ 1 → (r : ℕ) → r ≡ place_of b s start ids bases w → r ≡ new_word b s start ids bases e j
        unfolding new_word
        word_name_lem z r h = h ∙ ap (place_of b s start ids bases) f ∙ rw (eq-eqb (role (e % 32) j) 1 (sym k ∙ z), new_word)

        module _ (n : v ≡ 1 → ⊥) where
          pub word_id : v ≡ 2 → (r : ℕ) → r ≡ get_or ids w 0 → r ≡ new_word b s start ids bases e j
          unfolding new_word
          word_id z r h = h ∙ ap (λ (u : ℕ). get_or ids u 0) f ∙ rw (ne_eqb (role (e % 32) j) 1 (λ u. n (k ∙ u)), new_word, eq-eqb (role (e % 32) j) 2 (sym k ∙ z))

          pub word_plain : (v ≡ 2 → ⊥) → w ≡ new_word b s start ids bases e j
          unfolding new_word
          word_plain z = f ∙ rw (ne_eqb (role (e % 32) j) 1 (λ u. n (k ∙ u)), new_word, ne_eqb (role (e % 32) j) 2 (λ u. z (k ∙ u)))

    -- ---- the length of the types
    module _ (x v : ℕ) (k : v ≡ get_or ids x 0) where
      pub tsize_none : v ≡ 0 → 0 ≡ type_size b s start ids x 0
      unfolding type_size
      tsize_none z = rw (eq-eqb (get_or ids x 0) 0 (sym k ∙ z), type_size)

      pub tsize_is : (v ≡ 0 → ⊥) → (e : ℕ) → e ≡ entry_at b start x → (w : ℕ) → w ≡ words_in b s e → w * 4 ≡ type_size b s start ids x 0
      unfolding type_size
      tsize_is z e f w g = let n : w * 4 ≡ 0 + w * 4 = omega arith in n ∙ ap (λ (u : ℕ). 0 + u * 4) (g ∙ ap (words_in b s) f) ∙ rw (ne_eqb (get_or ids x 0) 0 (λ u. z (k ∙ u)), type_size)

    tsize_few : (x len : ℕ) → type_size b s start ids x len ≤ len + 2359296
    unfolding type_size
    tsize_few x len = go (eqb (get_or ids x 0) 0)
      where
        go : (q : Bool) → (elim q as (λ z. ℕ) [ true ↦ len | false ↦ len + words_in b s (entry_at b start x) * 4 ]) ≤ len + 2359296
        go true = omega arith
        go false = omega (arith, words_few b s (entry_at b start x))

    pub tsize_most : (x r : ℕ) → r ≡ type_size b s start ids x 0 → r ≤ 2359296
    tsize_most x r h = omega (arith, h, tsize_few x 0)

    tsize_adds : (x len : ℕ) → type_size b s start ids x 0 + len ≡ type_size b s start ids x len
    unfolding type_size
    tsize_adds x len = go (eqb (get_or ids x 0) 0)
      where
        go : (q : Bool) → (elim q as (λ z. ℕ) [ true ↦ 0 | false ↦ 0 + words_in b s (entry_at b start x) * 4 ]) + len
            ≡ elim q as (λ z. ℕ) [ true ↦ len | false ↦ len + words_in b s (entry_at b start x) * 4 ]
        go true = omega arith
        go false = omega arith

    next_size : (x : ℕ) → type_size b s start ids x (types_size b s start ids x) ≡ types_size b s start ids (x + 1)
    unfolding types_size
    next_size x = rw add-one refl

    -- the types from k on, added to those before
    sizes_on : (k n len : ℕ) → len ≡ types_size b s start ids k → fold (λ a x. a + x) len (map (λ (x : ℕ). type_size b s start ids x 0) (range_with_len k n)) ≡ types_size b s start ids (k + n)
    sizes_on k zero len e = let z : k ≡ k + 0 = omega arith in e ∙ ap (types_size b s start ids) z
    sizes_on k (suc n) len e =
        let f : len + type_size b s start ids k 0 ≡ types_size b s start ids (k + 1) = omega (arith, e, tsize_adds k (types_size b s start ids k), next_size k) in
        let z : k + 1 + n ≡ k + suc n = omega arith in
        sizes_on (k + 1) n (len + type_size b s start ids k 0) f ∙ ap (types_size b s start ids) z

    none_size : 0 ≡ types_size b s start ids 0
    unfolding types_size
    none_size = refl

    pub sizes_are : (n : ℕ) → n ≡ type_count b → sum (map (λ (x : ℕ). type_size b s start ids x 0) (range_with_len 0 n)) ≡ types_size b s start ids (type_count b)
    sizes_are n c = let z : 0 + n ≡ n = omega arith in sizes_on 0 n 0 none_size ∙ ap (types_size b s start ids) (z ∙ c)

-- ---- a word and the header
be_is : (v : ℕ) → v < 4294967296 → to_be_bytes w32 v ≡ v / 16777216 ∷ v / 65536 % 256 ∷ v / 256 % 256 ∷ v % 256 ∷ []
be_is v l = let top : v / 16777216 % 256 ≡ v / 16777216 = omega (arith, l) in ap (λ (a : ℕ). a ∷ v / 65536 % 256 ∷ v / 256 % 256 ∷ v % 256 ∷ []) top

le_is : (v : ℕ) → v < 4294967296 → to_le_bytes w32 v ≡ v % 256 ∷ v / 256 % 256 ∷ v / 65536 % 256 ∷ v / 16777216 ∷ []
le_is v l = let top : v / 16777216 % 256 ≡ v / 16777216 = omega (arith, l) in ap (λ (a : ℕ). v % 256 ∷ v / 256 % 256 ∷ v / 65536 % 256 ∷ a ∷ []) top

module _ (big : Bool) (v : ℕ) (l : v < 4294967296) (w : List ℕ → Type 0) where
  -- what holds of the bytes of std holds of these
  pub word_big : big ≡ true → (a : List ℕ) → a ≡ to_be_bytes w32 v → w a → w (word_bytes big v)
  unfolding word_bytes
  word_big e a f h = subst w (f ∙ be_is v l ∙ ap (λ (q : Bool). word_bytes q v) (sym e)) h

  pub word_little : big ≡ false → (a : List ℕ) → a ≡ to_le_bytes w32 v → w a → w (word_bytes big v)
  unfolding word_bytes
  word_little e a f h = subst w (f ∙ le_is v l ∙ ap (λ (q : Bool). word_bytes q v) (sym e)) h

-- a part of the header after another
pub head_put : (big : Bool) (f types strings : ℕ) (t : List ℕ) (p₀ : Placed) (u₀ : List ℕ) (p₁ : Placed) (u₁ : List ℕ) (p₂ : Placed) (u₂ : List ℕ) (p₃ : Placed) (u₃ : List ℕ) (p₄ : Placed) (u₄ : List ℕ) (r : Placed) (v : List ℕ)
    → put_out p₀ u₀ ≡ put_text t (Ok 0) (whole (magic_bytes big f)) → put_out p₁ u₁ ≡ put_text u₀ p₀ (whole (word_bytes big 24)) → put_out p₂ u₂ ≡ put_text u₁ p₁ (whole (word_bytes big 0))
    → put_out p₃ u₃ ≡ put_text u₂ p₂ (whole (word_bytes big types)) → put_out p₄ u₄ ≡ put_text u₃ p₃ (whole (word_bytes big types)) → put_out r v ≡ put_text u₄ p₄ (whole (word_bytes big strings))
    → put_out r v ≡ put_text t (Ok 0) (whole (head_bytes big f types strings))
unfolding head_bytes
head_put big f types strings t p₀ u₀ p₁ u₁ p₂ u₂ p₃ u₃ p₄ u₄ r v h₀ h₁ h₂ h₃ h₄ h₅ = put_seq _ _ _ _ _ _ _ _ (put_seq _ _ _ _ _ _ _ _ (put_seq _ _ _ _ _ _ _ _ (put_seq _ _ _ _ _ _ _ _ (put_seq _ _ _ _ _ _ _ _ h₀ h₁) h₂) h₃) h₄) h₅

-- ---- the whole
module _ (b : TypeTable) (s start ids : List ℕ) where
  pub all_put : (bases t : List ℕ) (types strings f : ℕ) (p : Placed) (u : List ℕ) (q : Placed) (v : List ℕ) (r : Placed) (w : List ℕ) → f ≡ get_or s 3 0 → put_out p u ≡ put_text t (Ok 0) (whole (head_bytes b.big_endian f types strings))
      → put_out q v ≡ put_text u p (whole (types_bytes b s start ids bases (type_count b))) → put_out r w ≡ put_text v q (whole (strings_bytes b s start ids (type_count b)))
      → put_out r w ≡ put_text t (Ok 0) (whole (all_bytes b s start ids bases types strings))
  unfolding all_bytes
  all_put bases t types strings f p u q v r w e h g k =
      put_seq t (Ok 0) (head_bytes b.big_endian (get_or s 3 0) types strings ++ types_bytes b s start ids bases (type_count b)) (strings_bytes b s start ids (type_count b)) q v r w
      (put_seq t (Ok 0) (head_bytes b.big_endian (get_or s 3 0) types strings) (types_bytes b s start ids bases (type_count b)) p u q v (h ∙ ap (λ (z : ℕ). put_text t (Ok 0) (whole (head_bytes b.big_endian z types strings))) e) g) k

  all_length : (bases : List ℕ) (types strings : ℕ) → types ≡ types_size b s start ids (type_count b) → strings ≡ base_of b s start ids (type_count b) → length (all_bytes b s start ids bases types strings) ≡ 24 + types + strings
  unfolding all_bytes
  all_length bases types strings e f =
      let big : Bool = b.big_endian in
      let x : List ℕ = head_bytes big (get_or s 3 0) types strings in
      let y : List ℕ = types_bytes b s start ids bases (type_count b) in
      let z : List ℕ = strings_bytes b s start ids (type_count b) in
      length-append (x ++ y) z ∙ ap (λ (k : ℕ). k + length z) (length-append x y)
      ∙ (λ i. head_length big (get_or s 3 0) types strings i + (types_length b s start ids bases (type_count b) ∙ sym e) i + (strings_length b s start ids (type_count b) ∙ sym f) i)

  -- what is written where there is room
  whole_put : (t a : List ℕ) (r : Placed) (u : List ℕ) → length a ≤ length t → put_out r u ≡ put_text t (Ok 0) (whole a) → u ≡ a ++ drop (length a) t
  unfolding written bytes
  whole_put t a r u l h =
      let z : 0 + length a ≡ length a = omega arith in
      let g : put_text t (Ok 0) (whole a) ≡ written t 0 (whole a) = put_fits t 0 (whole a) (omega (arith, l)) in
      (went u r (a ++ drop (0 + length a) t) (0 + length a) (h ∙ g)).0 ∙ ap (λ (k : ℕ). a ++ drop k t) z

  module _ (bases : List ℕ) (types strings : ℕ) (out : List ℕ) where
    pub fit_over : 16777216 < 24 + types + strings → wrote_of None out ≡ fitting_written b s start ids bases types strings out
    unfolding fitting_written
    fit_over h = rw (lt-ltb 16777216 (24 + types + strings) h, fitting_written)

    module _ (l : 24 + types + strings ≤ 16777216) where
      pub fit_short : length out < 24 + types + strings → wrote_of None out ≡ fitting_written b s start ids bases types strings out
      unfolding fitting_written
      fit_short h = rw (le-ltb 16777216 (24 + types + strings) l, fitting_written, lt-ltb (length out) (24 + types + strings) h)

      pub fit_is : 24 + types + strings ≤ length out → types ≡ types_size b s start ids (type_count b) → strings ≡ base_of b s start ids (type_count b) → (r : Placed) (u : List ℕ)
          → put_out r u ≡ put_text out (Ok 0) (whole (all_bytes b s start ids bases types strings)) → wrote_of (Some (24 + types + strings)) u ≡ fitting_written b s start ids bases types strings out
      unfolding fitting_written
      fit_is h e f r u p =
          let n = all_length bases types strings e f in
          ap (wrote_of (Some (24 + types + strings))) (whole_put out (all_bytes b s start ids bases types strings) r u (omega (arith, h, n)) p ∙ ap (λ (k : ℕ). all_bytes b s start ids bases types strings ++ drop k out) n)
          ∙ rw (le-ltb 16777216 (24 + types + strings) l, fitting_written, le-ltb (length out) (24 + types + strings) h)

  module _ (out : List ℕ) where
    pub kept_long : 16777216 < length s → wrote_of None out ≡ kept_written b s start ids out
    unfolding kept_written
    kept_long h = rw (lt-ltb 16777216 (length s) h, kept_written)

    module _ (l : length s ≤ 16777216) (strings : ℕ) (t bases : List ℕ) (h : filling_of (filled_of strings t) bases ≡ filling b s start ids zero_table zero_bases) where
      pub kept_strings : 16777216 < strings → wrote_of None out ≡ kept_written b s start ids out
      unfolding kept_written
      kept_strings a = rw (le-ltb 16777216 (length s) l, kept_written, lt-ltb 16777216 (base_of b s start ids (type_count b)) (table_over b s start ids l strings t bases h a))

      module _ (k : strings ≤ 16777216) (types : ℕ) (f : types ≡ types_size b s start ids (type_count b)) where
        few : base_of b s start ids (type_count b) ≤ 16777216
        few = omega (arith, k, table_length b s start ids l strings t bases h k)

        pub kept_types : 16777216 < types → wrote_of None out ≡ kept_written b s start ids out
        unfolding kept_written
        kept_types a = rw (le-ltb 16777216 (length s) l, kept_written, le-ltb 16777216 (base_of b s start ids (type_count b)) few, lt-ltb 16777216 (types_size b s start ids (type_count b)) (omega (arith, a, f)))

        pub kept_is : types ≤ 16777216 → (w : Wrote) → w ≡ fitting_written b s start ids bases types strings out → w ≡ kept_written b s start ids out
        unfolding kept_written
        kept_is a w p =
            p ∙ (λ i. fitting_written b s start ids (table_bases b s start ids l strings t bases h k i) (f i) (table_length b s start ids l strings t bases h k i) out)
            ∙ rw (le-ltb 16777216 (length s) l, kept_written, le-ltb 16777216 (base_of b s start ids (type_count b)) few, le-ltb 16777216 (types_size b s start ids (type_count b)) (omega (arith, a, f)))
