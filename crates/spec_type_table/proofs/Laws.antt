-- The places of the words of types and enumerators. Assumes nothing.
use Prim.Native.Nat.{ℕ, ◌+◌, ◌-◌, ◌*◌, ◌/◌, ◌%◌, ◌<◌, ◌≤◌, zero, suc}
use mathlib.Core.Path.{◌≡◌, refl, ap, ap₂, ◌∙◌}
use mathlib.Core.List.{List}
use lib.ListN.{get_or, length}
use mathlib.Core.Bool.{true, false}
use borrow.Author.Tests.{lt-ltb, le-ltb, le-leb, lt-leb, ne_eqb}
use Rattle.spec_bytes.specs.words.Words.{get_word, put_word, one_more}
use Rattle.spec_bytes.specs.words.Three.{three_in}
use Rattle.spec_type_table.specs.declared.types.TypeTable.{TypeTable}
use Rattle.spec_type_table.specs.declared.types.BtfType.{BtfType as Record}
use Rattle.spec_type_table.specs.Cells.{place_of, class_p, count_p, count_after, count_raised, with_more, get_field}
use Rattle.spec_type_table.specs.Records.{section_word, section_three, record_at, void_record, record_by_id, member_at, member_of, flag_of}
use Rattle.spec_type_table.specs.Table.{from}

module _ (t f g : ℕ) where
  pub place_type : (h : ℕ) → h < t → h * 16 + f ≡ place_of t f g h
  unfolding place_of
  place_type h l = rw (lt-ltb h t l, place_of)

  pub place_enum : (h : ℕ) → t ≤ h → t * 16 + (h - t) * 8 + g ≡ place_of t f g h
  unfolding place_of
  place_enum h l = rw (le-ltb h t l, place_of)

-- ---- one more holder of a name
one_up : (x n : ℕ) → n ≡ x → n < 4294967295 → n + 1 ≡ one_more x
unfolding one_more
one_up x n e l = rw (← e, lt-ltb n 4294967295 l)

one_full : (x n : ℕ) → n ≡ x → 4294967295 ≤ n → n ≡ one_more x
unfolding one_more
one_full x n e l = rw (← e, le-ltb n 4294967295 l)

more_up : (w : List ℕ) (i n : ℕ) → n ≡ get_word w i → n < 4294967295 → put_word w i (n + 1) ≡ with_more w i
unfolding with_more
more_up w i n e l = rw (lt-ltb (get_word w i) 4294967295 (rw e at l), with_more) (ap (λ (x : ℕ). put_word w i (x + 1)) e)

more_full : (w : List ℕ) (i n : ℕ) → n ≡ get_word w i → 4294967295 ≤ n → w ≡ with_more w i
unfolding with_more
more_full w i n e l = rw (le-ltb (get_word w i) 4294967295 (rw e at l), with_more)

pub more_counted : (w u : List ℕ) (i n : ℕ) → n ≡ get_word w i → n < 4294967295 → u ≡ put_word w i (n + 1) → (n + 1 ≡ one_more (get_word w i)) × (u ≡ with_more w i)
more_counted w u i n e l eu = (one_up (get_word w i) n e l, eu ∙ more_up w i n e l)

pub full_counted : (w : List ℕ) (i n : ℕ) → n ≡ get_word w i → 4294967295 ≤ n → (n ≡ one_more (get_word w i)) × (w ≡ with_more w i)
full_counted w i n e l = (one_full (get_word w i) n e l, more_full w i n e l)

module _ (types : ℕ) (w : List ℕ) (h p class at : ℕ) (ep : p ≡ place_of types 5 1 h) (ec : class ≡ get_word w p) (ea : at ≡ place_of types 6 2 class) where
  where_is : at ≡ count_p types (get_word w (class_p types h))
  where_is = ea ∙ ap (λ (x : ℕ). place_of types 6 2 x) (ec ∙ ap (get_word w) ep)

  pub counted_at : (r : ℕ) (u : List ℕ) → (r ≡ one_more (get_word w at)) × (u ≡ with_more w at) → (r ≡ count_after (class_p types) (count_p types) w h) × (u ≡ count_raised (class_p types) (count_p types) w h)
  unfolding count_after count_raised
  counted_at r u m = (m.0 ∙ ap (λ (x : ℕ). one_more (get_word w x)) where_is, m.1 ∙ ap (with_more w) where_is)

-- ---- records
module _ (b : TypeTable) (s : List ℕ) where
  pub three_is : (at : ℕ) → three_in b.big_endian s at ≡ section_three b s at
  unfolding three_in section_three section_word
  three_is at = refl

  -- what an array of three has at its places
  item : (at : ℕ) (w : List ℕ) → w ≡ section_three b s at → (k : ℕ) → get_or w k 0 ≡ get_or (section_three b s at) k 0
  item at w e k = ap (λ (t : List ℕ). get_or t k 0) e

  pub record_is : (at : ℕ) (w : List ℕ) → w ≡ section_three b s at → record { at = at; name_off = get_or w 0 0; info = get_or w 1 0; type_id = get_or w 2 0 } ≡ record_at b s at
  unfolding record_at section_three
  record_is at w e = λ i. record { at = at; name_off = item at w e 0 i; info = item at w e 1 i; type_id = item at w e 2 i }

  -- void is the default, word by word
  pub void_is : (r : Record) → (r.at ≡ 0) × ((r.name_off ≡ 0) × ((r.info ≡ 0) × (r.type_id ≡ 0))) → r ≡ void_record
  unfolding void_record
  void_is r (a, (n, (i, t))) = λ j. record { at = a j; name_off = n j; info = i j; type_id = t j }

  pub void_zero : (w : List ℕ) (id : ℕ) (r : Record) → id ≡ 0 → r ≡ void_record → r ≡ record_by_id b s w id
  unfolding record_by_id
  void_zero w id r z e = rw z e

  pub void_past : (w : List ℕ) (id : ℕ) (r : Record) → (id ≡ 0 → ⊥) → b.types ≤ id → r ≡ void_record → r ≡ record_by_id b s w id
  unfolding record_by_id
  void_past w id r n l e = rw (ne_eqb id 0 n, record_by_id, le-leb b.types id l) e

  pub by_id : (w : List ℕ) (id at : ℕ) (r : Record) → (id ≡ 0 → ⊥) → id < b.types → at ≡ get_field w id 0 → r ≡ record_at b s at → r ≡ record_by_id b s w id
  unfolding record_by_id
  by_id w id at r n l f e = rw (ne_eqb id 0 n, record_by_id, lt-leb b.types id l) (e ∙ ap (record_at b s) f)

  module _ (t : Record) (k p : ℕ) (w : List ℕ) (ep : p ≡ member_at t.at k) (ew : w ≡ section_three b s p) where
    at_member : (j : ℕ) → get_or w j 0 ≡ get_or (section_three b s (member_at t.at k)) j 0
    at_member = item (member_at t.at k) w (ew ∙ ap (section_three b s) ep)

    pub member_bits : flag_of t.info ≡ true → record { name_off = get_or w 0 0; type_id = get_or w 1 0; bit_offset = get_or w 2 0 % 16777216; bit_size = get_or w 2 0 / 16777216 } ≡ member_of b s t k
    unfolding member_of section_three
    member_bits f = rw (f, member_of) (λ i. record { name_off = at_member 0 i; type_id = at_member 1 i; bit_offset = at_member 2 i % 16777216; bit_size = at_member 2 i / 16777216 })

    pub member_plain : flag_of t.info ≡ false → record { name_off = get_or w 0 0; type_id = get_or w 1 0; bit_offset = get_or w 2 0; bit_size = 0 } ≡ member_of b s t k
    unfolding member_of section_three
    member_plain f = rw (f, member_of) (λ i. record { name_off = at_member 0 i; type_id = at_member 1 i; bit_offset = at_member 2 i; bit_size = 0 })

  pub value64_is : (at k p : ℕ) (w : List ℕ) → p ≡ member_at at k → w ≡ section_three b s p → get_or w 2 0 * 4294967296 + get_or w 1 0 ≡ section_word b s (member_at at k + 8) * 4294967296 + section_word b s (member_at at k + 4)
  unfolding section_three
  value64_is at k p w ep ew = let q = item (member_at at k) w (ew ∙ ap (section_three b s) ep) in ap₂ (λ (x y : ℕ). x * 4294967296 + y) (q 2) (q 1)

pub length_from : {E : Type 0} (f : ℕ → E) (k n : ℕ) → length (from f k n) ≡ n
unfolding from
length_from f k zero = refl
length_from f k (suc n) = ap suc (length_from f (k + 1) n)
