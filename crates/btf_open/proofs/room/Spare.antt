-- Opening leaves the words of the table 0. Assumes nothing.
use Prim.Native.Nat.{ℕ, zero, suc, ◌+◌, ◌-◌, ◌*◌, ◌/◌, ◌<◌, ◌≤◌}
use mathlib.Core.Path.{◌≡◌, refl, ap, ◌∙◌, sym, subst}
use mathlib.Core.Bool.{Bool, true, false}
use mathlib.Core.List.{List}
use mathlib.Core.Logic.{⊎_elim, ◌≢◌}
use native.Mathlib.Omega.{arith}
use lib.ListN.{length, replicate}
use borrow.Author.Tests.{eq-eqb}
use Rattle.std.proofs.lemmas.Bool.{cases_lt}
use Rattle.spec_bytes.specs.words.Words.{get_word}
use Rattle.spec_type_table.specs.declared.types.TypeTable.{TypeTable}
use Rattle.spec_type_table.specs.Cells.{place_of}
use Rattle.spec_type_table.proofs.Laws.{place_type, place_enum}
use Rattle.btf_open_names.specs.name_classes.Claims.{Else}
use Rattle.btf_open_names.proofs.name_classes.Keys.{place_apart}
use Rattle.btf_open_names.proofs.name_classes.Ledger.{the_words}
use Rattle.btf_open_names.specs.filled_work.Left.{filled}
use Rattle.btf_open_names.proofs.filled_work.Zeros.{Other, zeros_word, before_else, other_field, other_value}
use Rattle.btf_open_causes.specs.header.Header.{btf_of}
use Rattle.spec_opening.specs.Table.{types_of, enumerators_of, index_of}
use Rattle.spec_opening.specs.Causes.{opening_number}
use Rattle.spec_opening.proofs.Index.{some_type}
use Rattle.spec_opening.proofs.ReadBack.{types_are, before, classed, room_back}
use Rattle.btf_open_names.specs.hash_table.Hashed.{first_p, later_p, all_zero, has_room}
use Rattle.btf_open_names.proofs.hash_table.Laws.{room_last}
use Rattle.btf_open.specs.room.Spare.{AlwaysRoom}

all_zero_lem : (at : ℕ → ℕ) (w : List ℕ) (n : ℕ) → ((h : ℕ) → h < n → get_word w (at h) ≡ 0) → all_zero at w n ≡ true
unfolding all_zero
all_zero_lem at w zero z = refl
all_zero_lem at w (suc n) z =
    ap (λ (t : Bool). elim t as (λ y. Bool) [ true ↦ all_zero at w n | false ↦ false ]) (eq-eqb (get_word w (at n)) 0 (z n (omega arith)))
    ∙ all_zero_lem at w n (λ h l. z h (omega arith))

other_place : (t f g h : ℕ) → f < 16 → g < 8 → f ≢ 0 → f ≢ 9 → f ≢ 10 → f ≢ 12 → g ≢ 0 → Other t (place_of t f g h)
other_place t f g h a c n0 n9 n10 n12 m =
    ⊎_elim
    (λ l. rw (← place_type t f g h l) (other_field t h f l a n0 n9 n10 n12))
    (λ l. rw (← place_enum t f g h l) (other_value t (h - t) g c m))
    (cases_lt h t)

module _ (p modes : ℕ) (s : List ℕ) (n : ℕ) (ok : opening_number p s n ≡ 0) where
  abbrev b : TypeTable
  b = btf_of s p modes (types_of s)

  abbrev e : ℕ
  e = enumerators_of s

  abbrev u : List ℕ
  u = classed p modes s n ok

  word_zero : (i : ℕ) → Else b.types (b.types + e) i → Other b.types i → get_word u i ≡ 0
  word_zero i c o =
      (the_words b e s (before p modes s n ok)).else i c
      ∙ before_else b s (index_of s) i o (replicate n 0) (omega (arith, types_are p modes s n ok, some_type s))
      ∙ zeros_word n i

  first_zero : (h : ℕ) → get_word u (first_p b.types h) ≡ 0
  first_zero h =
      let t : ℕ = b.types in
      word_zero (first_p t h)
      (λ k l. (place_apart t 11 5 5 1 (omega arith) h k, place_apart t 11 5 7 3 (omega arith) h k, place_apart t 11 5 8 4 (omega arith) h k))
      (other_place t 11 5 h (omega arith) (omega arith) (λ q. absurd (omega arith)) (λ q. absurd (omega arith)) (λ q. absurd (omega arith)) (λ q. absurd (omega arith)) (λ q. absurd (omega arith)))

  later_zero : (h : ℕ) → get_word u (later_p b.types h) ≡ 0
  later_zero h =
      let t : ℕ = b.types in
      word_zero (later_p t h)
      (λ k l. (place_apart t 13 7 5 1 (omega arith) h k, place_apart t 13 7 7 3 (omega arith) h k, place_apart t 13 7 8 4 (omega arith) h k))
      (other_place t 13 7 h (omega arith) (omega arith) (λ q. absurd (omega arith)) (λ q. absurd (omega arith)) (λ q. absurd (omega arith)) (λ q. absurd (omega arith)) (λ q. absurd (omega arith)))

  long : b.types * 16 + e * 8 ≤ length u / 4
  long = subst (λ (k : ℕ). b.types * 16 + e * 8 ≤ k / 4) (sym (the_words b e s (before p modes s n ok)).long) (room_back p modes s n ok).words

  room : has_room b.types e u ≡ true
  room =
      sym
      (room_last b.types e u (omega (arith, (room_back p modes s n ok).numbered)) long true
      (sym (all_zero_lem (first_p b.types) u (b.types + e) (λ h l. first_zero h)))
      true refl
      (sym (all_zero_lem (later_p b.types) u (b.types + e) (λ h l. later_zero h))))

pub always_room : AlwaysRoom
unfolding filled
always_room p modes s n ok = room p modes s n ok
