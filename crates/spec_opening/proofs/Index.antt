-- The index is the section's: the entry of a type is the place and the kind of its record, as the documentation reads them. So causes 6,
-- 7 and 8, which `btf_open_causes::references` states over an index, are about the section. Assumes nothing.
use Prim.Native.Nat.{ℕ, zero, suc, zero-le, ◌+◌, ◌-◌, ◌*◌, ◌/◌, ◌%◌, ◌<◌, ◌≤◌}
use mathlib.Core.Path.{◌≡◌, refl, ap, ◌∙◌, sym}
use mathlib.Core.Bool.{Bool, true, false}
use mathlib.Core.List.{List}
use mathlib.Core.Logic.{⊎_elim}
use native.Mathlib.Omega.{arith}
use native.Mathlib.Decide.{ℕ_discrete}
use lib.ListN.{length, get_or, length-set, replicate, length-replicate}
use lib.Seq.{get_or-set_same, get_or-set_other}
use lib.Dec.{ltb}
use borrow.Author.Tests.{lt-ltb, le-ltb, ne_eqb}
use Rattle.std.proofs.lemmas.Bool.{cases_lt}
use Rattle.spec_type_table.specs.Records.{section_word}
use Rattle.spec_linux_btf.specs.Places.{kind_p, size_p}
use Rattle.spec_linux_btf.specs.Section.{types_at, type_len_of, header_sound, types_sound}
use Rattle.btf_open_causes.specs.references.Followed.{type_count, entry_at, place_of, kind_at}
use Rattle.btf_open_causes.specs.header.Header.{btf_of}
use Rattle.btf_open_causes.specs.records.Pass.{count_p}
use Rattle.spec_opening.specs.Table.{described_in, types_of, record_place, record_kind, empty_index, index_for, index_of}
use Rattle.btf_open_causes.proofs.header.Headers.{order_is}
use Rattle.spec_opening.proofs.Sections.{pass_count}

zeros_length : (n : ℕ) → n ≡ 262145 → length {A = ℕ} (replicate n 0) ≡ 262145
zeros_length n e = length-replicate {A = ℕ} n 0 ∙ e

empty_length : length empty_index ≡ 262145
unfolding empty_index
empty_length = zeros_length 262145 refl

-- there are no more records than the pass may take
count_most : (w : ℕ → ℕ) (n end p : ℕ) → count_p w n end p ≤ n
unfolding count_p
count_most w zero end p = zero-le
count_most w (suc n) end p = go (count_most w n end (p + size_p w p)) (ltb p end)
  where
    go : count_p w n end (p + size_p w p) ≤ n → (t : Bool) → (elim t as (λ z. ℕ) [ true ↦ suc (count_p w n end (p + size_p w p)) | false ↦ 0 ]) ≤ suc n
    go h true = omega arith
    go h false = zero-le

module _ (s : List ℕ) where
  index_length : (n : ℕ) → length (index_for s n) ≡ 262145
  unfolding index_for
  index_length zero = empty_length
  index_length (suc n) = length-set (index_for s n) (suc n) (record_place s n * 32 + record_kind s n) ∙ index_length n

  pub index_at : (n i : ℕ) → i < n → n ≤ 262144 → get_or (index_for s n) (suc i) 0 ≡ record_place s i * 32 + record_kind s i
  unfolding index_for
  index_at zero i a b = absurd (omega arith)
  index_at (suc n) i a b =
      elim (ℕ_discrete i n) [
        | yes e ↦ ap (λ (j : ℕ). get_or (index_for s (suc n)) (suc j) 0) e
            ∙ get_or-set_same (index_for s n) (suc n) (record_place s n * 32 + record_kind s n) 0 (omega (arith, index_length n))
            ∙ ap (λ (j : ℕ). record_place s j * 32 + record_kind s j) (sym e)
        | no ne ↦ get_or-set_other (index_for s n) (suc n) (suc i) (record_place s n * 32 + record_kind s n) 0 (λ e. ne (omega arith)) ∙ index_at n i (omega arith) (omega arith)
      ]

  kind_small : (i : ℕ) → record_kind s i < 32
  unfolding record_kind kind_p
  kind_small i = omega arith

  pub types_few : header_sound s ≡ true → types_sound s ≡ true → types_of s ≤ 262145
  types_few h t =
      let b = btf_of s 8 0 0 in
      omega (arith, pass_count b s (order_is s 8 0 0) h t, count_most (section_word b s) 262144 (types_at s + type_len_of s) (types_at s))

  pub some_type : 1 ≤ types_of s
  unfolding types_of
  some_type = omega arith

  module _ (few : types_of s ≤ 262145) where
    pub index_entry : (x : ℕ) → 1 ≤ x → x < types_of s → get_or (index_of s) x 0 ≡ record_place s (x - 1) * 32 + record_kind s (x - 1)
    unfolding index_of types_of
    index_entry x a l =
        let y : x ≡ suc (x - 1) = omega arith in
        ap (λ (q : ℕ). get_or (index_of s) q 0) y ∙ index_at (length (described_in s)) (x - 1) (omega arith) (omega arith)

    pub index_place : (x : ℕ) → 1 ≤ x → x < types_of s → get_or (index_of s) x 0 / 32 ≡ record_place s (x - 1)
    index_place x a l = omega (arith, index_entry x a l, kind_small (x - 1))

    pub index_kind : (x : ℕ) → 1 ≤ x → x < types_of s → get_or (index_of s) x 0 % 32 ≡ record_kind s (x - 1)
    index_kind x a l = omega (arith, index_entry x a l, kind_small (x - 1))

    module _ (pointer modes : ℕ) where
      -- the count of the table is that of the section
      pub table_types : (btf_of s pointer modes (types_of s)).types ≡ types_of s
      unfolding btf_of
      table_types = ⊎_elim (λ l. rw (lt-ltb (types_of s) 262145 l)) (λ l. rw (le-ltb (types_of s) 262145 l) (omega arith)) (cases_lt (types_of s) 262145)

      pub table_count : type_count (btf_of s pointer modes (types_of s)) ≡ types_of s
      unfolding type_count
      table_count =
          ⊎_elim
          (λ l. rw (lt-ltb (btf_of s pointer modes (types_of s)).types 262145 (omega (arith, table_types))) table_types)
          (λ l. rw (le-ltb (btf_of s pointer modes (types_of s)).types 262145 (omega (arith, table_types))) (omega arith))
          (cases_lt (types_of s) 262145)

      entry_is : (x : ℕ) → 1 ≤ x → x < types_of s → entry_at (btf_of s pointer modes (types_of s)) (index_of s) x ≡ get_or (index_of s) x 0
      unfolding entry_at
      entry_is x a l =
          rw (ne_eqb x 0 (λ e. absurd (omega arith)), lt-ltb x (type_count (btf_of s pointer modes (types_of s))) (omega (arith, table_count)))

      -- THE THEOREMS: what `btf_open_causes::references` reads of a type is its record's place and kind in the section
      pub followed_place : (x : ℕ) → 1 ≤ x → x < types_of s → place_of (btf_of s pointer modes (types_of s)) (index_of s) x ≡ record_place s (x - 1)
      unfolding place_of
      followed_place x a l = ap (λ (q : ℕ). q / 32) (entry_is x a l) ∙ index_place x a l

      pub followed_kind : (x : ℕ) → 1 ≤ x → x < types_of s → kind_at (btf_of s pointer modes (types_of s)) (index_of s) x ≡ record_kind s (x - 1)
      unfolding kind_at
      followed_kind x a l = ap (λ (q : ℕ). q % 32) (entry_is x a l) ∙ index_kind x a l
