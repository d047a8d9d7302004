-- Openings that differ in bit 3 of the modes only leave the same table: the lists of taken numbers leave all that it reads alone. Assumes nothing but that
-- opening accepts the section.
use Prim.Native.Nat.{ℕ, ◌+◌, ◌-◌, ◌*◌, ◌/◌, ◌%◌, ◌≤◌}
use mathlib.Core.Path.{◌≡◌, ap, ◌∙◌, sym}
use mathlib.Core.List.{List}
use mathlib.Core.Logic.{⊎_elim}
use native.Mathlib.Omega.{arith}
use lib.ListN.{replicate}
use lib.Dec.{eqb}
use Rattle.std.proofs.lemmas.Bool.{cases_lt}
use Rattle.spec_bytes.specs.words.Words.{get_word}
use Rattle.spec_type_table.specs.declared.types.TypeTable.{TypeTable}
use Rattle.spec_type_table.specs.Cells.{get_field}
use Rattle.spec_type_table.specs.Table.{btf_of}
use Rattle.spec_type_table.proofs.Frame.{table_same}
use Rattle.btf_open_causes.specs.header.Header.{btf_of as settings_of}
use Rattle.btf_open_names.specs.filled_work.Takers.{takers_in}
use Rattle.btf_open_names.proofs.filled_work.Frame.{Unlisted, takers_word, field_unlisted, nine_unlisted, entry_unlisted}
use Rattle.btf_open_names.specs.filled_work.Left.{filled}
use Rattle.spec_opening.specs.Table.{enumerators_of, index_of}
use Rattle.spec_opening.specs.Opened.{work_of}
use Rattle.spec_opening.specs.Causes.{opening_number}
use Rattle.proof_demands.specs.demands.Table.{header_of, opened_table}
use Rattle.proof_demands.proofs.demands.Described.{count_described, count_is}

-- bits 0 to 2
union_same : (m k : ℕ) → m % 8 ≡ k % 8 → m % 2 ≡ k % 2
union_same m k e = omega arith

arrays_same : (m k : ℕ) → m % 8 ≡ k % 8 → m / 2 % 2 ≡ k / 2 % 2
arrays_same m k e = omega arith

placing_same : (m k : ℕ) → m % 8 ≡ k % 8 → m / 4 % 2 ≡ k / 4 % 2
placing_same m k e = omega arith

header_same : (p m k : ℕ) (s : List ℕ) → m % 8 ≡ k % 8 → header_of p m s ≡ header_of p k s
unfolding settings_of
header_same p m k s e = λ i. record {
  ptr_sz = (header_of p m s).ptr_sz;
  union_as_struct = eqb (union_same m k e i) 1;
  big_endian = (header_of p m s).big_endian;
  strong_arrays = eqb (arrays_same m k e i) 1;
  placing = eqb (placing_same m k e i) 1;
  types = (header_of p m s).types;
  strs = (header_of p m s).strs;
}

-- the table that the work spells with the lists and without
module _ (modes : ℕ) (b : TypeTable) (e : ℕ) (s w : List ℕ) (some : 1 ≤ b.types) where
  word : (i : ℕ) → Unlisted b.types (b.types + e) i → get_word (takers_in modes b e s w) i ≡ get_word w i
  word i z = takers_word modes b e s w some i z

  place_kept : (j : ℕ) → get_field (takers_in modes b e s w) j 0 ≡ get_field w j 0
  place_kept j = ⊎_elim
      (λ l. word (j * 16 + 0) (field_unlisted b.types (b.types + e) j 0 l (omega arith) (λ q. omega arith) (λ q. omega arith) (λ q. omega arith)))
      (λ l. let i : b.types * 16 + (j - b.types) * 2 * 8 ≡ j * 16 + 0 = omega arith in
      ap (get_word (takers_in modes b e s w)) (sym i) ∙ word (b.types * 16 + (j - b.types) * 2 * 8) (entry_unlisted b.types (b.types + e) ((j - b.types) * 2)) ∙ ap (get_word w) i)
      (cases_lt j b.types)

  pub unlisted_table : btf_of b s (takers_in modes b e s w) ≡ btf_of b s w
  unlisted_table = table_same (takers_in modes b e s w) w b s place_kept
      (λ j. word (j * 16 + 9) (nine_unlisted b.types (b.types + e) j))
      (λ j l. word (j * 16 + 10) (field_unlisted b.types (b.types + e) j 10 l (omega arith) (λ q. omega arith) (λ q. omega arith) (λ q. omega arith)))

module _ (p m k : ℕ) (s : List ℕ) (n : ℕ) (ok : opening_number p s n ≡ 0) (e : m % 8 ≡ k % 8) where
  -- before the lists
  abbrev plainly : TypeTable → List ℕ
  plainly b = filled b s (index_of s) (enumerators_of s) (replicate n 0)

  some_types : (modes : ℕ) → 1 ≤ (header_of p modes s).types
  unfolding btf_of
  some_types modes = omega (arith, count_described p modes s n ok, count_is p modes s n ok)

  unlisted : (modes : ℕ) → opened_table p modes s n ≡ btf_of (header_of p modes s) s (plainly (header_of p modes s))
  unfolding work_of
  unlisted modes = unlisted_table modes (header_of p modes s) (enumerators_of s) s (plainly (header_of p modes s)) (some_types modes)

  pub tables_same : opened_table p m s n ≡ opened_table p k s n
  tables_same = unlisted m ∙ ap (λ (b : TypeTable). btf_of b s (plainly b)) (header_same p m k s e) ∙ sym (unlisted k)
