-- The reader of the stored programs reads the types of a section that opening accepts. Assumes nothing.
use Prim.Native.Nat.{ℕ, zero, suc, ◌+◌, ◌*◌, ◌%◌, ◌<◌, ◌≤◌}
use native.Mathlib.Omega.{arith}
use mathlib.Core.Path.{◌≡◌, refl, sym, ◌∙◌, ap, ap₂}
use mathlib.Core.Bool.{Bool, true, false, true≢false}
use mathlib.Core.List.{List, [], ◌∷◌, map}
use lib.ListN.{length, drop, get_or-eq_default}
use lib.Seq.{drop-length, drop-cons}
use borrow.Author.Tests.{lt-ltb, le-ltb}
use Rattle.spec_linux_btf.specs.Documentation.{Described}
use Rattle.spec_linux_btf.specs.Reading as reading
use Rattle.spec_linux_btf.specs.Reading.{kind, kind_table, none, shape, known, extra}
use Rattle.spec_linux_btf.specs.Places.{vlen_p, kind_p, size_p, place_from}
use Rattle.spec_linux_btf.specs.Section.{is_big_endian, word_of, type_len_of, types_at, strings_at, header_sound}
use Rattle.spec_linux_btf.proofs.Claims.{section_ends, section_inside, section_sound_at}
use Rattle.spec_c_dumper.specs.rules.Types.{BtfType, Void}
use Rattle.spec_type_table.specs.declared.types.TypeTable.{TypeTable}
use Rattle.std.specs.Prelude.{Option, Some, None}
use Rattle.spec_type_table.specs.Records.{vlen_of, kind_of, extra_of, record_at}
use Rattle.spec_type_table.specs.Table.{type_of}
use Rattle.spec_type_table.proofs.KindLaws.{by_kind}
use Rattle.spec_type_table.proofs.Documented.{words_same, section_documented}
use Rattle.btf_open_causes.proofs.header.Headers.{read4, read8, read12, read16}
use Rattle.spec_type_table.specs.Documented.{kept}
use Rattle.spec_opening.specs.Table.{described_in}
use Rattle.spec_opening.specs.Described.{type_list}
use Rattle.spec_opening.proofs.Order.{sound_none}
use Rattle.spec_opening.proofs.Claims.{HeaderIs, cause_3}
use Rattle.spec_opening.proofs.ReadBack.{header_ok, types_ok}
use Rattle.spec_cut.specs.section.Kept.{void_type}
use Rattle.spec_cut.proofs.reopened.Followed.{sound_known}
use Rattle.proof_examples.specs.vectors.Reading.{types_from, types_of}
use Rattle.proof_calls.specs.program.Claims.{number}

-- ---- how many bytes follow a record of a known kind

extra_is : (v : ℕ) → v < 65536 → (k : ℕ) → known (shape (kind k)) ≡ true → extra_of k v ≡ Some (extra (kind k) v)
unfolding extra_of kind
extra_is v l =
    by_kind (λ k. known (shape (kind k)) ≡ true → extra_of k v ≡ Some (extra (kind k) v))
    (λ h. absurd (true≢false (sym h)))
    (λ h. refl)
    (λ h. refl)
    (λ h. refl)
    (λ h. ap (λ (q : ℕ). Some q) twelve)
    (λ h. ap (λ (q : ℕ). Some q) twelve)
    (λ h. ap (λ (q : ℕ). Some q) eight)
    (λ h. refl)
    (λ h. refl)
    (λ h. refl)
    (λ h. refl)
    (λ h. refl)
    (λ h. refl)
    (λ h. ap (λ (q : ℕ). Some q) eight)
    (λ h. refl)
    (λ h. ap (λ (q : ℕ). Some q) twelve)
    (λ h. refl)
    (λ h. refl)
    (λ h. refl)
    (λ h. ap (λ (q : ℕ). Some q) twelve)
    (λ k m h. absurd (true≢false (sym h ∙ ap (λ (n : reading.Kind). known (shape n)) (get_or-eq_default kind_table none m))))
  where
    twelve : 12 * (v % 65536) ≡ v * 12
    twelve = omega arith

    eight : 8 * (v % 65536) ≡ v * 8
    eight = omega arith

-- ---- the walk over the records

module _ (b : TypeTable) (s : List ℕ) (end : ℕ) where
  -- what comes of a record at `at`, by the bytes that follow it
  abbrev goes : ℕ → ℕ → Option ℕ → List BtfType
  goes n at x = elim x [ Some j ↦ type_of b s (record_at b s at) ∷ types_from b s end n (at + 12 + j) | None ↦ [] ]

  abbrev follow : ℕ → Option ℕ
  follow at = extra_of (kind_of (record_at b s at).info) (vlen_of (record_at b s at).info)

  from_step : (n at k : ℕ) → at < end → follow at ≡ Some k → types_from b s end (suc n) at ≡ type_of b s (record_at b s at) ∷ types_from b s end n (at + 12 + k)
  unfolding types_from
  from_step n at k l e = ap (λ (o : Bool). elim o as (λ _. List BtfType) [ false ↦ [] | true ↦ goes n at (follow at) ]) (lt-ltb at end l) ∙ ap (goes n at) e

  from_end : (n at : ℕ) → end ≤ at → types_from b s end n at ≡ []
  unfolding types_from
  from_end zero at l = refl
  from_end (suc n) at l = ap (λ (o : Bool). elim o as (λ _. List BtfType) [ false ↦ [] | true ↦ goes n at (follow at) ]) (le-ltb at end l)

-- ---- the section

module _ (s : List ℕ) (y : reading.Bytes s) (ok : number s ≡ 0) where
  abbrev ts : List Described
  ts = described_in s

  hs : header_sound s ≡ true
  hs = header_ok 8 0 s 65536 ok

  abbrev place : ℕ → ℕ
  place i = place_from (word_of s) (types_at s) i

  header : HeaderIs s
  header = (cause_3 s).0 ((sound_none 8 s 65536).0 ok).1.1.0

  -- each record takes a place
  grows : (i : ℕ) → i ≤ place i
  unfolding place_from size_p
  grows zero = omega arith
  grows (suc i) = omega (arith, grows i)

  enough : length ts ≤ length s
  enough = omega (arith, grows (length ts), section_ends s y hs (types_ok 8 0 s 65536 ok), header.types_inside)

  -- the reader of proof_examples::vectors, with the strings at a place
  abbrev at : ℕ → TypeTable
  at k = record { ptr_sz = 8; union_as_struct = false; big_endian = is_big_endian s; strong_arrays = false; placing = false; types = 0; strs = k }

  module _ (k : ℕ) where
    abbrev b : TypeTable
    b = at k

    -- the bytes that follow record i
    follows_is : (i : ℕ) → i < length ts → follow b s (types_at s + type_len_of s) (place i) ≡ Some (extra (kind (kind_p (word_of s) (place i))) (vlen_p (word_of s) (place i)))
    unfolding record_at kind_p vlen_p
    follows_is i l =
        ap (λ (w : ℕ → ℕ). extra_of (kind_of (w (place i + 4))) (vlen_of (w (place i + 4)))) (words_same b s refl)
        ∙ extra_is (vlen_of (word_of s (place i + 4))) (omega arith) (kind_of (word_of s (place i + 4)))
        (sound_known (word_of s) (types_at s + type_len_of s) (place i) (section_sound_at s y hs (types_ok 8 0 s 65536 ok) i l).0)

    next_place : (i : ℕ) → place i + 12 + extra (kind (kind_p (word_of s) (place i))) (vlen_p (word_of s) (place i)) ≡ place (suc i)
    unfolding place_from size_p
    next_place i = omega arith

    reads : (m i n : ℕ) → i + m ≡ length ts → m ≤ n → types_from b s (types_at s + type_len_of s) n (place i) ≡ map (kept k s) (drop i ts)
    reads zero i n e l =
        let w : i ≡ length ts = omega (arith, e) in
        let z : place i ≡ types_at s + type_len_of s = ap place w ∙ section_ends s y hs (types_ok 8 0 s 65536 ok) in
        from_end b s (types_at s + type_len_of s) n (place i) (omega (arith, z)) ∙ sym (ap (map (kept k s)) (ap (λ (j : ℕ). drop j ts) w ∙ drop-length ts))
    reads (suc m) i zero e l = absurd (omega (arith, l))
    reads (suc m) i (suc n) e l =
        let q : i < length ts = omega (arith, e) in
        from_step b s (types_at s + type_len_of s) n (place i) _ (omega (arith, section_inside s y hs (types_ok 8 0 s 65536 ok) i q)) (follows_is i q)
        ∙ ap₂ (λ (t : BtfType) (r : List BtfType). t ∷ r) (section_documented b s refl y hs (types_ok 8 0 s 65536 ok) i void_type q)
        (ap (types_from b s (types_at s + type_len_of s) n) (next_place i) ∙ reads m (suc i) n (omega (arith, e)) (omega (arith, l)))
        ∙ sym (ap (map (kept k s)) (drop-cons ts i void_type q))

  -- the words of the header that the reader takes
  starts : word_of s 4 + word_of s 8 ≡ types_at s
  starts = ap₂ ◌+◌ (read4 s header.long) (read8 s header.long)

  ends : word_of s 4 + word_of s 8 + word_of s 12 ≡ types_at s + type_len_of s
  ends = ap₂ ◌+◌ starts (read12 s header.long)

  strings : word_of s 4 + word_of s 16 ≡ strings_at s
  strings = ap₂ ◌+◌ (read4 s header.long) (read16 s header.long)

  pub read_types : type_list s ≡ types_of s
  unfolding types_of place_from
  read_types =
      ap (λ (l : List BtfType). Void ∷ l)
      (sym (reads (strings_at s) (length ts) 0 (length s) (omega arith) enough)
      ∙ (λ i. types_from (at (sym strings i)) s (sym ends i) (length s) (sym starts i)))
