-- A section of six types, as in `btf_open_names::classify`: STRUCT "ab", TYPEDEF "ab", UNION "abc", ENUM "b" with the enumerators "ab" and
-- "abc",
-- FWD "ab", FUNC "ab". With its places in the work, finding the classes leaves work that is indexed, without a version and a count.
use Prim.Native.Nat.{ℕ, zero, suc, ◌+◌, ◌*◌, ◌/◌, ◌%◌, ◌<◌}
use mathlib.Core.Path.{◌≡◌, refl}
use mathlib.Core.List.{List, [], ◌∷◌}
use mathlib.Core.Bool.{false}
use mathlib.Core.Logic.{◌⊎◌, inl, inr}
use native.Mathlib.Omega.{arith}
use lib.ListN.{get_or, replicate}
use Rattle.spec_bytes.specs.words.Words.{get_word, put_word, word_at, word_in}
use Rattle.spec_type_table.specs.declared.types.TypeTable.{TypeTable}
use Rattle.spec_type_table.specs.Cells.{place_of, count_p}
use Rattle.spec_type_table.specs.Records.{section_word, record_at, void_record, record_by_id}
use Rattle.spec_type_table.specs.Table.{enumerator_of}
use Rattle.btf_open_names.specs.name_classes.Classes.{fill, record_p, table_classed}
use Rattle.btf_open_names.specs.name_classes.Claims.{Room}
use Rattle.proof_demands.specs.name_counts.Indexed.{value_place, Value, place_of_value, Indexed}
use Rattle.proof_demands.specs.name_counts.Alike.{Fresh}
use Rattle.proof_demands.proofs.name_counts.Classed.{placed_indexed, classed_fresh}

-- words, lowest byte first, and bytes after them
bytes : List ℕ → List ℕ → List ℕ
bytes [] l = l
bytes (v ∷ vs) l = v % 256 ∷ v / 256 % 256 ∷ v / 65536 % 256 ∷ v / 16777216 ∷ bytes vs l

pub section : List ℕ
section =
    bytes
    (125855 ∷ 24 ∷ 0 ∷ 88 ∷ 88 ∷ 11
    ∷ 1 ∷ 67108864 ∷ 0
    ∷ 1 ∷ 134217728 ∷ 1
    ∷ 4 ∷ 83886080 ∷ 0
    ∷ 2 ∷ 100663298 ∷ 4 ∷ 8 ∷ 0 ∷ 4 ∷ 1
    ∷ 8 ∷ 117440512 ∷ 0
    ∷ 1 ∷ 201326592 ∷ 1 ∷ [])
    (0 ∷ 97 ∷ 98 ∷ 0 ∷ 97 ∷ 98 ∷ 99 ∷ 0 ∷ 97 ∷ 98 ∷ 0 ∷ [])

pub context : TypeTable
context = record { ptr_sz = 8; union_as_struct = false; big_endian = false; strong_arrays = false; placing = false; types = 7; strs = 112 }

-- the places of the records and entries, and else zeros
pub work : List ℕ
work = fill (record_p 7) (λ h. get_or (0 ∷ 24 ∷ 36 ∷ 48 ∷ 60 ∷ 88 ∷ 100 ∷ 72 ∷ 80 ∷ []) h 0) (replicate 514 0) 9

-- the holders 0 to 8
nine : (P : ℕ → Type 0) → P 0 → P 1 → P 2 → P 3 → P 4 → P 5 → P 6 → P 7 → P 8 → (h : ℕ) → h < 9 → P h
nine P p0 p1 p2 p3 p4 p5 p6 p7 p8 zero l = p0
nine P p0 p1 p2 p3 p4 p5 p6 p7 p8 (suc zero) l = p1
nine P p0 p1 p2 p3 p4 p5 p6 p7 p8 (suc (suc zero)) l = p2
nine P p0 p1 p2 p3 p4 p5 p6 p7 p8 (suc (suc (suc zero))) l = p3
nine P p0 p1 p2 p3 p4 p5 p6 p7 p8 (suc (suc (suc (suc zero)))) l = p4
nine P p0 p1 p2 p3 p4 p5 p6 p7 p8 (suc (suc (suc (suc (suc zero))))) l = p5
nine P p0 p1 p2 p3 p4 p5 p6 p7 p8 (suc (suc (suc (suc (suc (suc zero)))))) l = p6
nine P p0 p1 p2 p3 p4 p5 p6 p7 p8 (suc (suc (suc (suc (suc (suc (suc zero))))))) l = p7
nine P p0 p1 p2 p3 p4 p5 p6 p7 p8 (suc (suc (suc (suc (suc (suc (suc (suc zero)))))))) l = p8
nine P p0 p1 p2 p3 p4 p5 p6 p7 p8 (suc (suc (suc (suc (suc (suc (suc (suc (suc h))))))))) l = absurd (omega arith)

two : (P : ℕ → Type 0) → P 0 → P 1 → (i : ℕ) → i < 2 → P i
two P p0 p1 zero l = p0
two P p0 p1 (suc zero) l = p1
two P p0 p1 (suc (suc i)) l = absurd (omega arith)

not_enum : {A : Type 0} (k : ℕ) → k < 6 → (k ≡ 6) ⊎ (k ≡ 19) → A
not_enum k l (inl e) = absurd (omega arith)
not_enum k l (inr e) = absurd (omega arith)

not_enum' : {A : Type 0} (k : ℕ) → 6 < k → k < 19 → (k ≡ 6) ⊎ (k ≡ 19) → A
not_enum' k l m (inl e) = absurd (omega arith)
not_enum' k l m (inr e) = absurd (omega arith)

-- of each id and i: where there is such a value, it has this
abbrev Each : (ℕ → ℕ → Type 0) → Type 0
Each P = (id i : ℕ) → Value context section work id i → P id i

-- the ENUM is type 4, its values are 0 and 1
values : (P : ℕ → ℕ → Type 0) → P 4 0 → P 4 1 → Each P
unfolding bytes section context work fill record_by_id record_at void_record section_word word_in word_at place_of get_word put_word
values P p q id i v =
    nine (λ id. Value context section work id i → P id i)
    (λ u. not_enum 0 (omega arith) u.enum)
    (λ u. not_enum 4 (omega arith) u.enum)
    (λ u. not_enum' 8 (omega arith) (omega arith) u.enum)
    (λ u. not_enum 5 (omega arith) u.enum)
    (λ u. two (P 4) p q i u.inside)
    (λ u. not_enum' 7 (omega arith) (omega arith) u.enum)
    (λ u. not_enum' 12 (omega arith) (omega arith) u.enum)
    (λ u. not_enum 0 (omega arith) u.enum)
    (λ u. not_enum 0 (omega arith) u.enum)
    id (below v.below) v
  where
    below : id < 7 → id < 9
    below l = omega arith

room : Room context 2 work
unfolding context work fill place_of put_word
room = record { numbered = omega arith; words = omega arith }

pub indexed : Indexed context 2 section (table_classed context 2 section work)
unfolding bytes section context work fill record_by_id record_at void_record section_word word_in word_at place_of get_word put_word enumerator_of value_place
indexed = placed_indexed context 2 section work room
    (values (λ id i. enumerator_of work id i < 2) (omega arith) (omega arith))
    (values (λ id i. get_word work (record_p context.types (context.types + enumerator_of work id i)) ≡ place_of_value context section work id i) refl refl)

pub fresh : Fresh context 2 section (table_classed context 2 section work)
unfolding context work fill place_of get_word put_word
fresh = classed_fresh context 2 section work (record {
  no_version = λ id l. nine (λ id. get_word work (id * 16 + 4) ≡ 0) refl refl refl refl refl refl refl refl refl id (omega arith);
  no_count = nine (λ h. get_word work (count_p 7 h) ≡ 0) refl refl refl refl refl refl refl refl refl;
})
