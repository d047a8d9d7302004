-- The index of the records of a section whose header and records are sound; its types and enumerators, of Types, are passed on.
use Rattle.std.specs.Prelude.{ℕ, zero, suc, ◌+◌, ◌*◌, List, length, set, replicate}
use Rattle.spec_linux_btf.specs.Places.{kind_p, place_from}
use Rattle.spec_linux_btf.specs.Section.{word_of, types_at}
unfoldable pub use Rattle.spec_opening.specs.Types.{described_in, types_of, values_in, enumerators_in, all_enumerators, enumerators_of}

-- where record i, counted from 0, stands in the section: type id i + 1
unfoldable pub record_place : List ℕ → ℕ → ℕ
record_place s i = place_from (word_of s) (types_at s) i

-- its kind
unfoldable pub record_kind : List ℕ → ℕ → ℕ
record_kind s i = kind_p (word_of s) (record_place s i)

-- 262,145 zeros: void and as many records as there may be
unfoldable pub empty_index : List ℕ
empty_index = replicate 262145 0

-- the index: entry x, from 1 on, is place * 32 + kind of the record of type x; of the first n records
unfoldable pub index_for : List ℕ → ℕ → List ℕ
index_for s zero = empty_index
index_for s (suc n) = set (index_for s n) (suc n) (record_place s n * 32 + record_kind s n)

unfoldable pub index_of : List ℕ → List ℕ
index_of s = index_for s (length (described_in s))
