-- Bounds of every table: the count of types, how many ids a type follows, and that nothing stands past the count.
use Rattle.std.specs.Prelude.{ℕ, ◌+◌, ◌≤◌, ◌≡◌, Bool, List, ltb, eqb}
use Rattle.std.proofs.Math.Path.{refl}
use Rattle.std.proofs.Math.Bool.{true, false}
use native.Mathlib.Omega.{arith}
use Rattle.std.proofs.Math.Decide.{ℕ_discrete}
use borrow.Author.Tests.{le-ltb, ltb-true, ne_eqb}
use Rattle.spec_bytes.specs.words.Words.{pick}
use Rattle.spec_type_table.specs.declared.types.TypeTable.{TypeTable}
use Rattle.spec_type_table.specs.Records.{section_word, vlen_of}
use Rattle.btf_open_causes.specs.references.Followed.{is_kind_among, type_count, entry_at, place_of, kind_at, composites, targets}
use Rattle.btf_open_causes.specs.references.Followed.{count_for}
use Rattle.btf_open_causes.specs.references.Followed.{count_at, followed_count}

pub count_fits : (b : TypeTable) → type_count b ≤ 262145
unfolding type_count
count_fits b = go (ltb b.types 262145) refl
  where
    go : (t : Bool) → ltb b.types 262145 ≡ t → pick t b.types 262145 ≤ 262145
    go true e = omega (arith, ltb-true b.types 262145 e)
    go false e = omega arith

module _ (b : TypeTable) (start : List ℕ) (x : ℕ) where
  pub entry_void : x ≡ 0 → 0 ≡ entry_at b start x
  unfolding entry_at
  entry_void e = rw e

  pub entry_out : (x ≡ 0 → ⊥) → (n : ℕ) → n ≡ type_count b → n ≤ x → 0 ≡ entry_at b start x
  unfolding entry_at
  entry_out m n e h = rw (entry_at, ne_eqb x 0 m, ← e, le-ltb x n h)

  -- void, and what lies past the table, is of kind 0
  pub kind_out : type_count b ≤ x → kind_at b start x ≡ 0
  unfolding kind_at
  kind_out h = elim (ℕ_discrete x 0) [ yes e ↦ rw (← entry_void e) | no n ↦ rw (← entry_out n (type_count b) refl h) ]

module _ (b : TypeTable) (s : List ℕ) where
  count_few : (kind at : ℕ) → count_at b s kind at ≤ 65536
  unfolding count_at count_for
  count_few kind at = go (is_kind_among targets kind) (is_kind_among composites kind) (eqb kind 13)
    where
      go : (t u w : Bool)
          → pick t 1 (pick u (vlen_of (section_word b s (at + 4))) (pick w (vlen_of (section_word b s (at + 4)) + 1) 0)) ≤ 65536
      go true u w = omega arith
      go false true w = omega arith
      go false false true = omega arith
      go false false false = omega arith

  module _ (start : List ℕ) (x : ℕ) where
    pub followed_few : followed_count b s start x ≤ 65536
    unfolding followed_count
    followed_few = count_few (kind_at b start x) (place_of b start x)

    pub followed_none : type_count b ≤ x → followed_count b s start x ≡ 0
    unfolding followed_count count_at count_for is_kind_among
    followed_none h = rw (kind_out b start x h)
