-- "long enough work": what was long enough for the old section is long enough for the new one. Assumes nothing.
use Prim.Native.Nat.{ℕ, suc, ◌+◌, ◌*◌, ◌≤◌}
use native.Mathlib.Omega.{arith}
use mathlib.Core.Path.{◌≡◌, refl, ap}
use mathlib.Core.Bool.{Bool, true, false}
use mathlib.Core.List.{List, [], ◌∷◌}
use lib.ListN.{length}
use Rattle.spec_linux_btf.specs.Documentation.{Enumerator, enumerator, Enumerator64, enumerator64, int, ptr, array, struct, union, enum, fwd, typedef, volatile, const, restrict, func, func_proto, var, datasec, float, decl_tag, type_tag, enum64, Described, described}
use Rattle.spec_linux_btf.specs.Reading.{Bytes}
use Rattle.spec_opening.specs.Table as opening
use Rattle.spec_opening.specs.Table.{enumerators_in, all_enumerators, enumerators_of}
use Rattle.spec_opening.specs.Causes.{opening_number}
use Rattle.spec_opening.proofs.ReadBack.{work_long}
use Rattle.spec_cut.specs.section.Kept.{Tells}
use Rattle.spec_cut.specs.section.Renumbered.{new_id, kept_types, new_values, new_values64, renamed, renamed_all}
use Rattle.spec_cut.specs.section.Section.{types_of, old_types, new_types, new_offset, cut_section}
use Rattle.spec_cut.proofs.section.Numbers.{kept_le, kept_length, renamed_length}
use Rattle.spec_cut.proofs.reopened.Accepts as accepts

module _ (i o : ℕ → ℕ) where
  values_many : (vs : List Enumerator) → length (new_values i o vs) ≡ length vs
  values_many [] = refl
  values_many (enumerator n v ∷ vs) = ap suc (values_many vs)

  values64_many : (vs : List Enumerator64) → length (new_values64 i o vs) ≡ length vs
  values64_many [] = refl
  values64_many (enumerator64 n lo hi ∷ vs) = ap suc (values64_many vs)

  same_enumerators : (t : Described) → enumerators_in (renamed i o t) ≡ enumerators_in t
  unfolding renamed
  same_enumerators (described n f z (int v a b c d e)) = refl
  same_enumerators (described n f z (ptr v)) = refl
  same_enumerators (described n f z (array v t x k)) = refl
  same_enumerators (described n f z (struct ms)) = refl
  same_enumerators (described n f z (union ms)) = refl
  same_enumerators (described n f z (enum es)) = values_many es
  same_enumerators (described n f z (fwd v)) = refl
  same_enumerators (described n f z (typedef v)) = refl
  same_enumerators (described n f z (volatile v)) = refl
  same_enumerators (described n f z (const v)) = refl
  same_enumerators (described n f z (restrict v)) = refl
  same_enumerators (described n f z (func v)) = refl
  same_enumerators (described n f z (func_proto ps)) = refl
  same_enumerators (described n f z (var v l)) = refl
  same_enumerators (described n f z (datasec ss)) = refl
  same_enumerators (described n f z (float v)) = refl
  same_enumerators (described n f z (decl_tag v c)) = refl
  same_enumerators (described n f z (type_tag v)) = refl
  same_enumerators (described n f z (enum64 es)) = values64_many es

  all_enumerators_lem : (ts : List Described) → all_enumerators (renamed_all i o ts) ≡ all_enumerators ts
  all_enumerators_lem [] = refl
  all_enumerators_lem (t ∷ ts) = λ k. same_enumerators t k + all_enumerators_lem ts k

kept_enumerators : (m : ℕ → Bool) (x : ℕ) (ts : List Described) → all_enumerators (kept_types m x ts) ≤ all_enumerators ts
unfolding kept_types
kept_enumerators m x [] = omega arith
kept_enumerators m x (t ∷ ts) = go (m x) (kept_enumerators m (suc x) ts)
  where
    go : (q : Bool) → all_enumerators (kept_types m (suc x) ts) ≤ all_enumerators ts
        → all_enumerators (elim q as (λ z. List Described) [ true ↦ t ∷ kept_types m (suc x) ts | false ↦ kept_types m (suc x) ts ]) ≤ enumerators_in t + all_enumerators ts
    go true h = omega (arith, h)
    go false h = omega (arith, h)

module _ (p : ℕ) (s : List ℕ) (n : ℕ) (ok : opening_number p s n ≡ 0) (y : Bytes s) (given : List ℕ) (m : ℕ → Bool) (tells : Tells (types_of s) given m) (short : length (cut_section m s) ≤ 16777216) where
  types_fewer : opening.types_of (cut_section m s) ≤ opening.types_of s
  unfolding opening.types_of
  types_fewer =
      let e : length (types_of (cut_section m s)) ≡ length (new_types m s) = ap length (accepts.types_read p s n ok y given m tells short) in
      omega (arith, e, renamed_length (new_id m) (new_offset m s) (old_types m s), kept_length m (types_of s), kept_le m (length (types_of s)))

  enumerators_fewer : enumerators_of (cut_section m s) ≤ enumerators_of s
  unfolding enumerators_of
  enumerators_fewer =
      let e : all_enumerators (types_of (cut_section m s)) ≡ all_enumerators (new_types m s) = ap all_enumerators (accepts.types_read p s n ok y given m tells short) in
      omega (arith, e, all_enumerators_lem (new_id m) (new_offset m s) (old_types m s), kept_enumerators m 1 (types_of s))

  pub work_enough : 4 * (16 * opening.types_of (cut_section m s) + 8 * enumerators_of (cut_section m s) + 4096) ≤ n
  work_enough = omega (arith, types_fewer, enumerators_fewer, work_long p 0 s n ok)

  -- opening accepts the new section with as much work as the old one
  pub accepted_alike : opening_number p (cut_section m s) n ≡ 0
  accepted_alike = accepts.accepted p s n ok y given m tells short n work_enough
