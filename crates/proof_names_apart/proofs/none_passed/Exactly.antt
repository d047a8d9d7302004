-- A number is passed over exactly if the number that is taken is not the one after the holders there are. Assumes nothing.
use Prim.Native.Nat.{ℕ, suc, ◌+◌, ◌<◌}
use mathlib.Core.Path.{◌≡◌, refl, sym, subst}
use mathlib.Core.Bool.{Bool, true, false, true≢false}
use mathlib.Core.List.{List, [], ◌∷◌}
use native.Mathlib.Omega.{arith}
use lib.ListN.{length}
use lib.Dec.{eqb}
use Rattle.spec_bytes.specs.words.Words.{one_more}
use Rattle.spec_bytes.proofs.words.Laws.{more_is}
use Rattle.spec_c_dumper.specs.rules.Types.{Name, Btf}
use Rattle.spec_c_dumper.specs.rules.Names.{Space, spelled, holders}
use Rattle.spec_c_dumper.specs.names_apart.Apart.{Apart, is_name_among, taken, passing, number_for}
use Rattle.proof_names_apart.specs.none_passed.Watched.{passes_over}
use Rattle.proof_names_apart.specs.none_passed.Claims.{Exact}
use Rattle.proof_names_apart.proofs.none_passed.Lines.{passes_none}
use Rattle.proof_names_apart.proofs.passed_numbers.Search.{from}

moves : (t : ℕ → Bool) (most n : ℕ) → t n ≡ true → n < 4294967295 → n < passing t (suc most) n
unfolding passing
moves t most n e l = subst (λ (b : Bool). n < elim b as (λ z. ℕ) [ true ↦ passing t most (one_more n) | false ↦ n ]) (sym e) (omega (arith, from t most (one_more n), more_is n l))

-- what is among a list is not among none
some : (x : Name) (l : List Name) (t : ℕ → Bool) (n : ℕ) → is_name_among x l ≡ true → t n ≡ true → n < 4294967295 → n < passing t (length l) n
unfolding is_name_among
some x [] t n e f l = absurd (true≢false (sym e))
some x (y ∷ k) t n e f l = moves t (length k) n f l

module _ (B : Btf) (space : Space) (name : Name) (u : Apart) where
  abbrev h : ℕ
  h = holders u.names.ledger space name

  abbrev t : ℕ → Bool
  t n = is_name_among (spelled name n) (taken B space u)

  passed_other : h < 4294967294 → passes_over B space name u ≡ true → number_for B space name u ≡ one_more h → ⊥
  unfolding passes_over number_for
  passed_other l = go (eqb h 0)
    where
      go : (b : Bool) → elim b as (λ z. Bool) [ true ↦ false | false ↦ t (one_more h) ] ≡ true → elim b as (λ z. ℕ) [ true ↦ 1 | false ↦ passing t (length (taken B space u)) (one_more h) ] ≡ one_more h → ⊥
      go true e q = true≢false (sym e)
      go false e q =
          let up : one_more h ≡ h + 1 = more_is h (omega arith) in
          let m = some (spelled name (one_more h)) (taken B space u) t (one_more h) e e (omega (arith, up)) in
          omega (arith, m, q)

  other_passed : (number_for B space name u ≡ one_more h → ⊥) → passes_over B space name u ≡ true
  other_passed n = go (passes_over B space name u) refl
    where
      go : (b : Bool) → passes_over B space name u ≡ b → b ≡ true
      go true e = refl
      go false e = absurd (n (passes_none B space name u e))

pub exactly : Exact
exactly B space name u l = (passed_other B space name u l, other_passed B space name u)
