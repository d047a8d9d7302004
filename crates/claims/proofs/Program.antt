-- What the program prints, over the types that the section describes. Assumes nothing.
use Prim.Native.Nat.{ℕ, zero, suc, ◌<◌}
use mathlib.Core.Path.{◌≡◌, refl}
use mathlib.Core.List.{List}
use mathlib.Core.Logic.{inl, inr, ⊎_elim}
use native.Mathlib.Omega.{arith}
use Rattle.std.proofs.lemmas.Bool.{cases_lt}
use Rattle.spec_opening.specs.Causes.{opening_number}
use Rattle.btfdump_run.specs.printed.Printed.{refused_line}
use Rattle.proof_calls.proofs.program.Claims.{runs}
use Rattle.claims.specs.Demand1.{Numbered}
use Rattle.claims.specs.Program.{Program}
use Rattle.claims.proofs.Opens.{numbered}

-- an opening has one number
module _ (p : ℕ) (s : List ℕ) (work : ℕ) where
  not_less : (m n : ℕ) → Numbered p s work m → Numbered p s work n → n < m → ⊥
  not_less m n a b l = go n refl
    where
      go : (k : ℕ) → n ≡ k → ⊥
      go zero z = b.first m (inl z) (a.own (λ w. absurd (omega (arith, w, l))))
      go (suc k) z = a.first n (inr l) (b.own (λ w. absurd (omega (arith, w, z))))

  one_number : (m n : ℕ) → Numbered p s work m → Numbered p s work n → m ≡ n
  one_number m n a b = ⊎_elim
      (λ l. absurd (not_less m n a b l))
      (λ l. ⊎_elim (λ r. absurd (not_less n m b a r)) (λ r. omega (arith, l, r)) (cases_lt m n))
      (cases_lt n m)

pub printed : Program
unfolding refused_line
printed s work text w t =
    let r = runs s work text w t in
    record {
      inside = r.inside;
      opened = λ y n. r.described y (one_number 8 s 65536 (opening_number 8 s 65536) 0 (numbered 8 s 65536 y) n);
      refused = λ y k n. r.not_opened k (one_number 8 s 65536 (opening_number 8 s 65536) (suc k) (numbered 8 s 65536 y) n);
    }
