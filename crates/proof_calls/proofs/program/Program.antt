-- What the rules say that the program prints, by the number of the request for all ids. Assumes nothing.
use Prim.Native.Nat.{ℕ, zero, suc}
use mathlib.Core.Path.{◌≡◌, refl, ap, ◌∙◌}
use mathlib.Core.Bool.{true}
use mathlib.Core.List.{List, [], ◌∷◌}
use Rattle.spec_c_dumper.specs.rules.Machine.{Answer, every}
use Rattle.spec_c_dumper.specs.rules.Names.{Names}
use Rattle.spec_c_dumper.specs.rules.Types.{Btf, table_of}
use Rattle.spec_c_dumper.specs.needs.Lists.{Ls}
use Rattle.spec_c_dumper.specs.needs.Session.{Known, text_of, machine, opened, dump, answer_to as answered, dumped, printed, program}
use Rattle.btfdump_run.specs.printed.Printed.{refused_line}

-- what is printed for a number and a text
unfoldable pub prints_of : ℕ → List ℕ → List ℕ
prints_of zero t = t
prints_of (suc k) t = refused_line (suc k)

module _ (B : Btf) where
  abbrev pub asked : Answer (Ls (Known Names))
  asked = every (machine B) (table_of B) 65536 (opened B) true

  pub program_is : program B ≡ prints_of asked.number (text_of asked.sess.mach.pieces)
  unfolding program dumped answered printed prints_of refused_line
  program_is = go asked.number asked.sess.mach.known.text_len (text_of asked.sess.mach.pieces)
    where
      go : (n v : ℕ) (t : List ℕ) → printed (dump ((n, v) ∷ []) t) ≡ prints_of n t
      go zero v t = refl
      go (suc k) v t = refl

  pub program_text : asked.number ≡ 0 → program B ≡ text_of asked.sess.mach.pieces
  unfolding prints_of
  program_text e = program_is ∙ ap (λ (n : ℕ). prints_of n (text_of asked.sess.mach.pieces)) e

  pub program_refused : (k : ℕ) → asked.number ≡ suc k → program B ≡ refused_line (suc k)
  unfolding prints_of
  program_refused k e = program_is ∙ ap (λ (n : ℕ). prints_of n (text_of asked.sess.mach.pieces)) e
