-- Laws for reading a declaration back from C. Assumes nothing.
use Prim.Native.Nat.{ℕ, ◌≤◌, ◌<◌}
use mathlib.Core.Path.{◌≡◌, ap, sym, subst, ◌∙◌}
use native.Mathlib.Omega.{arith}
use mathlib.Core.List.{List}
use lib.ListN.{length}
use borrow.Author.Tests.{lt-ltb, le-ltb, ne_eqb}
use Rattle.std.specs.Prelude.{Option, Some, None, IfSome}
use Rattle.session_declaration_reader.specs.bases.Items.{placed}
use Rattle.session_declaration_reader.specs.reader.Encoding.{read_into, count_told}
use Rattle.spec_c_calls.specs.Declarations.{numbered, read_export}

module _ (s t : List ℕ) where
  pub read_short : length t < 1536 → placed 1095216660480 t ≡ read_export s t
  unfolding read_export
  read_short h = rw (lt-ltb (length t) 1536 h, read_export)

  module _ (h : 1536 ≤ length t) (r : Option ℕ) (t' : List ℕ) (e : (count_told r t' ≡ read_into s t) × IfSome r (λ n. 0 < n)) where
    long : (x : Option ℕ) → r ≡ x → read_export s t ≡ numbered (count_told x t')
    unfolding read_export
    long x z = rw (le-ltb (length t) 1536 h, read_export) (ap numbered (sym e.0 ∙ ap (λ (y : Option ℕ). count_told y t') z))

    pub read_refused : r ≡ None → placed 81604378624 t' ≡ read_export s t
    unfolding numbered
    read_refused z = sym (long None z)

    pub read_good : (n : ℕ) → r ≡ Some n → placed n t' ≡ read_export s t
    unfolding numbered
    read_good n z =
        let some : 0 < n = subst (λ (y : Option ℕ). IfSome y (λ n. 0 < n)) z e.1 in
        let more : n ≡ 0 → ⊥ = λ q. omega (arith, q) in
        sym (long (Some n) z ∙ rw (ne_eqb n 0 more, numbered))
