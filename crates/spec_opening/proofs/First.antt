-- The first of causes 2 to 4 that holds: a law for each return of section_cause. Assumes nothing.
use Prim.Native.Nat.{ℕ, ◌<◌, ◌≤◌}
use mathlib.Core.Path.{◌≡◌, ◌∙◌, sym}
use mathlib.Core.Bool.{Bool, true, false, not}
use mathlib.Core.List.{List, [], ◌∷◌}
use lib.ListN.{length}
use borrow.Author.Tests.{lt-ltb, le-ltb, not-false}
use Rattle.spec_linux_btf.specs.Section.{header_sound}
use Rattle.btf_open_causes.specs.header.Header.{bad_strings}
use Rattle.spec_opening.specs.Causes.{cause2, cause3, cause4, next, first_of}
use Rattle.btf_open_causes.proofs.header.Headers.{strings_decided}

module _ (s : List ℕ) where
  pub section_2 : 16777216 < length s → 2 ≡ next (first_of (cause2 s ∷ cause3 s ∷ cause4 s ∷ []))
  unfolding first_of cause2
  section_2 h = rw (lt-ltb 16777216 (length s) h)

  module _ (l : length s ≤ 16777216) where
    e2 : cause2 s ≡ false
    unfolding cause2
    e2 = le-ltb 16777216 (length s) l

    pub section_3 : (r : Bool) → r ≡ not (header_sound s) → r ≡ true → 3 ≡ next (first_of (cause2 s ∷ cause3 s ∷ cause4 s ∷ []))
    unfolding first_of cause3
    section_3 r d f = rw (e2, sym d ∙ f)

    module _ (r : Bool) (d : r ≡ not (header_sound s)) (f : r ≡ false) where
      e3 : cause3 s ≡ false
      unfolding cause3
      e3 = sym d ∙ f

      e4 : (u : Bool) → u ≡ bad_strings s → cause4 s ≡ u
      unfolding cause4
      e4 u g = sym (g ∙ strings_decided s (not-false (header_sound s) (sym d ∙ f)))

      pub section_4 : (u : Bool) → u ≡ bad_strings s → u ≡ true → 4 ≡ next (first_of (cause2 s ∷ cause3 s ∷ cause4 s ∷ []))
      unfolding first_of
      section_4 u g k = rw (e2, e3, e4 u g ∙ k)

      pub section_0 : (u : Bool) → u ≡ bad_strings s → u ≡ false → 0 ≡ next (first_of (cause2 s ∷ cause3 s ∷ cause4 s ∷ []))
      unfolding first_of
      section_0 u g k = rw (e2, e3, e4 u g ∙ k)
