-- A law for each return of c_cut. Assumes nothing.
use Prim.Native.Nat.{ℕ, ◌<◌, ◌≤◌}
use mathlib.Core.Path.{◌≡◌, ap, ◌∙◌, sym}
use mathlib.Core.List.{List}
use lib.ListN.{length}
use borrow.Author.Tests.{lt-ltb, le-ltb}
use Rattle.spec_session.specs.session.Answers.{Answer}
use Rattle.spec_session.specs.declared.session.Session.{Session}
use Rattle.session_cut.specs.call.Calls.{cut_of, cut_call}
use Rattle.session_record.specs.record_words.Words.{packed, decoded}
use Rattle.spec_c_calls.specs.Cuts.{cut_export_of, cut_for, cut_export}

module _ (r section given out : List ℕ) where
  pub cut_short : length r < 128 → cut_export_of 47244640256 out ≡ cut_export r section given out
  unfolding cut_export
  cut_short h = sym (rw (lt-ltb (length r) 128 h, cut_export))

  pub cut_is : 128 ≤ length r → (s : Session) (a : Answer) (out' : List ℕ) (u : ℕ) → s ≡ decoded r → cut_of a out' ≡ cut_call s section given out → u ≡ packed a → cut_export_of u out' ≡ cut_export r section given out
  unfolding cut_export cut_for cut_of
  cut_is h s a out' u es ea eu =
      ap (λ (n : ℕ). cut_export_of n out') eu
      ∙ ap cut_for (ea ∙ ap (λ (q : Session). cut_call q section given out) es)
      ∙ sym (rw (le-ltb (length r) 128 h, cut_export))
