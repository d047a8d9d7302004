-- A law for each return of c_field. Assumes nothing.
use Prim.Native.Nat.{ℕ, ◌<◌, ◌≤◌}
use mathlib.Core.Path.{◌≡◌, ap, ◌∙◌, sym}
use mathlib.Core.List.{List}
use lib.ListN.{length}
use borrow.Author.Tests.{lt-ltb, le-ltb}
use Rattle.spec_session.specs.session.Answers.{Answer}
use Rattle.spec_session.specs.declared.session.Session.{Session}
use Rattle.session_field_at_bit.specs.field.Calls.{found_of, field_call}
use Rattle.session_record.specs.record_words.Words.{decoded, packed}
use Rattle.spec_c_calls.specs.Field.{path_export_of, found_by, field_export}

module _ (r section w path : List ℕ) (id bit : ℕ) where
  pub field_short : length r < 128 → path_export_of 47244640256 path ≡ field_export r section w path id bit
  unfolding field_export
  field_short h = sym (rw (lt-ltb (length r) 128 h, field_export))

  pub field_is : 128 ≤ length r → (s : Session) (a : Answer) (path' : List ℕ) (u : ℕ) → s ≡ decoded r → found_of a path' ≡ field_call s section w path id bit → u ≡ packed a → path_export_of u path' ≡ field_export r section w path id bit
  unfolding field_export found_by found_of
  field_is h s a path' u es ea eu =
      ap (λ (n : ℕ). path_export_of n path') eu
      ∙ ap found_by (ea ∙ ap (λ (q : Session). field_call q section w path id bit) es)
      ∙ sym (rw (le-ltb (length r) 128 h, field_export))
