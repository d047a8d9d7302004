-- A line of the machine of lists is what its writer puts into a lent text as long as the room allows.
use Prim.Native.Nat.{ℕ, ◌+◌, ◌-◌, ◌≤◌}
use mathlib.Core.Path.{◌≡◌, refl, ap, ◌∙◌, sym}
use mathlib.Core.Bool.{Bool, true, false}
use mathlib.Core.List.{List}
use lib.ListN.{length}
use lib.Dec.{leb}
use borrow.Author.Tests.{le-leb, lt-leb}
use mathlib.Core.Logic.{⊎_elim}
use native.Mathlib.Omega.{arith}
use Rattle.std.proofs.lemmas.Bool.{cases_lt}
use Rattle.std.specs.Prelude.{⊤}
use Rattle.spec_bytes.specs.text.Text.{Text, whole, cut, bytes}
use Rattle.spec_bytes.specs.text.Placed.{place, written}
use Rattle.spec_c_dumper.specs.rules.Writer.{Said, said}
use Rattle.spec_c_dumper.specs.rules.Layout.{smaller}
use Rattle.spec_c_dumper.specs.rules.Place.{Wrote, wrote, refused, with_names, put_here, none_held}
use Rattle.spec_c_dumper.specs.needs.Lists.{Line, says, cannot}
use Rattle.spec_c_dumper.specs.needs.Session.{Known, names_at_stop, fitting, line_of}

-- the line, in the text t from `at` on
abbrev pub line_out : {U : Type 0} → List ℕ → ℕ → Line (Known U) U → Wrote U ⊤
line_out t at (says k a) = wrote (place t at a) k.text_len k.names
line_out t at (cannot u e) = refused tt e

-- room for so many bytes, said by the sum or by what is left
room_left : (t : List ℕ) (len n : ℕ) → len ≤ length t → leb (len + n) (length t) ≡ leb n (length t - len)
room_left t len n l =
    ⊎_elim
    (λ h. lt-leb (len + n) (length t) (omega arith) ∙ sym (lt-leb n (length t - len) h))
    (λ h. le-leb (len + n) (length t) (omega arith) ∙ sym (le-leb n (length t - len) h))
    (cases_lt (length t - len) n)

module _ {U : Type 0} (t : List ℕ) (len : ℕ) where
  fits : (u : U) (x : Text) → line_out t len (fitting len u x) ≡ with_names none_held u (written t len x)
  unfolding fitting written with_names
  fits u (whole a) = refl
  fits u (cut a c) = refl

  pub line_put : (room : ℕ) → length t ≡ smaller room 1073741824 → len ≤ length t → (s : Said U) → line_out t len (line_of room len s) ≡ put_here none_held t len s
  unfolding line_of put_here
  line_put room e l (said u x m) =
      ap (λ (b : ℕ). line_out t len (elim (leb (len + length (bytes x)) b) [ true ↦ fitting len u x | false ↦ cannot stop 17 ])) (sym e)
      ∙ ap (λ (b : Bool). line_out t len (elim b [ true ↦ fitting len u x | false ↦ cannot stop 17 ])) (room_left t len (length (bytes x)) l)
      ∙ go (leb (length (bytes x)) (length t - len))
    where
      stop : U
      stop = names_at_stop (smaller room 1073741824 - len) (said u x m)

      go : (b : Bool) → line_out t len (elim b [ true ↦ fitting len u x | false ↦ cannot stop 17 ]) ≡ elim b [ true ↦ with_names none_held u (written t len x) | false ↦ refused tt 17 ]
      go true = fits u x
      go false = refl
