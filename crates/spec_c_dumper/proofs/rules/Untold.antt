-- Where nothing is told of the names after a refusal, what a writer says comes to its text, with the names after it. Assumes nothing.
use Prim.Native.Nat.{ℕ, ◌-◌}
use mathlib.Core.Path.{◌≡◌, refl}
use mathlib.Core.Bool.{Bool, true, false}
use mathlib.Core.List.{List}
use lib.ListN.{length}
use lib.Dec.{leb}
use Rattle.std.specs.Prelude.{Ok, ⊤}
use Rattle.spec_bytes.specs.text.Text.{bytes}
use Rattle.spec_bytes.specs.text.Placed.{Out, stopped, written, put_text}
use Rattle.spec_c_dumper.specs.rules.Writer.{Said, said, said_text, said_names}
use Rattle.spec_c_dumper.specs.rules.Place.{Wrote, refused, with_names, none_held, put_here}

pub put_untold : {U : Type 0} (t : List ℕ) (at : ℕ) (s : Said U) → put_here none_held t at s ≡ with_names none_held (said_names s) (put_text t (Ok at) (said_text s))
unfolding put_here put_text with_names said_names said_text
put_untold {U} t at (said u x k) = go (leb (length (bytes x)) (length t - at))
  where
    go : (b : Bool) → elim b as (λ (y : Bool). Wrote U ⊤) [ true ↦ with_names none_held u (written t at x) | false ↦ refused tt 17 ]
        ≡ with_names none_held u (elim b as (λ (y : Bool). Out) [ true ↦ written t at x | false ↦ stopped 17 ])
    go true = refl
    go false = refl
