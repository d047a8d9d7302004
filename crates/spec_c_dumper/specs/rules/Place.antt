-- Writing into a lent text: what the next place, the bytes and the names at exit say, against what a writer says.
use Rattle.std.specs.Prelude.{ℕ, ◌-◌, true, false, List, length, get_or, leb, Ok, Err, ⊤}
use Rattle.spec_bytes.specs.Refusals.{refusal_number}
use Rattle.spec_bytes.specs.text.Text.{bytes}
use Rattle.spec_bytes.specs.text.Placed.{Out, done, stopped, Placed, put_out, written}
use Rattle.spec_c_dumper.specs.rules.Writer.{Said, said, Writer}

-- the slice, the next place and the names; or a refusal, and what is held of the names then
pub data Wrote (U H : Type 0) : Type 0 where
  wrote : List ℕ → ℕ → U → Wrote U H
  refused : H → ℕ → Wrote U H

-- held: what is told of the names after a refusal
module _ {U H : Type 0} (held : U → H) where
  unfoldable pub with_names : U → Out → Wrote U H
  with_names u (done t at) = wrote t at u
  with_names u (stopped c) = refused (held u) c

  -- what a function's answer r says, with the text and the names at its exit
  unfoldable pub out_held : Placed → List ℕ → U → Wrote U H
  out_held r t u = with_names u (put_out r t)

  -- what is said, written into t from `at` on; where it does not fit, the names held when the first print that does not fit began
  unfoldable pub put_here : List ℕ → ℕ → Said U → Wrote U H
  put_here t at (said u x k) =
      elim (leb (length (bytes x)) (length t - at)) [
        | true ↦ with_names u (written t at x)
        | false ↦ refused (held (get_or k (length t - at) u)) 17
      ]

  -- what a writer says from the names u; from a place that was refused nothing, and the names stay
  unfoldable pub put_held : List ℕ → Placed → Writer U → U → Wrote U H
  put_held t (Ok at) w u = put_here t at (w u)
  put_held t (Err c) w u = refused (held u) (refusal_number c)

-- For emitters, which keep the names in the work alone: nothing is told of them after a refusal.
module _ {U : Type 0} where
  abbrev pub none_held : U → ⊤
  none_held u = tt

  abbrev pub out_of : Placed → List ℕ → U → Wrote U ⊤
  out_of = out_held none_held

  abbrev pub put_said : List ℕ → Placed → Writer U → U → Wrote U ⊤
  put_said = put_held none_held
