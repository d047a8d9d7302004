-- Text written into a lent slice from a place on: where the writing comes to, or the refusal that stopped it.
use Rattle.std.specs.Prelude.{ℕ, ◌+◌, ◌-◌, List, ◌++◌, Bool, true, false, length, take, drop, leb, Result, Ok, Err}
use Rattle.spec_bytes.specs.Refusals.{refusal_number}
use Rattle.spec_bytes.specs.declared.refusal.Refusal.{Refusal}
use Rattle.spec_bytes.specs.text.Text.{Text, whole, cut, bytes}

-- what writing comes to: the slice and the next place; or the number of the refusal that stopped it
pub data Out : Type 0 where
  done : List ℕ → ℕ → Out
  stopped : ℕ → Out

-- whether a refusal stopped the writing
unfoldable pub is_stopped : Out → Bool
is_stopped (done t at) = false
is_stopped (stopped c) = true

-- where writing has come to: the next place, or the refusal that stopped it
abbrev pub Placed : Type 0
Placed = Result ℕ Refusal

-- the same of an answer that has more beside the place
abbrev pub placed : {A : Type 0} → (A → ℕ) → Result A Refusal → Placed
placed at_of (Ok x) = Ok (at_of x)
placed at_of (Err c) = Err c

-- what a function's answer r and the slice t say
unfoldable pub put_out : Placed → List ℕ → Out
put_out (Ok r) t = done t r
put_out (Err c) t = stopped (refusal_number c)

-- t with s from `at` on
abbrev pub place : List ℕ → ℕ → List ℕ → List ℕ
place t at s = take at t ++ s ++ drop (at + length s) t

-- a text that there is room for, written into t from `at` on
unfoldable pub written : List ℕ → ℕ → Text → Out
written t at (whole a) = done (place t at a) (at + length a)
written t at (cut a c) = stopped c

-- a text written into t from `at` on; where there is no room, refusal 17. After a refusal comes nothing.
unfoldable pub put_text : List ℕ → Placed → Text → Out
put_text t (Ok at) x = elim (leb (length (bytes x)) (length t - at)) [ true ↦ written t at x | false ↦ stopped 17 ]
put_text t (Err c) x = stopped (refusal_number c)
