-- Ask 6, arrays behind pointers. Demand 3 is stated with the setting and without it: `table_in` has it in bit 1 of the modes, and what a
-- need is changes with it. Statement only; spec_c_dumper/proofs/needs/Arrays.antt has the proof.
use Rattle.std.specs.Prelude.{ℕ, ◌≡◌, Bool, true, false}
use mathlib.Core.List.{Memᴰ}
use Rattle.spec_c_dumper.specs.rules.Order.{Table, through, ptr, is_comp}
use Rattle.spec_c_dumper.specs.needs.Needs.{kids, weaken, MeetsTwice}

pub record Request06 (T : Table) : Type 0 where
  -- "a setting under which passing an array forgets pointers passed before it"; w: a pointer was passed before
  pub off : T.strong_arrays ≡ false → (t : ℕ) (w : Bool) → weaken T (through true t) w ≡ w
  pub on : T.strong_arrays ≡ true → (t : ℕ) (w : Bool) → weaken T (through true t) w ≡ false
  -- "a struct with a pointer to an array of itself is now a cycle": x has a member of type m, a pointer to such an array
  pub of_itself : T.strong_arrays ≡ true → (x m array : ℕ) → is_comp (T.node x) ≡ true → Memᴰ m (kids (T.node x))
      → T.node m ≡ ptr array → T.node array ≡ through true x → MeetsTwice T x
