-- What an answer of the code says, as the rules have it.
use Rattle.std.specs.Prelude.{Result, Ok, Err}
use Rattle.spec_bytes.specs.declared.refusal.Refusal.{Refusal}
use Rattle.spec_bytes.specs.Refusals.{refusal_number}
use Rattle.spec_c_dumper.specs.rules.Writer.{Ask, got, no}

unfoldable pub ask_of : {A : Type 0} → Result A Refusal → Ask A
ask_of (Ok a) = got a
ask_of (Err c) = no (refusal_number c)
