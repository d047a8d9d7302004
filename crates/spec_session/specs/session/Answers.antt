-- The answers of calls: a value, or the number of a refusal and a value; and what the code's answers say.
use Rattle.std.specs.Prelude.{ℕ, zero, suc, Bool, leb, Option, Some, None, Result, Ok, Err}
use Rattle.spec_bytes.specs.declared.refusal.Refusal.{Refusal}
use Rattle.spec_bytes.specs.Refusals.{refusal_number}
use Rattle.spec_session.specs.declared.session.Refused.{Refused as Refusing}

pub data Answer : Type 0 where
  -- the value
  Accepted : ℕ → Answer
  -- the number and the value
  Refused : ℕ → ℕ → Answer

-- "Success is number 0"
unfoldable pub number_of : Answer → ℕ
number_of (Accepted value) = 0
number_of (Refused number value) = number

unfoldable pub value_of : Answer → ℕ
value_of (Accepted value) = value
value_of (Refused number value) = value

-- the answer with this number and this value
unfoldable pub answer_of : ℕ → ℕ → Answer
answer_of zero value = Accepted value
answer_of (suc n) value = Refused (suc n) value

-- what the code's answer says
abbrev pub answer_is : Result ℕ Refusing → Answer
answer_is (Ok value) = Accepted value
answer_is (Err r) = Refused (refusal_number r.refusal) r.value

-- the same of a call that says nothing beside its refusal
abbrev pub alone : Result ℕ Refusal → Answer
alone (Ok value) = Accepted value
alone (Err c) = Refused (refusal_number c) 0

-- the number of the refusal that stopped the requests of a call, 0 where none did
abbrev pub stop_number : Option Refusal → ℕ
stop_number None = 0
stop_number (Some c) = refusal_number c

-- after no refusal and after 10 the session stays open; 11 is tested before, and those of opening come to no request
abbrev pub stays_open : Option Refusal → Bool
stays_open stop = leb (stop_number stop) 10
