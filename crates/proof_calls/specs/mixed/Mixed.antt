-- Lists of calls in which each is plain, carries a ceiling on the calls of ordering, or is lent a list of entries of any length: "a request
-- may carry a 64-bit ceiling", "a call lent a list". As `After` of claims/specs/Session, with such calls in place of the plain ones.
use Rattle.std.specs.Prelude.{ℕ, ◌-◌, ◌≡◌, List, [], ◌∷◌, ◌++◌, length}
use Rattle.spec_c_dumper.specs.rules.Machine.{Req, one, all}
use Rattle.spec_session.specs.declared.session.Session.{Session}
use Rattle.spec_session.specs.session.Answers.{number_of, value_of}
use Rattle.spec_session.specs.session.Turns.{Call}
use Rattle.spec_session.specs.calls.Calls.{open_call, type_call, types_call}
use Rattle.spec_session.specs.calls.Lists.{list_call}
use Rattle.spec_session.specs.metered.Within.{type_call_within, types_call_within}
use Rattle.spec_session.specs.metered.Lists.{list_call_within}
use Rattle.proof_demands.specs.demands.Session.{singles_for, made}
use Rattle.proof_demands.specs.demands.Demands.{Lent, ruled}
use Rattle.spec_session.specs.origin_calls.Bytes.{type_causes, types_causes}
use Rattle.spec_session.specs.origin_calls.Several.{list_causes_call}
use Rattle.proof_calls.specs.ceilings.Ceilings.{accepted_of, ones_from}
use Rattle.proof_calls.specs.line_origins.Claims.{all_ruled}

-- what a call carries
pub data Aid : Type 0 where
  none : Aid
  ceiling : ℕ → Aid
  list : List ℕ → Aid

-- the three requests with it
abbrev pub type_with : Aid → Session → List ℕ → List ℕ → List ℕ → ℕ → Call
type_with none s section work text id = type_call s section work text id
type_with (ceiling k) s section work text id = (type_call_within k s section work text id 0).call
type_with (list l) s section work text id = (type_causes s section work text id l).call

abbrev pub types_with : Aid → Session → List ℕ → List ℕ → List ℕ → Call
types_with none s section work text = types_call s section work text
types_with (ceiling k) s section work text = (types_call_within k s section work text).call
types_with (list l) s section work text = (types_causes s section work text l).call

abbrev pub list_with : Aid → Session → List ℕ → List ℕ → List ℕ → List ℕ → Call
list_with none s section work text ids = list_call s section work text ids
list_with (ceiling k) s section work text ids = (list_call_within k s section work text ids).call
list_with (list l) s section work text ids = (list_causes_call s section work text ids l).call

-- The call was ended by what it carries: "22 when one more call would pass the ceiling", "A lent list too short for one more entry is 17".
-- A call that is lent a list counts as ended also where it is the text slice that is too short.
abbrev pub Stops : Aid → Call → Type 0
Stops none d = ⊥
Stops (ceiling k) d = number_of d.answer ≡ 22
Stops (list l) d = number_of d.answer ≡ 17

abbrev pub Goes : Aid → Call → Type 0
Goes a d = Stops a d → ⊥

-- pointer size, mode, section and length of the work, as at opening
module _ (pointer modes : ℕ) (s : List ℕ) (n : ℕ) where
  -- how many ids of a request for all were accepted before the one that ended it: with a list, those that the rules with entries add
  abbrev pub accepted_with : Aid → Call → List Req → List ℕ → ℕ
  accepted_with none c rs text = 0
  accepted_with (ceiling k) c rs text = accepted_of k c.session s c.work text
  accepted_with (list l) c rs text =
      length (all_ruled pointer modes s n l (length text) rs).answer.sess.asked - length (ruled pointer modes s n rs).asked

  -- A call after a successful opening, and the requests since: none was ended by what it carried.
  pub data With : Call → List Req → Type 0 where
    with_open : (S : Session) (work text : List ℕ) → length work ≡ n → number_of (open_call S s work text pointer modes).answer ≡ 0
        → With (open_call S s work text pointer modes) []
    with_one : (c : Call) (rs : List Req) → With c rs → (text : List ℕ) → Lent c text → (a : Aid) (id : ℕ)
        → Goes a (type_with a c.session s c.work text id)
        → With (type_with a c.session s c.work text id) (rs ++ (one (length text) id ∷ []))
    with_all : (c : Call) (rs : List Req) → With c rs → (text : List ℕ) → Lent c text → (a : Aid)
        → Goes a (types_with a c.session s c.work text)
        → With (types_with a c.session s c.work text) (rs ++ (all (length text) ∷ []))
    with_list : (c : Call) (rs : List Req) → With c rs → (text : List ℕ) → Lent c text → (a : Aid) (ids : List ℕ)
        → Goes a (list_with a c.session s c.work text ids)
        → With (list_with a c.session s c.work text ids)
        (rs ++ singles_for (length text) (made 0 (list_with a c.session s c.work text ids)) ids)

  -- A call that was ended by what it carried. The requests are those accepted before, the single requests of the ended call that were
  -- accepted among them; the value of a list's answer is how many they are.
  pub data Ended : Call → List Req → Type 0 where
    ended_one : (c : Call) (rs : List Req) → With c rs → (text : List ℕ) → Lent c text → (a : Aid) (id : ℕ)
        → Stops a (type_with a c.session s c.work text id)
        → Ended (type_with a c.session s c.work text id) rs
    ended_all : (c : Call) (rs : List Req) → With c rs → (text : List ℕ) → Lent c text → (a : Aid)
        → Stops a (types_with a c.session s c.work text)
        → Ended (types_with a c.session s c.work text) (rs ++ ones_from (length text) (accepted_with a c rs text) 1)
    ended_list : (c : Call) (rs : List Req) → With c rs → (text : List ℕ) → Lent c text → (a : Aid) (ids : List ℕ)
        → Stops a (list_with a c.session s c.work text ids)
        → Ended (list_with a c.session s c.work text ids)
        (rs ++ singles_for (length text) (value_of (list_with a c.session s c.work text ids).answer) ids)
