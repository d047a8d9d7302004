-- "The causes must be exactly those of the ordering and emission rules": what a call that is lent a list leaves in it, and what the rules
-- with entries come to. Statement only. proofs/Claims.antt has the proof, of every section that opening accepts, every list of requests
-- after it, every text slice that a call is lent, and every list of entries. It assumes nothing.
use Rattle.std.specs.Prelude.{ℕ, ◌+◌, ◌≡◌, List, length, take}
use Rattle.spec_c_dumper.specs.rules.Machine.{Req}
use Rattle.spec_c_dumper.specs.rules.Names.{Names}
use Rattle.spec_session.specs.session.Answers.{number_of, value_of}
use Rattle.spec_session.specs.session.Turns.{Call}
use Rattle.spec_c_dumper.specs.needs.Lists.{Ls}
use Rattle.spec_c_dumper.specs.needs.Session.{Known, text_of}
use Rattle.proof_demands.specs.demands.Table.{opened_table, machine_in}
use Rattle.proof_demands.specs.demands.Session.{After, Tells}
use Rattle.proof_demands.specs.demands.Demands.{Lent, types_in, ruled}
use Rattle.spec_c_dumper.specs.origins.Causes.{shows_in, Causes, one_causes, list_causes, all_causes}
use Rattle.spec_session.specs.origin_calls.Bytes.{CauseCall, type_causes, types_causes}
use Rattle.spec_session.specs.origin_calls.Several.{list_causes_call}

-- a call over lent bytes, and the call over the rules
pub record Agrees (d : CauseCall) (t : Causes (Ls (Known Names))) : Type 0 where
  pub number : number_of d.call.answer
      ≡ t.answer.number  -- "A lent list too short for one more entry is 17", for the same line, and every other refusal
  pub count : d.count ≡ t.count  -- "The answer counts them"
  pub list : d.list ≡ t.list  -- "three words from the list's start", "a refused request's are dropped, and the rest is zeroed"
  pub is_open : d.call.session.«open» ≡ t.answer.sess.is_open
  pub text_len : d.call.session.text_len ≡ length (text_of t.answer.sess.mach.pieces)
  pub text : take d.call.session.text_len d.call.text ≡ text_of t.answer.sess.mach.pieces  -- "beside the text"

-- pointer size, mode, section and length of the work, as at opening
module _ (pointer modes : ℕ) (s : List ℕ) (n : ℕ) where
  abbrev pub one_ruled : List ℕ → ℕ → List Req → ℕ → Causes (Ls (Known Names))
  one_ruled l room rs id =
      one_causes (machine_in pointer modes s n) (types_in pointer modes s n) (shows_in (opened_table pointer modes s n)) l room
      (ruled pointer modes s n rs) id

  abbrev pub all_ruled : List ℕ → ℕ → List Req → Causes (Ls (Known Names))
  all_ruled l room rs =
      all_causes (machine_in pointer modes s n) (types_in pointer modes s n) (shows_in (opened_table pointer modes s n)) l room
      (ruled pointer modes s n rs)

  abbrev pub list_ruled : List ℕ → ℕ → List Req → List ℕ → Causes (Ls (Known Names))
  list_ruled l room rs ids =
      list_causes (machine_in pointer modes s n) (types_in pointer modes s n) (shows_in (opened_table pointer modes s n))
      l room (ruled pointer modes s n rs) ids

  -- THE CLAIM, of all pointer sizes, modes, sections and lengths of the work. c: the last call, after the requests rs; l: the lent list.
  pub record Reasoned : Type 0 where
    -- one id; `type_text` and `types_text` say of the text what demand 2 says of the calls that are lent no list
    pub type : (c : Call) (rs : List Req) → After pointer modes s n c rs → (text : List ℕ) → Lent c text → (id : ℕ) (l : List ℕ)
        → Agrees (type_causes c.session s c.work text id l) (one_ruled l (length text) rs id)
    pub type_text : (c : Call) (rs : List Req) → After pointer modes s n c rs → (text : List ℕ) → Lent c text → (id : ℕ) (l : List ℕ)
        → Tells (length text) (type_causes c.session s c.work text id l).call (one_ruled l (length text) rs id).answer
    -- all ids
    pub types : (c : Call) (rs : List Req) → After pointer modes s n c rs → (text : List ℕ) → Lent c text → (l : List ℕ)
        → Agrees (types_causes c.session s c.work text l) (all_ruled l (length text) rs)
    pub types_text : (c : Call) (rs : List Req) → After pointer modes s n c rs → (text : List ℕ) → Lent c text → (l : List ℕ)
        → Tells (length text) (types_causes c.session s c.work text l).call (all_ruled l (length text) rs).answer
    -- a list of ids, with one list of entries for them all
    pub list : (c : Call) (rs : List Req) → After pointer modes s n c rs → (text : List ℕ) → Lent c text → (ids l : List ℕ)
        → Agrees (list_causes_call c.session s c.work text ids l) (list_ruled l (length text) rs ids)
    -- the value of its answer is the count of the accepted ids
    pub list_value : (c : Call) (rs : List Req) → After pointer modes s n c rs → (text : List ℕ) → Lent c text → (ids l : List ℕ)
        → length (ruled pointer modes s n rs).asked + value_of (list_causes_call c.session s c.work text ids l).call.answer
        ≡ length (list_ruled l (length text) rs ids).answer.sess.asked
