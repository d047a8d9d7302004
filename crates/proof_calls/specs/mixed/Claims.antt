-- What a call leaves that is ended by what it carries, after lists of calls that carry what they like: statement only. proofs/Claims.antt
-- has the proof, of every section that opening accepts, every list of calls after it, each plain, under a ceiling or lent a list of
-- entries, and every text slice. It assumes nothing.
use Rattle.std.specs.Prelude.{ℕ, ◌≡◌, true, false, List, length, take}
use Rattle.spec_c_dumper.specs.rules.Machine.{Req}
use Rattle.spec_session.specs.session.Turns.{Call}
use Rattle.spec_c_dumper.specs.needs.Session.{text_of}
use Rattle.proof_demands.specs.demands.Demands.{ruled}
use Rattle.proof_calls.specs.mixed.Mixed.{Ended}

-- pointer size, mode, section and length of the work, as at opening
module _ (pointer modes : ℕ) (s : List ℕ) (n : ℕ) where
  -- c: a call that was ended by what it carried; rs: the requests accepted before it, those of that call among them. Their text stands,
  -- and the session is closed.
  pub record Stands (c : Call) (rs : List Req) : Type 0 where
    pub text : take c.session.text_len c.text ≡ text_of (ruled pointer modes s n rs).mach.pieces
    pub text_len : c.session.text_len ≡ length (text_of (ruled pointer modes s n rs).mach.pieces)
    pub accepted : (ruled pointer modes s n rs).is_open ≡ true
    pub closed : c.session.«open» ≡ false

  -- THE CLAIM, of all pointer sizes, modes, sections and lengths of the work
  abbrev pub Mixed : Type 0
  Mixed = (c : Call) (rs : List Req) → Ended pointer modes s n c rs → Stands c rs
