-- Ask 13, a ceiling on ordering work. Statement only; spec_session/proofs/metered, proofs/Ceiling.antt and proofs/Carried.antt have the
-- proofs.
use Rattle.std.specs.Prelude.{ℕ, ◌<◌, ◌≤◌, ◌≡◌, true, false, List, length}
use Rattle.spec_c_dumper.specs.rules.Order.{Table}
use Rattle.spec_c_dumper.specs.rules.Types.{Btf, table_of}
use Rattle.spec_c_dumper.specs.rules.Names.{Naming}
use Rattle.spec_c_dumper.specs.rules.Machine.{Machine, Sess, Req}
use Rattle.spec_c_dumper.specs.needs.Lists.{Ls}
use Rattle.spec_c_dumper.specs.needs.Session.{Known, machine_by}
use Rattle.spec_c_dumper.specs.ceiling.Ceiling.{calls}
use Rattle.spec_opening.specs.Described.{table_in}
use Rattle.spec_session.specs.declared.session.Session.{Session}
use Rattle.spec_session.specs.session.Answers.{number_of}
use Rattle.spec_session.specs.session.Turns.{Call}
use Rattle.spec_session.specs.calls.Calls.{type_call, types_call}
use Rattle.spec_session.specs.calls.Lists.{list_call}
use Rattle.spec_session.specs.metered.Within.{CallWithin, type_call_within, types_call_within}
use Rattle.spec_session.specs.metered.Lists.{list_call_within}
use Rattle.spec_session.specs.metered.Fits.{FitsCeiling}
use Rattle.claims.specs.Calls.{Lent}
use Rattle.claims.specs.Demands.{ruled, InBothModes}
use Rattle.claims.specs.Carried.{Carries}
use Rattle.claims.specs.Ours.{on_session, session_carrying}

-- the calls of ordering that a request for an id opens by the plain rule, in the session S, with room for so many bytes of text
abbrev pub calls_for : {U : Type 0} → Machine (Ls (Known U)) U → Table → ℕ → Sess (Ls (Known U)) → ℕ → ℕ
calls_for X T room S id = calls X.store 512 T (X.start room S.mach) id false

-- pointer size, modes, section and length of the work, as at opening
module _ (pointer modes : ℕ) (s : List ℕ) (n : ℕ) where
  abbrev pub B : Btf
  B = table_in pointer modes s

  -- a call under the ceiling k for one id
  abbrev pub under : ℕ → Call → List ℕ → ℕ → CallWithin
  under k c text id = type_call_within k c.session s c.work text id 0

  -- c: what the last call left, after the requests rs
  module _ (U : Type 0) (N : Naming U) (u : U) (c : Call) (rs : List Req) where
    abbrev pub opened : ℕ → ℕ → ℕ
    opened room id = calls_for (machine_by N B) (table_of B) room (ruled on_session pointer modes s n N u rs) id

    pub record CallsMade : Type 0 where
      pub made : c.session.«open» ≡ true → (text : List ℕ) → Lent on_session c text → (k id : ℕ) → id < B.type_cnt
          → opened (length text) id ≤ k → (under k c text id).made ≡ opened (length text) id
      -- "22 when one more call would pass the ceiling"
      pub over : c.session.«open» ≡ true → (text : List ℕ) → Lent on_session c text → (k id : ℕ) → id < B.type_cnt
          → k < opened (length text) id → (number_of (under k c text id).call.answer ≡ 22) × ((under k c text id).made ≡ k)

pub record Request13 : Type 0 where
  -- "A request that fits under one ceiling gives the same text and count under every larger one": one that is not refused by 22 is the
  -- plain call, of one id, of all ids and of a list of ids
  pub one : (s : Session) (section w t : List ℕ) (c id : ℕ) → (number_of (type_call_within c s section w t id 0).call.answer ≡ 22 → ⊥)
      → FitsCeiling c (type_call s section w t id) (λ c'. type_call_within c' s section w t id 0)
  pub all : (s : Session) (section w t : List ℕ) (c : ℕ) → (number_of (types_call_within c s section w t).call.answer ≡ 22 → ⊥)
      → FitsCeiling c (types_call s section w t) (λ c'. types_call_within c' s section w t)
  pub list : (s : Session) (section w t ids : List ℕ) (c : ℕ) → (number_of (list_call_within c s section w t ids).call.answer ≡ 22 → ⊥)
      → FitsCeiling c (list_call s section w t ids) (λ c'. list_call_within c' s section w t ids)
  -- "then the answer reports the calls made, equal to the count in the definition", and 22 comes where they do not fit: of one id, after
  -- every list of requests and over the types that the section describes
  pub counted : (pointer modes : ℕ) (s : List ℕ) (n : ℕ) → InBothModes on_session pointer modes s n (CallsMade pointer modes s n)
  -- "closes the session as 12 does. Demand 2 leaves it out as it does 12, the third demand's refusal clause as it does too deep": after
  -- every list of requests a call under a ceiling is the plain one, of which both demands hold, or 22 ends it
  pub lists : (pointer modes : ℕ) (s : List ℕ) (n : ℕ) → Carries on_session session_carrying pointer modes s n
