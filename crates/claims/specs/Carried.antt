-- Calls that carry something: a ceiling on the calls of ordering (ask 13), or a list for the entries of their lines (ask 12). Such a call
-- is the plain one, so that demands 2 and 3 hold after it as specs/Demands says, or it is ended by what it carries. Statement only;
-- proofs/Carried.antt has the proof, for the calls on a session, over the types that the section describes; it assumes nothing.
use Rattle.std.specs.Prelude.{ℕ, ◌≡◌, true, false, List, [], ◌++◌, length, take}
use Rattle.spec_c_dumper.specs.rules.Types.{Btf, table_of}
use Rattle.spec_c_dumper.specs.rules.Names.{Naming}
use Rattle.spec_c_dumper.specs.rules.Machine.{Req}
use Rattle.spec_c_dumper.specs.needs.Demand.{Demand3 as Defined}
use Rattle.spec_c_dumper.specs.needs.Session.{text_of, machine_by}
use Rattle.spec_c_dumper.specs.origins.Causes.{ids_from}
use Rattle.spec_opening.specs.Described.{table_in}
use Rattle.claims.specs.Calls.{Calls, ids_in, singles, Lent}
use Rattle.claims.specs.Demand2.{Eleven}
use Rattle.claims.specs.Demands.{ruled, InBothModes}

-- what a call carries: "a 64-bit ceiling on calls of the ordering rule", or a lent list, as bytes
pub data Aid : Type 0 where
  ceiling : ℕ → Aid
  list : List ℕ → Aid

-- "22 when one more call would pass the ceiling", "A lent list too short for one more entry is 17". A call that is lent a list counts as
-- ended also where it is the text slice that is too short.
abbrev pub ending : Aid → ℕ
ending (ceiling k) = 22
ending (list l) = 17

-- the three calls, as in specs/Calls, with what they carry
pub record Carrying (C : Type 0) : Type 0 where
  pub request : Aid → C → List ℕ → List ℕ → ℕ → C
  pub request_all : Aid → C → List ℕ → List ℕ → C
  pub request_list : Aid → C → List ℕ → List ℕ → List ℕ → C

-- pointer size, modes, section and length of the work, as at opening
module _ {R C : Type 0} (K : Calls R C) (W : Carrying C) (pointer modes : ℕ) (s : List ℕ) (n : ℕ) where
  abbrev pub B : Btf
  B = table_in pointer modes s

  module _ {U : Type 0} (N : Naming U) (u : U) where
    -- d: what an ended call left; rs: the requests that were accepted before, those of that call among them
    pub record Stands (d : C) (rs : List Req) : Type 0 where
      -- their text stands, and what demand 3 says of its pieces
      pub accepted : (ruled K pointer modes s n N u rs).is_open ≡ true
      pub text : take (K.len d) (K.text d) ≡ text_of (ruled K pointer modes s n N u rs).mach.pieces
      pub text_len : K.len d ≡ length (text_of (ruled K pointer modes s n N u rs).mach.pieces)
      pub defined : Defined (machine_by N B) (table_of B) (ruled K pointer modes s n N u rs)
      -- "closes the session as 12 does"
      pub closed : K.is_open d ≡ false

    -- of a request for all ids, the ids below some were accepted
    pub record SomeStand (d : C) (rs : List Req) (room : ℕ) : Type 0 where
      pub count : ℕ
      pub stands : Stands d (rs ++ singles room count (ids_from count 1))

  -- c: what the last call left, after the requests rs
  pub record Carried (U : Type 0) (N : Naming U) (u : U) (c : C) (rs : List Req) : Type 0 where
    -- a call that is not ended by what it carries is the plain call
    pub same_one : (text : List ℕ) (a : Aid) (id : ℕ) → (K.number (W.request a c s text id) ≡ ending a → ⊥)
        → W.request a c s text id ≡ K.request c s text id
    pub same_all : (text : List ℕ) (a : Aid) → (K.number (W.request_all a c s text) ≡ ending a → ⊥)
        → W.request_all a c s text ≡ K.request_all c s text
    pub same_list : (text : List ℕ) (a : Aid) (ids : List ℕ) → (K.number (W.request_list a c s text ids) ≡ ending a → ⊥)
        → W.request_list a c s text ids ≡ K.request_list c s text ids
    -- one that is ended
    pub ended_one : (text : List ℕ) → Lent K c text → (a : Aid) (id : ℕ) → K.number (W.request a c s text id) ≡ ending a
        → Stands N u (W.request a c s text id) rs
    pub ended_all : (text : List ℕ) → Lent K c text → (a : Aid) → K.number (W.request_all a c s text) ≡ ending a
        → SomeStand N u (W.request_all a c s text) rs (length text)
    pub ended_list : (text : List ℕ) → Lent K c text → (a : Aid) (ids : List ℕ) → K.number (W.request_list a c s text ids) ≡ ending a
        → Stands N u (W.request_list a c s text ids)
        (rs ++ singles (length text) (K.value (W.request_list a c s text ids)) (ids_in ids))

  -- "the list may go on, and every later request gives 11", whatever it carries
  pub record ClosedTo (c : C) : Type 0 where
    pub later_one : K.is_open c ≡ false → (text : List ℕ) (a : Aid) (id : ℕ) → Eleven K c text (K.len c) (W.request a c s text id)
    pub later_all : K.is_open c ≡ false → (text : List ℕ) (a : Aid) → Eleven K c text (K.len c) (W.request_all a c s text)
    pub later_list : K.is_open c ≡ false → (text : List ℕ) (a : Aid) (ids : List ℕ) → (ids_in ids ≡ [] → ⊥)
        → Eleven K c text 0 (W.request_list a c s text ids)

  -- THE CLAIM, of all pointer sizes, modes, sections of bytes and lengths of the work
  pub record Carries : Type 0 where
    pub calls : InBothModes K pointer modes s n Carried
    pub closed : (c : C) → ClosedTo c
