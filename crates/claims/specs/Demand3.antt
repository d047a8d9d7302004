-- Demand 3, of any calls: what the text defines, and which requests are refused as a cycle. Statement only. proofs/Demands.antt has the
-- proof, for the calls of specs/Ours, over the types that the section describes; it assumes nothing.
use Rattle.std.specs.Prelude.{ℕ, ◌<◌, ◌≡◌, true, List, ◌↔◌, length}
use Rattle.spec_c_dumper.specs.rules.Order.{Table, refused}
use Rattle.spec_c_dumper.specs.rules.Types.{Btf, table_of}
use Rattle.spec_c_dumper.specs.rules.Names.{Naming}
use Rattle.spec_c_dumper.specs.rules.Machine.{Machine, Sess, ordering}
use Rattle.spec_c_dumper.specs.needs.Needs.{NamedComp, MeetsTwice}
use Rattle.spec_c_dumper.specs.needs.Demand.{Demand3 as Defined}
use Rattle.spec_c_dumper.specs.needs.Lists.{Ls}
use Rattle.spec_c_dumper.specs.needs.Session.{Known, machine_by}
use Rattle.spec_c_dumper.specs.needs.Bodies.{PiecesAre}
use Rattle.claims.specs.Calls.{Calls, Lent}

module _ {R C : Type 0} (K : Calls R C) (s : List ℕ) where
  -- "while the session is open, the next request for a named composite, unless too deep, is refused as a cycle exactly when a chain of
  -- needs from it meets some composite twice"
  abbrev pub Cycles : {U : Type 0} → Machine (Ls (Known U)) U → Table → C → Sess (Ls (Known U)) → Type 0
  Cycles X T c S =
      K.is_open c ≡ true → (text : List ℕ) → Lent K c text → (id : ℕ) → id < T.count → NamedComp T id
      → (ordering X T (length text) S id ≡ refused 12 → ⊥)
      → (K.number (K.request c s text id) ≡ 13) ↔ MeetsTwice T id

  -- DEMAND 3. c: what the last call left; S: the session of the rules after the same requests, over the table B with a way of keeping
  -- names. Its pieces make up the text (Demand2)
  pub record Demand3 {U : Type 0} (N : Naming U) (B : Btf) (c : C) (S : Sess (Ls (Known U))) : Type 0 where
    -- "the text defines exactly once each named composite that an accepted request asked for, no named one twice, and each after every
    -- named composite it needs, directly or through nameless ones"
    pub defined : Defined (machine_by N B) (table_of B) S
    -- "the piece with a named composite's body carries that composite's id and defines it; forward lines, mentions and inline nameless
    -- bodies define nothing"
    pub bodies : PiecesAre N B S.mach.pieces
    pub cycles : Cycles (machine_by N B) (table_of B) c S
