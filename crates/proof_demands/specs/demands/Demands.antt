-- Demands 2 and 3 of document 01, said of the calls of a session: statements only. proofs/Demands.antt has the proof, of every section that
-- opening accepts, every list of requests after it, and every text slice that a request is lent. It assumes nothing.
use Rattle.std.specs.Prelude.{ℕ, suc, ◌<◌, ◌≤◌, ◌≡◌, true, ◌↔◌, length, take}
use mathlib.Core.List.{List, [], ◌∷◌, ◌++◌, Memᴰ}
use Rattle.spec_c_dumper.specs.rules.Names.{Names}
use Rattle.spec_c_dumper.specs.rules.Order.{Table, refused}
use Rattle.spec_c_dumper.specs.rules.Machine.{Sess, Req, ordering, single, every, run}
use Rattle.spec_c_dumper.specs.rules.Types.{table_of}
use Rattle.spec_session.specs.session.Answers.{number_of, value_of}
use Rattle.spec_session.specs.session.Turns.{Call, then_zeros}
use Rattle.spec_session.specs.calls.Calls.{type_call, types_call}
use Rattle.spec_session.specs.calls.Lists.{list_call}
use Rattle.spec_c_dumper.specs.needs.Needs.{NamedComp, MeetsTwice}
use Rattle.spec_c_dumper.specs.needs.Demand.{Demand3}
use Rattle.spec_c_dumper.specs.needs.Lists.{Ls}
use Rattle.spec_c_dumper.specs.needs.Session.{Known, text_of}
use Rattle.spec_c_dumper.specs.needs.Bodies.{PiecesAre}
use Rattle.proof_demands.specs.demands.Table.{opened_table, names_in, machine_in, opened_in}
use Rattle.proof_demands.specs.demands.Session.{After, Tells}

-- "a text slice of any length that begins with the text so far"
pub record Lent (c : Call) (text : List ℕ) : Type 0 where
  pub long : c.session.text_len ≤ length text
  pub begins : take c.session.text_len text ≡ take c.session.text_len c.text

-- the call c, lent this text after the call `before`, is accepted and leaves the text that there was
pub record AddsNothing (before : Call) (text : List ℕ) (c : Call) : Type 0 where
  pub accepted : number_of c.answer ≡ 0
  pub text_len : c.session.text_len ≡ before.session.text_len
  pub same_text : c.text ≡ then_zeros (length text) before.session.text_len text

-- pointer size, mode, section and length of the work, as at opening
module _ (pointer modes : ℕ) (s : List ℕ) (n : ℕ) where
  -- the section's types, as the rules of ordering and emission see them
  abbrev pub types_in : Table
  types_in = table_of (opened_table pointer modes s n)

  -- "as the rules give them when begun afresh at opening and carried on from each accepted request to the next": with plain lists, and the
  -- names of the Rust, or those that cannot collide (specs/Table: names_in)
  abbrev pub ruled : List Req → Sess (Ls (Known Names))
  ruled rs = run (machine_in pointer modes s n) types_in rs (opened_in pointer modes s n)

  -- DEMAND 2. c: the last call, after the requests rs. "The text after the list is the slice up to the text length last returned"; it is
  -- the pieces of the rules, joined. The next request has the number that the rules give, 13 and 14 among them, and leaves the text of
  -- theirs.
  pub record Demand2 (c : Call) (rs : List Req) : Type 0 where
    pub text : take c.session.text_len c.text ≡ text_of (ruled rs).mach.pieces
    pub text_len : c.session.text_len ≡ length (text_of (ruled rs).mach.pieces)
    pub is_open : c.session.«open» ≡ (ruled rs).is_open
    pub next_type : (text : List ℕ) → Lent c text → (id : ℕ)
        → Tells (length text) (type_call c.session s c.work text id)
        (single (machine_in pointer modes s n) types_in (length text) (ruled rs) id)
    pub next_types : (text : List ℕ) → Lent c text
        → Tells (length text) (types_call c.session s c.work text)
        (every (machine_in pointer modes s n) types_in (length text) (ruled rs) (ruled rs).is_open)

  -- DEMAND 3. The pieces that make up that text define each named composite that was asked for and accepted once, and each after all that
  -- it needs; and while the session is open, the next request for a named composite, unless too deep, is refused by 13 exactly when a chain
  -- of needs from it meets some composite twice.
  pub record Demand3Calls (c : Call) (rs : List Req) : Type 0 where
    pub text : take c.session.text_len c.text ≡ text_of (ruled rs).mach.pieces
    pub pieces : Demand3 (machine_in pointer modes s n) types_in (ruled rs)
    -- "the piece with a named composite's body carries that composite's id and defines it; forward lines, mentions and inline nameless
    -- bodies define nothing"
    pub bodies : PiecesAre (names_in pointer modes s n) (opened_table pointer modes s n) (ruled rs).mach.pieces
    pub cycles : c.session.«open» ≡ true → (text : List ℕ) → Lent c text → (id : ℕ) → id < types_in.count → NamedComp types_in id
        → (ordering (machine_in pointer modes s n) types_in (length text) (ruled rs) id ≡ refused 12 → ⊥)
        → (number_of (type_call c.session s c.work text id).answer ≡ 13) ↔ MeetsTwice types_in id

  -- "An id given twice adds no text": while the session is open, a request for an id that was accepted before, and a list that ends in an
  -- id that it has before, all accepted; the count of the accepted is one more.
  pub record Twice (c : Call) (rs : List Req) : Type 0 where
    pub single_again : c.session.«open» ≡ true → (x : ℕ) → Memᴰ x (ruled rs).asked → (text : List ℕ) → Lent c text
        → AddsNothing c text (type_call c.session s c.work text x)
    pub list_again : c.session.«open» ≡ true → (text : List ℕ) → Lent c text → (xs : List ℕ) (x : ℕ) → Memᴰ x xs
        → number_of (list_call c.session s c.work text xs).answer ≡ 0
        → AddsNothing (list_call c.session s c.work text xs) (list_call c.session s c.work text xs).text
        (list_call c.session s c.work text (xs ++ (x ∷ [])))
        × (value_of (list_call c.session s c.work text (xs ++ (x ∷ []))).answer
        ≡ suc (value_of (list_call c.session s c.work text xs).answer))

  -- THE CLAIM, of all pointer sizes, modes, sections and lengths of the work: `After c rs` is "the list, perhaps empty, starts at a
  -- successful opening with any settings and holds single requests and requests for all ids, in any order and with any ids", and lists of
  -- ids, each of which counts as the single requests that it makes.
  pub record Delivered : Type 0 where
    pub demand2 : (c : Call) (rs : List Req) → After pointer modes s n c rs → Demand2 c rs
    pub demand3 : (c : Call) (rs : List Req) → After pointer modes s n c rs → Demand3Calls c rs
    pub twice : (c : Call) (rs : List Req) → After pointer modes s n c rs → Twice c rs
