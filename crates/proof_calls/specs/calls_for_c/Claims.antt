-- Demands 2 and 3 of document 01, said of the calls for C, where "the record too crosses as bytes": statements only. proofs/Claims.antt has
-- the proof, of every section that opening for C accepts, every list of calls for C after it, and every text slice that a call is lent. It
-- assumes nothing. That the code returns and leaves what these exports say is in the contracts of `btfdump_c::exported`.
use Rattle.std.specs.Prelude.{ℕ, suc, ◌+◌, ◌-◌, ◌*◌, ◌/◌, ◌%◌, ◌<◌, ◌≤◌, ◌≡◌, Bool, true, false, ◌||◌, ◌↔◌, eqb, length, take, replicate}
use mathlib.Core.List.{List, [], ◌∷◌, ◌++◌, Memᴰ}
use Rattle.spec_bytes.specs.words.Words.{pick}
use Rattle.spec_c_dumper.specs.rules.Names.{Names}
use Rattle.spec_c_dumper.specs.rules.Order.{refused}
use Rattle.spec_c_dumper.specs.rules.Machine.{Answer, Req, one, all, ordering, single, every}
use Rattle.spec_opening.specs.Table.{types_of}
use Rattle.spec_opening.specs.Causes.{opening_number}
use Rattle.spec_session.specs.session.Answers.{answer_of}
use Rattle.spec_session.specs.session.Turns.{Call, then_zeros}
use Rattle.spec_session.specs.calls.Calls.{type_call, types_call}
use Rattle.spec_session.specs.calls.Lists.{ids_in, list_call}
use Rattle.spec_c_dumper.specs.needs.Needs.{NamedComp, MeetsTwice}
use Rattle.spec_c_dumper.specs.needs.Demand.{Demand3}
use Rattle.spec_c_dumper.specs.needs.Lists.{Ls}
use Rattle.spec_c_dumper.specs.needs.Session.{Known, text_of}
use Rattle.spec_c_dumper.specs.needs.Bodies.{PiecesAre}
use Rattle.proof_demands.specs.demands.Table.{opened_table, names_in, machine_in}
use Rattle.proof_demands.specs.demands.Session.{singles_for, After}
use Rattle.proof_demands.specs.demands.Demands.{types_in, ruled}
use Rattle.session_record.specs.record_words.Words.{decoded}
use Rattle.spec_c_calls.specs.Exports.{Export, export_of, open_export, type_export, types_export, list_export}

-- ---- what a caller in C has after a call: e is the result, and record, work and text as bytes

-- number and value: the upper and the lower half of the result
abbrev pub number_in : Export → ℕ
number_in e = e.result / 4294967296

abbrev pub value_in : Export → ℕ
value_in e = e.result % 4294967296

-- what the record's bytes say: "the text length last returned" (a list returns a count, and its text length is here), and whether it is
-- open
abbrev pub len_in : Export → ℕ
len_in e = (decoded e.bytes).text_len

abbrev pub open_in : Export → Bool
open_in e = (decoded e.bytes).«open»

-- the call on a session that e tells: the session that the bytes say, the answer with this number and value, and the slices
abbrev pub told : Export → Call
told e = record { session = decoded e.bytes; answer = answer_of (number_in e) (value_in e); work = e.work; text = e.text }

-- ---- the list of calls

-- "a text slice of any length that begins with the text so far"
pub record LentC (e : Export) (text : List ℕ) : Type 0 where
  pub long : len_in e ≤ length text
  pub begins : take (len_in e) text ≡ take (len_in e) e.text

-- The next call is lent "the section as at opening, the record and work words as the call before it (at first, opening) left them", and a
-- text
module _ (s : List ℕ) (e : Export) (text : List ℕ) where
  -- a single request
  abbrev pub called_one : ℕ → Export
  called_one id = type_export e.bytes s e.work text id

  -- a request for all ids
  abbrev pub called_all : Export
  called_all = types_export e.bytes s e.work text

  -- a list of ids, lent as bytes
  abbrev pub called_list : List ℕ → Export
  called_list ids = list_export e.bytes s e.work text (ids_in ids)

-- how many single requests a call with a list counts as: those that it makes, "up to and including a refused one, and [..] none where it
-- gives 11"
unfoldable pub made_in : Export → ℕ
made_in e = value_in e + pick (eqb (number_in e) 0 || eqb (number_in e) 11) 0 1

-- "The list, perhaps empty, starts at a successful opening with any settings and holds single requests and requests for all ids, in any
-- order and with any ids", and lists of ids. Pointer size, modes, section and length of the work are those of opening; e is what the last
-- call came to, after these requests, each with the length of the text slice that it was lent.
pub data AfterC (pointer modes : ℕ) (s : List ℕ) (n : ℕ) : Export → List Req → Type 0 where
  opened_c : (r work text : List ℕ) → length work ≡ n → number_in (open_export r s pointer modes work text) ≡ 0
      → AfterC pointer modes s n (open_export r s pointer modes work text) []
  one_c : (e : Export) (rs : List Req) → AfterC pointer modes s n e rs → (text : List ℕ) → LentC e text → (id : ℕ)
      → AfterC pointer modes s n (called_one s e text id) (rs ++ (one (length text) id ∷ []))
  all_c : (e : Export) (rs : List Req) → AfterC pointer modes s n e rs → (text : List ℕ) → LentC e text
      → AfterC pointer modes s n (called_all s e text) (rs ++ (all (length text) ∷ []))
  list_c : (e : Export) (rs : List Req) → AfterC pointer modes s n e rs → (text : List ℕ) → LentC e text → (ids : List ℕ)
      → AfterC pointer modes s n (called_list s e text ids)
      (rs ++ singles_for (length text) (made_in (called_list s e text ids)) (ids_in ids))

-- ---- opening

-- lent a record of 128 bytes or more
pub record OpensC (pointer modes : ℕ) (s r work text : List ℕ) : Type 0 where
  -- "A number comes for its own cause and in no other circumstance": that of the first cause that holds, and 0 where none does
  pub number : number_in (open_export r s pointer modes work text) ≡ opening_number pointer s (length work)
  -- "number, 0 types"; "Left as it was: all slices and the record"
  pub refused : (opening_number pointer s (length work) ≡ 0 → ⊥)
      → open_export r s pointer modes work text ≡ export_of (opening_number pointer s (length work) * 4294967296) r work text
  -- "opening returns the count of types, void counted, and clears the text slice"
  pub accepted : opening_number pointer s (length work) ≡ 0
      → (value_in (open_export r s pointer modes work text) ≡ types_of s)
      × ((open_export r s pointer modes work text).text ≡ replicate (length text) 0)

-- ---- requests

-- a request's number, value, record and text, in a slice of so many bytes, against the answer of the rules
pub record TellsC (room : ℕ) (e : Export) (a : Answer (Ls (Known Names))) : Type 0 where
  -- "A number comes for its own cause and in no other circumstance": the number of the rules
  pub number : number_in e ≡ a.number
  -- "a request returns the new text length", and a refused one the "old text length": that of the pieces' text
  pub value : value_in e ≡ length (text_of a.sess.mach.pieces)
  -- the record has the length that is returned
  pub len : len_in e ≡ value_in e
  -- no "text length with no text behind it"
  pub begins : take (value_in e) e.text ≡ text_of a.sess.mach.pieces
  -- "After success, and after 12 to 17, all bytes past the text's end are zero"
  pub text : (a.number ≡ 10 → ⊥) → (a.number ≡ 11 → ⊥)
      → e.text ≡ text_of a.sess.mach.pieces ++ replicate (room - length (text_of a.sess.mach.pieces)) 0

-- the call e, lent this text after the call `before`, is accepted and leaves the text that there was
pub record AddsNothingC (before : Export) (text : List ℕ) (e : Export) : Type 0 where
  pub accepted : number_in e ≡ 0
  pub text_len : len_in e ≡ len_in before
  pub same_text : e.text ≡ then_zeros (length text) (len_in before) text

-- pointer size, modes, section and length of the work, as at opening
module _ (pointer modes : ℕ) (s : List ℕ) (n : ℕ) where
  -- "the pieces of the accepted requests joined in order, as the rules give them when begun afresh at opening"
  abbrev pub text_by_rules : List Req → List ℕ
  text_by_rules rs = text_of (ruled pointer modes s n rs).mach.pieces

  -- the rules' answers to a single request and to one for all ids, after the requests rs, with room for so many bytes of text
  abbrev pub one_by_rules : ℕ → List Req → ℕ → Answer (Ls (Known Names))
  one_by_rules room rs id = single (machine_in pointer modes s n) (types_in pointer modes s n) room (ruled pointer modes s n rs) id

  abbrev pub all_by_rules : ℕ → List Req → Answer (Ls (Known Names))
  all_by_rules room rs =
      every (machine_in pointer modes s n) (types_in pointer modes s n) room
      (ruled pointer modes s n rs) (ruled pointer modes s n rs).is_open

  -- In what follows e is what the last call came to, after the requests rs.

  -- THE CALLS FOR C ARE THE CALLS ON THE SESSION THAT THE RECORD'S BYTES SAY
  pub record SameCalls (e : Export) (rs : List Req) : Type 0 where
    -- "there the record too crosses as bytes": what e tells is what the calls on a session come to, after the same requests
    pub told_after : After pointer modes s n (told e) rs
    -- "opening, one request and one request for all ids are also exported to C": one request has the number and value of the call on the
    -- session, and leaves its session, work and text
    pub next_one : (text : List ℕ) → LentC e text → (id : ℕ)
        → told (called_one s e text id) ≡ type_call (decoded e.bytes) s e.work text id
    -- and so one request for all ids
    pub next_all : (text : List ℕ) → LentC e text → told (called_all s e text) ≡ types_call (decoded e.bytes) s e.work text
    -- and so a list: "Text, length, session and work must equal those of single requests in that order, up to and including the first
    -- refused"
    pub next_list : (text : List ℕ) → LentC e text → (ids : List ℕ)
        → told (called_list s e text ids) ≡ list_call (decoded e.bytes) s e.work text (ids_in ids)

  -- DEMAND 2
  pub record Demand2C (e : Export) (rs : List Req) : Type 0 where
    -- "The text after the list is the slice up to the text length last returned, at first 0; it equals, byte for byte, the pieces of the
    -- accepted requests joined in order"
    pub text : take (len_in e) e.text ≡ text_by_rules rs
    -- "a request returns the new text length"
    pub text_len : len_in e ≡ length (text_by_rules rs)
    -- "12 to 17 go by the Rust's sequence of steps; they zero the work words and close the session"
    pub is_open : open_in e ≡ (ruled pointer modes s n rs).is_open
    -- "the next request": its number is that of the rules, 13 and 14 among them, and so is its text
    pub next_one : (text : List ℕ) → LentC e text → (id : ℕ)
        → TellsC (length text) (called_one s e text id) (one_by_rules (length text) rs id)
    -- "is then the single requests from 1 upward, so a refusal keeps the text of those before it and returns its length"
    pub next_all : (text : List ℕ) → LentC e text → TellsC (length text) (called_all s e text) (all_by_rules (length text) rs)
    -- "After 12 to 17 the list may go on, and every later request gives 11": with the "old text length", and "everything" is left as it was
    pub later_one : open_in e ≡ false → (text : List ℕ) (id : ℕ)
        → called_one s e text id ≡ export_of (11 * 4294967296 + len_in e) e.bytes e.work text
    -- the same of a request for all ids
    pub later_all : open_in e ≡ false → (text : List ℕ) → called_all s e text ≡ export_of (11 * 4294967296 + len_in e) e.bytes e.work text
    -- and of a list of one id or more, of which none is accepted
    pub later_list : open_in e ≡ false → (text ids : List ℕ) → 4 ≤ length ids
        → called_list s e text ids ≡ export_of (11 * 4294967296) e.bytes e.work text

  -- DEMAND 3
  pub record Demand3C (e : Export) (rs : List Req) : Type 0 where
    -- "'defines' is said of the pieces from which the rules of ordering and emission build the text"
    pub text : take (len_in e) e.text ≡ text_by_rules rs
    -- they define each named composite that was asked for and accepted once, none twice, and each after all that it needs
    pub pieces : Demand3 (machine_in pointer modes s n) (types_in pointer modes s n) (ruled pointer modes s n rs)
    -- "the piece with a named composite's body carries that composite's id and defines it"
    pub bodies : PiecesAre (names_in pointer modes s n) (opened_table pointer modes s n) (ruled pointer modes s n rs).mach.pieces
    -- "the next request of the refusal clause": while the record is open, one for a named composite, unless too deep, is refused by 13
    -- exactly when a chain of needs from it meets some composite twice
    pub cycles : open_in e ≡ true → (text : List ℕ) → LentC e text → (id : ℕ) → id < (types_in pointer modes s n).count
        → NamedComp (types_in pointer modes s n) id
        → (ordering (machine_in pointer modes s n) (types_in pointer modes s n) (length text) (ruled pointer modes s n rs) id
        ≡ refused 12 → ⊥)
        → (number_in (called_one s e text id) ≡ 13) ↔ MeetsTwice (types_in pointer modes s n) id

  -- "An id given twice adds no text", while the record is open
  pub record TwiceC (e : Export) (rs : List Req) : Type 0 where
    -- a single request for an id that was accepted before
    pub single_again : open_in e ≡ true → (x : ℕ) → Memᴰ x (ruled pointer modes s n rs).asked → (text : List ℕ) → LentC e text
        → AddsNothingC e text (called_one s e text x)
    -- a list that has one id more than another, and has that id before: the text is the same, and one id more is accepted
    pub list_again : open_in e ≡ true → (text : List ℕ) → LentC e text → (ids more : List ℕ) (x : ℕ) → ids_in more ≡ ids_in ids ++ (x ∷ [])
        → Memᴰ x (ids_in ids) → number_in (called_list s e text ids) ≡ 0
        → AddsNothingC (called_list s e text ids) (called_list s e text ids).text (called_list s e text more)
        × (value_in (called_list s e text more) ≡ suc (value_in (called_list s e text ids)))

  -- THE CLAIM, of all pointer sizes, modes, sections and lengths of the work: opening for C, and every list of calls for C after it
  pub record DeliveredC : Type 0 where
    pub opens : (r work text : List ℕ) → 128 ≤ length r → OpensC pointer modes s r work text
    pub same_calls : (e : Export) (rs : List Req) → AfterC pointer modes s n e rs → SameCalls e rs
    pub demand2 : (e : Export) (rs : List Req) → AfterC pointer modes s n e rs → Demand2C e rs
    pub demand3 : (e : Export) (rs : List Req) → AfterC pointer modes s n e rs → Demand3C e rs
    pub twice : (e : Export) (rs : List Req) → AfterC pointer modes s n e rs → TwiceC e rs
