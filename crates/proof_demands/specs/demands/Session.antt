-- A session in lent bytes against a session of the rules over plain lists, with the names of the Rust.
use Rattle.std.specs.Prelude.{ℕ, zero, suc, ◌+◌, ◌-◌, ◌%◌, ◌≤◌, ◌≡◌, true, ◌||◌, List, [], ◌∷◌, ◌++◌, length, take, replicate, eqb}
use Rattle.spec_bytes.specs.words.Words.{pick}
use Rattle.spec_c_dumper.specs.rules.Names.{Names}
use Rattle.spec_c_dumper.specs.rules.Machine.{Sess, Answer, Req, one, all}
use Rattle.spec_opening.specs.Table.{types_of, enumerators_of}
use Rattle.spec_opening.specs.Opened.{work_of}
use Rattle.spec_session.specs.declared.session.Session.{Session}
use Rattle.spec_session.specs.session.Answers.{number_of, value_of}
use Rattle.spec_session.specs.session.Turns.{Call}
use Rattle.spec_session.specs.calls.Calls.{open_call, type_call, types_call}
use Rattle.spec_session.specs.calls.Lists.{list_call}
use Rattle.spec_c_dumper.specs.needs.Lists.{Ls}
use Rattle.spec_c_dumper.specs.needs.Session.{Known, text_of, machine}
use Rattle.proof_demands.specs.demands.Table.{header_of, opened_table}
use Rattle.proof_demands.specs.demands.Representation.{Bears}

-- the first n ids as single requests, on a text slice of so many bytes
unfoldable pub singles_for : ℕ → ℕ → List ℕ → List Req
singles_for room zero ids = []
singles_for room (suc n) [] = []
singles_for room (suc n) (id ∷ ids) = one room id ∷ singles_for room n ids

-- How many single requests a call with a list counts as, after k others of it: "the single requests that it makes, up to and including a
-- refused one, and [..] none where it gives 11".
unfoldable pub made : ℕ → Call → ℕ
made k c = value_of c.answer - k + pick (eqb (number_of c.answer) 0 || eqb (number_of c.answer) 11) 0 1

-- pointer size, mode, section and length of the work, as at opening
module _ (pointer modes : ℕ) (s : List ℕ) (n : ℕ) where
  -- The record S and the slices now, and the session L over lists: open or closed alike, the text held is the text of the pieces, and while
  -- the session is open the work bears the state of the machine of lists.
  pub record Holds (S : Session) (work text : List ℕ) (L : Sess (Ls (Known Names))) : Type 0 where
    pub is_open : S.«open» ≡ L.is_open
    pub section : S.section_len ≡ length s
    pub its_work : S.work_len ≡ length work
    pub types : S.types ≡ types_of s
    pub pointer_size : S.pointer_size ≡ pointer
    pub mode : S.modes ≡ modes % 16
    pub its_length : S.text_len ≡ L.mach.known.text_len
    pub its_text : take S.text_len text ≡ text_of L.mach.pieces
    pub fits : S.text_len ≤ length text
    pub small : S.text_len ≤ 1073741824
    pub bears : L.is_open ≡ true
        → Bears (header_of pointer modes s) (enumerators_of s) s (work_of pointer modes s n) work 0
        ((machine (opened_table pointer modes s n)).start 0 L.mach)

  -- A call after a successful opening, and the requests since, each with the length of the text slice that it was lent. A request is lent
  -- the section of the opening, the work as the call before left it, and a text slice of any length that begins with the text so far.
  pub data After : Call → List Req → Type 0 where
    after_open : (S : Session) (work text : List ℕ) → length work ≡ n → number_of (open_call S s work text pointer modes).answer ≡ 0
        → After (open_call S s work text pointer modes) []
    after_one : (c : Call) (rs : List Req) → After c rs → (text : List ℕ) → c.session.text_len ≤ length text
        → take c.session.text_len text ≡ take c.session.text_len c.text
        → (id : ℕ) → After (type_call c.session s c.work text id) (rs ++ (one (length text) id ∷ []))
    after_all : (c : Call) (rs : List Req) → After c rs → (text : List ℕ) → c.session.text_len ≤ length text
        → take c.session.text_len text ≡ take c.session.text_len c.text
        → After (types_call c.session s c.work text) (rs ++ (all (length text) ∷ []))
    after_list : (c : Call) (rs : List Req) → After c rs → (text : List ℕ) → c.session.text_len ≤ length text
        → take c.session.text_len text ≡ take c.session.text_len c.text
        → (ids : List ℕ) → After (list_call c.session s c.work text ids)
        (rs ++ singles_for (length text) (made 0 (list_call c.session s c.work text ids)) ids)

-- A request's answer and text, in a slice of so many bytes, against its answer over lists: the same number; the value is the length of the
-- pieces' text; the slice begins with that text, and unless 10 or 11 left it as it was, it is that text and then zeros.
pub record Tells (room : ℕ) (c : Call) (a : Answer (Ls (Known Names))) : Type 0 where
  pub number : number_of c.answer ≡ a.number
  pub value : value_of c.answer ≡ length (text_of a.sess.mach.pieces)
  pub begins : take (value_of c.answer) c.text ≡ text_of a.sess.mach.pieces
  pub text : (a.number ≡ 10 → ⊥) → (a.number ≡ 11 → ⊥)
      → c.text ≡ text_of a.sess.mach.pieces ++ replicate (room - length (text_of a.sess.mach.pieces)) 0
