-- Demand 2, of any calls: number, text and refusals are those of the rules. Statement only. proofs/Demands.antt has the proof, for the
-- calls of specs/Ours, over the types that the section describes; it assumes nothing.
use Rattle.std.specs.Prelude.{ℕ, ◌-◌, ◌≤◌, ◌≡◌, false, List, ◌++◌, length, take, replicate}
use Rattle.spec_c_dumper.specs.rules.Order.{Table}
use Rattle.spec_c_dumper.specs.rules.Machine.{Machine, Sess, Answer, single, every}
use Rattle.spec_c_dumper.specs.needs.Lists.{Ls}
use Rattle.spec_c_dumper.specs.needs.Session.{Known, text_of}
use Rattle.claims.specs.Calls.{Calls, Lent, Untouched}

module _ {R C : Type 0} (K : Calls R C) where
  -- what a request left in a slice of so many bytes, against the answer of the rules
  pub record Tells {U : Type 0} (room : ℕ) (c : C) (a : Answer (Ls (Known U))) : Type 0 where
    -- "A number comes for its own cause and in no other circumstance": the number of the rules
    pub number : K.number c ≡ a.number
    -- "a request returns the new text length", and a refused one the "old text length"
    pub value : K.value c ≡ length (text_of a.sess.mach.pieces)
    pub len : K.len c ≡ K.value c
    -- no "text length with no text behind it"
    pub begins : take (K.value c) (K.text c) ≡ text_of a.sess.mach.pieces
    -- "After success, and after 12 to 17, all bytes past the text's end are zero"
    pub text : (a.number ≡ 10 → ⊥) → (a.number ≡ 11 → ⊥)
        → K.text c ≡ text_of a.sess.mach.pieces ++ replicate (room - length (text_of a.sess.mach.pieces)) 0

  -- the call d, lent this text after the call c, gives 11 with this value, and leaves everything as it was
  pub record Eleven (c : C) (text : List ℕ) (value : ℕ) (d : C) : Type 0 where
    pub number : K.number d ≡ 11
    pub returned : K.value d ≡ value
    pub untouched : Untouched K d (K.leaves c) (K.work c) text

  -- "After 12 to 17 the list may go on, and every later request gives 11", with the "old text length"; a list of one id or more accepts
  -- none
  pub record Closed (s : List ℕ) (c : C) : Type 0 where
    pub later_one : K.is_open c ≡ false → (text : List ℕ) (id : ℕ) → Eleven c text (K.len c) (K.request c s text id)
    pub later_all : K.is_open c ≡ false → (text : List ℕ) → Eleven c text (K.len c) (K.request_all c s text)
    pub later_list : K.is_open c ≡ false → (text ids : List ℕ) → 4 ≤ length ids → Eleven c text 0 (K.request_list c s text ids)

  -- c: what the last call left; S: the session of the rules after the same requests, by the machine X over the types T
  module _ (s : List ℕ) {U : Type 0} (X : Machine (Ls (Known U)) U) (T : Table) where
    -- DEMAND 2: "For every section that opening accepts, [..] the text and the cycle and nameless refusals equal the Rust's"
    pub record Demand2 (c : C) (S : Sess (Ls (Known U))) : Type 0 where
      -- "The text after the list is the slice up to the text length last returned, at first 0; it equals, byte for byte, the pieces of
      -- the accepted requests joined in order, as the rules give them when begun afresh at opening and carried on from each accepted
      -- request to the next"
      pub text : take (K.len c) (K.text c) ≡ text_of S.mach.pieces
      pub text_len : K.len c ≡ length (text_of S.mach.pieces)
      -- "12 to 17 [..] zero the work words and close the session"
      pub is_open : K.is_open c ≡ S.is_open
      -- the next request: its number is that of the rules, 13 and 14 among them, and so is its text
      pub next_one : (text : List ℕ) → Lent K c text → (id : ℕ)
          → Tells (length text) (K.request c s text id) (single X T (length text) S id)
      -- "is then the single requests from 1 upward, so a refusal keeps the text of those before it and returns its length"
      pub next_all : (text : List ℕ) → Lent K c text → Tells (length text) (K.request_all c s text) (every X T (length text) S S.is_open)
