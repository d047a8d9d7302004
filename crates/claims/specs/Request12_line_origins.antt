-- Ask 12, why each line is there, over the types that the section describes. That a call which is lent a list is the plain one, or is ended
-- by 17, is in specs/Carried. Statement only; proofs/Origins.antt has the proof, for the calls on a session; it assumes nothing.
use Rattle.std.specs.Prelude.{ℕ, ◌+◌, ◌-◌, ◌≡◌, Bool, List, [], ◌∷◌, ◌++◌, length, take}
use Rattle.spec_c_dumper.specs.rules.Order.{Table}
use Rattle.spec_c_dumper.specs.rules.Types.{Btf, table_of}
use Rattle.spec_c_dumper.specs.rules.Names.{Naming}
use Rattle.spec_c_dumper.specs.rules.Machine.{Machine, Sess, Req}
use Rattle.spec_c_dumper.specs.needs.Lists.{Piece, Ls}
use Rattle.spec_c_dumper.specs.needs.Session.{Known, text_of, machine_by}
use Rattle.spec_c_dumper.specs.origins.Causes.{Entry, shows_in, ids_from, filled, Causes, one_causes, list_causes, all_causes}
use Rattle.spec_c_dumper.specs.origins.Lines.{Turns}
use Rattle.spec_opening.specs.Described.{table_in}
use Rattle.claims.specs.Calls.{Calls, ids_in, Lent}
use Rattle.claims.specs.Demand2.{Tells}
use Rattle.claims.specs.Demands.{ruled, InBothModes}

-- what a call that is lent a list leaves: what any call leaves; "The answer counts them"; and the list
pub record Listing (C : Type 0) : Type 0 where
  pub call : C
  pub count : ℕ
  pub list : List ℕ

-- the three calls, as in specs/Calls, with the lent list at last
pub record Lending (C : Type 0) : Type 0 where
  pub request : C → List ℕ → List ℕ → ℕ → List ℕ → Listing C
  pub request_all : C → List ℕ → List ℕ → List ℕ → Listing C
  pub request_list : C → List ℕ → List ℕ → List ℕ → List ℕ → Listing C

module _ {R C : Type 0} (K : Calls R C) (W : Lending C) where
  -- a call, and what the rules with entries come to
  pub record Agrees {U : Type 0} (d : Listing C) (t : Causes (Ls (Known U))) : Type 0 where
    -- "A lent list too short for one more entry is 17, met before any other step of that line", and every other refusal
    pub number : K.number d.call ≡ t.answer.number
    pub count : d.count ≡ t.count
    -- "three words from the list's start"; "a refused request's are dropped, and the rest is zeroed as the text's is"
    pub list : d.list ≡ t.list
    pub is_open : K.is_open d.call ≡ t.answer.sess.is_open
    pub text_len : K.len d.call ≡ length (text_of t.answer.sess.mach.pieces)
    -- "beside the text"
    pub text : take (K.len d.call) (K.text d.call) ≡ text_of t.answer.sess.mach.pieces

  -- "A call lent a list gives, beside the text, for each top-level line [..] its id, its cause [..] and the id that led there": number,
  -- text, count and list are those of the rules with entries. c: what the last call left; S: the session of the rules after the same
  -- requests, by the machine X over the types T; shows: which forward lines and typedefs print anything; l: the lent list
  pub record ByRules (s : List ℕ) {U : Type 0} (X : Machine (Ls (Known U)) U) (T : Table) (shows : ℕ → Bool) (c : C)
      (S : Sess (Ls (Known U))) : Type 0 where
    pub one : (text : List ℕ) → Lent K c text → (id : ℕ) (l : List ℕ)
        → Agrees (W.request c s text id l) (one_causes X T shows l (length text) S id)
    pub one_text : (text : List ℕ) → Lent K c text → (id : ℕ) (l : List ℕ)
        → Tells K (length text) (W.request c s text id l).call (one_causes X T shows l (length text) S id).answer
    pub all : (text : List ℕ) → Lent K c text → (l : List ℕ) → Agrees (W.request_all c s text l) (all_causes X T shows l (length text) S)
    pub all_text : (text : List ℕ) → Lent K c text → (l : List ℕ)
        → Tells K (length text) (W.request_all c s text l).call (all_causes X T shows l (length text) S).answer
    -- a list of ids, with one list of entries for them all
    pub list : (text : List ℕ) → Lent K c text → (ids l : List ℕ)
        → Agrees (W.request_list c s text ids l) (list_causes X T shows l (length text) S (ids_in ids))
    -- the value of its answer is the count of the accepted ids
    pub list_value : (text : List ℕ) → Lent K c text → (ids l : List ℕ)
        → length S.asked + K.value (W.request_list c s text ids l).call
        ≡ length (list_causes X T shows l (length text) S (ids_in ids)).answer.sess.asked

  -- pointer size, modes, section and length of the work, as at opening
  module _ (pointer modes : ℕ) (s : List ℕ) (n : ℕ) where
    abbrev pub B : Btf
    B = table_in pointer modes s

    module _ (U : Type 0) (N : Naming U) (u : U) (c : C) (rs : List Req) where
      -- An accepted call d for the ids, lent the list l on a text slice of `room` bytes: "one entry a line, in the text's order": what the
      -- call adds to the text is the lines of the entries, in the turns of the ids, and each entry has a cause that its request gives. No
      -- ids leave the list as it was.
      pub record Explains (room : ℕ) (ids l : List ℕ) (d : Listing C) : Type 0 where
        pub entries : List Entry
        pub count : d.count ≡ length entries
        pub list : (ids ≡ [] → ⊥) → d.list ≡ filled (length l) entries
        pub added : List Piece
        pub text : take (K.len d.call) (K.text d.call) ≡ take (K.len c) (K.text c) ++ text_of added
        pub turns : Turns N B room (ruled K pointer modes s n N u rs) ids entries added

      -- c: what the last call left, after the requests rs
      pub record Reasoned : Type 0 where
        pub by_rules : ByRules s (machine_by N B) (table_of B) (shows_in B) c (ruled K pointer modes s n N u rs)
        -- "The causes must be exactly those of the ordering and emission rules, one entry a line, in the text's order"
        pub one_lines : (text : List ℕ) → Lent K c text → (id : ℕ) (l : List ℕ) → K.number (W.request c s text id l).call ≡ 0
            → Explains (length text) (id ∷ []) l (W.request c s text id l)
        pub all_lines : (text : List ℕ) → Lent K c text → (l : List ℕ) → K.number (W.request_all c s text l).call ≡ 0
            → Explains (length text) (ids_from (B.type_cnt - 1) 1) l (W.request_all c s text l)
        pub list_lines : (text : List ℕ) → Lent K c text → (ids l : List ℕ) → K.number (W.request_list c s text ids l).call ≡ 0
            → Explains (length text) (ids_in ids) l (W.request_list c s text ids l)

    -- THE CLAIM, of all pointer sizes, modes, sections of bytes and lengths of the work
    abbrev pub Request12 : Type 0
    Request12 = InBothModes K pointer modes s n Reasoned
