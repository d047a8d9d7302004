-- Ask 7, alignment worked out once, of any calls and over the types that the section describes. That the answers and refusals of the calls
-- are those of the plain way is demand 2, whose rules have the plain way. With names apart the count is that of the definition too, over
-- the work that opening fills (proof_demands/specs/counted). Statement only; proofs/Once.antt has the proof, for the calls of specs/Ours;
-- it assumes nothing.
use Rattle.std.specs.Prelude.{ℕ, ◌+◌, ◌/◌, ◌%◌, ◌<◌, ◌≤◌, ◌≡◌, List, []}
use Rattle.spec_linux_btf.specs.Reading.{Bytes}
use Rattle.spec_c_dumper.specs.rules.Types.{Btf}
use Rattle.spec_c_dumper.specs.rules.Names.{Naming, naming}
use Rattle.spec_c_dumper.specs.rules.Machine.{Req}
use Rattle.spec_c_dumper.specs.needs.Session.{dumped, opened_by, no_names}
use Rattle.spec_c_dumper.specs.alignment_once.Once.{Table, table_keep, blank, members_to}
use Rattle.spec_c_dumper.specs.alignment_once.Writers.{after_once, dumped_once, Remembering, remembering_names, remembering_asks, no_visits}
use Rattle.spec_opening.specs.Described.{table_in}
use Rattle.claims.specs.Calls.{Calls, After}
use Rattle.claims.specs.Demands.{InBothModes}

-- names, memory and visits after the requests, "in a definition of the remembering way": over a table, with a way of keeping names; before
-- the first request nothing is remembered and no visit is counted
abbrev pub remembering : {U : Type 0} → Btf → Naming U → U → List Req → Remembering U Table
remembering B N u rs =
    (after_once (remembering_asks (table_keep B.type_cnt) B) (remembering_names N) B rs
    (opened_by (remembering_names N) B (no_visits u blank))).mach.known.names

-- visits: those that the record keeps; pointer size, modes, section and length of the work, as at opening
module _ {R C : Type 0} (K : Calls R C) (visits : C → ℕ) (pointer modes : ℕ) (s : List ℕ) (n : ℕ) where
  abbrev pub B : Btf
  B = table_in pointer modes s

  -- a table with the settings, types and tags of the section; the tags of ids past the count, which no line prints, are left open
  pub record Spells (X : Btf) : Type 0 where
    pub types : X ≡ record {
      ptr_sz = B.ptr_sz;
      union_as_struct = B.union_as_struct;
      strong_arrays = B.strong_arrays;
      placing = B.placing;
      type_cnt = B.type_cnt;
      type_by_id = B.type_by_id;
      decl_tags = X.decl_tags;
    }
    pub tags : (id : ℕ) → id < B.type_cnt → X.decl_tags id ≡ B.decl_tags id

  -- c: what the last call left, after the requests rs, in a session with the names of the Rust
  pub record Counted (c : C) (rs : List Req) : Type 0 where
    -- "In a session the counted visits [..] are kept in the record, equal the count in a definition of the remembering way"
    pub table : Btf
    pub spells : Spells table
    pub count : visits c ≡ (remembering table naming (no_names B) rs).visits

  -- with each way of keeping names
  pub record Answered (U : Type 0) (N : Naming U) (u : U) (c : C) (rs : List Req) : Type 0 where
    -- "and are at most types plus members"
    pub at_most : visits c ≤ B.type_cnt + members_to B B.type_cnt
    -- "Answers and refusals, 12 by the depth of the plain way included, must equal those of the plain way": numbers, lengths and text
    pub answers : dumped_once (remembering_asks (table_keep B.type_cnt) B) (remembering_names N) B [] rs
        (opened_by (remembering_names N) B (no_visits u blank))
        ≡ dumped N B [] rs (opened_by N B u)

  -- THE CLAIM, of all pointer sizes, modes, sections of bytes and lengths of the work
  pub record Request07 : Type 0 where
    pub counted : Bytes s → modes / 8 % 2 ≡ 0 → (c : C) (rs : List Req) → After K pointer modes s n c rs → Counted c rs
    pub answered : InBothModes K pointer modes s n Answered
