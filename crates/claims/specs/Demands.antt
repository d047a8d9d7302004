-- Demands 2 and 3 together, of any calls, over the types that the section describes and after every list of requests: statement only.
-- proofs/Demands.antt has the proofs. To be believed: the records of the Linux page (spec_linux_btf), what `load_type` keeps of them
-- (spec_type_table, Documented), the rules of the Rust, names apart, needs and chains (spec_c_dumper), and specs/Calls.
use Rattle.std.specs.Prelude.{ℕ, ◌/◌, ◌%◌, ◌≡◌, List}
use Rattle.spec_linux_btf.specs.Reading.{Bytes}
use Rattle.spec_c_dumper.specs.rules.Types.{Btf, table_of}
use Rattle.spec_c_dumper.specs.rules.Names.{Naming, Names, naming}
use Rattle.spec_c_dumper.specs.rules.Machine.{Sess, Req, run}
use Rattle.spec_c_dumper.specs.needs.Lists.{Ls}
use Rattle.spec_c_dumper.specs.needs.Session.{Known, machine_by, opened_by, no_names}
use Rattle.spec_c_dumper.specs.names_apart.Naming.{Apart, apart, none_shown}
use Rattle.spec_opening.specs.Described.{table_in}
use Rattle.claims.specs.Calls.{Calls, After}
use Rattle.claims.specs.Demand2.{Demand2, Closed}
use Rattle.claims.specs.Demand3.{Demand3}
use Rattle.claims.specs.Request01_list_of_ids.{Request01}

-- pointer size, modes, section and length of the work, as at opening
module _ {R C : Type 0} (K : Calls R C) (pointer modes : ℕ) (s : List ℕ) (n : ℕ) where
  abbrev pub B : Btf
  B = table_in pointer modes s

  -- with a way of keeping names, and the names at opening
  module _ {U : Type 0} (N : Naming U) (u : U) where
    -- the session of the rules after the requests
    abbrev pub ruled : List Req → Sess (Ls (Known U))
    ruled rs = run (machine_by N B) (table_of B) rs (opened_by N B u)

    pub record Demands (c : C) (rs : List Req) : Type 0 where
      pub demand2 : Demand2 K s (machine_by N B) (table_of B) c (ruled rs)
      pub closed : Closed K s c
      pub demand3 : Demand3 K s N B c (ruled rs)
      pub request01 : Request01 K s c (ruled rs).asked

  -- P of a session after every list of requests, over the types that the section describes, with each way of keeping names
  pub record InBothModes (P : (U : Type 0) → Naming U → U → C → List Req → Type 0) : Type 0 where
    -- with the names of the Rust
    pub plain : Bytes s → modes / 8 % 2 ≡ 0 → (c : C) (rs : List Req) → After K pointer modes s n c rs → P Names naming (no_names B) c rs
    -- with bit 3 of the modes: "a naming mode in which a suffix that yields a name in the table's same space, or one printed before in
    -- it, is passed over and the next number taken"
    pub names_apart : Bytes s → modes / 8 % 2 ≡ 1 → (c : C) (rs : List Req) → After K pointer modes s n c rs
        → P Apart (apart B) (none_shown B) c rs

  -- THE CLAIM, of all pointer sizes, modes, sections of bytes and lengths of the work
  abbrev pub Stated : Type 0
  Stated = InBothModes (λ U N u c rs. Demands N u c rs)
