-- Demand 3 holds of the header writer's own machine: every table that opening lets pass, every list of requests, every room.
use Prim.Native.Nat.{ℕ, ◌+◌}
use native.Mathlib.Omega.{arith}
use mathlib.Core.Bool.{Bool, true, false}
use mathlib.Core.List.{List}
use mathlib.Core.Logic.{inl, inr}
use lib.ListN.{length}
use lib.Dec.{leb}
use Rattle.spec_bytes.specs.text.Text.{Text, bytes}
use Rattle.spec_c_dumper.specs.rules.Machine.{Fine, MLawful, Req, run}
use Rattle.spec_c_dumper.specs.rules.Writer.{Said, said, said_text}
use Rattle.spec_c_dumper.specs.rules.Types.{Btf, table_of}
use Rattle.spec_c_dumper.specs.rules.Layout.{smaller}
use Rattle.spec_c_dumper.specs.rules.Names.{Naming, naming}
use Rattle.spec_c_dumper.specs.rules.Emit.{definition, forward}
use Rattle.spec_c_dumper.proofs.rules.Closed.{Code}
use Rattle.spec_c_dumper.proofs.rules.Refusals.{Told, told, cut_by, tells_definition, tells_forward}
use Rattle.spec_c_dumper.specs.needs.Needs.{WF}
use Rattle.spec_c_dumper.specs.needs.Demand.{Demand3}
use Rattle.spec_c_dumper.specs.needs.Lists.{cannot}
use Rattle.spec_c_dumper.specs.needs.Session.{Known, fitting, line_of, lines_by, machine_by, opened_by, machine, no_names, opened}
use Rattle.spec_c_dumper.proofs.needs.Lists.{FineLine, fine_says, fine_cannot, FineLines, Sized, list_lawful, lists_demand3}

-- a line's refusals are no cycles
fine_code : (c : ℕ) → Code c → Fine c
fine_code c (inl e) = λ q. omega arith
fine_code c (inr (inl e)) = λ q. omega arith
fine_code c (inr (inr (inl e))) = λ q. omega arith
fine_code c (inr (inr (inr e))) = λ q. omega arith

fine_17 : Fine 17
fine_17 e = omega arith

fine_20 : Fine 20
fine_20 e = omega arith

module _ {U : Type 0} where
  fine_fitting : (len : ℕ) (u : U) (t : Text) → Told Fine t → FineLine (fitting len u t)
  unfolding fitting
  fine_fitting len u _ (told a) = fine_says _ a
  fine_fitting len u _ (cut_by a c q) = fine_cannot c q

  fine_line : (room len : ℕ) (s : Said U) → Told Fine (said_text s) → FineLine (line_of room len s)
  unfolding line_of said_text
  fine_line room len (said u t m) h = go _ (leb (len + length (bytes t)) (smaller room 1073741824))
    where
      go : (w : U) (b : Bool) → FineLine {U = Known U} (elim b [ true ↦ fitting len u t | false ↦ cannot w 17 ])
      go w true = fine_fitting len u t h
      go w false = fine_cannot 17 fine_17

module _ {U : Type 0} (N : Naming U) (B : Btf) where
  forward_fine : (room : ℕ) (k : Known U) (id : ℕ) → FineLine (line_of room k.text_len (forward N B id (B.type_by_id id) k.names))
  forward_fine room k id = fine_line room k.text_len (forward N B id (B.type_by_id id) k.names) (tells_forward N Fine fine_code (λ p. fine_20) B id (B.type_by_id id) k.names)

  definition_fine : (room : ℕ) (k : Known U) (id : ℕ) → FineLine (line_of room k.text_len (definition N B id (B.type_by_id id) k.names))
  definition_fine room k id = fine_line room k.text_len (definition N B id (B.type_by_id id) k.names) (tells_definition N Fine fine_code (λ p. fine_20) B id (B.type_by_id id) k.names)

  pub fine_lines : FineLines (lines_by N B)
  fine_lines = record { f_fwd = forward_fine; f_alias = forward_fine; f_leaf = definition_fine; f_body = definition_fine }

  -- The machine's laws, all of them: the refusals of a line are no cycles, and only a body's piece has a tag.
  pub machine_lawful : (n : ℕ) → MLawful (machine_by N B) (Sized n) n
  machine_lawful n = list_lawful (lines_by N B) fine_lines n

  pub by_demand3 : WF (table_of B) → (u : U) (rs : List Req) → Demand3 (machine_by N B) (table_of B) (run (machine_by N B) (table_of B) rs (opened_by N B u))
  by_demand3 wf u rs = lists_demand3 (lines_by N B) fine_lines (table_of B) wf _ rs

pub header_demand3 : (B : Btf) → WF (table_of B) → (rs : List Req) → Demand3 (machine B) (table_of B) (run (machine B) (table_of B) rs (opened B))
header_demand3 B wf rs = by_demand3 naming B wf (no_names B) rs
