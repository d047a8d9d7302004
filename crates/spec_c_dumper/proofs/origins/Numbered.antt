-- No line of the rules is refused by the number 0: the refusals of a line are 12, 15, 16, 17, 18 and 20. Assumes nothing.
use Prim.Native.Nat.{ℕ, ◌+◌}
use mathlib.Core.Path.{◌≡◌, ap}
use mathlib.Core.Bool.{Bool, true, false}
use mathlib.Core.List.{List}
use mathlib.Core.Logic.{inl, inr}
use native.Mathlib.Omega.{arith}
use lib.ListN.{length}
use lib.Dec.{leb}
use Rattle.spec_bytes.specs.text.Text.{Text, bytes}
use Rattle.spec_c_dumper.specs.rules.Machine.{Out, wrote, stuck}
use Rattle.spec_c_dumper.specs.rules.Writer.{Said, said, said_text}
use Rattle.spec_c_dumper.specs.rules.Types.{Btf}
use Rattle.spec_c_dumper.specs.rules.Layout.{smaller}
use Rattle.spec_c_dumper.specs.rules.Names.{Naming}
use Rattle.spec_c_dumper.specs.rules.Emit.{definition, forward}
use Rattle.spec_c_dumper.proofs.rules.Closed.{Code}
use Rattle.spec_c_dumper.proofs.rules.Refusals.{Told, told, cut_by, tells_definition, tells_forward}
use Rattle.spec_c_dumper.specs.needs.Lists.{Piece, cannot, Ls, put_line, other, defines}
use Rattle.spec_c_dumper.specs.needs.Session.{Known, fitting, line_of, machine_by}
use Rattle.spec_c_dumper.specs.origins.Claims.{Numbered}

abbrev NotZero : ℕ → Type 0
NotZero c = c ≡ 0 → ⊥

code_no : (c : ℕ) → Code c → NotZero c
code_no c (inl q) e = omega arith
code_no c (inr (inl q)) e = omega arith
code_no c (inr (inr (inl q))) e = omega arith
code_no c (inr (inr (inr q))) e = omega arith

module _ {U : Type 0} where
  abbrev number_in : Out (Ls (Known U)) U → ℕ
  number_in (wrote m) = 1
  number_in (stuck h e) = e

  fitting_no : (mk : List ℕ → Piece) (s : Ls (Known U)) (len : ℕ) (u : U) {x : Text} → Told NotZero x → (h : U) → put_line mk s (fitting len u x) ≡ stuck h 0 → ⊥
  unfolding fitting
  fitting_no mk s len u (told a) h e = let z : ◌≡◌ {A = ℕ} 1 0 = ap number_in e in omega arith
  fitting_no mk s len u (cut_by a c q) h e = q (ap number_in e)

  room_no : (mk : List ℕ → Piece) (s : Ls (Known U)) (len : ℕ) (u w : U) (x : Text) → Told NotZero x → (b : Bool) (h : U) → put_line mk s (elim b [ true ↦ fitting len u x | false ↦ cannot w 17 ]) ≡ stuck h 0 → ⊥
  room_no mk s len u w x t true h e = fitting_no mk s len u t h e
  room_no mk s len u w x t false h e = let z : ◌≡◌ {A = ℕ} 17 0 = ap number_in e in omega arith

  said_no : (mk : List ℕ → Piece) (s : Ls (Known U)) (room len : ℕ) (x : Said U) → Told NotZero (said_text x) → (h : U) → put_line mk s (line_of room len x) ≡ stuck h 0 → ⊥
  unfolding line_of said_text
  said_no mk s room len (said u x m) t = room_no mk s len u _ x t (leb (len + length (bytes x)) (smaller room 1073741824))

  pub machine_numbered : (N : Naming U) (B : Btf) → Numbered (machine_by N B)
  machine_numbered N B = record {
    fwd_no = λ m x. said_no other m m.room m.known.text_len (forward N B x (B.type_by_id x) m.known.names) (tells_forward N NotZero code_no (λ p e. omega arith) B x (B.type_by_id x) m.known.names);
    alias_no = λ m x. said_no other m m.room m.known.text_len (forward N B x (B.type_by_id x) m.known.names) (tells_forward N NotZero code_no (λ p e. omega arith) B x (B.type_by_id x) m.known.names);
    leaf_no = λ m x. said_no other m m.room m.known.text_len (definition N B x (B.type_by_id x) m.known.names) (tells_definition N NotZero code_no (λ p e. omega arith) B x (B.type_by_id x) m.known.names);
    body_no = λ m x. said_no (defines x) m m.room m.known.text_len (definition N B x (B.type_by_id x) m.known.names) (tells_definition N NotZero code_no (λ p e. omega arith) B x (B.type_by_id x) m.known.names);
  }
