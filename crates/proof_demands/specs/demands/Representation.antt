-- Emission in lent bytes against the machine of lists: when a work, a text, the next place in it and the length of the order list say what
-- a state of the machine of lists with the names of the Rust says. proofs/Request.antt: one request keeps it, and gives the same on both.
use Rattle.std.specs.Prelude.{ℕ, ◌+◌, ◌<◌, ◌≤◌, ◌≡◌, true, false, not, List, [], ◌∷◌, ◌++◌, length, get_or, take, eqb, ⊤}
use Rattle.spec_c_dumper.specs.rules.Order.{new}
use Rattle.spec_c_dumper.specs.rules.Machine.{Out, wrote, stuck, Sess, Answer}
use Rattle.spec_c_dumper.specs.rules.Place.{Wrote, wrote as written, refused}
use Rattle.spec_c_dumper.specs.rules.Names.{Names}
use Rattle.spec_c_dumper.specs.rules.Layout.{smaller}
use Rattle.spec_type_table.specs.declared.types.TypeTable.{TypeTable}
use Rattle.spec_type_table.specs.Cells.{get_field}
use Rattle.spec_type_table.specs.Table.{from, btf_of}
use Rattle.c_dumper_dependency_order.specs.order_state.Work.{mark_of}
use Rattle.spec_c_dumper.specs.needs.Lists.{Ls}
use Rattle.spec_session.specs.emission.Slices.{Slices}
use Rattle.spec_c_dumper.specs.needs.Session.{Known, text_of, machine}
use Rattle.proof_demands.specs.name_counts.Alike.{Alike}
use Rattle.proof_demands.specs.alignment_memory.Work.{SoundMemory}

-- w is the work after opening
module _ (b : TypeTable) (e : ℕ) (s w : List ℕ) where
  -- v is the work now. The table is as opening left it. Words of a type: 1 its mark in ordering, 13 in emission, 3 whether its forward line
  -- is written, 11 of the first types the order list.
  pub record Bears (v : List ℕ) (len : ℕ) (t : Ls (Known Names)) : Type 0 where
    pub table : btf_of b s v ≡ btf_of b s w
    pub names : Alike b e s w v t.known.names
    pub marks : (x : ℕ) → x < b.types → mark_of (get_field v x 1) ≡ get_or t.marks x new
    pub list : from (λ k. get_field v k 11) 0 len ≡ t.olist
    pub emits : (x : ℕ) → x < b.types → mark_of (get_field v x 13) ≡ get_or t.emits x new
    pub fwds : (x : ℕ) → x < b.types → not (eqb (get_field v x 3) 0) ≡ get_or t.fwds x false
    pub marks_n : length t.marks ≡ b.types
    pub emits_n : length t.emits ≡ b.types
    pub fwds_n : length t.fwds ≡ b.types
    -- what is remembered of alignments is what get_align_of says
    pub memory : SoundMemory (btf_of b s w) v

  -- The text: its front, from before the request, and the slice that the request is lent. They are as long as the room, and no longer than
  -- 2^30 bytes. What was written stands in the front and in the slice up to the next place.
  pub record Shows (front text : List ℕ) (at : ℕ) (t : Ls (Known Names)) : Type 0 where
    pub room : length front + length text ≡ smaller t.room 1073741824
    pub place : length front + at ≡ t.known.text_len
    pub inside : at ≤ length text
    pub so_far : front ++ take at text ≡ text_of t.pieces

  -- what a line comes to in the text and the work, and in the machine of lists
  pub data BothLine (front : List ℕ) (room len : ℕ) : Wrote (List ℕ) ⊤ → Out (Ls (Known Names)) Names → Type 0 where
    lines_on : (text : List ℕ) (at : ℕ) (v : List ℕ) (t : Ls (Known Names)) → Bears v len t → Shows front text at t → t.room ≡ room
        → BothLine front room len (written text at v) (wrote t)
    lines_stop : {u : Names} (c : ℕ) → BothLine front room len (refused tt c) (stuck u c)

  -- What a request for id x in the session S comes to, on a slice of the lent text after its front, and in the machine of lists: accepted
  -- by both, and then the work bears the new state (with an empty order list) and front and slice show its text; or refused by the same
  -- number, and the text stays.
  pub data BothRequest (front : List ℕ) (room : ℕ) (S : Sess (Ls (Known Names))) (x : ℕ) : Out Slices (Unit {0}) → Answer (Ls (Known Names))
      → Type 0 where
    both_served : (m : Slices) (t : Ls (Known Names)) → Bears m.work 0 ((machine (btf_of b s w)).start 0 t)
        → Shows front m.text m.at t → t.room ≡ room
        → BothRequest front room S x (wrote m) (record {
          sess = record { is_open = true; mach = t; asked = S.asked ++ (x ∷ []) };
          number = 0;
        })
    both_refused : (c : ℕ) (t : Ls (Known Names)) → t.known.text_len ≡ S.mach.known.text_len → t.pieces ≡ S.mach.pieces
        → BothRequest front room S x (stuck tt c) (record {
          sess = record { is_open = false; mach = t; asked = S.asked };
          number = c;
        })
