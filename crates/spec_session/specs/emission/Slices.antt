-- Emission in the lent slices: the machine of the rules over the work, the text and the place in it.
use Rattle.std.specs.Prelude.{ℕ, zero, suc, Bool, true, false, not, List, [], eqb, Ok}
use Rattle.spec_bytes.specs.text.Placed.{Placed}
use Rattle.spec_c_dumper.specs.rules.Order.{Node, ignored, plain, listed, through, ptr, tdef, proto, comp, Mark, new, busy, done, Store}
use Rattle.spec_c_dumper.specs.rules.Machine.{Out, wrote, stuck, Machine, emit}
use Rattle.spec_c_dumper.specs.rules.Types.{Btf as Rules, table_of}
use Rattle.spec_c_dumper.specs.rules.Writer.{Writer}
use Rattle.spec_c_dumper.specs.rules.Place.{Wrote, wrote as written, refused as cut_off, out_of, put_said}
use Rattle.spec_c_dumper.specs.alignment_once.Writers.{definition_once, forward_once}
use Rattle.btf_layout.specs.asked.Asked.{work_asks}
use Rattle.spec_type_table.specs.declared.types.TypeTable.{TypeTable}
use Rattle.spec_type_table.specs.Cells.{get_field, put_field}
use Rattle.spec_type_table.specs.Table.{work_naming}
use Rattle.c_dumper_dependency_order.specs.order_state.Work.{Marks, mark_of, code, work_store}

-- the work, the text, the next place in it, and how many places of the order list are taken
pub record Slices : Type 0 where
  pub work : List ℕ
  pub text : List ℕ
  pub at : ℕ
  pub len : ℕ

abbrev pub marks_in : Slices → Marks
marks_in m = record { work = m.work; len = m.len }

abbrev pub with_marks : Slices → Marks → Slices
with_marks m k = record { work = k.work; text = m.text; at = m.at; len = k.len }

abbrev pub with_work : Slices → List ℕ → Slices
with_work m w = record { work = w; text = m.text; at = m.at; len = m.len }

-- ordering's store, with the text beside it
unfoldable pub slices_store : Store Slices
slices_store = record {
  get = λ m x. work_store.get (marks_in m) x;
  mark = λ k x m. with_marks m (work_store.mark k x (marks_in m));
  push = λ x m. with_marks m (work_store.push x (marks_in m));
  list = λ m. work_store.list (marks_in m);
}

-- the first n places of the order list, emptied
unfoldable pub emptied : ℕ → List ℕ → List ℕ
emptied zero w = w
emptied (suc k) w = put_field (emptied k w) k 11 0

-- what was written, as a sheet whose order list has n places; or the refusal
unfoldable pub slices_of : ℕ → Wrote (List ℕ) (Unit {0}) → Out Slices (Unit {0})
slices_of n (written t at w) = wrote (record { work = w; text = t; at = at; len = n })
slices_of n (cut_off h c) = stuck h c

-- what the code's place says, with the text and the work at that moment
abbrev pub emit_out : ℕ → Placed → List ℕ → List ℕ → Out Slices (Unit {0})
emit_out n at t w = slices_of n (out_of at t w)

-- a writer's text, put at the sheet's place
unfoldable pub line_in : Writer (List ℕ) → Slices → Out Slices (Unit {0})
line_in v m = slices_of m.len (put_said m.text (Ok m.at) v m.work)

module _ (b : TypeTable) (B : Rules) where
  -- Lines by the remembering way: alignments are remembered in the work. Emission's marks stand in words 13, the flags of forward lines in
  -- words 3. The text is the lent slice, so `start` has no room to set. No list of tags is kept: whoever reasons about what is defined
  -- carries it beside the sheet.
  unfoldable pub work_machine : Machine Slices (Unit {0})
  work_machine = record {
    store = slices_store;
    start = λ room m. record { work = emptied m.len m.work; text = m.text; at = m.at; len = 0 };
    eget = λ m x. mark_of (get_field m.work x 13);
    emark = λ k x m. with_work m (put_field m.work x 13 (code k));
    has_fwd = λ m x. not (eqb (get_field m.work x 3) 0);
    forwarded = λ x m. with_work m (put_field m.work x 3 1);
    fwd_line = λ m x. line_in (forward_once (work_asks b.types B) (work_naming b) B x (B.type_by_id x)) m;
    alias_line = λ m x. line_in (forward_once (work_asks b.types B) (work_naming b) B x (B.type_by_id x)) m;
    leaf_line = λ m x. line_in (definition_once (work_asks b.types B) (work_naming b) B x (B.type_by_id x)) m;
    body = λ m x. line_in (definition_once (work_asks b.types B) (work_naming b) B x (B.type_by_id x)) m;
    tags = λ m. [];
    held = λ m. tt;
    leaving = λ held m. m;
  }

  -- the rule `emit` over it
  unfoldable pub emit_in : ℕ → ℕ → Slices → ℕ → Out Slices (Unit {0})
  emit_in left cont m x = emit work_machine (table_of B) left m x cont

-- A request for an id that is ordered, or is a function, a variable, a section or a tag, has nothing to do.
unfoldable pub is_ignored : Node → Bool
is_ignored ignored = true
is_ignored plain = false
is_ignored (listed f) = false
is_ignored (through a t) = false
is_ignored (ptr t) = false
is_ignored (tdef t) = false
is_ignored (proto ts) = false
is_ignored (comp ms) = false

unfoldable pub is_idle : Mark → Node → Bool
is_idle new nd = is_ignored nd
is_idle busy nd = false
is_idle done nd = true
