-- Emission in the lent slices: the rules over the work, the text and, where a call is lent one, the list with an entry for each line.
use Rattle.std.specs.Prelude.{ℕ, zero, suc, ◌+◌, ◌*◌, Bool, true, false, not, ◌&&◌, ◌||◌, List, [], ◌∷◌, ◌++◌, length, eqb, ltb}
use Rattle.std.specs.Prelude.{Result, Ok, Err}
use Rattle.spec_bytes.specs.Refusals.{refusal_number}
use Rattle.spec_bytes.specs.declared.refusal.Refusal.{Refusal}
use Rattle.spec_bytes.specs.words.Words.{get_word, put_word}
use Rattle.spec_c_dumper.specs.rules.Order.{comp}
use Rattle.spec_c_dumper.specs.rules.Machine.{Out, wrote, stuck, Machine, is_zero, obind, once, again, leaf, begin, look}
use Rattle.spec_c_dumper.specs.rules.Types.{BtfType, Btf as Rules, name_of, table_of}
use Rattle.spec_c_dumper.specs.rules.Names.{builtin}
use Rattle.spec_c_dumper.specs.rules.Writer.{Writer}
use Rattle.spec_c_dumper.specs.alignment_once.Writers.{definition_once, forward_once}
use Rattle.btf_layout.specs.asked.Asked.{work_asks}
use Rattle.spec_type_table.specs.declared.types.TypeTable.{TypeTable}
use Rattle.spec_type_table.specs.Cells.{put_field}
use Rattle.spec_type_table.specs.Table.{work_naming}
use Rattle.spec_session.specs.emission.Slices.{Slices, with_work, emit_out, line_in, work_machine}
use Rattle.spec_c_dumper.specs.origins.Causes.{Entry, entry, Traced, with_entries, up_to, line, cause_at, noting, shows_in, entries_in}
use Rattle.c_dumper_emit.specs.declared.entries.Pen.{Pen}
use Rattle.c_dumper_emit.specs.declared.entries.Cause.{Cause}
use Rattle.c_dumper_emit.specs.declared.entries.Cause.TheVariants.{Requested, Needed, ForwardLine, EarlyTypedef}
use Rattle.c_dumper_emit.specs.declared.entries.Origin.{Origin}

-- ---- the lent list: three words an entry
unfoldable pub entry_at : List ℕ → ℕ → Entry
entry_at l k = entry (get_word l (k * 3)) (get_word l (k * 3 + 1)) (get_word l (k * 3 + 2))

-- its first entries
unfoldable pub entries_of : ℕ → List ℕ → List Entry
entries_of zero l = []
entries_of (suc k) l = entries_of k l ++ (entry_at l k ∷ [])

abbrev pub cause_code : Cause → ℕ
cause_code Requested = 0
cause_code Needed = 1
cause_code ForwardLine = 2
cause_code EarlyTypedef = 3

abbrev pub entry_of : Origin → Entry
entry_of e = entry e.id e.cause e.leader

unfoldable pub entry_put : List ℕ → ℕ → Entry → List ℕ
entry_put l k e = put_word (put_word (put_word l (k * 3) e.id) (k * 3 + 1) e.cause) (k * 3 + 2) e.leader

-- what the code's place and count say, with text, work and list at that moment, or its refusal; n: the length of the order list
unfoldable pub traced_out : ℕ → Result Pen Refusal → List ℕ → List ℕ → List ℕ → Out (Traced Slices) (Unit {0})
traced_out n (Ok p) t w l = with_entries (entries_of p.count l) (emit_out n (Ok p.at) t w)
traced_out n (Err c) t w l = stuck tt (refusal_number c)

-- ---- a line

-- "A lent list too short for one more entry is 17, met before any other step of that line"; room: how many entries it holds
unfoldable pub note_n : ℕ → Entry → Traced Slices → Out (Traced Slices) (Unit {0})
note_n room e m =
    elim (ltb (length m.entries) room) [
      | true ↦ wrote (record { mach = m.mach; entries = m.entries ++ (e ∷ []) })
      | false ↦ stuck tt 17
    ]

unfoldable pub note_if_n : Bool → ℕ → Entry → Traced Slices → Out (Traced Slices) (Unit {0})
note_if_n true room e m = note_n room e m
note_if_n false room e m = wrote m

-- whether a call is lent a list of entries, and how many entries it holds
pub record Lent : Type 0 where
  pub lists : Bool
  pub room : ℕ

abbrev pub lent_list : Bool → List ℕ → Lent
lent_list lists l = record { lists = lists; room = entries_in l }

-- an entry, if there is a list and the line shows anything, and what the writer says
unfoldable pub line_n : Lent → Bool → Entry → Writer (List ℕ) → Traced Slices → Out (Traced Slices) (Unit {0})
line_n lent shown e v m = line (λ k. tt) (up_to lent.room) (lent.lists && shown) e (λ k. line_in v k) m

-- whether the forward line or the typedef of such a type prints anything
abbrev pub shown_of : BtfType → Bool
shown_of ty = not (builtin (name_of ty))

-- ---- the clauses of the rules. why: the entry of a listed id
module _ (b : TypeTable) (B : Rules) (lent : Lent) (why : ℕ → Entry) where
  -- the machine `noting` of the line origins, whose lines are entries only where there is a list
  abbrev pub noting_n : ℕ → Machine (Traced Slices) (Unit {0})
  noting_n cont = noting (work_machine b B) (up_to lent.room) (shows_in B) why cont

  abbrev pub mach_n : ℕ → Machine (Traced Slices) (Unit {0})
  mach_n cont = record {
    store = (noting_n cont).store;
    start = (noting_n cont).start;
    eget = (noting_n cont).eget;
    emark = (noting_n cont).emark;
    has_fwd = (noting_n cont).has_fwd;
    forwarded = (noting_n cont).forwarded;
    fwd_line = λ s x.
        line (work_machine b B).held (up_to lent.room) (lent.lists && shows_in B x) (entry x 2 cont)
        (λ m. (work_machine b B).fwd_line m x) s;
    alias_line = λ s x.
        line (work_machine b B).held (up_to lent.room) (lent.lists && shows_in B x) (cause_at 3 (why x) x cont)
        (λ m. (work_machine b B).alias_line m x) s;
    leaf_line = λ s x.
        line (work_machine b B).held (up_to lent.room) (lent.lists && true) (cause_at 2 (why x) x cont)
        (λ m. (work_machine b B).leaf_line m x) s;
    body = λ s x. line (work_machine b B).held (up_to lent.room) (lent.lists && true) (why x) (λ m. (work_machine b B).body m x) s;
    tags = (noting_n cont).tags;
    held = (noting_n cont).held;
    leaving = (noting_n cont).leaving;
  }

  -- the rule `emit`: each call with the machine of its container, as `emit_traced` has it
  unfoldable pub emit_n : ℕ → ℕ → Traced Slices → ℕ → Out (Traced Slices) (Unit {0})
  emit_n zero cont m x = stuck ((work_machine b B).held m.mach) 12
  emit_n (suc left) cont m x = look (mach_n cont) (table_of B) (λ m' y c. emit_n left c m' y) m x cont ((work_machine b B).eget m.mach x)

  unfoldable pub new_n : ℕ → ℕ → Traced Slices → ℕ → Out (Traced Slices) (Unit {0})
  new_n left cont m x = begin (mach_n cont) (table_of B) (λ m' y c. emit_n left c m' y) m x cont (is_zero cont) ((table_of B).node x)

  unfoldable pub again_n : ℕ → Traced Slices → ℕ → Out (Traced Slices) (Unit {0})
  again_n cont m x = again (mach_n cont) (table_of B) m x cont ((table_of B).node x)

  unfoldable pub leaf_n : Bool → ℕ → Traced Slices → ℕ → Out (Traced Slices) (Unit {0})
  leaf_n is_fwd cont m x = leaf (mach_n cont) (table_of B) (is_fwd || is_zero cont) x m

  unfoldable pub composite_n : ℕ → ℕ → List ℕ → Traced Slices → ℕ → Out (Traced Slices) (Unit {0})
  composite_n left cont members m x = begin (mach_n cont) (table_of B) (λ m' y c. emit_n left c m' y) m x cont (is_zero cont) (comp members)

-- the emit state of an id set
abbrev pub state_n : ℕ → ℕ → Traced Slices → Traced Slices
state_n x k m = record { mach = with_work m.mach (put_field m.mach.work x 13 k); entries = m.entries }

-- The line that comes once for each id, of the type ty, with the entry e; the forward line of a composite within cont; and lines with the
-- emit state around them.
module _ (b : TypeTable) (B : Rules) (lent : Lent) where
  unfoldable pub has_n : Traced Slices → ℕ → Bool
  has_n m x = (work_machine b B).has_fwd m.mach x

  unfoldable pub once_n : BtfType → Entry → Bool → Traced Slices → ℕ → Out (Traced Slices) (Unit {0})
  once_n ty e had m x =
      once (mach_n b B lent (λ y. e) 0) (table_of B)
      (λ m' y. line_n lent (shown_of ty) e (forward_once (work_asks b.types B) (work_naming b) B y ty) m') x had m

  unfoldable pub mention_n : BtfType → ℕ → Traced Slices → ℕ → Out (Traced Slices) (Unit {0})
  mention_n ty cont m x = once_n ty (entry x 2 cont) (has_n m x || eqb x cont) m x

  -- a typedef's line, unless it had one; then it is done
  unfoldable pub typedef_n : BtfType → Entry → Traced Slices → ℕ → Out (Traced Slices) (Unit {0})
  typedef_n ty e m x = obind (once_n ty e (has_n m x) m x) (λ k. wrote (state_n x 2 k))

  -- a named composite within cont: the forward line, while it is begun
  unfoldable pub mentioned_n : BtfType → ℕ → Traced Slices → ℕ → Out (Traced Slices) (Unit {0})
  mentioned_n ty cont m x = obind (mention_n ty cont (state_n x 1 m) x) (λ k. wrote (state_n x 0 k))

  -- after the members: at the top the definition, and it is done; else it is new again
  unfoldable pub ended_n : Bool → BtfType → Entry → Traced Slices → ℕ → Out (Traced Slices) (Unit {0})
  ended_n true ty e m x =
      obind (line_n lent true e (definition_once (work_asks b.types B) (work_naming b) B x ty) m) (λ k. wrote (state_n x 2 k))
  ended_n false ty e m x = wrote (state_n x 0 m)
