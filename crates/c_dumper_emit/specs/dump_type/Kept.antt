-- One request, as the code has it: ordering, under a ceiling or without one, with words for the leaders of 262145 ids, which are all that a
-- table has, and then the listed ids, each at the top, with an entry for each line where a list is lent. The words serve the requests of a
-- call one after another: each has its turn. That it is the request of the definitions: proofs/dump_type.
use Rattle.std.specs.Prelude.{ℕ, ◌/◌, ◌<◌, false, List, replicate}
use Rattle.spec_c_dumper.specs.ceiling.Ceiling.{Limit, Told, told, halted}
use Rattle.spec_c_dumper.specs.rules.Machine.{Out, wrote, stuck, obind, eeach}
use Rattle.spec_c_dumper.specs.rules.Types.{Btf as Rules, table_of}
use Rattle.spec_type_table.specs.declared.types.TypeTable.{TypeTable}
use Rattle.spec_session.specs.emission.Slices.{Slices, marks_in, with_marks, slices_store, work_machine}
use Rattle.spec_c_dumper.specs.origins.Causes.{Traced}
use Rattle.c_dumper_dependency_order.specs.declared.leaders.Way.{Way}
use Rattle.c_dumper_dependency_order.specs.leaders.Leaders.{word_at, MarksAndLeaders, order_kept, entry_in}
use Rattle.c_dumper_emit.specs.entries.Traced.{Lent, emit_n}

-- before the first request of a call
unfoldable pub no_leaders : List ℕ
no_leaders = replicate 262145 0

-- all that is noted was noted before this turn
unfoldable pub Before : ℕ → List ℕ → Type 0
Before turn l = (x : ℕ) → word_at l x / 4294967296 < turn

-- nothing is being ordered around the requested id
abbrev pub way_to : ℕ → ℕ → Way
way_to id turn = record { inner = id; lead = id; turn = turn }

-- a sheet with the entries so far, and the leaders
pub record Beside : Type 0 where
  pub traced : Traced Slices
  pub leaders : List ℕ

-- after a refusal nothing is said of them
unfoldable pub with_leaders : List ℕ → Out (Traced Slices) (Unit {0}) → Out Beside (Unit {0})
with_leaders l (wrote m) = wrote (record { traced = m; leaders = l })
with_leaders l (stuck held c) = stuck held c

-- ordering as a request starts it, after so many calls
unfoldable pub ordered_kept : Rules → Limit → Slices → List ℕ → ℕ → ℕ → ℕ → Told MarksAndLeaders
ordered_kept B lim m l id turn made =
    order_kept lim (way_to id turn) 512 (table_of B) (record { marks = marks_in m; leaders = l }) id false made

module _ (b : TypeTable) (B : Rules) (lent : Lent) where
  -- the sheet that ordering left, with the entries so far
  abbrev pub beside_kept : Traced Slices → MarksAndLeaders → Traced Slices
  beside_kept m s = record { mach = with_marks m.mach s.marks; entries = m.entries }

  unfoldable pub each_kept : ℕ → ℕ → Traced Slices → MarksAndLeaders → Out (Traced Slices) (Unit {0})
  each_kept id turn m s =
      eeach (emit_n b B lent (entry_in id turn s.leaders) 512 0) (slices_store.list (with_marks m.mach s.marks)) (beside_kept m s)

  unfoldable pub listed_kept : ℕ → ℕ → Traced Slices → Told MarksAndLeaders → Out Beside (Unit {0})
  listed_kept id turn m (told s strong made) =
      with_leaders s.leaders (obind (each_kept id turn m s) (λ k. wrote (record {
        mach = (work_machine b B).start 0 k.mach;
        entries = k.entries;
      })))
  listed_kept id turn m (halted c made) = stuck ((work_machine b B).held m.mach) c

  unfoldable pub dumped_kept : Limit → Beside → ℕ → ℕ → ℕ → Out Beside (Unit {0})
  dumped_kept lim m id turn made = listed_kept id turn m.traced (ordered_kept B lim m.traced.mach m.leaders id turn made)
