-- With a list the walk is the rule `emit_traced` of the line origins; without one it is the plain rule, with the entries as they were. Assumes nothing.
use Prim.Native.Nat.{ℕ, zero, suc}
use mathlib.Core.Path.{◌≡◌, refl, ap, ◌∙◌, sym}
use mathlib.Core.List.{List, [], ◌∷◌}
use mathlib.Core.Bool.{true, false}
use Rattle.spec_c_dumper.specs.rules.Machine.{Out, wrote, stuck, Machine, obind, eeach, look, emit}
use Rattle.spec_c_dumper.specs.rules.Types.{Btf as Rules, table_of}
use Rattle.spec_c_dumper.proofs.rules.Maps.{omap, MachineMap, map_emit}
use Rattle.spec_c_dumper.specs.origins.Causes.{Entry, Traced, with_entries, up_to, line, noting, emit_traced, shows_in, each_listed}
use Rattle.spec_type_table.specs.declared.types.TypeTable.{TypeTable}
use Rattle.spec_session.specs.emission.Slices.{Slices, work_machine, emit_in}
use Rattle.c_dumper_emit.specs.entries.Traced.{Lent, mach_n, emit_n}

module _ (b : TypeTable) (B : Rules) (room : ℕ) (why : ℕ → Entry) where
  -- ---- with a list
  abbrev held : Lent
  held = record { lists = true; room = room }

  pub emit_lists : (left cont : ℕ) (m : Traced Slices) (x : ℕ) → emit_n b B held why left cont m x ≡ emit_traced (work_machine b B) (up_to room) (shows_in B) why (table_of B) left m x cont
  unfolding emit_n emit_traced
  emit_lists zero cont m x = refl
  emit_lists (suc left) cont m x =
      ap (λ (rec : Traced Slices → ℕ → ℕ → Out (Traced Slices) (Unit {0})). look (noting (work_machine b B) (up_to room) (shows_in B) why cont) (table_of B) rec m x cont ((work_machine b B).eget m.mach x))
      (λ i m' y c. emit_lists left c m' y i)

  pub each_lists : (ys : List ℕ) (m : Traced Slices) → eeach (emit_n b B held why 512 0) ys m ≡ each_listed (work_machine b B) (table_of B) (up_to room) (shows_in B) why ys m
  each_lists ys m = ap (λ (f : Traced Slices → ℕ → Out (Traced Slices) (Unit {0})). eeach f ys m) (λ i m' y. emit_lists 512 0 m' y i)

  -- ---- without one
  abbrev none : Lent
  none = record { lists = false; room = room }

  abbrev plainly : Machine (Traced Slices) (Unit {0})
  plainly = mach_n b B none why 0

  abbrev beside : List Entry → Slices → Traced Slices
  beside es m = record { mach = m; entries = es }

  -- no line has an entry, so the container does not matter
  emit_one : (left cont : ℕ) (m : Traced Slices) (x : ℕ) → emit_n b B none why left cont m x ≡ emit plainly (table_of B) left m x cont
  unfolding emit_n emit line
  emit_one zero cont m x = refl
  emit_one (suc left) cont m x =
      ap (λ (rec : Traced Slices → ℕ → ℕ → Out (Traced Slices) (Unit {0})). look plainly (table_of B) rec m x cont ((work_machine b B).eget m.mach x)) (λ i m' y c. emit_one left c m' y i)

  with_is : (es : List Entry) (o : Out Slices (Unit {0})) → with_entries es o ≡ omap (beside es) (λ h. h) o
  unfolding with_entries
  with_is es (wrote m) = refl
  with_is es (stuck h c) = refl

  plain_map : (es : List Entry) → MachineMap (work_machine b B) plainly (beside es) (λ h. h)
  unfolding line
  plain_map es = record {
    stores = record { gets = λ s x. refl; marks = λ d x s. refl; pushes = λ x s. refl; lists = λ s. refl };
    starts = λ r s. refl;
    egets = λ s x. refl;
    emarks = λ d x s. refl;
    flags = λ s x. refl;
    flagged = λ x s. refl;
    fwd_lines = λ s x. with_is es ((work_machine b B).fwd_line s x);
    alias_lines = λ s x. with_is es ((work_machine b B).alias_line s x);
    leaf_lines = λ s x. with_is es ((work_machine b B).leaf_line s x);
    bodies = λ s x. with_is es ((work_machine b B).body s x);
    helds = λ s. refl;
  }

  -- THE LAW of the plain caller
  pub emit_plain : (left cont : ℕ) (m : Traced Slices) (x : ℕ) → emit_n b B none why left cont m x ≡ with_entries m.entries (emit_in b B left cont m.mach x)
  unfolding emit_in
  emit_plain left cont m x = emit_one left cont m x ∙ map_emit (work_machine b B) plainly (beside m.entries) (λ h. h) (plain_map m.entries) (table_of B) left m.mach x cont
      ∙ sym (with_is m.entries (emit (work_machine b B) (table_of B) left m.mach x cont))

  pub then_plain : (es : List Entry) (o : Out Slices (Unit {0})) (f : Traced Slices → Out (Traced Slices) (Unit {0})) (g : Slices → Out Slices (Unit {0})) → ((k : Slices) → f (beside es k) ≡ with_entries es (g k)) → obind (with_entries es o) f ≡ with_entries es (obind o g)
  unfolding with_entries obind
  then_plain es (wrote k) f g h = h k
  then_plain es (stuck m c) f g h = refl

  pub each_plain : (es : List Entry) (ys : List ℕ) (k : Slices) → eeach (emit_n b B none why 512 0) ys (beside es k) ≡ with_entries es (eeach (emit_in b B 512 0) ys k)
  unfolding eeach with_entries
  each_plain es [] k = refl
  each_plain es (y ∷ ys) k =
      ap (λ (o : Out (Traced Slices) (Unit {0})). obind o (eeach (emit_n b B none why 512 0) ys)) (emit_plain 512 0 (beside es k) y)
      ∙ then_plain es (emit_in b B 512 0 k y) (eeach (emit_n b B none why 512 0) ys) (eeach (emit_in b B 512 0) ys) (λ k'. each_plain es ys k')
