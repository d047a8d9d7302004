-- The machine of emission with the ids of the definitions that it wrote, in their order. No code keeps that list: it stands beside the
-- sheet, for theorems about what is defined. What the machine does to the sheet is what `work_machine` does (proofs/Lawful).
use Rattle.std.specs.Prelude.{ℕ, List, [], ◌∷◌, ◌++◌}
use Rattle.spec_c_dumper.specs.rules.Machine.{Out, wrote, stuck, Machine}
use Rattle.spec_c_dumper.specs.rules.Types.{Btf as Rules}
use Rattle.spec_type_table.specs.declared.types.TypeTable.{TypeTable}
use Rattle.spec_session.specs.emission.Slices.{Slices, slices_store, work_machine}

pub record Tagged : Type 0 where
  pub slices : Slices
  pub tags : List ℕ

unfoldable pub tagged : List ℕ → Out Slices (Unit {0}) → Out Tagged (Unit {0})
tagged ts (wrote m) = wrote (record { slices = m; tags = ts })
tagged ts (stuck held c) = stuck held c

unfoldable pub tagged_machine : TypeTable → Rules → Machine Tagged (Unit {0})
tagged_machine b B = record {
  store = record {
    get = λ m x. slices_store.get m.slices x;
    mark = λ k x m. record { slices = slices_store.mark k x m.slices; tags = m.tags };
    push = λ x m. record { slices = slices_store.push x m.slices; tags = m.tags };
    list = λ m. slices_store.list m.slices;
  };
  start = λ room m. record { slices = (work_machine b B).start room m.slices; tags = m.tags };
  eget = λ m x. (work_machine b B).eget m.slices x;
  emark = λ k x m. record { slices = (work_machine b B).emark k x m.slices; tags = m.tags };
  has_fwd = λ m x. (work_machine b B).has_fwd m.slices x;
  forwarded = λ x m. record { slices = (work_machine b B).forwarded x m.slices; tags = m.tags };
  fwd_line = λ m x. tagged m.tags ((work_machine b B).fwd_line m.slices x);
  alias_line = λ m x. tagged m.tags ((work_machine b B).alias_line m.slices x);
  leaf_line = λ m x. tagged m.tags ((work_machine b B).leaf_line m.slices x);
  body = λ m x. tagged (m.tags ++ (x ∷ [])) ((work_machine b B).body m.slices x);
  tags = λ m. m.tags;
  held = λ m. (work_machine b B).held m.slices;
  leaving = λ held m. record { slices = (work_machine b B).leaving held m.slices; tags = m.tags };
}
