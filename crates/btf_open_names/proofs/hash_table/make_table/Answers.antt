use Prim.Native.Nat.{ℕ}
use mathlib.Core.Path.{refl, ◌∙◌}
use Rattle.btf_type_table.specs.declared.table.Table.{Table}
use Rattle.btf_open_names.specs.hash_table.Hashed.{has_room, table_in}
use Rattle.btf_open_names.proofs.holders.Laws.{given_back, unnumbered}
use Rattle.btf_open_names.proofs.hash_table.Laws.{room_none, table_none}
use Rattle.btf_open_names.proofs.hash_table.make_table.Goals as goal

pub returns-in-Some : goal.returns-in-Some
returns-in-Some c =
    let f = c.in-Some.ensures.some in (
      c.put_table.ensures.0 ∙ given_back (λ (b : Table) (e : ℕ). has_room b.head.types e c.args.work.now) _ _ _ _ f,
      c.put_table.ensures.1 ∙ given_back (λ (b : Table) (e : ℕ). table_in b.head e b.section.now c.args.work.now) _ _ _ _ f,
    )

pub returns-in-None : goal.returns-in-None
returns-in-None c = let r = room_none _ _ _ (unnumbered _ _ c.args.work.now c.in-None.ensures.none) in (r, table_none _ _ _ _ _ r refl)
