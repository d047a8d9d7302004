-- What causes 6, 7 and 8 of opening see of a table, in the terms of its described types.
use Rattle.std.specs.Prelude.{ℕ, suc, ◌+◌, ◌<◌, ◌≡◌, length, get_or}
use mathlib.Core.List.{List, Memᴰ}
use Rattle.spec_linux_btf.specs.Documentation.{Described}
use Rattle.spec_linux_btf.specs.Fields.{kind_in}
use Rattle.spec_type_table.specs.declared.types.TypeTable.{TypeTable}
use Rattle.spec_type_table.specs.Records.{section_word}
use Rattle.btf_open_causes.specs.references.Followed.{type_count, kind_at, place_of, followed_count, followed_id}
use Rattle.spec_cut.specs.section.Kept.{followed_ids, void_type, type_of, third}

-- c, s and start: the table, the section and the index of `btf_open_causes::references`; ts: the types
pub record SeenFrom (c : TypeTable) (s start : List ℕ) (ts : List Described) : Type 0 where
  pub count : type_count c ≡ suc (length ts)
  pub zero_kind : kind_at c start 0 ≡ 0
  pub kind : (i : ℕ) → i < length ts → kind_at c start (suc i) ≡ kind_in (get_or ts i void_type)
  -- the third word, what a DECL_TAG is on
  pub third_word : (i : ℕ) → i < length ts → section_word c s (place_of c start (suc i) + 8) ≡ third (get_or ts i void_type)
  -- the ids that type x follows are the followed ids of its record
  pub to : (x k : ℕ) → k < followed_count c s start x → Memᴰ (followed_id c s start x k) (followed_ids (type_of ts x))
  pub from : (x y : ℕ) → Memᴰ y (followed_ids (type_of ts x))
      → (k : ℕ) × (k < followed_count c s start x) × (followed_id c s start x k ≡ y)
