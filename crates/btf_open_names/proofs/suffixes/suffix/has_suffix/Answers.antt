use Rattle.std.proofs.Common.{arith, ap, ◌∙◌, ◌≤◌, length}
use Prim.Native.Nat.{ℕ}
use lib.Dec.{leb}
use mathlib.Core.List.{List}
use Rattle.spec_type_table.specs.Names.{name_at}
use Rattle.btf_open_names.proofs.name_classes.Names.{name_of_part}
use Rattle.btf_open_names.specs.filled_work.Takers.{suffix_in}
use Rattle.btf_open_names.proofs.suffixes.Before.{base_inside, any_by}
use Rattle.btf_open_names.proofs.suffixes.suffix.has_suffix.Goals as goal

pub slice_bounds-is_suffix-count : goal.slice_bounds-is_suffix-count
slice_bounds-is_suffix-count c = omega (arith, base_inside c.args.name.now, c.base_len.ensures)

pub slice_bounds-is_suffix-start : goal.slice_bounds-is_suffix-start
slice_bounds-is_suffix-start c = let h : c.base_len.result ≤ length c.args.name.now = omega (arith, base_inside c.args.name.now, c.base_len.ensures) in h

pub returns : goal.returns
returns c =
    c.is_suffix.ensures
    ∙ ap (λ (l : List ℕ). leb 2 (suffix_in l)) (name_of_part c.args.name.now c.base_len.result)
    ∙ ap (λ (n : ℕ). leb 2 (suffix_in (name_at c.args.name.now n))) c.base_len.ensures
    ∙ any_by c.args.name.now
