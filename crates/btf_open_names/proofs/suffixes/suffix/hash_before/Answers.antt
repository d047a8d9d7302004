use Rattle.std.proofs.Common.{arith, ap, sym, ◌∙◌, ◌≤◌, length, take}
use Rattle.std.proofs.lemmas.List.{length-take-le}
use Prim.Native.Nat.{ℕ}
use Rattle.spec_type_table.specs.Names.{up_to_zero}
use Rattle.btf_open_names.specs.name_classes.Table.{hash_from}
use Rattle.btf_open_names.proofs.suffixes.Before.{base_inside, before_by}
use Rattle.btf_open_names.proofs.suffixes.suffix.hash_before.Goals as goal

pub slice_bounds-hash_name-end : goal.slice_bounds-hash_name-end
slice_bounds-hash_name-end c = let h : c.base_len.result ≤ length c.args.name.now = omega (arith, base_inside c.args.name.now, c.base_len.ensures) in sym (length-take-le c.base_len.result c.args.name.now h)

pub returns : goal.returns
returns c =
    c.hash_name.ensures
    ∙ ap (λ (n : ℕ). hash_from c.args.start (up_to_zero (take n c.args.name.now))) c.base_len.ensures
    ∙ before_by c.args.start c.args.name.now
