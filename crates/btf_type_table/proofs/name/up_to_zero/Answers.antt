use Rattle.std.proofs.Common.{rules, tests, ◌≡◌, ℕ, List, false, length, take, refl}
use Rattle.std.specs.Prelude.{position, Option, unwrap_or, ◌==◌}
use Rattle.std.proofs.lemmas.Iterator.{YieldsList-from_slice}
use Rattle.std.proofs.lemmas.Iterator.Search.{position_from_yields_List}
use Rattle.spec_type_table.specs.Names.{up_to_zero, name_at}
use Rattle.spec_type_table.proofs.NameLaws.{str_before}
use Rattle.btf_type_table.proofs.name.up_to_zero.Goals as goal

-- the law of a name, at the start of a section whose string area starts there
first_zero : (l : List ℕ) (o : Option ℕ) (n : ℕ) → o ≡ position (λ x. x == 0) l → n ≡ unwrap_or o (length l) → take n l ≡ up_to_zero l
unfolding name_at
first_zero l o n eo en = str_before (record { ptr_sz = 0; union_as_struct = false; big_endian = false; strong_arrays = false; placing = false; types = 0; strs = 0 }) l 0 l o n refl eo en

pub returns : goal.returns
returns c =
    let e : c.position.result ≡ position (λ x. x == 0) c.args.rest.now = position_from_yields_List (λ x. x == 0) _ _ _ c.position.ensures.ran (YieldsList-from_slice c.args.rest.now cc) (λ x b q k. search (rules, tests)) in
    first_zero _ _ _ e c.unwrap_or-len.ensures
