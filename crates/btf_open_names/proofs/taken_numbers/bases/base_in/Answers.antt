use Rattle.btf_open_names.proofs.taken_numbers.Seek.{seek_start, seek_less, seek_found, seek_turn}
use Rattle.btf_open_names.specs.filled_work.Takers.{suffix_on}
use Rattle.btf_open_names.specs.suffixes.Before.{hash_before}
use Rattle.btf_open_names.proofs.name_classes.Names.{name_of_rest}
use mathlib.Core.List.{List}
use Rattle.std.proofs.Common.{Some}
use Rattle.btf_open_names.specs.name_classes.Classes.{key_in}
use Rattle.btf_open_names.specs.suffixes.Based.{base_with}
use Rattle.btf_open_names.proofs.suffixes.Based.{based_none, based_some, spaceless, with_not, with_is}
use Prim.Native.Nat.{ℕ}
use mathlib.Core.Path.{refl, ap, ap₂, ◌∙◌}
use native.Mathlib.Omega.{arith}
use Rattle.btf_open_names.proofs.taken_numbers.bases.base_in.Goals as goal

pub returns-in_err-key : goal.returns-in_err-key
returns-in_err-key c = c.from_residual.ensures ∙ spaceless _ _ _ _ c.in_err-key.ensures

pub loop-c-init : goal.loop-c-init
loop-c-init c =
    let r = c.hash_before.ensures ∙ ap₂ hash_before c.from.ensures (name_of_rest _ _ _ c.from_name.ensures) in
    seek_start _ _ _ _ _ c.requires.1 _ _ c.in_ok-key.ensures _ r _ (omega arith) c.get-c.ensures

pub returns-in-Some : goal.returns-in-Some
returns-in-Some c =
    let key = key_in c.args.all.now.table.head c.args.all.now.table.section.now c.args.work.now in
    let r = c.hash_before.ensures ∙ ap₂ hash_before c.from.ensures (name_of_rest _ _ _ c.from_name.ensures) in
    let f = with_is _ _ _ (c.in-Some.ensures ∙ ap (λ (l : List ℕ). base_with c.loop-c.c (suffix_on (key c.loop-c.c) l)) c.in_ok-key.ensures) in
    ap Some f.0 ∙ based_some _ _ _ _ _ c.loop-c-test.true (seek_found _ _ _ _ _ c.requires.1 _ _ c.in_ok-key.ensures _ r _ c.loop-c.invariant c.loop-c-test.true _ refl f.1) refl

pub loop-c-smaller : goal.loop-c-smaller
loop-c-smaller c =
    let r = c.hash_before.ensures ∙ ap₂ hash_before c.from.ensures (name_of_rest _ _ _ c.from_name.ensures) in
    seek_less _ _ _ _ _ c.requires.1 _ _ c.in_ok-key.ensures _ r _ c.loop-c.invariant c.loop-c-test.true _ c.get-c-in-loop-c.ensures

pub loop-c-preserved : goal.loop-c-preserved
loop-c-preserved c =
    let key = key_in c.args.all.now.table.head c.args.all.now.table.section.now c.args.work.now in
    let r = c.hash_before.ensures ∙ ap₂ hash_before c.from.ensures (name_of_rest _ _ _ c.from_name.ensures) in
    seek_turn _ _ _ _ _ c.requires.1 _ _ c.in_ok-key.ensures _ r _ c.loop-c.invariant c.loop-c-test.true _ refl _
    (with_not _ _ (c.in_default.ensures ∙ ap (λ (l : List ℕ). base_with c.loop-c.c (suffix_on (key c.loop-c.c) l)) c.in_ok-key.ensures)) c.get-c-in-loop-c.ensures

pub returns : goal.returns
returns c = based_none _ _ _ (c.loop-c.invariant.done c.loop-c-test.false)
