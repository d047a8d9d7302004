use native.Mathlib.Omega.{arith}
use Rattle.btf_open_names.proofs.name_classes.Keys as keys
use Rattle.btf_open_names.proofs.name_classes.Laws as laws
use Rattle.btf_open_names.proofs.keys.Spaces.{spaced}
use mathlib.Core.Path.{refl, ◌∙◌}
use Rattle.spec_type_table.specs.Cells.{class_p}
use Rattle.btf_open_names.specs.name_classes.Classes.{bucket_p, link_p}
use Rattle.btf_open_names.proofs.classify.put_holder.Goals as goal
use Rattle.btf_open_names.proofs.classify.put_holder.Goals.{then-r-k, else-r-k}

pub returns-in_default : goal.returns-in_default
returns-in_default c = laws.place_void _ _ (class_p _) (bucket_p _) (link_p _) _ _ _ _ (keys.class_void _ _ _ _ _ _ c.in_default.ensures refl) c.put.ensures c.put-in_default.ensures

pub find-r-requires : goal.find-r-requires
find-r-requires c = (keys.finds _ _ _ _ _ _ c.in-Some.ensures (spaced _) _ _ c.requires c.hash.ensures, c.in-Some.ensures)

pub returns : goal.returns
returns c =
    elim c.if-r-k.branch [
      | then-r-k w ↦ laws.place_first _ _ (class_p _) (bucket_p _) (link_p _) _ _ _ _ c.requires (keys.class_other _ _ _ _ _ _ c.in-Some.ensures (spaced _)) (keys.bucket_is _ _ _ _ _ _ c.in-Some.ensures _ _ c.hash.ensures) c.find-r.ensures w.if-r-k.true _ _ _ _ refl refl (w.work-is ∙ w.put_in_front.ensures) c.put-2.ensures
      | else-r-k w ↦ laws.place_later _ _ (class_p _) (bucket_p _) (link_p _) _ _ _ _ c.requires (keys.class_other _ _ _ _ _ _ c.in-Some.ensures (spaced _)) (keys.bucket_is _ _ _ _ _ _ c.in-Some.ensures _ _ c.hash.ensures) c.find-r.ensures (keys.places _) w.if-r-k.false _ c.put-2.new.work (λ i. omega (arith, c.type_inv.work i)) (w.work-is ∙ w.put-else-r-k.ensures) c.put-2.ensures
    ]
