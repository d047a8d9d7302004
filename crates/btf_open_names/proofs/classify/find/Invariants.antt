use Rattle.btf_open_names.proofs.name_classes.Laws.{Walk}
use Rattle.btf_open_names.specs.name_classes.Classes.{key_in, bucket_p, link_p}
use Rattle.btf_open_names.proofs.classify.find.Given as goal

abbrev pub invariant-loop-l : goal.invariant-loop-l
invariant-loop-l l = Walk (key_in l.all.table.head l.all.table.section.now l.work) (bucket_p l.all.table.head.types) (link_p l.all.table.head.types) l.h l.bucket l.work l.l

abbrev pub decreases-loop-l : goal.decreases-loop-l
decreases-loop-l l = l.l
