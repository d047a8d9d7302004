-- The measuring of a body over the work, in which alignments are remembered.
use Rattle.std.specs.Prelude.{ℕ, Bool, List}
use Rattle.spec_c_dumper.specs.rules.Types.{Member, Btf}
use Rattle.spec_c_dumper.specs.alignment_once.Once.{Once, once_then}
use Rattle.spec_c_dumper.specs.alignment_once.Steps.{plainly, packed_once, judged as judged_by, measured_once, body_once}
use Rattle.btf_layout.specs.remembered.Words.{work_keep, forget}

module _ (types : ℕ) (B : Btf) where
  unfoldable pub by_in : Bool → ℕ → ℕ → List Member → ℕ → List ℕ → Once (List ℕ) Bool
  by_in is_struct id sz ms a w =
      forget (once_then (packed_once (work_keep types B) B is_struct id sz ms w 0)
      (λ packed. plainly (judged_by B is_struct sz ms a packed)))

  unfoldable pub measured_in : Bool → ℕ → ℕ → List Member → List ℕ → Once (List ℕ) Bool
  measured_in is_struct id sz ms w = forget (measured_once (work_keep types B) B is_struct id sz ms w 0)

  unfoldable pub body_in : Bool → ℕ → ℕ → List Member → List ℕ → Once (List ℕ) Bool
  body_in is_struct id sz ms w = forget (body_once (work_keep types B) B is_struct id sz ms w 0)
