-- THE THEOREM: where no number is passed over, both modes print alike, of the calls of two sessions. Assumes nothing.
use Prim.Native.Nat.{ℕ}
use mathlib.Core.List.{List}
use Rattle.spec_session.specs.calls.Lists.{list_call}
use Rattle.proof_demands.proofs.demands.Demands.{after_sound}
use Rattle.proof_names_apart.specs.same_text.Claims.{BothModes}
use Rattle.proof_names_apart.proofs.same_text.Dumps.{same_open, same_len, same_text_so_far, next_one, next_all}
use Rattle.proof_names_apart.proofs.same_text.Lists.{list_alike}

pub both_modes : (p modes old : ℕ) (s : List ℕ) (n : ℕ) → BothModes p modes old s n
unfolding list_call
both_modes p modes old s n o c d rs a b =
    let ok = after_sound p modes s n a in
    record {
      text_len = same_len p modes old s n o ok c d rs a b;
      text = same_text_so_far p modes old s n o ok c d rs a b;
      is_open = same_open p modes old s n o ok c d rs a b;
      next_type = next_one p modes old s n o ok c d rs a b;
      next_types = next_all p modes old s n o ok c d rs a b;
      next_list = λ t u l m e ids h. list_alike p modes old s n o ok ids 0 c d rs a b t u l m e h;
    }
