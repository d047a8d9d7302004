-- What the end of `dump_type` says: a place and a count of entries, or a refusal. Assumes nothing.
use Prim.Native.Nat.{ℕ}
use mathlib.Core.Path.{◌≡◌, ap, ◌∙◌, sym}
use mathlib.Core.List.{List}
use Rattle.std.specs.Prelude.{Ok, Err}
use Rattle.spec_bytes.specs.text.Placed.{Placed, placed}
use Rattle.spec_c_dumper.specs.origins.Claims.{forget}
use Rattle.spec_session.specs.emission.Slices.{emit_out}
use Rattle.spec_session.proofs.emission.Laws as plainly
use Rattle.c_dumper_emit.specs.entries.Traced.{traced_out}
use Rattle.c_dumper_emit.proofs.entries.Laws.{Penned, goes, halts}

abbrev pub place_of : Penned → Placed
place_of d = placed (λ p. p.at) d

-- a refused request leaves none
abbrev pub count_of : Penned → ℕ
count_of (Ok p) = p.count
count_of (Err c) = 0

pub forgets : (n : ℕ) (d : Penned) (t w l : List ℕ) → forget (traced_out n d t w l) ≡ emit_out n (place_of d) t w
unfolding forget
forgets n (Ok p) t w l = ap forget (goes n p t w l) ∙ sym (plainly.goes n p.at t w)
forgets n (Err c) t w l = ap forget (halts n c t w l) ∙ sym (plainly.halts n c t w)
