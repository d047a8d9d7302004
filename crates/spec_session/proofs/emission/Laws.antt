-- A sheet at hand, or a refusal: what the place in the text says. Assumes nothing.
use Prim.Native.Nat.{ℕ}
use mathlib.Core.Path.{◌≡◌, refl, ap}
use mathlib.Core.List.{List}
use Rattle.std.specs.Prelude.{Ok, Err}
use Rattle.spec_bytes.specs.Refusals.{refusal_number}
use Rattle.spec_bytes.specs.declared.refusal.Refusal.{Refusal}
use Rattle.spec_bytes.specs.text.Placed.{Placed, put_out, put_text}
use Rattle.spec_c_dumper.specs.rules.Machine.{Out, wrote, stuck, obind}
use Rattle.spec_c_dumper.specs.rules.Place.{with_names, none_held, out_held, put_held}
use Rattle.spec_c_dumper.specs.rules.Writer.{Writer, said_text, said_names}
use Rattle.spec_c_dumper.proofs.rules.Untold.{put_untold}
use Rattle.spec_session.specs.emission.Slices.{Slices, slices_of, emit_out, line_in}

abbrev pub slices : ℕ → ℕ → List ℕ → List ℕ → Slices
slices n at t w = record { work = w; text = t; at = at; len = n }

-- ---- a place, or a refusal
pub goes : (n at : ℕ) (t w : List ℕ) → emit_out n (Ok at) t w ≡ wrote (slices n at t w)
unfolding out_held with_names slices_of put_out
goes n at t w = refl

pub halts : (n : ℕ) (c : Refusal) (t w : List ℕ) → emit_out n (Err c) t w ≡ stuck tt (refusal_number c)
unfolding out_held with_names slices_of put_out
halts n c t w = refl

-- a line is its writer's text, with the names after it
pub line_is : (v : Writer (List ℕ)) (m : Slices) → line_in v m ≡ slices_of m.len (with_names none_held (said_names (v m.work)) (put_text m.text (Ok m.at) (said_text (v m.work))))
unfolding line_in put_held
line_is v m = ap (slices_of m.len) (put_untold m.text m.at (v m.work))

-- ---- obind
pub obind_then : (o : Out Slices (Unit {0})) (k k' : Slices → Out Slices (Unit {0})) → obind (obind o k) k' ≡ obind o (λ m. obind (k m) k')
unfolding obind
obind_then (wrote m) k k' = refl
obind_then (stuck h c) k k' = refl

-- a sheet that is at hand
pub at_slices : (n : ℕ) (p : Placed) (t w : List ℕ) (k k' : Slices → Out Slices (Unit {0})) → ((at : ℕ) → p ≡ Ok at → k (slices n at t w) ≡ k' (slices n at t w)) → obind (emit_out n p t w) k ≡ obind (emit_out n p t w) k'
unfolding obind out_held with_names slices_of put_out
at_slices n (Ok at) t w k k' e = e at refl
at_slices n (Err c) t w k k' e = refl
