-- A loop that copies bytes into a text. Assumes nothing.
use Prim.Native.Nat.{ℕ, ◌+◌, ◌-◌, ◌<◌, ◌≤◌}
use mathlib.Core.Path.{◌≡◌, ap, ◌∙◌, sym}
use mathlib.Core.List.{List, ◌++◌}
use native.Mathlib.Omega.{arith}
use native.Mathlib.Numerals.{add-one}
use lib.ListN.{length, get_or, set, take, drop}
use lib.Seq.{paste, paste-suc, take-length}
use Rattle.std.specs.Prelude.{Ok}
use Rattle.spec_bytes.specs.text.Text.{whole, bytes}
use Rattle.spec_bytes.specs.text.Placed.{put_out, place, put_text}
use Rattle.spec_bytes.proofs.text.TextLaws.{put_fits, whole_is}

-- a byte more is copied
pub copied_turn : (t u : List ℕ) (at : ℕ) (s : List ℕ) (k : ℕ) → at + k < length t → k < length s → u ≡ paste t at s k → set u (at + k) (get_or s k 0) ≡ paste t at s (k + 1)
copied_turn t u at s k h l e = rw (e, add-one k) (paste-suc t at s k 0 h l)

pub copied_all : (t u : List ℕ) (at : ℕ) (s : List ℕ) (k : ℕ) → u ≡ paste t at s k → k ≡ length s → u ≡ place t at s
copied_all t u at s k e same = rw same at e ∙ ap (λ (a : List ℕ). take at t ++ a ++ drop (at + length s) t) (take-length s)

-- so the text is written
pub put_placed : (t u : List ℕ) (at : ℕ) (s : List ℕ) → length s ≤ length t - at → u ≡ place t at s → put_out (Ok (at + length s)) u ≡ put_text t (Ok at) (whole s)
unfolding put_out bytes
put_placed t u at s h e = ap (put_out (Ok (at + length s))) e ∙ sym (put_fits t at (whole s) h ∙ whole_is t at s)
