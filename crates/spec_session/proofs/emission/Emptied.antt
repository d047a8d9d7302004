-- The order list, emptied place by place. Assumes nothing.
use Prim.Native.Nat.{ℕ, ◌+◌}
use mathlib.Core.Path.{◌≡◌, refl, ap, ◌∙◌}
use mathlib.Core.List.{List}
use native.Mathlib.Numerals.{add-one}
use Rattle.spec_type_table.specs.Cells.{put_field}
use Rattle.spec_session.specs.emission.Slices.{emptied}

pub emptied_none : (w : List ℕ) → w ≡ emptied 0 w
unfolding emptied
emptied_none w = refl

pub emptied_more : (w u : List ℕ) (k : ℕ) (u' : List ℕ) → u ≡ emptied k w → u' ≡ put_field u k 11 0 → u' ≡ emptied (k + 1) w
unfolding emptied
emptied_more w u k u' e f = f ∙ ap (λ (l : List ℕ). put_field l k 11 0) e ∙ rw add-one
