-- Ask 4, smaller constant strings. That the lines are assembled from the table is in the contracts of the code (base_keywords), and that
-- "texts and promises stay" in all the others: each says its text byte by byte. Statement only; proofs/Claims.antt has the proof.
use Rattle.std.specs.Prelude.{ℕ, ◌≤◌, ◌≡◌, length}
use mathlib.Core.List.{List, Memᴰ}
use Rattle.base_keywords.specs.table.Fixed.{table, fixed_words, occurrences}

pub record Request04 : Type 0 where
  -- "in one table of at most 512 bytes"
  pub small : length table ≤ 512
  -- "store each fixed word of the text once"
  pub once : (w : List ℕ) → Memᴰ w fixed_words → occurrences w table ≡ 1
