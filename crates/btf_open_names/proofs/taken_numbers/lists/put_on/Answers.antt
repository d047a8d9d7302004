use Prim.Native.Nat.{ℕ}
use native.Mathlib.Omega.{arith}
use mathlib.Core.Path.{◌≡◌, ap, ◌∙◌}
use mathlib.Core.List.{List}
use Rattle.spec_bytes.specs.words.Words.{get_word, put_word}
use Rattle.spec_bytes.proofs.words.Laws.{put_swap}
use Rattle.spec_type_table.specs.Numbers.{head_p, next_p, taken_p}
use Rattle.btf_open_names.specs.filled_work.Takers.{listed_on}
use Rattle.btf_open_names.specs.holders.Holders.{linked}
use Rattle.btf_open_names.proofs.name_classes.Keys.{place_apart}
use Rattle.btf_open_names.proofs.taken_numbers.lists.put_on.Goals as goal

-- the number is no word of the links: it can be put before or after
listed : (types c h m : ℕ) (w w₁ w₂ : List ℕ) → w₁ ≡ linked (head_p types c) (next_p types h) h w → w₂ ≡ put_word w₁ (taken_p types h) m → w₂ ≡ listed_on types c h m w
unfolding listed_on
listed types c h m w w₁ w₂ e₁ e₂ =
    e₂ ∙ ap (λ (u : List ℕ). put_word u (taken_p types h) m) e₁
    ∙ put_swap (put_word w (next_p types h) (get_word w (head_p types c))) (head_p types c) (taken_p types h) h m (place_apart types 14 6 7 3 (omega arith) h c)

pub returns : goal.returns
returns c = listed _ _ _ _ _ _ _ c.put_in_front.ensures c.put.ensures
