use Prim.Native.Nat.{ℕ, ◌+◌, ◌<◌, ◌%◌, ◌/◌}
use mathlib.Core.Path.{◌≡◌, refl, ◌∙◌, sym, ap}
use mathlib.Core.List.{List, [], ◌∷◌}
use native.Mathlib.Omega.{arith}
use lib.ListN.{length, set}
use lib.Seq.{paste, paste-zero, paste-suc}
use borrow.Rule.Slice.PartMut.{put_mid}
use Rattle.std.proofs.lemmas.Slice.{put_mid-paste}
use Rattle.spec_bytes.proofs.words.Laws.{put_in}
use Rattle.base_bytes.proofs.word.put_word.Goals as goal

-- four bytes written over a part are four bytes stored
four : (b : List ℕ) (at k w x y z : ℕ) (s : List ℕ) → at + 3 < length b → k ≡ 4 → s ≡ (w ∷ x ∷ y ∷ z ∷ []) → put_mid at k b s ≡ set (set (set (set b at w) (at + 1) x) (at + 2) y) (at + 3) z
four b at k w x y z s h e p =
    let t : List ℕ = w ∷ x ∷ y ∷ z ∷ [] in
    let e0 : at + 0 ≡ at = omega arith in
    let s1 : set b at w ≡ paste b at t 1 = ap (λ (i : ℕ). set b i w) (sym e0) ∙ ap (λ (c : List ℕ). set c (at + 0) w) (paste-zero b at t) ∙ paste-suc b at t 0 0 (omega arith) (omega arith) in
    let s2 : set (paste b at t 1) (at + 1) x ≡ paste b at t 2 = paste-suc b at t 1 0 (omega arith) (omega arith) in
    let s3 : set (paste b at t 2) (at + 2) y ≡ paste b at t 3 = paste-suc b at t 2 0 (omega arith) (omega arith) in
    let s4 : set (paste b at t 3) (at + 3) z ≡ paste b at t 4 = paste-suc b at t 3 0 (omega arith) (omega arith) in
    put_mid-paste at k b s t 4 p (sym e) refl ∙ sym (rw (s1, s2, s3) s4)

pub returns-then-i-work : goal.returns-then-i-work
returns-then-i-work c =
    let top : c.args.v / 16777216 % 256 ≡ c.args.v / 16777216 = omega arith in
    four _ _ _ _ _ _ _ _ (omega arith) (omega arith) (c.copy_from_slice.ensures.after ∙ c.to_le_bytes.ensures ∙ rw top)
    ∙ sym (put_in _ _ _ (omega arith))
