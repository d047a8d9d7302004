-- Ask 1, a shopping list of ids, of any calls. That a list counts as its single requests, "up to and including the first refused", is in
-- specs/Calls: After has lists, so demands 2 and 3 hold of them. Here: "An id given twice adds no text". Statement only;
-- proofs/Demands.antt has the proof.
use Rattle.std.specs.Prelude.{ℕ, suc, ◌-◌, ◌≡◌, true, length, take, replicate}
use mathlib.Core.List.{List, [], ◌∷◌, ◌++◌, Memᴰ}
use Rattle.claims.specs.Calls.{Calls, ids_in, Lent}

module _ {R C : Type 0} (K : Calls R C) where
  -- the call d, lent this text after the call c, is accepted and leaves the text that there was
  pub record AddsNothing (c : C) (text : List ℕ) (d : C) : Type 0 where
    pub accepted : K.number d ≡ 0
    pub text_len : K.len d ≡ K.len c
    pub same_text : K.text d ≡ take (K.len c) text ++ replicate (length text - K.len c) 0

  -- asked: the ids that were accepted before the call c
  pub record Request01 (s : List ℕ) (c : C) (asked : List ℕ) : Type 0 where
    -- a request for what was accepted before
    pub again : K.is_open c ≡ true → (x : ℕ) → Memᴰ x asked → (text : List ℕ) → Lent K c text
        → AddsNothing c text (K.request c s text x)
    -- a list that has one id more than another, and has it before: one more is accepted
    pub list_again : K.is_open c ≡ true → (text : List ℕ) → Lent K c text → (ids more : List ℕ) (x : ℕ)
        → ids_in more ≡ ids_in ids ++ (x ∷ []) → Memᴰ x (ids_in ids) → K.number (K.request_list c s text ids) ≡ 0
        → AddsNothing (K.request_list c s text ids) (K.text (K.request_list c s text ids)) (K.request_list c s text more)
        × (K.value (K.request_list c s text more) ≡ suc (K.value (K.request_list c s text ids)))
