-- A law for each return. Assumes nothing.
use Prim.Native.Nat.{ℕ, zero, suc, ◌-◌, ◌<◌, ◌≤◌}
use mathlib.Core.Path.{◌≡◌, refl, ap, ◌∙◌, sym}
use mathlib.Core.Bool.{Bool, true, false, not, ◌&&◌, true≢false}
use mathlib.Core.List.{List, [], ◌∷◌, ◌++◌, append-nil}
use native.Mathlib.Omega.{arith}
use native.Mathlib.Nat.{le_refl}
use lib.ListN.{length, take, drop, replicate, length-drop, drop_of_length-le}
use lib.Seq.{take_all}
use lib.Dec.{eqb, leb}
use borrow.Author.Tests.{not-false, leb-true}
use borrow.Rule.Slice.PartMut.{mid_of, post_of, put_mid, mid_len}
use Rattle.std.specs.Prelude.{Some, None}
use Rattle.spec_bytes.specs.declared.refusal.Refusal.{Refusal}
use Rattle.spec_bytes.specs.Refusals.{refusal_number}
use Rattle.spec_opening.proofs.Opens.{some_number}
use Rattle.spec_session.specs.session.Answers.{Accepted, Refused, answer_of}
use Rattle.spec_session.specs.declared.session.Session.{Session}
use Rattle.spec_session.specs.declared.session.Reached.{Reached}
use Rattle.spec_session.specs.session.Turns.{call_of, is_current, reached, refused_by, reach_of, with_text, then_zeros, settled, visits_in}

-- ---- answers
-- what a refusal's answer says
pub refused_is : (c : Refusal) (v : ℕ) → Refused (refusal_number c) v ≡ answer_of (refusal_number c) v
unfolding answer_of
refused_is c v = go (refusal_number c) (some_number c)
  where
    go : (n : ℕ) → (n ≡ 0 → ⊥) → Refused n v ≡ answer_of n v
    go zero h = absurd (h refl)
    go (suc n) h = refl

-- ---- is_current
last_of : (p q r t : Bool) → p && (q && (r && t)) ≡ true → t ≡ true
last_of true true true t h = h
last_of true true false t h = absurd (true≢false (sym h))
last_of true false r t h = absurd (true≢false (sym h))
last_of false q r t h = absurd (true≢false (sym h))

-- the text that is held fits
pub current_fits : (s : Session) (a b n : ℕ) (q : Bool) → q ≡ is_current s a b n → not q ≡ false → s.text_len ≤ n
unfolding is_current
current_fits s a b n q e h =
    leb-true s.text_len n (last_of s.«open» (eqb s.section_len a) (eqb s.work_len b) (leb s.text_len n) (sym e ∙ not-false q h))

-- ---- clear_from
pub cleared : (t : List ℕ) (n : ℕ) (ys : List ℕ) → n < length t → ys ≡ replicate (length (mid_of n (length t - n) t)) 0 → put_mid n (length t - n) t ys ≡ then_zeros (length t) n t
unfolding then_zeros
cleared t n ys h e =
    let none : post_of n (length t - n) t ≡ [] = drop_of_length-le (drop n t) {i = length t - n} (omega (arith, length-drop n t)) in
    let zeros : ys ≡ replicate (length t - n) 0 = e ∙ ap (λ (k : ℕ). replicate k 0) (mid_len n (length t) t (le_refl (length t))) in
    (λ i. take n t ++ (zeros i ++ none i)) ∙ ap (λ (l : List ℕ). take n t ++ l) (append-nil (replicate (length t - n) 0))

pub none_follow : (t : List ℕ) (n : ℕ) → length t ≤ n → t ≡ then_zeros (length t) n t
unfolding then_zeros
none_follow t n h =
    let k : length t - n ≡ 0 = omega arith in
    sym ((λ i. take_all n t h i ++ replicate (k i) 0) ∙ append-nil t)

-- ---- visits_in
-- a word of 32 bits
pub visits_fit : (w : List ℕ) → visits_in w < 4294967296
unfolding visits_in
visits_fit w = omega arith

-- ---- settle
module _ (r : Reached) (w t : List ℕ) where
  pub reach_accepted : r.stop ≡ None → reach_of r w t ≡ reached r.len w t
  unfolding reach_of
  reach_accepted h = rw (h, reach_of)

  pub reach_refused : (c : Refusal) → r.stop ≡ Some c → reach_of r w t ≡ refused_by (refusal_number c) r.len r.visits (take r.len t)
  unfolding reach_of
  reach_refused c h = rw (h, reach_of)

-- the first bytes of the first bytes
pub zeros_twice : (n len : ℕ) (t : List ℕ) → then_zeros n len (take len t) ≡ then_zeros n len t
unfolding then_zeros
zeros_twice n len t = ap (λ (l : List ℕ). l ++ replicate (n - len) 0) (again len t)
  where
    again : (k : ℕ) (l : List ℕ) → take k (take k l) ≡ take k l
    again zero l = refl
    again (suc k) [] = refl
    again (suc k) (x ∷ l) = ap (λ (m : List ℕ). x ∷ m) (again k l)

module _ (s : Session) (r : Reached) (w t t' : List ℕ) (et : t' ≡ then_zeros (length t) r.len t) (s' : Session) where
  pub settle_accepted : r.stop ≡ None → (v : ℕ) → v ≡ visits_in w → s' ≡ with_text s true r.len v → call_of s' (Accepted r.len) w t' ≡ settled s (length w) (length t) (reach_of r w t)
  unfolding call_of settled answer_of
  settle_accepted z v ev es =
      (λ i. record { session = (es ∙ ap (with_text s true r.len) ev) i; answer = Accepted r.len; work = w; text = et i })
      ∙ ap (settled s (length w) (length t)) (sym (reach_accepted r w t z))

  pub settle_refused : (c : Refusal) → r.stop ≡ Some c → (w' : List ℕ) → w' ≡ replicate (length w) 0 → s' ≡ with_text s false r.len r.visits
      → call_of s' (Refused (refusal_number c) r.len) w' t' ≡ settled s (length w) (length t) (reach_of r w t)
  unfolding call_of settled
  settle_refused c z w' ew es =
      (λ i. record { session = es i; answer = refused_is c r.len i; work = ew i; text = (et ∙ sym (zeros_twice (length t) r.len t)) i })
      ∙ ap (settled s (length w) (length t)) (sym (reach_refused r w t c z))
