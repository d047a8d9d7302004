-- What the call for a section cut down comes to. Assumes nothing.
use Prim.Native.Nat.{ℕ, zero, suc, ◌<◌, ◌≤◌}
use native.Mathlib.Omega.{arith}
use mathlib.Core.Path.{◌≡◌, refl, sym, ◌∙◌, ap, subst}
use mathlib.Core.Bool.{Bool, true, false, ◌&&◌, ◌||◌}
use mathlib.Core.List.{List, [], ◌∷◌, ◌++◌}
use mathlib.Core.Logic.{◌⊎◌, inl, inr}
use lib.ListN.{length, drop}
use lib.Dec.{eqb, ltb}
use borrow.Author.Tests.{eq-eqb, ltb-false}
use Rattle.std.proofs.lemmas.Bool.{cases_lt}
use Rattle.spec_bytes.specs.words.Words.{words}
use Rattle.spec_opening.specs.Table.{types_of}
use Rattle.spec_opening.specs.Causes.{cause2, cause3, cause4, cause5, cause6, first_of, opening_number}
use Rattle.spec_opening.proofs.Order.{none_first, sound_none}
use Rattle.spec_session.specs.declared.session.Session.{Session}
use Rattle.spec_session.specs.session.Answers.{number_of, value_of, answer_of}
use Rattle.spec_session.specs.session.Turns.{Call, is_current}
use Rattle.spec_session.specs.calls.Calls.{type_call}
use Rattle.spec_session.proofs.calls.Claims.{number_is, type_current, type_not_below, type_not_current}
use Rattle.spec_cut.specs.section.Section.{any_past, cut_number}
use Rattle.session_cut.specs.call.Calls.{Cut, cut_of, passes, is_open_on, section_for, cut_by, cut_call}

-- number 0: no test holds
pub none_holds : (is_open : Bool) (count : ℕ) (given : List ℕ) (out len : ℕ) → cut_number is_open count given out len ≡ 0 → (len ≤ out) × (len ≤ 16777216)
unfolding cut_number
none_holds false count given out len e = absurd (omega (arith, e))
none_holds true count given out len e = go (any_past count given) (ltb out len) refl (ltb 16777216 len) refl e
  where
    go : (p q : Bool) → ltb out len ≡ q → (r : Bool) → ltb 16777216 len ≡ r
        → ◌≡◌ {A = ℕ} (elim p [ true ↦ 10 | false ↦ elim (q || r) [ true ↦ 23 | false ↦ 0 ] ]) 0 → (len ≤ out) × (len ≤ 16777216)
    go true q a r b f = absurd (omega (arith, f))
    go false true a r b f = absurd (omega (arith, f))
    go false false a true b f = absurd (omega (arith, f))
    go false false a false b f = (ltb-false out len a, ltb-false 16777216 len b)

module _ (S : Session) (s given out : List ℕ) where
  abbrev section : List ℕ
  section = section_for s given

  abbrev number : ℕ
  number = cut_number (is_open_on S s) (types_of s) (words given) (length out) (length section)

  by_number : cut_call S s given out ≡ cut_by number section out
  unfolding cut_call
  by_number = refl

  -- the number of the answer is that of the definition
  pub number_told : number_of (cut_call S s given out).answer ≡ number
  unfolding cut_call cut_by cut_of
  number_told = number_is number _

  refused_value : (k : ℕ) → value_of (cut_by (suc k) section out).answer ≡ 0
  unfolding cut_by cut_of answer_of value_of
  refused_value k = refl

  refused_slice : (k : ℕ) → (cut_by (suc k) section out).out ≡ out
  unfolding cut_by cut_of
  refused_slice k = refl

  accepted_value : value_of (cut_by 0 section out).answer ≡ length section
  unfolding cut_by cut_of answer_of value_of
  accepted_value = refl

  accepted_slice : (cut_by 0 section out).out ≡ section ++ drop (length section) out
  unfolding cut_by cut_of
  accepted_slice = refl

  -- a refused call
  pub untouched : (number_of (cut_call S s given out).answer ≡ 0 → ⊥) → (value_of (cut_call S s given out).answer ≡ 0) × ((cut_call S s given out).out ≡ out)
  untouched h = go number refl
    where
      go : (k : ℕ) → number ≡ k → (value_of (cut_call S s given out).answer ≡ 0) × ((cut_call S s given out).out ≡ out)
      go zero e = absurd (h (number_told ∙ e))
      go (suc k) e = (ap (λ (c : Cut). value_of c.answer) (by_number ∙ ap (λ (j : ℕ). cut_by j section out) e) ∙ refused_value k, ap (λ (c : Cut). c.out) (by_number ∙ ap (λ (j : ℕ). cut_by j section out) e) ∙ refused_slice k)

  -- an accepted call
  module _ (ok : number_of (cut_call S s given out).answer ≡ 0) where
    accepted : cut_call S s given out ≡ cut_by 0 section out
    accepted = by_number ∙ ap (λ (j : ℕ). cut_by j section out) (sym number_told ∙ ok)

    pub value_is : value_of (cut_call S s given out).answer ≡ length section
    value_is = ap (λ (c : Cut). value_of c.answer) accepted ∙ accepted_value

    pub slice_is : (cut_call S s given out).out ≡ section ++ drop (length section) out
    slice_is = ap (λ (c : Cut). c.out) accepted ∙ accepted_slice

-- and a session that is open on such a section is not refused by 11
pub not_closed : (S : Session) (s : List ℕ) (n : ℕ) → opening_number S.pointer_size s n ≡ 0 → S.«open» ≡ true → S.section_len ≡ length s → is_open_on S s ≡ true
unfolding is_open_on passes
not_closed S s n ok o l =
    let h = (sound_none S.pointer_size s n).0 ok in
    let f : first_of (cause2 s ∷ cause3 s ∷ cause4 s ∷ cause5 s ∷ cause6 S.pointer_size s ∷ []) ≡ 0 =
    none_first (cause2 s ∷ cause3 s ∷ cause4 s ∷ cause5 s ∷ cause6 S.pointer_size s ∷ []) (h.1.0, (h.1.1.0, (h.1.1.1.0, (h.1.1.1.1.0, (h.1.1.1.1.1.0, tt))))) in
    λ i. (o i && eq-eqb S.section_len (length s) l i) && eq-eqb (first_of (cause2 s ∷ cause3 s ∷ cause4 s ∷ cause5 s ∷ cause6 S.pointer_size s ∷ [])) 0 f i

-- one that is closed is
pub closed_cut : (S : Session) (s : List ℕ) → S.«open» ≡ false → is_open_on S s ≡ false
unfolding is_open_on
closed_cut S s o = ap (λ (b : Bool). (b && eqb S.section_len (length s)) && passes S.pointer_size s) o

-- a request keeps the length of the text slice, and its text lies inside
pub room : (S : Session) (s w t : List ℕ) (x : ℕ) → S.text_len ≤ length t → (length (type_call S s w t x).text ≡ length t) × ((type_call S s w t x).session.text_len ≤ length t)
room S s w t x l = go (is_current S (length s) (length w) (length t)) refl (cases_lt x S.types)
  where
    go : (q : Bool) → is_current S (length s) (length w) (length t) ≡ q → (x < S.types) ⊎ (S.types ≤ x) → (length (type_call S s w t x).text ≡ length t) × ((type_call S s w t x).session.text_len ≤ length t)
    go true e (inl k) = let r = type_current S s w t x e k in (r.length_kept, r.fits)
    go true e (inr k) = let r = type_not_below S s w t x e k in (ap (λ (c : Call). length c.text) r, subst (λ (c : Call). c.session.text_len ≤ length t) (sym r) l)
    go false e k = let r = type_not_current S s w t x e in (ap (λ (c : Call). length c.text) r, subst (λ (c : Call). c.session.text_len ≤ length t) (sym r) l)
