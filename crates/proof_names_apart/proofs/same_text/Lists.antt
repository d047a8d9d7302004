-- A list of ids in both sessions: it counts as its single requests, and comes to the same. Assumes nothing but that opening accepts the section.
use Prim.Native.Nat.{ℕ, zero, suc, ◌<◌, ◌≤◌}
use mathlib.Core.Path.{◌≡◌, refl, ap, ◌∙◌, sym, subst}
use mathlib.Core.Bool.{Bool, true, false}
use mathlib.Core.List.{List, [], ◌∷◌, ◌++◌, append_assoc}
use mathlib.Core.Logic.{⊎_elim}
use native.Mathlib.Omega.{arith}
use lib.ListN.{length, take}
use borrow.Author.Tests.{ne_eqb}
use Rattle.std.proofs.lemmas.Bool.{cases_lt}
use Rattle.spec_c_dumper.specs.rules.Machine.{Req, one}
use Rattle.spec_opening.specs.Causes.{opening_number}
use Rattle.spec_session.specs.declared.session.Session.{Session}
use Rattle.spec_session.specs.session.Answers.{Refused, number_of, value_of, answer_of}
use Rattle.spec_session.specs.session.Turns.{Call, call_of, is_current, unchanged}
use Rattle.spec_session.specs.calls.Calls.{type_call}
use Rattle.spec_session.specs.calls.Lists.{then_next, list_from}
use Rattle.spec_session.proofs.calls.Claims.{number_is, value_is, type_current, type_not_below, type_not_current, closed_stays}
use Rattle.spec_session.proofs.calls.Lists.{counted_goes, counted_stops, type_single, list_counts}
use Rattle.proof_demands.specs.demands.Session.{singles_for, made, After, after_one}
use Rattle.proof_demands.specs.demands.Demands.{Lent, ruled}
use Rattle.proof_demands.proofs.demands.Session.{current, after_holds, made_more}
use Rattle.proof_names_apart.proofs.none_passed.Claims.{passes_before}
use Rattle.proof_names_apart.specs.same_text.Claims.{SameAnswer, SameList, OnlyNames, NonePassed}
use Rattle.proof_names_apart.proofs.same_text.Dumps.{same_open, same_len, same_text_so_far, next_one}

made_one : (k : ℕ) (S : Session) (v t : List ℕ) (m : ℕ) → (m ≡ 0 → ⊥) → (m ≡ 11 → ⊥) → made k (call_of S (answer_of m k) v t) ≡ 1
unfolding made call_of
made_one k S v t m d e = rw (number_is m k, value_is m k, ne_eqb m 0 d, ne_eqb m 11 e) (omega arith)

-- a session that is open does not give 11
module _ (p modes : ℕ) (s : List ℕ) (n : ℕ) (ok : opening_number p s n ≡ 0) (c : Call) (rs : List Req) (a : After p modes s n c rs) (t : List ℕ) (l : Lent c t) (on : c.session.«open» ≡ true) (x : ℕ) where
  now : is_current c.session (length s) (length c.work) (length t) ≡ true
  now = current p modes s n ok c.session c.work c.text (ruled p modes s n rs) (after_holds p modes s n ok a) t l.long l.begins (sym (after_holds p modes s n ok a).is_open ∙ on)

  not_11 : number_of (type_call c.session s c.work t x).answer ≡ 11 → ⊥
  unfolding number_of
  not_11 e = ⊎_elim below past (cases_lt x c.session.types)
    where
      past : c.session.types ≤ x → ⊥
      past q = let z : number_of (type_call c.session s c.work t x).answer ≡ 10 = ap (λ (y : Call). number_of y.answer) (type_not_below c.session s c.work t x now q) in omega arith

      below : x < c.session.types → ⊥
      below q = ⊎_elim (λ z. omega (arith, z, e)) (λ z. omega (arith, z.0, e)) (type_current c.session s c.work t x now q).number_kept

-- a call's own text
module _ (p modes : ℕ) (s : List ℕ) (n : ℕ) (ok : opening_number p s n ≡ 0) (c : Call) (rs : List Req) (a : After p modes s n c rs) where
  own_text : Lent c c.text
  own_text = record { long = (after_holds p modes s n ok a).fits; begins = refl }

module _ (p modes old : ℕ) (s : List ℕ) (n : ℕ) (o : OnlyNames p modes old s n) (ok : opening_number p s n ≡ 0) where
  abbrev None : List Req → Type 0
  None rs = NonePassed p modes old s n rs

  module _ (k : ℕ) (c d : Call) (rs : List Req) (a : After p modes s n c rs) (b : After p old s n d rs) (t u : List ℕ) (l : Lent c t) (m : Lent d u) (e : length t ≡ length u) (x : ℕ) (ids : List ℕ) where
    abbrev c₁ : Call
    c₁ = type_call c.session s c.work t x

    abbrev d₁ : Call
    d₁ = type_call d.session s d.work u x

    abbrev rest : Call → Call
    rest y = list_from (suc k) y.session s y.work y.text ids

    c_value : value_of c₁.answer ≡ c₁.session.text_len
    c_value = (type_single c.session s c.work t x).value_same

    d_value : value_of d₁.answer ≡ d₁.session.text_len
    d_value = (type_single d.session s d.work u x).value_same

    stops_both : (j : ℕ) → number_of c₁.answer ≡ suc j → SameAnswer c₁ d₁ → SameList (then_next k c₁ rest) (then_next k d₁ rest)
    unfolding call_of
    stops_both j q same =
        subst (λ (y : Call). SameList y (then_next k d₁ rest)) (sym (counted_stops k (suc j) c₁ rest q (λ z. absurd (omega arith))))
        (subst (λ (y : Call). SameList (call_of c₁.session (answer_of (suc j) k) c₁.work c₁.text) y) (sym (counted_stops k (suc j) d₁ rest (sym same.number ∙ q) (λ z. absurd (omega arith))))
        (record {
          number = refl;
          accepted = refl;
          text_len = sym c_value ∙ same.value ∙ d_value;
          text = ap (λ (j : ℕ). take j c₁.text) (sym c_value) ∙ same.text ∙ ap (λ (j : ℕ). take j d₁.text) d_value;
        }))

    -- both are closed
    closed_both : None rs → c.session.«open» ≡ false → SameList (then_next k c₁ rest) (then_next k d₁ rest)
    unfolding number_of value_of
    closed_both h off =
        let ec : c₁ ≡ unchanged c.session (Refused 11 c.session.text_len) c.work t = type_not_current c.session s c.work t x (closed_stays c.session s c.work t off) in
        let ed : d₁ ≡ unchanged d.session (Refused 11 d.session.text_len) d.work u =
        type_not_current d.session s d.work u x (closed_stays d.session s d.work u (sym (same_open p modes old s n o ok c d rs a b h) ∙ off)) in
        let same : SameAnswer (unchanged c.session (Refused 11 c.session.text_len) c.work t) (unchanged d.session (Refused 11 d.session.text_len) d.work u) = record {
          number = refl;
          value = same_len p modes old s n o ok c d rs a b h;
          text = l.begins ∙ same_text_so_far p modes old s n o ok c d rs a b h ∙ sym m.begins;
        } in
        stops_both 10 (ap (λ (y : Call). number_of y.answer) ec) (subst (λ (y : Call). SameAnswer y d₁) (sym ec) (subst (λ (y : Call). SameAnswer (unchanged c.session (Refused 11 c.session.text_len) c.work t) y) (sym ed) same))

    -- the first id is asked for
    abbrev asked : List Req
    asked = rs ++ (one (length t) x ∷ [])

    one_more : (j : ℕ) → None (rs ++ singles_for (length t) (suc j) (x ∷ ids)) → None (asked ++ singles_for (length t) j ids)
    unfolding singles_for
    one_more j h = subst None (sym (append_assoc rs (one (length t) x ∷ []) (singles_for (length t) j ids))) h

    first_same : (j : ℕ) → None (rs ++ singles_for (length t) (suc j) (x ∷ ids)) → SameAnswer c₁ d₁
    first_same j h = next_one p modes old s n o ok c d rs a b t u l m e x (passes_before _ asked (singles_for (length t) j ids) (one_more j h))

    abbrev Goes : Type 0
    Goes = None (asked ++ singles_for (length c₁.text) (made (suc k) (rest c₁)) ids) → SameList (rest c₁) (rest d₁)

    open_both : c.session.«open» ≡ true → Goes → None (rs ++ singles_for (length t) (made k (then_next k c₁ rest)) (x ∷ ids)) → SameList (then_next k c₁ rest) (then_next k d₁ rest)
    open_both on goes h = by (number_of c₁.answer) refl
      where
        by : (j : ℕ) → number_of c₁.answer ≡ j → SameList (then_next k c₁ rest) (then_next k d₁ rest)
        by zero q =
            let more : made k (then_next k c₁ rest) ≡ suc (made (suc k) (rest c₁)) =
            ap (made k) (counted_goes k c₁ rest q) ∙ made_more p modes s n ok k (rest c₁) (list_counts s (suc k) c₁.session c₁.work c₁.text ids).at_least in
            let h' : None (rs ++ singles_for (length t) (suc (made (suc k) (rest c₁))) (x ∷ ids)) = subst (λ (j : ℕ). None (rs ++ singles_for (length t) j (x ∷ ids))) more h in
            let same = first_same (made (suc k) (rest c₁)) h' in
            let on_c : None (asked ++ singles_for (length c₁.text) (made (suc k) (rest c₁)) ids) =
            subst (λ (room : ℕ). None (asked ++ singles_for room (made (suc k) (rest c₁)) ids)) (sym (type_single c.session s c.work t x).long) (one_more (made (suc k) (rest c₁)) h') in
            subst (λ (y : Call). SameList y (then_next k d₁ rest)) (sym (counted_goes k c₁ rest q))
            (subst (SameList (rest c₁)) (sym (counted_goes k d₁ rest (sym same.number ∙ q))) (goes on_c))
        by (suc j) q =
            let once : made k (then_next k c₁ rest) ≡ 1 =
            ap (made k) (counted_stops k (suc j) c₁ rest q (λ z. absurd (omega arith)))
            ∙ made_one k c₁.session c₁.work c₁.text (suc j) (λ z. absurd (omega arith)) (λ z. not_11 p modes s n ok c rs a t l on x (q ∙ z)) in
            stops_both j q (first_same 0 (subst (λ (i : ℕ). None (rs ++ singles_for (length t) i (x ∷ ids))) once h))

    list_step : Goes → None (rs ++ singles_for (length t) (made k (then_next k c₁ rest)) (x ∷ ids)) → SameList (then_next k c₁ rest) (then_next k d₁ rest)
    list_step goes h = by c.session.«open» refl
      where
        by : (q : Bool) → c.session.«open» ≡ q → SameList (then_next k c₁ rest) (then_next k d₁ rest)
        by true on = open_both on goes h
        by false off = closed_both (passes_before _ rs (singles_for (length t) (made k (then_next k c₁ rest)) (x ∷ ids)) h) off

  pub list_alike : (ids : List ℕ) (k : ℕ) (c d : Call) (rs : List Req) → After p modes s n c rs → After p old s n d rs → (t u : List ℕ) → Lent c t → Lent d u → length t ≡ length u
      → None (rs ++ singles_for (length t) (made k (list_from k c.session s c.work t ids)) ids) → SameList (list_from k c.session s c.work t ids) (list_from k d.session s d.work u ids)
  unfolding list_from call_of
  list_alike [] k c d rs a b t u l m e h =
      let none : None rs = passes_before _ rs (singles_for (length t) (made k (list_from k c.session s c.work t [])) []) h in
      record {
        number = refl;
        accepted = refl;
        text_len = same_len p modes old s n o ok c d rs a b none;
        text = l.begins ∙ same_text_so_far p modes old s n o ok c d rs a b none ∙ sym m.begins;
      }
  list_alike (x ∷ ids) k c d rs a b t u l m e h =
      let y : Call = type_call c.session s c.work t x in
      let z : Call = type_call d.session s d.work u x in
      let qs : List Req = rs ++ (one (length t) x ∷ []) in
      let a' : After p modes s n y qs = after_one c rs a t l.long l.begins x in
      let b' : After p old s n z qs = subst (λ (j : ℕ). After p old s n z (rs ++ (one j x ∷ []))) (sym e) (after_one d rs b u m.long m.begins x) in
      list_step k c d rs a b t u l m e x ids
      (λ g. list_alike ids (suc k) y z qs a' b' y.text z.text (own_text p modes s n ok y qs a') (own_text p old s n ok z qs b')
      ((type_single c.session s c.work t x).long ∙ e ∙ sym (type_single d.session s d.work u x).long) g) h
