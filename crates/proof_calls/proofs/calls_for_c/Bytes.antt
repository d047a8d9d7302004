-- What the exports leave as bytes tells the calls on the session that the bytes said, as long as text length and visits fit in 32 bits, which
-- `Holds` and proofs/Visits give. Assumes nothing but that opening accepts the section.
use Prim.Native.Nat.{ℕ, zero, suc, ◌+◌, ◌-◌, ◌*◌, ◌/◌, ◌%◌, ◌<◌, ◌≤◌}
use mathlib.Core.Path.{◌≡◌, refl, ap, ◌∙◌, sym, subst}
use mathlib.Core.Bool.{Bool, true, false}
use mathlib.Core.List.{List, [], ◌∷◌}
use native.Mathlib.Omega.{arith}
use lib.ListN.{length, take}
use lib.Dec.{ltb}
use borrow.Author.Tests.{le-ltb}
use Rattle.spec_bytes.specs.words.Words.{get_word}
use Rattle.spec_c_dumper.specs.rules.Names.{Names}
use Rattle.spec_c_dumper.specs.rules.Machine.{Sess, single}
use Rattle.spec_opening.specs.Causes.{opening_number}
use Rattle.spec_session.specs.session.Answers.{Answer, Accepted, Refused, number_of, value_of, answer_of}
use Rattle.spec_session.specs.declared.session.Session.{Session}
use Rattle.spec_session.specs.session.Turns.{Call, call_of}
use Rattle.spec_session.specs.calls.Calls.{type_call, types_call}
use Rattle.spec_session.specs.calls.Lists.{ids_in, then_next, list_from, count_in}
use Rattle.spec_session.proofs.calls.Claims.{number_is, type_not_current, types_not_current, closed_stays}
use Rattle.spec_session.proofs.calls.Lists.{ids_from, ids_some, counted_goes, counted_stops}
use Rattle.spec_c_dumper.specs.needs.Lists.{Ls}
use Rattle.spec_c_dumper.specs.needs.Session.{Known}
use Rattle.proof_demands.specs.demands.Table.{machine_in}
use Rattle.proof_demands.specs.demands.Session.{Holds}
use Rattle.proof_demands.specs.demands.Demands.{types_in}
use Rattle.proof_demands.proofs.demands.Session.{type_keeps, types_keeps}
use Rattle.session_record.specs.record_words.Words.{put_long, put_longs, decoded, words_of, encoded, packed}
use Rattle.session_record.specs.record_bytes.Record.{record_refused, record_after}
use Rattle.spec_c_calls.specs.Exports.{Export, export_of, answered_by, type_export, types_export, counted_export, list_export_from, list_export}
use Rattle.spec_c_calls.proofs.Claims.{long_length, reached_length, type_says, types_say}
use Rattle.proof_calls.specs.calls_for_c.Claims.{number_in, value_in, told}
use Rattle.proof_calls.proofs.calls_for_c.Visits.{Fit, type_fit, types_fit}

-- ---- the record keeps its length
refused_length : (c len v : ℕ) (r : List ℕ) → length (record_refused c len v r) ≡ length r
unfolding record_refused
refused_length c len v r = go (ltb c 12) refl
  where
    go : (q : Bool) → ltb c 12 ≡ q → length (record_refused c len v r) ≡ length r
    go true e = rw (e, record_refused)
    go false e = rw (e, record_refused) (reached_length (put_long r 0 0) len v ∙ long_length r 0 0)

after_length : (a : Answer) (v : ℕ) (r : List ℕ) → length (record_after a v r) ≡ length r
unfolding record_after
after_length (Accepted len) v r = reached_length r len v
after_length (Refused c len) v r = refused_length c len v r

longs_length : (vs : List ℕ) (r : List ℕ) (i : ℕ) → length (put_longs r i vs) ≡ length r
unfolding put_longs
longs_length [] r i = refl
longs_length (v ∷ vs) r i = longs_length vs (put_long r i v) (suc i) ∙ long_length r i v

pub encoded_length : (s : Session) (r : List ℕ) → length (encoded s r) ≡ length r
unfolding encoded
encoded_length s r = longs_length (words_of s) r 0

-- ---- a result is taken apart again
module _ (a : Answer) (h : value_of a < 4294967296) where
  pub upper : packed a / 4294967296 ≡ number_of a
  unfolding packed
  upper = omega arith

  pub lower : packed a % 4294967296 ≡ value_of a
  unfolding packed
  lower = omega arith

  pub answer_back : a ≡ answer_of (number_of a) (value_of a) → answer_of (packed a / 4294967296) (packed a % 4294967296) ≡ a
  answer_back f = (λ i. answer_of (upper i) (lower i)) ∙ sym f

answered_told : (r : List ℕ) (c : Call) → decoded (record_after c.answer c.session.visits r) ≡ c.session → value_of c.answer < 4294967296 → c.answer ≡ answer_of (number_of c.answer) (value_of c.answer)
    → told (answered_by r c) ≡ c
unfolding answered_by export_of
answered_told r c d v f = λ i. record { session = d i; answer = answer_back c.answer v f i; work = c.work; text = c.text }

-- the record after a request is long enough for the next, and its visits fit
pub record Sound (r : List ℕ) : Type 0 where
  pub long : 128 ≤ length r
  pub few : (decoded r).visits < 4294967296

-- e tells c, and its record is sound
pub record Tells (e : Export) (c : Call) : Type 0 where
  pub is : told e ≡ c
  pub sound : Sound e.bytes

answered_tells : (r : List ℕ) → 128 ≤ length r → (c : Call) → Fit c → c.session.text_len < 4294967296 → decoded (record_after c.answer c.session.visits r) ≡ c.session → Tells (answered_by r c) c
unfolding answered_by export_of
answered_tells r h c f l d = record {
  is = answered_told r c d (subst (λ (k : ℕ). k < 4294967296) (sym f.value_same) l) f.formed;
  sound = record {
    long = omega (arith, after_length c.answer c.session.visits r);
    few = subst (λ (q : Session). q.visits < 4294967296) (sym d) f.few;
  };
}

-- ---- the exports of a record that is long enough
module _ (r section w t : List ℕ) (h : 128 ≤ length r) where
  pub type_exported : (id : ℕ) → type_export r section w t id ≡ answered_by r (type_call (decoded r) section w t id)
  unfolding type_export
  type_exported id = rw (le-ltb (length r) 128 h, type_export)

  pub types_exported : types_export r section w t ≡ answered_by r (types_call (decoded r) section w t)
  unfolding types_export
  types_exported = rw (le-ltb (length r) 128 h, types_export)

  -- "every later request gives 11", and everything is left
  module _ (o : (decoded r).«open» ≡ false) where
    pub type_later : (id : ℕ) → type_export r section w t id ≡ export_of (11 * 4294967296 + (decoded r).text_len) r w t
    unfolding answered_by packed record_after record_refused number_of value_of
    type_later id = type_exported id ∙ ap (answered_by r) (type_not_current (decoded r) section w t id (closed_stays (decoded r) section w t o))

    pub types_later : types_export r section w t ≡ export_of (11 * 4294967296 + (decoded r).text_len) r w t
    unfolding answered_by packed record_after record_refused number_of value_of
    types_later = types_exported ∙ ap (answered_by r) (types_not_current (decoded r) section w t (closed_stays (decoded r) section w t o))

    pub list_later : (ids : List ℕ) → 4 ≤ length ids → (decoded r).text_len < 4294967296 → list_export r section w t (ids_in ids) ≡ export_of (11 * 4294967296) r w t
    unfolding list_export list_export_from counted_export export_of
    list_later ids l small =
        let eleven : (11 * 4294967296 + (decoded r).text_len) / 4294967296 ≡ 11 = omega arith in
        ap (list_export_from 0 r section w t) (ids_some ids l)
        ∙ ap (λ (e : Export). counted_export 0 e (λ d. list_export_from 1 d.bytes section d.work d.text (ids_from ids 1 (count_in ids - 1)))) (type_later (get_word ids 0))
        ∙ rw (eleven, counted_export)

module _ (p modes : ℕ) (s : List ℕ) (n : ℕ) (ok : opening_number p s n ≡ 0) where
  abbrev State : Type 0
  State = Sess (Ls (Known Names))

  -- a record that says a session of the rules, and a text slice that begins with the text so far
  module _ (r w t₀ : List ℕ) (L : State) (holds : Holds p modes s n (decoded r) w t₀ L) (sound : Sound r) (t : List ℕ) (f : (decoded r).text_len ≤ length t) (same : take (decoded r).text_len t ≡ take (decoded r).text_len t₀) where
    pub type_told : (id : ℕ) → Tells (type_export r s w t id) (type_call (decoded r) s w t id)
    type_told id =
        let c : Call = type_call (decoded r) s w t id in
        let fit : Fit c = type_fit (decoded r) s w t sound.few id in
        let small : c.session.text_len < 4294967296 = omega (arith, (type_keeps p modes s n ok (decoded r) w t₀ L holds t f same id).holds.small) in
        subst (λ (e : Export). Tells e c) (sym (type_exported r s w t sound.long id)) (answered_tells r sound.long c fit small (type_says r s w t sound.long id small fit.few))

    pub types_told : Tells (types_export r s w t) (types_call (decoded r) s w t)
    types_told =
        let c : Call = types_call (decoded r) s w t in
        let fit : Fit c = types_fit (decoded r) s w t sound.few in
        let small : c.session.text_len < 4294967296 = omega (arith, (types_keeps p modes s n ok (decoded r) w t₀ L holds t f same).holds.small) in
        subst (λ (e : Export). Tells e c) (sym (types_exported r s w t sound.long)) (answered_tells r sound.long c fit small (types_say r s w t sound.long small fit.few))

  -- ---- a list, after k accepted ids
  none_told : (k : ℕ) (r w t : List ℕ) → k < 4294967296 → Sound r → Tells (export_of k r w t) (call_of (decoded r) (answer_of 0 k) w t)
  unfolding export_of call_of
  none_told k r w t l q =
      let a : k / 4294967296 ≡ 0 = omega arith in
      let b : k % 4294967296 ≡ k = omega arith in
      record { is = λ i. record { session = decoded r; answer = answer_of (a i) (b i); work = w; text = t }; sound = q }

  -- the first id of a list is refused
  stop_told : (k m : ℕ) → k < 4294967296 → (e : Export) (c : Call) (rest : Export → Export) (rest' : Call → Call) → Tells e c → number_in e ≡ suc m → number_of c.answer ≡ suc m → Tells (counted_export k e rest) (then_next k c rest')
  unfolding counted_export export_of call_of
  stop_told k m l e c rest rest' q z z' =
      let a : (suc m * 4294967296 + k) / 4294967296 ≡ suc m = omega arith in
      let b : (suc m * 4294967296 + k) % 4294967296 ≡ k = omega arith in
      let at : counted_export k e rest ≡ export_of (suc m * 4294967296 + k) e.bytes e.work e.text = rw (z, counted_export) in
      subst (λ (x : Export). Tells x (then_next k c rest')) (sym at) (record {
        is = (λ i. record { session = (q.is i).session; answer = answer_of (a i) (b i); work = (q.is i).work; text = (q.is i).text }) ∙ sym (counted_stops k (suc m) c rest' z' (λ y. absurd (omega arith)));
        sound = q.sound;
      })

  go_told : (k : ℕ) (e : Export) (c : Call) (rest : Export → Export) (rest' : Call → Call) → number_in e ≡ 0 → number_of c.answer ≡ 0 → Tells (rest e) (rest' c) → Tells (counted_export k e rest) (then_next k c rest')
  unfolding counted_export
  go_told k e c rest rest' z z' i =
      let at : counted_export k e rest ≡ rest e = rw (z, counted_export) in
      subst (λ (x : Export). Tells x (then_next k c rest')) (sym at) (subst (Tells (rest e)) (sym (counted_goes k c rest' z')) i)

  abbrev Next : ℕ → List ℕ → Type 0
  Next k ids = (r w t₀ : List ℕ) (L : State) → Holds p modes s n (decoded r) w t₀ L → Sound r → (t : List ℕ) → (decoded r).text_len ≤ length t → take (decoded r).text_len t ≡ take (decoded r).text_len t₀
      → Tells (list_export_from k r s w t ids) (list_from k (decoded r) s w t ids)

  module _ (k x : ℕ) (ids : List ℕ) (l : k < 4294967296) (ih : Next (suc k) ids) (r w t₀ : List ℕ) (L : State) (holds : Holds p modes s n (decoded r) w t₀ L) (sound : Sound r)
      (t : List ℕ) (f : (decoded r).text_len ≤ length t) (same : take (decoded r).text_len t ≡ take (decoded r).text_len t₀) where
    abbrev e₁ : Export
    e₁ = type_export r s w t x

    abbrev c₁ : Call
    c₁ = type_call (decoded r) s w t x

    abbrev resting : Export → Export
    resting e = list_export_from (suc k) e.bytes s e.work e.text ids

    abbrev rest : Call → Call
    rest c = list_from (suc k) c.session s c.work c.text ids

    first : Tells e₁ c₁
    first = type_told r w t₀ L holds sound t f same x

    number_same : number_in e₁ ≡ number_of c₁.answer
    number_same = sym (number_is (number_in e₁) (value_in e₁)) ∙ ap (λ (c : Call). number_of c.answer) first.is

    held : Holds p modes s n (decoded e₁.bytes) e₁.work e₁.text (single (machine_in p modes s n) (types_in p modes s n) (length t) L x).sess
    held =
        subst (λ (c : Call). Holds p modes s n c.session c.work c.text (single (machine_in p modes s n) (types_in p modes s n) (length t) L x).sess) (sym first.is)
        (type_keeps p modes s n ok (decoded r) w t₀ L holds t f same x).holds

    onward : Tells (resting e₁) (rest c₁)
    onward =
        subst (λ (c : Call). Tells (resting e₁) (rest c)) first.is
        (ih e₁.bytes e₁.work e₁.text (single (machine_in p modes s n) (types_in p modes s n) (length t) L x).sess held first.sound e₁.text held.fits refl)

    each : Tells (counted_export k e₁ resting) (then_next k c₁ rest)
    each = go (number_of c₁.answer) refl
      where
        go : (m : ℕ) → number_of c₁.answer ≡ m → Tells (counted_export k e₁ resting) (then_next k c₁ rest)
        go zero z = go_told k e₁ c₁ resting rest (number_same ∙ z) z onward
        go (suc m) z = stop_told k m l e₁ c₁ resting rest first (number_same ∙ z) z

  pub list_told : (ids : List ℕ) (k : ℕ) → k + length ids < 4294967296 → Next k ids
  unfolding list_export_from list_from
  list_told [] k l r w t₀ L holds sound t f same = none_told k r w t (omega arith) sound
  list_told (x ∷ ids) k l r w t₀ L holds sound t f same = each k x ids (omega arith) (list_told ids (suc k) (omega arith)) r w t₀ L holds sound t f same
