-- A list of ids for C: what the record's bytes are after it, and that they are those that the calls for one id leave. Assumes nothing.
use Prim.Native.Nat.{ℕ, zero, suc, ◌+◌, ◌-◌, ◌*◌, ◌/◌, ◌%◌, ◌<◌, ◌≤◌}
use mathlib.Core.Path.{◌≡◌, refl, ap, ◌∙◌, sym, subst}
use mathlib.Core.Bool.{Bool, true, false}
use mathlib.Core.List.{List, [], ◌∷◌}
use mathlib.Core.Logic.{◌≢◌}
use native.Mathlib.Omega.{arith}
use lib.Dec.{ltb}
use lib.ListN.{length}
use borrow.Author.Tests.{le-ltb, ltb-true}
use Rattle.spec_bytes.specs.words.Words.{get_word, put_word}
use Rattle.spec_bytes.proofs.words.Laws.{put_again, put_swap}
use Rattle.spec_session.specs.session.Answers.{Answer, number_of, value_of, answer_of, answer_is}
use Rattle.spec_session.specs.declared.session.Session.{Session}
use Rattle.spec_session.specs.declared.session.Turn.{Turn}
use Rattle.spec_session.specs.session.Turns.{Call, call_of}
use Rattle.spec_session.proofs.session.Laws.{visits_fit}
use Rattle.spec_session.specs.calls.Calls.{type_call}
use Rattle.spec_session.specs.calls.Lists.{ids_in, then_next, list_from, list_call, count_in}
use Rattle.spec_session.proofs.calls.Lists.{ids_from, ids_none, ids_some, counted_goes, counted_stops, Single, type_single, Counts, list_counts}
use Rattle.session_record.specs.record_words.Words.{put_long, decoded, packed, put_reached}
use Rattle.session_record.specs.record_bytes.Record.{record_refused, record_after, record_longer, record_listed}
use Rattle.spec_c_calls.specs.Exports.{Export, export_of, answered_by, type_export, counted_export, list_export_from, list_export}
use Rattle.spec_c_calls.proofs.Laws.{type_short}
use Rattle.spec_c_calls.proofs.Claims.{reached_length, type_says}

-- ---- words that are put over others
-- word i twice
long_again : (r : List ℕ) (i u v : ℕ) → put_long (put_long r i u) i v ≡ put_long r i v
unfolding put_long
long_again r i u v =
    ap (λ (l : List ℕ). put_word l (i * 2 + 1) (v / 4294967296)) (put_swap (put_word r (i * 2) (u % 4294967296)) (i * 2 + 1) (i * 2) (u / 4294967296) (v % 4294967296) (λ e. absurd (omega arith)))
    ∙ put_again (put_word (put_word r (i * 2) (u % 4294967296)) (i * 2) (v % 4294967296)) (i * 2 + 1) (u / 4294967296) (v / 4294967296)
    ∙ ap (λ (l : List ℕ). put_word l (i * 2 + 1) (v / 4294967296)) (put_again r (i * 2) (u % 4294967296) (v % 4294967296))

-- word i, and then word k
long_swap : (r : List ℕ) (i k u v : ℕ) → k ≢ i → put_long (put_long r i u) k v ≡ put_long (put_long r k v) i u
unfolding put_long
long_swap r i k u v n =
    ap (λ (l : List ℕ). put_word l (k * 2 + 1) (v / 4294967296))
    (put_swap (put_word r (i * 2) (u % 4294967296)) (i * 2 + 1) (k * 2) (u / 4294967296) (v % 4294967296) (λ e. absurd (omega arith))
    ∙ ap (λ (l : List ℕ). put_word l (i * 2 + 1) (u / 4294967296)) (put_swap r (i * 2) (k * 2) (u % 4294967296) (v % 4294967296) (λ e. absurd (n (omega arith)))))
    ∙ put_swap (put_word (put_word r (k * 2) (v % 4294967296)) (i * 2) (u % 4294967296)) (i * 2 + 1) (k * 2 + 1) (u / 4294967296) (v / 4294967296) (λ e. absurd (n (omega arith)))
    ∙ ap (λ (l : List ℕ). put_word l (i * 2 + 1) (u / 4294967296)) (put_swap (put_word r (k * 2) (v % 4294967296)) (i * 2) (k * 2 + 1) (u % 4294967296) (v / 4294967296) (λ e. absurd (omega arith)))

-- text length and visits twice, and before the open word
reached_again : (r : List ℕ) (l₁ v₁ len v : ℕ) → put_reached (put_reached r l₁ v₁) len v ≡ put_reached r len v
unfolding put_reached
reached_again r l₁ v₁ len v =
    ap (λ (l : List ℕ). put_long l 8 v) (long_swap (put_long r 5 l₁) 8 5 v₁ len (λ e. absurd (omega arith)))
    ∙ long_again (put_long (put_long r 5 l₁) 5 len) 8 v₁ v
    ∙ ap (λ (l : List ℕ). put_long l 8 v) (long_again r 5 l₁ len)

reached_swap : (r : List ℕ) (l₁ v₁ u : ℕ) → put_long (put_reached r l₁ v₁) 0 u ≡ put_reached (put_long r 0 u) l₁ v₁
unfolding put_reached
reached_swap r l₁ v₁ u = long_swap (put_long r 5 l₁) 8 0 v₁ u (λ e. absurd (omega arith)) ∙ ap (λ (l : List ℕ). put_long l 8 v₁) (long_swap r 5 0 l₁ u (λ e. absurd (omega arith)))

-- what a single request wrote, what follows it writes anew
joined : (n m val len v l₁ v₁ : ℕ) (r : List ℕ) → suc n ≤ val → (val ≡ suc n → m < 12 → (len ≡ l₁) × (v ≡ v₁)) → record_listed m (val - suc n) len v (put_reached r l₁ v₁) ≡ record_listed m (val - n) len v r
unfolding record_listed record_longer
joined n m val len v l₁ v₁ r h f = go (ltb m 12) refl
  where
    longer : m < 12 → (k : ℕ) → val - suc n ≡ k → record_longer (val - suc n) len v (put_reached r l₁ v₁) ≡ record_longer (val - n) len v r
    longer b zero e =
        let z : val - n ≡ 1 = omega arith in
        let q : val ≡ suc n = omega arith in
        ap (λ (k : ℕ). record_longer k len v (put_reached r l₁ v₁)) e ∙ (λ i. put_reached r (sym (f q b).0 i) (sym (f q b).1 i)) ∙ sym (ap (λ (k : ℕ). record_longer k len v r) z)
    longer b (suc k) e =
        let z : val - n ≡ suc (suc k) = omega arith in
        ap (λ (j : ℕ). record_longer j len v (put_reached r l₁ v₁)) e ∙ reached_again r l₁ v₁ len v ∙ sym (ap (λ (j : ℕ). record_longer j len v r) z)

    go : (q : Bool) → ltb m 12 ≡ q → record_listed m (val - suc n) len v (put_reached r l₁ v₁) ≡ record_listed m (val - n) len v r
    go true e = rw (e, record_listed) (longer (ltb-true m 12 e) (val - suc n) refl)
    go false e = rw (e, record_listed) (ap (λ (l : List ℕ). put_reached l len v) (reached_swap r l₁ v₁ 0) ∙ reached_again (put_long r 0 0) l₁ v₁ len v)

-- ---- the calls for one id, one after another
counted_on : (n : ℕ) (e : Export) (k : Export → Export) → e.result / 4294967296 ≡ 0 → counted_export n e k ≡ k e
unfolding counted_export
counted_on n e k z = rw (z, counted_export)

counted_off : (n m : ℕ) (e : Export) (k : Export → Export) → e.result / 4294967296 ≡ suc m → counted_export n e k ≡ export_of (suc m * 4294967296 + n) e.bytes e.work e.text
unfolding counted_export
counted_off n m e k z = rw (z, counted_export)

upper : (a : Answer) → value_of a < 4294967296 → packed a / 4294967296 ≡ number_of a
unfolding packed
upper a h = omega arith

-- the record, work and text that a call for a list leaves, after n accepted ids
abbrev leaves : ℕ → List ℕ → Call → Export
leaves n r c = export_of (packed c.answer) (record_listed (number_of c.answer) (value_of c.answer - n) c.session.text_len c.session.visits r) c.work c.text

module _ (section : List ℕ) where
  abbrev Small : Call → Type 0
  Small c = (c.session.text_len < 4294967296) × (c.session.visits < 4294967296)

  none_left : (n : ℕ) (r w t : List ℕ) (s : Session) → export_of n r w t ≡ leaves n r (call_of s (answer_of 0 n) w t)
  unfolding call_of packed number_of value_of answer_of record_listed record_longer
  none_left n r w t s =
      let a : n ≡ 0 * 4294967296 + n = omega arith in
      let b : 0 ≡ n - n = omega arith in
      λ i. export_of (a i) (record_listed 0 (b i) s.text_len s.visits r) w t

  module _ (n x : ℕ) (ids r w t : List ℕ) (h : 128 ≤ length r)
      (ih : (r₁ w₁ t₁ : List ℕ) → 128 ≤ length r₁ → Small (list_from (suc n) (decoded r₁) section w₁ t₁ ids) → list_export_from (suc n) r₁ section w₁ t₁ ids ≡ leaves (suc n) r₁ (list_from (suc n) (decoded r₁) section w₁ t₁ ids)) where
    abbrev c₁ : Call
    c₁ = type_call (decoded r) section w t x

    abbrev rest : Call → Call
    rest c = list_from (suc n) c.session section c.work c.text ids

    abbrev resting : Export → Export
    resting e = list_export_from (suc n) e.bytes section e.work e.text ids

    single : Single (decoded r) t c₁
    single = type_single (decoded r) section w t x

    exported : type_export r section w t x ≡ answered_by r c₁
    unfolding type_export
    exported = rw (le-ltb (length r) 128 h, type_export)

    top : Small c₁ → (type_export r section w t x).result / 4294967296 ≡ number_of c₁.answer
    unfolding answered_by export_of
    top q = ap (λ (e : Export). e.result / 4294967296) exported ∙ upper c₁.answer (subst (λ (k : ℕ). k < 4294967296) (sym single.value_same) q.0)

    accepted : number_of c₁.answer ≡ 0 → Small (rest c₁) → counted_export n (type_export r section w t x) resting ≡ leaves n r (then_next n c₁ rest)
    unfolding answered_by export_of record_after answer_of
    accepted z q =
        let counts : Counts section (suc n) c₁.session c₁.text (rest c₁) = list_counts section (suc n) c₁.session c₁.work c₁.text ids in
        let few : c₁.session.visits < 4294967296 = subst (λ (k : ℕ). k < 4294967296) (sym (single.counts z)) (visits_fit c₁.work) in
        let small : Small c₁ = (omega (arith, counts.grows, q.0), few) in
        let r₁ : List ℕ = put_reached r c₁.session.text_len c₁.session.visits in
        let after : record_after c₁.answer c₁.session.visits r ≡ r₁ = ap (λ (a : Answer). record_after a c₁.session.visits r) (single.formed ∙ (λ i. answer_of (z i) (single.value_same i))) in
        let says : decoded r₁ ≡ c₁.session = ap decoded (sym after) ∙ type_says r section w t h x small.0 few in
        let long : 128 ≤ length r₁ = omega (arith, reached_length r c₁.session.text_len c₁.session.visits) in
        counted_on n (type_export r section w t x) resting (top small ∙ z)
        ∙ ap resting exported
        ∙ ap (λ (l : List ℕ). list_export_from (suc n) l section c₁.work c₁.text ids) after
        ∙ ih r₁ c₁.work c₁.text long (subst (λ (s : Session). Small (list_from (suc n) s section c₁.work c₁.text ids)) (sym says) q)
        ∙ ap (λ (s : Session). leaves (suc n) r₁ (list_from (suc n) s section c₁.work c₁.text ids)) says
        ∙ ap (λ (l : List ℕ). export_of (packed (rest c₁).answer) l (rest c₁).work (rest c₁).text)
        (joined n (number_of (rest c₁).answer) (value_of (rest c₁).answer) (rest c₁).session.text_len (rest c₁).session.visits c₁.session.text_len c₁.session.visits r counts.at_least
        (λ e b. (ap (λ (s : Session). s.text_len) (counts.still e b), ap (λ (s : Session). s.visits) (counts.still e b))))
        ∙ ap (leaves n r) (sym (counted_goes n c₁ rest z))

    stopped_record : (m k v : ℕ) → record_refused (suc m) k v r ≡ record_listed (suc m) (n - n) k v r
    unfolding record_refused record_listed record_longer
    stopped_record m k v = go (ltb (suc m) 12) refl
      where
        go : (q : Bool) → ltb (suc m) 12 ≡ q → record_refused (suc m) k v r ≡ record_listed (suc m) (n - n) k v r
        go true e = let z : n - n ≡ 0 = omega arith in rw (e, record_refused, record_listed) (sym (ap (λ (j : ℕ). record_longer j k v r) z))
        go false e = rw (e, record_refused, record_listed)

    refused : (m : ℕ) → number_of c₁.answer ≡ suc m → Small c₁ → counted_export n (type_export r section w t x) resting ≡ leaves n r (then_next n c₁ rest)
    unfolding answered_by export_of record_after answer_of call_of packed number_of value_of
    refused m z q =
        let after : record_after c₁.answer c₁.session.visits r ≡ record_listed (suc m) (n - n) c₁.session.text_len c₁.session.visits r = ap (λ (a : Answer). record_after a c₁.session.visits r) (single.formed ∙ (λ i. answer_of (z i) (single.value_same i))) ∙ stopped_record m c₁.session.text_len c₁.session.visits in
        counted_off n m (type_export r section w t x) resting (top q ∙ z)
        ∙ ap (λ (e : Export). export_of (suc m * 4294967296 + n) e.bytes e.work e.text) exported
        ∙ ap (λ (l : List ℕ). export_of (suc m * 4294967296 + n) l c₁.work c₁.text) after
        ∙ sym (ap (leaves n r) (counted_stops n (suc m) c₁ rest z (λ y. absurd (omega arith))))

    each : Small (then_next n c₁ rest) → counted_export n (type_export r section w t x) resting ≡ leaves n r (then_next n c₁ rest)
    unfolding call_of
    each q = go (number_of c₁.answer) refl
      where
        go : (m : ℕ) → number_of c₁.answer ≡ m → counted_export n (type_export r section w t x) resting ≡ leaves n r (then_next n c₁ rest)
        go zero z = accepted z (subst Small (counted_goes n c₁ rest z) q)
        go (suc m) z = refused m z (subst Small (counted_stops n (suc m) c₁ rest z (λ y. absurd (omega arith))) q)

  fold_is : (ids : List ℕ) (n : ℕ) (r w t : List ℕ) → 128 ≤ length r → Small (list_from n (decoded r) section w t ids) → list_export_from n r section w t ids ≡ leaves n r (list_from n (decoded r) section w t ids)
  unfolding list_export_from list_from
  fold_is [] n r w t h q = none_left n r w t (decoded r)
  fold_is (x ∷ ids) n r w t h q = each n x ids r w t h (λ r₁ w₁ t₁ h₁ q₁. fold_is ids (suc n) r₁ w₁ t₁ h₁ q₁) q

-- ---- the export
module _ (r section w t ids : List ℕ) where
  pub list_none : length ids < 4 → export_of 0 r w t ≡ list_export r section w t (ids_in ids)
  unfolding list_export list_export_from
  list_none h = sym (ap (list_export_from 0 r section w t) (ids_none ids h))

  pub list_short : 4 ≤ length ids → length r < 128 → export_of 47244640256 r w t ≡ list_export r section w t (ids_in ids)
  unfolding list_export list_export_from counted_export export_of
  list_short l h =
      sym (ap (list_export_from 0 r section w t) (ids_some ids l)
      ∙ ap (λ (e : Export). counted_export 0 e (λ d. list_export_from 1 d.bytes section d.work d.text (ids_from ids 1 (count_in ids - 1)))) (sym (type_short r section w t h (get_word ids 0))))

  module _ (h : 128 ≤ length r) (s : Session) (es : s ≡ decoded r) (turn : Turn) (w' t' : List ℕ) (u : ℕ) (r' : List ℕ) where
    pub list_is : turn.session.text_len < 4294967296 → turn.session.visits < 4294967296 → call_of turn.session (answer_is turn.answer) w' t' ≡ list_call s section w t (ids_in ids)
        → (u ≡ packed (answer_is turn.answer)) × (r' ≡ record_listed (number_of (answer_is turn.answer)) (value_of (answer_is turn.answer)) turn.session.text_len turn.session.visits r) → export_of u r' w' t' ≡ list_export r section w t (ids_in ids)
    unfolding list_export list_call call_of
    list_is q q' e eu =
        let z : value_of (answer_is turn.answer) ≡ value_of (answer_is turn.answer) - 0 = omega arith in
        let whole : call_of turn.session (answer_is turn.answer) w' t' ≡ list_from 0 (decoded r) section w t (ids_in ids) = e ∙ ap (λ (k : Session). list_call k section w t (ids_in ids)) es in
        (λ i. export_of (eu.0 i) ((eu.1 ∙ ap (λ (k : ℕ). record_listed (number_of (answer_is turn.answer)) k turn.session.text_len turn.session.visits r) z) i) w' t')
        ∙ ap (leaves 0 r) whole
        ∙ sym (fold_is section (ids_in ids) 0 r w t h (subst (λ (c : Call). (c.session.text_len < 4294967296) × (c.session.visits < 4294967296)) whole (q, q')))
