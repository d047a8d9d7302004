-- The record that an accepted opening for C leaves says the session that it opened: every field fits in its word. Assumes nothing.
use Prim.Native.Nat.{ℕ, zero, suc, ◌+◌, ◌*◌, ◌/◌, ◌<◌, ◌≤◌}
use mathlib.Core.Path.{◌≡◌, refl, ap, ◌∙◌, sym, subst}
use mathlib.Core.Bool.{Bool, true, false, true≢false}
use mathlib.Core.List.{List}
use mathlib.Core.Logic.{⊎_elim}
use native.Mathlib.Omega.{arith}
use lib.ListN.{length, replicate}
use lib.Dec.{ltb}
use borrow.Author.Tests.{le-ltb, eq-eqb, ne_eqb, ltb-false}
use Rattle.std.proofs.lemmas.Bool.{cases_lt}
use Rattle.spec_opening.specs.Table.{types_of, enumerators_of}
use Rattle.spec_opening.specs.Causes.{opening_number}
use Rattle.spec_opening.specs.Opened.{refused, opened, work_of}
use Rattle.spec_opening.proofs.Claims.{sound_none, cause_1}
use Rattle.spec_opening.proofs.ReadBack.{header_ok, types_ok, section_short, order_ok}
use Rattle.spec_opening.proofs.Index.{types_few}
use Rattle.spec_opening.proofs.Sums.{enumerators_few}
use Rattle.spec_session.specs.session.Answers.{Accepted, number_of, value_of, answer_of}
use Rattle.spec_session.specs.declared.session.Session.{Session}
use Rattle.spec_session.specs.session.Turns.{Call}
use Rattle.spec_session.specs.calls.Calls.{opened_call, open_call}
use Rattle.spec_session.proofs.calls.Laws.{opens_sound, opens_refused}
use Rattle.spec_session.proofs.calls.Claims.{number_is, value_is, accepted_opening}
use Rattle.proof_demands.specs.demands.Table.{header_of}
use Rattle.proof_demands.proofs.demands.Demands.{open_number}
use Rattle.session_record.specs.record_words.Words.{decoded, encoded, packed}
use Rattle.session_record.specs.record_bytes.Record.{record_opened}
use Rattle.spec_c_calls.specs.Exports.{Export, export_of, opened_by, open_export}
use Rattle.spec_c_calls.proofs.Claims.{opened_says}
use Rattle.proof_calls.specs.calls_for_c.Claims.{number_in, value_in, told, OpensC}
use Rattle.proof_calls.proofs.calls_for_c.Bytes.{encoded_length, answer_back, Tells}

-- ---- what opening accepts fits
module _ (p modes : ℕ) (s : List ℕ) (n : ℕ) (ok : opening_number p s n ≡ 0) where
  few_types : types_of s < 4294967296
  few_types = omega (arith, types_few s (header_ok p modes s n ok) (types_ok p modes s n ok))

  few_enumerators : enumerators_of s < 4294967296
  few_enumerators = omega (arith, enumerators_few (header_of p modes s) s (order_ok p modes s n ok) (header_ok p modes s n ok) (types_ok p modes s n ok), section_short p modes s n ok)

  small_pointer : p < 4294967296
  small_pointer = ⊎_elim (λ l. absurd (true≢false (sym ((cause_1 p).1 ((λ e. absurd (omega arith)), (λ e. absurd (omega arith)))) ∙ ((sound_none p s n).0 ok).0))) (λ l. omega arith) (cases_lt 8 p)

-- ---- the session that is opened
module _ (S : Session) (section work p modes types enumerators : ℕ) (w t r : List ℕ) (h : 128 ≤ length r) (a : types < 4294967296) (b : enumerators < 4294967296) (c : p < 4294967296) where
  abbrev call : Call
  call = opened_call S section work p modes (opened types enumerators w t)

  says : decoded (encoded call.session r) ≡ call.session
  unfolding opened_call
  says = opened_says call.session r h refl a b (omega arith) c (omega arith) (omega arith)

  opened_tells : Tells (opened_by r call) call
  unfolding opened_call opened_by export_of record_opened answer_of value_of number_of
  opened_tells = record {
    is = λ i. record { session = says i; answer = answer_back (Accepted types) a refl i; work = w; text = t };
    sound = record {
      long = omega (arith, encoded_length call.session r);
      few = subst (λ (q : Session). q.visits < 4294967296) (sym says) (omega arith);
    };
  }

-- ---- the export
exported : (r s work text : List ℕ) (p modes : ℕ) → 128 ≤ length r → open_export r s p modes work text ≡ opened_by r (open_call (decoded r) s work text p modes)
unfolding open_export
exported r s work text p modes h = rw (le-ltb (length r) 128 h, open_export)

is_sound_lem : (S : Session) (s work text : List ℕ) (p modes : ℕ) → opening_number p s (length work) ≡ 0
    → open_call S s work text p modes ≡ opened_call S (length s) (length work) p modes (opened (types_of s) (enumerators_of s) (work_of p modes s (length work)) (replicate (length text) 0))
unfolding open_call
is_sound_lem S s work text p modes ok = ap (opened_call S (length s) (length work) p modes) (opens_sound p modes s work text (eq-eqb (opening_number p s (length work)) 0 ok))

is_refused_lem : (S : Session) (s work text : List ℕ) (p modes k : ℕ) → opening_number p s (length work) ≡ suc k
    → open_call S s work text p modes ≡ opened_call S (length s) (length work) p modes (refused (suc k) work text)
unfolding open_call
is_refused_lem S s work text p modes k e =
    ap (opened_call S (length s) (length work) p modes)
    (opens_refused p modes s work text (ne_eqb (opening_number p s (length work)) 0 (λ z. absurd (omega arith))) ∙ ap (λ (n : ℕ). refused n work text) e)

module _ (r s work text : List ℕ) (p modes : ℕ) (h : 128 ≤ length r) where
  -- accepted
  sound_told : opening_number p s (length work) ≡ 0 → Tells (open_export r s p modes work text) (open_call (decoded r) s work text p modes)
  sound_told ok =
      subst (λ (e : Export). Tells e (open_call (decoded r) s work text p modes)) (sym (exported r s work text p modes h))
      (subst (λ (d : Call). Tells (opened_by r d) d) (sym (is_sound_lem (decoded r) s work text p modes ok))
      (opened_tells (decoded r) (length s) (length work) p modes (types_of s) (enumerators_of s) (work_of p modes s (length work)) (replicate (length text) 0) r h
      (few_types p modes s (length work) ok) (few_enumerators p modes s (length work) ok) (small_pointer p modes s (length work) ok)))

  -- refused: all is left
  refused_is : (k : ℕ) → opening_number p s (length work) ≡ suc k → open_export r s p modes work text ≡ export_of (suc k * 4294967296) r work text
  unfolding opened_call opened_by record_opened answer_of packed number_of value_of
  refused_is k e =
      let z : suc k * 4294967296 + 0 ≡ suc k * 4294967296 = omega arith in
      exported r s work text p modes h
      ∙ ap (opened_by r) (is_refused_lem (decoded r) s work text p modes k e)
      ∙ ap (λ (n : ℕ). export_of n r work text) z

  number_of_lem : (k : ℕ) → opening_number p s (length work) ≡ k → number_in (open_export r s p modes work text) ≡ k
  unfolding export_of
  number_of_lem zero e =
      sym (number_is (number_in (open_export r s p modes work text)) (value_in (open_export r s p modes work text)))
      ∙ ap (λ (d : Call). number_of d.answer) (sound_told e).is
      ∙ open_number (decoded r) s work text p modes
      ∙ e
  number_of_lem (suc k) e =
      let z : suc k * 4294967296 / 4294967296 ≡ suc k = omega arith in
      ap number_in (refused_is k e) ∙ z

  accepted_is : opening_number p s (length work) ≡ 0 → (value_in (open_export r s p modes work text) ≡ types_of s) × ((open_export r s p modes work text).text ≡ replicate (length text) 0)
  accepted_is e =
      let q = accepted_opening (decoded r) s work text p modes (open_number (decoded r) s work text p modes ∙ e) in
      let t : told (open_export r s p modes work text) ≡ open_call (decoded r) s work text p modes = (sound_told e).is in (
        sym (value_is (number_in (open_export r s p modes work text)) (value_in (open_export r s p modes work text))) ∙ ap (λ (d : Call). value_of d.answer) t ∙ q.2,
        ap (λ (d : Call). d.text) t ∙ q.3,
      )

  pub opens_c : OpensC p modes s r work text
  opens_c = record {
    number = number_of_lem (opening_number p s (length work)) refl;
    refused = λ z. go z (opening_number p s (length work)) refl;
    accepted = accepted_is;
  }
    where
      go : (opening_number p s (length work) ≡ 0 → ⊥) → (k : ℕ) → opening_number p s (length work) ≡ k → open_export r s p modes work text ≡ export_of (opening_number p s (length work) * 4294967296) r work text
      go z zero e = absurd (z e)
      go z (suc k) e = refused_is k e ∙ ap (λ (n : ℕ). export_of (n * 4294967296) r work text) (sym e)

-- ---- a list of calls starts at an opening of number 0
module _ (r s work text : List ℕ) (p modes : ℕ) (q : number_in (open_export r s p modes work text) ≡ 0) where
  -- a shorter record is refused
  long_enough : 128 ≤ length r
  unfolding open_export export_of
  long_enough = go (ltb (length r) 128) refl
    where
      go : (b : Bool) → ltb (length r) 128 ≡ b → 128 ≤ length r
      go false e = ltb-false (length r) 128 e
      go true e =
          let short : open_export r s p modes work text ≡ export_of (255 * 4294967296) r work text = rw (e, open_export) in
          let z : 255 * 4294967296 / 4294967296 ≡ 0 = sym (ap number_in short) ∙ q in
          absurd (omega arith)

  ok : opening_number p s (length work) ≡ 0
  ok = sym (number_of_lem r s work text p modes long_enough (opening_number p s (length work)) refl) ∙ q

  pub accepted : number_of (open_call (decoded r) s work text p modes).answer ≡ 0
  accepted = open_number (decoded r) s work text p modes ∙ ok

  pub open_told : Tells (open_export r s p modes work text) (open_call (decoded r) s work text p modes)
  open_told = sound_told r s work text p modes long_enough ok
