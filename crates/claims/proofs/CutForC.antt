-- Ask 14 holds of the calls for C. Assumes nothing but that the section is bytes.
use Prim.Native.Nat.{ℕ, zero, suc, ◌+◌, ◌*◌, ◌/◌, ◌%◌, ◌≤◌, ◌<◌}
use mathlib.Core.Path.{◌≡◌, refl, ap, ◌∙◌, sym, subst}
use mathlib.Core.Bool.{Bool, true, false}
use mathlib.Core.List.{List, [], ◌∷◌, ◌++◌, map}
use native.Mathlib.Omega.{arith}
use lib.ListN.{length}
use lib.Dec.{ltb}
use borrow.Author.Tests.{le-ltb, leb-true}
use Rattle.spec_linux_btf.specs.Documentation.{Every}
use Rattle.spec_c_dumper.specs.rules.Machine.{Req, one}
use Rattle.spec_opening.specs.Causes.{opening_number}
use Rattle.spec_session.specs.session.Answers.{number_of, value_of}
use Rattle.spec_cut.specs.section.Renumbered.{new_id}
use Rattle.spec_cut.specs.section.Stands.{Renumbered}
use Rattle.session_record.specs.record_words.Words.{decoded}
use Rattle.session_cut.specs.call.Calls.{Cut, cut_call}
use Rattle.spec_c_calls.specs.Exports.{Export, export_of, type_export, counted_export, list_export_from, list_export}
use Rattle.spec_c_calls.specs.Cuts.{CutExport, cut_export_of, cut_for, cut_export}
use Rattle.proof_demands.proofs.demands.Session.{after_holds}
use Rattle.proof_calls.specs.calls_for_c.Claims as for-c
use Rattle.proof_calls.proofs.calls_for_c.Bytes.{upper, lower}
use Rattle.proof_calls.proofs.calls_for_c.Claims.{delivered_c, record_long}
use Rattle.claims.specs.Calls.{ids_in, Lent, After, then_one}
use Rattle.claims.specs.Request14_cut.{kept_by, section_for, Cuts, Numbered, SameAnswer, SameList, HasNumber, HasNewNumber, Reopened, Reopens, Request14}
use Rattle.claims.specs.Ours.{session_cutting, for_c, cutting_for_c}
use Rattle.claims.proofs.Demands.{c_stated, c_sound, c_after}
use Rattle.claims.proofs.Cut.{renumbered_more, session_cuts, numbered_by, ok', so_far, next}

-- ---- the call

module _ (e : Export) (s given out : List ℕ) where
  abbrev t : Cut
  t = cut_call (decoded e.bytes) s given out

  of_session : Cuts session_cutting (for-c.told e) s given out
  of_session = session_cuts (for-c.told e) s given out

  value_small : value_of t.answer < 4294967296
  value_small = go (number_of t.answer) refl
    where
      go : (k : ℕ) → number_of t.answer ≡ k → value_of t.answer < 4294967296
      go zero q = omega (arith, of_session.value q, of_session.short q)
      go (suc k) q = let z : value_of t.answer ≡ 0 = (of_session.refused (λ w. absurd (let y : suc k ≡ 0 = sym q ∙ w in omega arith))).0 in omega (arith, z)

  -- by the length of the record
  abbrev by : Bool → CutExport
  by b = elim b as (λ (c : Bool). CutExport) [ true ↦ cut_export_of (11 * 4294967296) out | false ↦ cut_for t ]

  pub record Told (x : CutExport) : Type 0 where
    pub number : x.result / 4294967296 ≡ number_of t.answer
    pub value : x.result % 4294967296 ≡ value_of t.answer
    pub slice : x.out ≡ t.out

  told_long : Told (by false)
  unfolding cut_for cut_export_of
  told_long = record { number = upper t.answer value_small; value = lower t.answer value_small; slice = refl }

  cuts_by : (b : Bool) → ltb (length e.bytes) 128 ≡ b → Cuts cutting_for_c e s given out
  unfolding cut_export cut_export_of
  cuts_by true q =
      let is : cut_export e.bytes s given out ≡ by true = ap by q in
      let a : (11 * 4294967296) / 4294967296 ≡ 11 = omega arith in
      let v : (11 * 4294967296) % 4294967296 ≡ 0 = omega arith in
      let n : cutting_for_c.number e s given out ≡ 11 = ap (λ (x : CutExport). x.result / 4294967296) is ∙ a in
      record {
        value = λ z. absurd (omega (arith, n, z));
        written = λ z. absurd (omega (arith, n, z));
        fits = λ z. absurd (omega (arith, n, z));
        short = λ z. absurd (omega (arith, n, z));
        refused = λ z. (ap (λ (x : CutExport). x.result % 4294967296) is ∙ v, ap (λ (x : CutExport). x.out) is);
      }
  cuts_by false q =
      let is : cut_export e.bytes s given out ≡ by false = ap by q in
      let n : cutting_for_c.number e s given out ≡ number_of t.answer = ap (λ (x : CutExport). x.result / 4294967296) is ∙ told_long.number in
      let v : cutting_for_c.value e s given out ≡ value_of t.answer = ap (λ (x : CutExport). x.result % 4294967296) is ∙ told_long.value in
      let o : cutting_for_c.out e s given out ≡ t.out = ap (λ (x : CutExport). x.out) is ∙ told_long.slice in
      record {
        value = λ z. v ∙ of_session.value (sym n ∙ z);
        written = λ z. o ∙ of_session.written (sym n ∙ z);
        fits = λ z. of_session.fits (sym n ∙ z);
        short = λ z. of_session.short (sym n ∙ z);
        refused = λ z. let r = of_session.refused (λ w. z (n ∙ w)) in (v ∙ r.0, o ∙ r.1);
      }

  number_long : 128 ≤ length e.bytes → cutting_for_c.number e s given out ≡ number_of t.answer
  unfolding cut_export
  number_long l = ap (λ (x : CutExport). x.result / 4294967296) (ap by (le-ltb (length e.bytes) 128 l)) ∙ told_long.number

c_cuts : (e : Export) (s given out : List ℕ) → Cuts cutting_for_c e s given out
c_cuts e s given out = cuts_by e s given out (ltb (length e.bytes) 128) refl

c_numbered : (p modes : ℕ) (s : List ℕ) (n : ℕ) (e : Export) (rs : List Req) → After for_c p modes s n e rs → (given out : List ℕ) → Numbered for_c cutting_for_c s e given out
c_numbered p modes s n e rs a given out =
    number_long e s given out (record_long p modes s n (c_after p modes s n a))
    ∙ numbered_by p modes s n (c_sound p modes s n e rs a) (for-c.told e) rs ((delivered_c p modes s n).same_calls e rs (c_after p modes s n a)).told_after given out

-- ---- the new section

module _ (p modes : ℕ) (s : List ℕ) (n : ℕ) (given : List ℕ) (n' : ℕ) (h : Reopened for_c p modes s n given n') where
  abbrev kept : ℕ → Bool
  kept = kept_by s given

  abbrev new : List ℕ
  new = section_for s given

  abbrev Numbers : List Req → List Req → Type 0
  Numbers = Renumbered (HasNewNumber for_c p modes s n given n')

  -- a call's own text
  own : (m : ℕ) (section : List ℕ) (e : Export) (rs : List Req) → After for_c p modes section m e rs → Lent for_c e e.text
  own m section e rs a =
      let told = ((delivered_c p modes section m).same_calls e rs (c_after p modes section m a)).told_after in
      record { long = (after_holds p modes section m (c_sound p modes section m e rs a) told).fits; begins = refl }

  from : (k : ℕ) (e e' : Export) (rs rs' : List Req) → After for_c p modes s n e rs → After for_c p modes new n' e' rs' → Numbers rs rs' → (text text' : List ℕ) → length text ≡ length text'
      → Lent for_c e text → Lent for_c e' text' → (ids : List ℕ) → Every (HasNumber for_c p modes s n given n') ids
      → SameList for_c (list_export_from k e.bytes s e.work text ids) (list_export_from k e'.bytes new e'.work text' (map (new_id kept) ids))
  unfolding list_export_from counted_export export_of
  from k e e' rs rs' a a' b text text' z l l' [] q =
      let t = so_far for_c c_stated c_sound p modes s n given n' h (c_sound p modes s n e rs a) e e' rs rs' a a' b in
      record { number = refl; accepted = refl; text = record { is_open = t.is_open; text_len = t.text_len; text = l.begins ∙ t.text ∙ sym l'.begins } }
  from k e e' rs rs' a a' b text text' z l l' (x ∷ ids) q =
      subst (λ (y : ℕ). SameList for_c (ends (for_c.number d)) (ends' y)) same.number
      (by (for_c.number d) refl (λ y.
      from (suc k) d d' _ _ after after' numbers d.text d'.text (ap length (same.text (λ w. absurd (omega (arith, y, w))) (λ w. absurd (omega (arith, y, w))))) (own n s d _ after) (own n' new d' _ after') ids q.1))
    where
      d : Export
      d = type_export e.bytes s e.work text x

      d' : Export
      d' = type_export e'.bytes new e'.work text' (new_id kept x)

      same : SameAnswer for_c d d'
      same = next for_c c_stated c_sound p modes s n given n' h (c_sound p modes s n e rs a) e e' rs rs' a a' b text text' z l l' x q.0

      after : After for_c p modes s n d (rs ++ (one (length text) x ∷ []))
      after = then_one e rs a text l x

      after' : After for_c p modes new n' d' (rs' ++ (one (length text) (new_id kept x) ∷ []))
      after' = subst (λ (size : ℕ). After for_c p modes new n' d' (rs' ++ (one size (new_id kept x) ∷ []))) (sym z) (then_one e' rs' a' text' l' (new_id kept x))

      numbers : Numbers (rs ++ (one (length text) x ∷ [])) (rs' ++ (one (length text) (new_id kept x) ∷ []))
      numbers = renumbered_more b (length text) x (new_id kept x) (q.0, refl)

      ends : ℕ → Export
      ends y = elim y [ zero ↦ list_export_from (suc k) d.bytes s d.work d.text ids | suc j ↦ export_of (suc j * 4294967296 + k) d.bytes d.work d.text ]

      ends' : ℕ → Export
      ends' y = elim y [ zero ↦ list_export_from (suc k) d'.bytes new d'.work d'.text (map (new_id kept) ids) | suc j ↦ export_of (suc j * 4294967296 + k) d'.bytes d'.work d'.text ]

      by : (y : ℕ) → for_c.number d ≡ y
          → (for_c.number d ≡ 0 → SameList for_c (list_export_from (suc k) d.bytes s d.work d.text ids) (list_export_from (suc k) d'.bytes new d'.work d'.text (map (new_id kept) ids))) → SameList for_c (ends y) (ends' y)
      by zero w more = more w
      by (suc j) w more =
          let t = so_far for_c c_stated c_sound p modes s n given n' h (c_sound p modes s n e rs a) d d' _ _ after after' numbers in
          record { number = refl; accepted = refl; text = record { is_open = t.is_open; text_len = t.text_len; text = t.text } }

  c_reopens : Reopens for_c p modes s n given n'
  unfolding list_export
  c_reopens = record {
    opens = λ e rs a r work text f z.
        ((delivered_c p modes new (length work)).opens r work text (leb-true 128 (length r) f)).number
        ∙ ap (opening_number p new) z
        ∙ ok' for_c c_stated c_sound p modes s n given n' h (c_sound p modes s n e rs a);
    alike = λ e e' rs rs' a a' b. record {
      so_far = so_far for_c c_stated c_sound p modes s n given n' h (c_sound p modes s n e rs a) e e' rs rs' a a' b;
      next = next for_c c_stated c_sound p modes s n given n' h (c_sound p modes s n e rs a) e e' rs rs' a a' b;
      next_list = λ text text' z l l' ids ids' q w.
          subst (λ (xs : List ℕ). SameList for_c (for_c.request_list e s text ids) (list_export e'.bytes new e'.work text' xs)) (sym w)
          (from 0 e e' rs rs' a a' b text text' z l l' (ids_in ids) q);
    };
  }

pub c_cut : Request14 for_c cutting_for_c
c_cut = record { cuts = c_cuts; numbered = c_numbered; reopens = c_reopens }
