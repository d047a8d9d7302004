-- A law for each return. Assumes nothing.
use Prim.Native.Nat.{ℕ, zero, suc, ◌+◌, ◌/◌, ◌<◌, ◌≤◌}
use native.Mathlib.Omega.{arith}
use mathlib.Core.Path.{◌≡◌, refl, sym, ◌∙◌, ap, subst}
use mathlib.Core.Bool.{Bool, true, false, not, ◌&&◌, ◌||◌, true≢false}
use mathlib.Core.List.{List, [], ◌∷◌, ◌++◌}
use lib.ListN.{length, get_or, drop}
use lib.Dec.{ltb, eqb}
use borrow.Author.Tests.{ltb-false, eqb-true, not-true, not-false}
use Rattle.spec_bytes.specs.words.Words.{get_word, table, words}
use Rattle.spec_linux_btf.specs.Reading.{Bytes}
use Rattle.spec_linux_btf.specs.Section.{string_area, header_sound, strings_sound, types_sound}
use Rattle.spec_type_table.specs.declared.types.TypeTable.{TypeTable}
use Rattle.btf_open_causes.specs.header.Header.{btf_of}
use Rattle.btf_open_causes.specs.declared.records.Counts.{Counts}
use Rattle.spec_opening.specs.Table.{types_of, enumerators_of, index_of}
use Rattle.spec_opening.specs.Causes.{cause2, cause3, cause4, cause5, cause6, table_of, next, first_of, two_to_six}
use Rattle.spec_opening.specs.Opened.{Examined, refused_by, sound_with, examine_out, indexed}
use Rattle.spec_opening.proofs.Order.{NoneHolds, first_none}
use Rattle.spec_session.specs.session.Answers.{Refused, alone, answer_of}
use Rattle.spec_session.specs.declared.session.Session.{Session}
use Rattle.btf_open_causes.specs.references.Followed.{type_count}
use Rattle.session_cut_marks.specs.mentioned.Names.{zero_bases, base_of, bases_to}
use Rattle.session_cut_marks.specs.marks.Marks.{all_zero, ids_of}
use Rattle.session_cut.specs.writer.Bytes.{types_size, all_bytes, Wrote, wrote_of, fitting_written, kept_written}
use Rattle.spec_cut.specs.section.Section.{any_past, cut_number, cut_output}
use Rattle.session_cut.proofs.written.Claims.{twenty_three, cut_length, kept_written_lem}
use Rattle.session_cut.specs.call.Calls.{cut_of, passes, is_open_on, section_for, cut_by, cut_call}
use Rattle.session_cut.specs.call.Code.{answered}
use Rattle.std.specs.Option.{ok_or}
use Rattle.std.specs.List.{list_any}
use Rattle.std.specs.Simd.{first_chunks}
use Rattle.std.specs.Int.{from_le_bytes, w32}
use Rattle.session_cut_marks.proofs.marks.Laws.{chunk_word}
use Rattle.std.proofs.Common.{Option, Some, None, Result, Ok, Err}
use Rattle.spec_bytes.specs.declared.refusal.Refusal.{Refusal}
use Rattle.spec_bytes.specs.declared.refusal.Refusal.TheVariants.{OutputShort}

-- how many bytes were written
abbrev length_of : Wrote → ℕ
length_of (wrote_of None o) = 0
length_of (wrote_of (Some n) o) = n

-- the refusal of the writer
answered_to : (w : Option ℕ) (out : List ℕ) → cut_of (alone (ok_or w OutputShort)) out ≡ answered (wrote_of w out)
unfolding answered
answered_to None out = refl
answered_to (Some n) out = refl

answered_23 : (section out : List ℕ) → answered (wrote_of None out) ≡ cut_by 23 section out
unfolding answered cut_by answer_of
answered_23 section out = refl

answered_0 : (section out : List ℕ) → answered (wrote_of (Some (length section)) (section ++ drop (length section) out)) ≡ cut_by 0 section out
unfolding answered cut_by answer_of
answered_0 section out = refl

-- ---- is_open

pub open_no : (o q : Bool) → not o ≡ true → false ≡ (o && q)
open_no true q e = absurd (true≢false (sym e))
open_no false q e = refl

pub open_is : (o q : Bool) → not o ≡ false → q ≡ (o && q)
open_is true q e = refl
open_is false q e = absurd (true≢false e)

-- ---- is_past

module _ (given : List ℕ) (count : ℕ) where
  past_open : (k n : ℕ) → any_past count (table (get_word given) k (suc n)) ≡ (not (ltb (get_word given k) count) || any_past count (table (get_word given) (suc k) n))
  unfolding any_past
  past_open k n = refl

  past_none : (k : ℕ) → any_past count (table (get_word given) k 0) ≡ false
  unfolding any_past
  past_none k = refl

  -- ids that are the words from k on
  past_from : (n k : ℕ) (ids : List (List ℕ)) → length ids ≡ n → ((j : ℕ) → j < n → from_le_bytes w32 (get_or ids j []) ≡ get_word given (k + j))
      → list_any (λ (id : List ℕ). not (ltb (from_le_bytes w32 id) count)) ids ≡ any_past count (table (get_word given) k n)
  past_from zero k [] e w = sym (past_none k)
  past_from zero k (id ∷ ids) e w = absurd (omega (arith, e))
  past_from (suc n) k [] e w = absurd (omega (arith, e))
  past_from (suc n) k (id ∷ ids) e w =
      let first : k + 0 ≡ k = omega arith in
      let here : from_le_bytes w32 id ≡ get_word given k = w 0 (omega arith) ∙ ap (get_word given) first in
      let few : length ids ≡ n = omega (arith, e) in
      let more : (j : ℕ) → j < n → from_le_bytes w32 (get_or ids j []) ≡ get_word given (suc k + j) =
      λ j l. let b : suc j < suc n = omega (arith, l) in let p : k + suc j ≡ suc k + j = omega arith in w (suc j) b ∙ ap (get_word given) p in
      (λ i. not (ltb (here i) count) || past_from n (suc k) ids few more i) ∙ sym (past_open k n)

  pub past_is : (ids : List (List ℕ)) → ids ≡ first_chunks 4 (length given / 4) given → length ids ≡ length given / 4
      → list_any (λ (id : List ℕ). not (ltb (from_le_bytes w32 id) count)) ids ≡ any_past count (words given)
  unfolding words
  past_is ids f l =
      past_from (length given / 4) 0 ids l
      (λ j h. let z : j ≡ 0 + j = omega arith in chunk_word given ids f j h ∙ ap (get_word given) z)

-- ---- the index of the records
-- what an Examined says
abbrev is_fit : Examined → Bool
is_fit (refused_by n) = false
is_fit (sound_with n e start) = true

abbrev fit_count : Examined → ℕ
fit_count (refused_by n) = 0
fit_count (sound_with n e start) = n

abbrev fit_index : Examined → List ℕ
fit_index (refused_by n) = []
fit_index (sound_with n e start) = start

module _ (p : ℕ) (s : List ℕ) where
  fit_is : is_fit (indexed p s) ≡ passes p s
  unfolding indexed passes
  fit_is = go (eqb (first_of (two_to_six p s)) 0)
    where
      go : (q : Bool) → is_fit (elim q as (λ z. Examined) [ true ↦ sound_with (types_of s) (enumerators_of s) (index_of s) | false ↦ refused_by (next (first_of (two_to_six p s))) ]) ≡ q
      go true = refl
      go false = refl

  indexed_yes : passes p s ≡ true → indexed p s ≡ sound_with (types_of s) (enumerators_of s) (index_of s)
  unfolding indexed passes
  indexed_yes e = ap (λ (q : Bool). elim q as (λ z. Examined) [ true ↦ sound_with (types_of s) (enumerators_of s) (index_of s) | false ↦ refused_by (next (first_of (two_to_six p s))) ]) e

  module _ (m : Result Counts Refusal) (start : List ℕ) (em : examine_out m start ≡ indexed p s) where
    unfit_passes : (r : Refusal) → m ≡ Err r → passes p s ≡ false
    unfolding examine_out
    unfit_passes r z = sym fit_is ∙ ap is_fit (sym em ∙ ap (λ (k : Result Counts Refusal). examine_out k start) z)

    module _ (counts : Counts) (z : m ≡ Ok counts) where
      fit_passes : passes p s ≡ true
      unfolding examine_out
      fit_passes = sym fit_is ∙ ap is_fit (sym em ∙ ap (λ (k : Result Counts Refusal). examine_out k start) z)

      fit_same : sound_with counts.types counts.enumerators start ≡ sound_with (types_of s) (enumerators_of s) (index_of s)
      unfolding examine_out
      fit_same = ap (λ (k : Result Counts Refusal). examine_out k start) (sym z) ∙ em ∙ indexed_yes fit_passes

-- ---- write_cut

-- a section that was written is no longer than a section may be
module _ (b : TypeTable) (s start ids out : List ℕ) where
  abbrev S : ℕ
  S = base_of b s start ids (type_count b)

  abbrev T : ℕ
  T = types_size b s start ids (type_count b)

  pub kept_small : (n : ℕ) (o : List ℕ) → wrote_of (Some n) o ≡ kept_written b s start ids out → n ≤ 16777216
  unfolding kept_written fitting_written
  kept_small n o e = subst (λ (k : ℕ). k ≤ 16777216) (sym (ap length_of e)) (go (ltb 16777216 (length s)) (ltb 16777216 S) (ltb 16777216 T) (ltb 16777216 (24 + T + S)) refl (ltb (length out) (24 + T + S)))
    where
      go : (c d f g : Bool) → ltb 16777216 (24 + T + S) ≡ g → (k : Bool)
          → length_of (elim c as (λ z. Wrote) [
            | true ↦ wrote_of None out
            | false ↦ elim d as (λ z. Wrote) [
              | true ↦ wrote_of None out
              | false ↦ elim f as (λ z. Wrote) [
                | true ↦ wrote_of None out
                | false ↦ elim g as (λ z. Wrote) [
                  | true ↦ wrote_of None out
                  | false ↦ elim k as (λ z. Wrote) [
                    | true ↦ wrote_of None out
                    | false ↦ wrote_of (Some (24 + T + S)) (all_bytes b s start ids (bases_to b s start ids zero_bases (type_count b)) T S ++ drop (24 + T + S) out)
                  ]
                ]
              ]
            ]
          ]) ≤ 16777216
      go true d f g e k = omega arith
      go false true f g e k = omega arith
      go false false true g e k = omega arith
      go false false false true e k = omega arith
      go false false false false e true = omega arith
      go false false false false e false = omega (arith, ltb-false 16777216 (24 + T + S) e)

pub kept_of : (b : TypeTable) (s start given ids ids' out out' : List ℕ) (r : Option ℕ) → ids ≡ all_zero → ids' ≡ ids_of b s start given ids → wrote_of r out' ≡ kept_written b s start ids' out
    → wrote_of r out' ≡ kept_written b s start (ids_of b s start given all_zero) out
kept_of b s start given ids ids' out out' r z e w = w ∙ ap (λ (l : List ℕ). kept_written b s start l out) (e ∙ ap (ids_of b s start given) z)

-- ---- cut
module _ (S : Session) (s given out : List ℕ) where
  -- the call with a number
  with_number : (k : ℕ) → cut_number (is_open_on S s) (types_of s) (words given) (length out) (length (section_for s given)) ≡ k → cut_by k (section_for s given) out ≡ cut_call S s given out
  unfolding cut_call
  with_number k e = ap (λ (n : ℕ). cut_by n (section_for s given) out) (sym e)

  closed_number : is_open_on S s ≡ false → cut_number (is_open_on S s) (types_of s) (words given) (length out) (length (section_for s given)) ≡ 11
  unfolding cut_number
  closed_number e = ap (λ (q : Bool). cut_number q (types_of s) (words given) (length out) (length (section_for s given))) e

  open_number : is_open_on S s ≡ true → (q : Bool) → any_past (types_of s) (words given) ≡ q
      → ◌≡◌ {A = ℕ} (cut_number (is_open_on S s) (types_of s) (words given) (length out) (length (section_for s given))) (elim q [ true ↦ 10 | false ↦ twenty_three (length out) (length (section_for s given)) ])
  unfolding cut_number
  open_number e q h =
      ap (λ (x : Bool). cut_number x (types_of s) (words given) (length out) (length (section_for s given))) e
      ∙ ap (λ (x : Bool). elim x as (λ z. ℕ) [ true ↦ 10 | false ↦ twenty_three (length out) (length (section_for s given)) ]) h

  number_out : (k : ℕ) → cut_by (suc k) (section_for s given) out ≡ cut_of (Refused (suc k) 0) out
  unfolding cut_by answer_of
  number_out k = refl

  module _ (q : Bool) (eq : q ≡ (S.«open» && eqb S.section_len (length s))) where
    pub cut_closed : not q ≡ true → cut_of (Refused 11 0) out ≡ cut_call S s given out
    unfolding is_open_on
    cut_closed h = sym (number_out 10) ∙ with_number 11 (closed_number (ap (λ (x : Bool). x && passes S.pointer_size s) (sym eq ∙ not-true q h)))

    module _ (h : not q ≡ false) (m : Result Counts Refusal) (start : List ℕ) (em : examine_out m start ≡ indexed S.pointer_size s) where
      is_open : is_open_on S s ≡ passes S.pointer_size s
      unfolding is_open_on
      is_open = ap (λ (x : Bool). x && passes S.pointer_size s) (sym eq ∙ not-false q h)

      pub cut_unsound : (r : Refusal) → m ≡ Err r → cut_of (Refused 11 0) out ≡ cut_call S s given out
      cut_unsound r z = sym (number_out 10) ∙ with_number 11 (closed_number (is_open ∙ unfit_passes S.pointer_size s m start em r z))

      module _ (counts : Counts) (z : m ≡ Ok counts) where
        pass : passes S.pointer_size s ≡ true
        pass = fit_passes S.pointer_size s m start em counts z

        count_is : counts.types ≡ types_of s
        count_is = ap fit_count (fit_same S.pointer_size s m start em counts z)

        index_of_lem : start ≡ index_of s
        index_of_lem = ap fit_index (fit_same S.pointer_size s m start em counts z)

        module _ (r : Bool) (er : r ≡ any_past counts.types (words given)) where
          pub cut_past : r ≡ true → cut_of (Refused 10 0) out ≡ cut_call S s given out
          cut_past e = sym (number_out 9) ∙ with_number 10 (open_number (is_open ∙ pass) true (ap (λ (k : ℕ). any_past k (words given)) (sym count_is) ∙ sym er ∙ e))

          -- THE CALL: the theorem of `session_cut::written`
          pub cut_is : r ≡ false → Bytes s → (b : TypeTable) → b ≡ btf_of s S.pointer_size 0 counts.types → (w : Option ℕ) (out' : List ℕ)
              → wrote_of w out' ≡ kept_written b s start (ids_of b s start given all_zero) out → (o : Result ℕ Refusal) → o ≡ ok_or w OutputShort → cut_of (alone o) out' ≡ cut_call S s given out
          unfolding passes cause2 cause3 cause4 cause5 table_of
          cut_is e y b eb w out' ew o eo =
              ap (λ (k : Result ℕ Refusal). cut_of (alone k) out') eo
              ∙ answered_to w out'
              ∙ ap answered ew
              ∙ (λ i. answered (kept_written (table_is i) s (index_of_lem i) (ids_of (table_is i) s (index_of_lem i) given all_zero) out))
              ∙ ap answered (kept_written_lem S.pointer_size s y short header strings types none.1.1.1.1.0 given past out)
              ∙ go (ltb (length out) (length (section_for s given)) || ltb 16777216 (length (section_for s given)))
              ∙ with_number (twenty_three (length out) (length (section_for s given))) (open_number (is_open ∙ pass) false past)
            where
              none : NoneHolds (cause2 s ∷ cause3 s ∷ cause4 s ∷ cause5 s ∷ cause6 S.pointer_size s ∷ [])
              none = first_none (cause2 s ∷ cause3 s ∷ cause4 s ∷ cause5 s ∷ cause6 S.pointer_size s ∷ []) (eqb-true (first_of (cause2 s ∷ cause3 s ∷ cause4 s ∷ cause5 s ∷ cause6 S.pointer_size s ∷ [])) 0 pass)

              short : length s ≤ 16777216
              short = ltb-false 16777216 (length s) none.0

              header : header_sound s ≡ true
              header = not-false (header_sound s) none.1.0

              strings : strings_sound (string_area s) ≡ true
              strings = not-false (strings_sound (string_area s)) none.1.1.0

              types : types_sound s ≡ true
              types = not-false (types_sound s) none.1.1.1.0

              past : any_past (types_of s) (words given) ≡ false
              past = ap (λ (k : ℕ). any_past k (words given)) (sym count_is) ∙ sym er ∙ e

              table_is : b ≡ table_of S.pointer_size s
              table_is = eb ∙ ap (btf_of s S.pointer_size 0) count_is

              go : (t : Bool) → answered (wrote_of (cut_length (elim t [ true ↦ 23 | false ↦ 0 ]) (length (section_for s given))) (cut_output (elim t [ true ↦ 23 | false ↦ 0 ]) (section_for s given) out))
                  ≡ cut_by (elim t [ true ↦ 23 | false ↦ 0 ]) (section_for s given) out
              go true = answered_23 (section_for s given) out
              go false = answered_0 (section_for s given) out
