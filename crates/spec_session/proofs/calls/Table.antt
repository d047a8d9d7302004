-- The calls and the rules refuse by the rows of specs/Refusals. Assumes nothing.
use Prim.Native.Nat.{ℕ, zero, suc, ◌+◌, ◌-◌, ◌<◌, ◌≤◌}
use mathlib.Core.Path.{◌≡◌, refl, ap, ◌∙◌, sym}
use mathlib.Core.Bool.{Bool, true, false}
use mathlib.Core.List.{List, [], ◌∷◌, Memᴰ}
use mathlib.Core.Logic.{◌⊎◌, inl, inr}
use native.Mathlib.Omega.{arith}
use lib.ListN.{length}
use lib.Dec.{eqb}
use borrow.Author.Tests.{leb-true, leb-false}
use Rattle.std.specs.Prelude.{Ok}
use Rattle.spec_bytes.specs.text.Text.{Text, bytes}
use Rattle.spec_bytes.specs.text.Placed.{stopped, put_text}
use Rattle.spec_bytes.proofs.text.TextLaws.{put_none}
use Rattle.spec_c_dumper.specs.rules.Order.{meet, order}
use Rattle.spec_c_dumper.specs.rules.Machine.{mention, allowed, emit}
use Rattle.spec_c_dumper.specs.rules.Writer.{ask_then, checked}
use Rattle.spec_c_dumper.specs.rules.Layout.{get_size_of, get_align_of, off_align}
use Rattle.spec_c_dumper.specs.rules.Placing.{measured}
use Rattle.spec_c_dumper.specs.rules.Decl.{chain_of, emit_type_decl, emit_type_chain, emit_composite_def}
use Rattle.spec_c_dumper.specs.ceiling.Ceiling.{allows, order_within}
use Rattle.spec_opening.specs.Causes.{first_of, causes, opening_number}
use Rattle.spec_opening.specs.Table.{types_of}
use Rattle.spec_opening.specs.Opened.{Outcome}
use Rattle.spec_session.specs.session.Answers.{Answer, Accepted, Refused, number_of, value_of, answer_of}
use Rattle.spec_session.specs.declared.session.Session.{Session}
use Rattle.spec_session.specs.session.Turns.{Call}
use Rattle.spec_session.specs.calls.Refusals.{RefusalRow, too_deep, cycle, nameless, align_zero, overflow, text_full, misplaced, number, value, refusal}
use Rattle.spec_session.specs.calls.Calls.{opened_call, open_call}
use Rattle.spec_session.specs.calls.Table.{opening_rows, closing_rows, by_row, InTable, CallsByTable, RulesByTable}
use Rattle.spec_session.proofs.calls.Fair.{Listed}
use Rattle.spec_session.proofs.calls.Laws.{opens_refused, opens_sound}
use Rattle.spec_session.proofs.calls.Claims.{Kept, type_current, types_current}

-- ---- opening

-- what an opening with these causes answers
abbrev answered : ℕ → List Bool → Answer
answered types l = elim (eqb (first_of l) 0) [ true ↦ answer_of 0 types | false ↦ answer_of (first_of l) 0 ]

nine : (len types : ℕ) (b1 b2 b3 b4 b5 b6 b7 b8 b9 : Bool) → (l : List Bool) → l ≡ b1 ∷ b2 ∷ b3 ∷ b4 ∷ b5 ∷ b6 ∷ b7 ∷ b8 ∷ b9 ∷ []
    → answered types l ≡ by_row len (answer_of 0 types) l opening_rows
unfolding first_of by_row number value answer_of
nine len types true b2 b3 b4 b5 b6 b7 b8 b9 l e = rw e refl
nine len types false true b3 b4 b5 b6 b7 b8 b9 l e = rw e refl
nine len types false false true b4 b5 b6 b7 b8 b9 l e = rw e refl
nine len types false false false true b5 b6 b7 b8 b9 l e = rw e refl
nine len types false false false false true b6 b7 b8 b9 l e = rw e refl
nine len types false false false false false true b7 b8 b9 l e = rw e refl
nine len types false false false false false false true b8 b9 l e = rw e refl
nine len types false false false false false false false true b9 l e = rw e refl
nine len types false false false false false false false false true l e = rw e refl
nine len types false false false false false false false false false l e = rw e refl

opening_answer : (s : Session) (section w t : List ℕ) (pointer modes : ℕ) → (open_call s section w t pointer modes).answer ≡ answered (types_of section) (causes pointer section (length w))
unfolding open_call opened_call opening_number
opening_answer s section w t pointer modes = go (eqb (first_of (causes pointer section (length w))) 0) refl
  where
    go : (q : Bool) → eqb (first_of (causes pointer section (length w))) 0 ≡ q → (open_call s section w t pointer modes).answer ≡ answered (types_of section) (causes pointer section (length w))
    go true e = rw (e, answered) (ap (λ (x : Outcome). (opened_call s (length section) (length w) pointer modes x).answer) (opens_sound pointer modes section w t e))
    go false e = rw (e, answered) (ap (λ (x : Outcome). (opened_call s (length section) (length w) pointer modes x).answer) (opens_refused pointer modes section w t e))

-- ---- requests

-- an answer that is no success is the one with its number and its value
answer_is : (a : Answer) (c : RefusalRow) (len : ℕ) → number_of a ≡ number c → (number c ≡ 0 → ⊥) → value_of a ≡ value c len → a ≡ refusal c len
unfolding number_of value_of answer_of
answer_is (Accepted v) c len en n ev = absurd (n (sym en))
answer_is (Refused zero v) c len en n ev = absurd (n (sym en))
answer_is (Refused (suc k) v) c len en n ev = rw (sym en, sym ev) refl

row : (a : Answer) (len : ℕ) → Listed (number_of a) → value_of a ≡ len → (c : RefusalRow) × Memᴰ c closing_rows × (a ≡ refusal c len)
unfolding number value
row a len l e = go (number_of a - 12) (omega (arith, l.0, l.1)) (omega (arith, l.0))
  where
    go : (d : ℕ) → d ≤ 6 → number_of a ≡ d + 12 → (c : RefusalRow) × Memᴰ c closing_rows × (a ≡ refusal c len)
    go zero h q = (too_deep, Memᴰ.head refl, answer_is a too_deep len q (omega arith) e)
    go (suc zero) h q = (cycle, Memᴰ.tail (Memᴰ.head refl), answer_is a cycle len q (omega arith) e)
    go (suc (suc zero)) h q = (nameless, Memᴰ.tail (Memᴰ.tail (Memᴰ.head refl)), answer_is a nameless len q (omega arith) e)
    go (suc (suc (suc zero))) h q = (align_zero, Memᴰ.tail (Memᴰ.tail (Memᴰ.tail (Memᴰ.head refl))), answer_is a align_zero len q (omega arith) e)
    go (suc (suc (suc (suc zero)))) h q = (overflow, Memᴰ.tail (Memᴰ.tail (Memᴰ.tail (Memᴰ.tail (Memᴰ.head refl)))), answer_is a overflow len q (omega arith) e)
    go (suc (suc (suc (suc (suc zero))))) h q = (text_full, Memᴰ.tail (Memᴰ.tail (Memᴰ.tail (Memᴰ.tail (Memᴰ.tail (Memᴰ.head refl))))), answer_is a text_full len q (omega arith) e)
    go (suc (suc (suc (suc (suc (suc zero)))))) h q = (misplaced, Memᴰ.tail (Memᴰ.tail (Memᴰ.tail (Memᴰ.tail (Memᴰ.tail (Memᴰ.tail (Memᴰ.head refl)))))), answer_is a misplaced len q (omega arith) e)
    go (suc (suc (suc (suc (suc (suc (suc d))))))) h q = absurd (omega arith)

in_table : (s : Session) (text : List ℕ) (d : Call) → Kept s text d → InTable closing_rows d
in_table s text d k = go k.number_kept
  where
    go : (number_of d.answer ≡ 0) ⊎ Listed (number_of d.answer) → InTable closing_rows d
    go (inl e) = inl e
    go (inr l) = inr (row d.answer d.session.text_len l k.value_kept)

pub calls_by_table : CallsByTable
calls_by_table = record {
  opening = λ s section work text pointer modes. opening_answer s section work text pointer modes ∙ nine s.text_len (types_of section) _ _ _ _ _ _ _ _ _ (causes pointer section (length work)) refl;
  type = λ s section work text id current below. in_table s text _ (type_current s section work text id current below);
  types = λ s section work text current. in_table s text _ (types_current s section work text current);
}

full_at : (t : List ℕ) (at : ℕ) (x : Text) → at ≤ length t → length t < at + length (bytes x) → put_text t (Ok at) x ≡ stopped 17
full_at t at x h g = put_none t at x (omega arith)

pub rules_by_table : RulesByTable
unfolding order emit meet mention allowed get_size_of get_align_of emit_type_decl emit_type_chain emit_composite_def chain_of off_align checked measured ask_then order_within allows number
rules_by_table = record {
  deep_order = λ St K T s x weak. refl;
  deep_emit = λ M H X T s x cont. refl;
  deep_size = λ B id. refl;
  deep_align = λ B id. refl;
  deep_decl = λ U N B id fname lvl. refl;
  deep_chain = λ U N B c fname lvl. refl;
  deep_body = λ U N B id is_struct name sz ms lvl. refl;
  long_chain = λ B id c. refl;
  cycle_order = λ St s. refl;
  cycle_emit = λ M H X T x s. refl;
  no_name = λ M H X T rec s x cont. refl;
  align_zero_lem = λ bit_offset rest. refl;
  overflows = λ n h. rw (h, checked) refl;
  full = λ t at x h g. full_at t at x (leb-true at (length t) h) (leb-false (at + length (bytes x)) (length t) g);
  not_placed = λ B is_struct sz ms a packed x bits p q r t h. rw (measured, p, ask_then, q, ask_then, r, ask_then, t, ask_then, h) refl;
  ceiling = λ St K c n T s x weak k h. rw (order_within, allows, h) refl;
}
