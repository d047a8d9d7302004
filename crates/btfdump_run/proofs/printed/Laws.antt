-- A law for each return of src/lib.rt. Assumes nothing.
use Prim.Native.Nat.{ℕ, ◌+◌, ◌<◌, ◌≤◌}
use mathlib.Core.Path.{◌≡◌, refl, ap, ◌∙◌, sym}
use mathlib.Core.Bool.{false}
use mathlib.Core.List.{List, ◌++◌}
use mathlib.Core.Logic.{⊎_elim}
use native.Mathlib.Omega.{arith}
use lib.ListN.{length, drop, replicate}
use borrow.Author.Tests.{le-leb, lt-leb}
use Rattle.std.proofs.lemmas.Bool.{cases_lt}
use Rattle.std.specs.Prelude.{Option, Some, None, Ok, Err}
use Rattle.spec_bytes.specs.declared.refusal.Refusal.{Refusal}
use Rattle.spec_bytes.specs.Refusals.{refusal_number}
use Rattle.spec_bytes.specs.text.Text.{whole, bytes}
use Rattle.spec_bytes.specs.text.Placed.{Placed, done, stopped, put_out, put_text}
use Rattle.spec_bytes.proofs.text.TextLaws.{put_fits, put_none, whole_is, went}
use Rattle.spec_session.specs.session.Answers.{answer_is}
use Rattle.spec_session.specs.declared.session.Refused.{Refused as Refusing}
use Rattle.spec_session.specs.declared.session.Session.{Session}
use Rattle.spec_session.specs.declared.session.Turn.{Turn}
use Rattle.spec_session.specs.session.Turns.{Call, call_of}
use Rattle.spec_session.specs.calls.Calls.{open_call, types_call}
use Rattle.btfdump_run.specs.printed.Printed.{never_opened, refused_line, shown_to, line_shown, ran_to, shown, ran_all, ran_opened, ran_on}

-- it fits, or it does not
pub line_fits : (t : List ℕ) (n : ℕ) → length (refused_line n) ≤ length t → line_shown t n ≡ shown_to (Some (length (refused_line n))) (refused_line n ++ drop (length (refused_line n)) t)
unfolding line_shown
line_fits t n l = rw (le-leb (length (refused_line n)) (length t) l, line_shown)

pub line_over : (t : List ℕ) (n : ℕ) → length t < length (refused_line n) → line_shown t n ≡ shown_to None (replicate (length t) 0)
unfolding line_shown
line_over t n l = rw (lt-leb (length (refused_line n)) (length t) l, line_shown)

-- the code's writing of it: all of it, or it was stopped
module _ (t : List ℕ) (n : ℕ) (r : Placed) (u : List ℕ) (e : put_out r u ≡ put_text t (Ok 0) (whole (refused_line n))) where
  wrote : length (refused_line n) ≤ length t → put_out r u ≡ done (refused_line n ++ drop (0 + length (refused_line n)) t) (0 + length (refused_line n))
  unfolding bytes
  wrote l = e ∙ put_fits t 0 (whole (refused_line n)) (omega arith) ∙ whole_is t 0 (refused_line n)

  full : length t < length (refused_line n) → put_out r u ≡ stopped 17
  unfolding bytes
  full l = e ∙ put_none t 0 (whole (refused_line n)) (omega arith)

  pub line_written : (k : ℕ) → r ≡ Ok k → shown_to (Some k) u ≡ line_shown t n
  unfolding put_out
  line_written k q = ⊎_elim over fits (cases_lt (length t) (length (refused_line n)))
    where
      fits : length (refused_line n) ≤ length t → shown_to (Some k) u ≡ line_shown t n
      fits l =
          let w = went u r _ _ (wrote l) in
          let z : 0 + length (refused_line n) ≡ length (refused_line n) = omega arith in
          let y : Ok k ≡ Ok (0 + length (refused_line n)) = sym q ∙ w.1 in
          let x : k ≡ 0 + length (refused_line n) = cc in
          (λ i. shown_to (Some (x i)) (w.0 i))
          ∙ ap (λ (m : ℕ). shown_to (Some m) (refused_line n ++ drop m t)) z
          ∙ sym (line_fits t n l)

      no : done u k ≡ stopped 17 → ⊥
      no z = cc

      over : length t < length (refused_line n) → shown_to (Some k) u ≡ line_shown t n
      over l = absurd (no (sym (ap (λ (z : Placed). put_out z u) q) ∙ full l))

  pub line_stopped : (c : Refusal) → r ≡ Err c → length u ≡ length t → (v : List ℕ) → v ≡ replicate (length u) 0 → shown_to None v ≡ line_shown t n
  unfolding put_out
  line_stopped c q k v z = ⊎_elim over fits (cases_lt (length t) (length (refused_line n)))
    where
      no : (x : List ℕ) (m : ℕ) → stopped (refusal_number c) ≡ done x m → ⊥
      no x m y = cc

      fits : length (refused_line n) ≤ length t → shown_to None v ≡ line_shown t n
      fits l = absurd (no _ _ (sym (ap (λ (y : Placed). put_out y u) q) ∙ wrote l))

      over : length t < length (refused_line n) → shown_to None v ≡ line_shown t n
      over l = ap (shown_to None) (z ∙ ap (λ (j : ℕ). replicate j 0) k) ∙ sym (line_over t n l)

-- what a call shows
module _ (turn : Turn) (w t : List ℕ) (c : Call) (e : call_of turn.session (answer_is turn.answer) w t ≡ c) where
  pub shows_refused : (x : Refusing) → turn.answer ≡ Err x → (r : Option ℕ) (t' : List ℕ) → shown_to r t' ≡ line_shown t (refusal_number x.refusal) → ran_to r t' w ≡ ran_all c
  unfolding ran_to ran_all shown call_of
  shows_refused x a r t' p =
      (λ i. record { out = p i; work = w })
      ∙ (λ i. record { out = shown (answer_is (sym a i)) t; work = w })
      ∙ ap ran_all e

  pub shows_text : (len : ℕ) → turn.answer ≡ Ok len → ran_to (Some len) t w ≡ ran_all c
  unfolding ran_to ran_all shown call_of
  shows_text len a = (λ i. record { out = shown (answer_is (sym a i)) t; work = w }) ∙ ap ran_all e

-- a session by default, field by field
pub default_is : (s : Session) → (s.«open» ≡ false) × ((s.section_len ≡ 0) × ((s.work_len ≡ 0) × ((s.types ≡ 0) × ((s.enumerators ≡ 0) × ((s.text_len ≡ 0) × ((s.pointer_size ≡ 0) × ((s.modes ≡ 0) × (s.visits ≡ 0)))))))) → s ≡ never_opened
default_is s (o, (l, (w, (t, (e, (n, (p, (m, v)))))))) = λ i. record {
  «open» = o i;
  section_len = l i;
  work_len = w i;
  types = t i;
  enumerators = e i;
  text_len = n i;
  pointer_size = p i;
  modes = m i;
  visits = v i;
}

-- opening
module _ (section w t : List ℕ) (s : Session) (es : s ≡ never_opened) (turn : Turn) (w₁ t₁ : List ℕ) (e : call_of turn.session (answer_is turn.answer) w₁ t₁ ≡ open_call s section w t 8 0) where
  is_open : call_of turn.session (answer_is turn.answer) w₁ t₁ ≡ open_call never_opened section w t 8 0
  is_open = e ∙ ap (λ (q : Session). open_call q section w t 8 0) es

  pub run_refused : (x : Refusing) → turn.answer ≡ Err x → (r : Option ℕ) (t' : List ℕ) → shown_to r t' ≡ line_shown t₁ (refusal_number x.refusal) → ran_to r t' w₁ ≡ ran_on section w t
  unfolding ran_on ran_opened call_of
  run_refused x a r t' p =
      shows_refused turn w₁ t₁ (call_of turn.session (answer_is turn.answer) w₁ t₁) refl x a r t' p
      ∙ (λ i. ran_opened section (answer_is (sym a i)) (call_of turn.session (answer_is turn.answer) w₁ t₁))
      ∙ (λ i. ran_opened section (is_open i).answer (is_open i))

  pub run_opened : (v : ℕ) → turn.answer ≡ Ok v → (r : Option ℕ) (t' w' : List ℕ) → ran_to r t' w' ≡ ran_all (types_call turn.session section w₁ t₁) → ran_to r t' w' ≡ ran_on section w t
  unfolding ran_on ran_opened call_of
  run_opened v a r t' w' p =
      p
      ∙ (λ i. ran_opened section (answer_is (sym a i)) (call_of turn.session (answer_is turn.answer) w₁ t₁))
      ∙ (λ i. ran_opened section (is_open i).answer (is_open i))
