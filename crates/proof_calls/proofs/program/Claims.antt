-- THE THEOREM: what the program prints is what the rules say. Assumes nothing.
use Prim.Native.Nat.{ℕ, zero, suc, ◌+◌, ◌/◌, ◌%◌, ◌≤◌}
use mathlib.Core.Path.{◌≡◌, refl, ap, ◌∙◌, sym, subst}
use mathlib.Core.Bool.{Bool, true, false}
use mathlib.Core.List.{List, [], ◌∷◌, ◌++◌}
use native.Mathlib.Omega.{arith}
use lib.ListN.{length, take, drop, replicate, length-append, length-take, length-replicate}
use lib.Seq.{take_at}
use lib.Dec.{ltb}
use borrow.Author.Tests.{eq-eqb, ne_eqb}
use Rattle.spec_bytes.specs.text.Text.{ascii}
use Rattle.spec_bytes.specs.text.Decimal.{digits, decimal}
use Rattle.spec_c_dumper.specs.rules.Machine.{Machine, run, every}
use Rattle.spec_c_dumper.specs.rules.Names.{Names, naming}
use Rattle.spec_c_dumper.specs.rules.Order.{Table}
use Rattle.spec_c_dumper.specs.rules.Types.{BtfType, Btf, table_of}
use Rattle.spec_c_dumper.specs.rules.Listed.{listed}
use Rattle.spec_linux_btf.specs.Reading.{Bytes}
use Rattle.spec_opening.specs.Described.{table_in}
use Rattle.spec_opening.specs.Table.{types_of, enumerators_of}
use Rattle.spec_opening.specs.Opened.{refused, opened as soundly, work_of}
use Rattle.spec_opening.specs.Causes.{opening_number}
use Rattle.spec_session.specs.session.Answers.{Answer as Told, number_of, value_of, answer_of}
use Rattle.spec_session.specs.declared.session.Session.{Session}
use Rattle.spec_session.specs.session.Turns.{Call, Reach, reached, refused_by, is_current, settled}
use Rattle.spec_session.specs.calls.Calls.{opened_call, open_call, types_call}
use Rattle.spec_session.proofs.calls.Laws.{opens_sound, opens_refused}
use Rattle.spec_session.proofs.calls.Claims.{types_settle, types_current, types_not_current}
use Rattle.spec_session.proofs.calls.Lists.{formed_of}
use Rattle.spec_c_dumper.specs.needs.Lists.{Ls, afresh}
use Rattle.spec_c_dumper.specs.needs.Session.{Known, text_of, machine, opened, program}
use Rattle.proof_demands.specs.demands.Table.{names_in}
use Rattle.proof_demands.specs.demands.Session.{After, after_open, Tells}
use Rattle.proof_demands.specs.demands.Demands.{Lent}
use Rattle.proof_demands.proofs.demands.Demands.{open_number, delivered}
use Rattle.std.specs.Prelude.{IsSomeAnd}
use Rattle.btfdump_run.specs.printed.Printed.{never_opened, refused_line, Shown, shown_to, printed, line_shown, shown, ran_all, ran_opened, ran_on}
use Rattle.btfdump_run.proofs.printed.Laws.{line_fits}
use Rattle.proof_calls.proofs.described.Table.{over_described}
use Rattle.proof_calls.proofs.program.Stored.{read_types}
use Rattle.proof_calls.proofs.program.Program.{prints_of, asked, program_is, program_text, program_refused}
use Rattle.proof_calls.specs.program.Claims.{number, table, Runs}

-- ---- the line of a refusal

digits_few : (f n : ℕ) → length (digits f n) ≤ f
unfolding digits
digits_few zero n = omega arith
digits_few (suc f) n = go (ltb n 10) (digits_few f (n / 10))
  where
    go : (b : Bool) → length (digits f (n / 10)) ≤ f → length {A = ℕ} (elim b [ true ↦ (48 + n) ∷ [] | false ↦ digits f (n / 10) ++ (48 + n % 10) ∷ [] ]) ≤ suc f
    go true h = omega arith
    go false h = omega (arith, length-append (digits f (n / 10)) ((48 + n % 10) ∷ []))

line_short : (n : ℕ) → length (refused_line n) ≤ 29
unfolding refused_line decimal
line_short n = omega (arith, length-append (ascii "refused " ++ digits 20 n) (10 ∷ []), length-append (ascii "refused ") (digits 20 n), digits_few 20 n)

-- ---- the table that opening gives and the described one print the same

program_described : (s : List ℕ) → Bytes s → number s ≡ 0 → program (table s) ≡ program (table_in 8 0 s)
program_described s y ok =
    program_is (table s)
    ∙ over_described 8 0 s 65536 y ok naming
    (λ X T m. prints_of (asked (table s)).number (text_of (asked (table s)).sess.mach.pieces) ≡ prints X T m)
    refl
    ∙ sym (program_is (table_in 8 0 s))
  where
    prints : Machine (Ls (Known Names)) Names → Table → ℕ → List ℕ
    prints X T m =
        let a = every X T 65536 (record { is_open = true; mach = afresh m (record { names = record { versions = replicate m 0; ledger = [] }; text_len = 0 }); asked = [] }) true in
        prints_of a.number (text_of a.sess.mach.pieces)

-- what is shown lies in the slice, and is this text
abbrev Shows : List ℕ → Shown → Type 0
Shows x p = IsSomeAnd p.len (λ n. n ≤ length p.text) × (printed p ≡ x)

-- a slice that has room for the line
line_shows : (t : List ℕ) (n : ℕ) → length t ≡ 65536 → Shows (refused_line n) (line_shown t n)
unfolding shown_to
line_shows t n e =
    let l : length (refused_line n) ≤ length t = omega (arith, line_short n) in
    subst (Shows (refused_line n)) (sym (line_fits t n l))
    (omega (arith, length-append (refused_line n) (drop (length (refused_line n)) t)), take_at (refused_line n) (drop (length (refused_line n)) t) (length (refused_line n)) refl)

-- ---- a call for all ids: its answer is that of its number and value, and the text is as long as it was

module _ (S : Session) (s work text : List ℕ) where
  abbrev d : Call
  d = types_call S s work text

  settled_is : (r : Reach) → (settled S (length work) (length text) r).answer ≡ answer_of (number_of (settled S (length work) (length text) r).answer) (value_of (settled S (length work) (length text) r).answer)
  unfolding settled
  settled_is (reached len w t) = formed_of 0 len
  settled_is (refused_by c len v t) = formed_of c len

  types_answer : d.answer ≡ answer_of (number_of d.answer) (value_of d.answer)
  unfolding number_of value_of answer_of
  types_answer = by (is_current S (length s) (length work) (length text)) refl
    where
      by : (o : Bool) → is_current S (length s) (length work) (length text) ≡ o → d.answer ≡ answer_of (number_of d.answer) (value_of d.answer)
      by true q = subst (λ (c : Call). c.answer ≡ answer_of (number_of c.answer) (value_of c.answer)) (sym (types_settle S s work text q)) (settled_is _)
      by false q = subst (λ (c : Call). c.answer ≡ answer_of (number_of c.answer) (value_of c.answer)) (sym (types_not_current S s work text q)) refl

  types_long : length d.text ≡ length text
  types_long = by (is_current S (length s) (length work) (length text)) refl
    where
      by : (o : Bool) → is_current S (length s) (length work) (length text) ≡ o → length d.text ≡ length text
      by true q = (types_current S s work text q).length_kept
      by false q = ap (λ (c : Call). length c.text) (types_not_current S s work text q)

-- what a number, a length and a text slice show that are those of the rules
shows_by : (B : Btf) (n v : ℕ) (u : List ℕ) → length u ≡ 65536 → n ≡ (asked B).number → v ≤ length u → take v u ≡ text_of (asked B).sess.mach.pieces → Shows (program B) (shown (answer_of n v) u)
unfolding shown shown_to answer_of
shows_by B zero v u e q l t = (l, t ∙ sym (program_text B (sym q)))
shows_by B (suc k) v u e q l t = subst (λ (x : List ℕ). Shows x (line_shown u (suc k))) (sym (program_refused B k (sym q))) (line_shows u (suc k) e)

tells_shows : (S : Session) (s work text : List ℕ) (B : Btf) → length text ≡ 65536 → Tells (length text) (types_call S s work text) (asked B) → Shows (program B) (shown (types_call S s work text).answer (types_call S s work text).text)
tells_shows S s work text B e t =
    subst (λ (a : Told). Shows (program B) (shown a (types_call S s work text).text)) (sym (types_answer S s work text))
    (shows_by B _ _ (types_call S s work text).text (types_long S s work text ∙ e) t.number (inside (value_of (types_call S s work text).answer) (types_call S s work text).text _ t.value t.begins) t.begins)
  where
    inside : (v : ℕ) (u x : List ℕ) → v ≡ length x → take v u ≡ x → v ≤ length u
    inside v u x a b = omega (arith, length-take v u, ap length b)

-- ---- opening

module _ (s work text : List ℕ) (ew : length work ≡ 65536) (et : length text ≡ 65536) where
  abbrev ran_by : Call → Shown
  ran_by c = (ran_opened s c.answer c).out

  ran_is : (ran_on s work text).out ≡ ran_by (open_call never_opened s work text 8 0)
  unfolding ran_on
  ran_is = refl

  module _ (z : number s ≡ 0) where
    abbrev c : Call
    c = opened_call never_opened (length s) (length work) 8 0 (soundly (types_of s) (enumerators_of s) (work_of 8 0 s (length work)) (replicate (length text) 0))

    its_number : opening_number 8 s (length work) ≡ 0
    its_number = ap (opening_number 8 s) ew ∙ z

    opens : open_call never_opened s work text 8 0 ≡ c
    unfolding open_call
    opens = ap (opened_call never_opened (length s) (length work) 8 0) (opens_sound 8 0 s work text (eq-eqb (opening_number 8 s (length work)) 0 its_number))

    after : After 8 0 s 65536 c []
    after = subst (λ (q : Call). After 8 0 s 65536 q []) opens (after_open never_opened work text ew (open_number never_opened s work text 8 0 ∙ its_number))

    room_is : length c.text ≡ 65536
    unfolding opened_call
    room_is = length-replicate (length text) 0 ∙ et

    lent : Lent c c.text
    unfolding opened_call
    lent = record { long = omega arith; begins = refl }

    told : Tells (length c.text) (types_call c.session s c.work c.text) (asked (table s))
    unfolding run names_in
    told = subst (λ (room : ℕ). Tells (length c.text) (types_call c.session s c.work c.text) (every (machine (table s)) (table_of (table s)) room (opened (table s)) true)) room_is
        (((delivered 8 0 s 65536).demand2 c [] after).next_types c.text lent)

    shows_all : Shows (program (table s)) (ran_by c)
    unfolding opened_call answer_of ran_opened ran_all
    shows_all = tells_shows c.session s c.work c.text (table s) room_is told

    ran_open : Shows (program (table s)) (ran_on s work text).out
    ran_open = subst (Shows (program (table s))) (sym (ran_is ∙ ap ran_by opens)) shows_all

  ran_not : (k : ℕ) → number s ≡ suc k → Shows (refused_line (suc k)) (ran_on s work text).out
  unfolding open_call opened_call answer_of ran_opened ran_all shown
  ran_not k z = subst (Shows (refused_line (suc k))) (sym (ran_is ∙ ap ran_by (opens_not ∙ ap c its_number))) (line_shows text (suc k) et)
    where
      c : ℕ → Call
      c n = opened_call never_opened (length s) (length work) 8 0 (refused n work text)

      its_number : opening_number 8 s (length work) ≡ suc k
      its_number = ap (opening_number 8 s) ew ∙ z

      opens_not : open_call never_opened s work text 8 0 ≡ c (opening_number 8 s (length work))
      opens_not = ap (opened_call never_opened (length s) (length work) 8 0) (opens_refused 8 0 s work text (ne_eqb (opening_number 8 s (length work)) 0 (λ e. omega (arith, its_number, e))))

  ran : (k : ℕ) → number s ≡ k → IsSomeAnd (ran_on s work text).out.len (λ n. n ≤ length (ran_on s work text).out.text)
  ran zero z = (ran_open z).0
  ran (suc k) z = (ran_not k z).0

pub runs : Runs
runs s work text ew et = record {
  inside = ran s work text ew et (number s) refl;
  rules = λ z. (ran_open s work text ew et z).1;
  described = λ y z. (ran_open s work text ew et z).1 ∙ program_described s y z;
  as_stored = λ y z. (ran_open s work text ew et z).1 ∙ program_described s y z ∙ ap (λ (l : List BtfType). program (listed 8 false l)) (read_types s y z);
  accepted = λ z q. (ran_open s work text ew et z).1 ∙ program_text (table s) q;
  refused = λ z k q. (ran_open s work text ew et z).1 ∙ program_refused (table s) k q;
  not_opened = λ k z. (ran_not s work text ew et k z).1;
}
