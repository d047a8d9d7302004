-- What the requests of two sessions come to, with names apart and without, and what the calls say of it: the texts, the next request, and whether the
-- sessions are open. Assumes nothing but that opening accepts the section.
use Prim.Native.Nat.{ℕ, ◌/◌, ◌%◌}
use mathlib.Core.Path.{◌≡◌, refl, ap, ◌∙◌, sym, subst}
use mathlib.Core.Bool.{Bool, true, false}
use mathlib.Core.List.{List, [], ◌∷◌, ◌++◌}
use native.Mathlib.Omega.{arith}
use lib.ListN.{length, take}
use borrow.Author.Tests.{eq-eqb, ne_eqb}
use Rattle.spec_c_dumper.specs.rules.Machine.{Sess, Answer, Req, one, all, single, every, serve, run}
use Rattle.spec_c_dumper.specs.rules.Types.{Btf, table_of}
use Rattle.spec_c_dumper.specs.rules.Names.{Naming, Names, naming}
use Rattle.spec_opening.specs.Table.{enumerators_of}
use Rattle.spec_opening.specs.Opened.{work_of}
use Rattle.spec_opening.specs.Causes.{opening_number}
use Rattle.spec_session.specs.session.Turns.{Call}
use Rattle.spec_session.specs.calls.Calls.{type_call, types_call}
use Rattle.spec_c_dumper.specs.needs.Lists.{Ls}
use Rattle.spec_c_dumper.specs.needs.Session.{Known, Dump, dump, text_of, machine_by, opened_by, answer_to, dumped, no_names, dump_types}
use Rattle.proof_demands.specs.name_counts.Passed.{Lists, passed}
use Rattle.proof_demands.specs.name_counts.Indexed.{lists_in}
use Rattle.proof_demands.specs.demands.Table.{header_of, opened_table, names_in, machine_in, opened_in}
use Rattle.proof_demands.specs.demands.Session.{After, Tells}
use Rattle.proof_demands.specs.demands.Demands.{Lent, types_in, ruled, Demand2}
use Rattle.proof_demands.proofs.demands.Sound.{opened_wf}
use Rattle.proof_demands.proofs.demands.Demands.{delivered}
use Rattle.spec_c_dumper.specs.names_apart.Apart.{dump_apart}
use Rattle.proof_names_apart.proofs.names_apart.Tables.{table_ends}
use Rattle.proof_names_apart.proofs.passed_numbers.Passed.{lists_alike}
use Rattle.proof_names_apart.proofs.no_collision.Right.{lists_right}
use Rattle.proof_names_apart.proofs.none_passed.Claims.{both_alike}
use Rattle.proof_names_apart.proofs.none_passed.Probe.{told_once, past_number, passes_past}
use Rattle.proof_names_apart.specs.same_text.Claims.{SameAnswer, OnlyNames, NonePassed}
use Rattle.proof_names_apart.proofs.same_text.Table.{tables_same}

-- ---- what a dump says: the text, and the number of the last request
pub text_in : Dump → List ℕ
text_in (dump ns t) = t

last : ℕ → List (ℕ × ℕ) → ℕ
last m [] = m
last m (n ∷ ns) = last n.0 ns

pub last_in : Dump → ℕ
last_in (dump ns t) = last 0 ns

last_more : (m : ℕ) (ns : List (ℕ × ℕ)) (n : ℕ × ℕ) → last m (ns ++ (n ∷ [])) ≡ n.0
unfolding last
last_more m [] n = refl
last_more m (k ∷ ns) n = last_more k.0 ns n

module _ {U : Type 0} (N : Naming U) (B : Btf) where
  abbrev pub served : List Req → Sess (Ls (Known U)) → Sess (Ls (Known U))
  served rs S = run (machine_by N B) (table_of B) rs S

  answers : (S : Sess (Ls (Known U))) (r : Req) → (answer_to N B S r).sess ≡ serve (machine_by N B) (table_of B) S r
  unfolding answer_to serve
  answers S (one room x) = refl
  answers S (all room) = refl

  pub dump_text : (rs : List Req) (ns : List (ℕ × ℕ)) (S : Sess (Ls (Known U))) → text_in (dumped N B ns rs S) ≡ text_of (served rs S).mach.pieces
  unfolding dumped run text_in
  dump_text [] ns S = refl
  dump_text (r ∷ rs) ns S =
      dump_text rs (ns ++ (((answer_to N B S r).number, (answer_to N B S r).sess.mach.known.text_len) ∷ [])) (answer_to N B S r).sess
      ∙ ap (λ (x : Sess (Ls (Known U))). text_of (served rs x).mach.pieces) (answers S r)

  -- the last request
  pub last_text : (r : Req) (rs : List Req) (ns : List (ℕ × ℕ)) (S : Sess (Ls (Known U))) → text_in (dumped N B ns (rs ++ (r ∷ [])) S) ≡ text_of (answer_to N B (served rs S) r).sess.mach.pieces
  unfolding dumped run text_in
  last_text r [] ns S = refl
  last_text r (q ∷ rs) ns S =
      last_text r rs (ns ++ (((answer_to N B S q).number, (answer_to N B S q).sess.mach.known.text_len) ∷ [])) (answer_to N B S q).sess
      ∙ ap (λ (x : Sess (Ls (Known U))). text_of (answer_to N B (served rs x) r).sess.mach.pieces) (answers S q)

  pub last_number : (r : Req) (rs : List Req) (ns : List (ℕ × ℕ)) (S : Sess (Ls (Known U))) → last_in (dumped N B ns (rs ++ (r ∷ [])) S) ≡ (answer_to N B (served rs S) r).number
  unfolding dumped run last_in
  last_number r [] ns S = last_more 0 ns ((answer_to N B S r).number, (answer_to N B S r).sess.mach.known.text_len)
  last_number r (q ∷ rs) ns S =
      last_number r rs (ns ++ (((answer_to N B S q).number, (answer_to N B S q).sess.mach.known.text_len) ∷ [])) (answer_to N B S q).sess
      ∙ ap (λ (x : Sess (Ls (Known U))). (answer_to N B (served rs x) r).number) (answers S q)

-- what a session's requests come to, with its names
abbrev dump_in : ℕ → ℕ → List ℕ → ℕ → List Req → Dump
dump_in p modes s n rs = dumped (names_in p modes s n) (opened_table p modes s n) [] rs (opened_in p modes s n)

module _ (p modes old : ℕ) (s : List ℕ) (n : ℕ) (o : OnlyNames p modes old s n) (ok : opening_number p s n ≡ 0) where
  abbrev B : Btf
  B = opened_table p modes s n

  abbrev T : Lists
  T = lists_in (header_of p modes s) (enumerators_of s) s (work_of p modes s n)

  abbrev names_by : Naming Names → Bool → Naming Names
  names_by N t = elim t as (λ z. Naming Names) [ true ↦ N | false ↦ naming ]

  new_are : names_in p modes s n ≡ passed T
  unfolding names_in
  new_are = ap (names_by (passed T)) (eq-eqb (modes / 8 % 2) 1 o.new_names)

  old_are : names_in p old s n ≡ naming
  unfolding names_in
  old_are = ap (names_by (passed (lists_in (header_of p old s) (enumerators_of s) s (work_of p old s n)))) (ne_eqb (old / 8 % 2) 1 (λ z. absurd (omega (arith, z, o.old_names))))

  new_dump : (rs : List Req) → dump_in p modes s n rs ≡ dump_apart B rs
  new_dump rs =
      ap (λ (N : Naming Names). dumped N B [] rs (opened_by N B (no_names B))) new_are
      ∙ sym (lists_alike B T (lists_right p modes s n ok o.new_names) (table_ends (header_of p modes s) s (work_of p modes s n)) (opened_wf p modes s n ok) rs)

  old_dump : (rs : List Req) → dump_in p old s n rs ≡ dump_types B rs
  old_dump rs =
      ap (λ (N : Naming Names). dumped N (opened_table p old s n) [] rs (opened_by N (opened_table p old s n) (no_names (opened_table p old s n)))) old_are
      ∙ ap (λ (K : Btf). dump_types K rs) (sym (tables_same p modes old s n ok o.same_modes))

  both_dump : (rs : List Req) → NonePassed p modes old s n rs → dump_in p modes s n rs ≡ dump_in p old s n rs
  both_dump rs h = new_dump rs ∙ (both_alike B (opened_wf p modes s n ok) rs h).alike ∙ sym (old_dump rs)

  -- the last request of each, and what the calls say of it
  module _ (rs : List Req) (r : Req) (h : NonePassed p modes old s n (rs ++ (r ∷ []))) where
    abbrev new : Answer (Ls (Known Names))
    new = answer_to (names_in p modes s n) B (ruled p modes s n rs) r

    abbrev plain : Answer (Ls (Known Names))
    plain = answer_to (names_in p old s n) (opened_table p old s n) (ruled p old s n rs) r

    same_number : new.number ≡ plain.number
    same_number =
        sym (last_number (names_in p modes s n) B r rs [] (opened_in p modes s n))
        ∙ ap last_in (both_dump (rs ++ (r ∷ [])) h)
        ∙ last_number (names_in p old s n) (opened_table p old s n) r rs [] (opened_in p old s n)

    same_text : text_of new.sess.mach.pieces ≡ text_of plain.sess.mach.pieces
    same_text =
        sym (last_text (names_in p modes s n) B r rs [] (opened_in p modes s n))
        ∙ ap text_in (both_dump (rs ++ (r ∷ [])) h)
        ∙ last_text (names_in p old s n) (opened_table p old s n) r rs [] (opened_in p old s n)

    same_answer : (k j : ℕ) (c d : Call) → Tells k c new → Tells j d plain → SameAnswer c d
    same_answer k j c d x y = record {
      number = x.number ∙ same_number ∙ sym y.number;
      value = x.value ∙ ap length same_text ∙ sym y.value;
      text = x.begins ∙ same_text ∙ sym y.begins;
    }

  module _ (c d : Call) (rs : List Req) (a : After p modes s n c rs) (b : After p old s n d rs) where
    abbrev x : Demand2 p modes s n c rs
    x = (delivered p modes s n).demand2 c rs a

    abbrev y : Demand2 p old s n d rs
    y = (delivered p old s n).demand2 d rs b

    pub texts : NonePassed p modes old s n rs → text_of (ruled p modes s n rs).mach.pieces ≡ text_of (ruled p old s n rs).mach.pieces
    texts h =
        sym (dump_text (names_in p modes s n) B rs [] (opened_in p modes s n))
        ∙ ap text_in (both_dump rs h)
        ∙ dump_text (names_in p old s n) (opened_table p old s n) rs [] (opened_in p old s n)

    pub next_one : (t u : List ℕ) → Lent c t → Lent d u → length t ≡ length u → (id : ℕ) → NonePassed p modes old s n (rs ++ (one (length t) id ∷ [])) → SameAnswer (type_call c.session s c.work t id) (type_call d.session s d.work u id)
    unfolding answer_to
    next_one t u l m e id h =
        same_answer rs (one (length t) id) h (length t) (length u) _ _ (x.next_type t l id)
        (subst (λ (k : ℕ). Tells (length u) (type_call d.session s d.work u id) (single (machine_in p old s n) (types_in p old s n) k (ruled p old s n rs) id)) (sym e) (y.next_type u m id))

    pub next_all : (t u : List ℕ) → Lent c t → Lent d u → length t ≡ length u → NonePassed p modes old s n (rs ++ (all (length t) ∷ [])) → SameAnswer (types_call c.session s c.work t) (types_call d.session s d.work u)
    unfolding answer_to
    next_all t u l m e h =
        same_answer rs (all (length t)) h (length t) (length u) _ _ (x.next_types t l)
        (subst (λ (k : ℕ). Tells (length u) (types_call d.session s d.work u) (every (machine_in p old s n) (types_in p old s n) k (ruled p old s n rs) (ruled p old s n rs).is_open)) (sym e) (y.next_types u m))

    -- an id that is not below the count tells it
    pub same_open : NonePassed p modes old s n rs → c.session.«open» ≡ d.session.«open»
    unfolding answer_to
    same_open h =
        let k : B.type_cnt ≡ (opened_table p old s n).type_cnt = ap (λ (K : Btf). K.type_cnt) (tables_same p modes old s n ok o.same_modes) in
        x.is_open
        ∙ told_once (ruled p modes s n rs).is_open (ruled p old s n rs).is_open
        (sym (past_number (machine_in p modes s n) (types_in p modes s n) 0 (ruled p modes s n rs))
        ∙ same_number rs (one 0 B.type_cnt) (passes_past B rs h)
        ∙ ap (λ (j : ℕ). (single (machine_in p old s n) (types_in p old s n) 0 (ruled p old s n rs) j).number) k
        ∙ past_number (machine_in p old s n) (types_in p old s n) 0 (ruled p old s n rs))
        ∙ sym y.is_open

    pub same_len : NonePassed p modes old s n rs → c.session.text_len ≡ d.session.text_len
    same_len h = x.text_len ∙ ap length (texts h) ∙ sym y.text_len

    pub same_text_so_far : NonePassed p modes old s n rs → take c.session.text_len c.text ≡ take d.session.text_len d.text
    same_text_so_far h = x.text ∙ texts h ∙ sym y.text
