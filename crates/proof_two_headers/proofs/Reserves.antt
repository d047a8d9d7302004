-- THE CLAIM of specs/Reserves: what is charged to a session are names of its own table, each once. So while a name of the table has no entry, fewer are
-- charged than the table has names. Assumes nothing.
use Prim.Native.Nat.{ℕ, zero, suc, zero-le, ◌+◌, ◌≤◌, ◌<◌}
use native.Mathlib.Omega.{arith}
use native.Mathlib.Nat.{le_refl}
use mathlib.Core.Path.{◌≡◌, refl, sym, ◌∙◌, ap, subst}
use mathlib.Core.Bool.{Bool, true, false, false≢true}
use mathlib.Core.List.Memᴰ
use mathlib.Core.List.{List, [], ◌∷◌, ◌++◌, Memᴰ}
use mathlib.Core.Logic.{⊎_elim}
use lib.ListN.{length, get_or, set, length-set, length-append, length-replicate}
use lib.Dec.{leb, eqb}
use borrow.Author.Tests.{eqb-true, lt-leb}
use Rattle.std.proofs.lemmas.Bool.{and_parts}
use Rattle.spec_bytes.proofs.words.Laws.{more_some}
use Rattle.spec_c_dumper.specs.rules.Order.{new}
use Rattle.spec_c_dumper.specs.rules.Machine.{Sess, Req, one, all}
use Rattle.spec_c_dumper.specs.rules.Types.{Name, Btf, table_of}
use Rattle.spec_c_dumper.specs.rules.Names.{Space, tag_space, ident_space, Naming, Holder, holders, with_one}
use Rattle.spec_c_dumper.specs.needs.Needs.{WF}
use Rattle.spec_c_dumper.specs.needs.Lists.{Ls, afresh}
use Rattle.spec_c_dumper.specs.needs.Session.{machine_by, answer_to}
use Rattle.spec_c_dumper.specs.names_apart.Naming.{table_names}
use Rattle.spec_c_dumper.specs.names_apart.Apart.{Ends}
use Rattle.spec_c_dumper.proofs.rules.Names.{count_here}
use Rattle.spec_c_dumper.proofs.rules.Refusals.{Passing, type_passing, value_passing}
use Rattle.spec_c_dumper.proofs.rules.Related.{RelResolved, RelNaming}
use Rattle.spec_c_dumper.proofs.needs.Lists.{Sized}
use Rattle.spec_c_dumper.proofs.needs.Session.{machine_lawful}
use Rattle.spec_c_dumper.proofs.needs.Alike.{BothSess, BothAnswer, single_alike, every_alike}
use Rattle.spec_c_dumper.proofs.needs.AnyNames.{Nearly, names_alike}
use Rattle.proof_two_headers.specs.Shared.{Account, Ledger, no_account, account, known, made, Held, over, taking, passing, type_shared, value_shared, sharing, Shelf}
use Rattle.proof_two_headers.specs.Calls.{Lengths, joined, begun, Part, Side, kernel, module', Call, opens, asks, World, part_of, lent, answered, is_current, is_ready, same_lengths, open_number, opening, asking, called, calls, new_world}
use Rattle.proof_two_headers.specs.Reserves.{names_count, Claim}
use Rattle.proof_two_headers.proofs.Own.{Listed, ListedValue, table_listed}
use Rattle.proof_two_headers.proofs.Keeps.{type_by, ledger_keeps}
use Rattle.proof_two_headers.proofs.Accounts.{grows, taking_entries}
use Rattle.proof_two_headers.proofs.Unpassed.{Not20, answers_not}

-- ---- how many names of the table have no entry

abbrev one_if_new : ℕ → ℕ
one_if_new zero = 1
one_if_new (suc n) = 0

abbrev unheld : Space → List Holder → List Name → ℕ
unheld space E [] = 0
unheld space E (x ∷ l) = one_if_new (holders E space x) + unheld space E l

one_falls : (a b : ℕ) → a ≤ b → one_if_new b ≤ one_if_new a
one_falls zero zero l = le_refl 1
one_falls zero (suc b) l = zero-le
one_falls (suc a) zero l = absurd (omega (arith, l))
one_falls (suc a) (suc b) l = zero-le

one_gone : (a b : ℕ) → a ≡ 0 → 1 ≤ b → one_if_new b + 1 ≤ one_if_new a
one_gone zero zero z s = absurd (omega (arith, s))
one_gone zero (suc b) z s = le_refl 1
one_gone (suc a) b z s = absurd (omega (arith, z))

one_most : (a : ℕ) → one_if_new a ≤ 1
one_most zero = le_refl 1
one_most (suc a) = zero-le

module _ (space : Space) where
  unheld_most : (E : List Holder) (l : List Name) → unheld space E l ≤ length l
  unheld_most E [] = zero-le
  unheld_most E (x ∷ l) = omega (arith, one_most (holders E space x), unheld_most E l)

  module _ (E F : List Holder) (up : (x : Name) → holders E space x ≤ holders F space x) where
    unheld_falls : (l : List Name) → unheld space F l ≤ unheld space E l
    unheld_falls [] = zero-le
    unheld_falls (x ∷ l) = omega (arith, one_falls (holders E space x) (holders F space x) (up x), unheld_falls l)

    unheld_less : (name : Name) → holders E space name ≡ 0 → 1 ≤ holders F space name → (l : List Name) → Memᴰ name l → unheld space F l + 1 ≤ unheld space E l
    unheld_less name z s [] i = absurd (Memᴰ.not-nil i)
    unheld_less name z s (x ∷ l) i = ⊎_elim
        (λ e. omega (arith, subst (λ (y : Name). one_if_new (holders F space y) + 1 ≤ one_if_new (holders E space y)) e (one_gone (holders E space name) (holders F space name) z s), unheld_falls l))
        (λ j. omega (arith, one_falls (holders E space x) (holders F space x) (up x), unheld_less name z s l j))
        (Memᴰ.cases_cons i)

module _ (B : Btf) where
  abbrev free : List Holder → ℕ
  free E = unheld tag_space E (table_names B tag_space) + unheld ident_space E (table_names B ident_space)

  free_most : (E : List Holder) → free E ≤ names_count B
  free_most E = omega (arith, unheld_most tag_space E (table_names B tag_space), unheld_most ident_space E (table_names B ident_space))

  module _ (E F : List Holder) (up : (space : Space) (x : Name) → holders E space x ≤ holders F space x) where
    free_falls : free F ≤ free E
    free_falls = omega (arith, unheld_falls tag_space E F (up tag_space) (table_names B tag_space), unheld_falls ident_space E F (up ident_space) (table_names B ident_space))

    free_less : (space : Space) (name : Name) → Memᴰ name (table_names B space) → holders E space name ≡ 0 → 1 ≤ holders F space name → free F + 1 ≤ free E
    free_less tag_space name i z s = omega (arith, unheld_less tag_space E F (up tag_space) name z s (table_names B tag_space) i, unheld_falls ident_space E F (up ident_space) (table_names B ident_space))
    free_less ident_space name i z s = omega (arith, unheld_falls tag_space E F (up tag_space) (table_names B tag_space), unheld_less ident_space E F (up ident_space) name z s (table_names B ident_space) i)

-- ---- accounts

set_reserve : (l : List Account) (k : ℕ) (a : Account) → a.reserve ≡ (get_or l k no_account).reserve → (j : ℕ) → (get_or (set l k a) j no_account).reserve ≡ (get_or l j no_account).reserve
set_reserve [] k a e j = refl
set_reserve (x ∷ l) zero a e zero = e
set_reserve (x ∷ l) zero a e (suc j) = refl
set_reserve (x ∷ l) (suc k) a e zero = refl
set_reserve (x ∷ l) (suc k) a e (suc j) = set_reserve l k a e j

set_used : (l : List Account) (k : ℕ) (a : Account) → (get_or (set l k a) k no_account).used ≤ a.used
set_used [] k a = zero-le
set_used (x ∷ l) zero a = le_refl a.used
set_used (x ∷ l) (suc k) a = set_used l k a

set_other : (l : List Account) (k : ℕ) (a : Account) (j : ℕ) → (j ≡ k → ⊥) → get_or (set l k a) j no_account ≡ get_or l j no_account
set_other [] k a j n = refl
set_other (x ∷ l) zero a zero n = absurd (n refl)
set_other (x ∷ l) zero a (suc j) n = refl
set_other (x ∷ l) (suc k) a zero n = refl
set_other (x ∷ l) (suc k) a (suc j) n = set_other l k a j (λ e. n (ap suc e))

get_last : (l : List Account) (a : Account) → get_or (l ++ (a ∷ [])) (length l) no_account ≡ a
get_last [] a = refl
get_last (x ∷ l) a = get_last l a

get_before : (l : List Account) (a : Account) (k : ℕ) → k < length l → get_or (l ++ (a ∷ [])) k no_account ≡ get_or l k no_account
get_before [] a k r = absurd (omega (arith, r))
get_before (x ∷ l) a zero r = refl
get_before (x ∷ l) a (suc k) r = get_before l a k (omega (arith, r))

module _ (k : ℕ) (L : Ledger) (space : Space) (name : Name) where
  taking_length : length (taking k L space name).accounts ≡ length L.accounts
  unfolding taking
  taking_length = go (eqb (holders L.entries space name) 0)
    where
      go : (b : Bool) → length (elim b as (λ x. Ledger) [ true ↦ made k L space name | false ↦ known L space name ]).accounts ≡ length L.accounts
      go true = length-set L.accounts k _
      go false = refl

  taking_reserve : (j : ℕ) → (account (taking k L space name) j).reserve ≡ (account L j).reserve
  unfolding taking
  taking_reserve j = go (eqb (holders L.entries space name) 0)
    where
      go : (b : Bool) → (account (elim b as (λ x. Ledger) [ true ↦ made k L space name | false ↦ known L space name ]) j).reserve ≡ (account L j).reserve
      go true = set_reserve L.accounts k _ refl j
      go false = refl

  taking_other : (j : ℕ) → (j ≡ k → ⊥) → account (taking k L space name) j ≡ account L j
  unfolding taking
  taking_other j n = go (eqb (holders L.entries space name) 0)
    where
      go : (b : Bool) → account (elim b as (λ x. Ledger) [ true ↦ made k L space name | false ↦ known L space name ]) j ≡ account L j
      go true = set_other L.accounts k _ j n
      go false = refl

  taking_up : (space' : Space) (name' : Name) → holders L.entries space' name' ≤ holders (taking k L space name).entries space' name'
  taking_up space' name' = subst (λ (E : List Holder). holders L.entries space' name' ≤ holders E space' name') (sym (taking_entries k L space name)) (grows space name space' name' L.entries)

-- ---- a session with enough reserved

-- each entry charged to session k was one of the table's names
record Room (B : Btf) (k : ℕ) (L : Ledger) : Type 0 where
  enough : names_count B ≤ (account L k).reserve
  spare : (account L k).used + free B L.entries ≤ names_count B

module _ (B : Btf) (k : ℕ) where
  takes_own : (L : Ledger) (space : Space) (name : Name) → Memᴰ name (table_names B space) → Room B k L → (passing k L space name ≡ false) × Room B k (taking k L space name)
  unfolding passing taking
  takes_own L space name i h = go (eqb (holders L.entries space name) 0) refl
    where
      is_held : 1 ≤ holders (with_one L.entries space name) space name
      is_held = subst (λ (n : ℕ). 1 ≤ n) (sym (count_here space name L.entries)) (more_some (holders L.entries space name))

      go : (b : Bool) → eqb (holders L.entries space name) 0 ≡ b
          → (◌≡◌ {A = Bool} (elim b as (λ z. Bool) [ true ↦ leb (account L k).reserve (account L k).used | false ↦ false ]) false)
          × Room B k (elim b as (λ z. Ledger) [ true ↦ made k L space name | false ↦ known L space name ])
      go true e =
          let f = free_less B L.entries (with_one L.entries space name) (λ s x. grows space name s x L.entries) space name i (eqb-true (holders L.entries space name) 0 e) is_held in (
            lt-leb (account L k).reserve (account L k).used (omega (arith, f, h.spare, h.enough)),
            record {
              enough = subst (λ (n : ℕ). names_count B ≤ n) (sym (set_reserve L.accounts k (record { reserve = (account L k).reserve; used = (account L k).used + 1 }) refl k)) h.enough;
              spare = omega (arith, f, h.spare, set_used L.accounts k (record { reserve = (account L k).reserve; used = (account L k).used + 1 }));
            },
          )
      go false e = (refl, record { enough = h.enough; spare = omega (arith, free_falls B L.entries (with_one L.entries space name) (λ s x. grows space name s x L.entries), h.spare) })

  -- the same names, and no reserve
  abbrev unlimited : Naming Held
  unlimited = record {
    type_version = λ space id name h. record { passes = false; version = (type_shared k space id name h).version; names = (type_shared k space id name h).names };
    value_version = λ id i name h. record { passes = false; version = (value_shared k id i name h).version; names = (value_shared k id i name h).names };
    leaving = λ held h. over held.ledger h;
  }

  none_passes : Passing unlimited → ⊥
  none_passes (type_passing space id name u e) = false≢true e
  none_passes (value_passing id i name u e) = false≢true e

  abbrev Both : Held → Held → Type 0
  Both h u = Room B k h.ledger × (h ≡ u)

  type_both : (space : Space) (id : ℕ) (name : Name) → Listed B space id name → (h : Held) → Room B k h.ledger → RelResolved Both (type_shared k space id name h) (unlimited.type_version space id name h)
  unfolding type_shared
  type_both space id name i h p = go (eqb (get_or h.versions id 0) 0)
    where
      go : (b : Bool) → ((type_by k space id name h b).passes ≡ false) × ((type_by k space id name h b).version ≡ (type_by k space id name h b).version) × Both (type_by k space id name h b).names (type_by k space id name h b).names
      go true = let t = takes_own h.ledger space name i p in (t.0, refl, (t.1, refl))
      go false = (refl, refl, (p, refl))

  value_both : (id j : ℕ) (name : Name) → ListedValue B id j name → (h : Held) → Room B k h.ledger → RelResolved Both (value_shared k id j name h) (unlimited.value_version id j name h)
  unfolding value_shared
  value_both id j name i h p = let t = takes_own h.ledger ident_space name i p in (t.0, refl, (t.1, refl))

  related : RelNaming Both (Listed B) (ListedValue B) (sharing k) unlimited
  related = record {
    rel_type = λ space id name i e h u p. subst (λ (x : Held). RelResolved Both (type_shared k space id name h) (unlimited.type_version space id name x)) p.1 (type_both space id name i h p.0);
    rel_value = λ id j name i h u p. subst (λ (x : Held). RelResolved Both (value_shared k id j name h) (unlimited.value_version id j name x)) p.1 (value_both id j name i h p.0);
    rel_leaving = λ g₁ g₂ p h u q. (p.0, (λ i. over (p.1 i).ledger (q.1 i)));
  }

  module _ (wf : WF (table_of B)) (ends : Ends B) where
    abbrev Near : Shelf → Shelf → Type 0
    Near s t = Nearly Both B.type_cnt s t

    alike : (S : Sess Shelf) → BothSess Near S S → (r : Req) → BothAnswer Near (answer_to (sharing k) B S r) (answer_to unlimited B S r)
    unfolding answer_to
    alike S h (one room x) =
        single_alike (machine_by (sharing k) B) (machine_by unlimited B) (table_of B) (Sized B.type_cnt) (machine_lawful unlimited B B.type_cnt) wf.below Near Both
        (names_alike Both (Listed B) (ListedValue B) (sharing k) unlimited related B (table_listed B ends)) room S S h x
    alike S h (all room) =
        every_alike (machine_by (sharing k) B) (machine_by unlimited B) (table_of B) (Sized B.type_cnt) (machine_lawful unlimited B B.type_cnt) wf.below Near Both
        (names_alike Both (Listed B) (ListedValue B) (sharing k) unlimited related B (table_listed B ends)) room S S h

    record Stays (S : Sess Shelf) (n : ℕ) : Type 0 where
      room : Room B k S.mach.known.names.ledger
      sized : Sized B.type_cnt S.mach
      not_20 : Not20 n

    stays : (S : Sess Shelf) → Room B k S.mach.known.names.ledger → Sized B.type_cnt S.mach → (r : Req) → Stays (answer_to (sharing k) B S r).sess (answer_to (sharing k) B S r).number
    stays S p z r =
        let a = alike S (record { same_open = refl; same_asked = refl; alike = record { rest = refl; names = (p, refl); sized = z } }) r in
        record {
          room = a.sessions.alike.names.0;
          sized = record {
            marks_n = ap (λ (q : Ls ℕ). length q.marks) a.sessions.alike.rest ∙ a.sessions.alike.sized.marks_n;
            emits_n = ap (λ (q : Ls ℕ). length q.emits) a.sessions.alike.rest ∙ a.sessions.alike.sized.emits_n;
          };
          not_20 = λ e. answers_not unlimited none_passes B S r (sym a.same_number ∙ e);
        }

-- ---- both sessions

-- p: a side's session over the table B; q: its partner
record Good (B : Btf) (p q : Part) (L : Ledger) : Type 0 where
  p_in : p.sess.is_open ≡ true → p.number < length L.accounts
  q_in : q.sess.is_open ≡ true → q.number < length L.accounts
  apart : p.sess.is_open ≡ true → q.sess.is_open ≡ true → p.number ≡ q.number → ⊥
  own : p.sess.is_open ≡ true → names_count B ≤ (account L p.number).reserve → Room B p.number L × Sized B.type_cnt p.sess.mach

module _ (B : Btf) (p q : Part) (L : Ledger) (g : Good B p q L) where
  longer : (words reserve n : ℕ) → n < length L.accounts → n < length (joined L words reserve).accounts
  longer words reserve n l = then_one (length-append L.accounts (record { reserve = reserve; used = 0 } ∷ [])) l
    where
      then_one : {a b : ℕ} → b ≡ a + 1 → n < a → n < b
      then_one e f = omega (arith, e, f)

  last_in : (words reserve : ℕ) → length L.accounts < length (joined L words reserve).accounts
  last_in words reserve = one_more_than (length-append L.accounts (record { reserve = reserve; used = 0 } ∷ []))
    where
      one_more_than : {a b : ℕ} → b ≡ a + 1 → a < b
      one_more_than e = omega (arith, e)

  no_last : (n : ℕ) → n < length L.accounts → n ≡ length L.accounts → ⊥
  no_last n l e = omega (arith, l, e)

  own_opens : (l : Lengths) (reserve : ℕ) → Good B (begun B L l reserve) q (joined L l.ledger reserve)
  unfolding afresh
  own_opens l reserve = record {
    p_in = λ o. last_in l.ledger reserve;
    q_in = λ o. longer l.ledger reserve q.number (g.q_in o);
    apart = λ o o' e. no_last q.number (g.q_in o') (sym e);
    own = λ o n. (
      record {
        enough = n;
        spare = subst (λ (a : Account). a.used + free B L.entries ≤ names_count B) (sym (get_last L.accounts (record { reserve = reserve; used = 0 }))) (omega (arith, free_most B L.entries));
      },
      record { marks_n = length-replicate B.type_cnt new; emits_n = length-replicate B.type_cnt new },
    );
  }

  other_opens : (C : Btf) (l : Lengths) (reserve : ℕ) → Good B p (begun C L l reserve) (joined L l.ledger reserve)
  other_opens C l reserve = record {
    p_in = λ o. longer l.ledger reserve p.number (g.p_in o);
    q_in = λ o. last_in l.ledger reserve;
    apart = λ o o' e. no_last p.number (g.p_in o) e;
    own = λ o n.
        let same = get_before L.accounts (record { reserve = reserve; used = 0 }) p.number (g.p_in o) in
        let h = g.own o (subst (λ (a : Account). names_count B ≤ a.reserve) same n) in
        (record { enough = n; spare = subst (λ (a : Account). a.used + free B L.entries ≤ names_count B) (sym same) h.0.spare }, h.1);
  }

-- what the partner takes
module _ (B : Btf) (p q : Part) (o : q.sess.is_open ≡ true) where
  other_takes : (space : Space) (name : Name) (L : Ledger) → Good B p q L → Good B p q (taking q.number L space name)
  other_takes space name L g = record {
    p_in = λ o'. subst (λ (n : ℕ). p.number < n) (sym (taking_length q.number L space name)) (g.p_in o');
    q_in = λ o'. subst (λ (n : ℕ). q.number < n) (sym (taking_length q.number L space name)) (g.q_in o');
    apart = g.apart;
    own = λ o' n.
        let same = taking_other q.number L space name p.number (g.apart o' o) in
        let h = g.own o' (subst (λ (a : Account). names_count B ≤ a.reserve) same n) in (
          record {
            enough = n;
            spare = subst (λ (a : Account). a.used + free B (taking q.number L space name).entries ≤ names_count B) (sym same)
                (omega (arith, free_falls B L.entries (taking q.number L space name).entries (taking_up q.number L space name), h.0.spare));
          },
          h.1,
        );
  }

  other_asks : (C : Btf) (L : Ledger) (r : Req) → Good B p q L
      → Good B p (record { number = q.number; lengths = q.lengths; sess = (answered C q L r).sess }) (answered C q L r).sess.mach.known.names.ledger
  other_asks C L r g =
      let h = ledger_keeps (λ M. Good B p q M) q.number (λ space name M e m. other_takes space name M m) C (lent L q.sess) r g in
      record { p_in = h.p_in; q_in = λ o'. h.q_in o; apart = λ o' o''. h.apart o' o; own = h.own }

module _ (B : Btf) (wf : WF (table_of B)) (ends : Ends B) (p q : Part) (L : Ledger) (o : p.sess.is_open ≡ true) (g : Good B p q L) (r : Req) where
  own_stays : names_count B ≤ (account L p.number).reserve → Stays B p.number wf ends (answered B p L r).sess (answered B p L r).number
  own_stays n = let h = g.own o n in stays B p.number wf ends (lent L p.sess) h.0 (record { marks_n = h.1.marks_n; emits_n = h.1.emits_n }) r

  abbrev As : Ledger → Type 0
  As M = (length M.accounts ≡ length L.accounts) × ((account M p.number).reserve ≡ (account L p.number).reserve)

  own_asks : Good B (record { number = p.number; lengths = p.lengths; sess = (answered B p L r).sess }) q (answered B p L r).sess.mach.known.names.ledger
  own_asks =
      let h = ledger_keeps As p.number (λ space name M e m. (taking_length p.number M space name ∙ m.0, taking_reserve p.number M space name p.number ∙ m.1)) B (lent L p.sess) r (refl, refl) in
      record {
        p_in = λ o'. subst (λ (n : ℕ). p.number < n) (sym h.0) (g.p_in o);
        q_in = λ o'. subst (λ (n : ℕ). q.number < n) (sym h.0) (g.q_in o');
        apart = λ o' o''. g.apart o o'';
        own = λ o' n. let s = own_stays (subst (λ (m : ℕ). names_count B ≤ m) h.1 n) in (s.room, s.sized);
      }

-- ---- any calls

abbrev partner : Side → Side
partner kernel = module'
partner module' = kernel

lent_open : (p : Part) (l : Lengths) (r : Req) → is_current p l r ≡ true → p.sess.is_open ≡ true
unfolding is_current is_ready
lent_open p l r e = (and_parts p.sess.is_open _ (and_parts (same_lengths l p.lengths) _ e).1).0

-- before any opening
closed_good : (B : Btf) → Good B new_world.first new_world.second new_world.ledger
closed_good B = record { p_in = λ o. absurd (false≢true o); q_in = λ o. absurd (false≢true o); apart = λ o. absurd (false≢true o); own = λ o. absurd (false≢true o) }

module _ (B : Side → Btf) where
  abbrev At : Side → World → Type 0
  At d W = Good (B d) (part_of W d) (part_of W (partner d)) W.ledger

  opening_good : (d : Side) (W : World) (e : Side) (l : Lengths) (reserve n : ℕ) → At d W → At d (opening B W e l reserve n).world
  unfolding opening
  opening_good d W e l reserve (suc n) g = g
  opening_good kernel W kernel l reserve zero g = own_opens (B kernel) W.first W.second W.ledger g l reserve
  opening_good kernel W module' l reserve zero g = other_opens (B kernel) W.first W.second W.ledger g (B module') l reserve
  opening_good module' W kernel l reserve zero g = other_opens (B module') W.second W.first W.ledger g (B kernel) l reserve
  opening_good module' W module' l reserve zero g = own_opens (B module') W.second W.first W.ledger g l reserve

  asking_good : (d : Side) → WF (table_of (B d)) → Ends (B d) → (W : World) (e : Side) (r : Req) (b : Bool) → (b ≡ true → (part_of W e).sess.is_open ≡ true) → At d W → At d (asking B W e r b).world
  unfolding asking
  asking_good d wf ends W e r false o g = g
  asking_good kernel wf ends W kernel r true o g = own_asks (B kernel) wf ends W.first W.second W.ledger (o refl) g r
  asking_good kernel wf ends W module' r true o g = other_asks (B kernel) W.first W.second (o refl) (B module') W.ledger r g
  asking_good module' wf ends W kernel r true o g = other_asks (B module') W.second W.first (o refl) (B kernel) W.ledger r g
  asking_good module' wf ends W module' r true o g = own_asks (B module') wf ends W.second W.first W.ledger (o refl) g r

  module _ (d : Side) (wf : WF (table_of (B d))) (ends : Ends (B d)) where
    called_good : (W : World) (c : Call) → At d W → At d (called B W c).world
    unfolding called
    called_good W (opens e other l reserve) g = opening_good d W e l reserve (open_number other W.ledger l.ledger reserve) g
    called_good W (asks e l r) g = asking_good d wf ends W e r (is_current (part_of W e) l r) (lent_open (part_of W e) l r) g

    calls_good : (cs : List Call) (W : World) → At d W → At d (calls B W cs)
    unfolding calls
    calls_good [] W g = g
    calls_good (c ∷ cs) W g = calls_good cs (called B W c).world (called_good W c g)

    new_good : At d new_world
    new_good = by d
      where
        by : (e : Side) → Good (B d) (part_of new_world e) (part_of new_world (partner e)) new_world.ledger
        by kernel = closed_good (B d)
        by module' = closed_good (B d)

    not_20 : (W : World) → At d W → names_count (B d) ≤ (account W.ledger (part_of W d).number).reserve → (l : Lengths) (r : Req) → Not20 (called B W (asks d l r)).number
    unfolding called asking
    not_20 W g n l r = go (is_current (part_of W d) l r) (lent_open (part_of W d) l r)
      where
        go : (b : Bool) → (b ≡ true → (part_of W d).sess.is_open ≡ true) → Not20 (asking B W d r b).number
        go false o = λ e. omega arith
        go true o = (own_stays (B d) wf ends (part_of W d) (part_of W (partner d)) W.ledger (o refl) g r n).not_20

-- THE CLAIM
pub reserves : Claim
reserves B d wf ends cs n l r = not_20 B d wf ends (calls B new_world cs) (calls_good B d wf ends cs new_world (new_good B d wf ends)) n l r
