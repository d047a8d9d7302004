-- Names apart: the lists of taken numbers that opening leaves, and the definition of the mode over the described table, give the same numbers and the same
-- text. Assumes nothing but that opening accepts the section, and that the section is bytes.
use Prim.Native.Nat.{ℕ, zero, suc, ◌/◌, ◌%◌}
use mathlib.Core.Path.{◌≡◌, refl, ap, ap₂, ◌∙◌, sym, subst}
use mathlib.Core.Bool.{Bool, true, false}
use mathlib.Core.List.{List, [], ◌∷◌, ◌++◌, Memᴰ}
use native.Mathlib.Omega.{arith}
use lib.ListN.{get_or-eq_default}
use borrow.Author.Tests.{eq-eqb, ne_eqb}
use Rattle.spec_linux_btf.specs.Reading.{Bytes}
use Rattle.spec_c_dumper.specs.rules.Machine.{Sess, Req, one}
use Rattle.spec_c_dumper.specs.rules.Types.{Name, Void, Btf, table_of}
use Rattle.spec_c_dumper.specs.rules.Names.{Space, Naming, Names, naming}
use Rattle.spec_opening.specs.Table.{enumerators_of}
use Rattle.spec_opening.specs.Opened.{work_of}
use Rattle.spec_opening.specs.Causes.{opening_number}
use Rattle.spec_c_dumper.specs.needs.Lists.{Ls}
use Rattle.spec_c_dumper.specs.needs.Session.{Known, text_of, machine_by, opened_by, answer_to, no_names}
use Rattle.proof_demands.specs.name_counts.Passed.{Lists, passed}
use Rattle.proof_demands.specs.name_counts.Indexed.{lists_in}
use Rattle.proof_demands.specs.demands.Table.{header_of, opened_table, names_in}
use Rattle.spec_c_dumper.specs.names_apart.Apart.{names_in as names_of, names_to, table_names, Apart, apart, none_shown, dump_apart, Ends}
use Rattle.proof_names_apart.specs.passed_numbers.Passed.{Right, dump_passed}
use Rattle.proof_names_apart.proofs.passed_numbers.Passed.{lists_alike}
use Rattle.proof_names_apart.proofs.no_collision.Right.{lists_right}
use Rattle.proof_names_apart.proofs.same_text.Dumps.{text_in, last_in, served, dump_text, last_text, last_number}
use Rattle.proof_names_apart.proofs.none_passed.Probe.{told_once, past_number}
use Rattle.spec_opening.specs.Described.{type_list, table_in}
use Rattle.proof_calls.proofs.described.Table.{type_list_lem, count_list, described_wf}

-- ---- the names of a session, by bit 3 of the modes
abbrev names_by : Naming Names → Bool → Naming Names
names_by N t = elim t as (λ z. Naming Names) [ true ↦ N | false ↦ naming ]

abbrev pub taken : ℕ → ℕ → List ℕ → ℕ → Lists
taken p modes s n = lists_in (header_of p modes s) (enumerators_of s) s (work_of p modes s n)

pub plain_are : (p modes : ℕ) (s : List ℕ) (n : ℕ) → modes / 8 % 2 ≡ 0 → names_in p modes s n ≡ naming
unfolding names_in
plain_are p modes s n off = ap (names_by (passed (taken p modes s n))) (ne_eqb (modes / 8 % 2) 1 (λ z. absurd (omega (arith, z, off))))

pub passed_are : (p modes : ℕ) (s : List ℕ) (n : ℕ) → modes / 8 % 2 ≡ 1 → names_in p modes s n ≡ passed (taken p modes s n)
unfolding names_in
passed_are p modes s n on = ap (names_by (passed (taken p modes s n))) (eq-eqb (modes / 8 % 2) 1 on)

module _ (p modes : ℕ) (s : List ℕ) (n : ℕ) (y : Bytes s) (ok : opening_number p s n ≡ 0) where
  abbrev B : Btf
  B = opened_table p modes s n

  abbrev D : Btf
  D = table_in p modes s

  -- both tables have the same names
  to_same : (space : Space) (k : ℕ) → names_to B space k ≡ names_to D space k
  unfolding names_to
  to_same space zero = refl
  to_same space (suc k) = ap₂ (λ (a c : List Name). a ++ c) (ap (names_of space) (type_list_lem p modes s n y ok k)) (to_same space k)

  pub names_same : (space : Space) → table_names B space ≡ table_names D space
  names_same space = to_same space B.type_cnt ∙ ap (names_to D space) (count_list p modes s n y ok)

  pub ends : Ends D
  ends id q = get_or-eq_default (type_list s) Void q

  module _ (on : modes / 8 % 2 ≡ 1) where
    abbrev T : Lists
    T = taken p modes s n

    back : (space : Space) (name : Name) → Memᴰ name (table_names D space) → Memᴰ name (table_names B space)
    back space name m = subst (Memᴰ name) (sym (names_same space)) m

    pub right : Right D T
    right =
        let r = lists_right p modes s n ok on in
        record {
          distinct = λ space name m. r.distinct space name (back space name m);
          suffixes = λ space name m. r.suffixes space name (back space name m);
          listed = λ space name m k a b q. r.listed space name (back space name m) k a b (back space _ q);
          only = λ space name m k q. subst (Memᴰ _) (names_same space) (r.only space name (back space name m) k q);
        }

    both : (rs : List Req) → dump_passed T D rs ≡ dump_apart D rs
    both rs = sym (lists_alike D T right ends (described_wf p modes s n y ok) rs)

    -- the sessions after the requests
    abbrev pub listed : List Req → Sess (Ls (Known Names))
    listed rs = served (passed T) D rs (opened_by (passed T) D (no_names D))

    abbrev pub shown : List Req → Sess (Ls (Known Apart))
    shown rs = served (apart D) D rs (opened_by (apart D) D (none_shown D))

    pub same_text : (rs : List Req) → text_of (listed rs).mach.pieces ≡ text_of (shown rs).mach.pieces
    same_text rs =
        sym (dump_text (passed T) D rs [] (opened_by (passed T) D (no_names D)))
        ∙ ap text_in (both rs)
        ∙ dump_text (apart D) D rs [] (opened_by (apart D) D (none_shown D))

    pub next_number_lem : (rs : List Req) (r : Req) → (answer_to (passed T) D (listed rs) r).number ≡ (answer_to (apart D) D (shown rs) r).number
    next_number_lem rs r =
        sym (last_number (passed T) D r rs [] (opened_by (passed T) D (no_names D)))
        ∙ ap last_in (both (rs ++ (r ∷ [])))
        ∙ last_number (apart D) D r rs [] (opened_by (apart D) D (none_shown D))

    pub next_text : (rs : List Req) (r : Req) → text_of (answer_to (passed T) D (listed rs) r).sess.mach.pieces ≡ text_of (answer_to (apart D) D (shown rs) r).sess.mach.pieces
    next_text rs r =
        sym (last_text (passed T) D r rs [] (opened_by (passed T) D (no_names D)))
        ∙ ap text_in (both (rs ++ (r ∷ [])))
        ∙ last_text (apart D) D r rs [] (opened_by (apart D) D (none_shown D))

    -- an id that is not below the count tells whether a session is open
    pub same_open : (rs : List Req) → (listed rs).is_open ≡ (shown rs).is_open
    unfolding answer_to
    same_open rs =
        told_once (listed rs).is_open (shown rs).is_open
        (sym (past_number (machine_by (passed T) D) (table_of D) 0 (listed rs))
        ∙ next_number_lem rs (one 0 D.type_cnt)
        ∙ past_number (machine_by (apart D) D) (table_of D) 0 (shown rs))
