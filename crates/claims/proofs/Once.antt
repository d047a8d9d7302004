-- Ask 7 holds of the calls on a session and of the calls for C. Assumes nothing but that opening accepts the section, and that the section is bytes.
use Prim.Native.Nat.{ℕ, zero, suc, ◌+◌, ◌/◌, ◌%◌, ◌≤◌}
use mathlib.Core.Path.{◌≡◌, refl, ap, ap₂, ◌∙◌, sym, subst, fun_ext}
use mathlib.Core.List.{List, []}
use lib.ListN.{replicate}
use lib.Dec.{eqb}
use Rattle.spec_linux_btf.specs.Reading.{Bytes}
use Rattle.spec_c_dumper.specs.rules.Types.{Btf}
use Rattle.spec_c_dumper.specs.rules.Names.{Naming, Names, naming}
use Rattle.spec_c_dumper.specs.rules.Machine.{Req}
use Rattle.spec_c_dumper.specs.needs.Session.{no_names}
use Rattle.spec_c_dumper.specs.names_apart.Apart.{apart, none_shown}
use Rattle.spec_c_dumper.specs.alignment_once.Once.{table_keep, blank, members_to, member_count}
use Rattle.spec_c_dumper.proofs.alignment_once.Tables.{Any, Each, table_lawful}
use Rattle.spec_c_dumper.proofs.alignment_once.Session.{remembering_session}
use Rattle.spec_type_table.specs.Table as btf
use Rattle.btf_open_causes.specs.header.Header as header
use Rattle.spec_opening.specs.Causes.{opening_number}
use Rattle.spec_opening.specs.Described.{table_in}
use Rattle.spec_opening.proofs.Order.{sound_none}
use Rattle.spec_session.specs.session.Turns.{Call}
use Rattle.proof_demands.specs.demands.Table.{opened_table}
use Rattle.proof_demands.specs.demands.Session as old
use Rattle.proof_demands.proofs.counted.Claims.{counted}
use Rattle.proof_calls.specs.calls_for_c.Claims as for-c
use Rattle.proof_calls.proofs.calls_for_c.Claims.{delivered_c}
use Rattle.proof_calls.proofs.described.Table.{type_list_lem, count_list, pointer_is, tags_same, described_wf}
use Rattle.claims.specs.Calls.{Calls, After}
use Rattle.claims.specs.Request07_alignment_once.{remembering, Answered, Request07}
use Rattle.claims.specs.Ours.{on_session, session_visits, for_c, visits_for_c}
use Rattle.claims.proofs.Names.{plain_are, ends}
use Rattle.claims.proofs.Demands.{session_after, session_sound, c_after, c_sound}

module _ (p modes : ℕ) (s : List ℕ) (n : ℕ) (y : Bytes s) (ok : opening_number p s n ≡ 0) where
  abbrev B : Btf
  B = opened_table p modes s n

  abbrev D : Btf
  D = table_in p modes s

  -- the table that opening gives has the described types, and their tags
  opened_types : B ≡ record {
    ptr_sz = D.ptr_sz;
    union_as_struct = D.union_as_struct;
    strong_arrays = D.strong_arrays;
    placing = D.placing;
    type_cnt = D.type_cnt;
    type_by_id = D.type_by_id;
    decl_tags = B.decl_tags;
  }
  unfolding btf.btf_of header.btf_of
  opened_types i = record {
    ptr_sz = pointer_is p ((sound_none p s n).0 ok).0 i;
    union_as_struct = eqb (modes % 2) 1;
    strong_arrays = eqb (modes / 2 % 2) 1;
    placing = eqb (modes / 4 % 2) 1;
    type_cnt = count_list p modes s n y ok i;
    type_by_id = fun_ext (type_list_lem p modes s n y ok) i;
    decl_tags = B.decl_tags;
  }

  members_same : (k : ℕ) → members_to B k ≡ members_to D k
  unfolding members_to
  members_same zero = refl
  members_same (suc k) = ap₂ (λ (a b : ℕ). a + b) (members_same k) (ap member_count (type_list_lem p modes s n y ok k))

  -- "at most types plus members"
  at_most : (c : Call) (rs : List Req) → old.After p modes s n c rs → c.session.visits ≤ D.type_cnt + members_to D D.type_cnt
  at_most c rs a =
      subst (λ (k : ℕ). c.session.visits ≤ k)
      (ap₂ (λ (a b : ℕ). a + b) (count_list p modes s n y ok) (members_same B.type_cnt ∙ ap (members_to D) (count_list p modes s n y ok)))
      ((counted p modes s n).calls c rs a).at_most

  -- the count, with the names of the Rust
  names_same : no_names B ≡ no_names D
  names_same i = record { versions = replicate (count_list p modes s n y ok i) 0; ledger = [] }

  count : modes / 8 % 2 ≡ 0 → (c : Call) (rs : List Req) → old.After p modes s n c rs → c.session.visits ≡ (remembering B naming (no_names D) rs).visits
  count off c rs a =
      ((counted p modes s n).calls c rs a).visits
      ∙ ap (λ (N : Naming Names). (remembering B N (no_names B) rs).visits) (plain_are p modes s n off)
      ∙ ap (λ (u : Names). (remembering B naming u rs).visits) names_same

-- ---- of any calls, from those on a session
module _ {R C : Type 0} (K : Calls R C) (visits : C → ℕ) (p modes : ℕ) (s : List ℕ) (n : ℕ) (sound : (c : C) (rs : List Req) → After K p modes s n c rs → opening_number p s n ≡ 0)
    (session : C → Call) (after : (c : C) (rs : List Req) → After K p modes s n c rs → old.After p modes s n (session c) rs) (kept : (c : C) → visits c ≡ (session c).session.visits) where
  remembered_answers : {U : Type 0} (N : Naming U) (u : U) → Bytes s → (c : C) (rs : List Req) → After K p modes s n c rs → Answered K visits p modes s n U N u c rs
  remembered_answers N u y c rs a =
      let ok = sound c rs a in
      let E : Btf = table_in p modes s in
      record {
        at_most = subst (λ (k : ℕ). k ≤ E.type_cnt + members_to E E.type_cnt) (sym (kept c)) (at_most p modes s n y ok (session c) rs (after c rs a));
        answers = remembering_session (table_keep E.type_cnt) N E Any Each (table_lawful E.type_cnt) (λ id t q l. tt) (described_wf p modes s n y ok) (ends p modes s n y ok) u blank tt (λ id. refl) rs;
      }

  pub once : Request07 K visits p modes s n
  once = record {
    counted = λ y off c rs a.
        let ok = sound c rs a in
        record {
          table = opened_table p modes s n;
          spells = record { types = opened_types p modes s n y ok; tags = tags_same p modes s n y ok };
          count = kept c ∙ count p modes s n y ok off (session c) rs (after c rs a);
        };
    answered = record { plain = λ y off c rs a. remembered_answers naming (no_names (table_in p modes s)) y c rs a; names_apart = λ y on c rs a. remembered_answers (apart (table_in p modes s)) (none_shown (table_in p modes s)) y c rs a };
  }

pub session_once : (p modes : ℕ) (s : List ℕ) (n : ℕ) → Request07 on_session session_visits p modes s n
session_once p modes s n = once on_session session_visits p modes s n (session_sound p modes s n) (λ c. c) (λ c rs a. session_after p modes s n a) (λ c. refl)

pub c_once : (p modes : ℕ) (s : List ℕ) (n : ℕ) → Request07 for_c visits_for_c p modes s n
c_once p modes s n =
    once for_c visits_for_c p modes s n (c_sound p modes s n) for-c.told (λ e rs a. ((delivered_c p modes s n).same_calls e rs (c_after p modes s n a)).told_after) (λ e. refl)
