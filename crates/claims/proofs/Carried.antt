-- Calls on a session that carry a ceiling or a list: the plain calls, or ended by what they carry. Assumes nothing but that opening accepts the section, and
-- that the section is bytes.
use Prim.Native.Nat.{ℕ, zero, suc, ◌/◌, ◌%◌}
use mathlib.Core.Path.{◌≡◌, refl, ap, ◌∙◌, sym, subst}
use mathlib.Core.Bool.{true, false}
use mathlib.Core.List.{List, [], ◌∷◌, ◌++◌}
use lib.ListN.{length, replicate}
use Rattle.spec_linux_btf.specs.Reading.{Bytes}
use Rattle.spec_c_dumper.specs.rules.Types.{Btf}
use Rattle.spec_c_dumper.specs.rules.Names.{Naming, Names, naming}
use Rattle.spec_c_dumper.specs.rules.Machine.{Req, one, Sess, run}
use Rattle.spec_c_dumper.specs.needs.Lists.{Ls, afresh}
use Rattle.spec_c_dumper.specs.needs.Session.{Known, text_of, no_names}
use Rattle.spec_c_dumper.proofs.needs.Session.{by_demand3}
use Rattle.spec_c_dumper.specs.names_apart.Apart.{apart, none_shown}
use Rattle.spec_c_dumper.specs.origins.Causes.{ids_from}
use Rattle.spec_opening.specs.Causes.{opening_number}
use Rattle.spec_opening.specs.Described.{table_in}
use Rattle.spec_session.specs.session.Answers.{Answer, Refused, number_of, value_of}
use Rattle.spec_session.specs.session.Turns.{Call, unchanged}
use Rattle.proof_demands.specs.name_counts.Passed.{passed}
use Rattle.proof_demands.specs.demands.Table.{names_in}
use Rattle.proof_demands.specs.demands.Session as old
use Rattle.proof_demands.specs.demands.Demands as before_that
use Rattle.proof_calls.specs.ceilings.Ceilings.{ones_from, eleven_of}
use Rattle.proof_calls.specs.mixed.Mixed as mixed
use Rattle.proof_calls.specs.mixed.Claims.{Stands as Stood}
use Rattle.proof_calls.proofs.mixed.Plain.{type_plain, types_plain, list_plain}
use Rattle.proof_calls.proofs.mixed.Closed.{type_shut, types_shut, list_shut}
use Rattle.proof_calls.proofs.mixed.Claims.{calls_mixed}
use Rattle.proof_calls.proofs.described.Table.{over_described, described_wf}
use Rattle.claims.specs.Calls.{ids_in, singles, Lent}
use Rattle.claims.specs.Demand2.{Eleven}
use Rattle.claims.specs.Demands.{ruled}
use Rattle.claims.specs.Carried.{Aid, ceiling, list, ending, Stands, SomeStand, Carried, ClosedTo, Carries}
use Rattle.claims.specs.Ours.{on_session, session_carrying}
use Rattle.claims.proofs.Names.{plain_are, passed_are, taken, same_text, same_open}
use Rattle.claims.proofs.Demands.{singles_same, session_after, session_sound}

-- ---- the sessions of the rules: over the table that opening gives, and over the described one

module _ (p modes : ℕ) (s : List ℕ) (n : ℕ) (y : Bytes s) (ok : opening_number p s n ≡ 0) where
  abbrev D : Btf
  D = table_in p modes s

  abbrev before : List Req → Sess (Ls (Known Names))
  before rs = before_that.ruled p modes s n rs

  -- with the names of the session
  over : (rs : List Req) → before rs ≡ ruled on_session p modes s n (names_in p modes s n) (no_names D) rs
  over rs = over_described p modes s n y ok (names_in p modes s n)
      (λ X T m. before rs ≡ run X T rs (record { is_open = true; mach = afresh m (record { names = record { versions = replicate m 0; ledger = [] }; text_len = 0 }); asked = [] }))
      refl

  -- the same text, open or closed alike
  record AlikeTo {U : Type 0} (N : Naming U) (u : U) : Type 0 where
    text : (rs : List Req) → text_of (before rs).mach.pieces ≡ text_of (ruled on_session p modes s n N u rs).mach.pieces
    is_open : (rs : List Req) → (before rs).is_open ≡ (ruled on_session p modes s n N u rs).is_open

  -- with the names of the Rust
  plain : modes / 8 % 2 ≡ 0 → AlikeTo naming (no_names D)
  plain off = subst (λ (N : Naming Names). AlikeTo N (no_names D)) (plain_are p modes s n off) (record {
    text = λ rs. ap (λ (S : Sess (Ls (Known Names))). text_of S.mach.pieces) (over rs);
    is_open = λ rs. ap (λ (S : Sess (Ls (Known Names))). S.is_open) (over rs);
  })

  -- with names that cannot collide
  names_apart : modes / 8 % 2 ≡ 1 → AlikeTo (apart D) (none_shown D)
  names_apart on = record {
    text = λ rs. ap (λ (S : Sess (Ls (Known Names))). text_of S.mach.pieces) (listed rs) ∙ same_text p modes s n y ok on rs;
    is_open = λ rs. ap (λ (S : Sess (Ls (Known Names))). S.is_open) (listed rs) ∙ same_open p modes s n y ok on rs;
  }
    where
      listed : (rs : List Req) → before rs ≡ ruled on_session p modes s n (passed (taken p modes s n)) (no_names D) rs
      listed rs = over rs ∙ ap (λ (N : Naming Names). ruled on_session p modes s n N (no_names D) rs) (passed_are p modes s n on)

-- ---- the calls

ones_same : (room k x : ℕ) → ones_from room k x ≡ singles room k (ids_from k x)
unfolding ones_from singles ids_from
ones_same room zero x = refl
ones_same room (suc k) x = ap (λ (qs : List Req). one room x ∷ qs) (ones_same room k (suc x))

module _ (p modes : ℕ) (s : List ℕ) (n : ℕ) where
  -- plain calls carry nothing
  with_none : {c : Call} {rs : List Req} → old.After p modes s n c rs → mixed.With p modes s n c rs
  with_none (old.after_open S work text z q) = mixed.with_open S work text z q
  with_none (old.after_one c rs a text long begins id) = mixed.with_one c rs (with_none a) text (record { long = long; begins = begins }) mixed.none id (λ z. z)
  with_none (old.after_all c rs a text long begins) = mixed.with_all c rs (with_none a) text (record { long = long; begins = begins }) mixed.none (λ z. z)
  with_none (old.after_list c rs a text long begins ids) = mixed.with_list c rs (with_none a) text (record { long = long; begins = begins }) mixed.none ids (λ z. z)

  module _ {U : Type 0} (N : Naming U) (u : U) (y : Bytes s) (ok : opening_number p s n ≡ 0) (same : AlikeTo p modes s n y ok N u) where
    stands : (d : Call) (rs : List Req) → Stood p modes s n d rs → Stands on_session session_carrying p modes s n N u d rs
    stands d rs h = record {
      accepted = sym (same.is_open rs) ∙ h.accepted;
      text = h.text ∙ same.text rs;
      text_len = h.text_len ∙ ap length (same.text rs);
      defined = by_demand3 N (table_in p modes s) (described_wf p modes s n y ok) u rs;
      closed = h.closed;
    }

    carried : (c : Call) (rs : List Req) → old.After p modes s n c rs → Carried on_session session_carrying p modes s n U N u c rs
    carried c rs a = record {
      same_one = one_same;
      same_all = all_same;
      same_list = list_same;
      ended_one = one_ends;
      ended_all = all_ends;
      ended_list = list_ends;
    }
      where
        one_same : (text : List ℕ) (a : Aid) (id : ℕ) → (on_session.number (session_carrying.request a c s text id) ≡ ending a → ⊥) → session_carrying.request a c s text id ≡ on_session.request c s text id
        one_same text (ceiling k) id q = type_plain s c.session c.work text (mixed.ceiling k) id q
        one_same text (list l) id q = type_plain s c.session c.work text (mixed.list l) id q

        all_same : (text : List ℕ) (a : Aid) → (on_session.number (session_carrying.request_all a c s text) ≡ ending a → ⊥) → session_carrying.request_all a c s text ≡ on_session.request_all c s text
        all_same text (ceiling k) q = types_plain s c.session c.work text (mixed.ceiling k) q
        all_same text (list l) q = types_plain s c.session c.work text (mixed.list l) q

        list_same : (text : List ℕ) (a : Aid) (ids : List ℕ) → (on_session.number (session_carrying.request_list a c s text ids) ≡ ending a → ⊥) → session_carrying.request_list a c s text ids ≡ on_session.request_list c s text ids
        list_same text (ceiling k) ids q = list_plain s c.session c.work text (mixed.ceiling k) (ids_in ids) q
        list_same text (list l) ids q = list_plain s c.session c.work text (mixed.list l) (ids_in ids) q

        lent : (text : List ℕ) → Lent on_session c text → before_that.Lent c text
        lent text l = record { long = l.long; begins = l.begins }

        one_ends : (text : List ℕ) → Lent on_session c text → (a : Aid) (id : ℕ) → on_session.number (session_carrying.request a c s text id) ≡ ending a → Stands on_session session_carrying p modes s n N u (session_carrying.request a c s text id) rs
        one_ends text l (ceiling k) id q = stands _ rs (calls_mixed p modes s n _ _ (mixed.ended_one c rs (with_none a) text (lent text l) (mixed.ceiling k) id q))
        one_ends text l (list es) id q = stands _ rs (calls_mixed p modes s n _ _ (mixed.ended_one c rs (with_none a) text (lent text l) (mixed.list es) id q))

        some : (text : List ℕ) (d : Call) (k : ℕ) → Stood p modes s n d (rs ++ ones_from (length text) k 1) → SomeStand on_session session_carrying p modes s n N u d rs (length text)
        some text d k h = record {
          count = k;
          stands = subst (λ (qs : List Req). Stands on_session session_carrying p modes s n N u d (rs ++ qs)) (ones_same (length text) k 1) (stands d (rs ++ ones_from (length text) k 1) h);
        }

        all_ends : (text : List ℕ) → Lent on_session c text → (a : Aid) → on_session.number (session_carrying.request_all a c s text) ≡ ending a → SomeStand on_session session_carrying p modes s n N u (session_carrying.request_all a c s text) rs (length text)
        all_ends text l (ceiling k) q = some text _ _ (calls_mixed p modes s n _ _ (mixed.ended_all c rs (with_none a) text (lent text l) (mixed.ceiling k) q))
        all_ends text l (list es) q = some text _ _ (calls_mixed p modes s n _ _ (mixed.ended_all c rs (with_none a) text (lent text l) (mixed.list es) q))

        list_ends : (text : List ℕ) → Lent on_session c text → (a : Aid) (ids : List ℕ) → on_session.number (session_carrying.request_list a c s text ids) ≡ ending a
            → Stands on_session session_carrying p modes s n N u (session_carrying.request_list a c s text ids) (rs ++ singles (length text) (on_session.value (session_carrying.request_list a c s text ids)) (ids_in ids))
        list_ends text l (ceiling k) ids q =
            subst (λ (qs : List Req). Stands on_session session_carrying p modes s n N u (session_carrying.request_list (ceiling k) c s text ids) (rs ++ qs)) (singles_same (length text) _ (ids_in ids))
            (stands _ _ (calls_mixed p modes s n _ _ (mixed.ended_list c rs (with_none a) text (lent text l) (mixed.ceiling k) (ids_in ids) q)))
        list_ends text l (list es) ids q =
            subst (λ (qs : List Req). Stands on_session session_carrying p modes s n N u (session_carrying.request_list (list es) c s text ids) (rs ++ qs)) (singles_same (length text) _ (ids_in ids))
            (stands _ _ (calls_mixed p modes s n _ _ (mixed.ended_list c rs (with_none a) text (lent text l) (mixed.list es) (ids_in ids) q)))

  -- a closed session gives 11
  eleven : (c : Call) (text : List ℕ) (v : ℕ) (d : Call) → d ≡ unchanged c.session (Refused 11 v) c.work text → Eleven on_session c text v d
  unfolding number_of value_of
  eleven c text v d e = record {
    number = ap (λ (x : Call). number_of x.answer) e;
    returned = ap (λ (x : Call). value_of x.answer) e;
    untouched = record { same_record = ap (λ (x : Call). x.session) e; same_work = ap (λ (x : Call). x.work) e; same_text = ap (λ (x : Call). x.text) e };
  }

  some_ids : (ids : List ℕ) → (ids ≡ [] → ⊥) → eleven_of ids ≡ Refused 11 0
  some_ids [] q = absurd (q refl)
  some_ids (x ∷ ids) q = refl

  closed_to : (c : Call) → ClosedTo on_session session_carrying p modes s n c
  closed_to c = record { later_one = one_later; later_all = all_later; later_list = list_later }
    where
      one_later : on_session.is_open c ≡ false → (text : List ℕ) (a : Aid) (id : ℕ) → Eleven on_session c text (on_session.len c) (session_carrying.request a c s text id)
      one_later off text (ceiling k) id = eleven c text _ _ (type_shut s c.session c.work off text (mixed.ceiling k) id)
      one_later off text (list l) id = eleven c text _ _ (type_shut s c.session c.work off text (mixed.list l) id)

      all_later : on_session.is_open c ≡ false → (text : List ℕ) (a : Aid) → Eleven on_session c text (on_session.len c) (session_carrying.request_all a c s text)
      all_later off text (ceiling k) = eleven c text _ _ (types_shut s c.session c.work off text (mixed.ceiling k))
      all_later off text (list l) = eleven c text _ _ (types_shut s c.session c.work off text (mixed.list l))

      list_later : on_session.is_open c ≡ false → (text : List ℕ) (a : Aid) (ids : List ℕ) → (ids_in ids ≡ [] → ⊥) → Eleven on_session c text 0 (session_carrying.request_list a c s text ids)
      list_later off text (ceiling k) ids q = eleven c text 0 _ (list_shut s c.session c.work off text (mixed.ceiling k) (ids_in ids) ∙ ap (λ (x : Answer). unchanged c.session x c.work text) (some_ids (ids_in ids) q))
      list_later off text (list l) ids q = eleven c text 0 _ (list_shut s c.session c.work off text (mixed.list l) (ids_in ids) ∙ ap (λ (x : Answer). unchanged c.session x c.work text) (some_ids (ids_in ids) q))

  pub session_carries : Carries on_session session_carrying p modes s n
  session_carries = record {
    calls = record {
      plain = λ y off c rs a. carried naming (no_names (table_in p modes s)) y (session_sound p modes s n c rs a) (plain p modes s n y (session_sound p modes s n c rs a) off) c rs (session_after p modes s n a);
      names_apart = λ y on c rs a. carried (apart (table_in p modes s)) (none_shown (table_in p modes s)) y (session_sound p modes s n c rs a) (names_apart p modes s n y (session_sound p modes s n c rs a) on) c rs (session_after p modes s n a);
    };
    closed = closed_to;
  }
