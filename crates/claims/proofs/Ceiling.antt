-- Ask 13, the count: that of the rules over the types that the section describes. Assumes nothing but that opening accepts the section, and that the section is
-- bytes.
use Prim.Native.Nat.{ℕ, ◌+◌, ◌/◌, ◌%◌, ◌<◌}
use native.Mathlib.Omega.{arith}
use mathlib.Core.Path.{◌≡◌, refl, ap, ◌∙◌, sym, subst}
use mathlib.Core.Bool.{true, false}
use mathlib.Core.List.Memᴰ
use mathlib.Core.List.{List, []}
use lib.ListN.{length, take, replicate}
use lib.Dec.{ltb}
use borrow.Author.Tests.{lt-ltb}
use Rattle.spec_linux_btf.specs.Reading.{Bytes}
use Rattle.spec_c_dumper.specs.rules.Types.{Btf, table_of}
use Rattle.spec_c_dumper.specs.rules.Names.{Naming, Names, naming}
use Rattle.spec_c_dumper.specs.rules.Machine.{OrderKeeps, Req, run}
use Rattle.spec_c_dumper.specs.needs.Lists.{afresh}
use Rattle.spec_c_dumper.specs.needs.Session.{machine_by, no_names}
use Rattle.spec_c_dumper.proofs.needs.Lists.{Sized}
use Rattle.spec_c_dumper.proofs.needs.Session.{machine_lawful}
use Rattle.spec_c_dumper.specs.names_apart.Apart.{apart, none_shown}
use Rattle.spec_opening.specs.Causes.{opening_number}
use Rattle.spec_opening.specs.Described.{table_in}
use Rattle.spec_session.specs.session.Answers.{number_of}
use Rattle.spec_session.specs.session.Turns.{Call, is_current, table_for}
use Rattle.spec_session.specs.metered.Metered.{calls_in}
use Rattle.spec_session.specs.metered.Within.{CallWithin, requested_within, settled_within, type_call_within}
use Rattle.spec_session.proofs.metered.Laws.{request_fits}
use Rattle.spec_session.proofs.metered.Claims.{settled_22, type_22}
use Rattle.proof_demands.specs.name_counts.Passed.{passed}
use Rattle.proof_demands.specs.demands.Table.{names_in}
use Rattle.proof_demands.specs.demands.Session as old
use Rattle.proof_demands.specs.demands.Demands as before_that
use Rattle.proof_demands.proofs.demands.Session.{after_holds, current, types_is}
use Rattle.proof_calls.proofs.ceilings.Count.{calls_alike, calls_told}
use Rattle.proof_calls.proofs.described.Table.{count_list, over_described, described_wf}
use Rattle.claims.specs.Calls.{Lent}
use Rattle.claims.specs.Demands.{ruled, InBothModes}
use Rattle.claims.specs.Request13_ceiling.{calls_for, CallsMade}
use Rattle.claims.specs.Ours.{on_session}
use Rattle.claims.proofs.Names.{plain_are, passed_are, taken}
use Rattle.claims.proofs.Demands.{session_after, session_sound}
use Rattle.claims.proofs.Origins.{Near, names_near, sessions}

module _ (p modes : ℕ) (s : List ℕ) (n : ℕ) (ok : opening_number p s n ≡ 0) (c : Call) (rs : List Req) (a : old.After p modes s n c rs) (y : Bytes s) where
  abbrev D : Btf
  D = table_in p modes s

  -- what the work counts is what the rules count
  abbrev Tells : {U : Type 0} → Naming U → U → Type 0
  Tells N u =
      c.session.«open» ≡ true → (text : List ℕ) → Lent on_session c text → (id : ℕ) → id < D.type_cnt
      → calls_in (table_for c.session s) s c.work id ≡ calls_for (machine_by N D) (table_of D) (length text) (ruled on_session p modes s n N u rs) id

  h : old.Holds p modes s n c.session c.work c.text (before_that.ruled p modes s n rs)
  h = after_holds p modes s n ok a

  over : Tells (names_in p modes s n) (no_names D)
  over o text l id q =
      over_described p modes s n y ok (names_in p modes s n)
      (λ X T m. calls_in (table_for c.session s) s c.work id
      ≡ calls_for X T (length text) (run X T rs (record { is_open = true; mach = afresh m (record { names = record { versions = replicate m 0; ledger = [] }; text_len = 0 }); asked = [] })) id)
      (calls_told p modes s n ok c.session c.work c.text (before_that.ruled p modes s n rs) h text l.long l.begins (sym h.is_open ∙ o) id (subst (λ (k : ℕ). id < k) (sym (count_list p modes s n y ok)) q))

  plain : modes / 8 % 2 ≡ 0 → Tells naming (no_names D)
  plain off = subst (λ (N : Naming Names). Tells N (no_names D)) (plain_are p modes s n off) over

  names_apart : modes / 8 % 2 ≡ 1 → Tells (apart D) (none_shown D)
  names_apart on o text l id q =
      let L : Naming Names = passed (taken p modes s n) in
      subst (λ (N : Naming Names). Tells N (no_names D)) (passed_are p modes s n on) over o text l id q
      ∙ sym (calls_alike (machine_by (apart D) D).store (machine_by L D).store (table_of D) (Sized D.type_cnt) (machine_lawful L D D.type_cnt).law (OrderKeeps (machine_by L D) (Sized D.type_cnt)) (machine_lawful L D D.type_cnt).framed
      (described_wf p modes s n y ok).below (Near p modes s n c rs a y ok on) (names_near p modes s n c rs a y ok on).a_store 512
      ((machine_by (apart D) D).start (length text) (ruled on_session p modes s n (apart D) (none_shown D) rs).mach) ((machine_by L D).start (length text) (ruled on_session p modes s n L (no_names D) rs).mach) id false
      (record {
        related = (names_near p modes s n c rs a y ok on).a_start (length text) _ _ (sessions p modes s n c rs a y ok on).alike;
        room = omega arith;
        ids = λ z m. absurd (Memᴰ.not-nil m);
      }) q)

  module _ {U : Type 0} (N : Naming U) (u : U) (tells : Tells N u) where
    counted : CallsMade p modes s n U N u c rs
    unfolding type_call_within settled_within
    counted = record {
      made = λ o text l k id q fits.
          let e = now o text l in
          let f = inside id q in
          let t = tells o text l id q in
          let on : type_call_within k c.session s c.work text id 0 ≡ settled_within c.session (length c.work) (length text) (requested_within k (table_for c.session s) s id c.session.text_len c.session.visits c.work text 0) = rw (e, type_call_within, f) in
          ap (λ (d : CallWithin). d.made) (on ∙ ap (settled_within c.session (length c.work) (length text)) (request_fits k (table_for c.session s) s id c.session.text_len c.session.visits c.work text 0 (omega (arith, t, fits))))
          ∙ zeroed
          ∙ t;
      over = λ o text l k id q more.
          let t = tells o text l id q in
          let d = type_22 c.session s c.work text k id 0 (now o text l) (inside id q) (omega (arith, t, more)) in
          (ap (λ (x : CallWithin). number_of x.call.answer) d ∙ settled_22 c.session (length c.work) (length text) c.session.text_len c.session.visits (take c.session.text_len text), ap (λ (x : CallWithin). x.made) d);
    }
      where
        now : c.session.«open» ≡ true → (text : List ℕ) → Lent on_session c text → is_current c.session (length s) (length c.work) (length text) ≡ true
        now o text l = current p modes s n ok c.session c.work c.text (before_that.ruled p modes s n rs) h text l.long l.begins (sym h.is_open ∙ o)

        inside : (id : ℕ) → id < D.type_cnt → ltb id c.session.types ≡ true
        inside id q = lt-ltb id c.session.types (omega (arith, q, types_is p modes s n ok c.session c.work c.text (before_that.ruled p modes s n rs) h c.text h.fits refl, count_list p modes s n y ok))

        zeroed : {k : ℕ} → 0 + k ≡ k
        zeroed {k} = omega arith

pub session_counted : (p modes : ℕ) (s : List ℕ) (n : ℕ) → InBothModes on_session p modes s n (CallsMade p modes s n)
session_counted p modes s n = record {
  plain = λ y off c rs a.
      let ok = session_sound p modes s n c rs a in
      let b = session_after p modes s n a in
      counted p modes s n ok c rs b y naming (no_names (table_in p modes s)) (plain p modes s n ok c rs b y off);
  names_apart = λ y on c rs a.
      let ok = session_sound p modes s n c rs a in
      let b = session_after p modes s n a in
      counted p modes s n ok c rs b y (apart (table_in p modes s)) (none_shown (table_in p modes s)) (names_apart p modes s n ok c rs b y on);
}
