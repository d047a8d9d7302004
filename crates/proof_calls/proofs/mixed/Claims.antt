-- THE THEOREM: the claims of specs/Claims hold. Assumes nothing.
use Prim.Native.Nat.{ℕ, zero-le, ◌-◌}
use mathlib.Core.Path.{◌≡◌, ap, ◌∙◌, sym, subst}
use mathlib.Core.List.{List}
use native.Mathlib.Omega.{arith}
use lib.ListN.{length}
use lib.Seq.{length-take-le}
use Rattle.spec_c_dumper.specs.rules.Machine.{Sess, Req, run}
use Rattle.spec_c_dumper.specs.rules.Names.{Names}
use Rattle.spec_opening.specs.Causes.{opening_number}
use Rattle.spec_session.specs.session.Answers.{value_of}
use Rattle.spec_session.specs.session.Turns.{Call}
use Rattle.spec_session.specs.metered.Lists.{list_call_within}
use Rattle.spec_c_dumper.specs.needs.Lists.{Ls}
use Rattle.spec_c_dumper.specs.needs.Session.{Known}
use Rattle.proof_demands.specs.demands.Table.{machine_in}
use Rattle.proof_demands.specs.demands.Session.{Holds, singles_for}
use Rattle.proof_demands.specs.demands.Demands.{Lent, types_in, ruled}
use Rattle.proof_demands.proofs.demands.Session.{after_holds, run_then}
use Rattle.proof_demands.proofs.demands.Demands.{after_sound}
use Rattle.proof_calls.specs.ceilings.Ceilings.{ones_from}
use Rattle.proof_calls.proofs.ceilings.Shut.{Shut, one_shut, all_shut, list_over}
use Rattle.proof_calls.specs.mixed.Mixed.{Aid, none, ceiling, list, type_with, types_with, list_with, Stops, accepted_with, With, Ended, ended_one, ended_all, ended_list}
use Rattle.proof_calls.specs.mixed.Claims.{Stands, Mixed}
use Rattle.proof_calls.proofs.mixed.Plain.{with_plain}
use Rattle.proof_calls.proofs.mixed.Short.{one_short, all_short, list_short}

module _ (p modes : ℕ) (s : List ℕ) (n : ℕ) where
  -- ---- one was ended
  with_sound : {c : Call} {rs : List Req} → With p modes s n c rs → opening_number p s n ≡ 0
  with_sound u = after_sound p modes s n (with_plain p modes s n u)

  ended_sound : {c : Call} {rs : List Req} → Ended p modes s n c rs → opening_number p s n ≡ 0
  ended_sound (ended_one c rs u text l a id o) = with_sound u
  ended_sound (ended_all c rs u text l a o) = with_sound u
  ended_sound (ended_list c rs u text l a ids o) = with_sound u

  module _ (ok : opening_number p s n ≡ 0) where
    abbrev runs : List Req → Sess (Ls (Known Names)) → Sess (Ls (Known Names))
    runs rs L = run (machine_in p modes s n) (types_in p modes s n) rs L

    abbrev After' : Call → List Req → Type 0
    After' c rs = Holds p modes s n c.session c.work c.text (ruled p modes s n rs)

    one_ends : (c : Call) (rs : List Req) → After' c rs → (text : List ℕ) → Lent c text → (a : Aid) (id : ℕ) → Stops a (type_with a c.session s c.work text id)
        → Shut (type_with a c.session s c.work text id).session (type_with a c.session s c.work text id).text (ruled p modes s n rs)
    one_ends c rs h text l none id o = absurd o
    one_ends c rs h text l (ceiling k) id o = one_shut p modes s n ok k c.session c.work c.text (ruled p modes s n rs) h text l.long l.begins id 0 o
    one_ends c rs h text l (list es) id o = one_short p modes s n ok c rs h text l es id o

    all_ends : (c : Call) (rs : List Req) → After' c rs → (text : List ℕ) → Lent c text → (a : Aid) → Stops a (types_with a c.session s c.work text)
        → Shut (types_with a c.session s c.work text).session (types_with a c.session s c.work text).text (runs (ones_from (length text) (accepted_with p modes s n a c rs text) 1) (ruled p modes s n rs))
    all_ends c rs h text l none o = absurd o
    all_ends c rs h text l (ceiling k) o = all_shut p modes s n ok k c.session c.work c.text (ruled p modes s n rs) h text l.long l.begins o
    all_ends c rs h text l (list es) o = all_short p modes s n ok c rs h text l es o

    list_ends : (c : Call) (rs : List Req) → After' c rs → (text : List ℕ) → Lent c text → (a : Aid) (ids : List ℕ) → Stops a (list_with a c.session s c.work text ids)
        → Shut (list_with a c.session s c.work text ids).session (list_with a c.session s c.work text ids).text (runs (singles_for (length text) (value_of (list_with a c.session s c.work text ids).answer) ids) (ruled p modes s n rs))
    unfolding list_call_within
    list_ends c rs h text l none ids o = absurd o
    list_ends c rs h text l (ceiling k) ids o =
        let y : Call = (list_call_within k c.session s c.work text ids).call in
        let z : value_of y.answer - 0 ≡ value_of y.answer = omega arith in
        subst (λ (j : ℕ). Shut y.session y.text (runs (singles_for (length text) j ids) (ruled p modes s n rs))) z
        (list_over p modes s n ok k ids 0 c.session c.work c.text (ruled p modes s n rs) h text l.long l.begins 0 zero-le o).1
    list_ends c rs h text l (list es) ids o = list_short p modes s n ok c rs h text l es ids o

    holds : {c : Call} {rs : List Req} → With p modes s n c rs → After' c rs
    holds u = after_holds p modes s n ok (with_plain p modes s n u)

    ended_shut : {c : Call} {rs : List Req} → Ended p modes s n c rs → Shut c.session c.text (ruled p modes s n rs)
    ended_shut (ended_one c rs u text l a id o) = one_ends c rs (holds u) text l a id o
    ended_shut (ended_all c rs u text l a o) =
        let y : Call = types_with a c.session s c.work text in
        subst (λ (L : Sess (Ls (Known Names))). Shut y.session y.text L) (sym (run_then p modes s n ok rs (ones_from (length text) (accepted_with p modes s n a c rs text) 1) _)) (all_ends c rs (holds u) text l a o)
    ended_shut (ended_list c rs u text l a ids o) =
        let y : Call = list_with a c.session s c.work text ids in
        subst (λ (L : Sess (Ls (Known Names))). Shut y.session y.text L) (sym (run_then p modes s n ok rs (singles_for (length text) (value_of y.answer) ids) _)) (list_ends c rs (holds u) text l a ids o)

  stands : (c : Call) (rs : List Req) → Ended p modes s n c rs → Stands p modes s n c rs
  stands c rs d =
      let h : Shut c.session c.text (ruled p modes s n rs) = ended_shut (ended_sound d) d in
      record {
        text = h.its_text;
        text_len = sym (length-take-le c.session.text_len c.text h.fits) ∙ ap length h.its_text;
        accepted = h.running;
        closed = h.closed;
      }

pub calls_mixed : (p modes : ℕ) (s : List ℕ) (n : ℕ) → Mixed p modes s n
calls_mixed p modes s n = stands p modes s n
