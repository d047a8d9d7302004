-- THE THEOREM: demands 2 and 3 hold of the calls of a session, whatever the section that opening accepts, the requests and the slices.
-- Assumes nothing.
use Prim.Native.Nat.{ℕ}
use mathlib.Core.Path.{◌≡◌, refl, ap, ◌∙◌, sym, subst}
use mathlib.Core.Bool.{Bool, true, false}
use mathlib.Core.List.{List}
use mathlib.Core.Logic.{◌↔◌}
use lib.ListN.{length}
use lib.Dec.{eqb}
use lib.Seq.{length-take-le}
use borrow.Author.Tests.{eqb-true}
use Rattle.spec_c_dumper.specs.rules.Machine.{Req}
use Rattle.spec_opening.specs.Table.{types_of}
use Rattle.spec_opening.specs.Causes.{opening_number}
use Rattle.spec_session.specs.declared.session.Session.{Session}
use Rattle.spec_session.specs.session.Answers.{number_of}
use Rattle.spec_session.specs.session.Turns.{Call}
use Rattle.spec_session.specs.calls.Calls.{opened_call, open_call}
use Rattle.spec_session.proofs.calls.Laws.{opens_sound, opens_refused}
use Rattle.spec_session.proofs.calls.Claims.{number_is}
use Rattle.spec_c_dumper.specs.needs.Needs.{MeetsTwice}
use Rattle.spec_c_dumper.specs.needs.Session.{no_names}
use Rattle.spec_c_dumper.proofs.needs.Bodies.{pieces_are}
use Rattle.proof_demands.specs.demands.Table.{opened_table, names_in}
use Rattle.proof_demands.specs.demands.Session.{Holds, After, after_open, after_one, after_all, after_list}
use Rattle.proof_demands.specs.demands.Demands.{types_in, ruled, Demand2, Demand3Calls, Twice, Delivered}
use Rattle.proof_demands.proofs.demands.Claims.{opening_gives}
use Rattle.proof_demands.proofs.demands.Session.{type_keeps, types_keeps, after_holds}
use Rattle.proof_demands.proofs.demands.Again.{adds_nothing, list_adds_nothing}

-- the number of the opening is that of the first cause that holds, and 0 where none does
pub open_number : (S : Session) (s work text : List ℕ) (p modes : ℕ) → number_of (open_call S s work text p modes).answer ≡ opening_number p s (length work)
unfolding open_call opened_call
open_number S s work text p modes = by (eqb (opening_number p s (length work)) 0) refl
  where
    by : (o : Bool) → eqb (opening_number p s (length work)) 0 ≡ o → number_of (open_call S s work text p modes).answer ≡ opening_number p s (length work)
    by true q =
        ap (λ (z : _). number_of (opened_call S (length s) (length work) p modes z).answer) (opens_sound p modes s work text q)
        ∙ number_is 0 (types_of s)
        ∙ sym (eqb-true (opening_number p s (length work)) 0 q)
    by false q =
        ap (λ (z : _). number_of (opened_call S (length s) (length work) p modes z).answer) (opens_refused p modes s work text q)
        ∙ number_is (opening_number p s (length work)) 0

module _ (p modes : ℕ) (s : List ℕ) (n : ℕ) (ok : opening_number p s n ≡ 0) (c : Call) (rs : List Req) (a : After p modes s n c rs) where
  holds : Holds p modes s n c.session c.work c.text (ruled p modes s n rs)
  holds = after_holds p modes s n ok a

  after_demand2 : Demand2 p modes s n c rs
  after_demand2 = record {
    text = holds.its_text;
    text_len = sym (length-take-le c.session.text_len c.text holds.fits) ∙ ap length holds.its_text;
    is_open = holds.is_open;
    next_type = λ text l id. (type_keeps p modes s n ok c.session c.work c.text (ruled p modes s n rs) holds text l.long l.begins id).tells;
    next_types = λ text l. (types_keeps p modes s n ok c.session c.work c.text (ruled p modes s n rs) holds text l.long l.begins).tells;
  }

  after_demand3 : Demand3Calls p modes s n c rs
  after_demand3 = record {
    text = holds.its_text;
    pieces = (opening_gives p modes s n ok).demand3 rs;
    bodies = pieces_are (names_in p modes s n) (opened_table p modes s n) (no_names (opened_table p modes s n)) rs;
    cycles = λ o text l id below named deep.
        subst (λ (k : ℕ). (k ≡ 13) ↔ MeetsTwice (types_in p modes s n) id) (sym (after_demand2.next_type text l id).number)
        (((opening_gives p modes s n ok).demand3 rs).cycles (sym holds.is_open ∙ o) (length text) id below named deep);
  }

-- the opening that a list starts at was accepted
pub after_sound : (p modes : ℕ) (s : List ℕ) (n : ℕ) {c : Call} {rs : List Req} → After p modes s n c rs → opening_number p s n ≡ 0
after_sound p modes s n (after_open S work text z q) = ap (opening_number p s) (sym z) ∙ sym (open_number S s work text p modes) ∙ q
after_sound p modes s n (after_one c rs a text f same id) = after_sound p modes s n a
after_sound p modes s n (after_all c rs a text f same) = after_sound p modes s n a
after_sound p modes s n (after_list c rs a text f same ids) = after_sound p modes s n a

after_twice : (p modes : ℕ) (s : List ℕ) (n : ℕ) → opening_number p s n ≡ 0 → (c : Call) (rs : List Req) → After p modes s n c rs → Twice p modes s n c rs
after_twice p modes s n ok c rs a = record {
  single_again = λ o x k text l. adds_nothing p modes s n ok c rs a (after_demand2 p modes s n ok c rs a) o x k text l;
  list_again = λ o text l xs x m e. list_adds_nothing p modes s n ok c rs a o text l xs x m e (λ c' rs' a'. after_demand2 p modes s n ok c' rs' a');
}

pub delivered : (p modes : ℕ) (s : List ℕ) (n : ℕ) → Delivered p modes s n
delivered p modes s n = record {
  demand2 = λ c rs a. after_demand2 p modes s n (after_sound p modes s n a) c rs a;
  demand3 = λ c rs a. after_demand3 p modes s n (after_sound p modes s n a) c rs a;
  twice = λ c rs a. after_twice p modes s n (after_sound p modes s n a) c rs a;
}
