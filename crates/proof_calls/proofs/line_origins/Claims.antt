-- THE THEOREM: number, count and list of a call that is lent a list are those of the rules with entries. Assumes nothing.
use Prim.Native.Nat.{ℕ, ◌+◌}
use mathlib.Core.Path.{◌≡◌, refl}
use mathlib.Core.List.{List}
use native.Mathlib.Omega.{arith}
use lib.ListN.{length}
use Rattle.spec_c_dumper.specs.rules.Machine.{Req, Sess}
use Rattle.spec_c_dumper.specs.rules.Names.{Names}
use Rattle.spec_opening.specs.Causes.{opening_number}
use Rattle.spec_session.specs.session.Answers.{value_of}
use Rattle.spec_session.specs.session.Turns.{Call}
use Rattle.spec_c_dumper.specs.needs.Lists.{Ls}
use Rattle.spec_c_dumper.specs.needs.Session.{Known}
use Rattle.proof_demands.specs.demands.Table.{opened_table, machine_in}
use Rattle.proof_demands.specs.demands.Session.{After, Holds, Tells}
use Rattle.proof_demands.specs.demands.Demands.{Lent, types_in, ruled}
use Rattle.proof_demands.proofs.demands.Demands.{after_sound}
use Rattle.proof_demands.proofs.demands.Session.{after_holds}
use Rattle.spec_c_dumper.specs.origins.Causes.{up_to, shows_in, entries_in, untold, single_traced, list_traced, every_traced, causes_of, one_causes, list_causes, all_causes}
use Rattle.spec_session.specs.origin_calls.Bytes.{type_causes, types_causes}
use Rattle.spec_session.specs.origin_calls.Several.{list_from_causes, list_causes_call}
use Rattle.proof_calls.specs.line_origins.Claims.{Agrees, one_ruled, all_ruled, list_ruled, Reasoned}
use Rattle.proof_calls.proofs.line_origins.Calls.{Stepped, agrees, type_stepped, types_stepped}
use Rattle.proof_calls.proofs.line_origins.Lists.{Went, list_went}

module _ (p modes : ℕ) (s : List ℕ) (n : ℕ) (c : Call) (rs : List Req) (a : After p modes s n c rs) (text : List ℕ) (lent : Lent c text) (l : List ℕ) where
  ok : opening_number p s n ≡ 0
  ok = after_sound p modes s n a

  abbrev L : Sess (Ls (Known Names))
  L = ruled p modes s n rs

  holds : Holds p modes s n c.session c.work c.text L
  holds = after_holds p modes s n ok a

  one : (id : ℕ) → Stepped p modes s n ok (length text) (untold L) l (type_causes c.session s c.work text id l) (single_traced (machine_in p modes s n) (types_in p modes s n) (up_to (entries_in l)) (shows_in (opened_table p modes s n)) (length text) id (untold L))
  one id = type_stepped p modes s n ok c.session c.work c.text (untold L) holds text lent.long lent.begins id l (entries_in l) (omega arith)

  one_agrees : (id : ℕ) → Agrees (type_causes c.session s c.work text id l) (one_ruled p modes s n l (length text) rs id)
  unfolding one_causes
  one_agrees id =
      agrees p modes s n ok l (type_causes c.session s c.work text id l) (single_traced (machine_in p modes s n) (types_in p modes s n) (up_to (entries_in l)) (shows_in (opened_table p modes s n)) (length text) id (untold L))
      (one id).fresh (one id).keeps.holds (one id).keeps.tells.number (one id).its_entries (one id).its_count (one id).listing

  one_tells : (id : ℕ) → Tells (length text) (type_causes c.session s c.work text id l).call (one_ruled p modes s n l (length text) rs id).answer
  unfolding one_causes causes_of
  one_tells id = (one id).keeps.tells

  every : Stepped p modes s n ok (length text) (untold L) l (types_causes c.session s c.work text l) (every_traced (machine_in p modes s n) (types_in p modes s n) (up_to (entries_in l)) (shows_in (opened_table p modes s n)) (length text) L L.is_open)
  every = types_stepped p modes s n ok c.session c.work c.text (untold L) holds text lent.long lent.begins l

  all_agree : Agrees (types_causes c.session s c.work text l) (all_ruled p modes s n l (length text) rs)
  unfolding all_causes
  all_agree =
      agrees p modes s n ok l (types_causes c.session s c.work text l) (every_traced (machine_in p modes s n) (types_in p modes s n) (up_to (entries_in l)) (shows_in (opened_table p modes s n)) (length text) L L.is_open)
      every.fresh every.keeps.holds every.keeps.tells.number every.its_entries every.its_count every.listing

  all_tell : Tells (length text) (types_causes c.session s c.work text l).call (all_ruled p modes s n l (length text) rs).answer
  unfolding all_causes causes_of
  all_tell = every.keeps.tells

  some : (ids : List ℕ) → Went p modes s n ok 0 (untold L) l (list_from_causes 0 c.session s c.work text l ids) (list_traced (machine_in p modes s n) (types_in p modes s n) (up_to (entries_in l)) (shows_in (opened_table p modes s n)) (length text) ids (untold L))
  some ids = list_went p modes s n ok ids 0 c.session c.work c.text (untold L) holds refl text lent.long lent.begins l (entries_in l) (omega arith)

  list_agrees : (ids : List ℕ) → Agrees (list_causes_call c.session s c.work text ids l) (list_ruled p modes s n l (length text) rs ids)
  unfolding list_causes_call list_causes
  list_agrees ids =
      agrees p modes s n ok l (list_from_causes 0 c.session s c.work text l ids) (list_traced (machine_in p modes s n) (types_in p modes s n) (up_to (entries_in l)) (shows_in (opened_table p modes s n)) (length text) ids (untold L))
      (some ids).fresh (some ids).holds (some ids).its_number (some ids).its_entries (some ids).its_count (some ids).listing

  list_counts : (ids : List ℕ) → length L.asked + value_of (list_causes_call c.session s c.work text ids l).call.answer ≡ length (list_ruled p modes s n l (length text) rs ids).answer.sess.asked
  unfolding list_causes_call list_causes causes_of
  list_counts ids = omega (arith, (some ids).its_value)

pub calls_reasoned : (p modes : ℕ) (s : List ℕ) (n : ℕ) → Reasoned p modes s n
calls_reasoned p modes s n = record {
  type = λ c rs a text lent id l. one_agrees p modes s n c rs a text lent l id;
  type_text = λ c rs a text lent id l. one_tells p modes s n c rs a text lent l id;
  types = λ c rs a text lent l. all_agree p modes s n c rs a text lent l;
  types_text = λ c rs a text lent l. all_tell p modes s n c rs a text lent l;
  list = λ c rs a text lent ids l. list_agrees p modes s n c rs a text lent l ids;
  list_value = λ c rs a text lent ids l. list_counts p modes s n c rs a text lent l ids;
}
