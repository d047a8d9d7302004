-- The setting for arrays behind pointers, in the calls of a session. Demand 3 (Demands.antt) is proved for all modes, so for both settings.
use Prim.Native.Nat.{ℕ, ◌/◌, ◌%◌, ◌<◌}
use mathlib.Core.Path.{◌≡◌, refl, ◌∙◌}
use mathlib.Core.Bool.{true}
use mathlib.Core.List.{List, Memᴰ}
use lib.ListN.{length}
use lib.Dec.{eqb}
use borrow.Author.Tests.{eq-eqb}
use Rattle.spec_c_dumper.specs.rules.Order.{ptr, through, refused}
use Rattle.spec_c_dumper.specs.rules.Machine.{Req, ordering}
use Rattle.spec_type_table.specs.Table.{btf_of}
use Rattle.btf_open_causes.specs.header.Header.{btf_of as settings_of}
use Rattle.spec_session.specs.session.Answers.{number_of}
use Rattle.spec_session.specs.session.Turns.{Call}
use Rattle.spec_session.specs.calls.Calls.{type_call}
use Rattle.spec_c_dumper.specs.needs.Needs.{kids, NamedComp}
use Rattle.spec_c_dumper.proofs.needs.Arrays.{array_of_itself}
use Rattle.proof_demands.specs.demands.Table.{machine_in}
use Rattle.proof_demands.specs.demands.Session.{After}
use Rattle.proof_demands.specs.demands.Demands.{Lent, types_in, ruled}
use Rattle.proof_demands.proofs.demands.Demands.{delivered}

module _ (p modes : ℕ) (s : List ℕ) (n : ℕ) where
  -- the setting is bit 1 of the modes at opening
  pub setting_is : (types_in p modes s n).strong_arrays ≡ eqb (modes / 2 % 2) 1
  unfolding btf_of settings_of
  setting_is = refl

  -- "a struct with a pointer to an array of itself is now a cycle": while the session is open, the next request for the named composite id,
  -- with a member of type m, a pointer to that array, is refused by 13, unless it is too deep
  pub array_of_itself_call : modes / 2 % 2 ≡ 1 → (c : Call) (rs : List Req) → After p modes s n c rs → c.session.«open» ≡ true → (text : List ℕ) → Lent c text
      → (id m array : ℕ) → id < (types_in p modes s n).count → NamedComp (types_in p modes s n) id → Memᴰ m (kids ((types_in p modes s n).node id))
      → (types_in p modes s n).node m ≡ ptr array → (types_in p modes s n).node array ≡ through true id
      → (ordering (machine_in p modes s n) (types_in p modes s n) (length text) (ruled p modes s n rs) id ≡ refused 12 → ⊥)
      → number_of (type_call c.session s c.work text id).answer ≡ 13
  array_of_itself_call on c rs a o text l id m array below named member to_array to_itself deep =
      (((delivered p modes s n).demand3 c rs a).cycles o text l id below named deep).1
      (array_of_itself (types_in p modes s n) id m array (setting_is ∙ eq-eqb (modes / 2 % 2) 1 on) named.0 member to_array to_itself)
