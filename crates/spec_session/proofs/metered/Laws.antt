-- One request under a ceiling, by whether its calls fit; and the steps of a list. Assumes nothing.
use Prim.Native.Nat.{ℕ, zero, suc, ◌+◌, ◌<◌, ◌≤◌}
use mathlib.Core.Path.{◌≡◌, refl}
use mathlib.Core.List.{List}
use lib.ListN.{take}
use borrow.Author.Tests.{le-leb, lt-leb}
use Rattle.spec_type_table.specs.declared.types.TypeTable.{TypeTable}
use Rattle.spec_session.specs.session.Answers.{number_of, answer_of}
use Rattle.spec_session.specs.session.Turns.{call_of, refused_by}
use Rattle.spec_session.specs.calls.Calls.{requested}
use Rattle.spec_session.specs.metered.Metered.{calls_in}
use Rattle.spec_session.specs.metered.Within.{requested_within, CallWithin}
use Rattle.spec_session.specs.metered.Lists.{counted_within}

module _ (c : ℕ) (b : TypeTable) (s : List ℕ) (id len v : ℕ) (w t : List ℕ) (k : ℕ) where
  pub request_fits : k + calls_in b s w id ≤ c → requested_within c b s id len v w t k ≡ record { reach = requested b s id len v w t; made = k + calls_in b s w id }
  unfolding requested_within
  request_fits l = rw (le-leb (k + calls_in b s w id) c l, requested_within)

  pub request_over : c < k + calls_in b s w id → requested_within c b s id len v w t k ≡ record { reach = refused_by 22 len v (take len t); made = c }
  unfolding requested_within
  request_over l = rw (lt-leb (k + calls_in b s w id) c l, requested_within)

pub counted_goes : (n : ℕ) (d : CallWithin) (f : CallWithin → CallWithin) → number_of d.call.answer ≡ 0 → counted_within n d f ≡ f d
unfolding counted_within
counted_goes n d f e = rw (e, counted_within)

pub counted_stops : (n m : ℕ) (d : CallWithin) (f : CallWithin → CallWithin) → number_of d.call.answer ≡ m → (m ≡ 0 → ⊥)
    → counted_within n d f ≡ record { call = call_of d.call.session (answer_of m n) d.call.work d.call.text; made = d.made }
unfolding counted_within
counted_stops n zero d f e h = absurd (h refl)
counted_stops n (suc m) d f e h = rw (e, counted_within)
