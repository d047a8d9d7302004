-- What a request leaves fits in the words of the record: the visits have 32 bits, and the value is the text length. Assumes nothing.
use Prim.Native.Nat.{ℕ, zero, suc, ◌-◌, ◌<◌}
use mathlib.Core.Path.{◌≡◌, refl, sym, subst}
use mathlib.Core.Bool.{Bool, true, false}
use mathlib.Core.List.{List}
use native.Mathlib.Omega.{arith}
use lib.ListN.{length}
use Rattle.spec_type_table.specs.declared.types.TypeTable.{TypeTable}
use Rattle.spec_session.specs.declared.session.Session.{Session}
use Rattle.spec_session.specs.session.Answers.{number_of, value_of, answer_of}
use Rattle.spec_session.specs.session.Turns.{Call, is_current, Reach, reached, refused_by, visits_in, settled, table_for}
use Rattle.spec_session.proofs.session.Laws.{visits_fit}
use Rattle.spec_session.specs.calls.Calls.{requested, onward, requested_from, type_call, types_call}
use Rattle.spec_session.proofs.calls.Claims.{Visited, went, stayed, request_counts, types_settle, types_current, types_not_current}
use Rattle.spec_session.proofs.calls.Lists.{type_single, settled_formed}

-- ---- the visits
data Few : Reach → Type 0 where
  gone_on : (len : ℕ) (w t : List ℕ) → Few (reached len w t)
  ended_by : (c len v : ℕ) (t : List ℕ) → v < 4294967296 → Few (refused_by c len v t)

visited_few : (v : ℕ) → v < 4294967296 → (r : Reach) → Visited v r → Few r
visited_few v l _ (went len w t) = gone_on len w t
visited_few v l _ (stayed c len t q) = ended_by c len v t l

onward_few : (r : Reach) (k : ℕ → List ℕ → List ℕ → Reach) → Few r → ((len : ℕ) (w t : List ℕ) → Few (k len w t)) → Few (onward r k)
unfolding onward
onward_few _ k (gone_on len w t) h = h len w t
onward_few _ k (ended_by c len v t l) h = ended_by c len v t l

from_few : (b : TypeTable) (s : List ℕ) (count id len : ℕ) (w t : List ℕ) → Few (requested_from b s count id len w t)
unfolding requested_from
from_few b s zero id len w t = gone_on len w t
from_few b s (suc count) id len w t =
    onward_few (requested b s id len (visits_in w) w t) (requested_from b s count (suc id)) (visited_few (visits_in w) (visits_fit w) _ (request_counts b s id len (visits_in w) w t))
    (λ len' w' t'. from_few b s count (suc id) len' w' t')

settled_few : (S : Session) (wn tn : ℕ) (r : Reach) → Few r → (settled S wn tn r).session.visits < 4294967296
unfolding settled
settled_few S wn tn _ (gone_on len w t) = visits_fit w
settled_few S wn tn _ (ended_by c len v t l) = l

-- ---- the answer has its own number and value, and no number 0 beside a refusal
-- ---- of a request for one id, and for all
pub record Fit (c : Call) : Type 0 where
  pub few : c.session.visits < 4294967296
  pub formed : c.answer ≡ answer_of (number_of c.answer) (value_of c.answer)
  pub value_same : value_of c.answer ≡ c.session.text_len

module _ (S : Session) (section w t : List ℕ) (few : S.visits < 4294967296) where
  pub type_fit : (id : ℕ) → Fit (type_call S section w t id)
  type_fit id = record { few = go (number_of (type_call S section w t id).answer) refl; formed = (type_single S section w t id).formed; value_same = (type_single S section w t id).value_same }
    where
      go : (m : ℕ) → number_of (type_call S section w t id).answer ≡ m → (type_call S section w t id).session.visits < 4294967296
      go zero e = subst (λ (k : ℕ). k < 4294967296) (sym ((type_single S section w t id).counts e)) (visits_fit (type_call S section w t id).work)
      go (suc m) e = subst (λ (k : ℕ). k < 4294967296) (sym ((type_single S section w t id).leaves (λ z. absurd (omega arith)))) few

  pub types_fit : Fit (types_call S section w t)
  unfolding number_of value_of answer_of
  types_fit = go (is_current S (length section) (length w) (length t)) refl
    where
      go : (q : Bool) → is_current S (length section) (length w) (length t) ≡ q → Fit (types_call S section w t)
      go false e = subst Fit (sym (types_not_current S section w t e)) (record { few = few; formed = refl; value_same = refl })
      go true e = record {
        few =
            subst (λ (c : Call). c.session.visits < 4294967296) (sym (types_settle S section w t e))
            (settled_few S (length w) (length t) _ (from_few (table_for S section) section ((table_for S section).types - 1) 1 S.text_len w t));
        formed = subst (λ (c : Call). c.answer ≡ answer_of (number_of c.answer) (value_of c.answer)) (sym (types_settle S section w t e)) (settled_formed S (length w) (length t) _);
        value_same = (types_current S section w t e).value_kept;
      }
