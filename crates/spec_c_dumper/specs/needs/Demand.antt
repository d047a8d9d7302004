-- Demand 3, of a session after a list of requests.
use Rattle.std.specs.Prelude.{ℕ, ◌<◌, ◌≡◌, true, ◌↔◌}
use mathlib.Core.List.{List, ◌∷◌, ◌++◌, Memᴰ}
use Rattle.spec_c_dumper.specs.rules.Order.{Table, refused}
use Rattle.spec_c_dumper.specs.rules.Machine.{Machine, Sess, ordering, single}
use Rattle.spec_c_dumper.specs.needs.Needs.{NamedComp, Via, MeetsTwice}

-- c stands in l exactly once
pub record Once (c : ℕ) (l : List ℕ) : Type 0 where
  pub before : List ℕ
  pub rest : List ℕ
  pub place : l ≡ before ++ (c ∷ rest)
  pub not_before : Memᴰ c before → ⊥
  pub not_after : Memᴰ c rest → ⊥

-- DEMAND 3. S: the session after the list of requests; tags: the ids of the pieces that define, in the text's order. What such a piece
-- prints is said in specs/Bodies. The piece of a composite whose name contains `__builtin_va_list` is among them, though it is only `;`: "a
-- name that contains it is not defined".
pub record Demand3 {M H : Type 0} (X : Machine M H) (T : Table) (S : Sess M) : Type 0 where
  -- each named composite that an accepted request asked for is defined exactly once
  pub asked_once : (c : ℕ) → Memᴰ c S.asked → NamedComp T c → Once c (X.tags S.mach)
  -- what is defined is a named composite, none twice
  pub named_once : (c : ℕ) → Memᴰ c (X.tags S.mach) → NamedComp T c × Once c (X.tags S.mach)
  -- each after every named composite that it needs, directly or through nameless ones
  pub after_needs : (l₁ l₂ : List ℕ) (c d : ℕ) → X.tags S.mach ≡ l₁ ++ (c ∷ l₂) → Via T c d → T.named d ≡ true → Memᴰ d l₁
  -- while the session is open, the next request for a named composite, unless too deep, is refused as a cycle exactly when a chain of needs
  -- from it meets some composite twice
  pub cycles : S.is_open ≡ true → (room c : ℕ) → c < T.count → NamedComp T c → (ordering X T room S c ≡ refused 12 → ⊥)
      → ((single X T room S c).number ≡ 13) ↔ MeetsTwice T c
