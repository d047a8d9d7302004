-- A request for an id that is not below the count writes nothing: it tells only whether the session is open. Assumes nothing.
use Prim.Native.Nat.{ℕ}
use mathlib.Core.Path.{◌≡◌, refl, ap, ◌∙◌, sym}
use mathlib.Core.Bool.{Bool, true, false}
use mathlib.Core.List.{List, [], ◌∷◌, ◌++◌}
use native.Mathlib.Omega.{arith}
use native.Mathlib.Nat.{le_refl}
use borrow.Author.Tests.{le-ltb}
use Rattle.spec_c_dumper.specs.rules.Order.{Table}
use Rattle.spec_c_dumper.specs.rules.Machine.{Machine, Sess, Req, one, gate, single}
use Rattle.spec_c_dumper.specs.rules.Types.{Btf, table_of}
use Rattle.spec_c_dumper.specs.needs.Lists.{Lines, Ls, list_machine}
use Rattle.spec_c_dumper.specs.needs.Session.{Known}
use Rattle.proof_names_apart.specs.none_passed.Watched.{Watched, watched, passed_over, lines_watched, answer_watched, NeverOver, opened_watched, PassesNone}

-- 10 or 11
abbrev pub told : Bool → ℕ
told true = 10
told false = 11

pub told_once : (p q : Bool) → told p ≡ told q → p ≡ q
told_once true true e = refl
told_once true false e = absurd (omega arith)
told_once false true e = absurd (omega arith)
told_once false false e = refl

pub past_number : {M H : Type 0} (X : Machine M H) (T : Table) (room : ℕ) (S : Sess M) → (single X T room S T.count).number ≡ told S.is_open
unfolding single gate
past_number X T room S = ap (λ (b : Bool). (gate X T room S T.count S.is_open b).number) (le-ltb T.count T.count (le_refl T.count)) ∙ go S.is_open
  where
    go : (o : Bool) → (gate X T room S T.count o false).number ≡ told o
    go true = refl
    go false = refl

not_over : (b : Bool) → told b ≡ passed_over → ⊥
not_over true e = absurd (omega arith)
not_over false e = absurd (omega arith)

module _ (L : Lines (Known Watched) Watched) (T : Table) where
  never_past : (rs : List Req) (S : Sess (Ls (Known Watched))) → NeverOver L T rs S → NeverOver L T (rs ++ (one 0 T.count ∷ [])) S
  unfolding answer_watched
  never_past [] S h = (λ e. not_over S.is_open (sym (past_number (list_machine L) T 0 S) ∙ e), tt)
  never_past (r ∷ rs) S h = (h.0, never_past rs (answer_watched L T S r).sess h.1)

pub passes_past : (B : Btf) (rs : List Req) → PassesNone B rs → PassesNone B (rs ++ (one 0 B.type_cnt ∷ []))
passes_past B rs h = never_past (lines_watched (watched B) B) (table_of B) rs (opened_watched B) h
