-- The machine of lists is lawful, and demand 3 holds of it, if no line is refused as a cycle.
use Prim.Native.Nat.{ℕ, ◌<◌}
use mathlib.Core.Path.{◌≡◌, refl, sym, ◌∙◌, ap, subst}
use mathlib.Core.Bool.{true}
use mathlib.Core.List.{List, [], ◌∷◌, ◌++◌, append-nil}
use lib.ListN.{length, length-set, length-replicate}
use lib.Seq.{get_or-set_same, get_or-set_other}
use Rattle.spec_bytes.proofs.words.Laws.{get_replicate}
use Rattle.spec_c_dumper.specs.rules.Order.{Table, new}
use Rattle.spec_c_dumper.specs.rules.Machine.{Fine, OHolds, ogood, obad, Same, Defines, MLawful, Req, run}
use Rattle.spec_c_dumper.specs.needs.Needs.{WF}
use Rattle.spec_c_dumper.specs.needs.Demand.{Demand3}
use Rattle.spec_c_dumper.specs.needs.Lists.{Piece, defines, other, tags_of, Line, says, cannot, Lines, Ls, put_line, list_machine, afresh}
use Rattle.spec_c_dumper.proofs.needs.Demand.{demand3}

tags_append : (a b : List Piece) → tags_of (a ++ b) ≡ tags_of a ++ tags_of b
unfolding tags_of
tags_append [] b = refl
tags_append (defines x t ∷ ps) b = ap {B = List ℕ} (λ l. x ∷ l) (tags_append ps b)
tags_append (other t ∷ ps) b = tags_append ps b

-- a line that is not refused as a cycle
pub data FineLine {U H : Type 0} : Line U H → Type 0 where
  fine_says : (u : U) (t : List ℕ) → FineLine (says u t)
  fine_cannot : {h : H} (e : ℕ) → Fine e → FineLine (cannot h e)

pub record FineLines {U H : Type 0} (L : Lines U H) : Type 0 where
  pub f_fwd : (room : ℕ) (u : U) (x : ℕ) → FineLine (L.fwd room u x)
  pub f_alias : (room : ℕ) (u : U) (x : ℕ) → FineLine (L.alias' room u x)
  pub f_leaf : (room : ℕ) (u : U) (x : ℕ) → FineLine (L.leaf' room u x)
  pub f_body : (room : ℕ) (u : U) (x : ℕ) → FineLine (L.body' room u x)

module _ {U : Type 0} where
  pub record Sized (n : ℕ) (s : Ls U) : Type 0 where
    pub marks_n : length s.marks ≡ n
    pub emits_n : length s.emits ≡ n

  module _ {H : Type 0} (L : Lines U H) (fine : FineLines L) (n : ℕ) where
    quiet_put : (s : Ls U) → Sized n s → (l : Line U H) → FineLine l → OHolds (Same (list_machine L) (Sized n) s) (put_line other s l)
    unfolding tags_of
    quiet_put s g _ (fine_says u t) = ogood (record { good = record { marks_n = g.marks_n; emits_n = g.emits_n }; gets = λ d. refl; egets = λ d. refl; tags_same = tags_append s.pieces (other t ∷ []) ∙ append-nil (tags_of s.pieces) })
    quiet_put s g _ (fine_cannot e f) = obad f

    def_put : (s : Ls U) (x : ℕ) → Sized n s → (l : Line U H) → FineLine l → OHolds (Defines (list_machine L) (Sized n) x s) (put_line (defines x) s l)
    unfolding tags_of
    def_put s x g _ (fine_says u t) = ogood (record { good = record { marks_n = g.marks_n; emits_n = g.emits_n }; gets = λ d. refl; egets = λ d. refl; tagged = tags_append s.pieces (defines x t ∷ []) })
    def_put s x g _ (fine_cannot e f) = obad f

    pub list_lawful : MLawful (list_machine L) (Sized n) n
    list_lawful = record {
      law = record {
        mark_good = λ m x s g l. record { marks_n = length-set s.marks x m ∙ g.marks_n; emits_n = g.emits_n };
        mark_same = λ m x s g l. get_or-set_same s.marks x m new (subst (λ (k : ℕ). x < k) (sym g.marks_n) l);
        mark_other = λ m x s g l d q. get_or-set_other s.marks x d m new q;
        mark_list = λ m x s g l. refl;
        push_good = λ x s g l r. record { marks_n = g.marks_n; emits_n = g.emits_n };
        push_get = λ x s g l r d. refl;
        push_list = λ x s g l r. refl;
      };
      framed = record {
        fr_same = λ s. record { egets = λ d. refl; tags_same = refl };
        fr_then = λ a b c p q. record { egets = λ d. q.egets d ∙ p.egets d; tags_same = q.tags_same ∙ p.tags_same };
        fr_mark = λ m x s g l. record { egets = λ d. refl; tags_same = refl };
        fr_push = λ x s g l r. record { egets = λ d. refl; tags_same = refl };
      };
      start_same = λ r s g. record { good = record { marks_n = g.marks_n; emits_n = g.emits_n }; gets = λ d. refl; egets = λ d. refl; tags_same = refl };
      start_list = λ r s g. refl;
      emark_good = λ m x s g l. record { marks_n = g.marks_n; emits_n = length-set s.emits x m ∙ g.emits_n };
      emark_gets = λ m x s g l d. refl;
      emark_tags = λ m x s g l. refl;
      emark_same = λ m x s g l. get_or-set_same s.emits x m new (subst (λ (k : ℕ). x < k) (sym g.emits_n) l);
      emark_other = λ m x s g l d q. get_or-set_other s.emits x d m new q;
      forwarded_same = λ x s g l. record { good = record { marks_n = g.marks_n; emits_n = g.emits_n }; gets = λ d. refl; egets = λ d. refl; tags_same = refl };
      fwd_same = λ s x g l. quiet_put s g (L.fwd s.room s.known x) (fine.f_fwd s.room s.known x);
      alias_same = λ s x g l. quiet_put s g (L.alias' s.room s.known x) (fine.f_alias s.room s.known x);
      leaf_same = λ s x g l. quiet_put s g (L.leaf' s.room s.known x) (fine.f_leaf s.room s.known x);
      body_defines = λ s x g l. def_put s x g (L.body' s.room s.known x) (fine.f_body s.room s.known x);
      leaving_tags = λ h s. refl;
    }

-- Demand 3 for plain lists, over any lines that are not refused as cycles.
pub lists_demand3 : {U H : Type 0} (L : Lines U H) → FineLines L → (T : Table) → WF T → (u : U) (rs : List Req)
    → Demand3 (list_machine L) T (run (list_machine L) T rs (record { is_open = true; mach = afresh T.count u; asked = [] }))
unfolding afresh tags_of
lists_demand3 {U} L fine T wf u rs = demand3 (list_machine L) T (Sized T.count) (list_lawful L fine T.count) wf (afresh T.count u) (record {
  fit = record { marks_n = length-replicate T.count new; emits_n = length-replicate T.count new };
  all_new = get_replicate new T.count;
  all_unemitted = get_replicate new T.count;
  no_text = refl;
}) rs
