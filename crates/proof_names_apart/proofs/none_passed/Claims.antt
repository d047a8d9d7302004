-- The claim of specs/Claims holds. Assumes nothing.
use Prim.Native.Nat.{ℕ}
use mathlib.Core.Path.{◌≡◌, refl, ap, ◌∙◌, sym, subst}
use mathlib.Core.List.{List, [], ◌∷◌, ◌++◌}
use mathlib.Core.Logic.{⊎_elim}
use Rattle.spec_c_dumper.specs.rules.Machine.{Sess, Answer, Req, one, all}
use Rattle.spec_c_dumper.specs.rules.Types.{Btf, table_of}
use Rattle.spec_c_dumper.specs.rules.Names.{Naming, naming}
use Rattle.spec_c_dumper.specs.needs.Needs.{WF}
use Rattle.spec_c_dumper.specs.needs.Lists.{Lines, Ls}
use Rattle.spec_c_dumper.specs.needs.Session.{Known, lines_by, answer_to, dumped, no_names, dump_types}
use Rattle.spec_c_dumper.proofs.needs.AnyNames.{dumps_alike}
use Rattle.spec_c_dumper.specs.names_apart.Apart.{Apart, apart, none_shown, dump_apart}
use Rattle.proof_names_apart.specs.none_passed.Watched.{Watched, watched, lines_watched, answer_watched, dumped_watched, NeverOver, none_watched, opened_watched, dump_watched, PassesNone}
use Rattle.proof_names_apart.specs.none_passed.Claims.{Claim}
use Rattle.proof_names_apart.proofs.none_passed.Stops.{AnswerUp, single_up, every_up}
use Rattle.proof_names_apart.proofs.none_passed.Lines.{AnyName, AnyValue, any_fits, counting, lines_same, watched_names, Rel, counting_names, lines_up}

module _ (N : Naming Watched) (B : Btf) where
  answer_up : (S : Sess (Ls (Known Watched))) (r : Req) → AnswerUp (Known Watched) Watched 23 (answer_watched (lines_watched N B) (table_of B) S r) (answer_to N B S r)
  unfolding answer_watched answer_to
  answer_up S (one room x) = single_up (Known Watched) Watched 23 (lines_watched N B) (lines_by N B) (table_of B) (lines_up N B) room S x
  answer_up S (all room) = every_up (Known Watched) Watched 23 (lines_watched N B) (lines_by N B) (table_of B) (lines_up N B) room S S.is_open

  -- where no request is refused for it, watching changes nothing
  unwatched : (rs : List Req) (ns : List (ℕ × ℕ)) (S : Sess (Ls (Known Watched))) → NeverOver (lines_watched N B) (table_of B) rs S → dumped_watched (lines_watched N B) (table_of B) ns rs S ≡ dumped N B ns rs S
  unfolding dumped_watched dumped
  unwatched [] ns S h = refl
  unwatched (r ∷ rs) ns S h =
      let a : Answer (Ls (Known Watched)) = answer_watched (lines_watched N B) (table_of B) S r in
      unwatched rs (ns ++ ((a.number, a.sess.mach.known.text_len) ∷ [])) a.sess h.1
      ∙ ⊎_elim (λ q. absurd (h.0 q)) (λ q. ap (λ (y : Answer (Ls (Known Watched))). dumped N B (ns ++ ((y.number, y.sess.mach.known.text_len) ∷ [])) rs y.sess) q) (answer_up S r)

module _ (B : Btf) (below : WF (table_of B)) (rs : List Req) (h : PassesNone B rs) where
  is_watched : dump_watched B rs ≡ dump_apart B rs
  is_watched =
      unwatched (watched B) B rs [] (opened_watched B) h
      ∙ sym (dumps_alike (λ (u : Apart) (w : Watched). w.names ≡ u) AnyName AnyValue (apart B) (watched B) (watched_names B) B (λ id. any_fits id (B.type_by_id id)) below (none_shown B) (none_watched B) refl rs)

  is_old : dump_watched B rs ≡ dump_types B rs
  is_old =
      ap (λ (L : Lines (Known Watched) Watched). dumped_watched L (table_of B) [] rs (opened_watched B)) (lines_same B)
      ∙ unwatched (counting B) B rs [] (opened_watched B) (subst (λ (L : Lines (Known Watched) Watched). NeverOver L (table_of B) rs (opened_watched B)) (lines_same B) h)
      ∙ dumps_alike (Rel B) AnyName AnyValue (counting B) naming (counting_names B) B (λ id. any_fits id (B.type_by_id id)) below (none_watched B) (no_names B) refl rs

pub both_alike : Claim
both_alike B below rs h = record { watched = is_watched B below rs h; alike = sym (is_watched B below rs h) ∙ is_old B below rs h }

-- what is so of a list of requests is so of each list that it begins with
pub passes_before : (B : Btf) (rs qs : List Req) → PassesNone B (rs ++ qs) → PassesNone B rs
passes_before B rs qs h = go rs (opened_watched B) h
  where
    go : (ps : List Req) (S : Sess (Ls (Known Watched))) → NeverOver (lines_watched (watched B) B) (table_of B) (ps ++ qs) S → NeverOver (lines_watched (watched B) B) (table_of B) ps S
    go [] S k = tt
    go (p ∷ ps) S k = (k.0, go ps (answer_watched (lines_watched (watched B) B) (table_of B) S p).sess k.1)
