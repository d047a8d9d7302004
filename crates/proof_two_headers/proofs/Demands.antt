-- THE CLAIM of specs/Demands. Assumes nothing.
use Prim.Native.Nat.{ℕ, zero, suc}
use mathlib.Core.Path.{◌≡◌, refl, sym, subst}
use mathlib.Core.Bool.{Bool, true, false, true≢false}
use mathlib.Core.List.Memᴰ
use mathlib.Core.List.{List, [], ◌∷◌}
use lib.ListN.{length, length-replicate}
use Rattle.spec_bytes.proofs.words.Laws.{get_replicate}
use Rattle.spec_c_dumper.specs.rules.Order.{new}
use Rattle.spec_c_dumper.specs.rules.Machine.{Sess, Req, one, all, serve}
use Rattle.spec_c_dumper.specs.rules.Types.{Btf, table_of}
use Rattle.spec_c_dumper.specs.needs.Needs.{WF}
use Rattle.spec_c_dumper.specs.needs.Lists.{tags_of, afresh}
use Rattle.spec_c_dumper.specs.needs.Session.{machine_by, answer_to}
use Rattle.spec_c_dumper.specs.needs.Bodies.{PiecesAre}
use Rattle.spec_c_dumper.proofs.needs.Lists.{Sized}
use Rattle.spec_c_dumper.proofs.needs.Placed.{defs, none}
use Rattle.spec_c_dumper.proofs.needs.Session.{machine_lawful}
use Rattle.spec_c_dumper.proofs.needs.Keeping.{single_kept, every_kept}
use Rattle.spec_c_dumper.proofs.needs.Bodies.{All, Any, requests}
use Rattle.spec_c_dumper.proofs.needs.Demand.{SInv, same_ok, serve_ok, opened_ok, demand3_of}
use Rattle.proof_two_headers.specs.Shared.{Ledger, sharing, Shelf}
use Rattle.proof_two_headers.specs.Calls.{Lengths, Part, Side, kernel, module', Call, opens, asks, World, part_of, with_part, joined, begun, lent, unopened, answered, is_current, open_number, opening, asking, called, calls, new_world}
use Rattle.proof_two_headers.specs.Claims.{same_side}
use Rattle.proof_two_headers.specs.Demands.{Claim}
use Rattle.proof_two_headers.proofs.Claims.{same_side_lem, part_own, part_kept}

-- ---- session k over the table B

module _ (B : Btf) (wf : WF (table_of B)) (k : ℕ) where
  abbrev pub Sound : Sess Shelf → Type 0
  Sound S = SInv (machine_by (sharing k) B) (table_of B) (Sized B.type_cnt) (machine_lawful (sharing k) B B.type_cnt) wf S

  -- with the ledger lent anew
  lent_ok : (L : Ledger) (S : Sess Shelf) → Sound S → Sound (lent L S)
  lent_ok L S i =
      same_ok (machine_by (sharing k) B) (table_of B) (Sized B.type_cnt) (machine_lawful (sharing k) B B.type_cnt) wf S (lent L S) refl refl refl
      (λ room g. record { good = record { marks_n = g.marks_n; emits_n = g.emits_n }; gets = λ d. refl; egets = λ d. refl; tags_same = refl }) (λ room. refl) (λ room. refl) i

  answer_ok : (S : Sess Shelf) (r : Req) → Sound S → Sound (answer_to (sharing k) B S r).sess
  unfolding answer_to serve
  answer_ok S (one room x) i = serve_ok (machine_by (sharing k) B) (table_of B) (Sized B.type_cnt) (machine_lawful (sharing k) B B.type_cnt) wf S (one room x) i
  answer_ok S (all room) i = serve_ok (machine_by (sharing k) B) (table_of B) (Sized B.type_cnt) (machine_lawful (sharing k) B B.type_cnt) wf S (all room) i

  answer_pieces : (S : Sess Shelf) (r : Req) → PiecesAre (sharing k) B S.mach.pieces → PiecesAre (sharing k) B (answer_to (sharing k) B S r).sess.mach.pieces
  unfolding answer_to
  answer_pieces S (one room x) p = single_kept (machine_by (sharing k) B) (table_of B) (All (sharing k) B) (λ g s. All (sharing k) B s) (λ g h. Any (sharing k) B h) (requests (sharing k) B) room S x p
  answer_pieces S (all room) p = every_kept (machine_by (sharing k) B) (table_of B) (All (sharing k) B) (λ g s. All (sharing k) B s) (λ g h. Any (sharing k) B h) (requests (sharing k) B) room S S.is_open p

-- ---- a side's session, whatever is called

module _ (B : Side → Btf) (d : Side) (wf : WF (table_of (B d))) where
  record Kept (p : Part) : Type 0 where
    sound : Sound (B d) wf p.number p.sess
    pieces : PiecesAre (sharing p.number) (B d) p.sess.mach.pieces

  begun_ok : (L : Ledger) (l : Lengths) (reserve : ℕ) → Kept (begun (B d) L l reserve)
  unfolding afresh tags_of
  begun_ok L l reserve = record {
    sound = opened_ok (machine_by (sharing (length L.accounts)) (B d)) (table_of (B d)) (Sized (B d).type_cnt) (machine_lawful (sharing (length L.accounts)) (B d) (B d).type_cnt) wf (begun (B d) L l reserve).sess.mach (record {
      fit = record { marks_n = length-replicate (B d).type_cnt new; emits_n = length-replicate (B d).type_cnt new };
      all_new = get_replicate new (B d).type_cnt;
      all_unemitted = get_replicate new (B d).type_cnt;
      no_text = refl;
    });
    pieces = tt;
  }

  unopened_ok : Kept unopened
  unfolding afresh tags_of defs
  unopened_ok = record {
    sound = record { whole = []; sorted = none; defined = refl; got = λ x k. absurd (Memᴰ.not-nil k); live = λ o. absurd (true≢false (sym o)) };
    pieces = tt;
  }

  module _ (W : World) (i : Kept (part_of W d)) where
    opening_ok : (e : Side) (l : Lengths) (reserve n : ℕ) → Kept (part_of (opening B W e l reserve n).world d)
    unfolding opening
    opening_ok e l reserve (suc n) = i
    opening_ok e l reserve zero = by (same_side d e) refl
      where
        by : (b : Bool) → same_side d e ≡ b → Kept (part_of (with_part W e (joined W.ledger l.ledger reserve) (begun (B e) W.ledger l reserve)) d)
        by true q =
            subst (λ (x : Side). Kept (part_of (with_part W x (joined W.ledger l.ledger reserve) (begun (B x) W.ledger l reserve)) d)) (same_side_lem d e q)
            (subst Kept (sym (part_own W d (joined W.ledger l.ledger reserve) (begun (B d) W.ledger l reserve))) (begun_ok W.ledger l reserve))
        by false q = subst Kept (sym (part_kept W d e (joined W.ledger l.ledger reserve) (begun (B e) W.ledger l reserve) q)) i

    own_ok : (r : Req) (b : Bool) → Kept (part_of (asking B W d r b).world d)
    unfolding asking
    own_ok r false = i
    own_ok r true =
        let k = (part_of W d).number in
        let a = answered (B d) (part_of W d) W.ledger r in
        subst Kept (sym (part_own W d a.sess.mach.known.names.ledger (record { number = k; lengths = (part_of W d).lengths; sess = a.sess }))) (record {
          sound = answer_ok (B d) wf k (lent W.ledger (part_of W d).sess) r (lent_ok (B d) wf k W.ledger (part_of W d).sess i.sound);
          pieces = answer_pieces (B d) wf k (lent W.ledger (part_of W d).sess) r i.pieces;
        })

    other_ok : (e : Side) (r : Req) (c : Bool) → same_side d e ≡ false → Kept (part_of (asking B W e r c).world d)
    unfolding asking
    other_ok e r false q = i
    other_ok e r true q = subst Kept (sym (part_kept W d e _ _ q)) i

    asking_ok : (e : Side) (r : Req) (c : Bool) → Kept (part_of (asking B W e r c).world d)
    asking_ok e r c = by (same_side d e) refl
      where
        by : (b : Bool) → same_side d e ≡ b → Kept (part_of (asking B W e r c).world d)
        by true q = subst (λ (x : Side). Kept (part_of (asking B W x r c).world d)) (same_side_lem d e q) (own_ok r c)
        by false q = other_ok e r c q

    called_ok : (c : Call) → Kept (part_of (called B W c).world d)
    unfolding called
    called_ok (opens e other l reserve) = opening_ok e l reserve (open_number other W.ledger l.ledger reserve)
    called_ok (asks e l r) = asking_ok e r (is_current (part_of W e) l r)

  calls_ok : (cs : List Call) (W : World) → Kept (part_of W d) → Kept (part_of (calls B W cs) d)
  unfolding calls
  calls_ok [] W i = i
  calls_ok (c ∷ cs) W i = calls_ok cs (called B W c).world (called_ok W i c)

  new_ok : Kept (part_of new_world d)
  new_ok = by d
    where
      by : (e : Side) → Kept (part_of new_world e)
      by kernel = unopened_ok
      by module' = unopened_ok

-- THE CLAIM
pub third_demand : Claim
third_demand B d wf cs =
    let W = calls B new_world cs in
    let i = calls_ok B d wf cs new_world (new_ok B d wf) in
    let k = (part_of W d).number in
    record {
      demand3 = demand3_of (machine_by (sharing k) (B d)) (table_of (B d)) (Sized (B d).type_cnt) (machine_lawful (sharing k) (B d) (B d).type_cnt) wf (lent W.ledger (part_of W d).sess)
          (lent_ok (B d) wf k W.ledger (part_of W d).sess i.sound);
      pieces = i.pieces;
    }
