-- THE CLAIM of specs/Claims, of every two tables, every list of calls of two sessions in any order. Assumes nothing.
use Prim.Native.Nat.{ℕ, zero, suc}
use mathlib.Core.Path.{◌≡◌, refl, sym, ◌∙◌, ap, ap₂, subst}
use mathlib.Core.Bool.{Bool, true, false, true≢false, ◌&&◌}
use mathlib.Core.List.{List, [], ◌∷◌}
use mathlib.Core.Logic.{◌⊎◌, inl, inr}
use lib.ListN.{length-replicate}
use lib.Dec.{leb, eqb}
use borrow.Author.Tests.{eq-eqb}
use Rattle.spec_c_dumper.specs.rules.Order.{new}
use Rattle.spec_c_dumper.specs.rules.Machine.{Sess, Answer, Req}
use Rattle.spec_c_dumper.specs.rules.Types.{Btf, table_of}
use Rattle.spec_c_dumper.specs.rules.Names.{Names, naming}
use Rattle.spec_c_dumper.specs.needs.Needs.{WF}
use Rattle.spec_c_dumper.specs.needs.Lists.{Ls, afresh}
use Rattle.spec_c_dumper.specs.needs.Session.{Known, text_of, answer_to, opened}
use Rattle.spec_c_dumper.proofs.needs.Lists.{Sized}
use Rattle.proof_two_headers.specs.Shared.{Ledger, Held, over, sharing, Shelf}
use Rattle.proof_two_headers.specs.Calls.{Lengths, room_of, same_lengths, is_ready, is_current, Side, kernel, module', Call, opens, asks, World, Part, part_of, with_part, holding, lent, ledger_short, open_number, joined, begun, opening, asking, called, answered}
use Rattle.proof_two_headers.specs.Lines.{no_line}
use Rattle.proof_two_headers.specs.Claims.{Seen, seen, Likewise, printed, same_side, begins_anew, together, answer_alone, alone, Agree, none, same, left_ends, right_ends, requests_of, Silent, no_call, own, joins, EndsOrder, Ends20, Nothing, Claim}
use Rattle.proof_two_headers.proofs.Boards.{no_limit, Is20, Whole, Texts, whole_answers, Is17or20, Is17, Shape, shape_answers}
use Rattle.proof_two_headers.proofs.Closes.{request_closes}
use Rattle.spec_c_dumper.proofs.needs.Emission.{Never}
use Rattle.spec_c_dumper.proofs.needs.Alike.{SessionsUntil, AnswersUntil, answered as both_answered, left_answer, right_answer}

-- ---- the sides

pub same_side_lem : (d e : Side) → same_side d e ≡ true → d ≡ e
same_side_lem kernel kernel q = refl
same_side_lem kernel module' q = absurd (true≢false (sym q))
same_side_lem module' kernel q = absurd (true≢false (sym q))
same_side_lem module' module' q = refl

lengths_same : (l m : Lengths) → l ≡ m → same_lengths l m ≡ true
unfolding same_lengths
lengths_same l m e =
    ap₂ (λ (a b : Bool). a && b) (eq-eqb l.section m.section (λ i. (e i).section)) (ap₂ (λ (a b : Bool). a && b) (eq-eqb l.work m.work (λ i. (e i).work)) (eq-eqb l.ledger m.ledger (λ i. (e i).ledger)))

is_same : (d : Side) → same_side d d ≡ true
is_same kernel = refl
is_same module' = refl

pub part_own : (W : World) (d : Side) (L : Ledger) (p : Part) → part_of (with_part W d L p) d ≡ p
part_own W kernel L p = refl
part_own W module' L p = refl

pub part_kept : (W : World) (d e : Side) (L : Ledger) (p : Part) → same_side d e ≡ false → part_of (with_part W e L p) d ≡ part_of W d
part_kept W kernel kernel L p q = absurd (true≢false q)
part_kept W kernel module' L p q = refl
part_kept W module' kernel L p q = refl
part_kept W module' module' L p q = absurd (true≢false q)

ledger_own : (W : World) (d : Side) (L : Ledger) (p : Part) → (with_part W d L p).ledger ≡ L
ledger_own W kernel L p = refl
ledger_own W module' L p = refl

false_first : (b : Bool) → (b && true) ≡ false → b ≡ false
false_first true q = absurd (true≢false q)
false_first false q = refl

-- an opening that does not begin the session anew leaves it
module _ (B : Side → Btf) (W : World) (d e : Side) where
  opens_kept : (other : ℕ) (l : Lengths) (reserve : ℕ) → begins_anew B d W e other l reserve ≡ false → part_of (called B W (opens e other l reserve)).world d ≡ part_of W d
  unfolding called opening
  opens_kept other l reserve = go (open_number other W.ledger l.ledger reserve)
    where
      go : (n : ℕ) → (same_side d e && eqb (opening B W e l reserve n).number 0) ≡ false → part_of (opening B W e l reserve n).world d ≡ part_of W d
      go zero q = part_kept W d e (joined W.ledger l.ledger reserve) (begun (B e) W.ledger l reserve) (false_first (same_side d e) q)
      go (suc n) q = refl

-- what the partner asks leaves the session
module _ (B : Side → Btf) (W : World) (d e : Side) (q : same_side d e ≡ false) where
  asks_kept : (l : Lengths) (r : Req) → part_of (called B W (asks e l r)).world d ≡ part_of W d
  unfolding called asking
  asks_kept l r = go (is_current (part_of W e) l r)
    where
      go : (b : Bool) → part_of (asking B W e r b).world d ≡ part_of W d
      go false = refl
      go true = part_kept W d e _ _ q

-- what a session of its own answers, by whether it is ready
abbrev by_ready : Btf → Sess (Ls (Known Names)) → Req → Bool → Answer (Ls (Known Names))
by_ready B S r c = elim c as (λ x. Answer (Ls (Known Names))) [ true ↦ answer_to naming B S r | false ↦ record { sess = S; number = 11 } ]

-- ---- any partner

module _ (B : Side → Btf) (d : Side) (wf : WF (table_of (B d))) where
  abbrev Sh : Sess Shelf → Sess (Ls (Known Names)) → Type 0
  Sh S₁ S = SessionsUntil (Shape (B d)) (Shape (B d)) S₁ S

  any_names : (s : Shelf) (t : Ls (Known Names)) (h : Held) → Shape (B d) s t → Shape (B d) (holding h s) t
  any_names s t h q = record { rest = q.rest; lines = q.lines; names = tt; sized = q.sized }

  lent_shape : (L : Ledger) (S₁ : Sess Shelf) (S : Sess (Ls (Known Names))) → Sh S₁ S → Sh (lent L S₁) S
  lent_shape L S₁ S h = record {
    same_open = h.same_open;
    same_asked = h.same_asked;
    shape = any_names S₁.mach S.mach (over L S₁.mach.known.names) h.shape;
    live = λ o. any_names S₁.mach S.mach (over L S₁.mach.known.names) (h.live o);
  }

  seen_same : (n m : ℕ) (S₁ : Sess Shelf) (S : Sess (Ls (Known Names))) → n ≡ m → Sh S₁ S → Likewise (B d) (seen n S₁) (seen m S)
  seen_same n m S₁ S e h = record {
    same_number = e;
    same_asked = h.same_asked;
    same_listed = ap (λ (l : Ls ℕ). l.olist) h.shape.rest;
    same_defined = ap (λ (l : Ls ℕ). l.emits) h.shape.rest;
    same_forwarded = ap (λ (l : Ls ℕ). l.fwds) h.shape.rest;
    same_lines = h.shape.lines;
  }

  ends₁ : (n : ℕ) → Is17or20 n → (n ≡ 11) ⊎ (n ≡ 17) ⊎ (n ≡ 20)
  ends₁ n (inl e) = inr (inl e)
  ends₁ n (inr e) = inr (inr e)

  answer_shape : (k : ℕ) (S₁ : Sess Shelf) (S : Sess (Ls (Known Names))) → Sh S₁ S → (r : Req)
      → AnswersUntil (Shape (B d)) (Shape (B d)) Is17or20 Is17 (answer_to (sharing k) (B d) S₁ r) (answer_to naming (B d) S r)
  answer_shape k S₁ S h r = shape_answers naming no_limit k (B d) wf S₁ S h r

  -- the outcome of one request, and what follows if it ended nothing
  after_one : (a₁ : Answer Shelf) (a : Answer (Ls (Known Names))) (l k : List Seen)
      → AnswersUntil (Shape (B d)) (Shape (B d)) Is17or20 Is17 a₁ a → (Sh a₁.sess a.sess → Agree (Likewise (B d)) EndsOrder EndsOrder l k)
      → Agree (Likewise (B d)) EndsOrder EndsOrder (seen a₁.number a₁.sess ∷ l) (seen a.number a.sess ∷ k)
  after_one a₁ a l k (both_answered e h) f = same (seen a₁.number a₁.sess) (seen a.number a.sess) l k (seen_same a₁.number a.number a₁.sess a.sess e h) (f h)
  after_one a₁ a l k (left_answer w) f = left_ends (seen a₁.number a₁.sess) l (seen a.number a.sess ∷ k) (ends₁ a₁.number w)
  after_one a₁ a l k (right_answer w) f = right_ends (seen a.number a.sess) (seen a₁.number a₁.sess ∷ l) k (inr (inl w))

  abbrev Agrees : World → Sess (Ls (Known Names)) → List Call → Type 0
  Agrees W S cs = Agree (Likewise (B d)) EndsOrder EndsOrder (together seen B d W cs) (alone seen (B d) S (requests_of B d W cs))

  module _ (W : World) (S : Sess (Ls (Known Names))) (h : Sh (part_of W d).sess S) (cs : List Call) (on : (W' : World) (S' : Sess (Ls (Known Names))) → Sh (part_of W' d).sess S' → Agrees W' S' cs) where
    own_by : (r : Req) (b c : Bool)
        → Agree (Likewise (B d)) EndsOrder EndsOrder (seen (asking B W d r b).number (part_of (asking B W d r b).world d).sess ∷ together seen B d (asking B W d r b).world cs)
        (seen (by_ready (B d) S r c).number (by_ready (B d) S r c).sess ∷ alone seen (B d) (by_ready (B d) S r c).sess (requests_of B d (asking B W d r b).world cs))
    unfolding asking
    own_by r false c = left_ends (seen 11 (part_of W d).sess) _ _ (inl refl)
    own_by r true false = right_ends (seen 11 S) _ _ (inl refl)
    own_by r true true =
        let a = answered (B d) (part_of W d) W.ledger r in
        let p : Part = record { number = (part_of W d).number; lengths = (part_of W d).lengths; sess = a.sess } in
        let W' = with_part W d a.sess.mach.known.names.ledger p in
        let k = alone seen (B d) (answer_to naming (B d) S r).sess (requests_of B d W' cs) in
        subst (λ (x : Part). Agree (Likewise (B d)) EndsOrder EndsOrder (seen a.number x.sess ∷ together seen B d W' cs) (seen (answer_to naming (B d) S r).number (answer_to naming (B d) S r).sess ∷ k)) (sym (part_own W d a.sess.mach.known.names.ledger p))
        (after_one a (answer_to naming (B d) S r) (together seen B d W' cs) k (answer_shape (part_of W d).number (lent W.ledger (part_of W d).sess) S (lent_shape W.ledger (part_of W d).sess S h) r)
        (λ g. on W' (answer_to naming (B d) S r).sess (subst (λ (x : Part). Sh x.sess (answer_to naming (B d) S r).sess) (sym (part_own W d a.sess.mach.known.names.ledger p)) g)))

    own_call : (l : Lengths) (r : Req) → Agree (Likewise (B d)) EndsOrder EndsOrder (seen (called B W (asks d l r)).number (part_of (called B W (asks d l r)).world d).sess ∷ together seen B d (called B W (asks d l r)).world cs) (alone seen (B d) S (r ∷ requests_of B d (called B W (asks d l r)).world cs))
    unfolding called alone answer_alone
    own_call l r = own_by r (is_current (part_of W d) l r) (is_ready S r)

    asks_by : (e : Side) (l : Lengths) (r : Req) (b : Bool) → same_side d e ≡ b
        → Agree (Likewise (B d)) EndsOrder EndsOrder (elim b as (λ x. List Seen) [
          | true ↦ seen (called B W (asks e l r)).number (part_of (called B W (asks e l r)).world d).sess ∷ together seen B d (called B W (asks e l r)).world cs
          | false ↦ together seen B d (called B W (asks e l r)).world cs
        ]) (alone seen (B d) S (elim b as (λ x. List Req) [ true ↦ r ∷ requests_of B d (called B W (asks e l r)).world cs | false ↦ requests_of B d (called B W (asks e l r)).world cs ]))
    asks_by e l r true q =
        subst (λ (x : Side). Agree (Likewise (B d)) EndsOrder EndsOrder (seen (called B W (asks x l r)).number (part_of (called B W (asks x l r)).world d).sess ∷ together seen B d (called B W (asks x l r)).world cs) (alone seen (B d) S (r ∷ requests_of B d (called B W (asks x l r)).world cs))) (same_side_lem d e q)
        (own_call l r)
    asks_by e l r false q = on (called B W (asks e l r)).world S (subst (λ (x : Part). Sh x.sess S) (sym (asks_kept B W d e q l r)) h)

    opens_by : (e : Side) (other : ℕ) (l : Lengths) (reserve : ℕ) (b : Bool) → begins_anew B d W e other l reserve ≡ b
        → Agree (Likewise (B d)) EndsOrder EndsOrder (elim b as (λ x. List Seen) [ true ↦ [] | false ↦ together seen B d (called B W (opens e other l reserve)).world cs ]) (alone seen (B d) S (elim b as (λ x. List Req) [ true ↦ [] | false ↦ requests_of B d (called B W (opens e other l reserve)).world cs ]))
    unfolding alone
    opens_by e other l reserve true q = none
    opens_by e other l reserve false q = on (called B W (opens e other l reserve)).world S (subst (λ (x : Part). Sh x.sess S) (sym (opens_kept B W d e other l reserve q)) h)

  agrees : (cs : List Call) (W : World) (S : Sess (Ls (Known Names))) → Sh (part_of W d).sess S → Agrees W S cs
  unfolding together requests_of alone
  agrees [] W S h = none
  agrees (opens e other l reserve ∷ cs) W S h = opens_by W S h cs (λ W' S' h'. agrees cs W' S' h') e other l reserve (begins_anew B d W e other l reserve) refl
  agrees (asks e l r ∷ cs) W S h = asks_by W S h cs (λ W' S' h'. agrees cs W' S' h') e l r (same_side d e) refl

  -- opening leaves the session afresh
  begun_shape : (L : Ledger) (l : Lengths) (reserve : ℕ) → Sh (begun (B d) L l reserve).sess (opened (B d))
  unfolding afresh
  begun_shape L l reserve =
      let q : Shape (B d) (begun (B d) L l reserve).sess.mach (opened (B d)).mach = record { rest = refl; lines = no_line; names = tt; sized = record { marks_n = length-replicate (B d).type_cnt new; emits_n = length-replicate (B d).type_cnt new } } in
      record { same_open = refl; same_asked = refl; shape = q; live = λ o. q }

  opened_part : (W : World) (l : Lengths) (reserve : ℕ) → ledger_short W.ledger l.ledger reserve ≡ false → (called B W (opens d 0 l reserve)).world ≡ with_part W d (joined W.ledger l.ledger reserve) (begun (B d) W.ledger l reserve)
  unfolding called opening open_number
  opened_part W l reserve e = ap (λ (b : Bool). (opening B W d l reserve (elim b as (λ x. ℕ) [ true ↦ 9 | false ↦ 0 ])).world) e

  pub order_alone : (W : World) (l : Lengths) (reserve : ℕ) → ledger_short W.ledger l.ledger reserve ≡ false → (cs : List Call) → Agrees (called B W (opens d 0 l reserve)).world (opened (B d)) cs
  order_alone W l reserve e cs =
      subst (λ (X : World). Agrees X (opened (B d)) cs) (sym (opened_part W l reserve e))
      (agrees cs (with_part W d (joined W.ledger l.ledger reserve) (begun (B d) W.ledger l reserve)) (opened (B d))
      (subst (λ (x : Part). Sh x.sess (opened (B d))) (sym (part_own W d (joined W.ledger l.ledger reserve) (begun (B d) W.ledger l reserve))) (begun_shape W.ledger l reserve)))

-- ---- a partner that made no request

-- opening of either side leaves the entries
opens_entries : (B : Side → Btf) (W : World) (e : Side) (other : ℕ) (l : Lengths) (reserve : ℕ) → (called B W (opens e other l reserve)).world.ledger.entries ≡ W.ledger.entries
unfolding called opening
opens_entries B W e other l reserve = go (open_number other W.ledger l.ledger reserve)
  where
    go : (n : ℕ) → (opening B W e l reserve n).world.ledger.entries ≡ W.ledger.entries
    go zero = ap (λ (L : Ledger). L.entries) (ledger_own W e (joined W.ledger l.ledger reserve) (begun (B e) W.ledger l reserve))
    go (suc n) = refl

module _ (B : Side → Btf) (d : Side) (wf : WF (table_of (B d))) where
  -- the same text, whatever the names
  abbrev Text₂ : Shelf → Ls (Known Names) → Type 0
  Text₂ s t = Texts (B d).type_cnt s t

  abbrev Wh : Sess Shelf → Sess (Ls (Known Names)) → Type 0
  Wh S₁ S = SessionsUntil Text₂ (Whole (B d).type_cnt) S₁ S

  other_names : (s : Shelf) (t : Ls (Known Names)) (h : Held) → Text₂ s t → Text₂ (holding h s) t
  other_names s t h q = record { rest = q.rest; lines = q.lines; names = tt; sized = q.sized }

  -- over a ledger with the same entries
  lent_whole : (L : Ledger) (S₁ : Sess Shelf) (S : Sess (Ls (Known Names))) → S₁.mach.known.names.ledger.entries ≡ L.entries → Wh S₁ S → Wh (lent L S₁) S
  lent_whole L S₁ S e h = record {
    same_open = h.same_open;
    same_asked = h.same_asked;
    shape = other_names S₁.mach S.mach (over L S₁.mach.known.names) h.shape;
    live = λ o. record { rest = (h.live o).rest; lines = tt; names = ((h.live o).names.0, sym e ∙ (h.live o).names.1); sized = (h.live o).sized };
  }

  answer_whole : (k : ℕ) (S₁ : Sess Shelf) (S : Sess (Ls (Known Names))) → Wh S₁ S → (r : Req)
      → AnswersUntil Text₂ (Whole (B d).type_cnt) Is20 Never (answer_to (sharing k) (B d) S₁ r) (answer_to naming (B d) S r)
  answer_whole k S₁ S h r = whole_answers k (B d) wf S₁ S h r

  printed_same : (n m : ℕ) (S₁ : Sess Shelf) (S : Sess (Ls (Known Names))) → n ≡ m → Wh S₁ S → printed n S₁ ≡ printed m S
  printed_same n m S₁ S e h i = record { number = e i; text_len = (h.shape.rest i).known; text = text_of (h.shape.rest i).pieces }

  begun_whole : (L : Ledger) (l : Lengths) (reserve : ℕ) → L.entries ≡ [] → Wh (begun (B d) L l reserve).sess (opened (B d))
  unfolding afresh
  begun_whole L l reserve e =
      let z : Sized (B d).type_cnt (opened (B d)).mach = record { marks_n = length-replicate (B d).type_cnt new; emits_n = length-replicate (B d).type_cnt new } in
      record { same_open = refl; same_asked = refl; shape = record { rest = refl; lines = tt; names = tt; sized = z }; live = λ o. record { rest = refl; lines = tt; names = (refl, e); sized = z } }

  -- whatever is looked at
  module _ {A : Type 0} (view₁ : ℕ → Sess Shelf → A) (view₂ : ℕ → Sess (Ls (Known Names)) → A) (E₁ E₂ : A → Type 0)
      (view_same : (n m : ℕ) (S₁ : Sess Shelf) (S : Sess (Ls (Known Names))) → n ≡ m → Wh S₁ S → view₁ n S₁ ≡ view₂ m S) (is_20 : (n : ℕ) (S₁ : Sess Shelf) → n ≡ 20 → E₁ (view₁ n S₁)) where
    then_one : (a₁ : Answer Shelf) (a : Answer (Ls (Known Names))) (l k : List A) → AnswersUntil Text₂ (Whole (B d).type_cnt) Is20 Never a₁ a → (Wh a₁.sess a.sess → Agree (λ a b. a ≡ b) E₁ E₂ l k)
        → Agree (λ a b. a ≡ b) E₁ E₂ (view₁ a₁.number a₁.sess ∷ l) (view₂ a.number a.sess ∷ k)
    then_one a₁ a l k (both_answered e h) f = same (view₁ a₁.number a₁.sess) (view₂ a.number a.sess) l k (view_same a₁.number a.number a₁.sess a.sess e h) (f h)
    then_one a₁ a l k (left_answer w) f = left_ends (view₁ a₁.number a₁.sess) l (view₂ a.number a.sess ∷ k) (is_20 a₁.number a₁.sess w)
    then_one a₁ a l k (right_answer w) f = absurd w

    -- the session with the ledger as it stands
    pub record Ready (l : Lengths) (W : World) (S : Sess (Ls (Known Names))) : Type 0 where
      pub length_kept : (part_of W d).lengths ≡ l
      pub as_is : Wh (part_of W d).sess S
      pub with_ledger : Wh (lent W.ledger (part_of W d).sess) S

    abbrev Equals : World → Sess (Ls (Known Names)) → List Call → Type 0
    Equals W S cs = Agree (λ a b. a ≡ b) E₁ E₂ (together view₁ B d W cs) (alone view₂ (B d) S (requests_of B d W cs))

    -- what follows each call, if all is ready for it
    abbrev Follows : Lengths → World → List Call → Type 0
    Follows l W cs = (S' : Sess (Ls (Known Names))) → Ready l W S' → Equals W S' cs

    module _ (l : Lengths) (W : World) (S : Sess (Ls (Known Names))) (h : Ready l W S) (cs : List Call) where
      ready_own : (p : Part) (S' : Sess (Ls (Known Names))) → p.lengths ≡ l → Wh p.sess S' → Ready l (with_part W d p.sess.mach.known.names.ledger p) S'
      ready_own p S' e g =
          let L = p.sess.mach.known.names.ledger in
          record {
            length_kept = ap (λ (x : Part). x.lengths) (part_own W d L p) ∙ e;
            as_is = subst (λ (x : Part). Wh x.sess S') (sym (part_own W d L p)) g;
            with_ledger = subst (λ (x : Part). Wh (lent (with_part W d L p).ledger x.sess) S') (sym (part_own W d L p))
                (subst (λ (M : Ledger). Wh (lent M p.sess) S') (sym (ledger_own W d L p)) (lent_whole L p.sess S' refl g));
          }

      request_by : (r : Req) (b : Bool) → Follows l (asking B W d r b).world cs
          → Agree (λ a b. a ≡ b) E₁ E₂ (view₁ (asking B W d r b).number (part_of (asking B W d r b).world d).sess ∷ together view₁ B d (asking B W d r b).world cs)
          (view₂ (by_ready (B d) S r b).number (by_ready (B d) S r b).sess ∷ alone view₂ (B d) (by_ready (B d) S r b).sess (requests_of B d (asking B W d r b).world cs))
      unfolding asking
      request_by r false on = same _ _ _ _ (view_same 11 11 (part_of W d).sess S refl h.as_is) (on S h)
      request_by r true on =
          let a = answered (B d) (part_of W d) W.ledger r in
          let p : Part = record { number = (part_of W d).number; lengths = (part_of W d).lengths; sess = a.sess } in
          let W' = with_part W d a.sess.mach.known.names.ledger p in
          let k = alone view₂ (B d) (answer_to naming (B d) S r).sess (requests_of B d W' cs) in
          subst (λ (x : Part). Agree (λ a b. a ≡ b) E₁ E₂ (view₁ a.number x.sess ∷ together view₁ B d W' cs) (view₂ (answer_to naming (B d) S r).number (answer_to naming (B d) S r).sess ∷ k)) (sym (part_own W d a.sess.mach.known.names.ledger p))
          (then_one a (answer_to naming (B d) S r) (together view₁ B d W' cs) k (answer_whole (part_of W d).number (lent W.ledger (part_of W d).sess) S h.with_ledger r)
          (λ g. on (answer_to naming (B d) S r).sess (ready_own p (answer_to naming (B d) S r).sess h.length_kept g)))

      -- 11 on both or on neither
      same_ready : (r : Req) → is_current (part_of W d) l r ≡ is_ready S r
      unfolding is_current is_ready
      same_ready r = ap (λ (b : Bool). b && is_ready (part_of W d).sess r) (lengths_same l (part_of W d).lengths (sym h.length_kept)) ∙ (λ i. h.as_is.same_open i && leb (h.as_is.shape.rest i).known (room_of r))

      request : (r : Req) → Follows l (called B W (asks d l r)).world cs → Agree (λ a b. a ≡ b) E₁ E₂ (view₁ (called B W (asks d l r)).number (part_of (called B W (asks d l r)).world d).sess ∷ together view₁ B d (called B W (asks d l r)).world cs) (alone view₂ (B d) S (r ∷ requests_of B d (called B W (asks d l r)).world cs))
      unfolding called alone answer_alone
      request r on =
          let b = is_current (part_of W d) l r in
          subst (λ (c : Bool). Agree (λ a b. a ≡ b) E₁ E₂ (view₁ (asking B W d r b).number (part_of (asking B W d r b).world d).sess ∷ together view₁ B d (asking B W d r b).world cs)
          (view₂ (by_ready (B d) S r c).number (by_ready (B d) S r c).sess ∷ alone view₂ (B d) (by_ready (B d) S r c).sess (requests_of B d (asking B W d r b).world cs))) (same_ready r) (request_by r b on)

      own_side : (r : Req) → Follows l (called B W (asks d l r)).world cs → (b : Bool) → same_side d d ≡ b
          → Agree (λ a b. a ≡ b) E₁ E₂ (elim b as (λ x. List A) [
            | true ↦ view₁ (called B W (asks d l r)).number (part_of (called B W (asks d l r)).world d).sess ∷ together view₁ B d (called B W (asks d l r)).world cs
            | false ↦ together view₁ B d (called B W (asks d l r)).world cs
          ]) (alone view₂ (B d) S (elim b as (λ x. List Req) [ true ↦ r ∷ requests_of B d (called B W (asks d l r)).world cs | false ↦ requests_of B d (called B W (asks d l r)).world cs ]))
      own_side r on true q = request r on
      own_side r on false q = absurd (true≢false (sym (is_same d) ∙ q))

      ready_joined : (e : Side) (other : ℕ) (m : Lengths) (reserve : ℕ) → begins_anew B d W e other m reserve ≡ false → Ready l (called B W (opens e other m reserve)).world S
      ready_joined e other m reserve q = record {
        length_kept = ap (λ (x : Part). x.lengths) (opens_kept B W d e other m reserve q) ∙ h.length_kept;
        as_is = subst (λ (x : Part). Wh x.sess S) (sym (opens_kept B W d e other m reserve q)) h.as_is;
        with_ledger = subst (λ (x : Part). Wh (lent (called B W (opens e other m reserve)).world.ledger x.sess) S) (sym (opens_kept B W d e other m reserve q))
            (lent_whole (called B W (opens e other m reserve)).world.ledger (lent W.ledger (part_of W d).sess) S (sym (opens_entries B W e other m reserve)) h.with_ledger);
      }

      other_side : (e : Side) (other : ℕ) (m : Lengths) (reserve : ℕ) → Follows l (called B W (opens e other m reserve)).world cs → (b : Bool) → begins_anew B d W e other m reserve ≡ false → begins_anew B d W e other m reserve ≡ b
          → Agree (λ a b. a ≡ b) E₁ E₂ (elim b as (λ x. List A) [ true ↦ [] | false ↦ together view₁ B d (called B W (opens e other m reserve)).world cs ]) (alone view₂ (B d) S (elim b as (λ x. List Req) [ true ↦ [] | false ↦ requests_of B d (called B W (opens e other m reserve)).world cs ]))
      other_side e other m reserve on true q q' = absurd (true≢false (sym q' ∙ q))
      other_side e other m reserve on false q q' = on S (ready_joined e other m reserve q)

    equals : (l : Lengths) (cs : List Call) (W : World) → Silent B d l W cs → (S : Sess (Ls (Known Names))) → Ready l W S → Equals W S cs
    unfolding together requests_of alone
    equals l _ _ (no_call W) S h = none
    equals l _ _ (own W r cs q) S h = own_side l W S h cs r (λ S' h'. equals l cs (called B W (asks d l r)).world q S' h') (same_side d d) refl
    equals l _ _ (joins W e other m reserve cs n q) S h = other_side l W S h cs e other m reserve (λ S' h'. equals l cs (called B W (opens e other m reserve)).world q S' h') (begins_anew B d W e other m reserve) n refl

    pub equal_alone : (W : World) (l : Lengths) (reserve : ℕ) → ledger_short W.ledger l.ledger reserve ≡ false → W.ledger.entries ≡ [] → (cs : List Call) → Silent B d l (called B W (opens d 0 l reserve)).world cs
        → Equals (called B W (opens d 0 l reserve)).world (opened (B d)) cs
    unfolding afresh
    equal_alone W l reserve e n cs q =
        let L = joined W.ledger l.ledger reserve in
        let p = begun (B d) W.ledger l reserve in
        subst (λ (X : World). Equals X (opened (B d)) cs) (sym (opened_part B d wf W l reserve e))
        (equals l cs (with_part W d L p) (subst (λ (X : World). Silent B d l X cs) (opened_part B d wf W l reserve e) q) (opened (B d)) (record {
          length_kept = ap (λ (x : Part). x.lengths) (part_own W d L p);
          as_is = subst (λ (x : Part). Wh x.sess (opened (B d))) (sym (part_own W d L p)) (begun_whole W.ledger l reserve n);
          with_ledger = subst (λ (x : Part). Wh (lent (with_part W d L p).ledger x.sess) (opened (B d))) (sym (part_own W d L p))
              (subst (λ (M : Ledger). Wh (lent M p.sess) (opened (B d))) (sym (ledger_own W d L p)) (lent_whole L p.sess (opened (B d)) refl (begun_whole W.ledger l reserve n)));
        }))

-- two runs that are compared with a third
agree_join : {A : Type 0} (R : A → A → Type 0) (E F : A → Type 0) → ((a : A) → F a → E a) → (l p m : List A) → Agree R E E l p → Agree (λ a b. a ≡ b) F (λ a. ⊥) m p → Agree R E E l m
agree_join R E F up _ _ _ none none = none
agree_join R E F up _ _ _ none (left_ends c m _ f) = right_ends c [] m (up c f)
agree_join R E F up _ _ _ (left_ends a l _ w) r = left_ends a l _ w
agree_join R E F up _ _ _ (same a b l p e q) (same c _ m _ e' r) = same a c l m (subst (R a) (sym e') e) (agree_join R E F up l p m q r)
agree_join R E F up _ _ _ (same a b l p e q) (left_ends c m _ f) = right_ends c (a ∷ l) m (up c f)
agree_join R E F up _ _ _ (same a b l p e q) (right_ends _ _ _ z) = absurd z
agree_join R E F up _ _ _ (right_ends b l p w) (same c _ m _ e' r) = right_ends c l m (subst E (sym e') w)
agree_join R E F up _ _ _ (right_ends b l p w) (left_ends c m _ f) = right_ends c l m (up c f)
agree_join R E F up _ _ _ (right_ends b l p w) (right_ends _ _ _ z) = absurd z

module _ (B : Side → Btf) (d : Side) (wf : WF (table_of (B d))) where
  seen_whole : (n m : ℕ) (S₁ : Sess Shelf) (S : Sess (Ls (Known Names))) → n ≡ m → Wh B d wf S₁ S → seen n S₁ ≡ seen m S
  seen_whole n m S₁ S e h i = record { number = e i; asked = h.same_asked i; listed = (h.shape.rest i).olist; defined = (h.shape.rest i).emits; forwarded = (h.shape.rest i).fwds; lines = (h.shape.rest i).pieces }

  own_ledger : (W Z : World) (l m : Lengths) (reserve reserve' : ℕ) → ledger_short W.ledger l.ledger reserve ≡ false → ledger_short Z.ledger m.ledger reserve' ≡ false → Z.ledger.entries ≡ [] → (cs ds : List Call) → Silent B d m (called B Z (opens d 0 m reserve')).world ds
      → requests_of B d (called B W (opens d 0 l reserve)).world cs ≡ requests_of B d (called B Z (opens d 0 m reserve')).world ds → Agree (Likewise (B d)) EndsOrder EndsOrder (together seen B d (called B W (opens d 0 l reserve)).world cs) (together seen B d (called B Z (opens d 0 m reserve')).world ds)
  own_ledger W Z l m reserve reserve' e e' n cs ds q same_requests =
      agree_join (Likewise (B d)) EndsOrder EndsOrder (λ a w. w) _ (alone seen (B d) (opened (B d)) (requests_of B d (called B Z (opens d 0 m reserve')).world ds)) _
      (subst (λ (rs : List Req). Agree (Likewise (B d)) EndsOrder EndsOrder (together seen B d (called B W (opens d 0 l reserve)).world cs) (alone seen (B d) (opened (B d)) rs)) same_requests (order_alone B d wf W l reserve e cs))
      (equal_alone B d wf seen seen EndsOrder (λ a. ⊥) seen_whole (λ m S₁ w. inr (inr w)) Z m reserve' e' n ds q)

-- ---- opening

module _ (B : Side → Btf) (d : Side) (W : World) where
  opens_others : (n : ℕ) (l : Lengths) (reserve : ℕ) → (n ≡ 0 → ⊥) → (called B W (opens d n l reserve)).number ≡ n
  unfolding called opening open_number
  opens_others zero l reserve h = absurd (h refl)
  opens_others (suc n) l reserve h = refl

  opens_by_ledger : (l : Lengths) (reserve : ℕ) (b : Bool) → ledger_short W.ledger l.ledger reserve ≡ b → (called B W (opens d 0 l reserve)).number ≡ (elim b [ true ↦ 9 | false ↦ 0 ])
  unfolding called opening open_number
  opens_by_ledger l reserve b e = subst (λ (c : Bool). (opening B W d l reserve (elim c as (λ x. ℕ) [ true ↦ 9 | false ↦ 0 ])).number ≡ (elim b [ true ↦ 9 | false ↦ 0 ])) (sym e) (go b)
    where
      go : (c : Bool) → (opening B W d l reserve (elim c as (λ x. ℕ) [ true ↦ 9 | false ↦ 0 ])).number ≡ (elim c [ true ↦ 9 | false ↦ 0 ])
      go true = refl
      go false = refl

  opens_leaves : (n : ℕ) (l : Lengths) (reserve : ℕ) → ((called B W (opens d n l reserve)).number ≡ 0 → ⊥) → (called B W (opens d n l reserve)).world ≡ W
  unfolding called opening
  opens_leaves n l reserve = go (open_number n W.ledger l.ledger reserve)
    where
      go : (m : ℕ) → ((opening B W d l reserve m).number ≡ 0 → ⊥) → (opening B W d l reserve m).world ≡ W
      go zero h = absurd (h refl)
      go (suc m) h = refl

-- THE CLAIM
pub two_headers : Claim
two_headers B d wf = record {
  order_as_alone = order_alone B d wf;
  order_as_over_its_own = own_ledger B d wf;
  equal_short_of_20 = equal_alone B d wf printed printed Ends20 Nothing (printed_same B d wf) (λ n S₁ w. w);
  other_kept = λ W e l r q. asks_kept B W d e q l r;
  closes = λ W l r. request_closes B W d l r;
  opening_others = λ W n l reserve h. opens_others B d W n l reserve h;
  opening_short = λ W l reserve e. opens_by_ledger B d W l reserve true e;
  opening_accepts = λ W l reserve e. opens_by_ledger B d W l reserve false e;
  opening_leaves = λ W n l reserve h. opens_leaves B d W n l reserve h;
}
