-- A session by the remembering way: for every list of requests the same numbers, lengths and text as by the plain way, and visits that are at most types
-- plus members. Assumes nothing.
use Prim.Native.Nat.{ℕ, ◌+◌, ◌-◌, ◌<◌, ◌≤◌}
use native.Mathlib.Omega.{arith}
use mathlib.Core.Path.{◌≡◌, refl, ap, ap₂, ◌∙◌, sym, subst}
use mathlib.Core.Bool.{Bool, true, false}
use mathlib.Core.List.{List, [], ◌∷◌, ◌++◌}
use mathlib.Core.Logic.{⊎_elim}
use lib.ListN.{length, get_or, set, length-set, length-replicate}
use lib.Dec.{leb}
use Rattle.std.proofs.lemmas.Bool.{cases_lt}
use Rattle.spec_bytes.specs.text.Text.{Text, whole, cut, bytes}
use Rattle.spec_c_dumper.specs.rules.Order.{new}
use Rattle.spec_c_dumper.specs.rules.Machine.{Sess, Req, one, all}
use Rattle.spec_c_dumper.specs.rules.Writer.{Ask, got, no, Said, Writer, stop, given}
use Rattle.spec_c_dumper.specs.rules.Types.{Name, Member, Void, Composite, Btf, table_of}
use Rattle.spec_c_dumper.specs.rules.Layout.{smaller, Pad, bit_padding}
use Rattle.spec_c_dumper.specs.rules.Placing.{body_packed}
use Rattle.spec_c_dumper.specs.rules.Names.{Naming}
use Rattle.spec_c_dumper.specs.rules.Emit.{definition, forward}
use Rattle.spec_c_dumper.proofs.rules.Keeps.{any_name, any_value}
use Rattle.spec_c_dumper.proofs.rules.Related.{RelSaid, same, rel_at, RelW, rel_stop, RelNaming, rel_closed}
use Rattle.spec_c_dumper.specs.needs.Needs.{WF}
use Rattle.spec_c_dumper.specs.needs.Lists.{Piece, defines, other, cannot, Ls, put_line, afresh}
use Rattle.spec_c_dumper.specs.needs.Session.{Known as Line-known, names_at_stop, fitting, line_of, machine_by, opened_by, text_of, dump, answer_to, dumped}
use Rattle.spec_c_dumper.proofs.needs.Lists.{Sized}
use Rattle.spec_c_dumper.proofs.needs.Session.{machine_lawful}
use Rattle.spec_c_dumper.proofs.needs.Alike.{AlikeMachine, BothOut, both_wrote, both_stuck, BothSess, BothAnswer, single_alike, every_alike}
use Rattle.spec_c_dumper.proofs.needs.AnyNames.{Nearly}
use Rattle.spec_c_dumper.specs.alignment_once.Once.{Remembered, unknown, Keep, Lawful, Once, found, refused, align_once, Tells, members_to}
use Rattle.spec_c_dumper.specs.alignment_once.Steps.{padding_once, body_once}
use Rattle.spec_c_dumper.specs.alignment_once.Writers.{Asks, answered, given_once, definition_once, forward_once, machine_once, answer_once, after_once, dumped_once, Remembering, remembering_names, carried, remembering_asks, no_visits}
use Rattle.spec_c_dumper.proofs.alignment_once.Right.{known_unknown}
use Rattle.spec_c_dumper.proofs.alignment_once.Counted.{paid_none}
use Rattle.spec_c_dumper.proofs.alignment_once.Fair.{Nothing, no_more, Honest, at_most, Fair, fair_body, fair_padding}
use Rattle.spec_c_dumper.proofs.alignment_once.Writers.{on_definition, on_forward}

void_composite : (s : Bool) (m : Name) (z : ℕ) (ms : List Member) → Void ≡ Composite s m z ms → ⊥
void_composite s m z ms e = let z : ◌≡◌ {A = ℕ} 0 1 = cc in omega arith

-- Every line, and every list of requests: for two states that are Pair, where questions keep it, and naming does. The ids of the table are below its
-- count (cause 6 of opening), and past it there is no type.
module _ {St U : Type 0} (Q : Asks St) (N' : Naming St) (N : Naming U) (B : Btf) (wf : WF (table_of B)) (ends : (id : ℕ) → B.type_cnt ≤ id → B.type_by_id id ≡ Void) (Pair : St → U → Type 0) where
  abbrev cnt : ℕ
  cnt = B.type_cnt

  -- the plain way's answer x, and states that are Pair
  abbrev pub Kept : {A : Type 0} → U → Ask A → Once St A → Type 0
  Kept u x (found a v k) = (x ≡ got a) × Pair v u
  Kept u x (refused c v k) = x ≡ no c

  module _ {A : Type 0} (ask : St → Once St A) (x : Ask A) (h : (v : St) (u : U) → Pair v u → Kept u x (ask v)) (f : A → Writer St) (g : A → Writer U) (on : (a : A) → RelW Pair (f a) (g a)) where
    rel_given : RelW Pair (given_once ask f) (given x g)
    unfolding given_once answered given
    rel_given v u r = by (ask v) (h v u r)
      where
        by : (q : Once St A) → Kept u x q → RelSaid Pair (answered q f v) (given x g u)
        by (found a v' k) e = subst (λ (y : Ask A). RelSaid Pair (f a v') (given y g u)) (sym e.0) (on a v' u e.1)
        by (refused c v' k) e = subst (λ (y : Ask A). RelSaid Pair (stop c v) (given y g u)) (sym e) (rel_stop Pair c v u r)

  inside : (id : ℕ) (s : Bool) (m : Name) (z : ℕ) (ms : List Member) → B.type_by_id id ≡ Composite s m z ms → id < cnt
  inside id s m z ms e = ⊎_elim (λ l. l) (λ l. absurd (void_composite s m z ms (sym (ends id l) ∙ e))) (cases_lt id cnt)

  -- what is asked of a session: naming and questions
  pub record Sound : Type 0 where
    pub named : RelNaming Pair any_name any_value N' N
    pub bodies : (id : ℕ) (s : Bool) (name : Name) (sz : ℕ) (ms : List Member) → B.type_by_id id ≡ Composite s name sz ms → id < cnt → (v : St) (u : U) → Pair v u → Kept u (body_packed B s sz ms) (Q.body s id sz ms v)
    pub pads : (offset : ℕ) (x : Member) (packed : Bool) → x.type_id < cnt → (v : St) (u : U) → Pair v u → Kept u (bit_padding B offset x packed) (Q.padding offset x packed v)

  module _ (sound : Sound) where
    rel_body : (id : ℕ) (s : Bool) (name : Name) (sz : ℕ) (ms : List Member) → B.type_by_id id ≡ Composite s name sz ms → (f : Bool → Writer St) (g : Bool → Writer U) → ((p : Bool) → RelW Pair (f p) (g p))
        → RelW Pair (given_once (Q.body s id sz ms) f) (given (body_packed B s sz ms) g)
    rel_body id s name sz ms e f g on = rel_given (Q.body s id sz ms) (body_packed B s sz ms) (sound.bodies id s name sz ms e (inside id s name sz ms e)) f g on

    rel_pads : (offset : ℕ) (x : Member) (packed : Bool) → x.type_id < cnt → (f : List Pad → Writer St) (g : List Pad → Writer U) → ((p : List Pad) → RelW Pair (f p) (g p))
        → RelW Pair (given_once (Q.padding offset x packed) f) (given (bit_padding B offset x packed) g)
    rel_pads offset x packed l f g on = rel_given (Q.padding offset x packed) (bit_padding B offset x packed) (sound.pads offset x packed l) f g on

    -- "Answers and refusals .. must equal those of the plain way": the lines of emission
    pub same_definition : (id : ℕ) → RelW Pair (definition_once Q N' B id (B.type_by_id id)) (definition N B id (B.type_by_id id))
    same_definition id = on_definition Q N' N B cnt wf.below (λ w₁ w₂. RelW Pair w₁ w₂) (rel_closed Pair any_name any_value N' N sound.named) rel_body rel_pads id (B.type_by_id id) refl

    pub same_forward : (id : ℕ) → RelW Pair (forward_once Q N' B id (B.type_by_id id)) (forward N B id (B.type_by_id id))
    same_forward id = on_forward Q N' N B cnt wf.below (λ w₁ w₂. RelW Pair w₁ w₂) (rel_closed Pair any_name any_value N' N sound.named) rel_body rel_pads id (B.type_by_id id)

    -- ---- the machine, step by step (as in crates/spec_c_dumper/proofs/needs/AnyNames, where both machines are of one kind)
    abbrev Mine : Type 0
    Mine = Ls (Line-known St)

    abbrev Plain : Type 0
    Plain = Ls (Line-known U)

    abbrev Near : Mine → Plain → Type 0
    Near s t = Nearly Pair cnt s t

    module _ (mk : List ℕ → Piece) (s : Mine) (t : Plain) (h : Near s t) (v : St) (u : U) (r : Pair v u) where
      fitting_alike : (len : ℕ) (x : Text) → BothOut Near Pair (put_line mk s (fitting len v x)) (put_line mk t (fitting len u x))
      unfolding fitting
      fitting_alike len (whole a) = both_wrote _ _ (record {
        rest = ap {B = Ls ℕ} (λ (l : Ls ℕ). record { marks = l.marks; olist = l.olist; emits = l.emits; fwds = l.fwds; room = l.room; known = len + length a; pieces = l.pieces ++ (mk a ∷ []) }) h.rest;
        names = r;
        sized = record { marks_n = h.sized.marks_n; emits_n = h.sized.emits_n };
      })
      fitting_alike len (cut a c) = both_stuck v u r c

      room_alike : (v' : St) (u' : U) → Pair v' u' → (len : ℕ) (x : Text) (b : Bool)
          → BothOut Near Pair (put_line mk s (elim b [ true ↦ fitting len v x | false ↦ cannot v' 17 ])) (put_line mk t (elim b [ true ↦ fitting len u x | false ↦ cannot u' 17 ]))
      room_alike v' u' r' len x true = fitting_alike len x
      room_alike v' u' r' len x false = both_stuck v' u' r' 17

    line_alike : (mk : List ℕ → Piece) (s : Mine) (t : Plain) → Near s t → (room len : ℕ) (s₁ : Said St) (s₂ : Said U) → RelSaid Pair s₁ s₂
        → BothOut Near Pair (put_line mk s (line_of room len s₁)) (put_line mk t (line_of room len s₂))
    unfolding line_of names_at_stop
    line_alike mk s t h room len _ _ (same v u x k m r p) = room_alike mk s t h v u r _ _ (rel_at Pair p (smaller room 1073741824 - len) v u r) len x (leb (len + length (bytes x)) (smaller room 1073741824))

    -- the room and the length are the same on both
    line_by : (mk : List ℕ → Piece) (s : Mine) (t : Plain) → Near s t → (s₁ : Said St) (s₂ : Said U) → RelSaid Pair s₁ s₂
        → BothOut Near Pair (put_line mk s (line_of s.room s.known.text_len s₁)) (put_line mk t (line_of t.room t.known.text_len s₂))
    line_by mk s t h s₁ s₂ r =
        subst (λ (l : Ls ℕ). BothOut Near Pair (put_line mk s (line_of l.room l.known s₁)) (put_line mk t (line_of t.room t.known.text_len s₂))) (sym h.rest)
        (line_alike mk s t h t.room t.known.text_len s₁ s₂ r)

    fwd_alike : (s : Mine) (t : Plain) → Near s t → (x : ℕ) → x < cnt → BothOut Near Pair ((machine_once Q N' B).fwd_line s x) ((machine_by N B).fwd_line t x)
    fwd_alike s t h x l =
        line_by other s t h (forward_once Q N' B x (B.type_by_id x) s.known.names) (forward N B x (B.type_by_id x) t.known.names) (same_forward x s.known.names t.known.names h.names)

    def_alike : (mk : List ℕ → Piece) (s : Mine) (t : Plain) → Near s t → (x : ℕ)
        → BothOut Near Pair (put_line mk s (line_of s.room s.known.text_len (definition_once Q N' B x (B.type_by_id x) s.known.names))) (put_line mk t (line_of t.room t.known.text_len (definition N B x (B.type_by_id x) t.known.names)))
    def_alike mk s t h x =
        line_by mk s t h (definition_once Q N' B x (B.type_by_id x) s.known.names) (definition N B x (B.type_by_id x) t.known.names) (same_definition x s.known.names t.known.names h.names)

    pub machines_alike : AlikeMachine (machine_once Q N' B) (machine_by N B) cnt (Sized cnt) Near Pair
    machines_alike = record {
      a_store = record {
        a_good = λ s t h. h.sized;
        a_get = λ s t h x l. ap (λ (k : Ls ℕ). get_or k.marks x new) h.rest;
        a_mark = λ m x s t h l. record {
          rest = ap {B = Ls ℕ} (λ (k : Ls ℕ). record { marks = set k.marks x m; olist = k.olist; emits = k.emits; fwds = k.fwds; room = k.room; known = k.known; pieces = k.pieces }) h.rest;
          names = h.names;
          sized = record { marks_n = length-set t.marks x m ∙ h.sized.marks_n; emits_n = h.sized.emits_n };
        };
        a_push = λ x s t h l r. record {
          rest = ap {B = Ls ℕ} (λ (k : Ls ℕ). record { marks = k.marks; olist = k.olist ++ (x ∷ []); emits = k.emits; fwds = k.fwds; room = k.room; known = k.known; pieces = k.pieces }) h.rest;
          names = h.names;
          sized = record { marks_n = h.sized.marks_n; emits_n = h.sized.emits_n };
        };
      };
      a_list = λ s t h. ap (λ (k : Ls ℕ). k.olist) h.rest;
      a_start = λ r s t h. record {
        rest = ap {B = Ls ℕ} (λ (k : Ls ℕ). record { marks = k.marks; olist = []; emits = k.emits; fwds = k.fwds; room = r; known = k.known; pieces = k.pieces }) h.rest;
        names = h.names;
        sized = record { marks_n = h.sized.marks_n; emits_n = h.sized.emits_n };
      };
      a_eget = λ s t h x l. ap (λ (k : Ls ℕ). get_or k.emits x new) h.rest;
      a_emark = λ m x s t h l. record {
        rest = ap {B = Ls ℕ} (λ (k : Ls ℕ). record { marks = k.marks; olist = k.olist; emits = set k.emits x m; fwds = k.fwds; room = k.room; known = k.known; pieces = k.pieces }) h.rest;
        names = h.names;
        sized = record { marks_n = h.sized.marks_n; emits_n = length-set t.emits x m ∙ h.sized.emits_n };
      };
      a_has = λ s t h x l. ap (λ (k : Ls ℕ). get_or k.fwds x false) h.rest;
      a_forwarded = λ x s t h l. record {
        rest = ap {B = Ls ℕ} (λ (k : Ls ℕ). record { marks = k.marks; olist = k.olist; emits = k.emits; fwds = set k.fwds x true; room = k.room; known = k.known; pieces = k.pieces }) h.rest;
        names = h.names;
        sized = record { marks_n = h.sized.marks_n; emits_n = h.sized.emits_n };
      };
      a_fwd = fwd_alike;
      a_alias = fwd_alike;
      a_leaf = λ s t h x l. def_alike other s t h x;
      a_body = λ s t h x l. def_alike (defines x) s t h x;
      a_held = λ s t h. h.names;
      a_leaving = λ v u r s t h. record { rest = h.rest; names = sound.named.rel_leaving v u r s.known.names t.known.names h.names; sized = record { marks_n = h.sized.marks_n; emits_n = h.sized.emits_n } };
    }

    answer_alike : (S₁ : Sess Mine) (S : Sess Plain) → BothSess Near S₁ S → (r : Req) → BothAnswer Near (answer_once Q N' B S₁ r) (answer_to N B S r)
    unfolding answer_once answer_to
    answer_alike S₁ S h (one room x) = single_alike (machine_once Q N' B) (machine_by N B) (table_of B) (Sized cnt) (machine_lawful N B cnt) wf.below Near Pair machines_alike room S₁ S h x
    answer_alike S₁ S h (all room) = every_alike (machine_once Q N' B) (machine_by N B) (table_of B) (Sized cnt) (machine_lawful N B cnt) wf.below Near Pair machines_alike room S₁ S h

    dumped_alike : (rs : List Req) (ns : List (ℕ × ℕ)) (S₁ : Sess Mine) (S : Sess Plain) → BothSess Near S₁ S → dumped_once Q N' B ns rs S₁ ≡ dumped N B ns rs S
    unfolding dumped dumped_once
    dumped_alike [] ns S₁ S h = ap (λ (k : Ls ℕ). dump ns (text_of k.pieces)) h.alike.rest
    dumped_alike (r ∷ rs) ns S₁ S h =
        let a = answer_alike S₁ S h r in
        dumped_alike rs (ns ++ (((answer_once Q N' B S₁ r).number, (answer_once Q N' B S₁ r).sess.mach.known.text_len) ∷ [])) (answer_once Q N' B S₁ r).sess (answer_to N B S r).sess a.sessions
        ∙ ap (λ (p : ℕ × ℕ). dumped N B (ns ++ (p ∷ [])) rs (answer_to N B S r).sess) (λ i. (a.same_number i, ap (λ (k : Ls ℕ). k.known) a.sessions.alike.rest i))

    after_pair : (rs : List Req) (S₁ : Sess Mine) (S : Sess Plain) → BothSess Near S₁ S → (u : U) × Pair (after_once Q N' B rs S₁).mach.known.names u
    unfolding after_once
    after_pair [] S₁ S h = (S.mach.known.names, h.alike.names)
    after_pair (r ∷ rs) S₁ S h = after_pair rs (answer_once Q N' B S₁ r).sess (answer_to N B S r).sess (answer_alike S₁ S h r).sessions

    pub starts : (v : St) (u : U) → Pair v u → BothSess Near (opened_by N' B v) (opened_by N B u)
    unfolding afresh
    starts v u r = record {
      same_open = refl;
      same_asked = refl;
      alike = record { rest = refl; names = r; sized = record { marks_n = length-replicate cnt new; emits_n = length-replicate cnt new } };
    }

    -- the same numbers, lengths and text
    pub same_session : (v : St) (u : U) → Pair v u → (rs : List Req) → dumped_once Q N' B [] rs (opened_by N' B v) ≡ dumped N B [] rs (opened_by N B u)
    same_session v u r rs = dumped_alike rs [] (opened_by N' B v) (opened_by N B u) (starts v u r)

    -- and states that are Pair
    pub session_pair : (v : St) (u : U) → Pair v u → (rs : List Req) → (x : U) × Pair (after_once Q N' B rs (opened_by N' B v)).mach.known.names x
    session_pair v u r rs = after_pair rs (opened_by N' B v) (opened_by N B u) (starts v u r)

-- ---- names and memory side by side
module _ {U M : Type 0} (K : Keep M) (N : Naming U) (B : Btf) (Good : M → Type 0) (Fits : Remembered → Type 0) (law : Lawful K B.type_cnt Good Fits)
    (fits : (id : ℕ) (s : Remembered) → Tells B id s → s.height ≤ 512 → Fits s) (wf : WF (table_of B)) (ends : (id : ℕ) → B.type_cnt ≤ id → B.type_by_id id ≡ Void) where
  abbrev Fine : M → ℕ → Type 0
  Fine m k = Honest K B B.type_cnt Good Fits law fits wf.below Nothing (λ left id b m k l r g a. no_more (align_once K left B id m k)) m k

  -- the same names beside a right memory
  abbrev pub Beside : Remembering U M → U → Type 0
  Beside v u = (v.names ≡ u) × Fine v.memory v.visits

  carried_fair : {A : Type 0} (v : Remembering U M) (u : U) → Beside v u → (x : Ask A) (r : Once M A) → Fair K B B.type_cnt Good Fits law fits wf.below Nothing (λ left id b m k l r g a. no_more (align_once K left B id m k)) x r → Kept (remembering_asks K B) (remembering_names N) N B wf ends Beside u x (carried v r)
  unfolding carried
  carried_fair v u h x (found a m k) f = (f.0, (h.0, f.1))
  carried_fair v u h x (refused c m k) f = f

  pub remembering_sound : Sound (remembering_asks K B) (remembering_names N) N B wf ends Beside
  remembering_sound = record {
    named = record {
      rel_type = λ space id name fit e v u r. (ap (λ (w : U). (N.type_version space id name w).passes) r.0, ap (λ (w : U). (N.type_version space id name w).version) r.0, (ap (λ (w : U). (N.type_version space id name w).names) r.0, r.1));
      rel_value = λ id i name fit v u r. (ap (λ (w : U). (N.value_version id i name w).passes) r.0, ap (λ (w : U). (N.value_version id i name w).version) r.0, (ap (λ (w : U). (N.value_version id i name w).names) r.0, r.1));
      rel_leaving = λ v₁ u₁ r₁ v u r. (ap₂ N.leaving r₁.0 r.0, r.1);
    };
    bodies = λ id s name sz ms e l v u r. carried_fair v u r (body_packed B s sz ms) (body_once K B s id sz ms v.memory v.visits) (fair_body K B B.type_cnt Good Fits law fits wf.below Nothing (λ left id b m k l r g a. no_more (align_once K left B id m k)) id l s name sz ms e v.memory v.visits r.1);
    pads = λ offset x packed l v u r. carried_fair v u r (bit_padding B offset x packed) (padding_once K B offset x packed v.memory v.visits) (fair_padding K B B.type_cnt Good Fits law fits wf.below Nothing (λ left id b m k l r g a. no_more (align_once K left B id m k)) offset x packed l v.memory v.visits r.1);
  }

  -- from opening on, with nothing remembered
  module _ (u : U) (m : M) (g : Good m) (none : (id : ℕ) → K.recall m id ≡ unknown) where
    pub begins : Beside (no_visits u m) u
    begins = (refl, record { right = λ id s e. absurd (known_unknown s (sym (none id) ∙ e)); good = g; visits = sym (paid_none B (K.recall m) none B.type_cnt); also = tt })

    -- the same numbers, lengths and text
    pub remembering_session : (rs : List Req) → dumped_once (remembering_asks K B) (remembering_names N) B [] rs (opened_by (remembering_names N) B (no_visits u m)) ≡ dumped N B [] rs (opened_by N B u)
    remembering_session rs = same_session (remembering_asks K B) (remembering_names N) N B wf ends Beside remembering_sound (no_visits u m) u begins rs

    abbrev after : List Req → Remembering U M
    after rs = (after_once (remembering_asks K B) (remembering_names N) B rs (opened_by (remembering_names N) B (no_visits u m))).mach.known.names

    -- the memory is right, and the visits are those of the types in it and their members
    pub session_fine : (rs : List Req) → Fine (after rs).memory (after rs).visits
    session_fine rs = (session_pair (remembering_asks K B) (remembering_names N) N B wf ends Beside remembering_sound (no_visits u m) u begins rs).1.1

    -- "at most types plus members"
    pub session_visits : (rs : List Req) → (after rs).visits ≤ B.type_cnt + members_to B B.type_cnt
    session_visits rs = at_most K B B.type_cnt Good Fits law fits wf.below Nothing (λ left id b m k l r g a. no_more (align_once K left B id m k)) (after rs).memory (after rs).visits (session_fine rs)
