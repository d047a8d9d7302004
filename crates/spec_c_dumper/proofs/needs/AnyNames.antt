-- Two ways of keeping names that are related give the same text and the same answers, for every list of requests. Assumes nothing.
use Prim.Native.Nat.{ℕ, ◌+◌, ◌-◌, ◌<◌}
use mathlib.Core.Path.{◌≡◌, refl, ap, ◌∙◌, sym, subst}
use mathlib.Core.Bool.{Bool, true, false}
use mathlib.Core.List.{List, [], ◌∷◌, ◌++◌}
use lib.ListN.{length, get_or, set, length-set, length-replicate}
use lib.Dec.{leb}
use Rattle.spec_bytes.specs.text.Text.{Text, whole, cut, bytes}
use Rattle.spec_c_dumper.specs.rules.Order.{new}
use Rattle.spec_c_dumper.specs.rules.Machine.{Sess, Req, one, all}
use Rattle.spec_c_dumper.specs.rules.Writer.{Said}
use Rattle.spec_c_dumper.specs.rules.Types.{Name, Btf, table_of}
use Rattle.spec_c_dumper.specs.rules.Layout.{smaller}
use Rattle.spec_c_dumper.specs.rules.Names.{Space, Naming}
use Rattle.spec_c_dumper.specs.rules.Emit.{definition, forward}
use Rattle.spec_c_dumper.proofs.rules.Closed.{TypeFits}
use Rattle.spec_c_dumper.proofs.rules.Related.{RelSaid, same, rel_at, RelNaming, rel_definition, rel_forward}
use Rattle.spec_c_dumper.specs.needs.Needs.{WF}
use Rattle.spec_c_dumper.specs.needs.Lists.{Piece, defines, other, cannot, Ls, put_line, afresh}
use Rattle.spec_c_dumper.specs.needs.Session.{Known, names_at_stop, fitting, line_of, lines_by, machine_by, opened_by, text_of, dump, answer_to, dumped}
use Rattle.spec_c_dumper.proofs.needs.Lists.{Sized}
use Rattle.spec_c_dumper.proofs.needs.Session.{machine_lawful}
use Rattle.spec_c_dumper.proofs.needs.Alike.{AlikeMachine, BothOut, both_wrote, both_stuck, BothSess, BothAnswer, single_alike, every_alike}

-- all but the names
abbrev strip : {U : Type 0} → Ls (Known U) → Ls ℕ
strip s = record { marks = s.marks; olist = s.olist; emits = s.emits; fwds = s.fwds; room = s.room; known = s.known.text_len; pieces = s.pieces }

module _ {U W : Type 0} (R : U → W → Type 0) (n : ℕ) where
  -- equal but for the names, which are related
  pub record Nearly (s : Ls (Known U)) (t : Ls (Known W)) : Type 0 where
    pub rest : strip s ≡ strip t
    pub names : R s.known.names t.known.names
    pub sized : Sized n t

  module _ (mk : List ℕ → Piece) (s : Ls (Known U)) (t : Ls (Known W)) (h : Nearly s t) (u : U) (w : W) (r : R u w) where
    fitting_alike : (len : ℕ) (x : Text) → BothOut Nearly R (put_line mk s (fitting len u x)) (put_line mk t (fitting len w x))
    unfolding fitting
    fitting_alike len (whole a) = both_wrote _ _ (record {
      rest = ap {B = Ls ℕ} (λ (l : Ls ℕ). record { marks = l.marks; olist = l.olist; emits = l.emits; fwds = l.fwds; room = l.room; known = len + length a; pieces = l.pieces ++ (mk a ∷ []) }) h.rest;
      names = r;
      sized = record { marks_n = h.sized.marks_n; emits_n = h.sized.emits_n };
    })
    fitting_alike len (cut a c) = both_stuck u w r c

    room_alike : (u' : U) (w' : W) → R u' w' → (len : ℕ) (x : Text) (b : Bool)
        → BothOut Nearly R (put_line mk s (elim b [ true ↦ fitting len u x | false ↦ cannot u' 17 ])) (put_line mk t (elim b [ true ↦ fitting len w x | false ↦ cannot w' 17 ]))
    room_alike u' w' r' len x true = fitting_alike len x
    room_alike u' w' r' len x false = both_stuck u' w' r' 17

  line_alike : (mk : List ℕ → Piece) (s : Ls (Known U)) (t : Ls (Known W)) → Nearly s t → (room len : ℕ) (s₁ : Said U) (s₂ : Said W) → RelSaid R s₁ s₂
      → BothOut Nearly R (put_line mk s (line_of room len s₁)) (put_line mk t (line_of room len s₂))
  unfolding line_of names_at_stop
  line_alike mk s t h room len _ _ (same u w x k m r p) = room_alike mk s t h u w r _ _ (rel_at R p (smaller room 1073741824 - len) u w r) len x (leb (len + length (bytes x)) (smaller room 1073741824))

  -- the room and the length are the same on both
  line_by : (mk : List ℕ → Piece) (s : Ls (Known U)) (t : Ls (Known W)) → Nearly s t → (s₁ : Said U) (s₂ : Said W) → RelSaid R s₁ s₂
      → BothOut Nearly R (put_line mk s (line_of s.room s.known.text_len s₁)) (put_line mk t (line_of t.room t.known.text_len s₂))
  line_by mk s t h s₁ s₂ r =
      subst (λ (l : Ls ℕ). BothOut Nearly R (put_line mk s (line_of l.room l.known s₁)) (put_line mk t (line_of t.room t.known.text_len s₂))) (sym h.rest)
      (line_alike mk s t h t.room t.known.text_len s₁ s₂ r)

module _ {U W : Type 0} (R : U → W → Type 0) (Fits : Space → ℕ → Name → Type 0) (FitsValue : ℕ → ℕ → Name → Type 0) (N₁ : Naming U) (N₂ : Naming W) (related : RelNaming R Fits FitsValue N₁ N₂)
    (B : Btf) (fits : (id : ℕ) → TypeFits Fits FitsValue id (B.type_by_id id)) where
  abbrev Near : Ls (Known U) → Ls (Known W) → Type 0
  Near s t = Nearly R B.type_cnt s t

  fwd_alike : (s : Ls (Known U)) (t : Ls (Known W)) → Near s t → (x : ℕ) → x < B.type_cnt → BothOut Near R ((machine_by N₁ B).fwd_line s x) ((machine_by N₂ B).fwd_line t x)
  fwd_alike s t h x l =
      line_by R B.type_cnt other s t h (forward N₁ B x (B.type_by_id x) s.known.names) (forward N₂ B x (B.type_by_id x) t.known.names)
      (rel_forward R Fits FitsValue N₁ N₂ related B fits x (B.type_by_id x) (fits x) s.known.names t.known.names h.names)

  def_alike : (mk : List ℕ → Piece) (s : Ls (Known U)) (t : Ls (Known W)) → Near s t → (x : ℕ)
      → BothOut Near R (put_line mk s ((lines_by N₁ B).body' s.room s.known x)) (put_line mk t ((lines_by N₂ B).body' t.room t.known x))
  def_alike mk s t h x =
      line_by R B.type_cnt mk s t h (definition N₁ B x (B.type_by_id x) s.known.names) (definition N₂ B x (B.type_by_id x) t.known.names)
      (rel_definition R Fits FitsValue N₁ N₂ related B fits x (B.type_by_id x) (fits x) s.known.names t.known.names h.names)

  pub names_alike : AlikeMachine (machine_by N₁ B) (machine_by N₂ B) B.type_cnt (Sized B.type_cnt) Near R
  names_alike = record {
    a_store = record {
      a_good = λ s t h. h.sized;
      a_get = λ s t h x l. ap (λ (k : Ls ℕ). get_or k.marks x new) h.rest;
      a_mark = λ m x s t h l. record {
        rest = ap {B = Ls ℕ} (λ (k : Ls ℕ). record { marks = set k.marks x m; olist = k.olist; emits = k.emits; fwds = k.fwds; room = k.room; known = k.known; pieces = k.pieces }) h.rest;
        names = h.names;
        sized = record { marks_n = length-set t.marks x m ∙ h.sized.marks_n; emits_n = h.sized.emits_n };
      };
      a_push = λ x s t h l r. record {
        rest = ap {B = Ls ℕ} (λ (k : Ls ℕ). record { marks = k.marks; olist = k.olist ++ (x ∷ []); emits = k.emits; fwds = k.fwds; room = k.room; known = k.known; pieces = k.pieces }) h.rest;
        names = h.names;
        sized = record { marks_n = h.sized.marks_n; emits_n = h.sized.emits_n };
      };
    };
    a_list = λ s t h. ap (λ (k : Ls ℕ). k.olist) h.rest;
    a_start = λ r s t h. record {
      rest = ap {B = Ls ℕ} (λ (k : Ls ℕ). record { marks = k.marks; olist = []; emits = k.emits; fwds = k.fwds; room = r; known = k.known; pieces = k.pieces }) h.rest;
      names = h.names;
      sized = record { marks_n = h.sized.marks_n; emits_n = h.sized.emits_n };
    };
    a_eget = λ s t h x l. ap (λ (k : Ls ℕ). get_or k.emits x new) h.rest;
    a_emark = λ m x s t h l. record {
      rest = ap {B = Ls ℕ} (λ (k : Ls ℕ). record { marks = k.marks; olist = k.olist; emits = set k.emits x m; fwds = k.fwds; room = k.room; known = k.known; pieces = k.pieces }) h.rest;
      names = h.names;
      sized = record { marks_n = h.sized.marks_n; emits_n = length-set t.emits x m ∙ h.sized.emits_n };
    };
    a_has = λ s t h x l. ap (λ (k : Ls ℕ). get_or k.fwds x false) h.rest;
    a_forwarded = λ x s t h l. record {
      rest = ap {B = Ls ℕ} (λ (k : Ls ℕ). record { marks = k.marks; olist = k.olist; emits = k.emits; fwds = set k.fwds x true; room = k.room; known = k.known; pieces = k.pieces }) h.rest;
      names = h.names;
      sized = record { marks_n = h.sized.marks_n; emits_n = h.sized.emits_n };
    };
    a_fwd = fwd_alike;
    a_alias = fwd_alike;
    a_leaf = λ s t h x l. def_alike other s t h x;
    a_body = λ s t h x l. def_alike (defines x) s t h x;
    a_held = λ s t h. h.names;
    a_leaving = λ u w r s t h. record { rest = h.rest; names = related.rel_leaving u w r s.known.names t.known.names h.names; sized = record { marks_n = h.sized.marks_n; emits_n = h.sized.emits_n } };
  }

  module _ (below : WF (table_of B)) where
    answer_alike : (S₁ : Sess (Ls (Known U))) (S : Sess (Ls (Known W))) → BothSess Near S₁ S → (r : Req) → BothAnswer Near (answer_to N₁ B S₁ r) (answer_to N₂ B S r)
    unfolding answer_to
    answer_alike S₁ S h (one room x) = single_alike (machine_by N₁ B) (machine_by N₂ B) (table_of B) (Sized B.type_cnt) (machine_lawful N₂ B B.type_cnt) below.below Near R names_alike room S₁ S h x
    answer_alike S₁ S h (all room) = every_alike (machine_by N₁ B) (machine_by N₂ B) (table_of B) (Sized B.type_cnt) (machine_lawful N₂ B B.type_cnt) below.below Near R names_alike room S₁ S h

    dumped_alike : (rs : List Req) (ns : List (ℕ × ℕ)) (S₁ : Sess (Ls (Known U))) (S : Sess (Ls (Known W))) → BothSess Near S₁ S → dumped N₁ B ns rs S₁ ≡ dumped N₂ B ns rs S
    unfolding dumped
    dumped_alike [] ns S₁ S h = ap (λ (k : Ls ℕ). dump ns (text_of k.pieces)) h.alike.rest
    dumped_alike (r ∷ rs) ns S₁ S h =
        let a = answer_alike S₁ S h r in
        dumped_alike rs (ns ++ (((answer_to N₁ B S₁ r).number, (answer_to N₁ B S₁ r).sess.mach.known.text_len) ∷ [])) (answer_to N₁ B S₁ r).sess (answer_to N₂ B S r).sess a.sessions
        ∙ ap (λ (p : ℕ × ℕ). dumped N₂ B (ns ++ (p ∷ [])) rs (answer_to N₂ B S r).sess) (λ i. (a.same_number i, ap (λ (k : Ls ℕ). k.known) a.sessions.alike.rest i))

    -- the same numbers, lengths and text
    pub dumps_alike : (u : U) (w : W) → R u w → (rs : List Req) → dumped N₁ B [] rs (opened_by N₁ B u) ≡ dumped N₂ B [] rs (opened_by N₂ B w)
    unfolding afresh
    dumps_alike u w r rs = dumped_alike rs [] (opened_by N₁ B u) (opened_by N₂ B w) (record {
      same_open = refl;
      same_asked = refl;
      alike = record { rest = refl; names = r; sized = record { marks_n = length-replicate B.type_cnt new; emits_n = length-replicate B.type_cnt new } };
    })
