-- The notes change nothing: the session with notes has the pieces of the rules' session, one note for each.
use Prim.Native.Nat.{ℕ, ◌+◌, ◌-◌, ◌<◌}
use mathlib.Core.Path.{◌≡◌, refl, sym, ◌∙◌, ap, ap₂, subst}
use mathlib.Core.Bool.{Bool, true, false}
use mathlib.Core.List.{List, [], ◌∷◌, ◌++◌}
use lib.ListN.{length, get_or, set, length-set, length-replicate}
use lib.Dec.{leb}
use Rattle.spec_bytes.specs.text.Text.{Text, whole, cut, bytes}
use Rattle.spec_c_dumper.specs.rules.Order.{new}
use Rattle.spec_c_dumper.specs.rules.Machine.{Req, run}
use Rattle.spec_c_dumper.specs.rules.Writer.{Said}
use Rattle.spec_c_dumper.specs.rules.Types.{Btf, table_of}
use Rattle.spec_c_dumper.specs.rules.Layout.{smaller}
use Rattle.spec_c_dumper.specs.rules.Names.{Naming}
use Rattle.spec_c_dumper.specs.rules.Emit.{definition, forward}
use Rattle.spec_c_dumper.proofs.rules.Keeps.{any_name, any_value, type_fits}
use Rattle.spec_c_dumper.proofs.rules.Related.{RelSaid, same, rel_at, RelNaming, rel_definition, rel_forward}
use Rattle.spec_c_dumper.specs.needs.Needs.{WF}
use Rattle.spec_c_dumper.specs.needs.Lists.{Piece, defines, other, cannot, Ls, put_line, afresh}
use Rattle.spec_c_dumper.specs.needs.Session.{Known, names_at_stop, fitting, line_of, machine_by, opened_by}
use Rattle.spec_c_dumper.proofs.needs.Lists.{Sized}
use Rattle.spec_c_dumper.proofs.needs.Session.{machine_lawful}
use Rattle.spec_c_dumper.proofs.needs.Alike.{AlikeMachine, BothOut, both_wrote, both_stuck, BothSess, run_alike}
use Rattle.spec_declared_first.specs.Notes.{Asked, noting, Note, Seen, with_note, unasked, notes_machine, notes_opened, notes_by, pieces_in}

pieces_append : (a b : List Note) → pieces_in (a ++ b) ≡ pieces_in a ++ pieces_in b
pieces_append [] b = refl
pieces_append (p ∷ a) b = ap {B = List Piece} (λ l. p.piece ∷ l) (pieces_append a b)

-- all but the notes
abbrev forget : {U : Type 0} → Ls (Seen U) → Ls (Known U)
forget s = record { marks = s.marks; olist = s.olist; emits = s.emits; fwds = s.fwds; room = s.room; known = s.known.known; pieces = s.pieces }

module _ {U : Type 0} (N : Naming U) (B : Btf) where
  abbrev SameNames : Asked U → U → Type 0
  SameNames a u = a.names ≡ u

  same_naming : RelNaming SameNames any_name any_value (noting N) N
  same_naming = record {
    rel_type = λ space id name fit e a u r. (ap (λ (k : U). (N.type_version space id name k).passes) r, ap (λ (k : U). (N.type_version space id name k).version) r, ap (λ (k : U). (N.type_version space id name k).names) r);
    rel_value = λ id i name fit a u r. (ap (λ (k : U). (N.value_version id i name k).passes) r, ap (λ (k : U). (N.value_version id i name k).version) r, ap (λ (k : U). (N.value_version id i name k).names) r);
    rel_leaving = λ b v q a u r. ap₂ N.leaving q r;
  }

  pub record Near (s : Ls (Seen U)) (t : Ls (Known U)) : Type 0 where
    pub rest : forget s ≡ t
    pub each : pieces_in s.known.notes ≡ s.pieces
    pub sized : Sized B.type_cnt t

  module _ (mk : List ℕ → Piece) (x : ℕ) (s : Ls (Seen U)) (e : pieces_in s.known.notes ≡ s.pieces) (z : Sized B.type_cnt (forget s)) where
    fitting_near : (len : ℕ) (a : Asked U) (u : U) → a.names ≡ u → (t : Text) → BothOut Near (λ (v w : U). v ≡ w) (put_line mk s (with_note mk x s.known (fitting len a t))) (put_line mk (forget s) (fitting len u t))
    unfolding fitting
    fitting_near len a u r (whole b) = both_wrote _ _ (record {
      rest = ap {B = Ls (Known U)} (λ (k : U). record { marks = s.marks; olist = s.olist; emits = s.emits; fwds = s.fwds; room = s.room; known = record { names = k; text_len = len + length b }; pieces = s.pieces ++ (mk b ∷ []) }) r;
      each = pieces_append s.known.notes (record { piece = mk b; id = x; mentions = a.mentions } ∷ []) ∙ ap (λ (k : List Piece). k ++ (mk b ∷ [])) e;
      sized = record { marks_n = z.marks_n; emits_n = z.emits_n };
    })
    fitting_near len a u r (cut b c) = both_stuck a.names u r c

    said_near : (room len : ℕ) (s₁ : Said (Asked U)) (s₂ : Said U) → RelSaid SameNames s₁ s₂ → BothOut Near (λ (v w : U). v ≡ w) (put_line mk s (with_note mk x s.known (line_of room len s₁))) (put_line mk (forget s) (line_of room len s₂))
    unfolding line_of names_at_stop
    said_near room len _ _ (same a u t k m r p) = go _ _ (rel_at SameNames p (smaller room 1073741824 - len) a u r) (leb (len + length (bytes t)) (smaller room 1073741824))
      where
        go : (a' : Asked U) (u' : U) → a'.names ≡ u' → (b : Bool) → BothOut Near (λ (v w : U). v ≡ w) (put_line mk s (with_note mk x s.known (elim b [ true ↦ fitting len a t | false ↦ cannot a' 17 ]))) (put_line mk (forget s) (elim b [ true ↦ fitting len u t | false ↦ cannot u' 17 ]))
        go a' u' q true = fitting_near len a u r t
        go a' u' q false = both_stuck a'.names u' q 17

  fwd_near : (s : Ls (Seen U)) (t : Ls (Known U)) → Near s t → (x : ℕ) → x < B.type_cnt → BothOut Near (λ (v w : U). v ≡ w) ((notes_machine N B).fwd_line s x) ((machine_by N B).fwd_line t x)
  fwd_near s t h x l =
      subst (λ (k : Ls (Known U)). BothOut Near (λ (v w : U). v ≡ w) ((notes_machine N B).fwd_line s x) ((machine_by N B).fwd_line k x)) h.rest
      (said_near other x s h.each (subst (Sized B.type_cnt) (sym h.rest) h.sized) s.room s.known.known.text_len
      (forward (noting N) B x (B.type_by_id x) (unasked s.known)) (forward N B x (B.type_by_id x) s.known.known.names)
      (rel_forward SameNames any_name any_value (noting N) N same_naming B (λ y. type_fits y (B.type_by_id y)) x (B.type_by_id x) (type_fits x (B.type_by_id x)) (unasked s.known) s.known.known.names refl))

  def_near : (mk : List ℕ → Piece) (x : ℕ) (s : Ls (Seen U)) (t : Ls (Known U)) → Near s t
      → BothOut Near (λ (v w : U). v ≡ w) (put_line mk s (with_note mk x s.known (line_of s.room s.known.known.text_len (definition (noting N) B x (B.type_by_id x) (unasked s.known))))) (put_line mk t (line_of t.room t.known.text_len (definition N B x (B.type_by_id x) t.known.names)))
  def_near mk x s t h =
      subst (λ (k : Ls (Known U)). BothOut Near (λ (v w : U). v ≡ w) (put_line mk s (with_note mk x s.known (line_of s.room s.known.known.text_len (definition (noting N) B x (B.type_by_id x) (unasked s.known))))) (put_line mk k (line_of k.room k.known.text_len (definition N B x (B.type_by_id x) k.known.names)))) h.rest
      (said_near mk x s h.each (subst (Sized B.type_cnt) (sym h.rest) h.sized) s.room s.known.known.text_len
      (definition (noting N) B x (B.type_by_id x) (unasked s.known)) (definition N B x (B.type_by_id x) s.known.known.names)
      (rel_definition SameNames any_name any_value (noting N) N same_naming B (λ y. type_fits y (B.type_by_id y)) x (B.type_by_id x) (type_fits x (B.type_by_id x)) (unasked s.known) s.known.known.names refl))

  notes_alike : AlikeMachine (notes_machine N B) (machine_by N B) B.type_cnt (Sized B.type_cnt) Near (λ v u. v ≡ u)
  notes_alike = record {
    a_store = record {
      a_good = λ s t h. h.sized;
      a_get = λ s t h x l. ap (λ (k : Ls (Known U)). get_or k.marks x new) h.rest;
      a_mark = λ m x s t h l. record {
        rest = ap {B = Ls (Known U)} (λ (k : Ls (Known U)). record { marks = set k.marks x m; olist = k.olist; emits = k.emits; fwds = k.fwds; room = k.room; known = k.known; pieces = k.pieces }) h.rest;
        each = h.each;
        sized = record { marks_n = length-set t.marks x m ∙ h.sized.marks_n; emits_n = h.sized.emits_n };
      };
      a_push = λ x s t h l r. record {
        rest = ap {B = Ls (Known U)} (λ (k : Ls (Known U)). record { marks = k.marks; olist = k.olist ++ (x ∷ []); emits = k.emits; fwds = k.fwds; room = k.room; known = k.known; pieces = k.pieces }) h.rest;
        each = h.each;
        sized = record { marks_n = h.sized.marks_n; emits_n = h.sized.emits_n };
      };
    };
    a_list = λ s t h. ap (λ (k : Ls (Known U)). k.olist) h.rest;
    a_start = λ r s t h. record {
      rest = ap {B = Ls (Known U)} (λ (k : Ls (Known U)). record { marks = k.marks; olist = []; emits = k.emits; fwds = k.fwds; room = r; known = k.known; pieces = k.pieces }) h.rest;
      each = h.each;
      sized = record { marks_n = h.sized.marks_n; emits_n = h.sized.emits_n };
    };
    a_eget = λ s t h x l. ap (λ (k : Ls (Known U)). get_or k.emits x new) h.rest;
    a_emark = λ m x s t h l. record {
      rest = ap {B = Ls (Known U)} (λ (k : Ls (Known U)). record { marks = k.marks; olist = k.olist; emits = set k.emits x m; fwds = k.fwds; room = k.room; known = k.known; pieces = k.pieces }) h.rest;
      each = h.each;
      sized = record { marks_n = h.sized.marks_n; emits_n = length-set t.emits x m ∙ h.sized.emits_n };
    };
    a_has = λ s t h x l. ap (λ (k : Ls (Known U)). get_or k.fwds x false) h.rest;
    a_forwarded = λ x s t h l. record {
      rest = ap {B = Ls (Known U)} (λ (k : Ls (Known U)). record { marks = k.marks; olist = k.olist; emits = k.emits; fwds = set k.fwds x true; room = k.room; known = k.known; pieces = k.pieces }) h.rest;
      each = h.each;
      sized = record { marks_n = h.sized.marks_n; emits_n = h.sized.emits_n };
    };
    a_fwd = fwd_near;
    a_alias = fwd_near;
    a_leaf = λ s t h x l. def_near other x s t h;
    a_body = λ s t h x l. def_near (defines x) x s t h;
    a_held = λ s t h. ap (λ (k : Ls (Known U)). k.known.names) h.rest;
    a_leaving = λ v u r s t h. record {
      rest = λ i. (machine_by N B).leaving (r i) (h.rest i);
      each = h.each;
      sized = record { marks_n = h.sized.marks_n; emits_n = h.sized.emits_n };
    };
  }

  module _ (wf : WF (table_of B)) (u : U) (rs : List Req) where
    sessions : BothSess Near (run (notes_machine N B) (table_of B) rs (notes_opened N B u)) (run (machine_by N B) (table_of B) rs (opened_by N B u))
    unfolding afresh
    sessions = run_alike (notes_machine N B) (machine_by N B) (table_of B) (Sized B.type_cnt) (machine_lawful N B B.type_cnt) wf.below Near (λ v u. v ≡ u) notes_alike rs (notes_opened N B u) (opened_by N B u) (record {
      same_open = refl;
      same_asked = refl;
      alike = record { rest = refl; each = refl; sized = record { marks_n = length-replicate B.type_cnt new; emits_n = length-replicate B.type_cnt new } };
    })

    -- the pieces of the notes are the pieces of the rules
    pub notes_pieces : pieces_in (notes_by N B u rs) ≡ (run (machine_by N B) (table_of B) rs (opened_by N B u)).mach.pieces
    notes_pieces = sessions.alike.each ∙ ap (λ (k : Ls (Known U)). k.pieces) sessions.alike.rest
