-- One entry a line, in the text's order, with the causes of the ordering and emission rules: over plain lists, with any way of keeping names.
-- Assumes nothing.
use Prim.Native.Nat.{ℕ, zero, suc, ◌+◌, ◌*◌, ◌-◌, ◌≤◌}
use mathlib.Core.Path.{◌≡◌, refl, ap, ◌∙◌, sym, subst}
use mathlib.Core.Bool.{Bool, true, false, not, ◌&&◌, ◌||◌, true≢false}
use mathlib.Core.List.Memᴰ
use mathlib.Core.List.{List, [], ◌∷◌, ◌++◌, append-nil, append_assoc, Memᴰ}
use native.Mathlib.Omega.{arith}
use lib.ListN.{length, length-append, get_or}
use lib.Dec.{ltb, leb, eqb}
use borrow.Author.Tests.{eqb-true, eqb-false}
use Rattle.std.proofs.lemmas.Bool.{or_right}
use Rattle.spec_bytes.specs.text.Text.{ascii, Text, whole, cut, join, bytes}
use Rattle.spec_c_dumper.specs.rules.Order.{Node, ignored, plain, listed, through, ptr, tdef, proto, comp, Table, is_comp, Mark, new, busy, Res, ok, refused}
use Rattle.spec_c_dumper.specs.rules.Machine.{Out, wrote, stuck, Machine, eeach, emit, Sess, Answer, shut, single}
use Rattle.spec_c_dumper.specs.rules.Writer.{Said, said, Writer, after, next, put, ◌⨾◌}
use Rattle.spec_c_dumper.specs.rules.Types.{Name, BtfType, Void, Int, Ptr, Array, Composite, Enum, Enum64, Fwd, Typedef, Mod, Func, Var, Datasec, FuncProto, Float, DeclTag, TypeTag, Btf, name_of, node_of, table_of}
use Rattle.spec_c_dumper.specs.rules.Layout.{smaller}
use Rattle.spec_c_dumper.specs.rules.Names.{Naming, builtin}
use Rattle.spec_c_dumper.specs.rules.Decl.{emit_composite_fwd, emit_fwd_def, enum_value, enum64_value, emit_enum_def, emit_composite_def, emit_typedef_def}
use Rattle.spec_c_dumper.specs.rules.Emit.{line_end, definition, shown, forward}
use Rattle.spec_c_dumper.specs.needs.Lists.{Piece, defines, other, cannot, Ls, put_line}
use Rattle.spec_c_dumper.specs.needs.Session.{Known, fitting, line_of, lines_by, machine_by, text_of}
use Rattle.spec_c_dumper.specs.origins.Causes.{Entry, entry, led_by, WithLeaders, leader_store, order_with_leaders, leader_of, listed_entry, Traced, with_entries, line, cause_at, noting, emit_traced, shows_in, always, Explaining, untold, dropped, emitted_traced, each_listed, ordered_traced, gate_traced, single_traced, onward_traced, list_traced, from_traced, every_traced}
use Rattle.spec_c_dumper.specs.origins.Claims.{itself, is_listed, LedTo, Numbered}
use Rattle.spec_c_dumper.specs.origins.Lines.{is_typedef, is_forward, Ended, writer_of, piece_of, Pairs, none, more, blank, Grown, listed_ids, Inside, Caused, requested, needed, forwarded, early, notes_of, leaders_for, Turns, no_turn, turn}
use Rattle.spec_c_dumper.specs.origins.Causes.{ids_from}
use Rattle.spec_c_dumper.proofs.origins.Ordering.{Holds, holds, none as nothing_held, Around, outermost, AllLedTo, order_keeps, push_leader, ids_append, first_led_to, first_is_leader, NotNone, stopped, order_not}
use Rattle.spec_c_dumper.proofs.origins.Emission.{emit_lined, each_lined}
use Rattle.spec_c_dumper.proofs.origins.Requests.{single_fits}
use Rattle.spec_c_dumper.proofs.origins.Numbered.{machine_numbered}
use Rattle.spec_c_dumper.proofs.origins.Keeps.{Comes, comes, halts, comes_bind, comes_map, Kept, emit_top}
use Rattle.spec_c_dumper.specs.needs.Bodies.{is_leaf}
use Rattle.spec_c_dumper.proofs.origins.Back.{Back, emit_back, list_turns}
use Rattle.spec_c_dumper.proofs.needs.Bodies.{text_in}

-- nothing is in progress in emission
abbrev pub Idle : {U : Type 0} → Ls U → Type 0
Idle s = (y : ℕ) → get_or s.emits y new ≡ busy → ⊥

comes_both : {M H : Type 0} {P Q : M → Type 0} {o : Out M H} → Comes P o → Comes Q o → Comes (λ s. P s × Q s) o
comes_both (comes p) (comes q) = comes (p, q)
comes_both halts q = halts

-- ---- texts

abbrev names_in : {U : Type 0} → Said U → U
names_in (said u t m) = u

-- what ends in a line's end
module _ {U : Type 0} (N : Naming U) (B : Btf) where
  ended : (x : Said U) (u' : U) (t : List ℕ) (k : List U) → next x (line_end N B) ≡ said u' (whole t) k → Ended t
  unfolding next put after join
  ended (said u (whole a) m) u' t k e = record { front = a; is = sym (ap text_in e) }
  ended (said u (cut a c) m) u' t k e = absurd (let z : ◌≡◌ {A = ℕ} 0 1 = cc in omega arith)

  ends : (v : Writer U) (u u' : U) (t : List ℕ) (k : List U) → (v ⨾ line_end N B) u ≡ said u' (whole t) k → Ended t
  unfolding ◌⨾◌
  ends v u u' t k e = ended (v u) u' t k e

  -- the forward line or typedef line of a name that is not the builtin one, or of the builtin one
  shown_ends : (name : Name) (v : Writer U) → builtin name ≡ false → (u u' : U) (t : List ℕ) (k : List U) → shown N B name v u ≡ said u' (whole t) k → Ended t
  unfolding shown
  shown_ends name v b u u' t k e = ends v u u' t k (sym (ap (λ (c : Bool). elim c as (λ (y : Bool). Writer U) [ true ↦ put [] | false ↦ v ⨾ line_end N B ] u) b) ∙ e)

  shown_none : (name : Name) (v : Writer U) → builtin name ≡ true → (u u' : U) (t : List ℕ) (k : List U) → shown N B name v u ≡ said u' (whole t) k → (t ≡ []) × (u ≡ u')
  unfolding shown put
  shown_none name v b u u' t k e =
      let q : said u (whole []) [] ≡ said u' (whole t) k = sym (ap (λ (c : Bool). elim c as (λ (y : Bool). Writer U) [ true ↦ put [] | false ↦ v ⨾ line_end N B ] u) b) ∙ e in
      (sym (ap text_in q), ap names_in q)

  module _ (id cause : ℕ) (u u' : U) (t : List ℕ) (k : List U) where
    forward_ends : (ty : BtfType) → is_forward (node_of ty) cause ≡ true → builtin (name_of ty) ≡ false → forward N B id ty u ≡ said u' (whole t) k → Ended t
    unfolding forward
    forward_ends Void f b e = absurd (true≢false (sym f))
    forward_ends (Int n w) f b e = absurd (true≢false (sym f))
    forward_ends (Ptr y) f b e = absurd (true≢false (sym f))
    forward_ends (Array y c) f b e = absurd (true≢false (sym f))
    forward_ends (Composite s n z ms) f b e = shown_ends n (emit_composite_fwd N B id s n) b u u' t k e
    forward_ends (Enum s n z vs) f b e = absurd (true≢false (sym f))
    forward_ends (Enum64 s n z vs) f b e = absurd (true≢false (sym f))
    forward_ends (Fwd v n) f b e = absurd (true≢false (sym f))
    forward_ends (Typedef n y) f b e = shown_ends n (emit_typedef_def N B id n y) b u u' t k e
    forward_ends (Mod q y) f b e = absurd (true≢false (sym f))
    forward_ends (Func n) f b e = absurd (true≢false (sym f))
    forward_ends (Var n) f b e = absurd (true≢false (sym f))
    forward_ends (Datasec n) f b e = absurd (true≢false (sym f))
    forward_ends (FuncProto r ps) f b e = absurd (true≢false (sym f))
    forward_ends (Float n z) f b e = absurd (true≢false (sym f))
    forward_ends (DeclTag a n y c) f b e = absurd (true≢false (sym f))
    forward_ends (TypeTag a n y) f b e = absurd (true≢false (sym f))

    forward_none : (ty : BtfType) → builtin (name_of ty) ≡ true → forward N B id ty u ≡ said u' (whole t) k → (t ≡ []) × (u ≡ u')
    unfolding forward put
    forward_none Void b e = (sym (ap text_in e), ap names_in e)
    forward_none (Int n w) b e = (sym (ap text_in e), ap names_in e)
    forward_none (Ptr y) b e = (sym (ap text_in e), ap names_in e)
    forward_none (Array y c) b e = (sym (ap text_in e), ap names_in e)
    forward_none (Composite s n z ms) b e = shown_none n (emit_composite_fwd N B id s n) b u u' t k e
    forward_none (Enum s n z vs) b e = (sym (ap text_in e), ap names_in e)
    forward_none (Enum64 s n z vs) b e = (sym (ap text_in e), ap names_in e)
    forward_none (Fwd v n) b e = (sym (ap text_in e), ap names_in e)
    forward_none (Typedef n y) b e = shown_none n (emit_typedef_def N B id n y) b u u' t k e
    forward_none (Mod q y) b e = (sym (ap text_in e), ap names_in e)
    forward_none (Func n) b e = (sym (ap text_in e), ap names_in e)
    forward_none (Var n) b e = (sym (ap text_in e), ap names_in e)
    forward_none (Datasec n) b e = (sym (ap text_in e), ap names_in e)
    forward_none (FuncProto r ps) b e = (sym (ap text_in e), ap names_in e)
    forward_none (Float n z) b e = (sym (ap text_in e), ap names_in e)
    forward_none (DeclTag a n y c) b e = (sym (ap text_in e), ap names_in e)
    forward_none (TypeTag a n y) b e = (sym (ap text_in e), ap names_in e)

    definition_ends : (ty : BtfType) → (is_comp (node_of ty) || is_leaf (node_of ty)) ≡ true → definition N B id ty u ≡ said u' (whole t) k → Ended t
    unfolding definition
    definition_ends Void f e = absurd (true≢false (sym f))
    definition_ends (Int n w) f e = absurd (true≢false (sym f))
    definition_ends (Ptr y) f e = absurd (true≢false (sym f))
    definition_ends (Array y c) f e = absurd (true≢false (sym f))
    definition_ends (Composite s n z ms) f e = ends (emit_composite_def N B 512 id s n z ms 0) u u' t k e
    definition_ends (Enum s n z vs) f e = ends (emit_enum_def N B (enum_value s) id n vs 0) u u' t k e
    definition_ends (Enum64 s n z vs) f e = ends (emit_enum_def N B (enum64_value s) id n vs 0) u u' t k e
    definition_ends (Fwd v n) f e = ends (emit_fwd_def N B id v n) u u' t k e
    definition_ends (Typedef n y) f e = absurd (true≢false (sym f))
    definition_ends (Mod q y) f e = absurd (true≢false (sym f))
    definition_ends (Func n) f e = absurd (true≢false (sym f))
    definition_ends (Var n) f e = absurd (true≢false (sym f))
    definition_ends (Datasec n) f e = absurd (true≢false (sym f))
    definition_ends (FuncProto r ps) f e = absurd (true≢false (sym f))
    definition_ends (Float n z) f e = absurd (true≢false (sym f))
    definition_ends (DeclTag a n y c) f e = absurd (true≢false (sym f))
    definition_ends (TypeTag a n y) f e = absurd (true≢false (sym f))

-- ---- the kinds
forward_comp : (nd : Node) → is_comp nd ≡ true → is_forward nd 2 ≡ true
forward_comp ignored e = absurd (true≢false (sym e))
forward_comp plain e = absurd (true≢false (sym e))
forward_comp (listed f) e = absurd (true≢false (sym e))
forward_comp (through a t) e = absurd (true≢false (sym e))
forward_comp (ptr t) e = absurd (true≢false (sym e))
forward_comp (tdef t) e = absurd (true≢false (sym e))
forward_comp (proto ts) e = absurd (true≢false (sym e))
forward_comp (comp ts) e = refl

-- a typedef's line is `forward`, and no body
tdef_line : (nd : Node) (c : ℕ) → is_typedef nd ≡ true → (is_forward nd c ≡ true) × (is_comp nd ≡ false)
tdef_line ignored c e = absurd (true≢false (sym e))
tdef_line plain c e = absurd (true≢false (sym e))
tdef_line (listed f) c e = absurd (true≢false (sym e))
tdef_line (through a t) c e = absurd (true≢false (sym e))
tdef_line (ptr t) c e = absurd (true≢false (sym e))
tdef_line (tdef t) c e = (refl, refl)
tdef_line (proto ts) c e = absurd (true≢false (sym e))
tdef_line (comp ts) c e = absurd (true≢false (sym e))

leaf_line : (nd : Node) (c : ℕ) → is_leaf nd ≡ true → (is_forward nd c ≡ false) × (is_comp nd ≡ false)
leaf_line ignored c e = absurd (true≢false (sym e))
leaf_line plain c e = absurd (true≢false (sym e))
leaf_line (listed f) c e = (refl, refl)
leaf_line (through a t) c e = absurd (true≢false (sym e))
leaf_line (ptr t) c e = absurd (true≢false (sym e))
leaf_line (tdef t) c e = absurd (true≢false (sym e))
leaf_line (proto ts) c e = absurd (true≢false (sym e))
leaf_line (comp ts) c e = absurd (true≢false (sym e))

body_line : (nd : Node) (c : ℕ) → is_comp nd ≡ true → is_forward nd c ≡ eqb c 2
body_line ignored c e = absurd (true≢false (sym e))
body_line plain c e = absurd (true≢false (sym e))
body_line (listed f) c e = absurd (true≢false (sym e))
body_line (through a t) c e = absurd (true≢false (sym e))
body_line (ptr t) c e = absurd (true≢false (sym e))
body_line (tdef t) c e = absurd (true≢false (sym e))
body_line (proto ts) c e = absurd (true≢false (sym e))
body_line (comp ts) c e = refl

-- ---- one more line
module _ {U : Type 0} (N : Naming U) (B : Btf) where
  abbrev step_of : (List ℕ → Piece) → Writer U → Ls (Known U) → Out (Ls (Known U)) U
  step_of mk v m = put_line mk m (line_of m.room m.known.text_len (v m.known.names))

  -- what a line adds to the pieces
  pub record Put (mk : List ℕ → Piece) (w : Writer U) (s s' : Ls (Known U)) : Type 0 where
    pub text : List ℕ
    pub pieces_are : s'.pieces ≡ s.pieces ++ (mk text ∷ [])
    pub held : List U
    pub is : w s.known.names ≡ said s'.known.names (whole text) held

  module _ (mk : List ℕ → Piece) (w : Writer U) (s : Ls (Known U)) where
    fitting_put : (len : ℕ) (u : U) (x : Text) (m : List U) → w s.known.names ≡ said u x m → Comes (Put mk w s) (put_line mk s (fitting len u x))
    unfolding fitting
    fitting_put len u (whole a) m e = comes (record { text = a; pieces_are = refl; held = m; is = e })
    fitting_put len u (cut a c) m e = halts

    room_put : (len : ℕ) (u : U) (x : Text) (m : List U) → w s.known.names ≡ said u x m → (h : U) (b : Bool) → Comes (Put mk w s) (put_line mk s (elim b [ true ↦ fitting len u x | false ↦ cannot h 17 ]))
    room_put len u x m e h true = fitting_put len u x m e
    room_put len u x m e h false = halts

    said_put : (room len : ℕ) (x : Said U) → w s.known.names ≡ x → Comes (Put mk w s) (put_line mk s (line_of room len x))
    unfolding line_of
    said_put room len (said u x m) e = room_put len u x m e _ (leb (len + length (bytes x)) (smaller room 1073741824))

    line_put : Comes (Put mk w s) (put_line mk s (line_of s.room s.known.text_len (w s.known.names)))
    line_put = said_put s.room s.known.text_len (w s.known.names) refl

  with_comes : {M H : Type 0} {Q : M → Type 0} (es : List Entry) (o : Out M H) → Comes Q o → Comes (λ (s : Traced M). (s.entries ≡ es) × Q s.mach) (with_entries es o)
  unfolding with_entries
  with_comes es _ (comes h) = comes (refl, h)
  with_comes es _ halts = halts

  module _ (Why : Entry → Type 0) where
    abbrev pub Grew : Traced (Ls (Known U)) → Traced (Ls (Known U)) → Type 0
    Grew s s' = Grown N B Why s.mach.known.names s'.mach.known.names s.entries s'.entries s.mach.pieces s'.mach.pieces

    grew_same : (u : U) (es : List Entry) (ps : List Piece) → Grown N B Why u u es es ps ps
    grew_same u es ps = record { entries = []; pieces = []; entries_are = sym (append-nil es); pieces_are = sym (append-nil ps); pairs = none u }

    pairs_append : {u v w : U} {es es' : List Entry} {ps ps' : List Piece} → Pairs N B Why u es ps v → Pairs N B Why v es' ps' w → Pairs N B Why u (es ++ es') (ps ++ ps') w
    pairs_append (none u) q = q
    pairs_append (more u v w e t es ps y s p) q = more u v _ e t _ _ y s (pairs_append p q)
    pairs_append (blank u w es ps p) q = blank u _ _ _ (pairs_append p q)

    grew_then : (u v w : U) (es es' es'' : List Entry) (ps ps' ps'' : List Piece) → Grown N B Why u v es es' ps ps' → Grown N B Why v w es' es'' ps' ps'' → Grown N B Why u w es es'' ps ps''
    grew_then u v w es es' es'' ps ps' ps'' g h = record {
      entries = g.entries ++ h.entries;
      pieces = g.pieces ++ h.pieces;
      entries_are = h.entries_are ∙ ap (λ (l : List Entry). l ++ h.entries) g.entries_are ∙ append_assoc es g.entries h.entries;
      pieces_are = h.pieces_are ∙ ap (λ (l : List Piece). l ++ h.pieces) g.pieces_are ∙ append_assoc ps g.pieces h.pieces;
      pairs = pairs_append g.pairs h.pairs;
    }

    pub grown_same : (s : Traced (Ls (Known U))) → Grew s s
    grown_same s = grew_same s.mach.known.names s.entries s.mach.pieces

    pub grown_then : (a b c : Traced (Ls (Known U))) → Grew a b → Grew b c → Grew a c
    grown_then a b c g h = grew_then a.mach.known.names b.mach.known.names c.mach.known.names a.entries b.entries c.entries a.mach.pieces b.mach.pieces c.mach.pieces g h

    module _ (room : ℕ → Bool) (x c l : ℕ) (w : Why (entry x c l)) (s : Traced (Ls (Known U))) where
      abbrev ty : BtfType
      ty = B.type_by_id x

      abbrev e : Entry
      e = entry x c l

      -- the entry and its piece
      grew_line : (mk : List ℕ → Piece) (v : Writer U) → v ≡ writer_of N B e → ((t : List ℕ) → piece_of N B e t ≡ mk t) → ((u u' : U) (t : List ℕ) (k : List U) → v u ≡ said u' (whole t) k → Ended t)
          → (s' : Traced (Ls (Known U))) → (s'.entries ≡ s.entries ++ (e ∷ [])) × Put mk v s.mach s'.mach → Grew s s'
      grew_line mk v i k f s' h =
          let p : Put mk v s.mach s'.mach = h.1 in
          record {
            entries = e ∷ [];
            pieces = piece_of N B e p.text ∷ [];
            entries_are = h.0;
            pieces_are = p.pieces_are ∙ ap (λ (q : Piece). s.mach.pieces ++ (q ∷ [])) (sym (k p.text));
            pairs = more s.mach.known.names s'.mach.known.names s'.mach.known.names e p.text [] [] w
                (record { held = p.held; is = ap (λ (r : Writer U). r s.mach.known.names) (sym i) ∙ p.is; ends = f s.mach.known.names s'.mach.known.names p.text p.held p.is }) (none s'.mach.known.names);
          }

      -- a line that is an entry
      shown_line : (mk : List ℕ → Piece) (v : Writer U) → v ≡ writer_of N B e → ((t : List ℕ) → piece_of N B e t ≡ mk t) → ((u u' : U) (t : List ℕ) (k : List U) → v u ≡ said u' (whole t) k → Ended t)
          → Comes (Grew s) (line (λ m. m.known.names) room true e (λ m. put_line mk m (line_of m.room m.known.text_len (v m.known.names))) s)
      unfolding line
      shown_line mk v i k f = by (room (length s.entries))
        where
          by : (b : Bool) → Comes (Grew s) (elim b [ true ↦ with_entries (s.entries ++ (e ∷ [])) (step_of mk v s.mach) | false ↦ stuck s.mach.known.names 17 ])
          by true = comes_map (grew_line mk v i k f) (with_comes (s.entries ++ (e ∷ [])) (step_of mk v s.mach) (line_put mk v s.mach))
          by false = halts

      -- a forward line or a typedef that prints nothing is none
      grew_blank : builtin (name_of ty) ≡ true → (s' : Traced (Ls (Known U))) → (s'.entries ≡ s.entries) × Put other (forward N B x ty) s.mach s'.mach → Grew s s'
      grew_blank b s' h =
          let p : Put other (forward N B x ty) s.mach s'.mach = h.1 in
          let z : (p.text ≡ []) × (s.mach.known.names ≡ s'.mach.known.names) = forward_none N B x c s.mach.known.names s'.mach.known.names p.text p.held ty b p.is in
          record {
            entries = [];
            pieces = other [] ∷ [];
            entries_are = h.0 ∙ sym (append-nil s.entries);
            pieces_are = p.pieces_are ∙ ap (λ (t : List ℕ). s.mach.pieces ++ (other t ∷ [])) z.0;
            pairs = subst (λ (u : U). Pairs N B Why s.mach.known.names [] (other [] ∷ []) u) z.1 (blank s.mach.known.names s.mach.known.names [] [] (none s.mach.known.names));
          }

      abbrev piece_other : Type 0
      piece_other = (is_comp (node_of ty) && not (eqb c 2)) ≡ false

      as_other : piece_other → (t : List ℕ) → piece_of N B e t ≡ other t
      as_other q t = ap (λ (b : Bool). elim b as (λ (y : Bool). Piece) [ true ↦ defines x t | false ↦ other t ]) q

      forward_line : is_forward (node_of ty) c ≡ true → piece_other → Comes (Grew s) (line (λ m. m.known.names) room (shows_in B x) e (λ m. (machine_by N B).fwd_line m x) s)
      unfolding line
      forward_line f q = by (builtin (name_of ty)) refl
        where
          by : (b : Bool) → builtin (name_of ty) ≡ b → Comes (Grew s) (line (λ m. m.known.names) room (not b) e (step_of other (forward N B x ty)) s)
          by true i = comes_map (grew_blank i) (with_comes s.entries (step_of other (forward N B x ty) s.mach) (line_put other (forward N B x ty) s.mach))
          by false i = shown_line other (forward N B x ty) (sym (ap (λ (b : Bool). elim b as (λ (y : Bool). Writer U) [ true ↦ forward N B x ty | false ↦ definition N B x ty ]) f)) (as_other q)
              (λ u u' t m h. forward_ends N B x c u u' t m ty f i h)

      definition_line : (mk : List ℕ → Piece) → is_forward (node_of ty) c ≡ false → (is_comp (node_of ty) || is_leaf (node_of ty)) ≡ true → ((t : List ℕ) → piece_of N B e t ≡ mk t)
          → Comes (Grew s) (line (λ m. m.known.names) room true e (λ m. put_line mk m (line_of m.room m.known.text_len (definition N B x ty m.known.names))) s)
      definition_line mk f i k =
          shown_line mk (definition N B x ty) (sym (ap (λ (b : Bool). elim b as (λ (y : Bool). Writer U) [ true ↦ forward N B x ty | false ↦ definition N B x ty ]) f)) k
          (λ u u' t m h. definition_ends N B x c u u' t m ty i h)

-- ---- the lines of a request. led: the notes of its ordering
module _ {U : Type 0} (N : Naming U) (B : Btf) (void : (table_of B).node 0 ≡ plain) (room : ℕ → Bool) (req : ℕ) (leaders : List (ℕ × ℕ)) (all_led_to : (p : ℕ × ℕ) → Memᴰ p leaders → LedTo (table_of B) req p.0 p.1) where
  abbrev T : Table
  T = table_of B

  abbrev why : ℕ → Entry
  why = listed_entry req leaders

  abbrev Why : Entry → Type 0
  Why = Caused T req leaders

  abbrev Top : ℕ → Type 0
  Top x = Memᴰ x (listed_ids leaders)

  -- the entry of a listed id
  listed_by : (P : Entry → Type 0) (x : ℕ) → Top x → (Why (entry x 0 x) → P (entry x 0 x)) → (Why (entry x 1 (leader_of req leaders x)) → P (entry x 1 (leader_of req leaders x))) → P (why x)
  unfolding listed_entry
  listed_by P x m f g = by (eqb x req) refl
    where
      by : (b : Bool) → eqb x req ≡ b → P (elim b [ true ↦ entry x 0 x | false ↦ entry x 1 (leader_of req leaders x) ])
      by true e = let q : x ≡ req = eqb-true x req e in f (subst (λ (y : ℕ). Why (entry y 0 y)) (sym q) (requested (subst Top q m)))
      by false e = g (needed x (leader_of req leaders x) (eqb-false x req e) (first_is_leader req leaders x m) (first_led_to T req leaders all_led_to x m))

  module _ (x : ℕ) (s : Traced (Ls (Known U))) where
    abbrev nd : Node
    nd = node_of (B.type_by_id x)

    fwd_grew : (cont : ℕ) → is_comp nd ≡ true → Inside T Top cont x → Comes (Grew N B Why s) ((noting (machine_by N B) room (shows_in B) why cont).fwd_line s x)
    fwd_grew cont i c = forward_line N B Why room x 2 cont (forwarded x cont c) s (forward_comp nd i) (ap (λ (b : Bool). b && false) i)

    alias_by : (c l : ℕ) → is_typedef nd ≡ true → Why (entry x c l) → Comes (Grew N B Why s) (line (λ m. m.known.names) room (shows_in B x) (entry x c l) (λ m. (machine_by N B).alias_line m x) s)
    alias_by c l i w = let q = tdef_line nd c i in forward_line N B Why room x c l w s q.0 (ap (λ (b : Bool). b && not (eqb c 2)) q.1)

    alias_grew : (cont : ℕ) → is_typedef nd ≡ true → Inside T Top cont x → Comes (Grew N B Why s) ((noting (machine_by N B) room (shows_in B) why cont).alias_line s x)
    unfolding cause_at
    alias_grew zero i c = absurd (c.some refl)
    alias_grew (suc cont) i c = alias_by 3 (suc cont) i (early x (suc cont) i c)

    alias_top : is_typedef nd ≡ true → Top x → Comes (Grew N B Why s) ((noting (machine_by N B) room (shows_in B) why 0).alias_line s x)
    unfolding cause_at
    alias_top i m = listed_by (λ (e : Entry). Comes (Grew N B Why s) (line (λ m. m.known.names) room (shows_in B x) e (λ m'. (machine_by N B).alias_line m' x) s)) x m (alias_by 0 x i) (alias_by 1 (leader_of req leaders x) i)

    leaf_by : (c l : ℕ) → is_leaf nd ≡ true → Why (entry x c l) → Comes (Grew N B Why s) (line (λ m. m.known.names) room true (entry x c l) (λ m. (machine_by N B).leaf_line m x) s)
    leaf_by c l i w =
        let q = leaf_line nd c i in
        definition_line N B Why room x c l w s other q.0 (or_right (is_comp nd) (is_leaf nd) i) (as_other N B Why room x c l w s (ap (λ (b : Bool). b && not (eqb c 2)) q.1))

    leaf_grew : (cont : ℕ) → is_leaf nd ≡ true → Inside T Top cont x → Comes (Grew N B Why s) ((noting (machine_by N B) room (shows_in B) why cont).leaf_line s x)
    unfolding cause_at
    leaf_grew zero i c = absurd (c.some refl)
    leaf_grew (suc cont) i c = leaf_by 2 (suc cont) i (forwarded x (suc cont) c)

    leaf_top : is_leaf nd ≡ true → Top x → Comes (Grew N B Why s) ((noting (machine_by N B) room (shows_in B) why 0).leaf_line s x)
    unfolding cause_at
    leaf_top i m = listed_by (λ (e : Entry). Comes (Grew N B Why s) (line (λ m. m.known.names) room true e (λ m'. (machine_by N B).leaf_line m' x) s)) x m (leaf_by 0 x i) (leaf_by 1 (leader_of req leaders x) i)

    body_by : (c l : ℕ) → eqb c 2 ≡ false → is_comp nd ≡ true → Why (entry x c l) → Comes (Grew N B Why s) (line (λ m. m.known.names) room true (entry x c l) (λ m. (machine_by N B).body m x) s)
    body_by c l z i w =
        definition_line N B Why room x c l w s (defines x) (body_line nd c i ∙ z) (ap (λ (b : Bool). b || is_leaf nd) i)
        (λ t. ap (λ (b : Bool). elim (b && not (eqb c 2)) as (λ (y : Bool). Piece) [ true ↦ defines x t | false ↦ other t ]) i ∙ ap (λ (b : Bool). elim (not b) as (λ (y : Bool). Piece) [ true ↦ defines x t | false ↦ other t ]) z)

    body_top : is_comp nd ≡ true → Top x → Comes (Grew N B Why s) (line (λ m. m.known.names) room true (why x) (λ m. (machine_by N B).body m x) s)
    body_top i m = listed_by (λ (e : Entry). Comes (Grew N B Why s) (line (λ m. m.known.names) room true e (λ m'. (machine_by N B).body m' x) s)) x m (body_by 0 x refl i) (body_by 1 (leader_of req leaders x) refl i)

  kept : Kept (machine_by N B) room (shows_in B) why T Top (Grew N B Why)
  kept = record {
    r_same = λ s. grown_same N B Why s;
    r_then = λ a b c g h. grown_then N B Why a b c g h;
    r_mark = λ m x s. grown_same N B Why s;
    r_flag = λ x s. grown_same N B Why s;
    r_fwd = λ cont x s i c. fwd_grew x s cont i c;
    r_alias = λ cont x s i c. alias_grew x s cont i c;
    r_leaf = λ cont x s i c. leaf_grew x s cont i c;
    top_alias = λ x s i m. alias_top x s i m;
    top_leaf = λ x s i m. leaf_top x s i m;
    top_body = λ x s i m. body_top x s i m;
  }

  -- the listed ids, where nothing is in progress
  abbrev run : Traced (Ls (Known U)) → ℕ → Out (Traced (Ls (Known U))) U
  run m y = emit_traced (machine_by N B) room (shows_in B) why T 512 m y 0

  kind_of : (x : ℕ) → Top x → is_listed (T.node x) ≡ true
  kind_of x m = (first_led_to T req leaders all_led_to x m).is_listed_lem

  one_top : (s : Traced (Ls (Known U))) → Idle s.mach → (y : ℕ) → Top y → Comes (λ s'. Grew N B Why s s' × Idle s'.mach) (run s y)
  one_top s i y m =
      comes_both (emit_top (machine_by N B) room (shows_in B) why T Top (Grew N B Why) void kept 512 s y m (kind_of y m) (i y))
      (comes_map (λ s' (q : Back (machine_by N B) room (shows_in B) why T (list_turns (lines_by N B)) s s'). λ z e. i z (q z e)) (emit_back (machine_by N B) room (shows_in B) why T (list_turns (lines_by N B)) 512 s y 0))

  listed_grew : (ys : List ℕ) → ((y : ℕ) → Memᴰ y ys → Top y) → (s : Traced (Ls (Known U))) → Idle s.mach → Comes (λ s'. Grew N B Why s s' × Idle s'.mach) (eeach run ys s)
  unfolding eeach
  listed_grew [] h s i = comes (grown_same N B Why s, i)
  listed_grew (y ∷ ys) h s i =
      comes_bind (eeach run ys) (one_top s i y (h y (Memᴰ.head refl))) (λ s' q.
      comes_map (λ s'' q'. (grown_then N B Why s s' s'' q.0 q'.0, q'.1)) (listed_grew ys (λ z m. h z (Memᴰ.tail m)) s' q.1))

-- ---- requests, with a list of entries that has room for all
module _ {U : Type 0} (N : Naming U) (B : Btf) (void : (table_of B).node 0 ≡ plain) (size : ℕ) where
  abbrev X : Machine (Ls (Known U)) U
  X = machine_by N B

  abbrev mach_of : Explaining (Ls (Known U)) → Ls (Known U)
  mach_of t = t.answer.sess.mach

  -- what a request for x comes to after t: its lines, each with a cause that its ordering gives; or nothing
  pub data Went (x : ℕ) (t u : Explaining (Ls (Known U))) : Type 0 where
    went : (es : List Entry) (ps : List Piece) → u.answer.number ≡ 0 → u.answer.sess.asked ≡ t.answer.sess.asked ++ (x ∷ []) → u.entries ≡ t.entries ++ es → (mach_of u).pieces ≡ (mach_of t).pieces ++ ps
        → Pairs N B (Caused (table_of B) x (leaders_for N B size t.answer.sess x)) (mach_of t).known.names es ps (mach_of u).known.names → Idle (mach_of u) → Went x t u
    left : (u.answer.number ≡ 0 → ⊥) → u.answer.sess.asked ≡ t.answer.sess.asked → u.entries ≡ t.entries → (mach_of u).pieces ≡ (mach_of t).pieces → Idle (mach_of u) → Went x t u

  module _ (t : Explaining (Ls (Known U))) (x : ℕ) (i : Idle (mach_of t)) where
    -- what ordering leaves
    pub record Before (s : WithLeaders (Ls (Known U))) : Type 0 where
      pub same_pieces : s.state.pieces ≡ (mach_of t).pieces
      pub same_emits : s.state.emits ≡ (mach_of t).emits
      pub same_names : s.state.known.names ≡ (mach_of t).known.names
      pub beside : s.state.olist ≡ listed_ids s.leaders
      pub all_led_to : AllLedTo (table_of B) x s

    abbrev traced : WithLeaders (Ls (Known U)) → Out (Traced (Ls (Known U))) U
    traced s = each_listed X (table_of B) always (shows_in B) (listed_entry x s.leaders) (X.store.list s.state) (record { mach = s.state; entries = t.entries })

    -- no line is refused by 0
    traced_not : (s : WithLeaders (Ls (Known U))) → (h : U) → traced s ≡ stuck h 0 → ⊥
    traced_not s h e =
        (each_lined (Numbered X) (λ r m y. emit_traced X r (shows_in B) (listed_entry x s.leaders) (table_of B) 512 m y 0) (λ m y. emit X (table_of B) 512 m y 0) (λ m y. emit_lined X (shows_in B) (listed_entry x s.leaders) (table_of B) 512 m y 0)
        (X.store.list s.state) (record { mach = s.state; entries = t.entries })).numbered (machine_numbered N B) h e

    emitted_went : (s : WithLeaders (Ls (Known U))) → Before s → leaders_for N B size t.answer.sess x ≡ s.leaders → (o : Out (Traced (Ls (Known U))) U) → ((h : U) → o ≡ stuck h 0 → ⊥)
        → Comes (λ s'. Grew N B (Caused (table_of B) x s.leaders) (record { mach = s.state; entries = t.entries }) s' × Idle s'.mach) o → Went x t (emitted_traced X (table_of B) always (shows_in B) t x o)
    unfolding emitted_traced dropped shut
    emitted_went s h l (wrote m) z (comes q) =
        let g = q.0 in
        went g.entries g.pieces refl refl g.entries_are (g.pieces_are ∙ ap (λ (ps : List Piece). ps ++ g.pieces) h.same_pieces)
        (subst (λ (k : List (ℕ × ℕ)). Pairs N B (Caused (table_of B) x k) (mach_of t).known.names g.entries g.pieces m.mach.known.names) (sym l)
        (subst (λ (u : U). Pairs N B (Caused (table_of B) x s.leaders) u g.entries g.pieces m.mach.known.names) h.same_names g.pairs)) q.1
    emitted_went s h l (stuck m e) z halts = left (λ q. z m (ap (stuck m) q)) refl refl refl i

    ordered_went : (o : Res (WithLeaders (Ls (Known U)))) → leaders_for N B size t.answer.sess x ≡ notes_of o → Holds Before o → NotNone o → Went x t (ordered_traced X (table_of B) always (shows_in B) t x o)
    unfolding ordered_traced dropped shut
    ordered_went (ok s b) l (holds h) z =
        emitted_went s h l (traced s) (traced_not s)
        (listed_grew N B void always x s.leaders h.all_led_to s.state.olist (λ y m. subst (Memᴰ y) h.beside m) (record { mach = s.state; entries = t.entries })
        (λ y e. i y (ap (λ (l : List Mark). get_or l y new) (sym h.same_emits) ∙ e)))
    ordered_went (refused e) l nothing_held (stopped z) = left z refl refl refl i

    on_push : (around : List ℕ) (y : ℕ) → Around (table_of B) x around y → is_listed ((table_of B).node y) ≡ true → (s : WithLeaders (Ls (Known U))) → Before s → Before ((leader_store X.store x around).push y s)
    on_push around y c l s h = record {
      same_pieces = h.same_pieces;
      same_emits = h.same_emits;
      same_names = h.same_names;
      beside = ap (λ (k : List ℕ). k ++ (y ∷ [])) h.beside ∙ sym (ids_append s.leaders ((y, led_by x around y) ∷ []));
      all_led_to = push_leader X.store (table_of B) x around y c l s h.all_led_to;
    }

    gate_went : (o b : Bool) → Went x t (gate_traced X (table_of B) always (shows_in B) size t x o b)
    unfolding gate_traced leaders_for
    gate_went false b = left (λ (z : ◌≡◌ {A = ℕ} 11 0). omega arith) refl refl refl i
    gate_went true false = left (λ (z : ◌≡◌ {A = ℕ} 10 0). omega arith) refl refl refl i
    gate_went true true =
        let s : WithLeaders (Ls (Known U)) = record { state = X.start size (mach_of t); leaders = [] } in
        ordered_went (order_with_leaders X.store x 512 (table_of B) [] s x false) refl
        (order_keeps X.store (table_of B) x Before (λ m y s' h. record { same_pieces = h.same_pieces; same_emits = h.same_emits; same_names = h.same_names; beside = h.beside; all_led_to = h.all_led_to }) on_push 512 [] s x false (outermost x itself)
        (record { same_pieces = refl; same_emits = refl; same_names = refl; beside = refl; all_led_to = λ p m. absurd (Memᴰ.not-nil m) }))
        (order_not X.store x 512 (table_of B) [] s x false)

  abbrev singly : ℕ → Explaining (Ls (Known U)) → Explaining (Ls (Known U))
  singly x t = single_traced X (table_of B) always (shows_in B) size x t

  single_went : (x : ℕ) (t : Explaining (Ls (Known U))) → Idle (mach_of t) → Went x t (singly x t)
  unfolding single_traced
  single_went x t i = gate_went t x i t.answer.sess.is_open (ltb x (table_of B).count)

  -- what the requests for some ids add: those that were accepted, in their turns; and nothing is in progress after them
  pub record Told-grown (ids : List ℕ) (t t' : Explaining (Ls (Known U))) : Type 0 where
    pub accepted : List ℕ
    pub rest : List ℕ
    pub ids_are : ids ≡ accepted ++ rest
    pub whole : t'.answer.number ≡ 0 → rest ≡ []
    pub accepted_are : t'.answer.sess.asked ≡ t.answer.sess.asked ++ accepted
    pub entries : List Entry
    pub entries_are : t'.entries ≡ t.entries ++ entries
    pub pieces : List Piece
    pub pieces_are : (mach_of t').pieces ≡ (mach_of t).pieces ++ pieces
    pub turns : Turns N B size t.answer.sess accepted entries pieces
    pub idle : Idle (mach_of t')

  -- nothing
  told_none : (ids : List ℕ) (t t' : Explaining (Ls (Known U))) → (t'.answer.number ≡ 0 → ids ≡ []) → t'.answer.sess.asked ≡ t.answer.sess.asked → t'.entries ≡ t.entries → (mach_of t').pieces ≡ (mach_of t).pieces → Idle (mach_of t')
      → Told-grown ids t t'
  told_none ids t t' w a e q i = record {
    accepted = [];
    rest = ids;
    ids_are = refl;
    whole = w;
    accepted_are = a ∙ sym (append-nil t.answer.sess.asked);
    entries = [];
    entries_are = e ∙ sym (append-nil t.entries);
    pieces = [];
    pieces_are = q ∙ sym (append-nil (mach_of t).pieces);
    turns = no_turn t.answer.sess;
    idle = i;
  }

  told_same : (t : Explaining (Ls (Known U))) → Idle (mach_of t) → Told-grown [] t t
  told_same t i = told_none [] t t (λ z. refl) refl refl refl i

  -- an accepted request, and what follows it
  module _ (x : ℕ) (t : Explaining (Ls (Known U))) where
    abbrev u : Explaining (Ls (Known U))
    u = singly x t

    abbrev a : Answer (Ls (Known U))
    a = single X (table_of B) size t.answer.sess x

    plainly : u.answer ≡ a
    plainly = (single_fits X (table_of B) (shows_in B) (machine_numbered N B) size x t).same

    went_then : (ids : List ℕ) (v : Explaining (Ls (Known U))) (es : List Entry) (ps : List Piece) → u.answer.number ≡ 0 → u.answer.sess.asked ≡ t.answer.sess.asked ++ (x ∷ []) → u.entries ≡ t.entries ++ es
        → (mach_of u).pieces ≡ (mach_of t).pieces ++ ps → Pairs N B (Caused (table_of B) x (leaders_for N B size t.answer.sess x)) (mach_of t).known.names es ps (mach_of u).known.names → Told-grown ids u v → Told-grown (x ∷ ids) t v
    went_then ids v es ps z k e q p g = record {
      accepted = x ∷ g.accepted;
      rest = g.rest;
      ids_are = ap (λ (l : List ℕ). x ∷ l) g.ids_are;
      whole = g.whole;
      accepted_are = g.accepted_are ∙ ap (λ (l : List ℕ). l ++ g.accepted) k ∙ append_assoc t.answer.sess.asked (x ∷ []) g.accepted;
      entries = es ++ g.entries;
      entries_are = g.entries_are ∙ ap (λ (l : List Entry). l ++ g.entries) e ∙ append_assoc t.entries es g.entries;
      pieces = ps ++ g.pieces;
      pieces_are = g.pieces_are ∙ ap (λ (l : List Piece). l ++ g.pieces) q ∙ append_assoc (mach_of t).pieces ps g.pieces;
      turns = turn t.answer.sess x g.accepted es g.entries ps g.pieces (ap (λ (y : Answer (Ls (Known U))). y.number) (sym plainly) ∙ z)
          (ap (λ (y : Answer (Ls (Known U))). y.sess.mach.pieces) (sym plainly) ∙ q)
          (subst (λ (y : Answer (Ls (Known U))). Pairs N B (Caused (table_of B) x (leaders_for N B size t.answer.sess x)) (mach_of t).known.names es ps y.sess.mach.known.names) plainly p)
          (subst (λ (y : Answer (Ls (Known U))). Turns N B size y.sess g.accepted g.entries g.pieces) plainly g.turns);
      idle = g.idle;
    }

    -- a request, and the others if it is accepted
    onward_grown : (ids : List ℕ) (k : Explaining (Ls (Known U)) → Explaining (Ls (Known U))) → ((t' : Explaining (Ls (Known U))) → Idle (mach_of t') → Told-grown ids t' (k t')) → Went x t u
        → Told-grown (x ∷ ids) t (onward_traced X (table_of B) always (shows_in B) k u)
    unfolding onward_traced
    onward_grown ids k h (went es ps z j e q p i) =
        subst (λ (m : ℕ). Told-grown (x ∷ ids) t (elim m as (λ (y : ℕ). Explaining (Ls (Known U))) [ zero ↦ k u | suc r ↦ u ])) (sym z) (went_then ids (k u) es ps z j e q p (h u i))
    onward_grown ids k h (left z j e q i) = by u.answer.number refl
      where
        by : (m : ℕ) → u.answer.number ≡ m → Told-grown (x ∷ ids) t (elim m as (λ (y : ℕ). Explaining (Ls (Known U))) [ zero ↦ k u | suc r ↦ u ])
        by zero r = absurd (z r)
        by (suc m) r = told_none (x ∷ ids) t u (λ y. absurd (z y)) j e q i

    one_grown : Went x t u → Told-grown (x ∷ []) t u
    one_grown (went es ps z j e q p i) = went_then [] u es ps z j e q p (told_same u i)
    one_grown (left z j e q i) = told_none (x ∷ []) t u (λ y. absurd (z y)) j e q i

  -- ONE ENTRY A LINE: a single request
  pub single_grown : (x : ℕ) (t : Explaining (Ls (Known U))) → Idle (mach_of t) → Told-grown (x ∷ []) t (singly x t)
  single_grown x t i = one_grown x t (single_went x t i)

  -- a list of ids, n ids from x on, all ids
  pub list_grown : (xs : List ℕ) (t : Explaining (Ls (Known U))) → Idle (mach_of t) → Told-grown xs t (list_traced X (table_of B) always (shows_in B) size xs t)
  unfolding list_traced
  list_grown [] t i = told_same t i
  list_grown (x ∷ xs) t i = onward_grown x t xs (list_traced X (table_of B) always (shows_in B) size xs) (λ v j. list_grown xs v j) (single_went x t i)

  pub from_grown : (n x : ℕ) (t : Explaining (Ls (Known U))) → Idle (mach_of t) → Told-grown (ids_from n x) t (from_traced X (table_of B) always (shows_in B) size n x t)
  unfolding from_traced ids_from
  from_grown zero x t i = told_same t i
  from_grown (suc n) x t i = onward_grown x t (ids_from n (suc x)) (from_traced X (table_of B) always (shows_in B) size n (suc x)) (λ v j. from_grown n (suc x) v j) (single_went x t i)

  pub every_grown : (S : Sess (Ls (Known U))) → Idle S.mach → (b : Bool) → Told-grown (ids_from (B.type_cnt - 1) 1) (untold S) (every_traced X (table_of B) always (shows_in B) size S b)
  unfolding every_traced
  every_grown S i false = told_none (ids_from (B.type_cnt - 1) 1) (untold S) (record { answer = record { sess = S; number = 11 }; entries = []; zeroed = false }) (λ (z : ◌≡◌ {A = ℕ} 11 0). absurd (omega arith)) refl refl refl i
  every_grown S i true =
      let g = from_grown (B.type_cnt - 1) 1 (record { answer = record { sess = S; number = 0 }; entries = []; zeroed = true }) i in
      record { accepted = g.accepted; rest = g.rest; ids_are = g.ids_are; whole = g.whole; accepted_are = g.accepted_are; entries = g.entries; entries_are = g.entries_are; pieces = g.pieces; pieces_are = g.pieces_are; turns = g.turns; idle = g.idle }

-- ---- the text
pub text_append : (ps qs : List Piece) → text_of (ps ++ qs) ≡ text_of ps ++ text_of qs
unfolding text_of
text_append [] qs = refl
text_append (defines x t ∷ ps) qs = ap (λ (l : List ℕ). t ++ l) (text_append ps qs) ∙ sym (append_assoc t (text_of ps) (text_of qs))
text_append (other t ∷ ps) qs = ap (λ (l : List ℕ). t ++ l) (text_append ps qs) ∙ sym (append_assoc t (text_of ps) (text_of qs))

module _ {U : Type 0} (N : Naming U) (B : Btf) (Why : Entry → Type 0) where
  piece_text : (e : Entry) (t : List ℕ) (ps : List Piece) (b : Bool) → text_of (elim b as (λ (y : Bool). Piece) [ true ↦ defines e.id t | false ↦ other t ] ∷ ps) ≡ t ++ text_of ps
  unfolding text_of
  piece_text e t ps true = refl
  piece_text e t ps false = refl

  -- every line has three bytes at least
  pub three_each : {u v : U} {es : List Entry} {ps : List Piece} → Pairs N B Why u es ps v → 3 * length es ≤ length (text_of ps)
  unfolding text_of
  three_each (none u) = omega arith
  three_each (more u v w e t es ps y s p) =
      let a : length t ≡ length s.ends.front + 3 = ap length s.ends.is ∙ length-append s.ends.front (ascii ";\n\n") in
      let b : 3 * length es ≤ length (text_of ps) = three_each p in
      let c : length (text_of (piece_of N B e t ∷ ps)) ≡ length t + length (text_of ps) = ap length (piece_text e t ps (is_comp (node_of (B.type_by_id e.id)) && not (eqb e.cause 2))) ∙ length-append t (text_of ps) in
      omega arith
  three_each (blank u w es ps p) = three_each p
