-- The pieces of every session are what specs/Bodies says. Assumes nothing.
use Prim.Native.Nat.{ℕ, ◌+◌}
use mathlib.Core.Path.{◌≡◌, refl, ap, ◌∙◌, sym}
use mathlib.Core.Bool.{Bool, true, false, true≢false}
use mathlib.Core.List.{List, [], ◌∷◌, ◌++◌, append_assoc}
use native.Mathlib.Omega.{arith}
use lib.ListN.{length}
use lib.Dec.{leb, ltb}
use Rattle.spec_bytes.specs.text.Text.{Text, ascii, whole, cut, join, bytes}
use Rattle.spec_bytes.specs.text.Decimal.{decimal}
use Rattle.spec_c_dumper.specs.rules.Order.{is_comp}
use Rattle.spec_c_dumper.specs.rules.Machine.{Req, run}
use Rattle.spec_c_dumper.specs.rules.Writer.{reserve_passed, Ask, got, no, Said, said, Writer, held_by, after, next, put, stop, given, ◌⨾◌}
use Rattle.spec_c_dumper.specs.rules.Types.{Name, is_empty, Member, BtfType, Void, Int, Ptr, Array, Composite, Enum, Enum64, Fwd, Typedef, Mod, Func, Var, Datasec, FuncProto, Float, DeclTag, TypeTag, Btf, node_of, table_of}
use Rattle.spec_c_dumper.specs.rules.Layout.{smaller}
use Rattle.spec_c_dumper.specs.rules.Placing.{body_packed}
use Rattle.spec_c_dumper.specs.rules.Names.{tag_space, Naming, resolve_type_name, spelled, builtin}
use Rattle.spec_c_dumper.specs.rules.Decl.{sep_name, keyword, composite_head, composite_body, composite_def, emit_type_decl, emit_composite_def}
use Rattle.spec_c_dumper.specs.rules.Emit.{definition, forward}
use Rattle.spec_c_dumper.specs.needs.Lists.{Piece, defines, other, cannot, Ls, put_line, afresh}
use Rattle.spec_c_dumper.specs.needs.Session.{Known, fitting, line_of, machine_by, opened_by}
use Rattle.spec_c_dumper.specs.needs.Bodies.{Prints, Opens, Body, once, leaf, PieceIs, PiecesAre}
use Rattle.spec_c_dumper.proofs.rules.Held.{resolved_over, resolved_within}
use Rattle.spec_c_dumper.proofs.needs.Keeping.{Leaves, leaves, stops, Steps, Requests, run_kept}

-- ---- how a body opens
module _ {U : Type 0} where
  abbrev pub text_in : Said U → List ℕ
  text_in (said u (whole a) m) = a
  text_in (said u (cut a c) m) = a

  no_cut : (u v : U) (a t : List ℕ) (c : ℕ) {k m : List U} → said u (cut a c) k ≡ said v (whole t) m → ⊥
  no_cut u v a t c e = let z : ◌≡◌ {A = ℕ} 0 1 = cc in omega arith

  -- what comes first stands first
  first_of : (a : List ℕ) (k : List U) (s : Said U) (u' : U) (t : List ℕ) {m : List U} → after a k s ≡ said u' (whole t) m → (rest : List ℕ) × (t ≡ a ++ rest)
  unfolding after join
  first_of a k (said u (whole b) l) u' t e = (b, sym (ap text_in e))
  first_of a k (said u (cut b c) l) u' t e = absurd (no_cut u u' (a ++ b) t c e)

  then_first : (v w : Writer U) (u u₁ u' : U) (a t : List ℕ) {k m : List U} → v u ≡ said u₁ (whole a) k → (v ⨾ w) u ≡ said u' (whole t) m → (rest : List ℕ) × (t ≡ a ++ rest)
  unfolding ◌⨾◌ next
  then_first v w u u₁ u' a t {k} f e = first_of a k (w u₁) u' t (sym (ap (λ (s : Said U). next s w) f) ∙ e)

  -- of two writers the first printed some text
  then_some : (v w : Writer U) (u u' : U) (t : List ℕ) {m : List U} → (v ⨾ w) u ≡ said u' (whole t) m → (u₁ : U) × (a : List ℕ) × (k : List U) × (v u ≡ said u₁ (whole a) k)
  unfolding ◌⨾◌ next
  then_some v w u u' t e = go (v u) refl
    where
      go : (s : Said U) → v u ≡ s → (u₁ : U) × (a : List ℕ) × (k : List U) × (v u ≡ said u₁ (whole a) k)
      go (said u₁ (whole a) k) f = (u₁, a, k, f)
      go (said u₁ (cut a c) k) f = absurd (no_cut u₁ u' a t c (sym (ap (λ (s : Said U). next s w) f) ∙ e))

named_still : (name : Name) (v : ℕ) → is_empty name ≡ false → is_empty (spelled name v) ≡ false
unfolding spelled is_empty
named_still [] v e = absurd (true≢false e)
named_still (c ∷ cs) v e = go (ltb v 2)
  where
    go : (b : Bool) → is_empty (elim b as (λ (x : Bool). Name) [ true ↦ c ∷ cs | false ↦ (c ∷ cs) ++ ascii "___" ++ decimal v ]) ≡ false
    go true = refl
    go false = refl

sep_is : (name : Name) → is_empty name ≡ false → sep_name name ≡ ascii " " ++ name
unfolding sep_name
sep_is name e = rw (e, sep_name) refl

module _ {U : Type 0} (N : Naming U) (B : Btf) where
  -- what a name that passes leaves of it
  head_over : (decl : ℕ → Name → ℕ → Writer U) (x : ℕ) (is_struct : Bool) (name : Name) (u : U) → is_empty name ≡ false → (N.type_version tag_space x name u).passes ≡ true
      → composite_head N B decl x is_struct name u ≡ said u (cut [] reserve_passed) []
  unfolding composite_head resolve_type_name stop
  head_over decl x is_struct name u e over = rw (e, composite_head, resolve_type_name) (sym (resolved_over (N.type_version tag_space x name) _ u over))

  -- the keyword, a space, the name and ` {`
  head_is : (decl : ℕ → Name → ℕ → Writer U) (x : ℕ) (is_struct : Bool) (name : Name) (u : U) → is_empty name ≡ false → (N.type_version tag_space x name u).passes ≡ false
      → (m : List U)
      × (composite_head N B decl x is_struct name u
      ≡ said (N.type_version tag_space x name u).names (whole (keyword B is_struct ++ (ascii " " ++ spelled name (N.type_version tag_space x name u).version ++ ascii " {"))) m)
  unfolding composite_head resolve_type_name put ◌⨾◌ next after join
  head_is decl x is_struct name u e within = (held, first ∙ ap (λ (l : List ℕ). said after_name (whole (keyword B is_struct ++ (l ++ ascii " {"))) held) (sep_is (spelled name v) (named_still name v e)))
    where
      v : ℕ
      v = (N.type_version tag_space x name u).version

      after_name : U
      after_name = (N.type_version tag_space x name u).names

      held : List U
      held = held_by after_name (keyword B is_struct) ++ (held_by after_name (sep_name (spelled name v)) ++ held_by after_name (ascii " {"))

      first : composite_head N B decl x is_struct name u ≡ said after_name (whole (keyword B is_struct ++ (sep_name (spelled name v) ++ ascii " {"))) held
      first = rw (e, composite_head, resolve_type_name) (sym (resolved_within (N.type_version tag_space x name) _ u within))

  module _ (x : ℕ) (is_struct : Bool) (name : Name) (sz : ℕ) (ms : List Member) (u u' : U) (t : List ℕ) (some : is_empty name ≡ false) (plain : builtin name ≡ false) where
    abbrev number : ℕ
    number = (N.type_version tag_space x name u).version

    abbrev head : List ℕ
    head = keyword B is_struct ++ (ascii " " ++ spelled name number ++ ascii " {")

    opens_by : (rest : List ℕ) → t ≡ head ++ rest → Opens (keyword B is_struct) name t
    opens_by rest e = record { number = number; rest = rest; is = e ∙ ap (λ (l : List ℕ). l ++ rest) (sym (append_assoc (keyword B is_struct) (ascii " " ++ spelled name number) (ascii " {")) ∙ ap (λ (l : List ℕ). l ++ ascii " {") (sym (append_assoc (keyword B is_struct) (ascii " ") (spelled name number)))) }

    body_opens : (decl : ℕ → Name → ℕ → Writer U) (v : U) (packed : Bool) {m : List U} → composite_body N B decl x is_struct name sz ms 0 packed u ≡ said v (whole t) m → Opens (keyword B is_struct) name t
    unfolding composite_body
    body_opens decl v packed e = go (N.type_version tag_space x name u).passes refl
      where
        go : (b : Bool) → (N.type_version tag_space x name u).passes ≡ b → Opens (keyword B is_struct) name t
        go true over =
            let p = then_some (composite_head N B decl x is_struct name) _ u v t e in
            absurd (no_cut u p.0 [] p.1 reserve_passed (sym (head_over decl x is_struct name u some over) ∙ p.3))
        go false within =
            let q = then_first (composite_head N B decl x is_struct name) _ u _ v head t (head_is decl x is_struct name u some within).1 e in
            opens_by q.0 q.1

    def_opens : (decl : ℕ → Name → ℕ → Writer U) (v : U) {m : List U} → composite_def N B decl x is_struct name sz ms 0 u ≡ said v (whole t) m → Opens (keyword B is_struct) name t
    unfolding composite_def given stop
    def_opens decl v e = go (body_packed B is_struct sz ms) refl
      where
        given_is : composite_def N B decl x is_struct name sz ms 0 u ≡ given (body_packed B is_struct sz ms) (composite_body N B decl x is_struct name sz ms 0) u
        given_is = rw (plain, composite_def) refl

        go : (a : Ask Bool) → body_packed B is_struct sz ms ≡ a → Opens (keyword B is_struct) name t
        go (got packed) f = body_opens decl v packed (sym (ap (λ (a : Ask Bool). given a (composite_body N B decl x is_struct name sz ms 0) u) f) ∙ sym given_is ∙ e)
        go (no c) f = absurd (no_cut u v [] t c (sym (ap (λ (a : Ask Bool). given a (composite_body N B decl x is_struct name sz ms 0) u) f) ∙ sym given_is ∙ e))

  longer : (word : List ℕ) (name : Name) (a t rest : List ℕ) → t ≡ a ++ rest → Opens word name a → Opens word name t
  longer word name a t rest e o = record {
    number = o.number;
    rest = o.rest ++ rest;
    is = e ∙ ap (λ (l : List ℕ). l ++ rest) o.is ∙ append_assoc (word ++ ascii " " ++ spelled name o.number ++ ascii " {") o.rest rest;
  }

  -- the definition of a composite at the top
  top_opens : (x : ℕ) (is_struct : Bool) (name : Name) (sz : ℕ) (ms : List Member) (u u' : U) (t : List ℕ) {m : List U} → is_empty name ≡ false → builtin name ≡ false
      → definition N B x (Composite is_struct name sz ms) u ≡ said u' (whole t) m → Opens (keyword B is_struct) name t
  unfolding definition emit_composite_def
  top_opens x is_struct name sz ms u u' t some plain e =
      let p = then_some (emit_composite_def N B 512 x is_struct name sz ms 0) _ u u' t e in
      let q = then_first (emit_composite_def N B 512 x is_struct name sz ms 0) _ u p.0 u' p.1 t p.3 e in
      longer (keyword B is_struct) name p.1 t q.0 q.1 (def_opens x is_struct name sz ms u p.0 p.1 some plain (λ k n l. emit_type_decl N B 511 k n l) p.0 p.3)

  -- ---- what a piece is
  by_kind : (x : ℕ) (ty : BtfType) (t : List ℕ) → B.type_by_id x ≡ ty → is_comp (node_of ty) ≡ true → Prints (definition N B x (B.type_by_id x)) t → Body N B x t
  by_kind x Void t e c p = absurd (true≢false (sym c))
  by_kind x (Int n b) t e c p = absurd (true≢false (sym c))
  by_kind x (Ptr k) t e c p = absurd (true≢false (sym c))
  by_kind x (Array k n) t e c p = absurd (true≢false (sym c))
  by_kind x (Composite s n z ms) t e c p = record {
    is_struct = s;
    name = n;
    size = z;
    members = ms;
    is = e;
    prints = p;
    opens = λ some plain. top_opens x s n z ms p.names p.after t some plain (sym (ap (λ (ty : BtfType). definition N B x ty p.names) e) ∙ p.is);
  }
  by_kind x (Enum s n z vs) t e c p = absurd (true≢false (sym c))
  by_kind x (Enum64 s n z vs) t e c p = absurd (true≢false (sym c))
  by_kind x (Fwd b n) t e c p = absurd (true≢false (sym c))
  by_kind x (Typedef n k) t e c p = absurd (true≢false (sym c))
  by_kind x (Mod q k) t e c p = absurd (true≢false (sym c))
  by_kind x (Func n) t e c p = absurd (true≢false (sym c))
  by_kind x (Var n) t e c p = absurd (true≢false (sym c))
  by_kind x (Datasec n) t e c p = absurd (true≢false (sym c))
  by_kind x (FuncProto r ps) t e c p = absurd (true≢false (sym c))
  by_kind x (Float n z) t e c p = absurd (true≢false (sym c))
  by_kind x (DeclTag a n k i) t e c p = absurd (true≢false (sym c))
  by_kind x (TypeTag a n k) t e c p = absurd (true≢false (sym c))

  -- ---- every step
  abbrev pub All : Ls (Known U) → Type 0
  All s = PiecesAre N B s.pieces

  -- nothing is said of the names
  abbrev pub Any : U → Type 0
  Any h = Unit {0}

  one_more : (ps : List Piece) (p : Piece) → PiecesAre N B ps → PieceIs N B p → PiecesAre N B (ps ++ (p ∷ []))
  one_more [] p a i = (i, tt)
  one_more (q ∷ ps) p a i = (a.0, one_more ps p a.1 i)

  module _ (mk : List ℕ → Piece) (w : Writer U) (is : (t : List ℕ) → Prints w t → PieceIs N B (mk t)) (s : Ls (Known U)) (a : All s) where
    fitted : (len : ℕ) (u : U) (x : Text) (m : List U) → w s.known.names ≡ said u x m → Leaves All Any (put_line mk s (fitting len u x))
    unfolding fitting
    fitted len u (whole t) m e = leaves _ (one_more s.pieces (mk t) a (is t (record { names = s.known.names; after = u; held = m; is = e })))
    fitted len u (cut t c) m e = stops u c tt

    line_kept : (room len : ℕ) (x : Said U) → w s.known.names ≡ x → Leaves All Any (put_line mk s (line_of room len x))
    unfolding line_of
    line_kept room len (said u x m) e = go _ (leb (len + length (bytes x)) (smaller room 1073741824))
      where
        go : (h : U) (b : Bool) → Leaves All Any (put_line mk s (elim b [ true ↦ fitting len u x | false ↦ cannot h 17 ]))
        go h true = fitted len u x m e
        go h false = stops h 17 tt

    written : Leaves All Any (put_line mk s (line_of s.room s.known.text_len (w s.known.names)))
    written = line_kept s.room s.known.text_len (w s.known.names) refl

  steps : Steps (machine_by N B) (table_of B) All Any
  steps = record {
    k_mark = λ m x s p. p;
    k_push = λ x s p. p;
    k_emark = λ m x s p. p;
    k_forwarded = λ x s p. p;
    k_fwd = λ s x p. written other (forward N B x (B.type_by_id x)) (λ t q. once x q) s p;
    k_alias = λ s x p. written other (forward N B x (B.type_by_id x)) (λ t q. once x q) s p;
    k_leaf = λ s x c p. written other (definition N B x (B.type_by_id x)) (λ t q. leaf x c q) s p;
    k_body = λ s x c p. written (defines x) (definition N B x (B.type_by_id x)) (λ t q. by_kind x (B.type_by_id x) t refl c q) s p;
    k_held = λ s p. tt;
  }

  pub requests : Requests (machine_by N B) (table_of B) All (λ g s. All s) (λ g h. Any h)
  requests = record {
    k_steps = λ g p. steps;
    k_start = λ room g p. p;
    k_end = λ g s p. p;
    k_refused = λ g p. tt;
    k_leaving = λ g h p j. p;
  }

  -- THE THEOREM: after every list of requests every piece is what it should be
  pub pieces_are : (u : U) (rs : List Req) → PiecesAre N B (run (machine_by N B) (table_of B) rs (opened_by N B u)).mach.pieces
  unfolding afresh
  pieces_are u rs = run_kept (machine_by N B) (table_of B) All (λ g s. All s) (λ g h. Any h) requests rs (opened_by N B u) tt
