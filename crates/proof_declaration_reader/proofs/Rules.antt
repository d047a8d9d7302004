-- `written` is what the rules write: emit_type_decl of a type that has the chain prints the chain's text. Assumes nothing.
use Prim.Native.Nat.{ℕ, zero, suc, max, ◌+◌, ◌≤◌}
use mathlib.Core.Path.{◌≡◌, refl, ap, ap₂, sym, ◌∙◌}
use mathlib.Core.Bool.{Bool, true, false, not, ◌&&◌}
use mathlib.Core.List.{List, [], ◌∷◌, ◌++◌, append_assoc, append-nil}
use native.Mathlib.Omega.{arith}
use lib.ListN.{length}
use lib.Dec.{eqb}
use Rattle.spec_bytes.specs.text.Text.{ascii, whole, cut, join}
use Rattle.spec_c_dumper.specs.rules.Types.{Name, is_empty, Qualifier, Param, Btf}
use Rattle.spec_c_dumper.specs.rules.Names.{Naming}
use Rattle.spec_c_dumper.specs.rules.Writer.{got, too_deep, Writer, Said, said, held_by, after, next, put, stop, given, ◌⨾◌}
use Rattle.spec_c_dumper.specs.rules.Decl.{Entry, base, star, array as count, proto as list, chain_of, mods, no_mods, no_params, shown_params, sep_name, qualifier, brackets, parens, emit_name, emit_param, emit_params, emit_array, emit_proto, param_list, chain_loop, emit_type_decl, emit_type_chain, emit_composite_def}
use Rattle.session_declaration_reader.specs.grammar.Chain.{Layers, named, pointer, array, proto, Params, closed, dots, param, Chain}
use Rattle.session_declaration_reader.specs.reader.Reading.{chain, read}
use Rattle.proof_declaration_reader.specs.Written.{quals_before, quals_behind, spaced, star as star_text, name_part, gap, before_count, before_params, comma, layers_text, params_text, written, Word, Covered}
use Rattle.proof_declaration_reader.specs.Drawn.{qual_entries, Prints, LayersAre, ParamsAre, Draws}
use Rattle.session_declaration_reader.proofs.tokens.Cases.{passed, failed}
use Rattle.session_declaration_reader.specs.reader.Encoding.{read_into}
use Rattle.proof_declaration_reader.specs.Decoding.{decoded}
use Rattle.proof_declaration_reader.proofs.RoundTrip.{round_trip}
use Rattle.proof_declaration_reader.proofs.Decoding.{decodes}

-- the calls that layers and parameters take, one inside another
abbrev mutual
  pub deep : Layers (List ℕ) → ℕ
  deep named = 0
  deep (pointer q l) = deep l
  deep (array n l) = suc (deep l)
  deep (proto ps l) = max (suc (deep l)) (params_deep ps)

  pub params_deep : Params (List ℕ) → ℕ
  params_deep closed = 0
  params_deep dots = 0
  params_deep (param q ws l ps) = max (suc (suc (deep l))) (params_deep ps)

-- What writing comes to is told in two ways, by the same proof: with calls enough left it is that text; with any number left it is that text
-- or it was refused. Is is what is told of it, Enough what is known of the calls left.
abbrev Told : Type 0 → Type 1
Told U = Said U → U → List ℕ → Type 0

-- what the proof asks of the two
record Telling (U : Type 0) (Is : Told U) (Enough : ℕ → ℕ → Type 0) : Type 0 where
  whole_is : (v : U) (t : List ℕ) (m : List U) → Is (said v (whole t) m) v t
  next_is : (x : Said U) (w : Writer U) (u₁ u₂ : U) (a b : List ℕ) → Is x u₁ a → Is (w u₁) u₂ b → Is (next x w) u₂ (a ++ b)
  stopped : (n : ℕ) (u v : U) (t : List ℕ) → Enough (suc n) zero → Is (stop too_deep u) v t
  fewer : (n left : ℕ) → Enough (suc n) (suc left) → Enough n left
  either : (a b left : ℕ) → Enough (max a b) left → Enough a left × Enough b left

module _ {U : Type 0} (Is : Told U) (Enough : ℕ → ℕ → Type 0) (T : Telling U Is Enough) where
  via : {x y : Said U} {v : U} {t : List ℕ} → x ≡ y → Is y v t → Is x v t
  via e h = rw e h

  text : {x : Said U} {v : U} {t r : List ℕ} → t ≡ r → Is x v t → Is x v r
  text e h = rw e at h

  names : {x : Said U} {u v : U} {t : List ℕ} → u ≡ v → Is x u t → Is x v t
  names e h = rw e at h

  seq : (v w : Writer U) (u u₁ u₂ : U) (a b : List ℕ) → Is (v u) u₁ a → Is (w u₁) u₂ b → Is ((v ⨾ w) u) u₂ (a ++ b)
  unfolding ◌⨾◌
  seq v w u u₁ u₂ a b e₁ e₂ = T.next_is (v u) w u₁ u₂ a b e₁ e₂

  put_seq : (a b : List ℕ) (w : Writer U) (u v : U) → Is (w u) v b → Is ((put a ⨾ w) u) v (a ++ b)
  unfolding put
  put_seq a b w u v e = seq (put a) w u u v a b (T.whole_is u a (held_by u a)) e

  seq_put : (a b : List ℕ) (w : Writer U) (u v : U) → Is (w u) v a → Is ((w ⨾ put b) u) v (a ++ b)
  unfolding put
  seq_put a b w u v e = seq w (put b) u v v a b e (T.whole_is v b (held_by v b))

  name_is : (f : Name) (p : Bool) (u : U) → Is (emit_name f p u) u (name_part f p)
  unfolding emit_name name_part put
  name_is f true u = T.whole_is u f (held_by u f)
  name_is f false u = T.whole_is u (sep_name f) (held_by u (sep_name f))

  module _ (N : Naming U) (B : Btf) (lvl : ℕ) where
    -- what a chain's loop writes, from an entry on
    abbrev loop : ℕ → Name → ℕ → Bool → List Entry → Writer U
    loop left fname n p c =
        chain_loop N B (λ id f l. emit_type_decl N B left id f l) (λ d f l. emit_type_chain N B left d f l) (λ id s f z ms l. emit_composite_def N B left id s f z ms l) fname lvl n p c

    abbrev LoopWrites : Layers (List ℕ) → Type 0
    LoopWrites l =
        (c : List Entry) (u v : U) → LayersAre N B l c u v → (left : ℕ) → Enough (deep l) left → (fname : Name) (n : ℕ) → length c ≤ n → (p : Bool)
        → Is (loop left fname n p c u) v (layers_text l fname p)

    abbrev ParamsWrite : Params (List ℕ) → Type 0
    ParamsWrite ps =
        (xs : List Param) (u v : U) → ParamsAre N B ps xs u v → (left : ℕ) → Enough (params_deep ps) left → (first : Bool)
        → Is (emit_params (λ id f. emit_type_decl N B left id f lvl) first xs u) v (params_text ps first)

    -- layers begin with no qualifier
    no_mods_lem : (l : Layers (List ℕ)) (c : List Entry) (u v : U) → LayersAre N B l c u v → (mods c ≡ []) × (no_mods c ≡ c)
    unfolding mods no_mods
    no_mods_lem named c u v a = (rw a.0, rw a.0)
    no_mods_lem (pointer q l) c u v a = (rw a.1, rw a.1)
    no_mods_lem (array n l) c u v a = (rw a.1, rw a.1)
    no_mods_lem (proto ps l) c u v a = (rw a.3, rw a.3)

    named_writes : LoopWrites named
    unfolding chain_loop layers_text
    named_writes c u v a left d fname zero h p = names a.1 (name_is fname p u)
    named_writes c u v a left d fname (suc n) h p =
        via (ap (λ (x : List Entry). loop left fname (suc n) p x u) a.0) (names a.1 (name_is fname p u))

    quals_write : (q : List Qualifier) (l : Layers (List ℕ)) → LoopWrites l
        → (c : List Entry) (u v : U) → LayersAre N B l c u v → (left : ℕ) → Enough (deep l) left → (fname : Name) (n : ℕ) → length (qual_entries q c) ≤ n
        → Is (loop left fname n false (qual_entries q c) u) v (quals_behind q ++ layers_text l fname false)
    unfolding chain_loop quals_behind
    quals_write [] l ih c u v a left d fname n h = ih c u v a left d fname n h false
    quals_write (x ∷ q) l ih c u v a left d fname zero h = absurd (omega arith)
    quals_write (x ∷ q) l ih c u v a left d fname (suc n) h =
        text
        (sym (append_assoc (ascii " " ++ qualifier x) (quals_behind q) (layers_text l fname false)))
        (put_seq (ascii " " ++ qualifier x) (quals_behind q ++ layers_text l fname false) _ u v (quals_write q l ih c u v a left d fname n (omega arith)))

    quals_after : (x : Qualifier) (q : List Qualifier) (l : Layers (List ℕ)) → LoopWrites l
        → (c : List Entry) (u v : U) → LayersAre N B l c u v → (left : ℕ) → Enough (deep l) left → (fname : Name) (n : ℕ) → length (qual_entries (x ∷ q) c) ≤ n → (p : Bool)
        → Is (loop left fname n p (qual_entries (x ∷ q) c) u) v (quals_behind (x ∷ q) ++ layers_text l fname false)
    unfolding chain_loop quals_behind
    quals_after x q l ih c u v a left d fname zero h p = absurd (omega arith)
    quals_after x q l ih c u v a left d fname (suc n) h p =
        text
        (sym (append_assoc (ascii " " ++ qualifier x) (quals_behind q) (layers_text l fname false)))
        (put_seq (ascii " " ++ qualifier x) (quals_behind q ++ layers_text l fname false) _ u v (quals_write q l ih c u v a left d fname n (omega arith)))

    star_writes : (q : List Qualifier) (l : Layers (List ℕ)) → LoopWrites l
        → (c : List Entry) (u v : U) → LayersAre N B l c u v → (left : ℕ) → Enough (deep l) left → (fname : Name) (n : ℕ) → length (star ∷ qual_entries q c) ≤ n → (p : Bool)
        → Is (loop left fname n p (star ∷ qual_entries q c) u) v (layers_text (pointer q l) fname p)
    unfolding chain_loop layers_text quals_behind star_text
    star_writes q l ih c u v a left d fname zero h p = absurd (omega arith)
    star_writes [] l ih c u v a left d fname (suc n) h p =
        text
        (ap (λ (t : List ℕ). t ++ layers_text l fname true) (sym (append-nil (star_text p))))
        (put_seq (star_text p) (layers_text l fname true) _ u v (ih c u v a left d fname n (omega arith) true))
    star_writes (x ∷ q) l ih c u v a left d fname (suc n) h p =
        text
        (sym (append_assoc (star_text p) (quals_behind (x ∷ q)) (layers_text l fname false)))
        (put_seq (star_text p) (quals_behind (x ∷ q) ++ layers_text l fname false) _ u v (quals_after x q l ih c u v a left d fname n (omega arith) true))

    pointer_writes : (q : List Qualifier) (l : Layers (List ℕ)) → LoopWrites l → LoopWrites (pointer q l)
    pointer_writes q l ih c u v a left d fname n h p =
        via (ap (λ (x : List Entry). loop left fname n p x u) a.1) (star_writes q l ih a.0 u v a.2 left d fname n (rw a.1 at h) p)

    -- a chain in a chain
    chain_writes : (l : Layers (List ℕ)) → LoopWrites l → (c : List Entry) (u v : U) → LayersAre N B l c u v → (left : ℕ) → Enough (suc (deep l)) left → (fname : Name)
        → Is (emit_type_chain N B left c fname lvl u) v (layers_text l fname true)
    unfolding emit_type_chain
    chain_writes l ih c u v a zero d fname = T.stopped (deep l) u v _ d
    chain_writes l ih c u v a (suc left) d fname = ih c u v a left (T.fewer (deep l) left d) fname (length c) (omega arith) true

    abbrev array_of : ℕ → Name → Bool → List Entry → Writer U
    array_of left fname p c =
        emit_array N B (λ id f l. emit_type_decl N B left id f l) (λ d f l. emit_type_chain N B left d f l) (λ id s f z ms l. emit_composite_def N B left id s f z ms l) fname lvl p c

    in_parens : (w : Writer U) (u v : U) (t : List ℕ) → Is (w u) v t → Is (parens true w u) v (ascii "(" ++ t ++ ascii ")")
    unfolding parens
    in_parens w u v t e = put_seq (ascii "(") (t ++ ascii ")") _ u v (seq_put t (ascii ")") w u v e)

    gap_seq : (f : Name) (p : Bool) (w : Writer U) (u v : U) (t : List ℕ) → Is (w u) v t
        → Is ((put (elim (not (is_empty f) && not p) [ true ↦ ascii " " | false ↦ [] ]) ⨾ w) u) v (gap f p ++ t)
    unfolding gap
    gap_seq f p w u v t e = put_seq (gap f p) t w u v e

    paren_text : (a t : List ℕ) → a ++ (40 ∷ (t ++ 41 ∷ [])) ≡ ((a ++ 40 ∷ []) ++ t) ++ 41 ∷ []
    paren_text a t = simp append_assoc

    array_core : (l : Layers (List ℕ)) → LoopWrites l → (c : List Entry) (u v : U) → LayersAre N B l c u v → (left : ℕ) → Enough (suc (deep l)) left → (fname : Name) (p : Bool)
        → Is (array_of left fname p c u) v (before_count l fname p (layers_text l fname true))
    unfolding emit_array before_count parens
    array_core named ih c u v a left d fname p =
        via (ap (λ (x : List Entry). array_of left fname p x u) a.0) (names a.1 (name_is fname p u))
    array_core (pointer q l) ih c u v a left d fname p =
        let t : List ℕ = layers_text (pointer q l) fname true in
        via
        (ap (λ (x : List Entry). array_of left fname p x u) a.1)
        (text
        (paren_text (gap fname p) t)
        (gap_seq
        fname
        p
        _
        u
        v
        (40 ∷ (t ++ 41 ∷ []))
        (in_parens _ u v t (via (ap (λ (x : List Entry). emit_type_chain N B left x fname lvl u) (sym a.1)) (chain_writes (pointer q l) ih c u v a left d fname)))))
    array_core (array n l) ih c u v a left d fname p =
        let t : List ℕ = layers_text (array n l) fname true in
        via
        (ap (λ (x : List Entry). array_of left fname p x u) a.1)
        (gap_seq fname p _ u v t (via (ap (λ (x : List Entry). emit_type_chain N B left x fname lvl u) (sym a.1)) (chain_writes (array n l) ih c u v a left d fname)))
    array_core (proto ps l) ih c u v a left d fname p =
        let t : List ℕ = layers_text (proto ps l) fname true in
        via
        (ap (λ (x : List Entry). array_of left fname p x u) a.3)
        (text
        (paren_text (gap fname p) t)
        (gap_seq
        fname
        p
        _
        u
        v
        (40 ∷ (t ++ 41 ∷ []))
        (in_parens _ u v t (via (ap (λ (x : List Entry). emit_type_chain N B left x fname lvl u) (sym a.3)) (chain_writes (proto ps l) ih c u v a left d fname)))))

    count_writes : (k : ℕ) (l : Layers (List ℕ)) → LoopWrites l
        → (c : List Entry) (u v : U) → LayersAre N B l c u v → (left : ℕ) → Enough (suc (deep l)) left → (fname : Name) (n : ℕ) → length (count k ∷ c) ≤ n → (p : Bool)
        → Is (loop left fname n p (count k ∷ c) u) v (layers_text (array k l) fname p)
    unfolding chain_loop layers_text
    count_writes k l ih c u v a left d fname zero h p = absurd (omega arith)
    count_writes k l ih c u v a left d fname (suc n) h p =
        seq_put
        (before_count l fname p (layers_text l fname true))
        (brackets k)
        _
        u
        v
        (via (ap (λ (x : List Entry). array_of left fname p x u) (no_mods_lem l c u v a).1) (array_core l ih c u v a left d fname p))

    array_writes : (k : ℕ) (l : Layers (List ℕ)) → LoopWrites l → LoopWrites (array k l)
    array_writes k l ih c u v a left d fname n h p =
        via (ap (λ (x : List Entry). loop left fname n p x u) a.1) (count_writes k l ih a.0 u v a.2 left d fname n (rw a.1 at h) p)

    abbrev proto_of : ℕ → Name → Bool → List Entry → Writer U
    proto_of left fname p c =
        emit_proto N B (λ id f l. emit_type_decl N B left id f l) (λ d f l. emit_type_chain N B left d f l) (λ id s f z ms l. emit_composite_def N B left id s f z ms l) fname lvl p c

    abbrev list_of : ℕ → Name → List Param → Writer U
    list_of left fname xs =
        param_list N B (λ id f l. emit_type_decl N B left id f l) (λ d f l. emit_type_chain N B left d f l) (λ id s f z ms l. emit_composite_def N B left id s f z ms l) fname lvl xs

    spaced_parens : (w : Writer U) (u v : U) (t : List ℕ) → Is (w u) v t → Is ((put (ascii " (") ⨾ w ⨾ put (ascii ")")) u) v (ascii " (" ++ t ++ ascii ")")
    spaced_parens w u v t e = put_seq (ascii " (") (t ++ ascii ")") _ u v (seq_put t (ascii ")") w u v e)

    proto_core : (l : Layers (List ℕ)) → LoopWrites l → (c : List Entry) (u v : U) → LayersAre N B l c u v → (left : ℕ) → Enough (suc (deep l)) left → (fname : Name) (p : Bool)
        → Is (proto_of left fname p c u) v (before_params l fname p (layers_text l fname true))
    unfolding emit_proto before_params
    proto_core named ih c u v a left d fname p =
        via (ap (λ (x : List Entry). proto_of left fname p x u) a.0) (names a.1 (name_is fname p u))
    proto_core (pointer q l) ih c u v a left d fname p =
        via
        (ap (λ (x : List Entry). proto_of left fname p x u) a.1)
        (spaced_parens _ u v (layers_text (pointer q l) fname true) (via (ap (λ (x : List Entry). emit_type_chain N B left x fname lvl u) (sym a.1)) (chain_writes (pointer q l) ih c u v a left d fname)))
    proto_core (array n l) ih c u v a left d fname p =
        via
        (ap (λ (x : List Entry). proto_of left fname p x u) a.1)
        (spaced_parens _ u v (layers_text (array n l) fname true) (via (ap (λ (x : List Entry). emit_type_chain N B left x fname lvl u) (sym a.1)) (chain_writes (array n l) ih c u v a left d fname)))
    proto_core (proto ps l) ih c u v a left d fname p =
        via
        (ap (λ (x : List Entry). proto_of left fname p x u) a.3)
        (spaced_parens _ u v (layers_text (proto ps l) fname true) (via (ap (λ (x : List Entry). emit_type_chain N B left x fname lvl u) (sym a.3)) (chain_writes (proto ps l) ih c u v a left d fname)))

    params_core : (ps : Params (List ℕ)) → ParamsWrite ps → (xs : List Param) (u v : U) → ParamsAre N B ps (shown_params xs) u v → (left : ℕ) → Enough (params_deep ps) left → (fname : Name)
        → Is (list_of left fname xs u) v (40 ∷ (params_text ps true ++ 41 ∷ []))
    unfolding param_list
    params_core ps ph xs u v a left d fname =
        put_seq (ascii "(") (params_text ps true ++ ascii ")") _ u v (seq_put (params_text ps true) (ascii ")") _ u v (ph (shown_params xs) u v a left d true))

    list_writes : (ps : Params (List ℕ)) (l : Layers (List ℕ)) → LoopWrites l → ParamsWrite ps
        → (xs : List Param) (c : List Entry) (u w v : U) → LayersAre N B l c u w → ParamsAre N B ps (shown_params xs) w v
        → (left : ℕ) → Enough (max (suc (deep l)) (params_deep ps)) left → (fname : Name) (n : ℕ) → length (list xs ∷ c) ≤ n → (p : Bool)
        → Is (loop left fname n p (list xs ∷ c) u) v (layers_text (proto ps l) fname p)
    unfolding chain_loop layers_text
    list_writes ps l ih ph xs c u w v a b left d fname zero h p = absurd (omega arith)
    list_writes ps l ih ph xs c u w v a b left d fname (suc n) h p =
        let t : List ℕ = before_params l fname p (layers_text l fname true) in
        let m = no_mods_lem l c u w a in
        let both = T.either (suc (deep l)) (params_deep ps) left d in
        text
        (ap (λ (x : List ℕ). x ++ (t ++ (40 ∷ (params_text ps true ++ 41 ∷ [])))) m.0 ∙ paren_text t (params_text ps true))
        (put_seq
        (mods c)
        (t ++ (40 ∷ (params_text ps true ++ 41 ∷ [])))
        _
        u
        v
        (seq
        (proto_of left fname p (no_mods c))
        (list_of left fname xs)
        u
        w
        v
        t
        (40 ∷ (params_text ps true ++ 41 ∷ []))
        (via (ap (λ (x : List Entry). proto_of left fname p x u) m.1) (proto_core l ih c u w a left both.0 fname p))
        (params_core ps ph xs w v b left both.1 fname)))

    proto_writes : (ps : Params (List ℕ)) (l : Layers (List ℕ)) → LoopWrites l → ParamsWrite ps → LoopWrites (proto ps l)
    proto_writes ps l ih ph c u v a left d fname n h p =
        via
        (ap (λ (x : List Entry). loop left fname n p x u) a.3)
        (list_writes ps l ih ph a.1 a.0 u a.2 v a.4 a.5 left d fname n (rw a.3 at h) p)

    -- the qualifiers of a base
    base_mods : (q : List Qualifier) (c : List Entry) → mods c ≡ [] → no_mods c ≡ c → (mods (qual_entries q c) ≡ quals_before q) × (no_mods (qual_entries q c) ≡ c)
    unfolding mods no_mods quals_before
    base_mods [] c e f = (e, f)
    base_mods (x ∷ q) c e f = let k = base_mods q c e f in (ap (λ (t : List ℕ). qualifier x ++ ascii " " ++ t) k.0, k.1)

    -- a declaration
    decl_writes : (id b : ℕ) (q : List Qualifier) (ws : List (List ℕ)) (l : Layers (List ℕ)) → LoopWrites l → (c : List Entry) (u w v : U)
        → chain_of 512 B id [] ≡ got (base b ∷ qual_entries q c) → Prints N B b ws u w → LayersAre N B l c w v → (left : ℕ) → Enough (suc (suc (deep l))) left → (fname : Name)
        → Is (emit_type_decl N B left id fname lvl u) v (quals_before q ++ spaced ws ++ layers_text l fname false)
    unfolding emit_type_decl emit_type_chain chain_loop given
    decl_writes id b q ws l ih c u w v e pr a zero d fname = T.stopped (suc (deep l)) u v _ d
    decl_writes id b q ws l ih c u w v e pr a (suc zero) d fname =
        via (ap (λ x. given x (λ y. emit_type_chain N B zero y fname lvl) u) e) (T.stopped (deep l) u v _ (T.fewer (suc (deep l)) zero d))
    decl_writes id b q ws l ih c u w v e pr a (suc (suc left)) d fname =
        let m = no_mods_lem l c w v a in
        let k = base_mods q c m.0 m.1 in
        let t : List ℕ = layers_text l fname false in
        let enough : Enough (deep l) left = T.fewer (deep l) left (T.fewer (suc (deep l)) (suc left) d) in
        via
        (ap (λ x. given x (λ y. emit_type_chain N B (suc left) y fname lvl) u) e)
        (text
        (ap (λ (x : List ℕ). x ++ (spaced ws ++ t)) k.0 ∙ sym (append_assoc (quals_before q) (spaced ws) t))
        (put_seq
        (mods (qual_entries q c))
        (spaced ws ++ t)
        _
        u
        v
        (seq
        _
        (loop left fname (length (qual_entries q c)) false (no_mods (qual_entries q c)))
        u
        w
        v
        (spaced ws)
        t
        (via (pr _ _ _ fname lvl).1 (T.whole_is w (spaced ws) _))
        (via
        (ap (λ (x : List Entry). loop left fname (length (qual_entries q c)) false x w) k.1)
        (ih c w v a left enough fname (length (qual_entries q c)) (longer q) false)))))
      where
        longer : (q : List Qualifier) → length c ≤ length (qual_entries q c)
        longer [] = omega arith
        longer (x ∷ q) = omega (arith, longer q)

    closed_write : ParamsWrite closed
    unfolding emit_params params_text put
    closed_write xs u v a left d first =
        via (ap (λ (x : List Param). emit_params (λ id f. emit_type_decl N B left id f lvl) first x u) a.0) (names a.1 (T.whole_is u [] []))

    dots_write : ParamsWrite dots
    unfolding emit_params emit_param params_text comma put
    dots_write xs u v a left d first =
        via
        (ap (λ (x : List Param). emit_params (λ id f. emit_type_decl N B left id f lvl) first x u) a.1)
        (put_seq
        (comma first)
        (ascii "..." ++ [])
        _
        u
        v
        (seq_put
        (ascii "...")
        []
        _
        u
        v
        (via (ap (λ (w : Writer U). w u) (passed (eqb a.0.type_id 0) (put (ascii "...")) _ a.2)) (names a.3 (T.whole_is u (ascii "...") (held_by u (ascii "...")))))))

    -- one parameter, and those behind it
    one_writes : (q : List Qualifier) (ws : List (List ℕ)) (l : Layers (List ℕ)) (ps : Params (List ℕ)) → LoopWrites l → ParamsWrite ps
        → (x : Param) (ys : List Param) (b : ℕ) (c : List Entry) (u w₁ w₂ v : U) → x.name ≡ [] → (no_params ys && eqb x.type_id 0) ≡ false
        → chain_of 512 B x.type_id [] ≡ got (base b ∷ qual_entries q c) → Prints N B b ws u w₁ → LayersAre N B l c w₁ w₂ → ParamsAre N B ps ys w₂ v
        → (left : ℕ) → Enough (max (suc (suc (deep l))) (params_deep ps)) left → (first : Bool)
        → Is (emit_params (λ id f. emit_type_decl N B left id f lvl) first (x ∷ ys) u) v (params_text (param q ws l ps) first)
    unfolding emit_params emit_param params_text comma
    one_writes q ws l ps ih ph x ys b c u w₁ w₂ v nm t e pr a more left d first =
        let said_here : List ℕ = quals_before q ++ spaced ws ++ layers_text l [] false in
        let both = T.either (suc (suc (deep l))) (params_deep ps) left d in
        text
        (four (comma first) (quals_before q) (spaced ws) (layers_text l [] false) (params_text ps false))
        (put_seq
        (comma first)
        (said_here ++ params_text ps false)
        _
        u
        v
        (seq
        (emit_param (λ id f. emit_type_decl N B left id f lvl) x (no_params ys))
        (emit_params (λ id f. emit_type_decl N B left id f lvl) false ys)
        u
        w₂
        v
        said_here
        (params_text ps false)
        (via
        (ap (λ (w : Writer U). w u) (failed (no_params ys && eqb x.type_id 0) _ (emit_type_decl N B left x.type_id x.name lvl) t)
        ∙ ap (λ (f : Name). emit_type_decl N B left x.type_id f lvl u) nm)
        (decl_writes x.type_id b q ws l ih c u w₁ w₂ e pr a left both.0 []))
        (ph ys w₂ v more left both.1 false)))
      where
        four : (a b c d e : List ℕ) → a ++ (((b ++ c) ++ d) ++ e) ≡ (((a ++ b) ++ c) ++ d) ++ e
        four a b c d e = simp append_assoc

    param_writes : (q : List Qualifier) (ws : List (List ℕ)) (l : Layers (List ℕ)) (ps : Params (List ℕ)) → LoopWrites l → ParamsWrite ps → ParamsWrite (param q ws l ps)
    param_writes q ws l ps ih ph xs u v a left d first =
        via
        (ap (λ (x : List Param). emit_params (λ id f. emit_type_decl N B left id f lvl) first x u) a.6)
        (one_writes q ws l ps ih ph a.0 a.1 a.2 a.3 u a.4 a.5 v a.7 a.8 a.9 a.10 a.11 a.12 left d first)

    mutual
      layers_write : (l : Layers (List ℕ)) → LoopWrites l
      layers_write named = named_writes
      layers_write (pointer q l) = pointer_writes q l (layers_write l)
      layers_write (array n l) = array_writes n l (layers_write l)
      layers_write (proto ps l) = proto_writes ps l (layers_write l) (params_write ps)

      params_write : (ps : Params (List ℕ)) → ParamsWrite ps
      params_write closed = closed_write
      params_write dots = dots_write
      params_write (param q ws l ps) = param_writes q ws l ps (layers_write l) (params_write ps)

    chain_text : (id : ℕ) (c : Chain (List ℕ)) (u v : U) → Draws N B id c u v → (left : ℕ) → Enough (suc (suc (deep c.layers))) left → (fname : Name)
        → Is (emit_type_decl N B left id fname lvl u) v (written c fname)
    unfolding written
    chain_text id c u v d left h fname =
        decl_writes id d.base_id c.quals c.words c.layers (layers_write c.layers) d.behind u d.between v d.chains d.prints d.layers_are left h fname

-- with calls enough left: the text
abbrev exact : {U : Type 0} → Told U
exact x v t = (m : List _) × (x ≡ said v (whole t) m)

exactly : {U : Type 0} → Telling U exact (λ n left. n ≤ left)
unfolding next after join
exactly {U} =
    record {
      whole_is = λ v t m. (m, refl);
      next_is = λ x w u₁ u₂ a b e₁ e₂. (e₁.0 ++ e₂.0, ap (λ s. next s w) e₁.1 ∙ ap (after a e₁.0) e₂.1);
      stopped = λ n u v t h. absurd (omega arith);
      fewer = λ n left h. omega arith;
      either = λ a b left h. (omega arith, omega arith);
    }

-- with any number left: the text, or a refusal
abbrev Unless : {U : Type 0} → Told U
Unless (said w (whole a) m) v t = (w ≡ v) × (a ≡ t)
Unless (said w (cut a c) m) v t = Unit {0}

module _ {U : Type 0} where
  behind : (a b : List ℕ) (m : List U) (x : Said U) (v : U) (c : List ℕ) → a ≡ c → Unless x v b → Unless (after a m x) v (c ++ b)
  unfolding after join
  behind a b m (said w (whole d) n) v c e h = (h.0, ap₂ (λ (x y : List ℕ). x ++ y) e h.1)
  behind a b m (said w (cut d k) n) v c e h = tt

  unless_next : (x : Said U) (w : Writer U) (u₁ u₂ : U) (a b : List ℕ) → Unless x u₁ a → Unless (w u₁) u₂ b → Unless (next x w) u₂ (a ++ b)
  unfolding next
  unless_next (said z (whole d) m) w u₁ u₂ a b h k = behind d b m (w z) u₂ a h.1 (rw h.0 k)
  unless_next (said z (cut d c) m) w u₁ u₂ a b h k = tt

  unless : Telling U Unless (λ n left. Unit {0})
  unfolding stop
  unless =
      record {
        whole_is = λ v t m. (refl, refl);
        next_is = unless_next;
        stopped = λ n u v t h. tt;
        fewer = λ n left h. tt;
        either = λ a b left h. (tt, tt);
      }

module _ {U : Type 0} (N : Naming U) (B : Btf) (lvl : ℕ) where
  -- The rules write the text of the chain, where they have calls enough.
  pub rules_write : (id : ℕ) (c : Chain (List ℕ)) (u v : U) → Draws N B id c u v → (left : ℕ) → 2 + deep c.layers ≤ left → (fname : Name)
      → (m : List U) × (emit_type_decl N B left id fname lvl u ≡ said v (whole (written c fname)) m)
  rules_write id c u v d left h fname = chain_text exact (λ n left. n ≤ left) exactly N B lvl id c u v d left (omega arith) fname

  -- Whatever they write, with any number of calls left and without a refusal, is that text.
  pub rules_write_only : (id : ℕ) (c : Chain (List ℕ)) (u v : U) → Draws N B id c u v → (left : ℕ) (fname : Name) (w : U) (t : List ℕ) (m : List U)
      → emit_type_decl N B left id fname lvl u ≡ said w (whole t) m → t ≡ written c fname
  rules_write_only id c u v d left fname w t m e = (rw e at (chain_text Unless (λ n left. Unit {0}) unless N B lvl id c u v d left tt fname)).1

  -- What emit_type_decl writes of a type whose chain is covered reads back to that chain,
  pub rules_round_trip : (id : ℕ) (c : Chain (List ℕ)) (u v : U) → Draws N B id c u v → Covered c → (left : ℕ) (fname : Name) → Word fname
      → (w : U) (t : List ℕ) (m : List U) → emit_type_decl N B left id fname lvl u ≡ said w (whole t) m → read t ≡ chain c
  rules_round_trip id c u v d k left fname ok w t m e = ap read (rules_write_only id c u v d left fname w t m e) ∙ round_trip c fname k ok

  -- and the entries that the code leaves for it decode to that chain.
  pub rules_read_back : (id : ℕ) (c : Chain (List ℕ)) (u v : U) → Draws N B id c u v → Covered c → (left : ℕ) (fname : Name) → Word fname
      → (w : U) (t : List ℕ) (m : List U) → emit_type_decl N B left id fname lvl u ≡ said w (whole t) m → (ws : List ℕ) → 1536 ≤ length ws → decoded t (read_into t ws) ≡ chain c
  rules_read_back id c u v d k left fname ok w t m e ws l = decodes t ws l ∙ rules_round_trip id c u v d k left fname ok w t m e
