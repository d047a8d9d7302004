-- Every emitter by the remembering way writes the text of the plain one, and meets its refusals. Assumes nothing.
use Prim.Native.Nat.{ℕ, zero, suc, ◌+◌, ◌<◌}
use mathlib.Core.Path.{◌≡◌, refl, sym, subst}
use mathlib.Core.Bool.{Bool, true, false, not}
use mathlib.Core.List.{List, [], ◌∷◌, Memᴰ}
use mathlib.Core.Logic.{inl}
use lib.ListN.{length}
use Rattle.spec_c_dumper.specs.rules.Writer.{Writer, ◌⨾◌, put, given}
use Rattle.spec_c_dumper.specs.rules.Types.{Name, is_empty, Member, Param, BtfType, Void, Int, Ptr, Array, Composite, Enum, Enum64, Fwd, Typedef, Mod, Func, Var, Datasec, FuncProto, Float, DeclTag, TypeTag, Btf, node_of, member_types}
use Rattle.spec_c_dumper.specs.rules.Layout.{Pad, bit_padding, end_of}
use Rattle.spec_c_dumper.specs.rules.Placing.{body_packed, tail_pads}
use Rattle.spec_c_dumper.specs.rules.Names.{Space, ident_space, Naming, resolving, spelled, resolve_type_name, builtin}
use Rattle.spec_c_dumper.specs.rules.Decl.{deeper, Entry, base, star, qual, array, proto, tag, chain_of, no_mods, is_array, shown_params, enum_value, enum64_value, base_word, emit_array, emit_proto, param_list, chain_loop, emit_members, composite_body, composite_def, emit_type_decl, emit_type_chain, emit_composite_def, emit_typedef_def}
use Rattle.spec_c_dumper.specs.rules.Emit.{definition, shown, forward}
use Rattle.spec_c_dumper.proofs.rules.Closed.{Closed, asks_end, asks_chain, r_given, r_emit_name, r_parens, r_emit_params, r_emit_composite_fwd, r_emit_fwd_def, r_enum_word, r_emit_enum_def, r_composite_head, r_composite_end}
use Rattle.spec_c_dumper.proofs.rules.Keeps.{any_name, any_value, values_fit}
use Rattle.spec_c_dumper.specs.needs.Needs.{kids}
use Rattle.spec_c_dumper.specs.alignment_once.Writers.{Asks, given_once, emit_members_once, composite_body_once, composite_def_once, emit_type_decl_once, emit_type_chain_once, emit_composite_def_once, emit_typedef_def_once, definition_once, forward_once}

-- A relation that the parts of an emitter keep, and the questions with a memory, all emitters keep.
module _ {St U : Type 0} (Q : Asks St) (N' : Naming St) (N : Naming U) (B : Btf) (n : ℕ) (below : (x y : ℕ) → Memᴰ y (kids (node_of (B.type_by_id x))) → y < n)
    (S : Writer St → Writer U → Type 0) (C : Closed N' N any_name any_value S)
    (on_body : (id : ℕ) (s : Bool) (name : Name) (sz : ℕ) (ms : List Member) → B.type_by_id id ≡ Composite s name sz ms → (f : Bool → Writer St) (g : Bool → Writer U) → ((p : Bool) → S (f p) (g p)) → S (given_once (Q.body s id sz ms) f) (given (body_packed B s sz ms) g))
    (on_pads : (offset : ℕ) (x : Member) (packed : Bool) → x.type_id < n → (f : List Pad → Writer St) (g : List Pad → Writer U) → ((p : List Pad) → S (f p) (g p)) → S (given_once (Q.padding offset x packed) f) (given (bit_padding B offset x packed) g)) where
  cput : (a : List ℕ) → S (put a) (put a)
  cput a = C.c_put a

  cthen : {v₁ w₁ : Writer St} {v₂ w₂ : Writer U} → S v₁ v₂ → S w₁ w₂ → S (v₁ ⨾ w₁) (v₂ ⨾ w₂)
  cthen {v₁} {w₁} {v₂} {w₂} h k = C.c_then v₁ w₁ v₂ w₂ h k

  cif : {a₁ b₁ : Writer St} {a₂ b₂ : Writer U} → (b : Bool) → S a₁ a₂ → S b₁ b₂ → S (elim b [ true ↦ a₁ | false ↦ b₁ ]) (elim b [ true ↦ a₂ | false ↦ b₂ ])
  cif true h k = h
  cif false h k = k

  ctype : {k₁ : Name → Writer St} {k₂ : Name → Writer U} → (space : Space) (id : ℕ) (name : Name) → ((n : Name) → S (k₁ n) (k₂ n)) → S (resolve_type_name N' space id name k₁) (resolve_type_name N space id name k₂)
  unfolding resolve_type_name
  ctype {k₁} {k₂} space id name h = go (is_empty name) refl
    where
      go : (b : Bool) → is_empty name ≡ b
          → S (elim b [ true ↦ k₁ name | false ↦ resolving (N'.type_version space id name) (λ v. k₁ (spelled name v)) ]) (elim b [ true ↦ k₂ name | false ↦ resolving (N.type_version space id name) (λ v. k₂ (spelled name v)) ])
      go true e = h name
      go false e = C.c_type space id name tt e (λ v. k₁ (spelled name v)) (λ v. k₂ (spelled name v)) (λ v. h (spelled name v))

  -- the body of a composite
  module _ {d₁ : ℕ → Name → ℕ → Writer St} {d₂ : ℕ → Name → ℕ → Writer U} (hd : (id : ℕ) (m : Name) (l : ℕ) → S (d₁ id m l) (d₂ id m l)) (id : ℕ) where
    on_members : (tail : ℕ → List Pad) (lvl : ℕ) (packed : Bool) (i offset : ℕ) (ms : List Member) → ((y : ℕ) → Memᴰ y (member_types ms) → y < n)
        → S (emit_members_once Q N' B d₁ id tail lvl packed i offset ms) (emit_members N B d₂ id tail lvl packed i offset ms)
    unfolding emit_members_once emit_members
    on_members tail lvl packed i offset [] b = cput _
    on_members tail lvl packed i offset (m ∷ ms) b =
        cthen (on_pads offset m packed (b m.type_id (Memᴰ.head refl)) (λ ps. put _) (λ ps. put _) (λ ps. cput _))
        (cthen (cput _) (cthen (cput _) (cthen (hd m.type_id m.name lvl) (cthen (cput _)
        (r_given N' N any_name any_value S C (end_of B m) (asks_end B m) (λ end. cthen (cput _) (cthen (cput _) (on_members tail lvl packed (i + 1) end ms (λ y j. b y (Memᴰ.tail j))))))))))

    on_def : (s : Bool) (name : Name) (sz : ℕ) (ms : List Member) → B.type_by_id id ≡ Composite s name sz ms → (lvl : ℕ) → S (composite_def_once Q N' B d₁ id s name sz ms lvl) (composite_def N B d₂ id s name sz ms lvl)
    unfolding composite_def_once composite_def composite_body_once composite_body
    on_def s name sz ms e lvl =
        cif (builtin name) (cput [])
        (on_body id s name sz ms e (λ packed. composite_body_once Q N' B d₁ id s name sz ms lvl packed) (λ packed. composite_body N B d₂ id s name sz ms lvl packed) (λ packed.
        cthen (r_composite_head N' N any_name any_value S C B {d₁ = d₁} {d₂ = d₂} hd id s name tt)
        (cthen (on_members (tail_pads B.placing B.ptr_sz s sz) (deeper lvl) packed 0 0 ms (λ y i. below id y (subst (λ (t : BtfType). Memᴰ y (kids (node_of t))) (sym e) i)))
        (r_composite_end N' N any_name any_value S C B {d₁ = d₁} {d₂ = d₂} hd id lvl ms packed))))

  -- emit_type_chain; a composite is read at its own id
  module _ {d₁ : ℕ → Name → ℕ → Writer St} {d₂ : ℕ → Name → ℕ → Writer U} (hd : (id : ℕ) (m : Name) (l : ℕ) → S (d₁ id m l) (d₂ id m l))
      {c₁ : List Entry → Name → ℕ → Writer St} {c₂ : List Entry → Name → ℕ → Writer U} (hc : (c : List Entry) (m : Name) (l : ℕ) → S (c₁ c m l) (c₂ c m l))
      {f₁ : ℕ → Bool → Name → ℕ → List Member → ℕ → Writer St} {f₂ : ℕ → Bool → Name → ℕ → List Member → ℕ → Writer U}
      (hf : (id : ℕ) (s : Bool) (m : Name) (z : ℕ) (ms : List Member) → B.type_by_id id ≡ Composite s m z ms → (l : ℕ) → S (f₁ id s m z ms l) (f₂ id s m z ms l)) (fname : Name) (lvl : ℕ) where
    on_word : (id : ℕ) (t : BtfType) → B.type_by_id id ≡ t → S (base_word N' B d₁ c₁ f₁ fname lvl id t) (base_word N B d₂ c₂ f₂ fname lvl id t)
    unfolding base_word
    on_word id Void e = cput _
    on_word id (Int m b) e = cput _
    on_word id (Ptr t) e = cput _
    on_word id (Array t k) e = cput _
    on_word id (Composite s m z ms) e = cif (is_empty m) (hf id s m z ms e lvl) (r_emit_composite_fwd N' N any_name any_value S C B id s m tt)
    on_word id (Enum s m z vs) e = cif (is_empty m) (r_emit_enum_def N' N any_name any_value S C B (enum_value s) id m vs lvl tt (values_fit id 0 vs)) (r_enum_word N' N any_name any_value S C B id m tt)
    on_word id (Enum64 s m z vs) e = cif (is_empty m) (r_emit_enum_def N' N any_name any_value S C B (enum64_value s) id m vs lvl tt (values_fit id 0 vs)) (r_enum_word N' N any_name any_value S C B id m tt)
    on_word id (Fwd u m) e = r_emit_fwd_def N' N any_name any_value S C B id u m tt
    on_word id (Typedef m t) e = ctype ident_space id m (λ x. cput x)
    on_word id (Mod q t) e = cput _
    on_word id (Func m) e = cput _
    on_word id (Var m) e = cput _
    on_word id (Datasec m) e = cput _
    on_word id (FuncProto r ps) e = cput _
    on_word id (Float m z) e = cput _
    on_word id (DeclTag a m t k) e = cput _
    on_word id (TypeTag a m t) e = cput _

    on_array : (last_was_ptr : Bool) (c : List Entry) → S (emit_array N' B d₁ c₁ f₁ fname lvl last_was_ptr c) (emit_array N B d₂ c₂ f₂ fname lvl last_was_ptr c)
    unfolding emit_array
    on_array last_was_ptr [] = r_emit_name N' N any_name any_value S C fname last_was_ptr
    on_array last_was_ptr (e ∷ c) = cthen (cput _) (r_parens N' N any_name any_value S C (not (is_array e)) (hc (e ∷ c) fname lvl))

    on_proto : (last_was_ptr : Bool) (c : List Entry) → S (emit_proto N' B d₁ c₁ f₁ fname lvl last_was_ptr c) (emit_proto N B d₂ c₂ f₂ fname lvl last_was_ptr c)
    unfolding emit_proto
    on_proto last_was_ptr [] = r_emit_name N' N any_name any_value S C fname last_was_ptr
    on_proto last_was_ptr (e ∷ c) = cthen (cput _) (cthen (hc (e ∷ c) fname lvl) (cput _))

    on_params : (ps : List Param) → S (param_list N' B d₁ c₁ f₁ fname lvl ps) (param_list N B d₂ c₂ f₂ fname lvl ps)
    unfolding param_list
    on_params ps = cthen (cput _) (cthen (r_emit_params N' N any_name any_value S C {d₁ = λ id m. d₁ id m lvl} {d₂ = λ id m. d₂ id m lvl} (λ id m. hd id m lvl) true (shown_params ps)) (cput _))

    on_chain : (i : ℕ) (last_was_ptr : Bool) (c : List Entry) → S (chain_loop N' B d₁ c₁ f₁ fname lvl i last_was_ptr c) (chain_loop N B d₂ c₂ f₂ fname lvl i last_was_ptr c)
    unfolding chain_loop
    on_chain zero last_was_ptr c = r_emit_name N' N any_name any_value S C fname last_was_ptr
    on_chain (suc i) last_was_ptr [] = r_emit_name N' N any_name any_value S C fname last_was_ptr
    on_chain (suc i) last_was_ptr (base id ∷ c) = cthen (cput _) (cthen (on_word id (B.type_by_id id) refl) (on_chain i false (no_mods c)))
    on_chain (suc i) last_was_ptr (star ∷ c) = cthen (cput _) (on_chain i true c)
    on_chain (suc i) last_was_ptr (qual q ∷ c) = cthen (cput _) (on_chain i false c)
    on_chain (suc i) last_was_ptr (array k ∷ c) = cthen (on_array last_was_ptr (no_mods c)) (cput _)
    on_chain (suc i) last_was_ptr (proto ps ∷ c) = cthen (cput _) (cthen (on_proto last_was_ptr (no_mods c)) (on_params ps))
    on_chain (suc i) last_was_ptr (tag a name ∷ c) = cthen (cput _) (cthen (cput _) (on_chain i false (no_mods c)))

  mutual
    unfolding emit_type_decl emit_type_chain emit_composite_def emit_type_decl_once emit_type_chain_once emit_composite_def_once

    pub on_type_decl : (left id : ℕ) (fname : Name) (lvl : ℕ) → S (emit_type_decl_once Q N' B left id fname lvl) (emit_type_decl N B left id fname lvl)
    on_type_decl zero id fname lvl = C.c_stop 12 (inl refl)
    on_type_decl (suc left) id fname lvl = r_given N' N any_name any_value S C (chain_of 512 B id []) (asks_chain B 512 id []) (λ c. on_type_chain left c fname lvl)

    on_type_chain : (left : ℕ) (c : List Entry) (fname : Name) (lvl : ℕ) → S (emit_type_chain_once Q N' B left c fname lvl) (emit_type_chain N B left c fname lvl)
    on_type_chain zero c fname lvl = C.c_stop 12 (inl refl)
    on_type_chain (suc left) c fname lvl =
        on_chain (λ id m l. on_type_decl left id m l) (λ d m l. on_type_chain left d m l) (λ id s m z ms e l. on_composite_def left id s m z ms e l) fname lvl (length c) true c

    pub on_composite_def : (left id : ℕ) (s : Bool) (name : Name) (sz : ℕ) (ms : List Member) → B.type_by_id id ≡ Composite s name sz ms → (lvl : ℕ) → S (emit_composite_def_once Q N' B left id s name sz ms lvl) (emit_composite_def N B left id s name sz ms lvl)
    on_composite_def zero id s name sz ms e lvl = C.c_stop 12 (inl refl)
    on_composite_def (suc left) id s name sz ms e lvl = on_def (λ t m l. on_type_decl left t m l) id s name sz ms e lvl

  on_typedef : (id : ℕ) (name : Name) (t : ℕ) → S (emit_typedef_def_once Q N' B id name t) (emit_typedef_def N B id name t)
  unfolding emit_typedef_def_once emit_typedef_def
  on_typedef id name t = cthen (ctype ident_space id name (λ m. cthen (cput _) (on_type_decl 512 t m 0))) (cput _)

  pub on_definition : (id : ℕ) (t : BtfType) → B.type_by_id id ≡ t → S (definition_once Q N' B id t) (definition N B id t)
  unfolding definition_once definition
  on_definition id Void e = cput _
  on_definition id (Int m b) e = cput _
  on_definition id (Ptr t) e = cput _
  on_definition id (Array t k) e = cput _
  on_definition id (Composite s m z ms) e = cthen (on_composite_def 512 id s m z ms e 0) (cput _)
  on_definition id (Enum s m z vs) e = cthen (r_emit_enum_def N' N any_name any_value S C B (enum_value s) id m vs 0 tt (values_fit id 0 vs)) (cput _)
  on_definition id (Enum64 s m z vs) e = cthen (r_emit_enum_def N' N any_name any_value S C B (enum64_value s) id m vs 0 tt (values_fit id 0 vs)) (cput _)
  on_definition id (Fwd u m) e = cthen (r_emit_fwd_def N' N any_name any_value S C B id u m tt) (cput _)
  on_definition id (Typedef m t) e = cput _
  on_definition id (Mod q t) e = cput _
  on_definition id (Func m) e = cput _
  on_definition id (Var m) e = cput _
  on_definition id (Datasec m) e = cput _
  on_definition id (FuncProto r ps) e = cput _
  on_definition id (Float m z) e = cput _
  on_definition id (DeclTag a m t k) e = cput _
  on_definition id (TypeTag a m t) e = cput _

  on_shown : {w₁ : Writer St} {w₂ : Writer U} → (name : Name) → S w₁ w₂ → S (shown N' B name w₁) (shown N B name w₂)
  unfolding shown
  on_shown name h = cif (builtin name) (cput []) (cthen h (cput _))

  pub on_forward : (id : ℕ) (t : BtfType) → S (forward_once Q N' B id t) (forward N B id t)
  unfolding forward_once forward
  on_forward id Void = cput _
  on_forward id (Int m b) = cput _
  on_forward id (Ptr t) = cput _
  on_forward id (Array t k) = cput _
  on_forward id (Composite s m z ms) = on_shown m (r_emit_composite_fwd N' N any_name any_value S C B id s m tt)
  on_forward id (Enum s m z vs) = cput _
  on_forward id (Enum64 s m z vs) = cput _
  on_forward id (Fwd u m) = cput _
  on_forward id (Typedef m t) = on_shown m (on_typedef id m t)
  on_forward id (Mod q t) = cput _
  on_forward id (Func m) = cput _
  on_forward id (Var m) = cput _
  on_forward id (Datasec m) = cput _
  on_forward id (FuncProto r ps) = cput _
  on_forward id (Float m z) = cput _
  on_forward id (DeclTag a m t k) = cput _
  on_forward id (TypeTag a m t) = cput _
