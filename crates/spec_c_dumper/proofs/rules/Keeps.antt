-- What no naming operation changes, no emitter changes, nor is it other at any byte. Assumes nothing.
use Prim.Native.Nat.{ℕ, ◌+◌}
use mathlib.Core.Path.{◌≡◌, refl, ◌∙◌, subst}
use mathlib.Core.Bool.{Bool}
use mathlib.Core.List.{List, [], ◌∷◌}
use lib.ListN.{get_or}
use Rattle.spec_bytes.specs.text.Text.{whole, cut}
use Rattle.spec_c_dumper.specs.rules.Writer.{reserve_passed, Said, said, said_names, said_held, Writer, after, next, put, stop, ◌⨾◌}
use Rattle.spec_c_dumper.specs.rules.Types.{Name, Member, Param, Enumerator, BtfType, Void, Int, Ptr, Array, Composite, Enum, Enum64, Fwd, Typedef, Mod, Func, Var, Datasec, FuncProto, Float, DeclTag, TypeTag, Btf}
use Rattle.spec_c_dumper.specs.rules.Names.{Space, Resolved, Naming, resolving}
use Rattle.spec_c_dumper.specs.rules.Layout.{Pad}
use Rattle.spec_c_dumper.specs.rules.Decl.{Entry, emit_composite_fwd, emit_fwd_def, enum_word, emit_values, enum_body, emit_enum_def, emit_name, parens, emit_param, emit_params, base_word, emit_array, emit_proto, param_list, chain_loop, emit_members, composite_head, composite_end, composite_body, composite_def, emit_type_decl, emit_type_chain, emit_composite_def, emit_typedef_def}
use Rattle.spec_c_dumper.specs.rules.Emit.{definition, forward}
use Rattle.spec_c_dumper.proofs.rules.Held.{Each, of_none, each_append, each_held_by, each_at, EachHas, resolved, held_put, held_stop, held_next}
use Rattle.spec_c_dumper.proofs.rules.Closed.{ValuesFit, TypeFits, Closed, r_emit_name, r_parens, r_emit_param, r_emit_params, r_emit_composite_fwd, r_emit_fwd_def, r_enum_word, r_emit_values, r_enum_body, r_emit_enum_def, r_base_word, r_emit_array, r_emit_proto, r_param_list, r_chain_loop, r_emit_members, r_composite_head, r_composite_end, r_composite_body, r_composite_def, r_emit_type_decl, r_emit_type_chain, r_emit_composite_def, r_emit_typedef_def, r_definition, r_forward}

module _ {U X : Type 0} (P : U → X) where
  -- P stays, each byte has its names, and P is the same of them
  abbrev pub Kept : U → Said U → Type 0
  Kept u s = (P (said_names s) ≡ P u) × EachHas s × Each (λ (v : U). P v ≡ P u) (said_held s)

  abbrev pub Keeps : Writer U → Type 0
  Keeps w = (u : U) → Kept u (w u)

  -- of names of which P is the same
  pub kept_as : (u v : U) → P v ≡ P u → (s : Said U) → Kept v s → Kept u s
  kept_as u v e s h = (h.0 ∙ e, h.1, subst (λ (x : X). Each (λ (w : U). P w ≡ x) (said_held s)) e h.2)

  -- nor is P other where what is said stops
  pub kept_at : (u : U) (s : Said U) → Kept u s → (i : ℕ) → P (get_or (said_held s) i (said_names s)) ≡ P u
  kept_at u s h i = each_at (λ (v : U). P v ≡ P u) h.2 i (said_names s) h.0

  names_after : (a : List ℕ) (k : List U) (s : Said U) → P (said_names (after a k s)) ≡ P (said_names s)
  unfolding after said_names
  names_after a k (said u t m) = refl

  names_next : (s : Said U) (w : Writer U) → Keeps w → P (said_names (next s w)) ≡ P (said_names s)
  unfolding next said_names
  names_next (said u (whole a) k) w h = names_after a k (w u) ∙ (h u).0
  names_next (said u (cut a c) k) w h = refl

  each_after : (a : List ℕ) (k : List U) (s : Said U) (Q : U → Type 0) → Each Q k → Each Q (said_held s) → Each Q (said_held (after a k s))
  unfolding after said_held
  each_after a k (said u t m) Q g h = each_append Q g h

  each_next : (s : Said U) (w : Writer U) → Keeps w → (u : U) → Kept u s → Each (λ (v : U). P v ≡ P u) (said_held (next s w))
  unfolding next said_names said_held
  each_next (said v (whole a) k) w h u g = each_after a k (w v) (λ (x : U). P x ≡ P u) g.2 (kept_as u v g.0 (w v) (h v)).2
  each_next (said v (cut a c) k) w h u g = g.2

  pub keeps_put : (a : List ℕ) → Keeps (put a)
  unfolding put said_names said_held
  keeps_put a u = (refl, held_put a u, each_held_by (λ (v : U). P v ≡ P u) u refl a)

  pub keeps_stop : (c : ℕ) → Keeps (stop c)
  unfolding stop said_names said_held
  keeps_stop c u = (refl, held_stop c u, of_none)

  pub keeps_then : (v w : Writer U) → Keeps v → Keeps w → Keeps (v ⨾ w)
  unfolding ◌⨾◌
  keeps_then v w hv hw u = (names_next (v u) w hw ∙ (hv u).0, held_next (v u) w (hv u).1 (λ z. (hw z).1), each_next (v u) w hw u (hv u))

  pub keeps_resolving : (f : U → Resolved U) → ((u : U) → P (f u).names ≡ P u) → (k : ℕ → Writer U) → ((n : ℕ) → Keeps (k n)) → Keeps (resolving f k)
  keeps_resolving f hf k hk u = resolved (Kept u) f k u (λ e. keeps_stop reserve_passed u) (λ e. kept_as u (f u).names (hf u) _ (hk (f u).version (f u).names))

-- every name fits
abbrev pub any_name : Space → ℕ → Name → Type 0
any_name space id name = Unit {0}

abbrev pub any_value : ℕ → ℕ → Name → Type 0
any_value id i name = Unit {0}

pub values_fit : (id i : ℕ) (vs : List Enumerator) → ValuesFit any_name any_value id i vs
values_fit id i [] = tt
values_fit id i (v ∷ vs) = (tt, values_fit id (i + 1) vs)

pub type_fits : (id : ℕ) (t : BtfType) → TypeFits any_name any_value id t
type_fits id Void = tt
type_fits id (Int n b) = tt
type_fits id (Ptr t) = tt
type_fits id (Array t k) = tt
type_fits id (Composite s n z ms) = tt
type_fits id (Enum s n z vs) = (tt, values_fit id 0 vs)
type_fits id (Enum64 s n z vs) = (tt, values_fit id 0 vs)
type_fits id (Fwd u n) = tt
type_fits id (Typedef n t) = tt
type_fits id (Mod q t) = tt
type_fits id (Func n) = tt
type_fits id (Var n) = tt
type_fits id (Datasec n) = tt
type_fits id (FuncProto r ps) = tt
type_fits id (Float n z) = tt
type_fits id (DeclTag a n t k) = tt
type_fits id (TypeTag a n t) = tt

module _ {U X : Type 0} (N : Naming U) (P : U → X)
    (keeps_type : (space : Space) (id : ℕ) (name : Name) (u : U) → P (N.type_version space id name u).names ≡ P u)
    (keeps_value : (id i : ℕ) (name : Name) (u : U) → P (N.value_version id i name u).names ≡ P u) where
  abbrev K : Writer U → Writer U → Type 0
  K w₁ w₂ = Keeps P w₁

  keeps_closed : Closed N N any_name any_value K
  keeps_closed = record {
    c_put = λ a. keeps_put P a;
    c_stop = λ c q. keeps_stop P c;
    c_then = λ v₁ w₁ v₂ w₂ hv hw. keeps_then P v₁ w₁ hv hw;
    c_type = λ space id name fit e k₁ k₂ h. keeps_resolving P (N.type_version space id name) (keeps_type space id name) k₁ h;
    c_value = λ id i name fit k₁ k₂ h. keeps_resolving P (N.value_version id i name) (keeps_value id i name) k₁ h;
  }

  pub keeps_emit_name : (fname : Name) (last_was_ptr : Bool) → Keeps P (emit_name fname last_was_ptr)
  keeps_emit_name fname last_was_ptr = r_emit_name N N any_name any_value K keeps_closed fname last_was_ptr

  pub keeps_parens : (b : Bool) (w : Writer U) → Keeps P w → Keeps P (parens b w)
  keeps_parens b w h = r_parens N N any_name any_value K keeps_closed {w₁ = w} {w₂ = w} b h

  module _ (d : ℕ → Name → Writer U) (hd : (id : ℕ) (n : Name) → Keeps P (d id n)) where
    pub keeps_emit_param : (p : Param) (is_last : Bool) → Keeps P (emit_param d p is_last)
    keeps_emit_param p is_last = r_emit_param N N any_name any_value K keeps_closed {d₁ = d} {d₂ = d} hd p is_last

    pub keeps_emit_params : (first : Bool) (ps : List Param) → Keeps P (emit_params d first ps)
    keeps_emit_params first ps = r_emit_params N N any_name any_value K keeps_closed {d₁ = d} {d₂ = d} hd first ps

  module _ (B : Btf) where
    fits : (id : ℕ) → TypeFits any_name any_value id (B.type_by_id id)
    fits id = type_fits id (B.type_by_id id)

    pub keeps_emit_composite_fwd : (id : ℕ) (is_struct : Bool) (name : Name) → Keeps P (emit_composite_fwd N B id is_struct name)
    keeps_emit_composite_fwd id is_struct name = r_emit_composite_fwd N N any_name any_value K keeps_closed B id is_struct name tt

    pub keeps_emit_fwd_def : (id : ℕ) (is_union : Bool) (name : Name) → Keeps P (emit_fwd_def N B id is_union name)
    keeps_emit_fwd_def id is_union name = r_emit_fwd_def N N any_name any_value K keeps_closed B id is_union name tt

    pub keeps_enum_word : (id : ℕ) (name : Name) → Keeps P (enum_word N B id name)
    keeps_enum_word id name = r_enum_word N N any_name any_value K keeps_closed B id name tt

    pub keeps_emit_values : (str : ℕ → List ℕ) (id lvl i : ℕ) (vs : List Enumerator) → Keeps P (emit_values N B str id lvl i vs)
    keeps_emit_values str id lvl i vs = r_emit_values N N any_name any_value K keeps_closed B str id lvl i vs (values_fit id i vs)

    pub keeps_enum_body : (str : ℕ → List ℕ) (id lvl : ℕ) (vs : List Enumerator) → Keeps P (enum_body N B str id lvl vs)
    keeps_enum_body str id lvl vs = r_enum_body N N any_name any_value K keeps_closed B str id lvl vs (values_fit id 0 vs)

    pub keeps_emit_enum_def : (str : ℕ → List ℕ) (id : ℕ) (name : Name) (vs : List Enumerator) (lvl : ℕ) → Keeps P (emit_enum_def N B str id name vs lvl)
    keeps_emit_enum_def str id name vs lvl = r_emit_enum_def N N any_name any_value K keeps_closed B str id name vs lvl tt (values_fit id 0 vs)

    module _ (d : ℕ → Name → ℕ → Writer U) (hd : (id : ℕ) (n : Name) (l : ℕ) → Keeps P (d id n l)) where
      module _ (ch : List Entry → Name → ℕ → Writer U) (hc : (c : List Entry) (n : Name) (l : ℕ) → Keeps P (ch c n l))
          (def : ℕ → Bool → Name → ℕ → List Member → ℕ → Writer U)
          (hf : (id : ℕ) (s : Bool) (n : Name) (z : ℕ) (ms : List Member) (l : ℕ) → Keeps P (def id s n z ms l)) (fname : Name) (lvl : ℕ) where
        pub keeps_base_word : (id : ℕ) (t : BtfType) → Keeps P (base_word N B d ch def fname lvl id t)
        keeps_base_word id t = r_base_word N N any_name any_value K keeps_closed B {d₁ = d} {d₂ = d} hd {c₁ = ch} {c₂ = ch} hc {f₁ = def} {f₂ = def} (λ id s n z ms l fit. hf id s n z ms l) fname lvl id t (type_fits id t)

        pub keeps_emit_array : (last_was_ptr : Bool) (c : List Entry) → Keeps P (emit_array N B d ch def fname lvl last_was_ptr c)
        keeps_emit_array last_was_ptr c = r_emit_array N N any_name any_value K keeps_closed B {d₁ = d} {d₂ = d} hd {c₁ = ch} {c₂ = ch} hc {f₁ = def} {f₂ = def} (λ id s n z ms l fit. hf id s n z ms l) fname lvl last_was_ptr c

        pub keeps_emit_proto : (last_was_ptr : Bool) (c : List Entry) → Keeps P (emit_proto N B d ch def fname lvl last_was_ptr c)
        keeps_emit_proto last_was_ptr c = r_emit_proto N N any_name any_value K keeps_closed B {d₁ = d} {d₂ = d} hd {c₁ = ch} {c₂ = ch} hc {f₁ = def} {f₂ = def} (λ id s n z ms l fit. hf id s n z ms l) fname lvl last_was_ptr c

        pub keeps_param_list : (ps : List Param) → Keeps P (param_list N B d ch def fname lvl ps)
        keeps_param_list ps = r_param_list N N any_name any_value K keeps_closed B {d₁ = d} {d₂ = d} hd {c₁ = ch} {c₂ = ch} hc {f₁ = def} {f₂ = def} (λ id s n z ms l fit. hf id s n z ms l) fname lvl ps

        pub keeps_chain_loop : (n : ℕ) (last_was_ptr : Bool) (c : List Entry) → Keeps P (chain_loop N B d ch def fname lvl n last_was_ptr c)
        keeps_chain_loop n last_was_ptr c = r_chain_loop N N any_name any_value K keeps_closed B {d₁ = d} {d₂ = d} hd {c₁ = ch} {c₂ = ch} hc {f₁ = def} {f₂ = def} (λ id s n z ms l fit. hf id s n z ms l) fname lvl fits n last_was_ptr c

      module _ (id : ℕ) where
        pub keeps_emit_members : (tail : ℕ → List Pad) (lvl : ℕ) (packed : Bool) (i offset : ℕ) (ms : List Member) → Keeps P (emit_members N B d id tail lvl packed i offset ms)
        keeps_emit_members tail lvl packed i offset ms = r_emit_members N N any_name any_value K keeps_closed B {d₁ = d} {d₂ = d} hd id tail lvl packed i offset ms

        pub keeps_composite_head : (is_struct : Bool) (name : Name) → Keeps P (composite_head N B d id is_struct name)
        keeps_composite_head is_struct name = r_composite_head N N any_name any_value K keeps_closed B {d₁ = d} {d₂ = d} hd id is_struct name tt

        pub keeps_composite_end : (lvl : ℕ) (ms : List Member) (packed : Bool) → Keeps P (composite_end N B d id lvl ms packed)
        keeps_composite_end lvl ms packed = r_composite_end N N any_name any_value K keeps_closed B {d₁ = d} {d₂ = d} hd id lvl ms packed

        pub keeps_composite_body : (is_struct : Bool) (name : Name) (sz : ℕ) (ms : List Member) (lvl : ℕ) (packed : Bool) → Keeps P (composite_body N B d id is_struct name sz ms lvl packed)
        keeps_composite_body is_struct name sz ms lvl packed = r_composite_body N N any_name any_value K keeps_closed B {d₁ = d} {d₂ = d} hd id is_struct name sz ms lvl packed tt

        pub keeps_composite_def : (is_struct : Bool) (name : Name) (sz : ℕ) (ms : List Member) (lvl : ℕ) → Keeps P (composite_def N B d id is_struct name sz ms lvl)
        keeps_composite_def is_struct name sz ms lvl = r_composite_def N N any_name any_value K keeps_closed B {d₁ = d} {d₂ = d} hd id is_struct name sz ms lvl tt

    pub keeps_emit_type_decl : (left id : ℕ) (fname : Name) (lvl : ℕ) → Keeps P (emit_type_decl N B left id fname lvl)
    keeps_emit_type_decl left id fname lvl = r_emit_type_decl N N any_name any_value K keeps_closed B fits left id fname lvl

    pub keeps_emit_type_chain : (left : ℕ) (c : List Entry) (fname : Name) (lvl : ℕ) → Keeps P (emit_type_chain N B left c fname lvl)
    keeps_emit_type_chain left c fname lvl = r_emit_type_chain N N any_name any_value K keeps_closed B fits left c fname lvl

    pub keeps_emit_composite_def : (left id : ℕ) (is_struct : Bool) (name : Name) (sz : ℕ) (ms : List Member) (lvl : ℕ) → Keeps P (emit_composite_def N B left id is_struct name sz ms lvl)
    keeps_emit_composite_def left id is_struct name sz ms lvl = r_emit_composite_def N N any_name any_value K keeps_closed B fits left id is_struct name sz ms lvl tt

    pub keeps_emit_typedef_def : (id : ℕ) (name : Name) (t : ℕ) → Keeps P (emit_typedef_def N B id name t)
    keeps_emit_typedef_def id name t = r_emit_typedef_def N N any_name any_value K keeps_closed B fits id name t tt

    pub keeps_definition : (id : ℕ) (t : BtfType) → Keeps P (definition N B id t)
    keeps_definition id t = r_definition N N any_name any_value K keeps_closed B fits id t (type_fits id t)

    pub keeps_forward : (id : ℕ) (t : BtfType) → Keeps P (forward N B id t)
    keeps_forward id t = r_forward N N any_name any_value K keeps_closed B fits id t (type_fits id t)
