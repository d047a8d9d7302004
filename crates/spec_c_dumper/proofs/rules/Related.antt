-- One theorem over all emitters: where two ways of keeping names give related names the same versions, every emitter writes the same text with both,
-- holds related names at each byte, and leaves related names. Assumes nothing.
use Prim.Native.Nat.{ℕ, zero, suc}
use mathlib.Core.Path.{◌≡◌, refl, sym, ◌∙◌, subst}
use mathlib.Core.Bool.{Bool, false}
use mathlib.Core.List.{List, [], ◌∷◌, ◌++◌}
use lib.ListN.{get_or}
use Rattle.spec_bytes.specs.text.Text.{Text, whole, cut, join}
use Rattle.spec_c_dumper.specs.rules.Writer.{reserve_passed, Said, said, said_text, said_names, said_held, Writer, held_by, after, next, put, stop, ◌⨾◌}
use Rattle.spec_c_dumper.specs.rules.Types.{Name, is_empty, Member, Param, Enumerator, BtfType, Btf}
use Rattle.spec_c_dumper.specs.rules.Names.{Space, tag_space, ident_space, Resolved, Naming, resolving}
use Rattle.spec_c_dumper.specs.rules.Layout.{Pad}
use Rattle.spec_c_dumper.specs.rules.Decl.{Entry, emit_composite_fwd, emit_fwd_def, enum_word, emit_values, enum_body, emit_enum_def, emit_name, parens, emit_param, emit_params, base_word, emit_array, emit_proto, param_list, chain_loop, emit_members, composite_head, composite_end, composite_body, composite_def, emit_type_decl, emit_type_chain, emit_composite_def, emit_typedef_def}
use Rattle.spec_c_dumper.specs.rules.Emit.{definition, forward}
use Rattle.spec_c_dumper.proofs.rules.Held.{resolved, resolved_over, resolved_within}
use Rattle.spec_c_dumper.proofs.rules.Closed.{ValuesFit, TypeFits, Closed, r_emit_name, r_parens, r_emit_param, r_emit_params, r_emit_composite_fwd, r_emit_fwd_def, r_enum_word, r_emit_values, r_enum_body, r_emit_enum_def, r_base_word, r_emit_array, r_emit_proto, r_param_list, r_chain_loop, r_emit_members, r_composite_head, r_composite_end, r_composite_body, r_composite_def, r_emit_type_decl, r_emit_type_chain, r_emit_composite_def, r_emit_typedef_def, r_definition, r_forward}

module _ {U W : Type 0} (R : U → W → Type 0) where
  -- related names, one by one
  pub data RelAll : List U → List W → Type 0 where
    no_byte : RelAll [] []
    one_byte : (u : U) (w : W) (k : List U) (m : List W) → R u w → RelAll k m → RelAll (u ∷ k) (w ∷ m)

  -- the same text, related names at each of its bytes and after it
  pub data RelSaid : Said U → Said W → Type 0 where
    same : (u : U) (w : W) (t : Text) (k : List U) (m : List W) → R u w → RelAll k m → RelSaid (said u t k) (said w t m)

  pub rel_append : {k l : List U} {m n : List W} → RelAll k m → RelAll l n → RelAll (k ++ l) (m ++ n)
  rel_append no_byte q = q
  rel_append (one_byte u w k m r p) q = one_byte u w _ _ r (rel_append p q)

  pub rel_held_by : (u : U) (w : W) → R u w → (a : List ℕ) → RelAll (held_by u a) (held_by w a)
  rel_held_by u w r [] = no_byte
  rel_held_by u w r (b ∷ a) = one_byte u w _ _ r (rel_held_by u w r a)

  -- those at any place; past the end there is the default
  pub rel_at : {k : List U} {m : List W} → RelAll k m → (i : ℕ) (u : U) (w : W) → R u w → R (get_or k i u) (get_or m i w)
  rel_at no_byte i u w r = r
  rel_at (one_byte v x k m q p) zero u w r = q
  rel_at (one_byte v x k m q p) (suc i) u w r = rel_at p i u w r

  abbrev pub RelW : Writer U → Writer W → Type 0
  RelW w₁ w₂ = (u : U) (v : W) → R u v → RelSaid (w₁ u) (w₂ v)

  -- both pass or neither, the same version, related names
  abbrev pub RelResolved : Resolved U → Resolved W → Type 0
  RelResolved r₁ r₂ = (r₁.passes ≡ r₂.passes) × (r₁.version ≡ r₂.version) × R r₁.names r₂.names

  pub rel_text : {s₁ : Said U} {s₂ : Said W} → RelSaid s₁ s₂ → said_text s₁ ≡ said_text s₂
  unfolding said_text
  rel_text (same u w t k m r p) = refl

  pub rel_names : {s₁ : Said U} {s₂ : Said W} → RelSaid s₁ s₂ → R (said_names s₁) (said_names s₂)
  unfolding said_names
  rel_names (same u w t k m r p) = r

  pub rel_held : {s₁ : Said U} {s₂ : Said W} → RelSaid s₁ s₂ → RelAll (said_held s₁) (said_held s₂)
  unfolding said_held
  rel_held (same u w t k m r p) = p

  rel_after : {s₁ : Said U} {s₂ : Said W} → (a : List ℕ) {k : List U} {m : List W} → RelAll k m → RelSaid s₁ s₂ → RelSaid (after a k s₁) (after a m s₂)
  unfolding after
  rel_after a p (same u w t k m r q) = same u w (join (whole a) t) _ _ r (rel_append p q)

  rel_next : {s₁ : Said U} {s₂ : Said W} → (w₁ : Writer U) (w₂ : Writer W) → RelSaid s₁ s₂ → RelW w₁ w₂ → RelSaid (next s₁ w₁) (next s₂ w₂)
  unfolding next
  rel_next w₁ w₂ (same u v (whole a) k m r p) h = rel_after a p (h u v r)
  rel_next w₁ w₂ (same u v (cut a c) k m r p) h = same u v (cut a c) k m r p

  pub rel_put : (a : List ℕ) → RelW (put a) (put a)
  unfolding put
  rel_put a u v r = same u v (whole a) _ _ r (rel_held_by u v r a)

  pub rel_stop : (c : ℕ) → RelW (stop c) (stop c)
  unfolding stop
  rel_stop c u v r = same u v (cut [] c) [] [] r no_byte

  pub rel_then : (v₁ w₁ : Writer U) (v₂ w₂ : Writer W) → RelW v₁ v₂ → RelW w₁ w₂ → RelW (v₁ ⨾ w₁) (v₂ ⨾ w₂)
  unfolding ◌⨾◌
  rel_then v₁ w₁ v₂ w₂ hv hw u v r = rel_next w₁ w₂ (hv u v r) hw

  pub rel_resolving : (f₁ : U → Resolved U) (f₂ : W → Resolved W) → ((u : U) (v : W) → R u v → RelResolved (f₁ u) (f₂ v))
      → (k₁ : ℕ → Writer U) (k₂ : ℕ → Writer W) → ((n : ℕ) → RelW (k₁ n) (k₂ n)) → RelW (resolving f₁ k₁) (resolving f₂ k₂)
  rel_resolving f₁ f₂ hf k₁ k₂ hk u v r =
      let q = hf u v r in
      resolved (λ s. RelSaid s (resolving f₂ k₂ v)) f₁ k₁ u
      (λ e. subst (RelSaid (stop reserve_passed u)) (resolved_over f₂ k₂ v (sym q.0 ∙ e)) (rel_stop reserve_passed u v r))
      (λ e. subst (RelSaid (k₁ (f₁ u).version (f₁ u).names)) (resolved_within f₂ k₂ v (sym q.0 ∙ e))
      (subst (λ (n : ℕ). RelSaid (k₁ (f₁ u).version (f₁ u).names) (k₂ n (f₂ v).names)) q.1 (hk (f₁ u).version (f₁ u).names (f₂ v).names q.2)))

-- what relates one by one, relates in another way too; or through a third
module _ {U W : Type 0} (R S : U → W → Type 0) (h : (u : U) (w : W) → R u w → S u w) where
  pub rel_each : {k : List U} {m : List W} → RelAll R k m → RelAll S k m
  rel_each no_byte = no_byte
  rel_each (one_byte u w k m r p) = one_byte u w k m (h u w r) (rel_each p)

module _ {U V W : Type 0} (R : U → V → Type 0) (S : V → W → Type 0) (Q : U → W → Type 0) (h : (u : U) (v : V) (w : W) → R u v → S v w → Q u w) where
  pub rel_through : {k : List U} {l : List V} {m : List W} → RelAll R k l → RelAll S l m → RelAll Q k m
  rel_through no_byte no_byte = no_byte
  rel_through (one_byte u v k l r p) (one_byte _ w _ m s q) = one_byte u w k m (h u v w r s) (rel_through p q)

-- two ways of keeping names; a type's name is never empty
pub record RelNaming {U W : Type 0} (R : U → W → Type 0) (Fits : Space → ℕ → Name → Type 0) (FitsValue : ℕ → ℕ → Name → Type 0) (N₁ : Naming U) (N₂ : Naming W) : Type 0 where
  pub rel_type : (space : Space) (id : ℕ) (name : Name) → Fits space id name → is_empty name ≡ false → (u : U) (v : W) → R u v
      → RelResolved R (N₁.type_version space id name u) (N₂.type_version space id name v)
  pub rel_value : (id i : ℕ) (name : Name) → FitsValue id i name → (u : U) (v : W) → R u v
      → RelResolved R (N₁.value_version id i name u) (N₂.value_version id i name v)
  pub rel_leaving : (h₁ : U) (h₂ : W) → R h₁ h₂ → (u : U) (v : W) → R u v → R (N₁.leaving h₁ u) (N₂.leaving h₂ v)

module _ {U W : Type 0} (R : U → W → Type 0) (Fits : Space → ℕ → Name → Type 0) (FitsValue : ℕ → ℕ → Name → Type 0) (N₁ : Naming U) (N₂ : Naming W) (related : RelNaming R Fits FitsValue N₁ N₂) where
  pub rel_closed : Closed N₁ N₂ Fits FitsValue (λ w₁ w₂. RelW R w₁ w₂)
  rel_closed = record {
    c_put = rel_put R;
    c_stop = λ c q. rel_stop R c;
    c_then = rel_then R;
    c_type = λ space id name fit e k₁ k₂ h. rel_resolving R (N₁.type_version space id name) (N₂.type_version space id name) (related.rel_type space id name fit e) k₁ k₂ h;
    c_value = λ id i name fit k₁ k₂ h. rel_resolving R (N₁.value_version id i name) (N₂.value_version id i name) (related.rel_value id i name fit) k₁ k₂ h;
  }

  abbrev RW : Writer U → Writer W → Type 0
  RW w₁ w₂ = RelW R w₁ w₂

  pub rel_emit_name : (fname : Name) (last_was_ptr : Bool) → RelW R (emit_name fname last_was_ptr) (emit_name fname last_was_ptr)
  rel_emit_name fname last_was_ptr = r_emit_name N₁ N₂ Fits FitsValue RW rel_closed fname last_was_ptr

  pub rel_parens : (b : Bool) (w₁ : Writer U) (w₂ : Writer W) → RelW R w₁ w₂ → RelW R (parens b w₁) (parens b w₂)
  rel_parens b w₁ w₂ h = r_parens N₁ N₂ Fits FitsValue RW rel_closed {w₁ = w₁} {w₂ = w₂} b h

  module _ (d₁ : ℕ → Name → Writer U) (d₂ : ℕ → Name → Writer W) (hd : (id : ℕ) (n : Name) → RelW R (d₁ id n) (d₂ id n)) where
    pub rel_emit_param : (p : Param) (is_last : Bool) → RelW R (emit_param d₁ p is_last) (emit_param d₂ p is_last)
    rel_emit_param p is_last = r_emit_param N₁ N₂ Fits FitsValue RW rel_closed {d₁ = d₁} {d₂ = d₂} hd p is_last

    pub rel_emit_params : (first : Bool) (ps : List Param) → RelW R (emit_params d₁ first ps) (emit_params d₂ first ps)
    rel_emit_params first ps = r_emit_params N₁ N₂ Fits FitsValue RW rel_closed {d₁ = d₁} {d₂ = d₂} hd first ps

  module _ (B : Btf) where
    pub rel_emit_composite_fwd : (id : ℕ) (is_struct : Bool) (name : Name) → Fits tag_space id name
        → RelW R (emit_composite_fwd N₁ B id is_struct name) (emit_composite_fwd N₂ B id is_struct name)
    rel_emit_composite_fwd id is_struct name fit = r_emit_composite_fwd N₁ N₂ Fits FitsValue RW rel_closed B id is_struct name fit

    pub rel_emit_fwd_def : (id : ℕ) (is_union : Bool) (name : Name) → Fits tag_space id name
        → RelW R (emit_fwd_def N₁ B id is_union name) (emit_fwd_def N₂ B id is_union name)
    rel_emit_fwd_def id is_union name fit = r_emit_fwd_def N₁ N₂ Fits FitsValue RW rel_closed B id is_union name fit

    pub rel_enum_word : (id : ℕ) (name : Name) → Fits tag_space id name
        → RelW R (enum_word N₁ B id name) (enum_word N₂ B id name)
    rel_enum_word id name fit = r_enum_word N₁ N₂ Fits FitsValue RW rel_closed B id name fit

    pub rel_emit_values : (str : ℕ → List ℕ) (id lvl i : ℕ) (vs : List Enumerator) → ValuesFit Fits FitsValue id i vs
        → RelW R (emit_values N₁ B str id lvl i vs) (emit_values N₂ B str id lvl i vs)
    rel_emit_values str id lvl i vs fits = r_emit_values N₁ N₂ Fits FitsValue RW rel_closed B str id lvl i vs fits

    pub rel_enum_body : (str : ℕ → List ℕ) (id lvl : ℕ) (vs : List Enumerator) → ValuesFit Fits FitsValue id 0 vs
        → RelW R (enum_body N₁ B str id lvl vs) (enum_body N₂ B str id lvl vs)
    rel_enum_body str id lvl vs fits = r_enum_body N₁ N₂ Fits FitsValue RW rel_closed B str id lvl vs fits

    pub rel_emit_enum_def : (str : ℕ → List ℕ) (id : ℕ) (name : Name) (vs : List Enumerator) (lvl : ℕ) → Fits tag_space id name → ValuesFit Fits FitsValue id 0 vs
        → RelW R (emit_enum_def N₁ B str id name vs lvl) (emit_enum_def N₂ B str id name vs lvl)
    rel_emit_enum_def str id name vs lvl fit fits = r_emit_enum_def N₁ N₂ Fits FitsValue RW rel_closed B str id name vs lvl fit fits

    module _ (d₁ : ℕ → Name → ℕ → Writer U) (d₂ : ℕ → Name → ℕ → Writer W) (hd : (id : ℕ) (n : Name) (l : ℕ) → RelW R (d₁ id n l) (d₂ id n l)) where
      module _ (c₁ : List Entry → Name → ℕ → Writer U) (c₂ : List Entry → Name → ℕ → Writer W) (hc : (c : List Entry) (n : Name) (l : ℕ) → RelW R (c₁ c n l) (c₂ c n l))
          (f₁ : ℕ → Bool → Name → ℕ → List Member → ℕ → Writer U) (f₂ : ℕ → Bool → Name → ℕ → List Member → ℕ → Writer W)
          (hf : (id : ℕ) (s : Bool) (n : Name) (z : ℕ) (ms : List Member) (l : ℕ) → Fits tag_space id n → RelW R (f₁ id s n z ms l) (f₂ id s n z ms l)) (fname : Name) (lvl : ℕ) where
        pub rel_base_word : (id : ℕ) (t : BtfType) → TypeFits Fits FitsValue id t
            → RelW R (base_word N₁ B d₁ c₁ f₁ fname lvl id t) (base_word N₂ B d₂ c₂ f₂ fname lvl id t)
        rel_base_word id t fit = r_base_word N₁ N₂ Fits FitsValue RW rel_closed B {d₁ = d₁} {d₂ = d₂} hd {c₁ = c₁} {c₂ = c₂} hc {f₁ = f₁} {f₂ = f₂} hf fname lvl id t fit

        pub rel_emit_array : (last_was_ptr : Bool) (c : List Entry)
            → RelW R (emit_array N₁ B d₁ c₁ f₁ fname lvl last_was_ptr c) (emit_array N₂ B d₂ c₂ f₂ fname lvl last_was_ptr c)
        rel_emit_array last_was_ptr c = r_emit_array N₁ N₂ Fits FitsValue RW rel_closed B {d₁ = d₁} {d₂ = d₂} hd {c₁ = c₁} {c₂ = c₂} hc {f₁ = f₁} {f₂ = f₂} hf fname lvl last_was_ptr c

        pub rel_emit_proto : (last_was_ptr : Bool) (c : List Entry)
            → RelW R (emit_proto N₁ B d₁ c₁ f₁ fname lvl last_was_ptr c) (emit_proto N₂ B d₂ c₂ f₂ fname lvl last_was_ptr c)
        rel_emit_proto last_was_ptr c = r_emit_proto N₁ N₂ Fits FitsValue RW rel_closed B {d₁ = d₁} {d₂ = d₂} hd {c₁ = c₁} {c₂ = c₂} hc {f₁ = f₁} {f₂ = f₂} hf fname lvl last_was_ptr c

        pub rel_param_list : (ps : List Param)
            → RelW R (param_list N₁ B d₁ c₁ f₁ fname lvl ps) (param_list N₂ B d₂ c₂ f₂ fname lvl ps)
        rel_param_list ps = r_param_list N₁ N₂ Fits FitsValue RW rel_closed B {d₁ = d₁} {d₂ = d₂} hd {c₁ = c₁} {c₂ = c₂} hc {f₁ = f₁} {f₂ = f₂} hf fname lvl ps

        module _ (fits : (id : ℕ) → TypeFits Fits FitsValue id (B.type_by_id id)) where
          pub rel_chain_loop : (n : ℕ) (last_was_ptr : Bool) (c : List Entry)
              → RelW R (chain_loop N₁ B d₁ c₁ f₁ fname lvl n last_was_ptr c) (chain_loop N₂ B d₂ c₂ f₂ fname lvl n last_was_ptr c)
          rel_chain_loop n last_was_ptr c = r_chain_loop N₁ N₂ Fits FitsValue RW rel_closed B {d₁ = d₁} {d₂ = d₂} hd {c₁ = c₁} {c₂ = c₂} hc {f₁ = f₁} {f₂ = f₂} hf fname lvl fits n last_was_ptr c

      module _ (id : ℕ) where
        pub rel_emit_members : (tail : ℕ → List Pad) (lvl : ℕ) (packed : Bool) (i offset : ℕ) (ms : List Member)
            → RelW R (emit_members N₁ B d₁ id tail lvl packed i offset ms) (emit_members N₂ B d₂ id tail lvl packed i offset ms)
        rel_emit_members tail lvl packed i offset ms = r_emit_members N₁ N₂ Fits FitsValue RW rel_closed B {d₁ = d₁} {d₂ = d₂} hd id tail lvl packed i offset ms

        pub rel_composite_head : (is_struct : Bool) (name : Name) → Fits tag_space id name
            → RelW R (composite_head N₁ B d₁ id is_struct name) (composite_head N₂ B d₂ id is_struct name)
        rel_composite_head is_struct name fit = r_composite_head N₁ N₂ Fits FitsValue RW rel_closed B {d₁ = d₁} {d₂ = d₂} hd id is_struct name fit

        pub rel_composite_end : (lvl : ℕ) (ms : List Member) (packed : Bool)
            → RelW R (composite_end N₁ B d₁ id lvl ms packed) (composite_end N₂ B d₂ id lvl ms packed)
        rel_composite_end lvl ms packed = r_composite_end N₁ N₂ Fits FitsValue RW rel_closed B {d₁ = d₁} {d₂ = d₂} hd id lvl ms packed

        pub rel_composite_body : (is_struct : Bool) (name : Name) (sz : ℕ) (ms : List Member) (lvl : ℕ) (packed : Bool) → Fits tag_space id name
            → RelW R (composite_body N₁ B d₁ id is_struct name sz ms lvl packed) (composite_body N₂ B d₂ id is_struct name sz ms lvl packed)
        rel_composite_body is_struct name sz ms lvl packed fit = r_composite_body N₁ N₂ Fits FitsValue RW rel_closed B {d₁ = d₁} {d₂ = d₂} hd id is_struct name sz ms lvl packed fit

        pub rel_composite_def : (is_struct : Bool) (name : Name) (sz : ℕ) (ms : List Member) (lvl : ℕ) → Fits tag_space id name
            → RelW R (composite_def N₁ B d₁ id is_struct name sz ms lvl) (composite_def N₂ B d₂ id is_struct name sz ms lvl)
        rel_composite_def is_struct name sz ms lvl fit = r_composite_def N₁ N₂ Fits FitsValue RW rel_closed B {d₁ = d₁} {d₂ = d₂} hd id is_struct name sz ms lvl fit

    module _ (fits : (id : ℕ) → TypeFits Fits FitsValue id (B.type_by_id id)) where
      pub rel_emit_type_decl : (left id : ℕ) (fname : Name) (lvl : ℕ)
          → RelW R (emit_type_decl N₁ B left id fname lvl) (emit_type_decl N₂ B left id fname lvl)
      rel_emit_type_decl left id fname lvl = r_emit_type_decl N₁ N₂ Fits FitsValue RW rel_closed B fits left id fname lvl

      pub rel_emit_type_chain : (left : ℕ) (c : List Entry) (fname : Name) (lvl : ℕ)
          → RelW R (emit_type_chain N₁ B left c fname lvl) (emit_type_chain N₂ B left c fname lvl)
      rel_emit_type_chain left c fname lvl = r_emit_type_chain N₁ N₂ Fits FitsValue RW rel_closed B fits left c fname lvl

      pub rel_emit_composite_def : (left id : ℕ) (is_struct : Bool) (name : Name) (sz : ℕ) (ms : List Member) (lvl : ℕ) → Fits tag_space id name
          → RelW R (emit_composite_def N₁ B left id is_struct name sz ms lvl) (emit_composite_def N₂ B left id is_struct name sz ms lvl)
      rel_emit_composite_def left id is_struct name sz ms lvl fit = r_emit_composite_def N₁ N₂ Fits FitsValue RW rel_closed B fits left id is_struct name sz ms lvl fit

      pub rel_emit_typedef_def : (id : ℕ) (name : Name) (t : ℕ) → Fits ident_space id name
          → RelW R (emit_typedef_def N₁ B id name t) (emit_typedef_def N₂ B id name t)
      rel_emit_typedef_def id name t fit = r_emit_typedef_def N₁ N₂ Fits FitsValue RW rel_closed B fits id name t fit

      pub rel_definition : (id : ℕ) (t : BtfType) → TypeFits Fits FitsValue id t
          → RelW R (definition N₁ B id t) (definition N₂ B id t)
      rel_definition id t fit = r_definition N₁ N₂ Fits FitsValue RW rel_closed B fits id t fit

      pub rel_forward : (id : ℕ) (t : BtfType) → TypeFits Fits FitsValue id t
          → RelW R (forward N₁ B id t) (forward N₂ B id t)
      rel_forward id t fit = r_forward N₁ N₂ Fits FitsValue RW rel_closed B fits id t fit
