-- Emitters with names that may have other numbers: what texts, refusals, one writer after another, and names that stand for one another keep, all emitters
-- keep. After crates/spec_c_dumper/proofs/rules/Closed, where both sides have one name. Assumes nothing.
use Prim.Native.Nat.{ℕ, zero, suc, ◌+◌}
use mathlib.Core.Path.{◌≡◌, refl, sym, ◌∙◌, subst}
use mathlib.Core.Bool.{Bool, true, false, true≢false, not, ◌&&◌}
use mathlib.Core.List.{List, [], ◌∷◌, ◌++◌}
use lib.ListN.{length}
use lib.Dec.{ltb, eqb}
use Rattle.spec_bytes.specs.text.Text.{ascii}
use Rattle.spec_bytes.specs.text.Decimal.{decimal}
use Rattle.spec_c_dumper.specs.rules.Writer.{Ask, got, no, Writer, ◌⨾◌, put, stop, given}
use Rattle.spec_c_dumper.specs.rules.Types.{Name, is_empty, Member, Param, Enumerator, BtfType, Void, Int, Ptr, Array, Composite, Enum, Enum64, Fwd, Typedef, Mod, Func, Var, Datasec, FuncProto, Float, DeclTag, TypeTag, Btf}
use Rattle.spec_c_dumper.specs.rules.Layout.{Pad, bit_padding, end_of}
use Rattle.spec_c_dumper.specs.rules.Placing.{body_packed, tail_pads}
use Rattle.spec_c_dumper.specs.rules.Names.{Space, tag_space, ident_space, Naming, resolving, spelled, resolve_type_name, resolve_name, builtin}
use Rattle.spec_c_dumper.specs.rules.Decl.{deeper, sep_name, enum_value, enum64_value, Entry, base, star, qual, array, proto, tag, chain_of, no_mods, is_array, no_params, shown_params, emit_composite_fwd, emit_fwd_def, enum_word, emit_values, enum_body, emit_enum_def, emit_name, parens, emit_param, emit_params, base_word, emit_array, emit_proto, param_list, chain_loop, emit_members, composite_head, composite_end, composite_body, composite_def, emit_type_decl, emit_type_chain, emit_composite_def, emit_typedef_def}
use Rattle.spec_c_dumper.specs.rules.Emit.{definition, shown, forward}

-- Named: which spellings may stand for one another
pub record Renamed {U W : Type 0} (N₁ : Naming U) (N₂ : Naming W) (Named : Name → Name → Type 0) (S : Writer U → Writer W → Type 0) : Type 0 where
  pub c_refl : (n : Name) → Named n n
  pub c_put : (a : List ℕ) → S (put a) (put a)
  pub c_name : (n m : Name) → Named n m → S (put n) (put m)
  pub c_sep : (n m : Name) → Named n m → is_empty n ≡ is_empty m → S (put (sep_name n)) (put (sep_name m))
  pub c_stop : (c : ℕ) → S (stop c) (stop c)
  pub c_then : (v₁ w₁ : Writer U) (v₂ w₂ : Writer W) → S v₁ v₂ → S w₁ w₂ → S (v₁ ⨾ w₁) (v₂ ⨾ w₂)
  pub c_type : (space : Space) (id : ℕ) (name : Name) (k₁ : ℕ → Writer U) (k₂ : ℕ → Writer W)
      → ((n m : ℕ) → Named (spelled name n) (spelled name m) → S (k₁ n) (k₂ m)) → S (resolving (N₁.type_version space id name) k₁) (resolving (N₂.type_version space id name) k₂)
  pub c_value : (id i : ℕ) (name : Name) (k₁ : ℕ → Writer U) (k₂ : ℕ → Writer W)
      → ((n m : ℕ) → Named (spelled name n) (spelled name m) → S (k₁ n) (k₂ m)) → S (resolving (N₁.value_version id i name) k₁) (resolving (N₂.value_version id i name) k₂)

module _ {U W : Type 0} (N₁ : Naming U) (N₂ : Naming W) (Named : Name → Name → Type 0) (S : Writer U → Writer W → Type 0) (C : Renamed N₁ N₂ Named S) where
  r_put : (a : List ℕ) → S (put a) (put a)
  r_put a = C.c_put a

  -- both empty or neither: the space before a name is there on both
  abbrev Titled : Name → Name → Type 0
  Titled n m = Named n m × (is_empty n ≡ is_empty m)

  r_self : (n : Name) → Titled n n
  r_self n = (C.c_refl n, refl)

  r_sep : (n m : Name) → Titled n m → S (put (sep_name n)) (put (sep_name m))
  r_sep n m h = C.c_sep n m h.0 h.1

  -- the space before brackets
  r_gap : (n m : Name) → Titled n m → (p : Bool)
      → S (put (elim (not (is_empty n) && not p) [ true ↦ ascii " " | false ↦ [] ])) (put (elim (not (is_empty m) && not p) [ true ↦ ascii " " | false ↦ [] ]))
  r_gap n m h p =
      subst (λ (b : Bool). S (put (elim (not (is_empty n) && not p) [ true ↦ ascii " " | false ↦ [] ])) (put (elim (not b && not p) [ true ↦ ascii " " | false ↦ [] ]))) h.1
      (r_put (elim (not (is_empty n) && not p) [ true ↦ ascii " " | false ↦ [] ]))

  r_name : (n m : Name) → Named n m → S (put n) (put m)
  r_name n m h = C.c_name n m h

  r_then : {v w : Writer U} {p q : Writer W} → S v p → S w q → S (v ⨾ w) (p ⨾ q)
  r_then {v} {w} {p} {q} hv hw = C.c_then v w p q hv hw

  r_if : {a₁ b₁ : Writer U} {a₂ b₂ : Writer W} → (b : Bool) → S a₁ a₂ → S b₁ b₂ → S (elim b [ true ↦ a₁ | false ↦ b₁ ]) (elim b [ true ↦ a₂ | false ↦ b₂ ])
  r_if true h k = h
  r_if false h k = k

  r_given : {A : Type 0} {k₁ : A → Writer U} {k₂ : A → Writer W} → (x : Ask A) → ((a : A) → S (k₁ a) (k₂ a)) → S (given x k₁) (given x k₂)
  unfolding given
  r_given (got a) h = h a
  r_given (no c) h = C.c_stop c

  -- a name that is not empty is not empty with any number
  spelled_some : (name : Name) (v : ℕ) → is_empty name ≡ false → is_empty (spelled name v) ≡ false
  unfolding spelled is_empty
  spelled_some [] v e = absurd (true≢false e)
  spelled_some (b ∷ s) v e = go (ltb v 2)
    where
      go : (t : Bool) → is_empty (elim t as (λ x. Name) [ true ↦ b ∷ s | false ↦ (b ∷ s) ++ ascii "___" ++ decimal v ]) ≡ false
      go true = refl
      go false = refl

  r_type : {k₁ : Name → Writer U} {k₂ : Name → Writer W} → (space : Space) (id : ℕ) (name : Name) → ((n m : Name) → Titled n m → S (k₁ n) (k₂ m))
      → S (resolve_type_name N₁ space id name k₁) (resolve_type_name N₂ space id name k₂)
  unfolding resolve_type_name
  r_type {k₁} {k₂} space id name h = go (is_empty name) refl
    where
      go : (b : Bool) → is_empty name ≡ b
          → S (elim b [ true ↦ k₁ name | false ↦ resolving (N₁.type_version space id name) (λ v. k₁ (spelled name v)) ]) (elim b [ true ↦ k₂ name | false ↦ resolving (N₂.type_version space id name) (λ v. k₂ (spelled name v)) ])
      go true e = h name name (r_self name)
      go false e =
          C.c_type space id name (λ v. k₁ (spelled name v)) (λ v. k₂ (spelled name v))
          (λ n m q. h (spelled name n) (spelled name m) (q, spelled_some name n e ∙ sym (spelled_some name m e)))

  r_value : {k₁ : Name → Writer U} {k₂ : Name → Writer W} → (id i : ℕ) (name : Name) → ((n m : Name) → Named n m → S (k₁ n) (k₂ m))
      → S (resolve_name N₁ id i name k₁) (resolve_name N₂ id i name k₂)
  unfolding resolve_name
  r_value {k₁} {k₂} id i name h = C.c_value id i name (λ v. k₁ (spelled name v)) (λ v. k₂ (spelled name v)) (λ n m e. h (spelled name n) (spelled name m) e)

  r_emit_name : (fname gname : Name) → Titled fname gname → (last_was_ptr : Bool) → S (emit_name fname last_was_ptr) (emit_name gname last_was_ptr)
  unfolding emit_name
  r_emit_name fname gname hn last_was_ptr = r_if last_was_ptr (r_name fname gname hn.0) (r_sep fname gname hn)

  r_parens : {w₁ : Writer U} {w₂ : Writer W} → (b : Bool) → S w₁ w₂ → S (parens b w₁) (parens b w₂)
  unfolding parens
  r_parens b h = r_if b (r_then (r_put _) (r_then h (r_put _))) h

  module _ {d₁ : ℕ → Name → Writer U} {d₂ : ℕ → Name → Writer W} (hd : (id : ℕ) (n : Name) → S (d₁ id n) (d₂ id n)) where
    r_emit_param : (p : Param) (is_last : Bool) → S (emit_param d₁ p is_last) (emit_param d₂ p is_last)
    unfolding emit_param
    r_emit_param p is_last = r_if (is_last && eqb p.type_id 0) (r_put _) (hd p.type_id p.name)

    r_emit_params : (first : Bool) (ps : List Param) → S (emit_params d₁ first ps) (emit_params d₂ first ps)
    unfolding emit_params
    r_emit_params first [] = r_put []
    r_emit_params first (p ∷ ps) = r_then (r_put _) (r_then (r_emit_param p (no_params ps)) (r_emit_params false ps))

  module _ (B : Btf) where
    r_emit_composite_fwd : (id : ℕ) (is_struct : Bool) (name : Name) → S (emit_composite_fwd N₁ B id is_struct name) (emit_composite_fwd N₂ B id is_struct name)
    unfolding emit_composite_fwd
    r_emit_composite_fwd id is_struct name = r_if (builtin name) (r_put []) (r_type tag_space id name (λ n m h. r_then (r_put _) (r_then (r_put _) (r_name n m h.0))))

    r_emit_fwd_def : (id : ℕ) (is_union : Bool) (name : Name) → S (emit_fwd_def N₁ B id is_union name) (emit_fwd_def N₂ B id is_union name)
    unfolding emit_fwd_def
    r_emit_fwd_def id is_union name = r_emit_composite_fwd id (not is_union) name

    r_enum_word : (id : ℕ) (name : Name) → S (enum_word N₁ B id name) (enum_word N₂ B id name)
    unfolding enum_word
    r_enum_word id name = r_type tag_space id name (λ n m h. r_then (r_put _) (r_name n m h.0))

    r_emit_values : (str : ℕ → List ℕ) (id lvl i : ℕ) (vs : List Enumerator) → S (emit_values N₁ B str id lvl i vs) (emit_values N₂ B str id lvl i vs)
    unfolding emit_values
    r_emit_values str id lvl i [] = r_put []
    r_emit_values str id lvl i (v ∷ vs) =
        r_then
        (r_value id i v.name (λ n m h. r_then (r_put _) (r_then (r_put _) (r_then (r_name n m h) (r_then (r_put _) (r_then (r_put _) (r_put _)))))))
        (r_emit_values str id lvl (i + 1) vs)

    r_enum_body : (str : ℕ → List ℕ) (id lvl : ℕ) (vs : List Enumerator) → S (enum_body N₁ B str id lvl vs) (enum_body N₂ B str id lvl vs)
    unfolding enum_body
    r_enum_body str id lvl [] = r_put []
    r_enum_body str id lvl (v ∷ vs) = r_then (r_put _) (r_then (r_emit_values str id (deeper lvl) 0 (v ∷ vs)) (r_then (r_put _) (r_then (r_put _) (r_put _))))

    r_emit_enum_def : (str : ℕ → List ℕ) (id : ℕ) (name : Name) (vs : List Enumerator) (lvl : ℕ)
        → S (emit_enum_def N₁ B str id name vs lvl) (emit_enum_def N₂ B str id name vs lvl)
    unfolding emit_enum_def
    r_emit_enum_def str id name vs lvl =
        r_if (builtin name) (r_put []) (r_then (r_type tag_space id name (λ n m h. r_then (r_put _) (r_sep n m h))) (r_enum_body str id lvl vs))

    module _ {d₁ : ℕ → Name → ℕ → Writer U} {d₂ : ℕ → Name → ℕ → Writer W} (hd : (id : ℕ) (n m : Name) → Titled n m → (l : ℕ) → S (d₁ id n l) (d₂ id m l)) where
      module _ {c₁ : List Entry → Name → ℕ → Writer U} {c₂ : List Entry → Name → ℕ → Writer W} (hc : (c : List Entry) (n m : Name) → Titled n m → (l : ℕ) → S (c₁ c n l) (c₂ c m l))
          {f₁ : ℕ → Bool → Name → ℕ → List Member → ℕ → Writer U} {f₂ : ℕ → Bool → Name → ℕ → List Member → ℕ → Writer W}
          (hf : (id : ℕ) (s : Bool) (n : Name) (z : ℕ) (ms : List Member) (l : ℕ) → S (f₁ id s n z ms l) (f₂ id s n z ms l)) (fname gname : Name) (hn : Titled fname gname) (lvl : ℕ) where
        r_base_word : (id : ℕ) (t : BtfType) → S (base_word N₁ B d₁ c₁ f₁ fname lvl id t) (base_word N₂ B d₂ c₂ f₂ gname lvl id t)
        unfolding base_word
        r_base_word id Void = r_put _
        r_base_word id (Int n b) = r_put _
        r_base_word id (Ptr t) = r_put _
        r_base_word id (Array t k) = r_put _
        r_base_word id (Composite s n z ms) = r_if (is_empty n) (hf id s n z ms lvl) (r_emit_composite_fwd id s n)
        r_base_word id (Enum s n z vs) = r_if (is_empty n) (r_emit_enum_def (enum_value s) id n vs lvl) (r_enum_word id n)
        r_base_word id (Enum64 s n z vs) = r_if (is_empty n) (r_emit_enum_def (enum64_value s) id n vs lvl) (r_enum_word id n)
        r_base_word id (Fwd u n) = r_emit_fwd_def id u n
        r_base_word id (Typedef n t) = r_type ident_space id n (λ n m h. r_name n m h.0)
        r_base_word id (Mod q t) = r_put _
        r_base_word id (Func n) = r_put _
        r_base_word id (Var n) = r_put _
        r_base_word id (Datasec n) = r_put _
        r_base_word id (FuncProto r ps) = r_put _
        r_base_word id (Float n z) = r_put _
        r_base_word id (DeclTag a n t k) = r_put _
        r_base_word id (TypeTag a n t) = r_put _

        r_emit_array : (last_was_ptr : Bool) (c : List Entry) → S (emit_array N₁ B d₁ c₁ f₁ fname lvl last_was_ptr c) (emit_array N₂ B d₂ c₂ f₂ gname lvl last_was_ptr c)
        unfolding emit_array
        r_emit_array last_was_ptr [] = r_emit_name fname gname hn last_was_ptr
        r_emit_array last_was_ptr (e ∷ c) = r_then (r_gap fname gname hn last_was_ptr) (r_parens (not (is_array e)) (hc (e ∷ c) fname gname hn lvl))

        r_emit_proto : (last_was_ptr : Bool) (c : List Entry) → S (emit_proto N₁ B d₁ c₁ f₁ fname lvl last_was_ptr c) (emit_proto N₂ B d₂ c₂ f₂ gname lvl last_was_ptr c)
        unfolding emit_proto
        r_emit_proto last_was_ptr [] = r_emit_name fname gname hn last_was_ptr
        r_emit_proto last_was_ptr (e ∷ c) = r_then (r_put _) (r_then (hc (e ∷ c) fname gname hn lvl) (r_put _))

        r_param_list : (ps : List Param) → S (param_list N₁ B d₁ c₁ f₁ fname lvl ps) (param_list N₂ B d₂ c₂ f₂ gname lvl ps)
        unfolding param_list
        r_param_list ps = r_then (r_put _) (r_then (r_emit_params (λ id name. hd id name name (r_self name) lvl) true (shown_params ps)) (r_put _))

        r_chain_loop : (n : ℕ) (last_was_ptr : Bool) (c : List Entry) → S (chain_loop N₁ B d₁ c₁ f₁ fname lvl n last_was_ptr c) (chain_loop N₂ B d₂ c₂ f₂ gname lvl n last_was_ptr c)
        unfolding chain_loop
        r_chain_loop zero last_was_ptr c = r_emit_name fname gname hn last_was_ptr
        r_chain_loop (suc n) last_was_ptr [] = r_emit_name fname gname hn last_was_ptr
        r_chain_loop (suc n) last_was_ptr (base id ∷ c) = r_then (r_put _) (r_then (r_base_word id (B.type_by_id id)) (r_chain_loop n false (no_mods c)))
        r_chain_loop (suc n) last_was_ptr (star ∷ c) = r_then (r_put _) (r_chain_loop n true c)
        r_chain_loop (suc n) last_was_ptr (qual q ∷ c) = r_then (r_put _) (r_chain_loop n false c)
        r_chain_loop (suc n) last_was_ptr (array k ∷ c) = r_then (r_emit_array last_was_ptr (no_mods c)) (r_put _)
        r_chain_loop (suc n) last_was_ptr (proto ps ∷ c) = r_then (r_put _) (r_then (r_emit_proto last_was_ptr (no_mods c)) (r_param_list ps))
        r_chain_loop (suc n) last_was_ptr (tag a name ∷ c) = r_then (r_put _) (r_then (r_put _) (r_chain_loop n false (no_mods c)))

      module _ (id : ℕ) where
        r_emit_members : (tail : ℕ → List Pad) (lvl : ℕ) (packed : Bool) (i offset : ℕ) (ms : List Member) → S (emit_members N₁ B d₁ id tail lvl packed i offset ms) (emit_members N₂ B d₂ id tail lvl packed i offset ms)
        unfolding emit_members
        r_emit_members tail lvl packed i offset [] = r_put _
        r_emit_members tail lvl packed i offset (m ∷ ms) =
            r_then (r_given (bit_padding B offset m packed) (λ ps. r_put _))
            (r_then (r_put _) (r_then (r_put _) (r_then (hd m.type_id m.name m.name (r_self m.name) lvl) (r_then (r_put _)
            (r_given (end_of B m) (λ end. r_then (r_put _) (r_then (r_put _) (r_emit_members tail lvl packed (i + 1) end ms))))))))

        r_composite_head : (is_struct : Bool) (name : Name) → S (composite_head N₁ B d₁ id is_struct name) (composite_head N₂ B d₂ id is_struct name)
        unfolding composite_head
        r_composite_head is_struct name = r_type tag_space id name (λ n m h. r_then (r_put _) (r_then (r_sep n m h) (r_put _)))

        r_composite_end : (lvl : ℕ) (ms : List Member) (packed : Bool) → S (composite_end N₁ B d₁ id lvl ms packed) (composite_end N₂ B d₂ id lvl ms packed)
        unfolding composite_end
        r_composite_end lvl ms packed = r_then (r_put _) (r_then (r_put _) (r_then (r_put _) (r_then (r_put _) (r_put _))))

        r_composite_body : (is_struct : Bool) (name : Name) (sz : ℕ) (ms : List Member) (lvl : ℕ) (packed : Bool)
            → S (composite_body N₁ B d₁ id is_struct name sz ms lvl packed) (composite_body N₂ B d₂ id is_struct name sz ms lvl packed)
        unfolding composite_body
        r_composite_body is_struct name sz ms lvl packed =
            r_then (r_composite_head is_struct name) (r_then (r_emit_members (tail_pads B.placing B.ptr_sz is_struct sz) (deeper lvl) packed 0 0 ms) (r_composite_end lvl ms packed))

        r_composite_def : (is_struct : Bool) (name : Name) (sz : ℕ) (ms : List Member) (lvl : ℕ)
            → S (composite_def N₁ B d₁ id is_struct name sz ms lvl) (composite_def N₂ B d₂ id is_struct name sz ms lvl)
        unfolding composite_def
        r_composite_def is_struct name sz ms lvl =
            r_if (builtin name) (r_put []) (r_given (body_packed B is_struct sz ms) (λ packed. r_composite_body is_struct name sz ms lvl packed))

    mutual
      unfolding emit_type_decl emit_type_chain emit_composite_def

      r_emit_type_decl : (left id : ℕ) (fname gname : Name) → Titled fname gname → (lvl : ℕ) → S (emit_type_decl N₁ B left id fname lvl) (emit_type_decl N₂ B left id gname lvl)
      r_emit_type_decl zero id fname gname hn lvl = C.c_stop 12
      r_emit_type_decl (suc left) id fname gname hn lvl = r_given (chain_of 512 B id []) (λ c. r_emit_type_chain left c fname gname hn lvl)

      r_emit_type_chain : (left : ℕ) (c : List Entry) (fname gname : Name) → Titled fname gname → (lvl : ℕ) → S (emit_type_chain N₁ B left c fname lvl) (emit_type_chain N₂ B left c gname lvl)
      r_emit_type_chain zero c fname gname hn lvl = C.c_stop 12
      r_emit_type_chain (suc left) c fname gname hn lvl =
          r_chain_loop (λ id n m h l. r_emit_type_decl left id n m h l) (λ d n m h l. r_emit_type_chain left d n m h l) (λ id s n z ms l. r_emit_composite_def left id s n z ms l) fname gname hn lvl (length c) true c

      r_emit_composite_def : (left id : ℕ) (is_struct : Bool) (name : Name) (sz : ℕ) (ms : List Member) (lvl : ℕ)
          → S (emit_composite_def N₁ B left id is_struct name sz ms lvl) (emit_composite_def N₂ B left id is_struct name sz ms lvl)
      r_emit_composite_def zero id is_struct name sz ms lvl = C.c_stop 12
      r_emit_composite_def (suc left) id is_struct name sz ms lvl = r_composite_def (λ t n m h l. r_emit_type_decl left t n m h l) id is_struct name sz ms lvl

    r_emit_typedef_def : (id : ℕ) (name : Name) (t : ℕ) → S (emit_typedef_def N₁ B id name t) (emit_typedef_def N₂ B id name t)
    unfolding emit_typedef_def
    r_emit_typedef_def id name t = r_then (r_type ident_space id name (λ n m h. r_then (r_put _) (r_emit_type_decl 512 t n m h 0))) (r_put _)

    pub renamed_definition : (id : ℕ) (t : BtfType) → S (definition N₁ B id t) (definition N₂ B id t)
    unfolding definition
    renamed_definition id Void = r_put _
    renamed_definition id (Int n b) = r_put _
    renamed_definition id (Ptr t) = r_put _
    renamed_definition id (Array t k) = r_put _
    renamed_definition id (Composite s n z ms) = r_then (r_emit_composite_def 512 id s n z ms 0) (r_put _)
    renamed_definition id (Enum s n z vs) = r_then (r_emit_enum_def (enum_value s) id n vs 0) (r_put _)
    renamed_definition id (Enum64 s n z vs) = r_then (r_emit_enum_def (enum64_value s) id n vs 0) (r_put _)
    renamed_definition id (Fwd u n) = r_then (r_emit_fwd_def id u n) (r_put _)
    renamed_definition id (Typedef n t) = r_put _
    renamed_definition id (Mod q t) = r_put _
    renamed_definition id (Func n) = r_put _
    renamed_definition id (Var n) = r_put _
    renamed_definition id (Datasec n) = r_put _
    renamed_definition id (FuncProto r ps) = r_put _
    renamed_definition id (Float n z) = r_put _
    renamed_definition id (DeclTag a n t k) = r_put _
    renamed_definition id (TypeTag a n t) = r_put _

    r_shown : {w₁ : Writer U} {w₂ : Writer W} → (name : Name) → S w₁ w₂ → S (shown N₁ B name w₁) (shown N₂ B name w₂)
    unfolding shown
    r_shown name h = r_if (builtin name) (r_put []) (r_then h (r_put _))

    pub renamed_forward : (id : ℕ) (t : BtfType) → S (forward N₁ B id t) (forward N₂ B id t)
    unfolding forward
    renamed_forward id Void = r_put _
    renamed_forward id (Int n b) = r_put _
    renamed_forward id (Ptr t) = r_put _
    renamed_forward id (Array t k) = r_put _
    renamed_forward id (Composite s n z ms) = r_shown n (r_emit_composite_fwd id s n)
    renamed_forward id (Enum s n z vs) = r_put _
    renamed_forward id (Enum64 s n z vs) = r_put _
    renamed_forward id (Fwd u n) = r_put _
    renamed_forward id (Typedef n t) = r_shown n (r_emit_typedef_def id n t)
    renamed_forward id (Mod q t) = r_put _
    renamed_forward id (Func n) = r_put _
    renamed_forward id (Var n) = r_put _
    renamed_forward id (Datasec n) = r_put _
    renamed_forward id (FuncProto r ps) = r_put _
    renamed_forward id (Float n z) = r_put _
    renamed_forward id (DeclTag a n t k) = r_put _
    renamed_forward id (TypeTag a n t) = r_put _
