-- Every emitter writes the same text over two tables whose ids stand for each other, and leaves related names, where the two ways of keeping names give
-- ids that stand for each other the same versions. Assumes nothing.
use Prim.Native.Nat.{ℕ, zero, suc, ◌+◌}
use mathlib.Core.Path.{◌≡◌, refl, ap, ap₂, sym, subst}
use mathlib.Core.Bool.{Bool, true, false, not, ◌&&◌, true≢false}
use mathlib.Core.List.{List, [], ◌∷◌, ◌++◌}
use lib.ListN.{length}
use Rattle.spec_bytes.specs.text.Text.{ascii}
use Rattle.spec_c_dumper.specs.rules.Writer.{Ask, got, no, Writer, ◌⨾◌, put, given}
use Rattle.spec_c_dumper.specs.rules.Types.{Name, is_empty, Member, Param, Enumerator, BtfType, Btf}
use Rattle.spec_c_dumper.specs.rules.Layout.{Pad}
use Rattle.spec_c_dumper.specs.rules.Placing.{tail_pads}
use Rattle.spec_c_dumper.specs.rules.Names.{Space, tag_space, ident_space, Naming, spelled, resolve_type_name, resolve_name, builtin}
use Rattle.spec_c_dumper.specs.rules.Decl.{deeper, keyword, qualifier, decl_tag, decl_tags, enum_value, enum64_value, Entry, mods, no_mods, is_array, no_params, shown_params, last_newline, bit_size_of, emit_composite_fwd, emit_fwd_def, enum_word, emit_values, enum_body, emit_enum_def, emit_name, parens, emit_param, emit_params, base_word, emit_array, emit_proto, param_list, chain_loop, emit_members, composite_head, composite_end, composite_body, composite_def, emit_type_decl, emit_type_chain, emit_composite_def, emit_typedef_def}
use Rattle.spec_c_dumper.specs.rules.Emit.{definition, shown, forward}
use Rattle.spec_c_dumper.proofs.rules.Related.{RelW, RelResolved, rel_put, rel_stop, rel_then, rel_resolving}
use Rattle.spec_cut.specs.section.Stands.{with_types, Each, none, more, SameMembers, no_members, member, SameParams, no_params as none_shown, param, SameType, void, int, ptr, array as t_array, composite, enum, enum64, fwd, typedef, qualified, func, var, datasec, proto as t_proto, float, decl_tag as its_decl_tag, type_tag, Followed, Tagged, Stands}
use Rattle.spec_cut.proofs.section.Sizes.{same_zero, body_same, padding_same, end_same, SameEntry, e_base, e_star, e_qual, e_array, e_proto, e_tag, SameChain, c_none, c_more, SameAsk, a_got, a_no, chain_same}

-- ids that stand for each other get the same versions
pub record SameNaming {U W : Type 0} (R : U → W → Type 0) (I : ℕ → ℕ → Type 0) (N₁ : Naming U) (N₂ : Naming W) : Type 0 where
  pub s_type : (space : Space) (id id' : ℕ) (name : Name) → I id id' → (u : U) (v : W) → R u v → RelResolved R (N₁.type_version space id name u) (N₂.type_version space id' name v)
  pub s_value : (id id' i : ℕ) (name : Name) → I id id' → (u : U) (v : W) → R u v → RelResolved R (N₁.value_version id i name u) (N₂.value_version id' i name v)

module _ (B : Btf) (n : ℕ) (types : ℕ → BtfType) (tags : ℕ → List ℕ) (I : ℕ → ℕ → Type 0) (st : Stands B n types tags I)
    {U W : Type 0} (R : U → W → Type 0) (N₁ : Naming U) (N₂ : Naming W) (nm : SameNaming R I N₁ N₂) where
  abbrev B' : Btf
  B' = with_types B n types tags

  abbrev J : ℕ → ℕ → Type 0
  J = Followed B I

  abbrev Entries : Entry → Entry → Type 0
  Entries = SameEntry B n types tags I st

  abbrev Chains : List Entry → List Entry → Type 0
  Chains = SameChain B n types tags I st

  abbrev S : Writer U → Writer W → Type 0
  S w₁ w₂ = RelW R w₁ w₂

  r_put : (a : List ℕ) → S (put a) (put a)
  r_put a = rel_put R a

  r_put_eq : {a b : List ℕ} → a ≡ b → S (put a) (put b)
  r_put_eq {a} e = subst (λ (c : List ℕ). S (put a) (put c)) e (r_put a)

  r_then : {v₁ w₁ : Writer U} {v₂ w₂ : Writer W} → S v₁ v₂ → S w₁ w₂ → S (v₁ ⨾ w₁) (v₂ ⨾ w₂)
  r_then {v₁} {w₁} {v₂} {w₂} hv hw = rel_then R v₁ w₁ v₂ w₂ hv hw

  r_if : {a₁ b₁ : Writer U} {a₂ b₂ : Writer W} → (b : Bool) → S a₁ a₂ → S b₁ b₂ → S (elim b [ true ↦ a₁ | false ↦ b₁ ]) (elim b [ true ↦ a₂ | false ↦ b₂ ])
  r_if true h k = h
  r_if false h k = k

  r_given : {A : Type 0} {k₁ : A → Writer U} {k₂ : A → Writer W} → (x y : Ask A) → x ≡ y → ((a : A) → S (k₁ a) (k₂ a)) → S (given x k₁) (given y k₂)
  unfolding given
  r_given {A} {k₁} {k₂} x y e h = subst (λ (z : Ask A). S (given x k₁) (given z k₂)) e (go x)
    where
      go : (z : Ask A) → S (given z k₁) (given z k₂)
      go (got a) = h a
      go (no c) = rel_stop R c

  r_type : {k₁ : Name → Writer U} {k₂ : Name → Writer W} → (space : Space) (id id' : ℕ) (name : Name) → I id id' → ((m : Name) → S (k₁ m) (k₂ m))
      → S (resolve_type_name N₁ space id name k₁) (resolve_type_name N₂ space id' name k₂)
  unfolding resolve_type_name
  r_type {k₁} {k₂} space id id' name i h =
      r_if (is_empty name) (h name)
      (rel_resolving R (N₁.type_version space id name) (N₂.type_version space id' name) (nm.s_type space id id' name i) (λ v. k₁ (spelled name v)) (λ v. k₂ (spelled name v)) (λ v. h (spelled name v)))

  r_value : {k₁ : Name → Writer U} {k₂ : Name → Writer W} → (id id' i : ℕ) (name : Name) → I id id' → ((m : Name) → S (k₁ m) (k₂ m))
      → S (resolve_name N₁ id i name k₁) (resolve_name N₂ id' i name k₂)
  unfolding resolve_name
  r_value {k₁} {k₂} id id' i name j h =
      rel_resolving R (N₁.value_version id i name) (N₂.value_version id' i name) (nm.s_value id id' i name j) (λ v. k₁ (spelled name v)) (λ v. k₂ (spelled name v)) (λ v. h (spelled name v))

  r_emit_name : (fname : Name) (last_was_ptr : Bool) → S (emit_name fname last_was_ptr) (emit_name fname last_was_ptr)
  unfolding emit_name
  r_emit_name fname last_was_ptr = r_if last_was_ptr (r_put _) (r_put _)

  r_parens : {w₁ : Writer U} {w₂ : Writer W} → (b b' : Bool) → b ≡ b' → S w₁ w₂ → S (parens b w₁) (parens b' w₂)
  unfolding parens
  r_parens {w₁} {w₂} b b' e h = subst (λ (c : Bool). S (parens b w₁) (parens c w₂)) e (r_if b (r_then (r_put _) (r_then h (r_put _))) h)

  -- ---- tags of declarations

  tag_same : (comp : ℕ) {t t' : BtfType} → SameType J t t' → decl_tag comp t ≡ decl_tag comp t'
  unfolding decl_tag
  tag_same comp void = refl
  tag_same comp (int m b) = refl
  tag_same comp (ptr t t' j) = refl
  tag_same comp (t_array t t' k j) = refl
  tag_same comp (composite s m z ms ms' js) = refl
  tag_same comp (enum s m z vs) = refl
  tag_same comp (enum64 s m z vs) = refl
  tag_same comp (fwd u m) = refl
  tag_same comp (typedef m t t' j) = refl
  tag_same comp (qualified q t t' j) = refl
  tag_same comp (func m) = refl
  tag_same comp (var m) = refl
  tag_same comp (datasec m) = refl
  tag_same comp (t_proto r r' ps ps' j js) = refl
  tag_same comp (float m z) = refl
  tag_same comp (its_decl_tag a m t t' k) = refl
  tag_same comp (type_tag a m t t' j) = refl

  tags_same : (comp : ℕ) {xs xs' : List ℕ} → Each I xs xs' → decl_tags B comp xs ≡ decl_tags B' comp xs'
  unfolding decl_tags
  tags_same comp none = refl
  tags_same comp (more {x} {x'} i is) = ap₂ (λ (a b : List ℕ). a ++ b) (tag_same comp (st.same_type x x' i)) (tags_same comp is)

  -- the tags on a type are the same text
  abbrev SameTags : ℕ → ℕ → Type 0
  SameTags x x' = (comp : ℕ) → decl_tags B comp (B.decl_tags x) ≡ decl_tags B' comp (tags x')

  has_tags : (x x' : ℕ) → I x x' → Tagged (B.type_by_id x) → SameTags x x'
  has_tags x x' i t comp = tags_same comp (st.same_tags x x' i t)

  -- ---- parameters

  no_params_same : {ps ps' : List Param} → SameParams J ps ps' → no_params ps ≡ no_params ps'
  no_params_same none_shown = refl
  no_params_same (param m t t' j js) = refl

  shown_by : (m : Name) (t t' : ℕ) → J t t' → {ps ps' : List Param} → SameParams J ps ps' → (b b' : Bool) → b ≡ b'
      → SameParams J (elim b [ true ↦ [] | false ↦ record { name = m; type_id = t } ∷ ps ]) (elim b' [ true ↦ [] | false ↦ record { name = m; type_id = t' } ∷ ps' ])
  shown_by m t t' j js true true e = none_shown
  shown_by m t t' j js false false e = param m t t' j js
  shown_by m t t' j js true false e = absurd (true≢false e)
  shown_by m t t' j js false true e = absurd (true≢false (sym e))

  shown_same : {ps ps' : List Param} → SameParams J ps ps' → SameParams J (shown_params ps) (shown_params ps')
  unfolding shown_params
  shown_same none_shown = none_shown
  shown_same (param m t t' j js) = shown_by m t t' j js _ _ (ap₂ (λ (a b : Bool). a && b) (no_params_same js) (same_zero B n types tags I st t t' j.0))

  module _ {d₁ : ℕ → Name → Writer U} {d₂ : ℕ → Name → Writer W} (hd : (id id' : ℕ) (m : Name) → J id id' → S (d₁ id m) (d₂ id' m)) where
    if_by : (a : List ℕ) (w₁ : Writer U) (w₂ : Writer W) → S w₁ w₂ → (b b' : Bool) → b ≡ b' → S (elim b [ true ↦ put a | false ↦ w₁ ]) (elim b' [ true ↦ put a | false ↦ w₂ ])
    if_by a w₁ w₂ h true true e = r_put _
    if_by a w₁ w₂ h false false e = h
    if_by a w₁ w₂ h true false e = absurd (true≢false e)
    if_by a w₁ w₂ h false true e = absurd (true≢false (sym e))

    r_emit_params : (first : Bool) {ps ps' : List Param} → SameParams J ps ps' → S (emit_params d₁ first ps) (emit_params d₂ first ps')
    unfolding emit_params emit_param
    r_emit_params first none_shown = r_put []
    r_emit_params first (param m t t' j js) =
        r_then (r_put _)
        (r_then (if_by (ascii "...") (d₁ t m) (d₂ t' m) (hd t t' m j) _ _ (ap₂ (λ (a b : Bool). a && b) (no_params_same js) (same_zero B n types tags I st t t' j.0))) (r_emit_params false js))

  -- ---- names of tags, enums

  r_emit_composite_fwd : (id id' : ℕ) (is_struct : Bool) (name : Name) → I id id' → S (emit_composite_fwd N₁ B id is_struct name) (emit_composite_fwd N₂ B' id' is_struct name)
  unfolding emit_composite_fwd keyword
  r_emit_composite_fwd id id' is_struct name i = r_if (builtin name) (r_put []) (r_type tag_space id id' name i (λ m. r_then (r_put _) (r_then (r_put _) (r_put m))))

  r_emit_fwd_def : (id id' : ℕ) (is_union : Bool) (name : Name) → I id id' → S (emit_fwd_def N₁ B id is_union name) (emit_fwd_def N₂ B' id' is_union name)
  unfolding emit_fwd_def
  r_emit_fwd_def id id' is_union name i = r_emit_composite_fwd id id' (not is_union) name i

  r_enum_word : (id id' : ℕ) (name : Name) → I id id' → S (enum_word N₁ B id name) (enum_word N₂ B' id' name)
  unfolding enum_word
  r_enum_word id id' name i = r_type tag_space id id' name i (λ m. r_then (r_put _) (r_put m))

  r_emit_values : (str : ℕ → List ℕ) (id id' lvl k : ℕ) (vs : List Enumerator) → I id id' → S (emit_values N₁ B str id lvl k vs) (emit_values N₂ B' str id' lvl k vs)
  unfolding emit_values
  r_emit_values str id id' lvl k [] i = r_put []
  r_emit_values str id id' lvl k (v ∷ vs) i =
      r_then
      (r_value id id' k v.name i (λ m. r_then (r_put _) (r_then (r_put _) (r_then (r_put m) (r_then (r_put _) (r_then (r_put _) (r_put _)))))))
      (r_emit_values str id id' lvl (k + 1) vs i)

  r_enum_body : (str : ℕ → List ℕ) (id id' lvl : ℕ) (vs : List Enumerator) → I id id' → S (enum_body N₁ B str id lvl vs) (enum_body N₂ B' str id' lvl vs)
  unfolding enum_body
  r_enum_body str id id' lvl [] i = r_put []
  r_enum_body str id id' lvl (v ∷ vs) i = r_then (r_put _) (r_then (r_emit_values str id id' (deeper lvl) 0 (v ∷ vs) i) (r_then (r_put _) (r_then (r_put _) (r_put _))))

  r_emit_enum_def : (str : ℕ → List ℕ) (id id' : ℕ) (name : Name) (vs : List Enumerator) (lvl : ℕ) → I id id' → S (emit_enum_def N₁ B str id name vs lvl) (emit_enum_def N₂ B' str id' name vs lvl)
  unfolding emit_enum_def
  r_emit_enum_def str id id' name vs lvl i =
      r_if (builtin name) (r_put []) (r_then (r_type tag_space id id' name i (λ m. r_then (r_put _) (r_put _))) (r_enum_body str id id' lvl vs i))

  -- ---- chains

  is_array_same : {e e' : Entry} → Entries e e' → is_array e ≡ is_array e'
  is_array_same (e_base x x' i) = refl
  is_array_same e_star = refl
  is_array_same (e_qual q) = refl
  is_array_same (e_array k) = refl
  is_array_same (e_proto ps ps' js) = refl
  is_array_same (e_tag a m) = refl

  mods_same : {c c' : List Entry} → Chains c c' → mods c ≡ mods c'
  unfolding mods
  mods_same c_none = refl
  mods_same (c_more (e_base x x' i) r) = refl
  mods_same (c_more e_star r) = refl
  mods_same (c_more (e_qual q) r) = ap (λ (l : List ℕ). qualifier q ++ ascii " " ++ l) (mods_same r)
  mods_same (c_more (e_array k) r) = refl
  mods_same (c_more (e_proto ps ps' js) r) = refl
  mods_same (c_more (e_tag a m) r) = refl

  no_mods_same : {c c' : List Entry} → Chains c c' → Chains (no_mods c) (no_mods c')
  unfolding no_mods
  no_mods_same c_none = c_none
  no_mods_same (c_more (e_base x x' i) r) = c_more (e_base x x' i) r
  no_mods_same (c_more e_star r) = c_more e_star r
  no_mods_same (c_more (e_qual q) r) = no_mods_same r
  no_mods_same (c_more (e_array k) r) = c_more (e_array k) r
  no_mods_same (c_more (e_proto ps ps' js) r) = c_more (e_proto ps ps' js) r
  no_mods_same (c_more (e_tag a m) r) = c_more (e_tag a m) r

  length_same : {c c' : List Entry} → Chains c c' → length c ≡ length c'
  length_same c_none = refl
  length_same (c_more e r) = ap suc (length_same r)

  abbrev DeclSame : (ℕ → Name → ℕ → Writer U) → (ℕ → Name → ℕ → Writer W) → Type 0
  DeclSame d₁ d₂ = (id id' : ℕ) (m : Name) (l : ℕ) → J id id' → S (d₁ id m l) (d₂ id' m l)

  abbrev ChainSame : (List Entry → Name → ℕ → Writer U) → (List Entry → Name → ℕ → Writer W) → Type 0
  ChainSame c₁ c₂ = (c c' : List Entry) (m : Name) (l : ℕ) → Chains c c' → S (c₁ c m l) (c₂ c' m l)

  abbrev DefSame : (ℕ → Bool → Name → ℕ → List Member → ℕ → Writer U) → (ℕ → Bool → Name → ℕ → List Member → ℕ → Writer W) → Type 0
  DefSame f₁ f₂ = (id id' : ℕ) (s : Bool) (m : Name) (z : ℕ) (ms ms' : List Member) (l : ℕ) → I id id' → SameTags id id' → SameMembers J ms ms' → S (f₁ id s m z ms l) (f₂ id' s m z ms' l)

  module _ {d₁ : ℕ → Name → ℕ → Writer U} {d₂ : ℕ → Name → ℕ → Writer W} (hd : DeclSame d₁ d₂) {c₁ : List Entry → Name → ℕ → Writer U} {c₂ : List Entry → Name → ℕ → Writer W} (hc : ChainSame c₁ c₂)
      {f₁ : ℕ → Bool → Name → ℕ → List Member → ℕ → Writer U} {f₂ : ℕ → Bool → Name → ℕ → List Member → ℕ → Writer W} (hf : DefSame f₁ f₂) (fname : Name) (lvl : ℕ) where
    r_base_word : (id id' : ℕ) → I id id' → {t t' : BtfType} → SameType J t t' → (Tagged t → SameTags id id') → S (base_word N₁ B d₁ c₁ f₁ fname lvl id t) (base_word N₂ B' d₂ c₂ f₂ fname lvl id' t')
    unfolding base_word
    r_base_word id id' i void g = r_put _
    r_base_word id id' i (int m b) g = r_put _
    r_base_word id id' i (ptr t t' j) g = r_put _
    r_base_word id id' i (t_array t t' k j) g = r_put _
    r_base_word id id' i (composite s m z ms ms' js) g = r_if (is_empty m) (hf id id' s m z ms ms' lvl i (g tt) js) (r_emit_composite_fwd id id' s m i)
    r_base_word id id' i (enum s m z vs) g = r_if (is_empty m) (r_emit_enum_def (enum_value s) id id' m vs lvl i) (r_enum_word id id' m i)
    r_base_word id id' i (enum64 s m z vs) g = r_if (is_empty m) (r_emit_enum_def (enum64_value s) id id' m vs lvl i) (r_enum_word id id' m i)
    r_base_word id id' i (fwd u m) g = r_emit_fwd_def id id' u m i
    r_base_word id id' i (typedef m t t' j) g = r_type ident_space id id' m i (λ l. r_put l)
    r_base_word id id' i (qualified q t t' j) g = r_put _
    r_base_word id id' i (func m) g = r_put _
    r_base_word id id' i (var m) g = r_put _
    r_base_word id id' i (datasec m) g = r_put _
    r_base_word id id' i (t_proto r r' ps ps' j js) g = r_put _
    r_base_word id id' i (float m z) g = r_put _
    r_base_word id id' i (its_decl_tag a m t t' k) g = r_put _
    r_base_word id id' i (type_tag a m t t' j) g = r_put _

    r_emit_array : (last_was_ptr : Bool) {c c' : List Entry} → Chains c c' → S (emit_array N₁ B d₁ c₁ f₁ fname lvl last_was_ptr c) (emit_array N₂ B' d₂ c₂ f₂ fname lvl last_was_ptr c')
    unfolding emit_array
    r_emit_array last_was_ptr c_none = r_emit_name fname last_was_ptr
    r_emit_array last_was_ptr (c_more e r) = r_then (r_put _) (r_parens _ _ (ap not (is_array_same e)) (hc _ _ fname lvl (c_more e r)))

    r_emit_proto : (last_was_ptr : Bool) {c c' : List Entry} → Chains c c' → S (emit_proto N₁ B d₁ c₁ f₁ fname lvl last_was_ptr c) (emit_proto N₂ B' d₂ c₂ f₂ fname lvl last_was_ptr c')
    unfolding emit_proto
    r_emit_proto last_was_ptr c_none = r_emit_name fname last_was_ptr
    r_emit_proto last_was_ptr (c_more e r) = r_then (r_put _) (r_then (hc _ _ fname lvl (c_more e r)) (r_put _))

    r_param_list : {ps ps' : List Param} → SameParams J ps ps' → S (param_list N₁ B d₁ c₁ f₁ fname lvl ps) (param_list N₂ B' d₂ c₂ f₂ fname lvl ps')
    unfolding param_list
    r_param_list js = r_then (r_put _) (r_then (r_emit_params (λ id id' m j. hd id id' m lvl j) true (shown_same js)) (r_put _))

    r_chain_loop : (k : ℕ) (last_was_ptr : Bool) {c c' : List Entry} → Chains c c' → S (chain_loop N₁ B d₁ c₁ f₁ fname lvl k last_was_ptr c) (chain_loop N₂ B' d₂ c₂ f₂ fname lvl k last_was_ptr c')
    unfolding chain_loop
    r_chain_loop zero last_was_ptr r = r_emit_name fname last_was_ptr
    r_chain_loop (suc k) last_was_ptr c_none = r_emit_name fname last_was_ptr
    r_chain_loop (suc k) last_was_ptr (c_more (e_base x x' i) r) =
        r_then (r_put_eq (mods_same r)) (r_then (r_base_word x x' i (st.same_type x x' i) (has_tags x x' i)) (r_chain_loop k false (no_mods_same r)))
    r_chain_loop (suc k) last_was_ptr (c_more e_star r) = r_then (r_put _) (r_chain_loop k true r)
    r_chain_loop (suc k) last_was_ptr (c_more (e_qual q) r) = r_then (r_put _) (r_chain_loop k false r)
    r_chain_loop (suc k) last_was_ptr (c_more (e_array a) r) = r_then (r_emit_array last_was_ptr (no_mods_same r)) (r_put _)
    r_chain_loop (suc k) last_was_ptr (c_more (e_proto ps ps' js) r) = r_then (r_put_eq (mods_same r)) (r_then (r_emit_proto last_was_ptr (no_mods_same r)) (r_param_list js))
    r_chain_loop (suc k) last_was_ptr (c_more (e_tag a m) r) = r_then (r_put_eq (mods_same r)) (r_then (r_put _) (r_chain_loop k false (no_mods_same r)))

  -- ---- bodies

  last_same : {ms ms' : List Member} → SameMembers J ms ms' → last_newline ms ≡ last_newline ms'
  unfolding last_newline
  last_same no_members = refl
  last_same (member m t t' o z j js) = refl

  module _ {d₁ : ℕ → Name → ℕ → Writer U} {d₂ : ℕ → Name → ℕ → Writer W} (hd : DeclSame d₁ d₂) (id id' : ℕ) (i : I id id') (g : SameTags id id') where
    r_emit_members : (tail : ℕ → List Pad) (lvl : ℕ) (packed : Bool) (k offset : ℕ) {ms ms' : List Member} → SameMembers J ms ms' → S (emit_members N₁ B d₁ id tail lvl packed k offset ms) (emit_members N₂ B' d₂ id' tail lvl packed k offset ms')
    unfolding emit_members bit_size_of
    r_emit_members tail lvl packed k offset no_members = r_put _
    r_emit_members tail lvl packed k offset (member m t t' o z j js) =
        r_then (r_given _ _ (padding_same B n types tags I st m t t' o z j offset packed) (λ ps. r_put _))
        (r_then (r_put _) (r_then (r_put _) (r_then (hd t t' m lvl j) (r_then (r_put _)
        (r_given _ _ (end_same B n types tags I st m t t' o z j) (λ end. r_then (r_put_eq (g k)) (r_then (r_put _) (r_emit_members tail lvl packed (k + 1) end js))))))))

    r_composite_head : (is_struct : Bool) (name : Name) → S (composite_head N₁ B d₁ id is_struct name) (composite_head N₂ B' d₂ id' is_struct name)
    unfolding composite_head keyword
    r_composite_head is_struct name = r_type tag_space id id' name i (λ m. r_then (r_put _) (r_then (r_put _) (r_put _)))

    r_composite_end : (lvl : ℕ) {ms ms' : List Member} → SameMembers J ms ms' → (packed : Bool) → S (composite_end N₁ B d₁ id lvl ms packed) (composite_end N₂ B' d₂ id' lvl ms' packed)
    unfolding composite_end
    r_composite_end lvl js packed = r_then (r_put_eq (last_same js)) (r_then (r_put _) (r_then (r_put _) (r_then (r_put _) (r_put_eq (g 4294967295)))))

    r_composite_def : (is_struct : Bool) (name : Name) (sz : ℕ) {ms ms' : List Member} → SameMembers J ms ms' → (lvl : ℕ)
        → S (composite_def N₁ B d₁ id is_struct name sz ms lvl) (composite_def N₂ B' d₂ id' is_struct name sz ms' lvl)
    unfolding composite_def composite_body
    r_composite_def is_struct name sz js lvl =
        r_if (builtin name) (r_put [])
        (r_given _ _ (body_same B n types tags I st is_struct sz js) (λ packed. r_then (r_composite_head is_struct name) (r_then (r_emit_members (tail_pads B.placing B.ptr_sz is_struct sz) (deeper lvl) packed 0 0 js) (r_composite_end lvl js packed))))

  r_given_chain : {k₁ : List Entry → Writer U} {k₂ : List Entry → Writer W} {x y : Ask (List Entry)} → SameAsk B n types tags I st x y → ((c c' : List Entry) → Chains c c' → S (k₁ c) (k₂ c')) → S (given x k₁) (given y k₂)
  unfolding given
  r_given_chain (a_got c c' r) h = h c c' r
  r_given_chain (a_no e) h = rel_stop R e

  mutual
    unfolding emit_type_decl emit_type_chain emit_composite_def

    r_emit_type_decl : (left id id' : ℕ) (fname : Name) (lvl : ℕ) → J id id' → S (emit_type_decl N₁ B left id fname lvl) (emit_type_decl N₂ B' left id' fname lvl)
    r_emit_type_decl zero id id' fname lvl j = rel_stop R 12
    r_emit_type_decl (suc left) id id' fname lvl j = r_given_chain (chain_same B n types tags I st 512 id id' [] [] j.0 c_none) (λ c c' r. r_emit_type_chain left c c' fname lvl r)

    r_emit_type_chain : (left : ℕ) (c c' : List Entry) (fname : Name) (lvl : ℕ) → Chains c c' → S (emit_type_chain N₁ B left c fname lvl) (emit_type_chain N₂ B' left c' fname lvl)
    r_emit_type_chain zero c c' fname lvl r = rel_stop R 12
    r_emit_type_chain (suc left) c c' fname lvl r =
        subst
        (λ (k : ℕ). S (emit_type_chain N₁ B (suc left) c fname lvl)
        (chain_loop N₂ B' (λ id m l. emit_type_decl N₂ B' left id m l) (λ d m l. emit_type_chain N₂ B' left d m l) (λ id s m z ms l. emit_composite_def N₂ B' left id s m z ms l) fname lvl k true c'))
        (length_same r)
        (r_chain_loop (λ id id' m l j. r_emit_type_decl left id id' m l j) (λ d d' m l q. r_emit_type_chain left d d' m l q)
        (λ id id' s m z ms ms' l i g js. r_emit_composite_def left id id' s m z ms ms' l i g js) fname lvl (length c) true r)

    r_emit_composite_def : (left id id' : ℕ) (is_struct : Bool) (name : Name) (sz : ℕ) (ms ms' : List Member) (lvl : ℕ) → I id id' → SameTags id id' → SameMembers J ms ms'
        → S (emit_composite_def N₁ B left id is_struct name sz ms lvl) (emit_composite_def N₂ B' left id' is_struct name sz ms' lvl)
    r_emit_composite_def zero id id' is_struct name sz ms ms' lvl i g js = rel_stop R 12
    r_emit_composite_def (suc left) id id' is_struct name sz ms ms' lvl i g js = r_composite_def (λ t t' m l j. r_emit_type_decl left t t' m l j) id id' i g is_struct name sz js lvl

  -- ---- lines

  r_emit_typedef_def : (id id' : ℕ) (name : Name) (t t' : ℕ) → I id id' → SameTags id id' → J t t' → S (emit_typedef_def N₁ B id name t) (emit_typedef_def N₂ B' id' name t')
  unfolding emit_typedef_def
  r_emit_typedef_def id id' name t t' i g j = r_then (r_type ident_space id id' name i (λ m. r_then (r_put _) (r_emit_type_decl 512 t t' m 0 j))) (r_put_eq (g 4294967295))

  definition_by : (id id' : ℕ) → I id id' → {t t' : BtfType} → SameType J t t' → (Tagged t → SameTags id id') → S (definition N₁ B id t) (definition N₂ B' id' t')
  unfolding definition
  definition_by id id' i void g = r_put _
  definition_by id id' i (int m b) g = r_put _
  definition_by id id' i (ptr t t' j) g = r_put _
  definition_by id id' i (t_array t t' k j) g = r_put _
  definition_by id id' i (composite s m z ms ms' js) g = r_then (r_emit_composite_def 512 id id' s m z ms ms' 0 i (g tt) js) (r_put _)
  definition_by id id' i (enum s m z vs) g = r_then (r_emit_enum_def (enum_value s) id id' m vs 0 i) (r_put _)
  definition_by id id' i (enum64 s m z vs) g = r_then (r_emit_enum_def (enum64_value s) id id' m vs 0 i) (r_put _)
  definition_by id id' i (fwd u m) g = r_then (r_emit_fwd_def id id' u m i) (r_put _)
  definition_by id id' i (typedef m t t' j) g = r_put _
  definition_by id id' i (qualified q t t' j) g = r_put _
  definition_by id id' i (func m) g = r_put _
  definition_by id id' i (var m) g = r_put _
  definition_by id id' i (datasec m) g = r_put _
  definition_by id id' i (t_proto r r' ps ps' j js) g = r_put _
  definition_by id id' i (float m z) g = r_put _
  definition_by id id' i (its_decl_tag a m t t' k) g = r_put _
  definition_by id id' i (type_tag a m t t' j) g = r_put _

  pub definition_same : (id id' : ℕ) → I id id' → S (definition N₁ B id (B.type_by_id id)) (definition N₂ B' id' (types id'))
  definition_same id id' i = definition_by id id' i (st.same_type id id' i) (has_tags id id' i)

  r_shown : {w₁ : Writer U} {w₂ : Writer W} → (name : Name) → S w₁ w₂ → S (shown N₁ B name w₁) (shown N₂ B' name w₂)
  unfolding shown
  r_shown name h = r_if (builtin name) (r_put []) (r_then h (r_put _))

  forward_by : (id id' : ℕ) → I id id' → {t t' : BtfType} → SameType J t t' → (Tagged t → SameTags id id') → S (forward N₁ B id t) (forward N₂ B' id' t')
  unfolding forward
  forward_by id id' i void g = r_put _
  forward_by id id' i (int m b) g = r_put _
  forward_by id id' i (ptr t t' j) g = r_put _
  forward_by id id' i (t_array t t' k j) g = r_put _
  forward_by id id' i (composite s m z ms ms' js) g = r_shown m (r_emit_composite_fwd id id' s m i)
  forward_by id id' i (enum s m z vs) g = r_put _
  forward_by id id' i (enum64 s m z vs) g = r_put _
  forward_by id id' i (fwd u m) g = r_put _
  forward_by id id' i (typedef m t t' j) g = r_shown m (r_emit_typedef_def id id' m t t' i (g tt) j)
  forward_by id id' i (qualified q t t' j) g = r_put _
  forward_by id id' i (func m) g = r_put _
  forward_by id id' i (var m) g = r_put _
  forward_by id id' i (datasec m) g = r_put _
  forward_by id id' i (t_proto r r' ps ps' j js) g = r_put _
  forward_by id id' i (float m z) g = r_put _
  forward_by id id' i (its_decl_tag a m t t' k) g = r_put _
  forward_by id id' i (type_tag a m t t' j) g = r_put _

  pub forward_same : (id id' : ℕ) → I id id' → S (forward N₁ B id (B.type_by_id id)) (forward N₂ B' id' (types id'))
  forward_same id id' i = forward_by id id' i (st.same_type id id' i) (has_tags id id' i)
