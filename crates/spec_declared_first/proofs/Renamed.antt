-- The names that a line mentions stand in it, and it does not know the names of the types that it does not mention. Assumes nothing.
use Prim.Native.Nat.{ℕ, zero, suc, ◌+◌, ◌-◌, ◌*◌, ◌%◌}
use mathlib.Core.Path.{◌≡◌, refl, sym, ◌∙◌, ap, subst}
use mathlib.Core.Bool.{Bool, true, false, not, ◌&&◌}
use mathlib.Core.List.Memᴰ
use mathlib.Core.List.{List, [], ◌∷◌, ◌++◌, append_assoc, append-nil, Memᴰ}
use lib.ListN.{length}
use lib.Dec.{leb, eqb}
use Rattle.spec_bytes.specs.text.Text.{Text, whole, cut, join}
use Rattle.spec_c_dumper.specs.rules.Writer.{reserve_passed, Ask, got, no, ask_then, checked, Said, said, said_text, said_names, Writer, after, next, ◌⨾◌, put, stop, given, misplaced}
use Rattle.spec_c_dumper.specs.rules.Types.{Name, is_empty, Member, Param, Enumerator, BtfType, Void, Int, Ptr, Array, Composite, Enum, Enum64, Fwd, Typedef, Mod, Func, Var, Datasec, FuncProto, Float, DeclTag, TypeTag, Btf}
use Rattle.spec_c_dumper.specs.rules.Layout.{size_of, get_size_of, align_members, align_of, get_align_of, off_align, members_packed, is_struct_packed, Pad, bit_padding, end_of, pads_before}
use Rattle.spec_c_dumper.specs.rules.Names.{Space, tag_space, ident_space, Naming, resolving, spelled, resolve_type_name, resolve_name, builtin}
use Rattle.spec_c_dumper.specs.rules.Placing.{field_size, Extent, with_member, extent_of, no_extent, union_align, size_fits, measured, body_packed, tail_pads}
use Rattle.spec_c_dumper.specs.rules.Decl.{deeper, sep_name, keyword, decl_tag, decl_tags, enum_value, enum64_value, Entry, base, star, qual, array, proto, tag, link_of, chain_on, chain_of, no_mods, is_array, no_params, shown_params, emit_composite_fwd, emit_fwd_def, enum_word, emit_values, enum_body, emit_enum_def, emit_name, parens, emit_param, emit_params, base_word, emit_array, emit_proto, param_list, chain_loop, emit_members, composite_head, composite_end, composite_body, composite_def, emit_type_decl, emit_type_chain, emit_composite_def, emit_typedef_def}
use Rattle.spec_c_dumper.specs.rules.Emit.{definition, shown, forward}
use Rattle.spec_c_dumper.proofs.rules.Held.{resolved, resolved_over, resolved_within}
use Rattle.spec_declared_first.specs.Notes.{Mention, Asked, noting}
use Rattle.spec_declared_first.specs.Declared.{Stands}
use Rattle.spec_declared_first.proofs.Standing.{empty_nil, AllIn, stands_self, all_join, all_cons, sep_stands, Prints, p_put, p_first, p_second, p_emit_type_decl}
use Rattle.spec_declared_first.specs.Renamed.{rename_type, renamed, Renames, Spares, OnlyMentions}

-- What does not look at names is the same in both tables.
module _ (other : ℕ → Name → Name) (B : Btf) where
  abbrev B' : Btf
  B' = renamed other B

  size_of_same : (f : Name → Name) (size : ℕ → Ask ℕ) (t : BtfType) → size_of B' size (rename_type f t) ≡ size_of B size t
  unfolding size_of
  size_of_same f size Void = refl
  size_of_same f size (Int n bits) = refl
  size_of_same f size (Ptr t) = refl
  size_of_same f size (Array t k) = refl
  size_of_same f size (Composite s n sz ms) = refl
  size_of_same f size (Enum s n sz vs) = refl
  size_of_same f size (Enum64 s n sz vs) = refl
  size_of_same f size (Fwd u n) = refl
  size_of_same f size (Typedef n t) = refl
  size_of_same f size (Mod q t) = refl
  size_of_same f size (Func n) = refl
  size_of_same f size (Var n) = refl
  size_of_same f size (Datasec n) = refl
  size_of_same f size (FuncProto r ps) = refl
  size_of_same f size (Float n sz) = refl
  size_of_same f size (DeclTag a n t k) = refl
  size_of_same f size (TypeTag a n t) = refl

  size_same : (left : ℕ) → get_size_of left B' ≡ get_size_of left B
  unfolding get_size_of
  size_same zero = refl
  size_same (suc left) = λ i id. (size_of_same (other id) (get_size_of left B') (B.type_by_id id) ∙ ap (λ (f : ℕ → Ask ℕ). size_of B f (B.type_by_id id)) (size_same left)) i

  align_of_same : (f : Name → Name) (align : ℕ → Ask ℕ) (t : BtfType) → align_of B' align (rename_type f t) ≡ align_of B align t
  unfolding align_of
  align_of_same f align Void = refl
  align_of_same f align (Int n bits) = refl
  align_of_same f align (Ptr t) = refl
  align_of_same f align (Array t k) = refl
  align_of_same f align (Composite s n sz ms) = refl
  align_of_same f align (Enum s n sz vs) = refl
  align_of_same f align (Enum64 s n sz vs) = refl
  align_of_same f align (Fwd u n) = refl
  align_of_same f align (Typedef n t) = refl
  align_of_same f align (Mod q t) = refl
  align_of_same f align (Func n) = refl
  align_of_same f align (Var n) = refl
  align_of_same f align (Datasec n) = refl
  align_of_same f align (FuncProto r ps) = refl
  align_of_same f align (Float n sz) = refl
  align_of_same f align (DeclTag a n t k) = refl
  align_of_same f align (TypeTag a n t) = refl

  align_same : (left : ℕ) → get_align_of left B' ≡ get_align_of left B
  unfolding get_align_of
  align_same zero = refl
  align_same (suc left) = λ i id. (align_of_same (other id) (get_align_of left B') (B.type_by_id id) ∙ ap (λ (f : ℕ → Ask ℕ). align_of B f (B.type_by_id id)) (align_same left)) i

  packed_same : (ms : List Member) → members_packed B' ms ≡ members_packed B ms
  unfolding members_packed
  packed_same [] = refl
  packed_same (m ∷ ms) = λ i. elim (eqb m.bit_size 0) as (λ (b : Bool). Ask Bool) [
    | true ↦ ask_then (align_same 512 i m.type_id) (λ a. off_align a m.bit_offset (packed_same ms i))
    | false ↦ packed_same ms i
  ]

  struct_same : (is_struct : Bool) (sz : ℕ) (ms : List Member) → is_struct_packed B' is_struct sz ms ≡ is_struct_packed B is_struct sz ms
  unfolding is_struct_packed
  struct_same is_struct sz ms = λ i. elim is_struct as (λ (b : Bool). Ask Bool) [
    | false ↦ got false
    | true ↦ ask_then (align_members (align_same 511 i) 1 ms) (λ a. elim (eqb (sz % a) 0) as (λ (b : Bool). Ask Bool) [ true ↦ packed_same ms i | false ↦ got true ])
  ]

  padding_same : (offset : ℕ) (m : Member) (packed : Bool) → bit_padding B' offset m packed ≡ bit_padding B offset m packed
  unfolding bit_padding
  padding_same offset m packed = ap (λ (f : ℕ → Ask ℕ). by f) (align_same 512)
    where
      by : (ℕ → Ask ℕ) → Ask (List Pad)
      by f = elim (leb m.bit_offset offset) as (λ (b : Bool). Ask (List Pad)) [
        | true ↦ got []
        | false ↦ ask_then (elim packed as (λ (b : Bool). Ask ℕ) [ true ↦ got 1 | false ↦ f m.type_id ]) (λ a. got (pads_before B.placing B.ptr_sz offset m.bit_size (m.bit_offset - offset) a))
      ]

  end_same : (m : Member) → end_of B' m ≡ end_of B m
  unfolding end_of
  end_same m = ap (λ (f : ℕ → Ask ℕ). by f) (size_same 512)
    where
      by : (ℕ → Ask ℕ) → Ask ℕ
      by f = elim (eqb m.bit_size 0) as (λ (b : Bool). Ask ℕ) [
        | true ↦ ask_then (f m.type_id) (λ s. ask_then (checked (8 * s)) (λ bits. checked (m.bit_offset + bits)))
        | false ↦ checked (m.bit_offset + m.bit_size)
      ]

  -- placing mode
  field_same : (m : Member) → field_size B' m ≡ field_size B m
  unfolding field_size
  field_same m = λ i. elim (eqb m.bit_size 0) as (λ (b : Bool). Ask ℕ) [ true ↦ got 0 | false ↦ size_same 512 i m.type_id ]

  extent_same : (is_struct packed : Bool) (x : Extent) (ms : List Member) → extent_of B' is_struct packed x ms ≡ extent_of B is_struct packed x ms
  unfolding extent_of
  extent_same is_struct packed x [] = refl
  extent_same is_struct packed x (m ∷ ms) =
      λ i. ask_then (field_same m i) (λ size. ask_then (end_same m i) (λ end. extent_same is_struct packed (with_member is_struct packed x size end m.bit_offset m.bit_size) ms i))

  union_same : (is_struct : Bool) (ms : List Member) → union_align B' is_struct ms ≡ union_align B is_struct ms
  unfolding union_align
  union_same is_struct ms = λ i. elim is_struct as (λ (b : Bool). Ask ℕ) [ true ↦ got 1 | false ↦ align_members (align_same 511 i) 1 ms ]

  measured_same : (is_struct : Bool) (sz : ℕ) (ms : List Member) → measured B' is_struct sz ms ≡ measured B is_struct sz ms
  unfolding measured
  measured_same is_struct sz ms =
      λ i. ask_then (union_same is_struct ms i) (λ a. ask_then (struct_same is_struct sz ms i) (λ packed. ask_then (extent_same is_struct packed no_extent ms i) (λ x.
      ask_then (checked (8 * sz)) (λ bits. elim (x.fits && size_fits is_struct a x.last bits) as (λ (b : Bool). Ask Bool) [ true ↦ got packed | false ↦ no misplaced ]))))

  body_same : (is_struct : Bool) (sz : ℕ) (ms : List Member) → body_packed B' is_struct sz ms ≡ body_packed B is_struct sz ms
  unfolding body_packed
  body_same is_struct sz ms = λ i. elim B.placing as (λ (b : Bool). Ask Bool) [ true ↦ measured_same is_struct sz ms i | false ↦ struct_same is_struct sz ms i ]

  link_same : (f : Name → Name) (t : BtfType) → link_of (rename_type f t) ≡ link_of t
  link_same f Void = refl
  link_same f (Int n b) = refl
  link_same f (Ptr t) = refl
  link_same f (Array t k) = refl
  link_same f (Composite s n z ms) = refl
  link_same f (Enum s n z vs) = refl
  link_same f (Enum64 s n z vs) = refl
  link_same f (Fwd u n) = refl
  link_same f (Typedef n t) = refl
  link_same f (Mod q t) = refl
  link_same f (Func n) = refl
  link_same f (Var n) = refl
  link_same f (Datasec n) = refl
  link_same f (FuncProto r ps) = refl
  link_same f (Float n z) = refl
  link_same f (DeclTag a n t k) = refl
  link_same f (TypeTag a n t) = refl

  chain_same : (most : ℕ) → chain_of most B' ≡ chain_of most B
  unfolding chain_of
  chain_same zero = refl
  chain_same (suc most) = λ i id c. chain_on (chain_same most i) id c (link_same (other id) (B.type_by_id id) i)

  tag_same : (f : Name → Name) (comp : ℕ) (t : BtfType) → decl_tag comp (rename_type f t) ≡ decl_tag comp t
  unfolding decl_tag
  tag_same f comp Void = refl
  tag_same f comp (Int n b) = refl
  tag_same f comp (Ptr t) = refl
  tag_same f comp (Array t k) = refl
  tag_same f comp (Composite s n z ms) = refl
  tag_same f comp (Enum s n z vs) = refl
  tag_same f comp (Enum64 s n z vs) = refl
  tag_same f comp (Fwd u n) = refl
  tag_same f comp (Typedef n t) = refl
  tag_same f comp (Mod q t) = refl
  tag_same f comp (Func n) = refl
  tag_same f comp (Var n) = refl
  tag_same f comp (Datasec n) = refl
  tag_same f comp (FuncProto r ps) = refl
  tag_same f comp (Float n z) = refl
  tag_same f comp (DeclTag a n t k) = refl
  tag_same f comp (TypeTag a n t) = refl

  tags_same : (comp : ℕ) (xs : List ℕ) → decl_tags B' comp xs ≡ decl_tags B comp xs
  unfolding decl_tags
  tags_same comp [] = refl
  tags_same comp (x ∷ xs) = λ i. tag_same (other x) comp (B.type_by_id x) i ++ tags_same comp xs i

  keyword_same : (is_struct : Bool) → keyword B' is_struct ≡ keyword B is_struct
  unfolding keyword
  keyword_same is_struct = refl

-- over: where a name passes, the other one does too
module _ {U : Type 0} (N : Naming U) (other : ℕ → Name → Name) (ren : Renames other)
    (over : (space : Space) (id : ℕ) (name : Name) (u : U) → (N.type_version space id name u).passes ≡ true → (N.type_version space id (other id name) u).passes ≡ true) where
  -- The first asks for more than before, all of which stands in its text; and if what it asked for keeps its name, the second writes the same.
  abbrev More : Asked U → Said (Asked U) → Type 0
  More u s = (l : List Mention) × ((said_names s).mentions ≡ u.mentions ++ l) × AllIn l (said_text s)

  record Twin (w₁ w₂ : Writer (Asked U)) : Type 0 where
    more : (u : Asked U) → More u (w₁ u)
    same : (u : Asked U) → Spares other (said_names (w₁ u)).mentions → w₂ u ≡ w₁ u

  front : (a l k : List Mention) → k ≡ a ++ l → Spares other k → Spares other a
  front a l k e h m i = h m (subst (Memᴰ m) (sym e) (Memᴰ.append_left l i))

  none_in : (t : Text) → AllIn [] t
  none_in (whole a) = λ m i. absurd (Memᴰ.not-nil i)
  none_in (cut a c) = tt

  t_put : {a a' : List ℕ} → a' ≡ a → Twin (put a) (put a')
  unfolding put said_names said_text
  t_put {a} e = record { more = λ u. ([], sym (append-nil u.mentions), none_in (whole a)); same = λ u h. ap (λ (k : List ℕ). put k u) e }

  t_stop : (c : ℕ) → Twin (stop c) (stop c)
  unfolding stop said_names said_text
  t_stop c = record { more = λ u. ([], sym (append-nil u.mentions), tt); same = λ u h. refl }

  after_names : (a : List ℕ) (m : List (Asked U)) (s : Said (Asked U)) → said_names (after a m s) ≡ said_names s
  unfolding after said_names
  after_names a m (said u t n) = refl

  after_text : (a : List ℕ) (m : List (Asked U)) (s : Said (Asked U)) → said_text (after a m s) ≡ join (whole a) (said_text s)
  unfolding after said_text
  after_text a m (said u t n) = refl

  next_more : (s : Said (Asked U)) (l₁ : List Mention) → AllIn l₁ (said_text s) → (w₁ w₂ : Writer (Asked U)) → Twin w₁ w₂
      → (l : List Mention) × ((said_names (next s w₁)).mentions ≡ (said_names s).mentions ++ l) × AllIn (l₁ ++ l) (said_text (next s w₁))
  unfolding next said_names said_text
  next_more (said u (whole a) m) l₁ k w₁ w₂ h = (
    (h.more u).0,
    ap (λ (j : Asked U). j.mentions) (after_names a m (w₁ u)) ∙ (h.more u).1,
    subst (AllIn (l₁ ++ (h.more u).0)) (sym (after_text a m (w₁ u))) (all_join l₁ (h.more u).0 a (said_text (w₁ u)) k (h.more u).2),
  )
  next_more (said u (cut a c) m) l₁ k w₁ w₂ h = ([], sym (append-nil u.mentions), tt)

  next_same : (s : Said (Asked U)) (w₁ w₂ : Writer (Asked U)) → Twin w₁ w₂ → Spares other (said_names (next s w₁)).mentions → next s w₂ ≡ next s w₁
  unfolding next
  next_same (said u (whole a) m) w₁ w₂ h k = ap (after a m) (h.same u (subst (λ (j : Asked U). Spares other j.mentions) (after_names a m (w₁ u)) k))
  next_same (said u (cut a c) m) w₁ w₂ h k = refl

  t_then : {v₁ w₁ v₂ w₂ : Writer (Asked U)} → Twin v₁ v₂ → Twin w₁ w₂ → Twin (v₁ ⨾ w₁) (v₂ ⨾ w₂)
  unfolding ◌⨾◌
  t_then {v₁} {w₁} {v₂} {w₂} hv hw = record {
    more = λ u. let n = next_more (v₁ u) (hv.more u).0 (hv.more u).2 w₁ w₂ hw in
        ((hv.more u).0 ++ n.0, n.1 ∙ ap (λ (k : List Mention). k ++ n.0) (hv.more u).1 ∙ append_assoc u.mentions (hv.more u).0 n.0, n.2);
    same = λ u h. let n = next_more (v₁ u) (hv.more u).0 (hv.more u).2 w₁ w₂ hw in
        ap (λ (s : Said (Asked U)). next s w₂) (hv.same u (front (said_names (v₁ u)).mentions n.0 (said_names (next (v₁ u) w₁)).mentions n.1 h)) ∙ next_same (v₁ u) w₁ w₂ hw h;
  }

  t_if : {a₁ b₁ a₂ b₂ : Writer (Asked U)} → (t t' : Bool) → t' ≡ t → Twin a₁ a₂ → Twin b₁ b₂ → Twin (elim t [ true ↦ a₁ | false ↦ b₁ ]) (elim t' [ true ↦ a₂ | false ↦ b₂ ])
  t_if {a₁} {b₁} {a₂} {b₂} t t' e h k = subst (λ (j : Bool). Twin (elim t [ true ↦ a₁ | false ↦ b₁ ]) (elim j [ true ↦ a₂ | false ↦ b₂ ])) (sym e) (go t)
    where
      go : (j : Bool) → Twin (elim j [ true ↦ a₁ | false ↦ b₁ ]) (elim j [ true ↦ a₂ | false ↦ b₂ ])
      go true = h
      go false = k

  t_given : {A : Type 0} {k₁ k₂ : A → Writer (Asked U)} → (x x' : Ask A) → x' ≡ x → ((a : A) → Twin (k₁ a) (k₂ a)) → Twin (given x k₁) (given x' k₂)
  unfolding given
  t_given {A} {k₁} {k₂} x x' e h = subst (λ (j : Ask A). Twin (given x k₁) (given j k₂)) (sym e) (go x)
    where
      go : (j : Ask A) → Twin (given j k₁) (given j k₂)
      go (got a) = h a
      go (no c) = t_stop c

  t_type : {k₁ k₂ : Name → Writer (Asked U)} → (space : Space) (id : ℕ) (name : Name) → ((n : Name) → Prints n (k₁ n)) → ((n : Name) → Twin (k₁ n) (k₂ n)) → Twin (resolve_type_name (noting N) space id name k₁) (resolve_type_name (noting N) space id (other id name) k₂)
  unfolding resolve_type_name
  t_type {k₁} {k₂} space id name pr h =
      subst (λ (j : Bool). Twin (resolve_type_name (noting N) space id name k₁) (elim j [ true ↦ k₂ (other id name) | false ↦ resolving ((noting N).type_version space id (other id name)) (λ v. k₂ (spelled (other id name) v)) ])) (sym (ren.same_empty id name))
      (go (is_empty name) refl)
    where
      asked : Name → Asked U → Asked U
      asked n u = ((noting N).type_version space id n u).names

      called : (k : Name → Writer (Asked U)) → Name → Asked U → Said (Asked U)
      called k n u = k (spelled n ((noting N).type_version space id n u).version) (asked n u)

      written : Name → Asked U → Said (Asked U)
      written n u = resolving ((noting N).type_version space id n) (λ v. k₂ (spelled n v)) u

      its : Asked U → Mention
      its u = record { space = space; id = id; name = spelled name (N.type_version space id name u.names).version }

      inner : (u : Asked U) → (l : List Mention) × ((said_names (called k₁ name u)).mentions ≡ (u.mentions ++ (its u ∷ [])) ++ l) × AllIn l (said_text (called k₁ name u))
      inner u = (h (spelled name ((noting N).type_version space id name u).version)).more (asked name u)

      kept : (u : Asked U) → Spares other (said_names (called k₁ name u)).mentions → other id name ≡ name
      kept u s = s (its u) (subst (Memᴰ (its u)) (sym (inner u).1) (Memᴰ.append_left (inner u).0 (Memᴰ.append_right u.mentions (Memᴰ.head refl)))) name

      go : (b : Bool) → is_empty name ≡ b
          → Twin (elim b [ true ↦ k₁ name | false ↦ resolving ((noting N).type_version space id name) (λ v. k₁ (spelled name v)) ])
          (elim b [ true ↦ k₂ (other id name) | false ↦ resolving ((noting N).type_version space id (other id name)) (λ v. k₂ (spelled (other id name) v)) ])
      go true e = subst (λ (n : Name). Twin (k₁ name) (k₂ n)) (empty_nil name e ∙ sym (empty_nil (other id name) (ren.same_empty id name ∙ e))) (h name)
      go false e = record {
        more = λ u. resolved (More u) ((noting N).type_version space id name) (λ v. k₁ (spelled name v)) u (λ p. (t_stop reserve_passed).more u) (λ p. (
          its u ∷ (inner u).0,
          (inner u).1 ∙ append_assoc u.mentions (its u ∷ []) (inner u).0,
          all_cons (its u) (inner u).0 (said_text (called k₁ name u)) ((pr (spelled name ((noting N).type_version space id name u).version)).prints (asked name u)) (inner u).2,
        ));
        same = λ u. resolved (λ r. Spares other (said_names r).mentions → written (other id name) u ≡ r) ((noting N).type_version space id name) (λ v. k₁ (spelled name v)) u
            (λ p s. sym (resolved_over ((noting N).type_version space id (other id name)) (λ v. k₂ (spelled (other id name) v)) u (over space id name u.names p)))
            (λ p s. ap (λ (n : Name). written n u) (kept u s) ∙ sym (resolved_within ((noting N).type_version space id name) (λ v. k₂ (spelled name v)) u p)
            ∙ (h (spelled name ((noting N).type_version space id name u).version)).same (asked name u) s);
      }

  t_value : {k₁ k₂ : Name → Writer (Asked U)} → (id i : ℕ) (name : Name) → ((n : Name) → Twin (k₁ n) (k₂ n)) → Twin (resolve_name (noting N) id i name k₁) (resolve_name (noting N) id i name k₂)
  unfolding resolve_name
  t_value {k₁} {k₂} id i name h = record {
    more = λ u. resolved (More u) ((noting N).value_version id i name) (λ v. k₁ (spelled name v)) u (λ p. (t_stop reserve_passed).more u)
        (λ p. (h (spelled name ((noting N).value_version id i name u).version)).more ((noting N).value_version id i name u).names);
    same = λ u. resolved (λ r. Spares other (said_names r).mentions → resolving ((noting N).value_version id i name) (λ v. k₂ (spelled name v)) u ≡ r)
        ((noting N).value_version id i name) (λ v. k₁ (spelled name v)) u
        (λ p s. sym (resolved_over ((noting N).value_version id i name) (λ v. k₂ (spelled name v)) u p))
        (λ p s. sym (resolved_within ((noting N).value_version id i name) (λ v. k₂ (spelled name v)) u p) ∙ (h (spelled name ((noting N).value_version id i name u).version)).same ((noting N).value_version id i name u).names s);
  }

  tp : (a : List ℕ) → Twin (put a) (put a)
  tp a = t_put refl

  t_emit_name : (fname : Name) (last_was_ptr : Bool) → Twin (emit_name fname last_was_ptr) (emit_name fname last_was_ptr)
  unfolding emit_name
  t_emit_name fname last_was_ptr = t_if last_was_ptr last_was_ptr refl (tp _) (tp _)

  t_parens : {w₁ w₂ : Writer (Asked U)} → (b : Bool) → Twin w₁ w₂ → Twin (parens b w₁) (parens b w₂)
  unfolding parens
  t_parens b h = t_if b b refl (t_then (tp _) (t_then h (tp _))) h

  module _ {d₁ d₂ : ℕ → Name → Writer (Asked U)} (hd : (id : ℕ) (n : Name) → Twin (d₁ id n) (d₂ id n)) where
    t_emit_param : (p : Param) (is_last : Bool) → Twin (emit_param d₁ p is_last) (emit_param d₂ p is_last)
    unfolding emit_param
    t_emit_param p is_last = t_if (is_last && eqb p.type_id 0) (is_last && eqb p.type_id 0) refl (tp _) (hd p.type_id p.name)

    t_emit_params : (first : Bool) (ps : List Param) → Twin (emit_params d₁ first ps) (emit_params d₂ first ps)
    unfolding emit_params
    t_emit_params first [] = tp []
    t_emit_params first (p ∷ ps) = t_then (tp _) (t_then (t_emit_param p (no_params ps)) (t_emit_params false ps))

  module _ (B : Btf) where
    abbrev R : Btf
    R = renamed other B

    t_emit_composite_fwd : (id : ℕ) (is_struct : Bool) (name : Name) → Twin (emit_composite_fwd (noting N) B id is_struct name) (emit_composite_fwd (noting N) R id is_struct (other id name))
    unfolding emit_composite_fwd
    t_emit_composite_fwd id is_struct name =
        t_if (builtin name) (builtin (other id name)) (ren.same_builtin id name) (tp []) (t_type tag_space id name (λ n. p_second n _ (p_second n _ (p_put n n (stands_self n)))) (λ n. t_then (t_put (keyword_same other B is_struct)) (t_then (tp _) (tp n))))

    t_enum_word : (id : ℕ) (name : Name) → Twin (enum_word (noting N) B id name) (enum_word (noting N) R id (other id name))
    unfolding enum_word
    t_enum_word id name = t_type tag_space id name (λ n. p_second n _ (p_put n n (stands_self n))) (λ n. t_then (tp _) (tp n))

    t_emit_values : (str : ℕ → List ℕ) (id lvl i : ℕ) (vs : List Enumerator) → Twin (emit_values (noting N) B str id lvl i vs) (emit_values (noting N) R str id lvl i vs)
    unfolding emit_values
    t_emit_values str id lvl i [] = tp []
    t_emit_values str id lvl i (v ∷ vs) =
        t_then (t_value id i v.name (λ n. t_then (tp _) (t_then (tp _) (t_then (tp n) (t_then (tp _) (t_then (tp _) (tp _))))))) (t_emit_values str id lvl (i + 1) vs)

    t_enum_body : (str : ℕ → List ℕ) (id lvl : ℕ) (vs : List Enumerator) → Twin (enum_body (noting N) B str id lvl vs) (enum_body (noting N) R str id lvl vs)
    unfolding enum_body
    t_enum_body str id lvl [] = tp []
    t_enum_body str id lvl (v ∷ vs) = t_then (tp _) (t_then (t_emit_values str id (deeper lvl) 0 (v ∷ vs)) (t_then (tp _) (t_then (tp _) (tp _))))

    t_emit_enum_def : (str : ℕ → List ℕ) (id : ℕ) (name : Name) (vs : List Enumerator) (lvl : ℕ) → Twin (emit_enum_def (noting N) B str id name vs lvl) (emit_enum_def (noting N) R str id (other id name) vs lvl)
    unfolding emit_enum_def
    t_emit_enum_def str id name vs lvl =
        t_if (builtin name) (builtin (other id name)) (ren.same_builtin id name) (tp []) (t_then (t_type tag_space id name (λ n. p_second n _ (p_put n (sep_name n) (sep_stands n))) (λ n. t_then (tp _) (tp _))) (t_enum_body str id lvl vs))

    module _ {d₁ d₂ : ℕ → Name → ℕ → Writer (Asked U)} (hd : (id : ℕ) (n : Name) (l : ℕ) → Twin (d₁ id n l) (d₂ id n l)) where
      module _ {c₁ c₂ : List Entry → Name → ℕ → Writer (Asked U)} (hc : (c : List Entry) (n : Name) (l : ℕ) → Twin (c₁ c n l) (c₂ c n l))
          {f₁ : ℕ → Bool → Name → ℕ → List Member → ℕ → Writer (Asked U)} (f₂ : ℕ → Bool → Name → ℕ → List Member → ℕ → Writer (Asked U))
          (hf : (id : ℕ) (s : Bool) (n : Name) (z : ℕ) (ms : List Member) (l : ℕ) → Twin (f₁ id s n z ms l) (f₂ id s (other id n) z ms l)) (fname : Name) (lvl : ℕ) where
        t_base_word : (id : ℕ) (t : BtfType) → Twin (base_word (noting N) B d₁ c₁ f₁ fname lvl id t) (base_word (noting N) R d₂ c₂ f₂ fname lvl id (rename_type (other id) t))
        unfolding base_word emit_fwd_def
        t_base_word id Void = tp _
        t_base_word id (Int n b) = tp _
        t_base_word id (Ptr t) = tp _
        t_base_word id (Array t k) = tp _
        t_base_word id (Composite s n z ms) = t_if (is_empty n) (is_empty (other id n)) (ren.same_empty id n) (hf id s n z ms lvl) (t_emit_composite_fwd id s n)
        t_base_word id (Enum s n z vs) = t_if (is_empty n) (is_empty (other id n)) (ren.same_empty id n) (t_emit_enum_def (enum_value s) id n vs lvl) (t_enum_word id n)
        t_base_word id (Enum64 s n z vs) = t_if (is_empty n) (is_empty (other id n)) (ren.same_empty id n) (t_emit_enum_def (enum64_value s) id n vs lvl) (t_enum_word id n)
        t_base_word id (Fwd u n) = t_emit_composite_fwd id (not u) n
        t_base_word id (Typedef n t) = t_type ident_space id n (λ m. p_put m m (stands_self m)) (λ m. tp m)
        t_base_word id (Mod q t) = tp _
        t_base_word id (Func n) = tp _
        t_base_word id (Var n) = tp _
        t_base_word id (Datasec n) = tp _
        t_base_word id (FuncProto r ps) = tp _
        t_base_word id (Float n z) = tp _
        t_base_word id (DeclTag a n t k) = tp _
        t_base_word id (TypeTag a n t) = tp _

        t_emit_array : (last_was_ptr : Bool) (c : List Entry) → Twin (emit_array (noting N) B d₁ c₁ f₁ fname lvl last_was_ptr c) (emit_array (noting N) R d₂ c₂ f₂ fname lvl last_was_ptr c)
        unfolding emit_array
        t_emit_array last_was_ptr [] = t_emit_name fname last_was_ptr
        t_emit_array last_was_ptr (e ∷ c) = t_then (tp _) (t_parens (not (is_array e)) (hc (e ∷ c) fname lvl))

        t_emit_proto : (last_was_ptr : Bool) (c : List Entry) → Twin (emit_proto (noting N) B d₁ c₁ f₁ fname lvl last_was_ptr c) (emit_proto (noting N) R d₂ c₂ f₂ fname lvl last_was_ptr c)
        unfolding emit_proto
        t_emit_proto last_was_ptr [] = t_emit_name fname last_was_ptr
        t_emit_proto last_was_ptr (e ∷ c) = t_then (tp _) (t_then (hc (e ∷ c) fname lvl) (tp _))

        t_param_list : (ps : List Param) → Twin (param_list (noting N) B d₁ c₁ f₁ fname lvl ps) (param_list (noting N) R d₂ c₂ f₂ fname lvl ps)
        unfolding param_list
        t_param_list ps = t_then (tp _) (t_then (t_emit_params (λ id n. hd id n lvl) true (shown_params ps)) (tp _))

        t_chain_loop : (n : ℕ) (last_was_ptr : Bool) (c : List Entry) → Twin (chain_loop (noting N) B d₁ c₁ f₁ fname lvl n last_was_ptr c) (chain_loop (noting N) R d₂ c₂ f₂ fname lvl n last_was_ptr c)
        unfolding chain_loop
        t_chain_loop zero last_was_ptr c = t_emit_name fname last_was_ptr
        t_chain_loop (suc n) last_was_ptr [] = t_emit_name fname last_was_ptr
        t_chain_loop (suc n) last_was_ptr (base id ∷ c) = t_then (tp _) (t_then (t_base_word id (B.type_by_id id)) (t_chain_loop n false (no_mods c)))
        t_chain_loop (suc n) last_was_ptr (star ∷ c) = t_then (tp _) (t_chain_loop n true c)
        t_chain_loop (suc n) last_was_ptr (qual q ∷ c) = t_then (tp _) (t_chain_loop n false c)
        t_chain_loop (suc n) last_was_ptr (array k ∷ c) = t_then (t_emit_array last_was_ptr (no_mods c)) (tp _)
        t_chain_loop (suc n) last_was_ptr (proto ps ∷ c) = t_then (tp _) (t_then (t_emit_proto last_was_ptr (no_mods c)) (t_param_list ps))
        t_chain_loop (suc n) last_was_ptr (tag a name ∷ c) = t_then (tp _) (t_then (tp _) (t_chain_loop n false (no_mods c)))

      module _ (id : ℕ) where
        t_emit_members : (tail : ℕ → List Pad) (lvl : ℕ) (packed : Bool) (i offset : ℕ) (ms : List Member) → Twin (emit_members (noting N) B d₁ id tail lvl packed i offset ms) (emit_members (noting N) R d₂ id tail lvl packed i offset ms)
        unfolding emit_members
        t_emit_members tail lvl packed i offset [] = tp _
        t_emit_members tail lvl packed i offset (m ∷ ms) =
            t_then (t_given (bit_padding B offset m packed) (bit_padding R offset m packed) (padding_same other B offset m packed) (λ ps. tp _))
            (t_then (tp _) (t_then (tp _) (t_then (hd m.type_id m.name lvl) (t_then (tp _)
            (t_given (end_of B m) (end_of R m) (end_same other B m) (λ end. t_then (t_put (tags_same other B i (B.decl_tags id))) (t_then (tp _) (t_emit_members tail lvl packed (i + 1) end ms))))))))

        t_composite_def : (is_struct : Bool) (name : Name) (sz : ℕ) (ms : List Member) (lvl : ℕ) → Twin (composite_def (noting N) B d₁ id is_struct name sz ms lvl) (composite_def (noting N) R d₂ id is_struct (other id name) sz ms lvl)
        unfolding composite_def composite_body composite_head composite_end
        t_composite_def is_struct name sz ms lvl =
            t_if (builtin name) (builtin (other id name)) (ren.same_builtin id name) (tp []) (t_given (body_packed B is_struct sz ms) (body_packed R is_struct sz ms) (body_same other B is_struct sz ms) (λ packed.
            t_then (t_type tag_space id name (λ n. p_second n _ (p_first n _ (p_put n (sep_name n) (sep_stands n)))) (λ n. t_then (t_put (keyword_same other B is_struct)) (t_then (tp _) (tp _))))
            (t_then (t_emit_members (tail_pads B.placing B.ptr_sz is_struct sz) (deeper lvl) packed 0 0 ms) (t_then (tp _) (t_then (tp _) (t_then (tp _) (t_then (tp _) (t_put (tags_same other B 4294967295 (B.decl_tags id))))))))))

    mutual
      unfolding emit_type_decl emit_type_chain emit_composite_def

      t_emit_type_decl : (left id : ℕ) (fname : Name) (lvl : ℕ) → Twin (emit_type_decl (noting N) B left id fname lvl) (emit_type_decl (noting N) R left id fname lvl)
      t_emit_type_decl zero id fname lvl = t_stop 12
      t_emit_type_decl (suc left) id fname lvl = t_given (chain_of 512 B id []) (chain_of 512 R id []) (λ i. chain_same other B 512 i id []) (λ c. t_emit_type_chain left c fname lvl)

      t_emit_type_chain : (left : ℕ) (c : List Entry) (fname : Name) (lvl : ℕ) → Twin (emit_type_chain (noting N) B left c fname lvl) (emit_type_chain (noting N) R left c fname lvl)
      t_emit_type_chain zero c fname lvl = t_stop 12
      t_emit_type_chain (suc left) c fname lvl =
          t_chain_loop (λ id n l. t_emit_type_decl left id n l) (λ d n l. t_emit_type_chain left d n l) (λ id s n z ms l. emit_composite_def (noting N) R left id s n z ms l) (λ id s n z ms l. t_emit_composite_def left id s n z ms l) fname lvl (length c) true c

      t_emit_composite_def : (left id : ℕ) (is_struct : Bool) (name : Name) (sz : ℕ) (ms : List Member) (lvl : ℕ) → Twin (emit_composite_def (noting N) B left id is_struct name sz ms lvl) (emit_composite_def (noting N) R left id is_struct (other id name) sz ms lvl)
      t_emit_composite_def zero id is_struct name sz ms lvl = t_stop 12
      t_emit_composite_def (suc left) id is_struct name sz ms lvl = t_composite_def (λ t n l. t_emit_type_decl left t n l) id is_struct name sz ms lvl

    t_emit_typedef_def : (id : ℕ) (name : Name) (t : ℕ) → Twin (emit_typedef_def (noting N) B id name t) (emit_typedef_def (noting N) R id (other id name) t)
    unfolding emit_typedef_def
    t_emit_typedef_def id name t = t_then (t_type ident_space id name (λ n. p_second n _ (p_emit_type_decl n (noting N) B 512 t 0)) (λ n. t_then (tp _) (t_emit_type_decl 512 t n 0))) (t_put (tags_same other B 4294967295 (B.decl_tags id)))

    t_definition : (id : ℕ) (t : BtfType) → Twin (definition (noting N) B id t) (definition (noting N) R id (rename_type (other id) t))
    unfolding definition emit_fwd_def
    t_definition id Void = tp _
    t_definition id (Int n b) = tp _
    t_definition id (Ptr t) = tp _
    t_definition id (Array t k) = tp _
    t_definition id (Composite s n z ms) = t_then (t_emit_composite_def 512 id s n z ms 0) (tp _)
    t_definition id (Enum s n z vs) = t_then (t_emit_enum_def (enum_value s) id n vs 0) (tp _)
    t_definition id (Enum64 s n z vs) = t_then (t_emit_enum_def (enum64_value s) id n vs 0) (tp _)
    t_definition id (Fwd u n) = t_then (t_emit_composite_fwd id (not u) n) (tp _)
    t_definition id (Typedef n t) = tp _
    t_definition id (Mod q t) = tp _
    t_definition id (Func n) = tp _
    t_definition id (Var n) = tp _
    t_definition id (Datasec n) = tp _
    t_definition id (FuncProto r ps) = tp _
    t_definition id (Float n z) = tp _
    t_definition id (DeclTag a n t k) = tp _
    t_definition id (TypeTag a n t) = tp _

    t_shown : {w₁ w₂ : Writer (Asked U)} → (id : ℕ) (name : Name) → Twin w₁ w₂ → Twin (shown (noting N) B name w₁) (shown (noting N) R (other id name) w₂)
    unfolding shown
    t_shown id name h = t_if (builtin name) (builtin (other id name)) (ren.same_builtin id name) (tp []) (t_then h (tp _))

    t_forward : (id : ℕ) (t : BtfType) → Twin (forward (noting N) B id t) (forward (noting N) R id (rename_type (other id) t))
    unfolding forward
    t_forward id Void = tp _
    t_forward id (Int n b) = tp _
    t_forward id (Ptr t) = tp _
    t_forward id (Array t k) = tp _
    t_forward id (Composite s n z ms) = t_shown id n (t_emit_composite_fwd id s n)
    t_forward id (Enum s n z vs) = tp _
    t_forward id (Enum64 s n z vs) = tp _
    t_forward id (Fwd u n) = tp _
    t_forward id (Typedef n t) = t_shown id n (t_emit_typedef_def id n t)
    t_forward id (Mod q t) = tp _
    t_forward id (Func n) = tp _
    t_forward id (Var n) = tp _
    t_forward id (Datasec n) = tp _
    t_forward id (FuncProto r ps) = tp _
    t_forward id (Float n z) = tp _
    t_forward id (DeclTag a n t k) = tp _
    t_forward id (TypeTag a n t) = tp _

    pub only_mentions : OnlyMentions N B other
    only_mentions = record {
      forwards = λ id u h. (t_forward id (B.type_by_id id)).same u h;
      definitions = λ id u h. (t_definition id (B.type_by_id id)).same u h;
    }

-- the names that a line mentions stand in it
module _ {U : Type 0} (N : Naming U) (B : Btf) where
  -- all mentions of what was said
  abbrev pub Shown : Said (Asked U) → Type 0
  Shown (said u (whole a) k) = (m : Mention) → Memᴰ m u.mentions → Stands m.name a
  Shown (said u (cut a c) k) = Unit {0}

  own_names : Renames (λ (id : ℕ) (n : Name). n)
  own_names = record { same_empty = λ id n. refl; same_builtin = λ id n. refl }

  shown_said : (s : Said (Asked U)) (l : List Mention) → (said_names s).mentions ≡ [] ++ l → AllIn l (said_text s) → Shown s
  unfolding said_names said_text
  shown_said (said u (whole a) k) l e h = λ m i. h m (subst (Memᴰ m) e i)
  shown_said (said u (cut a c) k) l e h = tt

  shown_twin : (w₁ w₂ : Writer (Asked U)) → Twin N (λ id n. n) own_names (λ space id n x o. o) w₁ w₂ → (u : Asked U) → u.mentions ≡ [] → Shown (w₁ u)
  shown_twin w₁ w₂ h u e = let q = h.more u in shown_said (w₁ u) q.0 (q.1 ∙ ap (λ (k : List Mention). k ++ q.0) e) q.2

  pub shown_forward : (id : ℕ) (u : Asked U) → u.mentions ≡ [] → Shown (forward (noting N) B id (B.type_by_id id) u)
  shown_forward id u e = shown_twin _ _ (t_forward N (λ x n. n) own_names (λ space x n v o. o) B id (B.type_by_id id)) u e

  pub shown_definition : (id : ℕ) (u : Asked U) → u.mentions ≡ [] → Shown (definition (noting N) B id (B.type_by_id id) u)
  shown_definition id u e = shown_twin _ _ (t_definition N (λ x n. n) own_names (λ space x n v o. o) B id (B.type_by_id id)) u e
