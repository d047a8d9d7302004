-- What every emitter is put together from: texts, refusals by 12, 15, 16 and 18, one writer after another, and versions of names. A relation between
-- writers that these keep, all emitters keep. Assumes nothing.
use Prim.Native.Nat.{ℕ, zero, suc, ◌+◌, ◌*◌, ◌%◌}
use mathlib.Core.Path.{◌≡◌, refl}
use mathlib.Core.Bool.{Bool, true, false, not, ◌&&◌}
use mathlib.Core.List.{List, [], ◌∷◌}
use mathlib.Core.Logic.{◌⊎◌, inl, inr}
use lib.ListN.{length}
use lib.Dec.{ltb, leb, eqb}
use Rattle.spec_c_dumper.specs.rules.Writer.{Ask, got, no, ask_then, checked, Writer, ◌⨾◌, put, stop, given}
use Rattle.spec_c_dumper.specs.rules.Types.{Name, is_empty, Member, Param, Enumerator, BtfType, Void, Int, Ptr, Array, Composite, Enum, Enum64, Fwd, Typedef, Mod, Func, Var, Datasec, FuncProto, Float, DeclTag, TypeTag, Btf}
use Rattle.spec_c_dumper.specs.rules.Layout.{size_of, get_size_of, larger, align_members, align_of, get_align_of, off_align, members_packed, is_struct_packed, Pad, bit_padding, end_of}
use Rattle.spec_c_dumper.specs.rules.Placing.{field_size, Extent, with_member, extent_of, no_extent, union_align, size_fits, measured, body_packed, tail_pads}
use Rattle.spec_c_dumper.specs.rules.Names.{Space, tag_space, ident_space, Naming, resolving, spelled, resolve_type_name, resolve_name, builtin}
use Rattle.spec_c_dumper.specs.rules.Decl.{deeper, enum_value, enum64_value, Entry, base, star, qual, array, proto, tag, Link, ends, leads, link_of, chain_on, chain_of, no_mods, is_array, no_params, shown_params, emit_composite_fwd, emit_fwd_def, enum_word, emit_values, enum_body, emit_enum_def, emit_name, parens, emit_param, emit_params, base_word, emit_array, emit_proto, param_list, chain_loop, emit_members, composite_head, composite_end, composite_body, composite_def, emit_type_decl, emit_type_chain, emit_composite_def, emit_typedef_def}
use Rattle.spec_c_dumper.specs.rules.Emit.{definition, shown, forward}

-- the refusals of a line
abbrev pub Code : ℕ → Type 0
Code c = (c ≡ 12) ⊎ (c ≡ 15) ⊎ (c ≡ 16) ⊎ (c ≡ 18)

-- ---- what is asked for is refused by these alone

pub data Asks {A : Type 0} : Ask A → Type 0 where
  gets : (a : A) → Asks (got a)
  refuses : (c : ℕ) → Code c → Asks (no c)

pub asks_then : {A C : Type 0} (x : Ask A) (k : A → Ask C) → Asks x → ((a : A) → Asks (k a)) → Asks (ask_then x k)
unfolding ask_then
asks_then _ k (gets a) h = h a
asks_then _ k (refuses c q) h = refuses c q

pub asks_if : {A : Type 0} (b : Bool) (x y : Ask A) → Asks x → Asks y → Asks {A = A} (elim b [ true ↦ x | false ↦ y ])
asks_if true x y hx hy = hx
asks_if false x y hx hy = hy

deep : {A : Type 0} → Asks {A = A} (no 12)
deep = refuses 12 (inl refl)

pub asks_checked : (n : ℕ) → Asks (checked n)
unfolding checked
asks_checked n = asks_if (ltb n 4294967296) _ _ (gets n) (refuses 16 (inr (inr (inl refl))))

module _ (B : Btf) where
  asks_size_of : (size : ℕ → Ask ℕ) → ((id : ℕ) → Asks (size id)) → (t : BtfType) → Asks (size_of B size t)
  unfolding size_of
  asks_size_of size h Void = gets _
  asks_size_of size h (Int n bits) = gets _
  asks_size_of size h (Ptr t) = gets _
  asks_size_of size h (Array t k) = asks_then (size t) _ (h t) (λ s. asks_checked (k * s))
  asks_size_of size h (Composite s n sz ms) = gets _
  asks_size_of size h (Enum s n sz vs) = gets _
  asks_size_of size h (Enum64 s n sz vs) = gets _
  asks_size_of size h (Fwd u n) = gets _
  asks_size_of size h (Typedef n t) = h t
  asks_size_of size h (Mod q t) = h t
  asks_size_of size h (Func n) = gets _
  asks_size_of size h (Var n) = gets _
  asks_size_of size h (Datasec n) = gets _
  asks_size_of size h (FuncProto r ps) = gets _
  asks_size_of size h (Float n sz) = gets _
  asks_size_of size h (DeclTag a n t k) = h t
  asks_size_of size h (TypeTag a n t) = h t

  pub asks_size : (left id : ℕ) → Asks (get_size_of left B id)
  unfolding get_size_of
  asks_size zero id = deep
  asks_size (suc left) id = asks_size_of (get_size_of left B) (asks_size left) (B.type_by_id id)

  asks_members : (align : ℕ → Ask ℕ) → ((id : ℕ) → Asks (align id)) → (a : ℕ) (ms : List Member) → Asks (align_members align a ms)
  unfolding align_members
  asks_members align h a [] = gets a
  asks_members align h a (m ∷ ms) = asks_then (align m.type_id) _ (h m.type_id) (λ b. asks_members align h (larger a b) ms)

  asks_align_of : (align : ℕ → Ask ℕ) → ((id : ℕ) → Asks (align id)) → (t : BtfType) → Asks (align_of B align t)
  unfolding align_of
  asks_align_of align h Void = gets _
  asks_align_of align h (Int n bits) = gets _
  asks_align_of align h (Ptr t) = gets _
  asks_align_of align h (Array t k) = h t
  asks_align_of align h (Composite s n sz ms) = asks_members align h 1 ms
  asks_align_of align h (Enum s n sz vs) = gets _
  asks_align_of align h (Enum64 s n sz vs) = gets _
  asks_align_of align h (Fwd u n) = gets _
  asks_align_of align h (Typedef n t) = h t
  asks_align_of align h (Mod q t) = h t
  asks_align_of align h (Func n) = gets _
  asks_align_of align h (Var n) = gets _
  asks_align_of align h (Datasec n) = gets _
  asks_align_of align h (FuncProto r ps) = gets _
  asks_align_of align h (Float n sz) = gets _
  asks_align_of align h (DeclTag a n t k) = gets _
  asks_align_of align h (TypeTag a n t) = h t

  pub asks_align : (left id : ℕ) → Asks (get_align_of left B id)
  unfolding get_align_of
  asks_align zero id = deep
  asks_align (suc left) id = asks_align_of (get_align_of left B) (asks_align left) (B.type_by_id id)

  asks_off : (a off : ℕ) (rest : Ask Bool) → Asks rest → Asks (off_align a off rest)
  unfolding off_align
  asks_off a off rest h = asks_if (eqb a 0) _ _ (refuses 15 (inr (inl refl))) (asks_if (eqb (off % (a * 8)) 0) _ _ h (gets true))

  asks_packed : (ms : List Member) → Asks (members_packed B ms)
  unfolding members_packed
  asks_packed [] = gets false
  asks_packed (m ∷ ms) =
      asks_if (eqb m.bit_size 0) _ _
      (asks_then (get_align_of 512 B m.type_id) _ (asks_align 512 m.type_id) (λ a. asks_off a m.bit_offset (members_packed B ms) (asks_packed ms)))
      (asks_packed ms)

  pub asks_struct : (is_struct : Bool) (sz : ℕ) (ms : List Member) → Asks (is_struct_packed B is_struct sz ms)
  unfolding is_struct_packed
  asks_struct false sz ms = gets false
  asks_struct true sz ms =
      asks_then (align_members (get_align_of 511 B) 1 ms) _ (asks_members (get_align_of 511 B) (asks_align 511) 1 ms) (λ a. asks_if (eqb (sz % a) 0) _ _ (asks_packed ms) (gets true))

  pub asks_padding : (offset : ℕ) (m : Member) (packed : Bool) → Asks (bit_padding B offset m packed)
  unfolding bit_padding
  asks_padding offset m packed =
      asks_if (leb m.bit_offset offset) _ _ (gets [])
      (asks_then (elim packed [ true ↦ got 1 | false ↦ get_align_of 512 B m.type_id ]) _ (asks_if packed _ _ (gets 1) (asks_align 512 m.type_id)) (λ a. gets _))

  pub asks_end : (m : Member) → Asks (end_of B m)
  unfolding end_of
  asks_end m =
      asks_if (eqb m.bit_size 0) _ _
      (asks_then (get_size_of 512 B m.type_id) _ (asks_size 512 m.type_id) (λ s. asks_then (checked (8 * s)) _ (asks_checked (8 * s)) (λ bits. asks_checked (m.bit_offset + bits))))
      (asks_checked (m.bit_offset + m.bit_size))

  pub asks_extent : (is_struct packed : Bool) (x : Extent) (ms : List Member) → Asks (extent_of B is_struct packed x ms)
  unfolding extent_of field_size
  asks_extent is_struct packed x [] = gets _
  asks_extent is_struct packed x (m ∷ ms) =
      asks_then (elim (eqb m.bit_size 0) [ true ↦ got 0 | false ↦ get_size_of 512 B m.type_id ]) _ (asks_if (eqb m.bit_size 0) _ _ (gets 0) (asks_size 512 m.type_id))
      (λ size. asks_then (end_of B m) _ (asks_end m) (λ end. asks_extent is_struct packed (with_member is_struct packed x size end m.bit_offset m.bit_size) ms))

  asks_measured : (is_struct : Bool) (sz : ℕ) (ms : List Member) → Asks (measured B is_struct sz ms)
  unfolding measured union_align
  asks_measured is_struct sz ms =
      asks_then (elim is_struct [ true ↦ got 1 | false ↦ align_members (get_align_of 511 B) 1 ms ]) _ (asks_if is_struct _ _ (gets 1) (asks_members (get_align_of 511 B) (asks_align 511) 1 ms))
      (λ a. asks_then (is_struct_packed B is_struct sz ms) _ (asks_struct is_struct sz ms)
      (λ packed. asks_then (extent_of B is_struct packed no_extent ms) _ (asks_extent is_struct packed no_extent ms)
      (λ x. asks_then (checked (8 * sz)) _ (asks_checked (8 * sz))
      (λ bits. asks_if (x.fits && size_fits is_struct a x.last bits) _ _ (gets packed) (refuses 18 (inr (inr (inr refl))))))))

  pub asks_body : (is_struct : Bool) (sz : ℕ) (ms : List Member) → Asks (body_packed B is_struct sz ms)
  unfolding body_packed
  asks_body is_struct sz ms = asks_if B.placing _ _ (asks_measured is_struct sz ms) (asks_struct is_struct sz ms)

  asks_chain_on : (walk : ℕ → List Entry → Ask (List Entry)) → ((t : ℕ) (c : List Entry) → Asks (walk t c)) → (id : ℕ) (c : List Entry) (l : Link) → Asks (chain_on walk id c l)
  unfolding chain_on
  asks_chain_on walk h id c ends = gets _
  asks_chain_on walk h id c (leads e t) = h t (e ∷ c)

  pub asks_chain : (most id : ℕ) (c : List Entry) → Asks (chain_of most B id c)
  unfolding chain_of
  asks_chain zero id c = deep
  asks_chain (suc most) id c = asks_chain_on (chain_of most B) (asks_chain most) id c (link_of (B.type_by_id id))

-- ---- what the names in a type's record fit

module _ (Fits : Space → ℕ → Name → Type 0) (FitsValue : ℕ → ℕ → Name → Type 0) where
  -- the values of enum id from the i-th on
  abbrev pub ValuesFit : ℕ → ℕ → List Enumerator → Type 0
  ValuesFit id i [] = Unit {0}
  ValuesFit id i (v ∷ vs) = FitsValue id i v.name × ValuesFit id (i + 1) vs

  abbrev pub TypeFits : ℕ → BtfType → Type 0
  TypeFits id Void = Unit {0}
  TypeFits id (Int n b) = Unit {0}
  TypeFits id (Ptr t) = Unit {0}
  TypeFits id (Array t k) = Unit {0}
  TypeFits id (Composite s n z ms) = Fits tag_space id n
  TypeFits id (Enum s n z vs) = Fits tag_space id n × ValuesFit id 0 vs
  TypeFits id (Enum64 s n z vs) = Fits tag_space id n × ValuesFit id 0 vs
  TypeFits id (Fwd u n) = Fits tag_space id n
  TypeFits id (Typedef n t) = Fits ident_space id n
  TypeFits id (Mod q t) = Unit {0}
  TypeFits id (Func n) = Unit {0}
  TypeFits id (Var n) = Unit {0}
  TypeFits id (Datasec n) = Unit {0}
  TypeFits id (FuncProto r ps) = Unit {0}
  TypeFits id (Float n z) = Unit {0}
  TypeFits id (DeclTag a n t k) = Unit {0}
  TypeFits id (TypeTag a n t) = Unit {0}

-- a relation that the parts keep
pub record Closed {U W : Type 0} (N₁ : Naming U) (N₂ : Naming W) (Fits : Space → ℕ → Name → Type 0) (FitsValue : ℕ → ℕ → Name → Type 0) (S : Writer U → Writer W → Type 0) : Type 0 where
  pub c_put : (a : List ℕ) → S (put a) (put a)
  pub c_stop : (c : ℕ) → Code c → S (stop c) (stop c)
  pub c_then : (v₁ w₁ : Writer U) (v₂ w₂ : Writer W) → S v₁ v₂ → S w₁ w₂ → S (v₁ ⨾ w₁) (v₂ ⨾ w₂)
  pub c_type : (space : Space) (id : ℕ) (name : Name) → Fits space id name → is_empty name ≡ false → (k₁ : ℕ → Writer U) (k₂ : ℕ → Writer W)
      → ((n : ℕ) → S (k₁ n) (k₂ n)) → S (resolving (N₁.type_version space id name) k₁) (resolving (N₂.type_version space id name) k₂)
  pub c_value : (id i : ℕ) (name : Name) → FitsValue id i name → (k₁ : ℕ → Writer U) (k₂ : ℕ → Writer W)
      → ((n : ℕ) → S (k₁ n) (k₂ n)) → S (resolving (N₁.value_version id i name) k₁) (resolving (N₂.value_version id i name) k₂)

module _ {U W : Type 0} (N₁ : Naming U) (N₂ : Naming W) (Fits : Space → ℕ → Name → Type 0) (FitsValue : ℕ → ℕ → Name → Type 0) (S : Writer U → Writer W → Type 0) (C : Closed N₁ N₂ Fits FitsValue S) where
  pub r_put : (a : List ℕ) → S (put a) (put a)
  r_put a = C.c_put a

  pub r_then : {v₁ w₁ : Writer U} {v₂ w₂ : Writer W} → S v₁ v₂ → S w₁ w₂ → S (v₁ ⨾ w₁) (v₂ ⨾ w₂)
  r_then {v₁} {w₁} {v₂} {w₂} hv hw = C.c_then v₁ w₁ v₂ w₂ hv hw

  pub r_if : {a₁ b₁ : Writer U} {a₂ b₂ : Writer W} → (b : Bool) → S a₁ a₂ → S b₁ b₂ → S (elim b [ true ↦ a₁ | false ↦ b₁ ]) (elim b [ true ↦ a₂ | false ↦ b₂ ])
  r_if true h k = h
  r_if false h k = k

  pub r_given : {A : Type 0} {k₁ : A → Writer U} {k₂ : A → Writer W} → (x : Ask A) → Asks x → ((a : A) → S (k₁ a) (k₂ a)) → S (given x k₁) (given x k₂)
  unfolding given
  r_given _ (gets a) h = h a
  r_given _ (refuses c q) h = C.c_stop c q

  r_type : {k₁ : Name → Writer U} {k₂ : Name → Writer W} → (space : Space) (id : ℕ) (name : Name) → Fits space id name → ((n : Name) → S (k₁ n) (k₂ n))
      → S (resolve_type_name N₁ space id name k₁) (resolve_type_name N₂ space id name k₂)
  unfolding resolve_type_name
  r_type {k₁} {k₂} space id name fit h = go (is_empty name) refl
    where
      go : (b : Bool) → is_empty name ≡ b
          → S (elim b [ true ↦ k₁ name | false ↦ resolving (N₁.type_version space id name) (λ v. k₁ (spelled name v)) ]) (elim b [ true ↦ k₂ name | false ↦ resolving (N₂.type_version space id name) (λ v. k₂ (spelled name v)) ])
      go true e = h name
      go false e = C.c_type space id name fit e (λ v. k₁ (spelled name v)) (λ v. k₂ (spelled name v)) (λ v. h (spelled name v))

  r_value : {k₁ : Name → Writer U} {k₂ : Name → Writer W} → (id i : ℕ) (name : Name) → FitsValue id i name → ((n : Name) → S (k₁ n) (k₂ n))
      → S (resolve_name N₁ id i name k₁) (resolve_name N₂ id i name k₂)
  unfolding resolve_name
  r_value {k₁} {k₂} id i name fit h = C.c_value id i name fit (λ v. k₁ (spelled name v)) (λ v. k₂ (spelled name v)) (λ v. h (spelled name v))

  pub r_emit_name : (fname : Name) (last_was_ptr : Bool) → S (emit_name fname last_was_ptr) (emit_name fname last_was_ptr)
  unfolding emit_name
  r_emit_name fname last_was_ptr = r_if last_was_ptr (r_put _) (r_put _)

  pub r_parens : {w₁ : Writer U} {w₂ : Writer W} → (b : Bool) → S w₁ w₂ → S (parens b w₁) (parens b w₂)
  unfolding parens
  r_parens b h = r_if b (r_then (r_put _) (r_then h (r_put _))) h

  module _ {d₁ : ℕ → Name → Writer U} {d₂ : ℕ → Name → Writer W} (hd : (id : ℕ) (n : Name) → S (d₁ id n) (d₂ id n)) where
    pub r_emit_param : (p : Param) (is_last : Bool) → S (emit_param d₁ p is_last) (emit_param d₂ p is_last)
    unfolding emit_param
    r_emit_param p is_last = r_if (is_last && eqb p.type_id 0) (r_put _) (hd p.type_id p.name)

    pub r_emit_params : (first : Bool) (ps : List Param) → S (emit_params d₁ first ps) (emit_params d₂ first ps)
    unfolding emit_params
    r_emit_params first [] = r_put []
    r_emit_params first (p ∷ ps) = r_then (r_put _) (r_then (r_emit_param p (no_params ps)) (r_emit_params false ps))

  module _ (B : Btf) where
    pub r_emit_composite_fwd : (id : ℕ) (is_struct : Bool) (name : Name) → Fits tag_space id name → S (emit_composite_fwd N₁ B id is_struct name) (emit_composite_fwd N₂ B id is_struct name)
    unfolding emit_composite_fwd
    r_emit_composite_fwd id is_struct name fit = r_if (builtin name) (r_put []) (r_type tag_space id name fit (λ n. r_then (r_put _) (r_then (r_put _) (r_put n))))

    pub r_emit_fwd_def : (id : ℕ) (is_union : Bool) (name : Name) → Fits tag_space id name → S (emit_fwd_def N₁ B id is_union name) (emit_fwd_def N₂ B id is_union name)
    unfolding emit_fwd_def
    r_emit_fwd_def id is_union name fit = r_emit_composite_fwd id (not is_union) name fit

    pub r_enum_word : (id : ℕ) (name : Name) → Fits tag_space id name → S (enum_word N₁ B id name) (enum_word N₂ B id name)
    unfolding enum_word
    r_enum_word id name fit = r_type tag_space id name fit (λ n. r_then (r_put _) (r_put n))

    pub r_emit_values : (str : ℕ → List ℕ) (id lvl i : ℕ) (vs : List Enumerator) → ValuesFit Fits FitsValue id i vs → S (emit_values N₁ B str id lvl i vs) (emit_values N₂ B str id lvl i vs)
    unfolding emit_values
    r_emit_values str id lvl i [] fit = r_put []
    r_emit_values str id lvl i (v ∷ vs) fit =
        r_then
        (r_value id i v.name fit.0 (λ n. r_then (r_put _) (r_then (r_put _) (r_then (r_put n) (r_then (r_put _) (r_then (r_put _) (r_put _)))))))
        (r_emit_values str id lvl (i + 1) vs fit.1)

    pub r_enum_body : (str : ℕ → List ℕ) (id lvl : ℕ) (vs : List Enumerator) → ValuesFit Fits FitsValue id 0 vs → S (enum_body N₁ B str id lvl vs) (enum_body N₂ B str id lvl vs)
    unfolding enum_body
    r_enum_body str id lvl [] fit = r_put []
    r_enum_body str id lvl (v ∷ vs) fit = r_then (r_put _) (r_then (r_emit_values str id (deeper lvl) 0 (v ∷ vs) fit) (r_then (r_put _) (r_then (r_put _) (r_put _))))

    pub r_emit_enum_def : (str : ℕ → List ℕ) (id : ℕ) (name : Name) (vs : List Enumerator) (lvl : ℕ) → Fits tag_space id name → ValuesFit Fits FitsValue id 0 vs
        → S (emit_enum_def N₁ B str id name vs lvl) (emit_enum_def N₂ B str id name vs lvl)
    unfolding emit_enum_def
    r_emit_enum_def str id name vs lvl fit fits =
        r_if (builtin name) (r_put []) (r_then (r_type tag_space id name fit (λ n. r_then (r_put _) (r_put _))) (r_enum_body str id lvl vs fits))

    module _ {d₁ : ℕ → Name → ℕ → Writer U} {d₂ : ℕ → Name → ℕ → Writer W} (hd : (id : ℕ) (n : Name) (l : ℕ) → S (d₁ id n l) (d₂ id n l)) where
      module _ {c₁ : List Entry → Name → ℕ → Writer U} {c₂ : List Entry → Name → ℕ → Writer W} (hc : (c : List Entry) (n : Name) (l : ℕ) → S (c₁ c n l) (c₂ c n l))
          {f₁ : ℕ → Bool → Name → ℕ → List Member → ℕ → Writer U} {f₂ : ℕ → Bool → Name → ℕ → List Member → ℕ → Writer W}
          (hf : (id : ℕ) (s : Bool) (n : Name) (z : ℕ) (ms : List Member) (l : ℕ) → Fits tag_space id n → S (f₁ id s n z ms l) (f₂ id s n z ms l)) (fname : Name) (lvl : ℕ) where
        pub r_base_word : (id : ℕ) (t : BtfType) → TypeFits Fits FitsValue id t → S (base_word N₁ B d₁ c₁ f₁ fname lvl id t) (base_word N₂ B d₂ c₂ f₂ fname lvl id t)
        unfolding base_word
        r_base_word id Void fit = r_put _
        r_base_word id (Int n b) fit = r_put _
        r_base_word id (Ptr t) fit = r_put _
        r_base_word id (Array t k) fit = r_put _
        r_base_word id (Composite s n z ms) fit = r_if (is_empty n) (hf id s n z ms lvl fit) (r_emit_composite_fwd id s n fit)
        r_base_word id (Enum s n z vs) fit = r_if (is_empty n) (r_emit_enum_def (enum_value s) id n vs lvl fit.0 fit.1) (r_enum_word id n fit.0)
        r_base_word id (Enum64 s n z vs) fit = r_if (is_empty n) (r_emit_enum_def (enum64_value s) id n vs lvl fit.0 fit.1) (r_enum_word id n fit.0)
        r_base_word id (Fwd u n) fit = r_emit_fwd_def id u n fit
        r_base_word id (Typedef n t) fit = r_type ident_space id n fit (λ m. r_put m)
        r_base_word id (Mod q t) fit = r_put _
        r_base_word id (Func n) fit = r_put _
        r_base_word id (Var n) fit = r_put _
        r_base_word id (Datasec n) fit = r_put _
        r_base_word id (FuncProto r ps) fit = r_put _
        r_base_word id (Float n z) fit = r_put _
        r_base_word id (DeclTag a n t k) fit = r_put _
        r_base_word id (TypeTag a n t) fit = r_put _

        pub r_emit_array : (last_was_ptr : Bool) (c : List Entry) → S (emit_array N₁ B d₁ c₁ f₁ fname lvl last_was_ptr c) (emit_array N₂ B d₂ c₂ f₂ fname lvl last_was_ptr c)
        unfolding emit_array
        r_emit_array last_was_ptr [] = r_emit_name fname last_was_ptr
        r_emit_array last_was_ptr (e ∷ c) = r_then (r_put _) (r_parens (not (is_array e)) (hc (e ∷ c) fname lvl))

        pub r_emit_proto : (last_was_ptr : Bool) (c : List Entry) → S (emit_proto N₁ B d₁ c₁ f₁ fname lvl last_was_ptr c) (emit_proto N₂ B d₂ c₂ f₂ fname lvl last_was_ptr c)
        unfolding emit_proto
        r_emit_proto last_was_ptr [] = r_emit_name fname last_was_ptr
        r_emit_proto last_was_ptr (e ∷ c) = r_then (r_put _) (r_then (hc (e ∷ c) fname lvl) (r_put _))

        pub r_param_list : (ps : List Param) → S (param_list N₁ B d₁ c₁ f₁ fname lvl ps) (param_list N₂ B d₂ c₂ f₂ fname lvl ps)
        unfolding param_list
        r_param_list ps = r_then (r_put _) (r_then (r_emit_params (λ id name. hd id name lvl) true (shown_params ps)) (r_put _))

        module _ (fits : (id : ℕ) → TypeFits Fits FitsValue id (B.type_by_id id)) where
          pub r_chain_loop : (n : ℕ) (last_was_ptr : Bool) (c : List Entry) → S (chain_loop N₁ B d₁ c₁ f₁ fname lvl n last_was_ptr c) (chain_loop N₂ B d₂ c₂ f₂ fname lvl n last_was_ptr c)
          unfolding chain_loop
          r_chain_loop zero last_was_ptr c = r_emit_name fname last_was_ptr
          r_chain_loop (suc n) last_was_ptr [] = r_emit_name fname last_was_ptr
          r_chain_loop (suc n) last_was_ptr (base id ∷ c) = r_then (r_put _) (r_then (r_base_word id (B.type_by_id id) (fits id)) (r_chain_loop n false (no_mods c)))
          r_chain_loop (suc n) last_was_ptr (star ∷ c) = r_then (r_put _) (r_chain_loop n true c)
          r_chain_loop (suc n) last_was_ptr (qual q ∷ c) = r_then (r_put _) (r_chain_loop n false c)
          r_chain_loop (suc n) last_was_ptr (array k ∷ c) = r_then (r_emit_array last_was_ptr (no_mods c)) (r_put _)
          r_chain_loop (suc n) last_was_ptr (proto ps ∷ c) = r_then (r_put _) (r_then (r_emit_proto last_was_ptr (no_mods c)) (r_param_list ps))
          r_chain_loop (suc n) last_was_ptr (tag a name ∷ c) = r_then (r_put _) (r_then (r_put _) (r_chain_loop n false (no_mods c)))

      module _ (id : ℕ) where
        pub r_emit_members : (tail : ℕ → List Pad) (lvl : ℕ) (packed : Bool) (i offset : ℕ) (ms : List Member) → S (emit_members N₁ B d₁ id tail lvl packed i offset ms) (emit_members N₂ B d₂ id tail lvl packed i offset ms)
        unfolding emit_members
        r_emit_members tail lvl packed i offset [] = r_put _
        r_emit_members tail lvl packed i offset (m ∷ ms) =
            r_then (r_given (bit_padding B offset m packed) (asks_padding B offset m packed) (λ ps. r_put _))
            (r_then (r_put _) (r_then (r_put _) (r_then (hd m.type_id m.name lvl) (r_then (r_put _)
            (r_given (end_of B m) (asks_end B m) (λ end. r_then (r_put _) (r_then (r_put _) (r_emit_members tail lvl packed (i + 1) end ms))))))))

        pub r_composite_head : (is_struct : Bool) (name : Name) → Fits tag_space id name → S (composite_head N₁ B d₁ id is_struct name) (composite_head N₂ B d₂ id is_struct name)
        unfolding composite_head
        r_composite_head is_struct name fit = r_type tag_space id name fit (λ n. r_then (r_put _) (r_then (r_put _) (r_put _)))

        pub r_composite_end : (lvl : ℕ) (ms : List Member) (packed : Bool) → S (composite_end N₁ B d₁ id lvl ms packed) (composite_end N₂ B d₂ id lvl ms packed)
        unfolding composite_end
        r_composite_end lvl ms packed = r_then (r_put _) (r_then (r_put _) (r_then (r_put _) (r_then (r_put _) (r_put _))))

        pub r_composite_body : (is_struct : Bool) (name : Name) (sz : ℕ) (ms : List Member) (lvl : ℕ) (packed : Bool) → Fits tag_space id name
            → S (composite_body N₁ B d₁ id is_struct name sz ms lvl packed) (composite_body N₂ B d₂ id is_struct name sz ms lvl packed)
        unfolding composite_body
        r_composite_body is_struct name sz ms lvl packed fit =
            r_then (r_composite_head is_struct name fit) (r_then (r_emit_members (tail_pads B.placing B.ptr_sz is_struct sz) (deeper lvl) packed 0 0 ms) (r_composite_end lvl ms packed))

        pub r_composite_def : (is_struct : Bool) (name : Name) (sz : ℕ) (ms : List Member) (lvl : ℕ) → Fits tag_space id name
            → S (composite_def N₁ B d₁ id is_struct name sz ms lvl) (composite_def N₂ B d₂ id is_struct name sz ms lvl)
        unfolding composite_def
        r_composite_def is_struct name sz ms lvl fit =
            r_if (builtin name) (r_put []) (r_given (body_packed B is_struct sz ms) (asks_body B is_struct sz ms) (λ packed. r_composite_body is_struct name sz ms lvl packed fit))

    module _ (fits : (id : ℕ) → TypeFits Fits FitsValue id (B.type_by_id id)) where
      mutual
        unfolding emit_type_decl emit_type_chain emit_composite_def

        pub r_emit_type_decl : (left id : ℕ) (fname : Name) (lvl : ℕ) → S (emit_type_decl N₁ B left id fname lvl) (emit_type_decl N₂ B left id fname lvl)
        r_emit_type_decl zero id fname lvl = C.c_stop 12 (inl refl)
        r_emit_type_decl (suc left) id fname lvl = r_given (chain_of 512 B id []) (asks_chain B 512 id []) (λ c. r_emit_type_chain left c fname lvl)

        pub r_emit_type_chain : (left : ℕ) (c : List Entry) (fname : Name) (lvl : ℕ) → S (emit_type_chain N₁ B left c fname lvl) (emit_type_chain N₂ B left c fname lvl)
        r_emit_type_chain zero c fname lvl = C.c_stop 12 (inl refl)
        r_emit_type_chain (suc left) c fname lvl =
            r_chain_loop (λ id n l. r_emit_type_decl left id n l) (λ d n l. r_emit_type_chain left d n l) (λ id s n z ms l fit. r_emit_composite_def left id s n z ms l fit) fname lvl fits (length c) true c

        pub r_emit_composite_def : (left id : ℕ) (is_struct : Bool) (name : Name) (sz : ℕ) (ms : List Member) (lvl : ℕ) → Fits tag_space id name
            → S (emit_composite_def N₁ B left id is_struct name sz ms lvl) (emit_composite_def N₂ B left id is_struct name sz ms lvl)
        r_emit_composite_def zero id is_struct name sz ms lvl fit = C.c_stop 12 (inl refl)
        r_emit_composite_def (suc left) id is_struct name sz ms lvl fit = r_composite_def (λ t n l. r_emit_type_decl left t n l) id is_struct name sz ms lvl fit

      pub r_emit_typedef_def : (id : ℕ) (name : Name) (t : ℕ) → Fits ident_space id name → S (emit_typedef_def N₁ B id name t) (emit_typedef_def N₂ B id name t)
      unfolding emit_typedef_def
      r_emit_typedef_def id name t fit = r_then (r_type ident_space id name fit (λ n. r_then (r_put _) (r_emit_type_decl 512 t n 0))) (r_put _)

      pub r_definition : (id : ℕ) (t : BtfType) → TypeFits Fits FitsValue id t → S (definition N₁ B id t) (definition N₂ B id t)
      unfolding definition
      r_definition id Void fit = r_put _
      r_definition id (Int n b) fit = r_put _
      r_definition id (Ptr t) fit = r_put _
      r_definition id (Array t k) fit = r_put _
      r_definition id (Composite s n z ms) fit = r_then (r_emit_composite_def 512 id s n z ms 0 fit) (r_put _)
      r_definition id (Enum s n z vs) fit = r_then (r_emit_enum_def (enum_value s) id n vs 0 fit.0 fit.1) (r_put _)
      r_definition id (Enum64 s n z vs) fit = r_then (r_emit_enum_def (enum64_value s) id n vs 0 fit.0 fit.1) (r_put _)
      r_definition id (Fwd u n) fit = r_then (r_emit_fwd_def id u n fit) (r_put _)
      r_definition id (Typedef n t) fit = r_put _
      r_definition id (Mod q t) fit = r_put _
      r_definition id (Func n) fit = r_put _
      r_definition id (Var n) fit = r_put _
      r_definition id (Datasec n) fit = r_put _
      r_definition id (FuncProto r ps) fit = r_put _
      r_definition id (Float n z) fit = r_put _
      r_definition id (DeclTag a n t k) fit = r_put _
      r_definition id (TypeTag a n t) fit = r_put _

      pub r_shown : {w₁ : Writer U} {w₂ : Writer W} → (name : Name) → S w₁ w₂ → S (shown N₁ B name w₁) (shown N₂ B name w₂)
      unfolding shown
      r_shown name h = r_if (builtin name) (r_put []) (r_then h (r_put _))

      pub r_forward : (id : ℕ) (t : BtfType) → TypeFits Fits FitsValue id t → S (forward N₁ B id t) (forward N₂ B id t)
      unfolding forward
      r_forward id Void fit = r_put _
      r_forward id (Int n b) fit = r_put _
      r_forward id (Ptr t) fit = r_put _
      r_forward id (Array t k) fit = r_put _
      r_forward id (Composite s n z ms) fit = r_shown n (r_emit_composite_fwd id s n fit)
      r_forward id (Enum s n z vs) fit = r_put _
      r_forward id (Enum64 s n z vs) fit = r_put _
      r_forward id (Fwd u n) fit = r_put _
      r_forward id (Typedef n t) fit = r_shown n (r_emit_typedef_def id n t fit)
      r_forward id (Mod q t) fit = r_put _
      r_forward id (Func n) fit = r_put _
      r_forward id (Var n) fit = r_put _
      r_forward id (Datasec n) fit = r_put _
      r_forward id (FuncProto r ps) fit = r_put _
      r_forward id (Float n z) fit = r_put _
      r_forward id (DeclTag a n t k) fit = r_put _
      r_forward id (TypeTag a n t) fit = r_put _
