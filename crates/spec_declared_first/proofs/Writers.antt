-- What a writer asks for a name: a declaration only what it can come to, a line first its own name.
use Prim.Native.Nat.{ℕ, zero, suc, ◌+◌}
use mathlib.Core.Path.{◌≡◌, refl, sym, ◌∙◌, ap, subst}
use mathlib.Core.Bool.{Bool, true, false, not, ◌&&◌, true≢false}
use mathlib.Core.List.{List, [], ◌∷◌, Memᴰ}
use mathlib.Core.Logic.{◌⊎◌, inl, inr}
use lib.ListN.{length}
use lib.Dec.{eqb}
use Rattle.spec_bytes.specs.text.Text.{whole, cut}
use Rattle.spec_c_dumper.specs.rules.Order.{Table, is_comp}
use Rattle.spec_c_dumper.specs.rules.Writer.{reserve_passed, Ask, got, no, Said, said, said_names, Writer, after, next, ◌⨾◌, put, stop, given}
use Rattle.spec_c_dumper.specs.rules.Types.{Name, is_empty, Member, Param, Enumerator, BtfType, Void, Int, Ptr, Array, Composite, Enum, Enum64, Fwd, Typedef, Mod, Func, Var, Datasec, FuncProto, Float, DeclTag, TypeTag, Btf, member_types, param_types, node_of, name_of, is_named, table_of}
use Rattle.spec_c_dumper.specs.rules.Layout.{bit_padding, end_of, Pad}
use Rattle.spec_c_dumper.specs.rules.Names.{Space, tag_space, ident_space, Naming, resolving, spelled, resolve_type_name, resolve_name, builtin}
use Rattle.spec_c_dumper.specs.rules.Placing.{body_packed, tail_pads}
use Rattle.spec_c_dumper.specs.rules.Decl.{deeper, enum_value, enum64_value, Entry, base, star, qual, array, proto, tag, Link, ends, leads, link_of, chain_on, chain_of, no_mods, is_array, no_params, shown_params, emit_composite_fwd, emit_fwd_def, enum_word, emit_values, enum_body, emit_enum_def, emit_name, parens, emit_param, emit_params, base_word, emit_array, emit_proto, param_list, chain_loop, emit_members, composite_head, composite_end, composite_body, composite_def, emit_type_decl, emit_type_chain, emit_composite_def}
use Rattle.spec_c_dumper.specs.needs.Needs.{kids}
use Rattle.spec_c_dumper.proofs.rules.Held.{resolved}
use Rattle.spec_c_dumper.proofs.needs.Placed.{is_def}
use Rattle.spec_declared_first.specs.Notes.{Asked, noting}
use Rattle.spec_declared_first.specs.Declared.{Key, name_in, own_name}
use Rattle.spec_declared_first.proofs.Reach.{stops, Reach, at, on, HasName, goes_on, nameless_on}

-- I: of the names and of what was asked so far; P: of what may be asked
module _ {U : Type 0} (N : Naming U) (P : Space → ℕ → Name → Type 0) (I : Asked U → Type 0)
    (asks : (space : Space) (id : ℕ) (name : Name) (u : Asked U) → P space id name → I u → I ((noting N).type_version space id name u).names)
    (counts : (id i : ℕ) (name : Name) (u : Asked U) → I u → I ((noting N).value_version id i name u).names) where
  abbrev W : Type 0
  W = Writer (Asked U)

  pub record Keeps (w : Writer (Asked U)) : Type 0 where
    pub keeps : (u : Asked U) → I u → I (said_names (w u))

  pub k_put : (a : List ℕ) → Keeps (put a)
  unfolding put said_names
  k_put a = record { keeps = λ u h. h }

  k_stop : (c : ℕ) → Keeps (stop c)
  unfolding stop said_names
  k_stop c = record { keeps = λ u h. h }

  k_after : (a : List ℕ) (m : List (Asked U)) (s : Said (Asked U)) → I (said_names s) → I (said_names (after a m s))
  unfolding after said_names
  k_after a m (said u t n) h = h

  k_next : (s : Said (Asked U)) (w : W) → I (said_names s) → Keeps w → I (said_names (next s w))
  unfolding next said_names
  k_next (said u (whole a) m) w h k = k_after a m (w u) (k.keeps u h)
  k_next (said u (cut a c) m) w h k = h

  pub k_then : {v w : W} → Keeps v → Keeps w → Keeps (v ⨾ w)
  unfolding ◌⨾◌
  k_then {v} {w} hv hw = record { keeps = λ u h. k_next (v u) w (hv.keeps u h) hw }

  k_if : {a b : W} → (t : Bool) → Keeps a → Keeps b → Keeps (elim t [ true ↦ a | false ↦ b ])
  k_if true h k = h
  k_if false h k = k

  k_given : {A : Type 0} {k : A → W} → (x : Ask A) → ((a : A) → Keeps (k a)) → Keeps (given x k)
  unfolding given
  k_given (got a) h = h a
  k_given (no c) h = k_stop c

  k_type : {k : Name → W} → (space : Space) (id : ℕ) (name : Name) → (is_empty name ≡ false → P space id name) → ((n : Name) → Keeps (k n)) → Keeps (resolve_type_name (noting N) space id name k)
  unfolding resolve_type_name
  k_type {k} space id name p h = go (is_empty name) refl
    where
      go : (b : Bool) → is_empty name ≡ b → Keeps (elim b [ true ↦ k name | false ↦ resolving ((noting N).type_version space id name) (λ v. k (spelled name v)) ])
      go true e = h name
      go false e = record {
        keeps = λ u i.
            resolved (λ s. I (said_names s)) ((noting N).type_version space id name) (λ v. k (spelled name v)) u (λ o. (k_stop reserve_passed).keeps u i)
            (λ o. (h (spelled name ((noting N).type_version space id name u).version)).keeps ((noting N).type_version space id name u).names (asks space id name u (p e) i));
      }

  k_value : {k : Name → W} → (id i : ℕ) (name : Name) → ((n : Name) → Keeps (k n)) → Keeps (resolve_name (noting N) id i name k)
  unfolding resolve_name
  k_value {k} id i name h = record {
    keeps = λ u q.
        resolved (λ s. I (said_names s)) ((noting N).value_version id i name) (λ v. k (spelled name v)) u (λ o. (k_stop reserve_passed).keeps u q)
        (λ o. (h (spelled name ((noting N).value_version id i name u).version)).keeps ((noting N).value_version id i name u).names (counts id i name u q));
  }

  k_emit_name : (fname : Name) (last_was_ptr : Bool) → Keeps (emit_name fname last_was_ptr)
  unfolding emit_name
  k_emit_name fname last_was_ptr = k_if last_was_ptr (k_put _) (k_put _)

  k_parens : {w : W} → (b : Bool) → Keeps w → Keeps (parens b w)
  unfolding parens
  k_parens b h = k_if b (k_then (k_put _) (k_then h (k_put _))) h

  module _ (B : Btf) where
    abbrev T : Table
    T = table_of B

    -- all that a declaration of id can come to may be asked for
    abbrev pub Open : ℕ → Type 0
    Open id = (w : ℕ) → Reach (table_of B) id w → HasName (table_of B) w → (space : Space) → own_name w (B.type_by_id w) ≡ record { space = space; id = w } ∷ [] → P space w (name_of (B.type_by_id w))

    open_kid : (id y : ℕ) (t : BtfType) → B.type_by_id id ≡ t → (is_comp (node_of t) ≡ false) ⊎ (is_named t ≡ false) → Memᴰ y (kids (node_of t)) → Open id → Open y
    open_kid id y t e o m h w r = h w (on (go o) (subst (λ (k : BtfType). Memᴰ y (kids (node_of k))) (sym e) m) r)
      where
        go : (is_comp (node_of t) ≡ false) ⊎ (is_named t ≡ false) → stops T id ≡ false
        go (inl q) = goes_on T id (node_of t) (ap node_of e) q
        go (inr q) = nameless_on T id (ap is_named e ∙ q)

    -- its own name
    open_own : (id : ℕ) (t : BtfType) (space : Space) → B.type_by_id id ≡ t → own_name id t ≡ name_in space id (name_of t) → is_def (node_of t) ≡ true → Open id → is_empty (name_of t) ≡ false → P space id (name_of t)
    open_own id t space e own d h n =
        subst (λ (k : BtfType). P space id (name_of k)) e
        (h id (at refl) (ap (λ (k : BtfType). is_def (node_of k)) e ∙ d, ap is_named e ∙ ap not n) space
        (ap (own_name id) e ∙ own ∙ ap (λ (b : Bool). elim b as (λ (k : Bool). List Key) [ true ↦ [] | false ↦ record { space = space; id = id } ∷ [] ]) n))

    k_emit_composite_fwd : (id : ℕ) (is_struct : Bool) (name : Name) → (is_empty name ≡ false → P tag_space id name) → Keeps (emit_composite_fwd (noting N) B id is_struct name)
    unfolding emit_composite_fwd
    k_emit_composite_fwd id is_struct name p = k_if (builtin name) (k_put []) (k_type tag_space id name p (λ n. k_then (k_put _) (k_then (k_put _) (k_put n))))

    k_emit_values : (str : ℕ → List ℕ) (id lvl i : ℕ) (vs : List Enumerator) → Keeps (emit_values (noting N) B str id lvl i vs)
    unfolding emit_values
    k_emit_values str id lvl i [] = k_put []
    k_emit_values str id lvl i (v ∷ vs) =
        k_then (k_value id i v.name (λ n. k_then (k_put _) (k_then (k_put _) (k_then (k_put n) (k_then (k_put _) (k_then (k_put _) (k_put _))))))) (k_emit_values str id lvl (i + 1) vs)

    pub k_enum_body : (str : ℕ → List ℕ) (id lvl : ℕ) (vs : List Enumerator) → Keeps (enum_body (noting N) B str id lvl vs)
    unfolding enum_body
    k_enum_body str id lvl [] = k_put []
    k_enum_body str id lvl (v ∷ vs) = k_then (k_put _) (k_then (k_emit_values str id (deeper lvl) 0 (v ∷ vs)) (k_then (k_put _) (k_then (k_put _) (k_put _))))

    k_emit_enum_def : (str : ℕ → List ℕ) (id : ℕ) (name : Name) (vs : List Enumerator) (lvl : ℕ) → (is_empty name ≡ false → P tag_space id name) → Keeps (emit_enum_def (noting N) B str id name vs lvl)
    unfolding emit_enum_def
    k_emit_enum_def str id name vs lvl p = k_if (builtin name) (k_put []) (k_then (k_type tag_space id name p (λ n. k_then (k_put _) (k_put _))) (k_enum_body str id lvl vs))

    -- parameters, members, and the entries of a chain
    abbrev ParamsOpen : List Param → Type 0
    ParamsOpen [] = Unit {0}
    ParamsOpen (p ∷ ps) = Open p.type_id × ParamsOpen ps

    abbrev pub MembersOpen : List Member → Type 0
    MembersOpen [] = Unit {0}
    MembersOpen (m ∷ ms) = Open m.type_id × MembersOpen ms

    params_open : (ps : List Param) → ((y : ℕ) → Memᴰ y (param_types ps) → Open y) → ParamsOpen ps
    params_open [] h = tt
    params_open (p ∷ ps) h = (h p.type_id (Memᴰ.head refl), params_open ps (λ y m. h y (Memᴰ.tail m)))

    pub members_open : (ms : List Member) → ((y : ℕ) → Memᴰ y (member_types ms) → Open y) → MembersOpen ms
    members_open [] h = tt
    members_open (m ∷ ms) h = (h m.type_id (Memᴰ.head refl), members_open ms (λ y k. h y (Memᴰ.tail k)))

    abbrev EntryOpen : Entry → Type 0
    EntryOpen (base id) = Open id
    EntryOpen star = Unit {0}
    EntryOpen (qual q) = Unit {0}
    EntryOpen (array n) = Unit {0}
    EntryOpen (proto ps) = ParamsOpen ps
    EntryOpen (tag a n) = Unit {0}

    abbrev ChainOpen : List Entry → Type 0
    ChainOpen [] = Unit {0}
    ChainOpen (e ∷ c) = EntryOpen e × ChainOpen c

    abbrev LinkOpen : Link → Type 0
    LinkOpen ends = Unit {0}
    LinkOpen (leads e t) = EntryOpen e × Open t

    abbrev AskOpen : Ask (List Entry) → Type 0
    AskOpen (got c) = ChainOpen c
    AskOpen (no e) = Unit {0}

    no_mods_open : (c : List Entry) → ChainOpen c → ChainOpen (no_mods c)
    unfolding no_mods
    no_mods_open [] h = tt
    no_mods_open (base x ∷ c) h = h
    no_mods_open (star ∷ c) h = h
    no_mods_open (qual q ∷ c) h = no_mods_open c h.1
    no_mods_open (array n ∷ c) h = h
    no_mods_open (proto ps ∷ c) h = h
    no_mods_open (tag a n ∷ c) h = h

    shown_open : (ps : List Param) → ParamsOpen ps → ParamsOpen (shown_params ps)
    unfolding shown_params
    shown_open [] h = tt
    shown_open (p ∷ ps) h = go (no_params ps && eqb p.type_id 0)
      where
        go : (b : Bool) → ParamsOpen (elim b [ true ↦ [] | false ↦ p ∷ ps ])
        go true = tt
        go false = h

    link_open : (id : ℕ) (t : BtfType) → B.type_by_id id ≡ t → Open id → LinkOpen (link_of t)
    link_open id Void e h = tt
    link_open id (Int n b) e h = tt
    link_open id (Ptr t) e h = (tt, open_kid id t (Ptr t) e (inl refl) (Memᴰ.head refl) h)
    link_open id (Array t k) e h = (tt, open_kid id t (Array t k) e (inl refl) (Memᴰ.head refl) h)
    link_open id (Composite s n z ms) e h = tt
    link_open id (Enum s n z vs) e h = tt
    link_open id (Enum64 s n z vs) e h = tt
    link_open id (Fwd u n) e h = tt
    link_open id (Typedef n t) e h = tt
    link_open id (Mod q t) e h = (tt, open_kid id t (Mod q t) e (inl refl) (Memᴰ.head refl) h)
    link_open id (Func n) e h = tt
    link_open id (Var n) e h = tt
    link_open id (Datasec n) e h = tt
    link_open id (FuncProto r ps) e h =
        (params_open ps (λ y m. open_kid id y (FuncProto r ps) e (inl refl) (Memᴰ.tail m) h), open_kid id r (FuncProto r ps) e (inl refl) (Memᴰ.head refl) h)
    link_open id (Float n z) e h = tt
    link_open id (DeclTag a n t k) e h = tt
    link_open id (TypeTag a n t) e h = (tt, open_kid id t (TypeTag a n t) e (inl refl) (Memᴰ.head refl) h)

    chain_on_open : (walk : ℕ → List Entry → Ask (List Entry)) → ((t : ℕ) (c : List Entry) → Open t → ChainOpen c → AskOpen (walk t c)) → (id : ℕ) (c : List Entry) (l : Link) → Open id → ChainOpen c → LinkOpen l → AskOpen (chain_on walk id c l)
    unfolding chain_on
    chain_on_open walk f id c ends h k q = (h, k)
    chain_on_open walk f id c (leads e t) h k q = f t (e ∷ c) q.1 (q.0, k)

    chain_open : (most id : ℕ) (c : List Entry) → Open id → ChainOpen c → AskOpen (chain_of most B id c)
    unfolding chain_of
    chain_open zero id c h k = tt
    chain_open (suc most) id c h k = chain_on_open (chain_of most B) (λ t d f g. chain_open most t d f g) id c (link_of (B.type_by_id id)) h k (link_open id (B.type_by_id id) refl h)

    k_given_chain : {k : List Entry → W} → (x : Ask (List Entry)) → AskOpen x → ((c : List Entry) → ChainOpen c → Keeps (k c)) → Keeps (given x k)
    unfolding given
    k_given_chain (got c) q h = h c q
    k_given_chain (no e) q h = k_stop e

    k_emit_param : {d : ℕ → Name → W} → ((id : ℕ) (n : Name) → Open id → Keeps (d id n)) → (p : Param) (is_last : Bool) → Open p.type_id → Keeps (emit_param d p is_last)
    unfolding emit_param
    k_emit_param hd p is_last h = k_if (is_last && eqb p.type_id 0) (k_put _) (hd p.type_id p.name h)

    k_emit_params : {d : ℕ → Name → W} → ((id : ℕ) (n : Name) → Open id → Keeps (d id n)) → (first : Bool) (ps : List Param) → ParamsOpen ps → Keeps (emit_params d first ps)
    unfolding emit_params
    k_emit_params hd first [] h = k_put []
    k_emit_params hd first (p ∷ ps) h = k_then (k_put _) (k_then (k_emit_param hd p (no_params ps) h.0) (k_emit_params hd false ps h.1))

    module _ {d : ℕ → Name → ℕ → W} (hd : (id : ℕ) (n : Name) (l : ℕ) → Open id → Keeps (d id n l)) where
      module _ {c' : List Entry → Name → ℕ → W} (hc : (c : List Entry) (n : Name) (l : ℕ) → ChainOpen c → Keeps (c' c n l))
          {f : ℕ → Bool → Name → ℕ → List Member → ℕ → W} (hf : (id : ℕ) (s : Bool) (n : Name) (z : ℕ) (ms : List Member) (l : ℕ) → is_empty n ≡ true → MembersOpen ms → Keeps (f id s n z ms l)) (fname : Name) (lvl : ℕ) where
        named_or : {a b : W} → (n : Name) → (is_empty n ≡ true → Keeps a) → Keeps b → Keeps (elim (is_empty n) [ true ↦ a | false ↦ b ])
        named_or {a} {b} n h k = go (is_empty n) refl
          where
            go : (t : Bool) → is_empty n ≡ t → Keeps (elim t [ true ↦ a | false ↦ b ])
            go true e = h e
            go false e = k

        k_base_word : (id : ℕ) (t : BtfType) → B.type_by_id id ≡ t → Open id → Keeps (base_word (noting N) B d c' f fname lvl id t)
        unfolding base_word emit_fwd_def enum_word
        k_base_word id Void e h = k_put _
        k_base_word id (Int n b) e h = k_put _
        k_base_word id (Ptr t) e h = k_put _
        k_base_word id (Array t k) e h = k_put _
        k_base_word id (Composite s n z ms) e h =
            named_or n (λ q. hf id s n z ms lvl q (members_open ms (λ y m. open_kid id y (Composite s n z ms) e (inr (ap not q)) m h)))
            (k_emit_composite_fwd id s n (open_own id (Composite s n z ms) tag_space e refl refl h))
        k_base_word id (Enum s n z vs) e h =
            k_if (is_empty n) (k_emit_enum_def (enum_value s) id n vs lvl (open_own id (Enum s n z vs) tag_space e refl refl h)) (k_type tag_space id n (open_own id (Enum s n z vs) tag_space e refl refl h) (λ m. k_then (k_put _) (k_put m)))
        k_base_word id (Enum64 s n z vs) e h =
            k_if (is_empty n) (k_emit_enum_def (enum64_value s) id n vs lvl (open_own id (Enum64 s n z vs) tag_space e refl refl h)) (k_type tag_space id n (open_own id (Enum64 s n z vs) tag_space e refl refl h) (λ m. k_then (k_put _) (k_put m)))
        k_base_word id (Fwd u n) e h = k_emit_composite_fwd id (not u) n (open_own id (Fwd u n) tag_space e refl refl h)
        k_base_word id (Typedef n t) e h = k_type ident_space id n (open_own id (Typedef n t) ident_space e refl refl h) (λ m. k_put m)
        k_base_word id (Mod q t) e h = k_put _
        k_base_word id (Func n) e h = k_put _
        k_base_word id (Var n) e h = k_put _
        k_base_word id (Datasec n) e h = k_put _
        k_base_word id (FuncProto r ps) e h = k_put _
        k_base_word id (Float n z) e h = k_put _
        k_base_word id (DeclTag a n t k) e h = k_put _
        k_base_word id (TypeTag a n t) e h = k_put _

        k_emit_array : (last_was_ptr : Bool) (c : List Entry) → ChainOpen c → Keeps (emit_array (noting N) B d c' f fname lvl last_was_ptr c)
        unfolding emit_array
        k_emit_array last_was_ptr [] h = k_emit_name fname last_was_ptr
        k_emit_array last_was_ptr (e ∷ c) h = k_then (k_put _) (k_parens (not (is_array e)) (hc (e ∷ c) fname lvl h))

        k_emit_proto : (last_was_ptr : Bool) (c : List Entry) → ChainOpen c → Keeps (emit_proto (noting N) B d c' f fname lvl last_was_ptr c)
        unfolding emit_proto
        k_emit_proto last_was_ptr [] h = k_emit_name fname last_was_ptr
        k_emit_proto last_was_ptr (e ∷ c) h = k_then (k_put _) (k_then (hc (e ∷ c) fname lvl h) (k_put _))

        k_param_list : (ps : List Param) → ParamsOpen ps → Keeps (param_list (noting N) B d c' f fname lvl ps)
        unfolding param_list
        k_param_list ps h = k_then (k_put _) (k_then (k_emit_params (λ id n k. hd id n lvl k) true (shown_params ps) (shown_open ps h)) (k_put _))

        k_chain_loop : (n : ℕ) (last_was_ptr : Bool) (c : List Entry) → ChainOpen c → Keeps (chain_loop (noting N) B d c' f fname lvl n last_was_ptr c)
        unfolding chain_loop
        k_chain_loop zero last_was_ptr c h = k_emit_name fname last_was_ptr
        k_chain_loop (suc n) last_was_ptr [] h = k_emit_name fname last_was_ptr
        k_chain_loop (suc n) last_was_ptr (base id ∷ c) h = k_then (k_put _) (k_then (k_base_word id (B.type_by_id id) refl h.0) (k_chain_loop n false (no_mods c) (no_mods_open c h.1)))
        k_chain_loop (suc n) last_was_ptr (star ∷ c) h = k_then (k_put _) (k_chain_loop n true c h.1)
        k_chain_loop (suc n) last_was_ptr (qual q ∷ c) h = k_then (k_put _) (k_chain_loop n false c h.1)
        k_chain_loop (suc n) last_was_ptr (array k ∷ c) h = k_then (k_emit_array last_was_ptr (no_mods c) (no_mods_open c h.1)) (k_put _)
        k_chain_loop (suc n) last_was_ptr (proto ps ∷ c) h = k_then (k_put _) (k_then (k_emit_proto last_was_ptr (no_mods c) (no_mods_open c h.1)) (k_param_list ps h.0))
        k_chain_loop (suc n) last_was_ptr (tag a name ∷ c) h = k_then (k_put _) (k_then (k_put _) (k_chain_loop n false (no_mods c) (no_mods_open c h.1)))

      module _ (id : ℕ) where
        pub k_emit_members : (tail : ℕ → List Pad) (lvl : ℕ) (packed : Bool) (i offset : ℕ) (ms : List Member) → MembersOpen ms → Keeps (emit_members (noting N) B d id tail lvl packed i offset ms)
        unfolding emit_members
        k_emit_members tail lvl packed i offset [] h = k_put _
        k_emit_members tail lvl packed i offset (m ∷ ms) h =
            k_then (k_given (bit_padding B offset m packed) (λ ps. k_put _))
            (k_then (k_put _) (k_then (k_put _) (k_then (hd m.type_id m.name lvl h.0) (k_then (k_put _)
            (k_given (end_of B m) (λ end. k_then (k_put _) (k_then (k_put _) (k_emit_members tail lvl packed (i + 1) end ms h.1))))))))

        pub k_composite_end : (lvl : ℕ) (ms : List Member) (packed : Bool) → Keeps (composite_end (noting N) B d id lvl ms packed)
        unfolding composite_end
        k_composite_end lvl ms packed = k_then (k_put _) (k_then (k_put _) (k_then (k_put _) (k_then (k_put _) (k_put _))))

        k_composite_def : (is_struct : Bool) (name : Name) (sz : ℕ) (ms : List Member) (lvl : ℕ) → is_empty name ≡ true → MembersOpen ms → Keeps (composite_def (noting N) B d id is_struct name sz ms lvl)
        unfolding composite_def composite_body composite_head
        k_composite_def is_struct name sz ms lvl e h =
            k_if (builtin name) (k_put []) (k_given (body_packed B is_struct sz ms) (λ packed.
            k_then (k_type tag_space id name (λ q. absurd (true≢false (sym e ∙ q))) (λ n. k_then (k_put _) (k_then (k_put _) (k_put _)))) (k_then (k_emit_members (tail_pads B.placing B.ptr_sz is_struct sz) (deeper lvl) packed 0 0 ms h) (k_composite_end lvl ms packed))))

    mutual
      unfolding emit_type_decl emit_type_chain emit_composite_def

      pub k_emit_type_decl : (left id : ℕ) (fname : Name) (lvl : ℕ) → Open id → Keeps (emit_type_decl (noting N) B left id fname lvl)
      k_emit_type_decl zero id fname lvl h = k_stop 12
      k_emit_type_decl (suc left) id fname lvl h = k_given_chain (chain_of 512 B id []) (chain_open 512 id [] h tt) (λ c k. k_emit_type_chain left c fname lvl k)

      k_emit_type_chain : (left : ℕ) (c : List Entry) (fname : Name) (lvl : ℕ) → ChainOpen c → Keeps (emit_type_chain (noting N) B left c fname lvl)
      k_emit_type_chain zero c fname lvl h = k_stop 12
      k_emit_type_chain (suc left) c fname lvl h =
          k_chain_loop (λ id n l k. k_emit_type_decl left id n l k) (λ d n l k. k_emit_type_chain left d n l k) (λ id s n z ms l e k. k_emit_composite_def left id s n z ms l e k) fname lvl (length c) true c h

      k_emit_composite_def : (left id : ℕ) (is_struct : Bool) (name : Name) (sz : ℕ) (ms : List Member) (lvl : ℕ) → is_empty name ≡ true → MembersOpen ms → Keeps (emit_composite_def (noting N) B left id is_struct name sz ms lvl)
      k_emit_composite_def zero id is_struct name sz ms lvl e h = k_stop 12
      k_emit_composite_def (suc left) id is_struct name sz ms lvl e h = k_composite_def (λ t n l k. k_emit_type_decl left t n l k) id is_struct name sz ms lvl e h
