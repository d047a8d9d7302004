-- Every printed name has a byte of the text for itself: a text of n bytes has at most n names in it. Assumes nothing.
use Prim.Native.Nat.{ℕ, zero, suc, ◌+◌, ◌≤◌}
use mathlib.Core.Path.{◌≡◌, refl}
use mathlib.Core.Bool.{Bool, true, false, not, ◌&&◌, true≢false}
use mathlib.Core.List.{List, [], ◌∷◌, ◌++◌}
use native.Mathlib.Omega.{arith}
use lib.ListN.{length, get_or, set, length-append}
use lib.Dec.{ltb, eqb}
use Rattle.spec_bytes.specs.text.Text.{ascii, whole, cut, join}
use Rattle.spec_bytes.specs.text.Decimal.{decimal}
use Rattle.spec_c_dumper.specs.rules.Writer.{reserve_passed, Ask, got, no, Said, said, Writer, ◌⨾◌, put, stop, given, after, next}
use Rattle.spec_c_dumper.specs.rules.Types.{Name, is_empty, Member, Param, Enumerator, BtfType, Void, Int, Ptr, Array, Composite, Enum, Enum64, Fwd, Typedef, Mod, Func, Var, Datasec, FuncProto, Float, DeclTag, TypeTag, Btf}
use Rattle.spec_c_dumper.specs.rules.Layout.{Pad, bit_padding, end_of}
use Rattle.spec_c_dumper.specs.rules.Placing.{body_packed, tail_pads}
use Rattle.spec_c_dumper.specs.rules.Names.{Space, tag_space, ident_space, Resolved, resolving, spelled, resolve_type_name, resolve_name, builtin, with_one}
use Rattle.spec_c_dumper.specs.rules.Decl.{deeper, enum_value, enum64_value, Entry, base, star, qual, array, proto, tag, chain_of, no_mods, is_array, no_params, shown_params, emit_composite_fwd, emit_fwd_def, enum_word, emit_values, enum_body, emit_enum_def, emit_name, parens, emit_param, emit_params, base_word, emit_array, emit_proto, param_list, chain_loop, emit_members, composite_head, composite_end, composite_body, composite_def, emit_type_decl, emit_type_chain, emit_composite_def, emit_typedef_def}
use Rattle.spec_c_dumper.specs.rules.Emit.{definition, shown, forward}
use Rattle.spec_c_dumper.proofs.rules.Held.{resolved}
use Rattle.spec_c_dumper.specs.names_apart.Apart.{of_type, Apart, number_for, shown as shown_in, type_apart, value_apart, apart}

-- the names printed, and k bytes more, are no more than those printed before and the bytes of the text
abbrev pub Spent : ℕ → Apart → Said Apart → Type 0
Spent k u (said v (whole a) m) = length v.printed + k ≤ length u.printed + length a
Spent k u (said v (cut a c) m) = Unit {0}

pub record S (k : ℕ) (w : Writer Apart) : Type 0 where
  pub spends : (u : Apart) → Spent k u (w u)

s_put : (k : ℕ) (a : List ℕ) → k ≤ length a → S k (put a)
unfolding put
s_put k a h = record { spends = λ u. omega arith }

pub s_none : (a : List ℕ) → S 0 (put a)
s_none a = s_put 0 a (omega arith)

s_stop : (k c : ℕ) → S k (stop c)
unfolding stop
s_stop k c = record { spends = λ u. tt }

spent_after : (j k : ℕ) (u v : Apart) (a : List ℕ) (m : List Apart) (s : Said Apart) → length v.printed + j ≤ length u.printed + length a → Spent k v s → Spent (j + k) u (after a m s)
unfolding after join
spent_after j k u v a m (said w (whole b) n) h q = omega (arith, h, q, length-append a b)
spent_after j k u v a m (said w (cut b c) n) h q = tt

spent_next : (j k : ℕ) (u : Apart) (s : Said Apart) (w : Writer Apart) → Spent j u s → S k w → Spent (j + k) u (next s w)
unfolding next
spent_next j k u (said v (whole a) m) w h q = spent_after j k u v a m (w v) h (q.spends v)
spent_next j k u (said v (cut a c) m) w h q = tt

s_then : (j k : ℕ) (v w : Writer Apart) → S j v → S k w → S (j + k) (v ⨾ w)
unfolding ◌⨾◌
s_then j k v w h q = record { spends = λ u. spent_next j k u (v u) w (h.spends u) q }

pub both : {v w : Writer Apart} → S 0 v → S 0 w → S 0 (v ⨾ w)
both {v} {w} h q = s_then 0 0 v w h q

first : {v w : Writer Apart} → S 1 v → S 0 w → S 1 (v ⨾ w)
first {v} {w} h q = s_then 1 0 v w h q

second : {v w : Writer Apart} → S 0 v → S 1 w → S 1 (v ⨾ w)
second {v} {w} h q = s_then 0 1 v w h q

s_if : {a b : Writer Apart} → (t : Bool) → S 0 a → S 0 b → S 0 (elim t [ true ↦ a | false ↦ b ])
s_if true h k = h
s_if false h k = k

s_given : {A : Type 0} {k : A → Writer Apart} → (x : Ask A) → ((a : A) → S 0 (k a)) → S 0 (given x k)
unfolding given
s_given (got a) h = h a
s_given (no c) h = s_stop 0 c

-- one more name is printed at each asking
spent_one : (u v : Apart) (s : Said Apart) → length v.printed ≡ suc (length u.printed) → Spent 1 v s → Spent 0 u s
spent_one u v (said w (whole a) m) e h = omega (arith, e, h)
spent_one u v (said w (cut a c) m) e h = tt

s_resolving : (f : Apart → Resolved Apart) → ((u : Apart) → length (f u).names.printed ≡ suc (length u.printed)) → (k : ℕ → Writer Apart) → ((n : ℕ) → S 1 (k n)) → S 0 (resolving f k)
s_resolving f e k h = record {
  spends = λ u.
      resolved (Spent 0 u) f k u (λ o. (s_stop 0 reserve_passed).spends u) (λ o. spent_one u (f u).names (k (f u).version (f u).names) (e u) ((h (f u).version).spends (f u).names));
}

module _ (B : Btf) where
  module _ (u : Apart) (space : Space) (id : ℕ) (name : Name) where
    abbrev by : Bool → Resolved Apart
    by b = elim b as (λ (t : Bool). Resolved Apart) [
      | false ↦ record {
        passes = false;
        version = get_or u.names.versions id 0;
        names = record { names = u.names; printed = shown_in space (of_type id) name (get_or u.names.versions id 0) u };
      }
      | true ↦ record {
        passes = false;
        version = number_for B space name u;
        names = record {
          names = record { versions = set u.names.versions id (number_for B space name u); ledger = with_one u.names.ledger space name };
          printed = shown_in space (of_type id) name (number_for B space name u) u;
        };
      }
    ]

    one_more : (b : Bool) → length (by b).names.printed ≡ suc (length u.printed)
    one_more true = refl
    one_more false = refl

  type_one_more : (space : Space) (id : ℕ) (name : Name) (u : Apart) → length (type_apart B space id name u).names.printed ≡ suc (length u.printed)
  unfolding type_apart
  type_one_more space id name u = one_more u space id name (eqb (get_or u.names.versions id 0) 0)

  value_one_more : (id i : ℕ) (name : Name) (u : Apart) → length (value_apart B id i name u).names.printed ≡ suc (length u.printed)
  unfolding value_apart
  value_one_more id i name u = refl

  s_type : {k : Name → Writer Apart} → (space : Space) (id : ℕ) (name : Name) → ((n : Name) → S 0 (k n)) → (is_empty name ≡ false → (n : ℕ) → S 1 (k (spelled name n))) → S 0 (resolve_type_name (apart B) space id name k)
  unfolding resolve_type_name
  s_type {k} space id name h0 h = go (is_empty name) refl
    where
      go : (b : Bool) → is_empty name ≡ b → S 0 (elim b as (λ (t : Bool). Writer Apart) [ true ↦ k name | false ↦ resolving (type_apart B space id name) (λ v. k (spelled name v)) ])
      go true e = h0 name
      go false e = s_resolving (type_apart B space id name) (type_one_more space id name) (λ v. k (spelled name v)) (h e)

  s_value : {k : Name → Writer Apart} → (id i : ℕ) (name : Name) → ((n : Name) → S 1 (k n)) → S 0 (resolve_name (apart B) id i name k)
  unfolding resolve_name
  s_value {k} id i name h = s_resolving (value_apart B id i name) (value_one_more id i name) (λ v. k (spelled name v)) (λ v. h (spelled name v))

  -- a name that is not empty is not spelled so
  some_byte : (name : Name) (n : ℕ) → is_empty name ≡ false → 1 ≤ length (spelled name n)
  unfolding spelled is_empty
  some_byte [] n e = absurd (true≢false e)
  some_byte (b ∷ s) n e = go (ltb n 2)
    where
      go : (t : Bool) → 1 ≤ length {A = ℕ} (elim t as (λ (w : Bool). Name) [ true ↦ b ∷ s | false ↦ (b ∷ s) ++ ascii "___" ++ decimal n ])
      go true = omega arith
      go false = omega arith

  s_emit_name : (fname : Name) (last_was_ptr : Bool) → S 0 (emit_name fname last_was_ptr)
  unfolding emit_name
  s_emit_name fname last_was_ptr = s_if last_was_ptr (s_none _) (s_none _)

  s_parens : {w : Writer Apart} → (b : Bool) → S 0 w → S 0 (parens b w)
  unfolding parens
  s_parens b h = s_if b (both (s_none _) (both h (s_none _))) h

  module _ {d : ℕ → Name → Writer Apart} (hd : (id : ℕ) (n : Name) → S 0 (d id n)) where
    s_emit_param : (p : Param) (is_last : Bool) → S 0 (emit_param d p is_last)
    unfolding emit_param
    s_emit_param p is_last = s_if (is_last && eqb p.type_id 0) (s_none _) (hd p.type_id p.name)

    s_emit_params : (is_first : Bool) (ps : List Param) → S 0 (emit_params d is_first ps)
    unfolding emit_params
    s_emit_params is_first [] = s_none []
    s_emit_params is_first (p ∷ ps) = both (s_none _) (both (s_emit_param p (no_params ps)) (s_emit_params false ps))

  s_emit_composite_fwd : (id : ℕ) (is_struct : Bool) (name : Name) → S 0 (emit_composite_fwd (apart B) B id is_struct name)
  unfolding emit_composite_fwd
  s_emit_composite_fwd id is_struct name =
      s_if (builtin name) (s_none []) (s_type tag_space id name (λ n. both (s_none _) (both (s_none _) (s_none n))) (λ e n. second (s_none _) (first (s_put 1 (ascii " ") (omega arith)) (s_none _))))

  s_emit_fwd_def : (id : ℕ) (is_union : Bool) (name : Name) → S 0 (emit_fwd_def (apart B) B id is_union name)
  unfolding emit_fwd_def
  s_emit_fwd_def id is_union name = s_emit_composite_fwd id (not is_union) name

  s_enum_word : (id : ℕ) (name : Name) → S 0 (enum_word (apart B) B id name)
  unfolding enum_word
  s_enum_word id name = s_type tag_space id name (λ n. both (s_none _) (s_none n)) (λ e n. first (s_put 1 (ascii "enum ") (omega arith)) (s_none _))

  s_emit_values : (str : ℕ → List ℕ) (id lvl i : ℕ) (vs : List Enumerator) → S 0 (emit_values (apart B) B str id lvl i vs)
  unfolding emit_values
  s_emit_values str id lvl i [] = s_none []
  s_emit_values str id lvl i (v ∷ vs) =
      both
      (s_value id i v.name (λ n. first (s_put 1 (ascii "\n") (omega arith)) (both (s_none _) (both (s_none n) (both (s_none _) (both (s_none _) (s_none _)))))))
      (s_emit_values str id lvl (i + 1) vs)

  s_enum_body : (str : ℕ → List ℕ) (id lvl : ℕ) (vs : List Enumerator) → S 0 (enum_body (apart B) B str id lvl vs)
  unfolding enum_body
  s_enum_body str id lvl [] = s_none []
  s_enum_body str id lvl (v ∷ vs) = both (s_none _) (both (s_emit_values str id (deeper lvl) 0 (v ∷ vs)) (both (s_none _) (both (s_none _) (s_none _))))

  s_emit_enum_def : (str : ℕ → List ℕ) (id : ℕ) (name : Name) (vs : List Enumerator) (lvl : ℕ) → S 0 (emit_enum_def (apart B) B str id name vs lvl)
  unfolding emit_enum_def
  s_emit_enum_def str id name vs lvl =
      s_if (builtin name) (s_none []) (both (s_type tag_space id name (λ n. both (s_none _) (s_none _)) (λ e n. first (s_put 1 (ascii "enum") (omega arith)) (s_none _))) (s_enum_body str id lvl vs))

  module _ {d : ℕ → Name → ℕ → Writer Apart} (hd : (id : ℕ) (n : Name) (l : ℕ) → S 0 (d id n l)) where
    module _ {c : List Entry → Name → ℕ → Writer Apart} (hc : (x : List Entry) (n : Name) (l : ℕ) → S 0 (c x n l))
        {f : ℕ → Bool → Name → ℕ → List Member → ℕ → Writer Apart} (hf : (id : ℕ) (s : Bool) (n : Name) (z : ℕ) (ms : List Member) (l : ℕ) → S 0 (f id s n z ms l)) (fname : Name) (lvl : ℕ) where
      s_base_word : (id : ℕ) (t : BtfType) → S 0 (base_word (apart B) B d c f fname lvl id t)
      unfolding base_word
      s_base_word id Void = s_none _
      s_base_word id (Int n b) = s_none _
      s_base_word id (Ptr t) = s_none _
      s_base_word id (Array t k) = s_none _
      s_base_word id (Composite s n z ms) = s_if (is_empty n) (hf id s n z ms lvl) (s_emit_composite_fwd id s n)
      s_base_word id (Enum s n z vs) = s_if (is_empty n) (s_emit_enum_def (enum_value s) id n vs lvl) (s_enum_word id n)
      s_base_word id (Enum64 s n z vs) = s_if (is_empty n) (s_emit_enum_def (enum64_value s) id n vs lvl) (s_enum_word id n)
      s_base_word id (Fwd u n) = s_emit_fwd_def id u n
      s_base_word id (Typedef n t) = s_type ident_space id n (λ m. s_none m) (λ e m. s_put 1 (spelled n m) (some_byte n m e))
      s_base_word id (Mod q t) = s_none _
      s_base_word id (Func n) = s_none _
      s_base_word id (Var n) = s_none _
      s_base_word id (Datasec n) = s_none _
      s_base_word id (FuncProto r ps) = s_none _
      s_base_word id (Float n z) = s_none _
      s_base_word id (DeclTag a n t k) = s_none _
      s_base_word id (TypeTag a n t) = s_none _

      s_emit_array : (last_was_ptr : Bool) (x : List Entry) → S 0 (emit_array (apart B) B d c f fname lvl last_was_ptr x)
      unfolding emit_array
      s_emit_array last_was_ptr [] = s_emit_name fname last_was_ptr
      s_emit_array last_was_ptr (e ∷ x) = both (s_none _) (s_parens (not (is_array e)) (hc (e ∷ x) fname lvl))

      s_emit_proto : (last_was_ptr : Bool) (x : List Entry) → S 0 (emit_proto (apart B) B d c f fname lvl last_was_ptr x)
      unfolding emit_proto
      s_emit_proto last_was_ptr [] = s_emit_name fname last_was_ptr
      s_emit_proto last_was_ptr (e ∷ x) = both (s_none _) (both (hc (e ∷ x) fname lvl) (s_none _))

      s_param_list : (ps : List Param) → S 0 (param_list (apart B) B d c f fname lvl ps)
      unfolding param_list
      s_param_list ps = both (s_none _) (both (s_emit_params (λ id name. hd id name lvl) true (shown_params ps)) (s_none _))

      s_chain_loop : (n : ℕ) (last_was_ptr : Bool) (x : List Entry) → S 0 (chain_loop (apart B) B d c f fname lvl n last_was_ptr x)
      unfolding chain_loop
      s_chain_loop zero last_was_ptr x = s_emit_name fname last_was_ptr
      s_chain_loop (suc n) last_was_ptr [] = s_emit_name fname last_was_ptr
      s_chain_loop (suc n) last_was_ptr (base id ∷ x) = both (s_none _) (both (s_base_word id (B.type_by_id id)) (s_chain_loop n false (no_mods x)))
      s_chain_loop (suc n) last_was_ptr (star ∷ x) = both (s_none _) (s_chain_loop n true x)
      s_chain_loop (suc n) last_was_ptr (qual q ∷ x) = both (s_none _) (s_chain_loop n false x)
      s_chain_loop (suc n) last_was_ptr (array k ∷ x) = both (s_emit_array last_was_ptr (no_mods x)) (s_none _)
      s_chain_loop (suc n) last_was_ptr (proto ps ∷ x) = both (s_none _) (both (s_emit_proto last_was_ptr (no_mods x)) (s_param_list ps))
      s_chain_loop (suc n) last_was_ptr (tag a name ∷ x) = both (s_none _) (both (s_none _) (s_chain_loop n false (no_mods x)))

    module _ (id : ℕ) where
      s_emit_members : (tail : ℕ → List Pad) (lvl : ℕ) (packed : Bool) (i offset : ℕ) (ms : List Member) → S 0 (emit_members (apart B) B d id tail lvl packed i offset ms)
      unfolding emit_members
      s_emit_members tail lvl packed i offset [] = s_none _
      s_emit_members tail lvl packed i offset (m ∷ ms) =
          both (s_given (bit_padding B offset m packed) (λ ps. s_none _))
          (both (s_none _) (both (s_none _) (both (hd m.type_id m.name lvl) (both (s_none _)
          (s_given (end_of B m) (λ end. both (s_none _) (both (s_none _) (s_emit_members tail lvl packed (i + 1) end ms))))))))

      s_composite_head : (is_struct : Bool) (name : Name) → S 0 (composite_head (apart B) B d id is_struct name)
      unfolding composite_head
      s_composite_head is_struct name =
          s_type tag_space id name (λ n. both (s_none _) (both (s_none _) (s_none _))) (λ e n. second (s_none _) (second (s_none _) (s_put 1 (ascii " {") (omega arith))))

      s_composite_end : (lvl : ℕ) (ms : List Member) (packed : Bool) → S 0 (composite_end (apart B) B d id lvl ms packed)
      unfolding composite_end
      s_composite_end lvl ms packed = both (s_none _) (both (s_none _) (both (s_none _) (both (s_none _) (s_none _))))

      s_composite_body : (is_struct : Bool) (name : Name) (sz : ℕ) (ms : List Member) (lvl : ℕ) (packed : Bool) → S 0 (composite_body (apart B) B d id is_struct name sz ms lvl packed)
      unfolding composite_body
      s_composite_body is_struct name sz ms lvl packed = both (s_composite_head is_struct name) (both (s_emit_members (tail_pads B.placing B.ptr_sz is_struct sz) (deeper lvl) packed 0 0 ms) (s_composite_end lvl ms packed))

      s_composite_def : (is_struct : Bool) (name : Name) (sz : ℕ) (ms : List Member) (lvl : ℕ) → S 0 (composite_def (apart B) B d id is_struct name sz ms lvl)
      unfolding composite_def
      s_composite_def is_struct name sz ms lvl = s_if (builtin name) (s_none []) (s_given (body_packed B is_struct sz ms) (λ packed. s_composite_body is_struct name sz ms lvl packed))

  mutual
    unfolding emit_type_decl emit_type_chain emit_composite_def

    s_emit_type_decl : (left id : ℕ) (fname : Name) (lvl : ℕ) → S 0 (emit_type_decl (apart B) B left id fname lvl)
    s_emit_type_decl zero id fname lvl = s_stop 0 12
    s_emit_type_decl (suc left) id fname lvl = s_given (chain_of 512 B id []) (λ c. s_emit_type_chain left c fname lvl)

    s_emit_type_chain : (left : ℕ) (c : List Entry) (fname : Name) (lvl : ℕ) → S 0 (emit_type_chain (apart B) B left c fname lvl)
    s_emit_type_chain zero c fname lvl = s_stop 0 12
    s_emit_type_chain (suc left) c fname lvl =
        s_chain_loop (λ id n l. s_emit_type_decl left id n l) (λ x n l. s_emit_type_chain left x n l) (λ id s n z ms l. s_emit_composite_def left id s n z ms l) fname lvl (length c) true c

    s_emit_composite_def : (left id : ℕ) (is_struct : Bool) (name : Name) (sz : ℕ) (ms : List Member) (lvl : ℕ) → S 0 (emit_composite_def (apart B) B left id is_struct name sz ms lvl)
    s_emit_composite_def zero id is_struct name sz ms lvl = s_stop 0 12
    s_emit_composite_def (suc left) id is_struct name sz ms lvl = s_composite_def (λ t n l. s_emit_type_decl left t n l) id is_struct name sz ms lvl

  s_emit_typedef_def : (id : ℕ) (name : Name) (t : ℕ) → S 0 (emit_typedef_def (apart B) B id name t)
  unfolding emit_typedef_def
  s_emit_typedef_def id name t =
      both (s_type ident_space id name (λ n. both (s_none _) (s_emit_type_decl 512 t n 0)) (λ e n. first (s_put 1 (ascii "typedef ") (omega arith)) (s_emit_type_decl 512 t (spelled name n) 0))) (s_none _)

  pub s_definition : (id : ℕ) (t : BtfType) → S 0 (definition (apart B) B id t)
  unfolding definition
  s_definition id Void = s_none _
  s_definition id (Int n b) = s_none _
  s_definition id (Ptr t) = s_none _
  s_definition id (Array t k) = s_none _
  s_definition id (Composite s n z ms) = both (s_emit_composite_def 512 id s n z ms 0) (s_none _)
  s_definition id (Enum s n z vs) = both (s_emit_enum_def (enum_value s) id n vs 0) (s_none _)
  s_definition id (Enum64 s n z vs) = both (s_emit_enum_def (enum64_value s) id n vs 0) (s_none _)
  s_definition id (Fwd u n) = both (s_emit_fwd_def id u n) (s_none _)
  s_definition id (Typedef n t) = s_none _
  s_definition id (Mod q t) = s_none _
  s_definition id (Func n) = s_none _
  s_definition id (Var n) = s_none _
  s_definition id (Datasec n) = s_none _
  s_definition id (FuncProto r ps) = s_none _
  s_definition id (Float n z) = s_none _
  s_definition id (DeclTag a n t k) = s_none _
  s_definition id (TypeTag a n t) = s_none _

  s_shown : {w : Writer Apart} → (name : Name) → S 0 w → S 0 (shown (apart B) B name w)
  unfolding shown
  s_shown name h = s_if (builtin name) (s_none []) (both h (s_none _))

  pub s_forward : (id : ℕ) (t : BtfType) → S 0 (forward (apart B) B id t)
  unfolding forward
  s_forward id Void = s_none _
  s_forward id (Int n b) = s_none _
  s_forward id (Ptr t) = s_none _
  s_forward id (Array t k) = s_none _
  s_forward id (Composite s n z ms) = s_shown n (s_emit_composite_fwd id s n)
  s_forward id (Enum s n z vs) = s_none _
  s_forward id (Enum64 s n z vs) = s_none _
  s_forward id (Fwd u n) = s_none _
  s_forward id (Typedef n t) = s_shown n (s_emit_typedef_def id n t)
  s_forward id (Mod q t) = s_none _
  s_forward id (Func n) = s_none _
  s_forward id (Var n) = s_none _
  s_forward id (Datasec n) = s_none _
  s_forward id (FuncProto r ps) = s_none _
  s_forward id (Float n z) = s_none _
  s_forward id (DeclTag a n t k) = s_none _
  s_forward id (TypeTag a n t) = s_none _
