-- The lines of the rules, from a state in which nothing was asked: each asks first for its own name, and then only for what may be asked.
use Prim.Native.Nat.{ℕ, ◌<◌}
use mathlib.Core.Path.{◌≡◌, refl, sym, ◌∙◌, ap, subst}
use mathlib.Core.Bool.{Bool, true, false, not, true≢false}
use mathlib.Core.List.Memᴰ
use mathlib.Core.List.{List, [], ◌∷◌, ◌++◌, append_assoc, Memᴰ}
use mathlib.Core.Logic.{◌⊎◌, inl, inr}
use Rattle.spec_bytes.specs.text.Text.{whole, cut, join}
use Rattle.spec_c_dumper.specs.rules.Order.{Node, ignored, plain, listed, through, ptr, tdef, proto, comp, is_comp}
use Rattle.spec_c_dumper.specs.rules.Writer.{Ask, got, no, Said, said, said_names, Writer, after, next, ◌⨾◌, put, stop, given}
use Rattle.spec_c_dumper.specs.rules.Types.{Name, is_empty, Member, Enumerator, BtfType, Void, Int, Ptr, Array, Composite, Enum, Enum64, Fwd, Typedef, Mod, Func, Var, Datasec, FuncProto, Float, DeclTag, TypeTag, Btf, member_types, node_of, name_of}
use Rattle.spec_c_dumper.specs.rules.Names.{Space, tag_space, ident_space, Naming, resolving, spelled, resolve_type_name, builtin}
use Rattle.spec_c_dumper.specs.rules.Placing.{body_packed, tail_pads}
use Rattle.spec_c_dumper.specs.rules.Decl.{deeper, enum_value, enum64_value, emit_composite_fwd, emit_fwd_def, emit_enum_def, composite_head, composite_body, composite_def, emit_type_decl, emit_composite_def, emit_typedef_def}
use Rattle.spec_c_dumper.specs.rules.Emit.{definition, shown, forward}
use Rattle.spec_c_dumper.specs.needs.Needs.{kids}
use Rattle.spec_c_dumper.proofs.rules.Held.{resolved}
use Rattle.spec_c_dumper.proofs.needs.Splits.{nil_not}
use Rattle.spec_declared_first.specs.Notes.{Mention, Asked, noting, Note}
use Rattle.spec_declared_first.specs.Declared.{NoBuiltin, Key, key_of, keys_of, name_in, own_name, Declares, Above}
use Rattle.spec_declared_first.proofs.Kept.{Keeping}
use Rattle.spec_declared_first.proofs.Reach.{is_leaf}
use Rattle.spec_declared_first.proofs.Writers.{Keeps, k_put, k_then, Open, members_open, k_enum_body, k_emit_members, k_composite_end, k_emit_type_decl}

abbrev pub is_tdef : Node → Bool
is_tdef ignored = false
is_tdef plain = false
is_tdef (listed f) = false
is_tdef (through a t) = false
is_tdef (ptr t) = false
is_tdef (tdef t) = true
is_tdef (proto ts) = false
is_tdef (comp ts) = false

-- some note is of type w
abbrev pub HasNote : List Note → ℕ → Type 0
HasNote notes w = (q : Note) × Memᴰ q notes × (q.id ≡ w)

pub keys_one : (l : List Mention) (k : Key) → keys_of l ≡ k ∷ [] → (m : Mention) × (l ≡ m ∷ []) × (key_of m ≡ k)
keys_one [] k e = absurd (nil_not [] [] k e)
keys_one (m ∷ []) k e = (m, refl, cc)
keys_one (m ∷ m' ∷ l) k e = let z : [] ≡ key_of m' ∷ keys_of l = cc in absurd (nil_not [] (keys_of l) (key_of m') z)

module _ {U : Type 0} (B : Btf) (Holds : U → ℕ → ℕ → Type 0) where
  -- m is spelled as the names now have it
  abbrev pub Spelt : U → Mention → Type 0
  Spelt u m = (v : ℕ) × Holds u m.id v × (m.name ≡ spelled (name_of (B.type_by_id m.id)) v)

  -- what is declared is spelled so
  abbrev pub Held : List Note → U → Type 0
  Held notes u = (q : Note) (m : Mention) → Memᴰ q notes → Declares B q m → Spelt u m

-- a note of a type with a name declares it
abbrev pub Owned : Btf → List Note → Type 0
Owned B notes = (q : Note) → Memᴰ q notes → (k : Key) → own_name q.id (B.type_by_id q.id) ≡ k ∷ [] → (m : Mention) × Declares B q m

-- A line of type x after these notes; in a body (Q) x itself may be used.
module _ {U : Type 0} (N : Naming U) (B : Btf) (nb : NoBuiltin B) (Sound : U → Type 0) (Holds : U → ℕ → ℕ → Type 0) (keep : Keeping N B.type_cnt Sound Holds)
    (notes : List Note) (owned : Owned B notes) (x : ℕ) (below : x < B.type_cnt) (Q : Type 0) where
  -- what may be asked for
  abbrev pub May : Space → ℕ → Name → Type 0
  May space id name = (own_name id (B.type_by_id id) ≡ record { space = space; id = id } ∷ []) × (name ≡ name_of (B.type_by_id id)) × (id < B.type_cnt) × (HasNote notes id ⊎ ((id ≡ x) × Q))

  -- while the line is written
  pub record Going (a : Asked U) : Type 0 where
    pub sound : Sound a.names
    pub held : Held B Holds notes a.names
    pub own : List Mention
    pub uses : List Mention
    pub mine : (m : Mention) → own ≡ m ∷ [] → Spelt B Holds a.names m
    pub mentions : a.mentions ≡ own ++ uses
    pub is_own : keys_of own ≡ own_name x (B.type_by_id x)
    pub each : (m : Mention) → Memᴰ m uses → Above B notes m ⊎ ((own ≡ m ∷ []) × Q)

  -- before it
  pub record Before (a : Asked U) : Type 0 where
    pub sound : Sound a.names
    pub held : Held B Holds notes a.names
    pub nil : a.mentions ≡ []

  -- asked again, a name is spelled as before
  same_mention : (m : Mention) (space : Space) (id : ℕ) (name : Name) (u : U) → key_of m ≡ record { space = space; id = id } → Spelt B Holds u m → name ≡ name_of (B.type_by_id id)
      → m ≡ record { space = space; id = id; name = spelled name (N.type_version space id name u).version }
  same_mention m space id name u k h e = λ i. record { space = ap (λ (j : Key). j.space) k i; id = ki i; name = kn i }
    where
      ki : m.id ≡ id
      ki = ap (λ (j : Key). j.id) k

      version : (N.type_version space id name u).version ≡ h.0
      version = keep.gives space id name u h.0 (subst (λ (j : ℕ). Holds u j h.0) ki h.1)

      kn : m.name ≡ spelled name (N.type_version space id name u).version
      kn = h.2 ∙ ap (λ (j : ℕ). spelled (name_of (B.type_by_id j)) h.0) ki ∙ ap (λ (j : Name). spelled j h.0) (sym e) ∙ ap (spelled name) (sym version)

  spelt_type : (space : Space) (id : ℕ) (name : Name) (u : U) (m : Mention) → Spelt B Holds u m → Spelt B Holds (N.type_version space id name u).names m
  spelt_type space id name u m h = (h.0, keep.keeps_type space id name u m.id h.0 h.1, h.2)

  pub asks_ok : (space : Space) (id : ℕ) (name : Name) (u : Asked U) → May space id name → Going u → Going ((noting N).type_version space id name u).names
  asks_ok space id name u p g = record {
    sound = keep.sound_type space id name u.names g.sound;
    held = λ q k i d. spelt_type space id name u.names k (g.held q k i d);
    own = g.own;
    uses = g.uses ++ (m ∷ []);
    mine = λ k e. spelt_type space id name u.names k (g.mine k e);
    mentions = ap (λ (l : List Mention). l ++ (m ∷ [])) g.mentions ∙ append_assoc g.own g.uses (m ∷ []);
    is_own = g.is_own;
    each = λ k i. go k (Memᴰ.append_cases g.uses i);
  }
    where
      m : Mention
      m = record { space = space; id = id; name = spelled name (N.type_version space id name u.names).version }

      now : HasNote notes id ⊎ ((id ≡ x) × Q) → Above B notes m ⊎ ((g.own ≡ m ∷ []) × Q)
      now (inl h) = inl (record { piece = h.0; is_before = h.1; declares = subst (Declares B h.0) same o.1 })
        where
          its : own_name h.0.id (B.type_by_id h.0.id) ≡ record { space = space; id = id } ∷ []
          its = ap (λ (k : ℕ). own_name k (B.type_by_id k)) h.2 ∙ p.0

          o : (k : Mention) × Declares B h.0 k
          o = owned h.0 h.1 (record { space = space; id = id }) its

          key : key_of o.0 ≡ record { space = space; id = id }
          key = let e : key_of o.0 ∷ [] ≡ record { space = space; id = id } ∷ [] = sym o.1.is_own ∙ its in cc

          same : o.0 ≡ m
          same = same_mention o.0 space id name u.names key (g.held h.0 o.0 h.1 o.1) p.1
      now (inr h) = inr (o.1 ∙ ap (λ (k : Mention). k ∷ []) (same_mention o.0 space id name u.names o.2 (g.mine o.0 o.1) p.1), h.1)
        where
          o : (k : Mention) × (g.own ≡ k ∷ []) × (key_of k ≡ record { space = space; id = id })
          o = keys_one g.own (record { space = space; id = id }) (g.is_own ∙ ap (λ (k : ℕ). own_name k (B.type_by_id k)) (sym h.0) ∙ p.0)

      go : (k : Mention) → Memᴰ k g.uses ⊎ Memᴰ k (m ∷ []) → Above B notes k ⊎ ((g.own ≡ k ∷ []) × Q)
      go k (inl i) = g.each k i
      go k (inr i) = subst (λ (j : Mention). Above B notes j ⊎ ((g.own ≡ j ∷ []) × Q)) (sym (Memᴰ.eq_of_singleton i)) (now p.3)

  pub counts_ok : (id i : ℕ) (name : Name) (u : Asked U) → Going u → Going ((noting N).value_version id i name u).names
  counts_ok id i name u g = record {
    sound = keep.sound_value id i name u.names g.sound;
    held = λ q k j d. spelt k (g.held q k j d);
    own = g.own;
    uses = g.uses;
    mine = λ k e. spelt k (g.mine k e);
    mentions = g.mentions;
    is_own = g.is_own;
    each = g.each;
  }
    where
      spelt : (m : Mention) → Spelt B Holds u.names m → Spelt B Holds (N.value_version id i name u.names).names m
      spelt m h = (h.0, keep.keeps_value id i name u.names m.id h.0 h.1, h.2)

  -- a type without a name
  begun_none : (a : Asked U) → Before a → own_name x (B.type_by_id x) ≡ [] → Going a
  begun_none a h e = record {
    sound = h.sound;
    held = h.held;
    own = [];
    uses = [];
    mine = λ m q. absurd (nil_not [] [] m q);
    mentions = h.nil;
    is_own = sym e;
    each = λ m i. absurd (Memᴰ.not-nil i);
  }

  -- the own name first
  begun_one : (space : Space) (name : Name) (a : Asked U) → Before a → own_name x (B.type_by_id x) ≡ record { space = space; id = x } ∷ [] → name ≡ name_of (B.type_by_id x) → Going ((noting N).type_version space x name a).names
  begun_one space name a h e n = record {
    sound = keep.sound_type space x name a.names h.sound;
    held = λ q k i d. spelt_type space x name a.names k (h.held q k i d);
    own = m ∷ [];
    uses = [];
    mine = λ k q. let r : m ≡ k = cc in subst (Spelt B Holds (N.type_version space x name a.names).names) r
        ((N.type_version space x name a.names).version, keep.takes space x name a.names h.sound below, ap (λ (j : Name). spelled j (N.type_version space x name a.names).version) n);
    mentions = ap (λ (l : List Mention). l ++ (m ∷ [])) h.nil;
    is_own = sym e;
    each = λ k i. absurd (Memᴰ.not-nil i);
  }
    where
      m : Mention
      m = record { space = space; id = x; name = spelled name (N.type_version space x name a.names).version }

  abbrev Kept : Writer (Asked U) → Type 0
  Kept w = Keeps N May Going asks_ok counts_ok w

  -- a whole text
  abbrev pub Right : Said (Asked U) → Type 0
  Right (said u (whole a) m) = Going u
  Right (said u (cut a c) m) = Unit {0}

  pub record Starts (w : Writer (Asked U)) : Type 0 where
    pub starts : (u : Asked U) → Before u → Right (w u)

  right_of : (s : Said (Asked U)) → Going (said_names s) → Right s
  unfolding said_names
  right_of (said u (whole a) m) h = h
  right_of (said u (cut a c) m) h = tt

  right_after : (a : List ℕ) (k : List (Asked U)) (s : Said (Asked U)) → Going (said_names s) → Right (after a k s)
  unfolding after said_names join
  right_after a k (said u (whole b) m) h = h
  right_after a k (said u (cut b c) m) h = tt

  right_next : (s : Said (Asked U)) (w : Writer (Asked U)) → Right s → Kept w → Right (next s w)
  unfolding next
  right_next (said u (whole a) m) w h k = right_after a m (w u) (k.keeps u h)
  right_next (said u (cut a c) m) w h k = tt

  s_then : {v w : Writer (Asked U)} → Starts v → Kept w → Starts (v ⨾ w)
  unfolding ◌⨾◌
  s_then {v} {w} hv hw = record { starts = λ u e. right_next (v u) w (hv.starts u e) hw }

  -- the own name first
  s_type : {k : Name → Writer (Asked U)} → (space : Space) (name : Name) → own_name x (B.type_by_id x) ≡ name_in space x name → name ≡ name_of (B.type_by_id x) → ((n : Name) → Kept (k n)) → Starts (resolve_type_name (noting N) space x name k)
  unfolding resolve_type_name stop
  s_type {k} space name own is h = go (is_empty name) refl
    where
      own_is : (b : Bool) → is_empty name ≡ b → own_name x (B.type_by_id x) ≡ (elim b as (λ (t : Bool). List Key) [ true ↦ [] | false ↦ record { space = space; id = x } ∷ [] ])
      own_is b e = own ∙ ap (λ (t : Bool). elim t as (λ (j : Bool). List Key) [ true ↦ [] | false ↦ record { space = space; id = x } ∷ [] ]) e

      go : (b : Bool) → is_empty name ≡ b → Starts (elim b [ true ↦ k name | false ↦ resolving ((noting N).type_version space x name) (λ v. k (spelled name v)) ])
      go true e = record { starts = λ u q. right_of (k name u) ((h name).keeps u (begun_none u q (own_is true e))) }
      go false e = record {
        starts = λ u q.
            resolved Right ((noting N).type_version space x name) (λ v. k (spelled name v)) u (λ o. tt)
            (λ o. right_of _ ((h (spelled name ((noting N).type_version space x name u).version)).keeps ((noting N).type_version space x name u).names (begun_one space name u q (own_is false e) is)));
      }

  -- no name is the builtin one
  s_unless : {w : Writer (Asked U)} → (name : Name) → builtin name ≡ false → Starts w → Starts (elim (builtin name) [ true ↦ put [] | false ↦ w ])
  s_unless {w} name e h = subst (λ (t : Bool). Starts (elim t [ true ↦ put [] | false ↦ w ])) (sym e) h

  s_given : {A : Type 0} {k : A → Writer (Asked U)} → (q : Ask A) → ((a : A) → Starts (k a)) → Starts (given q k)
  unfolding given stop
  s_given (got a) h = h a
  s_given (no c) h = record { starts = λ u e. tt }

  kp : (a : List ℕ) → Kept (put a)
  kp a = k_put N May Going asks_ok counts_ok a

  kt : {v w : Writer (Asked U)} → Kept v → Kept w → Kept (v ⨾ w)
  kt hv hw = k_then N May Going asks_ok counts_ok hv hw

  s_composite_fwd : (is_struct : Bool) (name : Name) → builtin name ≡ false → own_name x (B.type_by_id x) ≡ name_in tag_space x name → name ≡ name_of (B.type_by_id x) → Starts (emit_composite_fwd (noting N) B x is_struct name)
  unfolding emit_composite_fwd
  s_composite_fwd is_struct name e own is = s_unless name e (s_type tag_space name own is (λ n. kt (kp _) (kt (kp _) (kp n))))

  s_enum_def : (str : ℕ → List ℕ) (name : Name) (vs : List Enumerator) → builtin name ≡ false → own_name x (B.type_by_id x) ≡ name_in tag_space x name → name ≡ name_of (B.type_by_id x) → Starts (emit_enum_def (noting N) B str x name vs 0)
  unfolding emit_enum_def
  s_enum_def str name vs e own is = s_unless name e (s_then (s_type tag_space name own is (λ n. kt (kp _) (kp _))) (k_enum_body N May Going asks_ok counts_ok B str x 0 vs))

  fine : (t : BtfType) → B.type_by_id x ≡ t → builtin (name_of t) ≡ false
  fine t e = ap (λ (k : BtfType). builtin (name_of k)) (sym e) ∙ nb x

  -- a forward line
  pub forward_composite : (t : BtfType) → B.type_by_id x ≡ t → is_comp (node_of t) ≡ true → Starts (forward (noting N) B x t)
  unfolding forward shown
  forward_composite Void e c = absurd (true≢false (sym c))
  forward_composite (Int n b) e c = absurd (true≢false (sym c))
  forward_composite (Ptr t) e c = absurd (true≢false (sym c))
  forward_composite (Array t k) e c = absurd (true≢false (sym c))
  forward_composite (Composite s n z ms) e c = s_unless n (fine (Composite s n z ms) e) (s_then (s_composite_fwd s n (fine (Composite s n z ms) e) (ap (own_name x) e) (ap name_of (sym e))) (kp _))
  forward_composite (Enum s n z vs) e c = absurd (true≢false (sym c))
  forward_composite (Enum64 s n z vs) e c = absurd (true≢false (sym c))
  forward_composite (Fwd u n) e c = absurd (true≢false (sym c))
  forward_composite (Typedef n t) e c = absurd (true≢false (sym c))
  forward_composite (Mod q t) e c = absurd (true≢false (sym c))
  forward_composite (Func n) e c = absurd (true≢false (sym c))
  forward_composite (Var n) e c = absurd (true≢false (sym c))
  forward_composite (Datasec n) e c = absurd (true≢false (sym c))
  forward_composite (FuncProto r ps) e c = absurd (true≢false (sym c))
  forward_composite (Float n z) e c = absurd (true≢false (sym c))
  forward_composite (DeclTag a n t k) e c = absurd (true≢false (sym c))
  forward_composite (TypeTag a n t) e c = absurd (true≢false (sym c))

  -- a typedef
  pub forward_typedef : (t : BtfType) → B.type_by_id x ≡ t → is_tdef (node_of t) ≡ true → ((y : ℕ) → Memᴰ y (kids (node_of t)) → Open N May Going asks_ok counts_ok B y) → Starts (forward (noting N) B x t)
  unfolding forward shown emit_typedef_def
  forward_typedef Void e c h = absurd (true≢false (sym c))
  forward_typedef (Int n b) e c h = absurd (true≢false (sym c))
  forward_typedef (Ptr t) e c h = absurd (true≢false (sym c))
  forward_typedef (Array t k) e c h = absurd (true≢false (sym c))
  forward_typedef (Composite s n z ms) e c h = absurd (true≢false (sym c))
  forward_typedef (Enum s n z vs) e c h = absurd (true≢false (sym c))
  forward_typedef (Enum64 s n z vs) e c h = absurd (true≢false (sym c))
  forward_typedef (Fwd u n) e c h = absurd (true≢false (sym c))
  forward_typedef (Typedef n t) e c h =
      s_unless n (fine (Typedef n t) e) (s_then (s_then (s_type ident_space n (ap (own_name x) e) (ap name_of (sym e)) (λ m. kt (kp _) (k_emit_type_decl N May Going asks_ok counts_ok B 512 t m 0 (h t (Memᴰ.head refl))))) (kp _)) (kp _))
  forward_typedef (Mod q t) e c h = absurd (true≢false (sym c))
  forward_typedef (Func n) e c h = absurd (true≢false (sym c))
  forward_typedef (Var n) e c h = absurd (true≢false (sym c))
  forward_typedef (Datasec n) e c h = absurd (true≢false (sym c))
  forward_typedef (FuncProto r ps) e c h = absurd (true≢false (sym c))
  forward_typedef (Float n z) e c h = absurd (true≢false (sym c))
  forward_typedef (DeclTag a n t k) e c h = absurd (true≢false (sym c))
  forward_typedef (TypeTag a n t) e c h = absurd (true≢false (sym c))

  -- an enum or a FWD
  pub definition_leaf : (t : BtfType) → B.type_by_id x ≡ t → is_leaf (node_of t) ≡ true → Starts (definition (noting N) B x t)
  unfolding definition emit_fwd_def
  definition_leaf Void e c = absurd (true≢false (sym c))
  definition_leaf (Int n b) e c = absurd (true≢false (sym c))
  definition_leaf (Ptr t) e c = absurd (true≢false (sym c))
  definition_leaf (Array t k) e c = absurd (true≢false (sym c))
  definition_leaf (Composite s n z ms) e c = absurd (true≢false (sym c))
  definition_leaf (Enum s n z vs) e c = s_then (s_enum_def (enum_value s) n vs (fine (Enum s n z vs) e) (ap (own_name x) e) (ap name_of (sym e))) (kp _)
  definition_leaf (Enum64 s n z vs) e c = s_then (s_enum_def (enum64_value s) n vs (fine (Enum64 s n z vs) e) (ap (own_name x) e) (ap name_of (sym e))) (kp _)
  definition_leaf (Fwd u n) e c = s_then (s_composite_fwd (not u) n (fine (Fwd u n) e) (ap (own_name x) e) (ap name_of (sym e))) (kp _)
  definition_leaf (Typedef n t) e c = absurd (true≢false (sym c))
  definition_leaf (Mod q t) e c = absurd (true≢false (sym c))
  definition_leaf (Func n) e c = absurd (true≢false (sym c))
  definition_leaf (Var n) e c = absurd (true≢false (sym c))
  definition_leaf (Datasec n) e c = absurd (true≢false (sym c))
  definition_leaf (FuncProto r ps) e c = absurd (true≢false (sym c))
  definition_leaf (Float n z) e c = absurd (true≢false (sym c))
  definition_leaf (DeclTag a n t k) e c = absurd (true≢false (sym c))
  definition_leaf (TypeTag a n t) e c = absurd (true≢false (sym c))

  -- a composite's body
  s_composite_def : (is_struct : Bool) (name : Name) (sz : ℕ) (ms : List Member) → builtin name ≡ false → own_name x (B.type_by_id x) ≡ name_in tag_space x name → name ≡ name_of (B.type_by_id x) → ((y : ℕ) → Memᴰ y (member_types ms) → Open N May Going asks_ok counts_ok B y)
      → Starts (emit_composite_def (noting N) B 512 x is_struct name sz ms 0)
  unfolding emit_composite_def composite_def composite_body composite_head
  s_composite_def is_struct name sz ms e own is h =
      s_unless name e (s_given (body_packed B is_struct sz ms) (λ packed.
      s_then (s_type tag_space name own is (λ n. kt (kp _) (kt (kp _) (kp _))))
      (kt (k_emit_members N May Going asks_ok counts_ok B {d = λ t n l. emit_type_decl (noting N) B 511 t n l} (λ t n l k. k_emit_type_decl N May Going asks_ok counts_ok B 511 t n l k) x (tail_pads B.placing B.ptr_sz is_struct sz) (deeper 0) packed 0 0 ms (members_open N May Going asks_ok counts_ok B ms h))
      (k_composite_end N May Going asks_ok counts_ok B {d = λ t n l. emit_type_decl (noting N) B 511 t n l} (λ t n l k. k_emit_type_decl N May Going asks_ok counts_ok B 511 t n l k) x 0 ms packed))))

  pub definition_composite : (t : BtfType) → B.type_by_id x ≡ t → is_comp (node_of t) ≡ true → ((y : ℕ) → Memᴰ y (kids (node_of t)) → Open N May Going asks_ok counts_ok B y) → Starts (definition (noting N) B x t)
  unfolding definition
  definition_composite Void e c h = absurd (true≢false (sym c))
  definition_composite (Int n b) e c h = absurd (true≢false (sym c))
  definition_composite (Ptr t) e c h = absurd (true≢false (sym c))
  definition_composite (Array t k) e c h = absurd (true≢false (sym c))
  definition_composite (Composite s n z ms) e c h = s_then (s_composite_def s n z ms (fine (Composite s n z ms) e) (ap (own_name x) e) (ap name_of (sym e)) h) (kp _)
  definition_composite (Enum s n z vs) e c h = absurd (true≢false (sym c))
  definition_composite (Enum64 s n z vs) e c h = absurd (true≢false (sym c))
  definition_composite (Fwd u n) e c h = absurd (true≢false (sym c))
  definition_composite (Typedef n t) e c h = absurd (true≢false (sym c))
  definition_composite (Mod q t) e c h = absurd (true≢false (sym c))
  definition_composite (Func n) e c h = absurd (true≢false (sym c))
  definition_composite (Var n) e c h = absurd (true≢false (sym c))
  definition_composite (Datasec n) e c h = absurd (true≢false (sym c))
  definition_composite (FuncProto r ps) e c h = absurd (true≢false (sym c))
  definition_composite (Float n z) e c h = absurd (true≢false (sym c))
  definition_composite (DeclTag a n t k) e c h = absurd (true≢false (sym c))
  definition_composite (TypeTag a n t) e c h = absurd (true≢false (sym c))
