-- What each return of emit_based, emit_entry, emit_function and emit_base comes to. Assumes nothing.
use Prim.Native.Nat.{ℕ, ◌-◌, ◌<◌, ◌≤◌}
use mathlib.Core.Path.{◌≡◌, refl, ap, ◌∙◌, sym}
use mathlib.Core.Bool.{Bool, true, false, not}
use mathlib.Core.List.{List, [], ◌∷◌}
use native.Mathlib.Omega.{arith}
use lib.Dec.{eqb}
use Rattle.spec_bytes.specs.text.Text.{ascii, whole}
use Rattle.spec_bytes.specs.text.Placed.{Placed, put_out, put_text}
use Rattle.spec_bytes.proofs.text.TextLaws.{put_seq}
use Rattle.spec_c_dumper.specs.rules.Writer.{Writer, put, nothing, ◌⨾◌}
use Rattle.spec_c_dumper.specs.rules.Types as R
use Rattle.spec_c_dumper.specs.rules.Types.{Name, is_empty, Member, BtfType, Btf as Rules}
use Rattle.spec_c_dumper.specs.rules.Names.{ident_space, resolve_type_name}
use Rattle.spec_c_dumper.specs.rules.Decl.{Entry, base, star, qual, array, proto, tag, is_array, mods, no_mods, qualifier, attribute, brackets, shown_params, parens, emit_name, emit_composite_fwd, base_word, emit_array, emit_proto, param_list, emit_fwd_def}
use Rattle.spec_c_dumper.specs.alignment_once.Writers.{emit_type_chain_once, emit_composite_def_once}
use Rattle.spec_c_dumper.specs.rules.Place.{out_of, put_said}
use Rattle.spec_c_dumper.proofs.rules.Writing.{put_only, put_nothing, put_then, said_ended, said_alike}
use Rattle.spec_type_table.specs.declared.types.TypeTable.{TypeTable}
use Rattle.spec_type_table.specs.declared.types.BtfType.{BtfType as Record}
use Rattle.spec_type_table.specs.Records.{kind_of, flag_of, record_by_id, entries_of}
use Rattle.spec_type_table.specs.Table.{from, param_of, params_of, record_name, nelems_word, members_of, type_of, btf_of}
use Rattle.c_dumper_name_versions.specs.names.Spelling.{name_after}
use Rattle.c_dumper_bodies.specs.chain.Chains.{is_qualifier, qualifier_of, entry_of, path_at, chain_at, kind_at, skipped, mods_down, only_links}
use Rattle.c_dumper_bodies.proofs.chain.Only.{links_below, links_mods, links_tag}
use Rattle.c_dumper_bodies.proofs.chain.Paths.{chain_top, no_mods_skipped, put_mods}
use Rattle.c_dumper_bodies.proofs.chain.Linked.{array_on, array_off, entry_star_lem, entry_array, entry_proto, entry_tag, entry_qual}
use Rattle.std.specs.Prelude.{Some, None, Ok, Err, IsErrAnd}
use Rattle.spec_bytes.specs.declared.refusal.Refusal.{Refusal}
use Rattle.c_dumper_declarator.specs.declared.declarations.Rest.{Rest}
use Rattle.c_dumper_declarator.specs.declared.declarations.Stand.{Stand}
use Rattle.c_dumper_bodies.specs.bodies.Pieces.{entry_left, entry_star, entry_named, gap, star_text, word_below, params_below, array_below, proto_below, param_list_below, entry_text, chain_rest, enum_text}
use Rattle.c_dumper_declarator.proofs.declarations.Turns.{chain_turn, chain_done, chain_some, word_any}
use Rattle.c_dumper_bodies.proofs.bodies.BodyLaws.{also}
use Rattle.c_dumper_declarator.proofs.declarations.Kept.{seen, links_kept, then_on}
use Rattle.c_dumper_declarator.proofs.declarations.Keeping.{said_as, put_emit_name, N, Q, T, kept_chain, kept_word, kept_array, kept_entry, kept_proto}
use Rattle.c_dumper_bodies.specs.enums.Widths.{is_wide, value_text, enum_values}
use Rattle.c_dumper_bodies.proofs.enums.Numbers.{of_enum, of_enum64}
use mathlib.Core.Logic.{◌⊎◌, inl, inr}
use Rattle.spec_type_table.specs.declared.types.Entries.{Entries}
use Rattle.spec_type_table.specs.declared.kind.Kind.{Kind}
use Rattle.spec_type_table.specs.declared.kind.Kind.TheVariants.{Void, Int, Ptr, Array, Struct, Union, Enum, Fwd, Typedef, Volatile, Const, Restrict, Func, FuncProto, Var, Datasec, Float, DeclTag, TypeTag, Enum64, Unknown}
use Rattle.spec_type_table.specs.Kinds.{kind_named}
use Rattle.spec_type_table.proofs.KindNames.{is}
use Rattle.spec_type_table.proofs.KindTypes.{type_as, type_is}
use Rattle.c_dumper_declarator.proofs.declarations.DeclLaws.{Printed}

module _ (b : TypeTable) (s : List ℕ) where
  no_mods_lem : (w : List ℕ) (id n m : ℕ) → m ≡ skipped b s w id n → chain_at b s w id m ≡ no_mods (chain_at b s w id n)
  no_mods_lem w id n m e = ap (chain_at b s w id) e ∙ sym (no_mods_skipped b s w id n)

  -- what an array, and a prototype, leave of n entries
  pub links_rest : (w : List ℕ) (id n m : ℕ) → 0 < n → m ≡ skipped b s w id (n - 1) → only_links (chain_at b s w id n) ≡ true → only_links (chain_at b s w id m) ≡ true
  links_rest w id n m h em l =
      ap only_links (no_mods_lem w id (n - 1) m em)
      ∙ links_mods _ (links_below _ _ (ap only_links (sym (chain_top b s w id n (λ z. omega arith))) ∙ l))

  -- and a base, where it has come to a place
  pub links_based : (below id lvl : ℕ) (w : List ℕ) (x : ℕ) (t : Record) (n m : ℕ) → m ≡ skipped b s w id n → (a : Placed) (t₁ : List ℕ) (p : ℕ) (t₂ w₂ : List ℕ)
      → out_of (Ok p) t₂ w₂ ≡ put_said t₁ a (word_below (Q b s (T b s w)) (N b s) (T b s w) below lvl x (type_of b s t)) w
      → only_links (chain_at b s w id n) ≡ true → only_links (chain_at b s w₂ id m) ≡ true
  links_based below id lvl w x t n m em a t₁ p t₂ w₂ o l =
      links_kept b s _ t₁ a w p t₂ w₂ id m (kept_word b s (T b s w) below [] lvl x (type_of b s t)) o (ap only_links (no_mods_lem w id n m em) ∙ links_mods _ l)

  -- ---- emit_based: x is the id of the base, t its record; n entries lead there, and m of them stay
  module _ (left id : ℕ) (fname : Name) (lvl : ℕ) (w txt : List ℕ) (at : Placed) (h : left ≡ 0 → ⊥) (x : ℕ) (t : Record) (et : t ≡ record_by_id b s w x) (n m : ℕ) (em : m ≡ skipped b s w id n)
      (a : Placed) (t₁ : List ℕ) (o₁ : put_out a t₁ ≡ put_text txt at (whole (mods_down b s w id m n))) (p : Placed) (t₂ w₂ : List ℕ)
      (o₂ : out_of p t₂ w₂ ≡ put_said t₁ a (word_below (Q b s (T b s w)) (N b s) (T b s w) (left - 1) lvl x (type_of b s t)) w) where
    base_here : (T b s w).type_by_id x ≡ type_of b s t
    unfolding btf_of
    base_here = ap (type_of b s) (sym et)

    base_put : out_of p t₂ w₂ ≡ put_said txt at (entry_text (Q b s (T b s w)) (N b s) (T b s w) (left - 1) fname lvl true (base x ∷ chain_at b s w id n)) w
    unfolding entry_text
    base_put =
        also txt at _ _ w a t₁ p t₂ w₂ (put_mods b s w id txt at a t₁ m n em o₁)
        (said_as t₁ a _ _ w p t₂ w₂ (ap (word_below (Q b s (T b s w)) (N b s) (T b s w) (left - 1) lvl x) (sym base_here) ∙ sym (word_any (Q b s (T b s w)) (N b s) (T b s w) (left - 1) fname lvl x ((T b s w).type_by_id x))) o₂)

    based_is : emit_type_chain_once (Q b s (T b s w)) (N b s) (T b s w) left (base x ∷ chain_at b s w id n) fname lvl
        ≡ entry_text (Q b s (T b s w)) (N b s) (T b s w) (left - 1) fname lvl true (base x ∷ chain_at b s w id n) ⨾ chain_rest (Q b s (T b s w)) (N b s) (T b s w) (left - 1) fname lvl false false (chain_at b s w id m)
    unfolding entry_named entry_star entry_left
    based_is =
        chain_some (Q b s (T b s w)) (N b s) (T b s w) left (base x ∷ chain_at b s w id n) fname lvl h
        ∙ chain_turn (Q b s (T b s w)) (N b s) (T b s w) (left - 1) fname lvl true (base x) (chain_at b s w id n)
        ∙ ap (λ (c : List Entry). entry_text (Q b s (T b s w)) (N b s) (T b s w) (left - 1) fname lvl true (base x ∷ chain_at b s w id n) ⨾ chain_rest (Q b s (T b s w)) (N b s) (T b s w) (left - 1) fname lvl false false c) (sym (no_mods_lem w id n m em))

    pub based_on : (r : Placed) (t' w' : List ℕ)
        → out_of r t' w' ≡ put_said t₂ p (chain_rest (Q b s (T b s w₂)) (N b s) (T b s w₂) (left - 1) fname lvl false false (chain_at b s w₂ id m)) w₂
        → out_of r t' w' ≡ put_said txt at (emit_type_chain_once (Q b s (T b s w)) (N b s) (T b s w) left (base x ∷ chain_at b s w id n) fname lvl) w
    unfolding seen
    based_on r t' w' o =
        said_as txt at _ _ w r t' w' (sym based_is)
        (then_on b s (λ y. chain_rest (Q b s y.0) (N b s) y.0 (left - 1) fname lvl false false (y.1 id m)) txt at _ w p t₂ w₂ r t' w'
        (kept_entry b s (T b s w) (left - 1) fname lvl true (base x ∷ chain_at b s w id n)) base_put o)

    no_entry : m ≡ 0 → chain_at b s w₂ id m ≡ []
    unfolding chain_at
    no_entry e = rw e

    pub based_name : (r : Placed) (t' : List ℕ) → m ≡ 0 → put_out r t' ≡ put_text t₂ p (whole (name_after fname false))
        → out_of r t' w₂ ≡ put_said txt at (emit_type_chain_once (Q b s (T b s w)) (N b s) (T b s w) left (base x ∷ chain_at b s w id n) fname lvl) w
    based_name r t' e o =
        based_on r t' w₂
        (said_as t₂ p (emit_name fname false) _ w₂ r t' w₂
        (sym (ap (chain_rest (Q b s (T b s w₂)) (N b s) (T b s w₂) (left - 1) fname lvl false false) (no_entry e) ∙ chain_done (Q b s (T b s w₂)) (N b s) (T b s w₂) (left - 1) fname lvl false))
        (put_emit_name t₂ p fname false w₂ r t' o))

  -- ---- emit_entry: c is what is left of the chain, x the id on top, t its record, k its kind
  module _ (below id : ℕ) (fname : Name) (lvl : ℕ) (at : Placed) (c : Rest) (w : List ℕ) (txt : List ℕ) (h : 0 < c.n) (x : ℕ) (ex : x ≡ path_at b s w id (c.n - 1)) (t : Record) (et : t ≡ record_by_id b s w x)
      (k : Kind) (ek : k ≡ kind_named (kind_of t.info)) where
    abbrev below_top : List Entry
    below_top = chain_at b s w id (c.n - 1)

    top : (e : Entry) → entry_of b s w x ≡ e → chain_at b s w id c.n ≡ e ∷ below_top
    top e q =
        chain_top b s w id c.n (λ z. omega arith)
        ∙ ap (λ (y : ℕ). entry_of b s w y ∷ below_top) (sym ex)
        ∙ ap (λ (y : Entry). y ∷ below_top) q

    -- what the entry's writing comes to, by itself
    abbrev Spelled : Placed → List ℕ → List ℕ → Type 0
    Spelled p t' w' = out_of p t' w' ≡ put_said txt at (entry_text (Q b s (T b s w)) (N b s) (T b s w) below fname lvl c.last_was_ptr (chain_at b s w id c.n)) w

    spelled_as : (e : Entry) (p : Placed) (t' w' : List ℕ) → entry_of b s w x ≡ e
        → out_of p t' w' ≡ put_said txt at (entry_text (Q b s (T b s w)) (N b s) (T b s w) below fname lvl c.last_was_ptr (e ∷ below_top)) w → Spelled p t' w'
    spelled_as e p t' w' q o = rw (top e q) o

    entry_goes : (e : Entry) (r : Stand) (p m : ℕ) (t' w' : List ℕ) → entry_of b s w x ≡ e → entry_named (e ∷ below_top) ≡ false
        → r ≡ record { at = p; rest = Some (record { n = m; last_was_ptr = entry_star (e ∷ below_top) }) } → Spelled (Ok p) t' w'
        → chain_at b s w id m ≡ entry_left (e ∷ below_top) → m ≤ c.n - 1 → Printed b s below id fname lvl at c w txt (Ok r) t' w'
    entry_goes e r p m t' w' q f er o l g = rw er (o, rw (top e q) (l, refl, f, g))

    entry_stands : (e : Entry) (r : Stand) (p : ℕ) (t' w' : List ℕ) → entry_of b s w x ≡ e → entry_named (e ∷ below_top) ≡ true → r ≡ record { at = p; rest = None }
        → Spelled (Ok p) t' w' → Printed b s below id fname lvl at c w txt (Ok r) t' w'
    entry_stands e r p t' w' q f er o = rw er (o, rw (top e q) f)

    pub says_star : (p : Placed) (t' : List ℕ) → k ≡ Ptr → put_out p t' ≡ put_text txt at (whole (star_text c.last_was_ptr)) → Spelled p t' w
    unfolding entry_text
    says_star p t' e o = spelled_as star p t' w (entry_star_lem b s w x t et (sym ek ∙ e)) (put_only _ txt at _ w p t' o)

    pub arm_star : (r : Stand) (p : ℕ) (t' : List ℕ) → k ≡ Ptr → put_out (Ok p) t' ≡ put_text txt at (whole (star_text c.last_was_ptr))
        → r ≡ record { at = p; rest = Some (record { n = c.n - 1; last_was_ptr = true }) } → Printed b s below id fname lvl at c w txt (Ok r) t' w
    unfolding entry_star entry_named entry_left
    arm_star r p t' e o er = entry_goes star r p (c.n - 1) t' w (entry_star_lem b s w x t et (sym ek ∙ e)) refl er (says_star (Ok p) t' e o) refl (omega arith)

    pub says_array : (n m : ℕ) (a : Placed) (t₁ w₁ : List ℕ) (p : Placed) (t₂ : List ℕ) → k ≡ Array → n ≡ nelems_word b s t → m ≡ skipped b s w id (c.n - 1)
        → out_of a t₁ w₁ ≡ put_said txt at (array_below (Q b s (T b s w)) (N b s) (T b s w) below fname lvl c.last_was_ptr (chain_at b s w id m)) w
        → put_out p t₂ ≡ put_text t₁ a (whole (brackets n)) → Spelled p t₂ w₁
    unfolding entry_text chain_at
    says_array n m a t₁ w₁ p t₂ e en em o₁ o₂ =
        spelled_as (array (nelems_word b s t)) p t₂ w₁ (entry_array b s w x t et (sym ek ∙ e))
        (put_then _ txt at _ _ w a t₁ w₁ p t₂ w₁ (kept_array b s (T b s w) below fname lvl c.last_was_ptr _ w).1
        (said_as txt at _ _ w a t₁ w₁ (ap (array_below (Q b s (T b s w)) (N b s) (T b s w) below fname lvl c.last_was_ptr) (no_mods_lem w id (c.n - 1) m em)) o₁)
        (put_only _ t₁ a _ w₁ p t₂ (o₂ ∙ ap (put_text t₁ a) (ap whole (ap brackets en)))))

    pub arm_array : (r : Stand) (n m : ℕ) (a : Placed) (t₁ w₁ : List ℕ) (p : ℕ) (t₂ : List ℕ) → k ≡ Array → n ≡ nelems_word b s t → m ≡ skipped b s w id (c.n - 1)
        → out_of a t₁ w₁ ≡ put_said txt at (array_below (Q b s (T b s w)) (N b s) (T b s w) below fname lvl c.last_was_ptr (chain_at b s w id m)) w
        → put_out (Ok p) t₂ ≡ put_text t₁ a (whole (brackets n)) → r ≡ record { at = p; rest = None } → Printed b s below id fname lvl at c w txt (Ok r) t₂ w₁
    unfolding entry_named
    arm_array r n m a t₁ w₁ p t₂ e en em o₁ o₂ er =
        entry_stands (array (nelems_word b s t)) r p t₂ w₁ (entry_array b s w x t et (sym ek ∙ e)) refl er (says_array n m a t₁ w₁ (Ok p) t₂ e en em o₁ o₂)

    qual_is : (k ≡ Volatile) ⊎ ((k ≡ Const) ⊎ (k ≡ Restrict)) → is_qualifier k ≡ true
    qual_is (inl e) = ap is_qualifier e
    qual_is (inr (inl e)) = ap is_qualifier e
    qual_is (inr (inr e)) = ap is_qualifier e

    pub says_qual : (a : Placed) (t₁ : List ℕ) (p : Placed) (t₂ : List ℕ) → (k ≡ Volatile) ⊎ ((k ≡ Const) ⊎ (k ≡ Restrict))
        → put_out a t₁ ≡ put_text txt at (whole (ascii " ")) → put_out p t₂ ≡ put_text t₁ a (whole (qualifier (qualifier_of k))) → Spelled p t₂ w
    unfolding entry_text
    says_qual a t₁ p t₂ g o₁ o₂ =
        spelled_as (qual (qualifier_of (kind_named (kind_of t.info)))) p t₂ w (entry_qual b s w x t et (ap is_qualifier (sym ek) ∙ qual_is g))
        (put_only _ txt at _ w p t₂ (put_seq txt at _ _ a t₁ p t₂ o₁ (o₂ ∙ ap (λ (y : Kind). put_text t₁ a (whole (qualifier (qualifier_of y)))) ek)))

    pub arm_qual : (r : Stand) (a : Placed) (t₁ : List ℕ) (p : ℕ) (t₂ : List ℕ) → (k ≡ Volatile) ⊎ ((k ≡ Const) ⊎ (k ≡ Restrict))
        → put_out a t₁ ≡ put_text txt at (whole (ascii " ")) → put_out (Ok p) t₂ ≡ put_text t₁ a (whole (qualifier (qualifier_of k)))
        → r ≡ record { at = p; rest = Some (record { n = c.n - 1; last_was_ptr = false }) } → Printed b s below id fname lvl at c w txt (Ok r) t₂ w
    unfolding entry_star entry_named entry_left
    arm_qual r a t₁ p t₂ g o₁ o₂ er =
        entry_goes (qual (qualifier_of (kind_named (kind_of t.info)))) r p (c.n - 1) t₂ w (entry_qual b s w x t et (ap is_qualifier (sym ek) ∙ qual_is g)) refl er
        (says_qual a t₁ (Ok p) t₂ g o₁ o₂) refl (omega arith)

    pub says_proto : (p : Placed) (t' w' : List ℕ) → k ≡ FuncProto
        → out_of p t' w' ≡ put_said txt at (put (mods (chain_at b s w id (c.n - 1))) ⨾ proto_below (Q b s (T b s w)) (N b s) (T b s w) below fname lvl c.last_was_ptr (no_mods (chain_at b s w id (c.n - 1))) ⨾ param_list_below (Q b s (T b s w)) (N b s) (T b s w) below fname lvl (params_of b s t)) w
        → Spelled p t' w'
    unfolding entry_text chain_at
    says_proto p t' w' e o = spelled_as (proto (params_of b s t)) p t' w' (entry_proto b s w x t et (sym ek ∙ e)) o

    pub arm_proto : (r : Stand) (p : ℕ) (t' w' : List ℕ) → k ≡ FuncProto
        → out_of (Ok p) t' w' ≡ put_said txt at (put (mods (chain_at b s w id (c.n - 1))) ⨾ proto_below (Q b s (T b s w)) (N b s) (T b s w) below fname lvl c.last_was_ptr (no_mods (chain_at b s w id (c.n - 1))) ⨾ param_list_below (Q b s (T b s w)) (N b s) (T b s w) below fname lvl (params_of b s t)) w
        → r ≡ record { at = p; rest = None } → Printed b s below id fname lvl at c w txt (Ok r) t' w'
    unfolding entry_named
    arm_proto r p t' w' e o er = entry_stands (proto (params_of b s t)) r p t' w' (entry_proto b s w x t et (sym ek ∙ e)) refl er (says_proto (Ok p) t' w' e o)

    -- an entry of no other kind that leads on is a type tag
    module _ (l : only_links (chain_at b s w id c.n) ≡ true) (n₁ : k ≡ Ptr → ⊥) (n₂ : k ≡ Array → ⊥) (n₃ : k ≡ Volatile → ⊥) (n₄ : k ≡ Const → ⊥) (n₅ : k ≡ Restrict → ⊥) (n₆ : k ≡ FuncProto → ⊥) where
      pub is_tag : kind_named (kind_of t.info) ≡ TypeTag
      is_tag =
          sym ek
          ∙ links_tag b s w x t et below_top
          (ap only_links (sym (chain_top b s w id c.n (λ q. omega arith) ∙ ap (λ (y : ℕ). entry_of b s w y ∷ below_top) (sym ex))) ∙ l)
          k ek n₁ n₂ n₃ n₄ n₅ n₆

      pub says_tag : (m : ℕ) (a : Placed) (t₁ : List ℕ) (p : Placed) (t₂ : List ℕ) → m ≡ skipped b s w id (c.n - 1)
          → put_out a t₁ ≡ put_text txt at (whole (mods_down b s w id m (c.n - 1))) → put_out p t₂ ≡ put_text t₁ a (whole (attribute (flag_of t.info) (ascii "btf_type_tag") (record_name b s t)))
          → Spelled p t₂ w
      unfolding entry_text
      says_tag m a t₁ p t₂ em o₁ o₂ =
          spelled_as (tag (flag_of t.info) (record_name b s t)) p t₂ w (entry_tag b s w x t et is_tag)
          (also txt at _ _ w a t₁ p t₂ w (put_mods b s w id txt at a t₁ m (c.n - 1) em o₁) (put_only _ t₁ a _ w p t₂ o₂))

      pub arm_tag : (r : Stand) (m : ℕ) (a : Placed) (t₁ : List ℕ) (p : ℕ) (t₂ : List ℕ) → (m ≡ skipped b s w id (c.n - 1)) × (m ≤ c.n - 1)
          → put_out a t₁ ≡ put_text txt at (whole (mods_down b s w id m (c.n - 1))) → put_out (Ok p) t₂ ≡ put_text t₁ a (whole (attribute (flag_of t.info) (ascii "btf_type_tag") (record_name b s t)))
          → r ≡ record { at = p; rest = Some (record { n = m; last_was_ptr = false }) } → Printed b s below id fname lvl at c w txt (Ok r) t₂ w
      unfolding entry_star entry_named entry_left
      arm_tag r m a t₁ p t₂ em o₁ o₂ er =
          entry_goes (tag (flag_of t.info) (record_name b s t)) r p m t₂ w (entry_tag b s w x t et is_tag) refl er
          (says_tag m a t₁ (Ok p) t₂ em.0 o₁ o₂) (no_mods_lem w id (c.n - 1) m em.0) em.1

  -- ---- emit_function
  pub function_put : (below id : ℕ) (fname : Name) (lvl : ℕ) (p : Bool) (w txt : List ℕ) (at : Placed) (n m : ℕ) (a : Placed) (t₁ : List ℕ) (f : Placed) (t₂ w₂ : List ℕ) (r : Placed) (t₃ w₃ : List ℕ) (t : Record) (es : Entries)
      → m ≡ skipped b s w id n → es ≡ entries_of t
      → put_out a t₁ ≡ put_text txt at (whole (mods_down b s w id m n))
      → out_of f t₂ w₂ ≡ put_said t₁ a (proto_below (Q b s (T b s w)) (N b s) (T b s w) below fname lvl p (chain_at b s w id m)) w
      → out_of r t₃ w₃ ≡ put_said t₂ f (params_below (Q b s (T b s w₂)) (N b s) (T b s w₂) below lvl (shown_params (from (param_of b s es.at) 0 es.vlen))) w₂
      → out_of r t₃ w₃ ≡ put_said txt at (put (mods (chain_at b s w id n)) ⨾ proto_below (Q b s (T b s w)) (N b s) (T b s w) below fname lvl p (no_mods (chain_at b s w id n)) ⨾ param_list_below (Q b s (T b s w)) (N b s) (T b s w) below fname lvl (params_of b s t)) w
  unfolding seen param_list
  function_put below id fname lvl p w txt at n m a t₁ f t₂ w₂ r t₃ w₃ t es em ee o₁ o₂ o₃ =
      also txt at _ _ w a t₁ r t₃ w₃ (put_mods b s w id txt at a t₁ m n em o₁)
      (then_on b s (λ x. param_list_below (Q b s x.0) (N b s) x.0 below fname lvl (params_of b s t)) t₁ a _ w f t₂ w₂ r t₃ w₃
      (kept_proto b s (T b s w) below fname lvl p (no_mods (chain_at b s w id n)))
      (said_as t₁ a _ _ w f t₂ w₂ (ap (proto_below (Q b s (T b s w)) (N b s) (T b s w) below fname lvl p) (no_mods_lem w id n m em)) o₂)
      (o₃ ∙ ap (λ (x : Entries). put_said t₂ f (params_below (Q b s (T b s w₂)) (N b s) (T b s w₂) below lvl (shown_params (from (param_of b s x.at) 0 x.vlen))) w₂) ee))

  -- ---- emit_base: k is the kind of t
  module _ (B : Rules) (below lvl id : ℕ) (t : Record) (k : Kind) (ek : k ≡ kind_named (kind_of t.info)) (txt : List ℕ) (at : Placed) (u : List ℕ) (r : Placed) (t' u' : List ℕ) where
    abbrev Spoken : Type 0
    Spoken = out_of r t' u' ≡ put_said txt at (word_below (Q b s B) (N b s) B below lvl id (type_of b s t)) u

    word_as : (y : Kind) → k ≡ y → out_of r t' u' ≡ put_said txt at (word_below (Q b s B) (N b s) B below lvl id (type_as b s t y)) u → Spoken
    word_as y e o = o ∙ ap (λ (z : BtfType). put_said txt at (word_below (Q b s B) (N b s) B below lvl id z) u) (sym (type_is b s t k ek y e))

    pub word_name_lem : (k ≡ Int) ⊎ (k ≡ Float) → out_of r t' u' ≡ put_said txt at (put (record_name b s t)) u → Spoken
    unfolding base_word
    word_name_lem (inl e) o = word_as Int e o
    word_name_lem (inr e) o = word_as Float e o

    pub word_enum : (k ≡ Enum) ⊎ (k ≡ Enum64) → out_of r t' u' ≡ put_said txt at (enum_text (N b s) B (value_text (is_wide t) (flag_of t.info)) id (record_name b s t) (enum_values b s t) lvl) u → Spoken
    unfolding base_word enum_text
    word_enum (inl e) o = word_as Enum e (o ∙ of_enum b s t (λ str vs. put_said txt at (enum_text (N b s) B str id (record_name b s t) vs lvl) u) (is (kind_of t.info) k ek Enum e))
    word_enum (inr e) o = word_as Enum64 e (o ∙ of_enum64 b s t (λ str vs. put_said txt at (enum_text (N b s) B str id (record_name b s t) vs lvl) u) (is (kind_of t.info) k ek Enum64 e))

    pub word_fwd : k ≡ Fwd → out_of r t' u' ≡ put_said txt at (emit_fwd_def (N b s) B id (flag_of t.info) (record_name b s t)) u → Spoken
    unfolding base_word
    word_fwd e o = word_as Fwd e o

    pub word_typedef : k ≡ Typedef → out_of r t' u' ≡ put_said txt at (resolve_type_name (N b s) ident_space id (record_name b s t) put) u → Spoken
    unfolding base_word
    word_typedef e o = word_as Typedef e o

    pub word_composite : (k ≡ Struct) ⊎ (k ≡ Union)
        → out_of r t' u' ≡ put_said txt at (word_below (Q b s B) (N b s) B below lvl id (R.Composite (eqb (kind_of t.info) 4) (record_name b s t) t.type_id (members_of b s t))) u → Spoken
    word_composite (inl e) o = word_as Struct e (o ∙ ap (λ (j : ℕ). put_said txt at (word_below (Q b s B) (N b s) B below lvl id (R.Composite (eqb j 4) (record_name b s t) t.type_id (members_of b s t))) u) (is (kind_of t.info) k ek Struct e))
    word_composite (inr e) o = word_as Union e (o ∙ ap (λ (j : ℕ). put_said txt at (word_below (Q b s B) (N b s) B below lvl id (R.Composite (eqb j 4) (record_name b s t) t.type_id (members_of b s t))) u) (is (kind_of t.info) k ek Union e))

    pub word_void : (k ≡ Void) ⊎ (k ≡ Unknown) → put_out r t' ≡ put_text txt at (whole (ascii "void")) → u' ≡ u → Spoken
    unfolding base_word
    word_void (inl e) o eu = word_as Void e (ap (out_of r t') eu ∙ put_only _ txt at _ u r t' o)
    word_void (inr e) o eu = word_as Unknown e (ap (out_of r t') eu ∙ put_only _ txt at _ u r t' o)

  -- the kinds that have no words
  module _ (B : Rules) (below lvl id : ℕ) (t : Record) (txt : List ℕ) (at : Placed) (u : List ℕ) where
    quiet : (y : Kind) → (y ≡ Int → ⊥) → (y ≡ Float → ⊥) → (y ≡ Struct → ⊥) → (y ≡ Union → ⊥) → (y ≡ Enum → ⊥) → (y ≡ Enum64 → ⊥) → (y ≡ Fwd → ⊥) → (y ≡ Typedef → ⊥) → (y ≡ Void → ⊥) → (y ≡ Unknown → ⊥)
        → nothing u ≡ word_below (Q b s B) (N b s) B below lvl id (type_as b s t y) u
    unfolding base_word
    quiet Void n₁ n₂ n₃ n₄ n₅ n₆ n₇ n₈ n₉ n₁₀ = absurd (n₉ refl)
    quiet Int n₁ n₂ n₃ n₄ n₅ n₆ n₇ n₈ n₉ n₁₀ = absurd (n₁ refl)
    quiet Ptr n₁ n₂ n₃ n₄ n₅ n₆ n₇ n₈ n₉ n₁₀ = refl
    quiet Array n₁ n₂ n₃ n₄ n₅ n₆ n₇ n₈ n₉ n₁₀ = refl
    quiet Struct n₁ n₂ n₃ n₄ n₅ n₆ n₇ n₈ n₉ n₁₀ = absurd (n₃ refl)
    quiet Union n₁ n₂ n₃ n₄ n₅ n₆ n₇ n₈ n₉ n₁₀ = absurd (n₄ refl)
    quiet Enum n₁ n₂ n₃ n₄ n₅ n₆ n₇ n₈ n₉ n₁₀ = absurd (n₅ refl)
    quiet Fwd n₁ n₂ n₃ n₄ n₅ n₆ n₇ n₈ n₉ n₁₀ = absurd (n₇ refl)
    quiet Typedef n₁ n₂ n₃ n₄ n₅ n₆ n₇ n₈ n₉ n₁₀ = absurd (n₈ refl)
    quiet Volatile n₁ n₂ n₃ n₄ n₅ n₆ n₇ n₈ n₉ n₁₀ = refl
    quiet Const n₁ n₂ n₃ n₄ n₅ n₆ n₇ n₈ n₉ n₁₀ = refl
    quiet Restrict n₁ n₂ n₃ n₄ n₅ n₆ n₇ n₈ n₉ n₁₀ = refl
    quiet Func n₁ n₂ n₃ n₄ n₅ n₆ n₇ n₈ n₉ n₁₀ = refl
    quiet FuncProto n₁ n₂ n₃ n₄ n₅ n₆ n₇ n₈ n₉ n₁₀ = refl
    quiet Var n₁ n₂ n₃ n₄ n₅ n₆ n₇ n₈ n₉ n₁₀ = refl
    quiet Datasec n₁ n₂ n₃ n₄ n₅ n₆ n₇ n₈ n₉ n₁₀ = refl
    quiet Float n₁ n₂ n₃ n₄ n₅ n₆ n₇ n₈ n₉ n₁₀ = absurd (n₂ refl)
    quiet DeclTag n₁ n₂ n₃ n₄ n₅ n₆ n₇ n₈ n₉ n₁₀ = refl
    quiet TypeTag n₁ n₂ n₃ n₄ n₅ n₆ n₇ n₈ n₉ n₁₀ = refl
    quiet Enum64 n₁ n₂ n₃ n₄ n₅ n₆ n₇ n₈ n₉ n₁₀ = absurd (n₆ refl)
    quiet Unknown n₁ n₂ n₃ n₄ n₅ n₆ n₇ n₈ n₉ n₁₀ = absurd (n₁₀ refl)

    pub word_none : (k : Kind) → k ≡ kind_named (kind_of t.info) → (k ≡ Int → ⊥) → (k ≡ Float → ⊥) → (k ≡ Struct → ⊥) → (k ≡ Union → ⊥) → (k ≡ Enum → ⊥) → (k ≡ Enum64 → ⊥) → (k ≡ Fwd → ⊥) → (k ≡ Typedef → ⊥) → (k ≡ Void → ⊥) → (k ≡ Unknown → ⊥)
        → out_of at txt u ≡ put_said txt at (word_below (Q b s B) (N b s) B below lvl id (type_of b s t)) u
    word_none k ek n₁ n₂ n₃ n₄ n₅ n₆ n₇ n₈ n₉ n₁₀ =
        word_as B below lvl id t k ek txt at u at txt u k refl (put_nothing _ txt at u ∙ said_alike _ txt at _ _ u (quiet k n₁ n₂ n₃ n₄ n₅ n₆ n₇ n₈ n₉ n₁₀))

  -- ---- emit_composite_word
  module _ (below lvl id : ℕ) (is_struct : Bool) (name : Name) (sz : ℕ) (ms : List Member) (txt : List ℕ) (at : Placed) (u : List ℕ) (r : Placed) (t' u' : List ℕ) (B : Rules) where
    pub composite_inline : is_empty name ≡ true → out_of r t' u' ≡ put_said txt at (emit_composite_def_once (Q b s B) (N b s) B below id is_struct name sz ms lvl) u
        → out_of r t' u' ≡ put_said txt at (word_below (Q b s B) (N b s) B below lvl id (R.Composite is_struct name sz ms)) u
    unfolding base_word
    composite_inline h o = rw (h, base_word) o

    pub composite_named : is_empty name ≡ false → out_of r t' u' ≡ put_said txt at (emit_composite_fwd (N b s) B id is_struct name) u
        → out_of r t' u' ≡ put_said txt at (word_below (Q b s B) (N b s) B below lvl id (R.Composite is_struct name sz ms)) u
    unfolding base_word
    composite_named h o = rw (h, base_word) o

  -- ---- emit_array and emit_proto: n entries are left
  module _ (below id : ℕ) (fname : Name) (lvl : ℕ) (p : Bool) (w txt : List ℕ) (at : Placed) (n : ℕ) where
    none : n ≡ 0 → chain_at b s w id n ≡ []
    unfolding chain_at
    none e = rw e

    pub array_name : (r : Placed) (t' : List ℕ) → n ≡ 0 → put_out r t' ≡ put_text txt at (whole (name_after fname p))
        → out_of r t' w ≡ put_said txt at (array_below (Q b s (T b s w)) (N b s) (T b s w) below fname lvl p (chain_at b s w id n)) w
    unfolding emit_array
    array_name r t' e o = said_as txt at (emit_name fname p) _ w r t' w (sym (ap (array_below (Q b s (T b s w)) (N b s) (T b s w) below fname lvl p) (none e))) (put_emit_name txt at fname p w r t' o)

    pub proto_name : (r : Placed) (t' : List ℕ) → n ≡ 0 → put_out r t' ≡ put_text txt at (whole (name_after fname p))
        → out_of r t' w ≡ put_said txt at (proto_below (Q b s (T b s w)) (N b s) (T b s w) below fname lvl p (chain_at b s w id n)) w
    unfolding emit_proto
    proto_name r t' e o = said_as txt at (emit_name fname p) _ w r t' w (sym (ap (proto_below (Q b s (T b s w)) (N b s) (T b s w) below fname lvl p) (none e))) (put_emit_name txt at fname p w r t' o)

    module _ (h : n ≡ 0 → ⊥) where
      abbrev on_top_lem : Entry
      on_top_lem = entry_of b s w (path_at b s w id (n - 1))

      abbrev inside : Writer (List ℕ)
      inside = emit_type_chain_once (Q b s (T b s w)) (N b s) (T b s w) below (chain_at b s w id n) fname lvl

      array_is_some : array_below (Q b s (T b s w)) (N b s) (T b s w) below fname lvl p (chain_at b s w id n) ≡ put (gap fname p) ⨾ parens (not (is_array on_top_lem)) inside
      unfolding emit_array gap
      array_is_some = rw (chain_top b s w id n h)

      array_top : kind_at b s w id (n - 1) ≡ Array → is_array on_top_lem ≡ true
      unfolding kind_at
      array_top e = array_on b s w (path_at b s w id (n - 1)) _ refl e

      other_top : (kind_at b s w id (n - 1) ≡ Array → ⊥) → is_array on_top_lem ≡ false
      unfolding kind_at
      other_top g = array_off b s w (path_at b s w id (n - 1)) _ refl g

      pub array_array : (k : Kind) (a : Placed) (t₁ : List ℕ) (r : Placed) (t₂ w₂ : List ℕ) → k ≡ kind_at b s w id (n - 1) → k ≡ Array
          → put_out a t₁ ≡ put_text txt at (whole (gap fname p)) → out_of r t₂ w₂ ≡ put_said t₁ a inside w
          → out_of r t₂ w₂ ≡ put_said txt at (array_below (Q b s (T b s w)) (N b s) (T b s w) below fname lvl p (chain_at b s w id n)) w
      unfolding parens
      array_array k a t₁ r t₂ w₂ ek e o₁ o₂ =
          let q = array_top (sym ek ∙ e) in
          said_as txt at _ _ w r t₂ w₂ (sym (array_is_some ∙ ap (λ (x : Bool). put (gap fname p) ⨾ parens (not x) inside) q))
          (also txt at _ _ w a t₁ r t₂ w₂ o₁ o₂)

      pub array_halts : (d : Refusal) (t₁ : List ℕ) (r : Placed) → put_out (Err d) t₁ ≡ put_text txt at (whole (gap fname p)) → IsErrAnd r (λ e. e ≡ d)
          → out_of r t₁ w ≡ put_said txt at (array_below (Q b s (T b s w)) (N b s) (T b s w) below fname lvl p (chain_at b s w id n)) w
      array_halts d t₁ r o i = said_as txt at _ _ w r t₁ w (sym array_is_some) (also txt at _ _ w (Err d) t₁ r t₁ w o (said_ended _ t₁ r d _ w i))

      pub array_other : (k : Kind) (a : Placed) (t₁ : List ℕ) (c : Placed) (t₂ : List ℕ) (e : Placed) (t₃ w₃ : List ℕ) (r : Placed) (t₄ : List ℕ) → k ≡ kind_at b s w id (n - 1) → (k ≡ Array → ⊥)
          → put_out a t₁ ≡ put_text txt at (whole (gap fname p)) → put_out c t₂ ≡ put_text t₁ a (whole (ascii "("))
          → out_of e t₃ w₃ ≡ put_said t₂ c inside w → put_out r t₄ ≡ put_text t₃ e (whole (ascii ")"))
          → out_of r t₄ w₃ ≡ put_said txt at (array_below (Q b s (T b s w)) (N b s) (T b s w) below fname lvl p (chain_at b s w id n)) w
      unfolding parens
      array_other k a t₁ c t₂ e t₃ w₃ r t₄ ek g o₁ o₂ o₃ o₄ =
          let q = other_top (λ z. g (ek ∙ z)) in
          said_as txt at _ _ w r t₄ w₃ (sym (array_is_some ∙ ap (λ (x : Bool). put (gap fname p) ⨾ parens (not x) inside) q))
          (also txt at _ _ w a t₁ r t₄ w₃ o₁ (also t₁ a _ _ w c t₂ r t₄ w₃ o₂ (put_then _ t₂ c _ _ w e t₃ w₃ r t₄ w₃ (kept_chain b s (T b s w) below _ fname lvl w).1 o₃ (put_only _ t₃ e _ w₃ r t₄ o₄))))

      proto_is_some : proto_below (Q b s (T b s w)) (N b s) (T b s w) below fname lvl p (chain_at b s w id n) ≡ put (ascii " (") ⨾ inside ⨾ put (ascii ")")
      unfolding emit_proto
      proto_is_some = rw (chain_top b s w id n h)

      pub proto_some : (a : Placed) (t₁ : List ℕ) (c : Placed) (t₂ w₂ : List ℕ) (r : Placed) (t₃ : List ℕ)
          → put_out a t₁ ≡ put_text txt at (whole (ascii " (")) → out_of c t₂ w₂ ≡ put_said t₁ a inside w → put_out r t₃ ≡ put_text t₂ c (whole (ascii ")"))
          → out_of r t₃ w₂ ≡ put_said txt at (proto_below (Q b s (T b s w)) (N b s) (T b s w) below fname lvl p (chain_at b s w id n)) w
      proto_some a t₁ c t₂ w₂ r t₃ o₁ o₂ o₃ =
          said_as txt at _ _ w r t₃ w₂ (sym proto_is_some)
          (also txt at _ _ w a t₁ r t₃ w₂ o₁ (put_then _ t₁ a _ _ w c t₂ w₂ r t₃ w₂ (kept_chain b s (T b s w) below _ fname lvl w).1 o₂ (put_only _ t₂ c _ w₂ r t₃ o₃)))
