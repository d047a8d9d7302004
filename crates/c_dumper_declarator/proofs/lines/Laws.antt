-- The lines: the code's arms by kinds, against `definition` and `forward` of the rules. Assumes nothing.
use Prim.Native.Nat.{ℕ}
use mathlib.Core.Path.{◌≡◌, refl, ap, ◌∙◌, sym, subst}
use mathlib.Core.List.{List}
use mathlib.Core.Bool.{Bool, true, false}
use mathlib.Core.Logic.{◌⊎◌, inl, inr}
use lib.Dec.{eqb}
use Rattle.spec_bytes.specs.text.Text.{ascii, whole}
use Rattle.spec_bytes.specs.text.Placed.{put_out, put_text, Placed}
use Rattle.spec_c_dumper.specs.rules.Types as R
use Rattle.spec_c_dumper.specs.rules.Types.{BtfType, Btf as Rules}
use Rattle.spec_c_dumper.specs.rules.Names.{builtin}
use Rattle.spec_c_dumper.specs.rules.Writer.{Writer, put, nothing, ◌⨾◌}
use Rattle.spec_c_dumper.specs.rules.Place.{out_of, put_said}
use Rattle.spec_c_dumper.specs.rules.Decl.{emit_composite_fwd, emit_fwd_def, enum_value, enum64_value, emit_enum_def}
use Rattle.spec_c_dumper.specs.alignment_once.Writers.{emit_composite_def_once, emit_typedef_def_once, definition_once, forward_once}
use Rattle.btf_layout.specs.asked.Asked.{work_asks}
use Rattle.spec_c_dumper.specs.rules.Emit.{shown}
use Rattle.spec_c_dumper.proofs.rules.Writing.{put_only, put_nothing, put_then}
use Rattle.spec_c_dumper.proofs.rules.Held.{EachHas}
use Rattle.spec_c_dumper.proofs.rules.Keeps.{keeps_emit_enum_def, keeps_emit_fwd_def, keeps_emit_composite_fwd}
use Rattle.spec_c_dumper.proofs.alignment_once.Keeps.{keeps_typedef}
use Rattle.spec_type_table.specs.declared.types.TypeTable.{TypeTable}
use Rattle.spec_type_table.specs.declared.types.BtfType.{BtfType as Record}
use Rattle.spec_type_table.specs.Names.{str_at}
use Rattle.spec_type_table.specs.Records.{kind_of, flag_of}
use Rattle.spec_type_table.specs.Table.{record_name, members_of, values_of, values64_of, type_of, work_naming}
use Rattle.c_dumper_bodies.specs.enums.Widths.{is_wide, value_text, enum_values}
use Rattle.c_dumper_bodies.proofs.enums.Numbers.{of_enum, of_enum64}
use Rattle.spec_type_table.specs.declared.kind.Kind.{Kind}
use Rattle.spec_type_table.specs.declared.kind.Kind.TheVariants.{Void, Int, Ptr, Array, Struct, Union, Enum, Fwd, Typedef, Volatile, Const, Restrict, Func, FuncProto, Var, Datasec, Float, DeclTag, TypeTag, Enum64, Unknown}
use Rattle.spec_type_table.specs.Kinds.{kind_named}
use Rattle.spec_type_table.proofs.KindNames.{is}
use Rattle.spec_type_table.proofs.KindTypes.{type_as, type_is}
use Rattle.c_dumper_declarator.proofs.declarations.Kept.{seen, keeps_type, keeps_value, keeps_padding, keeps_body}
use Rattle.c_dumper_declarator.proofs.declarations.Keeping.{kept_def}

module _ (b : TypeTable) (s : List ℕ) (B : Rules) (at : Placed) (tx w : List ℕ) (id : ℕ) (t : Record) where
  -- a writer, and the line's end after it
  ended : (v : Writer (List ℕ)) (a : Placed) (t₁ w₁ : List ℕ) (r : Placed) (t₂ : List ℕ) → EachHas (v w) → out_of a t₁ w₁ ≡ put_said tx at v w → put_out r t₂ ≡ put_text t₁ a (whole (ascii ";\n\n"))
      → out_of r t₂ w₁ ≡ put_said tx at (v ⨾ put (ascii ";\n\n")) w
  ended v a t₁ w₁ r t₂ h e f = put_then _ tx at v (put (ascii ";\n\n")) w a t₁ w₁ r t₂ w₁ h e (put_only _ t₁ a (ascii ";\n\n") w₁ r t₂ f)

  abbrev Defines : Placed → List ℕ → List ℕ → Type 0
  Defines r t₂ w₂ = out_of r t₂ w₂ ≡ put_said tx at (definition_once (work_asks b.types B) (work_naming b) B id (type_of b s t)) w

  abbrev Forwards : Placed → List ℕ → List ℕ → Type 0
  Forwards r t₂ w₂ = out_of r t₂ w₂ ≡ put_said tx at (forward_once (work_asks b.types B) (work_naming b) B id (type_of b s t)) w

  abbrev select : Bool → Writer (List ℕ) → Writer (List ℕ)
  select x v = elim x [ true ↦ nothing | false ↦ v ]

  -- what stands for a record of a kind
  module _ (k : Kind) (ek : k ≡ kind_named (kind_of t.info)) where
    defined_as : (y : Kind) → k ≡ y → put_said tx at (definition_once (work_asks b.types B) (work_naming b) B id (type_as b s t y)) w ≡ put_said tx at (definition_once (work_asks b.types B) (work_naming b) B id (type_of b s t)) w
    defined_as y p = ap (λ (x : BtfType). put_said tx at (definition_once (work_asks b.types B) (work_naming b) B id x) w) (sym (type_is b s t k ek y p))

    forward_as : (y : Kind) → k ≡ y → put_said tx at (forward_once (work_asks b.types B) (work_naming b) B id (type_as b s t y)) w ≡ put_said tx at (forward_once (work_asks b.types B) (work_naming b) B id (type_of b s t)) w
    forward_as y p = ap (λ (x : BtfType). put_said tx at (forward_once (work_asks b.types B) (work_naming b) B id x) w) (sym (type_is b s t k ek y p))

    none_defined : (y : Kind) → (y ≡ Struct → ⊥) → (y ≡ Union → ⊥) → (y ≡ Enum → ⊥) → (y ≡ Enum64 → ⊥) → (y ≡ Fwd → ⊥) → put_said tx at nothing w ≡ put_said tx at (definition_once (work_asks b.types B) (work_naming b) B id (type_as b s t y)) w
    unfolding definition_once
    none_defined Void n₁ n₂ n₃ n₄ n₅ = refl
    none_defined Int n₁ n₂ n₃ n₄ n₅ = refl
    none_defined Ptr n₁ n₂ n₃ n₄ n₅ = refl
    none_defined Array n₁ n₂ n₃ n₄ n₅ = refl
    none_defined Struct n₁ n₂ n₃ n₄ n₅ = absurd (n₁ refl)
    none_defined Union n₁ n₂ n₃ n₄ n₅ = absurd (n₂ refl)
    none_defined Enum n₁ n₂ n₃ n₄ n₅ = absurd (n₃ refl)
    none_defined Fwd n₁ n₂ n₃ n₄ n₅ = absurd (n₅ refl)
    none_defined Typedef n₁ n₂ n₃ n₄ n₅ = refl
    none_defined Volatile n₁ n₂ n₃ n₄ n₅ = refl
    none_defined Const n₁ n₂ n₃ n₄ n₅ = refl
    none_defined Restrict n₁ n₂ n₃ n₄ n₅ = refl
    none_defined Func n₁ n₂ n₃ n₄ n₅ = refl
    none_defined FuncProto n₁ n₂ n₃ n₄ n₅ = refl
    none_defined Var n₁ n₂ n₃ n₄ n₅ = refl
    none_defined Datasec n₁ n₂ n₃ n₄ n₅ = refl
    none_defined Float n₁ n₂ n₃ n₄ n₅ = refl
    none_defined DeclTag n₁ n₂ n₃ n₄ n₅ = refl
    none_defined TypeTag n₁ n₂ n₃ n₄ n₅ = refl
    none_defined Enum64 n₁ n₂ n₃ n₄ n₅ = absurd (n₄ refl)
    none_defined Unknown n₁ n₂ n₃ n₄ n₅ = refl

    none_forward : (y : Kind) → (y ≡ Struct → ⊥) → (y ≡ Union → ⊥) → (y ≡ Typedef → ⊥) → put_said tx at nothing w ≡ put_said tx at (forward_once (work_asks b.types B) (work_naming b) B id (type_as b s t y)) w
    unfolding forward_once
    none_forward Void n₁ n₂ n₃ = refl
    none_forward Int n₁ n₂ n₃ = refl
    none_forward Ptr n₁ n₂ n₃ = refl
    none_forward Array n₁ n₂ n₃ = refl
    none_forward Struct n₁ n₂ n₃ = absurd (n₁ refl)
    none_forward Union n₁ n₂ n₃ = absurd (n₂ refl)
    none_forward Enum n₁ n₂ n₃ = refl
    none_forward Fwd n₁ n₂ n₃ = refl
    none_forward Typedef n₁ n₂ n₃ = absurd (n₃ refl)
    none_forward Volatile n₁ n₂ n₃ = refl
    none_forward Const n₁ n₂ n₃ = refl
    none_forward Restrict n₁ n₂ n₃ = refl
    none_forward Func n₁ n₂ n₃ = refl
    none_forward FuncProto n₁ n₂ n₃ = refl
    none_forward Var n₁ n₂ n₃ = refl
    none_forward Datasec n₁ n₂ n₃ = refl
    none_forward Float n₁ n₂ n₃ = refl
    none_forward DeclTag n₁ n₂ n₃ = refl
    none_forward TypeTag n₁ n₂ n₃ = refl
    none_forward Enum64 n₁ n₂ n₃ = refl
    none_forward Unknown n₁ n₂ n₃ = refl

    builtin_none : (y : Kind) → builtin (str_at b s t.name_off) ≡ true → put_said tx at nothing w ≡ put_said tx at (forward_once (work_asks b.types B) (work_naming b) B id (type_as b s t y)) w
    unfolding forward_once shown
    builtin_none Void q = refl
    builtin_none Int q = refl
    builtin_none Ptr q = refl
    builtin_none Array q = refl
    builtin_none Struct q = sym (ap (λ (x : Bool). put_said tx at (select x (emit_composite_fwd (work_naming b) B id true (str_at b s t.name_off) ⨾ put (ascii ";\n\n"))) w) q)
    builtin_none Union q = sym (ap (λ (x : Bool). put_said tx at (select x (emit_composite_fwd (work_naming b) B id false (str_at b s t.name_off) ⨾ put (ascii ";\n\n"))) w) q)
    builtin_none Enum q = refl
    builtin_none Fwd q = refl
    builtin_none Typedef q = sym (ap (λ (x : Bool). put_said tx at (select x (emit_typedef_def_once (work_asks b.types B) (work_naming b) B id (str_at b s t.name_off) t.type_id ⨾ put (ascii ";\n\n"))) w) q)
    builtin_none Volatile q = refl
    builtin_none Const q = refl
    builtin_none Restrict q = refl
    builtin_none Func q = refl
    builtin_none FuncProto q = refl
    builtin_none Var q = refl
    builtin_none Datasec q = refl
    builtin_none Float q = refl
    builtin_none DeclTag q = refl
    builtin_none TypeTag q = refl
    builtin_none Enum64 q = refl
    builtin_none Unknown q = refl

    -- whether it is a struct, of the two kinds of composites
    composite_is : (k ≡ Struct) ⊎ (k ≡ Union) → (P : Bool → Type 0) → ((y : Bool) → type_of b s t ≡ R.Composite y (record_name b s t) t.type_id (members_of b s t) → P y) → P (eqb (kind_of t.info) 4)
    composite_is (inl p) P f = subst P (sym (ap (λ (j : ℕ). eqb j 4) (is (kind_of t.info) k ek Struct p))) (f true (type_is b s t k ek Struct p))
    composite_is (inr p) P f = subst P (sym (ap (λ (j : ℕ). eqb j 4) (is (kind_of t.info) k ek Union p))) (f false (type_is b s t k ek Union p))

    pub define_composite : (k ≡ Struct) ⊎ (k ≡ Union) → (a : Placed) (t₁ w₁ : List ℕ)
        → out_of a t₁ w₁ ≡ put_said tx at (emit_composite_def_once (work_asks b.types B) (work_naming b) B 512 id (eqb (kind_of t.info) 4) (record_name b s t) t.type_id (members_of b s t) 0) w
        → (r : Placed) (t₂ : List ℕ) → put_out r t₂ ≡ put_text t₁ a (whole (ascii ";\n\n")) → Defines r t₂ w₁
    unfolding definition_once
    define_composite g a t₁ w₁ e r t₂ f =
        composite_is g (λ y. out_of a t₁ w₁ ≡ put_said tx at (emit_composite_def_once (work_asks b.types B) (work_naming b) B 512 id y (record_name b s t) t.type_id (members_of b s t) 0) w → Defines r t₂ w₁)
        (λ y u q. ended (emit_composite_def_once (work_asks b.types B) (work_naming b) B 512 id y (record_name b s t) t.type_id (members_of b s t) 0) a t₁ w₁ r t₂ (kept_def b s B 512 id y (record_name b s t) t.type_id (members_of b s t) 0 w).1 q f ∙ ap (λ (x : BtfType). put_said tx at (definition_once (work_asks b.types B) (work_naming b) B id x) w) (sym u))
        e

    pub define_enum : (k ≡ Enum) ⊎ (k ≡ Enum64) → (a : Placed) (t₁ w₁ : List ℕ) → out_of a t₁ w₁ ≡ put_said tx at (emit_enum_def (work_naming b) B (value_text (is_wide t) (flag_of t.info)) id (str_at b s t.name_off) (enum_values b s t) 0) w
        → (r : Placed) (t₂ : List ℕ) → put_out r t₂ ≡ put_text t₁ a (whole (ascii ";\n\n")) → Defines r t₂ w₁
    unfolding definition_once
    define_enum (inl q) a t₁ w₁ e r t₂ f =
        ended (emit_enum_def (work_naming b) B (enum_value (flag_of t.info)) id (str_at b s t.name_off) (values_of b s t) 0) a t₁ w₁ r t₂
        (keeps_emit_enum_def (work_naming b) (seen b s) (keeps_type b s) (keeps_value b s) B (enum_value (flag_of t.info)) id (str_at b s t.name_off) (values_of b s t) 0 w).1
        (e ∙ of_enum b s t (λ str vs. put_said tx at (emit_enum_def (work_naming b) B str id (str_at b s t.name_off) vs 0) w) (is (kind_of t.info) k ek Enum q)) f
        ∙ defined_as Enum q
    define_enum (inr q) a t₁ w₁ e r t₂ f =
        ended (emit_enum_def (work_naming b) B (enum64_value (flag_of t.info)) id (str_at b s t.name_off) (values64_of b s t) 0) a t₁ w₁ r t₂
        (keeps_emit_enum_def (work_naming b) (seen b s) (keeps_type b s) (keeps_value b s) B (enum64_value (flag_of t.info)) id (str_at b s t.name_off) (values64_of b s t) 0 w).1
        (e ∙ of_enum64 b s t (λ str vs. put_said tx at (emit_enum_def (work_naming b) B str id (str_at b s t.name_off) vs 0) w) (is (kind_of t.info) k ek Enum64 q)) f
        ∙ defined_as Enum64 q

    pub define_fwd : k ≡ Fwd → (a : Placed) (t₁ w₁ : List ℕ) → out_of a t₁ w₁ ≡ put_said tx at (emit_fwd_def (work_naming b) B id (flag_of t.info) (str_at b s t.name_off)) w
        → (r : Placed) (t₂ : List ℕ) → put_out r t₂ ≡ put_text t₁ a (whole (ascii ";\n\n")) → Defines r t₂ w₁
    unfolding definition_once
    define_fwd q a t₁ w₁ e r t₂ f = ended (emit_fwd_def (work_naming b) B id (flag_of t.info) (str_at b s t.name_off)) a t₁ w₁ r t₂ (keeps_emit_fwd_def (work_naming b) (seen b s) (keeps_type b s) (keeps_value b s) B id (flag_of t.info) (str_at b s t.name_off) w).1 e f ∙ defined_as Fwd q

    pub define_none : (k ≡ Struct → ⊥) → (k ≡ Union → ⊥) → (k ≡ Enum → ⊥) → (k ≡ Enum64 → ⊥) → (k ≡ Fwd → ⊥) → Defines at tx w
    define_none n₁ n₂ n₃ n₄ n₅ = put_nothing _ tx at w ∙ none_defined k n₁ n₂ n₃ n₄ n₅ ∙ defined_as k refl

    pub forward_builtin : (y : Bool) → y ≡ builtin (str_at b s t.name_off) → y ≡ true → Forwards at tx w
    forward_builtin y ey e = put_nothing _ tx at w ∙ builtin_none (kind_named (kind_of t.info)) (sym ey ∙ e) ∙ forward_as _ ek

    pub forward_composite : (y : Bool) → y ≡ builtin (str_at b s t.name_off) → y ≡ false → (k ≡ Struct) ⊎ (k ≡ Union) → (a : Placed) (t₁ w₁ : List ℕ)
        → out_of a t₁ w₁ ≡ put_said tx at (emit_composite_fwd (work_naming b) B id (eqb (kind_of t.info) 4) (str_at b s t.name_off)) w
        → (r : Placed) (t₂ : List ℕ) → put_out r t₂ ≡ put_text t₁ a (whole (ascii ";\n\n")) → Forwards r t₂ w₁
    unfolding forward_once shown
    forward_composite y ey ef g a t₁ w₁ e r t₂ f =
        composite_is g (λ z. out_of a t₁ w₁ ≡ put_said tx at (emit_composite_fwd (work_naming b) B id z (str_at b s t.name_off)) w → Forwards r t₂ w₁)
        (λ z u q. ended (emit_composite_fwd (work_naming b) B id z (str_at b s t.name_off)) a t₁ w₁ r t₂ (keeps_emit_composite_fwd (work_naming b) (seen b s) (keeps_type b s) (keeps_value b s) B id z (str_at b s t.name_off) w).1 q f
        ∙ ap (λ (x : Bool). put_said tx at (select x (emit_composite_fwd (work_naming b) B id z (str_at b s t.name_off) ⨾ put (ascii ";\n\n"))) w) (sym (sym ey ∙ ef))
        ∙ ap (λ (x : BtfType). put_said tx at (forward_once (work_asks b.types B) (work_naming b) B id x) w) (sym u))
        e

    pub forward_typedef : (y : Bool) → y ≡ builtin (str_at b s t.name_off) → y ≡ false → k ≡ Typedef → (a : Placed) (t₁ w₁ : List ℕ)
        → out_of a t₁ w₁ ≡ put_said tx at (emit_typedef_def_once (work_asks b.types B) (work_naming b) B id (str_at b s t.name_off) t.type_id) w
        → (r : Placed) (t₂ : List ℕ) → put_out r t₂ ≡ put_text t₁ a (whole (ascii ";\n\n")) → Forwards r t₂ w₁
    unfolding forward_once shown
    forward_typedef y ey ef q a t₁ w₁ e r t₂ f =
        ended (emit_typedef_def_once (work_asks b.types B) (work_naming b) B id (str_at b s t.name_off) t.type_id) a t₁ w₁ r t₂
        (keeps_typedef (work_asks b.types B) (work_naming b) (seen b s) (keeps_type b s) (keeps_value b s) (keeps_padding b s B) (keeps_body b s B) B id (str_at b s t.name_off) t.type_id w).1 e f
        ∙ ap (λ (x : Bool). put_said tx at (select x (emit_typedef_def_once (work_asks b.types B) (work_naming b) B id (str_at b s t.name_off) t.type_id ⨾ put (ascii ";\n\n"))) w) (sym (sym ey ∙ ef))
        ∙ forward_as Typedef q

    pub forward_none : (k ≡ Struct → ⊥) → (k ≡ Union → ⊥) → (k ≡ Typedef → ⊥) → Forwards at tx w
    forward_none n₁ n₂ n₃ = put_nothing _ tx at w ∙ none_forward k n₁ n₂ n₃ ∙ forward_as k refl
