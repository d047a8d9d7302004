-- The lines of emit_type: what it prints of an id, once as a forward line or a typedef, once as a definition.
use Rattle.std.specs.Prelude.{ℕ, true, false}
use Rattle.spec_bytes.specs.text.Text.{ascii}
use Rattle.spec_c_dumper.specs.rules.Writer.{Writer, ◌⨾◌, put, nothing}
use Rattle.spec_c_dumper.specs.rules.Types.{Name, BtfType, Void, Int, Ptr, Array, Composite, Enum, Enum64, Fwd, Typedef, Mod, Func}
use Rattle.spec_c_dumper.specs.rules.Types.{Var, Datasec, FuncProto, Float, DeclTag, TypeTag, Btf}
use Rattle.spec_c_dumper.specs.rules.Names.{Naming, builtin}
use Rattle.spec_c_dumper.specs.rules.Decl.{emit_composite_fwd, emit_fwd_def, enum_value, enum64_value, emit_enum_def, emit_composite_def}
use Rattle.spec_c_dumper.specs.rules.Decl.{emit_typedef_def}

module _ {U : Type 0} (N : Naming U) (B : Btf) where
  abbrev pub line_end : Writer U
  line_end = put (ascii ";\n\n")

  -- a definition at the top: composites (the body), enums, forwards
  unfoldable pub definition : ℕ → BtfType → Writer U
  definition id Void = nothing
  definition id (Int n b) = nothing
  definition id (Ptr t) = nothing
  definition id (Array t k) = nothing
  definition id (Composite s n z ms) = emit_composite_def N B 512 id s n z ms 0 ⨾ line_end
  definition id (Enum s n z vs) = emit_enum_def N B (enum_value s) id n vs 0 ⨾ line_end
  definition id (Enum64 s n z vs) = emit_enum_def N B (enum64_value s) id n vs 0 ⨾ line_end
  definition id (Fwd u n) = emit_fwd_def N B id u n ⨾ line_end
  definition id (Typedef n t) = nothing
  definition id (Mod q t) = nothing
  definition id (Func n) = nothing
  definition id (Var n) = nothing
  definition id (Datasec n) = nothing
  definition id (FuncProto r ps) = nothing
  definition id (Float n z) = nothing
  definition id (DeclTag a n t k) = nothing
  definition id (TypeTag a n t) = nothing

  -- the line's end only if something was printed
  unfoldable pub shown : Name → Writer U → Writer U
  shown name w = elim (builtin name) [ true ↦ nothing | false ↦ w ⨾ line_end ]

  -- the lines that come once for each id: a composite's forward line, a typedef
  unfoldable pub forward : ℕ → BtfType → Writer U
  forward id Void = nothing
  forward id (Int n b) = nothing
  forward id (Ptr t) = nothing
  forward id (Array t k) = nothing
  forward id (Composite s n z ms) = shown n (emit_composite_fwd N B id s n)
  forward id (Enum s n z vs) = nothing
  forward id (Enum64 s n z vs) = nothing
  forward id (Fwd u n) = nothing
  forward id (Typedef n t) = shown n (emit_typedef_def N B id n t)
  forward id (Mod q t) = nothing
  forward id (Func n) = nothing
  forward id (Var n) = nothing
  forward id (Datasec n) = nothing
  forward id (FuncProto r ps) = nothing
  forward id (Float n z) = nothing
  forward id (DeclTag a n t k) = nothing
  forward id (TypeTag a n t) = nothing
