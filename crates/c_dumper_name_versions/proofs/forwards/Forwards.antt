-- Laws of the words of composites and forwards. Assumes nothing.
use Prim.Native.Nat.{ℕ}
use mathlib.Core.Path.{◌≡◌, refl, ap, ◌∙◌, sym}
use mathlib.Core.List.{List}
use mathlib.Core.Bool.{Bool, true, false, not}
use Rattle.spec_bytes.specs.text.Text.{ascii, whole}
use Rattle.spec_bytes.specs.text.Placed.{Placed, put_out, put_text}
use Rattle.spec_c_dumper.specs.rules.Types.{Name, Btf as Rules}
use Rattle.spec_c_dumper.specs.rules.Writer.{◌⨾◌, put}
use Rattle.spec_c_dumper.specs.rules.Place.{out_of, put_said}
use Rattle.spec_c_dumper.specs.rules.Names.{tag_space, resolve_type_name, builtin}
use Rattle.spec_c_dumper.specs.rules.Decl.{keyword, emit_composite_fwd, emit_fwd_def}
use Rattle.spec_c_dumper.proofs.rules.Writing.{put_only, put_nothing, put_then, said_alike}
use Rattle.spec_c_dumper.proofs.rules.Held.{held_put}
use Rattle.spec_type_table.specs.declared.types.TypeTable.{TypeTable}
use Rattle.spec_type_table.specs.Table.{work_naming, btf_of}
use Rattle.c_dumper_name_versions.proofs.names.Resolve.{put_type_name}

-- the keyword is a matter of the settings alone
pub keyword_same : (b : TypeTable) (s w s' w' : List ℕ) (is_struct : Bool) → keyword (btf_of b s w) is_struct ≡ keyword (btf_of b s' w') is_struct
unfolding keyword btf_of
keyword_same b s w s' w' is_struct = refl

module _ (t : List ℕ) (at r : Placed) (u : List ℕ) where
  pub put_struct : (b : TypeTable) (s w : List ℕ) (is_struct : Bool) → is_struct ≡ true → put_out r u ≡ put_text t at (whole (ascii "struct")) → put_out r u ≡ put_text t at (whole (keyword (btf_of b s w) is_struct))
  unfolding keyword
  put_struct b s w is_struct h e = rw h e

  pub put_union_struct : (b : TypeTable) (s w : List ℕ) (is_struct : Bool) → is_struct ≡ false → b.union_as_struct ≡ true → put_out r u ≡ put_text t at (whole (ascii "struct /*union*/")) → put_out r u ≡ put_text t at (whole (keyword (btf_of b s w) is_struct))
  unfolding keyword btf_of
  put_union_struct b s w is_struct h k e = rw (h, k) e

  pub put_union : (b : TypeTable) (s w : List ℕ) (is_struct : Bool) → is_struct ≡ false → b.union_as_struct ≡ false → put_out r u ≡ put_text t at (whole (ascii "union")) → put_out r u ≡ put_text t at (whole (keyword (btf_of b s w) is_struct))
  unfolding keyword btf_of
  put_union b s w is_struct h k e = rw (h, k) e

module _ (b : TypeTable) (w : List ℕ) (B : Rules) (t : List ℕ) (at : Placed) (id : ℕ) (is_struct : Bool) (name : Name) where
  -- nothing for the compiler's own type
  pub fwd_builtin : builtin name ≡ true → out_of at t w ≡ put_said t at (emit_composite_fwd (work_naming b) B id is_struct name) w
  unfolding emit_composite_fwd
  fwd_builtin h = rw (h, emit_composite_fwd) (put_nothing _ t at w)

  fwd_is : builtin name ≡ false → emit_composite_fwd (work_naming b) B id is_struct name w ≡ resolve_type_name (work_naming b) tag_space id name (λ n. put (keyword B is_struct) ⨾ put (ascii " ") ⨾ put n) w
  unfolding emit_composite_fwd
  fwd_is h = rw (h, emit_composite_fwd)

  -- the keyword, a space and the name
  pub fwd_named : (n w' : List ℕ) (p : Placed) (t₁ : List ℕ) (q : Placed) (t₂ : List ℕ) (r : Placed) (t₃ : List ℕ) → builtin name ≡ false
      → put n w' ≡ resolve_type_name (work_naming b) tag_space id name put w
      → put_out p t₁ ≡ put_text t at (whole (keyword B is_struct)) → put_out q t₂ ≡ put_text t₁ p (whole (ascii " ")) → put_out r t₃ ≡ put_text t₂ q (whole n)
      → out_of r t₃ w' ≡ put_said t at (emit_composite_fwd (work_naming b) B id is_struct name) w
  fwd_named n w' p t₁ q t₂ r t₃ h e e₁ e₂ e₃ =
      put_type_name b tag_space tag_space id name n w w' (λ x. put (keyword B is_struct) ⨾ put (ascii " ") ⨾ put x) t at r t₃ w' e
      (put_then _ _ _ _ _ _ p t₁ w' _ _ _ (held_put _ w') (put_only _ _ _ _ w' _ _ e₁) (put_then _ _ _ _ _ _ q t₂ w' _ _ _ (held_put _ w') (put_only _ _ _ _ w' _ _ e₂) (put_only _ _ _ _ w' _ _ e₃)))
      ∙ said_alike _ t at _ _ w (sym (fwd_is h))

-- a forward, by what was read of its flag
pub fwd_def : (b : TypeTable) (w : List ℕ) (B : Rules) (t : List ℕ) (at : Placed) (id : ℕ) (x is_union : Bool) (name : Name) (r : Placed) (t' w' : List ℕ) → x ≡ is_union
    → out_of r t' w' ≡ put_said t at (emit_composite_fwd (work_naming b) B id (not x) name) w → out_of r t' w' ≡ put_said t at (emit_fwd_def (work_naming b) B id is_union name) w
unfolding emit_fwd_def
fwd_def b w B t at id x is_union name r t' w' e o = o ∙ ap (λ (y : Bool). put_said t at (emit_composite_fwd (work_naming b) B id (not y) name) w) e
