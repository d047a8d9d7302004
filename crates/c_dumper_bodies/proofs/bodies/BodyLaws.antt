-- What the functions of src/bodies.rt write. Assumes nothing.
use Prim.Native.Nat.{ℕ, zero, suc}
use mathlib.Core.Path.{◌≡◌, ap, ◌∙◌, sym}
use mathlib.Core.Bool.{Bool, true, false}
use mathlib.Core.List.{List, []}
use native.Mathlib.Omega.{arith}
use Rattle.spec_bytes.specs.text.Text.{ascii, pfx, whole}
use Rattle.spec_bytes.specs.text.Placed.{Placed, put_out, put_text}
use Rattle.spec_bytes.proofs.text.TextLaws.{put_cut}
use Rattle.spec_c_dumper.specs.rules.Writer.{Ask, Writer, put, given, ◌⨾◌}
use Rattle.spec_c_dumper.specs.rules.Types.{Name, is_empty, Member, Enumerator, Btf as Rules}
use Rattle.spec_c_dumper.specs.rules.Names.{tag_space, ident_space, Naming, resolve_type_name}
use Rattle.spec_c_dumper.specs.rules.Layout.{end_of}
use Rattle.spec_c_dumper.specs.rules.Decl.{keyword, sep_name, decl_tags, emit_decl_tags, last_newline, emit_enum_def, composite_head, composite_end}
use Rattle.spec_c_dumper.specs.rules.Place.{Wrote, out_of, put_said}
use Rattle.spec_c_dumper.proofs.rules.Writing.{put_only, stop_only, put_then, put_given, put_refused, said_past, said_alike}
use Rattle.spec_c_dumper.proofs.rules.Held.{held_put}
use Rattle.spec_type_table.specs.declared.types.TypeTable.{TypeTable}
use Rattle.spec_type_table.specs.Table.{from, btf_of, work_naming}
use Rattle.c_dumper_name_versions.proofs.names.Resolve.{put_type_name}
use Rattle.c_dumper_name_versions.proofs.forwards.Forwards.{keyword_same}
use Rattle.std.specs.Result.{result_unwrap_or}
use Rattle.std.specs.Prelude.{Result, Ok, Err, IsErrAnd, ⊤}
use Rattle.spec_bytes.specs.declared.refusal.Refusal.{Refusal}
use Rattle.spec_bytes.specs.Refusals.{refusal_number}
use Rattle.btf_layout.specs.size.Answers.{ask_of}
use Rattle.c_dumper_bodies.specs.bodies.Pieces.{line_end, packed_text, size_text, member_tail, end_from, enum_text, no_decl}
use Rattle.c_dumper_bodies.specs.enumerators.Heads.{enum_head}
use Rattle.c_dumper_bodies.proofs.enumerators.Definitions.{enum_mention}
use Rattle.c_dumper_bodies.proofs.bodies.WordLaws.{size_is, line_some}

-- a text, then a writer
module _ {U : Type 0} where
  pub also : (t : List ℕ) (at : Placed) (a : List ℕ) (w : Writer U) (u : U) (n : Placed) (t' : List ℕ) (r : Placed) (t'' : List ℕ) (u'' : U)
      → put_out n t' ≡ put_text t at (whole a) → out_of r t'' u'' ≡ put_said t' n w u → out_of r t'' u'' ≡ put_said t at (put a ⨾ w) u
  also t at a w u n t' r t'' u'' e₁ e₂ = put_then _ t at (put a) w u n t' u r t'' u'' (held_put a u) (put_only _ t at a u n t' e₁) e₂

-- ---- a typedef's own name
pub typedef_name : (b : TypeTable) (id : ℕ) (name a : Name) (t : List ℕ) (at : Placed) (w w' : List ℕ) (r : Placed) (t' : List ℕ)
    → put a w' ≡ resolve_type_name (work_naming b) tag_space id name put w → put_out r t' ≡ put_text t at (whole a)
    → out_of r t' w' ≡ put_said t at (resolve_type_name (work_naming b) ident_space id name put) w
typedef_name b id name a t at w w' r t' e₁ e₂ = put_type_name b tag_space ident_space id name a w w' put t at r t' w' e₁ (put_only _ t at a w' r t' e₂)

-- ---- enums
module _ (N : Naming (List ℕ)) (B : Rules) (str : ℕ → List ℕ) (id : ℕ) (name : Name) (vs : List Enumerator) (lvl : ℕ) (t : List ℕ) (at : Placed) (u : List ℕ) (r : Placed) (t' u' : List ℕ) where
  pub enum_inline : is_empty name ≡ true → out_of r t' u' ≡ put_said t at (emit_enum_def N B str id name vs lvl) u → out_of r t' u' ≡ put_said t at (enum_text N B str id name vs lvl) u
  unfolding enum_text
  enum_inline h e = rw (h, enum_text) e

  pub enum_named : is_empty name ≡ false → out_of r t' u' ≡ put_said t at (enum_head N id name) u → out_of r t' u' ≡ put_said t at (enum_text N B str id name vs lvl) u
  unfolding enum_text
  enum_named h e = rw (h, enum_text) (e ∙ said_alike _ t at _ _ u (enum_mention N id name u h B))

-- ---- a composite's head
module _ (b : TypeTable) (s : List ℕ) (id : ℕ) (is_struct : Bool) (name a : Name) (t : List ℕ) (at : Placed) (w w' : List ℕ) where
  pub head_put : (x : Bool) (p : Placed) (t₁ : List ℕ) (q : Placed) (t₂ : List ℕ) (r : Placed) (t₃ : List ℕ)
      → put a w' ≡ resolve_type_name (work_naming b) tag_space id name put w → x ≡ is_struct
      → put_out p t₁ ≡ put_text t at (whole (keyword (btf_of b [] []) x)) → put_out q t₂ ≡ put_text t₁ p (whole (sep_name a)) → put_out r t₃ ≡ put_text t₂ q (whole (ascii " {"))
      → out_of r t₃ w' ≡ put_said t at (composite_head (work_naming b) (btf_of b s w) no_decl id is_struct name) w
  unfolding composite_head
  head_put x p t₁ q t₂ r t₃ e ex e₁ e₂ e₃ =
      put_type_name b tag_space tag_space id name a w w' (λ n. put (keyword (btf_of b s w) is_struct) ⨾ put (sep_name n) ⨾ put (ascii " {")) t at r t₃ w' e
      (also t at _ _ w' p t₁ r t₃ w' (e₁ ∙ ap (put_text t at) (ap whole (ap (keyword (btf_of b [] [])) ex ∙ keyword_same b [] [] s w is_struct)))
      (also t₁ p _ _ w' q t₂ r t₃ w' e₂ (put_only _ t₂ q (ascii " {") w' r t₃ e₃)))

-- ---- after a member

-- `?` hands on what stopped the writing
pub handed : {U : Type 0} (r : Placed) (c : Refusal) (t : List ℕ) (u : U) (o : Wrote U ⊤) → IsErrAnd r (λ x. x ≡ c) → out_of (Err c) t u ≡ o → out_of r t u ≡ o
handed (Ok x) c t u o i e = absurd i
handed (Err d) c t u o i e = ap (λ (k : Refusal). out_of (Err k) t u) i ∙ e

module _ (B : Rules) (id k : ℕ) (m : Member) (t : List ℕ) (at : Placed) (w : List ℕ) (p : Placed) (t₁ : List ℕ) where
  -- the size of a bit field, and what is written after it
  tail_put : (r : Placed) (t₂ : List ℕ) → put_out p t₁ ≡ put_text t at (whole (size_text m.bit_size))
      → out_of r t₂ w ≡ put_said t₁ p (given (end_of B m) (λ end. emit_decl_tags B id k ⨾ put (ascii ";"))) w → out_of r t₂ w ≡ put_said t at (member_tail B id k m) w
  unfolding member_tail
  tail_put r t₂ e₁ e₂ = also t at _ _ w p t₁ r t₂ w (e₁ ∙ ap (put_text t at) (ap whole (size_is m))) e₂

  pub tail_got : (n : ℕ) (q : Placed) (t₂ : List ℕ) (r : Placed) (t₃ : List ℕ) → ask_of (Ok n) ≡ end_of B m
      → put_out p t₁ ≡ put_text t at (whole (size_text m.bit_size)) → put_out q t₂ ≡ put_text t₁ p (whole (decl_tags B k (B.decl_tags id))) → put_out r t₃ ≡ put_text t₂ q (whole (ascii ";"))
      → out_of r t₃ w ≡ put_said t at (member_tail B id k m) w
  unfolding ask_of
  tail_got n q t₂ r t₃ ea e₁ e₂ e₃ =
      tail_put r t₃ e₁
      (put_given _ t₁ p (λ end. emit_decl_tags B id k ⨾ put (ascii ";")) w n (end_of B m) r t₃ w (sym ea)
      (also t₁ p _ _ w q t₂ r t₃ w e₂ (put_only _ t₂ q (ascii ";") w r t₃ e₃)))

  -- the size stopped the writing
  pub tail_size : (c : Refusal) → p ≡ Err c → put_out p t₁ ≡ put_text t at (whole (size_text m.bit_size)) → out_of p t₁ w ≡ put_said t at (member_tail B id k m) w
  tail_size c ep e₁ = tail_put p t₁ e₁ (rw ep (said_past _ t₁ c (given (end_of B m) (λ end. emit_decl_tags B id k ⨾ put (ascii ";"))) w))

-- there is no end
pub tail_no : (B : Rules) (id k : ℕ) (m : Member) (t : List ℕ) (at : Placed) (w : List ℕ) (p : ℕ) (t₁ : List ℕ) (c : Refusal) → ask_of {A = ℕ} (Err c) ≡ end_of B m
    → put_out (Ok p) t₁ ≡ put_text t at (whole (size_text m.bit_size)) → out_of (Err c) t₁ w ≡ put_said t at (member_tail B id k m) w
unfolding ask_of
tail_no B id k m t at w p t₁ c ea e₁ =
    tail_put B id k m t at w (Ok p) t₁ (Err c) t₁ e₁
    (put_refused _ t₁ (Ok p) (λ end. emit_decl_tags B id k ⨾ put (ascii ";")) w (refusal_number c) (end_of B m) (Err c) t₁ w (sym ea) (stop_only _ t₁ (Ok p) (refusal_number c) w (Err c) t₁ (put_cut t₁ p c)))

-- where the next member may begin
pub end_offset : (e : Result ℕ Refusal) (a : Ask ℕ) (n : ℕ) → ask_of e ≡ a → n ≡ result_unwrap_or e 0 → n ≡ end_from a
unfolding ask_of end_from
end_offset (Ok x) a n h e = e ∙ ap end_from h
end_offset (Err c) a n h e = e ∙ ap end_from h

-- ---- a composite's end
last_line : (f : ℕ → Member) (n v : ℕ) → v ≡ n → line_end v ≡ last_newline (from f 0 n)
unfolding line_end last_newline from
last_line f zero v e = ap line_end e
last_line f (suc n) v e = sym (line_some v (λ z. omega arith))

module _ (N : Naming (List ℕ)) (B : Rules) (id lvl : ℕ) (f : ℕ → Member) (n : ℕ) (packed : Bool) (t : List ℕ) (at : Placed) (w : List ℕ) where
  pub end_put : (v : ℕ) (p : Placed) (t₁ : List ℕ) (q : Placed) (t₂ : List ℕ) (o : Placed) (t₃ : List ℕ) (i : Placed) (t₄ : List ℕ) (r : Placed) (t₅ : List ℕ) → v ≡ n
      → put_out p t₁ ≡ put_text t at (whole (line_end v)) → put_out q t₂ ≡ put_text t₁ p (whole (pfx lvl)) → put_out o t₃ ≡ put_text t₂ q (whole (ascii "}"))
      → put_out i t₄ ≡ put_text t₃ o (whole (packed_text packed)) → put_out r t₅ ≡ put_text t₄ i (whole (decl_tags B 4294967295 (B.decl_tags id)))
      → out_of r t₅ w ≡ put_said t at (composite_end N B no_decl id lvl (from f 0 n) packed) w
  unfolding composite_end packed_text
  end_put v p t₁ q t₂ o t₃ i t₄ r t₅ ev e₁ e₂ e₃ e₄ e₅ =
      also t at _ _ w p t₁ r t₅ w (e₁ ∙ ap (put_text t at) (ap whole (last_line f n v ev)))
      (also t₁ p _ _ w q t₂ r t₅ w e₂ (also t₂ q _ _ w o t₃ r t₅ w e₃ (also t₃ o _ _ w i t₄ r t₅ w e₄ (put_only _ t₄ i _ w r t₅ e₅))))
