-- Heads, ends and whole definitions of enums. Assumes nothing.
use Prim.Native.Nat.{ℕ, zero, suc, ◌+◌}
use mathlib.Core.Path.{◌≡◌, refl, ap, ◌∙◌, sym}
use mathlib.Core.List.{List, [], ◌∷◌, ◌++◌, append_assoc}
use mathlib.Core.Bool.{true, false}
use Rattle.std.specs.Prelude.{Err, IsErrAnd}
use Rattle.spec_bytes.specs.declared.refusal.Refusal.{Refusal}
use Rattle.spec_bytes.specs.text.Text.{ascii, pfx, whole, join}
use Rattle.spec_bytes.specs.text.Placed.{Placed, put_out, put_text}
use Rattle.spec_bytes.proofs.text.TextLaws.{put_seq, put_ended}
use Rattle.spec_c_dumper.specs.rules.Types.{Name, is_empty, Enumerator, Btf as Rules}
use Rattle.spec_c_dumper.specs.rules.Writer.{Writer, after, next, put, nothing, ◌⨾◌}
use Rattle.spec_c_dumper.specs.rules.Place.{none_held, out_of, put_said}
use Rattle.spec_c_dumper.specs.rules.Names.{Naming, tag_space, spelled, resolving, resolve_type_name, builtin}
use Rattle.spec_c_dumper.specs.rules.Decl.{deeper, sep_name, emit_values, enum_body, emit_enum_def, enum_word}
use Rattle.spec_c_dumper.proofs.rules.Writing.{put_only, put_split, put_nothing, put_then, said_past, said_ended, said_alike}
use Rattle.spec_c_dumper.proofs.rules.Held.{Holds, held_put, held_then, held_type_name}
use Rattle.spec_c_dumper.proofs.rules.Keeps.{keeps_emit_values}
use Rattle.spec_type_table.specs.declared.types.TypeTable.{TypeTable}
use Rattle.spec_type_table.specs.Table.{from, work_naming}
use Rattle.c_dumper_name_versions.proofs.names.Resolve.{put_type_name}
use Rattle.c_dumper_name_versions.proofs.names.Spellings.{spelled_some, sep_more}
use Rattle.c_dumper_bodies.specs.enumerators.Heads.{enum_head, enum_end}

-- ---- emit_enum_head: the name was resolved, and two texts written
module _ (b : TypeTable) (id : ℕ) (name n w w' : List ℕ) (t : List ℕ) (at p : Placed) (t₁ : List ℕ) (r : Placed) (t₂ : List ℕ)
    (e : put n w' ≡ resolve_type_name (work_naming b) tag_space id name put w) where
  two : (a c : List ℕ) → put_out p t₁ ≡ put_text t at (whole a) → put_out r t₂ ≡ put_text t₁ p (whole c) → out_of r t₂ w' ≡ put_said t at (put a ⨾ put c) w'
  two a c e₁ e₂ = put_then _ t at (put a) (put c) w' p t₁ w' r t₂ w' (held_put a w') (put_only _ t at a w' p t₁ e₁) (put_only _ t₁ p c w' r t₂ e₂)

  pub head_put : put_out p t₁ ≡ put_text t at (whole (ascii "enum")) → put_out r t₂ ≡ put_text t₁ p (whole (sep_name n)) → out_of r t₂ w' ≡ put_said t at (enum_head (work_naming b) id name) w
  unfolding enum_head
  head_put e₁ e₂ = put_type_name b tag_space tag_space id name n w w' (λ x. put (ascii "enum") ⨾ put (sep_name x)) t at r t₂ w' e (two _ _ e₁ e₂)

held_head : {U : Type 0} (N : Naming U) (id : ℕ) (name : Name) → Holds (enum_head N id name)
unfolding enum_head
held_head N id name = held_type_name N tag_space id name _ (λ n. held_then (put (ascii "enum")) (put (sep_name n)) (held_put _) (held_put _))

-- a name that is there: the mention of an enum is the head of its definition
named_text : (n u : List ℕ) → is_empty n ≡ false → (put (ascii "enum") ⨾ put (sep_name n)) u ≡ (put (ascii "enum ") ⨾ put n) u
unfolding put ◌⨾◌ next after join
named_text n u h = ap (λ (x : List ℕ). (put (ascii "enum") ⨾ put x) u) (sym (sep_more n h))

module _ (N : Naming (List ℕ)) (id : ℕ) (name u : List ℕ) (h : is_empty name ≡ false) where
  with_name : (k : Name → Writer (List ℕ)) → resolve_type_name N tag_space id name k u ≡ resolving (N.type_version tag_space id name) (λ v. k (spelled name v)) u
  unfolding resolve_type_name
  with_name k = rw (h, resolve_type_name) refl

  pub enum_mention : (B : Rules) → enum_head N id name u ≡ enum_word N B id name u
  unfolding enum_head enum_word
  enum_mention B =
      with_name (λ n. put (ascii "enum") ⨾ put (sep_name n))
      ∙ ap (λ (k : ℕ → Writer (List ℕ)). resolving (N.type_version tag_space id name) k u) (λ i v x. named_text (spelled name v) x (spelled_some name v h) i)
      ∙ sym (with_name (λ n. put (ascii "enum ") ⨾ put n))

-- ---- emit_enum_end
pub end_put : (t : List ℕ) (at : Placed) (lvl : ℕ) (p : Placed) (t₁ : List ℕ) (q : Placed) (t₂ : List ℕ) (r : Placed) (u : List ℕ)
    → put_out p t₁ ≡ put_text t at (whole (ascii "\n")) → put_out q t₂ ≡ put_text t₁ p (whole (pfx lvl)) → put_out r u ≡ put_text t₂ q (whole (ascii "}"))
    → put_out r u ≡ put_text t at (whole (enum_end lvl))
unfolding enum_end
end_put t at lvl p t₁ q t₂ r u e₁ e₂ e₃ = put_seq t at (ascii "\n" ++ pfx lvl) (ascii "}") q t₂ r u (put_seq t at (ascii "\n") (pfx lvl) p t₁ q t₂ e₁ e₂) e₃

end_is : (lvl : ℕ) (u : List ℕ) → put (enum_end lvl) u ≡ (put (ascii "\n") ⨾ put (pfx lvl) ⨾ put (ascii "}")) u
unfolding enum_end
end_is lvl u =
    ap (λ (x : List ℕ). put x u) (append_assoc (ascii "\n") (pfx lvl) (ascii "}"))
    ∙ put_split (ascii "\n") (pfx lvl ++ ascii "}") _ u (put_split (pfx lvl) (ascii "}") _ u refl)

-- ---- the values are a matter of the names alone
values_any : {U : Type 0} (N : Naming U) (B B' : Rules) (str : ℕ → List ℕ) (id lvl i : ℕ) (vs : List Enumerator) → emit_values N B str id lvl i vs ≡ emit_values N B' str id lvl i vs
unfolding emit_values
values_any N B B' str id lvl i [] = refl
values_any N B B' str id lvl i (v ∷ vs) = ap (◌⨾◌ _) (values_any N B B' str id lvl (i + 1) vs)

-- ---- emit_enum_def, emit_enum64_def
module _ (b : TypeTable) (B : Rules) (str : ℕ → List ℕ) (id : ℕ) (name : Name) (lvl : ℕ) (w t : List ℕ) (at : Placed) where
  pub def_builtin : (vs : List Enumerator) → builtin name ≡ true → out_of at t w ≡ put_said t at (emit_enum_def (work_naming b) B str id name vs lvl) w
  unfolding emit_enum_def
  def_builtin vs h = rw (h, emit_enum_def) (put_nothing _ t at w)

  def_is : (vs : List Enumerator) → builtin name ≡ false → emit_enum_def (work_naming b) B str id name vs lvl w ≡ (enum_head (work_naming b) id name ⨾ enum_body (work_naming b) B str id lvl vs) w
  unfolding emit_enum_def enum_head
  def_is vs h = rw (h, emit_enum_def)

  -- the head stopped the writing
  pub def_head : (vs : List Enumerator) (t₁ w₁ : List ℕ) (c : Refusal) (r : Placed) → builtin name ≡ false → out_of (Err c) t₁ w₁ ≡ put_said t at (enum_head (work_naming b) id name) w
      → IsErrAnd r (λ x. x ≡ c) → out_of r t₁ w₁ ≡ put_said t at (emit_enum_def (work_naming b) B str id name vs lvl) w
  def_head vs t₁ w₁ c r h e i =
      put_then _ t at (enum_head (work_naming b) id name) (enum_body (work_naming b) B str id lvl vs) w (Err c) t₁ w₁ r t₁ w₁ (held_head (work_naming b) id name w) e
      (said_ended _ t₁ r c (enum_body (work_naming b) B str id lvl vs) w₁ i)
      ∙ said_alike _ t at _ _ w (sym (def_is vs h))

  module _ (f : ℕ → Enumerator) (a : Placed) (t₁ w₁ : List ℕ) (h : builtin name ≡ false) (e : out_of a t₁ w₁ ≡ put_said t at (enum_head (work_naming b) id name) w) where
    body_none : (n : ℕ) → n ≡ 0 → nothing w₁ ≡ enum_body (work_naming b) B str id lvl (from f 0 n) w₁
    unfolding enum_body from
    body_none n z = ap (λ (m : ℕ). enum_body (work_naming b) B str id lvl (from f 0 m) w₁) (sym z)

    -- no value
    pub def_none : (n : ℕ) → n ≡ 0 → out_of a t₁ w₁ ≡ put_said t at (emit_enum_def (work_naming b) B str id name (from f 0 n) lvl) w
    def_none n z =
        put_then _ t at (enum_head (work_naming b) id name) (enum_body (work_naming b) B str id lvl (from f 0 n)) w a t₁ w₁ a t₁ w₁ (held_head (work_naming b) id name w) e
        (put_nothing _ t₁ a w₁ ∙ said_alike _ t₁ a _ _ w₁ (body_none n z))
        ∙ said_alike _ t at _ _ w (sym (def_is (from f 0 n) h))

    body_some : (n : ℕ) → (n ≡ 0 → ⊥)
        → (put (ascii " {") ⨾ emit_values (work_naming b) B str id (deeper lvl) 0 (from f 0 n) ⨾ put (ascii "\n") ⨾ put (pfx lvl) ⨾ put (ascii "}")) w₁ ≡ enum_body (work_naming b) B str id lvl (from f 0 n) w₁
    unfolding enum_body from
    body_some zero z = absurd (z refl)
    body_some (suc n) z = refl

    -- some
    pub def_some : (n : ℕ) (B' : Rules) (d : ℕ) (c : Placed) (t₂ : List ℕ) (g : Placed) (t₃ w₃ : List ℕ) (r : Placed) (t₄ : List ℕ) → (n ≡ 0 → ⊥) → d ≡ deeper lvl
        → put_out c t₂ ≡ put_text t₁ a (whole (ascii " {"))
        → out_of g t₃ w₃ ≡ put_said t₂ c (emit_values (work_naming b) B' str id d 0 (from f 0 n)) w₁
        → put_out r t₄ ≡ put_text t₃ g (whole (enum_end lvl))
        → out_of r t₄ w₃ ≡ put_said t at (emit_enum_def (work_naming b) B str id name (from f 0 n) lvl) w
    def_some n B' d c t₂ g t₃ w₃ r t₄ z ed e₁ e₂ e₃ =
        put_then _ t at (enum_head (work_naming b) id name) (enum_body (work_naming b) B str id lvl (from f 0 n)) w a t₁ w₁ r t₄ w₃ (held_head (work_naming b) id name w) e
        (put_then _ t₁ a (put (ascii " {")) (emit_values (work_naming b) B str id (deeper lvl) 0 (from f 0 n) ⨾ put (ascii "\n") ⨾ put (pfx lvl) ⨾ put (ascii "}")) w₁ c t₂ w₁ r t₄ w₃
        (held_put (ascii " {") w₁)
        (put_only _ t₁ a (ascii " {") w₁ c t₂ e₁)
        (put_then _ t₂ c (emit_values (work_naming b) B str id (deeper lvl) 0 (from f 0 n)) (put (ascii "\n") ⨾ put (pfx lvl) ⨾ put (ascii "}")) w₁ g t₃ w₃ r t₄ w₃
        (keeps_emit_values (work_naming b) none_held (λ space x n u. refl) (λ x i n u. refl) B str id (deeper lvl) 0 (from f 0 n) w₁).1
        (e₂ ∙ values_here)
        (put_only _ t₃ g (enum_end lvl) w₃ r t₄ e₃ ∙ said_alike _ t₃ g _ _ w₃ (end_is lvl w₃)))
        ∙ said_alike _ t₁ a _ _ w₁ (body_some n z))
        ∙ said_alike _ t at _ _ w (sym (def_is (from f 0 n) h))
      where
        values_here : put_said t₂ c (emit_values (work_naming b) B' str id d 0 (from f 0 n)) w₁ ≡ put_said t₂ c (emit_values (work_naming b) B str id (deeper lvl) 0 (from f 0 n)) w₁
        values_here =
            ap (λ (x : ℕ). put_said t₂ c (emit_values (work_naming b) B' str id x 0 (from f 0 n)) w₁) ed
            ∙ ap (λ (v : Writer (List ℕ)). put_said t₂ c v w₁) (values_any (work_naming b) B' B str id (deeper lvl) 0 (from f 0 n))

    -- the bracket did
    pub def_open : (n : ℕ) (t₂ : List ℕ) (c : Refusal) (r : Placed) → (n ≡ 0 → ⊥) → put_out (Err c) t₂ ≡ put_text t₁ a (whole (ascii " {")) → IsErrAnd r (λ x. x ≡ c)
        → out_of r t₂ w₁ ≡ put_said t at (emit_enum_def (work_naming b) B str id name (from f 0 n) lvl) w
    def_open n t₂ c r z e₁ i =
        def_some n B (deeper lvl) (Err c) t₂ (Err c) t₂ w₁ r t₂ z refl e₁
        (said_past _ t₂ c (emit_values (work_naming b) B str id (deeper lvl) 0 (from f 0 n)) w₁)
        (put_ended t₂ r c (whole (enum_end lvl)) i)
