-- The values of an enum: each one's line, and the loop over them. Assumes nothing.
use Prim.Native.Nat.{ℕ, suc, ◌+◌, ◌-◌, ◌<◌, ◌≤◌}
use mathlib.Core.Path.{◌≡◌, refl, ap, ap₂, ◌∙◌, sym}
use mathlib.Core.List.{List, [], ◌∷◌, ◌++◌, append_assoc}
use native.Mathlib.Omega.{arith}
use Rattle.std.specs.Prelude.{min, true, false, leb, Some, unwrap_or, Err, IsErrAnd}
use Rattle.spec_bytes.specs.declared.refusal.Refusal.{Refusal}
use Rattle.std.proofs.lemmas.Bool.Decides.{nat_tests}
use Rattle.spec_bytes.specs.text.Text.{ascii, pfx, whole}
use Rattle.spec_bytes.specs.text.Placed.{Placed, put_out, put_text}
use Rattle.spec_bytes.proofs.text.TextLaws.{put_seq}
use Rattle.spec_c_dumper.specs.rules.Types.{Enumerator, Btf as Rules}
use Rattle.spec_c_dumper.specs.rules.Writer.{Writer, put, ◌⨾◌}
use Rattle.spec_c_dumper.specs.rules.Place.{out_of, put_said}
use Rattle.spec_c_dumper.specs.rules.Names.{spelled, resolve_name}
use Rattle.spec_c_dumper.specs.rules.Decl.{deeper, emit_values}
use Rattle.spec_c_dumper.proofs.rules.Writing.{put_only, put_split, put_nothing, put_then, said_ended, said_alike}
use Rattle.spec_c_dumper.proofs.rules.Held.{Holds, held_put, held_then, held_value_name}
use Rattle.spec_type_table.specs.declared.types.TypeTable.{TypeTable}
use Rattle.spec_type_table.specs.Cells.{get_field}
use Rattle.spec_type_table.specs.Names.{str_at}
use Rattle.spec_type_table.specs.Table.{from, work_naming, value_version_in, enumerator_of}
use Rattle.spec_type_table.proofs.Frame.{enumerator_value_version}
use Rattle.c_dumper_name_versions.specs.declared.names.versions.Name.{Name as Code}
use Rattle.c_dumper_name_versions.specs.names.Spelling.{name_text}
use Rattle.c_dumper_name_versions.proofs.names.Resolve.{put_value_name}
use Rattle.c_dumper_bodies.specs.enumerators.Heads.{value_head}

-- ---- deeper, and the number of a value
pub deeper_is : (lvl : ℕ) → lvl < 4294967296 → min (lvl + 1) 4294967295 ≡ deeper lvl
unfolding deeper
deeper_is lvl h = grind (arith, nat_tests)

within : (n : ℕ) → min n 4294967295 ≡ elim (leb n 4294967295) [ true ↦ n | false ↦ 4294967295 ]
within n = grind (arith, nat_tests)

number_is : (w : List ℕ) (id first j : ℕ) → first ≡ get_field w id 12 → min (first + j) 4294967295 ≡ enumerator_of w id j
unfolding enumerator_of
number_is w id first j e = within (first + j) ∙ ap (λ (x : ℕ). elim (leb (x + j) 4294967295) [ true ↦ x + j | false ↦ 4294967295 ]) e

-- ---- emit_enumerator: the name's place and version are those of the rule
pub head_put : (b : TypeTable) (s : List ℕ) (types e off lvl : ℕ) (n : Code) (w w' t : List ℕ) (at p : Placed) (t₁ : List ℕ) (q : Placed) (t₂ : List ℕ) (o : Placed) (t₃ : List ℕ) (r : Placed) (u : List ℕ)
    → (n.off ≡ off) × (unwrap_or n.number 0 ≡ (value_version_in types e w).version) × (w' ≡ (value_version_in types e w).names)
    → put_out p t₁ ≡ put_text t at (whole (ascii "\n")) → put_out q t₂ ≡ put_text t₁ p (whole (pfx lvl)) → put_out o t₃ ≡ put_text t₂ q (whole (name_text b s n)) → put_out r u ≡ put_text t₃ o (whole (ascii " = "))
    → (put_out r u ≡ put_text t at (whole (value_head lvl (spelled (str_at b s off) (value_version_in types e w).version)))) × (w' ≡ (value_version_in types e w).names)
unfolding value_head
head_put b s types e off lvl n w w' t at p t₁ q t₂ o t₃ r u k e₁ e₂ e₃ e₄ = (
  put_seq _ _ _ _ _ _ _ _ (put_seq _ _ _ _ _ _ _ _ (put_seq _ _ _ _ _ _ _ _ e₁ e₂) e₃) e₄
      ∙ ap₂ (λ (x y : ℕ). put_text t at (whole (ascii "\n" ++ pfx lvl ++ spelled (str_at b s x) y ++ ascii " = "))) k.0 k.1,
  k.2,
)

-- ---- a line
-- what is written for a value with a name and a text
abbrev line : ℕ → List ℕ → List ℕ → Writer (List ℕ)
line lvl val n = put (ascii "\n") ⨾ put (pfx lvl) ⨾ put n ⨾ put (ascii " = ") ⨾ put val ⨾ put (ascii ",")

held_line : (lvl : ℕ) (val n : List ℕ) → Holds (line lvl val n)
held_line lvl val n = held_then _ _ (held_put _) (held_then _ _ (held_put _) (held_then _ _ (held_put _) (held_then _ _ (held_put _) (held_then _ _ (held_put _) (held_put _)))))

line_is : (lvl : ℕ) (n val u : List ℕ) → put (value_head lvl n ++ val ++ ascii ",") u ≡ line lvl val n u
unfolding value_head
line_is lvl n val u =
    ap (λ (x : List ℕ). put x u)
    (append_assoc (ascii "\n" ++ pfx lvl ++ n ++ ascii " = ") val (ascii ",")
    ∙ append_assoc (ascii "\n" ++ pfx lvl ++ n) (ascii " = ") (val ++ ascii ",")
    ∙ append_assoc (ascii "\n" ++ pfx lvl) n (ascii " = " ++ (val ++ ascii ","))
    ∙ append_assoc (ascii "\n") (pfx lvl) (n ++ (ascii " = " ++ (val ++ ascii ","))))
    ∙ put_split (ascii "\n") _ _ u (put_split (pfx lvl) _ _ u (put_split n _ _ u (put_split (ascii " = ") _ _ u (put_split val (ascii ",") _ u refl))))

module _ (b : TypeTable) (s : List ℕ) (id i e off lvl : ℕ) (val w w' : List ℕ) (ee : e ≡ enumerator_of w id i) (ew : w' ≡ (value_version_in b.types e w).names) where
  line_put : (t : List ℕ) (at a : Placed) (t₁ : List ℕ) (c : Placed) (t₂ : List ℕ) (q : Placed) (t₃ : List ℕ)
      → put_out a t₁ ≡ put_text t at (whole (value_head lvl (spelled (str_at b s off) (value_version_in b.types e w).version)))
      → put_out c t₂ ≡ put_text t₁ a (whole val) → put_out q t₃ ≡ put_text t₂ c (whole (ascii ","))
      → out_of q t₃ w' ≡ put_said t at (resolve_name (work_naming b) id i (str_at b s off) (line lvl val)) w
  line_put t at a t₁ c t₂ q t₃ e₁ e₂ e₃ =
      let n : Code = record { off = off; number = Some (value_version_in b.types e w).version } in
      put_value_name b s id i e off n w w' (line lvl val) t at q t₃ w' ee (refl, refl, ew)
      (put_only _ t at (value_head lvl (spelled (str_at b s off) (value_version_in b.types e w).version) ++ val ++ ascii ",") w' q t₃ (put_seq _ _ _ _ _ _ _ _ (put_seq _ _ _ _ _ _ _ _ e₁ e₂) e₃)
      ∙ said_alike _ t at _ _ w' (line_is lvl (spelled (str_at b s off) (value_version_in b.types e w).version) val w'))

-- ---- the loop
pub from_more : {E : Type 0} (f : ℕ → E) (k n : ℕ) → k < n → from f k (n - k) ≡ f k ∷ from f (k + 1) (n - (k + 1))
unfolding from
from_more f k n h = let e : n - k ≡ suc (n - (k + 1)) = omega arith in ap (from f k) e

pub from_none : {E : Type 0} (f : ℕ → E) (k n : ℕ) → n ≤ k → from f k (n - k) ≡ []
unfolding from
from_none f k n h = let e : n - k ≡ 0 = omega arith in ap (from f k) e

module _ (b : TypeTable) (B : Rules) (str : ℕ → List ℕ) (f : ℕ → Enumerator) (id lvl n first : ℕ) (t₀ : List ℕ) (at : Placed) (w₀ : List ℕ) where
  abbrev left : ℕ → Writer (List ℕ)
  left k = emit_values (work_naming b) B str id lvl k (from f k (n - k))

  -- the numbers of the values are as they were, and whatever writes what is left has written the whole
  pub ValuesLeft : List ℕ → Placed → List ℕ → ℕ → Type 0
  ValuesLeft text p w k =
      ((j : ℕ) → min (first + j) 4294967295 ≡ enumerator_of w id j)
      × ((r : Placed) (t u : List ℕ) → out_of r t u ≡ put_said text p (left k) w → out_of r t u ≡ put_said t₀ at (emit_values (work_naming b) B str id lvl 0 (from f 0 n)) w₀)

  pub values_start : first ≡ get_field w₀ id 12 → ValuesLeft t₀ at w₀ 0
  unfolding ValuesLeft
  values_start e = ((λ j. number_is w₀ id first j e), λ r t u o. o ∙ ap (λ (m : ℕ). put_said t₀ at (emit_values (work_naming b) B str id lvl 0 (from f 0 m)) w₀) same)
    where
      same : n - 0 ≡ n
      same = omega arith

  module _ (text : List ℕ) (p : Placed) (w : List ℕ) (k : ℕ) where
    one_more : k < n → left k w ≡ (resolve_name (work_naming b) id k (f k).name (line lvl (str (f k).value)) ⨾ left (k + 1)) w
    unfolding emit_values
    one_more h = ap (λ (vs : List Enumerator). emit_values (work_naming b) B str id lvl k vs w) (from_more f k n h)

    none_left : n ≤ k → left k w ≡ put [] w
    unfolding emit_values
    none_left h = ap (λ (vs : List Enumerator). emit_values (work_naming b) B str id lvl k vs w) (from_none f k n h)

    pub values_end : ValuesLeft text p w k → n ≤ k → out_of p text w ≡ put_said t₀ at (emit_values (work_naming b) B str id lvl 0 (from f 0 n)) w₀
    unfolding ValuesLeft
    values_end i h = i.1 p text w (put_nothing _ text p w ∙ said_alike _ text p _ _ w (sym (none_left h)))

    -- what stopped the writing of one line stopped the whole
    pub values_stop : (c : Refusal) (r : Placed) → p ≡ Err c → ValuesLeft text p w k → IsErrAnd r (λ x. x ≡ c) → out_of r text w ≡ put_said t₀ at (emit_values (work_naming b) B str id lvl 0 (from f 0 n)) w₀
    unfolding ValuesLeft
    values_stop c r ep i j = i.1 r text w (said_ended _ text r c (left k) w j ∙ ap (λ (x : Placed). put_said text x (left k) w) (sym ep))

    pub values_turn : (s : List ℕ) (e off v : ℕ) (a : Placed) (t₁ : List ℕ) (c : Placed) (t₂ : List ℕ) (q : Placed) (t₃ w' : List ℕ)
        → ValuesLeft text p w k → k < n → e ≡ min (first + k) 4294967295 → str_at b s off ≡ (f k).name → v ≡ (f k).value
        → (put_out a t₁ ≡ put_text text p (whole (value_head lvl (spelled (str_at b s off) (value_version_in b.types e w).version)))) × (w' ≡ (value_version_in b.types e w).names)
        → put_out c t₂ ≡ put_text t₁ a (whole (str v)) → put_out q t₃ ≡ put_text t₂ c (whole (ascii ","))
        → ValuesLeft t₃ q w' (k + 1)
    unfolding ValuesLeft
    values_turn s e off v a t₁ c t₂ q t₃ w' i h ee en ev e₁ e₂ e₃ = (
      (λ j. i.0 j ∙ sym (enumerator_value_version b.types w id j e) ∙ ap (λ (x : List ℕ). enumerator_of x id j) (sym e₁.1)),
      λ r t u o.
          i.1 r t u
          (put_then _ text p (resolve_name (work_naming b) id k (f k).name (line lvl (str (f k).value))) (left (k + 1)) w q t₃ w' r t u
          (held_value_name (work_naming b) id k (f k).name _ (held_line lvl (str (f k).value)) w)
          (line_put b s id k e off lvl (str v) w w' (ee ∙ i.0 k) e₁.1 text p a t₁ c t₂ q t₃ e₁.0 e₂ e₃
          ∙ ap₂ (λ (x : List ℕ) (y : ℕ). put_said text p (resolve_name (work_naming b) id k x (line lvl (str y))) w) en ev)
          o
          ∙ said_alike _ text p _ _ w (sym (one_more h))),
    )
