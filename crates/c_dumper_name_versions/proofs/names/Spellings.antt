-- Laws of names as they are printed. Assumes nothing.
use Prim.Native.Nat.{ℕ, ◌<◌, ◌≤◌}
use mathlib.Core.Path.{◌≡◌, refl, ap, ◌∙◌, sym}
use mathlib.Core.List.{List, [], ◌∷◌, ◌++◌}
use mathlib.Core.Bool.{Bool, true, false}
use mathlib.Core.Logic.{⊎_elim}
use borrow.Author.Tests.{lt-ltb, le-ltb}
use Rattle.std.proofs.lemmas.Bool.{cases_lt}
use Rattle.std.specs.Prelude.{None, Err, IsErrAnd}
use Rattle.spec_bytes.specs.declared.refusal.Refusal.{Refusal}
use Rattle.spec_bytes.specs.text.Text.{ascii, whole}
use Rattle.spec_bytes.specs.text.Placed.{Placed, put_out, put_text}
use Rattle.spec_bytes.specs.text.Decimal.{decimal}
use Rattle.spec_bytes.proofs.text.TextLaws.{put_same, put_seq, put_empty, put_past, put_ended, put_halts}
use Rattle.spec_c_dumper.specs.rules.Types.{is_empty}
use Rattle.spec_c_dumper.specs.rules.Writer.{put}
use Rattle.spec_c_dumper.specs.rules.Names.{spelled}
use Rattle.spec_c_dumper.specs.rules.Decl.{sep_name, emit_name}
use Rattle.spec_type_table.specs.declared.types.TypeTable.{TypeTable}
use Rattle.spec_type_table.specs.Names.{str_at}
use Rattle.c_dumper_name_versions.specs.declared.names.versions.Name.{Name}
use Rattle.c_dumper_name_versions.specs.names.Spelling.{name_text, name_after}

module _ (name : List ℕ) (v : ℕ) where
  pub spelled_bare : v < 2 → spelled name v ≡ name
  unfolding spelled
  spelled_bare h = rw (lt-ltb v 2 h, spelled)

  pub spelled_more : 2 ≤ v → spelled name v ≡ name ++ ascii "___" ++ decimal v
  unfolding spelled
  spelled_more h = rw (le-ltb v 2 h, spelled)

never_empty : (a c d : List ℕ) (b : ℕ) → false ≡ is_empty (a ++ b ∷ c ++ d)
unfolding is_empty
never_empty [] c d b = refl
never_empty (x ∷ a) c d b = refl

-- a name that is there stays so with its version
pub spelled_some : (name : List ℕ) (v : ℕ) → is_empty name ≡ false → is_empty (spelled name v) ≡ false
spelled_some name v h =
    ⊎_elim
    (λ l. ap is_empty (spelled_bare name v l) ∙ h)
    (λ l. ap is_empty (spelled_more name v l) ∙ sym (never_empty name (95 ∷ 95 ∷ []) (decimal v) 95))
    (cases_lt v 2)

-- is_blank
module _ (name : List ℕ) (v n : ℕ) (is : v ≡ n) where
  pub blank_bare : (r : Bool) → v < 2 → r ≡ is_empty name → r ≡ is_empty (spelled name n)
  blank_bare r h e = e ∙ sym (ap is_empty (spelled_bare name v h)) ∙ ap (λ (x : ℕ). is_empty (spelled name x)) is

  pub blank_more : 2 ≤ v → false ≡ is_empty (spelled name n)
  blank_more h = never_empty name (95 ∷ 95 ∷ []) (decimal v) 95 ∙ sym (ap is_empty (spelled_more name v h)) ∙ ap (λ (x : ℕ). is_empty (spelled name x)) is

-- a name by itself
pub bare_text : (b : TypeTable) (s : List ℕ) (n : Name) (off : ℕ) → n ≡ record { off = off; number = None } → name_text b s n ≡ str_at b s off
unfolding spelled
bare_text b s n off e = ap (name_text b s) e

pub sep_more : (n : List ℕ) → is_empty n ≡ false → 32 ∷ n ≡ sep_name n
unfolding sep_name
sep_more n h = rw (h, sep_name)

module _ (t : List ℕ) (at r : Placed) (u : List ℕ) where
  -- put_name
  module _ (name : List ℕ) (v n : ℕ) (is : v ≡ n) where
    pub put_bare : v < 2 → put_out r u ≡ put_text t at (whole name) → put_out r u ≡ put_text t at (whole (spelled name n))
    put_bare h e = put_same t at name (spelled name n) r u (sym (spelled_bare name v h) ∙ ap (spelled name) is) e

    pub put_more : 2 ≤ v → put_out r u ≡ put_text t at (whole (name ++ ascii "___" ++ decimal v)) → put_out r u ≡ put_text t at (whole (spelled name n))
    put_more h e = put_same t at (name ++ ascii "___" ++ decimal v) (spelled name n) r u (sym (spelled_more name v h) ∙ ap (spelled name) is) e

  -- where the name stopped the writing
  pub put_stops : (name : List ℕ) (v : ℕ) (c : Refusal) → put_out (Err c) u ≡ put_text t at (whole name) → IsErrAnd r (λ e. e ≡ c) → put_out r u ≡ put_text t at (whole (spelled name v))
  put_stops name v c e i =
      ⊎_elim
      (λ h. put_bare name v v refl h (put_ended u r c (whole []) i ∙ sym (put_past u c (whole [])) ∙ e))
      (λ h. put_more name v v refl h (put_halts t at (name ++ ascii "___") (decimal v) c r u (put_seq t at name (ascii "___") (Err c) u (Err c) u e (put_past u c (whole (ascii "___")))) i))
      (cases_lt v 2)

  -- put_sep_name
  pub put_sep : (name : List ℕ) → is_empty name ≡ false → put_out r u ≡ put_text t at (whole (32 ∷ name)) → put_out r u ≡ put_text t at (whole (sep_name name))
  put_sep name h e = put_same t at (32 ∷ name) (sep_name name) r u (sep_more name h) e

  -- emit_name
  pub put_after : (name : List ℕ) (b : Bool) → b ≡ true → put_out r u ≡ put_text t at (whole name) → put_out r u ≡ put_text t at (whole (name_after name b))
  unfolding name_after
  put_after name b h e = rw h e

  pub put_apart : (name : List ℕ) (b : Bool) → b ≡ false → put_out r u ≡ put_text t at (whole (sep_name name)) → put_out r u ≡ put_text t at (whole (name_after name b))
  unfolding name_after
  put_apart name b h e = rw h e

pub put_no_name : (t : List ℕ) (at : Placed) (name : List ℕ) → is_empty name ≡ true → put_out at t ≡ put_text t at (whole (sep_name name))
unfolding sep_name
put_no_name t at name h = rw (h, sep_name) (put_empty t at)

-- what name_after is of the rules
pub emit_name_is : {U : Type 0} → (name : List ℕ) (b : Bool) (u : U) → emit_name name b u ≡ put (name_after name b) u
unfolding emit_name name_after
emit_name_is name true u = refl
emit_name_is name false u = refl
