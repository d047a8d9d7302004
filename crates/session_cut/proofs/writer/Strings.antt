-- Laws of the writer of the string area: for each return, and for each loop its start, its turn and its end. Assumes nothing.
use Prim.Native.Nat.{ℕ, ◌+◌}
use native.Mathlib.Omega.{arith}
use native.Mathlib.Numerals.{add-one}
use mathlib.Core.Path.{◌≡◌, refl, sym, ◌∙◌, ap}
use mathlib.Core.Bool.{Bool, true, false}
use mathlib.Core.List.{List, [], ◌∷◌}
use lib.ListN.{length}
use Rattle.spec_bytes.specs.text.Text.{whole}
use Rattle.spec_bytes.specs.text.Placed.{Placed, put_out, put_text}
use Rattle.spec_bytes.proofs.text.TextLaws.{put_seq, put_empty}
use Rattle.spec_type_table.specs.declared.types.TypeTable.{TypeTable}
use Rattle.spec_type_table.specs.Names.{str_at}
use Rattle.session_cut_marks.specs.roles.Words.{word_of}
use Rattle.session_cut_marks.specs.mentioned.Names.{is_new, new_size, new_sizes, base_of}
use Rattle.session_cut_marks.specs.mentioned.Strings.{name_bytes}
use Rattle.std.proofs.Common.{Option, Some, None}
use Rattle.std.proofs.lemmas.Option.{none-some}
use Rattle.session_cut.specs.declared.writer.source.Told.{Told}
use Rattle.session_cut.specs.declared.writer.source.Told.TheVariants.{New, At, Elsewhere}
use Rattle.session_cut.specs.writer.Bytes.{told_of, is_told_new, told_place}

-- ---- what is told of a name
pub told_new : (t : Told) → t ≡ New → is_told_new t ≡ true
told_new t h = ap is_told_new h

pub told_other : (t : Told) → (t ≡ New → ⊥) → is_told_new t ≡ false
told_other New n = absurd (n refl)
told_other (At p) n = refl
told_other Elsewhere n = refl

pub told_is : (new : Bool) (place : Option ℕ) (t : Told) → t ≡ told_of new place → is_told_new t ≡ new
unfolding told_of
told_is true place t h = ap is_told_new h
told_is false None t h = ap is_told_new h
told_is false (Some p) t h = ap is_told_new h

-- a place that is told is the table's
pub told_in : (new : Bool) (place : Option ℕ) (t : Told) → t ≡ told_of new place → (p : ℕ) → told_place t ≡ Some p → place ≡ Some p
unfolding told_of
told_in true place t h p g = absurd (none-some p (sym (ap told_place h) ∙ g))
told_in false None t h p g = absurd (none-some p (sym (ap told_place h) ∙ g))
told_in false (Some q) t h p g = sym (ap told_place h) ∙ g

module _ (b : TypeTable) (s start ids : List ℕ) (x e j : ℕ) where
  sizes_more : new_sizes b s start ids x e (j + 1) ≡ new_sizes b s start ids x e j + new_size b s start ids x e j
  unfolding new_sizes
  sizes_more = rw add-one refl

  module _ (z : is_new b s start ids x e j ≡ false) where
    pub name_none : (t : List ℕ) (at : Placed) → put_out at t ≡ put_text t at (whole (name_bytes b s start ids x e j))
    unfolding name_bytes
    name_none t at = rw (z, name_bytes) (put_empty t at)

    size_none : new_size b s start ids x e j ≡ 0
    unfolding new_size
    size_none = rw (z, new_size)

    pub long_none : (len : ℕ) → len ≡ base_of b s start ids x + new_sizes b s start ids x e j → len ≡ base_of b s start ids x + new_sizes b s start ids x e (j + 1)
    long_none len h = omega (arith, h, size_none, sizes_more)

  module _ (z : is_new b s start ids x e j ≡ true) (off : ℕ) (f : off ≡ word_of b s e j) where
    pub name_put : (t : List ℕ) (at p : Placed) (u : List ℕ) (r : Placed) (u' : List ℕ) → put_out p u ≡ put_text t at (whole (str_at b s off)) → put_out r u' ≡ put_text u p (whole (0 ∷ [])) → put_out r u' ≡ put_text t at (whole (name_bytes b s start ids x e j))
    unfolding name_bytes
    name_put t at p u r u' h k =
        rw (z, name_bytes) (put_seq t at (str_at b s (word_of b s e j)) (0 ∷ []) p u r u' (h ∙ ap (λ (o : ℕ). put_text t at (whole (str_at b s o))) f) k)

    size_some : new_size b s start ids x e j ≡ length (str_at b s (word_of b s e j)) + 1
    unfolding new_size
    size_some = rw (z, new_size)

    pub long_is : (len : ℕ) → len ≡ base_of b s start ids x + new_sizes b s start ids x e j → (a : List ℕ) → a ≡ str_at b s off → len + length a + 1 ≡ base_of b s start ids x + new_sizes b s start ids x e (j + 1)
    long_is len h a g = omega (arith, h, size_some, ap length (g ∙ ap (str_at b s) f), sizes_more)

module _ (b : TypeTable) (s start ids : List ℕ) where
  module _ (x e : ℕ) where
    pub base_start : (len : ℕ) → len ≡ base_of b s start ids x → len ≡ base_of b s start ids x + new_sizes b s start ids x e 0
    unfolding new_sizes
    base_start len h = omega (arith, h)
