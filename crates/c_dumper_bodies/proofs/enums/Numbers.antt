-- The values of an enum of either width: their numbers, what is read of them, and which width they have. Assumes nothing.
use Prim.Native.Nat.{ℕ, suc, ◌+◌, ◌-◌, ◌*◌, ◌^◌, ◌<◌, ◌≤◌}
use mathlib.Core.Path.{◌≡◌, refl, ap, ◌∙◌, sym}
use mathlib.Core.List.{List, ◌++◌}
use mathlib.Core.Bool.{Bool, true, false}
use native.Mathlib.Omega.{arith}
use borrow.Author.Tests.{lt-ltb, le-ltb, ltb-true, ltb-false}
use lib.Dec.{eqb, ltb}
use lib.IntN.{ℤ, negsuc}
use mir.Syntax.{Width, w32, w64}
use mir.Val.{bits, hbits, Fits, SFits, to_z, of_z}
use mir.ValLaws.{to_z-of_z, to_z_pos, pow-bits}
use Rattle.spec_bytes.specs.words.Words.{pick}
use Rattle.spec_bytes.specs.text.Text.{ascii, whole}
use Rattle.spec_bytes.specs.text.Placed.{Placed, put_out, put_text}
use Rattle.spec_bytes.specs.text.Decimal.{decimal}
use Rattle.spec_bytes.specs.signed.Signed.{twos, signed, signed_ll}
use Rattle.spec_c_dumper.specs.rules.Types.{Enumerator, Btf as Rules}
use Rattle.spec_c_dumper.specs.rules.Decl.{enum_value, enum64_value, emit_values}
use Rattle.spec_c_dumper.specs.rules.Place.{put_said}
use Rattle.spec_type_table.specs.declared.types.TypeTable.{TypeTable}
use Rattle.spec_type_table.specs.declared.types.BtfType.{BtfType as Record}
use Rattle.spec_type_table.specs.declared.types.Entries.{Entries}
use Rattle.spec_type_table.specs.Names.{str_at}
use Rattle.spec_type_table.specs.Records.{section_word, vlen_of, kind_of, flag_of, member_at, param_at, entries_of}
use Rattle.spec_type_table.specs.Table.{from, value_of, value64_of, values_of, values64_of, work_naming}
use Rattle.c_dumper_bodies.specs.enums.Widths.{is_wide, value_text, enumerator_at, enum_values}

-- ---- two's complement, of either width

module _ (w : Width) (v : ℕ) where
  low : v < 2 ^ hbits w → to_z w v ≡ twos (2 ^ hbits w) v
  unfolding twos
  low h = to_z_pos w v h ∙ rw (lt-ltb v (2 ^ hbits w) h, twos)

  high : 2 ^ hbits w ≤ v → v < 2 ^ bits w → to_z w v ≡ twos (2 ^ hbits w) v
  unfolding twos
  high h f =
      let all : 2 ^ hbits w + 2 ^ hbits w ≡ suc (2 ^ bits w - 1) = omega (arith, pow-bits w) in
      let less : v < suc (2 ^ bits w - 1) = omega arith in
      rw (to_z, le-ltb v (2 ^ hbits w) h, twos, all, lt-ltb v (suc (2 ^ bits w - 1)) less) (ap negsuc (omega arith))

  twos_is : Fits w v → to_z w v ≡ twos (2 ^ hbits w) v
  twos_is f = go (ltb v (2 ^ hbits w)) refl
    where
      go : (t : Bool) → ltb v (2 ^ hbits w) ≡ t → to_z w v ≡ twos (2 ^ hbits w) v
      go true e = low (ltb-true v (2 ^ hbits w) e)
      go false e = high (ltb-false v (2 ^ hbits w) e) f.fits

  cast_twos : (r : ℤ) → Fits w v → SFits w r → r ≡ to_z w v → to_z w (of_z w r) ≡ twos (2 ^ hbits w) v
  cast_twos r f g e = to_z-of_z w r g ∙ e ∙ twos_is f

-- ---- the number
module _ (t : List ℕ) (at r : Placed) (u : List ℕ) (f : Bool) (v : ℕ) where
  pub put_signed : (x : ℤ) → f ≡ true → Fits w32 v → SFits w32 x → x ≡ to_z w32 v → put_out r u ≡ put_text t at (whole (signed (to_z w32 (of_z w32 x)))) → put_out r u ≡ put_text t at (whole (enum_value f v))
  unfolding enum_value
  put_signed x h g k e o = rw h (o ∙ ap (λ (y : ℤ). put_text t at (whole (signed y))) (cast_twos w32 v x g k e))

  pub put_plain : f ≡ false → put_out r u ≡ put_text t at (whole (decimal v)) → put_out r u ≡ put_text t at (whole (enum_value f v))
  unfolding enum_value
  put_plain h o = rw h o

  pub put_signed64 : (x : ℤ) → f ≡ true → Fits w64 v → SFits w64 x → x ≡ to_z w64 v → put_out r u ≡ put_text t at (whole (signed_ll (to_z w64 (of_z w64 x)))) → put_out r u ≡ put_text t at (whole (enum64_value f v))
  unfolding enum64_value
  put_signed64 x h g k e o = rw h (o ∙ ap (λ (y : ℤ). put_text t at (whole (signed_ll y))) (cast_twos w64 v x g k e))

  pub put_plain64 : f ≡ false → put_out r u ≡ put_text t at (whole (decimal v ++ ascii "ULL")) → put_out r u ≡ put_text t at (whole (enum64_value f v))
  unfolding enum64_value
  put_plain64 h o = rw h o

-- ---- by the width: emit_value
module _ (t : List ℕ) (p r : Placed) (u : List ℕ) (w f : Bool) (b : TypeTable) (s : List ℕ) (at k v : ℕ) where
  abbrev Written : Type 0
  Written = put_out r u ≡ put_text t p (whole (value_text w f (enumerator_at w b s at k).value))

  width_is : (x : Bool) → w ≡ x → put_out r u ≡ put_text t p (whole (value_text x f (enumerator_at x b s at k).value)) → Written
  width_is x h o = o ∙ ap (λ (y : Bool). put_text t p (whole (value_text y f (enumerator_at y b s at k).value))) (sym h)

  pub put_wide : w ≡ true → v ≡ section_word b s (member_at at k + 8) * 4294967296 + section_word b s (member_at at k + 4) → put_out r u ≡ put_text t p (whole (enum64_value f v)) → Written
  unfolding value_text enumerator_at value64_of
  put_wide h e o = width_is true h (o ∙ ap (λ (x : ℕ). put_text t p (whole (enum64_value f x))) e)

  pub put_narrow : w ≡ false → v ≡ section_word b s (param_at at k + 4) → put_out r u ≡ put_text t p (whole (enum_value f v)) → Written
  unfolding value_text enumerator_at value_of
  put_narrow h e o = width_is false h (o ∙ ap (λ (x : ℕ). put_text t p (whole (enum_value f x))) e)

-- ---- what is read of a value is what the table has
module _ (b : TypeTable) (s : List ℕ) (at k : ℕ) where
  name_is : (w : Bool) → str_at b s (section_word b s (pick w (member_at at k) (param_at at k))) ≡ (enumerator_at w b s at k).name
  unfolding enumerator_at value_of value64_of
  name_is true = refl
  name_is false = refl

  pub value_name : (w : Bool) (place off : ℕ) → place ≡ pick w (member_at at k) (param_at at k) → off ≡ section_word b s place → str_at b s off ≡ (enumerator_at w b s at k).name
  value_name w place off ep eo = ap (str_at b s) (eo ∙ ap (section_word b s) ep) ∙ name_is w

-- the entries, the width and the sign are the record's
pub values_same : (b : TypeTable) (B : Rules) (s : List ℕ) (t : Record) (es : Entries) (w f : Bool) (id lvl : ℕ) (tx : List ℕ) (at : Placed) (u : List ℕ) → es ≡ entries_of t → w ≡ is_wide t → f ≡ flag_of t.info
    → put_said tx at (emit_values (work_naming b) B (value_text w f) id lvl 0 (from (enumerator_at w b s es.at) 0 es.vlen)) u ≡ put_said tx at (emit_values (work_naming b) B (value_text (is_wide t) (flag_of t.info)) id lvl 0 (enum_values b s t)) u
values_same b B s t es w f id lvl tx at u ee ew ef = λ i. put_said tx at (emit_values (work_naming b) B (value_text (ew i) (ef i)) id lvl 0 (from (enumerator_at (ew i) b s (ee i).at) 0 (ee i).vlen)) u

-- ---- what is written of the values, by the kind
module _ (b : TypeTable) (s : List ℕ) (t : Record) {R : Type 0} (g : (ℕ → List ℕ) → List Enumerator → R) where
  of_kind : (k : ℕ) → kind_of t.info ≡ k → g (value_text (is_wide t) (flag_of t.info)) (enum_values b s t) ≡ g (value_text (eqb k 19) (flag_of t.info)) (from (enumerator_at (eqb k 19) b s t.at) 0 (vlen_of t.info))
  of_kind k e = ap (λ (n : ℕ). g (value_text (eqb n 19) (flag_of t.info)) (from (enumerator_at (eqb n 19) b s t.at) 0 (vlen_of t.info))) e

  pub of_enum : kind_of t.info ≡ 6 → g (value_text (is_wide t) (flag_of t.info)) (enum_values b s t) ≡ g (enum_value (flag_of t.info)) (values_of b s t)
  unfolding value_text enumerator_at
  of_enum e = of_kind 6 e

  pub of_enum64 : kind_of t.info ≡ 19 → g (value_text (is_wide t) (flag_of t.info)) (enum_values b s t) ≡ g (enum64_value (flag_of t.info)) (values64_of b s t)
  unfolding value_text enumerator_at
  of_enum64 e = of_kind 19 e
