-- What each return of the code comes to. Assumes nothing.
use Prim.Native.Nat.{ℕ}
use mathlib.Core.Path.{◌≡◌, refl}
use mathlib.Core.List.{List, [], ◌∷◌, ◌++◌}
use Rattle.std.specs.Prelude.{Err, IsErrAnd}
use Rattle.spec_bytes.specs.declared.refusal.Refusal.{Refusal}
use Rattle.spec_bytes.specs.text.Text.{whole, ascii, pfx}
use Rattle.spec_bytes.specs.text.Placed.{Placed, put_out, put_text}
use Rattle.spec_bytes.specs.text.Decimal.{decimal}
use Rattle.spec_bytes.proofs.text.TextLaws.{put_seq, put_same, put_ended}
use Rattle.spec_c_dumper.specs.rules.Decl.{unit_word}
use Rattle.spec_type_table.specs.declared.types.TypeTable.{TypeTable}
use Rattle.spec_type_table.specs.Table.{btf_of}
use Rattle.c_dumper_padding.specs.declared.units.Pad.{Pad as Code}
use Rattle.c_dumper_padding.specs.units.Units.{unit_of, pad_is}
use Rattle.c_dumper_padding.specs.pads.Texts.{pad_line}

-- ---- put_pad
pub line_is : (lvl : ℕ) (p : Code) → 10 ∷ [] ++ pfx lvl ++ unit_word (unit_of p.unit) ++ ascii ": " ++ decimal p.width ++ 59 ∷ [] ≡ pad_line lvl (pad_is p)
unfolding pad_line pad_is
line_is lvl p = refl

-- in six steps a line
pub line_put : (lvl : ℕ) (p : Code) (t : List ℕ) (at n₁ : Placed) (t₁ : List ℕ) (n₂ : Placed) (t₂ : List ℕ) (n₃ : Placed) (t₃ : List ℕ) (n₄ : Placed) (t₄ : List ℕ) (n₅ : Placed) (t₅ : List ℕ) (r : Placed) (u : List ℕ)
    → put_out n₁ t₁ ≡ put_text t at (whole (10 ∷ [])) → put_out n₂ t₂ ≡ put_text t₁ n₁ (whole (pfx lvl)) → put_out n₃ t₃ ≡ put_text t₂ n₂ (whole (unit_word (unit_of p.unit)))
    → put_out n₄ t₄ ≡ put_text t₃ n₃ (whole (ascii ": ")) → put_out n₅ t₅ ≡ put_text t₄ n₄ (whole (decimal p.width)) → put_out r u ≡ put_text t₅ n₅ (whole (59 ∷ []))
    → put_out r u ≡ put_text t at (whole (pad_line lvl (pad_is p)))
line_put lvl p t at n₁ t₁ n₂ t₂ n₃ t₃ n₄ t₄ n₅ t₅ r u o₁ o₂ o₃ o₄ o₅ o₆ =
    put_same t at _ _ r u (line_is lvl p)
    (put_seq _ _ _ _ n₅ t₅ _ _
    (put_seq _ _ _ _ n₄ t₄ _ _ (put_seq _ _ _ _ n₃ t₃ _ _ (put_seq _ _ _ _ n₂ t₂ _ _ (put_seq _ _ _ _ n₁ t₁ _ _ o₁ o₂) o₃) o₄) o₅)
    o₆)

-- ---- put_pads: what is written from here with the rest is what is to be written from the start
unfoldable pub Goes : List ℕ → Placed → List ℕ → List ℕ → Placed → List ℕ → Type 0
Goes t₀ at a₀ t p a = (r : Placed) (u : List ℕ) → put_out r u ≡ put_text t p (whole a) → put_out r u ≡ put_text t₀ at (whole a₀)

pub goes_start : (t : List ℕ) (at : Placed) (a : List ℕ) → Goes t at a t at a
unfolding Goes
goes_start t at a r u e = e

-- what stopped the writing stopped the whole
pub goes_stop : (t₀ : List ℕ) (at : Placed) (a₀ t : List ℕ) (c : Refusal) (a : List ℕ) (r : Placed) → Goes t₀ at a₀ t (Err c) a → IsErrAnd r (λ e. e ≡ c) → put_out r t ≡ put_text t₀ at (whole a₀)
unfolding Goes
goes_stop t₀ at a₀ t c a r go i = go r t (put_ended t r c (whole a) i)

-- ---- emit_bit_padding
pub ptr_size : (b : TypeTable) (s w : List ℕ) → b.ptr_sz ≡ (btf_of b s w).ptr_sz
unfolding btf_of
ptr_size b s w = refl

pub mode_is : (b : TypeTable) (s w : List ℕ) → b.placing ≡ (btf_of b s w).placing
unfolding btf_of
mode_is b s w = refl
