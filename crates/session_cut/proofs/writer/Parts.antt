-- Laws of what is written for each kept type, in either part of the new section. Assumes nothing.
use Prim.Native.Nat.{ℕ, suc, ◌+◌, ◌<◌}
use native.Mathlib.Omega.{arith}
use native.Mathlib.Numerals.{add-one}
use mathlib.Core.Path.{◌≡◌, refl, sym, ◌∙◌, ap}
use mathlib.Core.List.{List, [], ◌++◌}
use lib.ListN.{get_or}
use borrow.Author.Tests.{eq-eqb, ne_eqb}
use Rattle.std.specs.Prelude.{Err, IsErrAnd}
use Rattle.spec_bytes.specs.declared.refusal.Refusal.{Refusal}
use Rattle.spec_bytes.specs.text.Text.{whole}
use Rattle.spec_bytes.specs.text.Placed.{Placed, put_out, put_text}
use Rattle.spec_bytes.proofs.text.TextLaws.{put_seq, put_empty}
use Rattle.spec_type_table.specs.declared.types.TypeTable.{TypeTable}
use Rattle.btf_open_causes.specs.references.Followed.{type_count, entry_at}
use Rattle.session_cut_marks.specs.roles.Words.{words_in}
use Rattle.session_cut_marks.specs.mentioned.Strings.{name_bytes, names_bytes, own_bytes, news_bytes}
use Rattle.session_cut.specs.declared.writer.source.Part.{Part}
use Rattle.session_cut.specs.declared.writer.source.Part.TheVariants.{Records, Names}
use Rattle.session_cut.specs.writer.Bytes.{word_bytes, new_word, record_bytes, word_part, words_part, type_bytes, types_bytes, kept_bytes, part_bytes}
use Rattle.session_cut.proofs.writer.Stops.{loop_stops}

module _ (b : TypeTable) (s start ids bases : List ℕ) where
  module _ (x v : ℕ) (k : v ≡ get_or ids x 0) where
    none_of : v ≡ 0 → (part : Part) → kept_bytes b s start ids bases part x ≡ []
    unfolding kept_bytes type_bytes own_bytes
    none_of z Records = rw (eq-eqb (get_or ids x 0) 0 (sym k ∙ z), type_bytes)
    none_of z Names = rw (eq-eqb (get_or ids x 0) 0 (sym k ∙ z), own_bytes)

    some_of : (v ≡ 0 → ⊥) → (part : Part) → kept_bytes b s start ids bases part x ≡ words_part b s start ids bases part x (entry_at b start x) (words_in b s (entry_at b start x))
    unfolding kept_bytes type_bytes own_bytes words_part
    some_of n Records = rw (ne_eqb (get_or ids x 0) 0 (λ w. n (k ∙ w)), type_bytes)
    some_of n Names = rw (ne_eqb (get_or ids x 0) 0 (λ w. n (k ∙ w)), own_bytes)

    module _ (t : List ℕ) (at : Placed) where
      pub kept_none : v ≡ 0 → (part : Part) → put_out at t ≡ put_text t at (whole (kept_bytes b s start ids bases part x))
      kept_none z part = put_empty t at ∙ ap (λ (l : List ℕ). put_text t at (whole l)) (sym (none_of z part))

      pub kept_is : (v ≡ 0 → ⊥) → (e : ℕ) → e ≡ entry_at b start x → (y : ℕ) → y ≡ x → (part : Part) (r : Placed) (u : List ℕ)
          → put_out r u ≡ put_text t at (whole (words_part b s start ids bases part y e (words_in b s e))) → put_out r u ≡ put_text t at (whole (kept_bytes b s start ids bases part x))
      kept_is n e f y i part r u h =
          h ∙ ap (λ (q : ℕ). put_text t at (whole (words_part b s start ids bases part q e (words_in b s e)))) i
          ∙ ap (λ (q : ℕ). put_text t at (whole (words_part b s start ids bases part x q (words_in b s q)))) f
          ∙ ap (λ (l : List ℕ). put_text t at (whole l)) (sym (some_of n part))

  -- ---- the words of a type
  words_start : (part : Part) (x e : ℕ) → words_part b s start ids bases part x e 0 ≡ []
  unfolding words_part record_bytes names_bytes
  words_start Records x e = refl
  words_start Names x e = refl

  words_step : (part : Part) (x e n : ℕ) → words_part b s start ids bases part x e n ++ word_part b s start ids bases part x e n ≡ words_part b s start ids bases part x e (suc n)
  unfolding words_part word_part record_bytes names_bytes
  words_step Records x e n = refl
  words_step Names x e n = refl

  module _ (x e j : ℕ) (t : List ℕ) (at : Placed) where
    pub word_of_records : (v : ℕ) → v ≡ new_word b s start ids bases e j → (r : Placed) (u : List ℕ) → put_out r u ≡ put_text t at (whole (word_bytes b.big_endian v))
        → {part : Part} → part ≡ Records → put_out r u ≡ put_text t at (whole (word_part b s start ids bases part x e j))
    unfolding word_part
    word_of_records v g r u h p = rw (p, word_part) (h ∙ ap (λ (z : ℕ). put_text t at (whole (word_bytes b.big_endian z))) g)

    pub word_of_names : (r : Placed) (u : List ℕ) → put_out r u ≡ put_text t at (whole (name_bytes b s start ids x e j)) → {part : Part} → part ≡ Names → put_out r u ≡ put_text t at (whole (word_part b s start ids bases part x e j))
    unfolding word_part
    word_of_names r u h p = rw (p, word_part) h

  module _ (part : Part) (x e : ℕ) (t : List ℕ) (at : Placed) where
    pub no_words : put_out at t ≡ put_text t at (whole (words_part b s start ids bases part x e 0))
    no_words = put_empty t at ∙ ap (λ (l : List ℕ). put_text t at (whole l)) (sym (words_start part x e))

    pub more_words : (j : ℕ) (p : Placed) (u : List ℕ) (r : Placed) (u' : List ℕ) → put_out p u ≡ put_text t at (whole (words_part b s start ids bases part x e j))
        → put_out r u' ≡ put_text u p (whole (word_part b s start ids bases part x e j)) → put_out r u' ≡ put_text t at (whole (words_part b s start ids bases part x e (j + 1)))
    more_words j p u r u' h g =
        rw add-one (put_seq t at (words_part b s start ids bases part x e j) (word_part b s start ids bases part x e j) p u r u' h g ∙ ap (λ (l : List ℕ). put_text t at (whole l)) (words_step part x e j))

    pub words_stop : (n j : ℕ) (u : List ℕ) (c : Refusal) → n ≡ words_in b s e → j < n → put_out (Err c) u ≡ put_text t at (whole (words_part b s start ids bases part x e (j + 1)))
        → (r : Placed) → IsErrAnd r (λ d. d ≡ c) → put_out r u ≡ put_text t at (whole (words_part b s start ids bases part x e (words_in b s e)))
    words_stop n j u c w l h r k =
        loop_stops (words_part b s start ids bases part x e) (word_part b s start ids bases part x e) (words_step part x e) t at c u (j + 1) (words_in b s e) (omega (arith, w, l)) h r k

  -- ---- all types
  start_of : (part : Part) → part_bytes b s start ids bases part 0 ≡ []
  unfolding part_bytes types_bytes news_bytes
  start_of Records = refl
  start_of Names = refl

  step_of : (part : Part) (x : ℕ) → part_bytes b s start ids bases part x ++ kept_bytes b s start ids bases part x ≡ part_bytes b s start ids bases part (suc x)
  unfolding part_bytes kept_bytes types_bytes news_bytes
  step_of Records x = refl
  step_of Names x = refl

  module _ (part : Part) (t : List ℕ) (at : Placed) where
    pub no_part : put_out at t ≡ put_text t at (whole (part_bytes b s start ids bases part 0))
    no_part = put_empty t at ∙ ap (λ (l : List ℕ). put_text t at (whole l)) (sym (start_of part))

    pub more_part : (x : ℕ) (p : Placed) (u : List ℕ) (r : Placed) (u' : List ℕ) → put_out p u ≡ put_text t at (whole (part_bytes b s start ids bases part x)) → put_out r u' ≡ put_text u p (whole (kept_bytes b s start ids bases part x))
        → put_out r u' ≡ put_text t at (whole (part_bytes b s start ids bases part (x + 1)))
    more_part x p u r u' h g =
        rw add-one
        (put_seq t at (part_bytes b s start ids bases part x) (kept_bytes b s start ids bases part x) p u r u' h g ∙ ap (λ (l : List ℕ). put_text t at (whole l)) (step_of part x))

    pub part_stop : (n x : ℕ) (u : List ℕ) (c : Refusal) → n ≡ type_count b → x < n → put_out (Err c) u ≡ put_text t at (whole (part_bytes b s start ids bases part (x + 1)))
        → (r : Placed) → IsErrAnd r (λ d. d ≡ c) → put_out r u ≡ put_text t at (whole (part_bytes b s start ids bases part (type_count b)))
    part_stop n x u c w l h r k = loop_stops (part_bytes b s start ids bases part) (kept_bytes b s start ids bases part) (step_of part) t at c u (x + 1) (type_count b) (omega (arith, w, l)) h r k
