-- Laws for the code that tells the tokens of a run of bytes. Assumes nothing.
use Prim.Native.Nat.{ℕ, zero, suc, ◌^◌, ◌≤◌, ◌<◌}
use mathlib.Core.Path.{◌≡◌, refl, ap, sym, ◌∙◌}
use mathlib.Core.Bool.{Bool, true, false, not, ◌&&◌, ◌||◌, false≢true}
use mathlib.Core.List.{List, [], ◌∷◌}
use native.Mathlib.Omega.{arith}
use borrow.Author.Tests.{lt-ltb, le-ltb, le-leb, lt-leb, leb-true, leb-false, ne_eqb}
use mathlib.Core.Logic.{◌⊎◌, inl, inr}
use lib.ListN.{length, get_or}
use Rattle.std.specs.Prelude.{Some, None}
use Rattle.std.specs.List.{list_all}
use Rattle.std.specs.Prelude.{Result, Ok, Err}
use Rattle.std.specs.Option.{is_some}
use Rattle.std.specs.Result.{OkIff, MatchResult, result_ok}
use denote.Bor.{Bor}
use Rattle.std.specs.Str.{IsUtf8, IsAscii}
use Rattle.std.specs.Str.Parse.{ParsesUnsigned}
use Rattle.std.proofs.lemmas.Str.{IsUtf8-from_ascii}
use Rattle.std.proofs.lemmas.Str.Parse.{IsDigitsTest, IsNumeralModel, numerals_by_fold, parse_digits}
use Rattle.std.proofs.Common.{rules}
use Rattle.std.proofs.Math.Bool.{and-false}
use Rattle.std.specs.Char.{is_ascii_digit}
use mathlib.Core.Logic.{◌≢◌}
use lib.Dec.{leb, ltb, eqb}
use Rattle.std.proofs.lemmas.Bool.{cases_lt}
use Rattle.spec_bytes.specs.text.Text.{ascii}
use Rattle.spec_c_dumper.specs.rules.Types.{is_empty, const, volatile, restrict}
use Rattle.spec_c_dumper.specs.rules.Names.{same_bytes}
use Rattle.spec_c_dumper.specs.rules.Decl.{qualifier}
use Rattle.session_declaration_reader.specs.tokens.Tokens.{Kind, tag_word, void_word, other_word, Token, qual, word, number, mark, is_digit, is_letter, is_word_byte, all_of, identifier, value_of, is_count, kind_of, word_token, run_token}
use Rattle.session_declaration_reader.specs.tokens.Looking.{token_kind, token_span, count_value, run_kind, Span}
use Rattle.session_declaration_reader.proofs.tokens.Cases.{passed, failed}

pub digit_is : (b : ℕ) → is_ascii_digit b ≡ is_digit b
unfolding is_digit
digit_is b = ap (λ (t : Bool). ltb 47 b && t) (go (leb b 57) refl)
  where
    go : (t : Bool) → leb b 57 ≡ t → leb b 57 ≡ ltb b 58
    go true e = e ∙ sym (lt-ltb b 58 (omega (arith, leb-true b 57 e)))
    go false e = e ∙ sym (le-ltb b 58 (omega (arith, leb-false b 57 e)))

-- `all` of an iterator
pub all_is : (f : ℕ → Bool) (s : List ℕ) → list_all f s ≡ all_of f s
unfolding all_of
all_is f [] = refl
all_is f (b ∷ s) = ap (λ (t : Bool). f b && t) (all_is f s)

-- identifiers
pub word_empty : (s : List ℕ) → length s ≡ 0 → false ≡ identifier s
unfolding identifier
word_empty [] e = refl
word_empty (b ∷ s) e = absurd (omega arith)

pub word_rest : (s : List ℕ) (b : ℕ) (t : List ℕ) → s ≡ b ∷ t → (r : Bool) → r ≡ is_letter b → r ≡ true → (a : Bool) → a ≡ list_all is_word_byte t → a ≡ identifier s
unfolding identifier
word_rest s b t e r l y a q = q ∙ all_is is_word_byte t ∙ sym (rw (e, identifier, sym l ∙ y))

pub word_first : (s : List ℕ) (b : ℕ) (t : List ℕ) → s ≡ b ∷ t → (r : Bool) → r ≡ is_letter b → r ≡ false → r ≡ identifier s
unfolding identifier
word_first s b t e r l n = n ∙ sym (rw (e, identifier, sym l ∙ n))

-- counts
digits_are : (s : List ℕ) → list_all is_ascii_digit s ≡ all_of is_digit s
unfolding all_of
digits_are [] = refl
digits_are (b ∷ s) = rw (digit_is b) (ap (λ (t : Bool). is_digit b && t) (digits_are s))

are_digits : IsDigitsTest (λ ds. all_of is_digit ds ≡ true)
unfolding all_of is_digit
are_digits = search rules

own : IsNumeralModel (λ ds. all_of is_digit ds ≡ true) (value_of 0)
unfolding value_of
own = numerals_by_fold _ are_digits value_of (search rules)

digits_plain : (s : List ℕ) → all_of is_digit s ≡ true → IsAscii s
unfolding all_of is_digit
digits_plain s = go s
  where
    go : (s : List ℕ) → all_of is_digit s ≡ true → (i : ℕ) → get_or s i 0 < 128
    go [] e i = omega arith
    go (d ∷ s) e zero = let p = are_digits.parts d s e in omega (arith, p.0)
    go (d ∷ s) e (suc i) = go s (are_digits.parts d s e).1 i

pub count_empty : (s : List ℕ) → length s ≡ 0 → None ≡ count_value s
unfolding count_value is_count
count_empty [] e = refl
count_empty (d ∷ s) e = absurd (omega arith)

pub count_zeros : (s : List ℕ) → (get_or s 0 0 ≡ 48) × (length s ≢ 1) → None ≡ count_value s
unfolding count_value is_count is_empty
count_zeros [] e = refl
count_zeros (d ∷ []) e = absurd (e.1 refl)
count_zeros (d ∷ b ∷ s) e =
    sym (failed (is_count (d ∷ b ∷ s)) (Some (value_of 0 (d ∷ b ∷ s))) None (rw e.0 (ap (λ (t : Bool). t && leb (value_of 0 (48 ∷ b ∷ s)) 4294967295) (and-false (all_of is_digit (48 ∷ b ∷ s))))))

no_zeros : (d : ℕ) (s : List ℕ) → (d ≡ 48 → length (d ∷ s) ≡ 1) → (is_empty s || not (eqb d 48)) ≡ true
unfolding is_empty
no_zeros d [] h = refl
no_zeros d (b ∷ s) h = rw (ne_eqb d 48 (λ e. absurd (omega (arith, h e))))

no_count : (s : List ℕ) → all_of is_digit s ≡ false → is_count s ≡ false
unfolding is_count
no_count [] h = refl
no_count (d ∷ s) h = ap (λ (t : Bool). t && (is_empty s || not (eqb d 48)) && leb (value_of 0 (d ∷ s)) 4294967295) h

a_count : (s : List ℕ) → all_of is_digit s ≡ true → (length s ≡ 0 → ⊥) → (get_or s 0 0 ≡ 48 → length s ≡ 1) → is_count s ≡ leb (value_of 0 s) 4294967295
unfolding is_count
a_count [] h n z = absurd (n refl)
a_count (d ∷ s) h n z = rw (h, no_zeros d s z)

count_read : (s : List ℕ) → is_count s ≡ leb (value_of 0 s) 4294967295 → (E : Type 0) (x : Result ℕ E) → OkIff x ((0 < length s) × (value_of 0 s < 2 ^ 32)) (value_of 0 s) → 0 < length s → result_ok x ≡ count_value s
unfolding count_value
count_read s g E (Ok v) p h = ap Some p.1 ∙ sym (passed (is_count s) (Some (value_of 0 s)) None (g ∙ le-leb (value_of 0 s) 4294967295 (omega (arith, p.0.1))))
count_read s g E (Err e) p h = sym (failed (is_count s) (Some (value_of 0 s)) None (g ∙ lt-leb (value_of 0 s) 4294967295 (go (cases_lt 4294967295 (value_of 0 s)))))
  where
    go : (4294967295 < value_of 0 s) ⊎ (value_of 0 s ≤ 4294967295) → 4294967295 < value_of 0 s
    go (inl k) = k
    go (inr k) = absurd (p (h, omega (arith, k)))

-- what `from_utf8` gives: a text is its bytes, and no text is of no text's bytes
pub text_is : (s : List ℕ) (E : Type 0) (x : Result (Bor (List ℕ)) E) (t : Bor (List ℕ)) (U : Type 0) (Q : E → Type 0) → Some t ≡ result_ok x → MatchResult x (λ b. (b.now ≡ s) × U) Q → t.now ≡ s
text_is s E (Ok b) t U Q e m = let p : t ≡ b = cc in ap (λ (z : Bor (List ℕ)). z.now) p ∙ m.0
text_is s E (Err y) t U Q e m = absurd (false≢true (sym (ap is_some e)))

pub is_text : (B E : Type 0) (x : Result B E) (P : B → Type 0) (U : Type 0) (Q : E → Type 0) → U → MatchResult x P (λ e. (U → ⊥) × Q e) → None ≡ result_ok x → ⊥
is_text B E (Ok b) P U Q u m e = false≢true (ap is_some e)
is_text B E (Err y) P U Q u m e = m.0 u

module _ (s : List ℕ) (a : Bool) (e : a ≡ list_all is_ascii_digit s) where
  pub count_other : a ≡ false → None ≡ count_value s
  unfolding count_value
  count_other f = sym (failed (is_count s) (Some (value_of 0 s)) None (no_count s (sym (e ∙ digits_are s) ∙ f)))

  module _ (f : a ≡ true) where
    digits : all_of is_digit s ≡ true
    digits = sym (e ∙ digits_are s) ∙ f

    -- digits are a text
    pub count_text : IsUtf8 s
    count_text = IsUtf8-from_ascii s (digits_plain s digits)

    pub count_parsed : (length s ≡ 0 → ⊥) → (get_or s 0 0 ≡ 48 → length s ≡ 1) → (E : Type 0) (x : Result ℕ E) → ParsesUnsigned 32 10 s x → result_ok x ≡ count_value s
    count_parsed n z E x p = count_read s (a_count s digits n z) E x (parse_digits own 32 s x p digits) (omega (arith, n))

-- the token of a run, whatever its word is kept as
abbrev shape : {W : Type 0} → Bool → Bool → Bool → Bool → Bool → Bool → Kind → ℕ → W → Token W
shape i a b c n d k v w =
    elim i [
      | true ↦ elim a [ true ↦ qual const | false ↦ elim b [ true ↦ qual volatile | false ↦ elim c [ true ↦ qual restrict | false ↦ word k w ] ] ]
      | false ↦ elim n [ true ↦ number v | false ↦ elim d [ true ↦ mark 46 | false ↦ mark 0 ] ]
    ]

shape_kind : (i a b c n d : Bool) (k : Kind) (v : ℕ) (w : Span) → token_kind {W = ℕ} (shape i a b c n d k v 0) ≡ token_kind (shape i a b c n d k v w)
shape_kind true true b c n d k v w = refl
shape_kind true false true c n d k v w = refl
shape_kind true false false true n d k v w = refl
shape_kind true false false false n d tag_word v w = refl
shape_kind true false false false n d void_word v w = refl
shape_kind true false false false n d other_word v w = refl
shape_kind false a b c true d k v w = refl
shape_kind false a b c false true k v w = refl
shape_kind false a b c false false k v w = refl

shape_span : (i a b c n d : Bool) (k : Kind) (v : ℕ) (w : Span) → token_span (shape i a b c n d k v w) w ≡ w
shape_span true true b c n d k v w = refl
shape_span true false true c n d k v w = refl
shape_span true false false true n d k v w = refl
shape_span true false false false n d k v w = refl
shape_span false a b c true d k v w = refl
shape_span false a b c false true k v w = refl
shape_span false a b c false false k v w = refl

module _ (s : List ℕ) (w : Span) where
  pub kind_any : run_kind s ≡ token_kind (run_token s w)
  unfolding run_token word_token
  kind_any =
      shape_kind (identifier s) (same_bytes s (qualifier const)) (same_bytes s (qualifier volatile)) (same_bytes s (qualifier restrict)) (is_count s) (same_bytes s (ascii "...")) (kind_of s) (value_of 0 s) w

  pub span_any : token_span (run_token s w) w ≡ w
  unfolding run_token word_token
  span_any =
      shape_span (identifier s) (same_bytes s (qualifier const)) (same_bytes s (qualifier volatile)) (same_bytes s (qualifier restrict)) (is_count s) (same_bytes s (ascii "...")) (kind_of s) (value_of 0 s) w
