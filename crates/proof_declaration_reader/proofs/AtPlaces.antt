-- The bytes of the text at the place of a word are the word's, so that reading at places is reading at bytes. Assumes nothing.
use Prim.Native.Nat.{ℕ, ◌+◌, ◌-◌}
use mathlib.Core.Path.{◌≡◌, refl, ap, sym, ◌∙◌}
use mathlib.Core.List.{List, [], ◌∷◌, ◌++◌, append_assoc}
use native.Mathlib.Omega.{arith}
use lib.ListN.{length, take, drop, length-append}
use lib.Seq.{drop-append_seam, take-append_seam}
use lib.Dec.{eqb}
use Rattle.spec_bytes.specs.text.Text.{ascii}
use Rattle.spec_c_dumper.specs.rules.Types.{volatile, const, restrict}
use Rattle.spec_c_dumper.specs.rules.Names.{same_bytes}
use Rattle.spec_c_dumper.specs.rules.Decl.{qualifier}
use Rattle.session_declaration_reader.specs.tokens.Tokens.{Token, mark, identifier, is_count, in_run, word_token, run_token, lone, ended, tokens}
use Rattle.session_declaration_reader.specs.reader.Reading.{as_bytes, read_tokens, whole, read_with, read}
use Rattle.session_declaration_reader.specs.tokens.Looking.{Span, places}
use Rattle.proof_declaration_reader.specs.Places.{bytes_at, SameAtPlaces}
use Rattle.proof_declaration_reader.proofs.Natural.{chosen, each_token, each_of, read_each}

module _ {U W : Type 0} (f : U → W) where
  word_each : (run : List ℕ) (w : U) → word_token run (f w) ≡ each_token f (word_token run w)
  unfolding word_token
  word_each run w =
      chosen (each_token f) (same_bytes run (qualifier const)) (same_bytes run (qualifier const)) _ _ _ _ refl refl
      (chosen (each_token f) (same_bytes run (qualifier volatile)) (same_bytes run (qualifier volatile)) _ _ _ _ refl refl
      (chosen (each_token f) (same_bytes run (qualifier restrict)) (same_bytes run (qualifier restrict)) _ _ _ _ refl refl refl))

  run_each : (run : List ℕ) (w : U) → run_token run (f w) ≡ each_token f (run_token run w)
  unfolding run_token
  run_each run w =
      chosen (each_token f) (identifier run) (identifier run) _ _ _ _ refl (word_each run w)
      (chosen (each_token f) (is_count run) (is_count run) _ _ _ _ refl refl
      (chosen (each_token f) (same_bytes run (ascii "...")) (same_bytes run (ascii "...")) _ _ _ _ refl refl refl))

-- where a run stands
pub place_bytes : (p run r : List ℕ) → bytes_at (p ++ (run ++ r)) (places (length (p ++ (run ++ r))) (length r) run) ≡ run
place_bytes p run r =
    let n : ℕ = length (p ++ (run ++ r)) in
    let a : n - (length r + length run) ≡ length p = omega (arith, length-append p (run ++ r), length-append run r) in
    let b : (n - length r) - (n - (length r + length run)) ≡ length run = omega (arith, length-append p (run ++ r), length-append run r) in
    ap (λ (m : ℕ). take m (drop (n - (length r + length run)) (p ++ (run ++ r)))) b
    ∙ ap (λ (m : ℕ). take (length run) (drop m (p ++ (run ++ r)))) a
    ∙ ap (take (length run)) (drop-append_seam p (run ++ r))
    ∙ take-append_seam run r

module _ (s : List ℕ) where
  abbrev At : List (Token Span) → List (Token (List ℕ))
  At ts = each_of (bytes_at s) ts

  ended_each : (p run r : List ℕ) (us : List (Token (List ℕ))) (ts : List (Token Span)) → s ≡ p ++ (run ++ r) → us ≡ At ts
      → ended as_bytes run (length r) us ≡ At (ended (places (length s)) run (length r) ts)
  unfolding ended
  ended_each p [] r us ts h e = e
  ended_each p (b ∷ run) r us ts h e =
      let w : Span = places (length s) (length r) (b ∷ run) in
      let q : bytes_at s w ≡ b ∷ run = rw h (place_bytes p (b ∷ run) r) in
      ap (λ (v : List ℕ). run_token (b ∷ run) v ∷ us) (sym q) ∙ ap (λ t. t ∷ us) (run_each (bytes_at s) (b ∷ run) w) ∙ ap (λ ts. each_token (bytes_at s) (run_token (b ∷ run) w) ∷ ts) e

  lone_each : (b : ℕ) (us : List (Token (List ℕ))) (ts : List (Token Span)) → us ≡ At ts → lone b us ≡ At (lone b ts)
  unfolding lone
  lone_each b us ts e = chosen (each_of (bytes_at s)) (eqb b 32) (eqb b 32) _ _ _ _ refl e (ap (λ vs. mark b ∷ vs) e)

  tokens_each : (r p run : List ℕ) → s ≡ p ++ (run ++ r) → tokens as_bytes run r ≡ At (tokens (places (length s)) run r)
  unfolding tokens
  tokens_each [] p run h = ended_each p run [] [] [] h refl
  tokens_each (b ∷ r) p run h =
      chosen
      (each_of (bytes_at s))
      (in_run b)
      (in_run b)
      _
      _
      _
      _
      refl
      (tokens_each r p (run ++ b ∷ []) (h ∙ ap (λ (x : List ℕ). p ++ x) (sym (append_assoc run (b ∷ []) r))))
      (ended_each
      p
      run
      (b ∷ r)
      _
      _
      h
      (lone_each b _ _ (tokens_each r (p ++ (run ++ b ∷ [])) [] (h ∙ ap (λ (x : List ℕ). p ++ x) (sym (append_assoc run (b ∷ []) r)) ∙ sym (append_assoc p (run ++ b ∷ []) r)))))

-- reading at places is reading at bytes
pub same_at_places : SameAtPlaces
unfolding read read_with
same_at_places s = ap (λ ts. whole (read_tokens ts)) (tokens_each s s [] [] refl) ∙ read_each (bytes_at s) (tokens (places (length s)) [] s)
