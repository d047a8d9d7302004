-- The words of a base stand in the text one behind another, with nothing but spaces between them. Assumes nothing.
use Prim.Native.Nat.{ℕ, ◌+◌, ◌-◌, ◌≤◌, ◌<◌}
use mathlib.Core.Path.{◌≡◌, refl, ap, sym, ◌∙◌}
use mathlib.Core.Bool.{Bool, true, false, not, ◌&&◌, false≢true}
use mathlib.Core.List.{List, [], ◌∷◌, ◌++◌, append_assoc, append-nil}
use native.Mathlib.Omega.{arith}
use borrow.Author.Tests.{eqb-true, not-true}
use lib.ListN.{length, take, drop, length-append, length-drop, length-take}
use lib.Seq.{drop-append_seam, take-append_seam, drop-append-le, take-add, drop-drop}
use lib.Dec.{eqb}
use Rattle.std.proofs.lemmas.Bool.{and_parts}
use Rattle.spec_bytes.specs.text.Text.{ascii}
use Rattle.spec_c_dumper.specs.rules.Types.{Qualifier, volatile, const, restrict}
use Rattle.spec_c_dumper.specs.rules.Names.{same_bytes}
use Rattle.spec_c_dumper.specs.rules.Decl.{qualifier}
use Rattle.session_declaration_reader.specs.tokens.Tokens.{Token, qual, word, number, mark, kind_of, is_digit, is_letter, is_word_byte, identifier, is_count, value_of, in_run, all_of, word_token, run_token, lone, ended, tokens, rest}
use Rattle.session_declaration_reader.specs.bases.Bases.{spelt, ends_name, after_quals, word_run, after_words, is_base, words_of}
use Rattle.session_declaration_reader.specs.tokens.Looking.{Span, places}
use Rattle.session_declaration_reader.specs.bases.Items.{first_from, last_to}
use Rattle.session_declaration_reader.proofs.tokens.Cases.{passed, failed}
use Rattle.proof_declaration_reader.specs.Places.{each_word, bytes_at}
use Rattle.proof_declaration_reader.specs.Decoding.{split, words_at}
use Rattle.proof_declaration_reader.proofs.AtPlaces.{place_bytes}

abbrev pub is_space : ℕ → Bool
is_space b = eqb b 32

abbrev pub not_space : ℕ → Bool
not_space b = not (eqb b 32)

-- what stands at a place, and between two
abbrev pub between : List ℕ → ℕ → ℕ → List ℕ
between s a b = take (b - a) (drop a s)

pub record Sane (s : List ℕ) (w : Span) : Type 0 where
  pub some : w.from < w.to
  pub ends : w.to ≤ length s
  pub plain : all_of not_space (bytes_at s w) ≡ true

pub record Gap (s : List ℕ) (w v : Span) : Type 0 where
  pub apart : w.to < v.from
  pub spaces : all_of is_space (between s w.to v.from) ≡ true

-- a word and those behind it
abbrev pub Near : List ℕ → Span → List Span → Type 0
Near s w [] = Sane s w
Near s w (v ∷ vs) = Sane s w × Gap s w v × Near s v vs

abbrev pub Neat : List ℕ → List Span → Type 0
Neat s [] = ⊥
Neat s (w ∷ ws) = Near s w ws

abbrev pub Follows : List ℕ → Span → List (Token Span) → Type 0
Follows s w [] = Unit {0}
Follows s w (qual q ∷ ts) = Unit {0}
Follows s w (word k v ∷ ts) = Gap s w v
Follows s w (number n ∷ ts) = Unit {0}
Follows s w (mark b ∷ ts) = Unit {0}

abbrev pub Laid : List ℕ → List (Token Span) → Type 0
Laid s [] = Unit {0}
Laid s (qual q ∷ ts) = Laid s ts
Laid s (word k w ∷ ts) = Sane s w × Follows s w ts × Laid s ts
Laid s (number n ∷ ts) = Laid s ts
Laid s (mark b ∷ ts) = Laid s ts

module _ (s : List ℕ) where
  pub laid_on : (ts : List (Token Span)) → Laid s ts → Laid s (rest ts)
  unfolding rest
  laid_on [] h = tt
  laid_on (qual q ∷ ts) h = h
  laid_on (word k w ∷ ts) h = h.2
  laid_on (number n ∷ ts) h = h
  laid_on (mark b ∷ ts) h = h

  pub laid_past : (ts : List (Token Span)) → Laid s ts → Laid s (after_quals ts)
  unfolding after_quals
  laid_past [] h = tt
  laid_past (qual q ∷ ts) h = laid_past ts h
  laid_past (word k w ∷ ts) h = h
  laid_past (number n ∷ ts) h = h
  laid_past (mark b ∷ ts) h = h

  by_test : {R : Type 0} (P : R → Type 0) (b : Bool) (x y : R) → (b ≡ true → P x) → (b ≡ false → P y) → P (elim b [ true ↦ x | false ↦ y ])
  by_test P true x y h k = h refl
  by_test P false x y h k = k refl

  laid_words : (n : Bool) (ts : List (Token Span)) → Laid s ts → Laid s (after_words n ts)
  unfolding after_words
  laid_words n [] h = tt
  laid_words n (qual q ∷ ts) h = h
  laid_words n (word k w ∷ ts) h = by_test (Laid s) (n && ends_name ts) (word k w ∷ ts) (after_words n ts) (λ e. h) (λ e. laid_words n ts h.2)
  laid_words n (number m ∷ ts) h = h
  laid_words n (mark b ∷ ts) h = h

  -- the words of a run that begins with one
  near : (n : Bool) (w : Span) (ts : List (Token Span)) → Sane s w → Follows s w ts → Laid s ts → Near s w (words_of (word_run n ts))
  unfolding word_run words_of
  near n w [] a f h = a
  near n w (qual q ∷ ts) a f h = a
  near n w (word k v ∷ ts) a f h =
      by_test (λ ss. Near s w (words_of ss)) (n && ends_name ts) [] (spelt k v ∷ word_run n ts) (λ e. a) (λ e. (a, f, near n v ts h.0 h.1 h.2))
  near n w (number m ∷ ts) a f h = a
  near n w (mark b ∷ ts) a f h = a

  neat : (n : Bool) (ts : List (Token Span)) → is_base (word_run n ts) ≡ true → Laid s ts → Neat s (words_of (word_run n ts))
  unfolding word_run is_base words_of
  neat n [] e h = false≢true e
  neat n (qual q ∷ ts) e h = false≢true e
  neat n (word k w ∷ ts) e h = go (n && ends_name ts) e
    where
      go : (b : Bool) → is_base {W = Span} (elim b [ true ↦ [] | false ↦ spelt k w ∷ word_run n ts ]) ≡ true → Neat s (words_of {W = Span} (elim b [ true ↦ [] | false ↦ spelt k w ∷ word_run n ts ]))
      go true x = false≢true x
      go false x = near n w ts h.0 h.1 h.2
  neat n (number m ∷ ts) e h = false≢true e
  neat n (mark b ∷ ts) e h = false≢true e

  pub worded : (n : Bool) (ts : List (Token Span)) → is_base (word_run n ts) ≡ true → Laid s ts → Neat s (words_of (word_run n ts)) × Laid s (after_words n ts)
  worded n ts e h = (neat n ts e h, laid_words n ts h)

-- the token of a run: a word, or none
token_is : (P : Token Span → Type 0) (run : List ℕ) (v : Span) → P (word (kind_of run) v) → ((q : Qualifier) → P (qual q)) → ((n : ℕ) → P (number n)) → ((b : ℕ) → P (mark b)) → P (run_token run v)
unfolding run_token word_token
token_is P run v w q n m =
    test P (identifier run) _ _
    (test P (same_bytes run (qualifier const)) _ _ (q const)
    (test P (same_bytes run (qualifier volatile)) _ _ (q volatile)
    (test P (same_bytes run (qualifier restrict)) _ _ (q restrict) w)))
    (test P (is_count run) _ _ (n (value_of 0 run))
    (test P (same_bytes run (ascii "...")) _ _ (m 46) (m 0)))
  where
    test : (P : Token Span → Type 0) (b : Bool) (x y : Token Span) → P x → P y → P (elim b [ true ↦ x | false ↦ y ])
    test P true x y h k = h
    test P false x y h k = k

all_append : (f : ℕ → Bool) (a b : List ℕ) → all_of f a ≡ true → all_of f b ≡ true → all_of f (a ++ b) ≡ true
unfolding all_of
all_append f [] b h k = k
all_append f (x ∷ a) b h k = let p = and_parts (f x) (all_of f a) h in rw (p.0, all_append f a b p.1 k)

run_space : in_run 32 ≡ false
unfolding in_run is_word_byte is_letter is_digit
run_space = refl

no_space : (b : ℕ) → in_run b ≡ true → not_space b ≡ true
no_space b h = go (eqb b 32) refl
  where
    go : (t : Bool) → eqb b 32 ≡ t → not t ≡ true
    go true e = absurd (false≢true (sym run_space ∙ ap in_run (sym (eqb-true b 32 e)) ∙ h))
    go false e = refl

no_spaces : (w : List ℕ) → all_of in_run w ≡ true → all_of not_space w ≡ true
unfolding all_of
no_spaces [] h = refl
no_spaces (b ∷ w) h = let p = and_parts (in_run b) (all_of in_run w) h in rw (no_space b p.0, no_spaces w p.1)

module _ (s : List ℕ) where
  abbrev tk : List ℕ → List ℕ → List (Token Span)
  tk run r = tokens (places (length s)) run r

  -- the place of a run that stands behind p, and before r
  from_is : (p run r : List ℕ) → s ≡ p ++ (run ++ r) → length s - (length r + length run) ≡ length p
  from_is p run r h = omega (arith, ap length h, length-append p (run ++ r), length-append run r)

  to_is : (p run r : List ℕ) → s ≡ p ++ (run ++ r) → length s - length r ≡ length p + length run
  to_is p run r h = omega (arith, ap length h, length-append p (run ++ r), length-append run r)

  take_seam : (d x : List ℕ) (n : ℕ) → length d ≡ n → take n (d ++ x) ≡ d
  take_seam d x n e = rw (← e) (take-append_seam d x)

  -- from a place inside p to the end of p
  gap_is : (p x : List ℕ) (a : ℕ) → s ≡ p ++ x → a ≤ length p → between s a (length p) ≡ drop a p
  gap_is p x a h l =
      ap (λ (y : List ℕ). take (length p - a) (drop a y)) h
      ∙ ap (take (length p - a)) (drop-append-le a p x l)
      ∙ take_seam (drop a p) x (length p - a) (length-drop a p)

  gap : (w : Span) (p run r : List ℕ) → s ≡ p ++ (run ++ r) → w.to < length p → all_of is_space (drop w.to p) ≡ true → Gap s w (places (length s) (length r) run)
  gap w p run r h l sp =
      record {
        apart = rw (from_is p run r h) l;
        spaces = rw (from_is p run r h, gap_is p (run ++ r) w.to h (omega arith)) sp;
      }

  sane : (p : List ℕ) (b : ℕ) (run r : List ℕ) → s ≡ p ++ ((b ∷ run) ++ r) → all_of in_run (b ∷ run) ≡ true → Sane s (places (length s) (length r) (b ∷ run))
  sane p b run r h a =
      let q : bytes_at s (places (length s) (length r) (b ∷ run)) ≡ b ∷ run = rw h (place_bytes p (b ∷ run) r) in
      record {
        some = omega (arith, from_is p (b ∷ run) r h, to_is p (b ∷ run) r h);
        ends = omega arith;
        plain = rw q (no_spaces (b ∷ run) a);
      }

  -- the next word behind a word, if a word stands next
  follow : (r : List ℕ) (w : Span) (p run : List ℕ) → s ≡ p ++ (run ++ r) → w.to < length p → all_of is_space (drop w.to p) ≡ true → Follows s w (tk run r)
  unfolding tokens ended lone all_of
  follow [] w p [] h l sp = tt
  follow [] w p (b ∷ run) h l sp = token_is (λ t. Follows s w (t ∷ [])) (b ∷ run) _ (gap w p (b ∷ run) [] h l sp) (λ q. tt) (λ n. tt) (λ m. tt)
  follow (c ∷ r) w p [] h l sp =
      by_test s (Follows s w) (in_run c) _ _
      (λ e. follow r w p (c ∷ []) h l sp)
      (λ e. by_test s (Follows s w) (eqb c 32) _ _
      (λ z. follow r w (p ++ c ∷ []) [] (h ∙ sym (append_assoc p (c ∷ []) r)) (omega (arith, length-append p (c ∷ []))) (spaced z))
      (λ z. tt))
    where
      spaced : eqb c 32 ≡ true → all_of is_space (drop w.to (p ++ c ∷ [])) ≡ true
      spaced z = rw (drop-append-le w.to p (c ∷ []) (omega arith)) (all_append is_space (drop w.to p) (c ∷ []) sp (rw z))
  follow (c ∷ r) w p (b ∷ run) h l sp =
      by_test s (Follows s w) (in_run c) _ _
      (λ e. follow r w p ((b ∷ run) ++ c ∷ []) (h ∙ ap (λ (x : List ℕ). p ++ x) (sym (append_assoc (b ∷ run) (c ∷ []) r))) l sp)
      (λ e. token_is (λ t. Follows s w (t ∷ lone c (tk [] r))) (b ∷ run) _ (gap w p (b ∷ run) (c ∷ r) h l sp) (λ q. tt) (λ n. tt) (λ m. tt))

  -- behind a run that has ended at c
  after : (c : ℕ) (r : List ℕ) (w : Span) (p run : List ℕ) → s ≡ p ++ (run ++ c ∷ r) → w.to ≡ length p + length run → Follows s w (lone c (tk [] r))
  unfolding lone all_of
  after c r w p run h e =
      by_test s (Follows s w) (eqb c 32) _ _
      (λ z. follow r w ((p ++ run) ++ c ∷ []) [] split_up (omega (arith, length-append (p ++ run) (c ∷ []), length-append p run)) (rw (cut, z)))
      (λ z. tt)
    where
      split_up : s ≡ ((p ++ run) ++ c ∷ []) ++ r
      split_up = h ∙ sym (append_assoc p run (c ∷ r)) ∙ sym (append_assoc (p ++ run) (c ∷ []) r)

      cut : drop w.to ((p ++ run) ++ c ∷ []) ≡ c ∷ []
      cut = rw (e, ← (length-append p run)) (drop-append_seam (p ++ run) (c ∷ []))

  lone_laid : (c : ℕ) (ts : List (Token Span)) → Laid s ts → Laid s (lone c ts)
  unfolding lone
  lone_laid c ts h = by_test s (Laid s) (eqb c 32) ts (mark c ∷ ts) (λ e. h) (λ e. h)

  laid : (r p run : List ℕ) → s ≡ p ++ (run ++ r) → all_of in_run run ≡ true → Laid s (tk run r)
  unfolding tokens ended all_of
  laid [] p [] h a = tt
  laid [] p (b ∷ run) h a = token_is (λ t. Laid s (t ∷ [])) (b ∷ run) _ (sane p b run [] h a, tt, tt) (λ q. tt) (λ n. tt) (λ m. tt)
  laid (c ∷ r) p [] h a =
      by_test s (Laid s) (in_run c) _ _
      (λ e. laid r p (c ∷ []) h (rw e))
      (λ e. lone_laid c (tk [] r) (laid r (p ++ c ∷ []) [] (h ∙ sym (append_assoc p (c ∷ []) r)) refl))
  laid (c ∷ r) p (b ∷ run) h a =
      let g : s ≡ p ++ (((b ∷ run) ++ c ∷ []) ++ r) = h ∙ ap (λ (x : List ℕ). p ++ x) (sym (append_assoc (b ∷ run) (c ∷ []) r)) in
      let more : Laid s (lone c (tk [] r)) = lone_laid c (tk [] r) (laid r (p ++ ((b ∷ run) ++ c ∷ [])) [] (g ∙ sym (append_assoc p ((b ∷ run) ++ c ∷ []) r)) refl) in
      by_test s (Laid s) (in_run c) _ _
      (λ e. laid r p ((b ∷ run) ++ c ∷ []) g (all_append in_run (b ∷ run) (c ∷ []) a (rw e)))
      (λ e. token_is (λ t. Laid s (t ∷ lone c (tk [] r))) (b ∷ run) _ (sane p b run (c ∷ r) h a, after c r _ p (b ∷ run) h (to_is p (b ∷ run) (c ∷ r) h), more) (λ q. more) (λ n. more) (λ m. more))

  -- the tokens of a text
  pub text_laid : Laid s (tk [] s)
  unfolding all_of
  text_laid = laid s [] [] refl refl

-- the words that spaces divide
split_run : (w run r : List ℕ) → all_of not_space w ≡ true → split run (w ++ r) ≡ split (run ++ w) r
unfolding split all_of
split_run [] run r h = ap (λ (x : List ℕ). split x r) (sym (append-nil run))
split_run (b ∷ w) run r h =
    let p = and_parts (not_space b) (all_of not_space w) h in
    failed (eqb b 32) _ (split (run ++ b ∷ []) (w ++ r)) (not-true (eqb b 32) p.0)
    ∙ split_run w (run ++ b ∷ []) r p.1
    ∙ ap (λ (x : List ℕ). split x r) (append_assoc run (b ∷ []) w)

split_spaces : (g r : List ℕ) → all_of is_space g ≡ true → split [] (g ++ r) ≡ split [] r
unfolding split all_of
split_spaces [] r h = refl
split_spaces (b ∷ g) r h =
    let p = and_parts (is_space b) (all_of is_space g) h in
    passed (eqb b 32) (split [] (g ++ r)) _ p.0 ∙ split_spaces g r p.1

split_gap : (run g r : List ℕ) → 0 < length run → 0 < length g → all_of is_space g ≡ true → split run (g ++ r) ≡ run ∷ split [] r
unfolding split all_of
split_gap [] g r n m h = absurd (omega arith)
split_gap (x ∷ run) [] r n m h = absurd (omega arith)
split_gap (x ∷ run) (b ∷ g) r n m h =
    let p = and_parts (is_space b) (all_of is_space g) h in
    passed (eqb b 32) ((x ∷ run) ∷ split [] (g ++ r)) _ p.0 ∙ ap (λ ws. (x ∷ run) ∷ ws) (split_spaces g r p.1)

split_last : (run : List ℕ) → 0 < length run → split run [] ≡ run ∷ []
unfolding split
split_last [] n = absurd (omega arith)
split_last (x ∷ run) n = refl

split_word : (w g r : List ℕ) → all_of not_space w ≡ true → 0 < length w → 0 < length g → all_of is_space g ≡ true → split [] (w ++ (g ++ r)) ≡ w ∷ split [] r
split_word w g r h n m k = split_run w [] (g ++ r) h ∙ split_gap w g r n m k

module _ (s : List ℕ) where
  long : (a b : ℕ) → b ≤ length s → length (between s a b) ≡ b - a
  long a b h = omega (arith, length-take (b - a) (drop a s), length-drop a s)

  -- two parts of the text that meet
  meet : (a b c : ℕ) → a ≤ b → b ≤ c → between s a c ≡ between s a b ++ between s b c
  meet a b c h k =
      let e : c - a ≡ (b - a) + (c - b) = omega arith in
      let f : a + (b - a) ≡ b = omega arith in
      ap (λ (n : ℕ). take n (drop a s)) e
      ∙ take-add (b - a) (c - b) (drop a s)
      ∙ ap (λ (x : List ℕ). between s a b ++ take (c - b) x) (drop-drop (b - a) a s ∙ ap (λ (n : ℕ). drop n s) f)

  last_past : (w : Span) (ws : List Span) → Near s w ws → (w.from < last_to (w ∷ ws)) × (last_to (w ∷ ws) ≤ length s)
  last_past w [] h = (h.some, h.ends)
  last_past w (v ∷ ws) h = let p = last_past v ws h.2 in (omega (arith, h.0.some, h.1.apart, p.0), p.1)

  pub near_split : (w : Span) (ws : List Span) → Near s w ws → split [] (between s w.from (last_to (w ∷ ws))) ≡ each_word (bytes_at s) (w ∷ ws)
  near_split w [] h =
      let b : List ℕ = bytes_at s w in
      ap (split []) (sym (append-nil b)) ∙ split_run b [] [] h.plain ∙ split_last b (omega (arith, long w.from w.to h.ends, h.some))
  near_split w (v ∷ ws) h =
      let p = last_past v ws h.2 in
      let e : ℕ = last_to (v ∷ ws) in
      let q : between s w.from e ≡ bytes_at s w ++ (between s w.to v.from ++ between s v.from e) =
      meet w.from w.to e (omega (arith, h.0.some)) (omega (arith, h.1.apart, p.0))
      ∙ ap (λ (x : List ℕ). bytes_at s w ++ x) (meet w.to v.from e (omega (arith, h.1.apart)) (omega (arith, p.0))) in
      ap (split []) q
      ∙ split_word
      (bytes_at s w)
      (between s w.to v.from)
      (between s v.from e)
      h.0.plain
      (omega (arith, long w.from w.to h.0.ends, h.0.some))
      (omega (arith, long w.to v.from (omega (arith, p.0, p.1)), h.1.apart))
      h.1.spaces
      ∙ ap (λ us. bytes_at s w ∷ us) (near_split v ws h.2)

  -- a base's words are found again, and it has bytes
  pub neat_words : (ws : List Span) → Neat s ws → (words_at s (first_from ws) (last_to ws - first_from ws) ≡ each_word (bytes_at s) ws) × (first_from ws < last_to ws)
  unfolding words_at
  neat_words [] h = absurd h
  neat_words (w ∷ ws) h = (near_split w ws h, (last_past w ws h).0)
