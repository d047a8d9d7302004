-- The tokens of the written text of a chain are the tokens of the chain. Assumes nothing.
use Prim.Native.Nat.{ℕ, zero, suc, ◌+◌, ◌-◌, ◌*◌, ◌≤◌, ◌<◌}
use mathlib.Core.Path.{◌≡◌, refl, ap, sym, ◌∙◌}
use mathlib.Core.Bool.{Bool, true, false, not, ◌||◌, or-true, false≢true}
use mathlib.Core.List.{List, [], ◌∷◌, ◌++◌, append_assoc, append-nil}
use native.Mathlib.Omega.{arith}
use borrow.Author.Tests.{lt-ltb, le-ltb, le-leb, ne_eqb}
use lib.ListN.{length}
use lib.Dec.{eqb}
use Rattle.std.proofs.lemmas.Bool.{and_parts, or_parts, or_left}
use Rattle.spec_bytes.specs.text.Decimal.{digits, decimal}
use Rattle.spec_bytes.proofs.text.Digits.{horner, AllDigits, Numeral, decimal_is}
use Rattle.spec_c_dumper.specs.rules.Types.{Qualifier, volatile, const, restrict, is_empty}
use Rattle.spec_c_dumper.specs.rules.Names.{same_bytes}
use Rattle.spec_c_dumper.specs.rules.Decl.{qualifier, sep_name, brackets}
use Rattle.session_declaration_reader.specs.grammar.Chain.{Layers, named, pointer, array, proto, Params, closed, dots, param, Chain}
use Rattle.session_declaration_reader.specs.tokens.Tokens.{qual, word, number, mark, is_digit, is_letter, is_word_byte, in_run, all_of, identifier, value_of, is_count, kind_of, is_qualifier, word_token, run_token, lone, ended, tokens}
use Rattle.session_declaration_reader.specs.reader.Reading.{as_bytes}
use Rattle.proof_declaration_reader.specs.Written.{quals_before, quals_behind, words_behind, spaced, star, name_part, gap, before_count, before_params, comma, layers_text, params_text, written, Word, Words, is_arrayable, returnable, Allowed, AllowedParams, Covered}
use Rattle.proof_declaration_reader.proofs.Shapes.{Tok, Nm, has, lacks, name_toks, qual_toks, word_toks, comma_tok, toks, param_toks}
use Rattle.session_declaration_reader.proofs.tokens.Cases.{passed, failed}
use Rattle.proof_declaration_reader.proofs.Grammar.{chain_toks}

abbrev lex : List ℕ → List ℕ → List Tok
lex run s = tokens as_bytes run s

-- what can stand behind a word
abbrev Apart : List ℕ → Type 0
Apart [] = Unit {0}
Apart (b ∷ s) = in_run b ≡ false

lex_ends : (b : ℕ) (run s : List ℕ) → Apart s → lex (b ∷ run) s ≡ run_token (b ∷ run) (b ∷ run) ∷ lex [] s
unfolding tokens ended
lex_ends b run [] a = refl
lex_ends b run (c ∷ s) a =
    failed (in_run c) (lex ((b ∷ run) ++ c ∷ []) s) (run_token (b ∷ run) (b ∷ run) ∷ lone c (lex [] s)) a
    ∙ ap (λ (t : List Tok). run_token (b ∷ run) (b ∷ run) ∷ t) (sym (failed (in_run c) (lex (c ∷ []) s) (lone c (lex [] s)) a))

lex_run : (w run s : List ℕ) → all_of in_run w ≡ true → lex run (w ++ s) ≡ lex (run ++ w) s
unfolding tokens all_of
lex_run [] run s h = ap (λ (x : List ℕ). lex x s) (sym (append-nil run))
lex_run (b ∷ w) run s h =
    let p = and_parts (in_run b) (all_of in_run w) h in
    passed (in_run b) (lex (run ++ b ∷ []) (w ++ s)) _ p.0
    ∙ lex_run w (run ++ b ∷ []) s p.1
    ∙ ap (λ (x : List ℕ). lex x s) (append_assoc run (b ∷ []) w)

lex_whole : (w s : List ℕ) → all_of in_run w ≡ true → 0 < length w → Apart s → lex [] (w ++ s) ≡ run_token w w ∷ lex [] s
lex_whole [] s h n a = absurd (omega arith)
lex_whole (b ∷ w) s h n a = lex_run (b ∷ w) [] s h ∙ lex_ends b w s a

letter_in : (b : ℕ) → is_letter b ≡ true → in_run b ≡ true
unfolding in_run is_word_byte
letter_in b h = or_left (is_letter b || is_digit b) (eqb b 46) (or_left (is_letter b) (is_digit b) h)

bytes_in : (w : List ℕ) → all_of is_word_byte w ≡ true → all_of in_run w ≡ true
unfolding all_of in_run
bytes_in [] h = refl
bytes_in (b ∷ w) h = let p = and_parts (is_word_byte b) (all_of is_word_byte w) h in rw (p.0, bytes_in w p.1)

word_in_lem : (w : List ℕ) → identifier w ≡ true → (all_of in_run w ≡ true) × (0 < length w)
unfolding identifier all_of
word_in_lem [] h = absurd (false≢true h)
word_in_lem (b ∷ w) h = let p = and_parts (is_letter b) (all_of is_word_byte w) h in (rw (letter_in b p.0, bytes_in w p.1), omega arith)

word_token_lem : (w : List ℕ) → Word w → run_token w w ≡ word (kind_of w) w
unfolding run_token word_token is_qualifier
word_token_lem w h =
    let p = or_parts (same_bytes w (qualifier const) || same_bytes w (qualifier volatile)) (same_bytes w (qualifier restrict)) h.unqualified in
    let q = or_parts (same_bytes w (qualifier const)) (same_bytes w (qualifier volatile)) p.0 in
    passed (identifier w) (word_token w w) _ h.identifies
    ∙ failed (same_bytes w (qualifier const)) _ _ q.0
    ∙ failed (same_bytes w (qualifier volatile)) _ _ q.1
    ∙ failed (same_bytes w (qualifier restrict)) _ _ p.1

lex_word : (w s : List ℕ) → Word w → Apart s → lex [] (w ++ s) ≡ word (kind_of w) w ∷ lex [] s
lex_word w s h a = let p = word_in_lem w h.identifies in lex_whole w s p.0 p.1 a ∙ ap (λ (t : Tok). t ∷ lex [] s) (word_token_lem w h)

-- counts
digit_is : (d : ℕ) → 48 ≤ d → d ≤ 57 → is_digit d ≡ true
unfolding is_digit
digit_is d l h = rw (lt-ltb 47 d (omega arith), lt-ltb d 58 (omega arith))

digit_letter : (d : ℕ) → 48 ≤ d → d ≤ 57 → is_letter d ≡ false
unfolding is_letter
digit_letter d l h = rw (le-ltb 64 d (omega arith), le-ltb 96 d (omega arith), ne_eqb d 95 (λ e. omega arith))

digits_all : (s : List ℕ) → AllDigits s → all_of is_digit s ≡ true
unfolding all_of
digits_all [] a = refl
digits_all (d ∷ s) a = rw (digit_is d a.0 a.1, digits_all s a.2)

digits_in : (s : List ℕ) → AllDigits s → all_of in_run s ≡ true
unfolding all_of in_run is_word_byte
digits_in [] a = refl
digits_in (d ∷ s) a = rw (digit_letter d a.0 a.1, digit_is d a.0 a.1, digits_in s a.2)

value_is : (n : ℕ) (s : List ℕ) → value_of n s ≡ horner n s
unfolding value_of
value_is n [] = refl
value_is n (d ∷ s) = value_is (n * 10 + (d - 48)) s

is_count_lem : (n d : ℕ) (s : List ℕ) → AllDigits (d ∷ s) → (d ≡ 48 → ⊥) → value_of 0 (d ∷ s) ≡ n → n ≤ 4294967295 → is_count (d ∷ s) ≡ true
unfolding is_count
is_count_lem n d s a f v h = rw (digits_all (d ∷ s) a, ne_eqb d 48 f, or-true (is_empty s), v, le-leb n 4294967295 h)

count_token : (n : ℕ) (s : List ℕ) → 0 < n → n ≤ 4294967295 → Numeral n s → run_token s s ≡ number n
unfolding run_token identifier
count_token n [] z h k = absurd (omega (arith, k.some))
count_token n (d ∷ s) z h k =
    let v : value_of 0 (d ∷ s) ≡ n = value_is 0 (d ∷ s) ∙ k.means in
    let i : identifier (d ∷ s) ≡ false = rw (digit_letter d k.plain.0 k.plain.1) in
    failed (identifier (d ∷ s)) _ _ i
    ∙ passed (is_count (d ∷ s)) (number (value_of 0 (d ∷ s))) _ (is_count_lem n d s k.plain (k.first z) v h)
    ∙ ap number v

zero_run : run_token {W = List ℕ} (48 ∷ []) (48 ∷ []) ≡ number 0
unfolding run_token identifier is_count is_letter is_digit all_of value_of is_empty
zero_run = refl

zero_is : decimal 0 ≡ 48 ∷ []
unfolding decimal digits
zero_is = refl

zero_in : all_of in_run (48 ∷ []) ≡ true
unfolding all_of in_run is_word_byte is_letter is_digit
zero_in = refl

lex_count : (n : ℕ) (s : List ℕ) → n ≤ 4294967295 → Apart s → lex [] (decimal n ++ s) ≡ number n ∷ lex [] s
lex_count zero s h a = ap (λ (t : List ℕ). lex [] (t ++ s)) zero_is ∙ lex_whole (48 ∷ []) s zero_in (omega arith) a ∙ ap (λ (t : Tok). t ∷ lex [] s) zero_run
lex_count (suc n) s h a =
    let k = decimal_is (suc n) (omega arith) in
    lex_whole (decimal (suc n)) s (digits_in (decimal (suc n)) k.plain) k.some a
    ∙ ap (λ (t : Tok). t ∷ lex [] s) (count_token (suc n) (decimal (suc n)) (omega arith) h k)

lex_brackets : (n : ℕ) (s : List ℕ) → n ≤ 4294967295 → lex [] (brackets n ++ s) ≡ mark 91 ∷ number n ∷ mark 93 ∷ lex [] s
unfolding brackets tokens ended lone in_run is_word_byte is_letter is_digit
lex_brackets n s h =
    ap (λ (t : List ℕ). mark 91 ∷ lex [] t) (append_assoc (decimal n) (93 ∷ []) s)
    ∙ ap (λ (t : List Tok). mark 91 ∷ t) (lex_count n (93 ∷ s) h refl)

-- qualifiers
lex_before : (q : List Qualifier) (s : List ℕ) → lex [] (quals_before q ++ s) ≡ qual_toks q (lex [] s)
unfolding quals_before qualifier tokens ended lone run_token word_token identifier is_count in_run is_word_byte is_letter is_digit all_of same_bytes
lex_before [] s = refl
lex_before (volatile ∷ q) s = ap (λ (t : List Tok). qual volatile ∷ t) (lex_before q s)
lex_before (const ∷ q) s = ap (λ (t : List Tok). qual const ∷ t) (lex_before q s)
lex_before (restrict ∷ q) s = ap (λ (t : List Tok). qual restrict ∷ t) (lex_before q s)

behind_apart : (q : List Qualifier) (s : List ℕ) → Apart s → Apart (quals_behind q ++ s)
unfolding quals_behind in_run is_word_byte is_letter is_digit
behind_apart [] s a = a
behind_apart (q ∷ qs) s a = refl

-- the token of each qualifier word
qual_token : (q : Qualifier) (s : List ℕ) → Apart s → lex [] (qualifier q ++ s) ≡ qual q ∷ lex [] s
unfolding qualifier tokens ended run_token word_token identifier in_run is_word_byte is_letter is_digit all_of same_bytes
qual_token volatile s a = lex_ends 118 (111 ∷ 108 ∷ 97 ∷ 116 ∷ 105 ∷ 108 ∷ 101 ∷ []) s a
qual_token const s a = lex_ends 99 (111 ∷ 110 ∷ 115 ∷ 116 ∷ []) s a
qual_token restrict s a = lex_ends 114 (101 ∷ 115 ∷ 116 ∷ 114 ∷ 105 ∷ 99 ∷ 116 ∷ []) s a

-- a space before a text
lex_space : (s : List ℕ) → lex [] (32 ∷ s) ≡ lex [] s
unfolding tokens ended lone in_run is_word_byte is_letter is_digit
lex_space s = refl

lex_behind : (q : List Qualifier) (s : List ℕ) → Apart s → lex [] (quals_behind q ++ s) ≡ qual_toks q (lex [] s)
unfolding quals_behind
lex_behind [] s a = refl
lex_behind (q ∷ qs) s a =
    lex_space ((qualifier q ++ quals_behind qs) ++ s)
    ∙ ap (lex []) (append_assoc (qualifier q) (quals_behind qs) s)
    ∙ qual_token q (quals_behind qs ++ s) (behind_apart qs s a)
    ∙ ap (λ (t : List Tok). qual q ∷ t) (lex_behind qs s a)

-- the words of a base
words_apart : (ws : List (List ℕ)) (s : List ℕ) → Apart s → Apart (words_behind ws ++ s)
unfolding words_behind in_run is_word_byte is_letter is_digit
words_apart [] s a = a
words_apart (w ∷ ws) s a = refl

lex_more : (ws : List (List ℕ)) (s : List ℕ) → Words ws → Apart s → lex [] (words_behind ws ++ s) ≡ word_toks ws (lex [] s)
unfolding words_behind
lex_more [] s h a = refl
lex_more (w ∷ ws) s h a =
    lex_space ((w ++ words_behind ws) ++ s)
    ∙ ap (lex []) (append_assoc w (words_behind ws) s)
    ∙ lex_word w (words_behind ws ++ s) h.0 (words_apart ws s a)
    ∙ ap (λ (t : List Tok). word (kind_of w) w ∷ t) (lex_more ws s h.1 a)

lex_spaced : (ws : List (List ℕ)) (s : List ℕ) → Words ws → Apart s → lex [] (spaced ws ++ s) ≡ word_toks ws (lex [] s)
unfolding spaced
lex_spaced [] s h a = refl
lex_spaced (w ∷ ws) s h a =
    ap (lex []) (append_assoc w (words_behind ws) s)
    ∙ lex_word w (words_behind ws ++ s) h.0 (words_apart ws s a)
    ∙ ap (λ (t : List Tok). word (kind_of w) w ∷ t) (lex_more ws s h.1 a)

-- the name
abbrev name_is : Nm → List ℕ
name_is (has w) = w
name_is lacks = []

abbrev NameOk : Nm → Type 0
NameOk (has w) = Word w
NameOk lacks = Unit {0}

lex_name : (m : Nm) (p : Bool) (s : List ℕ) → NameOk m → Apart s → lex [] (name_part (name_is m) p ++ s) ≡ name_toks m (lex [] s)
unfolding name_part sep_name is_empty
lex_name (has w) true s h a = lex_word w s h a
lex_name (has []) false s h a = lex_word [] s h a
lex_name (has (b ∷ w)) false s h a = lex_space ((b ∷ w) ++ s) ∙ lex_word (b ∷ w) s h a
lex_name lacks true s h a = refl
lex_name lacks false s h a = refl

lex_gap : (f : List ℕ) (p : Bool) (s : List ℕ) → lex [] (gap f p ++ s) ≡ lex [] s
unfolding gap is_empty
lex_gap [] p s = refl
lex_gap (b ∷ f) true s = refl
lex_gap (b ∷ f) false s = lex_space s

lex_open : (s : List ℕ) → lex [] (40 ∷ s) ≡ mark 40 ∷ lex [] s
unfolding tokens ended lone in_run is_word_byte is_letter is_digit
lex_open s = refl

lex_close : (s : List ℕ) → lex [] (41 ∷ s) ≡ mark 41 ∷ lex [] s
unfolding tokens ended lone in_run is_word_byte is_letter is_digit
lex_close s = refl

lex_star : (p : Bool) (s : List ℕ) → lex [] (star p ++ s) ≡ mark 42 ∷ lex [] s
unfolding star tokens ended lone in_run is_word_byte is_letter is_digit
lex_star true s = refl
lex_star false s = refl

close_apart : (s : List ℕ) → Apart (41 ∷ s)
unfolding in_run is_word_byte is_letter is_digit
close_apart s = refl

-- text that follows a word, or no name
name_apart : (f : List ℕ) (p : Bool) (s : List ℕ) → (is_empty f || not p) ≡ true → Apart s → Apart (name_part f p ++ s)
unfolding name_part sep_name is_empty in_run is_word_byte is_letter is_digit
name_apart [] true s h a = a
name_apart [] false s h a = a
name_apart (b ∷ f) true s h a = absurd (false≢true h)
name_apart (b ∷ f) false s h a = refl

-- text in parentheses
in_parens : (a t y : List ℕ) → (((a ++ 40 ∷ []) ++ t) ++ 41 ∷ []) ++ y ≡ a ++ (40 ∷ (t ++ (41 ∷ y)))
in_parens a t y = simp append_assoc

in_spaced_parens : (t y : List ℕ) → ((32 ∷ 40 ∷ t) ++ 41 ∷ []) ++ y ≡ 32 ∷ 40 ∷ (t ++ (41 ∷ y))
in_spaced_parens t y = ap (λ (x : List ℕ). 32 ∷ 40 ∷ x) (append_assoc t (41 ∷ []) y)

gap_apart : (f : List ℕ) (p : Bool) (s : List ℕ) → (is_empty f || not p) ≡ true → (is_empty f ≡ true → Apart s) → Apart (gap f p ++ s)
unfolding gap is_empty in_run is_word_byte is_letter is_digit
gap_apart [] p s h a = a refl
gap_apart (b ∷ f) true s h a = absurd (false≢true h)
gap_apart (b ∷ f) false s h a = refl

layers_apart : (l : Layers (List ℕ)) (f : List ℕ) (p : Bool) (s : List ℕ) → (is_empty f || not p) ≡ true → Apart s → Apart (layers_text l f p ++ s)
unfolding layers_text star before_count before_params brackets in_run is_word_byte is_letter is_digit
layers_apart named f p s h a = name_apart f p s h a
layers_apart (pointer q l) f true s h a = refl
layers_apart (pointer q l) f false s h a = refl
layers_apart (array n named) f p s h a = rw (append_assoc (name_part f p) (brackets n) s) (name_apart f p (brackets n ++ s) h refl)
layers_apart (array n (pointer q l)) f p s h a =
    rw
    (append_assoc (((gap f p ++ 40 ∷ []) ++ layers_text (pointer q l) f true) ++ 41 ∷ []) (brackets n) s, in_parens (gap f p) (layers_text (pointer q l) f true) (brackets n ++ s))
    (gap_apart f p (40 ∷ (layers_text (pointer q l) f true ++ (41 ∷ (brackets n ++ s)))) h (λ e. refl))
layers_apart (array n (array k l)) f p s h a =
    rw
    (append_assoc (gap f p ++ layers_text (array k l) f true) (brackets n) s, append_assoc (gap f p) (layers_text (array k l) f true) (brackets n ++ s))
    (gap_apart f p (layers_text (array k l) f true ++ (brackets n ++ s)) h (λ e. layers_apart (array k l) f true (brackets n ++ s) (or_left (is_empty f) false e) refl))
layers_apart (array n (proto ps l)) f p s h a =
    rw
    (append_assoc (((gap f p ++ 40 ∷ []) ++ layers_text (proto ps l) f true) ++ 41 ∷ []) (brackets n) s, in_parens (gap f p) (layers_text (proto ps l) f true) (brackets n ++ s))
    (gap_apart f p (40 ∷ (layers_text (proto ps l) f true ++ (41 ∷ (brackets n ++ s)))) h (λ e. refl))
layers_apart (proto ps named) f p s h a = rw (in_parens (name_part f p) (params_text ps true) s) (name_apart f p (40 ∷ (params_text ps true ++ (41 ∷ s))) h refl)
layers_apart (proto ps (pointer q l)) f p s h a = refl
layers_apart (proto ps (array k l)) f p s h a = refl
layers_apart (proto ps (proto qs l)) f p s h a = refl

abbrev LexHolds : Layers (List ℕ) → Nm → Type 0
LexHolds l m = (p : Bool) (s : List ℕ) → Apart s → lex [] (layers_text l (name_is m) p ++ s) ≡ toks l m (lex [] s)

abbrev ParamsLex : Params (List ℕ) → Type 0
ParamsLex ps = (first : Bool) (s : List ℕ) → lex [] (params_text ps first ++ (41 ∷ s)) ≡ param_toks ps first (lex [] s)

pointer_lex : (q : List Qualifier) (l : Layers (List ℕ)) (m : Nm) → LexHolds l m → LexHolds (pointer q l) m
unfolding layers_text quals_behind
pointer_lex [] l m ih p s a =
    let t : List ℕ = layers_text l (name_is m) true in
    let e : ((star p ++ []) ++ t) ++ s ≡ star p ++ (t ++ s) = simp append_assoc in
    ap (lex []) e ∙ lex_star p (t ++ s) ∙ ap (λ (x : List Tok). mark 42 ∷ x) (ih true s a)
pointer_lex (x ∷ q) l m ih p s a =
    let t : List ℕ = layers_text l (name_is m) false in
    ap (lex []) (three (star p) (quals_behind (x ∷ q)) t s)
    ∙ lex_star p (quals_behind (x ∷ q) ++ (t ++ s))
    ∙ ap (λ (y : List Tok). mark 42 ∷ y) (lex_behind (x ∷ q) (t ++ s) (layers_apart l (name_is m) false s (or-true (is_empty (name_is m))) a))
    ∙ ap (λ (y : List Tok). mark 42 ∷ qual_toks (x ∷ q) y) (ih false s a)
  where
    three : (a b c d : List ℕ) → ((a ++ b) ++ c) ++ d ≡ a ++ (b ++ (c ++ d))
    three a b c d = simp append_assoc

paren_lex : (l : Layers (List ℕ)) (m : Nm) → LexHolds l m → (y : List ℕ) → lex [] (40 ∷ (layers_text l (name_is m) true ++ (41 ∷ y))) ≡ mark 40 ∷ toks l m (mark 41 ∷ lex [] y)
paren_lex l m ih y =
    lex_open (layers_text l (name_is m) true ++ (41 ∷ y))
    ∙ ap (λ (x : List Tok). mark 40 ∷ x) (ih true (41 ∷ y) (close_apart y))
    ∙ ap (λ (x : List Tok). mark 40 ∷ toks l m x) (lex_close y)

brackets_apart : (n : ℕ) (s : List ℕ) → Apart (brackets n ++ s)
unfolding brackets in_run is_word_byte is_letter is_digit
brackets_apart n s = refl

array_lex : (n : ℕ) (l : Layers (List ℕ)) (m : Nm) → n ≤ 4294967295 → is_arrayable l ≡ true → NameOk m → LexHolds l m → LexHolds (array n l) m
unfolding layers_text before_count
array_lex n named m h t ok ih p s a =
    ap (lex []) (append_assoc (name_part (name_is m) p) (brackets n) s)
    ∙ lex_name m p (brackets n ++ s) ok (brackets_apart n s)
    ∙ ap (name_toks m) (lex_brackets n s h)
array_lex n (pointer q l) m h t ok ih p s a =
    let f : List ℕ = name_is m in
    let x : List ℕ = layers_text (pointer q l) f true in
    let y : List ℕ = brackets n ++ s in
    ap (lex []) (append_assoc (((gap f p ++ 40 ∷ []) ++ x) ++ 41 ∷ []) (brackets n) s ∙ in_parens (gap f p) x y)
    ∙ lex_gap f p (40 ∷ (x ++ (41 ∷ y)))
    ∙ paren_lex (pointer q l) m ih y
    ∙ ap (λ (z : List Tok). mark 40 ∷ toks (pointer q l) m (mark 41 ∷ z)) (lex_brackets n s h)
array_lex n (array k l) m h t ok ih p s a =
    let f : List ℕ = name_is m in
    let x : List ℕ = layers_text (array k l) f true in
    let y : List ℕ = brackets n ++ s in
    ap (lex []) (append_assoc (gap f p ++ x) (brackets n) s ∙ append_assoc (gap f p) x y)
    ∙ lex_gap f p (x ++ y)
    ∙ ih true y (brackets_apart n s)
    ∙ ap (toks (array k l) m) (lex_brackets n s h)
array_lex n (proto ps l) m h t ok ih p s a = absurd (false≢true t)

open_apart : (s : List ℕ) → Apart (40 ∷ s)
unfolding in_run is_word_byte is_letter is_digit
open_apart s = refl

proto_lex : (ps : Params (List ℕ)) (l : Layers (List ℕ)) (m : Nm) → returnable l ≡ true → NameOk m → LexHolds l m → ParamsLex ps → LexHolds (proto ps l) m
unfolding layers_text before_params
proto_lex ps named m t ok ih ph p s a =
    let y : List ℕ = params_text ps true ++ (41 ∷ s) in
    ap (lex []) (in_parens (name_part (name_is m) p) (params_text ps true) s)
    ∙ lex_name m p (40 ∷ y) ok (open_apart y)
    ∙ ap (name_toks m) (lex_open y ∙ ap (λ (z : List Tok). mark 40 ∷ z) (ph true s))
proto_lex ps (pointer q l) m t ok ih ph p s a =
    let x : List ℕ = layers_text (pointer q l) (name_is m) true in
    let y : List ℕ = params_text ps true ++ (41 ∷ s) in
    ap (lex []) (in_parens ((32 ∷ 40 ∷ x) ++ 41 ∷ []) (params_text ps true) s ∙ in_spaced_parens x (40 ∷ y))
    ∙ lex_space (40 ∷ (x ++ (41 ∷ 40 ∷ y)))
    ∙ paren_lex (pointer q l) m ih (40 ∷ y)
    ∙ ap (λ (z : List Tok). mark 40 ∷ toks (pointer q l) m (mark 41 ∷ z)) (lex_open y ∙ ap (λ (z : List Tok). mark 40 ∷ z) (ph true s))
proto_lex ps (array n l) m t ok ih ph p s a = absurd (false≢true t)
proto_lex ps (proto qs l) m t ok ih ph p s a = absurd (false≢true t)

closed_lex : ParamsLex closed
unfolding params_text
closed_lex first s = lex_close s

dots_lex : ParamsLex dots
unfolding params_text comma tokens ended lone run_token identifier is_count in_run is_word_byte is_letter is_digit all_of same_bytes
dots_lex true s = refl
dots_lex false s = refl

comma_lex : (first : Bool) (s : List ℕ) → lex [] (comma first ++ s) ≡ comma_tok first (lex [] s)
unfolding comma tokens ended lone in_run is_word_byte is_letter is_digit
comma_lex true s = refl
comma_lex false s = refl

params_apart : (ps : Params (List ℕ)) (s : List ℕ) → Apart (params_text ps false ++ (41 ∷ s))
unfolding params_text comma in_run is_word_byte is_letter is_digit
params_apart closed s = refl
params_apart dots s = refl
params_apart (param q ws l ps) s = refl

five : (a b c d e f : List ℕ) → ((((a ++ b) ++ c) ++ d) ++ e) ++ f ≡ a ++ (b ++ (c ++ (d ++ (e ++ f))))
five a b c d e f = simp append_assoc

param_lex : (q : List Qualifier) (ws : List (List ℕ)) (l : Layers (List ℕ)) (ps : Params (List ℕ)) → Words ws → LexHolds l lacks → ParamsLex ps → ParamsLex (param q ws l ps)
unfolding params_text is_empty
param_lex q ws l ps h ih ph first s =
    let z : List ℕ = params_text ps false ++ (41 ∷ s) in
    let y : List ℕ = layers_text l [] false ++ z in
    ap (lex []) (five (comma first) (quals_before q) (spaced ws) (layers_text l [] false) (params_text ps false) (41 ∷ s))
    ∙ comma_lex first (quals_before q ++ (spaced ws ++ y))
    ∙ ap
    (comma_tok first)
    (lex_before q (spaced ws ++ y)
    ∙ ap (qual_toks q) (lex_spaced ws y h (layers_apart l [] false z refl (params_apart ps s)))
    ∙ ap (λ (t : List Tok). qual_toks q (word_toks ws t)) (ih false z (params_apart ps s) ∙ ap (toks l lacks) (ph false s)))

mutual
  unfolding layers_text

  layers_lex : (l : Layers (List ℕ)) → Allowed l → (m : Nm) → NameOk m → LexHolds l m
  layers_lex named a m ok = λ p s h. lex_name m p s ok h
  layers_lex (pointer q l) a m ok = pointer_lex q l m (layers_lex l a.1 m ok)
  layers_lex (array n l) a m ok = array_lex n l m a.0 a.1 ok (layers_lex l a.2 m ok)
  layers_lex (proto ps l) a m ok = proto_lex ps l m a.2 ok (layers_lex l a.3 m ok) (params_lex ps a.1)

  params_lex : (ps : Params (List ℕ)) → AllowedParams ps → ParamsLex ps
  params_lex closed a = closed_lex
  params_lex dots a = dots_lex
  params_lex (param q ws l ps) a = param_lex q ws l ps a.0.spells (layers_lex l a.2 lacks tt) (params_lex ps a.3)

-- the tokens of the written text
pub written_tokens : (c : Chain (List ℕ)) (w : List ℕ) → Covered c → Word w → tokens as_bytes [] (written c w) ≡ chain_toks c w
unfolding written tokens ended
written_tokens c w v ok =
    let q = c.quals in
    let ws = c.words in
    let y : List ℕ = layers_text c.layers w false in
    let a : Apart (y ++ []) = layers_apart c.layers w false [] (or-true (is_empty w)) tt in
    ap (lex []) (sym (append-nil (quals_before q ++ spaced ws ++ y)) ∙ append_assoc (quals_before q ++ spaced ws) y [] ∙ append_assoc (quals_before q) (spaced ws) (y ++ []))
    ∙ lex_before q (spaced ws ++ (y ++ []))
    ∙ ap (qual_toks q) (lex_spaced ws (y ++ []) v.base.spells a)
    ∙ ap (λ (t : List Tok). qual_toks q (word_toks ws t)) (layers_lex c.layers v.allowed (has w) ok false [] tt)
