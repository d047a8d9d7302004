-- Laws for the code that looks at the token at a place of the text. Assumes nothing.
use Prim.Native.Nat.{ℕ, suc, ◌+◌, ◌-◌, ◌≤◌, ◌<◌}
use Prim.Native.Nat.{zero}
use mathlib.Core.Path.{◌≡◌, refl, ap, sym, subst, ◌∙◌}
use mathlib.Core.Bool.{Bool, true, false, not, false≢true}
use mathlib.Core.Logic.{⊎_elim}
use Rattle.std.specs.Prelude.{Option, Some, None, cond, position, unwrap_or, nat_lt}
use Rattle.std.specs.List.{position_or_len}
use Rattle.std.proofs.lemmas.List.Sums.{prefix_len-le-length, fails_before_first, passes_at_first}
use Rattle.std.proofs.lemmas.Bool.Decides.{nat_tests}
use mathlib.Core.List.{List, [], ◌∷◌, ◌++◌}
use native.Mathlib.Omega.{arith}
use native.Mathlib.Numerals.{add-one}
use borrow.Author.Tests.{ne_eqb, eqb-true, not-true, not-false}
use lib.ListN.{length, get_or, take, drop, length-drop, length-take, drop_of_length-le}
use lib.Seq.{drop-cons, take-suc, get_or-drop}
use lib.Dec.{eqb}
use Rattle.std.proofs.lemmas.Bool.{cases_lt}
use Rattle.session_declaration_reader.specs.tokens.Tokens.{Token, mark, in_run, is_word_byte, is_letter, is_digit, run_token, lone, ended, tokens, rest}
use Rattle.session_declaration_reader.specs.tokens.Looking.{Span, places, tokens_at, next_kind, span_of, Looked, Skipped, Ran, run_kind}
use Rattle.session_declaration_reader.specs.declared.token_kind.TokenKind.{TokenKind}
use Rattle.session_declaration_reader.specs.declared.token_kind.TokenKind.TheVariants.{End, Mark}
use Rattle.session_declaration_reader.proofs.tokens.Cases.{passed, failed}
use Rattle.session_declaration_reader.proofs.tokens.Bytes.{kind_any, span_any}

abbrev tk : List ℕ → List ℕ → List ℕ → List (Token Span)
tk s run t = tokens (places (length s)) run t

pub at_end : (s : List ℕ) (i : ℕ) → length s ≤ i → tokens_at s i ≡ []
unfolding tokens ended tokens_at
at_end s i h = ap (tk s []) (drop_of_length-le s h)

module _ (s : List ℕ) (i : ℕ) (h : i < length s) where
  here : tokens_at s i ≡ tk s [] (get_or s i 0 ∷ drop (suc i) s)
  unfolding tokens_at
  here = ap (tk s []) (drop-cons s i 0 h)

  pub skip_turn : (at : ℕ) → get_or s i 0 ≡ 32 → tokens_at s i ≡ tokens_at s at → tokens_at s (i + 1) ≡ tokens_at s at
  unfolding tokens ended lone in_run is_word_byte is_letter is_digit tokens_at
  skip_turn at e inv =
      ap (λ (n : ℕ). tokens_at s n) (add-one i)
      ∙ sym (here ∙ ap (λ (b : ℕ). tk s [] (b ∷ drop (suc i) s)) e)
      ∙ inv

  -- a byte that stands by itself
  pub mark_here : in_run (get_or s i 0) ≡ false → (get_or s i 0 ≡ 32 → ⊥) → tokens_at s i ≡ mark (get_or s i 0) ∷ tokens_at s (i + 1)
  unfolding tokens ended lone tokens_at
  mark_here e n =
      here
      ∙ failed (in_run (get_or s i 0)) _ (lone (get_or s i 0) (tk s [] (drop (suc i) s))) e
      ∙ failed (eqb (get_or s i 0) 32) (tk s [] (drop (suc i) s)) (mark (get_or s i 0) ∷ tk s [] (drop (suc i) s)) (ne_eqb (get_or s i 0) 32 n)
      ∙ ap (λ (n : ℕ). mark (get_or s i 0) ∷ tokens_at s n) (sym (add-one i))

-- the first place that passes a test, or the length
module _ (p : ℕ → Bool) (r : List ℕ) (o : Option ℕ) (n : ℕ) (eo : o ≡ position p r) (en : n ≡ unwrap_or o (length r)) where
  first_is : n ≡ position_or_len p r
  first_is = rw eo at en ∙ or_all _ _ (prefix_len-le-length (λ y. not (p y)) r)
    where
      or_all : (k n : ℕ) → k ≤ n → unwrap_or (cond (nat_lt k n) (Some k) None) n ≡ k
      or_all k n h = grind (arith, nat_tests)

  first_inside : n ≤ length r
  first_inside = omega (arith, first_is, prefix_len-le-length (λ y. not (p y)) r)

  before_first : (k : ℕ) → k < n → p (get_or r k 0) ≡ false
  before_first k h = fails_before_first p r k 0 (omega (arith, first_is, h))

  at_first : n < length r → p (get_or r n 0) ≡ true
  at_first h = ap (λ (i : ℕ). p (get_or r i 0)) first_is ∙ passes_at_first p r 0 (omega (arith, first_is, h))

abbrev pub no_space : ℕ → Bool
no_space b = not (eqb b 32)

-- spaces are no tokens
spaces_to : (s : List ℕ) (at m : ℕ) → ((k : ℕ) → k < m → get_or s (at + k) 0 ≡ 32) → m ≤ length s - at → tokens_at s (at + m) ≡ tokens_at s at
spaces_to s at zero h l = let e : at + 0 ≡ at = omega arith in ap (tokens_at s) e
spaces_to s at (suc m) h l =
    let e : at + suc m ≡ (at + m) + 1 = omega arith in
    ap (tokens_at s) e ∙ skip_turn s (at + m) (omega arith) at (h m (omega arith)) (spaces_to s at m (λ k q. h k (omega (arith, q))) (omega arith))

pub skipped : (s : List ℕ) (at : ℕ) (r : List ℕ) → r ≡ drop at s → (o : Option ℕ) → o ≡ position no_space r → (n : ℕ) → n ≡ unwrap_or o (length r)
    → Skipped s at (at + n)
skipped s at r er o eo n en = record {
  forward = omega arith;
  same_tokens = spaces_to s at n (λ k h. sym (there k) ∙ space (get_or r k 0) (before_first no_space r o n eo en k h)) (omega (arith, first_inside no_space r o n eo en, size));
  no_space = λ h e. false≢true (sym (ap no_space (there n ∙ e)) ∙ at_first no_space r o n eo en (omega (arith, h, size)));
}
  where
    size : length r ≡ length s - at
    size = ap length er ∙ length-drop at s

    there : (k : ℕ) → get_or r k 0 ≡ get_or s (at + k) 0
    there k = ap (λ (l : List ℕ). get_or l k 0) er ∙ get_or-drop at s k 0

    space : (b : ℕ) → no_space b ≡ false → b ≡ 32
    space b e = eqb-true b 32 (not-false (eqb b 32) e)

-- the bytes of a run so far
abbrev pub run_bytes : List ℕ → ℕ → ℕ → List ℕ
run_bytes s at e = take (e - at) (drop at s)

run_more : (s : List ℕ) (at e : ℕ) → at ≤ e → e < length s → run_bytes s at (suc e) ≡ run_bytes s at e ++ (get_or s e 0 ∷ [])
run_more s at e h k =
    let q : suc e - at ≡ suc (e - at) = omega arith in
    let l : e - at < length (drop at s) = omega (arith, length-drop at s) in
    let g : at + (e - at) ≡ e = omega arith in
    ap (λ (n : ℕ). take n (drop at s)) q
    ∙ take-suc (drop at s) (e - at) 0 l
    ∙ ap (λ (b : ℕ). run_bytes s at e ++ (b ∷ [])) (get_or-drop at s (e - at) 0 ∙ ap (λ (n : ℕ). get_or s n 0) g)

run_none : (s : List ℕ) (at : ℕ) → run_bytes s at at ≡ []
run_none s at = let q : at - at ≡ 0 = omega arith in ap (λ (n : ℕ). take n (drop at s)) q ∙ take_zero (drop at s)
  where
    take_zero : (l : List ℕ) → take 0 l ≡ []
    take_zero [] = refl
    take_zero (x ∷ l) = refl

abbrev pub Running : List ℕ → ℕ → ℕ → Type 0
Running s at e = tokens (places (length s)) (run_bytes s at e) (drop e s) ≡ tokens_at s at

run_step : (s : List ℕ) (at e : ℕ) → at ≤ e → e < length s → in_run (get_or s e 0) ≡ true → Running s at e → Running s at (suc e)
unfolding tokens
run_step s at e h k r inv =
    ap (λ (t : List ℕ). tk s t (drop (suc e) s)) (run_more s at e h k)
    ∙ sym (ap (tk s (run_bytes s at e)) (drop-cons s e 0 k) ∙ passed (in_run (get_or s e 0)) (tk s (run_bytes s at e ++ (get_or s e 0 ∷ [])) (drop (suc e) s)) _ r)
    ∙ inv

running_to : (s : List ℕ) (at m : ℕ) → ((k : ℕ) → k < m → in_run (get_or s (at + k) 0) ≡ true) → at + m ≤ length s → Running s at (at + m)
unfolding tokens_at
running_to s at zero h l =
    let e : at ≡ at + 0 = omega arith in subst (Running s at) e (ap (λ (t : List ℕ). tk s t (drop at s)) (run_none s at))
running_to s at (suc m) h l =
    let e : suc (at + m) ≡ at + suc m = omega arith in
    subst (Running s at) e (run_step s at (at + m) (omega arith) (omega arith) (h m (omega arith)) (running_to s at m (λ k q. h k (omega (arith, q))) (omega arith)))

-- a run that has ended
run_over : (s : List ℕ) (at e : ℕ) (run : List ℕ) → at < e → e ≤ length s → length run ≡ e - at
    → tk s run (drop e s) ≡ ended (places (length s)) run (length (drop e s)) (tokens_at s e) → tk s run (drop e s) ≡ run_token run (record { from = at; to = e }) ∷ tokens_at s e
unfolding ended
run_over s at e [] h k l q = absurd (omega arith)
run_over s at e (b ∷ run) h k l q =
    let a : length s - (length (drop e s) + length (b ∷ run)) ≡ at = omega (arith, length-drop e s) in
    let c : length s - length (drop e s) ≡ e = omega (arith, length-drop e s) in
    q ∙ ap (λ (w : Span). run_token (b ∷ run) w ∷ tokens_at s e) (λ i. record { from = a i; to = c i })

run_long : (s : List ℕ) (at e : ℕ) → at < e → e ≤ length s → length (run_bytes s at e) ≡ e - at
run_long s at e h k = omega (arith, length-take (e - at) (drop at s), length-drop at s)

module _ (s : List ℕ) (at e : ℕ) (h : at < e) (k : e ≤ length s) (inv : Running s at e) where
  pub run_ends : length s ≤ e → Ran s at e
  unfolding tokens ended tokens_at
  run_ends n =
      let d : drop e s ≡ [] = drop_of_length-le s n in
      let q : tk s (run_bytes s at e) (drop e s) ≡ ended (places (length s)) (run_bytes s at e) (length (drop e s)) (tokens_at s e) = rw d in
      record { some = h; inside = k; token_is = sym inv ∙ run_over s at e (run_bytes s at e) h k (run_long s at e h k) q }

  pub run_stops : e < length s → in_run (get_or s e 0) ≡ false → Ran s at e
  unfolding tokens ended tokens_at
  run_stops n f =
      let d : drop e s ≡ get_or s e 0 ∷ drop (suc e) s = drop-cons s e 0 n in
      let q : tk s (run_bytes s at e) (drop e s) ≡ ended (places (length s)) (run_bytes s at e) (length (drop e s)) (tokens_at s e) =
      rw d (failed (in_run (get_or s e 0)) _ _ f
      ∙ ap
      (ended (places (length s)) (run_bytes s at e) (length (get_or s e 0 ∷ drop (suc e) s)))
      (sym (failed (in_run (get_or s e 0)) _ (lone (get_or s e 0) (tk s [] (drop (suc e) s))) f))) in
      record { some = h; inside = k; token_is = sym inv ∙ run_over s at e (run_bytes s at e) h k (run_long s at e h k) q }

abbrev pub no_run : ℕ → Bool
no_run b = not (in_run b)

pub run_to : (s : List ℕ) (at : ℕ) → at < length s → in_run (get_or s at 0) ≡ true
    → (r : List ℕ) → r ≡ drop at s → (o : Option ℕ) → o ≡ position no_run r → (n : ℕ) → n ≡ unwrap_or o (length r) → Ran s at (at + n)
run_to s at h t r er o eo n en =
    ⊎_elim
    (λ k. run_stops s at (at + n) some inside runs k (not-true _ (sym (ap no_run (there n)) ∙ at_first no_run r o n eo en (omega (arith, k, size)))))
    (λ k. run_ends s at (at + n) some inside runs k)
    (cases_lt (at + n) (length s))
  where
    size : length r ≡ length s - at
    size = ap length er ∙ length-drop at s

    there : (k : ℕ) → get_or r k 0 ≡ get_or s (at + k) 0
    there k = ap (λ (l : List ℕ). get_or l k 0) er ∙ get_or-drop at s k 0

    inside : at + n ≤ length s
    inside = omega (arith, first_inside no_run r o n eo en, size)

    -- the first byte is one of the run
    some : at < at + n
    some = go n refl
      where
        go : (m : ℕ) → m ≡ n → at < at + n
        go zero e =
            let q : at + n ≡ at = omega (arith, e) in
            absurd (false≢true (sym (ap not t) ∙ (sym (ap (λ (i : ℕ). no_run (get_or s i 0)) q) ∙ (sym (ap no_run (there n)) ∙ at_first no_run r o n eo en (omega (arith, e, size))))))
        go (suc m) e = omega (arith, e)

    runs : Running s at (at + n)
    runs = running_to s at n (λ k q. sym (ap in_run (there k)) ∙ not-false _ (before_first no_run r o n eo en k q)) inside

-- what the code sees
module _ (s : List ℕ) (at st : ℕ) (sk : Skipped s at st) where
  pub look_end : length s ≤ st → Looked s at (record { kind = End; start = st; end = st })
  unfolding next_kind span_of rest
  look_end h =
      let e : tokens_at s at ≡ [] = sym sk.same_tokens ∙ at_end s st h in
      record {
        kind_is = sym (ap next_kind e);
        span_is = ap (λ t. span_of t (record { from = st; to = st })) e;
        rest_is = at_end s st h ∙ sym (ap rest e);
        forward = λ n. absurd (n refl);
        inside = λ n. absurd (n refl);
      }

  pub look_mark : st < length s → (b : ℕ) → b ≡ get_or s st 0 → (r : Bool) → r ≡ in_run b → r ≡ false → Looked s at (record { kind = Mark b; start = st; end = st + 1 })
  unfolding next_kind span_of rest
  look_mark h b q r f t =
      let e : tokens_at s at ≡ mark (get_or s st 0) ∷ tokens_at s (st + 1) = sym sk.same_tokens ∙ mark_here s st h (sym (f ∙ ap in_run q) ∙ t) (sk.no_space h) in
      record {
        kind_is = ap Mark q ∙ sym (ap next_kind e);
        span_is = ap (λ x. span_of x (record { from = st; to = st + 1 })) e;
        rest_is = sym (ap rest e);
        forward = λ n. omega (arith, sk.forward);
        inside = λ n. omega arith;
      }

  pub look_run : (en : ℕ) → Ran s st en → (k : TokenKind) → k ≡ run_kind (run_bytes s st en) → Looked s at (record { kind = k; start = st; end = en })
  unfolding next_kind span_of rest
  look_run en a k p =
      let w : Span = record { from = st; to = en } in
      let e : tokens_at s at ≡ run_token (run_bytes s st en) w ∷ tokens_at s en = sym sk.same_tokens ∙ a.token_is in
      record {
        kind_is = p ∙ kind_any (run_bytes s st en) w ∙ sym (ap next_kind e);
        span_is = ap (λ x. span_of x w) e ∙ span_any (run_bytes s st en) w;
        rest_is = sym (ap rest e);
        forward = λ n. omega (arith, sk.forward, a.some);
        inside = λ n. a.inside;
      }
