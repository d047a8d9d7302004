-- The grammar reads the tokens of a chain back to the chain. Assumes nothing.
use Prim.Native.Nat.{ℕ, zero, suc, ◌+◌, ◌-◌, ◌*◌, ◌≤◌}
use mathlib.Core.Path.{◌≡◌, refl, ap, sym, ◌∙◌}
use mathlib.Core.Bool.{Bool, true, false, not, ◌&&◌, ◌||◌, false≢true}
use mathlib.Core.List.{List, [], ◌∷◌}
use native.Mathlib.Omega.{arith}
use Rattle.std.proofs.lemmas.Bool.{or_from}
use Rattle.spec_c_dumper.specs.rules.Types.{Qualifier}
use Rattle.session_declaration_reader.specs.grammar.Chain.{Layers, named, pointer, array, proto, Params, closed, dots, param, Chain, layer_entries, param_entries, entries}
use Rattle.session_declaration_reader.specs.tokens.Tokens.{number, mark, rest}
use Rattle.session_declaration_reader.specs.grammar.Grammar.{Reads, reads, and_then, wanted, wanted_name, wanted_count, declarator, suffixes, params, param_list, param_end}
use Rattle.session_declaration_reader.specs.bases.Bases.{Spelt, distinct, begins, begins_word, bracketed, qual_run, after_quals, ends_name, words_of, void_before}
use Rattle.session_declaration_reader.specs.reader.Reading.{most, read_tokens}
use Rattle.proof_declaration_reader.specs.Written.{plain_void, spelling, Base, Allowed, AllowedParams, is_arrayable, returnable, starts_with_dots, Covered}
use Rattle.proof_declaration_reader.proofs.Shapes.{Tok, Nm, has, lacks, wants, qual_toks, word_toks, toks, param_toks, Stops, at_end, at_close, at_comma, begins_qual, stops_name, stops_qual, param_stops, qual_run_lem, after_quals_lem, words_of_lem, toks_qual, unnamed_left, base_mark, params_end, named_left, not_void, at_41, at_44, base_goes}
use Rattle.session_declaration_reader.proofs.tokens.Cases.{passed, failed}

abbrev Res : Type 0
Res = Reads (List ℕ) (Layers (List ℕ))

-- calls from a declarator to what stands behind it
abbrev used : Layers (List ℕ) → ℕ
used named = 1
used (pointer q l) = 1
used (array n l) = suc (used l)
used (proto ps l) = suc (used l)

abbrev plus : ℕ → ℕ → ℕ
plus zero b = b
plus (suc a) b = plus a (suc b)

plus_is : (a b : ℕ) → plus a b ≡ a + b
plus_is zero b = omega arith
plus_is (suc a) b = plus_is a (suc b) ∙ omega arith

-- calls that are left open beside those
abbrev mutual
  spare : Layers (List ℕ) → ℕ
  spare named = 0
  spare (pointer q l) = used l + spare l + 1
  spare (array n l) = spare l
  spare (proto ps l) = spare l + size ps

  size : Params (List ℕ) → ℕ
  size closed = 1
  size dots = 1
  size (param q ws l ps) = 3 + used l + spare l + size ps

-- what a declarator goes on with: its stars end it
abbrev goes : Layers (List ℕ) → ℕ → List Tok → Res
goes named h r = suffixes h named r
goes (pointer q l) h r = reads (pointer q l) r
goes (array n l) h r = suffixes h (array n l) r
goes (proto ps l) h r = suffixes h (proto ps l) r

abbrev Ends : Layers (List ℕ) → List Tok → Type 0
Ends named r = ends_name r ≡ true
Ends (pointer q l) r = Stops r
Ends (array n l) r = ends_name r ≡ true
Ends (proto ps l) r = ends_name r ≡ true

abbrev Holds : Layers (List ℕ) → Nm → Type 0
Holds l m = (h : ℕ) (r : List Tok) → spare l ≤ h → Ends l r → declarator (plus (used l) h) (wants m) (toks l m r) ≡ goes l h r

-- behind an opening parenthesis, or behind a parameter
abbrev behind : Bool → ℕ → List Tok → Reads (List ℕ) (Params (List ℕ))
behind true h r = params h r
behind false h r = param_end h r

abbrev ParamsHold : Params (List ℕ) → Type 0
ParamsHold ps = (first : Bool) (h : ℕ) (r : List Tok) → size ps ≤ h → (starts_with_dots ps && first) ≡ false → behind first h (param_toks ps first r) ≡ reads ps r

suffix_stops : (l : Layers (List ℕ)) (h : ℕ) (r : List Tok) → Stops r → suffixes (suc h) l r ≡ reads l r
unfolding suffixes begins
suffix_stops l h _ at_end = refl
suffix_stops l h _ at_close = refl
suffix_stops l h _ at_comma = refl

settle : (l : Layers (List ℕ)) (h : ℕ) (r : List Tok) → Stops r → goes l (suc h) r ≡ reads l r
settle named h r s = suffix_stops named h r s
settle (pointer q l) h r s = refl
settle (array n l) h r s = suffix_stops (array n l) h r s
settle (proto ps l) h r s = suffix_stops (proto ps l) h r s

stops_ends : (l : Layers (List ℕ)) (r : List Tok) → Stops r → Ends l r
stops_ends named r s = stops_name s
stops_ends (pointer q l) r s = s
stops_ends (array n l) r s = stops_name s
stops_ends (proto ps l) r s = stops_name s

-- a whole declarator
ends_here : (l : Layers (List ℕ)) (m : Nm) → Holds l m → (h : ℕ) (r : List Tok) → used l + spare l + 1 ≤ h → Stops r → declarator h (wants m) (toks l m r) ≡ reads l r
ends_here l m ih h r b s =
    let k : ℕ = h - used l - 1 in
    let e : h ≡ plus (used l) (suc k) = omega (arith, plus_is (used l) (suc (h - used l - 1))) in
    ap (λ (x : ℕ). declarator x (wants m) (toks l m r)) e ∙ ih (suc k) r (omega arith) (stops_ends l r s) ∙ settle l k r s

-- not a star, and not in parentheses
no_star : (a b c : Bool) → (not a && not b && not c) ≡ true → (b ≡ false) × (c ≡ false)
no_star true b c e = absurd (false≢true e)
no_star false true c e = absurd (false≢true e)
no_star false false true e = absurd (false≢true e)
no_star false false false e = (refl, refl)

named_holds : (m : Nm) → Holds named m
unfolding declarator begins bracketed wanted_name begins_word rest ends_name
named_holds (has w) h r b e = refl
named_holds lacks h r b e = let f = no_star (begins_word r) (begins 42 r) (bracketed r) e in rw (f.0, declarator, f.1)

star_goes : (h : ℕ) (n : Bool) (u t r : List Tok) (q : List Qualifier) (l : Layers (List ℕ))
    → qual_run u ≡ q → after_quals u ≡ t → distinct q ≡ true → declarator h n t ≡ reads l r → declarator (suc h) n (mark 42 ∷ u) ≡ reads (pointer q l) r
unfolding declarator begins rest and_then
star_goes h n u t r q l e₁ e₂ d e =
    passed
    (distinct (qual_run u))
    (and_then (declarator h n (after_quals u)) (λ k us. reads (pointer (qual_run u) k) us))
    _
    (rw e₁ d)
    ∙ ap (λ (x : List Tok). and_then (declarator h n x) (λ k us. reads (pointer (qual_run u) k) us)) e₂
    ∙ ap (λ (x : Res). and_then x (λ k us. reads (pointer (qual_run u) k) us)) e
    ∙ ap (λ (x : List Qualifier). reads (pointer x l) r) e₁

pointer_holds : (q : List Qualifier) (l : Layers (List ℕ)) (m : Nm) → distinct q ≡ true → Holds l m → Holds (pointer q l) m
pointer_holds q l m d ih h r b s =
    let f : begins_qual (toks l m r) ≡ false = toks_qual l m r (stops_qual s) in
    star_goes
    h
    (wants m)
    (qual_toks q (toks l m r))
    (toks l m r)
    r
    q
    l
    (qual_run_lem q (toks l m r) f)
    (after_quals_lem q (toks l m r) f)
    d
    (ends_here l m ih h r b s)

array_holds : (n : ℕ) (l : Layers (List ℕ)) (m : Nm) → is_arrayable l ≡ true → Holds l m → Holds (array n l) m
unfolding declarator suffixes begins bracketed rest and_then wanted wanted_count ends_name begins_word
array_holds n named m a ih h r b e = ih (suc h) (mark 91 ∷ number n ∷ mark 93 ∷ r) (omega arith) refl
array_holds n (pointer q l) m a ih h r b e =
    ap (λ (x : Res). and_then x (λ k us. wanted 41 us (λ vs. suffixes (suc h) k vs))) (ih h (mark 41 ∷ mark 91 ∷ number n ∷ mark 93 ∷ r) b at_close)
array_holds n (array k l) m a ih h r b e = ih (suc h) (mark 91 ∷ number n ∷ mark 93 ∷ r) (omega arith) refl
array_holds n (proto ps l) m a ih h r b e = absurd (false≢true a)

proto_holds : (ps : Params (List ℕ)) (l : Layers (List ℕ)) (m : Nm) → starts_with_dots ps ≡ false → AllowedParams ps → returnable l ≡ true → Holds l m → ParamsHold ps → Holds (proto ps l) m
unfolding declarator suffixes begins bracketed rest and_then wanted
proto_holds ps named m d a t ih ph h r b e =
    ih (suc h) (mark 40 ∷ param_toks ps true r) (omega arith) (params_end ps r a)
    ∙ ap (λ (x : Reads (List ℕ) (Params (List ℕ))). and_then x (λ ps us. suffixes h (proto ps named) us)) (ph true h r (omega arith) (dotless ps d))
  where
    dotless : (ps : Params (List ℕ)) → starts_with_dots ps ≡ false → (starts_with_dots ps && true) ≡ false
    dotless ps d = rw d
proto_holds ps (pointer q l) m d a t ih ph h r b e =
    ap
    (λ (x : Res). and_then x (λ k us. wanted 41 us (λ vs. suffixes (suc h) k vs)))
    (ih h (mark 41 ∷ mark 40 ∷ param_toks ps true r) (omega arith) at_close)
    ∙ ap (λ (x : Reads (List ℕ) (Params (List ℕ))). and_then x (λ ps us. suffixes h (proto ps (pointer q l)) us)) (ph true h r (omega arith) (dotless ps d))
  where
    dotless : (ps : Params (List ℕ)) → starts_with_dots ps ≡ false → (starts_with_dots ps && true) ≡ false
    dotless ps d = rw d
proto_holds ps (array n l) m d a t ih ph h r b e = absurd (false≢true t)
proto_holds ps (proto qs l) m d a t ih ph h r b e = absurd (false≢true t)

last : (ps : Params (List ℕ)) → (starts_with_dots ps && false) ≡ false
last closed = refl
last dots = refl
last (param q ws l ps) = refl

list_goes : (h : ℕ) (t us r : List Tok) (q : List Qualifier) (ss : List (Spelt (List ℕ))) (ws : List (List ℕ)) (l : Layers (List ℕ)) (ps : Params (List ℕ))
    → declarator h false t ≡ reads l us → param_end h us ≡ reads ps r → words_of ss ≡ ws
    → and_then (declarator h false t) (λ k vs. and_then (param_end h vs) (λ qs xs. reads (param q (words_of ss) k qs) xs)) ≡ reads (param q ws l ps) r
unfolding and_then
list_goes h t us r q ss ws l ps e f g =
    ap (λ (x : Res). and_then x (λ k vs. and_then (param_end h vs) (λ qs xs. reads (param q (words_of ss) k qs) xs))) e
    ∙ ap (λ (x : Reads (List ℕ) (Params (List ℕ))). and_then x (λ qs xs. reads (param q (words_of ss) l qs) xs)) f
    ∙ ap (λ (x : List (List ℕ)). reads (param q x l ps) r) g

list_reads : (q : List Qualifier) (ws : List (List ℕ)) (l : Layers (List ℕ)) (ps : Params (List ℕ))
    → Base q ws → plain_void q (spelling ws) l ≡ false → Holds l lacks → ParamsHold ps
    → (h : ℕ) (r : List Tok) → used l + spare l + 1 + size ps ≤ h → param_list (suc h) (qual_toks q (word_toks ws (toks l lacks (param_toks ps false r)))) ≡ reads (param q ws l ps) r
unfolding param_list
list_reads q ws l ps b v ih ph h r s =
    let us : List Tok = param_toks ps false r in
    let ts : List Tok = qual_toks q (word_toks ws (toks l lacks us)) in
    let st : Stops us = param_stops ps r in
    failed
    (void_before 41 ts || void_before 44 ts)
    _
    _
    (or_from (void_before 41 ts) (void_before 44 ts) (not_void 41 at_41 q ws l us b.names v) (not_void 44 at_44 q ws l us b.names v))
    ∙ base_goes false q ws (toks l lacks us) _ b (toks_qual l lacks us (stops_qual st)) (unnamed_left l us st)
    ∙ list_goes
    h
    (toks l lacks us)
    us
    r
    q
    (spelling ws)
    ws
    l
    ps
    (ends_here l lacks ih h us (omega arith) st)
    (ph false h r (omega arith) (last ps))
    (words_of_lem ws)

param_holds : (q : List Qualifier) (ws : List (List ℕ)) (l : Layers (List ℕ)) (ps : Params (List ℕ))
    → Base q ws → plain_void q (spelling ws) l ≡ false → Holds l lacks → ParamsHold ps → ParamsHold (param q ws l ps)
unfolding params param_end begins rest
param_holds q ws l ps b v ih ph first zero r s d = absurd (omega arith)
param_holds q ws l ps b v ih ph first (suc zero) r s d = absurd (omega arith)
param_holds q ws l ps b v ih ph true (suc (suc h)) r s d =
    let t : List Tok = toks l lacks (param_toks ps false r) in
    rw (base_mark 41 q ws t b.names, params, not_void 41 at_41 q ws l (param_toks ps false r) b.names v) (list_reads q ws l ps b v ih ph h r (omega arith))
param_holds q ws l ps b v ih ph false (suc (suc h)) r s d =
    let t : List Tok = toks l lacks (param_toks ps false r) in
    rw (base_mark 46 q ws t b.names, param_end) (list_reads q ws l ps b v ih ph h r (omega arith))

closed_holds : ParamsHold closed
unfolding params param_end begins rest wanted
closed_holds first zero r s d = absurd (omega arith)
closed_holds true (suc h) r s d = refl
closed_holds false (suc h) r s d = refl

dots_hold : ParamsHold dots
unfolding params param_end begins rest wanted
dots_hold first zero r s d = absurd (omega arith)
dots_hold true (suc h) r s d = absurd (false≢true (sym d))
dots_hold false (suc h) r s d = refl

mutual
  pub layers_hold : (l : Layers (List ℕ)) → Allowed l → (m : Nm) → Holds l m
  layers_hold named a m = named_holds m
  layers_hold (pointer q l) a m = pointer_holds q l m a.0 (layers_hold l a.1 m)
  layers_hold (array n l) a m = array_holds n l m a.1 (layers_hold l a.2 m)
  layers_hold (proto ps l) a m = proto_holds ps l m a.0 a.1 a.2 (layers_hold l a.3 m) (params_hold ps a.1)

  pub params_hold : (ps : Params (List ℕ)) → AllowedParams ps → ParamsHold ps
  params_hold closed a = closed_holds
  params_hold dots a = dots_hold
  params_hold (param q ws l ps) a = param_holds q ws l ps a.0 a.1 (layers_hold l a.2 lacks) (params_hold ps a.3)

-- an entry makes four calls at most
mutual
  unfolding layer_entries

  layers_fit : (l : Layers (List ℕ)) → used l + spare l ≤ 1 + 4 * layer_entries l
  layers_fit named = omega arith
  layers_fit (pointer q l) = omega (arith, layers_fit l)
  layers_fit (array n l) = omega (arith, layers_fit l)
  layers_fit (proto ps l) = omega (arith, layers_fit l, params_fit ps)

  params_fit : (ps : Params (List ℕ)) → size ps ≤ 1 + 4 * param_entries ps
  params_fit closed = omega arith
  params_fit dots = omega arith
  params_fit (param q ws l ps) = omega (arith, layers_fit l, params_fit ps)

-- the tokens of a declaration
abbrev pub chain_toks : Chain (List ℕ) → List ℕ → List Tok
chain_toks c w = qual_toks c.quals (word_toks c.words (toks c.layers (has w) []))

pub tokens_read : (c : Chain (List ℕ)) (w : List ℕ) → Covered c → read_tokens (chain_toks c w) ≡ reads c []
unfolding read_tokens entries and_then
tokens_read c w v =
    let l : Layers (List ℕ) = c.layers in
    base_goes true c.quals c.words (toks l (has w) []) _ v.base (toks_qual l (has w) [] refl) (named_left l w [] v.allowed (stops_name at_end))
    ∙ rw (ends_here l (has w) (layers_hold l v.allowed (has w)) most [] (omega (arith, layers_fit l, v.few)) at_end, words_of_lem c.words)
