-- The tokens of a chain, and how they begin. Assumes nothing.
use Prim.Native.Nat.{ℕ}
use mathlib.Core.Path.{◌≡◌, refl, ap, sym, ◌∙◌}
use mathlib.Core.Bool.{Bool, true, false, ◌&&◌, false≢true}
use mathlib.Core.List.{List, [], ◌∷◌}
use lib.Dec.{eqb}
use Rattle.std.proofs.lemmas.Bool.{and_from}
use Rattle.spec_c_dumper.specs.rules.Types.{Qualifier}
use Rattle.session_declaration_reader.specs.grammar.Chain.{Layers, named, pointer, array, proto, Params, closed, dots, param}
use Rattle.session_declaration_reader.specs.tokens.Tokens.{Kind, tag_word, void_word, other_word, Token, qual, word, number, mark, kind_of, rest}
use Rattle.session_declaration_reader.specs.grammar.Grammar.{Reads, read_base}
use Rattle.session_declaration_reader.specs.bases.Bases.{Spelt, spelt, begins, begins_word, bracketed, qual_run, after_quals, ends_name, word_run, after_words, single, is_base, words_of, void_before, distinct}
use Rattle.proof_declaration_reader.specs.Written.{is_void, plain_void, no_layers, spelling, Base, Allowed, AllowedParams}
use Rattle.session_declaration_reader.proofs.tokens.Cases.{passed}

abbrev pub Tok : Type 0
Tok = Token (List ℕ)

-- the declared name, or none
pub data Nm : Type 0 where
  has : List ℕ → Nm
  lacks : Nm

abbrev pub wants : Nm → Bool
wants (has w) = true
wants lacks = false

abbrev pub name_toks : Nm → List Tok → List Tok
name_toks (has w) r = word (kind_of w) w ∷ r
name_toks lacks r = r

abbrev pub qual_toks : List Qualifier → List Tok → List Tok
qual_toks [] r = r
qual_toks (q ∷ qs) r = qual q ∷ qual_toks qs r

abbrev pub word_toks : List (List ℕ) → List Tok → List Tok
word_toks [] r = r
word_toks (w ∷ ws) r = word (kind_of w) w ∷ word_toks ws r

-- layers that begin with a star go into parentheses
abbrev pub bracket : Layers (List ℕ) → (List Tok → List Tok) → List Tok → List Tok
bracket named f r = f r
bracket (pointer q l) f r = mark 40 ∷ f (mark 41 ∷ r)
bracket (array n l) f r = f r
bracket (proto ps l) f r = f r

abbrev pub comma_tok : Bool → List Tok → List Tok
comma_tok true r = r
comma_tok false r = mark 44 ∷ r

-- the tokens of layers, and of parameters behind the opening parenthesis, before the tokens r
abbrev mutual
  pub toks : Layers (List ℕ) → Nm → List Tok → List Tok
  toks named m r = name_toks m r
  toks (pointer q l) m r = mark 42 ∷ qual_toks q (toks l m r)
  toks (array n l) m r = bracket l (λ s. toks l m s) (mark 91 ∷ number n ∷ mark 93 ∷ r)
  toks (proto ps l) m r = bracket l (λ s. toks l m s) (mark 40 ∷ param_toks ps true r)

  pub param_toks : Params (List ℕ) → Bool → List Tok → List Tok
  param_toks closed first r = mark 41 ∷ r
  param_toks dots first r = comma_tok first (mark 46 ∷ mark 41 ∷ r)
  param_toks (param q ws l ps) first r = comma_tok first (qual_toks q (word_toks ws (toks l lacks (param_toks ps false r))))

-- the tokens at which a declarator ends
pub data Stops : List Tok → Type 0 where
  at_end : Stops []
  at_close : {r : List Tok} → Stops (mark 41 ∷ r)
  at_comma : {r : List Tok} → Stops (mark 44 ∷ r)

abbrev pub begins_qual : List Tok → Bool
begins_qual [] = false
begins_qual (qual q ∷ ts) = true
begins_qual (word k w ∷ ts) = false
begins_qual (number n ∷ ts) = false
begins_qual (mark b ∷ ts) = false

pub stops_name : {r : List Tok} → Stops r → ends_name r ≡ true
unfolding ends_name begins_word begins bracketed
stops_name at_end = refl
stops_name at_close = refl
stops_name at_comma = refl

pub stops_qual : {r : List Tok} → Stops r → begins_qual r ≡ false
stops_qual at_end = refl
stops_qual at_close = refl
stops_qual at_comma = refl

pub stops_word : {r : List Tok} → Stops r → begins_word r ≡ false
unfolding begins_word
stops_word at_end = refl
stops_word at_close = refl
stops_word at_comma = refl

pub param_stops : (ps : Params (List ℕ)) (r : List Tok) → Stops (param_toks ps false r)
param_stops closed r = at_close
param_stops dots r = at_comma
param_stops (param q ws l ps) r = at_comma

-- qualifiers that stand before what is none
pub qual_run_lem : (q : List Qualifier) (t : List Tok) → begins_qual t ≡ false → qual_run (qual_toks q t) ≡ q
unfolding qual_run
qual_run_lem [] [] e = refl
qual_run_lem [] (qual q ∷ t) e = absurd (false≢true (sym e))
qual_run_lem [] (word k w ∷ t) e = refl
qual_run_lem [] (number n ∷ t) e = refl
qual_run_lem [] (mark b ∷ t) e = refl
qual_run_lem (x ∷ q) t e = ap (λ (s : List Qualifier). x ∷ s) (qual_run_lem q t e)

pub after_quals_lem : (q : List Qualifier) (t : List Tok) → begins_qual t ≡ false → after_quals (qual_toks q t) ≡ t
unfolding after_quals
after_quals_lem [] [] e = refl
after_quals_lem [] (qual q ∷ t) e = absurd (false≢true (sym e))
after_quals_lem [] (word k w ∷ t) e = refl
after_quals_lem [] (number n ∷ t) e = refl
after_quals_lem [] (mark b ∷ t) e = refl
after_quals_lem (x ∷ q) t e = after_quals_lem q t e

-- words, with a name wanted (n) or not, before what is not theirs
pub record Left (n : Bool) (t : List Tok) : Type 0 where
  pub no_words : word_run n t ≡ []
  pub all_left : after_words n t ≡ t
  pub no_name : (n && ends_name t) ≡ false

pub word_run_lem : (n : Bool) (ws : List (List ℕ)) (t : List Tok) → Left n t → word_run n (word_toks ws t) ≡ spelling ws
unfolding word_run spelling ends_name begins_word
word_run_lem n [] t h = h.no_words
word_run_lem n (w ∷ []) t h = rw (h.no_name, word_run) (ap (λ (s : List (Spelt (List ℕ))). spelt (kind_of w) w ∷ s) h.no_words)
word_run_lem true (w ∷ v ∷ ws) t h = ap (λ (s : List (Spelt (List ℕ))). spelt (kind_of w) w ∷ s) (word_run_lem true (v ∷ ws) t h)
word_run_lem false (w ∷ v ∷ ws) t h = ap (λ (s : List (Spelt (List ℕ))). spelt (kind_of w) w ∷ s) (word_run_lem false (v ∷ ws) t h)

pub after_words_lem : (n : Bool) (ws : List (List ℕ)) (t : List Tok) → Left n t → after_words n (word_toks ws t) ≡ t
unfolding after_words ends_name begins_word
after_words_lem n [] t h = h.all_left
after_words_lem n (w ∷ []) t h = rw (h.no_name, after_words) h.all_left
after_words_lem true (w ∷ v ∷ ws) t h = after_words_lem true (v ∷ ws) t h
after_words_lem false (w ∷ v ∷ ws) t h = after_words_lem false (v ∷ ws) t h

pub words_of_lem : (ws : List (List ℕ)) → words_of (spelling ws) ≡ ws
unfolding words_of spelling
words_of_lem [] = refl
words_of_lem (w ∷ ws) = ap (λ (s : List (List ℕ)). w ∷ s) (words_of_lem ws)

-- a property of what begins with a parenthesis or as f does
bracket_is : (P : List Tok → Type 0) (l : Layers (List ℕ)) (f : List Tok → List Tok) (r : List Tok) → P (mark 40 ∷ f (mark 41 ∷ r)) → P (f r) → P (bracket l f r)
bracket_is P named f r a b = b
bracket_is P (pointer q l) f r a b = a
bracket_is P (array n l) f r a b = b
bracket_is P (proto ps l) f r a b = b

pub toks_qual : (l : Layers (List ℕ)) (m : Nm) (r : List Tok) → begins_qual r ≡ false → begins_qual (toks l m r) ≡ false
toks_qual named (has w) r e = refl
toks_qual named lacks r e = e
toks_qual (pointer q l) m r e = refl
toks_qual (array n l) m r e =
    bracket_is (λ t. begins_qual t ≡ false) l (toks l m) (mark 91 ∷ number n ∷ mark 93 ∷ r) refl (toks_qual l m (mark 91 ∷ number n ∷ mark 93 ∷ r) refl)
toks_qual (proto ps l) m r e =
    bracket_is (λ t. begins_qual t ≡ false) l (toks l m) (mark 40 ∷ param_toks ps true r) refl (toks_qual l m (mark 40 ∷ param_toks ps true r) refl)

toks_word : (l : Layers (List ℕ)) (r : List Tok) → begins_word r ≡ false → begins_word (toks l lacks r) ≡ false
unfolding begins_word
toks_word named r e = e
toks_word (pointer q l) r e = refl
toks_word (array n l) r e =
    bracket_is (λ t. begins_word t ≡ false) l (toks l lacks) (mark 91 ∷ number n ∷ mark 93 ∷ r) refl (toks_word l (mark 91 ∷ number n ∷ mark 93 ∷ r) refl)
toks_word (proto ps l) r e =
    bracket_is (λ t. begins_word t ≡ false) l (toks l lacks) (mark 40 ∷ param_toks ps true r) refl (toks_word l (mark 40 ∷ param_toks ps true r) refl)

wordless : (t : List Tok) → begins_word t ≡ false → Left false t
unfolding begins_word word_run after_words
wordless [] e = record { no_words = refl; all_left = refl; no_name = refl }
wordless (qual q ∷ t) e = record { no_words = refl; all_left = refl; no_name = refl }
wordless (word k w ∷ t) e = absurd (false≢true (sym e))
wordless (number n ∷ t) e = record { no_words = refl; all_left = refl; no_name = refl }
wordless (mark b ∷ t) e = record { no_words = refl; all_left = refl; no_name = refl }

-- behind a base without a name
pub unnamed_left : (l : Layers (List ℕ)) (r : List Tok) → Stops r → Left false (toks l lacks r)
unnamed_left l r s = wordless (toks l lacks r) (toks_word l r (stops_word s))

-- a base begins with no mark
pub base_mark : (b : ℕ) (q : List Qualifier) (ws : List (List ℕ)) (t : List Tok) → is_base (spelling ws) ≡ true → begins b (qual_toks q (word_toks ws t)) ≡ false
unfolding is_base spelling begins
base_mark b [] [] t h = absurd (false≢true h)
base_mark b [] (w ∷ ws) t h = refl
base_mark b (x ∷ q) ws t h = refl

pub params_star : (ps : Params (List ℕ)) (r : List Tok) → AllowedParams ps → begins 42 (param_toks ps true r) ≡ false
unfolding begins
params_star closed r a = refl
params_star dots r a = refl
params_star (param q ws l ps) r a = base_mark 42 q ws (toks l lacks (param_toks ps false r)) a.0.names

pub params_end : (ps : Params (List ℕ)) (r : List Tok) → AllowedParams ps → ends_name (mark 40 ∷ param_toks ps true r) ≡ true
unfolding ends_name begins_word begins bracketed rest
params_end ps r a = rw (params_star ps r a)

-- behind a base with a name
pub named_left : (l : Layers (List ℕ)) (w : List ℕ) (r : List Tok) → Allowed l → ends_name r ≡ true → Left true (toks l (has w) r)
unfolding word_run after_words ends_name begins_word begins bracketed rest
named_left named w r a e = record { no_words = rw (e, word_run); all_left = rw (e, after_words); no_name = refl }
named_left (pointer q l) w r a e = record { no_words = refl; all_left = refl; no_name = refl }
named_left (array n named) w r a e = named_left named w (mark 91 ∷ number n ∷ mark 93 ∷ r) tt refl
named_left (array n (pointer q l)) w r a e = record { no_words = refl; all_left = refl; no_name = refl }
named_left (array n (array k l)) w r a e = named_left (array k l) w (mark 91 ∷ number n ∷ mark 93 ∷ r) a.2 refl
named_left (array n (proto ps l)) w r a e = absurd (false≢true a.1)
named_left (proto ps named) w r a e = named_left named w (mark 40 ∷ param_toks ps true r) tt (params_end ps r a.1)
named_left (proto ps (pointer q l)) w r a e = record { no_words = refl; all_left = refl; no_name = refl }
named_left (proto ps (array k l)) w r a e = absurd (false≢true a.2)
named_left (proto ps (proto qs l)) w r a e = absurd (false≢true a.2)

-- a mark that begins no layer
pub record Behind (m : ℕ) : Type 0 where
  pub no_open : eqb 40 m ≡ false
  pub no_star : eqb 42 m ≡ false
  pub no_bracket : eqb 91 m ≡ false

toks_behind : (m : ℕ) → Behind m → (l : Layers (List ℕ)) (r : List Tok) → no_layers l ≡ false → begins m (toks l lacks r) ≡ false
unfolding begins
toks_behind m k named r e = absurd (false≢true (sym e))
toks_behind m k (pointer q l) r e = k.no_star
toks_behind m k (array n named) r e = k.no_bracket
toks_behind m k (array n (pointer q l)) r e = k.no_open
toks_behind m k (array n (array i l)) r e = toks_behind m k (array i l) (mark 91 ∷ number n ∷ mark 93 ∷ r) refl
toks_behind m k (array n (proto ps l)) r e = toks_behind m k (proto ps l) (mark 91 ∷ number n ∷ mark 93 ∷ r) refl
toks_behind m k (proto ps named) r e = k.no_open
toks_behind m k (proto ps (pointer q l)) r e = k.no_open
toks_behind m k (proto ps (array i l)) r e = toks_behind m k (array i l) (mark 40 ∷ param_toks ps true r) refl
toks_behind m k (proto ps (proto qs l)) r e = toks_behind m k (proto qs l) (mark 40 ∷ param_toks ps true r) refl

-- a parameter that is not plain void is no `void` by itself
pub not_void : (m : ℕ) → Behind m → (q : List Qualifier) (ws : List (List ℕ)) (l : Layers (List ℕ)) (r : List Tok)
    → is_base (spelling ws) ≡ true → plain_void q (spelling ws) l ≡ false → void_before m (qual_toks q (word_toks ws (toks l lacks r))) ≡ false
unfolding is_base spelling void_before plain_void is_void single begins
not_void m b [] [] l r h e = absurd (false≢true h)
not_void m b [] (w ∷ []) l r h e = one (kind_of w) e
  where
    one : (k : Kind) → plain_void [] (spelt k w ∷ []) l ≡ false → void_before m (word k w ∷ toks l lacks r) ≡ false
    one tag_word p = refl
    one void_word p = toks_behind m b l r p
    one other_word p = refl
not_void m b [] (w ∷ v ∷ ws) l r h e = more (kind_of w)
  where
    more : (k : Kind) → void_before m (word k w ∷ word (kind_of v) v ∷ word_toks ws (toks l lacks r)) ≡ false
    more tag_word = refl
    more void_word = refl
    more other_word = refl
not_void m b (x ∷ q) ws l r h e = refl

pub at_41 : Behind 41
at_41 = record { no_open = refl; no_star = refl; no_bracket = refl }

pub at_44 : Behind 44
at_44 = record { no_open = refl; no_star = refl; no_bracket = refl }

base_at : {A : Type 0} → (n : Bool) (ts u t : List Tok) (q : List Qualifier) (ss : List (Spelt (List ℕ))) (k : List Qualifier → List (Spelt (List ℕ)) → List Tok → Reads (List ℕ) A)
    → qual_run ts ≡ q → after_quals ts ≡ u → word_run n u ≡ ss → after_words n u ≡ t → distinct q ≡ true → is_base ss ≡ true → read_base n ts k ≡ k q ss t
unfolding read_base
base_at n ts u t q ss k e₁ e₂ e₃ e₄ d b =
    passed
    (distinct (qual_run ts) && is_base (word_run n (after_quals ts)))
    (k (qual_run ts) (word_run n (after_quals ts)) (after_words n (after_quals ts)))
    _
    (and_from (distinct (qual_run ts)) (is_base (word_run n (after_quals ts))) (rw e₁ d) (rw (e₂, e₃) b))
    ∙ rw (e₁, e₂, e₃, e₄)

words_qual : (ws : List (List ℕ)) (t : List Tok) → begins_qual t ≡ false → begins_qual (word_toks ws t) ≡ false
words_qual [] t f = f
words_qual (w ∷ ws) t f = refl

-- a base is read
pub base_goes : {A : Type 0} → (n : Bool) (q : List Qualifier) (ws : List (List ℕ)) (t : List Tok) (k : List Qualifier → List (Spelt (List ℕ)) → List Tok → Reads (List ℕ) A)
    → Base q ws → begins_qual t ≡ false → Left n t → read_base n (qual_toks q (word_toks ws t)) k ≡ k q (spelling ws) t
base_goes n q ws t k b f h =
    let u = words_qual ws t f in
    base_at
    n
    (qual_toks q (word_toks ws t))
    (word_toks ws t)
    t
    q
    (spelling ws)
    k
    (qual_run_lem q (word_toks ws t) u)
    (after_quals_lem q (word_toks ws t) u)
    (word_run_lem n ws t h)
    (after_words_lem n ws t h)
    b.once
    b.names
