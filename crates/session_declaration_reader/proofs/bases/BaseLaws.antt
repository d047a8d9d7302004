-- Laws for the code that reads qualifiers and bases. Assumes nothing.
use Rattle.std.specs.Prelude.{Option, Some, None, MatchOption}
use Rattle.std.specs.Option.{option_eq}
use Rattle.std.specs.List.{list_any}
use Prim.Native.Nat.{ℕ, zero, suc, ◌+◌, ◌≤◌, ◌<◌}
use mathlib.Core.Path.{◌≡◌, refl, ap, sym, ◌∙◌, subst}
use mathlib.Core.Bool.{Bool, true, false, not, ◌&&◌, ◌||◌, or-true, false≢true}
use mathlib.Core.List.{List, [], ◌∷◌, ◌++◌, append-nil, append_assoc}
use borrow.Author.Tests.{not-true, not-false}
use lib.ListN.{length, set}
use native.Mathlib.Omega.{arith}
use native.Mathlib.Numerals.{add-one}
use Rattle.std.proofs.Math.Bool.{and-false}
use Rattle.spec_c_dumper.specs.rules.Types.{Qualifier, volatile, const, restrict}
use Rattle.session_declaration_reader.specs.tokens.Tokens.{Kind, tag_word, void_word, other_word, Token, qual, word, number, mark, rest}
use Rattle.session_declaration_reader.specs.bases.Bases.{Spelt, spelt, void_before, is_qualifier_among, distinct, begins, begins_word, bracketed, qual_run, after_quals, ends_name, word_run, after_words, is_tag, no_tags, single, is_base, words_of, same_qualifier}
use Rattle.session_declaration_reader.specs.tokens.Looking.{Span, tokens_at, kind_of_qualifier, next_kind, is_word_kind, is_mark_kind, span_of, Looked}
use Rattle.session_declaration_reader.specs.bases.Items.{first_from, last_to}
use Rattle.session_declaration_reader.specs.bases.Looking.{qualifier, quals_in, QualsOf, QualsAt, is_base_word, behind_void, AfterWords, last_or, Ended, Untagged, BaseEnds, begins_base, BaseAt}
use Rattle.session_declaration_reader.specs.declared.tokens.Tok.{Tok}
use Rattle.session_declaration_reader.specs.declared.bases.Quals.{Quals}
use Rattle.session_declaration_reader.specs.declared.token_kind.Qualifier as declared
use Rattle.session_declaration_reader.specs.declared.token_kind.Qualifier.TheVariants.{Const, Volatile, Restrict}
use Rattle.session_declaration_reader.specs.declared.token_kind.TokenKind.{TokenKind}
use Rattle.session_declaration_reader.specs.declared.token_kind.TokenKind.TheVariants as kinds
use Rattle.session_declaration_reader.specs.declared.token_kind.TokenKind.TheVariants.{End, Tag, Void, Word, Count, Mark}
use Rattle.session_declaration_reader.specs.contracts.token_kind.Qualifier.{the_type}
use denote.Enum.Bare.{sameb}
use Rattle.session_declaration_reader.proofs.tokens.Cases.{passed, failed}

abbrev Ts : Type 0
Ts = List (Token Span)

-- kinds
pub begins_kind : (m : ℕ) (ts : Ts) → begins m ts ≡ is_mark_kind m (next_kind ts)
unfolding begins next_kind
begins_kind m [] = refl
begins_kind m (qual q ∷ ts) = refl
begins_kind m (word tag_word w ∷ ts) = refl
begins_kind m (word void_word w ∷ ts) = refl
begins_kind m (word other_word w ∷ ts) = refl
begins_kind m (number n ∷ ts) = refl
begins_kind m (mark b ∷ ts) = refl

pub word_kind : (ts : Ts) → begins_word ts ≡ is_word_kind (next_kind ts)
unfolding begins_word next_kind
word_kind [] = refl
word_kind (qual q ∷ ts) = refl
word_kind (word tag_word w ∷ ts) = refl
word_kind (word void_word w ∷ ts) = refl
word_kind (word other_word w ∷ ts) = refl
word_kind (number n ∷ ts) = refl
word_kind (mark b ∷ ts) = refl

abbrev is_tag_kind : TokenKind → Bool
is_tag_kind End = false
is_tag_kind (kinds.Qualifier q) = false
is_tag_kind Tag = true
is_tag_kind Void = false
is_tag_kind Word = false
is_tag_kind (Count n) = false
is_tag_kind (Mark b) = false

tag_not : (k : TokenKind) → (k ≡ Tag → ⊥) → is_tag_kind k ≡ false
tag_not End n = refl
tag_not (kinds.Qualifier q) n = refl
tag_not Tag n = absurd (n refl)
tag_not Void n = refl
tag_not Word n = refl
tag_not (Count m) n = refl
tag_not (Mark b) n = refl

abbrev is_void_kind : TokenKind → Bool
is_void_kind End = false
is_void_kind (kinds.Qualifier q) = false
is_void_kind Tag = false
is_void_kind Void = true
is_void_kind Word = false
is_void_kind (Count n) = false
is_void_kind (Mark b) = false

abbrev is_qualifier_kind : TokenKind → Bool
is_qualifier_kind End = false
is_qualifier_kind (kinds.Qualifier q) = true
is_qualifier_kind Tag = false
is_qualifier_kind Void = false
is_qualifier_kind Word = false
is_qualifier_kind (Count n) = false
is_qualifier_kind (Mark b) = false

-- the declared name
module _ (ts : Ts) (g : TokenKind) (e : g ≡ next_kind ts) (r : Bool) (w : r ≡ is_word_kind g) where
  is_word : r ≡ begins_word ts
  is_word = w ∙ ap is_word_kind e ∙ sym (word_kind ts)

  starts : (m : ℕ) → begins m ts ≡ is_mark_kind m g
  starts m = begins_kind m ts ∙ ap (is_mark_kind m) (sym e)

  pub name_word : r ≡ true → false ≡ ends_name ts
  unfolding ends_name
  name_word t = rw (sym is_word ∙ t)

  module _ (f : r ≡ false) where
    pub name_star : is_mark_kind 42 g ≡ true → false ≡ ends_name ts
    unfolding ends_name
    name_star q = rw (sym is_word ∙ f, starts 42 ∙ q)

    pub name_end : is_mark_kind 42 g ≡ false → (b : Bool) → b ≡ bracketed ts → not b ≡ ends_name ts
    unfolding ends_name
    name_end p b q = rw (sym is_word ∙ f, starts 42 ∙ p, sym q)

  pub base_none : (n : Bool) → r ≡ false → false ≡ is_base_word n ts
  unfolding is_base_word
  base_none n f = rw (sym is_word ∙ f)

  pub base_unnamed : (n : Bool) → n ≡ false → r ≡ true → true ≡ is_base_word n ts
  unfolding is_base_word
  base_unnamed n q t = rw (sym is_word ∙ t, q)

  pub base_named : (n : Bool) → n ≡ true → r ≡ true → (us : Ts) → us ≡ rest ts → (k : Bool) → k ≡ ends_name us → not k ≡ is_base_word n ts
  unfolding is_base_word
  base_named n q t us u k z = rw (sym is_word ∙ t, q, sym (z ∙ ap ends_name u))

-- one word of a base
pub record Step (n : Bool) (ts : Ts) : Type 0 where
  pub kind : Kind
  pub at : Span
  pub run_is : word_run n ts ≡ spelt kind at ∷ word_run n (rest ts)
  pub after_is : after_words n ts ≡ after_words n (rest ts)
  pub tag_is : is_tag (spelt kind at) ≡ is_tag_kind (next_kind ts)
  pub span_is : (d : Span) → span_of ts d ≡ at
  pub some : is_word_kind (next_kind ts) ≡ true

pub step : (n : Bool) (ts : Ts) → is_base_word n ts ≡ true → Step n ts
unfolding is_base_word begins_word rest next_kind span_of word_run after_words
step n [] e = absurd (false≢true e)
step n (qual q ∷ ts) e = absurd (false≢true e)
step n (number m ∷ ts) e = absurd (false≢true e)
step n (mark b ∷ ts) e = absurd (false≢true e)
step n (word k w ∷ ts) e =
    let f : (n && ends_name ts) ≡ false = not-true (n && ends_name ts) e in
    record {
      kind = k;
      at = w;
      run_is = rw (f, word_run);
      after_is = rw (f, after_words);
      tag_is = tags k;
      span_is = λ d. refl;
      some = worded k;
    }
  where
    tags : (k : Kind) → is_tag (spelt k w) ≡ is_tag_kind (next_kind (word k w ∷ ts))
    tags tag_word = refl
    tags void_word = refl
    tags other_word = refl

    worded : (k : Kind) → is_word_kind (next_kind (word k w ∷ ts)) ≡ true
    worded tag_word = refl
    worded void_word = refl
    worded other_word = refl

pub record Over (n : Bool) (ts : Ts) : Type 0 where
  pub run_is : word_run n ts ≡ []
  pub after_is : after_words n ts ≡ ts

pub over : (n : Bool) (ts : Ts) → is_base_word n ts ≡ false → Over n ts
unfolding is_base_word begins_word rest word_run after_words
over n [] e = record { run_is = refl; after_is = refl }
over n (qual q ∷ ts) e = record { run_is = refl; after_is = refl }
over n (number m ∷ ts) e = record { run_is = refl; after_is = refl }
over n (mark b ∷ ts) e = record { run_is = refl; after_is = refl }
over n (word k w ∷ ts) e =
    let f : (n && ends_name ts) ≡ true = not-false (n && ends_name ts) e in
    record { run_is = rw (f, word_run); after_is = rw (f, after_words) }

-- where the last word ends
last_is : (w : Span) (ws : List Span) (d : ℕ) → last_or d (w ∷ ws) ≡ last_to (w ∷ ws)
last_is w [] d = refl
last_is w (v ∷ ws) d = last_is v ws w.to

abbrev words_at : List ℕ → Bool → ℕ → List Span
words_at s n i = words_of (word_run n (tokens_at s i))

pub AfterInv : List ℕ → ℕ → Bool → ℕ → Type 0
AfterInv s at n i = (after_words n (tokens_at s i) ≡ after_words n (tokens_at s at)) × (last_or i (words_at s n i) ≡ last_or at (words_at s n at))

pub after_start : (s : List ℕ) (at : ℕ) (n : Bool) → AfterInv s at n at
unfolding AfterInv
after_start s at n = (refl, refl)

-- whether the words that are passed leave it open that none is a tag's
pub TagsInv : List ℕ → ℕ → Bool → ℕ → Type 0
TagsInv s at n i = no_tags (word_run n (tokens_at s at)) ≡ no_tags (word_run n (tokens_at s i))

pub tags_start : (s : List ℕ) (at : ℕ) (n : Bool) → TagsInv s at n at
unfolding TagsInv
tags_start s at n = refl

words_end : (s : List ℕ) (at : ℕ) (n : Bool) (k : ℕ) → Ended s at n k → AfterWords s at n k
unfolding words_of
words_end s at n k e = record { rest_is = e.0; to_is = λ b. e.1 ∙ lasts (word_run n (tokens_at s at)) (step n (tokens_at s at) b).run_is }
  where
    lasts : {k : Kind} {w : Span} {ss : List (Spelt Span)} → (rs : List (Spelt Span)) → rs ≡ spelt k w ∷ ss → last_or at (words_of rs) ≡ last_to (words_of rs)
    lasts {k} {w} {ss} rs q = ap (λ x. last_or at (words_of x)) q ∙ last_is w (words_of ss) at ∙ sym (ap (λ x. last_to (words_of x)) q)

module _ (s : List ℕ) (n : Bool) (i : ℕ) (r : Bool) (e : r ≡ is_base_word n (tokens_at s i)) where
  module _ (h : r ≡ true) (t : Tok) (l : Looked s i t) where
    st : Step n (tokens_at s i)
    st = step n (tokens_at s i) (sym e ∙ h)

    some_kind : t.kind ≡ End → ⊥
    some_kind q = false≢true (ap is_word_kind (sym q ∙ l.kind_is) ∙ st.some)

    pub word_forward : i < t.end
    word_forward = l.forward some_kind

    pub word_inside : t.end ≤ length s
    word_inside = l.inside some_kind

    here_is : st.at ≡ record { from = t.start; to = t.end }
    here_is = sym (st.span_is (record { from = t.start; to = t.end })) ∙ l.span_is

    words_are : words_at s n i ≡ record { from = t.start; to = t.end } ∷ words_at s n t.end
    unfolding words_of
    words_are =
        ap words_of st.run_is
        ∙ ap (λ (w : Span). w ∷ words_of (word_run n (rest (tokens_at s i)))) here_is
        ∙ ap (λ (x : Ts). record { from = t.start; to = t.end } ∷ words_of (word_run n x)) (sym l.rest_is)

    pub after_turn : (at : ℕ) → AfterInv s at n i → AfterInv s at n t.end
    unfolding AfterInv
    after_turn at inv =
        (ap (after_words n) l.rest_is ∙ sym st.after_is ∙ inv.0, sym (ap (last_or i) words_are) ∙ inv.1)

    pub tags_turn : (at : ℕ) → (t.kind ≡ Tag → ⊥) → TagsInv s at n i → TagsInv s at n t.end
    unfolding TagsInv no_tags
    tags_turn at k inv =
        let g : is_tag (spelt st.kind st.at) ≡ false = st.tag_is ∙ ap is_tag_kind (sym l.kind_is) ∙ tag_not t.kind k in
        inv
        ∙ ap no_tags st.run_is
        ∙ ap (λ (b : Bool). not b && no_tags (word_run n (rest (tokens_at s i)))) g
        ∙ ap (λ (y : Ts). no_tags (word_run n y)) (sym l.rest_is)

    pub tags_found : (at : ℕ) → t.kind ≡ Tag → TagsInv s at n i → Untagged s at n None
    unfolding TagsInv no_tags
    tags_found at k inv =
        let g : is_tag (spelt st.kind st.at) ≡ true = st.tag_is ∙ ap is_tag_kind (sym l.kind_is ∙ k) in
        sym (inv ∙ ap no_tags st.run_is ∙ ap (λ (b : Bool). not b && no_tags (word_run n (rest (tokens_at s i)))) g)

    -- words other than a tag's keyword
    pub base_words : (t.kind ≡ Tag → ⊥) → (k : Option ℕ) → Untagged s t.end n k → BaseEnds s i n k
    unfolding AfterInv is_base
    base_words f k q = go k q
      where
        inv : AfterInv s i n t.end
        inv = after_turn i (after_start s i n)

        is_words : (b : Bool) → b ≡ no_tags (word_run n (tokens_at s t.end)) → b ≡ is_base (word_run n (tokens_at s i))
        is_words b q =
            let g : is_tag (spelt st.kind st.at) ≡ false = st.tag_is ∙ ap is_tag_kind (sym l.kind_is) ∙ tag_not t.kind f in
            q
            ∙ ap (λ (x : Ts). no_tags (word_run n x)) l.rest_is
            ∙ sym (ap is_base st.run_is ∙ failed (is_tag (spelt st.kind st.at)) (single (word_run n (rest (tokens_at s i)))) (no_tags (word_run n (rest (tokens_at s i)))) g)

        go : (k : Option ℕ) → Untagged s t.end n k → BaseEnds s i n k
        go (Some k) q = (words_end s i n k (q.0.0 ∙ inv.0, q.0.1 ∙ inv.1), is_words true q.1)
        go None q = is_words false q

    tag_single : t.kind ≡ Tag → is_base (word_run n (tokens_at s i)) ≡ single (word_run n (tokens_at s t.end))
    unfolding is_base
    tag_single f =
        let g : is_tag (spelt st.kind st.at) ≡ true = st.tag_is ∙ ap is_tag_kind (sym l.kind_is ∙ f) in
        ap is_base st.run_is
        ∙ passed (is_tag (spelt st.kind st.at)) (single (word_run n (rest (tokens_at s i)))) (no_tags (word_run n (rest (tokens_at s i)))) g
        ∙ ap (λ (x : Ts). single (word_run n x)) (sym l.rest_is)

    pub tag_alone : t.kind ≡ Tag → false ≡ is_base_word n (tokens_at s t.end) → BaseEnds s i n None
    unfolding single
    tag_alone f q = sym (tag_single f ∙ ap single (over n (tokens_at s t.end) (sym q)).run_is)

    module _ (f : t.kind ≡ Tag) (q : true ≡ is_base_word n (tokens_at s t.end)) (u : Tok) (lu : Looked s t.end u) where
      su : Step n (tokens_at s t.end)
      su = step n (tokens_at s t.end) (sym q)

      tag_behind : is_base (word_run n (tokens_at s i)) ≡ single (spelt su.kind su.at ∷ word_run n (tokens_at s u.end))
      tag_behind = tag_single f ∙ ap single (su.run_is ∙ ap (λ (x : Ts). spelt su.kind su.at ∷ word_run n x) (sym lu.rest_is))

      pub tag_and_tags : true ≡ is_base_word n (tokens_at s u.end) → BaseEnds s i n None
      unfolding single
      tag_and_tags k = sym (tag_behind ∙ ap (λ ss. single (spelt su.kind su.at ∷ ss)) (step n (tokens_at s u.end) (sym k)).run_is)

      tag_one : false ≡ is_base_word n (tokens_at s u.end) → true ≡ is_base (word_run n (tokens_at s i))
      unfolding single
      tag_one k = sym (tag_behind ∙ ap (λ ss. single (spelt su.kind su.at ∷ ss)) (over n (tokens_at s u.end) (sym k)).run_is)

    -- the span of a base's words
    pub first_is : t.start ≡ first_from (words_at s n i)
    first_is = sym (ap first_from words_are)

  module _ (h : r ≡ false) where
    ov : Over n (tokens_at s i)
    ov = over n (tokens_at s i) (sym e ∙ h)

    pub after_ends : (at : ℕ) → AfterInv s at n i → Ended s at n i
    unfolding AfterInv words_of
    after_ends at inv = (sym ov.after_is ∙ inv.0, sym (ap (λ ss. last_or i (words_of ss)) ov.run_is) ∙ inv.1)

    pub tags_end : (at : ℕ) → TagsInv s at n i → true ≡ no_tags (word_run n (tokens_at s at))
    unfolding TagsInv no_tags
    tags_end at inv = sym (inv ∙ ap no_tags ov.run_is)

    pub base_over : false ≡ is_base (word_run n (tokens_at s i))
    unfolding is_base
    base_over = sym (ap is_base ov.run_is)

-- a tag's keyword and a tag
pub tag_end : (s : List ℕ) (n : Bool) (i : ℕ) → true ≡ is_base_word n (tokens_at s i) → (t : Tok) → Looked s i t → t.kind ≡ Tag
    → true ≡ is_base_word n (tokens_at s t.end) → (u : Tok) → Looked s t.end u → false ≡ is_base_word n (tokens_at s u.end) → BaseEnds s i n (Some u.end)
tag_end s n i e t l f q u lu k =
    let inv : AfterInv s i n u.end = after_turn s n t.end true q refl u lu i (after_turn s n i true e refl t l i (after_start s i n)) in
    (words_end s i n u.end (after_ends s n u.end false k refl i inv), tag_one s n i true e refl t l f q u lu k)

-- `void`
pub void_not : (ts : Ts) (k : TokenKind) → k ≡ next_kind ts → (k ≡ Void → ⊥) → None ≡ behind_void ts
unfolding behind_void next_kind
void_not [] k e n = refl
void_not (qual q ∷ ts) k e n = refl
void_not (word tag_word w ∷ ts) k e n = refl
void_not (word void_word w ∷ ts) k e n = absurd (n e)
void_not (word other_word w ∷ ts) k e n = refl
void_not (number x ∷ ts) k e n = refl
void_not (mark b ∷ ts) k e n = refl

pub void_next : (ts : Ts) (k : TokenKind) → k ≡ next_kind ts → k ≡ Void → (us : Ts) → us ≡ rest ts → (g : TokenKind) → g ≡ next_kind us
    → Some g ≡ behind_void ts
unfolding behind_void next_kind rest
void_next ts k e v us u g q = ap Some (q ∙ ap next_kind u) ∙ go ts (ap is_void_kind (sym e ∙ v))
  where
    go : (ts : Ts) → is_void_kind (next_kind ts) ≡ true → Some (next_kind (rest ts)) ≡ behind_void ts
    go [] h = absurd (false≢true h)
    go (qual q ∷ ts) h = absurd (false≢true h)
    go (word tag_word w ∷ ts) h = absurd (false≢true h)
    go (word void_word w ∷ ts) h = refl
    go (word other_word w ∷ ts) h = absurd (false≢true h)
    go (number n ∷ ts) h = absurd (false≢true h)
    go (mark b ∷ ts) h = absurd (false≢true h)

-- whether it is that mark; P is what the code says of it, where there is one
pub void_mark : (m : ℕ) (r : Bool) (P : TokenKind → Type 0) → ((g : TokenKind) → P g → r ≡ is_mark_kind m g)
    → (ts : Ts) (o : Option TokenKind) → o ≡ behind_void ts → MatchOption o (r ≡ false) P → r ≡ void_before m ts
unfolding behind_void void_before
void_mark m r P f ts o e h = go ts (subst (λ x. MatchOption x (r ≡ false) P) e h)
  where
    go : (ts : Ts) → MatchOption (behind_void ts) (r ≡ false) P → r ≡ void_before m ts
    go [] h = h
    go (qual q ∷ ts) h = h
    go (word tag_word w ∷ ts) h = h
    go (word void_word w ∷ ts) h = f (next_kind ts) h ∙ sym (begins_kind m ts)
    go (word other_word w ∷ ts) h = h
    go (number n ∷ ts) h = h
    go (mark b ∷ ts) h = h

-- qualifiers
pub record QStep (a : declared.Qualifier) (ts : Ts) : Type 0 where
  pub run_is : qual_run ts ≡ qualifier a ∷ qual_run (rest ts)
  pub after_is : after_quals ts ≡ after_quals (rest ts)

back : (q : Qualifier) → qualifier (kind_of_qualifier q) ≡ q
back const = refl
back volatile = refl
back restrict = refl

qstep : (a : declared.Qualifier) (ts : Ts) → kinds.Qualifier a ≡ next_kind ts → QStep a ts
unfolding next_kind qual_run after_quals rest
qstep a [] e = absurd (false≢true (sym (ap is_qualifier_kind e)))
qstep a (qual q ∷ ts) e =
    let p : a ≡ kind_of_qualifier q = cc in
    record { run_is = ap (λ x. x ∷ qual_run ts) (sym (ap qualifier p ∙ back q)); after_is = refl }
qstep a (word tag_word w ∷ ts) e = absurd (false≢true (sym (ap is_qualifier_kind e)))
qstep a (word void_word w ∷ ts) e = absurd (false≢true (sym (ap is_qualifier_kind e)))
qstep a (word other_word w ∷ ts) e = absurd (false≢true (sym (ap is_qualifier_kind e)))
qstep a (number n ∷ ts) e = absurd (false≢true (sym (ap is_qualifier_kind e)))
qstep a (mark b ∷ ts) e = absurd (false≢true (sym (ap is_qualifier_kind e)))

abbrev NoQual : TokenKind → Type 0
NoQual k = (x : declared.Qualifier) → k ≡ kinds.Qualifier x → ⊥

qover : (ts : Ts) (k : TokenKind) → k ≡ next_kind ts → NoQual k → (qual_run ts ≡ []) × (after_quals ts ≡ ts)
unfolding next_kind qual_run after_quals
qover [] k e n = (refl, refl)
qover (qual q ∷ ts) k e n = absurd (n (kind_of_qualifier q) e)
qover (word j w ∷ ts) k e n = (refl, refl)
qover (number m ∷ ts) k e n = (refl, refl)
qover (mark b ∷ ts) k e n = (refl, refl)

abbrev alike : declared.Qualifier → declared.Qualifier → Bool
alike a b = same_qualifier (qualifier a) (qualifier b)

-- the code's test of two qualifiers
same : (a b : declared.Qualifier) (r : Bool) → r ≡ sameb the_type a b → alike a b ≡ r
same a b r e = go a b ∙ sym e
  where
    go : (a b : declared.Qualifier) → alike a b ≡ sameb the_type a b
    go Const Const = refl
    go Const Volatile = refl
    go Const Restrict = refl
    go Volatile Const = refl
    go Volatile Volatile = refl
    go Volatile Restrict = refl
    go Restrict Const = refl
    go Restrict Volatile = refl
    go Restrict Restrict = refl

ends_two : (a b : Bool) → (not a && (not b && false)) ≡ false
ends_two a b = ap (λ (t : Bool). not a && t) (and-false (not b)) ∙ and-false (not a)

-- four qualifiers are never distinct
four : (p q r x : Qualifier) (qs : List Qualifier) → same_qualifier p q ≡ false → same_qualifier p r ≡ false → same_qualifier q r ≡ false → distinct (p ∷ q ∷ r ∷ x ∷ qs) ≡ false
unfolding distinct is_qualifier_among
four volatile volatile r x qs e f g = absurd (false≢true (sym e))
four volatile const volatile x qs e f g = absurd (false≢true (sym f))
four volatile const const x qs e f g = absurd (false≢true (sym g))
four volatile const restrict volatile qs e f g = refl
four volatile const restrict const qs e f g = and-false (not (is_qualifier_among volatile qs))
four volatile const restrict restrict qs e f g = ends_two (is_qualifier_among volatile qs) (is_qualifier_among const qs)
four volatile restrict volatile x qs e f g = absurd (false≢true (sym f))
four volatile restrict const volatile qs e f g = refl
four volatile restrict const const qs e f g = ends_two (is_qualifier_among volatile qs) (is_qualifier_among restrict qs)
four volatile restrict const restrict qs e f g = and-false (not (is_qualifier_among volatile qs))
four volatile restrict restrict x qs e f g = absurd (false≢true (sym g))
four const volatile volatile x qs e f g = absurd (false≢true (sym g))
four const volatile const x qs e f g = absurd (false≢true (sym f))
four const volatile restrict volatile qs e f g = and-false (not (is_qualifier_among const qs))
four const volatile restrict const qs e f g = refl
four const volatile restrict restrict qs e f g = ends_two (is_qualifier_among const qs) (is_qualifier_among volatile qs)
four const const r x qs e f g = absurd (false≢true (sym e))
four const restrict volatile volatile qs e f g = ends_two (is_qualifier_among const qs) (is_qualifier_among restrict qs)
four const restrict volatile const qs e f g = refl
four const restrict volatile restrict qs e f g = and-false (not (is_qualifier_among const qs))
four const restrict const x qs e f g = absurd (false≢true (sym f))
four const restrict restrict x qs e f g = absurd (false≢true (sym g))
four restrict volatile volatile x qs e f g = absurd (false≢true (sym g))
four restrict volatile const volatile qs e f g = and-false (not (is_qualifier_among restrict qs))
four restrict volatile const const qs e f g = ends_two (is_qualifier_among restrict qs) (is_qualifier_among volatile qs)
four restrict volatile const restrict qs e f g = refl
four restrict volatile restrict x qs e f g = absurd (false≢true (sym f))
four restrict const volatile volatile qs e f g = ends_two (is_qualifier_among restrict qs) (is_qualifier_among const qs)
four restrict const volatile const qs e f g = and-false (not (is_qualifier_among restrict qs))
four restrict const volatile restrict qs e f g = refl
four restrict const const x qs e f g = absurd (false≢true (sym g))
four restrict const restrict x qs e f g = absurd (false≢true (sym f))
four restrict restrict r x qs e f g = absurd (false≢true (sym e))

both_false : (a b : Bool) → (a || b) ≡ false → (a ≡ false) × (b ≡ false)
both_false true b e = absurd (false≢true (sym e))
both_false false b e = (refl, e)

same_sym : (p q : Qualifier) → same_qualifier p q ≡ same_qualifier q p
same_sym volatile volatile = refl
same_sym volatile const = refl
same_sym volatile restrict = refl
same_sym const volatile = refl
same_sym const const = refl
same_sym const restrict = refl
same_sym restrict volatile = refl
same_sym restrict const = refl
same_sym restrict restrict = refl

is_same : (p q : Qualifier) → same_qualifier p q ≡ true → p ≡ q
is_same volatile volatile e = refl
is_same volatile const e = absurd (false≢true e)
is_same volatile restrict e = absurd (false≢true e)
is_same const volatile e = absurd (false≢true e)
is_same const const e = refl
is_same const restrict e = absurd (false≢true e)
is_same restrict volatile e = absurd (false≢true e)
is_same restrict const e = absurd (false≢true e)
is_same restrict restrict e = refl

among_end : (q : Qualifier) (ps qs : List Qualifier) → is_qualifier_among q (ps ++ q ∷ qs) ≡ true
unfolding is_qualifier_among
among_end volatile [] qs = refl
among_end const [] qs = refl
among_end restrict [] qs = refl
among_end q (p ∷ ps) qs = rw (among_end q ps qs) (or-true (same_qualifier q p))

-- one that stands among others before it
twice : (ps : List Qualifier) (q : Qualifier) (qs : List Qualifier) → is_qualifier_among q ps ≡ true → distinct (ps ++ q ∷ qs) ≡ false
unfolding distinct is_qualifier_among
twice [] q qs e = absurd (false≢true e)
twice (p ∷ ps) q qs e = go (same_qualifier q p) refl (λ h. twice ps q qs h)
  where
    go : (b : Bool) → same_qualifier q p ≡ b → (is_qualifier_among q ps ≡ true → distinct (ps ++ q ∷ qs) ≡ false) → distinct ((p ∷ ps) ++ q ∷ qs) ≡ false
    go true h f =
        let g : is_qualifier_among p (ps ++ q ∷ qs) ≡ true = ap (λ (x : Qualifier). is_qualifier_among x (ps ++ q ∷ qs)) (sym (is_same q p h)) ∙ among_end q ps qs in
        ap (λ (b : Bool). not b && distinct (ps ++ q ∷ qs)) g
    go false h f =
        let g : is_qualifier_among q ps ≡ true = sym (ap (λ (b : Bool). b || is_qualifier_among q ps) h) ∙ e in
        ap (λ (b : Bool). not (is_qualifier_among p (ps ++ q ∷ qs)) && b) (f g) ∙ and-false (not (is_qualifier_among p (ps ++ q ∷ qs)))

unlike : (q p : Qualifier) (ps : List Qualifier) → is_qualifier_among q (p ∷ ps) ≡ false → (same_qualifier p q ≡ false) × (is_qualifier_among q ps ≡ false)
unfolding is_qualifier_among
unlike q p ps e = let h = both_false (same_qualifier q p) (is_qualifier_among q ps) e in (same_sym p q ∙ h.0, h.1)

abbrev Slots : Type 0
Slots = List (Option declared.Qualifier)

-- the code's test of a qualifier and those before it
among_is : (l : Slots) (q : declared.Qualifier) → list_any (λ y. option_eq (sameb the_type) y (Some q)) l ≡ is_qualifier_among (qualifier q) (quals_in l)
unfolding is_qualifier_among
among_is [] q = refl
among_is (None ∷ l) q = among_is l q
among_is (Some a ∷ l) q = rw (among_is l q, sym (same a q (sameb the_type a q) refl), same_sym (qualifier a) (qualifier q))

-- one, two or three qualifiers, which differ, and none behind them
pub record One (l : Slots) : Type 0 where
  pub a : declared.Qualifier
  pub list_is : l ≡ Some a ∷ None ∷ None ∷ []

pub record Two (l : Slots) : Type 0 where
  pub a : declared.Qualifier
  pub b : declared.Qualifier
  pub list_is : l ≡ Some a ∷ Some b ∷ None ∷ []
  pub ab : alike a b ≡ false

pub record Three (l : Slots) : Type 0 where
  pub a : declared.Qualifier
  pub b : declared.Qualifier
  pub c : declared.Qualifier
  pub list_is : l ≡ Some a ∷ Some b ∷ Some c ∷ []
  pub ab : alike a b ≡ false
  pub ac : alike a c ≡ false
  pub bc : alike b c ≡ false

abbrev pub Front : ℕ → Slots → Type 0
Front zero l = l ≡ None ∷ None ∷ None ∷ []
Front (suc zero) l = One l
Front (suc (suc zero)) l = Two l
Front (suc (suc (suc n))) l = Three l

front_apart : (i : ℕ) (l : Slots) → Front i l → distinct (quals_in l) ≡ true
unfolding distinct is_qualifier_among
front_apart zero l f = ap (λ (x : Slots). distinct (quals_in x)) f
front_apart (suc zero) l f = ap (λ (x : Slots). distinct (quals_in x)) f.list_is
front_apart (suc (suc zero)) l f = ap (λ (x : Slots). distinct (quals_in x)) f.list_is ∙ rw f.ab
front_apart (suc (suc (suc n))) l f = ap (λ (x : Slots). distinct (quals_in x)) f.list_is ∙ rw (f.ab, f.ac, f.bc)

-- one more, which differs from those before it
record More (i : ℕ) (l : Slots) (q : declared.Qualifier) : Type 0 where
  front : Front (suc i) (set l i (Some q))
  list_is : quals_in (set l i (Some q)) ≡ quals_in l ++ qualifier q ∷ []

more : (i : ℕ) (l : Slots) (q : declared.Qualifier) → i < 3 → Front i l → is_qualifier_among (qualifier q) (quals_in l) ≡ false → More i l q
more zero l q h f n = rw f (record { front = record { a = q; list_is = refl }; list_is = refl })
more (suc zero) l q h f n =
    let u = unlike (qualifier q) (qualifier f.a) [] (ap (λ (x : Slots). is_qualifier_among (qualifier q) (quals_in x)) (sym f.list_is) ∙ n) in
    rw f.list_is (record { front = record { a = f.a; b = q; list_is = refl; ab = u.0 }; list_is = refl })
more (suc (suc zero)) l q h f n =
    let u = unlike (qualifier q) (qualifier f.a) (qualifier f.b ∷ []) (ap (λ (x : Slots). is_qualifier_among (qualifier q) (quals_in x)) (sym f.list_is) ∙ n) in
    let v = unlike (qualifier q) (qualifier f.b) [] u.1 in
    rw f.list_is (record { front = record { a = f.a; b = f.b; c = q; list_is = refl; ab = f.ab; ac = u.0; bc = v.0 }; list_is = refl })
more (suc (suc (suc n))) l q h f e = absurd (omega arith)

-- the qualifiers that were read before a place
pub record Gathered (s : List ℕ) (at i : ℕ) (l : Slots) (end : ℕ) : Type 0 where
  pub run_is : qual_run (tokens_at s at) ≡ quals_in l ++ qual_run (tokens_at s end)
  pub after_is : after_quals (tokens_at s at) ≡ after_quals (tokens_at s end)
  pub front : Front i l

pub gathered_none : (s : List ℕ) (at : ℕ) → Gathered s at 0 (None ∷ None ∷ None ∷ []) at
gathered_none s at = record { run_is = refl; after_is = refl; front = refl }

module _ (s : List ℕ) (at i : ℕ) (l : Slots) (end : ℕ) (g : Gathered s at i l end) (t : Tok) (k : Looked s end t) where
  -- no other follows
  pub gathered_all : NoQual t.kind → QualsAt s at (Some (record { list = l; end = end }))
  gathered_all f =
      let o = qover (tokens_at s end) t.kind k.kind_is f in
      let run : qual_run (tokens_at s at) ≡ quals_in l = g.run_is ∙ ap (λ (x : List Qualifier). quals_in l ++ x) o.0 ∙ append-nil (quals_in l) in
      record { apart = ap distinct run ∙ front_apart i l g.front; list_is = sym run; rest_is = sym (g.after_is ∙ o.1) }

  -- another follows
  module _ (q : declared.Qualifier) (y : t.kind ≡ kinds.Qualifier q) where
    next : QStep q (tokens_at s end)
    next = qstep q (tokens_at s end) (sym y ∙ k.kind_is)

    run : qual_run (tokens_at s at) ≡ quals_in l ++ qualifier q ∷ qual_run (tokens_at s t.end)
    run = g.run_is ∙ ap (λ (x : List Qualifier). quals_in l ++ x) (next.run_is ∙ ap (λ (x : Ts). qualifier q ∷ qual_run x) (sym k.rest_is))

    pub gathered_twice : (r : Bool) → r ≡ list_any (λ y. option_eq (sameb the_type) y (Some q)) l → r ≡ true → QualsAt s at None
    gathered_twice r e h = ap distinct run ∙ twice (quals_in l) (qualifier q) (qual_run (tokens_at s t.end)) (sym (among_is l q) ∙ sym e ∙ h)

    pub gathered_more : i < 3 → (r : Bool) → r ≡ list_any (λ y. option_eq (sameb the_type) y (Some q)) l → r ≡ false → Gathered s at (i + 1) (set l i (Some q)) t.end
    gathered_more h r e f =
        let m = more i l q h g.front (sym (among_is l q) ∙ sym e ∙ f) in
        rw add-one (record {
          run_is = run ∙ sym (append_assoc (quals_in l) (qualifier q ∷ []) (qual_run (tokens_at s t.end))) ∙ ap (λ (x : List Qualifier). x ++ qual_run (tokens_at s t.end)) (sym m.list_is);
          after_is = g.after_is ∙ next.after_is ∙ ap after_quals (sym k.rest_is);
          front = m.front;
        })

    pub gathered_four : 3 ≤ i → QualsAt s at None
    gathered_four h = ap distinct run ∙ go i g.front h
      where
        go : (i : ℕ) → Front i l → 3 ≤ i → distinct (quals_in l ++ qualifier q ∷ qual_run (tokens_at s t.end)) ≡ false
        go zero f h = absurd (omega arith)
        go (suc zero) f h = absurd (omega arith)
        go (suc (suc zero)) f h = absurd (omega arith)
        go (suc (suc (suc n))) f h = rw f.list_is (four (qualifier f.a) (qualifier f.b) (qualifier f.c) (qualifier q) (qual_run (tokens_at s t.end)) f.ab f.ac f.bc)

-- a base with its qualifiers
pub base_quals : (s : List ℕ) (at : ℕ) (n : Bool) → QualsAt s at None → BaseAt s at n None
unfolding begins_base
base_quals s at n e = rw e

module _ (s : List ℕ) (at : ℕ) (n : Bool) (q : Quals) (a : QualsOf s at q) where
  here : (r : Bool) → r ≡ is_base (word_run n (tokens_at s q.end)) → is_base (word_run n (after_quals (tokens_at s at))) ≡ r
  here r e = ap (λ (x : Ts). is_base (word_run n x)) (sym a.rest_is) ∙ sym e

  pub base_words_not : BaseEnds s q.end n None → BaseAt s at n None
  unfolding begins_base
  base_words_not e = rw (a.apart, here false e)

  pub base_good : (k : ℕ) → BaseEnds s q.end n (Some k) → (t : Tok) → Looked s q.end t → BaseAt s at n (Some (record { quals = q; start = t.start; end = k }))
  unfolding begins_base
  base_good k w t l =
      let b : is_base_word n (tokens_at s q.end) ≡ true = begun (is_base_word n (tokens_at s q.end)) refl in
      record {
        begun = rw (a.apart, here true w.1);
        quals_are = a.list_is;
        from_is = first_is s n q.end true (sym b) refl t l ∙ ap (λ (x : Ts). first_from (words_of (word_run n x))) a.rest_is;
        to_is = w.0.to_is b ∙ ap (λ (x : Ts). last_to (words_of (word_run n x))) a.rest_is;
        rest_is = w.0.rest_is ∙ ap (after_words n) a.rest_is;
      }
    where
      begun : (z : Bool) → is_base_word n (tokens_at s q.end) ≡ z → is_base_word n (tokens_at s q.end) ≡ true
      begun true z = z
      begun false z = absurd (false≢true (base_over s n q.end false (sym z) refl ∙ sym w.1))

module _ (ts : Ts) (g : TokenKind) (e : g ≡ next_kind ts) where
  kind_begins : (m : ℕ) → begins m ts ≡ is_mark_kind m g
  kind_begins m = begins_kind m ts ∙ ap (is_mark_kind m) (sym e)

  pub bracket_not : is_mark_kind 40 g ≡ false → false ≡ bracketed ts
  unfolding bracketed
  bracket_not f = rw (kind_begins 40 ∙ f)

  pub bracket_next : is_mark_kind 40 g ≡ true → (us : Ts) → us ≡ rest ts → (k : TokenKind) → k ≡ next_kind us → is_mark_kind 42 k ≡ bracketed ts
  unfolding bracketed
  bracket_next f us u k q = rw (kind_begins 40 ∙ f, begins_kind 42 (rest ts), sym (q ∙ ap next_kind u))
