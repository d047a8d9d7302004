-- Laws for the reader: what it returns is the chain of the definition, or 19. Assumes nothing.
use Rattle.std.specs.Prelude.{Option, Some, None, is_some, IfSome}
use Prim.Native.Nat.{ℕ, suc, ◌+◌, ◌≤◌, ◌<◌}
use mathlib.Core.Path.{◌≡◌, refl, ap, sym, subst, ◌∙◌}
use mathlib.Core.Bool.{Bool, true, false, false≢true}
use mathlib.Core.List.{List, [], ◌∷◌, ◌++◌, append-nil, append_assoc}
use mathlib.Core.Logic.{⊎_elim}
use native.Mathlib.Omega.{arith}
use borrow.Author.Tests.{le-leb, lt-leb}
use lib.ListN.{length, replicate, length-append}
use lib.Dec.{leb}
use Rattle.std.proofs.lemmas.Bool.{cases_lt}
use Rattle.spec_c_dumper.specs.rules.Types.{Qualifier}
use Rattle.session_declaration_reader.specs.grammar.Chain.{Layers, named, pointer, array, proto, Params, closed, dots, param, Chain, layer_entries, param_entries, entries}
use Rattle.session_declaration_reader.specs.tokens.Tokens.{Token, qual, word, number, mark, tag_word, void_word, other_word}
use Rattle.session_declaration_reader.specs.grammar.Grammar.{Reads, reads, fails, and_then, read_base, declarator}
use Rattle.session_declaration_reader.specs.bases.Bases.{qual_run, after_quals, word_run, after_words, words_of}
use Rattle.session_declaration_reader.specs.reader.Reading.{most, chain, refused, read_tokens, within_most, whole, read_with}
use Rattle.session_declaration_reader.specs.tokens.Looking.{Span, places, tokens_at, next_kind, Looked}
use Rattle.session_declaration_reader.specs.bases.Items.{Item, item, qual_items, one_more, put_item, Placed, placed, placing}
use Rattle.session_declaration_reader.specs.grammar.Encoding.{base_item, base_kind, any_params, layer_items, param_items}
use Rattle.session_declaration_reader.specs.reader.Encoding.{chain_items, placed_chain, read_into, count_told, ReadOut}
use Rattle.session_declaration_reader.specs.bases.Looking.{begins_base, BaseOf, BaseAt, base_items}
use Rattle.session_declaration_reader.specs.grammar.Emission.{outcome, emits}
use Rattle.session_declaration_reader.specs.declared.tokens.Tok.{Tok}
use Rattle.session_declaration_reader.specs.declared.bases.Base.{Base}
use Rattle.session_declaration_reader.specs.declared.token_kind.TokenKind.{TokenKind}
use Rattle.session_declaration_reader.specs.declared.token_kind.TokenKind.TheVariants as kinds
use Rattle.session_declaration_reader.specs.declared.token_kind.TokenKind.TheVariants.{End, Tag, Void, Word, Count, Mark}
use Rattle.session_declaration_reader.proofs.tokens.Cases.{passed, failed}
use Rattle.session_declaration_reader.proofs.bases.ItemLaws.{placing_then, more_few, more_many}
use Rattle.session_declaration_reader.proofs.grammar.ParseLaws as parse

abbrev Ts : Type 0
Ts = List (Token Span)

-- entries are counted as they are stored
qual_size : (q : List Qualifier) → length (qual_items q) ≡ length q
qual_size [] = refl
qual_size (x ∷ q) = ap suc (qual_size q)

mutual
  unfolding layer_items layer_entries

  layer_size : (l : Layers Span) → length (layer_items l) ≡ layer_entries l
  layer_size named = refl
  layer_size (pointer q l) =
      omega (arith, length-append (layer_items l) (qual_items q ++ item 2 0 0 ∷ []), length-append (qual_items q) (item 2 0 0 ∷ []), qual_size q, layer_size l)
  layer_size (array n l) = omega (arith, length-append (layer_items l) (item 3 n 0 ∷ []), layer_size l)
  layer_size (proto ps l) = omega (arith, length-append (layer_items l) (item 4 (any_params ps) 0 ∷ param_items ps), layer_size l, param_size ps)

  param_size : (ps : Params Span) → length (param_items ps) ≡ param_entries ps
  param_size closed = refl
  param_size dots = refl
  param_size (param q ws l ps) =
      let i : Item = base_item (base_kind ps) ws in
      omega (arith, length-append (layer_items l) (qual_items q ++ i ∷ param_items ps), length-append (qual_items q) (i ∷ param_items ps), qual_size q, layer_size l, param_size ps)

pub chain_size : (c : Chain Span) → length (chain_items c) ≡ entries c
unfolding chain_items entries
chain_size c =
    omega (
      arith,
      length-append (layer_items c.layers) (qual_items c.quals ++ base_item 1 c.words ∷ []),
      length-append (qual_items c.quals) (base_item 1 c.words ∷ []),
      qual_size c.quals,
      layer_size c.layers,
    )

abbrev count : Placed → ℕ
count (placed n t) = n

reach : ℕ → List Item → ℕ
reach n [] = n
reach n (i ∷ is) = reach (one_more n) is

reach_is : (t : List ℕ) (n : ℕ) (is : List Item) → count (placing t n is) ≡ reach n is
unfolding placing reach
reach_is t n [] = refl
reach_is t n (i ∷ is) = reach_is (put_item t n i) (one_more n) is

reach_few : (n : ℕ) (is : List Item) → n + length is ≤ 512 → reach n is ≡ n + length is
unfolding reach
reach_few n [] h = omega arith
reach_few n (i ∷ is) h = ap (λ (x : ℕ). reach x is) (more_few n (omega arith)) ∙ reach_few (n + 1) is (omega arith) ∙ omega arith

reach_many : (is : List Item) (n : ℕ) → n ≤ 513 → 512 < n + length is → 512 < reach n is
unfolding reach
reach_many [] n l h = omega arith
reach_many (i ∷ is) n l h =
    ⊎_elim
    (λ k. rw (more_few n k) (reach_many is (n + 1) (omega arith) (omega arith)))
    (λ k. rw (more_many n k) (reach_many is 513 (omega arith) (omega arith)))
    (cases_lt n 512)

module _ (t : List ℕ) (c : Chain Span) (n : ℕ) (t' : List ℕ) (e : placed n t' ≡ placing t 0 (chain_items c)) where
  reached : n ≡ reach 0 (chain_items c)
  reached = ap count e ∙ reach_is t 0 (chain_items c)

  few_entries : n ≤ 512 → within_most c ≡ chain c
  unfolding within_most
  few_entries h =
      ⊎_elim
      (λ k. absurd (omega (arith, reached, reach_many (chain_items c) 0 (omega arith) (omega (arith, chain_size c)))))
      (λ k. passed (leb (entries c) 512) (chain c) refused (le-leb (entries c) 512 k))
      (cases_lt 512 (entries c))

  many_entries : 512 < n → within_most c ≡ refused
  unfolding within_most
  many_entries h =
      ⊎_elim
      (λ k. failed (leb (entries c) 512) (chain c) refused (lt-leb (entries c) 512 k))
      (λ k. absurd (omega (arith, reached, chain_size c, reach_few 0 (chain_items c) (omega (arith, chain_size c)))))
      (cases_lt 512 (entries c))

-- a chain has an entry at least
more_some : (n : ℕ) → 0 < one_more n
more_some n = ⊎_elim (λ k. omega (arith, more_few n k)) (λ k. omega (arith, more_many n k)) (cases_lt n 512)

reach_some : (a : List Item) (i : Item) (n : ℕ) → 0 < reach n (a ++ i ∷ [])
unfolding reach
reach_some [] i n = more_some n
reach_some (j ∷ a) i n = reach_some a i (one_more n)

abbrev is_end_kind : TokenKind → Bool
is_end_kind End = true
is_end_kind (kinds.Qualifier q) = false
is_end_kind Tag = false
is_end_kind Void = false
is_end_kind Word = false
is_end_kind (Count n) = false
is_end_kind (Mark b) = false

ends_text : (ts : Ts) → is_end_kind (next_kind ts) ≡ true → ts ≡ []
unfolding next_kind
ends_text [] e = refl
ends_text (qual q ∷ ts) e = absurd (false≢true e)
ends_text (word tag_word w ∷ ts) e = absurd (false≢true e)
ends_text (word void_word w ∷ ts) e = absurd (false≢true e)
ends_text (word other_word w ∷ ts) e = absurd (false≢true e)
ends_text (number n ∷ ts) e = absurd (false≢true e)
ends_text (mark b ∷ ts) e = absurd (false≢true e)

goes_on : (c : Chain Span) (ts : Ts) → (next_kind ts ≡ End → ⊥) → whole (reads c ts) ≡ refused
unfolding whole next_kind
goes_on c [] n = absurd (n refl)
goes_on c (t ∷ ts) n = refl

module _ (s : List ℕ) (c : List ℕ) where
  abbrev ts : Ts
  ts = tokens_at s 0

  abbrev us : Ts
  us = after_words true (after_quals ts)

  abbrev ws : List Span
  ws = words_of (word_run true (after_quals ts))

  abbrev made : Layers Span → Chain Span
  made l = record { quals = qual_run ts; words = ws; layers = l }

  abbrev K : Reads Span (Chain Span)
  K = and_then (declarator most true us) (λ l vs. reads (made l) vs)

  based : read_tokens ts ≡ elim (begins_base s 0 true) [ true ↦ K | false ↦ fails ]
  unfolding read_tokens read_base begins_base
  based = refl

  -- an answer from what the tokens come to
  answers : (m : Reads Span (Chain Span)) → read_tokens ts ≡ m → read_into s c ≡ placed_chain c (whole m)
  unfolding read_into read_with tokens_at
  answers m e = ap (λ x. placed_chain c (whole x)) e

  refuses : (m : Reads Span (Chain Span)) → read_tokens ts ≡ m → whole m ≡ refused → read_with (places (length s)) s ≡ refused
  unfolding read_with tokens_at
  refuses m e f = ap whole e ∙ f

  pub read_baseless : BaseAt s 0 true None → read_with (places (length s)) s ≡ refused
  unfolding whole
  read_baseless f = refuses fails (based ∙ failed _ K fails f) refl

  module _ (b : Base) (a : BaseOf s 0 true b) where
    here : read_tokens ts ≡ K
    here = based ∙ passed _ K fails a.begun

    same : declarator most true us ≡ declarator 2056 true (tokens_at s b.end)
    same = ap (declarator 2056 true) (sym a.rest_is)

    pub read_fails : (c₁ : Placed) → outcome s None c₁ ≡ emits layer_items c 0 (declarator 2056 true (tokens_at s b.end))
        → read_with (places (length s)) s ≡ refused
    unfolding whole
    read_fails c₁ e =
        refuses
        fails
        (here ∙ parse.then_fails (declarator most true us) _ (same ∙ parse.split_bad layer_items s c 0 c₁ (declarator 2056 true (tokens_at s b.end)) e))
        refl

    module _ (r j : ℕ) (c₁ : List ℕ) (e : outcome s (Some r) (placed j c₁) ≡ emits layer_items c 0 (declarator 2056 true (tokens_at s b.end))) (t : Tok) (l : Looked s r t) where
      w : parse.Read layer_items s r j c₁ c 0 (declarator 2056 true (tokens_at s b.end))
      w = parse.split layer_items s c 0 r j c₁ (declarator 2056 true (tokens_at s b.end)) e

      is : read_tokens ts ≡ reads (made w.value) (tokens_at s r)
      is = here ∙ parse.then_reads (declarator most true us) w.value (tokens_at s r) _ (same ∙ w.reads_it)

      pub read_behind : (t.kind ≡ End → ⊥) → read_with (places (length s)) s ≡ refused
      read_behind f = refuses (reads (made w.value) (tokens_at s r)) is (goes_on (made w.value) (tokens_at s r) (λ q. f (l.kind_is ∙ q)))

      module _ (z : t.kind ≡ End) (n : ℕ) (c₂ : List ℕ) (p : placed n c₂ ≡ placing c₁ j (base_items b 1)) where
        ended : read_tokens ts ≡ reads (made w.value) []
        ended = is ∙ ap (reads (made w.value)) (ends_text (tokens_at s r) (ap is_end_kind (sym l.kind_is ∙ z)))

        stored : placed n c₂ ≡ placing c 0 (chain_items (made w.value))
        unfolding chain_items
        stored =
            let q : base_items b 1 ≡ qual_items (qual_run ts) ++ (base_item 1 ws ∷ []) =
            sym (append-nil (base_items b 1)) ∙ parse.base_items_lem b (qual_run ts) ws a.quals_are a.from_is a.to_is 1 [] in
            placing_then c 0 (layer_items w.value) (qual_items (qual_run ts) ++ (base_item 1 ws ∷ [])) j c₁ n c₂ w.stores (p ∙ ap (placing c₁ j) q)

        pub read_over : 512 < n → read_with (places (length s)) s ≡ refused
        unfolding whole
        read_over f = refuses (reads (made w.value) []) ended (many_entries c (made w.value) n c₂ stored f)

        -- u: the words that were lent, as they stand when the chain is read
        pub read_good : n ≤ 512 → (u : List ℕ) → u ≡ c₂ → (placed n u ≡ read_into s c) × (0 < n)
        unfolding whole placed_chain chain_items
        read_good f u eu = (
          ap (placed n) eu ∙ stored ∙ sym (answers (reads (made w.value) []) ended ∙ ap (placed_chain c) (few_entries c (made w.value) n c₂ stored f)),
          omega (arith, reached c (made w.value) n c₂ stored, some_item),
        )
          where
            some_item : 0 < reach 0 (chain_items (made w.value))
            some_item = subst (λ (is : List Item). 0 < reach 0 is) (append_assoc (layer_items w.value) (qual_items (qual_run ts)) (base_item 1 ws ∷ [])) (reach_some (layer_items w.value ++ qual_items (qual_run ts)) (base_item 1 ws) 0)

-- ---- read_declaration: what was read, or words of zero
module _ (s c c₁ : List ℕ) where
  -- `?` hands on that there is none
  pub none_out : (r : Option ℕ) → r ≡ None → read_with (places (length s)) s ≡ refused → ReadOut s c r c₁
  none_out r z e = subst (λ (x : Option ℕ). ReadOut s c x c₁) (sym z) e

  pub read_none : (r : Option ℕ) → ReadOut s c r c₁ → is_some r ≡ false → (u : List ℕ) → u ≡ replicate (length c₁) 0 → length c₁ ≡ length c
      → (count_told r u ≡ read_into s c) × IfSome r (λ n. 0 < n)
  unfolding read_into placed_chain
  read_none None e z u eu l = (ap (placed 0) eu ∙ ap (λ (n : ℕ). placed 0 (replicate n 0)) l ∙ sym (ap (placed_chain c) e), tt)
  read_none (Some n) e z u eu l = absurd (false≢true (sym z))

  pub read_some : (r : Option ℕ) → ReadOut s c r c₁ → is_some r ≡ true → (count_told r c₁ ≡ read_into s c) × IfSome r (λ n. 0 < n)
  read_some None e z = absurd (false≢true z)
  read_some (Some n) e z = e
