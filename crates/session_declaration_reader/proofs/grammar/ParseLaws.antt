-- Laws for the code of the grammar. Assumes nothing.
use Rattle.std.specs.Prelude.{Some, None}
use Prim.Native.Nat.{ℕ, zero, suc, ◌-◌, ◌≤◌}
use mathlib.Core.Path.{◌≡◌, refl, ap, sym, ◌∙◌}
use mathlib.Core.Bool.{Bool, true, false, ◌&&◌, ◌||◌, false≢true}
use mathlib.Core.List.{List, [], ◌∷◌, ◌++◌, append_assoc, append-nil}
use native.Mathlib.Omega.{arith}
use Rattle.spec_c_dumper.specs.rules.Types.{Qualifier}
use Rattle.session_declaration_reader.specs.grammar.Chain.{Layers, named, pointer, array, proto, Params, closed, dots, param}
use Rattle.session_declaration_reader.specs.tokens.Tokens.{tag_word, void_word, other_word, Token, qual, word, number, mark, rest}
use Rattle.session_declaration_reader.specs.grammar.Grammar.{Reads, reads, fails, and_then, read_base, wanted, wanted_name, wanted_count, declarator, suffixes, params, param_list, param_end}
use Rattle.session_declaration_reader.specs.bases.Bases.{begins, begins_word, bracketed, distinct, qual_run, after_quals, word_run, after_words, words_of, is_base, void_before}
use Rattle.session_declaration_reader.specs.tokens.Looking.{Span, tokens_at, next_kind, is_word_kind, is_mark_kind, Looked}
use Rattle.session_declaration_reader.specs.bases.Items.{Item, item, qual_items, first_from, last_to, Placed, placed, placing}
use Rattle.session_declaration_reader.specs.bases.Entries.{base_code}
use Rattle.session_declaration_reader.specs.grammar.Encoding.{base_item, base_kind, any_params, layer_items, param_items}
use Rattle.session_declaration_reader.specs.bases.Looking.{quals_of, QualsOf, QualsAt, begins_base, BaseOf, BaseAt, base_items}
use Rattle.session_declaration_reader.specs.grammar.Emission.{Done, done, none, emits, outcome, proto_items, behind_items, starred, in_brackets, counts, protos, dots_end}
use Rattle.session_declaration_reader.specs.declared.tokens.Tok.{Tok}
use Rattle.session_declaration_reader.specs.declared.bases.Quals.{Quals}
use Rattle.session_declaration_reader.specs.declared.bases.Base.{Base}
use Rattle.session_declaration_reader.specs.declared.token_kind.TokenKind.{TokenKind}
use Rattle.session_declaration_reader.specs.declared.token_kind.TokenKind.TheVariants as kinds
use Rattle.session_declaration_reader.specs.declared.token_kind.TokenKind.TheVariants.{End, Tag, Void, Word, Count, Mark}
use Rattle.session_declaration_reader.proofs.tokens.Cases.{passed, failed}
use Rattle.session_declaration_reader.proofs.bases.ItemLaws.{on, placing_on, placing_then}
use Rattle.session_declaration_reader.proofs.bases.BaseLaws.{begins_kind, word_kind}

abbrev Ts : Type 0
Ts = List (Token Span)

-- outcomes
done_none : (ts : Ts) (p : Placed) → done ts p ≡ none → ⊥
done_none ts p e = let z : ◌≡◌ {A = ℕ} 0 1 = cc in omega arith

pub record Read {A : Type 0} (f : A → List Item) (s : List ℕ) (r j : ℕ) (t : List ℕ) (c : List ℕ) (k : ℕ) (m : Reads Span A) : Type 0 where
  pub value : A
  pub reads_it : m ≡ reads value (tokens_at s r)
  pub stores : placed j t ≡ placing c k (f value)

module _ {A : Type 0} (f : A → List Item) (s : List ℕ) (c : List ℕ) (k : ℕ) where
  pub split : (r j : ℕ) (t : List ℕ) (m : Reads Span A) → outcome s (Some r) (placed j t) ≡ emits f c k m → Read f s r j t c k m
  unfolding outcome emits
  split r j t (reads a ts) e =
      let o : done (tokens_at s r) (placed j t) ≡ done ts (placing c k (f a)) = e in
      let p : ts ≡ tokens_at s r = cc in
      record { value = a; reads_it = ap (reads a) p; stores = cc }
  split r j t fails e = absurd (done_none (tokens_at s r) (placed j t) e)

  pub split_bad : (t : Placed) (m : Reads Span A) → outcome s None t ≡ emits f c k m → m ≡ fails
  unfolding outcome emits
  split_bad t (reads a ts) e = absurd (done_none ts (placing c k (f a)) (sym e))
  split_bad t fails e = refl

  good : (at z : ℕ) (t : List ℕ) (a : A) (m : Reads Span A) → m ≡ reads a (tokens_at s at) → placed z t ≡ placing c k (f a) → outcome s (Some at) (placed z t) ≡ emits f c k m
  unfolding outcome emits
  good at z t a m e p = ap (done (tokens_at s at)) p ∙ sym (ap (emits f c k) e)

  bad : (t : Placed) (m : Reads Span A) → m ≡ fails → outcome s None t ≡ emits f c k m
  unfolding outcome emits
  bad t m e = sym (ap (emits f c k) e)

  through : (o : Done) (m m' : Reads Span A) → o ≡ emits f c k m' → m ≡ m' → o ≡ emits f c k m
  through o m m' e p = e ∙ sym (ap (emits f c k) p)

-- one layer around others
abbrev graft : Layers Span → Layers Span → Layers Span
graft named l = l
graft (pointer q k) l = pointer q (graft k l)
graft (array n k) l = array n (graft k l)
graft (proto ps k) l = proto ps (graft k l)

graft_graft : (k a b : Layers Span) → graft (graft k a) b ≡ graft k (graft a b)
graft_graft named a b = refl
graft_graft (pointer q k) a b = ap (pointer q) (graft_graft k a b)
graft_graft (array n k) a b = ap (array n) (graft_graft k a b)
graft_graft (proto ps k) a b = ap (proto ps) (graft_graft k a b)

graft_items : (k l : Layers Span) → layer_items (graft k l) ≡ layer_items l ++ layer_items k
unfolding layer_items
graft_items named l = sym (append-nil (layer_items l))
graft_items (pointer q k) l =
    ap (λ (x : List Item). x ++ (qual_items q ++ item 2 0 0 ∷ [])) (graft_items k l) ∙ append_assoc (layer_items l) (layer_items k) (qual_items q ++ item 2 0 0 ∷ [])
graft_items (array n k) l = ap (λ (x : List Item). x ++ item 3 n 0 ∷ []) (graft_items k l) ∙ append_assoc (layer_items l) (layer_items k) (item 3 n 0 ∷ [])
graft_items (proto ps k) l =
    ap (λ (x : List Item). x ++ item 4 (any_params ps) 0 ∷ param_items ps) (graft_items k l) ∙ append_assoc (layer_items l) (layer_items k) (item 4 (any_params ps) 0 ∷ param_items ps)

abbrev map_r : (Layers Span → Layers Span) → Reads Span (Layers Span) → Reads Span (Layers Span)
map_r g (reads a ts) = reads (g a) ts
map_r g fails = fails

map_map : (a b : Layers Span) (m : Reads Span (Layers Span)) → map_r (λ k. graft k b) (map_r (λ k. graft k a) m) ≡ map_r (λ k. graft k (graft a b)) m
map_map a b (reads k ts) = ap (λ (x : Layers Span). reads x ts) (graft_graft k a b)
map_map a b fails = refl

abbrev Grafts : ℕ → Type 0
Grafts f = (l : Layers Span) (ts : Ts) → suffixes f l ts ≡ map_r (λ k. graft k l) (suffixes f named ts)

module _ (f : ℕ) (ih : Grafts f) (l : Layers Span) where
  count_graft : (us : Ts) → wanted_count us (λ n vs. suffixes f (array n l) vs) ≡ map_r (λ k. graft k l) (wanted_count us (λ n vs. suffixes f (array n named) vs))
  unfolding wanted_count wanted
  count_graft [] = refl
  count_graft (qual q ∷ us) = refl
  count_graft (word k w ∷ us) = refl
  count_graft (mark b ∷ us) = refl
  count_graft (number n ∷ us) = go (begins 93 us)
    where
      go : (b : Bool) → elim b [ true ↦ suffixes f (array n l) (rest us) | false ↦ fails ] ≡ map_r (λ k. graft k l) (elim b [ true ↦ suffixes f (array n named) (rest us) | false ↦ fails ])
      go true =
          ih (array n l) (rest us)
          ∙ sym (ap (map_r (λ k. graft k l)) (ih (array n named) (rest us)) ∙ map_map (array n named) l (suffixes f named (rest us)))
      go false = refl

  proto_graft : (m : Reads Span (Params Span)) → and_then m (λ ps us. suffixes f (proto ps l) us) ≡ map_r (λ k. graft k l) (and_then m (λ ps us. suffixes f (proto ps named) us))
  unfolding and_then
  proto_graft (reads ps us) =
      ih (proto ps l) us ∙ sym (ap (map_r (λ k. graft k l)) (ih (proto ps named) us) ∙ map_map (proto ps named) l (suffixes f named us))
  proto_graft fails = refl

  step_graft : (ts : Ts) → suffixes (suc f) l ts ≡ map_r (λ k. graft k l) (suffixes (suc f) named ts)
  unfolding suffixes
  step_graft ts = go (begins 91 ts) (begins 40 ts)
    where
      go : (a b : Bool)
          → elim a [
            | true ↦ wanted_count (rest ts) (λ n us. suffixes f (array n l) us)
            | false ↦ elim b [ true ↦ and_then (params f (rest ts)) (λ ps us. suffixes f (proto ps l) us) | false ↦ reads l ts ]
          ]
          ≡ map_r
          (λ k. graft k l)
          (elim a [
            | true ↦ wanted_count (rest ts) (λ n us. suffixes f (array n named) us)
            | false ↦ elim b [ true ↦ and_then (params f (rest ts)) (λ ps us. suffixes f (proto ps named) us) | false ↦ reads named ts ]
          ])
      go true b = count_graft (rest ts)
      go false true = proto_graft (params f (rest ts))
      go false false = refl

suffix_graft : (f : ℕ) → Grafts f
unfolding suffixes
suffix_graft zero l ts = refl
suffix_graft (suc f) l ts = step_graft f (suffix_graft f) l ts

-- suffixes behind layers that are stored
suffix_on : (c : List ℕ) (k : ℕ) (n₁ : ℕ) (c₁ : List ℕ) (l : Layers Span) (f : ℕ) (ts : Ts) (o : Done)
    → placed n₁ c₁ ≡ placing c k (layer_items l) → o ≡ emits layer_items c₁ n₁ (suffixes f named ts) → o ≡ emits layer_items c k (suffixes f l ts)
unfolding emits
suffix_on c k n₁ c₁ l f ts o p e = e ∙ stored (suffixes f named ts) ∙ sym (ap (emits layer_items c k) (suffix_graft f l ts))
  where
    unit : (m : Layers Span) → placing c₁ n₁ (layer_items m) ≡ placing c k (layer_items (graft m l))
    unit m = ap (λ (x : Placed). on x (layer_items m)) p ∙ sym (ap (placing c k) (graft_items m l) ∙ placing_on c k (layer_items l) (layer_items m))

    stored : (m : Reads Span (Layers Span)) → emits layer_items c₁ n₁ m ≡ emits layer_items c k (map_r (λ x. graft x l) m)
    stored (reads m us) = ap (done us) (unit m)
    stored fails = refl

-- tests of what a token is
module _ (s : List ℕ) (at : ℕ) (t : Tok) (l : Looked s at t) where
  pub sees : (m : ℕ) → is_mark_kind m t.kind ≡ true → begins m (tokens_at s at) ≡ true
  sees m e = begins_kind m (tokens_at s at) ∙ ap (is_mark_kind m) (sym l.kind_is) ∙ e

  pub misses : (m : ℕ) → is_mark_kind m t.kind ≡ false → begins m (tokens_at s at) ≡ false
  misses m n = begins_kind m (tokens_at s at) ∙ ap (is_mark_kind m) (sym l.kind_is) ∙ n

  wants : {A : Type 0} → (m : ℕ) (k : Ts → Reads Span A) → is_mark_kind m t.kind ≡ true → wanted m (tokens_at s at) k ≡ k (tokens_at s t.end)
  unfolding wanted
  wants m k e = passed (begins m (tokens_at s at)) (k (rest (tokens_at s at))) fails (sees m e) ∙ ap k (sym l.rest_is)

  wants_not : {A : Type 0} → (m : ℕ) (k : Ts → Reads Span A) → is_mark_kind m t.kind ≡ false → wanted m (tokens_at s at) k ≡ fails
  unfolding wanted
  wants_not m k n = failed (begins m (tokens_at s at)) (k (rest (tokens_at s at))) fails (misses m n)

count_not : {A : Type 0} → (ts : Ts) (g : TokenKind) (k : ℕ → Ts → Reads Span A) → g ≡ next_kind ts → ((m : ℕ) → g ≡ Count m → ⊥) → wanted_count ts k ≡ fails
unfolding wanted_count next_kind
count_not [] g k e n = refl
count_not (qual q ∷ ts) g k e n = refl
count_not (word j w ∷ ts) g k e n = refl
count_not (number m ∷ ts) g k e n = absurd (n m e)
count_not (mark b ∷ ts) g k e n = refl

abbrev is_count_kind : TokenKind → Bool
is_count_kind End = false
is_count_kind (kinds.Qualifier q) = false
is_count_kind Tag = false
is_count_kind Void = false
is_count_kind Word = false
is_count_kind (Count n) = true
is_count_kind (Mark b) = false

count_some : {A : Type 0} → (ts : Ts) (m : ℕ) (k : ℕ → Ts → Reads Span A) → Count m ≡ next_kind ts → wanted_count ts k ≡ wanted 93 (rest ts) (k m)
unfolding wanted_count next_kind rest
count_some ts m k e = go ts e (sym (ap is_count_kind e))
  where
    go : (ts : Ts) → Count m ≡ next_kind ts → is_count_kind (next_kind ts) ≡ true → wanted_count ts k ≡ wanted 93 (rest ts) (k m)
    go [] e h = absurd (false≢true h)
    go (qual q ∷ ts) e h = absurd (false≢true h)
    go (word tag_word w ∷ ts) e h = absurd (false≢true h)
    go (word void_word w ∷ ts) e h = absurd (false≢true h)
    go (word other_word w ∷ ts) e h = absurd (false≢true h)
    go (number x ∷ ts) e h = let p : x ≡ m = cc in ap (λ y. wanted 93 ts (k y)) p
    go (mark b ∷ ts) e h = absurd (false≢true h)

name_fails : {A : Type 0} → (n : Bool) (ts : Ts) (k : Ts → Reads Span A) → n ≡ true → begins_word ts ≡ false → wanted_name n ts k ≡ fails
unfolding wanted_name
name_fails n ts k e f = passed n _ (k ts) e ∙ failed (begins_word ts) (k (rest ts)) fails f

name_goes : {A : Type 0} → (n : Bool) (ts : Ts) (k : Ts → Reads Span A) → n ≡ true → begins_word ts ≡ true → wanted_name n ts k ≡ k (rest ts)
unfolding wanted_name
name_goes n ts k e f = passed n _ (k ts) e ∙ passed (begins_word ts) (k (rest ts)) fails f

-- one call less may be open, or none
one_less : (left less : ℕ) → (1 ≤ left) × (less ≡ left - 1) → left ≡ suc less
one_less left less h = omega (arith, h.0, h.1)

none_left : (left : ℕ) → (1 ≤ left → ⊥) → left ≡ 0
none_left left h = omega (arith, h)

-- declarator
module _ (s : List ℕ) (at : ℕ) (left : ℕ) (n : Bool) (c : List ℕ) (k : ℕ) where
  abbrev D : Reads Span (Layers Span)
  D = declarator left n (tokens_at s at)

  pub decl_zero : (1 ≤ left → ⊥) → (t : Placed) → outcome s None t ≡ emits layer_items c k D
  unfolding declarator
  decl_zero e t = bad layer_items s c k t D (ap (λ (f : ℕ). declarator f n (tokens_at s at)) (none_left left e))

  module _ (less : ℕ) (ok : (1 ≤ left) × (less ≡ left - 1)) (t : Tok) (l : Looked s at t) where
    abbrev ts : Ts
    ts = tokens_at s at

    unroll : D ≡ declarator (suc less) n ts
    unroll = ap (λ (f : ℕ). declarator f n ts) (one_less left less ok)

    pub decl_star : is_mark_kind 42 t.kind ≡ true → (o : Done) → o ≡ emits layer_items c k (starred less n (tokens_at s t.end)) → o ≡ emits layer_items c k D
    unfolding declarator starred
    decl_star e o q =
        through layer_items s c k o D _ q (unroll ∙ passed (begins 42 ts) (starred less n (rest ts)) _ (sees s at t l 42 e) ∙ ap (starred less n) (sym l.rest_is))

    module _ (n₁ : is_mark_kind 42 t.kind ≡ false) (b : Bool) (eb : b ≡ bracketed ts) where
      no_star : D ≡ elim (bracketed ts) [ true ↦ in_brackets less n (rest ts) | false ↦ wanted_name n ts (λ us. suffixes less named us) ]
      unfolding declarator in_brackets
      no_star = unroll ∙ failed (begins 42 ts) _ _ (misses s at t l 42 n₁)

      pub decl_bracket : b ≡ true → (o : Done) → o ≡ emits layer_items c k (in_brackets less n (tokens_at s t.end)) → o ≡ emits layer_items c k D
      decl_bracket e o q =
          through
          layer_items
          s
          c
          k
          o
          D
          _
          q
          (no_star ∙ passed (bracketed ts) (in_brackets less n (rest ts)) _ (sym eb ∙ e) ∙ ap (in_brackets less n) (sym l.rest_is))

      module _ (n₂ : b ≡ false) where
        core : D ≡ wanted_name n ts (λ us. suffixes less named us)
        core = no_star ∙ failed (bracketed ts) (in_brackets less n (rest ts)) _ (sym eb ∙ n₂)

        pub decl_unnamed : n ≡ false → (o : Done) → o ≡ emits layer_items c k (suffixes less named ts) → o ≡ emits layer_items c k D
        unfolding wanted_name
        decl_unnamed e o q = through layer_items s c k o D _ q (core ∙ rw e)

        module _ (e : n ≡ true) (r : Bool) (er : r ≡ is_word_kind t.kind) where
          is_word : begins_word ts ≡ r
          is_word = word_kind ts ∙ ap is_word_kind (sym l.kind_is) ∙ sym er

          pub decl_nameless : r ≡ false → (c' : Placed) → outcome s None c' ≡ emits layer_items c k D
          decl_nameless f c' = bad layer_items s c k c' D (core ∙ name_fails n ts _ e (is_word ∙ f))

          pub decl_name : r ≡ true → (o : Done) → o ≡ emits layer_items c k (suffixes less named (tokens_at s t.end)) → o ≡ emits layer_items c k D
          decl_name f o q = through layer_items s c k o D _ q (core ∙ name_goes n ts _ e (is_word ∙ f) ∙ ap (suffixes less named) (sym l.rest_is))

pub then_reads : {A B : Type 0} → (m : Reads Span A) (a : A) (ts : Ts) (k : A → Ts → Reads Span B) → m ≡ reads a ts → and_then m k ≡ k a ts
unfolding and_then
then_reads m a ts k e = ap (λ x. and_then x k) e

pub then_fails : {A B : Type 0} → (m : Reads Span A) (k : A → Ts → Reads Span B) → m ≡ fails → and_then m k ≡ fails
unfolding and_then
then_fails m k e = ap (λ x. and_then x k) e

-- behind a star
module _ (s : List ℕ) (at : ℕ) (left : ℕ) (n : Bool) (c : List ℕ) (k : ℕ) where
  abbrev S : Reads Span (Layers Span)
  S = starred left n (tokens_at s at)

  pub star_twice : QualsAt s at None → (c' : Placed) → outcome s None c' ≡ emits layer_items c k S
  unfolding starred
  star_twice f c' = bad layer_items s c k c' S (failed (distinct (qual_run (tokens_at s at))) _ fails f)

  module _ (q : Quals) (a : QualsOf s at q) where
    opened : S ≡ and_then (declarator left n (tokens_at s q.end)) (λ l vs. reads (pointer (qual_run (tokens_at s at)) l) vs)
    unfolding starred
    opened =
        passed (distinct (qual_run (tokens_at s at))) _ fails a.apart
        ∙ ap (λ (x : Ts). and_then (declarator left n x) (λ l vs. reads (pointer (qual_run (tokens_at s at)) l) vs)) (sym a.rest_is)

    pub star_fails : (c₁ : Placed) → outcome s None c₁ ≡ emits layer_items c k (declarator left n (tokens_at s q.end)) → outcome s None c₁ ≡ emits layer_items c k S
    star_fails c₁ e =
        bad layer_items s c k c₁ S (opened ∙ then_fails (declarator left n (tokens_at s q.end)) _ (split_bad layer_items s c k c₁ (declarator left n (tokens_at s q.end)) e))

    pub star_good : (r j : ℕ) (c₁ : List ℕ) → outcome s (Some r) (placed j c₁) ≡ emits layer_items c k (declarator left n (tokens_at s q.end)) → (m : ℕ) (c₂ : List ℕ) → placed m c₂ ≡ placing c₁ j (qual_items (quals_of q)) → (z : ℕ) (c₃ : List ℕ) → placed z c₃ ≡ placing c₂ m (item 2 0 0 ∷ [])
        → outcome s (Some r) (placed z c₃) ≡ emits layer_items c k S
    unfolding layer_items
    star_good r j c₁ e m c₂ e₂ z c₃ e₃ =
        let w = split layer_items s c k r j c₁ (declarator left n (tokens_at s q.end)) e in
        let qs : List Item = qual_items (qual_run (tokens_at s at)) in
        let i : placed m c₂ ≡ placing c₁ j qs = e₂ ∙ ap (λ (x : List Qualifier). placing c₁ j (qual_items x)) a.list_is in
        good
        layer_items
        s
        c
        k
        r
        z
        c₃
        (pointer (qual_run (tokens_at s at)) w.value)
        S
        (opened ∙ then_reads (declarator left n (tokens_at s q.end)) w.value (tokens_at s r) _ w.reads_it)
        (placing_then c k (layer_items w.value) (qs ++ item 2 0 0 ∷ []) j c₁ z c₃ w.stores (placing_then c₁ j qs (item 2 0 0 ∷ []) m c₂ z c₃ i e₃))

-- in parentheses
module _ (s : List ℕ) (at : ℕ) (left : ℕ) (n : Bool) (c : List ℕ) (k : ℕ) where
  abbrev I : Reads Span (Layers Span)
  I = in_brackets left n (tokens_at s at)

  pub in_fails : (c₁ : Placed) → outcome s None c₁ ≡ emits layer_items c k (declarator left n (tokens_at s at)) → outcome s None c₁ ≡ emits layer_items c k I
  unfolding in_brackets
  in_fails c₁ e = bad layer_items s c k c₁ I (then_fails (declarator left n (tokens_at s at)) _ (split_bad layer_items s c k c₁ (declarator left n (tokens_at s at)) e))

  module _ (r j : ℕ) (c₁ : List ℕ) (e : outcome s (Some r) (placed j c₁) ≡ emits layer_items c k (declarator left n (tokens_at s at))) (t : Tok) (l : Looked s r t) where
    w : Read layer_items s r j c₁ c k (declarator left n (tokens_at s at))
    w = split layer_items s c k r j c₁ (declarator left n (tokens_at s at)) e

    pub in_unclosed : is_mark_kind 41 t.kind ≡ false → (c' : Placed) → outcome s None c' ≡ emits layer_items c k I
    unfolding in_brackets
    in_unclosed f c' =
        bad layer_items s c k c' I (then_reads (declarator left n (tokens_at s at)) w.value (tokens_at s r) _ w.reads_it ∙ wants_not s r t l 41 _ f)

    pub in_good : is_mark_kind 41 t.kind ≡ true → (o : Done) → o ≡ emits layer_items c₁ j (suffixes left named (tokens_at s t.end)) → o ≡ emits layer_items c k I
    unfolding in_brackets
    in_good f o q =
        through
        layer_items
        s
        c
        k
        o
        I
        _
        (suffix_on c k j c₁ w.value left (tokens_at s t.end) o w.stores q)
        (then_reads (declarator left n (tokens_at s at)) w.value (tokens_at s r) _ w.reads_it ∙ wants s r t l 41 _ f)

-- suffixes
module _ (s : List ℕ) (at : ℕ) (left : ℕ) (c : List ℕ) (k : ℕ) where
  abbrev X : Reads Span (Layers Span)
  X = suffixes left named (tokens_at s at)

  pub suffix_zero : (1 ≤ left → ⊥) → (c' : Placed) → outcome s None c' ≡ emits layer_items c k X
  unfolding suffixes
  suffix_zero e c' = bad layer_items s c k c' X (ap (λ (f : ℕ). suffixes f named (tokens_at s at)) (none_left left e))

  module _ (less : ℕ) (ok : (1 ≤ left) × (less ≡ left - 1)) (t : Tok) (l : Looked s at t) where
    unrolls : X ≡ suffixes (suc less) named (tokens_at s at)
    unrolls = ap (λ (f : ℕ). suffixes f named (tokens_at s at)) (one_less left less ok)

    pub suffix_count : is_mark_kind 91 t.kind ≡ true → (o : Done) → o ≡ emits layer_items c k (counts less (tokens_at s t.end)) → o ≡ emits layer_items c k X
    unfolding suffixes counts
    suffix_count e o q =
        through layer_items s c k o X _ q (unrolls ∙ passed (begins 91 (tokens_at s at)) (counts less (rest (tokens_at s at))) _ (sees s at t l 91 e) ∙ ap (counts less) (sym l.rest_is))

    module _ (n₁ : is_mark_kind 91 t.kind ≡ false) where
      pub suffix_proto : is_mark_kind 40 t.kind ≡ true → (o : Done) → o ≡ emits layer_items c k (protos less (tokens_at s t.end)) → o ≡ emits layer_items c k X
      unfolding suffixes protos
      suffix_proto e o q =
          through
          layer_items
          s
          c
          k
          o
          X
          _
          q
          (unrolls
          ∙ failed (begins 91 (tokens_at s at)) _ _ (misses s at t l 91 n₁)
          ∙ passed (begins 40 (tokens_at s at)) (protos less (rest (tokens_at s at))) _ (sees s at t l 40 e)
          ∙ ap (protos less) (sym l.rest_is))

      pub suffix_none : is_mark_kind 40 t.kind ≡ false → outcome s (Some at) (placed k c) ≡ emits layer_items c k X
      unfolding suffixes layer_items placing
      suffix_none n₂ =
          good
          layer_items
          s
          c
          k
          at
          k
          c
          named
          X
          (unrolls ∙ failed (begins 91 (tokens_at s at)) _ _ (misses s at t l 91 n₁) ∙ failed (begins 40 (tokens_at s at)) _ (reads named (tokens_at s at)) (misses s at t l 40 n₂))
          refl

-- counts
module _ (s : List ℕ) (at : ℕ) (left : ℕ) (c : List ℕ) (k : ℕ) (t : Tok) (l : Looked s at t) where
  abbrev C : Reads Span (Layers Span)
  C = counts left (tokens_at s at)

  pub counts_none : ((m : ℕ) → t.kind ≡ Count m → ⊥) → (c' : Placed) → outcome s None c' ≡ emits layer_items c k C
  unfolding counts
  counts_none f c' = bad layer_items s c k c' C (count_not (tokens_at s at) t.kind _ l.kind_is f)

  module _ (size : ℕ) (y : t.kind ≡ Count size) (u : Tok) (m : Looked s t.end u) where
    counted : C ≡ wanted 93 (tokens_at s t.end) (suffixes left (array size named))
    unfolding counts
    counted =
        count_some (tokens_at s at) size (λ n us. suffixes left (array n named) us) (sym y ∙ l.kind_is)
        ∙ ap (λ (x : Ts). wanted 93 x (suffixes left (array size named))) (sym l.rest_is)

    pub counts_open : is_mark_kind 93 u.kind ≡ false → (c' : Placed) → outcome s None c' ≡ emits layer_items c k C
    counts_open f c' = bad layer_items s c k c' C (counted ∙ wants_not s t.end u m 93 _ f)

    pub counts_good : is_mark_kind 93 u.kind ≡ true → (z : ℕ) (c₁ : List ℕ) → placed z c₁ ≡ placing c k (item 3 size 0 ∷ [])
        → (o : Done) → o ≡ emits layer_items c₁ z (suffixes left named (tokens_at s u.end)) → o ≡ emits layer_items c k C
    unfolding layer_items
    counts_good f z c₁ e o q =
        through
        layer_items
        s
        c
        k
        o
        C
        _
        (suffix_on c k z c₁ (array size named) left (tokens_at s u.end) o e q)
        (counted ∙ wants s t.end u m 93 _ f)

-- prototypes
module _ (s : List ℕ) (at : ℕ) (left : ℕ) (c : List ℕ) (k : ℕ) where
  abbrev P : Reads Span (Layers Span)
  P = protos left (tokens_at s at)

  pub protos_fail : (c₁ : Placed) → outcome s None c₁ ≡ emits proto_items c k (params left (tokens_at s at)) → outcome s None c₁ ≡ emits layer_items c k P
  unfolding protos
  protos_fail c₁ e = bad layer_items s c k c₁ P (then_fails (params left (tokens_at s at)) _ (split_bad proto_items s c k c₁ (params left (tokens_at s at)) e))

  pub protos_good : (r j : ℕ) (c₁ : List ℕ) → outcome s (Some r) (placed j c₁) ≡ emits proto_items c k (params left (tokens_at s at))
      → (o : Done) → o ≡ emits layer_items c₁ j (suffixes left named (tokens_at s r)) → o ≡ emits layer_items c k P
  unfolding protos layer_items
  protos_good r j c₁ e o q =
      let w = split proto_items s c k r j c₁ (params left (tokens_at s at)) e in
      through
      layer_items
      s
      c
      k
      o
      P
      _
      (suffix_on c k j c₁ (proto w.value named) left (tokens_at s r) o w.stores q)
      (then_reads (params left (tokens_at s at)) w.value (tokens_at s r) _ w.reads_it)

-- what holds of all that is read
abbrev All : {A : Type 0} → (A → Type 0) → Reads Span A → Type 0
All Q (reads a ts) = Q a
All Q fails = Unit {0}

all_elim : {A : Type 0} → (Q : A → Type 0) (b : Bool) (x y : Reads Span A) → All Q x → All Q y → All Q (elim b [ true ↦ x | false ↦ y ])
all_elim Q true x y p q = p
all_elim Q false x y p q = q

all_then : {A B : Type 0} → (Q : B → Type 0) (m : Reads Span A) (k : A → Ts → Reads Span B) → ((a : A) (ts : Ts) → All Q (k a ts)) → All Q (and_then m k)
unfolding and_then
all_then Q (reads a ts) k h = h a ts
all_then Q fails k h = tt

abbrev Any : Params Span → Type 0
Any ps = (base_kind ps ≡ 6) × (any_params ps ≡ 1)

list_all : (f : ℕ) (ts : Ts) → All Any (param_list f ts)
unfolding param_list read_base
list_all zero ts = tt
list_all (suc f) ts =
    all_elim
    Any
    (void_before 41 ts || void_before 44 ts)
    fails
    _
    tt
    (all_elim
    Any
    (distinct (qual_run ts) && is_base (word_run false (after_quals ts)))
    _
    fails
    (all_then Any (declarator f false (after_words false (after_quals ts))) _ (λ l vs. all_then Any (param_end f vs) _ (λ ps xs. (refl, refl))))
    tt)

all_eq : {A : Type 0} → (Q : A → Type 0) (m m' : Reads Span A) → m ≡ m' → All Q m' → All Q m
all_eq Q m m' e p = rw e p

all_map : {A : Type 0} → (Q R : A → Type 0) (m : Reads Span A) → ((a : A) → Q a → R a) → All Q m → All R m
all_map Q R (reads a ts) h p = h a p
all_map Q R fails h p = tt

end_all : (f : ℕ) (ts : Ts) (b : Bool) → begins 44 ts ≡ b → All (λ ps. base_kind ps ≡ base_code b) (param_end f ts)
unfolding param_end wanted
end_all zero ts b e = tt
end_all (suc f) ts true e =
    all_eq
    (λ ps. base_kind ps ≡ 6)
    (param_end (suc f) ts)
    _
    (passed
    (begins 44 ts)
    (elim (begins 46 (rest ts)) [ true ↦ wanted 41 (rest (rest ts)) (λ us. reads dots us) | false ↦ param_list f (rest ts) ])
    (wanted 41 ts (λ us. reads closed us))
    e)
    (all_elim
    (λ ps. base_kind ps ≡ 6)
    (begins 46 (rest ts))
    _
    _
    (all_elim (λ ps. base_kind ps ≡ 6) (begins 41 (rest (rest ts))) _ fails refl tt)
    (all_map Any (λ ps. base_kind ps ≡ 6) (param_list f (rest ts)) (λ ps p. p.0) (list_all f (rest ts))))
end_all (suc f) ts false e =
    all_eq
    (λ ps. base_kind ps ≡ 1)
    (param_end (suc f) ts)
    _
    (failed
    (begins 44 ts)
    (elim (begins 46 (rest ts)) [ true ↦ wanted 41 (rest (rest ts)) (λ us. reads dots us) | false ↦ param_list f (rest ts) ])
    (wanted 41 ts (λ us. reads closed us))
    e)
    (all_elim (λ ps. base_kind ps ≡ 1) (begins 41 ts) _ fails refl tt)

-- a parameter's base
module _ (s : List ℕ) (at : ℕ) (left : ℕ) (c : List ℕ) (k : ℕ) (b : Base) (t : Tok) (l : Looked s at t) where
  behind_kind : (y : Bool) → begins 44 (tokens_at s at) ≡ y → (m : ℕ) (c₁ : List ℕ) → placed m c₁ ≡ placing c k (base_items b (base_code y))
      → (o : Done) → o ≡ emits param_items c₁ m (param_end left (tokens_at s at)) → o ≡ emits (behind_items b) c k (param_end left (tokens_at s at))
  unfolding emits
  behind_kind y e m c₁ p o q = q ∙ go (param_end left (tokens_at s at)) (end_all left (tokens_at s at) y e)
    where
      go : (x : Reads Span (Params Span)) → All (λ ps. base_kind ps ≡ base_code y) x → emits param_items c₁ m x ≡ emits (behind_items b) c k x
      go (reads ps us) h =
          ap
          (done us)
          (ap (λ (z : Placed). on z (param_items ps)) (p ∙ ap (λ (j : ℕ). placing c k (base_items b j)) (sym h)) ∙ sym (placing_on c k (base_items b (base_kind ps)) (param_items ps)))
      go fails h = refl

  pub behind_base : (y : Bool) → y ≡ is_mark_kind 44 t.kind → (m : ℕ) (c₁ : List ℕ) → placed m c₁ ≡ placing c k (base_items b (base_code y))
      → (o : Done) → o ≡ emits param_items c₁ m (param_end left (tokens_at s at)) → o ≡ emits (behind_items b) c k (param_end left (tokens_at s at))
  behind_base y h = behind_kind y (begins_kind 44 (tokens_at s at) ∙ ap (is_mark_kind 44) (sym l.kind_is) ∙ sym h)

-- behind `...`
module _ (s : List ℕ) (at : ℕ) (c : List ℕ) (k : ℕ) (t : Tok) (l : Looked s at t) where
  pub dots_open : is_mark_kind 41 t.kind ≡ false → (c' : Placed) → outcome s None c' ≡ emits param_items c k (dots_end (tokens_at s at))
  unfolding dots_end
  dots_open f c' = bad param_items s c k c' (dots_end (tokens_at s at)) (wants_not s at t l 41 _ f)

  pub dots_good : is_mark_kind 41 t.kind ≡ true → (z : ℕ) (c₁ : List ℕ) → placed z c₁ ≡ placing c k (item 1 0 0 ∷ []) → outcome s (Some t.end) (placed z c₁) ≡ emits param_items c k (dots_end (tokens_at s at))
  unfolding dots_end param_items
  dots_good f z c₁ e = good param_items s c k t.end z c₁ dots (dots_end (tokens_at s at)) (wants s at t l 41 _ f) e

-- behind a parameter
module _ (s : List ℕ) (at : ℕ) (left : ℕ) (c : List ℕ) (k : ℕ) where
  abbrev E : Reads Span (Params Span)
  E = param_end left (tokens_at s at)

  pub end_zero : (1 ≤ left → ⊥) → (c' : Placed) → outcome s None c' ≡ emits param_items c k E
  unfolding param_end
  end_zero e c' = bad param_items s c k c' E (ap (λ (f : ℕ). param_end f (tokens_at s at)) (none_left left e))

  module _ (less : ℕ) (ok : (1 ≤ left) × (less ≡ left - 1)) (t : Tok) (l : Looked s at t) where
    unrolled : E ≡ param_end (suc less) (tokens_at s at)
    unrolled = ap (λ (f : ℕ). param_end f (tokens_at s at)) (one_less left less ok)

    module _ (n₁ : is_mark_kind 44 t.kind ≡ false) where
      closing : E ≡ wanted 41 (tokens_at s at) (λ us. reads closed us)
      unfolding param_end
      closing = unrolled ∙ failed (begins 44 (tokens_at s at)) _ (wanted 41 (tokens_at s at) (λ us. reads closed us)) (misses s at t l 44 n₁)

      pub end_open : is_mark_kind 41 t.kind ≡ false → (c' : Placed) → outcome s None c' ≡ emits param_items c k E
      end_open f c' = bad param_items s c k c' E (closing ∙ wants_not s at t l 41 _ f)

      pub end_close : is_mark_kind 41 t.kind ≡ true → outcome s (Some t.end) (placed k c) ≡ emits param_items c k E
      unfolding param_items placing
      end_close f = good param_items s c k t.end k c closed E (closing ∙ wants s at t l 41 _ f) refl

    module _ (y : is_mark_kind 44 t.kind ≡ true) (u : Tok) (m : Looked s t.end u) where
      more : E ≡ elim (begins 46 (rest (tokens_at s at))) [ true ↦ dots_end (rest (rest (tokens_at s at))) | false ↦ param_list less (rest (tokens_at s at)) ]
      unfolding param_end dots_end
      more = unrolled ∙ passed (begins 44 (tokens_at s at)) _ (wanted 41 (tokens_at s at) (λ us. reads closed us)) (sees s at t l 44 y)

      next : begins 46 (rest (tokens_at s at)) ≡ begins 46 (tokens_at s t.end)
      next = ap (begins 46) (sym l.rest_is)

      pub end_dots : is_mark_kind 46 u.kind ≡ true → (o : Done) → o ≡ emits param_items c k (dots_end (tokens_at s u.end)) → o ≡ emits param_items c k E
      end_dots f o q =
          through
          param_items
          s
          c
          k
          o
          E
          _
          q
          (more
          ∙ passed (begins 46 (rest (tokens_at s at))) (dots_end (rest (rest (tokens_at s at)))) _ (next ∙ sees s t.end u m 46 f)
          ∙ ap dots_end (ap rest (sym l.rest_is) ∙ sym m.rest_is))

      pub end_list : is_mark_kind 46 u.kind ≡ false → (o : Done) → o ≡ emits param_items c k (param_list less (tokens_at s t.end)) → o ≡ emits param_items c k E
      end_list f o q =
          through
          param_items
          s
          c
          k
          o
          E
          _
          q
          (more
          ∙ failed (begins 46 (rest (tokens_at s at))) (dots_end (rest (rest (tokens_at s at)))) _ (next ∙ misses s t.end u m 46 f)
          ∙ ap (param_list less) (sym l.rest_is))

-- a prototype's parameters
module _ (s : List ℕ) (at : ℕ) (left : ℕ) (c : List ℕ) (k : ℕ) where
  abbrev R : Reads Span (Params Span)
  R = params left (tokens_at s at)

  pub params_zero : (1 ≤ left → ⊥) → (c' : Placed) → outcome s None c' ≡ emits proto_items c k R
  unfolding params
  params_zero e c' = bad proto_items s c k c' R (ap (λ (f : ℕ). params f (tokens_at s at)) (none_left left e))

  module _ (less : ℕ) (ok : (1 ≤ left) × (less ≡ left - 1)) (t : Tok) (l : Looked s at t) where
    rolled : R ≡ params (suc less) (tokens_at s at)
    rolled = ap (λ (f : ℕ). params f (tokens_at s at)) (one_less left less ok)

    pub params_close : is_mark_kind 41 t.kind ≡ true → (z : ℕ) (c₁ : List ℕ) → placed z c₁ ≡ placing c k (item 4 0 0 ∷ []) → outcome s (Some t.end) (placed z c₁) ≡ emits proto_items c k R
    unfolding params param_items
    params_close f z c₁ e =
        good
        proto_items
        s
        c
        k
        t.end
        z
        c₁
        closed
        R
        (rolled ∙ passed (begins 41 (tokens_at s at)) (reads closed (rest (tokens_at s at))) _ (sees s at t l 41 f) ∙ ap (reads closed) (sym l.rest_is))
        e

    module _ (n₁ : is_mark_kind 41 t.kind ≡ false) (v : Bool) (ev : v ≡ void_before 41 (tokens_at s at)) where
      listed : R ≡ elim (void_before 41 (tokens_at s at)) [ true ↦ reads closed (rest (rest (tokens_at s at))) | false ↦ param_list less (tokens_at s at) ]
      unfolding params
      listed = rolled ∙ failed (begins 41 (tokens_at s at)) (reads closed (rest (tokens_at s at))) _ (misses s at t l 41 n₁)

      void_is : void_before 41 (tokens_at s at) ≡ v
      void_is = sym ev

      pub params_void : v ≡ true → (u : Tok) → Looked s t.end u → (z : ℕ) (c₁ : List ℕ) → placed z c₁ ≡ placing c k (item 4 0 0 ∷ [])
          → outcome s (Some u.end) (placed z c₁) ≡ emits proto_items c k R
      unfolding param_items
      params_void f u m z c₁ e =
          good
          proto_items
          s
          c
          k
          u.end
          z
          c₁
          closed
          R
          (listed
          ∙ passed (void_before 41 (tokens_at s at)) (reads closed (rest (rest (tokens_at s at)))) _ (void_is ∙ f)
          ∙ ap (reads closed) (ap rest (sym l.rest_is) ∙ sym m.rest_is))
          e

      pub params_list : v ≡ false → (z : ℕ) (c₁ : List ℕ) → placed z c₁ ≡ placing c k (item 4 1 0 ∷ [])
          → (o : Done) → o ≡ emits param_items c₁ z (param_list less (tokens_at s at)) → o ≡ emits proto_items c k R
      unfolding emits
      params_list f z c₁ p o q =
          q
          ∙ go (param_list less (tokens_at s at)) (list_all less (tokens_at s at))
          ∙ sym (ap (emits proto_items c k) (listed ∙ failed (void_before 41 (tokens_at s at)) (reads closed (rest (rest (tokens_at s at)))) _ (void_is ∙ f)))
        where
          go : (x : Reads Span (Params Span)) → All Any x → emits param_items c₁ z x ≡ emits proto_items c k x
          go (reads ps us) h =
              ap
              (done us)
              (ap (λ (y : Placed). on y (param_items ps)) (p ∙ ap (λ (j : ℕ). placing c k (item 4 j 0 ∷ [])) (sym h.1))
              ∙ sym (placing_on c k (item 4 (any_params ps) 0 ∷ []) (param_items ps)))
          go fails h = refl

-- one parameter or more
pub base_items_lem : (b : Base) (q : List Qualifier) (ws : List Span) → quals_of b.quals ≡ q → b.start ≡ first_from ws → b.end ≡ last_to ws
    → (kind : ℕ) (is : List Item) → base_items b kind ++ is ≡ qual_items q ++ (base_item kind ws ∷ is)
base_items_lem b q ws e₁ e₂ e₃ kind is =
    append_assoc (qual_items (quals_of b.quals)) (item kind b.start (b.end - b.start) ∷ []) is
    ∙ ap (λ (x : List Qualifier). qual_items x ++ (item kind b.start (b.end - b.start) ∷ is)) e₁
    ∙ ap (λ (x : ℕ). qual_items q ++ (item kind x (b.end - x) ∷ is)) e₂
    ∙ ap (λ (x : ℕ). qual_items q ++ (item kind (first_from ws) (x - first_from ws) ∷ is)) e₃

module _ (s : List ℕ) (at : ℕ) (left : ℕ) (c : List ℕ) (k : ℕ) where
  abbrev Q : Reads Span (Params Span)
  Q = param_list left (tokens_at s at)

  pub list_zero : (1 ≤ left → ⊥) → (c' : Placed) → outcome s None c' ≡ emits param_items c k Q
  unfolding param_list
  list_zero e c' = bad param_items s c k c' Q (ap (λ (f : ℕ). param_list f (tokens_at s at)) (none_left left e))

  module _ (less : ℕ) (ok : (1 ≤ left) × (less ≡ left - 1)) (v₁ : Bool) (e₁ : v₁ ≡ void_before 41 (tokens_at s at)) where
    opens : Q ≡ param_list (suc less) (tokens_at s at)
    opens = ap (λ (f : ℕ). param_list f (tokens_at s at)) (one_less left less ok)

    is_41 : void_before 41 (tokens_at s at) ≡ v₁
    is_41 = sym e₁

    pub list_void : v₁ ≡ true → (c' : Placed) → outcome s None c' ≡ emits param_items c k Q
    unfolding param_list
    list_void f c' = bad param_items s c k c' Q (opens ∙ passed (void_before 41 (tokens_at s at) || void_before 44 (tokens_at s at)) fails _ (rw (is_41 ∙ f)))

    module _ (n₁ : v₁ ≡ false) (v₂ : Bool) (e₂ : v₂ ≡ void_before 44 (tokens_at s at)) where
      is_44 : void_before 44 (tokens_at s at) ≡ v₂
      is_44 = sym e₂

      pub list_void_more : v₂ ≡ true → (c' : Placed) → outcome s None c' ≡ emits param_items c k Q
      unfolding param_list
      list_void_more f c' =
          bad param_items s c k c' Q (opens ∙ passed (void_before 41 (tokens_at s at) || void_before 44 (tokens_at s at)) fails _ (rw (is_41 ∙ n₁, is_44 ∙ f)))

      module _ (n₂ : v₂ ≡ false) where
        abbrev us : Ts
        us = after_words false (after_quals (tokens_at s at))

        abbrev ws : List Span
        ws = words_of (word_run false (after_quals (tokens_at s at)))

        abbrev K : ℕ → Reads Span (Params Span)
        K f = and_then (declarator f false us) (λ l vs. and_then (param_end f vs) (λ ps xs. reads (param (qual_run (tokens_at s at)) ws l ps) xs))

        based : Q ≡ elim (begins_base s at false) [ true ↦ K less | false ↦ fails ]
        unfolding param_list read_base begins_base
        based = opens ∙ failed (void_before 41 (tokens_at s at) || void_before 44 (tokens_at s at)) fails _ (rw (is_41 ∙ n₁, is_44 ∙ n₂))

        pub list_baseless : BaseAt s at false None → (c' : Placed) → outcome s None c' ≡ emits param_items c k Q
        list_baseless f c' = bad param_items s c k c' Q (based ∙ failed _ (K less) fails f)

        module _ (b : Base) (a : BaseOf s at false b) where
          here : Q ≡ K less
          here = based ∙ passed _ (K less) fails a.begun

          same : declarator less false us ≡ declarator less false (tokens_at s b.end)
          same = ap (declarator less false) (sym a.rest_is)

          pub list_fails : (c₁ : Placed) → outcome s None c₁ ≡ emits layer_items c k (declarator less false (tokens_at s b.end)) → outcome s None c₁ ≡ emits param_items c k Q
          list_fails c₁ e =
              bad
              param_items
              s
              c
              k
              c₁
              Q
              (here ∙ then_fails (declarator less false us) _ (same ∙ split_bad layer_items s c k c₁ (declarator less false (tokens_at s b.end)) e))

          pub list_good : (r j : ℕ) (c₁ : List ℕ) → outcome s (Some r) (placed j c₁) ≡ emits layer_items c k (declarator less false (tokens_at s b.end))
              → (o : Done) → o ≡ emits (behind_items b) c₁ j (param_end less (tokens_at s r)) → o ≡ emits param_items c k Q
          unfolding emits and_then param_items
          list_good r j c₁ e o q = q ∙ go (param_end less (tokens_at s r)) ∙ sym (ap (emits param_items c k) read_it)
            where
              w : Read layer_items s r j c₁ c k (declarator less false (tokens_at s b.end))
              w = split layer_items s c k r j c₁ (declarator less false (tokens_at s b.end)) e

              read_it : Q ≡ and_then (param_end less (tokens_at s r)) (λ ps xs. reads (param (qual_run (tokens_at s at)) ws w.value ps) xs)
              read_it = here ∙ then_reads (declarator less false us) w.value (tokens_at s r) _ (same ∙ w.reads_it)

              go : (x : Reads Span (Params Span)) → emits (behind_items b) c₁ j x ≡ emits param_items c k (and_then x (λ ps xs. reads (param (qual_run (tokens_at s at)) ws w.value ps) xs))
              go (reads ps xs) =
                  ap
                  (done xs)
                  (ap
                  (placing c₁ j)
                  (base_items_lem b (qual_run (tokens_at s at)) ws a.quals_are a.from_is a.to_is (base_kind ps) (param_items ps))
                  ∙ ap (λ (z : Placed). on z (qual_items (qual_run (tokens_at s at)) ++ (base_item (base_kind ps) ws ∷ param_items ps))) w.stores
                  ∙ sym (placing_on c k (layer_items w.value) (qual_items (qual_run (tokens_at s at)) ++ (base_item (base_kind ps) ws ∷ param_items ps))))
              go fails = refl
