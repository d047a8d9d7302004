-- The grammar of declarators and parameters, "by the C precedence of brackets, parentheses and stars alone".
use Rattle.std.specs.Prelude.{ℕ, zero, suc, Bool, true, false, ◌&&◌, ◌||◌, List, [], ◌∷◌}
use Rattle.spec_c_dumper.specs.rules.Types.{Qualifier}
use Rattle.session_declaration_reader.specs.tokens.Tokens.{Token, qual, word, number, mark, rest}
use Rattle.session_declaration_reader.specs.bases.Bases.{Spelt, distinct, begins, begins_word, bracketed, qual_run, after_quals, word_run}
use Rattle.session_declaration_reader.specs.bases.Bases.{after_words, is_base, words_of, void_before}
use Rattle.session_declaration_reader.specs.grammar.Chain.{Layers, named, pointer, array, proto, Params, closed, dots, param}

-- what reading comes to: a value and the tokens behind it, or no such declaration
pub data Reads (W A : Type 0) : Type 0 where
  reads : A → List (Token W) → Reads W A
  fails : Reads W A

module _ {W : Type 0} where
  unfoldable pub and_then : {A B : Type 0} → Reads W A → (A → List (Token W) → Reads W B) → Reads W B
  and_then (reads a ts) k = k a ts
  and_then fails k = fails

  -- a base with its qualifiers before it, and what is read of the tokens behind it
  unfoldable pub read_base : {A : Type 0} → Bool → List (Token W) → (List Qualifier → List (Spelt W) → List (Token W) → Reads W A)
      → Reads W A
  read_base n ts k =
      elim (distinct (qual_run ts) && is_base (word_run n (after_quals ts))) [
        | true ↦ k (qual_run ts) (word_run n (after_quals ts)) (after_words n (after_quals ts))
        | false ↦ fails
      ]

  -- what follows a mark
  unfoldable pub wanted : {A : Type 0} → ℕ → List (Token W) → (List (Token W) → Reads W A) → Reads W A
  wanted m ts k = elim (begins m ts) [ true ↦ k (rest ts) | false ↦ fails ]

  -- what follows the declared name, or the place of one that is left out
  unfoldable pub wanted_name : {A : Type 0} → Bool → List (Token W) → (List (Token W) → Reads W A) → Reads W A
  wanted_name n ts k = elim n [ false ↦ k ts | true ↦ elim (begins_word ts) [ true ↦ k (rest ts) | false ↦ fails ] ]

  -- a count and the closing bracket
  unfoldable pub wanted_count : {A : Type 0} → List (Token W) → (ℕ → List (Token W) → Reads W A) → Reads W A
  wanted_count [] k = fails
  wanted_count (qual q ∷ ts) k = fails
  wanted_count (word j w ∷ ts) k = fails
  wanted_count (number n ∷ ts) k = wanted 93 ts (k n)
  wanted_count (mark b ∷ ts) k = fails

  -- The grammar. The first number bounds the calls that are open at once; n says whether a name is wanted.
  unfoldable mutual
    -- a star and its qualifiers before a declarator; or a declarator in parentheses, or the name, with what stands behind it
    pub declarator : ℕ → Bool → List (Token W) → Reads W (Layers W)
    declarator zero n ts = fails
    declarator (suc f) n ts =
        elim (begins 42 ts) [
          | true ↦ elim (distinct (qual_run (rest ts))) [
            | true ↦ and_then (declarator f n (after_quals (rest ts))) (λ l us. reads (pointer (qual_run (rest ts)) l) us)
            | false ↦ fails
          ]
          | false ↦ elim (bracketed ts) [
            | true ↦ and_then (declarator f n (rest ts)) (λ l us. wanted 41 us (λ vs. suffixes f l vs))
            | false ↦ wanted_name n ts (λ us. suffixes f named us)
          ]
        ]

    -- the counts and parameter lists behind a declarator: they come before its stars
    pub suffixes : ℕ → Layers W → List (Token W) → Reads W (Layers W)
    suffixes zero l ts = fails
    suffixes (suc f) l ts =
        elim (begins 91 ts) [
          | true ↦ wanted_count (rest ts) (λ n us. suffixes f (array n l) us)
          | false ↦ elim (begins 40 ts) [
            | true ↦ and_then (params f (rest ts)) (λ ps us. suffixes f (proto ps l) us)
            | false ↦ reads l ts
          ]
        ]

    -- behind an opening parenthesis: "a lone void parameter and an empty list are one chain"
    pub params : ℕ → List (Token W) → Reads W (Params W)
    params zero ts = fails
    params (suc f) ts =
        elim (begins 41 ts) [
          | true ↦ reads closed (rest ts)
          | false ↦ elim (void_before 41 ts) [ true ↦ reads closed (rest (rest ts)) | false ↦ param_list f ts ]
        ]

    -- one parameter or more: "a `...` standing only last, after another, for void, and plain `void` only alone"
    pub param_list : ℕ → List (Token W) → Reads W (Params W)
    param_list zero ts = fails
    param_list (suc f) ts =
        elim (void_before 41 ts || void_before 44 ts) [
          | true ↦ fails
          | false ↦ read_base false ts (λ q ss us. and_then (declarator f false us)
              (λ l vs. and_then (param_end f vs) (λ ps xs. reads (param q (words_of ss) l ps) xs)))
        ]

    -- behind a parameter
    pub param_end : ℕ → List (Token W) → Reads W (Params W)
    param_end zero ts = fails
    param_end (suc f) ts =
        elim (begins 44 ts) [
          | false ↦ wanted 41 ts (λ us. reads closed us)
          | true ↦ elim (begins 46 (rest ts)) [
            | true ↦ wanted 41 (rest (rest ts)) (λ us. reads dots us)
            | false ↦ param_list f (rest ts)
          ]
        ]
