-- The new names that the code writes are the names stored by first mention. Assumes nothing.
use Prim.Native.Nat.{ℕ, zero, suc, ◌%◌}
use mathlib.Core.Path.{◌≡◌, refl, sym, ◌∙◌, ap}
use mathlib.Core.Bool.{Bool, true, false, not}
use mathlib.Core.List.{List, [], ◌∷◌, ◌++◌, append_assoc}
use lib.ListN.{get_or}
use lib.Dec.{eqb}
use Rattle.std.proofs.lemmas.List.{append-nil}
use Rattle.spec_linux_btf.specs.Documentation.{encode_strings}
use Rattle.spec_c_dumper.specs.rules.Types.{Name, is_empty}
use Rattle.spec_c_dumper.specs.rules.Names.{same_bytes}
use Rattle.spec_type_table.specs.declared.types.TypeTable.{TypeTable}
use Rattle.spec_type_table.specs.Names.{str_at}
use Rattle.btf_open_causes.specs.references.Followed.{entry_at}
use Rattle.spec_cut.specs.section.Strings.{has, first_names}
use Rattle.session_cut_marks.specs.roles.Words.{role, words_in, word_of}
use Rattle.session_cut_marks.specs.mentioned.Names.{is_name, or_name, named_to, mentions, or_mentions, mentioned_to, is_new}
use Rattle.session_cut_marks.specs.mentioned.Strings.{name_bytes, names_bytes, own_bytes, news_bytes, strings_bytes}
use Rattle.session_cut.specs.stored.Mentioned.{store, stored, or_else, word_name, names_to, kept_names, names_before}
use Rattle.session_cut.proofs.stored.Store.{store_append, has_append, has_one, has_stored, strings_add}

module _ (b : TypeTable) (s : List ℕ) where
  -- ---- a name among those of a record

  word_has : (e off j : ℕ) → is_name b s e off j ≡ has (word_name b s e j) (str_at b s off)
  unfolding is_name word_name has
  word_has e off j = go (eqb (role (e % 32) j) 1)
    where
      go : (q : Bool) → elim q as (λ z. Bool) [ true ↦ same_bytes (str_at b s (word_of b s e j)) (str_at b s off) | false ↦ false ]
          ≡ has (elim q as (λ z. List Name) [ true ↦ str_at b s (word_of b s e j) ∷ [] | false ↦ [] ]) (str_at b s off)
      go true = sym (has_one (str_at b s (word_of b s e j)) (str_at b s off))
      go false = refl

  pub named_is : (e off n : ℕ) → named_to b s e off n ≡ has (names_to b s e n) (str_at b s off)
  unfolding named_to or_name names_to has
  named_is e off zero = refl
  named_is e off (suc n) =
      (λ t. or_else (named_is e off n t) (word_has e off n t))
      ∙ sym (has_append (names_to b s e n) (word_name b s e n) (str_at b s off))

  module _ (start ids : List ℕ) where
    kept_has : (off y : ℕ) → mentions b s start ids off y ≡ has (kept_names b s start ids y) (str_at b s off)
    unfolding mentions kept_names has
    kept_has off y = go (eqb (get_or ids y 0) 0)
      where
        go : (q : Bool) → elim q as (λ z. Bool) [ true ↦ false | false ↦ named_to b s (entry_at b start y) off (words_in b s (entry_at b start y)) ]
            ≡ has (elim q as (λ z. List Name) [ true ↦ [] | false ↦ names_to b s (entry_at b start y) (words_in b s (entry_at b start y)) ]) (str_at b s off)
        go true = refl
        go false = named_is (entry_at b start y) off (words_in b s (entry_at b start y))

    pub mentioned_is : (off x : ℕ) → mentioned_to b s start ids off x ≡ has (names_before b s start ids x) (str_at b s off)
    unfolding mentioned_to or_mentions names_before has
    mentioned_is off zero = refl
    mentioned_is off (suc x) =
        (λ t. or_else (mentioned_is off x t) (kept_has off x t))
        ∙ sym (has_append (names_before b s start ids x) (kept_names b s start ids x) (str_at b s off))

    -- ---- a new name

    -- what is stored before word j of type x
    abbrev pub before : ℕ → ℕ → ℕ → List Name
    before x e j = names_before b s start ids x ++ names_to b s e j

    pub stored_has : (x e j off : ℕ) → has (stored (before x e j)) (str_at b s off) ≡ or_else (is_empty (str_at b s off)) (or_else (mentioned_to b s start ids off x) (named_to b s e off j))
    stored_has x e j off =
        has_stored (before x e j) (str_at b s off)
        ∙ ap (or_else (is_empty (str_at b s off)))
        (has_append (names_before b s start ids x) (names_to b s e j) (str_at b s off) ∙ (λ t. or_else (sym (mentioned_is off x) t) (sym (named_is e off j) t)))

    new_is : (x e j : ℕ) → eqb (role (e % 32) j) 1 ≡ true → is_new b s start ids x e j ≡ not (has (stored (before x e j)) (str_at b s (word_of b s e j)))
    unfolding is_new
    new_is x e j r =
        ap (λ (q : Bool). elim q as (λ z. Bool) [ false ↦ false | true ↦ elim (is_empty (str_at b s (word_of b s e j))) as (λ z. Bool) [ true ↦ false | false ↦ elim (mentioned_to b s start ids (word_of b s e j) x) as (λ z. Bool) [ true ↦ false | false ↦ not (named_to b s e (word_of b s e j) j) ] ] ]) r
        ∙ go (is_empty (str_at b s (word_of b s e j))) (mentioned_to b s start ids (word_of b s e j) x) (named_to b s e (word_of b s e j) j)
        ∙ sym (ap not (stored_has x e j (word_of b s e j)))
      where
        go : (p q t : Bool) → elim p as (λ z. Bool) [ true ↦ false | false ↦ elim q as (λ z. Bool) [ true ↦ false | false ↦ not t ] ] ≡ not (or_else p (or_else q t))
        go true q t = refl
        go false true t = refl
        go false false t = refl

    new_none : (x e j : ℕ) → eqb (role (e % 32) j) 1 ≡ false → is_new b s start ids x e j ≡ false
    unfolding is_new
    new_none x e j r =
        ap (λ (q : Bool). elim q as (λ z. Bool) [ false ↦ false | true ↦ elim (is_empty (str_at b s (word_of b s e j))) as (λ z. Bool) [ true ↦ false | false ↦ elim (mentioned_to b s start ids (word_of b s e j) x) as (λ z. Bool) [ true ↦ false | false ↦ not (named_to b s e (word_of b s e j) j) ] ] ]) r

    -- ---- the bytes

    -- those of one word
    word_bytes_lem : (x e j : ℕ) → encode_strings (store (stored (before x e j)) (word_name b s e j)) ≡ encode_strings (stored (before x e j)) ++ name_bytes b s start ids x e j
    unfolding word_name store name_bytes
    word_bytes_lem x e j = go (eqb (role (e % 32) j) 1) refl
      where
        none : is_new b s start ids x e j ≡ false → ◌≡◌ {A = List ℕ} (elim (is_new b s start ids x e j) [ true ↦ str_at b s (word_of b s e j) ++ (0 ∷ []) | false ↦ [] ]) []
        none f = ap (λ (q : Bool). elim q as (λ z. List ℕ) [ true ↦ str_at b s (word_of b s e j) ++ (0 ∷ []) | false ↦ [] ]) f

        by : (q : Bool) → ◌≡◌ {A = List ℕ} (elim q [ true ↦ [] | false ↦ str_at b s (word_of b s e j) ++ (0 ∷ []) ]) (elim (not q) [ true ↦ str_at b s (word_of b s e j) ++ (0 ∷ []) | false ↦ [] ])
        by true = refl
        by false = refl

        go : (q : Bool) → eqb (role (e % 32) j) 1 ≡ q
            → encode_strings (store (stored (before x e j)) (elim q as (λ z. List Name) [ true ↦ str_at b s (word_of b s e j) ∷ [] | false ↦ [] ]))
            ≡ encode_strings (stored (before x e j)) ++ (elim (is_new b s start ids x e j) as (λ z. List ℕ) [ true ↦ str_at b s (word_of b s e j) ++ (0 ∷ []) | false ↦ [] ])
        go true r =
            strings_add (stored (before x e j)) (str_at b s (word_of b s e j))
            ∙ ap (λ (l : List ℕ). encode_strings (stored (before x e j)) ++ l)
            (by (has (stored (before x e j)) (str_at b s (word_of b s e j)))
            ∙ sym (ap (λ (q : Bool). elim q as (λ z. List ℕ) [ true ↦ str_at b s (word_of b s e j) ++ (0 ∷ []) | false ↦ [] ]) (new_is x e j r)))
        go false r = sym (ap (λ (l : List ℕ). encode_strings (stored (before x e j)) ++ l) (none (new_none x e j r)) ∙ append-nil (encode_strings (stored (before x e j))))

    step_bytes : (x e j : ℕ) → encode_strings (stored (before x e (suc j))) ≡ encode_strings (stored (before x e j)) ++ name_bytes b s start ids x e j
    unfolding names_to
    step_bytes x e j =
        ap (λ (l : List Name). encode_strings (stored l)) (sym (append_assoc (names_before b s start ids x) (names_to b s e j) (word_name b s e j)))
        ∙ ap encode_strings (store_append first_names (before x e j) (word_name b s e j))
        ∙ word_bytes_lem x e j

    zero_bytes : (x e : ℕ) → encode_strings (stored (before x e zero)) ≡ encode_strings (stored (names_before b s start ids x)) ++ []
    unfolding names_to
    zero_bytes x e = ap (λ (l : List Name). encode_strings (stored l)) (append-nil (names_before b s start ids x)) ∙ sym (append-nil (encode_strings (stored (names_before b s start ids x))))

    -- those of the first n words
    pub names_bytes_lem : (x e n : ℕ) → encode_strings (stored (before x e n)) ≡ encode_strings (stored (names_before b s start ids x)) ++ names_bytes b s start ids x e n
    unfolding names_bytes
    names_bytes_lem x e zero = zero_bytes x e
    names_bytes_lem x e (suc n) =
        step_bytes x e n
        ∙ ap (λ (l : List ℕ). l ++ name_bytes b s start ids x e n) (names_bytes_lem x e n)
        ∙ append_assoc (encode_strings (stored (names_before b s start ids x))) (names_bytes b s start ids x e n) (name_bytes b s start ids x e n)

    -- those of a type
    own_bytes_lem : (x : ℕ) → encode_strings (stored (names_before b s start ids x ++ kept_names b s start ids x)) ≡ encode_strings (stored (names_before b s start ids x)) ++ own_bytes b s start ids x
    unfolding kept_names own_bytes names_to
    own_bytes_lem x = go (eqb (get_or ids x 0) 0)
      where
        go : (q : Bool) → encode_strings (stored (names_before b s start ids x ++ (elim q as (λ z. List Name) [ true ↦ [] | false ↦ names_to b s (entry_at b start x) (words_in b s (entry_at b start x)) ])))
            ≡ encode_strings (stored (names_before b s start ids x)) ++ (elim q as (λ z. List ℕ) [ true ↦ [] | false ↦ names_bytes b s start ids x (entry_at b start x) (words_in b s (entry_at b start x)) ])
        go true = zero_bytes x 0
        go false = names_bytes_lem x (entry_at b start x) (words_in b s (entry_at b start x))

    -- THE STRINGS: the leading 0 and the new names of the types before x
    pub strings_are : (x : ℕ) → encode_strings (stored (names_before b s start ids x)) ≡ strings_bytes b s start ids x
    unfolding strings_bytes news_bytes names_before store encode_strings
    strings_are zero = refl
    strings_are (suc x) =
        own_bytes_lem x
        ∙ ap (λ (l : List ℕ). l ++ own_bytes b s start ids x) (strings_are x)
        ∙ append_assoc (0 ∷ []) (news_bytes b s start ids x) (own_bytes b s start ids x)
