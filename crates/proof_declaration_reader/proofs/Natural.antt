-- Reading does not look at how a word is kept. Assumes nothing.
use Prim.Native.Nat.{ℕ, zero, suc, ◌+◌}
use mathlib.Core.Path.{◌≡◌, refl, ap, ◌∙◌}
use mathlib.Core.Bool.{Bool, true, false, ◌&&◌, ◌||◌}
use mathlib.Core.List.{List, [], ◌∷◌}
use lib.ListN.{length}
use lib.Dec.{leb}
use Rattle.spec_c_dumper.specs.rules.Types.{Qualifier}
use Rattle.session_declaration_reader.specs.grammar.Chain.{Layers, named, pointer, array, proto, Params, closed, dots, param, Chain, layer_entries, param_entries, entries}
use Rattle.session_declaration_reader.specs.tokens.Tokens.{Kind, tag_word, void_word, other_word, Token, qual, word, number, mark, rest}
use Rattle.session_declaration_reader.specs.grammar.Grammar.{Reads, reads, fails, and_then, read_base, wanted, wanted_name, wanted_count, declarator, suffixes, params, param_list, param_end}
use Rattle.session_declaration_reader.specs.bases.Bases.{Spelt, spelt, distinct, begins, begins_word, bracketed, qual_run, after_quals, ends_name, word_run, after_words, is_tag, no_tags, single, is_base, words_of, void_before}
use Rattle.session_declaration_reader.specs.reader.Reading.{most, read_tokens, within_most, whole}
use Rattle.proof_declaration_reader.specs.Places.{each_word, each_layer, each_param, each_chain, each_read}

-- a test on both sides
pub chosen : {A B : Type 0} (g : A → B) (a b : Bool) (x y : A) (p q : B) → a ≡ b → p ≡ g x → q ≡ g y
    → elim a [ true ↦ p | false ↦ q ] ≡ g (elim b [ true ↦ x | false ↦ y ])
chosen g a b x y p q e h k = rw e (go b)
  where
    go : (c : Bool) → elim c [ true ↦ p | false ↦ q ] ≡ g (elim c [ true ↦ x | false ↦ y ])
    go true = h
    go false = k

pub turned : {A B : Type 0} (g : A → B) (a b : Bool) (x y : A) (p q : B) → a ≡ b → p ≡ g x → q ≡ g y
    → elim a [ false ↦ p | true ↦ q ] ≡ g (elim b [ false ↦ x | true ↦ y ])
turned g a b x y p q e h k = chosen g a b y x q p e k h

module _ {U W : Type 0} (f : U → W) where
  abbrev pub each_token : Token U → Token W
  each_token (qual q) = qual q
  each_token (word k w) = word k (f w)
  each_token (number n) = number n
  each_token (mark b) = mark b

  abbrev pub each_of : List (Token U) → List (Token W)
  each_of [] = []
  each_of (t ∷ ts) = each_token t ∷ each_of ts

  abbrev each_spelt : List (Spelt U) → List (Spelt W)
  each_spelt [] = []
  each_spelt (spelt k w ∷ ss) = spelt k (f w) ∷ each_spelt ss

  abbrev pub each_reads : {A B : Type 0} → (A → B) → Reads U A → Reads W B
  each_reads g (reads a ts) = reads (g a) (each_of ts)
  each_reads g fails = fails

  begins_each : (m : ℕ) (ts : List (Token U)) → begins m (each_of ts) ≡ begins m ts
  unfolding begins
  begins_each m [] = refl
  begins_each m (qual q ∷ ts) = refl
  begins_each m (word k w ∷ ts) = refl
  begins_each m (number n ∷ ts) = refl
  begins_each m (mark b ∷ ts) = refl

  word_each : (ts : List (Token U)) → begins_word (each_of ts) ≡ begins_word ts
  unfolding begins_word
  word_each [] = refl
  word_each (qual q ∷ ts) = refl
  word_each (word k w ∷ ts) = refl
  word_each (number n ∷ ts) = refl
  word_each (mark b ∷ ts) = refl

  rest_each : (ts : List (Token U)) → rest (each_of ts) ≡ each_of (rest ts)
  unfolding rest
  rest_each [] = refl
  rest_each (t ∷ ts) = refl

  bracketed_each : (ts : List (Token U)) → bracketed (each_of ts) ≡ bracketed ts
  unfolding bracketed
  bracketed_each ts = rw (begins_each 40 ts, rest_each ts, begins_each 42 (rest ts))

  ends_each : (ts : List (Token U)) → ends_name (each_of ts) ≡ ends_name ts
  unfolding ends_name
  ends_each ts = rw (word_each ts, begins_each 42 ts, bracketed_each ts)

  quals_each : (ts : List (Token U)) → qual_run (each_of ts) ≡ qual_run ts
  unfolding qual_run
  quals_each [] = refl
  quals_each (qual q ∷ ts) = ap (λ (r : List Qualifier). q ∷ r) (quals_each ts)
  quals_each (word k w ∷ ts) = refl
  quals_each (number n ∷ ts) = refl
  quals_each (mark b ∷ ts) = refl

  after_each : (ts : List (Token U)) → after_quals (each_of ts) ≡ each_of (after_quals ts)
  unfolding after_quals
  after_each [] = refl
  after_each (qual q ∷ ts) = after_each ts
  after_each (word k w ∷ ts) = refl
  after_each (number n ∷ ts) = refl
  after_each (mark b ∷ ts) = refl

  run_each : (n : Bool) (ts : List (Token U)) → word_run n (each_of ts) ≡ each_spelt (word_run n ts)
  unfolding word_run
  run_each n [] = refl
  run_each n (qual q ∷ ts) = refl
  run_each n (word k w ∷ ts) =
      chosen each_spelt (n && ends_name (each_of ts)) (n && ends_name ts) [] (spelt k w ∷ word_run n ts) _ _ (ap (λ (b : Bool). n && b) (ends_each ts)) refl
      (ap (λ (ss : List (Spelt W)). spelt k (f w) ∷ ss) (run_each n ts))
  run_each n (number m ∷ ts) = refl
  run_each n (mark b ∷ ts) = refl

  words_each : (n : Bool) (ts : List (Token U)) → after_words n (each_of ts) ≡ each_of (after_words n ts)
  unfolding after_words
  words_each n [] = refl
  words_each n (qual q ∷ ts) = refl
  words_each n (word k w ∷ ts) =
      chosen each_of (n && ends_name (each_of ts)) (n && ends_name ts) (word k w ∷ ts) (after_words n ts) _ _ (ap (λ (b : Bool). n && b) (ends_each ts)) refl (words_each n ts)
  words_each n (number m ∷ ts) = refl
  words_each n (mark b ∷ ts) = refl

  tag_each : (k : Kind) (w : U) → is_tag (spelt k (f w)) ≡ is_tag (spelt k w)
  tag_each tag_word w = refl
  tag_each void_word w = refl
  tag_each other_word w = refl

  tags_each : (ss : List (Spelt U)) → no_tags (each_spelt ss) ≡ no_tags ss
  unfolding no_tags
  tags_each [] = refl
  tags_each (spelt k w ∷ ss) = rw (tag_each k w, tags_each ss)

  single_each : (ss : List (Spelt U)) → single (each_spelt ss) ≡ single ss
  unfolding single
  single_each [] = refl
  single_each (spelt k w ∷ []) = refl
  single_each (spelt k w ∷ spelt j v ∷ ss) = refl

  base_each : (ss : List (Spelt U)) → is_base (each_spelt ss) ≡ is_base ss
  unfolding is_base
  base_each [] = refl
  base_each (spelt k w ∷ ss) = chosen (λ (b : Bool). b) (is_tag (spelt k (f w))) (is_tag (spelt k w)) (single ss) (no_tags ss) _ _ (tag_each k w) (single_each ss) (tags_each ss)

  of_each : (ss : List (Spelt U)) → words_of (each_spelt ss) ≡ each_word f (words_of ss)
  unfolding words_of
  of_each [] = refl
  of_each (spelt k w ∷ ss) = ap (λ (ws : List W). f w ∷ ws) (of_each ss)

  void_each : (m : ℕ) (ts : List (Token U)) → void_before m (each_of ts) ≡ void_before m ts
  unfolding void_before
  void_each m [] = refl
  void_each m (qual q ∷ ts) = refl
  void_each m (word tag_word w ∷ ts) = refl
  void_each m (word void_word w ∷ ts) = begins_each m ts
  void_each m (word other_word w ∷ ts) = refl
  void_each m (number n ∷ ts) = refl
  void_each m (mark b ∷ ts) = refl

  module _ {A B : Type 0} (g : A → B) where
    base_reads : (n : Bool) (ts : List (Token U)) (k : List Qualifier → List (Spelt U) → List (Token U) → Reads U A) (j : List Qualifier → List (Spelt W) → List (Token W) → Reads W B)
        → ((q : List Qualifier) (ss : List (Spelt U)) (us : List (Token U)) → j q (each_spelt ss) (each_of us) ≡ each_reads g (k q ss us))
        → read_base n (each_of ts) j ≡ each_reads g (read_base n ts k)
    unfolding read_base
    base_reads n ts k j h =
        chosen
        (each_reads g)
        (distinct (qual_run (each_of ts)) && is_base (word_run n (after_quals (each_of ts))))
        (distinct (qual_run ts) && is_base (word_run n (after_quals ts)))
        _
        _
        _
        _
        (rw (quals_each ts, after_each ts, run_each n (after_quals ts), base_each (word_run n (after_quals ts))))
        (rw (quals_each ts, after_each ts, run_each n (after_quals ts), words_each n (after_quals ts)) (h (qual_run ts) (word_run n (after_quals ts)) (after_words n (after_quals ts))))
        refl

    then_each : {C D : Type 0} (c : C → D) (x : Reads U C) (y : Reads W D) (k : C → List (Token U) → Reads U A) (j : D → List (Token W) → Reads W B)
        → y ≡ each_reads c x → ((a : C) (us : List (Token U)) → j (c a) (each_of us) ≡ each_reads g (k a us)) → and_then y j ≡ each_reads g (and_then x k)
    unfolding and_then
    then_each {C} c x y k j e h = ap (λ z. and_then z j) e ∙ go x
      where
        go : (z : Reads U C) → and_then (each_reads c z) j ≡ each_reads g (and_then z k)
        go (reads a us) = h a us
        go fails = refl

    wanted_each : (m : ℕ) (ts : List (Token U)) (k : List (Token U) → Reads U A) (j : List (Token W) → Reads W B)
        → ((us : List (Token U)) → j (each_of us) ≡ each_reads g (k us)) → wanted m (each_of ts) j ≡ each_reads g (wanted m ts k)
    unfolding wanted
    wanted_each m ts k j h = chosen (each_reads g) (begins m (each_of ts)) (begins m ts) _ _ _ _ (begins_each m ts) (ap j (rest_each ts) ∙ h (rest ts)) refl

    name_each : (n : Bool) (ts : List (Token U)) (k : List (Token U) → Reads U A) (j : List (Token W) → Reads W B)
        → ((us : List (Token U)) → j (each_of us) ≡ each_reads g (k us)) → wanted_name n (each_of ts) j ≡ each_reads g (wanted_name n ts k)
    unfolding wanted_name
    name_each false ts k j h = h ts
    name_each true ts k j h = chosen (each_reads g) (begins_word (each_of ts)) (begins_word ts) _ _ _ _ (word_each ts) (ap j (rest_each ts) ∙ h (rest ts)) refl

    count_each : (ts : List (Token U)) (k : ℕ → List (Token U) → Reads U A) (j : ℕ → List (Token W) → Reads W B)
        → ((m : ℕ) (us : List (Token U)) → j m (each_of us) ≡ each_reads g (k m us)) → wanted_count (each_of ts) j ≡ each_reads g (wanted_count ts k)
    unfolding wanted_count
    count_each [] k j h = refl
    count_each (qual q ∷ ts) k j h = refl
    count_each (word i w ∷ ts) k j h = refl
    count_each (number n ∷ ts) k j h = wanted_each 93 ts (k n) (j n) (h n)
    count_each (mark b ∷ ts) k j h = refl

  star_quals : (ts : List (Token U)) → qual_run (rest (each_of ts)) ≡ qual_run (rest ts)
  star_quals ts = ap qual_run (rest_each ts) ∙ quals_each (rest ts)

  star_after : (ts : List (Token U)) → after_quals (rest (each_of ts)) ≡ each_of (after_quals (rest ts))
  star_after ts = ap after_quals (rest_each ts) ∙ after_each (rest ts)

  mutual
    unfolding declarator

    declarator_each : (h : ℕ) (n : Bool) (ts : List (Token U)) → declarator h n (each_of ts) ≡ each_reads (each_layer f) (declarator h n ts)
    declarator_each zero n ts = refl
    declarator_each (suc h) n ts =
        chosen (each_reads (each_layer f)) (begins 42 (each_of ts)) (begins 42 ts) _ _ _ _ (begins_each 42 ts)
        (chosen (each_reads (each_layer f)) (distinct (qual_run (rest (each_of ts)))) (distinct (qual_run (rest ts))) _ _ _ _ (ap distinct (star_quals ts))
        (then_each (each_layer f) (each_layer f) (declarator h n (after_quals (rest ts))) (declarator h n (after_quals (rest (each_of ts)))) _ _
        (ap (declarator h n) (star_after ts) ∙ declarator_each h n (after_quals (rest ts)))
        (λ l us. ap (λ q. reads (pointer q (each_layer f l)) (each_of us)) (star_quals ts))) refl)
        (chosen (each_reads (each_layer f)) (bracketed (each_of ts)) (bracketed ts) _ _ _ _ (bracketed_each ts)
        (then_each (each_layer f) (each_layer f) (declarator h n (rest ts)) (declarator h n (rest (each_of ts))) _ _ (ap (declarator h n) (rest_each ts) ∙ declarator_each h n (rest ts))
        (λ l us. wanted_each (each_layer f) 41 us _ _ (λ vs. suffixes_each h l vs)))
        (name_each (each_layer f) n ts _ _ (λ us. suffixes_each h named us)))

    suffixes_each : (h : ℕ) (l : Layers U) (ts : List (Token U)) → suffixes h (each_layer f l) (each_of ts) ≡ each_reads (each_layer f) (suffixes h l ts)
    suffixes_each zero l ts = refl
    suffixes_each (suc h) l ts =
        chosen (each_reads (each_layer f)) (begins 91 (each_of ts)) (begins 91 ts) _ _ _ _ (begins_each 91 ts)
        (rw (rest_each ts) (count_each (each_layer f) (rest ts) _ _ (λ m us. suffixes_each h (array m l) us)))
        (chosen (each_reads (each_layer f)) (begins 40 (each_of ts)) (begins 40 ts) _ _ _ _ (begins_each 40 ts)
        (then_each (each_layer f) (each_param f) (params h (rest ts)) (params h (rest (each_of ts))) _ _ (ap (params h) (rest_each ts) ∙ params_each h (rest ts)) (λ ps us. suffixes_each h (proto ps l) us))
        refl)

    params_each : (h : ℕ) (ts : List (Token U)) → params h (each_of ts) ≡ each_reads (each_param f) (params h ts)
    params_each zero ts = refl
    params_each (suc h) ts =
        chosen (each_reads (each_param f)) (begins 41 (each_of ts)) (begins 41 ts) _ _ _ _ (begins_each 41 ts)
        (ap (λ us. reads closed us) (rest_each ts))
        (chosen (each_reads (each_param f)) (void_before 41 (each_of ts)) (void_before 41 ts) _ _ _ _ (void_each 41 ts)
        (ap (λ us. reads closed us) (ap rest (rest_each ts) ∙ rest_each (rest ts)))
        (list_each h ts))

    list_each : (h : ℕ) (ts : List (Token U)) → param_list h (each_of ts) ≡ each_reads (each_param f) (param_list h ts)
    list_each zero ts = refl
    list_each (suc h) ts =
        chosen (each_reads (each_param f)) (void_before 41 (each_of ts) || void_before 44 (each_of ts)) (void_before 41 ts || void_before 44 ts) _ _ _ _ (rw (void_each 41 ts, void_each 44 ts)) refl
        (base_reads (each_param f) false ts _ _ (λ q ss us.
        then_each (each_param f) (each_layer f) (declarator h false us) (declarator h false (each_of us)) _ _ (declarator_each h false us) (λ l vs.
        then_each (each_param f) (each_param f) (param_end h vs) (param_end h (each_of vs)) _ _ (end_each h vs) (λ ps xs.
        ap (λ ws. reads (param q ws (each_layer f l) (each_param f ps)) (each_of xs)) (of_each ss)))))

    end_each : (h : ℕ) (ts : List (Token U)) → param_end h (each_of ts) ≡ each_reads (each_param f) (param_end h ts)
    end_each zero ts = refl
    end_each (suc h) ts =
        turned (each_reads (each_param f)) (begins 44 (each_of ts)) (begins 44 ts) _ _ _ _ (begins_each 44 ts)
        (wanted_each (each_param f) 41 ts _ _ (λ us. refl))
        (chosen (each_reads (each_param f)) (begins 46 (rest (each_of ts))) (begins 46 (rest ts)) _ _ _ _ (ap (begins 46) (rest_each ts) ∙ begins_each 46 (rest ts))
        (rw (rest_each ts, rest_each (rest ts)) (wanted_each (each_param f) 41 (rest (rest ts)) _ _ (λ us. refl)))
        (ap (param_list h) (rest_each ts) ∙ list_each h (rest ts)))

  tokens_read_each : (ts : List (Token U)) → read_tokens (each_of ts) ≡ each_reads (each_chain f) (read_tokens ts)
  unfolding read_tokens
  tokens_read_each ts =
      base_reads (each_chain f) true ts _ _ (λ q ss us.
      then_each (each_chain f) (each_layer f) (declarator most true us) (declarator most true (each_of us)) _ _ (declarator_each most true us) (λ l vs.
      ap (λ ws. reads (record { quals = q; words = ws; layers = each_layer f l }) (each_of vs)) (of_each ss)))

  -- the entries are as many
  mutual
    unfolding layer_entries

    layer_entries_lem : (l : Layers U) → layer_entries (each_layer f l) ≡ layer_entries l
    layer_entries_lem named = refl
    layer_entries_lem (pointer q l) = ap (λ (n : ℕ). 1 + length q + n) (layer_entries_lem l)
    layer_entries_lem (array n l) = ap (λ (n : ℕ). 1 + n) (layer_entries_lem l)
    layer_entries_lem (proto ps l) = rw (param_entries_lem ps, layer_entries_lem l)

    param_entries_lem : (ps : Params U) → param_entries (each_param f ps) ≡ param_entries ps
    param_entries_lem closed = refl
    param_entries_lem dots = refl
    param_entries_lem (param q ws l ps) = rw (layer_entries_lem l, param_entries_lem ps)

  pub entries_each : (c : Chain U) → entries (each_chain f c) ≡ entries c
  unfolding entries
  entries_each c = ap (λ (n : ℕ). 1 + length c.quals + n) (layer_entries_lem c.layers)

  counted_each : (c : Chain U) → within_most (each_chain f c) ≡ each_read f (within_most c)
  unfolding within_most entries
  counted_each c =
      chosen
      (each_read f)
      (leb (1 + length c.quals + layer_entries (each_layer f c.layers)) 512)
      (leb (1 + length c.quals + layer_entries c.layers) 512)
      _
      _
      _
      _
      (ap (λ (n : ℕ). leb (1 + length c.quals + n) 512) (layer_entries_lem c.layers))
      refl
      refl

  whole_each : (r : Reads U (Chain U)) → whole (each_reads (each_chain f) r) ≡ each_read f (whole r)
  unfolding whole
  whole_each (reads c []) = counted_each c
  whole_each (reads c (t ∷ ts)) = refl
  whole_each fails = refl

  -- the reading of tokens whose words are kept another way
  pub read_each : (ts : List (Token U)) → whole (read_tokens (each_of ts)) ≡ each_read f (whole (read_tokens ts))
  read_each ts = ap whole (tokens_read_each ts) ∙ whole_each (read_tokens ts)
