-- What the grammar reads under some bound it reads under every bound past four calls an entry; and what holds of the tokens' words holds
-- of the words of each base that is read. Assumes nothing.
use Prim.Native.Nat.{ℕ, zero, suc, ◌+◌, ◌*◌, ◌≤◌}
use mathlib.Core.Path.{◌≡◌, refl, ap, ◌∙◌}
use mathlib.Core.Bool.{Bool, true, false, ◌&&◌, ◌||◌}
use mathlib.Core.List.{List, [], ◌∷◌}
use native.Mathlib.Omega.{arith}
use Rattle.std.proofs.lemmas.Bool.{and_parts}
use Rattle.spec_c_dumper.specs.rules.Types.{Qualifier}
use Rattle.spec_c_dumper.proofs.rules.Asking.{choose}
use Rattle.session_declaration_reader.specs.grammar.Chain.{Layers, named, pointer, array, proto, Params, closed, dots, param, Chain, layer_entries, param_entries}
use Rattle.session_declaration_reader.specs.tokens.Tokens.{Token, qual, word, number, mark, rest}
use Rattle.session_declaration_reader.specs.grammar.Grammar.{Reads, reads, fails, and_then, read_base, wanted, wanted_name, wanted_count, declarator, suffixes, params, param_list, param_end}
use Rattle.session_declaration_reader.specs.bases.Bases.{Spelt, distinct, begins, begins_word, bracketed, qual_run, after_quals, word_run, after_words, is_base, words_of, void_before}
use Rattle.proof_declaration_reader.specs.Enough.{read_under}
use Rattle.session_declaration_reader.proofs.tokens.Cases.{passed, failed}

-- calls beside four an entry: a star needs no call of its own
abbrev over : Bool → ℕ
over true = 1
over false = 2

over_least : (b : Bool) → 1 ≤ over b
over_least true = omega arith
over_least false = omega arith

over_most : (b : Bool) → over b ≤ 2
over_most true = omega arith
over_most false = omega arith

-- the words of each base of layers
module _ {W : Type 0} (N : List W → Type 0) where
  abbrev mutual
    pub AllLayers : Layers W → Type 0
    AllLayers named = Unit {0}
    AllLayers (pointer q l) = AllLayers l
    AllLayers (array n l) = AllLayers l
    AllLayers (proto ps l) = AllParams ps × AllLayers l

    pub AllParams : Params W → Type 0
    AllParams closed = Unit {0}
    AllParams dots = Unit {0}
    AllParams (param q ws l ps) = N ws × AllLayers l × AllParams ps

-- T holds of tokens, and of those behind them; N of the words of a base that stands among such tokens
module _
    {W : Type 0} (T : List (Token W) → Type 0) (N : List W → Type 0)
    (on : (ts : List (Token W)) → T ts → T (rest ts))
    (past : (ts : List (Token W)) → T ts → T (after_quals ts))
    (worded : (n : Bool) (ts : List (Token W)) → is_base (word_run n ts) ≡ true → T ts → N (words_of (word_run n ts)) × T (after_words n ts))
  where
    abbrev Ts : Type 0
    Ts = List (Token W)

    pub record Declared (n : Bool) (ts : Ts) (l : Layers W) (us : Ts) : Type 0 where
      pub more : (g : ℕ) → 4 * layer_entries l + over (begins 42 ts) ≤ g → declarator g n ts ≡ reads l us
      pub all : T ts → AllLayers N l × T us

    pub record Suffixed (k : Layers W) (ts : Ts) (l : Layers W) (us : Ts) : Type 0 where
      pub grows : layer_entries k ≤ layer_entries l
      pub more : (g : ℕ) → 4 * layer_entries l + 1 ≤ g + 4 * layer_entries k → suffixes g k ts ≡ reads l us
      pub all : T ts → AllLayers N k → AllLayers N l × T us

    pub record Listed (ts : Ts) (ps : Params W) (us : Ts) : Type 0 where
      pub some : 1 ≤ param_entries ps
      pub more : (g : ℕ) → 4 * param_entries ps ≤ g → param_list g ts ≡ reads ps us
      pub all : T ts → AllParams N ps × T us

    pub record Ended (ts : Ts) (ps : Params W) (us : Ts) : Type 0 where
      pub more : (g : ℕ) → 4 * param_entries ps + 1 ≤ g → param_end g ts ≡ reads ps us
      pub all : T ts → AllParams N ps × T us

    pub record Opened (ts : Ts) (ps : Params W) (us : Ts) : Type 0 where
      pub more : (g : ℕ) → 4 * param_entries ps + 1 ≤ g → params g ts ≡ reads ps us
      pub all : T ts → AllParams N ps × T us

    -- a property of what was read
    abbrev pub If : {A : Type 0} → (A → Ts → Type 0) → Reads W A → Type 0
    If P (reads a us) = P a us
    If P fails = Unit {0}

    onward : {A : Type 0} (P Q : A → Ts → Type 0) (x : Reads W A) → If P x → ((a : A) (us : Ts) → P a us → Q a us) → If Q x
    onward P Q (reads a us) p h = h a us p
    onward P Q fails p h = tt

    module _ {A : Type 0} (P : A → Ts → Type 0) where
      by_then : {C : Type 0} (Q : C → Ts → Type 0) (x : Reads W C) (k : C → Ts → Reads W A) → If Q x → ((c : C) (us : Ts) → Q c us → If P (k c us)) → If P (and_then x k)
      unfolding and_then
      by_then Q (reads c us) k q h = h c us q
      by_then Q fails k q h = tt

      by_wanted : (m : ℕ) (ts : Ts) (k : Ts → Reads W A) → (begins m ts ≡ true → If P (k (rest ts))) → If P (wanted m ts k)
      unfolding wanted
      by_wanted m ts k h = choose (If P) (begins m ts) (k (rest ts)) fails h (λ e. tt)

      by_name : (n : Bool) (ts : Ts) (k : Ts → Reads W A) → ((us : Ts) → ((j : Ts → Reads W A) → wanted_name n ts j ≡ j us) → (T ts → T us) → If P (k us)) → If P (wanted_name n ts k)
      unfolding wanted_name
      by_name false ts k h = h ts (λ j. refl) (λ t. t)
      by_name true ts k h = choose (If P) (begins_word ts) (k (rest ts)) fails (λ e. h (rest ts) (λ j. passed (begins_word ts) (j (rest ts)) fails e) (on ts)) (λ e. tt)

      by_count : (ts : Ts) (k : ℕ → Ts → Reads W A) → ((m : ℕ) (us : Ts) → ((j : ℕ → Ts → Reads W A) → wanted_count ts j ≡ j m us) → (T ts → T us) → If P (k m us)) → If P (wanted_count ts k)
      unfolding wanted_count wanted rest
      by_count [] k h = tt
      by_count (qual q ∷ ts) k h = tt
      by_count (word i w ∷ ts) k h = tt
      by_count (number m ∷ ts) k h =
          choose (If P) (begins 93 ts) (k m (rest ts)) fails (λ e. h m (rest ts) (λ j. passed (begins 93 ts) (j m (rest ts)) fails e) (λ t. on ts (on (number m ∷ ts) t))) (λ e. tt)
      by_count (mark b ∷ ts) k h = tt

      by_base : (n : Bool) (ts : Ts) (k : List Qualifier → List (Spelt W) → Ts → Reads W A)
          → ((q : List Qualifier) (ss : List (Spelt W)) (us : Ts) → ((j : List Qualifier → List (Spelt W) → Ts → Reads W A) → read_base n ts j ≡ j q ss us) → (T ts → N (words_of ss) × T us) → If P (k q ss us))
          → If P (read_base n ts k)
      unfolding read_base
      by_base n ts k h =
          let q : List Qualifier = qual_run ts in
          let ss : List (Spelt W) = word_run n (after_quals ts) in
          let us : Ts = after_words n (after_quals ts) in
          choose (If P) (distinct q && is_base ss) (k q ss us) fails (λ e. h q ss us (λ j. passed (distinct q && is_base ss) (j q ss us) fails e) (λ t. worded n (after_quals ts) (and_parts (distinct q) (is_base ss) e).1 (past ts t))) (λ e. tt)

    -- behind a star
    star_good : (n : Bool) (ts : Ts) (l : Layers W) (us : Ts) → begins 42 ts ≡ true → distinct (qual_run (rest ts)) ≡ true
        → Declared n (after_quals (rest ts)) l us → Declared n ts (pointer (qual_run (rest ts)) l) us
    unfolding declarator and_then layer_entries
    star_good n ts l us h d ih = record { more = go; all = λ t. ih.all (past (rest ts) (on ts t)) }
      where
        go : (g : ℕ) → 4 * layer_entries (pointer (qual_run (rest ts)) l) + over (begins 42 ts) ≤ g → declarator g n ts ≡ reads (pointer (qual_run (rest ts)) l) us
        go zero b = absurd (omega (arith, over_least (begins 42 ts)))
        go (suc g) b =
            passed (begins 42 ts) _ _ h
            ∙ passed (distinct (qual_run (rest ts))) _ _ d
            ∙ ap (λ x. and_then x (λ k vs. reads (pointer (qual_run (rest ts)) k) vs)) (ih.more g (omega (arith, over_least (begins 42 ts), over_most (begins 42 (after_quals (rest ts))))))

    -- a declarator in parentheses
    bracket_good : (n : Bool) (ts : Ts) (k : Layers W) (us : Ts) (l : Layers W) (vs : Ts) → begins 42 ts ≡ false → bracketed ts ≡ true
        → Declared n (rest ts) k us → begins 41 us ≡ true → Suffixed k (rest us) l vs → Declared n ts l vs
    unfolding declarator and_then bracketed wanted
    bracket_good n ts k us l vs h br ih w sf =
        record { more = go; all = λ t. let a = ih.all (on ts t) in sf.all (on us a.1) a.0 }
      where
        starred : begins 42 (rest ts) ≡ true
        starred = (and_parts (begins 40 ts) (begins 42 (rest ts)) br).1

        enough : (g : ℕ) → 4 * layer_entries l + 2 ≤ suc g → declarator g n (rest ts) ≡ reads k us
        enough g b = ih.more g (rw starred (omega (arith, sf.grows)))

        go : (g : ℕ) → 4 * layer_entries l + over (begins 42 ts) ≤ g → declarator g n ts ≡ reads l vs
        go zero b = absurd (omega (arith, over_least (begins 42 ts)))
        go (suc g) b =
            let c : 4 * layer_entries l + 2 ≤ suc g = rw h at b in
            failed (begins 42 ts) _ _ h
            ∙ passed (bracketed ts) _ _ br
            ∙ ap (λ x. and_then x (λ l us. wanted 41 us (λ vs. suffixes g l vs))) (enough g c)
            ∙ passed (begins 41 us) _ _ w
            ∙ sf.more g (omega arith)

    -- the name, or the place of one that is left out
    name_good : (n : Bool) (ts us : Ts) (l : Layers W) (vs : Ts) → begins 42 ts ≡ false → bracketed ts ≡ false
        → ((j : Ts → Reads W (Layers W)) → wanted_name n ts j ≡ j us) → (T ts → T us) → Suffixed named us l vs → Declared n ts l vs
    unfolding declarator layer_entries
    name_good n ts us l vs h br w t sf = record { more = go; all = λ u. sf.all (t u) tt }
      where
        go : (g : ℕ) → 4 * layer_entries l + over (begins 42 ts) ≤ g → declarator g n ts ≡ reads l vs
        go zero b = absurd (omega (arith, over_least (begins 42 ts)))
        go (suc g) b =
            let c : 4 * layer_entries l + 2 ≤ suc g = rw h at b in
            failed (begins 42 ts) _ _ h
            ∙ failed (bracketed ts) _ _ br
            ∙ w (λ us. suffixes g named us)
            ∙ sf.more g (omega arith)

    -- what stands behind a declarator
    count_good : (k : Layers W) (ts us : Ts) (m : ℕ) (l : Layers W) (vs : Ts) → begins 91 ts ≡ true
        → ((j : ℕ → Ts → Reads W (Layers W)) → wanted_count (rest ts) j ≡ j m us) → (T (rest ts) → T us) → Suffixed (array m k) us l vs → Suffixed k ts l vs
    unfolding suffixes layer_entries
    count_good k ts us m l vs h w t sf = record { grows = omega (arith, sf.grows); more = go; all = λ u a. sf.all (t (on ts u)) a }
      where
        go : (g : ℕ) → 4 * layer_entries l + 1 ≤ g + 4 * layer_entries k → suffixes g k ts ≡ reads l vs
        go zero b = absurd (omega (arith, sf.grows))
        go (suc g) b = passed (begins 91 ts) _ _ h ∙ w (λ n us. suffixes g (array n k) us) ∙ sf.more g (omega arith)

    proto_good : (k : Layers W) (ts : Ts) (ps : Params W) (us : Ts) (l : Layers W) (vs : Ts) → begins 91 ts ≡ false → begins 40 ts ≡ true
        → Opened (rest ts) ps us → Suffixed (proto ps k) us l vs → Suffixed k ts l vs
    unfolding suffixes layer_entries and_then
    proto_good k ts ps us l vs h p o sf =
        record { grows = omega (arith, sf.grows); more = go; all = λ u a. let b = o.all (on ts u) in sf.all b.1 (b.0, a) }
      where
        go : (g : ℕ) → 4 * layer_entries l + 1 ≤ g + 4 * layer_entries k → suffixes g k ts ≡ reads l vs
        go zero b = absurd (omega (arith, sf.grows))
        go (suc g) b =
            failed (begins 91 ts) _ _ h
            ∙ passed (begins 40 ts) _ _ p
            ∙ ap (λ x. and_then x (λ ps us. suffixes g (proto ps k) us)) (o.more g (omega (arith, sf.grows)))
            ∙ sf.more g (omega arith)

    stop_good : (k : Layers W) (ts : Ts) → begins 91 ts ≡ false → begins 40 ts ≡ false → Suffixed k ts k ts
    unfolding suffixes
    stop_good k ts h p = record { grows = omega arith; more = go; all = λ u a. (a, u) }
      where
        go : (g : ℕ) → 4 * layer_entries k + 1 ≤ g + 4 * layer_entries k → suffixes g k ts ≡ reads k ts
        go zero b = absurd (omega arith)
        go (suc g) b = failed (begins 91 ts) _ _ h ∙ failed (begins 40 ts) _ _ p

    -- a parameter list
    empty_good : (ts : Ts) → begins 41 ts ≡ true → Opened ts closed (rest ts)
    unfolding params param_entries
    empty_good ts h = record { more = go; all = λ t. (tt, on ts t) }
      where
        go : (g : ℕ) → 4 * param_entries {W = W} closed + 1 ≤ g → params g ts ≡ reads closed (rest ts)
        go zero b = absurd (omega arith)
        go (suc g) b = passed (begins 41 ts) _ _ h

    void_good : (ts : Ts) → begins 41 ts ≡ false → void_before 41 ts ≡ true → Opened ts closed (rest (rest ts))
    unfolding params param_entries
    void_good ts h v = record { more = go; all = λ t. (tt, on (rest ts) (on ts t)) }
      where
        go : (g : ℕ) → 4 * param_entries {W = W} closed + 1 ≤ g → params g ts ≡ reads closed (rest (rest ts))
        go zero b = absurd (omega arith)
        go (suc g) b = failed (begins 41 ts) _ _ h ∙ passed (void_before 41 ts) _ _ v

    list_good : (ts : Ts) (ps : Params W) (us : Ts) → begins 41 ts ≡ false → void_before 41 ts ≡ false → Listed ts ps us → Opened ts ps us
    unfolding params
    list_good ts ps us h v li = record { more = go; all = li.all }
      where
        go : (g : ℕ) → 4 * param_entries ps + 1 ≤ g → params g ts ≡ reads ps us
        go zero b = absurd (omega arith)
        go (suc g) b = failed (begins 41 ts) _ _ h ∙ failed (void_before 41 ts) _ _ v ∙ li.more g (omega arith)

    param_good : (ts : Ts) (q : List Qualifier) (ss : List (Spelt W)) (us : Ts) (l : Layers W) (vs : Ts) (ps : Params W) (xs : Ts)
        → (void_before 41 ts || void_before 44 ts) ≡ false
        → ((j : List Qualifier → List (Spelt W) → Ts → Reads W (Params W)) → read_base false ts j ≡ j q ss us) → (T ts → N (words_of ss) × T us)
        → Declared false us l vs → Ended vs ps xs → Listed ts (param q (words_of ss) l ps) xs
    unfolding param_list param_entries and_then
    param_good ts q ss us l vs ps xs v w t d en =
        record {
          some = omega arith;
          more = go;
          all = λ u. let a = t u in let b = d.all a.1 in let c = en.all b.1 in ((a.0, b.0, c.0), c.1);
        }
      where
        go : (g : ℕ) → 4 * param_entries (param q (words_of ss) l ps) ≤ g → param_list g ts ≡ reads (param q (words_of ss) l ps) xs
        go zero b = absurd (omega arith)
        go (suc g) b =
            failed (void_before 41 ts || void_before 44 ts) _ _ v
            ∙ w (λ q ss us. and_then (declarator g false us) (λ l vs. and_then (param_end g vs) (λ ps xs. reads (param q (words_of ss) l ps) xs)))
            ∙ ap (λ x. and_then x (λ l vs. and_then (param_end g vs) (λ ps xs. reads (param q (words_of ss) l ps) xs))) (d.more g (omega (arith, over_most (begins 42 us))))
            ∙ ap (λ x. and_then x (λ ps xs. reads (param q (words_of ss) l ps) xs)) (en.more g (omega arith))

    -- behind a parameter
    close_good : (ts : Ts) → begins 44 ts ≡ false → begins 41 ts ≡ true → Ended ts closed (rest ts)
    unfolding param_end param_entries wanted
    close_good ts h w = record { more = go; all = λ t. (tt, on ts t) }
      where
        go : (g : ℕ) → 4 * param_entries {W = W} closed + 1 ≤ g → param_end g ts ≡ reads closed (rest ts)
        go zero b = absurd (omega arith)
        go (suc g) b = failed (begins 44 ts) _ _ h ∙ passed (begins 41 ts) _ _ w

    dots_good : (ts : Ts) → begins 44 ts ≡ true → begins 46 (rest ts) ≡ true → begins 41 (rest (rest ts)) ≡ true → Ended ts dots (rest (rest (rest ts)))
    unfolding param_end param_entries wanted
    dots_good ts h d w = record { more = go; all = λ t. (tt, on (rest (rest ts)) (on (rest ts) (on ts t))) }
      where
        go : (g : ℕ) → 4 * param_entries {W = W} dots + 1 ≤ g → param_end g ts ≡ reads dots (rest (rest (rest ts)))
        go zero b = absurd (omega arith)
        go (suc g) b = passed (begins 44 ts) _ _ h ∙ passed (begins 46 (rest ts)) _ _ d ∙ passed (begins 41 (rest (rest ts))) _ _ w

    next_good : (ts : Ts) (ps : Params W) (us : Ts) → begins 44 ts ≡ true → begins 46 (rest ts) ≡ false → Listed (rest ts) ps us → Ended ts ps us
    unfolding param_end
    next_good ts ps us h d li = record { more = go; all = λ t. li.all (on ts t) }
      where
        go : (g : ℕ) → 4 * param_entries ps + 1 ≤ g → param_end g ts ≡ reads ps us
        go zero b = absurd (omega arith)
        go (suc g) b = passed (begins 44 ts) _ _ h ∙ failed (begins 46 (rest ts)) _ _ d ∙ li.more g (omega arith)

    mutual
      unfolding declarator

      pub declarator_good : (f : ℕ) (n : Bool) (ts : Ts) → If (Declared n ts) (declarator f n ts)
      declarator_good zero n ts = tt
      declarator_good (suc f) n ts =
          choose (If (Declared n ts)) (begins 42 ts) _ _
          (λ h. choose (If (Declared n ts)) (distinct (qual_run (rest ts))) _ _
          (λ d. by_then (Declared n ts) (Declared n (after_quals (rest ts))) (declarator f n (after_quals (rest ts))) _ (declarator_good f n (after_quals (rest ts))) (λ l us ih. star_good n ts l us h d ih))
          (λ d. tt))
          (λ h. choose (If (Declared n ts)) (bracketed ts) _ _
          (λ br. by_then (Declared n ts) (Declared n (rest ts)) (declarator f n (rest ts)) _ (declarator_good f n (rest ts))
          (λ k us ih. by_wanted (Declared n ts) 41 us _
          (λ w. onward (Suffixed k (rest us)) (Declared n ts) (suffixes f k (rest us)) (suffixes_good f k (rest us)) (λ l vs sf. bracket_good n ts k us l vs h br ih w sf))))
          (λ br. by_name (Declared n ts) n ts _
          (λ us w t. onward (Suffixed named us) (Declared n ts) (suffixes f named us) (suffixes_good f named us) (λ l vs sf. name_good n ts us l vs h br w t sf))))

      pub suffixes_good : (f : ℕ) (k : Layers W) (ts : Ts) → If (Suffixed k ts) (suffixes f k ts)
      suffixes_good zero k ts = tt
      suffixes_good (suc f) k ts =
          choose (If (Suffixed k ts)) (begins 91 ts) _ _
          (λ h. by_count (Suffixed k ts) (rest ts) _
          (λ m us w t. onward (Suffixed (array m k) us) (Suffixed k ts) (suffixes f (array m k) us) (suffixes_good f (array m k) us) (λ l vs sf. count_good k ts us m l vs h w t sf)))
          (λ h. choose (If (Suffixed k ts)) (begins 40 ts) _ _
          (λ p. by_then (Suffixed k ts) (Opened (rest ts)) (params f (rest ts)) _ (params_good f (rest ts))
          (λ ps us o. onward (Suffixed (proto ps k) us) (Suffixed k ts) (suffixes f (proto ps k) us) (suffixes_good f (proto ps k) us) (λ l vs sf. proto_good k ts ps us l vs h p o sf)))
          (λ p. stop_good k ts h p))

      pub params_good : (f : ℕ) (ts : Ts) → If (Opened ts) (params f ts)
      params_good zero ts = tt
      params_good (suc f) ts =
          choose (If (Opened ts)) (begins 41 ts) _ _ (λ h. empty_good ts h)
          (λ h. choose (If (Opened ts)) (void_before 41 ts) _ _ (λ v. void_good ts h v)
          (λ v. onward (Listed ts) (Opened ts) (param_list f ts) (param_list_good f ts) (λ ps us li. list_good ts ps us h v li)))

      pub param_list_good : (f : ℕ) (ts : Ts) → If (Listed ts) (param_list f ts)
      param_list_good zero ts = tt
      param_list_good (suc f) ts =
          choose (If (Listed ts)) (void_before 41 ts || void_before 44 ts) _ _ (λ v. tt)
          (λ v. by_base (Listed ts) false ts _
          (λ q ss us w t. by_then (Listed ts) (Declared false us) (declarator f false us) _ (declarator_good f false us)
          (λ l vs d. by_then (Listed ts) (Ended vs) (param_end f vs) _ (end_good f vs) (λ ps xs en. param_good ts q ss us l vs ps xs v w t d en))))

      pub end_good : (f : ℕ) (ts : Ts) → If (Ended ts) (param_end f ts)
      end_good zero ts = tt
      end_good (suc f) ts =
          choose (If (Ended ts)) (begins 44 ts) _ _
          (λ h. choose (If (Ended ts)) (begins 46 (rest ts)) _ _
          (λ d. by_wanted (Ended ts) 41 (rest (rest ts)) _ (λ w. dots_good ts h d w))
          (λ d. onward (Listed (rest ts)) (Ended ts) (param_list f (rest ts)) (param_list_good f (rest ts)) (λ ps us li. next_good ts ps us h d li)))
          (λ h. by_wanted (Ended ts) 41 ts _ (λ w. close_good ts h w))

    -- a whole declaration
    pub record Read (ts : Ts) (c : Chain W) (us : Ts) : Type 0 where
      pub more : (g : ℕ) → 4 * layer_entries c.layers + 2 ≤ g → read_under g ts ≡ reads c us
      pub all : T ts → N c.words × AllLayers N c.layers × T us

    pub under_good : (f : ℕ) (ts : Ts) → If (Read ts) (read_under f ts)
    unfolding read_under and_then
    under_good f ts =
        by_base (Read ts) true ts _
        (λ q ss us w t. by_then (Read ts) (Declared true us) (declarator f true us) _ (declarator_good f true us)
        (λ l vs d.
        record {
          more = λ g b.
              w (λ q ss us. and_then (declarator g true us) (λ l vs. reads (record { quals = q; words = words_of ss; layers = l }) vs))
              ∙ ap (λ x. and_then x (λ l vs. reads (record { quals = q; words = words_of ss; layers = l }) vs)) (d.more g (omega (arith, over_most (begins 42 us))));
          all = λ u. let a = t u in let b = d.all a.1 in (a.0, b.0, b.1);
        }))
