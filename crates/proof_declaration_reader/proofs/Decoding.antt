-- The words that the code leaves say what the reader says, and so does the written text of a covered chain. Assumes nothing.
use Prim.Native.Nat.{ℕ, suc, ◌+◌, ◌-◌, ◌*◌, ◌≤◌, ◌<◌}
use mathlib.Core.Path.{◌≡◌, refl, ap, sym, ◌∙◌}
use mathlib.Core.Bool.{Bool, true, false}
use mathlib.Core.List.{List, [], ◌∷◌, ◌++◌, append_assoc, append-nil}
use native.Mathlib.Omega.{arith}
use borrow.Author.Tests.{lt-ltb, leb-true, ne_eqb}
use lib.ListN.{length, get_or, set, replicate, length-set}
use lib.Seq.{get_or-set_same, get_or-set_other}
use lib.Dec.{ltb, leb, eqb}
use Rattle.spec_c_dumper.specs.rules.Types.{Qualifier, volatile, const, restrict}
use Rattle.session_declaration_reader.specs.grammar.Chain.{Layers, named, pointer, array, proto, Params, closed, dots, param, Chain, entries}
use Rattle.session_declaration_reader.specs.tokens.Tokens.{Token, tokens}
use Rattle.session_declaration_reader.specs.grammar.Grammar.{Reads, reads, fails}
use Rattle.session_declaration_reader.specs.reader.Reading.{most, Read, chain, refused, read_tokens, within_most, whole, read_with}
use Rattle.session_declaration_reader.specs.tokens.Looking.{Span, places}
use Rattle.session_declaration_reader.specs.bases.Items.{Item, item, qual_items, first_from, last_to, put_item, one_more, Placed, placed, placing}
use Rattle.session_declaration_reader.specs.grammar.Encoding.{base_item, base_kind, any_params, layer_items, param_items}
use Rattle.session_declaration_reader.specs.reader.Encoding.{chain_items, placed_chain, read_into}
use Rattle.session_declaration_reader.proofs.tokens.Cases.{passed, failed}
use Rattle.session_declaration_reader.proofs.reader.ReadLaws.{chain_size}
use Rattle.proof_declaration_reader.specs.Places.{each_word, each_layer, each_param, each_chain, each_read, bytes_at}
use Rattle.proof_declaration_reader.specs.Written.{written}
use Rattle.proof_declaration_reader.specs.Enough.{read_under}
use Rattle.proof_declaration_reader.specs.Decoding.{items_from, qual_of_code, Lay, Open, none, inside, at_base, at_proto, chain_from, decoded, entries_left, Numbered, Decodes, ReadsBack}
use Rattle.proof_declaration_reader.proofs.AtPlaces.{same_at_places}
use Rattle.proof_declaration_reader.proofs.Natural.{entries_each}
use Rattle.proof_declaration_reader.proofs.Parses as parses
use Rattle.proof_declaration_reader.proofs.Laid.{Neat, Laid, laid_on, laid_past, worded, text_laid, neat_words}
use Rattle.proof_declaration_reader.proofs.RoundTrip.{round_trip}

-- the entries of a chain say the chain
module _ (s : List ℕ) where
  abbrev from : Open → List Qualifier → Lay → List Item → Read (List ℕ)
  from o q l is = chain_from s o q l is

  abbrev lay : Layers Span → Lay
  lay l = each_layer (bytes_at s) l

  quals_back : (p : List Qualifier) (o : Open) (q : List Qualifier) (l : Lay) (is : List Item) → from o q l (qual_items p ++ is) ≡ from o (q ++ p) l is
  unfolding chain_from qual_of_code
  quals_back [] o q l is = ap (λ (x : List Qualifier). from o x l is) (sym (append-nil q))
  quals_back (volatile ∷ p) o q l is = quals_back p o (q ++ volatile ∷ []) l is ∙ ap (λ (x : List Qualifier). from o x l is) (append_assoc q (volatile ∷ []) p)
  quals_back (const ∷ p) o q l is = quals_back p o (q ++ const ∷ []) l is ∙ ap (λ (x : List Qualifier). from o x l is) (append_assoc q (const ∷ []) p)
  quals_back (restrict ∷ p) o q l is = quals_back p o (q ++ restrict ∷ []) l is ∙ ap (λ (x : List Qualifier). from o x l is) (append_assoc q (restrict ∷ []) p)

  -- a parameter's base, with its words
  abbrev part : List Qualifier → List Span → Layers Span → Params (List ℕ) → Params (List ℕ)
  part q ws l ps = param q (each_word (bytes_at s) ws) (lay l) ps

  some_bytes : (ws : List Span) → Neat s ws → eqb (last_to ws - first_from ws) 0 ≡ false
  some_bytes ws h = ne_eqb (last_to ws - first_from ws) 0 (λ e. omega (arith, (neat_words s ws h).1))

  last_back : (ws : List Span) → Neat s ws → (k : Lay) (f : Params (List ℕ) → Params (List ℕ)) (o : Open) (q : List Qualifier) (l : Lay) (is : List Item)
      → from (inside k f o) q l (base_item 1 ws ∷ is) ≡ from o [] (proto (f (param q (each_word (bytes_at s) ws) l closed)) k) is
  unfolding chain_from at_base
  last_back ws h k f o q l is =
      failed (eqb (last_to ws - first_from ws) 0) _ _ (some_bytes ws h)
      ∙ ap (λ us. from o [] (proto (f (param q us l closed)) k) is) (neat_words s ws h).0

  next_back : (ws : List Span) → Neat s ws → (k : Lay) (f : Params (List ℕ) → Params (List ℕ)) (o : Open) (q : List Qualifier) (l : Lay) (is : List Item)
      → from (inside k f o) q l (base_item 6 ws ∷ is) ≡ from (inside k (λ ps. f (param q (each_word (bytes_at s) ws) l ps)) o) [] named is
  unfolding chain_from at_base
  next_back ws h k f o q l is =
      failed (eqb (last_to ws - first_from ws) 0) _ _ (some_bytes ws h)
      ∙ ap (λ us. from (inside k (λ ps. f (param q us l ps)) o) [] named is) (neat_words s ws h).0

  abbrev AllL : Layers Span → Type 0
  AllL l = parses.AllLayers (Neat s) l

  abbrev AllP : Params Span → Type 0
  AllP ps = parses.AllParams (Neat s) ps

  abbrev LayersBack : Layers Span → Type 0
  LayersBack l = (o : Open) (is : List Item) → from o [] named (layer_items l ++ is) ≡ from o [] (lay l) is

  abbrev ParamsBack : Params Span → Type 0
  ParamsBack ps =
      (k : Lay) (f : Params (List ℕ) → Params (List ℕ)) (o : Open) (is : List Item) → any_params ps ≡ 1
      → from (inside k f o) [] named (param_items ps ++ is) ≡ from o [] (proto (f (each_param (bytes_at s) ps)) k) is

  base_back : (ps : Params Span) → ParamsBack ps → (q : List Qualifier) (ws : List Span) (l : Lay) → Neat s ws → (k : Lay) (f : Params (List ℕ) → Params (List ℕ)) (o : Open) (is : List Item)
      → from (inside k f o) q l (base_item (base_kind ps) ws ∷ (param_items ps ++ is)) ≡ from o [] (proto (f (param q (each_word (bytes_at s) ws) l (each_param (bytes_at s) ps))) k) is
  unfolding param_items
  base_back closed pf q ws l h k f o is = last_back ws h k f o q l is
  base_back dots pf q ws l h k f o is = next_back ws h k f o q l (param_items dots ++ is) ∙ pf k (λ ps. f (param q (each_word (bytes_at s) ws) l ps)) o is refl
  base_back (param r vs m ps) pf q ws l h k f o is =
      next_back ws h k f o q l (param_items (param r vs m ps) ++ is) ∙ pf k (λ ps. f (param q (each_word (bytes_at s) ws) l ps)) o is refl

  param_back : (q : List Qualifier) (ws : List Span) (l : Layers Span) (ps : Params Span) → Neat s ws → LayersBack l → ParamsBack ps
      → (k : Lay) (f : Params (List ℕ) → Params (List ℕ)) (o : Open) (is : List Item)
      → from (inside k f o) [] named (param_items (param q ws l ps) ++ is) ≡ from o [] (proto (f (part q ws l (each_param (bytes_at s) ps))) k) is
  unfolding param_items
  param_back q ws l ps h lf pf k f o is =
      let b : List Item = base_item (base_kind ps) ws ∷ param_items ps in
      ap (from (inside k f o) [] named) (append_assoc (layer_items l) (qual_items q ++ b) is)
      ∙ lf (inside k f o) ((qual_items q ++ b) ++ is)
      ∙ ap (from (inside k f o) [] (lay l)) (append_assoc (qual_items q) b is)
      ∙ quals_back q (inside k f o) [] (lay l) (b ++ is)
      ∙ base_back ps pf q ws (lay l) h k f o is

  mutual
    unfolding layer_items chain_from at_proto at_base

    layers_back : (l : Layers Span) → AllL l → LayersBack l
    layers_back named a o is = refl
    layers_back (pointer q l) a o is =
        ap (from o [] named) (append_assoc (layer_items l) (qual_items q ++ item 2 0 0 ∷ []) is)
        ∙ layers_back l a o ((qual_items q ++ item 2 0 0 ∷ []) ++ is)
        ∙ ap (from o [] (lay l)) (append_assoc (qual_items q) (item 2 0 0 ∷ []) is)
        ∙ quals_back q o [] (lay l) (item 2 0 0 ∷ is)
    layers_back (array n l) a o is = ap (from o [] named) (append_assoc (layer_items l) (item 3 n 0 ∷ []) is) ∙ layers_back l a o (item 3 n 0 ∷ is)
    layers_back (proto ps l) a o is =
        ap (from o [] named) (append_assoc (layer_items l) (item 4 (any_params ps) 0 ∷ param_items ps) is)
        ∙ layers_back l a.1 o (item 4 (any_params ps) 0 ∷ (param_items ps ++ is))
        ∙ proto_back ps a.0 (lay l) o is

    proto_back : (ps : Params Span) → AllP ps → (k : Lay) (o : Open) (is : List Item) → from o [] k (item 4 (any_params ps) 0 ∷ (param_items ps ++ is)) ≡ from o [] (proto (each_param (bytes_at s) ps) k) is
    proto_back closed a k o is = refl
    proto_back dots a k o is = refl
    proto_back (param q ws l ps) a k o is = param_back q ws l ps a.0 (λ p js. layers_back l a.1 p js) (λ j g p js e. params_back ps a.2 j g p js e) k (λ ps. ps) o is

    params_back : (ps : Params Span) → AllP ps → ParamsBack ps
    params_back closed a k f o is e = absurd (omega arith)
    params_back dots a k f o is e = refl
    params_back (param q ws l ps) a k f o is e = param_back q ws l ps a.0 (λ p js. layers_back l a.1 p js) (λ j g p js e. params_back ps a.2 j g p js e) k f o is

  chain_back : (c : Chain Span) → Neat s c.words → AllL c.layers → from none [] named (chain_items c) ≡ chain (each_chain (bytes_at s) c)
  unfolding chain_items chain_from at_base
  chain_back c h a =
      layers_back c.layers a none (qual_items c.quals ++ base_item 1 c.words ∷ [])
      ∙ quals_back c.quals none [] (lay c.layers) (base_item 1 c.words ∷ [])
      ∙ ap (λ ws. chain (record { quals = c.quals; words = ws; layers = lay c.layers })) (neat_words s c.words h).0

-- the words hold the entries
abbrev words_in : Placed → List ℕ
words_in (placed n t) = t

more_few : (n : ℕ) → n < 512 → one_more n ≡ suc n
unfolding one_more
more_few n h = passed (ltb n 512) (n + 1) 513 (lt-ltb n 512 h) ∙ omega arith

put_length : (t : List ℕ) (n : ℕ) (i : Item) → length (put_item t n i) ≡ length t
unfolding put_item
put_length t n (item k x y) = go (ltb n 512) (ltb (n * 3 + 2) (length t))
  where
    go : (a b : Bool) → length {A = ℕ} (elim a [ true ↦ elim b [ true ↦ set (set (set t (n * 3) k) (n * 3 + 1) x) (n * 3 + 2) y | false ↦ t ] | false ↦ t ]) ≡ length t
    go true true = simp length-set
    go true false = refl
    go false b = refl

put_below : (t : List ℕ) (n : ℕ) (i : Item) (j : ℕ) → j < n * 3 → get_or (put_item t n i) j 0 ≡ get_or t j 0
unfolding put_item
put_below t n (item k x y) j h = go (ltb n 512) (ltb (n * 3 + 2) (length t))
  where
    go : (a b : Bool) → get_or (elim a [ true ↦ elim b [ true ↦ set (set (set t (n * 3) k) (n * 3 + 1) x) (n * 3 + 2) y | false ↦ t ] | false ↦ t ]) j 0 ≡ get_or t j 0
    go true true =
        get_or-set_other (set (set t (n * 3) k) (n * 3 + 1) x) (n * 3 + 2) j y 0 (λ e. omega arith)
        ∙ get_or-set_other (set t (n * 3) k) (n * 3 + 1) j x 0 (λ e. omega arith)
        ∙ get_or-set_other t (n * 3) j k 0 (λ e. omega arith)
    go true false = refl
    go false b = refl

put_here : (t : List ℕ) (n k x y : ℕ) → n < 512 → 1536 ≤ length t → put_item t n (item k x y) ≡ set (set (set t (n * 3) k) (n * 3 + 1) x) (n * 3 + 2) y
unfolding put_item
put_here t n k x y h l = passed (ltb n 512) _ _ (lt-ltb n 512 h) ∙ passed (ltb (n * 3 + 2) (length t)) _ _ (lt-ltb (n * 3 + 2) (length t) (omega arith))

kept_below : (is : List Item) (t : List ℕ) (n j : ℕ) → n + length is ≤ 512 → j < n * 3 → get_or (words_in (placing t n is)) j 0 ≡ get_or t j 0
unfolding placing
kept_below [] t n j b h = refl
kept_below (i ∷ is) t n j b h =
    ap (λ (m : ℕ). get_or (words_in (placing (put_item t n i) m is)) j 0) (more_few n (omega arith))
    ∙ kept_below is (put_item t n i) (suc n) j (omega arith) (omega arith)
    ∙ put_below t n i j h

count_is : (is : List Item) (t : List ℕ) (n : ℕ) → n + length is ≤ 512 → entries_left (placing t n is) ≡ n + length is
unfolding placing
count_is [] t n b = omega arith
count_is (i ∷ is) t n b = ap (λ (m : ℕ). entries_left (placing (put_item t n i) m is)) (more_few n (omega arith)) ∙ count_is is (put_item t n i) (suc n) (omega arith) ∙ omega arith

module _ (t : List ℕ) (n k x y : ℕ) (h : n < 512) (l : 1536 ≤ length t) where
  abbrev first : List ℕ
  first = set t (n * 3) k

  abbrev second : List ℕ
  second = set first (n * 3 + 1) x

  here_kind : get_or (put_item t n (item k x y)) (n * 3) 0 ≡ k
  here_kind =
      ap (λ (u : List ℕ). get_or u (n * 3) 0) (put_here t n k x y h l)
      ∙ get_or-set_other second (n * 3 + 2) (n * 3) y 0 (λ e. omega arith)
      ∙ get_or-set_other first (n * 3 + 1) (n * 3) x 0 (λ e. omega arith)
      ∙ get_or-set_same t (n * 3) k 0 (omega arith)

  here_x : get_or (put_item t n (item k x y)) (n * 3 + 1) 0 ≡ x
  here_x =
      ap (λ (u : List ℕ). get_or u (n * 3 + 1) 0) (put_here t n k x y h l)
      ∙ get_or-set_other second (n * 3 + 2) (n * 3 + 1) y 0 (λ e. omega arith)
      ∙ get_or-set_same first (n * 3 + 1) x 0 (omega (arith, length-set t (n * 3) k))

  here_y : get_or (put_item t n (item k x y)) (n * 3 + 2) 0 ≡ y
  here_y =
      ap (λ (u : List ℕ). get_or u (n * 3 + 2) 0) (put_here t n k x y h l)
      ∙ get_or-set_same second (n * 3 + 2) y 0 (omega (arith, length-set first (n * 3 + 1) x, length-set t (n * 3) k))

items_back : (is : List Item) (t : List ℕ) (n : ℕ) → n + length is ≤ 512 → 1536 ≤ length t → items_from n (length is) (words_in (placing t n is)) ≡ is
unfolding items_from placing
items_back [] t n b l = refl
items_back (item k x y ∷ is) t n b l =
    let u : List ℕ = put_item t n (item k x y) in
    let v : List ℕ = words_in (placing u (suc n) is) in
    let below : (j : ℕ) → j < suc n * 3 → get_or v j 0 ≡ get_or u j 0 = λ j h. kept_below is u (suc n) j (omega arith) h in
    let e₁ : get_or v (n * 3) 0 ≡ k = below (n * 3) (omega arith) ∙ here_kind t n k x y (omega arith) l in
    let e₂ : get_or v (n * 3 + 1) 0 ≡ x = below (n * 3 + 1) (omega arith) ∙ here_x t n k x y (omega arith) l in
    let e₃ : get_or v (n * 3 + 2) 0 ≡ y = below (n * 3 + 2) (omega arith) ∙ here_y t n k x y (omega arith) l in
    ap
    (λ (m : ℕ). items_from n (suc (length is)) (words_in (placing u m is)))
    (more_few n (omega arith))
    ∙ (λ i. item (e₁ i) (e₂ i) (e₃ i) ∷ items_from (suc n) (length is) v)
    ∙ ap (λ js. item k x y ∷ js) (items_back is u (suc n) (omega arith) (omega (arith, put_length t n (item k x y))))

decoded_is : (s : List ℕ) (p : Placed) → decoded s p ≡ chain_from s none [] named (items_from 0 (entries_left p) (words_in p))
unfolding decoded
decoded_is s (placed n t) = refl

-- what is read whole, and has few entries
whole_chain : (r : Reads Span (Chain Span)) (c : Chain Span) → whole r ≡ chain c → (r ≡ reads c []) × (entries c ≤ 512)
unfolding whole within_most
whole_chain (reads d []) c e = go (leb (entries d) 512) refl e
  where
    go : (b : Bool) → leb (entries d) 512 ≡ b → elim b [ true ↦ chain d | false ↦ refused ] ≡ chain c → (◌≡◌ {A = Reads Span (Chain Span)} (reads d []) (reads c [])) × (entries c ≤ 512)
    go true l q = let same : d ≡ c = cc in (ap (λ x. reads x []) same, rw same at (leb-true (entries d) 512 l))
    go false l q = absurd (let z : ◌≡◌ {A = ℕ} 0 1 = cc in omega arith)
whole_chain (reads d (t ∷ ts)) c e = absurd (let z : ◌≡◌ {A = ℕ} 0 1 = cc in omega arith)
whole_chain fails c e = absurd (let z : ◌≡◌ {A = ℕ} 0 1 = cc in omega arith)

module _ (s t : List ℕ) (l : 1536 ≤ length t) where
  abbrev ts : List (Token Span)
  ts = tokens (places (length s)) [] s

  -- the words of each base of the chain that is read stand together
  neat_chain : (c : Chain Span) → read_tokens ts ≡ reads c [] → Neat s c.words × parses.AllLayers (Neat s) c.layers
  unfolding read_tokens read_under
  neat_chain c e =
      let r = (rw e at (parses.under_good (Laid s) (Neat s) (laid_on s) (laid_past s) (worded s) most ts)).all (text_laid s) in
      (r.0, r.1)

  stored : (c : Chain Span) → Neat s c.words → parses.AllLayers (Neat s) c.layers → entries c ≤ 512 → decoded s (placing t 0 (chain_items c)) ≡ chain (each_chain (bytes_at s) c)
  stored c h a f =
      let is : List Item = chain_items c in
      let b : 0 + length is ≤ 512 = omega (arith, chain_size c) in
      let n : entries_left (placing t 0 is) ≡ length is = count_is is t 0 b ∙ omega arith in
      decoded_is s (placing t 0 is)
      ∙ ap (λ (m : ℕ). chain_from s none [] named (items_from 0 m (words_in (placing t 0 is)))) n
      ∙ ap (chain_from s none [] named) (items_back is t 0 b l)
      ∙ chain_back s c h a

  answered : (r : Read Span) → read_with (places (length s)) s ≡ r → decoded s (placed_chain t r) ≡ each_read (bytes_at s) r
  unfolding placed_chain read_with decoded items_from chain_from
  answered (chain c) e =
      let w = whole_chain (read_tokens ts) c e in
      let h = neat_chain c w.0 in
      stored c h.0 h.1 w.1
  answered refused e = refl

pub decodes : Decodes
unfolding read_into
decodes s t l = answered s t l (read_with (places (length s)) s) refl ∙ sym (same_at_places s)

module _ (s t : List ℕ) where
  some_entries : (c : Chain (List ℕ)) → 0 < entries c
  unfolding entries
  some_entries c = omega arith

  chain_refused : (c : Chain (List ℕ)) → ◌≡◌ {A = Read (List ℕ)} refused (chain c) → ⊥
  chain_refused c e = let z : ◌≡◌ {A = ℕ} 0 1 = cc in omega arith

  counts : (r : Read Span) → read_with (places (length s)) s ≡ r → (c : Chain (List ℕ)) → each_read (bytes_at s) r ≡ chain c → entries_left (placed_chain t r) ≡ entries c
  unfolding placed_chain read_with
  counts (chain d) e c q =
      let w = whole_chain (read_tokens (tokens (places (length s)) [] s)) d e in
      let same : each_chain (bytes_at s) d ≡ c = cc in
      count_is (chain_items d) t 0 (omega (arith, chain_size d, w.1)) ∙ omega (arith, chain_size d, entries_each (bytes_at s) d) ∙ ap entries same
  counts refused e c q = absurd (chain_refused c q)

  empties : (r : Read Span) → each_read (bytes_at s) r ≡ refused → placed_chain t r ≡ placed 0 (replicate (length t) 0)
  unfolding placed_chain
  empties (chain d) q = absurd (chain_refused (each_chain (bytes_at s) d) (sym q))
  empties refused q = refl

  pub numbered : Numbered s t
  unfolding read_into
  numbered =
      record {
        counts = λ c e. (counts (read_with (places (length s)) s) refl c (sym (same_at_places s) ∙ e), some_entries c);
        empties = λ e. empties (read_with (places (length s)) s) (sym (same_at_places s) ∙ e);
      }

pub reads_back : ReadsBack
reads_back c name v ok t l = decodes (written c name) t l ∙ round_trip c name v ok
