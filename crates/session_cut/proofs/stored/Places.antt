-- Where the code finds a name is where the definition places it. Assumes nothing.
use Prim.Native.Nat.{ℕ, zero, suc, ◌+◌, ◌-◌, ◌%◌, ◌<◌, ◌≤◌}
use native.Mathlib.Omega.{arith}
use native.Mathlib.Decide.{ℕ_discrete}
use mathlib.Core.Path.{◌≡◌, refl, sym, ◌∙◌, ap, subst}
use mathlib.Core.Bool.{Bool, true, false, true≢false}
use mathlib.Core.List.{List, [], ◌∷◌, ◌++◌, append_assoc}
use lib.ListN.{length, get_or, length-append, length-set}
use lib.Seq.{get_or-set_same, get_or-set_other}
use lib.Dec.{eqb}
use Rattle.spec_linux_btf.specs.Documentation.{encode_strings}
use Rattle.spec_c_dumper.specs.rules.Types.{Name, is_empty}
use Rattle.spec_c_dumper.specs.rules.Names.{same_bytes}
use Rattle.spec_c_dumper.proofs.rules.Names.{bytes_same}
use Rattle.spec_type_table.specs.declared.types.TypeTable.{TypeTable}
use Rattle.spec_type_table.specs.Names.{str_at}
use Rattle.btf_open_causes.specs.references.Followed.{type_count, entry_at}
use Rattle.spec_cut.specs.section.Strings.{has, add_name, first_names, place_in}
use Rattle.spec_cut.proofs.section.Names.{place_below, add_has}
use Rattle.session_cut_marks.specs.roles.Words.{role, words_in, word_of}
use Rattle.session_cut_marks.specs.mentioned.Names.{zero_bases, is_name, or_name, named_to, first_from, mentions, or_mentions, mentioned_to, is_new, new_size, new_sizes, base_of, bases_to, place_at, place_from, place_of}
use Rattle.session_cut_marks.specs.mentioned.Strings.{name_bytes, names_bytes, strings_bytes}
use Rattle.session_cut_marks.proofs.mentioned.Sizes.{strings_length}
use Rattle.session_cut_marks.proofs.interned.Places.{zero_bases_lem}
use Rattle.session_cut.specs.stored.Mentioned.{store, stored, or_else, word_name, names_to, kept_names, names_before}
use Rattle.session_cut.proofs.stored.Store.{store_append, has_stored, place_empty, add_new, place_last, place_store, keeps_store, or_true}
use Rattle.session_cut.proofs.stored.Strings.{mentioned_is, before, stored_has, names_bytes_lem, strings_are}

word_small : (p : ℕ) → p < 4294967296 → p % 4294967296 ≡ p
word_small p l = omega (arith, l)

one : (l : List Name) (n : Name) → store l (n ∷ []) ≡ add_name l n
unfolding store
one l n = refl

module _ (b : TypeTable) (s : List ℕ) where
  -- the first word with the name: no word before it has it
  record First (e off n r : ℕ) : Type 0 where
    none : named_to b s e off r ≡ false
    it : is_name b s e off r ≡ true
    inside : r < n

  named_next : (e off j : ℕ) → named_to b s e off j ≡ false → is_name b s e off j ≡ false → named_to b s e off (suc j) ≡ false
  unfolding named_to or_name
  named_next e off j f g = λ t. or_else (f t) (g t)

  first_is : (e off j k : ℕ) → named_to b s e off j ≡ false → named_to b s e off (j + k) ≡ true → First e off (j + k) (first_from b s e off j k)
  unfolding first_from
  first_is e off j zero f h = let z : j + 0 ≡ j = omega arith in absurd (true≢false (sym h ∙ ap (named_to b s e off) z ∙ f))
  first_is e off j (suc k) f h = go (is_name b s e off j) refl (first_is e off (suc j) k)
    where
      go : (q : Bool) → is_name b s e off j ≡ q → (named_to b s e off (suc j) ≡ false → named_to b s e off (suc j + k) ≡ true → First e off (suc j + k) (first_from b s e off (suc j) k)) → First e off (j + suc k) (elim q as (λ z. ℕ) [ true ↦ j | false ↦ first_from b s e off (suc j) k ])
      go true g more = record { none = f; it = g; inside = omega arith }
      go false g more =
          let z : j + suc k ≡ suc j + k = omega arith in
          let r = more (named_next e off j f g) (ap (named_to b s e off) (sym z) ∙ h) in
          record { none = r.none; it = r.it; inside = omega (arith, r.inside, z) }

  -- a word with the name is a name
  name_word : (e off r : ℕ) → is_name b s e off r ≡ true → word_name b s e r ≡ str_at b s off ∷ []
  unfolding is_name word_name
  name_word e off r h = go (eqb (role (e % 32) r) 1) h
    where
      go : (q : Bool) → ◌≡◌ {A = Bool} (elim q [ true ↦ same_bytes (str_at b s (word_of b s e r)) (str_at b s off) | false ↦ false ]) true
          → ◌≡◌ {A = List Name} (elim q [ true ↦ str_at b s (word_of b s e r) ∷ [] | false ↦ [] ]) (str_at b s off ∷ [])
      go true g = ap (λ (n : Name). n ∷ []) (bytes_same (str_at b s (word_of b s e r)) (str_at b s off) g)
      go false g = absurd (true≢false (sym g))

  module _ (start ids : List ℕ) where
    -- ---- lengths of new names

    name_size : (x e j : ℕ) → length (name_bytes b s start ids x e j) ≡ new_size b s start ids x e j
    unfolding name_bytes new_size
    name_size x e j = go (is_new b s start ids x e j)
      where
        go : (q : Bool) → length {A = ℕ} (elim q as (λ z. List ℕ) [ true ↦ str_at b s (word_of b s e j) ++ (0 ∷ []) | false ↦ [] ]) ≡ elim q as (λ z. ℕ) [ true ↦ length (str_at b s (word_of b s e j)) + 1 | false ↦ 0 ]
        go true = length-append (str_at b s (word_of b s e j)) (0 ∷ [])
        go false = refl

    names_size : (x e n : ℕ) → length (names_bytes b s start ids x e n) ≡ new_sizes b s start ids x e n
    unfolding names_bytes new_sizes
    names_size x e zero = refl
    names_size x e (suc n) = length-append (names_bytes b s start ids x e n) (name_bytes b s start ids x e n) ∙ (λ i. names_size x e n i + name_size x e n i)

    before_size : (x e n : ℕ) → length (encode_strings (stored (before b s start ids x e n))) ≡ base_of b s start ids x + new_sizes b s start ids x e n
    before_size x e n =
        ap length (names_bytes_lem b s start ids x e n ∙ ap (λ (l : List ℕ). l ++ names_bytes b s start ids x e n) (strings_are b s start ids x))
        ∙ length-append (strings_bytes b s start ids x) (names_bytes b s start ids x e n)
        ∙ (λ i. strings_length b s start ids x i + names_size x e n i)

    -- ---- a stored name stays where it is

    -- where the name stands once these are stored
    record Stands (name : Name) (ns : List Name) (at : ℕ) : Type 0 where
      is : has (stored ns) name ≡ true
      place : place_in (stored ns) name ≡ at

    longer : (name : Name) (ns more : List Name) (at : ℕ) → Stands name ns at → Stands name (ns ++ more) at
    longer name ns more at h = record {
      is = ap (λ (l : List Name). has l name) (store_append first_names ns more) ∙ keeps_store (stored ns) more name h.is;
      place = ap (λ (l : List Name). place_in l name) (store_append first_names ns more) ∙ place_store (stored ns) more name h.is ∙ h.place;
    }

    -- the name of word r, which is the first to have it
    stands_first : (x e off n r : ℕ) → is_empty (str_at b s off) ≡ false → mentioned_to b s start ids off x ≡ false → First e off n r
        → Stands (str_at b s off) (before b s start ids x e (suc r)) (base_of b s start ids x + new_sizes b s start ids x e r)
    unfolding names_to
    stands_first x e off n r z m f = subst (λ (l : List Name). Stands N l at) (append_assoc (names_before b s start ids x) (names_to b s e r) (word_name b s e r)) here
      where
        N : Name
        N = str_at b s off

        at : ℕ
        at = base_of b s start ids x + new_sizes b s start ids x e r

        ss : List Name
        ss = stored (before b s start ids x e r)

        new : has ss N ≡ false
        new = stored_has b s start ids x e r off ∙ (λ t. or_else (z t) (or_else (m t) (f.none t)))

        same : stored (before b s start ids x e r ++ word_name b s e r) ≡ ss ++ (N ∷ [])
        same = store_append first_names (before b s start ids x e r) (word_name b s e r) ∙ ap (store ss) (name_word e off r f.it) ∙ one ss N ∙ add_new ss N new

        here : Stands N (before b s start ids x e r ++ word_name b s e r) at
        here = record {
          is = ap (λ (l : List Name). has l N) same ∙ has_new;
          place = ap (λ (l : List Name). place_in l N) same ∙ place_last ss N new ∙ before_size x e r;
        }
          where
            has_new : has (ss ++ (N ∷ [])) N ≡ true
            has_new = ap (λ (l : List Name). has l N) (sym (add_new ss N new)) ∙ add_has ss N

    -- further words of the record
    stands_more : (x e off r d at : ℕ) → Stands (str_at b s off) (before b s start ids x e r) at → Stands (str_at b s off) (before b s start ids x e (r + d)) at
    unfolding names_to
    stands_more x e off r zero at h = let z : r + 0 ≡ r = omega arith in subst (λ (n : ℕ). Stands (str_at b s off) (before b s start ids x e n) at) (sym z) h
    stands_more x e off r (suc d) at h =
        let z : r + suc d ≡ suc (r + d) = omega arith in
        subst (λ (n : ℕ). Stands (str_at b s off) (before b s start ids x e n) at) (sym z)
        (subst (λ (l : List Name). Stands (str_at b s off) l at) (append_assoc (names_before b s start ids x) (names_to b s e (r + d)) (word_name b s e (r + d)))
        (longer (str_at b s off) (before b s start ids x e (r + d)) (word_name b s e (r + d)) at (stands_more x e off r d at h)))

    -- further types
    stands_on : (off x d at : ℕ) → Stands (str_at b s off) (names_before b s start ids x) at → Stands (str_at b s off) (names_before b s start ids (x + d)) at
    unfolding names_before
    stands_on off x zero at h = let z : x + 0 ≡ x = omega arith in subst (λ (n : ℕ). Stands (str_at b s off) (names_before b s start ids n) at) (sym z) h
    stands_on off x (suc d) at h =
        let z : x + suc d ≡ suc (x + d) = omega arith in
        subst (λ (n : ℕ). Stands (str_at b s off) (names_before b s start ids n) at) (sym z)
        (longer (str_at b s off) (names_before b s start ids (x + d)) (kept_names b s start ids (x + d)) at (stands_on off x d at h))

    -- ---- the bases

    base_up : (x d : ℕ) → base_of b s start ids x ≤ base_of b s start ids (x + d)
    unfolding base_of
    base_up x zero = let z : x + 0 ≡ x = omega arith in omega (arith, ap (base_of b s start ids) z)
    base_up x (suc d) = let z : x + suc d ≡ suc (x + d) = omega arith in omega (arith, ap (base_of b s start ids) z, base_up x d)

    base_some : (x : ℕ) → 1 ≤ base_of b s start ids x
    unfolding base_of
    base_some zero = omega arith
    base_some (suc x) = omega (arith, base_some x)

    bases_long : (l : List ℕ) (n : ℕ) → length (bases_to b s start ids l n) ≡ length l
    unfolding bases_to
    bases_long l zero = refl
    bases_long l (suc n) = length-set (bases_to b s start ids l n) n (base_of b s start ids n % 4294967296) ∙ bases_long l n

    bases_at : (l : List ℕ) (n x : ℕ) → x < n → n ≤ length l → get_or (bases_to b s start ids l n) x 0 ≡ base_of b s start ids x % 4294967296
    unfolding bases_to
    bases_at l zero x h k = absurd (omega (arith, h))
    bases_at l (suc n) x h k =
        elim (ℕ_discrete x n) [
          | yes e ↦ ap (λ (j : ℕ). get_or (bases_to b s start ids l (suc n)) j 0) e
              ∙ get_or-set_same (bases_to b s start ids l n) n (base_of b s start ids n % 4294967296) 0 (omega (arith, bases_long l n, k))
              ∙ ap (λ (j : ℕ). base_of b s start ids j % 4294967296) (sym e)
          | no ne ↦ get_or-set_other (bases_to b s start ids l n) n x (base_of b s start ids n % 4294967296) 0 ne ∙ bases_at l n x (omega (arith, h, ne)) (omega (arith, k))
        ]

    -- ---- where the code finds a name. bases: the lengths before each type, of a table whose strings are not too long

    before_next : (x : ℕ) → names_before b s start ids (suc x) ≡ names_before b s start ids x ++ kept_names b s start ids x
    unfolding names_before
    before_next x = refl

    first_from_lem : (e off n : ℕ) → named_to b s e off n ≡ true → First e off n (first_from b s e off 0 n)
    unfolding named_to
    first_from_lem e off n h = let z : 0 + n ≡ n = omega arith in subst (λ (i : ℕ). First e off i (first_from b s e off 0 n)) z (first_is e off 0 n refl (ap (named_to b s e off) z ∙ h))

    module _ (bases : List ℕ) (count : ℕ) (good : (x : ℕ) → x < count → get_or bases x 0 ≡ base_of b s start ids x) where
      -- a type that is kept and mentions the name
      mentions_kept : (off x : ℕ) → mentions b s start ids off x ≡ true
          → (named_to b s (entry_at b start x) off (words_in b s (entry_at b start x)) ≡ true) × (kept_names b s start ids x ≡ names_to b s (entry_at b start x) (words_in b s (entry_at b start x)))
      unfolding mentions kept_names
      mentions_kept off x h = go (eqb (get_or ids x 0) 0) h
        where
          go : (q : Bool) → ◌≡◌ {A = Bool} (elim q [ true ↦ false | false ↦ named_to b s (entry_at b start x) off (words_in b s (entry_at b start x)) ]) true
              → (named_to b s (entry_at b start x) off (words_in b s (entry_at b start x)) ≡ true)
              × (◌≡◌ {A = List Name} (elim q [ true ↦ [] | false ↦ names_to b s (entry_at b start x) (words_in b s (entry_at b start x)) ]) (names_to b s (entry_at b start x) (words_in b s (entry_at b start x))))
          go true g = absurd (true≢false (sym g))
          go false g = (g, refl)

      place_mentioned : (off x : ℕ) → mentions b s start ids off x ≡ true
          → place_at b s start ids bases off x ≡ get_or bases x 0 + new_sizes b s start ids x (entry_at b start x) (first_from b s (entry_at b start x) off 0 (words_in b s (entry_at b start x)))
      unfolding place_at
      place_mentioned off x h = ap (λ (q : Bool). elim q as (λ z. ℕ) [ false ↦ 0 | true ↦ get_or bases x 0 + new_sizes b s start ids x (entry_at b start x) (first_from b s (entry_at b start x) off 0 (words_in b s (entry_at b start x))) ]) h

      place_not : (off x : ℕ) → mentions b s start ids off x ≡ false → place_at b s start ids bases off x ≡ 0
      unfolding place_at
      place_not off x h = ap (λ (q : Bool). elim q as (λ z. ℕ) [ false ↦ 0 | true ↦ get_or bases x 0 + new_sizes b s start ids x (entry_at b start x) (first_from b s (entry_at b start x) off 0 (words_in b s (entry_at b start x))) ]) h

      mentioned_next : (off x : ℕ) → mentioned_to b s start ids off x ≡ false → mentions b s start ids off x ≡ false → mentioned_to b s start ids off (suc x) ≡ false
      unfolding mentioned_to or_mentions
      mentioned_next off x f g = λ t. or_else (f t) (g t)

      -- the first such type
      found_at : (off x : ℕ) → x < count → is_empty (str_at b s off) ≡ false → mentioned_to b s start ids off x ≡ false → mentions b s start ids off x ≡ true
          → (place_at b s start ids bases off x ≡ place_in (stored (names_before b s start ids count)) (str_at b s off)) × (1 ≤ place_at b s start ids bases off x)
      found_at off x l z m h =
          let at = place_at_is in
          (at ∙ sym whole.place, omega (arith, at, base_some x))
        where
          e : ℕ
          e = entry_at b start x

          n : ℕ
          n = words_in b s e

          r : ℕ
          r = first_from b s e off 0 n

          k : (named_to b s e off n ≡ true) × (kept_names b s start ids x ≡ names_to b s e n)
          k = mentions_kept off x h

          f : First e off n r
          f = first_from_lem e off n k.0

          v : ℕ
          v = base_of b s start ids x + new_sizes b s start ids x e r

          own : Stands (str_at b s off) (before b s start ids x e n) v
          own = let y : suc r + (n - suc r) ≡ n = omega (arith, f.inside) in
              subst (λ (i : ℕ). Stands (str_at b s off) (before b s start ids x e i) v) y (stands_more x e off (suc r) (n - suc r) v (stands_first x e off n r z m f))

          next : Stands (str_at b s off) (names_before b s start ids (suc x)) v
          next = subst (λ (l : List Name). Stands (str_at b s off) l v) (sym (before_next x ∙ ap (λ (t : List Name). names_before b s start ids x ++ t) k.1)) own

          whole : Stands (str_at b s off) (names_before b s start ids count) v
          whole = let y : suc x + (count - suc x) ≡ count = omega (arith, l) in
              subst (λ (i : ℕ). Stands (str_at b s off) (names_before b s start ids i) v) y (stands_on off (suc x) (count - suc x) v next)

          place_at_is : place_at b s start ids bases off x ≡ v
          place_at_is = place_mentioned off x h ∙ ap (λ (i : ℕ). i + new_sizes b s start ids x e r) (good x l)

      found_from : (off x k : ℕ) → x + k ≤ count → is_empty (str_at b s off) ≡ false → mentioned_to b s start ids off x ≡ false → mentioned_to b s start ids off (x + k) ≡ true
          → place_from b s start ids bases off x k ≡ place_in (stored (names_before b s start ids count)) (str_at b s off)
      unfolding place_from
      found_from off x zero l z m h = let y : x + 0 ≡ x = omega arith in absurd (true≢false (sym h ∙ ap (mentioned_to b s start ids off) y ∙ m))
      found_from off x (suc k) l z m h = go (mentions b s start ids off x) refl (found_from off (suc x) k)
        where
          then : (p : ℕ) → 1 ≤ p → ◌≡◌ {A = ℕ} (elim p [ zero ↦ place_from b s start ids bases off (suc x) k | suc q ↦ suc q ]) p
          then zero c = absurd (omega (arith, c))
          then (suc q) c = refl

          go : (q : Bool) → mentions b s start ids off x ≡ q
              → (suc x + k ≤ count → is_empty (str_at b s off) ≡ false → mentioned_to b s start ids off (suc x) ≡ false → mentioned_to b s start ids off (suc x + k) ≡ true
              → place_from b s start ids bases off (suc x) k ≡ place_in (stored (names_before b s start ids count)) (str_at b s off))
              → ◌≡◌ {A = ℕ} (elim (place_at b s start ids bases off x) [ zero ↦ place_from b s start ids bases off (suc x) k | suc p ↦ suc p ]) (place_in (stored (names_before b s start ids count)) (str_at b s off))
          go true g more = let r = found_at off x (omega (arith, l)) z m g in then (place_at b s start ids bases off x) r.1 ∙ r.0
          go false g more =
              let y : x + suc k ≡ suc x + k = omega arith in
              ap (λ (p : ℕ). elim p as (λ t. ℕ) [ zero ↦ place_from b s start ids bases off (suc x) k | suc p ↦ suc p ]) (place_not off x g)
              ∙ more (omega (arith, l)) z (mentioned_next off x m g) (ap (mentioned_to b s start ids off) (sym y) ∙ h)

    none : (off : ℕ) → mentioned_to b s start ids off 0 ≡ false
    unfolding mentioned_to
    none off = refl

    -- THE PLACES: of a name that is mentioned, where the strings have 16,777,216 bytes at most
    pub place_is : base_of b s start ids (type_count b) ≤ 16777216 → type_count b ≤ 262145 → (off : ℕ) → has (names_before b s start ids (type_count b)) (str_at b s off) ≡ true
        → place_of b s start ids (bases_to b s start ids zero_bases (type_count b)) off ≡ place_in (stored (names_before b s start ids (type_count b))) (str_at b s off)
    unfolding place_of
    place_is short few off h = go (is_empty (str_at b s off)) refl
      where
        bases : List ℕ
        bases = bases_to b s start ids zero_bases (type_count b)

        good : (x : ℕ) → x < type_count b → get_or bases x 0 ≡ base_of b s start ids x
        good x l =
            let y : x + (type_count b - x) ≡ type_count b = omega (arith, l) in
            let up : base_of b s start ids x ≤ base_of b s start ids (type_count b) = subst (λ (i : ℕ). base_of b s start ids x ≤ base_of b s start ids i) y (base_up x (type_count b - x)) in
            let small : base_of b s start ids x % 4294967296 ≡ base_of b s start ids x = omega (arith, up, short) in
            bases_at zero_bases (type_count b) x l (omega (arith, few, zero_bases_lem)) ∙ small

        at : ℕ
        at = place_in (stored (names_before b s start ids (type_count b))) (str_at b s off)

        stands : has (stored (names_before b s start ids (type_count b))) (str_at b s off) ≡ true
        stands = has_stored (names_before b s start ids (type_count b)) (str_at b s off) ∙ ap (or_else (is_empty (str_at b s off))) h ∙ or_true (is_empty (str_at b s off))

        below : at < 4294967296
        below = omega (arith, place_below (stored (names_before b s start ids (type_count b))) (str_at b s off) stands, ap length (strings_are b s start ids (type_count b)), strings_length b s start ids (type_count b), short)

        go : (q : Bool) → is_empty (str_at b s off) ≡ q → ◌≡◌ {A = ℕ} (elim q [ true ↦ 0 | false ↦ place_from b s start ids bases off 0 (type_count b) % 4294967296 ]) at
        go true e = sym (place_empty (names_before b s start ids (type_count b)) (str_at b s off) e)
        go false e =
            let y : 0 + type_count b ≡ type_count b = omega arith in
            let f = found_from bases (type_count b) good off 0 (type_count b) (omega arith) e (none off) (ap (mentioned_to b s start ids off) y ∙ mentioned_is b s start ids off (type_count b) ∙ h) in
            ap (λ (p : ℕ). p % 4294967296) f ∙ word_small at below
