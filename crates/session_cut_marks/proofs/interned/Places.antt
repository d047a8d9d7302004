-- Where a name stands: a name that is mentioned for the first time at the length so far, one that was mentioned before below it. Assumes nothing.
use Prim.Native.Nat.{ℕ, zero, suc, ◌+◌, ◌-◌, ◌%◌, ◌<◌, ◌≤◌}
use native.Mathlib.Omega.{arith}
use native.Mathlib.Decide.{ℕ_discrete}
use mathlib.Core.Path.{◌≡◌, refl, sym, ◌∙◌, ap}
use mathlib.Core.Bool.{Bool, true, false, not, true≢false}
use mathlib.Core.List.{List}
use lib.ListN.{length, get_or, length-set, length-replicate}
use lib.Seq.{get_or-set_same, get_or-set_other}
use lib.Dec.{eqb}
use borrow.Author.Tests.{ne_eqb}
use Rattle.spec_c_dumper.specs.rules.Types.{is_empty}
use Rattle.spec_c_dumper.specs.rules.Names.{same_bytes}
use Rattle.spec_c_dumper.proofs.rules.Names.{bytes_self, bytes_same}
use Rattle.spec_type_table.specs.declared.types.TypeTable.{TypeTable}
use Rattle.spec_type_table.specs.Names.{str_at}
use Rattle.btf_open_causes.specs.references.Followed.{type_count, entry_at}
use Rattle.btf_open_causes.specs.references.Bounds.{count_fits}
use Rattle.session_cut_marks.specs.roles.Words.{role, words_in, word_of}
use Rattle.session_cut_marks.specs.interned.Right.{all_bases}
use Rattle.session_cut_marks.specs.mentioned.Names.{zero_bases, is_name, or_name, named_to, first_from, mentions, or_mentions, mentioned_to, is_new, new_size, new_sizes, record_size, base_of, bases_to, place_at, place_from, place_of}

pub zero_bases_lem : length zero_bases ≡ 262145
unfolding zero_bases
zero_bases_lem = length-replicate {A = ℕ} 262145 0

pub data Below (a c : ℕ) : Type 0 where
  below : a ≤ c → Below a c
  above : c < a → Below a c

pub compare : (a c : ℕ) → Below a c
compare zero c = below (omega arith)
compare (suc a) zero = above (omega arith)
compare (suc a) (suc c) = elim (compare a c) [ below h ↦ below (omega (arith, h)) | above h ↦ above (omega (arith, h)) ]

abbrev pub or_else : Bool → Bool → Bool
or_else p q = elim p as (λ z. Bool) [ true ↦ true | false ↦ q ]

pub or_false : (p q : Bool) → or_else p q ≡ false → (p ≡ false) × (q ≡ false)
or_false true q h = absurd (true≢false h)
or_false false q h = (refl, h)

or_true : (p q : Bool) → q ≡ true → or_else p q ≡ true
or_true true q h = refl
or_true false q h = h

module _ (b : TypeTable) (s : List ℕ) where
  -- a word with the name
  pub name_if_lem : (e off j : ℕ) → is_name b s e off j ≡ true → (eqb (role (e % 32) j) 1 ≡ true) × (str_at b s (word_of b s e j) ≡ str_at b s off)
  unfolding is_name
  name_if_lem e off j h = go (eqb (role (e % 32) j) 1) h
    where
      go : (q : Bool) → ◌≡◌ {A = Bool} (elim q [ true ↦ same_bytes (str_at b s (word_of b s e j)) (str_at b s off) | false ↦ false ]) true → (q ≡ true) × (str_at b s (word_of b s e j) ≡ str_at b s off)
      go true g = (refl, bytes_same (str_at b s (word_of b s e j)) (str_at b s off) g)
      go false g = absurd (true≢false (sym g))

  pub is_same : (e off j : ℕ) → eqb (role (e % 32) j) 1 ≡ true → str_at b s (word_of b s e j) ≡ str_at b s off → is_name b s e off j ≡ true
  unfolding is_name
  is_same e off j r h =
      ap (λ (q : Bool). elim q as (λ z. Bool) [ true ↦ same_bytes (str_at b s (word_of b s e j)) (str_at b s off) | false ↦ false ]) r
      ∙ ap (λ (l : List ℕ). same_bytes l (str_at b s off)) h ∙ bytes_self (str_at b s off)

  module _ (e off : ℕ) where
    pub named_next : (j : ℕ) → named_to b s e off (suc j) ≡ or_else (named_to b s e off j) (is_name b s e off j)
    unfolding named_to or_name
    named_next j = refl

    named_none : (n j : ℕ) → j < n → named_to b s e off n ≡ false → is_name b s e off j ≡ false
    named_none zero j l h = absurd (omega (arith, l))
    named_none (suc n) j l h =
        let r = or_false (named_to b s e off n) (is_name b s e off n) (sym (named_next n) ∙ h) in
        elim (ℕ_discrete j n) [
          | yes z ↦ ap (is_name b s e off) z ∙ r.1
          | no ne ↦ named_none n j (omega (arith, l, ne)) r.0
        ]

    named_some : (n j : ℕ) → j < n → is_name b s e off j ≡ true → named_to b s e off n ≡ true
    named_some zero j l h = absurd (omega (arith, l))
    named_some (suc n) j l h =
        elim (ℕ_discrete j n) [
          | yes z ↦ named_next n ∙ or_true (named_to b s e off n) (is_name b s e off n) (ap (is_name b s e off) (sym z) ∙ h)
          | no ne ↦ named_next n ∙ ap (λ (q : Bool). or_else q (is_name b s e off n)) (named_some n j (omega (arith, l, ne)) h)
        ]

    first_skip : (d i k : ℕ) → d < k → named_to b s e off (i + d) ≡ false → is_name b s e off (i + d) ≡ true → first_from b s e off i k ≡ i + d
    unfolding first_from
    first_skip d i zero l f h = absurd (omega (arith, l))
    first_skip zero i (suc k) l f h =
        let z : i + 0 ≡ i = omega arith in
        ap (λ (q : Bool). elim q as (λ u. ℕ) [ true ↦ i | false ↦ first_from b s e off (suc i) k ]) (ap (is_name b s e off) (sym z) ∙ h) ∙ sym z
    first_skip (suc d) i (suc k) l f h =
        let z : i + suc d ≡ suc i + d = omega arith in
        ap (λ (q : Bool). elim q as (λ u. ℕ) [ true ↦ i | false ↦ first_from b s e off (suc i) k ]) (named_none (i + suc d) i (omega arith) f)
        ∙ first_skip d (suc i) k (omega (arith, l)) (ap (named_to b s e off) (sym z) ∙ f) (ap (is_name b s e off) (sym z) ∙ h) ∙ sym z

  -- offsets of the same name
  module _ (p q : ℕ) (h : str_at b s p ≡ str_at b s q) where
    same_is : (e j : ℕ) → is_name b s e p j ≡ is_name b s e q j
    unfolding is_name
    same_is e j = ap (λ (l : List ℕ). elim (eqb (role (e % 32) j) 1) as (λ z. Bool) [ true ↦ same_bytes (str_at b s (word_of b s e j)) l | false ↦ false ]) h

    same_named : (e n : ℕ) → named_to b s e p n ≡ named_to b s e q n
    unfolding named_to or_name
    same_named e zero = refl
    same_named e (suc n) = λ i. or_else (same_named e n i) (same_is e n i)

    same_mentioned : (start ids : List ℕ) (x : ℕ) → mentioned_to b s start ids p x ≡ mentioned_to b s start ids q x
    unfolding mentioned_to or_mentions mentions
    same_mentioned start ids zero = refl
    same_mentioned start ids (suc x) =
        λ i. or_else (same_mentioned start ids x i) (elim (eqb (get_or ids x 0) 0) as (λ z. Bool) [ true ↦ false | false ↦ same_named (entry_at b start x) (words_in b s (entry_at b start x)) i ])

  module _ (start ids : List ℕ) where
    -- one of the types before x mentions the name, or one of the first j words of the record with entry e
    unfoldable pub seen : ℕ → ℕ → ℕ → ℕ → Bool
    seen off x e j = or_else (mentioned_to b s start ids off x) (named_to b s e off j)

    -- ---- whether word j is new, and the bytes that it takes in the strings
    module _ (x e j : ℕ) where
      abbrev New : Bool → Bool → Bool → Bool → Bool
      New r m p q = elim r as (λ z. Bool) [ false ↦ false | true ↦ elim m as (λ z. Bool) [ true ↦ false | false ↦ elim p as (λ z. Bool) [ true ↦ false | false ↦ not q ] ] ]

      abbrev Size : Bool → ℕ
      Size q = elim q as (λ z. ℕ) [ true ↦ length (str_at b s (word_of b s e j)) + 1 | false ↦ 0 ]

      new_size_lem : (q : Bool) → is_new b s start ids x e j ≡ q → new_size b s start ids x e j ≡ Size q
      unfolding new_size
      new_size_lem q h = ap Size h

      pub new_other : eqb (role (e % 32) j) 1 ≡ false → is_new b s start ids x e j ≡ false
      unfolding is_new
      new_other r = ap (λ (q : Bool). New q (is_empty (str_at b s (word_of b s e j))) (mentioned_to b s start ids (word_of b s e j) x) (named_to b s e (word_of b s e j) j)) r

      pub size_other : eqb (role (e % 32) j) 1 ≡ false → new_size b s start ids x e j ≡ 0
      size_other r = new_size_lem false (new_other r)

      module _ (r : eqb (role (e % 32) j) 1 ≡ true) where
        pub new_empty : is_empty (str_at b s (word_of b s e j)) ≡ true → is_new b s start ids x e j ≡ false
        unfolding is_new
        new_empty h = λ i. New (r i) (h i) (mentioned_to b s start ids (word_of b s e j) x) (named_to b s e (word_of b s e j) j)

        pub size_empty : is_empty (str_at b s (word_of b s e j)) ≡ true → new_size b s start ids x e j ≡ 0
        size_empty h = new_size_lem false (new_empty h)

        module _ (some : is_empty (str_at b s (word_of b s e j)) ≡ false) where
          pub new_first : seen (word_of b s e j) x e j ≡ false → is_new b s start ids x e j ≡ true
          unfolding seen is_new
          new_first h = let m = or_false (mentioned_to b s start ids (word_of b s e j) x) (named_to b s e (word_of b s e j) j) h in λ i. New (r i) (some i) (m.0 i) (m.1 i)

          pub new_later : seen (word_of b s e j) x e j ≡ true → is_new b s start ids x e j ≡ false
          unfolding seen is_new
          new_later h =
              (λ i. New (r i) (some i) (mentioned_to b s start ids (word_of b s e j) x) (named_to b s e (word_of b s e j) j))
              ∙ go (mentioned_to b s start ids (word_of b s e j) x) (named_to b s e (word_of b s e j) j) h
            where
              go : (p q : Bool) → or_else p q ≡ true → ◌≡◌ {A = Bool} (elim p [ true ↦ false | false ↦ not q ]) false
              go true q y = refl
              go false true y = refl
              go false false y = absurd (true≢false (sym y))

          pub size_new : seen (word_of b s e j) x e j ≡ false → new_size b s start ids x e j ≡ length (str_at b s (word_of b s e j)) + 1
          size_new h = new_size_lem true (new_first h)

          pub size_old : seen (word_of b s e j) x e j ≡ true → new_size b s start ids x e j ≡ 0
          size_old h = new_size_lem false (new_later h)

    pub mentioned_next : (off x : ℕ) → mentioned_to b s start ids off (suc x) ≡ or_else (mentioned_to b s start ids off x) (mentions b s start ids off x)
    unfolding mentioned_to or_mentions
    mentioned_next off x = refl

    mentioned_none : (off n x : ℕ) → x < n → mentioned_to b s start ids off n ≡ false → mentions b s start ids off x ≡ false
    mentioned_none off zero x l h = absurd (omega (arith, l))
    mentioned_none off (suc n) x l h =
        let r = or_false (mentioned_to b s start ids off n) (mentions b s start ids off n) (sym (mentioned_next off n) ∙ h) in
        elim (ℕ_discrete x n) [
          | yes z ↦ ap (mentions b s start ids off) z ∙ r.1
          | no ne ↦ mentioned_none off n x (omega (arith, l, ne)) r.0
        ]

    -- a kept type
    pub kept_mentions : (off x : ℕ) → (get_or ids x 0 ≡ 0 → ⊥) → mentions b s start ids off x ≡ named_to b s (entry_at b start x) off (words_in b s (entry_at b start x))
    unfolding mentions
    kept_mentions off x n = ap (λ (q : Bool). elim q as (λ z. Bool) [ true ↦ false | false ↦ named_to b s (entry_at b start x) off (words_in b s (entry_at b start x)) ]) (ne_eqb (get_or ids x 0) 0 n)

    pub kept_size : (x : ℕ) → (get_or ids x 0 ≡ 0 → ⊥) → record_size b s start ids x ≡ new_sizes b s start ids x (entry_at b start x) (words_in b s (entry_at b start x))
    unfolding record_size
    kept_size x n = ap (λ (q : Bool). elim q as (λ z. ℕ) [ true ↦ 0 | false ↦ new_sizes b s start ids x (entry_at b start x) (words_in b s (entry_at b start x)) ]) (ne_eqb (get_or ids x 0) 0 n)

    mentions_kept : (off x : ℕ) → mentions b s start ids off x ≡ true → get_or ids x 0 ≡ 0 → ⊥
    unfolding mentions
    mentions_kept off x h z = true≢false (sym h ∙ ap (λ (v : ℕ). elim (eqb v 0) as (λ u. Bool) [ true ↦ false | false ↦ named_to b s (entry_at b start x) off (words_in b s (entry_at b start x)) ]) z)

    -- ---- the bases
    pub base_some : (x : ℕ) → 1 ≤ base_of b s start ids x
    unfolding base_of
    base_some zero = omega arith
    base_some (suc x) = omega (arith, base_some x)

    pub base_next : (x : ℕ) → base_of b s start ids (suc x) ≡ base_of b s start ids x + record_size b s start ids x
    unfolding base_of
    base_next x = refl

    pub base_up : (x d : ℕ) → base_of b s start ids x ≤ base_of b s start ids (x + d)
    base_up x zero = let z : x + 0 ≡ x = omega arith in omega (arith, ap (base_of b s start ids) z)
    base_up x (suc d) = let z : x + suc d ≡ suc (x + d) = omega arith in omega (arith, ap (base_of b s start ids) z, base_next (x + d), base_up x d)

    bases_long : (l : List ℕ) (n : ℕ) → length (bases_to b s start ids l n) ≡ length l
    unfolding bases_to
    bases_long l zero = refl
    bases_long l (suc n) = length-set (bases_to b s start ids l n) n (base_of b s start ids n % 4294967296) ∙ bases_long l n

    bases_at : (l : List ℕ) (n x : ℕ) → x < n → n ≤ length l → get_or (bases_to b s start ids l n) x 0 ≡ base_of b s start ids x % 4294967296
    unfolding bases_to
    bases_at l zero x h k = absurd (omega (arith, h))
    bases_at l (suc n) x h k =
        elim (ℕ_discrete x n) [
          | yes e ↦ ap (λ (j : ℕ). get_or (bases_to b s start ids l (suc n)) j 0) e
              ∙ get_or-set_same (bases_to b s start ids l n) n (base_of b s start ids n % 4294967296) 0 (omega (arith, bases_long l n, k))
              ∙ ap (λ (j : ℕ). base_of b s start ids j % 4294967296) (sym e)
          | no ne ↦ get_or-set_other (bases_to b s start ids l n) n x (base_of b s start ids n % 4294967296) 0 ne ∙ bases_at l n x (omega (arith, h, ne)) (omega (arith, k))
        ]

    abbrev bases : List ℕ
    bases = all_bases b s start ids

    pub base_is : (x : ℕ) → x < type_count b → base_of b s start ids x ≤ 16777216 → get_or bases x 0 ≡ base_of b s start ids x
    base_is x l k =
        let small : base_of b s start ids x % 4294967296 ≡ base_of b s start ids x = omega (arith, k) in
        bases_at zero_bases (type_count b) x l (omega (arith, count_fits b, zero_bases_lem)) ∙ small

    -- ---- the type that mentions a name for the first time
    place_not : (off x : ℕ) → mentions b s start ids off x ≡ false → place_at b s start ids bases off x ≡ 0
    unfolding place_at
    place_not off x h = ap (λ (q : Bool). elim q as (λ z. ℕ) [ false ↦ 0 | true ↦ get_or bases x 0 + new_sizes b s start ids x (entry_at b start x) (first_from b s (entry_at b start x) off 0 (words_in b s (entry_at b start x))) ]) h

    place_mentioned : (off x : ℕ) → mentions b s start ids off x ≡ true
        → place_at b s start ids bases off x ≡ get_or bases x 0 + new_sizes b s start ids x (entry_at b start x) (first_from b s (entry_at b start x) off 0 (words_in b s (entry_at b start x)))
    unfolding place_at
    place_mentioned off x h = ap (λ (q : Bool). elim q as (λ z. ℕ) [ false ↦ 0 | true ↦ get_or bases x 0 + new_sizes b s start ids x (entry_at b start x) (first_from b s (entry_at b start x) off 0 (words_in b s (entry_at b start x))) ]) h

    from_skip : (off p d x k : ℕ) → d < k → mentioned_to b s start ids off (x + d) ≡ false → place_at b s start ids bases off (x + d) ≡ suc p → place_from b s start ids bases off x k ≡ suc p
    unfolding place_from
    from_skip off p d x zero l f h = absurd (omega (arith, l))
    from_skip off p zero x (suc k) l f h =
        let z : x + 0 ≡ x = omega arith in
        ap (λ (v : ℕ). elim v as (λ u. ℕ) [ zero ↦ place_from b s start ids bases off (suc x) k | suc w ↦ suc w ]) (ap (place_at b s start ids bases off) (sym z) ∙ h)
    from_skip off p (suc d) x (suc k) l f h =
        let z : x + suc d ≡ suc x + d = omega arith in
        ap (λ (v : ℕ). elim v as (λ u. ℕ) [ zero ↦ place_from b s start ids bases off (suc x) k | suc w ↦ suc w ]) (place_not off x (mentioned_none off (x + suc d) x (omega arith) f))
        ∙ from_skip off p d (suc x) k (omega (arith, l)) (ap (mentioned_to b s start ids off) (sym z) ∙ f) (ap (place_at b s start ids bases off) (sym z) ∙ h)

    place_some : (off p : ℕ) → is_empty (str_at b s off) ≡ false → place_from b s start ids bases off 0 (type_count b) ≡ p → p ≤ 16777216 → place_of b s start ids bases off ≡ p
    unfolding place_of
    place_some off p n h l =
        let z : p % 4294967296 ≡ p = omega (arith, l) in
        ap (λ (q : Bool). elim q as (λ u. ℕ) [ true ↦ 0 | false ↦ place_from b s start ids bases off 0 (type_count b) % 4294967296 ]) n ∙ ap (λ (v : ℕ). v % 4294967296) h ∙ z

    -- word j of type x, which is kept. off: a name that is not empty
    module _ (x : ℕ) (l : x < type_count b) (kept : get_or ids x 0 ≡ 0 → ⊥) (off : ℕ) (some : is_empty (str_at b s off) ≡ false) where
      -- FOR THE FIRST TIME: the place is the length so far
      pub place_new : (j : ℕ) → j < words_in b s (entry_at b start x) → seen off x (entry_at b start x) j ≡ false → is_name b s (entry_at b start x) off j ≡ true
          → base_of b s start ids x + new_sizes b s start ids x (entry_at b start x) j ≤ 16777216
          → place_of b s start ids bases off ≡ base_of b s start ids x + new_sizes b s start ids x (entry_at b start x) j
      unfolding seen
      place_new j k f h small =
          let e : ℕ = entry_at b start x in
          let n : ℕ = words_in b s e in
          let v : ℕ = base_of b s start ids x + new_sizes b s start ids x e j in
          let r = or_false (mentioned_to b s start ids off x) (named_to b s e off j) f in
          let z : suc (v - 1) ≡ v = omega (arith, base_some x) in
          let first : first_from b s e off 0 n ≡ j = first_skip e off j 0 n k (ap (named_to b s e off) (from_zero j) ∙ r.1) (ap (is_name b s e off) (from_zero j) ∙ h) ∙ from_zero j in
          let at : place_at b s start ids bases off x ≡ v =
          place_mentioned off x (kept_mentions off x kept ∙ named_some e off n j k h)
          ∙ (λ i. base_is x l (omega (arith, small)) i + new_sizes b s start ids x e (first i)) in
          let from : place_from b s start ids bases off 0 (type_count b) ≡ suc (v - 1) =
          from_skip off (v - 1) x 0 (type_count b) l (ap (mentioned_to b s start ids off) (from_zero x) ∙ r.0) (ap (place_at b s start ids bases off) (from_zero x) ∙ at ∙ sym z) in
          place_some off v some (from ∙ z) small
        where
          from_zero : (i : ℕ) → 0 + i ≡ i
          from_zero i = omega arith

      -- a word whose name is new takes room
      new_some : (j : ℕ) → mentioned_to b s start ids off x ≡ false → named_to b s (entry_at b start x) off j ≡ false → is_name b s (entry_at b start x) off j ≡ true → 1 ≤ new_size b s start ids x (entry_at b start x) j
      unfolding seen
      new_some j f g h =
          let e : ℕ = entry_at b start x in
          let w : ℕ = word_of b s e j in
          let r = name_if_lem e off j h in
          let size = size_new x e j r.0 (ap is_empty r.1 ∙ some) (λ i. or_else ((same_mentioned w off r.1 start ids x ∙ f) i) ((same_named w off r.1 e j ∙ g) i)) in
          omega (arith, size)

      old_here : (j : ℕ) → j ≤ words_in b s (entry_at b start x) → mentioned_to b s start ids off x ≡ false → named_to b s (entry_at b start x) off j ≡ true
          → base_of b s start ids x + new_sizes b s start ids x (entry_at b start x) j ≤ 16777216
          → place_of b s start ids bases off < base_of b s start ids x + new_sizes b s start ids x (entry_at b start x) j
      unfolding named_to or_name new_sizes seen
      old_here zero k f h small = absurd (true≢false (sym h))
      old_here (suc j) k f h small = go (named_to b s (entry_at b start x) off j) refl h (old_here j (omega (arith, k)) f)
        where
          e : ℕ
          e = entry_at b start x

          go : (q : Bool) → named_to b s e off j ≡ q → or_else q (is_name b s e off j) ≡ true
              → (named_to b s e off j ≡ true → base_of b s start ids x + new_sizes b s start ids x e j ≤ 16777216 → place_of b s start ids bases off < base_of b s start ids x + new_sizes b s start ids x e j)
              → place_of b s start ids bases off < base_of b s start ids x + (new_sizes b s start ids x e j + new_size b s start ids x e j)
          go true g y more = omega (arith, small, more g (omega (arith, small)))
          go false g y more =
              omega (arith, new_some j f g y, place_new j (omega (arith, k)) (λ i. or_else (f i) (g i)) y (omega (arith, small)))

    old_types : (off : ℕ) → is_empty (str_at b s off) ≡ false → (x : ℕ) → x ≤ type_count b → mentioned_to b s start ids off x ≡ true → base_of b s start ids x ≤ 16777216 → place_of b s start ids bases off < base_of b s start ids x
    unfolding mentioned_to or_mentions base_of
    old_types off some zero l h small = absurd (true≢false (sym h))
    old_types off some (suc x) l h small = go (mentioned_to b s start ids off x) refl h (old_types off some x (omega (arith, l)))
      where
        go : (q : Bool) → mentioned_to b s start ids off x ≡ q → or_else q (mentions b s start ids off x) ≡ true
            → (mentioned_to b s start ids off x ≡ true → base_of b s start ids x ≤ 16777216 → place_of b s start ids bases off < base_of b s start ids x)
            → place_of b s start ids bases off < base_of b s start ids x + record_size b s start ids x
        go true g y more = omega (arith, small, more g (omega (arith, small)))
        go false g y more =
            let kept = mentions_kept off x y in
            let size = kept_size x kept in
            omega (arith, size, old_here x (omega (arith, l)) kept off some (words_in b s (entry_at b start x)) (omega arith) g (sym (kept_mentions off x kept) ∙ y) (omega (arith, size, small)))

    -- MENTIONED BEFORE: the place is below the length so far
    pub place_old : (x : ℕ) → x < type_count b → (get_or ids x 0 ≡ 0 → ⊥) → (off : ℕ) → is_empty (str_at b s off) ≡ false → (j : ℕ) → j ≤ words_in b s (entry_at b start x) → seen off x (entry_at b start x) j ≡ true
        → base_of b s start ids x + new_sizes b s start ids x (entry_at b start x) j ≤ 16777216
        → place_of b s start ids bases off < base_of b s start ids x + new_sizes b s start ids x (entry_at b start x) j
    unfolding seen
    place_old x l kept off some j k h small = go (mentioned_to b s start ids off x) refl h
      where
        go : (q : Bool) → mentioned_to b s start ids off x ≡ q → or_else q (named_to b s (entry_at b start x) off j) ≡ true → place_of b s start ids bases off < base_of b s start ids x + new_sizes b s start ids x (entry_at b start x) j
        go true g y = omega (arith, old_types off some x (omega (arith, l)) g (omega (arith, small)))
        go false g y = old_here x l kept off some j k g y small

    -- ---- the length before a word is at most that of all
    sizes_up : (x e j d : ℕ) → new_sizes b s start ids x e j ≤ new_sizes b s start ids x e (j + d)
    unfolding new_sizes
    sizes_up x e j zero = let z : j + 0 ≡ j = omega arith in omega (arith, ap (new_sizes b s start ids x e) z)
    sizes_up x e j (suc d) = let z : j + suc d ≡ suc (j + d) = omega arith in omega (arith, ap (new_sizes b s start ids x e) z, sizes_up x e j d)

    pub length_small : base_of b s start ids (type_count b) ≤ 16777216 → (x : ℕ) → x < type_count b → (get_or ids x 0 ≡ 0 → ⊥) → (j : ℕ) → j ≤ words_in b s (entry_at b start x)
        → base_of b s start ids x + new_sizes b s start ids x (entry_at b start x) j ≤ 16777216
    length_small small x l kept j k =
        let n : ℕ = words_in b s (entry_at b start x) in
        let y : j + (n - j) ≡ n = omega (arith, k) in
        let z : suc x + (type_count b - suc x) ≡ type_count b = omega (arith, l) in
        omega (arith, sizes_up x (entry_at b start x) j (n - j), ap (new_sizes b s start ids x (entry_at b start x)) y, kept_size x kept, base_next x, base_up (suc x) (type_count b - suc x), ap (base_of b s start ids) z, small)
