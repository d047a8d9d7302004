-- The types that the code writes, and the names that it meets in them, are those of the types that are kept. Assumes nothing.
use Prim.Native.Nat.{ℕ, zero, suc, ◌+◌, ◌<◌, ◌≤◌}
use native.Mathlib.Omega.{arith}
use mathlib.Core.Path.{◌≡◌, refl, sym, ◌∙◌, ap, subst}
use mathlib.Core.Bool.{Bool, true, false, not}
use mathlib.Core.List.{List, [], ◌∷◌, ◌++◌, map, append_assoc}
use lib.ListN.{length, get_or}
use lib.Dec.{eqb}
use borrow.Author.Tests.{eq-eqb, ne_eqb}
use Rattle.std.proofs.lemmas.List.{append-nil, map-append}
use Rattle.spec_linux_btf.specs.Documentation.{Described, encode, encode_all}
use Rattle.spec_linux_btf.specs.Reading.{Bytes}
use Rattle.spec_linux_btf.specs.Section.{header_sound, types_sound}
use Rattle.spec_c_dumper.specs.rules.Types.{Name}
use Rattle.spec_type_table.specs.declared.types.TypeTable.{TypeTable}
use Rattle.spec_type_table.specs.Names.{str_at}
use Rattle.btf_open_causes.specs.references.Followed.{entry_at, type_count}
use Rattle.spec_opening.specs.Table.{described_in, index_of}
use Rattle.spec_opening.specs.Causes.{table_of}
use Rattle.spec_cut.specs.section.Kept.{void_type}
use Rattle.spec_cut.specs.section.Renumbered.{new_id, kept_types, renamed, renamed_all}
use Rattle.spec_cut.specs.section.Strings.{mentions, all_mentions}
use Rattle.spec_cut.proofs.section.Numbers.{new_zero, new_kept, new_dropped, new_le}
use Rattle.session_cut_marks.specs.roles.Words.{words_in}
use Rattle.session_cut_marks.specs.mentioned.Names.{place_of}
use Rattle.session_cut.specs.writer.Bytes.{record_bytes, type_bytes, types_bytes}
use Rattle.session_cut.specs.stored.Mentioned.{names_to, kept_names, names_before}
use Rattle.session_cut.proofs.written.Record.{record_is, names_are, count_is}

-- ---- lists that are made type by type

abbrev all : {A : Type 0} → (Described → List A) → List Described → List A
all g [] = []
all g (t ∷ ts) = g t ++ all g ts

abbrev from_to : {A : Type 0} → (ℕ → List A) → ℕ → ℕ → List A
from_to f x zero = []
from_to f x (suc k) = f x ++ from_to f (suc x) k

-- what is made by adding at the end
joined : {A : Type 0} (made : ℕ → List A) (f : ℕ → List A) → ((x : ℕ) → made (suc x) ≡ made x ++ f x) → (x k : ℕ) → made (x + k) ≡ made x ++ from_to f x k
joined made f step x zero = let z : x + 0 ≡ x = omega arith in ap made z ∙ sym (append-nil (made x))
joined made f step x (suc k) =
    let z : x + suc k ≡ suc x + k = omega arith in
    ap made z ∙ joined made f step (suc x) k ∙ ap (λ l. l ++ from_to f (suc x) k) (step x) ∙ append_assoc (made x) (f x) (from_to f (suc x) k)

-- the types that are kept
walk : {A : Type 0} (g : Described → List A) (f : ℕ → List A) (m : ℕ → Bool) (x : ℕ) (us : List Described)
    → ((i : ℕ) → i < length us → ◌≡◌ {A = List A} (f (x + i)) (elim (m (x + i)) [ true ↦ g (get_or us i void_type) | false ↦ [] ])) → from_to f x (length us) ≡ all g (kept_types m x us)
unfolding kept_types
walk g f m x [] h = refl
walk {A} g f m x (u ∷ us) h =
    go (m x) first
    (walk g f m (suc x) us
    (λ i l. let z : x + suc i ≡ suc x + i = omega arith in subst (λ (k : ℕ). ◌≡◌ {A = List A} (f k) (elim (m k) [ true ↦ g (get_or us i void_type) | false ↦ [] ])) z (h (suc i) (omega (arith, l)))))
  where
    first : ◌≡◌ {A = List A} (f x) (elim (m x) [ true ↦ g u | false ↦ [] ])
    first = let z : x + 0 ≡ x = omega arith in subst (λ (k : ℕ). ◌≡◌ {A = List A} (f k) (elim (m k) [ true ↦ g u | false ↦ [] ])) z (h 0 (omega arith))

    go : (q : Bool) → ◌≡◌ {A = List A} (f x) (elim q [ true ↦ g u | false ↦ [] ]) → from_to f (suc x) (length us) ≡ all g (kept_types m (suc x) us)
        → f x ++ from_to f (suc x) (length us) ≡ all g (elim q as (λ z. List Described) [ true ↦ u ∷ kept_types m (suc x) us | false ↦ kept_types m (suc x) us ])
    go true e r = λ j. e j ++ r j
    go false e r = λ j. e j ++ r j

all_encoded : (big : Bool) (i o : ℕ → ℕ) (ts : List Described) → all (λ t. encode big (renamed i o t)) ts ≡ encode_all big (renamed_all i o ts)
unfolding encode_all
all_encoded big i o [] = refl
all_encoded big i o (t ∷ ts) = ap (λ (l : List ℕ). encode big (renamed i o t) ++ l) (all_encoded big i o ts)

all_mentions_lem : {A : Type 0} (f : ℕ → A) (ts : List Described) → all (λ t. map f (mentions t)) ts ≡ map f (all_mentions ts)
unfolding all_mentions
all_mentions_lem f [] = refl
all_mentions_lem f (t ∷ ts) = ap (λ l. map f (mentions t) ++ l) (all_mentions_lem f ts) ∙ sym (map-append f (mentions t) (all_mentions ts))

-- ---- of a section. ids: numbers that are those of the definition

module _ (p : ℕ) (s : List ℕ) (y : Bytes s) (h : header_sound s ≡ true) (t : types_sound s ≡ true) (m : ℕ → Bool) (ids : List ℕ) (same : (x : ℕ) → get_or ids x 0 ≡ new_id m x) where
  abbrev b : TypeTable
  b = table_of p s

  abbrev start : List ℕ
  start = index_of s

  abbrev ts : List Described
  ts = described_in s

  low : (x : ℕ) → get_or ids x 0 ≤ x
  low x = omega (arith, same x, new_le m x)

  zero_dropped : eqb (get_or ids 0 0) 0 ≡ true
  zero_dropped = eq-eqb (get_or ids 0 0) 0 (same 0 ∙ new_zero m)

  dropped : (i : ℕ) → eqb (get_or ids (suc i) 0) 0 ≡ not (m (suc i))
  dropped i = go (m (suc i)) refl
    where
      go : (q : Bool) → m (suc i) ≡ q → eqb (get_or ids (suc i) 0) 0 ≡ not q
      go true e = ne_eqb (get_or ids (suc i) 0) 0 (λ z. omega (arith, z, same (suc i), new_kept m i e))
      go false e = eq-eqb (get_or ids (suc i) 0) 0 (same (suc i) ∙ new_dropped m i e)

  module _ (bases : List ℕ) where
    abbrev new_type : Described → List ℕ
    new_type u = encode b.big_endian (renamed (λ x. get_or ids x 0) (λ n. place_of b s start ids bases n) u)

    type_at : (i : ℕ) → i < length ts → ◌≡◌ {A = List ℕ} (type_bytes b s start ids bases (suc i)) (elim (m (suc i)) [ true ↦ new_type (get_or ts i void_type) | false ↦ [] ])
    unfolding type_bytes
    type_at i l =
        ap (λ (q : Bool). elim q as (λ z. List ℕ) [ true ↦ [] | false ↦ record_bytes b s start ids bases (entry_at b start (suc i)) (words_in b s (entry_at b start (suc i))) ]) (dropped i)
        ∙ go (m (suc i))
      where
        go : (q : Bool) → ◌≡◌ {A = List ℕ} (elim (not q) [ true ↦ [] | false ↦ record_bytes b s start ids bases (entry_at b start (suc i)) (words_in b s (entry_at b start (suc i))) ]) (elim q [ true ↦ new_type (get_or ts i void_type) | false ↦ [] ])
        go true = record_is p s y h t i l ids bases low
        go false = refl

    void_none : types_bytes b s start ids bases 1 ≡ []
    unfolding types_bytes type_bytes
    void_none = ap (λ (q : Bool). elim q as (λ z. List ℕ) [ true ↦ [] | false ↦ record_bytes b s start ids bases (entry_at b start 0) (words_in b s (entry_at b start 0)) ]) zero_dropped

    types_step : (x : ℕ) → types_bytes b s start ids bases (suc x) ≡ types_bytes b s start ids bases x ++ type_bytes b s start ids bases x
    unfolding types_bytes
    types_step x = refl

    -- THE TYPES: those that are kept, renamed
    pub types_are : types_bytes b s start ids bases (type_count b) ≡ encode_all b.big_endian (renamed_all (λ x. get_or ids x 0) (λ n. place_of b s start ids bases n) (kept_types m 1 ts))
    types_are =
        let c : type_count b ≡ 1 + length ts = count_is p s y h t ∙ plus (length ts) in
        ap (types_bytes b s start ids bases) c
        ∙ joined (types_bytes b s start ids bases) (type_bytes b s start ids bases) types_step 1 (length ts)
        ∙ ap (λ (l : List ℕ). l ++ from_to (type_bytes b s start ids bases) 1 (length ts)) void_none
        ∙ walk new_type (type_bytes b s start ids bases) m 1 ts
        (λ i l. subst (λ (k : ℕ). ◌≡◌ {A = List ℕ} (type_bytes b s start ids bases k) (elim (m k) [ true ↦ new_type (get_or ts i void_type) | false ↦ [] ])) (plus i) (type_at i l))
        ∙ all_encoded b.big_endian (λ x. get_or ids x 0) (λ n. place_of b s start ids bases n) (kept_types m 1 ts)
      where
        plus : (i : ℕ) → suc i ≡ 1 + i
        plus i = omega arith

  kept_at : (i : ℕ) → i < length ts → ◌≡◌ {A = List Name} (kept_names b s start ids (suc i)) (elim (m (suc i)) [ true ↦ map (str_at b s) (mentions (get_or ts i void_type)) | false ↦ [] ])
  unfolding kept_names
  kept_at i l =
      ap (λ (q : Bool). elim q as (λ z. List Name) [ true ↦ [] | false ↦ names_to b s (entry_at b start (suc i)) (words_in b s (entry_at b start (suc i))) ]) (dropped i)
      ∙ go (m (suc i))
    where
      go : (q : Bool) → ◌≡◌ {A = List Name} (elim (not q) [ true ↦ [] | false ↦ names_to b s (entry_at b start (suc i)) (words_in b s (entry_at b start (suc i))) ]) (elim q [ true ↦ map (str_at b s) (mentions (get_or ts i void_type)) | false ↦ [] ])
      go true = names_are p s y h t i l
      go false = refl

  void_unnamed : names_before b s start ids 1 ≡ []
  unfolding names_before kept_names
  void_unnamed = ap (λ (q : Bool). elim q as (λ z. List Name) [ true ↦ [] | false ↦ names_to b s (entry_at b start 0) (words_in b s (entry_at b start 0)) ]) zero_dropped

  names_step : (x : ℕ) → names_before b s start ids (suc x) ≡ names_before b s start ids x ++ kept_names b s start ids x
  unfolding names_before
  names_step x = refl

  -- THE NAMES: those that they mention, in order
  pub names_all : names_before b s start ids (type_count b) ≡ map (str_at b s) (all_mentions (kept_types m 1 ts))
  names_all =
      let c : type_count b ≡ 1 + length ts = count_is p s y h t ∙ plus (length ts) in
      ap (names_before b s start ids) c
      ∙ joined (names_before b s start ids) (kept_names b s start ids) names_step 1 (length ts)
      ∙ ap (λ (l : List Name). l ++ from_to (kept_names b s start ids) 1 (length ts)) void_unnamed
      ∙ walk (λ u. map (str_at b s) (mentions u)) (kept_names b s start ids) m 1 ts
      (λ i l. subst (λ (k : ℕ). ◌≡◌ {A = List Name} (kept_names b s start ids k) (elim (m k) [ true ↦ map (str_at b s) (mentions (get_or ts i void_type)) | false ↦ [] ])) (plus i) (kept_at i l))
      ∙ all_mentions_lem (str_at b s) (kept_types m 1 ts)
    where
      plus : (i : ℕ) → suc i ≡ 1 + i
      plus i = omega arith
