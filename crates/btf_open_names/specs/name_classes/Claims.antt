-- What the definitions say in plain words. Statements only; proofs/Ledger.antt has the proofs.
use Rattle.std.specs.Prelude.{ℕ, suc, ◌+◌, ◌*◌, ◌/◌, ◌<◌, ◌≤◌, ◌≡◌, List, [], ◌∷◌, ◌≢◌, length}
use Rattle.spec_bytes.specs.words.Words.{get_word}
use Rattle.spec_type_table.specs.declared.types.TypeTable.{TypeTable}
use Rattle.btf_open_names.specs.name_classes.Classes.{record_p, bucket_p, link_p, space_at, key_in, class_of, table_classed, counted_all}
use Rattle.btf_open_names.specs.name_classes.Classes.{times_of}
use Rattle.spec_type_table.specs.Cells.{class_p, count_p, count_after}

-- 01, Name ledger, "The first holder of a name": the class of h is the first holder, from 0 up, with the space and the name of h
pub record First : Type 0 where
  pub equal : (key : ℕ → List ℕ) (h : ℕ) → key (class_of key h) ≡ key h
  pub earliest : (key : ℕ → List ℕ) (h c : ℕ) → c < class_of key h → key c ≢ key h
  pub one : (key : ℕ → List ℕ) (h k : ℕ) → key h ≡ key k → class_of key h ≡ class_of key k

-- a table whose holders can be numbered, and work with 16 words for each type and 8 for each enumerator
pub record Room (b : TypeTable) (enumerators : ℕ) (w : List ℕ) : Type 0 where
  pub numbered : b.types + enumerators ≤ 4294967295
  pub words : b.types * 16 + enumerators * 8 ≤ length w / 4

-- word i is no class and no scratch word of the first n holders
abbrev pub Else : (types n i : ℕ) → Type 0
Else types n i = (h : ℕ) → h < n → (i ≢ class_p types h) × (i ≢ bucket_p types h) × (i ≢ link_p types h)

-- what the work holds afterwards: classes, 0 for a holder without a space, scratch words 0, all else as it was
pub record Words (b : TypeTable) (e : ℕ) (s w : List ℕ) : Type 0 where
  pub class : (h : ℕ) → Room b e w → h < b.types + e → get_word (table_classed b e s w) (class_p b.types h) ≡ class_of (key_in b s w) h
  pub none : (h : ℕ) → Room b e w → h < b.types + e → space_at b s (get_word w (record_p b.types h)) h ≡ 2
      → get_word (table_classed b e s w) (class_p b.types h) ≡ 0
  pub bucket : (h : ℕ) → Room b e w → h < b.types + e → get_word (table_classed b e s w) (bucket_p b.types h) ≡ 0
  pub link : (h : ℕ) → Room b e w → h < b.types + e → get_word (table_classed b e s w) (link_p b.types h) ≡ 0
  pub else : (i : ℕ) → Else b.types (b.types + e) i → get_word (table_classed b e s w) i ≡ get_word w i
  pub long : length (table_classed b e s w) ≡ length w

-- every number of the list is below n
abbrev pub Below : ℕ → List ℕ → Type 0
Below n [] = Unit {0}
Below n (h ∷ hs) = (h < n) × Below n hs

-- one count for each of hs, the last of hs first; and the count that h gets then
abbrev pub after_counts : TypeTable → List ℕ → List ℕ → List ℕ
after_counts b w hs = counted_all (class_p b.types) (count_p b.types) w hs

abbrev pub next_count : TypeTable → List ℕ → ℕ → ℕ
next_count b w h = count_after (class_p b.types) (count_p b.types) w h

-- 01, Name ledger, "the n-th": with counts 0 at first, the count of h is one more than how many of hs have its space and its name
abbrev pub Ledger : Type 0
Ledger =
    (b : TypeTable) (e : ℕ) (s w hs : List ℕ) (h : ℕ)
    → Room b e w
    → ((j : ℕ) → j < b.types + e → get_word w (count_p b.types j) ≡ 0)
    → Below (b.types + e) hs
    → h < b.types + e
    → length hs < 4294967295
    → next_count b (after_counts b (table_classed b e s w) hs) h ≡ suc (times_of (key_in b s w) h hs)
