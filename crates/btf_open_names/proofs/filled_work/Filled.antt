-- What success leaves: a law for each return of the functions that fill the work. Assumes nothing.
use Prim.Native.Nat.{ℕ, suc, ◌+◌, ◌-◌, ◌/◌, ◌%◌, ◌<◌, ◌≤◌}
use mathlib.Core.Path.{◌≡◌, refl, ap, ◌∙◌, sym}
use mathlib.Core.Bool.{Bool, true, false}
use mathlib.Core.List.{List}
use mathlib.Core.Logic.{◌⊎◌, inl, inr}
use native.Mathlib.Omega.{arith}
use native.Mathlib.Numerals.{add-one}
use lib.ListN.{get_or}
use lib.Dec.{eqb}
use borrow.Author.Tests.{lt-ltb, le-ltb, ne_eqb}
use Rattle.spec_bytes.specs.words.Words.{pick, put_word}
use Rattle.spec_type_table.specs.declared.types.TypeTable.{TypeTable}
use Rattle.spec_type_table.specs.declared.kind.Kind.{Kind}
use Rattle.spec_type_table.specs.declared.kind.Kind.TheVariants.{Enum, Enum64, DeclTag}
use Rattle.spec_type_table.specs.Kinds.{kind_named}
use Rattle.spec_type_table.proofs.KindNames.{enum_number, enum64_number, enum_named, enum64_named, decl_tag_named}
use Rattle.spec_type_table.specs.Cells.{get_field, put_field}
use Rattle.spec_type_table.specs.Records.{section_word, vlen_of, member_at, param_at}
use Rattle.btf_open_names.specs.name_classes.Classes.{table_classed}
use Rattle.btf_open_names.specs.filled_work.Left.{places_put, value_place, enumerator_word, values_put, is_enum, enum_with, values_at, tag_put, enums_to, enums_put, tags_put, filled}

-- ---- fill_places
module _ (start w₀ : List ℕ) where
  pub places_none : w₀ ≡ places_put start w₀ 0
  unfolding places_put
  places_none = refl

  pub places_more : (w : List ℕ) (x : ℕ) → w ≡ places_put start w₀ (x - 1) → 1 ≤ x → (v : ℕ) → v ≡ get_or start x 0 → (w' : List ℕ) → w' ≡ put_field w x 0 (v / 32)
      → w' ≡ places_put start w₀ (x + 1 - 1)
  unfolding places_put
  places_more w x e h v f w' g =
      let y : x ≡ suc (x - 1) = omega arith in
      let z : x + 1 - 1 ≡ suc (x - 1) = omega arith in
      g
      ∙ (λ i. put_field (e i) x 0 (f i / 32))
      ∙ ap (λ (q : ℕ). put_field (places_put start w₀ (x - 1)) q 0 (get_or start q 0 / 32)) y
      ∙ ap (places_put start w₀) (sym z)

  pub places_all : (w : List ℕ) (m n : ℕ) → w ≡ places_put start w₀ m → m ≡ n → w ≡ places_put start w₀ n
  places_all w m n e f = e ∙ ap (places_put start w₀) f

-- ---- fill_values
module _ (kind at k : ℕ) where
  pub value_by : (t : Bool) → t ≡ eqb kind 19 → (p : ℕ) → p ≡ at → (m : ℕ) → m ≡ pick t (member_at p k) (param_at p k) → m ≡ value_place kind at k
  unfolding value_place
  value_by t e p f m g = g ∙ (λ i. pick (e i) (member_at (f i) k) (param_at (f i) k))

module _ (types kind at first : ℕ) (w₀ : List ℕ) where
  pub values_none : w₀ ≡ values_put types kind at first w₀ 0
  unfolding values_put
  values_none = refl

  pub values_more : (w : List ℕ) (k : ℕ) → w ≡ values_put types kind at first w₀ k → (h : ℕ) → h ≡ enumerator_word types (first + k) → (v : ℕ) → v ≡ value_place kind at k
      → (w' : List ℕ) → w' ≡ put_word w h v → w' ≡ values_put types kind at first w₀ (k + 1)
  unfolding values_put
  values_more w k e h f v g w' d = d ∙ (λ i. put_word (e i) (f i) (g i)) ∙ rw add-one

  pub values_all : (w : List ℕ) (k n : ℕ) → w ≡ values_put types kind at first w₀ k → k ≡ n → w ≡ values_put types kind at first w₀ n
  values_all w k n e f = e ∙ ap (values_put types kind at first w₀) f

-- ---- kinds
module _ (k : ℕ) (x : Kind) (e : x ≡ kind_named k) where
  pub enum_is : (x ≡ Enum) ⊎ (x ≡ Enum64) → (k ≡ 6) ⊎ (k ≡ 19)
  enum_is (inl q) = inl (enum_number k (sym e ∙ q))
  enum_is (inr q) = inr (enum64_number k (sym e ∙ q))

  pub enum_not : (x ≡ Enum → ⊥) → (x ≡ Enum64 → ⊥) → (k ≡ 6) ⊎ (k ≡ 19) → ⊥
  enum_not n m (inl q) = n (e ∙ ap kind_named q ∙ enum_named)
  enum_not n m (inr q) = m (e ∙ ap kind_named q ∙ enum64_named)

  pub tag_kind : k ≡ 17 → x ≡ DeclTag
  tag_kind q = e ∙ ap kind_named q ∙ decl_tag_named

-- ---- enums
pub enum_yes : (k : ℕ) → (k ≡ 6) ⊎ (k ≡ 19) → is_enum k ≡ true
unfolding is_enum
enum_yes k (inl e) = rw e
enum_yes k (inr e) = rw e

pub enum_no : (k : ℕ) → ((k ≡ 6) ⊎ (k ≡ 19) → ⊥) → is_enum k ≡ false
unfolding is_enum
enum_no k m = rw (ne_eqb k 6 (λ e. m (inl e)), is_enum) (ne_eqb k 19 (λ e. m (inr e)))

module _ (b : TypeTable) (s : List ℕ) (entry : ℕ) where
  pub values_some : (entry % 32 ≡ 6) ⊎ (entry % 32 ≡ 19) → (i : ℕ) → i ≡ section_word b s (entry / 32 + 4) → (n : ℕ) → n ≡ vlen_of i → n ≡ values_at b s entry
  unfolding values_at
  values_some o i f n g = rw (enum_yes (entry % 32) o, values_at) (g ∙ ap vlen_of f)

  pub values_zero : ((entry % 32 ≡ 6) ⊎ (entry % 32 ≡ 19) → ⊥) → 0 ≡ values_at b s entry
  unfolding values_at
  values_zero o = rw (enum_no (entry % 32) o, values_at)

  pub values_few : values_at b s entry < 65536
  unfolding values_at
  values_few = go (is_enum (entry % 32))
    where
      go : (t : Bool) → (elim t as (λ z. ℕ) [ true ↦ vlen_of (section_word b s (entry / 32 + 4)) | false ↦ 0 ]) < 65536
      go true = omega arith
      go false = omega arith

  pub few_of : (n : ℕ) → n ≡ values_at b s entry → n < 65536
  few_of n e = omega (arith, values_few, e)

module _ (types entry n x first : ℕ) (w : List ℕ) where
  pub enum_put : (entry % 32 ≡ 6) ⊎ (entry % 32 ≡ 19) → (w' w'' : List ℕ) → w' ≡ put_field w x 12 (first % 4294967296)
      → w'' ≡ values_put types (entry % 32) (entry / 32) first w' n → w'' ≡ enum_with types entry n x first w
  unfolding enum_with
  enum_put o w' w'' e f = rw (enum_yes (entry % 32) o, enum_with) (f ∙ ap (λ (q : List ℕ). values_put types (entry % 32) (entry / 32) first q n) e)

  pub enum_left : ((entry % 32 ≡ 6) ⊎ (entry % 32 ≡ 19) → ⊥) → w ≡ enum_with types entry n x first w
  unfolding enum_with
  enum_left o = rw (enum_no (entry % 32) o, enum_with)

module _ (b : TypeTable) (s start w₀ : List ℕ) where
  pub enums_none : w₀ ≡ enums_put b s start w₀ 0
  unfolding enums_put
  enums_none = refl

  pub first_none : 0 ≡ enums_to b s start 0
  unfolding enums_to
  first_none = refl

  module _ (x : ℕ) (h : 1 ≤ x) (v : ℕ) (f : v ≡ get_or start x 0) (n : ℕ) (g : n ≡ values_at b s v) (first : ℕ) (d : first ≡ enums_to b s start (x - 1)) where
    pub first_more : first + n ≡ enums_to b s start (x + 1 - 1)
    unfolding enums_to
    first_more =
        let y : x ≡ suc (x - 1) = omega arith in
        let z : x + 1 - 1 ≡ suc (x - 1) = omega arith in
        (λ i. d i + (g ∙ ap (values_at b s) (f ∙ ap (λ (q : ℕ). get_or start q 0) y)) i)
        ∙ ap (enums_to b s start) (sym z)

    pub enums_more : (w : List ℕ) → w ≡ enums_put b s start w₀ (x - 1) → (w' : List ℕ) → w' ≡ enum_with b.types v n x first w → w' ≡ enums_put b s start w₀ (x + 1 - 1)
    unfolding enums_put
    enums_more w e w' k =
        let y : x ≡ suc (x - 1) = omega arith in
        let z : x + 1 - 1 ≡ suc (x - 1) = omega arith in
        let q : v ≡ get_or start (suc (x - 1)) 0 = f ∙ ap (λ (q : ℕ). get_or start q 0) y in
        k
        ∙ (λ i. enum_with b.types (q i) ((g ∙ ap (values_at b s) q) i) (y i) (d i) (e i))
        ∙ ap (enums_put b s start w₀) (sym z)

  pub enums_all : (w : List ℕ) (m n : ℕ) → w ≡ enums_put b s start w₀ m → m ≡ n → w ≡ enums_put b s start w₀ n
  enums_all w m n e f = e ∙ ap (enums_put b s start w₀) f

-- ---- tags
module _ (b : TypeTable) (s : List ℕ) (entry x : ℕ) (w : List ℕ) where
  pub tag_other : (entry % 32 ≡ 17 → ⊥) → w ≡ tag_put b s entry x w
  unfolding tag_put
  tag_other n = rw (ne_eqb (entry % 32) 17 n, tag_put)

  module _ (e : entry % 32 ≡ 17) (on : ℕ) (f : on ≡ section_word b s (entry / 32 + 8)) where
    pub tag_past : b.types ≤ on → w ≡ tag_put b s entry x w
    unfolding tag_put
    tag_past h = rw (e, tag_put, ← f, le-ltb on b.types h)

    pub tag_put_lem : on < b.types → (n : ℕ) → n ≡ get_field w on 9 → (w' w'' : List ℕ) → w' ≡ put_field w x 10 n → w'' ≡ put_field w' on 9 x → w'' ≡ tag_put b s entry x w
    unfolding tag_put
    tag_put_lem h n g w' w'' k l =
        rw (e, tag_put, lt-ltb (section_word b s (entry / 32 + 8)) b.types (omega arith))
        (l
        ∙ (λ i. put_field ((k ∙ ap (put_field w x 10) g) i) on 9 x)
        ∙ ap (λ (q : ℕ). put_field (put_field w x 10 (get_field w q 9)) q 9 x) f)

module _ (b : TypeTable) (s start w₀ : List ℕ) where
  pub tags_more : (n : ℕ) (w : List ℕ) (x : ℕ) → tags_put b s start n w₀ ≡ tags_put b s start (x - 1) w → 1 < x → (v : ℕ) → v ≡ get_or start (x - 1) 0 → (w' : List ℕ)
      → w' ≡ tag_put b s v (x - 1) w → tags_put b s start n w₀ ≡ tags_put b s start (x - 1 - 1) w'
  unfolding tags_put
  tags_more n w x e h v f w' g =
      let y : x - 1 ≡ suc (x - 1 - 1) = omega arith in
      e
      ∙ ap (λ (q : ℕ). tags_put b s start q w) y
      ∙ ap (tags_put b s start (x - 1 - 1)) (ap (λ (q : ℕ). tag_put b s (get_or start q 0) q w) (sym y) ∙ sym (g ∙ ap (λ (q : ℕ). tag_put b s q (x - 1) w) f))

  pub tags_all : (n : ℕ) (w : List ℕ) (m : ℕ) → tags_put b s start n w₀ ≡ tags_put b s start m w → m ≡ 0 → w ≡ tags_put b s start n w₀
  unfolding tags_put
  tags_all n w m e f = sym (e ∙ ap (λ (q : ℕ). tags_put b s start q w) f)

-- ---- fill
pub filled_is : (b : TypeTable) (s start : List ℕ) (e : ℕ) (w w1 w2 w3 w4 : List ℕ) → w1 ≡ places_put start w (b.types - 1) → w2 ≡ enums_put b s start w1 (b.types - 1)
    → w3 ≡ tags_put b s start (b.types - 1) w2 → w4 ≡ table_classed b e s w3 → w4 ≡ filled b s start e w
unfolding filled
filled_is b s start e w w1 w2 w3 w4 f g h k =
    k
    ∙ ap (table_classed b e s) (h ∙ ap (tags_put b s start (b.types - 1)) (g ∙ ap (λ (q : List ℕ). enums_put b s start q (b.types - 1)) f))
