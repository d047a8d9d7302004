-- The work that opening leaves, as far as names go: the holders of names, and what stands in their words.
use Rattle.std.specs.Prelude.{ℕ, ◌+◌, ◌<◌, ◌≡◌, List, ◌∷◌, ◌⊎◌, length, eqb}
use Rattle.spec_bytes.specs.words.Words.{get_word, pick}
use Rattle.spec_c_dumper.specs.rules.Types.{Name}
use Rattle.spec_c_dumper.specs.rules.Names.{Space, tag_space, ident_space}
use Rattle.spec_type_table.specs.declared.types.TypeTable.{TypeTable}
use Rattle.spec_type_table.specs.Cells.{get_field, class_p}
use Rattle.spec_type_table.specs.Names.{name_at, str_at}
use Rattle.spec_type_table.specs.Numbers.{head_p, next_p, taken_p, taken_at}
use Rattle.spec_type_table.specs.Records.{section_word, vlen_of, kind_of, member_at, param_at, record_by_id}
use Rattle.spec_type_table.specs.Table.{record_name, enumerator_of}
use Rattle.btf_open_names.specs.name_classes.Classes.{record_p, space_of, space_at, name_of, key_in, class_of, least}
use Rattle.btf_open_names.specs.name_classes.Same.{same_list}
use Rattle.btf_open_names.specs.name_classes.Claims.{Room}
use Rattle.proof_demands.specs.name_counts.Passed.{Lists}

-- the numbers of the spaces: 0 tags, 1 typedefs with enumerators; 2 is for what has no space
unfoldable pub number : Space → ℕ
number tag_space = 0
number ident_space = 1

-- ENUM and ENUM64
abbrev pub IsEnum : ℕ → Type 0
IsEnum kind = (kind ≡ 6) ⊎ (kind ≡ 19)

-- where value i of the enum at a place stands: each has 8 bytes in an ENUM, 12 in an ENUM64
unfoldable pub value_place : ℕ → ℕ → ℕ → ℕ
value_place kind at i = pick (eqb kind 19) (member_at at i) (param_at at i)

module _ (b : TypeTable) (s w : List ℕ) where
  -- there is a value i of enum id
  pub record Value (id i : ℕ) : Type 0 where
    pub below : id < b.types
    pub enum : IsEnum (kind_of (record_by_id b s w id).info)
    pub inside : i < vlen_of (record_by_id b s w id).info

  -- and it stands there
  abbrev pub place_of_value : ℕ → ℕ → ℕ
  place_of_value id i = value_place (kind_of (record_by_id b s w id).info) (record_by_id b s w id).at i

  -- type id is printed with this name, in this space
  pub record NameFits (space : Space) (id : ℕ) (name : Name) : Type 0 where
    pub below : id < b.types
    pub its_space : space_of (kind_of (record_by_id b s w id).info) ≡ number space
    pub its_name : name ≡ record_name b s (record_by_id b s w id)

  -- value i of enum id is printed with this name
  pub record FitsValue (id i : ℕ) (name : Name) : Type 0 where
    pub value : Value id i
    pub its_name : name ≡ str_at b s (section_word b s (place_of_value id i))

module _ (b : TypeTable) (e : ℕ) (s w : List ℕ) where
  -- Holder h, of the types and e enumerators, has this name in this space. Word 0 of a holder says where its record or entry stands.
  pub record Holds (h : ℕ) (space : Space) (name : Name) : Type 0 where
    pub below : h < b.types + e
    pub its_space : space_at b s (get_word w (record_p b.types h)) h ≡ number space
    pub its_name : name ≡ name_at s (name_of b s (get_word w (record_p b.types h)))

  -- What a successful opening leaves: room for all holders, the class of each in its word, and for each value of an enum a number
  -- among the enumerators, whose word 0 says where it stands.
  pub record Indexed : Type 0 where
    pub room : Room b e w
    pub class : (h : ℕ) → h < b.types + e → get_word w (class_p b.types h) ≡ class_of (key_in b s w) h
    pub numbered : (id i : ℕ) → Value b s w id i → enumerator_of w id i < e
    pub place : (id i : ℕ) → Value b s w id i → get_word w (record_p b.types (b.types + enumerator_of w id i)) ≡ place_of_value b s w id i

  -- and the taken numbers that are listed at the class of each holder: those of its name
  abbrev pub Listed : Lists → Type 0
  Listed T = (h : ℕ) (space : Space) (name : Name) → Holds h space name → taken_at b.types w (class_of (key_in b s w) h) ≡ T space name

  -- the lists of a work: that of a name stands at the first holder of the name
  unfoldable pub lists_in : Lists
  lists_in space name = taken_at b.types w (least (λ c. same_list (key_in b s w c) (number space ∷ name)) (b.types + e))

  -- what emission leaves as it was: the length, classes and places of holders, the lists of taken numbers, and the first enumerator of each
  -- type (word 12)
  pub record CountsKept (v : List ℕ) : Type 0 where
    pub long : length v ≡ length w
    pub class : (h : ℕ) → h < b.types + e → get_word v (class_p b.types h) ≡ get_word w (class_p b.types h)
    pub place : (h : ℕ) → h < b.types + e → get_word v (record_p b.types h) ≡ get_word w (record_p b.types h)
    pub first : (id : ℕ) → id < b.types → get_field v id 12 ≡ get_field w id 12
    pub heads : (h : ℕ) → get_word v (head_p b.types h) ≡ get_word w (head_p b.types h)
    pub nexts : (h : ℕ) → get_word v (next_p b.types h) ≡ get_word w (next_p b.types h)
    pub takens : (h : ℕ) → get_word v (taken_p b.types h) ≡ get_word w (taken_p b.types h)
