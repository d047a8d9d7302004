-- The type table that a section and the work spell, as the rules see it.
use Rattle.std.specs.Prelude.{ℕ, zero, suc, ◌+◌, ◌*◌, ◌%◌, true, false, ◌&&◌, List, [], ◌∷◌, get_or, ltb, leb, eqb}
use Rattle.spec_c_dumper.specs.rules.Types.{Name, Member, Param, Enumerator, volatile, const, restrict, BtfType, Void, Int, Ptr, Array}
use Rattle.spec_c_dumper.specs.rules.Types.{Composite, Enum, Enum64, Fwd, Typedef, Mod, Func, Var, Datasec, FuncProto, Float, DeclTag}
use Rattle.spec_c_dumper.specs.rules.Types.{TypeTag, Btf as Rules}
use Rattle.spec_c_dumper.specs.rules.Names.{Resolved, Naming}
use Rattle.spec_type_table.specs.declared.types.TypeTable.{TypeTable}
use Rattle.spec_type_table.specs.declared.types.BtfType.{BtfType as Record}
use Rattle.spec_type_table.specs.declared.types.BtfMember.{BtfMember}
use Rattle.spec_type_table.specs.Cells.{get_field, put_field, class_p, count_p, count_raised}
use Rattle.spec_type_table.specs.Names.{str_at}
use Rattle.spec_type_table.specs.Numbers.{number_at}
use Rattle.spec_type_table.specs.Records.{section_word, vlen_of, kind_of, flag_of, member_at, param_at, record_by_id, member_of}

-- f k, f (k + 1), .., n of them
unfoldable pub from : {E : Type 0} → (ℕ → E) → ℕ → ℕ → List E
from f k zero = []
from f k (suc n) = f k ∷ from f (k + 1) n

module _ (b : TypeTable) (s : List ℕ) where
  -- a member, a parameter, an enumerator as the rules have them
  abbrev pub rule_member : BtfMember → Member
  rule_member m = record { name = str_at b s m.name_off; type_id = m.type_id; bit_offset = m.bit_offset; bit_size = m.bit_size }

  unfoldable pub param_of : ℕ → ℕ → Param
  param_of at k = record { name = str_at b s (section_word b s (param_at at k)); type_id = section_word b s (param_at at k + 4) }

  unfoldable pub value_of : ℕ → ℕ → Enumerator
  value_of at k = record { name = str_at b s (section_word b s (param_at at k)); value = section_word b s (param_at at k + 4) }

  -- btf_enum64: val_lo32, then val_hi32
  unfoldable pub value64_of : ℕ → ℕ → Enumerator
  value64_of at k = record {
    name = str_at b s (section_word b s (member_at at k));
    value = section_word b s (member_at at k + 8) * 4294967296 + section_word b s (member_at at k + 4);
  }

  module _ (t : Record) where
    abbrev pub members_of : List Member
    members_of = from (λ k. rule_member (member_of b s t k)) 0 (vlen_of t.info)

    abbrev pub params_of : List Param
    params_of = from (param_of t.at) 0 (vlen_of t.info)

    abbrev pub values_of : List Enumerator
    values_of = from (value_of t.at) 0 (vlen_of t.info)

    abbrev pub values64_of : List Enumerator
    values64_of = from (value64_of t.at) 0 (vlen_of t.info)

    abbrev pub record_name : Name
    record_name = str_at b s t.name_off

    -- the word after the three of struct btf_type, and the third after those
    abbrev pub extra_word : ℕ
    extra_word = section_word b s (t.at + 12)

    abbrev pub nelems_word : ℕ
    nelems_word = section_word b s (t.at + 20)

    -- load_type of the Rust: the type of a record, by its kind 0 to 19
    unfoldable pub type_of : BtfType
    type_of = get_or
        (Void
        ∷ Int record_name (extra_word % 256)
        ∷ Ptr t.type_id
        ∷ Array extra_word nelems_word
        ∷ Composite true record_name t.type_id members_of
        ∷ Composite false record_name t.type_id members_of
        ∷ Enum (flag_of t.info) record_name t.type_id values_of
        ∷ Fwd (flag_of t.info) record_name
        ∷ Typedef record_name t.type_id
        ∷ Mod volatile t.type_id
        ∷ Mod const t.type_id
        ∷ Mod restrict t.type_id
        ∷ Func record_name
        ∷ FuncProto t.type_id params_of
        ∷ Var record_name
        ∷ Datasec record_name
        ∷ Float record_name t.type_id
        ∷ DeclTag (flag_of t.info) record_name t.type_id extra_word
        ∷ TypeTag (flag_of t.info) record_name t.type_id
        ∷ Enum64 (flag_of t.info) record_name t.type_id values64_of
        ∷ [])
        (kind_of t.info)
        Void

-- The DECL_TAGs on a type: word 9 has the first, word 10 of a tag the next. What does not rise, or is no id of a type, was
-- not left by opening, and ends the list; so as many turns as there are 32-bit numbers are enough.
unfoldable pub tags_from : ℕ → ℕ → List ℕ → ℕ → ℕ → List ℕ
tags_from zero types w last x = []
tags_from (suc n) types w last x =
    elim (ltb last x && ltb x types) [ true ↦ x ∷ tags_from n types w x (get_field w x 10) | false ↦ [] ]

unfoldable pub tags_of : ℕ → List ℕ → ℕ → List ℕ
tags_of types w id = tags_from 4294967296 types w 0 (get_field w id 9)

-- the table of a section and the work that opening left
unfoldable pub btf_of : TypeTable → List ℕ → List ℕ → Rules
btf_of b s w = record {
  ptr_sz = b.ptr_sz;
  union_as_struct = b.union_as_struct;
  strong_arrays = b.strong_arrays;
  placing = b.placing;
  type_cnt = b.types;
  type_by_id = λ id. type_of b s (record_by_id b s w id);
  decl_tags = tags_of b.types w;
}

-- The names in the work. A type: word 4 has its version, 0 while it has none. Holders of a name are counted at its class; a new holder's
-- version is that count, with the numbers passed over that are listed there.
unfoldable pub type_version_in : ℕ → ℕ → List ℕ → Resolved (List ℕ)
type_version_in types id w =
    elim (eqb (get_field w id 4) 0) [
      | false ↦ record { passes = false; version = get_field w id 4; names = w }
      | true ↦ record {
        passes = false;
        version = number_at types w id;
        names = put_field (count_raised (class_p types) (count_p types) w id) id 4 (number_at types w id);
      }
    ]

-- the number of value k of enum id among all enumerators, or the largest number
unfoldable pub enumerator_of : List ℕ → ℕ → ℕ → ℕ
enumerator_of w id k = elim (leb (get_field w id 12 + k) 4294967295) [ true ↦ get_field w id 12 + k | false ↦ 4294967295 ]

-- enumerator e is holder types + e; a holder that 32 bits cannot number has no version
unfoldable pub value_version_in : ℕ → ℕ → List ℕ → Resolved (List ℕ)
value_version_in types e w =
    elim (ltb (types + e) 4294967296) [
      | true ↦ record {
        passes = false;
        version = number_at types w (types + e);
        names = count_raised (class_p types) (count_p types) w (types + e);
      }
      | false ↦ record { passes = false; version = 0; names = w }
    ]

unfoldable pub work_naming : TypeTable → Naming (List ℕ)
work_naming b = record {
  type_version = λ space id name w. type_version_in b.types id w;
  value_version = λ id k name w. value_version_in b.types (enumerator_of w id k) w;
  leaving = λ held w. w;
}
