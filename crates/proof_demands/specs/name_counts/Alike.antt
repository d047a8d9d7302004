-- When the names in the work and the names of the Rust say the same.
use Rattle.std.specs.Prelude.{ℕ, ◌+◌, ◌<◌, ◌≡◌, List, [], length, get_or, replicate}
use Rattle.spec_bytes.specs.words.Words.{get_word}
use Rattle.spec_c_dumper.specs.rules.Types.{Name}
use Rattle.spec_c_dumper.specs.rules.Names.{Space, Names, holders}
use Rattle.spec_type_table.specs.declared.types.TypeTable.{TypeTable}
use Rattle.spec_type_table.specs.Cells.{get_field, count_p}
use Rattle.btf_open_names.specs.name_classes.Classes.{key_in, class_of}
use Rattle.proof_demands.specs.name_counts.Indexed.{Holds, CountsKept}

-- w is the work after opening, v the work now
module _ (b : TypeTable) (e : ℕ) (s w : List ℕ) where
  -- The version of each type is in its word 4, and the count of a name's holders at the class of each holder of it.
  pub record Alike (v : List ℕ) (u : Names) : Type 0 where
    pub kept : CountsKept b e s w v
    pub sized : length u.versions ≡ b.types
    pub its_version : (id : ℕ) → id < b.types → get_field v id 4 ≡ get_or u.versions id 0
    pub its_count : (h : ℕ) (space : Space) (name : Name) → Holds b e s w h space name
        → get_word v (count_p b.types (class_of (key_in b s w) h)) ≡ holders u.ledger space name

  -- no type has a version, no name a holder
  pub record Fresh : Type 0 where
    pub no_version : (id : ℕ) → id < b.types → get_field w id 4 ≡ 0
    pub no_count : (h : ℕ) → h < b.types + e → get_word w (count_p b.types h) ≡ 0

abbrev pub no_names : TypeTable → Names
no_names b = record { versions = replicate b.types 0; ledger = [] }
