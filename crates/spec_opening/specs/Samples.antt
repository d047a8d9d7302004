-- Small sections as bytes, and the types that they describe: statement only. proofs/Samples.antt has the proof, by computing.
use Rattle.std.specs.Prelude.{ℕ, ◌≡◌, true, List, [], ◌∷◌}
use Rattle.spec_bytes.specs.text.Text.{ascii}
use Rattle.spec_c_dumper.specs.rules.Types.{BtfType, Int, Ptr, Composite, Void}
use Rattle.spec_opening.specs.Types.{described_in}
use Rattle.spec_opening.specs.Followed.{followed_ids, type_of}
use Rattle.spec_opening.specs.Described.{type_list, table_in}

-- "1 INT int (32 bits), 2 STRUCT node size 16 (next, type 3, bit 0; v, type 1, bit 64), 3 PTR to 2"
abbrev pub node : List ℕ
node =
    159 ∷ 235 ∷ 1 ∷ 0 ∷ 24 ∷ 0 ∷ 0 ∷ 0 ∷ 0 ∷ 0 ∷ 0 ∷ 0 ∷ 64 ∷ 0 ∷ 0 ∷ 0 ∷ 64 ∷ 0 ∷ 0 ∷ 0 ∷ 17 ∷ 0 ∷ 0 ∷ 0 ∷ 1 ∷ 0 ∷ 0 ∷ 0 ∷ 0 ∷ 0 ∷ 0 ∷ 1 ∷
    4 ∷ 0 ∷ 0 ∷ 0 ∷ 32 ∷ 0 ∷ 0 ∷ 0 ∷ 5 ∷ 0 ∷ 0 ∷ 0 ∷ 2 ∷ 0 ∷ 0 ∷ 4 ∷ 16 ∷ 0 ∷ 0 ∷ 0 ∷ 10 ∷ 0 ∷ 0 ∷ 0 ∷ 3 ∷ 0 ∷ 0 ∷ 0 ∷ 0 ∷ 0 ∷ 0 ∷ 0 ∷ 15 ∷
    0 ∷ 0 ∷ 0 ∷ 1 ∷ 0 ∷ 0 ∷ 0 ∷ 64 ∷ 0 ∷ 0 ∷ 0 ∷ 0 ∷ 0 ∷ 0 ∷ 0 ∷ 0 ∷ 0 ∷ 0 ∷ 2 ∷ 2 ∷ 0 ∷ 0 ∷ 0 ∷ 0 ∷ 105 ∷ 110 ∷ 116 ∷ 0 ∷ 110 ∷ 111 ∷
    100 ∷ 101 ∷ 0 ∷ 110 ∷ 101 ∷ 120 ∷ 116 ∷ 0 ∷ 118 ∷ 0 ∷ []

-- its types, void first
abbrev pub node_types : List BtfType
node_types =
    Void
    ∷ Int (ascii "int") 32
    ∷ Composite true (ascii "node") 16
    (record { name = ascii "next"; type_id = 3; bit_offset = 0; bit_size = 0 }
    ∷ record { name = ascii "v"; type_id = 1; bit_offset = 64; bit_size = 0 }
    ∷ [])
    ∷ Ptr 2
    ∷ []

-- 1 STRUCT s size 0, 2 DECL_TAG t on type 1
abbrev pub tagged : List ℕ
tagged =
    159 ∷ 235 ∷ 1 ∷ 0 ∷ 24 ∷ 0 ∷ 0 ∷ 0 ∷ 0 ∷ 0 ∷ 0 ∷ 0 ∷ 28 ∷ 0 ∷ 0 ∷ 0 ∷ 28 ∷ 0 ∷ 0 ∷ 0 ∷ 5 ∷ 0 ∷ 0 ∷ 0 ∷ 1 ∷ 0 ∷ 0 ∷ 0 ∷ 0 ∷ 0 ∷ 0 ∷ 4 ∷
    0 ∷ 0 ∷ 0 ∷ 0 ∷ 3 ∷ 0 ∷ 0 ∷ 0 ∷ 0 ∷ 0 ∷ 0 ∷ 17 ∷ 1 ∷ 0 ∷ 0 ∷ 0 ∷ 255 ∷ 255 ∷ 255 ∷ 255 ∷ 0 ∷ 115 ∷ 0 ∷ 116 ∷ 0 ∷ []

pub record Samples : Type 0 where
  pub node_types_lem : type_list node ≡ node_types
  -- what the struct and the pointer follow
  pub members : followed_ids (type_of (described_in node) 2) ≡ 3 ∷ 1 ∷ []
  pub target : followed_ids (type_of (described_in node) 3) ≡ 2 ∷ []
  -- opened with pointer size 4 and mode bit 0
  pub pointer : (table_in 4 1 tagged).ptr_sz ≡ 4
  pub union : (table_in 4 1 tagged).union_as_struct ≡ true
  pub tags : (table_in 4 1 tagged).decl_tags 1 ≡ 2 ∷ []
