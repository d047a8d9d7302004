-- What a path says, in the words of the request. That the walk finds such a path is proved in proofs/Sound.antt.
use Rattle.std.specs.Prelude.{ℕ, suc, ◌+◌, ◌-◌, ◌*◌, ◌<◌, ◌≤◌, ◌≡◌, List, [], ◌∷◌}
use Rattle.spec_c_dumper.specs.rules.Writer.{got}
use Rattle.spec_c_dumper.specs.rules.Types.{Member, Array, Btf}
use Rattle.spec_c_dumper.specs.rules.Layout.{get_size_of}
use Rattle.session_field_at_bit.specs.step.Path.{plain, through, composite, shape_of}

-- "A member covers the bits of its size or of its field"
pub data Covers (B : Btf) (m : Member) (bit : ℕ) : Type 0 where
  by_size : (size : ℕ) → m.bit_size ≡ 0 → get_size_of 512 B m.type_id ≡ got size → m.bit_offset ≤ bit → bit < m.bit_offset + 8 * size
      → Covers B m bit
  by_field : (m.bit_size ≡ 0 → ⊥) → m.bit_offset ≤ bit → bit < m.bit_offset + m.bit_size → Covers B m bit

-- "members are tried in order [..] the first covering one is entered": member k, with none before it that covers the bit
pub data First (B : Btf) (bit : ℕ) (m : Member) : List Member → ℕ → Type 0 where
  here : (ms : List Member) → Covers B m bit → First B bit m (m ∷ ms) 0
  later : (x : Member) (ms : List Member) (k : ℕ) → (Covers B x bit → ⊥) → First B bit m ms k → First B bit m (x ∷ ms) (suc k)

pub data Uncovered (B : Btf) (bit : ℕ) : List Member → Type 0 where
  none : Uncovered B bit []
  next : (x : Member) (ms : List Member) → (Covers B x bit → ⊥) → Uncovered B bit ms → Uncovered B bit (x ∷ ms)

-- The path p leads from a bit of a type inwards: through typedefs, qualifiers and type tags; to a place of an array, which lies below
-- its count; to a member that is the first to cover the bit, where a bit field is innermost. It ends in a type that is no composite
-- and no array, or in a composite none of whose members covers the bit.
pub data PathFrom (B : Btf) : ℕ → ℕ → List ℕ → Type 0 where
  passes : (id t bit : ℕ) (p : List ℕ) → shape_of (B.type_by_id id) ≡ through t → PathFrom B t bit p → PathFrom B id bit p
  place : (id t count size k bit rest : ℕ) (p : List ℕ) → B.type_by_id id ≡ Array t count → get_size_of 512 B t ≡ got size → k < count
      → bit ≡ k * (size * 8) + rest → rest < size * 8 → PathFrom B t rest p → PathFrom B id bit (k ∷ p)
  member : (id k bit : ℕ) (ms : List Member) (m : Member) (p : List ℕ) → shape_of (B.type_by_id id) ≡ composite ms → First B bit m ms k
      → m.bit_size ≡ 0
      → PathFrom B m.type_id (bit - m.bit_offset) p → PathFrom B id bit (k ∷ p)
  bit_field : (id k bit : ℕ) (ms : List Member) (m : Member) → shape_of (B.type_by_id id) ≡ composite ms → First B bit m ms k
      → (m.bit_size ≡ 0 → ⊥) → PathFrom B id bit (k ∷ [])
  ends : (id bit : ℕ) → shape_of (B.type_by_id id) ≡ plain → PathFrom B id bit []
  gap : (id bit : ℕ) (ms : List Member) → shape_of (B.type_by_id id) ≡ composite ms → Uncovered B bit ms → PathFrom B id bit []
