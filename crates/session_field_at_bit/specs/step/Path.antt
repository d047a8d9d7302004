-- "Given a composite and a bit offset, return the path of members and array places, one word each from 0, to the innermost plain
-- member or bit field that covers it, the places in its own arrays included": the walk on a type table.
use Rattle.std.specs.Prelude.{ℕ, zero, suc, ◌+◌, ◌-◌, ◌*◌, ◌/◌, ◌%◌, Bool, true, false, ◌&&◌, List, [], ◌∷◌, leb, ltb, eqb}
use Rattle.spec_c_dumper.specs.rules.Writer.{Ask, got, no, ask_then, too_deep}
use Rattle.spec_c_dumper.specs.rules.Types.{Member, BtfType, Void, Int, Ptr, Array, Composite, Enum, Enum64, Fwd, Typedef, Mod, Func, Var}
use Rattle.spec_c_dumper.specs.rules.Types.{Datasec, FuncProto, Float, DeclTag, TypeTag, Btf}
use Rattle.spec_c_dumper.specs.rules.Layout.{get_size_of, end_of}

-- "21 when no member covers that bit, or the id is no composite"
abbrev pub no_member : ℕ
no_member = 21

-- what the walk sees of a type: an array of an element, a composite of members; a typedef, a qualifier, a type tag is passed
pub data Shape : Type 0 where
  plain : Shape
  through array : ℕ → Shape
  composite : List Member → Shape

unfoldable pub shape_of : BtfType → Shape
shape_of Void = plain
shape_of (Int n bits) = plain
shape_of (Ptr t) = plain
shape_of (Array t k) = array t
shape_of (Composite s n sz ms) = composite ms
shape_of (Enum s n sz vs) = plain
shape_of (Enum64 s n sz vs) = plain
shape_of (Fwd u n) = plain
shape_of (Typedef n t) = through t
shape_of (Mod q t) = through t
shape_of (Func n) = plain
shape_of (Var n) = plain
shape_of (Datasec n) = plain
shape_of (FuncProto r ps) = plain
shape_of (Float n sz) = plain
shape_of (DeclTag a n t k) = plain
shape_of (TypeTag a n t) = through t

unfoldable pub is_composite : Shape → Bool
is_composite plain = false
is_composite (through t) = false
is_composite (array t) = false
is_composite (composite ms) = true

unfoldable pub passed : (ℕ → Shape) → Shape → Shape
passed on plain = plain
passed on (through t) = on t
passed on (array t) = array t
passed on (composite ms) = composite ms

-- what stands behind typedefs, qualifiers and type tags: get_size_of passes them too, so 512 calls are enough
-- (crates/session_field_at_bit/proofs/field/Sound)
unfoldable pub behind : ℕ → Btf → ℕ → Shape
behind zero B id = plain
behind (suc left) B id = passed (behind left B) (shape_of (B.type_by_id id))

-- One step of the walk: no further; into entry k, to a type and a bit of it; to entry k, a bit field, which is innermost.
pub data Step : Type 0 where
  stay : Step
  enter : ℕ → ℕ → ℕ → Step
  field : ℕ → Step

-- "A member covers the bits of its size or of its field": from its offset to its end
unfoldable pub covers : ℕ → ℕ → ℕ → Bool
covers offset end bit = leb offset bit && ltb bit end

unfoldable pub entered : Member → ℕ → ℕ → Step
entered m k bit = elim (eqb m.bit_size 0) [ true ↦ enter k m.type_id (bit - m.bit_offset) | false ↦ field k ]

-- "members are tried in order, each plain one's size first, the first covering one is entered, and no later one is tried"; end_of asks
-- the size: "`get_size_of` past its 512 calls" is 12, "a member's end over 4294967295 bits" 16. These are the members from k on.
unfoldable pub tried : Btf → ℕ → ℕ → List Member → Ask Step
tried B bit k [] = got stay
tried B bit k (m ∷ ms) =
    ask_then (end_of B m) (λ end. elim (covers m.bit_offset end bit) [ true ↦ got (entered m k bit) | false ↦ tried B bit (k + 1) ms ])

-- the place in an array whose elements t have so many bytes; none where they have none
unfoldable pub placed : ℕ → ℕ → ℕ → Step
placed t size bit = elim (eqb size 0) [ true ↦ stay | false ↦ enter (bit / (size * 8)) t (bit % (size * 8)) ]

unfoldable pub step_in : Btf → ℕ → Shape → Ask Step
step_in B bit plain = got stay
step_in B bit (through t) = got stay
step_in B bit (array t) = ask_then (get_size_of 512 B t) (λ size. got (placed t size bit))
step_in B bit (composite ms) = tried B bit 0 ms

-- "12 means a path over 512 entries": no entry more
unfoldable pub full : Step → Ask (List ℕ)
full stay = got []
full (enter k t bit) = no too_deep
full (field k) = no too_deep

unfoldable pub onward : (ℕ → ℕ → Ask (List ℕ)) → Step → Ask (List ℕ)
onward on stay = got []
onward on (enter k t bit) = ask_then (on t bit) (λ p. got (k ∷ p))
onward on (field k) = got (k ∷ [])

-- the path inside a type, of at most so many entries; it ends where nothing further inside covers the bit
unfoldable pub path_from : ℕ → Btf → ℕ → ℕ → Ask (List ℕ)
path_from zero B id bit = ask_then (step_in B bit (behind 512 B id)) full
path_from (suc left) B id bit = ask_then (step_in B bit (behind 512 B id)) (onward (path_from left B))

-- "no member covers that bit": the path is empty
unfoldable pub some_entry : List ℕ → Ask (List ℕ)
some_entry [] = no no_member
some_entry (k ∷ p) = got (k ∷ p)

-- the path of a bit of a type that is to be a composite, or the refusal
unfoldable pub field_path : Btf → ℕ → ℕ → Ask (List ℕ)
field_path B id bit =
    elim (is_composite (shape_of (B.type_by_id id))) [ true ↦ ask_then (path_from 512 B id bit) some_entry | false ↦ no no_member ]
