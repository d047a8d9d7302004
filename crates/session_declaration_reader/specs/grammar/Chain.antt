-- The chain of a declaration, from its base outward to the declared name: "a base, pointers, arrays, qualifiers on bases and
-- pointers, and prototypes with unnamed parameters". W is what a word of the text is kept as: its bytes, or where it stands.
use Rattle.std.specs.Prelude.{ℕ, ◌+◌, List, length}
use Rattle.spec_c_dumper.specs.rules.Types.{Qualifier}

mutual
  -- what stands between the base and the declared name, from the base on: `array 3 (pointer [] named)` is a pointer to an array of 3
  pub data Layers (W : Type 0) : Type 0 where
    named : Layers W
    pointer : List Qualifier → Layers W → Layers W
    array : ℕ → Layers W → Layers W
    proto : Params W → Layers W → Layers W

  -- the parameters of a prototype, each with its qualifiers, base and layers; `dots` is the void that is written `...`
  pub data Params (W : Type 0) : Type 0 where
    closed : Params W
    dots : Params W
    param : List Qualifier → List W → Layers W → Params W → Params W

-- the base's qualifiers, the base's words, and the layers
pub record Chain (W : Type 0) : Type 0 where
  pub quals : List Qualifier
  pub words : List W
  pub layers : Layers W

module _ {W : Type 0} where
  -- "parameters' included and each base, qualifier, pointer, array and prototype counted"
  unfoldable mutual
    pub layer_entries : Layers W → ℕ
    layer_entries named = 0
    layer_entries (pointer q l) = 1 + length q + layer_entries l
    layer_entries (array n l) = 1 + layer_entries l
    layer_entries (proto ps l) = 1 + param_entries ps + layer_entries l

    pub param_entries : Params W → ℕ
    param_entries closed = 0
    param_entries dots = 1
    param_entries (param q ws l ps) = 1 + length q + layer_entries l + param_entries ps

  unfoldable pub entries : Chain W → ℕ
  entries c = 1 + length c.quals + layer_entries c.layers
