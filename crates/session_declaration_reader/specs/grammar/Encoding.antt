-- How layers and parameters are stored: from the declared name to the base, a prototype before its parameters.
use Rattle.std.specs.Prelude.{ℕ, ◌-◌, List, [], ◌∷◌, ◌++◌}
use Rattle.session_declaration_reader.specs.tokens.Looking.{Span}
use Rattle.session_declaration_reader.specs.bases.Items.{Item, item, qual_items, first_from, last_to}
use Rattle.session_declaration_reader.specs.grammar.Chain.{Layers, named, pointer, array, proto, Params, closed, dots, param}

-- a base: where its words start in the text, and how many bytes they take
abbrev pub base_item : ℕ → List Span → Item
base_item kind ws = item kind (first_from ws) (last_to ws - first_from ws)

-- the kind of a parameter's base
abbrev pub base_kind : Params Span → ℕ
base_kind closed = 1
base_kind dots = 6
base_kind (param q ws l ps) = 6

-- whether a prototype has parameters
abbrev pub any_params : Params Span → ℕ
any_params closed = 0
any_params dots = 1
any_params (param q ws l ps) = 1

unfoldable mutual
  pub layer_items : Layers Span → List Item
  layer_items named = []
  layer_items (pointer q l) = layer_items l ++ (qual_items q ++ item 2 0 0 ∷ [])
  layer_items (array n l) = layer_items l ++ item 3 n 0 ∷ []
  layer_items (proto ps l) = layer_items l ++ item 4 (any_params ps) 0 ∷ param_items ps

  -- `...` is a base of no bytes
  pub param_items : Params Span → List Item
  param_items closed = []
  param_items dots = item 1 0 0 ∷ []
  param_items (param q ws l ps) = layer_items l ++ (qual_items q ++ base_item (base_kind ps) ws ∷ param_items ps)
