-- The entries of a chain as three words.
use Rattle.std.specs.Prelude.{ℕ, Bool, true, false, List, [], ◌∷◌, get_or}
use Rattle.session_declaration_reader.specs.bases.Items.{Item, item, Placed, placed}
use Rattle.session_declaration_reader.specs.tokens.Looking.{qualifier_code}
use Rattle.session_declaration_reader.specs.declared.bases.items.Chain.{Chain}
use Rattle.session_declaration_reader.specs.declared.bases.items.Entry.{Entry}
use Rattle.session_declaration_reader.specs.declared.bases.items.Entry.TheVariants.{Base, Pointer, Array}
use Rattle.session_declaration_reader.specs.declared.bases.items.Entry.TheVariants.{Prototype, Qualifier, FollowedBase}

abbrev pub any_code : Bool → ℕ
any_code true = 1
any_code false = 0

-- the kind of a base: of a parameter that another follows, or of any other
abbrev pub base_code : Bool → ℕ
base_code true = 6
base_code false = 1

abbrev pub item_of : Entry → Item
item_of (Base start length) = item 1 start length
item_of Pointer = item 2 0 0
item_of (Array count) = item 3 count 0
item_of (Prototype takes) = item 4 (any_code takes) 0
item_of (Qualifier q) = item 5 (qualifier_code q) 0
item_of (FollowedBase start length) = item 6 start length

-- an entry's three words
abbrev pub item_words : Item → List ℕ
item_words (item k x y) = k ∷ x ∷ y ∷ []

-- the entry whose three words these are
abbrev pub item_in : List ℕ → Item
item_in w = item (get_or w 0 0) (get_or w 1 0) (get_or w 2 0)

-- the entries of a chain that is being stored
abbrev pub stored : Chain → Placed
stored c = placed c.n c.words.now
