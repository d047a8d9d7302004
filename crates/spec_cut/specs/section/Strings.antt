-- The strings of the new section: "After the leading 0 each distinct name is stored once, in order of first mention".
use Rattle.std.specs.Prelude.{ℕ, suc, ◌+◌, Bool, true, false, List, [], ◌∷◌, ◌++◌, length}
use Rattle.spec_linux_btf.specs.Documentation.{Member, member, Enumerator, enumerator, Param, param, Enumerator64, enumerator64, int, ptr}
use Rattle.spec_linux_btf.specs.Documentation.{array, struct, union, enum, fwd, typedef, volatile, const, restrict, func, func_proto, var}
use Rattle.spec_linux_btf.specs.Documentation.{datasec, float, decl_tag, type_tag, enum64, Described, described}
use Rattle.spec_c_dumper.specs.rules.Types.{Name}
use Rattle.spec_c_dumper.specs.rules.Names.{same_bytes}
use Rattle.spec_type_table.specs.Names.{name_at}

abbrev pub member_names : List Member → List ℕ
member_names [] = []
member_names (member n t offset size ∷ ms) = n ∷ member_names ms

abbrev pub param_names : List Param → List ℕ
param_names [] = []
param_names (param n t ∷ ps) = n ∷ param_names ps

abbrev pub value_names : List Enumerator → List ℕ
value_names [] = []
value_names (enumerator n v ∷ vs) = n ∷ value_names vs

abbrev pub value64_names : List Enumerator64 → List ℕ
value64_names [] = []
value64_names (enumerator64 n lo hi ∷ vs) = n ∷ value64_names vs

-- the name offsets that a record mentions, in the order of its words: its own, then its entries'
unfoldable pub mentions : Described → List ℕ
mentions (described n f z (int v a b c d e)) = n ∷ []
mentions (described n f z (ptr v)) = n ∷ []
mentions (described n f z (array v t i k)) = n ∷ []
mentions (described n f z (struct ms)) = n ∷ member_names ms
mentions (described n f z (union ms)) = n ∷ member_names ms
mentions (described n f z (enum es)) = n ∷ value_names es
mentions (described n f z (fwd v)) = n ∷ []
mentions (described n f z (typedef v)) = n ∷ []
mentions (described n f z (volatile v)) = n ∷ []
mentions (described n f z (const v)) = n ∷ []
mentions (described n f z (restrict v)) = n ∷ []
mentions (described n f z (func v)) = n ∷ []
mentions (described n f z (func_proto ps)) = n ∷ param_names ps
mentions (described n f z (var v l)) = n ∷ []
mentions (described n f z (datasec ss)) = n ∷ []
mentions (described n f z (float v)) = n ∷ []
mentions (described n f z (decl_tag v c)) = n ∷ []
mentions (described n f z (type_tag v)) = n ∷ []
mentions (described n f z (enum64 es)) = n ∷ value64_names es

unfoldable pub all_mentions : List Described → List ℕ
all_mentions [] = []
all_mentions (t ∷ ts) = mentions t ++ all_mentions ts

-- whether a name is stored
unfoldable pub has : List Name → Name → Bool
has [] name = false
has (s ∷ ss) name = elim (same_bytes s name) [ true ↦ true | false ↦ has ss name ]

-- stored once
unfoldable pub add_name : List Name → Name → List Name
add_name ss name = elim (has ss name) [ true ↦ ss | false ↦ ss ++ (name ∷ []) ]

-- the names at these offsets of the old string area, each stored when it is first met
unfoldable pub add_all : List ℕ → List Name → List ℕ → List Name
add_all old ss [] = ss
add_all old ss (n ∷ ns) = add_all old (add_name ss (name_at old n)) ns

-- "After the leading 0": the empty name stands first
abbrev pub first_names : List Name
first_names = [] ∷ []

-- where a name stands in the strings, each ended by a 0
unfoldable pub place_in : List Name → Name → ℕ
place_in [] name = 0
place_in (s ∷ ss) name = elim (same_bytes s name) [ true ↦ 0 | false ↦ suc (length s) + place_in ss name ]
