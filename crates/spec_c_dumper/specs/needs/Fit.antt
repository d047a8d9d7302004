-- What demand 3 needs of a table, as a test that computes: causes 6 and 7 of opening, as far as it uses them.
use Rattle.std.specs.Prelude.{ℕ, zero, suc, Bool, true, false, not, ◌&&◌, ◌||◌, List, [], ◌∷◌, ltb}
use Rattle.spec_c_dumper.specs.rules.Order.{Node, ignored, plain, listed, through, ptr, tdef, proto, comp, Table}
use Rattle.spec_c_dumper.specs.needs.Needs.{kids, is_holder}
use Rattle.spec_c_dumper.specs.needs.Proto.{chase}

abbrev pub is_plain : Node → Bool
is_plain ignored = false
is_plain plain = true
is_plain (listed f) = false
is_plain (through a t) = false
is_plain (ptr t) = false
is_plain (tdef t) = false
is_plain (proto ts) = false
is_plain (comp ts) = false

unfoldable pub all_below : ℕ → List ℕ → Bool
all_below n [] = true
all_below n (y ∷ ys) = ltb y n && all_below n ys

unfoldable pub none_proto : Table → List ℕ → Bool
none_proto T [] = true
none_proto T (y ∷ ys) = not (chase T.count T y) && none_proto T ys

-- what a type follows lies below the count; if it is a composite or an array, no member and no element leads to a prototype
unfoldable pub fit_node : Table → Node → Bool
fit_node T nd = all_below T.count (kids nd) && (not (is_holder nd) || none_proto T (kids nd))

-- the ids below k
unfoldable pub fit_to : Table → ℕ → Bool
fit_to T zero = true
fit_to T (suc k) = fit_node T (T.node k) && fit_to T k

unfoldable pub fit : Table → Bool
fit T = is_plain (T.node 0) && fit_to T T.count
