-- The types and enumerators of a section whose header and records are sound.
use Rattle.std.specs.Prelude.{ℕ, suc, ◌+◌, List, [], ◌∷◌, length}
use Rattle.spec_linux_btf.specs.Documentation.{Body, int, ptr, array, struct, union, enum, fwd, typedef, volatile, const, restrict, func}
use Rattle.spec_linux_btf.specs.Documentation.{func_proto, var, datasec, float, decl_tag, type_tag, enum64, Described, described}
use Rattle.spec_linux_btf.specs.Reading.{decode_all}
use Rattle.spec_linux_btf.specs.Section.{is_big_endian, type_area}

-- the types of a section, from id 1 on
abbrev pub described_in : List ℕ → List Described
described_in s = decode_all (is_big_endian s) (type_area s)

-- "the count of types, void counted"
unfoldable pub types_of : List ℕ → ℕ
types_of s = suc (length (described_in s))

-- the enumerators of a type: the entries of an ENUM and of an ENUM64
abbrev pub values_in : Body → ℕ
values_in (int v a b c d e) = 0
values_in (ptr v) = 0
values_in (array v t i n) = 0
values_in (struct ms) = 0
values_in (union ms) = 0
values_in (enum es) = length es
values_in (fwd v) = 0
values_in (typedef v) = 0
values_in (volatile v) = 0
values_in (const v) = 0
values_in (restrict v) = 0
values_in (func v) = 0
values_in (func_proto ps) = 0
values_in (var v l) = 0
values_in (datasec ss) = 0
values_in (float v) = 0
values_in (decl_tag v c) = 0
values_in (type_tag v) = 0
values_in (enum64 es) = length es

abbrev pub enumerators_in : Described → ℕ
enumerators_in (described name flag third body) = values_in body

abbrev pub all_enumerators : List Described → ℕ
all_enumerators [] = 0
all_enumerators (t ∷ ts) = enumerators_in t + all_enumerators ts

unfoldable pub enumerators_of : List ℕ → ℕ
enumerators_of s = all_enumerators (described_in s)
