-- The words of a record in their order, each with what it is: the offset of a name, a stored id, or neither.
use Rattle.std.specs.Prelude.{ℕ, true, false, List, [], ◌∷◌, ◌++◌, eqb}
use Rattle.spec_linux_btf.specs.Documentation.{pack, btf_info, btf_int, Member, member, Enumerator, enumerator, Param, param, Secinfo}
use Rattle.spec_linux_btf.specs.Documentation.{secinfo, Enumerator64, enumerator64, Body, int, ptr, array, struct, union, enum, fwd}
use Rattle.spec_linux_btf.specs.Documentation.{typedef, volatile, const, restrict, func, func_proto, var, datasec, float, decl_tag}
use Rattle.spec_linux_btf.specs.Documentation.{type_tag, enum64, Described, described, kind_of, vlen_of, offset_word}

pub data Item : Type 0 where
  nm tid raw : ℕ → Item

-- a word with a role of `session_cut_marks::roles`: 1 a name, 2 an id
unfoldable pub item : ℕ → ℕ → Item
item role v = elim (eqb role 1) [ true ↦ nm v | false ↦ elim (eqb role 2) [ true ↦ tid v | false ↦ raw v ] ]

-- as it is written. i: the new number of an id; o: the new offset of a name
abbrev pub act : (ℕ → ℕ) → (ℕ → ℕ) → Item → ℕ
act i o (nm n) = o n
act i o (tid x) = i x
act i o (raw v) = v

abbrev pub flat : {A : Type 0} → (Item → List A) → List Item → List A
flat f [] = []
flat f (x ∷ xs) = f x ++ flat f xs

-- the name offset, of a word that is one
abbrev pub name_item : Item → List ℕ
name_item (nm n) = n ∷ []
name_item (tid x) = []
name_item (raw v) = []

abbrev pub member_items : ℕ → List Member → List Item
member_items f [] = []
member_items f (member n t bit size ∷ ms) = nm n ∷ tid t ∷ raw (offset_word f bit size) ∷ member_items f ms

abbrev pub value_items : List Enumerator → List Item
value_items [] = []
value_items (enumerator n v ∷ vs) = nm n ∷ raw v ∷ value_items vs

abbrev pub param_items : List Param → List Item
param_items [] = []
param_items (param n t ∷ ps) = nm n ∷ tid t ∷ param_items ps

abbrev pub secinfo_items : List Secinfo → List Item
secinfo_items [] = []
secinfo_items (secinfo t offset size ∷ ss) = tid t ∷ raw offset ∷ raw size ∷ secinfo_items ss

abbrev pub value64_items : List Enumerator64 → List Item
value64_items [] = []
value64_items (enumerator64 n lo hi ∷ vs) = nm n ∷ raw lo ∷ raw hi ∷ value64_items vs

-- the third word: `type`, or `size` or unused
abbrev pub third_item : Body → ℕ → Item
third_item (int v a b c d e) z = raw z
third_item (ptr v) z = tid z
third_item (array v t x k) z = raw z
third_item (struct ms) z = raw z
third_item (union ms) z = raw z
third_item (enum es) z = raw z
third_item (fwd v) z = raw z
third_item (typedef v) z = tid z
third_item (volatile v) z = tid z
third_item (const v) z = tid z
third_item (restrict v) z = tid z
third_item (func v) z = tid z
third_item (func_proto ps) z = tid z
third_item (var v l) z = tid z
third_item (datasec ss) z = raw z
third_item (float v) z = raw z
third_item (decl_tag v c) z = tid z
third_item (type_tag v) z = tid z
third_item (enum64 es) z = raw z

abbrev pub body_items : ℕ → Body → List Item
body_items f (int v a b c d e) = raw (pack btf_int (a ∷ b ∷ c ∷ d ∷ e ∷ [])) ∷ []
body_items f (ptr v) = []
body_items f (array v t x k) = tid t ∷ tid x ∷ raw k ∷ []
body_items f (struct ms) = member_items f ms
body_items f (union ms) = member_items f ms
body_items f (enum es) = value_items es
body_items f (fwd v) = []
body_items f (typedef v) = []
body_items f (volatile v) = []
body_items f (const v) = []
body_items f (restrict v) = []
body_items f (func v) = []
body_items f (func_proto ps) = param_items ps
body_items f (var v l) = raw l ∷ []
body_items f (datasec ss) = secinfo_items ss
body_items f (float v) = []
body_items f (decl_tag v c) = raw c ∷ []
body_items f (type_tag v) = []
body_items f (enum64 es) = value64_items es

-- struct btf_type and what follows it
unfoldable pub items : Described → List Item
items (described n f z body) = nm n ∷ raw (pack btf_info (vlen_of body ∷ kind_of body ∷ f ∷ [])) ∷ third_item body z ∷ body_items f body
