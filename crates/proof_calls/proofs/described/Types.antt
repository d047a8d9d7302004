-- One type: it stands for itself, its DECL_TAGs, and what it follows, described and as the rules see it. strings: the place of its name.
-- Assumes nothing.
use Prim.Native.Nat.{ℕ}
use mathlib.Core.Path.{◌≡◌, refl, ap}
use mathlib.Core.List.{List, [], ◌∷◌, Memᴰ}
use Rattle.spec_linux_btf.specs.Documentation.{Member, member, Param, param, int, ptr, array, struct, union, enum, fwd, typedef, volatile, const, restrict, func, func_proto, var, datasec, float, decl_tag, type_tag, enum64, Described, described}
use Rattle.spec_c_dumper.specs.rules.Types as R
use Rattle.spec_c_dumper.specs.rules.Types.{BtfType, Void, Int, Ptr, Array, Composite, Enum, Enum64, Fwd, Typedef, Mod, Func, Var, Datasec, FuncProto, Float, DeclTag, TypeTag, node_of, member_types, param_types}
use Rattle.spec_c_dumper.specs.rules.Listed.{tags_id}
use Rattle.spec_type_table.specs.Documented.{kept_members, kept_params, kept}
use Rattle.spec_c_dumper.specs.needs.Needs.{kids}
use Rattle.spec_cut.specs.section.Kept.{member_ids, param_ids, followed_ids}
use Rattle.spec_cut.specs.section.Stands as S
use Rattle.proof_demands.specs.demands.Table.{is_tag_for}

same_members : (J : ℕ → ℕ → Type 0) (ms : List R.Member) → ((y : ℕ) → Memᴰ y (member_types ms) → J y y) → S.SameMembers J ms ms
same_members J [] h = S.no_members
same_members J (m ∷ ms) h = S.member m.name m.type_id m.type_id m.bit_offset m.bit_size (h m.type_id (Memᴰ.head refl)) (same_members J ms (λ y e. h y (Memᴰ.tail e)))

same_params : (J : ℕ → ℕ → Type 0) (ps : List R.Param) → ((y : ℕ) → Memᴰ y (param_types ps) → J y y) → S.SameParams J ps ps
same_params J [] h = S.no_params
same_params J (p ∷ ps) h = S.param p.name p.type_id p.type_id (h p.type_id (Memᴰ.head refl)) (same_params J ps (λ y e. h y (Memᴰ.tail e)))

-- a type is the same as itself, where what it follows stands for itself
pub same_self : (J : ℕ → ℕ → Type 0) (t : BtfType) → ((y : ℕ) → Memᴰ y (kids (node_of t)) → J y y) → S.SameType J t t
same_self J Void h = S.void
same_self J (Int n b) h = S.int n b
same_self J (Ptr t) h = S.ptr t t (h t (Memᴰ.head refl))
same_self J (Array t k) h = S.array t t k (h t (Memᴰ.head refl))
same_self J (Composite c n z ms) h = S.composite c n z ms ms (same_members J ms h)
same_self J (Enum c n z vs) h = S.enum c n z vs
same_self J (Enum64 c n z vs) h = S.enum64 c n z vs
same_self J (Fwd u n) h = S.fwd u n
same_self J (Typedef n t) h = S.typedef n t t (h t (Memᴰ.head refl))
same_self J (Mod q t) h = S.qualified q t t (h t (Memᴰ.head refl))
same_self J (Func n) h = S.func n
same_self J (Var n) h = S.var n
same_self J (Datasec n) h = S.datasec n
same_self J (FuncProto r ps) h = S.proto r r ps ps (h r (Memᴰ.head refl)) (same_params J ps (λ y e. h y (Memᴰ.tail e)))
same_self J (Float n z) h = S.float n z
same_self J (DeclTag a n t k) h = S.decl_tag a n t t k
same_self J (TypeTag a n t) h = S.type_tag a n t t (h t (Memᴰ.head refl))

-- a DECL_TAG on an id, in the words of two crates
pub tag_alike : (id : ℕ) (t : BtfType) → is_tag_for id t ≡ tags_id id t
unfolding tags_id
tag_alike id Void = refl
tag_alike id (Int n b) = refl
tag_alike id (Ptr t) = refl
tag_alike id (Array t k) = refl
tag_alike id (Composite c n z ms) = refl
tag_alike id (Enum c n z vs) = refl
tag_alike id (Enum64 c n z vs) = refl
tag_alike id (Fwd u n) = refl
tag_alike id (Typedef n t) = refl
tag_alike id (Mod q t) = refl
tag_alike id (Func n) = refl
tag_alike id (Var n) = refl
tag_alike id (Datasec n) = refl
tag_alike id (FuncProto r ps) = refl
tag_alike id (Float n z) = refl
tag_alike id (DeclTag a n t k) = refl
tag_alike id (TypeTag a n t) = refl

-- what a described type follows is what the rules see of it
members_ids : (strings : ℕ) (s : List ℕ) (ms : List Member) → member_types (kept_members strings s ms) ≡ member_ids ms
members_ids strings s [] = refl
members_ids strings s (member n t offset size ∷ ms) = ap (λ (l : List ℕ). t ∷ l) (members_ids strings s ms)

params_ids : (strings : ℕ) (s : List ℕ) (ps : List Param) → param_types (kept_params strings s ps) ≡ param_ids ps
params_ids strings s [] = refl
params_ids strings s (param n t ∷ ps) = ap (λ (l : List ℕ). t ∷ l) (params_ids strings s ps)

pub kids_are : (strings : ℕ) (s : List ℕ) (d : Described) → kids (node_of (kept strings s d)) ≡ followed_ids d
unfolding kept
kids_are strings s (described n f z (int v a c d e g)) = refl
kids_are strings s (described n f z (ptr v)) = refl
kids_are strings s (described n f z (array v t i k)) = refl
kids_are strings s (described n f z (struct ms)) = members_ids strings s ms
kids_are strings s (described n f z (union ms)) = members_ids strings s ms
kids_are strings s (described n f z (enum es)) = refl
kids_are strings s (described n f z (fwd v)) = refl
kids_are strings s (described n f z (typedef v)) = refl
kids_are strings s (described n f z (volatile v)) = refl
kids_are strings s (described n f z (const v)) = refl
kids_are strings s (described n f z (restrict v)) = refl
kids_are strings s (described n f z (func v)) = refl
kids_are strings s (described n f z (func_proto ps)) = ap (λ (l : List ℕ). z ∷ l) (params_ids strings s ps)
kids_are strings s (described n f z (var v l)) = refl
kids_are strings s (described n f z (datasec ss)) = refl
kids_are strings s (described n f z (float v)) = refl
kids_are strings s (described n f z (decl_tag v c)) = refl
kids_are strings s (described n f z (type_tag v)) = refl
kids_are strings s (described n f z (enum64 es)) = refl
