-- Two tables under one setting, and which id of the second stands for which of the first: the same types, with each followed id replaced by
-- the one that stands for it. What an order-preserving renumbering of the types that are kept gives; proofs/Claims.antt says that requests
-- then go alike.
use Rattle.std.specs.Prelude.{ℕ, ◌<◌, ◌≡◌, Bool, List, [], ◌∷◌}
use Rattle.spec_c_dumper.specs.rules.Types.{Name, Member, Param, Enumerator, Qualifier, BtfType, Void, Int, Ptr, Array, Composite, Enum}
use Rattle.spec_c_dumper.specs.rules.Types.{Enum64, Fwd, Typedef, Mod, Func, Var, Datasec, FuncProto, Float, DeclTag, TypeTag, Btf}
use Rattle.spec_c_dumper.specs.rules.Machine.{Req, one}

-- "with the same settings": another table under the settings of B
abbrev pub with_types : Btf → ℕ → (ℕ → BtfType) → (ℕ → List ℕ) → Btf
with_types B n types tags = record {
  ptr_sz = B.ptr_sz;
  union_as_struct = B.union_as_struct;
  strong_arrays = B.strong_arrays;
  placing = B.placing;
  type_cnt = n;
  type_by_id = types;
  decl_tags = tags;
}

-- no DECL_TAG: "a followed id .. of kind 12, 14, 15, 17" is refused by 6
abbrev pub NoTag : BtfType → Type 0
NoTag Void = Unit {0}
NoTag (Int n b) = Unit {0}
NoTag (Ptr t) = Unit {0}
NoTag (Array t k) = Unit {0}
NoTag (Composite s n z ms) = Unit {0}
NoTag (Enum s n z vs) = Unit {0}
NoTag (Enum64 s n z vs) = Unit {0}
NoTag (Fwd u n) = Unit {0}
NoTag (Typedef n t) = Unit {0}
NoTag (Mod q t) = Unit {0}
NoTag (Func n) = Unit {0}
NoTag (Var n) = Unit {0}
NoTag (Datasec n) = Unit {0}
NoTag (FuncProto r ps) = Unit {0}
NoTag (Float n z) = Unit {0}
NoTag (DeclTag a n t k) = ⊥
NoTag (TypeTag a n t) = Unit {0}

-- lists whose entries stand for each other, in order
pub data Each (I : ℕ → ℕ → Type 0) : List ℕ → List ℕ → Type 0 where
  none : Each I [] []
  more : {x x' : ℕ} {xs xs' : List ℕ} → I x x' → Each I xs xs' → Each I (x ∷ xs) (x' ∷ xs')

-- J: a followed id, and the one that stands for it
module _ (J : ℕ → ℕ → Type 0) where
  pub data SameMembers : List Member → List Member → Type 0 where
    no_members : SameMembers [] []
    member : (n : Name) (t t' offset size : ℕ) {ms ms' : List Member} → J t t' → SameMembers ms ms'
        → SameMembers (record { name = n; type_id = t; bit_offset = offset; bit_size = size } ∷ ms)
        (record { name = n; type_id = t'; bit_offset = offset; bit_size = size } ∷ ms')

  pub data SameParams : List Param → List Param → Type 0 where
    no_params : SameParams [] []
    param : (n : Name) (t t' : ℕ) {ps ps' : List Param} → J t t' → SameParams ps ps'
        → SameParams (record { name = n; type_id = t } ∷ ps) (record { name = n; type_id = t' } ∷ ps')

  -- The same type. A DECL_TAG's target is not followed.
  pub data SameType : BtfType → BtfType → Type 0 where
    void : SameType Void Void
    int : (n : Name) (b : ℕ) → SameType (Int n b) (Int n b)
    ptr : (t t' : ℕ) → J t t' → SameType (Ptr t) (Ptr t')
    array : (t t' k : ℕ) → J t t' → SameType (Array t k) (Array t' k)
    composite : (s : Bool) (n : Name) (z : ℕ) (ms ms' : List Member) → SameMembers ms ms'
        → SameType (Composite s n z ms) (Composite s n z ms')
    enum : (s : Bool) (n : Name) (z : ℕ) (vs : List Enumerator) → SameType (Enum s n z vs) (Enum s n z vs)
    enum64 : (s : Bool) (n : Name) (z : ℕ) (vs : List Enumerator) → SameType (Enum64 s n z vs) (Enum64 s n z vs)
    fwd : (u : Bool) (n : Name) → SameType (Fwd u n) (Fwd u n)
    typedef : (n : Name) (t t' : ℕ) → J t t' → SameType (Typedef n t) (Typedef n t')
    qualified : (q : Qualifier) (t t' : ℕ) → J t t' → SameType (Mod q t) (Mod q t')
    func : (n : Name) → SameType (Func n) (Func n)
    var : (n : Name) → SameType (Var n) (Var n)
    datasec : (n : Name) → SameType (Datasec n) (Datasec n)
    proto : (r r' : ℕ) (ps ps' : List Param) → J r r' → SameParams ps ps' → SameType (FuncProto r ps) (FuncProto r' ps')
    float : (n : Name) (z : ℕ) → SameType (Float n z) (Float n z)
    decl_tag : (a : Bool) (n : Name) (t t' k : ℕ) → SameType (DeclTag a n t k) (DeclTag a n t' k)
    type_tag : (a : Bool) (n : Name) (t t' : ℕ) → J t t' → SameType (TypeTag a n t) (TypeTag a n t')

-- a followed id is kept, and no DECL_TAG
abbrev pub Followed : Btf → (ℕ → ℕ → Type 0) → ℕ → ℕ → Type 0
Followed B I x x' = I x x' × NoTag (B.type_by_id x)

-- what prints its tags: composites and typedefs
abbrev pub Tagged : BtfType → Type 0
Tagged Void = ⊥
Tagged (Int n b) = ⊥
Tagged (Ptr t) = ⊥
Tagged (Array t k) = ⊥
Tagged (Composite s n z ms) = Unit {0}
Tagged (Enum s n z vs) = ⊥
Tagged (Enum64 s n z vs) = ⊥
Tagged (Fwd u n) = ⊥
Tagged (Typedef n t) = Unit {0}
Tagged (Mod q t) = ⊥
Tagged (Func n) = ⊥
Tagged (Var n) = ⊥
Tagged (Datasec n) = ⊥
Tagged (FuncProto r ps) = ⊥
Tagged (Float n z) = ⊥
Tagged (DeclTag a n t k) = ⊥
Tagged (TypeTag a n t) = ⊥

-- `I x x'`: id x of B is kept, and has number x' in the table of n types, `types`, with the tags `tags`.
pub record Stands (B : Btf) (n : ℕ) (types : ℕ → BtfType) (tags : ℕ → List ℕ) (I : ℕ → ℕ → Type 0) : Type 0 where
  -- "Ids start at 1; 0 is void"
  pub zero_kept : I 0 0
  pub inside : (x x' : ℕ) → I x x' → (x < B.type_cnt) × (x' < n)
  -- each id has one number, and each number one id
  pub one_number : (x x' y y' : ℕ) → I x x' → I y y' → x ≡ y → x' ≡ y'
  pub one_id : (x x' y y' : ℕ) → I x x' → I y y' → x' ≡ y' → x ≡ y
  pub same_type : (x x' : ℕ) → I x x' → SameType (Followed B I) (B.type_by_id x) (types x')
  -- "their declaration tags", in the order of their ids
  pub same_tags : (x x' : ℕ) → I x x' → Tagged (B.type_by_id x) → Each I (B.decl_tags x) (tags x')

-- "the renumbered requests", lent the same room
pub data Renumbered (I : ℕ → ℕ → Type 0) : List Req → List Req → Type 0 where
  no_requests : Renumbered I [] []
  request : (room x x' : ℕ) {rs rs' : List Req} → I x x' → Renumbered I rs rs' → Renumbered I (one room x ∷ rs) (one room x' ∷ rs')
