-- "Every tag or typedef name in the text is declared above its use, or is the tag of the definition in which it appears."
-- Statements only; proofs/Claims.antt has the proof.
use Rattle.std.specs.Prelude.{ℕ, ◌≡◌, true, false, ◌⊎◌}
use mathlib.Core.List.{List, [], ◌∷◌, ◌++◌, Memᴰ}
use Rattle.spec_c_dumper.specs.rules.Types.{Name, is_empty, BtfType, Void, Int, Ptr, Array, Composite, Enum, Enum64, Fwd, Typedef, Mod}
use Rattle.spec_c_dumper.specs.rules.Types.{Func}
use Rattle.spec_c_dumper.specs.rules.Types.{Var, Datasec, FuncProto, Float, DeclTag, TypeTag, Btf, name_of}
use Rattle.spec_c_dumper.specs.rules.Names.{Space, tag_space, ident_space, builtin}
use Rattle.spec_c_dumper.specs.needs.Lists.{Piece, defines, other}
use Rattle.spec_declared_first.specs.Notes.{Mention, Note}

-- "a table without the builtin name"
abbrev pub NoBuiltin : Btf → Type 0
NoBuiltin B = (id : ℕ) → builtin (name_of (B.type_by_id id)) ≡ false

-- a name stands in a text
pub record Stands (name text : List ℕ) : Type 0 where
  pub front : List ℕ
  pub back : List ℕ
  pub place : text ≡ front ++ (name ++ back)

abbrev pub bytes_of : Piece → List ℕ
bytes_of (defines x t) = t
bytes_of (other t) = t

-- whose name a mention is
pub record Key : Type 0 where
  pub space : Space
  pub id : ℕ

abbrev pub key_of : Mention → Key
key_of m = record { space = m.space; id = m.id }

abbrev pub keys_of : List Mention → List Key
keys_of [] = []
keys_of (m ∷ ms) = key_of m ∷ keys_of ms

abbrev pub name_in : Space → ℕ → Name → List Key
name_in space id name = elim (is_empty name) [ true ↦ [] | false ↦ record { space = space; id = id } ∷ [] ]

-- the tag or the typedef name of a type, if it has one
abbrev pub own_name : ℕ → BtfType → List Key
own_name id Void = []
own_name id (Int n b) = []
own_name id (Ptr t) = []
own_name id (Array t k) = []
own_name id (Composite s n z ms) = name_in tag_space id n
own_name id (Enum s n z vs) = name_in tag_space id n
own_name id (Enum64 s n z vs) = name_in tag_space id n
own_name id (Fwd u n) = name_in tag_space id n
own_name id (Typedef n t) = name_in ident_space id n
own_name id (Mod q t) = []
own_name id (Func n) = []
own_name id (Var n) = []
own_name id (Datasec n) = []
own_name id (FuncProto r ps) = []
own_name id (Float n z) = []
own_name id (DeclTag a n t k) = []
own_name id (TypeTag a n t) = []

module _ (B : Btf) where
  -- A piece declares the name of its type, with which it begins: a forward line, the definition of a composite or an enum, and a FWD their
  -- tag, a typedef its name.
  pub record Declares (p : Note) (m : Mention) : Type 0 where
    pub rest : List Mention
    pub begins : p.mentions ≡ m ∷ rest
    pub is_own : own_name p.id (B.type_by_id p.id) ≡ key_of m ∷ []

  -- a piece among these declares it, spelled as it is
  pub record Above (before : List Note) (m : Mention) : Type 0 where
    pub piece : Note
    pub is_before : Memᴰ piece before
    pub declares : Declares piece m

  -- the tag of the definition: of the composite whose body the piece is
  pub record ItsTag (p : Note) (m : Mention) : Type 0 where
    pub text : List ℕ
    pub is_body : p.piece ≡ defines p.id text
    pub is_tag : m.space ≡ tag_space
    pub declares : Declares p m

  -- A piece after others: it mentions first its own name, if its type has one, and then what it uses; all these stand in its text. Each use
  -- is declared above, or is the tag of the definition in which it appears.
  pub record FitsBefore (before : List Note) (p : Note) : Type 0 where
    pub own : List Mention
    pub uses : List Mention
    pub mentions : p.mentions ≡ own ++ uses
    pub is_own : keys_of own ≡ own_name p.id (B.type_by_id p.id)
    pub stand : (m : Mention) → Memᴰ m p.mentions → Stands m.name (bytes_of p.piece)
    pub each : (m : Mention) → Memᴰ m uses → Above before m ⊎ ItsTag p m

  -- every piece of a text
  pub record DeclaredAbove (notes : List Note) : Type 0 where
    pub fits : (before after : List Note) (p : Note) → notes ≡ before ++ (p ∷ after) → FitsBefore before p
