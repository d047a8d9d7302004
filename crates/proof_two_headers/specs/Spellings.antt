-- "must not reuse each other's names": what the two headers print of one name. Statements only; proofs/Spellings.antt has the proofs, which
-- assume nothing.
use Rattle.std.specs.Prelude.{ℕ, ◌<◌, ◌≡◌, get_or}
use mathlib.Core.List.{List, [], ◌∷◌, Memᴰ}
use Rattle.spec_c_dumper.specs.rules.Types.{Name, BtfType, Void, Int, Ptr, Array, Composite, Enum, Enum64, Fwd, Typedef, Mod, Func, Var}
use Rattle.spec_c_dumper.specs.rules.Types.{Datasec, FuncProto, Float, DeclTag, TypeTag, Btf, name_of}
use Rattle.spec_c_dumper.specs.rules.Names.{Space, tag_space, ident_space, spelled, holders}
use Rattle.proof_two_headers.specs.Shared.{Ledger, of_type, Given}
use Rattle.proof_two_headers.specs.Calls.{Side, kernel, module', Call, World, part_of, calls, new_world}

-- the numbers given for a side's header: to a type when it is first printed, to an enumerator each time
abbrev pub given_in : World → Side → List Given
given_in W d = (part_of W d).sess.mach.known.names.given

abbrev pub spelling : Given → Name
spelling a = spelled a.name a.number

-- one name of one space
pub record SameName (a b : Given) : Type 0 where
  pub same_space : a.space ≡ b.space
  pub same_name : a.name ≡ b.name

-- a is spelled otherwise than all of the list that have its name
abbrev pub Otherwise : Given → List Given → Type 0
Otherwise a l = (b : Given) → Memᴰ b l → SameName a b → spelling a ≡ spelling b → ⊥

abbrev pub AllOtherwise : List Given → Type 0
AllOtherwise [] = Unit {0}
AllOtherwise (a ∷ l) = Otherwise a l × AllOtherwise l

-- the space of a type's name: typedefs are identifiers, the others tags
abbrev pub space_of : BtfType → Space
space_of Void = tag_space
space_of (Int n b) = tag_space
space_of (Ptr t) = tag_space
space_of (Array t k) = tag_space
space_of (Composite s n z ms) = tag_space
space_of (Enum s n z vs) = tag_space
space_of (Enum64 s n z vs) = tag_space
space_of (Fwd u n) = tag_space
space_of (Typedef n t) = ident_space
space_of (Mod q t) = tag_space
space_of (Func n) = tag_space
space_of (Var n) = tag_space
space_of (Datasec n) = tag_space
space_of (FuncProto r ps) = tag_space
space_of (Float n z) = tag_space
space_of (DeclTag a n t k) = tag_space
space_of (TypeTag a n t) = tag_space

-- what type id of the table got: its own name
pub record Got (B : Btf) (id version : ℕ) (l : List Given) : Type 0 where
  pub what : Given
  pub is_given : Memᴰ what l
  pub its_id : what.who ≡ of_type id
  pub its_space : what.space ≡ space_of (B.type_by_id id)
  pub its_name : what.name ≡ name_of (B.type_by_id id)
  pub its_number : what.number ≡ version

-- the version of type id in a side's header, 0 while it is not printed there
abbrev pub version_in : World → Side → ℕ → ℕ
version_in W d id = get_or (part_of W d).sess.mach.known.names.versions id 0

-- no text of 2^30 bytes prints so many that the largest number is met
abbrev pub FewHolders : Ledger → Type 0
FewHolders L = (space : Space) (name : Name) → holders L.entries space name < 4294967295

pub record Unlike (B : Side → Btf) (W : World) : Type 0 where
  -- in one header
  pub own : (d : Side) → AllOtherwise (given_in W d)
  -- in the one and in the other
  pub each_other : (a : Given) → Memᴰ a (given_in W kernel) → Otherwise a (given_in W module')
  -- a type that was printed in a header has there the number that its name got
  pub types : (d : Side) (id : ℕ) → (version_in W d id ≡ 0 → ⊥) → Got (B d) id (version_in W d id) (given_in W d)
  -- so no two types of one space and one name, each printed in the one or the other header, are spelled alike; a type that is printed in
  -- both counts as two
  pub two_types : (d e : Side) (i j : ℕ) → ((d ≡ e) × (i ≡ j) → ⊥) → (version_in W d i ≡ 0 → ⊥) → (version_in W e j ≡ 0 → ⊥)
      → space_of ((B d).type_by_id i) ≡ space_of ((B e).type_by_id j) → name_of ((B d).type_by_id i) ≡ name_of ((B e).type_by_id j)
      → spelled (name_of ((B d).type_by_id i)) (version_in W d i) ≡ spelled (name_of ((B e).type_by_id j)) (version_in W e j) → ⊥

-- THE CLAIM, of every two tables and every list of calls, whatever lengths they lend
abbrev pub Claim : Type 0
Claim =
    (B : Side → Btf) (cs : List Call) → FewHolders (calls B new_world cs).ledger → Unlike B (calls B new_world cs)
