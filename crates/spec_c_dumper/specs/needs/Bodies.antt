-- What the pieces of a session are: "the piece with a named composite's body carries that composite's id and defines it; forward lines,
-- mentions and inline nameless bodies define nothing."
use Rattle.std.specs.Prelude.{ℕ, ◌≡◌, Bool, true, false, List, [], ◌∷◌, ◌++◌}
use Rattle.spec_bytes.specs.text.Text.{ascii, whole}
use Rattle.spec_c_dumper.specs.rules.Order.{Node, ignored, plain, listed, through, ptr, tdef, proto, comp}
use Rattle.spec_c_dumper.specs.rules.Writer.{said, Writer}
use Rattle.spec_c_dumper.specs.rules.Types.{Name, is_empty, Member, Composite, Btf, node_of}
use Rattle.spec_c_dumper.specs.rules.Names.{Naming, spelled, builtin}
use Rattle.spec_c_dumper.specs.rules.Decl.{keyword}
use Rattle.spec_c_dumper.specs.rules.Emit.{definition, forward}
use Rattle.spec_c_dumper.specs.needs.Lists.{Piece, defines, other}

-- an enum or a FWD
abbrev pub is_leaf : Node → Bool
is_leaf ignored = false
is_leaf plain = false
is_leaf (listed f) = true
is_leaf (through a t) = false
is_leaf (ptr t) = false
is_leaf (tdef t) = false
is_leaf (proto ts) = false
is_leaf (comp ts) = false

-- t is what the writer prints, with the names at that step; held: the names at each of its bytes
pub record Prints {U : Type 0} (w : Writer U) (t : List ℕ) : Type 0 where
  pub names : U
  pub after : U
  pub held : List U
  pub is : w names ≡ said after (whole t) held

-- t begins with the word, a space, the name with some number, and ` {`
pub record Opens (word : List ℕ) (name : Name) (t : List ℕ) : Type 0 where
  pub number : ℕ
  pub rest : List ℕ
  pub is : t ≡ word ++ ascii " " ++ spelled name number ++ ascii " {" ++ rest

module _ {U : Type 0} (N : Naming U) (B : Btf) where
  -- x is a composite, and t is its definition at the top; it opens with its keyword and its name, if it has one, unless that is the builtin
  -- one
  pub record Body (x : ℕ) (t : List ℕ) : Type 0 where
    pub is_struct : Bool
    pub name : Name
    pub size : ℕ
    pub members : List Member
    pub is : B.type_by_id x ≡ Composite is_struct name size members
    pub prints : Prints (definition N B x (B.type_by_id x)) t
    pub opens : is_empty name ≡ false → builtin name ≡ false → Opens (keyword B is_struct) name t

  -- a forward line or a typedef; the definition of an enum or a FWD
  pub data Line (t : List ℕ) : Type 0 where
    once : (x : ℕ) → Prints (forward N B x (B.type_by_id x)) t → Line t
    leaf : (x : ℕ) → is_leaf (node_of (B.type_by_id x)) ≡ true → Prints (definition N B x (B.type_by_id x)) t → Line t

  abbrev pub PieceIs : Piece → Type 0
  PieceIs (defines x t) = Body x t
  PieceIs (other t) = Line t

  -- every piece is one of these
  abbrev pub PiecesAre : List Piece → Type 0
  PiecesAre [] = Unit {0}
  PiecesAre (p ∷ ps) = PieceIs p × PiecesAre ps
