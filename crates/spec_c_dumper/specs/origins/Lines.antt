-- "One entry a line, in the text's order", "exactly those of the ordering and emission rules": statements only. The proofs are in
-- proofs/Lines.
use Rattle.std.specs.Prelude.{ℕ, ◌≡◌, Bool, true, false, not, ◌&&◌, ◌≢◌, eqb}
use mathlib.Core.List.{List, [], ◌∷◌, ◌++◌, Memᴰ}
use Rattle.spec_bytes.specs.text.Text.{ascii, whole}
use Rattle.spec_c_dumper.specs.rules.Order.{Node, ignored, plain, listed, through, ptr, tdef, proto, comp, Table, is_comp, Res, ok}
use Rattle.spec_c_dumper.specs.rules.Order.{refused}
use Rattle.spec_c_dumper.specs.rules.Machine.{Sess, Answer, single}
use Rattle.spec_c_dumper.specs.rules.Writer.{said, Writer}
use Rattle.spec_c_dumper.specs.rules.Types.{Btf, node_of, table_of}
use Rattle.spec_c_dumper.specs.rules.Names.{Naming}
use Rattle.spec_c_dumper.specs.rules.Emit.{definition, forward}
use Rattle.spec_c_dumper.specs.needs.Lists.{Piece, defines, other, Ls}
use Rattle.spec_c_dumper.specs.needs.Session.{Known, machine_by}
use Rattle.spec_c_dumper.specs.origins.Causes.{Entry, entry, WithLeaders, order_with_leaders}
use Rattle.spec_c_dumper.specs.origins.Claims.{ChainFrom, LedTo}

-- a text that ends in `;`, a newline and an empty line
pub record Ended (t : List ℕ) : Type 0 where
  pub front : List ℕ
  pub is : t ≡ front ++ ascii ";\n\n"

-- ---- the line of an entry
abbrev pub is_typedef : Node → Bool
is_typedef ignored = false
is_typedef plain = false
is_typedef (listed f) = false
is_typedef (through a t) = false
is_typedef (ptr t) = false
is_typedef (tdef t) = true
is_typedef (proto ts) = false
is_typedef (comp ts) = false

-- whether it is the forward line of a composite, or a typedef; all others are definitions
abbrev pub is_forward : Node → ℕ → Bool
is_forward ignored cause = false
is_forward plain cause = false
is_forward (listed f) cause = false
is_forward (through a t) cause = false
is_forward (ptr t) cause = false
is_forward (tdef t) cause = true
is_forward (proto ts) cause = false
is_forward (comp ts) cause = eqb cause 2

module _ {U : Type 0} (N : Naming U) (B : Btf) where
  abbrev pub writer_of : Entry → Writer U
  writer_of e = elim (is_forward (node_of (B.type_by_id e.id)) e.cause) [
    | true ↦ forward N B e.id (B.type_by_id e.id)
    | false ↦ definition N B e.id (B.type_by_id e.id)
  ]

  -- t is what the line of the entry prints, with the names at that step, u; it ends as a line does. v: the names after it; held: those at
  -- each of its bytes
  pub record Says (u : U) (e : Entry) (t : List ℕ) (v : U) : Type 0 where
    pub held : List U
    pub is : writer_of e u ≡ said v (whole t) held
    pub ends : Ended t

  -- the piece of that line: one with a composite's body defines it
  abbrev pub piece_of : Entry → List ℕ → Piece
  piece_of e t = elim (is_comp (node_of (B.type_by_id e.id)) && not (eqb e.cause 2)) [ true ↦ defines e.id t | false ↦ other t ]

  -- Entries and pieces, one to one, in their order; a piece that prints nothing has no entry. Each line has the names that the one before
  -- it left.
  pub data Pairs (Why : Entry → Type 0) : U → List Entry → List Piece → U → Type 0 where
    none : (u : U) → Pairs Why u [] [] u
    more : (u v w : U) (e : Entry) (t : List ℕ) (es : List Entry) (ps : List Piece) → Why e → Says u e t v → Pairs Why v es ps w
        → Pairs Why u (e ∷ es) (piece_of e t ∷ ps) w
    blank : (u w : U) (es : List Entry) (ps : List Piece) → Pairs Why u es ps w → Pairs Why u es (other [] ∷ ps) w

  -- what a part of a request adds to the entries and to the pieces; u, v: the names before and after it
  pub record Grown (Why : Entry → Type 0) (u v : U) (es es' : List Entry) (ps ps' : List Piece) : Type 0 where
    pub entries : List Entry
    pub pieces : List Piece
    pub entries_are : es' ≡ es ++ entries
    pub pieces_are : ps' ≡ ps ++ pieces
    pub pairs : Pairs Why u entries pieces v

-- ---- its cause

-- a typedef or a named composite: what emission takes as a container
abbrev pub is_container : Node → Bool → Bool
is_container ignored named = false
is_container plain named = false
is_container (listed f) named = false
is_container (through a t) named = false
is_container (ptr t) named = false
is_container (tdef t) named = true
is_container (proto ts) named = false
is_container (comp ts) named = named

abbrev pub contains : Table → ℕ → Bool
contains T z = is_container (T.node z) (T.named z)

-- the listed ids of a request
abbrev pub listed_ids : List (ℕ × ℕ) → List ℕ
listed_ids [] = []
listed_ids (p ∷ ps) = p.0 ∷ listed_ids ps

-- "at its first listing": l stands beside the first x
pub data First (x l : ℕ) : List (ℕ × ℕ) → Type 0 where
  here : (leaders : List (ℕ × ℕ)) → First x l ((x, l) ∷ leaders)
  later : (p : ℕ × ℕ) (leaders : List (ℕ × ℕ)) → p.0 ≢ x → First x l leaders → First x l (p ∷ leaders)

-- a container of the lines of the listed ids: one of these, or a typedef within such a container
pub data Container (T : Table) (Top : ℕ → Type 0) : ℕ → Type 0 where
  outer : (x : ℕ) → Top x → Container T Top x
  inner : (cont x : ℕ) → Container T Top cont → is_typedef (T.node x) ≡ true → ChainFrom T (contains T) cont x → Container T Top x

-- cont is the container at x: a typedef or a named composite, from which x is followed past no other
pub record Inside (T : Table) (Top : ℕ → Type 0) (cont x : ℕ) : Type 0 where
  pub some : cont ≢ 0
  pub contained : contains T cont ≡ true
  pub within : Container T Top cont
  pub leads : ChainFrom T (contains T) cont x

-- led: the listed ids of the request for req, in the order of their listings, each with what led to it
pub data Caused (T : Table) (req : ℕ) (leaders : List (ℕ × ℕ)) : Entry → Type 0 where
  requested : Memᴰ req (listed_ids leaders) → Caused T req leaders (entry req 0 req)
  needed : (x l : ℕ) → x ≢ req → First x l leaders → LedTo T req x l → Caused T req leaders (entry x 1 l)
  forwarded : (x cont : ℕ) → Inside T (λ y. Memᴰ y (listed_ids leaders)) cont x → Caused T req leaders (entry x 2 cont)
  early : (x cont : ℕ) → is_typedef (T.node x) ≡ true → Inside T (λ y. Memᴰ y (listed_ids leaders)) cont x
      → Caused T req leaders (entry x 3 cont)

-- ---- the requests of a call, in their turns

abbrev pub notes_of : {St : Type 0} → Res (WithLeaders St) → List (ℕ × ℕ)
notes_of (ok s b) = s.leaders
notes_of (refused e) = []

-- with a text slice of `room` bytes
module _ {U : Type 0} (N : Naming U) (B : Btf) (room : ℕ) where
  abbrev pub answered : Sess (Ls (Known U)) → ℕ → Answer (Ls (Known U))
  answered S x = single (machine_by N B) (table_of B) room S x

  -- what the ordering of a request for x in the session S notes
  unfoldable pub leaders_for : Sess (Ls (Known U)) → ℕ → List (ℕ × ℕ)
  leaders_for S x =
      notes_of (order_with_leaders (machine_by N B).store x 512 (table_of B) []
      (record { state = (machine_by N B).start room S.mach; leaders = [] }) x false)

  -- The accepted requests of a call, the first in the session S: the entries and the pieces of each, with the names as they are then, and
  -- for each entry a cause that this request and its very ordering give.
  pub data Turns : Sess (Ls (Known U)) → List ℕ → List Entry → List Piece → Type 0 where
    no_turn : (S : Sess (Ls (Known U))) → Turns S [] [] []
    turn : (S : Sess (Ls (Known U))) (x : ℕ) (xs : List ℕ) (es fs : List Entry) (ps qs : List Piece) → (answered S x).number ≡ 0
        → (answered S x).sess.mach.pieces ≡ S.mach.pieces ++ ps
        → Pairs N B (Caused (table_of B) x (leaders_for S x)) S.mach.known.names es ps (answered S x).sess.mach.known.names
        → Turns (answered S x).sess xs fs qs → Turns S (x ∷ xs) (es ++ fs) (ps ++ qs)
