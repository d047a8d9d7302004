-- Ask 5, nothing mentioned before it is declared, of any calls and over the types that the section describes. Statement only;
-- proofs/Declared.antt has the proof, for the calls of specs/Ours; it assumes nothing.
use Rattle.std.specs.Prelude.{ℕ, ◌≡◌, List, take}
use Rattle.spec_c_dumper.specs.rules.Types.{Name, Btf}
use Rattle.spec_c_dumper.specs.rules.Names.{Naming}
use Rattle.spec_c_dumper.specs.rules.Machine.{Req}
use Rattle.spec_c_dumper.specs.needs.Session.{text_of}
use Rattle.spec_opening.specs.Described.{table_in}
use Rattle.spec_declared_first.specs.Notes.{notes_by, pieces_in}
use Rattle.spec_declared_first.specs.Declared.{NoBuiltin, DeclaredAbove}
use Rattle.spec_declared_first.specs.Renamed.{Renames, OnlyMentions}
use Rattle.claims.specs.Calls.{Calls}
use Rattle.claims.specs.Demands.{InBothModes}

-- pointer size, modes, section and length of the work, as at opening
module _ {R C : Type 0} (K : Calls R C) (pointer modes : ℕ) (s : List ℕ) (n : ℕ) where
  abbrev pub B : Btf
  B = table_in pointer modes s

  -- c: what the last call left, after the requests rs; with a way of keeping names, and the names at opening
  pub record DeclaredFirst (U : Type 0) (N : Naming U) (u : U) (c : C) (rs : List Req) : Type 0 where
    -- the text is that of the pieces "for accepted requests", each with a note of the tags and typedef names that it mentions
    pub text : take (K.len c) (K.text c) ≡ text_of (pieces_in (notes_by N B u rs))
    -- these are all there are: with any other names for what a line does not mention, it is the same line
    pub only : (other : ℕ → Name → Name) → Renames other → OnlyMentions N B other
    -- "over a table without the builtin name, [..] every tag or typedef name in the text is declared above its use, or is the tag of the
    -- definition in which it appears"
    pub declared : NoBuiltin B → DeclaredAbove B (notes_by N B u rs)

  -- THE CLAIM, of all pointer sizes, modes, sections of bytes and lengths of the work
  abbrev pub Request05 : Type 0
  Request05 = InBothModes K pointer modes s n DeclaredFirst
