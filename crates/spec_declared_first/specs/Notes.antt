-- What each piece of the text mentions. Not a second definition of the text: the rules' own writers
-- (crates/spec_c_dumper/specs/rules/Emit), over a way of
-- keeping names that also notes every tag and every typedef name that a writer asks it for. That a writer has no such name from
-- elsewhere is specs/Renamed.
use Rattle.std.specs.Prelude.{ℕ, true, List, [], ◌∷◌, ◌++◌}
use Rattle.spec_c_dumper.specs.rules.Machine.{Machine, Sess, Req, run}
use Rattle.spec_c_dumper.specs.rules.Types.{Name, Btf, table_of}
use Rattle.spec_c_dumper.specs.rules.Names.{Space, Naming, naming, spelled}
use Rattle.spec_c_dumper.specs.rules.Emit.{definition, forward}
use Rattle.spec_c_dumper.specs.needs.Lists.{Piece, defines, other, Line, says, cannot, Lines, Ls, list_machine, afresh}
use Rattle.spec_c_dumper.specs.needs.Session.{Known, line_of, no_names}

-- A tag or a typedef name: of which type, and as it is spelled in the text. "Two ids that come out with one spelling are still two".
-- Nameless types have none, and are never asked for; nor have void, integers and floats.
pub record Mention : Type 0 where
  pub space : Space
  pub id : ℕ
  pub name : Name

-- the names, and what was asked for, in order
pub record Asked (U : Type 0) : Type 0 where
  pub names : U
  pub mentions : List Mention

-- The same names, and each type's name that is asked for is noted. Enumerators are neither tags nor typedef names.
abbrev pub noting : {U : Type 0} → Naming U → Naming (Asked U)
noting N = record {
  type_version = λ space id name u. record {
    passes = (N.type_version space id name u.names).passes;
    version = (N.type_version space id name u.names).version;
    names = record {
      names = (N.type_version space id name u.names).names;
      mentions =
          u.mentions ++ (record { space = space; id = id; name = spelled name (N.type_version space id name u.names).version } ∷ []);
    };
  };
  value_version = λ id i name u. record {
    passes = (N.value_version id i name u.names).passes;
    version = (N.value_version id i name u.names).version;
    names = record { names = (N.value_version id i name u.names).names; mentions = u.mentions };
  };
  leaving = λ held u. record { names = N.leaving held.names u.names; mentions = u.mentions };
}

-- a piece, the type that it is of, and what it mentions, in the order of asking: a typedef's own name first, then as in the text
pub record Note : Type 0 where
  pub piece : Piece
  pub id : ℕ
  pub mentions : List Mention

-- what the lines of a session know, and the notes of the pieces so far
pub record Seen (U : Type 0) : Type 0 where
  pub known : Known U
  pub notes : List Note

-- the piece of type x goes into the notes
abbrev pub with_note : {U : Type 0} → (List ℕ → Piece) → ℕ → Seen U → Line (Known (Asked U)) (Asked U) → Line (Seen U) U
with_note mk x k (says a t) = says (record {
  known = record { names = a.names.names; text_len = a.text_len };
  notes = k.notes ++ (record { piece = mk t; id = x; mentions = a.names.mentions } ∷ []);
}) t
with_note mk x k (cannot a e) = cannot a.names e

-- at the start of a piece
abbrev pub unasked : {U : Type 0} → Seen U → Asked U
unasked k = record { names = k.known.names; mentions = [] }

-- with any way of keeping names: the lines, the machine and the opened session of crates/spec_c_dumper/specs/needs/Session, with notes
module _ {U : Type 0} (N : Naming U) (B : Btf) where
  abbrev pub notes_lines : Lines (Seen U) U
  notes_lines = record {
    fwd = λ room k id. with_note other id k (line_of room k.known.text_len (forward (noting N) B id (B.type_by_id id) (unasked k)));
    alias' = λ room k id. with_note other id k (line_of room k.known.text_len (forward (noting N) B id (B.type_by_id id) (unasked k)));
    leaf' = λ room k id. with_note other id k (line_of room k.known.text_len (definition (noting N) B id (B.type_by_id id) (unasked k)));
    body' =
        λ room k id. with_note (defines id) id k (line_of room k.known.text_len (definition (noting N) B id (B.type_by_id id) (unasked k)));
    held' = λ k. k.known.names;
    leaving' = λ held k. record {
      known = record { names = N.leaving held k.known.names; text_len = k.known.text_len };
      notes = k.notes;
    };
  }

  abbrev pub notes_machine : Machine (Ls (Seen U)) U
  notes_machine = list_machine notes_lines

  abbrev pub notes_opened : U → Sess (Ls (Seen U))
  notes_opened u =
      record { is_open = true; mach = afresh B.type_cnt (record { known = record { names = u; text_len = 0 }; notes = [] }); asked = [] }

  -- the notes of the accepted requests of a list
  abbrev pub notes_by : U → List Req → List Note
  notes_by u rs = (run notes_machine (table_of B) rs (notes_opened u)).mach.known.notes

-- with the names of the Rust
abbrev pub notes_of : Btf → List Req → List Note
notes_of B rs = notes_by naming B (no_names B) rs

abbrev pub pieces_in : List Note → List Piece
pieces_in [] = []
pieces_in (p ∷ ps) = p.piece ∷ pieces_in ps
