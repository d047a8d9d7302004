-- "Where no suffix is passed over": the mode of `proof_names_apart::names_apart`, watched. A name passes a number over if the search for
-- its number meets one that is taken; a
-- session passes none over if no line that it writes, or begins to write, does.
use Rattle.std.specs.Prelude.{ℕ, ◌≡◌, Bool, true, false, ◌||◌, ◌&&◌, List, [], ◌∷◌, ◌++◌, get_or, eqb}
use Rattle.spec_bytes.specs.words.Words.{one_more}
use Rattle.spec_c_dumper.specs.rules.Order.{Table}
use Rattle.spec_c_dumper.specs.rules.Machine.{Sess, Answer, Req, one, all, single, every}
use Rattle.spec_c_dumper.specs.rules.Writer.{Said, said}
use Rattle.spec_c_dumper.specs.rules.Types.{Name, Btf, table_of}
use Rattle.spec_c_dumper.specs.rules.Names.{Space, ident_space, Resolved, Naming, spelled, holders}
use Rattle.spec_c_dumper.specs.rules.Emit.{definition, forward}
use Rattle.spec_c_dumper.specs.needs.Lists.{Line, cannot, Lines, Ls, list_machine}
use Rattle.spec_c_dumper.specs.needs.Session.{Known, line_of, text_of, Dump, dump, opened_by}
use Rattle.spec_c_dumper.specs.names_apart.Apart.{Apart, is_name_among, taken, type_apart, value_apart, none_shown, apart}

-- The first holder is bare and passes none over. A later one looks first at the number after the holders there are: if that one is free it
-- is taken, and else it is passed over.
unfoldable pub passes_over : Btf → Space → Name → Apart → Bool
passes_over B space name u =
    elim (eqb (holders u.names.ledger space name)
    0) [ true ↦ false | false ↦ is_name_among (spelled name (one_more (holders u.names.ledger space name))) (taken B space u) ]

-- the names of the mode, and whether a number was passed over on the way
pub record Watched : Type 0 where
  pub names : Apart
  pub over : Bool

-- a type that has a number keeps it, and looks for none
unfoldable pub type_watched : Btf → Space → ℕ → Name → Watched → Resolved Watched
type_watched B space id name w = record {
  passes = (type_apart B space id name w.names).passes;
  version = (type_apart B space id name w.names).version;
  names = record {
    names = (type_apart B space id name w.names).names;
    over = (eqb (get_or w.names.names.versions id 0) 0 && passes_over B space name w.names) || w.over;
  };
}

unfoldable pub value_watched : Btf → ℕ → ℕ → Name → Watched → Resolved Watched
value_watched B id i name w = record {
  passes = (value_apart B id i name w.names).passes;
  version = (value_apart B id i name w.names).version;
  names = record { names = (value_apart B id i name w.names).names; over = passes_over B ident_space name w.names || w.over };
}

abbrev pub watched : Btf → Naming Watched
watched B = record {
  type_version = type_watched B;
  value_version = value_watched B;
  leaving = λ held w. record { names = (apart B).leaving held.names w.names; over = w.over };
}

-- ---- sessions that stop where a number is passed over

-- a number that no rule gives
abbrev pub passed_over : ℕ
passed_over = 24

-- a line that passes a number over is refused by it, also where the line would be refused by another
unfoldable pub line_watched : ℕ → Known Watched → Said Watched → Line (Known Watched) Watched
line_watched room k (said w t m) = elim w.over [ true ↦ cannot k.names passed_over | false ↦ line_of room k.text_len (said w t m) ]

-- the lines of a session, as `lines_by` of crates/spec_c_dumper/specs/needs/Session
abbrev pub lines_watched : Naming Watched → Btf → Lines (Known Watched) Watched
lines_watched N B = record {
  fwd = λ room k id. line_watched room k (forward N B id (B.type_by_id id) k.names);
  alias' = λ room k id. line_watched room k (forward N B id (B.type_by_id id) k.names);
  leaf' = λ room k id. line_watched room k (definition N B id (B.type_by_id id) k.names);
  body' = λ room k id. line_watched room k (definition N B id (B.type_by_id id) k.names);
  held' = λ k. k.names;
  leaving' = λ held k. record { names = N.leaving held k.names; text_len = k.text_len };
}

module _ (L : Lines (Known Watched) Watched) (T : Table) where
  unfoldable pub answer_watched : Sess (Ls (Known Watched)) → Req → Answer (Ls (Known Watched))
  answer_watched S (one room x) = single (list_machine L) T room S x
  answer_watched S (all room) = every (list_machine L) T room S S.is_open

  -- numbers, lengths and text, as `dumped` of crates/spec_c_dumper/specs/needs/Session
  unfoldable pub dumped_watched : List (ℕ × ℕ) → List Req → Sess (Ls (Known Watched)) → Dump
  dumped_watched ns [] S = dump ns (text_of S.mach.pieces)
  dumped_watched ns (r ∷ rs) S =
      dumped_watched (ns ++ (((answer_watched S r).number, (answer_watched S r).sess.mach.known.text_len) ∷ []))
      rs (answer_watched S r).sess

  -- no request is refused for it
  abbrev pub NeverOver : List Req → Sess (Ls (Known Watched)) → Type 0
  NeverOver [] S = Unit {0}
  NeverOver (r ∷ rs) S = ((answer_watched S r).number ≡ passed_over → ⊥) × NeverOver rs (answer_watched S r).sess

-- nothing is printed, and none passed over
abbrev pub none_watched : Btf → Watched
none_watched B = record { names = none_shown B; over = false }

abbrev pub opened_watched : Btf → Sess (Ls (Known Watched))
opened_watched B = opened_by (watched B) B (none_watched B)

abbrev pub dump_watched : Btf → List Req → Dump
dump_watched B rs = dumped_watched (lines_watched (watched B) B) (table_of B) [] rs (opened_watched B)

-- NO NUMBER IS PASSED OVER in the session with these requests, those of a refused request up to its refusal included
abbrev pub PassesNone : Btf → List Req → Type 0
PassesNone B rs = NeverOver (lines_watched (watched B) B) (table_of B) rs (opened_watched B)
