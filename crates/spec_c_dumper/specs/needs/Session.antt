-- The lines of a session, the machine of lists that writes them, and what a list of requests comes to.
use Rattle.std.specs.Prelude.{ℕ, zero, suc, ◌+◌, ◌-◌, true, false, List, [], ◌∷◌, ◌++◌, length, replicate, get_or, leb}
use Rattle.spec_bytes.specs.text.Text.{ascii, Text, whole, cut, bytes}
use Rattle.spec_bytes.specs.text.Decimal.{decimal}
use Rattle.spec_c_dumper.specs.rules.Machine.{Machine, Sess, Answer, Req, one, all, single, every}
use Rattle.spec_c_dumper.specs.rules.Writer.{Said, said}
use Rattle.spec_c_dumper.specs.rules.Types.{Btf, table_of}
use Rattle.spec_c_dumper.specs.rules.Layout.{smaller}
use Rattle.spec_c_dumper.specs.rules.Names.{Names, Naming, naming}
use Rattle.spec_c_dumper.specs.rules.Emit.{definition, forward}
use Rattle.spec_c_dumper.specs.needs.Lists.{Piece, defines, other, Line, says, cannot, Lines, Ls, list_machine, afresh}

-- the text of the pieces
unfoldable pub text_of : List Piece → List ℕ
text_of [] = []
text_of (defines x t ∷ ps) = t ++ text_of ps
text_of (other t ∷ ps) = t ++ text_of ps

-- the number and the value (the text's length) of each request, and the text after the last
pub data Dump : Type 0 where
  dump : List (ℕ × ℕ) → List ℕ → Dump

-- What the lines know: the names given, and the length of the text so far.
pub record Known (U : Type 0) : Type 0 where
  pub names : U
  pub text_len : ℕ

module _ {U : Type 0} where
  -- the names held when the first print began that so many bytes have no room for
  unfoldable pub names_at_stop : ℕ → Said U → U
  names_at_stop room (said u t k) = get_or k room u

  unfoldable pub fitting : ℕ → U → Text → Line (Known U) U
  fitting len u (whole a) = says (record { names = u; text_len = len + length a }) a
  fitting len u (cut a c) = cannot u c

  -- 17 if more was printed than there is room for; no text is longer than 2^30 bytes
  unfoldable pub line_of : ℕ → ℕ → Said U → Line (Known U) U
  line_of room len (said u t k) =
      elim (leb (len + length (bytes t)) (smaller room 1073741824)) [
        | true ↦ fitting len u t
        | false ↦ cannot (names_at_stop (smaller room 1073741824 - len) (said u t k)) 17
      ]

-- with any way of keeping names
module _ {U : Type 0} (N : Naming U) (B : Btf) where
  abbrev pub lines_by : Lines (Known U) U
  lines_by = record {
    fwd = λ room k id. line_of room k.text_len (forward N B id (B.type_by_id id) k.names);
    alias' = λ room k id. line_of room k.text_len (forward N B id (B.type_by_id id) k.names);
    leaf' = λ room k id. line_of room k.text_len (definition N B id (B.type_by_id id) k.names);
    body' = λ room k id. line_of room k.text_len (definition N B id (B.type_by_id id) k.names);
    held' = λ k. k.names;
    leaving' = λ held k. record { names = N.leaving held k.names; text_len = k.text_len };
  }

  abbrev pub machine_by : Machine (Ls (Known U)) U
  machine_by = list_machine lines_by

  -- what opening leaves, with the names u
  abbrev pub opened_by : U → Sess (Ls (Known U))
  opened_by u = record { is_open = true; mach = afresh B.type_cnt (record { names = u; text_len = 0 }); asked = [] }

  unfoldable pub answer_to : Sess (Ls (Known U)) → Req → Answer (Ls (Known U))
  answer_to S (one room x) = single machine_by (table_of B) room S x
  answer_to S (all room) = every machine_by (table_of B) room S S.is_open

  -- the answer is computed once
  unfoldable pub dumped : List (ℕ × ℕ) → List Req → Sess (Ls (Known U)) → Dump
  dumped ns [] S = dump ns (text_of S.mach.pieces)
  dumped ns (r ∷ rs) S = let a = answer_to S r in dumped (ns ++ ((a.number, a.sess.mach.known.text_len) ∷ [])) rs a.sess

-- with the names of the Rust
abbrev pub machine : Btf → Machine (Ls (Known Names)) Names
machine B = machine_by naming B

-- no type has a version, no name a holder
abbrev pub no_names : Btf → Names
no_names B = record { versions = replicate B.type_cnt 0; ledger = [] }

abbrev pub opened : Btf → Sess (Ls (Known Names))
opened B = opened_by naming B (no_names B)

abbrev pub dump_types : Btf → List Req → Dump
dump_types B rs = dumped naming B [] rs (opened B)

-- what the program prints of a section that opened
unfoldable pub printed : Dump → List ℕ
printed (dump [] t) = t
printed (dump (n ∷ ns) t) = elim n.0 [ zero ↦ t | suc k ↦ ascii "refused " ++ decimal (suc k) ++ ascii "\n" ]

unfoldable pub program : Btf → List ℕ
program B = printed (dump_types B (all 65536 ∷ []))
