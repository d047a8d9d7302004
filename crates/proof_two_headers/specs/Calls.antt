-- Two sessions over one ledger: opening, and calls of the one or the other in any order.
use Rattle.std.specs.Prelude.{ℕ, zero, suc, ◌+◌, ◌-◌, ◌/◌, Bool, true, false, ◌&&◌}
use Rattle.std.specs.Prelude.{◌||◌, List, [], ◌∷◌, ◌++◌, length, replicate, ltb, leb, eqb}
use Rattle.spec_c_dumper.specs.rules.Types.{Btf}
use Rattle.spec_c_dumper.specs.rules.Machine.{Sess, Answer, Req, one, all}
use Rattle.spec_c_dumper.specs.needs.Lists.{Ls, afresh}
use Rattle.spec_c_dumper.specs.needs.Session.{Known, text_of, answer_to}
use Rattle.proof_two_headers.specs.Shared.{Account, Ledger, new_ledger, Held, over, sharing, Shelf}

-- ---- opening

-- the lengths of the slices that a call is lent, but for the text's, which is the room of a request
pub record Lengths : Type 0 where
  pub section : ℕ
  pub work : ℕ
  pub ledger : ℕ

-- "16 words and eight an entry"
abbrev pub capacity : ℕ → ℕ
capacity words = (words - 16) / 8

unfoldable pub reserved : List Account → ℕ
reserved [] = 0
reserved (a ∷ l) = a.reserve + reserved l

-- "9 also when the ledger is under 16 words, two sessions, open or closed, already share it or too few of its entries are unreserved"
unfoldable pub ledger_short : Ledger → ℕ → ℕ → Bool
ledger_short L words reserve = ltb words 16 || (leb 2 (length L.accounts) || ltb (capacity words) (reserved L.accounts + reserve))

-- 9 for the ledger is opening's last cause: n is what it answers by the others, 0 if none holds
unfoldable pub open_number : ℕ → Ledger → ℕ → ℕ → ℕ
open_number zero L words reserve = elim (ledger_short L words reserve) [ true ↦ 9 | false ↦ 0 ]
open_number (suc n) L words reserve = suc n

-- one more session with nothing used
abbrev pub joined : Ledger → ℕ → ℕ → Ledger
joined L words reserve =
    record { words = words; entries = L.entries; accounts = L.accounts ++ (record { reserve = reserve; used = 0 } ∷ []) }

-- a session: its number in the ledger, the lengths at its own opening, and what it had before
pub record Part : Type 0 where
  pub number : ℕ
  pub lengths : Lengths
  pub sess : Sess Shelf

abbrev pub unopened : Part
unopened = record {
  number = 0;
  lengths = record { section = 0; work = 0; ledger = 0 };
  sess = record {
    is_open = false;
    mach = afresh 0 (record { names = record { versions = []; given = []; ledger = new_ledger }; text_len = 0 });
    asked = [];
  };
}

-- no type of the session has a version, it gave no number; the ledger may have names already
abbrev pub begun : Btf → Ledger → Lengths → ℕ → Part
begun B L l reserve = record {
  number = length L.accounts;
  lengths = l;
  sess = record {
    is_open = true;
    mach =
        afresh B.type_cnt (record {
          names = record { versions = replicate B.type_cnt 0; given = []; ledger = joined L l.ledger reserve };
          text_len = 0;
        });
    asked = [];
  };
}

-- ---- calls

-- the header of the kernel part, or that of the module part
pub data Side : Type 0 where
  kernel module' : Side

-- opening, with the number that its other causes give (0: none), what it is lent, and a reserve; a request, with what it is lent
pub data Call : Type 0 where
  opens : Side → ℕ → Lengths → ℕ → Call
  asks : Side → Lengths → Req → Call

-- both sessions, and the ledger "as the last call of either session left it"
pub record World : Type 0 where
  pub ledger : Ledger
  pub first : Part
  pub second : Part

abbrev pub part_of : World → Side → Part
part_of W kernel = W.first
part_of W module' = W.second

abbrev pub with_part : World → Side → Ledger → Part → World
with_part W kernel L p = record { ledger = L; first = p; second = W.second }
with_part W module' L p = record { ledger = L; first = W.first; second = p }

-- s, with other names
abbrev pub holding : Held → Shelf → Shelf
holding h s = record {
  marks = s.marks;
  olist = s.olist;
  emits = s.emits;
  fwds = s.fwds;
  room = s.room;
  known = record { names = h; text_len = s.known.text_len };
  pieces = s.pieces;
}

-- the ledger as it is lent
abbrev pub lent : Ledger → Sess Shelf → Sess Shelf
lent L S = record { is_open = S.is_open; mach = holding (over L S.mach.known.names) S.mach; asked = S.asked }

-- the number, the text's length, and the world after a call
pub record Called : Type 0 where
  pub number : ℕ
  pub text_len : ℕ
  pub world : World

-- what a session's request comes to over the ledger L: by the rules, with the names that it keeps there
abbrev pub answered : Btf → Part → Ledger → Req → Answer Shelf
answered B p L r = answer_to (sharing p.number) B (lent L p.sess) r

-- the room of the text slice
abbrev pub room_of : Req → ℕ
room_of (one room x) = room
room_of (all room) = room

-- cause 11 of document 01 does not hold: "session closed or never opened, length of section or of work changed since opening, or text slice
-- shorter than the text held". This is all of it but the lengths, and asked of a session that runs alone too.
unfoldable pub is_ready : {U : Type 0} → Sess (Ls (Known U)) → Req → Bool
is_ready S r = S.is_open && leb S.mach.known.text_len (room_of r)

-- the lengths; "11 when its length changed since"
unfoldable pub same_lengths : Lengths → Lengths → Bool
same_lengths l m = eqb l.section m.section && (eqb l.work m.work && eqb l.ledger m.ledger)

unfoldable pub is_current : Part → Lengths → Req → Bool
is_current p l r = same_lengths l p.lengths && is_ready p.sess r

-- each side has its settings: the table and how it was opened. "From one table": the eight words of an entry hold no name, so code can mean
-- two settings of one table alone; what is claimed holds of any two.
module _ (B : Side → Btf) where
  -- by the number it answers: an opening that is refused changes nothing
  unfoldable pub opening : World → Side → Lengths → ℕ → ℕ → Called
  opening W d l reserve zero =
      record { number = 0; text_len = 0; world = with_part W d (joined W.ledger l.ledger reserve) (begun (B d) W.ledger l reserve) }
  opening W d l reserve (suc n) = record { number = suc n; text_len = 0; world = W }

  -- 11, which leaves all, or what the rules say
  unfoldable pub asking : World → Side → Req → Bool → Called
  asking W d r false = record { number = 11; text_len = (part_of W d).sess.mach.known.text_len; world = W }
  asking W d r true =
      let a = answered (B d) (part_of W d) W.ledger r in
      record {
        number = a.number;
        text_len = a.sess.mach.known.text_len;
        world =
            with_part W d a.sess.mach.known.names.ledger (record {
              number = (part_of W d).number;
              lengths = (part_of W d).lengths;
              sess = a.sess;
            });
      }

  unfoldable pub called : World → Call → Called
  called W (opens d other l reserve) = opening W d l reserve (open_number other W.ledger l.ledger reserve)
  called W (asks d l r) = asking W d r (is_current (part_of W d) l r)

  unfoldable pub calls : World → List Call → World
  calls W [] = W
  calls W (c ∷ cs) = calls (called W c).world cs

-- the text of a side's header
abbrev pub header_of : World → Side → List ℕ
header_of W d = text_of (part_of W d).sess.mach.pieces

abbrev pub new_world : World
new_world = record { ledger = new_ledger; first = unopened; second = unopened }
