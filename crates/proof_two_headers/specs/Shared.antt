-- "Two sessions may now share one ledger, each with a reserved number of entries given at opening." The ledger, and the names of a session
-- over it.
use Rattle.std.specs.Prelude.{ℕ, ◌+◌, Bool, true, false, List, [], ◌∷◌, get_or, set, leb, eqb}
use Rattle.spec_bytes.specs.words.Words.{one_more}
use Rattle.spec_c_dumper.specs.rules.Types.{Name}
use Rattle.spec_c_dumper.specs.rules.Names.{Space, ident_space, Resolved, Naming, Holder, holders, with_one}
use Rattle.spec_c_dumper.specs.needs.Lists.{Ls}
use Rattle.spec_c_dumper.specs.needs.Session.{Known}

-- ---- the ledger

-- "each with a reserved number of entries given at opening"; used: the entries charged to the session
pub record Account : Type 0 where
  pub reserve : ℕ
  pub used : ℕ

-- "an entry is one name of a space, charged to the session that made it": entries has every name of either session, and how many hold it in
-- both; accounts has the sessions that share it, open or closed, in the order of their opening; words: its length when the last was opened
pub record Ledger : Type 0 where
  pub words : ℕ
  pub entries : List Holder
  pub accounts : List Account

-- "zero when new"
abbrev pub new_ledger : Ledger
new_ledger = record { words = 0; entries = []; accounts = [] }

abbrev pub no_account : Account
no_account = record { reserve = 0; used = 0 }

-- the account of session k
abbrev pub account : Ledger → ℕ → Account
account L k = get_or L.accounts k no_account

abbrev pub charged : List Account → ℕ → List Account
charged l k = set l k (record { reserve = (get_or l k no_account).reserve; used = (get_or l k no_account).used + 1 })

-- ---- names

-- one more holder of a name that has an entry; "a type printed by both is two holders"
abbrev pub known : Ledger → Space → Name → Ledger
known L space name = record { words = L.words; entries = with_one L.entries space name; accounts = L.accounts }

-- a new name: one more entry, charged to session k
abbrev pub made : ℕ → Ledger → Space → Name → Ledger
made k L space name = record { words = L.words; entries = with_one L.entries space name; accounts = charged L.accounts k }

-- one more holder, whether new or not
unfoldable pub taking : ℕ → Ledger → Space → Name → Ledger
taking k L space name = elim (eqb (holders L.entries space name) 0) [ true ↦ made k L space name | false ↦ known L space name ]

-- "20 when a new name passes the session's own reserve"
unfoldable pub passing : ℕ → Ledger → Space → Name → Bool
passing k L space name =
    elim (eqb (holders L.entries space name) 0) [ true ↦ leb (account L k).reserve (account L k).used | false ↦ false ]

-- who gets a number: type id, or value i of enum id
pub data Who : Type 0 where
  of_type : ℕ → Who
  of_value : ℕ → ℕ → Who

-- a name and the number that it got
pub record Given : Type 0 where
  pub space : Space
  pub who : Who
  pub name : Name
  pub number : ℕ

-- the versions of a session's own types; the numbers given for its header, the last one first, which stand in no word and tell what was
-- printed; and the ledger as it is lent
pub record Held : Type 0 where
  pub versions : List ℕ
  pub given : List Given
  pub ledger : Ledger

-- the session's own, over the ledger L
abbrev pub over : Ledger → Held → Held
over L h = record { versions = h.versions; given = h.given; ledger = L }

-- the number that the next holder gets
abbrev pub number_of : Ledger → Space → Name → ℕ
number_of L space name = one_more (holders L.entries space name)

-- one more number given
abbrev pub giving : Space → Who → Name → Held → List Given
giving space who name h = record { space = space; who = who; name = name; number = number_of h.ledger space name } ∷ h.given

-- a type that has a version in this session keeps it, and asks for no name
unfoldable pub type_shared : ℕ → Space → ℕ → Name → Held → Resolved Held
type_shared k space id name h =
    elim (eqb (get_or h.versions id 0) 0) [
      | false ↦ record { passes = false; version = get_or h.versions id 0; names = h }
      | true ↦ record {
        passes = passing k h.ledger space name;
        version = number_of h.ledger space name;
        names = record {
          versions = set h.versions id (number_of h.ledger space name);
          given = giving space (of_type id) name h;
          ledger = taking k h.ledger space name;
        };
      }
    ]

unfoldable pub value_shared : ℕ → ℕ → ℕ → Name → Held → Resolved Held
value_shared k id i name h = record {
  passes = passing k h.ledger ident_space name;
  version = number_of h.ledger ident_space name;
  names = record { versions = h.versions; given = giving ident_space (of_value id i) name h; ledger = taking k h.ledger ident_space name };
}

-- the names of session k; "Closing leaves the ledger, with the names a refused request took"
abbrev pub sharing : ℕ → Naming Held
sharing k = record { type_version = type_shared k; value_version = value_shared k; leaving = λ held h. over held.ledger h }

-- a session's machine: that of the rules, with these names
abbrev pub Shelf : Type 0
Shelf = Ls (Known Held)
