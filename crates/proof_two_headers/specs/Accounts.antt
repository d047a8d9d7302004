-- What holds of the ledger after any calls: statements only. proofs/Accounts.antt has the proofs; they assume nothing.
use Rattle.std.specs.Prelude.{ℕ, ◌+◌, ◌≤◌, ◌<◌, ◌≡◌, List, [], ◌∷◌, length}
use Rattle.spec_c_dumper.specs.rules.Types.{Name, Btf}
use Rattle.spec_c_dumper.specs.rules.Names.{Space, Holder, holders}
use Rattle.proof_two_headers.specs.Shared.{Account, Ledger, account, number_of, taking}
use Rattle.proof_two_headers.specs.Calls.{capacity, reserved, joined, Side, Call, World, calls, new_world}

unfoldable pub used_all : List Account → ℕ
used_all [] = 0
used_all (a ∷ l) = a.used + used_all l

-- each entry has a holder
abbrev pub AllHeld : List Holder → Type 0
AllHeld [] = Unit {0}
AllHeld (h ∷ l) = (1 ≤ h.count) × AllHeld l

pub record Sound (L : Ledger) : Type 0 where
  -- no session is charged beyond its reserve
  pub within : (k : ℕ) → (account L k).used ≤ (account L k).reserve
  -- every entry is charged once, to one session
  pub charged_once : used_all L.accounts ≡ length L.entries
  -- what is reserved, and so what is used, has room in the ledger as the last opening was lent it: "16 words and eight an entry"
  pub reserves_fit : reserved L.accounts ≤ capacity L.words
  pub entries_fit : length L.entries ≤ capacity L.words
  pub two_at_most : length L.accounts ≤ 2
  pub all_held : AllHeld L.entries

-- the ledger after names taken by either session, and openings, in any order
pub data Reached (L : Ledger) : Ledger → Type 0 where
  here : Reached L L
  takes : (k : ℕ) (space : Space) (name : Name) (M : Ledger) → Reached L M → Reached L (taking k M space name)
  opened : (words reserve : ℕ) (M : Ledger) → Reached L M → Reached L (joined M words reserve)

-- THE CLAIM, of every two tables and every list of calls, whatever lengths they lend
pub record Accounts (B : Side → Btf) : Type 0 where
  pub sound : (cs : List Call) → Sound (calls B new_world cs).ledger
  pub reached : (W : World) (cs : List Call) → Reached W.ledger (calls B W cs).ledger
  -- two holders of one name, whichever session each is of, have two numbers: the second takes its name from a ledger that came of the
  -- first's. No text of 2^30 bytes prints so many that the largest number is met.
  pub numbers_differ : (k : ℕ) (L M : Ledger) (space : Space) (name : Name) → Reached (taking k L space name) M
      → holders M.entries space name < 4294967295
      → number_of L space name ≡ number_of M space name → ⊥

abbrev pub Claim : Type 0
Claim = (B : Side → Btf) → Accounts B
