-- What is claimed of two headers over one ledger: statements only. proofs/Claims.antt has the proofs; they assume nothing.
use Rattle.std.specs.Prelude.{ℕ, ◌≡◌, Bool, true, false, ◌&&◌, List, [], ◌∷◌, eqb, ◌⊎◌}
use Rattle.spec_c_dumper.specs.rules.Order.{Mark}
use Rattle.spec_c_dumper.specs.rules.Machine.{Sess, Answer, Req}
use Rattle.spec_c_dumper.specs.rules.Types.{Btf, table_of}
use Rattle.spec_c_dumper.specs.rules.Names.{Names, naming}
use Rattle.spec_c_dumper.specs.needs.Needs.{WF}
use Rattle.spec_c_dumper.specs.needs.Lists.{Piece, Ls}
use Rattle.spec_c_dumper.specs.needs.Session.{Known, text_of, answer_to, opened}
use Rattle.proof_two_headers.specs.Lines.{SameLines}
use Rattle.proof_two_headers.specs.Shared.{Shelf}
use Rattle.proof_two_headers.specs.Calls.{Lengths, is_ready, Side, kernel, module', Call, opens, asks, World, part_of, ledger_short, called}

-- ---- what is seen of a session after each of its requests

-- the number, the ids asked for and accepted, those listed by the last ordering, for each id how far its definition is and whether its
-- forward line or typedef is printed, and all lines of the header
pub record Seen : Type 0 where
  pub number : ℕ
  pub asked : List ℕ
  pub listed : List ℕ
  pub defined : List Mark
  pub forwarded : List Bool
  pub lines : List Piece

abbrev pub seen : {U : Type 0} → ℕ → Sess (Ls (Known U)) → Seen
seen n S = record {
  number = n;
  asked = S.asked;
  listed = S.mach.olist;
  defined = S.mach.emits;
  forwarded = S.mach.fwds;
  lines = S.mach.pieces;
}

-- "its order, layout and cycle refusals": the same, and the same header but for the numbers of names
pub record Likewise (B : Btf) (a b : Seen) : Type 0 where
  pub same_number : a.number ≡ b.number
  pub same_asked : a.asked ≡ b.asked
  pub same_listed : a.listed ≡ b.listed
  pub same_defined : a.defined ≡ b.defined
  pub same_forwarded : a.forwarded ≡ b.forwarded
  pub same_lines : SameLines B a.lines b.lines

-- the number, the text's length and the text
pub record Printed : Type 0 where
  pub number : ℕ
  pub text_len : ℕ
  pub text : List ℕ

abbrev pub printed : {U : Type 0} → ℕ → Sess (Ls (Known U)) → Printed
printed n S = record { number = n; text_len = S.mach.known.text_len; text = text_of S.mach.pieces }

abbrev pub same_side : Side → Side → Bool
same_side kernel kernel = true
same_side kernel module' = false
same_side module' kernel = false
same_side module' module' = true

-- a request of a session of the plain rules with the Rust's names, 11 as is_ready has it
unfoldable pub answer_alone : Btf → Sess (Ls (Known Names)) → Req → Answer (Ls (Known Names))
answer_alone B S r = elim (is_ready S r) [ true ↦ answer_to naming B S r | false ↦ record { sess = S; number = 11 } ]

-- whether side d has a new session: it is opened, and by this; an opening that is refused leaves all
abbrev pub begins_anew : (Side → Btf) → Side → World → Side → ℕ → Lengths → ℕ → Bool
begins_anew B d W e other l reserve = same_side d e && eqb (called B W (opens e other l reserve)).number 0

module _ {A : Type 0} where
  -- side d's requests among the calls of both, up to its next session
  unfoldable pub together : (ℕ → Sess Shelf → A) → (Side → Btf) → Side → World → List Call → List A
  together view B d W [] = []
  together view B d W (opens e other l reserve ∷ cs) =
      elim (begins_anew B d W e other l reserve) [
        | true ↦ []
        | false ↦ together view B d (called B W (opens e other l reserve)).world cs
      ]
  together view B d W (asks e l r ∷ cs) =
      elim (same_side d e) [
        | true ↦ view (called B W (asks e l r)).number (part_of (called B W (asks e l r)).world d).sess
            ∷ together view B d (called B W (asks e l r)).world cs
        | false ↦ together view B d (called B W (asks e l r)).world cs
      ]

  -- the same requests of a session of the plain rules with the Rust's names
  unfoldable pub alone : (ℕ → Sess (Ls (Known Names)) → A) → Btf → Sess (Ls (Known Names)) → List Req → List A
  alone view B S [] = []
  alone view B S (r ∷ rs) =
      view (answer_alone B S r).number (answer_alone B S r).sess ∷ alone view B (answer_alone B S r).sess rs

  -- alike, one after the other, until one that ends the comparison
  pub data Agree (Same : A → A → Type 0) (Ends₁ Ends₂ : A → Type 0) : List A → List A → Type 0 where
    none : Agree Same Ends₁ Ends₂ [] []
    same : (a b : A) (l m : List A) → Same a b → Agree Same Ends₁ Ends₂ l m → Agree Same Ends₁ Ends₂ (a ∷ l) (b ∷ m)
    left_ends : (a : A) (l m : List A) → Ends₁ a → Agree Same Ends₁ Ends₂ (a ∷ l) m
    right_ends : (b : A) (l m : List A) → Ends₂ b → Agree Same Ends₁ Ends₂ l (b ∷ m)

module _ (B : Side → Btf) (d : Side) where
  unfoldable pub requests_of : World → List Call → List Req
  requests_of W [] = []
  requests_of W (opens e other l reserve ∷ cs) =
      elim (begins_anew B d W e other l reserve) [ true ↦ [] | false ↦ requests_of (called B W (opens e other l reserve)).world cs ]
  requests_of W (asks e l r ∷ cs) =
      elim (same_side d e) [
        | true ↦ r ∷ requests_of (called B W (asks e l r)).world cs
        | false ↦ requests_of (called B W (asks e l r)).world cs
      ]

  -- calls of side d alone, lent what they were at opening; the partner may open, but "made no request"
  pub data Silent (l : Lengths) : World → List Call → Type 0 where
    no_call : (W : World) → Silent l W []
    own : (W : World) (r : Req) (cs : List Call) → Silent l (called B W (asks d l r)).world cs → Silent l W (asks d l r ∷ cs)
    joins : (W : World) (e : Side) (other : ℕ) (m : Lengths) (reserve : ℕ) (cs : List Call)
        → begins_anew B d W e other m reserve ≡ false → Silent l (called B W (opens e other m reserve)).world cs
        → Silent l W (opens e other m reserve ∷ cs)

abbrev pub EndsOrder : Seen → Type 0
EndsOrder a = (a.number ≡ 11) ⊎ (a.number ≡ 17) ⊎ (a.number ≡ 20)

abbrev pub Equal : Printed → Printed → Type 0
Equal a b = a ≡ b

abbrev pub Ends20 : Printed → Type 0
Ends20 a = a.number ≡ 20

abbrev pub Nothing : Printed → Type 0
Nothing a = ⊥

-- accepted, refused by 10 or 11, or closed
abbrev pub Closing : ℕ → Sess Shelf → Type 0
Closing n S = (n ≡ 0) ⊎ (n ≡ 10) ⊎ (n ≡ 11) ⊎ (S.is_open ≡ false)

-- THE CLAIM, of side d of two sessions from its opening on, in any world whose ledger is not short
pub record Shared (B : Side → Btf) (d : Side) : Type 0 where
  -- "Until an 11, 17 or 20 in either run, its order, layout and cycle refusals are those it would have alone."
  pub order_as_alone : (W : World) (l : Lengths) (reserve : ℕ) → ledger_short W.ledger l.ledger reserve ≡ false → (cs : List Call)
      → Agree (Likewise (B d)) EndsOrder EndsOrder (together seen B d (called B W (opens d 0 l reserve)).world cs)
      (alone seen (B d) (opened (B d)) (requests_of B d (called B W (opens d 0 l reserve)).world cs))
  -- the same against a session over a ledger of its own, which may meet 20 too: "in either run"
  pub order_as_over_its_own : (W Z : World) (l m : Lengths) (reserve reserve' : ℕ) → ledger_short W.ledger l.ledger reserve ≡ false
      → ledger_short Z.ledger m.ledger reserve' ≡ false → Z.ledger.entries ≡ []
      → (cs ds : List Call) → Silent B d m (called B Z (opens d 0 m reserve')).world ds
      → requests_of B d (called B W (opens d 0 l reserve)).world cs ≡ requests_of B d (called B Z (opens d 0 m reserve')).world ds
      → Agree (Likewise (B d)) EndsOrder EndsOrder (together seen B d (called B W (opens d 0 l reserve)).world cs)
      (together seen B d (called B Z (opens d 0 m reserve')).world ds)
  -- "Short of 20, equality is claimed for a session whose partner made no request."
  pub equal_short_of_20 : (W : World) (l : Lengths) (reserve : ℕ) → ledger_short W.ledger l.ledger reserve ≡ false → W.ledger.entries ≡ []
      → (cs : List Call) → Silent B d l (called B W (opens d 0 l reserve)).world cs
      → Agree Equal Ends20 Nothing (together printed B d (called B W (opens d 0 l reserve)).world cs)
      (alone printed (B d) (opened (B d)) (requests_of B d (called B W (opens d 0 l reserve)).world cs))
  -- "it closes that session only": a call of one side, however it ends, leaves the other side's session
  pub other_kept : (W : World) (e : Side) (l : Lengths) (r : Req) → same_side d e ≡ false
      → part_of (called B W (asks e l r)).world d ≡ part_of W d
  -- 20 closes "otherwise as 12 to 17 do"
  pub closes : (W : World) (l : Lengths) (r : Req)
      → Closing (called B W (asks d l r)).number (part_of (called B W (asks d l r)).world d).sess
  -- "9 also when ..": an opening that another cause refuses by a number answers that, and 9 for the ledger comes last
  pub opening_others : (W : World) (n : ℕ) (l : Lengths) (reserve : ℕ) → (n ≡ 0 → ⊥) → (called B W (opens d n l reserve)).number ≡ n
  pub opening_short : (W : World) (l : Lengths) (reserve : ℕ) → ledger_short W.ledger l.ledger reserve ≡ true
      → (called B W (opens d 0 l reserve)).number ≡ 9
  pub opening_accepts : (W : World) (l : Lengths) (reserve : ℕ) → ledger_short W.ledger l.ledger reserve ≡ false
      → (called B W (opens d 0 l reserve)).number ≡ 0
  -- an opening that is refused leaves both sessions and the ledger
  pub opening_leaves : (W : World) (n : ℕ) (l : Lengths) (reserve : ℕ) → ((called B W (opens d n l reserve)).number ≡ 0 → ⊥)
      → (called B W (opens d n l reserve)).world ≡ W

abbrev pub Claim : Type 0
Claim = (B : Side → Btf) (d : Side) → WF (table_of (B d)) → Shared B d
