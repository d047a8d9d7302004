-- Two ways in which a session over the shared ledger and one of the rules go alike. With the same names and the same ledger: all of it, short of 20. With
-- any names: the marks, the lists, and the lines but for the numbers of names, until 17 or 20. Assumes nothing.
use Prim.Native.Nat.{ℕ, ◌+◌, ◌-◌, ◌<◌}
use native.Mathlib.Omega.{arith}
use mathlib.Core.Path.{◌≡◌, refl, sym, ◌∙◌, ap, subst}
use mathlib.Core.Bool.{Bool, true, false}
use mathlib.Core.List.{List, [], ◌∷◌, ◌++◌}
use mathlib.Core.Logic.{◌⊎◌, inl, inr}
use lib.ListN.{length, length-append, length-set, get_or, set}
use lib.Dec.{leb, eqb}
use borrow.Author.Tests.{leb-false, lt-leb}
use Rattle.spec_bytes.specs.words.Words.{one_more}
use Rattle.spec_bytes.specs.text.Text.{whole, cut, bytes}
use Rattle.spec_c_dumper.specs.rules.Order.{new}
use Rattle.spec_c_dumper.specs.rules.Machine.{Sess, Req, one, all}
use Rattle.spec_c_dumper.specs.rules.Writer.{Said, Writer}
use Rattle.spec_c_dumper.specs.rules.Layout.{smaller}
use Rattle.spec_c_dumper.specs.rules.Types.{Name, Btf, table_of}
use Rattle.spec_c_dumper.specs.rules.Names.{Space, ident_space, Resolved, Naming, Names, holders, naming, type_version, value_version, with_one}
use Rattle.spec_c_dumper.specs.rules.Emit.{definition, forward}
use Rattle.spec_c_dumper.specs.needs.Needs.{WF}
use Rattle.spec_c_dumper.specs.needs.Lists.{Piece, defines, other, Line, cannot, Ls, put_line, list_store}
use Rattle.spec_c_dumper.specs.needs.Session.{Known, names_at_stop, fitting, line_of, machine_by, answer_to}
use Rattle.spec_c_dumper.proofs.needs.Lists.{Sized}
use Rattle.spec_c_dumper.proofs.needs.Session.{machine_lawful}
use Rattle.spec_c_dumper.proofs.needs.Emission.{Until, both_go, both_end, left_ends, right_ends, Never}
use Rattle.spec_c_dumper.proofs.needs.Alike.{AlikeStore, MachinesUntil, SessionsUntil, AnswersUntil, single_until, every_until}
use Rattle.proof_two_headers.specs.Shared.{Held, type_shared, value_shared, sharing, Shelf}
use Rattle.proof_two_headers.specs.Lines.{by_list, Written, SameLine, same_body, same_leaf, same_once, SameLines, no_line, next_line}
use Rattle.proof_two_headers.proofs.Until.{Until20, both_whole, both_cut, left_passed, Unlimited, Eq, ButNumbers, same_definition, same_forward, numbers_definition, numbers_forward}
use Rattle.proof_two_headers.proofs.Spelt.{Spelt, spelt_whole, spelt_definition, spelt_forward, written}
use Rattle.proof_two_headers.proofs.Keeps.{type_by}
use Rattle.proof_two_headers.proofs.Accounts.{taking_entries}

-- ---- alike in marks, lists and flags, and in what of room, length and pieces is looked at

module _ {W : Type 0} (g : ℕ → ℕ) (v : List Piece → List Piece) (P : List Piece → List Piece → Type 0) (R : Held → W → Type 0) (n : ℕ) where
  abbrev pub strip : {U : Type 0} → Ls (Known U) → Ls ℕ
  strip s = record { marks = s.marks; olist = s.olist; emits = s.emits; fwds = s.fwds; room = g s.room; known = g s.known.text_len; pieces = v s.pieces }

  pub record Like (s : Shelf) (t : Ls (Known W)) : Type 0 where
    pub rest : strip s ≡ strip t
    pub lines : P s.pieces t.pieces
    pub names : R s.known.names t.known.names
    pub sized : Sized n t

  store_like : AlikeStore list_store (list_store {U = Known W}) n (Sized n) Like
  store_like = record {
    a_good = λ s t h. h.sized;
    a_get = λ s t h x l. ap (λ (q : Ls ℕ). get_or q.marks x new) h.rest;
    a_mark = λ m x s t h l. record {
      rest = ap {B = Ls ℕ} (λ (q : Ls ℕ). record { marks = set q.marks x m; olist = q.olist; emits = q.emits; fwds = q.fwds; room = q.room; known = q.known; pieces = q.pieces }) h.rest;
      lines = h.lines;
      names = h.names;
      sized = record { marks_n = length-set t.marks x m ∙ h.sized.marks_n; emits_n = h.sized.emits_n };
    };
    a_push = λ x s t h l r. record {
      rest = ap {B = Ls ℕ} (λ (q : Ls ℕ). record { marks = q.marks; olist = q.olist ++ (x ∷ []); emits = q.emits; fwds = q.fwds; room = q.room; known = q.known; pieces = q.pieces }) h.rest;
      lines = h.lines;
      names = h.names;
      sized = record { marks_n = h.sized.marks_n; emits_n = h.sized.emits_n };
    };
  }

-- nothing is said of what is held at a refusal
abbrev pub NoNames : {W : Type 0} → Held → W → Type 0
NoNames h u = Unit {0}

-- all but its lines
module _ {W : Type 0} (g : ℕ → ℕ) (v : List Piece → List Piece) (Q : List Piece → List Piece → Type 0) (R : Held → W → Type 0) (N : Naming W) (k : ℕ) (B : Btf) (E₁ E₂ : ℕ → Type 0) (zero₁ : E₁ 0 → ⊥) (zero₂ : E₂ 0 → ⊥) where
  abbrev L : Shelf → Ls (Known W) → Type 0
  L s t = Like g v Q R B.type_cnt s t

  -- when closed, the names may differ
  abbrev pub Closed : Shelf → Ls (Known W) → Type 0
  Closed s t = Like g v Q NoNames B.type_cnt s t

  abbrev Lines : (List ℕ → Piece) → Writer Held → Writer W → Type 0
  Lines mk w₁ w₂ = (s : Shelf) (t : Ls (Known W)) → L s t
      → Until L NoNames E₁ E₂ (put_line mk s (line_of s.room s.known.text_len (w₁ s.known.names))) (put_line mk t (line_of t.room t.known.text_len (w₂ t.known.names)))

  abbrev Forwards : Type 0
  Forwards = (x : ℕ) → Lines other (forward (sharing k) B x (B.type_by_id x)) (forward N B x (B.type_by_id x))

  abbrev Definitions : (ℕ → List ℕ → Piece) → Type 0
  Definitions mk = (x : ℕ) → Lines (mk x) (definition (sharing k) B x (B.type_by_id x)) (definition N B x (B.type_by_id x))

  pub machines : Forwards → Definitions (λ x. other) → Definitions defines → MachinesUntil (machine_by (sharing k) B) (machine_by N B) B.type_cnt (Sized B.type_cnt) Closed L NoNames E₁ E₂
  machines fs ls bs = record {
    m_store = store_like g v Q R B.type_cnt;
    m_list = λ s t h. ap (λ (q : Ls ℕ). q.olist) h.rest;
    m_start = λ r s t h. record {
      rest = ap {B = Ls ℕ} (λ (q : Ls ℕ). record { marks = q.marks; olist = []; emits = q.emits; fwds = q.fwds; room = g r; known = q.known; pieces = q.pieces }) h.rest;
      lines = h.lines;
      names = h.names;
      sized = record { marks_n = h.sized.marks_n; emits_n = h.sized.emits_n };
    };
    m_steps = record {
      u_eget = λ s t h x l. ap (λ (q : Ls ℕ). get_or q.emits x new) h.rest;
      u_emark = λ m x s t h l. record {
        rest = ap {B = Ls ℕ} (λ (q : Ls ℕ). record { marks = q.marks; olist = q.olist; emits = set q.emits x m; fwds = q.fwds; room = q.room; known = q.known; pieces = q.pieces }) h.rest;
        lines = h.lines;
        names = h.names;
        sized = record { marks_n = h.sized.marks_n; emits_n = length-set t.emits x m ∙ h.sized.emits_n };
      };
      u_has = λ s t h x l. ap (λ (q : Ls ℕ). get_or q.fwds x false) h.rest;
      u_forwarded = λ x s t h l. record {
        rest = ap {B = Ls ℕ} (λ (q : Ls ℕ). record { marks = q.marks; olist = q.olist; emits = q.emits; fwds = set q.fwds x true; room = q.room; known = q.known; pieces = q.pieces }) h.rest;
        lines = h.lines;
        names = h.names;
        sized = record { marks_n = h.sized.marks_n; emits_n = h.sized.emits_n };
      };
      u_held = λ s t h. tt;
      u_fwd = λ s t h x l. fs x s t h;
      u_alias = λ s t h x l. fs x s t h;
      u_leaf = λ s t h x l. ls x s t h;
      u_body = λ s t h x l. bs x s t h;
    };
    m_shape = λ s t h. record { rest = h.rest; lines = h.lines; names = tt; sized = h.sized };
    m_leaving = λ h₁ h₂ r s t h. record { rest = h.rest; lines = h.lines; names = tt; sized = record { marks_n = h.sized.marks_n; emits_n = h.sized.emits_n } };
    m_zero₁ = zero₁;
    m_zero₂ = zero₂;
  }

  pub answers : MachinesUntil (machine_by (sharing k) B) (machine_by N B) B.type_cnt (Sized B.type_cnt) Closed L NoNames E₁ E₂ → WF (table_of B)
      → (S₁ : Sess Shelf) (S : Sess (Ls (Known W))) → SessionsUntil Closed L S₁ S → (r : Req) → AnswersUntil Closed L E₁ E₂ (answer_to (sharing k) B S₁ r) (answer_to N B S r)
  unfolding answer_to
  answers ms wf S₁ S h (one room x) = single_until (machine_by (sharing k) B) (machine_by N B) (table_of B) (Sized B.type_cnt) (machine_lawful N B B.type_cnt) wf.below Closed L NoNames E₁ E₂ ms room S₁ S h x
  answers ms wf S₁ S h (all room) = every_until (machine_by (sharing k) B) (machine_by N B) (table_of B) (Sized B.type_cnt) (machine_lawful N B B.type_cnt) wf.below Closed L NoNames E₁ E₂ ms room S₁ S h

-- what a type's name comes to with the Rust's names, by whether the type has no version yet
abbrev rust_by : Space → ℕ → Name → Names → Bool → Resolved Names
rust_by space id name u b = elim b as (λ x. Resolved Names) [
  | false ↦ record { passes = false; version = get_or u.versions id 0; names = u }
  | true ↦ record {
    passes = false;
    version = one_more (holders u.ledger space name);
    names = record { versions = set u.versions id (one_more (holders u.ledger space name)); ledger = with_one u.ledger space name };
  }
]

-- the Rust's names stop none
pub no_limit : Unlimited naming
unfolding type_version value_version
no_limit = record { type_free = λ space id name u. free (eqb (get_or u.versions id 0) 0) space id name u; value_free = λ id i name u. refl }
  where
    free : (b : Bool) (space : Space) (id : ℕ) (name : Name) (u : Names) → (rust_by space id name u b).passes ≡ false
    free true space id name u = refl
    free false space id name u = refl

-- ---- the same names: all alike, short of 20

-- the same versions, the same holders
abbrev pub SameNames : Held → Names → Type 0
SameNames h u = (h.versions ≡ u.versions) × (h.ledger.entries ≡ u.ledger)

abbrev pub Is20 : ℕ → Type 0
Is20 e = e ≡ 20

-- whatever the pieces
abbrev pub AnyPieces : List Piece → List Piece → Type 0
AnyPieces l m = Unit {0}

abbrev pub Whole : ℕ → Shelf → Ls (Known Names) → Type 0
Whole n s t = Like (λ x. x) (λ l. l) AnyPieces SameNames n s t

-- the same text, whatever the names
abbrev pub Texts : ℕ → Shelf → Ls (Known Names) → Type 0
Texts n s t = Like (λ x. x) (λ l. l) AnyPieces NoNames n s t

abbrev names_of : Held → Names
names_of h = record { versions = h.versions; ledger = h.ledger.entries }

is_names : (h : Held) (u : Names) → SameNames h u → names_of h ≡ u
is_names h u q i = record { versions = q.0 i; ledger = q.1 i }

type_at : (k : ℕ) (space : Space) (id : ℕ) (name : Name) (h : Held) → ((type_shared k space id name h).version ≡ (type_version space id name (names_of h)).version) × SameNames (type_shared k space id name h).names (type_version space id name (names_of h)).names
unfolding type_shared type_version
type_at k space id name h = go (eqb (get_or h.versions id 0) 0)
  where
    go : (b : Bool) → ((type_by k space id name h b).version ≡ (rust_by space id name (names_of h) b).version) × SameNames (type_by k space id name h b).names (rust_by space id name (names_of h) b).names
    go true = (refl, (refl, taking_entries k h.ledger space name))
    go false = (refl, (refl, refl))

value_at : (k id i : ℕ) (name : Name) (h : Held) → ((value_shared k id i name h).version ≡ (value_version name (names_of h)).version) × SameNames (value_shared k id i name h).names (value_version name (names_of h)).names
unfolding value_shared value_version
value_at k id i name h = (refl, (refl, taking_entries k h.ledger ident_space name))

module _ (k : ℕ) where
  same_type : (space : Space) (id : ℕ) (name : Name) (h : Held) (u : Names) → SameNames h u → ((type_shared k space id name h).version ≡ (type_version space id name u).version) × SameNames (type_shared k space id name h).names (type_version space id name u).names
  same_type space id name h u q = subst (λ (x : Names). ((type_shared k space id name h).version ≡ (type_version space id name x).version) × SameNames (type_shared k space id name h).names (type_version space id name x).names) (is_names h u q) (type_at k space id name h)

  same_value : (id i : ℕ) (name : Name) (h : Held) (u : Names) → SameNames h u → ((value_shared k id i name h).version ≡ (value_version name u).version) × SameNames (value_shared k id i name h).names (value_version name u).names
  same_value id i name h u q = subst (λ (x : Names). ((value_shared k id i name h).version ≡ (value_version name x).version) × SameNames (value_shared k id i name h).names (value_version name x).names) (is_names h u q) (value_at k id i name h)

  module _ (n : ℕ) (mk : List ℕ → Piece) (s : Shelf) (t : Ls (Known Names)) (q : Whole n s t) where
    abbrev Goes : Line (Known Held) Held → Line (Known Names) Names → Type 0
    Goes l m = Until (Whole n) NoNames Is20 Never (put_line mk s l) (put_line mk t m)

    wrote_like : (len : ℕ) (h : Held) (u : Names) (a b : List ℕ) → SameNames h u → a ≡ b → Goes (fitting len h (whole a)) (fitting len u (whole b))
    unfolding fitting
    wrote_like len h u a b r e = both_go _ _ (record {
      rest = (λ i. grown (q.rest i) (e i));
      lines = tt;
      names = r;
      sized = record { marks_n = q.sized.marks_n; emits_n = q.sized.emits_n };
    })
      where
        grown : Ls ℕ → List ℕ → Ls ℕ
        grown l c = record { marks = l.marks; olist = l.olist; emits = l.emits; fwds = l.fwds; room = l.room; known = len + length c; pieces = l.pieces ++ (mk c ∷ []) }

    cut_like : (len : ℕ) (h : Held) (u : Names) (a b : List ℕ) (c : ℕ) → Goes (fitting len h (cut a c)) (fitting len u (cut b c))
    unfolding fitting
    cut_like len h u a b c = both_end h u tt c

    passed_like : (len : ℕ) (h : Held) (a : List ℕ) (m : Line (Known Names) Names) → Goes (fitting len h (cut a 20)) m
    unfolding fitting
    passed_like len h a m = left_ends h 20 _ refl

    -- either way, or both 17
    by_room : (l : Line (Known Held) Held) (m : Line (Known Names) Names) (h : Held) (u : Names) → Goes l m → (b : Bool) → Goes (elim b [ true ↦ l | false ↦ cannot h 17 ]) (elim b [ true ↦ m | false ↦ cannot u 17 ])
    by_room l m h u g true = g
    by_room l m h u g false = both_end h u tt 17

    longer : (len lim : ℕ) (a b c : List ℕ) → a ≡ b → lim < len + length a → leb (len + length (b ++ c)) lim ≡ false
    longer len lim a b c e l = lt-leb (len + length (b ++ c)) lim (omega (arith, l, ap length e, length-append b c))

    -- the room and the length are the same on both
    line_like : (room len : ℕ) {s₁ : Said Held} {s₂ : Said Names} → Until20 SameNames Eq s₁ s₂ → Goes (line_of room len s₁) (line_of room len s₂)
    unfolding line_of names_at_stop bytes
    line_like room len (both_whole h u a b k m r e) =
        let lim = smaller room 1073741824 in
        subst (λ (y : List ℕ). Goes (elim (leb (len + length a) lim) [ true ↦ fitting len h (whole a) | false ↦ cannot (get_or k (lim - len) h) 17 ]) (elim (leb (len + length y) lim) [ true ↦ fitting len u (whole b) | false ↦ cannot (get_or m (lim - len) u) 17 ])) e
        (by_room _ _ (get_or k (lim - len) h) (get_or m (lim - len) u) (wrote_like len h u a b r e) (leb (len + length a) lim))
    line_like room len (both_cut h u a b k m c e) =
        let lim = smaller room 1073741824 in
        subst (λ (y : List ℕ). Goes (elim (leb (len + length a) lim) [ true ↦ fitting len h (cut a c) | false ↦ cannot (get_or k (lim - len) h) 17 ]) (elim (leb (len + length y) lim) [ true ↦ fitting len u (cut b c) | false ↦ cannot (get_or m (lim - len) u) 17 ])) e
        (by_room _ _ (get_or k (lim - len) h) (get_or m (lim - len) u) (cut_like len h u a b c) (leb (len + length a) lim))
    line_like room len (left_passed h u a b t' k m more e f) = go (leb (len + length a) lim) refl
      where
        lim : ℕ
        lim = smaller room 1073741824

        right : Bool → Line (Known Names) Names
        right b = elim b [ true ↦ fitting len u t' | false ↦ cannot (get_or m (lim - len) u) 17 ]

        go : (b : Bool) → leb (len + length a) lim ≡ b → Goes (elim b [ true ↦ fitting len h (cut a 20) | false ↦ cannot (get_or k (lim - len) h) 17 ]) (right (leb (len + length (bytes t')) lim))
        go true g = passed_like len h a (right (leb (len + length (bytes t')) lim))
        go false g =
            subst (λ (b : Bool). Goes (cannot (get_or k (lim - len) h) 17) (right b)) (sym (ap (λ (y : List ℕ). leb (len + length y) lim) f ∙ longer len lim a b more e (leb-false (len + length a) lim g)))
            (both_end (get_or k (lim - len) h) (get_or m (lim - len) u) tt 17)

    pub line_whole : (s₁ : Said Held) (s₂ : Said Names) → Until20 SameNames Eq s₁ s₂ → Goes (line_of s.room s.known.text_len s₁) (line_of t.room t.known.text_len s₂)
    line_whole s₁ s₂ r = subst (λ (l : Ls ℕ). Goes (line_of l.room l.known s₁) (line_of t.room t.known.text_len s₂)) (sym q.rest) (line_like t.room t.known.text_len r)

  whole_def : (B : Btf) (mk : List ℕ → Piece) (s : Shelf) (t : Ls (Known Names)) → Whole B.type_cnt s t → (x : ℕ)
      → Until (Whole B.type_cnt) NoNames Is20 Never (put_line mk s (line_of s.room s.known.text_len (definition (sharing k) B x (B.type_by_id x) s.known.names))) (put_line mk t (line_of t.room t.known.text_len (definition naming B x (B.type_by_id x) t.known.names)))
  whole_def B mk s t h x =
      line_whole B.type_cnt mk s t h (definition (sharing k) B x (B.type_by_id x) s.known.names) (definition naming B x (B.type_by_id x) t.known.names)
      (same_definition SameNames (sharing k) naming no_limit same_type same_value B x (B.type_by_id x) s.known.names t.known.names h.names)

  whole_machines : (B : Btf) → MachinesUntil (machine_by (sharing k) B) (machine_by naming B) B.type_cnt (Sized B.type_cnt) (Texts B.type_cnt) (Whole B.type_cnt) NoNames Is20 Never
  whole_machines B = machines (λ x. x) (λ l. l) AnyPieces SameNames naming k B Is20 Never (λ e. omega arith) (λ e. e)
      (λ x s t h. line_whole B.type_cnt other s t h (forward (sharing k) B x (B.type_by_id x) s.known.names) (forward naming B x (B.type_by_id x) t.known.names)
      (same_forward SameNames (sharing k) naming no_limit same_type same_value B x (B.type_by_id x) s.known.names t.known.names h.names))
      (λ x s t h. whole_def B other s t h x) (λ x s t h. whole_def B (defines x) s t h x)

  pub whole_answers : (B : Btf) → WF (table_of B) → (S₁ : Sess Shelf) (S : Sess (Ls (Known Names))) → SessionsUntil (Texts B.type_cnt) (Whole B.type_cnt) S₁ S → (r : Req)
      → AnswersUntil (Texts B.type_cnt) (Whole B.type_cnt) Is20 Never (answer_to (sharing k) B S₁ r) (answer_to naming B S r)
  whole_answers B = answers (λ x. x) (λ l. l) AnyPieces SameNames naming k B Is20 Never (λ e. omega arith) (λ e. e) (whole_machines B)

-- ---- any names: marks, lists, and the lines but for their numbers, until 17 or 20

abbrev pub Is17or20 : ℕ → Type 0
Is17or20 e = (e ≡ 17) ⊎ (e ≡ 20)

abbrev pub Is17 : ℕ → Type 0
Is17 e = e ≡ 17

abbrev pub Shape : {W : Type 0} → Btf → Shelf → Ls (Known W) → Type 0
Shape B s t = Like (λ x. 0) (λ l. []) (SameLines B) NoNames B.type_cnt s t

lines_more : (B : Btf) (l m : List Piece) (p q : Piece) → SameLines B l m → SameLine B p q → SameLines B (l ++ (p ∷ [])) (m ++ (q ∷ []))
lines_more B _ _ p q no_line e = next_line p q [] [] e no_line
lines_more B _ _ p q (next_line a b l m f h) e = next_line a b (l ++ (p ∷ [])) (m ++ (q ∷ [])) f (lines_more B l m p q h e)

module _ {W : Type 0} (N : Naming W) (free : Unlimited N) (k : ℕ) where
  -- w: the steps of the line
  module _ (B : Btf) (mk : List ℕ → Piece) (w : Writer (List ℕ)) (makes : (a b : List ℕ) → Written w a → Written w b → SameLine B (mk a) (mk b)) (s : Shelf) (t : Ls (Known W)) (q : Shape B s t) where
    abbrev Goes₂ : Line (Known Held) Held → Line (Known W) W → Type 0
    Goes₂ l m = Until (Shape B) NoNames Is17or20 Is17 (put_line mk s l) (put_line mk t m)

    wrote_shape : (h : Held) (u : W) (len₁ len₂ : ℕ) (a b : List ℕ) → Written w a → Written w b → Goes₂ (fitting len₁ h (whole a)) (fitting len₂ u (whole b))
    unfolding fitting
    wrote_shape h u len₁ len₂ a b d e = both_go _ _ (record {
      rest = q.rest;
      lines = lines_more B s.pieces t.pieces (mk a) (mk b) q.lines (makes a b d e);
      names = tt;
      sized = record { marks_n = q.sized.marks_n; emits_n = q.sized.emits_n };
    })

    cut_shape : (h : Held) (u : W) (len₁ len₂ : ℕ) (a b : List ℕ) (c : ℕ) → Goes₂ (fitting len₁ h (cut a c)) (fitting len₂ u (cut b c))
    unfolding fitting
    cut_shape h u len₁ len₂ a b c = both_end h u tt c

    passed_shape : (h : Held) (len : ℕ) (a : List ℕ) (m : Line (Known W) W) → Goes₂ (fitting len h (cut a 20)) m
    unfolding fitting
    passed_shape h len a m = left_ends h 20 _ (inr refl)

    -- where the text of either does not fit it is refused by 17
    left_room : (l : Line (Known Held) Held) (m : Line (Known W) W) (h : Held) → Goes₂ l m → (b : Bool) → Goes₂ (elim b [ true ↦ l | false ↦ cannot h 17 ]) m
    left_room l m h g true = g
    left_room l m h g false = left_ends h 17 _ (inl refl)

    right_room : (l : Line (Known Held) Held) (m : Line (Known W) W) (u : W) → Goes₂ l m → (b : Bool) → Goes₂ l (elim b [ true ↦ m | false ↦ cannot u 17 ])
    right_room l m u g true = g
    right_room l m u g false = right_ends u 17 _ refl

    pub line_shape : (room₁ len₁ room₂ len₂ : ℕ) {s₁ : Said Held} {s₂ : Said W} → Until20 NoNames ButNumbers s₁ s₂ → Spelt w s₁ → Spelt w s₂ → Goes₂ (line_of room₁ len₁ s₁) (line_of room₂ len₂ s₂)
    unfolding line_of
    line_shape room₁ len₁ room₂ len₂ (both_whole h u a b l m r e) (spelt_whole _ _ _ ns f) (spelt_whole _ _ _ ms g) =
        left_room _ _ _ (right_room _ _ _ (wrote_shape h u len₁ len₂ a b (written w a ns f) (written w b ms g)) _) _
    line_shape room₁ len₁ room₂ len₂ (both_cut h u a b l m c e) x y = left_room _ _ _ (right_room _ _ _ (cut_shape h u len₁ len₂ a b c) _) _
    line_shape room₁ len₁ room₂ len₂ (left_passed h u a b z l m more e f) x y = left_room _ _ _ (passed_shape h len₁ a _) _

  no_zero₁ : Is17or20 0 → ⊥
  no_zero₁ (inl e) = omega arith
  no_zero₁ (inr e) = omega arith

  no_zero₂ : Is17 0 → ⊥
  no_zero₂ e = omega arith

  module _ (B : Btf) where
    shape_forward : (x : ℕ) (s : Shelf) (t : Ls (Known W)) → Shape B s t
        → Until (Shape B) NoNames Is17or20 Is17 (put_line other s (line_of s.room s.known.text_len (forward (sharing k) B x (B.type_by_id x) s.known.names))) (put_line other t (line_of t.room t.known.text_len (forward N B x (B.type_by_id x) t.known.names)))
    shape_forward x s t h =
        line_shape B other (forward by_list B x (B.type_by_id x)) (same_once x) s t h s.room s.known.text_len t.room t.known.text_len (numbers_forward (sharing k) N free B x (B.type_by_id x) s.known.names t.known.names)
        (spelt_forward (sharing k) B x s.known.names) (spelt_forward N B x t.known.names)

    shape_definition : (mk : List ℕ → Piece) (x : ℕ) → ((a b : List ℕ) → Written (definition by_list B x (B.type_by_id x)) a → Written (definition by_list B x (B.type_by_id x)) b → SameLine B (mk a) (mk b))
        → (s : Shelf) (t : Ls (Known W)) → Shape B s t
        → Until (Shape B) NoNames Is17or20 Is17 (put_line mk s (line_of s.room s.known.text_len (definition (sharing k) B x (B.type_by_id x) s.known.names))) (put_line mk t (line_of t.room t.known.text_len (definition N B x (B.type_by_id x) t.known.names)))
    shape_definition mk x makes s t h =
        line_shape B mk (definition by_list B x (B.type_by_id x)) makes s t h s.room s.known.text_len t.room t.known.text_len (numbers_definition (sharing k) N free B x (B.type_by_id x) s.known.names t.known.names)
        (spelt_definition (sharing k) B x s.known.names) (spelt_definition N B x t.known.names)

    shape_machines : MachinesUntil (machine_by (sharing k) B) (machine_by N B) B.type_cnt (Sized B.type_cnt) (Shape B) (Shape B) NoNames Is17or20 Is17
    shape_machines = machines (λ x. 0) (λ l. []) (SameLines B) NoNames N k B Is17or20 Is17 no_zero₁ no_zero₂ shape_forward (λ x s t h. shape_definition other x (same_leaf x) s t h) (λ x s t h. shape_definition (defines x) x (same_body x) s t h)

    pub shape_answers : WF (table_of B) → (S₁ : Sess Shelf) (S : Sess (Ls (Known W))) → SessionsUntil (Shape B) (Shape B) S₁ S → (r : Req)
        → AnswersUntil (Shape B) (Shape B) Is17or20 Is17 (answer_to (sharing k) B S₁ r) (answer_to N B S r)
    shape_answers = answers (λ x. 0) (λ l. []) (SameLines B) NoNames N k B Is17or20 Is17 no_zero₁ no_zero₂ shape_machines
