-- What every name that is taken keeps of what is held, lines, emission and requests keep, refused ones too. Assumes nothing.
use Prim.Native.Nat.{ℕ, ◌+◌, ◌-◌}
use mathlib.Core.Path.{◌≡◌}
use mathlib.Core.Bool.{Bool, true, false}
use mathlib.Core.List.{List}
use lib.ListN.{length, get_or, set}
use lib.Dec.{leb, eqb}
use Rattle.spec_bytes.specs.text.Text.{Text, whole, cut, bytes}
use Rattle.spec_c_dumper.specs.rules.Machine.{Sess, Req, one, all}
use Rattle.spec_c_dumper.specs.rules.Writer.{Said, said, Writer, after, next, ◌⨾◌, put, stop}
use Rattle.spec_c_dumper.specs.rules.Layout.{smaller}
use Rattle.spec_c_dumper.specs.rules.Types.{Name, Btf, table_of}
use Rattle.spec_c_dumper.specs.rules.Names.{Space, ident_space, Resolved, Naming, resolving}
use Rattle.spec_c_dumper.specs.needs.Lists.{Piece, defines, other, cannot, Ls, put_line}
use Rattle.spec_c_dumper.specs.needs.Session.{Known, names_at_stop, fitting, line_of, machine_by, answer_to}
use Rattle.spec_c_dumper.proofs.rules.Held.{Each, of_none, each_append, each_held_by, each_at, resolved}
use Rattle.spec_c_dumper.proofs.rules.Closed.{TypeFits, Closed, r_definition, r_forward}
use Rattle.spec_c_dumper.proofs.rules.Keeps.{any_name, any_value, type_fits}
use Rattle.spec_c_dumper.proofs.needs.Keeping.{Leaves, leaves, stops, Steps, Requests, single_kept, every_kept}
use Rattle.proof_two_headers.specs.Shared.{Ledger, of_type, Held, over, giving, number_of, taking, sharing, passing, type_shared, value_shared, Shelf}

-- ---- writers: what every name that is taken keeps, they keep, at each byte

module _ {U : Type 0} (J : U → Type 0) where
  pub data Holds : Said U → Type 0 where
    holds : (u : U) (t : Text) (k : List U) → J u → Each J k → Holds (said u t k)

  abbrev HoldsW : Writer U → Type 0
  HoldsW w = (u : U) → J u → Holds (w u)

  holds_after : (a : List ℕ) (k : List U) {s : Said U} → Each J k → Holds s → Holds (after a k s)
  unfolding after
  holds_after a k e (holds u t m j f) = holds u _ _ j (each_append J e f)

  holds_next : {s : Said U} (w : Writer U) → Holds s → HoldsW w → Holds (next s w)
  unfolding next
  holds_next w (holds u (whole a) k j e) h = holds_after a k e (h u j)
  holds_next w (holds u (cut a c) k j e) h = holds u (cut a c) k j e

  holds_put : (a : List ℕ) → HoldsW (put a)
  unfolding put
  holds_put a u j = holds u _ _ j (each_held_by J u j a)

  holds_stop : (c : ℕ) → HoldsW (stop c)
  unfolding stop
  holds_stop c u j = holds u _ _ j of_none

  holds_then : (v w : Writer U) → HoldsW v → HoldsW w → HoldsW (v ⨾ w)
  unfolding ◌⨾◌
  holds_then v w hv hw u j = holds_next w (hv u j) hw

  holds_resolving : (f : U → Resolved U) → ((u : U) → J u → (f u).passes ≡ false → J (f u).names) → (k : ℕ → Writer U) → ((n : ℕ) → HoldsW (k n)) → HoldsW (resolving f k)
  holds_resolving f kept k h u j = resolved Holds f k u (λ e. holds_stop 20 u j) (λ e. h (f u).version (f u).names (kept u j e))

  module _ (N : Naming U) (Fits : Space → ℕ → Name → Type 0) (type_kept : (space : Space) (id : ℕ) (name : Name) (u : U) → Fits space id name → J u → (N.type_version space id name u).passes ≡ false → J (N.type_version space id name u).names)
      (value_kept : (id i : ℕ) (name : Name) (u : U) → J u → (N.value_version id i name u).passes ≡ false → J (N.value_version id i name u).names) (B : Btf) (fits : (id : ℕ) → TypeFits Fits any_value id (B.type_by_id id)) where
    abbrev K : Writer U → Writer U → Type 0
    K v w = HoldsW v

    holds_closed : Closed N N Fits any_value K
    holds_closed = record {
      c_put = holds_put;
      c_stop = λ c q. holds_stop c;
      c_then = λ v₁ w₁ v₂ w₂ hv hw. holds_then v₁ w₁ hv hw;
      c_type = λ space id name fit e k₁ k₂ h. holds_resolving (N.type_version space id name) (λ u j p. type_kept space id name u fit j p) k₁ h;
      c_value = λ id i name fit k₁ k₂ h. holds_resolving (N.value_version id i name) (λ u j p. value_kept id i name u j p) k₁ h;
    }

    abbrev Kept : Ls (Known U) → Type 0
    Kept s = J s.known.names

    module _ (mk : List ℕ → Piece) (s : Ls (Known U)) where
      fitting_kept : (len : ℕ) (u : U) (t : Text) → J u → Leaves Kept J (put_line mk s (fitting len u t))
      unfolding fitting
      fitting_kept len u (whole a) j = leaves _ j
      fitting_kept len u (cut a c) j = stops u c j

      line_kept : (room len : ℕ) {x : Said U} → Holds x → Leaves Kept J (put_line mk s (line_of room len x))
      unfolding line_of names_at_stop
      line_kept room len (holds u t k j e) = go (leb (len + length (bytes t)) (smaller room 1073741824)) (get_or k (smaller room 1073741824 - len) u) (each_at J e (smaller room 1073741824 - len) u j)
        where
          go : (b : Bool) (h : U) → J h → Leaves Kept J (put_line mk s (elim b [ true ↦ fitting len u t | false ↦ cannot h 17 ]))
          go true h q = fitting_kept len u t j
          go false h q = stops h 17 q

    pub kept_steps : Steps (machine_by N B) (table_of B) Kept J
    kept_steps = record {
      k_mark = λ m x s p. p;
      k_push = λ x s p. p;
      k_emark = λ m x s p. p;
      k_forwarded = λ x s p. p;
      k_fwd = λ s x p. line_kept other s s.room s.known.text_len (r_forward N N Fits any_value K holds_closed B fits x (B.type_by_id x) (fits x) s.known.names p);
      k_alias = λ s x p. line_kept other s s.room s.known.text_len (r_forward N N Fits any_value K holds_closed B fits x (B.type_by_id x) (fits x) s.known.names p);
      k_leaf = λ s x c p. line_kept other s s.room s.known.text_len (r_definition N N Fits any_value K holds_closed B fits x (B.type_by_id x) (fits x) s.known.names p);
      k_body = λ s x c p. line_kept (defines x) s s.room s.known.text_len (r_definition N N Fits any_value K holds_closed B fits x (B.type_by_id x) (fits x) s.known.names p);
      k_held = λ s p. p;
    }

-- what a type's name comes to, by whether the type has no version yet
abbrev pub type_by : ℕ → Space → ℕ → Name → Held → Bool → Resolved Held
type_by k space id name h b = elim b as (λ x. Resolved Held) [
  | false ↦ record { passes = false; version = get_or h.versions id 0; names = h }
  | true ↦ record {
    passes = passing k h.ledger space name;
    version = number_of h.ledger space name;
    names = record { versions = set h.versions id (number_of h.ledger space name); given = giving space (of_type id) name h; ledger = taking k h.ledger space name };
  }
]

-- what was held at first, over a ledger that names are taken from
module _ (I : Held → Type 0) (k : ℕ) (lost : (space : Space) (name : Name) (h : Held) → I h → passing k h.ledger space name ≡ false → I (over (taking k h.ledger space name) h)) (g : Held) where
  type_lost : (space : Space) (id : ℕ) (name : Name) (h : Held) → I (over h.ledger g) → (type_shared k space id name h).passes ≡ false → I (over (type_shared k space id name h).names.ledger g)
  unfolding type_shared
  type_lost space id name h i = go (eqb (get_or h.versions id 0) 0)
    where
      go : (b : Bool) → (type_by k space id name h b).passes ≡ false → I (over (type_by k space id name h b).names.ledger g)
      go true e = lost space name (over h.ledger g) i e
      go false e = i

  value_lost : (id j : ℕ) (name : Name) (h : Held) → I (over h.ledger g) → (value_shared k id j name h).passes ≡ false → I (over (value_shared k id j name h).names.ledger g)
  unfolding value_shared
  value_lost id j name h i e = lost ident_space name (over h.ledger g) i e

-- ---- requests: what is kept, and what a refusal keeps, which leaves the names that were taken

module _ (I : Held → Type 0) (Fits : Space → ℕ → Name → Type 0) (k : ℕ) (type_kept : (space : Space) (id : ℕ) (name : Name) (h : Held) → Fits space id name → I h → (type_shared k space id name h).passes ≡ false → I (type_shared k space id name h).names)
    (value_kept : (id i : ℕ) (name : Name) (h : Held) → I h → (value_shared k id i name h).passes ≡ false → I (value_shared k id i name h).names)
    (lost : (space : Space) (name : Name) (h : Held) → I h → passing k h.ledger space name ≡ false → I (over (taking k h.ledger space name) h)) where
  -- of what is held, and of what was held at first, over the ledger as it is
  abbrev Two : Held → Held → Type 0
  Two g h = I h × I (over h.ledger g)

  two_type : (g : Held) (space : Space) (id : ℕ) (name : Name) (h : Held) → Fits space id name → Two g h → (type_shared k space id name h).passes ≡ false → Two g (type_shared k space id name h).names
  two_type g space id name h f i e = (type_kept space id name h f i.0 e, type_lost I k lost g space id name h i.1 e)

  two_value : (g : Held) (id j : ℕ) (name : Name) (h : Held) → Two g h → (value_shared k id j name h).passes ≡ false → Two g (value_shared k id j name h).names
  two_value g id j name h i e = (value_kept id j name h i.0 e, value_lost I k lost g id j name h i.1 e)

  module _ (B : Btf) (fits : (id : ℕ) → TypeFits Fits any_value id (B.type_by_id id)) where
    abbrev Rests : Shelf → Type 0
    Rests s = I s.known.names

    requests : Requests (machine_by (sharing k) B) (table_of B) Rests (λ g s. Two g.known.names s.known.names) (λ g h. Two g.known.names h)
    requests = record {
      k_steps = λ g p. kept_steps (Two g.known.names) (sharing k) Fits (λ space id name h f i e. two_type g.known.names space id name h f i e) (λ id i name h j e. two_value g.known.names id i name h j e) B fits;
      k_start = λ room g p. (p, p);
      k_end = λ g s p. p.0;
      k_refused = λ g p. (p, p);
      k_leaving = λ g h p j. j.1;
    }

    -- whatever the answer
    pub answer_keeps : (S : Sess Shelf) (r : Req) → I S.mach.known.names → I (answer_to (sharing k) B S r).sess.mach.known.names
    unfolding answer_to
    answer_keeps S (one room x) i = single_kept (machine_by (sharing k) B) (table_of B) Rests (λ g s. Two g.known.names s.known.names) (λ g h. Two g.known.names h) requests room S x i
    answer_keeps S (all room) i = every_kept (machine_by (sharing k) B) (table_of B) Rests (λ g s. Two g.known.names s.known.names) (λ g h. Two g.known.names h) requests room S S.is_open i

-- ---- what the ledger alone keeps

module _ (I : Ledger → Type 0) (k : ℕ) (step : (space : Space) (name : Name) (L : Ledger) → passing k L space name ≡ false → I L → I (taking k L space name)) where
  pub ledger_keeps : (B : Btf) (S : Sess Shelf) (r : Req) → I S.mach.known.names.ledger → I (answer_to (sharing k) B S r).sess.mach.known.names.ledger
  ledger_keeps B S r i =
      answer_keeps (λ h. I h.ledger) any_name k (λ space id name h f j e. type_lost (λ h'. I h'.ledger) k (λ space' name' h' j' e'. step space' name' h'.ledger e' j') h space id name h j e) (λ id x name h j e. valued id x name h j e)
      (λ space name h j e. step space name h.ledger e j) B (λ x. type_fits x (B.type_by_id x)) S r i
    where
      valued : (id x : ℕ) (name : Name) (h : Held) → I h.ledger → (value_shared k id x name h).passes ≡ false → I (value_shared k id x name h).names.ledger
      valued id x name h j e = value_lost (λ h'. I h'.ledger) k (λ space' name' h' j' e'. step space' name' h'.ledger e' j') h id x name h j e
