-- The whole machine: marks and order list, emission's marks, forward flags, the lines that it writes, and the ids that its pieces define.
-- The rules of `emit_type`, of a request and of a session over any machine.
use Rattle.std.specs.Prelude.{ℕ, zero, suc, ◌-◌, ◌<◌, ◌≡◌, Bool, true, false, not, ◌&&◌, ◌||◌, List, [], ◌∷◌, ◌++◌, ◌≢◌, ltb, eqb}
use Rattle.spec_c_dumper.specs.rules.Order.{Node, ignored, plain, listed, through, ptr, tdef, proto, comp, Table, Mark, new, busy}
use Rattle.spec_c_dumper.specs.rules.Order.{done, Store, Lawful, Framed, Res, ok, refused, order}

-- what a line, or a call, comes to: the machine after it; or a refusal, and what is held of the names at that moment
pub data Out (M H : Type 0) : Type 0 where
  wrote : M → Out M H
  stuck : H → ℕ → Out M H

pub record Machine (M H : Type 0) : Type 0 where
  pub store : Store M
  pub start : ℕ → M → M  -- a request begins: the order list is empty, and the text has this much room
  pub eget : M → ℕ → Mark
  pub emark : Mark → ℕ → M → M
  pub has_fwd : M → ℕ → Bool
  pub forwarded : ℕ → M → M
  pub fwd_line : M → ℕ → Out M H
  pub alias_line : M → ℕ → Out M H
  pub leaf_line : M → ℕ → Out M H
  pub body : M → ℕ → Out M H
  pub tags : M → List ℕ  -- the ids whose definitions stand in the text, in its order
  pub held : M → H  -- the names as they are
  pub leaving : H → M → M  -- what a refused request leaves of the names that it took: the machine before it, and what was held then

-- a refusal that is no cycle
abbrev pub Fine : ℕ → Type 0
Fine e = e ≡ 13 → ⊥

pub data OHolds {M H : Type 0} (Q : M → Type 0) : Out M H → Type 0 where
  ogood : {s : M} → Q s → OHolds Q (wrote s)
  obad : {h : H} {e : ℕ} → Fine e → OHolds Q (stuck h e)

module _ {M H : Type 0} (X : Machine M H) (Good : M → Type 0) where
  -- nothing but text, names and flags is touched
  pub record Same (s s' : M) : Type 0 where
    pub good : Good s'
    pub gets : (d : ℕ) → X.store.get s' d ≡ X.store.get s d
    pub egets : (d : ℕ) → X.eget s' d ≡ X.eget s d
    pub tags_same : X.tags s' ≡ X.tags s

  -- what ordering leaves alone
  pub record OrderKeeps (s s' : M) : Type 0 where
    pub egets : (d : ℕ) → X.eget s' d ≡ X.eget s d
    pub tags_same : X.tags s' ≡ X.tags s

  pub record Defines (x : ℕ) (s s' : M) : Type 0 where
    pub good : Good s'
    pub gets : (d : ℕ) → X.store.get s' d ≡ X.store.get s d
    pub egets : (d : ℕ) → X.eget s' d ≡ X.eget s d
    pub tagged : X.tags s' ≡ X.tags s ++ (x ∷ [])

  pub record MLawful (n : ℕ) : Type 0 where
    pub law : Lawful X.store n Good
    pub framed : Framed X.store n Good OrderKeeps
    pub start_same : (room : ℕ) (s : M) → Good s → Same s (X.start room s)
    pub start_list : (room : ℕ) (s : M) → Good s → X.store.list (X.start room s) ≡ []
    pub emark_good : (m : Mark) (x : ℕ) (s : M) → Good s → x < n → Good (X.emark m x s)
    pub emark_gets : (m : Mark) (x : ℕ) (s : M) → Good s → x < n → (d : ℕ) → X.store.get (X.emark m x s) d ≡ X.store.get s d
    pub emark_tags : (m : Mark) (x : ℕ) (s : M) → Good s → x < n → X.tags (X.emark m x s) ≡ X.tags s
    pub emark_same : (m : Mark) (x : ℕ) (s : M) → Good s → x < n → X.eget (X.emark m x s) x ≡ m
    pub emark_other : (m : Mark) (x : ℕ) (s : M) → Good s → x < n → (d : ℕ) → d ≢ x → X.eget (X.emark m x s) d ≡ X.eget s d
    pub forwarded_same : (x : ℕ) (s : M) → Good s → x < n → Same s (X.forwarded x s)
    pub fwd_same : (s : M) (x : ℕ) → Good s → x < n → OHolds (Same s) (X.fwd_line s x)
    pub alias_same : (s : M) (x : ℕ) → Good s → x < n → OHolds (Same s) (X.alias_line s x)
    pub leaf_same : (s : M) (x : ℕ) → Good s → x < n → OHolds (Same s) (X.leaf_line s x)
    pub body_defines : (s : M) (x : ℕ) → Good s → x < n → OHolds (Defines x s) (X.body s x)
    pub leaving_tags : (h : H) (s : M) → X.tags (X.leaving h s) ≡ X.tags s

abbrev pub is_zero : ℕ → Bool
is_zero zero = true
is_zero (suc n) = false

abbrev pub pick : Bool → ℕ → ℕ → ℕ
pick true a b = a
pick false a b = b

module _ {M H : Type 0} where
  unfoldable pub obind : Out M H → (M → Out M H) → Out M H
  obind (wrote s) k = k s
  obind (stuck h e) k = stuck h e

  unfoldable pub eeach : (M → ℕ → Out M H) → List ℕ → M → Out M H
  eeach f [] s = wrote s
  eeach f (y ∷ ys) s = obind (f s y) (eeach f ys)

module _ {M H : Type 0} (X : Machine M H) (T : Table) where
  -- a line that is written once for each id: a forward line, or a typedef
  unfoldable pub once : (M → ℕ → Out M H) → ℕ → Bool → M → Out M H
  once w x true s = wrote s
  once w x false s = obind (w s x) (λ s'. wrote (X.forwarded x s'))

  unfoldable pub mention : Bool → Bool → ℕ → M → Out M H
  mention true nm x s = wrote s
  mention false true x s = once X.fwd_line x false s
  mention false false x s = stuck (X.held s) 13

  -- met while in progress; a nameless composite is the Rust's "anonymous struct loop", which no request reaches
  unfoldable pub again : M → ℕ → ℕ → Node → Out M H
  again s x cont ignored = wrote s
  again s x cont plain = wrote s
  again s x cont (listed f) = wrote s
  again s x cont (through a t) = wrote s
  again s x cont (ptr t) = wrote s
  again s x cont (tdef t) = once X.alias_line x (X.has_fwd s x) s
  again s x cont (proto ts) = wrote s
  again s x cont (comp ms) = mention (X.has_fwd s x || eqb x cont) (T.named x) x s

  -- the end of a composite: its body at the top, and the mark
  unfoldable pub close : Bool → ℕ → M → Out M H
  close true x s = obind (X.body s x) (λ s'. wrote (X.emark done x s'))
  close false x s = wrote (X.emark new x s)

  unfoldable pub leaf : Bool → ℕ → M → Out M H
  leaf true x s = obind (X.leaf_line s x) (λ s'. wrote (X.emark done x s'))
  leaf false x s = wrote (X.emark done x s)

  module _ (rec : M → ℕ → ℕ → Out M H) (s : M) (x cont : ℕ) where
    -- the inside of a composite: the members (true) or a forward line
    unfoldable pub within : Bool → Bool → List ℕ → Out M H
    within true nm ms = eeach (λ s' y. rec s' y (pick nm x cont)) ms (X.emark busy x s)
    within false nm ms = once X.fwd_line x (X.has_fwd s x || eqb x cont) (X.emark busy x s)

    unfoldable pub begin : Bool → Node → Out M H
    begin top ignored = wrote s
    begin top plain = wrote s
    begin top (listed f) = leaf (f || top) x s
    begin top (through a t) = rec s t cont
    begin top (ptr t) = rec s t cont
    begin top (tdef t) =
        obind (rec (X.emark busy x s) t x) (λ s'. obind (once X.alias_line x (X.has_fwd s' x) s') (λ s''. wrote (X.emark done x s'')))
    begin top (proto ts) = eeach (λ s' y. rec s' y cont) ts s
    begin top (comp ms) = obind (within (top || not (T.named x)) (T.named x) ms) (close top x)

    unfoldable pub allowed : Bool → Out M H
    allowed true = stuck (X.held s) 14
    allowed false = begin (is_zero cont) (T.node x)

    unfoldable pub look : Mark → Out M H
    look new = allowed (is_zero cont && not (T.named x))
    look busy = again s x cont (T.node x)
    look done = wrote s

  unfoldable pub emit : ℕ → M → ℕ → ℕ → Out M H
  emit zero s x cont = stuck (X.held s) 12
  emit (suc n) s x cont = look (λ s' y c. emit n s' y c) s x cont (X.eget s x)

-- A session: requests for one id or for all, accepted or refused.

pub record Sess (M : Type 0) : Type 0 where
  pub is_open : Bool
  pub mach : M
  pub asked : List ℕ

pub record Answer (M : Type 0) : Type 0 where
  pub sess : Sess M
  pub number : ℕ

-- the room that the lent text slice has, and the id; or all ids
pub data Req : Type 0 where
  one : ℕ → ℕ → Req
  all : ℕ → Req

module _ {M H : Type 0} (X : Machine M H) (T : Table) where
  -- refused: closed, the text as it was; held: of the names, when it was refused
  unfoldable pub shut : Sess M → H → ℕ → Answer M
  shut S held e = record { sess = record { is_open = false; mach = X.leaving held S.mach; asked = S.asked }; number = e }

  unfoldable pub emitted : Sess M → ℕ → Out M H → Answer M
  emitted S x (wrote m) = record { sess = record { is_open = true; mach = m; asked = S.asked ++ (x ∷ []) }; number = 0 }
  emitted S x (stuck held e) = shut S held e

  unfoldable pub ordered : Sess M → ℕ → Res M → Answer M
  ordered S x (ok s b) = emitted S x (eeach (λ m y. emit X T 512 m y 0) (X.store.list s) s)
  ordered S x (refused e) = shut S (X.held S.mach) e

  abbrev pub ordering : ℕ → Sess M → ℕ → Res M
  ordering room S x = order X.store 512 T (X.start room S.mach) x false

  unfoldable pub gate : ℕ → Sess M → ℕ → Bool → Bool → Answer M
  gate room S x false below = record { sess = S; number = 11 }
  gate room S x true false = record { sess = S; number = 10 }
  gate room S x true true = ordered S x (ordering room S x)

  unfoldable pub single : ℕ → Sess M → ℕ → Answer M
  single room S x = gate room S x S.is_open (ltb x T.count)

  unfoldable pub onward : (Sess M → Answer M) → Answer M → Answer M
  onward k a = elim a.number [ zero ↦ k a.sess | suc n ↦ a ]

  unfoldable pub from : ℕ → ℕ → ℕ → Sess M → Answer M
  from room zero x S = record { sess = S; number = 0 }
  from room (suc n) x S = onward (from room n (suc x)) (single room S x)

  unfoldable pub every : ℕ → Sess M → Bool → Answer M
  every room S false = record { sess = S; number = 11 }
  every room S true = from room (T.count - 1) 1 S

  unfoldable pub serve : Sess M → Req → Sess M
  serve S (one room x) = (single room S x).sess
  serve S (all room) = (every room S S.is_open).sess

  unfoldable pub run : List Req → Sess M → Sess M
  run [] S = S
  run (r ∷ rs) S = run rs (serve S r)
