-- What one composite needs of another: the words of demand 3, and what opening's refusals 6 and 7 leave.
use Rattle.std.specs.Prelude.{ℕ, ◌<◌, ◌≡◌, Bool, true, false, not, ◌&&◌, ◌||◌, ◌⊎◌}
use mathlib.Core.List.{List, [], ◌∷◌, Memᴰ}
use Rattle.spec_c_dumper.specs.rules.Order.{Node, ignored, plain, listed, through, ptr, tdef, proto, comp, Table, is_comp}

abbrev pub kids : Node → List ℕ
kids ignored = []
kids plain = []
kids (listed f) = []
kids (through a t) = t ∷ []
kids (ptr t) = t ∷ []
kids (tdef t) = t ∷ []
kids (proto ts) = ts
kids (comp ts) = ts

-- what passing a type makes of a way: weak from a pointer on; with strong arrays, "passing an array forgets pointers passed before it"
abbrev pub weaken : Table → Node → Bool → Bool
weaken T ignored w = w
weaken T plain w = w
weaken T (listed f) w = w
weaken T (through a t) w = not (a && T.strong_arrays) && w
weaken T (ptr t) w = true
weaken T (tdef t) w = w
weaken T (proto ts) w = w
weaken T (comp ts) w = w

abbrev pub is_array : Node → Bool
is_array ignored = false
is_array plain = false
is_array (listed f) = false
is_array (through a t) = a
is_array (ptr t) = false
is_array (tdef t) = false
is_array (proto ts) = false
is_array (comp ts) = false

-- what has members or elements
abbrev pub is_holder : Node → Bool
is_holder nd = is_comp nd || is_array nd

abbrev pub is_proto : Node → Bool
is_proto ignored = false
is_proto plain = false
is_proto (listed f) = false
is_proto (through a t) = false
is_proto (ptr t) = false
is_proto (tdef t) = false
is_proto (proto ts) = true
is_proto (comp ts) = false

-- A way from x, past all that is no composite, to the first composite d. It starts weak or not (w), and arrives so (v); f says what passing
-- a type does.
pub data Way (f : Node → Bool → Bool) (T : Table) : ℕ → Bool → ℕ → Bool → Type 0 where
  here : {x d : ℕ} {w v : Bool} → is_comp (T.node x) ≡ true → x ≡ d → w ≡ v → Way f T x w d v
  past : {x y d : ℕ} {w v : Bool} → is_comp (T.node x) ≡ false → Memᴰ y (kids (T.node x)) → Way f T y (f (T.node x) w) d v
      → Way f T x w d v

-- c needs d: a member leads to d, which is nameless, or no pointer lies on the way (with strong arrays: none after the last array)
pub record Needs (T : Table) (c d : ℕ) : Type 0 where
  pub composite : is_comp (T.node c) ≡ true
  pub member : ℕ
  pub is_member : Memᴰ member (kids (T.node c))
  pub pointer : Bool
  pub way : Way (weaken T) T member false d pointer
  pub owed : (T.named d ≡ false) ⊎ (pointer ≡ false)

abbrev pub NamedComp : Table → ℕ → Type 0
NamedComp T x = (is_comp (T.node x) ≡ true) × (T.named x ≡ true)

-- directly or through nameless ones
pub data Via (T : Table) : ℕ → ℕ → Type 0 where
  direct : {c d : ℕ} → Needs T c d → Via T c d
  through_nameless : {c n d : ℕ} → Needs T c n → T.named n ≡ false → Via T n d → Via T c d

-- a chain of needs from c on, without c
pub data Chain (T : Table) : ℕ → List ℕ → Type 0 where
  end : {c : ℕ} → Chain T c []
  next : {c d : ℕ} {l : List ℕ} → Needs T c d → Chain T d l → Chain T c (d ∷ l)

pub data Twice : List ℕ → Type 0 where
  now : {x : ℕ} {l : List ℕ} → Memᴰ x l → Twice (x ∷ l)
  later : {x : ℕ} {l : List ℕ} → Twice l → Twice (x ∷ l)

pub record MeetsTwice (T : Table) (c : ℕ) : Type 0 where
  pub rest : List ℕ
  pub chain : Chain T c rest
  pub twice : Twice (c ∷ rest)

-- x is a prototype, through typedefs, qualifiers, type tags, arrays
pub data ProtoVia (T : Table) : ℕ → Type 0 where
  it : {x : ℕ} → is_proto (T.node x) ≡ true → ProtoVia T x
  on : {x y : ℕ} → is_comp (T.node x) ≡ false → weaken T (T.node x) false ≡ false → Memᴰ y (kids (T.node x)) → ProtoVia T y
      → ProtoVia T x

pub record WF (T : Table) : Type 0 where
  pub void : T.node 0 ≡ plain
  pub below : (x y : ℕ) → Memᴰ y (kids (T.node x)) → y < T.count
  pub no_proto : (c m : ℕ) → is_holder (T.node c) ≡ true → Memᴰ m (kids (T.node c)) → ProtoVia T m → ⊥
