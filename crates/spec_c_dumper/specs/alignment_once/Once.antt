-- Alignments worked out once: the clauses of get_align_of (crates/spec_c_dumper/specs/rules/Layout) over a memory, with the visits counted.
-- The plain way,
-- get_align_of, "remains as the definition".
use Rattle.std.specs.Prelude.{ℕ, zero, suc, ◌+◌, ◌<◌, ◌≡◌, true, false, ◌&&◌, List, [], ◌∷◌, ◌⊎◌, length, ltb, leb, eqb}
use Rattle.spec_c_dumper.specs.rules.Writer.{Ask, got, no, ask_then, too_deep}
use Rattle.spec_c_dumper.specs.rules.Types.{Member, BtfType, Void, Int, Ptr, Array, Composite, Enum, Enum64, Fwd, Typedef, Mod, Func}
use Rattle.spec_c_dumper.specs.rules.Types.{Var, Datasec, FuncProto, Float, DeclTag, TypeTag, Btf}
use Rattle.spec_c_dumper.specs.rules.Layout.{larger, smaller, octets, get_align_of}

-- What is remembered of a type: its alignment, and how many calls of the plain way are open at once to find it. Without the height
-- "12 by the depth of the plain way" is lost.
pub record Remembered : Type 0 where
  pub align : ℕ
  pub height : ℕ

pub data Known : Type 0 where
  unknown : Known
  known : Remembered → Known

-- "Remember it per type." What keeps it: words, or a function.
pub record Keep (M : Type 0) : Type 0 where
  pub recall : M → ℕ → Known
  pub remember : ℕ → Remembered → M → M

-- What is asked of it: an entry is kept, or all is as it was; and one that Fits is kept for each of n types, in a memory that is Good.
pub record Lawful {M : Type 0} (K : Keep M) (n : ℕ) (Good : M → Type 0) (Fits : Remembered → Type 0) : Type 0 where
  pub kept : (id : ℕ) (s : Remembered) (m : M)
      → (K.recall (K.remember id s m) id ≡ known s) ⊎ (K.recall (K.remember id s m) id ≡ K.recall m id)
  pub other : (id : ℕ) (s : Remembered) (m : M) (d : ℕ) → (d ≡ id → ⊥) → K.recall (K.remember id s m) d ≡ K.recall m d
  pub same : (id : ℕ) (s : Remembered) (m : M) → Fits s → Good m → id < n → K.recall (K.remember id s m) id ≡ known s
  pub good : (id : ℕ) (s : Remembered) (m : M) → Good m → Good (K.remember id s m)

-- a value or the refusal that asking for it meets, the memory after it, and the visits made by then
pub data Once (M A : Type 0) : Type 0 where
  found : A → M → ℕ → Once M A
  refused : ℕ → M → ℕ → Once M A

-- a question to a memory, after so many visits
abbrev pub Asking : Type 0 → Type 0 → Type 0
Asking M A = M → ℕ → Once M A

unfoldable pub once_then : {M A C : Type 0} → Once M A → (A → Asking M C) → Once M C
once_then (found a m k) f = f a m k
once_then (refused c m k) f = refused c m k

-- the value or the refusal alone
unfoldable pub ask_once : {M A : Type 0} → Once M A → Ask A
ask_once (found a m k) = got a
ask_once (refused c m k) = no c

unfoldable pub memory_after : {M A : Type 0} → Once M A → M
memory_after (found a m k) = m
memory_after (refused c m k) = m

-- the type that asks for another one, and for no type
abbrev pub above : Remembered → Remembered
above s = record { align = s.align; height = suc s.height }

abbrev pub alone : ℕ → Remembered
alone a = record { align = a; height = 0 }

-- of two members
abbrev pub widest : Remembered → Remembered → Remembered
widest s t = record { align = larger s.align t.align; height = larger s.height t.height }

module _ {M : Type 0} where
  -- the members in order: a visit each, beside those of its type
  unfoldable pub members_once : (ℕ → Asking M Remembered) → Remembered → List Member → Asking M Remembered
  members_once ask s [] m k = found s m k
  members_once ask s (x ∷ xs) m k = once_then (ask x.type_id m (suc k)) (λ t m' k'. members_once ask (widest s t) xs m' k')

  -- a remembered alignment: "taking a remembered alignment counts none"
  unfoldable pub taken : ℕ → Remembered → Asking M Remembered
  taken left s m k = elim (leb s.height left) [ true ↦ found s m k | false ↦ refused too_deep m k ]

  module _ (B : Btf) (ask : ℕ → Asking M Remembered) where
    -- alignOf of the rules; the height is that of the calls below
    unfoldable pub type_once : BtfType → Asking M Remembered
    type_once Void m k = found (alone 0) m k
    type_once (Int n bits) m k = found (alone (smaller B.ptr_sz (octets bits))) m k
    type_once (Ptr t) m k = found (alone B.ptr_sz) m k
    type_once (Array t c) m k = ask t m k
    type_once (Composite s n sz ms) m k = members_once ask (alone 1) ms m k
    type_once (Enum s n sz vs) m k = found (alone (smaller B.ptr_sz sz)) m k
    type_once (Enum64 s n sz vs) m k = found (alone (smaller B.ptr_sz sz)) m k
    type_once (Fwd u n) m k = found (alone 0) m k
    type_once (Typedef n t) m k = ask t m k
    type_once (Mod q t) m k = ask t m k
    type_once (Func n) m k = found (alone 0) m k
    type_once (Var n) m k = found (alone 0) m k
    type_once (Datasec n) m k = found (alone 0) m k
    type_once (FuncProto r ps) m k = found (alone 0) m k
    type_once (Float n sz) m k = found (alone (smaller B.ptr_sz sz)) m k
    type_once (DeclTag a n t c) m k = found (alone 0) m k
    type_once (TypeTag a n t) m k = ask t m k

  module _ (K : Keep M) where
    -- what was found of a type is remembered; of a refused one nothing is
    unfoldable pub keep_once : ℕ → Remembered → Asking M Remembered
    keep_once id s m k = found (above s) (K.remember id (above s) m) k

    -- get_align_of with a memory: "one for each type or member looked at to find an alignment"; 12 where more calls would be open in
    -- the plain way than `left` allows
    unfoldable pub align_once : ℕ → Btf → ℕ → Asking M Remembered
    align_once zero B id m k = refused too_deep m k
    align_once (suc left) B id m k =
        elim (K.recall m id) [
          | known s ↦ taken (suc left) s m k
          | unknown ↦ once_then (type_once B (λ t m' k'. align_once left B t m' k') (B.type_by_id id) m (suc k)) (keep_once id)
        ]

    unfoldable pub alignment_once : ℕ → Btf → ℕ → Asking M ℕ
    alignment_once left B id m k = once_then (align_once left B id m k) (λ s. found s.align)

    -- alignments in a row, each with the calls that may be open for it, up to the first refusal
    unfoldable pub list_once : Btf → List (ℕ × ℕ) → Asking M (List ℕ)
    list_once B [] m k = found [] m k
    list_once B (a ∷ rest) m k =
        once_then (alignment_once a.0 B a.1 m k) (λ x m' k'. once_then (list_once B rest m' k') (λ l. found (x ∷ l)))

-- the same questions, put to the plain way
unfoldable pub list_plain : Btf → List (ℕ × ℕ) → Ask (List ℕ)
list_plain B [] = got []
list_plain B (a ∷ rest) = ask_then (get_align_of a.0 B a.1) (λ x. ask_then (list_plain B rest) (λ l. got (x ∷ l)))

-- ---- what is right
-- the plain way's answer about a type that is seen, with n calls left
unfoldable pub within : Remembered → ℕ → Ask ℕ
within s n = elim (leb s.height n) [ true ↦ got s.align | false ↦ no too_deep ]

-- s is what the plain way says of id, however many calls are left
abbrev pub Tells : Btf → ℕ → Remembered → Type 0
Tells B id s = (n : ℕ) → get_align_of n B id ≡ within s n

module _ {M : Type 0} (K : Keep M) where
  abbrev pub Right : Btf → M → Type 0
  Right B m = (id : ℕ) (s : Remembered) → K.recall m id ≡ known s → Tells B id s

  -- what was remembered stays
  abbrev pub Grows : M → M → Type 0
  Grows m m' = (id : ℕ) (s : Remembered) → K.recall m id ≡ known s → K.recall m' id ≡ known s

-- ---- "at most types plus members"
unfoldable pub member_count : BtfType → ℕ
member_count Void = 0
member_count (Int n b) = 0
member_count (Ptr t) = 0
member_count (Array t k) = 0
member_count (Composite s n z ms) = length ms
member_count (Enum s n z vs) = 0
member_count (Enum64 s n z vs) = 0
member_count (Fwd u n) = 0
member_count (Typedef n t) = 0
member_count (Mod q t) = 0
member_count (Func n) = 0
member_count (Var n) = 0
member_count (Datasec n) = 0
member_count (FuncProto r ps) = 0
member_count (Float n z) = 0
member_count (DeclTag a n t k) = 0
member_count (TypeTag a n t) = 0

-- the members of the types below n
unfoldable pub members_to : Btf → ℕ → ℕ
members_to B zero = 0
members_to B (suc n) = members_to B n + member_count (B.type_by_id n)

-- a type and its members, if it is remembered
unfoldable pub cost : Known → BtfType → ℕ
cost unknown t = 0
cost (known s) t = suc (member_count t)

-- the remembered ones of the types below n, and their members
unfoldable pub paid_to : Btf → (ℕ → Known) → ℕ → ℕ
paid_to B f zero = 0
paid_to B f (suc n) = paid_to B f n + cost (f n) (B.type_by_id n)

-- ---- a memory of n types that is a function
abbrev pub Table : Type 0
Table = ℕ → Known

abbrev pub table_keep : ℕ → Keep Table
table_keep n = record { recall = λ m id. m id; remember = λ id s m d. elim (eqb d id && ltb id n) [ true ↦ known s | false ↦ m d ] }

-- nothing is remembered
abbrev pub blank : Table
blank id = unknown
