-- "Deeply nested unions make a request crawl": tables on which the two ways differ in their work, and tables on which both refuse.
use Rattle.std.specs.Prelude.{ℕ, zero, suc, ◌+◌, true, false, List, [], ◌∷◌}
use Rattle.spec_c_dumper.specs.rules.Types.{Member, BtfType, Void, Int, Ptr, Array, Composite, Enum, Enum64, Fwd, Typedef, Mod, Func}
use Rattle.spec_c_dumper.specs.rules.Types.{Var, Datasec, FuncProto, Float, DeclTag, TypeTag, Btf}
use Rattle.spec_c_dumper.specs.rules.Listed.{listed}
use Rattle.spec_c_dumper.specs.alignment_once.Once.{Once, found, refused, Table, table_keep, blank, list_once}

-- the calls that the plain way opens for an answer that is not refused
abbrev calls_each : (ℕ → ℕ) → List Member → ℕ
calls_each f [] = 0
calls_each f (m ∷ ms) = f m.type_id + calls_each f ms

abbrev calls_below : (ℕ → ℕ) → BtfType → ℕ
calls_below f Void = 0
calls_below f (Int n b) = 0
calls_below f (Ptr t) = 0
calls_below f (Array t k) = f t
calls_below f (Composite s n z ms) = calls_each f ms
calls_below f (Enum s n z vs) = 0
calls_below f (Enum64 s n z vs) = 0
calls_below f (Fwd u n) = 0
calls_below f (Typedef n t) = f t
calls_below f (Mod q t) = f t
calls_below f (Func n) = 0
calls_below f (Var n) = 0
calls_below f (Datasec n) = 0
calls_below f (FuncProto r ps) = 0
calls_below f (Float n z) = 0
calls_below f (DeclTag a n t k) = 0
calls_below f (TypeTag a n t) = f t

unfoldable pub plain_calls : ℕ → Btf → ℕ → ℕ
plain_calls zero B id = 0
plain_calls (suc left) B id = suc (calls_below (plain_calls left B) (B.type_by_id id))

abbrev pub at_zero : ℕ → Member
at_zero t = record { name = []; type_id = t; bit_offset = 0; bit_size = 0 }

-- n unions from id x on: each holds the type before it twice, and an int between
abbrev pub unions : ℕ → ℕ → List BtfType
unions x zero = []
unions x (suc n) = Composite false [] 4 (at_zero x ∷ at_zero 1 ∷ at_zero x ∷ []) ∷ unions (suc x) n

-- 1 int, 2 to n + 1 unions
abbrev pub doubling : ℕ → Btf
doubling n = listed 8 false (Void ∷ Int [] 32 ∷ unions 1 n)

-- 1 a struct that holds itself
abbrev pub loop : Btf
loop = listed 8 false (Void ∷ Composite true [] 4 (at_zero 1 ∷ []) ∷ [])

abbrev pub visits_of : {A : Type 0} → Once Table A → ℕ
visits_of (found a m k) = k
visits_of (refused c m k) = k

-- the visits of alignments in a row, from a memory in which nothing is remembered
abbrev pub visits_for : Btf → List (ℕ × ℕ) → ℕ
visits_for B asks = visits_of (list_once (table_keep B.type_cnt) B asks blank 0)
