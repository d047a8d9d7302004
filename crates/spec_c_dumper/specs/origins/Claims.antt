-- What is claimed of leaders and entries: statements only. The proofs are in proofs/.
use Rattle.std.specs.Prelude.{ℕ, ◌*◌, ◌-◌, ◌<◌, ◌≤◌, ◌≡◌, Bool, true, false, ◌⊎◌, ◌≢◌, length, replicate}
use mathlib.Core.List.{List, [], ◌∷◌, ◌++◌, Memᴰ}
use Rattle.spec_c_dumper.specs.rules.Order.{Node, ignored, plain, listed, through, ptr, tdef, proto, comp, Table}
use Rattle.spec_c_dumper.specs.rules.Machine.{Out, wrote, stuck, Machine, Sess, Answer, single, onward}
use Rattle.spec_c_dumper.specs.needs.Needs.{kids}
use Rattle.spec_c_dumper.specs.origins.Causes.{is_around, Entry, Traced, up_to, always, Explaining, bytes_of, Causes}

-- ---- leaders

-- x is l, or is followed from l past types that do not end the way
pub data ChainFrom (T : Table) (ends : ℕ → Bool) (l : ℕ) : ℕ → Type 0 where
  itself : ChainFrom T ends l l
  first : (x : ℕ) → Memᴰ x (kids (T.node l)) → ChainFrom T ends l x
  next : (z x : ℕ) → ChainFrom T ends l z → ends z ≡ false → Memᴰ x (kids (T.node z)) → ChainFrom T ends l x

-- for ordering, a composite or a typedef ends it
abbrev pub orders_around : Table → ℕ → Bool
orders_around T z = is_around (T.node z)

-- what ordering lists: composites, typedefs, enums and FWDs
abbrev pub is_listed : Node → Bool
is_listed ignored = false
is_listed plain = false
is_listed (listed f) = true
is_listed (through a t) = false
is_listed (ptr t) = false
is_listed (tdef t) = true
is_listed (proto ts) = false
is_listed (comp ts) = true

-- A listed id and what led to it, in a request for req: past neither a composite nor a typedef; the requested id, or another composite or
-- typedef.
pub record LedTo (T : Table) (req id leader : ℕ) : Type 0 where
  pub is_listed_lem : is_listed (T.node id) ≡ true
  pub leads : ChainFrom T (orders_around T) leader id
  pub which : (leader ≡ req) ⊎ ((leader ≢ id) × (is_around (T.node leader) ≡ true))

-- ---- entries and the plain rules

unfoldable pub forget : {M H : Type 0} → Out (Traced M) H → Out M H
forget (wrote s) = wrote s.mach
forget (stuck h e) = stuck h e

-- what is asked of a machine: no line is refused by the number 0, which is that of success
pub record Numbered {M H : Type 0} (X : Machine M H) : Type 0 where
  pub fwd_no : (m : M) (x : ℕ) (h : H) → X.fwd_line m x ≡ stuck h 0 → ⊥
  pub alias_no : (m : M) (x : ℕ) (h : H) → X.alias_line m x ≡ stuck h 0 → ⊥
  pub leaf_no : (m : M) (x : ℕ) (h : H) → X.leaf_line m x ≡ stuck h 0 → ⊥
  pub body_no : (m : M) (x : ℕ) (h : H) → X.body m x ≡ stuck h 0 → ⊥

-- What emission comes to, with k entries before it: with room for all, what the plain rule comes to. In a list of c entries it is the same
-- if the lines that are begun fit, and else 17. Z: that no line is refused by the number 0.
pub record Lined {M H : Type 0} (Z : Type 0) (k : ℕ) (F : (ℕ → Bool) → Out (Traced M) H) (plainly : Out M H) : Type 0 where
  pub same : forget (F always) ≡ plainly
  pub need : ℕ
  pub from : k ≤ need
  pub fits : (c : ℕ) → need ≤ c → F (up_to c) ≡ F always
  pub short : (c : ℕ) → k ≤ c → c < need → (h : H) × (F (up_to c) ≡ stuck h 17)
  pub counts : (s : Traced M) → F always ≡ wrote s → length s.entries ≡ need
  pub numbered : Z → (h : H) → F always ≡ stuck h 0 → ⊥

-- The same of the requests of a call: without the entries its answer is that of the plain requests, unless the list is too short, which is
-- 17. need: the entries of the accepted requests, and of the lines that a refused one began.
pub record FitsList {M : Type 0} (k : ℕ) (F : (ℕ → Bool) → Explaining M) (plainly : Answer M) : Type 0 where
  pub same : (F always).answer ≡ plainly
  pub need : ℕ
  pub from : k ≤ need
  pub held : length (F always).entries ≤ need
  pub fits : (c : ℕ) → need ≤ c → F (up_to c) ≡ F always
  pub short : (c : ℕ) → k ≤ c → c < need → (F (up_to c)).answer.number ≡ 17
  pub counts : (F always).answer.number ≡ 0 → length (F always).entries ≡ need

-- a list of ids without entries
unfoldable pub list_plain : {M H : Type 0} → Machine M H → Table → ℕ → List ℕ → Sess M → Answer M
list_plain X T room [] S = record { sess = S; number = 0 }
list_plain X T room (x ∷ xs) S = onward X T (list_plain X T room xs) (single X T room S x)

-- a lent list of n bytes after a call: "three words from the list's start" for each entry, and zeros
pub record Listed (n : ℕ) (es : List Entry) (list : List ℕ) : Type 0 where
  pub is : list ≡ bytes_of es ++ replicate (n - 12 * length es) 0
  pub size : length list ≡ n

-- A call that is lent a list l long enough. t: what it comes to with room for all entries, which does not depend on l: a longer list
-- changes nothing but its rest.
pub record Lent {M : Type 0} (l : List ℕ) (t : Explaining M) (plainly : Answer M) (c : Causes M) : Type 0 where
  pub answer : c.answer ≡ plainly
  pub count : c.count ≡ length t.entries
  pub listed : t.zeroed ≡ true → Listed (length l) t.entries c.list
  pub left : t.zeroed ≡ false → c.list ≡ l
