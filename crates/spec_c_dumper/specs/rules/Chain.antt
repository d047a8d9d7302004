-- A chain by two numbers, the id that it starts from and how many entries it has: what code can keep, since a chain is only popped.
use Rattle.std.specs.Prelude.{ℕ, zero, suc, List, [], ◌∷◌}
use Rattle.spec_c_dumper.specs.rules.Writer.{Ask, got, no, too_deep}
use Rattle.spec_c_dumper.specs.rules.Types.{Btf}
use Rattle.spec_c_dumper.specs.rules.Decl.{Entry, base, star, qual, array, proto, tag, Link, ends, leads, link_of}

abbrev pub entry_by : ℕ → Link → Entry
entry_by id ends = base id
entry_by id (leads e t) = e

abbrev pub target_by : ℕ → Link → ℕ
target_by id ends = id
target_by id (leads e t) = t

-- the id after k steps
unfoldable pub path_at : Btf → ℕ → ℕ → ℕ
path_at B start zero = start
path_at B start (suc k) = target_by (path_at B start k) (link_of (B.type_by_id (path_at B start k)))

abbrev pub entry_at : Btf → ℕ → ℕ → Entry
entry_at B start k = entry_by (path_at B start k) (link_of (B.type_by_id (path_at B start k)))

-- the first n entries, the last on top
unfoldable pub chain_to : Btf → ℕ → ℕ → List Entry
chain_to B start zero = []
chain_to B start (suc n) = entry_at B start n ∷ chain_to B start n

-- how many entries the chain has, when k were counted before id
unfoldable pub count_on : (ℕ → ℕ → Ask ℕ) → ℕ → Link → Ask ℕ
count_on walk k ends = got (suc k)
count_on walk k (leads e t) = walk t (suc k)

unfoldable pub chain_count : ℕ → Btf → ℕ → ℕ → Ask ℕ
chain_count zero B id k = no too_deep
chain_count (suc most) B id k = count_on (chain_count most B) k (link_of (B.type_by_id id))

-- how many entries stay when the qualifiers on top are popped
abbrev pub kept_by : Entry → ℕ → ℕ → ℕ
kept_by (base x) more n = n
kept_by star more n = n
kept_by (qual q) more n = more
kept_by (array k) more n = n
kept_by (proto ps) more n = n
kept_by (tag a name) more n = n

unfoldable pub kept_to : Btf → ℕ → ℕ → ℕ
kept_to B start zero = zero
kept_to B start (suc n) = kept_by (entry_at B start n) (kept_to B start n) (suc n)
