-- The mode of `proof_names_apart::names_apart` with a list of taken numbers for each name (crates/proof_demands/specs/name_counts/Passed)
-- in place of the table's names and of all that was
-- printed. proofs/Passed.antt: with lists that are right the two write the same.
use Rattle.std.specs.Prelude.{ℕ, ◌≤◌}
use mathlib.Core.List.{List, [], Memᴰ}
use Rattle.spec_c_dumper.specs.rules.Types.{Name, Btf}
use Rattle.spec_c_dumper.specs.rules.Names.{Space, spelled}
use Rattle.spec_c_dumper.specs.rules.Machine.{Req}
use Rattle.spec_c_dumper.specs.needs.Session.{Dump, opened_by, dumped, no_names}
use Rattle.btf_open_names.specs.numbers.Lists.{Distinct, Suffixes}
use Rattle.proof_demands.specs.name_counts.Passed.{Lists, passed}
use Rattle.spec_c_dumper.specs.names_apart.Apart.{table_names}

abbrev pub dump_passed : Lists → Btf → List Req → Dump
dump_passed T B rs = dumped (passed T) B [] rs (opened_by (passed T) B (no_names B))

-- ---- lists that are right

-- of each name of the table: the numbers with which it is spelled as a name of the table's same space
pub record Right (B : Btf) (T : Lists) : Type 0 where
  pub distinct : (space : Space) (name : Name) → Memᴰ name (table_names B space) → Distinct (T space name)
  pub suffixes : (space : Space) (name : Name) → Memᴰ name (table_names B space) → Suffixes (T space name)
  pub listed : (space : Space) (name : Name) → Memᴰ name (table_names B space) → (n : ℕ) → 2 ≤ n → n ≤ 4294967295
      → Memᴰ (spelled name n) (table_names B space) → Memᴰ n (T space name)
  pub only : (space : Space) (name : Name) → Memᴰ name (table_names B space) → (n : ℕ) → Memᴰ n (T space name)
      → Memᴰ (spelled name n) (table_names B space)
