-- What is claimed of a session with names that cannot collide: statements only. proofs/Claims.antt has the proofs, of every table and every
-- list of requests; they assume nothing.
use Rattle.std.specs.Prelude.{◌≡◌, List}
use Rattle.spec_c_dumper.specs.rules.Machine.{Req}
use Rattle.spec_c_dumper.specs.rules.Types.{Btf, table_of}
use Rattle.spec_c_dumper.specs.needs.Needs.{WF}
use Rattle.spec_c_dumper.specs.needs.Demand.{Demand3}
use Rattle.spec_c_dumper.specs.needs.Session.{machine_by, dump_types}
use Rattle.spec_c_dumper.specs.names_apart.Apart.{apart, dump_apart, after_all, names_after, AllApart, Ends}
use Rattle.spec_c_dumper.specs.names_apart.Apart.{FewNames}
use Rattle.proof_names_apart.specs.names_apart.Alike.{Suffixless}

-- THE CLAIM, of a table that ends, with fewer than 2^31 names of a space, and what demand 3 needs of it
pub record NamesApart (B : Btf) : Type 0 where
  -- "In one session ..": all that was printed is apart
  pub all_apart : (rs : List Req) → AllApart (names_after B rs).printed
  -- "where no suffix is passed over, both modes print alike": the same numbers, lengths and text
  pub alike : Suffixless B → (rs : List Req) → dump_apart B rs ≡ dump_types B rs
  -- and demand 3 holds
  pub demand3 : (rs : List Req) → Demand3 (machine_by (apart B) B) (table_of B) (after_all B rs)

abbrev pub Claim : Type 0
Claim = (B : Btf) → Ends B → FewNames B → WF (table_of B) → NamesApart B
