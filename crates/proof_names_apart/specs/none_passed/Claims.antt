-- "Where no suffix is passed over, both modes print alike": statement only. proofs/Claims.antt has the proof, of every table and every list
-- of requests; it assumes nothing.
use Rattle.std.specs.Prelude.{◌<◌, ◌≡◌, true, List, ◌↔◌}
use Rattle.spec_bytes.specs.words.Words.{one_more}
use Rattle.spec_c_dumper.specs.rules.Machine.{Req}
use Rattle.spec_c_dumper.specs.rules.Types.{Name, Btf, table_of}
use Rattle.spec_c_dumper.specs.rules.Names.{Space, holders}
use Rattle.spec_c_dumper.specs.needs.Needs.{WF}
use Rattle.spec_c_dumper.specs.needs.Session.{dump_types}
use Rattle.spec_c_dumper.specs.names_apart.Apart.{Apart, number_for, dump_apart}
use Rattle.proof_names_apart.specs.none_passed.Watched.{passes_over, dump_watched, PassesNone}

-- a number is passed over exactly if the one that the new mode takes is not the one that the old mode takes, short of the end of 32 bits
abbrev pub Exact : Type 0
Exact = (B : Btf) (space : Space) (name : Name) (u : Apart) → holders u.names.ledger space name < 4294967294
    → (passes_over B space name u ≡ true) ↔ (number_for B space name u ≡ one_more (holders u.names.ledger space name) → ⊥)

pub record BothAlike (B : Btf) (rs : List Req) : Type 0 where
  -- the session that is watched is the session of the new mode
  pub watched : dump_watched B rs ≡ dump_apart B rs
  -- and that of the old mode: the same numbers, lengths and text
  pub alike : dump_apart B rs ≡ dump_types B rs

abbrev pub Claim : Type 0
Claim = (B : Btf) → WF (table_of B) → (rs : List Req) → PassesNone B rs → BothAlike B rs
