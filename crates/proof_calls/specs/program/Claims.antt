-- What the program prints is what the rules say: `ran_on` of crates/btfdump_run, which the program's `run` promises, against `program` of
-- spec_c_dumper/specs/needs, of which the samples and the stored programs are proved. Statement only. proofs/Claims.antt has the proof,
-- of every section. It assumes nothing.
use Rattle.std.specs.Prelude.{ℕ, suc, ◌≤◌, ◌≡◌, true, false, List, length, IsSomeAnd}
use Rattle.spec_linux_btf.specs.Reading.{Bytes}
use Rattle.spec_c_dumper.specs.rules.Machine.{Answer, every}
use Rattle.spec_c_dumper.specs.rules.Names.{Names}
use Rattle.spec_c_dumper.specs.rules.Types.{Btf, table_of}
use Rattle.spec_c_dumper.specs.rules.Listed.{listed}
use Rattle.spec_opening.specs.Described.{table_in}
use Rattle.spec_opening.specs.Causes.{opening_number}
use Rattle.spec_c_dumper.specs.needs.Lists.{Ls}
use Rattle.spec_c_dumper.specs.needs.Session.{Known, text_of, machine, opened, program}
use Rattle.proof_examples.specs.vectors.Reading.{types_of as read_types}
use Rattle.proof_demands.specs.demands.Table.{opened_table}
use Rattle.btfdump_run.specs.printed.Printed.{refused_line, printed, ran_on}

-- "pointer size 8, unions under their own word, with 16,384 work words": what opening says, 0 where it accepts, and the table that it
-- then gives
abbrev pub number : List ℕ → ℕ
number s = opening_number 8 s 65536

abbrev pub table : List ℕ → Btf
table s = opened_table 8 0 s 65536

-- "It requests every id", by the rules, "and 65,536 bytes for text"
abbrev pub requested : List ℕ → Answer (Ls (Known Names))
requested s = every (machine (table s)) (table_of (table s)) 65536 (opened (table s)) true

-- what is written of the section s, with this work and text at the start: the first bytes of the text, as many as `run` says
abbrev pub out : List ℕ → List ℕ → List ℕ → List ℕ
out s work text = printed (ran_on s work text).out

pub record Prints (s work text : List ℕ) : Type 0 where
  -- what is printed fits, and the text has that many bytes
  pub inside : IsSomeAnd (ran_on s work text).out.len (λ n. n ≤ length (ran_on s work text).out.text)
  -- a section that opening accepts: what the rules print of its table
  pub rules : number s ≡ 0 → out s work text ≡ program (table s)
  -- and so of the types that it describes, and of those that crates/proof_examples reads in the bytes of a stored program
  pub described : Bytes s → number s ≡ 0 → out s work text ≡ program (table_in 8 0 s)
  pub as_stored : Bytes s → number s ≡ 0 → out s work text ≡ program (listed 8 false (read_types s))
  -- "prints the text"
  pub accepted : number s ≡ 0 → (requested s).number ≡ 0 → out s work text ≡ text_of (requested s).sess.mach.pieces
  -- "or only `refused `, the number in decimal and a newline", of the request and of opening
  pub refused : number s ≡ 0 → (k : ℕ) → (requested s).number ≡ suc k → out s work text ≡ refused_line (suc k)
  pub not_opened : (k : ℕ) → number s ≡ suc k → out s work text ≡ refused_line (suc k)

-- THE CLAIM, whatever work and text hold at the start
abbrev pub Runs : Type 0
Runs = (s work text : List ℕ) → length work ≡ 65536 → length text ≡ 65536 → Prints s work text
