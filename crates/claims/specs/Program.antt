-- What the program prints, over the types that the section describes. `ran_on` (btfdump_run) is what the contract of the program's `run`
-- says. Statement only; proofs/Program.antt has the proof; it assumes nothing.
use Rattle.std.specs.Prelude.{ℕ, suc, ◌≤◌, ◌≡◌, List, [], ◌∷◌, ◌++◌, length, IsSomeAnd}
use Rattle.spec_bytes.specs.text.Text.{ascii}
use Rattle.spec_bytes.specs.text.Decimal.{decimal}
use Rattle.spec_linux_btf.specs.Reading.{Bytes}
use Rattle.spec_c_dumper.specs.needs.Session.{program}
use Rattle.spec_opening.specs.Described.{table_in}
use Rattle.btfdump_run.specs.printed.Printed.{printed, ran_on}
use Rattle.claims.specs.Demand1.{Numbered}

-- what is written of the section s, with this work and text at the start: the first bytes of the text, as many as `run` says
abbrev pub out : List ℕ → List ℕ → List ℕ → List ℕ
out s work text = printed (ran_on s work text).out

pub record Prints (s work text : List ℕ) : Type 0 where
  -- what is printed fits, and the text has that many bytes
  pub inside : IsSomeAnd (ran_on s work text).out.len (λ n. n ≤ length (ran_on s work text).out.text)
  -- "It requests every id and prints the text, or only `refused `, the number in decimal and a newline", "pointer size 8, unions under
  -- their own word": what the rules print of the types that the section describes, where opening accepts it (Demand1: number 0)
  pub opened : Bytes s → Numbered 8 s 65536 0 → out s work text ≡ program (table_in 8 0 s)
  -- and where opening refuses it, the line of that number
  pub refused : Bytes s → (k : ℕ) → Numbered 8 s 65536 (suc k) → out s work text ≡ ascii "refused " ++ decimal (suc k) ++ 10 ∷ []

-- THE CLAIM, of every section, whatever work and text hold at the start: "with 16,384 work words and 65,536 bytes for text"
abbrev pub Program : Type 0
Program = (s work text : List ℕ) → length work ≡ 65536 → length text ≡ 65536 → Prints s work text
