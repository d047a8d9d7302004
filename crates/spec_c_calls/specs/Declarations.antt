-- What reading a declaration back comes to for C: the result, and the words of the chain after it.
use Rattle.std.specs.Prelude.{ℕ, ◌*◌, true, false, List, ltb, eqb, length}
use Rattle.session_declaration_reader.specs.bases.Items.{Placed, placed}
use Rattle.session_declaration_reader.specs.reader.Encoding.{read_into}

-- no entry is number 19, in the upper half of 64 bits
unfoldable pub numbered : Placed → Placed
numbered (placed n t) = placed (elim (eqb n 0) [ true ↦ 19 * 4294967296 | false ↦ n ]) t

-- words for fewer than 512 entries: number 255; nothing is touched
unfoldable pub read_export : List ℕ → List ℕ → Placed
read_export s t = elim (ltb (length t) 1536) [ true ↦ placed (255 * 4294967296) t | false ↦ numbered (read_into s t) ]
