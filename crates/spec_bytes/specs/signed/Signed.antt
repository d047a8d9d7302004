-- Numbers that have a sign: from their bits, and as text. Stated of integers, `pos n` for n and `negsuc n` for -(n + 1).
use Rattle.std.specs.Prelude.{ℕ, suc, ◌+◌, List, ◌++◌, true, false, ltb, eqb, ℤ, pos, negsuc, ◌-ℤ◌}
use Rattle.spec_bytes.specs.text.Text.{ascii}
use Rattle.spec_bytes.specs.text.Decimal.{decimal}

-- two's complement, with `half` the value of the highest bit: v, or v less twice `half` where that bit is set
unfoldable pub twos : ℕ → ℕ → ℤ
twos half v = elim (ltb v half) [ true ↦ pos v | false ↦ pos v -ℤ pos (half + half) ]

-- the sign and the magnitude, as Rust's `{}` prints an i32 or i64
unfoldable pub signed : ℤ → List ℕ
signed (pos n) = decimal n
signed (negsuc n) = ascii "-" ++ decimal (suc n)

-- an enumerator of 64 bits with a sign: `{}LL`, and the least one, -(9223372036854775807 + 1), as <stdint.h> spells it
unfoldable pub signed_ll : ℤ → List ℕ
signed_ll (pos n) = signed (pos n) ++ ascii "LL"
signed_ll (negsuc n) =
    elim (eqb n 9223372036854775807) [
      | true ↦ ascii "(-9223372036854775807LL - 1)"
      | false ↦ signed (negsuc n) ++ ascii "LL"
    ]
