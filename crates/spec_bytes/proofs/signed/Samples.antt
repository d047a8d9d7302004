-- Enumerators at the ends of their widths, on the definitions: from the bits to the text. Document 01 marks the least of
-- 64 bits; the others are what the Rust prints. Assumes nothing.
use mathlib.Core.Path.{◌≡◌, refl}
use Rattle.spec_bytes.specs.text.Text.{ascii}
use Rattle.spec_bytes.specs.text.Decimal.{digits, decimal}
use Rattle.spec_bytes.specs.signed.Signed.{twos, signed, signed_ll}

least_64 : signed_ll (twos 9223372036854775808 9223372036854775808) ≡ ascii "(-9223372036854775807LL - 1)"
unfolding digits decimal twos signed signed_ll
least_64 = refl

next_64 : signed_ll (twos 9223372036854775808 9223372036854775809) ≡ ascii "-9223372036854775807LL"
unfolding digits decimal twos signed signed_ll
next_64 = refl

greatest_64 : signed_ll (twos 9223372036854775808 9223372036854775807) ≡ ascii "9223372036854775807LL"
unfolding digits decimal twos signed signed_ll
greatest_64 = refl

minus_one_64 : signed_ll (twos 9223372036854775808 18446744073709551615) ≡ ascii "-1LL"
unfolding digits decimal twos signed signed_ll
minus_one_64 = refl

least_32 : signed (twos 2147483648 2147483648) ≡ ascii "-2147483648"
unfolding digits decimal twos signed
least_32 = refl
