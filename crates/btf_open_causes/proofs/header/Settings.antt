-- What a table's types need of its header and settings: a law for each return of btf_of and what it calls. Assumes nothing.
use Prim.Native.Nat.{ℕ, ◌/◌, ◌%◌, ◌+◌, ◌<◌}
use mathlib.Core.Path.{◌≡◌, ◌∙◌, ap}
use mathlib.Core.Bool.{Bool}
use mathlib.Core.List.{List}
use native.Mathlib.Omega.{arith}
use Rattle.std.proofs.Math.Nat.{div-one}
use lib.Dec.{ltb, eqb}
use Rattle.spec_linux_btf.specs.Section.{is_big_endian}
use Rattle.spec_bytes.specs.words.Words.{pick}
use Rattle.spec_type_table.specs.declared.types.TypeTable.{TypeTable}
use Rattle.btf_open_causes.specs.declared.header.Header.{Header}
use Rattle.btf_open_causes.specs.declared.header.Mode.{Mode}
use Rattle.btf_open_causes.specs.declared.header.Mode.TheVariants.{UnionAsStruct, StrongArrays, Placing, NamesApart}
use Rattle.btf_open_causes.specs.header.Header.{header_of, mode_bit, strings_at, btf_of}

pub some_bit : (m : Mode) → 0 < mode_bit m
some_bit UnionAsStruct = omega arith
some_bit StrongArrays = omega arith
some_bit Placing = omega arith
some_bit NamesApart = omega arith

abbrev from_header : Header → ℕ
from_header h = pick (ltb (h.hdr_len + h.str_off) 4294967296) (h.hdr_len + h.str_off) 4294967295

pub btf_is : (s : List ℕ) (p m t : ℕ) (h : Header) → h ≡ header_of s → (a b c : ℕ) → a ≡ pick (eqb p 4) 4 8 → b ≡ pick (ltb t 262145) t 262145
    → c ≡ from_header h → (o u v w : Bool) → o ≡ is_big_endian s → u ≡ eqb (m / 1 % 2) 1 → v ≡ eqb (m / 2 % 2) 1 → w ≡ eqb (m / 4 % 2) 1
    → ◌≡◌ {A = TypeTable} (record { ptr_sz = a; union_as_struct = u; big_endian = o; strong_arrays = v; placing = w; types = b; strs = c }) (btf_of s p m t)
unfolding btf_of header_of strings_at
btf_is s p m t h e a b c f g k o u v w q x y z = λ i. record { ptr_sz = f i; union_as_struct = (x ∙ ap (λ (n : ℕ). eqb (n % 2) 1) (div-one m)) i; big_endian = q i; strong_arrays = y i; placing = z i; types = g i; strs = (k ∙ ap from_header e) i }
