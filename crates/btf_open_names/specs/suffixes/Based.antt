-- The base of a name with a suffix, and the number that the name takes from it.
use Rattle.std.specs.Prelude.{ℕ, zero, suc, true, false, leb, List, Option, None, Some}
use Rattle.btf_open_names.specs.declared.suffixes.bases.Base.{Base}
use Rattle.btf_open_names.specs.filled_work.Takers.{suffix_on}

-- holder c as a base, by the number with which a name is that of c with a suffix
unfoldable pub base_with : ℕ → ℕ → Option Base
base_with c m = elim (leb 2 m) [ true ↦ Some (record { holder = c; number = m }) | false ↦ None ]

-- of holder h, the base that is holder c; none where c is 0
unfoldable pub based : (ℕ → List ℕ) → ℕ → ℕ → Option Base
based key h zero = None
based key h (suc c) = Some (record { holder = suc c; number = suffix_on (key (suc c)) (key h) })
