-- dump_type: ordering, then the lines of what it listed.
use Rattle.std.specs.Prelude.{ℕ, false}
use Rattle.spec_c_dumper.specs.rules.Order.{Table, Res, ok, refused, order}
use Rattle.spec_c_dumper.specs.rules.Machine.{Out, wrote, stuck, Machine, obind, eeach, emit}

-- One request: what ordering listed, each emitted at the top, and then the order list is empty again; held: of the names, before it.
module _ {M H : Type 0} (X : Machine M H) (T : Table) where
  unfoldable pub listed_out : H → Res M → Out M H
  listed_out held (ok s strong) = obind (eeach (λ m y. emit X T 512 m y 0) (X.store.list s) s) (λ m. wrote (X.start 0 m))
  listed_out held (refused c) = stuck held c

  unfoldable pub dumped : M → ℕ → Out M H
  dumped m x = listed_out (X.held m) (order X.store 512 T m x false)
