-- How a call of ordering starts: what the ceiling says to it, and what comes of an id in progress.
use Rattle.std.specs.Prelude.{ℕ, Bool, true, false, not, ◌&&◌, List, eqb, Option, Some, None, Result, Ok, Err}
use Rattle.spec_bytes.specs.declared.refusal.Refusal.TheVariants.{Cycle, CeilingPassed}
use Rattle.spec_c_dumper.specs.rules.Order.{Table, is_comp, is_done}
use Rattle.spec_c_dumper.specs.ceiling.Ceiling.{Limit, unbounded, most, allows, one_call}
use Rattle.spec_type_table.specs.Cells.{get_field}
use Rattle.c_dumper_dependency_order.specs.declared.order_state.Order.{Order}
use Rattle.c_dumper_dependency_order.specs.declared.order_state.Halted.{Halted}
use Rattle.c_dumper_dependency_order.specs.order_state.Work.{mark_of, strong_of, refused_by}

-- the ceiling of a request, or none
abbrev pub limit_of : Option ℕ → Limit
limit_of None = unbounded
limit_of (Some calls) = most calls

abbrev pub with_made : Order → ℕ → Order
with_made o k = record { made = k; len = o.len; is_strong = o.is_strong }

-- one more call, counted; or "22 when one more call would pass the ceiling"
unfoldable pub opened_by : Limit → Order → Result Order Halted
opened_by c o = elim (allows c o.made) [ true ↦ Ok (with_made o (one_call c o.made)) | false ↦ Err (refused_by o CeilingPassed) ]

-- whether a call would find x ordered: it is neither too deep nor past the ceiling, and the state says so
unfoldable pub is_known : Option ℕ → ℕ → Order → List ℕ → ℕ → Bool
is_known ceiling left o w x =
    not (eqb left 0) && (allows (limit_of ceiling) o.made && is_done (mark_of (get_field w x 1)))

-- an id in progress that may be passed over
unfoldable pub is_passable : Table → ℕ → Bool → Bool
is_passable T x weak = is_comp (T.node x) && (weak && T.named x)

-- what meeting one in progress comes to: "named and weak is passed over; otherwise a cycle"
unfoldable pub met_by : Bool → Order → Result Order Halted
met_by true o = Ok (strong_of o false)
met_by false o = Err (refused_by o Cycle)
