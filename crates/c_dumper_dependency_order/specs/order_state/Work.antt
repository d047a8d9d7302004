-- Ordering in the lent work: the marks stand in word 1 of the types, the order list in their words 11.
use Rattle.std.specs.Prelude.{ℕ, Bool, true, false, List, eqb}
use Rattle.spec_bytes.specs.declared.refusal.Refusal.{Refusal}
use Rattle.spec_c_dumper.specs.rules.Order.{Table, Mark, new, busy, done, Store}
use Rattle.spec_c_dumper.specs.rules.Types.{table_of}
use Rattle.spec_type_table.specs.declared.types.TypeTable.{TypeTable}
use Rattle.spec_type_table.specs.Cells.{get_field, put_field}
use Rattle.spec_bytes.specs.words.Words.{one_more}
use Rattle.spec_type_table.specs.Table.{from, btf_of}
use Rattle.c_dumper_dependency_order.specs.declared.order_state.Order.{Order}
use Rattle.c_dumper_dependency_order.specs.declared.order_state.Halted.{Halted}
use Rattle.c_dumper_dependency_order.specs.declared.order_state.Mark.{Mark as Code}
use Rattle.c_dumper_dependency_order.specs.declared.order_state.Mark.TheVariants.{New, Open, Done}

-- the work, and how many places of the order list are taken
pub record Marks : Type 0 where
  pub work : List ℕ
  pub len : ℕ

-- an order state: 2 ordered, 1 in progress
unfoldable pub mark_of : ℕ → Mark
mark_of state = elim (eqb state 2) [ true ↦ done | false ↦ elim (eqb state 1) [ true ↦ busy | false ↦ new ] ]

abbrev pub code : Mark → ℕ
code new = 0
code busy = 1
code done = 2

-- what the code's mark says
abbrev pub mark_is : Code → Mark
mark_is New = new
mark_is Open = busy
mark_is Done = done

-- the list is words 11 of the first cells; its length stays at the largest number of 32 bits
unfoldable pub work_store : Store Marks
work_store = record {
  get = λ m x. mark_of (get_field m.work x 1);
  mark = λ k x m. record { work = put_field m.work x 1 (code k); len = m.len };
  push = λ x m. record { work = put_field m.work m.len 11 x; len = one_more m.len };
  list = λ m. from (λ k. get_field m.work k 11) 0 m.len;
}

-- the table that a section and the work spell, as ordering sees it
abbrev pub table_in : TypeTable → List ℕ → List ℕ → Table
table_in b s w = table_of (btf_of b s w)

abbrev pub strong_of : Order → Bool → Order
strong_of o s = record { made = o.made; len = o.len; is_strong = s }

abbrev pub refused_by : Order → Refusal → Halted
refused_by o c = record { refusal = c; made = o.made }
