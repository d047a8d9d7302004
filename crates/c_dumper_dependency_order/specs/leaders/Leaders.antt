-- Ordering in the lent work, which notes a leader for each listed id beside it: without the leaders it is `order_within` over the work
-- (proofs/leaders/Maps); with them, and without a ceiling, it is `order_with_leaders` of the definitions, with two numbers for what is
-- being ordered and words for the leaders (c_dumper_emit, proofs/dump_type/Leaders).
use Rattle.std.specs.Prelude.{ℕ, zero, suc, ◌+◌, ◌*◌, ◌/◌, ◌%◌, Bool, true, false, not, ◌&&◌, ◌||◌, eqb, Result, Ok, Err}
use Rattle.std.specs.Prelude.{List, map, get_or, set}
use Rattle.spec_bytes.specs.Refusals.{refusal_number}
use Rattle.spec_c_dumper.specs.rules.Order.{Table, is_done, Store}
use Rattle.spec_c_dumper.specs.ceiling.Ceiling.{Limit, allows, one_call, Told, told, halted}
use Rattle.spec_c_dumper.specs.ceiling.Ceiling.{alias_within, enter_within, fresh_within, visit_within}
use Rattle.c_dumper_dependency_order.specs.declared.order_state.Order.{Order}
use Rattle.c_dumper_dependency_order.specs.declared.order_state.Halted.{Halted}
use Rattle.c_dumper_dependency_order.specs.order_state.Work.{Marks, work_store}
use Rattle.spec_c_dumper.specs.origins.Causes.{is_around, entry, Entry}
use Rattle.c_dumper_dependency_order.specs.declared.leaders.Way.{Way}
use Rattle.c_dumper_dependency_order.specs.declared.leaders.Leader.{Leader}

-- ---- what is being ordered around a call

-- the innermost other of it: the innermost, or, for that one itself, its own leader
unfoldable pub leader_on_way : Way → ℕ → ℕ
leader_on_way v x = elim (eqb v.inner x) [ true ↦ v.lead | false ↦ v.inner ]

abbrev pub inside_of : Way → ℕ → Way
inside_of v x = record { inner = x; lead = leader_on_way v x; turn = v.turn }

-- what is being ordered while x is, which is a composite or a typedef if the flag says so
abbrev pub way_for : Bool → Way → ℕ → Way
way_for true v x = inside_of v x
way_for false v x = v

-- ---- the leaders: a word for each id, with the request that noted it and the leader

-- a leader of the code as one number
unfoldable pub leader_word : Leader → ℕ
leader_word v = v.turn * 4294967296 + v.lead

unfoldable pub leader_words : List Leader → List ℕ
leader_words = map leader_word

unfoldable pub word_at : List ℕ → ℕ → ℕ
word_at l x = get_or l x 0

-- whether request `turn` has noted x
unfoldable pub has_leader : ℕ → List ℕ → ℕ → Bool
has_leader turn l x = eqb (word_at l x / 4294967296) turn

-- "led to by [..] at its first listing": a later one changes nothing; past the words nothing is kept
unfoldable pub note_in : Way → List ℕ → ℕ → List ℕ
note_in v l x = elim (has_leader v.turn l x) [ true ↦ l | false ↦ set l x (v.turn * 4294967296 + leader_on_way v x) ]

-- the leader of x in the request for req: what was noted, or req
unfoldable pub leader_in : ℕ → ℕ → List ℕ → ℕ → ℕ
leader_in req turn l x = elim (has_leader turn l x) [ true ↦ word_at l x % 4294967296 | false ↦ req ]

-- "The requested id leads to itself; a needed line is any other listed id"
unfoldable pub entry_in : ℕ → ℕ → List ℕ → ℕ → Entry
entry_in req turn l x = elim (eqb x req) [ true ↦ entry x 0 x | false ↦ entry x 1 (leader_in req turn l x) ]

-- ---- ordering

-- the work with its order list, and the leaders
pub record MarksAndLeaders : Type 0 where
  pub marks : Marks
  pub leaders : List ℕ

unfoldable pub kept_store : Way → Store MarksAndLeaders
kept_store v = record {
  get = λ s x. work_store.get s.marks x;
  mark = λ m x s. record { marks = work_store.mark m x s.marks; leaders = s.leaders };
  push = λ x s. record { marks = work_store.push x s.marks; leaders = note_in v s.leaders x };
  list = λ s. work_store.list s.marks;
}

-- the rule under a ceiling, of which k calls are made
unfoldable pub order_kept : Limit → Way → ℕ → Table → MarksAndLeaders → ℕ → Bool → ℕ → Told MarksAndLeaders
order_kept c v zero T s x weak k = halted 12 k
order_kept c v (suc n) T s x weak k = elim (allows c k) [
  | true ↦ visit_within (kept_store v) T (λ s' y w k'. order_kept c (way_for (is_around (T.node x)) v x) n T s' y w k') s x weak
      (work_store.get s.marks x) (one_call c k)
  | false ↦ halted 22 k
]

-- the work with its order list, and the leaders, at that moment
abbrev pub kept_of : Order → List ℕ → List ℕ → MarksAndLeaders
kept_of o w l = record { marks = record { work = w; len = o.len }; leaders = l }

-- what the code's answer says, with work and leaders at that moment: after a refusal nothing is said of them; the calls made are told in
-- either case
unfoldable pub kept_out : Result Order Halted → List ℕ → List ℕ → Told MarksAndLeaders
kept_out (Ok o) w l = told (kept_of o w l) o.is_strong o.made
kept_out (Err h) w l = halted (refusal_number h.refusal) h.made

-- The clauses of the rules over this store, after k calls: a typedef after its target, the way to an id, a composite, and an id that is not
-- ordered yet.
unfoldable pub alias_kept : Way → MarksAndLeaders → ℕ → Bool → Bool → ℕ → Told MarksAndLeaders
alias_kept v m x weak strong k = alias_within (kept_store v) (not weak || strong) (is_done (work_store.get m.marks x)) m x k

module _ (c : Limit) (v : Way) (T : Table) (left : ℕ) where
  unfoldable pub way_kept : Bool → MarksAndLeaders → ℕ → ℕ → Told MarksAndLeaders
  way_kept weak m x k = order_kept c v left T m x weak k

  unfoldable pub fresh_kept : MarksAndLeaders → ℕ → Bool → ℕ → Told MarksAndLeaders
  fresh_kept m x weak k =
      fresh_within (kept_store v) T (λ m' y w k'. order_kept c (way_for (is_around (T.node x)) v x) left T m' y w k') m x weak (T.node x) k

-- v: around the composite x
unfoldable pub enter_kept : Limit → Way → Table → ℕ → MarksAndLeaders → ℕ → Bool → Bool → List ℕ → ℕ → Told MarksAndLeaders
enter_kept c v T left m x weak named members k =
    enter_within (kept_store v) (weak && named) (way_kept c (inside_of v x) T left false) m x named members k
