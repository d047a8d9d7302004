-- What is remembered of alignments, as words of the work: word 15 of a type is 0, or 16 times the height of the calls of get_align_of and
-- the alignment; word 2 of void counts the visits.
use Rattle.std.specs.Prelude.{ℕ, suc, ◌+◌, ◌*◌, ◌/◌, ◌%◌, true, false, List, [], ◌∷◌, ltb, leb, eqb, Option, Some, None, Result, Ok, Err}
use Rattle.spec_bytes.specs.declared.refusal.Refusal.{Refusal}
use Rattle.spec_bytes.specs.declared.refusal.Refusal.TheVariants.{TooDeep}
use Rattle.spec_bytes.specs.Refusals.{refusal_number}
use Rattle.spec_c_dumper.specs.rules.Types.{Btf as Rules}
use Rattle.spec_c_dumper.specs.rules.Layout.{smaller, octets}
use Rattle.spec_type_table.specs.declared.types.TypeTable.{TypeTable}
use Rattle.spec_type_table.specs.declared.types.BtfType.{BtfType as Record}
use Rattle.spec_type_table.specs.declared.kind.Kind.{Kind}
use Rattle.spec_type_table.specs.declared.kind.Kind.TheVariants.{Void, Int, Ptr, Array, Struct, Union, Enum, Fwd, Typedef, Volatile}
use Rattle.spec_type_table.specs.declared.kind.Kind.TheVariants.{Const, Restrict, Func, FuncProto, Var, Datasec, Float, DeclTag, TypeTag}
use Rattle.spec_type_table.specs.declared.kind.Kind.TheVariants.{Enum64, Unknown}
use Rattle.spec_type_table.specs.Kinds.{kind_named}
use Rattle.spec_type_table.specs.Cells.{get_field, put_field}
use Rattle.spec_type_table.specs.Records.{kind_of, entries_of}
use Rattle.spec_type_table.specs.Table.{extra_word}
use Rattle.spec_c_dumper.specs.alignment_once.Once.{Remembered, Known, unknown, known, Keep, Once, found, refused, Asking, once_then, above}
use Rattle.spec_c_dumper.specs.alignment_once.Once.{widest, align_once, type_once, keep_once, member_count}
use Rattle.btf_layout.specs.declared.remembered.Seen.{Seen as Code}
use Rattle.btf_layout.specs.declared.align_of.Step.{Step}
use Rattle.btf_layout.specs.declared.align_of.Step.TheVariants.{Own, Through, Members}

-- ---- the words
unfoldable pub seen_word : ℕ → List ℕ → ℕ → ℕ
seen_word types w id = elim (ltb id types) [ true ↦ get_field w id 15 | false ↦ 0 ]

unfoldable pub decoded : ℕ → Known
decoded v = elim (eqb v 0) [ true ↦ unknown | false ↦ known (record { align = v % 16; height = v / 16 }) ]

-- 0 where it does not fit
unfoldable pub coded : Remembered → ℕ
coded s = elim (ltb 15 s.align) [ true ↦ 0 | false ↦ elim (ltb 268435454 s.height) [ true ↦ 0 | false ↦ s.height * 16 + s.align ] ]

-- a word that says something
unfoldable pub some_word : ℕ → Option ℕ
some_word v = elim (eqb v 0) [ true ↦ None | false ↦ Some v ]

-- the visits of a type with so many members; the largest number stays
unfoldable pub with_visits : ℕ → List ℕ → List ℕ
with_visits members w = put_field w 0 2 (smaller (get_field w 0 2 + members + 1) 4294967295)

unfoldable pub remembered : ℕ → ℕ → ℕ → ℕ → List ℕ → List ℕ
remembered types id v members w =
    elim (eqb v 0) [
      | true ↦ w
      | false ↦ elim (leb types id) [ true ↦ w | false ↦ put_field (with_visits members w) id 15 v ]
    ]

-- a memory in the work, beside the names
unfoldable pub work_keep : ℕ → Rules → Keep (List ℕ)
work_keep types B = record {
  recall = λ w id. decoded (seen_word types w id);
  remember = λ id s w. remembered types id (coded s) (member_count (B.type_by_id id)) w;
}

-- ---- what the code's answers say
abbrev pub seen_is : Code → Remembered
seen_is s = record { align = s.align; height = s.height }

unfoldable pub known_of : Option Code → Known
known_of (Some s) = known (seen_is s)
known_of None = unknown

abbrev pub widest_code : Code → Code → Remembered
widest_code s t = widest (seen_is s) (seen_is t)

unfoldable pub once_of : Result Code Refusal → List ℕ → Once (List ℕ) Remembered
once_of (Ok s) w = found (seen_is s) w 0
once_of (Err c) w = refused (refusal_number c) w 0

unfoldable pub height_of : Result Code Refusal → ℕ
height_of (Ok s) = s.height
height_of (Err c) = 0

unfoldable pub taken_by : Code → ℕ → Result Code Refusal
taken_by s left = elim (ltb left s.height) [ true ↦ Err TooDeep | false ↦ Ok s ]

-- the visits stand in the work
unfoldable pub forget : {M A : Type 0} → Once M A → Once M A
forget (found a m k) = found a m 0
forget (refused c m k) = refused c m 0

-- align_once in the work
unfoldable pub once_with : ℕ → Rules → ℕ → ℕ → List ℕ → Once (List ℕ) Remembered
once_with types B left id w = forget (align_once (work_keep types B) left B id w 0)

-- the same of a type of which nothing is remembered, with so many calls below it
unfoldable pub anew_with : ℕ → Rules → ℕ → ℕ → List ℕ → Once (List ℕ) Remembered
anew_with types B left id w =
    forget
    (once_then (type_once B (λ t m k. align_once (work_keep types B) left B t m k) (B.type_by_id id) w 1)
    (keep_once (work_keep types B) id))

-- members_once of the members' types alone
unfoldable pub ids_once : {M : Type 0} → (ℕ → Asking M Remembered) → Remembered → List ℕ → Asking M Remembered
ids_once ask s [] m k = found s m k
ids_once ask s (x ∷ xs) m k = once_then (ask x m (suc k)) (λ t m' k'. ids_once ask (widest s t) xs m' k')

unfoldable pub ids_with : ℕ → Rules → ℕ → Remembered → List ℕ → List ℕ → Once (List ℕ) Remembered
ids_with types B left s ids w = forget (ids_once (λ x m k. align_once (work_keep types B) left B x m k) s ids w 0)

unfoldable pub kept_with : ℕ → ℕ → ℕ → Result Code Refusal → List ℕ → Once (List ℕ) Remembered
kept_with types id members (Ok s) w = found (above (seen_is s)) (remembered types id (coded (above (seen_is s))) members w) 0
kept_with types id members (Err c) w = refused (refusal_number c) w 0

-- what get_align_of asks of a record, by its kind
unfoldable pub step_by : TypeTable → List ℕ → Record → Kind → Step
step_by b s t Void = Own 0
step_by b s t Int = Own (smaller b.ptr_sz (octets (extra_word b s t % 256)))
step_by b s t Ptr = Own b.ptr_sz
step_by b s t Array = Through (extra_word b s t)
step_by b s t Struct = Members (entries_of t)
step_by b s t Union = Members (entries_of t)
step_by b s t Enum = Own (smaller b.ptr_sz t.type_id)
step_by b s t Fwd = Own 0
step_by b s t Typedef = Through t.type_id
step_by b s t Volatile = Through t.type_id
step_by b s t Const = Through t.type_id
step_by b s t Restrict = Through t.type_id
step_by b s t Func = Own 0
step_by b s t FuncProto = Own 0
step_by b s t Var = Own 0
step_by b s t Datasec = Own 0
step_by b s t Float = Own (smaller b.ptr_sz t.type_id)
step_by b s t DeclTag = Own 0
step_by b s t TypeTag = Through t.type_id
step_by b s t Enum64 = Own (smaller b.ptr_sz t.type_id)
step_by b s t Unknown = Own 0

unfoldable pub step_at : TypeTable → List ℕ → Record → Step
step_at b s t = step_by b s t (kind_named (kind_of t.info))
