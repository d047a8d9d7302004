-- What ghost fields owe of `Right` and `StringKept`: two proofs of either are the same. Assumes nothing.
use mathlib.Core.HLevel.{⊥_prop}
use Rattle.std.specs.Prelude.{ℕ, ◌/◌, List, length, get_or}
use Rattle.std.specs.Coded.{le_prop, Coded-set, coded_ℕ}
use Rattle.spec_type_table.specs.declared.types.TypeTable.{TypeTable}
use Rattle.btf_open_causes.specs.references.Followed.{entry_at}
use Rattle.session_cut_marks.specs.declared.kept.Kept.{Kept}
use Rattle.session_cut_marks.specs.mentioned.Names.{place_of}
use Rattle.session_cut_marks.specs.interned.Right.{all_bases, Right, StringKept, IsRight, IsKept}

pub Right-prop : (b : TypeTable) (s start ids t : List ℕ) → IsProp (Right b s start ids t)
Right-prop b s start ids t p q i = record {
  short = le_prop p.short q.short i;
  small = le_prop p.small q.small i;
  long = Coded-set coded_ℕ (length t) 262144 p.long q.long i;
  places =
      λ k n off e.
      Coded-set coded_ℕ (place_of b s start ids (all_bases b s start ids) off) (get_or t k 0 / 4294967296)
      (p.places k n off e) (q.places k n off e) i;
}

pub StringKept-prop : (b : TypeTable) (start ids : List ℕ) (x e : ℕ) → IsProp (StringKept b start ids x e)
StringKept-prop b start ids x e p q i = record {
  below = le_prop p.below q.below i;
  kept = λ z. ⊥_prop (p.kept z) (q.kept z) i;
  entry = Coded-set coded_ℕ e (entry_at b start x) p.entry q.entry i;
}

-- the two at a value of the code
abbrev pub IsRight-prop : (k : Kept) (t : List ℕ) → IsProp (IsRight k t)
IsRight-prop k t = Right-prop k.index.table.head k.index.table.section.now k.index.start.now k.ids.now t

abbrev pub IsKept-prop : (k : Kept) (x e : ℕ) → IsProp (IsKept k x e)
IsKept-prop k x e = StringKept-prop k.index.table.head k.index.start.now k.ids.now x e
