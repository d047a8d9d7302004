-- What the filled table says is so, of strings that have 16,777,216 bytes at most.
use Rattle.std.specs.Prelude.{ℕ, ◌%◌, ◌/◌, ◌<◌, ◌≤◌, ◌≡◌, List, length, get_or}
use Rattle.spec_type_table.specs.declared.types.TypeTable.{TypeTable}
use Rattle.spec_type_table.specs.Names.{str_at}
use Rattle.btf_open_causes.specs.references.Followed.{type_count, entry_at}
use Rattle.session_cut_marks.specs.declared.kept.Kept.{Kept}
use Rattle.session_cut_marks.specs.mentioned.Names.{base_of, bases_to, zero_bases, place_of}

-- the bases of all types
abbrev pub all_bases : TypeTable → List ℕ → List ℕ → List ℕ → List ℕ
all_bases b s start ids = bases_to b s start ids zero_bases (type_count b)

-- each slot that is not free has the offset of a name, and the place of every offset of this name
pub record Right (b : TypeTable) (s start ids t : List ℕ) : Type 0 where
  pub short : length s ≤ 16777216
  pub small : base_of b s start ids (type_count b) ≤ 16777216
  pub long : length t ≡ 262144
  pub places : (i : ℕ) → (get_or t i 0 ≡ 0 → ⊥) → (off : ℕ) → str_at b s off ≡ str_at b s (get_or t i 0 % 4294967296)
      → place_of b s start ids (all_bases b s start ids) off ≡ get_or t i 0 / 4294967296

-- a type that is kept, and its entry
pub record StringKept (b : TypeTable) (start ids : List ℕ) (x e : ℕ) : Type 0 where
  pub below : x < type_count b
  pub kept : get_or ids x 0 ≡ 0 → ⊥
  pub entry : e ≡ entry_at b start x

-- the two at a value of the code
abbrev pub IsRight : Kept → List ℕ → Type 0
IsRight k t = Right k.index.table.head k.index.table.section.now k.index.start.now k.ids.now t

abbrev pub IsKept : Kept → ℕ → ℕ → Type 0
IsKept k x e = StringKept k.index.table.head k.index.start.now k.ids.now x e
