-- "Cause, tested in this order at opening": causes 1 to 9 of document 01, each true where it holds.
use Rattle.std.specs.Prelude.{ℕ, zero, suc, ◌+◌, ◌*◌, Bool, true, false, ◌&&◌, not, List, [], ◌∷◌, length, ltb, eqb, Result, Ok, Err}
use Rattle.spec_bytes.specs.declared.refusal.Refusal.{Refusal}
use Rattle.spec_bytes.specs.Refusals.{refusal_number}
use Rattle.spec_linux_btf.specs.Section.{string_area, header_sound, strings_sound, types_sound}
use Rattle.spec_type_table.specs.declared.types.TypeTable.{TypeTable}
use Rattle.btf_open_causes.specs.references.References.{has_bad_reference}
use Rattle.btf_open_causes.specs.prototypes.Prototypes.{any_leads}
use Rattle.btf_open_causes.specs.loops.Graph.{has_loop}
use Rattle.btf_open_causes.specs.loops.Loops.{graph_of}
use Rattle.btf_open_causes.specs.header.Header.{btf_of}
use Rattle.spec_opening.specs.Table.{types_of, enumerators_of, index_of}

-- "pointer size not 4 or 8"
unfoldable pub cause1 : ℕ → Bool
cause1 pointer = not (eqb pointer 4) && not (eqb pointer 8)

-- "section over 16,777,216 bytes"
unfoldable pub cause2 : List ℕ → Bool
cause2 s = ltb 16777216 (length s)

-- "under 24 bytes, magic, version, header length under 24 or past the end, an area past the end"
unfoldable pub cause3 : List ℕ → Bool
cause3 s = not (header_sound s)

-- "string area empty, not starting or ending in 0, or a byte over 127"
unfoldable pub cause4 : List ℕ → Bool
cause4 s = not (strings_sound (string_area s))

-- "kind 0 or over 19, info bits 16-23, 29 or 30 set, record past its area, name offset outside, more than 262,144 records"
unfoldable pub cause5 : List ℕ → Bool
cause5 s = not (types_sound s)

-- the table that causes 6, 7 and 8 speak of: the count is the section's
unfoldable pub table_of : ℕ → List ℕ → TypeTable
table_of pointer s = btf_of s pointer 0 (types_of s)

-- "a followed id not below the count, or of kind 12, 14, 15, 17"
unfoldable pub cause6 : ℕ → List ℕ → Bool
cause6 pointer s = has_bad_reference (table_of pointer s) s (index_of s)

-- "a member or array element that is a prototype, through typedefs, qualifiers, type tags, arrays"
unfoldable pub cause7 : ℕ → List ℕ → Bool
cause7 pointer s = any_leads (table_of pointer s) s (index_of s)

-- "a loop of pointers, arrays, qualifiers, type tags, typedefs, prototypes only"
unfoldable pub cause8 : ℕ → List ℕ → Bool
cause8 pointer s = has_loop (graph_of (table_of pointer s) s (index_of s))

-- "work words short": "16 a type, void counted, 8 an enumerator, and 4,096 more", "four lent bytes each"
unfoldable pub cause9 : List ℕ → ℕ → Bool
cause9 s work = ltb work (4 * (16 * types_of s + 8 * enumerators_of s + 4096))

-- the number of the first that holds, counted from 1; 0 where none does
abbrev pub next : ℕ → ℕ
next zero = zero
next (suc n) = suc (suc n)

unfoldable pub first_of : List Bool → ℕ
first_of [] = 0
first_of (true ∷ l) = 1
first_of (false ∷ l) = next (first_of l)

-- causes 2 to 6: what the section alone decides before its types are followed
abbrev pub two_to_six : ℕ → List ℕ → List Bool
two_to_six pointer s = cause2 s ∷ cause3 s ∷ cause4 s ∷ cause5 s ∷ cause6 pointer s ∷ []

-- all nine, in their order; the last argument is the length of the work in bytes
abbrev pub causes : ℕ → List ℕ → ℕ → List Bool
causes pointer s work =
    cause1 pointer ∷ cause2 s ∷ cause3 s ∷ cause4 s ∷ cause5 s ∷ cause6 pointer s ∷ cause7 pointer s ∷ cause8 pointer s ∷ cause9 s work ∷ []

-- the number of the opening: 0 where no cause holds
unfoldable pub opening_number : ℕ → List ℕ → ℕ → ℕ
opening_number pointer s work = first_of (causes pointer s work)

-- the number of the cause that was found, and 0 where none was
abbrev pub cause_number : Result (Unit {0}) Refusal → ℕ
cause_number (Ok u) = 0
cause_number (Err r) = refusal_number r
