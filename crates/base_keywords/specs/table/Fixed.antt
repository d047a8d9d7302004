-- The fixed words of the text, in one table.
use Rattle.std.specs.Prelude.{ℕ, suc, Bool, true, false, List, [], ◌∷◌, ◌++◌, eqb, take, drop}
use Rattle.spec_bytes.specs.text.Text.{ascii}
use Rattle.spec_bytes.specs.text.Placed.{place}

-- n bytes of a table, those from a place on
abbrev pub part : List ℕ → ℕ → ℕ → List ℕ
part s start n = take n (drop start s)

-- t with such a part in it from `at` on
unfoldable pub copied : List ℕ → ℕ → List ℕ → ℕ → ℕ → List ℕ
copied t at s start n = place t at (part s start n)

-- "store each fixed word of the text once, in one table of at most 512 bytes, and assemble the lines from it"
abbrev pub table : List ℕ
table =
    ascii "struct /*union*/"
    ++ ascii "enum"
    ++ ascii "typedef"
    ++ ascii "void"
    ++ ascii "volatile"
    ++ ascii "const"
    ++ ascii "restrict"
    ++ ascii "long"
    ++ ascii "int"
    ++ ascii "short"
    ++ ascii "char"
    ++ ascii " __attribute__(("
    ++ ascii "packed"
    ++ ascii "btf_decl_tag"
    ++ ascii "btf_type_tag"
    ++ ascii "ULL"
    ++ ascii " - 1)"
    ++ ascii "___"
    ++ ascii "..."

-- whether s starts with w
unfoldable pub starts : List ℕ → List ℕ → Bool
starts [] s = true
starts (a ∷ w) [] = false
starts (a ∷ w) (b ∷ s) = elim (eqb a b) [ true ↦ starts w s | false ↦ false ]

-- the words that lines are assembled from
abbrev pub fixed_words : List (List ℕ)
fixed_words =
    ascii "struct" ∷ ascii "union" ∷ ascii "struct /*union*/" ∷ ascii "enum" ∷ ascii "typedef" ∷ ascii "void"
    ∷ ascii "volatile" ∷ ascii "const" ∷ ascii "restrict" ∷ ascii "long" ∷ ascii "int" ∷ ascii "short" ∷ ascii "char"
    ∷ ascii " __attribute__((" ∷ ascii "packed" ∷ ascii "btf_decl_tag" ∷ ascii "btf_type_tag" ∷ ascii "ULL" ∷ ascii "LL"
    ∷ ascii " - 1)" ∷ ascii "___" ∷ ascii "..." ∷ []

-- how often w stands in s
unfoldable pub occurrences : List ℕ → List ℕ → ℕ
occurrences w [] = 0
occurrences w (b ∷ s) = elim (starts w (b ∷ s)) [ true ↦ suc (occurrences w s) | false ↦ occurrences w s ]

-- the words of the two kinds of tags
abbrev pub tag_name : Bool → List ℕ
tag_name is_decl = elim is_decl [ true ↦ ascii "btf_decl_tag" | false ↦ ascii "btf_type_tag" ]
