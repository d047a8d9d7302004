-- A table cut down, by computation.
use mathlib.Core.Path.{◌≡◌, refl}
use mathlib.Core.List.{List, [], ◌∷◌}
use Rattle.spec_linux_btf.specs.Documentation.{member, int, ptr, array, struct, decl_tag, Described, described}
use Rattle.spec_cut.specs.section.Renumbered.{kept_to, new_id, kept_types, renamed, renamed_all}
use Rattle.spec_cut.specs.section.Test.{is_in, leads, reached_by, follows, is_reached, is_its_tag, is_kept}

-- 1 INT, 2 INT, 3 STRUCT with members of types 5 and 2, 4 ARRAY of 3, 5 PTR to 3, 6 DECL_TAG on 3, 7 DECL_TAG on 6, 8 DECL_TAG on 4
abbrev table : List Described
table =
    described 1 0 4 (int 0 8 0 0 0 0)
    ∷ described 2 0 4 (int 0 32 0 0 0 0)
    ∷ described 3 0 16 (struct (member 4 5 0 0 ∷ member 5 2 64 0 ∷ []))
    ∷ described 0 0 0 (array 0 3 1 4)
    ∷ described 0 0 3 (ptr 0)
    ∷ described 6 0 3 (decl_tag 0 1)
    ∷ described 6 0 6 (decl_tag 0 1)
    ∷ described 6 0 4 (decl_tag 0 1)
    ∷ []

-- asked for 5: the pointer, the struct, its second member's type and the struct's tag are kept; not the array, the tag of the tag, the array's tag
pointed : renamed_all (new_id (is_kept table (5 ∷ []))) (λ n. n) (kept_types (is_kept table (5 ∷ [])) 1 table) ≡ described 2 0 4 (int 0 32 0 0 0 0)
    ∷ described 3 0 16 (struct (member 4 3 0 0 ∷ member 5 1 64 0 ∷ []))
    ∷ described 0 0 2 (ptr 0)
    ∷ described 6 0 2 (decl_tag 0 1)
    ∷ []
unfolding kept_to new_id kept_types renamed is_in leads reached_by follows is_reached is_its_tag is_kept
pointed = refl

-- asked for 4: the array and its tag too; the index type, which is not followed, becomes 0
in_array : renamed_all (new_id (is_kept table (4 ∷ []))) (λ n. n) (kept_types (is_kept table (4 ∷ [])) 1 table) ≡ described 2 0 4 (int 0 32 0 0 0 0)
    ∷ described 3 0 16 (struct (member 4 4 0 0 ∷ member 5 1 64 0 ∷ []))
    ∷ described 0 0 0 (array 0 2 0 4)
    ∷ described 0 0 2 (ptr 0)
    ∷ described 6 0 2 (decl_tag 0 1)
    ∷ described 6 0 3 (decl_tag 0 1)
    ∷ []
unfolding kept_to new_id kept_types renamed is_in leads reached_by follows is_reached is_its_tag is_kept
in_array = refl
