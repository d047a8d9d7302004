-- The lists of taken numbers that opening makes in the mode of names that cannot collide: a name that is another one of its space with
-- three underscores and a number takes that number from it.
use Rattle.std.specs.Prelude.{ℕ, zero, suc, ◌+◌, ◌-◌, ◌*◌, ◌/◌, ◌%◌, Bool, true, false, ◌&&◌, List, [], ◌∷◌, ltb, leb, eqb}
use Rattle.spec_bytes.specs.words.Words.{get_word, put_word, pick}
use Rattle.spec_type_table.specs.declared.types.TypeTable.{TypeTable}
use Rattle.spec_type_table.specs.Cells.{class_p}
use Rattle.spec_type_table.specs.Numbers.{head_p, next_p, taken_p}
use Rattle.btf_open_names.specs.name_classes.Classes.{key_in}

-- ---- suffixes

-- the number so far with one more digit; 0 where the byte is no digit, or the number would begin with a zero or pass 32 bits
unfoldable pub digit_after : ℕ → ℕ → ℕ
digit_after acc x = pick (leb 48 x && leb x 57 && leb (acc * 10 + (x - 48)) 4294967295) (acc * 10 + (x - 48)) 0

unfoldable pub numeral_from : ℕ → List ℕ → ℕ
numeral_from acc [] = acc
numeral_from acc (x ∷ l) = elim (digit_after acc x) [ zero ↦ 0 | suc v ↦ numeral_from (suc v) l ]

-- the number that is written in decimal, or 0
abbrev pub numeral : List ℕ → ℕ
numeral l = numeral_from 0 l

unfoldable pub after_underscores : ℕ → List ℕ → ℕ
after_underscores zero l = numeral l
after_underscores (suc n) [] = 0
after_underscores (suc n) (x ∷ l) = elim (eqb x 95) [ true ↦ after_underscores n l | false ↦ 0 ]

-- the number after three underscores, or 0
abbrev pub suffix_in : List ℕ → ℕ
suffix_in l = after_underscores 3 l

-- the number with which y is x, three underscores and a number; or 0
unfoldable pub suffix_on : List ℕ → List ℕ → ℕ
suffix_on [] y = suffix_in y
suffix_on (a ∷ x) [] = 0
suffix_on (a ∷ x) (b ∷ y) = elim (eqb a b) [ true ↦ suffix_on x y | false ↦ 0 ]

-- whether a name ends in three underscores and a number from 2 on
unfoldable pub any_suffix : List ℕ → Bool
any_suffix [] = false
any_suffix (x ∷ l) = elim (leb 2 (suffix_in (x ∷ l))) [ true ↦ true | false ↦ any_suffix l ]

-- ---- holders: `key` gives the space and the name of each

abbrev pub name_in : List ℕ → List ℕ
name_in [] = []
name_in (space ∷ name) = name

-- the first of the f holders from c on whose name, with a suffix, is that of h; or 0
unfoldable pub base_from : (ℕ → List ℕ) → ℕ → ℕ → ℕ → ℕ
base_from key h zero c = 0
base_from key h (suc f) c = elim (leb 2 (suffix_on (key c) (key h))) [ true ↦ c | false ↦ base_from key h f (suc c) ]

-- h in front of the list of c, which has its first holder at c; with the number that its name takes
unfoldable pub listed_on : ℕ → ℕ → ℕ → ℕ → List ℕ → List ℕ
listed_on types c h m w =
    put_word (put_word (put_word w (next_p types h) (get_word w (head_p types c))) (taken_p types h) m) (head_p types c) h

module _ (b : TypeTable) (s : List ℕ) (n : ℕ) where
  -- on the list of c, or of none where c is 0
  unfoldable pub on_base : ℕ → List ℕ → ℕ → List ℕ
  on_base h w zero = w
  on_base h w (suc c) = listed_on b.types (suc c) h (suffix_on (key_in b s w (suc c)) (key_in b s w h)) w

  -- the first holder h of its name is put on the list of the first holder of the name that it is with a suffix, if there is one
  unfoldable pub taker_put : ℕ → List ℕ → List ℕ
  taker_put h w =
      elim (eqb (get_word w (class_p b.types h)) h) [
        | true ↦ elim (any_suffix (name_in (key_in b s w h))) [
          | true ↦ on_base h w (base_from (key_in b s w) h (n - 1) 1)
          | false ↦ w
        ]
        | false ↦ w
      ]

  -- holders k down to 1, so that the holders on a list stand in rising order
  unfoldable pub takers_put : ℕ → List ℕ → List ℕ
  takers_put zero w = w
  takers_put (suc k) w = takers_put k (taker_put (suc k) w)

-- all of them, where they can be numbered
unfoldable pub with_takers : TypeTable → ℕ → List ℕ → List ℕ → List ℕ
with_takers b enumerators s w =
    elim (ltb (4294967295 - b.types) enumerators) [
      | true ↦ w
      | false ↦ takers_put b s (b.types + enumerators) (b.types + enumerators - 1) w
    ]

-- bit 3 of the modes at opening: names that cannot collide
unfoldable pub takers_in : ℕ → TypeTable → ℕ → List ℕ → List ℕ → List ℕ
takers_in modes b enumerators s w = elim (eqb (modes / 8 % 2) 1) [ true ↦ with_takers b enumerators s w | false ↦ w ]
