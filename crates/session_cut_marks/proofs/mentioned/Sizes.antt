-- What is measured is what is written: the length of the strings. Assumes nothing.
use Prim.Native.Nat.{ℕ, zero, suc, ◌+◌}
use native.Mathlib.Omega.{arith}
use mathlib.Core.Path.{◌≡◌, refl, ◌∙◌}
use mathlib.Core.Bool.{Bool, true, false}
use mathlib.Core.List.{List, [], ◌∷◌, ◌++◌}
use lib.ListN.{length, get_or, length-append}
use lib.Dec.{eqb}
use Rattle.spec_type_table.specs.declared.types.TypeTable.{TypeTable}
use Rattle.spec_type_table.specs.Names.{str_at}
use Rattle.btf_open_causes.specs.references.Followed.{entry_at}
use Rattle.session_cut_marks.specs.roles.Words.{words_in, word_of}
use Rattle.session_cut_marks.specs.mentioned.Names.{is_new, new_size, new_sizes, record_size, base_of}
use Rattle.session_cut_marks.specs.mentioned.Strings.{name_bytes, names_bytes, own_bytes, news_bytes, strings_bytes}

pub longer : (a c : List ℕ) (k n : ℕ) → length a ≡ k → length c ≡ n → length (a ++ c) ≡ k + n
longer a c k n e f = length-append a c ∙ (λ i. e i + f i)

module _ (b : TypeTable) (s start ids : List ℕ) where
  pub name_length : (x e j : ℕ) → length (name_bytes b s start ids x e j) ≡ new_size b s start ids x e j
  unfolding name_bytes new_size
  name_length x e j = go (is_new b s start ids x e j)
    where
      go : (q : Bool) → length {A = ℕ} (elim q as (λ z. List ℕ) [ true ↦ str_at b s (word_of b s e j) ++ (0 ∷ []) | false ↦ [] ]) ≡ elim q as (λ z. ℕ) [ true ↦ length (str_at b s (word_of b s e j)) + 1 | false ↦ 0 ]
      go true = length-append (str_at b s (word_of b s e j)) (0 ∷ [])
      go false = refl

  names_length : (x e n : ℕ) → length (names_bytes b s start ids x e n) ≡ new_sizes b s start ids x e n
  unfolding names_bytes new_sizes
  names_length x e zero = refl
  names_length x e (suc n) = longer (names_bytes b s start ids x e n) (name_bytes b s start ids x e n) _ _ (names_length x e n) (name_length x e n)

  own_length : (x : ℕ) → length (own_bytes b s start ids x) ≡ record_size b s start ids x
  unfolding own_bytes record_size
  own_length x = go (eqb (get_or ids x 0) 0)
    where
      go : (q : Bool) → length {A = ℕ} (elim q as (λ z. List ℕ) [ true ↦ [] | false ↦ names_bytes b s start ids x (entry_at b start x) (words_in b s (entry_at b start x)) ])
          ≡ elim q as (λ z. ℕ) [ true ↦ 0 | false ↦ new_sizes b s start ids x (entry_at b start x) (words_in b s (entry_at b start x)) ]
      go true = refl
      go false = names_length x (entry_at b start x) (words_in b s (entry_at b start x))

  news_length : (x : ℕ) → 1 + length (news_bytes b s start ids x) ≡ base_of b s start ids x
  unfolding news_bytes base_of
  news_length zero = refl
  news_length (suc x) =
      let e : length (news_bytes b s start ids x ++ own_bytes b s start ids x) ≡ length (news_bytes b s start ids x) + length (own_bytes b s start ids x) = length-append (news_bytes b s start ids x) (own_bytes b s start ids x) in
      let f : length (own_bytes b s start ids x) ≡ record_size b s start ids x = own_length x in
      omega (arith, e, f, news_length x)

  -- the length of the strings
  pub strings_length : (x : ℕ) → length (strings_bytes b s start ids x) ≡ base_of b s start ids x
  unfolding strings_bytes
  strings_length x = length-append (0 ∷ []) (news_bytes b s start ids x) ∙ news_length x
