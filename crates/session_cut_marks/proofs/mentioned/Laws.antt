-- A law for each return of the code, and for each loop its start, its turn and its end. Assumes nothing.
use Prim.Native.Nat.{ℕ, zero, suc, ◌+◌, ◌%◌, ◌≤◌}
use native.Mathlib.Omega.{arith}
use mathlib.Core.Path.{◌≡◌, refl, sym, ◌∙◌, ap}
use mathlib.Core.Bool.{Bool, true, false, cond, not, ◌||◌, or-false, or_assoc}
use mathlib.Core.List.{List, [], ◌∷◌}
use lib.ListN.{length, get_or, drop, length-drop}
use lib.Dec.{eqb}
use lib.Pointwise.{pointwise}
use Rattle.std.specs.List.{list_any, find, range_with_len}
use Rattle.std.specs.Option.{option_map}
use Rattle.std.proofs.lemmas.Iterator.Adapters.{option_map_id}
use Rattle.std.proofs.Common.{Option, Some, None}
use borrow.Author.Tests.{eq-eqb, ne_eqb}
use Rattle.spec_c_dumper.specs.rules.Types.{is_empty}
use Rattle.spec_c_dumper.specs.rules.Names.{same_bytes}
use Rattle.spec_c_dumper.proofs.rules.Names.{bytes_self, compared}
use Rattle.spec_type_table.specs.declared.types.TypeTable.{TypeTable}
use Rattle.spec_type_table.specs.Names.{up_to_zero, name_at, str_at}
use Rattle.btf_open_causes.specs.references.Followed.{entry_at}
use Rattle.session_cut_marks.specs.roles.Words.{role, words_in, word_of}
use Rattle.session_cut_marks.specs.mentioned.Names.{is_name, or_name, named_to, first_from, first_name, mentions, or_mentions, mentioned_to, is_new}

or_is : (p q : Bool) → (p || q) ≡ elim p as (λ z. Bool) [ true ↦ true | false ↦ q ]
or_is true q = refl
or_is false q = refl

-- ---- bytes of names
up_to_short : (l : List ℕ) → length (up_to_zero l) ≤ length l
unfolding up_to_zero
up_to_short [] = omega arith
up_to_short (zero ∷ l) = omega arith
up_to_short (suc x ∷ l) = omega (arith, up_to_short l)

-- ---- tests of a range, of which the last comes last
any_last : (test : ℕ → Bool) (a n : ℕ) → list_any test (range_with_len a (suc n)) ≡ (list_any test (range_with_len a n) || test (a + n))
any_last test a zero = let z : a ≡ a + 0 = omega arith in or-false (test a) ∙ ap test z
any_last test a (suc n) =
    let z : a + 1 + n ≡ a + suc n = omega arith in
    ap (λ (q : Bool). test a || q) (any_last test (a + 1) n ∙ ap (λ (k : ℕ). list_any test (range_with_len (a + 1) n) || test k) z)
    ∙ sym (or_assoc (test a) (list_any test (range_with_len (a + 1) n)) (test (a + suc n)))

any_from_0 : (test : ℕ → Bool) (n : ℕ) → list_any test (range_with_len 0 (suc n)) ≡ (list_any test (range_with_len 0 n) || test n)
any_from_0 test n = let z : 0 + n ≡ n = omega arith in any_last test 0 n ∙ ap (λ (k : ℕ). list_any test (range_with_len 0 n) || test k) z

module _ (b : TypeTable) (s : List ℕ) where
  pub name_short : (off : ℕ) → length (str_at b s off) ≤ length s
  unfolding name_at
  name_short off = omega (arith, up_to_short (drop (b.strs + off) s), length-drop (b.strs + off) s)

  pub one_name : (p q : ℕ) → p ≡ q → true ≡ same_bytes (str_at b s p) (str_at b s q)
  one_name p q e = sym (bytes_self (str_at b s p)) ∙ ap (λ (k : ℕ). same_bytes (str_at b s p) (str_at b s k)) e

  pub two_names : (p q : ℕ) (a c : List ℕ) (r : Bool) → a ≡ str_at b s p → c ≡ str_at b s q → r ≡ pointwise eqb a c → r ≡ same_bytes (str_at b s p) (str_at b s q)
  two_names p q a c r e f g = g ∙ compared a c ∙ (λ i. same_bytes (e i) (f i))

  module _ (e off j v : ℕ) (k : v ≡ role (e % 32) j) where
    pub no_name : (v ≡ 1 → ⊥) → false ≡ is_name b s e off j
    unfolding is_name
    no_name n = rw (ne_eqb (role (e % 32) j) 1 (λ z. n (k ∙ z)), is_name)

    pub name_is : v ≡ 1 → (w : ℕ) → w ≡ word_of b s e j → (r : Bool) → r ≡ same_bytes (str_at b s w) (str_at b s off) → r ≡ is_name b s e off j
    unfolding is_name
    name_is z w f r g = g ∙ ap (λ (u : ℕ). same_bytes (str_at b s u) (str_at b s off)) f ∙ rw (eq-eqb (role (e % 32) j) 1 (sym k ∙ z), is_name)

  pub any_named : (e off n : ℕ) → list_any (is_name b s e off) (range_with_len 0 n) ≡ named_to b s e off n
  unfolding named_to or_name
  any_named e off zero = refl
  any_named e off (suc n) = any_from_0 (is_name b s e off) n ∙ ap (λ (q : Bool). q || is_name b s e off n) (any_named e off n) ∙ or_is (named_to b s e off n) (is_name b s e off n)

  -- the first word with a name
  -- the first of the words from j on, one more than n
  more_range : (e off j n : ℕ) → find (is_name b s e off) (range_with_len (j + 1) n)
      ≡ elim (list_any (is_name b s e off) (range_with_len (j + 1) n)) as (λ z. Option ℕ) [ true ↦ Some (first_from b s e off (j + 1) n) | false ↦ None ]
      → find (is_name b s e off) (range_with_len j (suc n))
      ≡ elim (list_any (is_name b s e off) (range_with_len j (suc n))) as (λ z. Option ℕ) [ true ↦ Some (first_from b s e off j (suc n)) | false ↦ None ]
  unfolding first_from
  more_range e off j n h = go (is_name b s e off j)
    where
      w : j + 1 ≡ suc j
      w = omega arith

      go : (q : Bool) → cond q (Some j) (find (is_name b s e off) (range_with_len (j + 1) n))
          ≡ elim (q || list_any (is_name b s e off) (range_with_len (j + 1) n)) as (λ z. Option ℕ) [ true ↦ Some (elim q as (λ z. ℕ) [ true ↦ j | false ↦ first_from b s e off (suc j) n ]) | false ↦ None ]
      go true = refl
      go false = h ∙ ap (λ (k : ℕ). elim (list_any (is_name b s e off) (range_with_len (j + 1) n)) as (λ z. Option ℕ) [ true ↦ Some (first_from b s e off k n) | false ↦ None ]) w

  first_of_range : (e off j n : ℕ) → find (is_name b s e off) (range_with_len j n)
      ≡ elim (list_any (is_name b s e off) (range_with_len j n)) as (λ z. Option ℕ) [ true ↦ Some (first_from b s e off j n) | false ↦ None ]
  first_of_range e off j zero = refl
  first_of_range e off j (suc n) = more_range e off j n (first_of_range e off (j + 1) n)

  pub first_found : (e off n : ℕ) (r : Option ℕ) → option_map (λ y. y) r ≡ find (is_name b s e off) (range_with_len 0 n) → r ≡ first_name b s e off n
  unfolding first_name
  first_found e off n r h =
      sym (option_map_id r) ∙ h ∙ first_of_range e off 0 n
      ∙ ap (λ (q : Bool). elim q as (λ z. Option ℕ) [ true ↦ Some (first_from b s e off 0 n) | false ↦ None ]) (any_named e off n)

  module _ (start ids : List ℕ) where
    module _ (off y v : ℕ) (k : v ≡ get_or ids y 0) where
      pub not_kept : v ≡ 0 → false ≡ mentions b s start ids off y
      unfolding mentions
      not_kept z = rw (eq-eqb (get_or ids y 0) 0 (sym k ∙ z), mentions)

      pub kept_mentions : (v ≡ 0 → ⊥) → (e : ℕ) → e ≡ entry_at b start y → (n : ℕ) → n ≡ words_in b s e → (r : Bool) → r ≡ named_to b s e off n → r ≡ mentions b s start ids off y
      unfolding mentions
      kept_mentions z e f n g r h =
          h ∙ ap (named_to b s e off) g ∙ ap (λ (u : ℕ). named_to b s u off (words_in b s u)) f ∙ rw (ne_eqb (get_or ids y 0) 0 (λ w. z (k ∙ w)), mentions)

    pub any_mentioned : (off x : ℕ) → list_any (mentions b s start ids off) (range_with_len 0 x) ≡ mentioned_to b s start ids off x
    unfolding mentioned_to or_mentions
    any_mentioned off zero = refl
    any_mentioned off (suc x) =
        any_from_0 (mentions b s start ids off) x ∙ ap (λ (q : Bool). q || mentions b s start ids off x) (any_mentioned off x) ∙ or_is (mentioned_to b s start ids off x) (mentions b s start ids off x)

    -- a new name
    module _ (x e j v : ℕ) (k : v ≡ role (e % 32) j) where
      pub new_other : (v ≡ 1 → ⊥) → false ≡ is_new b s start ids x e j
      unfolding is_new
      new_other n = rw (ne_eqb (role (e % 32) j) 1 (λ z. n (k ∙ z)), is_new)

      module _ (z : v ≡ 1) (off : ℕ) (f : off ≡ word_of b s e j) (m : Bool) (g : m ≡ is_empty (str_at b s off)) where
        empty_is : m ≡ is_empty (str_at b s (word_of b s e j))
        empty_is = g ∙ ap (λ (u : ℕ). is_empty (str_at b s u)) f

        pub new_empty : m ≡ true → false ≡ is_new b s start ids x e j
        unfolding is_new
        new_empty h = rw (eq-eqb (role (e % 32) j) 1 (sym k ∙ z), is_new, sym empty_is ∙ h)

        module _ (h : m ≡ false) (q : Bool) (i : q ≡ mentioned_to b s start ids off x) where
          mentioned_is : q ≡ mentioned_to b s start ids (word_of b s e j) x
          mentioned_is = i ∙ ap (λ (u : ℕ). mentioned_to b s start ids u x) f

          pub new_mentioned : q ≡ true → false ≡ is_new b s start ids x e j
          unfolding is_new
          new_mentioned y = rw (eq-eqb (role (e % 32) j) 1 (sym k ∙ z), is_new, sym empty_is ∙ h, sym mentioned_is ∙ y)

          pub new_is : q ≡ false → (r : Bool) → r ≡ named_to b s e off j → not r ≡ is_new b s start ids x e j
          unfolding is_new
          new_is y r p = ap not (p ∙ ap (λ (u : ℕ). named_to b s e u j) f) ∙ rw (eq-eqb (role (e % 32) j) 1 (sym k ∙ z), is_new, sym empty_is ∙ h, sym mentioned_is ∙ y)
