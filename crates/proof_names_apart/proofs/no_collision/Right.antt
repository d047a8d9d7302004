-- The lists that opening left, with bit 3 of the modes, are right: they have the numbers with which a name of the table is another one of its space.
-- Assumes nothing.
use Prim.Native.Nat.{ℕ, zero, suc, ◌+◌, ◌-◌, ◌*◌, ◌/◌, ◌%◌, ◌<◌, ◌≤◌}
use mathlib.Core.Path.{◌≡◌, refl, ap, ◌∙◌, sym, subst, fun_ext}
use mathlib.Core.Bool.{Bool, true, false}
use mathlib.Core.List.{List, [], ◌∷◌, Memᴰ}
use mathlib.Core.Logic.{inl, inr, ⊎_elim, ◌≢◌}
use native.Mathlib.Omega.{arith}
use native.Mathlib.Decide.{ℕ_discrete}
use lib.ListN.{length, get_or}
use lib.Dec.{eqb}
use borrow.Author.Tests.{eqb-true, ne_eqb}
use Rattle.std.proofs.lemmas.Bool.{cases_lt}
use Rattle.spec_bytes.specs.words.Words.{get_word}
use Rattle.spec_c_dumper.specs.rules.Types.{Name, Btf as Rules}
use Rattle.spec_c_dumper.specs.rules.Names.{Space, ident_space, spelled}
use Rattle.spec_type_table.specs.declared.types.TypeTable.{TypeTable}
use Rattle.spec_type_table.specs.Cells.{class_p}
use Rattle.spec_type_table.specs.Names.{name_at}
use Rattle.spec_type_table.specs.Numbers.{taken_at}
use Rattle.spec_type_table.specs.Records.{section_word, kind_of, vlen_of, record_by_id}
use Rattle.spec_type_table.specs.Table.{btf_of, enumerator_of}
use Rattle.btf_open_names.specs.name_classes.Classes.{record_p, space_at, name_of, key_of, key_in, class_of}
use Rattle.btf_open_names.proofs.name_classes.Laws.{class_le, class_key, class_again}
use Rattle.btf_open_names.proofs.name_classes.Ledger.{the_words}
use Rattle.btf_open_names.proofs.name_classes.Keys.{space_enum}
use Rattle.btf_open_names.specs.filled_work.Left.{is_enum, values_at, enums_to}
use Rattle.btf_open_names.specs.filled_work.Takers.{takers_put}
use Rattle.btf_open_names.proofs.filled_work.Frame.{place_unlisted}
use Rattle.btf_open_names.proofs.filled_work.Holders.{mode_on, takers_all}
use Rattle.spec_opening.specs.Table.{types_of, enumerators_of, record_kind, index_of}
use Rattle.spec_opening.specs.Opened.{work_of}
use Rattle.spec_opening.specs.Causes.{opening_number}
use Rattle.spec_opening.proofs.Index.{types_few, some_type, index_kind}
use Rattle.spec_opening.proofs.Sums.{enumerators_all}
use Rattle.spec_opening.proofs.ReadBack.{header_ok, types_ok, order_ok, types_are, before, classed, work_is, else_listed, kind_back, enumerator_back, room_back}
use Rattle.proof_demands.specs.name_counts.Indexed.{IsEnum, number, Value, place_of_value, Holds, Indexed, lists_in}
use Rattle.proof_demands.proofs.name_counts.Keys.{key_of_lem}
use Rattle.proof_demands.proofs.name_counts.Classed.{keys_stay}
use Rattle.proof_demands.proofs.name_counts.Lists.{lists_are, number_named}
use Rattle.proof_demands.specs.demands.Table.{header_of, opened_table}
use Rattle.proof_demands.proofs.demands.Named.{opened_indexed}
use Rattle.spec_c_dumper.specs.names_apart.Apart.{table_names}
use Rattle.proof_names_apart.proofs.name_counts.Counts.{values_are}
use Rattle.proof_names_apart.specs.passed_numbers.Passed.{Right}
use Rattle.btf_open_names.specs.numbers.Lists.{Distinct}
use Rattle.proof_names_apart.specs.taken_lists.Listed.{numbers_on, base_of, number_of}
use Rattle.proof_names_apart.proofs.taken_lists.Takers.{takers_read}
use Rattle.proof_names_apart.proofs.no_collision.Keys.{spelled_cons, on_list_of, list_distinct, list_holder}
use Rattle.proof_names_apart.proofs.no_collision.Holders.{number_ident, name_held, type_named, value_named}

is_enum_lem : (k : ℕ) → is_enum k ≡ true → IsEnum k
unfolding is_enum
is_enum_lem k e = go (ℕ_discrete k 6)
  where
    go : Dec (k ≡ 6) → IsEnum k
    go (yes q) = inl q
    go (no q) = inr (eqb-true k 19 (sym (ap (λ (t : Bool). elim t as (λ z. Bool) [ true ↦ true | false ↦ eqb k 19 ]) (ne_eqb k 6 q)) ∙ e))

-- ---- keys of holders
head_of : List ℕ → ℕ
head_of [] = 0
head_of (x ∷ l) = x

tail_of : List ℕ → List ℕ
tail_of [] = []
tail_of (x ∷ l) = l

key_head : (s : List ℕ) (x at : ℕ) → head_of (key_of s x at) ≡ x
unfolding key_of head_of
key_head s x at = refl

key_tail : (s : List ℕ) (x at : ℕ) → x ≢ 2 → tail_of (key_of s x at) ≡ name_at s at
unfolding key_of tail_of
key_tail s x at n = ap (λ (t : Bool). elim t as (λ z. List ℕ) [ true ↦ [] | false ↦ name_at s at ]) (ne_eqb x 2 n)

key_void : (b : TypeTable) (s w : List ℕ) → head_of (key_in b s w 0) ≡ 2
unfolding key_in key_of space_at head_of
key_void b s w = refl

module _ (b : TypeTable) (e : ℕ) (s w : List ℕ) where
  key_holds : (x : ℕ) (space : Space) (y : Name) → x < b.types + e → key_in b s w x ≡ number space ∷ y → Holds b e s w x space y
  unfolding key_in head_of tail_of
  key_holds x space y l k = record {
    below = l;
    its_space = sp;
    its_name = sym (ap tail_of k) ∙ key_tail s (space_at b s (get_word w (record_p b.types x)) x) (name_of b s (get_word w (record_p b.types x))) (λ z. number_named space (sym sp ∙ z));
  }
    where
      sp : space_at b s (get_word w (record_p b.types x)) x ≡ number space
      sp = sym (key_head s (space_at b s (get_word w (record_p b.types x)) x) (name_of b s (get_word w (record_p b.types x)))) ∙ ap head_of k

  not_void : (space : Space) (y : Name) → key_in b s w 0 ≡ number space ∷ y → ⊥
  unfolding head_of
  not_void space y k = number_named space (sym (ap head_of k) ∙ key_void b s w)

-- ---- an opened section
module _ (p modes : ℕ) (s : List ℕ) (n : ℕ) (ok : opening_number p s n ≡ 0) where
  abbrev b : TypeTable
  b = header_of p modes s

  abbrev e : ℕ
  e = enumerators_of s

  abbrev w : List ℕ
  w = work_of p modes s n

  abbrev u : List ℕ
  u = classed p modes s n ok

  abbrev B : Rules
  B = opened_table p modes s n

  abbrev N : ℕ
  N = b.types + e

  some : 1 ≤ b.types
  some = omega (arith, types_are p modes s n ok, some_type s)

  few : N ≤ 4294967295
  few = (room_back p modes s n ok).numbered

  small : types_of s ≤ 262145
  small = types_few s (header_ok p modes s n ok) (types_ok p modes s n ok)

  I : Indexed b e s w
  I = opened_indexed p modes s n ok

  keys_same : key_in b s w ≡ key_in b s u
  unfolding key_in
  keys_same = fun_ext (λ h. ap (λ (at : ℕ). key_of s (space_at b s at h) (name_of b s at)) (else_listed p modes s n ok (record_p b.types h) (place_unlisted b.types (b.types + e) 0 0 h (omega arith) (omega arith) (λ q. omega arith) (λ q. omega arith) (λ q. omega arith) (λ q. omega arith) (λ q. omega arith) (λ q. omega arith))))

  class_is : (h : ℕ) → h < N → get_word u (class_p b.types h) ≡ class_of (key_in b s u) h
  class_is h l = (the_words b e s (before p modes s n ok)).class h (room_back p modes s n ok) l ∙ ap (λ (k : ℕ → List ℕ). class_of k h) (sym (keys_stay b e s (before p modes s n ok)))

  room : b.types * 16 + e * 8 ≤ length u / 4
  room = subst (λ (k : ℕ). b.types * 16 + e * 8 ≤ k / 4) (sym (the_words b e s (before p modes s n ok)).long) (room_back p modes s n ok).words

  -- ---- each enumerator is a value of an enum
  find : (m k : ℕ) → k < enums_to b s (index_of s) m → (id : ℕ) × (1 ≤ id) × (id ≤ m) × (enums_to b s (index_of s) (id - 1) ≤ k) × (k < enums_to b s (index_of s) (id - 1) + values_at b s (get_or (index_of s) id 0))
  unfolding enums_to
  find zero k l = absurd (omega arith)
  find (suc m) k l = ⊎_elim
      (λ q. let r = find m k q in (r.0, r.1, omega (arith, r.2), r.3, r.4))
      (λ q.
      let z : m ≡ suc m - 1 = omega arith in
      (suc m, omega arith, omega arith, subst (λ (x : ℕ). enums_to b s (index_of s) x ≤ k) z q, subst (λ (x : ℕ). k < enums_to b s (index_of s) x + values_at b s (get_or (index_of s) (suc m) 0)) z l))
      (cases_lt k (enums_to b s (index_of s) m))

  values_enum : (entry k : ℕ) → k < values_at b s entry → is_enum (entry % 32) ≡ true
  unfolding values_at
  values_enum entry k l = go (is_enum (entry % 32)) refl l
    where
      go : (t : Bool) → is_enum (entry % 32) ≡ t → k < elim t as (λ z. ℕ) [ true ↦ vlen_of (section_word b s (entry / 32 + 4)) | false ↦ 0 ] → is_enum (entry % 32) ≡ true
      go true q r = q
      go false q r = absurd (omega arith)

  module _ (k : ℕ) (lk : k < e) (name : Name) (q : Holds b e s w (b.types + k) ident_space name) (id : ℕ) (a : 1 ≤ id) (m : id < types_of s)
      (lo : enums_to b s (index_of s) (id - 1) ≤ k) (hi : k < enums_to b s (index_of s) (id - 1) + values_at b s (get_or (index_of s) id 0)) where
    abbrev i : ℕ
    i = k - enums_to b s (index_of s) (id - 1)

    inside : i < values_at b s (get_or (index_of s) id 0)
    inside = omega arith

    is_e : is_enum (record_kind s (id - 1)) ≡ true
    is_e = ap is_enum (sym (index_kind s small id a m)) ∙ values_enum (get_or (index_of s) id 0) i inside

    kind_e : is_enum (kind_of (record_by_id b s w id).info) ≡ true
    kind_e = ap is_enum (kind_back p modes s n ok id a m) ∙ is_e

    v : Value b s w id i
    v = record {
      below = omega (arith, m, types_are p modes s n ok);
      enum = is_enum_lem (kind_of (record_by_id b s w id).info) kind_e;
      inside = subst (λ (x : ℕ). i < x) (values_are p modes s n ok id a m kind_e) inside;
    }

    number_is : enumerator_of w id i ≡ k
    number_is = let h : i < vlen_of (record_by_id b s w id).info = v.inside in enumerator_back p modes s n ok id i a m is_e (omega arith) ∙ omega arith

    place_is : get_word w (record_p b.types (b.types + k)) ≡ place_of_value b s w id i
    place_is = ap (λ (x : ℕ). get_word w (record_p b.types (b.types + x))) (sym number_is) ∙ I.place id i v

    value_there : Memᴰ name (table_names B ident_space)
    unfolding name_of
    value_there = value_named b s w id i name (record { value = v; its_name = q.its_name ∙ ap (λ (x : ℕ). name_at s (name_of b s x)) place_is })

  value_held : (k : ℕ) → k < e → (name : Name) → Holds b e s w (b.types + k) ident_space name → Memᴰ name (table_names B ident_space)
  value_held k l name q =
      let t : enums_to b s (index_of s) (types_of s - 1) ≡ e = enumerators_all b s (order_ok p modes s n ok) (header_ok p modes s n ok) (types_ok p modes s n ok) small in
      let r = find (types_of s - 1) k (omega (arith, t)) in
      value_there k l name q r.0 r.1 (omega (arith, r.2, some_type s)) r.3 r.4

  -- the name of a holder is a name of the table's same space
  holder_named : (x : ℕ) (space : Space) (y : Name) → Holds b e s w x space y → Memᴰ y (table_names B space)
  holder_named x space y q = ⊎_elim (λ l. type_named b e s w x space y l q) past (cases_lt x b.types)
    where
      past : b.types ≤ x → Memᴰ y (table_names B space)
      past l =
          let z : b.types + (x - b.types) ≡ x = omega arith in
          let sp : 1 ≡ number space = space_enum b s (get_word w (record_p b.types x)) x (λ o. omega (arith, some, o)) l ∙ q.its_space in
          let si : space ≡ ident_space = number_ident space sp in
          let h : Holds b e s w (b.types + (x - b.types)) ident_space y = subst (λ (k : ℕ). Holds b e s w k ident_space y) (sym z) (subst (λ (c : Space). Holds b e s w x c y) si q) in
          subst (λ (c : Space). Memᴰ y (table_names B c)) (sym si) (value_held (x - b.types) (omega (arith, q.below, l)) y h)

  -- ---- with bit 3 of the modes
  module _ (on : modes / 8 % 2 ≡ 1) where
    work_on : w ≡ takers_put b s N (N - 1) u
    work_on = work_is p modes s n ok ∙ sym (mode_on modes b e s u (takers_put b s N (N - 1) u) on (takers_all b e s u (omega (arith, few)) (takers_put b s N (N - 1) u) refl))

    abbrev base : ℕ → ℕ
    base = base_of b s u N

    abbrev num : ℕ → ℕ
    num = number_of b s u N

    read : (c : ℕ) → 1 ≤ c → c < N → taken_at b.types w c ≡ numbers_on base num c 1 (N - 1)
    read c l m = ap (λ (x : List ℕ). taken_at b.types x c) work_on ∙ takers_read b e s u some room few (λ d k. (the_words b e s (before p modes s n ok)).bucket d (room_back p modes s n ok) k) c l m

    abbrev key : ℕ → List ℕ
    key = key_in b s u

    key_of_holder : (h : ℕ) (space : Space) (name : Name) → Holds b e s w h space name → key h ≡ number space ∷ name
    key_of_holder h space name q = ap (λ (k : ℕ → List ℕ). k h) (sym keys_same) ∙ key_of_lem b e s w h space name q

    -- the first holder of a name of the table
    record First (space : Space) (name : Name) : Type 0 where
      at : ℕ
      below : suc at < N
      its_key : key (suc at) ≡ number space ∷ name
      first : class_of key (suc at) ≡ suc at
      numbers : lists_in b e s w space name ≡ numbers_on base num (suc at) 1 (N - 1)

    first_of : (space : Space) (name : Name) → Memᴰ name (table_names B space) → First space name
    unfolding btf_of
    first_of space name m = go (class_of key r.0) refl
      where
        r : (h : ℕ) × Holds b e s w h space name
        r = name_held b e s w I space b.types name m

        go : (c : ℕ) → class_of key r.0 ≡ c → First space name
        go zero q = absurd (not_void b e s u space name (sym (ap key q) ∙ class_key key r.0 ∙ key_of_holder r.0 space name r.1))
        go (suc c) q = record {
          at = c;
          below = omega (arith, q, class_le key r.0, r.1.below);
          its_key = sym (ap key q) ∙ class_key key r.0 ∙ key_of_holder r.0 space name r.1;
          first = ap (class_of key) (sym q) ∙ class_again key r.0 ∙ q;
          numbers =
              sym (lists_are b e s w r.0 space name r.1)
              ∙ ap (taken_at b.types w) (ap (λ (k : ℕ → List ℕ). class_of k r.0) keys_same ∙ q)
              ∙ read (suc c) (omega arith) (omega (arith, q, class_le key r.0, r.1.below));
        }

    module _ (space : Space) (name : Name) (m : Memᴰ name (table_names B space)) where
      f : First space name
      f = first_of space name m

      abbrev T : List ℕ
      T = lists_in b e s w space name

      holder : (k : ℕ) → Memᴰ k T → (x : ℕ) × (x < N) × (key x ≡ spelled (key (suc f.at)) k) × (2 ≤ k) × (k ≤ 4294967295)
      holder k h = list_holder b e s u some class_is f.at k (subst (Memᴰ k) f.numbers h)

      only : (k : ℕ) → Memᴰ k T → Memᴰ (spelled name k) (table_names B space)
      only k h =
          let r = holder k h in
          holder_named r.0 space (spelled name k)
          (key_holds b e s w r.0 space (spelled name k) r.1 (ap (λ (g : ℕ → List ℕ). g r.0) keys_same ∙ r.2 ∙ ap (λ (l : List ℕ). spelled l k) f.its_key ∙ spelled_cons (number space) name k r.3))

      listed : (k : ℕ) → 2 ≤ k → k ≤ 4294967295 → Memᴰ (spelled name k) (table_names B space) → Memᴰ k T
      unfolding btf_of
      listed k two limit h =
          subst (Memᴰ k) (sym f.numbers)
          (on_list_of b e s u some class_is f.at (class_of key r.0) k (number space) name f.below (omega (arith, class_le key r.0, r.1.below)) f.first (class_again key r.0) f.its_key two limit kx (positive (class_of key r.0) refl))
        where
          r : (y : ℕ) × Holds b e s w y space (spelled name k)
          r = name_held b e s w I space b.types (spelled name k) h

          ky : key (class_of key r.0) ≡ number space ∷ spelled name k
          ky = class_key key r.0 ∙ key_of_holder r.0 space (spelled name k) r.1

          kx : key (class_of key r.0) ≡ spelled (key (suc f.at)) k
          kx = ky ∙ sym (spelled_cons (number space) name k two) ∙ ap (λ (l : List ℕ). spelled l k) (sym f.its_key)

          positive : (c : ℕ) → class_of key r.0 ≡ c → 1 ≤ class_of key r.0
          positive zero q = absurd (not_void b e s u space (spelled name k) (ap key (sym q) ∙ ky))
          positive (suc c) q = omega (arith, q)

    pub lists_right : Right B (lists_in b e s w)
    lists_right = record {
      distinct = λ space name m. subst Distinct (sym (f space name m).numbers) (list_distinct b e s u some class_is (f space name m).at);
      suffixes = λ space name m k h. let r = holder space name m k h in (r.3, r.4);
      listed = listed;
      only = only;
    }
