-- With lists that are right the mode over lists writes what the mode of `proof_names_apart::names_apart` writes: the number of the k-th
-- holder is the k-th that the table
-- leaves free, since the numbers of the holders before were printed. For every table and every list of requests. Assumes nothing.
use Prim.Native.Nat.{ℕ, zero, suc, ◌≤◌, ◌<◌}
use mathlib.Core.Path.{◌≡◌, refl, sym, ◌∙◌, ap, ap₂, subst}
use mathlib.Core.Bool.{Bool, true, false}
use mathlib.Core.List.Memᴰ
use mathlib.Core.List.{List, ◌∷◌, Memᴰ}
use mathlib.Core.Logic.{◌⊎◌, inl, inr, ⊎_elim}
use native.Mathlib.Omega.{arith}
use lib.ListN.{length, get_or, set, replicate}
use lib.Dec.{eqb}
use borrow.Author.Tests.{eqb-true, eqb-false}
use Rattle.std.proofs.lemmas.Bool.{cases_lt}
use Rattle.spec_bytes.specs.words.Words.{one_more}
use Rattle.spec_bytes.proofs.words.Laws.{more_is, more_stuck, more_some, more_most, set_one}
use Rattle.spec_c_dumper.specs.rules.Machine.{Req}
use Rattle.spec_c_dumper.specs.rules.Types.{Name, Btf, name_of, table_of}
use Rattle.spec_c_dumper.specs.rules.Names.{Space, ident_space, Resolved, Names, Holder, spelled, holders, with_one}
use Rattle.spec_c_dumper.proofs.rules.Related.{RelResolved, RelNaming}
use Rattle.spec_c_dumper.specs.needs.Needs.{WF}
use Rattle.spec_c_dumper.specs.needs.Session.{no_names}
use Rattle.spec_c_dumper.proofs.needs.AnyNames.{dumps_alike}
use Rattle.proof_demands.proofs.name_counts.Holders.{count_there}
use Rattle.spec_c_dumper.specs.names_apart.Apart.{table_names, Who, of_type, of_value, Shown, Apart, spellings_in, is_name_among, taken, passing, number_for, shown, type_apart, value_apart, apart, none_shown, dump_apart, Ends}
use Rattle.spec_c_dumper.proofs.rules.Names.{count_here}
use Rattle.proof_names_apart.proofs.names_apart.Laws.{mem_among, spelling_in, spelled_first}
use Rattle.proof_names_apart.proofs.names_apart.Splits.{splits_once}
use Rattle.proof_names_apart.proofs.names_apart.Fair.{same_or_not, grows, space_of, entry, own}
use Rattle.proof_names_apart.proofs.names_apart.Alike.{among_mem, in_spellings, more_first}
use Rattle.proof_names_apart.proofs.names_apart.Session.{Fits, FitsValue, fits}
use Rattle.spec_type_table.specs.Numbers.{number_over}
use Rattle.proof_demands.specs.name_counts.Passed.{Lists, next_number, type_passed, value_passed, passed}
use Rattle.proof_names_apart.specs.passed_numbers.Passed.{dump_passed, Right}
use Rattle.btf_open_names.proofs.numbers.Numbers.{Settles, settles, first_is, ends}
use Rattle.proof_names_apart.proofs.passed_numbers.Search.{more_limit, from, limit, over, stops}

spelling_more : (space : Space) (l : List Shown) (p : Shown) (s : Name) → Memᴰ s (spellings_in space l) → Memᴰ s (spellings_in space (p ∷ l))
spelling_more space l p s m =
    let r = in_spellings space l s m in
    subst (λ (x : Name). Memᴰ x (spellings_in space (p ∷ l))) (sym r.3) (spelling_in space (p ∷ l) r.0 (Memᴰ.tail r.1) r.2)

module _ (B : Btf) (T : Lists) (right : Right B T) where
  -- what the k-th holder of a name prints
  abbrev nth : Space → Name → ℕ → Name
  nth space name k = spelled name (number_over (T space name) k)

  -- a printed name is a name of the table, or that of one of the holders that there are
  abbrev Reached : List Holder → Shown → Type 0
  Reached l a =
      Memᴰ a.spelling (table_names B a.space)
      ⊎ ((x : Name) × (j : ℕ) × (a.spelling ≡ nth a.space x j) × (2 ≤ j) × (j ≤ 4294967295) × (j ≤ holders l a.space x))

  pub record Usual (u : Apart) : Type 0 where
    pub reached : (a : Shown) → Memᴰ a u.printed → Reached u.names.ledger a
    -- and each of them was printed
    pub every : (space : Space) (name : Name) → Memᴰ name (table_names B space) → (j : ℕ) → 2 ≤ j → j ≤ holders u.names.ledger space name
        → Memᴰ (nth space name j) (spellings_in space u.printed)
    pub limits : (space : Space) (name : Name) → holders u.names.ledger space name ≤ 4294967295
    pub kept : (id : ℕ) → (get_or u.names.versions id 0 ≡ 0 → ⊥) → Reached u.names.ledger (own B id (get_or u.names.versions id 0))

  entry_reached : (l : List Holder) (space : Space) (who : Who) (name : Name) (j : ℕ) → Memᴰ name (table_names B space) → 1 ≤ j → j ≤ 4294967295 → j ≤ holders l space name
      → Reached l (entry space who name (number_over (T space name) j))
  entry_reached l space who name j m o b h = ⊎_elim (λ k. inl (first (omega arith))) (λ k. inr (name, j, refl, k, b, h)) (cases_lt j 2)
    where
      first : j ≡ 1 → Memᴰ (nth space name j) (table_names B space)
      first e = subst (λ (x : Name). Memᴰ x (table_names B space)) (sym (ap (nth space name) e ∙ ap (spelled name) (first_is (T space name) (right.suffixes space name m)) ∙ spelled_first name)) m

  reached_more : (l : List Holder) (space : Space) (name : Name) (a : Shown) → Reached l a → Reached (with_one l space name) a
  reached_more l space name a (inl m) = inl m
  reached_more l space name a (inr r) = inr (r.0, r.1, r.2, r.3, r.4, omega (arith, r.5, grows l space name a.space r.0))

  module _ (space : Space) (name : Name) (is_name : Memᴰ name (table_names B space)) (u : Apart) (h : Usual u) where
    abbrev c : ℕ
    c = holders u.names.ledger space name

    abbrev k : ℕ
    k = one_more c

    abbrev t : ℕ → Bool
    t n = is_name_among (spelled name n) (taken B space u)

    k_limit : one_more c ≤ 4294967295
    k_limit = more_limit c (h.limits space name)

    listed : (m : ℕ) → k ≤ m → Memᴰ m (T space name) → t m ≡ true
    listed m l x = mem_among (spelled name m) (taken B space u) (Memᴰ.append_left (spellings_in space u.printed) (right.only space name is_name m x))

    before : (j : ℕ) → 2 ≤ j → j < k → t (number_over (T space name) j) ≡ true
    before j two l = mem_among (nth space name j) (taken B space u) (Memᴰ.append_right (table_names B space) (h.every space name is_name j two (omega (arith, more_most c))))

    module _ (two : 2 ≤ k) where
      abbrev Found : ℕ → Type 0
      Found m = Memᴰ m (T space name) ⊎ ((j : ℕ) × (2 ≤ j) × (j < k) × (m ≡ number_over (T space name) j))

      in_table : (m : ℕ) → k ≤ m → m < 4294967295 → Memᴰ (spelled name m) (table_names B space) → Found m
      in_table m l b x = inl (right.listed space name is_name m (omega arith) (omega arith) x)

      in_print : (m : ℕ) → k ≤ m → m < 4294967295 → (b : Shown) → b.space ≡ space → spelled name m ≡ b.spelling → Reached u.names.ledger b → Found m
      in_print m l b a e s (inl x) = in_table m l b (subst (λ (y : Name). Memᴰ y (table_names B space)) (sym s) (subst (λ (y : Space). Memᴰ a.spelling (table_names B y)) e x))
      in_print m l b a e s (inr r) =
          let q : Settles (T a.space r.0) r.1 (number_over (T a.space r.0) r.1) = settles (T a.space r.0) r.1 r.4 in
          let w = splits_once name r.0 m (number_over (T a.space r.0) r.1) (omega arith) (omega (arith, q.start, r.3)) (omega arith) q.limit (s ∙ r.2) in
          let z : holders u.names.ledger a.space r.0 ≡ c = ap₂ (holders u.names.ledger) e (sym w.0) in
          inr (r.1, r.3, less (omega (arith, z, r.5)), w.1 ∙ ap₂ (λ (x : Space) (y : Name). number_over (T x y) r.1) e (sym w.0))
        where
          less : r.1 ≤ c → r.1 < k
          less x = ⊎_elim (λ y. omega (arith, more_is c y)) (λ y. absurd (omega (arith, more_stuck c y))) (cases_lt c 4294967295)

      found : (m : ℕ) → k ≤ m → m < 4294967295 → t m ≡ true → Found m
      found m l b e = ⊎_elim
          (in_table m l b)
          (λ x. let r = in_spellings space u.printed (spelled name m) x in in_print m l b r.0 r.2 r.3 (h.reached r.0 r.1))
          (Memᴰ.append_cases (table_names B space) (among_mem (spelled name m) (taken B space u) e))

      later : passing t (length (taken B space u)) k ≡ number_over (T space name) k
      later = ends (T space name) (right.distinct space name is_name) (right.suffixes space name is_name) k two k_limit t listed before found
          (passing t (length (taken B space u)) k) (from t (length (taken B space u)) k) (limit t (length (taken B space u)) k k_limit)
          (λ m l b. over t (length (taken B space u)) k m l b)
          (stops name (length (taken B space u)) t (taken B space u) (omega arith) k two k_limit (λ m lo hi. refl))

    -- the number is that over the list
    pub usual_number : number_for B space name u ≡ number_over (T space name) (one_more c)
    unfolding number_for
    usual_number = go (eqb c 0) refl
      where
        some : (c ≡ 0 → ⊥) → 2 ≤ one_more c
        some n = ⊎_elim (λ l. omega (arith, more_is c l)) (λ l. omega (arith, more_stuck c l)) (cases_lt c 4294967295)

        go : (b : Bool) → eqb c 0 ≡ b → elim b as (λ w. ℕ) [ true ↦ 1 | false ↦ passing t (length (taken B space u)) (one_more c) ] ≡ number_over (T space name) (one_more c)
        go true q = sym (ap (number_over (T space name)) (ap one_more (eqb-true c 0 q) ∙ more_first) ∙ first_is (T space name) (right.suffixes space name is_name))
        go false q = later (some (eqb-false c 0 q))

    -- and what is known stays so
    module _ (who : Who) (versions : List ℕ)
        (holds : (id : ℕ) → (get_or versions id 0 ≡ get_or u.names.versions id 0) ⊎ ((space_of (B.type_by_id id) ≡ space) × (name_of (B.type_by_id id) ≡ name) × (get_or versions id 0 ≡ number_over (T space name) (one_more c)))) where
      abbrev one : Shown
      one = entry space who name (number_over (T space name) (one_more c))

      new_reached : (who' : Who) → Reached (with_one u.names.ledger space name) (entry space who' name (number_over (T space name) (one_more c)))
      new_reached who' = entry_reached (with_one u.names.ledger space name) space who' name (one_more c) is_name (more_some c) k_limit (omega (arith, count_here space name u.names.ledger))

      every_then : (space' : Space) (name' : Name) → Memᴰ name' (table_names B space') → (j : ℕ) → 2 ≤ j → j ≤ holders (with_one u.names.ledger space name) space' name'
          → Memᴰ (nth space' name' j) (spellings_in space' (one ∷ u.printed))
      every_then space' name' m j two l = go (same_or_not space space' name name')
        where
          old : j ≤ holders u.names.ledger space' name' → Memᴰ (nth space' name' j) (spellings_in space' (one ∷ u.printed))
          old x = spelling_more space' u.printed one (nth space' name' j) (h.every space' name' m j two x)

          new : space ≡ space' → name ≡ name' → j ≡ one_more c → Memᴰ (nth space' name' j) (spellings_in space' (one ∷ u.printed))
          new es en ej =
              subst (λ (x : Name). Memᴰ x (spellings_in space' (one ∷ u.printed)))
              (ap (nth space name) (sym ej) ∙ ap₂ (λ (x : Space) (y : Name). nth x y j) es en)
              (spelling_in space' (one ∷ u.printed) one (Memᴰ.head refl) es)

          go : ((space ≡ space') × (name ≡ name')) ⊎ (space ≡ space' → name ≡ name' → ⊥) → Memᴰ (nth space' name' j) (spellings_in space' (one ∷ u.printed))
          go (inl e) =
              let z : holders (with_one u.names.ledger space name) space' name' ≡ one_more c = ap₂ (holders (with_one u.names.ledger space name)) (sym e.0) (sym e.1) ∙ count_here space name u.names.ledger in
              let y : holders u.names.ledger space' name' ≡ c = ap₂ (holders u.names.ledger) (sym e.0) (sym e.1) in
              ⊎_elim (λ x. new e.0 e.1 (omega (arith, z, more_most c))) (λ x. old (omega (arith, y))) (cases_lt c j)
          go (inr n) = old (omega (arith, count_there space name space' name' n u.names.ledger))

      pub usual_then : Usual (record { names = record { versions = versions; ledger = with_one u.names.ledger space name }; printed = one ∷ u.printed })
      usual_then = record {
        reached = λ a m. ⊎_elim
            (λ e. subst (Reached (with_one u.names.ledger space name)) (sym e) (new_reached who))
            (λ x. reached_more u.names.ledger space name a (h.reached a x))
            (Memᴰ.cases_cons m);
        every = every_then;
        limits = λ space' name'. ⊎_elim
            (λ e. let z : holders (with_one u.names.ledger space name) space' name' ≡ one_more c = ap₂ (holders (with_one u.names.ledger space name)) (sym e.0) (sym e.1) ∙ count_here space name u.names.ledger in omega (arith, z, k_limit))
            (λ x. omega (arith, h.limits space' name', count_there space name space' name' x u.names.ledger))
            (same_or_not space space' name name');
        kept = λ id n. ⊎_elim
            (λ e. subst (λ (x : ℕ). Reached (with_one u.names.ledger space name) (own B id x)) (sym e)
            (reached_more u.names.ledger space name (own B id (get_or u.names.versions id 0)) (h.kept id (λ z. n (e ∙ z)))))
            (λ e. subst (Reached (with_one u.names.ledger space name))
            (sym (ap (own B id) e.2 ∙ ap₂ (λ (x : Space) (y : Name). entry x (of_type id) y (number_over (T space name) (one_more c))) e.0 e.1))
            (new_reached (of_type id)))
            (holds id);
      }

  -- the same versions and the same ledger
  abbrev pub Like : Apart → Names → Type 0
  Like u w = (u.names ≡ w) × Usual u

  module _ (space : Space) (id : ℕ) (name : Name) (f : Fits B space id name) (u : Apart) (h : Usual u) where
    -- what both give, by whether the type has no number yet
    abbrev new_by : Bool → Resolved Apart
    new_by b = elim b as (λ (t : Bool). Resolved Apart) [
      | false ↦ record {
        passes = false;
        version = get_or u.names.versions id 0;
        names = record { names = u.names; printed = shown space (of_type id) name (get_or u.names.versions id 0) u };
      }
      | true ↦ record {
        passes = false;
        version = number_for B space name u;
        names = record {
          names = record { versions = set u.names.versions id (number_for B space name u); ledger = with_one u.names.ledger space name };
          printed = shown space (of_type id) name (number_for B space name u) u;
        };
      }
    ]

    abbrev list_by : Bool → Resolved Names
    list_by b = elim b as (λ (t : Bool). Resolved Names) [
      | false ↦ record { passes = false; version = get_or u.names.versions id 0; names = u.names }
      | true ↦ record {
        passes = false;
        version = next_number T space name u.names;
        names = record { versions = set u.names.versions id (next_number T space name u.names); ledger = with_one u.names.ledger space name };
      }
    ]

    abbrev n : ℕ
    n = number_over (T space name) (one_more (holders u.names.ledger space name))

    abbrev then : ℕ → Apart
    then x = record {
      names = record { versions = set u.names.versions id x; ledger = with_one u.names.ledger space name };
      printed = shown space (of_type id) name x u;
    }

    is_own : own B id (get_or u.names.versions id 0) ≡ entry space (of_type id) name (get_or u.names.versions id 0)
    is_own = ap₂ (λ (x : Space) (y : Name). entry x (of_type id) y (get_or u.names.versions id 0)) (sym f.0) (sym f.1)

    by_like : (b : Bool) → eqb (get_or u.names.versions id 0) 0 ≡ b → RelResolved Like (new_by b) (list_by b)
    by_like true q = (
      refl,
      usual_number space name f.2 u h,
      (
        ap {B = Names} (λ (x : ℕ). record { versions = set u.names.versions id x; ledger = with_one u.names.ledger space name }) (usual_number space name f.2 u h),
        subst Usual (ap then (sym (usual_number space name f.2 u h))) (usual_then space name f.2 u h (of_type id) (set u.names.versions id n)
            (λ x. ⊎_elim (λ e. inl e) (λ e. inr (ap (λ (k : ℕ). space_of (B.type_by_id k)) e.0 ∙ sym f.0, ap (λ (k : ℕ). name_of (B.type_by_id k)) e.0 ∙ sym f.1, e.1)) (set_one u.names.versions id n x))),
      ),
    )
    by_like false q = (
      refl,
      refl,
      (
        refl,
        record {
          reached = λ a m. ⊎_elim
              (λ e. subst (Reached u.names.ledger) (is_own ∙ sym e) (h.kept id (eqb-false (get_or u.names.versions id 0) 0 q)))
              (h.reached a)
              (Memᴰ.cases_cons m);
          every = λ space' name' m j two l. spelling_more space' u.printed (entry space (of_type id) name (get_or u.names.versions id 0)) (nth space' name' j) (h.every space' name' m j two l);
          limits = h.limits;
          kept = h.kept;
        },
      ),
    )

    type_like : RelResolved Like (type_apart B space id name u) (type_passed T space id name u.names)
    unfolding type_apart type_passed
    type_like = by_like (eqb (get_or u.names.versions id 0) 0) refl

  value_like : (id i : ℕ) (name : Name) → FitsValue B id i name → (u : Apart) → Usual u → RelResolved Like (value_apart B id i name u) (value_passed T name u.names)
  unfolding value_apart value_passed
  value_like id i name f u h =
      let e : number_for B ident_space name u ≡ number_over (T ident_space name) (one_more (holders u.names.ledger ident_space name)) = usual_number ident_space name f u h in
      (refl, e, (refl, subst Usual (ap then (sym e)) (usual_then ident_space name f u h (of_value id i) u.names.versions (λ x. inl refl))))
    where
      then : ℕ → Apart
      then x = record {
        names = record { versions = u.names.versions; ledger = with_one u.names.ledger ident_space name };
        printed = shown ident_space (of_value id i) name x u;
      }

  pub like : RelNaming Like (Fits B) (FitsValue B) (apart B) (passed T)
  like = record {
    rel_type = λ space id name f e u v r. subst (λ (w : Names). RelResolved Like (type_apart B space id name u) (type_passed T space id name w)) r.0 (type_like space id name f u r.1);
    rel_value = λ id i name f u v r. subst (λ (w : Names). RelResolved Like (value_apart B id i name u) (value_passed T name w)) r.0 (value_like id i name f u r.1);
    rel_leaving = λ h x q u v r. r;
  }

  pub none_usual : Usual (none_shown B)
  unfolding holders
  none_usual = record {
    reached = λ a m. absurd (Memᴰ.not-nil m);
    every = λ space name m j two l. absurd (omega arith);
    limits = λ space name. omega arith;
    kept = λ id n. absurd (n (all_zero_lem B.type_cnt id));
  }
    where
      all_zero_lem : (k id : ℕ) → get_or {A = ℕ} (replicate k 0) id 0 ≡ 0
      all_zero_lem zero id = refl
      all_zero_lem (suc k) zero = refl
      all_zero_lem (suc k) (suc id) = all_zero_lem k id

  -- the same numbers, lengths and text, for every list of requests
  pub lists_alike : Ends B → WF (table_of B) → (rs : List Req) → dump_apart B rs ≡ dump_passed T B rs
  lists_alike end below rs = dumps_alike Like (Fits B) (FitsValue B) (apart B) (passed T) like B (fits B end) below (none_shown B) (no_names B) (refl, none_usual) rs
