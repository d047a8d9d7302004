-- "Where no suffix is passed over, both modes print alike." Assumes nothing.
use Prim.Native.Nat.{ℕ, zero, suc, ◌+◌, ◌≤◌, ◌<◌}
use mathlib.Core.Path.{◌≡◌, refl, sym, ◌∙◌, ap, ap₂, subst}
use mathlib.Core.Bool.{Bool, true, false, true≢false}
use mathlib.Core.List.Memᴰ
use mathlib.Core.List.{List, [], ◌∷◌, Memᴰ}
use mathlib.Core.Logic.{◌⊎◌, inl, inr, ⊎_elim}
use native.Mathlib.Omega.{arith}
use lib.ListN.{length, get_or, set, replicate}
use lib.Dec.{eqb}
use borrow.Author.Tests.{eqb-true, eqb-false}
use Rattle.std.proofs.lemmas.Bool.{cases_lt}
use Rattle.spec_bytes.specs.words.Words.{one_more}
use Rattle.spec_bytes.proofs.words.Laws.{more_is, more_stuck, set_one}
use Rattle.spec_c_dumper.specs.rules.Machine.{Req}
use Rattle.spec_c_dumper.specs.rules.Types.{Name, Btf, name_of, table_of}
use Rattle.spec_c_dumper.specs.rules.Names.{Space, ident_space, Resolved, Names, Holder, naming, spelled, same_space, same_bytes, holders, with_one, type_version, value_version}
use Rattle.spec_c_dumper.proofs.rules.Related.{RelResolved, RelNaming}
use Rattle.spec_c_dumper.specs.needs.Needs.{WF}
use Rattle.spec_c_dumper.specs.needs.Session.{dump_types, no_names}
use Rattle.spec_c_dumper.proofs.needs.AnyNames.{dumps_alike}
use Rattle.proof_demands.proofs.name_counts.Holders.{count_there}
use Rattle.spec_c_dumper.specs.names_apart.Apart.{table_names, Who, of_type, of_value, Shown, Apart, spellings_in, is_name_among, taken, passing, number_for, shown, type_apart, value_apart, apart, none_shown, dump_apart, Ends}
use Rattle.spec_c_dumper.proofs.rules.Names.{bytes_same, space_same, spelled_later, spelled_low, count_here}
use Rattle.proof_names_apart.specs.names_apart.Alike.{Suffixless}
use Rattle.proof_names_apart.proofs.names_apart.Splits.{splits_once}
use Rattle.proof_names_apart.proofs.names_apart.Fair.{same_or_not, grows, space_of, entry}
use Rattle.proof_names_apart.proofs.names_apart.Session.{Fits, FitsValue, fits}

-- ---- what is among names stands there

pub among_mem : (x : Name) (l : List Name) → is_name_among x l ≡ true → Memᴰ x l
unfolding is_name_among
among_mem x [] e = absurd (true≢false (sym e))
among_mem x (y ∷ l) e = go (same_bytes x y) refl e (among_mem x l)
  where
    go : (t : Bool) → same_bytes x y ≡ t → elim t as (λ w. Bool) [ true ↦ true | false ↦ is_name_among x l ] ≡ true → (is_name_among x l ≡ true → Memᴰ x l) → Memᴰ x (y ∷ l)
    go true q r f = Memᴰ.head (bytes_same x y q)
    go false q r f = Memᴰ.tail (f r)

pub in_spellings : (space : Space) (l : List Shown) (s : Name) → Memᴰ s (spellings_in space l) → (b : Shown) × Memᴰ b l × (b.space ≡ space) × (s ≡ b.spelling)
unfolding spellings_in
in_spellings space [] s m = absurd (Memᴰ.not-nil m)
in_spellings space (p ∷ l) s m = go (same_space p.space space) refl m (in_spellings space l s)
  where
    on : (b : Shown) × Memᴰ b l × (b.space ≡ space) × (s ≡ b.spelling) → (b : Shown) × Memᴰ b (p ∷ l) × (b.space ≡ space) × (s ≡ b.spelling)
    on r = (r.0, Memᴰ.tail r.1, r.2, r.3)

    go : (t : Bool) → same_space p.space space ≡ t → Memᴰ s (elim t as (λ w. List Name) [ true ↦ p.spelling ∷ spellings_in space l | false ↦ spellings_in space l ])
        → (Memᴰ s (spellings_in space l) → (b : Shown) × Memᴰ b l × (b.space ≡ space) × (s ≡ b.spelling))
        → (b : Shown) × Memᴰ b (p ∷ l) × (b.space ≡ space) × (s ≡ b.spelling)
    go true q k f = ⊎_elim (λ e. (p, Memᴰ.head refl, space_same p.space space q, e)) (λ k'. on (f k')) (Memᴰ.cases_cons k)
    go false q k f = on (f k)

-- ---- a free number is taken at once; the largest stays

stays : (t : ℕ → Bool) (most n : ℕ) → t n ≡ false → passing t most n ≡ n
unfolding passing
stays t zero n e = refl
stays t (suc most) n e = ap (λ (b : Bool). elim b as (λ w. ℕ) [ true ↦ passing t most (one_more n) | false ↦ n ]) e

sticks : (t : ℕ → Bool) (most n : ℕ) → one_more n ≡ n → passing t most n ≡ n
unfolding passing
sticks t zero n e = refl
sticks t (suc most) n e = go (t n) (sticks t most n e)
  where
    go : (b : Bool) → passing t most n ≡ n → elim b as (λ w. ℕ) [ true ↦ passing t most (one_more n) | false ↦ n ] ≡ n
    go true r = ap (passing t most) e ∙ r
    go false r = refl

pub more_first : one_more 0 ≡ 1
unfolding one_more
more_first = refl

-- the number of the Rust, where the suffix with it is not passed over
pub not_passed : (B : Btf) (space : Space) (name : Name) (u : Apart) → is_name_among (spelled name (one_more (holders u.names.ledger space name))) (taken B space u) ≡ false
    → number_for B space name u ≡ one_more (holders u.names.ledger space name)
unfolding number_for
not_passed B space name u e = go (eqb h 0) refl
  where
    h : ℕ
    h = holders u.names.ledger space name

    go : (t : Bool) → eqb (holders u.names.ledger space name) 0 ≡ t
        → elim t as (λ w. ℕ) [ true ↦ 1 | false ↦ passing (λ n. is_name_among (spelled name n) (taken B space u)) (length (taken B space u)) (one_more (holders u.names.ledger space name)) ]
        ≡ one_more (holders u.names.ledger space name)
    go true q = sym (ap one_more (eqb-true (holders u.names.ledger space name) 0 q) ∙ more_first)
    go false q = stays (λ n. is_name_among (spelled name n) (taken B space u)) (length (taken B space u)) (one_more (holders u.names.ledger space name)) e

module _ (B : Btf) (plain : Suffixless B) where
  -- a printed name is a name of the table, or one with a number that its holders have reached
  abbrev Reached : List Holder → Shown → Type 0
  Reached l a = Memᴰ a.spelling (table_names B a.space) ⊎ ((x : Name) × (n : ℕ) × (a.spelling ≡ spelled x n) × (2 ≤ n) × (n ≤ 4294967295) × (n ≤ holders l a.space x))

  pub record Usual (u : Apart) : Type 0 where
    pub reached : (a : Shown) → Memᴰ a u.printed → Reached u.names.ledger a
    pub limits : (space : Space) (name : Name) → holders u.names.ledger space name ≤ 4294967295
    pub numbers : (id : ℕ) → get_or u.names.versions id 0 ≤ holders u.names.ledger (space_of (B.type_by_id id)) (name_of (B.type_by_id id))

  -- a name of the table, with a number that its holders have reached
  entry_reached : (l : List Holder) (space : Space) (who : Who) (name : Name) (n : ℕ) → Memᴰ name (table_names B space) → n ≤ 4294967295 → n ≤ holders l space name → Reached l (entry space who name n)
  entry_reached l space who name n m b h = ⊎_elim (λ k. inl (subst (λ (x : Name). Memᴰ x (table_names B space)) (sym (spelled_low name n k)) m)) (λ k. inr (name, n, refl, k, b, h)) (cases_lt n 2)

  reached_more : (l : List Holder) (space : Space) (name : Name) (a : Shown) → Reached l a → Reached (with_one l space name) a
  reached_more l space name a (inl m) = inl m
  reached_more l space name a (inr r) = inr (r.0, r.1, r.2, r.3, r.4, omega (arith, r.5, grows l space name a.space r.0))

  module _ (space : Space) (name : Name) (is_name : Memᴰ name (table_names B space)) (u : Apart) (h : Usual u) where
    abbrev c : ℕ
    c = holders u.names.ledger space name

    free : (c ≡ 0 → ⊥) → c < 4294967295 → is_name_among (spelled name (one_more c)) (taken B space u) ≡ false
    free n l = go (is_name_among (spelled name (one_more c)) (taken B space u)) refl
      where
        up : one_more c ≡ c + 1
        up = more_is c l

        no_table : Memᴰ (spelled name (one_more c)) (table_names B space) → ⊥
        no_table m = plain space name is_name (one_more c) (omega (arith, up)) (omega (arith, up)) (subst (λ (x : Name). Memᴰ x (table_names B space)) (spelled_later name (one_more c) (omega (arith, up))) m)

        no_number : (b : Shown) → b.space ≡ space → spelled name (one_more c) ≡ b.spelling → Reached u.names.ledger b → ⊥
        no_number b e s (inl m) = no_table (subst (λ (x : Name). Memᴰ x (table_names B space)) (sym s) (subst (λ (x : Space). Memᴰ b.spelling (table_names B x)) e m))
        no_number b e s (inr r) =
            let q = splits_once name r.0 (one_more c) r.1 (omega (arith, up)) r.3 (omega (arith, up)) r.4 (s ∙ r.2) in
            let z : holders u.names.ledger b.space r.0 ≡ c = ap₂ (holders u.names.ledger) e (sym q.0) in
            omega (arith, z, q.1, r.5, up)

        go : (t : Bool) → is_name_among (spelled name (one_more c)) (taken B space u) ≡ t → t ≡ false
        go true q = absurd (⊎_elim no_table
            (λ m. let r = in_spellings space u.printed (spelled name (one_more c)) m in no_number r.0 r.2 r.3 (h.reached r.0 r.1))
            (Memᴰ.append_cases (table_names B space) (among_mem (spelled name (one_more c)) (taken B space u) q)))
        go false q = refl

    -- the number is that of the Rust
    pub usual_number : number_for B space name u ≡ one_more c
    unfolding number_for
    usual_number = go (eqb c 0) refl
      where
        go : (t : Bool) → eqb c 0 ≡ t → elim t as (λ w. ℕ) [ true ↦ 1 | false ↦ passing (λ n. is_name_among (spelled name n) (taken B space u)) (length (taken B space u)) (one_more c) ] ≡ one_more c
        go true q = sym (ap one_more (eqb-true c 0 q) ∙ more_first)
        go false q = ⊎_elim
            (λ l. stays (λ n. is_name_among (spelled name n) (taken B space u)) (length (taken B space u)) (one_more c) (free (eqb-false c 0 q) l))
            (λ l. let e : one_more c ≡ c = more_stuck c l in sticks (λ n. is_name_among (spelled name n) (taken B space u)) (length (taken B space u)) (one_more c) (ap one_more e))
            (cases_lt c 4294967295)

    -- and what is known stays so
    module _ (who : Who) (n : ℕ) (is_more : n ≡ one_more c) (versions : List ℕ)
        (holds : (id : ℕ) → (get_or versions id 0 ≡ get_or u.names.versions id 0) ⊎ ((space_of (B.type_by_id id) ≡ space) × (name_of (B.type_by_id id) ≡ name) × (get_or versions id 0 ≡ n))) where
      most : one_more c ≤ 4294967295
      most = ⊎_elim (λ l. omega (arith, more_is c l)) (λ l. omega (arith, more_stuck c l, h.limits space name)) (cases_lt c 4294967295)

      pub usual_then : Usual (record { names = record { versions = versions; ledger = with_one u.names.ledger space name }; printed = entry space who name n ∷ u.printed })
      usual_then = record {
        reached = λ a m. ⊎_elim
            (λ e. subst (Reached (with_one u.names.ledger space name)) (sym e) (entry_reached (with_one u.names.ledger space name) space who name n is_name (omega (arith, most, is_more)) (omega (arith, is_more, count_here space name u.names.ledger))))
            (λ k. reached_more u.names.ledger space name a (h.reached a k))
            (Memᴰ.cases_cons m);
        limits = λ space' name'. ⊎_elim
            (λ e. subst (λ (x : Space). holders (with_one u.names.ledger space name) x name' ≤ 4294967295) e.0 (subst (λ (x : Name). holders (with_one u.names.ledger space name) space x ≤ 4294967295) e.1 (omega (arith, most, count_here space name u.names.ledger))))
            (λ k. omega (arith, h.limits space' name', count_there space name space' name' k u.names.ledger))
            (same_or_not space space' name name');
        numbers = λ id. ⊎_elim
            (λ e. omega (arith, e, h.numbers id, grows u.names.ledger space name (space_of (B.type_by_id id)) (name_of (B.type_by_id id))))
            (λ e. let z : holders (with_one u.names.ledger space name) (space_of (B.type_by_id id)) (name_of (B.type_by_id id)) ≡ holders (with_one u.names.ledger space name) space name = ap₂ (holders (with_one u.names.ledger space name)) e.0 e.1 in
            omega (arith, z, e.2, is_more, count_here space name u.names.ledger))
            (holds id);
      }

  -- the same names as those of the Rust
  abbrev pub Like : Apart → Names → Type 0
  Like u w = (u.names ≡ w) × Usual u

  module _ (space : Space) (id : ℕ) (name : Name) (f : Fits B space id name) (u : Apart) (h : Usual u) where
    -- what both give, by whether the type has no number yet
    abbrev new_by : Bool → Resolved Apart
    new_by b = elim b as (λ (t : Bool). Resolved Apart) [
      | false ↦ record {
        passes = false;
        version = get_or u.names.versions id 0;
        names = record { names = u.names; printed = shown space (of_type id) name (get_or u.names.versions id 0) u };
      }
      | true ↦ record {
        passes = false;
        version = number_for B space name u;
        names = record {
          names = record { versions = set u.names.versions id (number_for B space name u); ledger = with_one u.names.ledger space name };
          printed = shown space (of_type id) name (number_for B space name u) u;
        };
      }
    ]

    abbrev old_by : Bool → Resolved Names
    old_by b = elim b as (λ (t : Bool). Resolved Names) [
      | false ↦ record { passes = false; version = get_or u.names.versions id 0; names = u.names }
      | true ↦ record {
        passes = false;
        version = one_more (holders u.names.ledger space name);
        names = record { versions = set u.names.versions id (one_more (holders u.names.ledger space name)); ledger = with_one u.names.ledger space name };
      }
    ]

    number_is : number_for B space name u ≡ one_more (holders u.names.ledger space name)
    number_is = usual_number space name f.2 u h

    its_holders : (n : ℕ) → n ≤ holders u.names.ledger (space_of (B.type_by_id id)) (name_of (B.type_by_id id)) → n ≤ holders u.names.ledger space name
    its_holders n l = let z : holders u.names.ledger space name ≡ holders u.names.ledger (space_of (B.type_by_id id)) (name_of (B.type_by_id id)) = ap₂ (holders u.names.ledger) f.0 f.1 in omega (arith, z, l)

    by_like : (b : Bool) → RelResolved Like (new_by b) (old_by b)
    by_like true = (
      refl,
      number_is,
      (
        ap {B = Names} (λ (n : ℕ). record { versions = set u.names.versions id n; ledger = with_one u.names.ledger space name }) number_is,
        usual_then space name f.2 u h (of_type id) (number_for B space name u) number_is (set u.names.versions id (number_for B space name u))
            (λ x. ⊎_elim (λ e. inl e) (λ e. inr (ap (λ (k : ℕ). space_of (B.type_by_id k)) e.0 ∙ sym f.0, ap (λ (k : ℕ). name_of (B.type_by_id k)) e.0 ∙ sym f.1, e.1)) (set_one u.names.versions id (number_for B space name u) x)),
      ),
    )
    by_like false = (
      refl,
      refl,
      (
        refl,
        record {
          reached = λ a m. ⊎_elim
              (λ e. subst (Reached u.names.ledger) (sym e) (entry_reached u.names.ledger space (of_type id) name (get_or u.names.versions id 0) f.2 (omega (arith, its_holders (get_or u.names.versions id 0) (h.numbers id), h.limits space name)) (its_holders (get_or u.names.versions id 0) (h.numbers id))))
              (h.reached a)
              (Memᴰ.cases_cons m);
          limits = h.limits;
          numbers = h.numbers;
        },
      ),
    )

    type_like : RelResolved Like (type_apart B space id name u) (type_version space id name u.names)
    unfolding type_apart type_version
    type_like = by_like (eqb (get_or u.names.versions id 0) 0)

  value_like : (id i : ℕ) (name : Name) → FitsValue B id i name → (u : Apart) → Usual u → RelResolved Like (value_apart B id i name u) (value_version name u.names)
  unfolding value_apart value_version
  value_like id i name f u h =
      let e : number_for B ident_space name u ≡ one_more (holders u.names.ledger ident_space name) = usual_number ident_space name f u h in
      (refl, e, (refl, usual_then ident_space name f u h (of_value id i) (number_for B ident_space name u) e u.names.versions (λ x. inl refl)))

  like : RelNaming Like (Fits B) (FitsValue B) (apart B) naming
  like = record {
    rel_type = λ space id name f e u v r. subst (λ (w : Names). RelResolved Like (type_apart B space id name u) (type_version space id name w)) r.0 (type_like space id name f u r.1);
    rel_value = λ id i name f u v r. subst (λ (w : Names). RelResolved Like (value_apart B id i name u) (value_version name w)) r.0 (value_like id i name f u r.1);
    rel_leaving = λ h x q u v r. r;
  }

  none_usual : Usual (none_shown B)
  unfolding holders
  none_usual = record {
    reached = λ a m. absurd (Memᴰ.not-nil m);
    limits = λ space name. omega arith;
    numbers = λ id. all_zero_lem B.type_cnt id;
  }
    where
      all_zero_lem : (k id : ℕ) → get_or {A = ℕ} (replicate k 0) id 0 ≤ 0
      all_zero_lem zero id = omega arith
      all_zero_lem (suc k) zero = omega arith
      all_zero_lem (suc k) (suc id) = all_zero_lem k id

  -- "Where no suffix is passed over, both modes print alike": the same numbers, lengths and text, for every list of requests
  pub modes_alike : Ends B → WF (table_of B) → (rs : List Req) → dump_apart B rs ≡ dump_types B rs
  modes_alike ends below rs = dumps_alike Like (Fits B) (FitsValue B) (apart B) naming like B (fits B ends) below (none_shown B) (no_names B) (refl, none_usual) rs
