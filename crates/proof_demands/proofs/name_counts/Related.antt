-- The names in the work and the names of the Rust: alike at first, and alike after each name that is given. Assumes nothing.
use Prim.Native.Nat.{ℕ, ◌+◌, ◌<◌}
use mathlib.Core.Path.{◌≡◌, refl, ap, ap₂, ◌∙◌, sym, subst}
use mathlib.Core.Bool.{Bool, true, false}
use mathlib.Core.List.{List}
use native.Mathlib.Omega.{arith}
use native.Mathlib.Decide.{ℕ_discrete}
use lib.ListN.{get_or, set, length-set, length-replicate, get_or-replicate}
use lib.Seq.{get_or-set_same, get_or-set_other}
use lib.Dec.{eqb}
use borrow.Author.Tests.{lt-ltb}
use Rattle.spec_bytes.specs.words.Words.{get_word, one_more}
use Rattle.spec_c_dumper.specs.rules.Types.{Name}
use Rattle.spec_c_dumper.specs.rules.Names.{Space, ident_space, Resolved, Names, holders, with_one as one_more_holds}
use Rattle.spec_c_dumper.proofs.rules.Related.{RelResolved, RelNaming}
use Rattle.spec_c_dumper.proofs.rules.Names.{count_here}
use Rattle.spec_type_table.specs.declared.types.TypeTable.{TypeTable}
use Rattle.spec_type_table.specs.Cells.{get_field, put_field, class_p, count_p, count_raised}
use Rattle.spec_type_table.specs.Numbers.{number_over, number_at}
use Rattle.spec_type_table.specs.Table.{enumerator_of, type_version_in, value_version_in, work_naming}
use Rattle.spec_type_table.proofs.Frame.{enumerator_same}
use Rattle.btf_open_names.specs.name_classes.Classes.{key_in, class_of}
use Rattle.proof_demands.specs.name_counts.Passed.{Lists, next_number, type_passed, value_passed, passed}
use Rattle.proof_demands.specs.name_counts.Indexed.{NameFits, FitsValue, Holds, Indexed, Listed, CountsKept}
use Rattle.proof_demands.specs.name_counts.Alike.{Alike, Fresh, no_names}
use Rattle.proof_demands.proofs.name_counts.Holders.{count_there}
use Rattle.proof_demands.proofs.name_counts.Keys.{one_class, class_space, class_name, type_holds, value_holds}
use Rattle.proof_demands.proofs.name_counts.Stores.{class_below, number_is, count_is, count_grows, count_stays, count_version, count_kept, version_here, version_there, version_count, version_kept}

module _ (b : TypeTable) (e : ℕ) (s w : List ℕ) (I : Indexed b e s w) where
  module _ (v : List ℕ) (u : Names) (a : Alike b e s w v u) where
    -- ---- one more holder of a name
    module _ (h : ℕ) (space : Space) (name : Name) (q : Holds b e s w h space name) where
      -- the version that it gets
      pub next_alike : {T : Lists} → Listed b e s w T → number_at b.types v h ≡ next_number T space name u
      next_alike L =
          number_is b e s w I v a.kept h q.below
          ∙ ap₂ number_over (L h space name q) (count_is b e s w I v a.kept h q.below ∙ ap one_more (a.its_count h space name q))

      counts_alike : (k : ℕ) (space' : Space) (name' : Name) → Holds b e s w k space' name'
          → get_word (count_raised (class_p b.types) (count_p b.types) v h) (count_p b.types (class_of (key_in b s w) k)) ≡ holders (one_more_holds u.ledger space name) space' name'
      counts_alike k space' name' r = go (ℕ_discrete (class_of (key_in b s w) k) (class_of (key_in b s w) h))
        where
          go : Dec (class_of (key_in b s w) k ≡ class_of (key_in b s w) h)
              → get_word (count_raised (class_p b.types) (count_p b.types) v h) (count_p b.types (class_of (key_in b s w) k)) ≡ holders (one_more_holds u.ledger space name) space' name'
          go (yes c) =
              ap (λ (x : ℕ). get_word (count_raised (class_p b.types) (count_p b.types) v h) (count_p b.types x)) c
              ∙ count_grows b e s w I v a.kept h q.below
              ∙ ap one_more (a.its_count h space name q)
              ∙ sym (count_here space name u.ledger)
              ∙ ap₂ (λ (x : Space) (n : Name). holders (one_more_holds u.ledger space name) x n) (class_space b e s w h k space space' name name' q r (sym c)) (class_name b e s w h k space space' name name' q r (sym c))
          go (no c) =
              count_stays b e s w I v a.kept h q.below (class_of (key_in b s w) k) c
              ∙ a.its_count k space' name' r
              ∙ sym (count_there space name space' name' (λ ex en. c (sym (one_class b e s w h k space space' name name' q r ex en))) u.ledger)

      pub count_alike : Alike b e s w (count_raised (class_p b.types) (count_p b.types) v h) (record { versions = u.versions; ledger = one_more_holds u.ledger space name })
      count_alike = record {
        kept = count_kept b e s w I v a.kept h q.below;
        sized = a.sized;
        its_version = λ id l. count_version b e s w I v a.kept h q.below id ∙ a.its_version id l;
        its_count = counts_alike;
      }

    -- ---- the version of a type
    module _ (id n : ℕ) (l : id < b.types) where
      versions_alike : (j : ℕ) → j < b.types → get_field (put_field v id 4 n) j 4 ≡ get_or (set u.versions id n) j 0
      versions_alike j m = go (ℕ_discrete j id)
        where
          go : Dec (j ≡ id) → get_field (put_field v id 4 n) j 4 ≡ get_or (set u.versions id n) j 0
          go (yes c) =
              ap (λ (x : ℕ). get_field (put_field v id 4 n) x 4) c
              ∙ version_here b e s w I v a.kept id n l
              ∙ sym (get_or-set_same u.versions id n 0 (omega (arith, a.sized)))
              ∙ ap (λ (x : ℕ). get_or (set u.versions id n) x 0) (sym c)
          go (no c) =
              version_there b e s w I v a.kept id n l j c
              ∙ a.its_version j m
              ∙ sym (get_or-set_other u.versions id j n 0 c)

      pub version_alike : Alike b e s w (put_field v id 4 n) (record { versions = set u.versions id n; ledger = u.ledger })
      version_alike = record {
        kept = version_kept b e s w I v a.kept id n l;
        sized = length-set u.versions id n ∙ a.sized;
        its_version = versions_alike;
        its_count = λ h space name q. version_count b e s w I v a.kept id n l (class_of (key_in b s w) h) ∙ a.its_count h space name q;
      }

    -- stores to other words leave the names as they are
    pub alike_kept : (v' : List ℕ) → CountsKept b e s w v' → ((id : ℕ) → id < b.types → get_field v' id 4 ≡ get_field v id 4)
        → ((h : ℕ) → h < b.types + e → get_word v' (count_p b.types h) ≡ get_word v (count_p b.types h)) → Alike b e s w v' u
    alike_kept v' k ev ec = record {
      kept = k;
      sized = a.sized;
      its_version = λ id l. ev id l ∙ a.its_version id l;
      its_count = λ h space name q. ec (class_of (key_in b s w) h) (class_below b e s w I v a.kept h q.below) ∙ a.its_count h space name q;
    }

  -- ---- a name of a type
  module _ {T : Lists} (L : Listed b e s w T) (v : List ℕ) (u : Names) (a : Alike b e s w v u) (space : Space) (id : ℕ) (name : Name) (f : NameFits b s w space id name) where
    q : Holds b e s w id space name
    q = type_holds b e s w id space name f

    type_new : Alike b e s w (put_field (count_raised (class_p b.types) (count_p b.types) v id) id 4 (number_at b.types v id))
        (record { versions = set u.versions id (next_number T space name u); ledger = one_more_holds u.ledger space name })
    type_new =
        subst
        (λ (n : ℕ). Alike b e s w (put_field (count_raised (class_p b.types) (count_p b.types) v id) id 4 (number_at b.types v id)) (record { versions = set u.versions id n; ledger = one_more_holds u.ledger space name }))
        (next_alike v u a id space name q L)
        (version_alike _ _ (count_alike v u a id space name q) id (number_at b.types v id) f.below)

    pub type_alike : RelResolved (Alike b e s w) (type_version_in b.types id v) (type_passed T space id name u)
    unfolding type_version_in type_passed
    type_alike =
        subst
        (λ (y : ℕ). RelResolved (Alike b e s w)
        (elim (eqb (get_field v id 4) 0) as (λ z. Resolved (List ℕ)) [ false ↦ record { passes = false; version = get_field v id 4; names = v } | true ↦ record { passes = false; version = n; names = put_field (count_raised (class_p b.types) (count_p b.types) v id) id 4 n } ])
        (elim (eqb y 0) as (λ z. Resolved Names) [ false ↦ record { passes = false; version = y; names = u } | true ↦ record { passes = false; version = m; names = record { versions = set u.versions id m; ledger = one_more_holds u.ledger space name } } ]))
        (a.its_version id f.below)
        (step (eqb (get_field v id 4) 0))
      where
        n : ℕ
        n = number_at b.types v id

        m : ℕ
        m = next_number T space name u

        step : (t : Bool)
            → RelResolved (Alike b e s w)
            (elim t as (λ z. Resolved (List ℕ)) [ false ↦ record { passes = false; version = get_field v id 4; names = v } | true ↦ record { passes = false; version = n; names = put_field (count_raised (class_p b.types) (count_p b.types) v id) id 4 n } ])
            (elim t as (λ z. Resolved Names) [ false ↦ record { passes = false; version = get_field v id 4; names = u } | true ↦ record { passes = false; version = m; names = record { versions = set u.versions id m; ledger = one_more_holds u.ledger space name } } ])
        step false = (refl, refl, a)
        step true = (refl, next_alike v u a id space name q L, type_new)

  -- ---- a name of a value
  module _ {T : Lists} (L : Listed b e s w T) (v : List ℕ) (u : Names) (a : Alike b e s w v u) (id i : ℕ) (name : Name) (f : FitsValue b s w id i name) where
    -- the enumerator is the one that opening numbered
    same_enumerator : enumerator_of v id i ≡ enumerator_of w id i
    same_enumerator = enumerator_same v w id i (a.kept.first id f.value.below)

    number_alike : RelResolved (Alike b e s w) (value_version_in b.types (enumerator_of w id i) v) (value_passed T name u)
    unfolding value_version_in value_passed
    number_alike =
        let l : enumerator_of w id i < e = I.numbered id i f.value in
        let m : b.types + enumerator_of w id i < 4294967296 = omega (arith, I.room.numbered) in
        let q : Holds b e s w (b.types + enumerator_of w id i) ident_space name = value_holds b e s w I id i name f in
        subst
        (λ (t : Bool). RelResolved (Alike b e s w)
        (elim t as (λ z. Resolved (List ℕ)) [ true ↦ record { passes = false; version = number_at b.types v (b.types + enumerator_of w id i); names = count_raised (class_p b.types) (count_p b.types) v (b.types + enumerator_of w id i) } | false ↦ record { passes = false; version = 0; names = v } ])
        (value_passed T name u))
        (sym (lt-ltb (b.types + enumerator_of w id i) 4294967296 m))
        (refl, next_alike v u a (b.types + enumerator_of w id i) ident_space name q L, count_alike v u a (b.types + enumerator_of w id i) ident_space name q)

    pub value_alike : RelResolved (Alike b e s w) (value_version_in b.types (enumerator_of v id i) v) (value_passed T name u)
    value_alike = subst (λ (k : ℕ). RelResolved (Alike b e s w) (value_version_in b.types k v) (value_passed T name u)) (sym same_enumerator) number_alike

  -- the names kept in the work are those over the lists: with none, the Rust's names
  pub work_names : {T : Lists} → Listed b e s w T → RelNaming (Alike b e s w) (NameFits b s w) (FitsValue b s w) (work_naming b) (passed T)
  unfolding work_naming
  work_names L = record {
    rel_type = λ space id name f n v u a. type_alike L v u a space id name f;
    rel_value = λ id i name f v u a. value_alike L v u a id i name f;
    rel_leaving = λ h x q v u a. a;
  }

  -- ---- at first
  pub kept_self : CountsKept b e s w w
  kept_self = record { long = refl; class = λ h l. refl; place = λ h l. refl; first = λ id l. refl; heads = λ h. refl; nexts = λ h. refl; takens = λ h. refl }

  pub alike_first : Fresh b e s w → Alike b e s w w (no_names b)
  unfolding holders
  alike_first z = record {
    kept = kept_self;
    sized = length-replicate b.types 0;
    its_version = λ id l. z.no_version id l ∙ sym (get_or-replicate b.types id 0 0 l);
    its_count = λ h space name q. z.no_count (class_of (key_in b s w) h) (class_below b e s w I w kept_self h q.below);
  }
