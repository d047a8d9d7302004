-- What it comes to: the text of every line and of every list of requests is the same with the names in the work and with the names
-- over lists of taken numbers, which without any are those of the Rust; and document 01, "Name ledger", sentence by sentence, of the names of the Rust. Assumes nothing.
use Prim.Native.Nat.{ℕ, suc, zero-le, ◌+◌, ◌<◌, ◌≤◌}
use mathlib.Core.Path.{◌≡◌, refl, ap, ap₂, ◌∙◌, sym}
use mathlib.Core.Bool.{Bool, true, false, ◌&&◌, true≢false}
use mathlib.Core.List.{List, [], ◌∷◌, ◌++◌}
use mathlib.Core.Logic.{◌≢◌}
use native.Mathlib.Omega.{arith}
use native.Mathlib.Numerals.{add-one}
use lib.ListN.{length, get_or, set}
use lib.Seq.{get_or-set_same, get_or-set_other}
use lib.Dec.{eqb, ltb}
use borrow.Author.Tests.{ne_eqb, lt-ltb}
use Rattle.spec_bytes.specs.words.Words.{one_more, pick}
use Rattle.spec_bytes.specs.text.Text.{ascii}
use Rattle.spec_bytes.specs.text.Decimal.{decimal}
use Rattle.spec_c_dumper.specs.rules.Writer.{said_text, said_names}
use Rattle.spec_c_dumper.specs.rules.Types.{Name, table_of}
use Rattle.spec_c_dumper.specs.rules.Names.{Space, tag_space, ident_space, spelled, Resolved, Holder, Names, same_space, same_bytes, holds, holders, with_one, type_version, value_version, naming}
use Rattle.spec_c_dumper.specs.rules.Emit.{definition, forward}
use Rattle.spec_c_dumper.specs.rules.Machine.{Req}
use Rattle.spec_c_dumper.proofs.rules.Related.{RelSaid, rel_text, rel_names, rel_definition, rel_forward}
use Rattle.spec_type_table.specs.declared.types.TypeTable.{TypeTable}
use Rattle.spec_type_table.specs.Numbers.{settled, number_over, number_at}
use Rattle.spec_type_table.specs.Table.{btf_of, work_naming}
use Rattle.btf_open_names.specs.name_classes.Classes.{key_in, class_of}
use Rattle.spec_c_dumper.specs.needs.Needs.{WF}
use Rattle.spec_c_dumper.specs.needs.Session.{dumped, opened_by}
use Rattle.spec_c_dumper.proofs.needs.AnyNames.{dumps_alike}
use Rattle.spec_c_dumper.proofs.rules.Names.{holds_same, holds_equal, count_here, spelled_later}
use Rattle.proof_demands.specs.name_counts.Passed.{Lists, next_number, type_passed, value_passed, passed, none}
use Rattle.proof_demands.specs.name_counts.Indexed.{NameFits, FitsValue, Holds, Indexed, Listed}
use Rattle.proof_demands.specs.name_counts.Alike.{Alike, Fresh, no_names}
use Rattle.proof_demands.specs.name_counts.Printed.{ledger_of, times}
use Rattle.proof_demands.proofs.name_counts.Holders.{count_there}
use Rattle.proof_demands.proofs.name_counts.Keys.{one_class, class_space, class_name}
use Rattle.proof_demands.proofs.name_counts.Related.{next_alike, work_names, alike_first}
use Rattle.proof_demands.proofs.name_counts.Table.{fits_table}
use Rattle.proof_demands.proofs.name_counts.Now.{fits_now}

-- ---- w is the work after opening
module _ (b : TypeTable) (e : ℕ) (s w : List ℕ) (I : Indexed b e s w) {T : Lists} (L : Listed b e s w T) where
  -- the work v now; the names there and those of the Rust are alike
  module _ (v : List ℕ) (u : Names) (a : Alike b e s w v u) (id : ℕ) where
    definitions : RelSaid (Alike b e s w) (definition (work_naming b) (btf_of b s v) id ((btf_of b s v).type_by_id id) v) (definition (passed T) (btf_of b s v) id ((btf_of b s v).type_by_id id) u)
    definitions =
        rel_definition (Alike b e s w) (NameFits b s w) (FitsValue b s w) (work_naming b) (passed T) (work_names b e s w I L) (btf_of b s v) (fits_now b e s w v a.kept)
        id ((btf_of b s v).type_by_id id) (fits_now b e s w v a.kept id) v u a

    forwards : RelSaid (Alike b e s w) (forward (work_naming b) (btf_of b s v) id ((btf_of b s v).type_by_id id) v) (forward (passed T) (btf_of b s v) id ((btf_of b s v).type_by_id id) u)
    forwards =
        rel_forward (Alike b e s w) (NameFits b s w) (FitsValue b s w) (work_naming b) (passed T) (work_names b e s w I L) (btf_of b s v) (fits_now b e s w v a.kept)
        id ((btf_of b s v).type_by_id id) (fits_now b e s w v a.kept id) v u a

    -- a definition: the same text, and names that are alike after it
    pub definition_text : said_text (definition (work_naming b) (btf_of b s v) id ((btf_of b s v).type_by_id id) v) ≡ said_text (definition (passed T) (btf_of b s v) id ((btf_of b s v).type_by_id id) u)
    definition_text = rel_text (Alike b e s w) definitions

    pub definition_names : Alike b e s w (said_names (definition (work_naming b) (btf_of b s v) id ((btf_of b s v).type_by_id id) v)) (said_names (definition (passed T) (btf_of b s v) id ((btf_of b s v).type_by_id id) u))
    definition_names = rel_names (Alike b e s w) definitions

    -- a forward line or a typedef: the same
    pub forward_text : said_text (forward (work_naming b) (btf_of b s v) id ((btf_of b s v).type_by_id id) v) ≡ said_text (forward (passed T) (btf_of b s v) id ((btf_of b s v).type_by_id id) u)
    forward_text = rel_text (Alike b e s w) forwards

    pub forward_names : Alike b e s w (said_names (forward (work_naming b) (btf_of b s v) id ((btf_of b s v).type_by_id id) v)) (said_names (forward (passed T) (btf_of b s v) id ((btf_of b s v).type_by_id id) u))
    forward_names = rel_names (Alike b e s w) forwards

  -- "the n-th": the number that the next holder of a name gets in the work is the one over its list of taken numbers; with none, the one that the Rust gives it
  pub next_number_lem : (v : List ℕ) (u : Names) → Alike b e s w v u → (h : ℕ) (space : Space) (name : Name) → Holds b e s w h space name
      → number_at b.types v h ≡ next_number T space name u
  next_number_lem v u a h space name q = next_alike b e s w I v u a h space name q L

  -- "a name": two holders share a count if and only if they have the same space and the same bytes
  pub one_count : (h k : ℕ) (x y : Space) (m n : Name) → Holds b e s w h x m → Holds b e s w k y n
      → (class_of (key_in b s w) h ≡ class_of (key_in b s w) k → (x ≡ y) × (m ≡ n)) × (x ≡ y → m ≡ n → class_of (key_in b s w) h ≡ class_of (key_in b s w) k)
  one_count h k x y m n p q = (λ c. (class_space b e s w h k x y m n p q c, class_name b e s w h k x y m n p q c), one_class b e s w h k x y m n p q)

  -- a list of requests after opening: the same numbers, lengths and text
  pub same_dumps : Fresh b e s w → WF (table_of (btf_of b s w)) → (rs : List Req) → dumped (work_naming b) (btf_of b s w) [] rs (opened_by (work_naming b) (btf_of b s w) w) ≡ dumped (passed T) (btf_of b s w) [] rs (opened_by (passed T) (btf_of b s w) (no_names b))
  unfolding btf_of
  same_dumps z wf rs =
      dumps_alike (Alike b e s w) (NameFits b s w) (FitsValue b s w) (work_naming b) (passed T) (work_names b e s w I L) (btf_of b s w) (fits_table b s w) wf
      w (no_names b) (alike_first b e s w I z) rs

-- without taken numbers the names are those of the Rust
pub none_is : passed none ≡ naming
unfolding type_passed value_passed type_version value_version number_over settled
none_is = refl

-- ---- 01, Name ledger, sentence by sentence, of the names of the Rust
-- "Two spaces: tags; typedefs with enumerators.": what one space holds changes nothing in the other
pub two_spaces : (l : List Holder) (m n : Name) → (holders (with_one l tag_space m) ident_space n ≡ holders l ident_space n) × (holders (with_one l ident_space m) tag_space n ≡ holders l tag_space n)
two_spaces l m n =
    (count_there tag_space m ident_space n (λ q r. other q) l, count_there ident_space m tag_space n (λ q r. other (sym q)) l)
  where
    other : tag_space ≡ ident_space → ⊥
    other q = true≢false (ap (λ (x : Space). same_space tag_space x) q)

-- "a name": by content, byte for byte
pub by_content : (h : Holder) (space : Space) (name : Name) → (holds h space name ≡ true → (h.space ≡ space) × (h.name ≡ name)) × (h.space ≡ space → h.name ≡ name → holds h space name ≡ true)
by_content h space name = (holds_same h space name, holds_equal h space name)

-- "The first holder of a name prints it bare"
pub bare : (name : Name) → spelled name 1 ≡ name
unfolding spelled
bare name = refl

-- "the n-th, from n = 2, adds three underscores and n"
pub numbered : (name : Name) (n : ℕ) → 2 ≤ n → spelled name n ≡ name ++ ascii "___" ++ decimal n
numbered = spelled_later

-- and after a list of names the next holder of a name is the n-th if n - 1 of the list have its space and its bytes
module _ (space : Space) (name : Name) where
  times_le : (l : List (Space × Name)) → times space name l ≤ length l
  unfolding times
  times_le [] = zero-le
  times_le (p ∷ l) = step (same_space p.0 space && same_bytes p.1 name) (times_le l)
    where
      step : (t : Bool) → times space name l ≤ length l → elim t as (λ z. ℕ) [ true ↦ suc (times space name l) | false ↦ times space name l ] ≤ suc (length l)
      step true h = omega arith
      step false h = omega arith

  more : (n : ℕ) → n < 4294967295 → one_more n ≡ suc n
  unfolding one_more
  more n l = ap (λ (t : Bool). pick t (n + 1) n) (lt-ltb n 4294967295 l) ∙ add-one n

  both : (x : Space) (y : Name) → (same_space x space && same_bytes y name) ≡ holds (record { space = x; name = y; count = 0 }) space name
  unfolding holds
  both x y = step (same_space x space)
    where
      step : (t : Bool) → (t && same_bytes y name) ≡ elim t as (λ z. Bool) [ true ↦ same_bytes y name | false ↦ false ]
      step true = refl
      step false = refl

  holders_times : (l : List (Space × Name)) → length l < 4294967295 → holders (ledger_of l) space name ≡ times space name l
  unfolding ledger_of times holders
  holders_times [] m = refl
  holders_times (p ∷ l) m = step (same_space p.0 space && same_bytes p.1 name) refl (holders_times l (omega arith))
    where
      H : Holder
      H = record { space = p.0; name = p.1; count = 0 }

      step : (t : Bool) → (same_space p.0 space && same_bytes p.1 name) ≡ t → holders (ledger_of l) space name ≡ times space name l
          → holders (with_one (ledger_of l) p.0 p.1) space name ≡ elim t as (λ z. ℕ) [ true ↦ suc (times space name l) | false ↦ times space name l ]
      step true q f =
          let r : (p.0 ≡ space) × (p.1 ≡ name) = holds_same H space name (sym (both p.0 p.1) ∙ q) in
          ap₂ (λ (x : Space) (y : Name). holders (with_one (ledger_of l) x y) space name) r.0 r.1
          ∙ count_here space name (ledger_of l)
          ∙ ap one_more f
          ∙ more (times space name l) (omega (arith, times_le l))
      step false q f =
          count_there p.0 p.1 space name (λ x y. true≢false (sym (holds_equal H space name x y) ∙ sym (both p.0 p.1) ∙ q)) (ledger_of l)
          ∙ f

  pub nth : (l : List (Space × Name)) → length l < 4294967295 → one_more (holders (ledger_of l) space name) ≡ suc (times space name l)
  nth l m = ap one_more (holders_times l m) ∙ more (times space name l) (omega (arith, times_le l))

-- "A type's name is kept": asked again, it has the same version, and no name gets a holder
module _ (space : Space) (id : ℕ) (name : Name) (u : Names) where
  one_no_zero : (n : ℕ) → one_more n ≢ 0
  unfolding one_more
  one_no_zero n = step (ltb n 4294967295) refl
    where
      step : (t : Bool) → ltb n 4294967295 ≡ t → pick t (n + 1) n ≢ 0
      step true q z = omega arith
      step false q z = true≢false (sym (lt-ltb n 4294967295 (omega arith)) ∙ q)

  has_version : (x : Names) (n : ℕ) → get_or x.versions id 0 ≡ n → n ≢ 0 → type_version space id name x ≡ record { passes = false; version = n; names = x }
  unfolding type_version one_more
  has_version x n q z =
      ap (λ (t : Bool). elim t as (λ z. Resolved Names) [ false ↦ record { passes = false; version = get_or x.versions id 0; names = x } | true ↦ record { passes = false; version = one_more (holders x.ledger space name); names = record { versions = set x.versions id (one_more (holders x.ledger space name)); ledger = with_one x.ledger space name } } ]) (ap (λ (k : ℕ). eqb k 0) q ∙ ne_eqb n 0 z)
      ∙ (λ i. record { passes = false; version = q i; names = x })

  pub kept_name : id < length u.versions → type_version space id name (type_version space id name u).names ≡ type_version space id name u
  unfolding type_version one_more
  kept_name l = step (eqb (get_or u.versions id 0) 0) refl
    where
      m : ℕ
      m = one_more (holders u.ledger space name)

      step : (t : Bool) → eqb (get_or u.versions id 0) 0 ≡ t
          → type_version space id name (elim t as (λ z. Resolved Names) [ false ↦ record { passes = false; version = get_or u.versions id 0; names = u } | true ↦ record { passes = false; version = m; names = record { versions = set u.versions id m; ledger = with_one u.ledger space name } } ]).names
          ≡ elim t as (λ z. Resolved Names) [ false ↦ record { passes = false; version = get_or u.versions id 0; names = u } | true ↦ record { passes = false; version = m; names = record { versions = set u.versions id m; ledger = with_one u.ledger space name } } ]
      step true q = has_version (record { versions = set u.versions id m; ledger = with_one u.ledger space name }) m (get_or-set_same u.versions id m 0 l) (one_no_zero (holders u.ledger space name))
      step false q = has_version u (get_or u.versions id 0) refl (λ z. true≢false (sym (ap (λ (n : ℕ). eqb n 0) z) ∙ q))

  -- and no other type's name changes it
  pub other_kept : (j : ℕ) → j ≢ id → get_or (type_version space id name u).names.versions j 0 ≡ get_or u.versions j 0
  unfolding type_version one_more
  other_kept j n = step (eqb (get_or u.versions id 0) 0)
    where
      m : ℕ
      m = one_more (holders u.ledger space name)

      step : (t : Bool) → get_or (elim t as (λ z. Resolved Names) [ false ↦ record { passes = false; version = get_or u.versions id 0; names = u } | true ↦ record { passes = false; version = m; names = record { versions = set u.versions id m; ledger = with_one u.ledger space name } } ]).names.versions j 0 ≡ get_or u.versions j 0
      step true = get_or-set_other u.versions id j m 0 n
      step false = refl

-- "an enumerator counts each time it is printed": it has the number that its name's holders then have, and no type's name changes
pub counts_each_time : (name : Name) (u : Names)
    → ((value_version name u).version ≡ one_more (holders u.ledger ident_space name))
    × (holders (value_version name u).names.ledger ident_space name ≡ one_more (holders u.ledger ident_space name))
    × ((value_version name u).names.versions ≡ u.versions)
unfolding value_version
counts_each_time name u = (refl, count_here ident_space name u.ledger, refl)
