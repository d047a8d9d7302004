-- Holders: two have the same class if and only if they have the same space and the same name; types and values are holders. Assumes nothing.
use Prim.Native.Nat.{ℕ, ◌+◌, ◌<◌}
use mathlib.Core.Path.{◌≡◌, refl, ap, ap₂, ◌∙◌, sym}
use mathlib.Core.List.{List, ◌∷◌, head-eq_of_cons-eq, tail-eq_of_cons-eq}
use mathlib.Core.Logic.{⊎_elim, ◌≢◌}
use native.Mathlib.Omega.{arith}
use Rattle.std.proofs.lemmas.Bool.{cases_lt}
use Rattle.spec_bytes.specs.words.Words.{get_word}
use Rattle.spec_c_dumper.specs.rules.Types.{Name}
use Rattle.spec_c_dumper.specs.rules.Names.{Space, tag_space, ident_space}
use Rattle.spec_type_table.specs.declared.types.TypeTable.{TypeTable}
use Rattle.spec_type_table.specs.declared.types.BtfType.{BtfType as Record}
use Rattle.spec_type_table.specs.Names.{name_at, str_at}
use Rattle.spec_type_table.specs.Records.{section_word, kind_of, record_at, void_record, record_by_id}
use Rattle.spec_type_table.specs.Table.{enumerator_of}
use Rattle.spec_type_table.proofs.Laws.{place_type, by_id, void_zero, void_past}
use Rattle.btf_open_names.specs.name_classes.Classes.{record_p, space_of, is_id_among, space_at, name_of, key_in, class_of}
use Rattle.btf_open_names.proofs.name_classes.Laws.{class_key, class_same}
use Rattle.btf_open_names.proofs.name_classes.Keys.{space_type, space_enum, name_is, key_some}
use Rattle.proof_demands.specs.name_counts.Indexed.{number, NameFits, FitsValue, Holds, Indexed}

pub number_one : (x y : Space) → number x ≡ number y → x ≡ y
unfolding number
number_one tag_space tag_space e = refl
number_one tag_space ident_space e = absurd (omega arith)
number_one ident_space tag_space e = absurd (omega arith)
number_one ident_space ident_space e = refl

-- a space is no "no space"
number_some : (x : Space) (n : ℕ) → n ≡ number x → n ≢ 2
unfolding number
number_some tag_space n e z = omega arith
number_some ident_space n e z = omega arith

module _ (b : TypeTable) (e : ℕ) (s w : List ℕ) where
  abbrev H : ℕ → Space → Name → Type 0
  H = Holds b e s w

  -- the key of a holder is the number of its space, and its name
  pub key_of_lem : (h : ℕ) (space : Space) (name : Name) → H h space name → key_in b s w h ≡ number space ∷ name
  unfolding key_in
  key_of_lem h space name q =
      key_some s (space_at b s (get_word w (record_p b.types h)) h) (name_of b s (get_word w (record_p b.types h))) (number_some space _ q.its_space)
      ∙ ap₂ (λ (x : ℕ) (l : List ℕ). x ∷ l) q.its_space (sym q.its_name)

  module _ (h k : ℕ) (x y : Space) (m n : Name) (p : H h x m) (q : H k y n) where
    -- the same space and the same name: the same class
    pub one_class : x ≡ y → m ≡ n → class_of (key_in b s w) h ≡ class_of (key_in b s w) k
    one_class ex em = class_same (key_in b s w) h k (key_of_lem h x m p ∙ ap₂ (λ (z : Space) (l : List ℕ). number z ∷ l) ex em ∙ sym (key_of_lem k y n q))

    -- and the other way round
    same_keys : class_of (key_in b s w) h ≡ class_of (key_in b s w) k → number x ∷ m ≡ number y ∷ n
    same_keys e = sym (key_of_lem h x m p) ∙ sym (class_key (key_in b s w) h) ∙ ap (key_in b s w) e ∙ class_key (key_in b s w) k ∙ key_of_lem k y n q

    pub class_space : class_of (key_in b s w) h ≡ class_of (key_in b s w) k → x ≡ y
    class_space e = number_one x y (head-eq_of_cons-eq (same_keys e))

    pub class_name : class_of (key_in b s w) h ≡ class_of (key_in b s w) k → m ≡ n
    class_name e = tail-eq_of_cons-eq (same_keys e)

-- ---- types
module _ (b : TypeTable) (s w : List ℕ) (id : ℕ) where
  -- void, and what lies past the table, has kind 0
  void_kind : (r : Record) → void_record ≡ r → kind_of r.info ≡ 0
  unfolding void_record
  void_kind r e = ap (λ (x : Record). kind_of x.info) (sym e)

  pub no_void : kind_of (record_by_id b s w id).info ≢ 0 → (id ≢ 0) × (id < b.types)
  no_void n = (zeroth, below)
    where
      zeroth : id ≢ 0
      zeroth z = n (void_kind _ (void_zero b s w id void_record z refl))

      below : id < b.types
      below = ⊎_elim (λ l. l) (λ l. absurd (n (void_kind _ (void_past b s w id void_record zeroth l refl)))) (cases_lt id b.types)

  pub record_there : id ≢ 0 → id < b.types → record_at b s (get_word w (record_p b.types id)) ≡ record_by_id b s w id
  record_there n l = by_id b s w id (get_word w (record_p b.types id)) _ n l (ap (get_word w) (sym (place_type b.types 0 0 id l))) refl

-- a kind with a space is not 0
some_kind : (k : ℕ) (space : Space) → space_of k ≡ number space → k ≢ 0
unfolding space_of is_id_among
some_kind k space e z = number_some space 2 (ap space_of (sym z) ∙ e) refl

module _ (b : TypeTable) (e : ℕ) (s w : List ℕ) where
  pub type_holds : (id : ℕ) (space : Space) (name : Name) → NameFits b s w space id name → Holds b e s w id space name
  unfolding record_at
  type_holds id space name f =
      let n : (id ≢ 0) × (id < b.types) = no_void b s w id (some_kind _ space f.its_space) in
      let r : record_at b s (get_word w (record_p b.types id)) ≡ record_by_id b s w id = record_there b s w id n.0 n.1 in
      record {
        below = omega (arith, n.1);
        its_space = sym (space_type b s (get_word w (record_p b.types id)) id (section_word b s (get_word w (record_p b.types id) + 4)) _ (number space) n.0 n.1 refl refl (sym f.its_space ∙ ap (λ (x : Record). space_of (kind_of x.info)) (sym r)));
        its_name = f.its_name ∙ ap (λ (x : Record). str_at b s x.name_off) (sym r) ∙ ap (name_at s) (name_is b s (get_word w (record_p b.types id)) _ refl);
      }

  -- ---- values
  module _ (I : Indexed b e s w) (id i : ℕ) (name : Name) (f : FitsValue b s w id i name) where
    abbrev k : ℕ
    k = b.types + enumerator_of w id i

    pub value_holds : Holds b e s w (b.types + enumerator_of w id i) ident_space name
    unfolding number
    value_holds =
        let l : enumerator_of w id i < e = I.numbered id i f.value in
        let m : id < b.types = f.value.below in
        record {
          below = omega arith;
          its_space = sym (space_enum b s (get_word w (record_p b.types k)) k (λ z. omega arith) (omega arith));
          its_name = f.its_name ∙ ap (λ (x : ℕ). str_at b s (section_word b s x)) (sym (I.place id i f.value)) ∙ ap (name_at s) (name_is b s (get_word w (record_p b.types k)) _ refl);
        }
