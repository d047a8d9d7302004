-- The lists of a work are those at the classes of its holders; where every list is empty, the names are those of the Rust. Assumes nothing.
use Prim.Native.Nat.{ℕ, zero, suc, ◌+◌, ◌-◌, ◌<◌}
use mathlib.Core.Path.{◌≡◌, ap, ◌∙◌, sym}
use mathlib.Core.Bool.{Bool, true}
use mathlib.Core.List.{List, [], ◌∷◌}
use mathlib.Core.Logic.{◌≢◌}
use native.Mathlib.Omega.{arith}
use Rattle.spec_bytes.specs.words.Words.{get_word, pick}
use Rattle.spec_c_dumper.specs.rules.Types.{Name}
use Rattle.spec_c_dumper.specs.rules.Names.{Space, tag_space, ident_space}
use Rattle.spec_type_table.specs.declared.types.TypeTable.{TypeTable}
use Rattle.spec_type_table.specs.Numbers.{head_p, numbers_from, taken_at}
use Rattle.btf_open_names.specs.name_classes.Same.{same_list}
use Rattle.btf_open_names.specs.name_classes.Classes.{least, class_of, record_p, name_of, key_of, key_in}
use Rattle.btf_open_names.proofs.name_classes.Laws.{class_key, class_le}
use Rattle.btf_open_names.proofs.name_classes.Names.{same_from}
use Rattle.btf_open_names.proofs.name_classes.Keys.{key_some}
use Rattle.proof_demands.specs.name_counts.Passed.{none}
use Rattle.proof_demands.specs.name_counts.Indexed.{number, Holds, Listed, lists_in}

pub number_named : (space : Space) → number space ≢ 2
unfolding number
number_named tag_space e = absurd (omega (arith, e))
number_named ident_space e = absurd (omega (arith, e))

least_stays : (p : ℕ → Bool) (h d : ℕ) → p (least p h) ≡ true → least p (h + d) ≡ least p h
unfolding least
least_stays p h zero e = let q : h + 0 ≡ h = omega arith in ap (least p) q
least_stays p h (suc d) e =
    let q : h + suc d ≡ suc (h + d) = omega arith in
    let r : least p (h + d) ≡ least p h = least_stays p h d e in
    ap (least p) q ∙ ap (λ (t : Bool). pick t (least p (h + d)) (suc (h + d))) (ap p r ∙ e) ∙ r

module _ (b : TypeTable) (e : ℕ) (s w : List ℕ) where
  pub key_is : (h : ℕ) (space : Space) (name : Name) → Holds b e s w h space name → key_in b s w h ≡ number space ∷ name
  unfolding key_in
  key_is h space name q =
      ap (λ (x : ℕ). key_of s x (name_of b s (get_word w (record_p b.types h)))) q.its_space
      ∙ key_some s (number space) (name_of b s (get_word w (record_p b.types h))) (number_named space)
      ∙ ap (λ (l : List ℕ). number space ∷ l) (sym q.its_name)

  module _ (h : ℕ) where
    abbrev same : ℕ → Bool
    same c = same_list (key_in b s w c) (key_in b s w h)

    found : same (least same h) ≡ true
    unfolding class_of
    found = sym (same_from _ _ (class_key (key_in b s w) h))

    class_all : h < b.types + e → class_of (key_in b s w) h ≡ least same (b.types + e)
    unfolding class_of
    class_all l =
        let whole : h + (b.types + e - h) ≡ b.types + e = omega arith in
        sym (least_stays same h (b.types + e - h) found) ∙ ap (least same) whole

  pub lists_are : Listed b e s w (lists_in b e s w)
  unfolding lists_in
  lists_are h space name q =
      ap (taken_at b.types w) (class_all h q.below ∙ ap (λ (k : List ℕ). least (λ c. same_list (key_in b s w c) k) (b.types + e)) (key_is h space name q))

  -- no list has a first holder
  module _ (z : (h : ℕ) → h < b.types + e → get_word w (head_p b.types h) ≡ 0) where
    none_taken : (c : ℕ) → c < b.types + e → taken_at b.types w c ≡ []
    unfolding taken_at numbers_from
    none_taken c l = ap (numbers_from 4294967296 b.types w 0) (z c l)

    pub lists_none : Listed b e s w none
    lists_none h space name q = none_taken (class_of (key_in b s w) h) (omega (arith, q.below, class_le (key_in b s w) h))
