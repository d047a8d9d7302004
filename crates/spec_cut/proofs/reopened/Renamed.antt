-- A renamed type has its old kind and follows the new numbers of what it followed; and each number has an old id. Assumes nothing.
use Prim.Native.Nat.{ℕ, zero, suc, ◌<◌, ◌≤◌}
use native.Mathlib.Omega.{arith}
use mathlib.Core.Path.{◌≡◌, refl, sym, ◌∙◌, ap}
use mathlib.Core.Bool.{Bool, true, false, true≢false}
use mathlib.Core.List.{List, [], ◌∷◌, map}
use lib.ListN.{length, get_or}
use lib.Dec.{eqb}
use borrow.Author.Tests.{eqb-true, eqb-false}
use Rattle.spec_linux_btf.specs.Documentation.{Member, member, Param, param, int, ptr, array, struct, union, enum, fwd, typedef, volatile, const, restrict, func, func_proto, var, datasec, float, decl_tag, type_tag, enum64, Described, described}
use Rattle.spec_linux_btf.specs.Fields.{kind_in}
use Rattle.spec_cut.specs.section.Kept.{member_ids, param_ids, followed_ids, void_type, type_of, is_decl_tag}
use Rattle.spec_cut.specs.section.Renumbered.{kept_to, new_id, kept_types, new_members, new_params, renamed, renamed_all}
use Rattle.spec_cut.proofs.section.Numbers.{Stays, is_void, is_kept_lem, kept_yes, kept_no, new_zero, new_kept, type_at, new_below, renamed_at}

module _ (i o : ℕ → ℕ) where
  members_map : (ms : List Member) → member_ids (new_members i o ms) ≡ map i (member_ids ms)
  members_map [] = refl
  members_map (member n t bit size ∷ ms) = ap (λ (l : List ℕ). i t ∷ l) (members_map ms)

  params_map : (ps : List Param) → param_ids (new_params i o ps) ≡ map i (param_ids ps)
  params_map [] = refl
  params_map (param n t ∷ ps) = ap (λ (l : List ℕ). i t ∷ l) (params_map ps)

  pub followed_map : (t : Described) → followed_ids (renamed i o t) ≡ map i (followed_ids t)
  unfolding renamed
  followed_map (described n f z (int v a b c d e)) = refl
  followed_map (described n f z (ptr v)) = refl
  followed_map (described n f z (array v t x k)) = refl
  followed_map (described n f z (struct ms)) = members_map ms
  followed_map (described n f z (union ms)) = members_map ms
  followed_map (described n f z (enum es)) = refl
  followed_map (described n f z (fwd v)) = refl
  followed_map (described n f z (typedef v)) = refl
  followed_map (described n f z (volatile v)) = refl
  followed_map (described n f z (const v)) = refl
  followed_map (described n f z (restrict v)) = refl
  followed_map (described n f z (func v)) = refl
  followed_map (described n f z (func_proto ps)) = ap (λ (l : List ℕ). i z ∷ l) (params_map ps)
  followed_map (described n f z (var v l)) = refl
  followed_map (described n f z (datasec ss)) = refl
  followed_map (described n f z (float v)) = refl
  followed_map (described n f z (decl_tag v c)) = refl
  followed_map (described n f z (type_tag v)) = refl
  followed_map (described n f z (enum64 es)) = refl

  pub kind_same : (t : Described) → kind_in (renamed i o t) ≡ kind_in t
  unfolding renamed kind_in
  kind_same (described n f z (int v a b c d e)) = refl
  kind_same (described n f z (ptr v)) = refl
  kind_same (described n f z (array v t x k)) = refl
  kind_same (described n f z (struct ms)) = refl
  kind_same (described n f z (union ms)) = refl
  kind_same (described n f z (enum es)) = refl
  kind_same (described n f z (fwd v)) = refl
  kind_same (described n f z (typedef v)) = refl
  kind_same (described n f z (volatile v)) = refl
  kind_same (described n f z (const v)) = refl
  kind_same (described n f z (restrict v)) = refl
  kind_same (described n f z (func v)) = refl
  kind_same (described n f z (func_proto ps)) = refl
  kind_same (described n f z (var v l)) = refl
  kind_same (described n f z (datasec ss)) = refl
  kind_same (described n f z (float v)) = refl
  kind_same (described n f z (decl_tag v c)) = refl
  kind_same (described n f z (type_tag v)) = refl
  kind_same (described n f z (enum64 es)) = refl

pub tag_kind : (t : Described) → is_decl_tag t ≡ true → kind_in t ≡ 17
unfolding kind_in
tag_kind (described n f z (int v a b c d e)) h = absurd (true≢false (sym h))
tag_kind (described n f z (ptr v)) h = absurd (true≢false (sym h))
tag_kind (described n f z (array v t x k)) h = absurd (true≢false (sym h))
tag_kind (described n f z (struct ms)) h = absurd (true≢false (sym h))
tag_kind (described n f z (union ms)) h = absurd (true≢false (sym h))
tag_kind (described n f z (enum es)) h = absurd (true≢false (sym h))
tag_kind (described n f z (fwd v)) h = absurd (true≢false (sym h))
tag_kind (described n f z (typedef v)) h = absurd (true≢false (sym h))
tag_kind (described n f z (volatile v)) h = absurd (true≢false (sym h))
tag_kind (described n f z (const v)) h = absurd (true≢false (sym h))
tag_kind (described n f z (restrict v)) h = absurd (true≢false (sym h))
tag_kind (described n f z (func v)) h = absurd (true≢false (sym h))
tag_kind (described n f z (func_proto ps)) h = absurd (true≢false (sym h))
tag_kind (described n f z (var v l)) h = absurd (true≢false (sym h))
tag_kind (described n f z (datasec ss)) h = absurd (true≢false (sym h))
tag_kind (described n f z (float v)) h = absurd (true≢false (sym h))
tag_kind (described n f z (decl_tag v c)) h = refl
tag_kind (described n f z (type_tag v)) h = absurd (true≢false (sym h))
tag_kind (described n f z (enum64 es)) h = absurd (true≢false (sym h))

module _ (m : ℕ → Bool) where
  -- the id, at most n, that has a number
  abbrev pub old_to : ℕ → ℕ → ℕ
  old_to zero x = 0
  old_to (suc n) x = elim (m (suc n)) [ true ↦ elim (eqb (suc (kept_to m n)) x) [ true ↦ suc n | false ↦ old_to n x ] | false ↦ old_to n x ]

  abbrev Has : ℕ → ℕ → ℕ → Type 0
  Has n x old = Stays m old × (old ≤ n) × (new_id m old ≡ x)

  pub old_has : (n x : ℕ) → x ≤ kept_to m n → Has n x (old_to n x)
  unfolding kept_to
  old_has zero x l = (is_void, omega arith, new_zero m ∙ zero_is x l)
    where
      zero_is : (x : ℕ) → x ≤ 0 → 0 ≡ x
      zero_is x l = omega (arith, l)
  old_has (suc n) x l = by (m (suc n)) refl (eqb (suc (kept_to m n)) x) refl (λ q. old_has n x q)
    where
      more : (old : ℕ) → Has n x old → Has (suc n) x old
      more old h = (h.0, omega (arith, h.1), h.2)

      by : (c : Bool) → m (suc n) ≡ c → (e : Bool) → eqb (suc (kept_to m n)) x ≡ e → (x ≤ kept_to m n → Has n x (old_to n x))
          → Has (suc n) x (elim c as (λ d. ℕ) [ true ↦ elim e as (λ d. ℕ) [ true ↦ suc n | false ↦ old_to n x ] | false ↦ old_to n x ])
      by true q true e rec = (is_kept_lem n q, omega arith, new_kept m n q ∙ eqb-true (suc (kept_to m n)) x e)
      by true q false e rec = more (old_to n x) (rec (omega (arith, l, kept_yes m n q, eqb-false (suc (kept_to m n)) x e)))
      by false q e r rec = more (old_to n x) (rec (omega (arith, l, kept_no m n q)))

-- the type with a new number
module _ (m : ℕ → Bool) (o : ℕ → ℕ) (ts : List Described) where
  abbrev pub nts : List Described
  nts = renamed_all (new_id m) o (kept_types m 1 ts)

  pub type_new : (i : ℕ) → m (suc i) ≡ true → i < length ts → get_or nts (kept_to m i) void_type ≡ renamed (new_id m) o (get_or ts i void_type)
  type_new i e l =
      renamed_at (new_id m) o (kept_to m i) (kept_types m 1 ts) void_type void_type (omega (arith, new_below m ts (suc i) (is_kept_lem i e) (omega (arith, l)), new_kept m i e))
      ∙ ap (renamed (new_id m) o) (type_at m i ts void_type l e)

  pub followed_new : (x : ℕ) → Stays m x → x ≤ length ts → followed_ids (type_of nts (new_id m x)) ≡ map (new_id m) (followed_ids (type_of ts x))
  followed_new _ is_void l = ap (λ (x : ℕ). followed_ids (type_of nts x)) (new_zero m)
  followed_new _ (is_kept_lem i e) l =
      ap (λ (x : ℕ). followed_ids (type_of nts x)) (new_kept m i e)
      ∙ ap followed_ids (type_new i e (omega (arith, l)))
      ∙ followed_map (new_id m) o (get_or ts i void_type)
