-- What is written with a name that was resolved, in terms of the rules. Assumes nothing.
use Prim.Native.Nat.{ℕ, ◌+◌, ◌<◌, ◌≤◌}
use mathlib.Core.Path.{◌≡◌, refl, ap, ap₂, ◌∙◌, sym}
use mathlib.Core.List.{List}
use mathlib.Core.Bool.{Bool, true, false}
use borrow.Author.Tests.{lt-ltb, le-ltb, ne_eqb}
use Rattle.spec_bytes.specs.text.Text.{bytes}
use Rattle.spec_bytes.specs.text.Placed.{Placed}
use Rattle.spec_c_dumper.specs.rules.Types.{is_empty}
use Rattle.spec_c_dumper.specs.rules.Writer.{Said, said_text, said_names, Writer, put}
use Rattle.spec_c_dumper.specs.rules.Place.{out_of, put_said}
use Rattle.spec_c_dumper.proofs.rules.Writing.{said_moved}
use Rattle.spec_c_dumper.proofs.rules.Held.{resolved_within}
use Rattle.spec_c_dumper.specs.rules.Names.{Space, Resolved, spelled, resolve_type_name, resolve_name}
use Rattle.spec_type_table.specs.declared.types.TypeTable.{TypeTable}
use Rattle.spec_type_table.specs.Cells.{get_field, put_field, class_p, count_p, count_raised}
use Rattle.spec_type_table.specs.Numbers.{number_at}
use Rattle.spec_type_table.specs.Names.{str_at}
use Rattle.spec_type_table.specs.Table.{work_naming, type_version_in, value_version_in, enumerator_of}
use Rattle.spec_type_table.proofs.Frame.{type_within, value_within}
use Rattle.c_dumper_name_versions.specs.declared.names.versions.Name.{Name}
use Rattle.c_dumper_name_versions.specs.names.Spelling.{name_text}
use Rattle.std.specs.Prelude.{None, unwrap_or}

put_name_of : (a a' w w' : List ℕ) → put a w ≡ put a' w' → a ≡ a'
unfolding put said_text bytes
put_name_of a a' w w' e = ap (λ (x : Said (List ℕ)). bytes (said_text x)) e

put_work_of : (a a' w w' : List ℕ) → put a w ≡ put a' w' → w ≡ w'
unfolding put said_names
put_work_of a a' w w' e = ap (λ (x : Said (List ℕ)). said_names x) e

module _ (b : TypeTable) (space : Space) (id : ℕ) (name w : List ℕ) where
  no_name : (k : List ℕ → Writer (List ℕ)) → is_empty name ≡ true → resolve_type_name (work_naming b) space id name k w ≡ k name w
  unfolding resolve_type_name
  no_name k e = rw (e, resolve_type_name)

  some_name : (k : List ℕ → Writer (List ℕ)) → is_empty name ≡ false
      → resolve_type_name (work_naming b) space id name k w ≡ k (spelled name (type_version_in b.types id w).version) (type_version_in b.types id w).names
  unfolding resolve_type_name work_naming
  some_name k e = rw (e, resolve_type_name) (sym (resolved_within (type_version_in b.types id) (λ v. k (spelled name v)) w (type_within b.types id w)))

module _ (types id : ℕ) (w : List ℕ) where
  version_held : (v : ℕ) → (v ≡ 0 → ⊥) → v ≡ get_field w id 4 → ◌≡◌ {A = Resolved (List ℕ)} (record { passes = false; version = v; names = w }) (type_version_in types id w)
  unfolding type_version_in
  version_held v n e = rw (ne_eqb (get_field w id 4) 0 (λ z. n (e ∙ z)), type_version_in) (λ i. record { passes = false; version = e i; names = w })

  version_more : (n : ℕ) (w₁ w₂ : List ℕ) → get_field w id 4 ≡ 0
      → n ≡ number_at types w id → w₁ ≡ count_raised (class_p types) (count_p types) w id → w₂ ≡ put_field w₁ id 4 n
      → ◌≡◌ {A = Resolved (List ℕ)} (record { passes = false; version = n; names = w₂ }) (type_version_in types id w)
  unfolding type_version_in
  version_more n w₁ w₂ z en e₁ e₂ =
      rw (z, type_version_in) (λ i. record { passes = false; version = en i; names = (e₂ ∙ ap₂ (λ (x : List ℕ) (y : ℕ). put_field x id 4 y) e₁ en) i })

-- ---- resolve_type_name's own returns
module _ (b : TypeTable) (space : Space) (id : ℕ) (name w : List ℕ) where
  -- a name that is empty
  pub type_empty : (x : List ℕ) → is_empty name ≡ true → x ≡ name → put x w ≡ resolve_type_name (work_naming b) space id name put w
  type_empty x h e = ap (λ (y : List ℕ). put y w) e ∙ sym (no_name b space id name w put h)

  -- a type that has a version
  pub type_held : (v : ℕ) (x : List ℕ) → is_empty name ≡ false → (v ≡ 0 → ⊥) → v ≡ get_field w id 4 → x ≡ spelled name v → put x w ≡ resolve_type_name (work_naming b) space id name put w
  type_held v x h n e ex =
      ap (λ (y : List ℕ). put y w) ex
      ∙ ap (λ (y : Resolved (List ℕ)). put (spelled name y.version) y.names) (version_held b.types id w v n e) ∙ sym (some_name b space id name w put h)

  -- one more holder
  pub type_counted : (v n : ℕ) (x w₁ w₂ : List ℕ) → is_empty name ≡ false → v ≡ 0 → v ≡ get_field w id 4
      → n ≡ number_at b.types w id → w₁ ≡ count_raised (class_p b.types) (count_p b.types) w id → w₂ ≡ put_field w₁ id 4 n → x ≡ spelled name n
      → put x w₂ ≡ resolve_type_name (work_naming b) space id name put w
  type_counted v n x w₁ w₂ h z e en e₁ e₂ ex =
      ap (λ (y : List ℕ). put y w₂) ex
      ∙ ap (λ (y : Resolved (List ℕ)). put (spelled name y.version) y.names) (version_more b.types id w n w₁ w₂ (sym e ∙ z) en e₁ e₂)
      ∙ sym (some_name b space id name w put h)

-- ---- resolve_name's
module _ (types e : ℕ) (w : List ℕ) where
  pub value_counted : (n : ℕ) (w₁ : List ℕ) → types + e < 4294967296
      → (n ≡ number_at types w (types + e)) × (w₁ ≡ count_raised (class_p types) (count_p types) w (types + e))
      → (n ≡ (value_version_in types e w).version) × (w₁ ≡ (value_version_in types e w).names)
  unfolding value_version_in
  value_counted n w₁ h q = rw (lt-ltb (types + e) 4294967296 h, value_version_in) q

  no_version : 4294967296 ≤ types + e → ◌≡◌ {A = Resolved (List ℕ)} (record { passes = false; version = 0; names = w }) (value_version_in types e w)
  unfolding value_version_in
  no_version h = rw (le-ltb (types + e) 4294967296 h, value_version_in)

  pub value_past : (off : ℕ) (n : Name) → n ≡ record { off = off; number = None } → 4294967296 ≤ types + e
      → (n.off ≡ off) × (unwrap_or n.number 0 ≡ (value_version_in types e w).version) × (w ≡ (value_version_in types e w).names)
  value_past off n en h = (
    ap (λ (x : Name). x.off) en,
    ap (λ (x : Name). unwrap_or x.number 0) en ∙ ap (λ (x : Resolved (List ℕ)). x.version) (no_version h),
    ap (λ (x : Resolved (List ℕ)). x.names) (no_version h),
  )

-- ---- the laws of use

-- whatever is written with a resolved name: for both spaces of names, which the work does not tell apart
pub resolved_type : (b : TypeTable) (space₀ space : Space) (id : ℕ) (name n w w' : List ℕ) (k : List ℕ → Writer (List ℕ))
    → put n w' ≡ resolve_type_name (work_naming b) space₀ id name put w → k n w' ≡ resolve_type_name (work_naming b) space id name k w
resolved_type b space₀ space id name n w w' k e = go (is_empty name) refl
  where
    go : (x : Bool) → is_empty name ≡ x → k n w' ≡ resolve_type_name (work_naming b) space id name k w
    go true h =
        let q = e ∙ no_name b space₀ id name w put h in
        ap₂ (λ (x y : List ℕ). k x y) (put_name_of _ _ _ _ q) (put_work_of _ _ _ _ q) ∙ sym (no_name b space id name w k h)
    go false h =
        let q = e ∙ some_name b space₀ id name w put h in
        ap₂ (λ (x y : List ℕ). k x y) (put_name_of _ _ _ _ q) (put_work_of _ _ _ _ q) ∙ sym (some_name b space id name w k h)

-- after resolve_type_name
pub put_type_name : (b : TypeTable) (space₀ space : Space) (id : ℕ) (name n w w' : List ℕ) (k : List ℕ → Writer (List ℕ)) (t : List ℕ) (at r : Placed) (t'' w'' : List ℕ)
    → put n w' ≡ resolve_type_name (work_naming b) space₀ id name put w → out_of r t'' w'' ≡ put_said t at (k n) w'
    → out_of r t'' w'' ≡ put_said t at (resolve_type_name (work_naming b) space id name k) w
put_type_name b space₀ space id name n w w' k t at r t'' w'' e o = o ∙ said_moved _ t at _ _ _ _ refl (resolved_type b space₀ space id name n w w' k e)

-- after resolve_name, of enumerator e, which is value i of enum id
pub resolved_value : (b : TypeTable) (s : List ℕ) (id i e off : ℕ) (n : Name) (w w' : List ℕ) (k : List ℕ → Writer (List ℕ))
    → e ≡ enumerator_of w id i
    → (n.off ≡ off) × (unwrap_or n.number 0 ≡ (value_version_in b.types e w).version) × (w' ≡ (value_version_in b.types e w).names)
    → k (name_text b s n) w' ≡ resolve_name (work_naming b) id i (str_at b s off) k w
unfolding resolve_name work_naming
resolved_value b s id i e off n w w' k ee q =
    ap₂ (λ (x y : ℕ). k (spelled (str_at b s x) y) w') q.0 q.1
    ∙ ap (λ (x : List ℕ). k (spelled (str_at b s off) (value_version_in b.types e w).version) x) q.2
    ∙ ap (λ (x : ℕ). k (spelled (str_at b s off) (value_version_in b.types x w).version) (value_version_in b.types x w).names) ee
    ∙ resolved_within (λ u. value_version_in b.types (enumerator_of u id i) u) (λ v. k (spelled (str_at b s off) v)) w (value_within b.types (enumerator_of w id i) w)

pub put_value_name : (b : TypeTable) (s : List ℕ) (id i e off : ℕ) (n : Name) (w w' : List ℕ) (k : List ℕ → Writer (List ℕ)) (t : List ℕ) (at r : Placed) (t'' w'' : List ℕ)
    → e ≡ enumerator_of w id i
    → (n.off ≡ off) × (unwrap_or n.number 0 ≡ (value_version_in b.types e w).version) × (w' ≡ (value_version_in b.types e w).names)
    → out_of r t'' w'' ≡ put_said t at (k (name_text b s n)) w'
    → out_of r t'' w'' ≡ put_said t at (resolve_name (work_naming b) id i (str_at b s off) k) w
put_value_name b s id i e off n w w' k t at r t'' w'' ee q o = o ∙ said_moved _ t at _ _ _ _ refl (resolved_value b s id i e off n w w' k ee q)
