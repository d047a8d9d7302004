-- For each byte of what a writer says it has the names that were held when the print of that byte began: as many names as bytes; and what holds of each.
-- Assumes nothing.
use Prim.Native.Nat.{ℕ, zero, suc, ◌+◌}
use mathlib.Core.Path.{◌≡◌, refl, ap, ap₂, ◌∙◌, sym, subst}
use mathlib.Core.Bool.{Bool, true, false}
use mathlib.Core.List.{List, [], ◌∷◌, ◌++◌}
use lib.ListN.{length, get_or, length-append}
use Rattle.std.proofs.lemmas.List.{length-map}
use Rattle.spec_bytes.specs.text.Text.{whole, cut, bytes}
use Rattle.spec_bytes.proofs.text.TextLaws.{bytes_join}
use Rattle.spec_c_dumper.specs.rules.Writer.{reserve_passed, Said, said, said_text, said_held, Writer, held_by, after, next, put, stop, ◌⨾◌}
use Rattle.spec_c_dumper.specs.rules.Types.{Name, is_empty}
use Rattle.spec_c_dumper.specs.rules.Names.{Space, Resolved, Naming, spelled, resolving, resolve_type_name, resolve_name}

-- what holds of each of the names
pub data Each {U : Type 0} (Q : U → Type 0) : List U → Type 0 where
  of_none : Each Q []
  of_one : (u : U) (k : List U) → Q u → Each Q k → Each Q (u ∷ k)

module _ {U : Type 0} (Q : U → Type 0) where
  pub each_append : {k m : List U} → Each Q k → Each Q m → Each Q (k ++ m)
  each_append of_none h = h
  each_append (of_one u k q g) h = of_one u _ q (each_append g h)

  pub each_held_by : (u : U) → Q u → (a : List ℕ) → Each Q (held_by u a)
  each_held_by u q [] = of_none
  each_held_by u q (b ∷ a) = of_one u _ q (each_held_by u q a)

  -- at any place; past the end there is the default
  pub each_at : {k : List U} → Each Q k → (i : ℕ) (u : U) → Q u → Q (get_or k i u)
  each_at of_none i u q = q
  each_at (of_one w k p h) zero u q = p
  each_at (of_one w k p h) (suc i) u q = each_at h i u q

module _ {U : Type 0} where
  -- what is written with a name: the refusal where it passes, else what k says
  pub resolved_over : (f : U → Resolved U) (k : ℕ → Writer U) (u : U) → (f u).passes ≡ true → stop reserve_passed u ≡ resolving f k u
  unfolding resolving
  resolved_over f k u e = rw (e, resolving) refl

  pub resolved_within : (f : U → Resolved U) (k : ℕ → Writer U) (u : U) → (f u).passes ≡ false → k (f u).version (f u).names ≡ resolving f k u
  unfolding resolving
  resolved_within f k u e = rw (e, resolving) refl

  pub resolved : (D : Said U → Type 0) (f : U → Resolved U) (k : ℕ → Writer U) (u : U) → ((f u).passes ≡ true → D (stop reserve_passed u))
      → ((f u).passes ≡ false → D (k (f u).version (f u).names)) → D (resolving f k u)
  resolved D f k u over within = go (f u).passes refl
    where
      go : (b : Bool) → (f u).passes ≡ b → D (resolving f k u)
      go true e = subst D (resolved_over f k u e) (over e)
      go false e = subst D (resolved_within f k u e) (within e)

  abbrev pub EachHas : Said U → Type 0
  EachHas s = length (said_held s) ≡ length (bytes (said_text s))

  abbrev pub Holds : Writer U → Type 0
  Holds w = (u : U) → EachHas (w u)

  pub held_after : (a : List ℕ) (k : List U) (s : Said U) → length k ≡ length a → EachHas s → EachHas (after a k s)
  unfolding after said_held said_text
  held_after a k (said u t m) e h =
      length-append k m ∙ ap₂ (λ (x y : ℕ). x + y) e h ∙ sym (length-append a (bytes t)) ∙ ap length (sym (bytes_join a t))

  pub held_next : (s : Said U) (w : Writer U) → EachHas s → Holds w → EachHas (next s w)
  unfolding next said_held said_text bytes
  held_next (said u (whole a) k) w h hw = held_after a k (w u) h (hw u)
  held_next (said u (cut a c) k) w h hw = h

  pub held_put : (a : List ℕ) → Holds (put a)
  unfolding put said_held said_text bytes
  held_put a u = length-map a (λ b. u)

  pub held_stop : (c : ℕ) → Holds (stop c)
  unfolding stop said_held said_text bytes
  held_stop c u = refl

  pub held_then : (v w : Writer U) → Holds v → Holds w → Holds (v ⨾ w)
  unfolding ◌⨾◌
  held_then v w hv hw u = held_next (v u) w (hv u) hw

  pub held_resolving : (f : U → Resolved U) (k : ℕ → Writer U) → ((n : ℕ) → Holds (k n)) → Holds (resolving f k)
  held_resolving f k h u = resolved EachHas f k u (λ e. held_stop reserve_passed u) (λ e. h (f u).version (f u).names)

  held_if : (b : Bool) (v w : Writer U) → Holds v → Holds w → Holds (elim b [ true ↦ v | false ↦ w ])
  held_if true v w h k = h
  held_if false v w h k = k

  pub held_type_name : (N : Naming U) (space : Space) (id : ℕ) (name : Name) (k : Name → Writer U) → ((n : Name) → Holds (k n)) → Holds (resolve_type_name N space id name k)
  unfolding resolve_type_name
  held_type_name N space id name k h = held_if (is_empty name) _ _ (h name) (held_resolving (N.type_version space id name) _ (λ v. h (spelled name v)))

  pub held_value_name : (N : Naming U) (id i : ℕ) (name : Name) (k : Name → Writer U) → ((n : Name) → Holds (k n)) → Holds (resolve_name N id i name k)
  unfolding resolve_name
  held_value_name N id i name k h = held_resolving (N.value_version id i name) _ (λ v. h (spelled name v))
