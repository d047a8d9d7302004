-- Chains by two numbers are the chains of `emit_type_decl`; more turns than entries change nothing.
use Prim.Native.Nat.{ℕ, zero, suc, zero-le, ◌≤◌}
use mathlib.Core.Path.{◌≡◌, refl, ap, ap₂, ◌∙◌, sym}
use mathlib.Core.Bool.{Bool, true, false}
use mathlib.Core.List.{List, [], ◌∷◌}
use native.Mathlib.Omega.{arith}
use lib.ListN.{length}
use Rattle.spec_c_dumper.specs.rules.Writer.{Ask, got, ask_then, Writer, ◌⨾◌}
use Rattle.spec_c_dumper.specs.rules.Types.{Name, Member, Btf}
use Rattle.spec_c_dumper.specs.rules.Names.{Naming}
use Rattle.spec_c_dumper.specs.rules.Decl.{Entry, base, star, qual, array, proto, tag, Link, ends, leads, link_of, chain_on, chain_of, no_mods, chain_loop}
use Rattle.spec_c_dumper.specs.rules.Chain.{entry_by, target_by, path_at, entry_at, chain_to, count_on, chain_count, kept_by, kept_to}

module _ (B : Btf) (start : ℕ) where
  abbrev by_count : ℕ → Ask (List Entry)
  by_count n = got (chain_to B start n)

  chain_step : (most k : ℕ) (l : Link) → link_of (B.type_by_id (path_at B start k)) ≡ l
      → chain_of most B (path_at B start (suc k)) (chain_to B start (suc k)) ≡ ask_then (chain_count most B (path_at B start (suc k)) (suc k)) by_count
      → chain_on (chain_of most B) (path_at B start k) (chain_to B start k) l ≡ ask_then (count_on (chain_count most B) k l) by_count
  unfolding chain_on count_on ask_then path_at chain_to
  chain_step most k ends e ih = ap (λ (x : Entry). got (x ∷ chain_to B start k)) (sym (ap (entry_by (path_at B start k)) e))
  chain_step most k (leads en t) e ih =
      ap₂ (λ (x : ℕ) (y : Entry). chain_of most B x (y ∷ chain_to B start k)) (sym (ap (target_by (path_at B start k)) e)) (sym (ap (entry_by (path_at B start k)) e))
      ∙ ih
      ∙ ap (λ (x : ℕ). ask_then (chain_count most B x (suc k)) by_count) (ap (target_by (path_at B start k)) e)

  chain_from : (most k : ℕ) → chain_of most B (path_at B start k) (chain_to B start k) ≡ ask_then (chain_count most B (path_at B start k) k) by_count
  unfolding chain_of chain_count ask_then
  chain_from zero k = refl
  chain_from (suc most) k = chain_step most k (link_of (B.type_by_id (path_at B start k))) refl (chain_from most (suc k))

  -- the chain that emit_type_decl makes
  pub chain_by_count : (most : ℕ) → chain_of most B start [] ≡ ask_then (chain_count most B start 0) by_count
  unfolding path_at chain_to
  chain_by_count most = chain_from most 0

  -- what emit_mods, and an array, leave
  no_mods_step : (n : ℕ) (e : Entry) → entry_at B start n ≡ e → no_mods (chain_to B start n) ≡ chain_to B start (kept_to B start n)
      → no_mods (e ∷ chain_to B start n) ≡ chain_to B start (kept_by e (kept_to B start n) (suc n))
  unfolding no_mods chain_to
  no_mods_step n (base x) q ih = ap (λ (y : Entry). y ∷ chain_to B start n) (sym q)
  no_mods_step n star q ih = ap (λ (y : Entry). y ∷ chain_to B start n) (sym q)
  no_mods_step n (qual x) q ih = ih
  no_mods_step n (array x) q ih = ap (λ (y : Entry). y ∷ chain_to B start n) (sym q)
  no_mods_step n (proto x) q ih = ap (λ (y : Entry). y ∷ chain_to B start n) (sym q)
  no_mods_step n (tag x y) q ih = ap (λ (z : Entry). z ∷ chain_to B start n) (sym q)

  pub no_mods_to : (n : ℕ) → no_mods (chain_to B start n) ≡ chain_to B start (kept_to B start n)
  unfolding no_mods chain_to kept_to
  no_mods_to zero = refl
  no_mods_to (suc n) = no_mods_step n (entry_at B start n) refl (no_mods_to n)

pub no_mods_length : (c : List Entry) → length (no_mods c) ≤ length c
unfolding no_mods
no_mods_length [] = zero-le
no_mods_length (base x ∷ c) = omega arith
no_mods_length (star ∷ c) = omega arith
no_mods_length (qual q ∷ c) = let h : length (no_mods c) ≤ length c = no_mods_length c in omega arith
no_mods_length (array n ∷ c) = omega arith
no_mods_length (proto ps ∷ c) = omega arith
no_mods_length (tag a n ∷ c) = omega arith

-- the loop of emit_type_chain ends by itself: any number of turns that is no less than the entries gives the same
module _ {U : Type 0} (N : Naming U) (B : Btf) (decl : ℕ → Name → ℕ → Writer U) (chain : List Entry → Name → ℕ → Writer U) (def : ℕ → Bool → Name → ℕ → List Member → ℕ → Writer U) (fname : Name) (lvl : ℕ) where
  pub loop_enough : (f g : ℕ) (p : Bool) (c : List Entry) → length c ≤ f → length c ≤ g → chain_loop N B decl chain def fname lvl f p c ≡ chain_loop N B decl chain def fname lvl g p c
  unfolding chain_loop
  loop_enough zero zero p c h k = refl
  loop_enough zero (suc g) p [] h k = refl
  loop_enough zero (suc g) p (e ∷ c) h k = absurd (omega arith)
  loop_enough (suc f) zero p [] h k = refl
  loop_enough (suc f) zero p (e ∷ c) h k = absurd (omega arith)
  loop_enough (suc f) (suc g) p [] h k = refl
  loop_enough (suc f) (suc g) p (base id ∷ c) h k =
      let l : length (no_mods c) ≤ length c = no_mods_length c in
      ap (◌⨾◌ _) (ap (◌⨾◌ _) (loop_enough f g false (no_mods c) (omega arith) (omega arith)))
  loop_enough (suc f) (suc g) p (star ∷ c) h k = ap (◌⨾◌ _) (loop_enough f g true c (omega arith) (omega arith))
  loop_enough (suc f) (suc g) p (qual q ∷ c) h k = ap (◌⨾◌ _) (loop_enough f g false c (omega arith) (omega arith))
  loop_enough (suc f) (suc g) p (array n ∷ c) h k = refl
  loop_enough (suc f) (suc g) p (proto ps ∷ c) h k = refl
  loop_enough (suc f) (suc g) p (tag a n ∷ c) h k =
      let l : length (no_mods c) ≤ length c = no_mods_length c in
      ap (◌⨾◌ _) (ap (◌⨾◌ _) (loop_enough f g false (no_mods c) (omega arith) (omega arith)))
