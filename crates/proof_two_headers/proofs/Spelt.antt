-- What a line says with any way of keeping names it says with the numbers that these got, taken from a list. Assumes nothing.
use Prim.Native.Nat.{ℕ}
use mathlib.Core.Path.{◌≡◌, refl, ap, ◌∙◌}
use mathlib.Core.List.{List, [], ◌∷◌, ◌++◌, append_assoc}
use Rattle.spec_bytes.specs.text.Text.{whole, cut, join}
use Rattle.spec_c_dumper.specs.rules.Writer.{Said, said, said_text, Writer, held_by, after, next, ◌⨾◌, put, stop}
use Rattle.spec_c_dumper.specs.rules.Types.{Btf}
use Rattle.spec_c_dumper.specs.rules.Names.{Resolved, Naming, resolving}
use Rattle.spec_c_dumper.specs.rules.Emit.{definition, forward}
use Rattle.spec_c_dumper.proofs.rules.Held.{resolved}
use Rattle.spec_c_dumper.proofs.rules.Closed.{Closed, r_definition, r_forward}
use Rattle.spec_c_dumper.proofs.rules.Keeps.{any_name, any_value, type_fits}
use Rattle.proof_two_headers.specs.Lines.{next_number, by_list, Written}

-- w prints a whole with the numbers l, and leaves the others
pub record Leaves (w : Writer (List ℕ)) (l : List ℕ) (a : List ℕ) (others : List ℕ) : Type 0 where
  pub held : List (List ℕ)
  pub is : w (l ++ others) ≡ said others (whole a) held

then_leaves : (v w : Writer (List ℕ)) (l m a b others : List ℕ) → Leaves v l a (m ++ others) → Leaves w m b others → Leaves (v ⨾ w) (l ++ m) (a ++ b) others
unfolding ◌⨾◌ next after join
then_leaves v w l m a b others p q = record {
  held = p.held ++ q.held;
  is = ap (λ (x : List ℕ). next (v x) w) (append_assoc l m others) ∙ ap (λ (s : Said (List ℕ)). next s w) p.is ∙ ap (λ (s : Said (List ℕ)). after a p.held s) q.is;
}

module _ {U : Type 0} where
  pub data Spelt (w : Writer (List ℕ)) : Said U → Type 0 where
    spelt_whole : (u : U) (a : List ℕ) (k : List U) (l : List ℕ) → ((others : List ℕ) → Leaves w l a others) → Spelt w (said u (whole a) k)
    spelt_cut : (u : U) (a : List ℕ) (c : ℕ) (k : List U) → Spelt w (said u (cut a c) k)

  abbrev S : Writer U → Writer (List ℕ) → Type 0
  S v w = (u : U) → Spelt w (v u)

  spelt_after : (v w : Writer (List ℕ)) (a : List ℕ) (k : List U) (l : List ℕ) → ((others : List ℕ) → Leaves v l a others) → {s : Said U} → Spelt w s → Spelt (v ⨾ w) (after a k s)
  unfolding after join
  spelt_after v w a k l h (spelt_whole u b m n g) = spelt_whole u (a ++ b) (k ++ m) (l ++ n) (λ others. then_leaves v w l n a b others (h (n ++ others)) (g others))
  spelt_after v w a k l h (spelt_cut u b c m) = spelt_cut u (a ++ b) c (k ++ m)

  spelt_next : (v₁ : Writer U) (v w : Writer (List ℕ)) {s : Said U} → Spelt v s → S v₁ w → Spelt (v ⨾ w) (next s v₁)
  unfolding next
  spelt_next v₁ v w (spelt_whole u a k l h) g = spelt_after v w a k l h (g u)
  spelt_next v₁ v w (spelt_cut u a c k) g = spelt_cut u a c k

  spelt_put : (a : List ℕ) → S (put a) (put a)
  unfolding put
  spelt_put a u = spelt_whole u a (held_by u a) [] (λ others. record { held = held_by others a; is = refl })

  spelt_stop : (c : ℕ) (w : Writer (List ℕ)) (u : U) → Spelt w (stop c u)
  unfolding stop
  spelt_stop c w u = spelt_cut u [] c []

  spelt_then : (v₁ w₁ : Writer U) (v₂ w₂ : Writer (List ℕ)) → S v₁ v₂ → S w₁ w₂ → S (v₁ ⨾ w₁) (v₂ ⨾ w₂)
  unfolding ◌⨾◌
  spelt_then v₁ w₁ v₂ w₂ hv hw u = spelt_next w₁ v₂ w₂ (hv u) hw

  -- one number more
  spelt_number : (n : ℕ) (k : ℕ → Writer (List ℕ)) {s : Said U} → Spelt (k n) s → Spelt (resolving next_number k) s
  unfolding resolving next_number
  spelt_number n k (spelt_whole u a m l h) = spelt_whole u a m (n ∷ l) (λ others. record { held = (h others).held; is = (h others).is })
  spelt_number n k (spelt_cut u a c m) = spelt_cut u a c m

  spelt_resolving : (f : U → Resolved U) (k₁ : ℕ → Writer U) (k₂ : ℕ → Writer (List ℕ)) → ((n : ℕ) → S (k₁ n) (k₂ n)) → S (resolving f k₁) (resolving next_number k₂)
  spelt_resolving f k₁ k₂ h u =
      resolved (Spelt (resolving next_number k₂)) f k₁ u (λ e. spelt_stop 20 (resolving next_number k₂) u) (λ e. spelt_number (f u).version k₂ (h (f u).version (f u).names))

  module _ (N : Naming U) where
    spelt_closed : Closed N by_list any_name any_value S
    spelt_closed = record {
      c_put = spelt_put;
      c_stop = λ c q u. spelt_stop c (stop c) u;
      c_then = spelt_then;
      c_type = λ space id name fit e k₁ k₂ h. spelt_resolving (N.type_version space id name) k₁ k₂ h;
      c_value = λ id i name fit k₁ k₂ h. spelt_resolving (N.value_version id i name) k₁ k₂ h;
    }

    module _ (B : Btf) (x : ℕ) where
      pub spelt_definition : S (definition N B x (B.type_by_id x)) (definition by_list B x (B.type_by_id x))
      spelt_definition = r_definition N by_list any_name any_value S spelt_closed B (λ y. type_fits y (B.type_by_id y)) x (B.type_by_id x) (type_fits x (B.type_by_id x))

      pub spelt_forward : S (forward N B x (B.type_by_id x)) (forward by_list B x (B.type_by_id x))
      spelt_forward = r_forward N by_list any_name any_value S spelt_closed B (λ y. type_fits y (B.type_by_id y)) x (B.type_by_id x) (type_fits x (B.type_by_id x))

pub written : (w : Writer (List ℕ)) (a : List ℕ) (l : List ℕ) → ((others : List ℕ) → Leaves w l a others) → Written w a
unfolding said_text
written w a l h = record { numbers = l ++ []; is = ap said_text (h []).is }
